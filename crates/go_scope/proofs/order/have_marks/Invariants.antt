use Rattle.std.proofs.Common.{◌≡◌, ℕ, ◌<◌, true, Some}
use Rattle.std.specs.List.{slice_get}
use Rattle.ws_reach.specs.Worklist.{is_marked}
use Rattle.go_scope.proofs.order.have_marks.Given as goal

abbrev pub invariant-loop-need : goal.invariant-loop-need
invariant-loop-need l = (k j : ℕ) → k < l.need-index → slice_get l.needs k ≡ Some j → is_marked l.marks j ≡ true
