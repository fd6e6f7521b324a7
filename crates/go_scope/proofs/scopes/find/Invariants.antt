use Rattle.std.proofs.Common.{◌≡◌, None, drop}
use Rattle.go_scope.proofs.Lookups.{look_in}
use Rattle.go_scope.proofs.scopes.find.Given as goal

abbrev pub invariant-loop-i : goal.invariant-loop-i
invariant-loop-i g l = look_in (drop l.i l.blocks) l.name ≡ None
