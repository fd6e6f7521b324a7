use Rattle.std.proofs.Common.{◌≡◌, ℕ, false, length, take, get_or, eqb}
use Rattle.std.specs.Prelude.{if◌then◌else◌}
use Rattle.std.specs.List.{list_any}
use Rattle.ws_board.proofs.index.mark_free.Given as goal

abbrev pub invariant-loop-job : goal.invariant-loop-job
invariant-loop-job l = record {
  count : length l.free ≡ length l.fn.free;
  each : (k : ℕ) → get_or l.free k false ≡ (if list_any (λ j. eqb j k) (take l.job-index l.jobs) then l.may else get_or l.fn.free k false);
}
