use Rattle.std.proofs.Common.{drop}
use Rattle.go_code.specs.Finals.{Final}
use Rattle.go_code.specs.Machine.{Leads}
use Rattle.go_vm.specs.Flows.{between}
use Rattle.go_vm.proofs.run.run_starts.Given as goal

-- what the start steps still to come lead to is what all of them lead to
abbrev pub invariant-loop-start : goal.invariant-loop-start
invariant-loop-start l = (final : Final) → Leads l.image (between (drop l.start-index l.starts) l.world) final → Leads l.image (between l.starts l.fn.world) final
