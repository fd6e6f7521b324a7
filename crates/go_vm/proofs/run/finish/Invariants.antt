use Rattle.std.proofs.Common.{List, []}
use Rattle.go_code.specs.declared.image.Start.{Start}
use Rattle.go_code.specs.Finals.{Final}
use Rattle.go_code.specs.Machine.{Leads}
use Rattle.go_code.proofs.Ends.{steps_left}
use Rattle.go_vm.specs.Flows.{state_of}
use Rattle.go_vm.proofs.run.finish.Given as goal

-- what these frames lead to, the frames at the entry lead to
abbrev pub invariant-loop-pace : goal.invariant-loop-pace
invariant-loop-pace l = (starts : List Start) (final : Final) → Leads l.image (state_of l.frames starts l.world) final → Leads l.image (state_of l.fn.frames starts l.fn.world) final

abbrev pub decreases-loop-pace : goal.decreases-loop-pace
decreases-loop-pace l = steps_left l.image (state_of l.frames [] l.world)
