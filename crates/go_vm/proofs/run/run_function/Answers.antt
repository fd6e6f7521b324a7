use Rattle.std.proofs.Common.{ap, ◌∙◌}
use Rattle.go_code.specs.declared.image.Start.TheVariants.{Function as Run}
use Rattle.go_vm.specs.Flows.{next_after_start}
use Rattle.go_vm.proofs.Coming.{comes_through}
use Rattle.go_vm.proofs.run.run_function.Goals as goal

pub returns-in-Open : goal.returns-in-Open
returns-in-Open c =
    comes_through c.args.image.now (Run c.args.number) c.in-Open.frames c.args.world.now c.begin_function.new.world c.finish.new.world c.finish.result
    (λ starts. c.in_ok-frames.ensures starts ∙ ap (λ begun. next_after_start begun starts c.begin_function.new.world) c.in-Open.is)
    c.finish.ensures
