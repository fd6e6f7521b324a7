use Rattle.std.proofs.Common.{◌∙◌}
use Rattle.go_code.specs.declared.image.Start.TheVariants.{Setup}
use Rattle.go_vm.proofs.Coming.{comes_through, setup_opens}
use Rattle.go_vm.proofs.run.run_setup.Goals as goal

pub returns : goal.returns
returns c =
    comes_through c.args.image.now (Setup c.args.setup.now) c.in_ok-frames.frames c.args.world.now c.args.world.now c.finish.new.world c.finish.result
    (λ starts. setup_opens c.args.image.now c.args.setup.now c.in_ok-code.code c.cells-2.result c.in_ok-frames.frames c.args.world.now starts (c.in_ok-code.ensures ∙ c.code.ensures) c.cells-2.ensures c.in_ok-frames.ensures)
    c.finish.ensures
