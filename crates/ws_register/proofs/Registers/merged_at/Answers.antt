use Rattle.std.proofs.Common.{take, sym, subst}
use Rattle.ws_register.specs.Edits.{Contents}
use Rattle.ws_register.proofs.TakenAt.{AreTakenAt, none_taken, more_taken, all_taken}
use Rattle.ws_register.proofs.Registers.merged_at.Goals as goal

pub loop-path-init : goal.loop-path-init
loop-path-init c =
    subst (λ (m : Contents). AreTakenAt c.args.other.now (take 0 c.args.paths.now) c.args.self.now m) (sym c.in_ok-both.ensures) (none_taken c.args.other.now c.args.paths.now c.args.self.now)

pub loop-path-preserved : goal.loop-path-preserved
loop-path-preserved c =
    more_taken c.args.other.now c.args.paths.now c.loop-path.path-index c.path-item.result c.args.self.now c.loop-path.both c.take_at.new.self c.loop-path-test.true c.path-item.is c.loop-path.invariant c.in_ok-take_at.ensures

pub returns : goal.returns
returns c = all_taken c.args.other.now c.args.paths.now c.loop-path.path-index c.args.self.now c.loop-path.both c.loop-path-test.false c.loop-path.invariant
