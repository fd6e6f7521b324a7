use Rattle.std.proofs.Common.{◌∷◌, Some, ap, sym, ◌∙◌}
use Rattle.std.proofs.lemmas.Result.{IfOk-weaker}
use Rattle.go_code.specs.Machine.{act, past}
use Rattle.go_vm.specs.Open.{Open, with_newest}
use Rattle.go_vm.specs.Flows.{state_of}
use Rattle.go_vm.proofs.Handed.{act_frames}
use Rattle.go_vm.proofs.machine.one_step.Goals as goal

pub returns : goal.returns
returns c =
    let image = c.args.image.now in
    let old = c.args.frames.now in
    let w = c.args.world.now in
    let new = with_newest old (past old.newest) in
    IfOk-weaker c.perform.result _ _
    (λ flow h starts.
    ap (act image (state_of old starts w) (past old.newest) old.callers) c.in-Some.ensures.instr
    ∙ act_frames image (state_of old starts w) (new.newest ∷ new.callers) new.newest new.callers (Some c.in-Some.instr.now)
    ∙ ap (λ (o : Open). act image (state_of o starts w) o.newest o.callers (Some c.in-Some.instr.now)) (sym c.in-Some.ensures.moved)
    ∙ h starts) c.perform.ensures
