use Rattle.std.proofs.Common.{◌≡◌, ap, ◌∙◌}
use Rattle.go_code.specs.declared.instr.JumpInstr.{JumpInstr}
use Rattle.go_code.specs.declared.instr.JumpInstr.TheVariants.{JumpIf, JumpIfNot}
use Rattle.go_code.specs.Machine.{jump_step}
use Rattle.go_vm.specs.Flows.{state_of}
use Rattle.go_vm.proofs.inside.obey_jump.Goals as goal

pub returns-in-JumpIf : goal.returns-in-JumpIf
returns-in-JumpIf c = λ starts.
    let o = c.args.frames.now in
    let is : c.args.instr ≡ JumpIf c.in-JumpIf.count = cc (c.in-JumpIf.is) in
    ap (λ (i : JumpInstr). jump_step i (state_of o starts c.args.world.now) o.newest o.callers) is ∙ c.jump_if.ensures starts

pub returns-in-JumpIfNot : goal.returns-in-JumpIfNot
returns-in-JumpIfNot c = λ starts.
    let o = c.args.frames.now in
    let is : c.args.instr ≡ JumpIfNot c.in-JumpIfNot.count = cc (c.in-JumpIfNot.is) in
    ap (λ (i : JumpInstr). jump_step i (state_of o starts c.args.world.now) o.newest o.callers) is ∙ c.jump_if_not.ensures starts
