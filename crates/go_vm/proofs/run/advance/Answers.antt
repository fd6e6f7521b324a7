use Rattle.std.proofs.Common.{◌≡◌, true, false, subst}
use Rattle.std.proofs.lemmas.Result.{IfOk-weaker}
use Rattle.go_code.specs.Images.{Image}
use Rattle.go_code.specs.Machine.{State, step}
use Rattle.go_vm.specs.Ahead.{PlusOrLeaves, ExecutedAhead}
use Rattle.go_vm.specs.Plus.{StepPlus, by_one}
use Rattle.go_vm.specs.Open.{Open}
use Rattle.go_vm.specs.Readings.{ReadsGlobals}
use Rattle.go_vm.specs.Flows.{state_of, next_after_flow}
use Rattle.go_vm.specs.declared.machine.Flow.{Flow}
use Rattle.go_vm.specs.declared.machine.Flow.TheVariants.{GoesOn, Leaves}
use Rattle.go_vm.proofs.run.advance.Goals as goal

went : (image : Image) (s t : State) (flow : Flow) → step image s ≡ next_after_flow flow t → PlusOrLeaves image s flow t
went image s t GoesOn e = by_one e
went image s t (Leaves exit) e = e

pub returns-then-branch : goal.returns-then-branch
returns-then-branch c =
    let o = c.args.frames.now in
    let p = c.obey_ahead.new.frames in
    let t = c.args.world.now.ticks in
    let u = c.obey_ahead.new.ticks in
    let obeyed : ExecutedAhead c.args.image.now true o t p u = subst (λ b. ExecutedAhead c.args.image.now b o t p u) c.if-branch.true c.in_ok-obey_ahead.ensures in
    λ starts. obeyed starts c.args.world.now

pub returns-then-branch-2 : goal.returns-then-branch-2
returns-then-branch-2 c =
    let image = c.args.image.now in
    let p = c.obey_ahead.new.frames in
    let q = c.read_ahead.new.frames in
    let w = c.args.world.now in
    let u = c.obey_ahead.new.ticks in
    let same : ExecutedAhead image false c.args.frames.now w.ticks p u = subst (λ b. ExecutedAhead image b c.args.frames.now w.ticks p u) c.if-branch.false c.in_ok-obey_ahead.ensures in
    let reads : ReadsGlobals true p (record w { ticks = u }) q = subst (λ b. ReadsGlobals b p (record w { ticks = u }) q) c.if-branch-2.true c.in_ok-read_ahead.ensures in
    λ starts.
    subst (λ (o : Open). StepPlus image (state_of o starts w) (state_of q starts (record w { ticks = u }))) same.0
    (subst (λ t. StepPlus image (state_of p starts (record w { ticks = t })) (state_of q starts (record w { ticks = u }))) same.1 (reads image starts))

pub returns : goal.returns
returns c =
    let image = c.args.image.now in
    let p = c.obey_ahead.new.frames in
    let q = c.read_ahead.new.frames in
    let w = c.args.world.now in
    let u = c.obey_ahead.new.ticks in
    let same : ExecutedAhead image false c.args.frames.now w.ticks p u = subst (λ b. ExecutedAhead image b c.args.frames.now w.ticks p u) c.if-branch.false c.in_ok-obey_ahead.ensures in
    let kept : ReadsGlobals false p (record w { ticks = u }) q = subst (λ b. ReadsGlobals b p (record w { ticks = u }) q) c.if-branch-2.false c.in_ok-read_ahead.ensures in
    IfOk-weaker c.one_step.result _ _
    (λ flow h starts.
    subst (λ (o : Open). PlusOrLeaves image (state_of o starts w) flow (state_of c.one_step.new.frames starts c.one_step.new.world)) same.0
    (subst (λ t. PlusOrLeaves image (state_of p starts (record w { ticks = t })) flow (state_of c.one_step.new.frames starts c.one_step.new.world)) same.1
    (subst (λ (o : Open). PlusOrLeaves image (state_of o starts (record w { ticks = u })) flow (state_of c.one_step.new.frames starts c.one_step.new.world)) kept
    (went image (state_of q starts (record w { ticks = u })) (state_of c.one_step.new.frames starts c.one_step.new.world) flow (h starts))))) c.one_step.ensures
