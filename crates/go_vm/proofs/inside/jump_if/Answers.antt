use Rattle.std.proofs.Common.{◌≡◌, Bool, true, subst, ◌∙◌, Some}
use Rattle.std.specs.Prelude.{if◌then◌else◌}
use Rattle.go_code.specs.Machine.{ahead}
use Rattle.go_vm.specs.Open.{PopsTruth}
use Rattle.go_vm.proofs.Jumps.{popped_goes}
use Rattle.go_vm.proofs.inside.jump_if.Goals as goal

pub returns-in-Some-true : goal.returns-in-Some-true
returns-in-Some-true c = λ starts.
    let o = c.args.frames.now in
    let p = c.pop_truth.new.self in
    let is : c.in-Some-true.field-0 ≡ true = cc (c.in-Some-true.field-0-test) in
    popped_goes (λ g b. if b then ahead c.args.count g else Some g) o p true c.args.world.now starts (subst (λ (b : Bool). PopsTruth o b p) is c.in-Some-true.ensures)
    ∙ c.jump.ensures starts
