use Rattle.std.proofs.Common.{◌≡◌, Bool, false, subst, ◌∙◌, Some}
use Rattle.std.specs.Prelude.{if◌then◌else◌}
use Rattle.go_code.specs.Machine.{ahead}
use Rattle.go_vm.specs.Open.{PopsTruth}
use Rattle.go_vm.proofs.Jumps.{popped_goes}
use Rattle.go_vm.proofs.inside.jump_if_not.Goals as goal

pub returns-in-Some-false : goal.returns-in-Some-false
returns-in-Some-false c = λ starts.
    let o = c.args.frames.now in
    let p = c.pop_truth.new.self in
    let is : c.in-Some-false.field-0 ≡ false = cc (c.in-Some-false.field-0-test) in
    popped_goes (λ g b. if b then Some g else ahead c.args.count g) o p false c.args.world.now starts (subst (λ (b : Bool). PopsTruth o b p) is c.in-Some-false.ensures)
    ∙ c.jump.ensures starts
