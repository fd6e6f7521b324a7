use Rattle.std.proofs.Common.{◌≡◌, ◌∙◌, List, ℕ, IfOk, map, ap, subst, Bor}
use Rattle.go_code.specs.Packages.{Object}
use Rattle.go_packed.specs.Reading.{unpacked_object}
use Rattle.go_packed.proofs.Whole.{same_parts}
use Rattle.go_packed.proofs.packed.Packed.unpack.Goals as goal

pub returns : goal.returns
returns c =
    let tokens_are =
    same_parts (ap (map (λ (n : Bor (List ℕ)). n.now)) c.as_slice-6.ensures.value ∙ c.in_ok-names.ensures) c.as_slice-2.ensures.value c.as_slice-3.ensures.value c.as_slice-4.ensures.value c.as_slice-5.ensures.value
    c.as_slice.ensures.value in
    subst (λ (v : Object). IfOk c.object.result (λ object. object ≡ v)) (ap unpacked_object tokens_are ∙ c.self.view_is) c.object.ensures
