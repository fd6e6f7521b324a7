use Rattle.std.proofs.Common.{◌≡◌, ◌↔◌, ◌==◌, ℕ, IsTrue, Bool, true, false, ◌∙◌, not, List, [], ◌∷◌, length, refl, sym, subst, arith}
use Rattle.std.proofs.lemmas.Bool.{eqb-true}
use Rattle.std.specs.List.{Contains}
use Rattle.go_package.proofs.facts.has_some.Goals as goal

not_true : (b : Bool) → (b ≡ true → ⊥) → not b ≡ true
not_true true none = absurd (none refl)
not_true false none = refl

some_in : (row : List ℕ) (b : Bool) → b ≡ (length row == 0) → IsTrue (not b) ↔ ((q : ℕ) × Contains row q)
some_in [] b e = (λ t. (let no : not true ≡ true = subst (λ z. not z ≡ true) e t in absurd (cc)), λ h. (let lt = (h.1).1 in absurd (omega (arith, lt))))
some_in (x ∷ xs) b e = (λ t. (x, (0, omega arith, refl)), λ h. not_true b (λ t. (let none = eqb-true (length (x ∷ xs)) 0 (sym e ∙ t) in omega (arith, none))))

pub returns : goal.returns
returns c = some_in c.args.row.now c.is_empty.result c.is_empty.ensures
