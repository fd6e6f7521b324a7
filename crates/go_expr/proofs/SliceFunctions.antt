-- Functions on slices, which came with the second edition.
use Rattle.std.proofs.Common.{◌≡◌, ℕ, Bool, true, false, cond, Option, Some, None, List, refl, sym, ap, ◌∙◌}
use Rattle.std.specs.Prelude.{codes}
use Rattle.std.specs.Map.{lookup}
use Rattle.std.specs.Option.{option_map}
use Rattle.go_text.specs.declared.edition.Edition.{Edition}
use Rattle.go_text.specs.declared.edition.Edition.TheVariants.{One, Two}
use Rattle.go_text.specs.declared.fault.FaultKind.TheVariants.{LeftOut}
use Rattle.go_text.specs.Editions.{has_slices}
use Rattle.go_expr.specs.Known.{Known, Verdict, Breaks, slice_functions}

false_true : false ≡ true → ⊥
false_true e = cc (e)

pub with_slices : (e : Edition) → has_slices e ≡ true → slice_functions e ≡ slice_functions Two
with_slices One h = absurd (false_true h)
with_slices Two h = refl

alike : {A : Type 0} (a b c : Bool) (v x y z : A) → cond a (Some v) (cond b (Some v) (cond c (Some v) None)) ≡ option_map (λ _. v) (cond a (Some x) (cond b (Some y) (cond c (Some z) None)))
alike true b c v x y z = refl
alike false true c v x y z = refl
alike false false true v x y z = refl
alike false false false v x y z = refl

-- without slices they are left out
pub without_slices : (e : Edition) (test : List ℕ → Bool) → has_slices e ≡ false → lookup test (slice_functions e) ≡ option_map (λ _. Breaks LeftOut) (lookup test (slice_functions Two))
without_slices One test h = alike (test (codes "append")) (test (codes "cap")) (test (codes "make")) (Breaks LeftOut) _ _ _
without_slices Two test h = absurd (false_true (sym h))

none_of : {A : Type 0} (v : A) (o : Option A) → o ≡ None → option_map (λ (_ : A). v) o ≡ None
none_of {A} v o e = ap (option_map (λ (_ : A). v)) e

-- what is no function on slices in the second edition is none in any
pub no_function : (e : Edition) (test : List ℕ → Bool) → lookup test (slice_functions Two) ≡ None → lookup test (slice_functions e) ≡ None
no_function One test h = without_slices One test refl ∙ none_of (Breaks LeftOut) (lookup test (slice_functions Two)) h
no_function Two test h = h
