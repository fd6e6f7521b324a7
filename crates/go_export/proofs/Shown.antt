-- What holds of all elements of a list that is gone through.
use Rattle.std.proofs.Common.{◌≡◌, ℕ, ◌+◌, ◌<◌, ◌↔◌, Bool, false, Decides, List, ◌∷◌, length, get_or, drop, map, All, sym, ap, ◌∙◌, subst}
use Rattle.std.proofs.lemmas.Bool.{false≢true}
use Rattle.std.proofs.lemmas.Bool.Decides.{not_from_Decides}
use Rattle.std.proofs.lemmas.List.{drop_more}
use Rattle.std.proofs.lemmas.List.Elements.{All-head, All-tail, All-cons}

module _ {B : Type 0} (P : B → Type 0) (all left rest : List B) (x : B) (is : left ≡ x ∷ rest) where
  -- where this one isn't so, not all are
  pub refused : (r : Bool) → Decides r (P x) → r ≡ false → (All P left ↔ All P all) → Decides false (All P all)
  refused r tells e same = (
    (λ no. absurd (false≢true no)),
    (λ h. absurd (not_from_Decides r tells e (All-head P x rest (subst (All P) is (same.1 h))))),
  )

  -- where it is, all are, where those behind it are
  pub one_more : P x → All P rest → All P left
  one_more here h = subst (All P) (sym is) (All-cons P x rest here h)

  pub one_less : P x → (All P left ↔ All P all) → (All P rest ↔ All P all)
  one_less here same = ((λ h. same.0 (one_more here h)), (λ h. All-tail P x rest (subst (All P) is (same.1 h))))

pub mapped : {A B : Type 0} (f : A → B) (xs : List A) (i : ℕ) (x : A) → i < length xs → x ≡ get_or xs i x → map f (drop i xs) ≡ f x ∷ map f (drop (i + 1) xs)
mapped f xs i x within at = ap (map f) (drop_more xs i x within ∙ ap (λ y. y ∷ drop (i + 1) xs) (sym at))
