-- What the keys that are arrays of bytes owe: a clone has the same bytes.
use Rattle.std.proofs.Common.{◌≡◌, ℕ, List, [], ◌∷◌, refl, ap, ◌∙◌}
use Rattle.std.specs.Array.{AllZipBelow}
use Rattle.std.specs.List.{AllZip}

same_list : {A : Type 0} (xs ys : List A) → AllZip (λ x y. y ≡ x) xs ys → ys ≡ xs
same_list [] [] h = refl
same_list [] (y ∷ ys) h = absurd h
same_list (x ∷ xs) [] h = absurd h
same_list (x ∷ xs) (y ∷ ys) h = ap (λ z. z ∷ ys) h.0 ∙ ap (λ zs. x ∷ zs) (same_list xs ys h.1)

pub same_bytes : {n : ℕ} (a b : List ℕ) → AllZipBelow (λ x y. y ≡ x) a b n → b ≡ a
same_bytes a b h = same_list a b h.whole
