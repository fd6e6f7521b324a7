-- Parts that come behind a text one after another.
use Rattle.std.proofs.Common.{◌≡◌, ℕ, List, ◌++◌, ap, ◌∙◌}
use Rattle.std.proofs.lemmas.List.{append_assoc}

pub two : (a m f t : List ℕ) → m ≡ a ++ f → m ++ t ≡ a ++ (f ++ t)
two a m f t p = ap (λ (l : List ℕ). l ++ t) p ∙ append_assoc a f t

pub three : (a m n f t v : List ℕ) → m ≡ a ++ f → n ≡ m ++ t → n ++ v ≡ a ++ ((f ++ t) ++ v)
three a m n f t v p q = two a n (f ++ t) v (q ∙ two a m f t p)
