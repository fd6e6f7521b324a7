-- What holds of all elements holds of each one behind the first.
use Rattle.std.proofs.Common.{◌≡◌, ◌<◌, ℕ, All, List, ◌∷◌, length, get_or, subst, sym}
use Rattle.std.proofs.lemmas.List.Elements.{All-get_or, All-tail}

pub All-behind : {X : Type 0} (P : X → Type 0) (xs rest : List X) (first x : X) (at : ℕ) → All P xs → xs ≡ first ∷ rest → at < length rest → x ≡ get_or rest at x → P x
All-behind P xs rest first x at h e lt is = subst P (sym is) (All-get_or P rest at x lt (All-tail P first rest (subst (All P) e h)))
