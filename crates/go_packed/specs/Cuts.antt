-- Names that stand in one text, one behind another.
use Rattle.std.specs.Prelude.{◌≡◌, ℕ, ◌≤◌, List, [], ◌∷◌, length, take, drop}
use Rattle.std.specs.Str.{IsUtf8}

-- the names of these lengths
abbrev pub cut : List ℕ → List ℕ → List (List ℕ)
cut [] text = []
cut (n ∷ lengths) text = take n text ∷ cut lengths (drop n text)

-- each of them is text, and they are the whole
abbrev pub AreCuts : List ℕ → List ℕ → Type 0
AreCuts [] text = text ≡ []
AreCuts (n ∷ lengths) text = (n ≤ length text) × IsUtf8 (take n text) × AreCuts lengths (drop n text)
