-- Comments: go.dev/ref/spec#Comments.
use Rattle.std.specs.Prelude.{◌≡◌, ℕ, Bool, true, false, ◌||◌, ◌&&◌, not, nat_eq, List, [], ◌∷◌, ◌++◌, drop, codes}
use Rattle.std.specs.List.{list_all, starts_with}

-- no newline
abbrev pub is_in_line : ℕ → Bool
is_in_line b = not (nat_eq b 10)

-- two slashes and the rest of the line
abbrev pub IsLineComment : List ℕ → Type 0
IsLineComment bytes = (tail : List ℕ) × (bytes ≡ 47 ∷ 47 ∷ tail) × (list_all is_in_line tail ≡ true)

-- a star and a slash stand side by side
abbrev pub holds_close : List ℕ → Bool
holds_close [] = false
holds_close (b ∷ []) = false
holds_close (b ∷ c ∷ bs) = (nat_eq b 42 && nat_eq c 47) || holds_close (c ∷ bs)

-- from a slash and a star to the first star and slash behind them
abbrev pub IsBlockComment : List ℕ → Type 0
IsBlockComment bytes = (tail : List ℕ) × (bytes ≡ 47 ∷ 42 ∷ tail ++ 42 ∷ 47 ∷ []) × (holds_close (tail ++ 42 ∷ []) ≡ false)

-- a slash and a star that nothing closes
abbrev pub IsOpenComment : List ℕ → Type 0
IsOpenComment bytes = (tail : List ℕ) × (bytes ≡ 47 ∷ 42 ∷ tail) × (holds_close tail ≡ false)

-- nothing, or a space or a tab first
abbrev pub ends_word : List ℕ → Bool
ends_word [] = true
ends_word (b ∷ bs) = nat_eq b 32 || nat_eq b 9

-- a build constraint
abbrev pub is_constraint : List ℕ → Bool
is_constraint comment = starts_with nat_eq comment (codes "//go:build") && ends_word (drop 10 comment)
