-- Which texts may be source texts.
use Rattle.std.specs.Prelude.{◌≡◌, ℕ, Bool, false, ◌||◌, nat_eq, nat_lt, List, [], ◌∷◌, length, drop, Option, Some, None, if◌then◌else◌}
use Rattle.std.specs.List.{starts_with, list_any}
use Rattle.go_text.specs.declared.edition.Edition.{Edition}
use Rattle.go_text.specs.declared.text.TextError.{TextError}
use Rattle.go_text.specs.declared.text.TextError.TheVariants.{TooLong, Nul, Mark, Memory}
use Rattle.go_text.specs.Editions.{text_limit}

-- the byte order mark, in UTF-8
abbrev pub mark : List ℕ
mark = 239 ∷ 187 ∷ 191 ∷ []

-- a mark is first
abbrev pub starts_with_mark : List ℕ → Bool
starts_with_mark bytes = starts_with nat_eq bytes mark

-- a mark stands anywhere
abbrev pub holds_mark : List ℕ → Bool
holds_mark [] = false
holds_mark (b ∷ bs) = starts_with_mark (b ∷ bs) || holds_mark bs

-- what keeps a text from being a source text of an edition: it is too long, else it holds a NUL, else a mark behind its start
abbrev pub text_error : Edition → List ℕ → Option TextError
text_error edition bytes =
    if nat_lt (text_limit edition) (length bytes) then Some TooLong
    else (if list_any (λ b. nat_eq b 0) bytes then Some Nul
    else (if holds_mark (drop 1 bytes) then Some Mark
    else None))

-- memory may run out for any text; each other answer is right
abbrev pub IsTextError : TextError → Option TextError → Type 0
IsTextError Memory wrong = Unit {0}
IsTextError e wrong = wrong ≡ Some e
