-- What names are made of: go.dev/ref/spec#Letters_and_digits, #Identifiers.
use Rattle.std.specs.Prelude.{◌≡◌, ℕ, Bool, true, false, ◌||◌, ◌&&◌, nat_eq, List, [], ◌∷◌}
use Rattle.std.specs.List.{list_all, AllByRecursion}
use Rattle.std.specs.Char.{IsScalar}
use Rattle.std.specs.Str.{encode_utf8_all}
use Rattle.ucd_category.specs.GeneralCategory.{general_category, general_category_eq}
use Rattle.ucd_category.specs.GeneralCategoryGroup.{in_group}
use Rattle.ucd_category.specs.declared.GeneralCategory.TheVariants.{DecimalNumber}
use Rattle.ucd_category.specs.declared.GeneralCategoryGroup.TheVariants.{Letter}

-- an underscore, or a code point of category Lu, Ll, Lt, Lm or Lo
abbrev pub is_letter : ℕ → Bool
is_letter c = nat_eq c 95 || in_group Letter (general_category c)

-- a code point of category Nd
abbrev pub is_digit : ℕ → Bool
is_digit c = general_category_eq (general_category c) DecimalNumber

-- what may stand in a name behind its first letter
abbrev pub is_inside : ℕ → Bool
is_inside c = is_letter c || is_digit c

-- a letter, and then letters and digits
abbrev pub is_word : List ℕ → Bool
is_word [] = false
is_word (c ∷ cs) = is_letter c && list_all is_inside cs

-- the bytes are a word in UTF-8
abbrev pub IsWord : List ℕ → Type 0
IsWord bytes = (cs : List ℕ) × (bytes ≡ encode_utf8_all cs) × AllByRecursion IsScalar cs × (is_word cs ≡ true)
