-- Which names other packages see: https://go.dev/ref/spec#Exported_identifiers
use Rattle.std.specs.Prelude.{ℕ, Bool, false, List, [], ◌∷◌}
use Rattle.std.specs.Str.{chars}
use Rattle.ucd_category.specs.GeneralCategory.{general_category, general_category_eq}
use Rattle.ucd_category.specs.declared.GeneralCategory.TheVariants.{UppercaseLetter}

-- the first character is an upper-case letter
abbrev pub is_exported : List ℕ → Bool
is_exported name = elim (chars name) [ [] ↦ false | c ∷ cs ↦ general_category_eq (general_category c) UppercaseLetter ]
