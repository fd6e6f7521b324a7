-- Editions of the language.
use Rattle.std.specs.Prelude.{ℕ, Bool, true, false}
use Rattle.go_text.specs.declared.edition.Edition.{Edition}
use Rattle.go_text.specs.declared.edition.Edition.TheVariants.{One, Two}

-- editions count from 1
abbrev pub edition_number : Edition → ℕ
edition_number One = 1
edition_number Two = 2

-- slices came with the second
abbrev pub has_slices : Edition → Bool
has_slices One = false
has_slices Two = true

-- how many bytes a text may have
abbrev pub text_limit : Edition → ℕ
text_limit One = 1048576
text_limit Two = 4194304

-- how many calls may be open
unfoldable pub most_open : Edition → ℕ
most_open One = 1000
most_open Two = 4000
