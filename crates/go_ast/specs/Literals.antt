-- What the machine computes of literals.
use Rattle.std.specs.Prelude.{ℕ, List}
use Rattle.go_scan.specs.Fronts.{string_value_of, rune_value_of}

-- the bytes that a string literal means
unfoldable pub string_value : List ℕ → List ℕ
string_value text = string_value_of text

-- the code point that a rune literal means
unfoldable pub rune_value : List ℕ → ℕ
rune_value text = rune_value_of text
