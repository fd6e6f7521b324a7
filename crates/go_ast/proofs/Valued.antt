-- What a literal means is what is computed of it.
use Rattle.std.proofs.Common.{◌≡◌, ℕ, List, refl}
use Rattle.go_scan.specs.Runes.{RuneValue}
use Rattle.go_scan.specs.Strings.{StringValue}
use Rattle.go_scan.proofs.LiteralFronts.{rune_valued, string_valued}
use Rattle.go_ast.specs.Literals.{string_value, rune_value}

pub rune_means : (text : List ℕ) → RuneValue text (rune_value text)
unfolding rune_value
rune_means text = (rune_valued text (rune_value text)).1 refl

pub rune_computed : (text : List ℕ) (value : ℕ) → RuneValue text value → value ≡ rune_value text
unfolding rune_value
rune_computed text value m = (rune_valued text value).0 m

pub string_means : (text : List ℕ) → StringValue text (string_value text)
unfolding string_value
string_means text = (string_valued text (string_value text)).1 refl

pub string_computed : (text value : List ℕ) → StringValue text value → value ≡ string_value text
unfolding string_value
string_computed text value m = (string_valued text value).0 m
