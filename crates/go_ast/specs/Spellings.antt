-- Spellings.
use Rattle.std.specs.Prelude.{ℕ, List, string_bytes}
use Rattle.go_ast.specs.declared.spelling.Kept.{Kept}
use Rattle.go_ast.specs.declared.spelling.Kept.TheVariants as kept

-- the text that is kept, wherever it lies
abbrev pub kept_bytes : Kept → List ℕ
kept_bytes (kept.Short text) = text.bytes
kept_bytes (kept.Long text) = string_bytes text.value
