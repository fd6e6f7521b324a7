-- Symbols as values.
use Rattle.std.specs.Prelude.{ℕ, List, Bool, ◌&&◌, bytes_eq}

-- what a package declares: the package's path, and the name
pub record Symbol : Type 0 where
  pub path : List ℕ
  pub name : List ℕ

abbrev pub same_symbol : Symbol → Symbol → Bool
same_symbol s t = bytes_eq s.path t.path && bytes_eq s.name t.name
