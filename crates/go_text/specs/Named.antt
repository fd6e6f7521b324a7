-- Source files as values.
use Rattle.std.specs.Prelude.{ℕ, List}

-- a file's name and text, as bytes
pub record Source : Type 0 where
  pub name : List ℕ
  pub text : List ℕ
