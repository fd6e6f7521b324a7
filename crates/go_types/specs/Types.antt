-- Types as values.
use Rattle.std.specs.Prelude.{ℕ, List, Option}
use Rattle.go_types.specs.declared.types.Basic.{Basic}

mutual
  -- A type without parts; an array of a length; a slice of elements; a struct; a declared type by its package's path, its name, and the type that it
  -- is declared as, written out.
  pub data Type' : Type 0 where
    basic : Basic → Type'
    array : ℕ → Type' → Type'
    slice : Type' → Type'
    struct : Fields → Type'
    named : List ℕ → List ℕ → Type' → Type'

  -- fields in their order: the path of the package, where the name isn't exported, the name, and the type
  pub data Fields : Type 0 where
    no_fields : Fields
    field : Option (List ℕ) → List ℕ → Type' → Fields → Fields

-- a declared type by its package's path, its name, and the type that it is declared as
pub record DeclaredType : Type 0 where
  pub path : List ℕ
  pub name : List ℕ
  pub type : Type'
