-- Objects as values.
use Rattle.std.specs.Prelude.{ℕ, List}
use Rattle.go_text.specs.declared.edition.Edition.{Edition}
use Rattle.go_code.specs.declared.cell.Cell.{Cell}
use Rattle.go_code.specs.Functions.{FunctionCode, Setup}
use Rattle.go_symbol.specs.Symbols.{Symbol}

-- a variable's name, and the cells of its zero value
pub record PackageVariable : Type 0 where
  pub name : List ℕ
  pub zero : List Cell

-- a function with its name
pub record PackageFunction : Type 0 where
  pub name : List ℕ
  pub function : FunctionCode Symbol

-- a package's path, its name, the edition that it is of, its variables and functions in declaration order, and its setups in order
pub record Object : Type 0 where
  pub path : List ℕ
  pub name : List ℕ
  pub edition : Edition
  pub variables : List PackageVariable
  pub functions : List PackageFunction
  pub setups : List (Setup Symbol)

-- the object of these parts
abbrev pub object_with : List ℕ → List ℕ → Edition → List PackageVariable → List PackageFunction → List (Setup Symbol) → Object
object_with path name edition variables functions setups =
    record { path = path; name = name; edition = edition; variables = variables; functions = functions; setups = setups }
