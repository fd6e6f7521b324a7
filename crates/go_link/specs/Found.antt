-- The number of a symbol is that of a function with its path and its name, and the place of a symbol that of such a variable.
use Rattle.std.specs.Prelude.{◌≡◌, ℕ, List, Some, length, slice_get}
use Rattle.go_code.specs.Accesses.{cells_at}
use Rattle.go_code.specs.Packages.{Object, PackageFunction, PackageVariable}
use Rattle.go_symbol.specs.Symbols.{Symbol}
use Rattle.go_link.specs.Links.{linked, linked_function, function_symbols, function_number, variables, first_cell_of, object_symbol}

-- a package has the function, and is one of these
pub record IsDeclared (packages : List Object) (object : Object) (function : PackageFunction) : Type 0 where
  pub package_index : ℕ
  pub package_is : slice_get packages package_index ≡ Some object
  pub index : ℕ
  pub is : slice_get object.functions index ≡ Some function

-- the function that a symbol names is in the image, at the symbol's number
pub record Found (packages : List Object) (s : Symbol) : Type 0 where
  pub object : Object
  pub function : PackageFunction
  pub declared : IsDeclared packages object function
  pub named : object_symbol object function.name ≡ s
  pub there : slice_get (linked packages).functions (function_number (function_symbols packages) s) ≡ Some (linked_function (function_symbols packages) (variables packages) function)

-- the variable that a symbol names has its zero cells among the image's, from the symbol's place on
pub record Placed (packages : List Object) (s : Symbol) : Type 0 where
  pub object : Object
  pub variable : PackageVariable
  pub package_index : ℕ
  pub package_is : slice_get packages package_index ≡ Some object
  pub index : ℕ
  pub is : slice_get object.variables index ≡ Some variable
  pub named : object_symbol object variable.name ≡ s
  pub there : cells_at (linked packages).globals (first_cell_of (variables packages) s) (length variable.zero) ≡ Some variable.zero
