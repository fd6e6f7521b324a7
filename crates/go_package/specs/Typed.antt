-- What a package without faults is: its typed tree, by what is known of its names.
use Rattle.std.specs.Prelude.{◌≡◌, ℕ, suc, Bool, true, false, ◌&&◌, not, bytes_eq, codes, if◌then◌else◌, List, [], ◌∷◌, ◌++◌, map, Option, Some, None, unwrap_or}
use Rattle.std.specs.Fmt.{decimal}
use Rattle.std.specs.List.{slice_get, filter, filter_map, flat_map}
use Rattle.std.specs.Map.{lookup}
use Rattle.go_text.specs.declared.edition.Edition.{Edition}
use Rattle.go_text.specs.declared.place.Place.{Place}
use Rattle.go_ast.specs.Trees.{Name, Expression, ExpressionList, some_exprs, VarSpec, variables, TopLevel, declared, function, File}
use Rattle.go_const.specs.declared.constant.Const.{Const}
use Rattle.go_types.specs.Types.{Type'}
use Rattle.go_typed.specs.Trees as typed
use Rattle.go_typed.specs.Trees.{pack_exprs}
use Rattle.go_scope.specs.Scopes.{is_blank}
use Rattle.go_scope.specs.Names.{Used, in_expr, in_exprs}
use Rattle.go_uses.specs.Uses.{in_function}
use Rattle.go_expr.specs.Known.{Declared, value, type', Names}
use Rattle.go_expr.specs.Known as known
use Rattle.go_expr.specs.Rules.{fine}
use Rattle.go_expr.specs.Verdicts.{asked_both}
use Rattle.go_stmt.specs.Rules.{variables_source}
use Rattle.go_stmt.specs.Statements.{values_known}
use Rattle.go_stmt.specs.Functions.{function_at}
use Rattle.go_objects.specs.Objects.{DeclaredObject}
use Rattle.go_objects.specs.Table.{PackageTable, imports_at, is_hidden, scope_at}
use Rattle.go_package.specs.Faults.{Facts, written_type, context_at}
use Rattle.go_package.specs.Imports.{Importable}
use Rattle.go_package.specs.Packages.{AreFacts, package_faults, package_in}

-- ---- names of the package, in declaration order

abbrev pub exported_constant : List ℕ × Option Declared → Option (List ℕ × (Type' × Const))
exported_constant n = elim n.1 [ Some (value (typed.constant t c)) ↦ Some (n.0, (t, c)) | _ ↦ None ]

abbrev pub type_in : List ℕ × Option Declared → Option (List ℕ × Type')
type_in n = elim n.1 [ Some (type' t) ↦ Some (n.0, t) | _ ↦ None ]

abbrev pub constants_in : Names → List (List ℕ × (Type' × Const))
constants_in names = filter_map exported_constant names

abbrev pub types_in : Names → List (List ℕ × Type')
types_in names = filter_map type_in names

-- what the package declares under a name, where that is known
abbrev pub declared_at : Names → List ℕ → Option Declared
declared_at names x = unwrap_or (lookup (bytes_eq x) names) None

-- of the names of files the one at a number
abbrev pub file_name_at : List (List ℕ) → ℕ → List ℕ
file_name_at names file = unwrap_or (slice_get names file) []

abbrev pub variable_in : List (List ℕ) → DeclaredObject → Option Declared → Option typed.Variable
variable_in files o d = elim d [
  | Some (value (typed.global t x)) ↦ Some (record { name = o.name.text; of = t; file = file_name_at files o.file; place = o.name.place })
  | _ ↦ None
]

abbrev pub variables_in : List (List ℕ) → Names → List DeclaredObject → List typed.Variable
variables_in files names os = filter_map (λ (o : DeclaredObject). variable_in files o (declared_at names o.name.text)) os

-- ---- https://go.dev/ref/spec#Package_initialization

abbrev pub refers : Option Declared → Bool
refers o = elim o [ Some (value (typed.global t x)) ↦ true | Some (known.function x ts rs) ↦ true | _ ↦ false ]

-- the package's variables and functions among names that are used in a file
abbrev pub is_reference : Facts → ℕ → List ℕ → Bool
is_reference t file x = not (is_hidden (imports_at t.package file) x) && refers (declared_at t.known x)

abbrev pub references : Facts → ℕ → List Used → List (List ℕ)
references t file us = filter (is_reference t file) (map (λ u. u.0) us)

abbrev pub own_name : Name → Option (List ℕ)
own_name n = if is_blank n.text then None else Some n.text

-- where a specification begins, which has a name
abbrev pub spec_place : List Name → Place
spec_place ns = elim ns [ [] ↦ record { line = 1; column = 1 } | n ∷ ns ↦ n.place ]

-- a variable that has its own value
abbrev pub alone : Facts → List (List ℕ) → ℕ → Name → Expression → typed.Expr → typed.Initialization
alone t names file n v e = record {
  variables = own_name n ∷ [];
  file = file_name_at names file;
  place = n.place;
  source = typed.each (pack_exprs (e ∷ []));
  references = references t file (in_expr false v);
}

abbrev pub each_alone : Facts → List (List ℕ) → ℕ → List Name → ExpressionList → typed.Exprs → List typed.Initialization
each_alone t names file (n ∷ ns) (some_exprs v vs) (typed.some_exprs e es) = alone t names file n v e ∷ each_alone t names file ns vs es
each_alone t names file ns vs es = []

-- variables that one call gives values
abbrev pub together : Facts → List (List ℕ) → ℕ → VarSpec → typed.ValueSource → typed.Initialization
together t names file spec source = record {
  variables = map own_name spec.names;
  file = file_name_at names file;
  place = spec_place spec.names;
  source = source;
  references = references t file (in_exprs spec.values);
}

-- those without a value are zero
abbrev pub initializations_by : Facts → List (List ℕ) → ℕ → VarSpec → Option typed.ValueSource → List typed.Initialization
initializations_by t names file spec source = elim source [
  | Some (typed.each es) ↦ each_alone t names file spec.names spec.values es
  | Some (typed.results ts f es) ↦ together t names file spec (typed.results ts f es) ∷ []
  | _ ↦ []
]

abbrev pub spec_initializations : Facts → List (List ℕ) → ℕ → VarSpec → List typed.Initialization
spec_initializations t names file spec =
    let s = scope_at t.package t.known file None in
    initializations_by t names file spec (fine (asked_both (variables_source spec.names) (written_type s spec.type) (values_known s spec.values)))

abbrev pub top_initializations : Facts → List (List ℕ) → ℕ → TopLevel → List typed.Initialization
top_initializations t names file top = elim top [ declared (variables p ss) ↦ flat_map (spec_initializations t names file) ss | _ ↦ [] ]

-- a function's name, and the package's variables and functions in its text
abbrev pub top_uses : Facts → ℕ → TopLevel → List (List ℕ × List (List ℕ))
top_uses t file top = elim top [ function f ↦ if is_blank f.name.text then [] else (f.name.text, references t file (in_function f)) ∷ [] | _ ↦ [] ]

-- ---- functions

-- a function of the blank name is checked alone
abbrev pub top_functions : Facts → ℕ → TopLevel → List typed.Function
top_functions t file top = elim top [
  | function f ↦ elim (function_at (context_at t file) f).known [ None ↦ [] | Some g ↦ if is_blank f.name.text then [] else g ∷ [] ]
  | _ ↦ []
]

-- Several functions may have the name init, which nothing refers to. They count from 1, by names that are no words.
abbrev pub with_numbers : ℕ → List typed.Function → List typed.Function
with_numbers n [] = []
with_numbers n (f ∷ fs) =
    if bytes_eq f.name (codes "init") then record f { name = codes "init." ++ decimal n } ∷ with_numbers (suc n) fs else f ∷ with_numbers n fs

-- ---- packages

abbrev pub of_files : {A : Type 0} → (ℕ → TopLevel → List A) → ℕ → List File → List A
of_files f number [] = []
of_files f number (file ∷ files) = flat_map (f number) file.declarations ++ of_files f (suc number) files

abbrev pub package_name : List File → List ℕ
package_name files = elim files [ [] ↦ [] | f ∷ fs ↦ f.package.text ]

-- of files that are written in an edition, by their names
abbrev pub typed_package : Edition → Facts → List (List ℕ) → List File → typed.Package
typed_package edition t names files = record {
  path = t.package.path;
  name = package_name files;
  edition = edition;
  constants = constants_in t.known;
  types = types_in t.known;
  variables = variables_in names t.known t.package.objects;
  initializations = of_files (top_initializations t names) 0 files;
  uses = of_files (top_uses t) 0 files;
  functions = with_numbers 1 (of_files (top_functions t) 0 files);
}

-- the typed package that some files of an edition are, which have no fault
pub record IsTypedIn (edition : Edition) (p : PackageTable) (files : List File) (ps : List Importable) (names : List (List ℕ)) (t : typed.Package) : Type 0 where
  pub facts : Facts
  pub are : AreFacts p facts
  pub none : package_faults ps facts files ≡ []
  pub is : t ≡ typed_package edition facts names files

-- the typed package that some files at a path are
abbrev pub IsTypedFrom : Edition → List ℕ → List File → List Importable → List (List ℕ) → typed.Package → Type 0
IsTypedFrom edition path files ps = IsTypedIn edition (package_in edition path files ps) files ps
