-- Of what names find, where something is known: nothing is passed over.
use Rattle.std.specs.Prelude.{◌≡◌, ◌≢◌, ℕ, List, [], ◌∷◌, map, Option, Some, None, bytes_eq}
use Rattle.std.specs.List.{Contains}
use Rattle.std.specs.Map.{lookup}
use Rattle.go_text.specs.declared.edition.Edition.{Edition}
use Rattle.go_ast.specs.Trees.{File, FunctionDecl}
use Rattle.go_expr.specs.Known.{Names, Known, package', Verdict, Fine, Passed, Scope, look_up_known}
use Rattle.go_stmt.specs.Scopes.{Context}
use Rattle.go_stmt.specs.Functions.{function_at}
use Rattle.go_package.specs.Faults.{Facts, context_at, function_faults}
use Rattle.go_package.specs.Imports.{Importable}
use Rattle.go_package.specs.Packages.{AreFacts, package_faults, package_in}
use Rattle.go_package_laws.specs.Locals.{IsLocalBlock}

abbrev pub IsKnown : {A : Type 0} → Option A → Type 0
IsKnown {A} o = (x : A) × (o ≡ Some x)

-- what a name finds isn't passed over, and of a package each name that it exports is known
abbrev pub IsDetermined : Verdict Known → Type 0
IsDetermined (Fine (package' names)) = (x : List ℕ) → lookup (bytes_eq x) names ≢ Some None
IsDetermined Passed = ⊥
IsDetermined v = Unit {0}

abbrev pub Finds : Scope → List (List ℕ) → Type 0
Finds s names = (x : List ℕ) → Contains names x → IsDetermined (look_up_known x s.names)

-- each name that imports export is known, and each name of a package
abbrev pub AllImportsAreKnown : List (List ℕ × Names) → Type 0
AllImportsAreKnown [] = Unit {0}
AllImportsAreKnown (i ∷ is) = IsDetermined (Fine (package' i.1)) × AllImportsAreKnown is

abbrev pub AreKnown : Names → Type 0
AreKnown [] = Unit {0}
AreKnown (n ∷ ns) = IsKnown n.1 × AreKnown ns

-- each name outside of a function finds what is told
abbrev pub FindsOutside : Context → Type 0
FindsOutside c = (iota : Option ℕ) (x : List ℕ) → IsDetermined (look_up_known x (c.outside iota))

-- each name that these packages export is known
abbrev pub HaveWholeExports : List Importable → Type 0
HaveWholeExports ps = AllImportsAreKnown (map (λ (p : Importable). (p.path, p.exports)) ps)

-- this holds where a package has these facts and no fault
abbrev pub WhereFaultless : Edition → List ℕ → List File → List Importable → Facts → Type 0 → Type 0
WhereFaultless edition path files ps t Holds = AreFacts (package_in edition path files ps) t → package_faults ps t files ≡ [] → Holds

-- a function whose body declares no types has a typed tree, if it has no fault
abbrev pub HasTreeIfFaultless : Facts → ℕ → FunctionDecl → Type 0
HasTreeIfFaultless t file f = IsLocalBlock f.body → function_faults t file f ≡ [] → IsKnown (function_at (context_at t file) f).known
