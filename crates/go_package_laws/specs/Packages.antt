-- What is asked of the files of packages and of what they import, so that their typed trees are well typed.
use Rattle.std.specs.Prelude.{◌≡◌, ◌≢◌, ℕ, nat_eq, Bool, true, not, ◌||◌, List, [], ◌∷◌, ◌++◌, map, codes, Some}
use Rattle.std.specs.List.{All, Contains, list_all}
use Rattle.go_text.specs.declared.edition.Edition.{Edition}
use Rattle.go_text.specs.declared.edition.Edition.TheVariants.{One}
use Rattle.go_ast.specs.Parse.{Derived, IsParse}
use Rattle.go_ast.specs.Trees.{File}
use Rattle.go_typed.specs.Trees.{Function, Package, no_exprs, no_stmts, run, some_stmts}
use Rattle.go_init.specs.Variables.{variable_order}
use Rattle.go_code.specs.declared.ending.Ending.{Ending}
use Rattle.go_meaning.specs.Programs.{SourceMeaning, last_package, package_symbol}
use Rattle.go_expr.specs.Known.{library}
use Rattle.go_check.specs.Names.{importable_of}
use Rattle.go_meaning_laws.specs.WellTyped.{is_text}
use Rattle.go_package.specs.Imports.{Importable}
use Rattle.go_package.specs.Packages.{package_in}
use Rattle.go_package.specs.Typed.{IsTypedFrom, IsTypedIn}

-- ---- what may be imported

-- all that may be imported are libraries, as fmt is
abbrev pub AreLibraries : List Importable → Type 0
AreLibraries [] = Unit {0}
AreLibraries (i ∷ is) = (i.exports ≡ library) × AreLibraries is

-- ---- programs

-- some text is parsed to each file; a text has bytes, no more than an int counts
abbrev pub AreOfTexts : Edition → List File → Type 0
AreOfTexts edition [] = Unit {0}
AreOfTexts edition (f ∷ fs) = ((text : List ℕ) × IsParse edition text (Derived f) × (is_text text ≡ true)) × AreOfTexts edition fs

-- The program is the typed package of files without fault, to which some texts are parsed. Its variables get their values in some order, and
-- it is named main.
pub record AreProgram (path : List ℕ) (files : List File) (ps : List Importable) (names : List (List ℕ)) (p : Package) : Type 0 where
  pub edition : Edition
  pub sources : AreOfTexts edition files
  pub typed : IsTypedIn edition (package_in edition path files ps) files ps names p
  pub ordered : (variable_order p).1 ≡ []
  pub named : p.name ≡ codes "main"

-- ---- packages that import each other

-- A package behind others: some texts are parsed to its files, which have no fault. It may import libraries, and of the packages before it
-- those that it was checked with; none of them has its path. Its variables get their values in some order.
pub record IsChecked (before : List Package) (p : Package) : Type 0 where
  pub path : List ℕ
  pub edition : Edition
  pub files : List File
  pub names : List (List ℕ)
  pub libraries : List Importable
  pub imported : List Package
  pub are_libraries : AreLibraries libraries
  pub stand_before : All (Contains before) imported
  pub sources : AreOfTexts edition files
  pub typed : IsTypedIn edition (package_in edition path files (libraries ++ map importable_of imported)) files (libraries ++ map importable_of imported) names p
  pub new : All (λ (q : Package). p.path ≢ q.path) before
  pub ordered : (variable_order p).1 ≡ []

-- each of them behind some packages, the last of which comes first
abbrev pub AreCheckedBehind : List Package → List Package → Type 0
AreCheckedBehind before [] = Unit {0}
AreCheckedBehind before (p ∷ ps) = IsChecked before p × AreCheckedBehind (p ∷ before) ps

abbrev pub AreChecked : List Package → Type 0
AreChecked packages = AreCheckedBehind [] packages

-- the last is named main
abbrev pub IsNamedMain : List Package → Type 0
IsNamedMain packages = (p : Package) × (last_package packages ≡ Some p) × (p.name ≡ codes "main")

-- it is such a program by itself
abbrev pub IsSole : Package → Type 0
IsSole p = AreChecked (p ∷ []) × IsNamedMain (p ∷ [])

-- ---- packages that there are

-- some files at a path that import nothing are without fault a package named main, of which this holds by something
abbrev pub SomeMain : (A : Type 0) → (Package → A → Type 0) → List ℕ → Type 0
SomeMain A Has path =
    (files : List File) × (names : List (List ℕ)) × (p : Package) × (a : A)
    × IsTypedFrom One path files [] names p × (p.name ≡ codes "main") × Has p a

-- the one function of a package calls a function of another, and does nothing else
abbrev pub CallsInto : Package → Package → Type 0
CallsInto q p = (x : List ℕ) × (map (λ (f : Function). f.body) p.functions ≡ some_stmts (run [] (package_symbol q x) no_exprs) no_stmts ∷ [])

-- some files are without fault a package, and others at a path one named main that imports it and calls it; each variable gets its value
abbrev pub SomeImport : List ℕ → Type 0
SomeImport path =
    (others files : List File) × (names : List (List ℕ)) × (q p : Package) × IsTypedFrom One q.path others [] names q
    × IsTypedFrom One path files (importable_of q ∷ []) names p
    × ((variable_order q).1 ≡ []) × ((variable_order p).1 ≡ []) × (p.name ≡ codes "main") × CallsInto q p

-- ---- what summaries tell

-- no byte is a space or a closing brace
abbrev pub is_plain : List ℕ → Bool
is_plain path = list_all (λ b. not (nat_eq b 32 || nat_eq b 125)) path

-- all stand at such paths
abbrev pub HavePlainPaths : List Package → Type 0
HavePlainPaths packages = All (λ (p : Package). is_plain p.path ≡ true) packages

-- packages that are given so many ticks have a meaning
abbrev pub HasMeaning : List Package → ℕ → Type 0
HasMeaning packages ticks = (ending : Ending) × (output : List ℕ) × SourceMeaning packages ticks ending output
