-- What becomes of the files of a directory before anything is compiled.
use Rattle.std.specs.Prelude.{◌≡◌, ℕ, ◌⊎◌, Bool, true, false, nat_lt, List, [], ◌∷◌, ◌++◌, length, map}
use Rattle.go_text.specs.declared.edition.Edition.{Edition}
use Rattle.go_text.specs.Editions.{text_limit}
use Rattle.go_text.specs.Faults.{Fault}
use Rattle.go_text.specs.declared.place.Place.{Place}
use Rattle.go_text.specs.declared.fault.FaultKind.{FaultKind}
use Rattle.go_text.specs.declared.fault.FaultKind.TheVariants.{PackageName, Large}
use Rattle.ws_version.specs.Writes.{Write}
use Rattle.ws_register.specs.Sources.{IsSources}
use Rattle.ws_graph.specs.Packages.{package_files}
use Rattle.go_ast.specs.Trees.{Name, File}
use Rattle.go_ast.specs.Parse.{Derived, Stopped, IsParse, IsPackage, IsNamed, IsOther, Parsed}

-- no file, or the plan's fault, or all files with what they parse to
pub data Planned : Type 0 where
  NoFiles : Planned
  Faulty : Fault → Planned
  Sound : List Parsed → Planned

abbrev pub source_of_parsed : Parsed → List ℕ × List ℕ
source_of_parsed p = (p.name, p.text)

-- the text is longer than the edition allows
abbrev pub is_large : Edition → List ℕ → Bool
is_large edition text = nat_lt (text_limit edition) (length text)

-- a text that is a file in this edition
pub record IsFileIn (edition : Edition) (p : Parsed) : Type 0 where
  pub file : File
  pub short : is_large edition p.text ≡ false
  pub parse : IsParse p.edition p.text (Derived file)
  pub of : p.edition ≡ edition

-- each text is one
abbrev pub AllParsed : Edition → List Parsed → Type 0
AllParsed edition [] = Unit {0}
AllParsed edition (p ∷ ps) = IsFileIn edition p × AllParsed edition ps

-- in an edition the files parse to these
pub record AreParsed (edition : Edition) (files : List (List ℕ × List ℕ)) (parsed : List Parsed) : Type 0 where
  pub sources : map source_of_parsed parsed ≡ files
  pub parses : AllParsed edition parsed

-- all have this package name
abbrev pub AllNamed : List ℕ → List Parsed → Type 0
AllNamed name [] = Unit {0}
AllNamed name (p ∷ ps) = IsNamed p.edition name p.text × AllNamed name ps

-- a text that is too long has its fault at its start
pub record IsTooLong (edition : Edition) (text : List ℕ) (kind : FaultKind) (place : Place) : Type 0 where
  pub large : is_large edition text ≡ true
  pub kind_is : kind ≡ Large
  pub place_is : place ≡ record { line = 1; column = 1 }

-- a text that isn't has that of its parse
pub record IsMalformed (edition : Edition) (text : List ℕ) (kind : FaultKind) (place : Place) : Type 0 where
  pub short : is_large edition text ≡ false
  pub parse : IsParse edition text (Stopped kind place)

-- where a text that is no file of the edition stops
abbrev pub Stops : Edition → List ℕ → FaultKind → Place → Type 0
Stops edition text kind place = IsTooLong edition text kind place ⊎ IsMalformed edition text kind place

-- the first file that doesn't parse, or is too long, stops there
pub record StopsIn (edition : Edition) (files : List (List ℕ × List ℕ)) (fault : Fault) : Type 0 where
  pub front : List Parsed
  pub name : List ℕ
  pub text : List ℕ
  pub rest : List (List ℕ × List ℕ)
  pub kind : FaultKind
  pub place : Place
  pub whole : files ≡ map source_of_parsed front ++ (name, text) ∷ rest
  pub parses : AllParsed edition front
  pub stops : Stops edition text kind place
  pub is : fault ≡ record { file = name; place = place; kind = kind }

-- one of them is the first whose package has another name
pub record HasOther (name : List ℕ) (parsed : List Parsed) (other : Parsed) : Type 0 where
  pub front : List Parsed
  pub rest : List Parsed
  pub whole : parsed ≡ front ++ other ∷ rest
  pub named : AllNamed name front
  pub differs : IsOther other.edition name other.text

-- all files parse, and this is the first whose package name isn't the first file's
pub record DiffersIn (edition : Edition) (files : List (List ℕ × List ℕ)) (fault : Fault) : Type 0 where
  pub first : Parsed
  pub front : List Parsed
  pub other : Parsed
  pub rest : List Parsed
  pub clause : Name
  pub parsed : AreParsed edition files (first ∷ front ++ other ∷ rest)
  pub package_is : IsPackage first.edition first.text clause
  pub named : AllNamed clause.text front
  pub differs : IsOther other.edition clause.text other.text
  pub is : fault ≡ record { file = other.name; place = differs.clause.place; kind = PackageName }

-- all files parse, and have one package name
pub record IsSound (edition : Edition) (files : List (List ℕ × List ℕ)) (parsed : List Parsed) : Type 0 where
  pub first : Parsed
  pub rest : List Parsed
  pub clause : Name
  pub is : parsed ≡ first ∷ rest
  pub parses : AreParsed edition files parsed
  pub package_is : IsPackage first.edition first.text clause
  pub named : AllNamed clause.text rest

-- A file that doesn't parse, or is too long, comes before names that differ. Without imports nothing else is a plan's fault.
abbrev pub IsPlan : Edition → List (List ℕ × List ℕ) → Planned → Type 0
IsPlan edition files NoFiles = files ≡ []
IsPlan edition files (Faulty fault) = StopsIn edition files fault ⊎ DiffersIn edition files fault
IsPlan edition files (Sound parsed) = IsSound edition files parsed

-- the plan of a directory for a set of writes: from the sources alone
abbrev pub IsPlanOf : Edition → List Write → List ℕ → Planned → Type 0
IsPlanOf edition writes directory planned = (sources : List (List ℕ × List ℕ)) × IsSources writes sources × IsPlan edition (package_files directory sources) planned
