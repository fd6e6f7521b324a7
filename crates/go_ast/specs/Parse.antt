-- What a source text is parsed to.
use Rattle.std.specs.Prelude.{◌≡◌, ◌≢◌, ◌⊎◌, ℕ, List, [], ◌∷◌, length}
use Rattle.go_text.specs.declared.edition.Edition.{Edition}
use Rattle.go_text.specs.declared.fault.FaultKind.{FaultKind}
use Rattle.go_text.specs.declared.fault.FaultKind.TheVariants as faults
use Rattle.go_text.specs.declared.place.Place.{Place}
use Rattle.go_text.specs.Faults.{fault_number}
use Rattle.go_text.specs.Places.{place_at}
use Rattle.go_scan.specs.declared.fault.ScanFault.{ScanFault}
use Rattle.go_scan.specs.declared.fault.ScanFault.TheVariants.{Malformed, LeftOut}
use Rattle.go_scan.specs.declared.token.Token.{Token}
use Rattle.go_scan.specs.Lex.{Lexes, Refuses}
use Rattle.go_ast.specs.Trees.{Name, File}
use Rattle.go_ast.specs.Grammar.{Lexeme, Derives}
use Rattle.go_ast.specs.Stops.{StopsAt}
use Rattle.go_ast.specs.Tokens.{lexemes}

-- how many levels the tree of a declaration or a function has at most
abbrev pub most_levels : ℕ
most_levels = 250

-- the file that a text is, or the fault by which it is none, and its place
pub data Parse : Type 0 where
  Derived : File → Parse
  Stopped : FaultKind → Place → Parse

-- the kind of a fault of tokens
abbrev pub scan_kind : ScanFault → FaultKind
scan_kind Malformed = faults.Scan
scan_kind LeftOut = faults.LeftOut

-- the place of the first of some tokens, or where there is none the place behind the text's last byte
abbrev pub place_before : List ℕ → List Lexeme → Place
place_before text [] = place_at text (length text)
place_before text (t ∷ ts) = t.place

-- the text has no tokens for a fault of this kind at this place
abbrev pub IsRefused : List ℕ → FaultKind → Place → Type 0
IsRefused text kind place = (fault : ScanFault) × Refuses text fault place × (kind ≡ scan_kind fault)

-- the text's tokens stop being a file by a fault of this kind at this place
abbrev pub StopsBeing : Edition → List ℕ → FaultKind → Place → Type 0
StopsBeing e text kind place =
    (ts : List Token) × (bad : List Lexeme) × Lexes text ts × StopsAt e most_levels (lexemes text ts) (fault_number kind) bad
    × (place ≡ place_before text bad)

-- in that edition a text's tokens are a file; or it has none, or they stop being one
unfoldable pub IsParse : Edition → List ℕ → Parse → Type 0
IsParse e text (Derived file) = (ts : List Token) × Lexes text ts × Derives e most_levels (lexemes text ts) file
IsParse e text (Stopped kind place) = IsRefused text kind place ⊎ StopsBeing e text kind place

-- a text that is a file, whose package clause has this name
abbrev pub IsPackage : Edition → List ℕ → Name → Type 0
IsPackage e text name = (file : File) × IsParse e text (Derived file) × (name ≡ file.package)

-- the file that a text is has a package name that is written so
pub record IsNamed (e : Edition) (name text : List ℕ) : Type 0 where
  pub clause : Name
  pub package_is : IsPackage e text clause
  pub same : clause.text ≡ name

-- or otherwise
pub record IsOther (e : Edition) (name text : List ℕ) : Type 0 where
  pub clause : Name
  pub package_is : IsPackage e text clause
  pub other : clause.text ≢ name

-- a source that is a file: the file's name and the text, which has one tree in that edition
pub record Parsed : Type 0 where
  pub name : List ℕ
  pub text : List ℕ
  pub edition : Edition
