-- Files of packages, and the names that they declare.
use Rattle.std.specs.Prelude.{◌≡◌, ℕ, Bool, false, ◌&&◌, ◌⊎◌, List, [], ◌∷◌, ◌++◌, bytes_eq, Option, string_bytes, if◌then◌else◌}
use Rattle.std.specs.List.{filter, find, list_any}
use Rattle.go_text.specs.declared.place.Place.{Place}
use Rattle.go_scan.specs.Kinds.{kind_eq}
use Rattle.go_scan.specs.Lex.{Lexes, Refuses}
use Rattle.go_scan.specs.declared.fault.ScanFault.{ScanFault}
use Rattle.go_scan.specs.declared.token.Token.{Token}
use Rattle.go_scan.specs.declared.token.TokenKind.TheVariants as kinds
use Rattle.go_diagnostics.specs.Patterns.{conditions_hold}
use Rattle.go_diagnostics.specs.Tokens.{token_bytes}
use Rattle.go_diagnostics.specs.declared.package.PackageFile.{PackageFile}
use Rattle.go_diagnostics.specs.declared.table.TheConstants as tables

abbrev pub PackageNames : Type 0
PackageNames = List (List ℕ)

-- a file lies in this directory
abbrev pub lies_in_directory : List ℕ → PackageFile → Bool
lies_in_directory directory file = bytes_eq (string_bytes file.directory) directory

-- and has this name there
abbrev pub is_named : List ℕ → List ℕ → PackageFile → Bool
is_named directory name file = lies_in_directory directory file && bytes_eq file.source.name name

-- the file of a name in a directory: the first that is given
abbrev pub file_named : List ℕ → List ℕ → List PackageFile → Option PackageFile
file_named directory name files = find (is_named directory name) files

-- a name stands there that is declared there: `before` has the token before it, if there is one
abbrev pub is_declared : List Token → List Token → Bool
is_declared before [] = false
is_declared before (t ∷ ts) = kind_eq t.kind kinds.Name && list_any (λ r. conditions_hold r before (t ∷ ts)) tables.DECLARATIONS.now

-- the names that tokens declare, in their order
abbrev pub declared_names : List ℕ → List Token → List Token → PackageNames
declared_names text before [] = []
declared_names text before (t ∷ ts) =
    (if is_declared before (t ∷ ts) then token_bytes text t ∷ [] else []) ++ declared_names text (t ∷ []) ts

-- the names that a text declares; one that isn't a row of tokens declares none
abbrev pub Declares : List ℕ → PackageNames → Type 0
Declares text names =
    ((tokens : List Token) × Lexes text tokens × (names ≡ declared_names text [] tokens))
    ⊎ ((why : ScanFault) × (place : Place) × Refuses text why place × (names ≡ []))

-- the names that files declare
abbrev pub AllDeclare : List PackageFile → PackageNames → Type 0
AllDeclare [] names = names ≡ []
AllDeclare (file ∷ files) names =
    (first : PackageNames) × (others : PackageNames) × Declares file.source.text first × AllDeclare files others × (names ≡ first ++ others)

-- those that the package in a directory declares
abbrev pub PackageDeclares : List ℕ → List PackageFile → PackageNames → Type 0
PackageDeclares directory files names = AllDeclare (filter (lies_in_directory directory) files) names
