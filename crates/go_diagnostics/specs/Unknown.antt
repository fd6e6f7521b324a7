-- Names that nothing declares, and what may be meant by them.
use Rattle.std.specs.Prelude.{◌≡◌, ℕ, ◌+◌, ◌-◌, Bool, false, not, ◌&&◌, ◌==◌, nat_eq, nat_le, List, [], ◌∷◌, ◌++◌, length, map, bytes_eq, Option, Some, None, option_map, slice_range, if◌then◌else◌}
use Rattle.std.specs.List.{filter, find, list_any}
use Rattle.go_scan.specs.Kinds.{kind_eq}
use Rattle.go_scan.specs.declared.punctuation.Punctuation.TheVariants as marks
use Rattle.go_scan.specs.declared.token.Token.{Token}
use Rattle.go_scan.specs.declared.token.TokenKind.TheVariants as kinds
use Rattle.go_diagnostics.specs.Nearest.{IsNearest}
use Rattle.go_diagnostics.specs.Packages.{PackageNames, PackageDeclares}
use Rattle.go_diagnostics.specs.Patterns.{conditions_hold}
use Rattle.go_diagnostics.specs.Tokens.{name_here, token_bytes}
use Rattle.go_diagnostics.specs.declared.package.PackageFile.{PackageFile}
use Rattle.go_diagnostics.specs.declared.table.TheConstants as tables
use Rattle.go_diagnostics.specs.declared.unknown.SimilarName.{SimilarName}
use Rattle.go_diagnostics.specs.declared.unknown.TheConstants as names

-- the names that Go declares and an edition has
abbrev pub predeclared : PackageNames
predeclared = map (λ name. name.now) names.PREDECLARED.now

abbrev pub is_known : PackageNames → List ℕ → Bool
is_known known name = list_any (λ n. bytes_eq n name) known

abbrev pub is_period : Token → Bool
is_period t = kind_eq t.kind (kinds.Punctuation marks.Period)

-- the name that nothing declares in a chain of names `a.b.c`: the first that isn't known, or the last
abbrev pub unknown_name : PackageNames → List ℕ → List Token → Option (List ℕ)
unknown_name known text [] = None
unknown_name known text (t ∷ []) = name_here text (t ∷ [])
unknown_name known text (t ∷ u ∷ ts) =
    if is_period u && is_known known (token_bytes text t) then unknown_name known text ts else name_here text (t ∷ u ∷ ts)

-- ---- imports

-- the bytes of a path behind its last slash
abbrev pub last_element : List ℕ → List ℕ
last_element [] = []
last_element (b ∷ bs) = if list_any (nat_eq 47) bs then last_element bs else (if b == 47 then bs else b ∷ bs)

-- a literal without the quotation marks around it
abbrev pub unquoted : List ℕ → List ℕ
unquoted literal = if nat_le 2 (length literal) then slice_range literal 1 (length literal - 1) else literal

-- the paths that a file imports, in their order
abbrev pub imports : List ℕ → List Token → List Token → PackageNames
imports text before [] = []
imports text before (t ∷ ts) =
    (if kind_eq t.kind kinds.String && list_any (λ r. conditions_hold r before (t ∷ ts)) tables.IMPORTS.now then unquoted (token_bytes text t) ∷ [] else [])
    ++ imports text (t ∷ []) ts

-- the path that a file imports under this name
abbrev pub import_path : List ℕ → List Token → List ℕ → Option (List ℕ)
import_path text tokens name = find (λ path. bytes_eq (last_element path) name) (imports text [] tokens)

-- the path of the package of which a name is taken, and the tokens from that name on: the chain begins with a name that isn't declared, under
-- which the file imports the package
abbrev pub selected_name : PackageNames → List ℕ → List Token → List Token → Option (List ℕ × List Token)
selected_name known text tokens [] = None
selected_name known text tokens (t ∷ []) = None
selected_name known text tokens (t ∷ u ∷ ts) =
    if is_period u && not (is_known known (token_bytes text t))
    then option_map (λ path. (path, ts)) (import_path text tokens (token_bytes text t)) else None

-- a name begins with a capital letter of ASCII
abbrev pub is_exported_name : List ℕ → Bool
is_exported_name [] = false
is_exported_name (letter ∷ letters) = nat_le 65 letter && nat_le letter 90

-- ---- what may be meant

-- an unknown name, and the nearest known one
abbrev pub Pair : Type 0
Pair = List ℕ × List ℕ

abbrev pub similar_pair : SimilarName → Pair
similar_pair name = (name.unknown.now, name.nearest.now)

-- the unknown name of a chain with the nearest of these names; none, where there is no name or none is near
abbrev pub SuggestsOf : PackageNames → Option (List ℕ) → Option Pair → Type 0
SuggestsOf known None found = found ≡ None
SuggestsOf known (Some unknown) found =
    (nearest : Option (List ℕ)) × IsNearest unknown known nearest × (found ≡ option_map (λ name. (unknown, name)) nearest)

abbrev pub SuggestsAmong : PackageNames → List ℕ → List Token → Option Pair → Type 0
SuggestsAmong known text from found = SuggestsOf known (unknown_name known text from) found

-- where a name is taken of an imported package the names are those that this one exports
abbrev pub SuggestsIn : List PackageFile → PackageNames → List ℕ → List Token → Option (List ℕ × List Token) → Option Pair → Type 0
SuggestsIn files known text from None found = SuggestsAmong known text from found
SuggestsIn files known text from (Some (path, rest)) found =
    (declared : PackageNames) × PackageDeclares path files declared × SuggestsAmong (filter is_exported_name declared) text rest found

-- what may be meant at a place where these names are known
abbrev pub SuggestsAt : List PackageFile → PackageNames → List ℕ → List Token → List Token → Option Pair → Type 0
SuggestsAt files known text tokens from found = SuggestsIn files known text from (selected_name known text tokens from) found

-- what may be meant by the name that nothing declares at a place of a file: of its own package, and of what Go declares
abbrev pub Suggests : List ℕ → List PackageFile → List ℕ → List Token → List Token → Option Pair → Type 0
Suggests directory files text tokens from found =
    (declared : PackageNames) × PackageDeclares directory files declared × SuggestsAt files (predeclared ++ declared) text tokens from found
