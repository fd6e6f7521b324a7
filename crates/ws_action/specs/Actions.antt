-- Actions: what a package is compiled from, when it is refused, the text that stands for it in a digest, and the order by contents.
use Rattle.std.specs.Prelude.{◌≡◌, ◌≢◌, ℕ, ◌<◌, ◌^◌, Bool, true, false, ◌&&◌, List, [], ◌∷◌, ◌++◌, length, map, refl, codes}
use Rattle.std.specs.Fmt.{decimal}
use Rattle.std.specs.List.{All, Contains, flat_map}
use Rattle.std.specs.declared.cmp.Ordering.{Ordering}
use Rattle.std.specs.Ordering.{nat_cmp, ordering_then, is_lt}
use Rattle.std.specs.Coded.{Coded, code_by, coded×, coded_ℕ, coded_list}
use Rattle.std.specs.Cmp.Lexicographic.{slice_cmp}
use Rattle.sha2.specs.Sha256.{sha256}
use Rattle.go_text.specs.Named.{Source}
use Rattle.go_ast.specs.Trees.{Name, File, ImportSpec}
use Rattle.go_text.specs.contracts.edition.Edition as editions
use Rattle.go_text.specs.declared.edition.Edition.{Edition}
use Rattle.go_text.specs.Editions.{edition_number}
use Rattle.go_ast.specs.Parse.{Parsed, Derived, IsParse, IsPackage, IsNamed, IsOther}
use Rattle.go_export.specs.Fields.{be, field}
use Rattle.go_export.specs.Summaries.{Summary, summary_text}
use Rattle.ws_action.specs.declared.ActionError.{ActionError}
use Rattle.ws_action.specs.declared.ActionError.TheVariants.{NoFile, Unordered, MixedNames, NotImports, OtherEdition}

-- a name and a text
abbrev pub Named : Type 0
Named = List ℕ × List ℕ

-- the edition, the package's directory, its files by name and text, and its imports by path and their summary's text
pub record Action : Type 0 where
  pub edition : Edition
  pub path : List ℕ
  pub files : List Named
  pub imports : List Named

abbrev pub coded_named : Coded (List Named)
coded_named = coded_list (coded× (coded_list coded_ℕ) (coded_list coded_ℕ))

-- as a pair of pairs
abbrev pub action_code : Coded Action
action_code = code_by (Edition × (List ℕ × (List Named × List Named))) (coded× editions.the_row.coded (coded× (coded_list coded_ℕ) (coded× coded_named coded_named)))
    (λ a. (a.edition, (a.path, (a.files, a.imports)))) (λ p. record { edition = p.0; path = p.1.0; files = p.1.1.0; imports = p.1.1.1 }) (λ _. refl)

-- a file's name and text
abbrev pub source_with_name : Parsed → Named
source_with_name file = (file.name, file.text)

-- and back, in an edition
abbrev pub parsed_of : Edition → Named → Parsed
parsed_of edition n = record { name = n.0; text = n.1; edition = edition }

-- so is a source's
abbrev pub named_source : Source → Named
named_source source = (source.name, source.text)

-- the path of an imported package and its summary's text
abbrev pub named_summary : Summary → Named
named_summary summary = (summary.path, summary_text summary)

-- the action of an edition, a directory, its parsed files and the summaries of its imports
abbrev pub action_of : Edition → List ℕ → List Parsed → List Summary → Action
action_of edition path files summaries = record { edition = edition; path = path; files = map source_with_name files; imports = map named_summary summaries }

-- ---- refusals

-- by bytes
abbrev pub text_cmp : List ℕ → List ℕ → Ordering
text_cmp = slice_cmp nat_cmp

-- each name is below the next, and the first above `last`
abbrev pub ascends_from : List ℕ → List Named → Bool
ascends_from last [] = true
ascends_from last (next ∷ rest) = is_lt (text_cmp last next.0) && ascends_from next.0 rest

-- each name is below the next
abbrev pub ascends : List Named → Bool
ascends [] = true
ascends (first ∷ rest) = ascends_from first.0 rest

-- so are the names of files, and the paths of summaries
abbrev pub are_names_ordered : List Parsed → List Summary → Bool
are_names_ordered files summaries = ascends (map source_with_name files) && ascends (map named_summary summaries)

-- each has the package name of the first
pub record HaveName (first : Parsed) (files : List Parsed) : Type 0 where
  pub clause : Name
  pub package_is : IsPackage first.edition first.text clause
  pub named : All (λ file. IsNamed file.edition clause.text file.text) files

-- or one of them has another
pub record HaveOther (first : Parsed) (files : List Parsed) : Type 0 where
  pub clause : Name
  pub other : Parsed
  pub package_is : IsPackage first.edition first.text clause
  pub among : Contains files other
  pub differs : IsOther other.edition clause.text other.text

abbrev pub HaveOneName : List Parsed → Type 0
HaveOneName [] = Unit {0}
HaveOneName (first ∷ files) = HaveName first files

abbrev pub HaveOtherName : List Parsed → Type 0
HaveOtherName [] = ⊥
HaveOtherName (first ∷ files) = HaveOther first files

-- the file that a text is in an edition imports a package at this path, other than the library
pub record TextImports (edition : Edition) (text path : List ℕ) : Type 0 where
  pub tree : File
  pub parse : IsParse edition text (Derived tree)
  pub spec : ImportSpec
  pub among : Contains tree.imports spec
  pub is : spec.path ≡ path
  pub other : path ≢ codes "fmt"

-- one of the files does
abbrev pub IsImported : List Parsed → List ℕ → Type 0
IsImported files path = (file : Parsed) × Contains files file × TextImports file.edition file.text path

-- one of the summaries has the path
abbrev pub HasSummary : List Summary → List ℕ → Type 0
HasSummary summaries path = (summary : Summary) × Contains summaries summary × (summary.path ≡ path)

-- the summaries are exactly those of the packages that the files import
pub record AreSummariesOfImports (files : List Parsed) (summaries : List Summary) : Type 0 where
  pub all : (path : List ℕ) → IsImported files path → HasSummary summaries path
  pub only : (path : List ℕ) → HasSummary summaries path → IsImported files path

-- all files and summaries are of this edition
pub record HaveEdition (edition : Edition) (files : List Parsed) (summaries : List Summary) : Type 0 where
  pub of_files : All (λ file. file.edition ≡ edition) files
  pub of_summaries : All (λ summary. summary.edition ≡ edition) summaries

-- they make an action of an edition: there is a file, names and paths are strictly ascending, the files have one package name, the summaries
-- are exactly those of their imports, and all of them are of that edition
pub record MakeAction (edition : Edition) (files : List Parsed) (summaries : List Summary) : Type 0 where
  pub some : files ≢ []
  pub ordered : are_names_ordered files summaries ≡ true
  pub named : HaveOneName files
  pub imported : AreSummariesOfImports files summaries
  pub alike : HaveEdition edition files summaries

-- or the first of these holds
abbrev pub AreRefused : Edition → List Parsed → List Summary → ActionError → Type 0
AreRefused edition files summaries NoFile = files ≡ []
AreRefused edition files summaries Unordered = (files ≢ []) × (are_names_ordered files summaries ≡ false)
AreRefused edition files summaries MixedNames = (are_names_ordered files summaries ≡ true) × HaveOtherName files
AreRefused edition files summaries NotImports = (are_names_ordered files summaries ≡ true) × HaveOneName files × (AreSummariesOfImports files summaries → ⊥)
AreRefused edition files summaries OtherEdition = (are_names_ordered files summaries ≡ true) × HaveOneName files × AreSummariesOfImports files summaries × (HaveEdition edition files summaries → ⊥)

-- ---- texts

-- a file or an import: its name or path, and the digest of its text
abbrev pub named_text : Named → List ℕ
named_text n = field n.0 ++ field (sha256 n.1)

-- how many there are, and each
abbrev pub list_text : List Named → List ℕ
list_text ns = be (length ns) ++ flat_map named_text ns

-- the text that stands for an action: the number of the edition in decimal, the path, the files and the imports
unfoldable pub action_text : Action → List ℕ
action_text a = field (codes "goset action") ++ field (decimal (edition_number a.edition)) ++ field a.path ++ list_text a.files ++ list_text a.imports

-- its digest
unfoldable pub action_id : Action → List ℕ
action_id a = sha256 (action_text a)

-- the numbers in the text fit their bytes
pub record AreSized (ns : List Named) : Type 0 where
  pub count : length ns < 2 ^ 64
  pub names : All (λ n. length n.0 < 2 ^ 64) ns

pub record IsSized (a : Action) : Type 0 where
  pub path : length a.path < 2 ^ 64
  pub files : AreSized a.files
  pub imports : AreSized a.imports

-- ---- the order

-- by name, then text
abbrev pub named_cmp : Named → Named → Ordering
named_cmp m n = ordering_then (text_cmp m.0 n.0) (text_cmp m.1 n.1)

-- imports by the text of the summary, which has the path in it, then by path
abbrev pub import_cmp : Named → Named → Ordering
import_cmp m n = ordering_then (text_cmp m.1 n.1) (text_cmp m.0 n.0)

-- by the files, each by name and text, then by the imports
abbrev pub contents_cmp : List Named × List Named → List Named × List Named → Ordering
contents_cmp a b = ordering_then (slice_cmp named_cmp a.0 b.0) (slice_cmp import_cmp a.1 b.1)

-- by contents: the edition's number, then the path, then the files and the imports
abbrev pub action_cmp : Action → Action → Ordering
action_cmp a b = ordering_then (nat_cmp (edition_number a.edition) (edition_number b.edition)) (ordering_then (text_cmp a.path b.path) (contents_cmp (a.files, a.imports) (b.files, b.imports)))
