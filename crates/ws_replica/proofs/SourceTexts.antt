-- The files of a plan are texts, as the sources are that are held, and so are those that its trees are of.
use Rattle.std.proofs.Common.{◌≡◌, ◌≤◌, ℕ, Bool, true, false, List, [], ◌∷◌, length, map, Some, refl, sym, ap, subst, inl, inr, arith}
use Rattle.std.specs.Prelude.{pos}
use Rattle.std.specs.List.{Contains, list_all}
use Rattle.std.proofs.lemmas.Bool.{and_from, lt-ltb}
use Rattle.go_text.specs.declared.edition.Edition.{Edition}
use Rattle.go_text.specs.declared.edition.Edition.TheVariants.{Two}
use Rattle.go_text.proofs.Texts.{valid_is_short}
use Rattle.go_ast.specs.Parse.{Parsed, Derived, IsParse}
use Rattle.go_ast.specs.Trees.{File}
use Rattle.go_check.specs.Checked.{AreTrees}
use Rattle.go_const.specs.declared.kind.IntKind.TheVariants as integers
use Rattle.go_const.specs.Constants.{fits}
use Rattle.go_meaning_laws.specs.WellTyped.{is_text}
use Rattle.go_package_laws.specs.Packages.{AreOfTexts}
use Rattle.ws_path.specs.Paths.{file_name}
use Rattle.ws_version.specs.Writes.{Write, IsText, is_byte}
use Rattle.ws_register.specs.Sources.{is_in, by_file_name, IsSources, HasFiles}
use Rattle.ws_action.specs.Actions.{source_with_name}
use Rattle.ws_action.proofs.Members.{none_in_empty, head_or_later, at_head, later}
use Rattle.ws_graph.specs.Packages.{is_built, package_files}
use Rattle.ws_graph.specs.Plan.{AllParsed, IsSound}
use Rattle.ws_graph.proofs.Filed.{files_step}

abbrev Pair : Type 0
Pair = List ℕ × List ℕ

-- ---- source texts are no longer than an int counts

pub text_is : (text : List ℕ) → IsText text → is_text text ≡ true
text_is text h =
    let short : length text ≤ 4194304 = valid_is_short Two text h.valid in
    and_from (list_all is_byte text) (fits (Some integers.Int) (pos (length text))) h.bytes (lt-ltb (length text) 9223372036854775808 (omega (arith, short)))

-- ---- the files of a directory are sources

abbrev OfSource : List Pair → Pair → Type 0
OfSource ss n = (s : Pair) × Contains ss s × (n.1 ≡ s.1)

next : (s : Pair) (ss : List Pair) (n : Pair) → OfSource ss n → OfSource (s ∷ ss) n
next s ss n (t, c, e) = (t, later {A = Pair} s ss t c, e)

file_step : (dir : List ℕ) (s : Pair) (ss : List Pair) (b c : Bool) → is_in dir s.0 ≡ b → is_built (file_name s.0) ≡ c → (n : Pair) → Contains (package_files dir (s ∷ ss)) n → (Contains (package_files dir ss) n → OfSource ss n) → OfSource (s ∷ ss) n
file_step dir s ss true true e f n c rest = elim (head_or_later {A = Pair} (by_file_name s) (package_files dir ss) n (subst (λ xs. Contains xs n) (files_step dir s ss true true e f) c)) [
  | inl same ↦ (s, at_head {A = Pair} ss s s refl, sym (ap (λ (x : Pair). x.1) same))
  | inr l ↦ next s ss n (rest l)
]
file_step dir s ss true false e f n c rest = next s ss n (rest (subst (λ xs. Contains xs n) (files_step dir s ss true false e f) c))
file_step dir s ss false b e f n c rest = next s ss n (rest (subst (λ xs. Contains xs n) (files_step dir s ss false b e f) c))

of_source : (dir : List ℕ) (ss : List Pair) (n : Pair) → Contains (package_files dir ss) n → OfSource ss n
of_source dir [] n c = absurd (none_in_empty {A = Pair} n c)
of_source dir (s ∷ ss) n c = file_step dir s ss (is_in dir s.0) (is_built (file_name s.0)) refl refl n c (λ d. of_source dir ss n d)

contains_source : (files : List Parsed) (file : Parsed) → Contains files file → Contains (map source_with_name files) (source_with_name file)
contains_source [] file c = absurd (none_in_empty file c)
contains_source (f ∷ files) file c = elim (head_or_later f files file c) [
  | inl same ↦ at_head {A = Pair} (map source_with_name files) (source_with_name f) (source_with_name file) (ap source_with_name same)
  | inr l ↦ later {A = Pair} (source_with_name f) (map source_with_name files) (source_with_name file) (contains_source files file l)
]

-- each file of a sound directory has a text
pub files_are_text : (edition : Edition) (W : List Write) → HasFiles W → (sources : List Pair) → IsSources W sources → (path : List ℕ) (files : List Parsed) → IsSound edition (package_files path sources) files → (file : Parsed) → Contains files file → is_text file.text ≡ true
files_are_text edition W has sources of path files sound file c =
    let there : Contains (package_files path sources) (source_with_name file) = subst (λ (xs : List Pair). Contains xs (source_with_name file)) sound.parses.sources (contains_source files file c) in
    let s = of_source path sources (source_with_name file) there in
    text_is file.text (subst IsText (sym s.2) (has sources of s.0 s.1).text)

-- so the trees of its files are of texts
pub trees_are_of_texts : (edition : Edition) (files : List Parsed) (trees : List File) → AllParsed edition files → AreTrees files trees → ((file : Parsed) → Contains files file → is_text file.text ≡ true) → AreOfTexts edition trees
trees_are_of_texts edition [] [] parsed are texts = tt
trees_are_of_texts edition [] (tree ∷ trees) parsed are texts = absurd are
trees_are_of_texts edition (file ∷ files) [] parsed are texts = absurd are
trees_are_of_texts edition (file ∷ files) (tree ∷ trees) parsed are texts =
    let parse : IsParse edition file.text (Derived tree) = subst (λ e. IsParse e file.text (Derived tree)) parsed.0.of are.0 in
    ((file.text, parse, texts file (at_head files file file refl)), trees_are_of_texts edition files trees parsed.1 are.1 (λ f c. texts f (later file files f c)))
