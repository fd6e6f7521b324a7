-- The files of a plan's directory and the summaries of its imports make an action.
use Rattle.std.proofs.Common.{◌≡◌, ◌≢◌, ◌<◌, ◌&&◌, ℕ, zero, suc, Bool, true, false, not, cond, List, [], ◌∷◌, ◌++◌, length, map, codes, Some, None, Option, refl, sym, ap, subst, ◌∙◌, inl, inr, arith}
use Rattle.std.specs.Prelude.{◌+◌, slice_index, nat_le, T}
use Rattle.std.specs.Option.{option_map}
use Rattle.std.specs.List.{All, AllByRecursion, Contains, cons_option, filter, slice_get}
use Rattle.std.specs.List.Sorted.{IsStrictlySortedBy, IsStrictlyIncreasing}
use Rattle.std.specs.Ordering.{is_lt, ordering_then}
use Rattle.std.specs.declared.cmp.Ordering.{Ordering}
use Rattle.std.specs.Str.{bytes_eq}
use Rattle.std.specs.declared.cmp.Ordering.TheVariants.{Less, Equal, Greater}
use Rattle.std.proofs.lemmas.Cmp.{tied_itself, nat_cmp_total}
use Rattle.std.specs.FinMap.{entries, entries_sorted, is_sorted}
use Rattle.std.proofs.lemmas.Slice.Eq.{bytes_eq-Decides}
use Rattle.std.proofs.lemmas.List.Elements.{All-nil, All-cons, Contains-append_left, Contains-append_right, Contains-append_cases}
use Rattle.std.proofs.lemmas.Option.{slice_get-map}
use Rattle.go_text.specs.declared.edition.Edition.{Edition}
use Rattle.go_ast.specs.Trees.{File, ImportSpec}
use Rattle.go_ast.specs.Parse.{Parsed, Derived, IsParse, IsNamed}
use Rattle.go_typed.specs.Trees.{Package}
use Rattle.go_package.specs.Imports.{Importable}
use Rattle.go_export.specs.Summaries.{Summary, summary_of}
use Rattle.ws_path.specs.Paths.{directory, file_name, is_path, has_two_elements, has_elements, is_go_file, is_reserved}
use Rattle.ws_path.proofs.Cuts.{two_parts}
use Rattle.ws_version.specs.Writes.{Write, path_cmp}
use Rattle.ws_register.specs.Sources.{IsSources, texts_of, is_in, by_file_name, HasFiles}
use Rattle.ws_graph.proofs.Filed.{files_step}
use Rattle.ws_action.specs.Actions.{Named, MakeAction, HaveOneName, HasSummary, IsImported, ascends, ascends_from, text_cmp, named_summary, source_with_name}
use Rattle.ws_action.proofs.Members.{none_in_empty, head_or_later, at_head, later}
use Rattle.ws_cache.specs.Compiles.{AreGood}
use Rattle.ws_reach.specs.Reach as reach
use Rattle.ws_graph.specs.Packages.{is_built, package_files}
use Rattle.go_check.specs.Checked.{package_edition}
use Rattle.ws_reach.proofs.Reached.{get_contains}
use Rattle.ws_graph.specs.Plan.{Sound, AllParsed, AllNamed, IsSound}
use Rattle.ws_graph.specs.BuildPlan as plan
use Rattle.ws_graph.specs.BuildPlan.{Sources, Directory, Import, AreDirectoryImports, HasImport, HasNoFiles, ImportsAreSound, directory_imports, names_directory, paths_of, IsPlannedAs, IsBuildPlanOf}
use Rattle.ws_graph.proofs.OnePlan.{one_file, one_parsed}
use Rattle.ws_graph.proofs.Wholes.{IsWhole, IsWholeOf, whole_plan_of}
use Rattle.ws_replica.specs.Reports.{DirectoryOutcome, Blocked, Good, outcome_at, ArePackages, IsReady, IsDirectoryOutcome, AreDirectoryOutcomes}
use Rattle.ws_replica.proofs.Numbered.{some_same, member_at}
use Rattle.ws_replica.proofs.OneBuild.{fate_of, fate_past, at_fate, past_fate}

-- ---- names

all_named : (name : List ℕ) (files : List Parsed) → AllNamed name files → All (λ file. IsNamed file.edition name file.text) files
all_named name [] h = All-nil (λ (file : Parsed). IsNamed file.edition name file.text)
all_named name (f ∷ files) h = All-cons (λ (file : Parsed). IsNamed file.edition name file.text) f files h.0 (all_named name files h.1)

have_name : (edition : Edition) (pairs : List (List ℕ × List ℕ)) (files : List Parsed) → IsSound edition pairs files → HaveOneName files
have_name edition pairs files h = subst HaveOneName (sym h.is) (record { clause = h.clause; package_is = h.package_is; named = all_named h.clause.text h.rest h.named })

not_empty : (edition : Edition) (pairs : List (List ℕ × List ℕ)) (files : List Parsed) → IsSound edition pairs files → files ≢ []
not_empty edition pairs files h e = let no : h.first ∷ h.rest ≡ [] = sym h.is ∙ e in cc (no)

-- ---- imports

abbrev import_by : List ℕ → ImportSpec → Import
import_by name spec = record { file = name; spec = spec }

filtered : (name : List ℕ) (s : ImportSpec) (specs : List ImportSpec) (b : Bool) → names_directory s ≡ b → directory_imports name (s ∷ specs) ≡ cond b (import_by name s ∷ directory_imports name specs) (directory_imports name specs)
filtered name s specs true e = ap (λ t. map (import_by name) (cond t (s ∷ filter names_directory specs) (filter names_directory specs))) e
filtered name s specs false e = ap (λ t. map (import_by name) (cond t (s ∷ filter names_directory specs) (filter names_directory specs))) e

into_step : (name : List ℕ) (s : ImportSpec) (specs : List ImportSpec) (spec : ImportSpec) (b : Bool) → names_directory s ≡ b → Contains (s ∷ specs) spec → names_directory spec ≡ true → (Contains specs spec → Contains (directory_imports name specs) (import_by name spec))
    → Contains (directory_imports name (s ∷ specs)) (import_by name spec)
into_step name s specs spec true f c e rest = subst (λ xs. Contains xs (import_by name spec)) (sym (filtered name s specs true f)) (elim (head_or_later s specs spec c) [
  | inl same ↦ at_head (directory_imports name specs) (import_by name s) (import_by name spec) (ap (import_by name) same)
  | inr l ↦ later (import_by name s) (directory_imports name specs) (import_by name spec) (rest l)
])
into_step name s specs spec false f c e rest = subst (λ xs. Contains xs (import_by name spec)) (sym (filtered name s specs false f)) (elim (head_or_later s specs spec c) [
  | inl same ↦ absurd (let no : false ≡ true = sym f ∙ ap names_directory same ∙ e in cc (no))
  | inr l ↦ rest l
])

-- an import that names a directory is one of the file's
into_imports : (name : List ℕ) (specs : List ImportSpec) (spec : ImportSpec) → Contains specs spec → names_directory spec ≡ true → Contains (directory_imports name specs) (import_by name spec)
into_imports name [] spec c e = absurd (none_in_empty spec c)
into_imports name (s ∷ specs) spec c e = into_step name s specs spec (names_directory s) refl c e (λ d. into_imports name specs spec d e)

abbrev From : List ℕ → List ImportSpec → Import → Type 0
From name specs i = (spec : ImportSpec) × Contains specs spec × (names_directory spec ≡ true) × (i ≡ import_by name spec)

from_step : (name : List ℕ) (s : ImportSpec) (specs : List ImportSpec) (i : Import) (b : Bool) → names_directory s ≡ b → Contains (directory_imports name (s ∷ specs)) i → (Contains (directory_imports name specs) i → From name specs i) → From name (s ∷ specs) i
from_step name s specs i true f c rest = elim (head_or_later (import_by name s) (directory_imports name specs) i (subst (λ xs. Contains xs i) (filtered name s specs true f) c)) [
  | inl same ↦ (s, at_head specs s s refl, f, sym same)
  | inr l ↦ (let r = rest l in (r.0, later s specs r.0 r.1, r.2, r.3))
]
from_step name s specs i false f c rest = (let r = rest (subst (λ xs. Contains xs i) (filtered name s specs false f) c) in (r.0, later s specs r.0 r.1, r.2, r.3))

from_imports : (name : List ℕ) (specs : List ImportSpec) (i : Import) → Contains (directory_imports name specs) i → From name specs i
from_imports name [] i c = absurd (none_in_empty i c)
from_imports name (s ∷ specs) i c = from_step name s specs i (names_directory s) refl c (λ d. from_imports name specs i d)

-- ---- the library is no directory

fmt_or_not : (b : Bool) → b ≡ false → not b ≡ true
fmt_or_not true e = cc (e)
fmt_or_not false e = refl

test_false : (a b : List ℕ) (v : Bool) → bytes_eq a b ≡ v → a ≢ b → v ≡ false
test_false a b true e ne = absurd (ne ((bytes_eq-Decides a b).0 e))
test_false a b false e ne = refl

is_directory : (spec : ImportSpec) → spec.path ≢ codes "fmt" → names_directory spec ≡ true
is_directory spec ne = fmt_or_not (bytes_eq spec.path (codes "fmt")) (test_false spec.path (codes "fmt") (bytes_eq spec.path (codes "fmt")) refl ne)

not_true : (b : Bool) → not b ≡ true → b ≡ true → ⊥
not_true true e f = cc (e)
not_true false e f = cc (f)

not_library : (spec : ImportSpec) → names_directory spec ≡ true → spec.path ≢ codes "fmt"
not_library spec e same = not_true (bytes_eq spec.path (codes "fmt")) e ((bytes_eq-Decides spec.path (codes "fmt")).1 same)

-- of some files
all_into : (files : List Parsed) (imports : List Import) → AreDirectoryImports files imports → (file : Parsed) → Contains files file → (tree : File) → IsParse file.edition file.text (Derived tree) → (spec : ImportSpec) → Contains tree.imports spec → names_directory spec ≡ true
    → (i : Import) × Contains imports i × (i.spec ≡ spec)
all_into [] imports are file c tree parse spec among e = absurd (none_in_empty file c)
all_into (p ∷ ps) imports (first, rest, its, others, is) file c tree parse spec among e = elim (head_or_later p ps file c) [
  | inl same ↦ (
      let one : first ≡ tree = one_file file.edition file.text first tree (subst (λ (x : Parsed). IsParse x.edition x.text (Derived first)) same its) parse in
      let here : Contains (directory_imports p.name first.imports) (import_by p.name spec) = into_imports p.name first.imports spec (subst (λ (t : File). Contains t.imports spec) (sym one) among) e in
      (import_by p.name spec, subst (λ xs. Contains xs (import_by p.name spec)) (sym is) (Contains-append_left (directory_imports p.name first.imports) rest (import_by p.name spec) here), refl))
  | inr l ↦ (
      let found = all_into ps rest others file l tree parse spec among e in
      (found.0, subst (λ xs. Contains xs found.0) (sym is) (Contains-append_right (directory_imports p.name first.imports) rest found.0 found.1), found.2))
]

all_from : (files : List Parsed) (imports : List Import) → AreDirectoryImports files imports → (i : Import) → Contains imports i
    → (file : Parsed) × Contains files file × ((tree : File) × IsParse file.edition file.text (Derived tree) × Contains tree.imports i.spec) × (names_directory i.spec ≡ true)
all_from [] imports are i c = absurd (none_in_empty i (subst (λ xs. Contains xs i) are c))
all_from (p ∷ ps) imports (first, rest, its, others, is) i c = elim (Contains-append_cases (directory_imports p.name first.imports) rest i (subst (λ xs. Contains xs i) is c)) [
  | inl l ↦ (
      let found = from_imports p.name first.imports i l in
      let spec : i.spec ≡ found.0 = ap (λ (x : Import). x.spec) found.3 in
      (p, at_head ps p p refl, (first, its, subst (Contains first.imports) (sym spec) found.1), ap names_directory spec ∙ found.2))
  | inr r ↦ (
      let found = all_from ps rest others i r in
      (found.0, later p ps found.0 found.1, found.2, found.3))
]

-- ---- a typed package has the path that it was checked at

typed_path : (path : List ℕ) (files : List Parsed) (imports : List Importable) (p : Package) → AreGood path files imports p → p.path ≡ path
typed_path path files imports p h = ap (λ (x : Package). x.path) h.are.is.is ∙ ap (λ x. x.path) h.are.is.are.package_is

-- ---- texts that ascend

less_lt : (a b : List ℕ) → text_cmp a b ≡ Less → is_lt (text_cmp a b) ≡ true
less_lt a b e = ap is_lt e

abbrev list_below : List ℕ → List Write → Bool
list_below x [] = true
list_below x (e ∷ es) = is_lt (path_cmp x e.0) && list_below x es

abbrev NamesBelow : List ℕ → List Named → Type 0
NamesBelow last ns = (n : Named) → Contains ns n → text_cmp last n.0 ≡ Less

-- each is below all behind it
abbrev Ascend : List Named → Type 0
Ascend [] = Unit {0}
Ascend (n ∷ ns) = NamesBelow n.0 ns × Ascend ns

and_both : (a b : Bool) → a ≡ true → b ≡ true → (a && b) ≡ true
and_both a b g h = ap (λ z. z && b) g ∙ h

ascends_by : (last : List ℕ) (ns : List Named) → NamesBelow last ns → Ascend ns → ascends_from last ns ≡ true
ascends_by last [] below h = refl
ascends_by last (n ∷ ns) below h =
    and_both (is_lt (text_cmp last n.0)) (ascends_from n.0 ns) (less_lt last n.0 (below n (at_head ns n n refl))) (ascends_by n.0 ns h.0 h.1)

ascends_all : (ns : List Named) → Ascend ns → ascends ns ≡ true
ascends_all [] h = refl
ascends_all (n ∷ ns) h = ascends_by n.0 ns h.0 h.1

-- ---- files of a directory ascend by name

and_left : (a b : Bool) → (a && b) ≡ true → a ≡ true
and_left true b e = refl
and_left false b e = cc (e)

and_right : (a b : Bool) → (a && b) ≡ true → b ≡ true
and_right true b e = e
and_right false b e = cc (e)

-- a path is its directory, a slash and its file's name
cut : (path : List ℕ) → is_path path ≡ true → path ≡ directory path ++ 47 ∷ file_name path
cut path is =
    let two : has_two_elements path ≡ true = and_left (has_two_elements path) (has_elements path && (is_go_file (file_name path) && not (is_reserved (directory path))))
    (and_right (nat_le (length path) 200) (has_two_elements path && (has_elements path && (is_go_file (file_name path) && not (is_reserved (directory path))))) is) in
    two_parts 47 path two

same_front : (xs ys zs : List ℕ) → text_cmp (xs ++ ys) (xs ++ zs) ≡ text_cmp ys zs
same_front [] ys zs = refl
same_front (x ∷ xs) ys zs = ap (λ o. ordering_then o (text_cmp (xs ++ ys) (xs ++ zs))) (tied_itself nat_cmp_total x) ∙ same_front xs ys zs

-- of two paths of a directory, the lesser has the lesser name
names_less : (dir p q : List ℕ) → is_path p ≡ true → is_path q ≡ true → directory p ≡ dir → directory q ≡ dir → path_cmp p q ≡ Less → text_cmp (file_name p) (file_name q) ≡ Less
names_less dir p q g h d e less =
    let first : p ≡ dir ++ 47 ∷ file_name p = cut p g ∙ ap (λ x. x ++ 47 ∷ file_name p) d in
    let second : q ≡ dir ++ 47 ∷ file_name q = cut q h ∙ ap (λ x. x ++ 47 ∷ file_name q) e in
    let front : text_cmp (dir ++ 47 ∷ file_name p) (dir ++ 47 ∷ file_name q) ≡ text_cmp (47 ∷ file_name p) (47 ∷ file_name q) = same_front dir (47 ∷ file_name p) (47 ∷ file_name q) in
    let slash : text_cmp (47 ∷ file_name p) (47 ∷ file_name q) ≡ text_cmp (file_name p) (file_name q) = same_front (47 ∷ []) (file_name p) (file_name q) in
    sym slash ∙ sym front ∙ sym (ap (λ x. text_cmp x (dir ++ 47 ∷ file_name q)) first ∙ ap (text_cmp (dir ++ 47 ∷ file_name p)) refl) ∙ sym (ap (text_cmp p) second) ∙ less

abbrev Pair : Type 0
Pair = List ℕ × List ℕ

-- each path is below those behind it
abbrev pub Sorted : List Pair → Type 0
Sorted [] = Unit {0}
Sorted (s ∷ ss) = ((t : Pair) → Contains ss t → path_cmp s.0 t.0 ≡ Less) × Sorted ss

abbrev pub Valid : List Pair → Type 0
Valid ss = (s : Pair) → Contains ss s → is_path s.0 ≡ true

abbrev pub OfFile : List ℕ → List Pair → Named → Type 0
OfFile dir ss n = (t : Pair) × Contains ss t × (directory t.0 ≡ dir) × (n.0 ≡ file_name t.0)

file_of : (dir : List ℕ) (s : Pair) (ss : List Pair) (b c : Bool) → is_in dir s.0 ≡ b → is_built (file_name s.0) ≡ c → (n : Named) → Contains (package_files dir (s ∷ ss)) n → (Contains (package_files dir ss) n → OfFile dir ss n) → OfFile dir (s ∷ ss) n
file_of dir s ss true true e f n c rest = elim (head_or_later {A = Pair} (by_file_name s) (package_files dir ss) n (subst (λ xs. Contains xs n) (files_step dir s ss true true e f) c)) [
  | inl same ↦ (s, at_head {A = Pair} ss s s refl, (bytes_eq-Decides (directory s.0) dir).0 e, sym (ap (λ (x : Pair). x.0) same))
  | inr l ↦ (let r = rest l in (r.0, later {A = Pair} s ss r.0 r.1, r.2, r.3))
]
file_of dir s ss true false e f n c rest = (let r = rest (subst (λ xs. Contains xs n) (files_step dir s ss true false e f) c) in (r.0, later {A = Pair} s ss r.0 r.1, r.2, r.3))
file_of dir s ss false b e f n c rest = (let r = rest (subst (λ xs. Contains xs n) (files_step dir s ss false b e f) c) in (r.0, later {A = Pair} s ss r.0 r.1, r.2, r.3))

pub files_from : (dir : List ℕ) (ss : List Pair) (n : Named) → Contains (package_files dir ss) n → OfFile dir ss n
files_from dir [] n c = absurd (none_in_empty {A = Named} n c)
files_from dir (s ∷ ss) n c = file_of dir s ss (is_in dir s.0) (is_built (file_name s.0)) refl refl n c (λ d. files_from dir ss n d)

ascend_step : (dir : List ℕ) (s : Pair) (ss : List Pair) (b c : Bool) → is_in dir s.0 ≡ b → is_built (file_name s.0) ≡ c → Sorted (s ∷ ss) → Valid (s ∷ ss) → Ascend (package_files dir ss) → Ascend (package_files dir (s ∷ ss))
ascend_step dir s ss true true e f sorted valid rest = subst Ascend (sym (files_step dir s ss true true e f)) (
  (λ n c. (let t = files_from dir ss n c in
      subst (λ x. text_cmp (file_name s.0) x ≡ Less) (sym t.3)
      (names_less dir s.0 (t.0).0 (valid s (at_head {A = Pair} ss s s refl)) (valid t.0 (later {A = Pair} s ss t.0 t.1)) ((bytes_eq-Decides (directory s.0) dir).0 e) t.2 (sorted.0 t.0 t.1)))),
  rest,
)
ascend_step dir s ss true false e f sorted valid rest = subst Ascend (sym (files_step dir s ss true false e f)) rest
ascend_step dir s ss false b e f sorted valid rest = subst Ascend (sym (files_step dir s ss false b e f)) rest

ascend_files : (dir : List ℕ) (ss : List Pair) → Sorted ss → Valid ss → Ascend (package_files dir ss)
ascend_files dir [] sorted valid = tt
ascend_files dir (s ∷ ss) sorted valid =
    ascend_step dir s ss (is_in dir s.0) (is_built (file_name s.0)) refl refl sorted valid (ascend_files dir ss sorted.1 (λ t c. valid t (later {A = Pair} s ss t c)))

-- ---- sources ascend by path

first_part : (a b : Bool) → T (a && b) → T a
first_part true b h = tt
first_part false b h = absurd h

second_part : (a b : Bool) → T (a && b) → T b
second_part true b h = h
second_part false b h = absurd h

less_of : (o : Ordering) → T (is_lt o) → o ≡ Less
less_of Less h = refl
less_of Equal h = absurd h
less_of Greater h = absurd h

OfWrite : List Write → Pair → Type 0
OfWrite ws s = (w : Write) × Contains ws w × (s.0 ≡ w.0)

kept : (w : Write) (o : Option (List ℕ)) → w.1.text ≡ o → (ws : List Write) → texts_of (w ∷ ws) ≡ elim o [ None ↦ texts_of ws | Some text ↦ (w.0, text) ∷ texts_of ws ]
kept w None e ws = ap (λ o. cons_option (option_map (λ text. let p : Pair = (w.0, text) in p) o) (texts_of ws)) e
kept w (Some text) e ws = ap (λ o. cons_option (option_map (λ text. let p : Pair = (w.0, text) in p) o) (texts_of ws)) e

text_step : (w : Write) (ws : List Write) (o : Option (List ℕ)) → w.1.text ≡ o → (s : Pair) → Contains (texts_of (w ∷ ws)) s → (Contains (texts_of ws) s → OfWrite ws s) → OfWrite (w ∷ ws) s
unfolding OfWrite
text_step w ws None e s c rest = (let r = rest (subst (λ xs. Contains xs s) (kept w None e ws) c) in (r.0, later {A = Write} w ws r.0 r.1, r.2))
text_step w ws (Some text) e s c rest = elim (head_or_later {A = Pair} (w.0, text) (texts_of ws) s (subst (λ xs. Contains xs s) (kept w (Some text) e ws) c)) [
  | inl same ↦ (w, at_head {A = Write} ws w w refl, sym (ap (λ (x : Pair). x.0) same))
  | inr l ↦ (let r = rest l in (r.0, later {A = Write} w ws r.0 r.1, r.2))
]

text_from : (ws : List Write) (s : Pair) → Contains (texts_of ws) s → OfWrite ws s
text_from [] s c = absurd (none_in_empty {A = Pair} s c)
text_from (w ∷ ws) s c = text_step w ws w.1.text refl s c (λ d. text_from ws s d)

all_above : (x : List ℕ) (es : List Write) → T (list_below x es) → (w : Write) → Contains es w → path_cmp x w.0 ≡ Less
all_above x [] h w c = absurd (none_in_empty {A = Write} w c)
all_above x (e ∷ es) h w c = elim (head_or_later {A = Write} e es w c) [
  | inl same ↦ subst (λ (z : Write). path_cmp x z.0 ≡ Less) same (less_of (path_cmp x e.0) (first_part (is_lt (path_cmp x e.0)) (list_below x es) h))
  | inr l ↦ all_above x es (second_part (is_lt (path_cmp x e.0)) (list_below x es) h) w l
]

sorted_step : (w : Write) (ws : List Write) (o : Option (List ℕ)) → w.1.text ≡ o → T (is_sorted path_cmp (w ∷ ws)) → Sorted (texts_of ws) → Sorted (texts_of (w ∷ ws))
unfolding OfWrite
sorted_step w ws None e h rest = subst Sorted (sym (kept w None e ws)) rest
sorted_step w ws (Some text) e h rest = subst Sorted (sym (kept w (Some text) e ws)) (
  (λ t c. (let r = text_from ws t c in subst (λ x. path_cmp w.0 x ≡ Less) (sym r.2) (all_above w.0 ws (first_part (list_below w.0 ws) (is_sorted path_cmp ws) h) r.0 r.1))),
  rest,
)

sorted_texts : (ws : List Write) → T (is_sorted path_cmp ws) → Sorted (texts_of ws)
sorted_texts [] h = tt
sorted_texts (w ∷ ws) h = sorted_step w ws w.1.text refl h (sorted_texts ws (second_part (list_below w.0 ws) (is_sorted path_cmp ws) h))

-- the sources of writes ascend, and their paths are paths
pub sources_good : (W : List Write) → HasFiles W → (ss : List Pair) → IsSources W ss → Sorted ss × Valid ss
unfolding OfWrite
sources_good W files ss (m, stands, is) = (
  subst Sorted (sym is) (sorted_texts (entries m) (entries_sorted m)),
  λ s c. (files ss (m, stands, is) s c).path,
)

-- one import further
walked : (edition : Edition) (sources : Sources) (a p q : List ℕ) (steps : List (List ℕ)) → reach.Walks (plan.Imports edition sources) a steps p → plan.Imports edition sources p q → reach.Walks (plan.Imports edition sources) a (steps ++ q ∷ []) q
walked edition sources a p q [] h leads = (subst (λ x. plan.Imports edition sources x q) (sym h) leads, refl)
walked edition sources a p q (r ∷ steps) h leads = (h.0, walked edition sources r p q steps h.1 leads)

pub further : (edition : Edition) (sources : Sources) (target p q : List ℕ) → plan.ReachesByImports edition sources target p → plan.Imports edition sources p q → plan.ReachesByImports edition sources target q
further edition sources target p q (steps, walks) leads = (steps ++ q ∷ [], walked edition sources target p q steps walks leads)

mapped : {A B : Type 0} (f : A → B) (xs : List A) (x : A) → Contains xs x → Contains (map f xs) (f x)
mapped f [] x c = absurd (none_in_empty x c)
mapped f (y ∷ xs) x c = elim (head_or_later y xs x c) [
  | inl same ↦ at_head (map f xs) (f y) (f x) (ap f same)
  | inr l ↦ later (f y) (map f xs) (f x) (mapped f xs x l)
]

below_at : (x : List ℕ) (ys : List (List ℕ)) → AllByRecursion (λ w. path_cmp x w ≡ Less) ys → (j : ℕ) (y : List ℕ) → slice_get ys j ≡ Some y → path_cmp x y ≡ Less
below_at x [] a j y e = cc (e)
below_at x (z ∷ ys) a zero y e = subst (λ w. path_cmp x w ≡ Less) (some_same z y e) a.0
below_at x (z ∷ ys) a (suc j) y e = below_at x ys a.1 j y e

pub sorted_at : (xs : List (List ℕ)) → IsStrictlySortedBy path_cmp xs → (i j : ℕ) (x y : List ℕ) → i < j → slice_get xs i ≡ Some x → slice_get xs j ≡ Some y → path_cmp x y ≡ Less
unfolding IsStrictlySortedBy
sorted_at [] h i j x y lt at also = cc (at)
sorted_at (z ∷ xs) h zero zero x y lt at also = absurd (omega (arith, lt))
sorted_at (z ∷ xs) h zero (suc j) x y lt at also = subst (λ w. path_cmp w y ≡ Less) (some_same z x at) (below_at z xs h.0 j y also)
sorted_at (z ∷ xs) h (suc i) zero x y lt at also = absurd (omega (arith, lt))
sorted_at (z ∷ xs) h (suc i) (suc j) x y lt at also = sorted_at xs h.1 i j x y (omega (arith, lt)) at also

-- numbers that ascend
pub tail_increasing : (k : ℕ) (ks : List ℕ) → IsStrictlyIncreasing (k ∷ ks) → IsStrictlyIncreasing ks
tail_increasing k ks h i lt = (let step : slice_index ks i < slice_index (k ∷ ks) (suc i + 1) = h (suc i) (omega (arith, lt)) in subst (λ m. slice_index ks i < slice_index (k ∷ ks) m) (let z : suc i + 1 ≡ suc (i + 1) = omega arith in z) step)

pub below_later : (k : ℕ) (ks : List ℕ) → IsStrictlyIncreasing (k ∷ ks) → (j : ℕ) → Contains ks j → k < j
below_later k [] h j c = absurd (none_in_empty j c)
below_later k (l ∷ ks) h j c =
    let first : k < l = h 0 (omega arith) in
    elim (head_or_later l ks j c) [
      | inl same ↦ omega (arith, first, same)
      | inr r ↦ (let rest = below_later l ks (tail_increasing k (l ∷ ks) h) j r in omega (arith, first, rest))
    ]

-- the directory of a good package
pub made_at : (ds : List Directory) (fates : List DirectoryOutcome) → AreDirectoryOutcomes ds fates → (k : ℕ) (p : Package) → outcome_at fates k ≡ Good p → (d : Directory) × (slice_get ds k ≡ Some d) × IsDirectoryOutcome fates d (Good p)
made_at ds fates are k p good = elim (slice_get ds k) as (λ o. slice_get ds k ≡ o → (d : Directory) × (slice_get ds k ≡ Some d) × IsDirectoryOutcome fates d (Good p)) [
  | None ↦ λ none. absurd (let no : Good p ≡ Blocked = sym good ∙ past_fate fates k (fate_past fates ds fates are k none) in cc (no))
  | Some d ↦ λ at. (
      let f = fate_of fates ds fates are k d at in
      (d, at, subst (IsDirectoryOutcome fates d) (sym (at_fate fates k f.fate f.at) ∙ good) f.is))
] refl

-- the package of an import is at its directory's path
pub package_at : (ds : List Directory) (fates : List DirectoryOutcome) → AreDirectoryOutcomes ds fates → (k : ℕ) (p : Package) → outcome_at fates k ≡ Good p → (d : Directory) × (slice_get ds k ≡ Some d) × (p.path ≡ d.path)
package_at ds fates are k p good = let m = made_at ds fates are k p good in (m.0, m.1, typed_path m.0.path m.2.0 _ p m.2.3)

-- ---- editions

-- a package is of the edition of its files
pub typed_edition : (path : List ℕ) (files : List Parsed) (imports : List Importable) (p : Package) → AreGood path files imports p → p.edition ≡ package_edition files
typed_edition path files imports p h = ap (λ (x : Package). x.edition) h.are.is.is

pub sound_edition : (edition : Edition) (pairs : List (List ℕ × List ℕ)) (files : List Parsed) → IsSound edition pairs files → package_edition files ≡ edition
sound_edition edition pairs files h =
    subst (λ (fs : List Parsed). package_edition fs ≡ edition) (sym h.is) (let parsed : AllParsed edition (h.first ∷ h.rest) = subst (AllParsed edition) h.is h.parses.parses in parsed.0.of)

all_alike : (edition : Edition) (files : List Parsed) → AllParsed edition files → All (λ (file : Parsed). file.edition ≡ edition) files
all_alike edition [] h = All-nil (λ (file : Parsed). file.edition ≡ edition)
all_alike edition (f ∷ files) h = All-cons (λ (file : Parsed). file.edition ≡ edition) f files h.0.of (all_alike edition files h.1)

module _ (edition : Edition) (W : List Write) (paths : HasFiles W) (ds : List Directory) (fates : List DirectoryOutcome) (of : IsWholeOf edition W ds) (are : AreDirectoryOutcomes ds fates) where
  abbrev sources : Sources
  sources = of.0

  abbrev its : IsWhole edition sources ds
  its = of.2

  -- the files of a sound directory
  sound_at : (d : Directory) → Contains ds d → (files : List Parsed) → d.planned ≡ Sound files → IsSound edition (package_files d.path sources) files × ImportsAreSound edition sources d.path
  sound_at d among files e = by (its.planned d among)
    where
      by : IsPlannedAs edition sources d.path d.planned → IsSound edition (package_files d.path sources) files × ImportsAreSound edition sources d.path
      by h = subst (IsPlannedAs edition sources d.path) e h

  -- ---- summaries are exactly those of imports

  module _ (d : Directory) (among : Contains ds d) (files : List Parsed) (ps : List Package) (ready : IsReady fates d files ps) where
    sound : IsSound edition (package_files d.path sources) files
    sound = (sound_at d among files ready.sound).0

    imports : ImportsAreSound edition sources d.path
    imports = (sound_at d among files ready.sound).1

    its_imports : AreDirectoryImports files imports.imports
    its_imports =
        let h = imports.has in
        subst (λ fs. AreDirectoryImports fs imports.imports) (one_parsed edition (package_files d.path sources) h.parsed files h.sound.parses sound.parses) h.are

    -- the summary of an import's number
    has_summary : (ks : List ℕ) (qs : List Package) → ArePackages fates ks qs → (k : ℕ) → Contains ks k → (q : List ℕ) → slice_get (paths_of ds) k ≡ Some q → HasSummary (map summary_of qs) q
    has_summary [] qs h k c q at = absurd (none_in_empty k c)
    has_summary (j ∷ ks) [] h k c q at = absurd h
    has_summary (j ∷ ks) (p ∷ qs) h k c q at = elim (head_or_later j ks k c) [
      | inl same ↦ (
          let there = package_at ds fates are j p h.0 in
          let its_path : Some there.0.path ≡ Some q = sym (slice_get-map (λ (d : Directory). d.path) ds j ∙ ap (option_map (λ (d : Directory). d.path)) there.1) ∙ ap (slice_get (paths_of ds)) same ∙ at in
          (summary_of p, at_head (map summary_of qs) (summary_of p) (summary_of p) refl, there.2 ∙ some_same there.0.path q its_path))
      | inr l ↦ (let rest = has_summary ks qs h.1 k l q at in (rest.0, later (summary_of p) (map summary_of qs) rest.0 rest.1, rest.2))
    ]

    -- and the number of a summary
    from_summary : (ks : List ℕ) (qs : List Package) → ArePackages fates ks qs → (s : Summary) → Contains (map summary_of qs) s → (k : ℕ) × (p : Package) × Contains ks k × (outcome_at fates k ≡ Good p) × (s ≡ summary_of p)
    from_summary [] [] h s c = absurd (none_in_empty s c)
    from_summary [] (p ∷ qs) h s c = absurd h
    from_summary (j ∷ ks) [] h s c = absurd h
    from_summary (j ∷ ks) (p ∷ qs) h s c = elim (head_or_later (summary_of p) (map summary_of qs) s c) [
      | inl same ↦ (j, p, at_head ks j j refl, h.0, sym same)
      | inr l ↦ (let rest = from_summary ks qs h.1 s l in (rest.0, rest.1, later j ks rest.0 rest.2, rest.3, rest.4))
    ]

    all_imported : (path : List ℕ) → IsImported files path → HasSummary (map summary_of ps) path
    all_imported path (file, c, i) =
        let found = all_into files imports.imports its_imports file c i.tree i.parse i.spec i.among (is_directory i.spec (λ e. i.other (sym i.is ∙ e))) in
        let named : (found.0).spec.path ≡ path = ap (λ (s : ImportSpec). s.path) found.2 ∙ i.is in
        let import : HasImport edition sources d.path path = record { imports = imports.imports; has = imports.has; import = found.0; among = found.1; path = named } in
        let leads : plan.Imports edition sources d.path path = record { import = import; files = subst (λ q. ¬ (HasNoFiles sources q)) named (imports.none_missing found.0 found.1) } in
        let here : Contains (paths_of ds) d.path = mapped (λ (x : Directory). x.path) ds d among in
        let there : Contains (paths_of ds) path = its.closed d.path path here leads in
        let k = member_at (paths_of ds) path there in
        has_summary d.imports ps ready.good k.0 (((its.imports d among).are k.0).1 (path, k.1, leads)) path k.1

    only_imported : (path : List ℕ) → HasSummary (map summary_of ps) path → IsImported files path
    only_imported path (s, c, e) =
        let at = from_summary d.imports ps ready.good s c in
        let there = package_at ds fates are at.0 at.1 at.3 in
        let leads = ((its.imports d among).are at.0).0 at.2 in
        let its_path : Some there.0.path ≡ Some leads.0 = sym (slice_get-map (λ (d : Directory). d.path) ds at.0 ∙ ap (option_map (λ (d : Directory). d.path)) there.1) ∙ leads.1 in
        let same : leads.0 ≡ path = sym (some_same there.0.path leads.0 its_path) ∙ sym there.2 ∙ sym (ap (λ (x : Summary). x.path) at.4) ∙ e in
        let import = leads.2.import in
        let are_imports : AreDirectoryImports files import.imports =
        subst (λ fs. AreDirectoryImports fs import.imports) (one_parsed edition (package_files d.path sources) import.has.parsed files import.has.sound.parses sound.parses) import.has.are in
        let found = all_from files import.imports are_imports import.import import.among in
        let is : import.import.spec.path ≡ path = import.path ∙ same in
        (found.0, found.1, record { tree = found.2.0; parse = found.2.1; spec = import.import.spec; among = found.2.2; is = is; other = λ f. not_library import.import.spec found.3 (is ∙ f) })

    summary_below : (k : ℕ) (p : Package) → outcome_at fates k ≡ Good p → (ks : List ℕ) (qs : List Package) → ArePackages fates ks qs → ((j : ℕ) → Contains ks j → k < j) → NamesBelow p.path (map named_summary (map summary_of qs))
    summary_below k p good [] [] h low n c = absurd (none_in_empty {A = Named} n c)
    summary_below k p good [] (q ∷ qs) h low n c = absurd h
    summary_below k p good (j ∷ ks) [] h low n c = absurd h
    summary_below k p good (j ∷ ks) (q ∷ qs) h low n c = elim (head_or_later {A = Named} (named_summary (summary_of q)) (map named_summary (map summary_of qs)) n c) [
      | inl same ↦ (
          let a = package_at ds fates are k p good in
          let b = package_at ds fates are j q h.0 in
          let less : path_cmp a.0.path b.0.path ≡ Less = sorted_at (paths_of ds) its.ascending k j a.0.path b.0.path (low j (at_head ks j j refl))
          (slice_get-map (λ (d : Directory). d.path) ds k ∙ ap (option_map (λ (d : Directory). d.path)) a.1) (slice_get-map (λ (d : Directory). d.path) ds j ∙ ap (option_map (λ (d : Directory). d.path)) b.1) in
          subst (λ (m : Named). text_cmp p.path m.0 ≡ Less) same (subst (λ x. text_cmp x q.path ≡ Less) (sym a.2) (subst (λ x. text_cmp a.0.path x ≡ Less) (sym b.2) less)))
      | inr l ↦ summary_below k p good ks qs h.1 (λ i e. low i (later j ks i e)) n l
    ]

    summaries_by : (ks : List ℕ) (qs : List Package) → ArePackages fates ks qs → IsStrictlyIncreasing ks → Ascend (map named_summary (map summary_of qs))
    summaries_by [] [] h inc = tt
    summaries_by [] (q ∷ qs) h inc = absurd h
    summaries_by (k ∷ ks) [] h inc = absurd h
    summaries_by (k ∷ ks) (q ∷ qs) h inc = (summary_below k q h.0 ks qs h.1 (below_later k ks inc), summaries_by ks qs h.1 (tail_increasing k ks inc))

    files_ascend : Ascend (map source_with_name files)
    files_ascend = subst Ascend (sym sound.parses.sources) (ascend_files d.path sources (sources_good W paths sources of.1).0 (sources_good W paths sources of.1).1)

    summaries_ascend : Ascend (map named_summary (map summary_of ps))
    summaries_ascend = summaries_by d.imports ps ready.good (its.imports d among).ascending

    its_edition : (k : ℕ) (p : Package) → outcome_at fates k ≡ Good p → p.edition ≡ edition
    its_edition k p good =
        let m = made_at ds fates are k p good in
        let s = sound_at m.0 (get_contains ds k m.0 m.1) m.2.0 m.2.2.sound in
        typed_edition m.0.path m.2.0 _ p m.2.3 ∙ sound_edition edition (package_files m.0.path sources) m.2.0 s.0

    summaries_alike : (ks : List ℕ) (qs : List Package) → ArePackages fates ks qs → All (λ (s : Summary). s.edition ≡ edition) (map summary_of qs)
    summaries_alike [] [] h = All-nil (λ (s : Summary). s.edition ≡ edition)
    summaries_alike [] (q ∷ qs) h = absurd h
    summaries_alike (k ∷ ks) [] h = absurd h
    summaries_alike (k ∷ ks) (q ∷ qs) h = All-cons (λ (s : Summary). s.edition ≡ edition) (summary_of q) (map summary_of qs) (its_edition k q h.0) (summaries_alike ks qs h.1)

    makes : MakeAction edition files (map summary_of ps)
    makes = record {
      some = not_empty edition (package_files d.path sources) files sound;
      ordered = and_both (ascends (map source_with_name files)) (ascends (map named_summary (map summary_of ps))) (ascends_all (map source_with_name files) files_ascend) (ascends_all (map named_summary (map summary_of ps)) summaries_ascend);
      named = have_name edition (package_files d.path sources) files sound;
      imported = record { all = all_imported; only = only_imported };
      alike = record { of_files = all_alike edition files sound.parses.parses; of_summaries = summaries_alike d.imports ps ready.good };
    }

pub whole_makes : (edition : Edition) (W : List Write) → HasFiles W → (ds : List Directory) (fates : List DirectoryOutcome) → IsWholeOf edition W ds → AreDirectoryOutcomes ds fates
    → (d : Directory) → Contains ds d → (files : List Parsed) (ps : List Package) → IsReady fates d files ps → MakeAction edition files (map summary_of ps)
whole_makes edition W paths ds fates of are d among files ps ready = makes edition W paths ds fates of are d among files ps ready

pub plan_makes : (edition : Edition) (W : List Write) → HasFiles W → (target : List ℕ) (ds : List Directory) (fates : List DirectoryOutcome) → IsBuildPlanOf edition W target ds → AreDirectoryOutcomes ds fates
    → (d : Directory) → Contains ds d → (files : List Parsed) (ps : List Package) → IsReady fates d files ps → MakeAction edition files (map summary_of ps)
plan_makes edition W paths target ds fates of = whole_makes edition W paths ds fates (whole_plan_of edition W target ds of)
