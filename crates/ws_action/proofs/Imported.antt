-- What files import, by their trees.
use Rattle.std.proofs.Common.{◌≡◌, ◌≢◌, ℕ, ◌+◌, ◌<◌, ◌≤◌, List, [], ◌∷◌, ◌++◌, ◌⊎◌, length, take, get_or, map, codes, sym, ap, subst, ◌∙◌, inl, inr}
use Rattle.std.specs.List.{All, Contains}
use Rattle.std.proofs.lemmas.List.Elements.{All-nil, All-weaker, All-contains, Contains-append_left, Contains-push, Contains-push_cases}
use Rattle.go_text.specs.declared.edition.Edition.{Edition}
use Rattle.go_ast.specs.Trees.{File}
use Rattle.go_ast.specs.Trees as trees
use Rattle.go_ast.specs.Parse.{Parsed, Parse, Derived, Stopped, IsParse}
use Rattle.go_ast.specs.Views.{import_of, file_of}
use Rattle.go_ast.specs.declared.file.File.{File as RustFile}
use Rattle.go_ast.specs.declared.file.ImportSpec.{ImportSpec as RustSpec}
use Rattle.go_ast.proofs.Once.{one_parse}
use Rattle.ws_action.specs.Actions.{TextImports, IsImported}
use Rattle.ws_action.specs.Imported.{AddsImports, AreImported}
use Rattle.ws_action.proofs.Mapped.{All-mapped, Contains-mapped}
use Rattle.ws_action.proofs.Members.{none_in_empty}
use Rattle.ws_action.proofs.Walks.{one_more, of_all}

tree_in : File → Parse → File
tree_in other (Derived tree) = tree
tree_in other (Stopped kind place) = other

one_tree : (e : Edition) (text : List ℕ) (a b : File) → IsParse e text (Derived a) → IsParse e text (Derived b) → a ≡ b
unfolding tree_in
one_tree e text a b p q = ap (tree_in a) (one_parse e text (Derived a) (Derived b) p q)

-- a spec of the file's tree
pub imports_it : (e : Edition) (text path : List ℕ) (file : RustFile) (spec : RustSpec) → IsParse e text (Derived (file_of file)) → Contains file.imports.items spec → spec.path.items ≡ path → path ≢ codes "fmt" → TextImports e text path
imports_it e text path file spec parse among is other =
    record { tree = file_of file; parse = parse; spec = import_of spec; among = Contains-mapped import_of file.imports.items spec among; is = is; other = other }

-- what holds of the path of each spec, but for those of the library, holds of what the file imports
pub imports_all : (P : List ℕ → Type 0) (e : Edition) (text path : List ℕ) (file : RustFile) → IsParse e text (Derived (file_of file)) → All (λ (spec : RustSpec). spec.path.items ≢ codes "fmt" → P spec.path.items) file.imports.items → TextImports e text path → P path
imports_all P e text path file parse all i =
    let same : i.tree ≡ file_of file = one_tree e text i.tree (file_of file) i.parse parse in
    let among : Contains (map import_of file.imports.items) i.spec = subst (λ (t : File). Contains t.imports i.spec) same i.among in
    let holds = All-contains (λ (spec : trees.ImportSpec). spec.path ≢ codes "fmt" → P spec.path) (map import_of file.imports.items) i.spec
    (All-mapped (λ (spec : trees.ImportSpec). spec.path ≢ codes "fmt" → P spec.path) import_of file.imports.items all) among in
    subst P i.is (holds (λ e. i.other (sym i.is ∙ e)))

-- ---- the paths of one file

-- those of some specs of a file come to some paths
pub record AddsSpecs (specs : List RustSpec) (e : Edition) (text : List ℕ) (old new : List (List ℕ)) : Type 0 where
  pub kept : (path : List ℕ) → Contains old path → Contains new path
  pub added : All (λ (spec : RustSpec). spec.path.items ≢ codes "fmt" → Contains new spec.path.items) specs
  pub only : (path : List ℕ) → Contains new path → Contains old path ⊎ TextImports e text path

pub no_specs : (e : Edition) (text : List ℕ) (old : List (List ℕ)) → AddsSpecs [] e text old old
no_specs e text old = record {
  kept = λ path c. c;
  added = All-nil (λ (spec : RustSpec). spec.path.items ≢ codes "fmt" → Contains old spec.path.items);
  only = λ path c. inl c;
}

-- the library is passed over
pub library_passed : (specs : List RustSpec) (i : ℕ) (spec : RustSpec) (e : Edition) (text : List ℕ) (old new : List (List ℕ)) → i < length specs → spec ≡ get_or specs i spec → spec.path.items ≡ codes "fmt" → AddsSpecs (take i specs) e text old new → AddsSpecs (take (i + 1) specs) e text old new
library_passed specs i spec e text old new h is library a = record {
  kept = a.kept;
  added = one_more (λ (s : RustSpec). s.path.items ≢ codes "fmt" → Contains new s.path.items) specs i spec h is a.added (λ other. absurd (other library));
  only = a.only;
}

-- another path is added
pub path_added : (specs : List RustSpec) (i : ℕ) (spec : RustSpec) (e : Edition) (text : List ℕ) (old mid new : List (List ℕ)) → i < length specs → spec ≡ get_or specs i spec → TextImports e text spec.path.items → new ≡ mid ++ spec.path.items ∷ [] → AddsSpecs (take i specs) e text old mid → AddsSpecs (take (i + 1) specs) e text old new
path_added specs i spec e text old mid new h is imports same a =
    let path = spec.path.items in
    let keeps : (p : List ℕ) → Contains mid p → Contains new p = λ p c. subst (λ (l : List (List ℕ)). Contains l p) (sym same) (Contains-append_left mid (path ∷ []) p c) in
    let holds : List (List ℕ) → RustSpec → Type 0 = λ paths s. s.path.items ≢ codes "fmt" → Contains paths s.path.items in
    record {
      kept = λ p c. keeps p (a.kept p c);
      added = one_more (holds new) specs i spec h is (All-weaker (holds mid) (holds new) (λ s c other. keeps s.path.items (c other)) (take i specs) a.added) (λ other. subst (λ (l : List (List ℕ)). Contains l path) (sym same) (Contains-push mid path));
      only = λ p c. elim (Contains-push_cases mid path p (subst (λ (l : List (List ℕ)). Contains l p) same c)) [ inl l ↦ a.only p l | inr q ↦ inr (subst (TextImports e text) q imports) ];
    }

-- those of all specs are those of the file
pub specs_added : (e : Edition) (text : List ℕ) (file : RustFile) (specs : List RustSpec) (i : ℕ) (old new : List (List ℕ)) → IsParse e text (Derived (file_of file)) → specs ≡ file.imports.items → length specs ≤ i → AddsSpecs (take i specs) e text old new → AddsImports e text old new
specs_added e text file specs i old new parse are over a =
    let holds : RustSpec → Type 0 = λ s. s.path.items ≢ codes "fmt" → Contains new s.path.items in
    record {
      kept = a.kept;
      added = λ path imports. imports_all (Contains new) e text path file parse (subst (All holds) are (of_all holds specs i over a.added)) imports;
      only = a.only;
    }

-- ---- the paths of files

-- those of some of the files
pub record AreFrom (some files : List Parsed) (paths : List (List ℕ)) : Type 0 where
  pub all : All (λ (file : Parsed). (path : List ℕ) → TextImports file.edition file.text path → Contains paths path) some
  pub only : (path : List ℕ) → Contains paths path → IsImported files path

pub from_none : (files : List Parsed) (paths : List (List ℕ)) → paths ≡ [] → AreFrom [] files paths
from_none files paths none = record {
  all = All-nil (λ (file : Parsed). (path : List ℕ) → TextImports file.edition file.text path → Contains paths path);
  only = λ path c. absurd (none_in_empty path (subst (λ (l : List (List ℕ)). Contains l path) none c));
}

pub from_more : (files : List Parsed) (i : ℕ) (file : Parsed) (old new : List (List ℕ)) → i < length files → file ≡ get_or files i file → Contains files file → AddsImports file.edition file.text old new → AreFrom (take i files) files old → AreFrom (take (i + 1) files) files new
from_more files i file old new h is among a are =
    let holds : List (List ℕ) → Parsed → Type 0 = λ paths f. (path : List ℕ) → TextImports f.edition f.text path → Contains paths path in
    record {
      all = one_more (holds new) files i file h is (All-weaker (holds old) (holds new) (λ f c path imports. a.kept path (c path imports)) (take i files) are.all) a.added;
      only = λ path c. elim (a.only path c) [ inl l ↦ are.only path l | inr imports ↦ (file, among, imports) ];
    }

pub from_all : (files : List Parsed) (i : ℕ) (paths : List (List ℕ)) → length files ≤ i → AreFrom (take i files) files paths → AreImported files paths
from_all files i paths over are =
    let holds : Parsed → Type 0 = λ f. (path : List ℕ) → TextImports f.edition f.text path → Contains paths path in
    record {
      all = λ path imported. All-contains holds files imported.0 (of_all holds files i over are.all) imported.1 path imported.2;
      only = are.only;
    }
