-- Package names that files have.
use Rattle.std.proofs.Common.{◌≡◌, ℕ, ◌+◌, ◌<◌, ◌≤◌, Bool, true, false, List, [], ◌∷◌, ◌++◌, length, take, get_or, sym, ap, subst, ◌∙◌}
use Rattle.std.specs.Bool.{OnFalse}
use Rattle.std.specs.List.{All}
use Rattle.std.specs.Str.{bytes_eq}
use Rattle.std.proofs.lemmas.Slice.Eq.{bytes_eq-Decides}
use Rattle.std.proofs.lemmas.List.{take_more, take_all}
use Rattle.std.proofs.lemmas.List.Elements.{All-nil, All-cons, All-append}
use Rattle.go_text.specs.declared.edition.Edition.{Edition}
use Rattle.go_ast.specs.Trees.{Name}
use Rattle.go_ast.specs.Parse.{Parsed, IsPackage, IsNamed, IsOther}
use Rattle.ws_action.specs.Actions.{HaveOneName}

-- a package name that isn't these bytes
pub not_named : (e : Edition) (name text words : List ℕ) (clause : Name) (b : Bool) → IsPackage e text clause → words ≡ clause.text → b ≡ bytes_eq words name → OnFalse b (IsOther e name text)
not_named edition name text words clause true h w e = tt
not_named edition name text words clause false h w e = record {
  clause = clause;
  package_is = h;
  other = λ q. let t : bytes_eq words name ≡ true = (bytes_eq-Decides words name).1 (w ∙ q) in let wrong : false ≡ true = e ∙ t in cc (wrong);
}

-- one more file has the name
pub named_more : (name : List ℕ) (files : List Parsed) (i : ℕ) (p : Parsed) → i < length files → p ≡ get_or files i p → All (λ file. IsNamed file.edition name file.text) (take i files) → IsNamed p.edition name p.text → All (λ file. IsNamed file.edition name file.text) (take (i + 1) files)
named_more name files i p h is all here =
    let P : Parsed → Type 0 = λ file. IsNamed file.edition name file.text in
    subst (All P) (sym (take_more files i p h ∙ ap (λ x. take i files ++ x ∷ []) (sym is))) (All-append P (take i files) (p ∷ []) all (All-cons P p [] here (All-nil P)))

-- all have it
pub named_all : (name : List ℕ) (files : List Parsed) (i : ℕ) → length files ≤ i → All (λ file. IsNamed file.edition name file.text) (take i files) → All (λ file. IsNamed file.edition name file.text) files
named_all name files i h all = subst (All (λ (file : Parsed). IsNamed file.edition name file.text)) (take_all i files h) all

pub have_one_name : (files : List Parsed) (first : Parsed) (rest : List Parsed) (clause : Name) → files ≡ first ∷ rest → IsPackage first.edition first.text clause → All (λ file. IsNamed file.edition clause.text file.text) rest → HaveOneName files
have_one_name files first rest clause is here named = subst HaveOneName (sym is) (record { clause = clause; package_is = here; named = named })
