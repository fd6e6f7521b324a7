-- Functions init take no arguments and give no results.
use Rattle.std.proofs.Common.{◌≡◌, ℕ, zero, suc, true, false, Bool, List, [], ◌∷◌, ◌++◌, Option, Some, None, map, codes, refl, sym, ap, ◌∙◌, inl, inr}
use Rattle.std.specs.Prelude.{bytes_eq, nat_eq, if◌then◌else◌}
use Rattle.std.specs.Fmt.{decimal}
use Rattle.std.specs.List.{All, filter, find, flat_map, slice_get, starts_with}
use Rattle.std.proofs.lemmas.Bool.{cases_Bool}
use Rattle.std.proofs.lemmas.List.Elements.{All-head, All-tail, All-nil, All-cons, All-append}
use Rattle.go_ast.specs.Trees.{Name, TypeExpr, TopLevel, declared, function, FunctionDecl, Parameter, File}
use Rattle.go_typed.specs.Trees as typed
use Rattle.go_meaning.specs.Programs.{is_init}
use Rattle.go_scan.specs.Words.{IsWord}
use Rattle.go_scope.specs.Scopes.{is_blank}
use Rattle.go_stmt.specs.Scopes.{nothing, scope_in}
use Rattle.go_stmt.specs.Functions.{function_at}
use Rattle.go_objects.specs.Table.{types_known, parameters_known}
use Rattle.go_package.specs.Faults.{Facts, Faults, context_at}
use Rattle.go_package.specs.Packages.{reserved_faults, reserved_names_faults, absent_main_faults, main_faults, each_file}
use Rattle.go_package.specs.Typed.{top_functions, of_files, with_numbers}
use Rattle.go_package_laws.proofs.Dots.{no_dot}
use Rattle.go_package_laws.proofs.Parsed.{TopsNamed, FilesNamed}
use Rattle.go_package_laws.proofs.Signed.{signed}

abbrev init : List ℕ
init = codes "init"

abbrev numbered : List ℕ
numbered = codes "init."

abbrev IsEmpty : typed.Function → Type 0
IsEmpty g = (g.parameters ≡ []) × (g.results ≡ [])

-- by its name in the source
abbrev Plain : typed.Function → Type 0
Plain g = (starts_with nat_eq g.name numbered ≡ false) × (bytes_eq g.name init ≡ true → IsEmpty g)

abbrev pub EmptyInit : typed.Function → Type 0
EmptyInit g = is_init g ≡ true → IsEmpty g

numbered_empty : (n : ℕ) (fs : List typed.Function) → All Plain fs → All EmptyInit (with_numbers n fs)
numbered_empty n [] all = All-nil EmptyInit
numbered_empty n (f ∷ fs) all = elim (cases_Bool (bytes_eq f.name init)) [
  | inl is ↦ rw is (
      let empty = (All-head Plain f fs all).1 is in
      All-cons EmptyInit (record f { name = numbered ++ decimal n }) (with_numbers (suc n) fs) (λ named. empty) (numbered_empty (suc n) fs (All-tail Plain f fs all)))
  | inr not_so ↦ rw not_so (
      let other = (All-head Plain f fs all).0 in
      All-cons EmptyInit f (with_numbers n fs) (λ named. absurd (let no : true ≡ false = sym named ∙ other in cc (no))) (numbered_empty n fs (All-tail Plain f fs all)))
]

both_none : {A : Type 0} (xs ys : List A) → xs ++ ys ≡ [] → (xs ≡ []) × (ys ≡ [])
both_none [] ys h = (refl, h)
both_none (x ∷ xs) ys h = absurd cc

unmapped : {A B : Type 0} (f : A → B) (xs : List A) → map f xs ≡ [] → xs ≡ []
unmapped f [] h = refl
unmapped f (x ∷ xs) h = absurd cc

some_same : {A : Type 0} (x y : A) → Some x ≡ Some y → x ≡ y
some_same x y h = cc

-- ---- functions of files

module _ (t : Facts) (clause : List ℕ) where
  reserved : (n : Name) → bytes_eq n.text init ≡ true → reserved_faults clause n ≡ [] → ⊥
  reserved n is none = (let no : (n.place, _) ∷ [] ≡ [] = rw is at none in cc (no))

  abbrev due : Name → List Parameter → List TypeExpr → Faults
  due n ps ts = elim ps [ [] ↦ elim ts [ [] ↦ [] | t ∷ ts ↦ reserved_faults clause n ] | p ∷ ps ↦ reserved_faults clause n ]

  no_signature : (n : Name) (ps : List Parameter) (ts : List TypeExpr) → bytes_eq n.text init ≡ true → due n ps ts ≡ [] → (ps ≡ []) × (ts ≡ [])
  no_signature n [] [] is none = (refl, refl)
  no_signature n [] (t ∷ ts) is none = absurd (reserved n is none)
  no_signature n (p ∷ ps) ts is none = absurd (reserved n is none)

  one_plain : (file : ℕ) (f : FunctionDecl) → IsWord f.name.text → reserved_names_faults clause (function f) ≡ [] → (g : typed.Function) → (function_at (context_at t file) f).known ≡ Some g → Plain g
  one_plain file f word none g is =
      let of = signed (context_at t file) f g is in
      let s = scope_in (context_at t file) None nothing in (
        ap (λ x. starts_with nat_eq x numbered) of.0 ∙ no_dot f.name.text word,
        λ named. (
            let empty = no_signature f.name f.parameters f.results (ap (λ x. bytes_eq x init) (sym of.0) ∙ named) none in
            let parameters : Some [] ≡ Some g.parameters = ap (parameters_known s) (sym empty.0) ∙ of.1 in
            let results : Some [] ≡ Some g.results = ap (types_known s) (sym empty.1) ∙ of.2 in
            (sym (some_same [] g.parameters parameters), sym (some_same [] g.results results))),
      )

  listed_plain : (file : ℕ) (f : FunctionDecl) → IsWord f.name.text → reserved_names_faults clause (function f) ≡ [] → (o : Option typed.Function) → (function_at (context_at t file) f).known ≡ o
      → All Plain (elim o [ None ↦ [] | Some g ↦ if is_blank f.name.text then [] else g ∷ [] ])
  listed_plain file f word none None is = All-nil Plain
  listed_plain file f word none (Some g) is = elim (cases_Bool (bytes_eq f.name.text (codes "_"))) [
    | inl blank ↦ rw blank (All-nil Plain)
    | inr named ↦ rw named (All-cons Plain g [] (one_plain file f word none g is) (All-nil Plain))
  ]

  tops_plain : (file : ℕ) (tops : List TopLevel) → TopsNamed tops → flat_map (reserved_names_faults clause) tops ≡ [] → All Plain (flat_map (top_functions t file) tops)
  tops_plain file [] words none = All-nil Plain
  tops_plain file (function f ∷ tops) words none =
      let both = both_none (reserved_names_faults clause (function f)) (flat_map (reserved_names_faults clause) tops) none in
      All-append Plain (top_functions t file (function f)) (flat_map (top_functions t file) tops)
      (listed_plain file f words.0 both.0 (function_at (context_at t file) f).known refl) (tops_plain file tops words.1 both.1)
  tops_plain file (declared d ∷ tops) words none =
      tops_plain file tops words (both_none (reserved_names_faults clause (declared d)) (flat_map (reserved_names_faults clause) tops) none).1

  files_plain : (number : ℕ) (fs : List File) → FilesNamed fs → each_file (λ number file. flat_map (reserved_names_faults clause) file.declarations) number fs ≡ [] → All Plain (of_files (top_functions t) number fs)
  files_plain number [] words none = All-nil Plain
  files_plain number (f ∷ fs) words none =
      let own = flat_map (reserved_names_faults clause) f.declarations in
      let both = both_none (map (λ x. (number, x)) own) (each_file (λ number file. flat_map (reserved_names_faults clause) file.declarations) (suc number) fs) none in
      All-append Plain (flat_map (top_functions t number) f.declarations) (of_files (top_functions t) (suc number) fs)
      (tops_plain number f.declarations words.0 (unmapped (λ x. (number, x)) own both.0)) (files_plain (suc number) fs words.1 both.1)

-- each function init of a package
pub inits_empty : (t : Facts) (files : List File) → FilesNamed files → main_faults t files ≡ [] → All EmptyInit (with_numbers 1 (of_files (top_functions t) 0 files))
inits_empty t [] words none = All-nil EmptyInit
inits_empty t (f ∷ fs) words none =
    let both = both_none (each_file (λ number file. flat_map (reserved_names_faults f.package.text) file.declarations) 0 (f ∷ fs)) (absent_main_faults t f.package) none in
    numbered_empty 1 (of_files (top_functions t) 0 (f ∷ fs)) (files_plain t f.package.text 0 (f ∷ fs) words both.0)

-- ---- lists

pub filtered : {A : Type 0} (test : A → Bool) (Q : A → Type 0) (xs : List A) → ((k : ℕ) (x : A) → slice_get xs k ≡ Some x → test x ≡ true → Q x) → All Q (filter test xs)
filtered test Q [] h = All-nil Q
filtered test Q (x ∷ xs) h = elim (cases_Bool (test x)) [
  | inl is ↦ rw is (All-cons Q x (filter test xs) (h 0 x refl is) (filtered test Q xs (λ k y at. h (suc k) y at)))
  | inr not_so ↦ rw not_so (filtered test Q xs (λ k y at. h (suc k) y at))
]

-- what passes a test is found, or something before it that passes it too
pub found_some : {A : Type 0} (test : A → Bool) (P : A → Type 0) (xs : List A) → All P xs → (k : ℕ) (x : A) → slice_get xs k ≡ Some x → test x ≡ true → (y : A) × (find test xs ≡ Some y) × P y × (test y ≡ true)
found_some test P [] all k x at is = absurd cc
found_some test P (y ∷ ys) all zero x at is =
    let same : y ≡ x = cc in
    let here : test y ≡ true = ap test same ∙ is in
    (y, rw here refl, All-head P y ys all, here)
found_some test P (y ∷ ys) all (suc k) x at is = elim (cases_Bool (test y)) [
  | inl here ↦ (y, rw here refl, All-head P y ys all, here)
  | inr not_so ↦ (let rest = found_some test P ys (All-tail P y ys all) k x at is in (rest.0, rw not_so rest.1, rest.2, rest.3))
]
