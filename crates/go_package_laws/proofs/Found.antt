-- The functions of the typed package: each that the files declare is found under its name.
use Rattle.std.proofs.Common.{◌≡◌, ℕ, zero, suc, true, false, ◌||◌, Bool, List, [], ◌∷◌, ◌++◌, Option, Some, None, map, codes, append_assoc, refl, sym, ap, ◌∙◌, subst, inl, inr}
use Rattle.std.specs.Prelude.{bytes_eq, option_map, if◌then◌else◌}
use Rattle.std.specs.List.{slice_get, list_any, find, flat_map}
use Rattle.std.proofs.lemmas.Bool.{cases_Bool}
use Rattle.std.proofs.lemmas.Slice.Eq.{bytes_eq-Decides}
use Rattle.go_ast.specs.Trees.{TopLevel, declared, function, FunctionDecl, File}
use Rattle.go_typed.specs.Trees as typed
use Rattle.go_meaning.specs.Programs.{package_symbol}
use Rattle.go_meaning.specs.Programs as meaning
use Rattle.go_symbol.specs.Symbols.{same_symbol}
use Rattle.go_stmt.specs.Functions.{function_at}
use Rattle.go_objects.specs.Objects.{function', DeclaredObject, objects_in, objects_from, firsts}
use Rattle.go_package.specs.Faults.{Facts, context_at, function_faults, top_faults, files_faults}
use Rattle.go_scope.specs.Scopes.{is_blank}
use Rattle.go_package.specs.Typed.{top_functions, of_files}
use Rattle.go_package_laws.specs.Finds.{IsKnown}
use Rattle.go_package_laws.specs.Locals.{IsLocalBlock}
use Rattle.go_package_laws.proofs.DeclaredTexts.{TopHasTexts, TopsHaveTexts, FilesHaveTexts}
use Rattle.go_package_laws.proofs.Once.{itself}
use Rattle.go_package_laws.proofs.Fits.{is_function, AllIn, all_more, Fits, Any, decl_fits_any}
use Rattle.go_package_laws.proofs.Signed.{signed}

-- ---- the first object of a name

abbrev pub named : List ℕ → DeclaredObject → Bool
named x o = bytes_eq x o.name.text

any_front : (x : List ℕ) (xs ys : List (List ℕ)) → list_any (bytes_eq x) (xs ++ ys) ≡ false → (list_any (bytes_eq x) xs ≡ false) × (list_any (bytes_eq x) ys ≡ false)
any_front x [] ys h = (refl, h)
any_front x (y ∷ xs) ys h = elim (cases_Bool (bytes_eq x y)) [
  | inl is ↦ absurd (let no : true ≡ false = rw is at h in cc (no))
  | inr not_so ↦ (let rest = any_front x xs ys (rw not_so at h) in (rw not_so rest.0, rest.1))
]

-- what holds of a name that is the first of its kind
abbrev IsFirst : List (List ℕ) → List DeclaredObject → DeclaredObject → Type 0
IsFirst names os o = (list_any (bytes_eq o.name.text) names ≡ false) × (bytes_eq o.name.text (codes "_") ≡ false) × (find (named o.name.text) os ≡ Some o)

passed_over : (names : List (List ℕ)) (y : DeclaredObject) (os : List DeclaredObject) (o : DeclaredObject) → (bytes_eq y.name.text (codes "_") || list_any (bytes_eq y.name.text) names) ≡ true → IsFirst names os o → IsFirst names (y ∷ os) o
passed_over names y os o out h = elim (cases_Bool (bytes_eq o.name.text y.name.text)) [
  | inr not_so ↦ (h.0, h.1, rw not_so h.2)
  | inl is ↦ absurd (
      let same : o.name.text ≡ y.name.text = (bytes_eq-Decides o.name.text y.name.text).0 is in
      let one : bytes_eq y.name.text (codes "_") ≡ false = ap (λ (x : List ℕ). bytes_eq x (codes "_")) (sym same) ∙ h.1 in
      let two : list_any (bytes_eq y.name.text) names ≡ false = ap (λ (x : List ℕ). list_any (bytes_eq x) names) (sym same) ∙ h.0 in
      let no : false ≡ true = rw (one, two) at out in
      cc (no))
]

neither : (a b : Bool) → (a || b) ≡ false → (a ≡ false) × (b ≡ false)
neither false false h = (refl, refl)
neither false true h = absurd cc
neither true b h = absurd cc

first_taken : (names : List (List ℕ)) (y : DeclaredObject) (os : List DeclaredObject) (k : ℕ) (o : DeclaredObject) → (bytes_eq y.name.text (codes "_") || list_any (bytes_eq y.name.text) names) ≡ false
    → slice_get (y ∷ firsts (names ++ y.name.text ∷ []) os) k ≡ Some o → ((k : ℕ) → slice_get (firsts (names ++ y.name.text ∷ []) os) k ≡ Some o → IsFirst (names ++ y.name.text ∷ []) os o) → IsFirst names (y ∷ os) o
first_taken names y os zero o new at rest =
    let same : y ≡ o = cc in
    let parts = neither (bytes_eq y.name.text (codes "_")) (list_any (bytes_eq y.name.text) names) new in
    let is = itself y.name.text in
    let here : IsFirst names (y ∷ os) y = (parts.1, parts.0, rw is refl) in
    subst (λ (z : DeclaredObject). IsFirst names (y ∷ os) z) same here
first_taken names y os (suc k) o new at rest =
    let h = rest k at in
    let parts = any_front o.name.text names (y.name.text ∷ []) h.0 in
    let other = (neither (bytes_eq o.name.text y.name.text) false parts.1).0 in
    (parts.0, h.1, rw other h.2)

pub first_found : (names : List (List ℕ)) (os : List DeclaredObject) (k : ℕ) (o : DeclaredObject) → slice_get (firsts names os) k ≡ Some o → IsFirst names os o
first_found names [] k o at = absurd cc
first_found names (y ∷ os) k o at = elim (cases_Bool (bytes_eq y.name.text (codes "_") || list_any (bytes_eq y.name.text) names)) [
  | inl out ↦ passed_over names y os o out (first_found names os k o (rw out at at))
  | inr new ↦ first_taken names y os k o new (rw new at at) (λ k at. first_found (names ++ y.name.text ∷ []) os k o at)
]

-- ---- functions in their order

abbrev pub LocalIn : TopLevel → Type 0
LocalIn (declared d) = Unit {0}
LocalIn (function f) = IsLocalBlock f.body

abbrev pub LocalTops : List TopLevel → Type 0
LocalTops [] = Unit {0}
LocalTops (top ∷ tops) = LocalIn top × LocalTops tops

abbrev pub LocalFiles : List File → Type 0
LocalFiles [] = Unit {0}
LocalFiles (f ∷ fs) = LocalTops f.declarations × LocalFiles fs

-- no function that is declared under a name is named init
abbrev pub NotInit : DeclaredObject → Type 0
NotInit o = is_function o.form ≡ true → bytes_eq o.name.text (codes "init") ≡ false

plain_not_init : (os : List DeclaredObject) → AllIn (Fits Any) os → AllIn NotInit os
plain_not_init [] h = tt
plain_not_init (o ∷ os) h = ((λ is. absurd (let no : true ≡ false = sym is ∙ (h.0).1 in cc (no))), plain_not_init os h.1)

top_not_init : (file : ℕ) (top : TopLevel) → TopHasTexts top → AllIn NotInit (objects_in file top)
top_not_init file (declared c) h = plain_not_init (objects_in file (declared c)) (decl_fits_any file c h)
top_not_init file (function f) h = elim (cases_Bool (bytes_eq f.name.text (codes "init"))) [
  | inl init ↦ rw init tt
  | inr other ↦ rw other ((λ is. other), tt)
]

tops_not_init : (file : ℕ) (tops : List TopLevel) → TopsHaveTexts tops → AllIn NotInit (flat_map (objects_in file) tops)
tops_not_init file [] h = tt
tops_not_init file (top ∷ tops) h = all_more NotInit (objects_in file top) (flat_map (objects_in file) tops) (top_not_init file top h.0) (tops_not_init file tops h.1)

pub files_not_init : (number : ℕ) (files : List File) → FilesHaveTexts files → AllIn NotInit (objects_from number files)
files_not_init number [] h = tt
files_not_init number (f ∷ fs) h =
    all_more NotInit (flat_map (objects_in number) f.declarations) (objects_from (suc number) fs) (tops_not_init number f.declarations h.0) (files_not_init (suc number) fs h.1)

abbrev pub by_name : List ℕ → typed.Function → Bool
by_name x g = bytes_eq x g.name

both_none : {A : Type 0} (xs ys : List A) → xs ++ ys ≡ [] → (xs ≡ []) × (ys ≡ [])
both_none [] ys h = (refl, h)
both_none (x ∷ xs) ys h = absurd cc

unmapped : {A B : Type 0} (f : A → B) (xs : List A) → map f xs ≡ [] → xs ≡ []
unmapped f [] h = refl
unmapped f (x ∷ xs) h = absurd cc

module _ (t : Facts) (known : (file : ℕ) (f : FunctionDecl) → IsLocalBlock f.body → function_faults t file f ≡ [] → IsKnown (function_at (context_at t file) f).known) where
  -- an object is a function's declaration, whose typed tree is the first of its name
  abbrev pub FunctionOf : List ℕ → DeclaredObject → List typed.Function → Type 0
  FunctionOf x o fs =
      (f : FunctionDecl) × (g : typed.Function) × (o.form ≡ function' f.parameters f.results) × ((function_at (context_at t o.file) f).known ≡ Some g) × (find (by_name x) fs ≡ Some g)

  skip_plain : (x : List ℕ) (os rest : List DeclaredObject) (o : DeclaredObject) → AllIn (Fits Any) os → is_function o.form ≡ true → find (named x) (os ++ rest) ≡ Some o → find (named x) rest ≡ Some o
  skip_plain x [] rest o h is at = at
  skip_plain x (y ∷ os) rest o h is at = elim (cases_Bool (bytes_eq x y.name.text)) [
    | inr not_so ↦ skip_plain x os rest o h.1 is (rw not_so at at)
    | inl found ↦ absurd (
        let one : Some y ≡ Some o = rw found at at in
        let same : y ≡ o = cc (one) in
        let no : false ≡ true = sym (h.0).1 ∙ ap (λ (z : DeclaredObject). is_function z.form) same ∙ is in
        cc (no))
  ]

  abbrev listed : FunctionDecl → Option typed.Function → List typed.Function
  listed f o = elim o [ None ↦ [] | Some g ↦ if is_blank f.name.text then [] else g ∷ [] ]

  skip_function : (x : List ℕ) (file : ℕ) (f : FunctionDecl) (more : List typed.Function) → bytes_eq x f.name.text ≡ false → (o : Option typed.Function) → (function_at (context_at t file) f).known ≡ o
      → find (by_name x) (listed f o ++ more) ≡ find (by_name x) more
  skip_function x file f more other None is = refl
  skip_function x file f more other (Some g) is = elim (cases_Bool (bytes_eq f.name.text (codes "_"))) [
    | inl blank ↦ rw blank refl
    | inr not_so ↦ (
        let name = (signed (context_at t file) f g is).0 in
        let apart : bytes_eq x g.name ≡ false = ap (bytes_eq x) name ∙ other in
        rw (not_so, apart) refl)
  ]

  abbrev passed : (x : List ℕ) (o : DeclaredObject) (fs gs : List typed.Function) → find (by_name x) gs ≡ find (by_name x) fs → FunctionOf x o fs → FunctionOf x o gs
  passed x o fs gs e h = (h.0, h.1, h.2, h.3, e ∙ h.4)

  here_found : (x : List ℕ) → bytes_eq x (codes "_") ≡ false → (file : ℕ) (f : FunctionDecl) (more : List typed.Function) (o : DeclaredObject) → x ≡ f.name.text → record { file = file; begins = f.name.place; name = f.name; form = function' f.parameters f.results } ≡ o
      → IsKnown (function_at (context_at t file) f).known → FunctionOf x o (listed f (function_at (context_at t file) f).known ++ more)
  here_found x not_blank file f more o name same k =
      let g = k.0 in
      let typed_name = (signed (context_at t file) f g k.1).0 in
      let not_so : bytes_eq f.name.text (codes "_") ≡ false = ap (λ (y : List ℕ). bytes_eq y (codes "_")) (sym name) ∙ not_blank in
      let is : bytes_eq x g.name ≡ true = ap (bytes_eq x) typed_name ∙ (bytes_eq-Decides x f.name.text).1 name in (
        f,
        g,
        ap (λ (z : DeclaredObject). z.form) (sym same),
        ap (λ (z : DeclaredObject). (function_at (context_at t z.file) f).known) (sym same) ∙ k.1,
        ap (λ (r : Option typed.Function). find (by_name x) (listed f r ++ more)) k.1 ∙ rw (not_so, is) refl,
      )

  one_top : (x : List ℕ) → bytes_eq x (codes "_") ≡ false → bytes_eq x (codes "init") ≡ false → (file : ℕ) (top : TopLevel) → TopHasTexts top → LocalIn top → top_faults t file top ≡ []
      → (rest : List DeclaredObject) (more : List typed.Function) (o : DeclaredObject) → is_function o.form ≡ true → (find (named x) rest ≡ Some o → FunctionOf x o more)
      → find (named x) (objects_in file top ++ rest) ≡ Some o → FunctionOf x o (top_functions t file top ++ more)
  one_top x not_blank not_init file (declared c) texts local none rest more o is k at = k (skip_plain x (objects_in file (declared c)) rest o (decl_fits_any file c texts) is at)
  one_top x not_blank not_init file (function f) texts local none rest more o is k at = elim (cases_Bool (bytes_eq f.name.text (codes "init"))) [
    | inl init ↦ (
        let other : bytes_eq x f.name.text ≡ false = elim (cases_Bool (bytes_eq x f.name.text)) [
          | inr not_so ↦ not_so
          | inl same ↦ absurd (
              let e : x ≡ f.name.text = (bytes_eq-Decides x f.name.text).0 same in
              let no : false ≡ true = sym not_init ∙ ap (λ (y : List ℕ). bytes_eq y (codes "init")) e ∙ init in
              cc (no))
        ] in
        passed x o more (top_functions t file (function f) ++ more) (skip_function x file f more other (function_at (context_at t file) f).known refl) (k (rw init at at)))
    | inr not_so ↦ elim (cases_Bool (bytes_eq x f.name.text)) [
      | inl found ↦ (
          let one : Some (record { file = file; begins = f.name.place; name = f.name; form = function' f.parameters f.results }) ≡ Some o = rw (not_so, found) at at in
          let same : record { file = file; begins = f.name.place; name = f.name; form = function' f.parameters f.results } ≡ o = cc (one) in
          here_found x not_blank file f more o ((bytes_eq-Decides x f.name.text).0 found) same (known file f local none))
      | inr other ↦ passed x o more (top_functions t file (function f) ++ more) (skip_function x file f more other (function_at (context_at t file) f).known refl) (k (rw (not_so, other) at at))
    ]
  ]

  tops_found : (x : List ℕ) → bytes_eq x (codes "_") ≡ false → bytes_eq x (codes "init") ≡ false → (file : ℕ) (tops : List TopLevel) → TopsHaveTexts tops → LocalTops tops → flat_map (top_faults t file) tops ≡ []
      → (rest : List DeclaredObject) (more : List typed.Function) (o : DeclaredObject) → is_function o.form ≡ true → (find (named x) rest ≡ Some o → FunctionOf x o more)
      → find (named x) (flat_map (objects_in file) tops ++ rest) ≡ Some o → FunctionOf x o (flat_map (top_functions t file) tops ++ more)
  tops_found x not_blank not_init file [] texts local none rest more o is k at = k at
  tops_found x not_blank not_init file (top ∷ tops) texts local none rest more o is k at =
      let ns = both_none (top_faults t file top) (flat_map (top_faults t file) tops) none in
      let objects = append_assoc (objects_in file top) (flat_map (objects_in file) tops) rest in
      let functions = append_assoc (top_functions t file top) (flat_map (top_functions t file) tops) more in
      subst (λ (fs : List typed.Function). FunctionOf x o fs) (sym functions)
      (one_top x not_blank not_init file top texts.0 local.0 ns.0 (flat_map (objects_in file) tops ++ rest) (flat_map (top_functions t file) tops ++ more) o is
      (λ behind. tops_found x not_blank not_init file tops texts.1 local.1 ns.1 rest more o is k behind)
      (ap (find (named x)) (sym objects) ∙ at))

  pub files_found : (x : List ℕ) → bytes_eq x (codes "_") ≡ false → bytes_eq x (codes "init") ≡ false → (number : ℕ) (files : List File) → FilesHaveTexts files → LocalFiles files → files_faults t number files ≡ []
      → (o : DeclaredObject) → is_function o.form ≡ true → find (named x) (objects_from number files) ≡ Some o → FunctionOf x o (of_files (top_functions t) number files)
  files_found x not_blank not_init number [] texts local none o is at = absurd cc
  files_found x not_blank not_init number (f ∷ fs) texts local none o is at =
      let own = flat_map (top_faults t number) f.declarations in
      let ns = both_none (map (λ x. (number, x)) own) (files_faults t (suc number) fs) none in
      tops_found x not_blank not_init number f.declarations texts.0 local.0 (unmapped (λ x. (number, x)) own ns.0) (objects_from (suc number) fs) (of_files (top_functions t) (suc number) fs) o is
      (λ behind. files_found x not_blank not_init (suc number) fs texts.1 local.1 ns.1 o is behind) at

-- a program finds its functions by their symbols
pub by_symbol : (p : typed.Package) (x : List ℕ) (fs : List typed.Function)
    → option_map (λ (d : meaning.DeclaredFunction). d.function) (find (λ (d : meaning.DeclaredFunction). same_symbol (package_symbol p x) d.symbol) (map (λ (f : typed.Function). record { symbol = package_symbol p f.name; function = f }) fs)) ≡ find (by_name x) fs
by_symbol p x [] = refl
by_symbol p x (f ∷ fs) = (let path = itself p.path in elim (cases_Bool (bytes_eq x f.name)) [
  | inl is ↦ rw (path, is) refl
  | inr not_so ↦ rw (path, not_so) (by_symbol p x fs)
])
