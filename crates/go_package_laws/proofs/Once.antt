-- Names of a package's objects stand there once, so each is found.
use Rattle.std.proofs.Common.{◌≡◌, ℕ, zero, suc, true, false, ◌||◌, Bool, List, [], ◌∷◌, ◌++◌, Option, Some, None, map, codes, refl, sym, ap, ◌∙◌, inl, inr}
use Rattle.std.specs.Prelude.{bytes_eq, option_map, unwrap_or}
use Rattle.std.specs.List.{slice_get, list_any, find, cons_option}
use Rattle.std.specs.Map.{lookup}
use Rattle.std.proofs.lemmas.Bool.{cases_Bool}
use Rattle.std.proofs.lemmas.Slice.Eq.{bytes_eq-Decides}
use Rattle.go_types.specs.Types.{Type'}
use Rattle.go_typed.specs.Trees as typed
use Rattle.go_typed.specs.Trees.{Symbol, global}
use Rattle.go_meaning.specs.Values.{zero_of}
use Rattle.go_symbol.specs.Symbols.{same_symbol}
use Rattle.go_meaning.specs.Meaning.{Stored}
use Rattle.go_meaning.specs.Programs.{package_symbol}
use Rattle.go_expr.specs.Known.{Declared, value, type', function, println, length', capacity', make', append', panic', Names}
use Rattle.go_objects.specs.Objects.{DeclaredObject, firsts}
use Rattle.go_package.specs.Typed.{type_in, types_in, declared_at, variable_in, variables_in}
use Rattle.go_package_laws.proofs.Tables.{pair_first, pair_second}

pub itself : (x : List ℕ) → bytes_eq x x ≡ true
itself x = (bytes_eq-Decides x x).1 refl

abbrev pub Once : List (List ℕ) → Type 0
Once [] = Unit {0}
Once (x ∷ xs) = (list_any (bytes_eq x) xs ≡ false) × Once xs

abbrev pub texts : List DeclaredObject → List (List ℕ)
texts os = map (λ (o : DeclaredObject). o.name.text) os

any_behind : (x : List ℕ) (xs ys : List (List ℕ)) → list_any (bytes_eq x) xs ≡ true → list_any (bytes_eq x) (xs ++ ys) ≡ true
any_behind x [] ys h = absurd cc
any_behind x (y ∷ xs) ys h = elim (cases_Bool (bytes_eq x y)) [ inl is ↦ rw is refl | inr not_so ↦ rw not_so (any_behind x xs ys (rw not_so at h)) ]

any_last : (x : List ℕ) (xs : List (List ℕ)) → list_any (bytes_eq x) (xs ++ x ∷ []) ≡ true
any_last x [] = (let is = itself x in rw is refl)
any_last x (y ∷ xs) = elim (cases_Bool (bytes_eq x y)) [ inl is ↦ rw is refl | inr not_so ↦ rw not_so (any_last x xs) ]

firsts_new : (names : List (List ℕ)) (os : List DeclaredObject) (x : List ℕ) → list_any (bytes_eq x) names ≡ true → list_any (bytes_eq x) (texts (firsts names os)) ≡ false
firsts_new names [] x h = refl
firsts_new names (o ∷ os) x h = elim (cases_Bool (bytes_eq o.name.text (codes "_") || list_any (bytes_eq o.name.text) names)) [
  | inl out ↦ rw out (firsts_new names os x h)
  | inr new ↦ elim (cases_Bool (bytes_eq x o.name.text)) [
    | inl is ↦ absurd (
        let same : x ≡ o.name.text = (bytes_eq-Decides x o.name.text).0 is in
        let there : list_any (bytes_eq o.name.text) names ≡ true = ap (λ (y : List ℕ). list_any (bytes_eq y) names) (sym same) ∙ h in
        elim (cases_Bool (bytes_eq o.name.text (codes "_"))) [
          | inl blank ↦ (let no : true ≡ false = rw blank at new in cc (no))
          | inr named ↦ (let no : true ≡ false = rw (named, there) at new in cc (no))
        ])
    | inr not_so ↦ rw (new, not_so) (firsts_new (names ++ o.name.text ∷ []) os x (any_behind x names (o.name.text ∷ []) h))
  ]
]

pub firsts_once : (names : List (List ℕ)) (os : List DeclaredObject) → Once (texts (firsts names os))
firsts_once names [] = tt
firsts_once names (o ∷ os) = elim (cases_Bool (bytes_eq o.name.text (codes "_") || list_any (bytes_eq o.name.text) names)) [
  | inl out ↦ rw out (firsts_once names os)
  | inr new ↦ rw new (firsts_new (names ++ o.name.text ∷ []) os o.name.text (any_last o.name.text names), firsts_once (names ++ o.name.text ∷ []) os)
]

-- a name that stands behind another that stands there once is another
pub another : (y : List ℕ) (xs : List (List ℕ)) → list_any (bytes_eq y) xs ≡ false → (k : ℕ) (x : List ℕ) → slice_get xs k ≡ Some x → bytes_eq x y ≡ false
another y [] h k x at = absurd cc
another y (z ∷ xs) h zero x at =
    let same : z ≡ x = cc in
    elim (cases_Bool (bytes_eq x y)) [
      | inr not_so ↦ not_so
      | inl is ↦ absurd (
          let e : y ≡ z = sym ((bytes_eq-Decides x y).0 is) ∙ sym same in
          let here : bytes_eq y z ≡ true = (bytes_eq-Decides y z).1 e in
          let no : true ≡ false = rw here at h in cc (no))
    ]
another y (z ∷ xs) h (suc k) x at = elim (cases_Bool (bytes_eq y z)) [
  | inl is ↦ absurd (let no : true ≡ false = rw is at h in cc (no))
  | inr not_so ↦ another y xs (rw not_so at h) k x at
]

pub mapped_get : {A B : Type 0} (f : A → B) (xs : List A) (k : ℕ) (x : A) → slice_get xs k ≡ Some x → slice_get (map f xs) k ≡ Some (f x)
mapped_get f [] k x at = absurd cc
mapped_get f (y ∷ ys) zero x at = (let e : y ≡ x = cc in ap (λ z. Some (f z)) e)
mapped_get f (y ∷ ys) (suc k) x at = mapped_get f ys k x at

abbrev pub keys : Names → List (List ℕ)
keys known = map (λ n. n.0) known

-- what a table has of a name
pub looked_up : (known : Names) → Once (keys known) → (k : ℕ) (x : List ℕ) (v : Option Declared) → slice_get known k ≡ Some (x, v) → lookup (bytes_eq x) known ≡ Some v
looked_up [] once k x v at = absurd cc
looked_up ((y, u) ∷ known) once zero x v at =
    let name = pair_first y x u v at in
    let has = pair_second y x u v at in
    let here : bytes_eq x y ≡ true = (bytes_eq-Decides x y).1 (sym name) in
    rw here (ap Some has)
looked_up ((y, u) ∷ known) once (suc k) x v at =
    let other = another y (keys known) once.0 k x (mapped_get (λ n. n.0) known k (x, v) at) in
    rw other (looked_up known once.1 k x v at)

pub declared_here : (known : Names) → Once (keys known) → (k : ℕ) (x : List ℕ) (e : Declared) → slice_get known k ≡ Some (x, Some e) → declared_at known x ≡ Some e
declared_here known once k x e at = ap (λ o. unwrap_or o None) (looked_up known once k x (Some e) at)

-- ---- types

skip_type : (y x : List ℕ) (u : Option Declared) (rest : List (List ℕ × Type')) → bytes_eq x y ≡ false → lookup (bytes_eq x) (cons_option (type_in (y, u)) rest) ≡ lookup (bytes_eq x) rest
skip_type y x (Some (type' t)) rest other = rw other refl
skip_type y x None rest other = refl
skip_type y x (Some (value e)) rest other = refl
skip_type y x (Some (function s ts rs)) rest other = refl
skip_type y x (Some println) rest other = refl
skip_type y x (Some length') rest other = refl
skip_type y x (Some capacity') rest other = refl
skip_type y x (Some make') rest other = refl
skip_type y x (Some append') rest other = refl
skip_type y x (Some panic') rest other = refl

pub type_found : (known : Names) → Once (keys known) → (k : ℕ) (x : List ℕ) (t : Type') → slice_get known k ≡ Some (x, Some (type' t)) → lookup (bytes_eq x) (types_in known) ≡ Some t
type_found [] once k x t at = absurd cc
type_found ((y, u) ∷ known) once zero x t at =
    let name = pair_first y x u (Some (type' t)) at in
    let has = pair_second y x u (Some (type' t)) at in
    let here : bytes_eq x y ≡ true = (bytes_eq-Decides x y).1 (sym name) in
    ap (λ (v : Option Declared). lookup (bytes_eq x) (cons_option (type_in (y, v)) (types_in known))) has ∙ rw here refl
type_found ((y, u) ∷ known) once (suc k) x t at =
    let other = another y (keys known) once.0 k x (mapped_get (λ n. n.0) known k (x, Some (type' t)) at) in
    skip_type y x u (types_in known) other ∙ type_found known once.1 k x t at

-- ---- variables

abbrev pub stored : typed.Package → typed.Variable → Stored
stored p v = record { symbol = package_symbol p v.name; of = v.of; value = zero_of v.of }

abbrev is_stored : Symbol → Stored → Bool
is_stored s v = same_symbol s v.symbol

abbrev type_found_at : Symbol → List Stored → Option Type'
type_found_at s vs = option_map (λ v. v.of) (find (is_stored s) vs)

skip_variable : (p : typed.Package) (files : List (List ℕ)) (x : List ℕ) (o : DeclaredObject) (u : Option Declared) (vs : List typed.Variable) (rest : List Stored) → bytes_eq x o.name.text ≡ false
    → type_found_at (package_symbol p x) (map (stored p) (cons_option (variable_in files o u) vs) ++ rest) ≡ type_found_at (package_symbol p x) (map (stored p) vs ++ rest)
skip_variable p files x o (Some (value (global t s))) vs rest other = (let same = itself p.path in rw (same, other) refl)
skip_variable p files x o None vs rest other = refl
skip_variable p files x o (Some (value e)) vs rest other = refl
skip_variable p files x o (Some (type' t)) vs rest other = refl
skip_variable p files x o (Some (function s ts rs)) vs rest other = refl
skip_variable p files x o (Some println) vs rest other = refl
skip_variable p files x o (Some length') vs rest other = refl
skip_variable p files x o (Some capacity') vs rest other = refl
skip_variable p files x o (Some make') vs rest other = refl
skip_variable p files x o (Some append') vs rest other = refl
skip_variable p files x o (Some panic') vs rest other = refl

pub variable_found : (p : typed.Package) (files : List (List ℕ)) (known : Names) (os : List DeclaredObject) (rest : List Stored) → Once (texts os) → (k : ℕ) (o : DeclaredObject) (t : Type') (s : Symbol)
    → slice_get os k ≡ Some o → declared_at known o.name.text ≡ Some (value (global t s)) → type_found_at (package_symbol p o.name.text) (map (stored p) (variables_in files known os) ++ rest) ≡ Some t
variable_found p files known [] rest once k o t s at is = absurd cc
variable_found p files known (y ∷ os) rest once zero o t s at is =
    let same : y ≡ o = cc in
    let path = itself p.path in
    let name = itself o.name.text in
    ap (λ (z : DeclaredObject). type_found_at (package_symbol p o.name.text) (map (stored p) (cons_option (variable_in files z (declared_at known z.name.text)) (variables_in files known os)) ++ rest)) same
    ∙ ap (λ (u : Option Declared). type_found_at (package_symbol p o.name.text) (map (stored p) (cons_option (variable_in files o u) (variables_in files known os)) ++ rest)) is
    ∙ rw (path, name) refl
variable_found p files known (y ∷ os) rest once (suc k) o t s at is =
    let other = another y.name.text (texts os) once.0 k o.name.text (mapped_get (λ (o : DeclaredObject). o.name.text) os k o at) in
    skip_variable p files o.name.text y (declared_at known y.name.text) (variables_in files known os) rest other ∙ variable_found p files known os rest once.1 k o t s at is
