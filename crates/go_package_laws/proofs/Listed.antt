-- Of packages with different paths, each name finds what its own package has.
use Rattle.std.proofs.Common.{◌≡◌, ◌≢◌, ℕ, zero, suc, true, false, Bool, List, [], ◌∷◌, ◌++◌, Option, Some, None, map, refl, sym, ap, ◌∙◌, subst, inl, inr}
use Rattle.std.specs.Prelude.{bytes_eq, option_map}
use Rattle.std.specs.List.{All, Contains, find, flat_map, slice_get}
use Rattle.std.specs.Map.{lookup}
use Rattle.std.proofs.lemmas.Bool.{cases_Bool}
use Rattle.std.proofs.lemmas.Slice.Eq.{bytes_eq-Decides}
use Rattle.std.proofs.lemmas.List.Elements.{All-head, All-tail, All-nil, All-cons, All-contains}
use Rattle.ws_reach.proofs.Reached.{contains_get, get_contains}
use Rattle.go_types.specs.Types.{Type'}
use Rattle.go_typed.specs.Trees.{Symbol, Function, Variable, Package}
use Rattle.go_symbol.specs.Symbols.{same_symbol}
use Rattle.go_meaning.specs.Meaning.{Stored}
use Rattle.go_meaning.specs.Programs.{package_symbol, package_functions, first_variables}
use Rattle.go_meaning.specs.Programs as meaning
use Rattle.go_meaning_laws.specs.WellTyped.{signature_at, variable_at}
use Rattle.go_package_laws.proofs.Soundness.{Table}
use Rattle.go_package_laws.specs.Packages.{AreCheckedBehind}
use Rattle.go_package_laws.proofs.Once.{itself, stored}
use Rattle.go_package_laws.proofs.Links.{declared_as, HasTypes}
use Rattle.go_package_laws.proofs.Packages.{HasOwn}

-- ---- paths

abbrev Apart : Package → List Package → Type 0
Apart p ps = All (λ (q : Package). p.path ≢ q.path) ps

abbrev pub Differ : List Package → Type 0
Differ [] = Unit {0}
Differ (p ∷ ps) = Apart p ps × Differ ps

pub contains_behind : {A : Type 0} (y : A) (xs : List A) (x : A) → Contains xs x → Contains (y ∷ xs) x
contains_behind y xs x c = get_contains (y ∷ xs) (suc c.0) x (contains_get xs x c)

apart_behind : (x : Package) (before ps : List Package) → Contains before x → AreCheckedBehind before ps → Apart x ps
apart_behind x before [] c h = All-nil (λ (q : Package). x.path ≢ q.path)
apart_behind x before (p ∷ ps) c h =
    let other = All-contains (λ (q : Package). p.path ≢ q.path) before x h.0.new c in
    All-cons (λ (q : Package). x.path ≢ q.path) p ps (λ same. other (sym same)) (apart_behind x (p ∷ before) ps (contains_behind p before x c) h.1)

pub differ : (before ps : List Package) → AreCheckedBehind before ps → Differ ps
differ before [] h = tt
differ before (p ∷ ps) h = (apart_behind p (p ∷ before) ps (get_contains (p ∷ before) 0 p refl) h.1, differ (p ∷ before) ps h.1)

-- no package stands there twice
pub once : (p : Package) → AreCheckedBehind [] (p ∷ p ∷ []) → ⊥
once p h = All-head (λ (q : Package). p.path ≢ q.path) p [] (h.1).0.new refl

unlike : (x y : List ℕ) → x ≢ y → bytes_eq x y ≡ false
unlike x y other = elim (cases_Bool (bytes_eq x y)) [ inl is ↦ absurd (other ((bytes_eq-Decides x y).0 is)) | inr not_so ↦ not_so ]

at_all : (P : Package → Type 0) (ps : List Package) → All P ps → (k : ℕ) (p : Package) → slice_get ps k ≡ Some p → P p
at_all P ps all k p at = All-contains P ps p all (get_contains ps k p at)

-- ---- what stands in several lists

find_skip : {A : Type 0} (test : A → Bool) (xs ys : List A) → find test xs ≡ None → find test (xs ++ ys) ≡ find test ys
find_skip test [] ys h = refl
find_skip test (x ∷ xs) ys h = elim (cases_Bool (test x)) [
  | inl is ↦ absurd (let no : Some x ≡ None = rw is at h in cc (no))
  | inr not_so ↦ rw not_so (find_skip test xs ys (rw not_so at h))
]

find_stay : {A : Type 0} (test : A → Bool) (xs ys : List A) → find test ys ≡ None → find test (xs ++ ys) ≡ find test xs
find_stay test [] ys h = h
find_stay test (x ∷ xs) ys h = elim (cases_Bool (test x)) [ inl is ↦ rw is refl | inr not_so ↦ rw not_so (find_stay test xs ys h) ]

module _ {A : Type 0} (items : Package → List A) (test : Symbol → A → Bool) (none : (q : Package) (s : Symbol) → bytes_eq s.path q.path ≡ false → find (test s) (items q) ≡ None) where
  none_in : (p : Package) (x : List ℕ) (ps : List Package) → Apart p ps → find (test (package_symbol p x)) (flat_map items ps) ≡ None
  none_in p x [] apart = refl
  none_in p x (q ∷ ps) apart =
      let other = unlike p.path q.path (All-head (λ (q : Package). p.path ≢ q.path) q ps apart) in
      find_skip (test (package_symbol p x)) (items q) (flat_map items ps) (none q (package_symbol p x) other) ∙ none_in p x ps (All-tail (λ (q : Package). p.path ≢ q.path) q ps apart)

  pub own_items : (ps : List Package) → Differ ps → (k : ℕ) (p : Package) → slice_get ps k ≡ Some p → (x : List ℕ) → find (test (package_symbol p x)) (flat_map items ps) ≡ find (test (package_symbol p x)) (items p)
  own_items [] h k p at x = absurd cc
  own_items (q ∷ ps) h zero p at x =
      let same : q ≡ p = cc (at) in
      subst (λ (r : Package). find (test (package_symbol r x)) (items q ++ flat_map items ps) ≡ find (test (package_symbol r x)) (items r)) same
      (find_stay (test (package_symbol q x)) (items q) (flat_map items ps) (none_in q x ps h.0))
  own_items (q ∷ ps) h (suc k) p at x =
      let apart : q.path ≢ p.path = at_all (λ (r : Package). q.path ≢ r.path) ps h.0 k p at in
      let other = unlike p.path q.path (λ same. apart (sym same)) in
      find_skip (test (package_symbol p x)) (items q) (flat_map items ps) (none q (package_symbol p x) other) ∙ own_items ps h.1 k p at x

-- ---- functions and variables

no_function : (q : Package) (s : Symbol) → bytes_eq s.path q.path ≡ false → (fs : List Function) → find (λ (d : meaning.DeclaredFunction). same_symbol s d.symbol) (map (λ (f : Function). record { symbol = package_symbol q f.name; function = f }) fs) ≡ None
no_function q s other [] = refl
no_function q s other (f ∷ fs) = rw other (no_function q s other fs)

no_variable : (q : Package) (s : Symbol) → bytes_eq s.path q.path ≡ false → (vs : List Variable) → find (λ (v : Stored). same_symbol s v.symbol) (map (stored q) vs) ≡ None
no_variable q s other [] = refl
no_variable q s other (v ∷ vs) = rw other (no_variable q s other vs)

own_functions : (ps : List Package) → Differ ps → (k : ℕ) (p : Package) → slice_get ps k ≡ Some p → (x : List ℕ) → signature_at ps (package_symbol p x) ≡ signature_at (p ∷ []) (package_symbol p x)
own_functions ps h k p at x =
    let test = λ (s : Symbol) (d : meaning.DeclaredFunction). same_symbol s d.symbol in
    let all = own_items package_functions test (λ q s other. no_function q s other q.functions) ps h k p at x in
    let alone = own_items package_functions test (λ q s other. no_function q s other q.functions) (p ∷ []) (All-nil (λ (q : Package). p.path ≢ q.path), tt) 0 p refl x in
    ap (λ (o : Option meaning.DeclaredFunction). option_map (λ (f : Function). record { parameters = f.parameters; results = f.results }) (option_map (λ (d : meaning.DeclaredFunction). d.function) o)) (all ∙ sym alone)

own_variables : (ps : List Package) → Differ ps → (k : ℕ) (p : Package) → slice_get ps k ≡ Some p → (x : List ℕ) → variable_at ps (package_symbol p x) ≡ variable_at (p ∷ []) (package_symbol p x)
own_variables ps h k p at x =
    let test = λ (s : Symbol) (v : Stored). same_symbol s v.symbol in
    let all = own_items first_variables test (λ q s other. no_variable q s other q.variables) ps h k p at x in
    let alone = own_items first_variables test (λ q s other. no_variable q s other q.variables) (p ∷ []) (All-nil (λ (q : Package). p.path ≢ q.path), tt) 0 p refl x in
    ap (λ (o : Option Stored). option_map (λ (v : Stored). v.of) o) (all ∙ sym alone)

-- ---- types

-- what the declared types of the first package of a path are declared as
abbrev type_of : List ℕ → Option Package → Option Type'
type_of name o = elim o [ None ↦ None | Some q ↦ declared_as (lookup (bytes_eq name) q.types) ]

abbrev pub types_at : List Package → List ℕ → List ℕ → Option Type'
types_at ps path name = type_of name (find (λ (q : Package). bytes_eq path q.path) ps)

found_there : (ps : List Package) → Differ ps → (k : ℕ) (p : Package) → slice_get ps k ≡ Some p → find (λ (q : Package). bytes_eq p.path q.path) ps ≡ Some p
found_there [] h k p at = absurd cc
found_there (q ∷ ps) h zero p at =
    let same : q ≡ p = cc (at) in
    let own = itself q.path in
    subst (λ (r : Package). find (λ (s : Package). bytes_eq r.path s.path) (q ∷ ps) ≡ Some r) same (rw own refl)
found_there (q ∷ ps) h (suc k) p at =
    let apart : q.path ≢ p.path = at_all (λ (r : Package). q.path ≢ r.path) ps h.0 k p at in
    let other = unlike p.path q.path (λ same. apart (sym same)) in
    rw other (found_there ps h.1 k p at)

-- of paths that are plain by this test
abbrev pub table_of : List Package → (List ℕ → Bool) → Table
table_of ps plain = record { types = types_at ps; plain = plain }

own_types : (ps : List Package) (plain : List ℕ → Bool) → Differ ps → (k : ℕ) (p : Package) → slice_get ps k ≡ Some p → HasTypes (table_of ps plain) p
own_types ps plain h k p at x = ap (type_of x) (found_there ps h k p at)

pub has_own : (ps : List Package) (plain : List ℕ → Bool) → Differ ps → (k : ℕ) (p : Package) → slice_get ps k ≡ Some p → plain p.path ≡ true → HasOwn ps (table_of ps plain) p
has_own ps plain h k p at is = (own_functions ps h k p at, own_variables ps h k p at, own_types ps plain h k p at, is)
