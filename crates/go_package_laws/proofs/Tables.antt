-- What a table knows of a package's names is sound: each object stands on those that it needs.
use Rattle.std.proofs.Common.{◌≡◌, ℕ, zero, suc, ◌<◌, ◌+◌, true, Bool, List, [], ◌∷◌, Option, Some, None, map, length, refl, sym, ap, ◌∙◌, inl, inr, arith}
use Rattle.std.specs.Prelude.{nat_eq, if◌then◌else◌}
use Rattle.std.specs.List.{slice_get, list_any}
use Rattle.std.proofs.lemmas.Bool.{cases_Bool}
use Rattle.std.proofs.lemmas.Bool.Decides.{Decides-eqb}
use Rattle.ws_reach.proofs.Reached.{contains_get, get_contains}
use Rattle.go_scope.specs.Order.{GroundedIn, Grounded}
use Rattle.go_expr.specs.Known.{Declared, Names, declared, Fine}
use Rattle.go_expr.specs.Rules.{fine}
use Rattle.go_objects.specs.Objects.{DeclaredObject}
use Rattle.go_objects.specs.Table.{PackageTable, imports_at, needs, rows, scope_at, iota_in, object_verdict, declared_in, IsTable}
use Rattle.go_objects.proofs.Lookups.{same_object, need_edge}
use Rattle.go_meaning_laws.specs.WellTyped.{Setting}
use Rattle.go_package_laws.proofs.Soundness.{Table}
use Rattle.go_package_laws.proofs.Expected.{Expected}
use Rattle.go_package_laws.proofs.Entries.{AllImports, TableSound, scope_sound}
use Rattle.go_package_laws.proofs.Forms.{FormHasTexts, IsWellNamed, IsLinked, IsSoundOwn, known_is, form_sound, own_declared}

pub pair_first : {A B : Type 0} (x y : A) (u v : B) → ◌≡◌ {A = Option (A × B)} (Some (x, u)) (Some (y, v)) → x ≡ y
pair_first x y u v h = ap (λ o. elim o [ None ↦ x | Some k ↦ k.0 ]) h

pub pair_second : {A B : Type 0} (x y : A) (u v : B) → ◌≡◌ {A = Option (A × B)} (Some (x, u)) (Some (y, v)) → u ≡ v
pair_second x y u v h = ap (λ o. elim o [ None ↦ u | Some k ↦ k.1 ]) h

-- ---- a table of what stands at some numbers alone

abbrev kept_one : Bool → Option Declared → Option Declared
kept_one b e = if b then e else None

abbrev kept : List ℕ → ℕ → Names → Names
kept ns k [] = []
kept ns k (n ∷ known) = (n.0, kept_one (list_any (nat_eq k) ns) n.1) ∷ kept ns (suc k) known

kept_names : (ns : List ℕ) (k : ℕ) (known : Names) → map (λ n. n.0) (kept ns k known) ≡ map (λ n. n.0) known
kept_names ns k [] = refl
kept_names ns k (n ∷ known) = ap (λ l. n.0 ∷ l) (kept_names ns (suc k) known)

kept_there : (ns : List ℕ) (k : ℕ) (known : Names) (m : ℕ) → list_any (nat_eq (k + m)) ns ≡ true → slice_get known m ≡ slice_get (kept ns k known) m
kept_there ns k [] m h = refl
kept_there ns k (n ∷ known) zero h =
    let zeroth : k + 0 ≡ k = omega arith in
    let here : list_any (nat_eq k) ns ≡ true = ap (λ i. list_any (nat_eq i) ns) (sym zeroth) ∙ h in
    rw here refl
kept_there ns k (n ∷ known) (suc m) h =
    let next : k + suc m ≡ suc k + m = omega arith in
    kept_there ns (suc k) known m (ap (λ i. list_any (nat_eq i) ns) (sym next) ∙ h)

kept_has : (ns : List ℕ) (k : ℕ) (known : Names) (m : ℕ) (x : List ℕ) (e : Declared) → slice_get (kept ns k known) m ≡ Some (x, Some e) → (list_any (nat_eq (k + m)) ns ≡ true) × (slice_get known m ≡ Some (x, Some e))
kept_has ns k [] m x e at = absurd cc
kept_has ns k ((y, v) ∷ known) zero x e at =
    let zeroth : k + 0 ≡ k = omega arith in
    elim (cases_Bool (list_any (nat_eq k) ns)) [
      | inl is ↦ (ap (λ i. list_any (nat_eq i) ns) zeroth ∙ is, rw is at at)
      | inr not_so ↦ absurd (let no : None ≡ Some e = pair_second y x None (Some e) (rw not_so at at) in cc (no))
    ]
kept_has ns k (n ∷ known) (suc m) x e at =
    let next : k + suc m ≡ suc k + m = omega arith in
    let rest = kept_has ns (suc k) known m x e at in
    (ap (λ i. list_any (nat_eq i) ns) next ∙ rest.0, rest.1)

first_there : (ns : List ℕ) (known : Names) (m : ℕ) → list_any (nat_eq m) ns ≡ true → slice_get known m ≡ slice_get (kept ns 0 known) m
first_there ns known m h = (let z : 0 + m ≡ m = omega arith in kept_there ns 0 known m (ap (λ i. list_any (nat_eq i) ns) z ∙ h))

first_has : (ns : List ℕ) (known : Names) (m : ℕ) (x : List ℕ) (e : Declared) → slice_get (kept ns 0 known) m ≡ Some (x, Some e) → (list_any (nat_eq m) ns ≡ true) × (slice_get known m ≡ Some (x, Some e))
first_has ns known m x e at = (let z : 0 + m ≡ m = omega arith in let has = kept_has ns 0 known m x e at in (ap (λ i. list_any (nat_eq i) ns) (sym z) ∙ has.0, has.1))

-- numbers by a test are those in a list
any_at : (ns : List ℕ) (i n : ℕ) → slice_get ns i ≡ Some n → list_any (nat_eq n) ns ≡ true
any_at [] i n at = absurd cc
any_at (m ∷ ns) zero n at = (let same : n ≡ m = cc in let is = (Decides-eqb n m).1 same in rw is refl)
any_at (m ∷ ns) (suc i) n at = elim (cases_Bool (nat_eq n m)) [ inl is ↦ rw is refl | inr not_so ↦ rw not_so (any_at ns i n at) ]

at_any : (ns : List ℕ) (n : ℕ) → list_any (nat_eq n) ns ≡ true → (i : ℕ) × (slice_get ns i ≡ Some n)
at_any [] n h = absurd cc
at_any (m ∷ ns) n h = elim (cases_Bool (nat_eq n m)) [
  | inl is ↦ (let same : n ≡ m = (Decides-eqb n m).0 is in (0, ap Some (sym same)))
  | inr not_so ↦ (let rest = at_any ns n (rw not_so at h) in (suc rest.0, rest.1))
]

some_there : {A : Type 0} (xs : List A) (k : ℕ) → k < length xs → (x : A) × (slice_get xs k ≡ Some x)
some_there [] k lt = absurd (omega (arith, lt))
some_there (x ∷ xs) zero lt = (x, refl)
some_there (x ∷ xs) (suc k) lt = some_there xs k (omega (arith, lt))

within : {A : Type 0} (xs : List A) (k : ℕ) (x : A) → slice_get xs k ≡ Some x → k < length xs
within [] k x at = absurd cc
within (y ∷ ys) zero x at = omega arith
within (y ∷ ys) (suc k) x at = (let lt = within ys k x at in omega (arith, lt))

-- ---- tables

-- what a package's table has, and what is given of its objects
pub record Told (p : PackageTable) (known : Names) : Type 0 where
  pub table : IsTable p known
  pub grounded : (k : ℕ) → Grounded (rows p) k
  pub texts : (k : ℕ) (o : DeclaredObject) → slice_get p.objects k ≡ Some o → FormHasTexts o.form
  pub named : (k : ℕ) (o : DeclaredObject) → slice_get p.objects k ≡ Some o → IsWellNamed o

-- what the table has of a name is what its form declares
pub entry_is : (p : PackageTable) (known : Names) → Told p known → (k : ℕ) (x : List ℕ) (e : Declared) → slice_get known k ≡ Some (x, Some e) → (o : DeclaredObject) → slice_get p.objects k ≡ Some o
    → (x ≡ o.name.text) × (object_verdict p known o ≡ Fine (declared e))
entry_is p known h k x e at o there =
    let is = h.table.grounded k o there (h.grounded k) in
    let same : Some (x, Some e) ≡ Some (o.name.text, declared_in (fine (object_verdict p known o))) = sym at ∙ is in
    let name = pair_first x o.name.text (Some e) (declared_in (fine (object_verdict p known o))) same in
    let has = sym (pair_second x o.name.text (Some e) (declared_in (fine (object_verdict p known o))) same) in
    (name, known_is (object_verdict p known o) e has)

length_mapped : {A B : Type 0} (f : A → B) (xs : List A) → length (map f xs) ≡ length xs
length_mapped f [] = refl
length_mapped f (x ∷ xs) = ap suc (length_mapped f xs)

-- each entry is that of an object
pub object_of : (p : PackageTable) (known : Names) → Told p known → (k : ℕ) (x : List ℕ) (e : Declared) → slice_get known k ≡ Some (x, Some e) → (o : DeclaredObject) × (slice_get p.objects k ≡ Some o)
object_of p known h k x e at =
    let lt = within known k (x, Some e) at in
    let as_many : length known ≡ length p.objects = sym (length_mapped (λ n. n.0) known) ∙ ap length h.table.named ∙ length_mapped (λ (o : DeclaredObject). o.name.text) p.objects in
    some_there p.objects k (omega (arith, lt, as_many))

module _ (expected : Expected) (w : Table) (g : Setting) (d : List ℕ) (p : PackageTable) (known : Names) (h : Told p known) where
  module _ (plain : w.plain p.path ≡ true) (imported : (file : ℕ) → AllImports w g d (imports_at p file)) (linked : (k : ℕ) (x : List ℕ) (e : Declared) → slice_get known k ≡ Some (x, Some e) → IsLinked w g e) where
    object_sound : (n k : ℕ) → GroundedIn (rows p) n k → (x : List ℕ) (e : Declared) → slice_get known k ≡ Some (x, Some e) → IsSoundOwn w g d e
    object_sound zero k gr x e at = absurd gr
    object_sound (suc n) k gr x e at =
        let there = object_of p known h k x e at in
        let o = there.0 in
        let ns = needs p o in
        let u = kept ns 0 known in
        let iota = iota_in o.form in
        let is = (entry_is p known h k x e at o there.1).1 in
        let same = same_object p known u h.table.named (kept_names ns 0 known ∙ h.table.named) o (λ m c. first_there ns known m (any_at ns c.0 m (contains_get ns m c))) in
        let needed : TableSound w g d u = λ m y f there_f. (
        let has = first_has ns known m y f there_f in
        let c = at_any ns m has.0 in
        let edge = need_edge p k m o there.1 (get_contains ns c.0 m c.1) in
        own_declared expected w g d f (object_sound n m (gr m edge) y f has.1)) in
        form_sound expected w g d (scope_at p u o.file iota) (record { path = p.path; name = o.name.text }) o.form (scope_sound w g d p u o.file iota plain (imported o.file) needed) (h.texts k o there.1) e (sym same ∙ is) (linked k x e at)

    pub own_sound : (k : ℕ) (x : List ℕ) (e : Declared) → slice_get known k ≡ Some (x, Some e) → IsSoundOwn w g d e
    own_sound k x e at = (let gr = h.grounded k in object_sound gr.0 k gr.1 x e at)

    pub table_sound : TableSound w g d known
    table_sound k x e at = own_declared expected w g d e (own_sound k x e at)
