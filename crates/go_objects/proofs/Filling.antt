-- A table as it is filled along an order, and that there is one table alone.
use Rattle.std.proofs.Common.{◌≡◌, ℕ, zero, suc, ◌+◌, ◌<◌, ◌≤◌, List, [], ◌∷◌, Option, Some, None, map, length, refl, sym, ap, ◌∙◌, subst, inl, inr, arith}
use Rattle.std.specs.List.{slice_get, Contains}
use Rattle.std.proofs.lemmas.Bool.{cases_eq}
use Rattle.std.proofs.lemmas.Option.{slice_get_within}
use Rattle.indexmap.specs.IndexMap.{set_value_at}
use Rattle.ws_reach.proofs.Reached.{contains_get, get_contains}
use Rattle.go_scope.specs.Order.{GroundedIn, Grounded, Ordered, Once}
use Rattle.go_expr.specs.Known.{Declared, Names, Known, Verdict}
use Rattle.go_expr.specs.Rules.{fine}
use Rattle.go_objects.specs.Objects.{DeclaredObject}
use Rattle.go_objects.specs.Table.{PackageTable, rows, object_verdict, declared_in, IsTable}
use Rattle.go_objects.proofs.Groundedness.{is_grounded}
use Rattle.go_objects.proofs.Lookups.{Named, same_object, need_edge, get_mapped, rows_stay, length_rows}

-- what a table says of an object
abbrev pub entry_by : PackageTable → Names → DeclaredObject → List ℕ × Option Declared
entry_by p known o = (o.name.text, declared_in (fine (object_verdict p known o)))

-- after the k first of an order
pub record Filled (p : PackageTable) (order : List ℕ) (k : ℕ) (known : Names) : Type 0 where
  pub named : Named p.objects known
  pub done : (m i : ℕ) (o : DeclaredObject) → m < k → slice_get order m ≡ Some i → slice_get p.objects i ≡ Some o → slice_get known i ≡ Some (entry_by p known o)
  pub rest : (i : ℕ) (o : DeclaredObject) → ((m : ℕ) → m < k → slice_get order m ≡ Some i → ⊥) → slice_get p.objects i ≡ Some o → slice_get known i ≡ Some (o.name.text, None)

-- an object of which nothing is known
abbrev pub unknown_entry : DeclaredObject → List ℕ × Option Declared
unknown_entry o = (o.name.text, None)

names_unknown : (os : List DeclaredObject) → map (λ (n : List ℕ × Option Declared). n.0) (map unknown_entry os) ≡ map (λ (o : DeclaredObject). o.name.text) os
names_unknown [] = refl
names_unknown (o ∷ os) = ap (λ l. o.name.text ∷ l) (names_unknown os)

pub filled_none : (p : PackageTable) (order : List ℕ) (known : Names) → known ≡ map unknown_entry p.objects → Filled p order 0 known
filled_none p order known is = record {
  named = ap (map (λ n. n.0)) is ∙ names_unknown p.objects;
  done = λ m i o lt. absurd (omega (arith, lt));
  rest = λ i o none at. ap (λ (t : Names). slice_get t i) is ∙ get_mapped unknown_entry p.objects i o at;
}

some_same : {A : Type 0} (a : Option A) (x y : A) → a ≡ Some x → a ≡ Some y → x ≡ y
some_same a x y d e = let s : Some x ≡ Some y = sym d ∙ e in cc (s)

pub filled_more : (p : PackageTable) (order : List ℕ) (k i : ℕ) (o : DeclaredObject) (known known' : Names) → Ordered (rows p) order → Once order → Filled p order k known → slice_get order k ≡ Some i → slice_get p.objects i ≡ Some o →
    Named p.objects known' → slice_get known' i ≡ Some (entry_by p known o) → ((j : ℕ) → (j ≡ i → ⊥) → slice_get known' j ≡ slice_get known j) → Filled p order (k + 1) known'
filled_more p order k i o known known' ordered once before at is named here others =
    -- what stands in the order so far needs nothing that changes
    let same : (m j : ℕ) (a : DeclaredObject) → m < k + 1 → slice_get order m ≡ Some j → slice_get p.objects j ≡ Some a → object_verdict p known a ≡ object_verdict p known' a =
    λ m j a lt there it. same_object p known known' before.named named a (λ n c.
    let place = ordered m j n there (need_edge p j n a it c) in
    sym (others n (λ e.
    let k_is : place.0 ≡ k = once place.0 k i (place.2 ∙ ap Some e) at in
    absurd (omega (arith, k_is, place.1, lt))))) in
    record {
      named = named;
      done = λ m j a lt there it. elim (cases_eq j i) [
        | inl e ↦ (
            let same_object : o ≡ a = some_same (slice_get p.objects i) o a is (ap (slice_get p.objects) (sym e) ∙ it) in
            ap (slice_get known') e ∙ here ∙ ap (λ (b : DeclaredObject). Some (entry_by p known b)) same_object ∙ ap (λ (v : Verdict Known). Some (a.name.text, declared_in (fine v))) (same m j a lt there it))
        | inr ne ↦ (
            let other : m ≡ k → ⊥ = λ e. ne (some_same (slice_get order k) j i (ap (slice_get order) (sym e) ∙ there) at) in
            let below : m < k = omega (arith, lt, other) in
            others j ne ∙ before.done m j a below there it ∙ ap (λ (v : Verdict Known). Some (a.name.text, declared_in (fine v))) (same m j a lt there it))
      ];
      rest = λ j a none it.
          let ne : j ≡ i → ⊥ = λ e. none k (omega arith) (at ∙ ap Some (sym e)) in
          others j ne ∙ before.rest j a (λ m lt. none m (omega (arith, lt))) it;
    }

-- a number past the objects
filled_past : (p : PackageTable) (order : List ℕ) (k i : ℕ) (known : Names) → Filled p order k known → slice_get order k ≡ Some i → slice_get p.objects i ≡ None → Filled p order (k + 1) known
filled_past p order k i known before at past = record {
  named = before.named;
  done = λ m j a lt there it.
      let other : m ≡ k → ⊥ = λ e. (
      let same : j ≡ i = some_same (slice_get order k) j i (ap (slice_get order) (sym e) ∙ there) at in
      let no : None ≡ Some a = sym past ∙ ap (slice_get p.objects) (sym same) ∙ it in
      cc (no)) in
      before.done m j a (omega (arith, lt, other)) there it;
  rest = λ j a none it. before.rest j a (λ m lt. none m (omega (arith, lt))) it;
}

written_names : (known : Names) (i : ℕ) (d : Option Declared) → map (λ (n : List ℕ × Option Declared). n.0) (set_value_at known i d) ≡ map (λ (n : List ℕ × Option Declared). n.0) known
written_names [] i d = refl
written_names (e ∷ es) zero d = refl
written_names (e ∷ es) (suc i) d = ap (λ l. e.0 ∷ l) (written_names es i d)

written_here : (known : Names) (i : ℕ) (d : Option Declared) (x : List ℕ) → slice_get (map (λ (n : List ℕ × Option Declared). n.0) known) i ≡ Some x → slice_get (set_value_at known i d) i ≡ Some (x, d)
written_here [] i d x at = cc
written_here (e ∷ es) zero d x at = (let same : e.0 ≡ x = cc (at) in ap (λ y. Some (y, d)) same)
written_here (e ∷ es) (suc i) d x at = written_here es i d x at

written_other : (known : Names) (i j : ℕ) (d : Option Declared) → (j ≡ i → ⊥) → slice_get (set_value_at known i d) j ≡ slice_get known j
written_other [] i j d ne = refl
written_other (e ∷ es) zero zero d ne = absurd (ne refl)
written_other (e ∷ es) zero (suc j) d ne = refl
written_other (e ∷ es) (suc i) zero d ne = refl
written_other (e ∷ es) (suc i) (suc j) d ne = written_other es i j d (λ s. ne (ap suc s))

pub filled_step : (p : PackageTable) (order : List ℕ) (k i : ℕ) (known known' : Names) → Ordered (rows p) order → Once order → Filled p order k known → slice_get order k ≡ Some i →
    ((o : DeclaredObject) → slice_get p.objects i ≡ Some o → known' ≡ set_value_at known i (declared_in (fine (object_verdict p known o)))) → (slice_get p.objects i ≡ None → known' ≡ known) → Filled p order (k + 1) known'
filled_step p order k i known known' ordered once before at there past = elim (slice_get p.objects i) as (λ r. slice_get p.objects i ≡ r → Filled p order (k + 1) known') [
  | None ↦ λ none. subst (λ (t : Names). Filled p order (k + 1) t) (sym (past none)) (filled_past p order k i known before at none)
  | Some o ↦ λ some. (
      let d = declared_in (fine (object_verdict p known o)) in
      let named = ap (λ (l : List (List ℕ)). slice_get l i) before.named ∙ get_mapped (λ (a : DeclaredObject). a.name.text) p.objects i o some in
      subst (λ (t : Names). Filled p order (k + 1) t) (sym (there o some))
      (filled_more p order k i o known (set_value_at known i d) ordered once before at some (written_names known i d ∙ before.named) (written_here known i d o.name.text named) (λ j ne. written_other known i j d ne)))
] refl

pub filled_table : (p : PackageTable) (order : List ℕ) (known : Names) → ((i : ℕ) → Contains order i → Grounded (rows p) i) → ((i : ℕ) → i < length (rows p) → Grounded (rows p) i → Contains order i) → Filled p order (length order) known → IsTable p known
filled_table p order known only all f = record {
  named = f.named;
  grounded = λ k o at g.
      let c = all k (let lt = slice_get_within p.objects k o at in omega (arith, lt, length_rows p)) g in
      f.done c.0 k o c.1 (contains_get order k c) at;
  others = λ k o at not_grounded. f.rest k o (λ m lt there. not_grounded (only k (get_contains order m k there))) at;
}

-- ---- one table

length_named : (os : List DeclaredObject) (known : Names) → Named os known → length known ≡ length os
length_named [] [] e = refl
length_named [] (k ∷ ks) e = cc
length_named (o ∷ os) [] e = cc
length_named (o ∷ os) (k ∷ ks) e = (let rest : Named os ks = cc in ap suc (length_named os ks rest))

none_there : {A : Type 0} (xs : List A) (k : ℕ) → length xs ≤ k → slice_get xs k ≡ None
none_there [] k le = refl
none_there (x ∷ xs) zero le = absurd (omega (arith, le))
none_there (x ∷ xs) (suc k) le = none_there xs k (omega (arith, le))

none_past : {A : Type 0} (xs : List A) (k : ℕ) → slice_get xs k ≡ None → length xs ≤ k
none_past [] k e = omega arith
none_past (x ∷ xs) zero e = cc
none_past (x ∷ xs) (suc k) e = (let le = none_past xs k e in omega (arith, le))

past : (p : PackageTable) (t : Names) (k : ℕ) → Named p.objects t → slice_get p.objects k ≡ None → slice_get t k ≡ None
past p t k named none = none_there t k (let le = none_past p.objects k none in omega (arith, le, length_named p.objects t named))

same_in : (p : PackageTable) (t u : Names) → IsTable p t → IsTable p u → (n k : ℕ) → GroundedIn (rows p) n k → slice_get t k ≡ slice_get u k
same_in p t u it iu zero k g = absurd g
same_in p t u it iu (suc n) k g = elim (slice_get p.objects k) as (λ r. slice_get p.objects k ≡ r → slice_get t k ≡ slice_get u k) [
  | None ↦ λ none. past p t k it.named none ∙ sym (past p u k iu.named none)
  | Some o ↦ λ at. (
      let same = same_object p t u it.named iu.named o (λ m c. same_in p t u it iu n m (g m (need_edge p k m o at c))) in
      it.grounded k o at (suc n, g) ∙ ap (λ (v : Verdict Known). Some (o.name.text, declared_in (fine v))) same ∙ sym (iu.grounded k o at (suc n, g)))
] refl

same_lists : {A : Type 0} (xs ys : List A) → ((k : ℕ) → slice_get xs k ≡ slice_get ys k) → xs ≡ ys
same_lists [] [] h = refl
same_lists [] (y ∷ ys) h = (let no = h 0 in cc (no))
same_lists (x ∷ xs) [] h = (let no = h 0 in cc (no))
same_lists (x ∷ xs) (y ∷ ys) h =
    let here : Some x ≡ Some y = h 0 in
    let first : x ≡ y = cc (here) in
    ap (λ z. z ∷ xs) first ∙ ap (λ l. y ∷ l) (same_lists xs ys (λ k. h (suc k)))

pub one_table : (p : PackageTable) (t u : Names) → IsTable p t → IsTable p u → t ≡ u
one_table p t u it iu = same_lists t u (λ k. elim (slice_get p.objects k) as (λ r. slice_get p.objects k ≡ r → slice_get t k ≡ slice_get u k) [
  | None ↦ λ none. past p t k it.named none ∙ sym (past p u k iu.named none)
  | Some o ↦ λ at. elim (is_grounded (rows p) (rows_stay p) k (let lt = slice_get_within p.objects k o at in omega (arith, lt, length_rows p))) [
    | inl g ↦ same_in p t u it iu g.0 k g.1
    | inr ng ↦ it.others k o at ng ∙ sym (iu.others k o at ng)
  ]
] refl)
