-- Parts of values: what a step leads to has the type that it leads to, and a value with another part there keeps its type.
use Rattle.std.proofs.Common.{◌≡◌, ℕ, zero, suc, ◌<◌, Bool, true, false, List, [], ◌∷◌, length, Option, Some, None, pos, negsuc, refl, sym, ap, ◌∙◌, subst, arith, nat_eq, nat_lt}
use Rattle.std.specs.List.{list_all}
use Rattle.std.proofs.lemmas.Bool.{leb-true}
use Rattle.go_types.specs.Types.{Type', basic, array, slice, struct, named, Fields, no_fields, field}
use Rattle.go_types.specs.Relations.{underlying}
use Rattle.go_code.specs.Operators as operators
use Rattle.go_code.specs.Operators.{Operated}
use Rattle.go_meaning.specs.Values.{Value, single, parts, Values, no_values, some_values, unpack, is_of, are_of_fields, Step, to_field, to_element, part_of, with_part, read, updated, if_gives, nth, with_nth}
use Rattle.go_meaning.specs.Choices.{field_type, field_at}
use Rattle.go_meaning_laws.specs.WellTyped.{Suits, array_element, part_type}
use Rattle.go_meaning_laws.proofs.Shelf.{Shelf, Each, Rooted, FieldsRooted}
use Rattle.go_meaning_laws.proofs.Values.{AllProper, Of, both_true, true_both, same_number, number_same, suits}

-- what comes of an operator makes sense, and what it gives is so
abbrev pub Fine : {A : Type 0} → (A → Type 0) → Operated A → Type 0
Fine P (operators.Gives a) = P a
Fine P (operators.Panics kind) = Unit {0}
Fine P operators.Senseless = ⊥

pub fine_then : {A B : Type 0} (P : A → Type 0) (Q : B → Type 0) (o : Operated A) (next : A → Operated B) → Fine P o → ((a : A) → P a → Fine Q (next a)) → Fine Q (if_gives o next)
fine_then P Q (operators.Gives a) next h k = k a h
fine_then P Q (operators.Panics kind) next h k = tt
fine_then P Q operators.Senseless next h k = absurd h

same_type : (t u : Type') → Some t ≡ Some u → t ≡ u
same_type t u e = cc

element_known : (vs : Values) (n : ℕ) → n < length (unpack vs) → (x : Value) × (nth vs n ≡ Some x)
element_known no_values n l = absurd (omega (arith, l))
element_known (some_values v vs) zero l = (v, refl)
element_known (some_values v vs) (suc n) l = element_known vs n (omega (arith, l))

-- from a type to one of a part
abbrev pub StepTo : Type' → Step → Type' → Type 0
StepTo t (to_field n) u = field_type (underlying t) n ≡ Some u
StepTo t (to_element z) u = array_element (underlying t) ≡ Some u

-- from a type to a part that may be given values of the other type
abbrev pub Reaches : Type' → List Step → Type' → Type 0
Reaches t [] u = Suits u t
Reaches t (s ∷ ss) u = (part : Type') × StepTo t s part × Reaches part ss u

module _ (σ : Shelf) where
  -- ---- fields

  -- a part of that type, in whose place another may stand
  abbrev Holding : Type' → Values → ℕ → ((vs : Values) → Type 0) → Type 0
  Holding t vs n Whole = (x : Value) × (nth vs n ≡ Some x) × Of σ t x × ((y : Value) → Of σ t y → Whole (with_nth vs n y))

  abbrev FieldsAre : Fields → Values → Type 0
  FieldsAre fs vs = (are_of_fields fs (unpack vs) ≡ true) × AllProper vs × FieldsRooted σ fs (unpack vs)

  field_holds : (fs : Fields) (vs : Values) (n : ℕ) (t : Type') → field_at fs n ≡ Some t → FieldsAre fs vs → Holding t vs n (FieldsAre fs)
  field_holds no_fields vs n t e h = cc
  field_holds (field p y u fs) no_values n t e h = cc
  field_holds (field p y u fs) (some_values v vs) zero t e h =
      let h1 = both_true (is_of u v) (are_of_fields fs (unpack vs)) h.0 in
      let same = same_type u t e in (
        v,
        refl,
        subst (λ s. Of σ s v) same (h1.0, (h.1).0, (h.2).0),
        λ z k. (
            let k1 : Of σ u z = subst (λ s. Of σ s z) (sym same) k in
            (true_both (is_of u z) (are_of_fields fs (unpack vs)) k1.0 h1.1, (k1.1, (h.1).1), (k1.2, (h.2).1))),
      )
  field_holds (field p y u fs) (some_values v vs) (suc n) t e h =
      let h1 = both_true (is_of u v) (are_of_fields fs (unpack vs)) h.0 in
      let r = field_holds fs vs n t e (h1.1, (h.1).1, (h.2).1) in
      (r.0, r.1, r.2, λ z k. (let s = r.3 z k in (true_both (is_of u v) (are_of_fields fs (unpack (with_nth vs n z))) h1.0 s.0, ((h.1).0, s.1), ((h.2).0, s.2))))

  -- ---- elements

  abbrev ElementsAre : Type' → ℕ → Values → Type 0
  ElementsAre t count vs = (length (unpack vs) ≡ count) × (list_all (is_of t) (unpack vs) ≡ true) × AllProper vs × Each (Rooted σ t) (unpack vs)

  element_holds : (t : Type') (count : ℕ) (vs : Values) (n : ℕ) (x : Value) → ElementsAre t count vs → nth vs n ≡ Some x → Of σ t x × ((y : Value) → Of σ t y → ElementsAre t count (with_nth vs n y))
  element_holds t count no_values n x h e = absurd (cc)
  element_holds t count (some_values v vs) zero x h e =
      let h1 = both_true (is_of t v) (list_all (is_of t) (unpack vs)) h.1 in
      let same : v ≡ x = cc in
      (subst (λ u. Of σ t u) same (h1.0, (h.2).0, (h.3).0), λ z k. (h.0, true_both (is_of t z) (list_all (is_of t) (unpack vs)) k.0 h1.1, (k.1, (h.2).1), (k.2, (h.3).1)))
  element_holds t count (some_values v vs) (suc n) x h e =
      let h1 = both_true (is_of t v) (list_all (is_of t) (unpack vs)) h.1 in
      let r = element_holds t (length (unpack vs)) vs n x (refl, h1.1, (h.2).1, (h.3).1) e in
      (r.0, λ z k. (let s = r.1 z k in (ap suc s.0 ∙ h.0, true_both (is_of t v) (list_all (is_of t) (unpack (with_nth vs n z))) h1.0 s.1, ((h.2).0, s.2), ((h.3).0, s.3))))

  -- ---- one step

  -- a part of that type, in whose place another may stand
  abbrev pub PartOf : Type' → Value → Step → Type' → Value → Type 0
  PartOf t v s u x = Of σ u x × ((y : Value) → Of σ u y → Of σ t (with_part v s y))

  elements_of : (n : ℕ) (u : Type') (vs : Values) → Of σ (array n u) (parts vs) → ElementsAre u n vs
  elements_of n u vs h = (let h1 = both_true (nat_eq (length (unpack vs)) n) (list_all (is_of u) (unpack vs)) h.0 in (same_number (length (unpack vs)) n h1.0, h1.1, h.1, h.2))

  of_elements : (n : ℕ) (u : Type') (vs : Values) → ElementsAre u n vs → Of σ (array n u) (parts vs)
  of_elements n u vs h = (true_both (nat_eq (length (unpack vs)) n) (list_all (is_of u) (unpack vs)) (number_same (length (unpack vs)) n h.0) h.1, h.2, h.3)

  element_step : (n : ℕ) (u : Type') (v : Value) (z : _) → Of σ (array n u) v → Fine (PartOf (array n u) v (to_element z) u) (part_of v (to_element z))
  element_step n u (single c) z h = cc
  element_step n u (parts vs) (negsuc i) h = tt
  element_step n u (parts vs) (pos i) h = by_part (nth vs i) refl
    where
      by_part : (o : Option Value) → nth vs i ≡ o → Fine (PartOf (array n u) (parts vs) (to_element (pos i)) u) (part_of (parts vs) (to_element (pos i)))
      by_part None e = rw e tt
      by_part (Some x) e = (let r = element_holds u n vs i x (elements_of n u vs h) e in rw e (r.0, λ y k. of_elements n u (with_nth vs i y) (r.1 y k)))

  struct_step : (fs : Fields) (u : Type') (v : Value) (n : ℕ) → field_at fs n ≡ Some u → Of σ (struct fs) v → Fine (PartOf (struct fs) v (to_field n) u) (part_of v (to_field n))
  struct_step fs u (single c) n e h = cc
  struct_step fs u (parts vs) n e h = (let r = field_holds fs vs n u e h in rw (r.1) (r.2, r.3))

  pub one_step : (t : Type') (v : Value) (p : Step) (u : Type') → Of σ t v → StepTo t p u → Fine (PartOf t v p u) (part_of v p)
  one_step (basic b) v (to_field n) u h e = cc
  one_step (basic b) v (to_element z) u h e = cc
  one_step (array n t) v (to_field m) u h e = cc
  one_step (array n t) v (to_element z) u h e = subst (λ w. Fine (PartOf (array n t) v (to_element z) w) (part_of v (to_element z))) (same_type t u e) (element_step n t v z h)
  one_step (slice t) v (to_field m) u h e = cc
  one_step (slice t) v (to_element z) u h e = cc
  one_step (struct fs) v (to_field n) u h e = struct_step fs u v n e h
  one_step (struct fs) v (to_element z) u h e = cc
  one_step (named path name t) v p u h e = one_step t v p u h e

  -- ---- steps

  pub read_is : (t u : Type') (ss : List Step) (v : Value) → Reaches t ss u → Of σ t v → Fine (Of σ u) (read ss v)
  read_is t u [] v r h = suits σ t u v (sym r) h
  read_is t u (s ∷ ss) v r h = fine_then (PartOf t v s r.0) (Of σ u) (part_of v s) (read ss) (one_step t v s r.0 h r.1) (λ x k. read_is r.0 u ss x r.2 k.0)

  pub updated_is : (t u : Type') (ss : List Step) (v x : Value) → Reaches t ss u → Of σ t v → Of σ u x → Fine (Of σ t) (updated ss v x)
  updated_is t u [] v x r h k = suits σ u t x r k
  updated_is t u (s ∷ ss) v x r h k =
      fine_then (PartOf t v s r.0) (Of σ t) (part_of v s) (λ inner. if_gives (updated ss inner x) (λ y. operators.Gives (with_part v s y))) (one_step t v s r.0 h r.1)
      (λ inner p. fine_then (Of σ r.0) (Of σ t) (updated ss inner x) (λ y. operators.Gives (with_part v s y)) (updated_is r.0 u ss inner x r.2 p.0 k) (λ y q. p.1 y q))

  -- ---- the parts of a literal

  -- a part of that number that there is
  abbrev Numbered : Type' → ℕ → Type' → Value → Type 0
  Numbered t n u v = (x : Value) × (part_of v (to_field n) ≡ operators.Gives x) × ((y : Value) → Of σ u y → Of σ t (with_part v (to_field n) y))

  numbered : (t : Type') (n : ℕ) (u : Type') (v : Value) → part_type (underlying t) n ≡ Some u → Of σ t v → Numbered t n u v
  numbered (basic b) n u v e h = cc
  numbered (array count t) n u (single c) e h = cc
  numbered (array count t) n u (parts vs) e h = by_test (nat_lt n count) refl
    where
      by_test : (b : Bool) → nat_lt n count ≡ b → Numbered (array count t) n u (parts vs)
      by_test true l =
          let all = elements_of count t vs h in
          let less : n < length (unpack vs) = omega (arith, leb-true (suc n) count l, all.0) in
          let x = element_known vs n less in
          let same : t ≡ u = same_type t u (rw l at e) in
          let r = element_holds t count vs n x.0 all x.1 in
          (x.0, rw (x.1) refl, λ y k. of_elements count t (with_nth vs n y) (r.1 y (subst (λ w. Of σ w y) (sym same) k)))
      by_test false l = let bad : None ≡ Some u = rw l at e in cc
  numbered (slice t) n u v e h = cc
  numbered (struct fs) n u (single c) e h = cc
  numbered (struct fs) n u (parts vs) e h = (let r = field_holds fs vs n u e h in (r.0, rw (r.1) refl, r.3))
  numbered (named path name t) n u v e h = numbered t n u v e h

  pub part_put : (t : Type') (n : ℕ) (u : Type') (v x : Value) → part_type (underlying t) n ≡ Some u → Of σ t v → Of σ u x → Fine (Of σ t) (updated (to_field n ∷ []) v x)
  part_put t n u v x e h k = (let r = numbered t n u v e h in rw (r.1) (r.2 x k))
