-- Composite literals of sound elements are sound, and so are types of sound parts.
use Rattle.std.proofs.Common.{◌≡◌, ℕ, suc, ◌+◌, ◌<◌, pos, negsuc, Bool, true, false, ◌&&◌, List, [], ◌∷◌, ◌++◌, map, length, codes, Option, Some, None, refl, ap, sym, ◌∙◌, subst, arith, inl, inr}
use Rattle.std.specs.Prelude.{if◌then◌else◌, bytes_eq, nat_le, nat_lt, option_map}
use Rattle.std.specs.List.{filter_map, flat_map, slice_get, list_any}
use Rattle.std.proofs.lemmas.Bool.{cases_Bool, and_parts, ltb-false, lt-ltb}
use Rattle.go_text.specs.declared.fault.FaultKind.{FaultKind}
use Rattle.go_text.specs.declared.fault.FaultKind.TheVariants.{LeftOut, Index}
use Rattle.go_text.specs.Faults.{fault_number}
use Rattle.go_scan.specs.Words.{IsWord}
use Rattle.go_const.specs.declared.constant.Const.TheVariants.{Integer, Text, Bool as Truth}
use Rattle.go_types.specs.declared.types.Basic.TheVariants as basics
use Rattle.go_types.specs.Types.{Type', basic, array, slice, struct, Fields}
use Rattle.go_types.specs.Names.{is_exported}
use Rattle.go_types.specs.Relations.{underlying}
use Rattle.go_types.specs.Sizes.{cells, nodes}
use Rattle.go_ast.specs.Trees.{Name}
use Rattle.go_typed.specs.Trees as typed
use Rattle.go_typed.specs.Trees.{Expr, expr_type, pack_exprs, pack_parts}
use Rattle.go_meaning.specs.Meaning.{most_cells}
use Rattle.go_meaning_laws.specs.WellTyped.{Setting, part_type, IsExpr, AreElements, AreParts}
use Rattle.go_expr.specs.Known.{type', Known, declared, Verdict, Fine, Breaks, Passed}
use Rattle.go_expr.specs.Rules.{fine, constant_in, lesser_fault, least, when, wrong, fine_list, numbered, checked, type_due, is_small, array_verdict, slice_verdict, slice_element, FieldList, declared_field, field_names, pack_field_list, are_distinct, listed, struct_of, assigned, ElementList, field_named, any_keyed, field_slot, keyed_slot, element_part, parts_by, array_parts, slice_parts, is_counted, struct_faults, struct_slot, struct_parts, parts_of, literal_of, Due, taken, written, nothing, element_due, due_type, unwritten, untyped_literal}
use Rattle.go_package_laws.proofs.Soundness.{Table, IsNamedField, IsSoundType, AreSoundFields, IsSoundValue}
use Rattle.go_package_laws.proofs.SoundNames.{IsSoundKnown}
use Rattle.go_package_laws.proofs.Texts.{AreWords}
use Rattle.go_package_laws.proofs.Types.{whole_type, sound_underlying}
use Rattle.go_package_laws.proofs.Assigned.{Gives, some_same, none_some, some_none, constant_value, GoodAs, assigned_gives}
use Rattle.go_package_laws.proofs.Selections.{named_field, ordered_field, sound_field}
use Rattle.go_package_laws.proofs.Binary.{checked_gives}

-- ---- lists

abbrev pub Every : {A : Type 0} → (A → Type 0) → List A → Type 0
Every P [] = Unit {0}
Every P (x ∷ xs) = P x × Every P xs

pub every_append : {A : Type 0} (P : A → Type 0) (xs ys : List A) → Every P xs → Every P ys → Every P (xs ++ ys)
every_append P [] ys h k = k
every_append P (x ∷ xs) ys h k = (h.0, every_append P xs ys h.1 k)

lesser_some : (k : FaultKind) (o : Option FaultKind) → lesser_fault (Some k) o ≡ None → ⊥
lesser_some k None h = some_none k h
lesser_some k (Some l) h = elim (cases_Bool (nat_le (fault_number k) (fault_number l))) [
  | inl is ↦ some_none k (sym (ap (λ b. if b then Some k else Some l) is) ∙ h)
  | inr not_so ↦ some_none l (sym (ap (λ b. if b then Some k else Some l) not_so) ∙ h)
]

pub least_none : (ks : List FaultKind) → least ks ≡ None → ks ≡ []
least_none [] h = refl
least_none (k ∷ ks) h = absurd (lesser_some k (least ks) h)

pub both_empty : {A : Type 0} (xs ys : List A) → xs ++ ys ≡ [] → (xs ≡ []) × (ys ≡ [])
both_empty [] ys h = (refl, h)
both_empty (x ∷ xs) ys h = cc

pub fine_ones : {A : Type 0} (P : A → Type 0) (vs : List (Verdict A)) → Every (Gives P) vs → Every P (filter_map fine vs)
fine_ones P [] h = tt
fine_ones P (Fine x ∷ vs) h = (h.0, fine_ones P vs h.1)
fine_ones P (Breaks kind ∷ vs) h = fine_ones P vs h.1
fine_ones P (Passed ∷ vs) h = fine_ones P vs h.1

-- each of some, where no fault was told
pub each_gives : {A : Type 0} (P : List A → Type 0) (ks : List FaultKind) (vs : List (Verdict A)) → ((ks ≡ []) → (flat_map wrong vs ≡ []) → P (filter_map fine vs)) → Gives P (fine_list ks vs)
each_gives {A} P ks vs each = elim (least (ks ++ flat_map wrong vs)) as (λ o. least (ks ++ flat_map wrong vs) ≡ o → Gives P (fine_list ks vs)) [
  | Some k ↦ λ at. rw (at, Gives) tt
  | None ↦ λ at. (let none = both_empty ks (flat_map wrong vs) (least_none (ks ++ flat_map wrong vs) at) in rw (at, Gives) (each none.0 none.1))
] refl

pub when_none : (b : Bool) (k : FaultKind) → when b k ≡ [] → b ≡ false
when_none true k h = cc
when_none false k h = refl

-- slices have elements
pub slice_is : (u of : Type') → (elim u [ slice of ↦ Some of | _ ↦ None ]) ≡ Some of → u ≡ slice of
slice_is (slice v) of h = ap slice (some_same v of h)
slice_is u of h = absurd (none_some of h)

module _ (w : Table) (g : Setting) (d : List ℕ) where
  -- ---- elements as parts: https://go.dev/ref/spec#Composite_literals

  abbrev Slot : Type 0
  Slot = ℕ → Option (List ℕ) → Option (ℕ × Type')

  -- a part of a value of the type
  abbrev IsPartOf : Type' → ℕ × Expr → Type 0
  IsPartOf t p = IsExpr g d p.1 × (part_type (underlying t) p.0 ≡ Some (expr_type p.1))

  -- what the slot of that number is for is a part of the type
  abbrev Fits : Type' → Slot → ℕ → Type 0
  Fits t slot i = (key : Option (List ℕ)) (p : ℕ × Type') → slot i key ≡ Some p → (part_type (underlying t) p.0 ≡ Some p.1) × IsSoundType w p.1

  abbrev pub IsSoundElement : Option (List ℕ) × Expr → Type 0
  IsSoundElement e = IsSoundValue w g d e.1

  element_gives : (t : Type') (slot : Slot) (i : ℕ) (e : Option (List ℕ) × Expr) → Fits t slot i → IsSoundElement e → Gives (IsPartOf t) (element_part slot i e)
  element_gives t slot i e h k = elim (slot i e.0) as (λ o. slot i e.0 ≡ o → Gives (IsPartOf t) (element_part slot i e)) [
    | None ↦ λ at. rw (at, Gives) tt
    | Some p ↦ λ at. (
        let of = h e.0 p at in
        rw (at, Gives) (checked_gives (GoodAs w g d p.1) (IsPartOf t) _ (assigned p.1 e.1) (assigned_gives w g d p.1 e.1 of.1 k) (λ x good. (good.0, of.0 ∙ ap Some (sym good.1))))
        )
  ] refl

  elements_give : (t : Type') (slot : Slot) (m : ℕ) (es : ElementList) → ((i : ℕ) → i < m + length es → Fits t slot i) → Every IsSoundElement es
      → Every (Gives (IsPartOf t)) (map (λ k. element_part slot k.0 k.1) (numbered m es))
  elements_give t slot m [] h k = tt
  elements_give t slot m (e ∷ es) h k = (element_gives t slot m e (h m (omega arith)) k.0, elements_give t slot (suc m) es (λ i less. h i (omega (arith, less))) k.1)

  -- ---- arrays

  array_fits : (t : Type') (n : ℕ) (of : Type') (i : ℕ) → underlying t ≡ array n of → IsSoundType w of → i < n → Fits t (λ i key. Some (i, of)) i
  array_fits t n of i at h less key p is =
      let same : (i, of) ≡ p = some_same (i, of) p is in
      let within : nat_lt i n ≡ true = lt-ltb i n less in
      let part : part_type (underlying t) i ≡ Some of = ap (λ u. part_type u i) at ∙ ap (λ b. if b then Some of else None) within in
      subst (λ (q : ℕ × Type'). (part_type (underlying t) q.0 ≡ Some q.1) × IsSoundType w q.1) same (part, h)

  array_gives : (t : Type') (n : ℕ) (of : Type') (es : ElementList) → underlying t ≡ array n of → IsSoundType w of → Every IsSoundElement es → Gives (Every (IsPartOf t)) (array_parts n of es)
  array_gives t n of es at h k =
      let slot : Slot = λ i key. Some (i, of) in
      each_gives (Every (IsPartOf t)) (when (any_keyed es) LeftOut ++ when (nat_lt n (length es)) Index) (parts_by slot es) (λ none sure.
      let few = ltb-false n (length es) (when_none (nat_lt n (length es)) Index (both_empty (when (any_keyed es) LeftOut) (when (nat_lt n (length es)) Index) none).1) in
      fine_ones (IsPartOf t) (parts_by slot es) (elements_give t slot 0 es (λ i less. array_fits t n of i at h (omega (arith, few, less))) k))

  -- ---- structs

  named_slot : (t : Type') (fs : Fields) (i : ℕ) (x : List ℕ) (p : ℕ × Type') → underlying t ≡ struct fs → AreSoundFields w fs → field_slot (listed fs) i (Some x) ≡ Some p
      → (part_type (underlying t) p.0 ≡ Some p.1) × IsSoundType w p.1
  named_slot t fs i x p at h is = elim (field_named x (listed fs)) as (λ o. field_named x (listed fs) ≡ o → option_map (λ f. (f.0, ((f.1).1).1)) o ≡ Some p → (part_type (underlying t) p.0 ≡ Some p.1) × IsSoundType w p.1) [
    | None ↦ λ found none. absurd (none_some p none)
    | Some f ↦ λ found some. (
        let part = named_field fs x f found in
        let here : part_type (underlying t) f.0 ≡ Some ((f.1).1).1 = ap (λ u. part_type u f.0) at ∙ part in
        subst (λ (q : ℕ × Type'). (part_type (underlying t) q.0 ≡ Some q.1) × IsSoundType w q.1) (some_same (f.0, ((f.1).1).1) p some) (here, sound_field w fs f.0 ((f.1).1).1 h part)
        )
  ] refl is

  next_slot : (t : Type') (fs : Fields) (i : ℕ) (p : ℕ × Type') → underlying t ≡ struct fs → AreSoundFields w fs → field_slot (listed fs) i None ≡ Some p
      → (part_type (underlying t) p.0 ≡ Some p.1) × IsSoundType w p.1
  next_slot t fs i p at h is = elim (slice_get (listed fs) i) as (λ o. slice_get (listed fs) i ≡ o → option_map (λ f. (i, (f.1).1)) o ≡ Some p → (part_type (underlying t) p.0 ≡ Some p.1) × IsSoundType w p.1) [
    | None ↦ λ found none. absurd (none_some p none)
    | Some f ↦ λ found some. (
        let part = ordered_field fs i f found in
        let here : part_type (underlying t) i ≡ Some (f.1).1 = ap (λ u. part_type u i) at ∙ part in
        subst (λ (q : ℕ × Type'). (part_type (underlying t) q.0 ≡ Some q.1) × IsSoundType w q.1) (some_same (i, (f.1).1) p some) (here, sound_field w fs i (f.1).1 h part)
        )
  ] refl is

  struct_fits : (t : Type') (fs : Fields) (i : ℕ) → underlying t ≡ struct fs → AreSoundFields w fs → Fits t (field_slot (listed fs)) i
  struct_fits t fs i at h (Some x) p is = named_slot t fs i x p at h is
  struct_fits t fs i at h None p is = next_slot t fs i p at h is

  counted_fits : (t : Type') (fs : Fields) (i : ℕ) (b : Bool) → underlying t ≡ struct fs → AreSoundFields w fs → Fits t (if b then field_slot (listed fs) else keyed_slot (listed fs)) i
  counted_fits t fs i true at h key p is = struct_fits t fs i at h key p is
  counted_fits t fs i false at h (Some x) p is = named_slot t fs i x p at h is
  counted_fits t fs i false at h None p is = absurd (none_some p is)

  struct_gives : (path : List ℕ) (t : Type') (fs : Fields) (es : ElementList) → underlying t ≡ struct fs → AreSoundFields w fs → Every IsSoundElement es
      → Gives (Every (IsPartOf t)) (struct_parts path (listed fs) es)
  struct_gives path t fs es at h k =
      let slot : Slot = struct_slot (listed fs) es in
      each_gives (Every (IsPartOf t)) (struct_faults path (listed fs) es) (parts_by slot es) (λ none sure.
      fine_ones (IsPartOf t) (parts_by slot es) (elements_give t slot 0 es (λ i less. counted_fits t fs i (is_counted (listed fs) es) at h) k))

  -- ---- literals

  parts_give : (path : List ℕ) (t : Type') (es : ElementList) → IsSoundType w t → Every IsSoundElement es → Gives (Every (IsPartOf t)) (parts_of path t es)
  parts_give path t es h k = elim (underlying t) as (λ u. underlying t ≡ u → IsSoundType w u → Gives (Every (IsPartOf t)) (parts_of path t es)) [
    | array n of ↦ λ at whole. rw (at, Gives) (array_gives t n of es at whole.2 k)
    | struct fs ↦ λ at whole. rw (at, Gives) (struct_gives path t fs es at whole.1 k)
    | _ ↦ λ at whole. rw (at, Gives) tt
  ] refl (sound_underlying w t h)

  packed_parts : (t : Type') (ps : List (ℕ × Expr)) → Every (IsPartOf t) ps → AreParts g d t (pack_parts ps)
  packed_parts t [] h = tt
  packed_parts t (p ∷ ps) h = ((h.0).0, (h.0).1, packed_parts t ps h.1)

  -- ---- slices

  pub packed_elements : (u : Type') (xs : List Expr) → Every (GoodAs w g d u) xs → AreElements g d u (pack_exprs xs)
  packed_elements u [] h = tt
  packed_elements u (x ∷ xs) h = ((h.0).0, ap underlying (h.0).1, packed_elements u xs h.1)

  elements_assigned : (of : Type') (es : ElementList) → IsSoundType w of → Every IsSoundElement es → Every (Gives (GoodAs w g d of)) (map (λ e. assigned of e.1) es)
  elements_assigned of [] h k = tt
  elements_assigned of (e ∷ es) h k = (assigned_gives w g d of e.1 h k.0, elements_assigned of es h k.1)

  elements_literal : (t of : Type') (es : ElementList) → slice_element t ≡ Some of → IsSoundType w t → Every IsSoundElement es
      → Gives (IsSoundValue w g d) (checked (λ xs. Fine (typed.append t typed.absent (pack_exprs xs))) (slice_parts of es))
  elements_literal t of es at h k =
      let under = slice_is (underlying t) of at in
      let sound : IsSoundType w of = subst (IsSoundType w) under (sound_underlying w t h) in
      let vs = map (λ (e : Option (List ℕ) × Expr). assigned of e.1) es in
      checked_gives (Every (GoodAs w g d of)) (IsSoundValue w g d) _ (slice_parts of es)
      (each_gives (Every (GoodAs w g d of)) (when (any_keyed es) LeftOut) vs (λ none sure. fine_ones (GoodAs w g d of) vs (elements_assigned of es sound k)))
      (λ xs good. inr (inl ((whole_type w t h, tt, (of, under, packed_elements of xs good)), h, tt)))

  pub literal_gives : (path : List ℕ) (t : Type') (es : ElementList) → IsSoundType w t → Every IsSoundElement es → Gives (IsSoundValue w g d) (literal_of path t es)
  literal_gives path t es h k = elim (slice_element t) as (λ o. slice_element t ≡ o → Gives (IsSoundValue w g d) (literal_of path t es)) [
    | Some of ↦ λ at. rw (at, Gives) (elements_literal t of es at h k)
    | None ↦ λ at. rw (at, Gives) (
        checked_gives (Every (IsPartOf t)) (IsSoundValue w g d) _ (parts_of path t es) (parts_give path t es h k) (λ ps good. inr (inl ((whole_type w t h, packed_parts t ps good), h, tt)))
        )
  ] refl

-- what is known, if anything is
abbrev pub Has : {A : Type 0} → (A → Type 0) → Option A → Type 0
Has P None = Unit {0}
Has P (Some x) = P x

-- ---- elements that leave out their type

module _ (w : Table) (g : Setting) (d : List ℕ) where
  abbrev pub IsSoundDue : Due → Type 0
  IsSoundDue (taken t) = IsSoundType w t
  IsSoundDue (written o) = Has (IsSoundType w) o
  IsSoundDue nothing = Unit {0}

  slot_has : (t : Type') (fs : Fields) (n : ℕ) (key : Option (List ℕ)) → underlying t ≡ struct fs → AreSoundFields w fs → Has (IsSoundType w) (option_map (λ p. p.1) (field_slot (listed fs) n key))
  slot_has t fs n key at h = elim (field_slot (listed fs) n key) as (λ o. field_slot (listed fs) n key ≡ o → Has (IsSoundType w) (option_map (λ p. p.1) o)) [
    | None ↦ λ is. tt
    | Some p ↦ λ is. (struct_fits w g d t fs n at h key p is).1
  ] refl

  pub element_due_sound : (o : Option Type') (n : ℕ) (key : Option (List ℕ)) → Has (IsSoundType w) o → IsSoundDue (element_due o n key)
  element_due_sound None n key h = tt
  element_due_sound (Some t) n key h = elim (underlying t) as (λ u. underlying t ≡ u → IsSoundType w u → IsSoundDue (element_due (Some t) n key)) [
    | array m of ↦ λ at whole. rw (at, IsSoundDue) whole.2
    | slice of ↦ λ at whole. rw (at, IsSoundDue) whole
    | struct fs ↦ λ at whole. rw (at, IsSoundDue) (slot_has t fs n key at whole.1)
    | _ ↦ λ at whole. rw (at, IsSoundDue) tt
  ] refl (sound_underlying w t h)

  pub due_type_has : (due : Due) → IsSoundDue due → Has (IsSoundType w) (due_type due)
  due_type_has (taken t) h = h
  due_type_has (written o) h = h
  due_type_has nothing h = tt

  never_written : (o : Option FaultKind) → Gives (IsSoundValue w g d) (elim o [ None ↦ Passed | Some kind ↦ Breaks kind ])
  never_written None = tt
  never_written (Some kind) = tt

  pub untyped_gives : (path : List ℕ) (due : Due) (es : ElementList) → IsSoundDue due → Every (IsSoundElement w g d) es → Gives (IsSoundValue w g d) (untyped_literal path due es)
  untyped_gives path (taken t) es h k = literal_gives w g d path t es h k
  untyped_gives path (written o) es h k = never_written (unwritten path o es)
  untyped_gives path nothing es h k = constant_value w g d (basic basics.Bool) (Truth true) (inl refl) (basics.Bool, refl, refl)

-- ---- types

most : (n : ℕ) → nat_le n 65536 ≡ true → nat_le n most_cells ≡ true
unfolding most_cells
most n h = h

module _ (w : Table) (g : Setting) (d : List ℕ) where
  pub type_due_gives : (k : Known) → IsSoundKnown w g d k → Gives (IsSoundType w) (type_due k)
  type_due_gives (declared (type' t)) h = h
  type_due_gives (declared k) h = tt
  type_due_gives k h = tt

  array_if : (size : Expr) (of : Type') (n : ℕ) → constant_in size ≡ Some (Integer (pos n)) → IsSoundType w of → (b : Bool) → (nat_le n 65536 && is_small (array n of)) ≡ b → Gives (IsSoundType w) (array_verdict size of)
  array_if size of n at h false is = rw (at, Gives, is) tt
  array_if size of n at h true is = (
      let both = and_parts (nat_le n 65536) (is_small (array n of)) is in
      let small = and_parts (nat_le (nodes (array n of)) 65536) (nat_le (cells (array n of)) 65536) both.1 in
      rw (at, Gives, is) (both.0, most (cells (array n of)) small.1, h)
      )

  pub array_of_gives : (size : Expr) (of : Type') → IsSoundType w of → Gives (IsSoundType w) (array_verdict size of)
  array_of_gives size of h = elim (constant_in size) as (λ o. constant_in size ≡ o → Gives (IsSoundType w) (array_verdict size of)) [
    | Some (Integer (pos n)) ↦ λ at. array_if size of n at h (nat_le n 65536 && is_small (array n of)) refl
    | Some (Integer (negsuc n)) ↦ λ at. rw (at, Gives) tt
    | Some (Text bytes) ↦ λ at. rw (at, Gives) tt
    | Some (Truth b) ↦ λ at. rw (at, Gives) tt
    | None ↦ λ at. rw (at, Gives) tt
  ] refl

  slice_if : (of : Type') → IsSoundType w of → (b : Bool) → is_small (slice of) ≡ b → Gives (IsSoundType w) (slice_verdict of)
  slice_if of h false is = rw is tt
  slice_if of h true is = rw is h

  pub slice_of_gives : (of : Type') → IsSoundType w of → Gives (IsSoundType w) (slice_verdict of)
  slice_of_gives of h = slice_if of h (is_small (slice of)) refl

  -- fields as a list
  abbrev pub IsSoundField : Option (List ℕ) × (List ℕ × Type') → Type 0
  IsSoundField f = IsSoundType w (f.1).1 × IsNamedField w f.0 (f.1).0

  packed_fields : (fs : FieldList) → Every IsSoundField fs → AreSoundFields w (pack_field_list fs)
  packed_fields [] h = tt
  packed_fields (f ∷ fs) h = ((h.0).0, packed_fields fs h.1, (h.0).1)

  struct_if : (fs : FieldList) → Every IsSoundField fs → (a b c : Bool) → list_any (bytes_eq (codes "_")) (field_names fs) ≡ a → is_small (struct (pack_field_list fs)) ≡ b → are_distinct (field_names fs) ≡ c
      → Gives (IsSoundType w) (struct_of fs)
  struct_if fs h true b c blank small differs = rw blank tt
  struct_if fs h false false c blank small differs = rw (blank, small) tt
  struct_if fs h false true false blank small differs = rw (blank, small, differs) tt
  struct_if fs h false true true blank small differs = (
      let both = and_parts (nat_le (nodes (struct (pack_field_list fs))) 65536) (nat_le (cells (struct (pack_field_list fs))) 65536) small in
      rw (blank, small, differs) (most (cells (struct (pack_field_list fs))) both.1, packed_fields fs h)
      )

  pub struct_of_gives : (fs : FieldList) → Every IsSoundField fs → Gives (IsSoundType w) (struct_of fs)
  struct_of_gives fs h = struct_if fs h (list_any (bytes_eq (codes "_")) (field_names fs)) (is_small (struct (pack_field_list fs))) (are_distinct (field_names fs)) refl refl refl

  owner_named : (path : List ℕ) (b : Bool) (x : List ℕ) → w.plain path ≡ true → IsWord x → IsNamedField w (if b then None else Some path) x
  owner_named path true x plain word = word
  owner_named path false x plain word = (plain, word)

  pub declared_fields : (path : List ℕ) (t : Type') (names : List Name) → w.plain path ≡ true → AreWords names → IsSoundType w t → Every IsSoundField (map (declared_field path t) names)
  declared_fields path t [] plain words h = tt
  declared_fields path t (n ∷ names) plain words h = ((h, owner_named path (is_exported n.text) n.text plain words.0), declared_fields path t names plain words.1 h)
