-- Selectors, index expressions and lengths of sound values are sound.
use Rattle.std.proofs.Common.{◌≡◌, ℕ, zero, suc, ◌+◌, pos, Bool, true, false, ◌||◌, cond, List, [], length, Option, Some, None, refl, ap, sym, ◌∙◌, subst, arith, true≢false, inl, inr}
use Rattle.std.specs.Prelude.{if◌then◌else◌, bytes_eq, nat_le, nat_lt}
use Rattle.std.specs.List.{find, slice_get, list_all}
use Rattle.std.proofs.lemmas.Bool.{and_parts, and_from, or_left, leb-true, lt-ltb}
use Rattle.go_text.specs.declared.fault.FaultKind.TheVariants.{Index, Mismatch, Unexported}
use Rattle.go_const.specs.declared.constant.Const.{Const}
use Rattle.go_const.specs.declared.constant.Const.TheVariants.{Integer, Text, Bool as Truth}
use Rattle.go_const.specs.declared.kind.IntKind.{IntKind}
use Rattle.go_const.specs.declared.kind.IntKind.TheVariants as integers
use Rattle.go_const.specs.Constants.{fits}
use Rattle.go_types.specs.declared.types.Basic.TheVariants as basics
use Rattle.go_types.specs.declared.types.Untyped.{Untyped}
use Rattle.go_types.specs.declared.types.Untyped.TheVariants as kinds
use Rattle.go_types.specs.Types.{Type', basic, array, slice, struct, Fields, no_fields, field}
use Rattle.go_types.specs.Relations.{underlying, assignable, is_literal}
use Rattle.go_typed.specs.Trees as typed
use Rattle.go_typed.specs.Trees.{Expr, constant, expr_type}
use Rattle.go_meaning.specs.Choices.{field_at, field_type}
use Rattle.go_meaning_laws.specs.WellTyped.{Setting, int_type, byte, is_text, is_integer_type, is_string_type, is_slice, index_result_type}
use Rattle.go_expr.specs.Known.{Fine, Breaks}
use Rattle.go_expr.specs.Rules as rules
use Rattle.go_expr.specs.Rules.{constant_in, int_kind, in_kind, lies_in, default_type, settled, defaulted, numbered, listed, field_named, fields_of, is_visible, field_verdict, known_length, is_within, index_verdict, holds_call, length_verdict, length_of, capacity_of}
use Rattle.go_package_laws.proofs.Soundness.{Table, IsSoundType, AreSoundFields, is_of_kind, IsTypedValue, IsSoundValue}
use Rattle.go_package_laws.proofs.Types.{sound_underlying, assignable_itself}
use Rattle.go_package_laws.proofs.Constants.{text_is}
use Rattle.go_package_laws.proofs.Assigned.{Gives, IsOperandType, some_same, none_some, constant_value, value_type, default_sound, sound_default, GoodAs, good_as, defaulted_gives}
use Rattle.go_package_laws.proofs.Defaults.{sound_integer, sound_string, default_integer}
use Rattle.go_package_laws.proofs.Operators.{constant_of}
use Rattle.go_package_laws.proofs.Binary.{checked_gives}

-- ---- fields by their names

abbrev Numbered : Type 0
Numbered = ℕ × (Option (List ℕ) × (List ℕ × Type'))

-- where a field is found
abbrev IsFound : Fields → ℕ → Numbered → Type 0
IsFound fs m f = (k : ℕ) × (f.0 ≡ m + k) × (field_at fs k ≡ Some ((f.1).1).1)

found_by : (p : Option (List ℕ)) (x : List ℕ) (t : Type') (fs : Fields) (m : ℕ) (test : Numbered → Bool) (f : Numbered) (b : Bool)
    → (find test (numbered (suc m) (listed fs)) ≡ Some f → IsFound fs (suc m) f)
    → cond b (Some (m, (p, (x, t)))) (find test (numbered (suc m) (listed fs))) ≡ Some f → IsFound (field p x t fs) m f
found_by p x t fs m test f true next h =
    let same : (m, (p, (x, t))) ≡ f = some_same (m, (p, (x, t))) f h in
    (zero, subst (λ (r : Numbered). r.0 ≡ m + 0) same (omega arith), subst (λ (r : Numbered). Some t ≡ Some ((r.1).1).1) same refl)
found_by p x t fs m test f false next h =
    let rest = next h in
    (suc rest.0, omega (arith, rest.1), rest.2)

found_field : (fs : Fields) (m : ℕ) (test : Numbered → Bool) (f : Numbered) → find test (numbered m (listed fs)) ≡ Some f → IsFound fs m f
found_field no_fields m test f h = absurd (none_some f h)
found_field (field p x t fs) m test f h = found_by p x t fs m test f (test (m, (p, (x, t)))) (found_field fs (suc m) test f) h

pub named_field : (fs : Fields) (x : List ℕ) (f : Numbered) → field_named x (listed fs) ≡ Some f → field_at fs f.0 ≡ Some ((f.1).1).1
named_field fs x f h =
    let found = found_field fs 0 (λ f. bytes_eq x ((f.1).1).0) f h in
    let same : found.0 ≡ f.0 = omega (arith, found.1) in
    subst (λ n. field_at fs n ≡ Some ((f.1).1).1) same found.2

pub ordered_field : (fs : Fields) (n : ℕ) (f : Option (List ℕ) × (List ℕ × Type')) → slice_get (listed fs) n ≡ Some f → field_at fs n ≡ Some (f.1).1
ordered_field no_fields n f h = absurd (none_some f h)
ordered_field (field p x t fs) zero f h = subst (λ (r : Option (List ℕ) × (List ℕ × Type')). Some t ≡ Some (r.1).1) (some_same (p, (x, t)) f h) refl
ordered_field (field p x t fs) (suc n) f h = ordered_field fs n f h

pub sound_field : (w : Table) (fs : Fields) (n : ℕ) (t : Type') → AreSoundFields w fs → field_at fs n ≡ Some t → IsSoundType w t
sound_field w no_fields n t h at = absurd (none_some t at)
sound_field w (field p x u fs) zero t h at = subst (IsSoundType w) (some_same u t at) h.0
sound_field w (field p x u fs) (suc n) t h at = sound_field w fs n t h.1 at

struct_of_fields : (u : Type') (x : List ℕ) (f : Numbered) → field_named x (elim u [ struct fs ↦ listed fs | _ ↦ [] ]) ≡ Some f → (fs : Fields) × (u ≡ struct fs) × (field_named x (listed fs) ≡ Some f)
struct_of_fields (struct fs) x f h = (fs, refl, h)
struct_of_fields u x f h = absurd (none_some f h)

-- ---- numbers that an int counts

pub counts : (n : ℕ) → nat_le n 65536 ≡ true → fits (Some integers.Int) (pos n) ≡ true
counts n h = (let small = leb-true n 65536 h in lt-ltb n 9223372036854775808 (omega (arith, small)))

module _ (w : Table) (g : Setting) (d : List ℕ) where
  -- an array or a struct is never constant
  pub literal_value : (e : Expr) (u : Type') → IsSoundValue w g d e → underlying (expr_type e) ≡ u → is_literal u ≡ true → IsTypedValue w g d e
  literal_value e u (inl h) at lit = absurd (true≢false (sym lit ∙ ap is_literal (sym at ∙ ap underlying (ap expr_type h.2))))
  literal_value e u (inr (inl h)) at lit = h
  literal_value e u (inr (inr h)) at lit = absurd (true≢false (sym lit ∙ ap is_literal (sym at ∙ ap underlying h.1)))

  -- ---- selectors: https://go.dev/ref/spec#Selectors

  field_made : (e : Expr) (x : List ℕ) (f : Numbered) → IsSoundValue w g d e → field_named x (fields_of (expr_type e)) ≡ Some f → IsSoundValue w g d (typed.field ((f.1).1).1 e f.0)
  field_made e x f h at =
      let of = struct_of_fields (underlying (expr_type e)) x f at in
      let value = literal_value e (struct of.0) h of.1 refl in
      let found = named_field of.0 x f of.2 in
      let whole : IsSoundType w (struct of.0) = subst (IsSoundType w) of.1 (sound_underlying w (expr_type e) value.1) in
      inr (inl ((value.0, ap (λ u. field_type u f.0) of.1 ∙ found), sound_field w of.0 f.0 ((f.1).1).1 whole.1 found, value.2))

  field_if : (path x : List ℕ) (e : Expr) (f : Numbered) → IsSoundValue w g d e → field_named x (fields_of (expr_type e)) ≡ Some f → (b : Bool) → is_visible path (f.1).0 ≡ b
      → Gives (IsSoundValue w g d) (if b then Fine (typed.field ((f.1).1).1 e f.0) else Breaks Unexported)
  field_if path x e f h at true is = field_made e x f h at
  field_if path x e f h at false is = tt

  pub field_gives : (path x : List ℕ) (e : Expr) → IsSoundValue w g d e → Gives (IsSoundValue w g d) (field_verdict path x e)
  field_gives path x e h = elim (field_named x (fields_of (expr_type e))) as (λ o. field_named x (fields_of (expr_type e)) ≡ o → Gives (IsSoundValue w g d) (field_verdict path x e)) [
    | None ↦ λ at. rw (at, Gives) tt
    | Some f ↦ λ at. rw (at, Gives) (field_if path x e f h at (is_visible path (f.1).0) refl)
  ] refl

  -- ---- index expressions: https://go.dev/ref/spec#Index_expressions

  -- the type takes no number, so that every constant lies in it
  free : (t : Type') (e : Expr) → int_kind t ≡ None → lies_in t e ≡ true
  free t e h = elim (constant_in e) as (λ o. (elim o [ None ↦ true | Some c ↦ in_kind (int_kind t) c ]) ≡ true) [
    | None ↦ refl
    | Some c ↦ subst (λ k. in_kind k c ≡ true) (sym h) refl
  ]

  untyped_assignable : (k : Untyped) → assignable (basic (basics.Untyped k)) (default_type (basic (basics.Untyped k))) ≡ true
  untyped_assignable kinds.Bool = refl
  untyped_assignable kinds.Int = refl
  untyped_assignable kinds.Rune = refl
  untyped_assignable kinds.String = refl

  default_assignable : (t : Type') → IsOperandType w t → assignable t (default_type t) ≡ true
  default_assignable t (inl h) = subst (λ u. assignable t u ≡ true) (sym (sound_default w g d t h)) (assignable_itself t)
  default_assignable t (inr h) = subst (λ u. assignable u (default_type u) ≡ true) (sym h.1) (untyped_assignable h.0)

  pub settled_good : (e : Expr) → IsSoundValue w g d e → int_kind (default_type (expr_type e)) ≡ None → GoodAs w g d (default_type (expr_type e)) (settled e)
  settled_good e h none =
      let of = value_type w g d e h in
      good_as w g d (default_type (expr_type e)) e (default_sound w g d (expr_type e) of) h (default_assignable (expr_type e) of) (free (default_type (expr_type e)) e none)

  abbrev kind_below : Type' → Option IntKind
  kind_below u = elim u [ basic (basics.Integer kind) ↦ Some kind | _ ↦ None ]

  abbrev string_below : Type' → Bool
  string_below u = elim u [ basic basics.String ↦ true | basic (basics.Untyped kinds.String) ↦ true | _ ↦ false ]

  abbrev indexed_below : Type' → Bool → Option Type'
  indexed_below u text = elim u [ array n of ↦ Some of | slice of ↦ Some of | _ ↦ if text then Some byte else None ]

  -- a type that is indexed, below another, and that of its parts
  abbrev IsIndexed : Type' → Type' → Type 0
  IsIndexed u t = (kind_below u ≡ None) × (index_result_type u ≡ Some t) × IsSoundType w t

  indexed_sound : (u t : Type') (text : Bool) → string_below u ≡ text → IsSoundType w u → indexed_below u text ≡ Some t → IsIndexed u t
  indexed_sound (array n of) t text is h at = (refl, at, subst (IsSoundType w) (some_same of t at) h.2)
  indexed_sound (slice of) t text is h at = (refl, at, subst (IsSoundType w) (some_same of t at) h)
  indexed_sound (basic basics.String) t true is h at = (refl, at, subst (IsSoundType w) (some_same byte t at) refl)
  indexed_sound (basic (basics.Untyped k)) t text is h at = absurd (true≢false (sym h))
  indexed_sound u t true is h at = absurd (true≢false (sym is))
  indexed_sound u t false is h at = absurd (none_some t at)

  indexed_untyped : (k : Untyped) (t : Type') → rules.indexed_type (basic (basics.Untyped k)) ≡ Some t → IsIndexed (underlying (default_type (basic (basics.Untyped k)))) t
  indexed_untyped kinds.String t at = (refl, at, subst (IsSoundType w) (some_same byte t at) refl)
  indexed_untyped k t at = absurd (none_some t at)

  indexed : (v t : Type') → IsOperandType w v → rules.indexed_type v ≡ Some t → IsIndexed (underlying (default_type v)) t
  indexed v t (inl h) at = subst (λ u. IsIndexed (underlying u) t) (sym (sound_default w g d v h)) (indexed_sound (underlying v) t (rules.is_string v) refl (sound_underlying w v h) at)
  indexed v t (inr h) at = subst (λ u. IsIndexed (underlying (default_type u)) t) (sym h.1) (indexed_untyped h.0 t (subst (λ u. rules.indexed_type u ≡ Some t) h.1 at))

  pub default_is_integer : (t : Type') → IsOperandType w t → rules.is_integer t ≡ true → is_integer_type (underlying (default_type t)) ≡ true
  default_is_integer t (inl h) e = subst (λ u. is_integer_type (underlying u) ≡ true) (sym (sound_default w g d t h)) (sound_integer w t h e)
  default_is_integer t (inr h) e =
      subst (λ u. is_integer_type (underlying (default_type u)) ≡ true) (sym h.1)
      (sound_integer w (default_type (basic (basics.Untyped h.0))) (subst (λ u. IsSoundType w (default_type u)) h.1 (default_sound w g d t (inr h))) (default_integer h.0 (subst (λ u. rules.is_integer u ≡ true) h.1 e)))

  index_made : (t : Type') (e i j : Expr) → IsSoundValue w g d e → IsSoundValue w g d i → rules.indexed_type (expr_type e) ≡ Some t → rules.is_integer (expr_type i) ≡ true
      → GoodAs w g d (default_type (expr_type i)) j → IsSoundValue w g d (typed.index t (settled e) j)
  index_made t e i j h k at is good =
      let of = indexed (expr_type e) t (value_type w g d e h) at in
      let whole = settled_good e h of.0 in
      let number = subst (λ u. is_integer_type (underlying u) ≡ true) (sym good.1) (default_is_integer (expr_type i) (value_type w g d i k) is) in
      let sound = default_sound w g d (expr_type e) (value_type w g d e h) in
      inr (inl ((whole.0, good.0, number, ap (λ u. index_result_type (underlying u)) whole.1 ∙ of.1), of.2, (subst (IsSoundType w) (sym whole.1) sound, whole.2)))

  index_within : (t : Type') (e i j : Expr) → IsSoundValue w g d e → IsSoundValue w g d i → rules.indexed_type (expr_type e) ≡ Some t → rules.is_integer (expr_type i) ≡ true
      → GoodAs w g d (default_type (expr_type i)) j → (b : Bool) → Gives (IsSoundValue w g d) (if b then Fine (typed.index t (settled e) j) else Breaks Index)
  index_within t e i j h k at is good true = index_made t e i j h k at is good
  index_within t e i j h k at is good false = tt

  index_if : (t : Type') (e i : Expr) → IsSoundValue w g d e → IsSoundValue w g d i → rules.indexed_type (expr_type e) ≡ Some t → (b : Bool) → rules.is_integer (expr_type i) ≡ b
      → Gives (IsSoundValue w g d) (index_verdict e i)
  index_if t e i h k at false is = rw (at, Gives, is) tt
  index_if t e i h k at true is = rw (at, Gives, is) (checked_gives (GoodAs w g d (default_type (expr_type i))) (IsSoundValue w g d) _ (defaulted i) (defaulted_gives w g d i k)
      (λ j good. index_within t e i j h k at is good (is_within (known_length e) (constant_in j))))

  pub index_gives : (e i : Expr) → IsSoundValue w g d e → IsSoundValue w g d i → Gives (IsSoundValue w g d) (index_verdict e i)
  index_gives e i h k = elim (rules.indexed_type (expr_type e)) as (λ o. rules.indexed_type (expr_type e) ≡ o → Gives (IsSoundValue w g d) (index_verdict e i)) [
    | None ↦ λ at. rw (at, Gives) tt
    | Some t ↦ λ at. index_if t e i h k at (rules.is_integer (expr_type i)) refl
  ] refl

  -- ---- lengths: https://go.dev/ref/spec#Length_and_capacity

  pub number : (n : ℕ) → fits (Some integers.Int) (pos n) ≡ true → IsSoundValue w g d (constant int_type (Integer (pos n)))
  number n h = constant_value w g d int_type (Integer (pos n)) (inl refl) (basics.Integer integers.Int, refl, and_from (fits (Some integers.Int) (pos n)) true h refl)

  -- what isn't constant, or is no text
  abbrev IsNoText : Expr → Type 0
  IsNoText e = (bytes : List ℕ) → constant_in e ≡ Some (Text bytes) → ⊥

  kind_text : (k : Untyped) (c : Const) → rules.is_string (basic (basics.Untyped k)) ≡ true → is_of_kind k c ≡ true → (bytes : List ℕ) × (c ≡ Text bytes)
  kind_text kinds.String (Text bytes) h i = (bytes, refl)
  kind_text kinds.String c h i = absurd (true≢false (sym i))
  kind_text k c h i = absurd (true≢false (sym h))

  length_made : (e : Expr) → IsSoundValue w g d e → IsNoText e → rules.is_string (expr_type e) ≡ true → IsSoundValue w g d (typed.length int_type e)
  length_made e (inl h) other is =
      let text = kind_text h.0 h.1 (subst (λ u. rules.is_string u ≡ true) (ap expr_type h.2) is) h.3 in
      absurd (other text.0 (ap constant_in h.2 ∙ ap Some text.1))
  length_made e (inr (inl h)) other is = inr (inl ((h.0, or_left (is_string_type (underlying (expr_type e))) (is_slice (underlying (expr_type e))) (sound_string w (expr_type e) h.1 is), refl), refl, tt))
  length_made e (inr (inr h)) other is = absurd (true≢false (sym (subst (λ u. rules.is_string u ≡ true) h.1 is)))

  array_length : (e : Expr) (n : ℕ) (of : Type') → IsSoundValue w g d e → underlying (expr_type e) ≡ array n of → (b : Bool)
      → Gives (IsSoundValue w g d) (if b then Breaks Mismatch else Fine (constant int_type (Integer (pos n))))
  array_length e n of h at true = tt
  array_length e n of h at false =
      let value = literal_value e (array n of) h at refl in
      let whole : IsSoundType w (array n of) = subst (IsSoundType w) at (sound_underlying w (expr_type e) value.1) in
      number n (counts n whole.0)

  array_in : (e : Expr) (n : ℕ) (of : Type') → IsSoundValue w g d e → underlying (expr_type e) ≡ array n of → Gives (IsSoundValue w g d) (length_verdict e)
  array_in e n of h at = rw (at, Gives) (array_length e n of h at (holds_call e))

  slice_length : (e : Expr) (of : Type') → IsSoundValue w g d e → underlying (expr_type e) ≡ slice of → IsSoundValue w g d (typed.length int_type e)
  slice_length e of h at = inr (inl (((literal_value e (slice of) h at refl).0, ap (λ u. is_string_type u || is_slice u) at, refl), refl, tt))

  slice_capacity : (e : Expr) (of : Type') → IsSoundValue w g d e → underlying (expr_type e) ≡ slice of → IsSoundValue w g d (typed.capacity int_type e)
  slice_capacity e of h at = inr (inl (((literal_value e (slice of) h at refl).0, ap is_slice at, refl), refl, tt))

  text_length : (e : Expr) → IsSoundValue w g d e → IsNoText e → (b : Bool) → rules.is_string (expr_type e) ≡ b → Gives (IsSoundValue w g d) (if b then Fine (typed.length int_type e) else Breaks Mismatch)
  text_length e h other true is = length_made e h other is
  text_length e h other false is = tt

  length_in_gives : (e : Expr) → IsSoundValue w g d e → IsNoText e → Gives (IsSoundValue w g d) (length_verdict e)
  length_in_gives e h other = elim (underlying (expr_type e)) as (λ u. underlying (expr_type e) ≡ u → Gives (IsSoundValue w g d) (length_verdict e)) [
    | array n of ↦ λ at. rw (at, Gives) (array_length e n of h at (holds_call e))
    | slice of ↦ λ at. rw (at, Gives) (slice_length e of h at)
    | _ ↦ λ at. rw (at, Gives) (text_length e h other (rules.is_string (expr_type e)) refl)
  ] refl

  text_counts : (bytes : List ℕ) → is_text bytes ≡ true → fits (Some integers.Int) (pos (length bytes)) ≡ true
  text_counts bytes h = (and_parts (list_all (λ b. nat_lt b 256) bytes) (fits (Some integers.Int) (pos (length bytes))) h).1

  other_constant : (o : Option Const) (e : Expr) → constant_in e ≡ o → ((bytes : List ℕ) → o ≡ Some (Text bytes) → ⊥) → IsNoText e
  other_constant o e at other bytes is = other bytes (sym at ∙ is)

  pub length_gives : (e : Expr) → IsSoundValue w g d e → Gives (IsSoundValue w g d) (length_of e)
  length_gives e h = elim (constant_in e) as (λ o. constant_in e ≡ o → Gives (IsSoundValue w g d) (length_of e)) [
    | Some (Text bytes) ↦ λ at. rw (at, Gives) (number (length bytes) (text_counts bytes (text_is (expr_type e) bytes (constant_of w g d e (Text bytes) h at).1)))
    | Some (Integer z) ↦ λ at. rw (at, Gives) (length_in_gives e h (other_constant (Some (Integer z)) e at (λ bytes is. cc)))
    | Some (Truth b) ↦ λ at. rw (at, Gives) (length_in_gives e h (other_constant (Some (Truth b)) e at (λ bytes is. cc)))
    | None ↦ λ at. rw (at, Gives) (length_in_gives e h (other_constant None e at (λ bytes is. cc)))
  ] refl

  pub capacity_gives : (e : Expr) → IsSoundValue w g d e → Gives (IsSoundValue w g d) (capacity_of e)
  capacity_gives e h = elim (underlying (expr_type e)) as (λ u. underlying (expr_type e) ≡ u → Gives (IsSoundValue w g d) (capacity_of e)) [
    | array n of ↦ λ at. rw (at, Gives) (array_in e n of h at)
    | slice of ↦ λ at. rw (at, Gives) (slice_capacity e of h at)
    | _ ↦ λ at. rw (at, Gives) tt
  ] refl
