-- Cuts, `make` and `append` of sound values are sound.
use Rattle.std.proofs.Common.{◌≡◌, ℕ, pos, negsuc, Bool, true, false, not, ◌||◌, List, [], ◌∷◌, ◌++◌, map, Option, Some, None, refl, sym, subst, true≢false, inl, inr}
use Rattle.std.specs.Prelude.{if◌then◌else◌, is_some, unwrap_or}
use Rattle.std.proofs.lemmas.Bool.{and_parts}
use Rattle.go_text.specs.declared.fault.FaultKind.TheVariants.{Index, Mismatch}
use Rattle.go_const.specs.declared.constant.Const.{Const}
use Rattle.go_const.specs.declared.constant.Const.TheVariants.{Integer}
use Rattle.go_const.specs.declared.kind.IntKind.{IntKind}
use Rattle.go_const.specs.declared.kind.IntKind.TheVariants as integers
use Rattle.go_const.specs.Constants.{fits}
use Rattle.go_types.specs.declared.types.Basic.TheVariants as basics
use Rattle.go_types.specs.declared.types.Untyped.{Untyped}
use Rattle.go_types.specs.declared.types.Untyped.TheVariants as kinds
use Rattle.go_types.specs.Types.{Type', basic, slice}
use Rattle.go_types.specs.Relations.{underlying}
use Rattle.go_typed.specs.Trees as typed
use Rattle.go_typed.specs.Trees.{Expr, Perhaps, absent, present, constant, expr_type, pack_exprs}
use Rattle.go_meaning_laws.specs.WellTyped.{Setting, is_integer_type, is_string_type, is_slice, IsExpr, IsSize}
use Rattle.go_expr.specs.Known.{Fine, Breaks}
use Rattle.go_expr.specs.Rules as rules
use Rattle.go_expr.specs.Rules.{checked, constant_in, int, slice_element, default_type, settled, assigned, known_length, fine_list, when, is_bound, as_count, bound_verdict, are_ordered, cut_to, given_bounds, cut_of, size_verdict, made_of, sizes_faults, make_verdict, append_verdict}
use Rattle.go_package_laws.proofs.Soundness.{Table, IsSoundType, is_of_kind, IsSoundValue}
use Rattle.go_package_laws.proofs.Types.{whole_type, sound_underlying}
use Rattle.go_package_laws.proofs.Assigned.{Gives, IsOperandType, value_type, default_sound, sound_default, GoodAs, assigned_gives}
use Rattle.go_package_laws.proofs.Defaults.{sound_integer, sound_typed}
use Rattle.go_package_laws.proofs.Selections.{literal_value, settled_good, number}
use Rattle.go_package_laws.proofs.Binary.{checked_gives}
use Rattle.go_package_laws.proofs.Literals.{Every, Has, both_empty, when_none, fine_ones, each_gives, slice_is, packed_elements}

-- ---- types that are cut

abbrev kind_below : Type' → Option IntKind
kind_below u = elim u [ basic (basics.Integer kind) ↦ Some kind | _ ↦ None ]

abbrev element_below : Type' → Option Type'
element_below u = elim u [ slice of ↦ Some of | _ ↦ None ]

abbrev string_below : Type' → Bool
string_below u = elim u [ basic basics.String ↦ true | basic (basics.Untyped kinds.String) ↦ true | _ ↦ false ]

-- a slice or a string, below a type
abbrev IsCut : Type' → Type 0
IsCut u = (kind_below u ≡ None) × ((is_string_type u || is_slice u) ≡ true)

cut_below : (w : Table) (u : Type') → IsSoundType w u → (is_some (element_below u) || string_below u) ≡ true → IsCut u
cut_below w (slice of) h is = (refl, refl)
cut_below w (basic basics.String) h is = (refl, refl)
cut_below w (basic (basics.Untyped k)) h is = absurd (true≢false (sym h))
cut_below w u h is = absurd (true≢false (sym is))

cut_untyped : (k : Untyped) → (is_some (slice_element (basic (basics.Untyped k))) || rules.is_string (basic (basics.Untyped k))) ≡ true → IsCut (underlying (default_type (basic (basics.Untyped k))))
cut_untyped kinds.String is = (refl, refl)
cut_untyped k is = absurd (true≢false (sym is))

some_is_slice : (u : Type') → is_some (element_below u) ≡ true → is_slice u ≡ true
some_is_slice (slice of) h = refl
some_is_slice u h = absurd (true≢false (sym h))

not_false : (b : Bool) → not b ≡ false → b ≡ true
not_false true h = refl
not_false false h = absurd (true≢false h)

module _ (w : Table) (g : Setting) (d : List ℕ) where
  cut_type : (v : Type') → IsOperandType w v → (is_some (slice_element v) || rules.is_string v) ≡ true → IsCut (underlying (default_type v))
  cut_type v (inl h) is = subst (λ u. IsCut (underlying u)) (sym (sound_default w g d v h)) (cut_below w (underlying v) (sound_underlying w v h) is)
  cut_type v (inr h) is =
      subst (λ u. IsCut (underlying (default_type u))) (sym h.1) (cut_untyped h.0 (subst (λ u. (is_some (slice_element u) || rules.is_string u) ≡ true) h.1 is))

  -- ---- numbers that count elements

  abbrev IsCount : Expr → Type 0
  IsCount x = IsExpr g d x × (is_integer_type (underlying (expr_type x)) ≡ true)

  int_counts : (c : Const) (n : Option ℕ) → is_of_kind kinds.Int c ≡ true → is_bound n (Some c) ≡ true → IsExpr g d (constant int c)
  int_counts (Integer (pos i)) n h is = (fits_bound i n is, refl)
    where
      fits_bound : (i : ℕ) (n : Option ℕ) → is_bound n (Some (Integer (pos i))) ≡ true → fits (Some integers.Int) (pos i) ≡ true
      fits_bound i n is = (and_parts (fits (Some integers.Int) (pos i)) _ is).0
  int_counts (Integer (negsuc i)) n h is = absurd (true≢false (sym is))
  int_counts c n h is = absurd (true≢false (sym h))

  kind_counts : (k : Untyped) (c : Const) → rules.is_integer (basic (basics.Untyped k)) ≡ true → is_of_kind k c ≡ true → is_of_kind kinds.Int c ≡ true
  kind_counts kinds.Int c h is = is
  kind_counts kinds.Rune (Integer z) h is = refl
  kind_counts kinds.Rune c h is = absurd (true≢false (sym is))
  kind_counts k c h is = absurd (true≢false (sym h))

  counted : (n : Option ℕ) (e : Expr) → IsSoundValue w g d e → rules.is_integer (expr_type e) ≡ true → is_bound n (constant_in e) ≡ true → IsCount (as_count e)
  counted n e (inl h) is bound =
      let k = h.0 in
      let c = h.1 in
      let kind = kind_counts k c (subst (λ (x : Expr). rules.is_integer (expr_type x) ≡ true) h.2 is) h.3 in
      let good = int_counts c n kind (subst (λ (x : Expr). is_bound n (constant_in x) ≡ true) h.2 bound) in
      subst (λ (x : Expr). IsCount (as_count x)) (sym h.2) (good, refl)
  counted n e (inr (inl h)) is bound = rw (sound_typed w (expr_type e) h.1) (h.0, sound_integer w (expr_type e) h.1 is)
  counted n e (inr (inr h)) is bound = absurd (true≢false (sym (subst (λ (u : Type'). rules.is_integer u ≡ true) h.1 is)))

  bound_if : (n : Option ℕ) (e : Expr) → IsSoundValue w g d e → (a b : Bool) → rules.is_integer (expr_type e) ≡ a → is_bound n (constant_in e) ≡ b → Gives IsCount (bound_verdict n e)
  bound_if n e h false b p q = rw p tt
  bound_if n e h true false p q = rw (p, q) tt
  bound_if n e h true true p q = rw (p, q) (counted n e h p q)

  size_if : (e : Expr) → IsSoundValue w g d e → (a b : Bool) → rules.is_integer (expr_type e) ≡ a → is_bound None (constant_in e) ≡ b → Gives IsCount (size_verdict e)
  size_if e h false b p q = rw p tt
  size_if e h true false p q = rw (p, q) tt
  size_if e h true true p q = rw (p, q) (counted None e h p q)

  all_bounds : (n : Option ℕ) (es : List Expr) → Every (IsSoundValue w g d) es → Every (Gives IsCount) (map (bound_verdict n) es)
  all_bounds n [] h = tt
  all_bounds n (e ∷ es) h = (bound_if n e h.0 (rules.is_integer (expr_type e)) (is_bound n (constant_in e)) refl refl, all_bounds n es h.1)

  all_sizes : (es : List Expr) → Every (IsSoundValue w g d) es → Every (Gives IsCount) (map size_verdict es)
  all_sizes [] h = tt
  all_sizes (e ∷ es) h = (size_if e h.0 (rules.is_integer (expr_type e)) (is_bound None (constant_in e)) refl refl, all_sizes es h.1)

  -- ---- cuts: https://go.dev/ref/spec#Slice_expressions

  cut_made : (e : Expr) → IsSoundValue w g d e → (is_some (slice_element (expr_type e)) || rules.is_string (expr_type e)) ≡ true → (a : Expr) → IsCount a → (o : Perhaps) → IsSize g d o
      → IsSoundValue w g d (typed.cut (default_type (expr_type e)) (settled e) a o)
  cut_made e h is a k o size =
      let of = value_type w g d e h in
      let kind = cut_type (expr_type e) of is in
      let whole = settled_good w g d e h kind.0 in
      inr (inl ((whole.0, whole.1, kind.1, k.0, k.1, size), default_sound w g d (expr_type e) of, tt))

  cut_ordered : (e : Expr) → IsSoundValue w g d e → (is_some (slice_element (expr_type e)) || rules.is_string (expr_type e)) ≡ true → (a b : Expr) → IsCount a → IsCount b → (ordered : Bool)
      → Gives (IsSoundValue w g d) (if ordered then Fine (typed.cut (default_type (expr_type e)) (settled e) a (present b)) else Breaks Index)
  cut_ordered e h is a b k l true = cut_made e h is a k (present b) l
  cut_ordered e h is a b k l false = tt

  cut_to_gives : (e : Expr) → IsSoundValue w g d e → (is_some (slice_element (expr_type e)) || rules.is_string (expr_type e)) ≡ true → (xs : List Expr) → Every IsCount xs
      → Gives (IsSoundValue w g d) (cut_to e xs)
  cut_to_gives e h is [] k = tt
  cut_to_gives e h is (a ∷ []) k = cut_made e h is a k.0 absent tt
  cut_to_gives e h is (a ∷ b ∷ []) k = cut_ordered e h is a b k.0 (k.1).0 (are_ordered (constant_in a) (constant_in b))
  cut_to_gives e h is (a ∷ b ∷ c ∷ xs) k = tt

  first_sound : (a : Option Expr) → Has (IsSoundValue w g d) a → IsSoundValue w g d (unwrap_or a (constant int (Integer (pos 0))))
  first_sound None h = number w g d 0 refl
  first_sound (Some a) h = h

  given_sound : (a b : Option Expr) → Has (IsSoundValue w g d) a → Has (IsSoundValue w g d) b → Every (IsSoundValue w g d) (given_bounds a b)
  given_sound a None h k = (first_sound a h, tt)
  given_sound a (Some b) h k = (first_sound a h, (k, tt))

  cut_if : (e : Expr) (a b : Option Expr) → IsSoundValue w g d e → Has (IsSoundValue w g d) a → Has (IsSoundValue w g d) b → (is : Bool)
      → (is_some (slice_element (expr_type e)) || rules.is_string (expr_type e)) ≡ is → Gives (IsSoundValue w g d) (cut_of e a b)
  cut_if e a b h k l false at = rw at tt
  cut_if e a b h k l true at = rw at (
      let n = known_length e in
      let vs = map (bound_verdict n) (given_bounds a b) in
      checked_gives (Every IsCount) (IsSoundValue w g d) (cut_to e) (fine_list [] vs)
      (each_gives (Every IsCount) [] vs (λ none sure. fine_ones IsCount vs (all_bounds n (given_bounds a b) (given_sound a b k l)))) (λ xs good. cut_to_gives e h at xs good)
      )

  pub cut_gives : (e : Expr) (a b : Option Expr) → IsSoundValue w g d e → Has (IsSoundValue w g d) a → Has (IsSoundValue w g d) b → Gives (IsSoundValue w g d) (cut_of e a b)
  cut_gives e a b h k l = cut_if e a b h k l (is_some (slice_element (expr_type e)) || rules.is_string (expr_type e)) refl

  -- ---- slices that are made: https://go.dev/ref/spec#Making_slices_maps_and_channels

  made_of_gives : (t : Type') → IsSoundType w t → is_some (slice_element t) ≡ true → (xs : List Expr) → Every IsCount xs → Gives (IsSoundValue w g d) (made_of t xs)
  made_of_gives t h is [] k = tt
  made_of_gives t h is (n ∷ []) k = inr (inl ((whole_type w t h, some_is_slice (underlying t) is, (k.0).0, (k.0).1, tt), h, tt))
  made_of_gives t h is (n ∷ m ∷ []) k = inr (inl ((whole_type w t h, some_is_slice (underlying t) is, (k.0).0, (k.0).1, (k.1).0), h, tt))
  made_of_gives t h is (n ∷ m ∷ x ∷ xs) k = tt

  pub made_gives : (t : Type') (xs : List Expr) → IsSoundType w t → Every (IsSoundValue w g d) xs → Gives (IsSoundValue w g d) (make_verdict t xs)
  made_gives t xs h k =
      let no_slice = when (not (is_some (slice_element t))) Mismatch in
      let vs = map size_verdict xs in
      checked_gives (λ ys. (is_some (slice_element t) ≡ true) × Every IsCount ys) (IsSoundValue w g d) (made_of t) (fine_list (no_slice ++ sizes_faults xs) vs)
      (each_gives (λ ys. (is_some (slice_element t) ≡ true) × Every IsCount ys) (no_slice ++ sizes_faults xs) vs (λ none sure. (
        not_false (is_some (slice_element t)) (when_none (not (is_some (slice_element t))) Mismatch (both_empty no_slice (sizes_faults xs) none).0),
        fine_ones IsCount vs (all_sizes xs k),
      )))
      (λ ys good. made_of_gives t h good.0 ys good.1)

  -- ---- appending: https://go.dev/ref/spec#Appending_and_copying_slices

  all_assigned : (of : Type') (xs : List Expr) → IsSoundType w of → Every (IsSoundValue w g d) xs → Every (Gives (GoodAs w g d of)) (map (assigned of) xs)
  all_assigned of [] h k = tt
  all_assigned of (x ∷ xs) h k = (assigned_gives w g d of x h k.0, all_assigned of xs h k.1)

  append_made : (s : Expr) (xs : List Expr) (of : Type') → slice_element (expr_type s) ≡ Some of → IsSoundValue w g d s → Every (IsSoundValue w g d) xs
      → Gives (IsSoundValue w g d) (checked (λ ys. Fine (typed.append (expr_type s) (present s) (pack_exprs ys))) (fine_list [] (map (assigned of) xs)))
  append_made s xs of at h k =
      let under = slice_is (underlying (expr_type s)) of at in
      let value = literal_value w g d s (slice of) h under refl in
      let sound : IsSoundType w of = subst (IsSoundType w) under (sound_underlying w (expr_type s) value.1) in
      let vs = map (assigned of) xs in
      checked_gives (Every (GoodAs w g d of)) (IsSoundValue w g d) _ (fine_list [] vs)
      (each_gives (Every (GoodAs w g d of)) [] vs (λ none sure. fine_ones (GoodAs w g d of) vs (all_assigned of xs sound k)))
      (λ ys good. inr (inl ((whole_type w (expr_type s) value.1, (value.0, refl), (of, under, packed_elements w g d of ys good)), value.1, tt)))

  pub appended_gives : (xs : List Expr) → Every (IsSoundValue w g d) xs → Gives (IsSoundValue w g d) (append_verdict xs)
  appended_gives [] h = tt
  appended_gives (s ∷ xs) h = elim (slice_element (expr_type s)) as (λ o. slice_element (expr_type s) ≡ o → Gives (IsSoundValue w g d) (append_verdict (s ∷ xs))) [
    | None ↦ λ at. rw (at, Gives) tt
    | Some of ↦ λ at. rw (at, Gives) (append_made s xs of at h.0 h.1)
  ] refl
