-- What is assigned to: parts of variables, which take the values that are due for them.
use Rattle.std.proofs.Common.{◌≡◌, ℕ, Bool, true, false, Option, Some, None, List, [], ◌∷◌, map, refl, sym, ap, subst, ◌∙◌, inl, inr, true≢false}
use Rattle.std.specs.Prelude.{is_some, option_map, pos}
use Rattle.std.proofs.lemmas.Bool.{cases_Bool}
use Rattle.go_text.specs.declared.fault.FaultKind.TheVariants.{Mismatch}
use Rattle.go_const.specs.declared.constant.Const.TheVariants.{Integer}
use Rattle.go_const.specs.declared.kind.IntKind.{IntKind}
use Rattle.go_const.specs.declared.kind.IntKind.TheVariants as integers
use Rattle.go_const.specs.declared.operator.ArithmeticOperator.{ArithmeticOperator}
use Rattle.go_const.specs.declared.operator.ArithmeticOperator.TheVariants as sums
use Rattle.go_const.specs.declared.operator.ShiftOperator.{ShiftOperator}
use Rattle.go_types.specs.declared.types.Basic.TheVariants as basics
use Rattle.go_types.specs.declared.types.Untyped.TheVariants as kinds
use Rattle.go_types.specs.Types.{Type', basic, array, slice, struct, named}
use Rattle.go_types.specs.Relations.{underlying}
use Rattle.go_meaning.specs.Choices.{cell_of}
use Rattle.go_meaning.specs.Values.{single, is_of}
use Rattle.go_typed.specs.declared.expression.Operator.TheVariants.{Arithmetic, Shift}
use Rattle.go_typed.specs.Trees.{Symbol, Expr, constant, local, global, field, index, binary, expr_type, Steps, here, to_field, to_element, Left, blank, of_local, of_global, of_slice, Stmt, assign, update}
use Rattle.go_meaning_laws.specs.WellTyped.{Setting, IsExpr, index_result_type, array_element, is_integer_type, is_sum, LeadsTo, IsWellTypedPart, AreLefts, declared_after, source_types, IsStmt}
use Rattle.go_expr.specs.Known.{Fine, Breaks}
use Rattle.go_expr.specs.Rules as rules
use Rattle.go_expr.specs.Rules.{slice_element, checked}
use Rattle.go_stmt.specs.Rules.{all_some, AssignedValues, suited, is_array, left_to, left_side, assigned_to, updating, inc_dec_verdict}
use Rattle.go_package_laws.proofs.Soundness.{Table, IsSoundType, HasSoundWay, IsTypedValue, is_operation, IsSoundValue}
use Rattle.go_package_laws.proofs.Expected.{Expected}
use Rattle.go_package_laws.proofs.Related.{SoundLocals}
use Rattle.go_package_laws.proofs.Values.{checked_part, some_part, own_types, AreDue, SoundDue, AreSoundValues, sound_suited, sound_under}

element_of : (s t : Type') → index_result_type s ≡ Some t → elim s [ array n u ↦ true | _ ↦ false ] ≡ true → array_element s ≡ Some t
element_of (array n u) t h k = h
element_of s t h k = absurd (true≢false (sym k))

slice_of_type : (s t : Type') → index_result_type s ≡ Some t → is_some (elim s [ slice u ↦ Some u | _ ↦ None ]) ≡ true → s ≡ slice t
slice_of_type (slice u) t h k = (let same : u ≡ t = cc in ap slice same)
slice_of_type s t h k = absurd (true≢false (sym k))

-- ---- integers

typed_integer : (w : Table) (t : Type') → IsSoundType w t → rules.is_integer t ≡ true → (i : IntKind) × (underlying t ≡ basic (basics.Integer i))
typed_integer w (basic basics.Bool) h k = absurd cc
typed_integer w (basic basics.String) h k = absurd cc
typed_integer w (basic (basics.Integer i)) h k = (i, refl)
typed_integer w (basic (basics.Untyped kind)) h k = absurd (true≢false (sym h))
typed_integer w (array n t) h k = absurd cc
typed_integer w (slice t) h k = absurd cc
typed_integer w (struct fs) h k = absurd cc
typed_integer w (named p x t) h k = typed_integer w t h.1 k

pub integer_under : (w : Table) (t : Type') → IsSoundType w t → rules.is_integer t ≡ true → is_integer_type (underlying t) ≡ true
integer_under w t h k = (let i = typed_integer w t h k in ap is_integer_type i.1)

one_fits : (i : IntKind) → is_of (basic (basics.Integer i)) (single (cell_of (Integer (pos 1)))) ≡ true
one_fits integers.Int = refl
one_fits integers.Int8 = refl
one_fits integers.Int16 = refl
one_fits integers.Int32 = refl
one_fits integers.Int64 = refl
one_fits integers.Uint = refl
one_fits integers.Uint8 = refl
one_fits integers.Uint16 = refl
one_fits integers.Uint32 = refl
one_fits integers.Uint64 = refl

one_of : (t : Type') (i : IntKind) → underlying t ≡ basic (basics.Integer i) → is_of t (single (cell_of (Integer (pos 1)))) ≡ true
one_of (basic b) i h = ap (λ s. is_of s (single (cell_of (Integer (pos 1))))) h ∙ one_fits i
one_of (array n t) i h = absurd cc
one_of (slice t) i h = absurd cc
one_of (struct fs) i h = absurd cc
one_of (named p x t) i h = one_of t i h

sums_integers : (op : ArithmeticOperator) (i : IntKind) → is_sum op (basic (basics.Integer i)) ≡ true
sums_integers sums.Add i = refl
sums_integers op i = refl

no_sum : (op : ArithmeticOperator) → is_sum op (basic (basics.Untyped kinds.Bool)) ≡ true → ⊥
no_sum sums.Add h = true≢false (sym h)
no_sum op h = true≢false (sym h)

module _ (x : Expected) (w : Table) (g : Setting) where
  -- the package variables have sound types
  abbrev pub SoundVariables : Type 0
  SoundVariables = (s : Symbol) (t : Type') → g.variables s ≡ Some t → IsSoundType w t

  -- the part of a variable that an expression names
  left_part : (d : List ℕ) → SoundLocals w g.locals d → SoundVariables → (e : Expr) (ss : Steps) (u : Type') (l : Left) → IsExpr g d e → HasSoundWay w e → LeadsTo g d (expr_type e) ss u → left_to ss e ≡ Some l → IsWellTypedPart g d l u
  left_part d l v (local t n) ss u left h way lead is =
      let same : of_local t n ss ≡ left = cc in
      subst (λ (k : Left). IsWellTypedPart g d k u) same (h, x.small_type w t (l n t h.0 h.1), lead)
  left_part d l v (global t s) ss u left h way lead is =
      let same : of_global t s ss ≡ left = cc in
      subst (λ (k : Left). IsWellTypedPart g d k u) same (h, x.small_type w t (v s t h), lead)
  left_part d l v (field t e n) ss u left h way lead is = left_part d l v e (to_field n ss) u left h.0 way (t, h.1, lead) is
  left_part d l v (index t e i) ss u left h way lead is = elim (cases_Bool (is_array (expr_type e))) [
    | inl whole ↦ (
        let r : left_to ss (index t e i) ≡ left_to (to_element i ss) e = rw whole refl in
        left_part d l v e (to_element i ss) u left h.0 way.1 (t, element_of (underlying (expr_type e)) t h.3 whole, h.1, h.2, lead) (sym r ∙ is)
        )
    | inr not_so ↦ elim (cases_Bool (is_some (slice_element (expr_type e)))) [
      | inl sliced ↦ (
          let r : left_to ss (index t e i) ≡ Some (of_slice (expr_type e) e (to_element i ss)) = rw (not_so, sliced) refl in
          let same : of_slice (expr_type e) e (to_element i ss) ≡ left = cc in
          let under = slice_of_type (underlying (expr_type e)) t h.3 sliced in
          let sound : IsSoundType w t = subst (IsSoundType w) under (sound_under w (expr_type e) way.0) in
          subst (λ (k : Left). IsWellTypedPart g d k u) same (h.0, refl, (t, under, x.small_type w t sound, (h.1, h.2, lead)))
          )
      | inr other ↦ absurd (let r : left_to ss (index t e i) ≡ None = rw (not_so, other) refl in cc)
    ]
  ]
  left_part d l v e ss u left h way lead is = absurd cc

  -- what an operator gives is no left side
  no_left : (e : Expr) (ss : Steps) (l : Left) → is_operation e ≡ true → left_to ss e ≡ Some l → ⊥
  no_left (local t n) ss l h is = true≢false (sym h)
  no_left (global t s) ss l h is = true≢false (sym h)
  no_left (field t e n) ss l h is = true≢false (sym h)
  no_left (index t e i) ss l h is = true≢false (sym h)
  no_left e ss l h is = cc

  left_value : (d : List ℕ) (e : Expr) (l : Left) → IsSoundValue w g d e → left_to here e ≡ Some l → IsTypedValue w g d e
  left_value d e l (inl h) is = absurd (let none : left_to here e ≡ None = ap (left_to here) h.2 in cc)
  left_value d e l (inr (inl h)) is = h
  left_value d e l (inr (inr h)) is = absurd (no_left e here l h.2 is)

  -- ---- assignments

  abbrev pub AllLefts : List ℕ → List (Option Expr) → Type 0
  AllLefts d [] = Unit {0}
  AllLefts d (None ∷ es) = AllLefts d es
  AllLefts d (Some e ∷ es) = IsSoundValue w g d e × AllLefts d es

  lefts_due : (d : List ℕ) → SoundLocals w g.locals d → SoundVariables → (es : List (Option Expr)) (ls : List Left) → all_some (map left_side es) ≡ Some ls → AllLefts d es → SoundDue w (map (option_map expr_type) es)
  lefts_due d l v [] ls is h = tt
  lefts_due d l v (None ∷ es) ls is h = (let part = some_part (left_side None) (map left_side es) ls is in lefts_due d l v es part.1 part.3 h)
  lefts_due d l v (Some e ∷ es) ls is h =
      let part = some_part (left_side (Some e)) (map left_side es) ls is in
      ((left_value d e part.0 h.0 part.2).1, lefts_due d l v es part.1 part.3 h.1)

  front_left : (d : List ℕ) (l : Left) (ls : List Left) (t : Type') (ts : List Type') → IsWellTypedPart g d l t → AreLefts g d ls ts → AreLefts g d (l ∷ ls) (t ∷ ts)
  front_left d blank ls t ts h k = absurd h
  front_left d (of_local u n ss) ls t ts h k = (h, k)
  front_left d (of_global u s ss) ls t ts h k = (h, k)
  front_left d (of_slice u e ss) ls t ts h k = (h, k)

  lefts_take : (d : List ℕ) → SoundLocals w g.locals d → SoundVariables → (es : List (Option Expr)) (ls : List Left) (vs ts : List Type') → all_some (map left_side es) ≡ Some ls → AllLefts d es
      → AreDue w (map (option_map expr_type) es) vs ts → AreLefts g d ls ts
  lefts_take d l v [] ls [] [] is h due = (let same : [] ≡ ls = cc in subst (λ (k : List Left). AreLefts g d k []) same tt)
  lefts_take d l v (None ∷ es) ls (u ∷ vs) (t ∷ ts) is h due =
      let part = some_part (left_side None) (map left_side es) ls is in
      let first : blank ≡ part.0 = cc in
      let rest : AreLefts g d (blank ∷ part.1) (t ∷ ts) = lefts_take d l v es part.1 vs ts part.3 h due.2 in
      let whole : blank ∷ part.1 ≡ ls = ap (λ k. k ∷ part.1) first ∙ sym part.4 in
      subst (λ (k : List Left). AreLefts g d k (t ∷ ts)) whole rest
  lefts_take d l v (Some e ∷ es) ls (u ∷ vs) (t ∷ ts) is h due =
      let part = some_part (left_side (Some e)) (map left_side es) ls is in
      let value = left_value d e part.0 h.0 part.2 in
      let one = left_part d l v e here t part.0 value.0 value.2 due.0 part.2 in
      subst (λ (k : List Left). AreLefts g d k (t ∷ ts)) (sym part.4) (front_left d part.0 part.1 t ts one (lefts_take d l v es part.1 vs ts part.3 h.1 due.1))
  lefts_take d l v [] ls (u ∷ vs) ts is h due = absurd due
  lefts_take d l v [] ls [] (t ∷ ts) is h due = absurd due
  lefts_take d l v (None ∷ es) ls [] ts is h due = absurd due
  lefts_take d l v (None ∷ es) ls (u ∷ vs) [] is h due = absurd due
  lefts_take d l v (Some e ∷ es) ls [] ts is h due = absurd due
  lefts_take d l v (Some e ∷ es) ls (u ∷ vs) [] is h due = absurd due

  -- a statement that declares nothing
  abbrev pub Plain : List ℕ → Stmt → Type 0
  Plain d s = IsStmt g d s × (d ≡ declared_after d s)

  assigned_by : (d : List ℕ) → SoundLocals w g.locals d → SoundVariables → (es : List (Option Expr)) (values : AssignedValues) (o : Option (List Left)) (y : Stmt) → all_some (map left_side es) ≡ o → AllLefts d es → AreSoundValues x w g d values
      → assigned_to es values ≡ Fine y → Plain d y
  assigned_by d l v es values None y at h k is = absurd (let r : assigned_to es values ≡ Breaks Mismatch = rw (at, assigned_to) refl in cc)
  assigned_by d l v es values (Some ls) y at h k is =
      let r : assigned_to es values ≡ checked (λ source. Fine (assign ls source)) (suited (map (option_map expr_type) es) values) = rw (at, assigned_to) refl in
      let part = checked_part (λ source. Fine (assign ls source)) (suited (map (option_map expr_type) es) values) y (sym r ∙ is) in
      let suit = sound_suited x w g d (map (option_map expr_type) es) values part.0 (lefts_due d l v es ls at h) k part.1 in
      let same : assign ls part.0 ≡ y = (let k : Fine (assign ls part.0) ≡ Fine y = part.2 in cc) in
      subst (Plain d) same ((lefts_take d l v es ls (own_types values) (source_types part.0) at h suit.1, suit.0), refl)

  pub sound_assignment : (d : List ℕ) → SoundLocals w g.locals d → SoundVariables → (es : List (Option Expr)) (values : AssignedValues) (y : Stmt) → AllLefts d es → AreSoundValues x w g d values → assigned_to es values ≡ Fine y → Plain d y
  sound_assignment d l v es values y h k is = assigned_by d l v es values (all_some (map left_side es)) y refl h k is

  -- ---- updates

  stepped_by : (d : List ℕ) → SoundLocals w g.locals d → SoundVariables → (op : ArithmeticOperator) (e : Expr) (o : Option Left) (b : Bool) (y : Stmt) → left_to here e ≡ o → rules.is_integer (expr_type e) ≡ b → IsSoundValue w g d e → inc_dec_verdict op e ≡ Fine y → Plain d y
  stepped_by d l v op e None b y at int h is = absurd (let r : inc_dec_verdict op e ≡ Breaks Mismatch = rw (at, inc_dec_verdict) refl in cc)
  stepped_by d l v op e (Some left) false y at int h is = absurd (let r : inc_dec_verdict op e ≡ Breaks Mismatch = rw (at, inc_dec_verdict, int) refl in cc)
  stepped_by d l v op e (Some left) true y at int h is =
      let t = expr_type e in
      let r : inc_dec_verdict op e ≡ Fine (update t left (Arithmetic op) (constant t (Integer (pos 1)))) = rw (at, inc_dec_verdict, int) refl in
      let same : update t left (Arithmetic op) (constant t (Integer (pos 1))) ≡ y = cc in
      let value = left_value d e left h at in
      let i = typed_integer w t value.1 int in
      let sum : is_sum op (underlying t) ≡ true = ap (is_sum op) i.1 ∙ sums_integers op i.0 in
      subst (Plain d) same ((left_part d l v e here t left value.0 value.2 refl at, (one_of t i.0 i.1, refl), (refl, refl, sum)), refl)

  pub sound_step : (d : List ℕ) → SoundLocals w g.locals d → SoundVariables → (op : ArithmeticOperator) (e : Expr) (y : Stmt) → IsSoundValue w g d e → inc_dec_verdict op e ≡ Fine y → Plain d y
  sound_step d l v op e y h is = stepped_by d l v op e (left_to here e) (rules.is_integer (expr_type e)) y refl refl h is

  sum_updated : (d : List ℕ) → SoundLocals w g.locals d → SoundVariables → (t : Type') (op : ArithmeticOperator) (a b : Expr) (o : Option Left) (y : Stmt) → left_to here a ≡ o → IsExpr g d (binary t (Arithmetic op) a b) → HasSoundWay w a → updating (binary t (Arithmetic op) a b) ≡ Fine y → Plain d y
  sum_updated d l v t op a b None y at h way is = absurd (let r : updating (binary t (Arithmetic op) a b) ≡ Breaks Mismatch = rw (at, updating) refl in cc)
  sum_updated d l v t op a b (Some left) y at h way is =
      let r : updating (binary t (Arithmetic op) a b) ≡ Fine (update (expr_type a) left (Arithmetic op) b) = rw (at, updating) refl in
      let same : update (expr_type a) left (Arithmetic op) b ≡ y = cc in
      let kinds = h.2 in
      let sum : is_sum op (underlying (expr_type a)) ≡ true = ap (λ u. is_sum op (underlying u)) kinds.0 ∙ kinds.2 in
      subst (Plain d) same ((left_part d l v a here (expr_type a) left h.0 way refl at, h.1, (refl, kinds.1 ∙ sym kinds.0, sum)), refl)

  shift_updated : (d : List ℕ) → SoundLocals w g.locals d → SoundVariables → (t : Type') (op : ShiftOperator) (a b : Expr) (o : Option Left) (y : Stmt) → left_to here a ≡ o → IsExpr g d (binary t (Shift op) a b) → HasSoundWay w a → updating (binary t (Shift op) a b) ≡ Fine y → Plain d y
  shift_updated d l v t op a b None y at h way is = absurd (let r : updating (binary t (Shift op) a b) ≡ Breaks Mismatch = rw (at, updating) refl in cc)
  shift_updated d l v t op a b (Some left) y at h way is =
      let r : updating (binary t (Shift op) a b) ≡ Fine (update (expr_type a) left (Shift op) b) = rw (at, updating) refl in
      let same : update (expr_type a) left (Shift op) b ≡ y = cc in
      let kinds = h.2 in
      let int : is_integer_type (underlying (expr_type a)) ≡ true = ap (λ u. is_integer_type (underlying u)) kinds.0 ∙ kinds.1 in
      subst (Plain d) same ((left_part d l v a here (expr_type a) left h.0 way refl at, h.1, (refl, int, kinds.2)), refl)

  update_of : (d : List ℕ) → SoundLocals w g.locals d → SoundVariables → (z : Expr) (y : Stmt) → IsExpr g d z → HasSoundWay w z → updating z ≡ Fine y → Plain d y
  update_of d l v (binary t (Arithmetic op) a b) y h way is = sum_updated d l v t op a b (left_to here a) y refl h way is
  update_of d l v (binary t (Shift op) a b) y h way is = shift_updated d l v t op a b (left_to here a) y refl h way is
  update_of d l v z y h way is = absurd cc

  -- truth values aren't summed or shifted
  no_update : (d : List ℕ) (z : Expr) (y : Stmt) → IsExpr g d z → expr_type z ≡ basic (basics.Untyped kinds.Bool) → updating z ≡ Fine y → ⊥
  no_update d (binary t (Arithmetic op) a b) y h truth is = no_sum op (subst (λ u. is_sum op (underlying u) ≡ true) truth (h.2).2)
  no_update d (binary t (Shift op) a b) y h truth is = true≢false (sym (subst (λ u. is_integer_type (underlying u) ≡ true) truth (h.2).1))
  no_update d z y h truth is = cc

  pub sound_update : (d : List ℕ) → SoundLocals w g.locals d → SoundVariables → (z : Expr) (y : Stmt) → IsSoundValue w g d z → updating z ≡ Fine y → Plain d y
  sound_update d l v z y (inl h) is = absurd (let r : updating z ≡ Breaks Mismatch = ap updating h.2 in cc)
  sound_update d l v z y (inr (inl h)) is = update_of d l v z y h.0 h.2 is
  sound_update d l v z y (inr (inr h)) is = absurd (no_update d z y h.0 h.1 is)
