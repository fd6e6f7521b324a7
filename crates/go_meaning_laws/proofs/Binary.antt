-- Operators of two well typed operands, conversions, indexes and lengths.
use Rattle.std.proofs.Common.{◌≡◌, ℕ, zero, suc, ◌+◌, ◌-◌, ◌≤◌, Bool, true, false, ◌&&◌, ◌||◌, List, [], ◌∷◌, ◌++◌, length, take, drop, Option, Some, None, ℤ, pos, negsuc, ◌⊎◌, inl, inr, refl, sym, ap, ◌∙◌, subst, arith, length-append, append-nil, nat_eq, nat_lt, nat_le, slice_get, if◌then◌else◌}
use Rattle.std.specs.List.{list_all}
use Rattle.std.specs.Ordering.{int_eq}
use Rattle.std.proofs.lemmas.Bool.{leb-true, lt-ltb}
use Rattle.go_const.specs.Constants.{fits, divides, arithmetic as computed}
use Rattle.go_const.specs.declared.kind.IntKind.{IntKind}
use Rattle.go_const.specs.declared.kind.IntKind.TheVariants as integers
use Rattle.go_const.specs.declared.operator.ArithmeticOperator.{ArithmeticOperator}
use Rattle.go_const.specs.declared.operator.ArithmeticOperator.TheVariants.{Add, Subtract, Multiply, Divide, Remainder, BitAnd, BitOr, BitXor, AndNot}
use Rattle.go_const.specs.declared.operator.ComparisonOperator.{ComparisonOperator}
use Rattle.go_const.specs.declared.operator.ComparisonOperator.TheVariants.{Equal, NotEqual, Less, LessOrEqual, Greater, GreaterOrEqual}
use Rattle.go_const.specs.declared.operator.ShiftOperator.{ShiftOperator}
use Rattle.go_const.specs.declared.operator.ShiftOperator.TheVariants.{Left, Right}
use Rattle.go_types.specs.declared.types.Basic.TheVariants as basics
use Rattle.go_types.specs.Types.{Type', basic, array, slice, struct, named}
use Rattle.go_types.specs.Relations.{underlying}
use Rattle.go_types.specs.Sizes.{cells}
use Rattle.go_code.specs.declared.cell.Cell.{Cell}
use Rattle.go_code.specs.declared.cell.Cell.TheVariants.{Int, Bool as Truth, Text, Slice}
use Rattle.go_code.specs.declared.ending.PanicKind.TheVariants.{Long, Divide as Divide_by_zero, Slice as Bounds}
use Rattle.go_code.specs.Operators as operators
use Rattle.go_code.specs.Operators.{Operated, wrapped, calculated, shifted_integer, concatenated_text, bounded, byte_at, byte_of}
use Rattle.go_code.specs.Rows.{most_room}
use Rattle.go_typed.specs.declared.expression.Operator.{Operator}
use Rattle.go_typed.specs.declared.expression.Operator.TheVariants.{Arithmetic as arithmetic, Shift as shift, Comparison as comparison}
use Rattle.go_meaning.specs.Values.{Value, single, flat, to_element, part_of}
use Rattle.go_meaning.specs.Choices.{binary_operators, conversion_operators, length_operators, capacity_operators, cut_operators, operated}
use Rattle.go_meaning.specs.Meaning.{indexed}
use Rattle.go_meaning_laws.specs.WellTyped.{is_integer_type, is_string_type, is_bool_type, is_slice, is_text, is_sum, is_compared, IsOperation, Converts, index_result_type, int_type, byte}
use Rattle.go_meaning_laws.proofs.Shelf.{Shelf, Lies}
use Rattle.go_meaning_laws.proofs.Values.{Of, both_true, true_both, number_same, flat_long, of_underlying, by_underlying}
use Rattle.go_meaning_laws.proofs.Parts.{Fine, PartOf, one_step, fine_then}
use Rattle.go_meaning_laws.proofs.Operators.{IsNumber, number, integer_value, IsString, text, string_value, IsTruth, bool_value, truth_is, IsSlice, piece, slice_value, wrapped_fits, fine_under}

-- a sum of tests is one or the other
pub either_true : (p q : Bool) → (p || q) ≡ true → (p ≡ true) ⊎ (q ≡ true)
either_true true q e = inl refl
either_true false q e = inr e

-- ---- texts

all_more : (p : ℕ → Bool) (s t : List ℕ) → list_all p s ≡ true → list_all p t ≡ true → list_all p (s ++ t) ≡ true
all_more p [] t h k = k
all_more p (b ∷ s) t h k = (let h1 = both_true (p b) (list_all p s) h in true_both (p b) (list_all p (s ++ t)) h1.0 (all_more p s t h1.1 k))

joined_text : (s t : List ℕ) → is_text s ≡ true → is_text t ≡ true → nat_le (length s + length t) operators.most_bytes ≡ true → is_text (s ++ t) ≡ true
unfolding Rattle.go_code.specs.Operators.most_bytes
joined_text s t h k l =
    let h1 = both_true (list_all (λ b. nat_lt b 256) s) (fits (Some integers.Int) (pos (length s))) h in
    let k1 = both_true (list_all (λ b. nat_lt b 256) t) (fits (Some integers.Int) (pos (length t))) k in
    let small = leb-true (length s + length t) 16777216 l in
    true_both (list_all (λ b. nat_lt b 256) (s ++ t)) (fits (Some integers.Int) (pos (length (s ++ t)))) (all_more (λ b. nat_lt b 256) s t h1.0 k1.0)
    (lt-ltb (length (s ++ t)) 9223372036854775808 (omega (arith, length-append s t, small)))

abbrev is_order : ComparisonOperator → Bool
is_order Equal = false
is_order NotEqual = false
is_order op = true

list_part : (p : ℕ → Bool) (n : ℕ) (s : List ℕ) → list_all p s ≡ true → list_all p (take n s) ≡ true
list_part p zero s h = refl
list_part p (suc n) [] h = refl
list_part p (suc n) (b ∷ s) h = (let h1 = both_true (p b) (list_all p s) h in true_both (p b) (list_all p (take n s)) h1.0 (list_part p n s h1.1))

list_rest : (p : ℕ → Bool) (n : ℕ) (s : List ℕ) → list_all p s ≡ true → list_all p (drop n s) ≡ true
list_rest p zero s h = h
list_rest p (suc n) [] h = refl
list_rest p (suc n) (b ∷ s) h = list_rest p n s (both_true (p b) (list_all p s) h).1

take_long : (n : ℕ) (s : List ℕ) → length (take n s) ≤ length s
take_long zero s = omega arith
take_long (suc n) [] = omega arith
take_long (suc n) (b ∷ s) = let h = take_long n s in omega (arith, h)

drop_long : (n : ℕ) (s : List ℕ) → length (drop n s) ≤ length s
drop_long zero s = omega arith
drop_long (suc n) [] = omega arith
drop_long (suc n) (b ∷ s) = let h = drop_long n s in omega (arith, h)

part_text : (s : List ℕ) (low n : ℕ) → is_text s ≡ true → is_text (take n (drop low s)) ≡ true
part_text s low n h =
    let h1 = both_true (list_all (λ b. nat_lt b 256) s) (fits (Some integers.Int) (pos (length s))) h in
    let few = leb-true (suc (length s)) 9223372036854775808 h1.1 in
    true_both (list_all (λ b. nat_lt b 256) (take n (drop low s))) (fits (Some integers.Int) (pos (length (take n (drop low s)))))
    (list_part (λ b. nat_lt b 256) n (drop low s) (list_rest (λ b. nat_lt b 256) low s h1.0))
    (lt-ltb (length (take n (drop low s))) 9223372036854775808 (omega (arith, take_long n (drop low s), drop_long low s, few)))

-- ---- slices

pub lies_small : (σ : Shelf) (u : Type') (row start n c : ℕ) → Lies σ u row start n c → (n ≤ most_room) × (c ≤ most_room)
lies_small σ u zero start n c h = (omega (arith, h.1), omega (arith, h.2))
lies_small σ u (suc row) start n c h = (omega (arith, h.2, h.3, h.4), omega (arith, h.3, h.4))

lies_cut : (σ : Shelf) (u : Type') (row start n c x y : ℕ) → x ≤ y → y ≤ c → Lies σ u row start n c → Lies σ u row (start + x) (y - x) (c - x)
lies_cut σ u zero start n c x y k l h = (omega (arith, h.0, h.2, k, l), omega (arith, h.2, k, l), omega (arith, h.2, k, l))
lies_cut σ u (suc row) start n c x y k l h = (h.0, h.1, omega (arith, k, l), omega (arith, h.3, k, l), h.4)

-- ---- by a shelf

module _ (σ : Shelf) where
  joined_is : (s t : List ℕ) → is_text s ≡ true → is_text t ≡ true → Fine (λ c. Of σ (basic basics.String) (single c)) (concatenated_text s t)
  joined_is s t h k = by_test (nat_le (length s + length t) operators.most_bytes) refl
    where
      by_test : (b : Bool) → nat_le (length s + length t) operators.most_bytes ≡ b → Fine (λ c. Of σ (basic basics.String) (single c)) (if b then operators.Gives (Text (s ++ t)) else operators.Panics Long)
      by_test true e = (refl, joined_text s t h k e, tt)
      by_test false e = tt

  byte_is : (s : List ℕ) (n : ℕ) (o : Option ℕ) → list_all (λ b. nat_lt b 256) s ≡ true → slice_get s n ≡ o → Fine (λ c. Of σ byte (single c)) (byte_of o)
  byte_is s n None h e = tt
  byte_is [] n (Some b) h e = absurd (cc)
  byte_is (c ∷ s) zero (Some b) h e =
      let h1 = both_true (nat_lt c 256) (list_all (λ b. nat_lt b 256) s) h in
      let same : c ≡ b = cc in
      (subst (λ x. nat_lt x 256 ≡ true) same h1.0, refl, tt)
  byte_is (c ∷ s) (suc n) (Some b) h e = byte_is s n (Some b) (both_true (nat_lt c 256) (list_all (λ b. nat_lt b 256) s) h).1 e

  byte_at_is : (s : List ℕ) (z : ℤ) → is_text s ≡ true → Fine (λ c. Of σ byte (single c)) (byte_at s z)
  byte_at_is s (pos n) h = byte_is s n (slice_get s n) (both_true (list_all (λ b. nat_lt b 256) s) (fits (Some integers.Int) (pos (length s))) h).0 refl
  byte_at_is s (negsuc n) h = tt

  -- ---- arithmetic

  calculated_is : (op : ArithmeticOperator) (i : IntKind) (x y : ℤ) → Fine (λ c. Of σ (basic (basics.Integer i)) (single c)) (calculated op i x y)
  calculated_is op i x y = by_test (divides op && int_eq y (pos 0))
    where
      by_test : (b : Bool) → Fine (λ c. Of σ (basic (basics.Integer i)) (single c)) (if b then operators.Panics Divide_by_zero else operators.Gives (Int (wrapped i (computed op x y))))
      by_test true = tt
      by_test false = (wrapped_fits i (computed op x y), refl, tt)

  shifted_is : (op : ShiftOperator) (i : IntKind) (x y : ℤ) → Fine (λ c. Of σ (basic (basics.Integer i)) (single c)) (shifted_integer op i x y)
  shifted_is op i x (negsuc n) = tt
  shifted_is Left i x (pos n) = (wrapped_fits i _, refl, tt)
  shifted_is Right i x (pos n) = (wrapped_fits i _, refl, tt)

  abbrev Gives_of : Type' → Operator → Value → Value → Type' → Type 0
  Gives_of s op x y t = Fine (Of σ t) (operated (binary_operators s op) (x ∷ y ∷ []))

  numbers_summed : (op : ArithmeticOperator) (s : Type') (x y : Value) → IsNumber s x → IsNumber s y → Gives_of s (arithmetic op) x y s
  numbers_summed op s x y (number i z es ex f) (number j u et ey g) =
      let c = calculated_is op i z u in
      let all : Gives_of (basic (basics.Integer i)) (arithmetic op) (single (Int z)) (single (Int u)) (basic (basics.Integer i)) =
      fine_then (λ c. Of σ (basic (basics.Integer i)) (single c)) (Of σ (basic (basics.Integer i))) (calculated op i z u) (λ c. operated [] (single c ∷ [])) c (λ c h. h)
      in
      subst (λ t. Gives_of t (arithmetic op) x y t) (sym es) (subst (λ v. Gives_of (basic (basics.Integer i)) (arithmetic op) v y (basic (basics.Integer i))) (sym ex)
      (subst (λ v. Gives_of (basic (basics.Integer i)) (arithmetic op) (single (Int z)) v (basic (basics.Integer i))) (sym ey) all))

  texts_joined : (s : Type') (x y : Value) → IsString s x → IsString s y → Gives_of s (arithmetic Add) x y s
  texts_joined s x y (text a es ex f) (text b et ey g) =
      let all : Gives_of (basic basics.String) (arithmetic Add) (single (Text a)) (single (Text b)) (basic basics.String) =
      fine_then (λ c. Of σ (basic basics.String) (single c)) (Of σ (basic basics.String)) (concatenated_text a b) (λ c. operated [] (single c ∷ [])) (joined_is a b f g) (λ c h. h)
      in
      subst (λ t. Gives_of t (arithmetic Add) x y t) (sym es) (subst (λ v. Gives_of (basic basics.String) (arithmetic Add) v y (basic basics.String)) (sym ex)
      (subst (λ v. Gives_of (basic basics.String) (arithmetic Add) (single (Text a)) v (basic basics.String)) (sym ey) all))

  sum_is : (op : ArithmeticOperator) (s : Type') (x y : Value) → is_sum op s ≡ true → Of σ s x → Of σ s y → Gives_of s (arithmetic op) x y s
  sum_is Add s x y e h k = elim (either_true (is_integer_type s) (is_string_type s) e) [
    | inl a ↦ numbers_summed Add s x y (integer_value σ s x a h) (integer_value σ s y a k)
    | inr b ↦ texts_joined s x y (string_value σ s x b h) (string_value σ s y b k)
  ]
  sum_is Subtract s x y e h k = numbers_summed Subtract s x y (integer_value σ s x e h) (integer_value σ s y e k)
  sum_is Multiply s x y e h k = numbers_summed Multiply s x y (integer_value σ s x e h) (integer_value σ s y e k)
  sum_is Divide s x y e h k = numbers_summed Divide s x y (integer_value σ s x e h) (integer_value σ s y e k)
  sum_is Remainder s x y e h k = numbers_summed Remainder s x y (integer_value σ s x e h) (integer_value σ s y e k)
  sum_is BitAnd s x y e h k = numbers_summed BitAnd s x y (integer_value σ s x e h) (integer_value σ s y e k)
  sum_is BitOr s x y e h k = numbers_summed BitOr s x y (integer_value σ s x e h) (integer_value σ s y e k)
  sum_is BitXor s x y e h k = numbers_summed BitXor s x y (integer_value σ s x e h) (integer_value σ s y e k)
  sum_is AndNot s x y e h k = numbers_summed AndNot s x y (integer_value σ s x e h) (integer_value σ s y e k)

  shift_is : (op : ShiftOperator) (s u : Type') (x y : Value) → IsNumber s x → IsNumber u y → Gives_of s (shift op) x y s
  shift_is op s u x y (number i z es ex f) (number j w et ey g) =
      let all : Gives_of (basic (basics.Integer i)) (shift op) (single (Int z)) (single (Int w)) (basic (basics.Integer i)) =
      fine_then (λ c. Of σ (basic (basics.Integer i)) (single c)) (Of σ (basic (basics.Integer i))) (shifted_integer op i z w) (λ c. operated [] (single c ∷ [])) (shifted_is op i z w) (λ c h. h)
      in
      subst (λ t. Gives_of t (shift op) x y t) (sym es) (subst (λ v. Gives_of (basic (basics.Integer i)) (shift op) v y (basic (basics.Integer i))) (sym ex)
      (subst (λ v. Gives_of (basic (basics.Integer i)) (shift op) (single (Int z)) v (basic (basics.Integer i))) (sym ey) all))

  -- ---- comparisons give a truth value

  abbrev pub Compares : Type' → ComparisonOperator → Value → Value → Type 0
  Compares s op x y = Fine IsTruth (operated (binary_operators s (comparison op)) (x ∷ y ∷ []))

  two_long : (s : Type') (x y : Value) → Of σ s x → Of σ s y → nat_eq (length (flat x ++ (flat y ++ []))) (cells s + cells s) ≡ true
  two_long s x y h k =
      number_same _ _ (length-append (flat x) (flat y ++ []) ∙ (let a = flat_long s x h.0 in let b = flat_long s y k.0 in let c = ap length (append-nil (flat y)) in omega (arith, a, b, c)))

  pub equal_is : (s : Type') (x y : Value) → Of σ s x → Of σ s y → Compares s Equal x y
  equal_is s x y h k = rw (two_long s x y h k) (_, refl)

  unequal_is : (s : Type') (x y : Value) → Of σ s x → Of σ s y → Compares s NotEqual x y
  unequal_is s x y h k = rw (two_long s x y h k) (_, refl)

  numbers_ordered : (op : ComparisonOperator) (s : Type') (x y : Value) → is_order op ≡ true → IsNumber s x → IsNumber s y → Compares s op x y
  numbers_ordered op s x y o (number i z es ex f) (number j u et ey g) =
      subst (λ v. Compares s op v y) (sym ex) (subst (λ v. Compares s op (single (Int z)) v) (sym ey) (each op o))
    where
      each : (op : ComparisonOperator) → is_order op ≡ true → Compares s op (single (Int z)) (single (Int u))
      each Equal o = absurd (cc)
      each NotEqual o = absurd (cc)
      each Less o = (_, refl)
      each LessOrEqual o = (_, refl)
      each Greater o = (_, refl)
      each GreaterOrEqual o = (_, refl)

  texts_ordered : (op : ComparisonOperator) (s : Type') (x y : Value) → is_order op ≡ true → IsString s x → IsString s y → Compares s op x y
  texts_ordered op s x y o (text a es ex f) (text b et ey g) =
      subst (λ v. Compares s op v y) (sym ex) (subst (λ v. Compares s op (single (Text a)) v) (sym ey) (each op o))
    where
      each : (op : ComparisonOperator) → is_order op ≡ true → Compares s op (single (Text a)) (single (Text b))
      each Equal o = absurd (cc)
      each NotEqual o = absurd (cc)
      each Less o = (_, refl)
      each LessOrEqual o = (_, refl)
      each Greater o = (_, refl)
      each GreaterOrEqual o = (_, refl)

  ordered : (op : ComparisonOperator) (s : Type') (x y : Value) → is_order op ≡ true → (is_integer_type s || is_string_type s) ≡ true → Of σ s x → Of σ s y → Compares s op x y
  ordered op s x y o e h k = elim (either_true (is_integer_type s) (is_string_type s) e) [
    | inl a ↦ numbers_ordered op s x y o (integer_value σ s x a h) (integer_value σ s y a k)
    | inr b ↦ texts_ordered op s x y o (string_value σ s x b h) (string_value σ s y b k)
  ]

  pub compared_is : (op : ComparisonOperator) (s : Type') (x y : Value) → is_compared op s ≡ true → Of σ s x → Of σ s y → Compares s op x y
  compared_is Equal s x y e h k = equal_is s x y h k
  compared_is NotEqual s x y e h k = unequal_is s x y h k
  compared_is Less s x y e h k = ordered Less s x y refl e h k
  compared_is LessOrEqual s x y e h k = ordered LessOrEqual s x y refl e h k
  compared_is Greater s x y e h k = ordered Greater s x y refl e h k
  compared_is GreaterOrEqual s x y e h k = ordered GreaterOrEqual s x y refl e h k

  -- a truth value of a type of such
  truth_of : (t : Type') (o : Operated Value) → is_bool_type (underlying t) ≡ true → Fine IsTruth o → Fine (Of σ t) o
  truth_of t (operators.Gives v) e h = subst (λ u. Of σ t u) (sym h.1) (by_underlying σ t (single (Truth h.0)) (truth_is σ (underlying t) h.0 e))
  truth_of t (operators.Panics kind) e h = tt
  truth_of t operators.Senseless e h = absurd h

  -- ---- all operators of two operands

  pub operation_is : (op : Operator) (t a b : Type') (x y : Value) → IsOperation op t a b → Of σ a x → Of σ b y → Fine (Of σ t) (operated (binary_operators (underlying a) op) (x ∷ y ∷ []))
  operation_is (arithmetic op) t a b x y e h k =
      let hx : Of σ t x = subst (λ u. Of σ u x) e.0 h in
      let hy : Of σ t y = subst (λ u. Of σ u y) e.1 k in
      subst (λ u. Fine (Of σ t) (operated (binary_operators (underlying u) (arithmetic op)) (x ∷ y ∷ []))) (sym e.0)
      (fine_under σ t _ (sum_is op (underlying t) x y e.2 (of_underlying σ t x hx) (of_underlying σ t y hy)))
  operation_is (shift op) t a b x y e h k =
      let hx : Of σ t x = subst (λ u. Of σ u x) e.0 h in
      subst (λ u. Fine (Of σ t) (operated (binary_operators (underlying u) (shift op)) (x ∷ y ∷ []))) (sym e.0)
      (fine_under σ t _ (shift_is op (underlying t) (underlying b) x y (integer_value σ (underlying t) x e.1 (of_underlying σ t x hx)) (integer_value σ (underlying b) y e.2 (of_underlying σ b y k))))
  operation_is (comparison op) t a b x y e h k =
      let hy : Of σ a y = subst (λ u. Of σ u y) (sym e.1) k in
      truth_of t _ e.0 (compared_is op (underlying a) x y e.2 (of_underlying σ a x h) (of_underlying σ a y hy))

  -- ---- conversions

  converts_number : (s u : Type') (v : Value) → IsNumber s v → is_integer_type u ≡ true → Fine (Of σ u) (operated (conversion_operators u) (v ∷ []))
  converts_number s (basic (basics.Integer j)) v (number i z es ev f) e =
      subst (λ w. Fine (Of σ (basic (basics.Integer j))) (operated (conversion_operators (basic (basics.Integer j))) (w ∷ []))) (sym ev) (wrapped_fits j z, refl, tt)
  converts_number s (basic basics.Bool) v n e = absurd (cc)
  converts_number s (basic basics.String) v n e = absurd (cc)
  converts_number s (basic (basics.Untyped k)) v n e = absurd (cc)
  converts_number s (array n t) v m e = absurd (cc)
  converts_number s (slice t) v m e = absurd (cc)
  converts_number s (struct fs) v n e = absurd (cc)
  converts_number s (named p x t) v n e = absurd (cc)

  converts_same : (u : Type') (v : Value) → Of σ u v → Fine (Of σ u) (operated (conversion_operators u) (v ∷ []))
  converts_same (basic (basics.Integer j)) v h = converts_number (basic (basics.Integer j)) (basic (basics.Integer j)) v (integer_value σ (basic (basics.Integer j)) v refl h) refl
  converts_same (basic basics.Bool) v h = h
  converts_same (basic basics.String) v h = h
  converts_same (basic (basics.Untyped k)) v h = h
  converts_same (array n t) v h = h
  converts_same (slice t) v h = h
  converts_same (struct fs) v h = h
  converts_same (named p x t) v h = h

  converts_truth : (u : Type') (v : Value) → IsTruth v → is_bool_type u ≡ true → Fine (Of σ u) (operated (conversion_operators u) (v ∷ []))
  converts_truth u v h e = subst (λ w. Fine (Of σ u) (operated (conversion_operators u) (w ∷ []))) (sym h.1) (converts_same u (single (Truth h.0)) (truth_is σ u h.0 e))

  pub conversion_is : (t u : Type') (v : Value) → Converts (underlying t) (underlying u) → Of σ t v → Fine (Of σ u) (operated (conversion_operators (underlying u)) (v ∷ []))
  conversion_is t u v c h = fine_under σ u _ (elim c [
    | inl same ↦ converts_same (underlying u) v (subst (λ s. Of σ s v) same (of_underlying σ t v h))
    | inr rest ↦ elim rest [
      | inl both ↦ converts_number (underlying t) (underlying u) v (integer_value σ (underlying t) v both.0 (of_underlying σ t v h)) both.1
      | inr both ↦ converts_truth (underlying u) v (bool_value σ (underlying t) v both.0 (of_underlying σ t v h)) both.1
    ]
  ])

  -- ---- indexes and lengths

  element_is : (n : ℕ) (t : Type') (v : Value) (z : ℤ) → Of σ (array n t) v → Fine (Of σ t) (part_of v (to_element z))
  element_is n t v z h = weaker (part_of v (to_element z)) (one_step σ (array n t) v (to_element z) t h refl)
    where
      weaker : (o : Operated Value) → Fine (PartOf σ (array n t) v (to_element z) t) o → Fine (Of σ t) o
      weaker (operators.Gives x) h = h.0
      weaker (operators.Panics kind) h = tt
      weaker operators.Senseless h = absurd h

  byte_of_is : (v : Value) (z : ℤ) → IsString (basic basics.String) v → Fine (Of σ byte) (indexed (basic basics.String) v (single (Int z)))
  byte_of_is v z (text s es ev f) =
      subst (λ w. Fine (Of σ byte) (indexed (basic basics.String) w (single (Int z)))) (sym ev)
      (fine_then (λ c. Of σ byte (single c)) (Of σ byte) (byte_at s z) (λ c. operated [] (single c ∷ [])) (byte_at_is s z f) (λ c h. h))

  indexed_at : (s t : Type') (v : Value) (z : ℤ) → is_slice s ≡ false → index_result_type s ≡ Some t → Of σ s v → Fine (Of σ t) (indexed s v (single (Int z)))
  indexed_at (array n u) t v z other e h = subst (λ w. Fine (Of σ w) (part_of v (to_element z))) (let same : u ≡ t = cc in same) (element_is n u v z h)
  indexed_at (basic basics.String) t v z other e h =
      subst (λ w. Fine (Of σ w) (indexed (basic basics.String) v (single (Int z)))) (let same : byte ≡ t = cc in same) (byte_of_is v z (string_value σ (basic basics.String) v refl h))
  indexed_at (basic basics.Bool) t v z other e h = absurd (cc)
  indexed_at (basic (basics.Integer i)) t v z other e h = absurd (cc)
  indexed_at (basic (basics.Untyped k)) t v z other e h = absurd (cc)
  indexed_at (slice u) t v z other e h = absurd (cc)
  indexed_at (struct fs) t v z other e h = absurd (cc)
  indexed_at (named p x u) t v z other e h = absurd (cc)

  -- of what isn't a slice
  pub indexed_is : (s t i : Type') (v j : Value) → is_slice s ≡ false → index_result_type s ≡ Some t → is_integer_type (underlying i) ≡ true → Of σ s v → Of σ i j → Fine (Of σ t) (indexed s v j)
  indexed_is s t i v j other e k h g = by_number (integer_value σ (underlying i) j k (of_underlying σ i j g))
    where
      by_number : IsNumber (underlying i) j → Fine (Of σ t) (indexed s v j)
      by_number (number kind z es ej f) = subst (λ w. Fine (Of σ t) (indexed s v w)) (sym ej) (indexed_at s t v z other e h)

  -- of so many elements of a slice
  pub element_found : (n : ℕ) (t i : Type') (whole j : Value) → is_integer_type (underlying i) ≡ true → Of σ (array n t) whole → Of σ i j → Fine (Of σ t) (indexed (slice t) whole j)
  element_found n t i whole j k h g = by_number (integer_value σ (underlying i) j k (of_underlying σ i j g))
    where
      by_number : IsNumber (underlying i) j → Fine (Of σ t) (indexed (slice t) whole j)
      by_number (number kind z es ej f) = subst (λ w. Fine (Of σ t) (indexed (slice t) whole w)) (sym ej) (element_is n t whole z h)

  -- ---- lengths and capacities

  int_is : (n : ℕ) → n ≤ most_room → Of σ int_type (single (Int (pos n)))
  unfolding Rattle.go_code.specs.Rows.most_room
  int_is n small = (lt-ltb n 9223372036854775808 (omega (arith, small)), refl, tt)

  text_long : (v : Value) (s : Type') → IsString s v → Fine (Of σ int_type) (operated (length_operators s) (v ∷ []))
  text_long v s (text bytes es ev f) =
      subst (λ t. Fine (Of σ int_type) (operated (length_operators t) (v ∷ []))) (sym es)
      (subst (λ w. Fine (Of σ int_type) (operated (length_operators (basic basics.String)) (w ∷ []))) (sym ev)
      ((both_true (list_all (λ b. nat_lt b 256) bytes) (fits (Some integers.Int) (pos (length bytes))) f).1, refl, tt))

  slice_long : (v : Value) (s : Type') → IsSlice σ s v → Fine (Of σ int_type) (operated (length_operators s) (v ∷ []))
  slice_long v s (piece u row start n c es ev lies) =
      subst (λ t. Fine (Of σ int_type) (operated (length_operators t) (v ∷ []))) (sym es)
      (subst (λ w. Fine (Of σ int_type) (operated (length_operators (slice u)) (w ∷ []))) (sym ev) (int_is n (lies_small σ u row start n c lies).0))

  pub length_is : (s : Type') (v : Value) → (is_string_type (underlying s) || is_slice (underlying s)) ≡ true → Of σ s v → Fine (Of σ int_type) (operated (length_operators (underlying s)) (v ∷ []))
  length_is s v e h = elim (either_true (is_string_type (underlying s)) (is_slice (underlying s)) e) [
    | inl a ↦ text_long v (underlying s) (string_value σ (underlying s) v a (of_underlying σ s v h))
    | inr b ↦ slice_long v (underlying s) (slice_value σ (underlying s) v b (of_underlying σ s v h))
  ]

  slice_room : (v : Value) (s : Type') → IsSlice σ s v → Fine (Of σ int_type) (operated capacity_operators (v ∷ []))
  slice_room v s (piece u row start n c es ev lies) =
      subst (λ w. Fine (Of σ int_type) (operated capacity_operators (w ∷ []))) (sym ev) (int_is c (lies_small σ u row start n c lies).1)

  pub capacity_is : (s : Type') (v : Value) → is_slice (underlying s) ≡ true → Of σ s v → Fine (Of σ int_type) (operated capacity_operators (v ∷ []))
  capacity_is s v e h = slice_room v (underlying s) (slice_value σ (underlying s) v e (of_underlying σ s v h))

  -- ---- cuts

  cut_text : (bytes : List ℕ) (x y : ℤ) → is_text bytes ≡ true → Fine (λ c. Of σ (basic basics.String) (single c)) (bounded (length bytes) x y (λ low high. Text (take (high - low) (drop low bytes))))
  cut_text bytes (negsuc x) (pos y) h = tt
  cut_text bytes (negsuc x) (negsuc y) h = tt
  cut_text bytes (pos x) (negsuc y) h = tt
  cut_text bytes (pos x) (pos y) h = by_test (nat_le x y && nat_le y (length bytes)) refl
    where
      by_test : (b : Bool) → (nat_le x y && nat_le y (length bytes)) ≡ b → Fine (λ c. Of σ (basic basics.String) (single c)) (if b then operators.Gives (Text (take (y - x) (drop x bytes))) else operators.Panics Bounds)
      by_test true e = (refl, part_text bytes x (y - x) h, tt)
      by_test false e = tt

  cut_slice : (u : Type') (row start n c : ℕ) (x y : ℤ) → Lies σ u row start n c → Fine (λ d. Of σ (slice u) (single d)) (bounded c x y (λ low high. Slice row (start + low) (high - low) (c - low)))
  cut_slice u row start n c (negsuc x) (pos y) lies = tt
  cut_slice u row start n c (negsuc x) (negsuc y) lies = tt
  cut_slice u row start n c (pos x) (negsuc y) lies = tt
  cut_slice u row start n c (pos x) (pos y) lies = by_test (nat_le x y && nat_le y c) refl
    where
      by_test : (b : Bool) → (nat_le x y && nat_le y c) ≡ b → Fine (λ d. Of σ (slice u) (single d)) (if b then operators.Gives (Slice row (start + x) (y - x) (c - x)) else operators.Panics Bounds)
      by_test true e =
          let both = both_true (nat_le x y) (nat_le y c) e in
          (refl, refl, lies_cut σ u row start n c x y (leb-true x y both.0) (leb-true y c both.1) lies)
      by_test false e = tt

  text_cut : (s : Type') (v : Value) (x y : ℤ) → IsString s v → Fine (Of σ s) (operated (cut_operators s) (v ∷ single (Int x) ∷ single (Int y) ∷ []))
  text_cut s v x y (text bytes es ev f) =
      let all : Fine (Of σ (basic basics.String)) (operated (cut_operators (basic basics.String)) (single (Text bytes) ∷ single (Int x) ∷ single (Int y) ∷ [])) =
      fine_then (λ c. Of σ (basic basics.String) (single c)) (Of σ (basic basics.String)) (bounded (length bytes) x y (λ low high. Text (take (high - low) (drop low bytes)))) (λ c. operated [] (single c ∷ [])) (cut_text bytes x y f) (λ c h. h)
      in
      subst (λ t. Fine (Of σ t) (operated (cut_operators t) (v ∷ single (Int x) ∷ single (Int y) ∷ []))) (sym es)
      (subst (λ w. Fine (Of σ (basic basics.String)) (operated (cut_operators (basic basics.String)) (w ∷ single (Int x) ∷ single (Int y) ∷ []))) (sym ev) all)

  slice_cut : (s : Type') (v : Value) (x y : ℤ) → IsSlice σ s v → Fine (Of σ s) (operated (cut_operators s) (v ∷ single (Int x) ∷ single (Int y) ∷ []))
  slice_cut s v x y (piece u row start n c es ev lies) =
      let all : Fine (Of σ (slice u)) (operated (cut_operators (slice u)) (single (Slice row start n c) ∷ single (Int x) ∷ single (Int y) ∷ [])) =
      fine_then (λ d. Of σ (slice u) (single d)) (Of σ (slice u)) (bounded c x y (λ low high. Slice row (start + low) (high - low) (c - low))) (λ d. operated [] (single d ∷ [])) (cut_slice u row start n c x y lies) (λ d h. h)
      in
      subst (λ t. Fine (Of σ t) (operated (cut_operators t) (v ∷ single (Int x) ∷ single (Int y) ∷ []))) (sym es)
      (subst (λ w. Fine (Of σ (slice u)) (operated (cut_operators (slice u)) (w ∷ single (Int x) ∷ single (Int y) ∷ []))) (sym ev) all)

  cut_numbers : (s i j : Type') (v x y : Value) → (is_string_type s || is_slice s) ≡ true → Of σ s v → IsNumber i x → IsNumber j y → Fine (Of σ s) (operated (cut_operators s) (v ∷ x ∷ y ∷ []))
  cut_numbers s i j v x y e h (number ki a ei ea fa) (number kj b ej eb fb) =
      subst (λ w. Fine (Of σ s) (operated (cut_operators s) (v ∷ w ∷ y ∷ []))) (sym ea)
      (subst (λ w. Fine (Of σ s) (operated (cut_operators s) (v ∷ single (Int a) ∷ w ∷ []))) (sym eb)
      (elim (either_true (is_string_type s) (is_slice s) e) [
        | inl is ↦ text_cut s v a b (string_value σ s v is h)
        | inr is ↦ slice_cut s v a b (slice_value σ s v is h)
      ]))

  celled : (s : Type') (v : Value) → IsString s v → (c : Cell) × (v ≡ single c)
  celled s v (text bytes es ev f) = (Text bytes, ev)

  sliced_cell : (s : Type') (v : Value) → IsSlice σ s v → (c : Cell) × (v ≡ single c)
  sliced_cell s v (piece u row start n c es ev lies) = (Slice row start n c, ev)

  -- what is cut is one cell
  pub one_cell : (s : Type') (v : Value) → (is_string_type s || is_slice s) ≡ true → Of σ s v → (c : Cell) × (v ≡ single c)
  one_cell s v e h = elim (either_true (is_string_type s) (is_slice s) e) [
    | inl a ↦ celled s v (string_value σ s v a h)
    | inr b ↦ sliced_cell s v (slice_value σ s v b h)
  ]

  -- bounds are numbers of any integer types
  pub cut_is : (t i j : Type') (v x y : Value) → (is_string_type (underlying t) || is_slice (underlying t)) ≡ true → is_integer_type (underlying i) ≡ true → is_integer_type (underlying j) ≡ true → Of σ t v → Of σ i x → Of σ j y → Fine (Of σ t) (operated (cut_operators (underlying t)) (v ∷ x ∷ y ∷ []))
  cut_is t i j v x y e k l h hx hy =
      fine_under σ t _ (cut_numbers (underlying t) (underlying i) (underlying j) v x y e (of_underlying σ t v h)
      (integer_value σ (underlying i) x k (of_underlying σ i x hx)) (integer_value σ (underlying j) y l (of_underlying σ j y hy)))
