-- How a row of cells stands for the elements of an array: what is read and put there, what is appended, and what is zero.
use Rattle.std.proofs.Common.{◌≡◌, ℕ, zero, suc, ◌+◌, ◌*◌, ◌≤◌, Bool, true, false, ◌&&◌, nat_le, nat_eq, List, [], ◌∷◌, ◌++◌, length, map, take, drop, replicate, Some, None, refl, sym, ap, ◌∙◌, subst, arith, length-append, append_assoc}
use Rattle.std.specs.Prelude.{if◌then◌else◌, slice_set}
use Rattle.std.specs.List.{flat_map, list_all, repeat}
use Rattle.std.proofs.lemmas.Bool.{le-leb, eqb-true}
use Rattle.std.proofs.lemmas.Grind.{flat_map-append}
use Rattle.std.proofs.lemmas.List.{map-append}
use Rattle.std.proofs.Math.Seq.{take-append_seam, drop-append_seam, drop-append-add}
use Rattle.go_types.specs.declared.types.Basic.{Basic}
use Rattle.go_types.specs.declared.types.Basic.TheVariants as basics
use Rattle.go_types.specs.declared.types.Untyped.TheVariants as kinds
use Rattle.go_types.specs.Types.{Type', basic, array, slice, struct, named, Fields, no_fields, field}
use Rattle.go_code.specs.declared.cell.Cell.{Cell}
use Rattle.go_code.specs.declared.cell.Cell.TheVariants.{Int, Bool as Truth, Text, Slice}
use Rattle.go_code.specs.Accesses.{cells_at, cells_with}
use Rattle.go_code.specs.Rows.{row_of, zero_like}
use Rattle.go_meaning.specs.Values.{Value, single, parts, Values, no_values, some_values, pack_values, unpack, flat, flat_all, is_of, are_of_fields, is_basic, zero_of, zeros_of, zero_cell}
use Rattle.go_meaning.specs.Meaning.{overwritten}

-- ---- rows of cells

pub if_true : {A : Type 0} (b : Bool) (x y : A) → b ≡ true → (if b then x else y) ≡ x
if_true b x y e = ap (λ v. if v then x else y) e

pub read_row : (front row back : List Cell) (place count : ℕ) → length front ≡ place → length row ≡ count → cells_at (front ++ (row ++ back)) place count ≡ Some row
read_row front row back place count p c =
    let all : List Cell = front ++ (row ++ back) in
    let within : place + count ≤ length all = omega (arith, p, c, length-append front (row ++ back), length-append row back) in
    if_true (nat_le (place + count) (length all)) _ None (le-leb _ _ within)
    ∙ ap (λ n. Some (take count (drop n all))) (sym p)
    ∙ ap (λ l. Some (take count l)) (drop-append_seam front (row ++ back))
    ∙ ap (λ n. Some (take n (row ++ back))) (sym c)
    ∙ ap Some (take-append_seam row back)

pub write_row : (front old new back : List Cell) (place : ℕ) → length front ≡ place → length new ≡ length old → cells_with (front ++ (old ++ back)) place new ≡ Some (front ++ (new ++ back))
write_row front old new back place p c =
    let all : List Cell = front ++ (old ++ back) in
    let within : place + length new ≤ length all = omega (arith, p, c, length-append front (old ++ back), length-append old back) in
    if_true (nat_le (place + length new) (length all)) _ None (le-leb _ _ within)
    ∙ ap (λ n. Some ((take n all ++ new) ++ drop (n + length new) all)) (sym p)
    ∙ ap (λ l. Some ((l ++ new) ++ drop (length front + length new) all)) (take-append_seam front (old ++ back))
    ∙ ap (λ n. Some ((front ++ new) ++ drop (length front + n) all)) c
    ∙ ap (λ l. Some ((front ++ new) ++ l)) (drop-append-add front (old ++ back) (length old) ∙ drop-append_seam old back)
    ∙ ap Some (append_assoc front new back)

-- ---- all rows

-- the rows that stand for arrays
abbrev pub row : List Value → List Cell
row vs = flat_map flat vs

abbrev pub rows : List (List Value) → List (List Cell)
rows arrays = map row arrays

pub row_at : (arrays : List (List Value)) (n : ℕ) → row_of (rows arrays) n ≡ row (row_of arrays n)
row_at [] n = refl
row_at (vs ∷ arrays) zero = refl
row_at (vs ∷ arrays) (suc n) = row_at arrays n

pub rows_set : (arrays : List (List Value)) (n : ℕ) (vs : List Value) → slice_set (rows arrays) n (row vs) ≡ rows (slice_set arrays n vs)
rows_set [] n vs = refl
rows_set (x ∷ arrays) zero vs = refl
rows_set (x ∷ arrays) (suc n) vs = ap (λ l. row x ∷ l) (rows_set arrays n vs)

pub rows_more : (arrays : List (List Value)) (vs : List Value) → rows arrays ++ row vs ∷ [] ≡ rows (arrays ++ vs ∷ [])
rows_more arrays vs = sym (map-append row arrays (vs ∷ []))

assoc_inside : (a b c d e : List Cell) → a ++ ((b ++ (c ++ d)) ++ e) ≡ (a ++ b) ++ (c ++ (d ++ e))
assoc_inside a b c d e = simp append_assoc

-- ---- elements of one size

both_true : (p q : Bool) → (p && q) ≡ true → (p ≡ true) × (q ≡ true)
both_true true q e = (refl, e)
both_true false q e = cc

pub row_long : (t : Type') (k : ℕ) (long : (v : Value) → is_of t v ≡ true → length (flat v) ≡ k) (vs : List Value) → list_all (is_of t) vs ≡ true → length (row vs) ≡ length vs * k
row_long t k long [] e = omega arith
row_long t k long (v ∷ vs) e =
    let h = both_true (is_of t v) (list_all (is_of t) vs) e in
    let one = long v h.0 in
    let rest = row_long t k long vs h.1 in
    omega (arith, length-append (flat v) (row vs), one, rest)

-- an array before, at and behind some of its elements
pub record Split (vs : List Value) (place count : ℕ) : Type 0 where
  pub before : List Value
  pub middle : List Value
  pub after : List Value
  pub is : vs ≡ before ++ (middle ++ after)
  pub place_is : length before ≡ place
  pub count_is : length middle ≡ count

split_next : (v : Value) (vs : List Value) (place count : ℕ) → Split vs place count → Split (v ∷ vs) (suc place) count
split_next v vs place count s = record { before = v ∷ s.before; middle = s.middle; after = s.after; is = ap (λ l. v ∷ l) s.is; place_is = ap suc s.place_is; count_is = s.count_is }

split_more : (v : Value) (vs : List Value) (count : ℕ) → Split vs zero count → Split (v ∷ vs) zero (suc count)
split_more v vs count s = by_before s.before s.is s.place_is
  where
    by_before : (before : List Value) → vs ≡ before ++ (s.middle ++ s.after) → length before ≡ zero → Split (v ∷ vs) zero (suc count)
    by_before [] is e = record { before = []; middle = v ∷ s.middle; after = s.after; is = ap (λ l. v ∷ l) is; place_is = refl; count_is = ap suc s.count_is }
    by_before (x ∷ xs) is e = cc

pub split : (vs : List Value) (place count : ℕ) → place + count ≤ length vs → Split vs place count
split vs zero zero le = record { before = []; middle = []; after = vs; is = refl; place_is = refl; count_is = refl }
split [] zero (suc count) le = absurd (omega (arith, le))
split [] (suc place) count le = absurd (omega (arith, le))
split (v ∷ vs) zero (suc count) le = split_more v vs count (split vs zero count (omega (arith, le)))
split (v ∷ vs) (suc place) count le = split_next v vs place count (split vs place count (omega (arith, le)))

module _ (t : Type') (k : ℕ) (long : (v : Value) → is_of t v ≡ true → length (flat v) ≡ k) where
  row_parts : (before middle after : List Value) → row (before ++ (middle ++ after)) ≡ row before ++ (row middle ++ row after)
  row_parts before middle after = flat_map-append flat before (middle ++ after) ∙ ap (λ l. row before ++ l) (flat_map-append flat middle after)

  all_parts : (xs ys : List Value) → list_all (is_of t) (xs ++ ys) ≡ true → (list_all (is_of t) xs ≡ true) × (list_all (is_of t) ys ≡ true)
  all_parts [] ys e = (refl, e)
  all_parts (x ∷ xs) ys e =
      let h = both_true (is_of t x) (list_all (is_of t) (xs ++ ys)) e in
      let r = all_parts xs ys h.1 in
      (subst (λ b. (b && list_all (is_of t) xs) ≡ true) (sym h.0) r.0, r.1)

  middle_of : (before middle after : List Value) → take (length middle) (drop (length before) (before ++ (middle ++ after))) ≡ middle
  middle_of before middle after = ap (take (length middle)) (drop-append_seam before (middle ++ after)) ∙ take-append_seam middle after

  -- the cells of some elements, by their place and number
  pub elements_read : (vs : List Value) (place count : ℕ) → list_all (is_of t) vs ≡ true → place + count ≤ length vs → cells_at (row vs) (place * k) (count * k) ≡ Some (row (take count (drop place vs)))
  elements_read vs place count all le =
      let s = split vs place count le in
      let whole = subst (λ l. list_all (is_of t) l ≡ true) s.is all in
      let front = all_parts s.before (s.middle ++ s.after) whole in
      let here = all_parts s.middle s.after front.1 in
      let at : length (row s.before) ≡ place * k = row_long t k long s.before front.0 ∙ ap (λ n. n * k) s.place_is in
      let size : length (row s.middle) ≡ count * k = row_long t k long s.middle here.0 ∙ ap (λ n. n * k) s.count_is in
      let found : take count (drop place vs) ≡ s.middle =
      ap (λ l. take count (drop place l)) s.is ∙ ap (λ n. take n (drop place (s.before ++ (s.middle ++ s.after)))) (sym s.count_is)
      ∙ ap (λ n. take (length s.middle) (drop n (s.before ++ (s.middle ++ s.after)))) (sym s.place_is) ∙ middle_of s.before s.middle s.after in
      ap (λ l. cells_at l (place * k) (count * k)) (ap row s.is ∙ row_parts s.before s.middle s.after)
      ∙ read_row (row s.before) (row s.middle) (row s.after) (place * k) (count * k) at size
      ∙ ap (λ l. Some (row l)) (sym found)

  -- other elements in their place
  pub elements_written : (vs new : List Value) (place : ℕ) → list_all (is_of t) vs ≡ true → list_all (is_of t) new ≡ true → place + length new ≤ length vs → cells_with (row vs) (place * k) (row new) ≡ Some (row (overwritten vs place new))
  elements_written vs new place all more le =
      let s = split vs place (length new) le in
      let whole = subst (λ l. list_all (is_of t) l ≡ true) s.is all in
      let front = all_parts s.before (s.middle ++ s.after) whole in
      let here = all_parts s.middle s.after front.1 in
      let at : length (row s.before) ≡ place * k = row_long t k long s.before front.0 ∙ ap (λ n. n * k) s.place_is in
      let same : length (row new) ≡ length (row s.middle) = row_long t k long new more ∙ ap (λ n. n * k) (sym s.count_is) ∙ sym (row_long t k long s.middle here.0) in
      let all_of : List Value = s.before ++ (s.middle ++ s.after) in
      let becomes : overwritten vs place new ≡ (s.before ++ new) ++ s.after =
      ap (λ l. overwritten l place new) s.is ∙ ap (λ n. overwritten all_of n new) (sym s.place_is)
      ∙ ap (λ l. (l ++ new) ++ drop (length s.before + length new) all_of) (take-append_seam s.before (s.middle ++ s.after))
      ∙ ap (λ n. (s.before ++ new) ++ drop (length s.before + n) all_of) (sym s.count_is)
      ∙ ap (λ l. (s.before ++ new) ++ l) (drop-append-add s.before (s.middle ++ s.after) (length s.middle) ∙ drop-append_seam s.middle s.after) in
      let shape : (s.before ++ new) ++ s.after ≡ s.before ++ (new ++ s.after) = append_assoc s.before new s.after in
      ap (λ l. cells_with l (place * k) (row new)) (ap row s.is ∙ row_parts s.before s.middle s.after)
      ∙ write_row (row s.before) (row s.middle) (row new) (row s.after) (place * k) at same
      ∙ ap Some (sym (ap row (becomes ∙ shape) ∙ row_parts s.before new s.after))

  -- a part of some elements
  pub part_read : (vs : List Value) (start n : ℕ) (before x after : List Cell) → list_all (is_of t) vs ≡ true → start + n ≤ length vs → row (take n (drop start vs)) ≡ before ++ (x ++ after) → cells_at (row vs) (start * k + length before) (length x) ≡ Some x
  part_read vs start n before x after all le is =
      let s = split vs start n le in
      let whole = subst (λ l. list_all (is_of t) l ≡ true) s.is all in
      let front = all_parts s.before (s.middle ++ s.after) whole in
      let all_of : List Value = s.before ++ (s.middle ++ s.after) in
      let found : take n (drop start vs) ≡ s.middle =
      ap (λ l. take n (drop start l)) s.is ∙ ap (λ m. take m (drop start all_of)) (sym s.count_is) ∙ ap (λ m. take (length s.middle) (drop m all_of)) (sym s.place_is)
      ∙ middle_of s.before s.middle s.after in
      let middle : row s.middle ≡ before ++ (x ++ after) = ap row (sym found) ∙ is in
      let at : length (row s.before ++ before) ≡ start * k + length before =
      omega (arith, length-append (row s.before) before, row_long t k long s.before front.0, ap (λ m. m * k) s.place_is) in
      ap (λ l. cells_at l (start * k + length before) (length x)) (ap row s.is ∙ row_parts s.before s.middle s.after ∙ ap (λ m. row s.before ++ (m ++ row s.after)) middle ∙ assoc_inside (row s.before) before x after (row s.after))
      ∙ read_row (row s.before ++ before) x (after ++ row s.after) (start * k + length before) (length x) at refl

  -- a part of some elements, whose cells are otherwise the same
  pub part_written : (vs ws : List Value) (start n : ℕ) (before x y after : List Cell) → list_all (is_of t) vs ≡ true → start + n ≤ length vs → row (take n (drop start vs)) ≡ before ++ (x ++ after) → row ws ≡ before ++ (y ++ after) → length ws ≡ n → length y ≡ length x → cells_with (row vs) (start * k + length before) y ≡ Some (row (overwritten vs start ws))
  part_written vs ws start n before x y after all le was is size same =
      let s = split vs start n le in
      let whole = subst (λ l. list_all (is_of t) l ≡ true) s.is all in
      let front = all_parts s.before (s.middle ++ s.after) whole in
      let all_of : List Value = s.before ++ (s.middle ++ s.after) in
      let found : take n (drop start vs) ≡ s.middle =
      ap (λ l. take n (drop start l)) s.is ∙ ap (λ m. take m (drop start all_of)) (sym s.count_is) ∙ ap (λ m. take (length s.middle) (drop m all_of)) (sym s.place_is)
      ∙ middle_of s.before s.middle s.after in
      let old : row s.middle ≡ before ++ (x ++ after) = ap row (sym found) ∙ was in
      let at : length (row s.before ++ before) ≡ start * k + length before =
      omega (arith, length-append (row s.before) before, row_long t k long s.before front.0, ap (λ m. m * k) s.place_is) in
      let shape = λ (c : List Cell). assoc_inside (row s.before) before c after (row s.after) in
      let becomes : overwritten vs start ws ≡ (s.before ++ ws) ++ s.after =
      ap (λ l. overwritten l start ws) s.is ∙ ap (λ m. overwritten all_of m ws) (sym s.place_is)
      ∙ ap (λ l. (l ++ ws) ++ drop (length s.before + length ws) all_of) (take-append_seam s.before (s.middle ++ s.after))
      ∙ ap (λ m. (s.before ++ ws) ++ drop (length s.before + m) all_of) (size ∙ sym s.count_is)
      ∙ ap (λ l. (s.before ++ ws) ++ l) (drop-append-add s.before (s.middle ++ s.after) (length s.middle) ∙ drop-append_seam s.middle s.after) in
      ap (λ l. cells_with l (start * k + length before) y) (ap row s.is ∙ row_parts s.before s.middle s.after ∙ ap (λ m. row s.before ++ (m ++ row s.after)) old ∙ shape x)
      ∙ write_row (row s.before ++ before) x y (after ++ row s.after) (start * k + length before) at same
      ∙ ap Some (sym (ap row (becomes ∙ append_assoc s.before ws s.after) ∙ row_parts s.before ws s.after ∙ ap (λ m. row s.before ++ (m ++ row s.after)) is ∙ shape y))

-- so many zero values
pub row_repeat : (n : ℕ) (v : Value) → row (replicate n v) ≡ repeat n (flat v)
row_repeat zero v = refl
row_repeat (suc n) v = ap (λ l. flat v ++ l) (row_repeat n v)

-- ---- zero cells: those like the cells of any value of the type

zero_basic : (b : Basic) (c : Cell) → is_basic b c ≡ true → zero_like c ≡ zero_cell b
zero_basic basics.Bool (Truth v) e = refl
zero_basic basics.Bool (Int z) e = cc
zero_basic basics.Bool (Text s) e = cc
zero_basic basics.Bool (Slice r s l c) e = cc
zero_basic basics.String (Truth v) e = cc
zero_basic basics.String (Int z) e = cc
zero_basic basics.String (Text s) e = refl
zero_basic basics.String (Slice r s l c) e = cc
zero_basic (basics.Integer i) (Truth v) e = cc
zero_basic (basics.Integer i) (Int z) e = refl
zero_basic (basics.Integer i) (Text s) e = cc
zero_basic (basics.Integer i) (Slice r s l c) e = cc
zero_basic (basics.Untyped kinds.Bool) (Truth v) e = refl
zero_basic (basics.Untyped kinds.Bool) (Int z) e = cc
zero_basic (basics.Untyped kinds.Bool) (Text s) e = cc
zero_basic (basics.Untyped kinds.Bool) (Slice r s l c) e = cc
zero_basic (basics.Untyped kinds.Int) c e = cc
zero_basic (basics.Untyped kinds.Rune) c e = cc
zero_basic (basics.Untyped kinds.String) c e = cc

packed : (vs : Values) → pack_values (unpack vs) ≡ vs
packed no_values = refl
packed (some_values v vs) = ap (some_values v) (packed vs)

copies_zero : (t : Type') (vs : List Value) (n : ℕ) → ((v : Value) → is_of t v ≡ true → map zero_like (flat v) ≡ flat (zero_of t)) → length vs ≡ n → list_all (is_of t) vs ≡ true → map zero_like (flat_all (pack_values vs)) ≡ flat_all (pack_values (replicate n (zero_of t)))
copies_zero t [] zero one e all = refl
copies_zero t [] (suc n) one e all = cc
copies_zero t (v ∷ vs) zero one e all = cc
copies_zero t (v ∷ vs) (suc n) one e all =
    let h = both_true (is_of t v) (list_all (is_of t) vs) all in
    map-append zero_like (flat v) (flat_all (pack_values vs)) ∙ ap (λ l. l ++ map zero_like (flat_all (pack_values vs))) (one v h.0) ∙ ap (λ l. flat (zero_of t) ++ l) (copies_zero t vs n one (omega (arith, e)) h.1)

mutual
  pub zero_cells : (t : Type') (v : Value) → is_of t v ≡ true → map zero_like (flat v) ≡ flat (zero_of t)
  zero_cells (basic b) (single c) e = ap (λ z. z ∷ []) (zero_basic b c e)
  zero_cells (basic b) (parts vs) e = cc
  zero_cells (array n t) (single c) e = cc
  zero_cells (array n t) (parts vs) e =
      let h = both_true (nat_eq (length (unpack vs)) n) (list_all (is_of t) (unpack vs)) e in
      ap (λ l. map zero_like (flat_all l)) (sym (packed vs)) ∙ copies_zero t (unpack vs) n (zero_cells t) (eqb-true (length (unpack vs)) n h.0) h.1
  zero_cells (slice t) (single (Slice r s l c)) e = refl
  zero_cells (slice t) (single (Int z)) e = cc
  zero_cells (slice t) (single (Truth b)) e = cc
  zero_cells (slice t) (single (Text x)) e = cc
  zero_cells (slice t) (parts vs) e = cc
  zero_cells (struct fs) (single c) e = cc
  zero_cells (struct fs) (parts vs) e = ap (λ l. map zero_like (flat_all l)) (sym (packed vs)) ∙ zero_fields fs (unpack vs) e
  zero_cells (named path name t) v e = zero_cells t v e

  zero_fields : (fs : Fields) (vs : List Value) → are_of_fields fs vs ≡ true → map zero_like (flat_all (pack_values vs)) ≡ flat_all (zeros_of fs)
  zero_fields no_fields [] e = refl
  zero_fields no_fields (v ∷ vs) e = cc
  zero_fields (field p x t fs) [] e = cc
  zero_fields (field p x t fs) (v ∷ vs) e =
      let h = both_true (is_of t v) (are_of_fields fs vs) e in
      map-append zero_like (flat v) (flat_all (pack_values vs)) ∙ ap (λ l. l ++ map zero_like (flat_all (pack_values vs))) (zero_cells t v h.0) ∙ ap (λ l. flat (zero_of t) ++ l) (zero_fields fs vs h.1)
