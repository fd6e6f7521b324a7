-- Slices that are made, and elements that are read: what the machine makes of its rows is what the sources make of their arrays.
use Rattle.std.proofs.Common.{◌≡◌, ℕ, zero, suc, ◌+◌, ◌*◌, ◌<◌, ◌≤◌, Bool, true, false, ◌&&◌, nat_le, List, [], ◌∷◌, ◌++◌, length, take, drop, replicate, Option, Some, None, ℤ, pos, negsuc, refl, sym, ap, ◌∙◌, subst, arith, append-nil}
use Rattle.std.specs.Prelude.{if◌then◌else◌, nat_lt}
use Rattle.std.specs.List.{list_all, repeat}
use Rattle.std.proofs.lemmas.Bool.{leb-true, le-leb}
use Rattle.std.proofs.Math.Seq.{take-append_seam, drop-append_seam}
use Rattle.go_types.specs.Types.{Type', slice}
use Rattle.go_types.specs.Sizes.{cells}
use Rattle.go_code.specs.declared.cell.Cell.{Cell}
use Rattle.go_code.specs.declared.cell.Cell.TheVariants.{Int, Slice}
use Rattle.go_code.specs.declared.ending.Ending.TheVariants.{Panicked}
use Rattle.go_code.specs.declared.ending.PanicKind.TheVariants.{Index as Out_of_range}
use Rattle.go_code.specs.declared.instr.RowInstr.TheVariants.{Make, Get}
use Rattle.go_code.specs.Accesses.{cells_at}
use Rattle.go_code.specs.Operators as operators
use Rattle.go_code.specs.Operators.{Operated}
use Rattle.go_code.specs.Rows as machine
use Rattle.go_code.specs.Rows.{row_of, has_room, make_sizes, Rowed, row_step, if_there, if_given, new_row}
use Rattle.go_meaning.specs.Values.{Value, single, parts, pack_values, flat, is_of, zero_of, or_else, nth, to_element, part_of}
use Rattle.go_meaning.specs.Meaning.{ProgramState, Gives, Ends, Stuck, and_then, typed_or_panic, or_panic, made, found, new_array}
use Rattle.go_translation_laws.proofs.RowLemmas.{row, rows, row_at, rows_more, elements_read, row_repeat}
use Rattle.go_translation_laws.proofs.RowSteps.{Tells}

both_true : (p q : Bool) → (p && q) ≡ true → (p ≡ true) × (q ≡ true)
both_true true q e = (refl, e)
both_true false q e = cc

lengths : (arrays : List (List Value)) → length (rows arrays) ≡ length arrays
lengths [] = refl
lengths (x ∷ xs) = ap suc (lengths xs)

-- ---- a slice that is made

module _ (t : Type') (zeros : length (flat (zero_of t)) ≡ cells t) (w : ProgramState) where
  abbrev made_row : ℕ → ℕ → Operated Rowed
  made_row n c = new_row (rows w.arrays) (repeat c (flat (zero_of t))) n c

  made_is : (n c : ℕ) → made_row n c ≡ operators.Gives (record { rows = rows (w.arrays ++ replicate c (zero_of t) ∷ []); cells = Slice (length w.arrays) 0 n c ∷ [] })
  made_is n c =
      ap (λ l. new_row (rows w.arrays) l n c) (sym (row_repeat c (zero_of t)))
      ∙ ap (λ rs. operators.Gives (record { rows = rs; cells = Slice (length (rows w.arrays)) 0 n c ∷ [] })) (rows_more w.arrays (replicate c (zero_of t)))
      ∙ ap (λ m. operators.Gives (record { rows = rows (w.arrays ++ replicate c (zero_of t) ∷ []); cells = Slice m 0 n c ∷ [] })) (lengths w.arrays)

  by_sizes : (o : Operated (ℕ × ℕ)) → Tells (and_then (or_panic o w) (λ sizes. new_array (replicate sizes.1 (zero_of t)) sizes.0 sizes.1)) w (if_given o (λ sizes. new_row (rows w.arrays) (repeat sizes.1 (flat (zero_of t))) sizes.0 sizes.1))
  by_sizes (operators.Gives sizes) = (refl, made_is sizes.0 sizes.1)
  by_sizes (operators.Panics kind) = (kind, refl, refl, refl)
  by_sizes operators.Senseless = tt

  pub make_tells : (n c : Cell) → Tells (made t (single n) (single c) w) w (row_step (Make (cells t)) (rows w.arrays) (flat (zero_of t) ++ n ∷ c ∷ []))
  make_tells n c =
      let z : List Cell = flat (zero_of t) in
      let all : List Cell = z ++ n ∷ c ∷ [] in
      let is : row_step (Make (cells t)) (rows w.arrays) all ≡ machine.make_row (rows w.arrays) (cells t) z (n ∷ c ∷ []) =
      ap (λ k. machine.make_row (rows w.arrays) (cells t) (take k all) (drop k all)) (sym zeros)
      ∙ ap (λ l. machine.make_row (rows w.arrays) (cells t) l (drop (length z) all)) (take-append_seam z (n ∷ c ∷ []))
      ∙ ap (machine.make_row (rows w.arrays) (cells t) z) (drop-append_seam z (n ∷ c ∷ [])) in
      subst (Tells (made t (single n) (single c) w) w) (sym is) (by_sizes (make_sizes (cells t) n c))

-- ---- an element that is read

-- an element of a part of an array is one of the array
window_at : (all : List Value) (s n k : ℕ) (v : Value) → nth (pack_values (take n (drop s all))) k ≡ Some v → (k < n) × (take 1 (drop (s + k) all) ≡ v ∷ [])
window_at [] zero zero k v e = cc
window_at [] zero (suc n) k v e = cc
window_at [] (suc s) zero k v e = cc
window_at [] (suc s) (suc n) k v e = cc
window_at (x ∷ all) zero zero k v e = cc
window_at (x ∷ all) zero (suc n) zero v e =
    let same : x ≡ v = cc in
    let none : zero + zero ≡ zero = omega arith in
    (omega arith, ap (λ m. take 1 (drop m (x ∷ all))) none ∙ ap (λ y. y ∷ []) same)
window_at (x ∷ all) zero (suc n) (suc k) v e =
    let r = window_at all zero n k v e in
    let next : zero + suc k ≡ suc (zero + k) = omega arith in
    (omega (arith, r.0), ap (λ m. take 1 (drop m (x ∷ all))) next ∙ r.1)
window_at (x ∷ all) (suc s) n k v e =
    let r = window_at all s n k v e in
    let next : suc s + k ≡ suc (s + k) = omega arith in
    (r.0, ap (λ m. take 1 (drop m (x ∷ all))) next ∙ r.1)

window_none : (all : List Value) (s n k : ℕ) → s + n ≤ length all → nth (pack_values (take n (drop s all))) k ≡ None → n ≤ k
window_none all zero zero k le e = omega arith
window_none [] zero (suc n) k le e = absurd (omega (arith, le))
window_none [] (suc s) n k le e = absurd (omega (arith, le))
window_none (x ∷ all) zero (suc n) zero le e = cc
window_none (x ∷ all) zero (suc n) (suc k) le e = let r = window_none all zero n k (omega (arith, le)) e in omega (arith, r)
window_none (x ∷ all) (suc s) n k le e = window_none all s n k (omega (arith, le)) e

if_is : {A : Type 0} (b : Bool) (x y : A) → b ≡ true → (if b then x else y) ≡ x
if_is b x y e = ap (λ v. if v then x else y) e

if_not : {A : Type 0} (b : Bool) (x y : A) → b ≡ false → (if b then x else y) ≡ y
if_not b x y e = ap (λ v. if v then x else y) e

not_below : (k n : ℕ) → n ≤ k → nat_lt k n ≡ false
not_below k n le = by_test (nat_lt k n) refl
  where
    by_test : (b : Bool) → nat_lt k n ≡ b → b ≡ false
    by_test true e = absurd (omega (arith, le, leb-true (suc k) n e))
    by_test false e = refl

module _ (t of : Type') (long : (v : Value) → is_of t v ≡ true → length (flat v) ≡ cells t) (at start n c : ℕ) (w : ProgramState) where
  abbrev all : List Value
  all = row_of w.arrays at

  abbrev window : List Value
  window = take n (drop start all)

  abbrev reads : ℕ → Operated Rowed
  reads index = if_there (cells_at (row_of (rows w.arrays) at) ((start + index) * cells t) (cells t)) (λ cells. operators.Gives (record { rows = rows w.arrays; cells = cells }))

  abbrev sound : Bool
  sound = list_all (is_of t) all && (nat_le n c && (nat_le (start + c) (length all) && has_room (cells t) (length all)))

  reads_is : list_all (is_of t) all ≡ true → start + n ≤ length all → (k : ℕ) (v : Value) → nth (pack_values window) k ≡ Some v → reads k ≡ operators.Gives (record { rows = rows w.arrays; cells = flat v })
  reads_is typed within k v e =
      let here = window_at all start n k v e in
      let one : 1 * cells t ≡ cells t = omega arith in
      let read = elements_read t (cells t) long all (start + k) 1 typed (omega (arith, here.0, within)) in
      let found : cells_at (row_of (rows w.arrays) at) ((start + k) * cells t) (cells t) ≡ Some (flat v) =
      ap (λ l. cells_at l ((start + k) * cells t) (cells t)) (row_at w.arrays at) ∙ ap (cells_at (row all) ((start + k) * cells t)) (sym one)
      ∙ read ∙ ap (λ l. Some (row l)) here.1 ∙ ap Some (append-nil (flat v)) in
      ap (λ o. if_there o (λ cells. operators.Gives (record { rows = rows w.arrays; cells = cells }))) found

  by_given : (v : Value) (o : Operated Rowed) → o ≡ operators.Gives (record { rows = rows w.arrays; cells = flat v }) → (b : Bool) → Tells (if b then Gives v w else Stuck) w o
  by_given v o e true = (refl, e)
  by_given v o e false = tt

  by_element : list_all (is_of t) all ≡ true → start + n ≤ length all → (k : ℕ) (o : Option Value) → nth (pack_values window) k ≡ o → Tells (typed_or_panic of (or_else (operators.Panics Out_of_range) o) w) w (if_given (if nat_lt k n then operators.Gives k else operators.Panics Out_of_range) reads)
  by_element typed within k None e =
      subst (Tells (Ends (Panicked Out_of_range) w.output) w) (sym (ap (λ o. if_given o reads) (if_not (nat_lt k n) (operators.Gives k) (operators.Panics Out_of_range) (not_below k n (window_none all start n k within e)))))
      (Out_of_range, refl, refl, refl)
  by_element typed within k (Some v) e =
      let here = window_at all start n k v e in
      let below : nat_lt k n ≡ true = le-leb (suc k) n (omega (arith, here.0)) in
      subst (Tells (typed_or_panic of (operators.Gives v) w) w) (sym (ap (λ o. if_given o reads) (if_is (nat_lt k n) (operators.Gives k) (operators.Panics Out_of_range) below)))
      (by_given v (reads k) (reads_is typed within k v e) (is_of of v))

  by_index : list_all (is_of t) all ≡ true → start + n ≤ length all → (z : ℤ) → Tells (and_then (Gives (parts (pack_values window)) w) (λ whole. typed_or_panic of (part_of whole (to_element z)))) w (row_step (Get (cells t)) (rows w.arrays) (Slice at start n c ∷ Int z ∷ []))
  by_index typed within (pos k) = by_element typed within k (nth (pack_values window) k) refl
  by_index typed within (negsuc k) = (Out_of_range, refl, refl, refl)

  pub get_tells : (z : ℤ) → Tells (found of (slice t) (single (Slice at start n c)) (single (Int z)) w) w (row_step (Get (cells t)) (rows w.arrays) (Slice at start n c ∷ Int z ∷ []))
  get_tells z = by_sound sound refl
    where
      by_sound : (b : Bool) → sound ≡ b → Tells (and_then (and_then (if b then Gives all w else Stuck) (λ all. Gives (parts (pack_values (take n (drop start all)))))) (λ whole. typed_or_panic of (part_of whole (to_element z)))) w (row_step (Get (cells t)) (rows w.arrays) (Slice at start n c ∷ Int z ∷ []))
      by_sound true e =
          let h = both_true (list_all (is_of t) all) (nat_le n c && (nat_le (start + c) (length all) && has_room (cells t) (length all))) e in
          let g = both_true (nat_le n c) (nat_le (start + c) (length all) && has_room (cells t) (length all)) h.1 in
          let f = both_true (nat_le (start + c) (length all)) (has_room (cells t) (length all)) g.1 in
          by_index h.0 (omega (arith, leb-true n c g.0, leb-true (start + c) (length all) f.0)) z
      by_sound false e = tt
