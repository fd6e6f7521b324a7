-- What the machine makes of its rows is what the sources make of their arrays.
use Rattle.std.proofs.Common.{◌≡◌, ℕ, zero, suc, ◌+◌, ◌*◌, ◌-◌, ◌≤◌, Bool, true, false, ◌&&◌, nat_le, List, [], ◌∷◌, ◌++◌, length, map, take, drop, replicate, refl, sym, ap, ◌∙◌, arith}
use Rattle.std.specs.Prelude.{if◌then◌else◌, slice_set}
use Rattle.std.specs.List.{list_all, repeat}
use Rattle.std.proofs.lemmas.Bool.{leb-true, le-leb}
use Rattle.std.proofs.lemmas.Grind.{flat_map-append}
use Rattle.std.proofs.Math.Seq.{take-append_seam}
use Rattle.go_types.specs.Types.{Type'}
use Rattle.go_types.specs.Sizes.{cells}
use Rattle.go_code.specs.declared.cell.Cell.{Cell}
use Rattle.go_code.specs.declared.cell.Cell.TheVariants.{Slice}
use Rattle.go_code.specs.declared.ending.Ending.TheVariants.{Panicked}
use Rattle.go_code.specs.declared.ending.PanicKind.{PanicKind}
use Rattle.go_code.specs.declared.instr.RowInstr.TheVariants.{Append}
use Rattle.go_code.specs.Accesses.{cells_at, cells_with}
use Rattle.go_code.specs.Operators as operators
use Rattle.go_code.specs.Operators.{Operated}
use Rattle.go_code.specs.Rows.{row_of, has_room, zero_like, grown, Rowed, row_step, if_there, if_given, new_row}
use Rattle.go_meaning.specs.Values.{Value, single, flat, is_of, zero_of}
use Rattle.go_meaning.specs.Meaning.{ProgramState, Outcome, Gives, Ends, Stuck, and_then, or_panic, appended, overwritten, with_array, new_array}
use Rattle.go_translation_laws.proofs.RowLemmas.{row, rows, row_at, rows_set, rows_more, elements_read, elements_written, row_repeat, zero_cells}

-- the world with other arrays
abbrev pub arrayed : ProgramState → List (List Value) → ProgramState
arrayed w arrays = record w { arrays = arrays }

-- the machine comes to the rows and the cells of what the sources come to, or both panic
abbrev pub Tells : Outcome Value → ProgramState → Operated Rowed → Type 0
Tells (Gives v w1) w o = (w1 ≡ arrayed w w1.arrays) × (o ≡ operators.Gives (record { rows = rows w1.arrays; cells = flat v }))
Tells (Ends ending output) w o = (kind : PanicKind) × (ending ≡ Panicked kind) × (output ≡ w.output) × (o ≡ operators.Panics kind)
Tells Stuck w o = Unit {0}

both_true : (p q : Bool) → (p && q) ≡ true → (p ≡ true) × (q ≡ true)
both_true true q e = (refl, e)
both_true false q e = cc

module _ (t : Type') (long : (v : Value) → is_of t v ≡ true → length (flat v) ≡ cells t) where
  first_zero : (vs : List Value) → list_all (is_of t) vs ≡ true → (length vs ≡ zero → ⊥) → map zero_like (take (cells t) (row vs)) ≡ flat (zero_of t)
  first_zero [] e some = absurd (some refl)
  first_zero (v ∷ vs) e some =
      let h = both_true (is_of t v) (list_all (is_of t) vs) e in
      ap (λ n. map zero_like (take n (flat v ++ row vs))) (sym (long v h.0)) ∙ ap (map zero_like) (take-append_seam (flat v) (row vs)) ∙ zero_cells t v h.0

  module _ (at start n c : ℕ) (vs : List Value) (w : ProgramState) where
    abbrev all : List Value
    all = row_of w.arrays at

    abbrev count : ℕ
    count = n + length vs

    abbrev bigger : ℕ → Operated Rowed
    bigger room = if_there (cells_at (row_of (rows w.arrays) at) (start * cells t) (n * cells t)) (λ old. new_row (rows w.arrays) (old ++ row vs ++ repeat (room - count) (map zero_like (take (cells t) (row vs)))) count room)

    abbrev machine : Bool → Operated Rowed
    machine b =
        if b then if_there (cells_with (row_of (rows w.arrays) at) ((start + n) * cells t) (row vs)) (λ other. operators.Gives (record { rows = slice_set (rows w.arrays) at other; cells = Slice at start count c ∷ [] }))
        else if_given (grown (cells t) count c) bigger

    in_place : list_all (is_of t) vs ≡ true → list_all (is_of t) all ≡ true → count ≤ c → start + c ≤ length all → machine true ≡ operators.Gives (record { rows = rows (slice_set w.arrays at (overwritten all (start + n) vs)); cells = Slice at start count c ∷ [] })
    in_place typed sound room within =
        let other : List Value = overwritten all (start + n) vs in
        let le : (start + n) + length vs ≤ length all = omega (arith, room, within) in
        ap (λ o. if_there o (λ other. operators.Gives (record { rows = slice_set (rows w.arrays) at other; cells = Slice at start count c ∷ [] })))
        (ap (λ l. cells_with l ((start + n) * cells t) (row vs)) (row_at w.arrays at) ∙ elements_written t (cells t) long all vs (start + n) sound typed le)
        ∙ ap (λ rs. operators.Gives (record { rows = rs; cells = Slice at start count c ∷ [] })) (rows_set w.arrays at other)

    abbrev larger : ℕ → List Value
    larger room = take n (drop start all) ++ vs ++ replicate (room - count) (zero_of t)

    moved : list_all (is_of t) vs ≡ true → list_all (is_of t) all ≡ true → (length vs ≡ zero → ⊥) → start + n ≤ length all → (room : ℕ) → bigger room ≡ operators.Gives (record { rows = rows (w.arrays ++ larger room ∷ []); cells = Slice (length w.arrays) 0 count room ∷ [] })
    moved typed sound some within room =
        let zeros : List Cell = repeat (room - count) (map zero_like (take (cells t) (row vs))) in
        let read = ap (λ l. cells_at l (start * cells t) (n * cells t)) (row_at w.arrays at) ∙ elements_read t (cells t) long all start n sound within in
        let fill : zeros ≡ row (replicate (room - count) (zero_of t)) = ap (repeat (room - count)) (first_zero vs typed some) ∙ sym (row_repeat (room - count) (zero_of t)) in
        let whole : (row (take n (drop start all)) ++ row vs) ++ zeros ≡ row (larger room) =
        ap (λ l. (row (take n (drop start all)) ++ row vs) ++ l) fill
        ∙ ap (λ l. l ++ row (replicate (room - count) (zero_of t))) (sym (flat_map-append flat (take n (drop start all)) vs))
        ∙ sym (flat_map-append flat (take n (drop start all) ++ vs) (replicate (room - count) (zero_of t))) in
        ap (λ o. if_there o (λ old. new_row (rows w.arrays) (old ++ row vs ++ zeros) count room)) read
        ∙ ap (λ l. new_row (rows w.arrays) l count room) whole
        ∙ ap (λ rs. operators.Gives (record { rows = rs; cells = Slice (length (rows w.arrays)) 0 count room ∷ [] })) (rows_more w.arrays (larger room))
        ∙ ap (λ m. operators.Gives (record { rows = rows (w.arrays ++ larger room ∷ []); cells = Slice m 0 count room ∷ [] })) (lengths w.arrays)
      where
        lengths : (arrays : List (List Value)) → length (rows arrays) ≡ length arrays
        lengths [] = refl
        lengths (x ∷ xs) = ap suc (lengths xs)

    abbrev source : Bool → Outcome Value
    source b =
        if b then Gives (single (Slice at start count c)) (with_array w at (overwritten all (start + n) vs))
        else and_then (or_panic (grown (cells t) count c) w) (λ room. new_array (larger room) count room)

    pub append_tells : Tells (appended t (single (Slice at start n c)) vs w) w (row_step (Append (cells t) (length vs)) (rows w.arrays) (Slice at start n c ∷ row vs))
    append_tells = by_typed (list_all (is_of t) vs) refl
      where
        by_growth : list_all (is_of t) vs ≡ true → list_all (is_of t) all ≡ true → (length vs ≡ zero → ⊥) → start + n ≤ length all → (o : Operated ℕ) → Tells (and_then (or_panic o w) (λ room. new_array (larger room) count room)) w (if_given o bigger)
        by_growth typed sound some within (operators.Gives room) = (refl, moved typed sound some within room)
        by_growth typed sound some within (operators.Panics kind) = (kind, refl, refl, refl)
        by_growth typed sound some within operators.Senseless = tt

        by_room : list_all (is_of t) vs ≡ true → list_all (is_of t) all ≡ true → n ≤ c → start + c ≤ length all → (b : Bool) → nat_le count c ≡ b → Tells (source b) w (machine b)
        by_room typed sound le within true e = (refl, in_place typed sound (leb-true count c e) within)
        by_room typed sound le within false e =
            by_growth typed sound (λ none. absurd (not_both (nat_le count c) (le-leb count c (omega (arith, le, none))) e)) (omega (arith, le, within)) (grown (cells t) count c)
          where
            not_both : (b : Bool) → b ≡ true → b ≡ false → ⊥
            not_both b e f = cc

        by_array : list_all (is_of t) vs ≡ true → (b : Bool) → (list_all (is_of t) all && (nat_le n c && (nat_le (start + c) (length all) && has_room (cells t) (length all)))) ≡ b → Tells (and_then (if b then Gives all w else Stuck) (λ xs w1. if nat_le count c then Gives (single (Slice at start count c)) (with_array w1 at (overwritten xs (start + n) vs)) else and_then (or_panic (grown (cells t) count c) w1) (λ room. new_array (take n (drop start xs) ++ vs ++ replicate (room - count) (zero_of t)) count room))) w (machine (nat_le count c))
        by_array typed true e =
            let h = both_true (list_all (is_of t) all) (nat_le n c && (nat_le (start + c) (length all) && has_room (cells t) (length all))) e in
            let g = both_true (nat_le n c) (nat_le (start + c) (length all) && has_room (cells t) (length all)) h.1 in
            let f = both_true (nat_le (start + c) (length all)) (has_room (cells t) (length all)) g.1 in
            by_room typed h.0 (leb-true n c g.0) (leb-true (start + c) (length all) f.0) (nat_le count c) refl
        by_array typed false e = tt

        by_typed : (b : Bool) → list_all (is_of t) vs ≡ b → Tells (if b then and_then (if list_all (is_of t) all && (nat_le n c && (nat_le (start + c) (length all) && has_room (cells t) (length all))) then Gives all w else Stuck) (λ xs w1. if nat_le count c then Gives (single (Slice at start count c)) (with_array w1 at (overwritten xs (start + n) vs)) else and_then (or_panic (grown (cells t) count c) w1) (λ room. new_array (take n (drop start xs) ++ vs ++ replicate (room - count) (zero_of t)) count room)) else Stuck) w (machine (nat_le count c))
        by_typed true e = by_array e (list_all (is_of t) all && (nat_le n c && (nat_le (start + c) (length all) && has_room (cells t) (length all)))) refl
        by_typed false e = tt
