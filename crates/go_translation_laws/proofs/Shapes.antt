-- The cells of values: as many as their types have, and those of parts among them.
use Rattle.std.proofs.Common.{◌≡◌, ℕ, zero, suc, ◌+◌, ◌*◌, ◌≤◌, Bool, true, false, nat_eq, nat_lt, nat_le, ◌<◌, take, drop, List, [], ◌∷◌, ◌++◌, length, Some, None, refl, sym, ap, ◌∙◌, subst, arith, length-append, append_assoc, ◌&&◌, ℤ, pos, negsuc, ◌^◌}
use Rattle.std.proofs.Math.Nat.{suc-mul, zero-mul}
use Rattle.std.specs.Prelude.{if◌then◌else◌}
use Rattle.std.specs.List.{list_all}
use Rattle.std.proofs.lemmas.Bool.{le-leb, lt-leb, leb-true, eqb-true}
use Rattle.go_const.specs.Constants.{sizes, fits}
use Rattle.go_const.specs.declared.kind.IntKind.{IntKind}
use Rattle.go_const.specs.declared.kind.IntKind.TheVariants as kinds
use Rattle.go_const.specs.declared.constant.Const.{Const}
use Rattle.go_const.specs.declared.constant.Const.TheVariants as consts
use Rattle.go_types.specs.declared.types.Basic.{Basic}
use Rattle.go_types.specs.declared.types.Basic.TheVariants as basics
use Rattle.go_types.specs.declared.types.Untyped.TheVariants as untypeds
use Rattle.go_types.specs.Types.{Type', basic, array, slice, struct, named, Fields, no_fields, field}
use Rattle.go_types.specs.Relations.{underlying}
use Rattle.go_types.specs.Sizes.{cells}
use Rattle.go_code.specs.declared.cell.Cell.{Cell}
use Rattle.go_code.specs.declared.cell.Cell.TheVariants.{Int, Text}
use Rattle.go_code.specs.Lines.{cell_fits, number_fits}
use Rattle.std.proofs.Math.Seq.{take-append_seam, drop-append_seam}
use Rattle.go_code.specs.declared.ending.PanicKind.TheVariants.{Index as Out_of_range}
use Rattle.go_code.specs.declared.instr.PartInstr.TheVariants.{Pick, Part}
use Rattle.go_code.specs.Operators as operators
use Rattle.go_code.specs.Parts.{part, picked, bind_index, index_below}
use Rattle.go_translation_laws.proofs.Frames.{if_true}
use Rattle.go_meaning.specs.Choices.{cell_of, element_type}
use Rattle.go_meaning.specs.Values.{Value, single, parts, Values, no_values, some_values, unpack, flat, flat_all, is_of, is_basic, are_of_fields, nth, with_nth}
use Rattle.go_meaning_laws.proofs.Values.{flat_long}
use Rattle.go_gen.specs.Translation.{field_offset, element_cells}

pub both_true : (p q : Bool) → (p && q) ≡ true → (p ≡ true) × (q ≡ true)
both_true true q e = (refl, e)
both_true false q e = cc

pub same_number : (m n : ℕ) → nat_eq m n ≡ true → m ≡ n
same_number m n e = eqb-true m n e

-- a declared type's values are those of its underlying type, and as large
pub underlying_cells : (t : Type') → cells (underlying t) ≡ cells t
underlying_cells (basic b) = refl
underlying_cells (array n t) = refl
underlying_cells (slice t) = refl
underlying_cells (struct fs) = refl
underlying_cells (named path name t) = underlying_cells t

pub underlying_values : (t : Type') (v : Value) → is_of (underlying t) v ≡ is_of t v
underlying_values (basic b) v = refl
underlying_values (array n t) v = refl
underlying_values (slice t) v = refl
underlying_values (struct fs) v = refl
underlying_values (named path name t) v = underlying_values t v

-- an element has as many cells as its type says
pub element_cells_are : (s u : Type') → element_type s ≡ Some u → element_cells s ≡ cells u
element_cells_are (array n t) u e = (let same : t ≡ u = cc in ap cells same)
element_cells_are (slice t) u e = (let same : t ≡ u = cc in ap cells same)
element_cells_are (basic b) u e = absurd (cc)
element_cells_are (struct fs) u e = absurd (cc)
element_cells_are (named p x t) u e = absurd (cc)

-- ---- parts

-- a part of some values: where its cells lie among theirs, and what they are with another value there
pub record Among (vs : Values) (n : ℕ) (x : Value) (at : ℕ) : Type 0 where
  pub before : List Cell
  pub after : List Cell
  pub is : flat_all vs ≡ before ++ (flat x ++ after)
  pub place : length before ≡ at
  pub renewed : (y : Value) → flat_all (with_nth vs n y) ≡ before ++ (flat y ++ after)

same_value : (x y : Value) → Some x ≡ Some y → x ≡ y
same_value x y e = cc

first_among : (v x : Value) (vs : Values) → Some v ≡ Some x → Among (some_values v vs) zero x 0
first_among v x vs e =
    subst (λ y. Among (some_values v vs) zero y 0) (same_value v x e)
    (record { before = []; after = flat_all vs; is = refl; place = refl; renewed = λ y. refl })

next_among : (v x : Value) (vs : Values) (n at size : ℕ) → length (flat v) ≡ size → Among vs n x at → Among (some_values v vs) (suc n) x (size + at)
next_among v x vs n at size long h =
    let place : length (flat v ++ h.before) ≡ size + at = omega (arith, long, h.place, length-append (flat v) h.before) in
    record {
      before = flat v ++ h.before;
      after = h.after;
      is = ap (λ l. flat v ++ l) h.is ∙ sym (append_assoc (flat v) h.before (flat x ++ h.after));
      place = place;
      renewed = λ y. ap (λ l. flat v ++ l) (h.renewed y) ∙ sym (append_assoc (flat v) h.before (flat y ++ h.after));
    }

-- a field of a struct
pub field_among : (fs : Fields) (vs : Values) (n : ℕ) (x : Value) → are_of_fields fs (unpack vs) ≡ true → nth vs n ≡ Some x → Among vs n x (field_offset fs n)
field_among fs no_values n x e is = cc
field_among no_fields (some_values v vs) n x e is = cc
field_among (field p y t fs) (some_values v vs) zero x e is = first_among v x vs is
field_among (field p y t fs) (some_values v vs) (suc n) x e is =
    let h = both_true (is_of t v) (are_of_fields fs (unpack vs)) e in
    next_among v x vs n (field_offset fs n) (cells t) (flat_long t v h.0) (field_among fs vs n x h.1 is)

among_at : (vs : Values) (n : ℕ) (x : Value) (a b : ℕ) → a ≡ b → Among vs n x a → Among vs n x b
among_at vs n x a b e h = subst (λ at. Among vs n x at) e h

-- an element of an array
pub element_among : (t : Type') (vs : Values) (n : ℕ) (x : Value) → list_all (is_of t) (unpack vs) ≡ true → nth vs n ≡ Some x → Among vs n x (n * cells t)
element_among t no_values n x e is = cc
element_among t (some_values v vs) zero x e is = among_at (some_values v vs) zero x 0 (zero * cells t) (sym (zero-mul (cells t))) (first_among v x vs is)
element_among t (some_values v vs) (suc n) x e is =
    let h = both_true (is_of t v) (list_all (is_of t) (unpack vs)) e in
    let place : cells t + n * cells t ≡ suc n * cells t = omega (arith, suc-mul n (cells t)) in
    among_at (some_values v vs) (suc n) x (cells t + n * cells t) (suc n * cells t) place (next_among v x vs n (n * cells t) (cells t) (flat_long t v h.0) (element_among t vs n x h.1 is))

-- ---- cells that the machine knows

below_more : (n a b : ℕ) → a ≤ b → nat_lt n a ≡ true → nat_lt n b ≡ true
below_more n a b le e =
    let less = leb-true (suc n) a e in
    le-leb (suc n) b (omega (arith, less, le))

-- the numbers of each integer type
sizes_within : (i : IntKind) → ((sizes (Some i)).1 ≤ 2 ^ 64) × ((sizes (Some i)).0 ≤ 2 ^ 63)
sizes_within kinds.Int = (omega arith, omega arith)
sizes_within kinds.Int8 = (omega arith, omega arith)
sizes_within kinds.Int16 = (omega arith, omega arith)
sizes_within kinds.Int32 = (omega arith, omega arith)
sizes_within kinds.Int64 = (omega arith, omega arith)
sizes_within kinds.Uint = (omega arith, omega arith)
sizes_within kinds.Uint8 = (omega arith, omega arith)
sizes_within kinds.Uint16 = (omega arith, omega arith)
sizes_within kinds.Uint32 = (omega arith, omega arith)
sizes_within kinds.Uint64 = (omega arith, omega arith)

number_known : (i : IntKind) (z : ℤ) → fits (Some i) z ≡ true → number_fits z ≡ true
number_known i (pos n) e = below_more n (sizes (Some i)).1 (2 ^ 64) (sizes_within i).0 e
number_known i (negsuc n) e = below_more n (sizes (Some i)).0 (2 ^ 63) (sizes_within i).1 e

basic_known : (b : Basic) (z : ℤ) → is_basic b (Int z) ≡ true → number_fits z ≡ true
basic_known basics.Bool z e = cc
basic_known basics.String z e = cc
basic_known (basics.Integer i) z e = number_known i z e
basic_known (basics.Untyped untypeds.Bool) z e = cc
basic_known (basics.Untyped untypeds.Int) z e = cc
basic_known (basics.Untyped untypeds.Rune) z e = cc
basic_known (basics.Untyped untypeds.String) z e = cc

int_known : (t : Type') (z : ℤ) → is_of t (single (Int z)) ≡ true → number_fits z ≡ true
int_known (basic b) z e = basic_known b z e
int_known (array n t) z e = cc
int_known (slice t) z e = cc
int_known (struct fs) z e = cc
int_known (named path name t) z e = int_known t z e

-- the machine knows the cells of constants
pub constant_known : (t : Type') (c : Const) → is_of t (single (cell_of c)) ≡ true → cell_fits (cell_of c) ≡ true
constant_known t (consts.Integer z) e = int_known t z e
constant_known t (consts.Text s) e = refl
constant_known t (consts.Bool b) e = refl

-- ---- parts, as instructions read them

pub part_reads : (whole first count : ℕ) (before row after : List Cell) → length (before ++ (row ++ after)) ≡ whole → length before ≡ first → length row ≡ count → part (Part whole first count) (before ++ (row ++ after)) ≡ operators.Gives row
part_reads whole first count before row after w p c =
    let all : List Cell = before ++ (row ++ after) in
    let within : first + count ≤ whole = omega (arith, w, p, c, length-append before (row ++ after), length-append row after) in
    if_true (nat_le (first + count) whole) _ operators.Senseless (le-leb _ _ within)
    ∙ ap (λ n. operators.Gives (take count (drop n all))) (sym p)
    ∙ ap (λ l. operators.Gives (take count l)) (drop-append_seam before (row ++ after))
    ∙ ap (λ n. operators.Gives (take n (row ++ after))) (sym c)
    ∙ ap operators.Gives (take-append_seam row after)

pub picks : (count size : ℕ) (row : List Cell) (z : ℤ) → length row ≡ count * size → part (Pick count size) (row ++ Int z ∷ []) ≡ bind_index (index_below count (Int z)) (λ index. operators.Gives (take size (drop (index * size) row)))
picks count size row z long =
    let all : List Cell = row ++ Int z ∷ [] in
    ap (λ n. picked count size (take n all) (drop n all)) (sym long)
    ∙ ap (λ l. picked count size l (drop (length row) all)) (take-append_seam row (Int z ∷ []))
    ∙ ap (picked count size row) (drop-append_seam row (Int z ∷ []))

pub nth_within : (vs : Values) (n : ℕ) (x : Value) → nth vs n ≡ Some x → n < length (unpack vs)
nth_within no_values n x e = cc
nth_within (some_values v vs) zero x e = omega arith
nth_within (some_values v vs) (suc n) x e = let h = nth_within vs n x e in omega (arith, h)

pub nth_beyond : (vs : Values) (n : ℕ) → nth vs n ≡ None → length (unpack vs) ≤ n
nth_beyond no_values n e = omega arith
nth_beyond (some_values v vs) zero e = cc
nth_beyond (some_values v vs) (suc n) e = let h = nth_beyond vs n e in omega (arith, h)

pub nth_typed : (is : Value → Bool) (vs : Values) (n : ℕ) (x : Value) → list_all is (unpack vs) ≡ true → nth vs n ≡ Some x → is x ≡ true
nth_typed is no_values n x all e = cc
nth_typed is (some_values v vs) zero x all e = subst (λ y. is y ≡ true) (same_value v x e) (both_true (is v) (list_all is (unpack vs)) all).0
nth_typed is (some_values v vs) (suc n) x all e = nth_typed is vs n x (both_true (is v) (list_all is (unpack vs)) all).1 e

-- an element that there is, and one that there isn't
pub element_picked : (count : ℕ) (t : Type') (vs : Values) (n : ℕ) (x : Value) → is_of (array count t) (parts vs) ≡ true → nth vs n ≡ Some x → part (Pick count (cells t)) (flat_all vs ++ Int (pos n) ∷ []) ≡ operators.Gives (flat x)
element_picked count t vs n x typed e =
    let h = both_true (nat_eq (length (unpack vs)) count) (list_all (is_of t) (unpack vs)) typed in
    let within : n < count = omega (arith, nth_within vs n x e, same_number (length (unpack vs)) count h.0) in
    let at = element_among t vs n x h.1 e in
    picks count (cells t) (flat_all vs) (pos n) (flat_long (array count t) (parts vs) typed)
    ∙ ap (λ o. bind_index o (λ index. operators.Gives (take (cells t) (drop (index * cells t) (flat_all vs))))) (if_true (nat_lt n count) (operators.Gives n) (operators.Panics Out_of_range) (le-leb (suc n) count (omega (arith, within))))
    ∙ ap (λ l. operators.Gives (take (cells t) (drop (n * cells t) l))) at.is
    ∙ ap (λ m. operators.Gives (take (cells t) (drop m (at.before ++ (flat x ++ at.after))))) (sym at.place)
    ∙ ap (λ l. operators.Gives (take (cells t) l)) (drop-append_seam at.before (flat x ++ at.after))
    ∙ ap (λ m. operators.Gives (take m (flat x ++ at.after))) (sym (flat_long t x (nth_typed (is_of t) vs n x h.1 e)))
    ∙ ap operators.Gives (take-append_seam (flat x) at.after)

pub element_missed : (count : ℕ) (t : Type') (vs : Values) (n : ℕ) → is_of (array count t) (parts vs) ≡ true → nth vs n ≡ None → part (Pick count (cells t)) (flat_all vs ++ Int (pos n) ∷ []) ≡ operators.Panics Out_of_range
element_missed count t vs n typed e =
    let h = both_true (nat_eq (length (unpack vs)) count) (list_all (is_of t) (unpack vs)) typed in
    let beyond : count ≤ n = omega (arith, nth_beyond vs n e, same_number (length (unpack vs)) count h.0) in
    let test : nat_lt n count ≡ false = lt-leb (suc n) count (omega (arith, beyond)) in
    picks count (cells t) (flat_all vs) (pos n) (flat_long (array count t) (parts vs) typed)
    ∙ ap (λ b. bind_index (if b then operators.Gives n else operators.Panics Out_of_range) (λ index. operators.Gives (take (cells t) (drop (index * cells t) (flat_all vs))))) test

pub element_below : (count : ℕ) (t : Type') (vs : Values) (n : ℕ) → is_of (array count t) (parts vs) ≡ true → part (Pick count (cells t)) (flat_all vs ++ Int (negsuc n) ∷ []) ≡ operators.Panics Out_of_range
element_below count t vs n typed = picks count (cells t) (flat_all vs) (negsuc n) (flat_long (array count t) (parts vs) typed)
