-- Rows of cells in a frame: how they are read and written, and those of the local variables, which lie side by side.
use Rattle.std.proofs.Common.{◌≡◌, ℕ, zero, suc, ◌+◌, ◌≤◌, Bool, true, nat_le, List, [], ◌∷◌, ◌++◌, length, map, take, drop, Option, Some, None, refl, sym, ap, ◌∙◌, subst, arith, length-append, append_assoc}
use Rattle.std.specs.Prelude.{if◌then◌else◌, slice_get, slice_set, slice_index, ⊤}
use Rattle.std.proofs.lemmas.Bool.{le-leb}
use Rattle.std.proofs.Math.Seq.{take-append_seam, drop-append_seam, drop-append-add}
use Rattle.go_types.specs.Types.{Type'}
use Rattle.go_types.specs.Sizes.{cells}
use Rattle.go_code.specs.declared.cell.Cell.{Cell}
use Rattle.go_code.specs.Accesses.{cells_at, cells_with}
use Rattle.go_meaning.specs.Values.{Value, flat}
use Rattle.go_meaning.specs.Meaning.{Local, Locals}
use Rattle.go_gen.specs.Translation.{slots}

-- ---- rows

pub if_true : {A : Type 0} (b : Bool) (x y : A) → b ≡ true → (if b then x else y) ≡ x
if_true b x y e = ap (λ v. if v then x else y) e

pub read_row : (front row back : List Cell) (place count : ℕ) → length front ≡ place → length row ≡ count → cells_at (front ++ (row ++ back)) place count ≡ Some row
read_row front row back place count p c =
    let all : List Cell = front ++ (row ++ back) in
    let within : place + count ≤ length all = omega (arith, p, c, length-append front (row ++ back), length-append row back) in
    if_true (nat_le (place + count) (length all)) _ None (le-leb _ _ within)
    ∙ ap (λ n. Some (take count (drop n all))) (sym p)
    ∙ ap (λ l. Some (take count l)) (drop-append_seam front (row ++ back))
    ∙ ap (λ n. Some (take n (row ++ back))) (sym c)
    ∙ ap Some (take-append_seam row back)

pub write_row : (front old new back : List Cell) (place : ℕ) → length front ≡ place → length new ≡ length old → cells_with (front ++ (old ++ back)) place new ≡ Some (front ++ (new ++ back))
write_row front old new back place p c =
    let all : List Cell = front ++ (old ++ back) in
    let within : place + length new ≤ length all = omega (arith, p, c, length-append front (old ++ back), length-append old back) in
    if_true (nat_le (place + length new) (length all)) _ None (le-leb _ _ within)
    ∙ ap (λ n. Some ((take n all ++ new) ++ drop (n + length new) all)) (sym p)
    ∙ ap (λ l. Some ((l ++ new) ++ drop (length front + length new) all)) (take-append_seam front (old ++ back))
    ∙ ap (λ n. Some ((front ++ new) ++ drop (length front + n) all)) c
    ∙ ap (λ l. Some ((front ++ new) ++ l)) (drop-append-add front (old ++ back) (length old) ∙ drop-append_seam old back)
    ∙ ap Some (append_assoc front new back)

-- ---- local variables

-- a row for a local variable: as many cells as its type has, and its value's, where it has one
abbrev pub RowOf : List Cell → Option Value → Type 0
RowOf row None = ⊤
RowOf row (Some v) = row ≡ flat v

abbrev pub FitsOne : List Cell → Local → Type 0
FitsOne row l = (length row ≡ cells l.of) × RowOf row l.value

abbrev pub Fits : List (List Cell) → Locals → Type 0
Fits [] [] = ⊤
Fits [] (l ∷ ls) = ⊥
Fits (row ∷ rows) [] = ⊥
Fits (row ∷ rows) (l ∷ ls) = FitsOne row l × Fits rows ls

-- rows side by side
abbrev pub together : List (List Cell) → List Cell
together [] = []
together (row ∷ rows) = row ++ together rows

abbrev pub types_of : Locals → List Type'
types_of ls = map (λ l. l.of) ls

-- where another row is put in a local variable's place
pub record Renewed (rows : List (List Cell)) (locals : Locals) (before new after : List Cell) : Type 0 where
  pub others : List (List Cell)
  pub fits : Fits others locals
  pub is : together others ≡ before ++ (new ++ after)

-- the local variable of that number has a row, which lies where its slot says
pub record Lies (rows : List (List Cell)) (locals : Locals) (at n : ℕ) (l : Local) : Type 0 where
  pub before : List Cell
  pub row : List Cell
  pub after : List Cell
  pub is : together rows ≡ before ++ (row ++ after)
  pub place : slice_index (slots at (types_of locals)) n ≡ at + length before
  pub fits : FitsOne row l
  pub renewed : (m : Local) (new : List Cell) → FitsOne new m → Renewed rows (slice_set locals n m) before new after

same_some : {A : Type 0} (x y : A) → Some x ≡ Some y → x ≡ y
same_some x y e = cc

lies_first : (row : List Cell) (rows : List (List Cell)) (x : Local) (xs : Locals) (at : ℕ) → Fits (row ∷ rows) (x ∷ xs) → Lies (row ∷ rows) (x ∷ xs) at zero x
lies_first row rows x xs at f = record {
  before = [];
  row = row;
  after = together rows;
  is = refl;
  place = omega arith;
  fits = f.0;
  renewed = λ m new g. record { others = new ∷ rows; fits = (g, f.1); is = refl };
}

lies_next : (row : List Cell) (rows : List (List Cell)) (x l : Local) (xs : Locals) (at n : ℕ) → FitsOne row x → Lies rows xs (at + cells x.of) n l → Lies (row ∷ rows) (x ∷ xs) at (suc n) l
lies_next row rows x l xs at n f h =
    let place : slice_index (slots (at + cells x.of) (types_of xs)) n ≡ at + length (row ++ h.before) = omega (arith, h.place, f.0, length-append row h.before) in
    record {
      before = row ++ h.before;
      row = h.row;
      after = h.after;
      is = ap (λ r. row ++ r) h.is ∙ sym (append_assoc row h.before (h.row ++ h.after));
      place = place;
      fits = h.fits;
      renewed = λ m new g.
          let r = h.renewed m new g in
          record { others = row ∷ r.others; fits = (f, r.fits); is = ap (λ y. row ++ y) r.is ∙ sym (append_assoc row h.before (new ++ h.after)) };
    }

pub lies : (rows : List (List Cell)) (locals : Locals) (at n : ℕ) (l : Local) → Fits rows locals → slice_get locals n ≡ Some l → Lies rows locals at n l
lies [] [] at n l f e = cc
lies [] (x ∷ xs) at n l f e = absurd f
lies (row ∷ rows) [] at n l f e = absurd f
lies (row ∷ rows) (x ∷ xs) at zero l f e = subst (λ y. Lies (row ∷ rows) (x ∷ xs) at zero y) (same_some x l e) (lies_first row rows x xs at f)
lies (row ∷ rows) (x ∷ xs) at (suc n) l f e = lies_next row rows x l xs at n f.0 (lies rows xs (at + cells x.of) n l f.1 e)
