-- A range's counter: what its numbers come to, and the two cells where the range and the counter lie.
use Rattle.std.proofs.Common.{◌≡◌, ℕ, suc, ◌+◌, ◌<◌, Bool, true, false, cond, nat_lt, List, [], ◌∷◌, ◌++◌, length, ℤ, pos, negsuc, ◌+ℤ◌, ◌-ℤ◌, Some, refl, sym, ap, ◌∙◌, arith, length-append, append_assoc}
use Rattle.std.specs.Int.{int_rem_euclid}
use Rattle.std.proofs.Common.{Less as Smaller, Greater, Equal}
use Rattle.std.specs.Ordering.{int_cmp}
use Rattle.std.proofs.lemmas.Bool.{lt-leb, leb-true}
use Rattle.std.proofs.lemmas.Int.{ints}
use Rattle.std.proofs.Math.Nat.{mod-eq_of_lt}
use Rattle.go_const.specs.Constants.{sizes, fits, holds}
use Rattle.go_const.specs.declared.kind.IntKind.{IntKind}
use Rattle.go_const.specs.declared.operator.ArithmeticOperator.TheVariants.{Add}
use Rattle.go_const.specs.declared.operator.ComparisonOperator.TheVariants.{Less}
use Rattle.go_types.specs.declared.types.Basic.TheVariants as basics
use Rattle.go_types.specs.declared.types.Untyped.TheVariants as untypeds
use Rattle.go_types.specs.Types.{Type', basic, array, slice, struct, named}
use Rattle.go_types.specs.Relations.{underlying}
use Rattle.go_code.specs.declared.cell.Cell.{Cell}
use Rattle.go_code.specs.declared.cell.Cell.TheVariants.{Int, Bool as Truth}
use Rattle.go_code.specs.declared.image.Start.{Start}
use Rattle.go_code.specs.declared.instr.Instr.{Instr}
use Rattle.go_code.specs.declared.instr.Instr.TheVariants.{Frame as In_frame, Operate}
use Rattle.go_code.specs.declared.instr.FrameInstr.TheVariants.{Push}
use Rattle.go_code.specs.declared.operator.Operator as on_cells
use Rattle.go_code.specs.declared.operator.Operator.TheVariants.{Arithmetic, Compare}
use Rattle.go_code.specs.Finals.{Final}
use Rattle.go_code.specs.Images.{Image}
use Rattle.go_code.specs.Lines.{cell_fits}
use Rattle.go_code.specs.Machine.{Frame}
use Rattle.go_code.specs.Operators as operators
use Rattle.go_code.specs.Operators.{operands, operate, wrapped}
use Rattle.go_code.proofs.Follows.{push_leads}
use Rattle.go_code.proofs.FollowsInside.{operate_leads}
use Rattle.go_code.proofs.Stands.{stands_next}
use Rattle.go_meaning.specs.Values.{single, is_of}
use Rattle.go_meaning.specs.Meaning.{ProgramState}
use Rattle.go_gen.specs.Translation.{Places, load, store, within_code, operators_code}
use Rattle.go_translation_laws.proofs.Runs.{here, On}
use Rattle.go_translation_laws.proofs.Rows.{on_front, loads, stores}

-- ---- numbers

-- a type with a number has numbers of an integer type
pub record IsInteger (t : Type') (z : ℤ) : Type 0 where
  pub kind : IntKind
  pub is : underlying t ≡ basic (basics.Integer kind)
  pub fit : fits (Some kind) z ≡ true

pub integer_type : (t : Type') (z : ℤ) → is_of t (single (Int z)) ≡ true → IsInteger t z
integer_type (basic basics.Bool) z e = cc
integer_type (basic basics.String) z e = cc
integer_type (basic (basics.Integer i)) z e = record { kind = i; is = refl; fit = e }
integer_type (basic (basics.Untyped untypeds.Bool)) z e = cc
integer_type (basic (basics.Untyped untypeds.Int)) z e = cc
integer_type (basic (basics.Untyped untypeds.Rune)) z e = cc
integer_type (basic (basics.Untyped untypeds.String)) z e = cc
integer_type (array n t) z e = cc
integer_type (slice t) z e = cc
integer_type (struct fs) z e = cc
integer_type (named path name t) z e = let h = integer_type t z e in record { kind = h.kind; is = h.is; fit = h.fit }

rem_itself : (m n : ℕ) → m < n → int_rem_euclid (pos m) (pos n) ≡ pos m
rem_itself m n l = ap pos (mod-eq_of_lt l)

kept_by : (s t n : ℕ) → n < t → int_rem_euclid (pos n +ℤ pos s) (pos (s + t)) -ℤ pos s ≡ pos n
kept_by s t n f =
    let less : n + s < s + t = omega (arith, f) in
    let e : pos (n + s) -ℤ pos s ≡ pos n = omega (arith, ints) in
    ap (λ r. r -ℤ pos s) (rem_itself (n + s) (s + t) less) ∙ e

-- a counter below a number of its type is counted up without being wrapped
pub counted_up : (kind : IntKind) (c h : ℕ) → nat_lt c h ≡ true → fits (Some kind) (pos h) ≡ true → wrapped kind (pos c +ℤ pos 1) ≡ pos (c + 1)
counted_up kind c h below fit =
    let one = leb-true (suc c) h below in
    let two = leb-true (suc h) (sizes (Some kind)).1 fit in
    kept_by (sizes (Some kind)).0 (sizes (Some kind)).1 (c + 1) (omega (arith, one, two))

-- no counter is below a negative number
pub compares_below : (c h : ℕ) → holds Less (int_cmp (pos c) (pos h)) ≡ nat_lt c h
compares_below c h = by_test (nat_lt c h) (nat_lt h c)
  where
    by_test : (a b : Bool) → holds Less (cond a Smaller (cond b Greater Equal)) ≡ a
    by_test true b = refl
    by_test false true = refl
    by_test false false = refl

pub compares_negative : (c h : ℕ) → holds Less (int_cmp (pos c) (negsuc h)) ≡ nat_lt c 0
compares_negative c h = let above : 0 < suc c = omega arith in sym (lt-leb (suc c) 0 above)

-- ---- the two cells

-- counts up by one, with these operators
abbrev pub up_code : ℕ → List on_cells.Operator → List (Instr ℕ)
up_code at ops = load (at + 1) 1 ∷ In_frame (Push (Int (pos 1))) ∷ operators_code ops ++ store (at + 1) 1 ∷ []

module _ (image : Image) (final : Final) (depth : ℕ) (code : List (Instr ℕ)) (callers : List Frame) (starts : List Start) (p : Places ℕ) where
  abbrev Onto : ℕ → List (Instr ℕ) → List Cell → ℕ → List Cell → ProgramState → Type 0
  Onto t k front m stack w = On image final depth code callers starts p t k front m stack w

  pub pushes : (t : ℕ) (c : Cell) (k : List (Instr ℕ)) (front : List Cell) (m : ℕ) (stack : List Cell) (w : ProgramState) → cell_fits c ≡ true → Onto t k front m (stack ++ c ∷ []) w → Onto t (In_frame (Push c) ∷ k) front m stack w
  pushes t c k front m stack w known_cell on known few place high long s =
      push_leads image (here image final depth code callers starts p place (front ++ high) stack w) _ callers c k final refl s known_cell
      (on known few (place + 1) high long (stands_next code place _ k s))

  pub operates : (t : ℕ) (operator : on_cells.Operator) (row : List Cell) (c : Cell) (k : List (Instr ℕ)) (front : List Cell) (m : ℕ) (stack : List Cell) (w : ProgramState) → length row ≡ operands operator → operate operator row ≡ operators.Gives c → Onto t k front m (stack ++ c ∷ []) w → Onto t (Operate operator ∷ k) front m (stack ++ row) w
  operates t operator row c k front m stack w size e on known few place high long s =
      operate_leads image (here image final depth code callers starts p place (front ++ high) (stack ++ row) w) _ callers operator stack row c final (record { frames = refl; rest = k; stands = s }) (record { is = refl; long = size }) e
      (on known few (place + 1) high long (stands_next code place _ k s))

  -- the first and the second of two cells
  module _ (at : ℕ) (front : List Cell) (long : length front ≡ at) (t m : ℕ) (k : List (Instr ℕ)) where
    behind : (x y : Cell) → (front ++ x ∷ []) ++ y ∷ [] ≡ front ++ x ∷ y ∷ []
    behind x y = append_assoc front (x ∷ []) (y ∷ [])

    second : (x : Cell) → length (front ++ x ∷ []) ≡ at + 1
    second x = omega (arith, long, length-append front (x ∷ []))

    pub loads_first : (x y : Cell) (stack : List Cell) (w : ProgramState) → Onto t k (front ++ x ∷ y ∷ []) m (stack ++ x ∷ []) w → Onto t (load at 1 ∷ k) (front ++ x ∷ y ∷ []) m stack w
    loads_first x y stack w on = loads image final depth code callers starts p t at 1 front (x ∷ []) (y ∷ []) k m stack w long refl on

    pub loads_second : (x y : Cell) (stack : List Cell) (w : ProgramState) → Onto t k (front ++ x ∷ y ∷ []) m (stack ++ y ∷ []) w → Onto t (load (at + 1) 1 ∷ k) (front ++ x ∷ y ∷ []) m stack w
    loads_second x y stack w on =
        on_front image final depth code callers starts p t (load (at + 1) 1 ∷ k) ((front ++ x ∷ []) ++ y ∷ []) (front ++ x ∷ y ∷ []) m stack w (behind x y)
        (loads image final depth code callers starts p t (at + 1) 1 (front ++ x ∷ []) (y ∷ []) [] k m stack w (second x) refl
        (on_front image final depth code callers starts p t k (front ++ x ∷ y ∷ []) ((front ++ x ∷ []) ++ y ∷ []) m (stack ++ y ∷ []) w (sym (behind x y)) on))

    pub stores_first : (x y z : Cell) (stack : List Cell) (w : ProgramState) → Onto t k (front ++ z ∷ y ∷ []) m stack w → Onto t (store at 1 ∷ k) (front ++ x ∷ y ∷ []) m (stack ++ z ∷ []) w
    stores_first x y z stack w on = stores image final depth code callers starts p t at 1 front (x ∷ []) (z ∷ []) (y ∷ []) k m stack w long refl refl on

    pub stores_second : (x y z : Cell) (stack : List Cell) (w : ProgramState) → Onto t k (front ++ x ∷ z ∷ []) m stack w → Onto t (store (at + 1) 1 ∷ k) (front ++ x ∷ y ∷ []) m (stack ++ z ∷ []) w
    stores_second x y z stack w on =
        on_front image final depth code callers starts p t (store (at + 1) 1 ∷ k) ((front ++ x ∷ []) ++ y ∷ []) (front ++ x ∷ y ∷ []) m (stack ++ z ∷ []) w (behind x y)
        (stores image final depth code callers starts p t (at + 1) 1 (front ++ x ∷ []) (y ∷ []) (z ∷ []) [] k m stack w (second x) refl refl
        (on_front image final depth code callers starts p t k (front ++ x ∷ z ∷ []) ((front ++ x ∷ []) ++ z ∷ []) m stack w (sym (behind x z)) on))

  -- whether the counter is below the range
  pub within_follows : (at : ℕ) (front : List Cell) → length front ≡ at → (t m : ℕ) (k : List (Instr ℕ)) (z : ℤ) (c : ℕ) (b : Bool) (w : ProgramState) → holds Less (int_cmp (pos c) z) ≡ b → Onto t k (front ++ Int z ∷ Int (pos c) ∷ []) m (Truth b ∷ []) w → Onto t (within_code at ++ k) (front ++ Int z ∷ Int (pos c) ∷ []) m [] w
  within_follows at front long t m k z c b w e on =
      loads_second at front long t m (load at 1 ∷ Operate (Compare Less) ∷ k) (Int z) (Int (pos c)) [] w
      (loads_first at front long t m (Operate (Compare Less) ∷ k) (Int z) (Int (pos c)) (Int (pos c) ∷ []) w
      (operates t (Compare Less) (Int (pos c) ∷ Int z ∷ []) (Truth b) k (front ++ Int z ∷ Int (pos c) ∷ []) m [] w refl (ap (λ v. operators.Gives (Truth v)) e) on))

  -- the counter is counted up
  pub up_follows : (at : ℕ) (front : List Cell) → length front ≡ at → (t m : ℕ) (k : List (Instr ℕ)) (kind : IntKind) (x : Cell) (c : ℕ) (w : ProgramState) → wrapped kind (pos c +ℤ pos 1) ≡ pos (c + 1) → Onto t k (front ++ x ∷ Int (pos (c + 1)) ∷ []) m [] w → Onto t (up_code at (Arithmetic Add kind ∷ []) ++ k) (front ++ x ∷ Int (pos c) ∷ []) m [] w
  up_follows at front long t m k kind x c w e on =
      loads_second at front long t m (In_frame (Push (Int (pos 1))) ∷ Operate (Arithmetic Add kind) ∷ store (at + 1) 1 ∷ k) x (Int (pos c)) [] w
      (pushes t (Int (pos 1)) (Operate (Arithmetic Add kind) ∷ store (at + 1) 1 ∷ k) (front ++ x ∷ Int (pos c) ∷ []) m (Int (pos c) ∷ []) w refl
      (operates t (Arithmetic Add kind) (Int (pos c) ∷ Int (pos 1) ∷ []) (Int (pos (c + 1))) (store (at + 1) 1 ∷ k) (front ++ x ∷ Int (pos c) ∷ []) m [] w refl (ap (λ v. operators.Gives (Int v)) e)
      (stores_second at front long t m k x (Int (pos c)) (Int (pos (c + 1))) [] w on)))
