-- The rows of slices on the machine: the code of each program, and where its steps lead.
use Rattle.std.proofs.Common.{◌≡◌, ℕ, List, [], ◌∷◌, Option, Some, refl, negsuc}
use Rattle.std.specs.Prelude.{codes}
use Rattle.go_const.specs.declared.constant.Const.TheVariants as consts
use Rattle.go_types.specs.Types.{Type'}
use Rattle.go_code.specs.declared.cell.Cell.{Cell}
use Rattle.go_code.specs.declared.cell.Cell.TheVariants.{Text}
use Rattle.go_code.specs.declared.ending.Ending.TheVariants.{Panicked, Ended}
use Rattle.go_code.specs.declared.ending.PanicKind.TheVariants.{Index, Slice as Bounds, Make as Making, Long}
use Rattle.go_code.specs.Finals.{Final, Ends}
use Rattle.go_code.specs.Machine.{within, started}
use Rattle.go_typed.specs.Trees.{Stmt, make, absent, local, constant}
use Rattle.go_meaning.proofs.ComputedSlices.{int, string, n, out, ints, ints_type, pairs, one, two, three_of, four, five, six, slice_of_it, var}
use Rattle.go_translation_laws.proofs.Computed.{main_of, image_of}

-- what is reached with one tick in so many steps at most
abbrev reached : ℕ → List Type' → List Stmt → Option Final
reached steps locals body = within (image_of (main_of locals body)) steps (started (image_of (main_of locals body)) 1)

abbrev prints : List (List Cell) → Option Final
prints rows = Some (Ends Ended (out [] rows))

pub row_one : reached 60 (ints_type ∷ ints_type ∷ []) one ≡ prints (ints (9 ∷ 3 ∷ 3 ∷ []) ∷ [])
unfolding Rattle.go_text.specs.Editions.most_open Rattle.go_code.specs.Rows.most_room
row_one = refl

pub row_two : reached 90 (ints_type ∷ ints_type ∷ []) two ≡ prints (ints (1 ∷ 7 ∷ 4 ∷ 6 ∷ []) ∷ ints (4 ∷ 0 ∷ []) ∷ [])
unfolding Rattle.go_text.specs.Editions.most_open Rattle.go_code.specs.Rows.most_room
row_two = refl

pub row_three : reached 90 (ints_type ∷ ints_type ∷ ints_type ∷ []) three_of ≡ prints (ints (5 ∷ 2 ∷ []) ∷ [])
unfolding Rattle.go_text.specs.Editions.most_open Rattle.go_code.specs.Rows.most_room
row_three = refl

pub row_four : reached 30 (string ∷ []) four ≡ prints ((Text (codes "bc") ∷ []) ∷ [])
unfolding Rattle.go_text.specs.Editions.most_open
row_four = refl

pub row_five : reached 30 (ints_type ∷ []) (five (slice_of_it 1 1)) ≡ prints (ints (0 ∷ []) ∷ [])
unfolding Rattle.go_text.specs.Editions.most_open Rattle.go_code.specs.Rows.most_room
row_five = refl

pub row_five_slice : reached 30 (ints_type ∷ []) (five (slice_of_it 1 3)) ≡ Some (Ends (Panicked Bounds) [])
unfolding Rattle.go_text.specs.Editions.most_open Rattle.go_code.specs.Rows.most_room
row_five_slice = refl

pub row_five_make : reached 30 (int ∷ ints_type ∷ []) (var 0 (constant int (consts.Integer (negsuc 0))) ∷ var 1 (make ints_type (local int 0) absent) ∷ []) ≡ Some (Ends (Panicked Making) [])
unfolding Rattle.go_text.specs.Editions.most_open
row_five_make = refl

pub row_make_long : reached 30 (ints_type ∷ []) (var 0 (make ints_type (n 16777217) absent) ∷ []) ≡ Some (Ends (Panicked Long) [])
unfolding Rattle.go_text.specs.Editions.most_open Rattle.go_code.specs.Rows.most_room
row_make_long = refl

pub row_six : reached 120 (pairs ∷ int ∷ int ∷ []) (six 1 0) ≡ prints (ints (1 ∷ 8 ∷ 4 ∷ []) ∷ [])
unfolding Rattle.go_text.specs.Editions.most_open Rattle.go_code.specs.Rows.most_room
row_six = refl

pub row_six_index : reached 120 (pairs ∷ int ∷ int ∷ []) (six 2 0) ≡ Some (Ends (Panicked Index) [])
unfolding Rattle.go_text.specs.Editions.most_open Rattle.go_code.specs.Rows.most_room
row_six_index = refl
