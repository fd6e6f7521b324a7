-- Rows of slices, computed on the definitions.
use Rattle.std.proofs.Common.{◌≡◌, ℕ, List, [], ◌∷◌, Some, refl, negsuc}
use Rattle.std.specs.Prelude.{codes, ⊤}
use Rattle.go_const.specs.declared.constant.Const.TheVariants as consts
use Rattle.go_types.specs.declared.types.Basic.TheVariants as basics
use Rattle.go_const.specs.declared.kind.IntKind.TheVariants as integers
use Rattle.go_types.specs.Types as types
use Rattle.go_types.specs.Types.{Type'}
use Rattle.go_code.specs.declared.cell.Cell.{Cell}
use Rattle.go_code.specs.declared.cell.Cell.TheVariants.{Text}
use Rattle.go_code.specs.declared.ending.Ending.TheVariants.{Panicked}
use Rattle.go_code.specs.declared.ending.PanicKind.TheVariants.{Index, Slice as Bounds, Make as Making, Long}
use Rattle.go_const.specs.declared.operator.ArithmeticOperator.TheVariants.{Add}
use Rattle.go_typed.specs.declared.expression.Operator.TheVariants.{Arithmetic as arithmetic}
use Rattle.go_typed.specs.Trees as trees
use Rattle.go_typed.specs.Trees.{Expr, constant, local, index, cut, make, append, absent, present, capacity, literal, part, no_parts, update, here, to_element, of_local, of_slice, each, Stmt, define, assign, print, pack_exprs}
use Rattle.go_meaning.specs.Meaning.{Outcome, Gives, Ends}
use Rattle.go_meaning.specs.Programs.{run_program}
pub use Rattle.go_meaning.proofs.Computed.{int, string, n, out, ints}
use Rattle.go_meaning.proofs.Computed.{main_of}

abbrev pub ints_type : Type'
ints_type = types.slice int

abbrev pub numbers : List ℕ → List Expr
numbers [] = []
numbers (k ∷ ks) = n k ∷ numbers ks

-- []int{..}
abbrev pub list : List ℕ → Expr
list ks = append ints_type absent (pack_exprs (numbers ks))

abbrev pub of : ℕ → Expr
of k = local ints_type k

abbrev pub at : ℕ → ℕ → Expr
at s k = index int (of s) (n k)

abbrev pub len : ℕ → Expr
len k = trees.length int (of k)

abbrev pub cap : ℕ → Expr
cap k = capacity int (of k)

abbrev pub var : ℕ → Expr → Stmt
var k e = define (Some k ∷ []) (each (pack_exprs (e ∷ [])))

-- how it ends, without its arrays
abbrev pub Prints : Outcome ⊤ → List (List Cell) → Type 0
Prints o rows = elim o [ Gives done w ↦ w.output ≡ out [] rows | Ends e text ↦ ⊥ | Outcome.Stuck ↦ ⊥ ]

-- s := []int{1, 2, 3}; t := s[:2]; t = append(t, 9); fmt.Println(s[2], len(t), cap(t))
abbrev pub one : List Stmt
one =
    var 0 (list (1 ∷ 2 ∷ 3 ∷ []))
    ∷ var 1 (cut ints_type (of 0) (n 0) (present (n 2)))
    ∷ assign (of_local ints_type 1 here ∷ []) (each (pack_exprs (append ints_type (present (of 1)) (pack_exprs (n 9 ∷ [])) ∷ [])))
    ∷ print (pack_exprs (at 0 2 ∷ len 1 ∷ cap 1 ∷ []))
    ∷ []

pub row_one : Prints (run_program (main_of (ints_type ∷ ints_type ∷ []) one) 1) (ints (9 ∷ 3 ∷ 3 ∷ []) ∷ [])
unfolding Rattle.go_meaning.specs.Meaning.most_cells Rattle.go_text.specs.Editions.most_open Rattle.go_code.specs.Rows.most_room
row_one = refl

-- s := []int{1, 2, 3}; u := append(s, 4); u[0] = 7; fmt.Println(s[0], u[0], len(u), cap(u)); u = u[:6]; fmt.Println(u[5])
abbrev pub two : List Stmt
two =
    var 0 (list (1 ∷ 2 ∷ 3 ∷ []))
    ∷ var 1 (append ints_type (present (of 0)) (pack_exprs (n 4 ∷ [])))
    ∷ assign (of_slice ints_type (of 1) (to_element (n 0) here) ∷ []) (each (pack_exprs (n 7 ∷ [])))
    ∷ print (pack_exprs (at 0 0 ∷ at 1 0 ∷ len 1 ∷ cap 1 ∷ []))
    ∷ assign (of_local ints_type 1 here ∷ []) (each (pack_exprs (cut ints_type (of 1) (n 0) (present (n 6)) ∷ [])))
    ∷ print (pack_exprs (at 1 3 ∷ at 1 5 ∷ []))
    ∷ []

pub row_two : Prints (run_program (main_of (ints_type ∷ ints_type ∷ []) two) 1) (ints (1 ∷ 7 ∷ 4 ∷ 6 ∷ []) ∷ ints (4 ∷ 0 ∷ []) ∷ [])
unfolding Rattle.go_meaning.specs.Meaning.most_cells Rattle.go_text.specs.Editions.most_open Rattle.go_code.specs.Rows.most_room
row_two = refl

-- s := []int{1}; t := []int{2}; r := s; s, s[0] = t, 5; fmt.Println(r[0], s[0])
abbrev pub three_of : List Stmt
three_of =
    var 0 (list (1 ∷ []))
    ∷ var 1 (list (2 ∷ []))
    ∷ var 2 (of 0)
    ∷ assign (of_local ints_type 0 here ∷ of_slice ints_type (of 0) (to_element (n 0) here) ∷ []) (each (pack_exprs (of 1 ∷ n 5 ∷ [])))
    ∷ print (pack_exprs (at 2 0 ∷ at 0 0 ∷ []))
    ∷ []

pub row_three : Prints (run_program (main_of (ints_type ∷ ints_type ∷ ints_type ∷ []) three_of) 1) (ints (5 ∷ 2 ∷ []) ∷ [])
unfolding Rattle.go_meaning.specs.Meaning.most_cells Rattle.go_text.specs.Editions.most_open Rattle.go_code.specs.Rows.most_room
row_three = refl

-- s := "abc"; fmt.Println(s[1:])
abbrev pub four : List Stmt
four =
    var 0 (constant string (consts.Text (codes "abc")))
    ∷ print (pack_exprs (cut string (local string 0) (n 1) absent ∷ []))
    ∷ []

pub row_four : Prints (run_program (main_of (string ∷ []) four) 1) ((Text (codes "bc") ∷ []) ∷ [])
unfolding Rattle.go_text.specs.Editions.most_open
row_four = refl

-- s := []int{1}; fmt.Println(len(s[1:1]), len(s[1:])); and there s[1:3]
abbrev pub five : Expr → List Stmt
five e = var 0 (list (1 ∷ [])) ∷ print (pack_exprs (trees.length int e ∷ [])) ∷ []

abbrev pub slice_of_it : ℕ → ℕ → Expr
slice_of_it a b = cut ints_type (of 0) (n a) (present (n b))

pub row_five : Prints (run_program (main_of (ints_type ∷ []) (five (slice_of_it 1 1))) 1) (ints (0 ∷ []) ∷ [])
unfolding Rattle.go_text.specs.Editions.most_open Rattle.go_code.specs.Rows.most_room
row_five = refl

pub row_five_slice : run_program (main_of (ints_type ∷ []) (five (slice_of_it 1 3))) 1 ≡ Ends (Panicked Bounds) []
unfolding Rattle.go_text.specs.Editions.most_open Rattle.go_code.specs.Rows.most_room
row_five_slice = refl

-- n := -1; s := make([]int, n)
pub row_five_make : run_program (main_of (int ∷ ints_type ∷ []) (var 0 (constant int (consts.Integer (negsuc 0))) ∷ var 1 (make ints_type (local int 0) absent) ∷ [])) 1 ≡ Ends (Panicked Making) []
unfolding Rattle.go_text.specs.Editions.most_open
row_five_make = refl

-- s := make([]int, 2, 1); make([]int, 16777217)
pub row_make_above : run_program (main_of (ints_type ∷ []) (var 0 (make ints_type (n 2) (present (n 1))) ∷ [])) 1 ≡ Ends (Panicked Making) []
unfolding Rattle.go_text.specs.Editions.most_open
row_make_above = refl

pub row_make_long : run_program (main_of (ints_type ∷ []) (var 0 (make ints_type (n 16777217) absent) ∷ [])) 1 ≡ Ends (Panicked Long) []
unfolding Rattle.go_text.specs.Editions.most_open Rattle.go_code.specs.Rows.most_room
row_make_long = refl

-- s := [][2]int{{1, 2}, {3, 4}}; s[1][0] += 5; fmt.Println(s[0][0], s[1][0], s[1][1]); s[1][2] is out of range by a variable; s[2]
abbrev pub pair : Type'
pair = types.array 2 int

abbrev pub pairs : Type'
pairs = types.slice pair

abbrev pub six : ℕ → ℕ → List Stmt
six i j =
    var 0 (append pairs absent (pack_exprs (literal pair (part 0 (n 1) (part 1 (n 2) no_parts)) ∷ literal pair (part 0 (n 3) (part 1 (n 4) no_parts)) ∷ [])))
    ∷ var 1 (n i)
    ∷ var 2 (n j)
    ∷ update int (of_slice pairs (local pairs 0) (to_element (local int 1) (to_element (local int 2) here))) (arithmetic Add) (n 5)
    ∷ print (pack_exprs (index int (index pair (local pairs 0) (n 0)) (n 0) ∷ index int (index pair (local pairs 0) (n 1)) (n 0) ∷ index int (index pair (local pairs 0) (n 1)) (n 1) ∷ []))
    ∷ []

pub row_six : Prints (run_program (main_of (pairs ∷ int ∷ int ∷ []) (six 1 0)) 1) (ints (1 ∷ 8 ∷ 4 ∷ []) ∷ [])
unfolding Rattle.go_meaning.specs.Meaning.most_cells Rattle.go_text.specs.Editions.most_open Rattle.go_code.specs.Rows.most_room
row_six = refl

pub row_six_index : run_program (main_of (pairs ∷ int ∷ int ∷ []) (six 2 0)) 1 ≡ Ends (Panicked Index) []
unfolding Rattle.go_meaning.specs.Meaning.most_cells Rattle.go_text.specs.Editions.most_open Rattle.go_code.specs.Rows.most_room
row_six_index = refl
