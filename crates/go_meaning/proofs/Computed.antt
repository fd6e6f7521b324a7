-- Rows computed on the definitions.
use Rattle.std.proofs.Common.{◌≡◌, ℕ, true, false, List, [], ◌∷◌, Some, None, refl, pos, negsuc, ◌++◌}
use Rattle.std.specs.Prelude.{codes, ⊤}
use Rattle.go_text.specs.declared.edition.Edition.TheVariants.{One}
use Rattle.go_const.specs.declared.constant.Const.TheVariants as consts
use Rattle.go_const.specs.declared.operator.UnaryOperator.TheVariants.{Negative}
use Rattle.go_const.specs.declared.operator.ArithmeticOperator.TheVariants.{Add, Divide, Remainder}
use Rattle.go_const.specs.declared.operator.ComparisonOperator.TheVariants.{Less, Equal}
use Rattle.go_types.specs.declared.types.Basic.TheVariants as basics
use Rattle.go_const.specs.declared.kind.IntKind.TheVariants as integers
use Rattle.go_types.specs.Types as types
use Rattle.go_types.specs.Types.{Type'}
use Rattle.go_code.specs.declared.cell.Cell.{Cell}
use Rattle.go_code.specs.declared.cell.Cell.TheVariants.{Int, Bool as Truth, Text}
use Rattle.go_code.specs.Lines.{line_text}
use Rattle.go_code.specs.declared.ending.Ending.TheVariants.{Cut, Panicked}
use Rattle.go_code.specs.declared.ending.PanicKind.TheVariants.{Index, Depth, User}
use Rattle.go_typed.specs.declared.expression.Operator.TheVariants.{Arithmetic as arithmetic, Comparison as comparison}
use Rattle.go_typed.specs.Trees as trees
use Rattle.go_typed.specs.Trees.{Expr, constant, local, index, unary, binary, call, no_exprs, here, to_element, of_local, each, results, zeros, Stmt, Stmts, no_stmts, define, assign, update, print, panic, if_statement, for_statement, range_statement, switch_statement, break, continue, return, no_clauses, clause, pack_exprs, pack_stmts, Package}
use Rattle.go_meaning.specs.Values.{Value}
use Rattle.go_meaning.specs.Meaning.{Outcome, Gives, Ends}
use Rattle.go_meaning.specs.Programs.{call_at, run_program, first_arrays, first_world}

abbrev pub int : Type'
int = types.basic (basics.Integer integers.Int)

abbrev int8 : Type'
int8 = types.basic (basics.Integer integers.Int8)

abbrev bool : Type'
bool = types.basic basics.Bool

abbrev pub string : Type'
string = types.basic basics.String

abbrev three : Type'
three = types.array 3 int

abbrev pub n : ℕ → Expr
n k = constant int (consts.Integer (pos k))

abbrev x : Expr
x = local three 0

abbrev i : Expr
i = local int 0

-- a package main with one function main
abbrev pub main_of : List Type' → List Stmt → List Package
main_of locals body = record {
  path = codes "app";
  name = codes "main";
  edition = One;
  constants = [];
  types = [];
  variables = [];
  initializations = [];
  uses = [];
  functions = record { name = codes "main"; parameters = []; results = []; locals = locals; body = pack_stmts body } ∷ [];
} ∷ []

abbrev pub out : List ℕ → List (List Cell) → List ℕ
out before [] = before
out before (row ∷ rows) = out (before ++ line_text row) rows

abbrev pub ints : List ℕ → List Cell
ints [] = []
ints (k ∷ ks) = Int (pos k) ∷ ints ks

-- it ends with so many ticks left, and these lines
abbrev ended : ℕ → List (List Cell) → Outcome ⊤
ended ticks rows = Gives tt (record { ticks = ticks; variables = []; arrays = first_arrays; output = out [] rows })

-- for { fmt.Println(1) }, with 3 ticks
pub loop_is_cut : run_program (main_of [] (for_statement None no_stmts (pack_stmts (print (pack_exprs (n 1 ∷ [])) ∷ [])) ∷ [])) 3 ≡ Ends Cut (out [] (ints (1 ∷ []) ∷ ints (1 ∷ []) ∷ []))
unfolding Rattle.go_text.specs.Editions.most_open
loop_is_cut = refl

-- var x, y int = 7, 2; var m, n int8 = -128, -1; fmt.Println(-x/y, -x%y, m/n)
abbrev divisions : List Stmt
divisions =
    define (Some 0 ∷ Some 1 ∷ []) (each (pack_exprs (n 7 ∷ n 2 ∷ [])))
    ∷ define (Some 2 ∷ Some 3 ∷ []) (each (pack_exprs (constant int8 (consts.Integer (negsuc 127)) ∷ constant int8 (consts.Integer (negsuc 0)) ∷ [])))
    ∷ print (pack_exprs (
    binary int (arithmetic Divide) (unary int Negative (local int 0)) (local int 1)
    ∷ binary int (arithmetic Remainder) (unary int Negative (local int 0)) (local int 1)
    ∷ binary int8 (arithmetic Divide) (local int8 2) (local int8 3) ∷ []))
    ∷ []

pub divided : run_program (main_of (int ∷ int ∷ int8 ∷ int8 ∷ []) divisions) 1 ≡ ended 0 ((Int (negsuc 2) ∷ Int (negsuc 0) ∷ Int (negsuc 127) ∷ []) ∷ [])
unfolding Rattle.go_text.specs.Editions.most_open
divided = refl

-- var x [3]int; i := 0; i, x[i] = 1, 9; x[1], x[0] = x[0], x[1]; fmt.Println(i, x[0], x[1]); j := 3; x[j] = 1
abbrev tuples : List Stmt
tuples =
    define (Some 0 ∷ []) (zeros (three ∷ []))
    ∷ define (Some 1 ∷ []) (each (pack_exprs (n 0 ∷ [])))
    ∷ assign (of_local int 1 here ∷ of_local three 0 (to_element (local int 1) here) ∷ []) (each (pack_exprs (n 1 ∷ n 9 ∷ [])))
    ∷ assign (of_local three 0 (to_element (n 1) here) ∷ of_local three 0 (to_element (n 0) here) ∷ []) (each (pack_exprs (index int x (n 0) ∷ index int x (n 1) ∷ [])))
    ∷ print (pack_exprs (local int 1 ∷ index int x (n 0) ∷ index int x (n 1) ∷ []))
    ∷ define (Some 2 ∷ []) (each (pack_exprs (n 3 ∷ [])))
    ∷ assign (of_local three 0 (to_element (local int 2) here) ∷ []) (each (pack_exprs (n 1 ∷ [])))
    ∷ []

pub tuple_row : run_program (main_of (three ∷ int ∷ int ∷ []) tuples) 10 ≡ Ends (Panicked Index) (out [] (ints (1 ∷ 0 ∷ 9 ∷ []) ∷ []))
unfolding Rattle.go_meaning.specs.Meaning.most_cells Rattle.go_text.specs.Editions.most_open
tuple_row = refl

-- func main() { main() }: the call that makes too many open ones panics, if it has its tick
abbrev itself : List Package
itself = main_of [] (trees.run [] (record { path = codes "app"; name = codes "main" }) no_exprs ∷ [])

abbrev called : ℕ → ℕ → Outcome (List Value)
called depth ticks = call_at itself depth (record { path = codes "app"; name = codes "main" }) [] (first_world itself ticks)

pub depth_is_cut : called 3 3 ≡ Ends Cut []
depth_is_cut = refl

pub depth_panics : called 3 4 ≡ Ends (Panicked Depth) []
depth_panics = refl

-- for i := range 3 { fmt.Println(i); i = 9 }
abbrev ranges : List Stmt
ranges =
    range_statement (Some 0) int (n 3) (pack_stmts (print (pack_exprs (i ∷ [])) ∷ assign (of_local int 0 here ∷ []) (each (pack_exprs (n 9 ∷ []))) ∷ []))
    ∷ []

pub range_row : run_program (main_of (int ∷ []) ranges) 4 ≡ ended 0 (ints (0 ∷ []) ∷ ints (1 ∷ []) ∷ ints (2 ∷ []) ∷ [])
unfolding Rattle.go_meaning.specs.Meaning.most_cells Rattle.go_text.specs.Editions.most_open
range_row = refl

pub range_cut : run_program (main_of (int ∷ []) ranges) 3 ≡ Ends Cut (out [] (ints (0 ∷ []) ∷ ints (1 ∷ []) ∷ []))
unfolding Rattle.go_meaning.specs.Meaning.most_cells Rattle.go_text.specs.Editions.most_open
range_cut = refl

-- panic("no")
pub panic_row : run_program (main_of [] (panic (constant string (consts.Text (codes "no"))) ∷ [])) 1 ≡ Ends (Panicked (User (codes "no"))) []
unfolding Rattle.go_text.specs.Editions.most_open
panic_row = refl

-- switch x := 2; x { case 1: fmt.Println(1); case 2: fmt.Println(2); fallthrough; default: fmt.Println(9) }
abbrev prints : ℕ → Stmts
prints k = pack_stmts (print (pack_exprs (n k ∷ [])) ∷ [])

abbrev switches : List Stmt
switches =
    define (Some 0 ∷ []) (each (pack_exprs (n 2 ∷ [])))
    ∷ switch_statement i (clause (Some (pack_exprs (n 1 ∷ []))) (prints 1) false (clause (Some (pack_exprs (n 2 ∷ []))) (prints 2) true
    (clause None (prints 9) false no_clauses)))
    ∷ []

pub switch_row : run_program (main_of (int ∷ []) switches) 1 ≡ ended 0 (ints (2 ∷ []) ∷ ints (9 ∷ []) ∷ [])
unfolding Rattle.go_text.specs.Editions.most_open
switch_row = refl

-- s := "abc"; fmt.Println(s[1], len(s), s < "abd")
abbrev texts : List Stmt
texts =
    define (Some 0 ∷ []) (each (pack_exprs (constant string (consts.Text (codes "abc")) ∷ [])))
    ∷ print (pack_exprs (
    index (types.basic (basics.Integer integers.Uint8)) (local string 0) (n 1) ∷ trees.length int (local string 0)
    ∷ binary bool (comparison Less) (local string 0) (constant string (consts.Text (codes "abd"))) ∷ []))
    ∷ []

pub text_row : run_program (main_of (string ∷ []) texts) 1 ≡ ended 0 ((Int (pos 98) ∷ Int (pos 3) ∷ Truth true ∷ []) ∷ [])
unfolding Rattle.go_text.specs.Editions.most_open
text_row = refl

-- func t() bool { fmt.Println("t"); return true }; func main() { if t() || t() { } }
abbrev either_of : List Package
either_of =
    let t : Expr = call bool (record { path = codes "app"; name = codes "t" }) no_exprs in
    record {
      path = codes "app";
      name = codes "main";
      edition = One;
      constants = [];
      types = [];
      variables = [];
      initializations = [];
      uses = [];
      functions =
          record {
            name = codes "t";
            parameters = [];
            results = bool ∷ [];
            locals = [];
            body = pack_stmts (print (pack_exprs (constant string (consts.Text (codes "t")) ∷ [])) ∷ return (each (pack_exprs (constant bool (consts.Bool true) ∷ []))) ∷ []);
          }
          ∷ record { name = codes "main"; parameters = []; results = []; locals = []; body = pack_stmts (if_statement (trees.either bool t t) no_stmts no_stmts ∷ []) }
          ∷ [];
    } ∷ []

pub either_row : run_program either_of 2 ≡ ended 0 ((Text (codes "t") ∷ []) ∷ [])
unfolding Rattle.go_text.specs.Editions.most_open
either_row = refl

-- for i := 0; i < 5; i++ { if i == 1 { continue }; if i == 3 { break }; fmt.Println(i) }
abbrev loops : List Stmt
loops =
    define (Some 0 ∷ []) (each (pack_exprs (n 0 ∷ [])))
    ∷ for_statement (Some (binary bool (comparison Less) i (n 5))) (pack_stmts (update int (of_local int 0 here) (arithmetic Add) (n 1) ∷ []))
    (pack_stmts (
    if_statement (binary bool (comparison Equal) i (n 1)) (pack_stmts (continue ∷ [])) no_stmts
    ∷ if_statement (binary bool (comparison Equal) i (n 3)) (pack_stmts (break ∷ [])) no_stmts
    ∷ print (pack_exprs (i ∷ [])) ∷ []))
    ∷ []

pub loop_row : run_program (main_of (int ∷ []) loops) 9 ≡ ended 4 (ints (0 ∷ []) ∷ ints (2 ∷ []) ∷ [])
unfolding Rattle.go_meaning.specs.Meaning.most_cells Rattle.go_text.specs.Editions.most_open
loop_row = refl
