-- Small programs, computed: what their code does in the machine is what they mean.
use Rattle.std.proofs.Common.{◌≡◌, ℕ, true, false, List, [], ◌∷◌, Option, Some, None, refl, pos}
use Rattle.std.specs.Prelude.{codes}
use Rattle.go_text.specs.declared.edition.Edition.TheVariants.{One}
use Rattle.go_const.specs.declared.constant.Const.TheVariants as consts
use Rattle.go_const.specs.declared.operator.ArithmeticOperator.TheVariants.{Add}
use Rattle.go_const.specs.declared.operator.ComparisonOperator.TheVariants.{Less, Equal}
use Rattle.go_const.specs.declared.kind.IntKind.TheVariants as integers
use Rattle.go_types.specs.declared.types.Basic.TheVariants as basics
use Rattle.go_types.specs.Types as types
use Rattle.go_types.specs.Types.{Type'}
use Rattle.go_code.specs.declared.image.Start.TheVariants.{Function as Run}
use Rattle.go_code.specs.Finals.{Final, Ends}
use Rattle.go_code.specs.Images.{Image}
use Rattle.go_code.specs.Machine.{within, started}
use Rattle.go_code.specs.declared.ending.Ending.TheVariants.{Ended}
use Rattle.go_typed.specs.declared.expression.Operator.TheVariants.{Arithmetic as arithmetic, Comparison as comparison}
use Rattle.go_typed.specs.Trees.{Expr, constant, local, index, binary, both, here, to_element, of_local, each, zeros, Stmt, no_stmts, define, assign, update, print, if_statement, for_statement, range_statement, switch_statement, break, continue, no_clauses, clause, pack_exprs, pack_stmts, Function, Package}
use Rattle.go_meaning.specs.Meaning as meaning
use Rattle.go_meaning.specs.Meaning.{Outcome}
use Rattle.go_meaning.specs.Programs.{run_program}
use Rattle.std.specs.Prelude.{⊤}
use Rattle.go_gen.specs.Translation.{translated}

abbrev int : Type'
int = types.basic (basics.Integer integers.Int)

abbrev bool : Type'
bool = types.basic basics.Bool

abbrev three : Type'
three = types.array 3 int

abbrev n : ℕ → Expr
n k = constant int (consts.Integer (pos k))

abbrev i : Expr
i = local int 0

abbrev prints : List Expr → Stmt
prints es = print (pack_exprs es)

-- a function main with these local variables
abbrev pub main_of : List Type' → List Stmt → Function
main_of locals body = record { name = codes "main"; parameters = []; results = []; locals = locals; body = pack_stmts body }

abbrev package_of : Function → List Package
package_of f = record {
  path = codes "app";
  name = codes "main";
  edition = One;
  constants = [];
  types = [];
  variables = [];
  initializations = [];
  uses = [];
  functions = f ∷ [];
} ∷ []

-- its image, in which each call is of itself
abbrev pub image_of : Function → Image
image_of f = record { edition = One; globals = []; functions = translated (λ s. 0) (λ s. 0) f ∷ []; starts = Run 0 ∷ [] }

-- how a program is over, as the machine says it
abbrev over : Outcome ⊤ → Option Final
over (meaning.Gives done w) = Some (Ends Ended w.output)
over (meaning.Ends ending output) = Some (Ends ending output)
over meaning.Stuck = None

-- within so many steps the machine comes to what the function main means
abbrev Agrees : Function → ℕ → ℕ → Type 0
Agrees f ticks steps = within (image_of f) steps (started (image_of f) ticks) ≡ over (run_program (package_of f) ticks)

-- var x [3]int; i := 0; i, x[i] = 1, 9; fmt.Println(i, x[0]); x[i], i = 5, 2; x[i+1] = 1
abbrev tuples : Function
tuples = main_of (three ∷ int ∷ []) (
    define (Some 0 ∷ []) (zeros (three ∷ []))
    ∷ define (Some 1 ∷ []) (each (pack_exprs (n 0 ∷ [])))
    ∷ assign (of_local int 1 here ∷ of_local three 0 (to_element (local int 1) here) ∷ []) (each (pack_exprs (n 1 ∷ n 9 ∷ [])))
    ∷ prints (local int 1 ∷ index int (local three 0) (n 0) ∷ [])
    ∷ assign (of_local three 0 (to_element (local int 1) here) ∷ of_local int 1 here ∷ []) (each (pack_exprs (n 5 ∷ n 2 ∷ [])))
    ∷ assign (of_local three 0 (to_element (binary int (arithmetic Add) (local int 1) (n 1)) here) ∷ []) (each (pack_exprs (n 1 ∷ [])))
    ∷ [])

pub tuples_agree : Agrees tuples 10 100
unfolding Rattle.go_meaning.specs.Meaning.most_cells Rattle.go_text.specs.Editions.most_open
tuples_agree = refl

-- for i := 0; i < 5; i++ { if i == 1 { continue }; if i == 3 { break }; fmt.Println(i) }
abbrev loops : Function
loops = main_of (int ∷ []) (
    define (Some 0 ∷ []) (each (pack_exprs (n 0 ∷ [])))
    ∷ for_statement (Some (binary bool (comparison Less) i (n 5))) (pack_stmts (update int (of_local int 0 here) (arithmetic Add) (n 1) ∷ []))
    (pack_stmts (
    if_statement (binary bool (comparison Equal) i (n 1)) (pack_stmts (continue ∷ [])) no_stmts
    ∷ if_statement (binary bool (comparison Equal) i (n 3)) (pack_stmts (break ∷ [])) no_stmts
    ∷ prints (i ∷ []) ∷ []))
    ∷ [])

pub loops_agree : Agrees loops 9 200
unfolding Rattle.go_meaning.specs.Meaning.most_cells Rattle.go_text.specs.Editions.most_open
loops_agree = refl

-- it is cut where both say so
pub loops_cut : Agrees loops 3 200
unfolding Rattle.go_meaning.specs.Meaning.most_cells Rattle.go_text.specs.Editions.most_open
loops_cut = refl

-- for i := range 3 { for { break }; fmt.Println(i); i = 9 }
abbrev ranges : Function
ranges = main_of (int ∷ []) (
    range_statement (Some 0) int (n 3)
    (pack_stmts (for_statement None no_stmts (pack_stmts (break ∷ [])) ∷ prints (i ∷ []) ∷ assign (of_local int 0 here ∷ []) (each (pack_exprs (n 9 ∷ []))) ∷ []))
    ∷ [])

pub ranges_agree : Agrees ranges 9 200
unfolding Rattle.go_meaning.specs.Meaning.most_cells Rattle.go_text.specs.Editions.most_open
ranges_agree = refl

-- i := 2; switch i { case 1: fmt.Println(1); case 2, 3: fmt.Println(2); fallthrough; default: fmt.Println(9); break }
abbrev switches : Function
switches = main_of (int ∷ []) (
    define (Some 0 ∷ []) (each (pack_exprs (n 2 ∷ [])))
    ∷ switch_statement i (clause (Some (pack_exprs (n 1 ∷ []))) (pack_stmts (prints (n 1 ∷ []) ∷ [])) false
    (clause (Some (pack_exprs (n 2 ∷ n 3 ∷ []))) (pack_stmts (prints (n 2 ∷ []) ∷ [])) true
    (clause None (pack_stmts (prints (n 9 ∷ []) ∷ break ∷ [])) false no_clauses)))
    ∷ [])

pub switches_agree : Agrees switches 1 100
unfolding Rattle.go_meaning.specs.Meaning.most_cells Rattle.go_text.specs.Editions.most_open
switches_agree = refl

-- fmt.Println(false && main's call), by an index out of range on the right
abbrev passed : Function
passed = main_of (three ∷ []) (
    define (Some 0 ∷ []) (zeros (three ∷ []))
    ∷ prints (both bool (constant bool (consts.Bool false)) (binary bool (comparison Equal) (index int (local three 0) (n 7)) (n 0)) ∷ [])
    ∷ [])

pub passed_agrees : Agrees passed 1 50
unfolding Rattle.go_meaning.specs.Meaning.most_cells Rattle.go_text.specs.Editions.most_open
passed_agrees = refl
