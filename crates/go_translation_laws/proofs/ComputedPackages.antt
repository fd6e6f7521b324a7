-- Small programs of two packages, linked and computed: what the image does is what they mean.
use Rattle.std.proofs.Common.{◌≡◌, ℕ, List, [], ◌∷◌, ◌++◌, map, Option, Some, None, refl, pos}
use Rattle.std.specs.Prelude.{codes, ⊤}
use Rattle.go_text.specs.declared.edition.Edition.TheVariants.{One}
use Rattle.go_const.specs.declared.constant.Const.TheVariants as consts
use Rattle.go_const.specs.declared.operator.ArithmeticOperator.TheVariants.{Add}
use Rattle.go_const.specs.declared.kind.IntKind.TheVariants as integers
use Rattle.go_types.specs.declared.types.Basic.TheVariants as basics
use Rattle.go_types.specs.Types as types
use Rattle.go_types.specs.Types.{Type'}
use Rattle.go_code.specs.Finals.{Final, Ends}
use Rattle.go_code.specs.Images.{Image}
use Rattle.go_code.specs.Machine.{within, started}
use Rattle.go_code.specs.declared.ending.Ending.TheVariants.{Ended}
use Rattle.go_link.specs.declared.link.LinkError.TheVariants.{NoMain, NameMissing}
use Rattle.go_link.specs.Links.{link_refusal, linked}
use Rattle.go_typed.specs.declared.expression.Operator.TheVariants.{Arithmetic as arithmetic}
use Rattle.go_typed.specs.Trees.{Symbol, Expr, constant, local, global, call, here, of_global, each, assign, update, print, return, pack_exprs, pack_stmts, Variable, Package}
use Rattle.go_meaning.specs.Meaning as meaning
use Rattle.go_meaning.specs.Meaning.{Outcome}
use Rattle.go_meaning.specs.Programs.{run_program}
use Rattle.go_gen.specs.Translation.{object_of}

abbrev int : Type'
int = types.basic (basics.Integer integers.Int)

abbrev three : Type'
three = types.array 3 int

abbrev n : ℕ → Expr
n k = constant int (consts.Integer (pos k))

abbrev in_lib : List ℕ → Symbol
in_lib name = record { path = codes "lib"; name = name }

abbrev in_app : List ℕ → Symbol
in_app name = record { path = codes "app"; name = name }

abbrev variable : List ℕ → Type' → Variable
variable name t = record { name = name; of = t; file = []; place = record { line = 1; column = 1 } }

-- package lib; var a [3]int; var x int; func add(n int) int { x += n; return x }; func init() { x = 5 }
abbrev lib : Package
lib = record {
  path = codes "lib";
  name = codes "lib";
  edition = One;
  constants = [];
  types = [];
  variables = variable (codes "a") three ∷ variable (codes "x") int ∷ [];
  initializations = [];
  uses = [];
  functions = record {
    name = codes "add";
    parameters = int ∷ [];
    results = int ∷ [];
    locals = [];
    body = pack_stmts (update int (of_global int (in_lib (codes "x")) here) (arithmetic Add) (local int 0) ∷ return (each (pack_exprs (global int (in_lib (codes "x")) ∷ []))) ∷ []);
  } ∷ record {
    name = codes "init.0";
    parameters = [];
    results = [];
    locals = [];
    body = pack_stmts (assign (of_global int (in_lib (codes "x")) here ∷ []) (each (pack_exprs (n 5 ∷ []))) ∷ []);
  } ∷ [];
}

-- package main; var y, x int; func add() {}; func main() { y = lib.add(3); x = 9; fmt.Println(x, y, lib.add(1)) }
abbrev app : Package
app = record {
  path = codes "app";
  name = codes "main";
  edition = One;
  constants = [];
  types = [];
  variables = variable (codes "y") int ∷ variable (codes "x") int ∷ [];
  initializations = [];
  uses = [];
  functions = record { name = codes "add"; parameters = []; results = []; locals = []; body = pack_stmts [] } ∷ record {
    name = codes "main";
    parameters = [];
    results = [];
    locals = [];
    body = pack_stmts (
        assign (of_global int (in_app (codes "y")) here ∷ []) (each (pack_exprs (call int (in_lib (codes "add")) (pack_exprs (n 3 ∷ [])) ∷ [])))
        ∷ assign (of_global int (in_app (codes "x")) here ∷ []) (each (pack_exprs (n 9 ∷ [])))
        ∷ print (pack_exprs (global int (in_app (codes "x")) ∷ global int (in_app (codes "y")) ∷ call int (in_lib (codes "add")) (pack_exprs (n 1 ∷ [])) ∷ []))
        ∷ []);
  } ∷ [];
}

abbrev both : List Package
both = lib ∷ app ∷ []

abbrev image : Image
image = linked (map object_of both)

-- how a program is over, as the machine says it
abbrev over : Outcome ⊤ → Option Final
over (meaning.Gives done w) = Some (Ends Ended w.output)
over (meaning.Ends ending output) = Some (Ends ending output)
over meaning.Stuck = None

pub both_agree : within image 100 (started image 10) ≡ over (run_program both 10)
unfolding Rattle.go_meaning.specs.Meaning.most_cells Rattle.go_text.specs.Editions.most_open
both_agree = refl

-- the variables of lib lie before those of main
pub both_print : within image 100 (started image 10) ≡ Some (Ends Ended (codes "9 8 9" ++ 10 ∷ []))
unfolding Rattle.std.specs.Fmt.digits Rattle.go_meaning.specs.Meaning.most_cells Rattle.go_text.specs.Editions.most_open
both_print = refl

-- they are cut where both say so
pub both_cut : within image 100 (started image 2) ≡ over (run_program both 2)
unfolding Rattle.go_meaning.specs.Meaning.most_cells Rattle.go_text.specs.Editions.most_open
both_cut = refl

-- they are linked; not in the other order, and not where a package's variables or functions are missing
pub both_linked : link_refusal (map object_of both) ≡ None
both_linked = refl

pub other_way : link_refusal (map object_of (app ∷ lib ∷ [])) ≡ Some NoMain
other_way = refl

pub without_variables : link_refusal (map object_of (record lib { variables = variable (codes "a") three ∷ [] } ∷ app ∷ [])) ≡ Some NameMissing
without_variables = refl

pub without_lib : link_refusal (map object_of (app ∷ [])) ≡ Some NameMissing
without_lib = refl
