-- Small programs whose package variables have initial values, linked and computed: what the image does is what they mean.
use Rattle.std.proofs.Common.{◌≡◌, ℕ, List, [], ◌∷◌, ◌++◌, map, Option, Some, None, refl, pos}
use Rattle.std.specs.Prelude.{codes, ⊤}
use Rattle.go_text.specs.declared.edition.Edition.TheVariants.{One}
use Rattle.go_const.specs.declared.constant.Const.TheVariants as consts
use Rattle.go_const.specs.declared.operator.ArithmeticOperator.TheVariants.{Add}
use Rattle.go_const.specs.declared.kind.IntKind.TheVariants as integers
use Rattle.go_types.specs.declared.types.Basic.TheVariants as basics
use Rattle.go_types.specs.Types as types
use Rattle.go_types.specs.Types.{Type'}
use Rattle.go_code.specs.Finals.{Final, Ends}
use Rattle.go_code.specs.Images.{Image}
use Rattle.go_code.specs.Machine.{within, started}
use Rattle.go_code.specs.declared.ending.Ending.TheVariants.{Ended, Cut}
use Rattle.go_link.specs.declared.link.LinkError.TheVariants.{NameMissing}
use Rattle.go_link.specs.Links.{link_refusal, linked}
use Rattle.go_typed.specs.declared.expression.Operator.TheVariants.{Arithmetic as arithmetic}
use Rattle.go_typed.specs.Trees.{Symbol, Expr, constant, global, binary, call, no_exprs, here, of_global, ValueSource, each, results, Stmt, update, print, return, pack_exprs, pack_stmts, Function, Initialization, Package, Variable}
use Rattle.go_meaning.specs.Meaning as meaning
use Rattle.go_meaning.specs.Meaning.{Outcome}
use Rattle.go_meaning.specs.Programs.{run_program}
use Rattle.go_gen.specs.Translation.{object_of}

abbrev int : Type'
int = types.basic (basics.Integer integers.Int)

abbrev n : ℕ → Expr
n k = constant int (consts.Integer (pos k))

abbrev in_lib : List ℕ → Symbol
in_lib name = record { path = codes "lib"; name = name }

abbrev in_app : List ℕ → Symbol
in_app name = record { path = codes "app"; name = name }

abbrev g : List ℕ → Expr
g x = global int (in_app x)

abbrev variable : List ℕ → Variable
variable name = record { name = name; of = int; file = []; place = record { line = 1; column = 1 } }

abbrev together : List (Option (List ℕ)) → ValueSource → List (List ℕ) → Initialization
together xs s rs = record { variables = xs; file = []; place = record { line = 1; column = 1 }; source = s; references = rs }

abbrev set : List ℕ → Expr → List (List ℕ) → Initialization
set x e rs = together (Some x ∷ []) (each (pack_exprs (e ∷ []))) rs

abbrev function : List ℕ → List Type' → List Stmt → Function
function x rs body = record { name = x; parameters = []; results = rs; locals = []; body = pack_stmts body }

-- package lib; var N = 7; func Inc() int { N++; return N }
abbrev lib : List Variable → Package
lib vs = record {
  path = codes "lib";
  name = codes "lib";
  edition = One;
  constants = [];
  types = [];
  variables = vs;
  initializations = set (codes "N") (n 7) [] ∷ [];
  uses = (codes "Inc", codes "N" ∷ []) ∷ [];
  functions = function (codes "Inc") (int ∷ []) (update int (of_global int (in_lib (codes "N")) here) (arithmetic Add) (n 1) ∷ return (each (pack_exprs (global int (in_lib (codes "N")) ∷ []))) ∷ []) ∷ [];
}

abbrev a : List ℕ
a = codes "a"

abbrev b : List ℕ
b = codes "b"

abbrev c : List ℕ
c = codes "c"

abbrev d : List ℕ
d = codes "d"

abbrev f : List ℕ
f = codes "f"

abbrev pair : List ℕ
pair = codes "pair"

-- package main; var a = c + b; var b = f(); var c, _ = pair(); var d = 3; func f() int { d++; return d }; func pair() (int, int) { return lib.Inc(), d };
-- func init() { fmt.Println(a) }; func main() { fmt.Println(a, b, c, d, lib.N) }
abbrev app : Package
app = record {
  path = codes "app";
  name = codes "main";
  edition = One;
  constants = [];
  types = [];
  variables = variable a ∷ variable b ∷ variable c ∷ variable d ∷ [];
  initializations =
      set a (binary int (arithmetic Add) (g c) (g b)) (c ∷ b ∷ [])
      ∷ set b (call int (in_app f) no_exprs) (f ∷ [])
      ∷ together (Some c ∷ None ∷ []) (results (int ∷ int ∷ []) (in_app pair) no_exprs) (pair ∷ [])
      ∷ set d (n 3) [] ∷ [];
  uses = (f, d ∷ d ∷ []) ∷ (pair, d ∷ []) ∷ (codes "init", a ∷ []) ∷ (codes "main", a ∷ b ∷ c ∷ d ∷ []) ∷ [];
  functions =
      function f (int ∷ []) (update int (of_global int (in_app d) here) (arithmetic Add) (n 1) ∷ return (each (pack_exprs (g d ∷ []))) ∷ [])
      ∷ function pair (int ∷ int ∷ []) (return (each (pack_exprs (call int (in_lib (codes "Inc")) no_exprs ∷ g d ∷ []))) ∷ [])
      ∷ function (codes "init.1") [] (print (pack_exprs (g a ∷ [])) ∷ [])
      ∷ function (codes "main") [] (print (pack_exprs (g a ∷ g b ∷ g c ∷ g d ∷ global int (in_lib (codes "N")) ∷ [])) ∷ []) ∷ [];
}

abbrev all : List Package
all = lib (variable (codes "N") ∷ []) ∷ app ∷ []

abbrev image : Image
image = linked (map object_of all)

-- how a program is over, as the machine says it
abbrev over : Outcome ⊤ → Option Final
over (meaning.Gives done w) = Some (Ends Ended w.output)
over (meaning.Ends ending output) = Some (Ends ending output)
over meaning.Stuck = None

pub all_linked : link_refusal (map object_of all) ≡ None
all_linked = refl

pub all_agree : within image 200 (started image 5) ≡ over (run_program all 5)
unfolding Rattle.go_meaning.specs.Meaning.most_cells Rattle.go_text.specs.Editions.most_open
all_agree = refl

pub all_print : within image 200 (started image 5) ≡ Some (Ends Ended (codes "12" ++ 10 ∷ codes "12 4 8 4 8" ++ 10 ∷ []))
unfolding Rattle.std.specs.Fmt.digits Rattle.go_meaning.specs.Meaning.most_cells Rattle.go_text.specs.Editions.most_open
all_print = refl

-- setups take no tick: f, pair, lib.Inc and init do
pub all_cut : within image 200 (started image 4) ≡ Some (Ends Cut (codes "12" ++ 10 ∷ []))
unfolding Rattle.std.specs.Fmt.digits Rattle.go_meaning.specs.Meaning.most_cells Rattle.go_text.specs.Editions.most_open
all_cut = refl

pub cut_agree : within image 200 (started image 2) ≡ over (run_program all 2)
unfolding Rattle.go_meaning.specs.Meaning.most_cells Rattle.go_text.specs.Editions.most_open
cut_agree = refl

-- package main; var x = 1; func main() {}
abbrev plain : List Variable → Package
plain vs = record {
  path = codes "app";
  name = codes "main";
  edition = One;
  constants = [];
  types = [];
  variables = vs;
  initializations = set (codes "x") (n 1) [] ∷ [];
  uses = (codes "main", []) ∷ [];
  functions = function (codes "main") [] [] ∷ [];
}

pub plain_linked : link_refusal (map object_of (plain (variable (codes "x") ∷ []) ∷ [])) ≡ None
plain_linked = refl

-- its setup alone refers to the variable
pub missing : link_refusal (map object_of (plain [] ∷ [])) ≡ Some NameMissing
missing = refl
