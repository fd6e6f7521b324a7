-- Programs with package variables and functions init, computed on the definitions.
use Rattle.std.proofs.Common.{◌≡◌, ℕ, List, [], ◌∷◌, ◌++◌, Option, Some, None, refl, pos, map}
use Rattle.std.specs.Prelude.{codes, ⊤}
use Rattle.go_text.specs.declared.edition.Edition.TheVariants.{One}
use Rattle.go_const.specs.declared.constant.Const.TheVariants as consts
use Rattle.go_const.specs.declared.kind.IntKind.TheVariants as integers
use Rattle.go_const.specs.declared.operator.ArithmeticOperator.TheVariants.{Add}
use Rattle.go_types.specs.declared.types.Basic.TheVariants as basics
use Rattle.go_types.specs.Types as types
use Rattle.go_types.specs.Types.{Type'}
use Rattle.go_code.specs.declared.cell.Cell.TheVariants.{Int}
use Rattle.go_code.specs.declared.ending.Ending.{Ending}
use Rattle.go_code.specs.declared.ending.Ending.TheVariants.{Ended, Cut}
use Rattle.go_code.specs.Lines.{line_text}
use Rattle.go_typed.specs.declared.expression.Operator.TheVariants.{Arithmetic as arithmetic}
use Rattle.go_typed.specs.Trees.{Symbol, Expr, constant, global, binary, call, no_exprs, here, of_global, ValueSource, each, results, Stmt, assign, update, print, run, return, pack_exprs, pack_stmts, Function, Initialization, Package, Variable}
use Rattle.go_meaning.specs.Meaning.{Outcome, Gives, Ends, Stuck}
use Rattle.go_meaning.specs.Programs as programs

abbrev int : Type'
int = types.basic (basics.Integer integers.Int)

abbrev n : ℕ → Expr
n k = constant int (consts.Integer (pos k))

abbrev app : List ℕ → Symbol
app x = record { path = codes "app"; name = x }

abbrev g : List ℕ → Expr
g x = global int (app x)

abbrev variable : List ℕ → Variable
variable x = record { name = x; of = int; file = codes "main.go"; place = record { line = 1; column = 1 } }

abbrev setting : List (Option (List ℕ)) → ValueSource → List (List ℕ) → Initialization
setting xs s rs = record { variables = xs; file = codes "main.go"; place = record { line = 1; column = 1 }; source = s; references = rs }

abbrev set : List ℕ → Expr → List (List ℕ) → Initialization
set x e rs = setting (Some x ∷ []) (each (pack_exprs (e ∷ []))) rs

abbrev function : List ℕ → List Type' → List Stmt → Function
function x rs body = record { name = x; parameters = []; results = rs; locals = []; body = pack_stmts body }

abbrev with_parts : List ℕ → List ℕ → List (List ℕ) → List Initialization → List (List ℕ × List (List ℕ)) → List Function → Package
with_parts path name xs is us fs = record {
  path = path;
  name = name;
  edition = One;
  constants = [];
  types = [];
  variables = map variable xs;
  initializations = is;
  uses = us;
  functions = fs;
}

abbrev a : List ℕ
a = codes "a"

abbrev b : List ℕ
b = codes "b"

abbrev c : List ℕ
c = codes "c"

abbrev d : List ℕ
d = codes "d"

abbrev f : List ℕ
f = codes "f"

abbrev main : List ℕ
main = codes "main"

-- how a program ends, with its output
abbrev ends : Outcome ⊤ → Option (Ending × List ℕ)
ends (Gives done w) = Some (Ended, w.output)
ends (Ends e output) = Some (e, output)
ends Stuck = None

abbrev line : List ℕ → List ℕ
line ks = line_text (map (λ k. Int (pos k)) ks)

-- var a = c + b; var b = f(); var c = f(); var d = 3; func f() int { d++; return d }; func main() { fmt.Println(a, b, c, d) }
abbrev counted : List Package
counted =
    let called : Expr = call int (app f) no_exprs in
    with_parts (codes "app") main (a ∷ b ∷ c ∷ d ∷ []) (set a (binary int (arithmetic Add) (g c) (g b)) (c ∷ b ∷ []) ∷ set b called (f ∷ []) ∷ set c called (f ∷ []) ∷ set d (n 3) [] ∷ []) ((f, d ∷ d ∷ []) ∷ (main, a ∷ b ∷ c ∷ d ∷ []) ∷ []) (
    function f (int ∷ []) (update int (of_global int (app d) here) (arithmetic Add) (n 1) ∷ return (each (pack_exprs (g d ∷ []))) ∷ [])
    ∷ function main [] (print (pack_exprs (g a ∷ g b ∷ g c ∷ g d ∷ [])) ∷ []) ∷ [])
    ∷ []

pub counted_row : ends (programs.run_program counted 3) ≡ Some (Ended, line (9 ∷ 4 ∷ 5 ∷ 5 ∷ []))
unfolding Rattle.go_meaning.specs.Meaning.most_cells Rattle.go_text.specs.Editions.most_open
counted_row = refl

pub cut_row : ends (programs.run_program counted 2) ≡ Some (Cut, [])
unfolding Rattle.go_meaning.specs.Meaning.most_cells Rattle.go_text.specs.Editions.most_open
cut_row = refl

-- var a = b; var c = g(); var b int; func g() int { b = 5; return b }; func main() { fmt.Println(a, c) }
abbrev later : List Package
later =
    let g' : List ℕ = codes "g" in
    with_parts (codes "app") main (a ∷ c ∷ b ∷ []) (set a (g b) (b ∷ []) ∷ set c (call int (app g') no_exprs) (g' ∷ []) ∷ []) ((g', b ∷ b ∷ []) ∷ (main, a ∷ c ∷ []) ∷ []) (
    function g' (int ∷ []) (assign (of_global int (app b) here ∷ []) (each (pack_exprs (n 5 ∷ []))) ∷ return (each (pack_exprs (g b ∷ []))) ∷ [])
    ∷ function main [] (print (pack_exprs (g a ∷ g c ∷ [])) ∷ []) ∷ [])
    ∷ []

pub later_row : ends (programs.run_program later 2) ≡ Some (Ended, line (0 ∷ 5 ∷ []))
unfolding Rattle.go_meaning.specs.Meaning.most_cells Rattle.go_text.specs.Editions.most_open
later_row = refl

-- lib: var N = 1; func Inc() { N++ }. app: func main() { lib.Inc(); lib.N += 2; fmt.Println(lib.N) }
abbrev two : List Package
two =
    let big : Symbol = record { path = codes "lib"; name = codes "N" } in
    let inc : List ℕ = codes "Inc" in
    with_parts (codes "lib") (codes "lib") (codes "N" ∷ []) (set (codes "N") (n 1) [] ∷ []) ((inc, codes "N" ∷ []) ∷ []) (
    function inc [] (update int (of_global int big here) (arithmetic Add) (n 1) ∷ []) ∷ [])
    ∷ with_parts (codes "app") main [] [] ((main, []) ∷ []) (
    function main [] (run [] (record { path = codes "lib"; name = inc }) no_exprs ∷ update int (of_global int big here) (arithmetic Add) (n 2) ∷ print (pack_exprs (global int big ∷ [])) ∷ []) ∷ [])
    ∷ []

pub two_row : ends (programs.run_program two 2) ≡ Some (Ended, line (4 ∷ []))
unfolding Rattle.go_meaning.specs.Meaning.most_cells Rattle.go_text.specs.Editions.most_open
two_row = refl

pub two_cut_row : ends (programs.run_program two 1) ≡ Some (Cut, [])
unfolding Rattle.go_meaning.specs.Meaning.most_cells Rattle.go_text.specs.Editions.most_open
two_cut_row = refl

-- func init() { fmt.Println(a, b) }; var a, _ = f(); var b = a; func f() (int, int) { return 7, 8 }; func init() { b++ }; func main() { fmt.Println(b) }
abbrev first : List Package
first =
    with_parts (codes "app") main (a ∷ b ∷ []) (setting (Some a ∷ None ∷ []) (results (int ∷ int ∷ []) (app f) no_exprs) (f ∷ []) ∷ set b (g a) (a ∷ []) ∷ [])
    ((codes "init", a ∷ b ∷ []) ∷ (f, []) ∷ (codes "init", b ∷ []) ∷ (main, b ∷ []) ∷ []) (
    function (codes "init.1") [] (print (pack_exprs (g a ∷ g b ∷ [])) ∷ [])
    ∷ function f (int ∷ int ∷ []) (return (each (pack_exprs (n 7 ∷ n 8 ∷ []))) ∷ [])
    ∷ function (codes "init.2") [] (update int (of_global int (app b) here) (arithmetic Add) (n 1) ∷ [])
    ∷ function main [] (print (pack_exprs (g b ∷ [])) ∷ []) ∷ [])
    ∷ []

pub first_row : ends (programs.run_program first 4) ≡ Some (Ended, line (7 ∷ 7 ∷ []) ++ line (8 ∷ []))
unfolding Rattle.go_meaning.specs.Meaning.most_cells Rattle.go_text.specs.Editions.most_open
first_row = refl

pub first_cut_row : ends (programs.run_program first 2) ≡ Some (Cut, line (7 ∷ 7 ∷ []))
unfolding Rattle.go_meaning.specs.Meaning.most_cells Rattle.go_text.specs.Editions.most_open
first_cut_row = refl
