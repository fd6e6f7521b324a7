-- Rows computed on the definitions: a program that is well typed, and one that isn't, since it reads a variable that has no value yet.
use Rattle.std.proofs.Common.{◌≡◌, inr, List, [], ◌∷◌, Some, refl, pos}
use Rattle.std.specs.Prelude.{codes}
use Rattle.std.proofs.lemmas.List.Elements.{All-nil, All-cons}
use Rattle.go_text.specs.declared.edition.Edition.TheVariants.{One}
use Rattle.go_const.specs.declared.constant.Const.TheVariants as consts
use Rattle.go_const.specs.declared.operator.ArithmeticOperator.TheVariants.{Add}
use Rattle.go_const.specs.declared.operator.ComparisonOperator.TheVariants.{Equal}
use Rattle.go_const.specs.declared.kind.IntKind.TheVariants as integers
use Rattle.go_types.specs.declared.types.Basic.TheVariants as basics
use Rattle.go_types.specs.declared.types.Untyped.TheVariants as kinds
use Rattle.go_types.specs.Types as types
use Rattle.go_types.specs.Types.{Type'}
use Rattle.go_typed.specs.declared.expression.Operator.TheVariants.{Arithmetic as arithmetic, Comparison as comparison}
use Rattle.go_typed.specs.Trees.{Symbol, constant, local, index, binary, conversion, call, here, to_element, of_local, each, zeros, Stmt, define, update, print, if_statement, range_statement, return, no_stmts, pack_exprs, pack_stmts, Function, Package}
use Rattle.go_meaning.specs.Meaning.{Stored, Stuck}
use Rattle.go_meaning.specs.Programs.{DeclaredFunction, calls, run_program}
use Rattle.go_meaning_laws.specs.WellTyped.{setting, IsExpr, IsWhole, IsWellTypedFunction, IsWellTypedStart, IsWellTyped}
use Rattle.go_meaning_laws.proofs.Programs.{never_stuck}

abbrev int : Type'
int = types.basic (basics.Integer integers.Int)

abbrev bool : Type'
bool = types.basic basics.Bool

abbrev three : Type'
three = types.array 3 int

abbrev add : Symbol
add = record { path = codes "app"; name = codes "add" }

-- func add(a, b int) int { return a + b }
abbrev sum : Function
sum = record {
  name = codes "add";
  parameters = int ∷ int ∷ [];
  results = int ∷ [];
  locals = [];
  body = pack_stmts (return (each (pack_exprs (binary int (arithmetic Add) (local int 0) (local int 1) ∷ []))) ∷ []);
}

abbrev main_of : List Type' → List Stmt → Function
main_of locals body = record { name = codes "main"; parameters = []; results = []; locals = locals; body = pack_stmts body }

abbrev package_of : List Function → List Package
package_of functions = record {
  path = codes "app";
  name = codes "main";
  edition = One;
  constants = [];
  types = [];
  variables = [];
  initializations = [];
  uses = [];
  functions = functions;
} ∷ []

-- var x [3]int; for i := range 3 { x[i] += add(i, 1); if x[i] == 2 { fmt.Println(x[i]) } }
abbrev main : Function
main = main_of (three ∷ int ∷ []) (
    define (Some 0 ∷ []) (zeros (three ∷ []))
    ∷ range_statement (Some 1) int (constant int (consts.Integer (pos 3))) (pack_stmts (
    update int (of_local three 0 (to_element (local int 1) here)) (arithmetic Add) (call int add (pack_exprs (local int 1 ∷ constant int (consts.Integer (pos 1)) ∷ [])))
    ∷ if_statement
    (conversion bool (binary (types.basic (basics.Untyped kinds.Bool)) (comparison Equal) (index int (local three 0) (local int 1)) (constant int (consts.Integer (pos 2)))))
    (pack_stmts (print (pack_exprs (index int (local three 0) (local int 1) ∷ [])) ∷ [])) no_stmts
    ∷ []))
    ∷ [])

abbrev program : List Package
program = package_of (sum ∷ main ∷ [])

sum_is : IsWellTypedFunction program sum
sum_is = record { body = (((((refl, refl), (refl, refl), (refl, refl, refl)), tt), (refl, tt)), tt); ended = refl }

main_is : IsWellTypedFunction program main
unfolding Rattle.go_meaning.specs.Meaning.most_cells
main_is = record {
  body = (
    ((refl, tt), ((three, refl, refl), tt)),
    (
      (
        (refl, refl),
        refl,
        refl,
        refl,
        (
          (((refl, refl), refl, (int, refl, (refl, refl), refl, refl)), (((refl, refl), ((refl, refl), tt)), refl), (refl, refl, refl)),
          (((((element, (refl, refl), (refl, refl, refl)), inr (inr (refl, refl))), refl), ((element, tt), tt), tt), tt),
        ),
      ),
      tt,
    ),
  );
  ended = refl;
}
  where
    -- x[i]
    element : IsExpr (setting program main) (1 ∷ 0 ∷ []) (index int (local three 0) (local int 1))
    element = ((refl, refl), (refl, refl), refl, refl)

abbrev declared : Function → DeclaredFunction
declared f = record { symbol = record { path = codes "app"; name = f.name }; function = f }

abbrev Typed : DeclaredFunction → Type 0
Typed d = IsWellTypedFunction program d.function

pub is_typed : IsWellTyped program
is_typed = record {
  functions = All-cons Typed (declared sum) (declared main ∷ []) sum_is (All-cons Typed (declared main) [] main_is (All-nil Typed));
  variables = All-nil (λ (v : Stored). IsWhole v.of);
  start = All-cons (IsWellTypedStart program) (calls (record { path = codes "app"; name = codes "main" })) [] refl (All-nil (IsWellTypedStart program));
}

-- fmt.Println(n), where n has no value yet
abbrev unset : List Package
unset = package_of (main_of (int ∷ []) (print (pack_exprs (local int 0 ∷ [])) ∷ []) ∷ [])

pub unset_is_stuck : run_program unset 1 ≡ Stuck
unfolding Rattle.go_text.specs.Editions.most_open
unset_is_stuck = refl

pub unset_isn't_typed : IsWellTyped unset → ⊥
unset_isn't_typed h = never_stuck unset h 1 unset_is_stuck
