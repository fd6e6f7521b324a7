-- Initial values that are well typed, and one that isn't, since its variable is of another type.
use Rattle.std.proofs.Common.{◌≡◌, List, [], ◌∷◌, Some, None, refl, pos}
use Rattle.std.specs.Prelude.{codes}
use Rattle.std.proofs.lemmas.List.Elements.{All-nil, All-cons}
use Rattle.go_text.specs.declared.edition.Edition.TheVariants.{One}
use Rattle.go_const.specs.declared.constant.Const.TheVariants as consts
use Rattle.go_const.specs.declared.kind.IntKind.TheVariants as integers
use Rattle.go_types.specs.declared.types.Basic.TheVariants as basics
use Rattle.go_types.specs.Types as types
use Rattle.go_types.specs.Types.{Type'}
use Rattle.go_typed.specs.Trees.{constant, no_exprs, each, results, no_stmts, return, pack_exprs, pack_stmts, Function, Initialization, Package, Symbol}
use Rattle.go_meaning.specs.Meaning.{Stored, Stuck}
use Rattle.go_meaning.specs.Programs.{DeclaredFunction, StartStep, sets, calls, run_program}
use Rattle.go_meaning_laws.specs.WellTyped.{IsWhole, IsWellTypedFunction, IsWellTypedStart, IsWellTyped}
use Rattle.go_meaning_laws.proofs.Programs.{never_stuck}

abbrev int : Type'
int = types.basic (basics.Integer integers.Int)

abbrev string : Type'
string = types.basic basics.String

abbrev pair : Symbol
pair = record { path = codes "app"; name = codes "pair" }

-- var a, _ = pair()
abbrev taken : Initialization
taken = record { variables = Some (codes "a") ∷ None ∷ []; file = []; place = record { line = 1; column = 5 }; source = results (int ∷ string ∷ []) pair no_exprs; references = codes "pair" ∷ [] }

-- func pair() (int, string) { return 1, "x" }
abbrev both : Function
both = record {
  name = codes "pair";
  parameters = [];
  results = int ∷ string ∷ [];
  locals = [];
  body = pack_stmts (return (each (pack_exprs (constant int (consts.Integer (pos 1)) ∷ constant string (consts.Text (codes "x")) ∷ []))) ∷ []);
}

abbrev main : Function
main = record { name = codes "main"; parameters = []; results = []; locals = []; body = no_stmts }

-- var a T
abbrev with_variable : Type' → List Package
with_variable t = record {
  path = codes "app";
  name = codes "main";
  edition = One;
  constants = [];
  types = [];
  variables = record { name = codes "a"; of = t; file = []; place = record { line = 1; column = 5 } } ∷ [];
  initializations = taken ∷ [];
  uses = (codes "pair", []) ∷ (codes "main", []) ∷ [];
  functions = both ∷ main ∷ [];
} ∷ []

abbrev program : List Package
program = with_variable int

abbrev declared : Function → DeclaredFunction
declared f = record { symbol = record { path = codes "app"; name = f.name }; function = f }

abbrev Typed : DeclaredFunction → Type 0
Typed d = IsWellTypedFunction program d.function

abbrev Whole : Stored → Type 0
Whole v = IsWhole v.of

both_is : IsWellTypedFunction program both
both_is = record { body = ((((refl, refl), ((refl, refl), tt)), (refl, (refl, tt))), tt); ended = refl }

main_is : IsWellTypedFunction program main
main_is = record { body = tt; ended = refl }

abbrev ends : StartStep
ends = calls (record { path = codes "app"; name = codes "main" })

pub is_typed : IsWellTyped program
unfolding Rattle.go_meaning.specs.Meaning.most_cells
is_typed = record {
  functions = All-cons Typed (declared both) (declared main ∷ []) both_is (All-cons Typed (declared main) [] main_is (All-nil Typed));
  variables = All-cons Whole _ [] refl (All-nil Whole);
  start = All-cons (IsWellTypedStart program) (sets (codes "app") taken) (ends ∷ []) ((tt, refl), ((int, refl, refl), tt)) (All-cons (IsWellTypedStart program) ends [] refl (All-nil (IsWellTypedStart program)));
}

-- var a, _ = pair(), where a is a string
pub other_is_stuck : run_program (with_variable string) 9 ≡ Stuck
unfolding Rattle.go_meaning.specs.Meaning.most_cells Rattle.go_text.specs.Editions.most_open
other_is_stuck = refl

pub other_isn't_typed : IsWellTyped (with_variable string) → ⊥
other_isn't_typed h = never_stuck (with_variable string) h 9 other_is_stuck
