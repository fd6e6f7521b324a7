-- How the code's values stand for those of the definitions, and what its answers say.
use Rattle.std.specs.Prelude.{◌≡◌, ℕ, Bool, ◌&&◌, not, List, [], map, Option, option_map, Result, Ok, Err, Vec, Box}
use Rattle.std.specs.Global.{Global}
use Rattle.std.specs.List.{filter, flat_map}
use Rattle.go_text.specs.declared.place.Place.{Place}
use Rattle.go_text.specs.declared.fault.FaultKind.{FaultKind}
use Rattle.go_types.specs.Types.{Type'}
use Rattle.go_types.specs.declared.types.GoType.{GoType}
use Rattle.go_types.specs.Views.{go_type}
use Rattle.go_ast.specs.Trees as trees
use Rattle.go_ast.specs.Trees.{Name}
use Rattle.go_ast.specs.Views.{expr_of as expr_tree, exprs_in as exprs_trees, stmt_of as stmt_tree, if_some, if_boxed, simple_of, block_of, clause_of, type_of as type_tree}
use Rattle.go_ast.specs.Machine.{pack_cases}
use Rattle.go_ast.specs.declared.statement.Stmt.{Stmt}
use Rattle.go_ast.specs.declared.statement.Clause.{Clause}
use Rattle.go_ast.specs.declared.statement.Simple.{Simple}
use Rattle.go_ast.specs.declared.expression.Expr.{Expr}
use Rattle.go_ast.specs.declared.statement.For.{For}
use Rattle.go_ast.specs.declared.statement.Range.{Range}
use Rattle.go_typed.specs.Trees as typed
use Rattle.go_typed.specs.Views.{as_expr, as_exprs, as_stmt, as_clause as typed_clause}
use Rattle.go_typed.specs.declared.statement.TypedClause.{TypedClause}
use Rattle.go_typed.specs.declared.statement.TypedStmt.{TypedStmt}
use Rattle.go_expr.specs.declared.error.ExprError.{ExprError}
use Rattle.go_expr.specs.declared.known.Declared.{Declared}
use Rattle.go_expr.specs.Known as known
use Rattle.go_expr.specs.Views.{declared_of, names_in, Answers, Fails}
use Rattle.go_scope.specs.Scopes as blocks
use Rattle.go_stmt.specs.declared.constants.Spec.{Spec}
use Rattle.go_stmt.specs.declared.env.Env as envs
use Rattle.go_stmt.specs.declared.context.Context as contexts
use Rattle.go_stmt.specs.declared.function.Inside.{Inside}
use Rattle.go_stmt.specs.declared.function.Parts.{Parts as FunctionParts}
use Rattle.go_stmt.specs.declared.values.Values as values
use Rattle.go_stmt.specs.declared.values.Values.TheVariants as variants
use Rattle.go_stmt.specs.Rules.{SwitchClause as ClauseValue, AssignedValues, separate, together, no_values}
use Rattle.go_scope.specs.Scopes.{is_blank}
use Rattle.go_stmt.specs.Scopes.{StatementEnv, Context, Checked}
use Rattle.go_stmt.specs.Functions.{CheckedParts}
use Rattle.go_stmt.specs.Statements.{constant_names, leads_on, in_clause, clause_at, list_at}

-- names of blocks, each with what it declares where that is known
abbrev pub shown_block : blocks.BlockNames (Option Declared) → blocks.BlockNames (Option known.Declared)
shown_block block = map (λ n. (n.0, option_map declared_of n.1)) block

abbrev pub env_of : envs.Env → StatementEnv
env_of env = record {
  names = record { inner = shown_block env.names.inner; outer = map shown_block env.names.outer };
  types = map go_type env.types.items;
}

-- the names of the constants that some statements declare
abbrev pub constant_names_in : List Stmt → List (List ℕ)
constant_names_in ss = flat_map constant_names (map stmt_tree ss)

abbrev pub context_of : contexts.Context → Context
context_of c = record {
  path = c.path.now;
  outside = λ iota. names_in c.edition c.imports.now c.declared.now iota;
  results = map (option_map go_type) c.results.now;
  constants = constant_names_in c.before.now;
  breaks = c.breaks;
  continues = c.continues;
  falls = c.falls;
}

abbrev pub trees_in : List Stmt → trees.StatementList
trees_in ss = trees.pack_statements (map stmt_tree ss)

abbrev pub for_of : For → trees.Statement
for_of f = trees.for_statement f.place (if_boxed simple_of f.init) (if_boxed expr_tree f.condition) (if_boxed simple_of f.post) (block_of f.body)

abbrev pub range_of : Range → trees.Statement
range_of r = trees.range_statement r.place r.name (expr_tree r.operand.value) (block_of r.body)

abbrev pub clauses_trees : List Clause → trees.Cases
clauses_trees cs = pack_cases (map clause_of cs)

abbrev pub switch_of : Place → Option (Box Simple Global) → Option (Box Expr Global) → List Clause → trees.Statement
switch_of p before tag cs = trees.switch_statement p (if_boxed simple_of before) (if_boxed expr_tree tag) (clauses_trees cs)

abbrev pub cases_tree : Option (Vec Expr Global) → Option trees.ExpressionList
cases_tree cases = if_some (λ (es : Vec Expr Global). exprs_trees es.items) cases

abbrev pub typed_in : Vec TypedStmt Global → List typed.Stmt
typed_in v = map as_stmt v.items

abbrev pub clauses_of : Vec TypedClause Global → List ClauseValue
clauses_of v = map typed_clause v.items

-- the results and the statements of a function
abbrev pub inside_of : Inside → List Type' × List typed.Stmt
inside_of i = (map go_type i.results.items, typed_in i.statements)

-- a function's parameters, and what is inside
abbrev pub parts_view : FunctionParts → CheckedParts
parts_view p = (map go_type p.parameters.items, inside_of p.inside)

-- a clause of the code, behind a default or not, and the last one or not
abbrev pub clause_in : Context → Option Type' → Bool → Bool → Clause → StatementEnv → Checked ClauseValue
clause_in c tag again last s =
    (let ss = trees_in s.statements.items in clause_at c tag again (leads_on ss && not last) s.place (cases_tree s.values) (list_at (in_clause c (not last)) ss))

-- what is known of a form, or the first fault in it
abbrev pub Answered : {X Y : Type 0} → (X → Y) → Result (Option X) ExprError → Checked Y → Type 0
Answered view result x = Answers view result x.faults x.known

-- no fault, or the first one
abbrev pub Finds : {X : Type 0} → Result X ExprError → List (Place × FaultKind) → Type 0
Finds (Ok x) faults = faults ≡ []
Finds (Err e) faults = Fails e faults

abbrev pub values_seen : values.Values → AssignedValues
values_seen (variants.Separate es) = separate (map as_expr es.items)
values_seen (variants.Together ts f es) = together (map go_type ts.items) f (as_exprs es.items)
values_seen variants.Nothing = no_values

-- the texts of names that aren't blank
abbrev pub own_texts : List Name → List (List ℕ)
own_texts ns = map (λ (n : Name). n.text) (filter (λ (n : Name). not (is_blank n.text)) ns)

-- what is due for a name, where that is known
abbrev pub due_seen : Option (Option GoType) → Option (Option Type')
due_seen due = option_map (option_map go_type) due

-- a specification of constants, by what it means
abbrev pub constant_spec : Spec → trees.ConstSpec
constant_spec s = record { names = s.names.now; type = option_map (λ t. type_tree t.now) s.of; values = exprs_trees s.values.now }
