-- Functions: https://go.dev/ref/spec#Function_declarations
use Rattle.std.specs.Prelude.{length, drop, List, [], ◌∷◌, map, Option, None}
use Rattle.std.specs.List.{flat_map}
use Rattle.go_text.specs.declared.place.Place.{Place}
use Rattle.go_ast.specs.Trees.{Name, TypeExpr, Block, block, Parameter, FunctionDecl}
use Rattle.go_types.specs.Types.{Type'}
use Rattle.go_typed.specs.Trees as typed
use Rattle.go_typed.specs.Trees.{pack_stmts}
use Rattle.go_expr.specs.Known.{Verdict, Fine}
use Rattle.go_expr.specs.Rules.{fine, checked}
use Rattle.go_expr.specs.Verdicts.{type_verdict, type_faults}
use Rattle.go_stmt.specs.Scopes.{StatementEnv, Context, nothing, scope_in, declare_variable, Checked, still, pure_checked, follow, map_checked, concat_checked, node, declaring}
use Rattle.go_stmt.specs.Rules.{all_some, ended}
use Rattle.go_stmt.specs.Statements.{names_at, block_context, list_at}

-- parameters of a type: each has a number, also the blank one
abbrev pub declare_parameters : List Name → Option Type' → StatementEnv → StatementEnv
declare_parameters [] t env = env
declare_parameters (n ∷ ns) t env = declare_parameters ns t (declare_variable n.text t env)

-- types in the signature stand outside of the function
abbrev pub type_in_signature : Context → TypeExpr → StatementEnv → Checked Type'
type_in_signature c t env = (let s = scope_in c None nothing in still (type_faults s t) (fine (type_verdict s t)) env)

abbrev pub parameter_at : Context → Parameter → StatementEnv → Checked (List Type')
parameter_at c p env =
    declaring (declare_parameters p.names (type_in_signature c p.type env).known) (map_checked (λ k. map (λ n. k.1) k.0) (follow (names_at p.names) (type_in_signature c p.type))) env

abbrev pub parameters_at : Context → List Parameter → StatementEnv → Checked (List Type')
parameters_at c [] env = pure_checked [] env
parameters_at c (p ∷ ps) env = concat_checked (parameter_at c p) (parameters_at c ps) env

-- the type of each result, where it is known
abbrev pub result_types : Context → List TypeExpr → List (Option Type')
result_types c ts = (let s = scope_in c None nothing in map (λ t. fine (type_verdict s t)) ts)

abbrev pub results_at : Context → List TypeExpr → StatementEnv → Checked (List Type')
results_at c ts env = still (flat_map (type_faults (scope_in c None nothing)) ts) (all_some (result_types c ts)) env

-- its results are due in its body
abbrev pub body_at : Context → List TypeExpr → Block → StatementEnv → Checked (List Type' × List typed.Stmt)
body_at c rs (block p ss q) env = follow (results_at c rs) (list_at (record (block_context c) { results = result_types c rs }) ss) env

abbrev pub closing_place : Block → Place
closing_place (block p ss q) = q

-- the types of its parameters, those of its results, and its statements
abbrev pub CheckedParts : Type 0
CheckedParts = List Type' × (List Type' × List typed.Stmt)

abbrev pub whole_function : CheckedParts → Verdict CheckedParts
whole_function k = checked (λ inside. Fine (k.0, inside)) (ended (k.1).0 (k.1).1)

-- the whole function is the node of the rule about its end, which stands at the closing brace
abbrev pub whole_at : Context → FunctionDecl → StatementEnv → Checked CheckedParts
whole_at c f = node (closing_place f.body) whole_function (follow (parameters_at c f.parameters) (body_at c f.results f.body))

-- its parameters are the first of its local variables
abbrev pub function_from : FunctionDecl → List Type' → CheckedParts → typed.Function
function_from f types k = record {
  name = f.name.text;
  parameters = k.0;
  results = (k.1).0;
  locals = drop (length k.0) types;
  body = pack_stmts (k.1).1;
}

unfoldable pub function_at : Context → FunctionDecl → Checked typed.Function
function_at c f =
    map_checked (function_from f (whole_at c f nothing).after.types) (whole_at c f) nothing
