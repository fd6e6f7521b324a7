-- A function without fault has a typed tree, where all names outside of it are told.
use Rattle.std.proofs.Common.{◌≡◌, List, [], ◌∷◌, Option, Some, None, map, refl}
use Rattle.std.specs.List.{flat_map}
use Rattle.go_ast.specs.Trees.{Name, TypeExpr, Block, block, Parameter, FunctionDecl}
use Rattle.go_types.specs.Types.{Type'}
use Rattle.go_expr.specs.Known.{Scope}
use Rattle.go_expr.specs.Rules.{fine}
use Rattle.go_expr.specs.Verdicts.{type_verdict, type_faults}
use Rattle.go_stmt.specs.Scopes.{StatementEnv, Context, nothing, scope_in, declare_variable, follow}
use Rattle.go_stmt.specs.Rules.{all_some, ended}
use Rattle.go_stmt.specs.Statements.{names_at, block_context, list_at}
use Rattle.go_stmt.specs.Functions.{declare_parameters, type_in_signature, parameter_at, parameters_at, result_types, results_at, body_at, closing_place, CheckedParts, whole_function, whole_at, function_from, function_at}
use Rattle.go_package_laws.specs.Finds.{IsKnown}
use Rattle.go_package_laws.specs.Locals.{IsLocalBlock}
use Rattle.go_package_laws.proofs.Completeness.Rules.{IsAsked, through}
use Rattle.go_package_laws.proofs.Completeness.Steps.{ends}
use Rattle.go_package_laws.proofs.Completeness.Faultless.{two_none, told_type}
use Rattle.go_package_laws.proofs.Completeness.Forms.{Whole, Outside, all_told, variable_whole, Any, Sure, any, sure_given, both_sure, sure_seen, sure_appended, sure_node}
use Rattle.go_package_laws.proofs.Completeness.Leaves.{Tells, all_more, names_sure}
use Rattle.go_package_laws.proofs.Completeness.Statements.{statements_sure}

-- outside of the function
tells : (c : Context) → Outside c → Tells (scope_in c None nothing)
tells c out = all_told c None nothing out (tt, tt)

type_sure : (c : Context) → Outside c → (t : TypeExpr) → Sure Any (type_in_signature c t)
type_sure c out t env whole none = (any (fine (type_verdict (scope_in c None nothing) t)) (told_type (scope_in c None nothing) t (tells c out) none), whole)

parameters_whole : (ns : List Name) (t : Option Type') (env : StatementEnv) → IsKnown t → Whole env → Whole (declare_parameters ns t env)
parameters_whole [] t env k h = h
parameters_whole (n ∷ ns) None env k h = absurd cc
parameters_whole (n ∷ ns) (Some t) env k h = parameters_whole ns (Some t) (declare_variable n.text (Some t) env) (t, refl) (variable_whole n.text t env h)

parameter_sure : (c : Context) → Outside c → (p : Parameter) → Sure Any (parameter_at c p)
parameter_sure c out p env whole none =
    let parts = follow (names_at p.names) (type_in_signature c p.type) in
    let one = sure_seen Any Any (λ (k : List Name × Type'). map (λ n. k.1) k.0) parts (λ x q. tt) (both_sure (names_at p.names) (type_in_signature c p.type) (names_sure p.names) (type_sure c out p.type)) env whole none in
    let front = two_none (names_at p.names env).faults (type_in_signature c p.type env).faults none in
    let of = type_sure c out p.type env whole front.1 in
    (one.0, parameters_whole p.names (type_in_signature c p.type env).known env ((of.0).0, (of.0).1) whole)

parameters_sure : (c : Context) → Outside c → (ps : List Parameter) → Sure Any (parameters_at c ps)
parameters_sure c out [] = sure_given []
parameters_sure c out (p ∷ ps) = sure_appended (parameter_at c p) (parameters_at c ps) (parameter_sure c out p) (parameters_sure c out ps)

all_types : (s : Scope) → Tells s → (ts : List TypeExpr) → flat_map (type_faults s) ts ≡ [] → IsKnown (all_some (map (λ t. fine (type_verdict s t)) ts))
all_types s t [] none = ([], refl)
all_types s t (u ∷ us) none =
    let ns = two_none (type_faults s u) (flat_map (type_faults s) us) none in
    all_more (fine (type_verdict s u)) (map (λ t. fine (type_verdict s t)) us) (told_type s u t ns.0) (all_types s t us ns.1)

results_sure : (c : Context) → Outside c → (ts : List TypeExpr) → Sure Any (results_at c ts)
results_sure c out ts env whole none = (any (results_at c ts env).known (all_types (scope_in c None nothing) (tells c out) ts none), whole)

body_sure : (c : Context) → Outside c → (rs : List TypeExpr) (b : Block) → IsLocalBlock b → Sure Any (body_at c rs b)
body_sure c out rs (block p ss q) l =
    let inner = record (block_context c) { results = result_types c rs } in
    both_sure (results_at c rs) (list_at inner ss) (results_sure c out rs) (statements_sure inner out ss l)

wholes : (k : CheckedParts) → IsAsked (whole_function k)
wholes k = through _ (ended (k.1).0 (k.1).1) (λ inside. tt) (ends (k.1).0 (k.1).1)

pub function_known : (c : Context) (f : FunctionDecl) → Outside c → IsLocalBlock f.body → (function_at c f).faults ≡ [] → IsKnown (function_at c f).known
unfolding function_at
function_known c f out l none =
    let form = follow (parameters_at c f.parameters) (body_at c f.results f.body) in
    let parts = both_sure (parameters_at c f.parameters) (body_at c f.results f.body) (parameters_sure c out f.parameters) (body_sure c out f.results f.body l) in
    let all = sure_node Any (closing_place f.body) whole_function form (λ k q. wholes k) parts in
    let one = sure_seen Any Any (function_from f (whole_at c f nothing).after.types) (whole_at c f) (λ x q. tt) all nothing (tt, tt) none in
    ((one.0).0, (one.0).1)
