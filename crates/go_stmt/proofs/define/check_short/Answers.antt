use Rattle.std.proofs.Common.{◌≡◌, [], Option, None, map, sym, ap, ◌∙◌}
use Rattle.std.specs.Option.{option_map}
use Rattle.go_ast.specs.Trees.{ExpressionList}
use Rattle.go_ast.specs.Views.{exprs_in}
use Rattle.go_typed.specs.Trees as typed
use Rattle.go_typed.specs.Views.{as_source, as_stmt}
use Rattle.go_expr.specs.Known.{Scope}
use Rattle.go_expr.specs.Views.{scope_of}
use Rattle.go_stmt.specs.Scopes.{StatementEnv, Context, scope_in, own, variable_number, paired_names, declare_new}
use Rattle.go_stmt.specs.Rules.{AssignedValues, redefined}
use Rattle.go_stmt.specs.Views.{context_of, env_of, values_seen}
use Rattle.go_stmt.specs.Statements.{values_at, values_faults, values_known, value_types, short_at}
use Rattle.go_stmt.proofs.Defining.{made, made_fails, answers_err}
use Rattle.go_stmt.proofs.define.check_short.Goals as goal

-- the values, where they have no fault: those that are known
parts_none : (context : Context) (env : StatementEnv) (es : ExpressionList) (s : Scope) → s ≡ scope_in context None env → values_faults s es ≡ [] → values_faults (scope_in context None env) es ≡ []
parts_none context env es s is none = ap (λ (s : Scope). values_faults s es) (sym is) ∙ none

parts_known : (context : Context) (env : StatementEnv) (es : ExpressionList) (s : Scope) (values : Option AssignedValues) → s ≡ scope_in context None env → values ≡ values_known s es → values_known (scope_in context None env) es ≡ values
parts_known context env es s values is gets = ap (λ (s : Scope). values_known s es) (sym is) ∙ sym gets

pub returns-in_err-source-clause-answer : goal.returns-in_err-source-clause-answer
returns-in_err-source-clause-answer c =
    let context = context_of c.args.context in
    let env = env_of c.args.env.now in
    let names = c.args.names.now in
    let es = exprs_in c.args.es.now in
    let values = option_map values_seen c.in_ok-types.field-0.known in
    let none = parts_none context env es (scope_of c.scope.result) c.scope.ensures c.in_ok-types.ensures.faults in
    let known = parts_known context env es (scope_of c.scope.result) values c.scope.ensures c.in_ok-types.ensures.known in
    let change = declare_new (paired_names names (value_types (scope_in context None env) es)) in
    answers_err as_stmt c.from_residual-in_err-source.result c.in_err-source.field-0.0 (short_at context c.args.place names es env) c.from_residual-in_err-source.ensures.1
    (made_fails c.in_err-source.field-0.0 c.args.place (typed.define (map (variable_number (change env)) names)) (redefined context.constants (own env) names) (values_at context es) env values none known c.in_err-source.ensures)

pub returns-clause-answer : goal.returns-clause-answer
returns-clause-answer c =
    let context = context_of c.args.context in
    let env = env_of c.args.env.now in
    let names = c.args.names.now in
    let es = exprs_in c.args.es.now in
    let values = option_map values_seen c.in_ok-types.field-0.known in
    let source = option_map as_source c.in_ok-source.source in
    let none = parts_none context env es (scope_of c.scope.result) c.scope.ensures c.in_ok-types.ensures.faults in
    let known = parts_known context env es (scope_of c.scope.result) values c.scope.ensures c.in_ok-types.ensures.known in
    let change = declare_new (paired_names names (value_types (scope_in context None env) es)) in
    let whole = made c.args.place (typed.define (map (variable_number (change env)) names)) (redefined context.constants (own env) names) (values_at context es) env values source none known c.in_ok-source.ensures.0 c.in_ok-source.ensures.1 in
    let after : env_of c.declare_all.new.env ≡ change env =
    c.in_ok-numbers.ensures.after
    ∙ ap (λ ts. declare_new (paired_names names ts) env) (c.in_ok-types.ensures.types ∙ ap (λ (s : Scope). value_types s es) c.scope.ensures) in
    let numbers : map (variable_number (change env)) names ≡ c.in_ok-numbers.numbers.items = ap (λ (e : StatementEnv). map (variable_number e) names) (sym after) ∙ sym c.in_ok-numbers.ensures.numbers in
    (whole.0, whole.1 ∙ ap (λ ns. option_map (typed.define ns) source) numbers ∙ sym c.defined.ensures)
