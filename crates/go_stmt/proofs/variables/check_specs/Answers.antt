use Rattle.std.proofs.Common.{List, map, drop, ap, ◌+◌}
use Rattle.std.specs.Option.{option_map}
use Rattle.go_ast.specs.Views.{var_of}
use Rattle.go_ast.specs.declared.declaration.VarSpec.{VarSpec}
use Rattle.go_stmt.specs.Views.{context_of, env_of, typed_in}
use Rattle.go_stmt.specs.Statements.{variables_at, specs_at}
use Rattle.go_stmt.proofs.Defining.{answers_err}
use Rattle.go_stmt.proofs.Leading.{goes_on, fails}
use Rattle.go_stmt.proofs.Sequences.{left}
use Rattle.go_stmt.proofs.variables.check_specs.Goals as goal

pub returns-in_err-more-clause-answer : goal.returns-in_err-more-clause-answer
returns-in_err-more-clause-answer c =
    let context = context_of c.args.context in
    let specs = c.args.specs.now in
    let i = c.loop-spec.spec-index in
    let env = env_of c.loop-spec.env in
    let e = c.in_err-more.field-0.0 in
    let form = λ (l : List VarSpec). specs_at context c.args.place (map var_of l) env in
    let all = specs_at context c.args.place (map var_of specs) (env_of c.args.env.now) in
    answers_err typed_in c.from_residual.result e all c.from_residual.ensures.1
    (fails e (variables_at context c.args.place (var_of c.spec-item.result)) (specs_at context c.args.place (map var_of (drop (i + 1) specs))) env all (form (drop i specs))
    (option_map typed_in c.loop-spec.known) (ap form (left specs i c.spec-item.result c.loop-spec-test.true c.spec-item.is)) c.loop-spec.invariant c.in_err-more.ensures.answer)

pub loop-spec-preserved : goal.loop-spec-preserved
loop-spec-preserved c =
    let context = context_of c.args.context in
    let specs = c.args.specs.now in
    let i = c.loop-spec.spec-index in
    let env = env_of c.loop-spec.env in
    let form = λ (l : List VarSpec). specs_at context c.args.place (map var_of l) env in
    let all = specs_at context c.args.place (map var_of specs) (env_of c.args.env.now) in
    goes_on (variables_at context c.args.place (var_of c.spec-item.result)) (specs_at context c.args.place (map var_of (drop (i + 1) specs))) env (env_of c.check_variables.new.env) all (form (drop i specs))
    (option_map typed_in c.loop-spec.known) (option_map typed_in c.in_ok-known.known) (option_map typed_in c.in_ok-more.more)
    (ap form (left specs i c.spec-item.result c.loop-spec-test.true c.spec-item.is)) c.loop-spec.invariant c.in_ok-more.ensures.answer.0 c.in_ok-more.ensures.answer.1 c.in_ok-more.ensures.after
    c.in_ok-known.ensures
