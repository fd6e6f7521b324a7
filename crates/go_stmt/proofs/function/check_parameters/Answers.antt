use Rattle.std.proofs.Common.{◌≡◌, ◌+◌, ◌<◌, ◌∷◌, List, length, drop, map, arith, sym, subst}
use Rattle.std.proofs.lemmas.Result.{err_from_is_err_and}
use Rattle.go_ast.specs.Views.{parameter_of}
use Rattle.go_ast.specs.declared.file.Parameter.{Parameter}
use Rattle.go_expr.specs.Views.{Fails}
use Rattle.go_stmt.specs.Scopes.{StatementFaults}
use Rattle.go_stmt.specs.Functions.{parameter_at, parameters_at}
use Rattle.go_stmt.specs.Views.{context_of, env_of}
use Rattle.go_stmt.proofs.Failing.{fails_front}
use Rattle.go_stmt.proofs.Sequences.{left}
use Rattle.go_stmt.proofs.function.check_parameters.Goals as goal

pub returns-in_err-more-clause-answer : goal.returns-in_err-more-clause-answer
returns-in_err-more-clause-answer c =
    let k = context_of c.args.context in
    let ps = c.args.parameters.now in
    let i = c.loop-parameter.parameter-index in
    let own = parameter_at k (parameter_of c.parameter-item.result) (env_of c.loop-parameter.env) in
    let e = c.in_err-more.field-0.0 in
    let within : i < length ps = omega arith in
    let next : drop i ps ≡ c.parameter-item.result ∷ drop (i + 1) ps = left ps i c.parameter-item.result within c.parameter-item.is in
    let told : Fails e (parameters_at k (map parameter_of (drop i ps)) (env_of c.loop-parameter.env)).faults =
    subst (λ (l : List Parameter). Fails e (parameters_at k (map parameter_of l) (env_of c.loop-parameter.env)).faults) (sym next)
    (fails_front e own.faults (parameters_at k (map parameter_of (drop (i + 1) ps)) own.after).faults c.in_err-more.ensures.answer) in
    let p = err_from_is_err_and c.from_residual.result c.from_residual.ensures.1 in
    rw (p.1, p.2) (subst (λ (l : StatementFaults). Fails e l) c.loop-parameter.invariant.faults told)
