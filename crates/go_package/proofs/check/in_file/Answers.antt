use Rattle.std.proofs.Common.{map, ap, subst}
use Rattle.go_expr.specs.Views.{Fails}
use Rattle.go_package.proofs.check.in_file.Goals as goal

pub returns-in-Faulty : goal.returns-in-Faulty
returns-in-Faulty c = λ faults fails.
    let number = c.args.number in
    let first = subst (λ e. Fails e faults) c.in-Faulty.is fails in
    (map (λ x. (number, x)) first.0, ap (map (λ x. (number, x))) first.1)
