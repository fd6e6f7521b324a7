use Rattle.std.proofs.Common.{sym, subst, Some}
use Rattle.std.specs.Option.{option_map}
use Rattle.go_types.specs.Views.{go_type}
use Rattle.go_typed.specs.Views.{as_expr, as_stmt}
use Rattle.go_expr.specs.Verdicts.{asked_both, broken}
use Rattle.go_expr.specs.Views.{all_of, Gives}
use Rattle.go_stmt.specs.Rules.{constants_verdict}
use Rattle.go_package.specs.Views.{Finds}
use Rattle.go_package.proofs.Parts.{located, unbroken}
use Rattle.go_package.proofs.constants.check_spec.Goals as goal
use Rattle.go_package.proofs.constants.check_spec.Goals.{in-Ok, in-Err}

pub returns : goal.returns
returns c =
    let verdict = asked_both (constants_verdict c.args.names.now) (option_map (option_map go_type) c.args.parts.of) (option_map (all_of as_expr) c.args.parts.values) in
    let given : Gives as_stmt c.constants_of.result verdict =
    subst (λ o. Gives as_stmt c.constants_of.result (asked_both (constants_verdict c.args.names.now) (option_map (option_map go_type) o) (option_map (all_of as_expr) c.args.parts.values))) (sym c.in-Some-Some.is-0)
    (subst (λ o. Gives as_stmt c.constants_of.result (asked_both (constants_verdict c.args.names.now) (Some (option_map go_type c.in-Some-Some.of)) (option_map (all_of as_expr) o))) (sym c.in-Some-Some.is-1) c.constants_of.ensures) in
    elim c.match-constants_of.branch [
      | in-Ok w ↦ subst (λ r. Finds r (broken c.args.place verdict)) (sym w.result-is) (unbroken as_stmt c.args.place _ verdict (subst (λ r. Gives as_stmt r verdict) w.in-Ok.is given))
      | in-Err w ↦ subst (λ r. Finds r (broken c.args.place verdict)) (sym w.result-is) (located as_stmt c.args.place w.in-Err.error _ verdict (subst (λ r. Gives as_stmt r verdict) w.in-Err.is given) w.at.ensures)
    ]
