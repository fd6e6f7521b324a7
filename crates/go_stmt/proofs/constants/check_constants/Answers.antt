use Rattle.std.proofs.Common.{sym, ap, ◌∙◌, subst}
use Rattle.std.specs.Option.{option_map}
use Rattle.go_text.specs.declared.place.Place.{Place}
use Rattle.go_types.specs.Views.{go_type}
use Rattle.go_typed.specs.Views.{as_expr, as_stmt}
use Rattle.go_expr.specs.Known.{Scope}
use Rattle.go_expr.specs.Verdicts.{both, broken, operand, verdict}
use Rattle.go_expr.specs.Views.{all_of, scope_of, Fails}
use Rattle.go_stmt.specs.Scopes.{StatementFaults, nothing, paired_names}
use Rattle.go_stmt.specs.Rules.{all_some}
use Rattle.go_stmt.specs.Views.{context_of, env_of, constant_spec, typed_in}
use Rattle.go_stmt.specs.Statements.{place_of_first, each_of, written_at, spec_at, declared_constant, declare_constants, constants_at}
use Rattle.go_stmt.proofs.Defining.{answers_err}
use Rattle.go_stmt.proofs.Locals.{constants_by, constants_made, constants_fail, constants_part_fails}
use Rattle.go_stmt.proofs.constants.check_constants.Goals as goal

pub returns-in_err-parts-clause-answer : goal.returns-in_err-parts-clause-answer
returns-in_err-parts-clause-answer c =
    let context = context_of c.args.context in
    let env = env_of c.args.env.now in
    let spec = constant_spec c.args.spec in
    let repeated = c.args.repeated in
    let e = c.in_err-parts.field-0.0 in
    answers_err typed_in c.from_residual-in_err-parts.result e (constants_at context c.args.place c.args.iota repeated spec env) c.from_residual-in_err-parts.ensures.1
    (constants_part_fails e context c.args.place c.args.iota repeated spec env c.in_ok-check_names.ensures
    (subst (λ (l : StatementFaults). Fails e l)
    (ap (λ (q : Place). (spec_at (scope_of c.scope.result) q repeated spec nothing).faults) c.place_at-first.ensures
    ∙ ap (λ (s : Scope). (spec_at s (place_of_first c.args.place spec.names) repeated spec nothing).faults) c.scope.ensures)
    c.in_err-parts.ensures.faults))

pub returns-in_err-statement-clause-answer : goal.returns-in_err-statement-clause-answer
returns-in_err-statement-clause-answer c =
    let context = context_of c.args.context in
    let env = env_of c.args.env.now in
    let spec = constant_spec c.args.spec in
    let repeated = c.args.repeated in
    let e = c.in_err-statement.field-0.0 in
    let parts = c.in_ok-parts.parts in
    let written = option_map (option_map go_type) parts.written in
    let values = option_map (all_of as_expr) parts.values in
    answers_err typed_in c.from_residual-in_err-statement.result e (constants_at context c.args.place c.args.iota repeated spec env) c.from_residual-in_err-statement.ensures.1
    (constants_fail e context c.args.place c.args.iota repeated spec env written values c.in_ok-check_names.ensures
    (ap (λ (s : Scope). (spec_at s (place_of_first c.args.place spec.names) repeated spec nothing).faults) (sym c.scope.ensures)
    ∙ ap (λ (q : Place). (spec_at (scope_of c.scope.result) q repeated spec nothing).faults) (sym c.place_at-first.ensures) ∙ c.in_ok-parts.ensures.faults)
    (c.in_ok-parts.ensures.written ∙ ap (λ (s : Scope). (written_at s spec.type nothing).known) c.scope.ensures)
    (c.in_ok-parts.ensures.values ∙ ap (λ (s : Scope). all_some (each_of (λ e. operand (verdict s e)) spec.values)) c.scope.ensures)
    (subst (λ (l : StatementFaults). Fails e l) (ap (λ q. broken q (constants_by spec.names (both written values))) c.place_at-first.ensures) c.in_err-statement.ensures))

pub returns-clause-answer : goal.returns-clause-answer
returns-clause-answer c =
    let context = context_of c.args.context in
    let env = env_of c.args.env.now in
    let spec = constant_spec c.args.spec in
    let repeated = c.args.repeated in
    let parts = c.in_ok-parts.parts in
    let written = option_map (option_map go_type) parts.written in
    let values = option_map (all_of as_expr) parts.values in
    let statement = option_map as_stmt c.in_ok-statement.statement in
    let whole = constants_made context c.args.place c.args.iota repeated spec env written values statement c.in_ok-check_names.ensures
    (ap (λ (s : Scope). (spec_at s (place_of_first c.args.place spec.names) repeated spec nothing).faults) (sym c.scope.ensures)
    ∙ ap (λ (q : Place). (spec_at (scope_of c.scope.result) q repeated spec nothing).faults) (sym c.place_at-first.ensures) ∙ c.in_ok-parts.ensures.faults)
    (c.in_ok-parts.ensures.written ∙ ap (λ (s : Scope). (written_at s spec.type nothing).known) c.scope.ensures)
    (c.in_ok-parts.ensures.values ∙ ap (λ (s : Scope). all_some (each_of (λ e. operand (verdict s e)) spec.values)) c.scope.ensures)
    (ap (λ q. broken q (constants_by spec.names (both written values))) (sym c.place_at-first.ensures) ∙ c.in_ok-statement.ensures.0) c.in_ok-statement.ensures.1 in
    (whole.0, whole.1 ∙ sym c.in_ok-single.ensures)

pub returns-clause-after : goal.returns-clause-after
returns-clause-after c =
    let spec = constant_spec c.args.spec in
    let declared = c.in_ok-parts.ensures.declared ∙ ap (λ (s : Scope). each_of (declared_constant s spec.type) spec.values) c.scope.ensures in
    c.in_ok-declare_each.ensures ∙ ap (λ l. declare_constants (paired_names spec.names l) (env_of c.args.env.now)) declared
