use Rattle.std.proofs.Common.{◌≡◌, List, [], ◌∷◌, None, map, sym, ap, ◌∙◌, subst}
use Rattle.std.specs.Option.{option_map}
use Rattle.go_text.specs.declared.place.Place.{Place}
use Rattle.go_ast.specs.Trees.{Name}
use Rattle.go_ast.specs.Views.{var_of}
use Rattle.go_types.specs.Views.{go_type}
use Rattle.go_typed.specs.Trees as typed
use Rattle.go_typed.specs.Views.{as_source}
use Rattle.go_expr.specs.Rules.{fine}
use Rattle.go_expr.specs.Verdicts.{both, broken}
use Rattle.go_expr.specs.Views.{Fails}
use Rattle.go_stmt.specs.Scopes.{StatementEnv, StatementFaults, scope_in, variable_number, paired_names, declare_new}
use Rattle.go_stmt.specs.Views.{context_of, env_of, typed_in, values_seen}
use Rattle.go_stmt.specs.Statements.{names_faults, place_of_first, variables_at, variable_types}
use Rattle.go_stmt.proofs.Defining.{answers_err}
use Rattle.go_stmt.proofs.Locals.{source_by, numbers_behind, variables_made, variables_fail, mapped_twice}
use Rattle.go_stmt.proofs.variables.check_variables.Goals as goal

pub returns-in_err-source-clause-answer : goal.returns-in_err-source-clause-answer
returns-in_err-source-clause-answer c =
    let context = context_of c.args.context in
    let env = env_of c.args.env.now in
    let spec = var_of c.args.spec.now in
    let named = c.as_slice-names.ensures.value in
    let e = c.in_err-source.field-0.0 in
    let written = option_map (option_map go_type) c.in_ok-parts.parts.written in
    let values = option_map values_seen c.in_ok-parts.parts.values in
    let faults = λ (p : Place) (ns : List Name). broken p (source_by ns (both written values)) in
    answers_err typed_in c.from_residual-in_err-source.result e (variables_at context c.args.place spec env) c.from_residual-in_err-source.ensures.1
    (variables_fail e context c.args.place spec env written values
    (ap (names_faults env []) (sym named) ∙ c.in_ok-check_names.ensures) c.in_ok-parts.ensures.faults (c.in_ok-parts.ensures.written) c.in_ok-parts.ensures.values
    (subst (λ (l : StatementFaults). Fails e l) (ap (λ p. faults p c.as_slice-names.result.now) c.place_at-first.ensures ∙ ap (λ ns. faults (place_of_first c.args.place ns) ns) named) c.in_err-source.ensures))

pub returns-clause-answer : goal.returns-clause-answer
returns-clause-answer c =
    let context = context_of c.args.context in
    let env = env_of c.args.env.now in
    let spec = var_of c.args.spec.now in
    let named = c.as_slice-names.ensures.value in
    let written = option_map (option_map go_type) c.in_ok-parts.parts.written in
    let values = option_map values_seen c.in_ok-parts.parts.values in
    let source = option_map as_source c.in_ok-source.source in
    let faults = λ (p : Place) (ns : List Name). broken p (source_by ns (both written values)) in
    let told : faults c.place_at-first.result c.as_slice-names.result.now ≡ faults (place_of_first c.args.place spec.names) spec.names =
    ap (λ p. faults p c.as_slice-names.result.now) c.place_at-first.ensures ∙ ap (λ ns. faults (place_of_first c.args.place ns) ns) named in
    let whole = variables_made context c.args.place spec env written values source
    (ap (names_faults env []) (sym named) ∙ c.in_ok-check_names.ensures) c.in_ok-parts.ensures.faults (c.in_ok-parts.ensures.written) c.in_ok-parts.ensures.values
    (sym told ∙ c.in_ok-source.ensures.0) (ap (λ ns. fine (source_by ns (both written values))) (sym named) ∙ c.in_ok-source.ensures.1) in
    let change = declare_new (paired_names spec.names (variable_types (scope_in context None env) spec)) in
    let after : env_of c.declare_all.new.env ≡ change env =
    c.in_ok-numbers.ensures.after ∙ ap (λ (ns : List Name). declare_new (paired_names ns (map (option_map go_type) c.in_ok-parts.parts.types.items)) env) named
    ∙ ap (λ ts. declare_new (paired_names spec.names ts) env) c.in_ok-parts.ensures.types in
    let numbers : numbers_behind context spec env ≡ c.in_ok-numbers.numbers.items =
    ap (λ (e : StatementEnv). map (variable_number e) spec.names) (sym after) ∙ ap (map (variable_number (env_of c.declare_all.new.env))) (sym named) ∙ sym c.in_ok-numbers.ensures.numbers in (
      whole.0,
      whole.1 ∙ ap (λ ns. option_map (λ s. typed.define ns s ∷ []) source) numbers ∙ sym (mapped_twice (λ s. s ∷ []) (typed.define c.in_ok-numbers.numbers.items) source)
          ∙ ap (option_map (λ s. s ∷ [])) (sym c.defined.ensures) ∙ sym c.in_ok-single.ensures,
    )
