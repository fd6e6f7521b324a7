use Rattle.std.proofs.Common.{◌≡◌, ◌++◌, List, Ok, Err, IfOk, map, sym, ap, ◌∙◌, subst}
use Rattle.std.proofs.lemmas.Result.{err_from_is_err_and}
use Rattle.std.specs.Prelude.{is_some}
use Rattle.std.specs.Option.{option_map}
use Rattle.go_ast.specs.Trees.{Name}
use Rattle.go_ast.specs.Views.{var_of}
use Rattle.go_types.specs.Views.{go_type}
use Rattle.go_typed.specs.Views.{as_source}
use Rattle.go_scope.specs.Names.{in_exprs}
use Rattle.go_expr.specs.Rules.{fine}
use Rattle.go_expr.specs.Verdicts.{both, asked_both, broken}
use Rattle.go_stmt.specs.Rules.{variables_source}
use Rattle.go_stmt.specs.Views.{values_seen}
use Rattle.go_objects.specs.Objects.{variables_of}
use Rattle.go_objects.specs.Table.{in_written}
use Rattle.go_objects.specs.Views.{object_view, spec_of}
use Rattle.go_package.specs.Views.{facts_of, Finds}
use Rattle.go_package.proofs.Parts.{asked_whole}
use Rattle.go_package.proofs.Sources.{by_each, none_by_each}
use Rattle.go_package.proofs.variables.check_whole.Goals as goal

pub returns-then-are_known-clause-faults : goal.returns-then-are_known-clause-faults
returns-then-are_known-clause-faults c =
    let spec = var_of c.args.spec.now in
    let of = option_map (option_map go_type) c.args.parts.of in
    let values = option_map values_seen c.args.parts.values in
    asked_whole c.check_source.result (facts_of c.args.facts.now) c.args.file c.args.place (is_some (both of values)) (in_written spec.type ++ in_exprs spec.values) (variables_of c.args.file spec)
    (broken c.args.place (asked_both (variables_source spec.names) of values)) (sym c.are_known.ensures ∙ c.if-are_known.true)
    (subst (λ (ns : List Name). Finds c.check_source.result (broken c.args.place (asked_both (variables_source ns) of values))) c.deref.ensures.value c.check_source.ensures.faults)

pub returns-in_err-check_apart-clause-faults : goal.returns-in_err-check_apart-clause-faults
returns-in_err-check_apart-clause-faults c =
    let spec = var_of c.args.spec.now in
    let of = option_map (option_map go_type) c.args.parts.of in
    let values = option_map values_seen c.args.parts.values in
    let parts = spec_of c.by_parts.result in
    let are : map object_view c.deref-2.result.now ≡ variables_of c.args.file spec = ap (map object_view) c.deref-2.ensures.value ∙ c.in_ok-objects.ensures in
    let p = err_from_is_err_and c.from_residual-in_err-check_apart.result c.from_residual-in_err-check_apart.ensures.1 in
    rw (p.1, p.2) (by_each {X = Unit {0}} (Err c.in_err-check_apart.field-0.0) (facts_of c.args.facts.now) c.args.file c.args.place spec of values parts.type parts.values (map object_view c.deref-2.result.now)
    (sym c.are_known.ensures ∙ c.if-are_known.false) c.by_parts.ensures.of c.by_parts.ensures.values are c.in_err-check_apart.ensures)

pub returns-clause-faults : goal.returns-clause-faults
returns-clause-faults c =
    let spec = var_of c.args.spec.now in
    let of = option_map (option_map go_type) c.args.parts.of in
    let values = option_map values_seen c.args.parts.values in
    let parts = spec_of c.by_parts.result in
    let are : map object_view c.deref-2.result.now ≡ variables_of c.args.file spec = ap (map object_view) c.deref-2.ensures.value ∙ c.in_ok-objects.ensures in
    by_each {X = Unit {0}} (Ok tt) (facts_of c.args.facts.now) c.args.file c.args.place spec of values parts.type parts.values (map object_view c.deref-2.result.now)
    (sym c.are_known.ensures ∙ c.if-are_known.false) c.by_parts.ensures.of c.by_parts.ensures.values are c.in_ok-check_apart.ensures

pub returns-then-are_known-clause-source : goal.returns-then-are_known-clause-source
returns-then-are_known-clause-source c =
    let of = option_map (option_map go_type) c.args.parts.of in
    let values = option_map values_seen c.args.parts.values in
    subst (λ (ns : List Name). IfOk c.check_source.result (λ source. option_map as_source source ≡ fine (asked_both (variables_source ns) of values))) c.deref.ensures.value c.check_source.ensures.source

pub returns-clause-source : goal.returns-clause-source
returns-clause-source c =
    none_by_each (var_of c.args.spec.now) (option_map (option_map go_type) c.args.parts.of) (option_map values_seen c.args.parts.values) (sym c.are_known.ensures ∙ c.if-are_known.false)
