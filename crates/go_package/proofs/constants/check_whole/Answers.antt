use Rattle.std.proofs.Common.{◌≡◌, ◌++◌, false, Option, List, map, sym, ap, ◌∙◌, subst}
use Rattle.std.specs.Prelude.{is_some}
use Rattle.std.specs.Option.{option_map}
use Rattle.go_types.specs.Types.{Type'}
use Rattle.go_types.specs.Views.{go_type}
use Rattle.go_typed.specs.Trees.{Expr}
use Rattle.go_typed.specs.Views.{as_expr}
use Rattle.go_scope.specs.Names.{in_exprs}
use Rattle.go_expr.specs.Views.{all_of}
use Rattle.go_expr.specs.Verdicts.{both, asked_both, broken}
use Rattle.go_stmt.specs.Rules.{constants_verdict}
use Rattle.go_objects.specs.Objects as objects
use Rattle.go_objects.specs.Table.{in_written}
use Rattle.go_objects.specs.Views.{object_view, spec_of}
use Rattle.go_package.specs.Faults.{apart}
use Rattle.go_package.specs.Views.{facts_of, Finds}
use Rattle.go_package.proofs.Parts.{asked_whole, asked_apart}
use Rattle.go_package.proofs.constants.check_whole.Goals as goal

pub returns-then-are_known : goal.returns-then-are_known
returns-then-are_known c =
    let spec = spec_of c.args.spec in
    let of = option_map (option_map go_type) c.args.parts.of in
    let values = option_map (all_of as_expr) c.args.parts.values in
    asked_whole c.check_spec.result (facts_of c.args.facts.now) c.args.file c.args.place (is_some (both of values)) (in_written spec.type ++ in_exprs spec.values) (objects.constants_of c.args.file c.args.iota spec)
    (broken c.args.place (asked_both (constants_verdict spec.names) of values)) (sym c.are_known.ensures ∙ c.if-are_known.true) c.check_spec.ensures

pub returns : goal.returns
returns c =
    let t = facts_of c.args.facts.now in
    let spec = spec_of c.args.spec in
    let of = option_map (option_map go_type) c.args.parts.of in
    let values = option_map (all_of as_expr) c.args.parts.values in
    let us = in_written spec.type ++ in_exprs spec.values in
    let os = objects.constants_of c.args.file c.args.iota spec in
    let are : map object_view c.deref.result.now ≡ os = ap (map object_view) c.deref.ensures.value ∙ c.in_ok-objects.ensures in
    asked_apart c.check_apart.result t c.args.file c.args.place (λ (k : Option Type' × List Expr). constants_verdict spec.names k.0 k.1) (both of values) us os (sym c.are_known.ensures ∙ c.if-are_known.false)
    (subst (λ (l : List objects.DeclaredObject). Finds c.check_apart.result (apart t c.args.file c.args.place false us l)) are c.check_apart.ensures)
