use Rattle.std.proofs.Common.{◌≡◌, ◌+◌, ◌++◌, ◌∷◌, List, Some, drop, map, sym, ap, ◌∙◌, arith}
use Rattle.std.specs.Option.{option_map}
use Rattle.go_ast.specs.Trees.{Name}
use Rattle.go_ast.specs.Views.{type_of as type_tree, parameter_of}
use Rattle.go_types.specs.Views.{go_type}
use Rattle.go_expr.specs.Rules.{fine}
use Rattle.go_expr.specs.Verdicts.{type_verdict}
use Rattle.go_expr.specs.Views.{scope_of}
use Rattle.go_objects.specs.Table.{parameters_known}
use Rattle.go_objects.proofs.Signatures.{next_of, parameter_more}
use Rattle.go_objects.proofs.signature.parameters_in.Goals as goal

pub loop-parameter-preserved : goal.loop-parameter-preserved
loop-parameter-preserved c =
    let s = scope_of c.args.scope.now in
    let item = c.parameter-item.result in
    let of = c.in-Some.of in
    let k = c.loop-parameter.parameter-index in
    let rest = map parameter_of (drop (k + 1) c.args.parameters.now) in
    let left : map parameter_of (drop k c.args.parameters.now) ≡ parameter_of item ∷ rest =
    ap (map parameter_of) (next_of c.args.parameters.now k item item (omega (arith, c.loop-parameter-test.true)) c.parameter-item.is) in
    let known : fine (type_verdict s (type_tree item.type_expr)) ≡ Some (go_type of) = sym c.in_ok-of.ensures ∙ ap (option_map go_type) c.in-Some.is in
    let old = map go_type c.loop-parameter.all.items in
    parameter_more s old (map go_type c.add_copies.new.all.items) (parameter_of item) (map parameter_of (drop k c.args.parameters.now)) rest (go_type of) (parameters_known s (map parameter_of c.args.parameters.now))
    c.loop-parameter.invariant left known (c.in_ok-add_copies.ensures ∙ ap (λ (ns : List Name). old ++ map (λ n. go_type of) ns) c.deref.ensures.value)
