use Rattle.std.proofs.Common.{◌≡◌, ◌<◌, nat_eq, List, length, ap, ◌∙◌, arith}
use Rattle.go_ast.specs.declared.expression.Expr.{Expr}
use Rattle.std.proofs.lemmas.Result.{err_from_is_err_and}
use Rattle.go_ast.specs.Views.{const_of}
use Rattle.go_objects.specs.Views.{spec_of}
use Rattle.go_scope.specs.Specifications.{is_repeated}
use Rattle.go_package.specs.Views.{facts_of}
use Rattle.go_package.proofs.Groups.{none_written, group_here, group_later}
use Rattle.go_package.proofs.constants.check_group.Goals as goal

pub returns-in_err-check_constants : goal.returns-in_err-check_constants
returns-in_err-check_constants c =
    let specs = c.args.specs.now in
    let i = c.loop-iota.iota in
    let within : i < length specs = omega arith in
    let d = c.index-specs-iota.result in
    let seen = const_of d in
    let repeated : c.is_empty-repeated.result ≡ is_repeated seen = c.is_empty-repeated.ensures ∙ ap (λ (l : List Expr). nat_eq (length l) 0) c.as_slice.ensures.value ∙ none_written d.names.items seen.type d.values.items in
    let p = err_from_is_err_and c.from_residual.result c.from_residual.ensures.1 in
    rw (p.1, p.2)
    (group_here c.in_err-check_constants.field-0.0 (facts_of c.args.facts.now) c.args.file specs i d (spec_of c.loop-iota.before) (spec_of c.meant-before.result) c.is_empty-repeated.result _ within c.index-specs-iota.is
    c.meant-before.ensures repeated c.loop-iota.invariant c.in_err-check_constants.ensures)

pub loop-iota-preserved : goal.loop-iota-preserved
loop-iota-preserved c =
    let specs = c.args.specs.now in
    let i = c.loop-iota.iota in
    let within : i < length specs = omega arith in
    let d = c.index-specs-iota.result in
    let seen = const_of d in
    let repeated : c.is_empty-repeated.result ≡ is_repeated seen = c.is_empty-repeated.ensures ∙ ap (λ (l : List Expr). nat_eq (length l) 0) c.as_slice.ensures.value ∙ none_written d.names.items seen.type d.values.items in
    group_later (facts_of c.args.facts.now) c.args.file specs i d (spec_of c.loop-iota.before) (spec_of c.meant-before.result) c.is_empty-repeated.result _ within c.index-specs-iota.is
    c.meant-before.ensures repeated c.loop-iota.invariant c.in_ok-check_constants.ensures
