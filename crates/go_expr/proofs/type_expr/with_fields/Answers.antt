use Rattle.std.proofs.Common.{◌≡◌, ◌++◌, Some, List, map, append-nil, ap, sym, ◌∙◌}
use Rattle.std.proofs.lemmas.List.{drop_all}
use Rattle.go_ast.specs.Trees.{Name}
use Rattle.go_types.specs.Views.{go_type}
use Rattle.go_expr.specs.Rules.{declared_field}
use Rattle.go_expr.specs.Views.{typed_field}
use Rattle.go_expr.proofs.type_expr.with_fields.Goals as goal

pub returns : goal.returns
returns c =
    let path = c.args.path.now in
    let names = c.args.names.now in
    let of = go_type c.in-Some-of.of in
    let done = map typed_field c.loop-name.all.items in
    let ends : done ≡ map typed_field c.in-Some.all.items ++ map (declared_field path of) names =
    sym (append-nil done) ∙ ap (λ (l : List Name). done ++ map (declared_field path of) l) (sym (drop_all c.loop-name.name-index names c.loop-name-test.false)) ∙ c.loop-name.invariant.done in
    rw (c.in-Some.is, c.in-Some-of.is) (ap Some ends)
