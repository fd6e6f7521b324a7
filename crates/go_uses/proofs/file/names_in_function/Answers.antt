use Rattle.std.proofs.Common.{◌≡◌, ◌++◌, List, map, IfOk, ap, ◌∙◌, subst}
use Rattle.std.specs.List.{flat_map}
use Rattle.go_ast.specs.Trees as trees
use Rattle.go_ast.specs.Views.{type_of, parameter_of, block_of, function_of}
use Rattle.go_ast.specs.declared.expression.TypeExpr.{TypeExpr}
use Rattle.go_ast.specs.declared.file.Parameter.{Parameter}
use Rattle.go_scope.specs.Names.{Used, in_type, used}
use Rattle.go_uses.specs.Uses.{texts, outside, uses_in_block, in_function}
use Rattle.go_uses.proofs.file.names_in_function.Goals as goal

pub returns : goal.returns
returns c =
    let f = c.args.function.now in
    let inside = λ (l : List Parameter). outside (flat_map (λ (p : trees.Parameter). texts p.names) (map parameter_of l)) (uses_in_block (block_of f.body)) in
    let parameters = c.in_ok-parameters.ensures ∙ ap (λ (l : List Parameter). flat_map (λ (p : trees.Parameter). in_type p.type) (map parameter_of l)) c.deref.ensures.value in
    let results = c.in_ok-results.ensures ∙ ap (λ (l : List TypeExpr). flat_map in_type (map type_of l)) c.deref-2.ensures.value in
    let body = c.in_ok-body.ensures ∙ ap inside c.deref-3.ensures.value in
    let behind = c.in_ok-joined.ensures ∙ ap (λ (l : List Used). l ++ map used c.in_ok-body.body.items) results ∙ ap (λ (l : List Used). flat_map in_type (map type_of f.results.items) ++ l) body in
    let whole : map used c.in_ok-parameters.parameters.items ++ map used c.in_ok-joined.field-0.items ≡ in_function (function_of f) =
    ap (λ (l : List Used). l ++ map used c.in_ok-joined.field-0.items) parameters
    ∙ ap (λ (l : List Used). flat_map (λ (p : trees.Parameter). in_type p.type) (map parameter_of f.parameters.items) ++ l) behind in
    subst (λ (l : List Used). IfOk c.joined-2.result (λ names. map used names.items ≡ l)) whole c.joined-2.ensures
