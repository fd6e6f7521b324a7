use Rattle.std.proofs.Common.{◌≡◌, ◌++◌, [], Option, List, drop, map, append-nil, ap, sym, ◌∙◌}
use Rattle.std.specs.List.{flat_map}
use Rattle.std.specs.Option.{option_map}
use Rattle.std.proofs.lemmas.List.{drop_all}
use Rattle.go_ast.specs.Trees.{TypeExpr}
use Rattle.go_ast.specs.Views.{type_of as type_tree}
use Rattle.go_ast.specs.declared.expression.TypeExpr.{TypeExpr as Written}
use Rattle.go_types.specs.Types.{Type'}
use Rattle.go_types.specs.Views.{go_type}
use Rattle.go_expr.specs.Known.{Scope}
use Rattle.go_expr.specs.Rules.{fine}
use Rattle.go_expr.specs.Views.{scope_of}
use Rattle.go_expr.specs.Verdicts.{type_verdict, type_faults}
use Rattle.go_stmt.proofs.function.check_results.Goals as goal

abbrev types_in : Scope → List TypeExpr → List (Option Type')
types_in s ts = map (λ t. fine (type_verdict s t)) ts

pub returns-clause-faults : goal.returns-clause-faults
returns-clause-faults c =
    let ts = c.args.results.now in
    let s = scope_of c.outside-scope.result in
    let rest : drop c.loop-of.of-index ts ≡ [] = drop_all c.loop-of.of-index ts c.loop-of-test.false in
    ap (λ (x : Scope). flat_map (type_faults x) (map type_tree ts)) (sym c.outside-scope.ensures) ∙ sym c.loop-of.invariant.faults
    ∙ ap (λ (l : List Written). flat_map (type_faults s) (map type_tree l)) rest

pub returns-clause-types : goal.returns-clause-types
returns-clause-types c =
    let ts = c.args.results.now in
    let s = scope_of c.outside-scope.result in
    let done = map (option_map go_type) c.loop-of.all.items in
    let rest : drop c.loop-of.of-index ts ≡ [] = drop_all c.loop-of.of-index ts c.loop-of-test.false in
    sym (append-nil done) ∙ ap (λ (l : List Written). done ++ types_in s (map type_tree l)) (sym rest) ∙ c.loop-of.invariant.types
    ∙ ap (λ (x : Scope). types_in x (map type_tree ts)) c.outside-scope.ensures
