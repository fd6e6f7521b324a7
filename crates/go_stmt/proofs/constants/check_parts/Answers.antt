use Rattle.std.proofs.Common.{◌≡◌, Option, map, sym, ap, subst}
use Rattle.std.specs.Prelude.{IfOk}
use Rattle.std.specs.Option.{option_map}
use Rattle.go_ast.specs.Trees.{TypeExpr}
use Rattle.go_ast.specs.Views.{type_of as type_tree}
use Rattle.go_expr.specs.Views.{declared_of, scope_of}
use Rattle.go_stmt.specs.Views.{constant_spec}
use Rattle.go_stmt.specs.Statements.{each_of, declared_constant}
use Rattle.go_stmt.proofs.constants.check_parts.Goals as goal

pub returns-in-Some-clause-declared : goal.returns-in-Some-clause-declared
returns-in-Some-clause-declared c =
    subst (λ (t : Option TypeExpr). IfOk c.check_typed.result (λ p. map (option_map declared_of) p.declared.items ≡ each_of (declared_constant (scope_of c.args.scope.now) t) (constant_spec c.args.spec).values))
    (sym (ap (option_map (λ t. type_tree t.now)) c.in-Some.is)) c.check_typed.ensures.declared

pub returns-in-None-clause-declared : goal.returns-in-None-clause-declared
returns-in-None-clause-declared c =
    subst (λ (t : Option TypeExpr). IfOk c.check_untyped.result (λ p. map (option_map declared_of) p.declared.items ≡ each_of (declared_constant (scope_of c.args.scope.now) t) (constant_spec c.args.spec).values))
    (sym (ap (option_map (λ t. type_tree t.now)) c.in-None.is)) c.check_untyped.ensures.declared
