use Rattle.std.proofs.Common.{List, map, ap, ◌∙◌}
use Rattle.std.specs.Option.{option_map}
use Rattle.std.proofs.lemmas.Result.{err_from_is_err_and}
use Rattle.go_ast.specs.Views.{type_of as type_tree, parameter_of, function_of as function_tree}
use Rattle.go_ast.specs.declared.expression.TypeExpr.{TypeExpr}
use Rattle.go_ast.specs.declared.file.Parameter.{Parameter}
use Rattle.go_types.specs.Views.{go_type}
use Rattle.go_typed.specs.Views.{as_function as typed_function}
use Rattle.go_expr.specs.Views.{all_of}
use Rattle.go_stmt.specs.Scopes.{StatementEnv}
use Rattle.go_stmt.specs.Views.{env_of, inside_of, parts_view}
use Rattle.go_stmt.proofs.Functions.{function_fails, function_parted, function_end_fails, function_answered}
use Rattle.go_stmt.proofs.function.check_body.Goals as goal

pub returns-in_err-inside : goal.returns-in_err-inside
returns-in_err-inside c =
    let f = c.args.function.now in
    let p = err_from_is_err_and c.from_residual-in_err-inside.result c.from_residual-in_err-inside.ensures.1 in
    rw (p.1, p.2)
    (function_fails c.in_err-inside.field-0.0 _ (function_tree f) (map parameter_of c.deref.result.now) (map type_tree c.deref-2.result.now) (env_of c.new-env.result) (env_of c.check_parameters.new.env)
    (ap (λ (l : List Parameter). map parameter_of l) c.deref.ensures.value) (ap (λ (l : List TypeExpr). map type_tree l) c.deref-2.ensures.value) c.new-env.ensures
    c.in_ok-parameters.ensures.answer.0 c.in_ok-parameters.ensures.after c.in_err-inside.ensures.answer)

pub returns-in_err-parts : goal.returns-in_err-parts
returns-in_err-parts c =
    let f = c.args.function.now in
    let p = err_from_is_err_and c.from_residual-in_err-parts.result c.from_residual-in_err-parts.ensures.1 in
    let a = option_map (all_of go_type) c.in_ok-parameters.parameters in
    let b = option_map inside_of c.in_ok-inside.inside in
    let parted =
    function_parted _ (function_tree f) (map parameter_of c.deref.result.now) (map type_tree c.deref-2.result.now) (env_of c.new-env.result) (env_of c.check_parameters.new.env) _ a b
    (ap (λ (l : List Parameter). map parameter_of l) c.deref.ensures.value) (ap (λ (l : List TypeExpr). map type_tree l) c.deref-2.ensures.value) c.new-env.ensures
    c.in_ok-parameters.ensures.answer.0 c.in_ok-parameters.ensures.answer.1 c.in_ok-parameters.ensures.after c.in_ok-inside.ensures.answer.0 c.in_ok-inside.ensures.answer.1
    (ap (λ (x : StatementEnv). x.types) c.in_ok-inside.ensures.after) in
    rw (p.1, p.2) (function_end_fails c.in_err-parts.field-0.0 _ (function_tree f) a b _ parted c.in_err-parts.ensures)

pub returns : goal.returns
returns c =
    let f = c.args.function.now in
    let a = option_map (all_of go_type) c.in_ok-parameters.parameters in
    let b = option_map inside_of c.in_ok-inside.inside in
    let parted =
    function_parted _ (function_tree f) (map parameter_of c.deref.result.now) (map type_tree c.deref-2.result.now) (env_of c.new-env.result) (env_of c.check_parameters.new.env)
    (map go_type c.into_types.result.items) a b
    (ap (λ (l : List Parameter). map parameter_of l) c.deref.ensures.value) (ap (λ (l : List TypeExpr). map type_tree l) c.deref-2.ensures.value) c.new-env.ensures
    c.in_ok-parameters.ensures.answer.0 c.in_ok-parameters.ensures.answer.1 c.in_ok-parameters.ensures.after c.in_ok-inside.ensures.answer.0 c.in_ok-inside.ensures.answer.1
    (c.into_types.ensures ∙ ap (λ (x : StatementEnv). x.types) c.in_ok-inside.ensures.after) in
    function_answered _ (function_tree f) a b (map go_type c.into_types.result.items) (option_map parts_view c.in_ok-parts.parts) (option_map typed_function c.in_ok-function_of.field-0) parted
    c.in_ok-parts.ensures.0 c.in_ok-parts.ensures.1 c.in_ok-function_of.ensures
