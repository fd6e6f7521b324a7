use Rattle.std.proofs.Common.{ap, ◌∙◌}
use Rattle.go_ast.specs.Views.{value_of}
use Rattle.go_ast.specs.Machine.{name_if}
use Rattle.go_ast.proofs.Rows.{expression_seen}
use Rattle.go_pexpr.specs.Turns.{key_in}
use Rattle.go_pexpr.proofs.Built.{no_key}
use Rattle.go_pexpr.proofs.build.key_in.Goals as goal

pub returns-in-Ok-clause-key : goal.returns-in-Ok-clause-key
returns-in-Ok-clause-key c =
    ap (λ v. key_in (value_of v)) c.in-Expression.is ∙ ap key_in (expression_seen c.in-Expression.expr)
    ∙ ap name_if c.in-Ok.ensures.name

pub returns-in-Err-clause-no_key : goal.returns-in-Err-clause-no_key
returns-in-Err-clause-no_key c =
    ap (λ v. key_in (value_of v)) c.in-Expression.is ∙ ap key_in (expression_seen c.in-Expression.expr)
    ∙ c.in-Err.ensures.no_name

pub returns-in_default-clause-no_key : goal.returns-in_default-clause-no_key
returns-in_default-clause-no_key c = no_key c.args.value.value c.in_default.not-Expression
