use Rattle.std.proofs.Common.{List, sym, ap, ◌∙◌}
use Rattle.std.specs.Option.{option_map}
use Rattle.std.proofs.lemmas.List.{drop_all}
use Rattle.go_ast.specs.Views.{exprs_in}
use Rattle.go_ast.specs.declared.expression.Expr.{Expr}
use Rattle.go_typed.specs.Views.{as_expr}
use Rattle.go_expr.specs.Views.{all_of}
use Rattle.go_stmt.specs.Views.{context_of, env_of}
use Rattle.go_stmt.specs.Statements.{lefts_at}
use Rattle.go_stmt.proofs.Leading.{joined}
use Rattle.go_stmt.proofs.Sequences.{joined_last}
use Rattle.go_stmt.proofs.assignment.check_lefts.Goals as goal

pub returns : goal.returns
returns c =
    let lefts = λ (l : List Expr). lefts_at (context_of c.args.context) (exprs_in l) (env_of c.args.env.now) in
    let none = drop_all c.loop-e.e-index c.args.es.now c.loop-e-test.false in
    let done = option_map (all_of (option_map as_expr)) c.loop-e.all in (
      sym c.loop-e.invariant.faults ∙ ap (λ (l : List Expr). (lefts l).faults) none,
      c.loop-e.invariant.known ∙ ap (λ (l : List Expr). joined done (lefts l).known) none ∙ joined_last done,
    )
