use Rattle.std.proofs.Common.{sym, ap, ◌∙◌}
use Rattle.go_ast.specs.Views.{block_of}
use Rattle.go_ast.proofs.StatementRows.{for_seen, range_seen}
use Rattle.go_pstmt.specs.declared.for_loop.Turns.{Turns}
use Rattle.go_pstmt.specs.Turns.{for_of}
use Rattle.go_pstmt.proofs.made.for_of.Goals as goal

pub returns-in-Steps : goal.returns-in-Steps
returns-in-Steps c =
    for_seen (record { place = c.args.place; init = c.in-Steps.init; condition = c.in-Steps.condition; post = c.in-Steps.post; body = c.args.body })
    ∙ ap (λ (h : Turns). for_of c.args.place h (block_of c.args.body)) (sym c.in-Steps.is)

pub returns-in-Range : goal.returns-in-Range
returns-in-Range c =
    range_seen (record { place = c.args.place; name = c.in-Range.name; operand = c.in-Range.operand; body = c.args.body })
    ∙ ap (λ (h : Turns). for_of c.args.place h (block_of c.args.body)) (sym c.in-Range.is)
