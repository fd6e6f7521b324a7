use Rattle.go_ast.specs.Trees.{pack}
use Rattle.go_ast.specs.Machine.{value_list}
use Rattle.go_pstmt.proofs.Reading.{then_reads, went}
use Rattle.go_pstmt.proofs.declaration.assigned_values.Goals as goal

pub returns-clause-reads : goal.returns-clause-reads
returns-clause-reads c = λ next.
    then_reads (went (c.in_ok-expect.ensures.reads (λ _. value_list c.args.level next))) (c.exprs.ensures.reads (λ es. next (pack es)))
