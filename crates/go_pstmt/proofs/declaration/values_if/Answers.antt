use Rattle.go_ast.specs.Trees.{pack, no_exprs}
use Rattle.go_ast.specs.Machine.{value_list}
use Rattle.go_pstmt.proofs.Reading.{then_reads, took}
use Rattle.go_pstmt.proofs.declaration.values_if.Goals as goal

pub returns-in-Some-clause-reads : goal.returns-in-Some-clause-reads
returns-in-Some-clause-reads c = λ next.
    then_reads (took (c.in_ok-accept.ensures.reads (λ _. value_list c.args.level next) (next no_exprs)) c.in-Some.is) (c.exprs.ensures.reads (λ es. next (pack es)))
