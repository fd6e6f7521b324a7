use Rattle.go_ast.proofs.ReadDerived.{types_read, exprs_read}
use Rattle.go_ast.proofs.law.law_read_trees_are_derived.Goals as goal

pub returns-clause-types : goal.returns-clause-types
returns-clause-types c = types_read

pub returns-clause-expressions : goal.returns-clause-expressions
returns-clause-expressions c = exprs_read
