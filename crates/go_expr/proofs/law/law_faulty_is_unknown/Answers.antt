use Rattle.go_expr.proofs.Fineness.{faulty_unknown, faulty_type_unknown}
use Rattle.go_expr.proofs.law.law_faulty_is_unknown.Goals as goal

pub returns-clause-expressions : goal.returns-clause-expressions
returns-clause-expressions c = faulty_unknown

pub returns-clause-types : goal.returns-clause-types
returns-clause-types c = faulty_type_unknown
