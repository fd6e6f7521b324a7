use Rattle.std.proofs.Common.{sym, ap, ◌∙◌}
use Rattle.go_ast.specs.Grammar.{simple_place}
use Rattle.go_ast.specs.Views.{simple_of}
use Rattle.go_ast.specs.declared.statement.Simple.{Simple}
use Rattle.go_ast.proofs.Rows.{placed}
use Rattle.go_pstmt.proofs.simple.place_of.Goals as goal

pub returns-in-Call : goal.returns-in-Call
returns-in-Call c = sym (ap (λ (s : Simple). simple_place (simple_of s)) c.in-Call.is ∙ placed c.in-Call.operand)

pub returns-in-Increment : goal.returns-in-Increment
returns-in-Increment c = sym (ap (λ (s : Simple). simple_place (simple_of s)) c.in-Increment.is ∙ placed c.in-Increment.operand)

pub returns-in-Decrement : goal.returns-in-Decrement
returns-in-Decrement c = sym (ap (λ (s : Simple). simple_place (simple_of s)) c.in-Decrement.is ∙ placed c.in-Decrement.operand)

pub returns-in-OperatorAssignment : goal.returns-in-OperatorAssignment
returns-in-OperatorAssignment c = sym (ap (λ (s : Simple). simple_place (simple_of s)) c.in-OperatorAssignment.is ∙ placed c.in-OperatorAssignment.operand)
