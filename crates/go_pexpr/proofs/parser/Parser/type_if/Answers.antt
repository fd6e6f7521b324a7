use Rattle.std.proofs.Common.{sym, ◌∙◌}
use Rattle.go_pexpr.specs.Reads.{left, expected_of}
use Rattle.go_pexpr.proofs.Reading.{then_fails, then_refuses}
use Rattle.go_pexpr.proofs.OptionalTurns.{type_there, type_out, type_missing}
use Rattle.go_pexpr.proofs.parser.Parser.type_if.Goals as goal

pub returns-in_err-a-clause-reads : goal.returns-in_err-a-clause-reads
returns-in_err-a-clause-reads c = λ some none.
    then_fails (type_there c.args.self.now.edition c.args.level (expected_of c.args.expected) some none (left c.args.self.now) (sym c.if-begins_type.ensures))
    (c.in_err-a.ensures.reads some) c.from_residual.ensures.1

pub returns-then-begins_type-clause-reads : goal.returns-then-begins_type-clause-reads
returns-then-begins_type-clause-reads c = λ some none.
    record { by = type_there c.args.self.now.edition c.args.level (expected_of c.args.expected) some none (left c.args.self.now) (sym c.if-begins_type.ensures) ∙ (c.in_ok-a.ensures.reads some).by }

pub returns-then-is_left_out-clause-reads : goal.returns-then-is_left_out-clause-reads
returns-then-is_left_out-clause-reads c = λ some none.
    then_refuses c.wrong.result _ (type_out c.args.self.now.edition c.args.level (expected_of c.args.expected) some none (left c.args.self.now) (sym c.if-begins_type.ensures) (sym c.if-is_left_out.ensures)) c.wrong.ensures

pub returns-clause-reads : goal.returns-clause-reads
returns-clause-reads c = λ some none.
    record { by = type_missing c.args.self.now.edition c.args.level (expected_of c.args.expected) some none (left c.args.self.now) (sym c.if-begins_type.ensures) (sym c.if-is_left_out.ensures) }
