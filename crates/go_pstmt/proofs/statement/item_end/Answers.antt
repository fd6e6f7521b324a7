use Rattle.std.proofs.Common.{refl, ◌∙◌}
use Rattle.go_pexpr.specs.Reads.{left, expected_of}
use Rattle.go_pexpr.proofs.Reading.{then_fails}
use Rattle.go_pstmt.proofs.Lefts.{false_true}
use Rattle.go_pstmt.proofs.Items.{item_closes, item_ends}
use Rattle.go_pstmt.proofs.statement.item_end.Goals as goal

pub returns-then-is_next-clause-reads : goal.returns-then-is_next-clause-reads
returns-then-is_next-clause-reads c = λ behind front b. record { by = item_closes c.args.parser.now.edition behind front (expected_of c.args.expected) b (left c.args.parser.now) (c.if-is_next.ensures.0 refl) }

pub returns-in_err-expect-clause-reads : goal.returns-in_err-expect-clause-reads
returns-in_err-expect-clause-reads c = λ behind front b.
    then_fails (item_ends c.args.parser.now.edition behind front (expected_of c.args.expected) b (left c.args.parser.now) (λ f. false_true (c.if-is_next.ensures.1 f)))
    (c.in_err-expect.ensures.reads (λ _. front)) c.from_residual.ensures.1

pub returns-clause-reads : goal.returns-clause-reads
returns-clause-reads c = λ behind front b.
    record {
      by = item_ends c.args.parser.now.edition behind front (expected_of c.args.expected) b (left c.args.parser.now) (λ f. false_true (c.if-is_next.ensures.1 f))
          ∙ (c.in_ok-expect.ensures.reads (λ _. front)).by;
    }
