use Rattle.std.proofs.Common.{refl, sym, subst, ◌∙◌}
use Rattle.go_ast.specs.Machine.{list_start}
use Rattle.go_pexpr.specs.Reads.{First, left, expected_of}
use Rattle.go_pexpr.proofs.Steps.{Kind}
use Rattle.go_pexpr.proofs.Reading.{then_fails}
use Rattle.go_pexpr.proofs.ListTurns.{list_ends, list_separated}
use Rattle.go_pexpr.proofs.TreeStates.{false_true}
use Rattle.go_pexpr.proofs.parser.Parser.separate.Goals as goal

pub returns-then-is_next-clause-reads : goal.returns-then-is_next-clause-reads
returns-then-is_next-clause-reads c = λ k front next between end.
    let ts = left c.args.self.now in
    record { by = list_ends c.args.self.now.edition k front next (expected_of c.args.expected) ts (subst (λ m. First (Kind m) ts) end (c.if-is_next.ensures.0 refl)) }

pub returns-in_err-expect-clause-reads : goal.returns-in_err-expect-clause-reads
returns-in_err-expect-clause-reads c = λ k front next between end.
    let ts = left c.args.self.now in
    then_fails (list_separated c.args.self.now.edition k front next (expected_of c.args.expected) c.args.separator ts between (λ h. false_true (c.if-is_next.ensures.1 (subst (λ m. First (Kind m) ts) (sym end) h))))
    (c.in_err-expect.ensures.reads (λ _. list_start k front next)) c.from_residual.ensures.1

pub returns-clause-reads : goal.returns-clause-reads
returns-clause-reads c = λ k front next between end.
    let ts = left c.args.self.now in
    record {
      by = list_separated c.args.self.now.edition k front next (expected_of c.args.expected) c.args.separator ts between (λ h. false_true (c.if-is_next.ensures.1 (subst (λ m. First (Kind m) ts) (sym end) h)))
          ∙ (c.in_ok-expect.ensures.reads (λ _. list_start k front next)).by;
    }
