use Rattle.std.proofs.Common.{ap, ◌∙◌}
use Rattle.go_ast.specs.Expected.{another}
use Rattle.go_ast.specs.Grammar.{closing}
use Rattle.go_ast.specs.Machine.{token, run_parser}
use Rattle.go_pexpr.specs.Reads.{left}
use Rattle.go_pexpr.proofs.Reading.{then_fails}
use Rattle.go_pexpr.proofs.TreeStates.{either_same}
use Rattle.go_pexpr.proofs.parser.Parser.converted_end.Goals as goal

pub returns-in_err-expect-clause-reads : goal.returns-in_err-expect-clause-reads
returns-in_err-expect-clause-reads c = λ next.
    let end = token closing 0 another (λ _. next) in
    then_fails ((c.in_ok-accept.ensures.reads (λ _. end) end).by ∙ ap (λ s. run_parser c.accept.new.self.edition 250 s (left c.accept.new.self)) (either_same end c.in_ok-accept.field-0))
    (c.in_err-expect.ensures.reads (λ _. next)) c.from_residual-in_err-expect.ensures.1

pub returns-clause-reads : goal.returns-clause-reads
returns-clause-reads c = λ next.
    let end = token closing 0 another (λ _. next) in
    record {
      by = (c.in_ok-accept.ensures.reads (λ _. end) end).by ∙ ap (λ s. run_parser c.accept.new.self.edition 250 s (left c.accept.new.self)) (either_same end c.in_ok-accept.field-0)
          ∙ (c.in_ok-expect.ensures.reads (λ _. next)).by;
    }
