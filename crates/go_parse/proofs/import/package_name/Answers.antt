use Rattle.std.proofs.Common.{sym, ◌∙◌}
use Rattle.go_ast.specs.Expected.{another}
use Rattle.go_pexpr.specs.Reads.{left, fault_of}
use Rattle.go_pexpr.proofs.Reading.{then_refuses}
use Rattle.go_parse.proofs.Imports.{package_blank, package_named}
use Rattle.go_pstmt.proofs.Reading.{then_reads}
use Rattle.go_pstmt.proofs.Steps.{false_true}
use Rattle.go_parse.proofs.import.package_name.Goals as goal

pub returns-then-is_written-clause-reads : goal.returns-then-is_written-clause-reads
returns-then-is_written-clause-reads c = λ next.
    then_refuses c.wrong.result (fault_of another (left c.args.parser.now))
    (package_blank c.args.parser.now.edition next (left c.args.parser.now) (c.is_written.ensures.0 c.if-is_written.true)) c.wrong.ensures

pub returns-clause-reads : goal.returns-clause-reads
returns-clause-reads c = λ next.
    then_reads (package_named c.args.parser.now.edition next (left c.args.parser.now) (λ h. false_true (sym c.if-is_written.false ∙ c.is_written.ensures.1 h)))
    (c.name.ensures.reads next)
