use Rattle.go_scan.specs.declared.token.TokenKind.TheVariants as kinds
use Rattle.go_ast.specs.Expected.{a_selected_name}
use Rattle.go_ast.specs.Machine.{token}
use Rattle.go_pexpr.proofs.Reading.{then_reads}
use Rattle.go_pexpr.proofs.parser.Parser.selected_name.Goals as goal

pub returns-clause-reads : goal.returns-clause-reads
returns-clause-reads c = λ next.
    then_reads c.name.result (c.in_ok-expect.ensures.reads (λ _. token kinds.Name 0 a_selected_name next)).by (c.name.ensures.reads next)
