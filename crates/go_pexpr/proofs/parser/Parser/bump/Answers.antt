use Rattle.std.proofs.Common.{◌≡◌, sym, ap, ◌∙◌}
use Rattle.go_ast.specs.Expected.{another}
use Rattle.go_ast.specs.Machine.{token, run_parser}
use Rattle.go_pexpr.specs.Reads.{left}
use Rattle.go_pexpr.proofs.Reading.{then_reads}
use Rattle.go_pexpr.proofs.Steps.{kind_of_first, token_as}
use Rattle.go_pexpr.proofs.parser.Parser.bump.Goals as goal

pub returns-in-Some-clause-reads : goal.returns-in-Some-clause-reads
returns-in-Some-clause-reads c = λ k x next h.
    let ts = left c.args.self.now in
    let both = sym (kind_of_first k ts h) ∙ sym c.kind.ensures ∙ c.in-Some.is in
    let same : k ≡ c.in-Some.kind = cc (both) in
    then_reads c.expect.result (token_as c.args.self.now.edition k c.args.need x another next ts h ∙ ap (λ j. run_parser c.args.self.now.edition 250 (token j c.args.need another next) ts) same) (c.expect.ensures.reads next)
