use Rattle.std.proofs.Common.{sym, ap, ◌∙◌}
use Rattle.go_ast.specs.Trees as trees
use Rattle.go_ast.specs.Machine.{run_parser}
use Rattle.go_ast.specs.Tokens.{lexeme_bytes}
use Rattle.go_pexpr.specs.Reads.{left}
use Rattle.go_pexpr.proofs.parser.Parser.integer_operand.Goals as goal

pub returns-clause-reads : goal.returns-clause-reads
returns-clause-reads c = λ next.
    let token = c.in_ok-token.token in
    let seen = c.integer.ensures.expr ∙ ap (trees.integer token.place) (c.in_ok-text.ensures.ok ∙ ap (λ text. lexeme_bytes text token) c.in_ok-token.ensures.text) in
    record {
      by = (c.in_ok-token.ensures.reads (λ t. next (trees.integer t.place t.text))).by
          ∙ ap (λ e. run_parser c.expect.new.self.edition 250 (next e) (left c.expect.new.self)) (sym seen);
    }
