use Rattle.std.proofs.Common.{sym, ap, ◌∙◌}
use Rattle.go_ast.specs.Trees as trees
use Rattle.go_ast.specs.Literals.{rune_value}
use Rattle.go_ast.specs.Machine.{run_parser}
use Rattle.go_ast.specs.Tokens.{lexeme_bytes}
use Rattle.go_pexpr.specs.Reads.{left}
use Rattle.go_pexpr.proofs.parser.Parser.rune_operand.Goals as goal

pub returns-clause-reads : goal.returns-clause-reads
returns-clause-reads c = λ next.
    let token = c.in_ok-token.token in
    let seen = c.rune.ensures.expr ∙ ap (trees.rune token.place) (c.rune_value-value.ensures ∙ ap rune_value (c.spelling.ensures ∙ ap (λ text. lexeme_bytes text token) c.in_ok-token.ensures.text)) in
    record {
      by = (c.in_ok-token.ensures.reads (λ t. next (trees.rune t.place (rune_value t.text)))).by
          ∙ ap (λ e. run_parser c.expect.new.self.edition 250 (next e) (left c.expect.new.self)) (sym seen);
    }
