use Rattle.std.proofs.Common.{◌∷◌, ◌∙◌, ℕ, List, ap, sym, drop, arith, length, length-append}
use Rattle.ws_command.specs.Commands.{text_of}
use Rattle.ws_command.specs.Lines.{lines_of}
use Rattle.goset_cli.proofs.Texts.{first_lines}
use Rattle.goset_cli.proofs.running.first_request.Goals as goal

pub returns-clause-first : goal.returns-clause-first
returns-clause-first c =
    let its = c.in_ok-text.ensures.lines in
    let parts = first_lines _ _ _ its.0 _ _ c.cut_line.ensures.whole c.cut_line.ensures.ended its.1.0 its.1.1 c.split_at.ensures.front in
    record {
      line = c.without_newline.result.now;
      lines = lines_of c.cut_line.result.1.now;
      script_is = c.cut_line.ensures.line ∙ ap (λ (l : List ℕ). l ∷ lines_of c.cut_line.result.1.now) (sym c.without_newline.ensures);
      command_is = c.in_ok-asked.ensures;
      text_is = c.in_ok-text.ensures.text ∙ ap (λ (n : ℕ). text_of n (lines_of c.cut_line.result.1.now)) c.text_lines.ensures;
      rest_is = c.in_ok-text.ensures.behind ∙ ap (λ (n : ℕ). drop n (lines_of c.cut_line.result.1.now)) c.text_lines.ensures;
      bytes_are = parts.0;
    }

pub returns-clause-some : goal.returns-clause-some
returns-clause-some c =
    let its = c.in_ok-text.ensures.lines in
    let parts = first_lines _ _ _ its.0 _ _ c.cut_line.ensures.whole c.cut_line.ensures.ended its.1.0 its.1.1 c.split_at.ensures.front in
    let some = c.cut_line.ensures.some in
    omega (arith, some, ap length parts.1, length-append c.cut_line.result.0.now its.0)
