use Rattle.std.proofs.Common.{◌≡◌, true, false, refl, sym, ap, ◌∙◌}
use Rattle.go_scan.specs.declared.token.TokenKind.TheVariants as kinds
use Rattle.go_ast.specs.Expected.{another, a_selected_name}
use Rattle.go_ast.specs.Trees as trees
use Rattle.go_ast.specs.Grammar.{Lexeme, name_of, period}
use Rattle.go_ast.specs.Machine.{Reader, token, behind_name, run_parser}
use Rattle.go_pexpr.specs.Reads.{left}
use Rattle.go_pexpr.proofs.Reading.{then_fails, was_read, was_failing}
use Rattle.go_pexpr.proofs.Steps.{optional_some, optional_none}
use Rattle.go_pexpr.proofs.parser.Parser.named_type.Goals as goal

false_true : false ≡ true → ⊥
false_true e = cc (e)

-- what is due behind the name and the period, and behind a name alone
abbrev behind_period : (trees.TypeExpr → Reader) → trees.Name → Lexeme → Reader
behind_period next n t = token kinds.Name 0 a_selected_name (λ s. next (trees.qualified n.place n (name_of s)))

abbrev alone : (trees.TypeExpr → Reader) → trees.Name → Reader
alone next n = next (trees.named n.place n)

pub returns-then-not-is_next-clause-reads : goal.returns-then-not-is_next-clause-reads
returns-then-not-is_next-clause-reads c = λ next.
    let n = c.in_ok-name.name in
    record {
      by = (c.in_ok-name.ensures.reads (behind_name next)).by
          ∙ optional_none c.name.new.self.edition period 0 (behind_period next n) (alone next n) (left c.name.new.self) (λ h. false_true (c.if-not-is_next.ensures.1 h))
          ∙ ap (λ a. run_parser c.name.new.self.edition 250 (next a) (left c.name.new.self)) (sym (c.named.ensures.expr ∙ ap (λ p. trees.named p n) c.place-place.ensures));
    }

pub returns-in_err-package-clause-reads : goal.returns-in_err-package-clause-reads
returns-in_err-package-clause-reads c = λ next.
    let n = c.in_ok-name.name in
    then_fails (
    (c.in_ok-name.ensures.reads (behind_name next)).by
    ∙ optional_some c.name.new.self.edition period 0 another (behind_period next n) (alone next n) (left c.name.new.self) (c.if-not-is_next.ensures.0 refl))
    (was_failing (c.selected_name.ensures.reads (λ s. next (trees.qualified n.place n (name_of s)))) c.in_err-package.ensures.err) c.from_residual-in_err-package.ensures.1

pub returns-clause-reads : goal.returns-clause-reads
returns-clause-reads c = λ next.
    let n = c.in_ok-name.name in
    record {
      by = (c.in_ok-name.ensures.reads (behind_name next)).by
          ∙ optional_some c.name.new.self.edition period 0 another (behind_period next n) (alone next n) (left c.name.new.self) (c.if-not-is_next.ensures.0 refl)
          ∙ was_read (c.selected_name.ensures.reads (λ s. next (trees.qualified n.place n (name_of s)))) c.in_ok-package.ensures.read
          ∙ ap (λ a. run_parser c.selected_name.new.self.edition 250 (next a) (left c.selected_name.new.self)) (sym (c.qualified.ensures.expr
          ∙ ap (λ m. trees.qualified c.place-place.result m c.in_ok-package.selected) c.in_ok-package.ensures.first ∙ ap (λ p. trees.qualified p n c.in_ok-package.selected) c.place-place.ensures));
    }
