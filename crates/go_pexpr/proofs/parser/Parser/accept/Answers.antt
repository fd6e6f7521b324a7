use Rattle.std.proofs.Common.{◌≡◌, true, false, refl, ◌∙◌}
use Rattle.go_ast.specs.Expected.{another}
use Rattle.go_pexpr.specs.Reads.{left}
use Rattle.go_pexpr.proofs.Reading.{then_fails}
use Rattle.go_pexpr.proofs.Steps.{optional_some, optional_none}
use Rattle.go_pexpr.proofs.parser.Parser.accept.Goals as goal

false_true : false ≡ true → ⊥
false_true e = cc (e)

pub returns-then-not-is_next-clause-reads : goal.returns-then-not-is_next-clause-reads
returns-then-not-is_next-clause-reads c = λ some none.
    record { by = optional_none c.args.self.now.edition c.args.kind c.args.need some none (left c.args.self.now) (λ h. false_true (c.if-not-is_next.ensures.1 h)) }

pub returns-in_err-token-clause-reads : goal.returns-in_err-token-clause-reads
returns-in_err-token-clause-reads c = λ some none.
    then_fails (optional_some c.args.self.now.edition c.args.kind c.args.need another some none (left c.args.self.now) (c.if-not-is_next.ensures.0 refl)) (c.in_err-token.ensures.reads some) c.from_residual.ensures.1

pub returns-clause-reads : goal.returns-clause-reads
returns-clause-reads c = λ some none.
    record { by = optional_some c.args.self.now.edition c.args.kind c.args.need another some none (left c.args.self.now) (c.if-not-is_next.ensures.0 refl) ∙ (c.in_ok-token.ensures.reads some).by }
