use Rattle.std.proofs.Common.{◌≡◌, ℕ, Bool, List, [], ◌∷◌, ◌++◌, map, true, false, refl, sym, ap, ◌∙◌, arith}
use Rattle.go_ast.specs.Expected.{an_operand}
use Rattle.go_ast.specs.Trees as trees
use Rattle.go_ast.specs.Grammar.{Lexeme}
use Rattle.go_ast.specs.Machine.{Reader, expr, more_exprs, run_parser}
use Rattle.go_ast.specs.Views.{expr_of}
use Rattle.go_pexpr.specs.Reads.{left}
use Rattle.go_pexpr.proofs.Pushed.{map_push}
use Rattle.go_pexpr.proofs.Reading.{then_fails}
use Rattle.go_pexpr.proofs.Turns.{more_exprs_takes, more_exprs_end}
use Rattle.go_pexpr.proofs.parser.Parser.more_exprs.Goals as goal

false_true : false ≡ true → ⊥
false_true e = cc (e)

-- behind some expressions and a comma, and behind one more
abbrev behind : Bool → ℕ → List trees.Expression → (List trees.Expression → Reader) → trees.Expression → Reader
behind h l front next e = more_exprs h l (front ++ e ∷ []) next

abbrev behind_comma : Bool → ℕ → List trees.Expression → (List trees.Expression → Reader) → Lexeme → Reader
behind_comma h l front next t = expr 5 h l an_operand (behind h l front next)

pub returns-in_err-expect-clause-reads : goal.returns-in_err-expect-clause-reads
returns-in_err-expect-clause-reads c = λ next.
    let front = map expr_of c.exprs.exprs.items in
    then_fails (c.exprs.invariant.reads next ∙ more_exprs_takes c.exprs.self.edition c.args.header c.args.level front next (left c.exprs.self) (c.exprs-test.ensures.0 refl))
    (c.in_err-expect.ensures.reads (behind_comma c.args.header c.args.level front next)) c.from_residual.ensures.1

pub returns-in_err-expr_from-clause-reads : goal.returns-in_err-expr_from-clause-reads
returns-in_err-expr_from-clause-reads c = λ next.
    let front = map expr_of c.exprs.exprs.items in
    then_fails (
    c.exprs.invariant.reads next ∙ more_exprs_takes c.exprs.self.edition c.args.header c.args.level front next (left c.exprs.self) (c.exprs-test.ensures.0 refl)
    ∙ (c.in_ok-expect.ensures.reads (behind_comma c.args.header c.args.level front next)).by)
    (c.in_err-expr_from.ensures.reads (behind c.args.header c.args.level front next)) c.from_residual-in_err-expr_from.ensures.1

pub exprs-preserved : goal.exprs-preserved
exprs-preserved c =
    let front = map expr_of c.exprs.exprs.items in
    let all = ap (λ es. map expr_of es) c.in_ok-push.ensures.items ∙ map_push expr_of c.exprs.exprs.items c.in_ok-expr_from.field-0 in
    record {
      reads = λ next.
          c.exprs.invariant.reads next ∙ more_exprs_takes c.exprs.self.edition c.args.header c.args.level front next (left c.exprs.self) (c.exprs-test.ensures.0 refl)
          ∙ (c.in_ok-expect.ensures.reads (behind_comma c.args.header c.args.level front next)).by
          ∙ (c.in_ok-expr_from.ensures.reads (behind c.args.header c.args.level front next)).by
          ∙ ap (λ es. run_parser c.expr_from.new.self.edition 250 (more_exprs c.args.header c.args.level es next) (left c.expr_from.new.self)) (sym all);
      no_longer = omega (arith, c.exprs.invariant.no_longer, c.in_ok-expect.ensures.shorter, c.in_ok-expr_from.ensures.shorter);
    }

pub returns-clause-reads : goal.returns-clause-reads
returns-clause-reads c = λ next.
    record { by = c.exprs.invariant.reads next ∙ more_exprs_end c.exprs.self.edition c.args.header c.args.level (map expr_of c.exprs.exprs.items) next (left c.exprs.self) (λ h. false_true (c.exprs-test.ensures.1 h)) }
