use Rattle.std.proofs.Common.{◌≡◌, [], ◌∷◌, ◌++◌, true, false, refl, sym, ap, ◌∙◌, arith}
use Rattle.go_scan.specs.declared.token.TokenKind.TheVariants as kinds
use Rattle.go_ast.specs.Expected.{another}
use Rattle.go_ast.specs.Grammar.{name_of}
use Rattle.go_ast.specs.Machine.{token, more_names, run_parser}
use Rattle.go_pexpr.specs.Reads.{left}
use Rattle.go_pexpr.proofs.Reading.{then_fails}
use Rattle.go_pexpr.proofs.Turns.{more_names_takes, more_names_end}
use Rattle.go_pexpr.proofs.parser.Parser.names.Goals as goal

false_true : false ≡ true → ⊥
false_true e = cc (e)

pub returns-in_err-expect-clause-reads : goal.returns-in_err-expect-clause-reads
returns-in_err-expect-clause-reads c = λ next.
    let front = c.names.names.items in
    then_fails (c.names.invariant.reads next ∙ more_names_takes c.names.self.edition front next (left c.names.self) (c.names-test.ensures.0 refl))
    (c.in_err-expect.ensures.reads (λ _. token kinds.Name 0 another (λ n. more_names (front ++ name_of n ∷ []) next))) c.from_residual-in_err-expect.ensures.1

pub returns-in_err-name-2-clause-reads : goal.returns-in_err-name-2-clause-reads
returns-in_err-name-2-clause-reads c = λ next.
    let front = c.names.names.items in
    then_fails (
    c.names.invariant.reads next ∙ more_names_takes c.names.self.edition front next (left c.names.self) (c.names-test.ensures.0 refl)
    ∙ (c.in_ok-expect.ensures.reads (λ _. token kinds.Name 0 another (λ n. more_names (front ++ name_of n ∷ []) next))).by)
    (c.in_err-name-2.ensures.reads (λ n. more_names (front ++ name_of n ∷ []) next)) c.from_residual-in_err-name-2.ensures.1

pub names-preserved : goal.names-preserved
names-preserved c =
    let front = c.names.names.items in
    record {
      reads = λ next.
          c.names.invariant.reads next ∙ more_names_takes c.names.self.edition front next (left c.names.self) (c.names-test.ensures.0 refl)
          ∙ (c.in_ok-expect.ensures.reads (λ _. token kinds.Name 0 another (λ n. more_names (front ++ name_of n ∷ []) next))).by
          ∙ (c.in_ok-name-2.ensures.reads (λ n. more_names (front ++ name_of n ∷ []) next)).by
          ∙ ap (λ ns. run_parser c.name-in-names.new.self.edition 250 (more_names ns next) (left c.name-in-names.new.self)) (sym c.in_ok-push-2.ensures.items);
      fits = c.names.invariant.fits;
      shorter = omega (arith, c.names.invariant.shorter, c.in_ok-expect.ensures.shorter, c.in_ok-name-2.ensures.shorter);
    }

pub returns-clause-reads : goal.returns-clause-reads
returns-clause-reads c = λ next.
    record { by = c.names.invariant.reads next ∙ more_names_end c.names.self.edition c.names.names.items next (left c.names.self) (λ h. false_true (c.names-test.ensures.1 h)) }
