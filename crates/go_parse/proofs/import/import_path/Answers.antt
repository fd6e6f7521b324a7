use Rattle.std.proofs.Common.{sym, ◌∙◌}
use Rattle.std.proofs.lemmas.Bool.Decides.{Decides-eqb}
use Rattle.std.proofs.lemmas.Slice.Eq.{slice_eq-Decides}
use Rattle.go_ast.specs.Literals.{string_value}
use Rattle.go_pexpr.specs.Reads.{left, fault_of, expected_of}
use Rattle.go_pexpr.proofs.Reading.{then_refuses, then_fails}
use Rattle.go_parse.proofs.Imports.{no_path, path_c, path_means}
use Rattle.go_pstmt.proofs.Reading.{went}
use Rattle.go_pstmt.proofs.Steps.{false_true}
use Rattle.go_parse.proofs.import.import_path.Goals as goal

pub returns-then-not-is_next-clause-reads : goal.returns-then-not-is_next-clause-reads
returns-then-not-is_next-clause-reads c = λ next.
    let x = expected_of c.args.expected in
    let ts = left c.args.parser.now in
    then_refuses c.wrong.result (fault_of x ts)
    (no_path c.args.parser.now.edition x (λ t. next (string_value t.text) t.place) ts (λ h. false_true (sym c.if-not-is_next.true ∙ c.is_next.ensures.1 h))) c.wrong.ensures

pub returns-then-eq-clause-reads : goal.returns-then-eq-clause-reads
returns-then-eq-clause-reads c = λ next.
    let x = expected_of c.args.expected in
    let ts = left c.args.parser.now in
    let same = slice_eq-Decides Decides-eqb _ _ _ c.eq.ensures in
    then_refuses c.wrong-then-eq.result (fault_of x ts)
    (path_c c.args.parser.now.edition x (λ t. next (string_value t.text) t.place) c.in_ok-value.value.items ts c.in_ok-value.ensures.ok (sym c.as_slice.ensures.value ∙ same.0 c.if-eq.true ∙ c.as_slice-2.ensures)) c.wrong-then-eq.ensures

pub returns-in_err-token-clause-reads : goal.returns-in_err-token-clause-reads
returns-in_err-token-clause-reads c = λ next.
    let v = c.in_ok-value.value.items in
    let same = slice_eq-Decides Decides-eqb _ _ _ c.eq.ensures in
    then_fails (path_means c.args.parser.now.edition (expected_of c.args.expected) next v (left c.args.parser.now) c.in_ok-value.ensures.ok
    (λ e. false_true (sym c.if-eq.false ∙ same.1 (c.as_slice.ensures.value ∙ e ∙ sym c.as_slice-2.ensures))))
    (c.in_err-token.ensures.reads (λ t. next v t.place)) c.from_residual-in_err-token.ensures.1

pub returns-clause-reads : goal.returns-clause-reads
returns-clause-reads c = λ next.
    let v = c.in_ok-value.value.items in
    let same = slice_eq-Decides Decides-eqb _ _ _ c.eq.ensures in
    record {
      by = path_means c.args.parser.now.edition (expected_of c.args.expected) next v (left c.args.parser.now) c.in_ok-value.ensures.ok
          (λ e. false_true (sym c.if-eq.false ∙ same.1 (c.as_slice.ensures.value ∙ e ∙ sym c.as_slice-2.ensures)))
          ∙ went (c.in_ok-token.ensures.reads (λ t. next v t.place));
    }
