use Rattle.std.proofs.Common.{List, [], ◌∷◌, length, refl, sym, ap, ◌∙◌}
use Rattle.go_ast.specs.Trees as trees
use Rattle.go_ast.specs.Expected.{an_operand}
use Rattle.go_ast.specs.Machine.{expr, more_exprs, behind_define, run_parser}
use Rattle.go_ast.specs.Views.{exprs_in}
use Rattle.go_pexpr.specs.Reads.{left}
use Rattle.go_pexpr.proofs.Reading.{then_reads, then_fails, then_makes}
use Rattle.go_pstmt.specs.Statements.{position_of, is_bare}
use Rattle.go_pstmt.proofs.Lefts.{only, define_range, define_values, false_true}
use Rattle.go_pstmt.proofs.simple.short_var_decl.Goals as goal

pub returns-then-is_range-clause-reads : goal.returns-then-is_range-clause-reads
returns-then-is_range-clause-reads c = λ next alone range.
    let f = c.if-is_range.ensures.0 refl in
    let one = only c.args.names.items (ap (λ (ns : List trees.Name). length ns) (sym c.deref.ensures.value) ∙ f.1) in
    then_reads c.range.result
    ((c.in_ok-expect.ensures.reads (λ _. behind_define (position_of c.args.position) (is_bare c.args.position) c.args.level c.args.names.items next range)).by
    ∙ define_range c.expect.new.self.edition c.args.level next range (left c.expect.new.self) c.args.position c.args.names.items one.0 f.0 one.1 f.2)
    (c.range.ensures.reads one.0 next alone range one.1)

pub returns-in_err-values-clause-reads : goal.returns-in_err-values-clause-reads
returns-in_err-values-clause-reads c = λ next alone range.
    let behind = λ (es : List trees.Expression). next (trees.short_var_decl c.args.names.items (trees.pack es)) in
    then_fails
    ((c.in_ok-expect.ensures.reads (λ _. behind_define (position_of c.args.position) (is_bare c.args.position) c.args.level c.args.names.items next range)).by
    ∙ define_values c.expect.new.self.edition c.args.level next range (left c.expect.new.self) c.args.position c.args.names.items (λ f. false_true (c.if-is_range.ensures.1 (f.0, ap (λ (ns : List trees.Name). length ns) c.deref.ensures.value ∙ f.1, f.2)))
    ∙ ap (λ b. run_parser c.expect.new.self.edition 250 (expr 5 b c.args.level an_operand (λ e. more_exprs b c.args.level (e ∷ []) behind)) (left c.expect.new.self)) (sym c.is_bare.ensures))
    (c.in_err-values.ensures.reads behind) c.from_residual-in_err-values.ensures.1

pub returns-clause-reads : goal.returns-clause-reads
returns-clause-reads c = λ next alone range.
    let behind = λ (es : List trees.Expression). next (trees.short_var_decl c.args.names.items (trees.pack es)) in
    then_makes c.stated.result (next (trees.short_var_decl c.args.names.items (exprs_in c.in_ok-values.values.items)))
    ((c.in_ok-expect.ensures.reads (λ _. behind_define (position_of c.args.position) (is_bare c.args.position) c.args.level c.args.names.items next range)).by
    ∙ define_values c.expect.new.self.edition c.args.level next range (left c.expect.new.self) c.args.position c.args.names.items (λ f. false_true (c.if-is_range.ensures.1 (f.0, ap (λ (ns : List trees.Name). length ns) c.deref.ensures.value ∙ f.1, f.2)))
    ∙ ap (λ b. run_parser c.expect.new.self.edition 250 (expr 5 b c.args.level an_operand (λ e. more_exprs b c.args.level (e ∷ []) behind)) (left c.expect.new.self)) (sym c.is_bare.ensures)
    ∙ (c.in_ok-values.ensures.reads behind).by)
    (c.stated.ensures.ok next alone range) c.stated.ensures.err
