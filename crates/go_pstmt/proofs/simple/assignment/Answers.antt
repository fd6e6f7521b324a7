use Rattle.std.proofs.Common.{List, [], ◌∷◌, ◌∙◌}
use Rattle.go_ast.specs.Trees as trees
use Rattle.go_ast.specs.Expected.{a_value}
use Rattle.go_ast.specs.Machine.{expr, more_exprs}
use Rattle.go_ast.specs.Views.{exprs_in}
use Rattle.go_pexpr.proofs.Reading.{then_fails, then_makes}
use Rattle.go_pstmt.proofs.simple.assignment.Goals as goal

pub returns-in_err-values-clause-reads : goal.returns-in_err-values-clause-reads
returns-in_err-values-clause-reads c = λ next alone range.
    let behind = λ (es : List trees.Expression). next (trees.assignment (exprs_in c.args.sides.items) (trees.pack es)) in
    then_fails (c.in_ok-expect.ensures.reads (λ _. expr 5 c.args.bare c.args.level a_value (λ e. more_exprs c.args.bare c.args.level (e ∷ []) behind))).by
    (c.in_err-values.ensures.reads behind) c.from_residual-in_err-values.ensures.1

pub returns-clause-reads : goal.returns-clause-reads
returns-clause-reads c = λ next alone range.
    let behind = λ (es : List trees.Expression). next (trees.assignment (exprs_in c.args.sides.items) (trees.pack es)) in
    then_makes c.stated.result (next (trees.assignment (exprs_in c.args.sides.items) (exprs_in c.in_ok-values.values.items)))
    ((c.in_ok-expect.ensures.reads (λ _. expr 5 c.args.bare c.args.level a_value (λ e. more_exprs c.args.bare c.args.level (e ∷ []) behind))).by ∙ (c.in_ok-values.ensures.reads behind).by)
    (c.stated.ensures.ok next alone range) c.stated.ensures.err
