use Rattle.std.proofs.Common.{[], ◌∷◌}
use Rattle.go_ast.specs.Trees as trees
use Rattle.go_pexpr.proofs.Reading.{then_fails}
use Rattle.go_pstmt.proofs.Reading.{took, missed}
use Rattle.go_pstmt.proofs.declaration.types.Goals as goal

pub returns-in_err-specs-clause-reads : goal.returns-in_err-specs-clause-reads
returns-in_err-specs-clause-reads c = λ next.
    then_fails (took (c.in_ok-accept.ensures.reads _ _) c.in-Some.is) (c.in_err-specs.ensures.reads _) c.from_residual-in_err-specs.ensures.1

pub returns-in_err-type_spec-clause-reads : goal.returns-in_err-type_spec-clause-reads
returns-in_err-type_spec-clause-reads c = λ next.
    then_fails (missed (c.in_ok-accept.ensures.reads _ _) c.in_default.is) (c.in_err-type_spec.ensures.reads (λ s. next (trees.types c.args.place (s ∷ [])))) c.from_residual-in_err-type_spec.ensures.1
