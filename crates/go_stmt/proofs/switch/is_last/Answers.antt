use Rattle.std.proofs.Common.{◌≡◌, ◌≤◌, false, List, [], ◌∷◌, length, arith, refl}
use Rattle.go_ast.specs.declared.statement.Clause.{Clause}
use Rattle.go_stmt.specs.Statements.{has_no_clauses}
use Rattle.go_stmt.specs.Views.{clauses_trees}
use Rattle.go_stmt.proofs.switch.is_last.Goals as goal

more_left : (cs : List Clause) → 1 ≤ length cs → false ≡ has_no_clauses (clauses_trees cs)
more_left [] h = absurd (let n : ⊥ = omega arith in n)
more_left (c ∷ cs) h = refl

pub returns-in-len1-up : goal.returns-in-len1-up
returns-in-len1-up c = more_left c.args.others.now c.in-len1-up.len_at_least
