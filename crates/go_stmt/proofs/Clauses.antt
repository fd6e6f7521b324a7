-- Clauses of a switch, one behind another.
use Rattle.std.proofs.Common.{◌≡◌, ℕ, ◌+◌, ◌∷◌, ◌||◌, Bool, not, is_some, List, drop, Option, Some, None, refl, ap, sym, ◌∙◌}
use Rattle.go_ast.specs.declared.statement.Clause.{Clause}
use Rattle.go_types.specs.Types.{Type'}
use Rattle.go_stmt.specs.Scopes.{StatementEnv, Context, concat_checked, single}
use Rattle.go_stmt.specs.Statements.{cases_at, clauses_at, has_no_clauses}
use Rattle.go_stmt.specs.Views.{cases_tree, clauses_trees, clause_in}
use Rattle.go_ast.specs.Trees.{ExpressionList}

-- those that are left are the next one and the others
pub clauses_left : (k : Context) (v : Option Type') (again last more : Bool) (cs : List Clause) (i : ℕ) (s : Clause) (env : StatementEnv) →
    drop i cs ≡ s ∷ drop (i + 1) cs → last ≡ has_no_clauses (clauses_trees (drop (i + 1) cs)) → more ≡ (again || not (is_some (cases_tree s.values))) →
    clauses_at k v again (clauses_trees (drop i cs)) env ≡ concat_checked (single (clause_in k v again last s)) (clauses_at k v more (clauses_trees (drop (i + 1) cs))) env
clauses_left k v again last more cs i s env next end default =
    let rest = clauses_trees (drop (i + 1) cs) in
    ap (λ (l : List Clause). clauses_at k v again (clauses_trees l) env) next
    ∙ ap (λ (b : Bool). concat_checked (single (clause_in k v again b s)) (clauses_at k v (again || not (is_some (cases_tree s.values))) rest) env) (sym end)
    ∙ ap (λ (b : Bool). concat_checked (single (clause_in k v again last s)) (clauses_at k v b rest) env) (sym default)

pub cases_after : (c : Context) (o : Option ExpressionList) (env : StatementEnv) → env ≡ (cases_at c o env).after
cases_after c None env = refl
cases_after c (Some es) env = refl
