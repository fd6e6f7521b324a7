-- How many cells the temporaries of statements with rows take.
use Rattle.std.proofs.Common.{◌≡◌, ℕ, ◌+◌, List, Option, Vec, Global, ap, sym, ◌∙◌}
use Rattle.std.specs.Option.{option_map}
use Rattle.go_types.specs.declared.types.GoType.{GoType}
use Rattle.go_types.specs.Sizes.{cells}
use Rattle.go_types.specs.Views.{go_type}
use Rattle.go_typed.specs.Trees.{expr_type}
use Rattle.go_typed.specs.declared.expression.TypedExpr.{TypedExpr}
use Rattle.go_typed.specs.declared.statement.TypedClause.{TypedClause}
use Rattle.go_typed.specs.declared.statement.TypedStmt.{TypedStmt}
use Rattle.go_typed.specs.declared.statement.TypedStmt as stmts
use Rattle.go_typed.specs.Views.{as_expr, as_stmt, stmts_in, clauses_in}
use Rattle.go_typed.proofs.Rows.{type_seen}
use Rattle.go_typed.proofs.StatementRows.{if_seen, for_seen, range_seen, switch_seen, block_seen}
use Rattle.go_gen.specs.Translation.{expr_temps, condition_temps, cases_temps, stmt_temps, stmts_temps, bodies_temps}

pub if_temps : (s : TypedStmt) (e : TypedExpr) (u v : Vec TypedStmt Global) (us vs : List TypedStmt) (n1 n2 n3 n12 : ℕ) → s ≡ stmts.If e u v → us ≡ u.items → vs ≡ v.items → n1 ≡ expr_temps (as_expr e) → n2 ≡ stmts_temps (stmts_in us) → n3 ≡ stmts_temps (stmts_in vs) → n12 ≡ n1 + n2 → n12 + n3 ≡ stmt_temps (as_stmt s)
if_temps s e u v us vs n1 n2 n3 n12 is a b h1 h2 h3 h =
    ap (λ n. n + n3) (h ∙ ap (λ n. n + n2) h1 ∙ ap (λ n. expr_temps (as_expr e) + n) (h2 ∙ ap (λ l. stmts_temps (stmts_in l)) a))
    ∙ ap (λ n. expr_temps (as_expr e) + stmts_temps (stmts_in u.items) + n) (h3 ∙ ap (λ l. stmts_temps (stmts_in l)) b)
    ∙ ap stmt_temps (sym (ap as_stmt is ∙ if_seen e u v))

pub for_temps : (s : TypedStmt) (o : Option TypedExpr) (u v : Vec TypedStmt Global) (us vs : List TypedStmt) (n1 n2 n3 n12 : ℕ) → s ≡ stmts.For o u v → us ≡ u.items → vs ≡ v.items → n1 ≡ stmts_temps (stmts_in vs) → n2 ≡ stmts_temps (stmts_in us) → n3 ≡ condition_temps (option_map as_expr o) → n12 ≡ n1 + n2 → n12 + n3 ≡ stmt_temps (as_stmt s)
for_temps s o u v us vs n1 n2 n3 n12 is a b h1 h2 h3 h =
    ap (λ n. n + n3) (h ∙ ap (λ n. n + n2) (h1 ∙ ap (λ l. stmts_temps (stmts_in l)) b) ∙ ap (λ n. stmts_temps (stmts_in v.items) + n) (h2 ∙ ap (λ l. stmts_temps (stmts_in l)) a))
    ∙ ap (λ n. stmts_temps (stmts_in v.items) + stmts_temps (stmts_in u.items) + n) h3
    ∙ ap stmt_temps (sym (ap as_stmt is ∙ for_seen o u v))

pub range_temps : (s : TypedStmt) (o : Option ℕ) (t : GoType) (e : TypedExpr) (v : Vec TypedStmt Global) (vs : List TypedStmt) (n1 n2 n12 : ℕ) → s ≡ stmts.Range o t e v → vs ≡ v.items → n1 ≡ expr_temps (as_expr e) → n2 ≡ stmts_temps (stmts_in vs) → n12 ≡ n1 + 2 → n12 + n2 ≡ stmt_temps (as_stmt s)
range_temps s o t e v vs n1 n2 n12 is a h1 h2 h =
    ap (λ n. n + n2) (h ∙ ap (λ n. n + 2) h1) ∙ ap (λ n. expr_temps (as_expr e) + 2 + n) (h2 ∙ ap (λ l. stmts_temps (stmts_in l)) a)
    ∙ ap stmt_temps (sym (ap as_stmt is ∙ range_seen o t e v))

pub switch_temps : (s : TypedStmt) (e : TypedExpr) (v : Vec TypedClause Global) (us vs : List TypedClause) (n1 n2 n3 n4 n12 n123 : ℕ) → s ≡ stmts.Switch e v → us ≡ v.items → vs ≡ v.items → n1 ≡ expr_temps (as_expr e) → n2 ≡ cells (go_type e.of) → n3 ≡ cases_temps (clauses_in us) → n4 ≡ bodies_temps (clauses_in vs) → n12 ≡ n1 + n2 → n123 ≡ n12 + n3 → n123 + n4 ≡ stmt_temps (as_stmt s)
switch_temps s e v us vs n1 n2 n3 n4 n12 n123 is a b h1 h2 h3 h4 p q =
    let tag : n12 ≡ expr_temps (as_expr e) + cells (expr_type (as_expr e)) = p ∙ ap (λ n. n + n2) h1 ∙ ap (λ n. expr_temps (as_expr e) + n) (h2 ∙ ap cells (sym (type_seen e))) in
    ap (λ n. n + n4) (q ∙ ap (λ n. n + n3) tag ∙ ap (λ n. expr_temps (as_expr e) + cells (expr_type (as_expr e)) + n) (h3 ∙ ap (λ l. cases_temps (clauses_in l)) a))
    ∙ ap (λ n. expr_temps (as_expr e) + cells (expr_type (as_expr e)) + cases_temps (clauses_in v.items) + n) (h4 ∙ ap (λ l. bodies_temps (clauses_in l)) b)
    ∙ ap stmt_temps (sym (ap as_stmt is ∙ switch_seen e v))

pub block_temps : (s : TypedStmt) (v : Vec TypedStmt Global) (vs : List TypedStmt) → s ≡ stmts.Block v → vs ≡ v.items → stmts_temps (stmts_in vs) ≡ stmt_temps (as_stmt s)
block_temps s v vs is a = ap (λ l. stmts_temps (stmts_in l)) a ∙ ap stmt_temps (sym (ap as_stmt is ∙ block_seen v))
