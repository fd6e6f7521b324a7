-- What the code's statements are seen as, one law for each form with a row.
use Rattle.std.proofs.Common.{◌≡◌, ℕ, Vec, Global, Option, refl, ap, sym, ◌∙◌}
use Rattle.std.specs.Prelude.{option_map}
use mathlib.Core.Former.{Count}
use Rattle.go_types.specs.declared.types.GoType.{GoType}
use Rattle.go_types.specs.Views.{go_type}
use Rattle.go_typed.specs.Trees as trees
use Rattle.go_typed.specs.declared.expression.TypedExpr.{TypedExpr}
use Rattle.go_typed.specs.declared.statement.TypedClause.{TypedClause}
use Rattle.go_typed.specs.declared.statement.TypedStmt as stmts
use Rattle.go_typed.specs.declared.statement.TypedStmt.{TypedStmt, Row_of-TypedStmt, end_of-TypedStmt, more_of-TypedStmt, items-the_row-TypedStmt, items_hidden-the_row-TypedStmt-0, items_shown-the_row-TypedStmt-0, Row_of-TypedClause, end_of-TypedClause, more_of-TypedClause, items-the_row-TypedClause, items_hidden-the_row-TypedClause-1}
use Rattle.go_typed.specs.Views.{as_expr, cases_of, stmt_at, stmts_of, clauses_of, as_stmt, stmts_in, clauses_in}

stmt_items : (n : _) (row : Row_of-TypedStmt n) → stmts_of row ≡ stmts_in (items-the_row-TypedStmt n row)
unfolding as_stmt
stmt_items n end_of-TypedStmt = refl
stmt_items n (more_of-TypedStmt s rest) = ap (trees.some_stmts (stmt_at s)) (stmt_items _ rest)

abbrev first_row : TypedStmt → (n : Count) × Row_of-TypedStmt n
first_row (stmts.Block' n row) = (_, row)
first_row _ = (_, end_of-TypedStmt)

-- the statements of a row
stmts_seen : (v : Vec TypedStmt Global) → stmts_of (first_row (stmts.Block v)).1 ≡ stmts_in v.items
stmts_seen v =
    let row = first_row (stmts.Block v) in
    stmt_items row.0 row.1 ∙ ap stmts_in (items_hidden-the_row-TypedStmt-0 v)

pub block_seen : (v : Vec TypedStmt Global) → as_stmt (stmts.Block v) ≡ trees.block (stmts_in v.items)
unfolding as_stmt
block_seen v = ap trees.block (stmts_seen v)

pub if_seen : (e : TypedExpr) (u v : Vec TypedStmt Global) →
    as_stmt (stmts.If e u v) ≡ trees.if_statement (as_expr e) (stmts_in u.items) (stmts_in v.items)
unfolding as_stmt
if_seen e u v =
    ap (λ x. trees.if_statement (as_expr e) x (stmts_of (first_row (stmts.Block v)).1)) (stmts_seen u)
    ∙ ap (trees.if_statement (as_expr e) (stmts_in u.items)) (stmts_seen v)

pub for_seen : (e : Option TypedExpr) (u v : Vec TypedStmt Global) →
    as_stmt (stmts.For e u v) ≡ trees.for_statement (option_map as_expr e) (stmts_in u.items) (stmts_in v.items)
unfolding as_stmt
for_seen e u v =
    ap (λ x. trees.for_statement (option_map as_expr e) x (stmts_of (first_row (stmts.Block v)).1)) (stmts_seen u)
    ∙ ap (trees.for_statement (option_map as_expr e) (stmts_in u.items)) (stmts_seen v)

pub range_seen : (o : Option ℕ) (t : GoType) (e : TypedExpr) (v : Vec TypedStmt Global) →
    as_stmt (stmts.Range o t e v) ≡ trees.range_statement o (go_type t) (as_expr e) (stmts_in v.items)
unfolding as_stmt
range_seen o t e v = ap (trees.range_statement o (go_type t) (as_expr e)) (stmts_seen v)

-- clauses

clause_items : (n : _) (row : Row_of-TypedClause n) → clauses_of row ≡ clauses_in (items-the_row-TypedClause n row)
clause_items n end_of-TypedClause = refl
clause_items n (more_of-TypedClause es m row falls rest) =
    ap (λ x. trees.clause (cases_of es) x falls (clauses_of rest)) (stmt_items _ row)
    ∙ ap (trees.clause (cases_of es) (stmts_in (items-the_row-TypedStmt _ row)) falls) (clause_items _ rest)
    ∙ ap (λ xs. trees.clause (cases_of es) (stmts_in xs) falls (clauses_in (items-the_row-TypedClause _ rest))) (sym (items_shown-the_row-TypedStmt-0 m row))

abbrev clause_row : TypedStmt → (n : Count) × Row_of-TypedClause n
clause_row (stmts.Switch' e n row) = (_, row)
clause_row _ = (_, end_of-TypedClause)

pub switch_seen : (e : TypedExpr) (cs : Vec TypedClause Global) →
    as_stmt (stmts.Switch e cs) ≡ trees.switch_statement (as_expr e) (clauses_in cs.items)
unfolding as_stmt
switch_seen e cs =
    let row = clause_row (stmts.Switch e cs) in
    ap (trees.switch_statement (as_expr e)) (clause_items row.0 row.1 ∙ ap clauses_in (items_hidden-the_row-TypedClause-1 cs))
