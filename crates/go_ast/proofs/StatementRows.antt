-- What the code's statements are seen as, one law for each form.
use Rattle.std.proofs.Common.{◌≡◌, map, Box, Vec, Global, Option, refl, ap, sym, ◌∙◌}
use mathlib.Core.Former.{Count}
use Rattle.go_text.specs.declared.place.Place.{Place}
use Rattle.go_ast.specs.Trees as trees
use Rattle.go_ast.specs.declared.declaration.Decl.{Decl}
use Rattle.go_ast.specs.declared.expression.Expr.{Expr}
use Rattle.go_ast.specs.declared.statement.Simple.{Simple}
use Rattle.go_ast.specs.declared.statement.Stmt.{Stmt, Row_of-Stmt, end_of-Stmt, more_of-Stmt, items-the_row-Stmt, items_hidden-the_row-Stmt-0, items_shown-the_row-Stmt-0, Row_of-Clause, end_of-Clause, more_of-Clause, items-the_row-Clause, items_hidden-the_row-Clause-1}
use Rattle.go_ast.specs.declared.statement.Stmt as stmts
use Rattle.go_ast.specs.declared.statement.Else.{Else}
use Rattle.go_ast.specs.declared.statement.Else as elses
use Rattle.go_ast.specs.declared.statement.Block.{Block}
use Rattle.go_ast.specs.declared.statement.If.{If}
use Rattle.go_ast.specs.declared.statement.For.{For}
use Rattle.go_ast.specs.declared.statement.Range.{Range}
use Rattle.go_ast.specs.declared.statement.Clause.{Clause}
use Rattle.go_ast.specs.Machine.{pack_cases}
use Rattle.go_ast.specs.Views.{expr_of, exprs_in, if_some, if_boxed, decl_of, simple_of, stmt_at, stmts_of, clauses_of, stmt_of, else_of, clause_of, block_of, if_of}

stmt_items : (n : _) (row : Row_of-Stmt n) → stmts_of row ≡ trees.pack_statements (map stmt_of (items-the_row-Stmt n row))
unfolding stmt_of
stmt_items n end_of-Stmt = refl
stmt_items n (more_of-Stmt s rest) = ap (trees.some_stmts (stmt_at s)) (stmt_items _ rest)

abbrev stmt_row : Stmt → (n : Count) × Row_of-Stmt n
stmt_row (stmts.Block' p n row q) = (_, row)
stmt_row _ = (_, end_of-Stmt)

-- the statements of a block
stmts_seen : (b : Block) → stmts_of (stmt_row (stmts.Block b)).1 ≡ trees.pack_statements (map stmt_of b.statements.items)
stmts_seen b =
    let row = stmt_row (stmts.Block b) in
    stmt_items row.0 row.1 ∙ ap (λ xs. trees.pack_statements (map stmt_of xs)) (items_hidden-the_row-Stmt-0 b.statements)

pub block_seen : (b : Block) → stmt_of (stmts.Block b) ≡ trees.block_statement (block_of b)
unfolding stmt_of
block_seen b = ap (λ x. trees.block_statement (trees.block b.place x b.closing)) (stmts_seen b)

pub if_seen : (i : If) → stmt_of (stmts.If i) ≡ trees.if_statement (if_of i)
unfolding stmt_of else_of
if_seen i =
    ap (λ x. trees.if_statement (trees.conditional i.place (if_boxed simple_of i.init) (expr_of i.condition.value) (trees.block i.body.place x i.body.closing)
    (else_of i.otherwise))) (stmts_seen i.body)

pub for_seen : (f : For) → stmt_of (stmts.For f) ≡ trees.for_statement f.place (if_boxed simple_of f.init) (if_boxed expr_of f.condition)
    (if_boxed simple_of f.post) (block_of f.body)
unfolding stmt_of
for_seen f =
    ap (λ x. trees.for_statement f.place (if_boxed simple_of f.init) (if_boxed expr_of f.condition) (if_boxed simple_of f.post)
    (trees.block f.body.place x f.body.closing)) (stmts_seen f.body)

pub range_seen : (r : Range) → stmt_of (stmts.Range r) ≡ trees.range_statement r.place r.name (expr_of r.operand.value) (block_of r.body)
unfolding stmt_of
range_seen r = ap (λ x. trees.range_statement r.place r.name (expr_of r.operand.value) (trees.block r.body.place x r.body.closing)) (stmts_seen r.body)

pub no_else_seen : else_of elses.Nothing ≡ trees.no_else
unfolding else_of
no_else_seen = refl

pub else_block_seen : (b : Block) → else_of (elses.Block b) ≡ trees.else_block (block_of b)
unfolding else_of
else_block_seen b = ap (λ x. trees.else_block (trees.block b.place x b.closing)) (stmts_seen b)

pub else_if_seen : (box : Box If Global) (i : If) → box.value ≡ i → else_of (elses.If box) ≡ trees.else_if (if_of i)
unfolding else_of
else_if_seen box i e =
    ap (λ x. trees.else_if (trees.conditional box.value.place (if_boxed simple_of box.value.init) (expr_of box.value.condition.value)
    (trees.block box.value.body.place x box.value.body.closing) (else_of box.value.otherwise))) (stmts_seen box.value.body)
    ∙ ap (λ (x : If). trees.else_if (if_of x)) e

pub empty_seen : (p : Place) → stmt_of (stmts.Empty p) ≡ trees.empty p
unfolding stmt_of
empty_seen p = refl

pub declaration_seen : (p : Place) (d : Decl) → stmt_of (stmts.Declaration p d) ≡ trees.declaration p (decl_of d)
unfolding stmt_of
declaration_seen p d = refl

pub simple_seen : (p : Place) (s : Simple) → stmt_of (stmts.Simple p s) ≡ trees.simple p (simple_of s)
unfolding stmt_of
simple_seen p s = refl

pub return_seen : (p : Place) (es : Vec Expr Global) → stmt_of (stmts.Return p es) ≡ trees.return p (exprs_in es.items)
unfolding stmt_of
return_seen p es = refl

pub break_seen : (p : Place) → stmt_of (stmts.Break p) ≡ trees.break p
unfolding stmt_of
break_seen p = refl

pub continue_seen : (p : Place) → stmt_of (stmts.Continue p) ≡ trees.continue p
unfolding stmt_of
continue_seen p = refl

pub fallthrough_seen : (p : Place) → stmt_of (stmts.Fallthrough p) ≡ trees.fallthrough p
unfolding stmt_of
fallthrough_seen p = refl

-- clauses

clause_items : (n : _) (row : Row_of-Clause n) → clauses_of row ≡ pack_cases (map clause_of (items-the_row-Clause n row))
clause_items n end_of-Clause = refl
clause_items n (more_of-Clause p es m row rest) =
    ap (λ x. trees.clause p (if_some (λ (v : Vec Expr Global). exprs_in v.items) es) x (clauses_of rest)) (stmt_items _ row)
    ∙ ap (trees.clause p (if_some (λ (v : Vec Expr Global). exprs_in v.items) es) (trees.pack_statements (map stmt_of (items-the_row-Stmt _ row))))
    (clause_items _ rest)
    ∙ ap (λ xs. trees.clause p (if_some (λ (v : Vec Expr Global). exprs_in v.items) es) (trees.pack_statements (map stmt_of xs))
    (pack_cases (map clause_of (items-the_row-Clause _ rest)))) (sym (items_shown-the_row-Stmt-0 m row))

abbrev clause_row : Stmt → (n : Count) × Row_of-Clause n
clause_row (stmts.Switch' p s t n row) = (_, row)
clause_row _ = (_, end_of-Clause)

pub switch_seen : (p : Place) (s : Option (Box Simple Global)) (t : Option (Box Expr Global)) (cs : Vec Clause Global) →
    stmt_of (stmts.Switch p s t cs) ≡ trees.switch_statement p (if_boxed simple_of s) (if_boxed expr_of t) (pack_cases (map clause_of cs.items))
unfolding stmt_of
switch_seen p s t cs =
    let row = clause_row (stmts.Switch p s t cs) in
    ap (trees.switch_statement p (if_boxed simple_of s) (if_boxed expr_of t)) (clause_items row.0 row.1
    ∙ ap (λ xs. pack_cases (map clause_of xs)) (items_hidden-the_row-Clause-1 cs))
