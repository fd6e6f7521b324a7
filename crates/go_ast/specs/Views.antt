-- Which values the code's trees are.
use Rattle.std.specs.Prelude.{List, map, Option, Some, None, Box, Vec}
use Rattle.std.specs.Global.{Global}
use Rattle.go_text.specs.declared.place.Place.{Place}
use Rattle.go_ast.specs.Trees as trees
use Rattle.go_ast.specs.declared.expression.TypeExpr.{TypeExpr}
use Rattle.go_ast.specs.declared.expression.TypeKind.{TypeKind, Named, Qualified, Array', Slice', Struct', Row_of-Field, end_of-Field, more_of-Field}
use Rattle.go_ast.specs.declared.expression.Field.{Field}
use Rattle.go_ast.specs.declared.expression.Expr.{Expr}
use Rattle.go_ast.specs.declared.expression.ExprKind.{ExprKind, Name, Integer, Rune, String, Parenthesized', CompositeLit', Conversion', Selector', Index', Cut', Type', Call', Unary', Binary', Row_of-Expr, end_of-Expr, more_of-Expr}
use Rattle.go_ast.specs.declared.expression.Bound.{Bound, Open, At'}
use Rattle.go_ast.specs.declared.expression.Element.{Element}
use Rattle.go_ast.specs.declared.expression.ElementValue.{ElementValue, Expression', Value', Row_of-Element, end_of-Element, more_of-Element}
use Rattle.go_ast.specs.declared.declaration.ConstSpec.{ConstSpec}
use Rattle.go_ast.specs.declared.declaration.VarSpec.{VarSpec}
use Rattle.go_ast.specs.declared.declaration.TypeSpec.{TypeSpec}
use Rattle.go_ast.specs.declared.declaration.Decl.{Decl}
use Rattle.go_ast.specs.declared.declaration.Decl.TheVariants as decls
use Rattle.go_ast.specs.declared.statement.Simple.{Simple}
use Rattle.go_ast.specs.declared.statement.Simple.TheVariants as simples
use Rattle.go_ast.specs.declared.statement.Stmt.{Stmt, Row_of-Stmt, end_of-Stmt, more_of-Stmt, Row_of-Clause, end_of-Clause, more_of-Clause}
use Rattle.go_ast.specs.declared.statement.Stmt as stmts
use Rattle.go_ast.specs.declared.statement.Else.{Else}
use Rattle.go_ast.specs.declared.statement.Else as elses
use Rattle.go_ast.specs.declared.statement.Block.{Block}
use Rattle.go_ast.specs.declared.statement.If.{If}
use Rattle.go_ast.specs.declared.statement.Clause.{Clause}
use Rattle.go_ast.specs.declared.file.Parameter.{Parameter}
use Rattle.go_ast.specs.declared.file.Function.{Function}
use Rattle.go_ast.specs.declared.file.TopLevel.{TopLevel}
use Rattle.go_ast.specs.declared.file.TopLevel.TheVariants as tops
use Rattle.go_ast.specs.declared.file.ImportSpec.{ImportSpec}
use Rattle.go_ast.specs.declared.file.File.{File}

-- types and expressions of a kind at a place, and rows of them
abbrev mutual
  pub type_at : TypeKind → Place → trees.TypeExpr
  type_at (Named n) p = trees.named p n
  type_at (Qualified m n) p = trees.qualified p m n
  type_at (Array' x q e y r a) p = trees.array p (expr_at e q) (type_at a r)
  type_at (Slice' x q a) p = trees.slice p (type_at a q)
  type_at (Struct' n row) p = trees.struct p (field_list_tree row)

  pub field_list_tree : {m : _} → Row_of-Field m → trees.FieldDecls
  field_list_tree end_of-Field = trees.no_fields
  field_list_tree (more_of-Field names q a row) = trees.field names.items (type_at a q) (field_list_tree row)

  pub expr_at : ExprKind → Place → trees.Expression
  expr_at (Name text) p = trees.name p text
  expr_at (Integer text) p = trees.integer p text
  expr_at (Rune value) p = trees.rune p value
  expr_at (String value) p = trees.string p value.items
  expr_at (Parenthesized' x q e) p = trees.parenthesized p (expr_at e q)
  expr_at (CompositeLit' x q a brace n row) p = trees.composite_lit p (type_at a q) brace (elements_of row)
  expr_at (Conversion' x q a y r e) p = trees.conversion p (type_at a q) (expr_at e r)
  expr_at (Selector' x q e n) p = trees.selector p (expr_at e q) n
  expr_at (Index' x q e y r i) p = trees.index p (expr_at e q) (expr_at i r)
  expr_at (Cut' x q e a b) p = trees.cut p (expr_at e q) (bound_of a) (bound_of b)
  expr_at (Type' x q a) p = trees.type_operand p (type_at a q)
  expr_at (Call' x q f n row) p = trees.call p (expr_at f q) (exprs_of row)
  expr_at (Unary' op x q e) p = trees.unary p op (expr_at e q)
  expr_at (Binary' op x q a y r b) p = trees.binary p op (expr_at a q) (expr_at b r)

  pub bound_of : Bound → trees.Bound
  bound_of Open = trees.no_bound
  bound_of (At' x q e) = trees.bound (expr_at e q)

  pub exprs_of : {m : _} → Row_of-Expr m → trees.ExpressionList
  exprs_of end_of-Expr = trees.no_exprs
  exprs_of (more_of-Expr q e row) = trees.some_exprs (expr_at e q) (exprs_of row)

  pub elements_of : {m : _} → Row_of-Element m → trees.Elements
  elements_of end_of-Element = trees.no_elements
  elements_of (more_of-Element key value row) = trees.element key (element_value_of value) (elements_of row)

  pub element_value_of : ElementValue → trees.Element
  element_value_of (Expression' q e) = trees.expression_element (expr_at e q)
  element_value_of (Value' p n row) = trees.value_element p (elements_of row)

-- a type, an expression, and a part of one
unfoldable pub type_of : TypeExpr → trees.TypeExpr
type_of a = type_at a.kind a.place

unfoldable pub expr_of : Expr → trees.Expression
expr_of e = expr_at e.kind e.place

unfoldable pub value_of : ElementValue → trees.Element
value_of v = element_value_of v

abbrev pub element_of : Element → Option trees.Name × trees.Element
element_of e = (e.key, value_of e.value)

abbrev pub field_of : Field → List trees.Name × trees.TypeExpr
field_of f = (f.names.items, type_of f.type_expr)

-- what may be missing
abbrev pub if_some : {A B : Type 0} → (A → B) → Option A → Option B
if_some f None = None
if_some f (Some a) = Some (f a)

-- the same, where it lies in a box
abbrev pub if_boxed : {A B : Type 0} → (A → B) → Option (Box A Global) → Option B
if_boxed f None = None
if_boxed f (Some a) = Some (f a.value)

abbrev pub exprs_in : List Expr → trees.ExpressionList
exprs_in es = trees.pack (map expr_of es)

-- declarations

abbrev pub const_of : ConstSpec → trees.ConstSpec
const_of s = record { names = s.names.items; type = if_some type_of s.type_expr; values = exprs_in s.values.items }

abbrev pub var_of : VarSpec → trees.VarSpec
var_of s = record { names = s.names.items; type = if_some type_of s.type_expr; values = exprs_in s.values.items }

abbrev pub type_spec_of : TypeSpec → trees.TypeSpec
type_spec_of s = record { name = s.name; type = type_of s.type_expr }

abbrev pub decl_of : Decl → trees.Decl
decl_of (decls.Constants p ss) = trees.constants p (map const_of ss.items)
decl_of (decls.Variables p ss) = trees.variables p (map var_of ss.items)
decl_of (decls.Types p ss) = trees.types p (map type_spec_of ss.items)

-- statements

abbrev pub simple_of : Simple → trees.Simple
simple_of (simples.Call e) = trees.call_statement (expr_of e)
simple_of (simples.Increment e) = trees.increment (expr_of e)
simple_of (simples.Decrement e) = trees.decrement (expr_of e)
simple_of (simples.Assignment ls rs) = trees.assignment (exprs_in ls.items) (exprs_in rs.items)
simple_of (simples.OperatorAssignment op l r) = trees.operator_assignment op (expr_of l) (expr_of r)
simple_of (simples.ShortVarDecl ns rs) = trees.short_var_decl ns.items (exprs_in rs.items)

abbrev mutual
  pub stmt_at : Stmt → trees.Statement
  stmt_at (stmts.Empty p) = trees.empty p
  stmt_at (stmts.Declaration p d) = trees.declaration p (decl_of d)
  stmt_at (stmts.Simple p s) = trees.simple p (simple_of s)
  stmt_at (stmts.Return p es) = trees.return p (exprs_in es.items)
  stmt_at (stmts.Break p) = trees.break p
  stmt_at (stmts.Continue p) = trees.continue p
  stmt_at (stmts.Fallthrough p) = trees.fallthrough p
  stmt_at (stmts.Block' p n row q) = trees.block_statement (trees.block p (stmts_of row) q)
  stmt_at (stmts.If' p s c bp n row bq e) =
      trees.if_statement (trees.conditional p (if_boxed simple_of s) (expr_of c.value) (trees.block bp (stmts_of row) bq) (else_tree e))
  stmt_at (stmts.For' p s c r bp n row bq) =
      trees.for_statement p (if_boxed simple_of s) (if_boxed expr_of c) (if_boxed simple_of r) (trees.block bp (stmts_of row) bq)
  stmt_at (stmts.Range' p name e bp n row bq) = trees.range_statement p name (expr_of e.value) (trees.block bp (stmts_of row) bq)
  stmt_at (stmts.Switch' p s t n row) = trees.switch_statement p (if_boxed simple_of s) (if_boxed expr_of t) (clauses_of row)

  pub else_tree : Else → trees.Else
  else_tree elses.Nothing = trees.no_else
  else_tree (elses.Block' p n row q) = trees.else_block (trees.block p (stmts_of row) q)
  else_tree (elses.If' x p s c bp n row bq e) =
      trees.else_if (trees.conditional p (if_boxed simple_of s) (expr_of c.value) (trees.block bp (stmts_of row) bq) (else_tree e))

  pub stmts_of : {m : _} → Row_of-Stmt m → trees.StatementList
  stmts_of end_of-Stmt = trees.no_stmts
  stmts_of (more_of-Stmt s row) = trees.some_stmts (stmt_at s) (stmts_of row)

  pub clauses_of : {m : _} → Row_of-Clause m → trees.Cases
  clauses_of end_of-Clause = trees.no_clauses
  clauses_of (more_of-Clause p es n row rest) = trees.clause p (if_some (λ (v : Vec Expr Global). exprs_in v.items) es) (stmts_of row) (clauses_of rest)

unfoldable pub stmt_of : Stmt → trees.Statement
stmt_of s = stmt_at s

unfoldable pub else_of : Else → trees.Else
else_of e = else_tree e

-- a clause: its place, its values and its statements
abbrev pub clause_of : Clause → Place × (Option trees.ExpressionList × List trees.Statement)
clause_of c = (c.place, (if_some (λ (es : Vec Expr Global). exprs_in es.items) c.values, map stmt_of c.statements.items))

abbrev pub block_of : Block → trees.Block
block_of b = trees.block b.place (trees.pack_statements (map stmt_of b.statements.items)) b.closing

abbrev pub if_of : If → trees.If
if_of i = trees.conditional i.place (if_boxed simple_of i.init) (expr_of i.condition.value) (block_of i.body) (else_of i.otherwise)

-- files

abbrev pub parameter_of : Parameter → trees.Parameter
parameter_of p = record { names = p.names.items; type = type_of p.type_expr }

abbrev pub function_of : Function → trees.FunctionDecl
function_of f =
    record { place = f.place; name = f.name; parameters = map parameter_of f.parameters.items; results = map type_of f.results.items; body = block_of f.body }

abbrev pub top_of : TopLevel → trees.TopLevel
top_of (tops.Declared d) = trees.declared (decl_of d)
top_of (tops.Function f) = trees.function (function_of f)

abbrev pub import_of : ImportSpec → trees.ImportSpec
import_of i = record { place = i.place; name = i.name; path = i.path.items; path_place = i.path_place }

abbrev pub file_of : File → trees.File
file_of f = record { «package» = f.package; imports = map import_of f.imports.items; declarations = map top_of f.declarations.items }
