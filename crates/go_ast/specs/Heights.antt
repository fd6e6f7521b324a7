-- How many levels of nodes a tree has: statements, blocks, expressions, types and the braces of a literal.
use Rattle.std.specs.Prelude.{ℕ, ◌+◌, max, List, [], ◌∷◌, Option, Some, None}
use Rattle.go_ast.specs.Trees.{TypeExpr, array, slice, struct, FieldDecls, no_fields, field, Expression, parenthesized, composite_lit, conversion, selector, index, cut, Bound, no_bound, bound, call, type_operand, unary, binary, ExpressionList, no_exprs, some_exprs, Elements, no_elements, element, Element, expression_element, value_element, Simple, call_statement, increment, decrement, assignment, operator_assignment, short_var_decl, ConstSpec, VarSpec, TypeSpec, Decl, constants, variables, types, Statement, declaration, simple, return, block_statement, if_statement, for_statement, range_statement, switch_statement, Block, block, If, conditional, Else, no_else, else_block, else_if, StatementList, no_stmts, some_stmts, Cases, no_clauses, clause, Parameter, FunctionDecl, TopLevel, declared, function, File}

abbrev mutual
  pub type_height : TypeExpr → ℕ
  type_height (array p e a) = max (height e) (type_height a) + 1
  type_height (slice p a) = type_height a + 1
  type_height (struct p fs) = fields_height fs + 1
  type_height _ = 1

  pub fields_height : FieldDecls → ℕ
  fields_height no_fields = 0
  fields_height (field ns a fs) = max (type_height a) (fields_height fs)

  pub height : Expression → ℕ
  height (parenthesized p e) = height e + 1
  height (composite_lit p a q es) = max (type_height a) (elements_height es + 1) + 1
  height (conversion p a e) = max (type_height a) (height e) + 1
  height (selector p e n) = height e + 1
  height (index p e i) = max (height e) (height i) + 1
  height (cut p e a b) = max (height e) (max (bound_height a) (bound_height b)) + 1
  height (type_operand p t) = type_height t
  height (call p f es) = max (height f) (exprs_height es) + 1
  height (unary p op e) = height e + 1
  height (binary p op a b) = max (height a) (height b) + 1
  height _ = 1

  pub bound_height : Bound → ℕ
  bound_height no_bound = 0
  bound_height (bound e) = height e

  pub exprs_height : ExpressionList → ℕ
  exprs_height no_exprs = 0
  exprs_height (some_exprs e es) = max (height e) (exprs_height es)

  pub elements_height : Elements → ℕ
  elements_height no_elements = 0
  elements_height (element k e es) = max (element_height e) (elements_height es)

  pub element_height : Element → ℕ
  element_height (expression_element e) = height e
  element_height (value_element p es) = elements_height es + 1

abbrev pub simple_height : Simple → ℕ
simple_height (call_statement e) = height e
simple_height (increment e) = height e
simple_height (decrement e) = height e
simple_height (assignment ls rs) = max (exprs_height ls) (exprs_height rs)
simple_height (operator_assignment op l r) = max (height l) (height r)
-- the names of a short variable declaration are no nodes, but stand where an expression does
simple_height (short_var_decl ns rs) = exprs_height rs

-- what may be missing
abbrev pub lifted : {A : Type 0} → (A → ℕ) → Option A → ℕ
lifted h None = 0
lifted h (Some x) = h x

-- the greatest of a list
abbrev pub greatest : {A : Type 0} → (A → ℕ) → List A → ℕ
greatest h [] = 0
greatest h (x ∷ xs) = max (h x) (greatest h xs)

abbrev pub const_height : ConstSpec → ℕ
const_height s = max (lifted type_height s.type) (exprs_height s.values)

abbrev pub var_height : VarSpec → ℕ
var_height s = max (lifted type_height s.type) (exprs_height s.values)

abbrev pub type_spec_height : TypeSpec → ℕ
type_spec_height s = type_height s.type

abbrev pub decl_height : Decl → ℕ
decl_height (constants p ss) = greatest const_height ss
decl_height (variables p ss) = greatest var_height ss
decl_height (types p ss) = greatest type_spec_height ss

abbrev mutual
  pub stmt_height : Statement → ℕ
  stmt_height (declaration p d) = decl_height d + 1
  stmt_height (simple p s) = simple_height s + 1
  stmt_height (return p es) = exprs_height es + 1
  stmt_height (block_statement b) = block_height b + 1
  stmt_height (if_statement i) = if_height i
  stmt_height (for_statement p i c n b) = max (max (lifted simple_height i) (lifted height c)) (max (lifted simple_height n) (block_height b)) + 1
  stmt_height (range_statement p n e b) = max (height e) (block_height b) + 1
  stmt_height (switch_statement p i t cs) = max (max (lifted simple_height i) (lifted height t)) (clauses_height cs) + 1
  stmt_height _ = 1

  pub block_height : Block → ℕ
  block_height (block p ss q) = stmts_height ss + 1

  pub if_height : If → ℕ
  if_height (conditional p i c b e) = max (max (lifted simple_height i) (height c)) (max (block_height b) (else_height e)) + 1

  pub else_height : Else → ℕ
  else_height no_else = 0
  else_height (else_block b) = block_height b
  else_height (else_if i) = if_height i

  pub stmts_height : StatementList → ℕ
  stmts_height no_stmts = 0
  stmts_height (some_stmts s ss) = max (stmt_height s) (stmts_height ss)

  pub clauses_height : Cases → ℕ
  clauses_height no_clauses = 0
  clauses_height (clause p es ss cs) = max (max (lifted exprs_height es) (stmts_height ss)) (clauses_height cs)

abbrev pub parameter_height : Parameter → ℕ
parameter_height p = type_height p.type

abbrev pub function_height : FunctionDecl → ℕ
function_height f = max (max (greatest parameter_height f.parameters) (greatest type_height f.results)) (block_height f.body)

abbrev pub top_height : TopLevel → ℕ
top_height (declared d) = decl_height d
top_height (function f) = function_height f

abbrev pub file_height : File → ℕ
file_height f = greatest top_height f.declarations
