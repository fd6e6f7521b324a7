-- Which values the code's typed trees are.
use Rattle.std.specs.Prelude.{ℕ, List, [], ◌∷◌, map, Option, option_map, string_bytes, Vec, Bool}
use Rattle.std.specs.Global.{Global}
use Rattle.go_types.specs.declared.types.GoType.{GoType}
use Rattle.go_const.specs.declared.constant.Const.{Const}
use Rattle.go_types.specs.Types.{Type'}
use Rattle.go_types.specs.Views.{go_type}
use Rattle.go_typed.specs.Trees as trees
use Rattle.go_typed.specs.declared.expression.TypedExpr.{TypedExpr}
use Rattle.go_typed.specs.declared.expression.TypedPart.{TypedPart}
use Rattle.go_typed.specs.declared.expression.TypedExprKind as kinds
use Rattle.go_typed.specs.declared.expression.TypedExprKind.{TypedExprKind, Row_of-TypedExpr, end_of-TypedExpr, more_of-TypedExpr, Row_of-TypedPart, end_of-TypedPart, more_of-TypedPart}
use Rattle.go_typed.specs.declared.statement.TypedStep.{TypedStep}
use Rattle.go_typed.specs.declared.statement.TypedStep.TheVariants as steps
use Rattle.go_typed.specs.declared.statement.TypedLeft.{TypedLeft}
use Rattle.go_typed.specs.declared.statement.TypedLeft.TheVariants as lefts
use Rattle.go_typed.specs.declared.statement.TypedSource.{TypedSource}
use Rattle.go_typed.specs.declared.statement.TypedSource.TheVariants as sources
use Rattle.go_typed.specs.declared.statement.TypedClause.{TypedClause}
use Rattle.go_typed.specs.declared.statement.TypedStmt as stmts
use Rattle.go_typed.specs.declared.statement.TypedStmt.{TypedStmt, Row_of-TypedStmt, end_of-TypedStmt, more_of-TypedStmt, Row_of-TypedClause, end_of-TypedClause, more_of-TypedClause}
use Rattle.go_typed.specs.declared.package.TypedConstant.{TypedConstant}
use Rattle.go_typed.specs.declared.package.TypedName.{TypedName}
use Rattle.go_typed.specs.declared.package.TypedVariable.{TypedVariable}
use Rattle.go_typed.specs.declared.package.TypedInitialization.{TypedInitialization}
use Rattle.go_typed.specs.declared.package.TypedFunction.{TypedFunction}
use Rattle.go_typed.specs.declared.package.TypedUses.{TypedUses}
use Rattle.go_typed.specs.declared.package.Typed.{Typed}

-- an expression of a kind and a type, and rows of them
abbrev mutual
  pub typed_expr_at : TypedExprKind → GoType → trees.Expr
  typed_expr_at (kinds.Constant c) t = trees.constant (go_type t) c
  typed_expr_at (kinds.Local n) t = trees.local (go_type t) n
  typed_expr_at (kinds.Global s) t = trees.global (go_type t) s
  typed_expr_at (kinds.Field' x u e n) t = trees.field (go_type t) (typed_expr_at e u) n
  typed_expr_at (kinds.Index' x u e y v i) t = trees.index (go_type t) (typed_expr_at e u) (typed_expr_at i v)
  typed_expr_at (kinds.Length' x u e) t = trees.length (go_type t) (typed_expr_at e u)
  typed_expr_at (kinds.Capacity' x u e) t = trees.capacity (go_type t) (typed_expr_at e u)
  typed_expr_at (kinds.Tail' x u e y v a) t = trees.cut (go_type t) (typed_expr_at e u) (typed_expr_at a v) trees.absent
  typed_expr_at (kinds.Cut' x u e y v a z w b) t = trees.cut (go_type t) (typed_expr_at e u) (typed_expr_at a v) (trees.present (typed_expr_at b w))
  typed_expr_at (kinds.Make' x u n) t = trees.make (go_type t) (typed_expr_at n u) trees.absent
  typed_expr_at (kinds.MakeWithin' x u n y v c) t = trees.make (go_type t) (typed_expr_at n u) (trees.present (typed_expr_at c v))
  typed_expr_at (kinds.Elements' m row) t = trees.append (go_type t) trees.absent (exprs_of row)
  typed_expr_at (kinds.Append' x u e m row) t = trees.append (go_type t) (trees.present (typed_expr_at e u)) (exprs_of row)
  typed_expr_at (kinds.Unary' op x u e) t = trees.unary (go_type t) op (typed_expr_at e u)
  typed_expr_at (kinds.Binary' op x u a y v b) t = trees.binary (go_type t) op (typed_expr_at a u) (typed_expr_at b v)
  typed_expr_at (kinds.Both' x u a y v b) t = trees.both (go_type t) (typed_expr_at a u) (typed_expr_at b v)
  typed_expr_at (kinds.Either' x u a y v b) t = trees.either (go_type t) (typed_expr_at a u) (typed_expr_at b v)
  typed_expr_at (kinds.Conversion' x u e) t = trees.conversion (go_type t) (typed_expr_at e u)
  typed_expr_at (kinds.Literal' m row) t = trees.literal (go_type t) (typed_parts row)
  typed_expr_at (kinds.Call' s m row) t = trees.call (go_type t) s (exprs_of row)

  pub exprs_of : {m : _} → Row_of-TypedExpr m → trees.Exprs
  exprs_of end_of-TypedExpr = trees.no_exprs
  exprs_of (more_of-TypedExpr u e row) = trees.some_exprs (typed_expr_at e u) (exprs_of row)

  pub typed_parts : {m : _} → Row_of-TypedPart m → trees.Parts
  typed_parts end_of-TypedPart = trees.no_parts
  typed_parts (more_of-TypedPart n u e row) = trees.part n (typed_expr_at e u) (typed_parts row)

unfoldable pub as_expr : TypedExpr → trees.Expr
as_expr e = typed_expr_at e.kind e.of

abbrev pub part_view : TypedPart → ℕ × trees.Expr
part_view p = (p.number, as_expr p.value)

abbrev pub as_exprs : List TypedExpr → trees.Exprs
as_exprs es = trees.pack_exprs (map as_expr es)

abbrev pub parts_in : List TypedPart → trees.Parts
parts_in ps = trees.pack_parts (map part_view ps)

-- left sides and values that are due
abbrev pub steps_in : List TypedStep → trees.Steps
steps_in [] = trees.here
steps_in (steps.Field n ∷ ss) = trees.to_field n (steps_in ss)
steps_in (steps.Element e ∷ ss) = trees.to_element (as_expr e) (steps_in ss)

abbrev pub left_of : TypedLeft → trees.Left
left_of lefts.Blank = trees.blank
left_of (lefts.Local t n ss) = trees.of_local (go_type t) n (steps_in ss.items)
left_of (lefts.Global t s ss) = trees.of_global (go_type t) s (steps_in ss.items)
left_of (lefts.Slice t e ss) = trees.of_slice (go_type t) (as_expr e) (steps_in ss.items)

abbrev pub as_source : TypedSource → trees.ValueSource
as_source (sources.Each es) = trees.each (as_exprs es.items)
as_source (sources.Results ts s es) = trees.results (map go_type ts.items) s (as_exprs es.items)
as_source (sources.Zeros ts) = trees.zeros (map go_type ts.items)

abbrev pub cases_of : Option (Vec TypedExpr Global) → Option trees.Exprs
cases_of cases = option_map (λ (es : Vec TypedExpr Global). as_exprs es.items) cases

-- statements
abbrev mutual
  pub stmt_at : TypedStmt → trees.Stmt
  stmt_at (stmts.Define ns s) = trees.define ns.items (as_source s)
  stmt_at (stmts.Assign ls s) = trees.assign (map left_of ls.items) (as_source s)
  stmt_at (stmts.Update t l op e) = trees.update (go_type t) (left_of l) op (as_expr e)
  stmt_at (stmts.Run ts s es) = trees.run (map go_type ts.items) s (as_exprs es.items)
  stmt_at (stmts.Print es) = trees.print (as_exprs es.items)
  stmt_at (stmts.Panic e) = trees.panic (as_expr e)
  stmt_at (stmts.If' e m row n others) = trees.if_statement (as_expr e) (stmts_of row) (stmts_of others)
  stmt_at (stmts.For' e m post n row) = trees.for_statement (option_map as_expr e) (stmts_of post) (stmts_of row)
  stmt_at (stmts.Range' o t e m row) = trees.range_statement o (go_type t) (as_expr e) (stmts_of row)
  stmt_at (stmts.Switch' e m row) = trees.switch_statement (as_expr e) (clauses_of row)
  stmt_at (stmts.Block' m row) = trees.block (stmts_of row)
  stmt_at stmts.Break = trees.break
  stmt_at stmts.Continue = trees.continue
  stmt_at (stmts.Return s) = trees.return (as_source s)

  pub stmts_of : {m : _} → Row_of-TypedStmt m → trees.Stmts
  stmts_of end_of-TypedStmt = trees.no_stmts
  stmts_of (more_of-TypedStmt s row) = trees.some_stmts (stmt_at s) (stmts_of row)

  pub clauses_of : {m : _} → Row_of-TypedClause m → trees.Clauses
  clauses_of end_of-TypedClause = trees.no_clauses
  clauses_of (more_of-TypedClause cases m row falls rest) = trees.clause (cases_of cases) (stmts_of row) falls (clauses_of rest)

unfoldable pub as_stmt : TypedStmt → trees.Stmt
as_stmt s = stmt_at s

abbrev pub stmts_in : List TypedStmt → trees.Stmts
stmts_in ss = trees.pack_stmts (map as_stmt ss)

abbrev pub as_clause : TypedClause → Option trees.Exprs × (trees.Stmts × Bool)
as_clause c = (cases_of c.cases, (stmts_in c.body.items, c.falls))

abbrev pub clauses_in : List TypedClause → trees.Clauses
clauses_in cs = trees.pack_clauses (map as_clause cs)

-- packages
abbrev pub constant_of : TypedConstant → List ℕ × (Type' × Const)
constant_of c = (string_bytes c.name, (go_type c.of, c.value))

abbrev pub as_name : TypedName → List ℕ × Type'
as_name n = (string_bytes n.name, go_type n.of)

abbrev pub variable_of : TypedVariable → trees.Variable
variable_of v = record { name = string_bytes v.name; of = go_type v.of; file = string_bytes v.file; place = v.place }

abbrev pub initialization_of : TypedInitialization → trees.Initialization
initialization_of i = record {
  variables = map (option_map string_bytes) i.variables.items;
  file = string_bytes i.file;
  place = i.place;
  source = as_source i.source;
  references = map string_bytes i.references.items;
}

abbrev pub uses_of : TypedUses → List ℕ × List (List ℕ)
uses_of u = (string_bytes u.function, map string_bytes u.references.items)

abbrev pub as_function : TypedFunction → trees.Function
as_function f = record {
  name = string_bytes f.name;
  parameters = map go_type f.parameters.items;
  results = map go_type f.results.items;
  locals = map go_type f.locals.items;
  body = stmts_in f.body.items;
}

abbrev pub typed_of : Typed → trees.Package
typed_of t = record {
  path = string_bytes t.path;
  name = string_bytes t.name;
  edition = t.edition;
  constants = map constant_of t.constants.items;
  types = map as_name t.types.items;
  variables = map variable_of t.variables.items;
  initializations = map initialization_of t.initializations.items;
  uses = map uses_of t.uses.items;
  functions = map as_function t.functions.items;
}
