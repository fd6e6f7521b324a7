-- A parsed source may go to another thread, and be read by several: so may what it holds, type by type.
use denote.RattleType.{RattleType}
use denote.Param.Send.{IsSend, IsSync, recorded_send, recorded_sync, enum_send, enum_sync, sendable}
use denote.Enum.Declared.{shape}
use denote.Hole.FixSend.{Sends, Syncs, fix_send, fix_sync}
use Rattle.std.proofs.Crossing.{crosses}
use Rattle.std.proofs.MapsCrossing as maps
use Rattle.go_text.proofs.place.Place.TheSendSync as places
use Rattle.go_text.proofs.source.Source.TheSendSync as sources
use Rattle.go_ast.proofs.name.Name.TheSendSync as names
use Rattle.go_ast.proofs.key.Key.TheSendSync as keys
use Rattle.go_ast.proofs.expression.UnaryOperator.TheSendSync as unary
use Rattle.go_ast.proofs.expression.BinaryOperator.TheSendSync as binary
use Rattle.go_ast.proofs.file.ImportSpec.TheSendSync as imports
use Rattle.go_ast.specs.contracts.expression.Bound.TheKnot as knot
use Rattle.go_ast.specs.declared.expression.Bound.TheBlock as parts
use Rattle.go_ast.specs.contracts.statement.Else.TheKnot as statements
use Rattle.go_ast.specs.declared.statement.Else.TheBlock as statement_parts
use Rattle.go_ast.specs.contracts.expression.Bound as bound_type
use Rattle.go_ast.specs.contracts.expression.ElementValue as element_value_type
use Rattle.go_ast.specs.contracts.expression.ExprKind as expr_kind_type
use Rattle.go_ast.specs.contracts.expression.TypeKind as type_kind_type
use Rattle.go_ast.specs.contracts.expression.Element as element_type
use Rattle.go_ast.specs.contracts.expression.Expr as expr_type
use Rattle.go_ast.specs.contracts.expression.Field as field_type
use Rattle.go_ast.specs.contracts.expression.TypeExpr as type_expr_type
use Rattle.go_ast.specs.contracts.declaration.ConstSpec as const_spec_type
use Rattle.go_ast.specs.contracts.declaration.VarSpec as var_spec_type
use Rattle.go_ast.specs.contracts.declaration.TypeSpec as type_spec_type
use Rattle.go_ast.specs.contracts.declaration.Decl as decl_type
use Rattle.go_ast.specs.contracts.statement.Simple as simple_type
use Rattle.go_ast.specs.contracts.statement.Stmt as stmt_type
use Rattle.go_ast.specs.contracts.statement.Block as block_type
use Rattle.go_ast.specs.contracts.statement.If as if_type
use Rattle.go_ast.specs.contracts.statement.Else as else_type
use Rattle.go_ast.specs.contracts.statement.For as for_type
use Rattle.go_ast.specs.contracts.statement.Range as range_type
use Rattle.go_ast.specs.contracts.statement.Clause as clause_type
use Rattle.go_ast.specs.contracts.file.Parameter as parameter_type
use Rattle.go_ast.specs.contracts.file.Function as function_type
use Rattle.go_ast.specs.contracts.file.TopLevel as top_level_type
use Rattle.go_ast.specs.contracts.file.File as file_type
use Rattle.go_ast.specs.contracts.parsed.Parsed as parsed

-- ---- going to another thread

-- each layer, where those inside may
bound_layer_send : (A0 : RattleType) → IsSend A0 → IsSend (knot.layer-Bound A0)
bound_layer_send A0 a0 = search (names.the_send, places.the_field_send, places.the_send, unary.the_send, binary.the_send, crosses, maps.crosses, sendable) depth 30

element_value_layer_send : (A0 A1 : RattleType) → IsSend A0 → IsSend A1 → IsSend (knot.layer-ElementValue A0 A1)
element_value_layer_send A0 A1 a0 a1 = search (names.the_send, places.the_field_send, places.the_send, unary.the_send, binary.the_send, crosses, maps.crosses, sendable) depth 30

expr_kind_layer_send : (A0 A1 A2 A3 A4 A5 A6 A7 A8 A9 A10 A11 A12 A13 A14 A15 A16 : RattleType) → IsSend A0 → IsSend A1 → IsSend A2 → IsSend A3 → IsSend A4 → IsSend A5 → IsSend A6 → IsSend A7 → IsSend A8 → IsSend A9 → IsSend A10 → IsSend A11 → IsSend A12 → IsSend A13 → IsSend A14 → IsSend A15 → IsSend A16 → IsSend (knot.layer-ExprKind A0 A1 A2 A3 A4 A5 A6 A7 A8 A9 A10 A11 A12 A13 A14 A15 A16)
expr_kind_layer_send A0 A1 A2 A3 A4 A5 A6 A7 A8 A9 A10 A11 A12 A13 A14 A15 A16 a0 a1 a2 a3 a4 a5 a6 a7 a8 a9 a10 a11 a12 a13 a14 a15 a16 = search (names.the_send, places.the_field_send, places.the_send, unary.the_send, binary.the_send, crosses, maps.crosses, sendable) depth 30

type_kind_layer_send : (A0 A1 A2 A3 : RattleType) → IsSend A0 → IsSend A1 → IsSend A2 → IsSend A3 → IsSend (knot.layer-TypeKind A0 A1 A2 A3)
type_kind_layer_send A0 A1 A2 A3 a0 a1 a2 a3 = search (names.the_send, places.the_field_send, places.the_send, unary.the_send, binary.the_send, crosses, maps.crosses, sendable) depth 30

element_layer_send : (A0 : RattleType) → IsSend A0 → IsSend (knot.layer-Element A0)
element_layer_send A0 a0 = search (names.the_send, keys.the_send, places.the_field_send, places.the_send, unary.the_send, binary.the_send, crosses, maps.crosses, sendable) depth 30

expr_layer_send : (A0 : RattleType) → IsSend A0 → IsSend (knot.layer-Expr A0)
expr_layer_send A0 a0 = search (names.the_send, places.the_field_send, places.the_send, unary.the_send, binary.the_send, crosses, maps.crosses, sendable) depth 30

field_layer_send : (A0 : RattleType) → IsSend A0 → IsSend (knot.layer-Field A0)
field_layer_send A0 a0 = search (names.the_send, places.the_field_send, places.the_send, unary.the_send, binary.the_send, crosses, maps.crosses, sendable) depth 30

type_expr_layer_send : (A0 : RattleType) → IsSend A0 → IsSend (knot.layer-TypeExpr A0)
type_expr_layer_send A0 a0 = search (names.the_send, places.the_field_send, places.the_send, unary.the_send, binary.the_send, crosses, maps.crosses, sendable) depth 30

knot_layer_send : (i : knot.the_members) → Sends knot.ring i
knot_layer_send parts.member-Bound = record { send = λ h inside. bound_layer_send (h knot.member-Expr) (inside knot.member-Expr) }
knot_layer_send parts.member-ElementValue = record { send = λ h inside. element_value_layer_send (h knot.member-Expr) (h knot.member-Element) (inside knot.member-Expr) (inside knot.member-Element) }
knot_layer_send parts.member-ExprKind = record { send = λ h inside. expr_kind_layer_send (h knot.member-Expr) (h knot.member-TypeExpr) (h knot.member-Element) (h knot.member-TypeExpr) (h knot.member-Expr) (h knot.member-Expr) (h knot.member-Expr) (h knot.member-Expr) (h knot.member-Expr) (h knot.member-Bound) (h knot.member-Bound) (h knot.member-TypeExpr) (h knot.member-Expr) (h knot.member-Expr) (h knot.member-Expr) (h knot.member-Expr) (h knot.member-Expr) (inside knot.member-Expr) (inside knot.member-TypeExpr) (inside knot.member-Element) (inside knot.member-TypeExpr) (inside knot.member-Expr) (inside knot.member-Expr) (inside knot.member-Expr) (inside knot.member-Expr) (inside knot.member-Expr) (inside knot.member-Bound) (inside knot.member-Bound) (inside knot.member-TypeExpr) (inside knot.member-Expr) (inside knot.member-Expr) (inside knot.member-Expr) (inside knot.member-Expr) (inside knot.member-Expr) }
knot_layer_send parts.member-TypeKind = record { send = λ h inside. type_kind_layer_send (h knot.member-Expr) (h knot.member-TypeExpr) (h knot.member-TypeExpr) (h knot.member-Field) (inside knot.member-Expr) (inside knot.member-TypeExpr) (inside knot.member-TypeExpr) (inside knot.member-Field) }
knot_layer_send parts.member-Element = record { send = λ h inside. element_layer_send (h knot.member-ElementValue) (inside knot.member-ElementValue) }
knot_layer_send parts.member-Expr = record { send = λ h inside. expr_layer_send (h knot.member-ExprKind) (inside knot.member-ExprKind) }
knot_layer_send parts.member-Field = record { send = λ h inside. field_layer_send (h knot.member-TypeExpr) (inside knot.member-TypeExpr) }
knot_layer_send parts.member-TypeExpr = record { send = λ h inside. type_expr_layer_send (h knot.member-TypeKind) (inside knot.member-TypeKind) }

bound_inside_send : IsSend knot.hole-Bound
bound_inside_send = fix_send knot.ring knot_layer_send knot.member-Bound

element_value_inside_send : IsSend knot.hole-ElementValue
element_value_inside_send = fix_send knot.ring knot_layer_send knot.member-ElementValue

expr_kind_inside_send : IsSend knot.hole-ExprKind
expr_kind_inside_send = fix_send knot.ring knot_layer_send knot.member-ExprKind

type_kind_inside_send : IsSend knot.hole-TypeKind
type_kind_inside_send = fix_send knot.ring knot_layer_send knot.member-TypeKind

element_inside_send : IsSend knot.hole-Element
element_inside_send = fix_send knot.ring knot_layer_send knot.member-Element

expr_inside_send : IsSend knot.hole-Expr
expr_inside_send = fix_send knot.ring knot_layer_send knot.member-Expr

field_inside_send : IsSend knot.hole-Field
field_inside_send = fix_send knot.ring knot_layer_send knot.member-Field

type_expr_inside_send : IsSend knot.hole-TypeExpr
type_expr_inside_send = fix_send knot.ring knot_layer_send knot.member-TypeExpr

bound_field_send : IsSend (bound_type.the_field).row
bound_field_send = search (expr_inside_send, crosses, maps.crosses, sendable) depth 30

bound_send : IsSend bound_type.the_row
bound_send = recorded_send (bound_type.the_field).row _ _ (bound_type.the_type).to_one bound_field_send

expr_kind_field_send : IsSend (expr_kind_type.the_field).row
expr_kind_field_send = enum_send (shape expr_kind_type.the_type) (search (bound_field_send, expr_inside_send, type_expr_inside_send, element_inside_send, names.the_send, places.the_field_send, unary.the_send, binary.the_send, crosses, maps.crosses, sendable) depth 30, (search (bound_field_send, expr_inside_send, type_expr_inside_send, element_inside_send, names.the_send, places.the_field_send, unary.the_send, binary.the_send, crosses, maps.crosses, sendable) depth 30, (search (bound_field_send, expr_inside_send, type_expr_inside_send, element_inside_send, names.the_send, places.the_field_send, unary.the_send, binary.the_send, crosses, maps.crosses, sendable) depth 30, (search (bound_field_send, expr_inside_send, type_expr_inside_send, element_inside_send, names.the_send, places.the_field_send, unary.the_send, binary.the_send, crosses, maps.crosses, sendable) depth 30, (search (bound_field_send, expr_inside_send, type_expr_inside_send, element_inside_send, names.the_send, places.the_field_send, unary.the_send, binary.the_send, crosses, maps.crosses, sendable) depth 30, (search (bound_field_send, expr_inside_send, type_expr_inside_send, element_inside_send, names.the_send, places.the_field_send, unary.the_send, binary.the_send, crosses, maps.crosses, sendable) depth 30, (search (bound_field_send, expr_inside_send, type_expr_inside_send, element_inside_send, names.the_send, places.the_field_send, unary.the_send, binary.the_send, crosses, maps.crosses, sendable) depth 30, (search (bound_field_send, expr_inside_send, type_expr_inside_send, element_inside_send, names.the_send, places.the_field_send, unary.the_send, binary.the_send, crosses, maps.crosses, sendable) depth 30, (search (bound_field_send, expr_inside_send, type_expr_inside_send, element_inside_send, names.the_send, places.the_field_send, unary.the_send, binary.the_send, crosses, maps.crosses, sendable) depth 30, (search (bound_field_send, expr_inside_send, type_expr_inside_send, element_inside_send, names.the_send, places.the_field_send, unary.the_send, binary.the_send, crosses, maps.crosses, sendable) depth 30, (search (bound_field_send, expr_inside_send, type_expr_inside_send, element_inside_send, names.the_send, places.the_field_send, unary.the_send, binary.the_send, crosses, maps.crosses, sendable) depth 30, (search (bound_field_send, expr_inside_send, type_expr_inside_send, element_inside_send, names.the_send, places.the_field_send, unary.the_send, binary.the_send, crosses, maps.crosses, sendable) depth 30, (search (bound_field_send, expr_inside_send, type_expr_inside_send, element_inside_send, names.the_send, places.the_field_send, unary.the_send, binary.the_send, crosses, maps.crosses, sendable) depth 30, (search (bound_field_send, expr_inside_send, type_expr_inside_send, element_inside_send, names.the_send, places.the_field_send, unary.the_send, binary.the_send, crosses, maps.crosses, sendable) depth 30, tt))))))))))))))

expr_kind_send : IsSend expr_kind_type.the_row
expr_kind_send = recorded_send (expr_kind_type.the_field).row _ _ (expr_kind_type.the_type).to_one expr_kind_field_send

type_kind_field_send : IsSend (type_kind_type.the_field).row
type_kind_field_send = search (expr_kind_field_send, expr_kind_send, bound_inside_send, element_value_inside_send, expr_kind_inside_send, type_kind_inside_send, element_inside_send, expr_inside_send, field_inside_send, type_expr_inside_send, names.the_send, places.the_field_send, places.the_send, unary.the_send, binary.the_send, crosses, maps.crosses, sendable) depth 30

type_kind_send : IsSend type_kind_type.the_row
type_kind_send = recorded_send (type_kind_type.the_field).row _ _ (type_kind_type.the_type).to_one type_kind_field_send

expr_field_send : IsSend (expr_type.the_field).row
expr_field_send = search (type_kind_field_send, type_kind_send, expr_kind_field_send, expr_kind_send, bound_inside_send, element_value_inside_send, expr_kind_inside_send, type_kind_inside_send, element_inside_send, expr_inside_send, field_inside_send, type_expr_inside_send, names.the_send, places.the_field_send, places.the_send, unary.the_send, binary.the_send, crosses, maps.crosses, sendable) depth 30

expr_send : IsSend expr_type.the_row
expr_send = recorded_send (expr_type.the_field).row _ _ (expr_type.the_type).to_one expr_field_send

type_expr_field_send : IsSend (type_expr_type.the_field).row
type_expr_field_send = search (expr_field_send, expr_send, type_kind_field_send, type_kind_send, expr_kind_field_send, expr_kind_send, bound_inside_send, element_value_inside_send, expr_kind_inside_send, type_kind_inside_send, element_inside_send, expr_inside_send, field_inside_send, type_expr_inside_send, names.the_send, places.the_field_send, places.the_send, unary.the_send, binary.the_send, crosses, maps.crosses, sendable) depth 30

type_expr_send : IsSend type_expr_type.the_row
type_expr_send = recorded_send (type_expr_type.the_field).row _ _ (type_expr_type.the_type).to_one type_expr_field_send

element_value_field_send : IsSend (element_value_type.the_field).row
element_value_field_send = search (expr_field_send, element_inside_send, places.the_field_send, places.the_send, crosses, maps.crosses, sendable) depth 60 fits 30000

element_value_send : IsSend element_value_type.the_row
element_value_send = recorded_send (element_value_type.the_field).row _ _ (element_value_type.the_type).to_one element_value_field_send

element_field_send : IsSend (element_type.the_field).row
element_field_send = search (element_value_field_send, element_value_send, type_expr_field_send, type_expr_send, expr_field_send, expr_send, type_kind_field_send, type_kind_send, expr_kind_field_send, expr_kind_send, bound_inside_send, element_value_inside_send, expr_kind_inside_send, type_kind_inside_send, element_inside_send, expr_inside_send, field_inside_send, type_expr_inside_send, names.the_send, keys.the_send, places.the_field_send, places.the_send, unary.the_send, binary.the_send, crosses, maps.crosses, sendable) depth 30

element_send : IsSend element_type.the_row
element_send = recorded_send (element_type.the_field).row _ _ (element_type.the_type).to_one element_field_send

field_field_send : IsSend (field_type.the_field).row
field_field_send = search (element_field_send, element_send, element_value_field_send, element_value_send, type_expr_field_send, type_expr_send, expr_field_send, expr_send, type_kind_field_send, type_kind_send, expr_kind_field_send, expr_kind_send, bound_inside_send, element_value_inside_send, expr_kind_inside_send, type_kind_inside_send, element_inside_send, expr_inside_send, field_inside_send, type_expr_inside_send, names.the_send, places.the_field_send, places.the_send, unary.the_send, binary.the_send, crosses, maps.crosses, sendable) depth 30

field_send : IsSend field_type.the_row
field_send = recorded_send (field_type.the_field).row _ _ (field_type.the_type).to_one field_field_send

const_spec_field_send : IsSend (const_spec_type.the_field).row
const_spec_field_send = search (expr_field_send, expr_send, type_expr_field_send, type_expr_send, names.the_send, places.the_field_send, places.the_send, unary.the_send, binary.the_send, crosses, maps.crosses, sendable) depth 30

const_spec_send : IsSend const_spec_type.the_row
const_spec_send = recorded_send (const_spec_type.the_field).row _ _ (const_spec_type.the_type).to_one const_spec_field_send

var_spec_field_send : IsSend (var_spec_type.the_field).row
var_spec_field_send = search (const_spec_field_send, const_spec_send, expr_field_send, expr_send, type_expr_field_send, type_expr_send, names.the_send, places.the_field_send, places.the_send, unary.the_send, binary.the_send, crosses, maps.crosses, sendable) depth 30

var_spec_send : IsSend var_spec_type.the_row
var_spec_send = recorded_send (var_spec_type.the_field).row _ _ (var_spec_type.the_type).to_one var_spec_field_send

type_spec_field_send : IsSend (type_spec_type.the_field).row
type_spec_field_send = search (var_spec_field_send, var_spec_send, const_spec_field_send, const_spec_send, expr_field_send, expr_send, type_expr_field_send, type_expr_send, names.the_send, places.the_field_send, places.the_send, unary.the_send, binary.the_send, crosses, maps.crosses, sendable) depth 30

type_spec_send : IsSend type_spec_type.the_row
type_spec_send = recorded_send (type_spec_type.the_field).row _ _ (type_spec_type.the_type).to_one type_spec_field_send

decl_field_send : IsSend (decl_type.the_field).row
decl_field_send = search (type_spec_field_send, type_spec_send, var_spec_field_send, var_spec_send, const_spec_field_send, const_spec_send, expr_field_send, expr_send, type_expr_field_send, type_expr_send, names.the_send, places.the_field_send, places.the_send, unary.the_send, binary.the_send, crosses, maps.crosses, sendable) depth 30

decl_send : IsSend decl_type.the_row
decl_send = recorded_send (decl_type.the_field).row _ _ (decl_type.the_type).to_one decl_field_send

simple_field_send : IsSend (simple_type.the_field).row
simple_field_send = search (decl_field_send, decl_send, type_spec_field_send, type_spec_send, var_spec_field_send, var_spec_send, const_spec_field_send, const_spec_send, expr_field_send, expr_send, type_expr_field_send, type_expr_send, names.the_send, places.the_field_send, places.the_send, unary.the_send, binary.the_send, crosses, maps.crosses, sendable) depth 30

simple_send : IsSend simple_type.the_row
simple_send = recorded_send (simple_type.the_field).row _ _ (simple_type.the_type).to_one simple_field_send

-- each layer, where those inside may
else_layer_send : (A0 A1 : RattleType) → IsSend A0 → IsSend A1 → IsSend (statements.layer-Else A0 A1)
else_layer_send A0 A1 a0 a1 = search (simple_field_send, simple_send, decl_field_send, decl_send, type_spec_field_send, type_spec_send, var_spec_field_send, var_spec_send, const_spec_field_send, const_spec_send, expr_field_send, expr_send, type_expr_field_send, type_expr_send, names.the_send, places.the_field_send, places.the_send, unary.the_send, binary.the_send, crosses, maps.crosses, sendable) depth 30

stmt_layer_send : (A0 A1 A2 A3 A4 : RattleType) → IsSend A0 → IsSend A1 → IsSend A2 → IsSend A3 → IsSend A4 → IsSend (statements.layer-Stmt A0 A1 A2 A3 A4)
stmt_layer_send A0 A1 A2 A3 A4 a0 a1 a2 a3 a4 = search (simple_field_send, simple_send, decl_field_send, decl_send, type_spec_field_send, type_spec_send, var_spec_field_send, var_spec_send, const_spec_field_send, const_spec_send, expr_field_send, expr_send, type_expr_field_send, type_expr_send, names.the_send, places.the_field_send, places.the_send, unary.the_send, binary.the_send, crosses, maps.crosses, sendable) depth 30

block_layer_send : (A0 : RattleType) → IsSend A0 → IsSend (statements.layer-Block A0)
block_layer_send A0 a0 = search (simple_field_send, simple_send, decl_field_send, decl_send, type_spec_field_send, type_spec_send, var_spec_field_send, var_spec_send, const_spec_field_send, const_spec_send, expr_field_send, expr_send, type_expr_field_send, type_expr_send, names.the_send, places.the_field_send, places.the_send, unary.the_send, binary.the_send, crosses, maps.crosses, sendable) depth 30

if_layer_send : (A0 A1 : RattleType) → IsSend A0 → IsSend A1 → IsSend (statements.layer-If A0 A1)
if_layer_send A0 A1 a0 a1 = search (simple_field_send, simple_send, decl_field_send, decl_send, type_spec_field_send, type_spec_send, var_spec_field_send, var_spec_send, const_spec_field_send, const_spec_send, expr_field_send, expr_send, type_expr_field_send, type_expr_send, names.the_send, places.the_field_send, places.the_send, unary.the_send, binary.the_send, crosses, maps.crosses, sendable) depth 30

for_layer_send : (A0 : RattleType) → IsSend A0 → IsSend (statements.layer-For A0)
for_layer_send A0 a0 = search (simple_field_send, simple_send, decl_field_send, decl_send, type_spec_field_send, type_spec_send, var_spec_field_send, var_spec_send, const_spec_field_send, const_spec_send, expr_field_send, expr_send, type_expr_field_send, type_expr_send, names.the_send, places.the_field_send, places.the_send, unary.the_send, binary.the_send, crosses, maps.crosses, sendable) depth 30

range_layer_send : (A0 : RattleType) → IsSend A0 → IsSend (statements.layer-Range A0)
range_layer_send A0 a0 = search (simple_field_send, simple_send, decl_field_send, decl_send, type_spec_field_send, type_spec_send, var_spec_field_send, var_spec_send, const_spec_field_send, const_spec_send, expr_field_send, expr_send, type_expr_field_send, type_expr_send, names.the_send, places.the_field_send, places.the_send, unary.the_send, binary.the_send, crosses, maps.crosses, sendable) depth 30

clause_layer_send : (A0 : RattleType) → IsSend A0 → IsSend (statements.layer-Clause A0)
clause_layer_send A0 a0 = search (simple_field_send, simple_send, decl_field_send, decl_send, type_spec_field_send, type_spec_send, var_spec_field_send, var_spec_send, const_spec_field_send, const_spec_send, expr_field_send, expr_send, type_expr_field_send, type_expr_send, names.the_send, places.the_field_send, places.the_send, unary.the_send, binary.the_send, crosses, maps.crosses, sendable) depth 30

statements_layer_send : (i : statements.the_members) → Sends statements.ring i
statements_layer_send statement_parts.member-Else = record { send = λ h inside. else_layer_send (h statements.member-Block) (h statements.member-If) (inside statements.member-Block) (inside statements.member-If) }
statements_layer_send statement_parts.member-Stmt = record { send = λ h inside. stmt_layer_send (h statements.member-Block) (h statements.member-If) (h statements.member-For) (h statements.member-Range) (h statements.member-Clause) (inside statements.member-Block) (inside statements.member-If) (inside statements.member-For) (inside statements.member-Range) (inside statements.member-Clause) }
statements_layer_send statement_parts.member-Block = record { send = λ h inside. block_layer_send (h statements.member-Stmt) (inside statements.member-Stmt) }
statements_layer_send statement_parts.member-If = record { send = λ h inside. if_layer_send (h statements.member-Block) (h statements.member-Else) (inside statements.member-Block) (inside statements.member-Else) }
statements_layer_send statement_parts.member-For = record { send = λ h inside. for_layer_send (h statements.member-Block) (inside statements.member-Block) }
statements_layer_send statement_parts.member-Range = record { send = λ h inside. range_layer_send (h statements.member-Block) (inside statements.member-Block) }
statements_layer_send statement_parts.member-Clause = record { send = λ h inside. clause_layer_send (h statements.member-Stmt) (inside statements.member-Stmt) }

else_inside_send : IsSend statements.hole-Else
else_inside_send = fix_send statements.ring statements_layer_send statements.member-Else

stmt_inside_send : IsSend statements.hole-Stmt
stmt_inside_send = fix_send statements.ring statements_layer_send statements.member-Stmt

block_inside_send : IsSend statements.hole-Block
block_inside_send = fix_send statements.ring statements_layer_send statements.member-Block

if_inside_send : IsSend statements.hole-If
if_inside_send = fix_send statements.ring statements_layer_send statements.member-If

for_inside_send : IsSend statements.hole-For
for_inside_send = fix_send statements.ring statements_layer_send statements.member-For

range_inside_send : IsSend statements.hole-Range
range_inside_send = fix_send statements.ring statements_layer_send statements.member-Range

clause_inside_send : IsSend statements.hole-Clause
clause_inside_send = fix_send statements.ring statements_layer_send statements.member-Clause

block_field_send : IsSend (block_type.the_field).row
block_field_send = search (else_inside_send, stmt_inside_send, block_inside_send, if_inside_send, for_inside_send, range_inside_send, clause_inside_send, simple_field_send, simple_send, decl_field_send, decl_send, type_spec_field_send, type_spec_send, var_spec_field_send, var_spec_send, const_spec_field_send, const_spec_send, expr_field_send, expr_send, type_expr_field_send, type_expr_send, names.the_send, places.the_field_send, places.the_send, unary.the_send, binary.the_send, crosses, maps.crosses, sendable) depth 30

block_send : IsSend block_type.the_row
block_send = recorded_send (block_type.the_field).row _ _ (block_type.the_type).to_one block_field_send

else_field_send : IsSend (else_type.the_field).row
else_field_send = search (block_field_send, block_send, else_inside_send, stmt_inside_send, block_inside_send, if_inside_send, for_inside_send, range_inside_send, clause_inside_send, simple_field_send, simple_send, decl_field_send, decl_send, type_spec_field_send, type_spec_send, var_spec_field_send, var_spec_send, const_spec_field_send, const_spec_send, expr_field_send, expr_send, type_expr_field_send, type_expr_send, names.the_send, places.the_field_send, places.the_send, unary.the_send, binary.the_send, crosses, maps.crosses, sendable) depth 30

else_send : IsSend else_type.the_row
else_send = recorded_send (else_type.the_field).row _ _ (else_type.the_type).to_one else_field_send

if_field_send : IsSend (if_type.the_field).row
if_field_send = search (else_field_send, else_send, block_field_send, block_send, else_inside_send, stmt_inside_send, block_inside_send, if_inside_send, for_inside_send, range_inside_send, clause_inside_send, simple_field_send, simple_send, decl_field_send, decl_send, type_spec_field_send, type_spec_send, var_spec_field_send, var_spec_send, const_spec_field_send, const_spec_send, expr_field_send, expr_send, type_expr_field_send, type_expr_send, names.the_send, places.the_field_send, places.the_send, unary.the_send, binary.the_send, crosses, maps.crosses, sendable) depth 30

if_send : IsSend if_type.the_row
if_send = recorded_send (if_type.the_field).row _ _ (if_type.the_type).to_one if_field_send

for_field_send : IsSend (for_type.the_field).row
for_field_send = search (if_field_send, if_send, else_field_send, else_send, block_field_send, block_send, else_inside_send, stmt_inside_send, block_inside_send, if_inside_send, for_inside_send, range_inside_send, clause_inside_send, simple_field_send, simple_send, decl_field_send, decl_send, type_spec_field_send, type_spec_send, var_spec_field_send, var_spec_send, const_spec_field_send, const_spec_send, expr_field_send, expr_send, type_expr_field_send, type_expr_send, names.the_send, places.the_field_send, places.the_send, unary.the_send, binary.the_send, crosses, maps.crosses, sendable) depth 30

for_send : IsSend for_type.the_row
for_send = recorded_send (for_type.the_field).row _ _ (for_type.the_type).to_one for_field_send

range_field_send : IsSend (range_type.the_field).row
range_field_send = search (for_field_send, for_send, if_field_send, if_send, else_field_send, else_send, block_field_send, block_send, else_inside_send, stmt_inside_send, block_inside_send, if_inside_send, for_inside_send, range_inside_send, clause_inside_send, simple_field_send, simple_send, decl_field_send, decl_send, type_spec_field_send, type_spec_send, var_spec_field_send, var_spec_send, const_spec_field_send, const_spec_send, expr_field_send, expr_send, type_expr_field_send, type_expr_send, names.the_send, places.the_field_send, places.the_send, unary.the_send, binary.the_send, crosses, maps.crosses, sendable) depth 30

range_send : IsSend range_type.the_row
range_send = recorded_send (range_type.the_field).row _ _ (range_type.the_type).to_one range_field_send

clause_field_send : IsSend (clause_type.the_field).row
clause_field_send = search (range_field_send, range_send, for_field_send, for_send, if_field_send, if_send, else_field_send, else_send, block_field_send, block_send, else_inside_send, stmt_inside_send, block_inside_send, if_inside_send, for_inside_send, range_inside_send, clause_inside_send, simple_field_send, simple_send, decl_field_send, decl_send, type_spec_field_send, type_spec_send, var_spec_field_send, var_spec_send, const_spec_field_send, const_spec_send, expr_field_send, expr_send, type_expr_field_send, type_expr_send, names.the_send, places.the_field_send, places.the_send, unary.the_send, binary.the_send, crosses, maps.crosses, sendable) depth 30

clause_send : IsSend clause_type.the_row
clause_send = recorded_send (clause_type.the_field).row _ _ (clause_type.the_type).to_one clause_field_send

stmt_field_send : IsSend (stmt_type.the_field).row
stmt_field_send = search (block_field_send, if_field_send, for_field_send, range_field_send, clause_inside_send, simple_field_send, simple_send, decl_field_send, decl_send, expr_field_send, expr_send, places.the_field_send, places.the_send, crosses, maps.crosses, sendable) depth 60 fits 30000

stmt_send : IsSend stmt_type.the_row
stmt_send = recorded_send (stmt_type.the_field).row _ _ (stmt_type.the_type).to_one stmt_field_send

parameter_field_send : IsSend (parameter_type.the_field).row
parameter_field_send = search (block_field_send, block_send, imports.the_send, simple_field_send, simple_send, decl_field_send, decl_send, type_spec_field_send, type_spec_send, var_spec_field_send, var_spec_send, const_spec_field_send, const_spec_send, expr_field_send, expr_send, type_expr_field_send, type_expr_send, names.the_send, places.the_field_send, places.the_send, unary.the_send, binary.the_send, crosses, maps.crosses, sendable) depth 30

parameter_send : IsSend parameter_type.the_row
parameter_send = recorded_send (parameter_type.the_field).row _ _ (parameter_type.the_type).to_one parameter_field_send

function_field_send : IsSend (function_type.the_field).row
function_field_send = search (parameter_field_send, parameter_send, block_field_send, block_send, imports.the_send, simple_field_send, simple_send, decl_field_send, decl_send, type_spec_field_send, type_spec_send, var_spec_field_send, var_spec_send, const_spec_field_send, const_spec_send, expr_field_send, expr_send, type_expr_field_send, type_expr_send, names.the_send, places.the_field_send, places.the_send, unary.the_send, binary.the_send, crosses, maps.crosses, sendable) depth 30

function_send : IsSend function_type.the_row
function_send = recorded_send (function_type.the_field).row _ _ (function_type.the_type).to_one function_field_send

top_level_field_send : IsSend (top_level_type.the_field).row
top_level_field_send = search (function_field_send, function_send, parameter_field_send, parameter_send, block_field_send, block_send, imports.the_send, simple_field_send, simple_send, decl_field_send, decl_send, type_spec_field_send, type_spec_send, var_spec_field_send, var_spec_send, const_spec_field_send, const_spec_send, expr_field_send, expr_send, type_expr_field_send, type_expr_send, names.the_send, places.the_field_send, places.the_send, unary.the_send, binary.the_send, crosses, maps.crosses, sendable) depth 30

top_level_send : IsSend top_level_type.the_row
top_level_send = recorded_send (top_level_type.the_field).row _ _ (top_level_type.the_type).to_one top_level_field_send

file_field_send : IsSend (file_type.the_field).row
file_field_send = search (top_level_field_send, top_level_send, function_field_send, function_send, parameter_field_send, parameter_send, block_field_send, block_send, imports.the_send, simple_field_send, simple_send, decl_field_send, decl_send, type_spec_field_send, type_spec_send, var_spec_field_send, var_spec_send, const_spec_field_send, const_spec_send, expr_field_send, expr_send, type_expr_field_send, type_expr_send, names.the_send, places.the_field_send, places.the_send, unary.the_send, binary.the_send, crosses, maps.crosses, sendable) depth 30

file_send : IsSend file_type.the_row
file_send = recorded_send (file_type.the_field).row _ _ (file_type.the_type).to_one file_field_send

-- ---- being read by several

-- each layer, where those inside may
bound_layer_sync : (A0 : RattleType) → IsSync A0 → IsSync (knot.layer-Bound A0)
bound_layer_sync A0 a0 = search (names.the_sync, places.the_field_sync, places.the_sync, unary.the_sync, binary.the_sync, crosses, maps.crosses, sendable) depth 30

element_value_layer_sync : (A0 A1 : RattleType) → IsSync A0 → IsSync A1 → IsSync (knot.layer-ElementValue A0 A1)
element_value_layer_sync A0 A1 a0 a1 = search (names.the_sync, places.the_field_sync, places.the_sync, unary.the_sync, binary.the_sync, crosses, maps.crosses, sendable) depth 30

expr_kind_layer_sync : (A0 A1 A2 A3 A4 A5 A6 A7 A8 A9 A10 A11 A12 A13 A14 A15 A16 : RattleType) → IsSync A0 → IsSync A1 → IsSync A2 → IsSync A3 → IsSync A4 → IsSync A5 → IsSync A6 → IsSync A7 → IsSync A8 → IsSync A9 → IsSync A10 → IsSync A11 → IsSync A12 → IsSync A13 → IsSync A14 → IsSync A15 → IsSync A16 → IsSync (knot.layer-ExprKind A0 A1 A2 A3 A4 A5 A6 A7 A8 A9 A10 A11 A12 A13 A14 A15 A16)
expr_kind_layer_sync A0 A1 A2 A3 A4 A5 A6 A7 A8 A9 A10 A11 A12 A13 A14 A15 A16 a0 a1 a2 a3 a4 a5 a6 a7 a8 a9 a10 a11 a12 a13 a14 a15 a16 = search (names.the_sync, places.the_field_sync, places.the_sync, unary.the_sync, binary.the_sync, crosses, maps.crosses, sendable) depth 30

type_kind_layer_sync : (A0 A1 A2 A3 : RattleType) → IsSync A0 → IsSync A1 → IsSync A2 → IsSync A3 → IsSync (knot.layer-TypeKind A0 A1 A2 A3)
type_kind_layer_sync A0 A1 A2 A3 a0 a1 a2 a3 = search (names.the_sync, places.the_field_sync, places.the_sync, unary.the_sync, binary.the_sync, crosses, maps.crosses, sendable) depth 30

element_layer_sync : (A0 : RattleType) → IsSync A0 → IsSync (knot.layer-Element A0)
element_layer_sync A0 a0 = search (names.the_sync, keys.the_sync, places.the_field_sync, places.the_sync, unary.the_sync, binary.the_sync, crosses, maps.crosses, sendable) depth 30

expr_layer_sync : (A0 : RattleType) → IsSync A0 → IsSync (knot.layer-Expr A0)
expr_layer_sync A0 a0 = search (names.the_sync, places.the_field_sync, places.the_sync, unary.the_sync, binary.the_sync, crosses, maps.crosses, sendable) depth 30

field_layer_sync : (A0 : RattleType) → IsSync A0 → IsSync (knot.layer-Field A0)
field_layer_sync A0 a0 = search (names.the_sync, places.the_field_sync, places.the_sync, unary.the_sync, binary.the_sync, crosses, maps.crosses, sendable) depth 30

type_expr_layer_sync : (A0 : RattleType) → IsSync A0 → IsSync (knot.layer-TypeExpr A0)
type_expr_layer_sync A0 a0 = search (names.the_sync, places.the_field_sync, places.the_sync, unary.the_sync, binary.the_sync, crosses, maps.crosses, sendable) depth 30

knot_layer_sync : (i : knot.the_members) → Syncs knot.ring i
knot_layer_sync parts.member-Bound = record { sync = λ h inside. bound_layer_sync (h knot.member-Expr) (inside knot.member-Expr) }
knot_layer_sync parts.member-ElementValue = record { sync = λ h inside. element_value_layer_sync (h knot.member-Expr) (h knot.member-Element) (inside knot.member-Expr) (inside knot.member-Element) }
knot_layer_sync parts.member-ExprKind = record { sync = λ h inside. expr_kind_layer_sync (h knot.member-Expr) (h knot.member-TypeExpr) (h knot.member-Element) (h knot.member-TypeExpr) (h knot.member-Expr) (h knot.member-Expr) (h knot.member-Expr) (h knot.member-Expr) (h knot.member-Expr) (h knot.member-Bound) (h knot.member-Bound) (h knot.member-TypeExpr) (h knot.member-Expr) (h knot.member-Expr) (h knot.member-Expr) (h knot.member-Expr) (h knot.member-Expr) (inside knot.member-Expr) (inside knot.member-TypeExpr) (inside knot.member-Element) (inside knot.member-TypeExpr) (inside knot.member-Expr) (inside knot.member-Expr) (inside knot.member-Expr) (inside knot.member-Expr) (inside knot.member-Expr) (inside knot.member-Bound) (inside knot.member-Bound) (inside knot.member-TypeExpr) (inside knot.member-Expr) (inside knot.member-Expr) (inside knot.member-Expr) (inside knot.member-Expr) (inside knot.member-Expr) }
knot_layer_sync parts.member-TypeKind = record { sync = λ h inside. type_kind_layer_sync (h knot.member-Expr) (h knot.member-TypeExpr) (h knot.member-TypeExpr) (h knot.member-Field) (inside knot.member-Expr) (inside knot.member-TypeExpr) (inside knot.member-TypeExpr) (inside knot.member-Field) }
knot_layer_sync parts.member-Element = record { sync = λ h inside. element_layer_sync (h knot.member-ElementValue) (inside knot.member-ElementValue) }
knot_layer_sync parts.member-Expr = record { sync = λ h inside. expr_layer_sync (h knot.member-ExprKind) (inside knot.member-ExprKind) }
knot_layer_sync parts.member-Field = record { sync = λ h inside. field_layer_sync (h knot.member-TypeExpr) (inside knot.member-TypeExpr) }
knot_layer_sync parts.member-TypeExpr = record { sync = λ h inside. type_expr_layer_sync (h knot.member-TypeKind) (inside knot.member-TypeKind) }

bound_inside_sync : IsSync knot.hole-Bound
bound_inside_sync = fix_sync knot.ring knot_layer_sync knot.member-Bound

element_value_inside_sync : IsSync knot.hole-ElementValue
element_value_inside_sync = fix_sync knot.ring knot_layer_sync knot.member-ElementValue

expr_kind_inside_sync : IsSync knot.hole-ExprKind
expr_kind_inside_sync = fix_sync knot.ring knot_layer_sync knot.member-ExprKind

type_kind_inside_sync : IsSync knot.hole-TypeKind
type_kind_inside_sync = fix_sync knot.ring knot_layer_sync knot.member-TypeKind

element_inside_sync : IsSync knot.hole-Element
element_inside_sync = fix_sync knot.ring knot_layer_sync knot.member-Element

expr_inside_sync : IsSync knot.hole-Expr
expr_inside_sync = fix_sync knot.ring knot_layer_sync knot.member-Expr

field_inside_sync : IsSync knot.hole-Field
field_inside_sync = fix_sync knot.ring knot_layer_sync knot.member-Field

type_expr_inside_sync : IsSync knot.hole-TypeExpr
type_expr_inside_sync = fix_sync knot.ring knot_layer_sync knot.member-TypeExpr

bound_field_sync : IsSync (bound_type.the_field).row
bound_field_sync = search (expr_inside_sync, crosses, maps.crosses, sendable) depth 30

bound_sync : IsSync bound_type.the_row
bound_sync = recorded_sync (bound_type.the_field).row _ _ (bound_type.the_type).to_one bound_field_sync

expr_kind_field_sync : IsSync (expr_kind_type.the_field).row
expr_kind_field_sync = enum_sync (shape expr_kind_type.the_type) (search (bound_field_sync, expr_inside_sync, type_expr_inside_sync, element_inside_sync, names.the_sync, places.the_field_sync, unary.the_sync, binary.the_sync, crosses, maps.crosses, sendable) depth 30, (search (bound_field_sync, expr_inside_sync, type_expr_inside_sync, element_inside_sync, names.the_sync, places.the_field_sync, unary.the_sync, binary.the_sync, crosses, maps.crosses, sendable) depth 30, (search (bound_field_sync, expr_inside_sync, type_expr_inside_sync, element_inside_sync, names.the_sync, places.the_field_sync, unary.the_sync, binary.the_sync, crosses, maps.crosses, sendable) depth 30, (search (bound_field_sync, expr_inside_sync, type_expr_inside_sync, element_inside_sync, names.the_sync, places.the_field_sync, unary.the_sync, binary.the_sync, crosses, maps.crosses, sendable) depth 30, (search (bound_field_sync, expr_inside_sync, type_expr_inside_sync, element_inside_sync, names.the_sync, places.the_field_sync, unary.the_sync, binary.the_sync, crosses, maps.crosses, sendable) depth 30, (search (bound_field_sync, expr_inside_sync, type_expr_inside_sync, element_inside_sync, names.the_sync, places.the_field_sync, unary.the_sync, binary.the_sync, crosses, maps.crosses, sendable) depth 30, (search (bound_field_sync, expr_inside_sync, type_expr_inside_sync, element_inside_sync, names.the_sync, places.the_field_sync, unary.the_sync, binary.the_sync, crosses, maps.crosses, sendable) depth 30, (search (bound_field_sync, expr_inside_sync, type_expr_inside_sync, element_inside_sync, names.the_sync, places.the_field_sync, unary.the_sync, binary.the_sync, crosses, maps.crosses, sendable) depth 30, (search (bound_field_sync, expr_inside_sync, type_expr_inside_sync, element_inside_sync, names.the_sync, places.the_field_sync, unary.the_sync, binary.the_sync, crosses, maps.crosses, sendable) depth 30, (search (bound_field_sync, expr_inside_sync, type_expr_inside_sync, element_inside_sync, names.the_sync, places.the_field_sync, unary.the_sync, binary.the_sync, crosses, maps.crosses, sendable) depth 30, (search (bound_field_sync, expr_inside_sync, type_expr_inside_sync, element_inside_sync, names.the_sync, places.the_field_sync, unary.the_sync, binary.the_sync, crosses, maps.crosses, sendable) depth 30, (search (bound_field_sync, expr_inside_sync, type_expr_inside_sync, element_inside_sync, names.the_sync, places.the_field_sync, unary.the_sync, binary.the_sync, crosses, maps.crosses, sendable) depth 30, (search (bound_field_sync, expr_inside_sync, type_expr_inside_sync, element_inside_sync, names.the_sync, places.the_field_sync, unary.the_sync, binary.the_sync, crosses, maps.crosses, sendable) depth 30, (search (bound_field_sync, expr_inside_sync, type_expr_inside_sync, element_inside_sync, names.the_sync, places.the_field_sync, unary.the_sync, binary.the_sync, crosses, maps.crosses, sendable) depth 30, tt))))))))))))))

expr_kind_sync : IsSync expr_kind_type.the_row
expr_kind_sync = recorded_sync (expr_kind_type.the_field).row _ _ (expr_kind_type.the_type).to_one expr_kind_field_sync

type_kind_field_sync : IsSync (type_kind_type.the_field).row
type_kind_field_sync = search (expr_kind_field_sync, expr_kind_sync, bound_inside_sync, element_value_inside_sync, expr_kind_inside_sync, type_kind_inside_sync, element_inside_sync, expr_inside_sync, field_inside_sync, type_expr_inside_sync, names.the_sync, places.the_field_sync, places.the_sync, unary.the_sync, binary.the_sync, crosses, maps.crosses, sendable) depth 30

type_kind_sync : IsSync type_kind_type.the_row
type_kind_sync = recorded_sync (type_kind_type.the_field).row _ _ (type_kind_type.the_type).to_one type_kind_field_sync

expr_field_sync : IsSync (expr_type.the_field).row
expr_field_sync = search (type_kind_field_sync, type_kind_sync, expr_kind_field_sync, expr_kind_sync, bound_inside_sync, element_value_inside_sync, expr_kind_inside_sync, type_kind_inside_sync, element_inside_sync, expr_inside_sync, field_inside_sync, type_expr_inside_sync, names.the_sync, places.the_field_sync, places.the_sync, unary.the_sync, binary.the_sync, crosses, maps.crosses, sendable) depth 30

expr_sync : IsSync expr_type.the_row
expr_sync = recorded_sync (expr_type.the_field).row _ _ (expr_type.the_type).to_one expr_field_sync

type_expr_field_sync : IsSync (type_expr_type.the_field).row
type_expr_field_sync = search (expr_field_sync, expr_sync, type_kind_field_sync, type_kind_sync, expr_kind_field_sync, expr_kind_sync, bound_inside_sync, element_value_inside_sync, expr_kind_inside_sync, type_kind_inside_sync, element_inside_sync, expr_inside_sync, field_inside_sync, type_expr_inside_sync, names.the_sync, places.the_field_sync, places.the_sync, unary.the_sync, binary.the_sync, crosses, maps.crosses, sendable) depth 30

type_expr_sync : IsSync type_expr_type.the_row
type_expr_sync = recorded_sync (type_expr_type.the_field).row _ _ (type_expr_type.the_type).to_one type_expr_field_sync

element_value_field_sync : IsSync (element_value_type.the_field).row
element_value_field_sync = search (expr_field_sync, element_inside_sync, places.the_field_sync, places.the_sync, crosses, maps.crosses, sendable) depth 60 fits 30000

element_value_sync : IsSync element_value_type.the_row
element_value_sync = recorded_sync (element_value_type.the_field).row _ _ (element_value_type.the_type).to_one element_value_field_sync

element_field_sync : IsSync (element_type.the_field).row
element_field_sync = search (element_value_field_sync, element_value_sync, type_expr_field_sync, type_expr_sync, expr_field_sync, expr_sync, type_kind_field_sync, type_kind_sync, expr_kind_field_sync, expr_kind_sync, bound_inside_sync, element_value_inside_sync, expr_kind_inside_sync, type_kind_inside_sync, element_inside_sync, expr_inside_sync, field_inside_sync, type_expr_inside_sync, names.the_sync, keys.the_sync, places.the_field_sync, places.the_sync, unary.the_sync, binary.the_sync, crosses, maps.crosses, sendable) depth 30

element_sync : IsSync element_type.the_row
element_sync = recorded_sync (element_type.the_field).row _ _ (element_type.the_type).to_one element_field_sync

field_field_sync : IsSync (field_type.the_field).row
field_field_sync = search (element_field_sync, element_sync, element_value_field_sync, element_value_sync, type_expr_field_sync, type_expr_sync, expr_field_sync, expr_sync, type_kind_field_sync, type_kind_sync, expr_kind_field_sync, expr_kind_sync, bound_inside_sync, element_value_inside_sync, expr_kind_inside_sync, type_kind_inside_sync, element_inside_sync, expr_inside_sync, field_inside_sync, type_expr_inside_sync, names.the_sync, places.the_field_sync, places.the_sync, unary.the_sync, binary.the_sync, crosses, maps.crosses, sendable) depth 30

field_sync : IsSync field_type.the_row
field_sync = recorded_sync (field_type.the_field).row _ _ (field_type.the_type).to_one field_field_sync

const_spec_field_sync : IsSync (const_spec_type.the_field).row
const_spec_field_sync = search (expr_field_sync, expr_sync, type_expr_field_sync, type_expr_sync, names.the_sync, places.the_field_sync, places.the_sync, unary.the_sync, binary.the_sync, crosses, maps.crosses, sendable) depth 30

const_spec_sync : IsSync const_spec_type.the_row
const_spec_sync = recorded_sync (const_spec_type.the_field).row _ _ (const_spec_type.the_type).to_one const_spec_field_sync

var_spec_field_sync : IsSync (var_spec_type.the_field).row
var_spec_field_sync = search (const_spec_field_sync, const_spec_sync, expr_field_sync, expr_sync, type_expr_field_sync, type_expr_sync, names.the_sync, places.the_field_sync, places.the_sync, unary.the_sync, binary.the_sync, crosses, maps.crosses, sendable) depth 30

var_spec_sync : IsSync var_spec_type.the_row
var_spec_sync = recorded_sync (var_spec_type.the_field).row _ _ (var_spec_type.the_type).to_one var_spec_field_sync

type_spec_field_sync : IsSync (type_spec_type.the_field).row
type_spec_field_sync = search (var_spec_field_sync, var_spec_sync, const_spec_field_sync, const_spec_sync, expr_field_sync, expr_sync, type_expr_field_sync, type_expr_sync, names.the_sync, places.the_field_sync, places.the_sync, unary.the_sync, binary.the_sync, crosses, maps.crosses, sendable) depth 30

type_spec_sync : IsSync type_spec_type.the_row
type_spec_sync = recorded_sync (type_spec_type.the_field).row _ _ (type_spec_type.the_type).to_one type_spec_field_sync

decl_field_sync : IsSync (decl_type.the_field).row
decl_field_sync = search (type_spec_field_sync, type_spec_sync, var_spec_field_sync, var_spec_sync, const_spec_field_sync, const_spec_sync, expr_field_sync, expr_sync, type_expr_field_sync, type_expr_sync, names.the_sync, places.the_field_sync, places.the_sync, unary.the_sync, binary.the_sync, crosses, maps.crosses, sendable) depth 30

decl_sync : IsSync decl_type.the_row
decl_sync = recorded_sync (decl_type.the_field).row _ _ (decl_type.the_type).to_one decl_field_sync

simple_field_sync : IsSync (simple_type.the_field).row
simple_field_sync = search (decl_field_sync, decl_sync, type_spec_field_sync, type_spec_sync, var_spec_field_sync, var_spec_sync, const_spec_field_sync, const_spec_sync, expr_field_sync, expr_sync, type_expr_field_sync, type_expr_sync, names.the_sync, places.the_field_sync, places.the_sync, unary.the_sync, binary.the_sync, crosses, maps.crosses, sendable) depth 30

simple_sync : IsSync simple_type.the_row
simple_sync = recorded_sync (simple_type.the_field).row _ _ (simple_type.the_type).to_one simple_field_sync

-- each layer, where those inside may
else_layer_sync : (A0 A1 : RattleType) → IsSync A0 → IsSync A1 → IsSync (statements.layer-Else A0 A1)
else_layer_sync A0 A1 a0 a1 = search (simple_field_sync, simple_sync, decl_field_sync, decl_sync, type_spec_field_sync, type_spec_sync, var_spec_field_sync, var_spec_sync, const_spec_field_sync, const_spec_sync, expr_field_sync, expr_sync, type_expr_field_sync, type_expr_sync, names.the_sync, places.the_field_sync, places.the_sync, unary.the_sync, binary.the_sync, crosses, maps.crosses, sendable) depth 30

stmt_layer_sync : (A0 A1 A2 A3 A4 : RattleType) → IsSync A0 → IsSync A1 → IsSync A2 → IsSync A3 → IsSync A4 → IsSync (statements.layer-Stmt A0 A1 A2 A3 A4)
stmt_layer_sync A0 A1 A2 A3 A4 a0 a1 a2 a3 a4 = search (simple_field_sync, simple_sync, decl_field_sync, decl_sync, type_spec_field_sync, type_spec_sync, var_spec_field_sync, var_spec_sync, const_spec_field_sync, const_spec_sync, expr_field_sync, expr_sync, type_expr_field_sync, type_expr_sync, names.the_sync, places.the_field_sync, places.the_sync, unary.the_sync, binary.the_sync, crosses, maps.crosses, sendable) depth 30

block_layer_sync : (A0 : RattleType) → IsSync A0 → IsSync (statements.layer-Block A0)
block_layer_sync A0 a0 = search (simple_field_sync, simple_sync, decl_field_sync, decl_sync, type_spec_field_sync, type_spec_sync, var_spec_field_sync, var_spec_sync, const_spec_field_sync, const_spec_sync, expr_field_sync, expr_sync, type_expr_field_sync, type_expr_sync, names.the_sync, places.the_field_sync, places.the_sync, unary.the_sync, binary.the_sync, crosses, maps.crosses, sendable) depth 30

if_layer_sync : (A0 A1 : RattleType) → IsSync A0 → IsSync A1 → IsSync (statements.layer-If A0 A1)
if_layer_sync A0 A1 a0 a1 = search (simple_field_sync, simple_sync, decl_field_sync, decl_sync, type_spec_field_sync, type_spec_sync, var_spec_field_sync, var_spec_sync, const_spec_field_sync, const_spec_sync, expr_field_sync, expr_sync, type_expr_field_sync, type_expr_sync, names.the_sync, places.the_field_sync, places.the_sync, unary.the_sync, binary.the_sync, crosses, maps.crosses, sendable) depth 30

for_layer_sync : (A0 : RattleType) → IsSync A0 → IsSync (statements.layer-For A0)
for_layer_sync A0 a0 = search (simple_field_sync, simple_sync, decl_field_sync, decl_sync, type_spec_field_sync, type_spec_sync, var_spec_field_sync, var_spec_sync, const_spec_field_sync, const_spec_sync, expr_field_sync, expr_sync, type_expr_field_sync, type_expr_sync, names.the_sync, places.the_field_sync, places.the_sync, unary.the_sync, binary.the_sync, crosses, maps.crosses, sendable) depth 30

range_layer_sync : (A0 : RattleType) → IsSync A0 → IsSync (statements.layer-Range A0)
range_layer_sync A0 a0 = search (simple_field_sync, simple_sync, decl_field_sync, decl_sync, type_spec_field_sync, type_spec_sync, var_spec_field_sync, var_spec_sync, const_spec_field_sync, const_spec_sync, expr_field_sync, expr_sync, type_expr_field_sync, type_expr_sync, names.the_sync, places.the_field_sync, places.the_sync, unary.the_sync, binary.the_sync, crosses, maps.crosses, sendable) depth 30

clause_layer_sync : (A0 : RattleType) → IsSync A0 → IsSync (statements.layer-Clause A0)
clause_layer_sync A0 a0 = search (simple_field_sync, simple_sync, decl_field_sync, decl_sync, type_spec_field_sync, type_spec_sync, var_spec_field_sync, var_spec_sync, const_spec_field_sync, const_spec_sync, expr_field_sync, expr_sync, type_expr_field_sync, type_expr_sync, names.the_sync, places.the_field_sync, places.the_sync, unary.the_sync, binary.the_sync, crosses, maps.crosses, sendable) depth 30

statements_layer_sync : (i : statements.the_members) → Syncs statements.ring i
statements_layer_sync statement_parts.member-Else = record { sync = λ h inside. else_layer_sync (h statements.member-Block) (h statements.member-If) (inside statements.member-Block) (inside statements.member-If) }
statements_layer_sync statement_parts.member-Stmt = record { sync = λ h inside. stmt_layer_sync (h statements.member-Block) (h statements.member-If) (h statements.member-For) (h statements.member-Range) (h statements.member-Clause) (inside statements.member-Block) (inside statements.member-If) (inside statements.member-For) (inside statements.member-Range) (inside statements.member-Clause) }
statements_layer_sync statement_parts.member-Block = record { sync = λ h inside. block_layer_sync (h statements.member-Stmt) (inside statements.member-Stmt) }
statements_layer_sync statement_parts.member-If = record { sync = λ h inside. if_layer_sync (h statements.member-Block) (h statements.member-Else) (inside statements.member-Block) (inside statements.member-Else) }
statements_layer_sync statement_parts.member-For = record { sync = λ h inside. for_layer_sync (h statements.member-Block) (inside statements.member-Block) }
statements_layer_sync statement_parts.member-Range = record { sync = λ h inside. range_layer_sync (h statements.member-Block) (inside statements.member-Block) }
statements_layer_sync statement_parts.member-Clause = record { sync = λ h inside. clause_layer_sync (h statements.member-Stmt) (inside statements.member-Stmt) }

else_inside_sync : IsSync statements.hole-Else
else_inside_sync = fix_sync statements.ring statements_layer_sync statements.member-Else

stmt_inside_sync : IsSync statements.hole-Stmt
stmt_inside_sync = fix_sync statements.ring statements_layer_sync statements.member-Stmt

block_inside_sync : IsSync statements.hole-Block
block_inside_sync = fix_sync statements.ring statements_layer_sync statements.member-Block

if_inside_sync : IsSync statements.hole-If
if_inside_sync = fix_sync statements.ring statements_layer_sync statements.member-If

for_inside_sync : IsSync statements.hole-For
for_inside_sync = fix_sync statements.ring statements_layer_sync statements.member-For

range_inside_sync : IsSync statements.hole-Range
range_inside_sync = fix_sync statements.ring statements_layer_sync statements.member-Range

clause_inside_sync : IsSync statements.hole-Clause
clause_inside_sync = fix_sync statements.ring statements_layer_sync statements.member-Clause

block_field_sync : IsSync (block_type.the_field).row
block_field_sync = search (else_inside_sync, stmt_inside_sync, block_inside_sync, if_inside_sync, for_inside_sync, range_inside_sync, clause_inside_sync, simple_field_sync, simple_sync, decl_field_sync, decl_sync, type_spec_field_sync, type_spec_sync, var_spec_field_sync, var_spec_sync, const_spec_field_sync, const_spec_sync, expr_field_sync, expr_sync, type_expr_field_sync, type_expr_sync, names.the_sync, places.the_field_sync, places.the_sync, unary.the_sync, binary.the_sync, crosses, maps.crosses, sendable) depth 30

block_sync : IsSync block_type.the_row
block_sync = recorded_sync (block_type.the_field).row _ _ (block_type.the_type).to_one block_field_sync

else_field_sync : IsSync (else_type.the_field).row
else_field_sync = search (block_field_sync, block_sync, else_inside_sync, stmt_inside_sync, block_inside_sync, if_inside_sync, for_inside_sync, range_inside_sync, clause_inside_sync, simple_field_sync, simple_sync, decl_field_sync, decl_sync, type_spec_field_sync, type_spec_sync, var_spec_field_sync, var_spec_sync, const_spec_field_sync, const_spec_sync, expr_field_sync, expr_sync, type_expr_field_sync, type_expr_sync, names.the_sync, places.the_field_sync, places.the_sync, unary.the_sync, binary.the_sync, crosses, maps.crosses, sendable) depth 30

else_sync : IsSync else_type.the_row
else_sync = recorded_sync (else_type.the_field).row _ _ (else_type.the_type).to_one else_field_sync

if_field_sync : IsSync (if_type.the_field).row
if_field_sync = search (else_field_sync, else_sync, block_field_sync, block_sync, else_inside_sync, stmt_inside_sync, block_inside_sync, if_inside_sync, for_inside_sync, range_inside_sync, clause_inside_sync, simple_field_sync, simple_sync, decl_field_sync, decl_sync, type_spec_field_sync, type_spec_sync, var_spec_field_sync, var_spec_sync, const_spec_field_sync, const_spec_sync, expr_field_sync, expr_sync, type_expr_field_sync, type_expr_sync, names.the_sync, places.the_field_sync, places.the_sync, unary.the_sync, binary.the_sync, crosses, maps.crosses, sendable) depth 30

if_sync : IsSync if_type.the_row
if_sync = recorded_sync (if_type.the_field).row _ _ (if_type.the_type).to_one if_field_sync

for_field_sync : IsSync (for_type.the_field).row
for_field_sync = search (if_field_sync, if_sync, else_field_sync, else_sync, block_field_sync, block_sync, else_inside_sync, stmt_inside_sync, block_inside_sync, if_inside_sync, for_inside_sync, range_inside_sync, clause_inside_sync, simple_field_sync, simple_sync, decl_field_sync, decl_sync, type_spec_field_sync, type_spec_sync, var_spec_field_sync, var_spec_sync, const_spec_field_sync, const_spec_sync, expr_field_sync, expr_sync, type_expr_field_sync, type_expr_sync, names.the_sync, places.the_field_sync, places.the_sync, unary.the_sync, binary.the_sync, crosses, maps.crosses, sendable) depth 30

for_sync : IsSync for_type.the_row
for_sync = recorded_sync (for_type.the_field).row _ _ (for_type.the_type).to_one for_field_sync

range_field_sync : IsSync (range_type.the_field).row
range_field_sync = search (for_field_sync, for_sync, if_field_sync, if_sync, else_field_sync, else_sync, block_field_sync, block_sync, else_inside_sync, stmt_inside_sync, block_inside_sync, if_inside_sync, for_inside_sync, range_inside_sync, clause_inside_sync, simple_field_sync, simple_sync, decl_field_sync, decl_sync, type_spec_field_sync, type_spec_sync, var_spec_field_sync, var_spec_sync, const_spec_field_sync, const_spec_sync, expr_field_sync, expr_sync, type_expr_field_sync, type_expr_sync, names.the_sync, places.the_field_sync, places.the_sync, unary.the_sync, binary.the_sync, crosses, maps.crosses, sendable) depth 30

range_sync : IsSync range_type.the_row
range_sync = recorded_sync (range_type.the_field).row _ _ (range_type.the_type).to_one range_field_sync

clause_field_sync : IsSync (clause_type.the_field).row
clause_field_sync = search (range_field_sync, range_sync, for_field_sync, for_sync, if_field_sync, if_sync, else_field_sync, else_sync, block_field_sync, block_sync, else_inside_sync, stmt_inside_sync, block_inside_sync, if_inside_sync, for_inside_sync, range_inside_sync, clause_inside_sync, simple_field_sync, simple_sync, decl_field_sync, decl_sync, type_spec_field_sync, type_spec_sync, var_spec_field_sync, var_spec_sync, const_spec_field_sync, const_spec_sync, expr_field_sync, expr_sync, type_expr_field_sync, type_expr_sync, names.the_sync, places.the_field_sync, places.the_sync, unary.the_sync, binary.the_sync, crosses, maps.crosses, sendable) depth 30

clause_sync : IsSync clause_type.the_row
clause_sync = recorded_sync (clause_type.the_field).row _ _ (clause_type.the_type).to_one clause_field_sync

stmt_field_sync : IsSync (stmt_type.the_field).row
stmt_field_sync = search (block_field_sync, if_field_sync, for_field_sync, range_field_sync, clause_inside_sync, simple_field_sync, simple_sync, decl_field_sync, decl_sync, expr_field_sync, expr_sync, places.the_field_sync, places.the_sync, crosses, maps.crosses, sendable) depth 60 fits 30000

stmt_sync : IsSync stmt_type.the_row
stmt_sync = recorded_sync (stmt_type.the_field).row _ _ (stmt_type.the_type).to_one stmt_field_sync

parameter_field_sync : IsSync (parameter_type.the_field).row
parameter_field_sync = search (block_field_sync, block_sync, imports.the_sync, simple_field_sync, simple_sync, decl_field_sync, decl_sync, type_spec_field_sync, type_spec_sync, var_spec_field_sync, var_spec_sync, const_spec_field_sync, const_spec_sync, expr_field_sync, expr_sync, type_expr_field_sync, type_expr_sync, names.the_sync, places.the_field_sync, places.the_sync, unary.the_sync, binary.the_sync, crosses, maps.crosses, sendable) depth 30

parameter_sync : IsSync parameter_type.the_row
parameter_sync = recorded_sync (parameter_type.the_field).row _ _ (parameter_type.the_type).to_one parameter_field_sync

function_field_sync : IsSync (function_type.the_field).row
function_field_sync = search (parameter_field_sync, parameter_sync, block_field_sync, block_sync, imports.the_sync, simple_field_sync, simple_sync, decl_field_sync, decl_sync, type_spec_field_sync, type_spec_sync, var_spec_field_sync, var_spec_sync, const_spec_field_sync, const_spec_sync, expr_field_sync, expr_sync, type_expr_field_sync, type_expr_sync, names.the_sync, places.the_field_sync, places.the_sync, unary.the_sync, binary.the_sync, crosses, maps.crosses, sendable) depth 30

function_sync : IsSync function_type.the_row
function_sync = recorded_sync (function_type.the_field).row _ _ (function_type.the_type).to_one function_field_sync

top_level_field_sync : IsSync (top_level_type.the_field).row
top_level_field_sync = search (function_field_sync, function_sync, parameter_field_sync, parameter_sync, block_field_sync, block_sync, imports.the_sync, simple_field_sync, simple_sync, decl_field_sync, decl_sync, type_spec_field_sync, type_spec_sync, var_spec_field_sync, var_spec_sync, const_spec_field_sync, const_spec_sync, expr_field_sync, expr_sync, type_expr_field_sync, type_expr_sync, names.the_sync, places.the_field_sync, places.the_sync, unary.the_sync, binary.the_sync, crosses, maps.crosses, sendable) depth 30

top_level_sync : IsSync top_level_type.the_row
top_level_sync = recorded_sync (top_level_type.the_field).row _ _ (top_level_type.the_type).to_one top_level_field_sync

file_field_sync : IsSync (file_type.the_field).row
file_field_sync = search (top_level_field_sync, top_level_sync, function_field_sync, function_sync, parameter_field_sync, parameter_sync, block_field_sync, block_sync, imports.the_sync, simple_field_sync, simple_sync, decl_field_sync, decl_sync, type_spec_field_sync, type_spec_sync, var_spec_field_sync, var_spec_sync, const_spec_field_sync, const_spec_sync, expr_field_sync, expr_sync, type_expr_field_sync, type_expr_sync, names.the_sync, places.the_field_sync, places.the_sync, unary.the_sync, binary.the_sync, crosses, maps.crosses, sendable) depth 30

file_sync : IsSync file_type.the_row
file_sync = recorded_sync (file_type.the_field).row _ _ (file_type.the_type).to_one file_field_sync

pub parsed_send : IsSend parsed.the_row
parsed_send = search (file_send, file_sync, sources.the_send, sources.the_sync, crosses, maps.crosses, sendable) depth 30

pub parsed_sync : IsSync parsed.the_row
parsed_sync = search (file_send, file_sync, sources.the_send, sources.the_sync, crosses, maps.crosses, sendable) depth 30
