-- How many levels of nodes the code's trees have.
use Rattle.std.specs.Prelude.{ℕ, List, map}
use Rattle.go_ast.specs.declared.expression.Expr.{Expr}
use Rattle.go_ast.specs.declared.expression.TypeExpr.{TypeExpr}
use Rattle.go_ast.specs.declared.expression.Element.{Element}
use Rattle.go_ast.specs.declared.expression.ElementValue.{ElementValue}
use Rattle.go_ast.specs.declared.expression.Bound.{Bound}
use Rattle.go_ast.specs.declared.expression.Field.{Field}
use Rattle.go_ast.specs.Trees.{pack_elements, pack_fields}
use Rattle.go_ast.specs.Heights.{height, type_height, bound_height, exprs_height, elements_height, element_height, fields_height}
use Rattle.go_ast.specs.Views.{expr_of, bound_of, exprs_in, type_of, value_of, element_of, field_of}

abbrev pub tall : Expr → ℕ
tall e = height (expr_of e)

abbrev pub type_tall : TypeExpr → ℕ
type_tall a = type_height (type_of a)

abbrev pub bound_tall : Bound → ℕ
bound_tall b = bound_height (bound_of b)

abbrev pub exprs_tall : List Expr → ℕ
exprs_tall es = exprs_height (exprs_in es)

abbrev pub value_tall : ElementValue → ℕ
value_tall v = element_height (value_of v)

abbrev pub element_tall : Element → ℕ
element_tall e = value_tall e.value

abbrev pub elements_tall : List Element → ℕ
elements_tall es = elements_height (pack_elements (map element_of es))

abbrev pub fields_tall : List Field → ℕ
fields_tall fs = fields_height (pack_fields (map field_of fs))
