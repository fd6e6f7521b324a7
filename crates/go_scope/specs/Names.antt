-- Which names types and expressions use. They bind none, so that each is looked up where the form stands.
use Rattle.std.specs.Prelude.{ℕ, Bool, true, false, List, [], ◌∷◌, ◌++◌}
use Rattle.go_ast.specs.Trees.{TypeExpr, named, qualified, array, slice, struct, FieldDecls, no_fields, field, Expression, name, integer, rune, string, parenthesized, composite_lit, conversion, selector, index, cut, Bound, no_bound, bound, call, type_operand, unary, binary, ExpressionList, no_exprs, some_exprs, Elements, no_elements, element, Element, expression_element, value_element}
use Rattle.go_scope.specs.declared.names.UsedName.{UsedName}

-- the text of a name that is used, and whether a dot follows it
abbrev pub Used : Type 0
Used = List ℕ × Bool

abbrev mutual
  pub in_type : TypeExpr → List Used
  in_type (named p n) = (n.text, false) ∷ []
  in_type (qualified p m n) = (m.text, true) ∷ []
  in_type (array p e t) = in_expr false e ++ in_type t
  in_type (slice p t) = in_type t
  in_type (struct p fields) = in_fields fields

  pub in_fields : FieldDecls → List Used
  in_fields no_fields = []
  in_fields (field names t fields) = in_type t ++ in_fields fields

  -- of an expression, which a dot may follow
  pub in_expr : Bool → Expression → List Used
  in_expr dotted (name p x) = (x, dotted) ∷ []
  in_expr dotted (integer p x) = []
  in_expr dotted (rune p x) = []
  in_expr dotted (string p x) = []
  in_expr dotted (parenthesized p e) = in_expr false e
  in_expr dotted (composite_lit p t q es) = in_type t ++ in_elements es
  in_expr dotted (conversion p t e) = in_type t ++ in_expr false e
  in_expr dotted (selector p e n) = in_expr true e
  in_expr dotted (index p e i) = in_expr false e ++ in_expr false i
  in_expr dotted (cut p e a b) = in_expr false e ++ in_bound a ++ in_bound b
  in_expr dotted (type_operand p t) = in_type t
  in_expr dotted (call p f es) = in_expr false f ++ in_exprs es
  in_expr dotted (unary p op e) = in_expr false e
  in_expr dotted (binary p op a b) = in_expr false a ++ in_expr false b

  pub in_bound : Bound → List Used
  in_bound no_bound = []
  in_bound (bound e) = in_expr false e

  pub in_exprs : ExpressionList → List Used
  in_exprs no_exprs = []
  in_exprs (some_exprs e es) = in_expr false e ++ in_exprs es

  -- keys of elements are fields, or constants that are left out
  pub in_elements : Elements → List Used
  in_elements no_elements = []
  in_elements (element key e es) = in_element e ++ in_elements es

  pub in_element : Element → List Used
  in_element (expression_element e) = in_expr false e
  in_element (value_element p es) = in_elements es

abbrev pub used : UsedName → Used
used n = (n.text.now, n.dotted)
