-- Source trees whose string literals are texts: bytes, no more than an int counts. The names of fields are words.
use Rattle.std.specs.Prelude.{◌≡◌, true, List, [], ◌∷◌}
use Rattle.go_scan.specs.Words.{IsWord}
use Rattle.go_ast.specs.Trees.{Name, TypeExpr, named, qualified, array, slice, struct, FieldDecls, no_fields, field, Expression, name, integer, rune, string, parenthesized, composite_lit, conversion, selector, index, cut, Bound, no_bound, bound, call, type_operand, unary, binary, ExpressionList, no_exprs, some_exprs, Elements, no_elements, element, Element, expression_element, value_element}
use Rattle.go_meaning_laws.specs.WellTyped.{is_text}

-- names are words
abbrev pub AreWords : List Name → Type 0
AreWords [] = Unit {0}
AreWords (n ∷ ns) = IsWord n.text × AreWords ns

abbrev mutual
  pub HasTexts : Expression → Type 0
  HasTexts (name p x) = Unit {0}
  HasTexts (integer p text) = Unit {0}
  HasTexts (rune p z) = Unit {0}
  HasTexts (string p bytes) = is_text bytes ≡ true
  HasTexts (parenthesized p e) = HasTexts e
  HasTexts (composite_lit p t q es) = TypeHasTexts t × ElementsHaveTexts es
  HasTexts (conversion p t e) = TypeHasTexts t × HasTexts e
  HasTexts (selector p e x) = HasTexts e
  HasTexts (index p e i) = HasTexts e × HasTexts i
  HasTexts (cut p e a b) = HasTexts e × BoundHasTexts a × BoundHasTexts b
  HasTexts (call p f es) = HasTexts f × HaveTexts es
  HasTexts (type_operand p t) = TypeHasTexts t
  HasTexts (unary p op e) = HasTexts e
  HasTexts (binary p op a b) = HasTexts a × HasTexts b

  pub BoundHasTexts : Bound → Type 0
  BoundHasTexts no_bound = Unit {0}
  BoundHasTexts (bound e) = HasTexts e

  pub HaveTexts : ExpressionList → Type 0
  HaveTexts no_exprs = Unit {0}
  HaveTexts (some_exprs e es) = HasTexts e × HaveTexts es

  pub ElementsHaveTexts : Elements → Type 0
  ElementsHaveTexts no_elements = Unit {0}
  ElementsHaveTexts (element key v es) = ElementHasTexts v × ElementsHaveTexts es

  pub ElementHasTexts : Element → Type 0
  ElementHasTexts (expression_element e) = HasTexts e
  ElementHasTexts (value_element p es) = ElementsHaveTexts es

  pub TypeHasTexts : TypeExpr → Type 0
  TypeHasTexts (named p x) = Unit {0}
  TypeHasTexts (qualified p m n) = Unit {0}
  TypeHasTexts (array p e t) = HasTexts e × TypeHasTexts t
  TypeHasTexts (slice p t) = TypeHasTexts t
  TypeHasTexts (struct p fs) = FieldsHaveTexts fs

  pub FieldsHaveTexts : FieldDecls → Type 0
  FieldsHaveTexts no_fields = Unit {0}
  FieldsHaveTexts (field names t fs) = TypeHasTexts t × FieldsHaveTexts fs × AreWords names
