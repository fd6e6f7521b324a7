use Rattle.std.proofs.Common.{◌≡◌, ◌+◌, ◌-◌, ◌*◌, ◌≤◌, List, [], map, Option}
use Rattle.go_ast.specs.Trees as trees
use Rattle.go_ast.specs.Machine.{Reader, suffixes, tails, list_start, fields, arguments, elements, run_parser}
use Rattle.go_ast.specs.Views.{expr_of, field_of, element_of}
use Rattle.go_pexpr.specs.Reads.{left, size}
use Rattle.go_pexpr.specs.Tall.{fields_tall, exprs_tall, elements_tall}
use Rattle.go_pexpr.proofs.OperatorTurns.{followed}
use Rattle.go_pexpr.proofs.parser.Parser.+tree.Given as goal

abbrev pub decreases-bracket_type : goal.decreases-bracket_type
decreases-bracket_type l = 16 * size l.self.now

abbrev pub decreases-binary : goal.decreases-binary
decreases-binary l = 16 * size l.self.now + 5 + l.limit

abbrev pub decreases-fields : goal.decreases-fields
decreases-fields l = 16 * size l.self.now + 1

abbrev pub decreases-operand : goal.decreases-operand
decreases-operand l = 16 * size l.self.now + 3

abbrev pub decreases-parenthesized : goal.decreases-parenthesized
decreases-parenthesized l = 16 * size l.self.now + 2

abbrev pub decreases-struct_type : goal.decreases-struct_type
decreases-struct_type l = 16 * size l.self.now

abbrev pub decreases-type_at : goal.decreases-type_at
decreases-type_at l = 16 * size l.self.now + 3

abbrev pub decreases-typed : goal.decreases-typed
decreases-typed l = 16 * size l.self.now + 3

abbrev pub decreases-converted : goal.decreases-converted
decreases-converted l = 16 * size l.self.now + 1

abbrev pub decreases-unary : goal.decreases-unary
decreases-unary l = 16 * size l.self.now + 4

abbrev pub decreases-operators : goal.decreases-operators
decreases-operators l = 16 * size l.self.now + 1

abbrev pub invariant-operators-operators : goal.invariant-operators-operators
invariant-operators-operators l = record {
  reads : (next : trees.Expression → Reader) →
      run_parser l.fn.self.edition 250 (tails l.limit l.header l.level next (expr_of l.fn.front.expr)) (left l.fn.self) ≡ run_parser l.self.edition 250 (followed l.tightest (l.limit - l.tightest) l.header l.level next (expr_of l.left.expr)) (left l.self);
  within : l.tightest ≤ l.limit;
  fits : l.level + l.left.height ≤ 251;
  shorter : size l.self ≤ size l.fn.self;
}

abbrev pub decreases-operators-operators : goal.decreases-operators-operators
decreases-operators-operators l = size l.self

abbrev pub invariant-fields-fields : goal.invariant-fields-fields
invariant-fields-fields l = record {
  reads : (next : List (List trees.Name × trees.TypeExpr) → Reader) → run_parser l.fn.self.edition 250 (list_start (fields l.level) [] (λ fs _. next fs)) (left l.fn.self) ≡ run_parser l.self.edition 250 (list_start (fields l.level) (map field_of l.items.items) (λ fs _. next fs)) (left l.self);
  counted : l.height ≡ fields_tall l.items.items;
  fits : l.level + l.height ≤ 251;
  shorter : size l.self ≤ size l.fn.self;
}

abbrev pub decreases-fields-fields : goal.decreases-fields-fields
decreases-fields-fields l = size l.self

abbrev pub decreases-suffixes : goal.decreases-suffixes
decreases-suffixes l = 16 * size l.self.now + 3

abbrev pub decreases-indexed : goal.decreases-indexed
decreases-indexed l = 16 * size l.self.now + 2

abbrev pub decreases-called : goal.decreases-called
decreases-called l = 16 * size l.self.now + 2

abbrev pub decreases-arguments : goal.decreases-arguments
decreases-arguments l = 16 * size l.self.now + 12

abbrev pub invariant-suffixes-suffixes : goal.invariant-suffixes-suffixes
invariant-suffixes-suffixes l = record {
  reads : (next : trees.Expression → Reader) → run_parser l.fn.self.edition 250 (suffixes l.header l.level (expr_of l.fn.operand.expr) next) (left l.fn.self) ≡ run_parser l.self.edition 250 (suffixes l.header l.level (expr_of l.front.expr) next) (left l.self);
  fits : l.level + l.front.height ≤ 251;
  shorter : size l.self ≤ size l.fn.self;
}

abbrev pub decreases-suffixes-suffixes : goal.decreases-suffixes-suffixes
decreases-suffixes-suffixes l = size l.self

abbrev pub invariant-arguments-arguments : goal.invariant-arguments-arguments
invariant-arguments-arguments l = record {
  reads : (next : List trees.Expression → Reader) → run_parser l.fn.self.edition 250 (list_start (arguments l.level) (map expr_of l.fn.front.items.items) (λ es _. next es)) (left l.fn.self) ≡ run_parser l.self.edition 250 (list_start (arguments l.level) (map expr_of l.items.items) (λ es _. next es)) (left l.self);
  counted : l.height ≡ exprs_tall l.items.items;
  fits : l.level + l.height ≤ 251;
  shorter : size l.self ≤ size l.fn.self;
}

abbrev pub decreases-arguments-arguments : goal.decreases-arguments-arguments
decreases-arguments-arguments l = size l.self

abbrev pub decreases-named_literal : goal.decreases-named_literal
decreases-named_literal l = 16 * size l.self.now + 2

abbrev pub decreases-elements : goal.decreases-elements
decreases-elements l = 16 * size l.self.now + 13

abbrev pub decreases-element : goal.decreases-element
decreases-element l = 16 * size l.self.now + 12

abbrev pub decreases-value : goal.decreases-value
decreases-value l = 16 * size l.self.now + 11

abbrev pub invariant-elements-elements : goal.invariant-elements-elements
invariant-elements-elements l = record {
  reads : (next : List (Option trees.Name × trees.Element) → Reader) → run_parser l.fn.self.edition 250 (list_start (elements l.level) [] (λ es _. next es)) (left l.fn.self) ≡ run_parser l.self.edition 250 (list_start (elements l.level) (map element_of l.items.items) (λ es _. next es)) (left l.self);
  counted : l.height ≡ elements_tall l.items.items;
  fits : (l.level ≤ 251) → l.level + l.height ≤ 251;
  shorter : size l.self ≤ size l.fn.self;
}

abbrev pub decreases-elements-elements : goal.decreases-elements-elements
decreases-elements-elements l = size l.self

abbrev pub decreases-field : goal.decreases-field
decreases-field l = 16 * size l.self.now

abbrev pub decreases-right : goal.decreases-right
decreases-right l = 16 * size l.self.now

abbrev pub decreases-enclosed : goal.decreases-enclosed
decreases-enclosed l = 16 * size l.self.now + 1

abbrev pub decreases-opened : goal.decreases-opened
decreases-opened l = 16 * size l.self.now

abbrev pub decreases-literal : goal.decreases-literal
decreases-literal l = 16 * size l.self.now + 1

abbrev pub decreases-braced : goal.decreases-braced
decreases-braced l = 16 * size l.self.now

abbrev pub decreases-passed : goal.decreases-passed
decreases-passed l = 16 * size l.self.now

abbrev pub decreases-keyed : goal.decreases-keyed
decreases-keyed l = 16 * size l.self.now

abbrev pub decreases-literal_or_conversion : goal.decreases-literal_or_conversion
decreases-literal_or_conversion l = 16 * size l.self.now + 2

abbrev pub decreases-in_brackets : goal.decreases-in_brackets
decreases-in_brackets l = 16 * size l.self.now

abbrev pub decreases-index_end : goal.decreases-index_end
decreases-index_end l = 16 * size l.self.now + 12

abbrev pub decreases-high : goal.decreases-high
decreases-high l = 16 * size l.self.now + 11

abbrev pub decreases-operands : goal.decreases-operands
decreases-operands l = 16 * size l.self.now + 14

abbrev pub decreases-first_operand : goal.decreases-first_operand
decreases-first_operand l = 16 * size l.self.now + 13

abbrev pub decreases-type_or_operand : goal.decreases-type_or_operand
decreases-type_or_operand l = 16 * size l.self.now + 12

abbrev pub decreases-operand_of_type : goal.decreases-operand_of_type
decreases-operand_of_type l = 16 * size l.self.now + 3

abbrev pub decreases-literal_operand : goal.decreases-literal_operand
decreases-literal_operand l = 16 * size l.self.now + 1

abbrev pub decreases-converted_operand : goal.decreases-converted_operand
decreases-converted_operand l = 16 * size l.self.now + 2

abbrev pub decreases-behind : goal.decreases-behind
decreases-behind l = 16 * size l.self.now + 4
