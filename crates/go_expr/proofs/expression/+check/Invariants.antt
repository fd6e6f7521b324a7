use Rattle.std.proofs.Common.{◌≡◌, Option, Bor, drop, map}
use Rattle.std.specs.Option.{option_map}
use Rattle.go_ast.specs.Trees.{pack_fields}
use Rattle.go_ast.specs.Views.{exprs_in, field_of as field_tree}
use Rattle.go_types.specs.declared.types.GoType.{GoType}
use Rattle.go_types.specs.Types.{Type'}
use Rattle.go_types.specs.Views.{go_type}
use Rattle.go_typed.specs.Views.{as_expr}
use Rattle.go_expr.specs.Verdicts.{chained, operand_list, operands_faults, elements, elements_faults, fields_known, fields_faults}
use Rattle.go_expr.specs.Views.{all_of, keyed_part, elements_in, typed_field, scope_of}
use Rattle.go_expr.proofs.expression.+check.Given as goal

abbrev pub invariant-check_operands-loop-e : goal.invariant-check_operands-loop-e
invariant-check_operands-loop-e l = record {
  faults : operands_faults (scope_of l.scope) (exprs_in (drop l.e-index l.expressions)) ≡ operands_faults (scope_of l.scope) (exprs_in l.expressions);
  known : operand_list (scope_of l.scope) (exprs_in l.expressions) ≡ chained (option_map (all_of as_expr) l.all) (operand_list (scope_of l.scope) (exprs_in (drop l.e-index l.expressions)));
}

abbrev pub invariant-check_behind-loop-i : goal.invariant-check_behind-loop-i
invariant-check_behind-loop-i l = record {
  faults : operands_faults (scope_of l.scope) (exprs_in (drop l.i l.expressions)) ≡ operands_faults (scope_of l.scope) (exprs_in (drop 1 l.expressions));
  known : operand_list (scope_of l.scope) (exprs_in (drop 1 l.expressions)) ≡ chained (option_map (all_of as_expr) l.all) (operand_list (scope_of l.scope) (exprs_in (drop l.i l.expressions)));
}

abbrev pub invariant-check_fields-loop-field : goal.invariant-check_fields-loop-field
invariant-check_fields-loop-field l = record {
  faults : fields_faults (scope_of l.scope) (pack_fields (map field_tree (drop l.field-index l.fields))) ≡ fields_faults (scope_of l.scope) (pack_fields (map field_tree l.fields));
  known : fields_known (scope_of l.scope) (pack_fields (map field_tree l.fields)) ≡ chained (option_map (all_of typed_field) l.all) (fields_known (scope_of l.scope) (pack_fields (map field_tree (drop l.field-index l.fields))));
}

abbrev type_seen : Option (Bor GoType) → Option Type'
type_seen o = option_map (λ t. go_type t.now) o

abbrev pub invariant-check_elements-loop-number : goal.invariant-check_elements-loop-number
invariant-check_elements-loop-number l = record {
  faults : elements_faults (scope_of l.scope) (type_seen l.of) l.number (elements_in (drop l.number l.elements)) ≡ elements_faults (scope_of l.scope) (type_seen l.of) 0 (elements_in l.elements);
  known : elements (scope_of l.scope) (type_seen l.of) 0 (elements_in l.elements)
      ≡ chained (option_map (all_of keyed_part) l.all) (elements (scope_of l.scope) (type_seen l.of) l.number (elements_in (drop l.number l.elements)));
}
