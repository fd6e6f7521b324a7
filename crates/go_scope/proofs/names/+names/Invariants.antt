use Rattle.std.proofs.Common.{◌≡◌, ◌++◌, drop, map}
use Rattle.go_ast.specs.Trees.{pack_elements, pack_fields}
use Rattle.go_ast.specs.Views.{exprs_in, field_of, element_of}
use Rattle.go_scope.specs.Names.{in_exprs, in_fields, in_elements, used}
use Rattle.go_scope.proofs.names.+names.Given as goal

abbrev pub invariant-add_all_names-loop-e : goal.invariant-add_all_names-loop-e
invariant-add_all_names-loop-e l = map used l.names.items ++ in_exprs (exprs_in (drop l.e-index l.expressions)) ≡ map used l.fn.names.items ++ in_exprs (exprs_in l.expressions)

abbrev pub invariant-add_field_names-loop-field : goal.invariant-add_field_names-loop-field
invariant-add_field_names-loop-field l = map used l.names.items ++ in_fields (pack_fields (map field_of (drop l.field-index l.fields))) ≡ map used l.fn.names.items ++ in_fields (pack_fields (map field_of l.fields))

abbrev pub invariant-add_element_names-loop-element : goal.invariant-add_element_names-loop-element
invariant-add_element_names-loop-element l = map used l.names.items ++ in_elements (pack_elements (map element_of (drop l.element-index l.elements))) ≡ map used l.fn.names.items ++ in_elements (pack_elements (map element_of l.elements))
