use Rattle.std.proofs.Common.{◌≡◌, ◌+◌, ◌≤◌, drop}
use Rattle.go_types.specs.Views.{fields_in}
use Rattle.go_types.specs.Sizes.{cells_of, nodes_of, kept}
use Rattle.go_types.proofs.sizes.struct_size.Given as goal

-- the sums and what is left make up the whole
abbrev pub invariant-loop-field : goal.invariant-loop-field
invariant-loop-field l = record {
  cells : kept (l.size.cells + cells_of (fields_in (drop l.field-index l.fields))) ≡ kept (cells_of (fields_in l.fields));
  nodes : kept (l.size.nodes + nodes_of (fields_in (drop l.field-index l.fields))) ≡ kept (1 + nodes_of (fields_in l.fields));
  cells_within : l.size.cells ≤ 65537;
  nodes_within : l.size.nodes ≤ 65537;
}
