use Rattle.std.proofs.Common.{◌≡◌, ◌++◌}
use Rattle.std.specs.Cmp.Lexicographic.{slice_cmp}
use Rattle.std.specs.List.Sorted.{IsStrictlySortedBy}
use Rattle.std.specs.Map.{keys_of}
use Rattle.std.specs.Ordering.{nat_cmp}
use Rattle.go_expr.specs.Views.{names_of}
use Rattle.go_export.specs.Views.{all_exports}
use Rattle.go_check.specs.Names.{names_by, summary_names}
use Rattle.go_check.proofs.names.exported_names.Given as goal

-- the names so far and those that are left make up the whole, which is in order
abbrev pub invariant-loop-name : goal.invariant-loop-name
invariant-loop-name l = record {
  whole : names_of l.names ++ names_by l.summary.path (all_exports l.name-iterator) ≡ summary_names l.summary;
  ascends : IsStrictlySortedBy (slice_cmp nat_cmp) (keys_of (summary_names l.summary));
}
