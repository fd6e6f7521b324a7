use Rattle.std.proofs.Common.{◌≡◌, length}
use Rattle.go_export.specs.Exports.{sorted_by_name}
use Rattle.go_export.specs.Views.{all_exports}
use Rattle.go_export.proofs.Ordered.{over}
use Rattle.go_export.proofs.collection.ordered.Given as goal

-- what is left in order over what is there makes up the whole
abbrev pub invariant-loop-name : goal.invariant-loop-name
invariant-loop-name l = over (all_exports l.all.entries) (all_exports l.rest.items) ≡ sorted_by_name (all_exports l.fn.exports.items)

abbrev pub decreases-loop-name : goal.decreases-loop-name
decreases-loop-name l = length l.rest.items
