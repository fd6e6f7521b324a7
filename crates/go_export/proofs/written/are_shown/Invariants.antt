use Rattle.std.proofs.Common.{◌↔◌}
use Rattle.std.specs.List.{All}
use Rattle.std.specs.Map.{values_of}
use Rattle.go_export.specs.Views.{all_exports}
use Rattle.go_export.specs.Writable.{IsShown, HasSmall}
use Rattle.go_export.proofs.written.are_shown.Given as goal

-- all are, where what is left is, and nowhere else; and all are small, where what is left is
abbrev pub invariant-loop-export : goal.invariant-loop-export
invariant-loop-export l =
    (All IsShown (values_of (all_exports l.export-iterator)) ↔ All IsShown (values_of (all_exports l.exports.entries)))
    × (All HasSmall (values_of (all_exports l.export-iterator)) → All HasSmall (values_of (all_exports l.exports.entries)))
