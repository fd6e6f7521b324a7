use Rattle.std.proofs.Common.{◌≡◌, ◌++◌}
use Rattle.std.specs.List.{flat_map}
use Rattle.go_export.specs.Summaries.{named_text}
use Rattle.go_export.specs.Views.{all_exports}
use Rattle.go_export.proofs.text.push_exports.Given as goal

-- the text so far and that of what is left make up the whole
abbrev pub invariant-loop-name : goal.invariant-loop-name
invariant-loop-name l =
    l.text.items ++ flat_map named_text (all_exports l.name-iterator) ≡ l.fn.text.items ++ flat_map named_text (all_exports l.exports.entries)
