use Rattle.std.proofs.Common.{◌≡◌, ◌++◌, map, drop}
use Rattle.go_typed.specs.Views.{as_name}
use Rattle.go_export.specs.Exports.{only_exported, exported_type}
use Rattle.go_export.specs.Views.{all_exports}
use Rattle.go_export.proofs.collection.push_types.Given as goal

-- what was pushed so far and the exported ones of what is left make up the whole
abbrev pub invariant-loop-named : goal.invariant-loop-named
invariant-loop-named l =
    all_exports l.exports.items ++ only_exported (map exported_type (map as_name (drop l.named-index l.types)))
    ≡ all_exports l.fn.exports.items ++ only_exported (map exported_type (map as_name l.types))
