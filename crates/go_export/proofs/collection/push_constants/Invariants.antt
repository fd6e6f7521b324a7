use Rattle.std.proofs.Common.{◌≡◌, ◌++◌, map, drop}
use Rattle.go_typed.specs.Views.{constant_of}
use Rattle.go_export.specs.Exports.{only_exported, named_constant}
use Rattle.go_export.specs.Views.{all_exports}
use Rattle.go_export.proofs.collection.push_constants.Given as goal

-- what was pushed so far and the exported ones of what is left make up the whole
abbrev pub invariant-loop-constant : goal.invariant-loop-constant
invariant-loop-constant l =
    all_exports l.exports.items ++ only_exported (map named_constant (map constant_of (drop l.constant-index l.constants)))
    ≡ all_exports l.fn.exports.items ++ only_exported (map named_constant (map constant_of l.constants))
