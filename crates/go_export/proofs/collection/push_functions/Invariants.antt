use Rattle.std.proofs.Common.{◌≡◌, ◌++◌, map, drop}
use Rattle.go_typed.specs.Views.{as_function}
use Rattle.go_export.specs.Exports.{only_exported, named_function}
use Rattle.go_export.specs.Views.{all_exports}
use Rattle.go_export.proofs.collection.push_functions.Given as goal

-- what was pushed so far and the exported ones of what is left make up the whole
abbrev pub invariant-loop-function : goal.invariant-loop-function
invariant-loop-function l =
    all_exports l.exports.items ++ only_exported (map named_function (map as_function (drop l.function-index l.functions)))
    ≡ all_exports l.fn.exports.items ++ only_exported (map named_function (map as_function l.functions))
