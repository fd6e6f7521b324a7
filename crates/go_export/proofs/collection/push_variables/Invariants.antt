use Rattle.std.proofs.Common.{◌≡◌, ◌++◌, map, drop}
use Rattle.go_typed.specs.Views.{variable_of}
use Rattle.go_export.specs.Exports.{only_exported, named_variable}
use Rattle.go_export.specs.Views.{all_exports}
use Rattle.go_export.proofs.collection.push_variables.Given as goal

-- what was pushed so far and the exported ones of what is left make up the whole
abbrev pub invariant-loop-variable : goal.invariant-loop-variable
invariant-loop-variable l =
    all_exports l.exports.items ++ only_exported (map named_variable (map variable_of (drop l.variable-index l.variables)))
    ≡ all_exports l.fn.exports.items ++ only_exported (map named_variable (map variable_of l.variables))
