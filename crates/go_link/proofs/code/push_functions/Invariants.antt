use Rattle.std.proofs.Common.{◌≡◌, ◌++◌, map, take}
use Rattle.go_link.specs.Links.{linked_function}
use Rattle.go_link.proofs.code.push_functions.Given as goal

abbrev pub invariant-loop-function : goal.invariant-loop-function
invariant-loop-function l = l.linked.items ≡ l.fn.linked.items ++ map (linked_function l.names l.places) (take l.function-index l.functions)
