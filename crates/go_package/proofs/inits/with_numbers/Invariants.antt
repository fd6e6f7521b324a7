use Rattle.std.proofs.Common.{◌≡◌, ◌++◌, ◌+◌, ◌≤◌, suc, length, map}
use Rattle.go_typed.specs.Views.{as_function}
use Rattle.go_package.specs.Typed.{with_numbers}
use Rattle.go_package.proofs.inits.with_numbers.Given as goal

abbrev pub invariant-loop-function : goal.invariant-loop-function
invariant-loop-function l = record {
  few : l.count + length l.function-iterator.rest.items ≤ length l.fn.functions.items;
  same : map as_function l.found.items ++ with_numbers (suc l.count) (map as_function l.function-iterator.rest.items) ≡ with_numbers 1 (map as_function l.fn.functions.items);
}
