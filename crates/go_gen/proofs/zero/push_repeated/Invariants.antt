use Rattle.std.proofs.Common.{◌≡◌, ◌++◌, replicate}
use Rattle.go_meaning.specs.Values.{Value, pack_values, flat, flat_all}
use Rattle.go_gen.proofs.zero.push_repeated.Given as goal

abbrev pub invariant-loop : goal.invariant-loop
invariant-loop l =
    (value : Value) → l.one ≡ flat value → l.found.items ≡ l.initial.found.items ++ flat_all (pack_values (replicate l.counter value))
