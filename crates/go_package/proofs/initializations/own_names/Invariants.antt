use Rattle.std.proofs.Common.{◌≡◌, ◌++◌, drop, map, string_bytes}
use Rattle.std.specs.Option.{option_map}
use Rattle.go_package.specs.Typed.{own_name}
use Rattle.go_package.proofs.initializations.own_names.Given as goal

abbrev pub invariant-loop-name : goal.invariant-loop-name
invariant-loop-name l = map (option_map string_bytes) l.found.items ++ map own_name (drop l.name-index l.names) ≡ map own_name l.names
