use Rattle.std.proofs.Common.{◌≡◌, ◌++◌, List, ℕ, Option, drop, map}
use Rattle.std.specs.Prelude.{option_map, string_bytes}
use Rattle.std.specs.List.{filter_map}
use Rattle.go_init.proofs.nodes.own_names.Given as goal

abbrev pub invariant-loop-variable : goal.invariant-loop-variable
invariant-loop-variable l =
    map (λ n. n.now) l.names.items ++ filter_map (λ (x : Option (List ℕ)). x) (map (option_map string_bytes) (drop l.variable-index l.variables))
    ≡ filter_map (λ (x : Option (List ℕ)). x) (map (option_map string_bytes) l.variables)
