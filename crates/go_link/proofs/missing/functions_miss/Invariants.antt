use Rattle.std.proofs.Common.{◌≡◌, drop}
use Rattle.std.specs.List.{flat_map, list_any}
use Rattle.go_link.specs.Links.{is_missing_symbol}
use Rattle.go_link.proofs.missing.functions_miss.Given as goal

abbrev pub invariant-loop-function : goal.invariant-loop-function
invariant-loop-function l = list_any (is_missing_symbol l.names l.places) (flat_map (λ f. f.function.code) (drop l.function-index l.functions)) ≡ list_any (is_missing_symbol l.names l.places) (flat_map (λ f. f.function.code) l.functions)
