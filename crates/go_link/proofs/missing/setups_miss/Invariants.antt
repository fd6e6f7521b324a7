use Rattle.std.proofs.Common.{◌≡◌, drop}
use Rattle.std.specs.List.{flat_map, list_any}
use Rattle.go_link.specs.Links.{is_missing_symbol}
use Rattle.go_link.proofs.missing.setups_miss.Given as goal

abbrev pub invariant-loop-setup : goal.invariant-loop-setup
invariant-loop-setup l = list_any (is_missing_symbol l.names l.places) (flat_map (λ s. s.code) (drop l.setup-index l.setups)) ≡ list_any (is_missing_symbol l.names l.places) (flat_map (λ s. s.code) l.setups)
