use Rattle.std.proofs.Common.{◌≡◌, ◌++◌, drop}
use Rattle.std.specs.List.{flat_map}
use Rattle.go_packed.specs.Spelling.{setup_tokens}
use Rattle.go_packed.proofs.sink.Sink.put_setups.Given as goal

abbrev pub invariant-loop-setup : goal.invariant-loop-setup
invariant-loop-setup l = l.self ++ flat_map setup_tokens (drop l.setup-index l.setups) ≡ l.initial.self ++ flat_map setup_tokens l.setups
