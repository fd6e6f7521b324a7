use Rattle.std.proofs.Common.{◌≡◌, ◌++◌, drop, map}
use Rattle.std.specs.List.{filter}
use Rattle.go_diagnostics.specs.Unknown.{is_exported_name}
use Rattle.go_diagnostics.proofs.unknown.exported.Given as goal

abbrev pub invariant-loop-name : goal.invariant-loop-name
invariant-loop-name l =
    map (λ name. name.now) l.exported.items ++ filter is_exported_name (map (λ name. name.now) (drop l.name-index l.names))
    ≡ filter is_exported_name (map (λ name. name.now) l.names)
