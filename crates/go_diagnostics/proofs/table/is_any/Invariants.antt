use Rattle.std.proofs.Common.{◌≡◌, drop}
use Rattle.std.specs.List.{list_any}
use Rattle.go_diagnostics.specs.Patterns.{conditions_hold}
use Rattle.go_diagnostics.proofs.table.is_any.Given as goal

abbrev pub invariant-loop-row : goal.invariant-loop-row
invariant-loop-row l = list_any (λ r. conditions_hold r l.before l.from) (drop l.row-index l.rows) ≡ list_any (λ r. conditions_hold r l.before l.from) l.rows
