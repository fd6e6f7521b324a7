use Rattle.std.proofs.Common.{◌≡◌, drop}
use Rattle.go_diagnostics.specs.Forms.{first_row_message}
use Rattle.go_diagnostics.proofs.table.first_of.Given as goal

abbrev pub invariant-loop-row : goal.invariant-loop-row
invariant-loop-row l = first_row_message (drop l.row-index l.rows) l.before l.from ≡ first_row_message l.rows l.before l.from
