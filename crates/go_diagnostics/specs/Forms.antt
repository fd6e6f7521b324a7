-- What is said of a place by the tokens around it: `before` has those before it, the nearest first, and `from` that at the place and those behind it.
use Rattle.std.specs.Prelude.{List, [], ◌∷◌, Option, Some, None, if◌then◌else◌}
use Rattle.go_text.specs.declared.edition.Edition.{Edition}
use Rattle.go_text.specs.declared.edition.Edition.TheVariants.{One, Two}
use Rattle.go_text.specs.declared.fault.FaultKind.{FaultKind}
use Rattle.go_text.specs.declared.fault.FaultKind.TheVariants as faults
use Rattle.go_scan.specs.declared.token.Token.{Token}
use Rattle.go_diagnostics.specs.declared.message.Message.{Message}
use Rattle.go_diagnostics.specs.declared.table.Row.{Row}
use Rattle.go_diagnostics.specs.declared.table.TheConstants as tables
use Rattle.go_diagnostics.specs.Patterns.{conditions_hold}

-- the rows that say of which form a fault of a kind is, in both editions
abbrev pub rows_of_fault : FaultKind → List Row
rows_of_fault faults.LeftOut = tables.FORMS.now
rows_of_fault faults.Parse = tables.ORDERS.now
rows_of_fault faults.Mismatch = tables.OPERANDS.now
rows_of_fault _ = []

-- those of an edition alone
abbrev pub rows_of_edition : Edition → FaultKind → List Row
rows_of_edition One faults.LeftOut = tables.FIRST_FORMS.now
rows_of_edition Two faults.LeftOut = tables.SECOND_FORMS.now
rows_of_edition edition _ = []

-- the message of the first row that holds
abbrev pub first_row_message : List Row → List Token → List Token → Option Message
first_row_message [] before from = None
first_row_message (r ∷ rs) before from = if conditions_hold r.1 before from then Some r.0 else first_row_message rs before from
