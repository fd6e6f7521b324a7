-- What is said of a place by the names and the tokens that stand there.
use Rattle.std.specs.Prelude.{ℕ, List, [], ◌∷◌, codes, bytes_eq, Option, Some, None, if◌then◌else◌}
use Rattle.go_text.specs.declared.edition.Edition.{Edition}
use Rattle.go_text.specs.declared.fault.FaultKind.{FaultKind}
use Rattle.go_text.specs.declared.fault.FaultKind.TheVariants as faults
use Rattle.go_scan.specs.declared.token.Token.{Token}
use Rattle.go_diagnostics.specs.declared.message.Message.{Message}
use Rattle.go_diagnostics.specs.declared.message.Message.TheVariants as messages
use Rattle.go_diagnostics.specs.Forms.{rows_of_fault, rows_of_edition, first_row_message}
use Rattle.go_diagnostics.specs.Literals.{literal_message}
use Rattle.go_diagnostics.specs.Tokens.{name_here}

-- names with what is said of them
abbrev pub NameMessages : Type 0
NameMessages = List (List ℕ × Message)

-- those of which something is said where a fault of a kind stands: names that Go declares and the subset or its first edition leaves out,
-- functions that take operands of some types alone, and fmt
abbrev pub messages_of : FaultKind → NameMessages
messages_of faults.LeftOut =
    (codes "_", messages.UnnamedFields) ∷ (codes "any", messages.Interfaces) ∷ (codes "append", messages.SliceFunctions) ∷
    (codes "cap", messages.SliceFunctions) ∷ (codes "clear", messages.Clear) ∷ (codes "close", messages.Channels) ∷
    (codes "comparable", messages.Interfaces) ∷ (codes "complex", messages.Floats) ∷ (codes "complex128", messages.Floats) ∷
    (codes "complex64", messages.Floats) ∷ (codes "copy", messages.Copy) ∷ (codes "delete", messages.Clear) ∷ (codes "error", messages.Errors) ∷
    (codes "float32", messages.Floats) ∷ (codes "float64", messages.Floats) ∷ (codes "imag", messages.Floats) ∷
    (codes "make", messages.SliceFunctions) ∷ (codes "max", messages.MinMax) ∷ (codes "min", messages.MinMax) ∷ (codes "new", messages.Pointers) ∷
    (codes "nil", messages.Nil) ∷ (codes "print", messages.Print) ∷ (codes "println", messages.Print) ∷ (codes "real", messages.Floats) ∷
    (codes "recover", messages.Recover) ∷ (codes "uintptr", messages.Uintptr) ∷ []
messages_of faults.Mismatch =
    (codes "append", messages.AppendOperand) ∷ (codes "cap", messages.CapOperand) ∷ (codes "fmt", messages.PrintlnOperand) ∷
    (codes "len", messages.LenOperand) ∷ (codes "make", messages.MakeOperand) ∷ []
messages_of faults.Undeclared = (codes "fmt", messages.FmtNames) ∷ []
messages_of _ = []

-- what is said of a name
abbrev pub message_named : NameMessages → List ℕ → Option Message
message_named [] name = None
message_named (n ∷ names) name = if bytes_eq n.0 name then Some n.1 else message_named names name

abbrev pub message_here : NameMessages → List ℕ → List Token → Option Message
message_here names text from = elim (name_here text from) [ None ↦ None | Some name ↦ message_named names name ]

-- the first, if there is one, else the second
abbrev pub first_message : Option Message → Option Message → Option Message
first_message None second = second
first_message (Some m) second = Some m

-- what is said of a place at which a fault of a kind stands
abbrev pub message_at : Edition → FaultKind → List ℕ → List Token → List Token → Option Message
message_at edition kind text before from =
    let formed = first_message (first_row_message (rows_of_edition edition kind) before from) (first_row_message (rows_of_fault kind) before from) in
    first_message (message_here (messages_of kind) text from) (first_message formed (literal_message kind from))
