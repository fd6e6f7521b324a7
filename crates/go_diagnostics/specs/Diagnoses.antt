-- What people are told of a fault.
use Rattle.std.specs.Prelude.{◌≡◌, ℕ, ◌+◌, ◌-◌, ◌⊎◌, nat_eq, nat_lt, List, [], ◌∷◌, ◌++◌, length, take, drop, reverse, slice_index, codes, string_bytes, Option, Some, None, if◌then◌else◌}
use Rattle.std.specs.Option.{option_map_or}
use Rattle.std.specs.Fmt.{decimal}
use Rattle.go_text.specs.declared.edition.Edition.{Edition}
use Rattle.go_text.specs.declared.fault.FaultKind.{FaultKind}
use Rattle.go_text.specs.declared.fault.FaultKind.TheVariants as faults
use Rattle.go_text.specs.declared.place.Place.{Place}
use Rattle.go_text.specs.Faults.{Fault}
use Rattle.go_scan.specs.Lex.{Lexes, Refuses}
use Rattle.go_scan.specs.declared.fault.ScanFault.{ScanFault}
use Rattle.go_scan.specs.declared.fault.ScanFault.TheVariants.{Malformed, LeftOut}
use Rattle.go_scan.specs.declared.token.Token.{Token}
use Rattle.go_diagnostics.specs.Excerpts.{line_at, excerpt}
use Rattle.go_diagnostics.specs.Literals.{declared}
use Rattle.go_diagnostics.specs.Messages.{kind_text, message_text}
use Rattle.go_diagnostics.specs.Names.{message_at}
use Rattle.go_diagnostics.specs.Packages.{file_named}
use Rattle.go_diagnostics.specs.Sentences.{unfit_text, unknown_text}
use Rattle.go_diagnostics.specs.Tokens.{token_bytes}
use Rattle.go_diagnostics.specs.Unknown.{Suggests}
use Rattle.go_diagnostics.specs.declared.literals.Literal.{Literal}
use Rattle.go_diagnostics.specs.declared.message.Message.{Message}
use Rattle.go_diagnostics.specs.declared.message.Message.TheVariants as messages
use Rattle.go_diagnostics.specs.declared.package.PackageFile.{PackageFile}

-- how many tokens stand before the one at a place, or how many there are
abbrev pub index_at : Place → List Token → ℕ
index_at place [] = 0
index_at place (t ∷ ts) =
    if nat_eq t.place.line place.line then (if nat_eq t.place.column place.column then 0 else 1 + index_at place ts) else 1 + index_at place ts

-- ---- the sentence

-- of a name that nothing declares: with the nearest known one, if one is near
abbrev pub IsUnknownSentence : PackageFile → List PackageFile → List Token → List Token → List ℕ → Type 0
IsUnknownSentence file files tokens from sentence =
    (found : Option (List ℕ × List ℕ)) × Suggests (string_bytes file.directory) files file.source.text tokens from found
    × (sentence ≡ option_map_or (λ pair. unknown_text pair.0 pair.1) found (kind_text faults.Undeclared))

-- of a value that can't be assigned: with the types of a literal and of its declaration, if these are there
abbrev pub assign_sentence : List ℕ → Option (Token × Literal) → List ℕ
assign_sentence text None = kind_text faults.Assign
assign_sentence text (Some (of, literal)) = unfit_text literal (token_bytes text of)

-- of a place for which there is no message: what names and literals tell, or the sentence of the fault's kind
abbrev pub IsSentenceOfNames : FaultKind → PackageFile → List PackageFile → List Token → List Token → List ℕ → Type 0
IsSentenceOfNames faults.Undeclared file files tokens from sentence = IsUnknownSentence file files tokens from sentence
IsSentenceOfNames faults.Assign file files tokens from sentence = sentence ≡ assign_sentence file.source.text (declared from)
IsSentenceOfNames kind file files tokens from sentence = sentence ≡ kind_text kind

abbrev pub IsSentenceOf : FaultKind → PackageFile → List PackageFile → List Token → List Token → Option Message → List ℕ → Type 0
IsSentenceOf kind file files tokens from None sentence = IsSentenceOfNames kind file files tokens from sentence
IsSentenceOf kind file files tokens from (Some message) sentence = sentence ≡ message_text message

-- of a fault in a file of these tokens
abbrev pub IsSentenceOfTokens : Edition → Fault → PackageFile → List PackageFile → List Token → List ℕ → Type 0
IsSentenceOfTokens edition fault file files tokens sentence =
    let at = index_at fault.place tokens in
    let message = message_at edition fault.kind file.source.text (reverse (take at tokens)) (drop at tokens) in
    IsSentenceOf fault.kind file files tokens (drop at tokens) message sentence

-- what is left out of a line at a byte: a build constraint, which begins with a slash, or a number
abbrev pub left_out_at : List ℕ → ℕ → Message
left_out_at line at =
    if nat_lt at (length line) then (if nat_eq (slice_index line at) 47 then messages.BuildConstraints else messages.Floats) else messages.Floats

-- what is said of a text that is refused at a place
abbrev pub refused_message : ScanFault → List ℕ → Place → Option Message
refused_message Malformed text place = None
refused_message LeftOut text place = Some (left_out_at (line_at text place.line) (place.column - 1))

-- of a text that is refused: that of its message, or of the fault's kind
abbrev pub refused_text : FaultKind → Option Message → List ℕ
refused_text kind None = kind_text kind
refused_text kind (Some message) = message_text message

-- of a fault in a file: by its tokens, or by the fault for which it has none
abbrev pub IsSentence : Edition → Fault → PackageFile → List PackageFile → List ℕ → Type 0
IsSentence edition fault file files sentence =
    ((tokens : List Token) × Lexes file.source.text tokens × IsSentenceOfTokens edition fault file files tokens sentence)
    ⊎ ((why : ScanFault) × (place : Place) × Refuses file.source.text why place
    × (sentence ≡ refused_text fault.kind (refused_message why file.source.text place)))

-- ---- the text

-- the line of a fault: its place and a sentence
abbrev pub fault_line : List ℕ → Place → List ℕ → List ℕ
fault_line path place sentence = path ++ codes ":" ++ decimal place.line ++ codes ":" ++ decimal place.column ++ codes ": " ++ sentence ++ codes "\n"

-- a fault's place with its sentence, and the line of its file with a caret
pub record IsDiagnosisIn (edition : Edition) (path : List ℕ) (fault : Fault) (files : List PackageFile) (file : PackageFile) (text : List ℕ) : Type 0 where
  pub sentence : List ℕ
  pub says : IsSentence edition fault file files sentence
  pub lines : text ≡ fault_line path fault.place sentence ++ excerpt file.source.text fault.place

-- the file of the fault is among the files, and the text is about it; or it isn't, and the text is one line with the sentence of the fault's kind
abbrev pub Diagnosed : Edition → List ℕ → List ℕ → Fault → List PackageFile → List ℕ → Type 0
Diagnosed edition path directory fault files text =
    ((file : PackageFile) × (file_named directory fault.file files ≡ Some file) × IsDiagnosisIn edition path fault files file text)
    ⊎ ((file_named directory fault.file files ≡ None) × (text ≡ fault_line path fault.place (kind_text fault.kind)))
