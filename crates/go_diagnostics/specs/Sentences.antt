-- The sentences that have names of the text in them.
use Rattle.std.specs.Prelude.{ℕ, List, ◌++◌}
use Rattle.go_diagnostics.specs.declared.literals.Literal.{Literal}
use Rattle.go_diagnostics.specs.declared.literals.Literal.TheVariants as literals
use Rattle.go_diagnostics.specs.declared.message.TheConstants as texts
use Rattle.go_diagnostics.specs.declared.sentence.Sentence.{Sentence}
use Rattle.go_diagnostics.specs.declared.sentence.Sentence.TheVariants as sentences

-- what is said of a name that nothing declares, with the nearest one that something does
abbrev pub unknown_text : List ℕ → List ℕ → List ℕ
unknown_text unknown nearest = texts.UNKNOWN.0.now ++ unknown ++ texts.UNKNOWN.1.now ++ nearest ++ texts.UNKNOWN.2.now

-- and of a literal that is no value of a type
abbrev pub unfit_text : Literal → List ℕ → List ℕ
unfit_text literals.Number of = texts.UNFIT_NUMBER.0.now ++ of ++ texts.UNFIT_NUMBER.1.now
unfit_text literals.String of = texts.UNFIT_STRING.0.now ++ of ++ texts.UNFIT_STRING.1.now

abbrev pub sentence_text : Sentence → List ℕ
sentence_text (sentences.Fixed text) = text.now
sentence_text (sentences.Unknown suggestion) = unknown_text suggestion.unknown.now suggestion.nearest.now
sentence_text (sentences.Unfit literal of) = unfit_text literal of.now
