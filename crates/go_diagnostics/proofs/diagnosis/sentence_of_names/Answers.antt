use Rattle.go_diagnostics.proofs.Suggestions.{is_unknown_sentence}
use Rattle.go_diagnostics.proofs.diagnosis.sentence_of_names.Goals as goal

pub returns-in-Some : goal.returns-in-Some
returns-in-Some c =
    is_unknown_sentence c.args.kind c.args.file.now c.args.files.now c.args.tokens.now c.args.from.now c.in_ok-suggestion-in-Undeclared.field-0 c.in-Some.suggestion
    c.in-Undeclared.is c.in-Some.is c.in_ok-suggestion-in-Undeclared.ensures
