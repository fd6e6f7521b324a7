use Rattle.std.proofs.Common.{rules, ap, ◌∙◌, ◌≡◌, Some, map, option_map}
use Rattle.ws_command.specs.Lines.{lines_of}
use Rattle.ws_module.specs.Modules.{module_word, spaced, unquoted}
use Rattle.ws_module.proofs.module.module_of.Goals as goal

pub returns-in-Some : goal.returns-in-Some
returns-in-Some c =
    let word_is : Some c.in-Some.word.now ≡ module_word (lines_of (map spaced c.args.text.now)) = search rules in
    let path_is : c.in_ok-from_slice-in-Some.field-0.items ≡ unquoted c.in-Some.word.now = search rules in
    ap Some path_is ∙ ap (option_map unquoted) word_is
