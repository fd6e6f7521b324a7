use Rattle.std.proofs.Common.{rules, ap, ap₂, ◌∙◌, ◌≡◌, Some}
use Rattle.clap.specs.Walk.{Rule, rule_of}
use Rattle.goset_cli.proofs.words.option.Goals as goal

pub returns : goal.returns
returns c =
    let given = c.value_parser.ensures.given in
    let parser_is : c.value_parser.result.value_parser ≡ Some c.args.values = given.1 ∙ ap Some given.2 in
    let long_is = ap rule_of c.long.ensures ∙ ap (λ (r : Rule). record r { long = Some c.args.name.now }) c.new.ensures.rule in
    let name_is = ap rule_of c.value_name.ensures ∙ ap (λ (r : Rule). record r { value_names = 1 }) long_is in
    record {
      rule = ap rule_of c.help.ensures ∙ (ap rule_of c.value_parser.ensures.others ∙ ap₂ (λ (r : Rule) p. record r { parser = p }) name_is parser_is);
      plain = search rules;
      local = search rules;
    }
