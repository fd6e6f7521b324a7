use Rattle.std.proofs.Common.{rules, ap, ap₂, ◌∙◌, ◌≡◌, Some, codes}
use Rattle.clap.specs.Walk.{Rule, rule_of}
use Rattle.clap.specs.declared.builder.action.ArgAction.TheVariants.{SetTrue}
use Rattle.clap.specs.declared.builder.value_parser.ValueParser.TheVariants as parsers
use Rattle.goset_cli.proofs.words.plain_option.Goals as goal

pub returns : goal.returns
returns c =
    let given = c.value_parser.ensures.given in
    let parser_is : c.value_parser.result.value_parser ≡ Some parsers.Bool = given.1 ∙ ap Some given.2 in
    let long_is = ap rule_of c.long.ensures ∙ ap (λ (r : Rule). record r { long = Some (codes "plain") }) c.new.ensures.rule in
    let action_is = ap rule_of c.action.ensures ∙ ap (λ (r : Rule). record r { action = Some SetTrue }) long_is in
    record {
      rule = ap rule_of c.help.ensures ∙ (ap rule_of c.value_parser.ensures.others ∙ ap₂ (λ (r : Rule) p. record r { parser = p }) action_is parser_is);
      plain = search rules;
      local = search rules;
    }
