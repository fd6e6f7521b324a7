use Rattle.std.proofs.Common.{rules, ap, ◌∙◌}
use Rattle.clap.specs.Walk.{Rule, rule_of}
use Rattle.goset_cli.proofs.words.expect_option.Goals as goal

pub returns : goal.returns
returns c = record {
  rule = ap rule_of c.value_name.ensures ∙ ap (λ (r : Rule). record r { value_names = 1 }) c.option.ensures.rule;
  plain = search rules;
  local = search rules;
}
