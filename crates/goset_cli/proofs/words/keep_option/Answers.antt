use Rattle.std.proofs.Common.{rules, ap, ◌∙◌, true}
use Rattle.clap.specs.Walk.{Rule, rule_of}
use Rattle.goset_cli.proofs.words.keep_option.Goals as goal

pub returns : goal.returns
returns c =
    let named = ap rule_of c.value_name.ensures ∙ ap (λ (r : Rule). record r { value_names = 1 }) c.option.ensures.rule in
    record {
      rule = ap rule_of c.required.ensures ∙ ap (λ (r : Rule). record r { required = true }) named;
      plain = search rules;
      local = search rules;
    }
