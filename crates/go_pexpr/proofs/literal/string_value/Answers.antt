use Rattle.std.proofs.Common.{◌∙◌}
use Rattle.go_pexpr.proofs.Stands.{string_meant}
use Rattle.go_pexpr.proofs.literal.string_value.Goals as goal

pub returns : goal.returns
returns c = c.in_ok-value.ensures.value ∙ string_meant c.args.text.now
