use Rattle.std.proofs.Common.{◌∙◌}
use Rattle.go_pexpr.proofs.Stands.{rune_meant}
use Rattle.go_pexpr.proofs.literal.rune_value.Goals as goal

pub returns : goal.returns
returns c = c.rune_code-code.ensures.value ∙ rune_meant c.args.text.now
