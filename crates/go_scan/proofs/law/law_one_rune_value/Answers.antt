use Rattle.go_scan.proofs.LiteralFronts.{one_rune}
use Rattle.go_scan.proofs.law.law_one_rune_value.Goals as goal

pub returns : goal.returns
returns c = one_rune
