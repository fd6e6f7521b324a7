use Rattle.go_scan.proofs.LiteralFronts.{one_string}
use Rattle.go_scan.proofs.law.law_one_string_value.Goals as goal

pub returns : goal.returns
returns c = one_string
