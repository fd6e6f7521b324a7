use Rattle.go_scan.proofs.Spelled.{tokens_stand}
use Rattle.go_scan.proofs.law.law_tokens_stand.Goals as goal

pub returns : goal.returns
returns c = tokens_stand
