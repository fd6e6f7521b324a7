use Rattle.std.proofs.Common.{rules}
use Rattle.go_scan.proofs.Fronts.{within_of}
use Rattle.go_scan.proofs.front.front.Goals as goal

pub returns-clause-within : goal.returns-clause-within
returns-clause-within c = within_of c.args.bytes.now _ (search rules)
