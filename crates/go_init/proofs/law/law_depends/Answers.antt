use Rattle.go_init.proofs.Depends.{depends_is}
use Rattle.go_init.proofs.law.law_depends.Goals as goal

pub returns : goal.returns
returns c = depends_is
