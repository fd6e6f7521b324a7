use Rattle.go_package_laws.proofs.Completeness.Dropped.{nothing_dropped}
use Rattle.go_package_laws.proofs.complete.law_faultless_drops_nothing.Goals as goal

pub returns : goal.returns
returns c = nothing_dropped
