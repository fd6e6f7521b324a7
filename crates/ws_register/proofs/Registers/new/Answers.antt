use Rattle.std.proofs.Common.{subst, sym}
use Rattle.ws_register.specs.Sources.{RegistersInvariant}
use Rattle.ws_register.proofs.Counters.{counts-empty}
use Rattle.ws_register.proofs.Filed.{files-empty}
use Rattle.ws_register.proofs.Registers.new.Goals as goal

pub invariant_of-result : goal.invariant_of-result
invariant_of-result c = subst (λ m. RegistersInvariant m 0) (sym c.new.ensures) (record { counter = counts-empty; files = files-empty })
