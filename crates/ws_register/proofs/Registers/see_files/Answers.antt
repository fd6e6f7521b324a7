use Rattle.std.proofs.Common.{subst}
use Rattle.ws_register.specs.Sources.{HoldsFiles}
use Rattle.ws_register.proofs.Filed.{has_files}
use Rattle.ws_register.proofs.Registers.see_files.Goals as goal

pub returns : goal.returns
returns c W stands = has_files c.args.self.now (subst HoldsFiles c.self.view_is c.self.invariant.files) W stands
