use Rattle.ws_version.specs.Writes.{held_cmp}
use Rattle.ws_map.proofs.Itself.{held_or_above}
use Rattle.ws_register.proofs.law_taken_write.Goals as goal

pub returns : goal.returns
returns c m W w h in_W = held_or_above held_cmp m W h w.0 w.1 in_W
