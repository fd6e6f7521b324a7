use Rattle.std.proofs.Common.{leb, length}
use Rattle.std.proofs.lemmas.Bool.{and_parts}
use Rattle.ws_path.specs.Paths.{has_two_elements}
use Rattle.ws_path.proofs.Cuts.{two_parts}
use Rattle.ws_path.proofs.law_path_parts.Goals as goal

pub returns : goal.returns
returns c path is = two_parts 47 path (and_parts (has_two_elements path) _ (and_parts (leb (length path) 200) _ is).1).0
