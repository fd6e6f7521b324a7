use Rattle.std.proofs.Common.{refl, string_bytes}
use Rattle.ws_graph.proofs.wave.read.Goals as goal

pub returns : goal.returns
returns g c = λ sources w. (refl, c.in_ok-found.ensures sources (string_bytes c.args.waiting.path) w.files)
