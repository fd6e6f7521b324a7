use Rattle.ws_graph.proofs.KnownFiles.{told_text}
use Rattle.ws_graph.proofs.previous.has_name.Goals as goal

pub returns : goal.returns
returns c = told_text c.eq.result c.args.file.now.name c.name.result.now c.args.name.now c.name.ensures c.eq.ensures
