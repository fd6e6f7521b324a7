use Rattle.ws_graph.proofs.KnownFiles.{told_edition}
use Rattle.ws_graph.proofs.previous.has_edition.Goals as goal

pub returns : goal.returns
returns c = told_edition c.eq.result c.args.file.now.edition c.edition.result c.args.edition c.edition.ensures c.eq.ensures
