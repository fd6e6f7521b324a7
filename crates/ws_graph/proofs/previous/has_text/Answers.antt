use Rattle.std.proofs.Common.{◌∙◌}
use Rattle.ws_graph.proofs.KnownFiles.{told_text}
use Rattle.ws_graph.proofs.previous.has_text.Goals as goal

pub returns : goal.returns
returns c = told_text c.eq.result c.args.file.now.text c.as_str.result.now c.args.text.now (c.as_str.ensures.value ∙ c.text.ensures) c.eq.ensures
