use Rattle.std.proofs.Common.{sym, ap, ◌∙◌}
use Rattle.std.specs.FinMap.{entries}
use Rattle.ws_register.specs.Nodes.{all_nodes}
use Rattle.ws_register.proofs.Contents.{entries-contents}
use Rattle.ws_register.proofs.pages.Pages.iter.Goals as goal

pub returns : goal.returns
returns c = c.of.ensures ∙ sym (entries-contents (all_nodes c.list.result.now) c.list.ensures.ascends) ∙ ap entries c.list.ensures.held
