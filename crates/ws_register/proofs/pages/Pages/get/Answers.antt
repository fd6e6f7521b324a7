use Rattle.std.proofs.Common.{sym, ap, ◌∙◌}
use Rattle.std.specs.FinMap as map
use Rattle.ws_register.specs.Nodes.{all_nodes}
use Rattle.ws_register.proofs.Contents.{get-contents}
use Rattle.ws_register.proofs.pages.Pages.get.Goals as goal

pub returns : goal.returns
returns c =
    let path = c.args.path.now in
    c.held_in.ensures ∙ sym (get-contents (all_nodes c.list.result.now) path) ∙ ap (λ m. map.get m path) c.list.ensures.held
