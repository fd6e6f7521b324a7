use Rattle.std.proofs.Common.{◌∙◌, ap}
use Rattle.std.proofs.Math.ListN.{set}
use Rattle.std.proofs.lemmas.List.{drop-set-add}
use Rattle.ws_board.proofs.flags.Flags.set.Goals as goal

pub returns : goal.returns
returns c =
    let inner = c.self.inside.inner in
    c.write.ensures.flags ∙ drop-set-add inner c.self.inside.tree.items c.args.k c.args.flag ∙ ap (λ l. set l c.args.k c.args.flag) c.self.view_is
