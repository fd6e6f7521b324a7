use Rattle.ws_register.proofs.Ends.{ends_around, not_empty}
use Rattle.std.proofs.Common.{sym, ◌∙◌}
use Rattle.ws_register.proofs.ends_of.Goals as goal

pub returns : goal.returns
returns c = ends_around c.args.directory.now c.in_ok-start.start c.in_ok-end.end
    (not_empty c.args.directory.now (sym c.is_empty.ensures ∙ c.if-is_empty.false)) c.in_ok-start.ensures c.in_ok-end.ensures
