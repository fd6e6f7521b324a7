use Rattle.std.proofs.Common.{ap, sym, ◌∙◌}
use Rattle.ws_map.specs.Undone.{put_back}
use Rattle.ws_map.proofs.Undone.{set_absent}
use Rattle.ws_map.proofs.put_back.Goals as goal

pub returns-in_default-get_mut : goal.returns-in_default-get_mut
returns-in_default-get_mut g c =
    let entries = c.args.mine.now.entries in
    let at = c.args.put.key.now in
    ap (λ m. m.entries) c.get_mut.follows.holds-at-none
    ∙ sym (set_absent g.K.Ord.cmp entries at c.in-Some.value (sym c.in_default-get_mut.ensures.value))
    ∙ sym (ap (λ before. put_back g.K.Ord.cmp at before entries) c.in-Some.is)
