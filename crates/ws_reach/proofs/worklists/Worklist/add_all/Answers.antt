use Rattle.std.proofs.Common.{◌≡◌, subst, sym, ap, length}
use Rattle.ws_reach.specs.Worklist.{Noted, AllBelow, AreAdded}
use Rattle.ws_reach.proofs.worklists.Worklist.add_all.Goals as goal

pub note_all-requires-clause-below : goal.note_all-requires-clause-below
note_all-requires-clause-below c =
    let size : length c.self.inside.marks.items ≡ c.args.self.now.size = ap (λ (n : Noted). n.size) c.self.view_is in
    subst (λ n. AllBelow n c.args.nodes.now) (sym size) c.requires

pub returns : goal.returns
returns c =
    let new : Noted = record { size = length c.note_all.new.marks.items; found = c.note_all.new.found.items } in
    let ens = c.in_ok-note_all.ensures in
    subst (λ (n : Noted). AreAdded n c.args.nodes.now new) c.self.view_is (record {
      size = ens.size;
      grows = ens.grows;
      taken = ens.taken;
      from = ens.from;
    })
