use Rattle.ws_register.specs.Listed.{writes_of}
use Rattle.ws_register.specs.Pages.{values}
use Rattle.std.specs.Arc.{arc_value}
use Rattle.ws_register.proofs.Edited.{part_split, halves}
use Rattle.ws_register.proofs.edit.split.Goals as goal

pub returns-clause-ok : goal.returns-clause-ok
returns-clause-ok c =
    let low = c.in_ok-low.low in
    let high = c.in_ok-high.high in
    part_split writes_of c.args.pages.now.items c.insert.new.self.items c.args.at low high (values c.args.writes.now) c.requires.within c.in_ok-insert.ensures.items
    (halves c.args.writes.now c.split_at.result.0.now c.split_at.result.1.now (writes_of (arc_value low)) (writes_of (arc_value high))
    c.split_at.ensures.by_index.0 c.in_ok-low.ensures c.in_ok-high.ensures)
