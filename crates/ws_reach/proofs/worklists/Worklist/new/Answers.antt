use Rattle.ws_reach.proofs.Marks.{marks_none}
use Rattle.ws_reach.proofs.worklists.Worklist.new.Goals as goal

pub invariant_of-result : goal.invariant_of-result
invariant_of-result c = marks_none c.in_ok-marks.marks.items c.new.result.items c.new.ensures.items c.in_ok-marks.ensures.none
