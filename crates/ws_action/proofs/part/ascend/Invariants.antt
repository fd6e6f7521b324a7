use Rattle.std.proofs.Common.{◌≡◌, drop, map}
use Rattle.ws_action.specs.Actions.{ascends, ascends_from}
use Rattle.ws_action.proofs.part.ascend.Given as goal

-- the parts that are left ascend from the last name just where all ascend
abbrev pub invariant-loop-part : goal.invariant-loop-part
invariant-loop-part g l = ascends_from (g.P.Part.named l.last).0 (map g.P.Part.named (drop l.part-index l.rest)) ≡ ascends (map g.P.Part.named l.parts)
