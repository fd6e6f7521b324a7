use Rattle.std.proofs.Common.{◌≡◌, ◌++◌, drop, map}
use Rattle.std.specs.List.{flat_map}
use Rattle.ws_action.specs.Actions.{named_text, list_text}
use Rattle.ws_action.proofs.part.push_parts.Given as goal

-- what is written and what is left to write are the whole
abbrev pub invariant-loop-part : goal.invariant-loop-part
invariant-loop-part g l = l.text.items ++ flat_map named_text (map g.P.Part.named (drop l.part-index l.parts)) ≡ l.fn.text.items ++ list_text (map g.P.Part.named l.parts)
