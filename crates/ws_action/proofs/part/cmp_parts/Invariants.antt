use Rattle.std.proofs.Common.{◌≡◌, drop, map}
use Rattle.std.specs.Cmp.Lexicographic.{slice_cmp}
use Rattle.ws_action.proofs.part.cmp_parts.Given as goal

-- the lists compare as what is left of them
abbrev pub invariant-loop-i : goal.invariant-loop-i
invariant-loop-i g l = slice_cmp g.P.Part.order (map g.P.Part.named (drop l.i l.parts)) (map g.P.Part.named (drop l.i l.others)) ≡ slice_cmp g.P.Part.order (map g.P.Part.named l.parts) (map g.P.Part.named l.others)
