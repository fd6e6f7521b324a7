use Rattle.std.proofs.Common.{take}
use Rattle.ws_register.proofs.TakenAt.{AreTakenAt}
use Rattle.ws_register.proofs.Registers.merged_at.Given as goal

abbrev pub invariant-loop-path : goal.invariant-loop-path
invariant-loop-path l = AreTakenAt l.other (take l.path-index l.paths) l.self l.both
