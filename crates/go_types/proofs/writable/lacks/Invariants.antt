use Rattle.std.proofs.Common.{drop, ◌↔◌}
use Rattle.go_types.specs.Texts.{Lacks}
use Rattle.go_types.proofs.writable.lacks.Given as goal

-- the byte is in what is left, or nowhere
abbrev pub invariant-loop-b : goal.invariant-loop-b
invariant-loop-b l = Lacks l.byte (drop l.b-index l.text) ↔ Lacks l.byte l.text
