use Rattle.std.proofs.Common.{◌≡◌, ◌++◌, drop, length}
use Rattle.ws_session.proofs.Lines.{lines}
use Rattle.ws_session.proofs.replicas.all_lines.Given as goal

-- what is told so far, and what the targets that are left tell
abbrev pub invariant-loop-target : goal.invariant-loop-target
invariant-loop-target l =
    l.told.items ++ lines l.named (drop (length l.yielded) l.targets) (drop (length l.yielded) l.reports) ≡ lines l.named l.targets l.reports
