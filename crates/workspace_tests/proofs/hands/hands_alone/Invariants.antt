use Rattle.std.specs.FinMap.{empty}
use Rattle.workspace_tests.proofs.hands.hands_alone.Given as goal

abbrev pub ghosts-closed : goal.ghosts-closed
ghosts-closed g a = record { names = a.blanks; opening = record { jobs = a.jobs.items; cache = empty } }
