use Rattle.std.proofs.Common.{◌≡◌, List, ℕ, length}
use Rattle.go_text.specs.declared.edition.Edition.{Edition}
use Rattle.ws_session.specs.World.{World, empty_world}
use Rattle.ws_session.specs.Representation.{Represents}
use Rattle.ws_keep.specs.Keeping.{IsClearFrom, LeavesFrom}
use Rattle.goset_cli.proofs.Journals.{SoFar}
use Rattle.goset_cli.proofs.running.answer.Given as goal

-- what is written leads to a world that the steps stand for, and the journal has what does the same
abbrev pub invariant-commands : goal.invariant-commands
invariant-commands g l = let written = g.O.ScriptOut.written in let taken = g.J.Journal.taken in record {
  so_far : (edition : Edition) (before : List ℕ) (first : World) → LeavesFrom (empty_world edition) before first → Represents l.fn.replicas first → IsClearFrom first l.fn.script
      → SoFar first l.fn.script l.rest (written l.fn.writer) (written l.writer) (taken l.fn.journal) (taken l.journal) l.replicas;
  no_failure : g.O.ScriptOut.failed l.writer ≡ g.O.ScriptOut.failed l.fn.writer;
}

abbrev pub decreases-commands : goal.decreases-commands
decreases-commands g l = length l.rest
