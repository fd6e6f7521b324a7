use Rattle.std.proofs.Common.{length, sym, ap, ◌∙◌, subst}
use Rattle.std.proofs.Math.ListN.{length-set}
use Rattle.ws_board.specs.Rows.{AreWritten}
use Rattle.ws_board.proofs.Undoing.{undone_popped, written_last, written_rest}
use Rattle.ws_board.proofs.rows.moves.Moves.undo.Goals as goal

pub put-requires : goal.put-requires
put-requires c = written_last (length c.log.rows.rows) c.log.log.items c.pop.new.self.items c.in-Some.change c.in-Some.ensures.items c.log.invariant.inside

pub log-preserved : goal.log-preserved
log-preserved c =
    let p = c.log.invariant in
    let R = c.log.rows.rows in
    let change = c.in-Some.change in
    record {
      rows = undone_popped c.log.log.items c.pop.new.self.items change R c.put.new.self.rows c.in-Some.ensures.items c.put.ensures.rows ∙ p.rows;
      jobs = c.put.ensures.jobs ∙ p.jobs;
      importers = c.put.ensures.importers ∙ p.importers;
      inside = subst (λ n. AreWritten n c.pop.new.self.items) (sym (ap length c.put.ensures.rows ∙ length-set R change.job change.was)) (written_rest (length R) c.log.log.items c.pop.new.self.items change c.in-Some.ensures.items p.inside);
    }

pub log-preserved-in-Some : goal.log-preserved-in-Some
log-preserved-in-Some c =
    let p = c.log.invariant in
    let R = c.log.rows.rows in
    let change = c.in-Some.change in
    record {
      rows = undone_popped c.log.log.items c.pop.new.self.items change R c.put.new.self.rows c.in-Some.ensures.items c.put.ensures.rows ∙ p.rows;
      jobs = c.put.ensures.jobs ∙ p.jobs;
      importers = c.put.ensures.importers ∙ p.importers;
      inside = subst (λ n. AreWritten n c.pop.new.self.items) (sym (ap length c.put.ensures.rows ∙ length-set R change.job change.was)) (written_rest (length R) c.log.log.items c.pop.new.self.items change c.in-Some.ensures.items p.inside);
    }
