use Rattle.std.proofs.Common.{◌≡◌, ◌<◌, ◌∷◌, ◌++◌, [], length, sym, ap, ◌∙◌, subst}
use Rattle.std.proofs.lemmas.List.Elements.{All-push}
use Rattle.std.proofs.Math.ListN.{set, length-set}
use Rattle.ws_board.specs.declared.rows.moves.Change.{Change}
use Rattle.ws_board.specs.Rows.{undone, AreWritten}
use Rattle.ws_board.proofs.Undoing.{undone_more, put_back}
use Rattle.ws_board.proofs.rows.moves.Moves.write.Goals as goal

pub returns-clause-undone : goal.returns-clause-undone
returns-clause-undone c =
    let R = c.args.rows.now.rows in
    let log = c.args.self.now.log.items in
    let change : Change = record { job = c.args.job; was = c.put-was.result } in
    let pushed : c.push_reserved.new.self.items ≡ log ++ change ∷ [] = c.push_reserved.ensures.items ∙ ap (λ l. l ++ change ∷ []) c.in_ok-reserve.ensures.items in
    record {
      rows = ap (λ l. undone l c.put-was.new.self.rows) pushed ∙ undone_more log change c.put-was.new.self.rows
          ∙ ap (undone log) (ap (λ l. set l c.args.job c.put-was.result) c.put-was.ensures.rows ∙ ap (set (set R c.args.job c.args.row) c.args.job) c.put-was.ensures.was ∙ put_back R c.args.job c.args.row c.requires);
      count = ap length c.put-was.ensures.rows ∙ length-set R c.args.job c.args.row;
      jobs = c.put-was.ensures.jobs;
      importers = c.put-was.ensures.importers;
      written = λ w. subst (AreWritten (length R)) (sym pushed) (All-push (λ (x : Change). x.job < length R) log change w c.requires);
    }
