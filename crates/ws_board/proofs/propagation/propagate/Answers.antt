use Rattle.std.proofs.Common.{◌≡◌, ◌+◌, [], length, refl, ap, ◌∙◌, arith}
use Rattle.std.specs.List.{slice_index_or}
use Rattle.std.proofs.lemmas.List.{length_push}
use Rattle.ws_board.specs.declared.rows.moves.Moves.{Moves}
use Rattle.ws_board.specs.Propagation.{held_by}
use Rattle.ws_board.specs.Rows.{importer_reads}
use Rattle.ws_board.proofs.Onward.{carries_none, carries_then, carries_popped, popped_waits, popped_undone, popped_untold, undone_none, undone_then}
use Rattle.ws_board.proofs.propagation.propagate.Goals as goal

pub settled-init : goal.settled-init
settled-init c = record {
  on = carries_none (held_by c.args.holds) 0 c.args.rows.now c.args.rows.now c.args.moves.now c.args.moves.now c.args.looks.now c.args.looks.now c.requires.good refl refl refl refl refl (omega arith) (omega arith);
  undone = undone_none c.args.rows.now c.args.rows.now c.args.moves.now c.args.moves.now refl refl refl refl;
  waits = c.requires.waits;
}

pub tell-requires-clause-good : goal.tell-requires-clause-good
tell-requires-clause-good c = c.settled.invariant.on.good

pub tell-requires-clause-room : goal.tell-requires-clause-room
tell-requires-clause-room c =
    let p = c.settled.invariant in
    let e = popped_untold c.settled.rows.importers.items c.settled.moves.settled.items c.pop.new.self.items c.in-Some.job c.in-Some.ensures.items in
    omega (arith, c.requires.room, p.on.paid, e)

pub settled-preserved : goal.settled-preserved
settled-preserved c =
    let h = held_by c.args.holds in
    let p = c.settled.invariant in
    let q = c.in_ok-tell.ensures in
    let l = c.settled.rows in
    let job = c.in-Some.job in
    let popped : Moves = record c.settled.moves { settled = c.pop.new.self } in
    record {
      on = carries_then h 0 0 c.args.rows.now l c.tell.new.rows c.args.moves.now c.settled.moves c.tell.new.moves c.args.looks.now c.settled.looks c.tell.new.looks c.requires.good p.on
          (carries_popped h (importer_reads (length (slice_index_or l.importers.items job []))) l c.tell.new.rows c.settled.moves popped c.tell.new.moves job c.settled.looks c.tell.new.looks refl c.in-Some.ensures.items refl q.on);
      undone = undone_then c.args.rows.now l c.tell.new.rows c.args.moves.now c.settled.moves c.tell.new.moves p.undone (popped_undone l c.tell.new.rows c.settled.moves popped c.tell.new.moves refl c.tell.ensures.undone);
      waits = q.waits (popped_waits l.jobs.items l.importers.items l.rows c.pop.new.self.items c.settled.moves.settled.items job p.on.good c.in-Some.ensures.items p.waits);
    }

pub settled-smaller : goal.settled-smaller
settled-smaller c =
    let e : length c.settled.moves.settled.items ≡ length c.pop.new.self.items + 1 = ap length c.in-Some.ensures.items ∙ length_push c.pop.new.self.items c.in-Some.job in
    omega (arith, c.in_ok-tell.ensures.on.fewer, e)
