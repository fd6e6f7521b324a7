use Rattle.std.proofs.Common.{◌≡◌, ◌<◌, ◌≤◌, ◌+◌, ◌*◌, [], Some, eqb, drop, length, get_or, refl, sym, ap, ◌∙◌, arith}
use Rattle.std.specs.List.{slice_get, slice_index_or, list_any}
use Rattle.std.proofs.lemmas.Option.{slice_get_within, get_or_from_slice_get}
use Rattle.ws_board.specs.Propagation.{held_by}
use Rattle.ws_board.specs.Rows.{importer_reads}
use Rattle.ws_board.proofs.Onward.{carries_none, undone_none, undone_then, told_one, told_end, told_waits, told_none, get_past}
use Rattle.ws_board.proofs.propagation.tell.Goals as goal

pub importers-init : goal.importers-init
importers-init c = record {
  on = carries_none (held_by c.args.holds) (4 * 0) c.args.rows.now c.args.rows.now c.args.moves.now c.args.moves.now c.args.looks.now c.args.looks.now c.requires.good refl refl refl refl refl (omega arith) (omega arith);
  undone = undone_none c.args.rows.now c.args.rows.now c.args.moves.now c.args.moves.now refl refl refl refl;
  within = omega arith;
  waits = λ w. w;
}

pub importers-preserved : goal.importers-preserved
importers-preserved c =
    let h = held_by c.args.holds in
    let p = c.importers.invariant in
    let n = c.importers.number in
    let k = c.in-Some.importer in
    let ks = slice_index_or c.args.rows.now.importers.items c.args.job [] in
    let got : slice_get ks n ≡ Some k = ap (λ l. slice_get (slice_index_or l c.args.job []) n) (sym p.on.importers) ∙ sym c.importer.ensures.is ∙ c.in-Some.is in
    let lt : n < length ks = slice_get_within ks n k got in
    let at : k ≡ get_or ks n 0 = sym (get_or_from_slice_get ks n k 0 got) in
    let q = c.in_ok-advance.ensures in
    record {
      on = told_one h n c.args.rows.now c.importers.rows c.advance.new.rows c.args.moves.now c.importers.moves c.advance.new.moves c.args.looks.now c.importers.looks c.importer.new.looks c.advance.new.looks c.requires.good p.on c.importer.ensures.one q.on;
      undone = undone_then c.args.rows.now c.importers.rows c.advance.new.rows c.args.moves.now c.importers.moves c.advance.new.moves p.undone c.advance.ensures.undone;
      within = omega (arith, lt);
      waits = λ w. q.waits (λ j. list_any (λ i. eqb i j) (drop (n + 1) ks)) (told_waits c.importers.rows.jobs.items c.importers.rows.rows c.importers.moves.settled.items ks n k lt at (p.waits w));
    }

pub importers-smaller : goal.importers-smaller
importers-smaller c =
    let p = c.importers.invariant in
    let n = c.importers.number in
    let ks = slice_index_or c.args.rows.now.importers.items c.args.job [] in
    let got : slice_get ks n ≡ Some c.in-Some.importer = ap (λ l. slice_get (slice_index_or l c.args.job []) n) (sym p.on.importers) ∙ sym c.importer.ensures.is ∙ c.in-Some.is in
    omega (arith, slice_get_within ks n c.in-Some.importer got)

pub returns-clause-on : goal.returns-clause-on
returns-clause-on c =
    let p = c.importers.invariant in
    let n = c.importers.number in
    let ks = slice_index_or c.args.rows.now.importers.items c.args.job [] in
    let past : length ks ≤ n = get_past ks n (ap (λ l. slice_get (slice_index_or l c.args.job []) n) (sym p.on.importers) ∙ sym c.importer.ensures.is ∙ c.in_default.is) in
    told_end (held_by c.args.holds) n (importer_reads (length ks)) c.args.rows.now c.importers.rows c.args.moves.now c.importers.moves c.args.looks.now c.importers.looks c.importer.new.looks p.on c.importer.ensures.one (omega (arith, past, p.within))

pub returns-clause-waits : goal.returns-clause-waits
returns-clause-waits c =
    let p = c.importers.invariant in
    let n = c.importers.number in
    let ks = slice_index_or c.args.rows.now.importers.items c.args.job [] in
    let past : length ks ≤ n = get_past ks n (ap (λ l. slice_get (slice_index_or l c.args.job []) n) (sym p.on.importers) ∙ sym c.importer.ensures.is ∙ c.in_default.is) in
    λ w. told_none c.importers.rows.jobs.items c.importers.rows.rows c.importers.moves.settled.items ks n past (p.waits w)
