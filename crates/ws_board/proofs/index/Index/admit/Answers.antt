use Rattle.std.proofs.Common.{◌<◌, [], length, take, sym, ◌∙◌, arith}
use Rattle.std.proofs.lemmas.List.{append_cancel_right}
use Rattle.ws_board.specs.declared.index.Ready.{Ready as AReady}
use Rattle.ws_board.specs.Rows.{those_of}
use Rattle.ws_board.specs.Indexes.{jobs_in}
use Rattle.ws_board.proofs.Indexing.{joins_one, same_then}
use Rattle.ws_board.proofs.index.Index.admit.Goals as goal

pub expel-requires : goal.expel-requires
expel-requires c = (jobs_in c.args.self.now, λ id. c.in-Err.ensures.err id ∙ c.loop-count.invariant.jobs id)

pub returns-in-Err-clause-err : goal.returns-in-Err-clause-err
returns-in-Err-clause-err c =
    λ id. append_cancel_right (jobs_in c.expel.new.self id) (jobs_in c.args.self.now id) (those_of id (take c.loop-count.count c.args.ready.now))
    (sym (c.expel.ensures.jobs id) ∙ c.in-Err.ensures.err id ∙ c.loop-count.invariant.jobs id)

pub loop-count-preserved : goal.loop-count-preserved
loop-count-preserved c =
    let ready = c.args.ready.now in
    let count = c.loop-count.count in
    let d : AReady = record { job = 0; id = [] } in
    let lt : count < length ready = omega arith in
    record {
      jobs = joins_one (jobs_in c.args.self.now) (jobs_in c.loop-count.self) (jobs_in c.admit_one.new.self) ready count d lt c.loop-count.invariant.jobs c.in_default.ensures.ok;
      same = same_then c.args.self.now c.loop-count.self c.admit_one.new.self c.loop-count.invariant.same c.admit_one.ensures.same;
    }
