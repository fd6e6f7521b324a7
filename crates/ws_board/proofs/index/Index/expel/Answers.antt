use Rattle.std.proofs.Common.{◌≡◌, ◌<◌, ◌+◌, ◌-◌, ◌++◌, ℕ, List, [], length, take, drop, ap, ◌∙◌, arith}
use Rattle.ws_board.specs.declared.index.Ready.{Ready as AReady}
use Rattle.ws_board.specs.Rows.{those_of}
use Rattle.ws_board.specs.Indexes.{id_in, jobs_of, jobs_in}
use Rattle.ws_board.proofs.Indexing.{last_one, leaves_one, left_more}
use Rattle.ws_board.proofs.index.Index.expel.Goals as goal

pub leave-requires : goal.leave-requires
leave-requires c =
    let ready = c.args.ready.now in
    let count = c.loop-count.count in
    let n = count - 1 in
    let d : AReady = record { job = 0; id = [] } in
    let lt : n < length ready = omega (arith, c.loop-count-test.true, c.loop-count.invariant.within) in
    let same : count ≡ n + 1 = omega (arith, c.loop-count-test.true) in
    let base = c.loop-count.invariant.left.0 in
    let now_is : (id : List ℕ) → jobs_in c.loop-count.self id ≡ base id ++ those_of id (take (n + 1) ready) = λ id. c.loop-count.invariant.left.1 id ∙ ap (λ (m : ℕ). base id ++ those_of id (take m ready)) same in
    last_one (jobs_in c.loop-count.self) base ready n d lt now_is

pub loop-count-preserved : goal.loop-count-preserved
loop-count-preserved c =
    let ready = c.args.ready.now in
    let count = c.loop-count.count in
    let n = count - 1 in
    let d : AReady = record { job = 0; id = [] } in
    let lt : n < length ready = omega (arith, c.loop-count-test.true, c.loop-count.invariant.within) in
    let same : count ≡ n + 1 = omega (arith, c.loop-count-test.true) in
    let base = c.loop-count.invariant.left.0 in
    let now = jobs_in c.loop-count.self in
    let after = λ (id : List ℕ). jobs_of (id_in c.leave.new.ids.entries id) in
    let now_is : (id : List ℕ) → now id ≡ base id ++ those_of id (take (n + 1) ready) = λ id. c.loop-count.invariant.left.1 id ∙ ap (λ (m : ℕ). base id ++ those_of id (take m ready)) same in
    let start_is : (id : List ℕ) → jobs_in c.args.self.now id ≡ now id ++ those_of id (drop (n + 1) ready) = λ id. c.loop-count.invariant.jobs id ∙ ap (λ (m : ℕ). now id ++ those_of id (drop m ready)) same in
    record {
      within = omega (arith, lt);
      left = (base, leaves_one now base ready n d lt now_is after c.leave.ensures.jobs);
      jobs = left_more now base ready n d lt now_is after c.leave.ensures.jobs (jobs_in c.args.self.now) start_is;
      same = record {
        runs = λ id. c.leave.ensures.runs id ∙ c.loop-count.invariant.same.runs id;
        free = c.loop-count.invariant.same.free;
        running = c.loop-count.invariant.same.running;
      };
    }
