use Rattle.std.proofs.Common.{◌≡◌, ◌++◌, ℕ, List, take}
use Rattle.ws_board.specs.Rows.{those_of}
use Rattle.ws_board.specs.Indexes.{jobs_in, IsSameBut}
use Rattle.ws_board.proofs.index.Index.admit.Given as goal

abbrev pub invariant-loop-count : goal.invariant-loop-count
invariant-loop-count l = record {
  jobs : (id : List ℕ) → jobs_in l.self id ≡ jobs_in l.fn.self id ++ those_of id (take l.count l.ready);
  same : IsSameBut l.fn.self l.self;
}
