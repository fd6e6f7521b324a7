use Rattle.std.proofs.Common.{◌≡◌, ◌≤◌, ◌++◌, ℕ, List, length, drop, take}
use Rattle.ws_board.specs.Rows.{those_of}
use Rattle.ws_board.specs.Indexes.{jobs_in, IsSameBut}
use Rattle.ws_board.proofs.index.Index.expel.Given as goal

abbrev pub invariant-loop-count : goal.invariant-loop-count
invariant-loop-count l = record {
  within : l.count ≤ length l.ready;
  left : (before : List ℕ → List ℕ) × ((id : List ℕ) → jobs_in l.self id ≡ before id ++ those_of id (take l.count l.ready));
  jobs : (id : List ℕ) → jobs_in l.fn.self id ≡ jobs_in l.self id ++ those_of id (drop l.count l.ready);
  same : IsSameBut l.fn.self l.self;
}

abbrev pub decreases-loop-count : goal.decreases-loop-count
decreases-loop-count l = l.count
