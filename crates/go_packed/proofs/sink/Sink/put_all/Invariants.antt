use Rattle.std.proofs.Common.{◌≡◌, ◌++◌, drop, map}
use Rattle.go_packed.specs.Tokens.{piece_token}
use Rattle.go_packed.proofs.sink.Sink.put_all.Given as goal

abbrev pub invariant-loop-piece : goal.invariant-loop-piece
invariant-loop-piece l = l.self ++ map piece_token (drop l.piece-index l.pieces) ≡ l.fn.self ++ map piece_token l.pieces
