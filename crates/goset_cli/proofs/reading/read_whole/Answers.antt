use Rattle.std.proofs.Common.{arith, ◌≡◌, ◌∙◌, sym, ◌++◌, ◌∷◌, [], take, List, ℕ}
use Rattle.std.proofs.lemmas.Result.{err_from_is_err_and}
use Rattle.goset_cli.proofs.Growth.{gave_on, joined_on, piece_on, not_zero}
use Rattle.goset_cli.specs.Reading.{concatenated}
use Rattle.goset_cli.proofs.reading.read_whole.Goals as goal

pub returns-in_err-extend_from_slice-clause-was_read : goal.returns-in_err-extend_from_slice-clause-was_read
returns-in_err-extend_from_slice-clause-was_read g c =
    let ps : List (List ℕ) = c.pieces.invariant.so_far.0 in
    let piece : List ℕ = take c.in_ok-n.n c.read.new.buffer in
    let tells = rw (not_zero c.in_ok-n.n c.if-n-eq0.false) at c.in_ok-n.ensures.tells in
    let p = err_from_is_err_and c.from_residual-in_err-extend_from_slice.result c.from_residual-in_err-extend_from_slice.ensures.1 in
    rw (p.1, p.2) (ps ++ piece ∷ [], gave_on _ _ _ ps piece c.pieces.invariant.so_far.1 tells)

pub returns-then-len-gt-LIMIT-clause-was_read : goal.returns-then-len-gt-LIMIT-clause-was_read
returns-then-len-gt-LIMIT-clause-was_read g c =
    let ps : List (List ℕ) = c.pieces.invariant.so_far.0 in
    let piece : List ℕ = take c.in_ok-n.n c.read.new.buffer in
    let tells = rw (not_zero c.in_ok-n.n c.if-n-eq0.false) at c.in_ok-n.ensures.tells in
    let items : c.extend_from_slice.new.self.items ≡ concatenated ps ++ piece = piece_on _ _ _ piece (concatenated ps) c.in_ok-extend_from_slice.ensures.items c.split_at.ensures.front c.pieces.invariant.so_far.2 in
    let all : concatenated (ps ++ piece ∷ []) ≡ c.extend_from_slice.new.self.items = joined_on ps piece ∙ sym items in
    (ps ++ piece ∷ [], gave_on _ _ _ ps piece c.pieces.invariant.so_far.1 tells, rw all (omega (arith, c.len.ensures, c.extend_from_slice.new.self.ok.0, c.if-len-gt-LIMIT.true)))

pub pieces-preserved : goal.pieces-preserved
pieces-preserved g c =
    let ps : List (List ℕ) = c.pieces.invariant.so_far.0 in
    let piece : List ℕ = take c.in_ok-n.n c.read.new.buffer in
    let tells = rw (not_zero c.in_ok-n.n c.if-n-eq0.false) at c.in_ok-n.ensures.tells in
    let items : c.extend_from_slice.new.self.items ≡ concatenated ps ++ piece = piece_on _ _ _ piece (concatenated ps) c.in_ok-extend_from_slice.ensures.items c.split_at.ensures.front c.pieces.invariant.so_far.2 in
    record {
      so_far = (ps ++ piece ∷ [], gave_on _ _ _ ps piece c.pieces.invariant.so_far.1 tells, joined_on ps piece ∙ sym items);
      fits = omega (arith, c.len.ensures, c.extend_from_slice.new.self.ok.0, c.if-len-gt-LIMIT.false);
      no_failure = omega (arith, c.in_ok-n.ensures.counts, c.pieces.invariant.no_failure);
    }
