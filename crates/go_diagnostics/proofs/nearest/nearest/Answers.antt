use Rattle.std.proofs.Common.{◌∙◌, sym, arith}
use Rattle.go_diagnostics.proofs.Nearer.{found_at, found_before, is_nearest, none_more_at, none_more_other}
use Rattle.go_diagnostics.proofs.nearest.nearest.Goals as goal
use Rattle.go_diagnostics.proofs.nearest.nearest.Goals.{then-is_candidate+in_ok-edits+then-edits-least, then-is_candidate+in_ok-edits+else-edits-least, else-is_candidate}

pub loop-name-preserved : goal.loop-name-preserved
loop-name-preserved c = elim c.if-is_candidate.branch [
  | then-is_candidate+in_ok-edits+then-edits-least w ↦ record {
    least = found_at c.args.unknown.now c.args.names.now c.loop-name.name-index _ c.loop-name.found c.if-is_candidate.found c.loop-name.least c.if-is_candidate.least
        (omega arith) w.found-is (sym c.is_candidate.ensures ∙ w.if-is_candidate.true) (w.least-is ∙ w.in_ok-edits.ensures.value) (omega arith) c.loop-name.invariant.least;
    none = none_more_at c.args.unknown.now c.loop-name.least c.if-is_candidate.least w.in_ok-edits.edits c.args.names.now c.loop-name.name-index _
        (omega arith) (omega arith) (omega arith) w.in_ok-edits.ensures.value c.loop-name.invariant.none;
  }
  | then-is_candidate+in_ok-edits+else-edits-least w ↦ record {
    least = found_before c.args.unknown.now c.args.names.now c.loop-name.found c.if-is_candidate.found c.loop-name.least c.if-is_candidate.least
        w.found-is w.least-is c.loop-name.invariant.least;
    none = none_more_at c.args.unknown.now c.loop-name.least c.if-is_candidate.least w.in_ok-edits.edits c.args.names.now c.loop-name.name-index _
        (omega arith) (omega arith) (omega arith) w.in_ok-edits.ensures.value c.loop-name.invariant.none;
  }
  | else-is_candidate w ↦ record {
    least = found_before c.args.unknown.now c.args.names.now c.loop-name.found c.if-is_candidate.found c.loop-name.least c.if-is_candidate.least
        w.found-is w.least-is c.loop-name.invariant.least;
    none = none_more_other c.args.unknown.now c.loop-name.least c.if-is_candidate.least c.args.names.now c.loop-name.name-index _ c.is_candidate.result
        (omega arith) (omega arith) c.is_candidate.ensures w.if-is_candidate.false c.loop-name.invariant.none;
  }
]

pub returns : goal.returns
returns c = is_nearest c.args.unknown.now c.args.names.now c.loop-name.found c.loop-name.least c.loop-name.name-index (omega arith) (omega arith)
    c.loop-name.invariant.least c.loop-name.invariant.none
