use Rattle.std.proofs.Common.{◌≡◌, ◌+◌, drop}
use Rattle.go_diagnostics.specs.Diagnoses.{index_at}
use Rattle.go_diagnostics.proofs.diagnosis.index_at.Given as goal

abbrev pub invariant-loop-token : goal.invariant-loop-token
invariant-loop-token l = record {
  value : l.at + index_at l.place (drop l.token-index l.tokens) ≡ index_at l.place l.tokens;
  place : l.at ≡ l.token-index;
}
