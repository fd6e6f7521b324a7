use Rattle.std.proofs.Common.{refl}
use Rattle.go_pexpr.proofs.Reading.{then_reads, then_fails}
use Rattle.go_pstmt.proofs.simple.header_from.Goals as goal

pub returns-in_err-sides-clause-reads : goal.returns-in_err-sides-clause-reads
returns-in_err-sides-clause-reads c = λ next alone range. then_fails refl (c.in_err-sides.ensures.reads next alone range) c.from_residual.ensures.1

pub returns-clause-reads : goal.returns-clause-reads
returns-clause-reads c = λ next alone range. then_reads c.behind_sides.result (c.in_ok-sides.ensures.reads next alone range).by (c.behind_sides.ensures.reads next alone range)
