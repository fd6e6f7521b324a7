use Rattle.go_pstmt.proofs.Lefts.{first_seen}
use Rattle.go_pstmt.proofs.simple.first_place.Goals as goal

pub returns-in-len1-up : goal.returns-in-len1-up
returns-in-len1-up c = first_seen c.args.sides.now c.side-item.result _ c.in-len1-up.len_at_least c.side-item.is
