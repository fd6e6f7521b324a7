use Rattle.std.proofs.Common.{sym, ◌∙◌}
use Rattle.go_scan.proofs.KindsEqual.{kinds_equal}
use Rattle.go_pexpr.proofs.kind.is_kind.Goals as goal

pub returns : goal.returns
returns c = (λ is. (kinds_equal _ _).0 (sym c.eq.ensures ∙ is), λ same. c.eq.ensures ∙ (kinds_equal _ _).1 same)
