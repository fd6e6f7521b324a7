use Rattle.std.proofs.Common.{ℕ, List, sym, subst}
use Rattle.std.specs.Global.{Vec}
use Rattle.ws_reach.specs.Reach.{EdgesStayWithin, rows_of}
use Rattle.go_package.proofs.facts.Facts.new.Goals as goal

pub recursive_in-requires : goal.recursive_in-requires
recursive_in-requires c = subst (λ (l : List (Vec ℕ)). EdgesStayWithin (rows_of l)) (sym c.deref.ensures.value) c.in_ok-rows.ensures.within
