use Rattle.std.proofs.lemmas.Result.{on_ok_weaker}
use Rattle.go_gen.proofs.Closed.{closed}
use Rattle.go_gen.proofs.statement.close_loop.Goals as goal

pub returns : goal.returns
returns c =
    on_ok_weaker c.put.result (λ h inner tc rest x is l1 l2. closed inner tc rest _ _ _ x _ _ _ is l1 l2 c.len-begin.ensures c.replace.ensures h) c.put.ensures
