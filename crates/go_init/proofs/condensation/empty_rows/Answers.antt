use Rattle.std.proofs.Common.{◌∷◌, [], length, ap, ◌∙◌, arith}
use Rattle.std.proofs.lemmas.List.{length-append}
use Rattle.ws_reach.proofs.Turned.{none_next}
use Rattle.go_init.proofs.condensation.empty_rows.Goals as goal

pub loop-preserved : goal.loop-preserved
loop-preserved c =
    let pushed = c.in_ok-push.ensures.items in
    record {
      size = ap length pushed ∙ omega (arith, length-append c.loop.rows.items (c.new.result ∷ []), c.loop.invariant.size);
      none = none_next c.loop.rows.items c.push.new.self.items c.new.result pushed c.new.ensures.items c.loop.invariant.none;
    }
