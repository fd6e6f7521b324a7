use Rattle.std.proofs.Common.{◌≡◌, List, subst}
use Rattle.std.specs.Bool.{OnTrue}
use Rattle.std.specs.Prelude.{String}
use Rattle.std.specs.Global.{Global}
use Rattle.ws_graph.specs.Discovery.{string_texts}
use Rattle.ws_replica.proofs.Plans.{told_texts}
use Rattle.ws_replica.proofs.plan.Plan.has.Goals as goal

pub returns : goal.returns
returns c =
    subst (λ (own : List (String Global)). OnTrue c.eq.result (string_texts own ≡ string_texts c.args.targets.now)) c.as_slice.ensures.value
    (told_texts c.eq.result c.as_slice.result.now c.args.targets.now c.eq.ensures)
