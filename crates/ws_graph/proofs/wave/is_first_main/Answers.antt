use Rattle.std.proofs.Common.{rules, ◌≡◌, ◌∷◌}
use Rattle.std.specs.Prelude.{codes}
use Rattle.ws_graph.proofs.Mains.{main_iff}
use Rattle.ws_graph.proofs.wave.is_first_main.Goals as goal

pub returns : goal.returns
returns c =
    let is : c.args.parsed.now ≡ c.in-Some.first.now ∷ c.in-Some._rest.now = search rules in
    main_iff (codes "main") c.is_named.result c.in-Some.first.now c.in-Some._rest.now c.args.parsed.now is c.is_named.ensures.named c.is_named.ensures.other
