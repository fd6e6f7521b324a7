use Rattle.std.proofs.Common.{◌<◌, length, rules, ◌∙◌}
use Rattle.ws_replica.specs.Joins.{IsJoinOf}
use Rattle.ws_replica.proofs.JoinedLists.{IsJoinOf-halves}
use Rattle.ws_replica.proofs.join.+fn-join_all-join+arg2+fn-join_all-join+arg3+join_all.Goals as goal

pub returns : goal.returns
returns g t c first rest is =
    let halves = c.split_at.result in
    let front : IsJoinOf g.J.Join.joined halves.0.now c.in_ok-joined.joined = search rules in
    let back : IsJoinOf g.J.Join.joined halves.1.now c.in_ok-others.others = search rules in
    let some : 0 < length halves.0.now = search rules in
    let more : 0 < length halves.1.now = search rules in
    let laws = g.met.J.Join g.world.𝓛 g.world.𝓜 g.world.𝓡 ((λ s x. x), (λ x. x), (λ x. x), λ x. x) in
    c.in_ok-merge.ensures.ok
    ∙ IsJoinOf-halves g.J.Join.joined laws.associative c.args.all.now halves.0.now halves.1.now _ _ _ c.split_at.ensures.front c.split_at.ensures.back some more front back first rest is
