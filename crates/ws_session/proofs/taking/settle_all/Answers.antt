use Rattle.std.proofs.Common.{◌≡◌, List, Vec, Global, length, ap, ◌∙◌, arith}
use Rattle.ws_replica.specs.Holdings.{Replica}
use Rattle.ws_session.specs.declared.replicas.SessionReplica.{SessionReplica}
use Rattle.ws_session.specs.Representation.{replicas_of, labels_of}
use Rattle.ws_session.proofs.Joining.{settles_alike}
use Rattle.ws_session.proofs.taking.settle_all.Goals as goal

pub returns : goal.returns
returns g c = λ text world h counted.
    let ns : List SessionReplica = c.args.named.now.items in
    let before = c.in_ok-labels.ensures.replicas ∙ ap (λ (v : Vec SessionReplica Global). replicas_of v.items) c.replace.ensures.value in
    let many : c.len.result ≡ length (replicas_of ns) = let same = ap (λ (rs : List Replica). length rs) before in omega (arith, c.len.ensures, c.in_ok-labels.replicas.ok.0, same) in
    settles_alike text world ns c.in_ok-named.field-0.items c.len.result c.in_ok-joined.joined
    (c.in_ok-named.ensures.labels ∙ c.in_ok-labels.ensures.labels ∙ ap (λ (v : Vec SessionReplica Global). labels_of v.items) c.replace.ensures.value)
    (c.in_ok-named.ensures.replicas ∙ c.in_ok-copies.ensures) many (c.in_ok-joined.ensures world h counted) h
