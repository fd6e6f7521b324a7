use Rattle.std.proofs.Common.{◌≡◌, List, Vec, Global, drop, length, sym, ap, subst, ◌∙◌, arith}
use Rattle.std.specs.Prelude.{Err, OnErr}
use Rattle.std.proofs.lemmas.List.{take_at}
use Rattle.ws_replica.specs.Holdings.{Replica, AllStandFor}
use Rattle.ws_session.specs.declared.replicas.SessionReplica.{SessionReplica}
use Rattle.ws_session.specs.Representation.{replicas_of, labels_of}
use Rattle.ws_session.proofs.Settled.{same_named}
use Rattle.ws_session.proofs.replicas.build_all.Goals as goal

pub returns-in-Err-NoPackage : goal.returns-in-Err-NoPackage
returns-in-Err-NoPackage g c =
    let old : List Replica = c.in_ok-labels.replicas.items in
    let new : List Replica = c.build_over-built.new.replicas in
    let field = rw c.in-Err-NoPackage.is at c.in-Err-NoPackage.field-0-is in
    let none = c.in-Err-NoPackage.is ∙ ap (λ x. Err x) field in
    let kept : new ≡ c.as_mut_slice.result.now = subst (λ r. OnErr r (new ≡ c.as_mut_slice.result.now)) none c.build_over-built.ensures.err in
    let sized : length new ≡ c.in_ok-labels.replicas.len = omega (arith, ap (λ (rs : List Replica). length rs) (kept ∙ c.as_mut_slice.ensures.value), c.in_ok-labels.replicas.ok.0) in
    let after = c.in_ok-named.ensures.replicas ∙ take_at new (drop (length new) old) c.in_ok-labels.replicas.len sized in
    let before = c.as_mut_slice.ensures.value ∙ c.in_ok-labels.ensures.replicas ∙ ap (λ (v : Vec SessionReplica Global). replicas_of v.items) c.replace.ensures.value in
    let labels = c.in_ok-named.ensures.labels ∙ c.in_ok-labels.ensures.labels ∙ ap (λ (v : Vec SessionReplica Global). labels_of v.items) c.replace.ensures.value in (
      same_named c.args.named.now.items c.in_ok-named.field-0.items labels (after ∙ kept ∙ before),
      λ took a. c.build_over-built.ensures.none none took (subst (λ (rs : List Replica). AllStandFor rs took) (sym before) a),
    )
