use Rattle.std.proofs.Common.{◌≡◌, ◌<◌, length, List, get_or, subst, refl, sym, ◌∙◌, ap, arith}
use Rattle.std.specs.Prelude.{◌≢◌}
use Rattle.std.proofs.Math.ListN.{set, length-set}
use Rattle.std.proofs.lemmas.List.{get_or-set_same, get_or-set_other, set-set}
use Rattle.ws_session.specs.declared.replicas.SessionReplica.{SessionReplica}
use Rattle.ws_replica.specs.Holdings.{Replica, ReplicaStandsFor}
use Rattle.ws_session.proofs.Standings.{one_element, on_ok_map}
use Rattle.ws_session.proofs.taking.merge_at.Goals as goal

pub returns : goal.returns
returns c =
    let ns : List SessionReplica = c.args.named.now.items in
    let first : SessionReplica = c.index_mut.result.now in
    let hollow : SessionReplica = record { name = first.name; number = first.number; replica = c.replace-one.new.dest } in
    let mid : List SessionReplica = set ns c.args.mine hollow in
    let second : SessionReplica = c.index_mut-2.result.now in
    let new : SessionReplica = record { name = second.name; number = second.number; replica = c.take_news-merged.new.one } in
    let mine : c.args.mine < length ns = omega (arith, c.requires.mine, c.args.named.now.ok.0) in
    let theirs : c.args.theirs < length ns = omega (arith, c.requires.theirs, c.args.named.now.ok.0) in
    let mine_mid : c.args.mine < length mid = omega (arith, mine, length-set ns c.args.mine hollow) in
    let hollowed : second ≡ hollow = one_element mid c.args.mine second hollow mine_mid c.index_mut-2.ensures.value (sym (get_or-set_same ns c.args.mine hollow hollow mine)) in
    let others : c.args.theirs ≢ c.args.mine = λ e. c.requires.others (sym e) in
    let read : c.index.result.now ≡ get_or ns c.args.theirs c.index.result.now = c.index.ensures ∙ get_or-set_other ns c.args.mine c.args.theirs hollow c.index.result.now others in
    let taken : c.replace-one.result ≡ first.replica = c.replace-one.ensures.value in
    on_ok_map c.take_news-merged.result (λ stands. record {
      changed = new;
      is = set-set ns c.args.mine hollow new;
      so = λ n e.
          let same : n ≡ first = one_element ns c.args.mine n first mine e c.index_mut.ensures.value in
          record {
            name = ap (λ (m : SessionReplica). m.name.items) (hollowed ∙ refl) ∙ sym (ap (λ (m : SessionReplica). m.name.items) same);
            number = ap (λ (m : SessionReplica). m.number) hollowed ∙ sym (ap (λ (m : SessionReplica). m.number) same);
            holds = λ other f V W E F written compiled h k.
                let is : other ≡ c.index.result.now = one_element ns c.args.theirs other c.index.result.now theirs f read in
                stands V W E F written compiled
                (subst (λ (r : Replica). ReplicaStandsFor r V E) (ap (λ (m : SessionReplica). m.replica) same ∙ sym taken) h)
                (subst (λ (r : Replica). ReplicaStandsFor r W F) (ap (λ (m : SessionReplica). m.replica) is) k);
          };
    }) c.take_news-merged.ensures
