-- The counts tell what each replica took, after each command too.
use Rattle.std.proofs.Common.{◌≡◌, ◌+◌, ℕ, List, [], ◌∷◌, ◌++◌, map, length, Option, None, Some, true, false, Bool, refl, sym, ap, ◌∙◌, subst, inl, inr, arith, append-nil, Vec}
use Rattle.std.specs.Prelude.{◌≢◌, unwrap_or, is_some, IfSome}
use Rattle.std.specs.Global.{Global}
use Rattle.std.specs.List.{Contains, flat_map}
use Rattle.std.proofs.lemmas.Bool.{cases_eq, cases_lt}
use Rattle.go_text.specs.declared.edition.Edition.{Edition}
use Rattle.ws_version.specs.Writes.{Write as AWrite}
use Rattle.ws_action.specs.Actions.{Action}
use Rattle.ws_version_vector.specs.Counts.{AreShared, AreFirstNumbers, is_among}
use Rattle.ws_version_vector.specs.Counts.{counts_at, count_at, IsNews}
use Rattle.ws_version_vector.specs.Keyed.{AreLogged, AreKeysBetween}
use Rattle.ws_version_vector.specs.Taken.{VectorsInvariant, replica_took}
use Rattle.ws_version_vector.specs.declared.vector.News.{News}
use Rattle.ws_version_vector.proofs.Told.{grown as with_batch}
use Rattle.ws_version_vector.proofs.Kept.{same_kept, raised_kept, merged_kept, shared_kept, none_kept, news_brought, AnyTook}
use Rattle.ws_version_vector.proofs.Logged.{none_logged, pushed_logged, news_between}
use Rattle.ws_command.specs.declared.refusal.Refusal.{Refusal}
use Rattle.ws_command.specs.Commands.{Nothing, Bad, Create, Write, Remove, Apply, Merge, Settle, Run, Ids, Show, Use}
use Rattle.ws_session.specs.declared.replicas.SessionReplica.{SessionReplica}
use Rattle.ws_session.specs.declared.clock.WriteClock.{WriteClock}
use Rattle.ws_session.specs.World.{World, ReplicaModel, empty_world, taking, edit_of, removal_of, content_in, all_settled, writes_of, actions_held, AfterBy, After, refusals}
use Rattle.ws_command.specs.Refusals.{first_of}
use Rattle.ws_session.specs.Representation.{replica_index, AllRepresent, AreWritten, AreCompiled, AreCounted, none_written, writes_in, replica_actions, IsBrought, IsWriteCounted, IsMergeCounted}
use Rattle.ws_session.proofs.Standings.{same_length}
use Rattle.ws_session.proofs.Taken.{TakenBy, taken_at, ReadsBy, reads_at, from_all, into_all, beyond, all_alike, beyond_alike, pushed}

abbrev path_in : AWrite → List ℕ
path_in = λ w. w.0

pub opening_counted : (edition : Edition) → AreCounted none_written [] (empty_world edition)
opening_counted edition = record { writes = (λ _. [], none_kept, none_logged path_in); actions = (λ _. [], none_kept) }

-- counts and logs that are the same tell the same
same_wrote : (wrote new : WriteClock) (rs : List ReplicaModel) → new.counts ≡ wrote.counts → new.logs ≡ wrote.logs → AreWritten wrote rs → AreWritten new rs
same_wrote wrote new rs e f h = (h.0, subst (λ z. VectorsInvariant h.0 z (writes_in rs)) (sym e) h.1, subst (λ z. AreLogged path_in h.0 z) (sym f) h.2)

-- nothing was taken
pub same_counted : (wrote : WriteClock) (compiled : List (List ℕ)) (world next : World) → next.replicas ≡ world.replicas → AreCounted wrote compiled world → AreCounted wrote compiled next
same_counted wrote compiled world next e h = record {
  writes = subst (λ rs. AreWritten wrote rs) (sym e) h.writes;
  actions = subst (λ rs. (lists : ℕ → List (List Action)) × VectorsInvariant lists compiled (replica_actions rs)) (sym e) h.actions;
}

-- ---- a write

abbrev pub WriteTaken : Option Refusal → Option ℕ → AWrite → World → World → Type 0
WriteTaken None o w world next = TakenBy o (w ∷ []) [] world.replicas next.replicas
WriteTaken (Some refusal) o w world next = next.replicas ≡ world.replicas

nothing_more : {A : Type 0} (k : ℕ) (old new : List (List A)) → replica_took k new ≡ replica_took k old ++ [] → ((j : ℕ) → j ≢ k → replica_took j new ≡ replica_took j old) → (j : ℕ) → replica_took j new ≡ replica_took j old
nothing_more k old new here others j = elim (cases_eq j k) [
  | inl e ↦ subst (λ z. replica_took z new ≡ replica_took z old) (sym e) (here ∙ append-nil (replica_took k old))
  | inr ne ↦ others j ne
]

pub write_counted : (refusal : Option Refusal) (o : Option ℕ) (w : AWrite) (path : List ℕ) (world next : World) (wrote new : WriteClock) (compiled : List (List ℕ)) → path ≡ w.0 → WriteTaken refusal o w world next
    → IsWriteCounted refusal o path wrote new → AreCounted wrote compiled world → AreCounted new compiled next
write_counted (Some refusal) o w path world next wrote new compiled is t e h = subst (λ z. AreCounted z compiled next) (sym e) (same_counted wrote compiled world next t h)
write_counted None None w path world next wrote new compiled is t e h = subst (λ z. AreCounted z compiled next) (sym e) (same_counted wrote compiled world next t h)
write_counted None (Some k) w path world next wrote new compiled is t e h =
    let writes = h.writes in
    let actions = h.actions in
    let its = writes.1 k in
    record {
      writes = (
        with_batch writes.0 k (w ∷ []),
        raised_kept writes.0 k (w ∷ []) wrote.counts new.counts e.counts (writes_in world.replicas) (writes_in next.replicas) writes.1 e.raised e.changed t.writes t.other_writes,
        pushed_logged path_in writes.0 k w (count_at k (counts_at k wrote.counts)) path wrote.logs new.logs writes.2 its.own is e.logged,
      );
      actions = (actions.0, same_kept actions.0 compiled (replica_actions world.replicas) (replica_actions next.replicas) (nothing_more k (replica_actions world.replicas) (replica_actions next.replicas) t.actions t.other_actions) actions.1);
    }

-- the write that a command is
module _ (text : Option (List ℕ)) (world next : World) (ns : List SessionReplica) (h : AllRepresent ns world.replicas) where
  by_taking : (name : List ℕ) (w : AWrite) → next.replicas ≡ taking name (w ∷ []) [] world.replicas → TakenBy (replica_index name ns) (w ∷ []) [] world.replicas next.replicas
  by_taking name w e = subst (λ z. TakenBy (replica_index name ns) (w ∷ []) [] world.replicas z) (sym e) (taken_at name (w ∷ []) [] ns world.replicas h)

  pub after_write : (name path : List ℕ) (lines : ℕ) (refusal : Option Refusal) → AfterBy refusal (Write name path lines) text world next → WriteTaken refusal (replica_index name ns) (edit_of name path (unwrap_or text []) world) world next
  after_write name path lines None e = by_taking name (edit_of name path (unwrap_or text []) world) (ap (λ z. z.replicas) e)
  after_write name path lines (Some refusal) e = ap (λ z. z.replicas) e

  pub after_remove : (name path : List ℕ) (refusal : Option Refusal) → AfterBy refusal (Remove name path) text world next → WriteTaken refusal (replica_index name ns) (removal_of name path world) world next
  after_remove name path None e = by_taking name (removal_of name path world) (ap (λ z. z.replicas) e)
  after_remove name path (Some refusal) e = ap (λ z. z.replicas) e

  pub after_apply : (name path : List ℕ) (counter number : ℕ) (lines : Option ℕ) (refusal : Option Refusal) → AfterBy refusal (Apply name path counter number lines) text world next
      → WriteTaken refusal (replica_index name ns) (path, record { counter = counter; number = number; text = content_in lines text }) world next
  after_apply name path counter number lines None e = by_taking name (path, record { counter = counter; number = number; text = content_in lines text }) (ap (λ z. z.replicas) e)
  after_apply name path counter number lines (Some refusal) e = ap (λ z. z.replicas) e

-- ---- a merge

-- nothing was taken, and nothing counted
all_same : (world next : World) (wrote new : WriteClock) (compiled built : List (List ℕ)) → new.counts ≡ wrote.counts → new.logs ≡ wrote.logs → built ≡ compiled → AreCounted wrote compiled next → AreCounted new built next
all_same world next wrote new compiled built e same f h = record {
  writes = same_wrote wrote new next.replicas e same h.writes;
  actions = subst (λ z. AreCompiled z next) (sym f) h.actions;
}

merged_both : (o : Option ℕ) (k : ℕ) (W : List AWrite) (E : List Action) (other : List ℕ) (world next : World) (wrote new : WriteClock) (compiled built : List (List ℕ)) → TakenBy (Some k) (writes_of other world) (actions_held other world) world.replicas next.replicas
    → ReadsBy other world o → IsMergeCounted None (Some k) o wrote.counts new.counts → IsMergeCounted None (Some k) o compiled built → new.logs ≡ wrote.logs → AreCounted wrote compiled world → AreCounted new built next
merged_both None k W E other world next wrote new compiled built t reads e f same h =
    let writes = h.writes in
    let actions = h.actions in
    let nothing_written : replica_took k (writes_in next.replicas) ≡ replica_took k (writes_in world.replicas) ++ [] = t.writes ∙ ap (λ V. replica_took k (writes_in world.replicas) ++ V) reads.0 in
    let nothing_built : replica_took k (replica_actions next.replicas) ≡ replica_took k (replica_actions world.replicas) ++ [] = t.actions ∙ ap (λ V. replica_took k (replica_actions world.replicas) ++ V) reads.1 in
    record {
      writes = (
        writes.0,
        subst (λ z. VectorsInvariant writes.0 z (writes_in next.replicas)) (sym e)
            (same_kept writes.0 wrote.counts (writes_in world.replicas) (writes_in next.replicas) (nothing_more k (writes_in world.replicas) (writes_in next.replicas) nothing_written t.other_writes) writes.1),
        subst (λ z. AreLogged path_in writes.0 z) (sym same) writes.2,
      );
      actions = (
        actions.0,
        subst (λ z. VectorsInvariant actions.0 z (replica_actions next.replicas)) (sym f)
            (same_kept actions.0 compiled (replica_actions world.replicas) (replica_actions next.replicas) (nothing_more k (replica_actions world.replicas) (replica_actions next.replicas) nothing_built t.other_actions) actions.1),
      );
    }
merged_both (Some j) k W E other world next wrote new compiled built t reads e f same h =
    let writes = h.writes in
    let actions = h.actions in
    record {
      writes = (
        writes.0,
        merged_kept writes.0 k j wrote.counts new.counts e.0 (writes_in world.replicas) (writes_in next.replicas) writes.1 e.1 e.2 (t.writes ∙ ap (λ V. replica_took k (writes_in world.replicas) ++ V) reads.0) t.other_writes,
        subst (λ z. AreLogged path_in writes.0 z) (sym same) writes.2,
      );
      actions = (actions.0, merged_kept actions.0 k j compiled built f.0 (replica_actions world.replicas) (replica_actions next.replicas) actions.1 f.1 f.2 (t.actions ∙ ap (λ V. replica_took k (replica_actions world.replicas) ++ V) reads.1) t.other_actions);
    }

merge_taken : (o p : Option ℕ) (other : List ℕ) (world next : World) (wrote new : WriteClock) (compiled built : List (List ℕ)) → TakenBy o (writes_of other world) (actions_held other world) world.replicas next.replicas
    → ReadsBy other world p → IsMergeCounted None o p wrote.counts new.counts → IsMergeCounted None o p compiled built → new.logs ≡ wrote.logs → AreCounted wrote compiled world → AreCounted new built next
merge_taken None p other world next wrote new compiled built t reads e f same h = all_same world next wrote new compiled built e same f (same_counted wrote compiled world next t h)
merge_taken (Some k) p other world next wrote new compiled built t reads e f same h = merged_both p k [] [] other world next wrote new compiled built t reads e f same h

pub merge_counted : (refusal : Option Refusal) (name other : List ℕ) (text : Option (List ℕ)) (world next : World) (ns : List SessionReplica) (wrote new : WriteClock) (compiled built : List (List ℕ)) → AllRepresent ns world.replicas
    → AfterBy refusal (Merge name other) text world next → IsMergeCounted refusal (replica_index name ns) (replica_index other ns) wrote.counts new.counts → IsMergeCounted refusal (replica_index name ns) (replica_index other ns) compiled built
    → new.logs ≡ wrote.logs → AreCounted wrote compiled world → AreCounted new built next
merge_counted (Some refusal) name other text world next ns wrote new compiled built s a e f same h =
    all_same world next wrote new compiled built e same f (same_counted wrote compiled world next (ap (λ z. z.replicas) a) h)
merge_counted None name other text world next ns wrote new compiled built s a e f same h =
    let taken : TakenBy (replica_index name ns) (writes_of other world) (actions_held other world) world.replicas next.replicas =
    subst (λ z. TakenBy (replica_index name ns) (writes_of other world) (actions_held other world) world.replicas z) (sym (ap (λ z. z.replicas) a)) (taken_at name (writes_of other world) (actions_held other world) ns world.replicas s) in
    merge_taken (replica_index name ns) (replica_index other ns) other world next wrote new compiled built taken (reads_at other world ns s) e f same h

-- ---- a settle

false_true : (b : Bool) → b ≡ false → b ≡ true → ⊥
false_true true e f = cc
false_true false e f = cc

module _ {A : Type 0} (f : ReplicaModel → List A) (rs : List ReplicaModel) (n : ℕ) (many : n ≡ length rs) (ks : List ℕ) (first : AreFirstNumbers n ks) where
  any_of : (W : List A) → W ≡ flat_map f rs → (a : A) → Contains W a → AnyTook ks (map f rs) a
  any_of W e a c =
      let one = from_all f rs a (subst (λ (z : List A). Contains z a) e c) in
      let lt = one.1 in
      (one.0, (first one.0).0 (omega (arith, lt, many)), one.2)

  of_any : (W : List A) → W ≡ flat_map f rs → (a : A) → AnyTook ks (map f rs) a → Contains W a
  of_any W e a t = subst (λ (z : List A). Contains z a) (sym e) (into_all f rs t.0 a t.2)

  module _ (g : ReplicaModel → ReplicaModel) (alike : (r : ReplicaModel) → f (g r) ≡ flat_map f rs) (lists : ℕ → List (List A)) (all new : List (List ℕ)) (h : VectorsInvariant lists all (map f rs)) (s : AreShared ks all new) where
    here : (k : ℕ) → is_among k ks ≡ true → replica_took k (map f (map g rs)) ≡ flat_map f rs
    here k among = let lt = (first k).1 among in all_alike f g (flat_map f rs) alike rs k (omega (arith, lt, many))

    there : (k : ℕ) → is_among k ks ≡ false → replica_took k (map f (map g rs)) ≡ replica_took k (map f rs)
    there k out = elim (cases_lt k n) [
      | inl lt ↦ absurd (false_true (is_among k ks) out ((first k).0 lt))
      | inr ge ↦ beyond_alike f g rs k (omega (arith, ge, many)) ∙ sym (beyond f rs k (omega (arith, ge, many)))
    ]

    pub all_share_kept : VectorsInvariant lists new (map f (map g rs))
    all_share_kept = shared_kept lists ks all new (map f rs) (map f (map g rs)) h s
        (λ k among. any_of (replica_took k (map f (map g rs))) (here k among)) (λ k among. of_any (replica_took k (map f (map g rs))) (here k among)) there

settled_kept : {A : Type 0} (f : ReplicaModel → List A) (g : ReplicaModel → ReplicaModel) (rs : List ReplicaModel) (n : ℕ) → n ≡ length rs → ((r : ReplicaModel) → f (g r) ≡ flat_map f rs)
    → (all new : List (List ℕ)) → (ks : List ℕ) × AreFirstNumbers n ks × AreShared ks all new → (lists : ℕ → List (List A)) × VectorsInvariant lists all (map f rs) → (lists : ℕ → List (List A)) × VectorsInvariant lists new (map f (map g rs))
settled_kept f g rs n many alike all new s h = (h.0, all_share_kept f rs n many s.0 s.1 g alike h.0 all new h.1 s.2)

pub settle_counted : (text : Option (List ℕ)) (world next : World) (ns : List SessionReplica) (n : ℕ) (wrote new : WriteClock) (compiled built : List (List ℕ)) → AllRepresent ns world.replicas → n ≡ length ns → AfterBy None Settle text world next
    → (ks : List ℕ) × AreFirstNumbers n ks × AreShared ks wrote.counts new.counts → (ks : List ℕ) × AreFirstNumbers n ks × AreShared ks compiled built → new.logs ≡ wrote.logs → AreCounted wrote compiled world → AreCounted new built next
settle_counted text world next ns n wrote new compiled built s many a e f same h =
    let rs = world.replicas in
    let all : ReplicaModel → ReplicaModel = λ r. record { name = r.name; number = r.number; writes = flat_map (λ s. s.writes) rs; actions = flat_map (λ s. s.actions) rs } in
    let length_is : n ≡ length rs = many ∙ same_length ns rs s in
    let writes = h.writes in
    same_counted new built (record world { replicas = all_settled rs }) next (ap (λ z. z.replicas) a)
    (record {
      writes = (
        writes.0,
        all_share_kept (λ r. r.writes) rs n length_is e.0 e.1 all (λ r. refl) writes.0 wrote.counts new.counts writes.1 e.2,
        subst (λ z. AreLogged path_in writes.0 z) (sym same) writes.2,
      );
      actions = settled_kept (λ r. r.actions) all rs n length_is (λ r. refl) compiled built f h.actions;
    })

-- ---- a new replica, and what changes nothing

pub create_counted : (refusal : Option Refusal) (name : List ℕ) (text : Option (List ℕ)) (world next : World) (wrote : WriteClock) (compiled : List (List ℕ)) → AfterBy refusal (Create name) text world next → AreCounted wrote compiled world → AreCounted wrote compiled next
create_counted (Some refusal) name text world next wrote compiled a h = same_counted wrote compiled world next (ap (λ z. z.replicas) a) h
create_counted None name text world next wrote compiled a h =
    let rs = world.replicas in
    let r : ReplicaModel = record { name = name; number = length rs + 1; writes = []; actions = [] } in
    let writes = h.writes in
    let actions = h.actions in
    same_counted wrote compiled (record world { replicas = rs ++ r ∷ [] }) next (ap (λ z. z.replicas) a)
    (record {
      writes = (writes.0, same_kept writes.0 wrote.counts (writes_in rs) (writes_in (rs ++ r ∷ [])) (pushed (λ q. q.writes) rs r refl) writes.1, writes.2);
      actions = (actions.0, same_kept actions.0 compiled (replica_actions rs) (replica_actions (rs ++ r ∷ [])) (pushed (λ q. q.actions) rs r refl) actions.1);
    })

nothing_by : (refusal : Option Refusal) (text : Option (List ℕ)) (world next : World) → AfterBy refusal Nothing text world next → next.replicas ≡ world.replicas
nothing_by None text world next a = ap (λ z. z.replicas) a
nothing_by (Some refusal) text world next a = ap (λ z. z.replicas) a

bad_by : (refusal : Option Refusal) (text : Option (List ℕ)) (world next : World) → AfterBy refusal Bad text world next → next.replicas ≡ world.replicas
bad_by None text world next a = ap (λ z. z.replicas) a
bad_by (Some refusal) text world next a = ap (λ z. z.replicas) a

show_by : (refusal : Option Refusal) (name : List ℕ) (text : Option (List ℕ)) (world next : World) → AfterBy refusal (Show name) text world next → next.replicas ≡ world.replicas
show_by None name text world next a = ap (λ z. z.replicas) a
show_by (Some refusal) name text world next a = ap (λ z. z.replicas) a

use_by : (refusal : Option Refusal) (edition : Edition) (text : Option (List ℕ)) (world next : World) → AfterBy refusal (Use edition) text world next → next.replicas ≡ world.replicas
use_by None edition text world next a = ap (λ z. z.replicas) a
use_by (Some refusal) edition text world next a = ap (λ z. z.replicas) a

run_by : (refusal : Option Refusal) (name directory : List ℕ) (ticks : ℕ) (text : Option (List ℕ)) (world next : World) → AfterBy refusal (Run name directory ticks) text world next → next.replicas ≡ world.replicas
run_by None name directory ticks text world next a = ap (λ z. z.replicas) a.2
run_by (Some refusal) name directory ticks text world next a = ap (λ z. z.replicas) a

ids_by : (refusal : Option Refusal) (name directory : List ℕ) (text : Option (List ℕ)) (world next : World) → AfterBy refusal (Ids name directory) text world next → next.replicas ≡ world.replicas
ids_by None name directory text world next a = ap (λ z. z.replicas) a.2
ids_by (Some refusal) name directory text world next a = ap (λ z. z.replicas) a

pub after_nothing : (text : Option (List ℕ)) (world next : World) → After Nothing text world next → next.replicas ≡ world.replicas
unfolding After
after_nothing text world next a = nothing_by (first_of (refusals Nothing text world)) text world next a

pub after_bad : (text : Option (List ℕ)) (world next : World) → After Bad text world next → next.replicas ≡ world.replicas
unfolding After
after_bad text world next a = bad_by (first_of (refusals Bad text world)) text world next a

pub after_show : (name : List ℕ) (text : Option (List ℕ)) (world next : World) → After (Show name) text world next → next.replicas ≡ world.replicas
unfolding After
after_show name text world next a = show_by (first_of (refusals (Show name) text world)) name text world next a

pub after_use : (edition : Edition) (text : Option (List ℕ)) (world next : World) → After (Use edition) text world next → next.replicas ≡ world.replicas
unfolding After
after_use edition text world next a = use_by (first_of (refusals (Use edition) text world)) edition text world next a

pub after_run : (name directory : List ℕ) (ticks : ℕ) (text : Option (List ℕ)) (world next : World) → After (Run name directory ticks) text world next → next.replicas ≡ world.replicas
unfolding After
after_run name directory ticks text world next a = run_by (first_of (refusals (Run name directory ticks) text world)) name directory ticks text world next a

pub after_ids : (name directory : List ℕ) (text : Option (List ℕ)) (world next : World) → After (Ids name directory) text world next → next.replicas ≡ world.replicas
unfolding After
after_ids name directory text world next a = ids_by (first_of (refusals (Ids name directory) text world)) name directory text world next a

-- ---- what is counted, by cases

pub write_refused : (refusal : Option Refusal) (o : Option ℕ) (path : List ℕ) (old : WriteClock) → is_some refusal ≡ true → IsWriteCounted refusal o path old old
write_refused (Some refusal) o path old e = refl
write_refused None o path old e = cc

pub write_nowhere : (refusal : Option Refusal) (o : Option ℕ) (path : List ℕ) (old : WriteClock) → o ≡ None → IsWriteCounted refusal o path old old
write_nowhere (Some refusal) o path old e = refl
write_nowhere None None path old e = refl
write_nowhere None (Some k) path old e = cc

pub write_there : (refusal : Option Refusal) (o : Option ℕ) (k : ℕ) (path : List ℕ) (old new : WriteClock) → is_some refusal ≡ false → o ≡ Some k → IsWriteCounted None (Some k) path old new → IsWriteCounted refusal o path old new
write_there (Some refusal) o k path old new e is h = cc
write_there None o k path old new e is h = subst (λ p. IsWriteCounted None p path old new) (sym is) h

pub merge_refused : (refusal : Option Refusal) (o p : Option ℕ) (old : List (List ℕ)) → is_some refusal ≡ true → IsMergeCounted refusal o p old old
merge_refused (Some refusal) o p old e = refl
merge_refused None o p old e = cc

pub merge_nowhere : (refusal : Option Refusal) (o p : Option ℕ) (old : List (List ℕ)) → o ≡ None → IsMergeCounted refusal o p old old
merge_nowhere (Some refusal) o p old e = refl
merge_nowhere None None p old e = refl
merge_nowhere None (Some k) p old e = cc

pub merge_of_none : (refusal : Option Refusal) (o p : Option ℕ) (old : List (List ℕ)) → p ≡ None → IsMergeCounted refusal o p old old
merge_of_none (Some refusal) o p old e = refl
merge_of_none None None p old e = refl
merge_of_none None (Some k) None old e = refl
merge_of_none None (Some k) (Some j) old e = cc

pub merge_there : (refusal : Option Refusal) (o p : Option ℕ) (k j : ℕ) (old new : List (List ℕ)) → is_some refusal ≡ false → o ≡ Some k → p ≡ Some j → IsMergeCounted None (Some k) (Some j) old new → IsMergeCounted refusal o p old new
merge_there (Some refusal) o p k j old new e is at h = cc
merge_there None o p k j old new e is at h = subst (λ q. IsMergeCounted None q p old new) (sym is) (subst (λ q. IsMergeCounted None (Some k) q old new) (sym at) h)

-- ---- what a merge brings, by paths where these are known
pub brought : (lists : ℕ → List (List AWrite)) (wrote : WriteClock) (sets : List (List AWrite)) (mine theirs : ℕ) (news : News) (paths : Option (Vec (List ℕ) Global)) → VectorsInvariant lists wrote.counts sets → AreLogged (λ (w : AWrite). w.0) lists wrote.logs
    → IsNews (counts_at mine wrote.counts) (counts_at theirs wrote.counts) news → IfSome paths (λ ps. AreKeysBetween wrote.logs (counts_at mine wrote.counts) (counts_at theirs wrote.counts) ps.items)
    → IsBrought news paths (replica_took mine sets) (replica_took theirs sets)
brought lists wrote sets mine theirs news None kept logged is between = news_brought lists wrote.counts sets mine theirs news kept is
brought lists wrote sets mine theirs news (Some paths) kept logged is between =
    news_between (λ (w : AWrite). w.0) lists wrote.logs mine theirs (counts_at mine wrote.counts) (counts_at theirs wrote.counts) (replica_took mine sets) (replica_took theirs sets) paths.items logged (kept mine) (kept theirs) between
