-- The counts tell what each replica compiled, after a build too.
use Rattle.std.proofs.Common.{◌≡◌, ◌<◌, ℕ, zero, suc, List, [], ◌∷◌, ◌++◌, map, length, Option, None, Some, true, false, Bool, ◌||◌, refl, sym, ap, ◌∙◌, subst, inl, inr, arith, append-nil}
use Rattle.std.specs.Prelude.{◌≢◌, ◌⊎◌, ◌==◌, if◌then◌else◌}
use Rattle.std.specs.List.{All, AllZip, Contains, list_any, slice_get}
use Rattle.std.specs.Str.{bytes_eq}
use Rattle.std.proofs.Math.ListN.{set}
use Rattle.std.proofs.lemmas.Bool.{cases_eq, eqb-true}
use Rattle.std.proofs.lemmas.List.{get_or-set_same, get_or-set_other, length-map}
use Rattle.std.proofs.lemmas.List.Elements.{All-head, All-tail, Contains-append_left, Contains-append_right, Contains-append_cases}
use Rattle.ws_action.specs.Actions.{Action}
use Rattle.ws_action.proofs.Members.{none_in_empty, head_or_later, at_head, later}
use Rattle.ws_version_vector.specs.Counts.{counts_at, AreBelow, AreRaisedAndShared, is_among}
use Rattle.ws_version_vector.specs.Taken.{replica_took}
use Rattle.ws_version_vector.proofs.Told.{grown as with_batch, among_first, among_later}
use Rattle.ws_version_vector.proofs.Kept.{raised_kept, shared_kept, AnyTook, same_kept, within_below}
use Rattle.ws_replica.specs.Builds as numbered
use Rattle.ws_replica.specs.Builds.{target_of, builds}
use Rattle.ws_replica.specs.Holdings.{Took}
use Rattle.ws_replica.specs.Reports.{TargetBuild, all_actions}
use Rattle.ws_replica.specs.declared.building.Target.{Target}
use Rattle.ws_session.specs.declared.replicas.SessionReplica.{SessionReplica}
use Rattle.ws_session.specs.declared.clock.WriteClock.{WriteClock}
use Rattle.ws_session.specs.World.{World, ReplicaModel, grown_by, held_by, sharing, after_builds, refusals, AfterBy, After}
use Rattle.ws_command.specs.declared.refusal.Refusal.{Refusal}
use Rattle.ws_command.specs.Commands.{Build}
use Rattle.ws_command.specs.Refusals.{first_of}
use Rattle.ws_session.specs.Representation.{AllRepresent, AreApart, replica_names, IsTarget, AreWritten, AreCompiled, writes_in, replica_actions}
use Rattle.ws_session.proofs.Building.{took_read, same_held, same_tests, targets_within}
use Rattle.ws_session.proofs.Joining.{from_flat, into_flat}
use Rattle.ws_session.proofs.Settled.{took_of}
use Rattle.ws_session.proofs.Standings.{same_length}
use Rattle.ws_session.proofs.Taken.{took_actions}

abbrev pub numbers_of : List Target → List ℕ
numbers_of targets = map (λ t. t.replica) targets

among_builds : (k : ℕ) (targets : List Target) → is_among k (numbers_of targets) ≡ builds (map target_of targets) k
among_builds k [] = refl
among_builds k (t ∷ targets) = ap (λ b. (t.replica == k) || b) (among_builds k targets)

by_or : {P : Type 0} (a b : Bool) → (a || b) ≡ true → (a ≡ true → P) → (b ≡ true → P) → P
by_or true b e f g = f refl
by_or false b e f g = g e

both_tests : (b : Bool) → b ≡ false → b ≡ true → ⊥
both_tests true e f = cc
both_tests false e f = cc

among_within : (n k : ℕ) (targets : List Target) → All (λ t. t.replica < n) targets → is_among k (numbers_of targets) ≡ true → k < n
among_within n k [] h e = cc
among_within n k (t ∷ targets) h e =
    by_or (t.replica == k) (is_among k (numbers_of targets)) e
    (λ here. let same = eqb-true t.replica k here in let lt = All-head (λ (u : Target). u.replica < n) t targets h in omega (arith, same, lt))
    (λ later. among_within n k targets (All-tail (λ (u : Target). u.replica < n) t targets h) later)

-- ---- what sharing makes of what each took

abbrev shared_by : (ReplicaModel → Bool) → List Action → ReplicaModel → ReplicaModel
shared_by test actions r = if test r then grown_by r [] actions else r

grown_actions : (b : Bool) (r : ReplicaModel) (actions : List Action) → b ≡ true → (if b then grown_by r [] actions else r).actions ≡ r.actions ++ actions
grown_actions true r actions e = refl
grown_actions false r actions e = cc

kept_actions : (b : Bool) (r : ReplicaModel) (actions : List Action) → b ≡ false → (if b then grown_by r [] actions else r).actions ≡ r.actions
kept_actions true r actions e = cc
kept_actions false r actions e = refl

kept_writes : (b : Bool) (r : ReplicaModel) (actions : List Action) → (if b then grown_by r [] actions else r).writes ≡ r.writes
kept_writes true r actions = append-nil r.writes
kept_writes false r actions = refl

module _ (test : ReplicaModel → Bool) (actions : List Action) where
  share_yes : (rs : List ReplicaModel) (k : ℕ) → k < length rs → ((r : ReplicaModel) → slice_get rs k ≡ Some r → test r ≡ true) → replica_took k (replica_actions (map (shared_by test actions) rs)) ≡ replica_took k (replica_actions rs) ++ actions
  share_yes [] k lt h = absurd (omega (arith, lt))
  share_yes (r ∷ rs) zero lt h = grown_actions (test r) r actions (h r refl)
  share_yes (r ∷ rs) (suc k) lt h = share_yes rs k (omega (arith, lt)) h

  share_no : (rs : List ReplicaModel) (k : ℕ) → ((r : ReplicaModel) → slice_get rs k ≡ Some r → test r ≡ false) → replica_took k (replica_actions (map (shared_by test actions) rs)) ≡ replica_took k (replica_actions rs)
  share_no [] k h = refl
  share_no (r ∷ rs) zero h = kept_actions (test r) r actions (h r refl)
  share_no (r ∷ rs) (suc k) h = share_no rs k h

  share_writes : (rs : List ReplicaModel) (k : ℕ) → replica_took k (writes_in (map (shared_by test actions) rs)) ≡ replica_took k (writes_in rs)
  share_writes [] k = refl
  share_writes (r ∷ rs) zero = kept_writes (test r) r actions
  share_writes (r ∷ rs) (suc k) = share_writes rs k

-- no build changes what was written
pub same_written : (asked : List (List ℕ × List ℕ)) (world : World) (builds : Option (List TargetBuild)) (k : ℕ) → replica_took k (writes_in (after_builds world asked builds).replicas) ≡ replica_took k (writes_in world.replicas)
same_written asked world None k = refl
same_written asked world (Some all) k = share_writes (λ r. list_any (λ t. bytes_eq r.name t.0) asked) (held_by world asked ++ all_actions world.edition all) world.replicas k

-- ---- what is held by those that build

held_any : (rs : List ReplicaModel) (targets : List Target) (a : Action) → Contains (numbered.held_by (took_of rs) (map target_of targets)) a → AnyTook (numbers_of targets) (replica_actions rs) a
held_any rs [] a c = absurd (omega (arith, c.1))
held_any rs (t ∷ targets) a c =
    let its : (numbered.took_at (took_of rs) t.replica).actions ≡ replica_took t.replica (replica_actions rs) = ap (λ (k : Took). k.actions) (took_read rs t.replica) ∙ sym (took_actions rs t.replica) in
    elim (Contains-append_cases ((numbered.took_at (took_of rs) t.replica).actions) (numbered.held_by (took_of rs) (map target_of targets)) a c) [
      | inl l ↦ (t.replica, among_first t.replica (numbers_of targets), subst (λ z. Contains z a) its l)
      | inr r ↦ let rest = held_any rs targets a r in (rest.0, among_later t.replica rest.0 (numbers_of targets) rest.1, rest.2)
    ]

any_held : (rs : List ReplicaModel) (targets : List Target) (k : ℕ) (a : Action) → is_among k (numbers_of targets) ≡ true → Contains (replica_took k (replica_actions rs)) a → Contains (numbered.held_by (took_of rs) (map target_of targets)) a
any_held rs [] k a e c = cc
any_held rs (t ∷ targets) k a e c =
    let its : (numbered.took_at (took_of rs) t.replica).actions ≡ replica_took t.replica (replica_actions rs) = ap (λ (u : Took). u.actions) (took_read rs t.replica) ∙ sym (took_actions rs t.replica) in
    let first : List Action = (numbered.took_at (took_of rs) t.replica).actions in
    let rest : List Action = numbered.held_by (took_of rs) (map target_of targets) in
    by_or (t.replica == k) (is_among k (numbers_of targets)) e
    (λ here. Contains-append_left first rest a (subst (λ z. Contains z a) (sym its) (subst (λ j. Contains (replica_took j (replica_actions rs)) a) (sym (eqb-true t.replica k here)) c)))
    (λ later. Contains-append_right first rest a (any_held rs targets k a later c))

-- ---- who holds all of it

among_contains : (k : ℕ) (ks : List ℕ) → is_among k ks ≡ true → Contains ks k
among_contains k [] e = cc
among_contains k (x ∷ ks) e =
    by_or (x == k) (is_among k ks) e (λ here. at_head {A = ℕ} ks x k (eqb-true x k here)) (λ rest. later {A = ℕ} x ks k (among_contains k ks rest))

contains_among : (k : ℕ) (ks : List ℕ) → Contains ks k → is_among k ks ≡ true
contains_among k [] c = absurd (none_in_empty {A = ℕ} k c)
contains_among k (x ∷ ks) c = elim (head_or_later {A = ℕ} x ks k c) [
  | inl same ↦ subst (λ z. is_among z (x ∷ ks) ≡ true) same (among_first x ks)
  | inr rest ↦ among_later x k ks (contains_among k ks rest)
]

-- the numbers that targets name are those of replicas
pub numbers_within : (n : ℕ) (targets : List Target) → All (λ t. t.replica < n) targets → (k : ℕ) → Contains (numbers_of targets) k → k < n
numbers_within n [] h k c = absurd (none_in_empty {A = ℕ} k c)
numbers_within n (t ∷ targets) h k c = elim (head_or_later {A = ℕ} t.replica (numbers_of targets) k c) [
  | inl same ↦ subst (λ z. z < n) same (All-head (λ (u : Target). u.replica < n) t targets h)
  | inr rest ↦ numbers_within n targets (All-tail (λ (u : Target). u.replica < n) t targets h) k rest
]

-- those that have all results that any of the targets has hold them together
pub hold_all : (compiled : List (List ℕ)) (world : World) (targets : List Target) (holders : List ℕ) → AreCompiled compiled world → AreBelow compiled (numbers_of targets) holders → ((k : ℕ) → Contains holders k → Contains (numbers_of targets) k)
    → numbered.HoldAll (took_of world.replicas) holders (map target_of targets)
hold_all compiled world targets holders kept below among a =
    let rs = world.replicas in
    let its : (k : ℕ) → (numbered.took_at (took_of rs) k).actions ≡ replica_took k (replica_actions rs) = λ k. ap (λ (u : Took). u.actions) (took_read rs k) ∙ sym (took_actions rs k) in (
      λ c.
          let one = from_flat (λ k. (numbered.took_at (took_of rs) k).actions) holders a c in
          any_held rs targets one.0 a (contains_among one.0 (numbers_of targets) (among one.0 one.1)) (subst (λ z. Contains z a) (its one.0) one.2),
      λ c.
          let one = held_any rs targets a c in
          let top = below one.0 (among_contains one.0 (numbers_of targets) one.1) in
          let held = within_below kept.0 one.0 top.0 (counts_at one.0 compiled) (counts_at top.0 compiled) (replica_took one.0 (replica_actions rs)) (replica_took top.0 (replica_actions rs)) (kept.1 one.0) (kept.1 top.0) top.2 a one.2 in
          into_flat (λ k. (numbered.took_at (took_of rs) k).actions) holders top.0 a top.1 (subst (λ z. Contains z a) (sym (its top.0)) held),
    )

-- ---- the batch that was compiled, at the first of them

module _ (sets : List (List Action)) (k : ℕ) (lt : k < length sets) (batch : List Action) where
  middle : List (List Action)
  middle = set sets k (replica_took k sets ++ batch)

  middle_here : replica_took k middle ≡ replica_took k sets ++ batch
  unfolding middle
  middle_here = get_or-set_same sets k (replica_took k sets ++ batch) [] lt

  middle_other : (j : ℕ) → j ≢ k → replica_took j middle ≡ replica_took j sets
  unfolding middle
  middle_other j ne = get_or-set_other sets k j (replica_took k sets ++ batch) [] ne

  middle_more : (j : ℕ) (a : Action) → Contains (replica_took j sets) a → Contains (replica_took j middle) a
  middle_more j a c = elim (cases_eq j k) [
    | inl e ↦ subst (λ z. Contains (replica_took z middle) a) (sym e)
        (subst (λ z. Contains z a) (sym middle_here) (Contains-append_left (replica_took k sets) batch a (subst (λ z. Contains (replica_took z sets) a) e c)))
    | inr ne ↦ subst (λ z. Contains z a) (sym (middle_other j ne)) c
  ]

  middle_batch : (a : Action) → Contains batch a → Contains (replica_took k middle) a
  middle_batch a c = subst (λ z. Contains z a) (sym middle_here) (Contains-append_right (replica_took k sets) batch a c)

  middle_cases : (j : ℕ) (a : Action) → Contains (replica_took j middle) a → Contains (replica_took j sets) a ⊎ Contains batch a
  middle_cases j a c = elim (cases_eq j k) [
    | inl e ↦ elim (Contains-append_cases (replica_took k sets) batch a (subst (λ z. Contains z a) middle_here (subst (λ z. Contains (replica_took z middle) a) e c))) [
      | inl old ↦ inl (subst (λ z. Contains (replica_took z sets) a) (sym e) old)
      | inr new ↦ inr new
    ]
    | inr ne ↦ inl (subst (λ z. Contains z a) (middle_other j ne) c)
  ]

module _ (asked : List (List ℕ × List ℕ)) (targets : List Target) (world : World) (ns : List SessionReplica) (h : AllRepresent ns world.replicas) (apart : AreApart (replica_names world)) (are : AllZip (IsTarget ns) asked (map target_of targets)) (batch : List Action) where
  test_is : (k : ℕ) (b : Bool) → is_among k (numbers_of targets) ≡ b → (r : ReplicaModel) → slice_get world.replicas k ≡ Some r → list_any (λ t. bytes_eq r.name t.0) asked ≡ b
  test_is k b e r at = same_tests world ns h apart asked (map target_of targets) are k r at ∙ sym (among_builds k targets) ∙ e

  inside : (k : ℕ) → is_among k (numbers_of targets) ≡ true → k < length world.replicas
  inside k e = let lt = among_within (length ns) k targets (targets_within ns asked targets are) e in let same = same_length ns world.replicas h in omega (arith, lt, same)

  when_among : (k : ℕ) → is_among k (numbers_of targets) ≡ true → replica_took k (replica_actions (sharing asked (held_by world asked ++ batch) world.replicas)) ≡ replica_took k (replica_actions world.replicas) ++ (held_by world asked ++ batch)
  when_among k e = share_yes (λ r. list_any (λ t. bytes_eq r.name t.0) asked) (held_by world asked ++ batch) world.replicas k (inside k e) (test_is k true e)

  when_apart : (k : ℕ) → is_among k (numbers_of targets) ≡ false → replica_took k (replica_actions (sharing asked (held_by world asked ++ batch) world.replicas)) ≡ replica_took k (replica_actions world.replicas)
  when_apart k e = share_no (λ r. list_any (λ t. bytes_eq r.name t.0) asked) (held_by world asked ++ batch) world.replicas k (test_is k false e)

  to_any : (a : Action) → Contains (held_by world asked) a → AnyTook (numbers_of targets) (replica_actions world.replicas) a
  to_any a c = held_any world.replicas targets a (subst (λ z. Contains z a) (sym (same_held world ns h asked (map target_of targets) are)) c)

  of_any : (k : ℕ) (a : Action) → is_among k (numbers_of targets) ≡ true → Contains (replica_took k (replica_actions world.replicas)) a → Contains (held_by world asked) a
  of_any k a e c = subst (λ z. Contains z a) (same_held world ns h asked (map target_of targets) are) (any_held world.replicas targets k a e c)

  -- those that build took the same as those that hold the batch
  module _ (first : ℕ) (lt : first < length (replica_actions world.replicas)) (is_first : is_among first (numbers_of targets) ≡ true) where
    from_new : (k : ℕ) → is_among k (numbers_of targets) ≡ true → (a : Action) → Contains (replica_took k (replica_actions (sharing asked (held_by world asked ++ batch) world.replicas))) a
        → AnyTook (numbers_of targets) (middle (replica_actions world.replicas) first lt batch) a
    from_new k e a c =
        let sets = replica_actions world.replicas in
        elim (Contains-append_cases (replica_took k sets) (held_by world asked ++ batch) a (subst (λ z. Contains z a) (when_among k e) c)) [
          | inl own ↦ (k, e, middle_more sets first lt batch k a own)
          | inr more ↦ elim (Contains-append_cases (held_by world asked) batch a more) [
            | inl held ↦ let one = to_any a held in (one.0, one.1, middle_more sets first lt batch one.0 a one.2)
            | inr new ↦ (first, is_first, middle_batch sets first lt batch a new)
          ]
        ]

    into_new : (k : ℕ) → is_among k (numbers_of targets) ≡ true → (a : Action) → AnyTook (numbers_of targets) (middle (replica_actions world.replicas) first lt batch) a
        → Contains (replica_took k (replica_actions (sharing asked (held_by world asked ++ batch) world.replicas))) a
    into_new k e a t =
        let sets = replica_actions world.replicas in
        let more : Contains (held_by world asked ++ batch) a = elim (middle_cases sets first lt batch t.0 a t.2) [
          | inl old ↦ Contains-append_left (held_by world asked) batch a (of_any t.0 a t.1 old)
          | inr new ↦ Contains-append_right (held_by world asked) batch a new
        ] in
        subst (λ z. Contains z a) (sym (when_among k e)) (Contains-append_right (replica_took k sets) (held_by world asked ++ batch) a more)

    others_new : (k : ℕ) → is_among k (numbers_of targets) ≡ false → replica_took k (replica_actions (sharing asked (held_by world asked ++ batch) world.replicas)) ≡ replica_took k (middle (replica_actions world.replicas) first lt batch)
    others_new k e = when_apart k e ∙ sym (middle_other (replica_actions world.replicas) first lt batch k (λ same. absurd (both_tests (is_among k (numbers_of targets)) e (subst (λ z. is_among z (numbers_of targets) ≡ true) (sym same) is_first))))

pub build_counted : (asked : List (List ℕ × List ℕ)) (targets : List Target) (world : World) (ns : List SessionReplica) → AllRepresent ns world.replicas → AreApart (replica_names world) → AllZip (IsTarget ns) asked (map target_of targets) → (all : List TargetBuild)
    → (compiled new : List (List ℕ)) → AreRaisedAndShared (numbers_of targets) compiled new → AreCompiled compiled world → AreCompiled new (after_builds world asked (Some all))
build_counted asked [] world ns h apart are all compiled new s kept = (
  kept.0,
  shared_kept kept.0 [] compiled new (replica_actions world.replicas) (replica_actions (after_builds world asked (Some all)).replicas) kept.1 s
      (λ k e. cc) (λ k e. cc) (λ k e. when_apart asked [] world ns h apart are (all_actions world.edition all) k e),
)
build_counted asked (t ∷ targets) world ns h apart are all compiled new s kept =
    let batch : List Action = all_actions world.edition all in
    let sets : List (List Action) = replica_actions world.replicas in
    let is_first = among_first t.replica (numbers_of targets) in
    let within = inside asked (t ∷ targets) world ns h apart are batch t.replica is_first in
    let long = length-map world.replicas (λ r. r.actions) in
    let lt : t.replica < length sets = omega (arith, within, long) in
    let mid : List (List Action) = middle sets t.replica lt batch in
    let raised = raised_kept kept.0 t.replica batch compiled s.0 s.1 sets mid kept.1 s.2 s.3 (middle_here sets t.replica lt batch) (middle_other sets t.replica lt batch) in (
      with_batch kept.0 t.replica batch,
      shared_kept (with_batch kept.0 t.replica batch) (numbers_of (t ∷ targets)) s.0 new mid (replica_actions (after_builds world asked (Some all)).replicas) raised s.4
          (from_new asked (t ∷ targets) world ns h apart are batch t.replica lt is_first) (into_new asked (t ∷ targets) world ns h apart are batch t.replica lt is_first) (others_new asked (t ∷ targets) world ns h apart are batch t.replica lt is_first),
    )

written_by : (refusal : Option Refusal) (asked : List (List ℕ × List ℕ)) (text : Option (List ℕ)) (world next : World) → AfterBy refusal (Build asked) text world next → (k : ℕ) → replica_took k (writes_in next.replicas) ≡ replica_took k (writes_in world.replicas)
written_by (Some refusal) asked text world next a k = ap (λ (w : World). replica_took k (writes_in w.replicas)) a
written_by None asked text world next a k = ap (λ (w : World). replica_took k (writes_in w.replicas)) a.2 ∙ same_written asked world a.0 k

pub written_after : (asked : List (List ℕ × List ℕ)) (text : Option (List ℕ)) (world next : World) (wrote : WriteClock) → After (Build asked) text world next
    → AreWritten wrote world.replicas → AreWritten wrote next.replicas
unfolding After
written_after asked text world next wrote a h =
    (h.0, same_kept h.0 wrote.counts (writes_in world.replicas) (writes_in next.replicas) (written_by (first_of (refusals (Build asked) text world)) asked text world next a) h.1, h.2)
