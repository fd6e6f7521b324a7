-- No two replicas of a session have one name.
use Rattle.std.proofs.Common.{◌≡◌, ℕ, zero, suc, List, [], ◌∷◌, ◌++◌, map, Option, None, Some, true, false, Bool, refl, sym, ap, ◌∙◌, cond, subst, inl, inr}
use Rattle.std.specs.Prelude.{is_some, if◌then◌else◌}
use Rattle.std.specs.List.{Contains, list_any, slice_get}
use Rattle.std.specs.Str.{bytes_eq}
use Rattle.std.proofs.lemmas.List.Elements.{Contains-push_cases}
use Rattle.std.proofs.lemmas.Slice.Eq.{bytes_eq-Decides}
use Rattle.ws_version.specs.Writes.{Write as AWrite}
use Rattle.ws_action.specs.Actions.{Action}
use Rattle.ws_action.proofs.Members.{none_in_empty, head_or_later, later, at_head}
use Rattle.ws_replica.specs.Reports.{TargetBuild}
use Rattle.ws_replica.proofs.Numbered.{some_same}
use Rattle.ws_command.specs.declared.refusal.Refusal.{Refusal}
use Rattle.ws_command.specs.Commands.{Command, Nothing, Bad, Create, Write, Remove, Apply, Merge, Settle, Build, Run, Ids, Show, Use}
use Rattle.ws_command.specs.Refusals.{first_of}
use Rattle.ws_session.specs.World.{World, ReplicaModel, replica_at, taking, grown_by, sharing, after_builds, refusals, Accepted, AfterBy, After}
use Rattle.ws_session.specs.Representation.{AreApart, replica_names}

abbrev pub names : List ReplicaModel → List (List ℕ)
names rs = map (λ r. r.name) rs

-- ---- one name, one number

name_read : (rs : List ReplicaModel) (k : ℕ) (r : ReplicaModel) → slice_get rs k ≡ Some r → Contains (names rs) r.name
name_read [] k r e = cc
name_read (q ∷ rs) zero r e = at_head (names rs) q.name r.name (ap (λ (z : ReplicaModel). z.name) (some_same q r e))
name_read (q ∷ rs) (suc k) r e = later q.name (names rs) r.name (name_read rs k r e)

pub one_number : (rs : List ReplicaModel) → AreApart (names rs) → (k j : ℕ) (r q : ReplicaModel) → slice_get rs k ≡ Some r → slice_get rs j ≡ Some q → r.name ≡ q.name → k ≡ j
one_number [] a k j r q e f same = cc
one_number (x ∷ rs) a zero zero r q e f same = refl
one_number (x ∷ rs) a zero (suc j) r q e f same =
    absurd (a.0 (subst (Contains (names rs)) (sym same ∙ sym (ap (λ (z : ReplicaModel). z.name) (some_same x r e))) (name_read rs j q f)))
one_number (x ∷ rs) a (suc k) zero r q e f same =
    absurd (a.0 (subst (Contains (names rs)) (same ∙ sym (ap (λ (z : ReplicaModel). z.name) (some_same x q f))) (name_read rs k r e)))
one_number (x ∷ rs) a (suc k) (suc j) r q e f same = ap (λ n. suc n) (one_number rs a.1 k j r q e f same)

-- ---- names after a command

taking_names : (name : List ℕ) (writes : List AWrite) (actions : List Action) (rs : List ReplicaModel) → names (taking name writes actions rs) ≡ names rs
taking_names name writes actions [] = refl
taking_names name writes actions (r ∷ rs) =
    let by : (b : Bool) → names (cond b (grown_by r writes actions ∷ rs) (r ∷ taking name writes actions rs)) ≡ r.name ∷ names rs =
    λ b. elim b as (λ z. names (cond z (grown_by r writes actions ∷ rs) (r ∷ taking name writes actions rs)) ≡ r.name ∷ names rs) [
      | true ↦ refl
      | false ↦ ap (λ ns. r.name ∷ ns) (taking_names name writes actions rs)
    ] in by (bytes_eq r.name name)

all_names : (writes : List AWrite) (actions : List Action) (rs : List ReplicaModel) → names (map (λ r. record { name = r.name; number = r.number; writes = writes; actions = actions }) rs) ≡ names rs
all_names writes actions [] = refl
all_names writes actions (r ∷ rs) = ap (λ ns. r.name ∷ ns) (all_names writes actions rs)

sharing_names : (targets : List (List ℕ × List ℕ)) (actions : List Action) (rs : List ReplicaModel) → names (sharing targets actions rs) ≡ names rs
sharing_names targets actions [] = refl
sharing_names targets actions (r ∷ rs) =
    let by : (b : Bool) → (if b then grown_by r [] actions else r).name ≡ r.name = λ b. elim b as (λ z. (if z then grown_by r [] actions else r).name ≡ r.name) [ true ↦ refl | false ↦ refl ] in
    ap (λ n. n ∷ names (sharing targets actions rs)) (by (list_any (λ t. bytes_eq r.name t.0) targets)) ∙ ap (λ ns. r.name ∷ ns) (sharing_names targets actions rs)

-- a name that isn't known is no replica's
unknown : (name : List ℕ) (rs : List ReplicaModel) → is_some (replica_at name rs) ≡ false → ¬ (Contains (names rs) name)
unknown name [] e c = none_in_empty name c
unknown name (r ∷ rs) e c =
    let here : (b : Bool) → is_some (cond b (Some r) (replica_at name rs)) ≡ false → b ≡ true → ⊥ = λ b f same. let g : is_some (cond true (Some r) (replica_at name rs)) ≡ false = subst (λ z. is_some (cond z (Some r) (replica_at name rs)) ≡ false) same f in cc in
    let past : (b : Bool) → is_some (cond b (Some r) (replica_at name rs)) ≡ false → is_some (replica_at name rs) ≡ false =
    λ b. elim b as (λ z. is_some (cond z (Some r) (replica_at name rs)) ≡ false → is_some (replica_at name rs) ≡ false) [ true ↦ λ f. cc | false ↦ λ f. f ] in
    elim (head_or_later r.name (names rs) name c) [
      | inl same ↦ here (bytes_eq r.name name) e ((bytes_eq-Decides r.name name).1 same)
      | inr rest ↦ unknown name rs (past (bytes_eq r.name name) e) rest
    ]

apart_push : (ns : List (List ℕ)) (name : List ℕ) → AreApart ns → ¬ (Contains ns name) → AreApart (ns ++ name ∷ [])
apart_push [] name a new = (none_in_empty name, tt)
apart_push (x ∷ ns) name a new = (
  λ c. elim (Contains-push_cases ns name x c) [ inl l ↦ a.0 l | inr same ↦ new (at_head ns x name (sym same)) ],
  apart_push ns name a.1 (λ c. new (later x ns name c)),
)

names_push : (rs : List ReplicaModel) (r : ReplicaModel) → names (rs ++ r ∷ []) ≡ names rs ++ r.name ∷ []
names_push [] r = refl
names_push (q ∷ rs) r = ap (λ ns. q.name ∷ ns) (names_push rs r)

second_none : (a b : Bool) (x y : Refusal) → cond a (Some x) (cond b (Some y) None) ≡ None → b ≡ false
second_none a false x y e = refl
second_none true true x y e = cc
second_none false true x y e = cc

kept : (world next : World) → replica_names next ≡ replica_names world → AreApart (replica_names world) → AreApart (replica_names next)
kept world next e a = subst AreApart (sym e) a

apart_builds : (world : World) (targets : List (List ℕ × List ℕ)) (builds : Option (List TargetBuild)) → replica_names (after_builds world targets builds) ≡ replica_names world
apart_builds world targets None = refl
apart_builds world targets (Some builds) = sharing_names targets _ world.replicas

apart_accepted : (command : Command) (text : Option (List ℕ)) (world next : World) → first_of (refusals command text world) ≡ None → Accepted command text world next → AreApart (replica_names world) → AreApart (replica_names next)
apart_accepted Nothing text world next none e = kept world next (ap replica_names e)
apart_accepted Bad text world next none e = kept world next (ap replica_names e)
apart_accepted (Create name) text world next none e = λ a.
    subst AreApart (sym (ap replica_names e ∙ names_push world.replicas _)) (apart_push (replica_names world) name a (unknown name world.replicas (second_none _ _ _ _ none)))
apart_accepted (Write name path lines) text world next none e = kept world next (ap replica_names e ∙ taking_names name _ _ world.replicas)
apart_accepted (Remove name path) text world next none e = kept world next (ap replica_names e ∙ taking_names name _ _ world.replicas)
apart_accepted (Apply name path counter number lines) text world next none e = kept world next (ap replica_names e ∙ taking_names name _ _ world.replicas)
apart_accepted (Merge name other) text world next none e = kept world next (ap replica_names e ∙ taking_names name _ _ world.replicas)
apart_accepted Settle text world next none e = kept world next (ap replica_names e ∙ all_names _ _ world.replicas)
apart_accepted (Build targets) text world next none (builds, are, e) = kept world next (ap replica_names e ∙ apart_builds world targets builds)
apart_accepted (Run name directory ticks) text world next none (plan, is, e) = kept world next (ap replica_names e)
apart_accepted (Ids name directory) text world next none (plan, is, e) = kept world next (ap replica_names e)
apart_accepted (Show name) text world next none e = kept world next (ap replica_names e)
apart_accepted (Use edition) text world next none e = kept world next (ap replica_names e)

apart_by : (refusal : Option Refusal) (command : Command) (text : Option (List ℕ)) (world next : World) → first_of (refusals command text world) ≡ refusal → AfterBy refusal command text world next → AreApart (replica_names world) → AreApart (replica_names next)
apart_by None command text world next is after = apart_accepted command text world next is after
apart_by (Some refusal) command text world next is after = kept world next (ap replica_names after)

pub apart_after : (command : Command) (text : Option (List ℕ)) (world next : World) → After command text world next → AreApart (replica_names world) → AreApart (replica_names next)
unfolding After
apart_after command text world next after = apart_by (first_of (refusals command text world)) command text world next refl after
