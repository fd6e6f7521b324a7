-- What is hashed in a world is hashed in all behind it.
use Rattle.std.proofs.Common.{◌≡◌, ℕ, zero, suc, Bool, true, false, cond, List, [], ◌∷◌, ◌++◌, map, Option, None, Some, sym, ◌∙◌, subst, inl, inr}
use Rattle.std.specs.Prelude.{if◌then◌else◌}
use Rattle.std.specs.List.{Contains, flat_map, list_any}
use Rattle.std.specs.Str.{bytes_eq}
use Rattle.std.proofs.lemmas.Grind.{flat_map-append}
use Rattle.std.proofs.lemmas.List.Elements.{Contains-append_left, Contains-append_right, Contains-append_cases}
use Rattle.go_text.specs.declared.edition.Edition.{Edition}
use Rattle.go_text.specs.declared.edition.Edition.TheVariants.{One}
use Rattle.ws_version.specs.Writes.{Write as AWrite}
use Rattle.ws_action.specs.Actions.{Action}
use Rattle.ws_action.specs.Clash.{Includes, NoClash, hashed_actions}
use Rattle.ws_action.specs.Clash as clash
use Rattle.ws_replica.specs.Reports.{TargetBuild, all_actions}
use Rattle.ws_command.specs.declared.refusal.Refusal.{Refusal}
use Rattle.ws_command.specs.Commands.{Command, Nothing, Bad, Create, Write, Remove, Apply, Merge, Settle, Build, Run, Ids, Show, Use, command_of, text_lines, text_of}
use Rattle.ws_command.specs.Lines.{lines_of}
use Rattle.ws_command.specs.Refusals.{first_of}
use Rattle.ws_session.specs.World.{World, ReplicaModel, Accepted, AfterBy, After, empty_world, hashed_texts, refusals, taking, grown_by, after_builds, texts_of_replica}
use Rattle.ws_session.specs.Text.{ReachedFrom}
use Rattle.ws_session.proofs.OneText.{one_after}
use Rattle.ws_keep.specs.Keeping.{EndsFrom, IsClearFrom, Restores}
use Rattle.ws_keep.proofs.Forever.{like_hashed, world_of}

-- ---- actions and replicas

actions_more : (actions more : List Action) (s : List ℕ) → Contains (hashed_actions actions) s → Contains (hashed_actions (actions ++ more)) s
actions_more actions more s c =
    subst (λ (z : List (List ℕ)). Contains z s) (sym (flat_map-append clash.hashed actions more)) (Contains-append_left (hashed_actions actions) (hashed_actions more) s c)

actions_behind : (actions more : List Action) (s : List ℕ) → Contains (hashed_actions more) s → Contains (hashed_actions (actions ++ more)) s
actions_behind actions more s c =
    subst (λ (z : List (List ℕ)). Contains z s) (sym (flat_map-append clash.hashed actions more)) (Contains-append_right (hashed_actions actions) (hashed_actions more) s c)

replicas_more : (rs more : List ReplicaModel) (s : List ℕ) → Contains (flat_map texts_of_replica rs) s → Contains (flat_map texts_of_replica (rs ++ more)) s
replicas_more rs more s c =
    subst (λ (z : List (List ℕ)). Contains z s) (sym (flat_map-append texts_of_replica rs more)) (Contains-append_left (flat_map texts_of_replica rs) (flat_map texts_of_replica more) s c)

-- one replica takes more
taken_one : (named : Bool) (r : ReplicaModel) (writes : List AWrite) (actions : List Action) (rs rest : List ReplicaModel) (s : List ℕ)
    → (Contains (flat_map texts_of_replica rs) s → Contains (flat_map texts_of_replica rest) s) → Contains (flat_map texts_of_replica (r ∷ rs)) s
    → Contains (flat_map texts_of_replica (cond named (grown_by r writes actions ∷ rs) (r ∷ rest))) s
taken_one true r writes actions rs rest s f c = elim (Contains-append_cases (texts_of_replica r) (flat_map texts_of_replica rs) s c) [
  | inl l ↦ Contains-append_left (texts_of_replica (grown_by r writes actions)) (flat_map texts_of_replica rs) s (actions_more r.actions actions s l)
  | inr m ↦ Contains-append_right (texts_of_replica (grown_by r writes actions)) (flat_map texts_of_replica rs) s m
]
taken_one false r writes actions rs rest s f c = elim (Contains-append_cases (texts_of_replica r) (flat_map texts_of_replica rs) s c) [
  | inl l ↦ Contains-append_left (texts_of_replica r) (flat_map texts_of_replica rest) s l
  | inr m ↦ Contains-append_right (texts_of_replica r) (flat_map texts_of_replica rest) s (f m)
]

taken_more : (name : List ℕ) (writes : List AWrite) (actions : List Action) (rs : List ReplicaModel) (s : List ℕ) → Contains (flat_map texts_of_replica rs) s
    → Contains (flat_map texts_of_replica (taking name writes actions rs)) s
taken_more name writes actions [] s c = c
taken_more name writes actions (r ∷ rs) s c =
    taken_one (bytes_eq r.name name) r writes actions rs (taking name writes actions rs) s (λ m. taken_more name writes actions rs s m) c

-- all replicas take all
settled_one : (writes : List AWrite) (actions : List Action) (rs : List ReplicaModel) (s : List ℕ) → (Contains (flat_map texts_of_replica rs) s → Contains (hashed_actions actions) s)
    → Contains (flat_map texts_of_replica rs) s
    → Contains (flat_map texts_of_replica (map (λ (r : ReplicaModel). record { name = r.name; number = r.number; writes = writes; actions = actions }) rs)) s
settled_one writes actions [] s f c = c
settled_one writes actions (r ∷ rs) s f c =
    Contains-append_left (hashed_actions actions) (flat_map texts_of_replica (map (λ (r : ReplicaModel). record { name = r.name; number = r.number; writes = writes; actions = actions }) rs)) s (f c)

settled_all : (rs : List ReplicaModel) (s : List ℕ) → Contains (flat_map texts_of_replica rs) s → Contains (hashed_actions (flat_map (λ (r : ReplicaModel). r.actions) rs)) s
settled_all [] s c = c
settled_all (r ∷ rs) s c = elim (Contains-append_cases (texts_of_replica r) (flat_map texts_of_replica rs) s c) [
  | inl l ↦ actions_more r.actions (flat_map (λ (r : ReplicaModel). r.actions) rs) s l
  | inr m ↦ actions_behind r.actions (flat_map (λ (r : ReplicaModel). r.actions) rs) s (settled_all rs s m)
]

-- some replicas take more actions
shared_one : (shares : Bool) (r : ReplicaModel) (actions : List Action) (s : List ℕ) → Contains (texts_of_replica r) s → Contains (texts_of_replica (if shares then grown_by r [] actions else r)) s
shared_one false r actions s c = c
shared_one true r actions s c = actions_more r.actions actions s c

shared_more : (test : ReplicaModel → Bool) (actions : List Action) (rs : List ReplicaModel) (s : List ℕ) → Contains (flat_map texts_of_replica rs) s
    → Contains (flat_map texts_of_replica (map (λ r. if test r then grown_by r [] actions else r) rs)) s
shared_more test actions [] s c = c
shared_more test actions (r ∷ rs) s c =
    let head : List (List ℕ) = texts_of_replica (if test r then grown_by r [] actions else r) in
    let rest : List (List ℕ) = flat_map texts_of_replica (map (λ r. if test r then grown_by r [] actions else r) rs) in
    elim (Contains-append_cases (texts_of_replica r) (flat_map texts_of_replica rs) s c) [
      | inl l ↦ Contains-append_left head rest s (shared_one (test r) r actions s l)
      | inr m ↦ Contains-append_right head rest s (shared_more test actions rs s m)
    ]

-- ---- one command

hashed_more : (world : World) (edition : Edition) (replicas : List ReplicaModel) (sought : List Action)
    → ((s : List ℕ) → Contains (flat_map texts_of_replica world.replicas) s → Contains (flat_map texts_of_replica replicas) s)
    → ((s : List ℕ) → Contains (hashed_actions world.sought) s → Contains (hashed_actions sought) s) → Includes (hashed_texts (world_of edition replicas sought)) (hashed_texts world)
unfolding hashed_texts
hashed_more world edition replicas sought f g s c = elim (Contains-append_cases (flat_map texts_of_replica world.replicas) (hashed_actions world.sought) s c) [
  | inl l ↦ Contains-append_left (flat_map texts_of_replica replicas) (hashed_actions sought) s (f s l)
  | inr m ↦ Contains-append_right (flat_map texts_of_replica replicas) (hashed_actions sought) s (g s m)
]

grows_to : (world next to : World) → next ≡ to → Includes (hashed_texts to) (hashed_texts world) → Includes (hashed_texts next) (hashed_texts world)
grows_to world next to e f = subst (λ (w : World). Includes (hashed_texts w) (hashed_texts world)) (sym e) f

stays_hashed : (world next : World) → next ≡ world → Includes (hashed_texts next) (hashed_texts world)
stays_hashed world next e = grows_to world next world e (λ s c. c)

-- its replicas are these
with_more : (world next : World) (replicas : List ReplicaModel) → next ≡ world_of world.edition replicas world.sought
    → ((s : List ℕ) → Contains (flat_map texts_of_replica world.replicas) s → Contains (flat_map texts_of_replica replicas) s) → Includes (hashed_texts next) (hashed_texts world)
with_more world next replicas e f =
    grows_to world next (world_of world.edition replicas world.sought) e (hashed_more world world.edition replicas world.sought f (λ s c. c))

-- these actions were looked for too
seeks_more : (world next : World) (replicas : List ReplicaModel) (actions : List Action) → next ≡ world_of world.edition replicas (world.sought ++ actions)
    → ((s : List ℕ) → Contains (flat_map texts_of_replica world.replicas) s → Contains (flat_map texts_of_replica replicas) s) → Includes (hashed_texts next) (hashed_texts world)
seeks_more world next replicas actions e f =
    grows_to world next (world_of world.edition replicas (world.sought ++ actions)) e
    (hashed_more world world.edition replicas (world.sought ++ actions) f (actions_more world.sought actions))

built_more : (targets : List (List ℕ × List ℕ)) (world next : World) (builds : Option (List TargetBuild)) → next ≡ after_builds world targets builds → Includes (hashed_texts next) (hashed_texts world)
built_more targets world next None e = stays_hashed world next e
built_more targets world next (Some builds) e =
    seeks_more world next _ (all_actions world.edition builds) e (shared_more (λ r. list_any (λ t. bytes_eq r.name t.0) targets) _ world.replicas)

accepted_more : (c : Command) (text : Option (List ℕ)) (world next : World) → Accepted c text world next → Includes (hashed_texts next) (hashed_texts world)
accepted_more (Create name) text world next e = with_more world next _ e (replicas_more world.replicas _)
accepted_more (Write name path lines) text world next e = with_more world next _ e (taken_more name _ [] world.replicas)
accepted_more (Remove name path) text world next e = with_more world next _ e (taken_more name _ [] world.replicas)
accepted_more (Apply name path counter number lines) text world next e = with_more world next _ e (taken_more name _ [] world.replicas)
accepted_more (Merge name other) text world next e = with_more world next _ e (taken_more name _ _ world.replicas)
accepted_more Settle text world next e = with_more world next _ e (λ s. settled_one _ _ world.replicas s (settled_all world.replicas s))
accepted_more (Build targets) text world next (builds, are, e) = built_more targets world next builds e
accepted_more (Run name directory ticks) text world next (build, is, e) = seeks_more world next world.replicas _ e (λ s c. c)
accepted_more (Ids name directory) text world next (build, is, e) = seeks_more world next world.replicas _ e (λ s c. c)
accepted_more (Use edition) text world next e =
    grows_to world next (world_of edition world.replicas world.sought) e (hashed_more world edition world.replicas world.sought (λ s c. c) (λ s c. c))
accepted_more Nothing text world next e = stays_hashed world next e
accepted_more Bad text world next e = stays_hashed world next e
accepted_more (Show name) text world next e = stays_hashed world next e

by_more : (r : Option Refusal) (c : Command) (text : Option (List ℕ)) (world next : World) → AfterBy r c text world next → Includes (hashed_texts next) (hashed_texts world)
by_more None c text world next g = accepted_more c text world next g
by_more (Some r) c text world next g = stays_hashed world next g

after_more : (c : Command) (text : Option (List ℕ)) (world next : World) → After c text world next → Includes (hashed_texts next) (hashed_texts world)
unfolding After
after_more c text world next g = by_more (first_of (refusals c text world)) c text world next g

-- ---- scripts

ends_more : (taken : ℕ) (lines : List (List ℕ)) (world last : World) → EndsFrom taken lines world last → Includes (hashed_texts last) (hashed_texts world)
unfolding EndsFrom
ends_more taken [] world last e = stays_hashed world last e
ends_more (suc taken) (line ∷ lines) world last e = ends_more taken lines world last e
ends_more zero (line ∷ lines) world last (next, after, e) =
    let more = ends_more (text_lines (command_of line)) lines next last e in
    let first = after_more (command_of line) (text_of (text_lines (command_of line)) lines) world next after in
    λ s c. more s (first s c)

-- a script leaves one world
pub ends_once : (taken : ℕ) (lines : List (List ℕ)) (world a b : World) → EndsFrom taken lines world a → EndsFrom taken lines world b → a ≡ b
unfolding EndsFrom
ends_once taken [] world a b e f = e ∙ sym f
ends_once (suc taken) (line ∷ lines) world a b e f = ends_once taken lines world a b e f
ends_once zero (line ∷ lines) world a b (next, after, e) (other, later, f) =
    let n = text_lines (command_of line) in
    let same : other ≡ next = one_after (command_of line) (text_of n lines) world other next later after in
    ends_once n lines next a b e (subst (λ w. EndsFrom n lines w b) same f)

-- in the world that it leaves all is hashed that was hashed before
reached_less : (taken : ℕ) (lines : List (List ℕ)) (world last other : World) → EndsFrom taken lines world last → ReachedFrom taken lines world other → Includes (hashed_texts last) (hashed_texts other)
unfolding EndsFrom ReachedFrom
reached_less taken [] world last other e g = subst (λ (w : World). Includes (hashed_texts last) (hashed_texts w)) (sym g) (stays_hashed world last e)
reached_less (suc taken) (line ∷ lines) world last other e g = reached_less taken lines world last other e g
reached_less zero (line ∷ lines) world last other e (inl g) = subst (λ (w : World). Includes (hashed_texts last) (hashed_texts w)) (sym g) (ends_more zero (line ∷ lines) world last e)
reached_less zero (line ∷ lines) world last other (next, after, e) (inr (mid, later, g)) =
    let n = text_lines (command_of line) in
    let same : mid ≡ next = one_after (command_of line) (text_of n lines) world mid next later after in
    reached_less n lines next last other e (subst (λ w. ReachedFrom n lines w other) same g)

-- where no texts clash in the world that a kept script restores, none do on the way there
pub kept_clear : (kept : List ℕ) (world : World) → Restores kept world → NoClash (hashed_texts world) → IsClearFrom (empty_world One) kept
kept_clear kept world restores clear other g =
    let less = reached_less 0 (lines_of kept) (empty_world One) restores.left other restores.leaves g in
    let all = like_hashed restores.left world restores.like in
    λ s t c d e. clear s t (all s (less s c)) (all t (less t d)) e
