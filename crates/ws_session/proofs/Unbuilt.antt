-- No texts clash of a script that builds nothing: no text is hashed.
use Rattle.std.proofs.Common.{◌≡◌, ℕ, zero, suc, Bool, true, false, List, [], ◌∷◌, ◌++◌, map, Option, None, Some, refl, sym, ap, ◌∙◌, cond, subst, inl, inr, arith}
use Rattle.std.specs.Prelude.{◌&&◌, unwrap_or}
use Rattle.std.specs.List.{flat_map, list_all}
use Rattle.std.specs.Str.{bytes_eq}
use Rattle.go_text.specs.declared.edition.Edition.{Edition}
use Rattle.ws_action.specs.Actions.{Action}
use Rattle.ws_action.specs.Clash.{NoClash, hashed_actions}
use Rattle.ws_command.specs.Commands.{Command, Nothing, Bad, Create, Write, Remove, Apply, Merge, Settle, Build, Run, Ids, Show, Use, command_of, text_lines, text_of}
use Rattle.ws_command.specs.Lines.{lines_of}
use Rattle.ws_command.specs.Refusals.{first_of}
use Rattle.ws_command.specs.declared.refusal.Refusal.{Refusal}
use Rattle.ws_version.specs.Writes.{Write as AWrite}
use Rattle.ws_session.specs.Commands.{commands_from, commands_of, hashes_nothing}
use Rattle.ws_session.specs.Text.{ReachedFrom, IsClear}
use Rattle.ws_session.specs.World.{World, ReplicaModel, empty_world, replica_at, or_new, writes_of, actions_held, grown_by, taking, edit_of, removal_of, content_in, refusals, texts_of_replica, hashed_texts, Accepted, AfterBy, After}

-- no replica holds a result
abbrev HoldNothing : List ReplicaModel → Type 0
HoldNothing [] = Unit {0}
HoldNothing (r ∷ rs) = (r.actions ≡ []) × HoldNothing rs

record Unbuilt (world : World) : Type 0 where
  held : HoldNothing world.replicas
  sought : world.sought ≡ []

one_more : (rs : List ReplicaModel) (r : ReplicaModel) → r.actions ≡ [] → HoldNothing rs → HoldNothing (rs ++ r ∷ [])
one_more [] r e h = (e, tt)
one_more (x ∷ rs) r e h = (h.0, one_more rs r e h.1)

both_empty : (a b : List Action) → a ≡ [] → b ≡ [] → a ++ b ≡ []
both_empty a b e f = ap (λ (x : List Action). x ++ b) e ∙ f

held_by_name : (name : List ℕ) (rs : List ReplicaModel) → HoldNothing rs → (or_new (replica_at name rs)).actions ≡ []
held_by_name name [] h = refl
held_by_name name (r ∷ rs) h = by_name (bytes_eq r.name name) h.0 (held_by_name name rs h.1)
  where
    by_name : (b : Bool) → r.actions ≡ [] → (or_new (replica_at name rs)).actions ≡ [] → (or_new (cond b (Some r) (replica_at name rs))).actions ≡ []
    by_name true e rest = e
    by_name false e rest = rest

takes : (name : List ℕ) (writes : List AWrite) (actions : List Action) (rs : List ReplicaModel) → actions ≡ [] → HoldNothing rs → HoldNothing (taking name writes actions rs)
takes name writes actions [] e h = tt
takes name writes actions (r ∷ rs) e h = by_name (bytes_eq r.name name) (takes name writes actions rs e h.1)
  where
    by_name : (b : Bool) → HoldNothing (taking name writes actions rs) → HoldNothing (cond b (grown_by r writes actions ∷ rs) (r ∷ taking name writes actions rs))
    by_name true rest = (both_empty r.actions actions h.0 e, h.1)
    by_name false rest = (h.0, rest)

none_together : (rs : List ReplicaModel) → HoldNothing rs → flat_map (λ r. r.actions) rs ≡ []
none_together [] h = refl
none_together (r ∷ rs) h = both_empty r.actions (flat_map (λ (s : ReplicaModel). s.actions) rs) h.0 (none_together rs h.1)

each_settled : (writes : List AWrite) (actions : List Action) (rs : List ReplicaModel) → actions ≡ []
    → HoldNothing (map (λ r. record { name = r.name; number = r.number; writes = writes; actions = actions }) rs)
each_settled writes actions [] e = tt
each_settled writes actions (r ∷ rs) e = (e, each_settled writes actions rs e)

no_texts : (rs : List ReplicaModel) → HoldNothing rs → flat_map texts_of_replica rs ≡ []
no_texts [] h = refl
no_texts (r ∷ rs) h = ap (λ (a : List Action). hashed_actions a ++ flat_map texts_of_replica rs) h.0 ∙ no_texts rs h.1

hashes_none : (world : World) → Unbuilt world → hashed_texts world ≡ []
unfolding hashed_texts
hashes_none world u = ap (λ (x : List (List ℕ)). x ++ hashed_actions world.sought) (no_texts world.replicas u.held) ∙ ap hashed_actions u.sought

clear_by : (texts : List (List ℕ)) → texts ≡ [] → NoClash texts
clear_by [] e s t c = absurd (omega (arith, c.1))
clear_by (x ∷ texts) e s t c = absurd (cc (e))

unbuilt_clear : (world : World) → Unbuilt world → NoClash (hashed_texts world)
unbuilt_clear world u = clear_by (hashed_texts world) (hashes_none world u)

moved : (next its : World) → next ≡ its → Unbuilt its → Unbuilt next
moved next its e u = subst Unbuilt (sym e) u

accepted : (command : Command) (text : Option (List ℕ)) (world next : World) → hashes_nothing command ≡ true → Unbuilt world → Accepted command text world next → Unbuilt next
accepted Nothing text world next e u is = moved next world is u
accepted Bad text world next e u is = moved next world is u
accepted (Create name) text world next e u is = moved next _ is (record { held = one_more world.replicas _ refl u.held; sought = u.sought })
accepted (Write name path lines) text world next e u is =
    moved next _ is (record { held = takes name (edit_of name path (unwrap_or text []) world ∷ []) [] world.replicas refl u.held; sought = u.sought })
accepted (Remove name path) text world next e u is =
    moved next _ is (record { held = takes name (removal_of name path world ∷ []) [] world.replicas refl u.held; sought = u.sought })
accepted (Apply name path counter number lines) text world next e u is =
    moved next _ is (record { held = takes name ((path, record { counter = counter; number = number; text = content_in lines text }) ∷ []) [] world.replicas refl u.held; sought = u.sought })
accepted (Merge name other) text world next e u is =
    moved next _ is (record { held = takes name (writes_of other world) (actions_held other world) world.replicas (held_by_name other world.replicas u.held) u.held; sought = u.sought })
accepted Settle text world next e u is =
    moved next _ is (record { held = each_settled (flat_map (λ s. s.writes) world.replicas) (flat_map (λ s. s.actions) world.replicas) world.replicas (none_together world.replicas u.held); sought = u.sought })
accepted (Build targets) text world next e u is = cc (e)
accepted (Run name directory ticks) text world next e u is = cc (e)
accepted (Ids name directory) text world next e u is = cc (e)
accepted (Show name) text world next e u is = moved next world is u
accepted (Use edition) text world next e u is = moved next _ is (record { held = u.held; sought = u.sought })

after_by : (refusal : Option Refusal) (command : Command) (text : Option (List ℕ)) (world next : World) → hashes_nothing command ≡ true → Unbuilt world → AfterBy refusal command text world next → Unbuilt next
after_by None command text world next e u is = accepted command text world next e u is
after_by (Some refusal) command text world next e u is = moved next world is u

after : (command : Command) (text : Option (List ℕ)) (world next : World) → hashes_nothing command ≡ true → Unbuilt world → After command text world next → Unbuilt next
unfolding After
after command text world next e u is = after_by (first_of (refusals command text world)) command text world next e u is

first_true : (b c : Bool) → (b && c) ≡ true → b ≡ true
first_true true c e = refl
first_true false c e = cc (e)

second_true : (b c : Bool) → (b && c) ≡ true → c ≡ true
second_true true c e = e
second_true false c e = cc (e)

clear_from : (taken : ℕ) (lines : List (List ℕ)) (world other : World) → list_all hashes_nothing (commands_from taken lines) ≡ true → Unbuilt world → ReachedFrom taken lines world other → NoClash (hashed_texts other)
unfolding ReachedFrom
clear_from taken [] world other e u is = unbuilt_clear other (moved other world is u)
clear_from (suc taken) (line ∷ lines) world other e u is = clear_from taken lines world other e u is
clear_from zero (line ∷ lines) world other e u (inl is) = unbuilt_clear other (moved other world is u)
clear_from zero (line ∷ lines) world other e u (inr (next, is, later)) =
    let command = command_of line in
    let rest = commands_from (text_lines command) lines in
    let here = first_true (hashes_nothing command) (list_all hashes_nothing rest) e in
    clear_from (text_lines command) lines next other (second_true (hashes_nothing command) (list_all hashes_nothing rest) e) (after command (text_of (text_lines command) lines) world next here u is) later

pub clear_unbuilt : (edition : Edition) (script : List ℕ) → list_all hashes_nothing (commands_of script) ≡ true → IsClear edition script
clear_unbuilt edition script e world is = clear_from 0 (lines_of script) (empty_world edition) world e (record { held = tt; sought = refl }) is
