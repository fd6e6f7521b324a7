-- What commands tell of the replicas of a session, and of those of the world.
use Rattle.std.proofs.Common.{◌≡◌, ℕ, List, [], ◌∷◌, ◌++◌, Option, None, Some, Bool, not, refl, sym, ap, ◌∙◌, cond, subst, inl, inr}
use Rattle.std.specs.Prelude.{◌⊎◌}
use Rattle.std.specs.List.{flat_map, Contains}
use Rattle.std.proofs.lemmas.List.Elements.{Contains-append_left, Contains-append_right, Contains-append_cases}
use Rattle.std.proofs.lemmas.Grind.{flat_map-append}
use Rattle.ws_action.specs.Actions.{Action}
use Rattle.ws_action.specs.Clash.{NoClash, hashed_actions, hashed as hashed_action}
use Rattle.ws_session.specs.declared.replicas.SessionReplica.{SessionReplica}
use Rattle.ws_command.specs.declared.refusal.Refusal.{Refusal}
use Rattle.ws_command.specs.declared.refusal.Refusal.TheVariants.{BadCommand, Unknown, NoPackage}
use Rattle.go_text.specs.declared.edition.Edition.{Edition}
use Rattle.ws_session.specs.declared.replicas.Replicas.{Replicas}
use Rattle.ws_command.specs.Commands.{Command, Nothing, Bad, Create, Write, Remove, Apply, Merge, Settle, Use}
use Rattle.ws_command.specs.Refusals.{first_of}
use Rattle.ws_session.specs.World.{World, seeking, using, refusals, AfterBy, After, PrintsBy, Prints, hashed_texts, texts_of_replica}
use Rattle.ws_session.specs.Representation.{Represents, AreCounted, AllRepresent, AreApart, replica_names, Settles, CommandResult, refusal_text_of}
use Rattle.ws_session.proofs.Names.{apart_after}

-- what a command that prints no more than its refusal tells
pub settled_tells : (command : Command) (text : Option (List ℕ)) (world : World) (refusal : Option Refusal) (told : List ℕ) (ns : List SessionReplica)
    → ((t : List ℕ) → t ≡ refusal_text_of refusal → PrintsBy refusal command world t) → told ≡ refusal_text_of refusal → Settles command text world refusal ns → CommandResult command text world told ns
unfolding After Prints
settled_tells command text world refusal told ns prints e s = record {
  next = s.next;
  after = subst (λ r. AfterBy r command text world s.next) (sym s.refuses) s.after;
  edition = s.edition;
  clear = λ _. (subst (λ r. PrintsBy r command world told) (sym s.refuses) (prints told e), s.stand);
}

-- the world after a command, by why it is refused
pub after_by : (command : Command) (text : Option (List ℕ)) (world next : World) (refusal : Option Refusal) → first_of (refusals command text world) ≡ refusal → After command text world next → AfterBy refusal command text world next
unfolding After
after_by command text world next refusal e a = subst (λ r. AfterBy r command text world next) e a

-- what is hashed for actions is hashed for these and more
pub hashed_more : (actions more : List Action) (s : List ℕ) → Contains (hashed_actions actions) s → Contains (hashed_actions (actions ++ more)) s
hashed_more actions more s c = subst (λ z. Contains z s) (sym (flat_map-append hashed_action actions more)) (Contains-append_left (hashed_actions actions) (hashed_actions more) s c)

either : (a b : List Action) (s : List ℕ) → Contains (hashed_actions (a ++ b)) s → Contains (hashed_actions a) s ⊎ Contains (hashed_actions b) s
either a b s c = Contains-append_cases (hashed_actions a) (hashed_actions b) s (subst (λ z. Contains z s) (flat_map-append hashed_action a b) c)

sought_among : (actions sought : List Action) (world : World) (s : List ℕ) → (Contains (hashed_actions actions) s → Contains (flat_map texts_of_replica world.replicas) s)
    → Contains (hashed_actions actions) s ⊎ Contains (hashed_actions sought) s → Contains (flat_map texts_of_replica world.replicas ++ hashed_actions (world.sought ++ sought)) s
sought_among actions sought world s held (inl c) = Contains-append_left (flat_map texts_of_replica world.replicas) (hashed_actions (world.sought ++ sought)) s (held c)
sought_among actions sought world s held (inr c) =
    Contains-append_right (flat_map texts_of_replica world.replicas) (hashed_actions (world.sought ++ sought)) s
    (subst (λ z. Contains z s) (sym (flat_map-append hashed_action world.sought sought)) (Contains-append_right (hashed_actions world.sought) (hashed_actions sought) s c))

-- so where the texts of a world that looked for actions don't clash, no more do those of these and of what is held in it
pub clear_sought : (actions sought : List Action) (world : World) → ((s : List ℕ) → Contains (hashed_actions actions) s → Contains (flat_map texts_of_replica world.replicas) s)
    → NoClash (hashed_texts (seeking world sought)) → NoClash (hashed_actions (actions ++ sought))
unfolding hashed_texts
clear_sought actions sought world held clear s t c d q =
    clear s t (sought_among actions sought world s (held s) (either actions sought s c)) (sought_among actions sought world t (held t) (either actions sought t d)) q

pub build_row : (a b c d : Bool) → a ≡ c → b ≡ d → first_of ((not a, Unknown) ∷ (not b, NoPackage) ∷ []) ≡ cond (not c) (Some Unknown) (cond (not d) (Some NoPackage) None)
build_row a b c d e f = ap (λ z. cond (not z) (Some Unknown) (cond (not b) (Some NoPackage) None)) e ∙ ap (λ z. cond (not c) (Some Unknown) (cond (not z) (Some NoPackage) None)) f

pub prints_nothing : (world : World) (r : Option Refusal) (t : List ℕ) → t ≡ refusal_text_of r → PrintsBy r Nothing world t
prints_nothing world None t e = e
prints_nothing world (Some r) t e = e

pub prints_bad : (world : World) (r : Option Refusal) (t : List ℕ) → t ≡ refusal_text_of r → PrintsBy r Bad world t
prints_bad world None t e = e
prints_bad world (Some r) t e = e

pub prints_create : (name : List ℕ) (world : World) (r : Option Refusal) (t : List ℕ) → t ≡ refusal_text_of r → PrintsBy r (Create name) world t
prints_create name world None t e = e
prints_create name world (Some r) t e = e

pub prints_write : (name path : List ℕ) (lines : ℕ) (world : World) (r : Option Refusal) (t : List ℕ) → t ≡ refusal_text_of r → PrintsBy r (Write name path lines) world t
prints_write name path lines world None t e = e
prints_write name path lines world (Some r) t e = e

pub prints_merge : (name other : List ℕ) (world : World) (r : Option Refusal) (t : List ℕ) → t ≡ refusal_text_of r → PrintsBy r (Merge name other) world t
prints_merge name other world None t e = e
prints_merge name other world (Some r) t e = e

pub prints_remove : (name path : List ℕ) (world : World) (r : Option Refusal) (t : List ℕ) → t ≡ refusal_text_of r → PrintsBy r (Remove name path) world t
prints_remove name path world None t e = e
prints_remove name path world (Some r) t e = e

pub prints_apply : (name path : List ℕ) (counter number : ℕ) (lines : Option ℕ) (world : World) (r : Option Refusal) (t : List ℕ) → t ≡ refusal_text_of r → PrintsBy r (Apply name path counter number lines) world t
prints_apply name path counter number lines world None t e = e
prints_apply name path counter number lines world (Some r) t e = e

pub prints_settle : (world : World) (r : Option Refusal) (t : List ℕ) → t ≡ refusal_text_of r → PrintsBy r Settle world t
prints_settle world None t e = e
prints_settle world (Some r) t e = e

pub nothing_settles : (text : Option (List ℕ)) (world : World) (ns : List SessionReplica) → AllRepresent ns world.replicas → Settles Nothing text world None ns
nothing_settles text world ns h = record { refuses = refl; next = world; after = refl; edition = refl; stand = h }

pub bad_settles : (text : Option (List ℕ)) (world : World) (ns : List SessionReplica) → AllRepresent ns world.replicas → Settles Bad text world (Some BadCommand) ns
bad_settles text world ns h = record { refuses = refl; next = world; after = refl; edition = refl; stand = h }

-- commands go by another edition from here on
pub used : (asked : Command) (edition : Edition) (text : Option (List ℕ)) (world : World) (told : List ℕ) (s : Replicas) → asked ≡ Use edition → told ≡ refusal_text_of None → Represents s world
    → (next : World) × After asked text world next × (NoClash (hashed_texts next) → Prints asked text world told × Represents (record s { edition = edition }) next)
unfolding After Prints
used asked edition text world told s is e h = (
  using edition world,
  subst (λ k. After k text world (using edition world)) (sym is) refl,
  λ clear. (
    subst (λ k. Prints k text world told) (sym is) e,
    record { edition = refl; replicas = h.replicas; apart = h.apart; kept = record { writes = h.kept.writes; actions = h.kept.actions } },
  ),
)

-- what a step owes, of a command that is what was asked
pub stepped : (s : Replicas) (asked command : Command) (text : Option (List ℕ)) (world : World) (told : List ℕ) → asked ≡ command → s.edition ≡ world.edition → AreApart (replica_names world)
    → (t : CommandResult command text world told s.named.items) → AreCounted s.wrote s.compiled t.next → (next : World) × After asked text world next × (NoClash (hashed_texts next) → Prints asked text world told × Represents s next)
stepped s asked command text world told e same apart t counted = (
  t.next,
  subst (λ k. After k text world t.next) (sym e) t.after,
  λ clear.
      let p = t.clear clear in
      let stands : Represents s t.next = record { edition = same ∙ sym t.edition; replicas = p.1; apart = apart_after command text world t.next t.after apart; kept = counted } in
      (subst (λ k. Prints k text world told) (sym e) p.0, stands),
)
