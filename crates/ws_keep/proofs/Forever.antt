-- Worlds that are alike print alike for ever, and lead to worlds that are alike.
use Rattle.std.proofs.Common.{◌≡◌, ℕ, zero, suc, List, [], ◌∷◌, Option, sym, ap, ◌∙◌, subst, inl, inr, refl}
use Rattle.std.specs.List.{Contains, flat_map}
use Rattle.std.proofs.lemmas.List.Elements.{Contains-append_left, Contains-append_right, Contains-append_cases}
use Rattle.go_text.specs.declared.edition.Edition.{Edition}
use Rattle.ws_action.specs.Actions.{Action}
use Rattle.ws_action.specs.Clash.{Includes, hashed_actions}
use Rattle.ws_action.specs.Clash as clash
use Rattle.ws_action.proofs.Members.{none_in_empty, head_or_later, later, at_head}
use Rattle.ws_command.specs.Commands.{Command, command_of, text_lines, text_of}
use Rattle.ws_command.specs.Lines.{lines_of}
use Rattle.ws_session.specs.World.{World, ReplicaModel, After, hashed_texts, texts_of_replica}
use Rattle.ws_session.specs.Text.{TextFrom, ReachedFrom}
use Rattle.ws_keep.specs.Keeping.{EndsFrom, IsLike, IsClearFrom}
use Rattle.ws_keep.proofs.Likeness.{in_which, Seeks, after_seeks, same_prints}

abbrev pub world_of : Edition → List ReplicaModel → List Action → World
world_of edition replicas sought = record { edition = edition; replicas = replicas; sought = sought }

-- the lean one is the other, with less looked for
pub like_is : (lean world : World) → IsLike lean world → in_which world lean.sought ≡ lean
like_is lean world like = sym (ap (λ e. world_of e lean.replicas lean.sought) like.edition ∙ ap (λ r. world_of world.edition r lean.sought) like.replicas)

pub like_other : (lean world : World) → IsLike lean world → in_which lean world.sought ≡ world
like_other lean world like = ap (λ e. world_of e lean.replicas world.sought) like.edition ∙ ap (λ r. world_of world.edition r world.sought) like.replicas

pub like_chain : (a b c : World) → IsLike a b → IsLike b c → IsLike a c
like_chain a b c f g = record { edition = f.edition ∙ g.edition; replicas = f.replicas ∙ g.replicas; sought = λ x i. g.sought x (f.sought x i) }

pub like_itself : (a : World) → IsLike a a
like_itself a = record { edition = refl; replicas = refl; sought = λ x i. i }

-- ---- one command

pub like_after : (c : Command) (text : Option (List ℕ)) (lean world next : World) → IsLike lean world → After c text world next → (left : World) × After c text lean left × IsLike left next
like_after c text lean world next like after =
    let s : Seeks (After c text (in_which world lean.sought)) world next lean.sought = after_seeks c text world next lean.sought after in (
      in_which next s.more,
      subst (λ w. After c text w (in_which next s.more)) (like_is lean world like) s.after,
      record { edition = refl; replicas = refl; sought = s.less like.sought },
    )

pub like_after_other : (c : Command) (text : Option (List ℕ)) (lean world left : World) → IsLike lean world → After c text lean left → (next : World) × After c text world next × IsLike left next
like_after_other c text lean world left like after =
    let s : Seeks (After c text (in_which lean world.sought)) lean left world.sought = after_seeks c text lean left world.sought after in (
      in_which left s.more,
      subst (λ w. After c text w (in_which left s.more)) (like_other lean world like) s.after,
      record { edition = refl; replicas = refl; sought = s.whole like.sought },
    )

-- ---- what is printed

text_in : (taken : ℕ) (lines : List (List ℕ)) (w : World) (s : List Action) (told : List ℕ) → TextFrom taken lines w told → TextFrom taken lines (in_which w s) told
unfolding TextFrom
text_in taken [] w s told g = g
text_in (suc taken) (line ∷ lines) w s told g = text_in taken lines w s told g
text_in zero (line ∷ lines) w s told g =
    let command = command_of line in
    let text = text_of (text_lines command) lines in
    let after : Seeks (After command text (in_which w s)) w g.2 s = after_seeks command text w g.2 s g.4 in
    (g.0, g.1, in_which g.2 after.more, same_prints command text w s g.0 g.3, after.after, text_in (text_lines command) lines g.2 after.more g.1 g.5, g.6)

pub like_text : (lean world : World) (lines : List (List ℕ)) (told : List ℕ) → IsLike lean world → TextFrom 0 lines world told → TextFrom 0 lines lean told
like_text lean world lines told like g = subst (λ w. TextFrom 0 lines w told) (like_is lean world like) (text_in 0 lines world lean.sought told g)

pub like_text_other : (lean world : World) (lines : List (List ℕ)) (told : List ℕ) → IsLike lean world → TextFrom 0 lines lean told → TextFrom 0 lines world told
like_text_other lean world lines told like g = subst (λ w. TextFrom 0 lines w told) (like_other lean world like) (text_in 0 lines lean world.sought told g)

-- ---- what is left

pub like_ends : (taken : ℕ) (lines : List (List ℕ)) (lean world last : World) → IsLike lean world → EndsFrom taken lines world last → (left : World) × EndsFrom taken lines lean left × IsLike left last
unfolding EndsFrom
like_ends taken [] lean world last like g = (lean, refl, subst (λ w. IsLike lean w) (sym g) like)
like_ends (suc taken) (line ∷ lines) lean world last like g = like_ends taken lines lean world last like g
like_ends zero (line ∷ lines) lean world last like g =
    let command = command_of line in
    let text = text_of (text_lines command) lines in
    let next = like_after command text lean world g.0 like g.1 in
    let rest = like_ends (text_lines command) lines next.0 g.0 last next.2 g.2 in
    (rest.0, (next.0, next.1, rest.1), rest.2)

pub like_ends_other : (taken : ℕ) (lines : List (List ℕ)) (lean world left : World) → IsLike lean world → EndsFrom taken lines lean left
    → (last : World) × EndsFrom taken lines world last × IsLike left last
unfolding EndsFrom
like_ends_other taken [] lean world left like g = (world, refl, subst (λ w. IsLike w world) (sym g) like)
like_ends_other (suc taken) (line ∷ lines) lean world left like g = like_ends_other taken lines lean world left like g
like_ends_other zero (line ∷ lines) lean world left like g =
    let command = command_of line in
    let text = text_of (text_lines command) lines in
    let next = like_after_other command text lean world g.0 like g.1 in
    let rest = like_ends_other (text_lines command) lines g.0 next.0 left next.2 g.2 in
    (rest.0, (next.0, next.1, rest.1), rest.2)

-- ---- what is hashed

mapped : {A : Type 0} (f : A → List (List ℕ)) (xs : List A) (a : A) (s : List ℕ) → Contains xs a → Contains (f a) s → Contains (flat_map f xs) s
mapped f [] a s c d = absurd (none_in_empty a c)
mapped f (x ∷ xs) a s c d = elim (head_or_later x xs a c) [
  | inl same ↦ Contains-append_left (f x) (flat_map f xs) s (subst (λ y. Contains (f y) s) (sym same) d)
  | inr r ↦ Contains-append_right (f x) (flat_map f xs) s (mapped f xs a s r d)
]

from_one : {A : Type 0} (f : A → List (List ℕ)) (xs : List A) (s : List ℕ) → Contains (flat_map f xs) s → (a : A) × Contains xs a × Contains (f a) s
from_one f [] s c = absurd (none_in_empty s c)
from_one f (x ∷ xs) s c = elim (Contains-append_cases (f x) (flat_map f xs) s c) [
  | inl l ↦ (x, at_head xs x x refl, l)
  | inr r ↦ (let a = from_one f xs s r in (a.0, later x xs a.0 a.1, a.2))
]

actions_less : (A B : List Action) → Includes A B → Includes (hashed_actions A) (hashed_actions B)
actions_less A B i s c = let a = from_one clash.hashed B s c in mapped clash.hashed A a.0 s (i a.0 a.1) a.2

pub like_hashed : (lean world : World) → IsLike lean world → Includes (hashed_texts world) (hashed_texts lean)
unfolding hashed_texts
like_hashed lean world like s c =
    elim (Contains-append_cases (flat_map texts_of_replica lean.replicas) (hashed_actions lean.sought) s c) [
      | inl l ↦ Contains-append_left (flat_map texts_of_replica world.replicas) (hashed_actions world.sought) s (subst (λ rs. Contains (flat_map texts_of_replica rs) s) like.replicas l)
      | inr r ↦ Contains-append_right (flat_map texts_of_replica world.replicas) (hashed_actions world.sought) s (actions_less world.sought lean.sought like.sought s r)
    ]

pub like_reached : (taken : ℕ) (lines : List (List ℕ)) (lean world other : World) → IsLike lean world → ReachedFrom taken lines lean other → (its : World) × ReachedFrom taken lines world its × IsLike other its
unfolding ReachedFrom
like_reached taken [] lean world other like g = (world, refl, subst (λ w. IsLike w world) (sym g) like)
like_reached (suc taken) (line ∷ lines) lean world other like g = like_reached taken lines lean world other like g
like_reached zero (line ∷ lines) lean world other like (inl g) = (world, inl refl, subst (λ w. IsLike w world) (sym g) like)
like_reached zero (line ∷ lines) lean world other like (inr g) =
    let command = command_of line in
    let text = text_of (text_lines command) lines in
    let next = like_after_other command text lean world g.0 like g.1 in
    let rest = like_reached (text_lines command) lines g.0 next.0 other next.2 g.2 in
    (rest.0, inr (next.0, next.1, rest.1), rest.2)

pub like_clear : (lean world : World) (script : List ℕ) → IsLike lean world → IsClearFrom world script → IsClearFrom lean script
like_clear lean world script like clear other r =
    let its = like_reached 0 (lines_of script) lean world other like r in
    let sub = like_hashed other its.0 its.2 in
    λ s t c d e. clear its.0 its.1 s t (sub s c) (sub t d) e
