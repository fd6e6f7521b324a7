-- Worlds that are the same but for what was looked for print alike for ever.
use Rattle.std.proofs.Common.{◌≡◌, ℕ, List, [], ◌∷◌, ◌++◌, Option, None, Some, sym, ap, ◌∙◌, subst, inl, inr, refl}
use Rattle.ws_action.specs.Actions.{Action}
use Rattle.std.proofs.lemmas.List.Elements.{Contains-append_left, Contains-append_right, Contains-append_cases}
use Rattle.ws_action.specs.Clash.{Includes}
use Rattle.ws_replica.specs.Reports.{TargetBuild, actions_in, all_actions}
use Rattle.ws_command.specs.declared.refusal.Refusal.{Refusal}
use Rattle.ws_command.specs.Commands.{Command, Nothing, Bad, Create, Write, Remove, Apply, Merge, Settle, Build, Run, Ids, Show, Use}
use Rattle.ws_command.specs.Refusals.{first_of}
use Rattle.ws_session.specs.World.{World, Accepted, AfterBy, After, after_builds, seeking, refusals, Outputs, PrintsBy, Prints, AreBuilds, builds_text, PrintsRun, Listed}

-- a world in which this was looked for
abbrev pub in_which : World → List Action → World
in_which w sought = record { edition = w.edition; replicas = w.replicas; sought = sought }

pub same_refusals : (c : Command) (text : Option (List ℕ)) (w : World) (s : List Action) → refusals c text (in_which w s) ≡ refusals c text w
same_refusals Nothing text w s = refl
same_refusals Bad text w s = refl
same_refusals (Create name) text w s = refl
same_refusals (Write name path lines) text w s = refl
same_refusals (Remove name path) text w s = refl
same_refusals (Apply name path counter number lines) text w s = refl
same_refusals (Merge name other) text w s = refl
same_refusals Settle text w s = refl
same_refusals (Build targets) text w s = refl
same_refusals (Run name directory ticks) text w s = refl
same_refusals (Ids name directory) text w s = refl
same_refusals (Show name) text w s = refl
same_refusals (Use edition) text w s = refl

all_builds : (targets : List (List ℕ × List ℕ)) (w : World) (s : List Action) (builds : List TargetBuild) → AreBuilds w targets (Some builds) → AreBuilds (in_which w s) targets (Some builds)
all_builds [] w s [] g = g
all_builds [] w s (b ∷ builds) g = absurd g
all_builds (t ∷ targets) w s [] g = absurd g
all_builds (t ∷ targets) w s (b ∷ builds) g = (g.0, all_builds targets w s builds g.1)

pub same_builds : (targets : List (List ℕ × List ℕ)) (w : World) (s : List Action) (builds : Option (List TargetBuild)) → AreBuilds w targets builds → AreBuilds (in_which w s) targets builds
same_builds targets w s None g = g
same_builds targets w s (Some builds) g = all_builds targets w s builds g

same_ran : (name directory : List ℕ) (ticks : ℕ) (w : World) (s : List Action) (build : Option TargetBuild) (told : List ℕ) → PrintsRun name directory ticks w build told → PrintsRun name directory ticks (in_which w s) build told
same_ran name directory ticks w s None told g = g
same_ran name directory ticks w s (Some build) told g = g

same_listed : (name directory : List ℕ) (w : World) (s : List Action) (build : Option TargetBuild) (told : List ℕ) → Listed name directory w build told → Listed name directory (in_which w s) build told
same_listed name directory w s None told g = g
same_listed name directory w s (Some build) told g = g

same_text : (targets : List (List ℕ × List ℕ)) (w : World) (s : List Action) (builds : Option (List TargetBuild)) (told : List ℕ) → told ≡ builds_text w targets builds → told ≡ builds_text (in_which w s) targets builds
same_text targets w s None told g = g
same_text targets w s (Some builds) told g = g

pub same_answers : (c : Command) (w : World) (s : List Action) (told : List ℕ) → Outputs c w told → Outputs c (in_which w s) told
same_answers (Build targets) w s told g = (g.0, same_builds targets w s g.0 g.1, same_text targets w s g.0 told g.2)
same_answers (Run name directory ticks) w s told g = (g.0, g.1, same_ran name directory ticks w s g.0 told g.2)
same_answers (Ids name directory) w s told g = (g.0, g.1, same_listed name directory w s g.0 told g.2)
same_answers Nothing w s told g = g
same_answers Bad w s told g = g
same_answers (Create name) w s told g = g
same_answers (Write name path lines) w s told g = g
same_answers (Remove name path) w s told g = g
same_answers (Apply name path counter number lines) w s told g = g
same_answers (Merge name other) w s told g = g
same_answers Settle w s told g = g
same_answers (Show name) w s told g = g
same_answers (Use edition) w s told g = g

same_prints_by : (r : Option Refusal) (c : Command) (w : World) (s : List Action) (told : List ℕ) → PrintsBy r c w told → PrintsBy r c (in_which w s) told
same_prints_by None c w s told g = same_answers c w s told g
same_prints_by (Some r) c w s told g = g

pub same_prints : (c : Command) (text : Option (List ℕ)) (w : World) (s : List Action) (told : List ℕ) → Prints c text w told → Prints c text (in_which w s) told
unfolding Prints
same_prints c text w s told g =
    subst (λ rs. PrintsBy (first_of rs) c (in_which w s) told) (sym (same_refusals c text w s)) (same_prints_by (first_of (refusals c text w)) c w s told g)

-- ---- the world after

still : (w next to : World) (s : List Action) → next ≡ to → to.sought ≡ w.sought → Includes w.sought s → Includes next.sought s
still w next to s e f i = subst (λ (x : World). Includes x.sought s) (sym e) (subst (λ (t : List Action). Includes t s) (sym f) i)

within : (w next to : World) (s : List Action) → next ≡ to → to.sought ≡ w.sought → Includes s w.sought → Includes s next.sought
within w next to s e f i = subst (λ (x : World). Includes s x.sought) (sym e) (subst (λ (t : List Action). Includes s t) (sym f) i)

-- what is looked for in a world after, and whether it is less or more than in another
pub record Seeks (After : World → Type 0) (w next : World) (s : List Action) : Type 0 where
  pub more : List Action
  pub after : After (in_which next more)
  pub less : Includes w.sought s → Includes next.sought more
  pub whole : Includes s w.sought → Includes more next.sought

stays : (After : World → Type 0) (w next to : World) (s : List Action) → next ≡ to → to.sought ≡ w.sought → After (in_which next s) → Seeks After w next s
stays After w next to s e f after = record { more = s; after = after; less = still w next to s e f; whole = within w next to s e f }

both_grow : (a b c : List Action) → Includes a b → Includes (a ++ c) (b ++ c)
both_grow a b c i x g = elim (Contains-append_cases b c x g) [ inl l ↦ Contains-append_left a c x (i x l) | inr r ↦ Contains-append_right a c x r ]

grows : (After : World → Type 0) (w next to : World) (s acts : List Action) → next ≡ to → to.sought ≡ w.sought ++ acts → After (in_which next (s ++ acts)) → Seeks After w next s
grows After w next to s acts e f after =
    let is : next.sought ≡ w.sought ++ acts = ap (λ (x : World). x.sought) e ∙ f in
    record {
      more = s ++ acts;
      after = after;
      less = λ i. subst (λ t. Includes t (s ++ acts)) (sym is) (both_grow w.sought s acts i);
      whole = λ i. subst (λ t. Includes (s ++ acts) t) (sym is) (both_grow s w.sought acts i);
    }

built : (targets : List (List ℕ × List ℕ)) (text : Option (List ℕ)) (w next : World) (s : List Action) (builds : Option (List TargetBuild))
    → AreBuilds w targets builds → next ≡ after_builds w targets builds → Seeks (Accepted (Build targets) text (in_which w s)) w next s
built targets text w next s None a e =
    stays (Accepted (Build targets) text (in_which w s)) w next (after_builds w targets None) s e refl (None, same_builds targets w s None a, ap (λ n. in_which n s) e)
built targets text w next s (Some builds) a e =
    let acts = all_actions w.edition builds in
    grows (Accepted (Build targets) text (in_which w s)) w next (after_builds w targets (Some builds)) s acts e refl
    (Some builds, same_builds targets w s (Some builds) a, ap (λ n. in_which n (s ++ acts)) e)

accepted_seeks : (c : Command) (text : Option (List ℕ)) (w next : World) (s : List Action) → Accepted c text w next → Seeks (Accepted c text (in_which w s)) w next s
accepted_seeks (Build targets) text w next s g = built targets text w next s g.0 g.1 g.2
accepted_seeks (Run name directory ticks) text w next s g =
    let acts = actions_in w.edition g.0 in
    grows (Accepted (Run name directory ticks) text (in_which w s)) w next (seeking w acts) s acts g.2 refl (g.0, g.1, ap (λ n. in_which n (s ++ acts)) g.2)
accepted_seeks (Ids name directory) text w next s g =
    let acts = actions_in w.edition g.0 in
    grows (Accepted (Ids name directory) text (in_which w s)) w next (seeking w acts) s acts g.2 refl (g.0, g.1, ap (λ n. in_which n (s ++ acts)) g.2)
accepted_seeks Nothing text w next s g = stays (Accepted Nothing text (in_which w s)) w next w s g refl (ap (λ n. in_which n s) g)
accepted_seeks Bad text w next s g = stays (Accepted Bad text (in_which w s)) w next w s g refl (ap (λ n. in_which n s) g)
accepted_seeks (Show name) text w next s g = stays (Accepted (Show name) text (in_which w s)) w next w s g refl (ap (λ n. in_which n s) g)
accepted_seeks (Create name) text w next s g = stays (Accepted (Create name) text (in_which w s)) w next _ s g refl (ap (λ n. in_which n s) g)
accepted_seeks (Write name path lines) text w next s g = stays (Accepted (Write name path lines) text (in_which w s)) w next _ s g refl (ap (λ n. in_which n s) g)
accepted_seeks (Remove name path) text w next s g = stays (Accepted (Remove name path) text (in_which w s)) w next _ s g refl (ap (λ n. in_which n s) g)
accepted_seeks (Apply name path counter number lines) text w next s g = stays (Accepted (Apply name path counter number lines) text (in_which w s)) w next _ s g refl (ap (λ n. in_which n s) g)
accepted_seeks (Merge name other) text w next s g = stays (Accepted (Merge name other) text (in_which w s)) w next _ s g refl (ap (λ n. in_which n s) g)
accepted_seeks Settle text w next s g = stays (Accepted Settle text (in_which w s)) w next _ s g refl (ap (λ n. in_which n s) g)
accepted_seeks (Use edition) text w next s g = stays (Accepted (Use edition) text (in_which w s)) w next _ s g refl (ap (λ n. in_which n s) g)

by_seeks : (r : Option Refusal) (c : Command) (text : Option (List ℕ)) (w next : World) (s : List Action) → AfterBy r c text w next → Seeks (AfterBy r c text (in_which w s)) w next s
by_seeks None c text w next s g = accepted_seeks c text w next s g
by_seeks (Some r) c text w next s g = stays (AfterBy (Some r) c text (in_which w s)) w next w s g refl (ap (λ n. in_which n s) g)

pub after_seeks : (c : Command) (text : Option (List ℕ)) (w next : World) (s : List Action) → After c text w next → Seeks (After c text (in_which w s)) w next s
unfolding After
after_seeks c text w next s g =
    subst (λ rs. Seeks (AfterBy (first_of rs) c text (in_which w s)) w next s) (sym (same_refusals c text w s)) (by_seeks (first_of (refusals c text w)) c text w next s g)
