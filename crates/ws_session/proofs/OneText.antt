-- A script has one session text.
use Rattle.std.proofs.Common.{◌≡◌, ℕ, zero, suc, List, [], ◌∷◌, ◌++◌, Option, None, Some, sym, ap, ◌∙◌, subst, inl, inr, refl}
use Rattle.std.specs.Prelude.{⊤}
use Rattle.go_text.specs.declared.edition.Edition.{Edition}
use Rattle.ws_version.specs.Writes.{Write as AWrite}
use Rattle.ws_replica.specs.Reports.{TargetBuild, IsTargetBuild, actions_in}
use Rattle.ws_action.proofs.Members.{none_in_empty, head_or_later}
use Rattle.ws_command.specs.declared.refusal.Refusal.{Refusal}
use Rattle.ws_command.specs.Commands.{Command, Nothing, Bad, Create, Write, Remove, Apply, Merge, Settle, Build, Run, Ids, Show, Use, command_of, text_lines, text_of}
use Rattle.ws_command.specs.Refusals.{first_of}
use Rattle.ws_command.specs.RunPrinting.{run_text}
use Rattle.ws_command.specs.IdsPrinting.{ids_text}
use Rattle.ws_command.specs.ShowPrinting.{show_text}
use Rattle.std.specs.FinMap.{entries}
use Rattle.ws_register.specs.Edits.{Contents}
use Rattle.ws_register.specs.Sources.{AreGreatestWrites}
use Rattle.ws_register.proofs.Laws.{one_contents, SameMembers-itself}
use Rattle.go_code.specs.declared.ending.Ending.{Ending}
use Rattle.go_meaning.specs.Meaning.{Outcome, Gives, Ends, Stuck}
use Rattle.go_meaning.specs.Programs.{IsOver, SourceMeaning, run_program}
use Rattle.go_typed.specs.Trees.{Package}
use Rattle.ws_replica.proofs.OneBuild.{one_build as one_build_of}
use Rattle.ws_session.proofs.IdRows.{one_id_rows}
use Rattle.ws_session.proofs.Programs.{one_program}
use Rattle.ws_session.specs.World.{World, empty_world, writes_of, actions_held, seeking, AreBuilds, after_builds, builds_text, refusals, Accepted, AfterBy, After, Outputs, PrintsBy, Prints, IsBuild, PrintsRun, Listed}
use Rattle.ws_session.specs.Text.{TextFrom, SessionText}

one_shown : (W s t : List AWrite) → AreGreatestWrites W s → AreGreatestWrites W t → s ≡ t
one_shown W s t g h = g.2 ∙ ap (λ (m : Contents). entries m) (one_contents g.0 h.0 W W (SameMembers-itself W) g.1 h.1) ∙ sym h.2

-- a target has one build
one_build : (edition : Edition) (W : List AWrite) (target : List ℕ) (a b : Option TargetBuild) → IsTargetBuild edition W target a → IsTargetBuild edition W target b → a ≡ b
one_build edition W target a b g h = one_build_of edition W W target a b (SameMembers-itself W) g h

-- and none where it has no package files
never_built : (edition : Edition) (W : List AWrite) (target : List ℕ) (b : TargetBuild) → IsTargetBuild edition W target None → IsTargetBuild edition W target (Some b) → ⊥
never_built edition W target b none is = let e : ◌≡◌ {A = Option TargetBuild} None (Some b) = one_build edition W target None (Some b) none is in absurd (cc (e))

same_build : (edition : Edition) (W : List AWrite) (target : List ℕ) (a b : TargetBuild) → IsTargetBuild edition W target (Some a) → IsTargetBuild edition W target (Some b) → a ≡ b
same_build edition W target a b g h = (let e : Some a ≡ Some b = one_build edition W target (Some a) (Some b) g h in cc (e))

all_one : (world : World) (targets : List (List ℕ × List ℕ)) (a b : List TargetBuild) → AreBuilds world targets (Some a) → AreBuilds world targets (Some b) → a ≡ b
all_one world [] [] [] g h = refl
all_one world [] [] (y ∷ b) g h = absurd h
all_one world [] (x ∷ a) b g h = absurd g
all_one world (t ∷ targets) [] b g h = absurd g
all_one world (t ∷ targets) (x ∷ a) [] g h = absurd h
all_one world (t ∷ targets) (x ∷ a) (y ∷ b) g h =
    ap (λ z. z ∷ a) (same_build world.edition (writes_of t.0 world) t.1 x y g.0 h.0) ∙ ap (λ zs. y ∷ zs) (all_one world targets a b g.1 h.1)

none_or_some : (world : World) (targets : List (List ℕ × List ℕ)) (b : List TargetBuild) → AreBuilds world targets None → AreBuilds world targets (Some b) → ⊥
none_or_some world [] [] (name, directory, c, none) h = none_in_empty (name, directory) c
none_or_some world [] (y ∷ b) g h = absurd h
none_or_some world (t ∷ targets) [] g h = absurd h
none_or_some world (t ∷ targets) (y ∷ b) (name, directory, c, none) h = elim (head_or_later t targets (name, directory) c) [
  | inl same ↦ never_built world.edition (writes_of t.0 world) t.1 y (subst (λ (p : List ℕ × List ℕ). IsTargetBuild world.edition (writes_of p.0 world) p.1 None) (sym same) none) h.0
  | inr rest ↦ none_or_some world targets b (name, directory, rest, none) h.1
]

pub one_builds : (world : World) (targets : List (List ℕ × List ℕ)) (a b : Option (List TargetBuild)) → AreBuilds world targets a → AreBuilds world targets b → a ≡ b
one_builds world targets None None g h = refl
one_builds world targets None (Some b) g h = absurd (none_or_some world targets b g h)
one_builds world targets (Some a) None g h = absurd (none_or_some world targets a h g)
one_builds world targets (Some a) (Some b) g h = ap Some (all_one world targets a b g h)

over_once : (o : Outcome ⊤) (a b : Ending) (s t : List ℕ) → IsOver o a s → IsOver o b t → (a ≡ b) × (s ≡ t)
over_once (Gives done w) a b s t g h = (g.0 ∙ sym h.0, g.1 ∙ sym h.1)
over_once (Ends ending output) a b s t g h = (g.0 ∙ sym h.0, g.1 ∙ sym h.1)
over_once Stuck a b s t g h = absurd g

ran_once : (world : World) (name directory : List ℕ) (ticks : ℕ) (build : TargetBuild) (a b : List ℕ) → PrintsRun name directory ticks world (Some build) a → PrintsRun name directory ticks world (Some build) b → a ≡ b
ran_once world name directory ticks build a b (inl g) (inl h) =
    let same : h.0 ≡ g.0 = one_program world.edition (actions_held name world) build h.0 g.0 h.1 g.1 in
    let other = subst (λ (ps : List Package). SourceMeaning ps ticks h.2 h.3) same h.4 in
    let means = over_once (run_program g.0 ticks) g.2 h.2 g.3 h.3 (g.4).1 other.1 in
    g.5 ∙ ap (λ e. run_text name directory e g.3) means.0 ∙ ap (run_text name directory h.2) means.1 ∙ sym h.5
ran_once world name directory ticks build a b (inl g) (inr h) = absurd (h.0 g.0 g.1)
ran_once world name directory ticks build a b (inr g) (inl h) = absurd (g.0 h.0 h.1)
ran_once world name directory ticks build a b (inr g) (inr h) = g.1 ∙ sym h.1

one_ran : (world : World) (name directory : List ℕ) (ticks : ℕ) (build : Option TargetBuild) (a b : List ℕ) → PrintsRun name directory ticks world build a → PrintsRun name directory ticks world build b → a ≡ b
one_ran world name directory ticks None a b g h = g ∙ sym h
one_ran world name directory ticks (Some build) a b g h = ran_once world name directory ticks build a b g h

one_listed : (world : World) (name directory : List ℕ) (build : Option TargetBuild) (a b : List ℕ) → IsBuild name directory world build → Listed name directory world build a → Listed name directory world build b → a ≡ b
one_listed world name directory None a b is g h = g ∙ sym h
one_listed world name directory (Some build) a b is g h =
    g.2 ∙ ap (ids_text name directory) (one_id_rows world.edition (writes_of name world) directory (actions_held name world) build g.0 h.0 is g.1 h.1) ∙ sym h.2

pub one_answer : (command : Command) (world : World) (a b : List ℕ) → Outputs command world a → Outputs command world b → a ≡ b
one_answer (Build targets) world a b g h = g.2 ∙ ap (builds_text world targets) (one_builds world targets g.0 h.0 g.1 h.1) ∙ sym h.2
one_answer (Run name directory ticks) world a b g h =
    let same : h.0 ≡ g.0 = one_build world.edition (writes_of name world) directory h.0 g.0 h.1 g.1 in
    one_ran world name directory ticks g.0 a b g.2 (subst (λ p. PrintsRun name directory ticks world p b) same h.2)
one_answer (Ids name directory) world a b g h =
    let same : h.0 ≡ g.0 = one_build world.edition (writes_of name world) directory h.0 g.0 h.1 g.1 in
    one_listed world name directory g.0 a b g.1 g.2 (subst (λ p. Listed name directory world p b) same h.2)
one_answer Nothing world a b g h = g ∙ sym h
one_answer Bad world a b g h = g ∙ sym h
one_answer (Create name) world a b g h = g ∙ sym h
one_answer (Write name path lines) world a b g h = g ∙ sym h
one_answer (Remove name path) world a b g h = g ∙ sym h
one_answer (Apply name path counter number lines) world a b g h = g ∙ sym h
one_answer (Merge name other) world a b g h = g ∙ sym h
one_answer Settle world a b g h = g ∙ sym h
one_answer (Use edition) world a b g h = g ∙ sym h
one_answer (Show name) world a b g h = g.2 ∙ ap (show_text name) (one_shown (writes_of name world) g.0 h.0 g.1 h.1) ∙ sym h.2

one_print_by : (refusal : Option Refusal) (command : Command) (world : World) (a b : List ℕ) → PrintsBy refusal command world a → PrintsBy refusal command world b → a ≡ b
one_print_by None command world a b g h = one_answer command world a b g h
one_print_by (Some refusal) command world a b g h = g ∙ sym h

one_print : (command : Command) (text : Option (List ℕ)) (world : World) (a b : List ℕ) → Prints command text world a → Prints command text world b → a ≡ b
unfolding Prints
one_print command text world a b g h = one_print_by (first_of (refusals command text world)) command world a b g h

one_accepted : (command : Command) (text : Option (List ℕ)) (world a b : World) → Accepted command text world a → Accepted command text world b → a ≡ b
one_accepted (Build targets) text world a b g h = g.2 ∙ ap (after_builds world targets) (one_builds world targets g.0 h.0 g.1 h.1) ∙ sym h.2
one_accepted (Run name directory ticks) text world a b g h =
    let same : g.0 ≡ h.0 = one_build world.edition (writes_of name world) directory g.0 h.0 g.1 h.1 in
    g.2 ∙ ap (λ p. seeking world (actions_in world.edition p)) same ∙ sym h.2
one_accepted (Ids name directory) text world a b g h =
    let same : g.0 ≡ h.0 = one_build world.edition (writes_of name world) directory g.0 h.0 g.1 h.1 in
    g.2 ∙ ap (λ p. seeking world (actions_in world.edition p)) same ∙ sym h.2
one_accepted Nothing text world a b g h = g ∙ sym h
one_accepted Bad text world a b g h = g ∙ sym h
one_accepted (Create name) text world a b g h = g ∙ sym h
one_accepted (Write name path lines) text world a b g h = g ∙ sym h
one_accepted (Remove name path) text world a b g h = g ∙ sym h
one_accepted (Apply name path counter number lines) text world a b g h = g ∙ sym h
one_accepted (Merge name other) text world a b g h = g ∙ sym h
one_accepted Settle text world a b g h = g ∙ sym h
one_accepted (Show name) text world a b g h = g ∙ sym h
one_accepted (Use edition) text world a b g h = g ∙ sym h

one_after_by : (refusal : Option Refusal) (command : Command) (text : Option (List ℕ)) (world a b : World) → AfterBy refusal command text world a → AfterBy refusal command text world b → a ≡ b
one_after_by None command text world a b g h = one_accepted command text world a b g h
one_after_by (Some refusal) command text world a b g h = g ∙ sym h

pub one_after : (command : Command) (text : Option (List ℕ)) (world a b : World) → After command text world a → After command text world b → a ≡ b
unfolding After
one_after command text world a b g h = one_after_by (first_of (refusals command text world)) command text world a b g h

one_text_from : (taken : ℕ) (lines : List (List ℕ)) (world : World) (a b : List ℕ) → TextFrom taken lines world a → TextFrom taken lines world b → a ≡ b
unfolding TextFrom
one_text_from taken [] world a b g h = g ∙ sym h
one_text_from (suc taken) (line ∷ lines) world a b g h = one_text_from taken lines world a b g h
one_text_from zero (line ∷ lines) world a b g h =
    let command = command_of line in
    let text = text_of (text_lines command) lines in
    let now : g.0 ≡ h.0 = one_print command text world g.0 h.0 g.3 h.3 in
    let next : h.2 ≡ g.2 = one_after command text world h.2 g.2 h.4 g.4 in
    let later : g.1 ≡ h.1 = one_text_from (text_lines command) lines g.2 g.1 h.1 g.5 (subst (λ w. TextFrom (text_lines command) lines w h.1) next h.5) in
    g.6 ∙ ap (λ (x : List ℕ). x ++ g.1) now ∙ ap (λ (x : List ℕ). h.0 ++ x) later ∙ sym h.6

pub one_session_text : (edition : Edition) (script a b : List ℕ) → SessionText edition script a → SessionText edition script b → a ≡ b
one_session_text edition script a b g h = one_text_from 0 _ (empty_world edition) a b g h
