-- A command that is kept has all of its text, and one that isn't leaves a like world.
use Rattle.std.proofs.Common.{◌≡◌, ℕ, Bool, true, false, not, ◌&&◌, List, [], ◌∷◌, ◌++◌, Option, None, Some, sym, ap, ◌∙◌, subst, refl, zip}
use Rattle.std.proofs.lemmas.Bool.{false≢true}
use Rattle.std.specs.List.{flat_map}
use Rattle.std.proofs.lemmas.List.Elements.{Contains-append_left}
use Rattle.ws_action.specs.Actions.{Action}
use Rattle.ws_replica.specs.Reports.{TargetBuild}
use Rattle.ws_command.specs.declared.refusal.Refusal.{Refusal}
use Rattle.ws_command.specs.declared.refusal.Refusal.TheVariants.{BadCommand, Unknown, Exists, BadPath, NoFile, CounterFull, BadText, NoPackage, NotBuilt}
use Rattle.ws_command.specs.Refusals.{refused, first_of}
use Rattle.ws_command.specs.Printing.{report_text}
use Rattle.ws_command.specs.Commands.{Command, Nothing, Bad, Create, Write, Remove, Apply, Merge, Settle, Build, Run, Ids, Show, Use, text_lines, text_of}
use Rattle.ws_session.specs.World.{World, Accepted, AfterBy, After, after_builds, seeking, refusals, Outputs, PrintsBy, Prints, builds_text, target_report}
use Rattle.ws_session.proofs.OneText.{one_builds}
use Rattle.ws_keep.specs.Keeping.{IsLike, is_change, is_refusal}
use Rattle.ws_keep.proofs.Forever.{like_itself}

refusal_told : (r : Refusal) (told : List ℕ) → told ≡ refused r → is_refusal told ≡ true
refusal_told BadCommand told e = rw e refl
refusal_told Unknown told e = rw e refl
refusal_told Exists told e = rw e refl
refusal_told BadPath told e = rw e refl
refusal_told NoFile told e = rw e refl
refusal_told CounterFull told e = rw e refl
refusal_told BadText told e = rw e refl
refusal_told NoPackage told e = rw e refl
refusal_told NotBuilt told e = rw e refl

-- ---- what has a text

-- one of the reasons holds
refused_last : (a b d : Bool) (x y z last : Refusal) → first_of ((a, x) ∷ (b, y) ∷ (d, z) ∷ (true, last) ∷ []) ≡ None → ⊥
refused_last true b d x y z last e = let f : ◌≡◌ {A = Option Refusal} (Some x) None = e in absurd (cc (f))
refused_last false true d x y z last e = let f : ◌≡◌ {A = Option Refusal} (Some y) None = e in absurd (cc (f))
refused_last false false true x y z last e = let f : ◌≡◌ {A = Option Refusal} (Some z) None = e in absurd (cc (f))
refused_last false false false x y z last e = let f : ◌≡◌ {A = Option Refusal} (Some last) None = e in absurd (cc (f))

refused_third : (a b : Bool) (x y last : Refusal) → first_of ((a, x) ∷ (b, y) ∷ (true, last) ∷ []) ≡ None → ⊥
refused_third true b x y last e = let f : ◌≡◌ {A = Option Refusal} (Some x) None = e in absurd (cc (f))
refused_third false true x y last e = let f : ◌≡◌ {A = Option Refusal} (Some y) None = e in absurd (cc (f))
refused_third false false x y last e = let f : ◌≡◌ {A = Option Refusal} (Some last) None = e in absurd (cc (f))

-- a command that isn't refused has all of its text
pub accepted_text : (c : Command) (text : Option (List ℕ)) (lines : List (List ℕ)) (world : World) → text ≡ text_of (text_lines c) lines → first_of (refusals c text world) ≡ None
    → (its : List ℕ) × (text_of (text_lines c) lines ≡ Some its)
accepted_text (Write name path n) None lines world e f = absurd (refused_last _ _ _ Unknown BadPath CounterFull BadText f)
accepted_text (Write name path n) (Some text) lines world e f = (text, sym e)
accepted_text (Apply name path counter number None) text lines world e f = ([], refl)
accepted_text (Apply name path counter number (Some n)) None lines world e f = absurd (refused_third _ _ Unknown BadPath BadText f)
accepted_text (Apply name path counter number (Some n)) (Some text) lines world e f = (text, sym e)
accepted_text Nothing text lines world e f = ([], refl)
accepted_text Bad text lines world e f = ([], refl)
accepted_text (Create name) text lines world e f = ([], refl)
accepted_text (Remove name path) text lines world e f = ([], refl)
accepted_text (Merge name other) text lines world e f = ([], refl)
accepted_text Settle text lines world e f = ([], refl)
accepted_text (Build targets) text lines world e f = ([], refl)
accepted_text (Run name directory ticks) text lines world e f = ([], refl)
accepted_text (Ids name directory) text lines world e f = ([], refl)
accepted_text (Show name) text lines world e f = ([], refl)
accepted_text (Use edition) text lines world e f = ([], refl)

-- what prints no refusal isn't refused
not_refused : (r : Option Refusal) (c : Command) (world : World) (told : List ℕ) → PrintsBy r c world told → is_refusal told ≡ false → r ≡ None
not_refused None c world told prints other = refl
not_refused (Some r) c world told prints other = absurd (false≢true (sym other ∙ refusal_told r told prints))

pub kept_text : (c : Command) (text : Option (List ℕ)) (lines : List (List ℕ)) (world : World) (told : List ℕ) → text ≡ text_of (text_lines c) lines → Prints c text world told
    → (is_change c && not (is_refusal told)) ≡ true → (its : List ℕ) × (text_of (text_lines c) lines ≡ Some its)
unfolding Prints
kept_text c text lines world told e prints kept =
    accepted_text c text lines world e (not_refused (first_of (refusals c text world)) c world told prints (no_refusal (is_change c) (is_refusal told) kept))
  where
    no_refusal : (a b : Bool) → (a && not b) ≡ true → b ≡ false
    no_refusal true true h = cc
    no_refusal true false h = refl
    no_refusal false b h = cc

-- ---- what changes nothing

still_like : (world next : World) → next ≡ world → IsLike world next
still_like world next e = subst (λ (w : World). IsLike world w) (sym e) (like_itself world)

seeking_like : (world next : World) (actions : List Action) → next ≡ seeking world actions → IsLike world next
seeking_like world next actions e = subst (λ (w : World). IsLike world w) (sym e) (record {
  edition = refl;
  replicas = refl;
  sought = λ x inside. Contains-append_left world.sought actions x inside;
})

-- what builds print is no refusal
report_told : (count : ℕ) (name directory : List ℕ) (build : TargetBuild) (rest : List ℕ) → is_refusal (target_report count ((name, directory), build) ++ rest) ≡ false
unfolding report_text
report_told count name directory build rest = refl

reports_told : (count : ℕ) (pairs : List ((List ℕ × List ℕ) × TargetBuild)) → is_refusal (flat_map (target_report count) pairs) ≡ false
reports_told count [] = refl
reports_told count (((name, directory), build) ∷ pairs) = report_told count name directory build (flat_map (target_report count) pairs)

built_like : (targets : List (List ℕ × List ℕ)) (world next : World) (told : List ℕ) (a b : Option (List TargetBuild)) → a ≡ b → next ≡ after_builds world targets a
    → told ≡ builds_text world targets b → is_refusal told ≡ true → IsLike world next
built_like targets world next told None None e f g h = still_like world next f
built_like targets world next told (Some builds) None e f g h = cc
built_like targets world next told a (Some bs) e f g h =
    absurd (false≢true (sym (reports_told _ (zip targets bs)) ∙ (ap is_refusal (sym g) ∙ h)))

-- what tells nothing is no refusal
silent : (told : List ℕ) → told ≡ [] → (true && not (is_refusal told)) ≡ false → ⊥
silent told e h = let f : true ≡ false = rw e at h in cc

not_kept : (refused : Bool) → (true && not refused) ≡ false → refused ≡ true
not_kept true h = refl
not_kept false h = cc

dropped_accepted : (c : Command) (text : Option (List ℕ)) (world next : World) (told : List ℕ) → Accepted c text world next → Outputs c world told
    → (is_change c && not (is_refusal told)) ≡ false → IsLike world next
dropped_accepted Nothing text world next told after answers h = still_like world next after
dropped_accepted Bad text world next told after answers h = still_like world next after
dropped_accepted (Show name) text world next told after answers h = still_like world next after
dropped_accepted (Run name directory ticks) text world next told after answers h = seeking_like world next _ after.2
dropped_accepted (Ids name directory) text world next told after answers h = seeking_like world next _ after.2
dropped_accepted (Build targets) text world next told after answers h =
    built_like targets world next told after.0 answers.0 (one_builds world targets after.0 answers.0 after.1 answers.1) after.2 answers.2 (not_kept (is_refusal told) h)
dropped_accepted (Create name) text world next told after answers h = absurd (silent told answers h)
dropped_accepted (Write name path lines) text world next told after answers h = absurd (silent told answers h)
dropped_accepted (Remove name path) text world next told after answers h = absurd (silent told answers h)
dropped_accepted (Apply name path counter number lines) text world next told after answers h = absurd (silent told answers h)
dropped_accepted (Merge name other) text world next told after answers h = absurd (silent told answers h)
dropped_accepted Settle text world next told after answers h = absurd (silent told answers h)
dropped_accepted (Use edition) text world next told after answers h = absurd (silent told answers h)

dropped_by : (r : Option Refusal) (c : Command) (text : Option (List ℕ)) (world next : World) (told : List ℕ) → AfterBy r c text world next → PrintsBy r c world told
    → (is_change c && not (is_refusal told)) ≡ false → IsLike world next
dropped_by None c text world next told after prints h = dropped_accepted c text world next told after prints h
dropped_by (Some r) c text world next told after prints h = still_like world next after

pub dropped_like : (c : Command) (text : Option (List ℕ)) (world next : World) (told : List ℕ) → After c text world next → Prints c text world told
    → (is_change c && not (is_refusal told)) ≡ false → IsLike world next
unfolding After Prints
dropped_like c text world next told after prints h = dropped_by (first_of (refusals c text world)) c text world next told after prints h
