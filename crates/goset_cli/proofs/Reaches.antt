-- How a session's text goes on from a world that it has reached.
use Rattle.std.proofs.Common.{◌≡◌, ℕ, zero, suc, List, [], ◌∷◌, ◌++◌, drop, take, refl, ap, sym, subst, ◌∙◌, inl, inr, append_assoc, append-nil, Option}
use Rattle.std.proofs.lemmas.List.{take-append-drop}
use Rattle.go_text.specs.declared.edition.Edition.{Edition}
use Rattle.ws_command.specs.Commands.{Command, command_of, text_of, text_lines}
use Rattle.ws_session.specs.World.{World, empty_world, After, Prints}
use Rattle.ws_command.specs.Lines.{lines_of}
use Rattle.goset_cli.specs.Requests.{IsFirst}
use Rattle.ws_session.specs.Text.{TextFrom, IsBeginning, ReachedFrom}
use Rattle.ws_session.proofs.Filed.{IsFiled, filed_after}
use Rattle.ws_session.proofs.SomeText.{some_after}
use Rattle.ws_keep.specs.Keeping.{EndsFrom, LeavesFrom}

-- From the first world's lines on, all that is said from here on follows this front, and each world that is reached or left from here is.
-- What the replicas here took is of files.
pub record LeadsTo (first : World) (all : List (List ℕ)) (world : World) (left : List (List ℕ)) (front : List ℕ) : Type 0 where
  pub text : (later : List ℕ) → TextFrom 0 left world later → TextFrom 0 all first (front ++ later)
  pub reached : (other : World) → ReachedFrom 0 left world other → ReachedFrom 0 all first other
  pub ends : (last : World) → EndsFrom 0 left world last → EndsFrom 0 all first last
  pub filed : IsFiled world

-- what a line's command prints, on the lines behind it
abbrev pub LinePrints : List ℕ → List (List ℕ) → World → List ℕ → Type 0
LinePrints line lines world told = Prints (command_of line) (text_of (text_lines (command_of line)) lines) world told

-- the world after it
abbrev pub LineLeads : List ℕ → List (List ℕ) → World → World → Type 0
LineLeads line lines world next = After (command_of line) (text_of (text_lines (command_of line)) lines) world next

-- text that is taken says nothing
text_taken : (taken : ℕ) (lines : List (List ℕ)) (world : World) (told : List ℕ) → TextFrom 0 (drop taken lines) world told → TextFrom taken lines world told
unfolding TextFrom
text_taken zero lines world told h = h
text_taken (suc taken) [] world told h = h
text_taken (suc taken) (line ∷ lines) world told h = text_taken taken lines world told h

reached_taken : (taken : ℕ) (lines : List (List ℕ)) (world other : World) → ReachedFrom 0 (drop taken lines) world other → ReachedFrom taken lines world other
unfolding ReachedFrom
reached_taken zero lines world other h = h
reached_taken (suc taken) [] world other h = h
reached_taken (suc taken) (line ∷ lines) world other h = reached_taken taken lines world other h

-- a world is reached from itself
reached_itself : (lines : List (List ℕ)) (world : World) → ReachedFrom 0 lines world world
unfolding ReachedFrom
reached_itself [] world = refl
reached_itself (line ∷ lines) world = inl refl

ends_taken : (taken : ℕ) (lines : List (List ℕ)) (world last : World) → EndsFrom 0 (drop taken lines) world last → EndsFrom taken lines world last
unfolding EndsFrom
ends_taken zero lines world last h = h
ends_taken (suc taken) [] world last h = h
ends_taken (suc taken) (line ∷ lines) world last h = ends_taken taken lines world last h

-- what lines leave is of files, where the world before them is
filed_lines : (taken : ℕ) (lines : List (List ℕ)) (world last : World) → EndsFrom taken lines world last → IsFiled world → IsFiled last
unfolding EndsFrom
filed_lines taken [] world last h filed = subst IsFiled (sym h) filed
filed_lines (suc taken) (line ∷ lines) world last h filed = filed_lines taken lines world last h filed
filed_lines zero (line ∷ lines) world last (next, after, h) filed =
    filed_lines (text_lines (command_of line)) lines next last h (filed_after (command_of line) (text_of (text_lines (command_of line)) lines) world next after filed)

-- nothing is said before the first command
pub at_first : (edition : Edition) (before : List ℕ) (world : World) (all : List (List ℕ)) → LeavesFrom (empty_world edition) before world → LeadsTo world all world all []
at_first edition before world all leaves = record {
  text = λ later h. h;
  reached = λ other h. h;
  ends = λ last h. h;
  filed = filed_lines 0 (lines_of before) (empty_world edition) world leaves tt;
}

text_line : (line : List ℕ) (lines : List (List ℕ)) (world next : World) (told later : List ℕ) →
    LinePrints line lines world told → LineLeads line lines world next →
    TextFrom 0 (drop (text_lines (command_of line)) lines) next later → TextFrom 0 (line ∷ lines) world (told ++ later)
unfolding TextFrom
text_line line lines world next told later prints after h = (told, later, next, prints, after, text_taken (text_lines (command_of line)) lines next later h, refl)

reached_line : (line : List ℕ) (lines : List (List ℕ)) (world next other : World) → LineLeads line lines world next →
    ReachedFrom 0 (drop (text_lines (command_of line)) lines) next other → ReachedFrom 0 (line ∷ lines) world other
unfolding ReachedFrom
reached_line line lines world next other after h = inr (next, after, reached_taken (text_lines (command_of line)) lines next other h)

ends_line : (line : List ℕ) (lines : List (List ℕ)) (world next last : World) → LineLeads line lines world next →
    EndsFrom 0 (drop (text_lines (command_of line)) lines) next last → EndsFrom 0 (line ∷ lines) world last
unfolding EndsFrom
ends_line line lines world next last after h = (next, after, ends_taken (text_lines (command_of line)) lines next last h)

-- the world after the first command is reached
pub next_reached : {first : World} {all : List (List ℕ)} {world : World} {line : List ℕ} {lines : List (List ℕ)} {front : List ℕ} → LeadsTo first all world (line ∷ lines) front → (next : World) →
    LineLeads line lines world next → ReachedFrom 0 all first next
next_reached leads next after = leads.reached next (reached_line _ _ _ next next after (reached_itself _ next))

-- what it prints follows the front
pub leads_on : {first : World} {all : List (List ℕ)} {world : World} {line : List ℕ} {lines : List (List ℕ)} {front : List ℕ} → LeadsTo first all world (line ∷ lines) front → (next : World) (told : List ℕ) →
    LinePrints line lines world told → LineLeads line lines world next →
    LeadsTo first all next (drop (text_lines (command_of line)) lines) (front ++ told)
leads_on {first = first} {all = all} {world = world} {line = line} {lines = lines} {front = front} leads next told prints after = record {
  text = λ later h. subst (λ (t : List ℕ). TextFrom 0 all first t) (sym (append_assoc front told later)) (leads.text (told ++ later) (text_line _ _ _ next told later prints after h));
  reached = λ other h. leads.reached other (reached_line _ _ _ next other after h);
  ends = λ last h. leads.ends last (ends_line _ _ _ next last after h);
  filed = filed_after (command_of line) (text_of (text_lines (command_of line)) lines) world next after leads.filed;
}

-- with no line left the front is all
pub all_said : {first : World} {all : List (List ℕ)} {world : World} {left : List (List ℕ)} {front : List ℕ} → LeadsTo first all world left front → left ≡ [] → TextFrom 0 all first front
unfolding TextFrom
all_said {first = first} {all = all} {world = world} {front = front} leads none =
    subst (λ (t : List ℕ). TextFrom 0 all first t) (append-nil front) (leads.text [] (subst (λ (ls : List (List ℕ)). TextFrom 0 ls world []) (sym none) refl))

-- and the world here is what all lines leave
pub all_left : {first : World} {all : List (List ℕ)} {world : World} {left : List (List ℕ)} {front : List ℕ} → LeadsTo first all world left front → left ≡ [] → EndsFrom 0 all first world
unfolding EndsFrom
all_left {world = world} leads none = leads.ends world (subst (λ (ls : List (List ℕ)). EndsFrom 0 ls world world) (sym none) refl)

-- whatever lines are left in a world of files, there is a text for them
abbrev pub LinesHaveText : Type 0
LinesHaveText = (taken : ℕ) (lines : List (List ℕ)) (world : World) → IsFiled world → (told : List ℕ) × TextFrom taken lines world told

-- some bytes are a beginning of all that is said
abbrev pub BegunFrom : List (List ℕ) → World → List ℕ → Type 0
BegunFrom all first front = (text : List ℕ) × TextFrom 0 all first text × IsBeginning front text

-- the front is a beginning
pub front_said : {first : World} {all : List (List ℕ)} {world : World} {left : List (List ℕ)} {front : List ℕ} → LinesHaveText → LeadsTo first all world left front → BegunFrom all first front
front_said {world = world} {left = left} {front = front} some_text leads =
    let later = some_text 0 left world leads.filed in
    (front ++ later.0, leads.text later.0 later.1, (later.0, refl))

-- and so is the front with some of what the next command prints
pub part_said : {first : World} {all : List (List ℕ)} {world : World} {line : List ℕ} {lines : List (List ℕ)} {front : List ℕ} → LinesHaveText → LeadsTo first all world (line ∷ lines) front →
    (told : List ℕ) (n : ℕ) → LinePrints line lines world told → BegunFrom all first (front ++ take n told)
part_said {world = world} {line = line} {lines = lines} {front = front} some_text leads told n prints =
    let next = some_after (command_of line) (text_of (text_lines (command_of line)) lines) world in
    let filed = filed_after (command_of line) (text_of (text_lines (command_of line)) lines) world next.0 next.1 leads.filed in
    let later = some_text 0 (drop (text_lines (command_of line)) lines) next.0 filed in
    let split : front ++ (told ++ later.0) ≡ (front ++ take n told) ++ (drop n told ++ later.0) =
    ap (λ t. front ++ (t ++ later.0)) (sym (take-append-drop n told)) ∙ ap (λ t. front ++ t) (append_assoc (take n told) (drop n told) later.0)
    ∙ sym (append_assoc front (take n told) (drop n told ++ later.0)) in
    (front ++ (told ++ later.0), leads.text (told ++ later.0) (text_line line lines world next.0 told later.0 prints next.1 later.1), (drop n told ++ later.0, split))

text_is : {script : List ℕ} {command : Command} {text : Option (List ℕ)} {bytes rest : List ℕ} (is : IsFirst script command text bytes rest) → text ≡ text_of (text_lines (command_of is.line)) is.lines
text_is is = is.text_is ∙ ap (λ (k : Command). text_of (text_lines k) is.lines) is.command_is

pub after_line : {script : List ℕ} {command : Command} {text : Option (List ℕ)} {bytes rest : List ℕ} (is : IsFirst script command text bytes rest) (world next : World) → After command text world next →
    LineLeads is.line is.lines world next
after_line {command = command} is world next after =
    subst (λ (k : Command). After k (text_of (text_lines (command_of is.line)) is.lines) world next) is.command_is (subst (λ (t : Option (List ℕ)). After command t world next) (text_is is) after)

pub prints_line : {script : List ℕ} {command : Command} {text : Option (List ℕ)} {bytes rest : List ℕ} (is : IsFirst script command text bytes rest) (world : World) (told : List ℕ) → Prints command text world told →
    LinePrints is.line is.lines world told
prints_line {command = command} is world told prints =
    subst (λ (k : Command). Prints k (text_of (text_lines (command_of is.line)) is.lines) world told) is.command_is (subst (λ (t : Option (List ℕ)). Prints command t world told) (text_is is) prints)

at_line : {first : World} {all : List (List ℕ)} {world : World} {front : List ℕ} {script : List ℕ} {command : Command} {text : Option (List ℕ)} {bytes rest : List ℕ} (is : IsFirst script command text bytes rest) →
    LeadsTo first all world (lines_of script) front → LeadsTo first all world (is.line ∷ is.lines) front
at_line {first = first} {all = all} {world = world} {front = front} is leads = subst (λ (ls : List (List ℕ)). LeadsTo first all world ls front) is.script_is leads

-- the world after a script's first command is reached
pub first_reaches : {first : World} {all : List (List ℕ)} {world : World} {front : List ℕ} {script : List ℕ} {command : Command} {text : Option (List ℕ)} {bytes rest : List ℕ} → IsFirst script command text bytes rest →
    LeadsTo first all world (lines_of script) front → (next : World) → After command text world next → ReachedFrom 0 all first next
first_reaches {world = world} is leads next after = next_reached (at_line is leads) next (after_line is world next after)

-- what it prints follows the front
pub first_leads : {first : World} {all : List (List ℕ)} {world : World} {front : List ℕ} {script : List ℕ} {command : Command} {text : Option (List ℕ)} {bytes rest : List ℕ} → IsFirst script command text bytes rest →
    LeadsTo first all world (lines_of script) front → (next : World) (told : List ℕ) → Prints command text world told → After command text world next → LeadsTo first all next (lines_of rest) (front ++ told)
first_leads {first = first} {all = all} {world = world} {front = front} is leads next told prints after =
    subst (λ (ls : List (List ℕ)). LeadsTo first all next ls (front ++ told)) (sym (is.rest_is ∙ ap (λ (k : Command). drop (text_lines k) is.lines) is.command_is))
    (leads_on (at_line is leads) next told (prints_line is world told prints) (after_line is world next after))

-- the front with some of what it prints is a beginning
pub first_part : {first : World} {all : List (List ℕ)} {world : World} {front : List ℕ} {script : List ℕ} {command : Command} {text : Option (List ℕ)} {bytes rest : List ℕ} → LinesHaveText → IsFirst script command text bytes rest →
    LeadsTo first all world (lines_of script) front → (told : List ℕ) (n : ℕ) → Prints command text world told → BegunFrom all first (front ++ take n told)
first_part {world = world} some_text is leads told n prints = part_said some_text (at_line is leads) told n (prints_line is world told prints)
