-- What a journal takes of a script does what the script does.
use Rattle.std.proofs.Common.{◌≡◌, ℕ, ◌+◌, ◌<◌, ◌≤◌, ◌-◌, Bool, true, false, not, ◌&&◌, List, [], ◌∷◌, ◌++◌, length, take, drop, get_or, Option, Some, sym, ap, ◌∙◌, subst, inl, inr, refl, arith, append-nil, length-append}
use Rattle.std.specs.Prelude.{◌==◌, cond, if◌then◌else◌}
use Rattle.std.specs.List.{onto_first}
use Rattle.std.proofs.lemmas.Bool.Decides.{eqb_tells}
use Rattle.std.proofs.lemmas.List.{append_cancel_right, take-append-drop}
use Rattle.ws_command.specs.Lines.{lines_of}
use Rattle.ws_command.specs.Commands.{Command, command_of, text_lines, text_of}
use Rattle.ws_command.specs.Pieces.{closed, without_newline}
use Rattle.ws_session.specs.World.{World, empty_world, After, Prints}
use Rattle.goset_cli.specs.Requests.{IsFirst}
use Rattle.go_text.specs.declared.edition.Edition.{Edition}
use Rattle.go_text.specs.declared.edition.Edition.TheVariants.{One}
use Rattle.ws_session.specs.Representation.{Represents}
use Rattle.ws_session.specs.declared.replicas.Replicas.{Replicas}
use Rattle.ws_keep.specs.Keeping.{EndsFrom, IsClearFrom, LeavesFrom, ReplaysFrom, Restores, is_change, is_refusal, kept_lines}
use Rattle.ws_keep.proofs.Changing.{dropped_like, kept_text}
use Rattle.ws_keep.proofs.Parting.{lines_apart}
use Rattle.ws_keep.proofs.Replaying.{replays_both, replays_command, replays_less, replays_none, restores}
use Rattle.goset_cli.specs.Ends.{Wrote, WroteSome}
use Rattle.goset_cli.specs.KeptRuns.{ScriptAnswered, AnsweredSome, Resumed, ResumedSome}
use Rattle.goset_cli.specs.Streams.{GrowsBy}
use Rattle.goset_cli.proofs.Growth.{grows_not, grows_on}
use Rattle.goset_cli.proofs.Reaches.{LeadsTo, LinesHaveText, after_line, all_left, all_said, at_first, first_leads, first_part, front_said, prints_line}
use Rattle.goset_cli.proofs.Texts.{closed_is, closed_line, ended_by}

-- ---- lines of pieces

not_newline : (b : ℕ) (x y : List (List ℕ)) → (b ≡ 10 → ⊥) → cond (b == 10) x y ≡ y
not_newline b x y h = elim (eqb_tells b 10) [ inl t ↦ absurd (h t.1) | inr t ↦ rw t.0 refl ]

-- a newline behind a line without one begins no line
line_ended : (b : ℕ) (bytes : List ℕ) → (get_or (b ∷ bytes) (length bytes) 0 ≡ 10 → ⊥) → lines_of ((b ∷ bytes) ++ 10 ∷ []) ≡ lines_of (b ∷ bytes)
line_ended b [] unended = not_newline b _ _ unended ∙ sym (not_newline b _ _ unended)
line_ended b (c ∷ bytes) unended = ap (λ (ls : List (List ℕ)). cond (b == 10) ([] ∷ ls) (onto_first b ls)) (line_ended c bytes unended)

ended_lines : (last : ℕ) (bytes : List ℕ) → ((last ≡ 10 → ⊥) → lines_of (bytes ++ 10 ∷ []) ≡ lines_of bytes) → lines_of (ended_by last bytes) ≡ lines_of bytes
ended_lines last bytes unended = elim (eqb_tells last 10) [ inl t ↦ rw t.0 refl | inr t ↦ rw t.0 (unended t.1) ]

closed_lines : (bytes : List ℕ) → lines_of (closed bytes) ≡ lines_of bytes
closed_lines [] = refl
closed_lines (b ∷ bytes) =
    ap lines_of (closed_is (b ∷ bytes) (omega arith)) ∙ ended_lines (get_or (b ∷ bytes) (length (b ∷ bytes) - 1) 0) (b ∷ bytes)
    (λ unended. line_ended b bytes (λ e. unended (let n : length (b ∷ bytes) - 1 ≡ length bytes = omega arith in rw n e)))

-- whole lines, and what is behind them
front_lines : (bytes rest : List ℕ) → 0 < length bytes → (0 < length rest → closed bytes ≡ bytes) → lines_of (bytes ++ rest) ≡ lines_of (closed bytes) ++ lines_of rest
front_lines bytes [] some ended = ap lines_of (append-nil bytes) ∙ sym (append-nil (lines_of (closed bytes)) ∙ closed_lines bytes)
front_lines bytes (b ∷ rest) some ended =
    let is : bytes ≡ without_newline bytes ++ 10 ∷ [] = sym (ended (omega arith)) ∙ closed_line bytes some in
    subst (λ (s : List ℕ). lines_of (s ++ b ∷ rest) ≡ lines_of s ++ lines_of (b ∷ rest)) (sym is) (lines_apart (without_newline bytes) (b ∷ rest))
    ∙ ap (λ (s : List ℕ). lines_of s ++ lines_of (b ∷ rest)) (sym (ended (omega arith)))

-- ---- the first command of a script

-- its lines are its line, and those of its text
command_lines : {script : List ℕ} {command : Command} {text : Option (List ℕ)} {bytes rest : List ℕ} (is : IsFirst script command text bytes rest) → 0 < length bytes
    → lines_of (closed bytes) ≡ is.line ∷ take (text_lines (command_of is.line)) is.lines
command_lines {script = script} {command = command} {bytes = bytes} {rest = rest} is some =
    let n = text_lines (command_of is.line) in
    let left : lines_of rest ≡ drop n is.lines = is.rest_is ∙ ap (λ (k : Command). drop (text_lines k) is.lines) is.command_is in
    let all : lines_of (closed bytes) ++ lines_of rest ≡ is.line ∷ is.lines = sym (front_lines bytes rest some is.bytes_are.1) ∙ (ap lines_of (sym is.bytes_are.0) ∙ is.script_is) in
    let parts : is.line ∷ is.lines ≡ (is.line ∷ take n is.lines) ++ drop n is.lines = ap (λ (ls : List (List ℕ)). is.line ∷ ls) (sym (take-append-drop n is.lines)) in
    append_cancel_right (lines_of (closed bytes)) (is.line ∷ take n is.lines) (drop n is.lines)
    (ap (λ (ls : List (List ℕ)). lines_of (closed bytes) ++ ls) (sym left) ∙ (all ∙ parts))

is_text_of : {script : List ℕ} {command : Command} {text : Option (List ℕ)} {bytes rest : List ℕ} (is : IsFirst script command text bytes rest) → text ≡ text_of (text_lines (command_of is.line)) is.lines
is_text_of is = is.text_is ∙ ap (λ (k : Command). text_of (text_lines k) is.lines) is.command_is

-- what the journal took and what it takes of a command do what the commands did
pub keeps_command : {script : List ℕ} {command : Command} {text : Option (List ℕ)} {bytes rest : List ℕ} (is : IsFirst script command text bytes rest) → 0 < length bytes
    → (first world next : World) (told same : List ℕ) → Prints command text world told → After command text world next
    → ReplaysFrom same first world → ReplaysFrom (same ++ kept_lines command told bytes) first next
keeps_command {command = command} {text = text} {bytes = bytes} is some first world next told same prints after replays =
    go (is_change command && not (is_refusal told)) refl
  where
    go : (kept : Bool) → (is_change command && not (is_refusal told)) ≡ kept → ReplaysFrom (same ++ kept_lines command told bytes) first next
    go true e =
        let of_line : (is_change (command_of is.line) && not (is_refusal told)) ≡ true = ap (λ (k : Command). is_change k && not (is_refusal told)) (sym is.command_is) ∙ e in
        let has = kept_text (command_of is.line) (text_of (text_lines (command_of is.line)) is.lines) is.lines world told refl (prints_line is world told prints) of_line in
        subst (λ (kept : Bool). ReplaysFrom (same ++ (if kept then closed bytes else [])) first next) (sym e)
        (replays_both same (closed bytes) first world next replays
        (replays_command (closed bytes) is.line has.0 is.lines world next (command_lines is some) has.1 (without_newline bytes, closed_line bytes some) (after_line is world next after)))
    go false e =
        subst (λ (kept : Bool). ReplaysFrom (same ++ (if kept then closed bytes else [])) first next) (sym e)
        (subst (λ (s : List ℕ). ReplaysFrom s first next) (sym (append-nil same))
        (replays_less same first world next replays (dropped_like command text world next told after prints e)))

-- ---- the commands that were answered

-- What is written follows what was, and leads to a world for which the replicas stand; the journal took what does the same.
pub record SoFar (first : World) (script rest : List ℕ) (written written' taken taken' : Option (List ℕ)) (replicas : Replicas) : Type 0 where
  pub world : World
  pub stand : Represents replicas world
  pub front : List ℕ
  pub grown : GrowsBy written written' front
  pub leads : LeadsTo first (lines_of script) world (lines_of rest) front
  pub same : List ℕ
  pub replays : ReplaysFrom same first world
  pub took : GrowsBy taken taken' same
  pub fits : length same + length rest ≤ length script + (1 - length rest)

pub none_so_far : (edition : Edition) (before : List ℕ) (first : World) (script : List ℕ) (written taken : Option (List ℕ)) (replicas : Replicas) → LeavesFrom (empty_world edition) before first
    → Represents replicas first → SoFar first script script written written taken taken replicas
none_so_far edition before first script written taken replicas leaves stand = record {
  world = first;
  stand = stand;
  front = [];
  grown = grows_not written;
  leads = at_first edition before first (lines_of script) leaves;
  same = [];
  replays = replays_none first;
  took = grows_not taken;
  fits = omega arith;
}

-- a newline is added to a command's lines at most
closed_short : (bytes : List ℕ) → length (closed bytes) ≤ length bytes + 1
closed_short [] = omega arith
closed_short (b ∷ bytes) = rw (closed_is (b ∷ bytes) (omega arith)) (ended_short (get_or (b ∷ bytes) (length (b ∷ bytes) - 1) 0) (b ∷ bytes))
  where
    ended_short : (last : ℕ) (all : List ℕ) → length (ended_by last all) ≤ length all + 1
    ended_short last all = elim (eqb_tells last 10) [ inl t ↦ rw t.0 (omega arith) | inr t ↦ rw t.0 (omega (arith, length-append all (10 ∷ []))) ]

kept_short : (command : Command) (told bytes : List ℕ) → length (kept_lines command told bytes) ≤ length (closed bytes)
kept_short command told bytes = chosen (is_change command && not (is_refusal told))
  where
    chosen : (kept : Bool) → length (if kept then closed bytes else []) ≤ length (closed bytes)
    chosen true = omega arith
    chosen false = omega arith

fits_more : (same script left bytes rest kept : List ℕ) → length same + length left ≤ length script + (1 - length left) → left ≡ bytes ++ rest → 0 < length bytes
    → length kept ≤ length (closed bytes) → (0 < length rest → closed bytes ≡ bytes) → length (same ++ kept) + length rest ≤ length script + (1 - length rest)
fits_more same script left bytes [] kept fits are some short ended =
    let closed_is_short = closed_short bytes in
    omega (arith, fits, ap length are, some, short, closed_is_short, length-append same kept, length-append bytes [])
fits_more same script left bytes (b ∷ rest) kept fits are some short ended =
    let same_length : length (closed bytes) ≡ length bytes = ap length (ended (omega arith)) in
    omega (arith, fits, ap length are, some, short, same_length, length-append same kept, length-append bytes (b ∷ rest))

-- one more command
pub more_so_far : {first : World} {script left : List ℕ} {command : Command} {text : Option (List ℕ)} {bytes rest : List ℕ} {written written' taken taken' : Option (List ℕ)} {replicas : Replicas}
    → (so_far : SoFar first script left written written' taken taken' replicas) → IsFirst left command text bytes rest → 0 < length bytes
    → (next : World) (told : List ℕ) (wrote took : Option (List ℕ)) (replicas' : Replicas) → After command text so_far.world next → Prints command text so_far.world told → Represents replicas' next
    → GrowsBy written' wrote told → GrowsBy taken' took (kept_lines command told bytes) → SoFar first script rest written wrote taken took replicas'
more_so_far {command = command} {bytes = bytes} {written = written} {written' = written'} {taken = taken} {taken' = taken'} so_far is some next told wrote took replicas' after prints stand more kept = record {
  world = next;
  stand = stand;
  front = so_far.front ++ told;
  grown = grows_on written written' wrote so_far.front told so_far.grown more;
  leads = first_leads is so_far.leads next told prints after;
  same = so_far.same ++ kept_lines command told bytes;
  replays = keeps_command is some _ so_far.world next told so_far.same prints after so_far.replays;
  took = grows_on taken taken' took so_far.same (kept_lines command told bytes) so_far.took kept;
  fits = fits_more so_far.same _ _ _ _ _ so_far.fits is.bytes_are.0 some (kept_short command told bytes) is.bytes_are.1;
}

-- with no command left all is answered
pub all_so_far : {first : World} {script rest : List ℕ} {written written' taken taken' : Option (List ℕ)} {replicas : Replicas}
    → SoFar first script rest written written' taken taken' replicas → rest ≡ [] → ScriptAnswered first script written written' taken taken' replicas
all_so_far so_far none = record {
  text = so_far.front;
  says = all_said so_far.leads (ap lines_of none);
  wrote = so_far.grown;
  last = so_far.world;
  leaves = all_left so_far.leads (ap lines_of none);
  stand = so_far.stand;
  same = so_far.same;
  replays = so_far.replays;
  took = so_far.took;
  fits = let fits = so_far.fits in omega (arith, fits, ap length none);
}

-- what is written is a beginning
pub some_so_far : {first : World} {script rest : List ℕ} {written written' taken taken' : Option (List ℕ)} {replicas : Replicas}
    → LinesHaveText → SoFar first script rest written written' taken taken' replicas → AnsweredSome first script written written'
some_so_far some_text so_far = let said = front_said some_text so_far.leads in record {
  text = said.0;
  says = said.1;
  front = so_far.front;
  begins = said.2;
  wrote = so_far.grown;
}

-- and so is some of what the next command prints behind it
pub part_so_far : {first : World} {script left : List ℕ} {command : Command} {text : Option (List ℕ)} {bytes rest : List ℕ} {written written' taken taken' : Option (List ℕ)} {replicas : Replicas}
    → LinesHaveText → (so_far : SoFar first script left written written' taken taken' replicas) → IsFirst left command text bytes rest
    → (told : List ℕ) (n : ℕ) (wrote : Option (List ℕ)) → Prints command text so_far.world told → GrowsBy written' wrote (take n told) → AnsweredSome first script written wrote
part_so_far {written = written} {written' = written'} some_text so_far is told n wrote prints more = let said = first_part some_text is so_far.leads told n prints in record {
  text = said.0;
  says = said.1;
  front = so_far.front ++ take n told;
  begins = said.2;
  wrote = grows_on written written' wrote so_far.front (take n told) so_far.grown more;
}

-- ---- sessions

-- no script leaves a session's first world
pub nothing_left : (edition : Edition) → LeavesFrom (empty_world edition) [] (empty_world edition)
unfolding EndsFrom
nothing_left edition = refl

pub wrote_from_opening : (edition : Edition) (script : List ℕ) (written written' taken taken' : Option (List ℕ)) (replicas : Replicas)
    → (IsClearFrom (empty_world edition) script → ScriptAnswered (empty_world edition) script written written' taken taken' replicas) → Wrote edition script written written'
wrote_from_opening edition script written written' taken taken' replicas answered clear = let all = answered clear in (all.text, all.says, all.wrote)

pub some_from_opening : (edition : Edition) (script : List ℕ) (written written' : Option (List ℕ))
    → (IsClearFrom (empty_world edition) script → AnsweredSome (empty_world edition) script written written') → WroteSome edition script written written'
some_from_opening edition script written written' answered clear = let some = answered clear in (some.front, (some.text, some.says, some.begins), some.wrote)

-- ---- runs behind what is kept

-- the text of a script behind what is kept was written, and what a journal took of both restores the world that is left
pub resumed : (kept script start first new : List ℕ) (told told' written written' : Option (List ℕ)) (replicas replicas' : Replicas) → start ≡ []
    → (before : ScriptAnswered (empty_world One) kept told told' (Some start) (Some first) replicas) → ScriptAnswered before.last script written written' (Some first) (Some new) replicas'
    → Resumed kept script written written' new
resumed kept script start first new told told' written written' replicas replicas' empty before behind =
    let taken : first ≡ before.same = before.took ∙ ap (λ (s : List ℕ). s ++ before.same) empty in
    let both : new ≡ before.same ++ behind.same = behind.took ∙ ap (λ (s : List ℕ). s ++ behind.same) taken in
    let does = replays_both before.same behind.same (empty_world One) before.last behind.last before.replays behind.replays in
    record {
      text = behind.text;
      continues = (before.last, before.leaves, behind.says);
      wrote = behind.wrote;
      keeps = (before.last, behind.last, before.leaves, behind.leaves, subst (λ (s : List ℕ). Restores s behind.last) (sym both) (restores (before.same ++ behind.same) behind.last does));
    }

pub resumed_fits : (kept script start first new : List ℕ) (told told' written written' : Option (List ℕ)) (replicas replicas' : Replicas) → start ≡ []
    → (before : ScriptAnswered (empty_world One) kept told told' (Some start) (Some first) replicas) → ScriptAnswered before.last script written written' (Some first) (Some new) replicas'
    → length new ≤ length kept + length script + 2
resumed_fits kept script start first new told told' written written' replicas replicas' empty before behind =
    let first_fits = before.fits in
    let more_fits = behind.fits in
    omega (arith, ap length empty, ap length before.took, ap length behind.took, length-append start before.same, length-append first behind.same, first_fits, more_fits)

pub resumed_some : (kept script start first : List ℕ) (told told' written written' : Option (List ℕ)) (replicas : Replicas)
    → (before : ScriptAnswered (empty_world One) kept told told' (Some start) (Some first) replicas) → AnsweredSome before.last script written written' → ResumedSome kept script written written'
resumed_some kept script start first told told' written written' replicas before behind = inr (behind.text, behind.front, (before.last, before.leaves, behind.says), behind.begins, behind.wrote)
