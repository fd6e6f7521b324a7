-- How a run ends that goes on from what is kept.
use Rattle.std.specs.Prelude.{◌≡◌, ℕ, ◌⊎◌, ◌≤◌, ◌<◌, ◌+◌, List, [], ◌++◌, length, Option, None, Some, Result, Ok, Err, codes, option_map}
use Rattle.hex.specs.Hex.{encode_lower}
use Rattle.sha2.specs.Sha256.{sha256}
use Rattle.go_text.specs.declared.edition.Edition.{Edition}
use Rattle.go_text.specs.declared.edition.Edition.TheVariants.{One, Two}
use Rattle.ws_command.specs.Lines.{lines_of}
use Rattle.ws_session.specs.World.{World, empty_world}
use Rattle.ws_session.specs.Text.{IsBeginning, TextFrom}
use Rattle.ws_session.specs.declared.replicas.Replicas.{Replicas}
use Rattle.ws_session.specs.Representation.{Represents}
use Rattle.ws_keep.specs.Keeping.{Continues, IsClearBehind, IsClearFrom, RestoresBehind, LeavesFrom, ReplaysFrom}
use Rattle.ws_keep.specs.Stored.{StoreBecomes, StoreHolds}
use Rattle.clap.specs.Walk.{Text}
use Rattle.goset_cli.specs.CommandLine.{expected_digest, keep_edition_of, keep_faults, keep_name_of}
use Rattle.goset_cli.specs.Streams.{ReadResult, GrowsBy}
use Rattle.goset_cli.specs.Reading.{GaveAll, NotRead, limit}
use Rattle.goset_cli.specs.declared.reading.ReadError.TheVariants as reads
use Rattle.goset_cli.specs.declared.running.SessionError.TheVariants as sessions
use Rattle.goset_cli.specs.declared.keeping.KeepError.{KeepError}
use Rattle.goset_cli.specs.declared.keeping.KeepError.TheVariants.{Session, Store, Full, Another}
use Rattle.goset_cli.specs.declared.keeping.KeepOptions.{KeepOptions}

-- ---- the commands of a script, from a world on

-- The text of a script was written, the journal took what does the same, and the replicas stand for the world that the script leaves.
pub record ScriptAnswered (world : World) (script : List ℕ) (written written' taken taken' : Option (List ℕ)) (replicas : Replicas) : Type 0 where
  pub text : List ℕ
  pub says : TextFrom 0 (lines_of script) world text
  pub wrote : GrowsBy written written' text
  pub last : World
  pub leaves : LeavesFrom world script last
  pub stand : Represents replicas last
  pub same : List ℕ
  pub replays : ReplaysFrom same world last
  pub took : GrowsBy taken taken' same
  pub fits : length same ≤ length script + 1

-- a beginning of it was written
pub record AnsweredSome (world : World) (script : List ℕ) (written written' : Option (List ℕ)) : Type 0 where
  pub text : List ℕ
  pub says : TextFrom 0 (lines_of script) world text
  pub front : List ℕ
  pub begins : IsBeginning front text
  pub wrote : GrowsBy written written' front

-- for each world that a script leaves, and for which the replicas stand, this holds if what goes on from there is clear
abbrev pub FromEachWorld : Replicas → List ℕ → (World → Type 0) → Type 0
FromEachWorld replicas script Holds =
    (edition : Edition) (before : List ℕ) (world : World) → LeavesFrom (empty_world edition) before world → Represents replicas world → IsClearFrom world script → Holds world

-- from each such world on the script was answered
abbrev pub AnsweredFrom : Replicas → List ℕ → Option (List ℕ) → Option (List ℕ) → Option (List ℕ) → Option (List ℕ) → Replicas → Type 0
AnsweredFrom replicas script written written' taken taken' replicas' =
    FromEachWorld replicas script (λ world. ScriptAnswered world script written written' taken taken' replicas')

-- or a beginning of its text was written
abbrev pub AnsweredSomeFrom : Replicas → List ℕ → Option (List ℕ) → Option (List ℕ) → Type 0
AnsweredSomeFrom replicas script written written' = FromEachWorld replicas script (λ world. AnsweredSome world script written written')

-- ---- runs

-- the line from which on an edition is used
abbrev pub edition_line : Edition → List ℕ
edition_line One = codes "edition 1\n"
edition_line Two = codes "edition 2\n"

-- an edition that the words name is a line before the script
abbrev pub with_edition_line : Option Edition → List ℕ → List ℕ
with_edition_line None script = script
with_edition_line (Some edition) script = edition_line edition ++ script

-- the digest of what is kept, in hexadecimal digits, is the one that is expected, if one is
abbrev pub IsExpected : Option (List ℕ) → List ℕ → Type 0
IsExpected None kept = Unit {0}
IsExpected (Some digest) kept = encode_lower (sha256 kept) ≡ digest

-- behind what is kept the text of a script was written, and this restores the world that it leaves
pub record Resumed (kept script : List ℕ) (written written' : Option (List ℕ)) (new : List ℕ) : Type 0 where
  pub text : List ℕ
  pub continues : Continues kept script text
  pub wrote : GrowsBy written written' text
  pub keeps : RestoresBehind kept script new

-- nothing was written, or a beginning of that text
abbrev pub ResumedSome : List ℕ → List ℕ → Option (List ℕ) → Option (List ℕ) → Type 0
ResumedSome kept script written written' =
    GrowsBy written written' []
    ⊎ ((text : List ℕ) × (front : List ℕ) × Continues kept script text × IsBeginning front text × GrowsBy written written' front)

-- The text was written, and what is kept now restores the world that the script leaves.
pub record WentOn (kept script : List ℕ) (store store' written written' : Option (List ℕ)) : Type 0 where
  pub new : List ℕ
  pub resumed : Resumed kept script written written' new
  pub fits : length new ≤ limit
  pub holds : StoreBecomes store store' new

-- why what is kept wasn't loaded: memory ran out, the store failed, or it isn't what is expected
abbrev pub NotLoaded : Option (List ℕ) → KeepError → Option (List ℕ) → Type 0
NotLoaded expected (Session sessions.Memory) store = Unit {0}
NotLoaded expected (Store failure) store = Unit {0}
NotLoaded expected Another store = (kept : List ℕ) × StoreHolds store kept × (IsExpected expected kept → ⊥)
NotLoaded expected error store = ⊥

-- A script was read to its end, and what the store holds is what is expected.
abbrev pub Begins : Option (List ℕ) → Option (List ℕ) → Option (List ReadResult) → Option (List ReadResult) → List ℕ → List ℕ → Type 0
Begins expected store told told' kept script = StoreHolds store kept × IsExpected expected kept × GaveAll told told' script

-- a script was read and begun behind what is kept
abbrev pub Began : Option Edition → Option (List ℕ) → Option (List ℕ) → Option (List ReadResult) → Option (List ReadResult) → Option (List ℕ) → Option (List ℕ) → Type 0
Began edition expected store told told' written written' =
    (kept : List ℕ) × (script : List ℕ) × Begins expected store told told' kept script
    × (IsClearBehind kept (with_edition_line edition script) → ResumedSome kept (with_edition_line edition script) written written')

-- all that the script says behind what is kept was written
abbrev pub Said : Option Edition → Option (List ℕ) → Option (List ℕ) → Option (List ReadResult) → Option (List ReadResult) → Option (List ℕ) → Option (List ℕ) → Type 0
Said edition expected store told told' written written' =
    (kept : List ℕ) × (script : List ℕ) × Begins expected store told told' kept script
    × (IsClearBehind kept (with_edition_line edition script) → (text : List ℕ) × Continues kept (with_edition_line edition script) text × GrowsBy written written' text)

-- What was read and written where nothing was kept, for each reason.
abbrev pub KeptNothing : Option Edition → Option (List ℕ) → KeepError → Option (List ℕ) → Option (List ReadResult) → Option (List ReadResult) → Option (List ℕ) → Option (List ℕ) → Type 0
-- memory ran out before anything was written, or within the script's text
KeptNothing edition expected (Session sessions.Memory) store told told' written written' = GrowsBy written written' [] ⊎ Began edition expected store told told' written written'
-- a read failed, or the script is too long
KeptNothing edition expected (Session sessions.Read) store told told' written written' = NotRead reads.Read told told' × GrowsBy written written' []
KeptNothing edition expected (Session sessions.TooLong) store told told' written written' = NotRead reads.TooLong told told' × GrowsBy written written' []
-- a write failed within the script's text
KeptNothing edition expected (Session sessions.Write) store told told' written written' = Began edition expected store told told' written written'
-- the store failed before anything was written, or behind all of it
KeptNothing edition expected (Store failure) store told told' written written' = GrowsBy written written' [] ⊎ Said edition expected store told told' written written'
-- what is kept and the script are too long, where either may want a newline
KeptNothing edition expected Full store told told' written written' =
    (kept : List ℕ) × (script : List ℕ) × Begins expected store told told' kept script × (limit < length kept + length (with_edition_line edition script) + 2) × GrowsBy written written' []
-- what is kept isn't what is expected
KeptNothing edition expected Another store told told' written written' =
    (kept : List ℕ) × (script : List ℕ) × StoreHolds store kept × (IsExpected expected kept → ⊥) × GaveAll told told' script × GrowsBy written written' []

-- On Ok the text was written and what the script leaves is kept. On any Err the store holds what it held.
abbrev pub KeptRun : {A : Type 0} → Option Edition → Option (List ℕ) → Result A KeepError → Option (List ℕ) → Option (List ℕ)
    → Option (List ReadResult) → Option (List ReadResult) → Option (List ℕ) → Option (List ℕ) → Type 0
KeptRun edition expected (Ok a) store store' told told' written written' =
    (kept : List ℕ) × (script : List ℕ) × Begins expected store told told' kept script
    × (IsClearBehind kept (with_edition_line edition script) → WentOn kept (with_edition_line edition script) store store' written written')
KeptRun edition expected (Err e) store store' told told' written written' = (store' ≡ store) × KeptNothing edition expected e store told told' written written'

-- the same of what options ask for
abbrev pub KeptWith : {A : Type 0} → KeepOptions → Result A KeepError → (List ℕ → Option (List ℕ)) → (List ℕ → Option (List ℕ))
    → Option (List ReadResult) → Option (List ReadResult) → Option (List ℕ) → Option (List ℕ) → Type 0
KeptWith options ended store store' told told' written written' =
    KeptRun options.edition (option_map (λ digest. digest.now) options.expected) ended (store options.name.now) (store' options.name.now) told told' written written'

-- and of what words ask for, if clap finds no fault in them
abbrev pub KeptBy : {A : Type 0} → List Text → Result A KeepError → (List ℕ → Option (List ℕ)) → (List ℕ → Option (List ℕ))
    → Option (List ReadResult) → Option (List ReadResult) → Option (List ℕ) → Option (List ℕ) → Type 0
KeptBy words ended store store' told told' written written' =
    keep_faults words ≡ []
    → KeptRun (keep_edition_of words) (expected_digest words) ended (store (keep_name_of words)) (store' (keep_name_of words)) told told' written written'

-- A script was read, and what options name is kept: these lines are run behind it.
abbrev pub BegunWith : KeepOptions → (List ℕ → Option (List ℕ)) → Option (List ReadResult) → Option (List ReadResult) → List ℕ → List ℕ → Type 0
BegunWith options store told told' kept lines =
    (script : List ℕ) × (lines ≡ with_edition_line options.edition script) × Begins (option_map (λ digest. digest.now) options.expected) (store options.name.now) told told' kept script

-- nothing was run of what options ask for, and nothing was written
abbrev pub NothingWith : KeepOptions → KeepError → (List ℕ → Option (List ℕ)) → Option (List ReadResult) → Option (List ReadResult) → Option (List ℕ) → Type 0
NothingWith options e store told told' written = KeptNothing options.edition (option_map (λ digest. digest.now) options.expected) e (store options.name.now) told told' written written
