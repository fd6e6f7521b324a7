-- How a session ends.
use Rattle.std.specs.Prelude.{◌≡◌, ℕ, ◌⊎◌, ◌≤◌, List, [], length, Option, Result, Ok, Err}
use Rattle.clap.specs.Walk.{Text}
use Rattle.go_text.specs.declared.edition.Edition.{Edition}
use Rattle.goset_cli.specs.CommandLine.{edition_option_of, option_faults}
use Rattle.goset_cli.specs.Streams.{ReadResult, GrowsBy}
use Rattle.goset_cli.specs.Reading.{GaveAll, NotRead, limit}
use Rattle.goset_cli.specs.declared.reading.ReadError.TheVariants as reads
use Rattle.ws_session.specs.Text.{SessionText, Begun, IsClear}
use Rattle.ws_session.specs.World.{empty_world}
use Rattle.ws_session.specs.Representation.{Represents}
use Rattle.ws_session.specs.declared.replicas.Replicas.{Replicas}
use Rattle.goset_cli.specs.declared.running.SessionError.{SessionError}
use Rattle.goset_cli.specs.declared.running.SessionError.TheVariants.{Memory, Read, Write, TooLong}

-- if no two hashed texts clash, the session's text was written
abbrev pub Wrote : Edition → List ℕ → Option (List ℕ) → Option (List ℕ) → Type 0
Wrote edition script old new = IsClear edition script → (text : List ℕ) × SessionText edition script text × GrowsBy old new text

-- if no two hashed texts clash, a beginning of it was written
abbrev pub WroteSome : Edition → List ℕ → Option (List ℕ) → Option (List ℕ) → Type 0
WroteSome edition script old new = IsClear edition script → (front : List ℕ) × Begun edition script front × GrowsBy old new front

-- What a session read and wrote, for each of its answers.
abbrev pub Session : {A : Type 0} → Edition → Result A SessionError → Option (List ReadResult) → Option (List ReadResult) → Option (List ℕ) → Option (List ℕ) → Type 0
-- the reader was read to its end, and the text of all its bytes was written
Session edition (Ok a) told told' written written' = (script : List ℕ) × GaveAll told told' script × (length script ≤ limit) × Wrote edition script written written'
-- nothing was written, or the reader was read to its end and a beginning was written
Session edition (Err Memory) told told' written written' = (NotRead reads.Memory told told' × GrowsBy written written' []) ⊎ ((script : List ℕ) × GaveAll told told' script × WroteSome edition script written written')
Session edition (Err Read) told told' written written' = NotRead reads.Read told told' × GrowsBy written written' []
Session edition (Err Write) told told' written written' = (script : List ℕ) × GaveAll told told' script × WroteSome edition script written written'
Session edition (Err TooLong) told told' written written' = NotRead reads.TooLong told told' × GrowsBy written written' []

-- the same of replicas that stand for the first world of an edition
abbrev pub SessionFrom : {A : Type 0} → Replicas → Result A SessionError → Option (List ReadResult) → Option (List ReadResult) → Option (List ℕ) → Option (List ℕ) → Type 0
SessionFrom replicas ended told told' written written' = (edition : Edition) → Represents replicas (empty_world edition) → Session edition ended told told' written written'

-- and of what words ask for, if clap finds no fault in them
abbrev pub SessionBy : {A : Type 0} → List Text → Result A SessionError → Option (List ReadResult) → Option (List ReadResult) → Option (List ℕ) → Option (List ℕ) → Type 0
SessionBy words ended told told' written written' = option_faults words ≡ [] → Session (edition_option_of words) ended told told' written written'
