-- What the program answers: its status, and what standard error has.
use Rattle.std.specs.Prelude.{◌≡◌, ◌⊎◌, ◌+◌, ◌<◌, ℕ, Bool, true, false, not, List, length, take, Option, Result, Ok, Err, codes}
use Rattle.std.specs.List.{list_any}
use Rattle.clap.specs.Kinds.{Kinds}
use Rattle.clap.specs.declared.error.kind.ErrorKind.{ErrorKind}
use Rattle.clap.specs.declared.error.kind.ErrorKind.TheVariants.{DisplayHelp, DisplayVersion}
use Rattle.goset_cli.specs.Streams.{GrowsBy}
use Rattle.goset_cli.specs.declared.running.SessionError.{SessionError}
use Rattle.goset_cli.specs.declared.running.SessionError.TheVariants.{Memory, Read, Write, TooLong}
use Rattle.goset_cli.specs.declared.status.Status.{Status}
use Rattle.goset_cli.specs.declared.status.Status.TheVariants.{Done, Misused}

-- the number by which the system is told how the program ends
abbrev pub exit_code : {E : Type 0} → Result Status E → ℕ
exit_code ended = elim ended [ Ok Done ↦ 0 | Err e ↦ 1 | Ok Misused ↦ 2 ]

-- the line of standard error for each failure
abbrev pub error_line : SessionError → List ℕ
error_line Memory = codes "goset: memory\n"
error_line Read = codes "goset: read\n"
error_line Write = codes "goset: write\n"
error_line TooLong = codes "goset: script over 16777216 bytes\n"

-- the line of standard error where a word isn't text
abbrev pub not_utf8 : List ℕ
not_utf8 = codes "error: a word isn't UTF-8\n"

-- and the line where it is to be a file's name
abbrev pub not_utf8_file : List ℕ
not_utf8_file = codes "goset: a file's name isn't UTF-8\n"

-- words that clap answers with this kind ask for a text, help or the version
abbrev pub is_asked : ErrorKind → Bool
is_asked kind = elim kind [ DisplayHelp ↦ true | DisplayVersion ↦ true | _ ↦ false ]

abbrev pub asks_text : Kinds → Bool
asks_text = list_any is_asked

-- the words are wrong
abbrev pub is_wrong : Kinds → Bool
is_wrong = list_any (λ kind. not (is_asked kind))

-- how words of these kinds that ask for no session may fail: memory ran out, or the text that they ask for wasn't taken
abbrev pub FailsUnasked : Kinds → SessionError → Type 0
FailsUnasked kinds failure = (failure ≡ Memory) ⊎ ((failure ≡ Write) × (asks_text kinds ≡ true))

-- the same of words that clap answers with one kind
abbrev pub FailsByKind : ErrorKind → SessionError → Type 0
FailsByKind kind failure = (failure ≡ Memory) ⊎ ((failure ≡ Write) × (is_asked kind ≡ true))

-- an end took a text, or a write of it failed and the end took a beginning; it counts its failed writes
abbrev pub WritesOut : List ℕ → ℕ → ℕ → Option (List ℕ) → Option (List ℕ) → Type 0
WritesOut text failed failed' written written' =
    ((failed' ≡ failed) × GrowsBy written written' text) ⊎ ((failed' ≡ failed + 1) × ((n : ℕ) × GrowsBy written written' (take n text)))

-- a writer took some text whole
abbrev pub Shows : Option (List ℕ) → Option (List ℕ) → Type 0
Shows written written' = (text : List ℕ) × (0 < length text) × GrowsBy written written' text

-- an end was told some text
abbrev pub Complains : ℕ → ℕ → Option (List ℕ) → Option (List ℕ) → Type 0
Complains failed failed' written written' = (text : List ℕ) × (0 < length text) × WritesOut text failed failed' written written'
