-- What the kinds of an error and how the program ends say of each other.
use Rattle.std.proofs.Common.{◌≡◌, ◌∙◌, ap, ℕ, Bool, true, false, not, List, [], ◌∷◌, Option, Some, None, Result, Ok, Err, refl, sym, subst, inl, inr, append-nil}
use Rattle.std.specs.Prelude.{◌||◌, IfErr, IfOk, OnOk}
use Rattle.clap.specs.Kinds.{HasKind, IsAmong, Kinds}
use Rattle.clap.specs.Values.{kind_of}
use Rattle.clap.specs.declared.error.Error.{Error}
use Rattle.clap.specs.declared.error.kind.ErrorKind.{ErrorKind}
use Rattle.clap.specs.declared.error.kind.ErrorKind.TheVariants.{OutOfMemory}
use Rattle.go_text.specs.declared.edition.Edition.{Edition}
use Rattle.goset_cli.specs.Ends.{Session}
use Rattle.goset_cli.specs.Failures.{failed_reads, failed_writes}
use Rattle.goset_cli.specs.Streams.{ReadResult, GrowsBy}
use Rattle.goset_cli.specs.declared.running.SessionError.{SessionError}
use Rattle.goset_cli.specs.declared.running.SessionError.TheVariants.{Memory, Read, Write, TooLong}
use Rattle.goset_cli.specs.Statuses.{FailsByKind, FailsUnasked, asks_text, is_asked, is_wrong}
use Rattle.goset_cli.specs.declared.status.Status.{Status}
use Rattle.goset_cli.specs.declared.status.Status.TheVariants.{Done, Misused}

or_left : (a b : Bool) → a ≡ true → (a || b) ≡ true
or_left a b h = rw h refl

or_right : (a b : Bool) → b ≡ true → (a || b) ≡ true
or_right true b h = refl
or_right false b h = h

no_of : (a : Bool) → a ≡ false → not a ≡ true
no_of a h = rw h refl

among_asked : (kinds : Kinds) (k : ErrorKind) → IsAmong k kinds → is_asked k ≡ true → asks_text kinds ≡ true
among_asked [] k h asked = absurd h
among_asked (x ∷ xs) k h asked = elim h [
  | inl same ↦ or_left (is_asked x) (asks_text xs) (ap is_asked (sym same) ∙ asked)
  | inr rest ↦ or_right (is_asked x) (asks_text xs) (among_asked xs k rest asked)
]

among_wrong : (kinds : Kinds) (k : ErrorKind) → IsAmong k kinds → is_asked k ≡ false → is_wrong kinds ≡ true
among_wrong [] k h asked = absurd h
among_wrong (x ∷ xs) k h asked = elim h [
  | inl same ↦ or_left (not (is_asked x)) (is_wrong xs) (no_of (is_asked x) (ap is_asked (sym same) ∙ asked))
  | inr rest ↦ or_right (not (is_asked x)) (is_wrong xs) (among_wrong xs k rest asked)
]

-- memory isn't asked for
pub not_memory : (k : ErrorKind) → is_asked k ≡ true → k ≡ OutOfMemory → ⊥
not_memory k asked memory =
    let bad : is_asked OutOfMemory ≡ true = rw memory at asked in
    cc

pub error_asked : (kinds : Kinds) (e : Error) → HasKind kinds e → is_asked (kind_of e) ≡ true → asks_text kinds ≡ true
error_asked kinds e h asked = elim h [
  | inl memory ↦ absurd (not_memory (kind_of e) asked memory)
  | inr among ↦ among_asked kinds (kind_of e) among asked
]

pub error_wrong : (kinds : Kinds) (e : Error) → HasKind kinds e → is_asked (kind_of e) ≡ false → (kind_of e ≡ OutOfMemory → ⊥) → is_wrong kinds ≡ true
error_wrong kinds e h asked other = elim h [
  | inl memory ↦ absurd (other memory)
  | inr among ↦ among_wrong kinds (kind_of e) among asked
]

pub error_unasked : (kinds : Kinds) (e : Error) → HasKind kinds e → asks_text kinds ≡ false → is_asked (kind_of e) ≡ false
error_unasked kinds e h none = go (is_asked (kind_of e)) refl
  where
    go : (b : Bool) → is_asked (kind_of e) ≡ b → b ≡ false
    go false asked = refl
    go true asked =
        let bad : true ≡ false = sym (error_asked kinds e h asked) ∙ none in
        cc

pub error_memory : (kinds : Kinds) (e : Error) → HasKind kinds e → kinds ≡ [] → kind_of e ≡ OutOfMemory
error_memory kinds e h none = elim h [
  | inl memory ↦ memory
  | inr among ↦ absurd (subst (IsAmong (kind_of e)) none among)
]

-- what grows by nothing
pub stays : {A : Type 0} (known : Option (List A)) → GrowsBy known known []
stays None = tt
stays (Some xs) = sym (append-nil xs)

-- ---- sessions

-- what a session says of its failure, whatever it answers else
pub stopped_as : (A B : Type 0) (edition : Edition) (failure : SessionError) (told told' : Option (List ReadResult)) (written written' : Option (List ℕ))
    → Session {A = A} edition (Err failure) told told' written written' → Session {A = B} edition (Err failure) told told' written written'
stopped_as A B edition Memory told told' written written' session = session
stopped_as A B edition Read told told' written written' session = session
stopped_as A B edition Write told told' written written' session = session
stopped_as A B edition TooLong told told' written written' session = session

pub reads_as : (A B : Type 0) (failure : SessionError) → failed_reads {A = A} (Err failure) ≡ failed_reads {A = B} (Err failure)
reads_as A B Memory = refl
reads_as A B Read = refl
reads_as A B Write = refl
reads_as A B TooLong = refl

pub writes_as : (A B : Type 0) (failure : SessionError) → failed_writes {A = A} (Err failure) ≡ failed_writes {A = B} (Err failure)
writes_as A B Memory = refl
writes_as A B Read = refl
writes_as A B Write = refl
writes_as A B TooLong = refl

-- a session is of one edition, which has two names
pub session_in : {A : Type 0} (edition named : Edition) (ended : Result A SessionError) (told told' : Option (List ReadResult)) (written written' : Option (List ℕ)) → edition ≡ named
    → Session edition ended told told' written written' → Session named ended told told' written written'
session_in edition named ended told told' written written' same session =
    subst (λ (e : Edition). Session e ended told told' written written') same session

-- one that had no memory to read its words told and wrote nothing
pub memory_session : {A : Type 0} (edition : Edition) (ended : Result A SessionError) (told : Option (List ReadResult)) (written : Option (List ℕ)) → ended ≡ Err Memory
    → Session edition ended told told written written
memory_session edition ended told written memory = rw memory (inl (([], stays told), stays written))

-- ---- words that ask for no session

-- clap finds something in them, so that no answer but want of memory says that it doesn't
pub not_ended : (kinds : Kinds) (e : Error) (status : Status) → HasKind kinds e → kinds ≡ [] → (status ≡ Done → is_asked (kind_of e) ≡ true)
    → (status ≡ Misused → (is_asked (kind_of e) ≡ false) × (kind_of e ≡ OutOfMemory → ⊥)) → ⊥
not_ended kinds e Done h none asked misused = not_memory (kind_of e) (asked refl) (error_memory kinds e h none)
not_ended kinds e Misused h none asked misused = (misused refl).1 (error_memory kinds e h none)

-- no failure but want of memory, where no text is asked for
pub only_memory : (k : ErrorKind) (failure : SessionError) → FailsByKind k failure → is_asked k ≡ false → failure ≡ Memory
only_memory k failure h none = elim h [
  | inl memory ↦ memory
  | inr write ↦
      let bad : true ≡ false = sym write.1 ∙ none in
      cc
]

pub memory_unasked : (kinds : Kinds) (e : Error) → HasKind kinds e → kinds ≡ [] → is_asked (kind_of e) ≡ false
memory_unasked kinds e h none = ap is_asked (error_memory kinds e h none)

pub memory_ended : (kinds : Kinds) (e : Error) (ended : Result Status SessionError) → HasKind kinds e → kinds ≡ []
    → IfOk ended (λ status. status ≡ Done → is_asked (kind_of e) ≡ true)
    → IfOk ended (λ status. status ≡ Misused → (is_asked (kind_of e) ≡ false) × (kind_of e ≡ OutOfMemory → ⊥))
    → IfErr ended (FailsByKind (kind_of e)) → ended ≡ Err Memory
memory_ended kinds e (Ok status) h none asked misused fails = absurd (not_ended kinds e status h none asked misused)
memory_ended kinds e (Err failure) h none asked misused fails = ap Err (only_memory (kind_of e) failure fails (memory_unasked kinds e h none))

-- they end as the kind of their error says
pub asks_of : (kinds : Kinds) (e : Error) (ended : Result Status SessionError) → HasKind kinds e → IfOk ended (λ status. status ≡ Done → is_asked (kind_of e) ≡ true)
    → IfOk ended (λ status. status ≡ Done → asks_text kinds ≡ true)
asks_of kinds e (Ok status) h asked = λ done. error_asked kinds e h (asked done)
asks_of kinds e (Err failure) h asked = tt

pub wrong_of : (kinds : Kinds) (e : Error) (ended : Result Status SessionError) → HasKind kinds e
    → IfOk ended (λ status. status ≡ Misused → (is_asked (kind_of e) ≡ false) × (kind_of e ≡ OutOfMemory → ⊥))
    → IfOk ended (λ status. status ≡ Misused → is_wrong kinds ≡ true)
wrong_of kinds e (Ok status) h misused = λ is. let found = misused is in error_wrong kinds e h found.0 found.1
wrong_of kinds e (Err failure) h misused = tt

pub fails_unasked : (kinds : Kinds) (e : Error) (failure : SessionError) → HasKind kinds e → FailsByKind (kind_of e) failure → FailsUnasked kinds failure
fails_unasked kinds e failure h fails = elim fails [
  | inl memory ↦ inl memory
  | inr write ↦ inr (write.0, error_asked kinds e h write.1)
]

pub fails_of : (kinds : Kinds) (e : Error) (ended : Result Status SessionError) → HasKind kinds e → IfErr ended (FailsByKind (kind_of e)) → IfErr ended (FailsUnasked kinds)
fails_of kinds e (Ok status) h fails = tt
fails_of kinds e (Err failure) h fails = fails_unasked kinds e failure h fails

pub no_read : (k : ErrorKind) (failure : SessionError) → FailsByKind k failure → failed_reads {A = Status} (Err failure) ≡ 0
no_read k failure fails = elim fails [
  | inl memory ↦ ap (λ (f : SessionError). failed_reads {A = Status} (Err f)) memory
  | inr write ↦ ap (λ (f : SessionError). failed_reads {A = Status} (Err f)) write.0
]

pub no_reads : (k : ErrorKind) (ended : Result Status SessionError) → IfErr ended (FailsByKind k) → failed_reads ended ≡ 0
no_reads k (Ok status) fails = refl
no_reads k (Err failure) fails = no_read k failure fails

-- ---- what is known of some end

-- what holds of each answer holds of one
pub always : {E : Type 0} (P : Type 0) (ended : Result Status E) → OnOk ended P → IfOk ended (λ status. status ≡ Done → P)
always P (Ok status) holds = λ done. holds
always P (Err e) holds = tt

-- a session that was run isn't one of wrong words
pub never_misused : {E : Type 0} (P : Type 0) (ended : Result Status E) → IfOk ended (λ status. status ≡ Done) → IfOk ended (λ status. status ≡ Misused → P)
never_misused P (Ok Done) done = λ is. cc
never_misused P (Ok Misused) done = λ is. cc
never_misused P (Err e) done = tt

pub on_done : {E : Type 0} {P : Type 0} (ended : Result Status E) → ended ≡ Ok Done → IfOk ended (λ status. status ≡ Done → P) → P
on_done {E} {P} ended is holds = (subst (λ (x : Result Status E). IfOk x (λ status. status ≡ Done → P)) is holds) refl

pub on_misused : {E : Type 0} {P : Type 0} (ended : Result Status E) → ended ≡ Ok Misused → IfOk ended (λ status. status ≡ Misused → P) → P
on_misused {E} {P} ended is holds = (subst (λ (x : Result Status E). IfOk x (λ status. status ≡ Misused → P)) is holds) refl

pub on_failed : {E : Type 0} (P : E → Type 0) (ended : Result Status E) (failure : E) → ended ≡ Err failure → IfErr ended P → P failure
on_failed {E} P ended failure is holds = subst (λ (x : Result Status E). IfErr x P) is holds
