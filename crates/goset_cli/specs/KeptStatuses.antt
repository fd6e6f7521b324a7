-- What standard error has where a run kept nothing.
use Rattle.std.specs.Prelude.{ℕ, List, codes, Result, Ok, Err}
use Rattle.clap.specs.Kinds.{Kinds}
use Rattle.ws_keep.specs.declared.store.StoreError.{StoreError}
use Rattle.ws_keep.specs.declared.store.StoreError.TheVariants as stores
use Rattle.goset_cli.specs.Failures.{failed_reads, failed_writes}
use Rattle.goset_cli.specs.Statuses.{FailsUnasked, error_line}
use Rattle.goset_cli.specs.declared.keeping.KeepError.{KeepError}
use Rattle.goset_cli.specs.declared.keeping.KeepError.TheVariants.{Session, Store, Full, Another}

-- the line of standard error for each failure of a store
abbrev pub store_complaint : StoreError → List ℕ
store_complaint stores.Memory = codes "goset: memory\n"
store_complaint stores.InUse = codes "goset: keep: in use\n"
store_complaint stores.Folder = codes "goset: keep: a folder, not a file\n"
store_complaint stores.NoFolder = codes "goset: keep: no such folder\n"
store_complaint stores.Denied = codes "goset: keep: not permitted\n"
store_complaint stores.TooLong = codes "goset: keep: over 16777216 bytes\n"
store_complaint stores.Unread = codes "goset: keep: can't be read\n"
store_complaint stores.Unwritten = codes "goset: keep: can't be written\n"

-- and for each run that kept nothing
abbrev pub keep_complaint : KeepError → List ℕ
keep_complaint (Session failure) = error_line failure
keep_complaint (Store error) = store_complaint error
keep_complaint Full = codes "goset: keep: over 16777216 bytes with the script\n"
keep_complaint Another = codes "goset: keep: another\n"

-- how many failures of the reader an error counts, and of the writer
abbrev pub error_reads : KeepError → ℕ
error_reads error = elim error [ Session failure ↦ failed_reads {A = Unit {0}} (Err failure) | _ ↦ 0 ]

abbrev pub error_writes : KeepError → ℕ
error_writes error = elim error [ Session failure ↦ failed_writes {A = Unit {0}} (Err failure) | _ ↦ 0 ]

-- and what a run answers
abbrev pub kept_reads : {A : Type 0} → Result A KeepError → ℕ
kept_reads ended = elim ended [ Ok a ↦ 0 | Err error ↦ error_reads error ]

abbrev pub kept_writes : {A : Type 0} → Result A KeepError → ℕ
kept_writes ended = elim ended [ Ok a ↦ 0 | Err error ↦ error_writes error ]

-- how words in which clap finds these kinds fail that ask for no session
abbrev pub FailsUnkept : Kinds → KeepError → Type 0
FailsUnkept kinds (Session failure) = FailsUnasked kinds failure
FailsUnkept kinds _ = ⊥
