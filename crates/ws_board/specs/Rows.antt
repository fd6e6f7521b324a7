-- Rows of jobs, what may still be read of them, and how they wait.
use Rattle.std.specs.Prelude.{◌≡◌, ℕ, ◌+◌, ◌-◌, ◌*◌, ◌≤◌, ◌<◌, ◌||◌, ◌&&◌, ◌==◌, ◌^◌, if◌then◌else◌, ◌⊎◌, Bool, true, false, List, [], ◌∷◌, ◌++◌, length, take, Option, None, Some, slice_set}
use Rattle.std.specs.List.{All, AllZip, sum_by, slice_get, slice_index_or, list_any, count_by, Contains}
use Rattle.std.specs.Str.{bytes_eq}
use Rattle.go_export.specs.Summaries.{Summary}
use Rattle.ws_action.specs.Actions.{Action, action_id}
use Rattle.ws_board.specs.declared.work.JobStatus.{JobStatus}
use Rattle.ws_board.specs.declared.work.JobStatus.TheVariants.{Waiting, Ready, Running, Blocked, Done}
use Rattle.ws_board.specs.declared.work.Event.{Event}
use Rattle.ws_board.specs.declared.work.Event.TheVariants.{Take, Finish, Back, Idle}
use Rattle.ws_board.specs.declared.table.Row.{Row}
use Rattle.ws_board.specs.declared.rows.Rows.{Rows}
use Rattle.ws_board.specs.declared.ending.Parts.{Parts}
use Rattle.ws_board.specs.declared.index.Ready.{Ready as AReady}
use Rattle.ws_board.specs.declared.rows.moves.Change.{Change}
use Rattle.ws_board.specs.declared.rows.moves.Moves.{Moves}
use Rattle.ws_board.specs.Work.{Work, Job, JobStates, Entries, Seen}
use Rattle.ws_board.specs.Machine.{Holdings, JobHasSummary, MayForm, IsFormed, HasStatus, is_waiting, is_open, is_running, is_ready, is_active, has_action_id, is_back_of, IsHistory}
use Rattle.ws_board.specs.Propagation.{IsUnder}
use Rattle.ws_board.specs.Ends.{job_imports_at, work_at}
use Rattle.ws_board.specs.Table.{row_at, job_states_of}

-- what a board's value says, by its parts
abbrev pub seen_by : List Job → List Row → Entries → Entries → List Event → ℕ → Seen
seen_by jobs rows opened added history looks = record {
  opening = record { jobs = jobs; cache = opened };
  state = record { standings = job_states_of rows; added = added };
  history = history;
  looks = looks;
}

abbrev pub seen_of : Parts → Seen
seen_of parts = seen_by parts.jobs.items parts.rows.items parts.opened parts.added parts.history.items parts.looks

-- what happened may have happened, from the opening on
abbrev pub IsLegal : Seen → Type 0
IsLegal seen = IsHistory seen.opening seen.history seen.state

-- ---- reads

-- to tell its importers costs four reads for each, and one
abbrev pub importer_reads : ℕ → ℕ
importer_reads importers = 4 * importers + 1

-- how many reads a job that stands so may still cost
abbrev pub due_of : JobStatus → ℕ → ℕ → ℕ → ℕ
due_of Waiting left imports importers = 2 + 2 * left + 2 * imports + importer_reads importers
due_of Ready left imports importers = 2 + importer_reads importers
due_of (Running hand) left imports importers = 1 + importer_reads importers
due_of Blocked left imports importers = 0
due_of (Done good) left imports importers = 0

abbrev pub due : Row → ℕ
due row = due_of row.status row.left row.imports row.importers

abbrev pub owed : List Row → ℕ
owed rows = sum_by due rows

-- and those that are done or blocked, and of which no importer was told
abbrev pub untold : List (List ℕ) → List ℕ → ℕ
untold importers settled = sum_by (λ k. importer_reads (length (slice_index_or importers k []))) settled

-- what was read, and what a row may still cost, with what tells its importers, once its job is done or blocked
abbrev pub charged_for : ℕ → Row → ℕ
charged_for looks row = looks + due row + (if is_open row.status then 0 else importer_reads row.importers)

-- what imports a job
abbrev pub importers_at : Rows → ℕ → List ℕ
importers_at rows job = slice_index_or rows.importers.items job []

-- whether the second imports the first
abbrev pub imports_it : Rows → ℕ → ℕ → Bool
imports_it rows job j = list_any (λ k. k == j) (importers_at rows job)

abbrev pub importer_reads_at : Rows → ℕ → ℕ
importer_reads_at rows job = importer_reads (length (importers_at rows job))

-- what was read, and what may still be
abbrev pub charged : ℕ → Rows → Moves → ℕ
charged looks rows moves = looks + owed rows.rows + untold rows.importers.items moves.settled.items

-- how many imports all jobs have
abbrev pub import_count : List Job → ℕ
import_count jobs = sum_by (λ job. length job.imports) jobs

-- what the reads of a board with so many jobs, imports and backs come to, however it goes on
abbrev pub IsPaid : ℕ → List Row → ℕ → ℕ → Type 0
IsPaid looks rows imports backs = (length rows ≤ looks) × (looks + owed rows ≤ 6 * length rows + 8 * imports + 2 * backs)

-- at least the number of jobs, and at most 8 times that, 8 times that of imports and 4 times that of backs together
pub record IsBounded (looks jobs imports backs : ℕ) : Type 0 where
  pub least : jobs ≤ looks
  pub most : looks ≤ 8 * jobs + 8 * imports + 4 * backs

abbrev pub is_back : Event → Bool
is_back (Take hand k) = false
is_back (Finish hand k) = false
is_back (Back hand k) = true
is_back (Idle hand) = false

abbrev pub IsWithinReads : Seen → Type 0
IsWithinReads seen = IsBounded seen.looks (length seen.opening.jobs) (import_count seen.opening.jobs) (count_by is_back seen.history)

-- ---- what never changes

-- each row counts its job's imports and those that import it, and who imports a job is among these
pub record AreKnownBy (every : List Job) (told : List (List ℕ)) (rows : List Row) : Type 0 where
  pub jobs : length rows ≡ length every
  pub lists : length told ≡ length every
  pub fits : import_count every < 2 ^ 64
  pub imports : (k : ℕ) → (row_at rows k).imports ≡ length (job_imports_at every k)
  pub importers : (k : ℕ) → (row_at rows k).importers ≡ length (slice_index_or told k [])
  pub named : (j k : ℕ) → Contains (job_imports_at every j) k → k < length every → Contains (slice_index_or told k []) j
  pub inside : (j k : ℕ) → Contains (slice_index_or told k []) j → j < length every

abbrev pub AreKnown : Rows → Type 0
AreKnown rows = AreKnownBy rows.jobs.items rows.importers.items rows.rows

-- the job joined the lists of those that it imports
pub record Adds (old new : List (List ℕ)) (imports : List ℕ) (job : ℕ) : Type 0 where
  pub lists : length new ≡ length old
  pub keeps : (k j : ℕ) → Contains (slice_index_or old k []) j → Contains (slice_index_or new k []) j
  pub named : (k : ℕ) → Contains imports k → k < length old → Contains (slice_index_or new k []) job
  pub only : (k j : ℕ) → Contains (slice_index_or new k []) j → Contains (slice_index_or old k []) j ⊎ (j ≡ job)
  pub count : sum_by (λ list. length list) new ≤ sum_by (λ list. length list) old + length imports

-- of the first so many jobs, each is in the lists of those that it imports
pub record AreImporters (jobs : List Job) (n : ℕ) (lists : List (List ℕ)) : Type 0 where
  pub same_length : length lists ≡ length jobs
  pub named : (j k : ℕ) → j < n → Contains (job_imports_at jobs j) k → k < length jobs → Contains (slice_index_or lists k []) j
  pub inside : (j k : ℕ) → Contains (slice_index_or lists k []) j → j < n
  pub count : sum_by (λ list. length list) lists ≤ import_count (take n jobs)

-- the row of a job with so many imports and importers, of which nothing is known
abbrev pub waiting_row : ℕ → ℕ → Row
waiting_row imports importers = record { status = Waiting; action = None; left = imports; was_back = false; imports = imports; importers = importers }

abbrev pub first_row : List Job → List (List ℕ) → ℕ → Row
first_row jobs importers k = waiting_row (length (job_imports_at jobs k)) (length (slice_index_or importers k []))

-- at first jobs wait, and of their imports nothing is known
pub record AreFirstRows (jobs : List Job) (importers : List (List ℕ)) (n : ℕ) (rows : List Row) : Type 0 where
  pub count : length rows ≡ n
  pub each : (k : ℕ) → k < n → row_at rows k ≡ first_row jobs importers k

-- ---- how jobs wait

-- the last of the imports of a job that may be open
abbrev pub watched : List Job → List Row → ℕ → ℕ
watched jobs rows j = slice_index_or (job_imports_at jobs j) ((row_at rows j).left - 1) 0

-- a job has work, and the last of its imports that may be open is open, or those that import it are about to be told
pub record IsHeldUp (jobs : List Job) (rows : List Row) (settled : List ℕ) (j : ℕ) : Type 0 where
  pub some : 0 < (row_at rows j).left
  pub within : (row_at rows j).left ≤ length (job_imports_at jobs j)
  pub inside : watched jobs rows j < length rows
  pub work : (work : Work) × (work_at jobs j ≡ Some work)
  pub on : (is_open (row_at rows (watched jobs rows j)).status || list_any (λ k. k == watched jobs rows j) settled) ≡ true

-- each job that waits is about to be carried on, or is held up
abbrev pub Waits : List Job → List Row → List ℕ → (ℕ → Bool) → Type 0
Waits jobs rows settled pending = (j : ℕ) → is_waiting (row_at rows j).status ≡ true → pending j ≡ false → IsHeldUp jobs rows settled j

abbrev pub AreWaiting : Rows → Moves → (ℕ → Bool) → Type 0
AreWaiting rows moves pending = Waits rows.jobs.items rows.rows moves.settled.items pending

-- where that job was about to be carried on as well, it isn't any more
abbrev pub NoMoreWaits : ℕ → Rows → Moves → Rows → Moves → Type 0
NoMoreWaits job old before new after = (pending : ℕ → Bool) → AreWaiting old before (λ j. (j == job) || pending j) → AreWaiting new after pending

-- behind its first so many imports none is open
abbrev pub IsOpenPast : List Job → List Row → ℕ → ℕ → Type 0
IsOpenPast jobs rows job left =
    (i : ℕ) → left ≤ i → i < length (job_imports_at jobs job) → is_open (row_at rows (slice_index_or (job_imports_at jobs job) i 0)).status ≡ false

abbrev pub AllPast : List Job → List Row → Type 0
AllPast jobs rows = (job : ℕ) → is_waiting (row_at rows job).status ≡ true → IsOpenPast jobs rows job (row_at rows job).left

-- of no more imports than a job has it is open whether they are
abbrev pub AreWithin : List Job → List Row → Type 0
AreWithin jobs rows = (job : ℕ) → is_waiting (row_at rows job).status ≡ true → (row_at rows job).left ≤ length (job_imports_at jobs job)

-- ---- what carrying on keeps

-- how often a number stands there
abbrev pub times : ℕ → List ℕ → ℕ
times k ks = count_by (λ j. j == k) ks

-- the jobs with an id among those that became ready
abbrev pub those_of : List ℕ → List AReady → List ℕ
those_of id [] = []
those_of id (one ∷ ready) = if bytes_eq one.id id then one.job ∷ those_of id ready else those_of id ready

-- the job waited, and is ready with an action of that id
abbrev pub is_newly_ready : List Row → List Row → List ℕ → ℕ → Bool
is_newly_ready old new id k = is_waiting (row_at old k).status && (is_ready (row_at new k).status && has_action_id id (row_at new k).action)

-- the jobs that waited and became ready joined these, each once, with its id
abbrev pub AreListed : List Row → List Row → List AReady → List AReady → Type 0
AreListed old new before after = (k : ℕ) (id : List ℕ) → times k (those_of id after) ≡ times k (those_of id before) + (if is_newly_ready old new id k then 1 else 0)

-- what results may be propagated to: how many imports of a job that waits may be open is known, and it has no action
pub record ArePropagatedBy (jobs : List Job) (importers : List (List ℕ)) (rows : List Row) : Type 0 where
  pub known : AreKnownBy jobs importers rows
  pub past : AllPast jobs rows
  pub within : AreWithin jobs rows
  pub bare : (k : ℕ) → (row_at rows k).status ≡ Waiting → (row_at rows k).action ≡ None

abbrev pub ArePropagated : Rows → Type 0
ArePropagated rows = ArePropagatedBy rows.jobs.items rows.importers.items rows.rows

-- a job's import with that number
abbrev pub import_at : Rows → ℕ → ℕ → ℕ
import_at rows job number = slice_index_or (job_imports_at rows.jobs.items job) number 0

-- the imports of a job have these summaries, as they stand
abbrev pub HaveSummaries : Holdings → Rows → ℕ → List Summary → Type 0
HaveSummaries h rows job summaries = AllZip (JobHasSummary h (job_states_of rows.rows)) (job_imports_at rows.jobs.items job) summaries

-- these may make this action with its work, or make it
abbrev pub MayFormAt : Holdings → Rows → ℕ → Work → Action → Type 0
MayFormAt h rows job work action = MayForm h (job_states_of rows.rows) work (job_imports_at rows.jobs.items job) action

abbrev pub IsFormedAt : Holdings → Rows → ℕ → Work → Action → Type 0
IsFormedAt h rows job work action = IsFormed h (job_states_of rows.rows) work (job_imports_at rows.jobs.items job) action

-- the row of a job that waited, as its imports say, as they stand
pub record RowBecomes (h : Holdings) (jobs : List Job) (rows : List Row) (job : ℕ) (row : Row) : Type 0 where
  pub waited : is_waiting (row_at rows job).status ≡ true
  pub inside : job < length rows
  pub same : row ≡ record (row_at rows job) { status = row.status; action = row.action; left = row.left }
  pub stands : HasStatus h (job_states_of rows) (slice_get jobs job) row.status row.action
  pub fewer : row.left ≤ (row_at rows job).left
  pub past : IsOpenPast jobs rows job row.left
  pub on : is_waiting row.status ≡ true → (0 < row.left) × (is_open (row_at rows (slice_index_or (job_imports_at jobs job) (row.left - 1) 0)).status ≡ true)

-- a job that is ready, with its id
abbrev pub ready_of : ℕ → JobStatus → Option Action → List AReady
ready_of job Ready (Some action) = record { job = job; id = action_id action } ∷ []
ready_of job Ready None = []
ready_of job Waiting action = []
ready_of job (Running hand) action = []
ready_of job Blocked action = []
ready_of job (Done good) action = []

-- the job joins these, if it is done or blocked
abbrev pub settled_with : List ℕ → ℕ → JobStatus → List ℕ
settled_with settled job status = if is_open status then settled else (settled ++ job ∷ [])

-- how many jobs are open, or are done or blocked and their importers are to be told
abbrev pub unsettled : Rows → Moves → ℕ
unsettled rows moves = length moves.settled.items + count_by is_open (job_states_of rows.rows).statuses

-- From the one to the other, results were propagated by what is held, with so many reads beside those that were owed.
pub record Propagates (h : Holdings) (spare : ℕ) (old new : Rows) (before after : Moves) (looks next : ℕ) : Type 0 where
  pub jobs : new.jobs.items ≡ old.jobs.items
  pub importers : new.importers.items ≡ old.importers.items
  pub good : ArePropagated new
  pub under : (first : JobStates) → IsUnder old.jobs.items h first (job_states_of old.rows) → IsUnder old.jobs.items h first (job_states_of new.rows)
  pub backs : (k : ℕ) → (row_at new.rows k).was_back ≡ (row_at old.rows k).was_back
  pub runs : count_by is_running (job_states_of new.rows).statuses ≡ count_by is_running (job_states_of old.rows).statuses
  pub listed : AreListed old.rows new.rows before.ready.items after.ready.items
  pub fewer : unsettled new after ≤ unsettled old before
  pub paid : charged next new after ≤ charged looks old before + spare
  pub more : looks ≤ next

-- whether the job is ready or runs, and its action has the id
abbrev pub is_active_of : List Row → List ℕ → ℕ → Bool
is_active_of rows id k = is_active (row_at rows k).status && has_action_id id (row_at rows k).action

-- the row of a job, once its id is done
abbrev pub marked_row : List Row → List ℕ → Bool → ℕ → Row
marked_row rows id good k = if is_active_of rows id k then record (row_at rows k) { status = Done good } else row_at rows k

-- the jobs with the id that were ready or ran are done, and are among those whose importers are to be told
pub record Marks (id : List ℕ) (good : Bool) (old new : List Row) (settled : List ℕ) : Type 0 where
  pub count : length new ≡ length old
  pub each : (k : ℕ) → row_at new k ≡ marked_row old id good k
  pub told : (k : ℕ) → is_active_of old id k ≡ true → list_any (λ s. s == k) settled ≡ true

-- The jobs with the id are done, and from there jobs were carried on until nothing changes.
pub record FinishesRows (h : Holdings) (id : List ℕ) (result : Bool) (old new : Rows) (ready : List AReady) : Type 0 where
  pub marked : List Row
  pub settled : List ℕ
  pub marks : Marks id result old.rows marked settled
  pub from : ArePropagatedBy old.jobs.items old.importers.items marked
  pub good : ArePropagatedBy old.jobs.items old.importers.items new.rows
  pub under : (first : JobStates) → IsUnder old.jobs.items h first (job_states_of marked) → IsUnder old.jobs.items h first (job_states_of new.rows)
  pub waits : Waits old.jobs.items new.rows [] (λ j. false)
  pub backs : (k : ℕ) → (row_at new.rows k).was_back ≡ (row_at old.rows k).was_back
  pub runs : count_by is_running (job_states_of new.rows).statuses ≡ count_by is_running (job_states_of marked).statuses
  pub listed : (k : ℕ) (i : List ℕ) → times k (those_of i ready) ≡ (if is_newly_ready marked new.rows i k then 1 else 0)

-- ---- putting back

-- the last row that was written is put back first
abbrev pub undone : List Change → List Row → List Row
undone [] rows = rows
undone (change ∷ log) rows = slice_set (undone log rows) change.job change.was

-- these are numbers of rows
abbrev pub AreWritten : ℕ → List Change → Type 0
AreWritten n log = All (λ change. change.job < n) log

-- what was written can be put back
pub record IsUndone (old new : Rows) (before after : Moves) : Type 0 where
  pub rows : undone after.log.items new.rows ≡ undone before.log.items old.rows
  pub count : length new.rows ≡ length old.rows
  pub jobs : new.jobs.items ≡ old.jobs.items
  pub importers : new.importers.items ≡ old.importers.items
  pub written : AreWritten (length old.rows) before.log.items → AreWritten (length old.rows) after.log.items

-- whether each job was ever given back
abbrev pub KnowsBacks : List Row → List Event → Type 0
KnowsBacks rows history = (k : ℕ) → k < length rows → (row_at rows k).was_back ≡ list_any (is_back_of k) history
