-- What the replicas of a session stand for.
use Rattle.std.specs.Prelude.{◌≡◌, ℕ, ◌+◌, ◌==◌, suc, not, is_some, cond, true, false, List, [], ◌∷◌, ◌++◌, map, slice_set, slice_index_or, Option, None, Some, MatchOption, Result, Ok, Err, Vec}
use Rattle.std.specs.Borrow.{Bor}
use Rattle.std.specs.Global.{Global}
use Rattle.std.specs.List.{AllZip, Contains, flat_map, list_all, slice_get}
use Rattle.std.specs.Str.{bytes_eq, is_utf8}
use Rattle.std.specs.Option.{option_map}
use Rattle.go_text.specs.declared.edition.Edition.{Edition}
use Rattle.go_text.specs.Named.{Source}
use Rattle.ws_path.specs.Paths.{file_name}
use Rattle.ws_session.specs.declared.replicas.SessionReplica.{SessionReplica}
use Rattle.ws_session.specs.declared.replicas.Replicas.{Replicas}
use Rattle.ws_session.specs.declared.clock.WriteClock.{WriteClock}
use Rattle.ws_version.specs.Writes.{Write}
use Rattle.ws_version.specs.declared.Version.{Version}
use Rattle.ws_version_vector.specs.declared.vector.News.{News}
use Rattle.ws_version_vector.specs.Counts.{count_at, counts_at, IsRaised, IsMost, AreFirstNumbers, AreShared}
use Rattle.ws_version_vector.specs.Counts as counted
use Rattle.ws_version_vector.specs.Keyed.{IsPushed, AreLogged}
use Rattle.ws_version_vector.specs.Taken.{VectorsInvariant, Brings, IsSubset}
use Rattle.ws_version_vector.specs.Taken as written
use Rattle.ws_register.specs.Sources.{top}
use Rattle.ws_register.specs.Edits.{greatest_at, is_missing, removed}
use Rattle.ws_register.specs.News.{HasNewsAt}
use Rattle.ws_action.specs.Actions.{Action}
use Rattle.ws_action.specs.Clash.{AllSized, NoClash, hashed_actions}
use Rattle.ws_replica.specs.Reports.{TargetBuild, IsTargetBuild, actions_of}
use Rattle.ws_replica.specs.declared.building.Target.{Target}
use Rattle.ws_replica.specs.Builds.{took_at, target_of, AreBuiltOver, LacksPackage}
use Rattle.ws_report.specs.declared.Report.{Report}
use Rattle.ws_report.specs.Reports.{verdict_rows}
use Rattle.ws_replica.specs.Holdings as holdings
use Rattle.ws_replica.specs.Holdings.{ReplicaStandsFor, Took, AllStandFor}
use Rattle.ws_replica.specs.Programs.{IsPlannedProgram}
use Rattle.ws_replica.specs.Ids.{AreIds}
use Rattle.ws_report.specs.declared.IdStatus.{IdStatus}
use Rattle.go_typed.specs.Trees.{Package}
use Rattle.go_meaning.specs.Programs.{SourceMeaning}
use Rattle.go_vm.specs.Outcomes.{ProgramOutcome}
use Rattle.ws_command.specs.Refusals.{refused, first_of}
use Rattle.ws_command.specs.Commands.{Command, Apply, Build}
use Rattle.ws_command.specs.Printing.{report_text}
use Rattle.ws_session.specs.World.{World, ReplicaModel, refusals, AfterBy, After, Prints, hashed_texts, is_whole_text, is_content, content_in}
use Rattle.ws_command.specs.declared.refusal.Refusal.{Refusal}
use Rattle.ws_command.specs.declared.refusal.Refusal.TheVariants.{Unknown, NoFile, CounterFull, BadText, NoPackage}

-- the first index of that name
abbrev pub replica_index : List ℕ → List SessionReplica → Option ℕ
replica_index name [] = None
replica_index name (n ∷ ns) = cond (bytes_eq n.name.items name) (Some 0) (option_map (λ k. suc k) (replica_index name ns))

-- a replica of the world, and what the code keeps of it
pub record RepresentsReplica (n : SessionReplica) (r : ReplicaModel) : Type 0 where
  pub name : n.name.items ≡ r.name
  pub number : n.number ≡ r.number
  pub holds : ReplicaStandsFor n.replica r.writes r.actions
  pub sized : AllSized r.actions

-- the same of each, in order
abbrev pub AllRepresent : List SessionReplica → List ReplicaModel → Type 0
AllRepresent [] [] = Unit {0}
AllRepresent [] (r ∷ rs) = ⊥
AllRepresent (n ∷ ns) [] = ⊥
AllRepresent (n ∷ ns) (r ∷ rs) = RepresentsReplica n r × AllRepresent ns rs

-- no name twice
abbrev pub AreApart : List (List ℕ) → Type 0
AreApart [] = Unit {0}
AreApart (name ∷ names) = (¬ (Contains names name)) × AreApart names

abbrev pub replica_names : World → List (List ℕ)
replica_names world = map (λ r. r.name) world.replicas

-- what each replica took, as a list
abbrev pub writes_in : List ReplicaModel → List (List Write)
writes_in rs = map (λ r. r.writes) rs

abbrev pub replica_actions : List ReplicaModel → List (List Action)
replica_actions rs = map (λ r. r.actions) rs

-- The counts tell what each replica took of what was first taken at each. What was, no program keeps.
abbrev pub AreCompiled : List (List ℕ) → World → Type 0
AreCompiled compiled world = (lists : ℕ → List (List Action)) × VectorsInvariant lists compiled (replica_actions world.replicas)

-- nothing was written
abbrev pub none_written : WriteClock
none_written = record { counts = []; logs = [] }

-- The same of writes, of which the last are logged by their paths.
abbrev pub AreWritten : WriteClock → List ReplicaModel → Type 0
AreWritten wrote rs = (lists : ℕ → List (List Write)) × VectorsInvariant lists wrote.counts (writes_in rs) × AreLogged (λ (w : Write). w.0) lists wrote.logs

pub record AreCounted (wrote : WriteClock) (compiled : List (List ℕ)) (world : World) : Type 0 where
  pub writes : AreWritten wrote world.replicas
  pub actions : AreCompiled compiled world

pub record Represents (s : Replicas) (world : World) : Type 0 where
  pub edition : s.edition ≡ world.edition
  pub replicas : AllRepresent s.named.items world.replicas
  pub apart : AreApart (replica_names world)
  pub kept : AreCounted s.wrote s.compiled world

-- A command that prints no more than its refusal: the refusal is the definition's, and the replicas stand for the world after it.
pub record Settles (command : Command) (text : Option (List ℕ)) (world : World) (refusal : Option Refusal) (named : List SessionReplica) : Type 0 where
  pub refuses : first_of (refusals command text world) ≡ refusal
  pub next : World
  pub after : AfterBy refusal command text world next
  pub edition : next.edition ≡ world.edition
  pub stand : AllRepresent named next.replicas

-- the text that came with a command
abbrev pub command_text : Option (Vec ℕ Global) → Option (List ℕ)
command_text text = option_map (λ v. v.items) text

-- the command that applies a write of that version
abbrev pub applied_by : List ℕ → List ℕ → Version → Option ℕ → Command
applied_by name path version lines = Apply name path version.counter version.number lines

-- the same from whatever world the replicas stood for before
abbrev pub SettlesFrom : Command → Option (List ℕ) → Vec SessionReplica Global → Option Refusal → Vec SessionReplica Global → Type 0
SettlesFrom command text old refusal new = (world : World) → AllRepresent old.items world.replicas → Settles command text world refusal new.items

-- the same where commands go by an edition
abbrev pub SettlesIn : Edition → Command → Option (List ℕ) → Vec SessionReplica Global → Option Refusal → Vec SessionReplica Global → Type 0
SettlesIn edition command text old refusal new = (world : World) → edition ≡ world.edition → AllRepresent old.items world.replicas → Settles command text world refusal new.items

-- where what each took was counted so
abbrev pub SettlesCounted : Command → WriteClock → List (List ℕ) → Vec SessionReplica Global → Option Refusal → Vec SessionReplica Global → Type 0
SettlesCounted command wrote compiled old refusal new =
    (text : Option (List ℕ)) (world : World) → AllRepresent old.items world.replicas → AreCounted wrote compiled world → Settles command text world refusal new.items

abbrev pub refusal_text_of : Option Refusal → List ℕ
refusal_text_of None = []
refusal_text_of (Some refusal) = refused refusal

-- A command's result: the world after it is the definition's, and, if no two texts that are hashed in that world
-- clash, so is what it prints, and the replicas represent that world.
pub record CommandResult (command : Command) (text : Option (List ℕ)) (world : World) (told : List ℕ) (named : List SessionReplica) : Type 0 where
  pub next : World
  pub after : After command text world next
  pub edition : next.edition ≡ world.edition
  pub clear : NoClash (hashed_texts next) → Prints command text world told × AllRepresent named next.replicas

-- the same, where its actions are counted in the world after it
pub record CountedResult (command : Command) (text : Option (List ℕ)) (world : World) (told : List ℕ) (named : List SessionReplica) (compiled : List (List ℕ)) : Type 0 where
  pub tells : CommandResult command text world told named
  pub counted : AreCompiled compiled tells.next

-- the result of a command that changes no replica, whatever world these represent
abbrev pub ResultUnchanged : Command → Vec SessionReplica Global → List ℕ → Type 0
ResultUnchanged command named told = (text : Option (List ℕ)) (world : World) → AllRepresent named.items world.replicas → CommandResult command text world told named.items

-- the same in an edition
abbrev pub ResultIn : Edition → Command → Vec SessionReplica Global → List ℕ → Type 0
ResultIn edition command named told =
    (text : Option (List ℕ)) (world : World) → edition ≡ world.edition → AllRepresent named.items world.replicas → CommandResult command text world told named.items

-- the result of a build of names with directories, whatever world the replicas represented, where what they compiled was counted so
abbrev pub BuildResult : Edition → List (List ℕ × List ℕ) → Vec SessionReplica Global → List (List ℕ) → List ℕ → Vec SessionReplica Global → List (List ℕ) → Type 0
BuildResult edition asked old was_compiled told new compiled =
    (text : Option (List ℕ)) (world : World) → edition ≡ world.edition → AllRepresent old.items world.replicas → AreApart (replica_names world)
    → AreCompiled was_compiled world → CountedResult (Build asked) text world told new.items compiled

-- a write to a path was counted and logged at a replica
pub record IsWrittenAt (k : ℕ) (path : List ℕ) (old new : WriteClock) : Type 0 where
  pub counts : List ℕ
  pub raised : IsRaised k (counts_at k old.counts) counts
  pub changed : counted.ChangedAt k old.counts new.counts counts
  pub logged : IsPushed k (count_at k (counts_at k old.counts)) path old.logs new.logs

-- a write of the replica at an index was counted there, if there was one
abbrev pub IsWriteCounted : Option Refusal → Option ℕ → List ℕ → WriteClock → WriteClock → Type 0
IsWriteCounted (Some refusal) at path old new = new ≡ old
IsWriteCounted None None path old new = new ≡ old
IsWriteCounted None (Some k) path old new = IsWrittenAt k path old new

-- that the replica at an index took what that at another has was counted, if it did
abbrev pub IsMergeCounted : Option Refusal → Option ℕ → Option ℕ → List (List ℕ) → List (List ℕ) → Type 0
IsMergeCounted (Some refusal) mine theirs old new = new ≡ old
IsMergeCounted None None theirs old new = new ≡ old
IsMergeCounted None (Some k) None old new = new ≡ old
IsMergeCounted None (Some k) (Some j) old new = (counts : List ℕ) × IsMost (counts_at k old) (counts_at j old) counts × counted.ChangedAt k old new counts

-- the same of names
abbrev pub MergesCounted : Vec SessionReplica Global → List ℕ → List ℕ → Option Refusal → List (List ℕ) → List (List ℕ) → Type 0
MergesCounted named name other refusal old new = IsMergeCounted refusal (replica_index name named.items) (replica_index other named.items) old new

-- what all took of one another was counted
abbrev pub SharesCounted : ℕ → List (List ℕ) → List (List ℕ) → Type 0
SharesCounted count old new = (ks : List ℕ) × AreFirstNumbers count ks × AreShared ks old new

-- one replica is changed so, and no other
pub record ChangedAt (Change : SessionReplica → SessionReplica → Type 0) (old : List SessionReplica) (index : ℕ) (new : List SessionReplica) : Type 0 where
  pub changed : SessionReplica
  pub is : new ≡ slice_set old index changed
  pub so : (n : SessionReplica) → n ≡ slice_index_or old index n → Change n changed

-- it took an edit of its own
pub record Edited (path text : List ℕ) (old new : SessionReplica) : Type 0 where
  pub name : new.name.items ≡ old.name.items
  pub number : new.number ≡ old.number
  pub holds : (W : List Write) (E : List Action) → ReplicaStandsFor old.replica W E
      → ReplicaStandsFor new.replica (W ++ (path, record { counter = top W + 1; number = old.number; text = Some text }) ∷ []) E

-- it took a removal of its own
pub record Removed (path : List ℕ) (old new : SessionReplica) : Type 0 where
  pub name : new.name.items ≡ old.name.items
  pub number : new.number ≡ old.number
  pub holds : (W : List Write) (E : List Action) → ReplicaStandsFor old.replica W E → ReplicaStandsFor new.replica (W ++ (path, removed (top W) old.number) ∷ []) E

-- why a replica that took these writes removes no file at a path
abbrev pub removal_row : List ℕ → List Write → Option Refusal
removal_row path W = first_of ((is_missing (greatest_at path W), NoFile) ∷ (top W == 18446744073709551615, CounterFull) ∷ [])

abbrev pub RemovedOr : List ℕ → List SessionReplica → ℕ → Option Refusal → List SessionReplica → Type 0
RemovedOr path old index None new = ChangedAt (Removed path) old index new
RemovedOr path old index (Some refusal) new = new ≡ old

-- a removal by the replica at an index: refused as what it took says, with no change, or taken
pub record Removal (path : List ℕ) (old : List SessionReplica) (index : ℕ) (refusal : Option Refusal) (new : List SessionReplica) : Type 0 where
  pub refuses : (n : SessionReplica) (W : List Write) (E : List Action) → n ≡ slice_index_or old index n → ReplicaStandsFor n.replica W E → removal_row path W ≡ refusal
  pub changes : RemovedOr path old index refusal new

-- it took that write
pub record Applied (write : Write) (old new : SessionReplica) : Type 0 where
  pub name : new.name.items ≡ old.name.items
  pub number : new.number ≡ old.number
  pub holds : (W : List Write) (E : List Action) → ReplicaStandsFor old.replica W E → ReplicaStandsFor new.replica (W ++ write ∷ []) E

-- the source of a text at a path, if it is a source text of the edition
abbrev pub IsSourceIn : Edition → List ℕ → Option (List ℕ) → Option Source → Type 0
IsSourceIn edition path text source = MatchOption source (is_whole_text edition text ≡ false) (λ s. (is_whole_text edition text ≡ true) × (s.name ≡ file_name path) × (Some s.text ≡ text))

-- the greatest counter of what the replica at an index took
abbrev pub IsTopAt : Vec SessionReplica Global → ℕ → ℕ → Type 0
IsTopAt named index counter =
    (n : SessionReplica) (W : List Write) (E : List Action) → n ≡ slice_index_or named.items index n → ReplicaStandsFor n.replica W E → counter ≡ top W

-- what is applied, or that it is no content
abbrev pub IsContent : Edition → Option ℕ → Option (List ℕ) → Result (Option (List ℕ)) Refusal → Type 0
IsContent edition lines text (Ok content) = (is_content edition lines text ≡ true) × (content ≡ content_in lines text)
IsContent edition lines text (Err refusal) = (is_content edition lines text ≡ false) × (refusal ≡ BadText)

-- names with their numbers
abbrev pub labels_of : List SessionReplica → List (Vec ℕ Global × ℕ)
labels_of ns = map (λ n. (n.name, n.number)) ns

abbrev pub replicas_of : List SessionReplica → List holdings.Replica
replicas_of ns = map (λ n. n.replica) ns

-- a replica stands for what those at some indices took
abbrev pub HoldsAllOf : Vec SessionReplica Global → List ℕ → holdings.Replica → Type 0
HoldsAllOf named indices joined =
    (took : List Took) → AllStandFor (replicas_of named.items) took
    → ReplicaStandsFor joined (flat_map (λ k. (took_at took k).writes) indices) (flat_map (λ k. (took_at took k).actions) indices)

-- A replica holds all that another does, of which the results of these writers are a part, and with it what these wrote, where the other
-- has all writes of the replica at `first`.
abbrev pub HoldsWritesOf : Vec SessionReplica Global → WriteClock → holdings.Replica → ℕ → List ℕ → holdings.Replica → Type 0
HoldsWritesOf named wrote results first writers joined =
    (world : World) (V : List Write) (E : List Action) → AllRepresent named.items world.replicas → AreWritten wrote world.replicas
    → IsSubset (written.replica_took first (writes_in world.replicas)) V → IsSubset (flat_map (λ k. written.replica_took k (replica_actions world.replicas)) writers) E
    → ReplicaStandsFor results V E → ReplicaStandsFor joined (V ++ flat_map (λ k. written.replica_took k (writes_in world.replicas)) writers) E

-- the same of the first of some replicas, where there is one
abbrev pub HoldsKnownWrites : Vec SessionReplica Global → WriteClock → holdings.Replica → List ℕ → List ℕ → holdings.Replica → Type 0
HoldsKnownWrites named wrote results builders writers joined =
    (first : ℕ) × (slice_get builders 0 ≡ Some first) × HoldsWritesOf named wrote results first writers joined

-- what is news of the second's writes, by paths where these are known
abbrev pub IsBrought : News → Option (Vec (List ℕ) Global) → List Write → List Write → Type 0
IsBrought writes None V W = Brings writes V W
IsBrought writes (Some paths) V W = HasNewsAt paths.items V W

-- a replica took what another holds, of which this is news
abbrev pub TakesNews : News → Option (Vec (List ℕ) Global) → News → holdings.Replica → holdings.Replica → holdings.Replica → Type 0
TakesNews writes paths results old other new = (V W : List Write) (E F : List Action) → IsBrought writes paths V W → Brings results E F
    → ReplicaStandsFor old V E → ReplicaStandsFor other W F → ReplicaStandsFor new (V ++ W) (E ++ F)

-- it took what the replica at that index holds, of which this is news
pub record MergedFrom (writes : News) (paths : Option (Vec (List ℕ) Global)) (results : News) (named : List SessionReplica) (theirs : ℕ) (old new : SessionReplica) : Type 0 where
  pub name : new.name.items ≡ old.name.items
  pub number : new.number ≡ old.number
  pub holds : (other : SessionReplica) → other ≡ slice_index_or named theirs other → TakesNews writes paths results old.replica other.replica new.replica

-- the words of what is asked to be built
abbrev pub asked_of : Bor (List ℕ) × Bor (List ℕ) → List ℕ × List ℕ
asked_of asked = (asked.0.now, asked.1.now)

-- a name with a directory, and the number of the first replica of that name with the same directory
abbrev pub IsTarget : List SessionReplica → List ℕ × List ℕ → ℕ × List ℕ → Type 0
IsTarget named asked target = (replica_index asked.0 named ≡ Some target.0) × (asked.1 ≡ target.1)

-- why there is no build of names with directories
abbrev pub targets_row : List SessionReplica → List (List ℕ × List ℕ) → Option Refusal
targets_row named asked =
    first_of ((not (list_all (λ t. is_some (replica_index t.0 named)) asked), Unknown) ∷ (not (list_all (λ t. is_utf8 t.1) asked), NoPackage) ∷ [])

-- what a build of names with directories is of, or why there is none
abbrev pub AreTargets : List SessionReplica → List (List ℕ × List ℕ) → Result (Vec Target Global) Refusal → Type 0
AreTargets named asked (Ok targets) = (targets_row named asked ≡ None) × AllZip (IsTarget named) asked (map target_of targets.items)
AreTargets named asked (Err refusal) = targets_row named asked ≡ Some refusal

-- replicas built targets, with these reports, where those of some numbers held all; and each has its name and number
pub record Built (edition : Edition) (holders : List ℕ) (targets : List (ℕ × List ℕ)) (reports : List Report) (old new : List SessionReplica) : Type 0 where
  pub labels : labels_of new ≡ labels_of old
  pub builds : AreBuiltOver edition holders targets (replicas_of old) reports (replicas_of new)

-- or nothing changed, since a target has no package files
abbrev pub AreBuiltBy : Edition → List ℕ → List (ℕ × List ℕ) → List SessionReplica → Option (Vec Report Global) → List SessionReplica → Type 0
AreBuiltBy edition holders targets old None new = (new ≡ old) × ((took : List Took) → AllStandFor (replicas_of old) took → LacksPackage edition took targets)
AreBuiltBy edition holders targets old (Some reports) new = Built edition holders targets reports.items old new

-- the name of a target's replica, with its directory
abbrev pub target_words : List SessionReplica → ℕ × List ℕ → List ℕ × List ℕ
target_words named target = (slice_index_or (map (λ n. n.name.items) named) target.0 [], target.1)

-- what the report of a name with a directory prints
abbrev pub report_line : (List ℕ × List ℕ) × Report → List ℕ
report_line ((name, directory), report) = report_text name directory (verdict_rows report.directories.items) report.compiled

-- by what the replica at an index took, a directory has no package files
abbrev pub HasNoFilesAt : Edition → List ℕ → List SessionReplica → ℕ → Type 0
HasNoFilesAt edition directory named index =
    (n : SessionReplica) (W : List Write) (E : List Action) → n ≡ slice_index_or named index n → ReplicaStandsFor n.replica W E → IsTargetBuild edition W directory None

-- what a run came to: an outcome that the sources mean, if there is a compiled program, and none if there is none
abbrev pub IsOutcome : Edition → ℕ → List Action → TargetBuild → Option ProgramOutcome → Type 0
IsOutcome edition ticks held build None = (packages : List Package) → IsPlannedProgram edition held (Some build) packages → ⊥
IsOutcome edition ticks held build (Some outcome) =
    (packages : List Package) × IsPlannedProgram edition held (Some build) packages × SourceMeaning packages ticks outcome.ending outcome.output

-- what is known of a run
pub record RunOf (edition : Edition) (directory : List ℕ) (ticks : ℕ) (W : List Write) (E : List Action) (outcome : Option ProgramOutcome) : Type 0 where
  pub build : TargetBuild
  pub are : IsTargetBuild edition W directory (Some build)
  pub ran : NoClash (hashed_actions (E ++ actions_of edition build)) → IsOutcome edition ticks E build outcome

-- the replica at an index ran a directory, with this outcome
abbrev pub RanAt : Edition → List ℕ → ℕ → List SessionReplica → ℕ → Option ProgramOutcome → Type 0
RanAt edition directory ticks named index outcome =
    (n : SessionReplica) (W : List Write) (E : List Action) → n ≡ slice_index_or named index n → ReplicaStandsFor n.replica W E → AllSized E
    → RunOf edition directory ticks W E outcome

-- by what the replica at an index took, these are the ids of what a directory reaches
abbrev pub AreIdsAt : Edition → List ℕ → List SessionReplica → ℕ → List (List ℕ × IdStatus) → Type 0
AreIdsAt edition directory named index rows =
    (n : SessionReplica) (W : List Write) (E : List Action) → n ≡ slice_index_or named index n → ReplicaStandsFor n.replica W E → AllSized E
    → AreIds edition W E directory rows
