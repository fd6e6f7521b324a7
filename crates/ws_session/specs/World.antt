-- The world of a session: replicas, each a set of writes and a set of actions.
use Rattle.std.specs.Prelude.{◌≡◌, ℕ, ◌⊎◌, ◌+◌, ◌==◌, ◌&&◌, ◌||◌, not, nat_lt, Bool, true, false, cond, if◌then◌else◌, List, [], ◌∷◌, ◌++◌, length, map, zip, Option, None, Some, is_some, is_none}
use Rattle.std.specs.List.{AllZip, Contains, flat_map, list_all, list_any}
use Rattle.std.specs.Option.{option_map, unwrap_or}
use Rattle.std.specs.Str.{bytes_eq, is_utf8}
use Rattle.go_text.specs.declared.edition.Edition.{Edition}
use Rattle.go_text.specs.Texts.{text_error}
use Rattle.ws_version.specs.Writes.{Write as AWrite}
use Rattle.ws_path.specs.Paths.{is_path}
use Rattle.ws_register.specs.Sources.{top, AreGreatestWrites}
use Rattle.ws_register.specs.Edits.{edited, removed, greatest_at, is_missing}
use Rattle.ws_action.specs.Actions.{Action}
use Rattle.ws_action.specs.Clash.{hashed_actions}
use Rattle.ws_cache.specs.Count.{compiled_count}
use Rattle.ws_replica.specs.Reports.{TargetBuild, IsTargetBuild, actions_in, all_actions, report_of}
use Rattle.ws_replica.specs.Programs.{IsPlannedProgram}
use Rattle.ws_replica.specs.Ids.{AreIdRows}
use Rattle.ws_report.specs.declared.IdStatus.{IdStatus}
use Rattle.go_typed.specs.Trees.{Package}
use Rattle.go_meaning.specs.Programs.{SourceMeaning}
use Rattle.go_code.specs.declared.ending.Ending.{Ending}
use Rattle.ws_command.specs.declared.refusal.Refusal.{Refusal}
use Rattle.ws_command.specs.declared.refusal.Refusal.TheVariants.{BadCommand, Unknown, Exists, BadPath, NoFile, CounterFull, BadText, NoPackage, NotBuilt}
use Rattle.ws_command.specs.Refusals.{refused, first_of}
use Rattle.ws_command.specs.Printing.{report_text}
use Rattle.ws_command.specs.RunPrinting.{run_text}
use Rattle.ws_command.specs.IdsPrinting.{ids_text}
use Rattle.ws_command.specs.ShowPrinting.{show_text}
use Rattle.ws_command.specs.Commands.{Command, Bad, Create, Write, Remove, Apply, Merge, Settle, Build, Run, Ids, Show, Use}

-- A replica: what it took, as two sets that are read by membership. A number is never given twice.
pub record ReplicaModel : Type 0 where
  pub name : List ℕ
  pub number : ℕ
  pub writes : List AWrite
  pub actions : List Action

-- The replicas in order of creation, the edition that commands go by, and the actions that builds, runs and ids looked for, which
-- no command reads: their texts are hashed too.
pub record World : Type 0 where
  pub edition : Edition
  pub replicas : List ReplicaModel
  pub sought : List Action

abbrev pub empty_world : Edition → World
empty_world edition = record { edition = edition; replicas = []; sought = [] }

-- the replica of that name
abbrev pub replica_at : List ℕ → List ReplicaModel → Option ReplicaModel
replica_at name [] = None
replica_at name (r ∷ rs) = cond (bytes_eq r.name name) (Some r) (replica_at name rs)

abbrev pub knows : List ℕ → World → Bool
knows name world = is_some (replica_at name world.replicas)

-- one that took nothing stands for none
abbrev pub or_new : Option ReplicaModel → ReplicaModel
or_new r = unwrap_or r (record { name = []; number = 0; writes = []; actions = [] })

-- what the replica of that name took
abbrev pub writes_of : List ℕ → World → List AWrite
writes_of name world = (or_new (replica_at name world.replicas)).writes

abbrev pub actions_held : List ℕ → World → List Action
actions_held name world = (or_new (replica_at name world.replicas)).actions

-- a replica that takes these writes and actions too
abbrev pub grown_by : ReplicaModel → List AWrite → List Action → ReplicaModel
grown_by r writes actions = record { name = r.name; number = r.number; writes = r.writes ++ writes; actions = r.actions ++ actions }

-- the replica of that name takes them
abbrev pub taking : List ℕ → List AWrite → List Action → List ReplicaModel → List ReplicaModel
taking name writes actions [] = []
taking name writes actions (r ∷ rs) = cond (bytes_eq r.name name) (grown_by r writes actions ∷ rs) (r ∷ taking name writes actions rs)

-- An edit by the replica of that name: one more than the greatest counter that it took, and its number.
abbrev pub edit_of : List ℕ → List ℕ → List ℕ → World → AWrite
edit_of name path text world = (path, edited (top (writes_of name world)) (or_new (replica_at name world.replicas)).number text)

-- A removal by the replica of that name: one more than the greatest counter that it took, and its number.
abbrev pub removal_of : List ℕ → List ℕ → World → AWrite
removal_of name path world = (path, removed (top (writes_of name world)) (or_new (replica_at name world.replicas)).number)

-- the replica of that name holds no text at the path
abbrev pub lacks : List ℕ → List ℕ → World → Bool
lacks name path world = is_missing (greatest_at path (writes_of name world))

-- a whole text: there are so many lines, they are UTF-8, and a source of the edition may hold them
abbrev pub is_whole_text : Edition → Option (List ℕ) → Bool
is_whole_text edition text = elim text [ None ↦ false | Some its ↦ is_utf8 its && is_none (text_error edition its) ]

-- what is applied: a removal, or a whole text
abbrev pub is_content : Edition → Option ℕ → Option (List ℕ) → Bool
is_content edition lines text = is_none lines || is_whole_text edition text

-- a word that is UTF-8 and spells a path
abbrev pub is_path_word : List ℕ → Bool
is_path_word word = is_utf8 word && is_path word

-- For each command its refusals in order of their numbers, and when each holds. A word that isn't UTF-8 is no directory;
-- whether a directory has package files is a matter of its plan.
abbrev pub refusals : Command → Option (List ℕ) → World → List (Bool × Refusal)
refusals Bad text world = (true, BadCommand) ∷ []
refusals (Create name) text world = (nat_lt 63 (length world.replicas), BadCommand) ∷ (knows name world, Exists) ∷ []
refusals (Write name path lines) text world =
    (not (knows name world), Unknown) ∷ (not (is_path_word path), BadPath) ∷ (top (writes_of name world) == 18446744073709551615, CounterFull) ∷ (not (is_whole_text world.edition text), BadText) ∷ []
refusals (Remove name path) text world =
    (not (knows name world), Unknown) ∷ (not (is_path_word path), BadPath) ∷ (lacks name path world, NoFile) ∷ (top (writes_of name world) == 18446744073709551615, CounterFull) ∷ []
refusals (Apply name path counter number lines) text world =
    (not (knows name world), Unknown) ∷ (not (is_path_word path), BadPath) ∷ (not (is_content world.edition lines text), BadText) ∷ []
refusals (Show name) text world = (not (knows name world), Unknown) ∷ []
refusals (Merge name other) text world = (not (knows name world && knows other world), Unknown) ∷ []
refusals (Build targets) text world =
    (not (list_all (λ t. knows t.0 world) targets), Unknown) ∷ (not (list_all (λ t. is_utf8 t.1) targets), NoPackage) ∷ []
refusals (Run name directory ticks) text world = (not (knows name world), Unknown) ∷ (not (is_utf8 directory), NoPackage) ∷ []
refusals (Ids name directory) text world = (not (knows name world), Unknown) ∷ (not (is_utf8 directory), NoPackage) ∷ []
refusals _ text world = []

-- the text of what is applied, and none where it is a removal
abbrev pub content_in : Option ℕ → Option (List ℕ) → Option (List ℕ)
content_in lines text = option_map (λ _. unwrap_or text []) lines

-- every replica takes what all took
abbrev pub all_settled : List ReplicaModel → List ReplicaModel
all_settled rs = map (λ r. record { name = r.name; number = r.number; writes = flat_map (λ s. s.writes) rs; actions = flat_map (λ s. s.actions) rs }) rs

-- the world in which commands go by another edition
abbrev pub using : Edition → World → World
using edition world = record { edition = edition; replicas = world.replicas; sought = world.sought }

abbrev pub with_replicas : World → List ReplicaModel → World
with_replicas world replicas = record { edition = world.edition; replicas = replicas; sought = world.sought }

-- the world in which these actions were looked for
abbrev pub seeking : World → List Action → World
seeking world actions = record { edition = world.edition; replicas = world.replicas; sought = world.sought ++ actions }

-- what becomes of a directory and of all that it reaches, by what the replica of that name took; none where it has no package files
abbrev pub IsBuild : List ℕ → List ℕ → World → Option TargetBuild → Type 0
IsBuild name directory world build = IsTargetBuild world.edition (writes_of name world) directory build

-- what builds of targets come to; nothing where one of them has no package files
abbrev pub AreBuilds : World → List (List ℕ × List ℕ) → Option (List TargetBuild) → Type 0
AreBuilds world targets None = (name : List ℕ) × (directory : List ℕ) × Contains targets (name, directory) × IsBuild name directory world None
AreBuilds world targets (Some builds) = AllZip (λ t b. IsBuild t.0 t.1 world (Some b)) targets builds

-- the entries that the replicas of targets hold
abbrev pub held_by : World → List (List ℕ × List ℕ) → List Action
held_by world targets = flat_map (λ t. actions_held t.0 world) targets

-- every replica of a target takes these actions
abbrev pub sharing : List (List ℕ × List ℕ) → List Action → List ReplicaModel → List ReplicaModel
sharing targets actions rs = map (λ r. if list_any (λ t. bytes_eq r.name t.0) targets then grown_by r [] actions else r) rs

-- every replica of a target takes what they hold together and what was compiled
abbrev pub after_builds : World → List (List ℕ × List ℕ) → Option (List TargetBuild) → World
after_builds world targets None = world
after_builds world targets (Some builds) =
    seeking (with_replicas world (sharing targets (held_by world targets ++ all_actions world.edition builds) world.replicas)) (all_actions world.edition builds)

-- the world after a command that isn't refused
abbrev pub Accepted : Command → Option (List ℕ) → World → World → Type 0
Accepted (Create name) text world next =
    next ≡ with_replicas world (world.replicas ++ record { name = name; number = length world.replicas + 1; writes = []; actions = [] } ∷ [])
Accepted (Write name path lines) text world next =
    next ≡ with_replicas world (taking name (edit_of name path (unwrap_or text []) world ∷ []) [] world.replicas)
Accepted (Remove name path) text world next =
    next ≡ with_replicas world (taking name (removal_of name path world ∷ []) [] world.replicas)
Accepted (Apply name path counter number lines) text world next =
    next ≡ with_replicas world (taking name ((path, record { counter = counter; number = number; text = content_in lines text }) ∷ []) [] world.replicas)
Accepted Settle text world next = next ≡ with_replicas world (all_settled world.replicas)
Accepted (Merge name other) text world next =
    next ≡ with_replicas world (taking name (writes_of other world) (actions_held other world) world.replicas)
Accepted (Build targets) text world next = (builds : Option (List TargetBuild)) × AreBuilds world targets builds × (next ≡ after_builds world targets builds)
Accepted (Run name directory ticks) text world next = (build : Option TargetBuild) × IsBuild name directory world build × (next ≡ seeking world (actions_in world.edition build))
Accepted (Ids name directory) text world next = (build : Option TargetBuild) × IsBuild name directory world build × (next ≡ seeking world (actions_in world.edition build))
Accepted (Use edition) text world next = next ≡ using edition world
Accepted _ text world next = next ≡ world

abbrev pub AfterBy : Option Refusal → Command → Option (List ℕ) → World → World → Type 0
AfterBy refusal command text world next = elim refusal [ None ↦ Accepted command text world next | Some its ↦ next ≡ world ]

-- the world after a command, of which a refused one changes nothing
unfoldable pub After : Command → Option (List ℕ) → World → World → Type 0
After command text world next = AfterBy (first_of (refusals command text world)) command text world next

-- what builds of targets print: a report each, where each has package files; the count is that of all
abbrev pub target_report : ℕ → (List ℕ × List ℕ) × TargetBuild → List ℕ
target_report count ((name, directory), build) = report_text name directory (report_of build) count

abbrev pub builds_text : World → List (List ℕ × List ℕ) → Option (List TargetBuild) → List ℕ
builds_text world targets None = refused NoPackage
builds_text world targets (Some builds) = flat_map (target_report (compiled_count (held_by world targets) (all_actions world.edition builds))) (zip targets builds)

-- what a run prints: for so many ticks what the sources mean, if they are a program that the replica holds compiled, and else a refusal
abbrev pub PrintsRun : List ℕ → List ℕ → ℕ → World → Option TargetBuild → List ℕ → Type 0
PrintsRun name directory ticks world None told = told ≡ refused NoPackage
PrintsRun name directory ticks world build told =
    ((packages : List Package) × IsPlannedProgram world.edition (actions_held name world) build packages
    × (ending : Ending) × (output : List ℕ) × SourceMeaning packages ticks ending output × (told ≡ run_text name directory ending output))
    ⊎ (((packages : List Package) → IsPlannedProgram world.edition (actions_held name world) build packages → ⊥) × (told ≡ refused NotBuilt))

-- what the ids of a plan's directories print
abbrev pub Listed : List ℕ → List ℕ → World → Option TargetBuild → List ℕ → Type 0
Listed name directory world None told = told ≡ refused NoPackage
Listed name directory world (Some build) told = (rows : List (List ℕ × IdStatus)) × AreIdRows world.edition (actions_held name world) build rows × (told ≡ ids_text name directory rows)

-- what a command that isn't refused prints
abbrev pub Outputs : Command → World → List ℕ → Type 0
Outputs (Build targets) world told = (builds : Option (List TargetBuild)) × AreBuilds world targets builds × (told ≡ builds_text world targets builds)
Outputs (Run name directory ticks) world told = (build : Option TargetBuild) × IsBuild name directory world build × PrintsRun name directory ticks world build told
Outputs (Ids name directory) world told = (build : Option TargetBuild) × IsBuild name directory world build × Listed name directory world build told
Outputs (Show name) world told = (shown : List AWrite) × AreGreatestWrites (writes_of name world) shown × (told ≡ show_text name shown)
Outputs _ world told = told ≡ []

abbrev pub PrintsBy : Option Refusal → Command → World → List ℕ → Type 0
PrintsBy refusal command world told = elim refusal [ None ↦ Outputs command world told | Some its ↦ told ≡ refused its ]

-- what a command prints
unfoldable pub Prints : Command → Option (List ℕ) → World → List ℕ → Type 0
Prints command text world told = PrintsBy (first_of (refusals command text world)) command world told

abbrev pub texts_of_replica : ReplicaModel → List (List ℕ)
texts_of_replica r = hashed_actions r.actions

-- The texts that are hashed: of actions, of their files and of their imports' summaries, for the actions that are held and those that
-- builds, runs and ids looked for.
unfoldable pub hashed_texts : World → List (List ℕ)
hashed_texts world = flat_map texts_of_replica world.replicas ++ hashed_actions world.sought
