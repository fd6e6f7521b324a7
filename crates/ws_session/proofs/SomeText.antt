-- Each script has a session text.
use Rattle.std.proofs.Common.{ℕ, zero, suc, List, [], ◌∷◌, ◌++◌, Option, None, Some, refl, inl, inr}
use Rattle.go_text.specs.declared.edition.Edition.{Edition}
use Rattle.ws_action.proofs.Members.{later, at_head}
use Rattle.go_meaning.specs.Programs.{IsProgram}
use Rattle.go_package_laws.specs.Packages.{HasMeaning}
use Rattle.go_typed.specs.Trees.{Package}
use Rattle.ws_replica.specs.GoodPackages.{AreGoodPackages}
use Rattle.ws_replica.specs.Reports.{TargetBuild, actions_in}
use Rattle.ws_command.specs.declared.refusal.Refusal.{Refusal}
use Rattle.ws_command.specs.declared.refusal.Refusal.TheVariants.{NoPackage, NotBuilt}
use Rattle.ws_command.specs.Commands.{Command, Nothing, Bad, Create, Write, Remove, Apply, Merge, Settle, Build, Run, Ids, Show, Use, command_of, text_lines, text_of}
use Rattle.ws_command.specs.Refusals.{first_of, refused}
use Rattle.ws_command.specs.RunPrinting.{run_text}
use Rattle.ws_command.specs.IdsPrinting.{ids_text}
use Rattle.ws_command.specs.ShowPrinting.{show_text}
use Rattle.std.specs.FinMap.{entries}
use Rattle.ws_register.proofs.Exists.{some_contents}
use Rattle.ws_command.specs.Lines.{lines_of}
use Rattle.ws_session.specs.World.{World, empty_world, writes_of, actions_held, seeking, using, AreBuilds, after_builds, builds_text, refusals, Accepted, AfterBy, After, Outputs, PrintsBy, Prints, IsBuild, PrintsRun, Listed}
use Rattle.ws_session.specs.Text.{TextFrom, SessionText}
use Rattle.ws_replica.proofs.SomeBuild.{some_build}
use Rattle.ws_session.proofs.Filed.{IsFiled, files_of, filed_after}
use Rattle.ws_session.proofs.IdRows.{some_id_rows}
use Rattle.ws_session.proofs.Programs.{Decided, held_good, program_decided}

-- programs of good packages have a meaning
abbrev ProgramsEnd : Type 0
ProgramsEnd = (packages : List Package) (ticks : ℕ) → AreGoodPackages packages → IsProgram packages → HasMeaning packages ticks

none_later : (world : World) (t : List ℕ × List ℕ) (targets : List (List ℕ × List ℕ)) → AreBuilds world targets None → AreBuilds world (t ∷ targets) None
none_later world t targets (name, directory, c, none) = (name, directory, later t targets (name, directory) c, none)

more_builds : (world : World) (t : List ℕ × List ℕ) (targets : List (List ℕ × List ℕ)) (build : Option TargetBuild) (builds : Option (List TargetBuild))
    → IsBuild t.0 t.1 world build → AreBuilds world targets builds → (all : Option (List TargetBuild)) × AreBuilds world (t ∷ targets) all
more_builds world t targets None builds is rest = (None, (t.0, t.1, at_head targets t (t.0, t.1) refl, is))
more_builds world t targets (Some build) None is rest = (None, none_later world t targets rest)
more_builds world t targets (Some build) (Some builds) is rest = (Some (build ∷ builds), (is, rest))

some_builds : (world : World) (targets : List (List ℕ × List ℕ)) → (builds : Option (List TargetBuild)) × AreBuilds world targets builds
some_builds world [] = (Some [], tt)
some_builds world (t ∷ targets) =
    let b = some_build world.edition (writes_of t.0 world) t.1 in
    let rest = some_builds world targets in
    more_builds world t targets b.0 rest.0 b.1 rest.1

ran_by : ProgramsEnd → (world : World) (filed : IsFiled world) (name directory : List ℕ) (ticks : ℕ) (build : TargetBuild) (is : IsBuild name directory world (Some build))
    → Decided world.edition (writes_of name world) (files_of name world filed) directory (actions_held name world) build is → (told : List ℕ) × PrintsRun name directory ticks world (Some build) told
ran_by ends world filed name directory ticks build is (inl (packages, program)) =
    let good = held_good world.edition (writes_of name world) (files_of name world filed) directory (actions_held name world) build is packages program in
    let means = ends packages ticks good program.program in
    (run_text name directory means.0 means.1, inl (packages, program, means.0, means.1, means.2, refl))
ran_by ends world filed name directory ticks build is (inr no_program) = (refused NotBuilt, inr (no_program, refl))

some_ran : ProgramsEnd → (world : World) → IsFiled world → (name directory : List ℕ) (ticks : ℕ) (build : Option TargetBuild) → IsBuild name directory world build → (told : List ℕ) × PrintsRun name directory ticks world build told
some_ran ends world filed name directory ticks None is = (refused NoPackage, refl)
some_ran ends world filed name directory ticks (Some build) is =
    ran_by ends world filed name directory ticks build is (program_decided world.edition (writes_of name world) (files_of name world filed) directory (actions_held name world) build is)

some_listed : (world : World) (name directory : List ℕ) (build : Option TargetBuild) → IsBuild name directory world build → (told : List ℕ) × Listed name directory world build told
some_listed world name directory None is = (refused NoPackage, refl)
some_listed world name directory (Some build) is =
    let rows = some_id_rows world.edition (writes_of name world) directory (actions_held name world) build is in
    (ids_text name directory rows.0, (rows.0, rows.1, refl))

some_answer : ProgramsEnd → (command : Command) (world : World) → IsFiled world → (told : List ℕ) × Outputs command world told
some_answer ends (Build targets) world filed = let b = some_builds world targets in (builds_text world targets b.0, (b.0, b.1, refl))
some_answer ends (Run name directory ticks) world filed =
    let p = some_build world.edition (writes_of name world) directory in
    let t = some_ran ends world filed name directory ticks p.0 p.1 in
    (t.0, (p.0, p.1, t.1))
some_answer ends (Ids name directory) world filed =
    let p = some_build world.edition (writes_of name world) directory in
    let t = some_listed world name directory p.0 p.1 in
    (t.0, (p.0, p.1, t.1))
some_answer ends Nothing world filed = ([], refl)
some_answer ends Bad world filed = ([], refl)
some_answer ends (Create name) world filed = ([], refl)
some_answer ends (Write name path lines) world filed = ([], refl)
some_answer ends (Remove name path) world filed = ([], refl)
some_answer ends (Apply name path counter number lines) world filed = ([], refl)
some_answer ends (Merge name other) world filed = ([], refl)
some_answer ends Settle world filed = ([], refl)
some_answer ends (Use edition) world filed = ([], refl)
some_answer ends (Show name) world filed =
    let m = some_contents (writes_of name world) in
    (show_text name (entries m.0), (entries m.0, (m.0, m.1, refl), refl))

some_print_by : ProgramsEnd → (refusal : Option Refusal) (command : Command) (world : World) → IsFiled world → (told : List ℕ) × PrintsBy refusal command world told
some_print_by ends None command world filed = some_answer ends command world filed
some_print_by ends (Some refusal) command world filed = (refused refusal, refl)

some_print : ProgramsEnd → (command : Command) (text : Option (List ℕ)) (world : World) → IsFiled world → (told : List ℕ) × Prints command text world told
unfolding Prints
some_print ends command text world filed = some_print_by ends (first_of (refusals command text world)) command world filed

some_accepted : (command : Command) (text : Option (List ℕ)) (world : World) → (next : World) × Accepted command text world next
some_accepted (Build targets) text world = let b = some_builds world targets in (after_builds world targets b.0, (b.0, b.1, refl))
some_accepted (Run name directory ticks) text world =
    let p = some_build world.edition (writes_of name world) directory in
    (seeking world (actions_in world.edition p.0), (p.0, p.1, refl))
some_accepted (Ids name directory) text world =
    let p = some_build world.edition (writes_of name world) directory in
    (seeking world (actions_in world.edition p.0), (p.0, p.1, refl))
some_accepted Nothing text world = (world, refl)
some_accepted Bad text world = (world, refl)
some_accepted (Create name) text world = (_, refl)
some_accepted (Write name path lines) text world = (_, refl)
some_accepted (Remove name path) text world = (_, refl)
some_accepted (Apply name path counter number lines) text world = (_, refl)
some_accepted (Merge name other) text world = (_, refl)
some_accepted Settle text world = (_, refl)
some_accepted (Show name) text world = (world, refl)
some_accepted (Use edition) text world = (using edition world, refl)

some_after_by : (refusal : Option Refusal) (command : Command) (text : Option (List ℕ)) (world : World) → (next : World) × AfterBy refusal command text world next
some_after_by None command text world = some_accepted command text world
some_after_by (Some refusal) command text world = (world, refl)

pub some_after : (command : Command) (text : Option (List ℕ)) (world : World) → (next : World) × After command text world next
unfolding After
some_after command text world = some_after_by (first_of (refusals command text world)) command text world

pub some_text_from : ProgramsEnd → (taken : ℕ) (lines : List (List ℕ)) (world : World) → IsFiled world → (told : List ℕ) × TextFrom taken lines world told
unfolding TextFrom
some_text_from ends taken [] world filed = ([], refl)
some_text_from ends (suc taken) (line ∷ lines) world filed = some_text_from ends taken lines world filed
some_text_from ends zero (line ∷ lines) world filed =
    let command = command_of line in
    let text = text_of (text_lines command) lines in
    let now = some_print ends command text world filed in
    let next = some_after command text world in
    let later = some_text_from ends (text_lines command) lines next.0 (filed_after command text world next.0 next.1 filed) in
    (now.0 ++ later.0, (now.0, later.0, next.0, now.1, next.1, later.1, refl))

pub some_session_text : ProgramsEnd → (edition : Edition) (script : List ℕ) → (text : List ℕ) × SessionText edition script text
some_session_text ends edition script = some_text_from ends 0 (lines_of script) (empty_world edition) tt
