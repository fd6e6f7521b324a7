-- Worlds in which a command reads the same give it one answer.
use Rattle.std.proofs.Common.{◌≡◌, ◌⊎◌, ℕ, Bool, true, false, ◌||◌, List, [], ◌∷◌, ◌++◌, map, Option, None, Some, suc, refl, sym, ap, ◌∙◌, subst, inl, inr}
use Rattle.std.specs.Prelude.{if◌then◌else◌, zip}
use Rattle.std.specs.FinMap.{entries}
use Rattle.std.specs.List.{All, AllZip, Contains, flat_map, list_any}
use Rattle.std.specs.Str.{bytes_eq}
use Rattle.std.proofs.lemmas.List.Elements.{All-contains, All-head, All-tail, Contains-append_left, Contains-append_right, Contains-append_cases}
use Rattle.go_text.specs.declared.edition.Edition.{Edition}
use Rattle.go_typed.specs.Trees.{Package}
use Rattle.ws_action.specs.Actions.{Action, action_id}
use Rattle.ws_action.proofs.Members.{none_in_empty, head_or_later, later, at_head}
use Rattle.ws_cache.specs.Count.{count_new, compiled_count}
use Rattle.ws_command.specs.Commands.{Command, Nothing, Bad, Create, Write, Remove, Apply, Merge, Settle, Build, Run, Ids, Show, Use}
use Rattle.ws_graph.specs.BuildPlan.{Directory}
use Rattle.ws_map.specs.Kept.{SameMembers}
use Rattle.ws_register.specs.Edits.{Contents}
use Rattle.ws_register.specs.Sources.{AreGreatestWrites}
use Rattle.ws_register.proofs.Exists.{some_contents}
use Rattle.ws_register.proofs.Laws.{one_contents}
use Rattle.ws_replica.specs.Ids.{IsIdStatus, IsHeldGood, IsIdRow, AreIdRows}
use Rattle.ws_replica.specs.Programs.{IsHeldProgram}
use Rattle.ws_replica.specs.Reports.{DirectoryOutcome, TargetBuild, IsTargetBuild, action_in, all_actions}
use Rattle.ws_replica.proofs.OneBuild.{one_build}
use Rattle.ws_replica.proofs.SomeBuild.{some_build}
use Rattle.ws_report.specs.declared.IdStatus.{IdStatus}
use Rattle.ws_report.specs.declared.IdStatus.TheVariants.{NoId, Absent, Held}
use Rattle.ws_version.specs.Writes.{Write as AWrite}
use Rattle.ws_session.specs.SameAnswers.{TookTheSame, ReadsTheSame}
use Rattle.ws_session.specs.World.{World, writes_of, actions_held, held_by, AreBuilds, builds_text, target_report, IsBuild, PrintsRun, Listed, Outputs}
use Rattle.ws_session.proofs.OneText.{one_answer}

-- ---- members

append_into : (A B C D : List Action) → ((a : Action) → Contains A a → Contains B a) → ((a : Action) → Contains C a → Contains D a) → (a : Action) → Contains (A ++ C) a → Contains (B ++ D) a
append_into A B C D first second a c = elim (Contains-append_cases A C a c) [
  | inl l ↦ Contains-append_left B D a (first a l)
  | inr r ↦ Contains-append_right B D a (second a r)
]

append_same : (A B C D : List Action) → SameMembers A B → SameMembers C D → SameMembers (A ++ C) (B ++ D)
append_same A B C D first second a = (
  append_into A B C D (λ x. (first x).0) (λ x. (second x).0) a,
  append_into B A D C (λ x. (first x).1) (λ x. (second x).1) a,
)

-- ---- counts

first_or_rest : (b c : Bool) → (b || c) ≡ true → (b ≡ true) ⊎ (c ≡ true)
first_or_rest true c e = inl refl
first_or_rest false c e = inr e

or_first : (b c : Bool) → b ≡ true → (b || c) ≡ true
or_first true c e = refl
or_first false c e = cc (e)

or_rest : (b c : Bool) → c ≡ true → (b || c) ≡ true
or_rest true c e = refl
or_rest false c e = e

both_ways : (b c : Bool) → (b ≡ true → c ≡ true) → (c ≡ true → b ≡ true) → b ≡ c
both_ways true c to back = sym (to refl)
both_ways false true to back = back refl
both_ways false false to back = refl

abbrev has_id : List Action → List ℕ → Bool
has_id E id = list_any (bytes_eq id) (map action_id E)

owner_of : (id : List ℕ) (E : List Action) → has_id E id ≡ true → (a : Action) × Contains E a × (bytes_eq id (action_id a) ≡ true)
owner_of id [] e = cc (e)
owner_of id (a ∷ E) e = elim (first_or_rest (bytes_eq id (action_id a)) (has_id E id) e) [
  | inl is ↦ (a, at_head E a a refl, is)
  | inr rest ↦ (let its = owner_of id E rest in (its.0, later a E its.0 its.1, its.2))
]

owned_by : (id : List ℕ) (E : List Action) (a : Action) → Contains E a → bytes_eq id (action_id a) ≡ true → has_id E id ≡ true
owned_by id [] a c is = absurd (none_in_empty a c)
owned_by id (b ∷ E) a c is = elim (head_or_later b E a c) [
  | inl same ↦ or_first (bytes_eq id (action_id b)) (has_id E id) (ap (λ x. bytes_eq id (action_id x)) same ∙ is)
  | inr rest ↦ or_rest (bytes_eq id (action_id b)) (has_id E id) (owned_by id E a rest is)
]

id_moves : (E F : List Action) → ((a : Action) → Contains E a → Contains F a) → (id : List ℕ) → has_id E id ≡ true → has_id F id ≡ true
id_moves E F to id e = (let its = owner_of id E e in owned_by id F its.0 (to its.0 its.1) its.2)

same_ids : (E F : List Action) → SameMembers E F → (id : List ℕ) → has_id E id ≡ has_id F id
same_ids E F same id = both_ways (has_id E id) (has_id F id) (id_moves E F (λ a. (same a).0) id) (id_moves F E (λ a. (same a).1) id)

same_new : (s t xs : List (List ℕ)) → ((x : List ℕ) → list_any (bytes_eq x) s ≡ list_any (bytes_eq x) t) → count_new bytes_eq s xs ≡ count_new bytes_eq t xs
same_new s t [] same = refl
same_new s t (x ∷ xs) same =
    ap (λ b. if b then count_new bytes_eq s xs else suc (count_new bytes_eq (x ∷ s) xs)) (same x)
    ∙ ap (λ n. if list_any (bytes_eq x) t then n else suc (count_new bytes_eq (x ∷ s) xs)) (same_new s t xs same)
    ∙ ap (λ n. if list_any (bytes_eq x) t then count_new bytes_eq t xs else suc n) (same_new (x ∷ s) (x ∷ t) xs (λ y. ap (λ b. bytes_eq y x || b) (same y)))

same_count : (E F actions : List Action) → SameMembers E F → compiled_count E actions ≡ compiled_count F actions
same_count E F actions same = same_new (map action_id E) (map action_id F) (map action_id actions) (same_ids E F same)

-- ---- rows of ids

module _ (E F : List Action) (same : SameMembers E F) where
  standing_moves : (I : Type 0) (o : Option Action) (x : IdStatus) → IsIdStatus E I o x → IsIdStatus F I o x
  standing_moves I None x g = g
  standing_moves I (Some a) NoId g = g
  standing_moves I (Some a) (Absent id) g = (g.0, (λ c. g.1 ((same a).1 c)), g.2)
  standing_moves I (Some a) (Held id) g = (g.0, (same a).0 g.1, g.2)

  module _ (edition : Edition) (build : TargetBuild) (all : List (List ℕ × IdStatus)) where
    row_moves : (p : Directory × DirectoryOutcome) (row : List ℕ × IdStatus) → IsIdRow edition E build all p row → IsIdRow edition F build all p row
    row_moves (d, fate) (path, standing) g = (g.0, standing_moves (All (IsHeldGood build all) d.imports) (action_in edition build.fates d fate) standing g.1)

    rows_move : (pairs : List (Directory × DirectoryOutcome)) (rows : List (List ℕ × IdStatus)) → AllZip (IsIdRow edition E build all) pairs rows → AllZip (IsIdRow edition F build all) pairs rows
    rows_move [] [] h = tt
    rows_move [] (r ∷ rows) h = absurd h
    rows_move (p ∷ pairs) [] h = absurd h
    rows_move (p ∷ pairs) (r ∷ rows) h = (row_moves p r h.0, rows_move pairs rows h.1)

-- ---- programs

program_moves : (edition : Edition) (E F : List Action) (build : TargetBuild) (packages : List Package) → ((a : Action) → Contains E a → Contains F a) → IsHeldProgram edition E build packages → IsHeldProgram edition F build packages
program_moves edition E F build packages to h = record { good = h.good; compiled = λ k d lt. to _ (h.compiled k d lt); in_order = h.in_order; program = h.program }

-- ---- what is answered in one world is answered in the other

module _ (v w : World) (edition : w.edition ≡ v.edition) where
  abbrev Same : List ℕ → Type 0
  Same name = TookTheSame name w v

  held_same : (targets : List (List ℕ × List ℕ)) → All (λ t. Same t.0) targets → SameMembers (held_by w targets) (held_by v targets)
  held_same [] h = λ a. ((λ c. c), (λ c. c))
  held_same (t ∷ targets) h =
      append_same (actions_held t.0 w) (actions_held t.0 v) (held_by w targets) (held_by v targets)
      (All-head (λ (t : List ℕ × List ℕ). Same t.0) t targets h).results (held_same targets (All-tail (λ (t : List ℕ × List ℕ). Same t.0) t targets h))

  build_moves : (name directory : List ℕ) (build : Option TargetBuild) → Same name → IsBuild name directory w build → IsBuild name directory v build
  build_moves name directory build same is =
      let own = some_build v.edition (writes_of name v) directory in
      let there : IsTargetBuild v.edition (writes_of name w) directory build = subst (λ e. IsTargetBuild e (writes_of name w) directory build) edition is in
      subst (λ o. IsTargetBuild v.edition (writes_of name v) directory o)
      (sym (one_build v.edition (writes_of name w) (writes_of name v) directory build own.0 same.writes there own.1)) own.1

  each_moves : (targets : List (List ℕ × List ℕ)) (builds : List TargetBuild) → All (λ t. Same t.0) targets → AreBuilds w targets (Some builds) → AreBuilds v targets (Some builds)
  each_moves [] [] h are = tt
  each_moves [] (b ∷ builds) h are = absurd are
  each_moves (t ∷ targets) [] h are = absurd are
  each_moves (t ∷ targets) (b ∷ builds) h are = (
    build_moves t.0 t.1 (Some b) (All-head (λ (t : List ℕ × List ℕ). Same t.0) t targets h) are.0,
    each_moves targets builds (All-tail (λ (t : List ℕ × List ℕ). Same t.0) t targets h) are.1,
  )

  builds_move : (targets : List (List ℕ × List ℕ)) (builds : Option (List TargetBuild)) → All (λ t. Same t.0) targets → AreBuilds w targets builds → AreBuilds v targets builds
  builds_move targets None h (name, directory, c, none) =
      (name, directory, c, build_moves name directory None (All-contains (λ (t : List ℕ × List ℕ). Same t.0) targets (name, directory) h c) none)
  builds_move targets (Some builds) h are = each_moves targets builds h are

  text_moves : (targets : List (List ℕ × List ℕ)) (builds : Option (List TargetBuild)) → All (λ t. Same t.0) targets → builds_text w targets builds ≡ builds_text v targets builds
  text_moves targets None h = refl
  text_moves targets (Some builds) h =
      let count : compiled_count (held_by w targets) (all_actions w.edition builds) ≡ compiled_count (held_by v targets) (all_actions v.edition builds) =
      same_count (held_by w targets) (held_by v targets) (all_actions w.edition builds) (held_same targets h) ∙ ap (λ e. compiled_count (held_by v targets) (all_actions e builds)) edition in
      ap (λ n. flat_map (target_report n) (zip targets builds)) count

  ran_moves : (name directory : List ℕ) (ticks : ℕ) (build : Option TargetBuild) (told : List ℕ) → Same name → PrintsRun name directory ticks w build told → PrintsRun name directory ticks v build told
  ran_moves name directory ticks None told same g = g
  ran_moves name directory ticks (Some build) told same (inl (packages, program, ending, output, meaning, is)) =
      let there = subst (λ e. IsHeldProgram e (actions_held name w) build packages) edition program in
      inl (packages, program_moves v.edition (actions_held name w) (actions_held name v) build packages (λ a. (same.results a).0) there, ending, output, meaning, is)
  ran_moves name directory ticks (Some build) told same (inr (none, is)) =
      inr (
        (λ packages program.
            let back = program_moves v.edition (actions_held name v) (actions_held name w) build packages (λ a. (same.results a).1) program in
            none packages (subst (λ e. IsHeldProgram e (actions_held name w) build packages) (sym edition) back)),
        is,
      )

  listed_moves : (name directory : List ℕ) (build : Option TargetBuild) (told : List ℕ) → Same name → Listed name directory w build told → Listed name directory v build told
  listed_moves name directory None told same g = g
  listed_moves name directory (Some build) told same (rows, are, is) =
      let there : AreIdRows v.edition (actions_held name w) build rows = subst (λ e. AreIdRows e (actions_held name w) build rows) edition are in
      (rows, rows_move (actions_held name w) (actions_held name v) same.results v.edition build rows (zip build.directories build.fates) rows there, is)

  shown_moves : (name : List ℕ) (shown : List AWrite) → Same name → AreGreatestWrites (writes_of name w) shown → AreGreatestWrites (writes_of name v) shown
  shown_moves name shown same (m, stands, is) =
      let own = some_contents (writes_of name v) in
      let one : m ≡ own.0 = one_contents m own.0 (writes_of name w) (writes_of name v) same.writes stands own.1 in
      (own.0, own.1, is ∙ ap (λ (c : Contents). entries c) one)

  answer_moves : (command : Command) (told : List ℕ) → ReadsTheSame command w v → Outputs command w told → Outputs command v told
  answer_moves (Build targets) told same (builds, are, is) = (builds, builds_move targets builds same are, is ∙ text_moves targets builds same)
  answer_moves (Run name directory ticks) told same (build, of, ran) = (build, build_moves name directory build same of, ran_moves name directory ticks build told same ran)
  answer_moves (Ids name directory) told same (build, of, listed) = (build, build_moves name directory build same of, listed_moves name directory build told same listed)
  answer_moves (Show name) told same (shown, of, is) = (shown, shown_moves name shown same of, is)
  answer_moves Nothing told same is = is
  answer_moves Bad told same is = is
  answer_moves (Create name) told same is = is
  answer_moves (Write name path lines) told same is = is
  answer_moves (Remove name path) told same is = is
  answer_moves (Apply name path counter number lines) told same is = is
  answer_moves (Merge name other) told same is = is
  answer_moves Settle told same is = is
  answer_moves (Use edition) told same is = is

pub same_answer : (command : Command) (v w : World) (a b : List ℕ) → v.edition ≡ w.edition → ReadsTheSame command v w → Outputs command v a → Outputs command w b → a ≡ b
same_answer command v w a b edition same g h = one_answer command w a b (answer_moves w v edition command a same g) h
