-- A linked program does what its sources mean, where the machine follows functions' bodies.
use Rattle.std.proofs.Common.{◌≡◌, ℕ, zero, suc, ◌≤◌, Bool, true, false, List, [], ◌∷◌, map, Option, Some, None, refl, sym, ap, ◌∙◌, subst, arith}
use Rattle.std.specs.Prelude.{slice_get, if◌then◌else◌, ⊤}
use Rattle.std.specs.List.{list_all}
use Rattle.go_text.specs.Editions.{most_open}
use Rattle.go_types.specs.Types.{Type'}
use Rattle.go_code.specs.declared.ending.Ending.{Ending}
use Rattle.go_code.specs.declared.ending.Ending.TheVariants.{Ended}
use Rattle.go_code.specs.declared.image.Start.{Start}
use Rattle.go_code.specs.declared.image.Start.TheVariants.{Function as Run}
use Rattle.go_code.specs.Finals.{Final, Ends as Ends_with, BadCode}
use Rattle.go_code.specs.Images.{Image}
use Rattle.go_code.specs.Lines.{cell_fits}
use Rattle.go_code.specs.Machine.{State, Goes, Stops, Leads, LeadsFrom, MachineMeaning, opened, started}
use Rattle.go_code.specs.Rows.{first_rows}
use Rattle.go_code.proofs.Follows.{start_leads, start_cut, ended_leads}
use Rattle.go_code.proofs.Steps.{meaning_once}
use Rattle.go_link.specs.Links.{linked}
use Rattle.go_typed.specs.Trees.{Symbol, Function, Initialization, Package}
use Rattle.go_meaning.specs.Values.{Value, are_of}
use Rattle.go_meaning.specs.Meaning.{Stored, ProgramState, Outcome, Gives, Ends, Stuck, and_then, with_tick, exec_all}
use Rattle.go_meaning.specs.Programs.{results_of, enter_function, first_locals, function_by_symbol, call_at, program_edition, last_package, IsProgram, StartStep, sets, calls, start_steps, start_step, run_steps, first_world, IsOver, run_program, SourceMeaning}
use Rattle.go_gen.specs.Translation.{total, translated}
use Rattle.go_translation_laws.proofs.Runs.{Onward, onward_then, onward_map, Sized, held, global_at}
use Rattle.go_translation_laws.proofs.Images.{objects_of, start_of, Starts, slot_in, linked_number, links_starts}
use Rattle.go_translation_laws.proofs.FirstVariables.{variables_known, variables_sized, variables_lie}
use Rattle.go_translation_laws.proofs.RowLemmas.{rows as held_rows}

-- ---- start steps

-- between two start steps
abbrev pub between : List Start → ProgramState → State
between starts w = record { frames = []; starts = starts; globals = held w.variables; rows = held_rows w.arrays; ticks = w.ticks; output = w.output }

-- the package variables lie where these places say
abbrev pub Lies : (Symbol → ℕ) → ProgramState → Type 0
Lies globals w = Sized w.variables × ((s : Symbol) → globals s ≡ global_at w.variables s)

-- the machine follows the body of a function that was called as a start step, where so many more calls may be open
abbrev pub BodiesLead : Image → Final → List Package → (Symbol → ℕ) → (Symbol → ℕ) → ℕ → Type 0
BodiesLead image final packages globals numbers n =
    (starts : List Start) (f : Function) (t : ℕ) (w : ProgramState) → are_of f.parameters [] ≡ true → w.ticks ≤ t → Lies globals w →
    Onward final (λ rs w1. Lies globals w1 → w1.ticks ≤ t → Leads image (between starts w1) final) (and_then (exec_all (call_at packages n) f.body (first_locals f []) w) results_of) →
    Leads image (record {
      frames = opened 1 (translated globals numbers f).code (translated globals numbers f).cells [] ∷ [];
      starts = starts;
      globals = held w.variables;
      rows = held_rows w.arrays;
      ticks = w.ticks;
      output = w.output;
    }) final

-- the machine follows a start step that sets package variables, whose calls are the first open ones
abbrev pub SetupsLead : Image → Final → List Package → (Symbol → ℕ) → (Symbol → ℕ) → ℕ → Type 0
SetupsLead image final packages globals numbers n =
    (starts : List Start) (path : List ℕ) (i : Initialization) (t : ℕ) (w : ProgramState) → Lies globals w → w.ticks ≤ t →
    Onward final (λ done w1. Lies globals w1 → w1.ticks ≤ t → Leads image (between starts w1) final) (start_step (call_at packages (suc n)) (sets path i) w) →
    Leads image (between (start_of globals numbers (sets path i) ∷ starts) w) final

no_cells : (ts : List Type') → are_of ts [] ≡ true → total ts ≡ 0
no_cells [] e = refl
no_cells (t ∷ ts) e = cc

module _ (image : Image) (final : Final) (packages : List Package) (globals numbers : Symbol → ℕ) (found : (s : Symbol) (f : Function) → function_by_symbol packages s ≡ Some f → slice_get image.functions (numbers s) ≡ Some (translated globals numbers f)) (n : ℕ) (bodies : BodiesLead image final packages globals numbers n) (setups : SetupsLead image final packages globals numbers n) where
  abbrev runs_body : Function → ProgramState → Outcome (List Value)
  runs_body f w = and_then (exec_all (call_at packages n) f.body (first_locals f []) w) results_of

  -- what a start step leads to is followed in these worlds
  abbrev Followed : ℕ → List Start → (ProgramState → Type 0) → Type 0
  Followed t starts goes_on = (w : ProgramState) → goes_on w → Lies globals w → w.ticks ≤ t → Leads image (between starts w) final

  -- a called function that is there, with ticks left or without
  ticked : (t : ℕ) (starts : List Start) (goes_on : ProgramState → Type 0) → Followed t starts goes_on → (s : Symbol) (f : Function) → function_by_symbol packages s ≡ Some f → are_of f.parameters [] ≡ true → (ticks : ℕ) (variables : List Stored) (arrays : List (List Value)) (output : List ℕ) → ticks ≤ t → Lies globals (record { ticks = ticks; variables = variables; arrays = arrays; output = output }) → Onward final (λ results. goes_on) (with_tick (record { ticks = ticks; variables = variables; arrays = arrays; output = output }) (runs_body f)) → Leads image (between (Run (numbers s) ∷ starts) (record { ticks = ticks; variables = variables; arrays = arrays; output = output })) final
  ticked t starts goes_on rest s f is typed zero variables arrays output few lies h =
      let state = between (Run (numbers s) ∷ starts) (record { ticks = zero; variables = variables; arrays = arrays; output = output }) in
      subst (Leads image state) (sym h) (start_cut image state (numbers s) (translated globals numbers f) starts refl refl (found s f is) (no_cells f.parameters typed) refl)
  ticked t starts goes_on rest s f is typed (suc left) variables arrays output few lies h =
      let w : ProgramState = record { ticks = left; variables = variables; arrays = arrays; output = output } in
      start_leads image (between (Run (numbers s) ∷ starts) (record { ticks = suc left; variables = variables; arrays = arrays; output = output })) (numbers s) (translated globals numbers f) starts left final refl refl (found s f is) (no_cells f.parameters typed) refl
      (bodies starts f t w typed (omega (arith, few)) lies
      (onward_map final (λ results. goes_on) _ (runs_body f w) (λ rs w1 g. rest w1 g) h))

  -- a call by symbol
  called : (t : ℕ) (starts : List Start) (goes_on : ProgramState → Type 0) → Followed t starts goes_on → (s : Symbol) (o : Option Function) → function_by_symbol packages s ≡ o → (w : ProgramState) → w.ticks ≤ t → Lies globals w → Onward final (λ results. goes_on) (enter_function o [] w runs_body) → Leads image (between (Run (numbers s) ∷ starts) w) final
  called t starts goes_on rest s None is w few lies h = absurd h
  called t starts goes_on rest s (Some f) is w few lies h = by_test (are_of f.parameters []) refl h
    where
      by_test : (b : Bool) → are_of f.parameters [] ≡ b → Onward final (λ results. goes_on) (if b then with_tick w (runs_body f) else Stuck) → Leads image (between (Run (numbers s) ∷ starts) w) final
      by_test true e h = ticked t starts goes_on rest s f is e w.ticks w.variables w.arrays w.output few lies h
      by_test false e h = absurd h

  steps_run : (t : ℕ) (steps : List StartStep) (w : ProgramState) → Onward final (λ done w1. final ≡ Ends_with Ended w1.output) (run_steps (call_at packages (suc n)) steps w) → Lies globals w → w.ticks ≤ t → Leads image (between (map (start_of globals numbers) steps) w) final
  steps_run t [] w h lies few = subst (Leads image (between [] w)) (sym h) (ended_leads image (between [] w) refl refl)
  steps_run t (sets path i ∷ steps) w h lies few =
      setups (map (start_of globals numbers) steps) path i t w lies few
      (onward_map final _ _ (start_step (call_at packages (suc n)) (sets path i) w) (λ done w1 more lies1 few1. steps_run t steps w1 more lies1 few1)
      (onward_then final _ (start_step (call_at packages (suc n)) (sets path i) w) _ h))
  steps_run t (calls s ∷ steps) w h lies few =
      let goes_on : ProgramState → Type 0 = λ w1. Onward final (λ done w2. final ≡ Ends_with Ended w2.output) (run_steps (call_at packages (suc n)) steps w1) in
      called t (map (start_of globals numbers) steps) goes_on (steps_run t steps) s (function_by_symbol packages s) refl w few lies
      (onward_then final (λ done. goes_on) (call_at packages (suc n) s [] w) (λ results w1. Gives tt w1)
      (onward_then final _ (start_step (call_at packages (suc n)) (calls s) w) _ h))

-- ---- whole programs

over_onward : (o : Outcome ⊤) (ending : Ending) (output : List ℕ) → IsOver o ending output → Onward (Ends_with ending output) (λ done w. Ends_with ending output ≡ Ends_with Ended w.output) o
over_onward (Gives done w) ending output h = ap (λ e. Ends_with e output) h.0 ∙ ap (Ends_with Ended) h.1
over_onward (Ends e o) ending output h = ap (λ x. Ends_with x output) h.0 ∙ ap (Ends_with e) h.1
over_onward Stuck ending output h = absurd h

-- an image whose zero cells are known begins with its first start step
begins : (image : Image) (ticks : ℕ) (final : Final) → list_all cell_fits image.globals ≡ true → Leads image (started image ticks) final → MachineMeaning image ticks final
begins image ticks final known l = subst (λ b. LeadsFrom image (if b then Goes (started image ticks) else Stops BadCode) final) (sym known) l

-- what packages mean their image does; as many calls may be open in the source as in the machine, and one is the start step's
module _ (packages : List Package) (image : Image) (n : ℕ) (bound : most_open (program_edition (last_package packages)) ≡ suc n) (bodies : (final : Final) → BodiesLead image final packages (slot_in packages) (linked_number packages) n)
    (setups : (final : Final) → SetupsLead image final packages (slot_in packages) (linked_number packages) n) where
  starts_follow : (ticks : ℕ) (ending : Ending) (output : List ℕ) → Starts packages image (slot_in packages) (linked_number packages) → IsOver (run_program packages ticks) ending output → MachineMeaning image ticks (Ends_with ending output)
  starts_follow ticks ending output s h =
      let final : Final = Ends_with ending output in
      let w : ProgramState = first_world packages ticks in
      let meant : IsOver (run_steps (call_at packages (suc n)) (start_steps packages) w) ending output = subst (λ k. IsOver (run_steps (call_at packages k) (start_steps packages) w) ending output) bound h in
      begins image ticks final (ap (list_all cell_fits) s.globals_held ∙ variables_known packages)
      (subst (λ globals. Leads image (record { frames = []; starts = image.starts; globals = globals; rows = first_rows; ticks = ticks; output = [] }) final) (sym s.globals_held)
      (subst (λ starts. Leads image (between starts w) final) (sym s.starts)
      (steps_run image final packages (slot_in packages) (linked_number packages) s.found n (bodies final) (setups final) ticks (start_steps packages) w
      (over_onward (run_steps (call_at packages (suc n)) (start_steps packages) w) ending output meant)
      (variables_sized packages, variables_lie packages) (omega arith))))

  pub program_follows : (ticks : ℕ) (ending : Ending) (output : List ℕ) → image ≡ linked (objects_of packages) → SourceMeaning packages ticks ending output → MachineMeaning image ticks (Ends_with ending output)
  program_follows ticks ending output l h = starts_follow ticks ending output (links_starts packages image l) h.1

  -- ---- and nothing else, where the sources' meaning isn't stuck

  final_same : (a b : Ending) (s t : List ℕ) → Ends_with a s ≡ Ends_with b t → (a ≡ b) × (s ≡ t)
  final_same a b s t e = (cc, cc)

  record Over (o : Outcome ⊤) : Type 0 where
    ending : Ending
    output : List ℕ
    is : IsOver o ending output

  over_some : (o : Outcome ⊤) → (o ≡ Stuck → ⊥) → Over o
  over_some (Gives done w) h = record { ending = Ended; output = w.output; is = (refl, refl) }
  over_some (Ends e out) h = record { ending = e; output = out; is = (refl, refl) }
  over_some Stuck h = absurd (h refl)

  pub source_follows : (ticks : ℕ) (ending : Ending) (output : List ℕ) → image ≡ linked (objects_of packages) → IsProgram packages → (run_program packages ticks ≡ Stuck → ⊥) → MachineMeaning image ticks (Ends_with ending output) → SourceMeaning packages ticks ending output
  source_follows ticks ending output l is goes h =
      let o : Outcome ⊤ = run_program packages ticks in
      let over = over_some o goes in
      let same = final_same over.ending ending over.output output (meaning_once image ticks _ _ (program_follows ticks over.ending over.output l (is, over.is)) h) in
      (is, subst (λ e. IsOver o e output) same.0 (subst (IsOver o over.ending) same.1 over.is))

  -- its code makes sense there
  pub makes_sense : (ticks : ℕ) → image ≡ linked (objects_of packages) → IsProgram packages → (run_program packages ticks ≡ Stuck → ⊥) → MachineMeaning image ticks BadCode → ⊥
  makes_sense ticks l is goes h =
      let over = over_some (run_program packages ticks) goes in
      let same : Ends_with over.ending over.output ≡ BadCode = meaning_once image ticks _ _ (program_follows ticks over.ending over.output l (is, over.is)) h in
      cc
