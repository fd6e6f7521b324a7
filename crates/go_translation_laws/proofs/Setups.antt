-- The machine follows start steps that set package variables: a source's values come on the stack, and go into the variables, the last first.
use Rattle.std.proofs.Common.{◌≡◌, ℕ, ◌+◌, ◌-◌, ◌≤◌, Bool, true, false, List, [], ◌∷◌, ◌++◌, length, replicate, Option, Some, None, refl, sym, ap, ◌∙◌, cond, subst, arith, append_assoc, append-nil}
use Rattle.std.specs.Prelude.{if◌then◌else◌, slice_get, slice_index, ⊤}
use Rattle.std.specs.List.{find, flat_map}
use Rattle.std.specs.Option.{option_map, option_and_then}
use Rattle.go_text.specs.Editions.{most_open}
use Rattle.go_code.specs.declared.cell.Cell.{Cell}
use Rattle.go_code.specs.declared.image.Start.{Start}
use Rattle.go_code.specs.declared.image.Start.TheVariants.{Setup as Set_up}
use Rattle.go_code.specs.declared.instr.AccessInstr.TheVariants.{Store}
use Rattle.go_code.specs.declared.instr.Instr.{Instr}
use Rattle.go_code.specs.declared.instr.Instr.TheVariants.{Global as On_globals, Calls as By_call}
use Rattle.go_code.specs.declared.instr.CallInstr.TheVariants.{Return}
use Rattle.go_code.specs.Accesses.{cells_with, stored}
use Rattle.go_code.specs.Referred.{Changes, refer, refer_setup}
use Rattle.go_code.specs.Finals.{Final}
use Rattle.go_code.specs.Images.{Image}
use Rattle.go_code.specs.Machine.{Frame, State, Leads, opened}
use Rattle.go_code.proofs.Follows.{split_row, setup_leads}
use Rattle.go_code.proofs.FollowsInside.{global_leads}
use Rattle.go_code.proofs.Stands.{stands_next, stands_whole}
use Rattle.go_typed.specs.Trees.{Symbol, ValueSource, Function, Initialization, Package}
use Rattle.go_meaning.specs.Values.{Value, flat, is_of}
use Rattle.go_symbol.specs.Symbols.{same_symbol}
use Rattle.go_meaning.specs.Meaning.{Stored, ProgramState, Outcome, Gives, Calls, and_then, if_known, with_global, all_put, source}
use Rattle.go_meaning.specs.Programs.{function_by_symbol, call_at}
use Rattle.go_gen.specs.Translation.{Places, slots, source_counts, source_temps, source_code, set_code, sets_code, setup_code, no_locals, translated, translated_setup}
use Rattle.go_translation_laws.proofs.Frames.{write_row}
use Rattle.go_translation_laws.proofs.Runs.{Onward, onward_map, onward_then, here, Sits, held, On, on_as, on_stack}
use Rattle.go_translation_laws.proofs.Exprs.{lengths}
use Rattle.go_translation_laws.proofs.Variables.{global_put}
use Rattle.go_translation_laws.proofs.Defines.{pops}
use Rattle.go_translation_laws.proofs.Expressions.{AllCalled, source_runs}
use Rattle.go_translation_laws.proofs.Referred.{referred, joins, Refers, source_referred}
use Rattle.go_translation_laws.proofs.Sources.{gives_back}
use Rattle.go_translation_laws.proofs.Calls.{nought, replicate_long, BodiesRun, Lies, called_within}
use Rattle.go_translation_laws.proofs.RowLemmas.{rows as held_rows}

-- the meaning: the last first, for the variables of the package at a path
abbrev pub all_set : List ℕ → List (Option (List ℕ)) → List Value → List Stored → Option (List Stored)
all_set path = all_put (λ variables x. with_global variables (record { path = path; name = x }))

-- a variable that can be given a value has one
record Had (variables : List Stored) (s : Symbol) : Type 0 where
  value : Value
  is : option_map (λ x. x.value) (find (λ x. same_symbol s x.symbol) variables) ≡ Some value

had : (variables : List Stored) (s : Symbol) (v : Value) (changed : List Stored) → with_global variables s v ≡ Some changed → Had variables s
had [] s v changed e = absurd (cc)
had (x ∷ xs) s v changed e = by_symbol (λ ys. had xs s v ys) (same_symbol s x.symbol) refl e
  where
    by_rest : (o : Option (List Stored)) → with_global xs s v ≡ o → ((ys : List Stored) → with_global xs s v ≡ Some ys → Had xs s) → same_symbol s x.symbol ≡ false → option_map (λ ys. x ∷ ys) o ≡ Some changed → Had (x ∷ xs) s
    by_rest None is others other e = absurd (cc)
    by_rest (Some ys) is others other e =
        let h = others ys is in
        record { value = h.value; is = ap (λ b. option_map (λ (y : Stored). y.value) (cond b (Some x) (find (λ (y : Stored). same_symbol s y.symbol) xs))) other ∙ h.is }

    by_symbol : ((ys : List Stored) → with_global xs s v ≡ Some ys → Had xs s) → (b : Bool) → same_symbol s x.symbol ≡ b → (if b then (if is_of x.of v then Some (record x { value = v } ∷ xs) else None) else option_map (λ ys. x ∷ ys) (with_global xs s v)) ≡ Some changed → Had (x ∷ xs) s
    by_symbol others true is e = record { value = x.value; is = ap (λ b. option_map (λ (y : Stored). y.value) (cond b (Some x) (find (λ (y : Stored). same_symbol s y.symbol) xs))) is }
    by_symbol others false is e = by_rest (with_global xs s v) refl others is e

module _ (image : Image) (final : Final) (depth : ℕ) (code : List (Instr ℕ)) (callers : List Frame) (starts : List Start) (p : Places ℕ) where
  abbrev Onto : ℕ → List (Instr ℕ) → List Cell → ℕ → List Cell → ProgramState → Type 0
  Onto t k front m stack w = On image final depth code callers starts p t k front m stack w

  -- a value goes from the stack into a package variable
  pub global_stores : (t : ℕ) (s : Symbol) (v : Value) (changed : List Stored) (k : List (Instr ℕ)) (front : List Cell) (m : ℕ) (stack : List Cell) (w : ProgramState) → with_global w.variables s v ≡ Some changed → Onto t k front m stack (record w { variables = changed }) → Onto t (On_globals (Store (p.globals s) (length (flat v))) ∷ k) front m (stack ++ flat v) w
  global_stores t s v changed k front m stack w e on known few place high size st =
      let h = had w.variables s v changed e in
      let g = global_put w.variables s h.value v changed known.0 h.is e in
      let first : ℕ = p.globals s in
      let at : length g.before ≡ first = g.place ∙ sym (known.1 s) in
      let write : cells_with (held w.variables) first (flat v) ≡ Some (held changed) =
      ap (λ l. cells_with l first (flat v)) g.was ∙ write_row g.before (flat h.value) (flat v) g.after first at g.long ∙ ap Some (sym g.is) in
      global_leads image (here image final depth code callers starts p place (front ++ high) (stack ++ flat v) w) _ callers (Store first (length (flat v))) (record { cells = held changed; stack = stack }) final (record { frames = refl; rest = k; stands = st })
      (ap (stored (held w.variables) first) (split_row stack (flat v) (length (flat v)) refl) ∙ ap (option_map (λ r. record { cells = r; stack = stack })) write)
      (on (g.sized, λ r. known.1 r ∙ sym (g.same r)) few (place + 1) high size (stands_next code place _ k st))

  -- what goes on with the package variables changed
  abbrev Goes : ℕ → List (Instr ℕ) → List Cell → ℕ → List Cell → List Stored → ProgramState → Type 0
  Goes t k front m stack variables w = Onto t k front m stack (record w { variables = variables })

  -- one of them, where those behind it have their values
  set_follows : (path : List ℕ) (t : ℕ) (s : Option (List ℕ)) (ss : List (Option (List ℕ))) (v : Value) (vs : List Value) (k : List (Instr ℕ)) (front : List Cell) (m : ℕ) (stack : List Cell) (w : ProgramState) → Onward final (Goes t k front m stack) (if_known (all_set path (s ∷ ss) (v ∷ vs) w.variables) w) → Onward final (Goes t (set_code p path s (length (flat v)) ∷ k) front m (stack ++ flat v)) (if_known (all_set path ss vs w.variables) w)
  set_follows path t None ss v vs k front m stack w h =
      onward_map final _ _ (if_known (all_set path ss vs w.variables) w) (λ variables w1 on. pops image final depth code callers starts p [] t (length (flat v)) (flat v) k front m stack (record w1 { variables = variables }) refl on) h
  set_follows path t (Some x) ss v vs k front m stack w h = by_case (all_set path ss vs w.variables) h
    where
      s : Symbol
      s = record { path = path; name = x }

      by_put : (before : List Stored) (o : Option (List Stored)) → with_global before s v ≡ o → Onward final (Goes t k front m stack) (if_known o w) → Goes t (On_globals (Store (p.globals s) (length (flat v))) ∷ k) front m (stack ++ flat v) before w
      by_put before None e h = absurd h
      by_put before (Some changed) e h = global_stores t s v changed k front m stack (record w { variables = before }) e h

      by_case : (o : Option (List Stored)) → Onward final (Goes t k front m stack) (if_known (option_and_then (λ before. with_global before s v) o) w) → Onward final (Goes t (On_globals (Store (p.globals s) (length (flat v))) ∷ k) front m (stack ++ flat v)) (if_known o w)
      by_case None h = absurd h
      by_case (Some before) h = by_put before (with_global before s v) refl h

  -- package variables, from the last to the first
  pub sets_follow : (path : List ℕ) (t : ℕ) (ss : List (Option (List ℕ))) (vs : List Value) (k : List (Instr ℕ)) (front : List Cell) (m : ℕ) (stack : List Cell) (w : ProgramState) → Onward final (Goes t k front m stack) (if_known (all_set path ss vs w.variables) w) → Onto t (sets_code p path ss (lengths vs) ++ k) front m (stack ++ flat_map flat vs) w
  sets_follow path t [] [] k front m stack w h = on_stack image final depth code callers starts p t k front m stack (stack ++ []) w (sym (append-nil stack)) h
  sets_follow path t [] (v ∷ vs) k front m stack w h = absurd h
  sets_follow path t (s ∷ ss) [] k front m stack w h = absurd h
  sets_follow path t (s ∷ ss) (v ∷ vs) k front m stack w h =
      let i = set_code p path s (length (flat v)) in
      on_as image final depth code callers starts p t (sets_code p path ss (lengths vs) ++ (i ∷ k)) _ front m _ w (sym (append_assoc (sets_code p path ss (lengths vs)) (i ∷ []) k))
      (on_stack image final depth code callers starts p t (sets_code p path ss (lengths vs) ++ (i ∷ k)) front m ((stack ++ flat v) ++ flat_map flat vs) (stack ++ (flat v ++ flat_map flat vs)) w (append_assoc stack (flat v) (flat_map flat vs))
      (sets_follow path t ss vs (i ∷ k) front m (stack ++ flat v) w (set_follows path t s ss v vs k front m stack w h)))

-- ---- a start step that sets variables

-- what a start step that sets variables means
abbrev pub variables_set : Calls → List ℕ → ValueSource → List (Option (List ℕ)) → ProgramState → Outcome ⊤
variables_set calls path s ss w = and_then (source calls s [] w) (λ vs w1. and_then (if_known (all_set path ss vs w1.variables) w1) (λ variables w2. Gives tt (record w2 { variables = variables })))

module _ (image : Image) (final : Final) (starts : List Start) (packages : List Package) (globals functions : Symbol → ℕ) where
  -- between two start steps
  abbrev over : ProgramState → State
  over w = record { frames = []; starts = starts; globals = held w.variables; rows = held_rows w.arrays; ticks = w.ticks; output = w.output }

  -- from the first instruction of a setup's frame
  pub setup_follows : (calls : Calls) (path : List ℕ) (s : ValueSource) (ss : List (Option (List ℕ))) → AllCalled image final 0 (setup_code (no_locals globals functions) path s ss) [] starts (no_locals globals functions) calls → (t : ℕ) (w : ProgramState) → Lies image final packages globals functions w → w.ticks ≤ t →
      Onward final (λ done w1. Lies image final packages globals functions w1 → w1.ticks ≤ t → Leads image (over w1) final) (variables_set calls path s ss w) →
      Leads image (record { frames = opened 0 (setup_code (no_locals globals functions) path s ss) (source_temps s) [] ∷ []; starts = starts; globals = held w.variables; rows = held_rows w.arrays; ticks = w.ticks; output = w.output }) final
  setup_follows calls path s ss called t w known few h =
      let p : Places ℕ = no_locals globals functions in
      let code : List (Instr ℕ) = setup_code p path s ss in
      let temps : ℕ = source_temps s in
      let return : List (Instr ℕ) = By_call (Return 0) ∷ [] in
      let returns : (w1 : ProgramState) → (Lies image final packages globals functions w1 → w1.ticks ≤ t → Leads image (over w1) final) → On image final 0 code [] starts p t return [] temps [] w1 =
      λ w1 on known1 few1 place high long st. gives_back image (here image final 0 code [] starts p place high [] w1) _ [] [] 0 [] final refl st refl refl (on known1 few1) in
      let sits : Sits image final 0 code [] starts p [] [] = record { rows = []; low = []; is = refl; fits = tt; placed = λ n. refl } in
      let runs : On image final 0 code [] starts p t code [] temps [] w =
      source_runs image final 0 code [] starts p calls called s t [] 0 (sets_code p path ss (source_counts s) ++ return) [] temps [] w refl (omega arith) sits
      (onward_map final _ _ (source calls s [] w)
      (λ vs w1 more counts.
      on_as image final 0 code [] starts p t (sets_code p path ss (lengths vs) ++ return) (sets_code p path ss (source_counts s) ++ return) [] temps (flat_map flat vs) w1 (ap (λ l. sets_code p path ss l ++ return) counts)
      (sets_follow image final 0 code [] starts p path t ss vs return [] temps [] w1
      (onward_map final _ _ (if_known (all_set path ss vs w1.variables) w1) (λ variables w2 on. returns (record w2 { variables = variables }) on)
      (onward_then final _ (if_known (all_set path ss vs w1.variables) w1) _ more))))
      (onward_then final _ (source calls s [] w) _ h)) in
      let none : temps - 0 ≡ temps = omega arith in
      subst (λ n. Leads image (here image final 0 code [] starts p 0 (replicate n nought) [] w) final) (sym none)
      (runs known few 0 (replicate temps nought) (replicate_long temps nought) (stands_whole code))

  -- from the start step, where the image has each function's code by its number; a setup is no open call
  pub sets_lead : ((f : Symbol) (g : Function) → function_by_symbol packages f ≡ Some g → slice_get image.functions (functions f) ≡ Some (translated globals functions g)) → BodiesRun image final starts packages globals functions → (left : ℕ) → left ≡ most_open image.edition → (path : List ℕ) (s : ValueSource) (ss : List (Option (List ℕ))) (t : ℕ) (w : ProgramState) → Lies image final packages globals functions w → w.ticks ≤ t →
      Onward final (λ done w1. Lies image final packages globals functions w1 → w1.ticks ≤ t → Leads image (over w1) final) (variables_set (call_at packages left) path s ss w) →
      Leads image (record { frames = []; starts = Set_up (record { cells = source_temps s; code = setup_code (no_locals globals functions) path s ss }) ∷ starts; globals = held w.variables; rows = held_rows w.arrays; ticks = w.ticks; output = w.output }) final
  sets_lead found bodies left same path s ss t w known few h =
      let code : List (Instr ℕ) = setup_code (no_locals globals functions) path s ss in
      setup_leads image (record { frames = []; starts = Set_up (record { cells = source_temps s; code = code }) ∷ starts; globals = held w.variables; rows = held_rows w.arrays; ticks = w.ticks; output = w.output }) (record { cells = source_temps s; code = code }) starts final refl refl
      (setup_follows (call_at packages left) path s ss
      (called_within image final starts packages globals functions found bodies left 0 code [] (slice_index (slots 0 [])) (omega (arith, same)))
      t w known few h)

-- ---- other references

module _ {R S : Type 0} (g : Changes R S) (p : Places R) (path : List ℕ) where
  set_referred : (o : Option (List ℕ)) (n : ℕ) → refer g (set_code p path o n) ≡ set_code (referred g p) path o n
  set_referred None n = refl
  set_referred (Some x) n = refl

  sets_referred : (os : List (Option (List ℕ))) (counts : List ℕ) → Refers g (sets_code p path os counts) (sets_code (referred g p) path os counts)
  sets_referred [] counts = refl
  sets_referred (o ∷ os) [] = refl
  sets_referred (o ∷ os) (n ∷ counts) = joins (refer g) (sets_code p path os counts) _ (sets_referred os counts) (ap (λ i. i ∷ []) (set_referred o n))

  code_referred : (s : ValueSource) (os : List (Option (List ℕ))) → Refers g (setup_code p path s os) (setup_code (referred g p) path s os)
  code_referred s os =
      joins (refer g) (source_code p 0 s) _ (source_referred g p 0 s)
      (joins (refer g) (sets_code p path os (source_counts s)) _ (sets_referred os (source_counts s)) refl)

-- a setup with other references
pub setup_referred : {R S : Type 0} (g : Changes R S) (globals functions : Symbol → R) (path : List ℕ) (i : Initialization) → refer_setup g (translated_setup globals functions path i) ≡ translated_setup (λ s. g.variables (globals s)) (λ s. g.functions (functions s)) path i
setup_referred {R} {S} g globals functions path i =
    ap (λ (code : List (Instr S)). record { cells = source_temps i.source; code = code }) (code_referred g (no_locals globals functions) path i.source i.variables)
