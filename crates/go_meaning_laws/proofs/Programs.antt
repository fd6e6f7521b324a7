-- Well typed programs are never stuck: calls by how many more may be open, and the steps of a start.
use Rattle.std.proofs.Common.{◌≡◌, ◌≢◌, ℕ, zero, suc, ◌≤◌, Bool, true, false, ◌||◌, List, [], ◌∷◌, ◌++◌, length, map, Option, Some, None, refl, sym, ap, subst, arith, nat_eq, slice_get, if◌then◌else◌}
use Rattle.std.specs.Prelude.{⊤}
use Rattle.std.specs.List.{All, find, flat_map}
use Rattle.std.specs.Option.{option_map}
use Rattle.std.proofs.lemmas.Bool.{ne_eqb}
use Rattle.std.proofs.lemmas.List.Elements.{All-head, All-tail, All-nil, All-append, All-map}
use Rattle.go_text.specs.Editions.{most_open}
use Rattle.go_types.specs.Types.{Type'}
use Rattle.go_code.specs.declared.ending.Ending.{Ending}
use Rattle.go_code.specs.declared.ending.Ending.TheVariants.{Ended, Panicked}
use Rattle.go_code.specs.declared.ending.PanicKind.TheVariants.{Depth}
use Rattle.go_typed.specs.Trees.{Symbol, Function, Initialization, Package}
use Rattle.go_typed.specs.Terminating.{list_terminates, breaks_any}
use Rattle.go_meaning.specs.Values.{Value, zero_of}
use Rattle.go_symbol.specs.Symbols.{same_symbol}
use Rattle.go_meaning.specs.Meaning.{Stored, ProgramState, Outcome, Gives, Ends, Stuck, Local, Flow, Normal, Breaks, Continues, Returns, and_then, with_tick, source, exec_all}
use Rattle.go_meaning.specs.Programs.{results_of, enter_function, with_arguments, first_locals, DeclaredFunction, package_functions, function_by_symbol, call_at, StartStep, sets, calls, start_steps, start_step, stored_variables, run_steps, first_variables, first_world, program_edition, last_package, run_program, IsOver, IsProgram, SourceMeaning}
use Rattle.go_meaning_laws.specs.WellTyped.{has, first, signature_at, variable_at, setting, are_none, source_types, package_setting, IsWhole, declared_after_all, IsWellTypedFunction, IsWellTypedStart, IsWellTyped}
use Rattle.go_meaning_laws.proofs.Shelf.{Shelf, grows_not}
use Rattle.go_meaning_laws.proofs.Values.{Of, AllOf, all_are, zero_is}
use Rattle.go_meaning_laws.proofs.Worlds.{Sound, sound_then, Stores, Keeps, Held, Fits, stored_is}
use Rattle.go_meaning_laws.proofs.Targets.{source_evals}
use Rattle.go_meaning_laws.proofs.Exprs.{AllValued, Answers}
use Rattle.go_meaning_laws.proofs.Flows.{Leaves, ticked}
use Rattle.go_meaning_laws.proofs.Ticks.{call_ticks}
use Rattle.go_meaning_laws.proofs.Statements.{stmts_leave}

-- ---- what is found in a list

found_all : {X : Type 0} (P : X → Type 0) (test : X → Bool) (xs : List X) (x : X) → All P xs → find test xs ≡ Some x → P x
found_all P test [] x all e = absurd (cc)
found_all P test (y ∷ xs) x all e = by_test (test y) refl (λ f. found_all P test xs x (All-tail P y xs all) f)
  where
    by_test : (b : Bool) → test y ≡ b → (find test xs ≡ Some x → P x) → P x
    by_test true k rest =
        let found : Some y ≡ Some x = rw k at e in
        let same : y ≡ x = cc in
        subst P same (All-head P y xs all)
    by_test false k rest = rest (rw k at e)

mapped : {A B : Type 0} (f : A → B) (o : Option A) (b : B) → option_map f o ≡ Some b → (a : A) × (o ≡ Some a) × (f a ≡ b)
mapped f None b e = absurd (cc)
mapped f (Some a) b e = (a, refl, cc)

-- ---- the local variables of a function that is entered

-- the first numbers are below
past_first : (k n : ℕ) → k ≤ n → has (first k) n ≡ false
past_first zero n l = refl
past_first (suc k) n l =
    let apart : nat_eq n k ≡ false = ne_eqb n k (λ e. absurd (omega (arith, e, l))) in
    rw apart (past_first k n (omega (arith, l)))

-- an argument, or none behind the parameters
abbrev Row : Shelf → List Type' → Type' → ℕ → Option Value → Type 0
Row σ ps t n None = length ps ≤ n
Row σ ps t n (Some v) = Of σ t v

abbrev no_value : Type' → Local
no_value t = record { of = t; value = None }

abbrev Rows : Shelf → List Type' → List Type' → List Value → Type 0
Rows σ ps ts vs = (n : ℕ) (t : Type') → slice_get (ps ++ ts) n ≡ Some t → (o : Option Value) × (slice_get (with_arguments ps vs ++ map no_value ts) n ≡ Some (record { of = t; value = o })) × Row σ ps t n o

no_values : (ts : List Type') (n : ℕ) (t : Type') → slice_get ts n ≡ Some t → slice_get (map no_value ts) n ≡ Some (no_value t)
no_values [] n t e = cc
no_values (u ∷ ts) zero t e = (let same : u ≡ t = cc in ap (λ s. Some (no_value s)) same)
no_values (u ∷ ts) (suc n) t e = no_values ts n t e

further : (σ : Shelf) (p : Type') (ps : List Type') (t : Type') (n : ℕ) (o : Option Value) → Row σ ps t n o → Row σ (p ∷ ps) t (suc n) o
further σ p ps t n None h = omega (arith, h)
further σ p ps t n (Some v) h = h

rows : (σ : Shelf) (ps ts : List Type') (vs : List Value) → AllOf σ ps vs → Rows σ ps ts vs
rows σ [] ts [] h n t e = (None, no_values ts n t e, omega arith)
rows σ [] ts (v ∷ vs) h n t e = absurd h
rows σ (p ∷ ps) ts [] h n t e = absurd h
rows σ (p ∷ ps) ts (v ∷ vs) h zero t e =
    let same : p ≡ t = cc in
    (Some v, ap (λ s. Some (record { of = s; value = Some v })) same, subst (λ s. Of σ s v) same h.0)
rows σ (p ∷ ps) ts (v ∷ vs) h (suc n) t e = (let r = rows σ ps ts vs h.1 n t e in (r.0, r.1, further σ p ps t n r.0 r.2))

held : (σ : Shelf) (ps : List Type') (t : Type') (n : ℕ) (o : Option Value) → Row σ ps t n o → Held σ t (first (length ps)) n o
held σ ps t n None h = past_first (length ps) n h
held σ ps t n (Some v) h = h

locals_fit : (σ : Shelf) (f : Function) (vs : List Value) → AllOf σ f.parameters vs → Fits σ (f.parameters ++ f.locals) (first (length f.parameters)) (first_locals f vs)
locals_fit σ f vs h = record { each = λ n t e. (let r = rows σ f.parameters f.locals vs h n t e in (r.0, r.1, held σ f.parameters t n r.0 r.2)) }

-- ---- calls

module _ (packages : List Package) (typed : IsWellTyped packages) where
  abbrev Answer : List Type' → List Value → Shelf → ProgramState → Type 0
  Answer = AllValued (variable_at packages)

  -- a function that is found is well typed
  found_function : (s : Symbol) (f : Function) → function_by_symbol packages s ≡ Some f → IsWellTypedFunction packages f
  found_function s f e =
      let m = mapped (λ d. d.function) (find (λ d. same_symbol s d.symbol) (flat_map package_functions packages)) f e in
      subst (IsWellTypedFunction packages) m.2 (found_all (λ (d : DeclaredFunction). IsWellTypedFunction packages d.function) (λ d. same_symbol s d.symbol) (flat_map package_functions packages) m.0 typed.functions m.1)

  no_results : (σ : Shelf) (ts : List Type') (ends : Bool) → (are_none ts || ends) ≡ true → ends ≡ false → AllOf σ ts []
  no_results σ [] ends e n = tt
  no_results σ (t ∷ ts) true e n = absurd (cc)
  no_results σ (t ∷ ts) false e n = absurd (cc)

  left_body : (f : Function) → IsWellTypedFunction packages f → (d : List ℕ) (breaks : Bool) (flow : Flow) (σ : Shelf) (w : ProgramState) → Leaves (setting packages f) (first (length f.parameters)) d (list_terminates f.body) breaks flow σ w → Sound σ (Answer f.results) (results_of flow w)
  left_body f is d breaks (Normal ls) σ w l = (σ, grows_not σ, (no_results σ f.results (list_terminates f.body) is.ended l.1, (l.0).1))
  left_body f is d breaks (Breaks ls) σ w l = (let k = l.1 in absurd (cc))
  left_body f is d breaks (Continues ls) σ w l = (let k = l.1 in absurd (cc))
  left_body f is d breaks (Returns vs) σ w l = (σ, grows_not σ, l)

  -- what is called is found, takes such arguments and gives such results
  entered : (s : Symbol) (ps rs : List Type') (vs : List Value) (σ : Shelf) (w : ProgramState) (next : Function → ProgramState → Outcome (List Value)) → signature_at packages s ≡ Some (record { parameters = ps; results = rs }) → AllOf σ ps vs → ((f : Function) → IsWellTypedFunction packages f → AllOf σ f.parameters vs → (n : ℕ) → Sound σ (Answer f.results) (next f (record w { ticks = n }))) → Sound σ (Answer rs) (enter_function (function_by_symbol packages s) vs w next)
  entered s ps rs vs σ w next e h goes =
      let m = mapped (λ f. record { parameters = f.parameters; results = f.results }) (function_by_symbol packages s) (record { parameters = ps; results = rs }) e in
      let f : Function = m.0 in
      let takes : f.parameters ≡ ps = ap (λ q. q.parameters) m.2 in
      let gives : f.results ≡ rs = ap (λ q. q.results) m.2 in
      let arguments : AllOf σ f.parameters vs = subst (λ q. AllOf σ q vs) (sym takes) h in
      let body : Sound σ (Answer f.results) (with_tick w (next f)) = ticked (Answer f.results) σ w (next f) (goes f (found_function s f m.1) arguments) in
      subst (λ o. Sound σ (Answer rs) (enter_function o vs w next)) (sym m.1)
      (subst (λ b. Sound σ (Answer rs) (if b then with_tick w (next f) else Stuck)) (sym (all_are σ f.parameters vs arguments)) (subst (λ q. Sound σ (Answer q) (with_tick w (next f))) gives body))

  pub calls_answer : (left : ℕ) → Answers (signature_at packages) (variable_at packages) (call_at packages left)
  calls_answer zero = record {
    each = λ s ps rs vs σ w e h good. entered s ps rs vs σ w (λ f w1. Ends (Panicked Depth) w1.output) e h (λ f is k n. tt);
    ticks = λ n s vs w le. call_ticks n packages zero s vs w le;
  }
  calls_answer (suc left) = record {
    each = λ s ps rs vs σ w e h good.
        entered s ps rs vs σ w (λ f w1. and_then (exec_all (call_at packages left) f.body (first_locals f vs) w1) results_of) e h
        (λ f is k n.
        sound_then σ (Leaves (setting packages f) (first (length f.parameters)) (declared_after_all (first (length f.parameters)) f.body) (list_terminates f.body) (breaks_any f.body)) (Answer f.results)
        (exec_all (call_at packages left) f.body (first_locals f vs) (record w { ticks = n })) results_of
        (stmts_leave (call_at packages left) (setting packages f) (first (length f.parameters)) (calls_answer left) f.body is.body (first_locals f vs) σ (record w { ticks = n }) (locals_fit σ f vs k, good))
        (λ flow σ1 w1 grown1. left_body f is (declared_after_all (first (length f.parameters)) f.body) (breaks_any f.body) flow σ1 w1));
    ticks = λ n s vs w le. call_ticks n packages (suc left) s vs w le;
  }

  -- ---- the start

  abbrev Starting : ⊤ → Shelf → ProgramState → Type 0
  Starting done σ w = Keeps (variable_at packages) σ w

  none_fit : (σ : Shelf) → Fits σ [] [] []
  none_fit σ = record { each = λ n t e. absurd (cc) }

  -- variables of a package get values of their types
  set_goes : (left : ℕ) (path : List ℕ) (i : Initialization) (σ : Shelf) (w : ProgramState) → IsWellTypedStart packages (sets path i) → Keeps (variable_at packages) σ w → Sound σ Starting (start_step (call_at packages left) (sets path i) w)
  set_goes left path i σ w is good =
      sound_then σ (AllValued (variable_at packages) (source_types i.source)) Starting (source (call_at packages left) i.source [] w) (stored_variables path i.variables)
      (source_evals (call_at packages left) (package_setting packages) [] (calls_answer left) i.source [] σ w is.0 (none_fit σ, good))
      (λ vs σ1 w1 grown1 l. (let r = stored_is σ1 (variable_at packages) path i.variables (source_types i.source) vs w1.variables is.1 l.0 (l.1).0 in rw (r.1) (σ1, grows_not σ1, (r.2, (l.1).1))))

  steps_go : (left : ℕ) (ss : List StartStep) (σ : Shelf) (w : ProgramState) → All (IsWellTypedStart packages) ss → Keeps (variable_at packages) σ w → Sound σ Starting (run_steps (call_at packages left) ss w)
  steps_go left [] σ w all good = (σ, grows_not σ, good)
  steps_go left (sets path i ∷ ss) σ w all good =
      sound_then σ Starting Starting (start_step (call_at packages left) (sets path i) w) (λ done w1. run_steps (call_at packages left) ss w1)
      (set_goes left path i σ w (All-head (IsWellTypedStart packages) (sets path i) ss all) good)
      (λ done σ1 w1 grown1 h. steps_go left ss σ1 w1 (All-tail (IsWellTypedStart packages) (sets path i) ss all) h)
  steps_go left (calls s ∷ ss) σ w all good =
      sound_then σ Starting Starting (start_step (call_at packages left) (calls s) w) (λ done w1. run_steps (call_at packages left) ss w1)
      (sound_then σ (Answer []) Starting (call_at packages left s [] w) (λ results w1. Gives tt w1) ((calls_answer left).each s [] [] [] σ w (All-head (IsWellTypedStart packages) (calls s) ss all) tt good)
      (λ rs σ1 w1 grown1 h. (σ1, grows_not σ1, h.1)))
      (λ done σ1 w1 grown1 h. steps_go left ss σ1 w1 (All-tail (IsWellTypedStart packages) (calls s) ss all) h)

  zeros_first : (packages : List Package) → All (λ (x : Stored). x.value ≡ zero_of x.of) (flat_map first_variables packages)
  zeros_first [] = All-nil (λ (x : Stored). x.value ≡ zero_of x.of)
  zeros_first (p ∷ ps) =
      All-append (λ (x : Stored). x.value ≡ zero_of x.of) (first_variables p) (flat_map first_variables ps)
      (All-map (λ (x : Stored). x.value ≡ zero_of x.of) (λ v. record { symbol = record { path = p.path; name = v.name }; of = v.of; value = zero_of v.of }) p.variables (λ k d l. refl)) (zeros_first ps)

  first_stores : Stores [] (variable_at packages) (flat_map first_variables packages)
  first_stores = record {
    each = λ s t e.
        (let variables = flat_map first_variables packages in
        let m = mapped (λ v. v.of) (find (λ v. same_symbol s v.symbol) variables) t e in
        let x : Stored = m.0 in
        let whole : IsWhole x.of = found_all (λ (v : Stored). IsWhole v.of) (λ v. same_symbol s v.symbol) variables x typed.variables m.1 in
        let value : x.value ≡ zero_of x.of = found_all (λ (v : Stored). v.value ≡ zero_of v.of) (λ v. same_symbol s v.symbol) variables x (zeros_first packages) m.1 in
        (x, m.1, m.2, subst (λ u. Of [] u x.value) m.2 (subst (λ v. Of [] x.of v) (sym value) (zero_is [] x.of whole))));
  }

  -- nothing stands there yet but array 0
  runs : (ticks : ℕ) → Sound [] Starting (run_program packages ticks)
  runs ticks = steps_go (most_open (program_edition (last_package packages))) (start_steps packages) [] (first_world packages ticks) typed.start (first_stores, (refl, tt))

  pub never_stuck : (ticks : ℕ) → run_program packages ticks ≢ Stuck
  never_stuck ticks e = subst (Sound [] Starting) e (runs ticks)

  over : (o : Outcome ⊤) → Sound [] Starting o → (ending : Ending) × (output : List ℕ) × IsOver o ending output
  over (Gives done w) h = (Ended, w.output, (refl, refl))
  over (Ends ending output) h = (ending, output, (refl, refl))
  over Stuck h = absurd h

  -- for any ticks it ends in a way, and has an output
  pub means : (ticks : ℕ) → IsProgram packages → (ending : Ending) × (output : List ℕ) × SourceMeaning packages ticks ending output
  means ticks program = (let r = over (run_program packages ticks) (runs ticks) in (r.0, r.1, (program, r.2)))
