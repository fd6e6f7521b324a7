-- The machine follows calls, by how many more may be open: Call leads into the function's body by the arguments' cells, and the body's
-- end gives its results' cells back to the caller.
use Rattle.std.proofs.Common.{◌≡◌, ℕ, zero, suc, ◌+◌, ◌-◌, ◌≤◌, ◌<◌, Bool, true, false, List, [], ◌∷◌, ◌++◌, length, map, replicate, Option, Some, None, refl, sym, ap, ◌∙◌, subst, arith, length-append, append_assoc, append-nil, pos}
use Rattle.std.specs.Prelude.{if◌then◌else◌, slice_get, slice_index}
use Rattle.std.specs.List.{flat_map}
use Rattle.go_text.specs.Editions.{most_open}
use Rattle.go_types.specs.Types.{Type'}
use Rattle.go_types.specs.Sizes.{cells}
use Rattle.go_code.specs.declared.cell.Cell.{Cell}
use Rattle.go_code.specs.declared.cell.Cell.TheVariants.{Int}
use Rattle.go_code.specs.declared.ending.Ending.TheVariants.{Panicked}
use Rattle.go_code.specs.declared.ending.PanicKind.TheVariants.{Depth}
use Rattle.go_code.specs.declared.image.Start.{Start}
use Rattle.go_code.specs.declared.instr.Instr.{Instr}
use Rattle.go_code.specs.declared.instr.Instr.TheVariants.{Calls as By_call}
use Rattle.go_code.specs.declared.instr.CallInstr.TheVariants.{Call, Return}
use Rattle.go_code.specs.Finals.{Final}
use Rattle.go_code.specs.Images.{Image}
use Rattle.go_code.specs.Machine.{Frame, State, Leads, opened}
use Rattle.go_code.proofs.Follows as follows
use Rattle.go_code.proofs.Follows.{return_leads, return_over, call_leads, call_cut, call_deep}
use Rattle.go_code.proofs.Stands.{stands_whole, stands_next}
use Rattle.go_typed.specs.Trees.{Symbol, Stmts, Function, Package}
use Rattle.go_meaning.specs.Values.{Value, flat, is_of, are_of}
use Rattle.go_meaning.specs.Meaning.{Stored, ProgramState, Outcome, Ends, Stuck, Locals, Flow, Normal, Breaks, Continues, Returns, Calls, and_then, with_tick, exec_all}
use Rattle.go_meaning.specs.Programs.{results_of, enter_function, with_arguments, first_locals, function_by_symbol, call_at}
use Rattle.go_gen.specs.Translation.{Places, slots, total, stmts_temps, body_code, local_types, translated}
use Rattle.go_translation_laws.proofs.Frames.{Fits, together, types_of}
use Rattle.go_meaning_laws.proofs.Values.{flat_long}
use Rattle.go_translation_laws.proofs.Shapes.{both_true}
use Rattle.go_translation_laws.proofs.Runs.{Onward, onward_then, onward_map, held, Sized, global_at, here, Known, On}
use Rattle.go_translation_laws.proofs.Expressions.{AllCalled}
use Rattle.go_translation_laws.proofs.Following.{past_none, Follows, back_in, Back, After, StmtsRun}
use Rattle.go_translation_laws.proofs.RowLemmas.{rows as held_rows}

-- ---- the cells that a function begins with

abbrev pub nought : Cell
nought = Int (pos 0)

-- the rows of local variables that aren't declared yet
abbrev zero_rows : List Type' → List (List Cell)
zero_rows ts = map (λ t. replicate (cells t) nought) ts

abbrev undeclared : List Type' → Locals
undeclared ts = map (λ t. record { of = t; value = None }) ts

replicated : (m n : ℕ) (c : Cell) → replicate (m + n) c ≡ replicate m c ++ replicate n c
replicated zero n c = let e : 0 + n ≡ n = omega arith in ap (λ k. replicate k c) e
replicated (suc m) n c = let e : suc m + n ≡ suc (m + n) = omega arith in ap (λ k. replicate k c) e ∙ ap (λ l. c ∷ l) (replicated m n c)

pub replicate_long : (n : ℕ) (c : Cell) → length (replicate n c) ≡ n
replicate_long zero c = refl
replicate_long (suc n) c = ap suc (replicate_long n c)

pub total_append : (ts us : List Type') → total (ts ++ us) ≡ total ts + total us
total_append [] us = omega arith
total_append (t ∷ ts) us = let h = total_append ts us in omega (arith, h)

zeros_fit : (ts : List Type') → Fits (zero_rows ts) (undeclared ts)
zeros_fit [] = tt
zeros_fit (t ∷ ts) = ((replicate_long (cells t) nought, tt), zeros_fit ts)

zeros_together : (ts : List Type') → together (zero_rows ts) ≡ replicate (total ts) nought
zeros_together [] = refl
zeros_together (t ∷ ts) = ap (λ l. replicate (cells t) nought ++ l) (zeros_together ts) ∙ sym (replicated (cells t) (total ts) nought)

zeros_typed : (ts : List Type') → types_of (undeclared ts) ≡ ts
zeros_typed [] = refl
zeros_typed (t ∷ ts) = ap (λ l. t ∷ l) (zeros_typed ts)

arguments_fit : (ts : List Type') (vs : List Value) (others : List Type') → are_of ts vs ≡ true → Fits (map flat vs ++ zero_rows others) (with_arguments ts vs ++ undeclared others)
arguments_fit [] [] others e = zeros_fit others
arguments_fit [] (v ∷ vs) others e = cc
arguments_fit (t ∷ ts) [] others e = cc
arguments_fit (t ∷ ts) (v ∷ vs) others e =
    let h = both_true (is_of t v) (are_of ts vs) e in
    ((flat_long t v h.0, refl), arguments_fit ts vs others h.1)

arguments_typed : (ts : List Type') (vs : List Value) (others : List Type') → are_of ts vs ≡ true → types_of (with_arguments ts vs ++ undeclared others) ≡ ts ++ others
arguments_typed [] [] others e = zeros_typed others
arguments_typed [] (v ∷ vs) others e = cc
arguments_typed (t ∷ ts) [] others e = cc
arguments_typed (t ∷ ts) (v ∷ vs) others e = ap (λ l. t ∷ l) (arguments_typed ts vs others (both_true (is_of t v) (are_of ts vs) e).1)

arguments_together : (vs : List Value) (others : List Type') → together (map flat vs ++ zero_rows others) ≡ flat_map flat vs ++ replicate (total others) nought
arguments_together [] others = zeros_together others
arguments_together (v ∷ vs) others =
    ap (λ l. flat v ++ l) (arguments_together vs others) ∙ sym (append_assoc (flat v) (flat_map flat vs) (replicate (total others) nought))

pub arguments_long : (ts : List Type') (vs : List Value) → are_of ts vs ≡ true → length (flat_map flat vs) ≡ total ts
arguments_long [] [] e = refl
arguments_long [] (v ∷ vs) e = cc
arguments_long (t ∷ ts) [] e = cc
arguments_long (t ∷ ts) (v ∷ vs) e =
    let h = both_true (is_of t v) (are_of ts vs) e in
    let one = flat_long t v h.0 in
    let rest = arguments_long ts vs h.1 in
    omega (arith, length-append (flat v) (flat_map flat vs), one, rest)

-- the arguments, 0 for each cell of the other local variables, and 0 in the temporaries
opened_cells : (ts : List Type') (vs : List Value) (others : List Type') (temps : ℕ) → are_of ts vs ≡ true → flat_map flat vs ++ replicate (total (ts ++ others) + temps - length (flat_map flat vs)) nought ≡ (together (map flat vs ++ zero_rows others) ++ []) ++ replicate temps nought
opened_cells ts vs others temps e =
    let first : List Cell = flat_map flat vs in
    let left : total (ts ++ others) + temps - length first ≡ total others + temps = omega (arith, total_append ts others, arguments_long ts vs e) in
    ap (λ n. first ++ replicate n nought) left
    ∙ ap (λ l. first ++ l) (replicated (total others) temps nought)
    ∙ sym (append_assoc first (replicate (total others) nought) (replicate temps nought))
    ∙ ap (λ l. l ++ replicate temps nought) (sym (append-nil (together (map flat vs ++ zero_rows others)) ∙ arguments_together vs others))

-- ---- a function's body

-- the end of a body gives nothing back
falls_off : (image : Image) (final : Final) (depth : ℕ) (code : List (Instr ℕ)) (callers : List Frame) (starts : List Start) (p : Places ℕ) (types : List Type') (t : ℕ) (front : List Cell) (m : ℕ) (w : ProgramState) → Back image final depth code callers starts p types t [] w → On image final depth code callers starts p t (By_call (Return 0) ∷ []) front m [] w
falls_off image final depth code [] starts p types t front m w back known few place high long s =
    return_over image (here image final depth code [] starts p place (front ++ high) [] w) _ [] [] 0 [] final refl s refl refl (back known few)
falls_off image final depth code (caller ∷ callers) starts p types t front m w back known few place high long s =
    return_leads image (here image final depth code (caller ∷ callers) starts p place (front ++ high) [] w) _ caller callers [] [] 0 [] final refl s refl refl (back known few)

module _ (image : Image) (final : Final) (depth : ℕ) (code : List (Instr ℕ)) (callers : List Frame) (starts : List Start) (p : Places ℕ) (types : List Type') where
  abbrev end : List (Instr ℕ)
  end = By_call (Return 0) ∷ []

  -- no break and no continue leaves a body
  flow_ends : (t m : ℕ) (flow : Flow) (w : ProgramState) → Onward final (λ vs w1. Back image final depth code callers starts p types t vs w1) (results_of flow w) → After image final depth code callers starts p types t end end end [] m flow w
  flow_ends t m (Normal ls) w h = λ same rows fits. falls_off image final depth code callers starts p types t (together rows ++ []) m w h
  flow_ends t m (Breaks ls) w h = absurd h
  flow_ends t m (Continues ls) w h = absurd h
  flow_ends t m (Returns vs) w h = h

  pub body_follows : (calls : Calls) (body : Stmts) → StmtsRun image final depth code callers starts p types calls body → (t : ℕ) (locals : Locals) (m : ℕ) (w : ProgramState) → types_of locals ≡ types → stmts_temps body ≤ m → Onward final (λ vs w1. Back image final depth code callers starts p types t vs w1) (and_then (exec_all calls body locals w) results_of) → Follows image final depth code callers starts p types t (body_code p (total types) body) locals [] m [] w
  body_follows calls body runs t locals m w same le h =
      runs t locals (total types) 0 0 end end end [] m w same (omega arith) le (past_none end) (past_none end)
      (onward_map final _ _ (exec_all calls body locals w) (flow_ends t m) (onward_then final _ (exec_all calls body locals w) results_of h))

-- ---- calls in an image that has the functions

module _ (image : Image) (final : Final) (starts : List Start) (packages : List Package) (globals : Symbol → ℕ) (functions : Symbol → ℕ) where
  -- the code's places, of which the local variables' are the function's own
  abbrev pub places : (ℕ → ℕ) → Places ℕ
  places at = record { locals = at; globals = globals; functions = functions }

  abbrev pub local_places : List Type' → Places ℕ
  local_places types = places (slice_index (slots 0 types))

  -- the image has each function's code by its number
  abbrev pub Found : Type 0
  Found = (s : Symbol) (f : Function) → function_by_symbol packages s ≡ Some f → slice_get image.functions (functions s) ≡ Some (translated globals functions f)

  -- bodies are followed where calls are
  abbrev pub BodiesRun : Type 0
  BodiesRun =
      (depth : ℕ) (code : List (Instr ℕ)) (callers : List Frame) (types : List Type') (calls : Calls) (body : Stmts) →
      AllCalled image final depth code callers starts (local_places types) calls →
      StmtsRun image final depth code callers starts (local_places types) types calls body

  -- the machine follows a function's body from its first instruction
  pub function_follows : BodiesRun → (calls : Calls) (f : Function) (depth : ℕ) (callers : List Frame) (vs : List Value) (t : ℕ) (w : ProgramState) →
      AllCalled image final depth (translated globals functions f).code callers starts (local_places (local_types f)) calls →
      are_of f.parameters vs ≡ true → w.ticks ≤ t → Known image final depth (translated globals functions f).code callers starts (local_places (local_types f)) w →
      Onward final (λ rs w1. Back image final depth (translated globals functions f).code callers starts (local_places (local_types f)) (local_types f) t rs w1) (and_then (exec_all calls f.body (first_locals f vs) w) results_of) →
      Leads image (record { frames = opened depth (translated globals functions f).code (translated globals functions f).cells (flat_map flat vs) ∷ callers; starts = starts; globals = held w.variables; rows = held_rows w.arrays; ticks = w.ticks; output = w.output }) final
  function_follows bodies calls f depth callers vs t w called typed few known h =
      let code : List (Instr ℕ) = (translated globals functions f).code in
      let p : Places ℕ = local_places (local_types f) in
      let temps : ℕ = stmts_temps f.body in
      let same : types_of (first_locals f vs) ≡ local_types f = arguments_typed f.parameters vs f.locals typed in
      subst (λ l. Leads image (here image final depth code callers starts p 0 l [] w) final) (sym (opened_cells f.parameters vs f.locals temps typed))
      (body_follows image final depth code callers starts p (local_types f) calls f.body (bodies depth code callers (local_types f) calls f.body called) t (first_locals f vs) temps w same (omega arith) h
      (map flat vs ++ zero_rows f.locals) (arguments_fit f.parameters vs f.locals typed) known few 0 (replicate temps nought) (replicate_long temps nought) (stands_whole code))

  -- ---- where a function is entered

  -- its arguments are on top of the stack
  ready : Found → (s : Symbol) (f : Function) → function_by_symbol packages s ≡ Some f → (vs : List Value) → are_of f.parameters vs ≡ true → (stack : List Cell) → follows.Calls image (stack ++ flat_map flat vs) stack (flat_map flat vs) (functions s) (translated globals functions f)
  ready found s f is vs typed stack =
      let fits : total f.parameters ≤ total (f.parameters ++ f.locals) + stmts_temps f.body = omega (arith, total_append f.parameters f.locals) in
      record { found = found s f is; top = refl; long = arguments_long f.parameters vs typed; fits = fits }

  -- calls are followed in all frames where so many more may be open
  abbrev Within : ℕ → Type 0
  Within left =
      (depth : ℕ) (code : List (Instr ℕ)) (callers : List Frame) (at : ℕ → ℕ) → depth + left ≡ most_open image.edition →
      AllCalled image final depth code callers starts (places at) (call_at packages left)

  module _ (found : Found) (bodies : BodiesRun) where
    module _ (depth : ℕ) (code : List (Instr ℕ)) (callers : List Frame) (at : ℕ → ℕ) where
      abbrev Onto : ℕ → List (Instr ℕ) → List Cell → ℕ → List Cell → ProgramState → Type 0
      Onto t k front m stack w = On image final depth code callers starts (places at) t k front m stack w

      abbrev world : ℕ → List Stored → List (List Value) → List ℕ → ProgramState
      world ticks variables arrays output = record { ticks = ticks; variables = variables; arrays = arrays; output = output }

      -- with no more calls to be open it panics behind its tick
      panics : depth + 0 ≡ most_open image.edition → (s : Symbol) (f : Function) → function_by_symbol packages s ≡ Some f → (vs : List Value) → are_of f.parameters vs ≡ true → (t : ℕ) (k : List (Instr ℕ)) (front : List Cell) (m : ℕ) (stack : List Cell) (ticks : ℕ) (variables : List Stored) (arrays : List (List Value)) (output : List ℕ) →
          Onward final (λ rs w1. Onto t k front m (stack ++ flat_map flat rs) w1) (with_tick (world ticks variables arrays output) (λ w1. Ends (Panicked Depth) w1.output)) →
          Onto t (By_call (Call (functions s)) ∷ k) front m (stack ++ flat_map flat vs) (world ticks variables arrays output)
      panics level s f is vs typed t k front m stack zero variables arrays output h known few place high long st =
          let state : State = here image final depth code callers starts (places at) place (front ++ high) (stack ++ flat_map flat vs) (world zero variables arrays output) in
          subst (Leads image state) (sym h)
          (call_cut image state _ callers stack (flat_map flat vs) (functions s) (translated globals functions f) k refl st (ready found s f is vs typed stack) refl)
      panics level s f is vs typed t k front m stack (suc left) variables arrays output h known few place high long st =
          let state : State = here image final depth code callers starts (places at) place (front ++ high) (stack ++ flat_map flat vs) (world (suc left) variables arrays output) in
          let deep : most_open image.edition < depth + 1 = omega (arith, level) in
          subst (Leads image state) (sym h)
          (call_deep image state _ callers stack (flat_map flat vs) (functions s) (translated globals functions f) k left refl st (ready found s f is vs typed stack) refl deep)

      -- else its body is followed
      enters : (more : ℕ) → Within more → depth + suc more ≡ most_open image.edition → (s : Symbol) (f : Function) → function_by_symbol packages s ≡ Some f → (vs : List Value) → are_of f.parameters vs ≡ true → (t : ℕ) (k : List (Instr ℕ)) (front : List Cell) (m : ℕ) (stack : List Cell) (ticks : ℕ) (variables : List Stored) (arrays : List (List Value)) (output : List ℕ) →
          Onward final (λ rs w1. Onto t k front m (stack ++ flat_map flat rs) w1) (with_tick (world ticks variables arrays output) (λ w1. and_then (exec_all (call_at packages more) f.body (first_locals f vs) w1) results_of)) →
          Onto t (By_call (Call (functions s)) ∷ k) front m (stack ++ flat_map flat vs) (world ticks variables arrays output)
      enters more called level s f is vs typed t k front m stack zero variables arrays output h known few place high long st =
          let state : State = here image final depth code callers starts (places at) place (front ++ high) (stack ++ flat_map flat vs) (world zero variables arrays output) in
          subst (Leads image state) (sym h)
          (call_cut image state _ callers stack (flat_map flat vs) (functions s) (translated globals functions f) k refl st (ready found s f is vs typed stack) refl)
      enters more called level s f is vs typed t k front m stack (suc left) variables arrays output h known few place high long st =
          let state : State = here image final depth code callers starts (places at) place (front ++ high) (stack ++ flat_map flat vs) (world (suc left) variables arrays output) in
          let shallow : depth + 1 ≤ most_open image.edition = omega (arith, level) in
          let next : depth + 1 + more ≡ most_open image.edition = omega (arith, level) in
          let caller : Frame = record { depth = depth; code = code; place = place + 1; cells = front ++ high; stack = stack } in
          let inner : Function → List (Instr ℕ) = λ g. (translated globals functions g).code in
          call_leads image state _ callers stack (flat_map flat vs) (functions s) (translated globals functions f) k left final refl st (ready found s f is vs typed stack) refl shallow
          (function_follows bodies (call_at packages more) f (depth + 1) (caller ∷ callers) vs left (world left variables arrays output)
          (called (depth + 1) (inner f) (caller ∷ callers) (slice_index (slots 0 (local_types f))) next) typed (omega arith) known
          (onward_map final _ _ (and_then (exec_all (call_at packages more) f.body (first_locals f vs) (world left variables arrays output)) results_of)
          (λ rs w1 on known2 few2. on known2 (omega (arith, few, few2)) (place + 1) high long (stands_next code place _ k st)) h))

    by_symbol : (run : List Value → Function → ProgramState → Outcome (List Value)) (s : Symbol) (o : Option Function) → function_by_symbol packages s ≡ o → (vs : List Value) (w : ProgramState) (Q : Outcome (List Value) → Type 0) (R : Type 0) → (Q Stuck → R) → ((f : Function) → function_by_symbol packages s ≡ Some f → are_of f.parameters vs ≡ true → Q (with_tick w (run vs f)) → R) → Q (enter_function o vs w (run vs)) → R
    by_symbol run s None is vs w Q R stuck go h = stuck h
    by_symbol run s (Some f) is vs w Q R stuck go h = by_test (are_of f.parameters vs) refl h
      where
        by_test : (b : Bool) → are_of f.parameters vs ≡ b → Q (if b then with_tick w (run vs f) else Stuck) → R
        by_test true e h = go f is e h
        by_test false e h = stuck h

    pub called_within : (left : ℕ) → Within left
    called_within zero depth code callers at level s t vs k front m stack w h =
        by_symbol (λ arguments f w1. Ends (Panicked Depth) w1.output) s (function_by_symbol packages s) refl vs w (Onward final (λ rs w1. On image final depth code callers starts (places at) t k front m (stack ++ flat_map flat rs) w1)) _ (λ stuck. absurd stuck)
        (λ f is typed more. panics depth code callers at level s f is vs typed t k front m stack w.ticks w.variables w.arrays w.output more) h
    called_within (suc left) depth code callers at level s t vs k front m stack w h =
        by_symbol (λ arguments f w1. and_then (exec_all (call_at packages left) f.body (first_locals f arguments) w1) results_of) s (function_by_symbol packages s) refl vs w (Onward final (λ rs w1. On image final depth code callers starts (places at) t k front m (stack ++ flat_map flat rs) w1)) _ (λ stuck. absurd stuck)
        (λ f is typed more. enters depth code callers at left (called_within left) level s f is vs typed t k front m stack w.ticks w.variables w.arrays w.output more) h

-- ---- bodies, for calls and for start steps

module _ (image : Image) (final : Final) (packages : List Package) (globals : Symbol → ℕ) (functions : Symbol → ℕ) where
  -- the package variables lie where the code looks for them
  abbrev pub Lies : ProgramState → Type 0
  Lies w = Sized w.variables × ((s : Symbol) → globals s ≡ global_at w.variables s)

  -- between two instructions, or two start steps
  abbrev pub state : List Frame → List Start → ProgramState → State
  state frames starts w = record { frames = frames; starts = starts; globals = held w.variables; rows = held_rows w.arrays; ticks = w.ticks; output = w.output }

  -- a function that is entered, with so many calls open, so that n more may be
  pub body_leads : ((s : Symbol) (f : Function) → function_by_symbol packages s ≡ Some f → slice_get image.functions (functions s) ≡ Some (translated globals functions f)) → ((starts : List Start) → BodiesRun image final starts packages globals functions) → (n depth : ℕ) → depth + n ≡ most_open image.edition → (t : ℕ) (callers : List Frame) (starts : List Start) (f : Function) (vs : List Value) (w : ProgramState) → are_of f.parameters vs ≡ true → Lies w → w.ticks ≤ t →
      Onward final (λ rs w1. Lies w1 → w1.ticks ≤ t → Leads image (state (back_in callers (flat_map flat rs)) starts w1) final) (and_then (exec_all (call_at packages n) f.body (first_locals f vs) w) results_of) →
      Leads image (state (opened depth (translated globals functions f).code (translated globals functions f).cells (flat_map flat vs) ∷ callers) starts w) final
  body_leads found bodies n depth level t callers starts f vs w typed lies few h =
      let inner : Function → List (Instr ℕ) = λ g. (translated globals functions g).code in
      function_follows image final starts packages globals functions (bodies starts) (call_at packages n) f depth callers vs t w
      (called_within image final starts packages globals functions found (bodies starts) n depth (inner f) callers (slice_index (slots 0 (local_types f))) level) typed few lies h
