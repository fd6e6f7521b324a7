-- The machine follows the code of expressions: where their meaning goes, the machine goes.
--
-- How the equality of source and machine is built, of which this page has the expressions.
--
-- A frame's cells are `front ++ high`: `high` are the cells for the temporaries of the code that runs, which may hold anything, and
-- `front` all cells before them: the rows of the local variables (Frames), and behind these the temporaries of the code around it.
-- Code of an expression leaves `front` as it is; code of a statement changes the rows alone, so that Fits holds again.
--
-- `On t k front m stack w` says that the machine comes to the end `final` from wherever k stands, for all m cells of `high`. Its
-- premises are handed on from place to place, so that nothing is proved of meanings beside it: the package variables lie where
-- the code looks for them (Known), and no more than t ticks are left. The latter is what a loop needs, whose meaning makes as many turns
-- as there were ticks at its entry.
--
-- A meaning `Onward final P o` goes on by P where it gives an answer, or the end is `final`; it isn't stuck. So each lemma reads: what is
-- known behind the meaning of a tree is known before its code. What a type says of a value is known from `given`.
--
-- A call is a hypothesis here (Called). It is proved by induction on how many calls may be open still, with calls open + left = as many as the image's edition allows:
-- Call leads into the function's body by its arguments' cells, where parameters' rows are these cells and all others are 0, and
-- Return leads back to this frame.
--
-- Statements (Following): `Follows t k locals low m stack w` is On for all rows that fit the locals. A statement's code, with
-- `Past rest b brk` and `Past rest c next` (so many instructions on stand what a break and a continue lead to), follows its meaning
-- by After: normal to rest, breaks to brk, continues to next, returns to the caller. A loop is by induction on its turns, with t one less
-- in each, and its jump back leads to the place where its body is known to stand; a switch first by its tests, whose jumps are
-- counted by the codes of the clauses, then by the clauses from the chosen one on.
-- Assignments: the operands' temporaries are a part of `low` while the values are evaluated; then `read` and `updated` along steps
-- are LoadAt and StoreAt at the offset that Move and Index make (Shapes: where a part's cells lie among its value's).
-- At last linking: an image's functions are the objects' with numbers in the places of symbols, so the codes here are those of the image.
use Rattle.std.proofs.Common.{◌≡◌, ℕ, ◌+◌, ◌≤◌, Bool, true, false, cond, nat_eq, List, [], ◌∷◌, ◌++◌, length, Option, Some, None, refl, sym, ap, ◌∙◌, subst, arith, length-append, append_assoc, append-nil}
use Rattle.std.specs.Prelude.{if◌then◌else◌, slice_get, slice_index, ⊤}
use Rattle.std.specs.List.{flat_map, find}
use Rattle.std.specs.Option.{option_map, option_and_then}
use Rattle.go_types.specs.Types.{Type'}
use Rattle.go_types.specs.Sizes.{cells}
use Rattle.go_code.specs.declared.cell.Cell.{Cell}
use Rattle.go_code.specs.declared.ending.PanicKind.{PanicKind}
use Rattle.go_code.specs.declared.image.Start.{Start}
use Rattle.go_code.specs.declared.instr.Instr.{Instr}
use Rattle.go_code.specs.declared.instr.Instr.TheVariants.{Global as On_globals, Operate}
use Rattle.go_code.specs.declared.instr.AccessInstr.TheVariants.{Load}
use Rattle.go_code.specs.declared.operator.Operator as on_cells
use Rattle.go_code.specs.Accesses.{cells_at}
use Rattle.go_code.specs.Finals.{Final, Ends as Ends_with}
use Rattle.go_code.specs.Images.{Image}
use Rattle.go_code.specs.Machine.{Frame, State, Leads}
use Rattle.go_code.specs.Operators as operators
use Rattle.go_code.specs.Operators.{Operated, operands, operate}
use Rattle.go_code.proofs.FollowsInside.{local_leads, global_leads, operate_leads, operate_panics}
use Rattle.go_code.proofs.Stands.{Stands, stands_next, stands_as}
use Rattle.go_typed.specs.Trees.{Symbol}
use Rattle.go_meaning.specs.Values.{Value, single, flat, is_of, or_else, if_gives}
use Rattle.go_meaning.specs.Choices.{applied, operated}
use Rattle.go_symbol.specs.Symbols.{same_symbol}
use Rattle.go_meaning.specs.Meaning.{Stored, ProgramState, Outcome, Gives, Ends, Stuck, Local, Locals, and_then, typed_or_panic, or_panic, local_value, global_value}
use Rattle.go_gen.specs.Translation.{Places, slots, load, operators_code}
use Rattle.go_translation_laws.proofs.Frames.{RowOf, Fits, lies, together, types_of, read_row}
use Rattle.go_meaning_laws.proofs.Values.{flat_long}
use Rattle.go_translation_laws.proofs.Shapes.{same_number}
use Rattle.go_translation_laws.proofs.RowLemmas.{rows as held_rows}

-- ---- what the machine does behind an outcome

-- an answer is gone on from; where the program ends this is the end
abbrev pub Onward : {A : Type 0} → Final → (A → ProgramState → Type 0) → Outcome A → Type 0
Onward {A} final P (Gives a w) = P a w
Onward {A} final P (Ends ending output) = final ≡ Ends_with ending output
Onward {A} final P Stuck = ⊥

pub onward_then : {A B : Type 0} (final : Final) (P : B → ProgramState → Type 0) (o : Outcome A) (next : A → ProgramState → Outcome B) → Onward final P (and_then o next) → Onward final (λ a w. Onward final P (next a w)) o
onward_then final P (Gives a w) next h = h
onward_then final P (Ends ending output) next h = h
onward_then final P Stuck next h = h

pub onward_map : {A : Type 0} (final : Final) (P Q : A → ProgramState → Type 0) (o : Outcome A) → ((a : A) (w : ProgramState) → P a w → Q a w) → Onward final P o → Onward final Q o
onward_map final P Q (Gives a w) f h = f a w h
onward_map final P Q (Ends ending output) f h = h
onward_map final P Q Stuck f h = h

-- a value that is given is one of its type
pub onward_given : (final : Final) (P : Value → ProgramState → Type 0) (t : Type') (v : Value) (w : ProgramState) → Onward final P (typed_or_panic t (operators.Gives v) w) → (is_of t v ≡ true) × P v w
onward_given final P t v w h = by_test (is_of t v) refl h
  where
    by_test : (b : Bool) → is_of t v ≡ b → Onward final P (if b then Gives v w else Stuck) → (is_of t v ≡ true) × P v w
    by_test true e h = (e, h)
    by_test false e h = absurd h

-- ---- package variables

-- their cells, which are the globals of the machine
abbrev pub held : List Stored → List Cell
held variables = flat_map (λ stored. flat stored.value) variables

-- each has as many cells as its type says
abbrev pub Sized : List Stored → Type 0
Sized [] = ⊤
Sized (x ∷ xs) = (length (flat x.value) ≡ cells x.of) × Sized xs

-- where the first of a symbol lies
abbrev pub global_at : List Stored → Symbol → ℕ
global_at [] s = 0
global_at (x ∷ xs) s = if same_symbol s x.symbol then 0 else cells x.of + global_at xs s

-- ---- one frame, in which the code runs

module _ (image : Image) (final : Final) (depth : ℕ) (code : List (Instr ℕ)) (callers : List Frame) (starts : List Start) (p : Places ℕ) where
  -- the frame at a place, with its cells and a stack
  abbrev pub here : ℕ → List Cell → List Cell → ProgramState → State
  here place cells stack w = record { frames = record { depth = depth; code = code; place = place; cells = cells; stack = stack } ∷ callers; starts = starts; globals = held w.variables; rows = held_rows w.arrays; ticks = w.ticks; output = w.output }

  -- the package variables lie where the code looks for them
  abbrev pub Known : ProgramState → Type 0
  Known w = Sized w.variables × ((s : Symbol) → p.globals s ≡ global_at w.variables s)

  -- wherever these instructions stand, and whatever the temporaries hold, the machine comes from there to the end
  abbrev pub On : ℕ → List (Instr ℕ) → List Cell → ℕ → List Cell → ProgramState → Type 0
  On t k front m stack w =
      Known w → w.ticks ≤ t → (place : ℕ) (high : List Cell) → length high ≡ m → Stands code place k → Leads image (here place (front ++ high) stack w) final

  pub on_as : (t : ℕ) (j k : List (Instr ℕ)) (front : List Cell) (m : ℕ) (stack : List Cell) (w : ProgramState) → j ≡ k → On t j front m stack w → On t k front m stack w
  on_as t j k front m stack w e on known few place high long s = on known few place high long (stands_as code place k j (sym e) s)

  pub on_stack : (t : ℕ) (k : List (Instr ℕ)) (front : List Cell) (m : ℕ) (stack other : List Cell) (w : ProgramState) → stack ≡ other → On t k front m stack w → On t k front m other w
  on_stack t k front m stack other w e on = subst (λ s. On t k front m s w) e on

  -- the local variables lie in front
  pub record Sits (locals : Locals) (front : List Cell) : Type 0 where
    pub rows : List (List Cell)
    pub low : List Cell
    pub is : front ≡ together rows ++ low
    pub fits : Fits rows locals
    pub placed : (n : ℕ) → p.locals n ≡ slice_index (slots 0 (types_of locals)) n

  -- ---- a local variable

  pub record LocalKnown (P : Value → ProgramState → Type 0) (locals : Locals) (t : Type') (n : ℕ) (w : ProgramState) : Type 0 where
    pub l : Local
    pub v : Value
    pub found : slice_get locals n ≡ Some l
    pub value : l.value ≡ Some v
    pub typed : is_of t v ≡ true
    pub holds : P v w

  local_valued : (P : Value → ProgramState → Type 0) (locals : Locals) (t : Type') (n : ℕ) (w : ProgramState) (l : Local) (o : Option Value) → slice_get locals n ≡ Some l → l.value ≡ o → Onward final P (typed_or_panic t (or_else operators.Senseless o) w) → LocalKnown P locals t n w
  local_valued P locals t n w l None found e h = absurd h
  local_valued P locals t n w l (Some v) found e h =
      let g = onward_given final P t v w h in
      record { l = l; v = v; found = found; value = e; typed = g.0; holds = g.1 }

  pub local_known : (P : Value → ProgramState → Type 0) (locals : Locals) (t : Type') (n : ℕ) (w : ProgramState) (o : Option Local) → slice_get locals n ≡ o → Onward final P (typed_or_panic t (or_else operators.Senseless (option_and_then (λ l. l.value) o)) w) → LocalKnown P locals t n w
  local_known P locals t n w None e h = absurd h
  local_known P locals t n w (Some l) e h = local_valued P locals t n w l l.value e refl h

  -- its cells, read from the frame's
  local_read : (locals : Locals) (front high : List Cell) (t : Type') (n : ℕ) (l : Local) (v : Value) → Sits locals front → slice_get locals n ≡ Some l → l.value ≡ Some v → is_of t v ≡ true → cells_at (front ++ high) (p.locals n) (cells t) ≡ Some (flat v)
  local_read locals front high t n l v sits found value typed =
      let at = lies sits.rows locals 0 n l sits.fits found in
      let row : at.row ≡ flat v = subst (λ (o : Option Value). RowOf at.row o) value at.fits.1 in
      let place : length at.before ≡ p.locals n = omega (arith, sits.placed n, at.place) in
      let long : length at.row ≡ cells t = ap length row ∙ flat_long t v typed in
      let shape : ((at.before ++ (at.row ++ at.after)) ++ sits.low) ++ high ≡ at.before ++ (at.row ++ ((at.after ++ sits.low) ++ high)) = simp append_assoc in
      let all : front ++ high ≡ at.before ++ (at.row ++ ((at.after ++ sits.low) ++ high)) =
      ap (λ x. x ++ high) (sits.is ∙ ap (λ x. x ++ sits.low) at.is) ∙ shape in
      ap (λ x. cells_at x (p.locals n) (cells t)) all ∙ read_row at.before at.row ((at.after ++ sits.low) ++ high) (p.locals n) (cells t) place long ∙ ap Some row

  pub local_runs : (t : ℕ) (of : Type') (n : ℕ) (locals : Locals) (k : List (Instr ℕ)) (front : List Cell) (m : ℕ) (stack : List Cell) (w : ProgramState) → Sits locals front → Onward final (λ v w1. is_of of v ≡ true → On t k front m (stack ++ flat v) w1) (typed_or_panic of (local_value locals n) w) → On t (load (p.locals n) (cells of) ∷ k) front m stack w
  local_runs t of n locals k front m stack w sits h known few place high long s =
      let g = local_known (λ v w1. is_of of v ≡ true → On t k front m (stack ++ flat v) w1) locals of n w (slice_get locals n) refl h in
      local_leads image (here place (front ++ high) stack w) _ callers (Load (p.locals n) (cells of)) (record { cells = front ++ high; stack = stack ++ flat g.v }) final (record { frames = refl; rest = k; stands = s })
      (ap (option_map (λ row. record { cells = front ++ high; stack = stack ++ row })) (local_read locals front high of n g.l g.v sits g.found g.value g.typed))
      (g.holds g.typed known few (place + 1) high long (stands_next code place _ k s))

  -- ---- a package variable

  -- the first of a symbol has cells that lie where its place says
  pub record GlobalLies (variables : List Stored) (s : Symbol) (v : Value) : Type 0 where
    pub before : List Cell
    pub after : List Cell
    pub is : held variables ≡ before ++ (flat v ++ after)
    pub place : length before ≡ global_at variables s

  pub global_lies : (variables : List Stored) (s : Symbol) (v : Value) → Sized variables → option_map (λ x. x.value) (find (λ x. same_symbol s x.symbol) variables) ≡ Some v → GlobalLies variables s v
  global_lies [] s v sized e = cc
  global_lies (x ∷ xs) s v sized e = by_test (global_lies xs s v sized.1) (same_symbol s x.symbol) refl e
    where
      same_value : (a b : Value) → Some a ≡ Some b → a ≡ b
      same_value a b e = cc

      by_test : (option_map (λ y. y.value) (find (λ y. same_symbol s y.symbol) xs) ≡ Some v → GlobalLies xs s v) → (b : Bool) → same_symbol s x.symbol ≡ b → option_map (λ y. y.value) (cond b (Some x) (find (λ y. same_symbol s y.symbol) xs)) ≡ Some v → GlobalLies (x ∷ xs) s v
      by_test others true found e =
          record {
            before = [];
            after = held xs;
            is = ap (λ y. flat y ++ held xs) (same_value x.value v e);
            place = ap (λ b. if b then 0 else cells x.of + global_at xs s) (sym found);
          }
      by_test others false found e =
          let h = others e in
          let long : length (flat x.value ++ h.before) ≡ cells x.of + global_at xs s = omega (arith, length-append (flat x.value) h.before, sized.0, h.place) in
          record {
            before = flat x.value ++ h.before;
            after = h.after;
            is = ap (λ l. flat x.value ++ l) h.is ∙ sym (append_assoc (flat x.value) h.before (flat v ++ h.after));
            place = long ∙ ap (λ b. if b then 0 else cells x.of + global_at xs s) (sym found);
          }

  pub record GlobalKnown (P : Value → ProgramState → Type 0) (of : Type') (s : Symbol) (w : ProgramState) : Type 0 where
    pub v : Value
    pub found : option_map (λ x. x.value) (find (λ x. same_symbol s x.symbol) w.variables) ≡ Some v
    pub typed : is_of of v ≡ true
    pub holds : P v w

  pub global_known : (P : Value → ProgramState → Type 0) (of : Type') (s : Symbol) (w : ProgramState) (o : Option Value) → option_map (λ x. x.value) (find (λ x. same_symbol s x.symbol) w.variables) ≡ o → Onward final P (typed_or_panic of (or_else operators.Senseless o) w) → GlobalKnown P of s w
  global_known P of s w None e h = absurd h
  global_known P of s w (Some v) e h =
      let g = onward_given final P of v w h in
      record { v = v; found = e; typed = g.0; holds = g.1 }

  pub global_runs : (t : ℕ) (of : Type') (s : Symbol) (k : List (Instr ℕ)) (front : List Cell) (m : ℕ) (stack : List Cell) (w : ProgramState) → Onward final (λ v w1. is_of of v ≡ true → On t k front m (stack ++ flat v) w1) (typed_or_panic of (global_value w.variables s) w) → On t (On_globals (Load (p.globals s) (cells of)) ∷ k) front m stack w
  global_runs t of s k front m stack w h known few place high long st =
      let g = global_known (λ v w1. is_of of v ≡ true → On t k front m (stack ++ flat v) w1) of s w (option_map (λ x. x.value) (find (λ x. same_symbol s x.symbol) w.variables)) refl h in
      let at = global_lies w.variables s g.v known.0 g.found in
      let read : cells_at (held w.variables) (p.globals s) (cells of) ≡ Some (flat g.v) =
      ap (λ l. cells_at l (p.globals s) (cells of)) at.is ∙ read_row at.before (flat g.v) at.after (p.globals s) (cells of) (at.place ∙ sym (known.1 s)) (flat_long of g.v g.typed) in
      global_leads image (here place (front ++ high) stack w) _ callers (Load (p.globals s) (cells of)) (record { cells = held w.variables; stack = stack ++ flat g.v }) final (record { frames = refl; rest = k; stands = st })
      (ap (option_map (λ row. record { cells = held w.variables; stack = stack ++ row })) read)
      (g.holds g.typed known few (place + 1) high long (stands_next code place _ k st))

  -- ---- operators, one behind the other

  -- an operator that has as many cells as it takes
  record AppliedTo (operator : on_cells.Operator) (row : List Cell) (o : Operated Cell) : Type 0 where
    long : length row ≡ operands operator
    is : operate operator row ≡ o

  applied_gives : (operator : on_cells.Operator) (row : List Cell) (b : Bool) (c : Cell) → nat_eq (length row) (operands operator) ≡ b → (if b then operate operator row else operators.Senseless) ≡ operators.Gives c → AppliedTo operator row (operators.Gives c)
  applied_gives operator row true c e is = record { long = same_number (length row) (operands operator) e; is = is }
  applied_gives operator row false c e is = cc

  applied_panics : (operator : on_cells.Operator) (row : List Cell) (b : Bool) (kind : PanicKind) → nat_eq (length row) (operands operator) ≡ b → (if b then operate operator row else operators.Senseless) ≡ operators.Panics kind → AppliedTo operator row (operators.Panics kind)
  applied_panics operator row true kind e is = record { long = same_number (length row) (operands operator) e; is = is }
  applied_panics operator row false kind e is = cc

  operator_runs : (t : ℕ) (operator : on_cells.Operator) (ops : List on_cells.Operator) (row : List Cell) (o : Operated Cell) → applied operator row ≡ o → (k : List (Instr ℕ)) (front : List Cell) (m : ℕ) (stack : List Cell) (w : ProgramState) → ((c : Cell) → Onward final (λ v w1. On t k front m (stack ++ flat v) w1) (or_panic (operated ops (single c ∷ [])) w) → On t (operators_code ops ++ k) front m (stack ++ c ∷ []) w) → Onward final (λ v w1. On t k front m (stack ++ flat v) w1) (or_panic (if_gives o (λ c. operated ops (single c ∷ []))) w) → On t (Operate operator ∷ (operators_code ops ++ k)) front m (stack ++ row) w
  operator_runs t operator ops row (operators.Gives c) e k front m stack w next h known few place high long s =
      let a = applied_gives operator row (nat_eq (length row) (operands operator)) c refl e in
      operate_leads image (here place (front ++ high) (stack ++ row) w) _ callers operator stack row c final (record { frames = refl; rest = operators_code ops ++ k; stands = s }) (record { is = refl; long = a.long }) a.is
      (next c h known few (place + 1) high long (stands_next code place _ _ s))
  operator_runs t operator ops row (operators.Panics kind) e k front m stack w next h known few place high long s =
      let a = applied_panics operator row (nat_eq (length row) (operands operator)) kind refl e in
      subst (Leads image (here place (front ++ high) (stack ++ row) w)) (sym h)
      (operate_panics image (here place (front ++ high) (stack ++ row) w) _ callers operator stack row kind (record { frames = refl; rest = operators_code ops ++ k; stands = s }) (record { is = refl; long = a.long }) a.is)
  operator_runs t operator ops row operators.Senseless e k front m stack w next h known few place high long s = absurd h

  -- whatever type the value has
  pub operators_change : (t : ℕ) (ops : List on_cells.Operator) (vs : List Value) (k : List (Instr ℕ)) (front : List Cell) (m : ℕ) (stack : List Cell) (w : ProgramState) → Onward final (λ v w1. On t k front m (stack ++ flat v) w1) (or_panic (operated ops vs) w) → On t (operators_code ops ++ k) front m (stack ++ flat_map flat vs) w
  operators_change t [] [] k front m stack w h = absurd h
  operators_change t [] (v ∷ []) k front m stack w h = on_stack t k front m _ _ w (ap (λ l. stack ++ l) (sym (append-nil (flat v)))) h
  operators_change t [] (v ∷ u ∷ us) k front m stack w h = absurd h
  operators_change t (operator ∷ ops) vs k front m stack w h =
      operator_runs t operator ops (flat_map flat vs) (applied operator (flat_map flat vs)) refl k front m stack w (λ c. operators_change t ops (single c ∷ []) k front m stack w) h

  -- what is known of a value of the type is known of what is given
  changed_given : (P : Value → ProgramState → Type 0) (of : Type') (o : Operated Value) (w : ProgramState) → Onward final (λ v w1. is_of of v ≡ true → P v w1) (typed_or_panic of o w) → Onward final P (or_panic o w)
  changed_given P of (operators.Gives v) w h = (let g = onward_given final (λ v w1. is_of of v ≡ true → P v w1) of v w h in g.1 g.0)
  changed_given P of (operators.Panics kind) w h = h
  changed_given P of operators.Senseless w h = absurd h

  pub operators_run : (t : ℕ) (of : Type') (ops : List on_cells.Operator) (vs : List Value) (k : List (Instr ℕ)) (front : List Cell) (m : ℕ) (stack : List Cell) (w : ProgramState) → Onward final (λ v w1. is_of of v ≡ true → On t k front m (stack ++ flat v) w1) (typed_or_panic of (operated ops vs) w) → On t (operators_code ops ++ k) front m (stack ++ flat_map flat vs) w
  operators_run t of ops vs k front m stack w h =
      operators_change t ops vs k front m stack w (changed_given (λ v w1. On t k front m (stack ++ flat v) w1) of (operated ops vs) w h)
