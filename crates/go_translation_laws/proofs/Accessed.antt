-- The machine follows loads and stores at an offset: of parts of local variables and of package variables.
use Rattle.std.proofs.Common.{◌≡◌, ℕ, ◌+◌, List, [], ◌∷◌, ◌++◌, length, Some, true, refl, sym, ap, ◌∙◌, subst, append_assoc, pos}
use Rattle.std.specs.Option.{option_map}
use Rattle.go_code.specs.declared.cell.Cell.{Cell}
use Rattle.go_code.specs.declared.cell.Cell.TheVariants.{Int}
use Rattle.go_code.specs.declared.image.Start.{Start}
use Rattle.go_code.specs.declared.instr.AccessInstr.TheVariants.{LoadAt, StoreAt}
use Rattle.go_code.specs.declared.instr.Instr.{Instr}
use Rattle.go_code.specs.declared.instr.Instr.TheVariants.{Local as On_cells, Global as On_globals}
use Rattle.go_code.specs.Accesses.{access, cells_at, cells_with, loaded, stored, with_offset, split_top}
use Rattle.go_code.specs.Finals.{Final}
use Rattle.go_code.specs.Images.{Image}
use Rattle.go_code.specs.Machine.{Frame}
use Rattle.go_code.proofs.Follows.{split_row}
use Rattle.go_code.proofs.FollowsInside.{local_leads, global_leads}
use Rattle.go_code.proofs.Stands.{stands_next}
use Rattle.go_types.specs.Types.{Type'}
use Rattle.go_code.specs.Operators as operators
use Rattle.go_code.specs.Operators.{Operated}
use Rattle.go_meaning.specs.Values.{Value, is_of, Step, read, updated}
use Rattle.go_meaning.specs.Meaning.{Stored, ProgramState, typed_or_panic, or_panic}
use Rattle.go_gen.specs.Translation.{Places}
use Rattle.go_translation_laws.proofs.Frames.{read_row, write_row}
use Rattle.go_translation_laws.proofs.Runs.{Onward, onward_given, held, here, Known, On}
use Rattle.go_translation_laws.proofs.Steps.{Led, update_panics, update_senseless}
use Rattle.go_translation_laws.proofs.Addresses.{Has, Reach}

-- ---- what such instructions reach

-- so many cells of those that lie there
loads_row : (all : List Cell) (first count o : ℕ) (row stack : List Cell) → cells_at all (first + o) count ≡ Some row → access (LoadAt first count) all (stack ++ Int (pos o) ∷ []) ≡ Some (record { cells = all; stack = stack ++ row })
loads_row all first count o row stack e =
    ap (λ parts. with_offset parts (λ rest offset. loaded all rest (first + offset) count)) (split_row stack (Int (pos o) ∷ []) 1 refl)
    ∙ ap (option_map (λ r. record { cells = all; stack = stack ++ r })) e

stores_row : (all new : List Cell) (first count o : ℕ) (row stack : List Cell) → length row ≡ count → cells_with all (first + o) row ≡ Some new → access (StoreAt first count) all ((stack ++ row) ++ Int (pos o) ∷ []) ≡ Some (record { cells = new; stack = stack })
stores_row all new first count o row stack long e =
    ap (λ parts. with_offset parts (λ rest offset. stored all (first + offset) (split_top count rest))) (split_row (stack ++ row) (Int (pos o) ∷ []) 1 refl)
    ∙ ap (stored all (first + o)) (split_row stack row count long)
    ∙ ap (option_map (λ r. record { cells = r; stack = stack })) e

module _ (image : Image) (final : Final) (depth : ℕ) (code : List (Instr ℕ)) (callers : List Frame) (starts : List Start) (p : Places ℕ) where
  abbrev Onto : ℕ → List (Instr ℕ) → List Cell → ℕ → List Cell → ProgramState → Type 0
  Onto t k front m stack w = On image final depth code callers starts p t k front m stack w

  abbrev KnownIn : ProgramState → Type 0
  KnownIn w = Known image final depth code callers starts p w

  -- what is known of the package variables may be used
  pub on_known : (t : ℕ) (k : List (Instr ℕ)) (front : List Cell) (m : ℕ) (stack : List Cell) (w : ProgramState) → (KnownIn w → Onto t k front m stack w) → Onto t k front m stack w
  on_known t k front m stack w on known = on known known

  -- ---- the frame's cells

  pub loads_at : (t first count o : ℕ) (row : List Cell) (k : List (Instr ℕ)) (front : List Cell) (m : ℕ) (stack : List Cell) (w : ProgramState) → Has front (first + o) row → length row ≡ count → Onto t k front m (stack ++ row) w → Onto t (On_cells (LoadAt first count) ∷ k) front m (stack ++ Int (pos o) ∷ []) w
  loads_at t first count o row k front m stack w has long on known few place high size s =
      let shape : (has.before ++ (row ++ has.after)) ++ high ≡ has.before ++ (row ++ (has.after ++ high)) = simp append_assoc in
      let read : cells_at (front ++ high) (first + o) count ≡ Some row =
      ap (λ l. cells_at l (first + o) count) (ap (λ l. l ++ high) has.is ∙ shape) ∙ read_row has.before row (has.after ++ high) (first + o) count has.place long in
      local_leads image (here image final depth code callers starts p place (front ++ high) (stack ++ Int (pos o) ∷ []) w) _ callers (LoadAt first count) (record { cells = front ++ high; stack = stack ++ row }) final (record { frames = refl; rest = k; stands = s })
      (loads_row (front ++ high) first count o row stack read)
      (on known few (place + 1) high size (stands_next code place _ k s))

  pub stores_at : (t first count o : ℕ) (before old row after : List Cell) (k : List (Instr ℕ)) (m : ℕ) (stack : List Cell) (w : ProgramState) → length before ≡ first + o → length row ≡ length old → length row ≡ count → Onto t k (before ++ (row ++ after)) m stack w → Onto t (On_cells (StoreAt first count) ∷ k) (before ++ (old ++ after)) m ((stack ++ row) ++ Int (pos o) ∷ []) w
  stores_at t first count o before old row after k m stack w at same long on known few place high size s =
      let all : List Cell = (before ++ (old ++ after)) ++ high in
      let new : List Cell = (before ++ (row ++ after)) ++ high in
      let shape : all ≡ before ++ (old ++ (after ++ high)) = simp append_assoc in
      let renewed : new ≡ before ++ (row ++ (after ++ high)) = simp append_assoc in
      let write : cells_with all (first + o) row ≡ Some new =
      ap (λ l. cells_with l (first + o) row) shape ∙ write_row before old row (after ++ high) (first + o) at same ∙ ap Some (sym renewed) in
      local_leads image (here image final depth code callers starts p place all ((stack ++ row) ++ Int (pos o) ∷ []) w) _ callers (StoreAt first count) (record { cells = new; stack = stack }) final (record { frames = refl; rest = k; stands = s })
      (stores_row all new first count o row stack long write)
      (on known few (place + 1) high size (stands_next code place _ k s))

  -- ---- the package variables

  pub global_loads_at : (t first count o : ℕ) (row : List Cell) (k : List (Instr ℕ)) (front : List Cell) (m : ℕ) (stack : List Cell) (w : ProgramState) → Has (held w.variables) (first + o) row → length row ≡ count → Onto t k front m (stack ++ row) w → Onto t (On_globals (LoadAt first count) ∷ k) front m (stack ++ Int (pos o) ∷ []) w
  global_loads_at t first count o row k front m stack w has long on known few place high size s =
      let read : cells_at (held w.variables) (first + o) count ≡ Some row =
      ap (λ l. cells_at l (first + o) count) has.is ∙ read_row has.before row has.after (first + o) count has.place long in
      global_leads image (here image final depth code callers starts p place (front ++ high) (stack ++ Int (pos o) ∷ []) w) _ callers (LoadAt first count) (record { cells = held w.variables; stack = stack ++ row }) final (record { frames = refl; rest = k; stands = s })
      (loads_row (held w.variables) first count o row stack read)
      (on known few (place + 1) high size (stands_next code place _ k s))

  pub global_stores_at : (t first count o : ℕ) (before old row after : List Cell) (variables : List Stored) (k : List (Instr ℕ)) (front : List Cell) (m : ℕ) (stack : List Cell) (w : ProgramState) → held w.variables ≡ before ++ (old ++ after) → held variables ≡ before ++ (row ++ after) → length before ≡ first + o → length row ≡ length old → length row ≡ count → KnownIn (record w { variables = variables }) → Onto t k front m stack (record w { variables = variables }) → Onto t (On_globals (StoreAt first count) ∷ k) front m ((stack ++ row) ++ Int (pos o) ∷ []) w
  global_stores_at t first count o before old row after variables k front m stack w was is at same long sound on known few place high size s =
      let write : cells_with (held w.variables) (first + o) row ≡ Some (held variables) =
      ap (λ l. cells_with l (first + o) row) was ∙ write_row before old row after (first + o) at same ∙ ap Some (sym is) in
      global_leads image (here image final depth code callers starts p place (front ++ high) ((stack ++ row) ++ Int (pos o) ∷ []) w) _ callers (StoreAt first count) (record { cells = held variables; stack = stack }) final (record { frames = refl; rest = k; stands = s })
      (stores_row (held w.variables) (held variables) first count o row stack long write)
      (on sound few (place + 1) high size (stands_next code place _ k s))

  -- ---- parts

  -- what is behind a value that is read, and behind one that is updated
  pub reach_given : (P : Value → ProgramState → Type 0) (Q : ℕ → Type 0) (of : Type') (ss : List Step) (v : Value) (w : ProgramState) (r : Operated Value) → Onward final P (typed_or_panic of r w) → ((x : Value) (o : ℕ) → Led ss v x o → is_of of x ≡ true → P x w → Q o) → Reach image final depth code callers starts p Q ss v w r
  reach_given P Q of ss v w (operators.Gives x) h f = λ o led. let g = onward_given final P of x w h in f x o led g.0 g.1
  reach_given P Q of ss v w (operators.Panics kind) h f = h
  reach_given P Q of ss v w operators.Senseless h f = absurd h

  pub reach_changed : (P : Value → ProgramState → Type 0) (Q : ℕ → Type 0) (ss : List Step) (v y : Value) (w : ProgramState) (r : Operated Value) → read ss v ≡ r → Onward final P (or_panic (updated ss v y) w) → ((x : Value) (o : ℕ) (led : Led ss v x o) → P (led.renewed y).new w → Q o) → Reach image final depth code callers starts p Q ss v w r
  reach_changed P Q ss v y w (operators.Gives x) e h f = λ o led. f x o led (subst (λ r. Onward final P (or_panic r w)) (led.renewed y).is h)
  reach_changed P Q ss v y w (operators.Panics kind) e h f = subst (λ r. Onward final P (or_panic r w)) (update_panics ss v y kind e) h
  reach_changed P Q ss v y w operators.Senseless e h f = absurd (subst (λ r. Onward final P (or_panic r w)) (update_senseless ss v y e) h)
