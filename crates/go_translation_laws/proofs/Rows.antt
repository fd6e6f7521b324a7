-- The machine follows loads and stores of whole rows of a frame's cells (Runs says how all is built).
use Rattle.std.proofs.Common.{◌≡◌, ℕ, ◌+◌, ◌-◌, ◌≤◌, List, [], ◌∷◌, ◌++◌, length, Some, refl, sym, ap, ◌∙◌, subst, append_assoc, append-nil}
use Rattle.std.specs.Option.{option_map}
use Rattle.go_code.specs.declared.cell.Cell.{Cell}
use Rattle.go_code.specs.declared.image.Start.{Start}
use Rattle.go_code.specs.declared.instr.AccessInstr.TheVariants.{Load, Store}
use Rattle.go_code.specs.declared.instr.Instr.{Instr}
use Rattle.go_code.specs.Accesses.{cells_at, cells_with, stored}
use Rattle.go_code.specs.Finals.{Final}
use Rattle.go_code.specs.Images.{Image}
use Rattle.go_code.specs.Machine.{Frame}
use Rattle.go_code.proofs.Follows.{split_row}
use Rattle.go_code.proofs.FollowsInside.{local_leads}
use Rattle.go_code.proofs.Stands.{stands_next}
use Rattle.go_meaning.specs.Meaning.{ProgramState}
use Rattle.go_gen.specs.Translation.{Places, load, store}
use Rattle.go_translation_laws.proofs.Frames.{read_row, write_row}
use Rattle.go_translation_laws.proofs.Runs.{here, On}
use Rattle.go_translation_laws.proofs.Exprs.{deeper}

module _ (image : Image) (final : Final) (depth : ℕ) (code : List (Instr ℕ)) (callers : List Frame) (starts : List Start) (p : Places ℕ) where
  abbrev Onto : ℕ → List (Instr ℕ) → List Cell → ℕ → List Cell → ProgramState → Type 0
  Onto t k front m stack w = On image final depth code callers starts p t k front m stack w

  pub on_front : (t : ℕ) (k : List (Instr ℕ)) (front other : List Cell) (m : ℕ) (stack : List Cell) (w : ProgramState) → front ≡ other → Onto t k front m stack w → Onto t k other m stack w
  on_front t k front other m stack w e on = subst (λ f. Onto t k f m stack w) e on

  -- a row that lies in front comes on the stack
  pub loads : (t first count : ℕ) (before row after : List Cell) (k : List (Instr ℕ)) (m : ℕ) (stack : List Cell) (w : ProgramState) → length before ≡ first → length row ≡ count → Onto t k (before ++ (row ++ after)) m (stack ++ row) w → Onto t (load first count ∷ k) (before ++ (row ++ after)) m stack w
  loads t first count before row after k m stack w place size on known few at high long s =
      let all : List Cell = (before ++ (row ++ after)) ++ high in
      let shape : all ≡ before ++ (row ++ (after ++ high)) = append_assoc before (row ++ after) high ∙ ap (λ l. before ++ l) (append_assoc row after high) in
      local_leads image (here image final depth code callers starts p at all stack w) _ callers (Load first count) (record { cells = all; stack = stack ++ row }) final (record { frames = refl; rest = k; stands = s })
      (ap (option_map (λ r. record { cells = all; stack = stack ++ r })) (ap (λ l. cells_at l first count) shape ∙ read_row before row (after ++ high) first count place size))
      (on known few (at + 1) high long (stands_next code at _ k s))

  -- a row on the stack is put in the place of one that lies in front
  pub stores : (t first count : ℕ) (before old row after : List Cell) (k : List (Instr ℕ)) (m : ℕ) (stack : List Cell) (w : ProgramState) → length before ≡ first → length old ≡ count → length row ≡ count → Onto t k (before ++ (row ++ after)) m stack w → Onto t (store first count ∷ k) (before ++ (old ++ after)) m (stack ++ row) w
  stores t first count before old row after k m stack w place was size on known few at high long s =
      let all : List Cell = (before ++ (old ++ after)) ++ high in
      let new : List Cell = (before ++ (row ++ after)) ++ high in
      let shape : all ≡ before ++ (old ++ (after ++ high)) = append_assoc before (old ++ after) high ∙ ap (λ l. before ++ l) (append_assoc old after high) in
      let renewed : new ≡ before ++ (row ++ (after ++ high)) = append_assoc before (row ++ after) high ∙ ap (λ l. before ++ l) (append_assoc row after high) in
      local_leads image (here image final depth code callers starts p at all (stack ++ row) w) _ callers (Store first count) (record { cells = new; stack = stack }) final (record { frames = refl; rest = k; stands = s })
      (ap (stored all first) (split_row stack row count size)
      ∙ ap (option_map (λ r. record { cells = r; stack = stack })) (ap (λ l. cells_with l first row) shape ∙ write_row before old row (after ++ high) first place (size ∙ sym was) ∙ ap Some (sym renewed)))
      (on known few (at + 1) high long (stands_next code at _ k s))

  -- a row on the stack is put in the first of the temporaries
  pub keeps : (t at count : ℕ) (row : List Cell) (k : List (Instr ℕ)) (front : List Cell) (m : ℕ) (stack : List Cell) (w : ProgramState) → length front ≡ at → length row ≡ count → count ≤ m → Onto t k (front ++ row) (m - count) stack w → Onto t (store at count ∷ k) front m (stack ++ row) w
  keeps t at count row k front m stack w place size le on =
      deeper image final depth code callers starts p t (store at count ∷ k) front m count (stack ++ row) w le (λ low long.
      on_front t (store at count ∷ k) (front ++ (low ++ [])) (front ++ low) (m - count) (stack ++ row) w (ap (λ l. front ++ l) (append-nil low))
      (stores t at count front low row [] k (m - count) stack w place long size
      (on_front t k (front ++ row) (front ++ (row ++ [])) (m - count) stack w (ap (λ l. front ++ l) (sym (append-nil row))) on)))
