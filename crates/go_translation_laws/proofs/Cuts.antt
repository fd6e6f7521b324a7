-- The machine follows cuts, and slices that are made or appended to (Runs says how this is built).
use Rattle.std.proofs.Common.{◌≡◌, ℕ, suc, ◌+◌, ◌-◌, ◌*◌, ◌≤◌, Bool, true, false, nat_le, List, [], ◌∷◌, ◌++◌, length, take, drop, replicate, Option, Some, None, refl, sym, ap, ◌∙◌, subst, arith, length-append, append_assoc, append-nil}
use Rattle.std.specs.Prelude.{if◌then◌else◌, ⊤}
use Rattle.std.specs.List.{flat_map, list_all}
use Rattle.go_types.specs.Types.{Type'}
use Rattle.go_types.specs.Relations.{underlying}
use Rattle.go_types.specs.Sizes.{cells}
use Rattle.go_code.specs.declared.cell.Cell.{Cell}
use Rattle.go_code.specs.declared.cell.Cell.TheVariants.{Int, Bool as Truth, Text, Slice}
use Rattle.go_code.specs.declared.image.Start.{Start}
use Rattle.go_code.specs.declared.instr.Instr.{Instr}
use Rattle.go_code.specs.declared.instr.Instr.TheVariants.{Row as In_row}
use Rattle.go_code.specs.declared.instr.RowInstr.TheVariants.{Make, Append}
use Rattle.go_code.specs.declared.operator.Operator as operator
use Rattle.go_code.specs.Finals.{Final}
use Rattle.go_code.specs.Images.{Image}
use Rattle.go_code.specs.Machine.{Frame}
use Rattle.go_code.specs.Operators as operators
use Rattle.go_code.specs.Operators.{Operated}
use Rattle.go_code.specs.Rows.{grown}
use Rattle.go_typed.specs.Trees as trees
use Rattle.go_typed.specs.Trees.{Expr, Exprs, Perhaps, absent, present, expr_type}
use Rattle.go_meaning.specs.Values.{Value, single, parts, flat, is_of, zero_of}
use Rattle.go_meaning.specs.Choices.{operated, length_operators, cut_operators, element_type}
use Rattle.go_meaning.specs.Meaning.{ProgramState, Outcome, Gives, Stuck, Locals, Calls, and_then, with_cell, with_type, typed_or_panic, or_panic, array_of, overwritten, with_array, new_array, made, appended, eval, eval_perhaps, eval_all}
use Rattle.go_gen.specs.Translation.{Places, load, store, zero_code, operators_code, or_type, element_cells, exprs_count, expr_temps, perhaps_temps, exprs_temps, expr_counts, expr_code, perhaps_code, exprs_code}
use Rattle.go_meaning_laws.proofs.Values.{flat_long}
use Rattle.go_translation_laws.proofs.Shapes.{element_cells_are}
use Rattle.go_translation_laws.proofs.Runs.{Onward, onward_then, onward_map, onward_given, On, on_as, on_stack, Sits, operators_run, operators_change}
use Rattle.go_translation_laws.proofs.Exprs.{Runs, AllRun, lengths, deeper, shallower, sits_deeper, second_runs, told_runs}
use Rattle.go_translation_laws.proofs.Rows.{on_front, keeps}
use Rattle.go_translation_laws.proofs.Addresses.{Has, has_behind, has_loads}
use Rattle.go_translation_laws.proofs.Zeros.{zero_long, zero_runs}
use Rattle.go_translation_laws.proofs.RowLemmas.{row_long}
use Rattle.go_translation_laws.proofs.RowSteps.{append_tells}
use Rattle.go_translation_laws.proofs.RowReads.{make_tells}

-- as many values as expressions
counted : (vs : List Value) (es : Exprs) → lengths vs ≡ expr_counts es → length vs ≡ exprs_count es
counted [] trees.no_exprs e = refl
counted [] (trees.some_exprs x es) e = cc
counted (v ∷ vs) trees.no_exprs e = cc
counted (v ∷ vs) (trees.some_exprs x es) e = (let rest : lengths vs ≡ expr_counts es = cc in ap suc (counted vs es rest))

three_cells : (stack : List Cell) (c : Cell) (a b : List Cell) → stack ++ c ∷ (a ++ (b ++ [])) ≡ ((stack ++ c ∷ []) ++ a) ++ b
three_cells stack c a b = simp (append_assoc, append-nil)

module _ (image : Image) (final : Final) (depth : ℕ) (code : List (Instr ℕ)) (callers : List Frame) (starts : List Start) (p : Places ℕ) (calls : Calls) where
  abbrev Onto : ℕ → List (Instr ℕ) → List Cell → ℕ → List Cell → ProgramState → Type 0
  Onto t k front m stack w = On image final depth code callers starts p t k front m stack w

  abbrev InPlace : Locals → List Cell → Type 0
  InPlace locals front = Sits image final depth code callers starts p locals front

  abbrev Evaluates : Expr → Type 0
  Evaluates e = Runs image final depth code callers starts p calls e

  abbrev AllEvaluate : Exprs → Type 0
  AllEvaluate es = AllRun image final depth code callers starts p calls es

  -- what isn't left out
  abbrev pub PerhapsRuns : Perhaps → Type 0
  PerhapsRuns absent = ⊤
  PerhapsRuns (present e) = Evaluates e

  on_room : (t : ℕ) (k : List (Instr ℕ)) (front : List Cell) (m n : ℕ) (stack : List Cell) (w : ProgramState) → m ≡ n → Onto t k front m stack w → Onto t k front n stack w
  on_room t k front m n stack w e on = subst (λ r. Onto t k front r stack w) e on

  -- the cell on top is kept in a temporary, behind d others
  kept_runs : (t at d : ℕ) (c : Cell) (k : List (Instr ℕ)) (front : List Cell) (m : ℕ) (stack : List Cell) (w : ProgramState) → length front ≡ at → d + 1 ≤ m → ((kept : List Cell) → length kept ≡ d + 1 → Has kept d (c ∷ []) → Onto t k (front ++ kept) (m - (d + 1)) (stack ++ c ∷ []) w) → Onto t (store (at + d) 1 ∷ load (at + d) 1 ∷ k) front m (stack ++ c ∷ []) w
  kept_runs t at d c k front m stack w long le on =
      let within : d ≤ m = omega (arith, le) in
      let one : 1 ≤ m - d = omega (arith, le) in
      let room : m - (d + 1) ≡ m - d - 1 = omega arith in
      deeper image final depth code callers starts p t (store (at + d) 1 ∷ load (at + d) 1 ∷ k) front m d (stack ++ c ∷ []) w within (λ low size.
      let there : length (front ++ low) ≡ at + d = omega (arith, long, size, length-append front low) in
      let whole : length (low ++ c ∷ []) ≡ d + 1 = omega (arith, size, length-append low (c ∷ [])) in
      keeps image final depth code callers starts p t (at + d) 1 (c ∷ []) (load (at + d) 1 ∷ k) (front ++ low) (m - d) stack w there refl one
      (has_loads image final depth code callers starts p t (at + d) 1 (c ∷ []) k ((front ++ low) ++ c ∷ []) (m - d - 1) stack w (record { before = front ++ low; after = []; is = refl; place = there }) refl
      (on_front image final depth code callers starts p t k (front ++ (low ++ c ∷ [])) _ (m - d - 1) (stack ++ c ∷ []) w (sym (append_assoc front low (c ∷ [])))
      (on_room t k (front ++ (low ++ c ∷ [])) _ _ (stack ++ c ∷ []) w room (on (low ++ c ∷ []) whole (record { before = low; after = []; is = refl; place = size }))))))

  -- it comes from there again
  again : (t at d : ℕ) (c : Cell) (k : List (Instr ℕ)) (front kept : List Cell) (m : ℕ) (stack : List Cell) (w : ProgramState) → length front ≡ at → Has kept d (c ∷ []) → Onto t k (front ++ kept) m (stack ++ c ∷ []) w → Onto t (load (at + d) 1 ∷ k) (front ++ kept) m stack w
  again t at d c k front kept m stack w long has on =
      has_loads image final depth code callers starts p t (at + d) 1 (c ∷ []) k (front ++ kept) m stack w (has_behind front kept at d (c ∷ []) long has) refl on

  -- an expression behind d temporaries, or other code where it is left out
  later_runs : (o : Perhaps) (d : ℕ) → PerhapsRuns o → (other : Operated Value) (others : List (Instr ℕ)) (t : ℕ) (locals : Locals) (at : ℕ) (k : List (Instr ℕ)) (front : List Cell) (m : ℕ) (stack : List Cell) (w : ProgramState) → length front ≡ at → d + perhaps_temps o ≤ m → InPlace locals front →
      (Onward final (λ v w1. Onto t k front m (stack ++ flat v) w1) (or_panic other w) → Onto t (others ++ k) front m stack w) →
      Onward final (λ v w1. Onto t k front m (stack ++ flat v) w1) (eval_perhaps calls other o locals w) → Onto t (perhaps_code p (at + d) others o ++ k) front m stack w
  later_runs absent d runs other others t locals at k front m stack w long le sits on h = on h
  later_runs (present e) d runs other others t locals at k front m stack w long le sits on h =
      second_runs image final depth code callers starts p calls e d runs t locals at k front m stack w long le sits (onward_map final _ _ (eval calls e locals w) (λ v w1 more typed. more) h)

  -- ---- cuts

  cut_ends : (of : Type') (ops : List operator.Operator) (c : Cell) (i j : Value) (d t : ℕ) (k : List (Instr ℕ)) (front kept : List Cell) (m : ℕ) (stack : List Cell) (w : ProgramState) → length kept ≡ d → d ≤ m → Onward final (λ r w1. is_of of r ≡ true → Onto t k front m (stack ++ flat r) w1) (typed_or_panic of (operated ops (single c ∷ i ∷ j ∷ [])) w) → Onto t (operators_code ops ++ k) (front ++ kept) (m - d) (((stack ++ c ∷ []) ++ flat i) ++ flat j) w
  cut_ends of ops c i j d t k front kept m stack w size le h =
      shallower image final depth code callers starts p t (operators_code ops ++ k) front kept m d _ w size le
      (on_stack image final depth code callers starts p t (operators_code ops ++ k) front m _ _ w (three_cells stack c (flat i) (flat j)) (operators_run image final depth code callers starts p t of ops (single c ∷ i ∷ j ∷ []) k front m stack w h))

  -- behind the operand, which is one cell
  cut_behind : (of s : Type') (d : ℕ) (low : Expr) (o : Perhaps) → Evaluates low → PerhapsRuns o → (t : ℕ) (locals : Locals) (at : ℕ) (k : List (Instr ℕ)) (front : List Cell) (m : ℕ) (stack : List Cell) (w : ProgramState) → length front ≡ at → d + 1 + expr_temps low + perhaps_temps o ≤ m → InPlace locals front → (v : Value) →
      Onward final (λ r w1. is_of of r ≡ true → Onto t k front m (stack ++ flat r) w1) (with_cell v (and_then (eval calls low locals w) (λ i w2. and_then (eval_perhaps calls (operated (length_operators s) (v ∷ [])) o locals w2) (λ j. typed_or_panic of (operated (cut_operators s) (v ∷ i ∷ j ∷ [])))))) →
      Onto t (store (at + d) 1 ∷ load (at + d) 1 ∷ (expr_code p (at + d + 1) low ++ (perhaps_code p (at + d + 1 + expr_temps low) (load (at + d) 1 ∷ operators_code (length_operators s)) o ++ (operators_code (cut_operators s) ++ k)))) front m (stack ++ flat v) w
  cut_behind of s d low o second third t locals at k front m stack w long le sits (parts vs) h = absurd h
  cut_behind of s d low o second third t locals at k front m stack w long le sits (single c) h =
      let lasts : List (Instr ℕ) = operators_code (cut_operators s) ++ k in
      let others : List (Instr ℕ) = load (at + d) 1 ∷ operators_code (length_operators s) in
      let rest : List (Instr ℕ) = perhaps_code p (at + d + 1 + expr_temps low) others o ++ lasts in
      let n : ℕ = d + 1 in
      let enough : d + 1 ≤ m = omega (arith, le) in
      let first : expr_temps low ≤ m - (d + 1) = omega (arith, le) in
      let both : expr_temps low + perhaps_temps o ≤ m - (d + 1) = omega (arith, le) in
      kept_runs t at d c (expr_code p (at + d + 1) low ++ rest) front m stack w long enough (λ kept size has.
      let there : length (front ++ kept) ≡ at + d + 1 = omega (arith, long, size, length-append front kept) in
      let inside = sits_deeper image final depth code callers starts p locals front kept sits in
      second t locals (at + d + 1) rest (front ++ kept) (m - n) (stack ++ c ∷ []) w there first inside
      (onward_map final _ _ (eval calls low locals w)
      (λ i w1 more typed.
      later_runs o (expr_temps low) third (operated (length_operators s) (single c ∷ [])) others t locals (at + d + 1) lasts (front ++ kept) (m - n) ((stack ++ c ∷ []) ++ flat i) w1 there both inside
      (λ g. again t at d c (operators_code (length_operators s) ++ lasts) front kept (m - n) ((stack ++ c ∷ []) ++ flat i) w1 long has
      (operators_change image final depth code callers starts p t (length_operators s) (single c ∷ []) lasts (front ++ kept) (m - n) ((stack ++ c ∷ []) ++ flat i) w1 g))
      (onward_map final _ _ (eval_perhaps calls (operated (length_operators s) (single c ∷ [])) o locals w1)
      (λ j w2 most. cut_ends of (cut_operators s) c i j n t k front kept m stack w2 size enough most)
      (onward_then final _ (eval_perhaps calls (operated (length_operators s) (single c ∷ [])) o locals w1) _ more)))
      (onward_then final _ (eval calls low locals w) _ h)))

  pub cut_runs : (of : Type') (e low : Expr) (o : Perhaps) → Evaluates e → Evaluates low → PerhapsRuns o → Evaluates (trees.cut of e low o)
  cut_runs of e low o first second third t locals at k front m stack w long le sits h =
      let s : Type' = underlying (expr_type e) in
      let d : ℕ = expr_temps e in
      let lasts : List (Instr ℕ) = operators_code (cut_operators s) in
      let middle : List (Instr ℕ) = perhaps_code p (at + d + 1 + expr_temps low) (load (at + d) 1 ∷ operators_code (length_operators s)) o in
      let bound : List (Instr ℕ) = expr_code p (at + d + 1) low in
      let behind : List (Instr ℕ) = store (at + d) 1 ∷ load (at + d) 1 ∷ (bound ++ (middle ++ (lasts ++ k))) in
      let enough : expr_temps e ≤ m = omega (arith, le) in
      let shape : expr_code p at e ++ (store (at + d) 1 ∷ load (at + d) 1 ∷ (bound ++ (middle ++ (lasts ++ k)))) ≡ expr_code p at (trees.cut of e low o) ++ k = simp append_assoc in
      on_as image final depth code callers starts p t (expr_code p at e ++ behind) _ front m stack w shape
      (first t locals at behind front m stack w long enough sits
      (onward_map final _ _ (eval calls e locals w)
      (λ v w1 more typed. cut_behind of s d low o second third t locals at k front m stack w1 long le sits v more)
      (onward_then final _ (eval calls e locals w) _ h)))

  -- ---- slices that are made

  -- what is given is known to be of the type
  of_given : (P : Value → ProgramState → Type 0) (of : Type') (r : Value) (w : ProgramState) → Onward final (λ x w1. is_of of x ≡ true → P x w1) (typed_or_panic of (operators.Gives r) w) → P r w
  of_given P of r w h = (let g = onward_given final (λ x w1. is_of of x ≡ true → P x w1) of r w h in g.1 g.0)

  made_runs : (of u : Type') (c : Cell) (v : Value) (t : ℕ) (k : List (Instr ℕ)) (front : List Cell) (m : ℕ) (stack : List Cell) (w : ProgramState) → Onward final (λ r w1. is_of of r ≡ true → Onto t k front m (stack ++ flat r) w1) (and_then (made u (single c) v w) (λ r. typed_or_panic of (operators.Gives r))) → Onto t (In_row (Make (cells u)) ∷ k) front m (((stack ++ flat (zero_of u)) ++ c ∷ []) ++ flat v) w
  made_runs of u c (parts vs) t k front m stack w h = absurd h
  made_runs of u c (single d) t k front m stack w h =
      let zeros : List Cell = flat (zero_of u) in
      let size : length (zeros ++ c ∷ d ∷ []) ≡ cells u + 2 = omega (arith, zero_long u, length-append zeros (c ∷ d ∷ [])) in
      let shape : stack ++ (flat (zero_of u) ++ c ∷ d ∷ []) ≡ ((stack ++ flat (zero_of u)) ++ c ∷ []) ++ d ∷ [] = simp append_assoc in
      on_stack image final depth code callers starts p t (In_row (Make (cells u)) ∷ k) front m _ _ w shape
      (told_runs image final depth code callers starts p calls t (Make (cells u)) (zeros ++ c ∷ d ∷ []) (made u (single c) (single d) w) k front m stack w size (make_tells u (zero_long u) w c d)
      (onward_map final _ _ (made u (single c) (single d) w) (λ r w1 more. of_given (λ x w2. Onto t k front m (stack ++ flat x) w2) of r w1 more) (onward_then final _ (made u (single c) (single d) w) _ h)))

  -- behind the length, which is one cell
  made_behind : (of u : Type') (d : ℕ) (o : Perhaps) → PerhapsRuns o → (t : ℕ) (locals : Locals) (at : ℕ) (k : List (Instr ℕ)) (front : List Cell) (m : ℕ) (stack : List Cell) (w : ProgramState) → length front ≡ at → d + 1 + perhaps_temps o ≤ m → InPlace locals front → (v : Value) →
      Onward final (λ r w1. is_of of r ≡ true → Onto t k front m (stack ++ flat r) w1) (with_cell v (and_then (eval_perhaps calls (operators.Gives v) o locals w) (λ c w2. and_then (made u v c w2) (λ r. typed_or_panic of (operators.Gives r))))) →
      Onto t (store (at + d) 1 ∷ load (at + d) 1 ∷ (perhaps_code p (at + d + 1) (load (at + d) 1 ∷ []) o ++ (In_row (Make (cells u)) ∷ k))) front m ((stack ++ flat (zero_of u)) ++ flat v) w
  made_behind of u d o runs t locals at k front m stack w long le sits (parts vs) h = absurd h
  made_behind of u d o runs t locals at k front m stack w long le sits (single c) h =
      let lasts : List (Instr ℕ) = In_row (Make (cells u)) ∷ k in
      let n : ℕ = d + 1 in
      let enough : d + 1 ≤ m = omega (arith, le) in
      let left : 0 + perhaps_temps o ≤ m - (d + 1) = omega (arith, le) in
      let next : at + d + 1 + 0 ≡ at + d + 1 = omega arith in
      let low : List Cell = stack ++ flat (zero_of u) in
      kept_runs t at d c (perhaps_code p (at + d + 1) (load (at + d) 1 ∷ []) o ++ lasts) front m low w long enough (λ kept size has.
      let there : length (front ++ kept) ≡ at + d + 1 = omega (arith, long, size, length-append front kept) in
      on_as image final depth code callers starts p t (perhaps_code p (at + d + 1 + 0) (load (at + d) 1 ∷ []) o ++ lasts) _ (front ++ kept) (m - n) (low ++ c ∷ []) w (ap (λ x. perhaps_code p x (load (at + d) 1 ∷ []) o ++ lasts) next)
      (later_runs o 0 runs (operators.Gives (single c)) (load (at + d) 1 ∷ []) t locals (at + d + 1) lasts (front ++ kept) (m - n) (low ++ c ∷ []) w there left (sits_deeper image final depth code callers starts p locals front kept sits)
      (λ g. again t at d c lasts front kept (m - n) (low ++ c ∷ []) w long has g)
      (onward_map final _ _ (eval_perhaps calls (operators.Gives (single c)) o locals w)
      (λ x w1 most. shallower image final depth code callers starts p t lasts front kept m n ((low ++ c ∷ []) ++ flat x) w1 size enough (made_runs of u c x t k front m stack w1 most))
      (onward_then final _ (eval_perhaps calls (operators.Gives (single c)) o locals w) _ h))))

  pub make_runs : (of : Type') (e : Expr) (o : Perhaps) → Evaluates e → PerhapsRuns o → Evaluates (trees.make of e o)
  make_runs of e o first second t locals at k front m stack w long le sits h = by_type (element_type (underlying of)) refl h
    where
      by_type : (q : Option Type') → element_type (underlying of) ≡ q → Onward final (λ r w1. is_of of r ≡ true → Onto t k front m (stack ++ flat r) w1) (with_type q (λ u. and_then (eval calls e locals w) (λ n w1. with_cell n (and_then (eval_perhaps calls (operators.Gives n) o locals w1) (λ c w2. and_then (made u n c w2) (λ r. typed_or_panic of (operators.Gives r))))))) → Onto t ((zero_code (or_type of q) ++ expr_code p at e ++ store (at + expr_temps e) 1 ∷ load (at + expr_temps e) 1 ∷ perhaps_code p (at + expr_temps e + 1) (load (at + expr_temps e) 1 ∷ []) o ++ In_row (Make (element_cells (underlying of))) ∷ []) ++ k) front m stack w
      by_type None found h = absurd h
      by_type (Some u) found h =
          let d : ℕ = expr_temps e in
          let middle : List (Instr ℕ) = perhaps_code p (at + d + 1) (load (at + d) 1 ∷ []) o in
          let behind : List (Instr ℕ) = store (at + d) 1 ∷ load (at + d) 1 ∷ (middle ++ (In_row (Make (cells u)) ∷ k)) in
          let enough : expr_temps e ≤ m = omega (arith, le) in
          let shape : zero_code u ++ (expr_code p at e ++ (store (at + d) 1 ∷ load (at + d) 1 ∷ (middle ++ (In_row (Make (cells u)) ∷ k)))) ≡ (zero_code u ++ expr_code p at e ++ store (at + d) 1 ∷ load (at + d) 1 ∷ middle ++ In_row (Make (cells u)) ∷ []) ++ k = simp append_assoc in
          let same : (zero_code u ++ expr_code p at e ++ store (at + d) 1 ∷ load (at + d) 1 ∷ middle ++ In_row (Make (cells u)) ∷ []) ++ k ≡ (zero_code u ++ expr_code p at e ++ store (at + d) 1 ∷ load (at + d) 1 ∷ middle ++ In_row (Make (element_cells (underlying of))) ∷ []) ++ k =
          ap (λ n. (zero_code u ++ expr_code p at e ++ store (at + d) 1 ∷ load (at + d) 1 ∷ middle ++ In_row (Make n) ∷ []) ++ k) (sym (element_cells_are (underlying of) u found)) in
          on_as image final depth code callers starts p t (zero_code u ++ (expr_code p at e ++ behind)) _ front m stack w (shape ∙ same)
          (zero_runs image final depth code callers starts p u t (expr_code p at e ++ behind) front m stack w
          (first t locals at behind front m (stack ++ flat (zero_of u)) w long enough sits
          (onward_map final _ _ (eval calls e locals w)
          (λ n w1 more typed. made_behind of u d o second t locals at k front m stack w1 long le sits n more)
          (onward_then final _ (eval calls e locals w) _ h))))

  -- ---- slices that are appended to

  -- behind d temporaries of what is appended to
  all_second : (es : Exprs) (d : ℕ) → AllEvaluate es → (t : ℕ) (locals : Locals) (at : ℕ) (k : List (Instr ℕ)) (front : List Cell) (m : ℕ) (stack : List Cell) (w : ProgramState) → length front ≡ at → d + exprs_temps es ≤ m → InPlace locals front → Onward final (λ vs w1. lengths vs ≡ expr_counts es → Onto t k front m (stack ++ flat_map flat vs) w1) (eval_all calls es locals w) → Onto t (exprs_code p (at + d) es ++ k) front m stack w
  all_second es d runs t locals at k front m stack w long le sits h =
      let within : d ≤ m = omega (arith, le) in
      deeper image final depth code callers starts p t (exprs_code p (at + d) es ++ k) front m d stack w within (λ low size.
      let there : length (front ++ low) ≡ at + d = omega (arith, long, size, length-append front low) in
      let rest : exprs_temps es ≤ m - d = omega (arith, le) in
      runs t locals (at + d) k (front ++ low) (m - d) stack w there rest (sits_deeper image final depth code callers starts p locals front low sits)
      (onward_map final _ _ (eval_all calls es locals w) (λ vs w1 more count. shallower image final depth code callers starts p t k front low m d (stack ++ flat_map flat vs) w1 size within (more count)) h))

  appended_runs : (of u : Type') (v : Value) (vs : List Value) (t : ℕ) (k : List (Instr ℕ)) (front : List Cell) (m : ℕ) (stack : List Cell) (w : ProgramState) → Onward final (λ r w1. is_of of r ≡ true → Onto t k front m (stack ++ flat r) w1) (and_then (appended u v vs w) (λ r. typed_or_panic of (operators.Gives r))) → Onto t (In_row (Append (cells u) (length vs)) ∷ k) front m ((stack ++ flat v) ++ flat_map flat vs) w
  appended_runs of u (single (Int z)) vs t k front m stack w h = absurd h
  appended_runs of u (single (Truth b)) vs t k front m stack w h = absurd h
  appended_runs of u (single (Text s)) vs t k front m stack w h = absurd h
  appended_runs of u (parts xs) vs t k front m stack w h = absurd h
  appended_runs of u (single (Slice at start n c)) vs t k front m stack w h = by_test (list_all (is_of u) vs) refl h
    where
      next : List Value → ProgramState → Outcome Value
      next all w1 =
          if nat_le (n + length vs) c then Gives (single (Slice at start (n + length vs) c)) (with_array w1 at (overwritten all (start + n) vs))
          else and_then (or_panic (grown (cells u) (n + length vs) c) w1) (λ room. new_array (take n (drop start all) ++ vs ++ replicate (room - (n + length vs)) (zero_of u)) (n + length vs) room)

      by_test : (b : Bool) → list_all (is_of u) vs ≡ b → Onward final (λ r w1. is_of of r ≡ true → Onto t k front m (stack ++ flat r) w1) (and_then (if b then and_then (array_of u at start n c w) next else Stuck) (λ r. typed_or_panic of (operators.Gives r))) → Onto t (In_row (Append (cells u) (length vs)) ∷ k) front m ((stack ++ Slice at start n c ∷ []) ++ flat_map flat vs) w
      by_test false e h1 = absurd h1
      by_test true e h1 =
          let slice_cell : Cell = Slice at start n c in
          let long = row_long u (cells u) (λ x k. flat_long u x k) vs e in
          let size : length (slice_cell ∷ flat_map flat vs) ≡ 1 + length vs * cells u = omega (arith, long) in
          let shape : stack ++ Slice at start n c ∷ flat_map flat vs ≡ (stack ++ Slice at start n c ∷ []) ++ flat_map flat vs = simp append_assoc in
          on_stack image final depth code callers starts p t (In_row (Append (cells u) (length vs)) ∷ k) front m _ _ w shape
          (told_runs image final depth code callers starts p calls t (Append (cells u) (length vs)) (slice_cell ∷ flat_map flat vs) (appended u (single slice_cell) vs w) k front m stack w size (append_tells u (λ x k. flat_long u x k) at start n c vs w)
          (onward_map final _ _ (appended u (single slice_cell) vs w) (λ r w1 more. of_given (λ x w2. Onto t k front m (stack ++ flat x) w2) of r w1 more) (onward_then final _ (appended u (single slice_cell) vs w) _ h)))

  -- the elements, and then the slice
  appended_behind : (of u : Type') (d : ℕ) (es : Exprs) → AllEvaluate es → (t : ℕ) (locals : Locals) (at : ℕ) (k : List (Instr ℕ)) (front : List Cell) (m : ℕ) (stack : List Cell) (w : ProgramState) → length front ≡ at → d + exprs_temps es ≤ m → InPlace locals front → (v : Value) →
      Onward final (λ r w1. is_of of r ≡ true → Onto t k front m (stack ++ flat r) w1) (and_then (eval_all calls es locals w) (λ vs w2. and_then (appended u v vs w2) (λ r. typed_or_panic of (operators.Gives r)))) →
      Onto t (exprs_code p (at + d) es ++ (In_row (Append (cells u) (exprs_count es)) ∷ k)) front m (stack ++ flat v) w
  appended_behind of u d es runs t locals at k front m stack w long le sits v h =
      all_second es d runs t locals at (In_row (Append (cells u) (exprs_count es)) ∷ k) front m (stack ++ flat v) w long le sits
      (onward_map final _ _ (eval_all calls es locals w)
      (λ vs w1 more counts.
      on_as image final depth code callers starts p t (In_row (Append (cells u) (length vs)) ∷ k) _ front m ((stack ++ flat v) ++ flat_map flat vs) w1 (ap (λ n. In_row (Append (cells u) n) ∷ k) (counted vs es counts))
      (appended_runs of u v vs t k front m stack w1 more))
      (onward_then final _ (eval_all calls es locals w) _ h))

  -- what is appended to, or none
  append_first : (of : Type') (o : Perhaps) → PerhapsRuns o → (t : ℕ) (locals : Locals) (at : ℕ) (k : List (Instr ℕ)) (front : List Cell) (m : ℕ) (stack : List Cell) (w : ProgramState) → length front ≡ at → perhaps_temps o ≤ m → InPlace locals front → Onward final (λ v w1. Onto t k front m (stack ++ flat v) w1) (eval_perhaps calls (operators.Gives (zero_of of)) o locals w) → Onto t (perhaps_code p at (zero_code of) o ++ k) front m stack w
  append_first of absent runs t locals at k front m stack w long le sits h = zero_runs image final depth code callers starts p of t k front m stack w h
  append_first of (present e) runs t locals at k front m stack w long le sits h = runs t locals at k front m stack w long le sits (onward_map final _ _ (eval calls e locals w) (λ v w1 more typed. more) h)

  pub append_runs : (of : Type') (o : Perhaps) (es : Exprs) → PerhapsRuns o → AllEvaluate es → Evaluates (trees.append of o es)
  append_runs of o es first others t locals at k front m stack w long le sits h = by_type (element_type (underlying of)) refl h
    where
      by_type : (q : Option Type') → element_type (underlying of) ≡ q → Onward final (λ r w1. is_of of r ≡ true → Onto t k front m (stack ++ flat r) w1) (with_type q (λ u. and_then (eval_perhaps calls (operators.Gives (zero_of of)) o locals w) (λ v w1. and_then (eval_all calls es locals w1) (λ vs w2. and_then (appended u v vs w2) (λ r. typed_or_panic of (operators.Gives r)))))) → Onto t ((perhaps_code p at (zero_code of) o ++ exprs_code p (at + perhaps_temps o) es ++ In_row (Append (element_cells (underlying of)) (exprs_count es)) ∷ []) ++ k) front m stack w
      by_type None found h = absurd h
      by_type (Some u) found h =
          let d : ℕ = perhaps_temps o in
          let behind : List (Instr ℕ) = exprs_code p (at + d) es ++ (In_row (Append (cells u) (exprs_count es)) ∷ k) in
          let enough : perhaps_temps o ≤ m = omega (arith, le) in
          let shape : perhaps_code p at (zero_code of) o ++ (exprs_code p (at + d) es ++ (In_row (Append (cells u) (exprs_count es)) ∷ k)) ≡ (perhaps_code p at (zero_code of) o ++ exprs_code p (at + d) es ++ In_row (Append (cells u) (exprs_count es)) ∷ []) ++ k = simp append_assoc in
          let same : (perhaps_code p at (zero_code of) o ++ exprs_code p (at + d) es ++ In_row (Append (cells u) (exprs_count es)) ∷ []) ++ k ≡ (perhaps_code p at (zero_code of) o ++ exprs_code p (at + d) es ++ In_row (Append (element_cells (underlying of)) (exprs_count es)) ∷ []) ++ k =
          ap (λ n. (perhaps_code p at (zero_code of) o ++ exprs_code p (at + d) es ++ In_row (Append n (exprs_count es)) ∷ []) ++ k) (sym (element_cells_are (underlying of) u found)) in
          on_as image final depth code callers starts p t (perhaps_code p at (zero_code of) o ++ behind) _ front m stack w (shape ∙ same)
          (append_first of o first t locals at behind front m stack w long enough sits
          (onward_map final _ _ (eval_perhaps calls (operators.Gives (zero_of of)) o locals w)
          (λ v w1 more. appended_behind of u d es others t locals at k front m stack w1 long le sits v more)
          (onward_then final _ (eval_perhaps calls (operators.Gives (zero_of of)) o locals w) _ h)))
