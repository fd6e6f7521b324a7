-- The machine follows the operands of left sides: their indexes come into temporaries.
use Rattle.std.proofs.Common.{◌≡◌, ℕ, ◌+◌, ◌-◌, ◌≤◌, Bool, true, false, nat_le, List, [], ◌∷◌, ◌++◌, length, Option, Some, None, refl, sym, subst, arith, length-append, append_assoc, append-nil}
use Rattle.std.specs.Prelude.{if◌then◌else◌, ⊤}
use Rattle.std.proofs.lemmas.Bool.{leb-true}
use Rattle.go_types.specs.Types.{Type'}
use Rattle.go_types.specs.Relations.{underlying}
use Rattle.go_types.specs.Sizes.{cells}
use Rattle.go_code.specs.declared.cell.Cell.{Cell}
use Rattle.go_code.specs.declared.cell.Cell.TheVariants.{Int, Bool as Truth, Text, Slice}
use Rattle.go_code.specs.declared.image.Start.{Start}
use Rattle.go_code.specs.declared.instr.Instr.{Instr}
use Rattle.go_code.specs.Finals.{Final}
use Rattle.go_code.specs.Images.{Image}
use Rattle.go_code.specs.Machine.{Frame}
use Rattle.go_typed.specs.Trees as trees
use Rattle.go_typed.specs.Trees.{Symbol, Expr, Left, blank, of_local, of_global, of_slice}
use Rattle.go_meaning.specs.Values.{Value, single, parts, flat, Step, to_field}
use Rattle.go_meaning.specs.Choices.{field_type, element_type}
use Rattle.go_meaning.specs.Meaning.{ProgramState, Gives, Stuck, Locals, Calls, Target, in_local, in_global, step_into_elements, most_cells, and_then, with_cell, with_type, with_index, eval, steps, aim, aim_all}
use Rattle.go_gen.specs.Translation.{Places, total, store, expr_temps, steps_temps, operands_code, expr_code, left_temps, left_operands, lefts_temps, lefts_operands}
use Rattle.go_translation_laws.proofs.Frames.{together, types_of}
use Rattle.go_translation_laws.proofs.Runs.{Onward, onward_then, onward_map}
use Rattle.go_translation_laws.proofs.Exprs.{Runs}
use Rattle.go_translation_laws.proofs.Rows.{keeps, on_front}
use Rattle.go_translation_laws.proofs.Following.{Placed, Follows, follows_as, follows_low, follows_deeper, expr_follows, row_long}
use Rattle.go_translation_laws.proofs.Steps.{value_room}
use Rattle.go_translation_laws.proofs.Addresses.{Split, WithType, Kept}
use Rattle.go_translation_laws.proofs.Lefts.{KeptLeft}

-- a row that is one of so many cells and another
pub record Both (P Q : List Cell → Type 0) (n : ℕ) (row : List Cell) : Type 0 where
  pub first : List Cell
  pub others : List Cell
  pub is : row ≡ first ++ others
  pub long : length first ≡ n
  pub holds : P first
  pub rest : Q others

-- the temporaries of left sides, one behind the other
abbrev pub KeptLefts : List Left → List Target → List Cell → Type 0
KeptLefts [] [] row = ⊤
KeptLefts [] (t ∷ ts) row = ⊥
KeptLefts (l ∷ ls) [] row = ⊥
KeptLefts (l ∷ ls) (t ∷ ts) row = Both (λ r. KeptLeft l t r) (λ r. KeptLefts ls ts r) (left_temps l) row

module _ (image : Image) (final : Final) (depth : ℕ) (code : List (Instr ℕ)) (callers : List Frame) (starts : List Start) (p : Places ℕ) (types : List Type') where
  abbrev Goes_on : ℕ → List (Instr ℕ) → Locals → List Cell → ℕ → List Cell → ProgramState → Type 0
  Goes_on t k locals low m stack w = Follows image final depth code callers starts p types t k locals low m stack w

  pub follows_room : (t : ℕ) (k : List (Instr ℕ)) (locals : Locals) (low : List Cell) (m n : ℕ) (stack : List Cell) (w : ProgramState) → m ≡ n → Goes_on t k locals low m stack w → Goes_on t k locals low n stack w
  follows_room t k locals low m n stack w e on = subst (λ r. Goes_on t k locals low r stack w) e on

  -- nothing is added to the temporaries
  pub follows_same : (t : ℕ) (k : List (Instr ℕ)) (locals : Locals) (low : List Cell) (m : ℕ) (stack : List Cell) (w : ProgramState) → Goes_on t k locals (low ++ []) (m - 0) stack w → Goes_on t k locals low m stack w
  follows_same t k locals low m stack w on =
      let room : m - 0 ≡ m = omega arith in
      follows_room t k locals low (m - 0) m stack w room (follows_low image final depth code callers starts p types t k locals (low ++ []) low (m - 0) stack w (append-nil low) on)

  -- a row goes from the stack into the first of the temporaries
  pub follows_keeps : (t at count : ℕ) (row : List Cell) (k : List (Instr ℕ)) (locals : Locals) (low : List Cell) (m : ℕ) (stack : List Cell) (w : ProgramState) → types_of locals ≡ types → total types + length low ≡ at → length row ≡ count → count ≤ m → Goes_on t k locals (low ++ row) (m - count) stack w → Goes_on t (store at count ∷ k) locals low m (stack ++ row) w
  follows_keeps t at count row k locals low m stack w same long size le on rows fits =
      keeps image final depth code callers starts p t at count row k (together rows ++ low) m stack w (row_long image final depth code callers starts p types rows locals low at fits same long) size le
      (on_front image final depth code callers starts p t k (together rows ++ (low ++ row)) _ (m - count) stack w (sym (append_assoc (together rows) low row)) (on rows fits))

  module _ (placed : Placed image final depth code callers starts p types) (calls : Calls) (every : (e : Expr) → Runs image final depth code callers starts p calls e) where
    -- what is behind the steps is behind the code of their operands, with the indexes in temporaries
    abbrev pub OperandsRun : trees.Steps → Type 0
    OperandsRun q =
        (of : Type') (t : ℕ) (locals : Locals) (at : ℕ) (k : List (Instr ℕ)) (low : List Cell) (m : ℕ) (stack : List Cell) (w : ProgramState) → types_of locals ≡ types → total types + length low ≡ at → steps_temps q ≤ m →
        Onward final (λ ss w1. (row : List Cell) → length row ≡ steps_temps q → Kept of q ss row → Goes_on t k locals (low ++ row) (m - steps_temps q) stack w1) (steps calls of q locals w) →
        Goes_on t (operands_code p at q ++ k) locals low m stack w

    field_operands : (n : ℕ) (q : trees.Steps) → OperandsRun q → OperandsRun (trees.to_field n q)
    field_operands n q runs of t locals at k low m stack w same long le h = by_type (field_type (underlying of) n) refl h
      where
        by_type : (o : Option Type') → field_type (underlying of) n ≡ o → Onward final (λ ss w1. (row : List Cell) → length row ≡ steps_temps q → Kept of (trees.to_field n q) ss row → Goes_on t k locals (low ++ row) (m - steps_temps q) stack w1) (with_type o (λ u. and_then (steps calls u q locals w) (λ ss w1. Gives (to_field n ∷ ss) w1))) → Goes_on t (operands_code p at q ++ k) locals low m stack w
        by_type None e h = absurd h
        by_type (Some u) e h =
            runs u t locals at k low m stack w same long le
            (onward_map final _ _ (steps calls u q locals w)
            (λ ss w1 more row size kept. more row size (refl, subst (λ o. WithType o (λ x. Kept x q ss row)) (sym e) kept))
            (onward_then final _ (steps calls u q locals w) _ h))

    -- what is to hold behind an element's operand and the others
    abbrev Behind : Type' → Expr → trees.Steps → ℕ → List (Instr ℕ) → Locals → List Cell → ℕ → List Cell → List Step → ProgramState → Type 0
    Behind of e q t k locals low m stack ss w =
        (row : List Cell) → length row ≡ expr_temps e + 1 + steps_temps q → Kept of (trees.to_element e q) ss row → Goes_on t k locals (low ++ row) (m - (expr_temps e + 1 + steps_temps q)) stack w

    element_operands : (e : Expr) (q : trees.Steps) → OperandsRun q → OperandsRun (trees.to_element e q)
    element_operands e q runs of t locals at k low m stack w same long le h = by_type (element_type (underlying of)) refl h
      where
        by_index : (u : Type') → element_type (underlying of) ≡ Some u → (v : Value) (w1 : ProgramState) → Onward final (Behind of e q t k locals low m stack) (with_index v w1 (λ s. and_then (steps calls u q locals w1) (λ ss w2. Gives (s ∷ ss) w2))) → Goes_on t (store (at + expr_temps e) 1 ∷ (operands_code p (at + expr_temps e + 1) q ++ k)) locals low m (stack ++ flat v) w1
        by_index u found (single (Truth b)) w1 h = absurd h
        by_index u found (single (Text s)) w1 h = absurd h
        by_index u found (single (Slice r s n c)) w1 h = absurd h
        by_index u found (parts vs) w1 h = absurd h
        by_index u found (single (Int z)) w1 h =
            let within : expr_temps e ≤ m = omega (arith, le) in
            follows_deeper image final depth code callers starts p types t (store (at + expr_temps e) 1 ∷ (operands_code p (at + expr_temps e + 1) q ++ k)) locals low m (expr_temps e) (stack ++ Int z ∷ []) w1 within (λ more size.
            let there : total types + length (low ++ more) ≡ at + expr_temps e = omega (arith, long, size, length-append low more) in
            let one : 1 ≤ m - expr_temps e = omega (arith, le) in
            follows_keeps t (at + expr_temps e) 1 (Int z ∷ []) (operands_code p (at + expr_temps e + 1) q ++ k) locals (low ++ more) (m - expr_temps e) stack w1 same there refl one
            (let next : total types + length ((low ++ more) ++ Int z ∷ []) ≡ at + expr_temps e + 1 = omega (arith, there, length-append (low ++ more) (Int z ∷ [])) in
            let left : steps_temps q ≤ m - expr_temps e - 1 = omega (arith, le) in
            let room : m - (expr_temps e + 1 + steps_temps q) ≡ m - expr_temps e - 1 - steps_temps q = omega (arith, le) in
            runs u t locals (at + expr_temps e + 1) k ((low ++ more) ++ Int z ∷ []) (m - expr_temps e - 1) stack w1 same next left
            (onward_map final _ _ (steps calls u q locals w1)
            (λ ss w2 goes row rest kept.
            let whole : length (more ++ Int z ∷ row) ≡ expr_temps e + 1 + steps_temps q = omega (arith, size, rest, length-append more (Int z ∷ row)) in
            let shape : low ++ (more ++ Int z ∷ row) ≡ ((low ++ more) ++ Int z ∷ []) ++ row = simp append_assoc in
            follows_low image final depth code callers starts p types t k locals (low ++ (more ++ Int z ∷ row)) _ (m - expr_temps e - 1 - steps_temps q) stack w2 shape
            (follows_room t k locals (low ++ (more ++ Int z ∷ row)) _ _ stack w2 room
            (goes (more ++ Int z ∷ row) whole (subst (λ o. WithType o (λ x. Split (λ r. Kept x q ss r) (expr_temps e) z (more ++ Int z ∷ row))) (sym found) (record { first = more; others = row; is = refl; long = size; holds = kept })))))
            (onward_then final _ (steps calls u q locals w1) _ h))))

        by_type : (o : Option Type') → element_type (underlying of) ≡ o → Onward final (Behind of e q t k locals low m stack) (with_type o (λ u. and_then (eval calls e locals w) (λ v w1. with_index v w1 (λ s. and_then (steps calls u q locals w1) (λ ss w2. Gives (s ∷ ss) w2))))) → Goes_on t ((expr_code p at e ++ store (at + expr_temps e) 1 ∷ operands_code p (at + expr_temps e + 1) q) ++ k) locals low m stack w
        by_type None found h = absurd h
        by_type (Some u) found h =
            let enough : expr_temps e ≤ m = omega (arith, le) in
            follows_as image final depth code callers starts p types t (expr_code p at e ++ (store (at + expr_temps e) 1 ∷ (operands_code p (at + expr_temps e + 1) q ++ k))) _ locals low m stack w (sym (append_assoc (expr_code p at e) (store (at + expr_temps e) 1 ∷ operands_code p (at + expr_temps e + 1) q) k))
            (expr_follows image final depth code callers starts p types placed calls e (every e) t locals at (store (at + expr_temps e) 1 ∷ (operands_code p (at + expr_temps e + 1) q ++ k)) low m stack w same long enough
            (onward_map final _ _ (eval calls e locals w) (λ v w1 more typed. by_index u found v w1 more) (onward_then final _ (eval calls e locals w) _ h)))

    pub operands_run : (q : trees.Steps) → OperandsRun q
    operands_run trees.here of t locals at k low m stack w same long le h = follows_same t k locals low m stack w (h [] refl tt)
    operands_run (trees.to_field n q) of t locals at k low m stack w same long le h = field_operands n q (operands_run q) of t locals at k low m stack w same long le h
    operands_run (trees.to_element e q) of t locals at k low m stack w same long le h = element_operands e q (operands_run q) of t locals at k low m stack w same long le h

    -- ---- left sides

    -- what is behind the target of a left side is behind its operands
    abbrev pub AimRuns : Left → Type 0
    AimRuns l =
        (t : ℕ) (locals : Locals) (at : ℕ) (k : List (Instr ℕ)) (low : List Cell) (m : ℕ) (stack : List Cell) (w : ProgramState) → types_of locals ≡ types → total types + length low ≡ at → left_temps l ≤ m →
        Onward final (λ target w1. (row : List Cell) → length row ≡ left_temps l → KeptLeft l target row → Goes_on t k locals (low ++ row) (m - left_temps l) stack w1) (aim calls l locals w) →
        Goes_on t (left_operands p at l ++ k) locals low m stack w

    local_aim : (u : Type') (n : ℕ) (q : trees.Steps) → AimRuns (of_local u n q)
    local_aim u n q t locals at k low m stack w same long le h = by_test (nat_le (cells u) most_cells) refl h
      where
        by_test : (b : Bool) → nat_le (cells u) most_cells ≡ b → Onward final (λ target w1. (row : List Cell) → length row ≡ steps_temps q → KeptLeft (of_local u n q) target row → Goes_on t k locals (low ++ row) (m - steps_temps q) stack w1) (if b then and_then (steps calls u q locals w) (λ ss w1. Gives (in_local u n ss) w1) else Stuck) → Goes_on t (operands_code p at q ++ k) locals low m stack w
        by_test false e h = absurd h
        by_test true e h =
            operands_run q u t locals at k low m stack w same long le
            (onward_map final _ _ (steps calls u q locals w)
            (λ ss w1 more row size kept. more row size (refl, refl, value_room (cells u) (leb-true (cells u) most_cells e), kept))
            (onward_then final _ (steps calls u q locals w) _ h))

    global_aim : (u : Type') (s : Symbol) (q : trees.Steps) → AimRuns (of_global u s q)
    global_aim u s q t locals at k low m stack w same long le h = by_test (nat_le (cells u) most_cells) refl h
      where
        by_test : (b : Bool) → nat_le (cells u) most_cells ≡ b → Onward final (λ target w1. (row : List Cell) → length row ≡ steps_temps q → KeptLeft (of_global u s q) target row → Goes_on t k locals (low ++ row) (m - steps_temps q) stack w1) (if b then and_then (steps calls u q locals w) (λ ss w1. Gives (in_global u s ss) w1) else Stuck) → Goes_on t (operands_code p at q ++ k) locals low m stack w
        by_test false e h = absurd h
        by_test true e h =
            operands_run q u t locals at k low m stack w same long le
            (onward_map final _ _ (steps calls u q locals w)
            (λ ss w1 more row size kept. more row size (refl, refl, value_room (cells u) (leb-true (cells u) most_cells e), kept))
            (onward_then final _ (steps calls u q locals w) _ h))

    -- an index comes first into the elements of a slice
    sliced_goes : (u v : Type') (e : Expr) (q : trees.Steps) (c : Cell) (n : ℕ) (Q : List Cell → ProgramState → Type 0) (w : ProgramState) → element_type (underlying u) ≡ Some v → (ss : List Step) (more row : List Cell) → length more ≡ expr_temps e → length (more ++ c ∷ row) ≡ n → Onward final (λ target w1. (r : List Cell) → length r ≡ n → KeptLeft (of_slice u e q) target r → Q r w1) (step_into_elements v (single c) ss w) → Kept u q ss row → Q (more ++ c ∷ row) w
    sliced_goes u v e q c n Q w found [] more row size whole goes kept = absurd goes
    sliced_goes u v e q c n Q w found (s ∷ ss) more row size whole goes kept =
        goes (more ++ c ∷ row) whole (found, record { first = more; cell = c; others = row; value = refl; is = refl; long = size; holds = kept })

    -- behind the slice, whose cell comes into its temporary first
    slice_kept : (u v : Type') (e : Expr) (q : trees.Steps) → element_type (underlying u) ≡ Some v → (t : ℕ) (locals : Locals) (at : ℕ) (k : List (Instr ℕ)) (low : List Cell) (m : ℕ) (stack : List Cell) (w : ProgramState) → types_of locals ≡ types → total types + length low ≡ at → expr_temps e + 1 + steps_temps q ≤ m → (x : Value) →
        Onward final (λ target w1. (row : List Cell) → length row ≡ expr_temps e + 1 + steps_temps q → KeptLeft (of_slice u e q) target row → Goes_on t k locals (low ++ row) (m - (expr_temps e + 1 + steps_temps q)) stack w1) (with_cell x (and_then (steps calls u q locals w) (step_into_elements v x))) →
        Goes_on t (store (at + expr_temps e) 1 ∷ (operands_code p (at + expr_temps e + 1) q ++ k)) locals low m (stack ++ flat x) w
    slice_kept u v e q found t locals at k low m stack w same long le (parts vs) h = absurd h
    slice_kept u v e q found t locals at k low m stack w same long le (single c) h =
        let within : expr_temps e ≤ m = omega (arith, le) in
        follows_deeper image final depth code callers starts p types t (store (at + expr_temps e) 1 ∷ (operands_code p (at + expr_temps e + 1) q ++ k)) locals low m (expr_temps e) (stack ++ c ∷ []) w within (λ more size.
        let there : total types + length (low ++ more) ≡ at + expr_temps e = omega (arith, long, size, length-append low more) in
        let one : 1 ≤ m - expr_temps e = omega (arith, le) in
        follows_keeps t (at + expr_temps e) 1 (c ∷ []) (operands_code p (at + expr_temps e + 1) q ++ k) locals (low ++ more) (m - expr_temps e) stack w same there refl one
        (let next : total types + length ((low ++ more) ++ c ∷ []) ≡ at + expr_temps e + 1 = omega (arith, there, length-append (low ++ more) (c ∷ [])) in
        let left : steps_temps q ≤ m - expr_temps e - 1 = omega (arith, le) in
        let room : m - (expr_temps e + 1 + steps_temps q) ≡ m - expr_temps e - 1 - steps_temps q = omega (arith, le) in
        operands_run q u t locals (at + expr_temps e + 1) k ((low ++ more) ++ c ∷ []) (m - expr_temps e - 1) stack w same next left
        (onward_map final _ _ (steps calls u q locals w)
        (λ ss w2 goes row rest kept.
        let whole : length (more ++ c ∷ row) ≡ expr_temps e + 1 + steps_temps q = omega (arith, size, rest, length-append more (c ∷ row)) in
        let shape : low ++ (more ++ c ∷ row) ≡ ((low ++ more) ++ c ∷ []) ++ row = simp append_assoc in
        follows_low image final depth code callers starts p types t k locals (low ++ (more ++ c ∷ row)) _ (m - expr_temps e - 1 - steps_temps q) stack w2 shape
        (follows_room t k locals (low ++ (more ++ c ∷ row)) _ _ stack w2 room
        (sliced_goes u v e q c (expr_temps e + 1 + steps_temps q) (λ r w3. Goes_on t k locals (low ++ r) (m - (expr_temps e + 1 + steps_temps q)) stack w3) w2 found ss more row size whole goes kept)))
        (onward_then final _ (steps calls u q locals w) _ h))))

    slice_aim : (u : Type') (e : Expr) (q : trees.Steps) → AimRuns (of_slice u e q)
    slice_aim u e q t locals at k low m stack w same long le h = by_type (element_type (underlying u)) refl h
      where
        -- what is to hold behind the target
        Aimed : Target → ProgramState → Type 0
        Aimed target w1 = (row : List Cell) → length row ≡ expr_temps e + 1 + steps_temps q → KeptLeft (of_slice u e q) target row → Goes_on t k locals (low ++ row) (m - (expr_temps e + 1 + steps_temps q)) stack w1

        by_room : (v : Type') → element_type (underlying u) ≡ Some v → (b : Bool) → Onward final Aimed (if b then and_then (eval calls e locals w) (λ x w1. with_cell x (and_then (steps calls u q locals w1) (step_into_elements v x))) else Stuck) → Goes_on t ((expr_code p at e ++ store (at + expr_temps e) 1 ∷ operands_code p (at + expr_temps e + 1) q) ++ k) locals low m stack w
        by_room v found false h = absurd h
        by_room v found true h =
            let enough : expr_temps e ≤ m = omega (arith, le) in
            let behind : List (Instr ℕ) = store (at + expr_temps e) 1 ∷ (operands_code p (at + expr_temps e + 1) q ++ k) in
            follows_as image final depth code callers starts p types t (expr_code p at e ++ behind) _ locals low m stack w (sym (append_assoc (expr_code p at e) (store (at + expr_temps e) 1 ∷ operands_code p (at + expr_temps e + 1) q) k))
            (expr_follows image final depth code callers starts p types placed calls e (every e) t locals at behind low m stack w same long enough
            (onward_map final _ _ (eval calls e locals w) (λ x w1 more typed. slice_kept u v e q found t locals at k low m stack w1 same long le x more) (onward_then final _ (eval calls e locals w) _ h)))

        by_type : (o : Option Type') → element_type (underlying u) ≡ o → Onward final Aimed (with_type o (λ v. if nat_le (cells v) most_cells then and_then (eval calls e locals w) (λ x w1. with_cell x (and_then (steps calls u q locals w1) (step_into_elements v x))) else Stuck)) → Goes_on t ((expr_code p at e ++ store (at + expr_temps e) 1 ∷ operands_code p (at + expr_temps e + 1) q) ++ k) locals low m stack w
        by_type None found h = absurd h
        by_type (Some v) found h = by_room v found (nat_le (cells v) most_cells) h

    pub aim_runs : (l : Left) → AimRuns l
    aim_runs blank t locals at k low m stack w same long le h = follows_same t k locals low m stack w (h [] refl tt)
    aim_runs (of_local u n q) t locals at k low m stack w same long le h = local_aim u n q t locals at k low m stack w same long le h
    aim_runs (of_global u s q) t locals at k low m stack w same long le h = global_aim u s q t locals at k low m stack w same long le h
    aim_runs (of_slice u e q) t locals at k low m stack w same long le h = slice_aim u e q t locals at k low m stack w same long le h

    abbrev pub AimsRun : List Left → Type 0
    AimsRun ls =
        (t : ℕ) (locals : Locals) (at : ℕ) (k : List (Instr ℕ)) (low : List Cell) (m : ℕ) (stack : List Cell) (w : ProgramState) → types_of locals ≡ types → total types + length low ≡ at → lefts_temps ls ≤ m →
        Onward final (λ targets w1. (row : List Cell) → length row ≡ lefts_temps ls → KeptLefts ls targets row → Goes_on t k locals (low ++ row) (m - lefts_temps ls) stack w1) (aim_all calls ls locals w) →
        Goes_on t (lefts_operands p at ls ++ k) locals low m stack w

    pub aims_run : (ls : List Left) → AimsRun ls
    aims_run [] t locals at k low m stack w same long le h = follows_same t k locals low m stack w (h [] refl tt)
    aims_run (l ∷ ls) t locals at k low m stack w same long le h =
        let d : ℕ = left_temps l in
        let n : ℕ = lefts_temps ls in
        let enough : left_temps l ≤ m = omega (arith, le) in
        let left : lefts_temps ls ≤ m - left_temps l = omega (arith, le) in
        let room : m - (left_temps l + lefts_temps ls) ≡ m - left_temps l - lefts_temps ls = omega (arith, le) in
        follows_as image final depth code callers starts p types t (left_operands p at l ++ (lefts_operands p (at + d) ls ++ k)) _ locals low m stack w (sym (append_assoc (left_operands p at l) (lefts_operands p (at + d) ls) k))
        (aim_runs l t locals at (lefts_operands p (at + d) ls ++ k) low m stack w same long enough
        (onward_map final _ _ (aim calls l locals w)
        (λ target w1 more one size kept.
        let next : total types + length (low ++ one) ≡ at + left_temps l = omega (arith, long, size, length-append low one) in
        aims_run ls t locals (at + d) k (low ++ one) (m - d) stack w1 same next left
        (onward_map final _ _ (aim_all calls ls locals w1)
        (λ targets w2 goes row rest kepts.
        let whole : length (one ++ row) ≡ left_temps l + lefts_temps ls = omega (arith, size, rest, length-append one row) in
        follows_low image final depth code callers starts p types t k locals (low ++ (one ++ row)) _ (m - d - n) stack w2 (sym (append_assoc low one row))
        (follows_room t k locals (low ++ (one ++ row)) _ _ stack w2 room
        (goes (one ++ row) whole (record { first = one; others = row; is = refl; long = size; holds = kept; rest = kepts }))))
        (onward_then final _ (aim_all calls ls locals w1) _ more)))
        (onward_then final _ (aim calls l locals w) _ h)))
