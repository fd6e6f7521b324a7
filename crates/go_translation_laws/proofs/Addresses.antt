-- The code of steps comes to the offset of the part that they lead to, or panics as they do, where temporaries hold the indexes.
use Rattle.std.proofs.Common.{◌≡◌, ℕ, ◌+◌, ◌≤◌, true, List, [], ◌∷◌, ◌++◌, length, Option, Some, None, refl, sym, ap, ◌∙◌, subst, arith, length-append, append_assoc, add-zero, zero-add, ℤ, pos}
use Rattle.std.specs.Prelude.{⊤}
use Rattle.go_types.specs.Types.{Type', basic, array, slice, struct, named}
use Rattle.go_types.specs.Relations.{underlying}
use Rattle.go_types.specs.Sizes.{cells}
use Rattle.go_code.specs.declared.cell.Cell.{Cell}
use Rattle.go_code.specs.declared.cell.Cell.TheVariants.{Int}
use Rattle.go_code.specs.declared.ending.Ending.TheVariants.{Panicked}
use Rattle.go_code.specs.declared.ending.PanicKind.{PanicKind}
use Rattle.go_code.specs.declared.image.Start.{Start}
use Rattle.go_code.specs.declared.instr.Instr.{Instr}
use Rattle.go_code.specs.declared.instr.Instr.TheVariants.{Part as On_part}
use Rattle.go_code.specs.declared.instr.PartInstr.{PartInstr}
use Rattle.go_code.specs.declared.instr.PartInstr.TheVariants.{Move, Index}
use Rattle.go_code.specs.Finals.{Final, Ends as Ends_with}
use Rattle.go_code.specs.Images.{Image}
use Rattle.go_code.specs.Machine.{Frame, Leads}
use Rattle.go_code.specs.Operators as operators
use Rattle.go_code.specs.Operators.{Operated}
use Rattle.go_code.specs.Parts.{part, part_cells}
use Rattle.go_code.specs.Rows.{most_room}
use Rattle.go_code.proofs.Follows.{push_leads}
use Rattle.go_code.proofs.FollowsInside.{part_leads, part_panics}
use Rattle.go_code.proofs.Stands.{stands_next}
use Rattle.go_typed.specs.Trees as trees
use Rattle.go_typed.specs.Trees.{Expr}
use Rattle.go_meaning.specs.Values.{Value, single, parts, flat, is_of, Step, to_field, to_element, part_of, read, if_gives}
use Rattle.go_meaning.specs.Choices.{field_type, element_type}
use Rattle.go_meaning.specs.Meaning.{ProgramState}
use Rattle.go_gen.specs.Translation.{Places, load, offset, field_offset, or_type, elements_count, expr_temps, steps_code, address_code}
use Rattle.go_meaning_laws.proofs.Values.{flat_long}
use Rattle.go_translation_laws.proofs.Shapes.{underlying_cells, underlying_values}
use Rattle.go_translation_laws.proofs.Runs.{here, On, on_stack}
use Rattle.go_translation_laws.proofs.Rows.{on_front, loads}
use Rattle.go_translation_laws.proofs.Steps.{Parted, Finds, field_finds, element_finds, part_within, Led, led_here, led_next}

-- ---- rows among cells

-- this row lies there among some cells
pub record Has (all : List Cell) (at : ℕ) (row : List Cell) : Type 0 where
  pub before : List Cell
  pub after : List Cell
  pub is : all ≡ before ++ (row ++ after)
  pub place : length before ≡ at

pub has_first : (all : List Cell) (at : ℕ) (a b : List Cell) → Has all at (a ++ b) → Has all at a
has_first all at a b h =
    record { before = h.before; after = b ++ h.after; is = h.is ∙ ap (λ l. h.before ++ l) (append_assoc a b h.after); place = h.place }

pub has_second : (all : List Cell) (at n : ℕ) (a b : List Cell) → length a ≡ n → Has all at (a ++ b) → Has all (at + n) b
has_second all at n a b long h =
    let place : length (h.before ++ a) ≡ at + n = omega (arith, length-append h.before a, h.place, long) in
    let shape : h.before ++ ((a ++ b) ++ h.after) ≡ (h.before ++ a) ++ (b ++ h.after) = simp append_assoc in
    record { before = h.before ++ a; after = h.after; is = h.is ∙ shape; place = place }

-- with more cells behind, and before
pub has_more : (all more : List Cell) (at : ℕ) (row : List Cell) → Has all at row → Has (all ++ more) at row
has_more all more at row h =
    let shape : (h.before ++ (row ++ h.after)) ++ more ≡ h.before ++ (row ++ (h.after ++ more)) = simp append_assoc in
    record { before = h.before; after = h.after ++ more; is = ap (λ l. l ++ more) h.is ∙ shape; place = h.place }

pub has_behind : (first all : List Cell) (n at : ℕ) (row : List Cell) → length first ≡ n → Has all at row → Has (first ++ all) (n + at) row
has_behind first all n at row long h =
    let place : length (first ++ h.before) ≡ n + at = omega (arith, length-append first h.before, h.place, long) in
    record { before = first ++ h.before; after = h.after; is = ap (λ l. first ++ l) h.is ∙ sym (append_assoc first h.before (row ++ h.after)); place = place }

-- rows that are all that differs are as long where the wholes are
pub same_size : (whole other before x y after : List Cell) → whole ≡ before ++ (x ++ after) → other ≡ before ++ (y ++ after) → length other ≡ length whole → length y ≡ length x
same_size whole other before x y after a b e =
    omega (arith, ap length a, ap length b, e, length-append before (x ++ after), length-append x after, length-append before (y ++ after), length-append y after)

-- ---- indexes in their temporaries

-- a row begins with so many cells, behind which there is an index
pub record Split (P : List Cell → Type 0) (n : ℕ) (z : ℤ) (row : List Cell) : Type 0 where
  pub first : List Cell
  pub others : List Cell
  pub is : row ≡ first ++ Int z ∷ others
  pub long : length first ≡ n
  pub holds : P others

abbrev pub WithType : Option Type' → (Type' → Type 0) → Type 0
WithType None P = ⊥
WithType (Some u) P = P u

-- the temporaries of steps, from a type on, hold the indexes that the steps came to
abbrev pub Kept : Type' → trees.Steps → List Step → List Cell → Type 0
Kept t trees.here [] row = ⊤
Kept t trees.here (s ∷ ss) row = ⊥
Kept t (trees.to_field n q) [] row = ⊥
Kept t (trees.to_field n q) (to_field m ∷ ss) row = (m ≡ n) × WithType (field_type (underlying t) n) (λ u. Kept u q ss row)
Kept t (trees.to_field n q) (to_element z ∷ ss) row = ⊥
Kept t (trees.to_element e q) [] row = ⊥
Kept t (trees.to_element e q) (to_field m ∷ ss) row = ⊥
Kept t (trees.to_element e q) (to_element z ∷ ss) row = WithType (element_type (underlying t)) (λ u. Split (λ others. Kept u q ss others) (expr_temps e) z row)

module _ (image : Image) (final : Final) (depth : ℕ) (code : List (Instr ℕ)) (callers : List Frame) (starts : List Start) (p : Places ℕ) where
  abbrev Onto : ℕ → List (Instr ℕ) → List Cell → ℕ → List Cell → ProgramState → Type 0
  Onto t k front m stack w = On image final depth code callers starts p t k front m stack w

  pub has_loads : (t at count : ℕ) (row : List Cell) (k : List (Instr ℕ)) (front : List Cell) (m : ℕ) (stack : List Cell) (w : ProgramState) → Has front at row → length row ≡ count → Onto t k front m (stack ++ row) w → Onto t (load at count ∷ k) front m stack w
  has_loads t at count row k front m stack w has long on =
      on_front image final depth code callers starts p t (load at count ∷ k) (has.before ++ (row ++ has.after)) front m stack w (sym has.is)
      (loads image final depth code callers starts p t at count has.before row has.after k m stack w has.place long
      (on_front image final depth code callers starts p t k front (has.before ++ (row ++ has.after)) m (stack ++ row) w has.is on))

  pub part_goes : (t : ℕ) (i : PartInstr) (row got : List Cell) (k : List (Instr ℕ)) (front : List Cell) (m : ℕ) (stack : List Cell) (w : ProgramState) → length row ≡ part_cells i → part i row ≡ operators.Gives got → Onto t k front m (stack ++ got) w → Onto t (On_part i ∷ k) front m (stack ++ row) w
  part_goes t i row got k front m stack w long e on known few place high size s =
      part_leads image (here image final depth code callers starts p place (front ++ high) (stack ++ row) w) _ callers i stack row got final (record { frames = refl; rest = k; stands = s }) (record { is = refl; long = long }) e
      (on known few (place + 1) high size (stands_next code place _ k s))

  pub part_stops : (t : ℕ) (i : PartInstr) (row : List Cell) (kind : PanicKind) (k : List (Instr ℕ)) (front : List Cell) (m : ℕ) (stack : List Cell) (w : ProgramState) → length row ≡ part_cells i → part i row ≡ operators.Panics kind → final ≡ Ends_with (Panicked kind) w.output → Onto t (On_part i ∷ k) front m (stack ++ row) w
  part_stops t i row kind k front m stack w long e over known few place high size s =
      subst (Leads image (here image final depth code callers starts p place (front ++ high) (stack ++ row) w)) (sym over)
      (part_panics image (here image final depth code callers starts p place (front ++ high) (stack ++ row) w) _ callers i stack row kind (record { frames = refl; rest = k; stands = s }) (record { is = refl; long = long }) e)

  -- ---- steps

  -- what is to hold of the offset of the part that steps lead to; where they panic this is the end
  abbrev pub Reach : (ℕ → Type 0) → List Step → Value → ProgramState → Operated Value → Type 0
  Reach P ss v w (operators.Gives x) = (o : ℕ) → Led ss v x o → P o
  Reach P ss v w (operators.Panics kind) = final ≡ Ends_with (Panicked kind) w.output
  Reach P ss v w operators.Senseless = ⊥

  -- with an offset on the stack, from which the others count
  abbrev pub From : ℕ → List (Instr ℕ) → List Cell → ℕ → List Cell → ProgramState → ℕ → List Step → Value → Operated Value → Type 0
  From t k front m stack w base ss v r = Reach (λ o. Onto t k front m (stack ++ Int (pos (base + o)) ∷ []) w) ss v w r

  pub from_next : (t : ℕ) (k : List (Instr ℕ)) (front : List Cell) (m : ℕ) (stack : List Cell) (w : ProgramState) (base : ℕ) (s : Step) (ss : List Step) (u : Type') (v inner : Value) (at : ℕ) → part_of v s ≡ operators.Gives inner → Parted v s u inner at → (r : Operated Value) → From t k front m stack w base (s ∷ ss) v r → From t k front m stack w (base + at) ss inner r
  from_next t k front m stack w base s ss u v inner at e one (operators.Gives x) h = λ o led.
      let same : base + (at + o) ≡ base + at + o = omega arith in
      on_stack image final depth code callers starts p t k front m _ _ w (ap (λ n. stack ++ Int (pos n) ∷ []) same) (h (at + o) (led_next s ss u v inner x at o e one led))
  from_next t k front m stack w base s ss u v inner at e one (operators.Panics kind) h = h
  from_next t k front m stack w base s ss u v inner at e one operators.Senseless h = absurd h

  -- one step, by an instruction that finds the part, and then the others
  step_runs : (t : ℕ) (k : List (Instr ℕ)) (front : List Cell) (m : ℕ) (stack : List Cell) (w : ProgramState) (base : ℕ) (s : Step) (ss : List Step) (u : Type') (v : Value) (i : PartInstr) (row : List Cell) (behind : List (Instr ℕ)) → length row ≡ part_cells i → base + length (flat v) ≤ most_room → ((inner : Value) (base1 : ℕ) → is_of u inner ≡ true → base1 + cells u ≤ most_room → From t k front m stack w base1 ss inner (read ss inner) → Onto t behind front m (stack ++ Int (pos base1) ∷ []) w) → (o : Operated Value) → part_of v s ≡ o → Finds v s u base (part i row) o → From t k front m stack w base (s ∷ ss) v (if_gives o (read ss)) → Onto t (On_part i ∷ behind) front m (stack ++ row) w
  step_runs t k front m stack w base s ss u v i row behind long small next (operators.Gives inner) e finds h =
      let at : ℕ = finds.at in
      let within : base + at + cells u ≤ most_room = omega (arith, small, part_within v s u inner at finds.parted) in
      part_goes t i row (Int (pos (base + at)) ∷ []) behind front m stack w long finds.got_is
      (next inner (base + at) finds.parted.typed within (from_next t k front m stack w base s ss u v inner at e finds.parted (read ss inner) h))
  step_runs t k front m stack w base s ss u v i row behind long small next (operators.Panics kind) e finds h = part_stops t i row kind behind front m stack w long finds h
  step_runs t k front m stack w base s ss u v i row behind long small next operators.Senseless e finds h = absurd h

  -- what is behind the offset of the part is behind the code of these steps
  abbrev pub StepsRun : trees.Steps → Type 0
  StepsRun q =
      (ss : List Step) (of : Type') (v : Value) (row : List Cell) (base at t : ℕ) (k : List (Instr ℕ)) (front : List Cell) (m : ℕ) (stack : List Cell) (w : ProgramState) →
      Has front at row → Kept of q ss row → is_of of v ≡ true → base + cells of ≤ most_room → From t k front m stack w base ss v (read ss v) →
      Onto t (steps_code of at q ++ k) front m (stack ++ Int (pos base) ∷ []) w

  field_step : (n : ℕ) (q : trees.Steps) → StepsRun q → (s : Type') (ss : List Step) (of : Type') (v : Value) (row : List Cell) (base at t : ℕ) (k : List (Instr ℕ)) (front : List Cell) (m : ℕ) (stack : List Cell) (w : ProgramState) → Has front at row → (o : Option Type') → field_type s n ≡ o → WithType o (λ u. Kept u q ss row) → is_of s v ≡ true → base + cells s ≤ most_room → From t k front m stack w base (to_field n ∷ ss) v (read (to_field n ∷ ss) v) → Onto t (On_part (Move (offset s n)) ∷ (steps_code (or_type of o) at q ++ k)) front m (stack ++ Int (pos base) ∷ []) w
  field_step n q runs s ss of v row base at t k front m stack w has None found kept typed small h = absurd kept
  field_step n q runs (basic b) ss of v row base at t k front m stack w has (Some u) found kept typed small h = cc
  field_step n q runs (array c x) ss of v row base at t k front m stack w has (Some u) found kept typed small h = cc
  field_step n q runs (slice x) ss of v row base at t k front m stack w has (Some u) found kept typed small h = cc
  field_step n q runs (named path name x) ss of v row base at t k front m stack w has (Some u) found kept typed small h = cc
  field_step n q runs (struct fs) ss of v row base at t k front m stack w has (Some u) found kept typed small h =
      let whole : base + length (flat v) ≤ most_room = omega (arith, small, flat_long (struct fs) v typed) in
      step_runs t k front m stack w base (to_field n) ss u v (Move (field_offset fs n)) (Int (pos base) ∷ []) (steps_code u at q ++ k) refl whole
      (λ inner base1 typed1 small1 h1. runs ss u inner row base1 at t k front m stack w has kept typed1 small1 h1)
      (part_of v (to_field n)) refl (field_finds fs n u v base typed found small (part_of v (to_field n)) refl) h

  element_step : (e : Expr) (q : trees.Steps) → StepsRun q → (s : Type') (z : ℤ) (ss : List Step) (of : Type') (v : Value) (row : List Cell) (base at t : ℕ) (k : List (Instr ℕ)) (front : List Cell) (m : ℕ) (stack : List Cell) (w : ProgramState) → Has front at row → (o : Option Type') → element_type s ≡ o → WithType o (λ u. Split (λ others. Kept u q ss others) (expr_temps e) z row) → is_of s v ≡ true → base + cells s ≤ most_room → From t k front m stack w base (to_element z ∷ ss) v (read (to_element z ∷ ss) v) → Onto t (load (at + expr_temps e) 1 ∷ On_part (Index (elements_count s) (cells (or_type of o))) ∷ (steps_code (or_type of o) (at + expr_temps e + 1) q ++ k)) front m (stack ++ Int (pos base) ∷ []) w
  element_step e q runs (basic b) z ss of v row base at t k front m stack w has None found kept typed small h = absurd kept
  element_step e q runs (basic b) z ss of v row base at t k front m stack w has (Some u) found kept typed small h = cc
  element_step e q runs (struct fs) z ss of v row base at t k front m stack w has None found kept typed small h = absurd kept
  element_step e q runs (struct fs) z ss of v row base at t k front m stack w has (Some u) found kept typed small h = cc
  element_step e q runs (named path name x) z ss of v row base at t k front m stack w has None found kept typed small h = absurd kept
  element_step e q runs (named path name x) z ss of v row base at t k front m stack w has (Some u) found kept typed small h = cc
  element_step e q runs (slice x) z ss of (single c) row base at t k front m stack w has o found kept typed small h = absurd h
  element_step e q runs (slice x) z ss of (parts vs) row base at t k front m stack w has o found kept typed small h = cc
  element_step e q runs (array c x) z ss of v row base at t k front m stack w has None found kept typed small h = absurd kept
  element_step e q runs (array c x) z ss of v row base at t k front m stack w has (Some u) found kept typed small h =
      subst (λ y. Onto t (load (at + expr_temps e) 1 ∷ On_part (Index c (cells y)) ∷ (steps_code y (at + expr_temps e + 1) q ++ k)) front m (stack ++ Int (pos base) ∷ []) w) same
      (with_index (subst (λ y. Split (λ others. Kept y q ss others) (expr_temps e) z row) (sym same) kept))
    where
      same : x ≡ u
      same = cc

      with_index : Split (λ others. Kept x q ss others) (expr_temps e) z row → Onto t (load (at + expr_temps e) 1 ∷ On_part (Index c (cells x)) ∷ (steps_code x (at + expr_temps e + 1) q ++ k)) front m (stack ++ Int (pos base) ∷ []) w
      with_index split =
          let behind : List (Instr ℕ) = steps_code x (at + expr_temps e + 1) q ++ k in
          let there : Has front at (split.first ++ (Int z ∷ [] ++ split.others)) = subst (Has front at) split.is has in
          let index : Has front (at + expr_temps e) (Int z ∷ [] ++ split.others) = has_second front at (expr_temps e) split.first (Int z ∷ [] ++ split.others) split.long there in
          let one : Has front (at + expr_temps e) (Int z ∷ []) = has_first front (at + expr_temps e) (Int z ∷ []) split.others index in
          let rest : Has front (at + expr_temps e + 1) split.others = has_second front (at + expr_temps e) 1 (Int z ∷ []) split.others refl index in
          let whole : base + length (flat v) ≤ most_room = omega (arith, small, flat_long (array c x) v typed) in
          has_loads t (at + expr_temps e) 1 (Int z ∷ []) (On_part (Index c (cells x)) ∷ behind) front m (stack ++ Int (pos base) ∷ []) w one refl
          (on_stack image final depth code callers starts p t (On_part (Index c (cells x)) ∷ behind) front m _ _ w (sym (append_assoc stack (Int (pos base) ∷ []) (Int z ∷ [])))
          (step_runs t k front m stack w base (to_element z) ss x v (Index c (cells x)) (Int (pos base) ∷ Int z ∷ []) behind refl whole
          (λ inner base1 typed1 small1 h1. runs ss x inner split.others base1 (at + expr_temps e + 1) t k front m stack w rest split.holds typed1 small1 h1)
          (part_of v (to_element z)) refl (element_finds c x v z base typed small (part_of v (to_element z)) refl) h))

  pub steps_run : (q : trees.Steps) → StepsRun q
  steps_run trees.here [] of v row base at t k front m stack w has kept typed small h =
      on_stack image final depth code callers starts p t k front m _ _ w (ap (λ n. stack ++ Int (pos n) ∷ []) (add-zero base)) (h 0 (led_here v))
  steps_run trees.here (s ∷ ss) of v row base at t k front m stack w has kept typed small h = absurd kept
  steps_run (trees.to_field n q) [] of v row base at t k front m stack w has kept typed small h = absurd kept
  steps_run (trees.to_field n q) (to_element z ∷ ss) of v row base at t k front m stack w has kept typed small h = absurd kept
  steps_run (trees.to_field n q) (to_field j ∷ ss) of v row base at t k front m stack w has kept typed small h =
      let within : base + cells (underlying of) ≤ most_room = omega (arith, small, underlying_cells of) in
      field_step n q (steps_run q) (underlying of) ss of v row base at t k front m stack w has (field_type (underlying of) n) refl kept.1 (underlying_values of v ∙ typed) within
      (subst (λ i. From t k front m stack w base (to_field i ∷ ss) v (read (to_field i ∷ ss) v)) kept.0 h)
  steps_run (trees.to_element e q) [] of v row base at t k front m stack w has kept typed small h = absurd kept
  steps_run (trees.to_element e q) (to_field j ∷ ss) of v row base at t k front m stack w has kept typed small h = absurd kept
  steps_run (trees.to_element e q) (to_element z ∷ ss) of v row base at t k front m stack w has kept typed small h =
      let within : base + cells (underlying of) ≤ most_room = omega (arith, small, underlying_cells of) in
      element_step e q (steps_run q) (underlying of) z ss of v row base at t k front m stack w has (element_type (underlying of)) refl kept (underlying_values of v ∙ typed) within h

  from_start : (t : ℕ) (k : List (Instr ℕ)) (front : List Cell) (m : ℕ) (stack : List Cell) (w : ProgramState) (ss : List Step) (v : Value) (r : Operated Value) → Reach (λ o. Onto t k front m (stack ++ Int (pos o) ∷ []) w) ss v w r → From t k front m stack w 0 ss v r
  from_start t k front m stack w ss v (operators.Gives x) h = λ o led.
      on_stack image final depth code callers starts p t k front m _ _ w (ap (λ n. stack ++ Int (pos n) ∷ []) (sym (zero-add o))) (h o led)
  from_start t k front m stack w ss v (operators.Panics kind) h = h
  from_start t k front m stack w ss v operators.Senseless h = absurd h

  -- the offset among a variable's cells comes on the stack
  pub address_runs : (q : trees.Steps) (ss : List Step) (of : Type') (v : Value) (row : List Cell) (at t : ℕ) (k : List (Instr ℕ)) (front : List Cell) (m : ℕ) (stack : List Cell) (w : ProgramState) → Has front at row → Kept of q ss row → is_of of v ≡ true → cells of ≤ most_room → Reach (λ o. Onto t k front m (stack ++ Int (pos o) ∷ []) w) ss v w (read ss v) → Onto t (address_code of at q ++ k) front m stack w
  address_runs q ss of v row at t k front m stack w has kept typed small h known few place high long s =
      let within : 0 + cells of ≤ most_room = omega (arith, small) in
      push_leads image (here image final depth code callers starts p place (front ++ high) stack w) _ callers (Int (pos 0)) (steps_code of at q ++ k) final refl s refl
      (steps_run q ss of v row 0 at t k front m stack w has kept typed within (from_start t k front m stack w ss v (read ss v) h) known few (place + 1) high long (stands_next code place _ (steps_code of at q ++ k) s))
