-- The machine follows expressions, form by form (Runs says how this is built).
use Rattle.std.proofs.Common.{◌≡◌, ℕ, ◌+◌, ◌-◌, ◌≤◌, Bool, true, false, List, [], ◌∷◌, ◌++◌, length, map, take, drop, Option, Some, None, ◌*◌, refl, sym, ap, ◌∙◌, ◌&&◌, subst, arith, length-append, append_assoc, append-nil, pos, negsuc}
use Rattle.std.proofs.lemmas.List.{length-take-le, length-drop, take-append-drop}
use Rattle.std.specs.Prelude.{if◌then◌else◌, nat_le}
use Rattle.std.specs.List.{flat_map, list_all}
use Rattle.go_const.specs.declared.constant.Const.{Const}
use Rattle.go_const.specs.declared.operator.UnaryOperator.{UnaryOperator}
use Rattle.go_types.specs.Types.{Type', basic, array, slice, struct, named, Fields}
use Rattle.go_types.specs.Sizes.{cells}
use Rattle.go_types.specs.Relations.{underlying}
use Rattle.go_code.specs.declared.cell.Cell.{Cell}
use Rattle.go_code.specs.declared.cell.Cell.TheVariants.{Int, Bool as Truth, Text, Slice}
use Rattle.go_code.specs.declared.ending.Ending.TheVariants.{Panicked}
use Rattle.go_code.specs.declared.ending.PanicKind.{PanicKind}
use Rattle.go_code.specs.declared.ending.PanicKind.TheVariants.{Index as Out_of_range}
use Rattle.go_code.specs.declared.image.Start.{Start}
use Rattle.go_code.specs.declared.instr.PartInstr.{PartInstr}
use Rattle.go_code.specs.declared.instr.PartInstr.TheVariants.{Pick, Part}
use Rattle.go_code.specs.declared.instr.RowInstr.{RowInstr}
use Rattle.go_code.specs.declared.instr.RowInstr.TheVariants.{Get}
use Rattle.go_code.specs.Rows.{row_cells, row_step, row_of, has_room}
use Rattle.go_code.specs.Parts.{part, part_cells}
use Rattle.go_code.specs.declared.instr.Instr.{Instr}
use Rattle.go_code.specs.declared.instr.Instr.TheVariants.{Frame as In_frame, Part as On_part, Row as In_row, Jump as Go_to, Calls as By_call}
use Rattle.go_code.specs.declared.instr.FrameInstr.TheVariants.{Push}
use Rattle.go_code.specs.declared.instr.JumpInstr.TheVariants.{Jump, JumpIf, JumpIfNot}
use Rattle.go_code.specs.declared.instr.CallInstr.TheVariants.{Call}
use Rattle.go_code.specs.declared.operator.Operator as operator
use Rattle.go_code.specs.declared.operator.Operator.TheVariants as operator_variants
use Rattle.go_code.specs.declared.operator.TextOperator.TheVariants.{At}
use Rattle.go_code.specs.Finals.{Final, Ends as Ends_with}
use Rattle.go_code.specs.Images.{Image}
use Rattle.go_code.specs.Machine.{Frame, Leads}
use Rattle.go_code.specs.Operators as operators
use Rattle.go_code.proofs.Follows.{push_leads}
use Rattle.go_code.proofs.FollowsInside.{part_leads, part_panics, row_leads, row_panics, jump_leads, jump_if_leads, jump_if_stays, jump_if_not_leads, jump_if_not_stays}
use Rattle.go_code.proofs.Stands.{Stands, stands_next, stands_at, stands_skip}
use Rattle.go_typed.specs.declared.expression.Operator.{Operator}
use Rattle.go_typed.specs.Trees as trees
use Rattle.go_typed.specs.Trees.{Symbol, Expr, Exprs, no_exprs, some_exprs, expr_type}
use Rattle.go_meaning.specs.Values.{Value, single, parts, Values, pack_values, flat, flat_all, is_of, or_else, to_field, part_of, nth}
use Rattle.go_meaning.specs.Choices.{cell_of, field_at, operated, unary_operators, binary_operators, conversion_operators, length_operators, capacity_operators}
use Rattle.go_meaning.specs.Meaning.{ProgramState, Outcome, Gives, Ends, Stuck, Locals, Calls, and_then, typed_or_panic, selected, indexed, elements_of_slice, found, all_given, one_value, if_true, eval, eval_all}
use Rattle.go_gen.specs.Translation.{Places, offset, field_offset, index_code, expr_temps, exprs_temps, expr_counts, operators_code, expr_code, exprs_code}
use Rattle.go_meaning_laws.proofs.Values.{flat_long}
use Rattle.go_translation_laws.proofs.RowLemmas.{rows}
use Rattle.go_translation_laws.proofs.RowSteps.{Tells}
use Rattle.go_translation_laws.proofs.RowReads.{get_tells}
use Rattle.go_translation_laws.proofs.Shapes.{constant_known, underlying_values, field_among, part_reads, element_picked, element_missed, element_below}
use Rattle.go_translation_laws.proofs.Runs.{Onward, onward_then, onward_map, onward_given, here, On, on_as, on_stack, Sits, local_runs, global_runs, operators_run}

-- how many cells each value has
abbrev pub lengths : List Value → List ℕ
lengths vs = map (λ v. length (flat v)) vs

module _ (image : Image) (final : Final) (depth : ℕ) (code : List (Instr ℕ)) (callers : List Frame) (starts : List Start) (p : Places ℕ) where
  abbrev Onto : ℕ → List (Instr ℕ) → List Cell → ℕ → List Cell → ProgramState → Type 0
  Onto t k front m stack w = On image final depth code callers starts p t k front m stack w

  abbrev InPlace : Locals → List Cell → Type 0
  InPlace locals front = Sits image final depth code callers starts p locals front

  -- ---- some temporaries more lie in front

  halves : (m d : ℕ) (high : List Cell) → length high ≡ m → d ≤ m → (length (take d high) ≡ d) × (length (drop d high) ≡ m - d)
  halves m d high long le = (length-take-le d high (omega (arith, long, le)), length-drop d high ∙ ap (λ n. n - d) long)

  pub deeper : (t : ℕ) (k : List (Instr ℕ)) (front : List Cell) (m d : ℕ) (stack : List Cell) (w : ProgramState) → d ≤ m → ((low : List Cell) → length low ≡ d → Onto t k (front ++ low) (m - d) stack w) → Onto t k front m stack w
  deeper t k front m d stack w le on known few place high long s =
      let h = halves m d high long le in
      subst (λ l. Leads image (here image final depth code callers starts p place l stack w) final)
      (append_assoc front (take d high) (drop d high) ∙ ap (λ l. front ++ l) (take-append-drop d high))
      (on (take d high) h.0 known few place (drop d high) h.1 s)

  pub shallower : (t : ℕ) (k : List (Instr ℕ)) (front low : List Cell) (m d : ℕ) (stack : List Cell) (w : ProgramState) → length low ≡ d → d ≤ m → Onto t k front m stack w → Onto t k (front ++ low) (m - d) stack w
  shallower t k front low m d stack w long le on known few place high rest s =
      let size : length (low ++ high) ≡ m = omega (arith, length-append low high, long, rest, le) in
      subst (λ l. Leads image (here image final depth code callers starts p place l stack w) final) (sym (append_assoc front low high)) (on known few place (low ++ high) size s)

  pub sits_deeper : (locals : Locals) (front low : List Cell) → InPlace locals front → InPlace locals (front ++ low)
  sits_deeper locals front low sits =
      record { rows = sits.rows; low = sits.low ++ low; is = ap (λ l. l ++ low) sits.is ∙ append_assoc _ sits.low low; fits = sits.fits; placed = sits.placed }

  -- ---- jumps over a right side

  -- over the one instruction that follows
  leaves : (t : ℕ) (i : Instr ℕ) (k : List (Instr ℕ)) (front : List Cell) (m : ℕ) (stack : List Cell) (w : ProgramState) → Onto t k front m stack w → Onto t (Go_to (Jump 1) ∷ i ∷ k) front m stack w
  leaves t i k front m stack w on known few place high long s =
      let s1 = stands_next code place _ (i ∷ k) s in
      let s2 = stands_next code (place + 1) i k s1 in
      jump_leads image (here image final depth code callers starts p place (front ++ high) stack w) _ callers 1 final (record { frames = refl; rest = i ∷ k; stands = s }) s2.within
      (on known few (place + 1 + 1) high long s2)

  pushes : (t : ℕ) (b : Bool) (k : List (Instr ℕ)) (front : List Cell) (m : ℕ) (stack : List Cell) (w : ProgramState) → Onto t k front m (stack ++ Truth b ∷ []) w → Onto t (In_frame (Push (Truth b)) ∷ k) front m stack w
  pushes t b k front m stack w on known few place high long s =
      push_leads image (here image final depth code callers starts p place (front ++ high) stack w) _ callers (Truth b) k final refl s refl
      (on known few (place + 1) high long (stands_next code place _ k s))

  -- where what is passed ends
  beyond : (i j : Instr ℕ) (right k : List (Instr ℕ)) (place : ℕ) → Stands code place (i ∷ (right ++ j ∷ k)) → Stands code (place + 1 + (length right + 1)) k
  beyond i j right k place s =
      let e : place + 1 + length right + 1 ≡ place + 1 + (length right + 1) = omega arith in
      stands_at code _ _ k e (stands_next code (place + 1 + length right) j k (stands_skip code right (place + 1) (j ∷ k) (stands_next code place i (right ++ j ∷ k) s)))

  -- what is behind the left side of && goes on with the right side, or passes it
  both_goes : (t : ℕ) (b : Bool) (right k : List (Instr ℕ)) (front : List Cell) (m : ℕ) (stack : List Cell) (w : ProgramState) → (b ≡ true → Onto t (right ++ Go_to (Jump 1) ∷ In_frame (Push (Truth false)) ∷ k) front m stack w) → (b ≡ false → Onto t k front m (stack ++ Truth false ∷ []) w) → Onto t (Go_to (JumpIfNot (length right + 1)) ∷ (right ++ Go_to (Jump 1) ∷ In_frame (Push (Truth false)) ∷ k)) front m (stack ++ Truth b ∷ []) w
  both_goes t true right k front m stack w goes passes known few place high long s =
      jump_if_not_stays image (here image final depth code callers starts p place (front ++ high) (stack ++ Truth true ∷ []) w) _ callers (length right + 1) stack final (record { frames = refl; rest = _; stands = s }) refl
      (goes refl known few (place + 1) high long (stands_next code place _ _ s))
  both_goes t false right k front m stack w goes passes known few place high long s =
      let s1 = beyond _ (Go_to (Jump 1)) right (In_frame (Push (Truth false)) ∷ k) place s in
      jump_if_not_leads image (here image final depth code callers starts p place (front ++ high) (stack ++ Truth false ∷ []) w) _ callers (length right + 1) stack final (record { frames = refl; rest = _; stands = s }) refl s1.within
      (pushes t false k front m stack w (passes refl) known few (place + 1 + (length right + 1)) high long s1)

  either_goes : (t : ℕ) (b : Bool) (right k : List (Instr ℕ)) (front : List Cell) (m : ℕ) (stack : List Cell) (w : ProgramState) → (b ≡ false → Onto t (right ++ Go_to (Jump 1) ∷ In_frame (Push (Truth true)) ∷ k) front m stack w) → (b ≡ true → Onto t k front m (stack ++ Truth true ∷ []) w) → Onto t (Go_to (JumpIf (length right + 1)) ∷ (right ++ Go_to (Jump 1) ∷ In_frame (Push (Truth true)) ∷ k)) front m (stack ++ Truth b ∷ []) w
  either_goes t false right k front m stack w goes passes known few place high long s =
      jump_if_stays image (here image final depth code callers starts p place (front ++ high) (stack ++ Truth false ∷ []) w) _ callers (length right + 1) stack final (record { frames = refl; rest = _; stands = s }) refl
      (goes refl known few (place + 1) high long (stands_next code place _ _ s))
  either_goes t true right k front m stack w goes passes known few place high long s =
      let s1 = beyond _ (Go_to (Jump 1)) right (In_frame (Push (Truth true)) ∷ k) place s in
      jump_if_leads image (here image final depth code callers starts p place (front ++ high) (stack ++ Truth true ∷ []) w) _ callers (length right + 1) stack final (record { frames = refl; rest = _; stands = s }) refl s1.within
      (pushes t true k front m stack w (passes refl) known few (place + 1 + (length right + 1)) high long s1)

  -- ---- the forms, each by its parts

  module _ (calls : Calls) where
    -- what is behind an expression's meaning is behind its code
    abbrev pub Runs : Expr → Type 0
    Runs e =
        (t : ℕ) (locals : Locals) (at : ℕ) (k : List (Instr ℕ)) (front : List Cell) (m : ℕ) (stack : List Cell) (w : ProgramState) → length front ≡ at → expr_temps e ≤ m → InPlace locals front →
        Onward final (λ v w1. is_of (expr_type e) v ≡ true → Onto t k front m (stack ++ flat v) w1) (eval calls e locals w) →
        Onto t (expr_code p at e ++ k) front m stack w

    abbrev pub AllRun : Exprs → Type 0
    AllRun es =
        (t : ℕ) (locals : Locals) (at : ℕ) (k : List (Instr ℕ)) (front : List Cell) (m : ℕ) (stack : List Cell) (w : ProgramState) → length front ≡ at → exprs_temps es ≤ m → InPlace locals front →
        Onward final (λ vs w1. lengths vs ≡ expr_counts es → Onto t k front m (stack ++ flat_map flat vs) w1) (eval_all calls es locals w) →
        Onto t (exprs_code p at es ++ k) front m stack w

    -- the arguments lie on the stack and the function's results come in their place
    abbrev pub Called : Symbol → Type 0
    Called s =
        (t : ℕ) (vs : List Value) (k : List (Instr ℕ)) (front : List Cell) (m : ℕ) (stack : List Cell) (w : ProgramState) →
        Onward final (λ rs w1. Onto t k front m (stack ++ flat_map flat rs) w1) (calls s vs w) →
        Onto t (By_call (Call (p.functions s)) ∷ k) front m (stack ++ flat_map flat vs) w

    pub constant_runs : (of : Type') (c : Const) → Runs (trees.constant of c)
    constant_runs of c t locals at k front m stack w long le sits h known few place high size s =
        let g = onward_given final (λ v w1. is_of of v ≡ true → Onto t k front m (stack ++ flat v) w1) of (single (cell_of c)) w h in
        push_leads image (here image final depth code callers starts p place (front ++ high) stack w) _ callers (cell_of c) k final refl s (constant_known of c g.0)
        (g.1 g.0 known few (place + 1) high size (stands_next code place _ k s))

    pub local_is_run : (of : Type') (n : ℕ) → Runs (trees.local of n)
    local_is_run of n t locals at k front m stack w long le sits h = local_runs image final depth code callers starts p t of n locals k front m stack w sits h

    pub global_is_run : (of : Type') (s : Symbol) → Runs (trees.global of s)
    global_is_run of s t locals at k front m stack w long le sits h = global_runs image final depth code callers starts p t of s k front m stack w h

    -- operators on the one value on top
    one_operand : (t : ℕ) (of : Type') (ops : List operator.Operator) (v : Value) (k : List (Instr ℕ)) (front : List Cell) (m : ℕ) (stack : List Cell) (w : ProgramState) → Onward final (λ u w1. is_of of u ≡ true → Onto t k front m (stack ++ flat u) w1) (typed_or_panic of (operated ops (v ∷ [])) w) → Onto t (operators_code ops ++ k) front m (stack ++ flat v) w
    one_operand t of ops v k front m stack w h =
        on_stack image final depth code callers starts p t (operators_code ops ++ k) front m _ _ w (ap (λ l. stack ++ l) (append-nil (flat v)))
        (operators_run image final depth code callers starts p t of ops (v ∷ []) k front m stack w h)

    -- an expression, and operators on its value
    operated_run : (e : Expr) (of : Type') (ops : List operator.Operator) → Runs e → (t : ℕ) (locals : Locals) (at : ℕ) (k : List (Instr ℕ)) (front : List Cell) (m : ℕ) (stack : List Cell) (w : ProgramState) → length front ≡ at → expr_temps e ≤ m → InPlace locals front → Onward final (λ u w1. is_of of u ≡ true → Onto t k front m (stack ++ flat u) w1) (and_then (eval calls e locals w) (λ v. typed_or_panic of (operated ops (v ∷ [])))) → Onto t ((expr_code p at e ++ operators_code ops) ++ k) front m stack w
    operated_run e of ops runs t locals at k front m stack w long le sits h =
        on_as image final depth code callers starts p t _ _ front m stack w (sym (append_assoc (expr_code p at e) (operators_code ops) k))
        (runs t locals at (operators_code ops ++ k) front m stack w long le sits
        (onward_map final _ _ (eval calls e locals w) (λ v w1 more typed. one_operand t of ops v k front m stack w1 more) (onward_then final _ (eval calls e locals w) _ h)))

    pub length_runs : (of : Type') (e : Expr) → Runs e → Runs (trees.length of e)
    length_runs of e runs t locals at k front m stack w long le sits h = operated_run e of (length_operators (underlying (expr_type e))) runs t locals at k front m stack w long le sits h

    pub capacity_runs : (of : Type') (e : Expr) → Runs e → Runs (trees.capacity of e)
    capacity_runs of e runs t locals at k front m stack w long le sits h = operated_run e of capacity_operators runs t locals at k front m stack w long le sits h

    pub unary_runs : (of : Type') (op : UnaryOperator) (e : Expr) → Runs e → Runs (trees.unary of op e)
    unary_runs of op e runs t locals at k front m stack w long le sits h = operated_run e of (unary_operators (underlying of) op) runs t locals at k front m stack w long le sits h

    pub conversion_runs : (of : Type') (e : Expr) → Runs e → Runs (trees.conversion of e)
    conversion_runs of e runs t locals at k front m stack w long le sits h = operated_run e of (conversion_operators (underlying of)) runs t locals at k front m stack w long le sits h

    -- a second expression, behind the first one's temporaries
    pub second_runs : (b : Expr) (d : ℕ) → Runs b → (t : ℕ) (locals : Locals) (at : ℕ) (k : List (Instr ℕ)) (front : List Cell) (m : ℕ) (stack : List Cell) (w : ProgramState) → length front ≡ at → d + expr_temps b ≤ m → InPlace locals front → Onward final (λ v w1. is_of (expr_type b) v ≡ true → Onto t k front m (stack ++ flat v) w1) (eval calls b locals w) → Onto t (expr_code p (at + d) b ++ k) front m stack w
    second_runs b d runs t locals at k front m stack w long le sits h =
        let within : d ≤ m = omega (arith, le) in
        deeper t (expr_code p (at + d) b ++ k) front m d stack w within (λ low size.
        let there : length (front ++ low) ≡ at + d = omega (arith, long, size, length-append front low) in
        let rest : expr_temps b ≤ m - d = omega (arith, le) in
        runs t locals (at + d) k (front ++ low) (m - d) stack w there rest (sits_deeper locals front low sits)
        (onward_map final _ _ (eval calls b locals w) (λ v w1 more typed. shallower t k front low m d (stack ++ flat v) w1 size within (more typed)) h))

    pub binary_runs : (of : Type') (op : Operator) (a b : Expr) → Runs a → Runs b → Runs (trees.binary of op a b)
    binary_runs of op a b first second t locals at k front m stack w long le sits h =
        let ops = binary_operators (underlying (expr_type a)) op in
        let shape : expr_code p at a ++ (expr_code p (at + expr_temps a) b ++ (operators_code ops ++ k)) ≡ (expr_code p at a ++ expr_code p (at + expr_temps a) b ++ operators_code ops) ++ k = simp append_assoc in
        on_as image final depth code callers starts p t _ _ front m stack w shape
        (first t locals at (expr_code p (at + expr_temps a) b ++ (operators_code ops ++ k)) front m stack w long (omega (arith, le)) sits
        (onward_map final _ _ (eval calls a locals w)
        (λ x w1 more typed. second_runs b (expr_temps a) second t locals at (operators_code ops ++ k) front m (stack ++ flat x) w1 long le sits
        (onward_map final _ _ (eval calls b locals w1)
        (λ y w2 most typed2.
        let two : stack ++ (flat x ++ (flat y ++ [])) ≡ (stack ++ flat x) ++ flat y = simp (append_assoc, append-nil) in
        on_stack image final depth code callers starts p t (operators_code ops ++ k) front m _ _ w2 two (operators_run image final depth code callers starts p t of ops (x ∷ y ∷ []) k front m stack w2 most))
        (onward_then final _ (eval calls b locals w1) _ more)))
        (onward_then final _ (eval calls a locals w) _ h)))

    -- arguments, one behind the other
    pub none_run : AllRun no_exprs
    none_run t locals at k front m stack w long le sits h = on_stack image final depth code callers starts p t k front m (stack ++ []) stack w (append-nil stack) (h refl)

    pub some_run : (e : Expr) (es : Exprs) → Runs e → AllRun es → AllRun (some_exprs e es)
    some_run e es first others t locals at k front m stack w long le sits h =
        on_as image final depth code callers starts p t _ _ front m stack w (sym (append_assoc (expr_code p at e) (exprs_code p (at + expr_temps e) es) k))
        (first t locals at (exprs_code p (at + expr_temps e) es ++ k) front m stack w long (omega (arith, le)) sits
        (onward_map final _ _ (eval calls e locals w)
        (λ v w1 more typed. others_run e es others t locals at k front m stack v w1 long le sits (flat_long (expr_type e) v typed) (onward_then final _ (eval_all calls es locals w1) _ more))
        (onward_then final _ (eval calls e locals w) _ h)))
      where
        others_run : (e : Expr) (es : Exprs) → AllRun es → (t : ℕ) (locals : Locals) (at : ℕ) (k : List (Instr ℕ)) (front : List Cell) (m : ℕ) (stack : List Cell) (v : Value) (w : ProgramState) → length front ≡ at → expr_temps e + exprs_temps es ≤ m → InPlace locals front → length (flat v) ≡ cells (expr_type e) → Onward final (λ vs w1. length (flat v) ∷ lengths vs ≡ expr_counts (some_exprs e es) → Onto t k front m (stack ++ (flat v ++ flat_map flat vs)) w1) (eval_all calls es locals w) → Onto t (exprs_code p (at + expr_temps e) es ++ k) front m (stack ++ flat v) w
        others_run e es others t locals at k front m stack v w long le sits one h =
            let d : ℕ = expr_temps e in
            let within : d ≤ m = omega (arith, le) in
            deeper t (exprs_code p (at + d) es ++ k) front m d (stack ++ flat v) w within (λ low size.
            let there : length (front ++ low) ≡ at + d = omega (arith, long, size, length-append front low) in
            let rest : exprs_temps es ≤ m - d = omega (arith, le) in
            others t locals (at + d) k (front ++ low) (m - d) (stack ++ flat v) w there rest (sits_deeper locals front low sits)
            (onward_map final _ _ (eval_all calls es locals w)
            (λ vs w1 more counted. shallower t k front low m d ((stack ++ flat v) ++ flat_map flat vs) w1 size within
            (on_stack image final depth code callers starts p t k front m _ _ w1 (sym (append_assoc stack (flat v) (flat_map flat vs))) (more (ap (λ n. n ∷ lengths vs) one ∙ ap (λ ns. cells (expr_type e) ∷ ns) counted)))) h))

    -- a call that has one result
    pub call_runs : (of : Type') (s : Symbol) (es : Exprs) → Called s → AllRun es → Runs (trees.call of s es)
    call_runs of s es called runs t locals at k front m stack w long le sits h =
        on_as image final depth code callers starts p t _ _ front m stack w (sym (append_assoc (exprs_code p at es) (By_call (Call (p.functions s)) ∷ []) k))
        (runs t locals at (By_call (Call (p.functions s)) ∷ k) front m stack w long le sits
        (onward_map final _ _ (eval_all calls es locals w)
        (λ vs w1 more counted. called t vs k front m stack w1
        (onward_map final _ _ (calls s vs w1) (λ rs w2 most. one_result of rs t k front m stack w2 most)
        (onward_then final _ (calls s vs w1) _ more)))
        (onward_then final _ (eval_all calls es locals w) _ h)))
      where
        one_result : (of : Type') (rs : List Value) (t : ℕ) (k : List (Instr ℕ)) (front : List Cell) (m : ℕ) (stack : List Cell) (w : ProgramState) → Onward final (λ v w1. is_of of v ≡ true → Onto t k front m (stack ++ flat v) w1) (and_then (all_given (of ∷ []) rs w) one_value) → Onto t k front m (stack ++ flat_map flat rs) w
        one_result of [] t k front m stack w h = absurd h
        one_result of (v ∷ []) t k front m stack w h = by_test (is_of of v) refl h
          where
            by_test : (b : Bool) → is_of of v ≡ b → Onward final (λ u w1. is_of of u ≡ true → Onto t k front m (stack ++ flat u) w1) (and_then (if b && true then Gives (v ∷ []) w else Stuck) one_value) → Onto t k front m (stack ++ flat_map flat (v ∷ [])) w
            by_test true e h = on_stack image final depth code callers starts p t k front m _ _ w (ap (λ l. stack ++ l) (sym (append-nil (flat v)))) (h e)
            by_test false e h = absurd h
        one_result of (v ∷ u ∷ us) t k front m stack w h = by_test (is_of of v) h
          where
            by_test : (b : Bool) → Onward final (λ x w1. is_of of x ≡ true → Onto t k front m (stack ++ flat x) w1) (and_then (if b && false then Gives (v ∷ u ∷ us) w else Stuck) one_value) → Onto t k front m (stack ++ flat_map flat (v ∷ u ∷ us)) w
            by_test true h = absurd h
            by_test false h = absurd h

    -- ---- && and ||

    decided_shape : (jump : Instr ℕ) (answer : Bool) (left right k : List (Instr ℕ)) → left ++ (jump ∷ (right ++ (Go_to (Jump 1) ∷ In_frame (Push (Truth answer)) ∷ k))) ≡ (left ++ jump ∷ right ++ Go_to (Jump 1) ∷ In_frame (Push (Truth answer)) ∷ []) ++ k
    decided_shape jump answer left right k = simp append_assoc

    -- the right side's value is the answer
    right_runs : (of : Type') (answer : Bool) (b : Expr) (d : ℕ) → Runs b → (t : ℕ) (locals : Locals) (at : ℕ) (k : List (Instr ℕ)) (front : List Cell) (m : ℕ) (stack : List Cell) (w : ProgramState) → length front ≡ at → d + expr_temps b ≤ m → InPlace locals front → Onward final (λ v w1. is_of of v ≡ true → Onto t k front m (stack ++ flat v) w1) (and_then (eval calls b locals w) (λ y. typed_or_panic of (operators.Gives y))) → Onto t (expr_code p (at + d) b ++ Go_to (Jump 1) ∷ In_frame (Push (Truth answer)) ∷ k) front m stack w
    right_runs of answer b d runs t locals at k front m stack w long le sits h =
        second_runs b d runs t locals at (Go_to (Jump 1) ∷ In_frame (Push (Truth answer)) ∷ k) front m stack w long le sits
        (onward_map final _ _ (eval calls b locals w)
        (λ y w1 more typed.
        let g = onward_given final (λ v w2. is_of of v ≡ true → Onto t k front m (stack ++ flat v) w2) of y w1 more in
        leaves t (In_frame (Push (Truth answer))) k front m (stack ++ flat y) w1 (g.1 g.0))
        (onward_then final _ (eval calls b locals w) _ h))

    behind_both : (of : Type') (b : Expr) (d : ℕ) → Runs b → (x : Value) (t : ℕ) (locals : Locals) (at : ℕ) (k : List (Instr ℕ)) (front : List Cell) (m : ℕ) (stack : List Cell) (w : ProgramState) → length front ≡ at → d + expr_temps b ≤ m → InPlace locals front → Onward final (λ v w1. is_of of v ≡ true → Onto t k front m (stack ++ flat v) w1) (and_then (if_true x (eval calls b locals w) (Gives x w)) (λ y. typed_or_panic of (operators.Gives y))) → Onto t (Go_to (JumpIfNot (length (expr_code p (at + d) b) + 1)) ∷ (expr_code p (at + d) b ++ Go_to (Jump 1) ∷ In_frame (Push (Truth false)) ∷ k)) front m (stack ++ flat x) w
    behind_both of b d runs (single (Truth true)) t locals at k front m stack w long le sits h =
        both_goes t true (expr_code p (at + d) b) k front m stack w (λ e. right_runs of false b d runs t locals at k front m stack w long le sits h) (λ e. cc)
    behind_both of b d runs (single (Truth false)) t locals at k front m stack w long le sits h =
        let g = onward_given final (λ v w1. is_of of v ≡ true → Onto t k front m (stack ++ flat v) w1) of (single (Truth false)) w h in
        both_goes t false (expr_code p (at + d) b) k front m stack w (λ e. cc) (λ e. g.1 g.0)
    behind_both of b d runs (single (Int z)) t locals at k front m stack w long le sits h = absurd h
    behind_both of b d runs (single (Text s)) t locals at k front m stack w long le sits h = absurd h
    behind_both of b d runs (single (Slice row start n c)) t locals at k front m stack w long le sits h = absurd h
    behind_both of b d runs (parts vs) t locals at k front m stack w long le sits h = absurd h

    pub both_runs : (of : Type') (a b : Expr) → Runs a → Runs b → Runs (trees.both of a b)
    both_runs of a b first second t locals at k front m stack w long le sits h =
        let right = expr_code p (at + expr_temps a) b in
        on_as image final depth code callers starts p t _ _ front m stack w (decided_shape (Go_to (JumpIfNot (length right + 1))) false (expr_code p at a) right k)
        (first t locals at (Go_to (JumpIfNot (length right + 1)) ∷ (right ++ Go_to (Jump 1) ∷ In_frame (Push (Truth false)) ∷ k)) front m stack w long (omega (arith, le)) sits
        (onward_map final _ _ (eval calls a locals w)
        (λ x w1 more typed. behind_both of b (expr_temps a) second x t locals at k front m stack w1 long le sits more)
        (onward_then final _ (eval calls a locals w) _ h)))

    behind_either : (of : Type') (b : Expr) (d : ℕ) → Runs b → (x : Value) (t : ℕ) (locals : Locals) (at : ℕ) (k : List (Instr ℕ)) (front : List Cell) (m : ℕ) (stack : List Cell) (w : ProgramState) → length front ≡ at → d + expr_temps b ≤ m → InPlace locals front → Onward final (λ v w1. is_of of v ≡ true → Onto t k front m (stack ++ flat v) w1) (and_then (if_true x (Gives x w) (eval calls b locals w)) (λ y. typed_or_panic of (operators.Gives y))) → Onto t (Go_to (JumpIf (length (expr_code p (at + d) b) + 1)) ∷ (expr_code p (at + d) b ++ Go_to (Jump 1) ∷ In_frame (Push (Truth true)) ∷ k)) front m (stack ++ flat x) w
    behind_either of b d runs (single (Truth false)) t locals at k front m stack w long le sits h =
        either_goes t false (expr_code p (at + d) b) k front m stack w (λ e. right_runs of true b d runs t locals at k front m stack w long le sits h) (λ e. cc)
    behind_either of b d runs (single (Truth true)) t locals at k front m stack w long le sits h =
        let g = onward_given final (λ v w1. is_of of v ≡ true → Onto t k front m (stack ++ flat v) w1) of (single (Truth true)) w h in
        either_goes t true (expr_code p (at + d) b) k front m stack w (λ e. cc) (λ e. g.1 g.0)
    behind_either of b d runs (single (Int z)) t locals at k front m stack w long le sits h = absurd h
    behind_either of b d runs (single (Text s)) t locals at k front m stack w long le sits h = absurd h
    behind_either of b d runs (single (Slice row start n c)) t locals at k front m stack w long le sits h = absurd h
    behind_either of b d runs (parts vs) t locals at k front m stack w long le sits h = absurd h

    pub either_runs : (of : Type') (a b : Expr) → Runs a → Runs b → Runs (trees.either of a b)
    either_runs of a b first second t locals at k front m stack w long le sits h =
        let right = expr_code p (at + expr_temps a) b in
        on_as image final depth code callers starts p t _ _ front m stack w (decided_shape (Go_to (JumpIf (length right + 1))) true (expr_code p at a) right k)
        (first t locals at (Go_to (JumpIf (length right + 1)) ∷ (right ++ Go_to (Jump 1) ∷ In_frame (Push (Truth true)) ∷ k)) front m stack w long (omega (arith, le)) sits
        (onward_map final _ _ (eval calls a locals w)
        (λ x w1 more typed. behind_either of b (expr_temps a) second x t locals at k front m stack w1 long le sits more)
        (onward_then final _ (eval calls a locals w) _ h)))

    -- ---- parts of values

    part_runs : (t : ℕ) (i : PartInstr) (row got : List Cell) (k : List (Instr ℕ)) (front : List Cell) (m : ℕ) (stack : List Cell) (w : ProgramState) → length row ≡ part_cells i → part i row ≡ operators.Gives got → Onto t k front m (stack ++ got) w → Onto t (On_part i ∷ k) front m (stack ++ row) w
    part_runs t i row got k front m stack w long e on known few place high size s =
        part_leads image (here image final depth code callers starts p place (front ++ high) (stack ++ row) w) _ callers i stack row got final (record { frames = refl; rest = k; stands = s }) (record { is = refl; long = long }) e
        (on known few (place + 1) high size (stands_next code place _ k s))

    part_ends : (t : ℕ) (i : PartInstr) (row : List Cell) (kind : PanicKind) (k : List (Instr ℕ)) (front : List Cell) (m : ℕ) (stack : List Cell) (w : ProgramState) → length row ≡ part_cells i → part i row ≡ operators.Panics kind → final ≡ Ends_with (Panicked kind) w.output → Onto t (On_part i ∷ k) front m (stack ++ row) w
    part_ends t i row kind k front m stack w long e over known few place high size s =
        subst (Leads image (here image final depth code callers starts p place (front ++ high) (stack ++ row) w)) (sym over)
        (part_panics image (here image final depth code callers starts p place (front ++ high) (stack ++ row) w) _ callers i stack row kind (record { frames = refl; rest = k; stands = s }) (record { is = refl; long = long }) e)

    -- a field that is selected, and how its cells are read
    record Selects (P : Value → ProgramState → Type 0) (s : Type') (v : Value) (of : Type') (n : ℕ) (w : ProgramState) : Type 0 where
      x : Value
      typed : is_of of x ≡ true
      holds : P x w
      read : (whole : ℕ) → length (flat v) ≡ whole → part (Part whole (offset s n) (cells of)) (flat v) ≡ operators.Gives (flat x)

    field_selects : (P : Value → ProgramState → Type 0) (fs : Fields) (vs : Values) (of : Type') (n : ℕ) (w : ProgramState) (o : Option Value) → nth vs n ≡ o → is_of (struct fs) (parts vs) ≡ true → Onward final P (typed_or_panic of (or_else operators.Senseless o) w) → Selects P (struct fs) (parts vs) of n w
    field_selects P fs vs of n w None e typed h = absurd h
    field_selects P fs vs of n w (Some x) e typed h =
        let g = onward_given final P of x w h in
        let at = field_among fs vs n x typed e in
        record {
          x = x;
          typed = g.0;
          holds = g.1;
          read = λ whole long.
              ap (part (Part whole (field_offset fs n) (cells of))) at.is
              ∙ part_reads whole (field_offset fs n) (cells of) at.before (flat x) at.after (sym (ap length at.is) ∙ long) at.place (flat_long of x g.0);
        }

    struct_selects : (P : Value → ProgramState → Type 0) (fs : Fields) (v : Value) (of : Type') (n : ℕ) (w : ProgramState) (o : Option Type') → field_at fs n ≡ o → is_of (struct fs) v ≡ true → Onward final P (typed_or_panic of (selected (struct fs) v n) w) → Selects P (struct fs) v of n w
    struct_selects P fs v of n w None found typed h =
        absurd (subst (λ o. Onward final P (typed_or_panic of (elim o [ None ↦ operators.Senseless | Some t ↦ part_of v (to_field n) ]) w)) found h)
    struct_selects P fs (single c) of n w (Some u) found typed h = cc
    struct_selects P fs (parts vs) of n w (Some u) found typed h =
        field_selects P fs vs of n w (nth vs n) refl typed (subst (λ o. Onward final P (typed_or_panic of (elim o [ None ↦ operators.Senseless | Some t ↦ part_of (parts vs) (to_field n) ]) w)) found h)

    selects : (P : Value → ProgramState → Type 0) (s : Type') (v : Value) (of : Type') (n : ℕ) (w : ProgramState) → is_of s v ≡ true → Onward final P (typed_or_panic of (selected s v n) w) → Selects P s v of n w
    selects P (basic b) v of n w typed h = absurd h
    selects P (array m t) v of n w typed h = absurd h
    selects P (slice t) v of n w typed h = absurd h
    selects P (struct fs) v of n w typed h = struct_selects P fs v of n w (field_at fs n) refl typed h
    selects P (named path name t) v of n w typed h = absurd h

    pub field_runs : (of : Type') (e : Expr) (n : ℕ) → Runs e → Runs (trees.field of e n)
    field_runs of e n runs t locals at k front m stack w long le sits h =
        let s = underlying (expr_type e) in
        let i = Part (cells (expr_type e)) (offset s n) (cells of) in
        on_as image final depth code callers starts p t _ _ front m stack w (sym (append_assoc (expr_code p at e) (On_part i ∷ []) k))
        (runs t locals at (On_part i ∷ k) front m stack w long le sits
        (onward_map final _ _ (eval calls e locals w)
        (λ v w1 more typed.
        let f = selects (λ u w2. is_of of u ≡ true → Onto t k front m (stack ++ flat u) w2) s v of n w1 (underlying_values (expr_type e) v ∙ typed) more in
        let whole = flat_long (expr_type e) v typed in
        part_runs t i (flat v) (flat f.x) k front m stack w1 whole (f.read (cells (expr_type e)) whole) (f.holds f.typed))
        (onward_then final _ (eval calls e locals w) _ h)))

    -- an element of an array, whose cells lie below the index
    element_runs : (of u : Type') (count : ℕ) (vs : Values) (n : ℕ) (o : Option Value) → nth vs n ≡ o → is_of (array count u) (parts vs) ≡ true → (t : ℕ) (k : List (Instr ℕ)) (front : List Cell) (m : ℕ) (stack : List Cell) (w : ProgramState) → Onward final (λ x w1. is_of of x ≡ true → Onto t k front m (stack ++ flat x) w1) (typed_or_panic of (or_else (operators.Panics Out_of_range) o) w) → Onto t (On_part (Pick count (cells u)) ∷ k) front m (stack ++ (flat_all vs ++ Int (pos n) ∷ [])) w
    element_runs of u count vs n None e typed t k front m stack w h =
        let long : length (flat_all vs ++ Int (pos n) ∷ []) ≡ count * cells u + 1 = omega (arith, length-append (flat_all vs) (Int (pos n) ∷ []), flat_long (array count u) (parts vs) typed) in
        part_ends t (Pick count (cells u)) (flat_all vs ++ Int (pos n) ∷ []) Out_of_range k front m stack w long (element_missed count u vs n typed e) h
    element_runs of u count vs n (Some x) e typed t k front m stack w h =
        let g = onward_given final (λ y w1. is_of of y ≡ true → Onto t k front m (stack ++ flat y) w1) of x w h in
        let long : length (flat_all vs ++ Int (pos n) ∷ []) ≡ count * cells u + 1 = omega (arith, length-append (flat_all vs) (Int (pos n) ∷ []), flat_long (array count u) (parts vs) typed) in
        part_runs t (Pick count (cells u)) (flat_all vs ++ Int (pos n) ∷ []) (flat x) k front m stack w long (element_picked count u vs n x typed e) (g.1 g.0)

    -- a byte of a text
    text_runs : (of : Type') (v j : Value) (t : ℕ) (k : List (Instr ℕ)) (front : List Cell) (m : ℕ) (stack : List Cell) (w : ProgramState) → Onward final (λ x w1. is_of of x ≡ true → Onto t k front m (stack ++ flat x) w1) (typed_or_panic of (operated (operator_variants.Text At ∷ []) (v ∷ j ∷ [])) w) → Onto t (operators_code (operator_variants.Text At ∷ []) ++ k) front m (stack ++ (flat v ++ flat j)) w
    text_runs of v j t k front m stack w h =
        on_stack image final depth code callers starts p t (operators_code (operator_variants.Text At ∷ []) ++ k) front m _ _ w (ap (λ l. stack ++ (flat v ++ l)) (append-nil (flat j)))
        (operators_run image final depth code callers starts p t of (operator_variants.Text At ∷ []) (v ∷ j ∷ []) k front m stack w h)

    -- what rows give, or a panic
    pub told_runs : (t : ℕ) (i : RowInstr) (cells : List Cell) (o : Outcome Value) (k : List (Instr ℕ)) (front : List Cell) (m : ℕ) (stack : List Cell) (w : ProgramState) → length cells ≡ row_cells i →
        Tells o w (row_step i (rows w.arrays) cells) → Onward final (λ v w1. Onto t k front m (stack ++ flat v) w1) o → Onto t (In_row i ∷ k) front m (stack ++ cells) w
    told_runs t i cells (Gives v w1) k front m stack w long tells on known few place high size s =
        row_leads image (here image final depth code callers starts p place (front ++ high) (stack ++ cells) w) _ callers i stack cells (record { rows = rows w1.arrays; cells = flat v }) final
        (record { frames = refl; rest = k; stands = s }) (record { is = refl; long = long }) tells.1
        (subst (λ x. Onto t k front m (stack ++ flat v) x) tells.0 on known few (place + 1) high size (stands_next code place _ k s))
    told_runs t i cells (Ends ending output) k front m stack w long tells over known few place high size s =
        let kind = tells.0 in
        let end : final ≡ Ends_with (Panicked kind) w.output = over ∙ ap (λ e. Ends_with e output) tells.1 ∙ ap (Ends_with (Panicked kind)) tells.2 in
        subst (Leads image (here image final depth code callers starts p place (front ++ high) (stack ++ cells) w)) (sym end)
        (row_panics image (here image final depth code callers starts p place (front ++ high) (stack ++ cells) w) _ callers i stack cells kind
        (record { frames = refl; rest = k; stands = s }) (record { is = refl; long = long }) tells.3)
    told_runs t i cells Stuck k front m stack w long tells h known few place high size s = absurd h

    -- what is given is of the type
    given_typed : (P : Value → ProgramState → Type 0) (of : Type') (o : operators.Operated Value) (w : ProgramState) → Onward final (λ x w1. is_of of x ≡ true → P x w1) (typed_or_panic of o w) → Onward final P (typed_or_panic of o w)
    given_typed P of (operators.Gives x) w h = by_test (is_of of x) refl h
      where
        by_test : (b : Bool) → is_of of x ≡ b → Onward final (λ y w1. is_of of y ≡ true → P y w1) (if b then Gives x w else Stuck) → Onward final P (if b then Gives x w else Stuck)
        by_test true e h = h e
        by_test false e h = absurd h
    given_typed P of (operators.Panics kind) w h = h
    given_typed P of operators.Senseless w h = absurd h

    then_typed : (P : Value → ProgramState → Type 0) (of : Type') (o : Outcome Value) (f : Value → operators.Operated Value) → Onward final (λ x w1. is_of of x ≡ true → P x w1) (and_then o (λ v. typed_or_panic of (f v))) → Onward final P (and_then o (λ v. typed_or_panic of (f v)))
    then_typed P of (Gives v w) f h = given_typed P of (f v) w h
    then_typed P of (Ends ending output) f h = h
    then_typed P of Stuck f h = absurd h

    -- the elements of a slice end nothing, and behind them stands no other index than a number
    abbrev EndsNot : Outcome Value → Type 0
    EndsNot (Gives v w) = Unit {0}
    EndsNot (Ends ending output) = ⊥
    EndsNot Stuck = Unit {0}

    stuck : {A : Type 0} (P : Value → ProgramState → Type 0) (of : Type') (o : Outcome Value) → EndsNot o → Onward final P (and_then o (λ v. typed_or_panic of operators.Senseless)) → A
    stuck P of (Gives v w) never h = absurd h
    stuck P of (Ends ending output) never h = absurd never
    stuck P of Stuck never h = absurd h

    elements_never : (u : Type') (at start n c : ℕ) (w : ProgramState) → EndsNot (elements_of_slice u (single (Slice at start n c)) w)
    elements_never u at start n c w =
        let all : List Value = row_of w.arrays at in
        by_test (list_all (is_of u) all && (nat_le n c && (nat_le (start + c) (length all) && has_room (cells u) (length all))))
      where
        by_test : (b : Bool) → EndsNot (and_then (if b then Gives (row_of w.arrays at) w else Stuck) (λ all. Gives (parts (pack_values (take n (drop start all))))))
        by_test true = tt
        by_test false = tt

    -- an element of a slice
    slice_runs : (of u : Type') (v j : Value) (t : ℕ) (k : List (Instr ℕ)) (front : List Cell) (m : ℕ) (stack : List Cell) (w : ProgramState) → Onward final (λ x w1. is_of of x ≡ true → Onto t k front m (stack ++ flat x) w1) (found of (slice u) v j w) →
        Onto t (In_row (Get (cells u)) ∷ k) front m (stack ++ (flat v ++ flat j)) w
    slice_runs of u (single (Slice at start n c)) (single (Int z)) t k front m stack w h =
        told_runs t (Get (cells u)) (Slice at start n c ∷ Int z ∷ []) (found of (slice u) (single (Slice at start n c)) (single (Int z)) w) k front m stack w refl (get_tells u of (λ x e. flat_long u x e) at start n c w z)
        (then_typed (λ x w1. Onto t k front m (stack ++ flat x) w1) of (elements_of_slice u (single (Slice at start n c)) w) (λ whole. indexed (slice u) whole (single (Int z))) h)
    slice_runs of u (single (Int y)) j t k front m stack w h = absurd h
    slice_runs of u (single (Truth b)) j t k front m stack w h = absurd h
    slice_runs of u (single (Text x)) j t k front m stack w h = absurd h
    slice_runs of u (parts vs) j t k front m stack w h = absurd h
    slice_runs of u (single (Slice at start n c)) (single (Truth b)) t k front m stack w h = stuck _ of (elements_of_slice u (single (Slice at start n c)) w) (elements_never u at start n c w) h
    slice_runs of u (single (Slice at start n c)) (single (Text x)) t k front m stack w h = stuck _ of (elements_of_slice u (single (Slice at start n c)) w) (elements_never u at start n c w) h
    slice_runs of u (single (Slice at start n c)) (single (Slice r s l d)) t k front m stack w h = stuck _ of (elements_of_slice u (single (Slice at start n c)) w) (elements_never u at start n c w) h
    slice_runs of u (single (Slice at start n c)) (parts vs) t k front m stack w h = stuck _ of (elements_of_slice u (single (Slice at start n c)) w) (elements_never u at start n c w) h

    indexed_runs : (of s : Type') (v j : Value) → is_of s v ≡ true → (t : ℕ) (k : List (Instr ℕ)) (front : List Cell) (m : ℕ) (stack : List Cell) (w : ProgramState) → Onward final (λ x w1. is_of of x ≡ true → Onto t k front m (stack ++ flat x) w1) (found of s v j w) → Onto t (index_code s ++ k) front m (stack ++ (flat v ++ flat j)) w
    indexed_runs of (array count u) (single c) j typed t k front m stack w h = cc
    indexed_runs of (array count u) (parts vs) (single (Int (pos n))) typed t k front m stack w h = element_runs of u count vs n (nth vs n) refl typed t k front m stack w h
    indexed_runs of (array count u) (parts vs) (single (Int (negsuc n))) typed t k front m stack w h =
        let long : length (flat_all vs ++ Int (negsuc n) ∷ []) ≡ count * cells u + 1 = omega (arith, length-append (flat_all vs) (Int (negsuc n) ∷ []), flat_long (array count u) (parts vs) typed) in
        part_ends t (Pick count (cells u)) (flat_all vs ++ Int (negsuc n) ∷ []) Out_of_range k front m stack w long (element_below count u vs n typed) h
    indexed_runs of (array count u) (parts vs) (single (Truth b)) typed t k front m stack w h = absurd h
    indexed_runs of (array count u) (parts vs) (single (Text s)) typed t k front m stack w h = absurd h
    indexed_runs of (array count u) (parts vs) (single (Slice row start n c)) typed t k front m stack w h = absurd h
    indexed_runs of (array count u) (parts vs) (parts us) typed t k front m stack w h = absurd h
    indexed_runs of (slice u) v j typed t k front m stack w h = slice_runs of u v j t k front m stack w h
    indexed_runs of (basic b) v j typed t k front m stack w h = text_runs of v j t k front m stack w h
    indexed_runs of (struct fs) v j typed t k front m stack w h = text_runs of v j t k front m stack w h
    indexed_runs of (named path name u) v j typed t k front m stack w h = text_runs of v j t k front m stack w h

    pub index_runs : (of : Type') (e i : Expr) → Runs e → Runs i → Runs (trees.index of e i)
    index_runs of e i first second t locals at k front m stack w long le sits h =
        let s = underlying (expr_type e) in
        let shape : expr_code p at e ++ (expr_code p (at + expr_temps e) i ++ (index_code s ++ k)) ≡ (expr_code p at e ++ expr_code p (at + expr_temps e) i ++ index_code s) ++ k = simp append_assoc in
        on_as image final depth code callers starts p t _ _ front m stack w shape
        (first t locals at (expr_code p (at + expr_temps e) i ++ (index_code s ++ k)) front m stack w long (omega (arith, le)) sits
        (onward_map final _ _ (eval calls e locals w)
        (λ v w1 more typed. second_runs i (expr_temps e) second t locals at (index_code s ++ k) front m (stack ++ flat v) w1 long le sits
        (onward_map final _ _ (eval calls i locals w1)
        (λ j w2 most typed2.
        on_stack image final depth code callers starts p t (index_code s ++ k) front m _ _ w2 (sym (append_assoc stack (flat v) (flat j)))
        (indexed_runs of s v j (underlying_values (expr_type e) v ∙ typed) t k front m stack w2 most))
        (onward_then final _ (eval calls i locals w1) _ more)))
        (onward_then final _ (eval calls e locals w) _ h)))
