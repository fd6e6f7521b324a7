-- The machine follows loops over a range: of their two temporaries the first holds the range and the second the counter.
use Rattle.std.proofs.Common.{◌≡◌, ℕ, zero, suc, ◌+◌, ◌-◌, ◌≤◌, Bool, true, false, nat_lt, List, [], ◌∷◌, ◌++◌, length, Option, Some, None, ℤ, pos, negsuc, ◌+ℤ◌, refl, sym, ap, ◌∙◌, subst, arith, length-append, append_assoc}
use Rattle.std.proofs.lemmas.Bool.{leb-true}
use Rattle.std.specs.Prelude.{if◌then◌else◌}
use Rattle.std.specs.Ordering.{int_cmp}
use Rattle.go_const.specs.Constants.{holds}
use Rattle.go_const.specs.declared.kind.IntKind.{IntKind}
use Rattle.go_const.specs.declared.operator.ArithmeticOperator.TheVariants.{Add}
use Rattle.go_const.specs.declared.operator.ComparisonOperator.TheVariants.{Less}
use Rattle.go_types.specs.Types.{Type'}
use Rattle.go_types.specs.Relations.{underlying}
use Rattle.go_code.specs.declared.cell.Cell.{Cell}
use Rattle.go_code.specs.declared.cell.Cell.TheVariants.{Int, Bool as Truth, Text, Slice}
use Rattle.go_code.specs.declared.image.Start.{Start}
use Rattle.go_code.specs.declared.instr.Instr.{Instr}
use Rattle.go_code.specs.declared.instr.Instr.TheVariants.{Frame as In_frame, Jump as Go_to}
use Rattle.go_code.specs.declared.instr.FrameInstr.TheVariants.{Push}
use Rattle.go_code.specs.declared.instr.JumpInstr.TheVariants.{Jump, LoopIf}
use Rattle.go_code.specs.declared.operator.Operator.{Operator}
use Rattle.go_code.specs.declared.operator.Operator.TheVariants.{Arithmetic}
use Rattle.go_code.specs.Finals.{Final}
use Rattle.go_code.specs.Images.{Image}
use Rattle.go_code.specs.Machine.{Frame}
use Rattle.go_code.specs.Operators as operators
use Rattle.go_code.specs.Operators.{wrapped}
use Rattle.go_code.proofs.Stands.{Stands, stands_next}
use Rattle.go_typed.specs.declared.expression.Operator.TheVariants.{Arithmetic as arithmetic}
use Rattle.go_typed.specs.Trees as trees
use Rattle.go_typed.specs.Trees.{Expr, Stmt, Stmts}
use Rattle.go_meaning.specs.Values.{Value, single, parts, flat, is_of}
use Rattle.go_meaning.specs.Choices.{binary_operators}
use Rattle.go_meaning.specs.Meaning.{ProgramState, Outcome, Locals, Flow, Normal, Breaks, Continues, Returns, Calls, and_then, with_tick, typed_or_panic, if_known, defined, after_turn, walk, walk_to, normal, eval, exec_all}
use Rattle.go_gen.specs.Translation.{Places, total, load, store, expr_temps, expr_code, stmts_temps, stmts_code, begin_code, counted_code, within_code, loop_code}
use Rattle.go_translation_laws.proofs.Frames.{together, types_of}
use Rattle.go_translation_laws.proofs.Runs.{Onward, onward_then, onward_map, onward_given, On}
use Rattle.go_translation_laws.proofs.Exprs.{Runs}
use Rattle.go_translation_laws.proofs.Rows.{on_front}
use Rattle.go_translation_laws.proofs.Following.{Past, past_more, past_over, past_none, Placed, Follows, After, StmtRuns, StmtsRun, follows_as, follows_low, row_long, on_fewer, after_fewer, follows_deeper, after_shallower, expr_follows, jumps}
use Rattle.go_translation_laws.proofs.Defines.{local_stores}
use Rattle.go_translation_laws.proofs.Loops.{loop_cuts, loop_goes, loop_stops, tick_cuts}
use Rattle.go_translation_laws.proofs.Counters.{integer_type, counted_up, compares_below, compares_negative, pushes, loads_second, stores_first, stores_second, within_follows, up_code, up_follows}

module _ (image : Image) (final : Final) (depth : ℕ) (code : List (Instr ℕ)) (callers : List Frame) (starts : List Start) (p : Places ℕ) (types : List Type') where
  abbrev Onto : ℕ → List (Instr ℕ) → List Cell → ℕ → List Cell → ProgramState → Type 0
  Onto t k front m stack w = On image final depth code callers starts p t k front m stack w

  abbrev Goes_on : ℕ → List (Instr ℕ) → Locals → List Cell → ℕ → List Cell → ProgramState → Type 0
  Goes_on t k locals low m stack w = Follows image final depth code callers starts p types t k locals low m stack w

  abbrev Then : ℕ → List (Instr ℕ) → List (Instr ℕ) → List (Instr ℕ) → List Cell → ℕ → Flow → ProgramState → Type 0
  Then t rest brk next low m flow w = After image final depth code callers starts p types t rest brk next low m flow w

  -- rows, and two cells behind temporaries of others
  two_behind : (t : ℕ) (k : List (Instr ℕ)) (rows : List (List Cell)) (low : List Cell) (x y : Cell) (m : ℕ) (stack : List Cell) (w : ProgramState) → Onto t k ((together rows ++ low) ++ x ∷ y ∷ []) m stack w → Onto t k (together rows ++ (low ++ x ∷ y ∷ [])) m stack w
  two_behind t k rows low x y m stack w on = on_front image final depth code callers starts p t k _ _ m stack w (append_assoc (together rows) low (x ∷ y ∷ [])) on

  two_apart : (t : ℕ) (k : List (Instr ℕ)) (rows : List (List Cell)) (low : List Cell) (x y : Cell) (m : ℕ) (stack : List Cell) (w : ProgramState) → Onto t k (together rows ++ (low ++ x ∷ y ∷ [])) m stack w → Onto t k ((together rows ++ low) ++ x ∷ y ∷ []) m stack w
  two_apart t k rows low x y m stack w on = on_front image final depth code callers starts p t k _ _ m stack w (sym (append_assoc (together rows) low (x ∷ y ∷ []))) on

  module _ (placed : Placed image final depth code callers starts p types) (calls : Calls) where
    abbrev Sound : Stmt → Type 0
    Sound s = StmtRuns image final depth code callers starts p types calls s

    abbrev AllSound : Stmts → Type 0
    AllSound ss = StmtsRun image final depth code callers starts p types calls ss

    -- ---- the turns

    module _ (o : Option ℕ) (body : Stmts) (runs : AllSound body) (at b c : ℕ) (rest brk next : List (Instr ℕ)) (low : List Cell) (m : ℕ) (long : total types + length low ≡ at) (le : stmts_temps body ≤ m) (kind : IntKind) (z : ℤ) (h : ℕ) (below : (n : ℕ) → holds Less (int_cmp (pos n) z) ≡ nat_lt n h) (up : (n : ℕ) → nat_lt n h ≡ true → wrapped kind (pos n +ℤ pos 1) ≡ pos (n + 1)) where
      abbrev post_code : List (Instr ℕ)
      post_code = up_code at (Arithmetic Add kind ∷ [])

      abbrev test_code : List (Instr ℕ)
      test_code = within_code at

      abbrev body_code : List (Instr ℕ)
      body_code = counted_code p at o ++ stmts_code p (at + 2) body (length post_code + length test_code + 1) 0

      abbrev size : ℕ
      size = length body_code + length post_code + length test_code + 1

      abbrev from_test : List (Instr ℕ)
      from_test = test_code ++ (Go_to (LoopIf size) ∷ rest)

      abbrev whole : List (Instr ℕ)
      whole = body_code ++ (post_code ++ from_test)

      whole_shape : whole ≡ ((body_code ++ post_code) ++ test_code) ++ (Go_to (LoopIf size) ∷ rest)
      whole_shape = sym (append_assoc (body_code ++ post_code) test_code (Go_to (LoopIf size) ∷ rest) ∙ append_assoc body_code post_code from_test)

      whole_long : length ((body_code ++ post_code) ++ test_code) + 1 ≡ size
      whole_long = omega (arith, length-append (body_code ++ post_code) test_code, length-append body_code post_code)

      past_end : Past (post_code ++ from_test) (length post_code + length test_code + 1) rest
      past_end = past_more post_code from_test (length test_code + 1) (length post_code + length test_code + 1) rest (omega arith) (past_more test_code (Go_to (LoopIf size) ∷ rest) 1 (length test_code + 1) rest refl (past_over (Go_to (LoopIf size) ∷ []) rest 1 refl))

      -- the temporaries where the counter is so far
      abbrev lows : ℕ → List Cell
      lows n = low ++ Int z ∷ Int (pos n) ∷ []

      -- behind the loop they hold anything
      abbrev Leaves : ℕ → Flow → ProgramState → Type 0
      Leaves t flow w = (x y : Cell) → Then t rest brk next (low ++ x ∷ y ∷ []) m flow w

      -- with n ticks left
      abbrev Walk : ℕ → ℕ → Locals → ProgramState → Outcome Flow
      Walk n count ls w = walk (suc n) count h o (exec_all calls body) ls w

      abbrev Tests : ℕ → ℕ → ℕ → Type 0
      Tests n count t = (ls : Locals) (w : ProgramState) → types_of ls ≡ types → Onward final (Leaves t) (Walk n count ls w) → Goes_on n from_test ls (lows count) m [] w

      -- the counter is tested
      test_follows : (t count : ℕ) (b : Bool) (ls : Locals) (w : ProgramState) → types_of ls ≡ types → nat_lt count h ≡ b → Goes_on t (Go_to (LoopIf size) ∷ rest) ls (lows count) m (Truth b ∷ []) w → Goes_on t from_test ls (lows count) m [] w
      test_follows t count b ls w same e on rows fits =
          two_behind t from_test rows low (Int z) (Int (pos count)) m [] w
          (within_follows image final depth code callers starts p at (together rows ++ low) (row_long image final depth code callers starts p types rows ls low at fits same long) t m (Go_to (LoopIf size) ∷ rest) z count b w (below count ∙ e)
          (two_apart t (Go_to (LoopIf size) ∷ rest) rows low (Int z) (Int (pos count)) m (Truth b ∷ []) w (on rows fits)))

      -- and counted up behind the body
      post_follows : (n count t : ℕ) → nat_lt count h ≡ true → Tests n (count + 1) t → (ls : Locals) (w : ProgramState) → types_of ls ≡ types → Onward final (Leaves t) (Walk n (count + 1) ls w) → Goes_on n (post_code ++ from_test) ls (lows count) m [] w
      post_follows n count t less tests ls w same on rows fits =
          two_behind n (post_code ++ from_test) rows low (Int z) (Int (pos count)) m [] w
          (up_follows image final depth code callers starts p at (together rows ++ low) (row_long image final depth code callers starts p types rows ls low at fits same long) n m from_test kind (Int z) count w (up count less)
          (two_apart n from_test rows low (Int z) (Int (pos (count + 1))) m [] w (tests ls w same on rows fits)))

      after_body : (n count t : ℕ) → n ≤ t → nat_lt count h ≡ true → Tests n (count + 1) t → (flow : Flow) (w : ProgramState) → Onward final (Leaves t) (after_turn (Walk n (count + 1)) flow w) → Then n (post_code ++ from_test) rest (post_code ++ from_test) (lows count) m flow w
      after_body n count t few less tests (Normal ls) w on = λ same. post_follows n count t less tests ls w same on
      after_body n count t few less tests (Breaks ls) w on = λ same rows fits. on_fewer image final depth code callers starts p types t n rest (together rows ++ lows count) m [] w few (on (Int z) (Int (pos count)) same rows fits)
      after_body n count t few less tests (Continues ls) w on = λ same. post_follows n count t less tests ls w same on
      after_body n count t few less tests (Returns vs) w on = after_fewer image final depth code callers starts p types t n rest brk next (lows count) m few (Returns vs) w (on (Int z) (Int (pos count)))

      -- the variable gets the counter
      counter_follows : (o : Option ℕ) (n count : ℕ) (k : List (Instr ℕ)) (ls : Locals) (w : ProgramState) → types_of ls ≡ types → Onward final (λ ls1 w1. types_of ls1 ≡ types → Goes_on n k ls1 (lows count) m [] w1) (if_known (defined (o ∷ []) (single (Int (pos count)) ∷ []) ls) w) → Goes_on n (counted_code p at o ++ k) ls (lows count) m [] w
      counter_follows None n count k ls w same on = on same
      counter_follows (Some v) n count k ls w same on = λ rows fits.
          two_behind n (load (at + 1) 1 ∷ store (p.locals v) 1 ∷ k) rows low (Int z) (Int (pos count)) m [] w
          (loads_second image final depth code callers starts p at (together rows ++ low) (row_long image final depth code callers starts p types rows ls low at fits same long) n m (store (p.locals v) 1 ∷ k) (Int z) (Int (pos count)) [] w
          (two_apart n (store (p.locals v) 1 ∷ k) rows low (Int z) (Int (pos count)) m (Int (pos count) ∷ []) w
          (local_stores image final depth code callers starts p types placed n v (single (Int (pos count))) k ls (lows count) m [] w same on rows fits)))

      -- a turn
      turn_follows : (n count t : ℕ) → n ≤ t → nat_lt count h ≡ true → Tests n (count + 1) t → (ls : Locals) (w : ProgramState) → types_of ls ≡ types → Onward final (Leaves t) (and_then (if_known (defined (o ∷ []) (single (Int (pos count)) ∷ []) ls) w) (λ ls1 w1. and_then (exec_all calls body ls1 w1) (after_turn (Walk n (count + 1))))) → Goes_on n whole ls (lows count) m [] w
      turn_follows n count t few less tests ls w same on =
          let far : ℕ = length post_code + length test_code + 1 in
          let there : total types + length (lows count) ≡ at + 2 = omega (arith, long, length-append low (Int z ∷ Int (pos count) ∷ [])) in
          follows_as image final depth code callers starts p types n (counted_code p at o ++ (stmts_code p (at + 2) body far 0 ++ (post_code ++ from_test))) whole ls (lows count) m [] w (sym (append_assoc (counted_code p at o) (stmts_code p (at + 2) body far 0) (post_code ++ from_test)))
          (counter_follows o n count (stmts_code p (at + 2) body far 0 ++ (post_code ++ from_test)) ls w same
          (onward_map final _ _ (if_known (defined (o ∷ []) (single (Int (pos count)) ∷ []) ls) w)
          (λ ls1 w1 more same1.
          runs n ls1 (at + 2) far 0 (post_code ++ from_test) rest (post_code ++ from_test) (lows count) m w1 same1 there le past_end (past_none (post_code ++ from_test))
          (onward_map final _ _ (exec_all calls body ls1 w1) (after_body n count t few less tests) (onward_then final _ (exec_all calls body ls1 w1) _ more)))
          (onward_then final _ (if_known (defined (o ∷ []) (single (Int (pos count)) ∷ []) ls) w) _ on)))

      -- behind the test, where turns may follow, and where none may
      abbrev Turn : ℕ → ℕ → Locals → ProgramState → Outcome Flow
      Turn n count ls w = and_then (if_known (defined (o ∷ []) (single (Int (pos count)) ∷ []) ls) w) (λ ls1 w1. and_then (exec_all calls body ls1 w1) (after_turn (Walk n (count + 1))))

      more_follow : (n count t q : ℕ) → suc n ≤ t → Stands code q whole → Tests n (count + 1) t → (ls : Locals) (w : ProgramState) → types_of ls ≡ types → (b : Bool) → nat_lt count h ≡ b → Onward final (Leaves t) (if b then with_tick w (Turn n count ls) else normal ls w) → Goes_on (suc n) (Go_to (LoopIf size) ∷ rest) ls (lows count) m (Truth b ∷ []) w
      more_follow n count t q few start tests ls w same true less on = λ rows fits.
          let fewer : n ≤ t = omega (arith, few) in
          loop_goes image final depth code callers starts p types (Leaves t) size whole ((body_code ++ post_code) ++ test_code) rest q (together rows ++ lows count) m [] w (Turn n count ls) n start whole_shape whole_long
          (λ left more. turn_follows n count t fewer less tests ls (record w { ticks = left }) same more rows fits) on
      more_follow n count t q few start tests ls w same false less on = λ rows fits.
          loop_stops image final depth code callers starts p types (suc n) size rest (together rows ++ lows count) m [] w
          (on_fewer image final depth code callers starts p types t (suc n) rest (together rows ++ lows count) m [] w few (on (Int z) (Int (pos count)) same rows fits))

      none_follow : (count t q : ℕ) (turn : ProgramState → Outcome Flow) → Stands code q whole → (ls : Locals) (w : ProgramState) → types_of ls ≡ types → (b : Bool) → Onward final (Leaves t) (if b then with_tick w turn else normal ls w) → Goes_on 0 (Go_to (LoopIf size) ∷ rest) ls (lows count) m (Truth b ∷ []) w
      none_follow count t q turn start ls w same true on = λ rows fits known none.
          let over : w.ticks ≡ zero = omega (arith, none) in
          loop_cuts image final depth code callers starts p types size whole ((body_code ++ post_code) ++ test_code) rest q (together rows ++ lows count) m [] w start whole_shape whole_long over 0 (tick_cuts image final depth code callers starts p types (Leaves t) w turn over on) known none
      none_follow count t q turn start ls w same false on = λ rows fits.
          let few : 0 ≤ t = omega arith in
          loop_stops image final depth code callers starts p types 0 size rest (together rows ++ lows count) m [] w
          (on_fewer image final depth code callers starts p types t 0 rest (together rows ++ lows count) m [] w few (on (Int z) (Int (pos count)) same rows fits))

      walk_follows : (n count t q : ℕ) → n ≤ t → Stands code q whole → Tests n count t
      walk_follows zero count t q few start ls w same on =
          test_follows 0 count (nat_lt count h) ls w same refl (none_follow count t q (λ w1. and_then (if_known (defined (o ∷ []) (single (Int (pos count)) ∷ []) ls) w1) (λ ls1 w2. and_then (exec_all calls body ls1 w2) (after_turn (walk zero (count + 1) h o (exec_all calls body))))) start ls w same (nat_lt count h) on)
      walk_follows (suc n) count t q few start ls w same on =
          let fewer : n ≤ t = omega (arith, few) in
          test_follows (suc n) count (nat_lt count h) ls w same refl (more_follow n count t q few start (walk_follows n (count + 1) t q fewer start) ls w same (nat_lt count h) refl on)

      -- from the jump to the test on
      abbrev far : ℕ
      far = length body_code + length post_code

      turns_follow : (t : ℕ) (ls : Locals) (w : ProgramState) → types_of ls ≡ types → Onward final (Leaves t) (Walk w.ticks 0 ls w) → Goes_on t (Go_to (Jump far) ∷ whole) ls (lows 0) m [] w
      turns_follow t ls w same on rows fits known few place high size1 s =
          let start = stands_next code place _ whole s in
          let past : Past whole far from_test = past_more body_code (post_code ++ from_test) (length post_code) far from_test refl (past_over post_code from_test (length post_code) refl) in
          jumps image final depth code callers starts p types t far whole from_test (together rows ++ lows 0) m [] w past
          (λ known1 few1 place1 high1 size2 s1. walk_follows w.ticks 0 t (place + 1) few start ls w same on rows fits known1 (omega arith) place1 high1 size2 s1)
          known few place high size1 s

      -- the range, which lies on the stack, is put in its cell
      abbrev entry : List (Instr ℕ)
      entry = begin_code at ++ (Go_to (Jump far) ∷ whole)

      begin_follows : (t : ℕ) (ls : Locals) (x y : Cell) (w : ProgramState) → types_of ls ≡ types → Onward final (Leaves t) (Walk w.ticks 0 ls w) → Goes_on t entry ls (low ++ x ∷ y ∷ []) m (Int z ∷ []) w
      begin_follows t ls x y w same on = λ rows fits.
          let front = together rows ++ low in
          let size1 : length front ≡ at = row_long image final depth code callers starts p types rows ls low at fits same long in
          two_behind t entry rows low x y m (Int z ∷ []) w
          (stores_first image final depth code callers starts p at front size1 t m (In_frame (Push (Int (pos 0))) ∷ store (at + 1) 1 ∷ Go_to (Jump far) ∷ whole) x y (Int z) [] w
          (pushes image final depth code callers starts p t (Int (pos 0)) (store (at + 1) 1 ∷ Go_to (Jump far) ∷ whole) (front ++ Int z ∷ y ∷ []) m [] w refl
          (stores_second image final depth code callers starts p at front size1 t m (Go_to (Jump far) ∷ whole) (Int z) y (Int (pos 0)) [] w
          (two_apart t (Go_to (Jump far) ∷ whole) rows low (Int z) (Int (pos 0)) m [] w (turns_follow t ls w same on rows fits)))))

    -- ---- the statement

    -- two cells behind others
    record Last (more : List Cell) (d : ℕ) : Type 0 where
      before : List Cell
      x : Cell
      y : Cell
      is : more ≡ before ++ x ∷ y ∷ []
      long : length before ≡ d

    last_two : (d : ℕ) (more : List Cell) → length more ≡ d + 2 → Last more d
    last_two zero [] e = absurd (omega (arith, e))
    last_two zero (x ∷ []) e = absurd (omega (arith, e))
    last_two zero (x ∷ y ∷ []) e = record { before = []; x = x; y = y; is = refl; long = refl }
    last_two zero (x ∷ y ∷ z ∷ more) e = absurd (omega (arith, e))
    last_two (suc d) [] e = absurd (omega (arith, e))
    last_two (suc d) (c ∷ more) e =
        let h = last_two d more (omega (arith, e)) in
        record { before = c ∷ h.before; x = h.x; y = h.y; is = ap (λ l. c ∷ l) h.is; long = ap suc h.long }

    abbrev below_code : ℕ → List (Instr ℕ)
    below_code at = within_code at

    -- the code behind the range, where the counter is counted up by these operators
    abbrev range_code : ℕ → Option ℕ → Stmts → List Operator → List (Instr ℕ)
    range_code at o body ops = begin_code at ++ loop_code (counted_code p at o ++ stmts_code p (at + 2) body (length (up_code at ops) + length (below_code at) + 1) 0) (up_code at ops) (within_code at)

    loop_shape : (start : List (Instr ℕ)) (jump back : Instr ℕ) (bod post test rest : List (Instr ℕ)) → start ++ (jump ∷ (bod ++ (post ++ (test ++ (back ∷ rest))))) ≡ (start ++ (jump ∷ (((bod ++ post) ++ test) ++ (back ∷ [])))) ++ rest
    loop_shape start jump back bod post test rest =
        let inner : (((bod ++ post) ++ test) ++ (back ∷ [])) ++ rest ≡ bod ++ (post ++ (test ++ (back ∷ rest))) = simp append_assoc in
        sym (append_assoc start (jump ∷ (((bod ++ post) ++ test) ++ (back ∷ []))) rest ∙ ap (λ l. start ++ (jump ∷ l)) inner)

    number_follows : (o : Option ℕ) (body : Stmts) (runs : AllSound body) (kind : IntKind) (z : ℤ) (h : ℕ) → ((n : ℕ) → holds Less (int_cmp (pos n) z) ≡ nat_lt n h) → ((n : ℕ) → nat_lt n h ≡ true → wrapped kind (pos n +ℤ pos 1) ≡ pos (n + 1)) → (d t : ℕ) (ls : Locals) (at there b c : ℕ) (rest brk next : List (Instr ℕ)) (low : List Cell) (m : ℕ) (w : ProgramState) → at + d ≡ there → types_of ls ≡ types → total types + length low ≡ at → d + 2 + stmts_temps body ≤ m → Onward final (Then t rest brk next low m) (walk (suc w.ticks) 0 h o (exec_all calls body) ls w) → Goes_on t (range_code there o body (Arithmetic Add kind ∷ []) ++ rest) ls low m (Int z ∷ []) w
    number_follows o body runs kind z h below up d t ls at there b c rest brk next low m w behind same long le on =
        let within : d + 2 ≤ m = omega (arith, le) in
        let ops : List Operator = Arithmetic Add kind ∷ [] in
        let bod = counted_code p there o ++ stmts_code p (there + 2) body (length (up_code there ops) + length (below_code there) + 1) 0 in
        follows_deeper image final depth code callers starts p types t _ ls low m (d + 2) (Int z ∷ []) w within (λ more size.
        let s = last_two d more size in
        let place : total types + length (low ++ s.before) ≡ there = omega (arith, long, behind, s.long, length-append low s.before) in
        let left : stmts_temps body ≤ m - (d + 2) = omega (arith, le) in
        follows_as image final depth code callers starts p types t _ _ ls (low ++ more) (m - (d + 2)) (Int z ∷ []) w (loop_shape (begin_code there) _ _ bod (up_code there ops) (within_code there) rest)
        (follows_low image final depth code callers starts p types t _ ls _ (low ++ more) (m - (d + 2)) (Int z ∷ []) w (append_assoc low s.before (s.x ∷ s.y ∷ []) ∙ ap (λ l. low ++ l) (sym s.is))
        (begin_follows o body runs there b c rest brk next (low ++ s.before) (m - (d + 2)) place left kind z h below up t ls s.x s.y w same
        (onward_map final _ _ (walk (suc w.ticks) 0 h o (exec_all calls body) ls w)
        (λ flow w1 after x y.
        let two : length (s.before ++ x ∷ y ∷ []) ≡ d + 2 = omega (arith, s.long, length-append s.before (x ∷ y ∷ [])) in
        subst (λ l. Then t rest brk next l (m - (d + 2)) flow w1) (sym (append_assoc low s.before (x ∷ y ∷ [])))
        (after_shallower image final depth code callers starts p types t rest brk next low (s.before ++ x ∷ y ∷ []) m (d + 2) two within flow w1 after))
        on))))

    -- the range is a number of its type
    value_follows : (o : Option ℕ) (of : Type') (body : Stmts) (runs : AllSound body) (v : Value) → is_of of v ≡ true → (d t : ℕ) (ls : Locals) (at there b c : ℕ) (rest brk next : List (Instr ℕ)) (low : List Cell) (m : ℕ) (w : ProgramState) → at + d ≡ there → types_of ls ≡ types → total types + length low ≡ at → d + 2 + stmts_temps body ≤ m → Onward final (Then t rest brk next low m) (walk_to v (λ h. walk (suc w.ticks) 0 h o (exec_all calls body) ls w)) → Goes_on t (range_code there o body (binary_operators (underlying of) (arithmetic Add)) ++ rest) ls low m (flat v) w
    value_follows o of body runs (single (Int (pos h))) typed d t ls at there b c rest brk next low m w behind same long le on =
        let i = integer_type of (pos h) typed in
        follows_as image final depth code callers starts p types t (range_code there o body (Arithmetic Add i.kind ∷ []) ++ rest) _ ls low m (Int (pos h) ∷ []) w (ap (λ s. range_code there o body (binary_operators s (arithmetic Add)) ++ rest) (sym i.is))
        (number_follows o body runs i.kind (pos h) h (λ n. compares_below n h) (λ n less. counted_up i.kind n h less i.fit) d t ls at there b c rest brk next low m w behind same long le on)
    value_follows o of body runs (single (Int (negsuc h))) typed d t ls at there b c rest brk next low m w behind same long le on =
        let i = integer_type of (negsuc h) typed in
        follows_as image final depth code callers starts p types t (range_code there o body (Arithmetic Add i.kind ∷ []) ++ rest) _ ls low m (Int (negsuc h) ∷ []) w (ap (λ s. range_code there o body (binary_operators s (arithmetic Add)) ++ rest) (sym i.is))
        (number_follows o body runs i.kind (negsuc h) 0 (λ n. compares_negative n h) (λ n less. let l : suc n ≤ 0 = leb-true (suc n) 0 less in absurd (omega (arith, l))) d t ls at there b c rest brk next low m w behind same long le on)
    value_follows o of body runs (single (Truth b1)) typed d t ls at there b c rest brk next low m w behind same long le on = absurd on
    value_follows o of body runs (single (Slice r1 r2 r3 r4)) typed d t ls at there b c rest brk next low m w behind same long le on = absurd on
    value_follows o of body runs (single (Text s)) typed d t ls at there b c rest brk next low m w behind same long le on = absurd on
    value_follows o of body runs (parts vs) typed d t ls at there b c rest brk next low m w behind same long le on = absurd on

    apart : (a b l rest : List (Instr ℕ)) → a ++ ((b ++ l) ++ rest) ≡ ((a ++ b) ++ l) ++ rest
    apart a b l rest = simp append_assoc

    -- https://go.dev/ref/spec#For_range
    pub range_runs : (o : Option ℕ) (of : Type') (e : Expr) (body : Stmts) → Runs image final depth code callers starts p calls e → AllSound body → Sound (trees.range_statement o of e body)
    range_runs o of e body first runs t locals at b c rest brk next low m w same long le ends again h =
        let there : ℕ = at + expr_temps e in
        let behind = range_code there o body (binary_operators (underlying of) (arithmetic Add)) in
        follows_as image final depth code callers starts p types t (expr_code p at e ++ (behind ++ rest)) _ locals low m [] w (apart (expr_code p at e) (begin_code there) _ rest)
        (expr_follows image final depth code callers starts p types placed calls e first t locals at (behind ++ rest) low m [] w same long (omega (arith, le))
        (onward_map final _ _ (eval calls e locals w)
        (λ v w1 more typed.
        let g = onward_given final _ of v w1 (onward_then final _ (typed_or_panic of (operators.Gives v) w1) _ more) in
        value_follows o of body runs v g.0 (expr_temps e) t locals at there b c rest brk next low m w1 refl same long le g.1)
        (onward_then final _ (eval calls e locals w) _ h)))
