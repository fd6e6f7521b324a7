-- The machine follows loops with a condition.
use Rattle.std.proofs.Common.{◌≡◌, ℕ, zero, suc, ◌+◌, ◌-◌, ◌≤◌, true, false, List, [], ◌∷◌, ◌++◌, length, Option, Some, None, refl, sym, ap, ◌∙◌, subst, arith, length-append, append_assoc}
use Rattle.std.specs.Prelude.{⊤}
use Rattle.go_types.specs.Types.{Type'}
use Rattle.go_code.specs.declared.cell.Cell.{Cell}
use Rattle.go_code.specs.declared.cell.Cell.TheVariants.{Int, Bool as Truth, Text, Slice}
use Rattle.go_code.specs.declared.ending.Ending.TheVariants.{Cut}
use Rattle.go_code.specs.declared.image.Start.{Start}
use Rattle.go_code.specs.declared.instr.Instr.{Instr}
use Rattle.go_code.specs.declared.instr.Instr.TheVariants.{Jump as Go_to}
use Rattle.go_code.specs.declared.instr.JumpInstr.TheVariants.{Jump, LoopIf}
use Rattle.go_code.specs.Finals.{Final, Ends as Ends_with}
use Rattle.go_code.specs.Images.{Image}
use Rattle.go_code.specs.Machine.{Frame, Leads}
use Rattle.go_code.proofs.Follows.{push_leads}
use Rattle.go_code.proofs.FollowsInside.{loop_leads, loop_cut, loop_leaves}
use Rattle.go_code.proofs.Stands.{Stands, stands_next, stands_at, stands_long}
use Rattle.go_typed.specs.Trees as trees
use Rattle.go_typed.specs.Trees.{Expr, Stmt, Stmts, expr_type}
use Rattle.go_meaning.specs.Values.{Value, single, parts, flat, is_of}
use Rattle.go_meaning.specs.Meaning.{ProgramState, Outcome, Ends, Locals, Flow, Normal, Breaks, Continues, Returns, Calls, and_then, with_tick, if_true, if_normal, after_turn, turns, normal, tested, eval, exec_all}
use Rattle.go_gen.specs.Translation.{Places, total, expr_temps, expr_code, condition_temps, condition_code, stmts_temps, stmts_code}
use Rattle.go_translation_laws.proofs.Frames.{together, types_of}
use Rattle.go_translation_laws.proofs.Runs.{Onward, onward_then, onward_map, here, On}
use Rattle.go_translation_laws.proofs.Exprs.{Runs}
use Rattle.go_translation_laws.proofs.Following.{Past, past_more, past_over, past_none, Placed, Follows, After, StmtRuns, StmtsRun, follows_as, on_fewer, after_fewer, follows_deeper, follows_shallower, carried_deeper, expr_follows, jumps}

module _ (image : Image) (final : Final) (depth : ℕ) (code : List (Instr ℕ)) (callers : List Frame) (starts : List Start) (p : Places ℕ) (types : List Type') where
  abbrev Onto : ℕ → List (Instr ℕ) → List Cell → ℕ → List Cell → ProgramState → Type 0
  Onto t k front m stack w = On image final depth code callers starts p t k front m stack w

  abbrev Goes_on : ℕ → List (Instr ℕ) → Locals → List Cell → ℕ → List Cell → ProgramState → Type 0
  Goes_on t k locals low m stack w = Follows image final depth code callers starts p types t k locals low m stack w

  abbrev Then : ℕ → List (Instr ℕ) → List (Instr ℕ) → List (Instr ℕ) → List Cell → ℕ → Flow → ProgramState → Type 0
  Then t rest brk next low m flow w = After image final depth code callers starts p types t rest brk next low m flow w

  -- ---- the jump back at a loop's end

  -- where no tick is left
  pub loop_cuts : (size : ℕ) (whole xs rest : List (Instr ℕ)) (q : ℕ) (front : List Cell) (m : ℕ) (stack : List Cell) (w : ProgramState) → Stands code q whole → whole ≡ xs ++ (Go_to (LoopIf size) ∷ rest) → length xs + 1 ≡ size → w.ticks ≡ zero → (t : ℕ) → final ≡ Ends_with Cut w.output → Onto t (Go_to (LoopIf size) ∷ rest) front m (stack ++ Truth true ∷ []) w
  loop_cuts size whole xs rest q front m stack w start shape far none t over known few place high long s =
      let first : q + length whole ≡ length code = stands_long code q whole start in
      let last : place + length (Go_to (LoopIf size) ∷ rest) ≡ length code = stands_long code place (Go_to (LoopIf size) ∷ rest) s in
      let all : length whole ≡ length xs + length (Go_to (LoopIf size) ∷ rest) = ap length shape ∙ length-append xs (Go_to (LoopIf size) ∷ rest) in
      let within : size ≤ place + 1 = omega (arith, first, last, all, far) in
      subst (Leads image (here image final depth code callers starts p place (front ++ high) (stack ++ Truth true ∷ []) w)) (sym over)
      (loop_cut image (here image final depth code callers starts p place (front ++ high) (stack ++ Truth true ∷ []) w) _ callers size stack (record { frames = refl; rest = rest; stands = s }) refl within none)

  -- where one is left
  loop_returns : (size : ℕ) (whole xs rest : List (Instr ℕ)) (q : ℕ) (front : List Cell) (m : ℕ) (stack : List Cell) (w : ProgramState) (left : ℕ) → Stands code q whole → whole ≡ xs ++ (Go_to (LoopIf size) ∷ rest) → length xs + 1 ≡ size → w.ticks ≡ suc left → (t : ℕ) → Onto t whole front m stack (record w { ticks = left }) → Onto (suc t) (Go_to (LoopIf size) ∷ rest) front m (stack ++ Truth true ∷ []) w
  loop_returns size whole xs rest q front m stack w left start shape far some t on known few place high long s =
      let first : q + length whole ≡ length code = stands_long code q whole start in
      let last : place + length (Go_to (LoopIf size) ∷ rest) ≡ length code = stands_long code place (Go_to (LoopIf size) ∷ rest) s in
      let all : length whole ≡ length xs + length (Go_to (LoopIf size) ∷ rest) = ap length shape ∙ length-append xs (Go_to (LoopIf size) ∷ rest) in
      let within : size ≤ place + 1 = omega (arith, first, last, all, far) in
      let there : q ≡ place + 1 - size = omega (arith, first, last, all, far) in
      let fewer : left ≤ t = omega (arith, few, some) in
      loop_leads image (here image final depth code callers starts p place (front ++ high) (stack ++ Truth true ∷ []) w) _ callers size stack left final (record { frames = refl; rest = rest; stands = s }) refl within some
      (on known fewer (place + 1 - size) high long (stands_at code q (place + 1 - size) whole there start))

  -- takes a tick for the turn
  pub loop_goes : (P : Flow → ProgramState → Type 0) (size : ℕ) (whole xs rest : List (Instr ℕ)) (q : ℕ) (front : List Cell) (m : ℕ) (stack : List Cell) (w : ProgramState) (turn : ProgramState → Outcome Flow) (t : ℕ) → Stands code q whole → whole ≡ xs ++ (Go_to (LoopIf size) ∷ rest) → length xs + 1 ≡ size → ((left : ℕ) → Onward final P (turn (record w { ticks = left })) → Onto t whole front m stack (record w { ticks = left })) → Onward final P (with_tick w turn) → Onto (suc t) (Go_to (LoopIf size) ∷ rest) front m (stack ++ Truth true ∷ []) w
  loop_goes P size whole xs rest q front m stack w turn t start shape far again h = by_ticks w.ticks refl h
    where
      by_ticks : (n : ℕ) → w.ticks ≡ n → Onward final P (elim n [ zero ↦ Ends Cut w.output | suc left ↦ turn (record w { ticks = left }) ]) → Onto (suc t) (Go_to (LoopIf size) ∷ rest) front m (stack ++ Truth true ∷ []) w
      by_ticks zero e h = loop_cuts size whole xs rest q front m stack w start shape far e (suc t) h
      by_ticks (suc left) e h = loop_returns size whole xs rest q front m stack w left start shape far e t (again left h)

  -- where none is left
  pub tick_cuts : (P : Flow → ProgramState → Type 0) (w : ProgramState) (turn : ProgramState → Outcome Flow) → w.ticks ≡ zero → Onward final P (with_tick w turn) → final ≡ Ends_with Cut w.output
  tick_cuts P w turn e h = subst (λ n. Onward final P (elim n [ zero ↦ Ends Cut w.output | suc left ↦ turn (record w { ticks = left }) ])) e h

  pub loop_stops : (t size : ℕ) (rest : List (Instr ℕ)) (front : List Cell) (m : ℕ) (stack : List Cell) (w : ProgramState) → Onto t rest front m stack w → Onto t (Go_to (LoopIf size) ∷ rest) front m (stack ++ Truth false ∷ []) w
  loop_stops t size rest front m stack w on known few place high long s =
      loop_leaves image (here image final depth code callers starts p place (front ++ high) (stack ++ Truth false ∷ []) w) _ callers size stack final (record { frames = refl; rest = rest; stands = s }) refl
      (on known few (place + 1) high long (stands_next code place _ rest s))

  -- ---- what is known behind a loop's body and behind what is done behind it

  pub after_turned : (t u : ℕ) (rest brk next behind : List (Instr ℕ)) (low : List Cell) (m : ℕ) (meaning : Locals → ProgramState → Outcome Flow) → u ≤ t → ((ls : Locals) (w : ProgramState) → types_of ls ≡ types → Onward final (Then t rest brk next low m) (meaning ls w) → Goes_on u behind ls low m [] w) → (flow : Flow) (w : ProgramState) → Onward final (Then t rest brk next low m) (after_turn meaning flow w) → Then u behind rest behind low m flow w
  after_turned t u rest brk next behind low m meaning le f (Normal ls) w h = λ same. f ls w same h
  after_turned t u rest brk next behind low m meaning le f (Breaks ls) w h = λ same rows fits. on_fewer image final depth code callers starts p types t u rest (together rows ++ low) m [] w le (h same rows fits)
  after_turned t u rest brk next behind low m meaning le f (Continues ls) w h = λ same. f ls w same h
  after_turned t u rest brk next behind low m meaning le f (Returns vs) w h = after_fewer image final depth code callers starts p types t u rest brk next low m le (Returns vs) w h

  after_post : (t u : ℕ) (rest brk next behind : List (Instr ℕ)) (low : List Cell) (m : ℕ) (meaning : Locals → ProgramState → Outcome Flow) → u ≤ t → ((ls : Locals) (w : ProgramState) → types_of ls ≡ types → Onward final (Then t rest brk next low m) (meaning ls w) → Goes_on u behind ls low m [] w) → (flow : Flow) (w : ProgramState) → Onward final (Then t rest brk next low m) (if_normal meaning flow w) → Then u behind brk next low m flow w
  after_post t u rest brk next behind low m meaning le f (Normal ls) w h = λ same. f ls w same h
  after_post t u rest brk next behind low m meaning le f (Breaks ls) w h = after_fewer image final depth code callers starts p types t u rest brk next low m le (Breaks ls) w h
  after_post t u rest brk next behind low m meaning le f (Continues ls) w h = after_fewer image final depth code callers starts p types t u rest brk next low m le (Continues ls) w h
  after_post t u rest brk next behind low m meaning le f (Returns vs) w h = after_fewer image final depth code callers starts p types t u rest brk next low m le (Returns vs) w h

  module _ (placed : Placed image final depth code callers starts p types) (calls : Calls) where
    abbrev Sound : Stmt → Type 0
    Sound s = StmtRuns image final depth code callers starts p types calls s

    abbrev AllSound : Stmts → Type 0
    AllSound ss = StmtsRun image final depth code callers starts p types calls ss

    -- ---- expressions behind temporaries of others, and conditions

    pub expr_deeper : (e : Expr) → Runs image final depth code callers starts p calls e → (d t : ℕ) (locals : Locals) (at there : ℕ) (k : List (Instr ℕ)) (low : List Cell) (m : ℕ) (stack : List Cell) (w : ProgramState) → at + d ≡ there → types_of locals ≡ types → total types + length low ≡ at → d + expr_temps e ≤ m → Onward final (λ v w1. is_of (expr_type e) v ≡ true → Goes_on t k locals low m (stack ++ flat v) w1) (eval calls e locals w) → Goes_on t (expr_code p there e ++ k) locals low m stack w
    expr_deeper e runs d t locals at there k low m stack w behind same long le h =
        let within : d ≤ m = omega (arith, le) in
        follows_deeper image final depth code callers starts p types t (expr_code p there e ++ k) locals low m d stack w within (λ more size.
        let place : total types + length (low ++ more) ≡ there = omega (arith, long, size, behind, length-append low more) in
        let left : expr_temps e ≤ m - d = omega (arith, le) in
        expr_follows image final depth code callers starts p types placed calls e runs t locals there k (low ++ more) (m - d) stack w same place left
        (onward_map final _ _ (eval calls e locals w) (λ v w1 on typed. follows_shallower image final depth code callers starts p types t k locals low more m d (stack ++ flat v) w1 size within (on typed)) h))

    abbrev pub TestRuns : Option Expr → Type 0
    TestRuns None = ⊤
    TestRuns (Some e) = Runs image final depth code callers starts p calls e

    condition_follows : (o : Option Expr) → TestRuns o → (d t : ℕ) (locals : Locals) (at there : ℕ) (k : List (Instr ℕ)) (low : List Cell) (m : ℕ) (w : ProgramState) → at + d ≡ there → types_of locals ≡ types → total types + length low ≡ at → d + condition_temps o ≤ m → Onward final (λ v w1. Goes_on t k locals low m (flat v) w1) (tested calls o locals w) → Goes_on t (condition_code p there o ++ k) locals low m [] w
    condition_follows None runs d t locals at there k low m w behind same long le h = λ rows fits known few place high size s.
        push_leads image (here image final depth code callers starts p place ((together rows ++ low) ++ high) [] w) _ callers (Truth true) k final refl s refl
        (h rows fits known few (place + 1) high size (stands_next code place _ k s))
    condition_follows (Some e) runs d t locals at there k low m w behind same long le h =
        expr_deeper e runs d t locals at there k low m [] w behind same long le (onward_map final _ _ (eval calls e locals w) (λ v w1 on typed. on) h)

    -- ---- the turns of a loop

    module _ (o : Option Expr) (post body : Stmts) (test : TestRuns o) (first : AllSound body) (second : AllSound post) (at b c : ℕ) (rest brk next : List (Instr ℕ)) (low : List Cell) (m : ℕ) (long : total types + length low ≡ at) (le : stmts_temps body + stmts_temps post + condition_temps o ≤ m) (ends : Past rest b brk) (again : Past rest c next) where
      abbrev there : ℕ
      there = at + stmts_temps body

      abbrev test_code : List (Instr ℕ)
      test_code = condition_code p (there + stmts_temps post) o

      abbrev post_code : List (Instr ℕ)
      post_code = stmts_code p there post (length test_code + 1 + b) (length test_code + 1 + c)

      abbrev body_code : List (Instr ℕ)
      body_code = stmts_code p at body (length post_code + length test_code + 1) 0

      abbrev size : ℕ
      size = length body_code + length post_code + length test_code + 1

      abbrev from_test : List (Instr ℕ)
      from_test = test_code ++ (Go_to (LoopIf size) ∷ rest)

      abbrev whole : List (Instr ℕ)
      whole = body_code ++ (post_code ++ from_test)

      whole_shape : whole ≡ ((body_code ++ post_code) ++ test_code) ++ (Go_to (LoopIf size) ∷ rest)
      whole_shape = simp append_assoc

      whole_long : length ((body_code ++ post_code) ++ test_code) + 1 ≡ size
      whole_long = omega (arith, length-append (body_code ++ post_code) test_code, length-append body_code post_code)

      -- with n ticks left
      abbrev Turns : ℕ → Locals → ProgramState → Outcome Flow
      Turns n ls w = turns (suc n) (tested calls o) (exec_all calls body) (exec_all calls post) ls w

      abbrev Behind : ℕ → Locals → ProgramState → Outcome Flow
      Behind n ls w = and_then (exec_all calls post ls w) (if_normal (Turns n))

      -- so many turns more at most are followed from the test on
      abbrev Tests : ℕ → ℕ → Type 0
      Tests n t = (ls : Locals) (w : ProgramState) → types_of ls ≡ types → Onward final (Then t rest brk next low m) (Turns n ls w) → Goes_on n from_test ls low m [] w

      past_test : (d : ℕ) (k : List (Instr ℕ)) → Past rest d k → Past from_test (length test_code + 1 + d) k
      past_test d k past = past_more test_code (Go_to (LoopIf size) ∷ rest) (1 + d) (length test_code + 1 + d) k (omega arith) (past_more (Go_to (LoopIf size) ∷ []) rest d (1 + d) k refl past)

      past_end : Past (post_code ++ from_test) (length post_code + length test_code + 1) rest
      past_end = past_more post_code from_test (length test_code + 1) (length post_code + length test_code + 1) rest (omega arith) (past_more test_code (Go_to (LoopIf size) ∷ rest) 1 (length test_code + 1) rest refl (past_over (Go_to (LoopIf size) ∷ []) rest 1 refl))

      -- what is done behind the body, and the next test
      posts_follow : (n t : ℕ) → n ≤ t → Tests n t → (ls : Locals) (w : ProgramState) → types_of ls ≡ types → Onward final (Then t rest brk next low m) (Behind n ls w) → Goes_on n (post_code ++ from_test) ls low m [] w
      posts_follow n t few tests ls w same h =
          carried_deeper image final depth code callers starts p types (stmts_temps post) (λ k b1 c1. stmts_code p k post b1 c1) (exec_all calls post) second (stmts_temps body) n ls at there (length test_code + 1 + b) (length test_code + 1 + c) from_test brk next low m w refl same long (omega (arith, le))
          (past_test b brk ends) (past_test c next again)
          (onward_map final _ _ (exec_all calls post ls w) (after_post t n rest brk next from_test low m (Turns n) few tests) (onward_then final _ (exec_all calls post ls w) _ h))

      -- behind a test, where turns may follow, and where none may
      turn_follows : (n t q : ℕ) → suc n ≤ t → Stands code q whole → Tests n t → (ls : Locals) → types_of ls ≡ types → (v : Value) (w : ProgramState) → Onward final (Then t rest brk next low m) (if_true v (with_tick w (λ w1. and_then (exec_all calls body ls w1) (after_turn (Behind n)))) (normal ls w)) → Goes_on (suc n) (Go_to (LoopIf size) ∷ rest) ls low m (flat v) w
      turn_follows n t q few start tests ls same (single (Truth true)) w h = λ rows fits.
          let fewer : n ≤ t = omega (arith, few) in
          loop_goes (Then t rest brk next low m) size whole ((body_code ++ post_code) ++ test_code) rest q (together rows ++ low) m [] w (λ w1. and_then (exec_all calls body ls w1) (after_turn (Behind n))) n start whole_shape whole_long
          (λ left more.
          first n ls at (length post_code + length test_code + 1) 0 (post_code ++ from_test) rest (post_code ++ from_test) low m (record w { ticks = left }) same long (omega (arith, le)) past_end (past_none (post_code ++ from_test))
          (onward_map final _ _ (exec_all calls body ls (record w { ticks = left }))
          (after_turned t n rest brk next (post_code ++ from_test) low m (Behind n) fewer (posts_follow n t fewer tests))
          (onward_then final _ (exec_all calls body ls (record w { ticks = left })) _ more)) rows fits)
          h
      turn_follows n t q few start tests ls same (single (Truth false)) w h = λ rows fits. loop_stops (suc n) size rest (together rows ++ low) m [] w (on_fewer image final depth code callers starts p types t (suc n) rest (together rows ++ low) m [] w few (h same rows fits))
      turn_follows n t q few start tests ls same (single (Int z)) w h = absurd h
      turn_follows n t q few start tests ls same (single (Slice r1 r2 r3 r4)) w h = absurd h
      turn_follows n t q few start tests ls same (single (Text s)) w h = absurd h
      turn_follows n t q few start tests ls same (parts vs) w h = absurd h

      none_follows : (t q : ℕ) (turn : ProgramState → Outcome Flow) → Stands code q whole → (ls : Locals) → types_of ls ≡ types → (v : Value) (w : ProgramState) → Onward final (Then t rest brk next low m) (if_true v (with_tick w turn) (normal ls w)) → Goes_on 0 (Go_to (LoopIf size) ∷ rest) ls low m (flat v) w
      none_follows t q turn start ls same (single (Truth true)) w h = λ rows fits known none.
          let over : w.ticks ≡ zero = omega (arith, none) in
          loop_cuts size whole ((body_code ++ post_code) ++ test_code) rest q (together rows ++ low) m [] w start whole_shape whole_long over 0 (tick_cuts (Then t rest brk next low m) w turn over h) known none
      none_follows t q turn start ls same (single (Truth false)) w h = λ rows fits.
          let few : 0 ≤ t = omega arith in
          loop_stops 0 size rest (together rows ++ low) m [] w (on_fewer image final depth code callers starts p types t 0 rest (together rows ++ low) m [] w few (h same rows fits))
      none_follows t q turn start ls same (single (Int z)) w h = absurd h
      none_follows t q turn start ls same (single (Slice r1 r2 r3 r4)) w h = absurd h
      none_follows t q turn start ls same (single (Text s)) w h = absurd h
      none_follows t q turn start ls same (parts vs) w h = absurd h

      turns_follow : (n t q : ℕ) → n ≤ t → Stands code q whole → Tests n t
      turns_follow zero t q few start ls w same h =
          condition_follows o test (stmts_temps body + stmts_temps post) 0 ls at (there + stmts_temps post) (Go_to (LoopIf size) ∷ rest) low m w (omega arith) same long le
          (onward_map final _ _ (tested calls o ls w) (λ v w1 more. none_follows t q (λ w2. and_then (exec_all calls body ls w2) (after_turn (λ ls1 w3. and_then (exec_all calls post ls1 w3) (if_normal (turns zero (tested calls o) (exec_all calls body) (exec_all calls post)))))) start ls same v w1 more) (onward_then final _ (tested calls o ls w) _ h))
      turns_follow (suc n) t q few start ls w same h =
          let fewer : n ≤ t = omega (arith, few) in
          condition_follows o test (stmts_temps body + stmts_temps post) (suc n) ls at (there + stmts_temps post) (Go_to (LoopIf size) ∷ rest) low m w (omega arith) same long le
          (onward_map final _ _ (tested calls o ls w) (λ v w1 more. turn_follows n t q few start (turns_follow n t q fewer start) ls same v w1 more) (onward_then final _ (tested calls o ls w) _ h))

      -- the loop, whose turns are no more than the ticks at its entry
      loop_follows : (t : ℕ) (locals : Locals) (w : ProgramState) → types_of locals ≡ types → Onward final (Then t rest brk next low m) (turns (suc w.ticks) (tested calls o) (exec_all calls body) (exec_all calls post) locals w) → Goes_on t (Go_to (Jump (length body_code + length post_code)) ∷ whole) locals low m [] w
      loop_follows t locals w same h rows fits known few place high size1 s =
          let start = stands_next code place _ whole s in
          let past : Past whole (length body_code + length post_code) from_test = past_more body_code (post_code ++ from_test) (length post_code) (length body_code + length post_code) from_test refl (past_over post_code from_test (length post_code) refl) in
          jumps image final depth code callers starts p types t (length body_code + length post_code) whole from_test (together rows ++ low) m [] w past
          (λ known1 few1 place1 high1 size2 s1. turns_follow w.ticks t (place + 1) few start locals w same h rows fits known1 (omega arith) place1 high1 size2 s1)
          known few place high size1 s

      loop_shape : Go_to (Jump (length body_code + length post_code)) ∷ whole ≡ (Go_to (Jump (length body_code + length post_code)) ∷ body_code ++ post_code ++ test_code ++ Go_to (LoopIf size) ∷ []) ++ rest
      loop_shape = simp append_assoc

    -- https://go.dev/ref/spec#For_statements
    pub for_runs : (o : Option Expr) (post body : Stmts) → TestRuns o → AllSound body → AllSound post → Sound (trees.for_statement o post body)
    for_runs o post body test first second t locals at b c rest brk next low m w same long le ends again h =
        follows_as image final depth code callers starts p types t _ _ locals low m [] w
        (loop_shape o post body test first second at b c rest brk next low m long le ends again)
        (loop_follows o post body test first second at b c rest brk next low m long le ends again t locals w same h)
