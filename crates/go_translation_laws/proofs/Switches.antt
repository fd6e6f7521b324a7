-- The machine follows switches: the tag, the tests, and the clauses from the chosen one on.
use Rattle.std.proofs.Common.{◌≡◌, ℕ, zero, suc, ◌+◌, ◌-◌, ◌≤◌, Bool, true, false, List, [], ◌∷◌, ◌++◌, length, map, Option, Some, None, refl, sym, subst, arith, length-append, append_assoc}
use Rattle.std.specs.Prelude.{if◌then◌else◌, ⊤}
use Rattle.go_types.specs.Types.{Type'}
use Rattle.go_types.specs.Sizes.{cells}
use Rattle.go_code.specs.declared.cell.Cell.{Cell}
use Rattle.go_code.specs.declared.image.Start.{Start}
use Rattle.go_code.specs.declared.instr.Instr.{Instr}
use Rattle.go_code.specs.declared.instr.Instr.TheVariants.{Jump as Go_to}
use Rattle.go_code.specs.declared.instr.JumpInstr.TheVariants.{Jump}
use Rattle.go_code.specs.Finals.{Final}
use Rattle.go_code.specs.Images.{Image}
use Rattle.go_code.specs.Machine.{Frame}
use Rattle.go_typed.specs.Trees as trees
use Rattle.go_typed.specs.Trees.{Expr, Stmt, Stmts, Clauses, no_clauses, clause, expr_type}
use Rattle.go_meaning.specs.Values.{Value, flat, is_of}
use Rattle.go_meaning.specs.Meaning.{ProgramState, Locals, Flow, Normal, Breaks, Continues, Returns, Calls, after_switch, eval, exec_all, chosen, from_clause}
use Rattle.go_gen.specs.Translation.{Places, total, expr_temps, expr_code, store, cases_temps, stmts_temps, bodies_temps, concat_code, tests_code, default_place, leave_code, stmts_code, bodies_code}
use Rattle.go_translation_laws.proofs.Frames.{together, types_of}
use Rattle.go_meaning_laws.proofs.Values.{flat_long}
use Rattle.go_translation_laws.proofs.Runs.{Onward, onward_then, onward_map}
use Rattle.go_translation_laws.proofs.Rows.{keeps, on_front}
use Rattle.go_translation_laws.proofs.Exprs.{Runs}
use Rattle.go_translation_laws.proofs.Following.{Past, past_none, past_more, past_over, Placed, Follows, After, StmtRuns, StmtsRun, follows_as, follows_deeper, after_shallower, carried_deeper, expr_follows, row_long, jumps}
use Rattle.go_translation_laws.proofs.Flows.{after_normal}
use Rattle.go_translation_laws.proofs.Tests.{from_clause_on, AsMany, tests_follow}

module _ (image : Image) (final : Final) (depth : ℕ) (code : List (Instr ℕ)) (callers : List Frame) (starts : List Start) (p : Places ℕ) (types : List Type') where
  abbrev Goes_on : ℕ → List (Instr ℕ) → Locals → List Cell → ℕ → List Cell → ProgramState → Type 0
  Goes_on t k locals low m stack w = Follows image final depth code callers starts p types t k locals low m stack w

  abbrev Then : ℕ → List (Instr ℕ) → List (Instr ℕ) → List (Instr ℕ) → List Cell → ℕ → Flow → ProgramState → Type 0
  Then t rest brk next low m flow w = After image final depth code callers starts p types t rest brk next low m flow w

  -- a break leads behind the switch
  after_switched : (t : ℕ) (rest brk next : List (Instr ℕ)) (low : List Cell) (m : ℕ) (flow : Flow) (w : ProgramState) → Onward final (Then t rest brk next low m) (after_switch flow w) → Then t rest rest next low m flow w
  after_switched t rest brk next low m (Normal ls) w h = h
  after_switched t rest brk next low m (Breaks ls) w h = h
  after_switched t rest brk next low m (Continues ls) w h = h
  after_switched t rest brk next low m (Returns vs) w h = h

  module _ (placed : Placed image final depth code callers starts p types) (calls : Calls) where
    abbrev Sound : Stmt → Type 0
    Sound s = StmtRuns image final depth code callers starts p types calls s

    abbrev AllSound : Stmts → Type 0
    AllSound ss = StmtsRun image final depth code callers starts p types calls ss

    -- all bodies are followed
    abbrev pub ClausesRun : Clauses → Type 0
    ClausesRun no_clauses = ⊤
    ClausesRun (clause es body falls cs) = AllSound body × ClausesRun cs

    -- ---- clauses

    none_chosen : (cs : Clauses) (locals : Locals) (w : ProgramState) (P : Flow → ProgramState → Type 0) → Onward final P (from_clause calls cs None locals w) → P (Normal locals) w
    none_chosen no_clauses locals w P h = h
    none_chosen (clause es body falls cs) locals w P h = h

    module _ (at c : ℕ) (rest next : List (Instr ℕ)) (low : List Cell) (m t : ℕ) (long : total types + length low ≡ at) (again : Past rest c next) where
      abbrev Clauses_follow : Clauses → Type 0
      Clauses_follow cs = (d k : ℕ) (o : Option ℕ) (locals : Locals) (w : ProgramState) → at + d ≡ k → d + bodies_temps cs ≤ m → types_of locals ≡ types → Onward final (Then t rest rest next low m) (from_clause calls cs o locals w) → Goes_on t (from_clause_on (bodies_code p k cs c) rest o) locals low m [] w

      -- behind a clause's body: the next clause, or the jump over all others
      leaves : (falls : Bool) (cs : Clauses) → Clauses_follow cs → (d k : ℕ) (locals : Locals) (w : ProgramState) → at + d ≡ k → d + bodies_temps cs ≤ m → types_of locals ≡ types → Onward final (Then t rest rest next low m) (from_clause calls cs (if falls then Some zero else None) locals w) → Goes_on t (leave_code falls (length (concat_code (bodies_code p k cs c))) ++ (concat_code (bodies_code p k cs c) ++ rest)) locals low m [] w
      leaves true cs follow d k locals w behind le same h = follow d k (Some zero) locals w behind le same h
      leaves false cs follow d k locals w behind le same h = λ rows fits.
          let others = concat_code (bodies_code p k cs c) in
          jumps image final depth code callers starts p types t (length others) (others ++ rest) rest (together rows ++ low) m [] w (past_over others rest (length others) refl)
          (none_chosen cs locals w (Then t rest rest next low m) h same rows fits)

      -- the chosen clause itself
      clause_follows : (es : Option _) (body : Stmts) (falls : Bool) (cs : Clauses) → AllSound body → Clauses_follow cs → (d k : ℕ) (locals : Locals) (w : ProgramState) → at + d ≡ k → d + (stmts_temps body + bodies_temps cs) ≤ m → types_of locals ≡ types → Onward final (Then t rest rest next low m) (from_clause calls (clause es body falls cs) (Some zero) locals w) → Goes_on t (concat_code (bodies_code p k (clause es body falls cs) c) ++ rest) locals low m [] w
      clause_follows es body falls cs runs follow d k locals w behind le same h =
          let others = concat_code (bodies_code p (k + stmts_temps body) cs c) in
          let leave : List (Instr ℕ) = leave_code falls (length others) in
          let far : ℕ = length leave + length others in
          let behind_body : List (Instr ℕ) = leave ++ (others ++ rest) in
          let inner = stmts_code p k body far (far + c) in
          let shape : inner ++ behind_body ≡ ((inner ++ leave) ++ others) ++ rest = simp append_assoc in
          let over : Past behind_body far rest = past_more leave (others ++ rest) (length others) far rest refl (past_over others rest (length others) refl) in
          let turns : Past behind_body (far + c) next = past_more leave (others ++ rest) (length others + c) (far + c) next (omega arith) (past_more others rest c (length others + c) next refl again) in
          follows_as image final depth code callers starts p types t _ _ locals low m [] w shape
          (carried_deeper image final depth code callers starts p types (stmts_temps body) (λ k1 b1 c1. stmts_code p k1 body b1 c1) (exec_all calls body) runs d t locals at k far (far + c) behind_body rest next low m w behind same long (omega (arith, le)) over turns
          (onward_map final _ _ (exec_all calls body locals w)
          (after_normal image final depth code callers starts p types t rest behind_body rest next low m (from_clause calls cs (if falls then Some zero else None))
          (λ ls w1 same1 more. leaves falls cs follow (d + stmts_temps body) (k + stmts_temps body) ls w1 (omega (arith, behind)) (omega (arith, le)) same1 more))
          (onward_then final _ (exec_all calls body locals w) _ h)))

      clauses_follow : (cs : Clauses) → ClausesRun cs → Clauses_follow cs
      clauses_follow no_clauses runs d k None locals w behind le same h = h same
      clauses_follow no_clauses runs d k (Some zero) locals w behind le same h = h same
      clauses_follow no_clauses runs d k (Some (suc n)) locals w behind le same h = h same
      clauses_follow (clause es body falls cs) runs d k None locals w behind le same h = h same
      clauses_follow (clause es body falls cs) runs d k (Some zero) locals w behind le same h = clause_follows es body falls cs runs.0 (clauses_follow cs runs.1) d k locals w behind le same h
      clauses_follow (clause es body falls cs) runs d k (Some (suc n)) locals w behind le same h =
          clauses_follow cs runs.1 (d + stmts_temps body) (k + stmts_temps body) (Some n) locals w (omega (arith, behind)) (omega (arith, le)) same h

    bodies_many : (k : ℕ) (cs : Clauses) (c : ℕ) → AsMany cs (bodies_code p k cs c)
    bodies_many k no_clauses c = tt
    bodies_many k (clause es body falls cs) c = bodies_many (k + stmts_temps body) cs c

    -- ---- the whole switch

    -- a value goes into the first of the temporaries
    keeps_value : (of : Type') (v : Value) → is_of of v ≡ true → (t at : ℕ) (locals : Locals) (k : List (Instr ℕ)) (low : List Cell) (m : ℕ) (w : ProgramState) → types_of locals ≡ types → total types + length low ≡ at → cells of ≤ m → Goes_on t k locals (low ++ flat v) (m - cells of) [] w → Goes_on t (store at (cells of) ∷ k) locals low m (flat v) w
    keeps_value of v typed t at locals k low m w same long le on rows fits =
        keeps image final depth code callers starts p t at (cells of) (flat v) k (together rows ++ low) m [] w
        (row_long image final depth code callers starts p types rows locals low at fits same long) (flat_long of v typed) le
        (on_front image final depth code callers starts p t k _ _ (m - cells of) [] w (sym (append_assoc (together rows) low (flat v))) (on rows fits))

    module _ (every : (e : Expr) → Runs image final depth code callers starts p calls e) where
      -- behind the tag's expression, whose value lies behind its temporaries
      tag_follows : (e : Expr) (cs : Clauses) → ClausesRun cs → (t : ℕ) (locals : Locals) (at c : ℕ) (rest brk next : List (Instr ℕ)) (low : List Cell) (m : ℕ) (w : ProgramState) → types_of locals ≡ types → total types + length low ≡ at → cells (expr_type e) + cases_temps cs + bodies_temps cs ≤ m → Past rest c next → (tag : Value) → is_of (expr_type e) tag ≡ true → (P : Option ℕ → ProgramState → Type 0) → ((o : Option ℕ) (w1 : ProgramState) → P o w1 → Onward final (Then t rest rest next (low ++ flat tag) (m - cells (expr_type e))) (from_clause calls cs o locals w1)) → Onward final P (chosen calls (expr_type e) tag cs 0 None locals w) → (codes : List (List (Instr ℕ))) → codes ≡ bodies_code p (at + cells (expr_type e) + cases_temps cs) cs c → Goes_on t (store at (cells (expr_type e)) ∷ (tests_code p at (expr_type e) (at + cells (expr_type e)) cs (map length codes) 0 ++ (Go_to (Jump (default_place cs (map length codes) 0 (length (concat_code codes)))) ∷ (concat_code codes ++ rest)))) locals low m (flat tag) w
      tag_follows e cs runs t locals at c rest brk next low m w same long le again tag typed P inner h codes is =
          let of : Type' = expr_type e in
          let first : ℕ = at + cells of in
          let left : ℕ = m - cells of in
          let there : total types + length (low ++ flat tag) ≡ first = omega (arith, long, length-append low (flat tag), flat_long of tag typed) in
          let many : AsMany cs codes = subst (AsMany cs) (sym is) (bodies_many (first + cases_temps cs) cs c) in
          keeps_value of tag typed t at locals _ low m w same long (omega (arith, le))
          (tests_follow image final depth code callers starts p types placed calls every of tag typed at locals same low long left t codes rest cs codes 0 0 (length (concat_code codes)) _ 0 first None w many refl (past_none (concat_code codes ++ rest)) (past_over (concat_code codes) rest (length (concat_code codes)) refl) refl (omega arith) (omega (arith, le))
          (onward_map final P _ (chosen calls of tag cs 0 None locals w)
          (λ o w1 more. subst (λ l. Goes_on t (from_clause_on l rest o) locals (low ++ flat tag) left [] w1) (sym is)
          (clauses_follow first c rest next (low ++ flat tag) left t there again cs runs (cases_temps cs) (first + cases_temps cs) o locals w1 refl (omega (arith, le)) same (inner o w1 more)))
          h))

      -- https://go.dev/ref/spec#Switch_statements
      pub switch_runs : (e : Expr) (cs : Clauses) → ClausesRun cs → Sound (trees.switch_statement e cs)
      switch_runs e cs runs t locals at b c rest brk next low m w same long le ends again h =
          let of : Type' = expr_type e in
          let d : ℕ = expr_temps e in
          let there : ℕ = at + d in
          let within : d ≤ m = omega (arith, le) in
          let enough : cells of + cases_temps cs + bodies_temps cs ≤ m - d = omega (arith, le) in
          let codes = bodies_code p (there + cells of + cases_temps cs) cs c in
          let tests = tests_code p there of (there + cells of) cs (map length codes) 0 in
          let jump = Go_to (Jump (default_place cs (map length codes) 0 (length (concat_code codes)))) in
          let behind : List (Instr ℕ) = store there (cells of) ∷ (tests ++ (jump ∷ (concat_code codes ++ rest))) in
          let shape : expr_code p at e ++ behind ≡ (expr_code p at e ++ store there (cells of) ∷ tests ++ jump ∷ concat_code codes) ++ rest = simp append_assoc in
          follows_as image final depth code callers starts p types t _ _ locals low m [] w shape
          (expr_follows image final depth code callers starts p types placed calls e (every e) t locals at behind low m [] w same long within
          (onward_map final _ _ (eval calls e locals w)
          (λ tag w1 more typed.
          follows_deeper image final depth code callers starts p types t behind locals low m d (flat tag) w1 within (λ high size.
          let place : total types + length (low ++ high) ≡ there = omega (arith, long, size, length-append low high) in
          let room : cells of ≤ m - d = omega (arith, enough) in
          let size_tag : length (flat tag) ≡ cells of = flat_long of tag typed in
          tag_follows e cs runs t locals there c rest brk next (low ++ high) (m - d) w1 same place enough again tag typed _
          (λ o w2 most. onward_map final _ _ (from_clause calls cs o locals w2)
          (λ flow w3 after.
          after_shallower image final depth code callers starts p types t rest rest next (low ++ high) (flat tag) (m - d) (cells of) size_tag room flow w3
          (after_shallower image final depth code callers starts p types t rest rest next low high m d size within flow w3
          (after_switched t rest brk next low m flow w3 after)))
          (onward_then final _ (from_clause calls cs o locals w2) after_switch most))
          (onward_then final _ (chosen calls of tag cs 0 None locals w1) _ more) codes refl))
          (onward_then final _ (eval calls e locals w) _ h)))
