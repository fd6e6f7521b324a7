-- The machine follows statements that choose what is done next: sequences, blocks, if, break and continue, and panics.
use Rattle.std.proofs.Common.{◌≡◌, ℕ, ◌+◌, true, false, List, [], ◌∷◌, ◌++◌, length, refl, sym, subst, arith, append_assoc}
use Rattle.go_types.specs.Types.{Type'}
use Rattle.go_code.specs.declared.cell.Cell.{Cell}
use Rattle.go_code.specs.declared.cell.Cell.TheVariants.{Int, Bool as Truth, Text, Slice}
use Rattle.go_code.specs.declared.image.Start.{Start}
use Rattle.go_code.specs.declared.instr.Instr.{Instr}
use Rattle.go_code.specs.declared.instr.Instr.TheVariants.{Jump as Go_to, Output as To_output}
use Rattle.go_code.specs.declared.instr.JumpInstr.TheVariants.{Jump, JumpIfNot}
use Rattle.go_code.specs.declared.instr.OutputInstr.TheVariants.{Panic}
use Rattle.go_code.specs.Finals.{Final}
use Rattle.go_code.specs.Images.{Image}
use Rattle.go_code.specs.Machine.{Frame, Leads}
use Rattle.go_code.proofs.FollowsInside.{jump_if_not_leads, jump_if_not_stays, panic_leads}
use Rattle.go_code.proofs.Stands.{stands_next}
use Rattle.go_typed.specs.Trees as trees
use Rattle.go_typed.specs.Trees.{Expr, Stmt, Stmts, no_stmts, some_stmts}
use Rattle.go_meaning.specs.Values.{Value, single, parts, flat}
use Rattle.go_meaning.specs.Meaning.{ProgramState, Outcome, Locals, Flow, Normal, Breaks, Continues, Returns, Calls, if_true, if_normal, panicked, eval, exec, exec_all}
use Rattle.go_gen.specs.Translation.{Places, expr_temps, expr_code, stmt_temps, stmts_temps, stmt_code, stmts_code}
use Rattle.go_translation_laws.proofs.Frames.{together, types_of}
use Rattle.go_translation_laws.proofs.Runs.{Onward, onward_then, onward_map, here, On}
use Rattle.go_translation_laws.proofs.Exprs.{Runs}
use Rattle.go_translation_laws.proofs.Following.{Past, past_more, past_over, stands_past, Placed, Follows, After, StmtRuns, StmtsRun, follows_as, carried_deeper, expr_follows, jumps}

module _ (image : Image) (final : Final) (depth : ℕ) (code : List (Instr ℕ)) (callers : List Frame) (starts : List Start) (p : Places ℕ) (types : List Type') where
  abbrev Onto : ℕ → List (Instr ℕ) → List Cell → ℕ → List Cell → ProgramState → Type 0
  Onto t k front m stack w = On image final depth code callers starts p t k front m stack w

  abbrev Goes_on : ℕ → List (Instr ℕ) → Locals → List Cell → ℕ → List Cell → ProgramState → Type 0
  Goes_on t k locals low m stack w = Follows image final depth code callers starts p types t k locals low m stack w

  abbrev Then : ℕ → List (Instr ℕ) → List (Instr ℕ) → List (Instr ℕ) → List Cell → ℕ → Flow → ProgramState → Type 0
  Then t rest brk next low m flow w = After image final depth code callers starts p types t rest brk next low m flow w

  -- ---- what is done behind a statement that leaves off for the next one

  pub after_rest : (t : ℕ) (rest other brk next : List (Instr ℕ)) (low : List Cell) (m : ℕ) → ((ls : Locals) (w : ProgramState) → Goes_on t rest ls low m [] w → Goes_on t other ls low m [] w) → (flow : Flow) (w : ProgramState) → Then t rest brk next low m flow w → Then t other brk next low m flow w
  after_rest t rest other brk next low m f (Normal ls) w h = λ same. f ls w (h same)
  after_rest t rest other brk next low m f (Breaks ls) w h = h
  after_rest t rest other brk next low m f (Continues ls) w h = h
  after_rest t rest other brk next low m f (Returns vs) w h = h

  pub after_normal : (t : ℕ) (rest other brk next : List (Instr ℕ)) (low : List Cell) (m : ℕ) (meaning : Locals → ProgramState → Outcome Flow) → ((ls : Locals) (w : ProgramState) → types_of ls ≡ types → Onward final (Then t rest brk next low m) (meaning ls w) → Goes_on t other ls low m [] w) → (flow : Flow) (w : ProgramState) → Onward final (Then t rest brk next low m) (if_normal meaning flow w) → Then t other brk next low m flow w
  after_normal t rest other brk next low m meaning f (Normal ls) w h = λ same. f ls w same h
  after_normal t rest other brk next low m meaning f (Breaks ls) w h = h
  after_normal t rest other brk next low m meaning f (Continues ls) w h = h
  after_normal t rest other brk next low m meaning f (Returns vs) w h = h

  -- ---- a truth value decides

  pub branches : {A : Type 0} (P : A → ProgramState → Type 0) (chosen other : Outcome A) (t n : ℕ) (k target : List (Instr ℕ)) (front : List Cell) (m : ℕ) (stack : List Cell) (w : ProgramState) (v : Value) → Past k n target → (Onward final P chosen → Onto t k front m stack w) → (Onward final P other → Onto t target front m stack w) → Onward final P (if_true v chosen other) → Onto t (Go_to (JumpIfNot n) ∷ k) front m (stack ++ flat v) w
  branches {A} P chosen other t n k target front m stack w (single (Truth true)) past first second h = λ known few place high long s.
      jump_if_not_stays image (here image final depth code callers starts p place (front ++ high) (stack ++ Truth true ∷ []) w) _ callers n stack final (record { frames = refl; rest = k; stands = s }) refl
      (first h known few (place + 1) high long (stands_next code place _ k s))
  branches {A} P chosen other t n k target front m stack w (single (Truth false)) past first second h = λ known few place high long s.
      let s1 = stands_past code k target (place + 1) n past (stands_next code place _ k s) in
      jump_if_not_leads image (here image final depth code callers starts p place (front ++ high) (stack ++ Truth false ∷ []) w) _ callers n stack final (record { frames = refl; rest = k; stands = s }) refl s1.within
      (second h known few (place + 1 + n) high long s1)
  branches {A} P chosen other t n k target front m stack w (single (Int z)) past first second h = absurd h
  branches {A} P chosen other t n k target front m stack w (single (Slice r1 r2 r3 r4)) past first second h = absurd h
  branches {A} P chosen other t n k target front m stack w (single (Text s)) past first second h = absurd h
  branches {A} P chosen other t n k target front m stack w (parts vs) past first second h = absurd h

  -- ---- the forms

  module _ (placed : Placed image final depth code callers starts p types) (calls : Calls) where
    abbrev Sound : Stmt → Type 0
    Sound s = StmtRuns image final depth code callers starts p types calls s

    abbrev AllSound : Stmts → Type 0
    AllSound ss = StmtsRun image final depth code callers starts p types calls ss

    pub break_runs : Sound trees.break
    break_runs t locals at b c rest brk next low m w same long le ends turns h rows fits =
        jumps image final depth code callers starts p types t b rest brk (together rows ++ low) m [] w ends (h same rows fits)

    pub continue_runs : Sound trees.continue
    continue_runs t locals at b c rest brk next low m w same long le ends turns h rows fits =
        jumps image final depth code callers starts p types t c rest next (together rows ++ low) m [] w turns (h same rows fits)

    pub block_runs : (ss : Stmts) → AllSound ss → Sound (trees.block ss)
    block_runs ss runs t locals at b c rest brk next low m w same long le ends turns h =
        runs t locals at b c rest brk next low m w same long le ends turns h

    pub no_stmts_run : AllSound no_stmts
    no_stmts_run t locals at b c rest brk next low m w same long le ends turns h = h same

    pub some_stmts_run : (s : Stmt) (ss : Stmts) → Sound s → AllSound ss → AllSound (some_stmts s ss)
    some_stmts_run s ss first others t locals at b c rest brk next low m w same long le ends turns h =
        let behind = stmts_code p (at + stmt_temps s) ss b c in
        follows_as image final depth code callers starts p types t (stmt_code p at s (length behind + b) (length behind + c) ++ (behind ++ rest)) _ locals low m [] w (sym (append_assoc (stmt_code p at s (length behind + b) (length behind + c)) behind rest))
        (first t locals at (length behind + b) (length behind + c) (behind ++ rest) brk next low m w same long (omega (arith, le)) (past_more behind rest b _ brk refl ends) (past_more behind rest c _ next refl turns)
        (onward_map final _ _ (exec calls s locals w)
        (after_normal t rest (behind ++ rest) brk next low m (exec_all calls ss) (λ ls w1 same1 more.
        carried_deeper image final depth code callers starts p types (stmts_temps ss) (λ k b1 c1. stmts_code p k ss b1 c1) (exec_all calls ss) others (stmt_temps s) t ls at (at + stmt_temps s) b c rest brk next low m w1 refl same1 long le ends turns more))
        (onward_then final _ (exec calls s locals w) _ h)))

    -- https://go.dev/ref/spec#If_statements
    pub if_runs : (e : Expr) (one two : Stmts) → Runs image final depth code callers starts p calls e → AllSound one → AllSound two → Sound (trees.if_statement e one two)
    if_runs e one two test first second t locals at b c rest brk next low m w same long le ends turns h =
        let d : ℕ = expr_temps e in
        let other = stmts_code p (at + d + stmts_temps one) two b c in
        let n : ℕ = length other + 1 in
        let chosen = stmts_code p (at + d) one (n + b) (n + c) in
        let over = Go_to (Jump (length other)) ∷ other in
        let behind = chosen ++ (Go_to (Jump (length other)) ∷ (other ++ rest)) in
        let shape : expr_code p at e ++ (Go_to (JumpIfNot (length chosen + 1)) ∷ behind) ≡ (expr_code p at e ++ Go_to (JumpIfNot (length chosen + 1)) ∷ chosen ++ Go_to (Jump (length other)) ∷ other) ++ rest = simp append_assoc in
        let passed : Past behind (length chosen + 1) (other ++ rest) = past_more chosen (Go_to (Jump (length other)) ∷ (other ++ rest)) 1 (length chosen + 1) (other ++ rest) refl (past_over (Go_to (Jump (length other)) ∷ []) (other ++ rest) 1 refl) in
        follows_as image final depth code callers starts p types t (expr_code p at e ++ (Go_to (JumpIfNot (length chosen + 1)) ∷ behind)) _ locals low m [] w shape
        (expr_follows image final depth code callers starts p types placed calls e test t locals at (Go_to (JumpIfNot (length chosen + 1)) ∷ behind) low m [] w same long (omega (arith, le))
        (onward_map final _ _ (eval calls e locals w)
        (λ v w1 more typed rows fits.
        branches (Then t rest brk next low m) (exec_all calls one locals w1) (exec_all calls two locals w1) t (length chosen + 1) behind (other ++ rest) (together rows ++ low) m [] w1 v passed
        (λ most.
        carried_deeper image final depth code callers starts p types (stmts_temps one) (λ k b1 c1. stmts_code p k one b1 c1) (exec_all calls one) first d t locals at (at + d) (n + b) (n + c) (over ++ rest) brk next low m w1 refl same long (omega (arith, le))
        (past_more over rest b (n + b) brk (omega arith) ends) (past_more over rest c (n + c) next (omega arith) turns)
        (onward_map final _ _ (exec_all calls one locals w1)
        (after_rest t rest (over ++ rest) brk next low m (λ ls w2 on rows1 fits1.
        jumps image final depth code callers starts p types t (length other) (other ++ rest) rest (together rows1 ++ low) m [] w2 (past_over other rest (length other) refl) (on rows1 fits1)))
        most) rows fits)
        (λ most.
        carried_deeper image final depth code callers starts p types (stmts_temps two) (λ k b1 c1. stmts_code p k two b1 c1) (exec_all calls two) second (d + stmts_temps one) t locals at (at + d + stmts_temps one) b c rest brk next low m w1 (omega arith) same long (omega (arith, le)) ends turns most rows fits)
        more)
        (onward_then final _ (eval calls e locals w) _ h)))

    -- https://go.dev/ref/spec#Handling_panics
    panics : (v : Value) (t : ℕ) (rest brk next k : List (Instr ℕ)) (locals : Locals) (low : List Cell) (m : ℕ) (w : ProgramState) → Onward final (Then t rest brk next low m) (panicked v w) → Goes_on t (To_output Panic ∷ k) locals low m (flat v) w
    panics (single (Text text)) t rest brk next k locals low m w h = λ rows fits known few place high long s.
        subst (Leads image (here image final depth code callers starts p place ((together rows ++ low) ++ high) (Text text ∷ []) w)) (sym h)
        (panic_leads image (here image final depth code callers starts p place ((together rows ++ low) ++ high) (Text text ∷ []) w) _ callers [] text (record { frames = refl; rest = k; stands = s }) refl)
    panics (single (Int z)) t rest brk next k locals low m w h = absurd h
    panics (single (Slice r1 r2 r3 r4)) t rest brk next k locals low m w h = absurd h
    panics (single (Truth b)) t rest brk next k locals low m w h = absurd h
    panics (parts vs) t rest brk next k locals low m w h = absurd h

    pub panic_runs : (e : Expr) → Runs image final depth code callers starts p calls e → Sound (trees.panic e)
    panic_runs e runs t locals at b c rest brk next low m w same long le ends turns h =
        follows_as image final depth code callers starts p types t (expr_code p at e ++ (To_output Panic ∷ rest)) _ locals low m [] w (sym (append_assoc (expr_code p at e) (To_output Panic ∷ []) rest))
        (expr_follows image final depth code callers starts p types placed calls e runs t locals at (To_output Panic ∷ rest) low m [] w same long le
        (onward_map final _ _ (eval calls e locals w) (λ v w1 more typed. panics v t rest brk next rest locals low m w1 more) (onward_then final _ (eval calls e locals w) _ h)))
