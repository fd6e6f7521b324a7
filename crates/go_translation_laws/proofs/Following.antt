-- What it says that the machine follows statements (Runs says how all of this is built), and what their forms have in common.
use Rattle.std.proofs.Common.{◌≡◌, ℕ, ◌+◌, ◌-◌, ◌≤◌, true, List, [], ◌∷◌, ◌++◌, length, refl, sym, ap, ◌∙◌, subst, arith, length-append, append_assoc}
use Rattle.std.specs.Prelude.{slice_index}
use Rattle.std.specs.List.{flat_map}
use Rattle.go_types.specs.Types.{Type'}
use Rattle.go_code.specs.declared.cell.Cell.{Cell}
use Rattle.go_code.specs.declared.image.Start.{Start}
use Rattle.go_code.specs.declared.instr.Instr.{Instr}
use Rattle.go_code.specs.declared.instr.Instr.TheVariants.{Jump as Go_to}
use Rattle.go_code.specs.declared.instr.JumpInstr.TheVariants.{Jump}
use Rattle.go_code.specs.Finals.{Final}
use Rattle.go_code.specs.Images.{Image}
use Rattle.go_code.specs.Machine.{Frame, Leads, push_cells as given_cells}
use Rattle.go_code.proofs.FollowsInside.{jump_leads}
use Rattle.go_code.proofs.Stands.{Stands, stands_next, stands_as, stands_at, stands_skip}
use Rattle.go_typed.specs.Trees.{Expr, Stmt, Stmts, expr_type}
use Rattle.go_meaning.specs.Values.{Value, flat, is_of}
use Rattle.go_meaning.specs.Meaning.{ProgramState, Outcome, Locals, Flow, Normal, Breaks, Continues, Returns, Calls, eval, exec, exec_all}
use Rattle.go_gen.specs.Translation.{Places, slots, total, expr_temps, expr_code, stmt_temps, stmts_temps, stmt_code, stmts_code}
use Rattle.go_translation_laws.proofs.Frames.{Fits, together, types_of}
use Rattle.go_translation_laws.proofs.Runs.{Onward, onward_map, held, here, Known, On, on_as, Sits}
use Rattle.go_translation_laws.proofs.Exprs.{deeper, shallower, Runs}
use Rattle.go_translation_laws.proofs.RowLemmas.{rows as held_rows}

-- ---- places further on in a code

-- k stands so many instructions into the rest
pub record Past (rest : List (Instr ℕ)) (n : ℕ) (k : List (Instr ℕ)) : Type 0 where
  pub before : List (Instr ℕ)
  pub is : rest ≡ before ++ k
  pub long : length before ≡ n

-- the rest itself
pub past_none : (rest : List (Instr ℕ)) → Past rest 0 rest
past_none rest = record { before = []; is = refl; long = refl }

-- behind some more instructions
pub past_more : (xs rest : List (Instr ℕ)) (n m : ℕ) (k : List (Instr ℕ)) → length xs + n ≡ m → Past rest n k → Past (xs ++ rest) m k
past_more xs rest n m k e past =
    let long : length (xs ++ past.before) ≡ m = omega (arith, length-append xs past.before, past.long, e) in
    record { before = xs ++ past.before; is = ap (λ l. xs ++ l) past.is ∙ sym (append_assoc xs past.before k); long = long }

-- what stands behind them
pub past_over : (xs k : List (Instr ℕ)) (n : ℕ) → length xs ≡ n → Past (xs ++ k) n k
past_over xs k n e = record { before = xs; is = refl; long = e }

pub stands_past : (code rest k : List (Instr ℕ)) (place n : ℕ) → Past rest n k → Stands code place rest → Stands code (place + n) k
stands_past code rest k place n past s =
    stands_at code _ _ k (ap (λ l. place + l) past.long) (stands_skip code past.before place k (stands_as code place rest (past.before ++ k) past.is s))

-- ---- rows of local variables

pub together_long : (rows : List (List Cell)) (locals : Locals) → Fits rows locals → length (together rows) ≡ total (types_of locals)
together_long [] [] f = refl
together_long [] (l ∷ ls) f = absurd f
together_long (row ∷ rows) [] f = absurd f
together_long (row ∷ rows) (l ∷ ls) f =
    let rest = together_long rows ls f.1 in
    omega (arith, length-append row (together rows), rest, f.0.0)

-- ---- where a frame's cells go when it returns

abbrev pub back_in : List Frame → List Cell → List Frame
back_in [] row = []
back_in (caller ∷ callers) row = given_cells caller row ∷ callers

module _ (image : Image) (final : Final) (depth : ℕ) (code : List (Instr ℕ)) (callers : List Frame) (starts : List Start) (p : Places ℕ) (types : List Type') where
  abbrev Onto : ℕ → List (Instr ℕ) → List Cell → ℕ → List Cell → ProgramState → Type 0
  Onto t k front m stack w = On image final depth code callers starts p t k front m stack w

  abbrev KnownIn : ProgramState → Type 0
  KnownIn w = Known image final depth code callers starts p w

  -- the local variables, which have these types, lie where the code looks for them
  abbrev pub Placed : Type 0
  Placed = (n : ℕ) → p.locals n ≡ slice_index (slots 0 types) n

  -- wherever k stands, and whichever cells hold the local variables, the machine comes from there to the end; `low` are the temporaries
  -- of the code around
  abbrev pub Follows : ℕ → List (Instr ℕ) → Locals → List Cell → ℕ → List Cell → ProgramState → Type 0
  Follows t k locals low m stack w = (rows : List (List Cell)) → Fits rows locals → Onto t k (together rows ++ low) m stack w

  -- the machine comes to the end from where the newest frame has given these values back
  abbrev pub Back : ℕ → List Value → ProgramState → Type 0
  Back t vs w = KnownIn w → w.ticks ≤ t → Leads image (record { frames = back_in callers (flat_map flat vs); starts = starts; globals = held w.variables; rows = held_rows w.arrays; ticks = w.ticks; output = w.output }) final

  -- a statement leaves off for what stands behind it, for the end of the loop or switch round it, for the next turn, or for the caller
  abbrev pub After : ℕ → List (Instr ℕ) → List (Instr ℕ) → List (Instr ℕ) → List Cell → ℕ → Flow → ProgramState → Type 0
  After t rest brk next low m (Normal ls) w = types_of ls ≡ types → Follows t rest ls low m [] w
  After t rest brk next low m (Breaks ls) w = types_of ls ≡ types → Follows t brk ls low m [] w
  After t rest brk next low m (Continues ls) w = types_of ls ≡ types → Follows t next ls low m [] w
  After t rest brk next low m (Returns vs) w = Back t vs w

  -- the machine follows a code, which has so many temporaries, as this meaning says
  abbrev pub Carried : ℕ → (ℕ → ℕ → ℕ → List (Instr ℕ)) → (Locals → ProgramState → Outcome Flow) → Type 0
  Carried temps codes meaning =
      (t : ℕ) (locals : Locals) (at b c : ℕ) (rest brk next : List (Instr ℕ)) (low : List Cell) (m : ℕ) (w : ProgramState) →
      types_of locals ≡ types → total types + length low ≡ at → temps ≤ m → Past rest b brk → Past rest c next →
      Onward final (After t rest brk next low m) (meaning locals w) →
      Follows t (codes at b c ++ rest) locals low m [] w

  abbrev pub StmtRuns : Calls → Stmt → Type 0
  StmtRuns calls s = Carried (stmt_temps s) (λ at b c. stmt_code p at s b c) (exec calls s)

  abbrev pub StmtsRun : Calls → Stmts → Type 0
  StmtsRun calls ss = Carried (stmts_temps ss) (λ at b c. stmts_code p at ss b c) (exec_all calls ss)

  -- ---- what is known at a place is known so

  pub follows_as : (t : ℕ) (j k : List (Instr ℕ)) (locals : Locals) (low : List Cell) (m : ℕ) (stack : List Cell) (w : ProgramState) → j ≡ k → Follows t j locals low m stack w → Follows t k locals low m stack w
  follows_as t j k locals low m stack w e on rows fits = on_as image final depth code callers starts p t j k (together rows ++ low) m stack w e (on rows fits)

  pub follows_stack : (t : ℕ) (k : List (Instr ℕ)) (locals : Locals) (low : List Cell) (m : ℕ) (stack other : List Cell) (w : ProgramState) → stack ≡ other → Follows t k locals low m stack w → Follows t k locals low m other w
  follows_stack t k locals low m stack other w e on = subst (λ s. Follows t k locals low m s w) e on

  pub follows_low : (t : ℕ) (k : List (Instr ℕ)) (locals : Locals) (low other : List Cell) (m : ℕ) (stack : List Cell) (w : ProgramState) → low ≡ other → Follows t k locals low m stack w → Follows t k locals other m stack w
  follows_low t k locals low other m stack w e on = subst (λ l. Follows t k locals l m stack w) e on

  -- with fewer ticks too
  pub on_fewer : (t u : ℕ) (k : List (Instr ℕ)) (front : List Cell) (m : ℕ) (stack : List Cell) (w : ProgramState) → u ≤ t → Onto t k front m stack w → Onto u k front m stack w
  on_fewer t u k front m stack w le on known few place high long s = on known (omega (arith, le, few)) place high long s

  pub after_fewer : (t u : ℕ) (rest brk next : List (Instr ℕ)) (low : List Cell) (m : ℕ) → u ≤ t → (flow : Flow) (w : ProgramState) → After t rest brk next low m flow w → After u rest brk next low m flow w
  after_fewer t u rest brk next low m le (Normal ls) w h = λ same rows fits. on_fewer t u rest (together rows ++ low) m [] w le (h same rows fits)
  after_fewer t u rest brk next low m le (Breaks ls) w h = λ same rows fits. on_fewer t u brk (together rows ++ low) m [] w le (h same rows fits)
  after_fewer t u rest brk next low m le (Continues ls) w h = λ same rows fits. on_fewer t u next (together rows ++ low) m [] w le (h same rows fits)
  after_fewer t u rest brk next low m le (Returns vs) w h = λ known few. h known (omega (arith, le, few))

  -- ---- some temporaries more in front

  pub follows_deeper : (t : ℕ) (k : List (Instr ℕ)) (locals : Locals) (low : List Cell) (m d : ℕ) (stack : List Cell) (w : ProgramState) → d ≤ m → ((more : List Cell) → length more ≡ d → Follows t k locals (low ++ more) (m - d) stack w) → Follows t k locals low m stack w
  follows_deeper t k locals low m d stack w le on rows fits =
      deeper image final depth code callers starts p t k (together rows ++ low) m d stack w le (λ more size.
      subst (λ l. Onto t k l (m - d) stack w) (sym (append_assoc (together rows) low more)) (on more size rows fits))

  pub follows_shallower : (t : ℕ) (k : List (Instr ℕ)) (locals : Locals) (low more : List Cell) (m d : ℕ) (stack : List Cell) (w : ProgramState) → length more ≡ d → d ≤ m → Follows t k locals low m stack w → Follows t k locals (low ++ more) (m - d) stack w
  follows_shallower t k locals low more m d stack w size le on rows fits =
      subst (λ l. Onto t k l (m - d) stack w) (append_assoc (together rows) low more)
      (shallower image final depth code callers starts p t k (together rows ++ low) more m d stack w size le (on rows fits))

  pub after_shallower : (t : ℕ) (rest brk next : List (Instr ℕ)) (low more : List Cell) (m d : ℕ) → length more ≡ d → d ≤ m → (flow : Flow) (w : ProgramState) → After t rest brk next low m flow w → After t rest brk next (low ++ more) (m - d) flow w
  after_shallower t rest brk next low more m d size le (Normal ls) w h = λ same. follows_shallower t rest ls low more m d [] w size le (h same)
  after_shallower t rest brk next low more m d size le (Breaks ls) w h = λ same. follows_shallower t brk ls low more m d [] w size le (h same)
  after_shallower t rest brk next low more m d size le (Continues ls) w h = λ same. follows_shallower t next ls low more m d [] w size le (h same)
  after_shallower t rest brk next low more m d size le (Returns vs) w h = h

  -- a code behind d temporaries of others
  pub carried_deeper : (temps : ℕ) (codes : ℕ → ℕ → ℕ → List (Instr ℕ)) (meaning : Locals → ProgramState → Outcome Flow) → Carried temps codes meaning → (d t : ℕ) (locals : Locals) (at k b c : ℕ) (rest brk next : List (Instr ℕ)) (low : List Cell) (m : ℕ) (w : ProgramState) → at + d ≡ k → types_of locals ≡ types → total types + length low ≡ at → d + temps ≤ m → Past rest b brk → Past rest c next → Onward final (After t rest brk next low m) (meaning locals w) → Follows t (codes k b c ++ rest) locals low m [] w
  carried_deeper temps codes meaning runs d t locals at k b c rest brk next low m w behind same long le ends turns h =
      let within : d ≤ m = omega (arith, le) in
      follows_deeper t (codes k b c ++ rest) locals low m d [] w within (λ more size.
      let there : total types + length (low ++ more) ≡ k = omega (arith, long, size, behind, length-append low more) in
      let left : temps ≤ m - d = omega (arith, le) in
      runs t locals k b c rest brk next (low ++ more) (m - d) w same there left ends turns
      (onward_map final _ _ (meaning locals w) (after_shallower t rest brk next low more m d size within) h))

  -- ---- expressions in statements

  pub row_long : (rows : List (List Cell)) (locals : Locals) (low : List Cell) (at : ℕ) → Fits rows locals → types_of locals ≡ types → total types + length low ≡ at → length (together rows ++ low) ≡ at
  row_long rows locals low at fits same long =
      let whole : length (together rows) ≡ total types = together_long rows locals fits ∙ ap total same in
      omega (arith, whole, long, length-append (together rows) low)

  pub sits_in : (rows : List (List Cell)) (locals : Locals) (low : List Cell) → Placed → Fits rows locals → types_of locals ≡ types → Sits image final depth code callers starts p locals (together rows ++ low)
  sits_in rows locals low placed fits same =
      record { rows = rows; low = low; is = refl; fits = fits; placed = λ n. placed n ∙ ap (λ ts. slice_index (slots 0 ts) n) (sym same) }

  pub expr_follows : Placed → (calls : Calls) (e : Expr) → Runs image final depth code callers starts p calls e → (t : ℕ) (locals : Locals) (at : ℕ) (k : List (Instr ℕ)) (low : List Cell) (m : ℕ) (stack : List Cell) (w : ProgramState) → types_of locals ≡ types → total types + length low ≡ at → expr_temps e ≤ m → Onward final (λ v w1. is_of (expr_type e) v ≡ true → Follows t k locals low m (stack ++ flat v) w1) (eval calls e locals w) → Follows t (expr_code p at e ++ k) locals low m stack w
  expr_follows placed calls e runs t locals at k low m stack w same long le h rows fits =
      runs t locals at k (together rows ++ low) m stack w (row_long rows locals low at fits same long) le (sits_in rows locals low placed fits same)
      (onward_map final _ _ (eval calls e locals w) (λ v w1 more typed. more typed rows fits) h)

  -- ---- jumps

  pub jumps : (t n : ℕ) (k target : List (Instr ℕ)) (front : List Cell) (m : ℕ) (stack : List Cell) (w : ProgramState) → Past k n target → Onto t target front m stack w → Onto t (Go_to (Jump n) ∷ k) front m stack w
  jumps t n k target front m stack w past on known few place high long s =
      let s1 = stands_past code k target (place + 1) n past (stands_next code place _ k s) in
      jump_leads image (here image final depth code callers starts p place (front ++ high) stack w) _ callers n final (record { frames = refl; rest = k; stands = s }) s1.within
      (on known few (place + 1 + n) high long s1)
