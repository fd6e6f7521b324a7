-- So does the code of well typed statements and functions.
use Rattle.std.proofs.Common.{ℕ, ◌+◌, Bool, true, false, List, [], ◌∷◌, ◌++◌, length, map, Option, Some, None, refl}
use Rattle.std.specs.Prelude.{slice_index, sum}
use Rattle.go_const.specs.declared.operator.ArithmeticOperator.TheVariants.{Add}
use Rattle.go_const.specs.declared.operator.ComparisonOperator.TheVariants.{Equal as Is_equal}
use Rattle.go_types.specs.Types.{Type'}
use Rattle.go_types.specs.Relations.{underlying}
use Rattle.go_types.specs.Sizes.{cells}
use Rattle.go_code.specs.declared.instr.Instr.{Instr}
use Rattle.go_code.specs.declared.instr.Instr.TheVariants.{Output as To_output}
use Rattle.go_code.specs.declared.instr.AccessInstr.TheVariants.{Store}
use Rattle.go_code.specs.declared.instr.OutputInstr.TheVariants.{Print}
use Rattle.go_symbol.specs.Symbols as symbols
use Rattle.go_typed.specs.declared.expression.Operator.TheVariants.{Arithmetic as arithmetic, Comparison as comparison}
use Rattle.go_typed.specs.Trees as trees
use Rattle.go_typed.specs.Trees.{Symbol, Expr, Exprs, no_exprs, some_exprs, Stmt, Stmts, no_stmts, some_stmts, Clauses, no_clauses, clause, results, expr_type, Initialization, Package}
use Rattle.go_meaning.specs.Choices.{binary_operators}
use Rattle.go_meaning.specs.Programs.{sets}
use Rattle.go_gen.specs.Translation.{Places, total, slots, expr_temps, source_counts, source_temps, left_temps, lefts_temps, operators_code, load, store, expr_code, source_code, lefts_operands, keeps_code, keep_code, left_operands, take_code, give_code, exprs_code, expr_counts, case_temps, cases_temps, condition_code, stmt_temps, stmts_temps, if_code, loop_code, begin_code, counted_code, count_code, within_code, cases_code, concat_code, tests_code, leave_code, stmt_code, stmts_code, bodies_code, local_types, translated, sets_code, no_locals, translated_setup}
use Rattle.go_meaning_laws.specs.WellTyped.{Setting, package_setting, source_types, AreGiven, IsWellTypedStart, AreWellTypedExprs, IsConditionOrNone, IsStmt, AreStmts, AreClauses, declared_after, first, inside_loop, inside_clause, in_post, known_numbers, setting, IsWellTypedFunction}
use Rattle.go_translation_laws.proofs.Named.{Present, Named, Callable, both_named, then_named, operators_named, expr_named, exprs_named, source_named, left_named, lefts_named, take_named, give_named, keep_named, keeps_named, gives_named, defines_named, global_named}

module _ (all : Present) where
  abbrev Code : Type 0
  Code = List (Instr symbols.Symbol)

  -- ---- jumps round codes

  if_named : (test a b : Code) → Named all test → Named all a → Named all b → Named all (if_code test a b)
  if_named test a b e d c =
      both_named all (test ++ _ ∷ a) (_ ∷ b) (both_named all test (_ ∷ a) e d) c

  loop_named : (body post test : Code) → Named all body → Named all post → Named all test → Named all (loop_code body post test)
  loop_named body post test e d c = both_named all (body ++ post ++ test) _ (both_named all (body ++ post) test (both_named all body post e d) c) refl

  leave_named : (falls : Bool) (n : ℕ) → Named all (leave_code falls n)
  leave_named true n = refl
  leave_named false n = refl

  count_named : (at : ℕ) (t : Type') → Named all (count_code at t)
  count_named at t =
      let ops = binary_operators (underlying t) (arithmetic Add) in
      both_named all (operators_code ops) _ (operators_named all ops) refl

  module _ (p : Places symbols.Symbol) where
    counted_named : (at : ℕ) (o : Option ℕ) → Named all (counted_code p at o)
    counted_named at None = refl
    counted_named at (Some n) = refl

    condition_named : (g : Setting) (d : List ℕ) → Callable all p.globals p.functions g → (k : ℕ) (o : Option Expr) → IsConditionOrNone g d o → Named all (condition_code p k o)
    condition_named g d there k None h = refl
    condition_named g d there k (Some e) h = expr_named all p g d there k e h.0

    -- ---- tests of a switch

    cases_named : (g : Setting) (d : List ℕ) → Callable all p.globals p.functions g → (at : ℕ) (t : Type') (k : ℕ) (es : Exprs) (far : ℕ) → AreWellTypedExprs g d es → Named all (cases_code p at t k es far)
    cases_named g d there at t k no_exprs far h = refl
    cases_named g d there at t k (some_exprs e es) far h =
        let ops = binary_operators (underlying t) (comparison Is_equal) in
        let rest : Code = cases_code p at t (k + expr_temps e) es far in
        both_named all (load at (cells t) ∷ expr_code p k e ++ operators_code ops) (_ ∷ rest)
        (both_named all (load at (cells t) ∷ expr_code p k e) (operators_code ops) (expr_named all p g d there k e h.0) (operators_named all ops))
        (cases_named g d there at t (k + expr_temps e) es far h.1)

    tests_named : (g : Setting) (d : List ℕ) → Callable all p.globals p.functions g → (at : ℕ) (t u : Type') (k : ℕ) (cs : Clauses) (sizes : List ℕ) (before : ℕ) → AreClauses g d u cs → Named all (tests_code p at t k cs sizes before)
    tests_named g d there at t u k no_clauses sizes before h = refl
    tests_named g d there at t u k (clause None body falls cs) [] before h = refl
    tests_named g d there at t u k (clause (Some es) body falls cs) [] before h = refl
    tests_named g d there at t u k (clause None body falls cs) (n ∷ sizes) before h =
        tests_named g d there at t u (k + case_temps None) cs sizes (before + n) h.2
    tests_named g d there at t u k (clause (Some es) body falls cs) (n ∷ sizes) before h =
        let rest : Code = tests_code p at t (k + case_temps (Some es)) cs sizes (before + n) in
        both_named all (cases_code p at t k es (length rest + 1 + before)) rest
        (cases_named g d there at t k es (length rest + 1 + before) h.0)
        (tests_named g d there at t u (k + case_temps (Some es)) cs sizes (before + n) h.4)

    -- ---- statements

    mutual
      stmt_named : (g : Setting) (d : List ℕ) → Callable all p.globals p.functions g → (k : ℕ) (s : Stmt) (b c : ℕ) → IsStmt g d s → Named all (stmt_code p k s b c)
      stmt_named g d there k (trees.define ns s) b c h = both_named all (source_code p k s) _ (source_named all p g d there k s h.0) (defines_named all p ns (source_counts s))
      stmt_named g d there k (trees.assign ls s) b c h =
          let values : ℕ = k + lefts_temps ls in
          let temps : ℕ = values + source_temps s in
          both_named all (lefts_operands p k ls ++ source_code p values s ++ keeps_code ls (source_counts s) temps) _
          (both_named all (lefts_operands p k ls ++ source_code p values s) _
          (both_named all (lefts_operands p k ls) _ (lefts_named all p g d there k ls _ h.0) (source_named all p g d there values s h.1))
          (keeps_named all p ls (source_counts s) temps))
          (gives_named all p g d there k ls (source_counts s) temps _ h.0)
      stmt_named g d there k (trees.update t l op e) b c h =
          let value : ℕ = k + left_temps l in
          let temp : ℕ = value + expr_temps e in
          let ops = binary_operators (underlying t) op in
          both_named all (left_operands p k l ++ take_code p k l (cells t) ++ expr_code p value e ++ operators_code ops) _
          (both_named all (left_operands p k l ++ take_code p k l (cells t) ++ expr_code p value e) _
          (both_named all (left_operands p k l ++ take_code p k l (cells t)) _
          (both_named all (left_operands p k l) _ (left_named all p g d there k l t h.0) (take_named all p g d there k l (cells t) t h.0))
          (expr_named all p g d there value e h.1))
          (operators_named all ops))
          (then_named all (keep_code l (cells t) temp) (give_code p k l temp (cells t)) (keep_named all p l (cells t) temp) (give_named all p g d there k l temp (cells t) t h.0))
      stmt_named g d there k (trees.run ts s es) b c h = both_named all (source_code p k (results ts s es)) _ (source_named all p g d there k (results ts s es) h) refl
      stmt_named g d there k (trees.print es) b c h = both_named all (exprs_code p k es) (To_output (Print (sum (expr_counts es))) ∷ []) (exprs_named all p g d there k es h) refl
      stmt_named g d there k (trees.panic e) b c h = both_named all (expr_code p k e) _ (expr_named all p g d there k e h.0) refl
      stmt_named g d there k (trees.if_statement e one two) b c h =
          let first : ℕ = k + expr_temps e in
          let other : Code = stmts_code p (first + stmts_temps one) two b c in
          if_named (expr_code p k e) (stmts_code p first one (length other + 1 + b) (length other + 1 + c)) other
          (expr_named all p g d there k e h.0.0)
          (stmts_named g d there first one (length other + 1 + b) (length other + 1 + c) h.1)
          (stmts_named g d there (first + stmts_temps one) two b c h.2)
      stmt_named g d there k (trees.for_statement o post body) b c h =
          let behind : ℕ = k + stmts_temps body in
          let test : Code = condition_code p (behind + stmts_temps post) o in
          let next : Code = stmts_code p behind post (length test + 1 + b) (length test + 1 + c) in
          loop_named (stmts_code p k body (length next + length test + 1) 0) next test
          (stmts_named (inside_loop g) d there k body (length next + length test + 1) 0 h.2)
          (stmts_named (in_post g) d there behind post (length test + 1 + b) (length test + 1 + c) h.1)
          (condition_named g d there (behind + stmts_temps post) o h.0)
      stmt_named g d there k (trees.range_statement o t e body) b c h =
          let at : ℕ = k + expr_temps e in
          let next : Code = count_code at t in
          let test : Code = within_code at in
          let inner : Code = stmts_code p (at + 2) body (length next + length test + 1) 0 in
          both_named all (expr_code p k e ++ begin_code at) (loop_code (counted_code p at o ++ inner) next test)
          (both_named all (expr_code p k e) _ (expr_named all p g d there k e h.0) refl)
          (loop_named (counted_code p at o ++ inner) next test
          (both_named all (counted_code p at o) inner (counted_named at o)
          (stmts_named (inside_loop g) (known_numbers (o ∷ []) ++ d) there (at + 2) body (length next + length test + 1) 0 h.4))
          (count_named at t) refl)
      stmt_named g d there k (trees.switch_statement e cs) b c h =
          let at : ℕ = k + expr_temps e in
          let first : ℕ = at + cells (expr_type e) in
          let bodies : ℕ = first + cases_temps cs in
          let codes : List Code = bodies_code p bodies cs c in
          let tests : Code = tests_code p at (expr_type e) first cs (map length codes) 0 in
          both_named all (expr_code p k e ++ store at (cells (expr_type e)) ∷ tests) (_ ∷ concat_code codes)
          (both_named all (expr_code p k e) (store at (cells (expr_type e)) ∷ tests) (expr_named all p g d there k e h.0)
          (tests_named g d there at (expr_type e) (expr_type e) first cs (map length codes) 0 h.1))
          (bodies_named g d there bodies (expr_type e) cs c h.1)
      stmt_named g d there k (trees.block ss) b c h = stmts_named g d there k ss b c h
      stmt_named g d there k trees.break b c h = refl
      stmt_named g d there k trees.continue b c h = refl
      stmt_named g d there k (trees.return s) b c h = both_named all (source_code p k s) _ (source_named all p g d there k s h.0) refl

      stmts_named : (g : Setting) (d : List ℕ) → Callable all p.globals p.functions g → (k : ℕ) (ss : Stmts) (b c : ℕ) → AreStmts g d ss → Named all (stmts_code p k ss b c)
      stmts_named g d there k no_stmts b c h = refl
      stmts_named g d there k (some_stmts s ss) b c h =
          let rest : Code = stmts_code p (k + stmt_temps s) ss b c in
          both_named all (stmt_code p k s (length rest + b) (length rest + c)) rest
          (stmt_named g d there k s (length rest + b) (length rest + c) h.0)
          (stmts_named g (declared_after d s) there (k + stmt_temps s) ss b c h.1)

      -- the codes of clauses, side by side
      bodies_named : (g : Setting) (d : List ℕ) → Callable all p.globals p.functions g → (k : ℕ) (t : Type') (cs : Clauses) (c : ℕ) → AreClauses g d t cs → Named all (concat_code (bodies_code p k cs c))
      bodies_named g d there k t no_clauses c h = refl
      bodies_named g d there k t (clause None body falls cs) c h =
          let rest : List Code = bodies_code p (k + stmts_temps body) cs c in
          let n : ℕ = length (concat_code rest) in
          let leave : Code = leave_code falls n in
          let inner : Code = stmts_code p k body (length leave + n) (length leave + n + c) in
          both_named all (inner ++ leave) (concat_code rest)
          (both_named all inner leave (stmts_named (inside_clause g) d there k body (length leave + n) (length leave + n + c) h.0) (leave_named falls n))
          (bodies_named g d there (k + stmts_temps body) t cs c h.2)
      bodies_named g d there k t (clause (Some es) body falls cs) c h =
          let rest : List Code = bodies_code p (k + stmts_temps body) cs c in
          let n : ℕ = length (concat_code rest) in
          let leave : Code = leave_code falls n in
          let inner : Code = stmts_code p k body (length leave + n) (length leave + n + c) in
          both_named all (inner ++ leave) (concat_code rest)
          (both_named all inner leave (stmts_named (inside_clause g) d there k body (length leave + n) (length leave + n + c) h.2) (leave_named falls n))
          (bodies_named g d there (k + stmts_temps body) t cs c h.4)

  -- ---- functions

  -- the code of a function that is well typed in a program whose functions and variables are these
  pub function_calls_named : (packages : List Package) (globals functions : Symbol → symbols.Symbol) (f : trees.Function) → Callable all globals functions (setting packages f) → IsWellTypedFunction packages f → Named all (translated globals functions f).code
  function_calls_named packages globals functions f there h =
      let size : ℕ = total (local_types f) in
      let p : Places symbols.Symbol = record { locals = slice_index (slots 0 (local_types f)); globals = globals; functions = functions } in
      both_named all (stmts_code p size f.body 0 0) _ (stmts_named p (setting packages f) (first (length f.parameters)) there size f.body 0 0 h.body) refl

  -- ---- setups

  sets_named : (p : Places symbols.Symbol) (g : Setting) → Callable all p.globals p.functions g → (path : List ℕ) (os : List (Option (List ℕ))) (counts : List ℕ) (ts : List Type') → AreGiven (λ x. g.variables (record { path = path; name = x })) os ts → Named all (sets_code p path os counts)
  sets_named p g there path [] counts ts h = refl
  sets_named p g there path (o ∷ os) [] ts h = refl
  sets_named p g there path (o ∷ os) (n ∷ counts) [] h = absurd h
  sets_named p g there path (None ∷ os) (n ∷ counts) (t ∷ ts) h = both_named all (sets_code p path os counts) _ (sets_named p g there path os counts ts h) refl
  sets_named p g there path (Some x ∷ os) (n ∷ counts) (t ∷ ts) h =
      let s : Symbol = record { path = path; name = x } in
      let given = h.0 in
      both_named all (sets_code p path os counts) _ (sets_named p g there path os counts ts h.1) (global_named all (Store (p.globals s) n) (there.1 s given.0 given.1))

  -- the code that gives package variables values of their types
  pub setup_named : (packages : List Package) (globals functions : Symbol → symbols.Symbol) (path : List ℕ) (i : Initialization) → Callable all globals functions (package_setting packages) → IsWellTypedStart packages (sets path i) → Named all (translated_setup globals functions path i).code
  setup_named packages globals functions path i there h =
      let p : Places symbols.Symbol = no_locals globals functions in
      both_named all (source_code p 0 i.source) _ (source_named all p (package_setting packages) [] there 0 i.source h.0)
      (both_named all (sets_code p path i.variables (source_counts i.source)) _ (sets_named p (package_setting packages) there path i.variables (source_counts i.source) (source_types i.source) h.1) refl)
