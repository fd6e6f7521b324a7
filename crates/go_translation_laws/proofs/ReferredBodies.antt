-- Nor does the code of statements and functions depend on what functions and package variables are referred to by: jumps count instructions alone.
use Rattle.std.proofs.Common.{◌≡◌, ℕ, ◌+◌, Bool, true, false, List, [], ◌∷◌, ◌++◌, length, map, pos, Option, Some, None, refl, ap, ◌∙◌}
use Rattle.std.specs.Prelude.{slice_index}
use Rattle.go_const.specs.declared.operator.ArithmeticOperator.TheVariants.{Add}
use Rattle.go_const.specs.declared.operator.ComparisonOperator.TheVariants.{Equal as Is_equal}
use Rattle.go_types.specs.Types.{Type'}
use Rattle.go_types.specs.Relations.{underlying}
use Rattle.go_types.specs.Sizes.{cells}
use Rattle.go_code.specs.declared.cell.Cell.TheVariants.{Int}
use Rattle.go_code.specs.declared.instr.Instr.{Instr}
use Rattle.go_code.specs.declared.instr.Instr.TheVariants.{Frame as In_frame, Jump as Go_to}
use Rattle.go_code.specs.declared.instr.FrameInstr.TheVariants.{Push}
use Rattle.go_code.specs.declared.instr.JumpInstr.TheVariants.{Jump, JumpIf, JumpIfNot, LoopIf}
use Rattle.go_code.specs.Referred.{Changes, refer, refer_function}
use Rattle.go_typed.specs.declared.expression.Operator.TheVariants.{Arithmetic as arithmetic, Comparison as comparison}
use Rattle.go_typed.specs.Trees as trees
use Rattle.go_typed.specs.Trees.{Symbol, Expr, Exprs, no_exprs, some_exprs, Stmt, Stmts, no_stmts, some_stmts, Clauses, no_clauses, clause, results, expr_type}
use Rattle.go_meaning.specs.Choices.{binary_operators}
use Rattle.go_gen.specs.Translation.{Places, total, slots, expr_temps, source_counts, source_temps, left_temps, lefts_temps, operators_code, load, store, expr_code, source_code, lefts_operands, keeps_code, keep_code, left_operands, take_code, case_temps, cases_temps, condition_code, stmt_temps, stmts_temps, if_code, loop_code, begin_code, counted_code, count_code, within_code, cases_code, concat_code, case_code, tests_code, default_place, leave_code, stmt_code, stmts_code, bodies_code, body_code, local_types, translated}
use Rattle.go_translation_laws.proofs.Referred.{referred, joins, as_long, Refers, begins, operators_referred, expr_referred, exprs_referred, source_referred, left_referred, take_referred, give_referred, lefts_referred, keep_referred, keeps_referred, gives_referred, defines_referred}

-- ---- codes side by side

module _ {R S : Type 0} (g : Changes R S) where
  abbrev Changed : List (List (Instr R)) → List (List (Instr S)) → Type 0
  Changed xss uss = map (map (refer g)) xss ≡ uss

  joined_all : (xss : List (List (Instr R))) → Refers g (concat_code xss) (concat_code (map (map (refer g)) xss))
  joined_all [] = refl
  joined_all (xs ∷ xss) = joins (refer g) xs (concat_code xss) refl (joined_all xss)

  joined_referred : (xss : List (List (Instr R))) (uss : List (List (Instr S))) → Changed xss uss → Refers g (concat_code xss) (concat_code uss)
  joined_referred xss uss e = joined_all xss ∙ ap concat_code e

  sizes_all : (xss : List (List (Instr R))) → map length xss ≡ map length (map (map (refer g)) xss)
  sizes_all [] = refl
  sizes_all (xs ∷ xss) = ap (λ n. n ∷ map length xss) (as_long (refer g) xs refl) ∙ ap (λ l. length (map (refer g) xs) ∷ l) (sizes_all xss)

  sizes_same : (xss : List (List (Instr R))) (uss : List (List (Instr S))) → Changed xss uss → map length xss ≡ map length uss
  sizes_same xss uss e = sizes_all xss ∙ ap (map length) e

  -- ---- jumps round codes

  if_referred : (test a b : List (Instr R)) (test' a' b' : List (Instr S)) → Refers g test test' → Refers g a a' → Refers g b b' → Refers g (if_code test a b) (if_code test' a' b')
  if_referred test a b test' a' b' e d c =
      joins (refer g) (test ++ Go_to (JumpIfNot (length a + 1)) ∷ a) (Go_to (Jump (length b)) ∷ b)
      (joins (refer g) test (Go_to (JumpIfNot (length a + 1)) ∷ a) e
      (begins g (Go_to (JumpIfNot (length a + 1))) (Go_to (JumpIfNot (length a' + 1))) a (ap (λ n. Go_to (JumpIfNot (n + 1))) (as_long (refer g) a d)) d))
      (begins g (Go_to (Jump (length b))) (Go_to (Jump (length b'))) b (ap (λ n. Go_to (Jump n)) (as_long (refer g) b c)) c)

  loop_referred : (body post test : List (Instr R)) (body' post' test' : List (Instr S)) → Refers g body body' → Refers g post post' → Refers g test test' → Refers g (loop_code body post test) (loop_code body' post' test')
  loop_referred body post test body' post' test' e d c =
      let n : length body ≡ length body' = as_long (refer g) body e in
      let m : length post ≡ length post' = as_long (refer g) post d in
      let k : length test ≡ length test' = as_long (refer g) test c in
      let first : Instr R = Go_to (Jump (length body + length post)) in
      let first' : Instr S = Go_to (Jump (length body' + length post')) in
      let last' : ℕ → ℕ → ℕ → Instr S = λ x y z. Go_to (LoopIf (x + y + z + 1)) in
      joins (refer g) (first ∷ body ++ post ++ test) _
      (joins (refer g) (first ∷ body ++ post) test
      (joins (refer g) (first ∷ body) post
      (begins g first first' body (ap (λ x. Go_to (Jump (x + length post))) n ∙ ap (λ y. Go_to (Jump (length body' + y))) m) e) d) c)
      (ap (λ x. last' x (length post) (length test) ∷ []) n ∙ ap (λ y. last' (length body') y (length test) ∷ []) m ∙ ap (λ z. last' (length body') (length post') z ∷ []) k)

  leave_referred : (falls : Bool) (n : ℕ) → Refers g (leave_code falls n) (leave_code falls n)
  leave_referred true n = refl
  leave_referred false n = refl

  count_referred : (at : ℕ) (t : Type') → Refers g (count_code at t) (count_code at t)
  count_referred at t =
      joins (refer g) (load (at + 1) 1 ∷ In_frame (Push (Int (pos 1))) ∷ operators_code (binary_operators (underlying t) (arithmetic Add))) _
      (ap (λ l. load (at + 1) 1 ∷ In_frame (Push (Int (pos 1))) ∷ l) (operators_referred g (binary_operators (underlying t) (arithmetic Add))))
      refl

  module _ (p : Places R) where
    abbrev q : Places S
    q = referred g p

    condition_referred : (k : ℕ) (o : Option Expr) → Refers g (condition_code p k o) (condition_code q k o)
    condition_referred k None = refl
    condition_referred k (Some e) = expr_referred g p k e

    counted_referred : (at : ℕ) (o : Option ℕ) → Refers g (counted_code p at o) (counted_code q at o)
    counted_referred at None = refl
    counted_referred at (Some n) = refl

    -- ---- tests of a switch

    cases_referred : (at : ℕ) (t : Type') (k : ℕ) (es : Exprs) (far : ℕ) → Refers g (cases_code p at t k es far) (cases_code q at t k es far)
    cases_referred at t k no_exprs far = refl
    cases_referred at t k (some_exprs e es) far =
        let ops = binary_operators (underlying t) (comparison Is_equal) in
        let rest : List (Instr R) = cases_code p at t (k + expr_temps e) es far in
        let rest' : List (Instr S) = cases_code q at t (k + expr_temps e) es far in
        let same : Refers g rest rest' = cases_referred at t (k + expr_temps e) es far in
        joins (refer g) (load at (cells t) ∷ expr_code p k e ++ operators_code ops) _
        (joins (refer g) (load at (cells t) ∷ expr_code p k e) _ (ap (λ l. load at (cells t) ∷ l) (expr_referred g p k e)) (operators_referred g ops))
        (begins g (Go_to (JumpIf (length rest + far))) (Go_to (JumpIf (length rest' + far))) rest (ap (λ n. Go_to (JumpIf (n + far))) (as_long (refer g) rest same)) same)

    case_referred : (at : ℕ) (t : Type') (k : ℕ) (o : Option Exprs) (far : ℕ) → Refers g (case_code p at t k o far) (case_code q at t k o far)
    case_referred at t k None far = refl
    case_referred at t k (Some es) far = cases_referred at t k es far

    tests_referred : (at : ℕ) (t : Type') (k : ℕ) (cs : Clauses) (sizes : List ℕ) (before : ℕ) → Refers g (tests_code p at t k cs sizes before) (tests_code q at t k cs sizes before)
    tests_referred at t k no_clauses sizes before = refl
    tests_referred at t k (clause es body falls cs) [] before = refl
    tests_referred at t k (clause es body falls cs) (n ∷ sizes) before =
        let rest : List (Instr R) = tests_code p at t (k + case_temps es) cs sizes (before + n) in
        let same = tests_referred at t (k + case_temps es) cs sizes (before + n) in
        joins (refer g) (case_code p at t k es (length rest + 1 + before)) rest
        (case_referred at t k es (length rest + 1 + before) ∙ ap (λ m. case_code q at t k es (m + 1 + before)) (as_long (refer g) rest same))
        same

    -- a switch behind its tag: the tests, and a jump to the default or over all clauses
    sized_referred : (at first : ℕ) (t : Type') (cs : Clauses) (codes : List (List (Instr R))) (codes' : List (List (Instr S))) → Changed codes codes' → Refers g (tests_code p at t first cs (map length codes) 0) (tests_code q at t first cs (map length codes') 0)
    sized_referred at first t cs codes codes' e =
        tests_referred at t first cs (map length codes) 0 ∙ ap (λ l. tests_code q at t first cs l 0) (sizes_same codes codes' e)

    clauses_referred : (cs : Clauses) (codes : List (List (Instr R))) (codes' : List (List (Instr S))) → Changed codes codes' → Refers g (Go_to (Jump (default_place cs (map length codes) 0 (length (concat_code codes)))) ∷ concat_code codes) (Go_to (Jump (default_place cs (map length codes') 0 (length (concat_code codes')))) ∷ concat_code codes')
    clauses_referred cs codes codes' e =
        let all = joined_referred codes codes' e in
        begins g (Go_to (Jump (default_place cs (map length codes) 0 (length (concat_code codes))))) (Go_to (Jump (default_place cs (map length codes') 0 (length (concat_code codes'))))) (concat_code codes)
        (ap (λ l. Go_to (Jump (default_place cs l 0 (length (concat_code codes))))) (sizes_same codes codes' e) ∙ ap (λ n. Go_to (Jump (default_place cs (map length codes') 0 n))) (as_long (refer g) (concat_code codes) all))
        all

    -- ---- statements

    mutual
      stmt_referred : (k : ℕ) (s : Stmt) (b c : ℕ) → Refers g (stmt_code p k s b c) (stmt_code q k s b c)
      stmt_referred k (trees.define ns s) b c = joins (refer g) (source_code p k s) _ (source_referred g p k s) (defines_referred g p ns (source_counts s))
      stmt_referred k (trees.assign ls s) b c =
          let values : ℕ = k + lefts_temps ls in
          let temps : ℕ = values + source_temps s in
          joins (refer g) (lefts_operands p k ls ++ source_code p values s ++ keeps_code ls (source_counts s) temps) _
          (joins (refer g) (lefts_operands p k ls ++ source_code p values s) _
          (joins (refer g) (lefts_operands p k ls) _ (lefts_referred g p k ls) (source_referred g p values s))
          (keeps_referred g p ls (source_counts s) temps))
          (gives_referred g p k ls (source_counts s) temps)
      stmt_referred k (trees.update t l op e) b c =
          let value : ℕ = k + left_temps l in
          let temp : ℕ = value + expr_temps e in
          let ops = binary_operators (underlying t) op in
          joins (refer g) (left_operands p k l ++ take_code p k l (cells t) ++ expr_code p value e ++ operators_code ops) _
          (joins (refer g) (left_operands p k l ++ take_code p k l (cells t) ++ expr_code p value e) _
          (joins (refer g) (left_operands p k l ++ take_code p k l (cells t)) _
          (joins (refer g) (left_operands p k l) _ (left_referred g p k l) (take_referred g p k l (cells t)))
          (expr_referred g p value e))
          (operators_referred g ops))
          (begins g (keep_code l (cells t) temp) (keep_code l (cells t) temp) _ (keep_referred g p l (cells t) temp) (give_referred g p k l temp (cells t)))
      stmt_referred k (trees.run ts s es) b c = joins (refer g) (source_code p k (results ts s es)) _ (source_referred g p k (results ts s es)) refl
      stmt_referred k (trees.print es) b c = joins (refer g) _ _ (exprs_referred g p k es) refl
      stmt_referred k (trees.panic e) b c = joins (refer g) _ _ (expr_referred g p k e) refl
      stmt_referred k (trees.if_statement e one two) b c =
          let first : ℕ = k + expr_temps e in
          let other : List (Instr R) = stmts_code p (first + stmts_temps one) two b c in
          let same = stmts_referred (first + stmts_temps one) two b c in
          if_referred (expr_code p k e) (stmts_code p first one (length other + 1 + b) (length other + 1 + c)) other _ _ _
          (expr_referred g p k e)
          (stmts_referred first one (length other + 1 + b) (length other + 1 + c) ∙ ap (λ n. stmts_code q first one (n + 1 + b) (n + 1 + c)) (as_long (refer g) other same))
          same
      stmt_referred k (trees.for_statement o post body) b c =
          let behind : ℕ = k + stmts_temps body in
          let test : List (Instr R) = condition_code p (behind + stmts_temps post) o in
          let test' : List (Instr S) = condition_code q (behind + stmts_temps post) o in
          let test_same : Refers g test test' = condition_referred (behind + stmts_temps post) o in
          let next : List (Instr R) = stmts_code p behind post (length test + 1 + b) (length test + 1 + c) in
          let next' : List (Instr S) = stmts_code q behind post (length test' + 1 + b) (length test' + 1 + c) in
          let next_same : Refers g next next' =
          stmts_referred behind post (length test + 1 + b) (length test + 1 + c) ∙ ap (λ n. stmts_code q behind post (n + 1 + b) (n + 1 + c)) (as_long (refer g) test test_same) in
          loop_referred (stmts_code p k body (length next + length test + 1) 0) next test _ next' test'
          (stmts_referred k body (length next + length test + 1) 0
          ∙ ap (λ n. stmts_code q k body (n + length test + 1) 0) (as_long (refer g) next next_same)
          ∙ ap (λ n. stmts_code q k body (length next' + n + 1) 0) (as_long (refer g) test test_same))
          next_same test_same
      stmt_referred k (trees.range_statement o t e body) b c =
          let at : ℕ = k + expr_temps e in
          let next : List (Instr R) = count_code at t in
          let test : List (Instr R) = within_code at in
          let next' : List (Instr S) = count_code at t in
          let test' : List (Instr S) = within_code at in
          let same = count_referred at t in
          let inner : ℕ → List (Instr S) = λ n. stmts_code q (at + 2) body (n + length test' + 1) 0 in
          joins (refer g) (expr_code p k e ++ begin_code at) _
          (joins (refer g) (expr_code p k e) _ (expr_referred g p k e) refl)
          (loop_referred (counted_code p at o ++ stmts_code p (at + 2) body (length next + length test + 1) 0) next test _ next' test'
          (joins (refer g) (counted_code p at o) _ (counted_referred at o)
          (stmts_referred (at + 2) body (length next + length test + 1) 0 ∙ ap inner (as_long (refer g) next same)))
          same refl)
      stmt_referred k (trees.switch_statement e cs) b c =
          let at : ℕ = k + expr_temps e in
          let first : ℕ = at + cells (expr_type e) in
          let bodies : ℕ = first + cases_temps cs in
          let codes : List (List (Instr R)) = bodies_code p bodies cs c in
          let codes' : List (List (Instr S)) = bodies_code q bodies cs c in
          let same : Changed codes codes' = bodies_referred bodies cs c in
          joins (refer g) (expr_code p k e ++ store at (cells (expr_type e)) ∷ tests_code p at (expr_type e) first cs (map length codes) 0) _
          (joins (refer g) (expr_code p k e) _ (expr_referred g p k e) (ap (λ l. store at (cells (expr_type e)) ∷ l) (sized_referred at first (expr_type e) cs codes codes' same)))
          (clauses_referred cs codes codes' same)
      stmt_referred k (trees.block ss) b c = stmts_referred k ss b c
      stmt_referred k trees.break b c = refl
      stmt_referred k trees.continue b c = refl
      stmt_referred k (trees.return s) b c = joins (refer g) (source_code p k s) _ (source_referred g p k s) refl

      stmts_referred : (k : ℕ) (ss : Stmts) (b c : ℕ) → Refers g (stmts_code p k ss b c) (stmts_code q k ss b c)
      stmts_referred k no_stmts b c = refl
      stmts_referred k (some_stmts s ss) b c =
          let rest : List (Instr R) = stmts_code p (k + stmt_temps s) ss b c in
          let same = stmts_referred (k + stmt_temps s) ss b c in
          joins (refer g) (stmt_code p k s (length rest + b) (length rest + c)) rest
          (stmt_referred k s (length rest + b) (length rest + c) ∙ ap (λ n. stmt_code q k s (n + b) (n + c)) (as_long (refer g) rest same))
          same

      bodies_referred : (k : ℕ) (cs : Clauses) (c : ℕ) → Changed (bodies_code p k cs c) (bodies_code q k cs c)
      bodies_referred k no_clauses c = refl
      bodies_referred k (clause es body falls cs) c =
          let rest : List (List (Instr R)) = bodies_code p (k + stmts_temps body) cs c in
          let rest' : List (List (Instr S)) = bodies_code q (k + stmts_temps body) cs c in
          let same : Changed rest rest' = bodies_referred (k + stmts_temps body) cs c in
          let n : ℕ = length (concat_code rest) in
          let n' : ℕ = length (concat_code rest') in
          let far : n ≡ n' = as_long (refer g) (concat_code rest) (joined_referred rest rest' same) in
          let leave : List (Instr R) = leave_code falls n in
          let leave' : List (Instr S) = leave_code falls n' in
          let leaves : Refers g leave leave' = leave_referred falls n ∙ ap (leave_code falls) far in
          let first : map (refer g) (stmts_code p k body (length leave + n) (length leave + n + c) ++ leave) ≡ stmts_code q k body (length leave' + n') (length leave' + n' + c) ++ leave' =
          joins (refer g) (stmts_code p k body (length leave + n) (length leave + n + c)) leave
          (stmts_referred k body (length leave + n) (length leave + n + c)
          ∙ ap (λ m. stmts_code q k body (m + n) (m + n + c)) (as_long (refer g) leave leaves)
          ∙ ap (λ m. stmts_code q k body (length leave' + m) (length leave' + m + c)) far)
          leaves in
          ap (λ l. l ∷ map (map (refer g)) rest) first ∙ ap (λ l. (stmts_code q k body (length leave' + n') (length leave' + n' + c) ++ leave') ∷ l) same

    body_referred : (k : ℕ) (body : Stmts) → Refers g (body_code p k body) (body_code q k body)
    body_referred k body = joins (refer g) (stmts_code p k body 0 0) _ (stmts_referred k body 0 0) refl

  -- ---- functions

  pub function_referred : (globals functions : Symbol → R) (f : trees.Function) → refer_function g (translated globals functions f) ≡ translated (λ s. g.variables (globals s)) (λ s. g.functions (functions s)) f
  function_referred globals functions f =
      let size : ℕ = total (local_types f) in
      let p : Places R = record { locals = slice_index (slots 0 (local_types f)); globals = globals; functions = functions } in
      ap (λ (code : List (Instr S)). record { parameters = total f.parameters; cells = size + stmts_temps f.body; code = code }) (body_referred p size f.body)
