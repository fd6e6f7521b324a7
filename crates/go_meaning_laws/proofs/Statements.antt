-- Well typed statements are never stuck, and leave off as they may.
use Rattle.std.proofs.Common.{◌≡◌, ℕ, suc, arith, Bool, true, false, not, ◌&&◌, ◌||◌, List, [], ◌∷◌, ◌++◌, length, Option, Some, None, pos, negsuc, is_some, refl, sym, ◌∙◌, subst, nat_eq, if◌then◌else◌}
use Rattle.std.specs.List.{flat_map}
use Rattle.go_types.specs.Types.{Type'}
use Rattle.go_types.specs.Relations.{underlying}
use Rattle.go_code.specs.declared.cell.Cell.TheVariants.{Bool as Truth}
use Rattle.go_code.specs.Operators as operators
use Rattle.go_code.specs.Lines.{line_text}
use Rattle.go_typed.specs.declared.expression.Operator.{Operator}
use Rattle.go_typed.specs.Trees.{Symbol, Expr, Exprs, Left, ValueSource, results, Stmt, define, assign, update, run, print, panic, if_statement, for_statement, range_statement, switch_statement, block, break, continue, return, Stmts, no_stmts, some_stmts, Clauses, no_clauses, clause, expr_type}
use Rattle.go_typed.specs.Terminating.{terminates, list_terminates, breaks, breaks_any}
use Rattle.go_meaning.specs.Values.{Value, single, flat}
use Rattle.go_meaning.specs.Choices.{binary_operators, operated}
use Rattle.go_meaning.specs.Meaning.{ProgramState, Gives, Stuck, Locals, Calls, Flow, Normal, Breaks, Continues, Returns, and_then, typed_or_panic, if_known, if_true, eval, eval_all, source, aim, aim_all, target_value, give, give_all, defined, normal, if_normal, tested, walk, walk_to, panicked, exec, exec_all}
use Rattle.go_meaning_laws.specs.WellTyped.{Setting, is_integer_type, is_string_type, IsOperation, exprs_types, IsExpr, AreWellTypedExprs, source_types, IsWellTypedSource, AllSuit, AreNew, IsWellTypedPart, AreLefts, known_numbers, declared_after, declared_after_all, inside_loop, in_post, inside_clause, IsCondition, IsConditionOrNone, IsCounter, IsStmt, AreStmts, AreClauses}
use Rattle.go_meaning_laws.proofs.Shelf.{Shelf, grows_not}
use Rattle.go_meaning_laws.proofs.Values.{Of, of_grow, both_true, all_long, all_suit, number_same, zero_fits, of_underlying}
use Rattle.go_meaning_laws.proofs.Operators.{IsTruth, IsNumber, number, integer_value, IsString, text, string_value}
use Rattle.go_meaning_laws.proofs.Binary.{operation_is}
use Rattle.go_meaning_laws.proofs.Worlds.{Sound, sound_then, sound_map, Keeps, Valued, sound_given, Fits, fits_grow, Within, within_more, defined_is}
use Rattle.go_meaning_laws.proofs.Ticks.{all_ticks, tested_ticks}
use Rattle.go_meaning_laws.proofs.Exprs.{AllValued, Answers, expr_evals, exprs_evals, truth_in, decided}
use Rattle.go_meaning_laws.proofs.Targets.{Fitting, PartAt, part_grow, all_may_grow, taken_is, given_to, all_given_to, targets_long, may_be, source_evals, AllAimed, all_aimed, part_aimed}
use Rattle.go_meaning_laws.proofs.Flows.{Leaves, leaves_as, within_same, turns_leave, walk_leaves}
use Rattle.go_meaning_laws.proofs.Switches.{ClauseLeaves, clause_parts, none_leave, some_leave, switch_leaves}

-- ---- what is declared stays so

mutual
  pub grows : (d : List ℕ) (s : Stmt) → Within d (declared_after d s)
  grows d (define os s) = within_more (known_numbers os) d
  grows d (assign ls s) = within_same d
  grows d (update t l op e) = within_same d
  grows d (run ts s es) = within_same d
  grows d (print es) = within_same d
  grows d (panic e) = within_same d
  grows d (if_statement e a b) = within_same d
  grows d (for_statement o post ss) = within_same d
  grows d (range_statement o t e ss) = within_same d
  grows d (switch_statement e cs) = within_same d
  grows d (block ss) = all_grow d ss
  grows d break = within_same d
  grows d continue = within_same d
  grows d (return s) = within_same d

  pub all_grow : (d : List ℕ) (ss : Stmts) → Within d (declared_after_all d ss)
  all_grow d no_stmts = within_same d
  all_grow d (some_stmts s ss) = λ n h. all_grow (declared_after d s) ss n (grows d s n h)

-- ---- truths

or_left : (p q : Bool) → p ≡ true → (p || q) ≡ true
or_left true q e = refl
or_left false q e = cc

or_right : (p q : Bool) → q ≡ true → (p || q) ≡ true
or_right true q e = refl
or_right false q e = e

negated : (p : Bool) → not p ≡ true → p ≡ false
negated true e = cc
negated false e = refl

-- a list ends where its last statement does
ends_next : (s : Stmt) (ss : Stmts) → terminates s ≡ false → list_terminates (some_stmts s ss) ≡ true → list_terminates ss ≡ true
ends_next s no_stmts n e = cc
ends_next s (some_stmts t ss) n e = e

module _ (calls : Calls) where
  abbrev pub StmtLeaves : Setting → List ℕ → Stmt → Type 0
  StmtLeaves g d s = (ls : Locals) (σ : Shelf) (w : ProgramState) → Fitting g d ls σ w → Sound σ (Leaves g d (declared_after d s) (terminates s) (breaks s)) (exec calls s ls w)

  abbrev pub StmtsLeave : Setting → List ℕ → Stmts → Type 0
  StmtsLeave g d ss = (ls : Locals) (σ : Shelf) (w : ProgramState) → Fitting g d ls σ w → Sound σ (Leaves g d (declared_after_all d ss) (list_terminates ss) (breaks_any ss)) (exec_all calls ss ls w)

  -- ---- one statement behind another

  sequence : (g : Setting) (d : List ℕ) (s : Stmt) (ss : Stmts) → StmtLeaves g d s → StmtsLeave g (declared_after d s) ss → StmtsLeave g d (some_stmts s ss)
  sequence g d s ss first rest ls σ w k =
      sound_then σ (Leaves g d (declared_after d s) (terminates s) (breaks s)) (Leaves g d (declared_after_all (declared_after d s) ss) (list_terminates (some_stmts s ss)) (breaks s || breaks_any ss)) (exec calls s ls w) (if_normal (exec_all calls ss)) (first ls σ w k) (λ f σ1 w1 grown1. on f σ1 w1)
    where
      on : (f : Flow) (σ1 : Shelf) (w1 : ProgramState) → Leaves g d (declared_after d s) (terminates s) (breaks s) f σ1 w1 → Sound σ1 (Leaves g d (declared_after_all (declared_after d s) ss) (list_terminates (some_stmts s ss)) (breaks s || breaks_any ss)) (if_normal (exec_all calls ss) f w1)
      on (Normal ls1) σ1 w1 l =
          sound_map σ1 (Leaves g (declared_after d s) (declared_after_all (declared_after d s) ss) (list_terminates ss) (breaks_any ss)) (Leaves g d (declared_after_all (declared_after d s) ss) (list_terminates (some_stmts s ss)) (breaks s || breaks_any ss)) (exec_all calls ss ls1 w1)
          (λ f later w2 grown. leaves_as g (declared_after d s) (declared_after_all (declared_after d s) ss) d (declared_after_all (declared_after d s) ss) (list_terminates ss) (breaks_any ss) (list_terminates (some_stmts s ss)) (breaks s || breaks_any ss)
          (grows d s) (within_same (declared_after_all (declared_after d s) ss)) (ends_next s ss l.1) (or_right (breaks s) (breaks_any ss)) f later w2)
          (rest ls1 σ1 w1 l.0)
      on (Breaks ls1) σ1 w1 l = (σ1, grows_not σ1, (l.0, l.1, or_left (breaks s) (breaks_any ss) l.2))
      on (Continues ls1) σ1 w1 l = (σ1, grows_not σ1, l)
      on (Returns vs) σ1 w1 l = (σ1, grows_not σ1, l)

  module _ (g : Setting) (d : List ℕ) (answers : Answers g.functions g.variables calls) where
    -- ---- simple statements

    define_leaves : (os : List (Option ℕ)) (s : ValueSource) → IsWellTypedSource g d s → AreNew g.locals os (source_types s) → StmtLeaves g d (define os s)
    define_leaves os s hs new ls σ w k =
        sound_then σ (AllValued g.variables (source_types s)) (Leaves g d (known_numbers os ++ d) false false) (source calls s ls w) (λ vs w1. and_then (if_known (defined os vs ls) w1) normal)
        (source_evals calls g d answers s ls σ w hs k)
        (λ vs σ1 w1 grown1 l. (let r = defined_is σ1 g.locals d os (source_types s) vs ls new l.0 (fits_grow grown1 k.0) in rw (r.1) (σ1, grows_not σ1, ((r.2, l.1), refl))))

    assign_leaves : (lefts : List Left) (s : ValueSource) → AreLefts g d lefts (source_types s) → IsWellTypedSource g d s → StmtLeaves g d (assign lefts s)
    assign_leaves lefts s hl hs ls σ w k =
        sound_then σ (AllAimed calls g d answers (source_types s)) (Leaves g d d false false) (aim_all calls lefts ls w)
        (λ ts w1. and_then (source calls s ls w1) (λ vs w2. if nat_eq (length ts) (length vs) then and_then (give_all ts vs ls w2) normal else Stuck))
        (all_aimed calls g d answers lefts (source_types s) ls σ w hl k)
        (λ ts σ1 w1 grown1 l.
        sound_then σ1 (AllValued g.variables (source_types s)) (Leaves g d d false false) (source calls s ls w1)
        (λ vs w2. if nat_eq (length ts) (length vs) then and_then (give_all ts vs ls w2) normal else Stuck)
        (source_evals calls g d answers s ls σ1 w1 hs (fits_grow grown1 k.0, l.1))
        (λ vs σ2 w2 grown2 m.
        let same : nat_eq (length ts) (length vs) ≡ true = number_same (length ts) (length vs) (targets_long g d (source_types s) ts σ1 l.0 ∙ sym (all_long σ2 (source_types s) vs m.0)) in
        rw same
        (sound_then σ2 (Fitting g d) (Leaves g d d false false) (give_all ts vs ls w2) normal (all_given_to g d (source_types s) ts vs ls σ2 w2 (all_may_grow g d (source_types s) ts grown2 l.0) m.0 (fits_grow grown2 (fits_grow grown1 k.0), m.1))
        (λ ls1 σ3 w3 grown3 n. (σ3, grows_not σ3, (n, refl))))))

    update_leaves : (t : Type') (left : Left) (op : Operator) (e : Expr) → IsWellTypedPart g d left t → IsExpr g d e → IsOperation op t t (expr_type e) → StmtLeaves g d (update t left op e)
    update_leaves t left op e hl he ho ls σ w k =
        sound_then σ (λ target σ1 w1. PartAt g d t target σ1 × Keeps g.variables σ1 w1) (Leaves g d d false false) (aim calls left ls w)
        (λ target w1. and_then (target_value t target ls w1) (λ x w2. and_then (eval calls e ls w2) (λ y w3. and_then (typed_or_panic t (operated (binary_operators (underlying t) op) (x ∷ y ∷ [])) w3) (λ z w4. and_then (give target z ls w4) normal))))
        (part_aimed calls g d answers left t ls σ w hl k)
        (λ target σ1 w1 grown1 l.
        sound_then σ1 (Valued g.variables t) (Leaves g d d false false) (target_value t target ls w1)
        (λ x w2. and_then (eval calls e ls w2) (λ y w3. and_then (typed_or_panic t (operated (binary_operators (underlying t) op) (x ∷ y ∷ [])) w3) (λ z w4. and_then (give target z ls w4) normal)))
        (taken_is g d t target ls σ1 w1 l.0 (fits_grow grown1 k.0, l.1))
        (λ x σ2 w2 grown2 m.
        sound_then σ2 (Valued g.variables (expr_type e)) (Leaves g d d false false) (eval calls e ls w2)
        (λ y w3. and_then (typed_or_panic t (operated (binary_operators (underlying t) op) (x ∷ y ∷ [])) w3) (λ z w4. and_then (give target z ls w4) normal))
        (expr_evals calls g d answers e he ls σ2 w2 (fits_grow grown2 (fits_grow grown1 k.0)) m.1)
        (λ y σ3 w3 grown3 n.
        sound_then σ3 (Valued g.variables t) (Leaves g d d false false) (typed_or_panic t (operated (binary_operators (underlying t) op) (x ∷ y ∷ [])) w3) (λ z w4. and_then (give target z ls w4) normal)
        (sound_given g.variables t (operated (binary_operators (underlying t) op) (x ∷ y ∷ [])) σ3 w3 n.1 (operation_is σ3 op t t (expr_type e) x y ho (of_grow t x grown3 m.0) n.0))
        (λ z σ4 w4 grown4 q.
        sound_then σ4 (Fitting g d) (Leaves g d d false false) (give target z ls w4) normal
        (given_to g d t target z ls σ4 w4 (may_be g d t target σ4 (part_grow g d t target grown4 (part_grow g d t target grown3 (part_grow g d t target grown2 l.0)))) q.0
        (fits_grow grown4 (fits_grow grown3 (fits_grow grown2 (fits_grow grown1 k.0))), q.1))
        (λ ls1 σ5 w5 grown5 r. (σ5, grows_not σ5, (r, refl)))))))

    run_leaves : (ts : List Type') (s : Symbol) (es : Exprs) → IsWellTypedSource g d (results ts s es) → StmtLeaves g d (run ts s es)
    run_leaves ts s es h ls σ w k =
        sound_then σ (AllValued g.variables ts) (Leaves g d d false false) (source calls (results ts s es) ls w) (λ vs. normal ls) (source_evals calls g d answers (results ts s es) ls σ w h k)
        (λ vs σ1 w1 grown1 l. (σ1, grows_not σ1, ((fits_grow grown1 k.0, l.1), refl)))

    print_leaves : (es : Exprs) → AreWellTypedExprs g d es → StmtLeaves g d (print es)
    print_leaves es h ls σ w k =
        sound_then σ (AllValued g.variables (exprs_types es)) (Leaves g d d false false) (eval_all calls es ls w) (λ vs w1. normal ls (record w1 { output = w1.output ++ line_text (flat_map flat vs) }))
        (exprs_evals calls g d answers es h ls σ w k.0 k.1) (λ vs σ1 w1 grown1 l. (σ1, grows_not σ1, ((fits_grow grown1 k.0, l.1), refl)))

    panics : (v : Value) (s : Type') (σ : Shelf) (w : ProgramState) → IsString s v → Sound σ (Leaves g d d true false) (panicked v w)
    panics v s σ w (text bytes es ev f) = subst (λ u. Sound σ (Leaves g d d true false) (panicked u w)) (sym ev) tt

    panic_leaves : (e : Expr) → IsExpr g d e → is_string_type (underlying (expr_type e)) ≡ true → StmtLeaves g d (panic e)
    panic_leaves e h string ls σ w k =
        sound_then σ (Valued g.variables (expr_type e)) (Leaves g d d true false) (eval calls e ls w) panicked (expr_evals calls g d answers e h ls σ w k.0 k.1)
        (λ v σ1 w1 grown1 l. panics v (underlying (expr_type e)) σ1 w1 (string_value σ1 (underlying (expr_type e)) v string (of_underlying σ1 (expr_type e) v l.0)))

    return_leaves : (s : ValueSource) → IsWellTypedSource g d s → AllSuit (source_types s) g.results → StmtLeaves g d (return s)
    return_leaves s hs suit ls σ w k =
        sound_then σ (AllValued g.variables (source_types s)) (Leaves g d d true false) (source calls s ls w) (λ vs w1. Gives (Returns vs) w1) (source_evals calls g d answers s ls σ w hs k)
        (λ vs σ1 w1 grown1 l. (σ1, grows_not σ1, (all_suit σ1 (source_types s) g.results vs suit l.0, l.1)))

    -- ---- statements of statements

    abbrev Both : Stmts → Stmts → Flow → Shelf → ProgramState → Type 0
    Both a b = Leaves g d d (list_terminates a && list_terminates b) (breaks_any a || breaks_any b)

    if_leaves : (e : Expr) (a b : Stmts) → IsCondition g d e → StmtsLeave g d a → StmtsLeave g d b → StmtLeaves g d (if_statement e a b)
    if_leaves e a b h first second ls σ w k =
        sound_then σ (Valued g.variables (expr_type e)) (Both a b) (eval calls e ls w) (λ c w1. if_true c (exec_all calls a ls w1) (exec_all calls b ls w1)) (expr_evals calls g d answers e h.0 ls σ w k.0 k.1)
        (λ c σ1 w1 grown1 l.
        decided σ1 (Both a b) c (exec_all calls a ls w1) (exec_all calls b ls w1) (truth_in σ1 (expr_type e) c h.1 l.0)
        (sound_map σ1 (Leaves g d (declared_after_all d a) (list_terminates a) (breaks_any a)) (Both a b) (exec_all calls a ls w1)
        (λ f later w2 grown. leaves_as g d (declared_after_all d a) d d (list_terminates a) (breaks_any a) (list_terminates a && list_terminates b) (breaks_any a || breaks_any b) (within_same d) (all_grow d a)
        (λ x. (both_true (list_terminates a) (list_terminates b) x).0) (or_left (breaks_any a) (breaks_any b)) f later w2)
        (first ls σ1 w1 (fits_grow grown1 k.0, l.1)))
        (sound_map σ1 (Leaves g d (declared_after_all d b) (list_terminates b) (breaks_any b)) (Both a b) (exec_all calls b ls w1)
        (λ f later w2 grown. leaves_as g d (declared_after_all d b) d d (list_terminates b) (breaks_any b) (list_terminates a && list_terminates b) (breaks_any a || breaks_any b) (within_same d) (all_grow d b)
        (λ x. (both_true (list_terminates a) (list_terminates b) x).1) (or_right (breaks_any a) (breaks_any b)) f later w2)
        (second ls σ1 w1 (fits_grow grown1 k.0, l.1))))

    -- the condition of a loop; without one it is true
    tests_are : (o : Option Expr) (quiet : Bool) → IsConditionOrNone g d o → (ls : Locals) (σ : Shelf) (w : ProgramState) → Fitting g d ls σ w → Sound σ (λ v σ1 w1. IsTruth v × ((not (is_some o) && quiet) ≡ true → v ≡ single (Truth true)) × Keeps g.variables σ1 w1) (tested calls o ls w)
    tests_are None quiet h ls σ w k = (σ, grows_not σ, ((true, refl), (λ e. refl), k.1))
    tests_are (Some e) quiet h ls σ w k =
        sound_map σ (Valued g.variables (expr_type e)) (λ v σ1 w1. IsTruth v × (false ≡ true → v ≡ single (Truth true)) × Keeps g.variables σ1 w1) (eval calls e ls w)
        (λ v σ1 w1 grown1 l. (truth_in σ1 (expr_type e) v h.1 l.0, (λ x. absurd (cc)), l.1)) (expr_evals calls g d answers e h.0 ls σ w k.0 k.1)

    for_leaves : (o : Option Expr) (post ss : Stmts) → IsConditionOrNone g d o → StmtsLeave (in_post g) d post → StmtsLeave (inside_loop g) d ss → StmtLeaves g d (for_statement o post ss)
    for_leaves o post ss h posts bodies ls σ w k =
        let ends : Bool = not (is_some o) && not (breaks_any ss) in
        turns_leave g d (declared_after_all d ss) (declared_after_all d post) ends (breaks_any ss) (list_terminates ss) (list_terminates post) (breaks_any post) (tested calls o) (exec_all calls ss) (exec_all calls post)
        (all_grow d ss) (all_grow d post) (λ x. negated (breaks_any ss) (both_true (not (is_some o)) (not (breaks_any ss)) x).1) (tests_are o (not (breaks_any ss)) h) bodies posts (λ n. tested_ticks n calls (answers.ticks n) o) (λ n. all_ticks n calls (answers.ticks n) ss) (λ n. all_ticks n calls (answers.ticks n) post) (suc w.ticks) ls σ w (omega arith) k

    range_leaves : (o : Option ℕ) (t : Type') (e : Expr) (ss : Stmts) → IsExpr g d e → expr_type e ≡ t → is_integer_type (underlying t) ≡ true → IsCounter g o t → StmtsLeave (inside_loop g) (known_numbers (o ∷ []) ++ d) ss → StmtLeaves g d (range_statement o t e ss)
    range_leaves o t e ss he same integer counts bodies ls σ w k =
        sound_then σ (Valued g.variables (expr_type e)) (Leaves g d d false false) (eval calls e ls w)
        (λ v w1. and_then (typed_or_panic t (operators.Gives v) w1) (λ v1 w2. walk_to v1 (λ h. walk (suc w2.ticks) 0 h o (exec_all calls ss) ls w2)))
        (expr_evals calls g d answers e he ls σ w k.0 k.1)
        (λ v σ1 w1 grown1 l.
        sound_then σ1 (Valued g.variables t) (Leaves g d d false false) (typed_or_panic t (operators.Gives v) w1) (λ v1 w2. walk_to v1 (λ h. walk (suc w2.ticks) 0 h o (exec_all calls ss) ls w2))
        (sound_given g.variables t (operators.Gives v) σ1 w1 l.1 (subst (λ u. Of σ1 u v) same l.0))
        (λ v1 σ2 w2 grown2 m. walks v1 σ2 w2 (fits_grow grown2 (fits_grow grown1 k.0)) m.1 (integer_value σ2 (underlying t) v1 integer (of_underlying σ2 t v1 m.0))))
      where
        walks : (v : Value) (σ2 : Shelf) (w2 : ProgramState) → Fits σ2 g.locals d ls → Keeps g.variables σ2 w2 → IsNumber (underlying t) v → Sound σ2 (Leaves g d d false false) (walk_to v (λ h. walk (suc w2.ticks) 0 h o (exec_all calls ss) ls w2))
        walks v σ2 w2 fits good (number i (pos n) is ev fit) =
            subst (λ u. Sound σ2 (Leaves g d d false false) (walk_to u (λ h. walk (suc w2.ticks) 0 h o (exec_all calls ss) ls w2))) (sym ev)
            (walk_leaves g d (declared_after_all (known_numbers (o ∷ []) ++ d) ss) (list_terminates ss) (breaks_any ss) o t i is counts n fit (exec_all calls ss) (all_grow (known_numbers (o ∷ []) ++ d) ss) bodies (λ n. all_ticks n calls (answers.ticks n) ss) (suc w2.ticks) 0 ls σ2 w2 (omega arith) (fits, good))
        walks v σ2 w2 fits good (number i (negsuc n) is ev fit) =
            subst (λ u. Sound σ2 (Leaves g d d false false) (walk_to u (λ h. walk (suc w2.ticks) 0 h o (exec_all calls ss) ls w2))) (sym ev)
            (walk_leaves g d (declared_after_all (known_numbers (o ∷ []) ++ d) ss) (list_terminates ss) (breaks_any ss) o t i is counts 0 (zero_fits i) (exec_all calls ss) (all_grow (known_numbers (o ∷ []) ++ d) ss) bodies (λ n. all_ticks n calls (answers.ticks n) ss) (suc w2.ticks) 0 ls σ2 w2 (omega arith) (fits, good))

  -- ---- all statements

  mutual
    pub stmt_leaves : (g : Setting) (d : List ℕ) → Answers g.functions g.variables calls → (s : Stmt) → IsStmt g d s → StmtLeaves g d s
    stmt_leaves g d a (define os s) h = define_leaves g d a os s h.0 h.1
    stmt_leaves g d a (assign ls s) h = assign_leaves g d a ls s h.0 h.1
    stmt_leaves g d a (update t l op e) h = update_leaves g d a t l op e h.0 h.1 h.2
    stmt_leaves g d a (run ts s es) h = run_leaves g d a ts s es h
    stmt_leaves g d a (print es) h = print_leaves g d a es h
    stmt_leaves g d a (panic e) h = panic_leaves g d a e h.0 h.1
    stmt_leaves g d a (if_statement e x y) h = if_leaves g d a e x y h.0 (stmts_leave g d a x h.1) (stmts_leave g d a y h.2)
    stmt_leaves g d a (for_statement o post ss) h = for_leaves g d a o post ss h.0 (stmts_leave (in_post g) d a post h.1) (stmts_leave (inside_loop g) d a ss h.2)
    stmt_leaves g d a (range_statement o t e ss) h = range_leaves g d a o t e ss h.0 h.1 h.2 h.3 (stmts_leave (inside_loop g) (known_numbers (o ∷ []) ++ d) a ss h.4)
    stmt_leaves g d a (switch_statement e cs) h = switch_leaves calls g d a e cs h.0 h.1 (clauses_leave g d a (expr_type e) cs h.1)
    stmt_leaves g d a (block ss) h = stmts_leave g d a ss h
    stmt_leaves g d a break h = λ ls σ w k. (σ, grows_not σ, (k, h, refl))
    stmt_leaves g d a continue h = λ ls σ w k. (σ, grows_not σ, (k, h))
    stmt_leaves g d a (return s) h = return_leaves g d a s h.0 h.1

    pub stmts_leave : (g : Setting) (d : List ℕ) → Answers g.functions g.variables calls → (ss : Stmts) → AreStmts g d ss → StmtsLeave g d ss
    stmts_leave g d a no_stmts h = λ ls σ w k. (σ, grows_not σ, (k, refl))
    stmts_leave g d a (some_stmts s ss) h = sequence g d s ss (stmt_leaves g d a s h.0) (stmts_leave g (declared_after d s) a ss h.1)

    clauses_leave : (g : Setting) (d : List ℕ) (a : Answers g.functions g.variables calls) (t : Type') (cs : Clauses) → AreClauses g d t cs → ClauseLeaves calls g d a cs
    clauses_leave g d a t no_clauses h = none_leave calls g d a
    clauses_leave g d a t (clause cases ss falls cs) h =
        let parts = clause_parts g d t cases ss falls cs h in
        some_leave calls g d a cases ss falls cs (all_grow d ss) (stmts_leave (inside_clause g) d a ss parts.0) parts.1 (clauses_leave g d a t cs parts.2)
