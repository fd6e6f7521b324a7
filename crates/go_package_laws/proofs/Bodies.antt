-- Statements without fault are well typed, and what is in scope behind them stands for variables that have a value.
use Rattle.std.proofs.Common.{◌≡◌, ℕ, Bool, true, false, not, ◌&&◌, ◌||◌, Option, Some, None, List, [], ◌∷◌, ◌++◌, map, length, refl, sym, ap, subst, ◌∙◌, inl, inr}
use Rattle.std.specs.Prelude.{option_map, is_some, if◌then◌else◌}
use Rattle.std.specs.List.{slice_get}
use Rattle.std.proofs.lemmas.Bool.{cases_Bool}
use Rattle.go_text.specs.declared.place.Place.{Place}
use Rattle.go_ast.specs.Trees as source
use Rattle.go_ast.specs.Trees.{Name, Simple, Statement, empty, declaration, simple, return, break, continue, fallthrough, block_statement, if_statement, for_statement, range_statement, switch_statement, Block, block, If, conditional as conditional_if, Else, no_else, else_block, else_if, StatementList, no_stmts, some_stmts, Cases, no_clauses, clause}
use Rattle.go_const.specs.declared.constant.Const.TheVariants.{Bool as Truth}
use Rattle.go_types.specs.declared.types.Basic.TheVariants as basics
use Rattle.go_types.specs.Types.{Type', basic}
use Rattle.go_types.specs.Relations.{underlying}
use Rattle.go_typed.specs.Trees as typed
use Rattle.go_typed.specs.Trees.{Symbol, Expr, expr_type, constant, pack_stmts, pack_clauses}
use Rattle.go_meaning_laws.specs.WellTyped as sound
use Rattle.go_meaning_laws.specs.WellTyped.{Signature, Setting, known_numbers, IsStmt, AreClauses, IsCounter}
use Rattle.go_expr.specs.Known.{value, Verdict, Fine}
use Rattle.go_expr.specs.Rules as rules
use Rattle.go_expr.specs.Rules.{fine, defaulted, default_type, fine_list}
use Rattle.go_expr.specs.Verdicts.{asked, both, operand, operand_list, verdict, broken}
use Rattle.go_scope.specs.Scopes.{is_blank}
use Rattle.go_stmt.specs.Scopes.{StatementEnv, Context, scope_in, enter_scope, own, variable_number, declare_new, Checked, pure_checked, follow, single, node, in_new_block, perhaps}
use Rattle.go_stmt.specs.Rules.{return_verdict, conditional, looped, ranged, SwitchClause, case_value, clause_verdict, switched, branch}
use Rattle.go_stmt.specs.Statements.{value_at, values_at, declaration_at, simple_at, optional_at, condition_at, in_block, in_loop, in_clause, before_others, context_behind as past, leads_on, has_no_clauses, tag_at, cases_at, clause_at, range_type, range_names, range_number, is_unsure, statement_at, if_at, else_at, block_at, list_at, clauses_at}
use Rattle.go_package_laws.proofs.Soundness.{Table, IsSoundType, AreSoundTypes, IsSoundValue}
use Rattle.go_package_laws.proofs.Texts.{HasTexts, HaveTexts}
use Rattle.go_package_laws.proofs.BodyTexts.{MayHaveTexts, CasesHaveTexts, FirstHasTexts, IsPost, StmtHasTexts, StmtsHaveTexts, BlockHasTexts, IfHasTexts, ElseHasTexts, ClausesHaveTexts}
use Rattle.go_package_laws.proofs.Expected.{Expected}
use Rattle.go_package_laws.proofs.Related.{two_none, Covers, all_covers, setting_in, grows_none, grows_on, Related, Lies, lies_before, SureAt, Sure, stays, sure_given, follow_at, sure_follow, sure_seen, node_at, sure_node, known_at, sure_as, inside_at, sure_inside, apart_at, sure_apart}
use Rattle.go_package_laws.proofs.Values.{checked_part, AreSoundValues}
use Rattle.go_package_laws.proofs.Numbered.{Outside, scope_sound, new_grows, new_related, numbered, new_own, new_place}
use Rattle.go_package_laws.proofs.Lists.{behind, AreList, sure_none, sure_appended, sure_single}
use Rattle.go_package_laws.proofs.Leaves.{fine_is, value_sure, values_sure, SoundCondition, condition_sure}
use Rattle.go_package_laws.proofs.Lefts.{integer_under}
use Rattle.go_package_laws.proofs.Simples.{simple_sure, optional_sure, post_sure}
use Rattle.go_package_laws.proofs.Groups.{declaration_sure, block_of_list}
use Rattle.go_package_laws.proofs.Cases.{sound_operands}
use Rattle.go_package_laws.proofs.Settled.{settled_of}
use Rattle.go_package_laws.proofs.Compound.{counts, sound_return, sound_branch, sound_if, sound_loop, sound_switch, SoundClause, SoundValues, sound_clause, front_clause, of_cases, ranged_parts}

abbrev after_clause : List ℕ → SwitchClause → List ℕ
after_clause d k = sound.declared_after_all d (k.1).0

default_behind : (d : List ℕ) (compared : Option Type') (again falls : Bool) (ss : List typed.Stmt) (y : SwitchClause) → clause_verdict compared again falls None ss ≡ Fine y → behind d ss ≡ after_clause d y
default_behind d compared true falls ss y is = absurd cc
default_behind d compared false falls ss y is = (let same : (None, (pack_stmts ss, falls)) ≡ y = cc in ap (after_clause d) same)

clause_behind : (d : List ℕ) (compared : Option Type') (again falls : Bool) (o : Option (List Expr)) (ss : List typed.Stmt) (y : SwitchClause) → clause_verdict compared again falls o ss ≡ Fine y → behind d ss ≡ after_clause d y
clause_behind d compared again falls None ss y is = default_behind d compared again falls ss y is
clause_behind d compared again falls (Some es) ss y is =
    let part = checked_part (λ es. Fine (Some (typed.pack_exprs es), (pack_stmts ss, falls))) (asked (λ t. fine_list [] (map (case_value t) es)) compared) y is in
    let same : (Some (typed.pack_exprs part.0), (pack_stmts ss, falls)) ≡ y = (let q : Fine (Some (typed.pack_exprs part.0), (pack_stmts ss, falls)) ≡ Fine y = part.2 in cc) in
    ap (after_clause d) same

some_mapped : {A : Type 0} (o : Option A) (y : Option A) → option_map Some o ≡ Some y → (z : A) × (o ≡ Some z) × (Some z ≡ y)
some_mapped None y h = absurd cc
some_mapped (Some z) y h = (z, refl, cc)

module _ (x : Expected) (w : Table) (functions : Symbol → Option Signature) (variables : Symbol → Option Type') (locals : List Type') (results : List Type') where
  abbrev setting : Bool → Bool → Setting
  setting b k = setting_in functions variables locals results b k

  abbrev pub at : Context → Setting
  at c = setting c.breaks c.continues

  -- names outside of the function are sound wherever they stand, and so is what the function gives
  abbrev pub Good : Context → Type 0
  Good c = ((b k : Bool) → Outside w (setting b k) c) × ((c.results ≡ map Some results) × AreSoundTypes w results) × ((s : Symbol) (t : Type') → variables s ≡ Some t → IsSoundType w t)

  covers : (d : List ℕ) (ss : List typed.Stmt) → Covers d (behind d ss)
  covers d ss = all_covers (pack_stmts ss) d

  -- ---- what returns and branches are made of

  return_sure : (c : Context) → Good c → (p : Place) (es : source.ExpressionList) → HaveTexts es → Sure w locals behind (AreList w (at c)) (statement_at c (return p es))
  return_sure c g p es texts =
      sure_node w locals stays (AreSoundValues x w (at c)) behind (AreList w (at c)) p (return_verdict c.results) (values_at c es)
      (λ d k y h is l. sound_return x w (at c) d results k y refl (g.1).1 h (subst (λ ts. return_verdict ts k ≡ Fine y) (g.1).0 is))
      (values_sure x w (at c) c (g.0 c.breaks c.continues) es texts)

  branch_sure : (g : Setting) (p : Place) (b : Bool) (ss : List typed.Stmt) → ((d : List ℕ) → b ≡ true → AreList w g d ss × (d ≡ behind d ss)) → Sure w locals behind (AreList w g) (node p (branch b) (pure_checked ss))
  branch_sure g p b ss h =
      sure_node w locals stays (λ d l. l ≡ ss) behind (AreList w g) p (branch b) (pure_checked ss)
      (λ d l y same is k. (
      let part = sound_branch x w g d b l y is in
      subst (λ (z : List typed.Stmt). AreList w g d z × (d ≡ behind d z)) (sym same ∙ part.1) (h d part.0)
      ))
      (sure_given w locals (λ d l. l ≡ ss) ss (λ d l. refl))

  -- ---- ifs

  if_node : (c : Context) → Good c → (p : Place) (before : Option Simple) (e : source.Expression) (b : Block) (other : Else) → FirstHasTexts before → HasTexts e → Sure w locals stays (AreList w (at c)) (block_at c b) → Sure w locals stays (AreList w (at c)) (else_at c other)
      → Sure w locals behind (AreList w (at c)) (node p (λ k. conditional k.0 (k.1).0 ((k.1).1).0 ((k.1).1).1) (follow (optional_at c p before) (follow (value_at c e) (follow (block_at c b) (else_at c other)))))
  if_node c g p before e b other texts more one two =
      let s = at c in
      let out = g.0 c.breaks c.continues in
      let arms = sure_follow w locals stays (AreList w s) stays (AreList w s) (block_at c b) (else_at c other) one two in
      let Arms = λ (d : List ℕ) (k : List typed.Stmt × List typed.Stmt). AreList w s d k.0 × AreList w s d k.1 in
      let middle = sure_follow w locals stays (IsSoundValue w s) stays Arms (value_at c e) (follow (block_at c b) (else_at c other)) (value_sure x w s c out e more) arms in
      let Middle = λ (d : List ℕ) (k : Expr × (List typed.Stmt × List typed.Stmt)). IsSoundValue w s d k.0 × Arms d k.1 in
      sure_node w locals (λ d (k : List typed.Stmt × (Expr × (List typed.Stmt × List typed.Stmt))). behind d k.0) (λ d (k : List typed.Stmt × (Expr × (List typed.Stmt × List typed.Stmt))). AreList w s d k.0 × Middle (behind d k.0) k.1)
      behind (AreList w s) p (λ k. conditional k.0 (k.1).0 ((k.1).1).0 ((k.1).1).1) (follow (optional_at c p before) (follow (value_at c e) (follow (block_at c b) (else_at c other))))
      (λ d k y h is l. sound_if x w s d k.0 (k.1).0 ((k.1).1).0 ((k.1).1).1 y h.0 (h.1).0 ((h.1).1).0 ((h.1).1).1 is)
      (sure_follow w locals behind (AreList w s) stays Middle (optional_at c p before) (follow (value_at c e) (follow (block_at c b) (else_at c other))) (optional_sure x w s c out g.2 p before texts) middle)

  -- ---- loops

  for_node : (c : Context) → Good c → (p : Place) (before : Option Simple) (e : Option source.Expression) (post : Option Simple) (b : Block) → FirstHasTexts before → MayHaveTexts e → IsPost post → Sure w locals stays (AreList w (at (in_loop c))) (block_at (in_loop c) b)
      → Sure w locals behind (AreList w (at c)) (node p (λ k. looped k.0 (k.1).0 ((k.1).1).0 ((k.1).1).1) (follow (optional_at c p before) (follow (condition_at c e) (follow (optional_at c p post) (block_at (in_loop c) b)))))
  for_node c g p before e post b texts more last one =
      let s = at c in
      let out = g.0 c.breaks c.continues in
      let behind_turn = setting false false in
      let turn = sure_follow w locals stays (AreList w behind_turn) stays (AreList w (at (in_loop c))) (optional_at c p post) (block_at (in_loop c) b) (post_sure x w behind_turn c (g.0 false false) g.2 p post last) one in
      let Turn = λ (d : List ℕ) (k : List typed.Stmt × List typed.Stmt). AreList w behind_turn d k.0 × AreList w (at (in_loop c)) d k.1 in
      let middle = sure_follow w locals stays (SoundCondition x w s) stays Turn (condition_at c e) (follow (optional_at c p post) (block_at (in_loop c) b)) (condition_sure x w s c out e more) turn in
      let Middle = λ (d : List ℕ) (k : Option Expr × (List typed.Stmt × List typed.Stmt)). SoundCondition x w s d k.0 × Turn d k.1 in
      sure_node w locals (λ d (k : List typed.Stmt × (Option Expr × (List typed.Stmt × List typed.Stmt))). behind d k.0) (λ d (k : List typed.Stmt × (Option Expr × (List typed.Stmt × List typed.Stmt))). AreList w s d k.0 × Middle (behind d k.0) k.1)
      behind (AreList w s) p (λ k. looped k.0 (k.1).0 ((k.1).1).0 ((k.1).1).1) (follow (optional_at c p before) (follow (condition_at c e) (follow (optional_at c p post) (block_at (in_loop c) b))))
      (λ d k y h is l. sound_loop x w s d k.0 (k.1).0 ((k.1).1).0 ((k.1).1).1 y h.0 (h.1).0 ((h.1).1).0 ((h.1).1).1 is)
      (sure_follow w locals behind (AreList w s) stays Middle (optional_at c p before) (follow (condition_at c e) (follow (optional_at c p post) (block_at (in_loop c) b))) (optional_sure x w s c out g.2 p before texts) middle)

  -- ---- ranges

  abbrev inner_range : Context → Place → Option Name → source.Expression → Block → StatementEnv → Checked (List typed.Stmt)
  inner_range c p o e b env =
      let s = scope_in c None env in
      let t = range_type (operand (verdict s e)) in
      let change = declare_new (range_names o t) in
      node p (λ k. ranged (range_number o (change env)) k.0 k.1) (follow (value_at c e) (perhaps (is_unsure s o t b) (λ env. block_at (in_loop c) b (change env)))) env

  -- the blank name counts nothing
  blank_counted : (env : StatementEnv) (d : List ℕ) (n : Name) (t : Type') (u : Option Type') → is_blank n.text ≡ true → own env n ≡ None → Related w locals env d
      → ((g : Setting) → g.locals ≡ locals → IsCounter g (range_number (Some n) (declare_new (range_names (Some n) u) env)) t)
      × Related w locals (declare_new (range_names (Some n) u) env) (known_numbers (range_number (Some n) (declare_new (range_names (Some n) u) env) ∷ []) ++ d)
  blank_counted env d n t u blank fresh r =
      let final = declare_new (range_names (Some n) u) env in
      let stays_so : final ≡ env = rw blank refl in
      let number : variable_number final n ≡ None = ap (λ (e : StatementEnv). variable_number e n) stays_so ∙ numbered env n None fresh in (
        λ g same. subst (λ (o : Option ℕ). IsCounter g o t) (sym number) tt,
        subst (λ (o : Option ℕ). Related w locals final (known_numbers (o ∷ []) ++ d)) (sym number) (subst (λ (e : StatementEnv). Related w locals e d) (sym stays_so) r),
      )

  named_counted : (env : StatementEnv) (d : List ℕ) (n : Name) (t : Type') (u : Option Type') → u ≡ Some t → is_blank n.text ≡ false → IsSoundType w t → ((n : Name) → own env n ≡ None) → Related w locals env d
      → Lies w locals (declare_new (range_names (Some n) u) env) → ((g : Setting) → g.locals ≡ locals → IsCounter g (range_number (Some n) (declare_new (range_names (Some n) u) env)) t)
      × Related w locals (declare_new (range_names (Some n) u) env) (known_numbers (range_number (Some n) (declare_new (range_names (Some n) u) env) ∷ []) ++ d)
  named_counted env d n t u is named sound fresh r lies =
      subst (λ (u : Option Type'). Lies w locals (declare_new (range_names (Some n) u) env) → ((g : Setting) → g.locals ≡ locals → IsCounter g (range_number (Some n) (declare_new (range_names (Some n) u) env)) t)
      × Related w locals (declare_new (range_names (Some n) u) env) (known_numbers (range_number (Some n) (declare_new (range_names (Some n) u) env) ∷ []) ++ d)) (sym is)
      (λ there. (
      let final = declare_new ((n, Some t) ∷ []) env in
      let new = new_related w locals (n ∷ []) (t ∷ []) (t ∷ []) env d r there (inr (inr (named, fresh n, refl, sound)), tt) in
      let owned = new_own w locals n t env named (fresh n) in
      let number : variable_number final n ≡ Some (length env.types) = numbered final n (Some (Some (value (typed.local t (length env.types))))) owned in
      let place : slice_get locals (length env.types) ≡ Some t = new_place w locals n t env final named (fresh n) (grows_none final) there in
      (λ g same. subst (λ (o : Option ℕ). IsCounter g o t) (sym number) (ap (λ l. slice_get l (length env.types)) same ∙ place), new.1)
      )) lies

  -- the variable that counts, in a block of its own
  counted : (env : StatementEnv) (d : List ℕ) (o : Option Name) (t : Type') (u : Option Type') → u ≡ Some t → IsSoundType w t → ((n : Name) → own env n ≡ None) → Related w locals env d → Lies w locals (declare_new (range_names o u) env)
      → ((g : Setting) → g.locals ≡ locals → IsCounter g (range_number o (declare_new (range_names o u) env)) t) × Related w locals (declare_new (range_names o u) env) (known_numbers (range_number o (declare_new (range_names o u) env) ∷ []) ++ d)
  counted env d None t u is sound fresh r lies = (λ g same. tt, r)
  counted env d (Some n) t u is sound fresh r lies = elim (cases_Bool (is_blank n.text)) [
    | inl blank ↦ blank_counted env d n t u blank (fresh n) r
    | inr named ↦ named_counted env d n t u is named sound fresh r lies
  ]

  range_typed : (z t : Expr) → rules.is_integer (expr_type z) ≡ true → defaulted z ≡ Fine t → range_type (Some z) ≡ Some (default_type (expr_type z))
  range_typed z t h is = rw h (settled_of z t is)

  range_parts : (a : Option Expr) (hidden : Bool) (b : Option (List typed.Stmt)) (rule : Expr × Option (List typed.Stmt) → Verdict (List typed.Stmt)) (y : List typed.Stmt) → fine (asked rule (both a (if hidden then None else Some b))) ≡ Some y
      → (e : Expr) × (a ≡ Some e) × (rule (e, b) ≡ Fine y)
  range_parts None hidden b rule y h = absurd cc
  range_parts (Some e) true b rule y h = absurd cc
  range_parts (Some e) false b rule y h = (e, refl, fine_is (rule (e, b)) y h)

  range_at : (c : Context) → Good c → (p : Place) (o : Option Name) (e : source.Expression) (b : Block) → HasTexts e → Sure w locals stays (AreList w (at (in_loop c))) (block_at (in_loop c) b) → (env : StatementEnv) → ((n : Name) → own env n ≡ None)
      → SureAt w locals (λ d y. known_numbers (range_number o (declare_new (range_names o (range_type (operand (verdict (scope_in c None env) e)))) env) ∷ []) ++ d) (λ d y. AreList w (at c) d y × (d ≡ behind d y)) (inner_range c p o e b) env
  range_at c g p o e b texts body env fresh =
      let s = scope_in c None env in
      let v = operand (verdict s e) in
      let final = declare_new (range_names o (range_type v)) env in
      let number = range_number o final in
      let rule = λ (k : Expr × Option (List typed.Stmt)). ranged number k.0 k.1 in
      let hidden = is_unsure s o (range_type v) b in
      let inner = body final in
      let there = (block_at (in_loop c) b final).after in (
        grows_on env final there (new_grows (range_names o (range_type v)) env) inner.0,
        λ d r lies none y is. (
            let scope = scope_sound w (at c) c (g.0 c.breaks c.continues) env d r None in
            let k = range_parts v hidden (block_at (in_loop c) b final).known rule y is in
            let z = k.0 in
            let parts = ranged_parts x w (at c) number z (block_at (in_loop c) b final).known y (rules.is_integer (expr_type z)) refl k.2 in
            let t = parts.0 in
            let made = x.sound_defaulted w (at c) d z (x.sound_operand w (at c) d s e scope texts z k.1) t parts.3 in
            let usual : range_type v ≡ Some (default_type (expr_type z)) = ap range_type k.1 ∙ range_typed z t parts.2 parts.3 in
            let type : range_type v ≡ Some (expr_type t) = subst (λ u. range_type v ≡ Some u) (sym made.1) usual in
            let start = lies_before w locals final there inner.0 lies in
            let count = counted env d o (expr_type t) (range_type v) type (made.0).1 fresh r start in
            let faultless = two_none ((value_at c e env).faults ++ (block_at (in_loop c) b final).faults) (broken p (asked rule (both v (if hidden then None else Some (block_at (in_loop c) b final).known)))) none in
            let bodies = two_none (value_at c e env).faults (block_at (in_loop c) b final).faults faultless.0 in
            let one = inner.1 (known_numbers (number ∷ []) ++ d) count.1 lies bodies.1 parts.1 parts.4 in
            let int : sound.is_integer_type (underlying (expr_type t)) ≡ true =
            integer_under w (expr_type t) (made.0).1 (ap rules.is_integer made.1 ∙ counts (expr_type z) parts.2) in
            let whole : IsStmt (at c) d (typed.range_statement number (expr_type t) t (pack_stmts parts.1)) = ((made.0).0, refl, int, count.0 (at c) refl, one.0) in
            (subst (λ (ss : List typed.Stmt). AreList w (at c) d ss × (d ≡ behind d ss)) parts.5 ((whole, tt), refl), one.1)
            ),
      )

  range_sure : (c : Context) → Good c → (p : Place) (o : Option Name) (e : source.Expression) (b : Block) → HasTexts e → Sure w locals stays (AreList w (at (in_loop c))) (block_at (in_loop c) b) → Sure w locals behind (AreList w (at c)) (statement_at c (range_statement p o e b))
  range_sure c g p o e b texts body =
      let s = λ (env : StatementEnv) (d : List ℕ) (y : List typed.Stmt). known_numbers (range_number o (declare_new (range_names o (range_type (operand (verdict (scope_in c None env) e)))) env) ∷ []) ++ d in
      let P = λ (d : List ℕ) (y : List typed.Stmt). AreList w (at c) d y × (d ≡ behind d y) in
      sure_as w locals stays P behind (AreList w (at c)) (in_new_block (inner_range c p o e b)) (λ d y h. h) (λ env. apart_at w locals (s (enter_scope env)) P (inner_range c p o e b) env (range_at c g p o e b texts body (enter_scope env) (λ n. refl)))

  -- ---- switches

  tag_sure : (c : Context) → Good c → (tag : Option source.Expression) → MayHaveTexts tag → Sure w locals stays (IsSoundValue w (at c)) (tag_at c tag)
  tag_sure c g None texts = sure_given w locals (IsSoundValue w (at c)) (constant (basic basics.Bool) (Truth true)) (λ d l. inr (inl ((refl, refl), refl, tt)))
  tag_sure c g (Some e) texts = value_sure x w (at c) c (g.0 c.breaks c.continues) e texts

  cases_sure : (c : Context) → Good c → (values : Option source.ExpressionList) → CasesHaveTexts values → Sure w locals stays (SoundValues x w (at c)) (cases_at c values)
  cases_sure c g None texts = sure_given w locals (SoundValues x w (at c)) None (λ d l. tt)
  cases_sure c g (Some es) texts = λ env. (
    grows_none env,
    λ d r lies none y is. (
        let s = scope_in c None env in
        let part = some_mapped (operand_list s es) y is in
        (subst (SoundValues x w (at c) d) part.2 (sound_operands x w (at c) d s (scope_sound w (at c) c (g.0 c.breaks c.continues) env d r None) es texts part.0 part.1), r)
        ),
  )

  abbrev SoundClauses : Setting → Option Type' → Cases → List ℕ → List SwitchClause → Type 0
  SoundClauses s compared cs d ks = (has_no_clauses cs ≡ false → sound.is_last_clause (pack_clauses ks) ≡ false)
      × ((t : Type') → compared ≡ Some t → IsSoundType w t → AreClauses s d t (pack_clauses ks))

  clause_sure : (c : Context) → Good c → (compared : Option Type') (again falls : Bool) (p : Place) (values : Option source.ExpressionList) (body : StatementEnv → Checked (List typed.Stmt)) → CasesHaveTexts values → Sure w locals behind (AreList w (setting true c.continues)) body
      → Sure w locals stays (SoundClause x w (at c) compared falls) (clause_at c compared again falls p values body)
  clause_sure c g compared again falls p values body texts h =
      let parts = follow (cases_at c values) body in
      let s = λ (d : List ℕ) (k : Option (List Expr) × List typed.Stmt). behind d k.1 in
      let P = λ (d : List ℕ) (k : Option (List Expr) × List typed.Stmt). SoundValues x w (at c) d k.0 × AreList w (setting true c.continues) d k.1 in
      let one = sure_follow w locals stays (SoundValues x w (at c)) behind (AreList w (setting true c.continues)) (cases_at c values) body (cases_sure c g values texts) h in
      let whole = sure_node w locals s P after_clause (SoundClause x w (at c) compared falls) p (λ k. clause_verdict compared again falls k.0 k.1) parts
      (λ d k y q is l. (sound_clause x w (at c) compared again falls d k.0 k.1 y q.0 q.1 is, clause_behind d compared again falls k.0 k.1 y is)) one in
      sure_apart w locals after_clause (SoundClause x w (at c) compared falls) (node p (λ k. clause_verdict compared again falls k.0 k.1) parts) whole

  more_clauses : (s : Setting) (compared : Option Type') (p : Place) (values : Option source.ExpressionList) (ss : StatementList) (rest : Cases) (d : List ℕ) (ks : List SwitchClause) (ls : List SwitchClause)
      → ((k : SwitchClause) × (ks ≡ k ∷ []) × SoundClause x w s compared (leads_on ss && not (has_no_clauses rest)) d k) → SoundClauses s compared rest d ls → SoundClauses s compared (clause p values ss rest) d (ks ++ ls)
  more_clauses s compared p values ss rest d ks ls one two =
      let k = one.0 in
      subst (λ (l : List SwitchClause). SoundClauses s compared (clause p values ss rest) d (l ++ ls)) (sym one.1) (
        λ h. refl,
        λ t is sound. front_clause x w s d t k (pack_clauses ls) (leads_on ss) (has_no_clauses rest) (one.2).0 two.0 (one.2).1 (λ es at. of_cases x w s d t k.0 es ((one.2).2 t is sound) at) (two.1 t is sound),
      )

  -- ---- all statements

  abbrev inner_switch : Context → Place → Option Simple → Option source.Expression → Cases → StatementEnv → Checked (List typed.Stmt)
  inner_switch c p before tag cs env =
      let compared = option_map (λ e. default_type (expr_type e)) (tag_at c tag (optional_at c p before env).after).known in
      node p (λ k. switched k.0 (k.1).0 (k.1).1) (follow (optional_at c p before) (follow (tag_at c tag) (clauses_at c compared false cs))) env

  switch_sure : (c : Context) → Good c → (p : Place) (before : Option Simple) (tag : Option source.Expression) (cs : Cases) → FirstHasTexts before → MayHaveTexts tag
      → ((compared : Option Type') → Sure w locals stays (SoundClauses (at c) compared cs) (clauses_at c compared false cs)) → Sure w locals behind (AreList w (at c)) (statement_at c (switch_statement p before tag cs))
  switch_sure c g p before tag cs texts more clauses env0 =
      let env = enter_scope env0 in
      let s = at c in
      let first = optional_at c p before env in
      let known = (tag_at c tag first.after).known in
      let compared = option_map (λ e. default_type (expr_type e)) known in
      let Tagged = λ (d : List ℕ) (v : Expr). IsSoundValue w s d v × (known ≡ Some v) in
      let Later = λ (d : List ℕ) (k : Expr × List SwitchClause). Tagged d k.0 × SoundClauses s compared cs d k.1 in
      let later = follow_at w locals stays Tagged stays (SoundClauses s compared cs) (tag_at c tag) (clauses_at c compared false cs) first.after
      (known_at w locals stays (IsSoundValue w s) (tag_at c tag) first.after (tag_sure c g tag more first.after)) (clauses compared (tag_at c tag first.after).after) in
      let all = follow_at w locals behind (AreList w s) stays Later (optional_at c p before) (follow (tag_at c tag) (clauses_at c compared false cs)) env (optional_sure x w s c (g.0 c.breaks c.continues) g.2 p before texts env) later in
      let whole = node_at w locals (λ d (k : List typed.Stmt × (Expr × List SwitchClause)). behind d k.0) (λ d (k : List typed.Stmt × (Expr × List SwitchClause)). AreList w s d k.0 × Later (behind d k.0) k.1) behind (AreList w s) p
      (λ k. switched k.0 (k.1).0 (k.1).1) (follow (optional_at c p before) (follow (tag_at c tag) (clauses_at c compared false cs))) env
      (λ d k y h is l. (
      let v = (k.1).0 in
      let tagged = (h.1).0 in
      sound_switch x w s d k.0 v (k.1).1 y h.0 tagged.0 (λ t at sound. ((h.1).1).1 t (ap (option_map (λ e. default_type (expr_type e))) tagged.1 ∙ ap Some at) sound) is
      )) all in
      inside_at w locals behind (AreList w s) (inner_switch c p before tag cs) env0 (λ d y. covers d y) whole

  mutual
    statement_sure : (c : Context) → Good c → (s : Statement) → StmtHasTexts s → Sure w locals behind (AreList w (at c)) (statement_at c s)
    statement_sure c g (empty p) texts = sure_none w (at c)
    statement_sure c g (declaration p d) texts = block_of_list x w (at c) (declaration_at c d) (declaration_sure x w (at c) c (g.0 c.breaks c.continues) d texts)
    statement_sure c g (simple p s) texts = sure_single w (at c) (simple_at c p s) (simple_sure x w (at c) c (g.0 c.breaks c.continues) g.2 p s texts)
    statement_sure c g (return p es) texts = return_sure c g p es texts
    statement_sure c g (break p) texts = branch_sure (at c) p c.breaks (typed.break ∷ []) (λ d is. ((is, tt), refl))
    statement_sure c g (continue p) texts = branch_sure (at c) p c.continues (typed.continue ∷ []) (λ d is. ((is, tt), refl))
    statement_sure c g (fallthrough p) texts = branch_sure (at c) p c.falls [] (λ d is. (tt, refl))
    statement_sure c g (block_statement b) texts = block_of_list x w (at c) (block_at c b) (block_sure c g b texts)
    statement_sure c g (if_statement i) texts = if_sure c g i texts
    statement_sure c g (for_statement p before e post b) texts =
        sure_inside w locals behind (AreList w (at c)) (node p (λ k. looped k.0 (k.1).0 ((k.1).1).0 ((k.1).1).1) (follow (optional_at c p before) (follow (condition_at c e) (follow (optional_at c p post) (block_at (in_loop c) b)))))
        (λ d y. covers d y) (for_node c g p before e post b texts.0 texts.1 texts.2 (block_apart (in_loop c) g b texts.3))
    statement_sure c g (range_statement p o e b) texts = range_sure c g p o e b texts.0 (block_apart (in_loop c) g b texts.1)
    statement_sure c g (switch_statement p before tag cs) texts = switch_sure c g p before tag cs texts.0 texts.1 (λ compared. clauses_sure c g compared false cs texts.2)

    if_sure : (c : Context) → Good c → (i : If) → IfHasTexts i → Sure w locals behind (AreList w (at c)) (if_at c i)
    if_sure c g (conditional_if p before e b other) texts =
        sure_inside w locals behind (AreList w (at c)) (node p (λ k. conditional k.0 (k.1).0 ((k.1).1).0 ((k.1).1).1) (follow (optional_at c p before) (follow (value_at c e) (follow (block_at c b) (else_at c other)))))
        (λ d y. covers d y) (if_node c g p before e b other texts.0 texts.1 (block_apart c g b texts.2) (else_sure c g other texts.3))

    if_apart : (c : Context) → Good c → (i : If) → IfHasTexts i → Sure w locals stays (AreList w (at c)) (if_at c i)
    if_apart c g (conditional_if p before e b other) texts =
        sure_apart w locals behind (AreList w (at c)) (node p (λ k. conditional k.0 (k.1).0 ((k.1).1).0 ((k.1).1).1) (follow (optional_at c p before) (follow (value_at c e) (follow (block_at c b) (else_at c other)))))
        (if_node c g p before e b other texts.0 texts.1 (block_apart c g b texts.2) (else_sure c g other texts.3))

    else_sure : (c : Context) → Good c → (e : Else) → ElseHasTexts e → Sure w locals stays (AreList w (at c)) (else_at c e)
    else_sure c g no_else texts = sure_given w locals (AreList w (at c)) [] (λ d l. tt)
    else_sure c g (else_block b) texts = block_apart c g b texts
    else_sure c g (else_if i) texts = if_apart c g i texts

    block_sure : (c : Context) → Good c → (b : Block) → BlockHasTexts b → Sure w locals behind (AreList w (at c)) (block_at c b)
    block_sure c g (block p ss q) texts = sure_inside w locals behind (AreList w (at c)) (list_at (in_block c) ss) (λ d y. covers d y) (list_sure (in_block c) g ss texts)

    block_apart : (c : Context) → Good c → (b : Block) → BlockHasTexts b → Sure w locals stays (AreList w (at c)) (block_at c b)
    block_apart c g (block p ss q) texts = sure_apart w locals behind (AreList w (at c)) (list_at (in_block c) ss) (list_sure (in_block c) g ss texts)

    pub list_sure : (c : Context) → Good c → (ss : StatementList) → StmtsHaveTexts ss → Sure w locals behind (AreList w (at c)) (list_at c ss)
    list_sure c g no_stmts texts = sure_none w (at c)
    list_sure c g (some_stmts s ss) texts =
        sure_appended w (at c) (statement_at (before_others c ss) s) (list_at (past c s) ss) (statement_sure (before_others c ss) g s texts.0) (list_sure (past c s) g ss texts.1)

    clauses_sure : (c : Context) → Good c → (compared : Option Type') (again : Bool) (cs : Cases) → ClausesHaveTexts cs → Sure w locals stays (SoundClauses (at c) compared cs) (clauses_at c compared again cs)
    clauses_sure c g compared again no_clauses texts = sure_given w locals (SoundClauses (at c) compared no_clauses) [] (λ d l. ((λ h. h), λ t is sound. tt))
    clauses_sure c g compared again (clause p values ss rest) texts =
        let s = at c in
        let falls = leads_on ss && not (has_no_clauses rest) in
        let body = list_at (in_clause c (not (has_no_clauses rest))) ss in
        let one = clause_at c compared again falls p values body in
        let One = λ (d : List ℕ) (ks : List SwitchClause). (k : SwitchClause) × (ks ≡ k ∷ []) × SoundClause x w s compared falls d k in
        let first = sure_seen w locals stays (SoundClause x w s compared falls) stays One (λ k. k ∷ []) one (λ d k h. ((k, refl, h), refl))
        (clause_sure c g compared again falls p values body texts.0 (list_sure (in_clause c (not (has_no_clauses rest))) g ss texts.1)) in
        let later = clauses_sure c g compared (again || not (is_some values)) rest texts.2 in
        sure_seen w locals (λ d (k : List SwitchClause × List SwitchClause). d) (λ d (k : List SwitchClause × List SwitchClause). One d k.0 × SoundClauses s compared rest d k.1) stays (SoundClauses s compared (clause p values ss rest)) (λ k. k.0 ++ k.1)
        (follow (single one) (clauses_at c compared (again || not (is_some values)) rest)) (λ d k h. (more_clauses s compared p values ss rest d k.0 k.1 h.0 h.1, refl))
        (sure_follow w locals stays One stays (SoundClauses s compared rest) (single one) (clauses_at c compared (again || not (is_some values)) rest) first later)
