-- Simple statements are well typed.
use Rattle.std.proofs.Common.{◌≡◌, ℕ, Bool, true, false, Option, Some, None, Ok, Err, List, [], ◌∷◌, ◌++◌, refl, sym, subst, ◌∙◌, inl, inr}
use Rattle.std.specs.Prelude.{if◌then◌else◌}
use Rattle.go_text.specs.declared.place.Place.{Place}
use Rattle.go_text.specs.declared.fault.FaultKind.TheVariants.{Mismatch}
use Rattle.go_ast.specs.Trees as source
use Rattle.go_ast.specs.Trees.{Simple, call_statement, increment, decrement, assignment, operator_assignment, short_var_decl}
use Rattle.go_ast.specs.declared.expression.BinaryOperator.{BinaryOperator}
use Rattle.go_const.specs.declared.operator.ArithmeticOperator.TheVariants.{Add, Subtract}
use Rattle.go_types.specs.Types.{Type'}
use Rattle.go_typed.specs.Trees.{Symbol, Expr, call, Exprs, Stmt, run, print, panic}
use Rattle.go_meaning_laws.specs.WellTyped.{Setting, IsExpr, declared_after, IsStmt}
use Rattle.go_expr.specs.Known.{Known, declared, value, results, printed, panicked, Fine, Breaks, Passed}
use Rattle.go_expr.specs.Rules.{fine, checked, wrong, least, binary_verdict}
use Rattle.go_expr.specs.Verdicts.{verdict, faults, bare_place}
use Rattle.go_stmt.specs.Scopes.{StatementEnv, Context, scope_in, Checked, still, pure_checked, follow, map_checked, node}
use Rattle.go_stmt.specs.Rules.{AssignedValues, stated, performed, assigned_to, is_left, updating, update_verdict, inc_dec_verdict}
use Rattle.go_stmt.specs.Statements.{value_at, values_at, blank_left, left_at, lefts_at, begins_at, simple_at, optional_at}
use Rattle.go_package_laws.proofs.Soundness.{Table, IsSoundValue}
use Rattle.go_package_laws.proofs.SoundNames.{IsSoundKnown}
use Rattle.go_package_laws.proofs.Texts.{HasTexts, HaveTexts}
use Rattle.go_package_laws.proofs.BodyTexts.{SimpleHasTexts, FirstHasTexts, IsPost}
use Rattle.go_package_laws.proofs.Expected.{Expected}
use Rattle.go_package_laws.proofs.Related.{SoundLocals, grows_none, Sure, stays, sure_given, sure_follow, sure_seen, sure_node}
use Rattle.go_package_laws.proofs.Values.{checked_part, AreSoundValues}
use Rattle.go_package_laws.proofs.Numbered.{Outside, scope_sound}
use Rattle.go_package_laws.proofs.Lists.{behind, AreList, sure_none, sure_single}
use Rattle.go_package_laws.proofs.Leaves.{fine_is, value_sure, values_sure}
use Rattle.go_package_laws.proofs.Lefts.{SoundVariables, AllLefts, Plain, sound_assignment, sound_step, sound_update}
use Rattle.go_package_laws.proofs.Shorts.{short_sure}

module _ (x : Expected) (w : Table) (g : Setting) where
  run_plain : (d : List ℕ) (t : Type') (f : Symbol) (es : Exprs) → IsSoundValue w g d (call t f es) → IsExpr g d (call t f es)
  run_plain d t f es (inl h) = absurd (let r : call t f es ≡ _ = h.2 in cc)
  run_plain d t f es (inr (inl h)) = h.0
  run_plain d t f es (inr (inr h)) = h.0

  sound_performed : (d : List ℕ) (k : Known) (y : Stmt) → IsSoundKnown w g d k → performed k ≡ Fine y → Plain x w g d y
  sound_performed d (declared (value (call t f es))) y h is = (let same : run (t ∷ []) f es ≡ y = cc in subst (Plain x w g d) same (run_plain d t f es h, refl))
  sound_performed d (results ts f es) y h is = (let same : run ts f es ≡ y = cc in subst (Plain x w g d) same ((h.0, h.1), refl))
  sound_performed d (printed (Ok es)) y h is = (let same : print es ≡ y = cc in subst (Plain x w g d) same (h, refl))
  sound_performed d (panicked e) y h is = (let same : panic e ≡ y = cc in subst (Plain x w g d) same (h, refl))
  sound_performed d k y h is = absurd cc

  -- a call that stands alone
  abbrev call_at : Context → source.Expression → StatementEnv → Checked Known
  call_at c e env = (let s = scope_in c None env in still (faults s e) (fine (verdict s e)) env)

  call_sure : (c : Context) → Outside w g c → (e : source.Expression) → HasTexts e → Sure w g.locals stays (IsSoundKnown w g) (call_at c e)
  call_sure c out e texts env = (grows_none env, λ d r lies none k is. (x.sound_known w g d (scope_in c None env) e (scope_sound w g c out env d r None) texts k (fine_is (verdict (scope_in c None env) e) k is), r))

  stated_same : (k y : Known) → stated k ≡ Fine y → k ≡ y
  stated_same (printed (Ok es)) y is = cc
  stated_same (printed (Err kind)) y is = cc
  stated_same (declared d) y is = cc
  stated_same (results ts f es) y is = cc
  stated_same (panicked e) y is = cc
  stated_same k y is = cc

  stated_sure : (c : Context) → Outside w g c → (e : source.Expression) → HasTexts e → Sure w g.locals stays (IsSoundKnown w g) (node (bare_place e) stated (call_at c e))
  stated_sure c out e texts =
      sure_node w g.locals stays (IsSoundKnown w g) stays (IsSoundKnown w g) (bare_place e) stated (call_at c e)
      (λ d k y h is l. (subst (IsSoundKnown w g d) (stated_same k y is) h, refl)) (call_sure c out e texts)

  -- ---- left sides

  some_left : (d : List ℕ) (e : Expr) → IsSoundValue w g d e → AllLefts x w g d (Some e ∷ [])
  some_left d e h = (h, tt)

  sure_if : {A : Type 0} (P : List ℕ → A → Type 0) (b : Bool) (f h : StatementEnv → Checked A) → Sure w g.locals stays P f → Sure w g.locals stays P h → Sure w g.locals stays P (λ env. if b then f env else h env)
  sure_if P true f h k l = k
  sure_if P false f h k l = l

  left_sure : (c : Context) → Outside w g c → (e : source.Expression) → HasTexts e → Sure w g.locals stays (AllLefts x w g) (left_at c e)
  left_sure c out e texts =
      sure_if (AllLefts x w g) (blank_left e) (pure_checked (None ∷ [])) (map_checked (λ e. Some e ∷ []) (value_at c e)) (sure_given w g.locals (AllLefts x w g) (None ∷ []) (λ d l. tt))
      (sure_seen w g.locals stays (IsSoundValue w g) stays (AllLefts x w g) (λ e. Some e ∷ []) (value_at c e) (λ d y h. ((h, tt), refl)) (value_sure x w g c out e texts))

  more_lefts : (d : List ℕ) (es fs : List (Option Expr)) → AllLefts x w g d es → AllLefts x w g d fs → AllLefts x w g d (es ++ fs)
  more_lefts d [] fs h k = k
  more_lefts d (None ∷ es) fs h k = more_lefts d es fs h k
  more_lefts d (Some e ∷ es) fs h k = (h.0, more_lefts d es fs h.1 k)

  lefts_sure : (c : Context) → Outside w g c → (es : source.ExpressionList) → HaveTexts es → Sure w g.locals stays (AllLefts x w g) (lefts_at c es)
  lefts_sure c out source.no_exprs texts = sure_given w g.locals (AllLefts x w g) [] (λ d l. tt)
  lefts_sure c out (source.some_exprs e es) texts =
      sure_seen w g.locals (λ d (k : List (Option Expr) × List (Option Expr)). d) (λ d (k : List (Option Expr) × List (Option Expr)). AllLefts x w g d k.0 × AllLefts x w g d k.1) stays (AllLefts x w g) (λ k. k.0 ++ k.1) (follow (left_at c e) (lefts_at c es))
      (λ d k h. (more_lefts d k.0 k.1 h.0 h.1, refl)) (sure_follow w g.locals stays (AllLefts x w g) stays (AllLefts x w g) (left_at c e) (lefts_at c es) (left_sure c out e texts.0) (lefts_sure c out es texts.1))

  -- ---- operators with an assignment

  sound_updated : (d : List ℕ) → SoundLocals w g.locals d → SoundVariables x w g → (op : BinaryOperator) (a b : Expr) (left : Bool) (y : Stmt) → is_left a ≡ left → IsSoundValue w g d a → IsSoundValue w g d b → update_verdict op a b ≡ Fine y → Plain x w g d y
  sound_updated d l v op a b true y at h k is =
      let r : update_verdict op a b ≡ checked updating (binary_verdict op a b) = rw (at, update_verdict) refl in
      let part = checked_part updating (binary_verdict op a b) y (sym r ∙ is) in
      sound_update x w g d l v part.0 y (x.sound_binary w g d op a b h k part.0 part.1) part.2
  sound_updated d l v op a b false y at h k is = absurd (
      elim (least (Mismatch ∷ wrong (binary_verdict op a b))) as (λ o. least (Mismatch ∷ wrong (binary_verdict op a b)) ≡ o → ⊥) [
        | None ↦ λ some. (let r : update_verdict op a b ≡ Passed = rw (at, update_verdict, some) refl in cc)
        | Some kind ↦ λ some. (let r : update_verdict op a b ≡ Breaks kind = rw (at, update_verdict, some) refl in cc)
      ] refl)

  -- one that declares nothing
  pub plain_sure : (c : Context) → Outside w g c → SoundVariables x w g → (p : Place) (s : Simple) → IsPost (Some s) → Sure w g.locals stays (IsStmt g) (simple_at c p s)
  plain_sure c out v p (call_statement e) texts =
      sure_node w g.locals stays (IsSoundKnown w g) stays (IsStmt g) p performed (node (bare_place e) stated (call_at c e)) (λ d k y h is l. ((sound_performed d k y h is).0, refl)) (stated_sure c out e texts)
  plain_sure c out v p (increment e) texts =
      sure_node w g.locals stays (IsSoundValue w g) stays (IsStmt g) p (inc_dec_verdict Add) (value_at c e) (λ d k y h is l. ((sound_step x w g d l v Add k y h is).0, refl)) (value_sure x w g c out e texts)
  plain_sure c out v p (decrement e) texts =
      sure_node w g.locals stays (IsSoundValue w g) stays (IsStmt g) p (inc_dec_verdict Subtract) (value_at c e) (λ d k y h is l. ((sound_step x w g d l v Subtract k y h is).0, refl)) (value_sure x w g c out e texts)
  plain_sure c out v p (assignment ls rs) texts =
      sure_node w g.locals (λ d (k : List (Option Expr) × AssignedValues). d) (λ d (k : List (Option Expr) × AssignedValues). AllLefts x w g d k.0 × AreSoundValues x w g d k.1) stays (IsStmt g) p (λ k. assigned_to k.0 k.1) (follow (lefts_at c ls) (values_at c rs))
      (λ d k y h is l. ((sound_assignment x w g d l v k.0 k.1 y h.0 h.1 is).0, refl))
      (sure_follow w g.locals stays (AllLefts x w g) stays (AreSoundValues x w g) (lefts_at c ls) (values_at c rs) (lefts_sure c out ls texts.0) (values_sure x w g c out rs texts.1))
  plain_sure c out v p (operator_assignment op a b) texts =
      sure_node w g.locals (λ d (k : Expr × Expr). d) (λ d (k : Expr × Expr). IsSoundValue w g d k.0 × IsSoundValue w g d k.1) stays (IsStmt g) p (λ k. update_verdict op k.0 k.1) (follow (value_at c a) (value_at c b))
      (λ d k y h is l. ((sound_updated d l v op k.0 k.1 (is_left k.0) y refl h.0 h.1 is).0, refl))
      (sure_follow w g.locals stays (IsSoundValue w g) stays (IsSoundValue w g) (value_at c a) (value_at c b) (value_sure x w g c out a texts.0) (value_sure x w g c out b texts.1))
  plain_sure c out v p (short_var_decl ns es) texts = absurd texts

  -- what is done behind each turn of a loop
  pub post_sure : (c : Context) → Outside w g c → SoundVariables x w g → (p : Place) (o : Option Simple) → IsPost o → Sure w g.locals stays (AreList w g) (optional_at c p o)
  post_sure c out v p None texts = sure_given w g.locals (AreList w g) [] (λ d l. tt)
  post_sure c out v p (Some s) texts = sure_seen w g.locals stays (IsStmt g) stays (AreList w g) (λ s. s ∷ []) (simple_at c (begins_at p s) s) (λ d y h. ((h, tt), refl)) (plain_sure c out v (begins_at p s) s texts)

  pub simple_sure : (c : Context) → Outside w g c → SoundVariables x w g → (p : Place) (s : Simple) → SimpleHasTexts s → Sure w g.locals declared_after (IsStmt g) (simple_at c p s)
  simple_sure c out v p (call_statement e) texts =
      sure_node w g.locals stays (IsSoundKnown w g) declared_after (IsStmt g) p performed (node (bare_place e) stated (call_at c e)) (λ d k y h is l. sound_performed d k y h is) (stated_sure c out e texts)
  simple_sure c out v p (increment e) texts =
      sure_node w g.locals stays (IsSoundValue w g) declared_after (IsStmt g) p (inc_dec_verdict Add) (value_at c e) (λ d k y h is l. sound_step x w g d l v Add k y h is) (value_sure x w g c out e texts)
  simple_sure c out v p (decrement e) texts =
      sure_node w g.locals stays (IsSoundValue w g) declared_after (IsStmt g) p (inc_dec_verdict Subtract) (value_at c e) (λ d k y h is l. sound_step x w g d l v Subtract k y h is) (value_sure x w g c out e texts)
  simple_sure c out v p (assignment ls rs) texts =
      sure_node w g.locals (λ d (k : List (Option Expr) × AssignedValues). d) (λ d (k : List (Option Expr) × AssignedValues). AllLefts x w g d k.0 × AreSoundValues x w g d k.1) declared_after (IsStmt g) p (λ k. assigned_to k.0 k.1) (follow (lefts_at c ls) (values_at c rs))
      (λ d k y h is l. sound_assignment x w g d l v k.0 k.1 y h.0 h.1 is)
      (sure_follow w g.locals stays (AllLefts x w g) stays (AreSoundValues x w g) (lefts_at c ls) (values_at c rs) (lefts_sure c out ls texts.0) (values_sure x w g c out rs texts.1))
  simple_sure c out v p (operator_assignment op a b) texts =
      sure_node w g.locals (λ d (k : Expr × Expr). d) (λ d (k : Expr × Expr). IsSoundValue w g d k.0 × IsSoundValue w g d k.1) declared_after (IsStmt g) p (λ k. update_verdict op k.0 k.1) (follow (value_at c a) (value_at c b))
      (λ d k y h is l. sound_updated d l v op k.0 k.1 (is_left k.0) y refl h.0 h.1 is)
      (sure_follow w g.locals stays (IsSoundValue w g) stays (IsSoundValue w g) (value_at c a) (value_at c b) (value_sure x w g c out a texts.0) (value_sure x w g c out b texts.1))
  simple_sure c out v p (short_var_decl ns es) texts = short_sure x w g c out p ns es texts

  pub optional_sure : (c : Context) → Outside w g c → SoundVariables x w g → (p : Place) (o : Option Simple) → FirstHasTexts o → Sure w g.locals behind (AreList w g) (optional_at c p o)
  optional_sure c out v p None texts = sure_none w g
  optional_sure c out v p (Some s) texts = sure_single w g (simple_at c (begins_at p s) s) (simple_sure c out v (begins_at p s) s texts)
