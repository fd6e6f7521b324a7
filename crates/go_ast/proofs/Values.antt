-- One or more expressions: what is taken for them is what the grammar says, both ways.
use Rattle.std.proofs.Common.{◌≡◌, ℕ, ◌+◌, ◌≤◌, Bool, true, false, List, [], ◌∷◌, ◌++◌, Some, None, inl, inr, refl, sym, ap, ◌∙◌, subst, arith}
use Rattle.go_text.specs.declared.edition.Edition.{Edition}
use Rattle.go_scan.specs.declared.token.TokenKind.{TokenKind}
use Rattle.go_ast.specs.Kinds.{same}
use Rattle.go_ast.specs.Operators.{binary_of}
use Rattle.go_ast.specs.Expected.{Expected}
use Rattle.go_ast.specs.Trees.{Expression, ExpressionList, no_exprs, some_exprs, Statement, StatementList, no_stmts, some_stmts, File, BinaryOperator, pack, pack_statements}
use Rattle.go_ast.specs.Heights.{height, exprs_height, stmt_height, stmts_height}
use Rattle.go_ast.specs.Grammar.{Lexeme, comma, AreMoreExprs, AreExprs}
use Rattle.go_ast.specs.Machine.{Reader, expr, more_exprs}
use Rattle.go_ast.proofs.Means.{begins, is_tail, Closes, AllFit, Means, Okay, Good, Ends}
use Rattle.go_ast.proofs.Base.{false_true, either_true}
use Rattle.go_ast.proofs.Same.{are_same}
use Rattle.go_ast.proofs.Levels.{height_positive}

-- lists of trees
abbrev pub list_of : ExpressionList → List Expression
list_of no_exprs = []
list_of (some_exprs e es) = e ∷ list_of es

pub pack_list : (es : ExpressionList) → pack (list_of es) ≡ es
pack_list no_exprs = refl
pack_list (some_exprs e es) = ap (some_exprs e) (pack_list es)

abbrev pub stmts_of : StatementList → List Statement
stmts_of no_stmts = []
stmts_of (some_stmts s ss) = s ∷ stmts_of ss

pub pack_stmts_of : (ss : StatementList) → pack_statements (stmts_of ss) ≡ ss
pack_stmts_of no_stmts = refl
pack_stmts_of (some_stmts s ss) = ap (some_stmts s) (pack_stmts_of ss)

-- what closes an expression ends it
pub by_closing : (x y : Bool) → (x ≡ true → y ≡ false) → y ≡ true → x ≡ false
by_closing false y f e = refl
by_closing true y f e = absurd (false_true (sym (f refl) ∙ e))

-- a kind that is that one
pub closes_as : (h : Bool) (j k : TokenKind) → same j k ≡ true → Closes true j → Closes false j → Closes h k
closes_as true j k e c d = subst (λ x. Closes true x) (sym (are_same j k e)) c
closes_as false j k e c d = subst (λ x. Closes false x) (sym (are_same j k e)) d

pub no_operator : (k : TokenKind) (op : BinaryOperator) → binary_of k ≡ None → binary_of k ≡ Some op → ⊥
no_operator k op a b = let c : None ≡ Some op = sym a ∙ b in cc (c)

module _ (ed : Edition) (B : ℕ) where
  pub ends_if : (n : ℕ) (h : Bool) (next : Expression → Reader) → ((e : Expression) (k : TokenKind) → begins (next e) k ≡ true → Closes h k) → Ends ed B n h next
  ends_if n h next f =
      record {
        no_suffix = λ e k s. by_closing (begins (next e) k) (is_tail h k) (λ b. (f e k b).0) s;
        no_operator = λ e k op o lt. by_none e k op o (begins (next e) k) refl;
      }
    where
      by_none : (e : Expression) (k : TokenKind) (op : BinaryOperator) → binary_of k ≡ Some op → (c : Bool) → begins (next e) k ≡ c → begins (next e) k ≡ false
      by_none e k op o false q = q
      by_none e k op o true q = absurd (no_operator k op (f e k q).1 o)

  -- heights of lists
  pub exprs_fit : (l : ℕ) (es : List Expression) → l ≤ B + 1 → AllFit ed B height l es → l + exprs_height (pack es) ≤ B + 1
  exprs_fit l [] le a = omega (arith, le)
  exprs_fit l (e ∷ es) le a = omega (arith, a.0, exprs_fit l es le a.1)

  pub fit_exprs : (l : ℕ) (es : ExpressionList) → l + exprs_height es ≤ B + 1 → AllFit ed B height l (list_of es)
  fit_exprs l no_exprs le = tt
  fit_exprs l (some_exprs e es) le = (omega (arith, le), fit_exprs l es (omega (arith, le)))

  pub stmts_fit : (l : ℕ) (ss : List Statement) → l ≤ B + 1 → AllFit ed B stmt_height l ss → l + stmts_height (pack_statements ss) ≤ B + 1
  stmts_fit l [] le a = omega (arith, le)
  stmts_fit l (s ∷ ss) le a = omega (arith, a.0, stmts_fit l ss le a.1)

  pub fit_stmts : (l : ℕ) (ss : StatementList) → l + stmts_height ss ≤ B + 1 → AllFit ed B stmt_height l (stmts_of ss)
  fit_stmts l no_stmts le = tt
  fit_stmts l (some_stmts s ss) le = (omega (arith, le), fit_stmts l ss (omega (arith, le)))

  pub all_fit_append : {A : Type 0} (tall : A → ℕ) (l : ℕ) (xs ys : List A) → AllFit ed B tall l xs → AllFit ed B tall l ys → AllFit ed B tall l (xs ++ ys)
  all_fit_append tall l [] ys a b = b
  all_fit_append tall l (x ∷ xs) ys a b = (a.0, all_fit_append tall l xs ys a.1 b)

  -- values
  abbrev pub values : Bool → ℕ → Expected → (ExpressionList → Reader) → Reader
  values h l x next = expr 5 h l x (λ e. more_exprs h l (e ∷ []) (λ es. next (pack es)))

  pub values_back : (h : Bool) (l : ℕ) (x : Expected) (next : ExpressionList → Reader) (us : List Lexeme) (f : File) → Means ed B (values h l x next) us f →
      (es : ExpressionList) × (ws : List Lexeme) × AreExprs ed h es us ws × (l + exprs_height es ≤ B + 1) × Means ed B (next es) ws f
  values_back h l x next us f m =
      (some_exprs m.0 (pack m.4.0), m.4.1, (m.1, m.2, m.4.2), exprs_fit l (m.0 ∷ m.4.0) (omega (arith, m.3)) (m.3, m.4.3), m.4.4)

  pub values_forth : (h : Bool) (l : ℕ) (x : Expected) (next : ExpressionList → Reader) (es : ExpressionList) (us ws : List Lexeme) (f : File) →
      AreExprs ed h es us ws → l + exprs_height es ≤ B + 1 → Means ed B (next es) ws f → Means ed B (values h l x next) us f
  values_forth h l x next no_exprs us ws f d le m = absurd d
  values_forth h l x next (some_exprs e es) us ws f d le m = (
    e,
    d.0,
    d.1,
    omega (arith, le),
    (
      list_of es,
      ws,
      subst (λ y. AreMoreExprs ed h y d.0 ws) (sym (pack_list es)) d.2,
      fit_exprs l es (omega (arith, le)),
      subst (λ y. Means ed B (next (some_exprs e y)) ws f) (sym (pack_list es)) m,
    ),
  )

  pub values_okay : (h : Bool) (l : ℕ) (x : Expected) (next : ExpressionList → Reader) → ((es : ExpressionList) → l + exprs_height es ≤ B + 1 → Good ed B (next es)) →
      ((es : ExpressionList) → begins (next es) comma ≡ false) → ((es : ExpressionList) (k : TokenKind) → begins (next es) k ≡ true → Closes h k) → Okay ed B (values h l x next)
  values_okay h l x next good no_comma closes = (
    (λ e fits. let low : l ≤ B = omega (arith, fits, height_positive e) in (
      tt,
      (
        low,
        (fits, tt),
        (λ es a. good (pack es) (exprs_fit l es (omega (arith, low)) a)),
        (λ es. no_comma (pack es)),
        (λ es k b. closes (pack es) k b),
      ),
    )),
    ends_if 5 h (λ e. more_exprs h l (e ∷ []) (λ es. next (pack es))) behind,
  )
    where
      behind : (e : Expression) (k : TokenKind) → begins (more_exprs h l (e ∷ []) (λ es. next (pack es))) k ≡ true → Closes h k
      behind e k b = elim (either_true (same comma k) (begins (next (some_exprs e no_exprs)) k) b) [
        | inl c ↦ closes_as h comma k c (refl, refl) (refl, refl)
        | inr c ↦ closes (some_exprs e no_exprs) k c
      ]

  pub values_good : (h : Bool) (l : ℕ) (x : Expected) (next : ExpressionList → Reader) → l ≤ B → ((es : ExpressionList) → l + exprs_height es ≤ B + 1 → Good ed B (next es)) →
      ((es : ExpressionList) → begins (next es) comma ≡ false) → ((es : ExpressionList) (k : TokenKind) → begins (next es) k ≡ true → Closes h k) → Good ed B (values h l x next)
  values_good h l x next le good no_comma closes = (le, values_okay h l x next good no_comma closes)
