-- Statements of a clause, and the clauses of a list, from what is known of a statement that isn't empty.
use Rattle.std.proofs.Common.{◌≡◌, ℕ, ◌+◌, ◌≤◌, ◌⊎◌, inl, inr, Bool, true, false, ◌||◌, List, [], ◌∷◌, ◌++◌, Option, Some, None, refl, sym, ap, ◌∙◌, subst, arith, append_assoc, append-nil}
use Rattle.go_text.specs.declared.edition.Edition.{Edition}
use Rattle.go_text.specs.declared.place.Place.{Place}
use Rattle.go_scan.specs.declared.token.TokenKind.{TokenKind}
use Rattle.go_scan.specs.declared.keyword.Keyword.TheVariants as keywords
use Rattle.go_ast.specs.Kinds.{same}
use Rattle.go_ast.specs.Expected.{Expected, another}
use Rattle.go_ast.specs.Trees.{ExpressionList, Statement, empty, no_stmts, Cases, File, pack_statements}
use Rattle.go_ast.specs.Heights.{stmt_height, clauses_height}
use Rattle.go_ast.specs.Grammar.{Lexeme, Token, closing_brace, semicolon, Behind, IsStmt, IsCase, AreStmts, AreClauses, is_last}
use Rattle.go_ast.specs.Machine.{Reader, clause_start, clause_end, Move, Take, Fail, cond, keyword, Clause, pack_cases, with_clause, on_stmt, parser_step}
use Rattle.go_ast.proofs.Same.{are_same}
use Rattle.go_ast.proofs.Means.{begins_stmt, begins, AllFit, Means, Okay, After, Kept}
use Rattle.go_ast.proofs.Base.{false_true, left_true, right_true, after_cond, kept_cond, after_same, after_other, token_here, apart}
use Rattle.go_ast.proofs.Tokens.{a_token, at_first, kind_here, same_here}
use Rattle.go_ast.proofs.Starts.{stmt_starts}
use Rattle.go_ast.proofs.Clauses.{stmts_pushed, clauses_pushed, on_clause_back, on_clause_forth, on_clause_kept}
use Rattle.go_ast.proofs.Statements.{OnStmt, empty_is}

module _ (ed : Edition) (B : ℕ) (on : OnStmt ed B) where
  -- statements of a clause
  module _ (l : ℕ) (done : List Clause) (p : Place) (values : Option ExpressionList) (next : Cases → Lexeme → Reader) where
    abbrev start_at : List Statement → Reader
    start_at front = clause_start l done p values front next

    abbrev end_at : Expected → List Statement → Reader
    end_at x front = clause_end l x done p values front next

    abbrev all_with : List Statement → List Clause
    all_with front = with_clause done p values front

    -- what a token does but for a new clause, and but for the end
    abbrev on_item_of : List Statement → Lexeme → Move
    on_item_of front t =
        cond (same semicolon t.kind) (Take (l + 1) (start_at (front ++ empty t.place ∷ []))) (on_stmt (l + 1) (λ x s. end_at x (front ++ s ∷ [])) t)

    abbrev on_other : List Statement → Lexeme → Move
    on_other front t = cond (same closing_brace t.kind) (Take 0 (next (pack_cases (all_with front)) t)) (on_item_of front t)

    abbrev Fits : List Statement → Type 0
    Fits front = l + 1 + clauses_height (pack_cases (all_with front)) ≤ B + 1

    fits_pushed : (front : List Statement) (s : Statement) → Fits front → l + 1 + stmt_height s ≤ B + 1 → Fits (front ++ s ∷ [])
    fits_pushed front s fits tall =
        omega (arith, fits, tall, clauses_pushed done p values front, clauses_pushed done p values (front ++ s ∷ []), stmts_pushed front s)

    -- the clauses are over
    over_back : (front : List Statement) (t : Lexeme) (us : List Lexeme) (f : File) → l ≤ B → t.kind ≡ closing_brace →
        Means ed B (next (pack_cases (all_with front)) t) us f →
        Means ed B (start_at front) (t ∷ us) f
    over_back front t us f low k m = (
      [],
      [],
      t,
      t ∷ us,
      t ∷ us,
      us,
      refl,
      refl,
      tt,
      omega (arith, low),
      token_here closing_brace t us k,
      subst (λ x. Means ed B (next (pack_cases x) t) us f) (sym (append-nil (all_with (front ++ []))))
          (subst (λ x. Means ed B (next (pack_cases (all_with x)) t) us f) (sym (append-nil front)) m),
    )

    -- a statement in front of others
    abbrev Behinds : List Statement → List Clause → List Lexeme → List Lexeme → Type 0
    Behinds ss cs us vs = Behind semicolon (AreStmts ed (is_last (pack_cases cs)) (pack_statements ss)) ((ss ≡ []) × (is_last (pack_cases cs) ≡ true)) us vs

    packed : (ss : List Statement) (cs : List Clause) (us vs : List Lexeme) → Behinds ss cs us vs →
        Behind semicolon (AreStmts ed (is_last (pack_cases cs)) (pack_statements ss)) ((pack_statements ss ≡ no_stmts) × (is_last (pack_cases cs) ≡ true)) us vs
    packed ss cs us vs (inl b) = inl b
    packed ss cs us vs (inr b) = inr ((ap pack_statements b.0.0, b.0.1), b.1)

    no_more : (ss : List Statement) → pack_statements ss ≡ no_stmts → ss ≡ []
    no_more [] e = refl
    no_more (s ∷ ss) e = cc (e)

    unpacked : (ss : List Statement) (cs : List Clause) (us vs : List Lexeme) →
        Behind semicolon (AreStmts ed (is_last (pack_cases cs)) (pack_statements ss)) ((pack_statements ss ≡ no_stmts) × (is_last (pack_cases cs) ≡ true)) us vs →
        Behinds ss cs us vs
    unpacked ss cs us vs (inl b) = inl b
    unpacked ss cs us vs (inr b) = inr ((no_more ss b.0.0, b.0.1), b.1)

    stmt_in_front : (front : List Statement) (x : Expected) (s : Statement) (us vs : List Lexeme) (f : File) → IsStmt ed s us vs → l + 1 + stmt_height s ≤ B + 1 →
        Means ed B (end_at x (front ++ s ∷ [])) vs f → Means ed B (start_at front) us f
    stmt_in_front front x s us vs f d tall m = (
      s ∷ m.0,
      m.1,
      m.2,
      m.3,
      m.4,
      m.5,
      (vs, d, packed m.0 m.1 vs m.3 m.6),
      m.7,
      (tall, m.8),
      m.9,
      m.10,
      subst (λ y. Means ed B (next (pack_cases (all_with y ++ m.1)) m.2) m.5 f) (append_assoc front (s ∷ []) m.0) m.11,
    )

    at_separator : (front : List Statement) (x : Expected) (t : Lexeme) (us : List Lexeme) (f : File) → t.kind ≡ semicolon → Means ed B (start_at front) us f →
        Means ed B (end_at x front) (t ∷ us) f
    at_separator front x t us f k m = (m.0, m.1, m.2, m.3, m.4, m.5, inl (t, us, token_here semicolon t us k, m.6), m.7, m.8, m.9, m.10, m.11)

    item_back : (front : List Statement) (t : Lexeme) (us : List Lexeme) (f : File) → l ≤ B → After ed B (on_item_of front t) us f → Means ed B (start_at front) (t ∷ us) f
    item_back front t us f low a =
        elim
        (after_cond ed B (same semicolon t.kind) (Take (l + 1) (start_at (front ++ empty t.place ∷ [])))
        (on_stmt (l + 1) (λ x s. end_at x (front ++ s ∷ [])) t) us f a) [
          | inl h ↦ (let k = are_same semicolon t.kind h.0 in
              stmt_in_front front another (empty t.place) (t ∷ us) (t ∷ us) f (empty_is ed t us k) (omega (arith, h.1.0))
              (at_separator (front ++ empty t.place ∷ []) another t us f k h.1.1))
          | inr h ↦ (let r = on.back (l + 1) (λ x s. end_at x (front ++ s ∷ [])) t us f (omega (arith, low)) h.1 in stmt_in_front front r.0 r.1
              (t ∷ us) r.2 f r.3 r.4 r.5)
        ]

    other_back : (front : List Statement) (t : Lexeme) (us : List Lexeme) (f : File) → l ≤ B → After ed B (on_other front t) us f → Means ed B (start_at front) (t ∷ us) f
    other_back front t us f low a =
        elim (after_cond ed B (same closing_brace t.kind) (Take 0 (next (pack_cases (all_with front)) t)) (on_item_of front t) us f a) [
          | inl h ↦ over_back front t us f low (are_same closing_brace t.kind h.0) h.1.1
          | inr h ↦ item_back front t us f low h.1
        ]

    pub clause_start_back : (front : List Statement) (t : Lexeme) (us : List Lexeme) (f : File) → Okay ed B (start_at front) → After ed B (parser_step ed (start_at front) t) us f →
        Means ed B (start_at front) (t ∷ us) f
    clause_start_back front t us f ok a = elim (on_clause_back ed B l (all_with front) next t (on_other front t) us f ok.0 a) [
      | inl r ↦ (
        [],
        r.0,
        r.1,
        t ∷ us,
        r.2,
        r.3,
        refl,
        r.4,
        tt,
        r.5,
        r.6,
        subst (λ x. Means ed B (next (pack_cases (all_with x ++ r.0)) r.1) r.3 f) (sym (append-nil front)) r.7,
      )
      | inr b ↦ other_back front t us f ok.0 b
    ]

    -- the other way round
    no_clause : (front : List Statement) (t : Lexeme) (us : List Lexeme) (f : File) → same (keyword keywords.Case) t.kind ≡ false →
        same (keyword keywords.Default) t.kind ≡ false →
        After ed B (on_other front t) us f → After ed B (parser_step ed (start_at front) t) us f
    no_clause front t us f c d a =
        after_other ed B (keyword keywords.Case) t _ _ us f c (after_other ed B (keyword keywords.Default) t _ _ us f d a)

    over_forth : (front : List Statement) (t : Lexeme) (us : List Lexeme) (f : File) (c : Lexeme) (ws : List Lexeme) → Token closing_brace c (t ∷ us) ws →
        Means ed B (next (pack_cases (all_with front)) c) ws f → After ed B (parser_step ed (start_at front) t) us f
    over_forth front t us f c ws close m =
        let k = kind_here closing_brace t c us ws close in
        no_clause front t us f (ap (same (keyword keywords.Case)) k) (ap (same (keyword keywords.Default)) k)
        (after_same ed B closing_brace t (Take 0 (next (pack_cases (all_with front)) t)) (on_item_of front t) us f k
        (omega arith, at_first closing_brace t c us ws (λ u xs. Means ed B (next (pack_cases (all_with front)) u) xs f) close m))

    clauses_forth : (front : List Statement) (t : Lexeme) (us : List Lexeme) (f : File) (cs : List Clause) (c : Lexeme) (xs ws : List Lexeme) →
        AreClauses ed (pack_cases cs) (t ∷ us) xs →
        l + 1 + clauses_height (pack_cases cs) ≤ B + 1 → Token closing_brace c xs ws → Means ed B (next (pack_cases (all_with front ++ cs)) c) ws f →
        After ed B (parser_step ed (start_at front) t) us f
    clauses_forth front t us f [] c xs ws are fits close m =
        over_forth front t us f c ws (subst (λ x. Token closing_brace c x ws) (sym are) close)
        (subst (λ x. Means ed B (next (pack_cases x) c) ws f) (append-nil (all_with front)) m)
    clauses_forth front t us f (d ∷ cs) c xs ws are fits close m =
        on_clause_forth ed B l (all_with front) next t (on_other front t) us f d cs c xs ws are fits close m

    item_forth_of : (front : List Statement) (t : Lexeme) (us : List Lexeme) (f : File) (s : Statement) (vs : List Lexeme) → IsStmt ed s (t ∷ us) vs →
        l + 1 + stmt_height s ≤ B + 1 →
        ((x : Expected) → Means ed B (end_at x (front ++ s ∷ [])) vs f) →
        ((s ≡ empty t.place) × (t.kind ≡ semicolon) × (t ∷ us ≡ vs)) ⊎ (begins_stmt t.kind ≡ true) →
        After ed B (parser_step ed (start_at front) t) us f
    item_forth_of front t us f s vs d tall m (inr b) =
        no_clause front t us f (apart begins_stmt (keyword keywords.Case) t.kind refl b) (apart begins_stmt (keyword keywords.Default) t.kind refl b)
        (after_other ed B closing_brace t _ _ us f (apart begins_stmt closing_brace t.kind refl b)
        (after_other ed B semicolon t _ _ us f (apart begins_stmt semicolon t.kind refl b)
        (on.forth (l + 1) (λ x s. end_at x (front ++ s ∷ [])) s t us vs f b d tall m)))
    item_forth_of front t us f s vs d tall m (inl (e, k, q)) =
        let n : Means ed B (end_at another (front ++ empty t.place ∷ [])) (t ∷ us) f =
        subst (λ x. Means ed B (end_at another (front ++ x ∷ [])) (t ∷ us) f) e
        (subst (λ x. Means ed B (end_at another (front ++ s ∷ [])) x f) (sym q) (m another)) in
        let high : l + 1 + 1 ≤ B + 1 = subst (λ x. l + 1 + stmt_height x ≤ B + 1) e tall in
        no_clause front t us f (ap (same (keyword keywords.Case)) k) (ap (same (keyword keywords.Default)) k)
        (after_other ed B closing_brace t _ _ us f (ap (same closing_brace) k)
        (after_same ed B semicolon t _ _ us f k (omega (arith, high), behind n.0 n.1 n.2 n.3 n.4 n.5 n.6 n.7 n.8 n.9 n.10 n.11)))
      where
        behind : (ss : List Statement) (cs : List Clause) (c : Lexeme) (ys xs ws : List Lexeme) → Behinds ss cs (t ∷ us) ys → AreClauses ed (pack_cases cs) ys xs →
            AllFit ed B stmt_height (l + 1) ss →
            l + 1 + clauses_height (pack_cases cs) ≤ B + 1 → Token closing_brace c xs ws →
            Means ed B (next (pack_cases (all_with ((front ++ empty t.place ∷ []) ++ ss) ++ cs)) c) ws f →
            Means ed B (start_at (front ++ empty t.place ∷ [])) us f
        behind ss cs c ys xs ws (inl b) are fit low close m = (
          ss,
          cs,
          c,
          ys,
          xs,
          ws,
          at_first semicolon t b.0 us b.1 (λ u zs. AreStmts ed (is_last (pack_cases cs)) (pack_statements ss) zs ys) b.2 b.3,
          are,
          fit,
          low,
          close,
          m,
        )
        behind ss [] c ys xs ws (inr b) are fit low close m =
            let closed : same closing_brace t.kind ≡ true =
            same_here closing_brace t c us ws (subst (λ x. Token closing_brace c x ws) (sym (b.1 ∙ are)) close) in
            absurd (false_true (sym (ap (same closing_brace) k) ∙ closed))
        behind ss (d ∷ cs) c ys xs ws (inr b) are fit low close m = absurd (false_true b.0.1)

    stmts_forth : (front : List Statement) (t : Lexeme) (us : List Lexeme) (f : File) (ss : List Statement) (cs : List Clause) (c : Lexeme) (vs xs ws : List Lexeme) →
        AreStmts ed (is_last (pack_cases cs)) (pack_statements ss) (t ∷ us) vs → AreClauses ed (pack_cases cs) vs xs → AllFit ed B stmt_height (l + 1) ss →
        l + 1 + clauses_height (pack_cases cs) ≤ B + 1 → Token closing_brace c xs ws → Means ed B (next (pack_cases (all_with (front ++ ss) ++ cs)) c) ws f →
        After ed B (parser_step ed (start_at front) t) us f
    stmts_forth front t us f [] cs c vs xs ws stmts are fit low close m =
        clauses_forth front t us f cs c xs ws (subst (λ x. AreClauses ed (pack_cases cs) x xs) (sym stmts) are) low close
        (subst (λ x. Means ed B (next (pack_cases (all_with x ++ cs)) c) ws f) (append-nil front) m)
    stmts_forth front t us f (s ∷ ss) cs c vs xs ws stmts are fit low close m =
        item_forth_of front t us f s stmts.0 stmts.1 fit.0
        (λ x. (
          ss,
          cs,
          c,
          vs,
          xs,
          ws,
          unpacked ss cs stmts.0 vs stmts.2,
          are,
          fit.1,
          low,
          close,
          subst (λ y. Means ed B (next (pack_cases (all_with y ++ cs)) c) ws f) (sym (append_assoc front (s ∷ []) ss)) m,
        ))
        (stmt_starts ed s t us stmts.0 stmts.1)

    pub clause_start_forth : (front : List Statement) (t : Lexeme) (us : List Lexeme) (f : File) → Means ed B (start_at front) (t ∷ us) f →
        After ed B (parser_step ed (start_at front) t) us f
    clause_start_forth front t us f m = stmts_forth front t us f m.0 m.1 m.2 m.3 m.4 m.5 m.6 m.7 m.8 m.9 m.10 m.11

    pub clause_start_kept : (front : List Statement) (t : Lexeme) → Okay ed B (start_at front) → Kept ed B (parser_step ed (start_at front) t)
    clause_start_kept front t ok =
        on_clause_kept ed B l (all_with front) next t (on_other front t) ok.0 ok.1 ok.2
        (kept_cond ed B (same closing_brace t.kind) (Take 0 (next (pack_cases (all_with front)) t)) (on_item_of front t)
        (λ e le. ok.2 (pack_cases (all_with front)) t ok.1)
        (λ e. kept_cond ed B (same semicolon t.kind) (Take (l + 1) (start_at (front ++ empty t.place ∷ [])))
        (on_stmt (l + 1) (λ x s. end_at x (front ++ s ∷ [])) t)
        (λ e le. (tt, (ok.0, fits_pushed front (empty t.place) ok.1 (omega (arith, le)), ok.2)))
        (λ e. on.kept (l + 1) (λ x s. end_at x (front ++ s ∷ [])) t (let low = ok.0 in omega (arith, low))
        (λ x s tall. (tt, (ok.0, fits_pushed front s ok.1 tall, ok.2))) (λ x s k b. b))))

    -- the first token
    abbrev begins_clause : TokenKind → Bool
    begins_clause k = same (keyword keywords.Case) k || same (keyword keywords.Default) k || same closing_brace k || same semicolon k || begins_stmt k

    begins_by_stmt : (k : TokenKind) → begins_stmt k ≡ true → begins_clause k ≡ true
    begins_by_stmt k b =
        right_true (same (keyword keywords.Case) k || same (keyword keywords.Default) k || same closing_brace k || same semicolon k) (begins_stmt k) b

    clauses_first : (cs : List Clause) (t : Lexeme) (us : List Lexeme) (c : Lexeme) (xs ws : List Lexeme) → AreClauses ed (pack_cases cs) (t ∷ us) xs →
        Token closing_brace c xs ws →
        begins_clause t.kind ≡ true
    clauses_first [] t us c xs ws are close = ap begins_clause (kind_here closing_brace t c us ws (subst (λ x. Token closing_brace c x ws) (sym are) close))
    clauses_first (d ∷ cs) t us c xs ws are close = by_case d.0 d.1.0 are.1 are.4
      where
        by_case : (q : Place) (v : Option ExpressionList) (vs : List Lexeme) → IsCase ed q v (t ∷ us) vs → begins_clause t.kind ≡ true
        by_case q None vs e = ap begins_clause (kind_here (keyword keywords.Default) t e.0 us vs e.1)
        by_case q (Some es) vs e = ap begins_clause (kind_here (keyword keywords.Case) t e.0 us e.1 e.2)

    stmts_first : (ss : List Statement) (cs : List Clause) (t : Lexeme) (us : List Lexeme) (c : Lexeme) (vs xs ws : List Lexeme) →
        AreStmts ed (is_last (pack_cases cs)) (pack_statements ss) (t ∷ us) vs → AreClauses ed (pack_cases cs) vs xs → Token closing_brace c xs ws →
        begins_clause t.kind ≡ true
    stmts_first [] cs t us c vs xs ws stmts are close = clauses_first cs t us c xs ws (subst (λ x. AreClauses ed (pack_cases cs) x xs) (sym stmts) are) close
    stmts_first (s ∷ ss) cs t us c vs xs ws stmts are close = elim (stmt_starts ed s t us stmts.0 stmts.1) [
      | inl e ↦ ap begins_clause e.1
      | inr b ↦ begins_by_stmt t.kind b
    ]

    pub clause_start_first : (front : List Statement) (t : Lexeme) (us : List Lexeme) (f : File) → Means ed B (start_at front) (t ∷ us) f →
        begins (start_at front) t.kind ≡ true
    clause_start_first front t us f m = stmts_first m.0 m.1 t us m.2 m.3 m.4 m.5 m.6 m.7 m.10

    -- the end of the clauses can come
    pub clause_start_comes : (front : List Statement) → Okay ed B (start_at front) →
        ((cs : Cases) (c : Lexeme) → l + 1 + clauses_height cs ≤ B + 1 → (us : List Lexeme) × (f : File) × Means ed B (next cs c) us f) →
        (us : List Lexeme) × (f : File) × Means ed B (start_at front) us f
    clause_start_comes front ok go =
        let c = a_token closing_brace in
        let r = go (pack_cases (all_with front)) c ok.1 in
        (c ∷ r.0, r.1, over_back front c r.0 r.1 ok.0 refl r.2)

    -- behind a statement
    end_over : (front : List Statement) (x : Expected) (t : Lexeme) (us : List Lexeme) (f : File) → l ≤ B → t.kind ≡ closing_brace →
        Means ed B (next (pack_cases (all_with front)) t) us f →
        Means ed B (end_at x front) (t ∷ us) f
    end_over front x t us f low k m = (
      [],
      [],
      t,
      t ∷ us,
      t ∷ us,
      us,
      inr ((refl, refl), refl),
      refl,
      tt,
      omega (arith, low),
      token_here closing_brace t us k,
      subst (λ x. Means ed B (next (pack_cases x) t) us f) (sym (append-nil (all_with (front ++ []))))
          (subst (λ x. Means ed B (next (pack_cases (all_with x)) t) us f) (sym (append-nil front)) m),
    )

    pub clause_end_back : (x : Expected) (front : List Statement) (t : Lexeme) (us : List Lexeme) (f : File) → Okay ed B (end_at x front) →
        After ed B (parser_step ed (end_at x front) t) us f →
        Means ed B (end_at x front) (t ∷ us) f
    clause_end_back x front t us f ok a =
        elim
        (after_cond ed B (same semicolon t.kind) (Take 0 (start_at front))
        (cond (same closing_brace t.kind) (Take 0 (next (pack_cases (all_with front)) t)) (Fail x)) us f a) [
          | inl h ↦ at_separator front x t us f (are_same semicolon t.kind h.0) h.1.1
          | inr g ↦ elim (after_cond ed B (same closing_brace t.kind) (Take 0 (next (pack_cases (all_with front)) t)) (Fail x) us f g.1) [
            | inl h ↦ end_over front x t us f ok.0 (are_same closing_brace t.kind h.0) h.1.1
            | inr h ↦ absurd h.1
          ]
        ]

    end_forth : (x : Expected) (front : List Statement) (t : Lexeme) (us : List Lexeme) (f : File) (ss : List Statement) (cs : List Clause) (c : Lexeme)
        (vs xs ws : List Lexeme) → Behinds ss cs (t ∷ us) vs →
        AreClauses ed (pack_cases cs) vs xs → AllFit ed B stmt_height (l + 1) ss → l + 1 + clauses_height (pack_cases cs) ≤ B + 1 → Token closing_brace c xs ws →
        Means ed B (next (pack_cases (all_with (front ++ ss) ++ cs)) c) ws f → After ed B (parser_step ed (end_at x front) t) us f
    end_forth x front t us f ss cs c vs xs ws (inl b) are fit low close m =
        after_same ed B semicolon t (Take 0 (start_at front)) (cond (same closing_brace t.kind) (Take 0 (next (pack_cases (all_with front)) t)) (Fail x)) us f
        (kind_here semicolon t b.0 us b.1 b.2) (
          omega arith,
          (
            ss,
            cs,
            c,
            vs,
            xs,
            ws,
            at_first semicolon t b.0 us b.1 (λ u zs. AreStmts ed (is_last (pack_cases cs)) (pack_statements ss) zs vs) b.2 b.3,
            are,
            fit,
            low,
            close,
            m,
          ),
        )
    end_forth x front t us f ss (d ∷ cs) c vs xs ws (inr b) are fit low close m = absurd (false_true b.0.1)
    end_forth x front t us f ss [] c vs xs ws (inr b) are fit low close m =
        let here : Token closing_brace c (t ∷ us) ws = subst (λ y. Token closing_brace c y ws) (sym (b.1 ∙ are)) close in
        let k = kind_here closing_brace t c us ws here in
        let n : Means ed B (next (pack_cases (all_with front)) c) ws f =
        subst (λ y. Means ed B (next (pack_cases y) c) ws f) (append-nil (all_with front))
        (subst (λ y. Means ed B (next (pack_cases (all_with y ++ [])) c) ws f) (ap (λ y. front ++ y) b.0.0 ∙ append-nil front) m) in
        after_other ed B semicolon t (Take 0 (start_at front)) (cond (same closing_brace t.kind) (Take 0 (next (pack_cases (all_with front)) t)) (Fail x)) us f
        (ap (same semicolon) k)
        (after_same ed B closing_brace t (Take 0 (next (pack_cases (all_with front)) t)) (Fail x) us f k
        (omega arith, at_first closing_brace t c us ws (λ u zs. Means ed B (next (pack_cases (all_with front)) u) zs f) here n))

    pub clause_end_forth : (x : Expected) (front : List Statement) (t : Lexeme) (us : List Lexeme) (f : File) → Means ed B (end_at x front) (t ∷ us) f →
        After ed B (parser_step ed (end_at x front) t) us f
    clause_end_forth x front t us f m = end_forth x front t us f m.0 m.1 m.2 m.3 m.4 m.5 m.6 m.7 m.8 m.9 m.10 m.11

    pub clause_end_kept : (x : Expected) (front : List Statement) (t : Lexeme) → Okay ed B (end_at x front) → Kept ed B (parser_step ed (end_at x front) t)
    clause_end_kept x front t ok =
        kept_cond ed B (same semicolon t.kind) (Take 0 (start_at front))
        (cond (same closing_brace t.kind) (Take 0 (next (pack_cases (all_with front)) t)) (Fail x)) (λ e le. (tt, ok))
        (λ e. kept_cond ed B (same closing_brace t.kind) (Take 0 (next (pack_cases (all_with front)) t)) (Fail x)
        (λ q le. ok.2 (pack_cases (all_with front)) t ok.1) (λ q. tt))

    end_first : (x : Expected) (front : List Statement) (t : Lexeme) (us : List Lexeme) (ss : List Statement) (cs : List Clause) (c : Lexeme) (vs xs ws : List Lexeme) →
        Behinds ss cs (t ∷ us) vs →
        AreClauses ed (pack_cases cs) vs xs → Token closing_brace c xs ws → begins (end_at x front) t.kind ≡ true
    end_first x front t us ss cs c vs xs ws (inl b) are close =
        left_true (same semicolon t.kind) (same closing_brace t.kind) (same_here semicolon t b.0 us b.1 b.2)
    end_first x front t us ss (d ∷ cs) c vs xs ws (inr b) are close = absurd (false_true b.0.1)
    end_first x front t us ss [] c vs xs ws (inr b) are close =
        right_true (same semicolon t.kind) (same closing_brace t.kind)
        (same_here closing_brace t c us ws (subst (λ y. Token closing_brace c y ws) (sym (b.1 ∙ are)) close))

    pub clause_end_first : (x : Expected) (front : List Statement) (t : Lexeme) (us : List Lexeme) (f : File) → Means ed B (end_at x front) (t ∷ us) f →
        begins (end_at x front) t.kind ≡ true
    clause_end_first x front t us f m = end_first x front t us m.0 m.1 m.2 m.3 m.4 m.5 m.6 m.7 m.10

    pub clause_end_comes : (x : Expected) (front : List Statement) → Okay ed B (end_at x front) →
        ((cs : Cases) (c : Lexeme) → l + 1 + clauses_height cs ≤ B + 1 → (us : List Lexeme) × (f : File) × Means ed B (next cs c) us f) →
        (us : List Lexeme) × (f : File) × Means ed B (end_at x front) us f
    clause_end_comes x front ok go =
        let c = a_token closing_brace in
        let r = go (pack_cases (all_with front)) c ok.1 in
        (c ∷ r.0, r.1, end_over front x c r.0 r.1 ok.0 refl r.2)
