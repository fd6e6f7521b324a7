-- Clauses of a switch: what is taken for them is what the grammar says, both ways.
use Rattle.std.proofs.Common.{◌≡◌, ℕ, ◌+◌, ◌≤◌, max, ◌⊎◌, inl, inr, false, List, [], ◌∷◌, ◌++◌, Option, Some, None, refl, sym, ap, ◌∙◌, subst, arith, append_assoc}
use Rattle.go_text.specs.declared.edition.Edition.{Edition}
use Rattle.go_text.specs.declared.place.Place.{Place}
use Rattle.go_scan.specs.declared.keyword.Keyword.TheVariants as keywords
use Rattle.go_ast.specs.Kinds.{same}
use Rattle.go_ast.specs.Expected.{an_operand}
use Rattle.go_ast.specs.Trees.{ExpressionList, Statement, Cases, no_clauses, clause, File, pack_statements}
use Rattle.go_ast.specs.Heights.{exprs_height, lifted, stmt_height, stmts_height, clauses_height}
use Rattle.go_ast.specs.Grammar.{Lexeme, Token, closing_brace, colon, IsCase, AreStmts, AreClauses, is_last}
use Rattle.go_ast.specs.Machine.{Reader, Move, Take, cond, keyword, Clause, pack_cases, with_clause, clause_body, behind_case, read_clauses, on_clause}
use Rattle.go_ast.proofs.Same.{are_same}
use Rattle.go_ast.proofs.Means.{Means, Good, After, Kept}
use Rattle.go_ast.proofs.Base.{after_cond, kept_cond, after_same, after_other, token_here, first_is}
use Rattle.go_ast.proofs.Values.{stmts_of, pack_stmts_of, stmts_fit, values_back, values_forth, values_good, closes_as}
use Rattle.go_ast.proofs.Packs.{fit_pack_stmts}
use Rattle.go_ast.proofs.Simple.{exprs_height_positive}

-- heights of lists that have grown
pub stmts_pushed : (front : List Statement) (s : Statement) → stmts_height (pack_statements (front ++ s ∷ [])) ≡ max (stmts_height (pack_statements front)) (stmt_height s)
stmts_pushed [] s = omega arith
stmts_pushed (x ∷ front) s = omega (arith, stmts_pushed front s)

pub clauses_pushed : (done : List Clause) (p : Place) (values : Option ExpressionList) (front : List Statement) →
    clauses_height (pack_cases (with_clause done p values front)) ≡ max (clauses_height (pack_cases done))
    (max (lifted exprs_height values) (stmts_height (pack_statements front)))
clauses_pushed [] p values front = omega arith
clauses_pushed (d ∷ done) p values front = omega (arith, clauses_pushed done p values front)

-- clauses as a list
abbrev clauses_of : Cases → List Clause
clauses_of no_clauses = []
clauses_of (clause p values ss cs) = (p, (values, stmts_of ss)) ∷ clauses_of cs

pack_clauses_of : (cs : Cases) → pack_cases (clauses_of cs) ≡ cs
pack_clauses_of no_clauses = refl
pack_clauses_of (clause p values ss cs) =
    ap (λ x. clause p values x (pack_cases (clauses_of cs))) (pack_stmts_of ss) ∙ ap (clause p values ss) (pack_clauses_of cs)

module _ (ed : Edition) (B : ℕ) where
  -- clauses behind these, up to the brace
  abbrev pub Clausal : ℕ → List Clause → (Cases → Lexeme → Reader) → List Lexeme → File → Type 0
  Clausal l done next us f =
      (cs : List Clause) × (c : Lexeme) × (xs ws : List Lexeme) × AreClauses ed (pack_cases cs) us xs × (l + 1 + clauses_height (pack_cases cs) ≤ B + 1)
      × Token closing_brace c xs ws × Means ed B (next (pack_cases (done ++ cs)) c) ws f

  clause_body_back : (l : ℕ) (done : List Clause) (next : Cases → Lexeme → Reader) (p : Place) (values : Option ExpressionList) (us vs : List Lexeme) (f : File) →
      l ≤ B →
      IsCase ed p values us vs → l + 1 + lifted exprs_height values ≤ B + 1 → Means ed B (clause_body l done next p values) vs f → Clausal l done next us f
  clause_body_back l done next p values us vs f low d high m =
      let n = m.4 in (
        (p, (values, n.0)) ∷ n.1,
        n.2,
        n.4,
        n.5,
        (m.0, vs, m.1, n.3, d, m.2, n.6, n.7),
        omega (arith, high, stmts_fit ed B (l + 1) n.0 (omega (arith, low)) n.8, n.9),
        n.10,
        subst (λ x. Means ed B (next (pack_cases x) n.2) n.5 f) (append_assoc done ((p, (values, n.0)) ∷ []) n.1) n.11,
      )

  case_back : (l : ℕ) (done : List Clause) (next : Cases → Lexeme → Reader) (t : Lexeme) (us vs : List Lexeme) (f : File) → l ≤ B →
      Token (keyword keywords.Case) t us vs →
      Means ed B (behind_case l done next t) vs f → Clausal l done next us f
  case_back l done next t us vs f low k m =
      let v = values_back ed B false (l + 1) an_operand (λ es. clause_body l done next t.place (Some es)) vs f m in
      clause_body_back l done next t.place (Some v.0) us v.1 f low (t, vs, k, refl, v.2) v.3 v.4

  default_back : (l : ℕ) (done : List Clause) (next : Cases → Lexeme → Reader) (t : Lexeme) (us vs : List Lexeme) (f : File) → l ≤ B →
      Token (keyword keywords.Default) t us vs →
      Means ed B (clause_body l done next t.place None) vs f → Clausal l done next us f
  default_back l done next t us vs f low k m = clause_body_back l done next t.place None us vs f low (t, k, refl) (omega (arith, low)) m

  pub on_clause_back : (l : ℕ) (done : List Clause) (next : Cases → Lexeme → Reader) (t : Lexeme) (other : Move) (us : List Lexeme) (f : File) → l ≤ B →
      After ed B (on_clause l done next t other) us f → Clausal l done next (t ∷ us) f ⊎ After ed B other us f
  on_clause_back l done next t other us f low a =
      elim
      (after_cond ed B (same (keyword keywords.Case) t.kind) (Take (l + 1) (behind_case l done next t))
      (cond (same (keyword keywords.Default) t.kind) (Take 0 (clause_body l done next t.place None)) other) us f a) [
        | inl h ↦ inl (case_back l done next t (t ∷ us) us f low (token_here (keyword keywords.Case) t us (are_same (keyword keywords.Case) t.kind h.0)) h.1.1)
        | inr g ↦ elim (after_cond ed B (same (keyword keywords.Default) t.kind) (Take 0 (clause_body l done next t.place None)) other us f g.1) [
          | inl h ↦ inl (default_back l done next t (t ∷ us) us f low
              (token_here (keyword keywords.Default) t us (are_same (keyword keywords.Default) t.kind h.0)) h.1.1)
          | inr h ↦ inr h.1
        ]
      ]

  -- the other way round
  clause_body_forth : (l : ℕ) (done : List Clause) (next : Cases → Lexeme → Reader) (p q : Place) (values : Option ExpressionList) (ss : List Statement) (cs : List Clause)
      (c k : Lexeme)
      (us vs ys xs ws : List Lexeme) (f : File) → p ≡ q → Token colon k us vs → AreStmts ed (is_last (pack_cases cs)) (pack_statements ss) vs ys → AreClauses ed
      (pack_cases cs) ys xs →
      l + 1 + clauses_height (pack_cases ((p, (values, ss)) ∷ cs)) ≤ B + 1 → Token closing_brace c xs ws →
      Means ed B (next (pack_cases (done ++ (p, (values, ss)) ∷ cs)) c) ws f →
      Means ed B (clause_body l done next q values) us f
  clause_body_forth l done next p q values ss cs c k us vs ys xs ws f e col stmts are fits close m =
      let n : Means ed B (next (pack_cases (done ++ (q, (values, ss)) ∷ cs)) c) ws f =
      subst (λ x. Means ed B (next (pack_cases (done ++ (x, (values, ss)) ∷ cs)) c) ws f) e m in (
        k,
        vs,
        col,
        omega arith,
        (
          ss,
          cs,
          c,
          ys,
          xs,
          ws,
          stmts,
          are,
          fit_pack_stmts ed B (l + 1) ss (omega (arith, fits)),
          omega (arith, fits),
          close,
          subst (λ x. Means ed B (next (pack_cases x) c) ws f) (sym (append_assoc done ((q, (values, ss)) ∷ []) cs)) n,
        ),
      )

  -- a first clause, by its first token
  abbrev Begun : ℕ → List Clause → (Cases → Lexeme → Reader) → List Lexeme → File → Type 0
  Begun l done next us f =
      ((t : Lexeme) × (vs : List Lexeme) × Token (keyword keywords.Case) t us vs × (l + 1 ≤ B) × Means ed B (behind_case l done next t) vs f)
      ⊎ ((t : Lexeme) × (vs : List Lexeme) × Token (keyword keywords.Default) t us vs × Means ed B (clause_body l done next t.place None) vs f)

  clause_begun : (l : ℕ) (done : List Clause) (next : Cases → Lexeme → Reader) (p : Place) (values : Option ExpressionList) (ss : List Statement) (cs : List Clause)
      (c : Lexeme)
      (us xs ws : List Lexeme) (f : File) → AreClauses ed (pack_cases ((p, (values, ss)) ∷ cs)) us xs → l + 1 + clauses_height
      (pack_cases ((p, (values, ss)) ∷ cs)) ≤ B + 1 →
      Token closing_brace c xs ws → Means ed B (next (pack_cases (done ++ (p, (values, ss)) ∷ cs)) c) ws f → Begun l done next us f
  clause_begun l done next p None ss cs c us xs ws f are fits close m =
      let d = are.4 in
      inr (d.0, are.1, d.1, clause_body_forth l done next p d.0.place None ss cs c are.0 are.1 are.2 are.3 xs ws f d.2 are.5 are.6 are.7 fits close m)
  clause_begun l done next p (Some es) ss cs c us xs ws f are fits close m =
      let d = are.4 in
      let high : l + 1 + exprs_height es ≤ B + 1 = omega (arith, fits) in
      inl (
        d.0,
        d.1,
        d.2,
        omega (arith, high, exprs_height_positive ed false es d.1 are.1 d.4),
        values_forth ed B false (l + 1) an_operand (λ x. clause_body l done next d.0.place (Some x)) es d.1 are.1 f d.4 high
            (clause_body_forth l done next p d.0.place (Some es) ss cs c are.0 are.1 are.2 are.3 xs ws f d.3 are.5 are.6 are.7 fits close m),
      )

  begun_forth : (l : ℕ) (done : List Clause) (next : Cases → Lexeme → Reader) (t : Lexeme) (other : Move) (us : List Lexeme) (f : File) →
      Begun l done next (t ∷ us) f →
      After ed B (on_clause l done next t other) us f
  begun_forth l done next t other us f (inl (k, vs, d, need, m)) =
      let h = first_is (keyword keywords.Case) t k us vs d in
      after_same ed B (keyword keywords.Case) t (Take (l + 1) (behind_case l done next t))
      (cond (same (keyword keywords.Default) t.kind) (Take 0 (clause_body l done next t.place None)) other) us f h.2
      (need, subst (λ x. Means ed B (behind_case l done next x) us f) (sym h.0) (subst (λ x. Means ed B (behind_case l done next k) x f) (sym h.1) m))
  begun_forth l done next t other us f (inr (k, vs, d, m)) =
      let h = first_is (keyword keywords.Default) t k us vs d in
      after_other ed B (keyword keywords.Case) t (Take (l + 1) (behind_case l done next t))
      (cond (same (keyword keywords.Default) t.kind) (Take 0 (clause_body l done next t.place None)) other) us f
      (ap (same (keyword keywords.Case)) h.2)
      (after_same ed B (keyword keywords.Default) t (Take 0 (clause_body l done next t.place None)) other us f h.2 (
        omega arith,
        subst (λ (x : Lexeme). Means ed B (clause_body l done next x.place None) us f) (sym h.0)
            (subst (λ x. Means ed B (clause_body l done next k.place None) x f) (sym h.1) m),
      ))

  pub on_clause_forth : (l : ℕ) (done : List Clause) (next : Cases → Lexeme → Reader) (t : Lexeme) (other : Move) (us : List Lexeme) (f : File) (d : Clause)
      (cs : List Clause) (c : Lexeme)
      (xs ws : List Lexeme) → AreClauses ed (pack_cases (d ∷ cs)) (t ∷ us) xs → l + 1 + clauses_height
      (pack_cases (d ∷ cs)) ≤ B + 1 → Token closing_brace c xs ws →
      Means ed B (next (pack_cases (done ++ d ∷ cs)) c) ws f → After ed B (on_clause l done next t other) us f
  on_clause_forth l done next t other us f d cs c xs ws are fits close m =
      begun_forth l done next t other us f (clause_begun l done next d.0 d.1.0 d.1.1 cs c (t ∷ us) xs ws f are fits close m)

  -- what is due there is good
  pub clause_body_good : (l : ℕ) (done : List Clause) (next : Cases → Lexeme → Reader) (p : Place) (values : Option ExpressionList) → l ≤ B →
      l + 1 + clauses_height (pack_cases done) ≤ B + 1 → l + 1 + lifted exprs_height values ≤ B + 1 →
      ((cs : Cases) (c : Lexeme) → l + 1 + clauses_height cs ≤ B + 1 → Good ed B (next cs c)) → Good ed B (clause_body l done next p values)
  clause_body_good l done next p values low fits high good =
      (omega arith, λ t e le. (tt, (low, omega (arith, fits, high, clauses_pushed done p values []), good)))

  pub behind_case_good : (l : ℕ) (done : List Clause) (next : Cases → Lexeme → Reader) (t : Lexeme) → l + 1 ≤ B →
      l + 1 + clauses_height (pack_cases done) ≤ B + 1 →
      ((cs : Cases) (c : Lexeme) → l + 1 + clauses_height cs ≤ B + 1 → Good ed B (next cs c)) → Good ed B (behind_case l done next t)
  behind_case_good l done next t low fits good =
      values_good ed B false (l + 1) an_operand (λ es. clause_body l done next t.place (Some es)) low
      (λ es high. clause_body_good l done next t.place (Some es) (omega (arith, low)) fits high good) (λ es. refl)
      (λ es k b. closes_as false colon k b (refl, refl) (refl, refl))

  pub on_clause_kept : (l : ℕ) (done : List Clause) (next : Cases → Lexeme → Reader) (t : Lexeme) (other : Move) → l ≤ B →
      l + 1 + clauses_height (pack_cases done) ≤ B + 1 →
      ((cs : Cases) (c : Lexeme) → l + 1 + clauses_height cs ≤ B + 1 → Good ed B (next cs c)) → Kept ed B other → Kept ed B (on_clause l done next t other)
  on_clause_kept l done next t other low fits good behind =
      kept_cond ed B (same (keyword keywords.Case) t.kind) (Take (l + 1) (behind_case l done next t))
      (cond (same (keyword keywords.Default) t.kind) (Take 0 (clause_body l done next t.place None)) other)
      (λ e le. behind_case_good l done next t le fits good)
      (λ e. kept_cond ed B (same (keyword keywords.Default) t.kind) (Take 0 (clause_body l done next t.place None)) other
      (λ q le. clause_body_good l done next t.place None low fits (omega (arith, low)) good) (λ q. behind))

  -- the clauses of a switch
  pub clauses_at_back : (l : ℕ) (next : Cases → Lexeme → Reader) (us : List Lexeme) (f : File) → l ≤ B → Means ed B (read_clauses l next) us f →
      (cs : Cases) × (c : Lexeme) × (xs ws : List Lexeme) × AreClauses ed cs us xs × (l + 1 + clauses_height cs ≤ B + 1) × Token closing_brace c xs ws × Means ed B
      (next cs c) ws f
  clauses_at_back l next us f low (inl (t, vs, k, need, m)) =
      let r = case_back l [] next t us vs f low k m in (pack_cases r.0, r.1, r.2, r.3, r.4, r.5, r.6, r.7)
  clauses_at_back l next us f low (inr (inl (t, vs, k, need, m))) =
      let r = default_back l [] next t us vs f low k m in (pack_cases r.0, r.1, r.2, r.3, r.4, r.5, r.6, r.7)
  clauses_at_back l next us f low (inr (inr (c, ws, k, need, m))) = (no_clauses, c, us, ws, refl, omega (arith, low), k, m)

  clauses_by_list : (l : ℕ) (next : Cases → Lexeme → Reader) (cs : List Clause) (c : Lexeme) (us xs ws : List Lexeme) (f : File) →
      AreClauses ed (pack_cases cs) us xs →
      l + 1 + clauses_height (pack_cases cs) ≤ B + 1 → Token closing_brace c xs ws → Means ed B (next (pack_cases cs) c) ws f →
      Means ed B (read_clauses l next) us f
  clauses_by_list l next [] c us xs ws f are fits close m = inr (inr (c, ws, subst (λ x. Token closing_brace c x ws) (sym are) close, omega arith, m))
  clauses_by_list l next (d ∷ cs) c us xs ws f are fits close m = elim (clause_begun l [] next d.0 d.1.0 d.1.1 cs c us xs ws f are fits close m) [
    | inl b ↦ inl (b.0, b.1, b.2, b.3, b.4)
    | inr b ↦ inr (inl (b.0, b.1, b.2, omega arith, b.3))
  ]

  pub clauses_at_forth : (l : ℕ) (next : Cases → Lexeme → Reader) (cs : Cases) (c : Lexeme) (us xs ws : List Lexeme) (f : File) → AreClauses ed cs us xs →
      l + 1 + clauses_height cs ≤ B + 1 → Token closing_brace c xs ws → Means ed B (next cs c) ws f → Means ed B (read_clauses l next) us f
  clauses_at_forth l next cs c us xs ws f are fits close m =
      let e = sym (pack_clauses_of cs) in
      clauses_by_list l next (clauses_of cs) c us xs ws f (subst (λ x. AreClauses ed x us xs) e are) (subst (λ x. l + 1 + clauses_height x ≤ B + 1) e fits) close
      (subst (λ x. Means ed B (next x c) ws f) e m)

  pub clauses_at_good : (l : ℕ) (next : Cases → Lexeme → Reader) → l ≤ B →
      ((cs : Cases) (c : Lexeme) → l + 1 + clauses_height cs ≤ B + 1 → Good ed B (next cs c)) →
      Good ed B (read_clauses l next)
  clauses_at_good l next low good = (
    inr (inl (omega arith)),
    (
      (λ t e le. behind_case_good l [] next t le (omega (arith, low)) good),
      (
        (λ t e le. clause_body_good l [] next t.place None low (omega (arith, low)) (omega (arith, low)) good),
        (λ c e le. good no_clauses c (omega (arith, low))),
        refl,
      ),
      refl,
    ),
  )
