-- More names or expressions behind some, and what may be missing: an expression, a type.
use Rattle.std.proofs.Common.{◌≡◌, ℕ, ◌≤◌, ◌⊎◌, inl, inr, Bool, true, false, ◌||◌, List, [], ◌∷◌, ◌++◌, refl, sym, ap, ◌∙◌, subst, arith, append_assoc, append-nil}
use Rattle.go_text.specs.declared.edition.Edition.{Edition}
use Rattle.go_scan.specs.declared.token.TokenKind.{TokenKind}
use Rattle.go_scan.specs.declared.token.TokenKind.TheVariants as kinds
use Rattle.go_ast.specs.Kinds.{same}
use Rattle.go_ast.specs.Expected.{Expected, an_operand, another, is_left_out_at}
use Rattle.go_ast.specs.Trees.{Name, TypeExpr, Expression, File, pack}
use Rattle.go_ast.specs.Heights.{height}
use Rattle.go_ast.specs.Grammar.{Lexeme, Token, name_of, comma, IsExpr, AreMoreNames, AreMoreExprs, AreExprs}
use Rattle.go_ast.specs.Machine.{Reader, token, type, expr, more_names, more_exprs, optional_expr, optional_type, Move, Take, on_optional, on_expr, on_type, begins_expr, begins_type, parser_step}
use Rattle.go_ast.proofs.Same.{are_same}
use Rattle.go_ast.proofs.Means.{begins, Closes, AllFit, Means, Can, Okay, After, Kept, Comes}
use Rattle.go_ast.proofs.Base.{false_true, either_true, left_true, right_true, after_cond, after_same, after_other, kept_cond, token_here, first_is}
use Rattle.go_ast.proofs.Values.{all_fit_append, closes_as, ends_if}

-- some expressions, the first and the others
pub exprs_of_first : (ed : Edition) → (h : Bool) (e : Expression) (es : List Expression) (us vs ws : List Lexeme) → IsExpr ed 5 h e us vs → AreMoreExprs ed h (pack es) vs ws →
    AreExprs ed h (pack (e ∷ es)) us ws
exprs_of_first ed h e es us vs ws d m = (vs, d, m)

module _ (ed : Edition) (B : ℕ) where
  -- a kind with which a state doesn't begin isn't the kind of a token that leads on from it
  pub no_kind : (s : Reader) (j : TokenKind) (t : Lexeme) → begins s j ≡ false → begins s t.kind ≡ true → same j t.kind ≡ false
  no_kind s j t never here = by_test (same j t.kind) refl
    where
      by_test : (c : Bool) → same j t.kind ≡ c → c ≡ false
      by_test false e = refl
      by_test true e = absurd (false_true (sym never ∙ ap (begins s) (sym (are_same j t.kind e)) ∙ here))

  -- names
  abbrev next_name : (List Name → Reader) → List Name → Move
  next_name next front = Take 0 (token kinds.Name 0 another (λ n. more_names (front ++ name_of n ∷ []) next))

  pub more_names_back : (front : List Name) (next : List Name → Reader) (t : Lexeme) (us : List Lexeme) (f : File) →
      (After ed B (parser_step ed (next front) t) us f → Means ed B (next front) (t ∷ us) f) → After ed B (parser_step ed (more_names front next) t) us f →
      Means ed B (more_names front next) (t ∷ us) f
  more_names_back front next t us f back after = elim (after_cond ed B (same comma t.kind) (next_name next front) (parser_step ed (next front) t) us f after) [
    | inl g ↦ (let m = g.1.1 in
        let r = m.4 in (
          name_of m.0 ∷ r.0,
          r.1,
          (t, m.0, us, m.1, token_here comma t us (are_same comma t.kind g.0), m.2, refl, r.2),
          subst (λ x. Means ed B (next x) r.1 f) (append_assoc front (name_of m.0 ∷ []) r.0) r.3,
        ))
    | inr g ↦ ([], t ∷ us, refl, subst (λ x. Means ed B (next x) (t ∷ us) f) (sym (append-nil front)) (back g.1))
  ]

  pub more_names_forth : (front : List Name) (next : List Name → Reader) (t : Lexeme) (us : List Lexeme) (f : File) → Okay ed B (more_names front next) →
      (Means ed B (next front) (t ∷ us) f → begins (next front) t.kind ≡ true) → (Means ed B (next front) (t ∷ us) f → After ed B (parser_step ed (next front) t) us f) →
      Means ed B (more_names front next) (t ∷ us) f → After ed B (parser_step ed (more_names front next) t) us f
  more_names_forth front next t us f okay first forth m = by_names m.0 m.1 m.2 m.3
    where
      by_names : (ns : List Name) (ws : List Lexeme) → AreMoreNames ns (t ∷ us) ws → Means ed B (next (front ++ ns)) ws f →
          After ed B (parser_step ed (more_names front next) t) us f
      by_names [] ws are m =
          let on : Means ed B (next front) (t ∷ us) f = subst (λ x. Means ed B (next x) (t ∷ us) f) (append-nil front)
          (subst (λ xs. Means ed B (next (front ++ [])) xs f) (sym are) m) in
          after_other ed B comma t (next_name next front) (parser_step ed (next front) t) us f (no_kind (next front) comma t (okay.1 front) (first on)) (forth on)
      by_names (n ∷ ns) ws are m =
          let c = first_is comma t are.0 us are.2 are.4 in
          after_same ed B comma t (next_name next front) (parser_step ed (next front) t) us f c.2 (
            omega arith,
            (
              are.1,
              are.3,
              subst (λ x. Token kinds.Name are.1 x are.3) (sym c.1) are.5,
              omega arith,
              (
                ns,
                ws,
                are.7,
                subst (λ x. Means ed B (next (x ++ ns)) ws f) (ap (λ x. front ++ x ∷ []) are.6)
                    (subst (λ x. Means ed B (next x) ws f) (sym (append_assoc front (n ∷ []) ns)) m),
              ),
            ),
          )

  pub more_names_kept : (front : List Name) (next : List Name → Reader) (t : Lexeme) → Okay ed B (more_names front next) → Kept ed B (parser_step ed (next front) t) →
      Kept ed B (parser_step ed (more_names front next) t)
  more_names_kept front next t okay kept =
      kept_cond ed B (same comma t.kind) (next_name next front) (parser_step ed (next front) t) (λ _ need. (omega arith, λ n _ _. (tt, okay))) (λ _. kept)

  pub more_names_first : (front : List Name) (next : List Name → Reader) (t : Lexeme) (us : List Lexeme) (f : File) →
      (Means ed B (next front) (t ∷ us) f → begins (next front) t.kind ≡ true) → Means ed B (more_names front next) (t ∷ us) f →
      begins (more_names front next) t.kind ≡ true
  more_names_first front next t us f first m = by_names m.0 m.1 m.2 m.3
    where
      by_names : (ns : List Name) (ws : List Lexeme) → AreMoreNames ns (t ∷ us) ws → Means ed B (next (front ++ ns)) ws f →
          begins (more_names front next) t.kind ≡ true
      by_names [] ws are m =
          right_true (same comma t.kind) (begins (next front) t.kind)
          (first (subst (λ x. Means ed B (next x) (t ∷ us) f) (append-nil front) (subst (λ xs. Means ed B (next (front ++ [])) xs f) (sym are) m)))
      by_names (n ∷ ns) ws are m = left_true (same comma t.kind) (begins (next front) t.kind) (ap (same comma) (first_is comma t are.0 us are.2 are.4).2)

  pub more_names_comes : (front : List Name) (next : List Name → Reader) → Comes ed B (next front) → Comes ed B (more_names front next)
  more_names_comes front next c = (c.0, c.1, ([], c.0, refl, subst (λ x. Means ed B (next x) c.0 c.1) (sym (append-nil front)) c.2))

  -- expressions
  abbrev next_expr : Bool → ℕ → (List Expression → Reader) → List Expression → Move
  next_expr h l next front = Take 0 (expr 5 h l an_operand (λ e. more_exprs h l (front ++ e ∷ []) next))

  pub more_exprs_back : (h : Bool) (l : ℕ) (front : List Expression) (next : List Expression → Reader) (t : Lexeme) (us : List Lexeme) (f : File) →
      (After ed B (parser_step ed (next front) t) us f → Means ed B (next front) (t ∷ us) f) → After ed B (parser_step ed (more_exprs h l front next) t) us f →
      Means ed B (more_exprs h l front next) (t ∷ us) f
  more_exprs_back h l front next t us f back after = elim (after_cond ed B (same comma t.kind) (next_expr h l next front) (parser_step ed (next front) t) us f after) [
    | inl g ↦ (let m = g.1.1 in
        let r = m.4 in (
          m.0 ∷ r.0,
          r.1,
          (t, us, m.1, token_here comma t us (are_same comma t.kind g.0), m.2, r.2),
          (m.3, r.3),
          subst (λ x. Means ed B (next x) r.1 f) (append_assoc front (m.0 ∷ []) r.0) r.4,
        ))
    | inr g ↦ ([], t ∷ us, refl, tt, subst (λ x. Means ed B (next x) (t ∷ us) f) (sym (append-nil front)) (back g.1))
  ]

  pub more_exprs_forth : (h : Bool) (l : ℕ) (front : List Expression) (next : List Expression → Reader) (t : Lexeme) (us : List Lexeme) (f : File) →
      Okay ed B (more_exprs h l front next) →
      (Means ed B (next front) (t ∷ us) f → begins (next front) t.kind ≡ true) → (Means ed B (next front) (t ∷ us) f → After ed B (parser_step ed (next front) t) us f) →
      Means ed B (more_exprs h l front next) (t ∷ us) f → After ed B (parser_step ed (more_exprs h l front next) t) us f
  more_exprs_forth h l front next t us f okay first forth m = by_exprs m.0 m.1 m.2 m.3 m.4
    where
      by_exprs : (es : List Expression) (ws : List Lexeme) → AreMoreExprs ed h (pack es) (t ∷ us) ws → AllFit ed B height l es →
          Means ed B (next (front ++ es)) ws f → After ed B (parser_step ed (more_exprs h l front next) t) us f
      by_exprs [] ws are fit m =
          let on : Means ed B (next front) (t ∷ us) f = subst (λ x. Means ed B (next x) (t ∷ us) f) (append-nil front)
          (subst (λ xs. Means ed B (next (front ++ [])) xs f) (sym are) m) in
          after_other ed B comma t (next_expr h l next front) (parser_step ed (next front) t) us f (no_kind (next front) comma t (okay.3 front) (first on)) (forth on)
      by_exprs (e ∷ es) ws are fit m =
          let c = first_is comma t are.0 us are.1 are.3 in
          after_same ed B comma t (next_expr h l next front) (parser_step ed (next front) t) us f c.2 (
            omega arith,
            (
              e,
              are.2,
              subst (λ x. IsExpr ed 5 h e x are.2) (sym c.1) are.4,
              fit.0,
              (es, ws, are.5, fit.1, subst (λ x. Means ed B (next x) ws f) (sym (append_assoc front (e ∷ []) es)) m),
            ),
          )

  -- what may be behind more expressions
  more_closes : (h : Bool) (l : ℕ) (front : List Expression) (next : List Expression → Reader) (k : TokenKind) →
      ((es : List Expression) (k : TokenKind) → begins (next es) k ≡ true → Closes h k) →
      begins (more_exprs h l front next) k ≡ true → Closes h k
  more_closes h l front next k closes b = elim (either_true (same comma k) (begins (next front) k) b) [
    | inl c ↦ closes_as h comma k c (refl, refl) (refl, refl)
    | inr c ↦ closes front k c
  ]

  pub more_exprs_kept : (h : Bool) (l : ℕ) (front : List Expression) (next : List Expression → Reader) (t : Lexeme) → Okay ed B (more_exprs h l front next) →
      Kept ed B (parser_step ed (next front) t) →
      Kept ed B (parser_step ed (more_exprs h l front next) t)
  more_exprs_kept h l front next t okay kept = kept_cond ed B (same comma t.kind) (next_expr h l next front) (parser_step ed (next front) t) (λ _ need. (
    okay.0,
    (
      (λ e fit. (tt, (okay.0, all_fit_append ed B height l front (e ∷ []) okay.1 (fit, tt), okay.2, okay.3, okay.4))),
      ends_if ed B 5 h (λ e. more_exprs h l (front ++ e ∷ []) next) (λ e k. more_closes h l (front ++ e ∷ []) next k okay.4),
    ),
  )) (λ _. kept)

  pub more_exprs_first : (h : Bool) (l : ℕ) (front : List Expression) (next : List Expression → Reader) (t : Lexeme) (us : List Lexeme) (f : File) →
      (Means ed B (next front) (t ∷ us) f → begins (next front) t.kind ≡ true) → Means ed B (more_exprs h l front next) (t ∷ us) f →
      begins (more_exprs h l front next) t.kind ≡ true
  more_exprs_first h l front next t us f first m = by_exprs m.0 m.1 m.2 m.4
    where
      by_exprs : (es : List Expression) (ws : List Lexeme) → AreMoreExprs ed h (pack es) (t ∷ us) ws → Means ed B (next (front ++ es)) ws f →
          begins (more_exprs h l front next) t.kind ≡ true
      by_exprs [] ws are m =
          right_true (same comma t.kind) (begins (next front) t.kind)
          (first (subst (λ x. Means ed B (next x) (t ∷ us) f) (append-nil front) (subst (λ xs. Means ed B (next (front ++ [])) xs f) (sym are) m)))
      by_exprs (e ∷ es) ws are m = left_true (same comma t.kind) (begins (next front) t.kind) (ap (same comma) (first_is comma t are.0 us are.1 are.3).2)

  pub more_exprs_comes : (h : Bool) (l : ℕ) (front : List Expression) (next : List Expression → Reader) → Comes ed B (next front) → Comes ed B (more_exprs h l front next)
  more_exprs_comes h l front next c = (c.0, c.1, ([], c.0, refl, tt, subst (λ x. Means ed B (next x) c.0 c.1) (sym (append-nil front)) c.2))

  -- what may be missing
  after_optional : (begun out : Bool) (x : Expected) (there missing : Move) (us : List Lexeme) (f : File) →
      After ed B (on_optional begun out x there missing) us f →
      ((begun ≡ true) × After ed B there us f) ⊎ After ed B missing us f
  after_optional true out x there missing us f a = inl (refl, a)
  after_optional false true x there missing us f a = absurd a
  after_optional false false x there missing us f a = inr a

  there_after : (begun out : Bool) (x : Expected) (there missing : Move) (us : List Lexeme) (f : File) → begun ≡ true → After ed B there us f →
      After ed B (on_optional begun out x there missing) us f
  there_after begun out x there missing us f e a = subst (λ c. After ed B (on_optional c out x there missing) us f) (sym e) a

  missing_after : (begun out : Bool) (x : Expected) (there missing : Move) (us : List Lexeme) (f : File) → (begun || out) ≡ false →
      After ed B missing us f →
      After ed B (on_optional begun out x there missing) us f
  missing_after false out x there missing us f e a = subst (λ c. After ed B (on_optional false c x there missing) us f) (sym e) a
  missing_after true out x there missing us f e a = absurd (false_true (sym e))

  kept_optional : (begun out : Bool) (x : Expected) (there missing : Move) → Kept ed B there → Kept ed B missing →
      Kept ed B (on_optional begun out x there missing)
  kept_optional true out x there missing p q = p
  kept_optional false true x there missing p q = tt
  kept_optional false false x there missing p q = q

  -- where the rest begins, the part neither begins nor is left out
  not_there : (part rest : Bool) → (part ≡ true → rest ≡ false) → rest ≡ true → part ≡ false
  not_there false rest f e = refl
  not_there true rest f e = absurd (false_true (sym (f refl) ∙ e))

  -- an expression; on_expr's lemmas are arguments
  pub optional_expr_back : (h : Bool) (l : ℕ) (x : Expected) (some : Expression → Reader) (none : Reader) (t : Lexeme) (us : List Lexeme) (f : File) →
      (After ed B (on_expr 5 h l x some t) us f → Means ed B (expr 5 h l x some) (t ∷ us) f) → (After ed B (parser_step ed none t) us f → Means ed B none (t ∷ us) f) →
      After ed B (parser_step ed (optional_expr h l x some none) t) us f → Means ed B (optional_expr h l x some none) (t ∷ us) f
  optional_expr_back h l x some none t us f there missing after =
      elim (after_optional (begins_expr t.kind) (is_left_out_at x t.kind) x (on_expr 5 h l x some t) (parser_step ed none t) us f after) [
        | inl a ↦ inl (there a.1)
        | inr a ↦ inr (missing a)
      ]

  pub optional_expr_forth : (h : Bool) (l : ℕ) (x : Expected) (some : Expression → Reader) (none : Reader) (t : Lexeme) (us : List Lexeme) (f : File) →
      Okay ed B (optional_expr h l x some none) →
      (Means ed B (expr 5 h l x some) (t ∷ us) f → begins_expr t.kind ≡ true) →
      (Means ed B (expr 5 h l x some) (t ∷ us) f → After ed B (on_expr 5 h l x some t) us f) →
      (Means ed B none (t ∷ us) f → begins none t.kind ≡ true) → (Means ed B none (t ∷ us) f → After ed B (parser_step ed none t) us f) →
      Means ed B (optional_expr h l x some none) (t ∷ us) f → After ed B (parser_step ed (optional_expr h l x some none) t) us f
  optional_expr_forth h l x some none t us f okay first there none_first missing m = elim m [
    | inl a ↦ there_after (begins_expr t.kind) (is_left_out_at x t.kind) x (on_expr 5 h l x some t) (parser_step ed none t) us f (first a) (there a)
    | inr a ↦ missing_after (begins_expr t.kind) (is_left_out_at x t.kind) x (on_expr 5 h l x some t) (parser_step ed none t) us f
        (not_there (begins_expr t.kind || is_left_out_at x t.kind) (begins none t.kind) (okay.3 t.kind) (none_first a)) (missing a)
  ]

  pub optional_expr_kept : (h : Bool) (l : ℕ) (x : Expected) (some : Expression → Reader) (none : Reader) (t : Lexeme) →
      Kept ed B (on_expr 5 h l x some t) → Kept ed B (parser_step ed none t) → Kept ed B (parser_step ed (optional_expr h l x some none) t)
  optional_expr_kept h l x some none t there missing =
      kept_optional (begins_expr t.kind) (is_left_out_at x t.kind) x (on_expr 5 h l x some t) (parser_step ed none t) there missing

  -- what is good behind the optional expression is so behind an expression
  pub optional_expr_okay : (h : Bool) (l : ℕ) (x : Expected) (some : Expression → Reader) (none : Reader) → Okay ed B (optional_expr h l x some none) →
      Okay ed B (expr 5 h l x some)
  optional_expr_okay h l x some none okay = (okay.0, okay.1)

  pub optional_expr_first : (h : Bool) (l : ℕ) (x : Expected) (some : Expression → Reader) (none : Reader) (t : Lexeme) (us : List Lexeme) (f : File) →
      (Means ed B (expr 5 h l x some) (t ∷ us) f → begins_expr t.kind ≡ true) → (Means ed B none (t ∷ us) f → begins none t.kind ≡ true) →
      Means ed B (optional_expr h l x some none) (t ∷ us) f → begins (optional_expr h l x some none) t.kind ≡ true
  optional_expr_first h l x some none t us f first none_first m = elim m [
    | inl a ↦ left_true (begins_expr t.kind) (begins none t.kind) (first a)
    | inr a ↦ right_true (begins_expr t.kind) (begins none t.kind) (none_first a)
  ]

  pub optional_expr_comes : (h : Bool) (l : ℕ) (x : Expected) (some : Expression → Reader) (none : Reader) → Can ed B (optional_expr h l x some none) →
      (l ≤ B → Comes ed B (expr 5 h l x some)) →
      (Can ed B none → Comes ed B none) → Comes ed B (optional_expr h l x some none)
  optional_expr_comes h l x some none can there missing = elim can [
    | inl le ↦ (let c = there le in (c.0, c.1, inl c.2))
    | inr le ↦ (let c = missing le in (c.0, c.1, inr c.2))
  ]

  -- a type; on_type's lemmas are arguments
  pub optional_type_back : (l : ℕ) (x : Expected) (some : TypeExpr → Reader) (none : Reader) (t : Lexeme) (us : List Lexeme) (f : File) →
      (After ed B (on_type l x some t) us f → Means ed B (type l x some) (t ∷ us) f) → (After ed B (parser_step ed none t) us f → Means ed B none (t ∷ us) f) →
      After ed B (parser_step ed (optional_type l x some none) t) us f → Means ed B (optional_type l x some none) (t ∷ us) f
  optional_type_back l x some none t us f there missing after =
      elim (after_optional (begins_type t.kind) (is_left_out_at x t.kind) x (on_type l x some t) (parser_step ed none t) us f after) [
        | inl a ↦ inl (there a.1)
        | inr a ↦ inr (missing a)
      ]

  pub optional_type_forth : (l : ℕ) (x : Expected) (some : TypeExpr → Reader) (none : Reader) (t : Lexeme) (us : List Lexeme) (f : File) →
      Okay ed B (optional_type l x some none) →
      (Means ed B (type l x some) (t ∷ us) f → begins_type t.kind ≡ true) → (Means ed B (type l x some) (t ∷ us) f → After ed B (on_type l x some t) us f) →
      (Means ed B none (t ∷ us) f → begins none t.kind ≡ true) → (Means ed B none (t ∷ us) f → After ed B (parser_step ed none t) us f) →
      Means ed B (optional_type l x some none) (t ∷ us) f → After ed B (parser_step ed (optional_type l x some none) t) us f
  optional_type_forth l x some none t us f okay first there none_first missing m = elim m [
    | inl a ↦ there_after (begins_type t.kind) (is_left_out_at x t.kind) x (on_type l x some t) (parser_step ed none t) us f (first a) (there a)
    | inr a ↦ missing_after (begins_type t.kind) (is_left_out_at x t.kind) x (on_type l x some t) (parser_step ed none t) us f
        (not_there (begins_type t.kind || is_left_out_at x t.kind) (begins none t.kind) (okay.3 t.kind) (none_first a)) (missing a)
  ]

  pub optional_type_kept : (l : ℕ) (x : Expected) (some : TypeExpr → Reader) (none : Reader) (t : Lexeme) →
      Kept ed B (on_type l x some t) → Kept ed B (parser_step ed none t) → Kept ed B (parser_step ed (optional_type l x some none) t)
  optional_type_kept l x some none t there missing =
      kept_optional (begins_type t.kind) (is_left_out_at x t.kind) x (on_type l x some t) (parser_step ed none t) there missing

  pub optional_type_okay : (l : ℕ) (x : Expected) (some : TypeExpr → Reader) (none : Reader) → Okay ed B (optional_type l x some none) →
      Okay ed B (type l x some)
  optional_type_okay l x some none okay = (okay.0, okay.1)

  pub optional_type_first : (l : ℕ) (x : Expected) (some : TypeExpr → Reader) (none : Reader) (t : Lexeme) (us : List Lexeme) (f : File) →
      (Means ed B (type l x some) (t ∷ us) f → begins_type t.kind ≡ true) → (Means ed B none (t ∷ us) f → begins none t.kind ≡ true) →
      Means ed B (optional_type l x some none) (t ∷ us) f → begins (optional_type l x some none) t.kind ≡ true
  optional_type_first l x some none t us f first none_first m = elim m [
    | inl a ↦ left_true (begins_type t.kind) (begins none t.kind) (first a)
    | inr a ↦ right_true (begins_type t.kind) (begins none t.kind) (none_first a)
  ]

  pub optional_type_comes : (l : ℕ) (x : Expected) (some : TypeExpr → Reader) (none : Reader) → Can ed B (optional_type l x some none) →
      (l ≤ B → Comes ed B (type l x some)) →
      (Can ed B none → Comes ed B none) → Comes ed B (optional_type l x some none)
  optional_type_comes l x some none can there missing = elim can [
    | inl le ↦ (let c = there le in (c.0, c.1, inl c.2))
    | inr le ↦ (let c = missing le in (c.0, c.1, inr c.2))
  ]
