-- `switch`: what is taken is what the grammar says, both ways.
use Rattle.std.proofs.Common.{◌≡◌, ℕ, ◌+◌, ◌≤◌, inl, inr, true, List, [], ◌∷◌, Option, Some, None, refl, sym, ◌∙◌, subst, arith}
use Rattle.go_text.specs.declared.edition.Edition.{Edition}
use Rattle.go_text.specs.declared.place.Place.{Place}
use Rattle.go_scan.specs.declared.keyword.Keyword.TheVariants as keywords
use Rattle.go_ast.specs.Expected.{an_operand, another}
use Rattle.go_ast.specs.Trees.{Expression, Simple, Statement, switch_statement, Cases, File}
use Rattle.go_ast.specs.Heights.{height, lifted, simple_height, stmt_height}
use Rattle.go_ast.specs.Grammar.{Lexeme, Token, semicolon, opening_brace, closing_brace, IsExpr, IsExpr?, IsStart, IsStmt, AreClauses}
use Rattle.go_ast.specs.Machine.{in_header, Reader, token, expr, keyword, switch_body, switch_tag, behind_switch}
use Rattle.go_ast.proofs.Means.{IsFirst, Means, Okay, Good}
use Rattle.go_ast.proofs.Base.{false_true, token_here}
use Rattle.go_ast.proofs.Values.{ends_if}
use Rattle.go_ast.proofs.Simple.{simple_back, simple_forth}
use Rattle.go_ast.proofs.LeftsKept.{left_okay}
use Rattle.go_ast.proofs.Clauses.{clauses_at_back, clauses_at_forth, clauses_at_good}
use Rattle.go_ast.proofs.Ifs.{brace_closes, semicolon_ends}

module _ (ed : Edition) (B : ℕ) where
  -- the value and the clauses
  abbrev Tag : ℕ → Place → (Statement → Reader) → Option Simple → List Lexeme → File → Type 0
  Tag l p next i us f =
      (tag : Option Expression) × (cs : Cases) × (o c : Lexeme) × (ys zs xs ws : List Lexeme) × IsExpr? ed tag us ys × Token opening_brace o ys zs
      × AreClauses ed cs zs xs
      × Token closing_brace c xs ws × (l + stmt_height (switch_statement p i tag cs) ≤ B + 1) × Means ed B (next (switch_statement p i tag cs)) ws f

  -- behind the brace
  with_tag : (l : ℕ) (p : Place) (next : Statement → Reader) (i : Option Simple) (tag : Option Expression) (o : Lexeme) (us ys zs : List Lexeme) (f : File) → l ≤ B →
      l + 1 + lifted simple_height i ≤ B + 1 → l + 1 + lifted height tag ≤ B + 1 → IsExpr? ed tag us ys → Token opening_brace o ys zs →
      Means ed B (switch_body l p next i tag) zs f →
      Tag l p next i us f
  with_tag l p next i tag o us ys zs f low hi ht d k m =
      let g = clauses_at_back ed B l (λ cs _. next (switch_statement p i tag cs)) zs f low m in
      (tag, g.0, o, g.1, ys, zs, g.2, g.3, d, k, g.4, g.6, omega (arith, hi, ht, g.5), g.7)

  tag_back : (l : ℕ) (p : Place) (next : Statement → Reader) (i : Option Simple) (us : List Lexeme) (f : File) → l ≤ B → l + 1 + lifted simple_height i ≤ B + 1 →
      Means ed B (switch_tag l p next i) us f → Tag l p next i us f
  tag_back l p next i us f low hi m = elim m [
    | inl a ↦ with_tag l p next i None a.0 us us a.1 f low hi (omega (arith, low)) refl a.2 a.4
    | inr a ↦ (let b = a.4 in with_tag l p next i (Some a.0) b.0 us a.1 b.1 f low hi a.3 a.2 b.2 b.4)
  ]

  abbrev SwitchRead : ℕ → (Statement → Reader) → List Lexeme → File → Type 0
  SwitchRead l next us f = (s : Statement) × (ws : List Lexeme) × IsStmt ed s us ws × (l + stmt_height s ≤ B + 1) × Means ed B (next s) ws f

  with_start : (l : ℕ) (next : Statement → Reader) (t : Lexeme) (i : Option Simple) (us vs : List Lexeme) (f : File) → t.kind ≡ keyword keywords.Switch →
      IsStart ed i us vs →
      Tag l t.place next i vs f → SwitchRead l next (t ∷ us) f
  with_start l next t i us vs f k start g = (
    switch_statement t.place i g.0 g.1,
    g.7,
    (t, g.2, g.3, us, vs, g.4, g.5, g.6, token_here (keyword keywords.Switch) t us k, refl, start, g.8, g.9, g.10, g.11),
    g.12,
    g.13,
  )

  pub switch_back : (l : ℕ) (next : Statement → Reader) (t : Lexeme) (us : List Lexeme) (f : File) → l ≤ B → t.kind ≡ keyword keywords.Switch →
      Means ed B (behind_switch l next t) us f → SwitchRead l next (t ∷ us) f
  switch_back l next t us f low k m = elim m [
    | inl a ↦ with_start l next t None us us f k (inl refl)
        (with_tag l t.place next None None a.0 us us a.1 f low (omega (arith, low)) (omega (arith, low)) refl a.2 a.4)
    | inr m ↦ elim m [
      | inl a ↦ with_start l next t None us a.1 f k (inr (a.0, a.2)) (tag_back l t.place next None a.1 f low (omega (arith, low)) a.4)
      | inr a ↦ elim a.4 [
        | inl s ↦ with_start l next t (Some s.0) us s.5.1 f k (s.5.0, s.1, simple_back ed true a.0 s.0 us a.1 s.1 a.2 s.2, s.5.2)
            (tag_back l t.place next (Some s.0) s.5.1 f low s.3 s.5.4)
        | inr r ↦ elim r [
          | inl x ↦ (let same_expr : a.0 ≡ x.0 = (let q : a.0 ∷ [] ≡ x.0 ∷ [] = x.1 in cc (q)) in
              let b = x.4 in
              with_start l next t None us us f k (inl refl) (with_tag l t.place next None (Some x.0) b.0 us a.1 b.1 f low (omega (arith, low))
              (subst (λ e. l + 1 + height e ≤ B + 1) same_expr a.3) (subst (λ e. IsExpr ed 5 true e us a.1) same_expr a.2) b.2 b.4))
          | inr x ↦ absurd (false_true x.7)
        ]
      ]
    ]
  ]

  -- the other way round
  body_forth : (l : ℕ) (p : Place) (next : Statement → Reader) (i : Option Simple) (tag : Option Expression) (cs : Cases) (c : Lexeme) (us xs ws : List Lexeme)
      (f : File) →
      AreClauses ed cs us xs → Token closing_brace c xs ws → l + stmt_height (switch_statement p i tag cs) ≤ B + 1 →
      Means ed B (next (switch_statement p i tag cs)) ws f →
      Means ed B (switch_body l p next i tag) us f
  body_forth l p next i tag cs c us xs ws f d k le m = clauses_at_forth ed B l (λ x _. next (switch_statement p i tag x)) cs c us xs ws f d (omega (arith, le)) k m

  tag_forth : (l : ℕ) (p : Place) (next : Statement → Reader) (i : Option Simple) (tag : Option Expression) (cs : Cases) (o c : Lexeme) (us ys zs xs ws : List Lexeme)
      (f : File) →
      IsExpr? ed tag us ys → Token opening_brace o ys zs → AreClauses ed cs zs xs → Token closing_brace c xs ws →
      l + stmt_height (switch_statement p i tag cs) ≤ B + 1 →
      Means ed B (next (switch_statement p i tag cs)) ws f → Means ed B (switch_tag l p next i) us f
  tag_forth l p next i None cs o c us ys zs xs ws f d k q r le m =
      inl (o, zs, subst (λ x. Token opening_brace o x zs) (sym d) k, omega arith, body_forth l p next i None cs c zs xs ws f q r le m)
  tag_forth l p next i (Some e) cs o c us ys zs xs ws f d k q r le m =
      inr (e, ys, d, omega (arith, le), (o, zs, k, omega arith, body_forth l p next i (Some e) cs c zs xs ws f q r le m))

  start_forth : (l : ℕ) (next : Statement → Reader) (t : Lexeme) (i : Option Simple) (tag : Option Expression) (cs : Cases) (o c : Lexeme)
      (us vs ys zs xs ws : List Lexeme) (f : File) →
      IsStart ed i us vs → IsExpr? ed tag vs ys → Token opening_brace o ys zs → AreClauses ed cs zs xs → Token closing_brace c xs ws →
      l + stmt_height (switch_statement t.place i tag cs) ≤ B + 1 → Means ed B (next (switch_statement t.place i tag cs)) ws f →
      Means ed B (behind_switch l next t) us f
  start_forth l next t None None cs o c us vs ys zs xs ws f (inl start) d k q r le m =
      inl (o, zs, subst (λ x. Token opening_brace o x zs) (sym (start ∙ d)) k, omega arith, body_forth l t.place next None None cs c zs xs ws f q r le m)
  start_forth l next t None (Some e) cs o c us vs ys zs xs ws f (inl start) d k q r le m =
      inr (inr (
        e,
        ys,
        subst (λ x. IsExpr ed 5 true e x ys) (sym start) d,
        omega (arith, le),
        inr (inl (
          e,
          refl,
          refl,
          subst (IsFirst opening_brace) (sym k.whole) k.is,
          (o, zs, k, omega arith, body_forth l t.place next None (Some e) cs c zs xs ws f q r le m),
        )),
      ))
  start_forth l next t None tag cs o c us vs ys zs xs ws f (inr start) d k q r le m =
      inr (inl (start.0, vs, start.1, omega arith, tag_forth l t.place next None tag cs o c vs ys zs xs ws f d k q r le m))
  start_forth l next t (Some s) tag cs o c us vs ys zs xs ws f start d k q r le m =
      let g = simple_forth ed true s us start.1 start.2 in
      inr (inr (
        g.0,
        g.1,
        g.2,
        omega (arith, le, g.4),
        inl (
          s,
          start.1,
          g.3,
          omega (arith, le),
          (λ never. absurd (false_true (sym never))),
          (start.0, vs, start.3, omega arith, tag_forth l t.place next (Some s) tag cs o c vs ys zs xs ws f d k q r le m),
        ),
      ))

  pub switch_forth : (l : ℕ) (next : Statement → Reader) (p : Place) (i : Option Simple) (tag : Option Expression) (cs : Cases) (us ws : List Lexeme) (f : File) →
      IsStmt ed (switch_statement p i tag cs) us ws → l + stmt_height (switch_statement p i tag cs) ≤ B + 1 → Means ed B (next (switch_statement p i tag cs)) ws f →
      (t : Lexeme) × (vs : List Lexeme) × Token (keyword keywords.Switch) t us vs × Means ed B (behind_switch l next t) vs f
  switch_forth l next p i tag cs us ws f d le m = (
    d.0,
    d.3,
    d.8,
    start_forth l next d.0 i tag cs d.1 d.2 d.3 d.4 d.5 d.6 d.7 ws f d.10 d.11 d.12 d.13 d.14 le
        (subst (λ x. Means ed B (next (switch_statement x i tag cs)) ws f) d.9 m),
  )

  -- it is good
  body_good : (l : ℕ) (p : Place) (next : Statement → Reader) (i : Option Simple) (tag : Option Expression) → l ≤ B → l + 1 + lifted simple_height i ≤ B + 1 →
      l + 1 + lifted height tag ≤ B + 1 →
      ((s : Statement) → l + stmt_height s ≤ B + 1 → Good ed B (next s)) → Good ed B (switch_body l p next i tag)
  body_good l p next i tag low hi ht good =
      clauses_at_good ed B l (λ cs _. next (switch_statement p i tag cs)) low (λ cs c fit. good (switch_statement p i tag cs) (omega (arith, hi, ht, fit)))

  tag_good : (l : ℕ) (p : Place) (next : Statement → Reader) (i : Option Simple) → l ≤ B → l + 1 + lifted simple_height i ≤ B + 1 →
      ((s : Statement) → l + stmt_height s ≤ B + 1 → Good ed B (next s)) →
      Okay ed B (expr 5 true (l + 1) an_operand (λ e. token opening_brace 0 another (λ _. switch_body l p next i (Some e)))) × Good ed B (switch_tag l p next i)
  tag_good l p next i low hi good =
      let okay : Okay ed B (expr 5 true (l + 1) an_operand (λ e. token opening_brace 0 another (λ _. switch_body l p next i (Some e)))) = (
        (λ e fit. (omega arith, (λ _ k need. body_good l p next i (Some e) low hi fit good))),
        ends_if ed B 5 true (λ e. token opening_brace 0 another (λ _. switch_body l p next i (Some e))) (λ e k b. brace_closes k b),
      ) in
      (okay, (inl (omega arith), ((λ _ k need. body_good l p next i None low hi (omega (arith, low)) good), okay, refl)))

  pub switch_good : (l : ℕ) (next : Statement → Reader) (t : Lexeme) → l ≤ B → ((s : Statement) → l + stmt_height s ≤ B + 1 → Good ed B (next s)) →
      Good ed B (behind_switch l next t)
  switch_good l next t low good = (
    inl (omega arith),
    (
      (λ _ k need. body_good l t.place next None None low (omega (arith, low)) (omega (arith, low)) good),
      (
        (λ _ k need. (tag_good l t.place next None low (omega (arith, low)) good).1),
        left_okay ed B in_header true (l + 1) (λ s. token semicolon 0 another (λ _. switch_tag l t.place next (Some s)))
            (λ tag. token opening_brace 0 another (λ _. switch_body l t.place next None (Some tag))) (λ n a. switch_tag l t.place next None) an_operand
            (λ s fit. (omega arith, (λ _ k need. (tag_good l t.place next (Some s) low fit good).1))) (λ s k b. semicolon_ends k b) (λ _. refl)
            (λ _ e fit. (omega arith, (λ _ k need. body_good l t.place next None (Some e) low (omega (arith, low)) fit good)))
            (λ never. absurd (false_true never)),
        refl,
      ),
      refl,
    ),
  )
