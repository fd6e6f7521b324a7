-- `for`: what is taken is what the grammar says, both ways.
use Rattle.std.proofs.Common.{◌≡◌, ℕ, ◌+◌, ◌≤◌, inl, inr, true, false, List, [], ◌∷◌, Option, Some, None, refl, sym, ap, ◌∙◌, subst, arith}
use Rattle.go_text.specs.declared.edition.Edition.{Edition}
use Rattle.go_text.specs.declared.place.Place.{Place}
use Rattle.go_scan.specs.declared.token.TokenKind.{TokenKind}
use Rattle.go_scan.specs.declared.keyword.Keyword.TheVariants as keywords
use Rattle.go_ast.specs.Kinds.{same}
use Rattle.go_ast.specs.Expected.{an_operand, another}
use Rattle.go_ast.specs.Trees.{Name, Expression, Simple, call_statement, Statement, for_statement, range_statement, Block, block, File}
use Rattle.go_ast.specs.Heights.{height, lifted, simple_height, block_height, stmt_height}
use Rattle.go_ast.specs.Grammar.{Lexeme, Token, define, semicolon, opening_brace, IsExpr, IsExpr?, IsSimple?, IsForHead, IsRangeName, IsBlock, IsStmt, is_short_var_decl}
use Rattle.go_ast.specs.Machine.{in_for, behind_turns, Reader, token, keyword, name_if, names_if, read_block, for_body, for_turns, for_condition, range_body, behind_for}
use Rattle.go_ast.proofs.Same.{are_same}
use Rattle.go_ast.proofs.Means.{continues, Closes, Means, Good, Ends}
use Rattle.go_ast.proofs.Base.{false_true, token_here}
use Rattle.go_ast.proofs.Values.{ends_if}
use Rattle.go_ast.proofs.Simple.{push_split, is_name, name_expr, name_read, name_is_expr, simple_back, simple_forth}
use Rattle.go_ast.proofs.LeftsKept.{left_good}
use Rattle.go_ast.proofs.Blocks.{open_block_back, block_back, block_forth, open_block_good, block_good}
use Rattle.go_ast.proofs.Ifs.{brace_closes, semicolon_ends, block_first}
use Rattle.go_ast.proofs.Levels.{height_positive}

-- the name in front of a `range`
one_name : (e : Expression) (n : Name) → names_if (e ∷ []) ≡ Some (n ∷ []) → e ≡ name_expr n
one_name e n q =
    let s = push_split (name_if e) (Some []) (n ∷ []) q in
    let c : n ∷ [] ≡ s.0 ∷ s.1 = s.4 in
    let same_name : n ≡ s.0 = cc (c) in
    is_name e n (s.2 ∙ ap Some (sym same_name))

block_height_positive : (b : Block) → 1 ≤ block_height b
block_height_positive (block p ss q) = omega arith

turns_end : (k : TokenKind) → same opening_brace k ≡ true → (continues k ≡ false) × (false ≡ true → same opening_brace k ≡ false) × Closes true k
turns_end k e =
    subst (λ j. (continues j ≡ false) × (false ≡ true → same opening_brace j ≡ false) × Closes true j) (sym (are_same opening_brace k e))
    (refl, (λ never. absurd (false_true never)), (refl, refl))

module _ (ed : Edition) (B : ℕ) where
  -- the third part and the block
  abbrev Turns : ℕ → Place → (Statement → Reader) → Option Simple → Option Expression → List Lexeme → File → Type 0
  Turns l p next i c us f =
      (n : Option Simple) × (b : Block) × (xs ws : List Lexeme) × IsSimple? ed n us xs × ((s : Simple) → n ≡ Some s → is_short_var_decl s ≡ false) × IsBlock ed b xs ws
      × (l + stmt_height (for_statement p i c n b) ≤ B + 1) × Means ed B (next (for_statement p i c n b)) ws f

  turns_back : (l : ℕ) (p : Place) (next : Statement → Reader) (i : Option Simple) (c : Option Expression) (us : List Lexeme) (f : File) →
      l + 1 + lifted simple_height i ≤ B + 1 → l + 1 + lifted height c ≤ B + 1 → Means ed B (for_turns l p next i c) us f → Turns l p next i c us f
  turns_back l p next i c us f hi hc m = elim m [
    | inl a ↦ (let g = open_block_back ed B (l + 1) (for_body l p next i c None) a.0 us a.1 f a.2 a.3 a.4 in
        (None, g.0, us, g.1, refl, (λ s q. (let z : None ≡ Some s = q in cc (z))), g.2, omega (arith, hi, hc, g.3), g.4))
    | inr a ↦ elim a.4 [
      | inl s ↦ (let g = block_back ed B (l + 1) (for_body l p next i c (Some s.0)) s.1 f s.5 in
          let fit = s.3 in (
            Some s.0,
            g.0,
            s.1,
            g.1,
            simple_back ed true a.0 s.0 us a.1 s.1 a.2 s.2,
            (λ x q. (let z : Some s.0 ≡ Some x = q in let w : s.0 ≡ x = cc (z) in subst (λ y. is_short_var_decl y ≡ false) w (s.4 refl))),
            g.2,
            omega (arith, hi, hc, fit, g.3),
            g.4,
          ))
      | inr r ↦ elim r [
        | inl x ↦ absurd (false_true x.2)
        | inr x ↦ absurd (false_true x.7)
      ]
    ]
  ]

  -- the condition and what is behind it
  abbrev Condition : ℕ → Place → (Statement → Reader) → Option Simple → List Lexeme → File → Type 0
  Condition l p next i us f =
      (c : Option Expression) × (r : Lexeme) × (xs ys : List Lexeme) × IsExpr? ed c us xs × Token semicolon r xs ys × Turns l p next i c ys f

  condition_back : (l : ℕ) (p : Place) (next : Statement → Reader) (i : Option Simple) (us : List Lexeme) (f : File) →
      l + 1 + lifted simple_height i ≤ B + 1 → Means ed B (for_condition l p next i) us f → Condition l p next i us f
  condition_back l p next i us f hi m = elim m [
    | inl a ↦ (None, a.0, us, a.1, refl, a.2, turns_back l p next i None a.1 f hi (omega (arith, hi)) a.4)
    | inr a ↦ (Some a.0, a.4.0, a.1, a.4.1, a.2, a.4.2, turns_back l p next i (Some a.0) a.4.1 f hi a.3 a.4.4)
  ]

  abbrev ForRead : ℕ → (Statement → Reader) → List Lexeme → File → Type 0
  ForRead l next us f = (s : Statement) × (ws : List Lexeme) × IsStmt ed s us ws × (l + stmt_height s ≤ B + 1) × Means ed B (next s) ws f

  with_condition : (l : ℕ) (next : Statement → Reader) (t : Lexeme) (i : Option Simple) (s : Lexeme) (us vs xs : List Lexeme) (f : File) →
      t.kind ≡ keyword keywords.For →
      IsSimple? ed i us vs → Token semicolon s vs xs → Condition l t.place next i xs f → ForRead l next (t ∷ us) f
  with_condition l next t i s us vs xs f k start semi g =
      let h = g.6 in (
        for_statement t.place i g.0 h.0 h.1,
        h.3,
        (t, us, h.2, token_here (keyword keywords.For) t us k, refl, inr (s, g.1, vs, xs, g.2, g.3, start, semi, g.4, g.5, h.4, h.5), h.6),
        h.7,
        h.8,
      )

  ranged : (l : ℕ) (next : Statement → Reader) (t : Lexeme) (n : Option Name) (r : Lexeme) (e : Expression) (us xs ys zs : List Lexeme) (f : File) →
      t.kind ≡ keyword keywords.For →
      IsRangeName n us xs → Token (keyword keywords.Range) r xs ys → IsExpr ed 5 true e ys zs → l + 1 + height e ≤ B + 1 →
      Means ed B (range_body l t.place next n e) zs f → ForRead l next (t ∷ us) f
  ranged l next t n r e us xs ys zs f k start d q le m =
      let g = block_back ed B (l + 1) (λ b. next (range_statement t.place n e b)) zs f m in (
        range_statement t.place n e g.0,
        g.1,
        (t, r, us, xs, ys, zs, token_here (keyword keywords.For) t us k, refl, start, d, q, g.2),
        omega (arith, le, g.3),
        g.4,
      )

  range_name : (e : Expression) (n : Name) (d : Lexeme) (us vs xs : List Lexeme) → IsExpr ed 5 true e us vs → names_if (e ∷ []) ≡ Some (n ∷ []) → Token define d vs xs →
      IsRangeName (Some n) us xs
  range_name e n d us vs xs is q k =
      let r = name_read ed true n us vs (subst (λ x. IsExpr ed 5 true x us vs) (one_name e n q) is) in
      (r.0, d, vs, r.1, r.2, k)

  pub for_back : (l : ℕ) (next : Statement → Reader) (t : Lexeme) (us : List Lexeme) (f : File) → t.kind ≡ keyword keywords.For → Means ed B (behind_for l next t) us f →
      l ≤ B → ForRead l next (t ∷ us) f
  for_back l next t us f k m low = elim m [
    | inl a ↦ (let g = open_block_back ed B (l + 1) (for_body l t.place next None None None) a.0 us a.1 f a.2 a.3 a.4 in (
      for_statement t.place None None None g.0,
      g.1,
      (t, us, us, token_here (keyword keywords.For) t us k, refl, inl (refl, refl, refl), g.2),
      omega (arith, g.3),
      g.4,
    ))
    | inr m ↦ elim m [
      | inl a ↦ with_condition l next t None a.0 us us a.1 f k refl a.2 (condition_back l t.place next None a.1 f (omega (arith, low)) a.4)
      | inr m ↦ elim m [
        | inl a ↦ (let x = a.4 in ranged l next t None a.0 x.0 us us a.1 x.1 f k refl a.2 x.2 x.3 x.4)
        | inr a ↦ elim a.4 [
          | inl s ↦ with_condition l next t (Some s.0) s.5.0 us s.1 s.5.1 f k (simple_back ed true a.0 s.0 us a.1 s.1 a.2 s.2) s.5.2
              (condition_back l t.place next (Some s.0) s.5.1 f s.3 s.5.4)
          | inr r ↦ elim r [
            | inl x ↦ (let same_expr : a.0 ≡ x.0 = (let q : a.0 ∷ [] ≡ x.0 ∷ [] = x.1 in cc (q)) in
                let g = block_back ed B (l + 1) (for_body l t.place next None (Some x.0) None) a.1 f x.4 in
                let fit : l + 1 + height x.0 ≤ B + 1 = subst (λ e. l + 1 + height e ≤ B + 1) same_expr a.3 in (
                  for_statement t.place None (Some x.0) None g.0,
                  g.1,
                  (t, us, a.1, token_here (keyword keywords.For) t us k, refl, inl (refl, refl, subst (λ e. IsExpr ed 5 true e us a.1) same_expr a.2), g.2),
                  omega (arith, fit, g.3),
                  g.4,
                ))
            | inr x ↦ ranged l next t (Some x.0) x.3 x.1 us x.4 x.5 x.6 f k (range_name a.0 x.0 x.2 us a.1 x.4 a.2 x.8 x.9) x.10 x.11 x.12 x.13
          ]
        ]
      ]
    ]
  ]

  -- the other way round
  turns_forth : (l : ℕ) (p : Place) (next : Statement → Reader) (i : Option Simple) (c : Option Expression) (n : Option Simple) (b : Block) (us xs ws : List Lexeme)
      (f : File) →
      IsSimple? ed n us xs → ((s : Simple) → n ≡ Some s → is_short_var_decl s ≡ false) → IsBlock ed b xs ws → l + stmt_height (for_statement p i c n b) ≤ B + 1 →
      Means ed B (next (for_statement p i c n b)) ws f → Means ed B (for_turns l p next i c) us f
  turns_forth l p next i c None b us xs ws f d never e le m =
      inl (block_forth ed B (l + 1) (for_body l p next i c None) b us ws f (subst (λ x. IsBlock ed b x ws) (sym d) e) (omega (arith, le)) m)
  turns_forth l p next i c (Some s) b us xs ws f d never e le m =
      let g = simple_forth ed true s us xs d in
      inr (
        g.0,
        g.1,
        g.2,
        omega (arith, le, g.4),
        inl (
          s,
          xs,
          g.3,
          omega (arith, le),
          (λ _. never s refl),
          block_forth ed B (l + 1) (for_body l p next i c (Some s)) b xs ws f e (omega (arith, le)) m,
        ),
      )

  condition_forth : (l : ℕ) (p : Place) (next : Statement → Reader) (i : Option Simple) (c : Option Expression) (n : Option Simple) (b : Block) (r : Lexeme)
      (us xs ys zs ws : List Lexeme) (f : File) →
      IsExpr? ed c us xs → Token semicolon r xs ys → IsSimple? ed n ys zs → ((s : Simple) → n ≡ Some s → is_short_var_decl s ≡ false) → IsBlock ed b zs ws →
      l + stmt_height (for_statement p i c n b) ≤ B + 1 → Means ed B (next (for_statement p i c n b)) ws f → Means ed B (for_condition l p next i) us f
  condition_forth l p next i None n b r us xs ys zs ws f d k q never e le m =
      inl (r, ys, subst (λ x. Token semicolon r x ys) (sym d) k, omega arith, turns_forth l p next i None n b ys zs ws f q never e le m)
  condition_forth l p next i (Some c) n b r us xs ys zs ws f d k q never e le m =
      inr (c, xs, d, omega (arith, le), (r, ys, k, omega arith, turns_forth l p next i (Some c) n b ys zs ws f q never e le m))

  plain_forth : (l : ℕ) (next : Statement → Reader) (t : Lexeme) (c : Option Expression) (b : Block) (us xs ws : List Lexeme) (f : File) → IsExpr? ed c us xs →
      IsBlock ed b xs ws →
      l + 1 + lifted height c ≤ B + 1 → l + 1 + block_height b ≤ B + 1 → Means ed B (next (for_statement t.place None c None b)) ws f →
      Means ed B (behind_for l next t) us f
  plain_forth l next t None b us xs ws f d e hc hb m =
      inl (block_forth ed B (l + 1) (for_body l t.place next None None None) b us ws f (subst (λ x. IsBlock ed b x ws) (sym d) e) hb m)
  plain_forth l next t (Some c) b us xs ws f d e hc hb m =
      inr (inr (inr (
        c,
        xs,
        d,
        hc,
        inr (inl (
          c,
          refl,
          refl,
          block_first ed b xs ws e,
          block_forth ed B (l + 1) (for_body l t.place next None (Some c) None) b xs ws f e hb m,
        )),
      )))

  head_forth : (l : ℕ) (next : Statement → Reader) (t : Lexeme) (i : Option Simple) (c : Option Expression) (n : Option Simple) (b : Block) (us xs ws : List Lexeme)
      (f : File) →
      IsForHead ed i c n us xs → IsBlock ed b xs ws → l + stmt_height (for_statement t.place i c n b) ≤ B + 1 → Means ed B (next (for_statement t.place i c n b)) ws f →
      Means ed B (behind_for l next t) us f
  head_forth l next t i c n b us xs ws f (inl h) e le m =
      plain_forth l next t c b us xs ws f h.2 e (omega (arith, le)) (omega (arith, le))
      (subst (λ x. Means ed B (next (for_statement t.place None c x b)) ws f) h.1 (subst (λ x. Means ed B (next (for_statement t.place x c n b)) ws f) h.0 m))
  head_forth l next t None c n b us xs ws f (inr h) e le m =
      inr (inl (
        h.0,
        h.3,
        subst (λ x. Token semicolon h.0 x h.3) (sym h.6) h.7,
        omega arith,
        condition_forth l t.place next None c n b h.1 h.3 h.4 h.5 xs ws f h.8 h.9 h.10 h.11 e le m,
      ))
  head_forth l next t (Some s) c n b us xs ws f (inr h) e le m =
      let g = simple_forth ed true s us h.2 h.6 in
      inr (inr (inr (
        g.0,
        g.1,
        g.2,
        omega (arith, le, g.4),
        inl (
          s,
          h.2,
          g.3,
          omega (arith, le),
          (λ never. absurd (false_true (sym never))),
          (h.0, h.3, h.7, omega arith, condition_forth l t.place next (Some s) c n b h.1 h.3 h.4 h.5 xs ws f h.8 h.9 h.10 h.11 e le m),
        ),
      )))

  range_forth : (l : ℕ) (next : Statement → Reader) (t : Lexeme) (n : Option Name) (e : Expression) (b : Block) (r : Lexeme) (us xs ys zs ws : List Lexeme) (f : File) →
      IsRangeName n us xs → Token (keyword keywords.Range) r xs ys → IsExpr ed 5 true e ys zs → IsBlock ed b zs ws →
      l + stmt_height (range_statement t.place n e b) ≤ B + 1 →
      Means ed B (next (range_statement t.place n e b)) ws f → Means ed B (behind_for l next t) us f
  range_forth l next t None e b r us xs ys zs ws f d k q x le m =
      inr (inr (inl (
        r,
        ys,
        subst (λ y. Token (keyword keywords.Range) r y ys) (sym d) k,
        omega arith,
        (e, zs, q, omega (arith, le), block_forth ed B (l + 1) (λ y. next (range_statement t.place None e y)) b zs ws f x (omega (arith, le)) m),
      )))
  range_forth l next t (Some n) e b r us xs ys zs ws f d k q x le m =
      inr (inr (inr (
        name_expr n,
        d.2,
        name_is_expr ed true n d.0 us d.2 d.3 d.4,
        omega (arith, le, height_positive e),
        inr (inr (
          n,
          e,
          d.1,
          r,
          xs,
          ys,
          zs,
          refl,
          refl,
          d.5,
          k,
          q,
          omega (arith, le),
          block_forth ed B (l + 1) (λ y. next (range_statement t.place (Some n) e y)) b zs ws f x (omega (arith, le)) m,
        )),
      )))

  abbrev ForTaken : ℕ → (Statement → Reader) → List Lexeme → File → Type 0
  ForTaken l next us f = (t : Lexeme) × (vs : List Lexeme) × Token (keyword keywords.For) t us vs × (l + 1 ≤ B) × Means ed B (behind_for l next t) vs f

  pub for_forth : (l : ℕ) (next : Statement → Reader) (p : Place) (i : Option Simple) (c : Option Expression) (n : Option Simple) (b : Block) (us ws : List Lexeme)
      (f : File) →
      IsStmt ed (for_statement p i c n b) us ws → l + stmt_height (for_statement p i c n b) ≤ B + 1 → Means ed B (next (for_statement p i c n b)) ws f →
      ForTaken l next us f
  for_forth l next p i c n b us ws f d le m = (
    d.0,
    d.1,
    d.3,
    omega (arith, le, block_height_positive b),
    head_forth l next d.0 i c n b d.1 d.2 ws f d.5 d.6 le (subst (λ x. Means ed B (next (for_statement x i c n b)) ws f) d.4 m),
  )

  pub for_range_forth : (l : ℕ) (next : Statement → Reader) (p : Place) (n : Option Name) (e : Expression) (b : Block) (us ws : List Lexeme) (f : File) →
      IsStmt ed (range_statement p n e b) us ws → l + stmt_height (range_statement p n e b) ≤ B + 1 → Means ed B (next (range_statement p n e b)) ws f →
      ForTaken l next us f
  for_range_forth l next p n e b us ws f d le m = (
    d.0,
    d.2,
    d.6,
    omega (arith, le, block_height_positive b),
    range_forth l next d.0 n e b d.1 d.2 d.3 d.4 d.5 ws f d.8 d.9 d.10 d.11 le (subst (λ x. Means ed B (next (range_statement x n e b)) ws f) d.7 m),
  )

  -- it is good
  turns_good : (l : ℕ) (p : Place) (next : Statement → Reader) (i : Option Simple) (c : Option Expression) → l + 1 ≤ B → l + 1 + lifted simple_height i ≤ B + 1 →
      l + 1 + lifted height c ≤ B + 1 →
      ((s : Statement) → l + stmt_height s ≤ B + 1 → Good ed B (next s)) → Good ed B (for_turns l p next i c)
  turns_good l p next i c le hi hc good = (
    inl le,
    (
      (λ o k need. open_block_good ed B (l + 1) (for_body l p next i c None) o le (λ b fit. good (for_statement p i c None b) (omega (arith, hi, hc, fit)))),
      (left_good ed B behind_turns true (l + 1) (λ s. read_block (l + 1) (for_body l p next i c (Some s)))
          (λ a. read_block (l + 1) (for_body l p next i c (Some (call_statement a))))
          (λ n a. read_block (l + 1) (for_body l p next i c (Some (call_statement a)))) an_operand le
          (λ s low. block_good ed B (l + 1) (for_body l p next i c (Some s)) le (λ b fit. good (for_statement p i c (Some s) b) (omega (arith, hi, hc, fit, low))))
          (λ s k b. turns_end k b) (λ never. refl) (λ never. absurd (false_true never)) (λ never. absurd (false_true never))).1,
      refl,
    ),
  )

  condition_good : (l : ℕ) (p : Place) (next : Statement → Reader) (i : Option Simple) → l + 1 ≤ B → l + 1 + lifted simple_height i ≤ B + 1 →
      ((s : Statement) → l + stmt_height s ≤ B + 1 → Good ed B (next s)) → Good ed B (for_condition l p next i)
  condition_good l p next i le hi good = (
    inl (omega arith),
    (
      (λ _ k need. turns_good l p next i None le hi (omega (arith, le)) good),
      (
        (λ c low. (omega arith, (λ _ k need. turns_good l p next i (Some c) le hi low good))),
        ends_if ed B 5 true (λ c. token semicolon 0 another (λ _. for_turns l p next i (Some c))) (λ e k b. (semicolon_ends k b).2),
      ),
      refl,
    ),
  )

  range_good : (l : ℕ) (p : Place) (next : Statement → Reader) (n : Option Name) → l + 1 ≤ B → ((s : Statement) → l + stmt_height s ≤ B + 1 → Good ed B (next s)) →
      ((e : Expression) → l + 1 + height e ≤ B + 1 → Good ed B (range_body l p next n e)) × Ends ed B 5 true (range_body l p next n)
  range_good l p next n le good = (
    (λ e low. block_good ed B (l + 1) (λ b. next (range_statement p n e b)) le (λ b fit. good (range_statement p n e b) (omega (arith, low, fit)))),
    ends_if ed B 5 true (range_body l p next n) (λ e k b. brace_closes k b),
  )

  pub for_good : (l : ℕ) (next : Statement → Reader) (t : Lexeme) → l + 1 ≤ B → ((s : Statement) → l + stmt_height s ≤ B + 1 → Good ed B (next s)) →
      Good ed B (behind_for l next t)
  for_good l next t le good = (
    inl le,
    (
      (λ o k need. open_block_good ed B (l + 1) (for_body l t.place next None None None) o le
          (λ b fit. good (for_statement t.place None None None b) (omega (arith, fit)))),
      (
        (λ _ k need. condition_good l t.place next None le (omega (arith, le)) good),
        (
          (λ _ k need. (le, range_good l t.place next None le good)),
          (left_good ed B in_for true (l + 1) (λ s. token semicolon 0 another (λ _. for_condition l t.place next (Some s)))
              (λ c. read_block (l + 1) (for_body l t.place next None (Some c) None)) (λ n a. range_body l t.place next (Some n) a) an_operand le
              (λ s low. (omega arith, (λ _ k need. condition_good l t.place next (Some s) le low good))) (λ s k b. semicolon_ends k b) (λ _. refl)
              (λ _ c low. block_good ed B (l + 1) (for_body l t.place next None (Some c) None) le
              (λ b fit. good (for_statement t.place None (Some c) None b) (omega (arith, fit, low))))
              (λ _ n. range_good l t.place next (Some n) le good)).1,
          refl,
        ),
        refl,
      ),
      refl,
    ),
  )
