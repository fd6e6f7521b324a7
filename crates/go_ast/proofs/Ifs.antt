-- `if` and what is behind its first block: what is taken is what the grammar says, both ways.
use Rattle.std.proofs.Common.{◌≡◌, ℕ, ◌+◌, ◌≤◌, inl, inr, true, false, List, [], ◌∷◌, Option, Some, None, refl, sym, ap, ◌∙◌, subst, arith}
use Rattle.go_text.specs.declared.edition.Edition.{Edition}
use Rattle.go_text.specs.declared.place.Place.{Place}
use Rattle.go_scan.specs.declared.token.TokenKind.{TokenKind}
use Rattle.go_scan.specs.declared.keyword.Keyword.TheVariants as keywords
use Rattle.go_ast.specs.Kinds.{same}
use Rattle.go_ast.specs.Expected.{an_operand, another}
use Rattle.go_ast.specs.Trees.{Expression, Simple, If, conditional, Else, no_else, else_block, else_if, Block, block, File}
use Rattle.go_ast.specs.Heights.{height, lifted, simple_height, if_height, else_height}
use Rattle.go_ast.specs.Grammar.{Lexeme, Token, semicolon, opening_brace, IsExpr, IsStart, IsBlock, IsIf, IsElse}
use Rattle.go_ast.specs.Machine.{in_header, Reader, token, else_part, keyword, read_block, if_condition, behind_if, behind_else, parser_step}
use Rattle.go_ast.proofs.Same.{are_same, not_same}
use Rattle.go_ast.proofs.Means.{begins, continues, Closes, IsFirst, Means, Okay, Good, After, Kept}
use Rattle.go_ast.proofs.Base.{false_true, left_true, right_true, after_cond, kept_cond, after_same, after_other, token_here, first_is, apart}
use Rattle.go_ast.proofs.Tokens.{same_here, no_token}
use Rattle.go_ast.proofs.Values.{ends_if}
use Rattle.go_ast.proofs.Simple.{simple_back, simple_forth}
use Rattle.go_ast.proofs.LeftsKept.{left_good}
use Rattle.go_ast.proofs.Blocks.{block_back, block_forth, block_good}
use Rattle.go_ast.proofs.Levels.{height_positive}

-- a block in a header, or a semicolon, ends what stands in front
pub brace_closes : (k : TokenKind) → same opening_brace k ≡ true → Closes true k
brace_closes k e = subst (Closes true) (sym (are_same opening_brace k e)) (refl, refl)

pub semicolon_ends : (k : TokenKind) → same semicolon k ≡ true → (continues k ≡ false) × (true ≡ true → same opening_brace k ≡ false) × Closes true k
semicolon_ends k e =
    subst (λ j. (continues j ≡ false) × (true ≡ true → same opening_brace j ≡ false) × Closes true j) (sym (are_same semicolon k e))
    (refl, (λ _. refl), (refl, refl))

pub block_first : (ed : Edition) → (b : Block) (us ws : List Lexeme) → IsBlock ed b us ws → IsFirst opening_brace us
block_first ed (block p ss q) us ws d = subst (IsFirst opening_brace) (sym d.4.whole) d.4.is

pub if_height_positive : (i : If) → 2 ≤ if_height i
if_height_positive (conditional p s c b r) = omega (arith, height_positive c)

module _ (ed : Edition) (B : ℕ) where
  -- the condition, the first block and what is behind it
  abbrev Rest : ℕ → Place → (If → Reader) → Option Simple → List Lexeme → File → Type 0
  Rest l p next i us f =
      (c : Expression) × (b : Block) × (r : Else) × (xs ys ws : List Lexeme) × IsExpr ed 5 true c us xs × IsBlock ed b xs ys × IsElse ed r ys ws
      × (l + if_height (conditional p i c b r) ≤ B + 1) × Means ed B (next (conditional p i c b r)) ws f

  behind_block : (l : ℕ) (p : Place) (next : If → Reader) (i : Option Simple) (c : Expression) (us xs : List Lexeme) (f : File) → IsExpr ed 5 true c us xs →
      Means ed B (read_block (l + 1) (λ b. else_part l p i c b next)) xs f → Rest l p next i us f
  behind_block l p next i c us xs f d m =
      let g = block_back ed B (l + 1) (λ b. else_part l p i c b next) xs f m in
      (c, g.0, g.4.0, xs, g.1, g.4.1, d, g.2, g.4.2, g.4.3, g.4.4)

  condition_back : (l : ℕ) (p : Place) (next : If → Reader) (i : Option Simple) (us : List Lexeme) (f : File) → Means ed B (if_condition l p next i) us f →
      Rest l p next i us f
  condition_back l p next i us f m = behind_block l p next i m.0 us m.1 f m.2 m.4

  abbrev IfRead : ℕ → (If → Reader) → List Lexeme → File → Type 0
  IfRead l next us f = (i : If) × (ws : List Lexeme) × IsIf ed i us ws × (l + if_height i ≤ B + 1) × Means ed B (next i) ws f

  with_start : (l : ℕ) (t : Lexeme) (next : If → Reader) (i : Option Simple) (us vs : List Lexeme) (f : File) → t.kind ≡ keyword keywords.If → IsStart ed i us vs →
      Rest l t.place next i vs f → IfRead l next (t ∷ us) f
  with_start l t next i us vs f k start g =
      (conditional t.place i g.0 g.1 g.2, g.5, (t, us, vs, g.3, g.4, token_here (keyword keywords.If) t us k, refl, start, g.6, g.7, g.8), g.9, g.10)

  pub if_back : (l : ℕ) (next : If → Reader) (t : Lexeme) (us : List Lexeme) (f : File) → t.kind ≡ keyword keywords.If → Means ed B (behind_if l next t) us f →
      IfRead l next (t ∷ us) f
  if_back l next t us f k m = elim m [
    | inl a ↦ with_start l t next None us a.1 f k (inr (a.0, a.2)) (condition_back l t.place next None a.1 f a.4)
    | inr a ↦ elim a.4 [
      | inl s ↦ with_start l t next (Some s.0) us s.5.1 f k (s.5.0, s.1, simple_back ed true a.0 s.0 us a.1 s.1 a.2 s.2, s.5.2)
          (condition_back l t.place next (Some s.0) s.5.1 f s.5.4)
      | inr r ↦ elim r [
        | inl x ↦ (let same : a.0 ≡ x.0 = (let q : a.0 ∷ [] ≡ x.0 ∷ [] = x.1 in cc (q)) in
            with_start l t next None us us f k (inl refl) (behind_block l t.place next None x.0 us a.1 f (subst (λ e. IsExpr ed 5 true e us a.1) same a.2) x.4))
        | inr x ↦ absurd (false_true x.7)
      ]
    ]
  ]

  condition_forth : (l : ℕ) (p : Place) (next : If → Reader) (i : Option Simple) (c : Expression) (b : Block) (r : Else) (us xs ys ws : List Lexeme) (f : File) →
      IsExpr ed 5 true c us xs → IsBlock ed b xs ys → IsElse ed r ys ws → l + if_height (conditional p i c b r) ≤ B + 1 → Means ed B (next (conditional p i c b r)) ws f →
      Means ed B (if_condition l p next i) us f
  condition_forth l p next i c b r us xs ys ws f d e q le m =
      (c, xs, d, omega (arith, le), block_forth ed B (l + 1) (λ b. else_part l p i c b next) b xs ys f e (omega (arith, le)) (r, ws, q, le, m))

  start_forth : (l : ℕ) (t : Lexeme) (next : If → Reader) (i : Option Simple) (c : Expression) (b : Block) (r : Else) (us vs xs ys ws : List Lexeme) (f : File) →
      IsStart ed i us vs →
      IsExpr ed 5 true c vs xs → IsBlock ed b xs ys → IsElse ed r ys ws → l + if_height (conditional t.place i c b r) ≤ B + 1 →
      Means ed B (next (conditional t.place i c b r)) ws f →
      Means ed B (behind_if l next t) us f
  start_forth l t next None c b r us vs xs ys ws f (inl start) d e q le m =
      let here : IsExpr ed 5 true c us xs = subst (λ x. IsExpr ed 5 true c x xs) (sym start) d in
      inr (
        c,
        xs,
        here,
        omega (arith, le),
        inr (inl (
          c,
          refl,
          refl,
          block_first ed b xs ys e,
          block_forth ed B (l + 1) (λ b. else_part l t.place None c b next) b xs ys f e (omega (arith, le)) (r, ws, q, le, m),
        )),
      )
  start_forth l t next None c b r us vs xs ys ws f (inr start) d e q le m =
      inl (start.0, vs, start.1, omega arith, condition_forth l t.place next None c b r vs xs ys ws f d e q le m)
  start_forth l t next (Some s) c b r us vs xs ys ws f start d e q le m =
      let g = simple_forth ed true s us start.1 start.2 in
      inr (
        g.0,
        g.1,
        g.2,
        omega (arith, le, g.4),
        inl (
          s,
          start.1,
          g.3,
          omega (arith, le),
          (λ never. absurd (false_true (sym never))),
          (start.0, vs, start.3, omega arith, condition_forth l t.place next (Some s) c b r vs xs ys ws f d e q le m),
        ),
      )

  pub if_forth : (l : ℕ) (next : If → Reader) (i : If) (us ws : List Lexeme) (f : File) → IsIf ed i us ws → l + if_height i ≤ B + 1 → Means ed B (next i) ws f →
      (t : Lexeme) × (vs : List Lexeme) × Token (keyword keywords.If) t us vs × Means ed B (behind_if l next t) vs f
  if_forth l next (conditional p i c b r) us ws f d le m =
      (d.0, d.1, d.5, start_forth l d.0 next i c b r d.1 d.2 d.3 d.4 ws f d.7 d.8 d.9 d.10 le (subst (λ x. Means ed B (next (conditional x i c b r)) ws f) d.6 m))

  -- it is good
  condition_block : (l : ℕ) (p : Place) (next : If → Reader) (i : Option Simple) (c : Expression) → l + 1 ≤ B → l + 1 + lifted simple_height i ≤ B + 1 →
      l + 1 + height c ≤ B + 1 →
      ((x : If) → l + if_height x ≤ B + 1 → Good ed B (next x)) → ((x : If) → begins (next x) (keyword keywords.Else) ≡ false) →
      Good ed B (read_block (l + 1) (λ b. else_part l p i c b next))
  condition_block l p next i c le fits fit good apart =
      block_good ed B (l + 1) (λ b. else_part l p i c b next) le
      (λ b low. (tt, (le, omega (arith, fits, fit, low), (λ r x. good (conditional p i c b r) x), (λ r. apart (conditional p i c b r)))))

  condition_good : (l : ℕ) (p : Place) (next : If → Reader) (i : Option Simple) → l + 1 ≤ B → l + 1 + lifted simple_height i ≤ B + 1 →
      ((x : If) → l + if_height x ≤ B + 1 → Good ed B (next x)) → ((x : If) → begins (next x) (keyword keywords.Else) ≡ false) → Good ed B (if_condition l p next i)
  condition_good l p next i le fits good apart = (
    le,
    (
      (λ c fit. condition_block l p next i c le fits fit good apart),
      ends_if ed B 5 true (λ c. read_block (l + 1) (λ b. else_part l p i c b next))
          (λ e k b. brace_closes k b),
    ),
  )

  pub if_good : (l : ℕ) (next : If → Reader) (t : Lexeme) → l + 1 ≤ B → ((x : If) → l + if_height x ≤ B + 1 → Good ed B (next x)) →
      ((x : If) → begins (next x) (keyword keywords.Else) ≡ false) → Good ed B (behind_if l next t)
  if_good l next t le good apart = (
    inl (omega arith),
    (
      (λ _ k need. condition_good l t.place next None le (omega (arith, le)) good apart),
      (left_good ed B in_header true (l + 1) (λ s. token semicolon 0 another (λ _. if_condition l t.place next (Some s)))
          (λ c. read_block (l + 1) (λ b. else_part l t.place None c b next)) (λ n a. if_condition l t.place next None) an_operand le
          (λ s fit. (omega arith, (λ _ k need. condition_good l t.place next (Some s) le fit good apart))) (λ s k b. semicolon_ends k b) (λ _. refl)
          (λ _ c fit. condition_block l t.place next None c le (omega (arith, le)) fit good apart) (λ never. absurd (false_true never))).1,
      refl,
    ),
  )

  -- what is behind `else`
  else_back : (l : ℕ) (next : Else → Reader) (t : Lexeme) (us : List Lexeme) (f : File) → t.kind ≡ keyword keywords.Else → Means ed B (behind_else l next) us f →
      (r : Else) × (ws : List Lexeme) × IsElse ed r (t ∷ us) ws × (l + 1 + else_height r ≤ B + 1) × Means ed B (next r) ws f
  else_back l next t us f k m = elim m [
    | inl a ↦ (let g = if_back (l + 1) (λ i. next (else_if i)) a.0 a.1 f a.2.is a.4 in
        (else_if g.0, g.1, (t, us, token_here (keyword keywords.Else) t us k, subst (λ x. IsIf ed g.0 x g.1) (sym a.2.whole) g.2), g.3, g.4))
    | inr a ↦ (let g = block_back ed B (l + 1) (λ b. next (else_block b)) us f a in
        (else_block g.0, g.1, (t, us, token_here (keyword keywords.Else) t us k, g.2), g.3, g.4))
  ]

  else_good : (l : ℕ) (next : Else → Reader) → l + 1 ≤ B → ((r : Else) → l + 1 + else_height r ≤ B + 1 → Good ed B (next r)) →
      ((r : Else) → begins (next r) (keyword keywords.Else) ≡ false) → Good ed B (behind_else l next)
  else_good l next le good apart = (
    inr le,
    (
      (λ t k need. if_good (l + 1) (λ i. next (else_if i)) t (omega (arith, need)) (λ i fit. good (else_if i) fit) (λ i. apart (else_if i))),
      (block_good ed B (l + 1) (λ b. next (else_block b)) le (λ b fit. good (else_block b) fit)).1,
      refl,
    ),
  )

  -- what is behind an `if`'s first block
  module _ (l : ℕ) (p : Place) (i : Option Simple) (c : Expression) (b : Block) (next : If → Reader) where
    abbrev whole : Else → If
    whole r = conditional p i c b r

    pub else_part_back : (t : Lexeme) (us : List Lexeme) (f : File) → Okay ed B (else_part l p i c b next) →
        (Okay ed B (next (whole no_else)) → After ed B (parser_step ed (next (whole no_else)) t) us f → Means ed B (next (whole no_else)) (t ∷ us) f) →
        After ed B (parser_step ed (else_part l p i c b next) t) us f → Means ed B (else_part l p i c b next) (t ∷ us) f
    else_part_back t us f ok by_next a = elim (after_cond ed B (same (keyword keywords.Else) t.kind) _ _ us f a) [
      | inl d ↦ (let g = else_back l (λ r. next (whole r)) t us f (are_same (keyword keywords.Else) t.kind d.0) d.1.1 in
          let low = ok.1 in (g.0, g.1, g.2, omega (arith, low, g.3), g.4))
      | inr d ↦ (no_else, t ∷ us, refl, ok.1, by_next (ok.2 no_else ok.1).1 d.1)
    ]

    none_forth : (t : Lexeme) (us : List Lexeme) (f : File) → Okay ed B (else_part l p i c b next) →
        (Okay ed B (next (whole no_else)) → Means ed B (next (whole no_else)) (t ∷ us) f → After ed B (parser_step ed (next (whole no_else)) t) us f) →
        (Means ed B (next (whole no_else)) (t ∷ us) f → begins (next (whole no_else)) t.kind ≡ true) →
        Means ed B (next (whole no_else)) (t ∷ us) f → After ed B (parser_step ed (else_part l p i c b next) t) us f
    none_forth t us f ok by_next first m =
        after_other ed B (keyword keywords.Else) t _ _ us f
        (not_same (keyword keywords.Else) t.kind (λ k. false_true (sym (ok.3 no_else) ∙ ap (begins (next (whole no_else))) (sym k) ∙ first m)))
        (by_next (ok.2 no_else ok.1).1 m)

    some_forth : (t : Lexeme) (us : List Lexeme) (f : File) (r : Else) (ws : List Lexeme) → IsElse ed r (t ∷ us) ws → l + if_height (whole r) ≤ B + 1 →
        Means ed B (next (whole r)) ws f → Okay ed B (else_part l p i c b next) →
        (Means ed B (next (whole no_else)) (t ∷ us) f → After ed B (parser_step ed (else_part l p i c b next) t) us f) → After ed B (parser_step ed (else_part l p i c b next) t) us f
    some_forth t us f no_else ws d le m ok otherwise = otherwise (subst (λ x. Means ed B (next (whole no_else)) x f) (sym d) m)
    some_forth t us f (else_block x) ws d le m ok otherwise =
        let k = first_is (keyword keywords.Else) t d.0 us d.1 d.2 in
        after_same ed B (keyword keywords.Else) t _ _ us f k.2 (
          omega arith,
          inr (block_forth ed B (l + 1) (λ y. next (whole (else_block y))) x us ws f (subst (λ y. IsBlock ed x y ws) (sym k.1) d.3)
              (omega (arith, le)) m),
        )
    some_forth t us f (else_if x) ws d le m ok otherwise =
        let k = first_is (keyword keywords.Else) t d.0 us d.1 d.2 in
        let g = if_forth (l + 1) (λ y. next (whole (else_if y))) x us ws f (subst (λ y. IsIf ed x y ws) (sym k.1) d.3) (omega (arith, le)) m in
        after_same ed B (keyword keywords.Else) t _ _ us f k.2 (omega arith, inl (g.0, g.1, g.2, omega (arith, le, if_height_positive x), g.3))

    pub else_part_forth : (t : Lexeme) (us : List Lexeme) (f : File) → Okay ed B (else_part l p i c b next) →
        (Okay ed B (next (whole no_else)) → Means ed B (next (whole no_else)) (t ∷ us) f → After ed B (parser_step ed (next (whole no_else)) t) us f) →
        (Means ed B (next (whole no_else)) (t ∷ us) f → begins (next (whole no_else)) t.kind ≡ true) →
        Means ed B (else_part l p i c b next) (t ∷ us) f → After ed B (parser_step ed (else_part l p i c b next) t) us f
    else_part_forth t us f ok by_next first m = some_forth t us f m.0 m.1 m.2 m.3 m.4 ok (none_forth t us f ok by_next first)

    pub else_part_kept : (t : Lexeme) → Okay ed B (else_part l p i c b next) → (Okay ed B (next (whole no_else)) → Kept ed B (parser_step ed (next (whole no_else)) t)) →
        Kept ed B (parser_step ed (else_part l p i c b next) t)
    else_part_kept t ok by_next =
        kept_cond ed B (same (keyword keywords.Else) t.kind) _ _
        (λ _ need. else_good l (λ r. next (whole r)) ok.0 (λ r fit. ok.2 r (let low = ok.1 in omega (arith, low, fit))) ok.3)
        (λ _. by_next (ok.2 no_else ok.1).1)

    else_first : (t : Lexeme) (us : List Lexeme) (f : File) (r : Else) (ws : List Lexeme) → IsElse ed r (t ∷ us) ws → Means ed B (next (whole r)) ws f →
        (Means ed B (next (whole no_else)) (t ∷ us) f → begins (next (whole no_else)) t.kind ≡ true) → begins (else_part l p i c b next) t.kind ≡ true
    else_first t us f no_else ws d m first =
        right_true (same (keyword keywords.Else) t.kind) _ (first (subst (λ x. Means ed B (next (whole no_else)) x f) (sym d) m))
    else_first t us f (else_block x) ws d m first = left_true (same (keyword keywords.Else) t.kind) _ (same_here (keyword keywords.Else) t d.0 us d.1 d.2)
    else_first t us f (else_if x) ws d m first = left_true (same (keyword keywords.Else) t.kind) _ (same_here (keyword keywords.Else) t d.0 us d.1 d.2)

    pub else_part_first : (t : Lexeme) (us : List Lexeme) (f : File) →
        (Means ed B (next (whole no_else)) (t ∷ us) f → begins (next (whole no_else)) t.kind ≡ true) →
        Means ed B (else_part l p i c b next) (t ∷ us) f → begins (else_part l p i c b next) t.kind ≡ true
    else_part_first t us f first m = else_first t us f m.0 m.1 m.2 m.4 first

    pub else_part_comes : Okay ed B (else_part l p i c b next) →
        (Good ed B (next (whole no_else)) → (us : List Lexeme) × (f : File) × Means ed B (next (whole no_else)) us f) →
        (us : List Lexeme) × (f : File) × Means ed B (else_part l p i c b next) us f
    else_part_comes ok go = let g = go (ok.2 no_else ok.1) in (g.0, g.1, (no_else, g.0, refl, ok.1, g.2))

    -- where the tokens end
    pub else_part_ends : (f : File) → Okay ed B (else_part l p i c b next) → (Okay ed B (next (whole no_else)) → Means ed B (next (whole no_else)) [] f) →
        Means ed B (else_part l p i c b next) [] f
    else_part_ends f ok by_next = (no_else, [], refl, ok.1, by_next (ok.2 no_else ok.1).1)

    else_over : (f : File) (r : Else) (ws : List Lexeme) → IsElse ed r [] ws → Means ed B (next (whole r)) ws f → Means ed B (next (whole no_else)) [] f
    else_over f no_else ws d m = subst (λ x. Means ed B (next (whole no_else)) x f) (sym d) m
    else_over f (else_block x) ws d m = absurd (no_token (keyword keywords.Else) d.0 d.1 d.2)
    else_over f (else_if x) ws d m = absurd (no_token (keyword keywords.Else) d.0 d.1 d.2)

    pub else_part_over : (f : File) → Means ed B (else_part l p i c b next) [] f → Means ed B (next (whole no_else)) [] f
    else_part_over f m = else_over f m.0 m.1 m.2 m.4
