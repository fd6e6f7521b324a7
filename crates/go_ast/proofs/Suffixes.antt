-- What grows by suffixes: one suffix at a time, and its state.
use Rattle.std.proofs.Common.{◌≡◌, ℕ, ◌+◌, ◌<◌, ◌≤◌, max, ◌⊎◌, inl, inr, Bool, true, false, ◌||◌, ◌&&◌, List, [], ◌∷◌, Option, Some, None, refl, sym, ap, ◌∙◌, subst, arith}
use Rattle.std.specs.Prelude.{not}
use Rattle.go_text.specs.declared.edition.Edition.{Edition}
use Rattle.go_text.specs.Editions.{has_slices}
use Rattle.go_scan.specs.declared.token.TokenKind.{TokenKind}
use Rattle.go_scan.specs.declared.token.TokenKind.TheVariants as kinds
use Rattle.go_ast.specs.Kinds.{same}
use Rattle.go_ast.specs.Operators.{binary_of, tighter}
use Rattle.go_ast.specs.Expected.{a_selected_name, an_index, an_index_end}
use Rattle.go_ast.specs.Trees.{BinaryOperator, TypeExpr, named, qualified, Expression, name, composite_lit, selector, index, cut, call, Bound, no_bound, bound, ExpressionList, Elements, File, place_of, pack, pack_elements}
use Rattle.go_ast.specs.Heights.{height, bound_height, type_height, exprs_height, elements_height}
use Rattle.go_ast.specs.Grammar.{Lexeme, Token, name_of, opening, closing, opening_bracket, closing_bracket, opening_brace, closing_brace, colon, period, IsExpr, IsBound, AreOperands, AreElements, type_place}
use Rattle.go_ast.specs.Machine.{Reader, token, newer, optional, suffixes, expr, operands, list_start, elements, behind_index, behind_colon, Move, Take, cond, literal_type, is_some, on_brace, on_suffix, tails, behind_operand, parser_step}
use Rattle.go_ast.proofs.Same.{are_same}
use Rattle.go_ast.proofs.Means.{Itself, IsTypeName, Suffixed, is_tail, is_suffix, begins, Closes, Means, Okay, Good, Ends, After, Kept}
use Rattle.go_ast.proofs.Base.{false_true, either_true, left_true, right_true, after_cond, after_same, after_other, kept_cond, token_here, first_is, either_false}
use Rattle.go_ast.proofs.Packed.{unpack_elements, packed_elements, elements_from, elements_to, elements_fit, fit_elements}
use Rattle.go_ast.proofs.Values.{list_of, pack_list, exprs_fit, fit_exprs, ends_if}
use Rattle.go_ast.proofs.Chains.{Grown, moved, suffixed_height, chain_height, no_type}
use Rattle.go_ast.proofs.Operators.{tails_back, tails_forth, tails_good, tails_ends, tails_begins}
use Rattle.go_ast.proofs.Levels.{height_positive}

-- one suffix: a selected name, an index, arguments, or the elements of a literal whose type the expression names
pub data Step (ed : Edition) (h : Bool) (a b : Expression) (us ws : List Lexeme) : Type 0 where
  selects : (d t : Lexeme) (xs : List Lexeme) → Token period d us xs → Token kinds.Name t xs ws → b ≡ selector (place_of a) a (name_of t) →
      Step ed h a b us ws
  indexes : (o c : Lexeme) (i : Expression) (xs ys : List Lexeme) → Token opening_bracket o us xs → IsExpr ed 5 false i xs ys → Token closing_bracket c ys ws →
      b ≡ index (place_of a) a i → Step ed h a b us ws
  cuts : (o m c : Lexeme) (i j : Bound) (xs ys zs zs' : List Lexeme) → has_slices ed ≡ true → Token opening_bracket o us xs → IsBound ed i xs ys →
      Token colon m ys zs → IsBound ed j zs zs' → Token closing_bracket c zs' ws → b ≡ cut (place_of a) a i j → Step ed h a b us ws
  calls : (o c : Lexeme) (es : ExpressionList) (xs ys : List Lexeme) → Token opening o us xs → AreOperands ed es xs ys → Token closing c ys ws →
      b ≡ call (place_of a) a es → Step ed h a b us ws
  completes : (o c : Lexeme) (s : TypeExpr) (es : Elements) (xs ys : List Lexeme) → h ≡ false → literal_type a ≡ Some s →
      Token opening_brace o us xs → AreElements ed es xs ys →
      Token closing_brace c ys ws → b ≡ composite_lit (type_place s) s o.place es → Step ed h a b us ws

pub suffixed_itself : (ed : Edition) → (h : Bool) (a e : Expression) (us ws : List Lexeme) → Itself a e us ws → Suffixed ed h a e us ws
suffixed_itself ed h a (selector p e f) us ws i = inl i
suffixed_itself ed h a (index p e x) us ws i = inl i
suffixed_itself ed h a (cut p e x y) us ws i = inl i
suffixed_itself ed h a (call p e es) us ws i = inl i
suffixed_itself ed h a (composite_lit p b q es) us ws i = inl i
suffixed_itself ed h a _ us ws i = i

-- the first suffix, and the others
pub first_step : (ed : Edition) → (h : Bool) (a e : Expression) (us ws : List Lexeme) → Suffixed ed h a e us ws →
    Itself a e us ws ⊎ ((b : Expression) × (vs : List Lexeme) × Step ed h a b us vs × Suffixed ed h b e vs ws)
first_step ed h a (selector p e f) us ws s = elim s [
  | inl i ↦ inl i
  | inr r ↦ elim (first_step ed h a e us r.2 r.5) [
    | inl i ↦ (let place : p ≡ place_of a = r.4 ∙ ap place_of i.0 in
        let name : f ≡ name_of r.1 = r.8 in
        inr (selector p e f, ws, selects r.0 r.1 r.3 (subst (λ x. Token period r.0 x r.3) (sym i.1) r.6) r.7 (cc (place, i.0, name)), inl (refl, refl)))
    | inr q ↦ inr (q.0, q.1, q.2, inr (r.0, r.1, r.2, r.3, r.4, q.3, r.6, r.7, r.8))
  ]
]
first_step ed h a (index p e x) us ws s = elim s [
  | inl i ↦ inl i
  | inr r ↦ elim (first_step ed h a e us r.2 r.6) [
    | inl i ↦ (let place : p ≡ place_of a = r.5 ∙ ap place_of i.0 in
        inr (
          index p e x,
          ws,
          indexes r.0 r.1 x r.3 r.4 (subst (λ y. Token opening_bracket r.0 y r.3) (sym i.1) r.7) r.8 r.9 (cc (place, i.0)),
          inl (refl, refl),
        ))
    | inr q ↦ inr (q.0, q.1, q.2, inr (r.0, r.1, r.2, r.3, r.4, r.5, q.3, r.7, r.8, r.9))
  ]
]
first_step ed h a (cut p e x y) us ws s = elim s [
  | inl i ↦ inl i
  | inr r ↦ elim (first_step ed h a e us r.3 r.10) [
    | inl i ↦ (let place : p ≡ place_of a = r.9 ∙ ap place_of i.0 in
        inr (
          cut p e x y,
          ws,
          cuts r.0 r.1 r.2 x y r.4 r.5 r.6 r.7 r.8 (subst (λ z. Token opening_bracket r.0 z r.4) (sym i.1) r.11) r.12 r.13 r.14 r.15 (cc (place, i.0)),
          inl (refl, refl),
        ))
    | inr q ↦ inr (q.0, q.1, q.2, inr (r.0, r.1, r.2, r.3, r.4, r.5, r.6, r.7, r.8, r.9, q.3, r.11, r.12, r.13, r.14, r.15))
  ]
]
first_step ed h a (call p e es) us ws s = elim s [
  | inl i ↦ inl i
  | inr r ↦ elim (first_step ed h a e us r.2 r.6) [
    | inl i ↦ (let place : p ≡ place_of a = r.5 ∙ ap place_of i.0 in
        inr (call p e es, ws, calls r.0 r.1 es r.3 r.4 (subst (λ y. Token opening r.0 y r.3) (sym i.1) r.7) r.8 r.9 (cc (place, i.0)), inl (refl, refl)))
    | inr q ↦ inr (q.0, q.1, q.2, inr (r.0, r.1, r.2, r.3, r.4, r.5, q.3, r.7, r.8, r.9))
  ]
]
first_step ed h a (composite_lit p b q es) us ws s = elim s [
  | inl i ↦ inl i
  | inr r ↦ elim r.7 [
    | inl i ↦ (let place : p ≡ type_place b = r.9 in
        let brace : q ≡ r.0.place = r.11 in
        inr (
          composite_lit p b q es,
          ws,
          completes r.0 r.1 b es r.3 r.4 r.6 (sym (ap literal_type i.0) ∙ r.8) (subst (λ y. Token opening_brace r.0 y r.3) (sym i.1) r.10) r.12 r.13
              (cc (place, brace)),
          inl (refl, refl),
        ))
    | inr n ↦ inr (
      r.5,
      r.2,
      selects n.0 n.1 n.2 n.3 n.4 n.5,
      inr (r.0, r.1, r.2, r.3, r.4, r.5, r.6, inl (refl, refl), r.8, r.9, r.10, r.11, r.12, r.13),
    )
  ]
]
first_step ed h a e us ws s = inl s

step_suffixed : (ed : Edition) → (h : Bool) (a b : Expression) (us ws : List Lexeme) → Step ed h a b us ws → Suffixed ed h a b us ws
step_suffixed ed h a b us ws (selects d t xs p n e) =
    subst (λ x. Suffixed ed h a x us ws) (sym e) (inr (d, t, us, xs, refl, suffixed_itself ed h a a us us (refl, refl), p, n, refl))
step_suffixed ed h a b us ws (indexes o c i xs ys p d q e) =
    subst (λ x. Suffixed ed h a x us ws) (sym e) (inr (o, c, us, xs, ys, refl, suffixed_itself ed h a a us us (refl, refl), p, d, q))
step_suffixed ed h a b us ws (cuts o m c i j xs ys zs zs' has p di q dj r e) =
    subst (λ x. Suffixed ed h a x us ws) (sym e)
    (inr (o, m, c, us, xs, ys, zs, zs', has, refl, suffixed_itself ed h a a us us (refl, refl), p, di, q, dj, r))
step_suffixed ed h a b us ws (calls o c es xs ys p d q e) =
    subst (λ x. Suffixed ed h a x us ws) (sym e) (inr (o, c, us, xs, ys, refl, suffixed_itself ed h a a us us (refl, refl), p, d, q))
step_suffixed ed h a b us ws (completes o c s es xs ys f l p d q e) =
    subst (λ x. Suffixed ed h a x us ws) (sym e) (inr (o, c, us, xs, ys, a, f, inl (refl, refl), l, refl, p, refl, d, q))

-- a type's name behind one suffix is a name and what it selects
type_name_behind : (ed : Edition) → (h : Bool) (a b x : Expression) (s : TypeExpr) (us vs ws : List Lexeme) → Step ed h a b us vs → IsTypeName b x vs ws →
    literal_type x ≡ Some s → IsTypeName a x us ws
type_name_behind ed h a b x s us vs ws (selects d t xs p n e) is l = elim is [
  | inl i ↦ inr (d, t, xs, p, subst (λ y. Token kinds.Name t xs y) i.1 n, i.0 ∙ e)
  | inr m ↦ no_type (IsTypeName a x us ws) (selector (place_of b) b (name_of m.1)) x s m.5 (ap (λ y. literal_type (selector (place_of b) y (name_of m.1))) e) l
]
type_name_behind ed h a b x s us vs ws (indexes o c i xs ys p d q e) is l = elim is [
  | inl j ↦ no_type (IsTypeName a x us ws) b x s j.0 (ap literal_type e) l
  | inr m ↦ no_type (IsTypeName a x us ws) (selector (place_of b) b (name_of m.1)) x s m.5 (ap (λ y. literal_type (selector (place_of b) y (name_of m.1))) e) l
]
type_name_behind ed h a b x s us vs ws (cuts o m c i k xs ys zs zs' has p di q dk r e) is l = elim is [
  | inl j ↦ no_type (IsTypeName a x us ws) b x s j.0 (ap literal_type e) l
  | inr n ↦ no_type (IsTypeName a x us ws) (selector (place_of b) b (name_of n.1)) x s n.5 (ap (λ y. literal_type (selector (place_of b) y (name_of n.1))) e) l
]
type_name_behind ed h a b x s us vs ws (calls o c es xs ys p d q e) is l = elim is [
  | inl j ↦ no_type (IsTypeName a x us ws) b x s j.0 (ap literal_type e) l
  | inr m ↦ no_type (IsTypeName a x us ws) (selector (place_of b) b (name_of m.1)) x s m.5 (ap (λ y. literal_type (selector (place_of b) y (name_of m.1))) e) l
]
type_name_behind ed h a b x s us vs ws (completes o c r es xs ys f k p d q e) is l = elim is [
  | inl j ↦ no_type (IsTypeName a x us ws) b x s j.0 (ap literal_type e) l
  | inr m ↦ no_type (IsTypeName a x us ws) (selector (place_of b) b (name_of m.1)) x s m.5 (ap (λ y. literal_type (selector (place_of b) y (name_of m.1))) e) l
]

pub then_suffixes : (ed : Edition) → (h : Bool) (a b e : Expression) (us vs ws : List Lexeme) → Step ed h a b us vs → Suffixed ed h b e vs ws → Suffixed ed h a e us ws
then_suffixes ed h a b (selector p e f) us vs ws k s = elim s [
  | inl i ↦ moved (λ x xs. Suffixed ed h a x us xs) b (selector p e f) vs ws i (step_suffixed ed h a b us vs k)
  | inr r ↦ inr (r.0, r.1, r.2, r.3, r.4, then_suffixes ed h a b e us vs r.2 k r.5, r.6, r.7, r.8)
]
then_suffixes ed h a b (index p e x) us vs ws k s = elim s [
  | inl i ↦ moved (λ x xs. Suffixed ed h a x us xs) b (index p e x) vs ws i (step_suffixed ed h a b us vs k)
  | inr r ↦ inr (r.0, r.1, r.2, r.3, r.4, r.5, then_suffixes ed h a b e us vs r.2 k r.6, r.7, r.8, r.9)
]
then_suffixes ed h a b (cut p e x y) us vs ws k s = elim s [
  | inl i ↦ moved (λ x xs. Suffixed ed h a x us xs) b (cut p e x y) vs ws i (step_suffixed ed h a b us vs k)
  | inr r ↦ inr (r.0, r.1, r.2, r.3, r.4, r.5, r.6, r.7, r.8, r.9, then_suffixes ed h a b e us vs r.3 k r.10, r.11, r.12, r.13, r.14, r.15)
]
then_suffixes ed h a b (call p e es) us vs ws k s = elim s [
  | inl i ↦ moved (λ x xs. Suffixed ed h a x us xs) b (call p e es) vs ws i (step_suffixed ed h a b us vs k)
  | inr r ↦ inr (r.0, r.1, r.2, r.3, r.4, r.5, then_suffixes ed h a b e us vs r.2 k r.6, r.7, r.8, r.9)
]
then_suffixes ed h a b (composite_lit p c q es) us vs ws k s = elim s [
  | inl i ↦ moved (λ x xs. Suffixed ed h a x us xs) b (composite_lit p c q es) vs ws i (step_suffixed ed h a b us vs k)
  | inr r ↦ inr (r.0, r.1, r.2, r.3, r.4, r.5, r.6, type_name_behind ed h a b r.5 c us vs r.2 k r.7 r.8, r.8, r.9, r.10, r.11, r.12, r.13)
]
then_suffixes ed h a b e us vs ws k s = moved (λ x xs. Suffixed ed h a x us xs) b e vs ws s (step_suffixed ed h a b us vs k)

-- the type of a literal that an expression begins is a name's
literal_type_height : (a : Expression) (s : TypeExpr) → literal_type a ≡ Some s → type_height s ≡ 1
literal_type_height (name p text) s e = let same_type : named p (record { text = text; place = p }) ≡ s = cc (e) in sym (ap type_height same_type)
literal_type_height (selector p (name q text) f) s e =
    let same_type : qualified p (record { text = text; place = q }) f ≡ s = cc (e) in sym (ap type_height same_type)
literal_type_height _ s e = let never : None ≡ Some s = e in absurd (cc (never))

module _ (ed : Edition) (B : ℕ) where
  more_suffixes : (h : Bool) (l : ℕ) (a b : Expression) (next : Expression → Reader) (us vs : List Lexeme) (f : File) → Step ed h a b us vs →
      Means ed B (suffixes h l b next) vs f → Means ed B (suffixes h l a next) us f
  more_suffixes h l a b next us vs f k m = (m.0, m.1, then_suffixes ed h a b m.0 us vs m.1 k m.2, m.3, m.4)

  brace_back : (h : Bool) (l : ℕ) (a : Expression) (next : Expression → Reader) (t : Lexeme) (us : List Lexeme) (f : File) (other : Move) (s : Option TypeExpr) →
      literal_type a ≡ s →
      (After ed B other us f → Means ed B (suffixes h l a next) (t ∷ us) f) → After ed B (on_brace h l (λ x. suffixes h l x next) t other s) us f →
      Means ed B (suffixes h l a next) (t ∷ us) f
  brace_back true l a next t us f other s e back after = back after
  brace_back false l a next t us f other None e back after = back after
  brace_back false l a next t us f other (Some s) e back after = elim (after_cond ed B (same opening_brace t.kind) _ _ us f after) [
    | inl g ↦ (let m = g.1.1 in
        more_suffixes false l a (composite_lit (type_place s) s t.place (pack_elements m.0)) next (t ∷ us) m.3 f
        (completes t m.1 s (pack_elements m.0) us m.2 refl e (token_here opening_brace t us (are_same opening_brace t.kind g.0))
        (elements_from ed (l + 2) m.0 us m.2 m.4) m.6 refl) m.7)
    | inr g ↦ back g.1
  ]

  -- behind the colon of a part, and behind the bracket of an index or a part
  colon_back : (h : Bool) (l : ℕ) (a : Expression) (next : Expression → Reader) (us xs vs ws : List Lexeme) (f : File) (low : Bound) (o m : Lexeme) → has_slices ed ≡ true →
      Token opening_bracket o us xs → IsBound ed low xs vs → Token colon m vs ws → Means ed B (behind_colon l a low (λ x. suffixes h l x next)) ws f →
      Means ed B (suffixes h l a next) us f
  colon_back h l a next us xs vs ws f low o m has p i q (inl c) =
      more_suffixes h l a (cut (place_of a) a low no_bound) next us c.1 f (cuts o m c.0 low no_bound xs vs ws ws has p i q refl c.2 refl) c.4
  colon_back h l a next us xs vs ws f low o m has p i q (inr j) =
      let c = j.4 in
      more_suffixes h l a (cut (place_of a) a low (bound j.0)) next us c.1 f (cuts o m c.0 low (bound j.0) xs vs ws j.1 has p i q j.2 c.2 refl) c.4

  index_back : (h : Bool) (l : ℕ) (a : Expression) (next : Expression → Reader) (t : Lexeme) (us : List Lexeme) (f : File) → t.kind ≡ opening_bracket →
      Means ed B (behind_index l a (λ x. suffixes h l x next)) us f → Means ed B (suffixes h l a next) (t ∷ us) f
  index_back h l a next t us f e (inl k) =
      colon_back h l a next (t ∷ us) us us k.1 f no_bound t k.0 k.5 (token_here opening_bracket t us e) refl k.2 k.4
  index_back h l a next t us f e (inr i) = elim i.4 [
    | inl k ↦ colon_back h l a next (t ∷ us) us i.1 k.1 f (bound i.0) t k.0 k.5 (token_here opening_bracket t us e) i.2 k.2 k.4
    | inr c ↦ more_suffixes h l a (index (place_of a) a i.0) next (t ∷ us) c.1 f
        (indexes t c.0 i.0 us i.1 (token_here opening_bracket t us e) i.2 c.2 refl) c.4
  ]

  pub suffixes_back : (h : Bool) (l : ℕ) (a : Expression) (next : Expression → Reader) (t : Lexeme) (us : List Lexeme) (f : File) → l + height a ≤ B + 1 →
      (After ed B (parser_step ed (next a) t) us f → Means ed B (next a) (t ∷ us) f) → After ed B (parser_step ed (suffixes h l a next) t) us f →
      Means ed B (suffixes h l a next) (t ∷ us) f
  suffixes_back h l a next t us f fits back after = elim (after_cond ed B (same period t.kind) _ _ us f after) [
    | inl g ↦ (let m = g.1.1 in
        more_suffixes h l a (selector (place_of a) a (name_of m.0)) next (t ∷ us) m.1 f
        (selects t m.0 us (token_here period t us (are_same period t.kind g.0)) m.2 refl) m.4)
    | inr g1 ↦ elim (after_cond ed B (same opening_bracket t.kind) _ _ us f g1.1) [
      | inl g ↦ index_back h l a next t us f (are_same opening_bracket t.kind g.0) g.1.1
      | inr g2 ↦ elim (after_cond ed B (same opening t.kind) _ _ us f g2.1) [
        | inl g ↦ (let m = g.1.1 in
            more_suffixes h l a (call (place_of a) a (pack m.0)) next (t ∷ us) m.3 f
            (calls t m.1 (pack m.0) us m.2 (token_here opening t us (are_same opening t.kind g.0)) m.4 m.6 refl) m.7)
        | inr g3 ↦ brace_back h l a next t us f (parser_step ed (next a) t) (literal_type a) refl
            (λ x. (a, t ∷ us, suffixed_itself ed h a a (t ∷ us) (t ∷ us) (refl, refl), fits, back x)) g3.1
      ]
    ]
  ]

  -- the move by the kind of the first token
  abbrev suffix_at : Bool → ℕ → Expression → (Expression → Reader) → Lexeme → Move → TokenKind → Move
  suffix_at h l e behind t other k =
      cond (same period k) (Take (l + height e) (token kinds.Name 0 a_selected_name (λ s. behind (selector (place_of e) e (name_of s)))))
      (cond (same opening_bracket k)
      (Take (l + height e) (behind_index l e behind))
      (cond (same opening k) (Take (l + height e) (operands (l + 1) (λ es _. behind (call (place_of e) e (pack es)))))
      (on_brace h l behind t other (literal_type e))))

  at_kind : (h : Bool) (l : ℕ) (e : Expression) (behind : Expression → Reader) (t : Lexeme) (other : Move) (us : List Lexeme) (f : File) (k : TokenKind) →
      t.kind ≡ k →
      After ed B (suffix_at h l e behind t other k) us f → After ed B (on_suffix h l e behind t other) us f
  at_kind h l e behind t other us f k q after = subst (λ x. After ed B (suffix_at h l e behind t other x) us f) (sym q) after

  -- what begins no suffix is passed on
  pass_brace : (h : Bool) (l : ℕ) (behind : Expression → Reader) (t : Lexeme) (other : Move) (us : List Lexeme) (f : File) (s : Option TypeExpr) →
      (not h && same opening_brace t.kind) ≡ false →
      After ed B other us f → After ed B (on_brace h l behind t other s) us f
  pass_brace true l behind t other us f s e after = after
  pass_brace false l behind t other us f None e after = after
  pass_brace false l behind t other us f (Some s) e after =
      subst (λ c. After ed B (cond c (Take (l + 1) (list_start (elements (l + 2)) []
      (λ es _. behind (composite_lit (type_place s) s t.place (pack_elements es))))) other) us f) (sym e) after

  pass : (h : Bool) (l : ℕ) (e : Expression) (behind : Expression → Reader) (t : Lexeme) (other : Move) (us : List Lexeme) (f : File) → is_tail h t.kind ≡ false →
      After ed B other us f → After ed B (on_suffix h l e behind t other) us f
  pass h l e behind t other us f no_tail after =
      let c3 = either_false (same period t.kind || same opening_bracket t.kind || same opening t.kind) (not h && same opening_brace t.kind) no_tail in
      let c2 = either_false (same period t.kind || same opening_bracket t.kind) (same opening t.kind) c3.0 in
      let c1 = either_false (same period t.kind) (same opening_bracket t.kind) c2.0 in
      after_other ed B period t _ _ us f c1.0 (after_other ed B opening_bracket t _ _ us f c1.1 (after_other ed B opening t _ _ us f c2.1
      (pass_brace h l behind t other us f (literal_type e) c3.1 after)))

  no_tail : (h : Bool) (a : Expression) (next : Expression → Reader) (k : TokenKind) → Ends ed B 0 h next → begins (next a) k ≡ true → is_tail h k ≡ false
  no_tail h a next k ends here = by_test (is_tail h k) refl
    where
      by_test : (c : Bool) → is_tail h k ≡ c → c ≡ false
      by_test false e = refl
      by_test true e = absurd (false_true (sym (ends.no_suffix a k e) ∙ here))

  -- the bounds of a part
  high_forth : (h : Bool) (l : ℕ) (a : Expression) (next : Expression → Reader) (us vs ws : List Lexeme) (f : File) (low j : Bound) (c : Lexeme) → IsBound ed j us vs →
      Token closing_bracket c vs ws → l + 1 + bound_height j ≤ B + 1 → Means ed B (suffixes h l (cut (place_of a) a low j) next) ws f →
      Means ed B (behind_colon l a low (λ x. suffixes h l x next)) us f
  high_forth h l a next us vs ws f low no_bound c d r le m = inl (c, ws, subst (λ x. Token closing_bracket c x ws) (sym d) r, omega arith, m)
  high_forth h l a next us vs ws f low (bound j) c d r le m = inr (j, vs, d, le, (c, ws, r, omega arith, m))

  low_forth : (h : Bool) (l : ℕ) (a : Expression) (next : Expression → Reader) (us vs ws : List Lexeme) (f : File) (i : Bound) (m : Lexeme) → has_slices ed ≡ true →
      IsBound ed i us vs → Token colon m vs ws → l + 1 + bound_height i ≤ B + 1 → Means ed B (behind_colon l a i (λ x. suffixes h l x next)) ws f →
      Means ed B (behind_index l a (λ x. suffixes h l x next)) us f
  low_forth h l a next us vs ws f no_bound m has d q le high = inl (m, ws, subst (λ x. Token colon m x ws) (sym d) q, omega arith, high, has)
  low_forth h l a next us vs ws f (bound i) m has d q le high = inr (i, vs, d, le, inl (m, ws, q, omega arith, high, has))

  -- a suffix is taken
  step_forth : (h : Bool) (l : ℕ) (a b : Expression) (next : Expression → Reader) (t : Lexeme) (us vs : List Lexeme) (f : File) (other : Move) →
      Step ed h a b (t ∷ us) vs → l + height b ≤ B + 1 →
      Means ed B (suffixes h l b next) vs f → After ed B (on_suffix h l a (λ x. suffixes h l x next) t other) us f
  step_forth h l a b next t us vs f other (selects d s xs p n e) fits m =
      let first = first_is period t d us xs p in
      let tall : height b ≡ height a + 1 = ap height e in
      at_kind h l a (λ x. suffixes h l x next) t other us f period first.2 (
        omega (arith, fits, tall),
        (s, vs, subst (λ x. Token kinds.Name s x vs) (sym first.1) n, omega arith, subst (λ x. Means ed B (suffixes h l x next) vs f) e m),
      )
  step_forth h l a b next t us vs f other (indexes o c i xs ys p d q e) fits m =
      let first = first_is opening_bracket t o us xs p in
      let tall : height b ≡ max (height a) (height i) + 1 = ap height e in
      at_kind h l a (λ x. suffixes h l x next) t other us f opening_bracket first.2 (
        omega (arith, fits, tall),
        inr (
          i,
          ys,
          subst (λ x. IsExpr ed 5 false i x ys) (sym first.1) d,
          omega (arith, fits, tall),
          inr (c, vs, q, omega arith, subst (λ x. Means ed B (suffixes h l x next) vs f) e m),
        ),
      )
  step_forth h l a b next t us vs f other (cuts o n c i j xs ys zs zs' has p di q dj r e) fits m =
      let first = first_is opening_bracket t o us xs p in
      let tall : height b ≡ max (height a) (max (bound_height i) (bound_height j)) + 1 = ap height e in
      at_kind h l a (λ x. suffixes h l x next) t other us f opening_bracket first.2 (
        omega (arith, fits, tall),
        low_forth h l a next us ys zs f i n has (subst (λ x. IsBound ed i x ys) (sym first.1) di) q (omega (arith, fits, tall))
            (high_forth h l a next zs zs' vs f i j c dj r (omega (arith, fits, tall)) (subst (λ x. Means ed B (suffixes h l x next) vs f) e m)),
      )
  step_forth h l a b next t us vs f other (calls o c es xs ys p d q e) fits m =
      let first = first_is opening t o us xs p in
      let tall : height b ≡ max (height a) (exprs_height es) + 1 = ap height e in
      let packed : b ≡ call (place_of a) a (pack (list_of es)) = e ∙ ap (call (place_of a) a) (sym (pack_list es)) in
      at_kind h l a (λ x. suffixes h l x next) t other us f opening first.2 (
        omega (arith, fits, tall),
        (
          list_of es,
          c,
          ys,
          vs,
          subst (λ x. AreOperands ed x us ys) (sym (pack_list es)) (subst (λ x. AreOperands ed es x ys) (sym first.1) d),
          fit_exprs ed B (l + 1) es (omega (arith, fits, tall)),
          q,
          subst (λ x. Means ed B (suffixes h l x next) vs f) packed m,
        ),
      )
  step_forth h l a b next t us vs f other (completes o c s es xs ys header type_is p d q e) fits m =
      let first = first_is opening_brace t o us xs p in
      let tall : height b ≡ max (type_height s) (elements_height es + 1) + 1 = ap height e in
      let packed : b ≡ composite_lit (type_place s) s t.place (pack_elements (unpack_elements es)) =
      e ∙ ap (λ x. composite_lit (type_place s) s x es) (ap (λ (x : Lexeme). x.place) (sym first.0))
      ∙ ap (composite_lit (type_place s) s t.place) (sym (packed_elements es)) in
      at_kind h l a (λ x. suffixes h l x next) t other us f opening_brace first.2
      (subst (λ x. After ed B (on_brace h l (λ x. suffixes h l x next) t other x) us f) (sym type_is)
      (subst (λ x. After ed B (on_brace x l (λ x. suffixes h l x next) t other (Some s)) us f) (sym header)
      (after_same ed B opening_brace t _ other us f first.2 (
        omega (arith, fits, tall),
        (
          unpack_elements es,
          c,
          ys,
          vs,
          elements_to ed (l + 2) es us ys (subst (λ x. AreElements ed es x ys) (sym first.1) d),
          fit_elements ed B (l + 2) es (omega (arith, fits, tall)),
          q,
          subst (λ x. Means ed B (suffixes h l x next) vs f) packed m,
        ),
      ))))

  pub suffixes_forth : (h : Bool) (l : ℕ) (a : Expression) (next : Expression → Reader) (t : Lexeme) (us : List Lexeme) (f : File) → Okay ed B (suffixes h l a next) →
      (Means ed B (next a) (t ∷ us) f → begins (next a) t.kind ≡ true) → (Means ed B (next a) (t ∷ us) f → After ed B (parser_step ed (next a) t) us f) →
      Means ed B (suffixes h l a next) (t ∷ us) f → After ed B (parser_step ed (suffixes h l a next) t) us f
  suffixes_forth h l a next t us f okay first forth m = elim (first_step ed h a m.0 (t ∷ us) m.1 m.2) [
    | inl i ↦ (let on : Means ed B (next a) (t ∷ us) f = subst (λ xs. Means ed B (next a) xs f) (sym i.1) (subst (λ x. Means ed B (next x) m.1 f) i.0 m.4) in
        pass h l a (λ x. suffixes h l x next) t (parser_step ed (next a) t) us f (no_tail h a next t.kind okay.2 (first on)) (forth on))
    | inr q ↦ (let less = suffixed_height ed h q.0 m.0 q.1 m.1 q.3 in
        step_forth h l a q.0 next t us q.1 f (parser_step ed (next a) t) q.2 (omega (arith, m.3, less)) (m.0, m.1, q.3, m.3, m.4))
  ]

  -- what a suffix leads to is good
  bracket_closes : (e : Expression) (k : TokenKind) → same closing_bracket k ≡ true → Closes false k
  bracket_closes e k b = subst (λ x. Closes false x) (sym (are_same closing_bracket k b)) (refl, refl)

  colon_or_bracket : (k : TokenKind) → (same colon k || same closing_bracket k) ≡ true → Closes false k
  colon_or_bracket k b = elim (either_true (same colon k) (same closing_bracket k) b) [
    | inl e ↦ subst (λ x. Closes false x) (sym (are_same colon k e)) (refl, refl)
    | inr e ↦ subst (λ x. Closes false x) (sym (are_same closing_bracket k e)) (refl, refl)
  ]

  colon_good : (h : Bool) (l : ℕ) (a : Expression) (next : Expression → Reader) (low : Bound) → l + height a ≤ B → l + 1 + bound_height low ≤ B + 1 →
      Okay ed B (suffixes h l a next) →
      Good ed B (behind_colon l a low (λ x. suffixes h l x next))
  colon_good h l a next low need le okay =
      let one = height_positive a in (
        inl (omega arith),
        (
          (λ c _ _. (tt, (omega (arith, need, le), okay.1, okay.2))),
          (
            (λ j fit. (omega arith, λ c _ _. (tt, (omega (arith, need, le, fit), okay.1, okay.2)))),
            ends_if ed B 5 false (λ j. token closing_bracket 0 an_index_end (λ _. suffixes h l (cut (place_of a) a low (bound j)) next)) bracket_closes,
          ),
          refl,
        ),
      )

  index_good : (h : Bool) (l : ℕ) (a : Expression) (next : Expression → Reader) → l + height a ≤ B → Okay ed B (suffixes h l a next) →
      Good ed B (behind_index l a (λ x. suffixes h l x next))
  index_good h l a next need okay =
      let one = height_positive a in (
        omega (arith, need, one),
        (
          (λ c _ _. colon_good h l a next no_bound need (omega (arith, need, one)) okay),
          (
            (λ i fit. (
              omega arith,
              (
                (λ c _ _. colon_good h l a next (bound i) need fit okay),
                (λ c _ _. (tt, (omega (arith, need, fit), okay.1, okay.2))),
                refl,
              ),
            )),
            ends_if ed B 5 false (λ i. newer colon 0 an_index_end (λ _. behind_colon l a (bound i) (λ x. suffixes h l x next))
                (token closing_bracket 0 an_index_end (λ _. suffixes h l (index (place_of a) a i) next))) (λ e k b. colon_or_bracket k b),
          ),
          refl,
        ),
      )

  brace_kept : (h : Bool) (l : ℕ) (a : Expression) (next : Expression → Reader) (t : Lexeme) (other : Move) (s : Option TypeExpr) → literal_type a ≡ s →
      Okay ed B (suffixes h l a next) → Kept ed B other →
      Kept ed B (on_brace h l (λ x. suffixes h l x next) t other s)
  brace_kept true l a next t other s e okay kept = kept
  brace_kept false l a next t other None e okay kept = kept
  brace_kept false l a next t other (Some s) e okay kept =
      let low = literal_type_height a s e in
      kept_cond ed B (same opening_brace t.kind) _ _ (λ _ need. (
        tt,
        (
          omega (arith, need),
          tt,
          λ es c fit. (
            tt,
            (omega (arith, need, low, elements_fit ed B (l + 2) es (omega (arith, need)) fit), okay.1, okay.2),
          ),
        ),
      )) (λ _. kept)

  pub suffixes_kept : (h : Bool) (l : ℕ) (a : Expression) (next : Expression → Reader) (t : Lexeme) → Okay ed B (suffixes h l a next) → Kept ed B (parser_step ed (next a) t) →
      Kept ed B (parser_step ed (suffixes h l a next) t)
  suffixes_kept h l a next t okay kept =
      let one = height_positive a in
      kept_cond ed B (same period t.kind) _ _ (λ _ need. (omega arith, λ s _ _. (tt, (omega (arith, need), okay.1, okay.2)))) (λ _.
      kept_cond ed B (same opening_bracket t.kind) _ _ (λ _ need. index_good h l a next need okay) (λ _.
      kept_cond ed B (same opening t.kind) _ _ (λ _ need. (
        tt,
        (
          omega (arith, need, one),
          λ es c fit. (
            tt,
            (omega (arith, need, one, exprs_fit ed B (l + 1) es (omega (arith, need, one)) fit), okay.1, okay.2),
          ),
        ),
      )) (λ _.
      brace_kept h l a next t (parser_step ed (next a) t) (literal_type a) refl okay kept)))

  -- what it begins with
  step_first : (h : Bool) (a b : Expression) (t : Lexeme) (us vs : List Lexeme) → Step ed h a b (t ∷ us) vs → is_suffix h a t.kind ≡ true
  step_first h a b t us vs (selects d s xs p n e) = ap (is_suffix h a) (first_is period t d us xs p).2
  step_first h a b t us vs (indexes o c i xs ys p d q e) = ap (is_suffix h a) (first_is opening_bracket t o us xs p).2
  step_first h a b t us vs (cuts o m c i j xs ys zs zs' has p di q dj r e) = ap (is_suffix h a) (first_is opening_bracket t o us xs p).2
  step_first h a b t us vs (calls o c es xs ys p d q e) = ap (is_suffix h a) (first_is opening t o us xs p).2
  step_first h a b t us vs (completes o c s es xs ys header type_is p d q e) =
      ap (is_suffix h a) (first_is opening_brace t o us xs p).2 ∙ ap (λ x. not x && true && is_some (literal_type a)) header ∙ ap is_some type_is

  pub suffixes_first : (h : Bool) (l : ℕ) (a : Expression) (next : Expression → Reader) (t : Lexeme) (us : List Lexeme) (f : File) →
      (Means ed B (next a) (t ∷ us) f → begins (next a) t.kind ≡ true) → Means ed B (suffixes h l a next) (t ∷ us) f →
      begins (suffixes h l a next) t.kind ≡ true
  suffixes_first h l a next t us f first m = elim (first_step ed h a m.0 (t ∷ us) m.1 m.2) [
    | inl i ↦ (let on : Means ed B (next a) (t ∷ us) f = subst (λ xs. Means ed B (next a) xs f) (sym i.1) (subst (λ x. Means ed B (next x) m.1 f) i.0 m.4) in
        right_true (is_suffix h a t.kind) (begins (next a) t.kind) (first on))
    | inr q ↦ left_true (is_suffix h a t.kind) (begins (next a) t.kind) (step_first h a q.0 t us q.1 q.2)
  ]

  pub suffixes_comes : (h : Bool) (l : ℕ) (a : Expression) (next : Expression → Reader) → l + height a ≤ B + 1 →
      (us : List Lexeme) × (f : File) × Means ed B (next a) us f →
      (us : List Lexeme) × (f : File) × Means ed B (suffixes h l a next) us f
  suffixes_comes h l a next fits c = (c.0, c.1, (a, c.0, suffixed_itself ed h a a c.0 c.0 (refl, refl), fits, c.2))

  -- what is behind an operand
  pub behind_operand_back : (n : ℕ) (h : Bool) (l : ℕ) (next : Expression → Reader) (a : Expression) (us : List Lexeme) (f : File) →
      Means ed B (behind_operand n h l next a) us f →
      (e : Expression) × (ws : List Lexeme) × Grown ed n h a e us ws × (l + height e ≤ B + 1) × Means ed B (next e) ws f
  behind_operand_back n h l next a us f m =
      let r = tails_back ed B n h l next m.0 m.1 f m.3 m.4 in
      (r.0, r.1, (m.0, m.1, m.2, r.2), r.3, r.4)

  pub behind_operand_forth : (n : ℕ) (h : Bool) (l : ℕ) (next : Expression → Reader) (a e : Expression) (us ws : List Lexeme) (f : File) → Grown ed n h a e us ws →
      l + height e ≤ B + 1 →
      Means ed B (next e) ws f → Means ed B (behind_operand n h l next a) us f
  behind_operand_forth n h l next a e us ws f g fits m =
      (g.0, g.1, g.2, omega (arith, fits, chain_height ed n h g.0 e g.1 ws g.3), tails_forth ed B n h l next g.0 e g.1 ws f g.3 fits m)

  pub behind_operand_good : (n : ℕ) (h : Bool) (l : ℕ) (next : Expression → Reader) → ((e : Expression) → l + height e ≤ B + 1 → Good ed B (next e)) →
      Ends ed B n h next →
      (a : Expression) → l + height a ≤ B + 1 → Good ed B (behind_operand n h l next a)
  behind_operand_good n h l next good ends a fits = (tt, (fits, tails_good ed B n h l next good ends, tails_ends ed B n h l next ends))

  -- it begins with a suffix, with an operator of these levels, or as what is behind it
  pub behind_operand_begins : (n : ℕ) (h : Bool) (l : ℕ) (next : Expression → Reader) (a : Expression) (k : TokenKind) →
      begins (behind_operand n h l next a) k ≡ true →
      (is_suffix h a k ≡ true) ⊎ (((op : BinaryOperator) × (binary_of k ≡ Some op) × (tighter op < n)) ⊎ (begins (next a) k ≡ true))
  behind_operand_begins n h l next a k b = elim (either_true (is_suffix h a k) (begins (tails n h l next a) k) b) [
    | inl s ↦ inl s
    | inr t ↦ inr (tails_begins ed B n h l next a k t)
  ]
