-- What is due behind an array or struct type that begins an operand: its elements, or what is converted to it.
use Rattle.std.proofs.Common.{◌≡◌, ℕ, ◌+◌, ◌≤◌, inl, inr, Bool, true, false, ◌||◌, List, refl, sym, ap, ◌∙◌, subst, arith}
use Rattle.go_text.specs.declared.edition.Edition.{Edition}
use Rattle.go_text.specs.declared.place.Place.{Place}
use Rattle.go_scan.specs.declared.token.TokenKind.{TokenKind}
use Rattle.go_ast.specs.Kinds.{same}
use Rattle.go_ast.specs.Operators.{binary_of}
use Rattle.go_ast.specs.Expected.{another}
use Rattle.go_ast.specs.Trees.{TypeExpr, named, qualified, array, slice, struct, Expression, composite_lit, conversion, Elements, File, pack_elements}
use Rattle.go_ast.specs.Heights.{height, type_height}
use Rattle.go_ast.specs.Grammar.{Lexeme, Token, opening, closing, opening_brace, comma, period, IsType, is_named, converts, type_place}
use Rattle.go_ast.specs.Machine.{Reader, token, optional, literal_elements, converted_operand, behind_literal_type}
use Rattle.go_ast.proofs.Same.{are_same}
use Rattle.go_ast.proofs.Means.{is_tail, Closes, begins, Means, Good}
use Rattle.go_ast.proofs.Base.{false_true, either_true}
use Rattle.go_ast.proofs.Values.{ends_if}
use Rattle.go_ast.proofs.Packed.{unpack_elements, packed_elements, elements_from, elements_to, elements_fit, fit_elements}
use Rattle.go_ast.proofs.Chains.{IsOperand}
use Rattle.go_ast.proofs.Types.{led}
use Rattle.go_ast.proofs.Levels.{type_height_positive}

-- a comma or a parenthesis that closes goes on with no expression
pub comma_or_closing : (k : TokenKind) → (same comma k || same closing k) ≡ true → Closes false k
comma_or_closing k b = elim (either_true (same comma k) (same closing k) b) [
  | inl e ↦ (ap (is_tail false) (are_same comma k e), ap binary_of (are_same comma k e))
  | inr e ↦ (ap (is_tail false) (are_same closing k e), ap binary_of (are_same closing k e))
]

-- what converts has no name
pub converts_unnamed : (a : TypeExpr) → converts a ≡ true → is_named a ≡ false
converts_unnamed (named p n) e = absurd (false_true e)
converts_unnamed (qualified p m n) e = absurd (false_true e)
converts_unnamed (array p e a) q = refl
converts_unnamed (slice p a) e = refl
converts_unnamed (struct p fs) e = refl

-- no name is selected from a type that begins an operand
pub no_period : (l : ℕ) (next : Expression → Reader) (a : TypeExpr) → begins (behind_literal_type l next a) period ≡ false
no_period l next (named p n) = refl
no_period l next (qualified p m n) = refl
no_period l next (array p e a) = refl
no_period l next (slice p a) = refl
no_period l next (struct p fs) = refl

named_never : (A : Type 0) → true ≡ false → A
named_never A e = absurd (false_true (sym e))

module _ (ed : Edition) (B : ℕ) where
  -- an operand's tokens, that it fits, and what is behind it
  abbrev pub Operated : ℕ → (Expression → Reader) → List Lexeme → File → Type 0
  Operated l next us f = (e : Expression) × (ws : List Lexeme) × IsOperand ed e us ws × (l + height e ≤ B + 1) × Means ed B (next e) ws f

  -- behind an opening brace or parenthesis
  pub literal_back : (l : ℕ) (next : Expression → Reader) (a : TypeExpr) (o : Lexeme) (us vs xs : List Lexeme) (f : File) → is_named a ≡ false → IsType ed a us vs →
      Token opening_brace o vs xs → l + 1 ≤ B → l + type_height a ≤ B → Means ed B (literal_elements l next a o) xs f → Operated l next us f
  literal_back l next a o us vs xs f unnamed d b low le i = (
    composite_lit (type_place a) a o.place (pack_elements i.0),
    i.3,
    (o, i.1, vs, xs, i.2, unnamed, d, refl, b, refl, elements_from ed (l + 2) i.0 xs i.2 i.4, i.6),
    omega (arith, low, le, elements_fit ed B (l + 2) i.0 (omega (arith, low)) i.5),
    i.7,
  )

  pub converted_back : (l : ℕ) (next : Expression → Reader) (a : TypeExpr) (o : Lexeme) (us vs xs : List Lexeme) (f : File) → converts a ≡ true → IsType ed a us vs →
      Token opening o vs xs → l + type_height a ≤ B → Means ed B (converted_operand l next a o) xs f → Operated l next us f
  converted_back l next a o us vs xs f converted d p le x = elim x.4 [
    | inl c ↦ (let z = c.4 in
        (conversion (type_place a) a x.0, z.1, (o, z.0, vs, xs, x.1, c.1, converted, d, refl, p, x.2, inr (c.0, c.2), z.2), omega (arith, le, x.3), z.4))
    | inr z ↦ (conversion (type_place a) a x.0, z.1, (o, z.0, vs, xs, x.1, x.1, converted, d, refl, p, x.2, inl refl, z.2), omega (arith, le, x.3), z.4)
  ]

  either_back : (l : ℕ) (next : Expression → Reader) (a : TypeExpr) (us vs : List Lexeme) (f : File) → converts a ≡ true → IsType ed a us vs →
      l + 1 + type_height a ≤ B + 1 →
      Means ed B (optional opening_brace (l + 1) (literal_elements l next a) (token opening (l + 1) another (converted_operand l next a))) vs f →
      Operated l next us f
  either_back l next a us vs f converted d le (inl h) =
      literal_back l next a h.0 us vs h.1 f (converts_unnamed a converted) d h.2 h.3 (omega (arith, le)) h.4
  either_back l next a us vs f converted d le (inr h) = converted_back l next a h.0 us vs h.1 f converted d h.2 (omega (arith, le)) h.4

  pub behind_literal_type_back : (l : ℕ) (next : Expression → Reader) (a : TypeExpr) (us vs : List Lexeme) (f : File) → is_named a ≡ false → IsType ed a us vs →
      l + 1 + type_height a ≤ B + 1 → Means ed B (behind_literal_type l next a) vs f → Operated l next us f
  behind_literal_type_back l next (named p n) us vs f unnamed d le m = named_never (Operated l next us f) unnamed
  behind_literal_type_back l next (qualified p k n) us vs f unnamed d le m = named_never (Operated l next us f) unnamed
  behind_literal_type_back l next (array p e a) us vs f unnamed d le m = either_back l next (array p e a) us vs f refl d le m
  behind_literal_type_back l next (slice p a) us vs f unnamed d le h =
      literal_back l next (slice p a) h.0 us vs h.1 f refl d h.2 h.3 (omega (arith, le)) h.4
  behind_literal_type_back l next (struct p fs) us vs f unnamed d le m = either_back l next (struct p fs) us vs f refl d le m

  -- and back: behind the brace or parenthesis
  pub elements_forth : (l : ℕ) (next : Expression → Reader) (us ws : List Lexeme) (f : File) (p : Place) (a : TypeExpr) (q : Place) (es : Elements) →
      (d : IsOperand ed (composite_lit p a q es) us ws) → l + height (composite_lit p a q es) ≤ B + 1 → Means ed B (next (composite_lit p a q es)) ws f →
      Means ed B (literal_elements l next a d.0) d.3 f
  elements_forth l next us ws f p a q es d le m =
      let place : p ≡ type_place a = d.7 in
      let brace : q ≡ d.0.place = d.9 in
      let whole : pack_elements (unpack_elements es) ≡ es = packed_elements es in (
        unpack_elements es,
        d.1,
        d.4,
        ws,
        elements_to ed (l + 2) es d.3 d.4 d.10,
        fit_elements ed B (l + 2) es (omega arith),
        d.11,
        led ed B next (composite_lit (type_place a) a d.0.place (pack_elements (unpack_elements es))) (composite_lit p a q es) ws ws f (cc (place, brace, whole)) refl m,
      )

  pub converted_forth : (l : ℕ) (next : Expression → Reader) (us ws : List Lexeme) (f : File) (p : Place) (a : TypeExpr) (e : Expression) →
      (d : IsOperand ed (conversion p a e) us ws) → l + height (conversion p a e) ≤ B + 1 → Means ed B (next (conversion p a e)) ws f →
      Means ed B (converted_operand l next a d.0) d.3 f
  converted_forth l next us ws f p a e d le m =
      let place : p ≡ type_place a = d.8 in
      let on : Means ed B (next (conversion (type_place a) a e)) ws f =
      led ed B next (conversion (type_place a) a e) (conversion p a e) ws ws f (cc (place)) refl m in (
        e,
        d.4,
        d.10,
        omega arith,
        elim d.11 [
          | inl same_rest ↦ inr (d.1, ws, subst (λ x. Token closing d.1 x ws) (sym same_rest) d.12, omega arith, on)
          | inr c ↦ inl (c.0, d.5, c.1, omega arith, (d.1, ws, d.12, omega arith, on))
        ],
      )

  -- behind the type, whose tokens end in front of vs
  pub literal_forth : (l : ℕ) (next : Expression → Reader) (us ws : List Lexeme) (f : File) (p : Place) (a : TypeExpr) (q : Place) (es : Elements) →
      (d : IsOperand ed (composite_lit p a q es) us ws) → l + height (composite_lit p a q es) ≤ B + 1 → Means ed B (next (composite_lit p a q es)) ws f →
      Means ed B (behind_literal_type l next a) d.2 f
  literal_forth l next us ws f p (named r n) q es d le m = named_never _ d.5
  literal_forth l next us ws f p (qualified r k n) q es d le m = named_never _ d.5
  literal_forth l next us ws f p (array r e a) q es d le m =
      inl (d.0, d.3, d.8, omega arith, elements_forth l next us ws f p (array r e a) q es d le m)
  literal_forth l next us ws f p (slice r a) q es d le m = (d.0, d.3, d.8, omega arith, elements_forth l next us ws f p (slice r a) q es d le m)
  literal_forth l next us ws f p (struct r fs) q es d le m =
      inl (d.0, d.3, d.8, omega arith, elements_forth l next us ws f p (struct r fs) q es d le m)

  pub conversion_forth : (l : ℕ) (next : Expression → Reader) (us ws : List Lexeme) (f : File) (p : Place) (a : TypeExpr) (e : Expression) →
      (d : IsOperand ed (conversion p a e) us ws) → l + height (conversion p a e) ≤ B + 1 → Means ed B (next (conversion p a e)) ws f →
      Means ed B (behind_literal_type l next a) d.2 f
  conversion_forth l next us ws f p (named r n) e d le m = named_never _ (sym d.6)
  conversion_forth l next us ws f p (qualified r k n) e d le m = named_never _ (sym d.6)
  conversion_forth l next us ws f p (array r x a) e d le m =
      inr (d.0, d.3, d.9, omega (arith, type_height_positive (array r x a)), converted_forth l next us ws f p (array r x a) e d le m)
  conversion_forth l next us ws f p (slice r a) e d le m = named_never _ (sym d.6)
  conversion_forth l next us ws f p (struct r fs) e d le m =
      inr (d.0, d.3, d.9, omega (arith, type_height_positive (struct r fs)), converted_forth l next us ws f p (struct r fs) e d le m)

  -- what is behind is good
  pub literal_good : (l : ℕ) (next : Expression → Reader) (a : TypeExpr) (o : Lexeme) → l + 1 ≤ B → l + type_height a ≤ B →
      ((e : Expression) → l + height e ≤ B + 1 → Good ed B (next e)) →
      Good ed B (literal_elements l next a o)
  literal_good l next a o below le on = (
    tt,
    (
      omega (arith, below),
      tt,
      λ is c fits. on (composite_lit (type_place a) a o.place (pack_elements is))
          (omega (arith, below, le, elements_fit ed B (l + 2) is (omega (arith, below)) fits)),
    ),
  )

  pub converted_good : (l : ℕ) (next : Expression → Reader) (a : TypeExpr) (o : Lexeme) → l + 1 ≤ B → l + type_height a ≤ B →
      ((e : Expression) → l + height e ≤ B + 1 → Good ed B (next e)) →
      Good ed B (converted_operand l next a o)
  converted_good l next a o below le on = (
    below,
    (
      (λ e fits. (
        inl (omega arith),
        (
          (λ c k' z'. (omega arith, λ d k'' z''. on (conversion (type_place a) a e) (omega (arith, le, fits)))),
          (λ d k'' z''. on (conversion (type_place a) a e) (omega (arith, le, fits))),
          refl,
        ),
      )),
      ends_if ed B 5 false _ (λ e k' b. comma_or_closing k' b),
    ),
  )

  either_good : (l : ℕ) (next : Expression → Reader) (a : TypeExpr) → l + 1 + type_height a ≤ B + 1 → ((e : Expression) → l + height e ≤ B + 1 → Good ed B (next e)) →
      Good ed B (optional opening_brace (l + 1) (literal_elements l next a) (token opening (l + 1) another (converted_operand l next a)))
  either_good l next a le on =
      let below : l + 1 ≤ B = omega (arith, type_height_positive a, le) in (
        inl below,
        (
          (λ o k z. literal_good l next a o below (omega (arith, le)) on),
          (λ o k z. converted_good l next a o below (omega (arith, le)) on),
          refl,
        ),
      )

  pub behind_literal_type_good : (l : ℕ) (next : Expression → Reader) (a : TypeExpr) → l + 1 + type_height a ≤ B + 1 →
      ((e : Expression) → l + height e ≤ B + 1 → Good ed B (next e)) → Good ed B (behind_literal_type l next a)
  behind_literal_type_good l next (named p n) le on = either_good l next (named p n) le on
  behind_literal_type_good l next (qualified p m n) le on = either_good l next (qualified p m n) le on
  behind_literal_type_good l next (array p e a) le on = either_good l next (array p e a) le on
  behind_literal_type_good l next (slice p a) le on =
      let below : l + 1 ≤ B = omega (arith, type_height_positive (slice p a), le) in
      (below, λ o k z. literal_good l next (slice p a) o below (omega (arith, le)) on)
  behind_literal_type_good l next (struct p fs) le on = either_good l next (struct p fs) le on
