-- The operands of a call, of which the first may be a type.
use Rattle.std.proofs.Common.{◌≡◌, ℕ, ◌+◌, ◌≤◌, ◌⊎◌, inl, inr, Bool, true, false, ◌||◌, List, [], ◌∷◌, ◌++◌, Option, Some, None, refl, sym, ap, ◌∙◌, subst, arith}
use Rattle.go_text.specs.declared.edition.Edition.{Edition}
use Rattle.go_text.specs.Editions.{has_slices}
use Rattle.go_text.specs.declared.place.Place.{Place}
use Rattle.go_scan.specs.declared.token.TokenKind.{TokenKind}
use Rattle.go_scan.specs.declared.token.TokenKind.TheVariants as kinds
use Rattle.go_scan.specs.declared.keyword.Keyword.TheVariants as keywords
use Rattle.go_ast.specs.Kinds.{same}
use Rattle.go_ast.specs.Operators.{unary_of, binary_of}
use Rattle.go_ast.specs.Expected.{an_operand, another}
use Rattle.go_ast.specs.Trees.{UnaryOperator, TypeExpr, named, qualified, array, slice, struct, Expression, name, integer, rune, string, parenthesized, composite_lit, conversion, selector, index, cut, call, type_operand, unary, binary, ExpressionList, no_exprs, Elements, File, pack}
use Rattle.go_ast.specs.Heights.{height, type_height}
use Rattle.go_ast.specs.Grammar.{Lexeme, Token, opening, closing, opening_bracket, opening_brace, comma, period, Behind, AreItems, IsType, IsExpr, IsTypeOperand, AreOperands, AreArguments, is_named, converts, type_place}
use Rattle.go_ast.specs.Machine.{Reader, type, expr, operands, list_end, arguments, Take, Fail, cond, keyword, begins_expr, optional, literal_elements, converted_operand, behind_operand, behind_bracket, behind_struct, behind_operand_type, on_operand, on_expr, parser_step}
use Rattle.go_ast.proofs.Same.{are_same, not_same}
use Rattle.go_ast.proofs.Means.{IsItem, AllFit, begins, is_tail, Closes, Means, Okay, Good, Ends, After, Kept, Comes}
use Rattle.go_ast.proofs.Base.{false_true, either_true, left_true, right_true, after_cond, kept_cond, after_same, after_other, token_here, first_is}
use Rattle.go_ast.proofs.Tokens.{a_token, at_first, kind_here, same_here, no_token}
use Rattle.go_ast.proofs.Packed.{behind_as}
use Rattle.go_ast.proofs.Packs.{arguments_from, arguments_to}
use Rattle.go_ast.proofs.Values.{list_of, pack_list, ends_if}
use Rattle.go_ast.proofs.Chains.{IsOperand, IsUnary, parts, grown_height, chain_height}
use Rattle.go_ast.proofs.Operators.{tails_begins}
use Rattle.go_ast.proofs.Suffixes.{behind_operand_forth, behind_operand_good, behind_operand_begins}
use Rattle.go_ast.proofs.Types.{type_first, behind_bracket_back, behind_struct_back, array_forth, slice_forth, struct_forth, behind_bracket_good, behind_struct_good}
use Rattle.go_ast.proofs.LiteralTypes.{converts_unnamed, comma_or_closing, literal_back, converted_back, elements_forth, converted_forth, literal_good, converted_good}
use Rattle.go_ast.proofs.Operands.{type_begins_expr, expr_first, on_expr_back, on_expr_forth, on_expr_kept, operand_back}
use Rattle.go_ast.proofs.Levels.{height_positive, type_height_positive}

-- what a call's first operand begins with
pub operand_first : (ed : Edition) → (e : Expression) (t : Lexeme) (us ws : List Lexeme) → (IsExpr ed 5 false e (t ∷ us) ws ⊎ IsTypeOperand ed e (t ∷ us) ws) →
    begins_expr t.kind ≡ true
operand_first ed e t us ws (inl d) = expr_first ed 5 false e t us ws d
operand_first ed (type_operand p a) t us ws (inr d) = type_begins_expr t.kind (type_first ed a t us ws d.2)
operand_first ed _ t us ws (inr d) = absurd d

-- no operand begins as the list ends
not_closing : (t : Lexeme) → begins_expr t.kind ≡ true → same closing t.kind ≡ false
not_closing t e = not_same closing t.kind (λ k. let never : false ≡ true = ap begins_expr (sym k) ∙ e in false_true never)

unary_other : (k j : TokenKind) (op : UnaryOperator) → unary_of k ≡ Some op → unary_of j ≡ None → same j k ≡ false
unary_other k j op e q = not_same j k (λ x. let never : None ≡ Some op = sym q ∙ ap unary_of (sym x) ∙ e in absurd (cc (never)))

list_pack : (es : List Expression) → list_of (pack es) ≡ es
list_pack [] = refl
list_pack (e ∷ es) = ap (λ ys. e ∷ ys) (list_pack es)

packed_none : (es : List Expression) → pack es ≡ no_exprs → es ≡ []
packed_none es q = sym (list_pack es) ∙ ap list_of q

listed : (ed : Edition) → (l : ℕ) (es : List Expression) (xs vs : List Lexeme) → AreItems (IsItem ed (arguments l)) comma (list_of (pack es)) xs vs →
    AreItems (IsItem ed (arguments l)) comma es xs vs
listed ed l es xs vs h = subst (λ ys. AreItems (IsItem ed (arguments l)) comma ys xs vs) (list_pack es) h

module _ (ed : Edition) (B : ℕ) where
  -- an operand's tokens, that it fits, and what is behind it
  abbrev pub First : ℕ → (Expression → Reader) → List Lexeme → File → Type 0
  First l next us f =
      (e : Expression) × (ws : List Lexeme) × (IsExpr ed 5 false e us ws ⊎ IsTypeOperand ed e us ws) × (l + height e ≤ B + 1) × Means ed B (next e) ws f

  -- behind the type
  begun_back : (l : ℕ) (next : Expression → Reader) (us : List Lexeme) (f : File) →
      ((e : Expression) × (ws : List Lexeme) × IsOperand ed e us ws × (l + height e ≤ B + 1) × Means ed B (behind_operand 5 false l next e) ws f) → First l next us f
  begun_back l next us f o = let g = operand_back ed B 5 false l next o.0 us o.1 f o.2 o.3 o.4 in (g.0, g.1, inl g.2, g.3, g.4)

  either_back : (l : ℕ) (next : Expression → Reader) (a : TypeExpr) (us vs : List Lexeme) (f : File) → has_slices ed ≡ true → converts a ≡ true → IsType ed a us vs →
      l + type_height a ≤ B + 1 →
      Means ed B (optional opening_brace (l + type_height a) (literal_elements l (behind_operand 5 false l next) a)
      (optional opening (l + type_height a) (converted_operand l (behind_operand 5 false l next) a) (next (type_operand (type_place a) a)))) vs f →
      First l next us f
  either_back l next a us vs f has converted d le (inl h) =
      begun_back l next us f (literal_back ed B l (behind_operand 5 false l next) a h.0 us vs h.1 f (converts_unnamed a converted) d h.2
      (omega (arith, h.3, type_height_positive a)) h.3 h.4)
  either_back l next a us vs f has converted d le (inr (inl h)) =
      begun_back l next us f (converted_back ed B l (behind_operand 5 false l next) a h.0 us vs h.1 f converted d h.2 h.3 h.4)
  either_back l next a us vs f has converted d le (inr (inr h)) = (type_operand (type_place a) a, vs, inr (has, converts_unnamed a converted, d, refl), le, h)

  type_back : (l : ℕ) (next : Expression → Reader) (a : TypeExpr) (us vs : List Lexeme) (f : File) → has_slices ed ≡ true → is_named a ≡ false → IsType ed a us vs →
      l + type_height a ≤ B + 1 → Means ed B (behind_operand_type l next a) vs f → First l next us f
  type_back l next (named p n) us vs f has unnamed d le m = absurd (false_true (sym unnamed))
  type_back l next (qualified p k n) us vs f has unnamed d le m = absurd (false_true (sym unnamed))
  type_back l next (array p e a) us vs f has unnamed d le m = either_back l next (array p e a) us vs f has refl d le m
  type_back l next (slice p a) us vs f has unnamed d le (inl h) =
      begun_back l next us f (literal_back ed B l (behind_operand 5 false l next) (slice p a) h.0 us vs h.1 f refl d h.2 (omega (arith, h.3)) h.3 h.4)
  type_back l next (slice p a) us vs f has unnamed d le (inr h) = (type_operand p (slice p a), vs, inr (has, refl, d, refl), le, h)
  type_back l next (struct p fs) us vs f has unnamed d le m = either_back l next (struct p fs) us vs f has refl d le m

  expr_back : (l : ℕ) (next : Expression → Reader) (t : Lexeme) (us : List Lexeme) (f : File) → After ed B (on_expr 5 false l an_operand next t) us f →
      First l next (t ∷ us) f
  expr_back l next t us f a = let g = on_expr_back ed B 5 false l an_operand next t us f a in (g.0, g.1, inl g.2, g.3, g.4)

  on_operand_back : (b : Bool) → has_slices ed ≡ b → (l : ℕ) (next : Expression → Reader) (t : Lexeme) (us : List Lexeme) (f : File) →
      After ed B (on_operand b l next t) us f → First l next (t ∷ us) f
  on_operand_back false has l next t us f a = expr_back l next t us f a
  on_operand_back true has l next t us f a = elim (after_cond ed B (same opening_bracket t.kind) _ _ us f a) [
    | inl h ↦ (let r = behind_bracket_back ed B l (behind_operand_type l next) t us f (are_same opening_bracket t.kind h.0) h.1.1 in
        type_back l next r.0 (t ∷ us) r.1 f has r.5 r.2 r.3 r.4)
    | inr g ↦ elim (after_cond ed B (same (keyword keywords.Struct) t.kind) _ _ us f g.1) [
      | inl h ↦ (let r = behind_struct_back ed B l (behind_operand_type l next) t us f (are_same (keyword keywords.Struct) t.kind h.0) h.1.0 h.1.1 in
          type_back l next r.0 (t ∷ us) r.1 f has r.5 r.2 r.3 r.4)
      | inr h ↦ expr_back l next t us f h.1
    ]
  ]

  -- and back
  by_type : (l : ℕ) (next : Expression → Reader) (t : Lexeme) (us vs : List Lexeme) (f : File) (a : TypeExpr) → is_named a ≡ false → IsType ed a (t ∷ us) vs →
      l + type_height a ≤ B + 1 → Means ed B (behind_operand_type l next a) vs f → After ed B (on_operand true l next t) us f
  by_type l next t us vs f (named p n) unnamed d le m = absurd (false_true (sym unnamed))
  by_type l next t us vs f (qualified p k n) unnamed d le m = absurd (false_true (sym unnamed))
  by_type l next t us vs f (array p e a) unnamed d le m =
      after_same ed B opening_bracket t _ _ us f (first_is opening_bracket t d.0 us d.2 d.5).2
      (omega (arith, height_positive e, le), array_forth ed B l (behind_operand_type l next) t us vs f p e a d le m)
  by_type l next t us vs f (slice p a) unnamed d le m =
      after_same ed B opening_bracket t _ _ us f (first_is opening_bracket t d.0 us d.2 d.5).2
      (omega (arith, type_height_positive a, le), slice_forth ed B l (behind_operand_type l next) t us vs f p a d le m)
  by_type l next t us vs f (struct p fs) unnamed d le m =
      let kind = (first_is (keyword keywords.Struct) t d.0 us d.3 d.6).2 in
      after_other ed B opening_bracket t _ _ us f (ap (same opening_bracket) kind)
      (after_same ed B (keyword keywords.Struct) t _ _ us f kind (omega (arith, le), struct_forth ed B l (behind_operand_type l next) t us vs f p fs d le m))

  by_other : (l : ℕ) (next : Expression → Reader) (t : Lexeme) (us : List Lexeme) (f : File) (k : TokenKind) → t.kind ≡ k → same opening_bracket k ≡ false →
      same (keyword keywords.Struct) k ≡ false → After ed B (on_expr 5 false l an_operand next t) us f → After ed B (on_operand true l next t) us f
  by_other l next t us f k kind bracket word a =
      after_other ed B opening_bracket t _ _ us f (ap (same opening_bracket) kind ∙ bracket)
      (after_other ed B (keyword keywords.Struct) t _ _ us f (ap (same (keyword keywords.Struct)) kind ∙ word) a)

  literal_on : (l : ℕ) (next : Expression → Reader) (a : TypeExpr) (us ws : List Lexeme) (f : File) (p q : Place) (es : Elements) →
      (d : IsOperand ed (composite_lit p a q es) us ws) → l + height (composite_lit p a q es) ≤ B + 1 →
      Means ed B (behind_operand 5 false l next (composite_lit p a q es)) ws f → Means ed B (behind_operand_type l next a) d.2 f
  literal_on l next (named r n) us ws f p q es d le m = absurd (false_true (sym d.5))
  literal_on l next (qualified r k n) us ws f p q es d le m = absurd (false_true (sym d.5))
  literal_on l next (array r e a) us ws f p q es d le m =
      inl (d.0, d.3, d.8, omega (arith, le), elements_forth ed B l (behind_operand 5 false l next) us ws f p (array r e a) q es d le m)
  literal_on l next (slice r a) us ws f p q es d le m =
      inl (d.0, d.3, d.8, omega (arith, le), elements_forth ed B l (behind_operand 5 false l next) us ws f p (slice r a) q es d le m)
  literal_on l next (struct r fs) us ws f p q es d le m =
      inl (d.0, d.3, d.8, omega (arith, le), elements_forth ed B l (behind_operand 5 false l next) us ws f p (struct r fs) q es d le m)

  conversion_on : (l : ℕ) (next : Expression → Reader) (a : TypeExpr) (us ws : List Lexeme) (f : File) (p : Place) (e : Expression) →
      (d : IsOperand ed (conversion p a e) us ws) → l + height (conversion p a e) ≤ B + 1 →
      Means ed B (behind_operand 5 false l next (conversion p a e)) ws f → Means ed B (behind_operand_type l next a) d.2 f
  conversion_on l next (named r n) us ws f p e d le m = absurd (false_true d.6)
  conversion_on l next (qualified r k n) us ws f p e d le m = absurd (false_true d.6)
  conversion_on l next (array r x a) us ws f p e d le m =
      inr (inl (d.0, d.3, d.9, omega (arith, le), converted_forth ed B l (behind_operand 5 false l next) us ws f p (array r x a) e d le m))
  conversion_on l next (slice r a) us ws f p e d le m = absurd (false_true d.6)
  conversion_on l next (struct r fs) us ws f p e d le m =
      inr (inl (d.0, d.3, d.9, omega (arith, le), converted_forth ed B l (behind_operand 5 false l next) us ws f p (struct r fs) e d le m))

  by_operand : (l : ℕ) (next : Expression → Reader) (t : Lexeme) (us vs : List Lexeme) (f : File) (a : Expression) → IsOperand ed a (t ∷ us) vs → l + height a ≤ B + 1 →
      Means ed B (behind_operand 5 false l next a) vs f → After ed B (on_expr 5 false l an_operand next t) us f → After ed B (on_operand true l next t) us f
  by_operand l next t us vs f (name p text) d le m on = by_other l next t us f kinds.Name (first_is kinds.Name t d.0 us vs d.1).2 refl refl on
  by_operand l next t us vs f (integer p text) d le m on = by_other l next t us f kinds.Integer (first_is kinds.Integer t d.0 us vs d.1).2 refl refl on
  by_operand l next t us vs f (rune p value) d le m on = by_other l next t us f kinds.Rune (first_is kinds.Rune t d.0 us vs d.1).2 refl refl on
  by_operand l next t us vs f (string p value) d le m on = by_other l next t us f kinds.String (first_is kinds.String t d.0 us vs d.1).2 refl refl on
  by_operand l next t us vs f (parenthesized p e) d le m on = by_other l next t us f opening (first_is opening t d.0 us d.2 d.4).2 refl refl on
  by_operand l next t us vs f (composite_lit p a q es) d le m on =
      by_type l next t us d.2 f a d.5 d.6 (omega (arith, le)) (literal_on l next a (t ∷ us) vs f p q es d le m)
  by_operand l next t us vs f (conversion p a e) d le m on =
      by_type l next t us d.2 f a (converts_unnamed a d.6) d.7 (omega (arith, le)) (conversion_on l next a (t ∷ us) vs f p e d le m)
  by_operand l next t us vs f _ d le m on = absurd d

  by_unary : (l : ℕ) (next : Expression → Reader) (t : Lexeme) (us vs : List Lexeme) (f : File) (a : Expression) → IsUnary ed false a (t ∷ us) vs →
      After ed B (on_expr 5 false l an_operand next t) us f → After ed B (on_operand true l next t) us f
  by_unary l next t us vs f (unary p op a) d on =
      let whole : t ∷ us ≡ d.0 ∷ d.1 = d.2 in
      let first : t ≡ d.0 = cc (whole) in
      let is : unary_of t.kind ≡ Some op = ap (λ (y : Lexeme). unary_of y.kind) first ∙ d.3 in
      by_other l next t us f t.kind refl (unary_other t.kind opening_bracket op is refl) (unary_other t.kind (keyword keywords.Struct) op is refl) on
  by_unary l next t us vs f _ d on = absurd d

  type_on : (l : ℕ) (next : Expression → Reader) (a : TypeExpr) (vs : List Lexeme) (f : File) → is_named a ≡ false →
      Means ed B (next (type_operand (type_place a) a)) vs f → Means ed B (behind_operand_type l next a) vs f
  type_on l next (named r n) vs f unnamed m = absurd (false_true (sym unnamed))
  type_on l next (qualified r k n) vs f unnamed m = absurd (false_true (sym unnamed))
  type_on l next (array r e a) vs f unnamed m = inr (inr m)
  type_on l next (slice r a) vs f unnamed m = inr m
  type_on l next (struct r fs) vs f unnamed m = inr (inr m)

  expr_on : (b : Bool) (l : ℕ) (next : Expression → Reader) (t : Lexeme) (us ws : List Lexeme) (f : File) (e : Expression) → IsExpr ed 5 false e (t ∷ us) ws →
      l + height e ≤ B + 1 → Means ed B (next e) ws f → After ed B (on_operand b l next t) us f
  expr_on false l next t us ws f e d le m = on_expr_forth ed B 5 false l an_operand next t us f (e, ws, d, le, m)
  expr_on true l next t us ws f e d le m =
      let on = on_expr_forth ed B 5 false l an_operand next t us f (e, ws, d, le, m) in
      elim (parts ed 5 false e (t ∷ us) ws d) [
        | inl p ↦ by_operand l next t us p.1 f p.0 p.2 (omega (arith, le, grown_height ed 5 false p.0 e p.1 ws p.3))
            (behind_operand_forth ed B 5 false l next p.0 e p.1 ws f p.3 le m) on
        | inr p ↦ by_unary l next t us p.1 f p.0 p.2 on
      ]

  first_forth : (l : ℕ) (next : Expression → Reader) (t : Lexeme) (us ws : List Lexeme) (f : File) (e : Expression) →
      (IsExpr ed 5 false e (t ∷ us) ws ⊎ IsTypeOperand ed e (t ∷ us) ws) → l + height e ≤ B + 1 → Means ed B (next e) ws f →
      After ed B (on_operand (has_slices ed) l next t) us f
  first_forth l next t us ws f e (inl d) le m = expr_on (has_slices ed) l next t us ws f e d le m
  first_forth l next t us ws f (type_operand p a) (inr d) le m =
      subst (λ b. After ed B (on_operand b l next t) us f) (sym d.0)
      (by_type l next t us ws f a d.1 d.2 le (type_on l next a ws f d.1 (subst (λ q. Means ed B (next (type_operand q a)) ws f) d.3 m)))
  first_forth l next t us ws f _ (inr d) le m = absurd d

  -- the state
  abbrev behind_first : ℕ → (List Expression → Lexeme → Reader) → Expression → Reader
  behind_first l next e = list_end (arguments l) another (e ∷ []) next

  pub operands_first : (l : ℕ) (next : List Expression → Lexeme → Reader) (t : Lexeme) (us : List Lexeme) (f : File) → Means ed B (operands l next) (t ∷ us) f →
      begins (operands l next) t.kind ≡ true
  operands_first l next t us f m = by_list m.0 m.4
    where
      by_list : (es : List Expression) → AreOperands ed (pack es) (t ∷ us) m.2 → begins (operands l next) t.kind ≡ true
      by_list [] are = left_true (same closing t.kind) (begins_expr t.kind) (same_here closing t m.1 us m.3 (subst (λ x. Token closing m.1 x m.3) (sym are) m.6))
      by_list (e ∷ es) are = right_true (same closing t.kind) (begins_expr t.kind) (operand_first ed e t us are.0 are.1)

  pub operands_back : (l : ℕ) (next : List Expression → Lexeme → Reader) (t : Lexeme) (us : List Lexeme) (f : File) →
      After ed B (parser_step ed (operands l next) t) us f → Means ed B (operands l next) (t ∷ us) f
  operands_back l next t us f a = elim (after_cond ed B (same closing t.kind) (Take 0 (next [] t)) (on_operand (has_slices ed) l (behind_first l next) t) us f a) [
    | inl h ↦ ([], t, t ∷ us, us, refl, tt, token_here closing t us (are_same closing t.kind h.0), h.1.1)
    | inr h ↦ (let r = on_operand_back (has_slices ed) refl l (behind_first l next) t us f h.1 in
        let m = r.4 in (
          r.0 ∷ m.0,
          m.1,
          m.2,
          m.3,
          (
            r.1,
            r.2,
            behind_as comma (AreItems (IsItem ed (arguments l)) comma m.0) (AreArguments ed (pack m.0)) (m.0 ≡ []) (pack m.0 ≡ no_exprs) r.1 m.2
                (λ vs x. arguments_from ed l m.0 vs m.2 x) (λ e. ap pack e) m.4,
          ),
          (r.3, m.5),
          m.6,
          m.7,
        ))
  ]

  pub operands_forth : (l : ℕ) (next : List Expression → Lexeme → Reader) (t : Lexeme) (us : List Lexeme) (f : File) → Means ed B (operands l next) (t ∷ us) f →
      After ed B (parser_step ed (operands l next) t) us f
  operands_forth l next t us f (es, c, vs, ws, are, fit, close, m) = by_list es are fit m
    where
      by_list : (es : List Expression) → AreOperands ed (pack es) (t ∷ us) vs → AllFit ed B height l es → Means ed B (next es c) ws f →
          After ed B (parser_step ed (operands l next) t) us f
      by_list [] are fit m =
          let here : Token closing c (t ∷ us) ws = subst (λ x. Token closing c x ws) (sym are) close in
          after_same ed B closing t _ _ us f (kind_here closing t c us ws here)
          (omega arith, at_first closing t c us ws (λ u xs. Means ed B (next [] u) xs f) here m)
      by_list (e ∷ es) are fit m =
          after_other ed B closing t _ _ us f (not_closing t (operand_first ed e t us are.0 are.1))
          (first_forth l (behind_first l next) t us are.0 f e are.1 fit.0 (
            es,
            c,
            vs,
            ws,
            behind_as comma (AreArguments ed (pack es)) (AreItems (IsItem ed (arguments l)) comma es) (pack es ≡ no_exprs) (es ≡ []) are.0 vs
                (λ xs x. listed ed l es xs vs (arguments_to ed l (pack es) xs vs x)) (λ q. packed_none es q) are.2,
            fit.1,
            close,
            m,
          ))

  -- what is due is good
  begun_good : (l : ℕ) (next : Expression → Reader) → ((e : Expression) → l + height e ≤ B + 1 → Good ed B (next e)) → Ends ed B 5 false next →
      (a : Expression) → l + height a ≤ B + 1 → Good ed B (behind_operand 5 false l next a)
  begun_good l next good ends a le = behind_operand_good ed B 5 false l next good ends a le

  either_good : (l : ℕ) (next : Expression → Reader) (a : TypeExpr) → l + type_height a ≤ B + 1 → ((e : Expression) → l + height e ≤ B + 1 → Good ed B (next e)) →
      Ends ed B 5 false next → ((e : Expression) → begins (next e) opening_brace ≡ false) → ((e : Expression) → begins (next e) opening ≡ false) →
      Good ed B (optional opening_brace (l + type_height a) (literal_elements l (behind_operand 5 false l next) a)
      (optional opening (l + type_height a) (converted_operand l (behind_operand 5 false l next) a) (next (type_operand (type_place a) a))))
  either_good l next a le good ends brace paren =
      let one = type_height_positive a in
      let t = type_operand (type_place a) a in
      let low = good t le in (
        inr (inr low.0),
        (
          (λ o k need. literal_good ed B l (behind_operand 5 false l next) a o (omega (arith, one, need)) need (begun_good l next good ends)),
          (
            (λ o k need. converted_good ed B l (behind_operand 5 false l next) a o (omega (arith, one, need)) need (begun_good l next good ends)),
            low.1,
            paren t,
          ),
          brace t,
        ),
      )

  type_good : (l : ℕ) (next : Expression → Reader) (a : TypeExpr) → l + type_height a ≤ B + 1 → ((e : Expression) → l + height e ≤ B + 1 → Good ed B (next e)) →
      Ends ed B 5 false next → ((e : Expression) → begins (next e) opening_brace ≡ false) → ((e : Expression) → begins (next e) opening ≡ false) →
      Good ed B (behind_operand_type l next a)
  type_good l next (named p n) le good ends brace paren = either_good l next (named p n) le good ends brace paren
  type_good l next (qualified p m n) le good ends brace paren = either_good l next (qualified p m n) le good ends brace paren
  type_good l next (array p e a) le good ends brace paren = either_good l next (array p e a) le good ends brace paren
  type_good l next (slice p a) le good ends brace paren =
      let low = good (type_operand p (slice p a)) le in (
        inr low.0,
        (
          (λ o k need. literal_good ed B l (behind_operand 5 false l next) (slice p a) o (omega (arith, need)) need (begun_good l next good ends)),
          low.1,
          brace (type_operand p (slice p a)),
        ),
      )
  type_good l next (struct p fs) le good ends brace paren = either_good l next (struct p fs) le good ends brace paren

  type_no_period : (l : ℕ) (next : List Expression → Lexeme → Reader) (a : TypeExpr) → begins (behind_operand_type l (behind_first l next) a) period ≡ false
  type_no_period l next (named p n) = refl
  type_no_period l next (qualified p m n) = refl
  type_no_period l next (array p e a) = refl
  type_no_period l next (slice p a) = refl
  type_no_period l next (struct p fs) = refl

  pub operands_kept : (l : ℕ) (next : List Expression → Lexeme → Reader) (t : Lexeme) → Okay ed B (operands l next) → Kept ed B (parser_step ed (operands l next) t)
  operands_kept l next t ok =
      kept_cond ed B (same closing t.kind) (Take 0 (next [] t)) (on_operand (has_slices ed) l (behind_first l next) t) (λ e le. ok.1 [] t tt)
      (λ e. by_edition (has_slices ed))
    where
      good : (e : Expression) → l + height e ≤ B + 1 → Good ed B (behind_first l next e)
      good e fit = (tt, (ok.0, (fit, tt), λ es c fits. ok.1 es c fits))

      ends : Ends ed B 5 false (behind_first l next)
      ends = ends_if ed B 5 false (behind_first l next) (λ e k b. comma_or_closing k b)

      expr_okay : Okay ed B (expr 5 false l an_operand (behind_first l next))
      expr_okay = (good, ends)

      type_okay : Okay ed B (type l another (behind_operand_type l (behind_first l next)))
      type_okay = ((λ a fit. type_good l (behind_first l next) a fit good ends (λ e. refl) (λ e. refl)), λ a. type_no_period l next a)

      by_edition : (b : Bool) → Kept ed B (on_operand b l (behind_first l next) t)
      by_edition false = on_expr_kept ed B 5 false l an_operand (behind_first l next) t expr_okay
      by_edition true =
          kept_cond ed B (same opening_bracket t.kind) _ _ (λ e le. behind_bracket_good ed B l another (behind_operand_type l (behind_first l next)) t le type_okay)
          (λ e. kept_cond ed B (same (keyword keywords.Struct) t.kind) _ _
          (λ q le. behind_struct_good ed B l another (behind_operand_type l (behind_first l next)) t le type_okay)
          (λ q. on_expr_kept ed B 5 false l an_operand (behind_first l next) t expr_okay))

  pub operands_comes : (l : ℕ) (next : List Expression → Lexeme → Reader) → Okay ed B (operands l next) →
      ((c : Lexeme) → Good ed B (next [] c) → Comes ed B (next [] c)) → Comes ed B (operands l next)
  operands_comes l next ok go =
      let c = a_token closing in
      let r = go c (ok.1 [] c tt) in
      (c ∷ r.0, r.1, ([], c, c ∷ r.0, r.0, refl, tt, token_here closing c r.0 refl, r.2))
