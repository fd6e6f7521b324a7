-- Expressions and types of the grammar have texts for string literals, where their tokens' bytes are texts.
use Rattle.std.proofs.Common.{◌≡◌, ℕ, Bool, true, false, List, [], ◌∷◌, Option, Some, None, sym, ap, subst, inl, inr}
use Rattle.go_text.specs.declared.edition.Edition.{Edition}
use Rattle.go_scan.specs.declared.token.TokenKind.{TokenKind}
use Rattle.go_scan.specs.declared.token.TokenKind.TheVariants as kinds
use Rattle.go_scan.specs.Words.{IsWord}
use Rattle.go_ast.specs.Trees.{Name, TypeExpr, named, qualified, array, slice, struct, FieldDecls, no_fields, field, Expression, name, integer, rune, string, parenthesized, composite_lit, conversion, selector, index, cut, Bound, no_bound, bound, call, type_operand, unary, binary, ExpressionList, no_exprs, some_exprs, Elements, no_elements, element, Element, expression_element, value_element}
use Rattle.go_ast.specs.Grammar.{Lexeme, name_of, Token, AreMoreNames, AreNames, MayBe, IsKey, IsType, AreFields, IsExpr, IsBound, IsTypeOperand, AreOperands, AreArguments, AreElements, IsElement, AreMoreExprs, AreExprs}
use Rattle.go_meaning_laws.specs.WellTyped.{is_text}
use Rattle.go_package_laws.proofs.Texts.{AreWords, HasTexts, BoundHasTexts, HaveTexts, ElementsHaveTexts, ElementHasTexts, TypeHasTexts, FieldsHaveTexts}
use Rattle.go_package_laws.proofs.Strings.{string_text}

-- the bytes of each token are a text, and those of a name a word
abbrev pub IsGoodToken : Lexeme → Type 0
IsGoodToken t = (is_text t.text ≡ true) × (t.kind ≡ kinds.Name → IsWord t.text)

abbrev pub AreTexts : List Lexeme → Type 0
AreTexts [] = Unit {0}
AreTexts (t ∷ ts) = IsGoodToken t × AreTexts ts

pub token_text : (kind : TokenKind) (t : Lexeme) (us ws : List Lexeme) → Token kind t us ws → AreTexts us → (is_text t.text ≡ true) × AreTexts ws
token_text kind t us ws h texts = (let both = subst AreTexts h.whole texts in ((both.0).0, both.1))

pub token_word : (t : Lexeme) (us ws : List Lexeme) → Token kinds.Name t us ws → AreTexts us → IsWord t.text
token_word t us ws h texts = ((subst AreTexts h.whole texts).0).1 h.is

pub behind_token : (kind : TokenKind) (t : Lexeme) (us ws : List Lexeme) → Token kind t us ws → AreTexts us → AreTexts ws
behind_token kind t us ws h texts = (token_text kind t us ws h texts).1

more_names : (ns : List Name) (us ws : List Lexeme) → AreMoreNames ns us ws → AreTexts us → AreTexts ws
more_names [] us ws h texts = subst AreTexts h texts
more_names (n ∷ ns) us ws (c, t, vs, xs, comma, one, is, rest) texts = more_names ns xs ws rest (behind_token _ t vs xs one (behind_token _ c us vs comma texts))

pub behind_names : (ns : List Name) (us ws : List Lexeme) → AreNames ns us ws → AreTexts us → AreTexts ws
behind_names [] us ws h texts = absurd h
behind_names (n ∷ ns) us ws (t, vs, one, is, rest) texts = more_names ns vs ws rest (behind_token _ t us vs one texts)

-- the name that a token is
pub token_named : (n : Name) (t : Lexeme) (us ws : List Lexeme) → Token kinds.Name t us ws → n ≡ name_of t → AreTexts us → IsWord n.text
token_named n t us ws one is texts = subst IsWord (sym (ap (λ (m : Name). m.text) is)) (token_word t us ws one texts)

more_words : (ns : List Name) (us ws : List Lexeme) → AreMoreNames ns us ws → AreTexts us → AreWords ns
more_words [] us ws h texts = tt
more_words (n ∷ ns) us ws (c, t, vs, xs, comma, one, is, rest) texts =
    let behind = behind_token _ c us vs comma texts in
    (token_named n t vs xs one is behind, more_words ns xs ws rest (behind_token _ t vs xs one behind))

names_words : (ns : List Name) (us ws : List Lexeme) → AreNames ns us ws → AreTexts us → AreWords ns
names_words [] us ws h texts = absurd h
names_words (n ∷ ns) us ws (t, vs, one, is, rest) texts = (token_named n t us vs one is texts, more_words ns vs ws rest (behind_token _ t us vs one texts))

may_be : (kind : TokenKind) (us ws : List Lexeme) → MayBe kind us ws → AreTexts us → AreTexts ws
may_be kind us ws (inl none) texts = subst AreTexts none texts
may_be kind us ws (inr (t, one)) texts = behind_token kind t us ws one texts

behind_key : (k : Option Name) (us ws : List Lexeme) → IsKey k us ws → AreTexts us → AreTexts ws
behind_key None us ws h texts = subst AreTexts h texts
behind_key (Some n) us ws (t, c, vs, one, is, colon) texts = behind_token _ c vs ws colon (behind_token _ t us vs one texts)

module _ (ed : Edition) where
  mutual
    pub type_texts : (a : TypeExpr) (us ws : List Lexeme) → IsType ed a us ws → AreTexts us → TypeHasTexts a × AreTexts ws
    type_texts (named p n) us ws (t, one, at, is) texts = (tt, behind_token _ t us ws one texts)
    type_texts (qualified p m n) us ws (t, e, s, vs, xs, one, dot, two, at, is, also) texts =
        (tt, behind_token _ s xs ws two (behind_token _ e vs xs dot (behind_token _ t us vs one texts)))
    type_texts (array p e a) us ws (o, c, vs, xs, ys, open_one, at, size, close, of) texts =
        let one = expr_texts 5 false e vs xs size (behind_token _ o us vs open_one texts) in
        let two = type_texts a ys ws of (behind_token _ c xs ys close one.1) in
        ((one.0, two.0), two.1)
    type_texts (slice p a) us ws (o, c, vs, xs, has, open_one, at, close, of) texts = type_texts a xs ws of (behind_token _ c vs xs close (behind_token _ o us vs open_one texts))
    type_texts (struct p fs) us ws (k, o, c, vs, xs, ys, word, at, open_one, fields, close) texts =
        let one = fields_texts fs xs ys fields (behind_token _ o vs xs open_one (behind_token _ k us vs word texts)) in
        (one.0, behind_token _ c ys ws close one.1)

    fields_texts : (fs : FieldDecls) (us ws : List Lexeme) → AreFields ed fs us ws → AreTexts us → FieldsHaveTexts fs × AreTexts ws
    fields_texts no_fields us ws h texts = (tt, subst AreTexts h texts)
    fields_texts (field ns a fs) us ws (vs, xs, names, of, inl (t, ys, mark, rest)) texts =
        let one = type_texts a vs xs of (behind_names ns us vs names texts) in
        let two = fields_texts fs ys ws rest (behind_token _ t xs ys mark one.1) in
        ((one.0, two.0, names_words ns us vs names texts), two.1)
    fields_texts (field ns a fs) us ws (vs, xs, names, of, inr (last, same)) texts =
        let one = type_texts a vs xs of (behind_names ns us vs names texts) in
        ((one.0, subst FieldsHaveTexts (sym last) tt, names_words ns us vs names texts), subst AreTexts same one.1)

    pub expr_texts : (n : ℕ) (h : Bool) (e : Expression) (us ws : List Lexeme) → IsExpr ed n h e us ws → AreTexts us → HasTexts e × AreTexts ws
    expr_texts n h (name p x) us ws (t, one, at, is) texts = (tt, behind_token _ t us ws one texts)
    expr_texts n h (integer p x) us ws (t, one, at, is) texts = (tt, behind_token _ t us ws one texts)
    expr_texts n h (rune p z) us ws (t, one, at, is) texts = (tt, behind_token _ t us ws one texts)
    expr_texts n h (string p bytes) us ws (t, one, at, is) texts =
        let both = token_text _ t us ws one texts in
        (string_text t.text bytes both.0 is, both.1)
    expr_texts n h (parenthesized p e) us ws (o, c, vs, xs, open_one, at, inner, close) texts =
        let one = expr_texts 5 false e vs xs inner (behind_token _ o us vs open_one texts) in
        (one.0, behind_token _ c xs ws close one.1)
    expr_texts n h (composite_lit p a q es) us ws (o, c, vs, xs, ys, plain, of, at, open_one, also, parts, close) texts =
        let one = type_texts a us vs of texts in
        let two = elements_texts es xs ys parts (behind_token _ o vs xs open_one one.1) in
        ((one.0, two.0), behind_token _ c ys ws close two.1)
    expr_texts n h (conversion p a e) us ws (o, c, vs, xs, ys, zs, plain, of, at, open_one, inner, comma, close) texts =
        let one = type_texts a us vs of texts in
        let two = expr_texts 5 false e xs ys inner (behind_token _ o vs xs open_one one.1) in
        ((one.0, two.0), behind_token _ c zs ws close (may_be _ ys zs comma two.1))
    expr_texts n h (selector p e f) us ws (s, t, vs, xs, at, primary, inner, dot, one, is) texts =
        let front = expr_texts 0 h e us vs inner texts in
        (front.0, behind_token _ t xs ws one (behind_token _ s vs xs dot front.1))
    expr_texts n h (index p e i) us ws (o, c, vs, xs, ys, at, primary, inner, open_one, number, close) texts =
        let front = expr_texts 0 h e us vs inner texts in
        let two = expr_texts 5 false i xs ys number (behind_token _ o vs xs open_one front.1) in
        ((front.0, two.0), behind_token _ c ys ws close two.1)
    expr_texts n h (cut p e a b) us ws (o, m, c, vs, xs, ys, zs, last, has, at, primary, inner, open_one, low, colon, high, close) texts =
        let front = expr_texts 0 h e us vs inner texts in
        let two = bound_texts a xs ys low (behind_token _ o vs xs open_one front.1) in
        let three = bound_texts b zs last high (behind_token _ m ys zs colon two.1) in
        ((front.0, two.0, three.0), behind_token _ c last ws close three.1)
    expr_texts n h (type_operand p a) us ws is texts = absurd is
    expr_texts n h (call p f es) us ws (o, c, vs, xs, ys, at, primary, inner, open_one, rest, close) texts =
        let front = expr_texts 0 h f us vs inner texts in
        let two = operands_texts es xs ys rest (behind_token _ o vs xs open_one front.1) in
        ((front.0, two.0), behind_token _ c ys ws close two.1)
    expr_texts n h (unary p op e) us ws (t, vs, whole, is, at, inner) texts = (let rest = subst AreTexts whole texts in expr_texts 0 h e vs ws inner rest.1)
    expr_texts n h (binary p op a b) us ws (t, vs, xs, less, at, left, whole, is, right) texts =
        let one = expr_texts _ h a us vs left texts in
        let rest = subst AreTexts whole one.1 in
        let two = expr_texts _ h b xs ws right rest.1 in
        ((one.0, two.0), two.1)

    bound_texts : (b : Bound) (us ws : List Lexeme) → IsBound ed b us ws → AreTexts us → BoundHasTexts b × AreTexts ws
    bound_texts no_bound us ws h texts = (tt, subst AreTexts h texts)
    bound_texts (bound e) us ws h texts = expr_texts 5 false e us ws h texts

    type_operand_texts : (e : Expression) (us ws : List Lexeme) → IsTypeOperand ed e us ws → AreTexts us → HasTexts e × AreTexts ws
    type_operand_texts (type_operand p a) us ws (has, other, is, at) texts = type_texts a us ws is texts
    type_operand_texts e us ws is texts = absurd is

    operands_texts : (es : ExpressionList) (us ws : List Lexeme) → AreOperands ed es us ws → AreTexts us → HaveTexts es × AreTexts ws
    operands_texts no_exprs us ws h texts = (tt, subst AreTexts h texts)
    operands_texts (some_exprs e es) us ws (vs, inl inner, inl (t, xs, mark, rest)) texts =
        let one = expr_texts 5 false e us vs inner texts in
        let two = arguments_texts es xs ws rest (behind_token _ t vs xs mark one.1) in
        ((one.0, two.0), two.1)
    operands_texts (some_exprs e es) us ws (vs, inl inner, inr (last, same)) texts =
        let one = expr_texts 5 false e us vs inner texts in
        ((one.0, subst HaveTexts (sym last) tt), subst AreTexts same one.1)
    operands_texts (some_exprs e es) us ws (vs, inr inner, inl (t, xs, mark, rest)) texts =
        let one = type_operand_texts e us vs inner texts in
        let two = arguments_texts es xs ws rest (behind_token _ t vs xs mark one.1) in
        ((one.0, two.0), two.1)
    operands_texts (some_exprs e es) us ws (vs, inr inner, inr (last, same)) texts =
        let one = type_operand_texts e us vs inner texts in
        ((one.0, subst HaveTexts (sym last) tt), subst AreTexts same one.1)

    arguments_texts : (es : ExpressionList) (us ws : List Lexeme) → AreArguments ed es us ws → AreTexts us → HaveTexts es × AreTexts ws
    arguments_texts no_exprs us ws h texts = (tt, subst AreTexts h texts)
    arguments_texts (some_exprs e es) us ws (vs, inner, inl (t, xs, mark, rest)) texts =
        let one = expr_texts 5 false e us vs inner texts in
        let two = arguments_texts es xs ws rest (behind_token _ t vs xs mark one.1) in
        ((one.0, two.0), two.1)
    arguments_texts (some_exprs e es) us ws (vs, inner, inr (last, same)) texts =
        let one = expr_texts 5 false e us vs inner texts in
        ((one.0, subst HaveTexts (sym last) tt), subst AreTexts same one.1)

    elements_texts : (es : Elements) (us ws : List Lexeme) → AreElements ed es us ws → AreTexts us → ElementsHaveTexts es × AreTexts ws
    elements_texts no_elements us ws h texts = (tt, subst AreTexts h texts)
    elements_texts (element k e es) us ws (vs, xs, key, inner, inl (t, ys, mark, rest)) texts =
        let one = element_texts e vs xs inner (behind_key k us vs key texts) in
        let two = elements_texts es ys ws rest (behind_token _ t xs ys mark one.1) in
        ((one.0, two.0), two.1)
    elements_texts (element k e es) us ws (vs, xs, key, inner, inr (last, same)) texts =
        let one = element_texts e vs xs inner (behind_key k us vs key texts) in
        ((one.0, subst ElementsHaveTexts (sym last) tt), subst AreTexts same one.1)

    element_texts : (e : Element) (us ws : List Lexeme) → IsElement ed e us ws → AreTexts us → ElementHasTexts e × AreTexts ws
    element_texts (expression_element e) us ws h texts = expr_texts 5 false e us ws h texts
    element_texts (value_element p es) us ws (o, c, vs, xs, open_one, at, parts, close) texts =
        let one = elements_texts es vs xs parts (behind_token _ o us vs open_one texts) in
        (one.0, behind_token _ c xs ws close one.1)

  -- lists of expressions
  more_exprs : (h : Bool) (es : ExpressionList) (us ws : List Lexeme) → AreMoreExprs ed h es us ws → AreTexts us → HaveTexts es × AreTexts ws
  more_exprs h no_exprs us ws is texts = (tt, subst AreTexts is texts)
  more_exprs h (some_exprs e es) us ws (c, vs, xs, comma, inner, rest) texts =
      let one = expr_texts 5 h e vs xs inner (behind_token _ c us vs comma texts) in
      let two = more_exprs h es xs ws rest one.1 in
      ((one.0, two.0), two.1)

  pub exprs_texts : (h : Bool) (es : ExpressionList) (us ws : List Lexeme) → AreExprs ed h es us ws → AreTexts us → HaveTexts es × AreTexts ws
  exprs_texts h no_exprs us ws is texts = absurd is
  exprs_texts h (some_exprs e es) us ws (vs, inner, rest) texts =
      let one = expr_texts 5 h e us vs inner texts in
      let two = more_exprs h es vs ws rest one.1 in
      ((one.0, two.0), two.1)
