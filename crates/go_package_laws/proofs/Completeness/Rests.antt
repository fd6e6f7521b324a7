-- What stands behind a form is a rest of the tokens that the form begins with.
use Rattle.std.proofs.Common.{◌≡◌, ℕ, suc, inl, inr, Bool, true, false, List, [], ◌∷◌, ◌++◌, append_assoc, Option, Some, None, sym, ap, ◌∙◌}
use Rattle.go_text.specs.declared.edition.Edition.{Edition}
use Rattle.go_scan.specs.declared.token.TokenKind.{TokenKind}
use Rattle.go_ast.specs.Trees.{Name, TypeExpr, named, qualified, array, slice, struct, FieldDecls, no_fields, field, Expression, name, integer, rune, string, parenthesized, composite_lit, conversion, selector, index, cut, Bound, no_bound, bound, call, type_operand, unary, binary, ExpressionList, no_exprs, some_exprs, Elements, no_elements, element, Element, expression_element, value_element, Simple, call_statement, increment, decrement, assignment, operator_assignment, short_var_decl}
use Rattle.go_ast.specs.Operators.{tighter}
use Rattle.go_ast.specs.Grammar as grammar
use Rattle.go_ast.specs.Grammar.{Lexeme, Token, Behind, AreItems, AreMoreNames, AreNames, MayBe, IsKey, IsType, AreFields, IsExpr, IsBound, IsTypeOperand, AreOperands, AreArguments, AreElements, IsElement, AreMoreExprs, AreExprs, IsSimple, IsType?, IsExpr?, IsSimple?, AreValues}

pub record Rest (us ws : List Lexeme) : Type 0 where
  pub front : List Lexeme
  pub whole : us ≡ front ++ ws

pub none : {us ws : List Lexeme} → us ≡ ws → Rest us ws
none same = record { front = []; whole = same }

pub one : {us ws : List Lexeme} (t : Lexeme) → us ≡ t ∷ ws → Rest us ws
one t same = record { front = t ∷ []; whole = same }

pub token : {kind : TokenKind} {t : Lexeme} {us ws : List Lexeme} → Token kind t us ws → Rest us ws
token {kind} {t} is = one t is.whole

pub next : {us vs ws : List Lexeme} → Rest us vs → Rest vs ws → Rest us ws
next {us} {vs} {ws} a b = record { front = a.front ++ b.front; whole = a.whole ∙ ap (λ l. a.front ++ l) b.whole ∙ sym (append_assoc a.front b.front ws) }

-- ---- lists

pub behind_rest : (separator : TokenKind) (Others : List Lexeme → List Lexeme → Type 0) (Last : Type 0) (us ws : List Lexeme) → ((vs : List Lexeme) → Others vs ws → Rest vs ws) → Behind separator Others Last us ws → Rest us ws
behind_rest separator Others Last us ws each (inl (t, vs, is, others)) = next (token is) (each vs others)
behind_rest separator Others Last us ws each (inr (last, same)) = none same

pub items_rest : {A : Type 0} (Is : A → List Lexeme → List Lexeme → Type 0) → ((x : A) (us ws : List Lexeme) → Is x us ws → Rest us ws) → (separator : TokenKind) (xs : List A) (us ws : List Lexeme) → AreItems Is separator xs us ws → Rest us ws
items_rest Is each separator [] us ws h = none h
items_rest Is each separator (x ∷ xs) us ws (vs, is, behind) = next (each x us vs is) (elim behind [
  | inl h ↦ next (token h.2) (items_rest Is each separator xs h.1 ws h.3)
  | inr h ↦ none h.1
])

more_names_rest : (ns : List Name) (us ws : List Lexeme) → AreMoreNames ns us ws → Rest us ws
more_names_rest [] us ws h = none h
more_names_rest (n ∷ ns) us ws (c, t, vs, xs, comma, is, spelled, more) = next (token comma) (next (token is) (more_names_rest ns xs ws more))

pub names_rest : (ns : List Name) (us ws : List Lexeme) → AreNames ns us ws → Rest us ws
names_rest [] us ws h = absurd h
names_rest (n ∷ ns) us ws (t, vs, is, spelled, more) = next (token is) (more_names_rest ns vs ws more)

may_be_rest : (kind : TokenKind) (us ws : List Lexeme) → MayBe kind us ws → Rest us ws
may_be_rest kind us ws (inl same) = none same
may_be_rest kind us ws (inr (t, is)) = token is

key_rest : (key : Option Name) (us ws : List Lexeme) → IsKey key us ws → Rest us ws
key_rest None us ws h = none h
key_rest (Some n) us ws (t, c, vs, is, spelled, colon) = next (token is) (token colon)

module _ (ed : Edition) where
  -- ---- types and expressions

  mutual
    pub type_rest : (t : TypeExpr) (us ws : List Lexeme) → IsType ed t us ws → Rest us ws
    type_rest (named p n) us ws (t, is, place, spelled) = token is
    type_rest (qualified p m n) us ws (t, d, s, vs, xs, is, dot, last, place, first, second) = next (token is) (next (token dot) (token last))
    type_rest (array p e a) us ws (o, c, vs, xs, ys, opens, place, size, closes, of) = next (token opens) (next (expr_rest 5 false e vs xs size) (next (token closes) (type_rest a ys ws of)))
    type_rest (slice p a) us ws (o, c, vs, xs, may, opens, place, closes, of) = next (token opens) (next (token closes) (type_rest a xs ws of))
    type_rest (struct p fs) us ws (k, o, c, vs, xs, ys, is, place, opens, fields, closes) = next (token is) (next (token opens) (next (fields_rest fs xs ys fields) (token closes)))

    fields_rest : (fs : FieldDecls) (us ws : List Lexeme) → AreFields ed fs us ws → Rest us ws
    fields_rest no_fields us ws h = none h
    fields_rest (field ns a fs) us ws (vs, xs, names, is, behind) = next (names_rest ns us vs names) (next (type_rest a vs xs is) (elim behind [
      | inl h ↦ next (token h.2) (fields_rest fs h.1 ws h.3)
      | inr h ↦ none h.1
    ]))

    pub expr_rest : (n : ℕ) (h : Bool) (e : Expression) (us ws : List Lexeme) → IsExpr ed n h e us ws → Rest us ws
    expr_rest n h (name p x) us ws (t, is, place, text) = token is
    expr_rest n h (integer p x) us ws (t, is, place, text) = token is
    expr_rest n h (rune p x) us ws (t, is, place, text) = token is
    expr_rest n h (string p x) us ws (t, is, place, text) = token is
    expr_rest n h (parenthesized p e) us ws (o, c, vs, xs, opens, place, is, closes) = next (token opens) (next (expr_rest 5 false e vs xs is) (token closes))
    expr_rest n h (composite_lit p a q es) us ws (o, c, vs, xs, ys, may, is, place, opens, brace, elements, closes) =
        next (type_rest a us vs is) (next (token opens) (next (elements_rest es xs ys elements) (token closes)))
    expr_rest n h (conversion p a e) us ws (o, c, vs, xs, ys, zs, may, is, place, opens, of, comma, closes) =
        next (type_rest a us vs is) (next (token opens) (next (expr_rest 5 false e xs ys of) (next (may_be_rest grammar.comma ys zs comma) (token closes))))
    expr_rest n h (selector p e f) us ws (d, t, vs, xs, place, primary, is, dot, last, spelled) = next (expr_rest 0 h e us vs is) (next (token dot) (token last))
    expr_rest n h (index p e i) us ws (o, c, vs, xs, ys, place, primary, is, opens, at, closes) =
        next (expr_rest 0 h e us vs is) (next (token opens) (next (expr_rest 5 false i xs ys at) (token closes)))
    expr_rest n h (cut p e a b) us ws (o, m, c, vs, xs, ys, zs, zs', may, place, primary, is, opens, low, colon, high, closes) =
        next (expr_rest 0 h e us vs is) (next (token opens) (next (bound_rest a xs ys low) (next (token colon) (next (bound_rest b zs zs' high) (token closes)))))
    expr_rest n h (type_operand p t) us ws k = absurd k
    expr_rest n h (call p f es) us ws (o, c, vs, xs, ys, place, primary, is, opens, operands, closes) =
        next (expr_rest 0 h f us vs is) (next (token opens) (next (operands_rest es xs ys operands) (token closes)))
    expr_rest n h (unary p op e) us ws (t, vs, first, operator, place, is) = next (one t first) (expr_rest 0 h e vs ws is)
    expr_rest n h (binary p op a b) us ws (t, vs, xs, low, place, left, first, operator, right) = next (expr_rest (suc (tighter op)) h a us vs left) (next (one t first) (expr_rest (tighter op) h b xs ws right))

    bound_rest : (b : Bound) (us ws : List Lexeme) → IsBound ed b us ws → Rest us ws
    bound_rest no_bound us ws h = none h
    bound_rest (bound e) us ws h = expr_rest 5 false e us ws h

    operand_rest : (e : Expression) (us ws : List Lexeme) → IsTypeOperand ed e us ws → Rest us ws
    operand_rest (type_operand p a) us ws (may, other, is, place) = type_rest a us ws is
    operand_rest (name p x) us ws h = absurd h
    operand_rest (integer p x) us ws h = absurd h
    operand_rest (rune p x) us ws h = absurd h
    operand_rest (string p x) us ws h = absurd h
    operand_rest (parenthesized p e) us ws h = absurd h
    operand_rest (composite_lit p a q es) us ws h = absurd h
    operand_rest (conversion p a e) us ws h = absurd h
    operand_rest (selector p e f) us ws h = absurd h
    operand_rest (index p e i) us ws h = absurd h
    operand_rest (cut p e a b) us ws h = absurd h
    operand_rest (call p f es) us ws h = absurd h
    operand_rest (unary p op e) us ws h = absurd h
    operand_rest (binary p op a b) us ws h = absurd h

    operands_rest : (es : ExpressionList) (us ws : List Lexeme) → AreOperands ed es us ws → Rest us ws
    operands_rest no_exprs us ws h = none h
    operands_rest (some_exprs e es) us ws (vs, first, behind) =
        let front : Rest us vs = elim first [ inl is ↦ expr_rest 5 false e us vs is | inr is ↦ operand_rest e us vs is ] in
        next front (elim behind [
          | inl h ↦ next (token h.2) (arguments_rest es h.1 ws h.3)
          | inr h ↦ none h.1
        ])

    arguments_rest : (es : ExpressionList) (us ws : List Lexeme) → AreArguments ed es us ws → Rest us ws
    arguments_rest no_exprs us ws h = none h
    arguments_rest (some_exprs e es) us ws (vs, is, behind) = next (expr_rest 5 false e us vs is) (elim behind [
      | inl h ↦ next (token h.2) (arguments_rest es h.1 ws h.3)
      | inr h ↦ none h.1
    ])

    elements_rest : (es : Elements) (us ws : List Lexeme) → AreElements ed es us ws → Rest us ws
    elements_rest no_elements us ws h = none h
    elements_rest (element k e es) us ws (vs, xs, key, is, behind) = next (key_rest k us vs key) (next (element_rest e vs xs is) (elim behind [
      | inl h ↦ next (token h.2) (elements_rest es h.1 ws h.3)
      | inr h ↦ none h.1
    ]))

    element_rest : (e : Element) (us ws : List Lexeme) → IsElement ed e us ws → Rest us ws
    element_rest (expression_element e) us ws h = expr_rest 5 false e us ws h
    element_rest (value_element p es) us ws (o, c, vs, xs, opens, place, elements, closes) = next (token opens) (next (elements_rest es vs xs elements) (token closes))

  more_exprs_rest : (h : Bool) (es : ExpressionList) (us ws : List Lexeme) → AreMoreExprs ed h es us ws → Rest us ws
  more_exprs_rest h no_exprs us ws k = none k
  more_exprs_rest h (some_exprs e es) us ws (c, vs, xs, comma, is, more) = next (token comma) (next (expr_rest 5 h e vs xs is) (more_exprs_rest h es xs ws more))

  pub exprs_rest : (h : Bool) (es : ExpressionList) (us ws : List Lexeme) → AreExprs ed h es us ws → Rest us ws
  exprs_rest h no_exprs us ws k = absurd k
  exprs_rest h (some_exprs e es) us ws (vs, is, more) = next (expr_rest 5 h e us vs is) (more_exprs_rest h es vs ws more)

  pub maybe_type : (t : Option TypeExpr) (us ws : List Lexeme) → IsType? ed t us ws → Rest us ws
  maybe_type None us ws h = none h
  maybe_type (Some t) us ws h = type_rest t us ws h

  pub maybe_expr : (e : Option Expression) (us ws : List Lexeme) → IsExpr? ed e us ws → Rest us ws
  maybe_expr None us ws h = none h
  maybe_expr (Some e) us ws h = expr_rest 5 true e us ws h

  pub values_rest : (es : ExpressionList) (us ws : List Lexeme) → AreValues ed es us ws → Rest us ws
  values_rest es us ws (t, vs, is, exprs) = next (token is) (exprs_rest false es vs ws exprs)

  -- ---- statements

  pub simple_rest : (h : Bool) (s : Simple) (us ws : List Lexeme) → IsSimple ed h s us ws → Rest us ws
  simple_rest h (call_statement e) us ws (is, called) = expr_rest 5 h e us ws is
  simple_rest h (increment e) us ws (t, vs, is, last) = next (expr_rest 5 h e us vs is) (token last)
  simple_rest h (decrement e) us ws (t, vs, is, last) = next (expr_rest 5 h e us vs is) (token last)
  simple_rest h (assignment ls rs) us ws (t, vs, xs, left, is, right) = next (exprs_rest h ls us vs left) (next (token is) (exprs_rest h rs xs ws right))
  simple_rest h (operator_assignment op l r) us ws (t, vs, xs, left, first, operator, right) = next (expr_rest 5 h l us vs left) (next (one t first) (expr_rest 5 h r xs ws right))
  simple_rest h (short_var_decl ns rs) us ws (t, vs, xs, names, is, right) = next (names_rest ns us vs names) (next (token is) (exprs_rest h rs xs ws right))

  pub maybe_simple : (s : Option Simple) (us ws : List Lexeme) → IsSimple? ed s us ws → Rest us ws
  maybe_simple None us ws h = none h
  maybe_simple (Some s) us ws h = simple_rest true s us ws h
