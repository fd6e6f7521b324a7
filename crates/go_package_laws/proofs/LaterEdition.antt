-- What tokens are in an edition they are in one that has slices where the first has them.
use Rattle.std.proofs.Common.{◌≡◌, ℕ, suc, Bool, true, false, List, [], ◌∷◌, Option, None, Some, inl, inr}
use Rattle.go_text.specs.declared.edition.Edition.{Edition}
use Rattle.go_text.specs.declared.place.Place.{Place}
use Rattle.go_text.specs.Editions.{has_slices}
use Rattle.go_scan.specs.declared.token.TokenKind.{TokenKind}
use Rattle.go_ast.specs.Grammar.{Lexeme, Behind, AreItems, IsGroup, IsType, AreFields, IsExpr, IsBound, IsTypeOperand, AreOperands, AreArguments, AreElements, IsElement, AreMoreExprs, AreExprs, IsSimple, IsType?, IsExpr?, IsSimple?, AreValues, IsConstSpec, IsVarSpec, IsTypeSpec, IsDecl, IsStart, IsForHead, IsCase, IsStmt, IsBlock, IsIf, IsElse, AreStmts, AreClauses, is_last, IsParameter, AreResults, IsFunction, IsTopLevel, AreTopLevels, IsFile, Derives}
use Rattle.go_ast.specs.Trees.{TypeExpr, named, qualified, array, slice, struct, FieldDecls, no_fields, field, Expression, name, integer, rune, string, parenthesized, composite_lit, conversion, selector, index, cut, Bound, no_bound, bound, call, type_operand, unary, binary, ExpressionList, no_exprs, some_exprs, Elements, no_elements, element, Element, expression_element, value_element, Simple, call_statement, increment, decrement, assignment, operator_assignment, short_var_decl, ConstSpec, VarSpec, TypeSpec, Decl, constants, variables, types, Statement, empty, declaration, simple, return, break, continue, fallthrough, block_statement, if_statement, for_statement, range_statement, switch_statement, Block, block, If, conditional, Else, no_else, else_block, else_if, StatementList, no_stmts, some_stmts, Cases, no_clauses, clause, Parameter, FunctionDecl, TopLevel, declared, function, File}
use Rattle.go_ast.specs.Operators.{tighter}

behind_moves : (separator : TokenKind) (O P : List Lexeme → List Lexeme → Type 0) (Last : Type 0) → ((us ws : List Lexeme) → O us ws → P us ws) → (us ws : List Lexeme) → Behind separator O Last us ws → Behind separator P Last us ws
behind_moves separator O P Last to us ws (inl (t, vs, mark, others)) = inl (t, vs, mark, to vs ws others)
behind_moves separator O P Last to us ws (inr last) = inr last

items_move : {A : Type 0} (O P : A → List Lexeme → List Lexeme → Type 0) (separator : TokenKind) → ((x : A) (us ws : List Lexeme) → O x us ws → P x us ws) → (xs : List A) (us ws : List Lexeme) → AreItems O separator xs us ws → AreItems P separator xs us ws
items_move O P separator to [] us ws h = h
items_move O P separator to (x ∷ xs) us ws (vs, one, rest) = (vs, to x us vs one, behind_moves separator (AreItems O separator xs) (AreItems P separator xs) (xs ≡ []) (items_move O P separator to xs) vs ws rest)

group_moves : {A : Type 0} (O P : A → List Lexeme → List Lexeme → Type 0) → ((x : A) (us ws : List Lexeme) → O x us ws → P x us ws) → (ss : List A) (us ws : List Lexeme) → IsGroup O ss us ws → IsGroup P ss us ws
group_moves O P to ss us ws (inl (s, is, one)) = inl (s, is, to s us ws one)
group_moves O P to ss us ws (inr (o, c, vs, xs, bracket, items, close)) = inr (o, c, vs, xs, bracket, items_move O P _ to ss vs xs items, close)

module _ (e f : Edition) (later : has_slices e ≡ true → has_slices f ≡ true) where
  mutual
    type_moves : (a : TypeExpr) (us ws : List Lexeme) → IsType e a us ws → IsType f a us ws
    type_moves (named p n) us ws h = h
    type_moves (qualified p m n) us ws h = h
    type_moves (array p x a) us ws (o, c, vs, xs, ys, bracket, at, size, close, of) = (o, c, vs, xs, ys, bracket, at, expr_moves x 5 false vs xs size, close, type_moves a ys ws of)
    type_moves (slice p a) us ws (o, c, vs, xs, has, bracket, at, close, of) = (o, c, vs, xs, later has, bracket, at, close, type_moves a xs ws of)
    type_moves (struct p fs) us ws (k, o, c, vs, xs, ys, word, at, bracket, fields, close) = (k, o, c, vs, xs, ys, word, at, bracket, fields_move fs xs ys fields, close)

    fields_move : (fs : FieldDecls) (us ws : List Lexeme) → AreFields e fs us ws → AreFields f fs us ws
    fields_move no_fields us ws h = h
    fields_move (field ns a fs) us ws (vs, xs, names, of, rest) = (vs, xs, names, type_moves a vs xs of, behind_moves _ (AreFields e fs) (AreFields f fs) (fs ≡ no_fields) (fields_move fs) xs ws rest)

    expr_moves : (x : Expression) (n : ℕ) (h : Bool) (us ws : List Lexeme) → IsExpr e n h x us ws → IsExpr f n h x us ws
    expr_moves (name p text) n h us ws is = is
    expr_moves (integer p text) n h us ws is = is
    expr_moves (rune p value) n h us ws is = is
    expr_moves (string p value) n h us ws is = is
    expr_moves (parenthesized p x) n h us ws (o, c, vs, xs, bracket, at, inner, close) = (o, c, vs, xs, bracket, at, expr_moves x 5 false vs xs inner, close)
    expr_moves (composite_lit p a q es) n h us ws (o, c, vs, xs, ys, header, of, at, bracket, brace, elements, close) =
        (o, c, vs, xs, ys, header, type_moves a us vs of, at, bracket, brace, elements_move es xs ys elements, close)
    expr_moves (conversion p a x) n h us ws (o, c, vs, xs, ys, zs, may, of, at, bracket, inner, comma, close) =
        (o, c, vs, xs, ys, zs, may, type_moves a us vs of, at, bracket, expr_moves x 5 false xs ys inner, comma, close)
    expr_moves (selector p x m) n h us ws (d, t, vs, xs, at, primary, inner, period, word, is) = (d, t, vs, xs, at, primary, expr_moves x 0 h us vs inner, period, word, is)
    expr_moves (index p x i) n h us ws (o, c, vs, xs, ys, at, primary, inner, bracket, number, close) =
        (o, c, vs, xs, ys, at, primary, expr_moves x 0 h us vs inner, bracket, expr_moves i 5 false xs ys number, close)
    expr_moves (cut p x a b) n h us ws (o, m, c, vs, xs, ys, zs, zs', has, at, primary, inner, bracket, low, colon, high, close) =
        (o, m, c, vs, xs, ys, zs, zs', later has, at, primary, expr_moves x 0 h us vs inner, bracket, bound_moves a xs ys low, colon, bound_moves b zs zs' high, close)
    expr_moves (type_operand p t) n h us ws is = is
    expr_moves (call p x es) n h us ws (o, c, vs, xs, ys, at, primary, inner, bracket, operands, close) =
        (o, c, vs, xs, ys, at, primary, expr_moves x 0 h us vs inner, bracket, operands_move es xs ys operands, close)
    expr_moves (unary p op x) n h us ws (t, vs, whole, is, at, inner) = (t, vs, whole, is, at, expr_moves x 0 h vs ws inner)
    expr_moves (binary p op a b) n h us ws (t, vs, xs, levels, at, left, whole, is, right) =
        (t, vs, xs, levels, at, expr_moves a (suc (tighter op)) h us vs left, whole, is, expr_moves b (tighter op) h xs ws right)

    bound_moves : (b : Bound) (us ws : List Lexeme) → IsBound e b us ws → IsBound f b us ws
    bound_moves no_bound us ws h = h
    bound_moves (bound x) us ws h = expr_moves x 5 false us ws h

    operand_moves : (x : Expression) (us ws : List Lexeme) → IsTypeOperand e x us ws → IsTypeOperand f x us ws
    operand_moves (type_operand p a) us ws (has, other, of, at) = (later has, other, type_moves a us ws of, at)
    operand_moves (name p text) us ws h = absurd h
    operand_moves (integer p text) us ws h = absurd h
    operand_moves (rune p value) us ws h = absurd h
    operand_moves (string p value) us ws h = absurd h
    operand_moves (parenthesized p x) us ws h = absurd h
    operand_moves (composite_lit p a q es) us ws h = absurd h
    operand_moves (conversion p a x) us ws h = absurd h
    operand_moves (selector p x m) us ws h = absurd h
    operand_moves (index p x i) us ws h = absurd h
    operand_moves (cut p x a b) us ws h = absurd h
    operand_moves (call p x es) us ws h = absurd h
    operand_moves (unary p op x) us ws h = absurd h
    operand_moves (binary p op a b) us ws h = absurd h

    operands_move : (es : ExpressionList) (us ws : List Lexeme) → AreOperands e es us ws → AreOperands f es us ws
    operands_move no_exprs us ws h = h
    operands_move (some_exprs x es) us ws (vs, inl one, rest) = (vs, inl (expr_moves x 5 false us vs one), behind_moves _ (AreArguments e es) (AreArguments f es) (es ≡ no_exprs) (arguments_move es) vs ws rest)
    operands_move (some_exprs x es) us ws (vs, inr one, rest) = (vs, inr (operand_moves x us vs one), behind_moves _ (AreArguments e es) (AreArguments f es) (es ≡ no_exprs) (arguments_move es) vs ws rest)

    arguments_move : (es : ExpressionList) (us ws : List Lexeme) → AreArguments e es us ws → AreArguments f es us ws
    arguments_move no_exprs us ws h = h
    arguments_move (some_exprs x es) us ws (vs, one, rest) = (vs, expr_moves x 5 false us vs one, behind_moves _ (AreArguments e es) (AreArguments f es) (es ≡ no_exprs) (arguments_move es) vs ws rest)

    elements_move : (es : Elements) (us ws : List Lexeme) → AreElements e es us ws → AreElements f es us ws
    elements_move no_elements us ws h = h
    elements_move (element k x es) us ws (vs, xs, key, one, rest) = (vs, xs, key, element_moves x vs xs one, behind_moves _ (AreElements e es) (AreElements f es) (es ≡ no_elements) (elements_move es) xs ws rest)

    element_moves : (x : Element) (us ws : List Lexeme) → IsElement e x us ws → IsElement f x us ws
    element_moves (expression_element x) us ws h = expr_moves x 5 false us ws h
    element_moves (value_element p es) us ws (o, c, vs, xs, bracket, at, elements, close) = (o, c, vs, xs, bracket, at, elements_move es vs xs elements, close)

  more_exprs_move : (h : Bool) (es : ExpressionList) (us ws : List Lexeme) → AreMoreExprs e h es us ws → AreMoreExprs f h es us ws
  more_exprs_move h no_exprs us ws is = is
  more_exprs_move h (some_exprs x es) us ws (c, vs, xs, comma, one, rest) = (c, vs, xs, comma, expr_moves x 5 h vs xs one, more_exprs_move h es xs ws rest)

  exprs_move : (h : Bool) (es : ExpressionList) (us ws : List Lexeme) → AreExprs e h es us ws → AreExprs f h es us ws
  exprs_move h no_exprs us ws is = is
  exprs_move h (some_exprs x es) us ws (vs, one, rest) = (vs, expr_moves x 5 h us vs one, more_exprs_move h es vs ws rest)

  simple_moves : (h : Bool) (s : Simple) (us ws : List Lexeme) → IsSimple e h s us ws → IsSimple f h s us ws
  simple_moves h (call_statement x) us ws (one, is) = (expr_moves x 5 h us ws one, is)
  simple_moves h (increment x) us ws (t, vs, one, mark) = (t, vs, expr_moves x 5 h us vs one, mark)
  simple_moves h (decrement x) us ws (t, vs, one, mark) = (t, vs, expr_moves x 5 h us vs one, mark)
  simple_moves h (assignment ls rs) us ws (t, vs, xs, left, mark, right) = (t, vs, xs, exprs_move h ls us vs left, mark, exprs_move h rs xs ws right)
  simple_moves h (operator_assignment op l r) us ws (t, vs, xs, left, whole, is, right) = (t, vs, xs, expr_moves l 5 h us vs left, whole, is, expr_moves r 5 h xs ws right)
  simple_moves h (short_var_decl ns rs) us ws (t, vs, xs, names, mark, right) = (t, vs, xs, names, mark, exprs_move h rs xs ws right)

  some_type_moves : (a : Option TypeExpr) (us ws : List Lexeme) → IsType? e a us ws → IsType? f a us ws
  some_type_moves None us ws h = h
  some_type_moves (Some a) us ws h = type_moves a us ws h

  some_expr_moves : (x : Option Expression) (us ws : List Lexeme) → IsExpr? e x us ws → IsExpr? f x us ws
  some_expr_moves None us ws h = h
  some_expr_moves (Some x) us ws h = expr_moves x 5 true us ws h

  some_simple_moves : (s : Option Simple) (us ws : List Lexeme) → IsSimple? e s us ws → IsSimple? f s us ws
  some_simple_moves None us ws h = h
  some_simple_moves (Some s) us ws h = simple_moves true s us ws h

  values_move : (es : ExpressionList) (us ws : List Lexeme) → AreValues e es us ws → AreValues f es us ws
  values_move es us ws (t, vs, mark, values) = (t, vs, mark, exprs_move false es vs ws values)

  const_moves : (s : ConstSpec) (us ws : List Lexeme) → IsConstSpec e s us ws → IsConstSpec f s us ws
  const_moves s us ws (vs, names, inl none) = (vs, names, inl none)
  const_moves s us ws (vs, names, inr (xs, of, values)) = (vs, names, inr (xs, some_type_moves s.type vs xs of, values_move s.values xs ws values))

  var_moves : (s : VarSpec) (us ws : List Lexeme) → IsVarSpec e s us ws → IsVarSpec f s us ws
  var_moves s us ws (vs, names, inl (a, is, none, of)) = (vs, names, inl (a, is, none, type_moves a vs ws of))
  var_moves s us ws (vs, names, inr (xs, of, values)) = (vs, names, inr (xs, some_type_moves s.type vs xs of, values_move s.values xs ws values))

  type_spec_moves : (s : TypeSpec) (us ws : List Lexeme) → IsTypeSpec e s us ws → IsTypeSpec f s us ws
  type_spec_moves s us ws (t, vs, word, is, of) = (t, vs, word, is, type_moves s.type vs ws of)

  decl_moves : (d : Decl) (us ws : List Lexeme) → IsDecl e d us ws → IsDecl f d us ws
  decl_moves (constants p ss) us ws (k, vs, word, at, group) = (k, vs, word, at, group_moves (IsConstSpec e) (IsConstSpec f) const_moves ss vs ws group)
  decl_moves (variables p ss) us ws (k, vs, word, at, group) = (k, vs, word, at, group_moves (IsVarSpec e) (IsVarSpec f) var_moves ss vs ws group)
  decl_moves (types p ss) us ws (k, vs, word, at, group) = (k, vs, word, at, group_moves (IsTypeSpec e) (IsTypeSpec f) type_spec_moves ss vs ws group)

  start_moves : (s : Option Simple) (us ws : List Lexeme) → IsStart e s us ws → IsStart f s us ws
  start_moves None us ws h = h
  start_moves (Some s) us ws (t, vs, one, mark) = (t, vs, simple_moves true s us vs one, mark)

  head_moves : (i : Option Simple) (c : Option Expression) (n : Option Simple) (us ws : List Lexeme) → IsForHead e i c n us ws → IsForHead f i c n us ws
  head_moves i c n us ws (inl (none, also, condition)) = inl (none, also, some_expr_moves c us ws condition)
  head_moves i c n us ws (inr (t, r, vs, xs, ys, zs, first, mark, condition, second, post, other)) =
      inr (t, r, vs, xs, ys, zs, some_simple_moves i us vs first, mark, some_expr_moves c xs ys condition, second, some_simple_moves n zs ws post, other)

  case_moves : (p : Place) (es : Option ExpressionList) (us ws : List Lexeme) → IsCase e p es us ws → IsCase f p es us ws
  case_moves p None us ws h = h
  case_moves p (Some es) us ws (t, vs, word, at, values) = (t, vs, word, at, exprs_move false es vs ws values)

  mutual
    stmt_moves : (s : Statement) (us ws : List Lexeme) → IsStmt e s us ws → IsStmt f s us ws
    stmt_moves (empty p) us ws h = h
    stmt_moves (declaration p d) us ws (one, at, local) = (decl_moves d us ws one, at, local)
    stmt_moves (simple p s) us ws (one, at) = (simple_moves false s us ws one, at)
    stmt_moves (return p es) us ws (t, vs, word, at, inl none) = (t, vs, word, at, inl none)
    stmt_moves (return p es) us ws (t, vs, word, at, inr values) = (t, vs, word, at, inr (exprs_move false es vs ws values))
    stmt_moves (break p) us ws h = h
    stmt_moves (continue p) us ws h = h
    stmt_moves (fallthrough p) us ws h = h
    stmt_moves (block_statement b) us ws h = block_moves b us ws h
    stmt_moves (if_statement i) us ws h = if_moves i us ws h
    stmt_moves (for_statement p i c n b) us ws (t, vs, xs, word, at, head, body) = (t, vs, xs, word, at, head_moves i c n vs xs head, block_moves b xs ws body)
    stmt_moves (range_statement p n x b) us ws (t, r, vs, xs, ys, zs, word, at, names, range, operand, body) =
        (t, r, vs, xs, ys, zs, word, at, names, range, expr_moves x 5 true ys zs operand, block_moves b zs ws body)
    stmt_moves (switch_statement p i t cs) us ws (k, o, c, vs, xs, ys, zs, zs', word, at, start, tag, bracket, clauses, close) =
        (k, o, c, vs, xs, ys, zs, zs', word, at, start_moves i vs xs start, some_expr_moves t xs ys tag, bracket, clauses_move cs zs zs' clauses, close)

    block_moves : (b : Block) (us ws : List Lexeme) → IsBlock e b us ws → IsBlock f b us ws
    block_moves (block p ss q) us ws (o, c, vs, xs, bracket, at, inner, close, end) = (o, c, vs, xs, bracket, at, stmts_move true ss vs xs inner, close, end)

    if_moves : (i : If) (us ws : List Lexeme) → IsIf e i us ws → IsIf f i us ws
    if_moves (conditional p i x b r) us ws (t, vs, xs, ys, zs, word, at, start, condition, body, other) =
        (t, vs, xs, ys, zs, word, at, start_moves i vs xs start, expr_moves x 5 true xs ys condition, block_moves b ys zs body, else_moves r zs ws other)

    else_moves : (r : Else) (us ws : List Lexeme) → IsElse e r us ws → IsElse f r us ws
    else_moves no_else us ws h = h
    else_moves (else_block b) us ws (t, vs, word, body) = (t, vs, word, block_moves b vs ws body)
    else_moves (else_if i) us ws (t, vs, word, other) = (t, vs, word, if_moves i vs ws other)

    stmts_move : (closed : Bool) (ss : StatementList) (us ws : List Lexeme) → AreStmts e closed ss us ws → AreStmts f closed ss us ws
    stmts_move closed no_stmts us ws h = h
    stmts_move closed (some_stmts s ss) us ws (vs, one, rest) =
        (vs, stmt_moves s us vs one, behind_moves _ (AreStmts e closed ss) (AreStmts f closed ss) ((ss ≡ no_stmts) × (closed ≡ true)) (stmts_move closed ss) vs ws rest)

    clauses_move : (cs : Cases) (us ws : List Lexeme) → AreClauses e cs us ws → AreClauses f cs us ws
    clauses_move no_clauses us ws h = h
    clauses_move (clause p es ss cs) us ws (t, vs, xs, ys, case, mark, inner, rest) =
        (t, vs, xs, ys, case_moves p es us vs case, mark, stmts_move (is_last cs) ss xs ys inner, clauses_move cs ys ws rest)

  parameter_moves : (p : Parameter) (us ws : List Lexeme) → IsParameter e p us ws → IsParameter f p us ws
  parameter_moves p us ws (vs, names, of) = (vs, names, type_moves p.type vs ws of)

  results_move : (rs : List TypeExpr) (us ws : List Lexeme) → AreResults e rs us ws → AreResults f rs us ws
  results_move rs us ws (inl none) = inl none
  results_move rs us ws (inr (inl (a, is, of))) = inr (inl (a, is, type_moves a us ws of))
  results_move rs us ws (inr (inr (o, c, vs, xs, bracket, items, close))) = inr (inr (o, c, vs, xs, bracket, items_move (IsType e) (IsType f) _ type_moves rs vs xs items, close))

  function_moves : (g : FunctionDecl) (us ws : List Lexeme) → IsFunction e g us ws → IsFunction f g us ws
  function_moves g us ws (k, t, o, c, vs, xs, ys, zs, zs', zs'', word, at, own, is, bracket, parameters, close, results, body) =
      (k, t, o, c, vs, xs, ys, zs, zs', zs'', word, at, own, is, bracket, items_move (IsParameter e) (IsParameter f) _ parameter_moves g.parameters ys zs parameters, close, results_move g.results zs' zs'' results, block_moves g.body zs'' ws body)

  top_moves : (d : TopLevel) (us ws : List Lexeme) → IsTopLevel e d us ws → IsTopLevel f d us ws
  top_moves (declared d) us ws h = decl_moves d us ws h
  top_moves (function g) us ws h = function_moves g us ws h

  tops_move : (ds : List TopLevel) (us ws : List Lexeme) → AreTopLevels e ds us ws → AreTopLevels f ds us ws
  tops_move [] us ws h = h
  tops_move (d ∷ ds) us ws (t, vs, xs, one, mark, rest) = (t, vs, xs, top_moves d us vs one, mark, tops_move ds xs ws rest)

  file_moves : (x : File) (us : List Lexeme) → IsFile e x us → IsFile f x us
  file_moves x us (k, t, s, vs, xs, ys, zs, iss, word, own, not-blank, is, mark, imports, all, tops) =
      (k, t, s, vs, xs, ys, zs, iss, word, own, not-blank, is, mark, imports, all, tops_move x.declarations zs [] tops)

  pub derives_later : (levels : ℕ) (ts : List Lexeme) (x : File) → Derives e levels ts x → Derives f levels ts x
  derives_later levels ts x h = record { derived = file_moves x ts h.derived; fits = h.fits }
