-- Statements and functions of the grammar have texts for string literals, where their tokens' bytes are texts.
use Rattle.std.proofs.Common.{◌≡◌, Bool, true, false, List, [], ◌∷◌, Option, Some, None, refl, sym, subst, true≢false, inl, inr}
use Rattle.go_text.specs.declared.edition.Edition.{Edition}
use Rattle.go_scan.specs.declared.token.TokenKind.{TokenKind}
use Rattle.go_scan.specs.Words.{IsWord}
use Rattle.go_ast.specs.Trees.{Name, TypeExpr, Expression, ExpressionList, Simple, call_statement, increment, decrement, assignment, operator_assignment, short_var_decl, ConstSpec, VarSpec, TypeSpec, Decl, constants, variables, types, Statement, empty, declaration, simple, return, break, continue, fallthrough, block_statement, if_statement, for_statement, range_statement, switch_statement, Block, block, If, conditional, Else, no_else, else_block, else_if, StatementList, no_stmts, some_stmts, Cases, no_clauses, clause, Parameter, FunctionDecl}
use Rattle.go_ast.specs.Grammar.{Lexeme, semicolon, AreItems, IsType, IsSimple, is_short_var_decl, IsType?, IsExpr?, IsSimple?, AreValues, IsConstSpec, IsVarSpec, IsTypeSpec, IsGroup, IsDecl, IsStart, IsForHead, IsRangeName, IsCase, is_last, IsStmt, IsBlock, IsIf, IsElse, AreStmts, AreClauses, IsParameter, AreResults, IsFunction}
use Rattle.go_package_laws.proofs.Texts.{HaveTexts, TypeHasTexts}
use Rattle.go_package_laws.proofs.BodyTexts.{MayHaveTexts, CasesHaveTexts, WrittenHasTexts, SimpleHasTexts, FirstHasTexts, IsPost, ConstantsHaveTexts, VariablesHaveTexts, DeclHasTexts, StmtsHaveTexts, StmtHasTexts, BlockHasTexts, IfHasTexts, ElseHasTexts, ClausesHaveTexts, ParametersHaveTexts, ResultsHaveTexts, FunctionHasTexts}
use Rattle.go_package_laws.proofs.Literals.{Every}
use Rattle.go_package_laws.proofs.Spelled.{AreTexts, token_named, behind_token, behind_names, type_texts, expr_texts, exprs_texts}

-- ---- lists

items_texts : {A : Type 0} (Is : A → List Lexeme → List Lexeme → Type 0) (P : A → Type 0) (mark : TokenKind) → ((x : A) (us ws : List Lexeme) → Is x us ws → AreTexts us → P x × AreTexts ws)
    → (xs : List A) (us ws : List Lexeme) → AreItems Is mark xs us ws → AreTexts us → Every P xs × AreTexts ws
items_texts Is P mark each [] us ws h texts = (tt, subst AreTexts h texts)
items_texts Is P mark each (x ∷ xs) us ws (vs, one, inl (t, ys, comma, rest)) texts =
    let first = each x us vs one texts in
    let others = items_texts Is P mark each xs ys ws rest (behind_token mark t vs ys comma first.1) in
    ((first.0, others.0), others.1)
items_texts Is P mark each (x ∷ xs) us ws (vs, one, inr (last, same)) texts =
    let first = each x us vs one texts in
    ((first.0, subst (Every P) (sym last) tt), subst AreTexts same first.1)

pub group_texts : {A : Type 0} (Is : A → List Lexeme → List Lexeme → Type 0) (P : A → Type 0) → ((x : A) (us ws : List Lexeme) → Is x us ws → AreTexts us → P x × AreTexts ws)
    → (xs : List A) (us ws : List Lexeme) → IsGroup Is xs us ws → AreTexts us → Every P xs × AreTexts ws
group_texts {A} Is P each xs us ws (inl (x, is, one)) texts = (let first = each x us ws one texts in (subst (Every P) (sym is) (first.0, tt), first.1))
group_texts {A} Is P each xs us ws (inr (o, c, vs, ys, open_one, items, close)) texts =
    let all = items_texts Is P semicolon each xs vs ys items (behind_token _ o us vs open_one texts) in
    (all.0, behind_token _ c ys ws close all.1)

-- ---- declarations

module _ (ed : Edition) where
  written_texts : (t : Option TypeExpr) (us ws : List Lexeme) → IsType? ed t us ws → AreTexts us → WrittenHasTexts t × AreTexts ws
  written_texts None us ws h texts = (tt, subst AreTexts h texts)
  written_texts (Some a) us ws h texts = type_texts ed a us ws h texts

  values_texts : (es : ExpressionList) (us ws : List Lexeme) → AreValues ed es us ws → AreTexts us → HaveTexts es × AreTexts ws
  values_texts es us ws (t, vs, mark, all) texts = exprs_texts ed false es vs ws all (behind_token _ t us vs mark texts)

abbrev ConstantHasTexts : ConstSpec → Type 0
ConstantHasTexts s = WrittenHasTexts s.type × HaveTexts s.values

abbrev VariableHasTexts : VarSpec → Type 0
VariableHasTexts s = WrittenHasTexts s.type × HaveTexts s.values

module _ (ed : Edition) where
  constant_texts : (s : ConstSpec) (us ws : List Lexeme) → IsConstSpec ed s us ws → AreTexts us → ConstantHasTexts s × AreTexts ws
  constant_texts s us ws (vs, names, inl (none, empty_values, same)) texts =
      ((subst WrittenHasTexts (sym none) tt, subst HaveTexts (sym empty_values) tt), subst AreTexts same (behind_names s.names us vs names texts))
  constant_texts s us ws (vs, names, inr (xs, of, values)) texts =
      let one = written_texts ed s.type vs xs of (behind_names s.names us vs names texts) in
      let two = values_texts ed s.values xs ws values one.1 in
      ((one.0, two.0), two.1)

  variable_texts : (s : VarSpec) (us ws : List Lexeme) → IsVarSpec ed s us ws → AreTexts us → VariableHasTexts s × AreTexts ws
  variable_texts s us ws (vs, names, inl (a, is, empty_values, of)) texts =
      let one = type_texts ed a vs ws of (behind_names s.names us vs names texts) in
      ((subst WrittenHasTexts (sym is) one.0, subst HaveTexts (sym empty_values) tt), one.1)
  variable_texts s us ws (vs, names, inr (xs, of, values)) texts =
      let one = written_texts ed s.type vs xs of (behind_names s.names us vs names texts) in
      let two = values_texts ed s.values xs ws values one.1 in
      ((one.0, two.0), two.1)

constants_have : (ss : List ConstSpec) → Every ConstantHasTexts ss → ConstantsHaveTexts ss
constants_have [] h = tt
constants_have (s ∷ ss) h = ((h.0).0, (h.0).1, constants_have ss h.1)

variables_have : (ss : List VarSpec) → Every VariableHasTexts ss → VariablesHaveTexts ss
variables_have [] h = tt
variables_have (s ∷ ss) h = ((h.0).0, (h.0).1, variables_have ss h.1)

module _ (ed : Edition) where
  pub constants_texts : (ss : List ConstSpec) (us ws : List Lexeme) → IsGroup (IsConstSpec ed) ss us ws → AreTexts us → ConstantsHaveTexts ss × AreTexts ws
  constants_texts ss us ws h texts = (let all = group_texts (IsConstSpec ed) ConstantHasTexts (constant_texts ed) ss us ws h texts in (constants_have ss all.0, all.1))

  pub variables_texts : (ss : List VarSpec) (us ws : List Lexeme) → IsGroup (IsVarSpec ed) ss us ws → AreTexts us → VariablesHaveTexts ss × AreTexts ws
  variables_texts ss us ws h texts = (let all = group_texts (IsVarSpec ed) VariableHasTexts (variable_texts ed) ss us ws h texts in (variables_have ss all.0, all.1))

abbrev pub SpecHasTexts : TypeSpec → Type 0
SpecHasTexts s = TypeHasTexts s.type × IsWord s.name.text

module _ (ed : Edition) where
  type_spec_texts : (s : TypeSpec) (us ws : List Lexeme) → IsTypeSpec ed s us ws → AreTexts us → SpecHasTexts s × AreTexts ws
  type_spec_texts s us ws (t, vs, one, is, of) texts =
      let own = type_texts ed s.type vs ws of (behind_token _ t us vs one texts) in
      ((own.0, token_named s.name t us vs one is texts), own.1)

  pub type_specs_texts : (ss : List TypeSpec) (us ws : List Lexeme) → IsGroup (IsTypeSpec ed) ss us ws → AreTexts us → Every SpecHasTexts ss × AreTexts ws
  type_specs_texts ss us ws h texts = group_texts (IsTypeSpec ed) SpecHasTexts type_spec_texts ss us ws h texts

  pub decl_texts : (e : Decl) (us ws : List Lexeme) → IsDecl ed e us ws → AreTexts us → DeclHasTexts e × AreTexts ws
  decl_texts (constants p ss) us ws (k, vs, word, at, all) texts = constants_texts ed ss vs ws all (behind_token _ k us vs word texts)
  decl_texts (variables p ss) us ws (k, vs, word, at, all) texts = variables_texts ed ss vs ws all (behind_token _ k us vs word texts)
  decl_texts (types p ss) us ws (k, vs, word, at, all) texts = (tt, (type_specs_texts ss vs ws all (behind_token _ k us vs word texts)).1)

  -- ---- simple statements

  simple_texts : (h : Bool) (s : Simple) (us ws : List Lexeme) → IsSimple ed h s us ws → AreTexts us → SimpleHasTexts s × AreTexts ws
  simple_texts h (call_statement e) us ws (one, is) texts = expr_texts ed 5 h e us ws one texts
  simple_texts h (increment e) us ws (t, vs, one, mark) texts = (let first = expr_texts ed 5 h e us vs one texts in (first.0, behind_token _ t vs ws mark first.1))
  simple_texts h (decrement e) us ws (t, vs, one, mark) texts = (let first = expr_texts ed 5 h e us vs one texts in (first.0, behind_token _ t vs ws mark first.1))
  simple_texts h (assignment ls rs) us ws (t, vs, xs, left, mark, right) texts =
      let one = exprs_texts ed h ls us vs left texts in
      let two = exprs_texts ed h rs xs ws right (behind_token _ t vs xs mark one.1) in
      ((one.0, two.0), two.1)
  simple_texts h (operator_assignment op l r) us ws (t, vs, xs, left, whole, is, right) texts =
      let one = expr_texts ed 5 h l us vs left texts in
      let rest = subst AreTexts whole one.1 in
      let two = expr_texts ed 5 h r xs ws right rest.1 in
      ((one.0, two.0), two.1)
  simple_texts h (short_var_decl ns rs) us ws (t, vs, xs, names, mark, right) texts =
      exprs_texts ed h rs xs ws right (behind_token _ t vs xs mark (behind_names ns us vs names texts))

  may_texts : (e : Option Expression) (us ws : List Lexeme) → IsExpr? ed e us ws → AreTexts us → MayHaveTexts e × AreTexts ws
  may_texts None us ws h texts = (tt, subst AreTexts h texts)
  may_texts (Some e) us ws h texts = expr_texts ed 5 true e us ws h texts

  optional_texts : (s : Option Simple) (us ws : List Lexeme) → IsSimple? ed s us ws → AreTexts us → FirstHasTexts s × AreTexts ws
  optional_texts None us ws h texts = (tt, subst AreTexts h texts)
  optional_texts (Some s) us ws h texts = simple_texts true s us ws h texts

  start_texts : (s : Option Simple) (us ws : List Lexeme) → IsStart ed s us ws → AreTexts us → FirstHasTexts s × AreTexts ws
  start_texts None us ws (inl same) texts = (tt, subst AreTexts same texts)
  start_texts None us ws (inr (t, mark)) texts = (tt, behind_token _ t us ws mark texts)
  start_texts (Some s) us ws (t, vs, one, mark) texts = (let first = simple_texts true s us vs one texts in (first.0, behind_token _ t vs ws mark first.1))

  -- nothing is declared behind a turn
  post_of : (o : Option Simple) → FirstHasTexts o → ((s : Simple) → o ≡ Some s → is_short_var_decl s ≡ false) → IsPost o
  post_of None h plain = tt
  post_of (Some (short_var_decl ns es)) h plain = true≢false (plain (short_var_decl ns es) refl)
  post_of (Some (call_statement e)) h plain = h
  post_of (Some (increment e)) h plain = h
  post_of (Some (decrement e)) h plain = h
  post_of (Some (assignment ls rs)) h plain = h
  post_of (Some (operator_assignment op l r)) h plain = h

  head_texts : (i : Option Simple) (c : Option Expression) (n : Option Simple) (us ws : List Lexeme) → IsForHead ed i c n us ws → AreTexts us → (FirstHasTexts i × MayHaveTexts c × IsPost n) × AreTexts ws
  head_texts i c n us ws (inl (none, also, one)) texts =
      let first = may_texts c us ws one texts in
      ((subst FirstHasTexts (sym none) tt, first.0, subst IsPost (sym also) tt), first.1)
  head_texts i c n us ws (inr (t, r, vs, xs, ys, zs, before, mark, test, again, behind, plain)) texts =
      let one = optional_texts i us vs before texts in
      let two = may_texts c xs ys test (behind_token _ t vs xs mark one.1) in
      let three = optional_texts n zs ws behind (behind_token _ r ys zs again two.1) in
      ((one.0, two.0, post_of n three.0 plain), three.1)

  range_name : (n : Option Name) (us ws : List Lexeme) → IsRangeName n us ws → AreTexts us → AreTexts ws
  range_name None us ws h texts = subst AreTexts h texts
  range_name (Some n) us ws (t, m, vs, one, is, mark) texts = behind_token _ m vs ws mark (behind_token _ t us vs one texts)

  case_texts : (p : _) (es : Option ExpressionList) (us ws : List Lexeme) → IsCase ed p es us ws → AreTexts us → CasesHaveTexts es × AreTexts ws
  case_texts p None us ws (t, word, at) texts = (tt, behind_token _ t us ws word texts)
  case_texts p (Some es) us ws (t, vs, word, at, all) texts = exprs_texts ed false es vs ws all (behind_token _ t us vs word texts)

  -- ---- statements

  mutual
    stmt_texts : (s : Statement) (us ws : List Lexeme) → IsStmt ed s us ws → AreTexts us → StmtHasTexts s × AreTexts ws
    stmt_texts (empty p) us ws (t, vs, mark, at, same) texts = (tt, subst AreTexts same texts)
    stmt_texts (declaration p e) us ws (one, at, local) texts = decl_texts e us ws one texts
    stmt_texts (simple p s) us ws (one, at) texts = simple_texts false s us ws one texts
    stmt_texts (return p es) us ws (t, vs, word, at, inl (none, same)) texts = (subst HaveTexts (sym none) tt, subst AreTexts same (behind_token _ t us vs word texts))
    stmt_texts (return p es) us ws (t, vs, word, at, inr all) texts = exprs_texts ed false es vs ws all (behind_token _ t us vs word texts)
    stmt_texts (break p) us ws (t, word, at) texts = (tt, behind_token _ t us ws word texts)
    stmt_texts (continue p) us ws (t, word, at) texts = (tt, behind_token _ t us ws word texts)
    stmt_texts (fallthrough p) us ws (t, word, at) texts = (tt, behind_token _ t us ws word texts)
    stmt_texts (block_statement b) us ws h texts = block_texts b us ws h texts
    stmt_texts (if_statement i) us ws h texts = if_texts i us ws h texts
    stmt_texts (for_statement p i c n b) us ws (t, vs, xs, word, at, head, body) texts =
        let one = head_texts i c n vs xs head (behind_token _ t us vs word texts) in
        let two = block_texts b xs ws body one.1 in
        (((one.0).0, (one.0).1, (one.0).2, two.0), two.1)
    stmt_texts (range_statement p n e b) us ws (t, r, vs, xs, ys, zs, word, at, own, also, inner, body) texts =
        let one = expr_texts ed 5 true e ys zs inner (behind_token _ r xs ys also (range_name n vs xs own (behind_token _ t us vs word texts))) in
        let two = block_texts b zs ws body one.1 in
        ((one.0, two.0), two.1)
    stmt_texts (switch_statement p i e cs) us ws (k, o, c, vs, xs, ys, zs, zs', word, at, before, tag, open_one, clauses, close) texts =
        let one = start_texts i vs xs before (behind_token _ k us vs word texts) in
        let two = may_texts e xs ys tag one.1 in
        let three = clauses_texts cs zs zs' clauses (behind_token _ o ys zs open_one two.1) in
        ((one.0, two.0, three.0), behind_token _ c zs' ws close three.1)

    block_texts : (b : Block) (us ws : List Lexeme) → IsBlock ed b us ws → AreTexts us → BlockHasTexts b × AreTexts ws
    block_texts (block p ss q) us ws (o, c, vs, xs, open_one, at, all, close, also) texts =
        let one = stmts_texts true ss vs xs all (behind_token _ o us vs open_one texts) in
        (one.0, behind_token _ c xs ws close one.1)

    if_texts : (i : If) (us ws : List Lexeme) → IsIf ed i us ws → AreTexts us → IfHasTexts i × AreTexts ws
    if_texts (conditional p i e b r) us ws (t, vs, xs, ys, zs, word, at, before, test, body, other) texts =
        let one = start_texts i vs xs before (behind_token _ t us vs word texts) in
        let two = expr_texts ed 5 true e xs ys test one.1 in
        let three = block_texts b ys zs body two.1 in
        let four = else_texts r zs ws other three.1 in
        ((one.0, two.0, three.0, four.0), four.1)

    else_texts : (r : Else) (us ws : List Lexeme) → IsElse ed r us ws → AreTexts us → ElseHasTexts r × AreTexts ws
    else_texts no_else us ws h texts = (tt, subst AreTexts h texts)
    else_texts (else_block b) us ws (t, vs, word, body) texts = block_texts b vs ws body (behind_token _ t us vs word texts)
    else_texts (else_if i) us ws (t, vs, word, rest) texts = if_texts i vs ws rest (behind_token _ t us vs word texts)

    stmts_texts : (closed : Bool) (ss : StatementList) (us ws : List Lexeme) → AreStmts ed closed ss us ws → AreTexts us → StmtsHaveTexts ss × AreTexts ws
    stmts_texts closed no_stmts us ws h texts = (tt, subst AreTexts h texts)
    stmts_texts closed (some_stmts s ss) us ws (vs, one, inl (t, xs, mark, rest)) texts =
        let first = stmt_texts s us vs one texts in
        let others = stmts_texts closed ss xs ws rest (behind_token _ t vs xs mark first.1) in
        ((first.0, others.0), others.1)
    stmts_texts closed (some_stmts s ss) us ws (vs, one, inr (last, same)) texts =
        let first = stmt_texts s us vs one texts in
        ((first.0, subst StmtsHaveTexts (sym last.0) tt), subst AreTexts same first.1)

    clauses_texts : (cs : Cases) (us ws : List Lexeme) → AreClauses ed cs us ws → AreTexts us → ClausesHaveTexts cs × AreTexts ws
    clauses_texts no_clauses us ws h texts = (tt, subst AreTexts h texts)
    clauses_texts (clause p es ss cs) us ws (t, vs, xs, ys, head, mark, all, rest) texts =
        let one = case_texts p es us vs head texts in
        let two = stmts_texts (is_last cs) ss xs ys all (behind_token _ t vs xs mark one.1) in
        let three = clauses_texts cs ys ws rest two.1 in
        ((one.0, two.0, three.0), three.1)

  -- ---- functions

  parameter_texts : (p : Parameter) (us ws : List Lexeme) → IsParameter ed p us ws → AreTexts us → TypeHasTexts p.type × AreTexts ws
  parameter_texts p us ws (vs, names, of) texts = type_texts ed p.type vs ws of (behind_names p.names us vs names texts)

  parameters_have : (ps : List Parameter) → Every (λ (p : Parameter). TypeHasTexts p.type) ps → ParametersHaveTexts ps
  parameters_have [] h = tt
  parameters_have (p ∷ ps) h = (h.0, parameters_have ps h.1)

  results_have : (ts : List TypeExpr) → Every TypeHasTexts ts → ResultsHaveTexts ts
  results_have [] h = tt
  results_have (t ∷ ts) h = (h.0, results_have ts h.1)

  results_texts : (ts : List TypeExpr) (us ws : List Lexeme) → AreResults ed ts us ws → AreTexts us → ResultsHaveTexts ts × AreTexts ws
  results_texts ts us ws (inl (none, same)) texts = (subst ResultsHaveTexts (sym none) tt, subst AreTexts same texts)
  results_texts ts us ws (inr (inl (a, is, of))) texts = (let one = type_texts ed a us ws of texts in (subst ResultsHaveTexts (sym is) (one.0, tt), one.1))
  results_texts ts us ws (inr (inr (o, c, vs, xs, open_one, items, close))) texts =
      let all = items_texts (IsType ed) TypeHasTexts _ (type_texts ed) ts vs xs items (behind_token _ o us vs open_one texts) in
      (results_have ts all.0, behind_token _ c xs ws close all.1)

  pub function_texts : (f : FunctionDecl) (us ws : List Lexeme) → IsFunction ed f us ws → AreTexts us → FunctionHasTexts f × AreTexts ws
  function_texts f us ws (k, t, o, c, vs, xs, ys, zs, zs', zs'', word, at, own, is, open_one, parameters, close, results, body) texts =
      let one = items_texts (IsParameter ed) (λ (p : Parameter). TypeHasTexts p.type) _ parameter_texts f.parameters ys zs parameters
      (behind_token _ o xs ys open_one (behind_token _ t vs xs own (behind_token _ k us vs word texts))) in
      let two = results_texts f.results zs' zs'' results (behind_token _ c zs zs' close one.1) in
      let three = block_texts f.body zs'' ws body two.1 in
      ((parameters_have f.parameters one.0, two.0, three.0), three.1)

  -- its name is a word
  pub function_named : (f : FunctionDecl) (us ws : List Lexeme) → IsFunction ed f us ws → AreTexts us → IsWord f.name.text
  function_named f us ws (k, t, o, c, vs, xs, ys, zs, zs', zs'', word, at, own, is, open_one, parameters, close, results, body) texts =
      token_named f.name t vs xs own is (behind_token _ k us vs word texts)
