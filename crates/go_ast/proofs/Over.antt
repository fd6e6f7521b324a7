-- Where the tokens end: the state says which file they are, both ways.
use Rattle.std.proofs.Common.{◌≡◌, ℕ, inl, inr, Bool, true, false, List, [], ◌∷◌, ◌++◌, Option, Some, None, refl, sym, ap, ◌∙◌, subst, append-nil}
use Rattle.go_text.specs.declared.edition.Edition.{Edition}
use Rattle.go_text.specs.declared.place.Place.{Place}
use Rattle.go_scan.specs.declared.token.TokenKind.{TokenKind}
use Rattle.go_scan.specs.declared.token.TokenKind.TheVariants as kinds
use Rattle.go_scan.specs.declared.keyword.Keyword.TheVariants as keywords
use Rattle.go_scan.specs.declared.punctuation.Punctuation.TheVariants as marks
use Rattle.go_ast.specs.Trees.{Name, Expression, name, integer, rune, string, parenthesized, composite_lit, conversion, selector, index, cut, call, type_operand, unary, binary, ExpressionList, Simple, call_statement, increment, decrement, assignment, operator_assignment, short_var_decl, Statement, Else, no_else, else_block, else_if, conditional, File, pack, pack_statements}
use Rattle.go_ast.specs.Grammar.{Lexeme, Token, assign, comma, period, semicolon, define, opening_brace, opening_bracket, opening, closing, closing_brace, AreItems, AreOperands, IsTypeOperand, AreMoreNames, AreMoreExprs, AreStmts, AreClauses, IsElse, IsCase, is_call, is_last}
use Rattle.go_ast.specs.Machine.{ListKind, Item, separator, closer, Clause, pack_cases, Position, Reader, ended, token, package_name, import_path, optional, newer, operands, type, optional_type, expr, optional_expr, suffixes, operators, more_names, more_exprs, list_start, list_end, lefts, else_part, clause_start, clause_end, import_end, decl_end, keyword, final, final_if}
use Rattle.go_ast.proofs.Means.{Itself, IsTypeName, Suffixed, Joined, IsItem, Continues, Means, Okay}
use Rattle.go_ast.proofs.Tokens.{no_token, none_left}
use Rattle.go_ast.proofs.Types.{type_never}
use Rattle.go_ast.proofs.Operands.{expr_never}
use Rattle.go_ast.proofs.Suffixes.{suffixed_itself}
use Rattle.go_ast.proofs.Operators.{joined_itself}
use Rattle.go_ast.proofs.Never.{stmt_never, item_never}

-- what takes no tokens
nothing_more : (k : TokenKind) (t : Lexeme) (vs ws : List Lexeme) → [] ≡ vs → Token k t vs ws → ⊥
nothing_more k t vs ws e d = no_token k t ws (subst (λ x. Token k t x ws) (sym e) d)

named_never : (a x : Expression) (k : TokenKind) (o : Lexeme) (vs ws : List Lexeme) → IsTypeName a x [] vs → Token k o vs ws → ⊥
named_never a x k o vs ws (inl i) d = nothing_more k o vs ws i.1 d
named_never a x k o vs ws (inr n) d = no_token period n.0 n.2 n.3

not_suffixed : (ed : Edition) → (h : Bool) (a e : Expression) (ws : List Lexeme) → Suffixed ed h a e [] ws → Itself a e [] ws
not_suffixed ed h a (selector p e n) ws (inl i) = i
not_suffixed ed h a (selector p e n) ws (inr d) = absurd (nothing_more period d.0 d.2 d.3 (not_suffixed ed h a e d.2 d.5).1 d.6)
not_suffixed ed h a (index p e i) ws (inl s) = s
not_suffixed ed h a (index p e i) ws (inr d) = absurd (nothing_more opening_bracket d.0 d.2 d.3 (not_suffixed ed h a e d.2 d.6).1 d.7)
not_suffixed ed h a (cut p e x y) ws (inl i) = i
not_suffixed ed h a (cut p e x y) ws (inr d) = absurd (nothing_more opening_bracket d.0 d.3 d.4 (not_suffixed ed h a e d.3 d.10).1 d.11)
not_suffixed ed h a (type_operand p b) ws d = d
not_suffixed ed h a (call p e es) ws (inl i) = i
not_suffixed ed h a (call p e es) ws (inr d) = absurd (nothing_more opening d.0 d.2 d.3 (not_suffixed ed h a e d.2 d.6).1 d.7)
not_suffixed ed h a (composite_lit p b q es) ws (inl i) = i
not_suffixed ed h a (composite_lit p b q es) ws (inr d) = absurd (named_never a d.5 opening_brace d.0 d.2 d.3 d.7 d.10)
not_suffixed ed h a (name p text) ws d = d
not_suffixed ed h a (integer p text) ws d = d
not_suffixed ed h a (rune p value) ws d = d
not_suffixed ed h a (string p value) ws d = d
not_suffixed ed h a (parenthesized p e) ws d = d
not_suffixed ed h a (conversion p b e) ws d = d
not_suffixed ed h a (unary p op e) ws d = d
not_suffixed ed h a (binary p op b c) ws d = d

not_joined : (ed : Edition) → (n : ℕ) (h : Bool) (a e : Expression) (ws : List Lexeme) → Joined ed n h a e [] ws → Itself a e [] ws
not_joined ed n h a (binary p op e b) ws (inl i) = i
not_joined ed n h a (binary p op e b) ws (inr d) =
    let i = not_joined ed n h a e d.1 d.5 in
    absurd (none_left d.0 d.2 (sym (i.1 ∙ d.6)))
not_joined ed n h a (name p text) ws d = d
not_joined ed n h a (integer p text) ws d = d
not_joined ed n h a (rune p value) ws d = d
not_joined ed n h a (string p value) ws d = d
not_joined ed n h a (parenthesized p e) ws d = d
not_joined ed n h a (composite_lit p b q es) ws d = d
not_joined ed n h a (conversion p b e) ws d = d
not_joined ed n h a (selector p e f) ws d = d
not_joined ed n h a (index p e i) ws d = d
not_joined ed n h a (cut p e x y) ws d = d
not_joined ed n h a (type_operand p b) ws d = d
not_joined ed n h a (call p e es) ws d = d
not_joined ed n h a (unary p op e) ws d = d

no_more_names : (ns : List Name) (ws : List Lexeme) → AreMoreNames ns [] ws → (ns ≡ []) × ([] ≡ ws)
no_more_names [] ws d = (refl, d)
no_more_names (n ∷ ns) ws d = absurd (no_token comma d.0 d.2 d.4)

no_more_exprs : (ed : Edition) → (h : Bool) (es : List Expression) (ws : List Lexeme) → AreMoreExprs ed h (pack es) [] ws → (es ≡ []) × ([] ≡ ws)
no_more_exprs ed h [] ws d = (refl, d)
no_more_exprs ed h (e ∷ es) ws d = absurd (no_token comma d.0 d.1 d.3)

-- a simple statement that ends with its first left side is a call
only_call : (ed : Edition) → (h : Bool) (front : List Expression) (s : Simple) (ws : List Lexeme) → Continues ed h front s [] ws →
    (e : Expression) × (front ≡ e ∷ []) × (s ≡ call_statement e) × (is_call e ≡ true) × ([] ≡ ws)
only_call ed h front (call_statement e) ws d = (e, d.0, refl, d.1, d.2)
only_call ed h front (increment e) ws d = absurd (no_token (kinds.Punctuation marks.Increment) d.0 ws d.2)
only_call ed h front (decrement e) ws d = absurd (no_token (kinds.Punctuation marks.Decrement) d.0 ws d.2)
only_call ed h front (assignment ls rs) ws d = absurd (nothing_more assign d.1 d.2 d.3 (no_more_exprs ed h d.0 d.2 d.4).1 d.6)
only_call ed h front (operator_assignment op l r) ws d = absurd (none_left d.0 d.1 (sym d.3))
only_call ed h front (short_var_decl ns rs) ws d = absurd (nothing_more define d.1 d.2 d.3 (no_more_exprs ed h d.0 d.2 d.4).1 d.6)

type_operand_never : (ed : Edition) → (e : Expression) (ws : List Lexeme) → IsTypeOperand ed e [] ws → ⊥
type_operand_never ed (type_operand p a) ws d = type_never ed a ws d.2
type_operand_never ed _ ws d = d

operands_never : (ed : Edition) → (es : List Expression) (c : Lexeme) (vs ws : List Lexeme) → AreOperands ed (pack es) [] vs → Token closing c vs ws → ⊥
operands_never ed [] c vs ws are close = nothing_more closing c vs ws are close
operands_never ed (e ∷ es) c vs ws are close = elim are.1 [
  | inl d ↦ expr_never ed 5 false e are.0 d
  | inr d ↦ type_operand_never ed e are.0 d
]

items_never : (ed : Edition) → (k : ListKind) (is : List (Item k)) (c : Lexeme) (vs ws : List Lexeme) → AreItems (IsItem ed k) (separator k) is [] vs → Token (closer k) c vs ws → ⊥
items_never ed k [] c vs ws are close = nothing_more (closer k) c vs ws are close
items_never ed k (i ∷ is) c vs ws are close = item_never ed k i are.0 are.1

stmts_over : (ed : Edition) → (closed : Bool) (ss : List Statement) (vs : List Lexeme) → AreStmts ed closed (pack_statements ss) [] vs → [] ≡ vs
stmts_over ed closed [] vs are = are
stmts_over ed closed (s ∷ ss) vs are = absurd (stmt_never ed s are.0 are.1)

case_never : (ed : Edition) → (p : Place) (values : Option ExpressionList) (ws : List Lexeme) → IsCase ed p values [] ws → ⊥
case_never ed p None ws d = no_token (keyword keywords.Default) d.0 ws d.1
case_never ed p (Some es) ws d = no_token (keyword keywords.Case) d.0 d.1 d.2

clauses_never : (ed : Edition) → (cs : List Clause) (c : Lexeme) (vs xs ws : List Lexeme) → [] ≡ vs → AreClauses ed (pack_cases cs) vs xs → Token closing_brace c xs ws → ⊥
clauses_never ed [] c vs xs ws e are close = nothing_more closing_brace c xs ws (e ∙ are) close
clauses_never ed (d ∷ cs) c vs xs ws e are close = case_never ed d.0 d.1.0 are.1 (subst (λ x. IsCase ed d.0 d.1.0 x are.1) (sym e) are.4)

no_file : {A : Type 0} (f : File) → None ≡ Some f → A
no_file f e = absurd (cc (e))

one_of_one : (a b : Expression) → a ∷ [] ≡ b ∷ [] → a ≡ b
one_of_one a b e = cc (e)

two_of_one : (a b c : Expression) (es : List Expression) → a ∷ b ∷ es ≡ c ∷ [] → ⊥
two_of_one a b c es e = cc (e)

none_of_one : (a : Expression) → [] ≡ a ∷ [] → ⊥
none_of_one a e = cc (e)

module _ (ed : Edition) (B : ℕ) where
  -- the same state and tokens
  led : {A : Type 0} (next : A → Reader) (a b : A) (ws : List Lexeme) (f : File) → b ≡ a → [] ≡ ws → Means ed B (next b) ws f → Means ed B (next a) [] f
  led next a b ws f e q m = subst (λ x. Means ed B (next x) [] f) e (subst (λ x. Means ed B (next b) x f) (sym q) m)

  call_over : (m : Position) (h : Bool) (l : ℕ) (e : Expression) (next : Simple → Reader) (s : Simple) (ws : List Lexeme) (f : File) → Continues ed h (e ∷ []) s [] ws →
      Means ed B (next s) ws f →
      (Means ed B (next (call_statement e)) [] f → final (next (call_statement e)) ≡ Some f) → final_if (is_call e) (final (next (call_statement e))) ≡ Some f
  call_over m h l e next s ws f d n go =
      let r = only_call ed h (e ∷ []) s ws d in
      let first : r.0 ≡ e = sym (one_of_one e r.0 r.1) in
      let calls : is_call e ≡ true = subst (λ x. is_call x ≡ true) first r.3 in
      ap (λ c. final_if c (final (next (call_statement e)))) calls ∙ go (led next (call_statement e) s ws f (r.2 ∙ ap call_statement first) r.4 n)

  else_over : (r : Else) (ws : List Lexeme) → IsElse ed r [] ws → (r ≡ no_else) × ([] ≡ ws)
  else_over no_else ws d = (refl, d)
  else_over (else_block b) ws d = absurd (no_token (keyword keywords.Else) d.0 d.1 d.2)
  else_over (else_if i) ws d = absurd (no_token (keyword keywords.Else) d.0 d.1 d.2)

  -- tokens that are over lead to the file that the state says
  pub over : (s : Reader) (f : File) → Means ed B s [] f → final s ≡ Some f
  over (ended g) f m = ap Some (sym m.1)
  over (token kind need x next) f m = absurd (no_token kind m.0 m.1 m.2)
  over (package_name next) f m = absurd (no_token kinds.Name m.0 m.1 m.2)
  over (import_path x next) f m = absurd (no_token kinds.String m.0 m.1 m.2)
  over (optional kind need some none) f (inl m) = absurd (no_token kind m.0 m.1 m.2)
  over (optional kind need some none) f (inr m) = over none f m
  over (newer kind need x some none) f (inl m) = absurd (no_token kind m.0 m.1 m.2)
  over (newer kind need x some none) f (inr m) = over none f m
  over (type l x next) f m = absurd (type_never ed m.0 m.1 m.2)
  over (optional_type l x some none) f (inl m) = absurd (type_never ed m.0 m.1 m.2)
  over (optional_type l x some none) f (inr m) = over none f m
  over (expr n h l x next) f m = absurd (expr_never ed n h m.0 m.1 m.2)
  over (optional_expr h l x some none) f (inl m) = absurd (expr_never ed 5 h m.0 m.1 m.2)
  over (optional_expr h l x some none) f (inr m) = over none f m
  over (suffixes h l a next) f m = let i = not_suffixed ed h a m.0 m.1 m.2 in over (next a) f (led next a m.0 m.1 f i.0 i.1 m.4)
  over (operators n h l a next) f m = let i = not_joined ed n h a m.0 m.1 m.2 in over (next a) f (led next a m.0 m.1 f i.0 i.1 m.4)
  over (more_names front next) f m =
      let i = no_more_names m.0 m.1 m.2 in over (next front) f (led next front (front ++ m.0) m.1 f (ap (λ x. front ++ x) i.0 ∙ append-nil front) i.1 m.3)
  over (more_exprs h l front next) f m =
      let i = no_more_exprs ed h m.0 m.1 m.2 in over (next front) f (led next front (front ++ m.0) m.1 f (ap (λ x. front ++ x) i.0 ∙ append-nil front) i.1 m.4)
  over (operands l next) f m = absurd (operands_never ed m.0 m.1 m.2 m.3 m.4 m.6)
  over (list_start k front next) f m = absurd (items_never ed k m.0 m.1 m.2 m.3 m.4 m.6)
  over (list_end k x front next) f (is, c, vs, ws, inl b, fit, close, m) = absurd (no_token (separator k) b.0 b.1 b.2)
  over (list_end k x front next) f (is, c, vs, ws, inr b, fit, close, m) = absurd (nothing_more (closer k) c vs ws b.1 close)
  over (lefts m h l [] next alone range) f (inl d) = absurd (none_of_one (only_call ed h [] d.0 d.1 d.2).0 (only_call ed h [] d.0 d.1 d.2).1)
  over (lefts m h l [] next alone range) f (inr (inl d)) = absurd d.3
  over (lefts m h l [] next alone range) f (inr (inr d)) = absurd (no_token define d.2 d.4 d.9)
  over (lefts m h l (e ∷ []) next alone range) f (inl d) = call_over m h l e next d.0 d.1 f d.2 d.5 (λ n. over (next (call_statement e)) f n)
  over (lefts m h l (e ∷ []) next alone range) f (inr (inl d)) = absurd d.3
  over (lefts m h l (e ∷ []) next alone range) f (inr (inr d)) = absurd (no_token define d.2 d.4 d.9)
  over (lefts m h l (e ∷ g ∷ es) next alone range) f (inl d) =
      let r = only_call ed h (e ∷ g ∷ es) d.0 d.1 d.2 in absurd (two_of_one e g r.0 es r.1)
  over (lefts m h l (e ∷ g ∷ es) next alone range) f (inr (inl d)) = absurd d.3
  over (lefts m h l (e ∷ g ∷ es) next alone range) f (inr (inr d)) = absurd (no_token define d.2 d.4 d.9)
  over (else_part l p i c b next) f m =
      let r = else_over m.0 m.1 m.2 in
      over (next (conditional p i c b no_else)) f (led (λ x. next (conditional p i c b x)) no_else m.0 m.1 f r.0 r.1 m.4)
  over (clause_start l done p values front next) f m = absurd (clauses_never ed m.1 m.2 m.3 m.4 m.5 (stmts_over ed (is_last (pack_cases m.1)) m.0 m.3 m.6) m.7 m.10)
  over (clause_end l x done p values front next) f (ss, cs, c, vs, xs, ws, inl b, are, fit, low, close, m) = absurd (no_token semicolon b.0 b.1 b.2)
  over (clause_end l x done p values front next) f (ss, cs, c, vs, xs, ws, inr b, are, fit, low, close, m) = absurd (clauses_never ed cs c vs xs ws b.1 are close)
  over (import_end p iss) f m = absurd (no_token semicolon m.0 m.1 m.5)
  over (decl_end p is ds) f m = absurd (no_token semicolon m.0 m.1 m.3)

  -- the file that a state says is the one that no tokens lead to
  pub ends : (s : Reader) (f : File) → Okay ed B s → final s ≡ Some f → Means ed B s [] f
  ends (ended g) f ok e = let file : g ≡ f = cc in (refl, sym file)
  ends (optional kind need some none) f ok e = inr (ends none f ok.1 e)
  ends (newer kind need x some none) f ok e = inr (ends none f ok.1 e)
  ends (optional_type l x some none) f ok e = inr (ends none f ok.2 e)
  ends (optional_expr h l x some none) f ok e = inr (ends none f ok.2 e)
  ends (suffixes h l a next) f ok e = (a, [], suffixed_itself ed h a a [] [] (refl, refl), ok.0, ends (next a) f (ok.1 a ok.0).1 e)
  ends (operators n h l a next) f ok e = (a, [], joined_itself ed n h a a [] [] (refl, refl), ok.0, ends (next a) f (ok.1 a ok.0).1 e)
  ends (more_names front next) f ok e = ([], [], refl, subst (λ x. Means ed B (next x) [] f) (sym (append-nil front)) (ends (next front) f (ok.0 front).1 e))
  ends (more_exprs h l front next) f ok e =
      ([], [], refl, tt, subst (λ x. Means ed B (next x) [] f) (sym (append-nil front)) (ends (next front) f (ok.2 front ok.1).1 e))
  ends (lefts m h l (x ∷ []) next alone range) f ok e = by_call (is_call x) refl e (λ q. ends (next (call_statement x)) f (ok.3 (call_statement x) ok.1.0).1 q)
    where
      by_call : (c : Bool) → is_call x ≡ c → final_if c (final (next (call_statement x))) ≡ Some f →
          (final (next (call_statement x)) ≡ Some f → Means ed B (next (call_statement x)) [] f) → Means ed B (lefts m h l (x ∷ []) next alone range) [] f
      by_call false k q go = no_file f q
      by_call true k q go = inl (call_statement x, [], (refl, k, refl), ok.1.0, (λ _. refl), go q)
  ends (else_part l p i c b next) f ok e = (no_else, [], refl, ok.1, ends (next (conditional p i c b no_else)) f (ok.2 no_else ok.1).1 e)
  ends (token kind need x next) f ok e = no_file f e
  ends (package_name next) f ok e = no_file f e
  ends (import_path x next) f ok e = no_file f e
  ends (type l x next) f ok e = no_file f e
  ends (expr n h l x next) f ok e = no_file f e
  ends (operands l next) f ok e = no_file f e
  ends (list_start k front next) f ok e = no_file f e
  ends (list_end k x front next) f ok e = no_file f e
  ends (lefts m h l [] next alone range) f ok e = no_file f e
  ends (lefts m h l (x ∷ y ∷ es) next alone range) f ok e = no_file f e
  ends (clause_start l done p values front next) f ok e = no_file f e
  ends (clause_end l x done p values front next) f ok e = no_file f e
  ends (import_end p iss) f ok e = no_file f e
  ends (decl_end p is ds) f ok e = no_file f e
