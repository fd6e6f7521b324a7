-- A simple statement is an expression and what continues it, both ways.
use Rattle.std.proofs.Common.{◌≡◌, ◌≤◌, Bool, List, [], ◌∷◌, ◌++◌, Option, Some, None, refl, sym, ap, ◌∙◌, subst, arith, append_assoc}
use Rattle.go_text.specs.declared.edition.Edition.{Edition}
use Rattle.go_scan.specs.declared.token.TokenKind.TheVariants as kinds
use Rattle.go_ast.specs.Trees.{Name, Expression, name, ExpressionList, no_exprs, some_exprs, Simple, call_statement, increment, decrement, assignment, operator_assignment, short_var_decl, pack}
use Rattle.go_ast.specs.Heights.{height, exprs_height, simple_height}
use Rattle.go_ast.specs.Grammar.{Lexeme, Token, name_of, IsExpr, AreMoreNames, AreNames, AreMoreExprs, AreExprs, IsSimple}
use Rattle.go_ast.specs.Machine.{name_if, push_name, names_if}
use Rattle.go_ast.proofs.Means.{Continues}
use Rattle.go_ast.proofs.Values.{list_of, pack_list}
use Rattle.go_ast.proofs.Levels.{height_positive}

pub push_assoc : {A : Type 0} (front : List A) (e : A) (es : List A) → (front ++ e ∷ []) ++ es ≡ front ++ e ∷ es
push_assoc front e es = append_assoc front (e ∷ []) es

-- expressions that are names
pub push_split : (a : Option Name) (b : Option (List Name)) (ns : List Name) → push_name a b ≡ Some ns →
    (n : Name) × (ms : List Name) × (a ≡ Some n) × (b ≡ Some ms) × (ns ≡ n ∷ ms)
push_split None b ns q = absurd (let c : None ≡ Some ns = q in cc (c))
push_split (Some n) None ns q = absurd (let c : None ≡ Some ns = q in cc (c))
push_split (Some n) (Some ms) ns q = (n, ms, refl, refl, (let c : Some (n ∷ ms) ≡ Some ns = q in cc (c)))

pub is_name : (e : Expression) (n : Name) → name_if e ≡ Some n → e ≡ name n.place n.text
is_name (name p text) n q =
    let c : Some (record { text = text; place = p }) ≡ Some n = q in
    let d : record { text = text; place = p } ≡ n = cc (c) in
    ap (λ (x : Name). name x.place x.text) d
is_name _ n q = absurd (let c : None ≡ Some n = q in cc (c))

abbrev pub name_expr : Name → Expression
name_expr n = name n.place n.text

abbrev pub name_exprs : List Name → List Expression
name_exprs [] = []
name_exprs (n ∷ ns) = name_expr n ∷ name_exprs ns

pub names_of_names : (ns : List Name) → names_if (name_exprs ns) ≡ Some ns
names_of_names [] = refl
names_of_names (n ∷ ns) = ap (push_name (Some n)) (names_of_names ns)

pub name_read : (ed : Edition) → (h : Bool) (n : Name) (us ws : List Lexeme) → IsExpr ed 5 h (name_expr n) us ws → (t : Lexeme) × Token kinds.Name t us ws × (n ≡ name_of t)
name_read ed h n us ws d =
    (d.0, d.1, ap (λ p. record { text = n.text; place = p }) d.2 ∙ ap (λ x. record { text = x; place = d.0.place }) d.3)

pub name_is_expr : (ed : Edition) → (h : Bool) (n : Name) (t : Lexeme) (us ws : List Lexeme) → Token kinds.Name t us ws → n ≡ name_of t → IsExpr ed 5 h (name_expr n) us ws
name_is_expr ed h n t us ws k q = (t, k, ap (λ (x : Name). x.place) q, ap (λ (x : Name). x.text) q)

pub more_names_back : (ed : Edition) → (h : Bool) (es : List Expression) (ns : List Name) (us ws : List Lexeme) → AreMoreExprs ed h (pack es) us ws → names_if es ≡ Some ns →
    AreMoreNames ns us ws
more_names_back ed h [] ns us ws d q =
    let c : Some [] ≡ Some ns = q in
    let e : [] ≡ ns = cc (c) in
    subst (λ x. AreMoreNames x us ws) e d
more_names_back ed h (e ∷ es) ns us ws d q =
    let s = push_split (name_if e) (names_if es) ns q in
    let r = name_read ed h s.0 d.1 d.2 (subst (λ x. IsExpr ed 5 h x d.1 d.2) (is_name e s.0 s.2) d.4) in
    subst (λ x. AreMoreNames x us ws) (sym s.4) (d.0, r.0, d.1, d.2, d.3, r.1, r.2, more_names_back ed h es s.1 d.2 ws d.5 s.3)

pub names_back : (ed : Edition) → (h : Bool) (e : Expression) (es : List Expression) (ns : List Name) (us vs ws : List Lexeme) → IsExpr ed 5 h e us vs → AreMoreExprs ed h (pack es) vs ws →
    names_if (e ∷ es) ≡ Some ns → AreNames ns us ws
names_back ed h e es ns us vs ws d more q =
    let s = push_split (name_if e) (names_if es) ns q in
    let r = name_read ed h s.0 us vs (subst (λ x. IsExpr ed 5 h x us vs) (is_name e s.0 s.2) d) in
    subst (λ x. AreNames x us ws) (sym s.4) (r.0, vs, r.1, r.2, more_names_back ed h es s.1 vs ws more s.3)

pub more_names_forth : (ed : Edition) → (h : Bool) (ns : List Name) (us ws : List Lexeme) → AreMoreNames ns us ws → AreMoreExprs ed h (pack (name_exprs ns)) us ws
more_names_forth ed h [] us ws d = d
more_names_forth ed h (n ∷ ns) us ws d = (d.0, d.2, d.3, d.4, name_is_expr ed h n d.1 d.2 d.3 d.5 d.6, more_names_forth ed h ns d.3 ws d.7)

-- some expressions have at least one level
pub exprs_height_positive : (ed : Edition) → (h : Bool) (es : ExpressionList) (us ws : List Lexeme) → AreExprs ed h es us ws → 1 ≤ exprs_height es
exprs_height_positive ed h no_exprs us ws d = absurd d
exprs_height_positive ed h (some_exprs e es) us ws d = omega (arith, height_positive e)

-- an expression and what continues it are a simple statement
pub simple_back : (ed : Edition) → (h : Bool) (e : Expression) (s : Simple) (us vs ws : List Lexeme) → IsExpr ed 5 h e us vs → Continues ed h (e ∷ []) s vs ws → IsSimple ed h s us ws
simple_back ed h e (call_statement a) us vs ws d c =
    let same : e ≡ a = let q : e ∷ [] ≡ a ∷ [] = c.0 in cc (q) in
    (subst (λ x. IsExpr ed 5 h x us ws) same (subst (λ x. IsExpr ed 5 h e us x) c.2 d), c.1)
simple_back ed h e (increment a) us vs ws d c =
    let same : e ≡ a = let q : e ∷ [] ≡ a ∷ [] = c.1 in cc (q) in
    (c.0, vs, subst (λ x. IsExpr ed 5 h x us vs) same d, c.2)
simple_back ed h e (decrement a) us vs ws d c =
    let same : e ≡ a = let q : e ∷ [] ≡ a ∷ [] = c.1 in cc (q) in
    (c.0, vs, subst (λ x. IsExpr ed 5 h x us vs) same d, c.2)
simple_back ed h e (assignment ls rs) us vs ws d c = (c.1, c.2, c.3, subst (λ x. AreExprs ed h x us c.2) (sym c.5) (vs, d, c.4), c.6, c.7)
simple_back ed h e (operator_assignment op l r) us vs ws d c =
    let same : e ≡ l = let q : e ∷ [] ≡ l ∷ [] = c.2 in cc (q) in
    (c.0, vs, c.1, subst (λ x. IsExpr ed 5 h x us vs) same d, c.3, c.4, c.5)
simple_back ed h e (short_var_decl ns rs) us vs ws d c = (c.1, c.2, c.3, names_back ed h e c.0 ns us vs c.2 d c.4 c.5, c.6, c.7)

-- the other way round
abbrev pub Begun : (ed : Edition) → Bool → Simple → List Lexeme → List Lexeme → Type 0
Begun ed h s us ws = (e : Expression) × (vs : List Lexeme) × IsExpr ed 5 h e us vs × Continues ed h (e ∷ []) s vs ws × (height e ≤ simple_height s)

pub simple_forth : (ed : Edition) → (h : Bool) (s : Simple) (us ws : List Lexeme) → IsSimple ed h s us ws → Begun ed h s us ws
simple_forth ed h (call_statement a) us ws d = (a, ws, d.0, (refl, d.1, refl), omega arith)
simple_forth ed h (increment a) us ws d = (a, d.1, d.2, (d.0, refl, d.3), omega arith)
simple_forth ed h (decrement a) us ws d = (a, d.1, d.2, (d.0, refl, d.3), omega arith)
simple_forth ed h (assignment no_exprs rs) us ws d = absurd d.3
simple_forth ed h (assignment (some_exprs e es) rs) us ws d = (
  e,
  d.3.0,
  d.3.1,
  (list_of es, d.0, d.1, d.2, subst (λ x. AreMoreExprs ed h x d.3.0 d.1) (sym (pack_list es)) d.3.2, ap (some_exprs e) (sym (pack_list es)), d.4, d.5),
  omega arith,
)
simple_forth ed h (operator_assignment op l r) us ws d = (l, d.1, d.3, (d.0, d.2, refl, d.4, d.5, d.6), omega arith)
simple_forth ed h (short_var_decl [] rs) us ws d = absurd d.3
simple_forth ed h (short_var_decl (n ∷ ns) rs) us ws d = (
  name_expr n,
  d.3.1,
  name_is_expr ed h n d.3.0 us d.3.1 d.3.2 d.3.3,
  (name_exprs ns, d.0, d.1, d.2, more_names_forth ed h ns d.3.1 d.1 d.3.4, names_of_names (n ∷ ns), d.4, d.5),
  exprs_height_positive ed h rs d.2 ws d.5,
)
