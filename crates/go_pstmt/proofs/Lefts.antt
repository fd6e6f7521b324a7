-- What is due behind left sides, by the next token.
use Rattle.std.proofs.Common.{◌≡◌, ℕ, ◌+◌, ◌≤◌, Bool, true, false, ◌&&◌, List, [], ◌∷◌, ◌++◌, length, map, take, get_or, zero, suc, ◌<◌, Option, Some, None, refl, sym, ap, ◌∙◌, subst, arith}
use Rattle.go_scan.specs.declared.token.TokenKind.{TokenKind}
use Rattle.go_scan.specs.declared.token.TokenKind.TheVariants as kinds
use Rattle.go_scan.specs.declared.punctuation.Punctuation.TheVariants as marks
use Rattle.go_scan.specs.declared.keyword.Keyword.TheVariants as keywords
use Rattle.go_text.specs.declared.place.Place.{Place}
use Rattle.go_ast.specs.declared.expression.BinaryOperator.{BinaryOperator}
use Rattle.go_ast.specs.declared.expression.Expr.{Expr}
use Rattle.go_ast.specs.Kinds.{same}
use Rattle.go_ast.proofs.Same.{are_same}
use Rattle.go_ast.specs.Trees as trees
use Rattle.go_ast.specs.Expected.{Expected, another, an_operand, a_value}
use Rattle.go_ast.specs.Grammar.{Lexeme, comma, assign, define, opening_brace, is_call}
use Rattle.go_ast.specs.Machine as machine
use Rattle.go_ast.specs.Machine.{Reader, token, expr, more_exprs, lefts, Move, Take, Fail, cond, parser_step, final, final_if, Refused, run_parser, keyword, names_if, may_define, is_header, on_define, behind_define, short_var_decl_values, on_assignment, behind_left}
use Rattle.go_ast.specs.Views.{expr_of, exprs_in, if_some}
use Rattle.go_ast.specs.Expected as expected
use Rattle.go_ast.proofs.Rows.{placed}
use Rattle.std.proofs.lemmas.Grind.{take_at_read}
use Rattle.go_text.specs.declared.edition.Edition.{Edition}
use Rattle.go_pexpr.specs.Reads.{First, first_kind, fault_of}
use Rattle.go_pexpr.proofs.Steps.{Kind, same_step, same_end, same_at, passed, chosen, refuses, end_refuses, optional_some, optional_none}
use Rattle.go_pstmt.specs.declared.simple.Position.{Position}
use Rattle.go_pstmt.specs.declared.simple.Position.TheVariants as position
use Rattle.go_pstmt.specs.Statements.{Does, on_one, on_alone, at_one, assignment_operator, position_of, is_bare}

pub false_true : false ≡ true → ⊥
false_true e = cc (e)

pub none_some : {A : Type 0} {a : A} → None ≡ Some a → ⊥
none_some e = cc (e)

-- a list of one
pub only : {X : Type 0} (xs : List X) → length xs ≡ 1 → (x : X) × (xs ≡ x ∷ [])
only [] e = absurd (omega arith)
only (x ∷ []) e = (x, refl)
only (x ∷ y ∷ xs) e = absurd (omega arith)

abbrev first_or : {X : Type 0} → X → List X → X
first_or d [] = d
first_or d (x ∷ xs) = x

pub same_only : {X : Type 0} (xs : List X) (x y : X) → xs ≡ x ∷ [] → xs ≡ y ∷ [] → x ≡ y
same_only xs x y e f = sym (ap (first_or x) e) ∙ ap (first_or x) f

-- what a state does with a token of a kind, another does too
pub does_at : (ed : Edition) → (before s : Reader) (on : Lexeme → Move) (end : Option trees.File) (k : TokenKind) (ts : List Lexeme) → Does ed before on end ts → First (Kind k) ts →
    ((text : List ℕ) (p : Place) → on (record { kind = k; text = text; place = p }) ≡ parser_step ed s (record { kind = k; text = text; place = p })) → run_parser ed 250 before ts ≡ run_parser ed 250 s ts
does_at ed before s on end k [] d f e = absurd f
does_at ed before s on end k (t ∷ ts) d f e =
    let P : TokenKind → Type 0 = λ j. on (record { kind = j; text = t.text; place = t.place }) ≡ parser_step ed s (record { kind = j; text = t.text; place = t.place }) in
    same_step ed before s t ts (d ∙ subst P (sym f) (e t.text t.place))

-- and with any
pub does_as : (ed : Edition) → (before s : Reader) (on : Lexeme → Move) (end : Option trees.File) (ts : List Lexeme) → Does ed before on end ts → Does ed s on end ts → run_parser ed 250 before ts ≡ run_parser ed 250 s ts
does_as ed before s on end [] d e = same_end ed before s (d ∙ sym e)
does_as ed before s on end (t ∷ ts) d e = same_step ed before s t ts (d ∙ sym e)

pub does_refuse : (ed : Edition) → (before : Reader) (on : Lexeme → Move) (x : Expected) (ts : List Lexeme) → Does ed before (λ t. Fail x) None ts → run_parser ed 250 before ts ≡ Refused (fault_of x ts) ts
does_refuse ed before on x [] d = end_refuses ed before d
does_refuse ed before on x (t ∷ ts) d = refuses ed before x t ts d

module _ (ed : Edition) (m : machine.Position) (h : Bool) (l : ℕ) (next : trees.Simple → Reader) (alone : trees.Expression → Reader) (range : trees.Name → trees.Expression → Reader) where
  pub lefts_comma : (front : List trees.Expression) (ts : List Lexeme) → 1 ≤ length front → First (Kind comma) ts →
      run_parser ed 250 (lefts m h l front next alone range) ts ≡ run_parser ed 250 (token comma 0 another (λ _. expr 5 h l an_operand (λ e. lefts m h l (front ++ e ∷ []) next alone range))) ts
  lefts_comma [] ts le f = absurd (omega arith)
  lefts_comma (e ∷ []) ts le f = same_at ed _ _ comma ts f (λ text p. refl)
  lefts_comma (e ∷ d ∷ es) ts le f = same_at ed _ _ comma ts f (λ text p. refl)

  pub lefts_assign : (front : List trees.Expression) (ts : List Lexeme) → 1 ≤ length front → First (Kind assign) ts →
      run_parser ed 250 (lefts m h l front next alone range) ts ≡ run_parser ed 250 (token assign 0 another (λ _. expr 5 h l a_value (λ e. more_exprs h l (e ∷ []) (λ es. next (trees.assignment (trees.pack front) (trees.pack es)))))) ts
  lefts_assign [] ts le f = absurd (omega arith)
  lefts_assign (e ∷ []) ts le f = same_at ed _ _ assign ts f (λ text p. refl)
  lefts_assign (e ∷ d ∷ es) ts le f = same_at ed _ _ assign ts f (λ text p. refl)

  define_takes : (t : Lexeme) (other : Move) (o : Option (List trees.Name)) (ns : List trees.Name) → same define t.kind ≡ true → may_define m ≡ true → o ≡ Some ns → on_define m h l next range t other o ≡ Take 0 (behind_define m h l ns next range)
  define_takes t other o ns d may e =
      ap (on_define m h l next range t other) e
      ∙ ap (λ b. cond (b && may_define m) (Take 0 (behind_define m h l ns next range)) other) d
      ∙ ap (λ b. cond b (Take 0 (behind_define m h l ns next range)) other) may

  pub lefts_define : (front : List trees.Expression) (ns : List trees.Name) (ts : List Lexeme) → 1 ≤ length front → First (Kind define) ts → may_define m ≡ true → names_if front ≡ Some ns →
      run_parser ed 250 (lefts m h l front next alone range) ts ≡ run_parser ed 250 (token define 0 another (λ _. behind_define m h l ns next range)) ts
  lefts_define [] ns ts le f may e = absurd (omega arith)
  lefts_define (a ∷ []) ns ts le f may e = same_at ed _ _ define ts f (λ text p. define_takes (record { kind = define; text = text; place = p }) _ (names_if (a ∷ [])) ns refl may e)
  lefts_define (a ∷ b ∷ es) ns ts le f may e = same_at ed _ _ define ts f (λ text p. define_takes (record { kind = define; text = text; place = p }) _ (names_if (a ∷ b ∷ es)) ns refl may e)

  not_both : (b c : Bool) (x y : Move) → (b ≡ true → c ≡ true → ⊥) → cond (b && c) x y ≡ y
  not_both true true x y never = absurd (never refl refl)
  not_both true false x y never = refl
  not_both false c x y never = refl

  not_defined : (t : Lexeme) (other : Move) (o : Option (List trees.Name)) → (same define t.kind ≡ true → may_define m ≡ true → o ≡ None) → on_define m h l next range t other o ≡ other
  not_defined t other None never = refl
  not_defined t other (Some ns) never = not_both (same define t.kind) (may_define m) _ _ (λ a b. none_some (sym (never a b)))

  -- one left side, behind which neither another nor `=` nor a short variable declaration comes
  pub lefts_one : (e : trees.Expression) (ts : List Lexeme) → (First (Kind comma) ts → ⊥) → (First (Kind assign) ts → ⊥) → (First (Kind define) ts → may_define m ≡ true → names_if (e ∷ []) ≡ None) →
      Does ed (lefts m h l (e ∷ []) next alone range) (on_one ed m h l e next alone) (at_one e next) ts
  lefts_one e [] c a d = refl
  lefts_one e (t ∷ ts) c a d =
      passed comma t _ _ c ∙ passed assign t _ _ a ∙ not_defined t _ (names_if (e ∷ [])) (λ b may. d (are_same define t.kind b) may)

  pub lefts_refused : (front : List trees.Expression) (ts : List Lexeme) → 2 ≤ length front → (First (Kind comma) ts → ⊥) → (First (Kind assign) ts → ⊥) → (First (Kind define) ts → may_define m ≡ true → names_if front ≡ None) →
      run_parser ed 250 (lefts m h l front next alone range) ts ≡ Refused (fault_of another ts) ts
  lefts_refused [] ts le c a d = absurd (omega arith)
  lefts_refused (e ∷ []) ts le c a d = absurd (omega arith)
  lefts_refused (e ∷ f ∷ es) [] le c a d = end_refuses ed _ refl
  lefts_refused (e ∷ f ∷ es) (t ∷ ts) le c a d =
      refuses ed _ another t ts (passed comma t _ _ c ∙ passed assign t _ _ a ∙ not_defined t _ (names_if (e ∷ f ∷ es)) (λ b may. d (are_same define t.kind b) may))

-- behind `:=`
module _ (ed : Edition) (l : ℕ) (next : trees.Simple → Reader) (range : trees.Name → trees.Expression → Reader) (ts : List Lexeme) where
  pub define_range : (p : Position) (ns : List trees.Name) (n : trees.Name) → p ≡ position.For → ns ≡ n ∷ [] → First (Kind (keyword keywords.Range)) ts →
      run_parser ed 250 (behind_define (position_of p) (is_bare p) l ns next range) ts ≡ run_parser ed 250 (token (keyword keywords.Range) 0 another (λ _. expr 5 true l an_operand (λ e. range n e))) ts
  define_range p ns n e f first =
      ap (λ q. run_parser ed 250 (behind_define (position_of q) (is_bare q) l ns next range) ts) e
      ∙ ap (λ xs. run_parser ed 250 (behind_define machine.in_for true l xs next range) ts) f
      ∙ optional_some ed (keyword keywords.Range) 0 another _ _ ts first

  pub define_values : (p : Position) (ns : List trees.Name) → ((p ≡ position.For) × (length ns ≡ 1) × First (Kind (keyword keywords.Range)) ts → ⊥) →
      run_parser ed 250 (behind_define (position_of p) (is_bare p) l ns next range) ts ≡ run_parser ed 250 (short_var_decl_values (is_bare p) l ns next) ts
  define_values position.For [] never = refl
  define_values position.For (n ∷ []) never = optional_none ed (keyword keywords.Range) 0 _ _ ts (λ f. never (refl, refl, f))
  define_values position.For (n ∷ k ∷ ns) never = refl
  define_values position.List ns never = refl
  define_values position.Header ns never = refl
  define_values position.Turns ns never = refl

-- behind one left side
module _ (ed : Edition) (m : machine.Position) (h : Bool) (l : ℕ) (e : trees.Expression) (next : trees.Simple → Reader) (alone : trees.Expression → Reader) (before : Reader) where
  -- an assignment by an operator
  pub by_operator : (op : BinaryOperator) (ts : List Lexeme) → Does ed before (on_one ed m h l e next alone) (at_one e next) ts →
      (First (Kind (kinds.Punctuation marks.Increment)) ts → ⊥) → (First (Kind (kinds.Punctuation marks.Decrement)) ts → ⊥) → assignment_operator (first_kind ts) ≡ Some op →
      (k : TokenKind) × First (Kind k) ts × (run_parser ed 250 before ts ≡ run_parser ed 250 (token k 0 another (λ _. expr 5 h l an_operand (λ r. next (trees.operator_assignment op e r)))) ts)
  by_operator op [] does i d q = absurd (none_some q)
  by_operator op (t ∷ ts) does i d q = (
    t.kind,
    refl,
    same_step ed before _ t ts (does
        ∙ passed (kinds.Punctuation marks.Increment) t _ _ i ∙ passed (kinds.Punctuation marks.Decrement) t _ _ d
        ∙ ap (on_assignment h l e next (on_alone ed m e next alone t)) q
        ∙ sym (chosen t.kind t _ _ refl)),
  )

  pub by_none : (ts : List Lexeme) → Does ed before (on_one ed m h l e next alone) (at_one e next) ts →
      (First (Kind (kinds.Punctuation marks.Increment)) ts → ⊥) → (First (Kind (kinds.Punctuation marks.Decrement)) ts → ⊥) → assignment_operator (first_kind ts) ≡ None →
      Does ed before (on_alone ed m e next alone) (at_one e next) ts
  by_none [] does i d q = does
  by_none (t ∷ ts) does i d q =
      does ∙ passed (kinds.Punctuation marks.Increment) t _ _ i ∙ passed (kinds.Punctuation marks.Decrement) t _ _ d
      ∙ ap (on_assignment h l e next (on_alone ed m e next alone t)) q

  -- an expression in front of a block, a call, and another
  pub by_block : (ts : List Lexeme) → Does ed before (on_alone ed m e next alone) (at_one e next) ts → is_header m ≡ true → First (Kind opening_brace) ts → run_parser ed 250 before ts ≡ run_parser ed 250 (alone e) ts
  by_block [] does i f = absurd f
  by_block (t ∷ ts) does i f = same_step ed before (alone e) t ts (does
      ∙ ap (λ b. cond (b && same opening_brace t.kind) (parser_step ed (alone e) t) (cond (is_call e) (parser_step ed (next (trees.call_statement e)) t) (Fail (behind_left m e)))) i ∙ chosen opening_brace t _ _ f)

  not_block : (t : Lexeme) (x y : Move) → ((is_header m ≡ true) × Kind opening_brace t → ⊥) → cond (is_header m && same opening_brace t.kind) x y ≡ y
  not_block t x y never = both (is_header m) (same opening_brace t.kind) (λ a b. never (a, are_same opening_brace t.kind b))
    where
      both : (b c : Bool) (h : b ≡ true → c ≡ true → ⊥) → cond (b && c) x y ≡ y
      both true true h = absurd (h refl refl)
      both true false h = refl
      both false c h = refl

  pub by_call : (ts : List Lexeme) → Does ed before (on_alone ed m e next alone) (at_one e next) ts → ((is_header m ≡ true) × First (Kind opening_brace) ts → ⊥) → is_call e ≡ true →
      run_parser ed 250 before ts ≡ run_parser ed 250 (next (trees.call_statement e)) ts
  by_call [] does never c = same_end ed before (next (trees.call_statement e)) (does ∙ ap (λ b. final_if b (final (next (trees.call_statement e)))) c)
  by_call (t ∷ ts) does never c = same_step ed before (next (trees.call_statement e)) t ts (does ∙ not_block t _ _ never
      ∙ ap (λ b. cond b (parser_step ed (next (trees.call_statement e)) t) (Fail (behind_left m e))) c)

  pub by_other : (ts : List Lexeme) → Does ed before (on_alone ed m e next alone) (at_one e next) ts → ((is_header m ≡ true) × First (Kind opening_brace) ts → ⊥) → is_call e ≡ false →
      run_parser ed 250 before ts ≡ Refused (fault_of (behind_left m e) ts) ts
  by_other [] does never c = end_refuses ed before (does ∙ ap (λ b. final_if b (final (next (trees.call_statement e)))) c)
  by_other (t ∷ ts) does never c = refuses ed before (behind_left m e) t ts (does ∙ not_block t _ _ never
      ∙ ap (λ b. cond b (parser_step ed (next (trees.call_statement e)) t) (Fail (behind_left m e))) c)

-- names

push_none : (o : Option trees.Name) → machine.push_name o None ≡ None
push_none None = refl
push_none (Some n) = refl

pub name_fails : (xs : List trees.Expression) (x : trees.Expression) (ys : List trees.Expression) → machine.name_if x ≡ None → names_if (xs ++ x ∷ ys) ≡ None
name_fails [] x ys e = ap (λ o. machine.push_name o (names_if ys)) e
name_fails (z ∷ xs) x ys e = ap (machine.push_name (machine.name_if z)) (name_fails xs x ys e) ∙ push_none (machine.name_if z)

abbrev add_name : Option (List trees.Name) → trees.Name → Option (List trees.Name)
add_name None n = None
add_name (Some ns) n = Some (ns ++ n ∷ [])

push_add : (o : Option trees.Name) (p : Option (List trees.Name)) (n : trees.Name) → machine.push_name o (add_name p n) ≡ add_name (machine.push_name o p) n
push_add None None n = refl
push_add None (Some ns) n = refl
push_add (Some m) None n = refl
push_add (Some m) (Some ns) n = refl

names_add : (xs : List trees.Expression) (x : trees.Expression) (n : trees.Name) → machine.name_if x ≡ Some n → names_if (xs ++ x ∷ []) ≡ add_name (names_if xs) n
names_add [] x n e = ap (λ o. machine.push_name o (Some [])) e
names_add (z ∷ xs) x n e = ap (machine.push_name (machine.name_if z)) (names_add xs x n e) ∙ push_add (machine.name_if z) (names_if xs) n

pub name_added : (xs : List trees.Expression) (x : trees.Expression) (n : trees.Name) (ns : List trees.Name) → names_if xs ≡ Some ns → machine.name_if x ≡ Some n → names_if (xs ++ x ∷ []) ≡ Some (ns ++ n ∷ [])
name_added xs x n ns e f = names_add xs x n f ∙ ap (λ o. add_name o n) e

-- expressions that were read

pub some_exprs : (xs : List Expr) → 1 ≤ length xs → 1 ≤ length (map expr_of xs)
some_exprs [] le = absurd (omega arith)
some_exprs (x ∷ xs) le = omega arith

pub some_pushed : {X : Type 0} (xs : List X) (x : X) → 1 ≤ length (xs ++ x ∷ [])
some_pushed [] x = omega arith
some_pushed (y ∷ xs) x = omega arith

pub pushed : {X Y : Type 0} (f : X → Y) (xs : List X) (x : X) → map f (xs ++ x ∷ []) ≡ map f xs ++ f x ∷ []
pushed f [] x = refl
pushed f (y ∷ xs) x = ap (λ zs. f y ∷ zs) (pushed f xs x)

pub names_stop : (xs : List Expr) (i : ℕ) (d : Expr) → i < length xs → d ≡ get_or xs i d → machine.name_if (expr_of d) ≡ None → names_if (map expr_of xs) ≡ None
names_stop [] i d lt e f = absurd (omega arith)
names_stop (x ∷ xs) zero d lt e f =
    ap (λ (y : Expr). machine.push_name (machine.name_if (expr_of y)) (names_if (map expr_of xs))) (sym e) ∙ ap (λ o. machine.push_name o (names_if (map expr_of xs))) f
names_stop (x ∷ xs) (suc i) d lt e f =
    ap (machine.push_name (machine.name_if (expr_of x))) (names_stop xs i d (omega (arith, lt)) e f) ∙ push_none (machine.name_if (expr_of x))

pub names_step : (xs : List Expr) (i : ℕ) (d : Expr) (n : trees.Name) (ns : List trees.Name) → i < length xs → d ≡ get_or xs i d → names_if (map expr_of (take i xs)) ≡ Some ns → machine.name_if (expr_of d) ≡ Some n →
    names_if (map expr_of (take (i + 1) xs)) ≡ Some (ns ++ n ∷ [])
names_step xs i d n ns lt e inv f =
    ap (λ (ys : List Expr). names_if (map expr_of ys)) ((take_at_read xs i d lt).1 ∙ ap (λ (y : Expr). take i xs ++ y ∷ []) (sym e))
    ∙ ap names_if (pushed expr_of (take i xs) d) ∙ name_added (map expr_of (take i xs)) (expr_of d) n ns inv f

-- what is expected behind a name, and behind another expression
pub behind_name : (e : trees.Expression) (n : trees.Name) → machine.name_if e ≡ Some n → behind_left machine.in_list e ≡ expected.behind_a_name
behind_name (trees.name p text) n q = refl
behind_name _ n q = absurd (none_some q)

pub behind_another : (e : trees.Expression) → machine.name_if e ≡ None → behind_left machine.in_list e ≡ another
behind_another (trees.name p text) q = absurd (none_some (sym q))
behind_another _ q = refl

-- places

pub first_seen : (xs : List Expr) (d : Expr) (p : Place) → 1 ≤ length xs → d ≡ get_or xs 0 d → d.place ≡ trees.first_place p (exprs_in xs)
first_seen [] d p le e = absurd (omega arith)
first_seen (x ∷ xs) d p le e = ap (λ (y : Expr). y.place) e ∙ sym (placed x)

pub two_exprs : (xs : List Expr) → 1 ≤ length xs → (length xs ≡ 1 → ⊥) → 2 ≤ length (map expr_of xs)
two_exprs [] le ne = absurd (omega arith)
two_exprs (x ∷ []) le ne = absurd (ne refl)
two_exprs (x ∷ y ∷ xs) le ne = omega arith

pub if_none : {A B : Type 0} (f : A → B) (o : Option A) (p : Option B) → if_some f o ≡ p → o ≡ None → p ≡ None
if_none f o p e n = sym e ∙ ap (if_some f) n
