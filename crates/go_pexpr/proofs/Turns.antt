-- Where one state goes on as another does.
use Rattle.std.proofs.Common.{◌≡◌, ℕ, suc, ◌+◌, Bool, List, [], ◌∷◌, ◌++◌, Option, Some, None, refl, sym, ap, ◌∙◌, arith}
use Rattle.go_text.specs.declared.edition.Edition.{Edition}
use Rattle.go_scan.specs.declared.token.TokenKind.{TokenKind}
use Rattle.go_scan.specs.declared.token.TokenKind.TheVariants as kinds
use Rattle.go_scan.specs.declared.keyword.Keyword.TheVariants as keywords
use Rattle.go_ast.specs.Kinds.{same}
use Rattle.go_ast.specs.Expected.{Expected, an_operand, another}
use Rattle.go_ast.specs.Literals.{string_value, rune_value}
use Rattle.go_ast.specs.Operators.{unary_of}
use Rattle.go_ast.specs.Trees.{Name, TypeExpr, Expression, name, integer, rune, string, unary}
use Rattle.go_ast.specs.declared.expression.UnaryOperator.{UnaryOperator}
use Rattle.go_ast.specs.Grammar.{Lexeme, name_of, comma, opening, opening_bracket}
use Rattle.go_ast.specs.Machine.{Reader, Move, Take, Fail, token, type, expr, suffixes, operators, more_names, more_exprs, behind_name, behind_bracket, behind_struct, on_unary, keyword, behind_literal_type, behind_operand, behind_opening, parser_step, cond, Refused, run_parser}
use Rattle.go_pexpr.specs.Reads.{First, fault_of}
use Rattle.go_ast.proofs.Same.{not_same}
use Rattle.go_pexpr.specs.Next.{sign_at}
use Rattle.go_pexpr.specs.Turns.{behind_paren}
use Rattle.go_pexpr.proofs.Steps.{Kind, same_run, same_step, same_end, same_at, refuses, end_refuses, passed, chosen, cond_false}

-- more names, and their end
pub more_names_takes : (ed : Edition) → (front : List Name) (next : List Name → Reader) (ts : List Lexeme) → First (Kind comma) ts → run_parser ed 250 (more_names front next) ts ≡ run_parser ed 250 (token comma 0 another (λ _. token kinds.Name 0 another (λ n. more_names (front ++ name_of n ∷ []) next))) ts
more_names_takes ed front next ts h = same_at ed (more_names front next) (token comma 0 another (λ _. token kinds.Name 0 another (λ n. more_names (front ++ name_of n ∷ []) next))) comma ts h (λ text p. refl)

pub more_names_end : (ed : Edition) → (front : List Name) (next : List Name → Reader) (ts : List Lexeme) → (First (Kind comma) ts → ⊥) → run_parser ed 250 (more_names front next) ts ≡ run_parser ed 250 (next front) ts
more_names_end ed front next [] never = same_end ed (more_names front next) (next front) refl
more_names_end ed front next (t ∷ ts) never = same_step ed (more_names front next) (next front) t ts (passed comma t (Take 0 (token kinds.Name 0 another (λ n. more_names (front ++ name_of n ∷ []) next))) (parser_step ed (next front) t) never)

-- a type, by its first token
pub type_as_name : (ed : Edition) → (l : ℕ) (x : Expected) (next : TypeExpr → Reader) (ts : List Lexeme) → First (Kind kinds.Name) ts → run_parser ed 250 (type l x next) ts ≡ run_parser ed 250 (token kinds.Name l another (behind_name next)) ts
type_as_name ed l x next ts h = same_at ed (type l x next) (token kinds.Name l another (behind_name next)) kinds.Name ts h (λ text p. refl)

pub type_as_array : (ed : Edition) → (l : ℕ) (x : Expected) (next : TypeExpr → Reader) (ts : List Lexeme) → First (Kind opening_bracket) ts → run_parser ed 250 (type l x next) ts ≡ run_parser ed 250 (token opening_bracket (l + 1) another (behind_bracket l next)) ts
type_as_array ed l x next ts h = same_at ed (type l x next) (token opening_bracket (l + 1) another (behind_bracket l next)) opening_bracket ts h (λ text p. refl)

pub type_as_struct : (ed : Edition) → (l : ℕ) (x : Expected) (next : TypeExpr → Reader) (ts : List Lexeme) → First (Kind (keyword keywords.Struct)) ts → run_parser ed 250 (type l x next) ts ≡ run_parser ed 250 (token (keyword keywords.Struct) l another (behind_struct l next)) ts
type_as_struct ed l x next ts h = same_at ed (type l x next) (token (keyword keywords.Struct) l another (behind_struct l next)) (keyword keywords.Struct) ts h (λ text p. refl)

pub type_fails : (ed : Edition) → (l : ℕ) (x : Expected) (next : TypeExpr → Reader) (ts : List Lexeme) → (First (Kind kinds.Name) ts → ⊥) → (First (Kind opening_bracket) ts → ⊥) → (First (Kind (keyword keywords.Struct)) ts → ⊥) → run_parser ed 250 (type l x next) ts ≡ Refused (fault_of x ts) ts
type_fails ed l x next [] a b c = end_refuses ed (type l x next) refl
type_fails ed l x next (t ∷ ts) a b c = refuses ed (type l x next) x t ts (
    passed kinds.Name t (Take l (behind_name next t)) (cond (same opening_bracket t.kind) (Take (l + 1) (behind_bracket l next t)) (cond (same (keyword keywords.Struct) t.kind) (Take l (behind_struct l next t)) (Fail x))) a
    ∙ passed opening_bracket t (Take (l + 1) (behind_bracket l next t)) (cond (same (keyword keywords.Struct) t.kind) (Take l (behind_struct l next t)) (Fail x)) b
    ∙ passed (keyword keywords.Struct) t (Take l (behind_struct l next t)) (Fail x) c)

-- an expression begins with one that is tighter
abbrev first_operand : ℕ → Bool → ℕ → (Expression → Reader) → Lexeme → Move → Move
first_operand n h l next t last =
    cond (same kinds.Name t.kind) (Take l (behind_operand n h l next (name t.place t.text)))
    (cond (same kinds.Integer t.kind) (Take l (behind_operand n h l next (integer t.place t.text)))
    (cond (same kinds.Rune t.kind) (Take l (behind_operand n h l next (rune t.place (rune_value t.text))))
    (cond (same kinds.String t.kind) (Take l (behind_operand n h l next (string t.place (string_value t.text))))
    (cond (same opening t.kind) (Take (l + 1) (behind_opening n h l next t))
    (cond (same opening_bracket t.kind) (Take (l + 2) (behind_bracket (l + 1) (behind_literal_type l (behind_operand n h l next)) t))
    (cond (same (keyword keywords.Struct) t.kind) (Take (l + 1) (behind_struct (l + 1) (behind_literal_type l (behind_operand n h l next)) t)) last))))))

by_sign : (n : ℕ) (h : Bool) (l : ℕ) (x : Expected) (next : Expression → Reader) (t : Lexeme) (o : Option UnaryOperator) → on_unary (suc n) h l next t (Fail x) o ≡ on_unary n h l (λ a. operators n h l a next) t (Fail x) o
by_sign n h l x next t None = refl
by_sign n h l x next t (Some op) = refl

pub splits : (ed : Edition) → (n : ℕ) (h : Bool) (l : ℕ) (x : Expected) (next : Expression → Reader) (ts : List Lexeme) → run_parser ed 250 (expr (suc n) h l x next) ts ≡ run_parser ed 250 (expr n h l x (λ a. operators n h l a next)) ts
splits ed n h l x next ts =
    same_run ed (expr (suc n) h l x next) (expr n h l x (λ a. operators n h l a next)) ts
    (λ t. ap (first_operand n h l (λ a. operators n h l a next) t) (by_sign n h l x next t (unary_of t.kind))) refl

-- the kind of the first token, or any
abbrev pub kind_at : List Lexeme → TokenKind
kind_at [] = kinds.Name
kind_at (t ∷ ts) = t.kind

some_none : {A : Type 0} (o : Option A) (a : A) → o ≡ Some a → o ≡ None → ⊥
some_none o a e f = cc (e, f)

-- an expression without operators between operands, by its first token
pub expr_as_name : (ed : Edition) → (h : Bool) (l : ℕ) (x : Expected) (next : Expression → Reader) (ts : List Lexeme) → First (Kind kinds.Name) ts → run_parser ed 250 (expr 0 h l x next) ts ≡ run_parser ed 250 (token kinds.Name l another (λ t. suffixes h l (name t.place t.text) next)) ts
expr_as_name ed h l x next ts f = same_at ed (expr 0 h l x next) (token kinds.Name l another (λ t. suffixes h l (name t.place t.text) next)) kinds.Name ts f (λ text p. refl)

pub expr_as_integer : (ed : Edition) → (h : Bool) (l : ℕ) (x : Expected) (next : Expression → Reader) (ts : List Lexeme) → First (Kind kinds.Integer) ts → run_parser ed 250 (expr 0 h l x next) ts ≡ run_parser ed 250 (token kinds.Integer l another (λ t. suffixes h l (integer t.place t.text) next)) ts
expr_as_integer ed h l x next ts f = same_at ed (expr 0 h l x next) (token kinds.Integer l another (λ t. suffixes h l (integer t.place t.text) next)) kinds.Integer ts f (λ text p. refl)

pub expr_as_rune : (ed : Edition) → (h : Bool) (l : ℕ) (x : Expected) (next : Expression → Reader) (ts : List Lexeme) → First (Kind kinds.Rune) ts → run_parser ed 250 (expr 0 h l x next) ts ≡ run_parser ed 250 (token kinds.Rune l another (λ t. suffixes h l (rune t.place (rune_value t.text)) next)) ts
expr_as_rune ed h l x next ts f = same_at ed (expr 0 h l x next) (token kinds.Rune l another (λ t. suffixes h l (rune t.place (rune_value t.text)) next)) kinds.Rune ts f (λ text p. refl)

pub expr_as_string : (ed : Edition) → (h : Bool) (l : ℕ) (x : Expected) (next : Expression → Reader) (ts : List Lexeme) → First (Kind kinds.String) ts → run_parser ed 250 (expr 0 h l x next) ts ≡ run_parser ed 250 (token kinds.String l another (λ t. suffixes h l (string t.place (string_value t.text)) next)) ts
expr_as_string ed h l x next ts f = same_at ed (expr 0 h l x next) (token kinds.String l another (λ t. suffixes h l (string t.place (string_value t.text)) next)) kinds.String ts f (λ text p. refl)

pub expr_as_paren : (ed : Edition) → (h : Bool) (l : ℕ) (x : Expected) (next : Expression → Reader) (ts : List Lexeme) → First (Kind opening) ts → run_parser ed 250 (expr 0 h l x next) ts ≡ run_parser ed 250 (token opening (l + 1) another (behind_paren l (λ e. suffixes h l e next))) ts
expr_as_paren ed h l x next ts f = same_at ed (expr 0 h l x next) (token opening (l + 1) another (behind_paren l (λ e. suffixes h l e next))) opening ts f (λ text p. refl)

pub expr_as_array : (ed : Edition) → (h : Bool) (l : ℕ) (x : Expected) (next : Expression → Reader) (ts : List Lexeme) → First (Kind opening_bracket) ts → run_parser ed 250 (expr 0 h l x next) ts ≡ run_parser ed 250 (token opening_bracket (l + 1 + 1) another (behind_bracket (l + 1) (behind_literal_type l (λ e. suffixes h l e next)))) ts
expr_as_array ed h l x next ts f =
    let two : l + 2 ≡ l + 1 + 1 = omega arith in
    same_at ed (expr 0 h l x next) (token opening_bracket (l + 1 + 1) another (behind_bracket (l + 1) (behind_literal_type l (λ e. suffixes h l e next)))) opening_bracket ts f
    (λ text p. ap (λ n. Take n (behind_bracket (l + 1) (behind_literal_type l (λ e. suffixes h l e next)) (record { kind = opening_bracket; text = text; place = p }))) two)

pub expr_as_struct : (ed : Edition) → (h : Bool) (l : ℕ) (x : Expected) (next : Expression → Reader) (ts : List Lexeme) → First (Kind (keyword keywords.Struct)) ts → run_parser ed 250 (expr 0 h l x next) ts ≡ run_parser ed 250 (token (keyword keywords.Struct) (l + 1) another (behind_struct (l + 1) (behind_literal_type l (λ e. suffixes h l e next)))) ts
expr_as_struct ed h l x next ts f = same_at ed (expr 0 h l x next) (token (keyword keywords.Struct) (l + 1) another (behind_struct (l + 1) (behind_literal_type l (λ e. suffixes h l e next)))) (keyword keywords.Struct) ts f (λ text p. refl)

-- past the first tokens of operands
past : (h : Bool) (l : ℕ) (next : Expression → Reader) (t : Lexeme) (last : Move) → (Kind kinds.Name t → ⊥) → (Kind kinds.Integer t → ⊥) → (Kind kinds.Rune t → ⊥) → (Kind kinds.String t → ⊥) → (Kind opening t → ⊥) → (Kind opening_bracket t → ⊥) → (Kind (keyword keywords.Struct) t → ⊥) → first_operand 0 h l next t last ≡ last
past h l next t last a b c d e f g =
    cond_false (same kinds.Name t.kind) _ _ (not_same kinds.Name t.kind a)
    ∙ cond_false (same kinds.Integer t.kind) _ _ (not_same kinds.Integer t.kind b)
    ∙ cond_false (same kinds.Rune t.kind) _ _ (not_same kinds.Rune t.kind c)
    ∙ cond_false (same kinds.String t.kind) _ _ (not_same kinds.String t.kind d)
    ∙ cond_false (same opening t.kind) _ _ (not_same opening t.kind e)
    ∙ cond_false (same opening_bracket t.kind) _ _ (not_same opening_bracket t.kind f)
    ∙ cond_false (same (keyword keywords.Struct) t.kind) _ _ (not_same (keyword keywords.Struct) t.kind g)

pub expr_fails : (ed : Edition) → (h : Bool) (l : ℕ) (x : Expected) (next : Expression → Reader) (ts : List Lexeme) → sign_at ts ≡ None → (First (Kind kinds.Name) ts → ⊥) → (First (Kind kinds.Integer) ts → ⊥) → (First (Kind kinds.Rune) ts → ⊥) → (First (Kind kinds.String) ts → ⊥) → (First (Kind opening) ts → ⊥) → (First (Kind opening_bracket) ts → ⊥) → (First (Kind (keyword keywords.Struct)) ts → ⊥) → run_parser ed 250 (expr 0 h l x next) ts ≡ Refused (fault_of x ts) ts
expr_fails ed h l x next [] q a b c d e f g = end_refuses ed (expr 0 h l x next) refl
expr_fails ed h l x next (t ∷ ts) q a b c d e f g =
    refuses ed (expr 0 h l x next) x t ts (past h l next t (on_unary 0 h l next t (Fail x) (unary_of t.kind)) a b c d e f g ∙ ap (on_unary 0 h l next t (Fail x)) q)

pub sign_first : (ts : List Lexeme) (op : UnaryOperator) → sign_at ts ≡ Some op → First (Kind (kind_at ts)) ts
sign_first [] op e = cc (e)
sign_first (t ∷ ts) op e = refl

pub expr_as_sign : (ed : Edition) → (h : Bool) (l : ℕ) (x : Expected) (next : Expression → Reader) (ts : List Lexeme) (op : UnaryOperator) → sign_at ts ≡ Some op → run_parser ed 250 (expr 0 h l x next) ts ≡ run_parser ed 250 (token (kind_at ts) (l + 1) another (λ t. expr 0 h (l + 1) an_operand (λ e. next (unary t.place op e)))) ts
expr_as_sign ed h l x next [] op q = cc (q)
expr_as_sign ed h l x next (t ∷ ts) op q =
    let no = λ (k : TokenKind) (e : t.kind ≡ k) (f : unary_of k ≡ None). some_none (unary_of t.kind) op q (ap unary_of e ∙ f) in
    same_step ed (expr 0 h l x next) (token t.kind (l + 1) another (λ u. expr 0 h (l + 1) an_operand (λ e. next (unary u.place op e)))) t ts (
    past h l next t (on_unary 0 h l next t (Fail x) (unary_of t.kind)) (λ e. no kinds.Name e refl) (λ e. no kinds.Integer e refl) (λ e. no kinds.Rune e refl) (λ e. no kinds.String e refl) (λ e. no opening e refl) (λ e. no opening_bracket e refl) (λ e. no (keyword keywords.Struct) e refl)
    ∙ ap (on_unary 0 h l next t (Fail x)) q
    ∙ sym (chosen t.kind t (Take (l + 1) (expr 0 h (l + 1) an_operand (λ e. next (unary t.place op e)))) (Fail another) refl))

-- more expressions, and their end
pub more_exprs_takes : (ed : Edition) → (h : Bool) (l : ℕ) (front : List Expression) (next : List Expression → Reader) (ts : List Lexeme) → First (Kind comma) ts → run_parser ed 250 (more_exprs h l front next) ts ≡ run_parser ed 250 (token comma 0 another (λ _. expr 5 h l an_operand (λ e. more_exprs h l (front ++ e ∷ []) next))) ts
more_exprs_takes ed h l front next ts f = same_at ed (more_exprs h l front next) (token comma 0 another (λ _. expr 5 h l an_operand (λ e. more_exprs h l (front ++ e ∷ []) next))) comma ts f (λ text p. refl)

pub more_exprs_end : (ed : Edition) → (h : Bool) (l : ℕ) (front : List Expression) (next : List Expression → Reader) (ts : List Lexeme) → (First (Kind comma) ts → ⊥) → run_parser ed 250 (more_exprs h l front next) ts ≡ run_parser ed 250 (next front) ts
more_exprs_end ed h l front next [] never = same_end ed (more_exprs h l front next) (next front) refl
more_exprs_end ed h l front next (t ∷ ts) never = same_step ed (more_exprs h l front next) (next front) t ts (passed comma t (Take 0 (expr 5 h l an_operand (λ e. more_exprs h l (front ++ e ∷ []) next))) (parser_step ed (next front) t) never)
