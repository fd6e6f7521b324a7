-- What is expected where a token may not come, and which tokens may.
use Rattle.std.proofs.Common.{◌≡◌, ℕ, ◌+◌, Bool, true, false, ◌&&◌, ◌||◌, List, [], ◌∷◌, ◌++◌, Option, Some, None, refl, sym, ap, ◌∙◌}
use Rattle.std.specs.Prelude.{codes, nat_eq}
use Rattle.go_text.specs.declared.edition.Edition.{Edition}
use Rattle.go_text.specs.Editions.{has_slices}
use Rattle.go_scan.specs.declared.token.TokenKind.{TokenKind}
use Rattle.go_scan.specs.declared.token.TokenKind.TheVariants as kinds
use Rattle.go_scan.specs.declared.keyword.Keyword.TheVariants as keywords
use Rattle.go_scan.specs.declared.punctuation.Punctuation.TheVariants as marks
use Rattle.go_ast.specs.Kinds.{same}
use Rattle.go_ast.specs.Operators.{unary_of, binary_of, assignment_of, tighter}
use Rattle.go_ast.specs.Expected.{Expected, an_operand, a_type, a_statement, an_import, a_result_end, another, is_left_out_at}
use Rattle.go_ast.specs.Trees.{Name, UnaryOperator, BinaryOperator, TypeExpr, Expression, Simple, call_statement, Statement, conditional, no_else}
use Rattle.go_ast.specs.Grammar.{Lexeme, assign, opening, opening_bracket, opening_brace, closing_brace, comma, period, semicolon, define, is_call, closing}
use Rattle.go_ast.specs.Machine.{ListKind, fields, arguments, elements, const_specs, var_specs, type_specs, import_specs, statements, parameters, results, Item, separator, closer, Position, Reader, ended, token, package_name, import_path, optional, type, optional_type, expr, optional_expr, suffixes, operators, more_names, more_exprs, list_start, list_end, lefts, else_part, clause_start, clause_end, import_end, decl_end, Move, Take, Fail, cond, keyword, names_if, may_define, is_header, is_some, is_string_token, on_type, begins_type, on_unary, on_expr, begins_expr, on_brace, literal_type, on_operator, on_define, on_assignment, on_lefts, on_stmt, on_item, on_optional, behind_left, parser_step, newer, operands, on_operand}
use Rattle.go_ast.proofs.Same.{are_same, is_same}
use Rattle.go_ast.proofs.Base.{false_true, both_true, right_true, neither}
use Rattle.go_ast.proofs.Tokens.{is_package, package_is, string_is}
use Rattle.go_ast.proofs.Means.{is_level}
use Rattle.go_ast.proofs.LeftOutStates.{starts, starts_type, starts_expr, starts_stmt, starts_item, goes_left, veto, pick, start_label, label, by_newer}

-- kinds of which the kind alone says whether a token may come
abbrev pub is_sure : TokenKind → Bool
is_sure kinds.Name = false
is_sure kinds.String = false
is_sure (kinds.Punctuation marks.Define) = false
is_sure _ = true

-- a token of the kind may come, or else this is expected
abbrev pub Says : TokenKind → Bool → Expected → Move → Type 0
Says k b y (Take need s) = b ≡ true
Says k b y (Fail x) = (x ≡ y) × (is_sure k ≡ true → b ≡ false)

-- a test in front
says_or : (k : TokenKind) (c b : Bool) (y : Expected) (m n : Move) → (c ≡ true → Says k true y m) → Says k b y n → Says k (c || b) y (cond c m n)
says_or k true b y m n h i = h refl
says_or k false b y m n h i = i

says_take : (k : TokenKind) (c b : Bool) (y : Expected) (need : ℕ) (s : Reader) (n : Move) → Says k b y n → Says k (c || b) y (cond c (Take need s) n)
says_take k true b y need s n i = refl
says_take k false b y need s n i = i

says_sure : (k : TokenKind) (c d b : Bool) (y : Expected) (need : ℕ) (s : Reader) (n : Move) → (d ≡ true → c ≡ true) → (is_sure k ≡ true → c ≡ d) →
    Says k b y n → Says k (c || b) y (cond d (Take need s) n)
says_sure k true true b y need s n f g i = refl
says_sure k false true b y need s n f g i = absurd (false_true (f refl))
says_sure k false false b y need s n f g i = i
says_sure k true false b y need s (Take m q) f g i = refl
says_sure k true false b y need s (Fail x) f g i = (i.0, λ sure. absurd (false_true (sym (g sure))))

says_unary : (k j : TokenKind) (y : Expected) (n : ℕ) (h : Bool) (l : ℕ) (next : Expression → Reader) (t : Lexeme) (o : Option UnaryOperator) →
    Says k (is_some o) y (on_unary n h l next t (Fail y) o)
says_unary k j y n h l next t None = (refl, λ sure. refl)
says_unary k j y n h l next t (Some op) = refl

pub said_type : (k : TokenKind) (l : ℕ) (x : Expected) (next : TypeExpr → Reader) (t : Lexeme) → Says k (starts_type t.kind) x (on_type l x next t)
said_type k l x next t =
    says_take k (same kinds.Name t.kind) _ x _ _ _
    (says_take k (same opening_bracket t.kind) _ x _ _ _
    (says_tail (same (keyword keywords.Struct) t.kind) x _ _))
  where
    says_tail : (c : Bool) (y : Expected) (need : ℕ) (s : Reader) → Says k c y (cond c (Take need s) (Fail y))
    says_tail true y need s = refl
    says_tail false y need s = (refl, λ sure. refl)

pub said_expr : (k : TokenKind) (n : ℕ) (h : Bool) (l : ℕ) (x : Expected) (next : Expression → Reader) (t : Lexeme) → Says k (starts_expr t.kind) x (on_expr n h l x next t)
said_expr k n h l x next t =
    says_take k (same kinds.Name t.kind) _ x _ _ _
    (says_take k (same kinds.Integer t.kind) _ x _ _ _
    (says_take k (same kinds.Rune t.kind) _ x _ _ _
    (says_take k (same kinds.String t.kind) _ x _ _ _
    (says_take k (same opening t.kind) _ x _ _ _
    (says_take k (same opening_bracket t.kind) _ x _ _ _
    (says_take k (same (keyword keywords.Struct) t.kind) _ x _ _ _
    (says_unary k t.kind x n h l next t (unary_of t.kind))))))))

says_nothing : (k : TokenKind) (y : Expected) → Says k false y (Fail y)
says_nothing k y = (refl, λ sure. refl)

pub said_stmt : (l : ℕ) (next : Expected → Statement → Reader) (t : Lexeme) → Says t.kind (starts_stmt t.kind) a_statement (on_stmt l next t)
said_stmt l next t =
    says_take t.kind (same (keyword keywords.Const) t.kind) _ a_statement _ _ _
    (says_take t.kind (same (keyword keywords.Var) t.kind) _ a_statement _ _ _
    (says_take t.kind (same (keyword keywords.Return) t.kind) _ a_statement _ _ _
    (says_take t.kind (same (keyword keywords.Break) t.kind) _ a_statement _ _ _
    (says_take t.kind (same (keyword keywords.Continue) t.kind) _ a_statement _ _ _
    (says_take t.kind (same (keyword keywords.Fallthrough) t.kind) _ a_statement _ _ _
    (says_take t.kind (same opening_brace t.kind) _ a_statement _ _ _
    (says_take t.kind (same (keyword keywords.If) t.kind) _ a_statement _ _ _
    (says_take t.kind (same (keyword keywords.For) t.kind) _ a_statement _ _ _
    (says_take t.kind (same (keyword keywords.Switch) t.kind) _ a_statement _ _ _
    (said_expr t.kind 5 false (l + 1) a_statement _ t))))))))))

-- the path of an import
string_sure : (t : Lexeme) → is_string_token (codes "C") t ≡ true → same kinds.String t.kind ≡ true
string_sure t e = is_same kinds.String t.kind (string_is t e).0

kind_unsure : (k j : TokenKind) → same j k ≡ true → is_sure j ≡ false → is_sure k ≡ true → false ≡ true
kind_unsure k j e unsure sure = sym unsure ∙ ap is_sure (sym (are_same j k e)) ∙ sure

agrees : (c d : Bool) → (d ≡ true → c ≡ true) → (c ≡ true → false ≡ true) → c ≡ d
agrees true d f g = absurd (false_true (g refl))
agrees false true f g = f refl
agrees false false f g = refl

says_string : (t : Lexeme) (y : Expected) (need : ℕ) (s : Reader) → Says t.kind (same kinds.String t.kind || false) y (cond (is_string_token (codes "C") t) (Take need s) (Fail y))
says_string t y need s =
    says_sure t.kind (same kinds.String t.kind) (is_string_token (codes "C") t) false y need s (Fail y) (string_sure t)
    (λ sure. agrees (same kinds.String t.kind) (is_string_token (codes "C") t) (string_sure t) (λ e. kind_unsure t.kind kinds.String e refl sure))
    (says_nothing t.kind y)

said_item : (k : ListKind) (front : List (Item k)) (next : List (Item k) → Lexeme → Reader) (t : Lexeme) →
    Says t.kind (starts_item k t.kind) (start_label k) (on_item k front next t)
said_item (fields l) front next t = says_take t.kind (same kinds.Name t.kind) false another _ _ _ (says_nothing t.kind another)
said_item (arguments l) front next t = said_expr t.kind 5 false l an_operand _ t
said_item (elements l) front next t = says_take t.kind (same opening_brace t.kind) (starts_expr t.kind) an_operand _ _ _ (said_expr t.kind 5 false l an_operand _ t)
said_item (const_specs l) front next t = says_take t.kind (same kinds.Name t.kind) false another _ _ _ (says_nothing t.kind another)
said_item (var_specs l) front next t = says_take t.kind (same kinds.Name t.kind) false another _ _ _ (says_nothing t.kind another)
said_item (type_specs l) front next t = says_take t.kind (same kinds.Name t.kind) false another _ _ _ (says_nothing t.kind another)
said_item import_specs front next t = says_take t.kind (same kinds.Name t.kind) _ an_import _ _ _ (says_string t an_import _ _)
said_item (statements l) front next t = says_take t.kind (same semicolon t.kind) (starts_stmt t.kind) a_statement _ _ _
    (said_stmt l (λ x s. list_end (statements l) x (front ++ s ∷ []) next) t)
said_item parameters front next t = says_take t.kind (same kinds.Name t.kind) false another _ _ _ (says_nothing t.kind another)
said_item results front next t = said_type t.kind 1 a_type (λ a. list_end results a_result_end (front ++ a ∷ []) next) t

-- a token that came with slices
says_newer : (k : TokenKind) (c e b : Bool) (x y : Expected) (need : ℕ) (s : Reader) (n : Move) → Says k b y n →
    Says k (by_newer c e b) (pick c x y) (cond c (cond e (Take need s) (Fail x)) n)
says_newer k true true b x y need s n i = refl
says_newer k true false b x y need s n i = (refl, λ sure. refl)
says_newer k false e b x y need s n i = i

-- a call's first operand
says_in : (k : TokenKind) (c b : Bool) (y : Expected) (need : ℕ) (s : Reader) (n : Move) → (c ≡ true → b ≡ true) → Says k b y n → Says k b y (cond c (Take need s) n)
says_in k true b y need s n f i = f refl
says_in k false b y need s n f i = i

said_operand : (k : TokenKind) (c : Bool) (l : ℕ) (next : Expression → Reader) (t : Lexeme) → Says k (starts_expr t.kind) an_operand (on_operand c l next t)
said_operand k false l next t = said_expr k 5 false l an_operand next t
said_operand k true l next t =
    says_in k (same opening_bracket t.kind) (starts_expr t.kind) an_operand _ _ _ (λ e. ap starts_expr (are_same opening_bracket t.kind e))
    (says_in k (same (keyword keywords.Struct) t.kind) (starts_expr t.kind) an_operand _ _ _ (λ e. ap starts_expr (are_same (keyword keywords.Struct) t.kind e))
    (said_expr k 5 false l an_operand next t))

-- what may be missing
says_optional : (k : TokenKind) (d b a : Bool) (x y : Expected) (c : Bool) (m n : Move) → b ≡ c → Says kinds.Integer b x m → Says k a y n →
    Says k (b || veto d a) (pick d x y) (on_optional c d x m n)
says_optional k d true a x y true (Take need s) n e h i = refl
says_optional k d true a x y true (Fail z) n e h i = absurd (false_true (sym (h.1 refl)))
says_optional k d false a x y true m n e h i = absurd (false_true e)
says_optional k d true a x y false m n e h i = absurd (false_true (sym e))
says_optional k true false a x y false m n e h i = (refl, λ sure. refl)
says_optional k false false a x y false m n e h i = i

or_three : (a b c : Bool) → (a || (b || c)) ≡ (a || b || c)
or_three true b c = refl
or_three false b c = refl

or_eight : (a b c d e f g h : Bool) → (a || (b || (c || (d || (e || (f || (g || h))))))) ≡ (a || b || c || d || e || f || g || h)
or_eight true b c d e f g h = refl
or_eight false true c d e f g h = refl
or_eight false false true d e f g h = refl
or_eight false false false true e f g h = refl
or_eight false false false false true f g h = refl
or_eight false false false false false true g h = refl
or_eight false false false false false false true h = refl
or_eight false false false false false false false h = refl

-- suffixes, operators and left sides
says_brace : (k : TokenKind) (b h : Bool) (l : ℕ) (behind : Expression → Reader) (t : Lexeme) (y : Expected) (m : Move) (o : Option TypeExpr) →
    same opening_brace t.kind ≡ false → Says k b y m → Says k b y (on_brace h l behind t m o)
says_brace k b true l behind t y m o e i = i
says_brace k b false l behind t y m None e i = i
says_brace k b false l behind t y m (Some a) e i = by_test (same opening_brace t.kind) e _ i
  where
    by_test : (c : Bool) → c ≡ false → (n : Move) → Says k b y m → Says k b y (cond c n m)
    by_test true d n j = absurd (false_true (sym d))
    by_test false d n j = j

says_operator : (k : TokenKind) (b : Bool) (n : ℕ) (h : Bool) (l : ℕ) (e : Expression) (behind : Expression → Reader) (y : Expected) (m : Move) (o : Option BinaryOperator) →
    Says k b y m → Says k (is_level n o || b) y (on_operator n h l e behind m o)
says_operator k b n h l e behind y m None i = i
says_operator k b n h l e behind y m (Some op) i = says_take k (nat_eq (tighter op) n) b y _ _ m i

says_unsure : (k : TokenKind) (c b : Bool) (y : Expected) (m : Move) → (is_sure k ≡ true → c ≡ false) → Says k b y m → Says k (c || b) y m
says_unsure k c b y (Take need s) f i = right_true c b i
says_unsure k c b y (Fail x) f i = (i.0, λ sure. neither c b (f sure) (i.1 sure))

define_unsure : (k : TokenKind) → is_sure k ≡ true → same define k ≡ false
define_unsure k sure = by_test (same define k) refl
  where
    by_test : (c : Bool) → same define k ≡ c → c ≡ false
    by_test false e = refl
    by_test true e = sym (kind_unsure k define e refl sure)

says_define : (b : Bool) (y : Expected) (m : Position) (h : Bool) (l : ℕ) (next : Simple → Reader) (range : Name → Expression → Reader) (t : Lexeme) (x : Move)
    (o : Option (List Name)) → Says t.kind b y x → Says t.kind (same define t.kind || b) y (on_define m h l next range t x o)
says_define b y m h l next range t x None i = says_unsure t.kind (same define t.kind) b y x (define_unsure t.kind) i
says_define b y m h l next range t x (Some ns) i =
    says_sure t.kind (same define t.kind) (same define t.kind && may_define m) b y _ _ x (λ e. (both_true (same define t.kind) (may_define m) e).0)
    (λ sure. agrees (same define t.kind) (same define t.kind && may_define m) (λ e. (both_true (same define t.kind) (may_define m) e).0)
    (λ e. kind_unsure t.kind define e refl sure)) i

says_lefts : (b : Bool) (y : Expected) (m : Position) (h : Bool) (l : ℕ) (front : List Expression) (next : Simple → Reader) (alone : Expression → Reader)
    (range : Name → Expression → Reader) (t : Lexeme) (x : Move) → Says t.kind b y x → Says t.kind (goes_left t.kind b) y (on_lefts m h l front next alone range t x)
says_lefts b y m h l front next alone range t x i =
    says_take t.kind (same comma t.kind) _ y _ _ _
    (says_take t.kind (same assign t.kind) _ y _ _ _
    (says_define b y m h l next range t x (names_if front) i))

says_assignment : (k : TokenKind) (b : Bool) (y : Expected) (h : Bool) (l : ℕ) (e : Expression) (next : Simple → Reader) (x : Move) (o : Option BinaryOperator) →
    Says k b y x → Says k (is_some o || b) y (on_assignment h l e next x o)
says_assignment k b y h l e next x None i = i
says_assignment k b y h l e next x (Some op) i = refl

says_call : (k : TokenKind) (c a d : Bool) (y z : Expected) (m n : Move) → d ≡ false → Says k a y n → Says k (c && a) (pick c y z) (cond d m (cond c n (Fail z)))
says_call k true a false y z m n e i = i
says_call k false a false y z m n e i = (refl, λ sure. refl)
says_call k c a true y z m n e i = absurd (false_true (sym e))

and_false : (a b : Bool) → b ≡ false → (a && b) ≡ false
and_false true b e = e
and_false false b e = refl

pub said : (ed : Edition) → (s : Reader) (t : Lexeme) → same opening_brace t.kind ≡ false → Says t.kind (starts ed s t.kind) (label s t.kind) (parser_step ed s t)
said ed (ended f) t ne = (refl, λ sure. refl)
said ed (token kind need x next) t ne = says_take t.kind (same kind t.kind) false x _ _ _ (says_nothing t.kind x)
said ed (package_name next) t ne =
    let there : is_package t ≡ true → same kinds.Name t.kind ≡ true = λ e. is_same kinds.Name t.kind (package_is t e).0 in
    says_sure t.kind (same kinds.Name t.kind) (is_package t) false another _ _ _ there
    (λ sure. agrees (same kinds.Name t.kind) (is_package t) there (λ e. kind_unsure t.kind kinds.Name e refl sure)) (says_nothing t.kind another)
said ed (import_path x next) t ne = says_string t x _ _
said ed (optional kind need some none) t ne = says_take t.kind (same kind t.kind) (starts ed none t.kind) (label none t.kind) _ _ _ (said ed none t ne)
said ed (newer kind need x some none) t ne =
    says_newer t.kind (same kind t.kind) (has_slices ed) (starts ed none t.kind) x (label none t.kind) need (some t) (parser_step ed none t) (said ed none t ne)
said ed (type l x next) t ne = said_type t.kind l x next t
said ed (optional_type l x some none) t ne =
    says_optional t.kind (is_left_out_at x t.kind) (starts_type t.kind) (starts ed none t.kind) x (label none t.kind) (begins_type t.kind) _ _
    (or_three (same kinds.Name t.kind) (same opening_bracket t.kind) (same (keyword keywords.Struct) t.kind)) (said_type kinds.Integer l x some t) (said ed none t ne)
said ed (expr n h l x next) t ne = said_expr t.kind n h l x next t
said ed (optional_expr h l x some none) t ne =
    says_optional t.kind (is_left_out_at x t.kind) (starts_expr t.kind) (starts ed none t.kind) x (label none t.kind) (begins_expr t.kind) _ _
    (or_eight (same kinds.Name t.kind) (same kinds.Integer t.kind) (same kinds.Rune t.kind) (same kinds.String t.kind) (same opening t.kind)
    (same opening_bracket t.kind) (same (keyword keywords.Struct) t.kind) (is_some (unary_of t.kind)))
    (said_expr kinds.Integer 5 h l x some t) (said ed none t ne)
said ed (suffixes h l e next) t ne =
    says_take t.kind (same period t.kind) _ (label (next e) t.kind) _ _ _
    (says_take t.kind (same opening_bracket t.kind) _ (label (next e) t.kind) _ _ _
    (says_take t.kind (same opening t.kind) _ (label (next e) t.kind) _ _ _
    (says_brace t.kind (starts ed (next e) t.kind) h l (λ a. suffixes h l a next) t (label (next e) t.kind) (parser_step ed (next e) t) (literal_type e) ne (said ed (next e) t ne))))
said ed (operators n h l e next) t ne =
    says_operator t.kind (starts ed (next e) t.kind) n h l e (λ a. operators n h l a next) (label (next e) t.kind) (parser_step ed (next e) t) (binary_of t.kind)
    (said ed (next e) t ne)
said ed (more_names front next) t ne = says_take t.kind (same comma t.kind) _ (label (next front) t.kind) _ _ _ (said ed (next front) t ne)
said ed (more_exprs h l front next) t ne = says_take t.kind (same comma t.kind) _ (label (next front) t.kind) _ _ _ (said ed (next front) t ne)
said ed (list_start k front next) t ne = says_take t.kind (same (closer k) t.kind) _ (start_label k) _ _ _ (said_item k front next t)
said ed (list_end k x front next) t ne =
    says_take t.kind (same (separator k) t.kind) _ x _ _ _ (says_take t.kind (same (closer k) t.kind) false x _ _ _ (says_nothing t.kind x))
said ed (operands l next) t ne =
    says_take t.kind (same closing t.kind) (starts_expr t.kind) an_operand _ _ _
    (said_operand t.kind (has_slices ed) l (λ e. list_end (arguments l) another (e ∷ []) next) t)
said ed (lefts m h l [] next alone range) t ne = (refl, λ sure. refl)
said ed (lefts m h l (e ∷ []) next alone range) t ne =
    let y : Expected = pick (is_call e) (label (next (call_statement e)) t.kind) (behind_left m e) in
    says_lefts _ y m h l (e ∷ []) next alone range t _
    (says_take t.kind (same (kinds.Punctuation marks.Increment) t.kind) _ y _ _ _
    (says_take t.kind (same (kinds.Punctuation marks.Decrement) t.kind) _ y _ _ _
    (says_assignment t.kind _ y h l e next _ (assignment_of t.kind)
    (says_call t.kind (is_call e) (starts ed (next (call_statement e)) t.kind) (is_header m && same opening_brace t.kind)
    (label (next (call_statement e)) t.kind) (behind_left m e) (parser_step ed (alone e) t) (parser_step ed (next (call_statement e)) t)
    (and_false (is_header m) (same opening_brace t.kind) ne) (said ed (next (call_statement e)) t ne)))))
said ed (lefts m h l (e ∷ f ∷ es) next alone range) t ne =
    says_lefts false another m h l (e ∷ f ∷ es) next alone range t (Fail another) (says_nothing t.kind another)
said ed (else_part l p i c b next) t ne =
    says_take t.kind (same (keyword keywords.Else) t.kind) _ (label (next (conditional p i c b no_else)) t.kind) _ _ _
    (said ed (next (conditional p i c b no_else)) t ne)
said ed (clause_start l done p values front next) t ne =
    says_take t.kind (same (keyword keywords.Case) t.kind) _ a_statement _ _ _
    (says_take t.kind (same (keyword keywords.Default) t.kind) _ a_statement _ _ _
    (says_take t.kind (same closing_brace t.kind) _ a_statement _ _ _
    (says_take t.kind (same semicolon t.kind) _ a_statement _ _ _
    (said_stmt (l + 1) (λ x s. clause_end l x done p values (front ++ s ∷ []) next) t))))
said ed (clause_end l x done p values front next) t ne =
    says_take t.kind (same semicolon t.kind) _ x _ _ _ (says_take t.kind (same closing_brace t.kind) false x _ _ _ (says_nothing t.kind x))
said ed (import_end p iss) t ne = says_take t.kind (same semicolon t.kind) false another _ _ _ (says_nothing t.kind another)
said ed (decl_end p is ds) t ne = says_take t.kind (same semicolon t.kind) false another _ _ _ (says_nothing t.kind another)
