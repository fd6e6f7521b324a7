-- Labels stay right from token to token: types, expressions and declarations.
use Rattle.std.proofs.Common.{◌≡◌, ℕ, zero, suc, ◌+◌, Bool, true, false, List, [], ◌∷◌, Option, Some, None, refl, ap}
use Rattle.std.specs.Prelude.{nat_eq}
use Rattle.go_text.specs.declared.edition.Edition.{Edition}
use Rattle.go_text.specs.declared.place.Place.{Place}
use Rattle.go_scan.specs.declared.token.TokenKind.{TokenKind}
use Rattle.go_scan.specs.declared.token.TokenKind.TheVariants as kinds
use Rattle.go_scan.specs.declared.keyword.Keyword.TheVariants as keywords
use Rattle.go_scan.specs.declared.punctuation.Punctuation.TheVariants as marks
use Rattle.go_ast.specs.Kinds.{same}
use Rattle.go_ast.specs.Operators.{unary_of, binary_of, tighter}
use Rattle.go_ast.specs.Literals.{string_value, rune_value}
use Rattle.go_ast.specs.Expected.{Expected, an_operand, another}
use Rattle.go_ast.specs.Trees.{Name, UnaryOperator, BinaryOperator, TypeExpr, named, qualified, array, struct, Expression, name, integer, rune, string, parenthesized, composite_lit, conversion, selector, index, call, unary, binary, ExpressionList, no_exprs, Element, ConstSpec, VarSpec, TypeSpec, Decl, constants, variables, types, place_of, pack, pack_elements, pack_fields, slice, type_operand, cut, bound, no_bound, Bound}
use Rattle.go_ast.specs.Grammar.{Lexeme, name_of, opening, opening_bracket, opening_brace, comma, period, type_place}
use Rattle.go_ast.specs.Machine.{elements, Reader, suffixes, operators, list_start, Move, Take, Fail, cond, keyword, behind_name, behind_bracket, behind_struct, on_type, tails, behind_operand, behind_opening, behind_literal_type, on_unary, on_expr, on_brace, on_suffix, on_operator, literal_type, behind_element, on_element, value_list, const_rest, var_rest, type_rest, behind_const, behind_var, behind_type, optional, token, literal_elements, converted_operand, behind_operand_type, on_operand, behind_colon, behind_index}
use Rattle.go_ast.proofs.Same.{are_same}
use Rattle.go_ast.proofs.Base.{false_true}
use Rattle.go_ast.proofs.LeftOutStates.{Last, other, name_last, passed, bracket, dot, equals, is_end, is_plain, is_func, is_special, is_lone, starts, Right, Tells, Led}
use Rattle.go_ast.proofs.LeftOutStates as last
use Rattle.go_ast.specs.Heights.{type_height}

pub plain_end : (q : Last) → is_end q ≡ true → is_plain q ≡ true
plain_end other e = refl
plain_end passed e = refl
plain_end last.names e = refl
plain_end _ e = absurd (false_true e)

-- what may be behind any that ends, and behind any expression that isn't a name alone
abbrev pub Ended : (ed : Edition) → {A : Type 0} → (A → Reader) → Type 0
Ended ed {A} next = (a : A) (q : Last) → is_end q ≡ true → Right ed (next a) q

abbrev pub NonLone : (ed : Edition) → (Expression → Reader) → Type 0
NonLone ed next = (a : Expression) (q : Last) → is_end q ≡ true → is_lone a ≡ false → Right ed (next a) q

-- neither a comma nor a `return` nor a `struct` nor a string comes next
abbrev pub Silent : (ed : Edition) → {A : Type 0} → (A → Reader) → Type 0
Silent ed {A} next =
    (a : A) → (starts ed (next a) comma ≡ false) × (starts ed (next a) (keyword keywords.Return) ≡ false) × (starts ed (next a) (keyword keywords.Struct) ≡ false)
    × (starts ed (next a) kinds.String ≡ false)

pub led_cond : (ed : Edition) → (p : Last) (b : Bool) (k : TokenKind) (c : Bool) (m n : Move) → (c ≡ true → Led ed p b k m) → (c ≡ false → Led ed p b k n) → Led ed p b k (cond c m n)
led_cond ed p b k true m n f g = f refl
led_cond ed p b k false m n f g = g refl

pub led_same : (ed : Edition) → (p : Last) (b : Bool) (k j : TokenKind) (m n : Move) → (k ≡ j → Led ed p b k m) → Led ed p b k n → Led ed p b k (cond (same j k) m n)
led_same ed p b k j m n f g = led_cond ed p b k (same j k) m n (λ e. f (are_same j k e)) (λ e. g)

-- types

named_right : (ed : Edition) → (next : TypeExpr → Reader) (t : Lexeme) → Ended ed next → Right ed (behind_name next t) passed
named_right ed next t e =
    ((refl, refl, tt), (λ d. ((refl, refl), λ s. e (qualified t.place (name_of t) (name_of s)) passed refl)), e (named t.place (name_of t)) passed refl)

bracket_right : (ed : Edition) → (l : ℕ) (next : TypeExpr → Reader) (t : Lexeme) → Ended ed next → Right ed (behind_bracket l next t) bracket
bracket_right ed l next t f = (
  (refl, refl, λ c. refl),
  (λ c. (tt, λ a q en. f (slice t.place a) q en)),
  ((λ g. g.2.2.2), λ e q en. ((plain_end q en, refl, λ c. refl), λ c. (tt, λ a r er. f (array t.place e a) r er))),
  (λ k. refl),
  refl,
)

struct_right : (ed : Edition) → (l : ℕ) (next : TypeExpr → Reader) (t : Lexeme) → Ended ed next → Right ed (behind_struct l next t) other
struct_right ed l next t f = ((refl, refl, tt), λ o. (refl, λ fs c. f (struct t.place (pack_fields fs)) other refl))

pub on_type_led : (ed : Edition) → (p : Last) (b : Bool) (l : ℕ) (x : Expected) (next : TypeExpr → Reader) (t : Lexeme) → is_func p ≡ false → b ≡ false → Ended ed next →
    Led ed p b t.kind (on_type l x next t)
on_type_led ed p b l x next t fp nb f =
    led_same ed p b t.kind kinds.Name (Take l (behind_name next t))
    (cond (same opening_bracket t.kind) (Take (l + 1) (behind_bracket l next t))
    (cond (same (keyword keywords.Struct) t.kind) (Take l (behind_struct l next t)) (Fail x)))
    (λ e. (passed, (e, fp, nb), named_right ed next t f))
    (led_same ed p b t.kind opening_bracket (Take (l + 1) (behind_bracket l next t))
    (cond (same (keyword keywords.Struct) t.kind) (Take l (behind_struct l next t)) (Fail x))
    (λ e. (bracket, e, bracket_right ed l next t f))
    (led_same ed p b t.kind (keyword keywords.Struct) (Take l (behind_struct l next t)) (Fail x)
    (λ e. (other, ap is_special e, struct_right ed l next t f)) tt))

-- expressions

pub tails_right : (ed : Edition) → (n : ℕ) (h : Bool) (l : ℕ) (next : Expression → Reader) (e : Expression) (p : Last) → Right ed (next e) p → NonLone ed next → Right ed (tails n h l next e) p
tails_right ed zero h l next e p r f = r
tails_right ed (suc n) h l next e p r f = tails_right ed n h l (λ a. operators n h l a next) e p (r, f) (λ a q en nl. (f a q en nl, f))

pub operand_right : (ed : Edition) → (n : ℕ) (h : Bool) (l : ℕ) (next : Expression → Reader) (e : Expression) (p : Last) → Right ed (next e) p → NonLone ed next →
    Right ed (behind_operand n h l next e) p
operand_right ed n h l next e p r f = (tails_right ed n h l next e p r f, λ a q en nl. tails_right ed n h l next a q (f a q en nl) f)

operand_ends : (ed : Edition) → (n : ℕ) (h : Bool) (l : ℕ) (next : Expression → Reader) → NonLone ed next → NonLone ed (behind_operand n h l next)
operand_ends ed n h l next f a q en nl = operand_right ed n h l next a q (f a q en nl) f

opening_right : (ed : Edition) → (n : ℕ) (h : Bool) (l : ℕ) (next : Expression → Reader) (t : Lexeme) → NonLone ed next → Right ed (behind_opening n h l next t) other
opening_right ed n h l next t f = (
  tt,
  λ e q en. ((plain_end q en, refl, tt), λ c. operand_right ed n h l next (parenthesized t.place e) other (f (parenthesized t.place e) other refl refl) f),
)

elements_right : (ed : Edition) → (l : ℕ) (next : Expression → Reader) (a : TypeExpr) (o : Lexeme) → NonLone ed next → Right ed (literal_elements l next a o) other
elements_right ed l next a o f = (refl, λ es c. f (composite_lit (type_place a) a o.place (pack_elements es)) other refl refl)

converted_right : (ed : Edition) → (l : ℕ) (next : Expression → Reader) (a : TypeExpr) (o : Lexeme) → NonLone ed next → Right ed (converted_operand l next a o) other
converted_right ed l next a o f = (
  tt,
  λ e r er. (
    (er, refl, (refl, λ t. (refl, λ g. g.2))),
    (λ c. ((refl, refl, tt), λ d. f (conversion (type_place a) a e) other refl refl)),
    ((plain_end r er, refl, tt), λ d. f (conversion (type_place a) a e) other refl refl),
  ),
)

literal_right : (ed : Edition) → (l : ℕ) (next : Expression → Reader) (a : TypeExpr) (q : Last) → is_end q ≡ true → NonLone ed next →
    Right ed (optional opening_brace (l + 1) (literal_elements l next a) (token opening (l + 1) another (converted_operand l next a))) q
literal_right ed l next a q en f = (
  (en, refl, tt),
  (λ o. elements_right ed l next a o f),
  ((plain_end q en, refl, tt), λ o. converted_right ed l next a o f),
)

literal_type_right : (ed : Edition) → (l : ℕ) (next : Expression → Reader) (a : TypeExpr) (q : Last) → is_end q ≡ true → NonLone ed next → Right ed (behind_literal_type l next a) q
literal_type_right ed l next (slice p a) q en f = ((plain_end q en, refl, tt), λ o. elements_right ed l next (slice p a) o f)
literal_type_right ed l next (named p n) q en f = literal_right ed l next (named p n) q en f
literal_type_right ed l next (qualified p m n) q en f = literal_right ed l next (qualified p m n) q en f
literal_type_right ed l next (array p e a) q en f = literal_right ed l next (array p e a) q en f
literal_type_right ed l next (struct p fs) q en f = literal_right ed l next (struct p fs) q en f

-- a type that a call's first operand may be
type_operand_right : (ed : Edition) → (l : ℕ) (next : Expression → Reader) (a : TypeExpr) (q : Last) → is_end q ≡ true → Ended ed next →
    Right ed (optional opening_brace (l + type_height a) (literal_elements l (behind_operand 5 false l next) a)
    (optional opening (l + type_height a) (converted_operand l (behind_operand 5 false l next) a) (next (type_operand (type_place a) a)))) q
type_operand_right ed l next a q en f =
    let behind : NonLone ed (behind_operand 5 false l next) = operand_ends ed 5 false l next (λ e r er nl. f e r er) in (
      (en, refl, tt),
      (λ o. elements_right ed l (behind_operand 5 false l next) a o behind),
      ((en, refl, tt), (λ o. converted_right ed l (behind_operand 5 false l next) a o behind), f (type_operand (type_place a) a) q en),
    )

operand_type_right : (ed : Edition) → (l : ℕ) (next : Expression → Reader) (a : TypeExpr) (q : Last) → is_end q ≡ true → Ended ed next → Right ed (behind_operand_type l next a) q
operand_type_right ed l next (slice p a) q en f = (
  (en, refl, tt),
  (λ o. elements_right ed l (behind_operand 5 false l next) (slice p a) o (operand_ends ed 5 false l next (λ e r er nl. f e r er))),
  f (type_operand p (slice p a)) q en,
)
operand_type_right ed l next (named p n) q en f = type_operand_right ed l next (named p n) q en f
operand_type_right ed l next (qualified p m n) q en f = type_operand_right ed l next (qualified p m n) q en f
operand_type_right ed l next (array p e a) q en f = type_operand_right ed l next (array p e a) q en f
operand_type_right ed l next (struct p fs) q en f = type_operand_right ed l next (struct p fs) q en f

none_some : {A : Type 0} (a : A) → None ≡ Some a → ⊥
none_some a e = cc (e)

unary_special : (k : TokenKind) (op : UnaryOperator) → unary_of k ≡ Some op → is_special k ≡ false
unary_special kinds.Name op e = absurd (none_some op e)
unary_special (kinds.Punctuation marks.OpenBracket) op e = absurd (none_some op e)
unary_special (kinds.Punctuation marks.Period) op e = absurd (none_some op e)
unary_special (kinds.Punctuation marks.Assign) op e = absurd (none_some op e)
unary_special (kinds.Keyword keywords.Func) op e = absurd (none_some op e)
unary_special (kinds.Keyword keywords.Break) op e = absurd (none_some op e)
unary_special (kinds.Keyword keywords.Continue) op e = absurd (none_some op e)
unary_special _ op e = refl

binary_special : (k : TokenKind) (op : BinaryOperator) → binary_of k ≡ Some op → is_special k ≡ false
binary_special kinds.Name op e = absurd (none_some op e)
binary_special (kinds.Punctuation marks.OpenBracket) op e = absurd (none_some op e)
binary_special (kinds.Punctuation marks.Period) op e = absurd (none_some op e)
binary_special (kinds.Punctuation marks.Assign) op e = absurd (none_some op e)
binary_special (kinds.Keyword keywords.Func) op e = absurd (none_some op e)
binary_special (kinds.Keyword keywords.Break) op e = absurd (none_some op e)
binary_special (kinds.Keyword keywords.Continue) op e = absurd (none_some op e)
binary_special _ op e = refl

unary_led : (ed : Edition) → (p : Last) (b : Bool) (n : ℕ) (h : Bool) (l : ℕ) (x : Expected) (next : Expression → Reader) (t : Lexeme) (o : Option UnaryOperator) → unary_of t.kind ≡ o →
    NonLone ed next → Led ed p b t.kind (on_unary n h l next t (Fail x) o)
unary_led ed p b n h l x next t None e f = tt
unary_led ed p b n h l x next t (Some op) e f =
    (other, unary_special t.kind op e, (tt, λ a q en. tails_right ed n h l next (unary t.place op a) q (f (unary t.place op a) q en refl) f))

pub on_expr_led : (ed : Edition) → (p : Last) (b : Bool) (n : ℕ) (h : Bool) (l : ℕ) (x : Expected) (next : Expression → Reader) (t : Lexeme) →
    (t.kind ≡ kinds.Name → (r : Last) × Tells r p b t.kind × Right ed (next (name t.place t.text)) r) → NonLone ed next → Led ed p b t.kind (on_expr n h l x next t)
on_expr_led ed p b n h l x next t here f =
    let behind : Expression → Reader = behind_operand n h l next in
    let m7 : Move = on_unary n h l next t (Fail x) (unary_of t.kind) in
    let t6 : Move = Take (l + 1) (behind_struct (l + 1) (behind_literal_type l behind) t) in
    let m6 : Move = cond (same (keyword keywords.Struct) t.kind) t6 m7 in
    let t5 : Move = Take (l + 2) (behind_bracket (l + 1) (behind_literal_type l behind) t) in
    let m5 : Move = cond (same opening_bracket t.kind) t5 m6 in
    let t4 : Move = Take (l + 1) (behind_opening n h l next t) in
    let m4 : Move = cond (same opening t.kind) t4 m5 in
    let t3 : Move = Take l (behind (string t.place (string_value t.text))) in
    let m3 : Move = cond (same kinds.String t.kind) t3 m4 in
    let t2 : Move = Take l (behind (rune t.place (rune_value t.text))) in
    let m2 : Move = cond (same kinds.Rune t.kind) t2 m3 in
    let t1 : Move = Take l (behind (integer t.place t.text)) in
    let m1 : Move = cond (same kinds.Integer t.kind) t1 m2 in
    let t0 : Move = Take l (behind (name t.place t.text)) in
    let types : Ended ed (behind_literal_type l behind) = λ a q en. literal_type_right ed l behind a q en (operand_ends ed n h l next f) in
    led_same ed p b t.kind kinds.Name t0 m1 (λ e. (let g = here e in (g.0, g.1, operand_right ed n h l next (name t.place t.text) g.0 g.2 f)))
    (led_same ed p b t.kind kinds.Integer t1 m2 (λ e. (other, ap is_special e, operand_ends ed n h l next f (integer t.place t.text) other refl refl))
    (led_same ed p b t.kind kinds.Rune t2 m3 (λ e. (other, ap is_special e, operand_ends ed n h l next f (rune t.place (rune_value t.text)) other refl refl))
    (led_same ed p b t.kind kinds.String t3 m4 (λ e. (other, ap is_special e, operand_ends ed n h l next f (string t.place (string_value t.text)) other refl refl))
    (led_same ed p b t.kind opening t4 m5 (λ e. (other, ap is_special e, opening_right ed n h l next t f))
    (led_same ed p b t.kind opening_bracket t5 m6 (λ e. (bracket, e, bracket_right ed (l + 1) (behind_literal_type l behind) t types))
    (led_same ed p b t.kind (keyword keywords.Struct) t6 m7 (λ e. (other, ap is_special e, struct_right ed (l + 1) (behind_literal_type l behind) t types))
    (unary_led ed p b n h l x next t (unary_of t.kind) refl f)))))))

-- a call's first operand
operand_led : (ed : Edition) → (l : ℕ) (next : Expression → Reader) (t : Lexeme) → Ended ed next → Led ed other false t.kind (on_expr 5 false l an_operand next t)
operand_led ed l next t f =
    on_expr_led ed other false 5 false l an_operand next t (λ k. (passed, (k, refl, refl), f (name t.place t.text) passed refl)) (λ a q en nl. f a q en)

pub on_operand_led : (ed : Edition) → (c : Bool) (l : ℕ) (next : Expression → Reader) (t : Lexeme) → Ended ed next → Led ed other false t.kind (on_operand c l next t)
on_operand_led ed false l next t f = operand_led ed l next t f
on_operand_led ed true l next t f =
    let types : Ended ed (behind_operand_type l next) = λ a q en. operand_type_right ed l next a q en f in
    led_same ed other false t.kind opening_bracket (Take (l + 1) (behind_bracket l (behind_operand_type l next) t))
    (cond (same (keyword keywords.Struct) t.kind) (Take l (behind_struct l (behind_operand_type l next) t)) (on_expr 5 false l an_operand next t))
    (λ e. (bracket, e, bracket_right ed l (behind_operand_type l next) t types))
    (led_same ed other false t.kind (keyword keywords.Struct) (Take l (behind_struct l (behind_operand_type l next) t)) (on_expr 5 false l an_operand next t)
    (λ e. (other, ap is_special e, struct_right ed l (behind_operand_type l next) t types)) (operand_led ed l next t f))

brace_led : (ed : Edition) → (p : Last) (b : Bool) (h : Bool) (l : ℕ) (next : Expression → Reader) (t : Lexeme) (m : Move) (o : Option TypeExpr) → NonLone ed next → Led ed p b t.kind m →
    Led ed p b t.kind (on_brace h l (λ a. suffixes h l a next) t m o)
brace_led ed p b false l next t m (Some a) f r =
    led_same ed p b t.kind opening_brace
    (Take (l + 1) (list_start (elements (l + 2)) [] (λ es c. suffixes false l (composite_lit (type_place a) a t.place (pack_elements es)) next))) m
    (λ e. (other, ap is_special e, (refl, λ es c. (f (composite_lit (type_place a) a t.place (pack_elements es)) other refl refl, f)))) r
brace_led ed p b false l next t m None f r = r
brace_led ed p b true l next t m o f r = r

-- behind the colon of a part
colon_right : (ed : Edition) → (h : Bool) (l : ℕ) (e : Expression) (low : Bound) (next : Expression → Reader) → NonLone ed next →
    Right ed (behind_colon l e low (λ a. suffixes h l a next)) other
colon_right ed h l e low next f = (
  (refl, refl, ((λ t. refl), refl, refl)),
  (λ t. (f (cut (place_of e) e low no_bound) other refl refl, f)),
  (tt, λ j q en. ((en, refl, λ c. refl), λ c. (f (cut (place_of e) e low (bound j)) other refl refl, f))),
)

index_right : (ed : Edition) → (h : Bool) (l : ℕ) (e : Expression) (p : Place) (next : Expression → Reader) → NonLone ed next →
    Right ed (behind_index l e (λ a. suffixes h l a next)) bracket
index_right ed h l e p next f = (
  (refl, refl),
  (λ t. colon_right ed h l e no_bound next f),
  (
    ([], p, ([], p, ([], p, tt))),
    λ i q en. (
      (en, refl),
      (λ t. colon_right ed h l e (bound i) next f),
      ((en, refl, λ c. refl), λ c. (f (index (place_of e) e i) other refl refl, f)),
      (λ k. refl),
      refl,
    ),
  ),
  (λ k. refl),
  refl,
)

pub suffix_led : (ed : Edition) → (p : Last) (b : Bool) (h : Bool) (l : ℕ) (e : Expression) (next : Expression → Reader) (t : Lexeme) (m : Move) → NonLone ed next → Led ed p b t.kind m →
    Led ed p b t.kind (on_suffix h l e (λ a. suffixes h l a next) t m)
suffix_led ed p b h l e next t m f r =
    led_cond ed p b t.kind (same period t.kind) _ _
    (λ k. (dot, are_same period t.kind k, ((refl, refl), λ s. (f (selector (place_of e) e (name_of s)) passed refl refl, f)))) (λ _.
    led_cond ed p b t.kind (same opening_bracket t.kind) _ _
    (λ k. (bracket, are_same opening_bracket t.kind k, index_right ed h l e t.place next f)) (λ _.
    led_cond ed p b t.kind (same opening t.kind) _ _
    (λ k. (other, ap is_special (are_same opening t.kind k), (refl, λ es c. (f (call (place_of e) e (pack es)) other refl refl, f)))) (λ _.
    brace_led ed p b h l next t m (literal_type e) f r)))

pub operator_led : (ed : Edition) → (p : Last) (b : Bool) (n : ℕ) (h : Bool) (l : ℕ) (e : Expression) (next : Expression → Reader) (k : TokenKind) (m : Move) (o : Option BinaryOperator) →
    binary_of k ≡ o → NonLone ed next → Led ed p b k m → Led ed p b k (on_operator n h l e (λ a. operators n h l a next) m o)
operator_led ed p b n h l e next k m None is f r = r
operator_led ed p b n h l e next k m (Some op) is f r =
    led_cond ed p b k (nat_eq (tighter op) n) _ _
    (λ _. (other, binary_special k op is, (tt, λ a q en. (f (binary (place_of e) op e a) q en refl, f)))) (λ _. r)

-- elements of a literal

element_right : (ed : Edition) → (l : ℕ) (front : List (Option Name × Element)) (next : List (Option Name × Element) → Lexeme → Reader) (e : Expression) (q : Last) →
    is_end q ≡ true → ((is : List (Option Name × Element)) (c : Lexeme) → Right ed (next is c) other) → Right ed (behind_element l front next e) q
element_right ed l front next (name p text) q en nx = (
  (en, refl, tt),
  (λ c. ((refl, refl, tt), (λ o. (refl, λ es d. (refl, nx))), (tt, λ e r er. (er, nx)))),
  (refl, nx),
)
element_right ed l front next _ q en nx = (en, nx)

pub on_element_led : (ed : Edition) → (b : Bool) (l : ℕ) (front : List (Option Name × Element)) (next : List (Option Name × Element) → Lexeme → Reader) (t : Lexeme) →
    b ≡ false → ((is : List (Option Name × Element)) (c : Lexeme) → Right ed (next is c) other) → Led ed other b t.kind (on_element l front next t)
on_element_led ed b l front next t nb nx =
    led_cond ed other b t.kind (same opening_brace t.kind) _ _
    (λ k. (other, ap is_special (are_same opening_brace t.kind k), (refl, λ es c. (refl, nx)))) (λ _.
    on_expr_led ed other b 5 false l an_operand (behind_element l front next) t
    (λ e. (passed, (e, refl, nb), element_right ed l front next (name t.place t.text) passed refl nx)) (λ a q en nl. element_right ed l front next a q en nx))

-- declarations

pub values_right : (ed : Edition) → (l : ℕ) (next : ExpressionList → Reader) → Ended ed next → ((es : ExpressionList) → starts ed (next es) comma ≡ false) → Right ed (value_list l next) equals
values_right ed l next f quiet = (tt, λ e q en. (en, (λ es r er. f (pack es) r er), λ es. quiet (pack es)))

pub const_right : (ed : Edition) → (l : ℕ) (next : ConstSpec → Reader) (ns : List Name) → Ended ed next → Silent ed next → Right ed (const_rest l next ns) last.names
const_right ed l next ns f quiet = (
  ((λ a. refl), refl, (quiet (record { names = ns; type = None; values = no_exprs })).1, (quiet (record { names = ns; type = None; values = no_exprs })).2),
  (λ a q en. (
    (plain_end q en, refl, tt),
    λ t. values_right ed l (λ es. next (record { names = ns; type = Some a; values = es })) (λ es r er. f _ r er)
        (λ es. (quiet (record { names = ns; type = Some a; values = es })).0),
  )),
  (
    (refl, refl, tt),
    (λ t. values_right ed l (λ es. next (record { names = ns; type = None; values = es })) (λ es r er. f _ r er)
        (λ es. (quiet (record { names = ns; type = None; values = es })).0)),
    f (record { names = ns; type = None; values = no_exprs }) last.names refl,
  ),
)

pub var_right : (ed : Edition) → (l : ℕ) (next : VarSpec → Reader) (ns : List Name) → Ended ed next → Silent ed next → Right ed (var_rest l next ns) last.names
var_right ed l next ns f quiet = (
  ((λ a. (quiet (record { names = ns; type = Some a; values = no_exprs })).0), refl, refl, refl),
  (λ a q en. (
    (en, refl, tt),
    (λ t. values_right ed l (λ es. next (record { names = ns; type = Some a; values = es })) (λ es r er. f _ r er)
        (λ es. (quiet (record { names = ns; type = Some a; values = es })).0)),
    f (record { names = ns; type = Some a; values = no_exprs }) q en,
  )),
  (
    (refl, refl, tt),
    λ t. values_right ed l (λ es. next (record { names = ns; type = None; values = es })) (λ es r er. f _ r er)
        (λ es. (quiet (record { names = ns; type = None; values = es })).0),
  ),
)

pub type_right : (ed : Edition) → (l : ℕ) (next : TypeSpec → Reader) (t : Lexeme) → Ended ed next → Silent ed next → Right ed (type_rest l next t) name_last
type_right ed l next t f quiet = ((λ a. (quiet (record { name = name_of t; type = a })).0), λ a q en. f _ q en)

pub const_decl_right : (ed : Edition) → (l : ℕ) (next : Decl → Reader) (t : Lexeme) → Ended ed next → Silent ed next → Right ed (behind_const l next t) other
const_decl_right ed l next t f quiet = (
  (refl, refl, tt),
  (λ o. (refl, λ ss c. f (constants t.place ss) other refl)),
  (
    (refl, refl, refl),
    λ n. (
      refl,
      (λ ns. const_right ed l (λ s. next (constants t.place (s ∷ []))) ns (λ s q en. f _ q en) (λ s. quiet (constants t.place (s ∷ [])))),
      λ ns. (quiet (constants t.place (record { names = ns; type = None; values = no_exprs } ∷ []))).0,
    ),
  ),
)

pub var_decl_right : (ed : Edition) → (l : ℕ) (next : Decl → Reader) (t : Lexeme) → Ended ed next → Silent ed next → Right ed (behind_var l next t) other
var_decl_right ed l next t f quiet = (
  (refl, refl, tt),
  (λ o. (refl, λ ss c. f (variables t.place ss) other refl)),
  (
    (refl, refl, refl),
    λ n. (
      refl,
      (λ ns. var_right ed l (λ s. next (variables t.place (s ∷ []))) ns (λ s q en. f _ q en) (λ s. quiet (variables t.place (s ∷ [])))),
      λ ns. refl,
    ),
  ),
)

pub type_decl_right : (ed : Edition) → (l : ℕ) (next : Decl → Reader) (t : Lexeme) → Ended ed next → Silent ed next → Right ed (behind_type l next t) other
type_decl_right ed l next t f quiet = (
  (refl, refl, tt),
  (λ o. (refl, λ ss c. f (types t.place ss) other refl)),
  ((refl, refl, refl), λ n. type_right ed l (λ s. next (types t.place (s ∷ []))) n (λ s q en. f _ q en) (λ s. quiet (types t.place (s ∷ [])))),
)
