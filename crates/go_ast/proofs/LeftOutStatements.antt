-- Labels stay right from token to token: statements, items of lists and files.
use Rattle.std.proofs.Common.{◌≡◌, ℕ, ◌+◌, inl, inr, Bool, true, false, ◌&&◌, List, [], ◌∷◌, ◌++◌, Option, Some, None, refl, sym, ap, subst}
use Rattle.std.specs.Prelude.{codes}
use Rattle.go_text.specs.declared.edition.Edition.{Edition}
use Rattle.go_text.specs.declared.place.Place.{Place}
use Rattle.go_scan.specs.declared.token.TokenKind.{TokenKind}
use Rattle.go_scan.specs.declared.token.TokenKind.TheVariants as kinds
use Rattle.go_scan.specs.declared.keyword.Keyword.TheVariants as keywords
use Rattle.go_scan.specs.declared.punctuation.Punctuation.TheVariants as marks
use Rattle.go_ast.specs.Kinds.{same}
use Rattle.go_ast.specs.Operators.{assignment_of}
use Rattle.go_ast.specs.Expected.{Expected, an_operand, a_type, a_result_end, behind_a_jump, a_statement, another}
use Rattle.go_ast.specs.Trees.{Name, BinaryOperator, Expression, name, no_exprs, Simple, increment, decrement, assignment, operator_assignment, short_var_decl, Statement, declaration, simple, return, break, continue, fallthrough, block_statement, if_statement, for_statement, range_statement, switch_statement, Block, block, If, Else, else_block, else_if, Cases, no_clauses, TopLevel, declared, ImportSpec, pack, pack_statements}
use Rattle.go_ast.specs.Grammar.{Lexeme, name_of, assign, opening_brace, comma, semicolon, define, is_call, simple_place, concat}
use Rattle.go_ast.specs.Machine.{ListKind, fields, arguments, elements, const_specs, var_specs, type_specs, import_specs, statements, parameters, results, Item, Position, in_list, in_header, in_for, behind_turns, Clause, Reader, list_end, decl_end, Move, keyword, names_if, may_define, is_header, behind_define, on_define, on_assignment, on_lefts, on_left, list_lefts, read_block, if_condition, behind_if, behind_else, for_turns, for_condition, range_body, behind_for, clause_body, behind_case, read_clauses, switch_body, switch_tag, behind_switch, on_stmt, is_string_token, on_item, decls_at, read_imports, start}
use Rattle.go_ast.proofs.Positions.{is_for}
use Rattle.go_ast.proofs.Same.{are_same}
use Rattle.go_ast.proofs.Base.{false_true, both_true}
use Rattle.go_ast.proofs.Tokens.{string_is}
use Rattle.go_ast.proofs.LeftOutStates.{Last, other, name_last, passed, first_name, equals, jump, is_end, is_plain, is_special, is_lone, is_alone, starts, LeftsOk, Right, Led}
use Rattle.go_ast.proofs.LeftOutKept.{plain_end, Ended, Silent, led_cond, on_type_led, on_expr_led, on_element_led, const_right, var_right, type_right, const_decl_right, var_decl_right, type_decl_right}

-- blocks and headers

abbrev Behind : (ed : Edition) → {A : Type 0} → (A → Reader) → Type 0
Behind ed {A} next = (a : A) → Right ed (next a) other

pub block_right : (ed : Edition) → (l : ℕ) (next : Block → Reader) (q : Last) → is_plain q ≡ true → Behind ed next → Right ed (read_block l next) q
block_right ed l next q pl f = ((pl, refl, tt), λ o. (refl, λ ss c. f (block o.place (pack_statements ss) c.place)))

condition_right : (ed : Edition) → (l : ℕ) (p : Place) (next : If → Reader) (i : Option Simple) → Behind ed next → Right ed (if_condition l p next i) other
condition_right ed l p next i f = (tt, λ c q en. ((plain_end q en, refl, tt), λ o. (refl, λ ss d. (refl, f))))

pub if_right : (ed : Edition) → (l : ℕ) (next : If → Reader) (t : Lexeme) → Behind ed next → Right ed (behind_if l next t) other
if_right ed l next t f = (
  (refl, refl, refl),
  (λ s. condition_right ed l t.place next None f),
  (
    tt,
    λ e q en. (
      en,
      (λ s r er. ((plain_end r er, refl, tt), λ c. condition_right ed l t.place next (Some s) f)),
      (λ yes c r er. ((plain_end r er, refl, tt), λ o. (refl, λ ss d. (refl, f)))),
      (λ never. absurd (false_true never)),
      (λ s. refl),
    ),
  ),
)

pub else_right : (ed : Edition) → (l : ℕ) (next : Else → Reader) → Behind ed next → Right ed (behind_else l next) other
else_right ed l next f = (
  (refl, refl, tt),
  (λ t. if_right ed (l + 1) (λ i. next (else_if i)) t (λ i. f (else_if i))),
  block_right ed (l + 1) (λ b. next (else_block b)) other refl (λ b. f (else_block b)),
)

turns_right : (ed : Edition) → (l : ℕ) (p : Place) (next : Statement → Reader) (i : Option Simple) (c : Option Expression) → Behind ed next → Right ed (for_turns l p next i c) other
turns_right ed l p next i c f = (
  (refl, refl, tt),
  (λ o. (refl, λ ss d. f (for_statement p i c None (block o.place (pack_statements ss) d.place)))),
  (
    tt,
    λ e q en. (
      en,
      (λ s r er. ((plain_end r er, refl, tt), λ o. (refl, λ ss d. f (for_statement p i c (Some s) (block o.place (pack_statements ss) d.place))))),
      (λ never. absurd (false_true never)),
      (λ never. absurd (false_true never)),
      (λ s. refl),
    ),
  ),
)

for_condition_right : (ed : Edition) → (l : ℕ) (p : Place) (next : Statement → Reader) (i : Option Simple) → Behind ed next → Right ed (for_condition l p next i) other
for_condition_right ed l p next i f = (
  (refl, refl, refl),
  (λ s. turns_right ed l p next i None f),
  (tt, λ c q en. ((plain_end q en, refl, tt), λ s. turns_right ed l p next i (Some c) f)),
)

range_right : (ed : Edition) → (l : ℕ) (p : Place) (next : Statement → Reader) (n : Option Name) (e : Expression) (q : Last) → is_end q ≡ true → Behind ed next → Right ed (range_body l p next n e) q
range_right ed l p next n e q en f = ((plain_end q en, refl, tt), λ o. (refl, λ ss d. f (range_statement p n e (block o.place (pack_statements ss) d.place))))

for_right : (ed : Edition) → (l : ℕ) (next : Statement → Reader) (t : Lexeme) → Behind ed next → Right ed (behind_for l next t) other
for_right ed l next t f = (
  (refl, refl, tt),
  (λ o. (refl, λ ss d. f (for_statement t.place None None None (block o.place (pack_statements ss) d.place)))),
  (
    (refl, refl, refl),
    (λ s. for_condition_right ed l t.place next None f),
    (
      (refl, refl, tt),
      (λ r. (tt, λ e q en. range_right ed l t.place next None e q en f)),
      (
        tt,
        λ e q en. (
          en,
          (λ s r er. ((plain_end r er, refl, tt), λ c. for_condition_right ed l t.place next (Some s) f)),
          (λ yes c r er. ((plain_end r er, refl, tt), λ o. (refl, λ ss d. f (for_statement t.place None (Some c) None (block o.place (pack_statements ss) d.place))))),
          (λ yes n a r er. range_right ed l t.place next (Some n) a r er f),
          (λ s. refl),
        ),
      ),
    ),
  ),
)

-- clauses

pub case_right : (ed : Edition) → (l : ℕ) (done : List Clause) (next : Cases → Lexeme → Reader) (t : Lexeme) → ((cs : Cases) (c : Lexeme) → Right ed (next cs c) other) →
    Right ed (behind_case l done next t) other
case_right ed l done next t f = (tt, λ e q en. (en, (λ es r er. ((plain_end r er, refl, tt), λ c. (refl, f))), λ es. refl))

pub default_right : (ed : Edition) → (l : ℕ) (done : List Clause) (next : Cases → Lexeme → Reader) (p : Place) → ((cs : Cases) (c : Lexeme) → Right ed (next cs c) other) →
    Right ed (clause_body l done next p None) other
default_right ed l done next p f = ((refl, refl, tt), λ c. (refl, f))

clauses_right : (ed : Edition) → (l : ℕ) (next : Cases → Lexeme → Reader) → ((cs : Cases) (c : Lexeme) → Right ed (next cs c) other) → Right ed (read_clauses l next) other
clauses_right ed l next f = (
  (refl, refl, tt),
  (λ t. case_right ed l [] next t f),
  ((refl, refl, tt), (λ t. default_right ed l [] next t.place f), ((refl, refl, tt), λ c. f no_clauses c)),
)

body_right : (ed : Edition) → (l : ℕ) (p : Place) (next : Statement → Reader) (i : Option Simple) (tag : Option Expression) → Behind ed next → Right ed (switch_body l p next i tag) other
body_right ed l p next i tag f = clauses_right ed l (λ cs c. next (switch_statement p i tag cs)) (λ cs c. f (switch_statement p i tag cs))

tag_right : (ed : Edition) → (l : ℕ) (p : Place) (next : Statement → Reader) (i : Option Simple) → Behind ed next → Right ed (switch_tag l p next i) other
tag_right ed l p next i f = (
  (refl, refl, tt),
  (λ o. body_right ed l p next i None f),
  (tt, λ e q en. ((plain_end q en, refl, tt), λ o. body_right ed l p next i (Some e) f)),
)

switch_right : (ed : Edition) → (l : ℕ) (next : Statement → Reader) (t : Lexeme) → Behind ed next → Right ed (behind_switch l next t) other
switch_right ed l next t f = (
  (refl, refl, tt),
  (λ o. body_right ed l t.place next None None f),
  (
    (refl, refl, refl),
    (λ s. tag_right ed l t.place next None f),
    (
      tt,
      λ e q en. (
        en,
        (λ s r er. ((plain_end r er, refl, tt), λ c. tag_right ed l t.place next (Some s) f)),
        (λ yes c r er. ((plain_end r er, refl, tt), λ o. body_right ed l t.place next None (Some c) f)),
        (λ never. absurd (false_true never)),
        (λ s. refl),
      ),
    ),
  ),
)

-- simple statements

assignment_special : (k : TokenKind) (op : BinaryOperator) → assignment_of k ≡ Some op → is_special k ≡ false
assignment_special kinds.Name op e = absurd (let c : None ≡ Some op = e in cc (c))
assignment_special (kinds.Punctuation marks.OpenBracket) op e = absurd (let c : None ≡ Some op = e in cc (c))
assignment_special (kinds.Punctuation marks.Period) op e = absurd (let c : None ≡ Some op = e in cc (c))
assignment_special (kinds.Punctuation marks.Assign) op e = absurd (let c : None ≡ Some op = e in cc (c))
assignment_special (kinds.Keyword keywords.Func) op e = absurd (let c : None ≡ Some op = e in cc (c))
assignment_special (kinds.Keyword keywords.Break) op e = absurd (let c : None ≡ Some op = e in cc (c))
assignment_special (kinds.Keyword keywords.Continue) op e = absurd (let c : None ≡ Some op = e in cc (c))
assignment_special _ op e = refl

pub alone_two : (m : Position) (e f : Expression) (es : List Expression) → is_alone m (e ∷ f ∷ es) ≡ false
alone_two in_list (name p text) f es = refl
alone_two in_list _ f es = refl
alone_two in_header e f es = refl
alone_two in_for e f es = refl
alone_two behind_turns e f es = refl

pub alone_call : (m : Position) (e : Expression) → is_call e ≡ true → is_alone m (e ∷ []) ≡ false
alone_call in_list (name p text) c = absurd (false_true c)
alone_call in_list _ c = refl
alone_call in_header e c = refl
alone_call in_for e c = refl
alone_call behind_turns e c = refl

pub alone_header : (m : Position) (es : List Expression) → is_header m ≡ true → is_alone m es ≡ false
alone_header in_list es c = absurd (false_true c)
alone_header in_header es c = refl
alone_header in_for es c = refl
alone_header behind_turns es c = absurd (false_true c)

alone_lone : (e : Expression) → is_lone e ≡ false → is_alone in_list (e ∷ []) ≡ false
alone_lone (name p text) e = absurd (false_true (sym e))
alone_lone _ e = refl

-- no comma comes next
abbrev Quiet : (ed : Edition) → (Simple → Reader) → Type 0
Quiet ed next = (s : Simple) → starts ed (next s) comma ≡ false

abbrev RangeRight : (ed : Edition) → Position → (Name → Expression → Reader) → Type 0
RangeRight ed m range = is_for m ≡ true → (n : Name) (e : Expression) (q : Last) → is_end q ≡ true → Right ed (range n e) q

define_right : (ed : Edition) → (m : Position) (h : Bool) (l : ℕ) (ns : List Name) (next : Simple → Reader) (range : Name → Expression → Reader) → Ended ed next → RangeRight ed m range → Quiet ed next →
    Right ed (behind_define m h l ns next range) other
define_right ed in_for h l (n ∷ []) next range f g z = (
  (refl, refl, tt),
  (λ r. (tt, λ e q en. g refl n e q en)),
  (tt, λ e q en. (en, (λ es r er. f (short_var_decl (n ∷ []) (pack es)) r er), λ es. z (short_var_decl (n ∷ []) (pack es)))),
)
define_right ed in_for h l [] next range f g z = (tt, λ e q en. (en, (λ es r er. f (short_var_decl [] (pack es)) r er), λ es. z (short_var_decl [] (pack es))))
define_right ed in_for h l (n ∷ o ∷ ns) next range f g z = (tt, λ e q en. (en, (λ es r er. f (short_var_decl (n ∷ o ∷ ns) (pack es)) r er), λ es. z (short_var_decl (n ∷ o ∷ ns) (pack es))))
define_right ed in_list h l ns next range f g z = (tt, λ e q en. (en, (λ es r er. f (short_var_decl ns (pack es)) r er), λ es. z (short_var_decl ns (pack es))))
define_right ed in_header h l ns next range f g z = (tt, λ e q en. (en, (λ es r er. f (short_var_decl ns (pack es)) r er), λ es. z (short_var_decl ns (pack es))))
define_right ed behind_turns h l ns next range f g z = (tt, λ e q en. (en, (λ es r er. f (short_var_decl ns (pack es)) r er), λ es. z (short_var_decl ns (pack es))))

define_led : (ed : Edition) → (p : Last) (b : Bool) (m : Position) (h : Bool) (l : ℕ) (next : Simple → Reader) (range : Name → Expression → Reader) (t : Lexeme) (x : Move)
    (o : Option (List Name)) →
    Ended ed next → RangeRight ed m range → Quiet ed next → Led ed p b t.kind x → Led ed p b t.kind (on_define m h l next range t x o)
define_led ed p b m h l next range t x None f g z r = r
define_led ed p b m h l next range t x (Some ns) f g z r =
    led_cond ed p b t.kind (same define t.kind && may_define m) _ _
    (λ k. (other, ap is_special (are_same define t.kind (both_true (same define t.kind) (may_define m) k).0), define_right ed m h l ns next range f g z)) (λ _. r)

pub lefts_led : (ed : Edition) → (p : Last) (b : Bool) (m : Position) (h : Bool) (l : ℕ) (front : List Expression) (next : Simple → Reader) (alone : Expression → Reader)
    (range : Name → Expression → Reader) (t : Lexeme) (x : Move) →
    ((e : Expression) → is_alone m (front ++ e ∷ []) ≡ false) → Ended ed next → (is_header m ≡ true → Ended ed alone) → RangeRight ed m range → Quiet ed next → Led ed p b t.kind x →
    Led ed p b t.kind (on_lefts m h l front next alone range t x)
lefts_led ed p b m h l front next alone range t x two f a g z r =
    led_cond ed p b t.kind (same comma t.kind) _ _
    (λ k. (other, ap is_special (are_same comma t.kind k), (tt, λ e q en. (subst (λ c. LeftsOk c q) (sym (two e)) en, f, a, g, z)))) (λ _.
    led_cond ed p b t.kind (same assign t.kind) _ _
    (λ k. (equals, are_same assign t.kind k, (tt, λ e q en. (en, (λ es r er. f (assignment (pack front) (pack es)) r er), λ es. z (assignment (pack front) (pack es)))))) (λ _.
    define_led ed p b m h l next range t x (names_if front) f g z r))

assignment_led : (ed : Edition) → (p : Last) (b : Bool) (h : Bool) (l : ℕ) (e : Expression) (next : Simple → Reader) (k : TokenKind) (x : Move) (o : Option BinaryOperator) →
    assignment_of k ≡ o →
    Ended ed next → Led ed p b k x → Led ed p b k (on_assignment h l e next x o)
assignment_led ed p b h l e next k x None is f r = r
assignment_led ed p b h l e next k x (Some op) is f r = (other, assignment_special k op is, (tt, λ a q en. f (operator_assignment op e a) q en))

pub left_led : (ed : Edition) → (p : Last) (b : Bool) (h : Bool) (l : ℕ) (e : Expression) (next : Simple → Reader) (t : Lexeme) (x : Move) → Ended ed next → Led ed p b t.kind x →
    Led ed p b t.kind (on_left h l e next t x)
left_led ed p b h l e next t x f r =
    led_cond ed p b t.kind (same (kinds.Punctuation marks.Increment) t.kind) _ _
    (λ k. (other, ap is_special (are_same (kinds.Punctuation marks.Increment) t.kind k), f (increment e) other refl)) (λ _.
    led_cond ed p b t.kind (same (kinds.Punctuation marks.Decrement) t.kind) _ _
    (λ k. (other, ap is_special (are_same (kinds.Punctuation marks.Decrement) t.kind k), f (decrement e) other refl)) (λ _.
    assignment_led ed p b h l e next t.kind x (assignment_of t.kind) refl f r))

-- statements

pub on_stmt_led : (ed : Edition) → (b : Bool) (l : ℕ) (next : Expected → Statement → Reader) (t : Lexeme) → b ≡ true → Ended ed (next another) →
    ((s : Statement) → Right ed (next behind_a_jump s) jump) → Silent ed (next another) → Led ed other b t.kind (on_stmt l next t)
on_stmt_led ed b l next t bt f j quiet =
    led_cond ed other b t.kind (same (keyword keywords.Const) t.kind) _ _
    (λ k. (
      other,
      ap is_special (are_same (keyword keywords.Const) t.kind k),
      const_decl_right ed (l + 1) (λ d. next another (declaration t.place d)) t
          (λ d q en. f (declaration t.place d) q en) (λ d. quiet (declaration t.place d)),
    )) (λ _.
    led_cond ed other b t.kind (same (keyword keywords.Var) t.kind) _ _
    (λ k. (
      other,
      ap is_special (are_same (keyword keywords.Var) t.kind k),
      var_decl_right ed (l + 1) (λ d. next another (declaration t.place d)) t
          (λ d q en. f (declaration t.place d) q en) (λ d. quiet (declaration t.place d)),
    )) (λ _.
    led_cond ed other b t.kind (same (keyword keywords.Return) t.kind) _ _
    (λ k. (
      other,
      ap is_special (are_same (keyword keywords.Return) t.kind k),
      (
        refl,
        refl,
        (quiet (return t.place no_exprs)).1,
        (λ e q en. (en, (λ es r er. f (return t.place (pack es)) r er), λ es. (quiet (return t.place (pack es))).0)),
        f (return t.place no_exprs) other refl,
        (quiet (return t.place no_exprs)).3,
      ),
    )) (λ _.
    led_cond ed other b t.kind (same (keyword keywords.Break) t.kind) _ _
    (λ k. (jump, inl (are_same (keyword keywords.Break) t.kind k), j (break t.place))) (λ _.
    led_cond ed other b t.kind (same (keyword keywords.Continue) t.kind) _ _
    (λ k. (jump, inr (are_same (keyword keywords.Continue) t.kind k), j (continue t.place))) (λ _.
    led_cond ed other b t.kind (same (keyword keywords.Fallthrough) t.kind) _ _
    (λ k. (other, ap is_special (are_same (keyword keywords.Fallthrough) t.kind k), f (fallthrough t.place) other refl)) (λ _.
    led_cond ed other b t.kind (same opening_brace t.kind) _ _
    (λ k. (
      other,
      ap is_special (are_same opening_brace t.kind k),
      (refl, λ ss c. f (block_statement (block t.place (pack_statements ss) c.place)) other refl),
    )) (λ _.
    led_cond ed other b t.kind (same (keyword keywords.If) t.kind) _ _
    (λ k. (
      other,
      ap is_special (are_same (keyword keywords.If) t.kind k),
      if_right ed l (λ i. next another (if_statement i)) t (λ i. f (if_statement i) other refl),
    )) (λ _.
    led_cond ed other b t.kind (same (keyword keywords.For) t.kind) _ _
    (λ k. (other, ap is_special (are_same (keyword keywords.For) t.kind k), for_right ed l (next another) t (λ s. f s other refl))) (λ _.
    led_cond ed other b t.kind (same (keyword keywords.Switch) t.kind) _ _
    (λ k. (other, ap is_special (are_same (keyword keywords.Switch) t.kind k), switch_right ed l (next another) t (λ s. f s other refl))) (λ _.
    on_expr_led ed other b 5 false (l + 1) a_statement (list_lefts in_list false (l + 1) (λ s. next another (simple (simple_place s) s))) t
    (λ e. (
      first_name,
      (e, refl, bt),
      (
        refl,
        (λ s q en. f (simple (simple_place s) s) q en),
        (λ never. absurd (false_true never)),
        (λ never. absurd (false_true never)),
        (λ s. (quiet (simple (simple_place s) s)).0),
      ),
    ))
    (λ a q en nl. (
      subst (λ c. LeftsOk c q) (sym (alone_lone a nl)) en,
      (λ s q en. f (simple (simple_place s) s) q en),
      (λ never. absurd (false_true never)),
      (λ never. absurd (false_true never)),
      (λ s. (quiet (simple (simple_place s) s)).0),
    ))))))))))))

-- items of lists

abbrev pub at_return : ListKind → Bool
at_return (statements l) = true
at_return _ = false

pub on_item_led : (ed : Edition) → (k : ListKind) (front : List (Item k)) (next : List (Item k) → Lexeme → Reader) (t : Lexeme) (b : Bool) → b ≡ at_return k →
    ((is : List (Item k)) (c : Lexeme) → Right ed (next is c) other) → Led ed other b t.kind (on_item k front next t)
on_item_led ed (fields l) front next t b e f =
    led_cond ed other b t.kind (same kinds.Name t.kind) _ _
    (λ k. (name_last, (are_same kinds.Name t.kind k, refl, e), (refl, (λ ns. ((λ a. refl), λ a q en. (en, f))), λ ns. refl))) (λ _. tt)
on_item_led ed (arguments l) front next t b e f =
    on_expr_led ed other b 5 false l an_operand (λ a. list_end (arguments l) another (front ++ a ∷ []) next) t (λ k. (passed, (k, refl, e), (refl, f)))
    (λ a q en nl. (en, f))
on_item_led ed (elements l) front next t b e f = on_element_led ed b l front next t e f
on_item_led ed (const_specs l) front next t b e f =
    led_cond ed other b t.kind (same kinds.Name t.kind) _ _
    (λ k. (
      name_last,
      (are_same kinds.Name t.kind k, refl, e),
      (
        refl,
        (λ ns. const_right ed l (λ s. list_end (const_specs l) another (front ++ s ∷ []) next) ns
            (λ s q en. (en, f)) (λ s. (refl, refl, refl, refl))),
        λ ns. refl,
      ),
    )) (λ _. tt)
on_item_led ed (var_specs l) front next t b e f =
    led_cond ed other b t.kind (same kinds.Name t.kind) _ _
    (λ k. (
      name_last,
      (are_same kinds.Name t.kind k, refl, e),
      (
        refl,
        (λ ns. var_right ed l (λ s. list_end (var_specs l) another (front ++ s ∷ []) next) ns
            (λ s q en. (en, f)) (λ s. (refl, refl, refl, refl))),
        λ ns. refl,
      ),
    )) (λ _. tt)
on_item_led ed (type_specs l) front next t b e f =
    led_cond ed other b t.kind (same kinds.Name t.kind) _ _
    (λ k. (
      name_last,
      (are_same kinds.Name t.kind k, refl, e),
      type_right ed l (λ s. list_end (type_specs l) another (front ++ s ∷ []) next) t
          (λ s q en. (en, f)) (λ s. (refl, refl, refl, refl)),
    )) (λ _. tt)
on_item_led ed import_specs front next t b e f =
    led_cond ed other b t.kind (same kinds.Name t.kind) _ _
    (λ k. (name_last, (are_same kinds.Name t.kind k, refl, e), (tt, λ s. (refl, f)))) (λ _.
    led_cond ed other b t.kind (is_string_token (codes "C") t) _ _
    (λ k. (other, ap is_special (string_is t k).0, (refl, f))) (λ _. tt))
on_item_led ed (statements l) front next t b e f =
    led_cond ed other b t.kind (same semicolon t.kind) _ _
    (λ k. (other, ap is_special (are_same semicolon t.kind k), (refl, f))) (λ _.
    on_stmt_led ed b l (λ x s. list_end (statements l) x (front ++ s ∷ []) next) t e (λ s q en. (en, f)) (λ s. (refl, f)) (λ s. (refl, refl, refl, refl)))
on_item_led ed parameters front next t b e f =
    led_cond ed other b t.kind (same kinds.Name t.kind) _ _
    (λ k. (name_last, (are_same kinds.Name t.kind k, refl, e), (refl, (λ ns. ((λ a. refl), λ a q en. (en, f))), λ ns. refl))) (λ _. tt)
on_item_led ed results front next t b e f = on_type_led ed other b 1 a_type (λ a. list_end results a_result_end (front ++ a ∷ []) next) t refl e (λ a q en. (en, f))

-- files

pub decls_right : (ed : Edition) → (p : Name) (is : List ImportSpec) (ds : List TopLevel) → Right ed (decls_at p is ds) other
decls_right ed p is ds = (
  (refl, refl, tt),
  (λ t. const_decl_right ed 1 (λ d. decl_end p is (ds ++ declared d ∷ [])) t (λ d q en. en) (λ d. (refl, refl, refl, refl))),
  (
    (refl, refl, tt),
    (λ t. var_decl_right ed 1 (λ d. decl_end p is (ds ++ declared d ∷ [])) t (λ d q en. en) (λ d. (refl, refl, refl, refl))),
    (
      (refl, refl, tt),
      (λ t. type_decl_right ed 1 (λ d. decl_end p is (ds ++ declared d ∷ [])) t (λ d q en. en) (λ d. (refl, refl, refl, refl))),
      (
        (refl, refl, tt),
        (λ t. (
          (refl, refl),
          λ n. (
            (refl, refl),
            λ o. (
              refl,
              λ ps c. (
                (refl, refl, tt),
                (λ o. (refl, λ rs d. ((refl, refl, tt), λ o. (refl, λ ss e. refl)))),
                (
                  refl,
                  (λ a q en. ((plain_end q en, refl, tt), λ o. (refl, λ ss e. refl))),
                  ((refl, refl, tt), λ o. (refl, λ ss e. refl)),
                ),
              ),
            ),
          ),
        )),
        refl,
      ),
    ),
  ),
)

pub imports_right : (ed : Edition) → (p : Name) (iss : List (List ImportSpec)) → Right ed (read_imports p iss) other
imports_right ed p iss = (
  (refl, refl, tt),
  (λ t. (
    (refl, refl, tt),
    (λ o. (refl, λ is c. refl)),
    ((refl, refl, (refl, refl, refl, refl)), (λ n. (tt, λ s. refl)), (tt, λ s. refl)),
  )),
  decls_right ed p (concat iss) [],
)

pub start_right : (ed : Edition) → Right ed start other
start_right ed = ((refl, refl, tt), λ k. (refl, λ n. ((refl, refl, tt), λ s. imports_right ed (name_of n) [])))
