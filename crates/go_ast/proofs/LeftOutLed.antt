-- Labels stay right from token to token, in all states, and what the last token was is known.
use Rattle.std.proofs.Common.{◌≡◌, ◌+◌, Bool, true, false, ◌&&◌, ◌||◌, [], ◌∷◌, ◌++◌, refl, sym, ap, ◌∙◌, subst, ℕ}
use Rattle.std.specs.Prelude.{codes}
use Rattle.go_text.specs.declared.edition.Edition.{Edition}
use Rattle.go_text.specs.Editions.{has_slices}
use Rattle.go_scan.specs.declared.token.TokenKind.{TokenKind}
use Rattle.go_scan.specs.declared.token.TokenKind.TheVariants as kinds
use Rattle.go_scan.specs.declared.keyword.Keyword.TheVariants as keywords
use Rattle.go_scan.specs.declared.punctuation.Punctuation.TheVariants as marks
use Rattle.go_ast.specs.Kinds.{same}
use Rattle.go_ast.specs.Operators.{binary_of}
use Rattle.go_ast.specs.Expected.{Expected, a_type, an_index_end, a_selected_name, a_function_name, a_function_opening, another, is_left_out_at, a_length, an_index}
use Rattle.go_ast.specs.Trees.{TypeExpr, name, call_statement, conditional, no_else}
use Rattle.go_ast.specs.Grammar.{Lexeme, opening_brace, closing_brace, comma, semicolon, is_call, closing}
use Rattle.go_ast.specs.Machine.{ListKind, fields, arguments, elements, const_specs, var_specs, type_specs, import_specs, statements, parameters, results, separator, closer, Reader, ended, token, package_name, import_path, optional, type, optional_type, expr, optional_expr, suffixes, operators, more_names, more_exprs, list_start, list_end, lefts, else_part, clause_start, clause_end, import_end, decl_end, Move, Take, Fail, cond, keyword, is_string_token, on_optional, behind_left, is_header, with_clause, parser_step, newer, operands}
use Rattle.go_ast.proofs.Same.{are_same, not_same}
use Rattle.go_ast.proofs.Base.{false_true, both_true}
use Rattle.go_ast.proofs.Tokens.{is_package, package_is, string_is}
use Rattle.go_ast.proofs.LeftOutStates.{Last, other, name_last, names, passed, first_name, func_name, bracket, dot, equals, func, jump, is_end, is_plain, is_func, is_special, is_mark, is_optional, after, behind_optional, under, starts, starts_item, veto, TokenOk, OptionalOk, TypeOk, OptionalTypeOk, ExprOk, LeftsOk, Right, Tells, Led, is_newer, by_newer, NewerOk, pick, label}
use Rattle.go_ast.proofs.LeftOutKept.{led_cond, on_type_led, on_expr_led, suffix_led, operator_led, on_operand_led}
use Rattle.go_ast.proofs.LeftOutStatements.{alone_two, alone_call, alone_header, lefts_led, left_led, else_right, case_right, default_right, on_stmt_led, at_return, on_item_led, imports_right, decls_right}

-- what was last hangs on the state before only by `func`
tells_func : (r p q : Last) (b : Bool) (k : TokenKind) → is_func q ≡ is_func p → Tells r q b k → Tells r p b k
tells_func other p q b k e h = h
tells_func name_last p q b k e h = (h.0, sym e ∙ h.1, h.2)
tells_func passed p q b k e h = (h.0, sym e ∙ h.1, h.2)
tells_func first_name p q b k e h = (h.0, sym e ∙ h.1, h.2)
tells_func func_name p q b k e h = (h.0, sym e ∙ h.1)
tells_func bracket p q b k e h = h
tells_func dot p q b k e h = h
tells_func equals p q b k e h = h
tells_func func p q b k e h = h
tells_func jump p q b k e h = h
tells_func _ p q b k e h = absurd h

led_func : (ed : Edition) → (p q : Last) (b : Bool) (k : TokenKind) (m : Move) → is_func q ≡ is_func p → Led ed q b k m → Led ed p b k m
led_func ed p q b k (Take need s) e h = (h.0, tells_func h.0 p q b k e h.1, h.2)
led_func ed p q b k (Fail x) e h = tt

-- behind a brace nothing hangs on whether a `return` could stand
brace_name : {A : Type 0} (k : TokenKind) → k ≡ opening_brace → k ≡ kinds.Name → A
brace_name k e q = absurd (let c : opening_brace ≡ kinds.Name = sym e ∙ q in cc (c))

tells_brace : (r p : Last) (b c : Bool) (k : TokenKind) → k ≡ opening_brace → Tells r p b k → Tells r p c k
tells_brace other p b c k e h = h
tells_brace name_last p b c k e h = brace_name k e h.0
tells_brace passed p b c k e h = brace_name k e h.0
tells_brace first_name p b c k e h = brace_name k e h.0
tells_brace func_name p b c k e h = h
tells_brace bracket p b c k e h = h
tells_brace dot p b c k e h = h
tells_brace equals p b c k e h = h
tells_brace func p b c k e h = h
tells_brace jump p b c k e h = h
tells_brace _ p b c k e h = absurd h

led_brace : (ed : Edition) → (p : Last) (b c : Bool) (k : TokenKind) (m : Move) → k ≡ opening_brace → Led ed p b k m → Led ed p c k m
led_brace ed p b c k (Take need s) e h = (h.0, tells_brace h.0 p b c k e h.1, h.2)
led_brace ed p b c k (Fail x) e h = tt

pub plain_func : (p : Last) → is_plain p ≡ true → is_func p ≡ false
plain_func func e = absurd (false_true e)
plain_func _ e = refl

pub end_func : (p : Last) → is_end p ≡ true → is_func p ≡ false
end_func func e = absurd (false_true e)
end_func _ e = refl

-- tokens of a kind, due or missing

mark_tells : (k : TokenKind) (p : Last) → is_plain p ≡ true → is_mark k ≡ true → Tells (after k another) p (same k (keyword keywords.Return) || false) k
mark_tells kinds.Name p pl m = (refl, plain_func p pl, refl)
mark_tells (kinds.Punctuation marks.Assign) p pl m = refl
mark_tells (kinds.Punctuation marks.OpenBracket) p pl m = absurd (false_true m)
mark_tells (kinds.Punctuation marks.Period) p pl m = absurd (false_true m)
mark_tells (kinds.Keyword keywords.Func) p pl m = absurd (false_true m)
mark_tells (kinds.Keyword keywords.Break) p pl m = absurd (false_true m)
mark_tells (kinds.Keyword keywords.Continue) p pl m = absurd (false_true m)
mark_tells _ p pl m = refl

token_tells : (ed : Edition) → (x : Expected) (p : Last) (k : TokenKind) (next : Lexeme → Reader) → TokenOk ed p k x next →
    Tells (after k x) p (same k (keyword keywords.Return) || false) k
token_tells ed another p k next h = mark_tells k p h.0 h.1
token_tells ed an_index_end p k next h =
    subst (λ j. Tells (after j an_index_end) p (same j (keyword keywords.Return) || false) j) (sym h.1) refl
token_tells ed a_selected_name p k next h =
    subst (λ j. Tells (after j a_selected_name) p (same j (keyword keywords.Return) || false) j) (sym h.1) (refl, ap is_func h.0, refl)
token_tells ed a_function_name p k next h =
    subst (λ j. Tells (after j a_function_name) p (same j (keyword keywords.Return) || false) j) (sym h.1) (refl, ap is_func h.0)
token_tells ed a_function_opening p k next h =
    subst (λ j. Tells (after j a_function_opening) p (same j (keyword keywords.Return) || false) j) (sym h.1) refl
token_tells ed _ p k next h = absurd h

optional_tells : (ed : Edition) → (k : TokenKind) (p : Last) (some : Lexeme → Reader) (none : Reader) → OptionalOk ed p k some none →
    Tells (behind_optional k) p (same k (keyword keywords.Return) || starts ed none (keyword keywords.Return)) k
optional_tells ed kinds.Name p some none h = (refl, ap is_func h.2.3, h.2.2)
optional_tells ed (kinds.Punctuation marks.Period) p some none h = refl
optional_tells ed (kinds.Punctuation marks.Assign) p some none h = refl
optional_tells ed (kinds.Keyword keywords.Func) p some none h = refl
optional_tells ed (kinds.Punctuation marks.OpenBracket) p some none h = absurd (false_true h.1)
optional_tells ed (kinds.Keyword keywords.Break) p some none h = absurd (false_true h.1)
optional_tells ed (kinds.Keyword keywords.Continue) p some none h = absurd (false_true h.1)
optional_tells ed _ p some none h = refl

under_func : (k : TokenKind) (p : Last) → is_end p ≡ true → is_func (under k p) ≡ is_func p
under_func kinds.Name p e = sym (end_func p e)
under_func (kinds.Punctuation marks.Colon) p e = sym (end_func p e)
under_func (kinds.Punctuation marks.CloseBracket) p e = sym (end_func p e)
under_func _ p e = refl

-- a kind that may be missing is none of the others
pub optional_not : (k j : TokenKind) → is_optional k ≡ true → is_optional j ≡ false → same k j ≡ false
optional_not k j there not = not_same k j (λ e. false_true (sym not ∙ ap is_optional e ∙ there))

pub mark_not : (k j : TokenKind) → is_mark k ≡ true → is_mark j ≡ false → same k j ≡ false
mark_not k j there not = not_same k j (λ e. false_true (sym not ∙ ap is_mark e ∙ there))

-- a token that came with slices

pub newer_kind : (ed : Edition) → (p : Last) (kind : TokenKind) (x : Expected) (some : Lexeme → Reader) → NewerOk ed p kind x some →
    (is_newer kind ≡ true) × (is_special kind ≡ false)
newer_kind ed p kind a_length some h = (ap is_newer h.1, ap is_special h.1)
newer_kind ed p kind an_index some h = (ap is_newer h.1, ap is_special h.1)
newer_kind ed p kind an_index_end some h = (ap is_newer h.1, ap is_special h.1)
newer_kind ed p kind _ some h = absurd h

pub newer_not : (ed : Edition) → (p : Last) (kind : TokenKind) (x : Expected) (some : Lexeme → Reader) (j : TokenKind) → NewerOk ed p kind x some →
    is_newer j ≡ false → same kind j ≡ false
newer_not ed p kind x some j h not = not_same kind j (λ e. false_true (sym not ∙ ap is_newer e ∙ (newer_kind ed p kind x some h).0))

by_newer_other : (c e b : Bool) → c ≡ false → by_newer c e b ≡ b
by_newer_other true e b q = absurd (false_true (sym q))
by_newer_other false e b q = refl

-- other tokens come as what may be read instead has them
pub newer_starts : (ed : Edition) → (p : Last) (kind : TokenKind) (need : ℕ) (x : Expected) (some : Lexeme → Reader) (none : Reader) (j : TokenKind) →
    NewerOk ed p kind x some → is_newer j ≡ false → starts ed (newer kind need x some none) j ≡ starts ed none j
newer_starts ed p kind need x some none j h not = by_newer_other (same kind j) (has_slices ed) (starts ed none j) (newer_not ed p kind x some j h not)

picked_alike : (c : Bool) (x y : Expected) → y ≡ x → pick c x y ≡ y
picked_alike true x y e = sym e
picked_alike false x y e = refl

-- and so is what is expected
pub newer_label : (kind : TokenKind) (need : ℕ) (x : Expected) (some : Lexeme → Reader) (none : Reader) (k : TokenKind) → label none k ≡ x →
    label (newer kind need x some none) k ≡ label none k
newer_label kind need x some none k e = picked_alike (same kind k) x (label none k) e

type_func : (ed : Edition) → (p : Last) (x : Expected) (next : TypeExpr → Reader) → TypeOk ed p x next → is_func p ≡ false
type_func ed func x next h = absurd h
type_func ed _ x next h = refl

optional_silent : (ed : Edition) → (p : Last) (x : Expected) (some : TypeExpr → Reader) (none : Reader) → OptionalTypeOk ed p x some none →
    (is_func p ≡ false) × (starts ed none (keyword keywords.Return) ≡ false)
optional_silent ed other a_type some none h = (refl, h)
optional_silent ed names a_type some none h = (refl, h.2)
optional_silent ed _ _ some none h = absurd h

expr_func : (ed : Edition) → (p : Last) (x : Expected) (s : Reader) → ExprOk ed p x s → is_func p ≡ false
expr_func ed func x s h = absurd h
expr_func ed _ x s h = refl

led_optional : (ed : Edition) → (p : Last) (b : Bool) (k : TokenKind) (c d : Bool) (x : Expected) (m n : Move) → Led ed p b k m → Led ed p b k n → Led ed p b k (on_optional c d x m n)
led_optional ed p b k true d x m n h i = h
led_optional ed p b k false true x m n h i = tt
led_optional ed p b k false false x m n h i = i

veto_false : (d b : Bool) → b ≡ false → b ≡ veto d b
veto_false true b e = e
veto_false false b e = refl

-- items of lists

closer_special : (k : ListKind) → is_special (closer k) ≡ false
closer_special (fields l) = refl
closer_special (arguments l) = refl
closer_special (elements l) = refl
closer_special (const_specs l) = refl
closer_special (var_specs l) = refl
closer_special (type_specs l) = refl
closer_special import_specs = refl
closer_special (statements l) = refl
closer_special parameters = refl
closer_special results = refl

separator_special : (k : ListKind) → is_special (separator k) ≡ false
separator_special (fields l) = refl
separator_special (arguments l) = refl
separator_special (elements l) = refl
separator_special (const_specs l) = refl
separator_special (var_specs l) = refl
separator_special (type_specs l) = refl
separator_special import_specs = refl
separator_special (statements l) = refl
separator_special parameters = refl
separator_special results = refl

start_return : (k : ListKind) → (same (closer k) (keyword keywords.Return) || starts_item k (keyword keywords.Return)) ≡ at_return k
start_return (fields l) = refl
start_return (arguments l) = refl
start_return (elements l) = refl
start_return (const_specs l) = refl
start_return (var_specs l) = refl
start_return (type_specs l) = refl
start_return import_specs = refl
start_return (statements l) = refl
start_return parameters = refl
start_return results = refl

-- what is behind a simple statement that is an expression alone

call_led : (ed : Edition) → (p : Last) (b : Bool) (k : TokenKind) (c d : Bool) (m n : Move) (x : Expected) → (c ≡ true → Led ed p b k m) → (d ≡ true → Led ed p b k n) →
    Led ed p b k (cond c m (cond d n (Fail x)))
call_led ed p b k true d m n x f g = f refl
call_led ed p b k false true m n x f g = g refl
call_led ed p b k false false m n x f g = tt

pub led : (ed : Edition) → (s : Reader) (p : Last) (t : Lexeme) → Right ed s p → Led ed p (starts ed s (keyword keywords.Return)) t.kind (parser_step ed s t)
led ed (ended f) p t r = tt
led ed (token kind need x next) p t r =
    led_cond ed p _ t.kind (same kind t.kind) _ _
    (λ k. (
      after kind x,
      subst (Tells (after kind x) p (same kind (keyword keywords.Return) || false)) (sym (are_same kind t.kind k)) (token_tells ed x p kind next r.0),
      r.1 t,
    )) (λ _. tt)
led ed (package_name next) p t r =
    led_cond ed p _ t.kind (is_package t) _ _ (λ k. (name_last, ((package_is t k).0, ap is_func r.0, refl), r.1 t)) (λ _. tt)
led ed (import_path x next) p t r =
    led_cond ed p _ t.kind (is_string_token (codes "C") t) _ _ (λ k. (other, ap is_special (string_is t k).0, r.1 t)) (λ _. tt)
led ed (optional kind need some none) p t r =
    led_cond ed p _ t.kind (same kind t.kind) _ _
    (λ k. (
      behind_optional kind,
      subst (Tells (behind_optional kind) p (same kind (keyword keywords.Return) || starts ed none (keyword keywords.Return)))
          (sym (are_same kind t.kind k)) (optional_tells ed kind p some none r.0),
      r.1 t,
    ))
    (λ _. led_func ed p (under kind p) _ t.kind (parser_step ed none t) (under_func kind p r.0.0)
    (subst (λ b. Led ed (under kind p) (b || starts ed none (keyword keywords.Return)) t.kind (parser_step ed none t))
    (sym (optional_not kind (keyword keywords.Return) r.0.1 refl)) (led ed none (under kind p) t r.2)))
led ed (newer kind need x some none) p t r =
    led_cond ed p _ t.kind (same kind t.kind) _ _
    (λ k. led_cond ed p _ t.kind (has_slices ed) _ _
    (λ e. (other, ap is_special (are_same kind t.kind k) ∙ (newer_kind ed p kind x some r.0).1, r.1 t)) (λ e. tt))
    (λ _. subst (λ b. Led ed p b t.kind (parser_step ed none t)) (sym (newer_starts ed p kind need x some none (keyword keywords.Return) r.0 refl)) (led ed none p t r.2))
led ed (type l x next) p t r = on_type_led ed p false l x next t (type_func ed p x next r.0) refl r.1
led ed (optional_type l x some none) p t r =
    let q = optional_silent ed p x some none r.0 in
    let d = is_left_out_at x (keyword keywords.Return) in
    let b : starts ed none (keyword keywords.Return) ≡ veto d (starts ed none (keyword keywords.Return)) = veto_false d (starts ed none (keyword keywords.Return)) q.1 in
    led_optional ed p (veto d (starts ed none (keyword keywords.Return))) t.kind _ _ x _ _
    (on_type_led ed p (veto d (starts ed none (keyword keywords.Return))) l x some t q.0 (sym b ∙ q.1) r.1)
    (subst (λ c. Led ed p c t.kind (parser_step ed none t)) b (led ed none p t r.2))
led ed (expr n h l x next) p t r =
    on_expr_led ed p false n h l x next t (λ e. (passed, (e, expr_func ed p x (expr n h l x next) r.0, refl), r.1 (name t.place t.text) passed refl))
    (λ a q en nl. r.1 a q en)
led ed (optional_expr h l x some none) p t r =
    let d = is_left_out_at x (keyword keywords.Return) in
    let b : starts ed none (keyword keywords.Return) ≡ veto d (starts ed none (keyword keywords.Return)) = veto_false d (starts ed none (keyword keywords.Return)) r.2 in
    led_optional ed p (veto d (starts ed none (keyword keywords.Return))) t.kind _ _ x _ _
    (on_expr_led ed p (veto d (starts ed none (keyword keywords.Return))) 5 h l x some t
    (λ e. (passed, (e, ap is_func r.0, sym b ∙ r.2), r.3 (name t.place t.text) passed refl)) (λ a q en nl. r.3 a q en))
    (subst (λ c. Led ed p c t.kind (parser_step ed none t)) b (led ed none p t r.4))
led ed (suffixes h l e next) p t r = suffix_led ed p _ h l e next t (parser_step ed (next e) t) r.1 (led ed (next e) p t r.0)
led ed (operators n h l e next) p t r = operator_led ed p _ n h l e next t.kind (parser_step ed (next e) t) (binary_of t.kind) refl r.1 (led ed (next e) p t r.0)
led ed (more_names front next) p t r =
    led_cond ed p _ t.kind (same comma t.kind) _ _
    (λ k. (other, ap is_special (are_same comma t.kind k), ((refl, refl, refl), λ n. (refl, r.1, r.2))))
    (λ _. led_func ed p names _ t.kind (parser_step ed (next front) t) (sym (ap is_func r.0)) (led ed (next front) names t (r.1 front)))
led ed (more_exprs h l front next) p t r =
    led_cond ed p _ t.kind (same comma t.kind) _ _
    (λ k. (other, ap is_special (are_same comma t.kind k), (tt, λ e q en. (en, r.1, r.2)))) (λ _. led ed (next front) p t (r.1 front p r.0))
led ed (list_start k front next) p t r =
    led_cond ed p _ t.kind (same (closer k) t.kind) _ _
    (λ c. (other, ap is_special (are_same (closer k) t.kind c) ∙ closer_special k, r.1 front t))
    (λ _. led_func ed p other _ t.kind _ (sym (ap is_func r.0)) (on_item_led ed k front next t _ (start_return k) r.1))
led ed (list_end k x front next) p t r =
    led_cond ed p _ t.kind (same (separator k) t.kind) _ _
    (λ c. (other, ap is_special (are_same (separator k) t.kind c) ∙ separator_special k, (refl, r.1))) (λ _.
    led_cond ed p _ t.kind (same (closer k) t.kind) _ _
    (λ c. (other, ap is_special (are_same (closer k) t.kind c) ∙ closer_special k, r.1 front t)) (λ _. tt))
led ed (operands l next) p t r =
    led_cond ed p _ t.kind (same closing t.kind) _ _
    (λ c. (other, ap is_special (are_same closing t.kind c), r.1 [] t))
    (λ _. led_func ed p other _ t.kind _ (sym (ap is_func r.0))
    (on_operand_led ed (has_slices ed) l (λ e. list_end (arguments l) another (e ∷ []) next) t (λ e q en. (en, r.1))))
led ed (lefts m h l [] next alone range) p t r = tt
led ed (lefts m h l (e ∷ []) next alone range) p t r =
    lefts_led ed p _ m h l (e ∷ []) next alone range t _ (λ f. alone_two m e f []) r.1 r.2 r.3 r.4
    (left_led ed p _ h l e next t _ r.1
    (call_led ed p _ t.kind (is_header m && same opening_brace t.kind) (is_call e) (parser_step ed (alone e) t) (parser_step ed (next (call_statement e)) t) (behind_left m e)
    (λ c. (let hd = both_true (is_header m) (same opening_brace t.kind) c in
    led_brace ed p (starts ed (alone e) (keyword keywords.Return)) _ t.kind (parser_step ed (alone e) t) (are_same opening_brace t.kind hd.1)
    (led ed (alone e) p t (r.2 hd.0 e p (subst (λ x. LeftsOk x p) (alone_header m (e ∷ []) hd.0) r.0)))))
    (λ c. subst (λ x. Led ed p (x && starts ed (next (call_statement e)) (keyword keywords.Return)) t.kind (parser_step ed (next (call_statement e)) t)) (sym c)
    (led ed (next (call_statement e)) p t (r.1 (call_statement e) p (subst (λ x. LeftsOk x p) (alone_call m e c) r.0))))))
led ed (lefts m h l (e ∷ f ∷ es) next alone range) p t r =
    lefts_led ed p _ m h l (e ∷ f ∷ es) next alone range t _ (λ g. alone_two m e f (es ++ g ∷ [])) r.1 r.2 r.3 r.4 tt
led ed (else_part l q i c b next) p t r =
    led_cond ed p _ t.kind (same (keyword keywords.Else) t.kind) _ _
    (λ k. (other, ap is_special (are_same (keyword keywords.Else) t.kind k), else_right ed l (λ x. next (conditional q i c b x)) (λ x. r.1 (conditional q i c b x))))
    (λ _. led_func ed p other _ t.kind _ (sym (ap is_func r.0)) (led ed (next (conditional q i c b no_else)) other t (r.1 (conditional q i c b no_else))))
led ed (clause_start l done q values front next) p t r =
    led_cond ed p true t.kind (same (keyword keywords.Case) t.kind) _ _
    (λ k. (other, ap is_special (are_same (keyword keywords.Case) t.kind k), case_right ed l (with_clause done q values front) next t r.1)) (λ _.
    led_cond ed p true t.kind (same (keyword keywords.Default) t.kind) _ _
    (λ k. (other, ap is_special (are_same (keyword keywords.Default) t.kind k), default_right ed l (with_clause done q values front) next t.place r.1)) (λ _.
    led_cond ed p true t.kind (same closing_brace t.kind) _ _
    (λ k. (other, ap is_special (are_same closing_brace t.kind k), r.1 _ t)) (λ _.
    led_cond ed p true t.kind (same semicolon t.kind) _ _
    (λ k. (other, ap is_special (are_same semicolon t.kind k), (refl, r.1))) (λ _.
    led_func ed p other true t.kind _ (sym (ap is_func r.0))
    (on_stmt_led ed true (l + 1) (λ x s. clause_end l x done q values (front ++ s ∷ []) next) t refl (λ s r' en. (en, r.1)) (λ s. (refl, r.1)) (λ s. (refl, refl, refl, refl)))))))
led ed (clause_end l x done q values front next) p t r =
    led_cond ed p _ t.kind (same semicolon t.kind) _ _
    (λ k. (other, ap is_special (are_same semicolon t.kind k), (refl, r.1))) (λ _.
    led_cond ed p _ t.kind (same closing_brace t.kind) _ _
    (λ k. (other, ap is_special (are_same closing_brace t.kind k), r.1 _ t)) (λ _. tt))
led ed (import_end q iss) p t r =
    led_cond ed p _ t.kind (same semicolon t.kind) _ _ (λ k. (other, ap is_special (are_same semicolon t.kind k), imports_right ed q iss)) (λ _. tt)
led ed (decl_end q is ds) p t r =
    led_cond ed p _ t.kind (same semicolon t.kind) _ _ (λ k. (other, ap is_special (are_same semicolon t.kind k), decls_right ed q is ds)) (λ _. tt)
