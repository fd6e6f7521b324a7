-- Behind the name of a declared type, and only there, an assignment stands for an alias.
use Rattle.std.proofs.Common.{◌≡◌, ℕ, Bool, true, false, ◌||◌, [], ◌∷◌, refl, sym, ap, ◌∙◌, subst}
use Rattle.go_text.specs.declared.edition.Edition.{Edition}
use Rattle.go_scan.specs.declared.token.TokenKind.{TokenKind}
use Rattle.go_scan.specs.declared.token.TokenKind.TheVariants as kinds
use Rattle.go_scan.specs.declared.keyword.Keyword.TheVariants as keywords
use Rattle.go_scan.specs.declared.punctuation.Punctuation.TheVariants as marks
use Rattle.go_ast.specs.Kinds.{same}
use Rattle.go_ast.specs.Expected.{Expected, an_operand, a_value, a_length, an_index, a_type, a_declared_type, a_parameter_type, an_element_end, a_field_end, a_result_end, behind_a_jump, an_index_end, a_selected_name, a_function_name, a_function_opening, another, is_left_out_at}
use Rattle.go_ast.specs.Trees.{TypeExpr, call_statement, conditional, no_else}
use Rattle.go_ast.specs.Grammar.{Lexeme, assign, comma, is_call}
use Rattle.go_ast.specs.Machine.{ListKind, fields, arguments, elements, const_specs, var_specs, type_specs, import_specs, statements, parameters, results, separator, closer, Reader, ended, token, package_name, import_path, optional, type, optional_type, expr, optional_expr, suffixes, operators, more_names, more_exprs, list_start, list_end, lefts, else_part, clause_start, clause_end, import_end, decl_end, keyword, behind_left, newer, operands}
use Rattle.go_ast.proofs.Base.{false_true, either_false}
use Rattle.go_ast.proofs.LeftOutStates.{Last, other, name_last, names, passed, first_name, func_name, bracket, equals, keyed, nameable, is_end, starts, start_label, label, pick, TokenOk, OptionalOk, TypeOk, OptionalTypeOk, ExprOk, EndOk, Right, under, bounded}
use Rattle.go_ast.proofs.LeftOutLabels.{by_call, call_end, or_right, token_starts}
use Rattle.go_ast.proofs.LeftOutLed.{optional_not, newer_starts, newer_label}
use Rattle.go_ast.proofs.LeftOutPlaces.{optional_type_is}
use Rattle.go_ast.proofs.LeftOutTests.{import_off, expr_off, newer_off, left_off, clause_off}

abbrev pub is_declared : Expected → Bool
is_declared a_declared_type = true
is_declared _ = false

abbrev a_struct : TokenKind
a_struct = keyword keywords.Struct

-- the name is the last token, a type may come, and no other name
abbrev pub Declares : (ed : Edition) → Last → Reader → Type 0
Declares ed p s = (p ≡ name_last) × (starts ed s a_struct ≡ true) × (starts ed s comma ≡ false)

pub not_end : {A : Type 0} (p : Last) → is_end p ≡ true → p ≡ name_last → A
not_end p e q = absurd (false_true (sym (ap is_end q) ∙ e))

pub under_not : {A : Type 0} (k : TokenKind) (p : Last) → is_end p ≡ true → under k p ≡ name_last → A
under_not kinds.Name p e q = absurd (false_true (sym (ap nameless q)))
  where
    nameless : Last → Bool
    nameless nameable = true
    nameless _ = false
under_not (kinds.Punctuation marks.Colon) p e q = absurd (let c : keyed ≡ name_last = q in cc (c))
under_not (kinds.Punctuation marks.CloseBracket) p e q = absurd (let c : bounded ≡ name_last = q in cc (c))
under_not _ p e q = not_end p e q

off : {A : Type 0} (x : Expected) → is_declared x ≡ false → is_declared x ≡ true → A
off x e q = absurd (false_true (sym e ∙ q))

token_declared : (ed : Edition) → (x : Expected) (p : Last) (kind : TokenKind) (next : Lexeme → Reader) → TokenOk ed p kind x next → is_declared x ≡ false
token_declared ed another p kind next h = refl
token_declared ed an_index_end p kind next h = refl
token_declared ed a_selected_name p kind next h = refl
token_declared ed a_function_name p kind next h = refl
token_declared ed a_function_opening p kind next h = refl
token_declared ed _ p kind next h = absurd h

type_declared : (ed : Edition) → (l : ℕ) (p : Last) (x : Expected) (next : TypeExpr → Reader) → TypeOk ed p x next → is_declared x ≡ true → Declares ed p (type l x next)
type_declared ed l other a_type next h q = absurd (false_true q)
type_declared ed l names a_type next h q = absurd (false_true q)
type_declared ed l names a_parameter_type next h q = absurd (false_true q)
type_declared ed l name_last a_declared_type next h q = (refl, refl, refl)
type_declared ed l _ _ next h q = absurd h

pub optional_type_end : (ed : Edition) → (p : Last) (x : Expected) (some : TypeExpr → Reader) (none : Reader) → OptionalTypeOk ed p x some none → is_end p ≡ true
optional_type_end ed other a_type some none h = refl
optional_type_end ed names a_type some none h = refl
optional_type_end ed _ _ some none h = absurd h

start_declared : (k : ListKind) → is_declared (start_label k) ≡ false
start_declared (fields l) = refl
start_declared (arguments l) = refl
start_declared (elements l) = refl
start_declared (const_specs l) = refl
start_declared (var_specs l) = refl
start_declared (type_specs l) = refl
start_declared import_specs = refl
start_declared (statements l) = refl
start_declared parameters = refl
start_declared results = refl

list_declared : (k : ListKind) (x : Expected) (p : Last) → EndOk k x p → is_declared x ≡ false
list_declared (fields l) a_field_end p h = refl
list_declared (elements l) an_element_end p h = refl
list_declared (elements l) another p h = refl
list_declared (statements l) behind_a_jump p h = refl
list_declared (statements l) another p h = refl
list_declared results a_result_end p h = refl
list_declared (arguments l) another p h = refl
list_declared (const_specs l) another p h = refl
list_declared (var_specs l) another p h = refl
list_declared (type_specs l) another p h = refl
list_declared import_specs another p h = refl
list_declared parameters another p h = refl
list_declared _ _ p h = absurd h

pub alias_to : (ed : Edition) → (s : Reader) (p : Last) → Right ed s p → is_declared (label s assign) ≡ true → Declares ed p s
alias_to ed (ended f) p r q = absurd (false_true q)
alias_to ed (token kind need x next) p r q = off x (token_declared ed x p kind next r.0) q
alias_to ed (package_name next) p r q = absurd (false_true q)
alias_to ed (import_path x next) p r q = off x (import_off ed is_declared refl refl p x r.0) q
alias_to ed (optional kind need some none) p r q = under_not kind p r.0.0 (alias_to ed none (under kind p) r.2 q).0
alias_to ed (newer kind need x some none) p r q =
    absurd (false_true (sym (newer_off ed is_declared refl refl refl p kind need x some none assign r.0 (r.3 assign)) ∙ q))
alias_to ed (type l x next) p r q = type_declared ed l p x next r.0 q
alias_to ed (optional_type l x some none) p r q =
    not_end p (optional_type_end ed p x some none r.0)
    (subst (λ y. is_declared (pick (is_left_out_at y assign) y (label none assign)) ≡ true → p ≡ name_last) (sym (optional_type_is ed p x some none r.0))
    (λ c. (alias_to ed none p r.2 c).0) q)
alias_to ed (expr n h l x next) p r q = off x (expr_off ed is_declared refl refl refl refl p x (expr n h l x next) r.0) q
alias_to ed (optional_expr h l x some none) p r q =
    not_end p (ap is_end r.0)
    (subst (λ y. is_declared (pick (is_left_out_at y assign) y (label none assign)) ≡ true → p ≡ name_last) (sym r.1) (λ c. (alias_to ed none p r.4 c).0) q)
alias_to ed (suffixes h l e next) p r q = alias_to ed (next e) p r.0 q
alias_to ed (operators n h l e next) p r q = alias_to ed (next e) p r.0 q
alias_to ed (more_names front next) p r q = not_end names refl (alias_to ed (next front) names (r.1 front) q).0
alias_to ed (more_exprs h l front next) p r q = not_end p r.0 (alias_to ed (next front) p (r.1 front p r.0) q).0
alias_to ed (list_start s front next) p r q = off (start_label s) (start_declared s) q
alias_to ed (list_end s x front next) p r q = off x (list_declared s x p r.0) q
alias_to ed (operands l next) p r q = absurd (false_true q)
alias_to ed (lefts m h l [] next alone range) p r q = absurd (false_true q)
alias_to ed (lefts m h l (e ∷ []) next alone range) p r q =
    by_call
    (λ c. is_declared (pick c (label (next (call_statement e)) assign) (behind_left m e)) ≡ true → Declares ed p (lefts m h l (e ∷ []) next alone range))
    (is_call e)
    (λ c d. (let en = call_end m e p r.0 c in not_end p en (alias_to ed (next (call_statement e)) p (r.1 (call_statement e) p en) d).0))
    (λ c d. off (behind_left m e) (left_off ed is_declared refl refl m e) d) q
alias_to ed (lefts m h l (e ∷ f ∷ es) next alone range) p r q = absurd (false_true q)
alias_to ed (else_part l a i c b next) p r q = not_end other refl (alias_to ed (next (conditional a i c b no_else)) other (r.1 (conditional a i c b no_else)) q).0
alias_to ed (clause_start l done a values front next) p r q = absurd (false_true q)
alias_to ed (clause_end l x done a values front next) p r q = off x (clause_off ed is_declared refl refl x p r.0) q
alias_to ed (import_end a iss) p r q = absurd (false_true q)
alias_to ed (decl_end a is ds) p r q = absurd (false_true q)

-- the other way round

-- the last token is a name
abbrev pub is_named : Last → Bool
is_named name_last = true
is_named passed = true
is_named first_name = true
is_named func_name = true
is_named keyed = true
is_named _ = false

pub not_named : {A : Type 0} (p : Last) → p ≡ other → is_named p ≡ true → A
not_named p e n = absurd (false_true (sym (ap is_named e) ∙ n))

pub under_named : (ed : Edition) → (k : TokenKind) (p : Last) (some : Lexeme → Reader) (none : Reader) → OptionalOk ed p k some none → is_named p ≡ true → is_named (under k p) ≡ true
under_named ed kinds.Name p some none h n = not_named p h.2.3 n
under_named ed (kinds.Punctuation marks.Colon) p some none h n = refl
under_named ed (kinds.Punctuation marks.CloseBracket) p some none h n = not_named p h.2.2 n
under_named ed _ p some none h n = n

type_named : (ed : Edition) → (p : Last) (x : Expected) (next : TypeExpr → Reader) → TypeOk ed p x next → is_named p ≡ true → is_declared x ≡ true
type_named ed other a_type next h n = absurd (false_true n)
type_named ed names a_type next h n = absurd (false_true n)
type_named ed names a_parameter_type next h n = absurd (false_true n)
type_named ed name_last a_declared_type next h n = refl
type_named ed _ _ next h n = absurd h

optional_type_named : (ed : Edition) → {A : Type 0} (p : Last) (x : Expected) (some : TypeExpr → Reader) (none : Reader) → OptionalTypeOk ed p x some none → is_named p ≡ true → A
optional_type_named ed other a_type some none h n = absurd (false_true n)
optional_type_named ed names a_type some none h n = absurd (false_true n)
optional_type_named ed _ _ some none h n = absurd h

pub expr_named : (ed : Edition) → {A : Type 0} (p : Last) (x : Expected) (s : Reader) → ExprOk ed p x s → is_named p ≡ true → A
expr_named ed other an_operand s h n = absurd (false_true n)
expr_named ed equals a_value s h n = absurd (false_true n)
expr_named ed bracket a_length s h n = absurd (false_true n)
expr_named ed bracket an_index s h n = absurd (false_true n)
expr_named ed bounded an_index s h n = absurd (false_true n)
expr_named ed _ _ s h n = absurd h

end_struct : (k : ListKind) → (same (separator k) a_struct || (same (closer k) a_struct || false)) ≡ false
end_struct (fields l) = refl
end_struct (arguments l) = refl
end_struct (elements l) = refl
end_struct (const_specs l) = refl
end_struct (var_specs l) = refl
end_struct (type_specs l) = refl
end_struct import_specs = refl
end_struct (statements l) = refl
end_struct parameters = refl
end_struct results = refl

pub alias_from : (ed : Edition) → (s : Reader) (p : Last) → Right ed s p → is_named p ≡ true → starts ed s a_struct ≡ true → starts ed s comma ≡ false → is_declared (label s assign) ≡ true
alias_from ed (ended f) p r n st co = absurd (false_true st)
alias_from ed (token kind need x next) p r n st co = absurd (false_true (sym (token_starts ed a_struct x p kind next refl r.0) ∙ st))
alias_from ed (package_name next) p r n st co = absurd (false_true st)
alias_from ed (import_path x next) p r n st co = absurd (false_true st)
alias_from ed (optional kind need some none) p r n st co =
    alias_from ed none (under kind p) r.2 (under_named ed kind p some none r.0 n)
    (or_right (same kind a_struct) (starts ed none a_struct) (starts ed none a_struct) (optional_not kind a_struct r.0.1 refl) refl ∙ st)
    (either_false (same kind comma) (starts ed none comma) co).1
alias_from ed (newer kind need x some none) p r n st co =
    ap is_declared (newer_label kind need x some none assign (r.3 assign))
    ∙ alias_from ed none p r.2 n (sym (newer_starts ed p kind need x some none a_struct r.0 refl) ∙ st)
    (sym (newer_starts ed p kind need x some none comma r.0 refl) ∙ co)
alias_from ed (type l x next) p r n st co = type_named ed p x next r.0 n
alias_from ed (optional_type l x some none) p r n st co = optional_type_named ed p x some none r.0 n
alias_from ed (expr m h l x next) p r n st co = expr_named ed p x (expr m h l x next) r.0 n
alias_from ed (optional_expr h l x some none) p r n st co = not_named p r.0 n
alias_from ed (suffixes h l e next) p r n st co = alias_from ed (next e) p r.0 n st co
alias_from ed (operators m h l e next) p r n st co = alias_from ed (next e) p r.0 n st co
alias_from ed (more_names front next) p r n st co = absurd (false_true (sym co))
alias_from ed (more_exprs h l front next) p r n st co = absurd (false_true (sym co))
alias_from ed (list_start s front next) p r n st co = not_named p r.0 n
alias_from ed (list_end s x front next) p r n st co = absurd (false_true (sym (end_struct s) ∙ st))
alias_from ed (operands l next) p r n st co = not_named p r.0 n
alias_from ed (lefts m h l [] next alone range) p r n st co = absurd (false_true st)
alias_from ed (lefts m h l (e ∷ []) next alone range) p r n st co = absurd (false_true (sym co))
alias_from ed (lefts m h l (e ∷ f ∷ es) next alone range) p r n st co = absurd (false_true (sym co))
alias_from ed (else_part l a i c b next) p r n st co = not_named p r.0 n
alias_from ed (clause_start l done a values front next) p r n st co = not_named p r.0 n
alias_from ed (clause_end l x done a values front next) p r n st co = absurd (false_true st)
alias_from ed (import_end a iss) p r n st co = absurd (false_true st)
alias_from ed (decl_end a is ds) p r n st co = absurd (false_true st)
