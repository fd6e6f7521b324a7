-- Where a statement may begin, and only there, a declaration of a type is left out; where a type may, and no operand, a
-- parenthesis is.
use Rattle.std.proofs.Common.{◌≡◌, Bool, true, false, ◌&&◌, ◌||◌, [], ◌∷◌, refl, sym, ◌∙◌, subst, ap}
use Rattle.go_text.specs.declared.edition.Edition.{Edition}
use Rattle.go_scan.specs.declared.token.TokenKind.{TokenKind}
use Rattle.go_scan.specs.declared.keyword.Keyword.TheVariants as keywords
use Rattle.go_ast.specs.Kinds.{same}
use Rattle.go_ast.specs.Expected.{Expected, a_type, a_declared_type, a_parameter_type, an_index_end, a_selected_name, a_function_name, a_function_opening, an_element_end, a_field_end, a_result_end, behind_a_jump, another, is_left_out_at}
use Rattle.go_ast.specs.Trees.{TypeExpr, Expression, name, call_statement, conditional, no_else}
use Rattle.go_ast.specs.Grammar.{Lexeme, is_call, opening}
use Rattle.go_ast.specs.Machine.{ListKind, fields, arguments, elements, const_specs, var_specs, type_specs, import_specs, statements, parameters, results, separator, closer, Position, in_list, in_header, in_for, behind_turns, Reader, ended, token, package_name, import_path, optional, type, optional_type, expr, optional_expr, suffixes, operators, more_names, more_exprs, list_start, list_end, lefts, else_part, clause_start, clause_end, import_end, decl_end, keyword, behind_left, newer, operands}
use Rattle.go_ast.proofs.Base.{false_true, either_false}
use Rattle.go_ast.proofs.LeftOutStates.{Last, other, name_last, names, starts, starts_item, veto, pick, start_label, label, TypeOk, TokenOk, EndOk, Right, under}
use Rattle.go_ast.proofs.LeftOutLed.{optional_not, newer_starts, newer_label}
use Rattle.go_ast.proofs.LeftOutLabels.{by_call, call_end, token_silent, token_starts, or_right}
use Rattle.go_ast.proofs.LeftOutPlaces.{optional_type_is}
use Rattle.go_ast.proofs.LeftOutTests.{import_off, type_off, expr_off, left_off, clause_off}

abbrev a_type_word : TokenKind
a_type_word = keyword keywords.Type

abbrev a_return : TokenKind
a_return = keyword keywords.Return

abbrev a_struct : TokenKind
a_struct = keyword keywords.Struct

abbrev is_local : Expected → Bool
is_local x = is_left_out_at x a_type_word

start_local : (k : ListKind) → is_left_out_at (start_label k) a_type_word ≡ (same (closer k) a_return || starts_item k a_return)
start_local (fields l) = refl
start_local (arguments l) = refl
start_local (elements l) = refl
start_local (const_specs l) = refl
start_local (var_specs l) = refl
start_local (type_specs l) = refl
start_local import_specs = refl
start_local (statements l) = refl
start_local parameters = refl
start_local results = refl

list_local : (k : ListKind) (x : Expected) (p : Last) → EndOk k x p →
    is_left_out_at x a_type_word ≡ (same (separator k) a_return || (same (closer k) a_return || false))
list_local (fields l) a_field_end p h = refl
list_local (elements l) an_element_end p h = refl
list_local (elements l) another p h = refl
list_local (statements l) behind_a_jump p h = refl
list_local (statements l) another p h = refl
list_local results a_result_end p h = refl
list_local (arguments l) another p h = refl
list_local (const_specs l) another p h = refl
list_local (var_specs l) another p h = refl
list_local (type_specs l) another p h = refl
list_local import_specs another p h = refl
list_local parameters another p h = refl
list_local _ _ p h = absurd h

pub local : (ed : Edition) → (s : Reader) (p : Last) → Right ed s p → is_left_out_at (label s a_type_word) a_type_word ≡ starts ed s a_return
local ed (ended f) p r = refl
local ed (token kind need x next) p r =
    token_silent ed a_type_word x p kind next refl refl refl refl refl r.0 ∙ sym (token_starts ed a_return x p kind next refl r.0)
local ed (package_name next) p r = refl
local ed (import_path x next) p r = import_off ed is_local refl refl p x r.0
local ed (optional kind need some none) p r =
    local ed none (under kind p) r.2 ∙ or_right (same kind a_return) (starts ed none a_return) (starts ed none a_return) (optional_not kind a_return r.0.1 refl) refl
local ed (newer kind need x some none) p r =
    ap (λ y. is_left_out_at y a_type_word) (newer_label kind need x some none a_type_word (r.3 a_type_word)) ∙ local ed none p r.2
    ∙ sym (newer_starts ed p kind need x some none a_return r.0 refl)
local ed (type l x next) p r = type_off ed is_local refl refl refl p x next r.0
local ed (optional_type l x some none) p r =
    subst (λ y. is_left_out_at (pick (is_left_out_at y a_type_word) y (label none a_type_word)) a_type_word ≡ veto (is_left_out_at y a_return) (starts ed none a_return))
    (sym (optional_type_is ed p x some none r.0)) (local ed none p r.2)
local ed (expr n h l x next) p r = expr_off ed is_local refl refl refl refl p x (expr n h l x next) r.0
local ed (optional_expr h l x some none) p r =
    subst (λ y. is_left_out_at (pick (is_left_out_at y a_type_word) y (label none a_type_word)) a_type_word ≡ veto (is_left_out_at y a_return) (starts ed none a_return))
    (sym r.1) (local ed none p r.4)
local ed (suffixes h l e next) p r = local ed (next e) p r.0
local ed (operators n h l e next) p r = local ed (next e) p r.0
local ed (more_names front next) p r = local ed (next front) names (r.1 front)
local ed (more_exprs h l front next) p r = local ed (next front) p (r.1 front p r.0)
local ed (list_start s front next) p r = start_local s
local ed (list_end s x front next) p r = list_local s x p r.0
local ed (operands l next) p r = refl
local ed (lefts m h l [] next alone range) p r = refl
local ed (lefts m h l (e ∷ []) next alone range) p r =
    by_call
    (λ c. is_left_out_at (pick c (label (next (call_statement e)) a_type_word) (behind_left m e)) a_type_word
    ≡ (c && starts ed (next (call_statement e)) a_return)) (is_call e)
    (λ c. local ed (next (call_statement e)) p (r.1 (call_statement e) p (call_end m e p r.0 c))) (λ c. left_off ed is_local refl refl m e)
local ed (lefts m h l (e ∷ f ∷ es) next alone range) p r = refl
local ed (else_part l q i c b next) p r = local ed (next (conditional q i c b no_else)) other (r.1 (conditional q i c b no_else))
local ed (clause_start l done q values front next) p r = refl
local ed (clause_end l x done q values front next) p r = clause_off ed is_local refl refl x p r.0
local ed (import_end q iss) p r = refl
local ed (decl_end q is ds) p r = refl

-- a type in parentheses, where a type may stand and no operand

abbrev pub is_typed : Expected → Bool
is_typed a_type = true
is_typed a_declared_type = true
is_typed a_parameter_type = true
is_typed _ = false

token_typed : (ed : Edition) → (x : Expected) (p : Last) (kind : TokenKind) (next : Lexeme → Reader) → TokenOk ed p kind x next → is_typed x ≡ false
token_typed ed another p kind next h = refl
token_typed ed an_index_end p kind next h = refl
token_typed ed a_selected_name p kind next h = refl
token_typed ed a_function_name p kind next h = refl
token_typed ed a_function_opening p kind next h = refl
token_typed ed _ p kind next h = absurd h

type_typed : (ed : Edition) → (p : Last) (x : Expected) (next : TypeExpr → Reader) → TypeOk ed p x next → is_typed x ≡ true
type_typed ed other a_type next h = refl
type_typed ed names a_type next h = refl
type_typed ed names a_parameter_type next h = refl
type_typed ed name_last a_declared_type next h = refl
type_typed ed _ _ next h = absurd h

start_typed : (k : ListKind) → (same (closer k) opening || starts_item k opening) ≡ false →
    is_typed (start_label k) ≡ (same (closer k) a_struct || starts_item k a_struct)
start_typed (fields l) e = refl
start_typed (arguments l) e = absurd (false_true (sym e))
start_typed (elements l) e = absurd (false_true (sym e))
start_typed (const_specs l) e = refl
start_typed (var_specs l) e = refl
start_typed (type_specs l) e = refl
start_typed import_specs e = refl
start_typed (statements l) e = absurd (false_true (sym e))
start_typed parameters e = refl
start_typed results e = refl

list_typed : (k : ListKind) (x : Expected) (p : Last) → EndOk k x p →
    is_typed x ≡ (same (separator k) a_struct || (same (closer k) a_struct || false))
list_typed (fields l) a_field_end p h = refl
list_typed (elements l) an_element_end p h = refl
list_typed (elements l) another p h = refl
list_typed (statements l) behind_a_jump p h = refl
list_typed (statements l) another p h = refl
list_typed results a_result_end p h = refl
list_typed (arguments l) another p h = refl
list_typed (const_specs l) another p h = refl
list_typed (var_specs l) another p h = refl
list_typed (type_specs l) another p h = refl
list_typed import_specs another p h = refl
list_typed parameters another p h = refl
list_typed _ _ p h = absurd h

left_typed : (m : Position) (e : Expression) → is_typed (behind_left m e) ≡ false
left_typed in_list (name q text) = refl
left_typed in_list _ = refl
left_typed in_header e = refl
left_typed in_for e = refl
left_typed behind_turns e = refl

pub typed : (ed : Edition) → (s : Reader) (p : Last) → Right ed s p → starts ed s opening ≡ false → is_typed (label s opening) ≡ starts ed s a_struct
typed ed (ended f) p r o = refl
typed ed (token kind need x next) p r o = token_typed ed x p kind next r.0 ∙ sym (token_starts ed a_struct x p kind next refl r.0)
typed ed (package_name next) p r o = refl
typed ed (import_path x next) p r o = import_off ed is_typed refl refl p x r.0
typed ed (optional kind need some none) p r o =
    typed ed none (under kind p) r.2 (either_false (same kind opening) (starts ed none opening) o).1
    ∙ or_right (same kind a_struct) (starts ed none a_struct) (starts ed none a_struct) (optional_not kind a_struct r.0.1 refl) refl
typed ed (newer kind need x some none) p r o =
    ap is_typed (newer_label kind need x some none opening (r.3 opening))
    ∙ typed ed none p r.2 (sym (newer_starts ed p kind need x some none opening r.0 refl) ∙ o)
    ∙ sym (newer_starts ed p kind need x some none a_struct r.0 refl)
typed ed (type l x next) p r o = type_typed ed p x next r.0
typed ed (optional_type l x some none) p r o =
    subst (λ y. is_typed (pick (is_left_out_at y opening) y (label none opening)) ≡ true) (sym (optional_type_is ed p x some none r.0)) refl
typed ed (expr n h l x next) p r o = absurd (false_true (sym o))
typed ed (optional_expr h l x some none) p r o = absurd (false_true (sym o))
typed ed (suffixes h l e next) p r o = absurd (false_true (sym o))
typed ed (operators n h l e next) p r o = typed ed (next e) p r.0 o
typed ed (more_names front next) p r o = typed ed (next front) names (r.1 front) o
typed ed (more_exprs h l front next) p r o = typed ed (next front) p (r.1 front p r.0) o
typed ed (list_start s front next) p r o = start_typed s o
typed ed (list_end s x front next) p r o = list_typed s x p r.0
typed ed (operands l next) p r o = absurd (false_true (sym o))
typed ed (lefts m h l [] next alone range) p r o = refl
typed ed (lefts m h l (e ∷ []) next alone range) p r o =
    by_call
    (λ c. (c && starts ed (next (call_statement e)) opening) ≡ false →
    is_typed (pick c (label (next (call_statement e)) opening) (behind_left m e)) ≡ (c && starts ed (next (call_statement e)) a_struct)) (is_call e)
    (λ c. typed ed (next (call_statement e)) p (r.1 (call_statement e) p (call_end m e p r.0 c))) (λ c q. left_typed m e) o
typed ed (lefts m h l (e ∷ f ∷ es) next alone range) p r o = refl
typed ed (else_part l q i c b next) p r o = typed ed (next (conditional q i c b no_else)) other (r.1 (conditional q i c b no_else)) o
typed ed (clause_start l done q values front next) p r o = absurd (false_true (sym o))
typed ed (clause_end l x done q values front next) p r o = clause_off ed is_typed refl refl x p r.0
typed ed (import_end q iss) p r o = refl
typed ed (decl_end q is ds) p r o = refl
