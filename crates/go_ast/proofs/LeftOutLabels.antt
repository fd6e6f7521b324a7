-- What is expected in a state goes with what the last token was; and some labels go with what else may come.
use Rattle.std.proofs.Common.{◌≡◌, ◌⊎◌, inl, inr, Bool, true, false, ◌||◌, [], ◌∷◌, refl, sym, ap, subst}
use Rattle.go_text.specs.declared.edition.Edition.{Edition}
use Rattle.go_scan.specs.declared.token.TokenKind.{TokenKind}
use Rattle.go_scan.specs.declared.token.TokenKind.TheVariants as kinds
use Rattle.go_scan.specs.declared.punctuation.Punctuation.TheVariants as marks
use Rattle.go_ast.specs.Kinds.{same}
use Rattle.go_ast.specs.Expected.{Expected, an_operand, a_value, a_type, a_declared_type, a_parameter_type, a_length, an_index, an_index_end, a_selected_name, an_element_end, a_field_end, a_result_end, behind_a_name, behind_a_jump, a_function_name, a_function_opening, an_import, an_import_path, another, is_left_out_at}
use Rattle.go_ast.specs.Trees.{TypeExpr, Expression, name, call_statement, conditional, no_else}
use Rattle.go_ast.specs.Grammar.{Lexeme, is_call}
use Rattle.go_ast.specs.Machine.{ListKind, fields, arguments, elements, const_specs, var_specs, type_specs, import_specs, statements, parameters, results, Position, in_list, in_header, in_for, behind_turns, Reader, ended, token, package_name, import_path, optional, type, optional_type, expr, optional_expr, suffixes, operators, more_names, more_exprs, list_start, list_end, lefts, else_part, clause_start, clause_end, import_end, decl_end, behind_left, newer, operands}
use Rattle.go_ast.proofs.Base.{false_true}
use Rattle.go_ast.proofs.LeftOutStates.{Last, other, name_last, names, passed, first_name, func_name, bracket, dot, equals, func, jump, nameable, is_end, is_plain, is_mark, under, is_alone, pick, start_label, label, TokenOk, ImportOk, TypeOk, OptionalTypeOk, ExprOk, EndOk, LeftsOk, ClauseOk, Right, bounded, NewerOk}
use Rattle.go_ast.proofs.LeftOutKept.{plain_end}
use Rattle.go_ast.proofs.LeftOutStatements.{alone_two, alone_call}
use Rattle.go_ast.proofs.LeftOutLed.{mark_not}

-- labels that stand behind one token alone
abbrev pub is_fixed : Expected → Bool
is_fixed a_value = true
is_fixed a_length = true
is_fixed a_selected_name = true
is_fixed behind_a_name = true
is_fixed behind_a_jump = true
is_fixed a_function_name = true
is_fixed a_function_opening = true
is_fixed _ = false

abbrev pub LabelAt : Last → Expected → Type 0
LabelAt func x = x ≡ a_function_name
LabelAt func_name x = x ≡ a_function_opening
LabelAt dot x = x ≡ a_selected_name
LabelAt equals x = x ≡ a_value
LabelAt bracket x = (x ≡ a_length) ⊎ (x ≡ an_index)
LabelAt jump x = x ≡ behind_a_jump
LabelAt first_name x = x ≡ behind_a_name
LabelAt _ x = is_fixed x ≡ false

plain_label : (p : Last) (x : Expected) → is_plain p ≡ true → is_fixed x ≡ false → LabelAt p x
plain_label other x pl e = e
plain_label passed x pl e = e
plain_label names x pl e = e
plain_label name_last x pl e = e
plain_label _ x pl e = absurd (false_true pl)

end_label : (p : Last) (x : Expected) → is_end p ≡ true → is_fixed x ≡ false → LabelAt p x
end_label p x en e = plain_label p x (plain_end p en) e

other_label : (p : Last) (x : Expected) → p ≡ other → is_fixed x ≡ false → LabelAt p x
other_label p x e fixed = plain_label p x (ap is_plain e) fixed

token_label : (ed : Edition) → (x : Expected) (p : Last) (k : TokenKind) (next : Lexeme → Reader) → TokenOk ed p k x next → LabelAt p x
token_label ed another p k next h = plain_label p another h.0 refl
token_label ed an_index_end p k next h = end_label p an_index_end h.0 refl
token_label ed a_selected_name p k next h = subst (λ q. LabelAt q a_selected_name) (sym h.0) refl
token_label ed a_function_name p k next h = subst (λ q. LabelAt q a_function_name) (sym h.0) refl
token_label ed a_function_opening p k next h = subst (λ q. LabelAt q a_function_opening) (sym h.0) refl
token_label ed _ p k next h = absurd h

import_label : (p : Last) (x : Expected) → ImportOk p x → LabelAt p x
import_label nameable an_import h = refl
import_label name_last an_import_path h = refl
import_label _ _ h = absurd h

under_label : (k : TokenKind) (p : Last) (x : Expected) → is_end p ≡ true → LabelAt (under k p) x → LabelAt p x
under_label kinds.Name p x e h = end_label p x e h
under_label (kinds.Punctuation marks.Colon) p x e h = end_label p x e h
under_label (kinds.Punctuation marks.CloseBracket) p x e h = end_label p x e h
under_label _ p x e h = h

type_label : (ed : Edition) → (p : Last) (x : Expected) (next : TypeExpr → Reader) → TypeOk ed p x next → LabelAt p x
type_label ed other a_type next h = refl
type_label ed names a_type next h = refl
type_label ed names a_parameter_type next h = refl
type_label ed name_last a_declared_type next h = refl
type_label ed _ _ next h = absurd h

pick_label : (d : Bool) (p : Last) (x y : Expected) → LabelAt p x → LabelAt p y → LabelAt p (pick d x y)
pick_label true p x y h i = h
pick_label false p x y h i = i

optional_type_label : (ed : Edition) → (p : Last) (x : Expected) (some : TypeExpr → Reader) (none : Reader) → OptionalTypeOk ed p x some none → LabelAt p x
optional_type_label ed other a_type some none h = refl
optional_type_label ed names a_type some none h = refl
optional_type_label ed _ _ some none h = absurd h

expr_label : (ed : Edition) → (p : Last) (x : Expected) (s : Reader) → ExprOk ed p x s → LabelAt p x
expr_label ed other an_operand s h = refl
expr_label ed equals a_value s h = refl
expr_label ed bracket a_length s h = inl refl
expr_label ed bracket an_index s h = inr refl
expr_label ed bounded an_index s h = refl
expr_label ed _ _ s h = absurd h

newer_label_at : (ed : Edition) → (p : Last) (kind : TokenKind) (x : Expected) (some : Lexeme → Reader) → NewerOk ed p kind x some → LabelAt p x
newer_label_at ed p kind a_length some h = subst (λ q. LabelAt q a_length) (sym h.0) (inl refl)
newer_label_at ed p kind an_index some h = subst (λ q. LabelAt q an_index) (sym h.0) (inr refl)
newer_label_at ed p kind an_index_end some h = end_label p an_index_end h.0 refl
newer_label_at ed p kind _ some h = absurd h

start_fixed : (k : ListKind) → is_fixed (start_label k) ≡ false
start_fixed (fields l) = refl
start_fixed (arguments l) = refl
start_fixed (elements l) = refl
start_fixed (const_specs l) = refl
start_fixed (var_specs l) = refl
start_fixed (type_specs l) = refl
start_fixed import_specs = refl
start_fixed (statements l) = refl
start_fixed parameters = refl
start_fixed results = refl

list_label : (k : ListKind) (x : Expected) (p : Last) → EndOk k x p → LabelAt p x
list_label (fields l) a_field_end p h = end_label p a_field_end h refl
list_label (elements l) an_element_end p h = end_label p an_element_end h refl
list_label (elements l) another p h = subst (λ q. LabelAt q another) (sym h) refl
list_label (statements l) behind_a_jump p h = subst (λ q. LabelAt q behind_a_jump) (sym h) refl
list_label (statements l) another p h = end_label p another h refl
list_label results a_result_end p h = end_label p a_result_end h refl
list_label (arguments l) another p h = end_label p another h refl
list_label (const_specs l) another p h = end_label p another h refl
list_label (var_specs l) another p h = end_label p another h refl
list_label (type_specs l) another p h = end_label p another h refl
list_label import_specs another p h = end_label p another h refl
list_label parameters another p h = end_label p another h refl
list_label _ _ p h = absurd h

left_label : (m : Position) (e : Expression) (p : Last) → LeftsOk (is_alone m (e ∷ [])) p → LabelAt p (behind_left m e)
left_label in_list (name q text) p h = subst (λ r. LabelAt r behind_a_name) (sym h) refl
left_label in_list _ p h = end_label p another h refl
left_label in_header e p h = end_label p another h refl
left_label in_for e p h = end_label p another h refl
left_label behind_turns e p h = end_label p another h refl

no_left_label : (m : Position) (p : Last) → LeftsOk (is_alone m []) p → LabelAt p another
no_left_label in_list p h = end_label p another h refl
no_left_label in_header p h = end_label p another h refl
no_left_label in_for p h = end_label p another h refl
no_left_label behind_turns p h = end_label p another h refl

clause_label : (x : Expected) (p : Last) → ClauseOk x p → LabelAt p x
clause_label behind_a_jump p h = subst (λ q. LabelAt q behind_a_jump) (sym h) refl
clause_label another p h = end_label p another h refl
clause_label _ p h = absurd h

-- by whether an expression is a call, and what that allows
pub by_call : (P : Bool → Type 0) (c : Bool) → (c ≡ true → P true) → (c ≡ false → P false) → P c
by_call P true f g = f refl
by_call P false f g = g refl

-- behind a call the last token ends something
pub call_end : (m : Position) (e : Expression) (p : Last) → LeftsOk (is_alone m (e ∷ [])) p → is_call e ≡ true → is_end p ≡ true
call_end m e p h c = subst (λ x. LeftsOk x p) (alone_call m e c) h

-- the label in a state goes with the last token
pub labelled : (ed : Edition) → (s : Reader) (p : Last) (k : TokenKind) → Right ed s p → LabelAt p (label s k)
labelled ed (ended f) p k r = end_label p another r refl
labelled ed (token kind need x next) p k r = token_label ed x p kind next r.0
labelled ed (package_name next) p k r = other_label p another r.0 refl
labelled ed (import_path x next) p k r = import_label p x r.0
labelled ed (optional kind need some none) p k r = under_label kind p (label none k) r.0.0 (labelled ed none (under kind p) k r.2)
labelled ed (newer kind need x some none) p k r =
    pick_label (same kind k) p x (label none k) (newer_label_at ed p kind x some r.0) (labelled ed none p k r.2)
labelled ed (type l x next) p k r = type_label ed p x next r.0
labelled ed (optional_type l x some none) p k r =
    pick_label (is_left_out_at x k) p x (label none k) (optional_type_label ed p x some none r.0) (labelled ed none p k r.2)
labelled ed (expr n h l x next) p k r = expr_label ed p x (expr n h l x next) r.0
labelled ed (optional_expr h l x some none) p k r =
    pick_label (is_left_out_at x k) p x (label none k) (other_label p x r.0 (ap is_fixed r.1)) (labelled ed none p k r.4)
labelled ed (suffixes h l e next) p k r = labelled ed (next e) p k r.0
labelled ed (operators n h l e next) p k r = labelled ed (next e) p k r.0
labelled ed (more_names front next) p k r = plain_label p (label (next front) k) (ap is_plain r.0) (labelled ed (next front) names k (r.1 front))
labelled ed (more_exprs h l front next) p k r = labelled ed (next front) p k (r.1 front p r.0)
labelled ed (list_start s front next) p k r = other_label p (start_label s) r.0 (start_fixed s)
labelled ed (list_end s x front next) p k r = list_label s x p r.0
labelled ed (operands l next) p k r = other_label p an_operand r.0 refl
labelled ed (lefts m h l [] next alone range) p k r = no_left_label m p r.0
labelled ed (lefts m h l (e ∷ []) next alone range) p k r =
    by_call (λ c. LabelAt p (pick c (label (next (call_statement e)) k) (behind_left m e))) (is_call e)
    (λ c. labelled ed (next (call_statement e)) p k (r.1 (call_statement e) p (call_end m e p r.0 c))) (λ c. left_label m e p r.0)
labelled ed (lefts m h l (e ∷ f ∷ es) next alone range) p k r =
    end_label p another (subst (λ x. LeftsOk x p) (alone_two m e f es) r.0) refl
labelled ed (else_part l q i c b next) p k r =
    other_label p (label (next (conditional q i c b no_else)) k) r.0
    (labelled ed (next (conditional q i c b no_else)) other k (r.1 (conditional q i c b no_else)))
labelled ed (clause_start l done q values front next) p k r = other_label p _ r.0 refl
labelled ed (clause_end l x done q values front next) p k r = clause_label x p r.0
labelled ed (import_end q iss) p k r = end_label p another r refl
labelled ed (decl_end q is ds) p k r = end_label p another r refl

-- tokens of a kind

pub or_right : (a b c : Bool) → a ≡ false → c ≡ b → c ≡ (a || b)
or_right true b c e q = absurd (false_true (sym e))
or_right false b c e q = q

pub token_silent : (ed : Edition) → (k : TokenKind) (x : Expected) (p : Last) (kind : TokenKind) (next : Lexeme → Reader) → is_left_out_at another k ≡ false →
    is_left_out_at an_index_end k ≡ false → is_left_out_at a_selected_name k ≡ false → is_left_out_at a_function_name k ≡ false →
    is_left_out_at a_function_opening k ≡ false → TokenOk ed p kind x next → is_left_out_at x k ≡ false
token_silent ed k another p kind next a b c d e h = a
token_silent ed k an_index_end p kind next a b c d e h = b
token_silent ed k a_selected_name p kind next a b c d e h = c
token_silent ed k a_function_name p kind next a b c d e h = d
token_silent ed k a_function_opening p kind next a b c d e h = e
token_silent ed k _ p kind next a b c d e h = absurd h

-- the kinds of tokens that are due
pub token_mark : (ed : Edition) → (x : Expected) (p : Last) (kind : TokenKind) (next : Lexeme → Reader) → TokenOk ed p kind x next → is_mark kind ≡ true
token_mark ed another p kind next h = h.1
token_mark ed an_index_end p kind next h = ap is_mark h.1
token_mark ed a_selected_name p kind next h = ap is_mark h.1
token_mark ed a_function_name p kind next h = ap is_mark h.1
token_mark ed a_function_opening p kind next h = ap is_mark h.1
token_mark ed _ p kind next h = absurd h

-- no token of a kind that is due is of this kind
pub token_starts : (ed : Edition) → (j : TokenKind) (x : Expected) (p : Last) (kind : TokenKind) (next : Lexeme → Reader) → is_mark j ≡ false → TokenOk ed p kind x next →
    (same kind j || false) ≡ false
token_starts ed j x p kind next e h = sym (or_right (same kind j) false false (mark_not kind j (token_mark ed x p kind next h) e) refl)
