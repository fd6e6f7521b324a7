-- Where an operand, a type or a statement may begin, what is left out of these is expected.
use Rattle.std.proofs.Common.{◌≡◌, Bool, true, false, ◌&&◌, ◌||◌, [], ◌∷◌, refl, sym, ap, ◌∙◌}
use Rattle.go_text.specs.declared.edition.Edition.{Edition}
use Rattle.go_scan.specs.declared.token.TokenKind.{TokenKind}
use Rattle.go_scan.specs.declared.token.TokenKind.TheVariants as kinds
use Rattle.go_scan.specs.declared.keyword.Keyword.TheVariants as keywords
use Rattle.go_scan.specs.declared.punctuation.Punctuation.TheVariants as marks
use Rattle.go_ast.specs.Kinds.{same}
use Rattle.go_ast.specs.Expected.{Expected, an_operand, a_value, a_type, a_declared_type, a_parameter_type, a_length, an_index, an_element_end, a_field_end, a_result_end, a_statement, behind_a_jump, another, is_left_out_at}
use Rattle.go_ast.specs.Trees.{TypeExpr, call_statement, conditional, no_else}
use Rattle.go_ast.specs.Grammar.{is_call}
use Rattle.go_ast.specs.Machine.{ListKind, fields, arguments, elements, const_specs, var_specs, type_specs, import_specs, statements, parameters, results, separator, closer, Reader, ended, token, package_name, import_path, optional, type, optional_type, expr, optional_expr, suffixes, operators, more_names, more_exprs, list_start, list_end, lefts, else_part, clause_start, clause_end, import_end, decl_end, keyword, behind_left, newer, operands}
use Rattle.go_ast.proofs.Base.{false_true}
use Rattle.go_ast.proofs.LeftOutStates.{Last, other, name_last, names, bracket, equals, starts, starts_item, pick, start_label, label, TypeOk, OptionalTypeOk, ExprOk, EndOk, Right, under, bounded}
use Rattle.go_ast.proofs.LeftOutLed.{optional_not, newer_starts, newer_label}
use Rattle.go_ast.proofs.LeftOutLabels.{by_call, call_end, token_silent, token_starts, or_right}
use Rattle.go_ast.proofs.LeftOutTests.{import_off, left_off, clause_off}

-- `func`, `*` and `&` where `struct` may stand

abbrev a_struct : TokenKind
a_struct = keyword keywords.Struct

abbrev a_func : TokenKind
a_func = keyword keywords.Func

pick_left : (d : Bool) (k : TokenKind) (x y : Expected) → d ≡ true → is_left_out_at x k ≡ true → is_left_out_at (pick d x y) k ≡ true
pick_left true k x y d e = e
pick_left false k x y d e = absurd (false_true d)

pub pick_other : (d : Bool) (x y : Expected) → d ≡ false → pick d x y ≡ y
pick_other true x y d = absurd (false_true (sym d))
pick_other false x y d = refl

abbrev at_func : Expected → Bool
at_func x = is_left_out_at x a_func

type_pointers : (ed : Edition) → (p : Last) (x : Expected) (next : TypeExpr → Reader) → TypeOk ed p x next → is_left_out_at x a_func ≡ true
type_pointers ed other a_type next h = refl
type_pointers ed names a_type next h = refl
type_pointers ed names a_parameter_type next h = refl
type_pointers ed name_last a_declared_type next h = refl
type_pointers ed _ _ next h = absurd h

pub optional_type_is : (ed : Edition) → (p : Last) (x : Expected) (some : TypeExpr → Reader) (none : Reader) → OptionalTypeOk ed p x some none → x ≡ a_type
optional_type_is ed other a_type some none h = refl
optional_type_is ed names a_type some none h = refl
optional_type_is ed _ _ some none h = absurd h

expr_pointers : (ed : Edition) → (p : Last) (x : Expected) (s : Reader) → ExprOk ed p x s → is_left_out_at x a_func ≡ true
expr_pointers ed other an_operand s h = refl
expr_pointers ed equals a_value s h = refl
expr_pointers ed bracket a_length s h = refl
expr_pointers ed bracket an_index s h = refl
expr_pointers ed bounded an_index s h = refl
expr_pointers ed _ _ s h = absurd h

start_pointers : (k : ListKind) → is_left_out_at (start_label k) a_func ≡ (same (closer k) a_struct || starts_item k a_struct)
start_pointers (fields l) = refl
start_pointers (arguments l) = refl
start_pointers (elements l) = refl
start_pointers (const_specs l) = refl
start_pointers (var_specs l) = refl
start_pointers (type_specs l) = refl
start_pointers import_specs = refl
start_pointers (statements l) = refl
start_pointers parameters = refl
start_pointers results = refl

list_pointers : (k : ListKind) (x : Expected) (p : Last) → EndOk k x p →
    is_left_out_at x a_func ≡ (same (separator k) a_struct || (same (closer k) a_struct || false))
list_pointers (fields l) a_field_end p h = refl
list_pointers (elements l) an_element_end p h = refl
list_pointers (elements l) another p h = refl
list_pointers (statements l) behind_a_jump p h = refl
list_pointers (statements l) another p h = refl
list_pointers results a_result_end p h = refl
list_pointers (arguments l) another p h = refl
list_pointers (const_specs l) another p h = refl
list_pointers (var_specs l) another p h = refl
list_pointers (type_specs l) another p h = refl
list_pointers import_specs another p h = refl
list_pointers parameters another p h = refl
list_pointers _ _ p h = absurd h

module _ (ed : Edition) (k : TokenKind) (like : (x : Expected) → is_left_out_at x k ≡ is_left_out_at x a_func) where
  pub pointers : (s : Reader) (p : Last) → Right ed s p → is_left_out_at (label s k) k ≡ starts ed s a_struct
  pointers (ended f) p r = like another
  pointers (token kind need x next) p r =
      like x ∙ token_silent ed a_func x p kind next refl refl refl refl refl r.0 ∙ sym (token_starts ed a_struct x p kind next refl r.0)
  pointers (package_name next) p r = like another
  pointers (import_path x next) p r = like x ∙ import_off ed at_func refl refl p x r.0
  pointers (optional kind need some none) p r =
      pointers none (under kind p) r.2 ∙ or_right (same kind a_struct) (starts ed none a_struct) (starts ed none a_struct) (optional_not kind a_struct r.0.1 refl) refl
  pointers (newer kind need x some none) p r =
      ap (λ y. is_left_out_at y k) (newer_label kind need x some none k (r.3 k)) ∙ pointers none p r.2
      ∙ sym (newer_starts ed p kind need x some none a_struct r.0 refl)
  pointers (type l x next) p r = like x ∙ type_pointers ed p x next r.0
  pointers (optional_type l x some none) p r =
      let e : is_left_out_at x k ≡ true = like x ∙ ap (λ y. is_left_out_at y a_func) (optional_type_is ed p x some none r.0) in
      pick_left (is_left_out_at x k) k x (label none k) e e
  pointers (expr n h l x next) p r = like x ∙ expr_pointers ed p x (expr n h l x next) r.0
  pointers (optional_expr h l x some none) p r =
      let e : is_left_out_at x k ≡ true = like x ∙ ap (λ y. is_left_out_at y a_func) r.1 in
      pick_left (is_left_out_at x k) k x (label none k) e e
  pointers (suffixes h l e next) p r = pointers (next e) p r.0
  pointers (operators n h l e next) p r = pointers (next e) p r.0
  pointers (more_names front next) p r = pointers (next front) names (r.1 front)
  pointers (more_exprs h l front next) p r = pointers (next front) p (r.1 front p r.0)
  pointers (list_start s front next) p r = like (start_label s) ∙ start_pointers s
  pointers (list_end s x front next) p r = like x ∙ list_pointers s x p r.0
  pointers (operands l next) p r = like an_operand
  pointers (lefts m h l [] next alone range) p r = like another
  pointers (lefts m h l (e ∷ []) next alone range) p r =
      by_call
      (λ c. is_left_out_at (pick c (label (next (call_statement e)) k) (behind_left m e)) k ≡ (c && starts ed (next (call_statement e)) a_struct)) (is_call e)
      (λ c. pointers (next (call_statement e)) p (r.1 (call_statement e) p (call_end m e p r.0 c))) (λ c. like (behind_left m e) ∙ left_off ed at_func refl refl m e)
  pointers (lefts m h l (e ∷ f ∷ es) next alone range) p r = like another
  pointers (else_part l q i c b next) p r = pointers (next (conditional q i c b no_else)) other (r.1 (conditional q i c b no_else))
  pointers (clause_start l done q values front next) p r = like a_statement
  pointers (clause_end l x done q values front next) p r = like x ∙ clause_off ed at_func refl refl x p r.0
  pointers (import_end q iss) p r = like another
  pointers (decl_end q is ds) p r = like another

pub like_star : (x : Expected) → is_left_out_at x (kinds.Punctuation marks.Star) ≡ is_left_out_at x a_func
like_star an_operand = refl
like_star _ = refl

pub like_ampersand : (x : Expected) → is_left_out_at x (kinds.Punctuation marks.Ampersand) ≡ is_left_out_at x a_func
like_ampersand an_operand = refl
like_ampersand _ = refl
