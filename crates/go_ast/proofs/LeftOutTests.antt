-- Tests of what is expected that fail in states of a kind, whatever comes next.
use Rattle.std.proofs.Common.{◌≡◌, ℕ, Bool, false, ◌∙◌, ap}
use Rattle.go_text.specs.declared.edition.Edition.{Edition}
use Rattle.go_scan.specs.declared.token.TokenKind.{TokenKind}
use Rattle.go_ast.specs.Expected.{Expected, an_operand, a_value, a_type, a_declared_type, a_parameter_type, a_length, an_index, an_index_end, an_element_end, a_field_end, a_result_end, behind_a_name, behind_a_jump, an_import, an_import_path, another}
use Rattle.go_ast.specs.Trees.{TypeExpr, Expression, name}
use Rattle.go_ast.specs.Grammar.{Lexeme}
use Rattle.go_ast.specs.Machine.{ListKind, fields, arguments, elements, const_specs, var_specs, type_specs, import_specs, statements, parameters, results, Position, in_list, in_header, in_for, behind_turns, Reader, behind_left, newer}
use Rattle.go_ast.proofs.LeftOutStates.{Last, other, name_last, names, bracket, equals, nameable, label, ImportOk, TypeOk, ExprOk, EndOk, ClauseOk, bounded, NewerOk}
use Rattle.go_ast.proofs.LeftOutLed.{newer_label}

module _ (ed : Edition) (T : Expected → Bool) where
  pub import_off : T an_import ≡ false → T an_import_path ≡ false → (p : Last) (x : Expected) → ImportOk p x → T x ≡ false
  import_off a b nameable an_import h = a
  import_off a b name_last an_import_path h = b
  import_off a b _ _ h = absurd h

  pub type_off : T a_type ≡ false → T a_declared_type ≡ false → T a_parameter_type ≡ false → (p : Last) (x : Expected) (next : TypeExpr → Reader) →
      TypeOk ed p x next →
      T x ≡ false
  type_off a b c other a_type next h = a
  type_off a b c names a_type next h = a
  type_off a b c names a_parameter_type next h = c
  type_off a b c name_last a_declared_type next h = b
  type_off a b c _ _ next h = absurd h

  pub expr_off : T an_operand ≡ false → T a_value ≡ false → T a_length ≡ false → T an_index ≡ false → (p : Last) (x : Expected) (s : Reader) →
      ExprOk ed p x s →
      T x ≡ false
  expr_off a b c d other an_operand s h = a
  expr_off a b c d equals a_value s h = b
  expr_off a b c d bracket a_length s h = c
  expr_off a b c d bracket an_index s h = d
  expr_off a b c d bounded an_index s h = d
  expr_off a b c d _ _ s h = absurd h

  pub newer_off : T a_length ≡ false → T an_index ≡ false → T an_index_end ≡ false → (p : Last) (kind : TokenKind) (need : ℕ) (x : Expected)
      (some : Lexeme → Reader) (none : Reader) (k : TokenKind) → NewerOk ed p kind x some → label none k ≡ x → T (label (newer kind need x some none) k) ≡ false
  newer_off a b c p kind need x some none k h e = ap T (newer_label kind need x some none k e ∙ e) ∙ at x h
    where
      at : (y : Expected) → NewerOk ed p kind y some → T y ≡ false
      at a_length h = a
      at an_index h = b
      at an_index_end h = c
      at _ h = absurd h

  pub left_off : T behind_a_name ≡ false → T another ≡ false → (m : Position) (e : Expression) → T (behind_left m e) ≡ false
  left_off a b in_list (name p text) = a
  left_off a b in_list _ = b
  left_off a b in_header e = b
  left_off a b in_for e = b
  left_off a b behind_turns e = b

  pub clause_off : T behind_a_jump ≡ false → T another ≡ false → (x : Expected) (p : Last) → ClauseOk x p → T x ≡ false
  clause_off a b behind_a_jump p h = a
  clause_off a b another p h = b
  clause_off a b _ p h = absurd h

-- and at the end of a list
pub list_off : (T : Expected → Bool) → T another ≡ false → T an_element_end ≡ false → T a_field_end ≡ false → T a_result_end ≡ false → T behind_a_jump ≡ false →
    (k : ListKind) (x : Expected) (p : Last) → EndOk k x p → T x ≡ false
list_off T a b c d e (fields l) a_field_end p h = c
list_off T a b c d e (elements l) an_element_end p h = b
list_off T a b c d e (elements l) another p h = a
list_off T a b c d e (statements l) behind_a_jump p h = e
list_off T a b c d e (statements l) another p h = a
list_off T a b c d e results a_result_end p h = d
list_off T a b c d e (arguments l) another p h = a
list_off T a b c d e (const_specs l) another p h = a
list_off T a b c d e (var_specs l) another p h = a
list_off T a b c d e (type_specs l) another p h = a
list_off T a b c d e import_specs another p h = a
list_off T a b c d e parameters another p h = a
list_off T a b c d e _ _ p h = absurd h
