-- The ends of elements and of results, by what may come behind a comma.
use Rattle.std.proofs.Common.{◌≡◌, inl, inr, Bool, true, false, List, [], ◌∷◌, refl, sym, ap, ◌∙◌}
use Rattle.go_text.specs.declared.edition.Edition.{Edition}
use Rattle.go_text.specs.declared.place.Place.{Place}
use Rattle.go_scan.specs.declared.token.TokenKind.{TokenKind}
use Rattle.go_scan.specs.declared.keyword.Keyword.TheVariants as keywords
use Rattle.go_ast.specs.Expected.{Expected, an_operand, a_type, an_index_end, a_selected_name, an_element_end, a_field_end, a_result_end, behind_a_jump, a_function_name, a_function_opening, another, is_left_out_at}
use Rattle.go_ast.specs.Grammar.{Lexeme, opening_brace, closing_brace, closing, colon}
use Rattle.go_ast.specs.Machine.{ListKind, fields, arguments, elements, const_specs, var_specs, type_specs, import_specs, statements, parameters, results, Item, Reader, list_end, keyword}
use Rattle.go_ast.proofs.Base.{false_true}
use Rattle.go_ast.proofs.LeftOutStates.{Last, TokenOk, EndOk, Right}
use Rattle.go_ast.proofs.LeftOutMay.{goes_starts}
use Rattle.go_ast.proofs.LeftOutCommas.{is_keyed, IsTest, Comma, commas}

pub nowhere : Place
nowhere = record { line = 0; column = 0 }

pub token_off : (ed : Edition) → (T : Expected → Bool) → T another ≡ false → T an_index_end ≡ false → T a_selected_name ≡ false → T a_function_name ≡ false →
    T a_function_opening ≡ false → (x : Expected) (p : Last) (kind : TokenKind) (next : Lexeme → Reader) → TokenOk ed p kind x next → T x ≡ false
token_off ed T a b c d e another p kind next h = a
token_off ed T a b c d e an_index_end p kind next h = b
token_off ed T a b c d e a_selected_name p kind next h = c
token_off ed T a b c d e a_function_name p kind next h = d
token_off ed T a b c d e a_function_opening p kind next h = e
token_off ed T a b c d e _ p kind next h = absurd h

abbrev pub is_element_end : Expected → Bool
is_element_end an_element_end = true
is_element_end _ = false

pub element_test : (ed : Edition) → IsTest ed is_element_end colon
element_test ed =
    record {
      token_off = token_off ed is_element_end refl refl refl refl refl;
      other_off = refl;
      operand_off = refl;
      value_off = refl;
      length_off = refl;
      index_off = refl;
      index_end_off = refl;
      type_is_off = refl;
      declared_off = refl;
      parameter_off = refl;
      statement_off = refl;
      jump_off = refl;
      name_off = refl;
      import_is_off = refl;
      path_off = refl;
      no_type = refl;
      no_operand = refl;
    }

abbrev pub ElementComma : (ed : Edition) → Last → Reader → Type 0
ElementComma ed p s = Comma ed is_element_end colon opening_brace [] true (element_test ed) p s

element_list : (ed : Edition) → (s : ListKind) (x : Expected) (p : Last) (front : List (Item s)) (next : List (Item s) → Lexeme → Reader) → EndOk s x p →
    ElementComma ed p (list_end s x front next)
element_list ed (fields l) a_field_end p front next h = ((λ q. absurd (false_true q)), λ g. absurd g.2)
element_list ed (elements l) an_element_end p front next h = ((λ q. ([], nowhere, ([], nowhere, tt))), λ g. inl refl)
element_list ed (elements l) another p front next h = ((λ q. absurd (false_true q)), λ g. inr (refl, inr (ap is_keyed h)))
element_list ed (statements l) behind_a_jump p front next h = ((λ q. absurd (false_true q)), λ g. absurd g.2)
element_list ed (statements l) another p front next h = ((λ q. absurd (false_true q)), λ g. absurd g.2)
element_list ed results a_result_end p front next h = ((λ q. absurd (false_true q)), λ g. absurd g.2.2)
element_list ed (arguments l) another p front next h = ((λ q. absurd (false_true q)), λ g. absurd g.2.2)
element_list ed (const_specs l) another p front next h = ((λ q. absurd (false_true q)), λ g. absurd g.2)
element_list ed (var_specs l) another p front next h = ((λ q. absurd (false_true q)), λ g. absurd g.2)
element_list ed (type_specs l) another p front next h = ((λ q. absurd (false_true q)), λ g. absurd g.2)
element_list ed import_specs another p front next h = ((λ q. absurd (false_true q)), λ g. absurd g.2)
element_list ed parameters another p front next h = ((λ q. absurd (false_true q)), λ g. absurd g.2.2)
element_list ed _ _ p front next h = absurd h

-- behind an element, and only there, a comma and a brace may come
pub element : (ed : Edition) → (s : Reader) (p : Last) → Right ed s p → ElementComma ed p s
element ed s p r =
    commas ed is_element_end colon opening_brace [] true (element_test ed) (λ h l next g. g.2) (λ need next g. g.2) (λ s q f g. f g) (element_list ed) s p r

abbrev pub is_result : Expected → Bool
is_result a_result_end = true
is_result _ = false

abbrev pub behind_result : List TokenKind
behind_result = opening_brace ∷ closing_brace ∷ closing ∷ []

module _ (ed : Edition) (k : TokenKind) (type_off : is_left_out_at a_type k ≡ false) (operand_off : is_left_out_at an_operand k ≡ false) where
  pub result_test : IsTest ed is_result k
  result_test =
      record {
        token_off = token_off ed is_result refl refl refl refl refl;
        other_off = refl;
        operand_off = refl;
        value_off = refl;
        length_off = refl;
        index_off = refl;
        index_end_off = refl;
        type_is_off = refl;
        declared_off = refl;
        parameter_off = refl;
        statement_off = refl;
        jump_off = refl;
        name_off = refl;
        import_is_off = refl;
        path_off = refl;
        no_type = type_off;
        no_operand = operand_off;
      }

  abbrev pub ResultComma : Last → Reader → Type 0
  ResultComma p s = Comma ed is_result k (keyword keywords.Struct) behind_result false result_test p s

  result_list : (s : ListKind) (x : Expected) (p : Last) (front : List (Item s)) (next : List (Item s) → Lexeme → Reader) → EndOk s x p →
      ResultComma p (list_end s x front next)
  result_list (fields l) a_field_end p front next h = ((λ q. absurd (false_true q)), λ g. absurd g.2)
  result_list (elements l) an_element_end p front next h = ((λ q. absurd (false_true q)), λ g. absurd g.2.2.2.2.2)
  result_list (elements l) another p front next h = ((λ q. absurd (false_true q)), λ g. absurd g.2.2.2.2.2)
  result_list (statements l) behind_a_jump p front next h = ((λ q. absurd (false_true q)), λ g. absurd g.2)
  result_list (statements l) another p front next h = ((λ q. absurd (false_true q)), λ g. absurd g.2)
  result_list results a_result_end p front next h =
      ((λ q. ([], nowhere, ([], nowhere, ([], nowhere, ([], nowhere, ([], nowhere, tt)))))), λ g. inl refl)
  result_list (arguments l) another p front next h = ((λ q. absurd (false_true q)), λ g. absurd g.2.2.2.2.2)
  result_list (const_specs l) another p front next h = ((λ q. absurd (false_true q)), λ g. absurd g.2)
  result_list (var_specs l) another p front next h = ((λ q. absurd (false_true q)), λ g. absurd g.2)
  result_list (type_specs l) another p front next h = ((λ q. absurd (false_true q)), λ g. absurd g.2)
  result_list import_specs another p front next h = ((λ q. absurd (false_true q)), λ g. absurd g.2)
  result_list parameters another p front next h = ((λ q. absurd (false_true q)), λ g. absurd g.2.2)
  result_list _ _ p front next h = absurd h

  -- behind a result in parentheses, and only there, a comma, an empty struct and the parenthesis may come
  pub result : (s : Reader) (p : Last) → Right ed s p → ResultComma p s
  result s p r =
      commas ed is_result k (keyword keywords.Struct) behind_result false result_test (λ h l next g. g.2.2.2.2) (λ need next g. g.2)
      (λ s q f g. false_true (sym q ∙ goes_starts ed (keyword keywords.Struct) behind_result s refl g)) result_list s p r
