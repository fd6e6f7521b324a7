-- A device of the machine, and nothing that a reader has to trust: `LeftOut` says what is left out, and the lemmas show that
-- this table answers it. It tells the faults 2 and 3 apart by what may be expected where a list of tokens stops being a file.
use Rattle.std.specs.Prelude.{ℕ, Bool, true, false, ◌||◌, if◌then◌else◌}
use Rattle.go_scan.specs.declared.token.TokenKind.{TokenKind}
use Rattle.go_scan.specs.declared.token.TokenKind.TheVariants as kinds
use Rattle.go_scan.specs.declared.keyword.Keyword.TheVariants as keywords
use Rattle.go_scan.specs.declared.punctuation.Punctuation.TheVariants as marks
pub use Rattle.go_ast.specs.LeftOut.{is_never_read, begins_left_out}

pub data Expected : Type 0 where
  -- an operand, and one directly behind a `=`
  an_operand : Expected
  a_value : Expected
  -- a type, one of a declared type, one behind the names of parameters
  a_type : Expected
  a_declared_type : Expected
  a_parameter_type : Expected
  -- what is directly behind the `[` of an array type, and of an index
  a_length : Expected
  an_index : Expected
  -- the `]` of an index
  an_index_end : Expected
  -- a name behind a `.`
  a_selected_name : Expected
  -- what is behind an element of a literal, a field of a struct, and a type in a list of results
  an_element_end : Expected
  a_field_end : Expected
  a_result_end : Expected
  -- a statement, what is behind a name that begins one, and behind `break` or `continue`
  a_statement : Expected
  behind_a_name : Expected
  behind_a_jump : Expected
  -- the name of a function, and the `(` behind it
  a_function_name : Expected
  a_function_opening : Expected
  -- an import's name or path, and its path
  an_import : Expected
  an_import_path : Expected
  -- anything else
  another : Expected

-- function types, pointers and types in parentheses
abbrev pub begins_left_out_type : TokenKind → Bool
begins_left_out_type (kinds.Punctuation marks.OpenParenthesis) = true
begins_left_out_type k = begins_left_out k

-- the tokens that belong to what is left out where this is expected
abbrev pub is_left_out_at : Expected → TokenKind → Bool
is_left_out_at an_operand k = begins_left_out k
is_left_out_at a_value (kinds.Keyword keywords.Range) = true
is_left_out_at a_value k = begins_left_out k
is_left_out_at a_type k = begins_left_out_type k
is_left_out_at a_declared_type (kinds.Punctuation marks.Assign) = true
is_left_out_at a_declared_type k = begins_left_out_type k
is_left_out_at a_parameter_type (kinds.Punctuation marks.CloseParenthesis) = true
is_left_out_at a_parameter_type k = begins_left_out_type k
is_left_out_at a_length (kinds.Punctuation marks.CloseBracket) = true
is_left_out_at a_length k = begins_left_out k
is_left_out_at an_index (kinds.Punctuation marks.CloseBracket) = true
is_left_out_at an_index (kinds.Punctuation marks.Colon) = true
is_left_out_at an_index k = begins_left_out k
is_left_out_at an_index_end (kinds.Punctuation marks.Colon) = true
is_left_out_at a_selected_name (kinds.Punctuation marks.OpenParenthesis) = true
is_left_out_at an_element_end (kinds.Punctuation marks.Colon) = true
is_left_out_at a_field_end kinds.String = true
is_left_out_at a_result_end kinds.Name = true
is_left_out_at a_result_end (kinds.Punctuation marks.OpenBracket) = true
is_left_out_at a_result_end (kinds.Keyword keywords.Struct) = true
is_left_out_at a_statement (kinds.Keyword keywords.Type) = true
is_left_out_at a_statement k = begins_left_out k
is_left_out_at behind_a_name (kinds.Punctuation marks.Colon) = true
is_left_out_at behind_a_jump kinds.Name = true
is_left_out_at a_function_name (kinds.Punctuation marks.OpenParenthesis) = true
is_left_out_at a_function_name (kinds.Punctuation marks.OpenBracket) = true
is_left_out_at a_function_opening (kinds.Punctuation marks.OpenBracket) = true
is_left_out_at an_import (kinds.Punctuation marks.Period) = true
is_left_out_at an_import kinds.String = true
is_left_out_at an_import_path kinds.String = true
is_left_out_at _ _ = false

abbrev pub is_left_out : Expected → TokenKind → Bool
is_left_out x k = is_never_read k || is_left_out_at x k

-- the number of the fault at a token that may not come
abbrev pub fault_at : Expected → TokenKind → ℕ
fault_at x k = if is_left_out x k then 2 else 3
