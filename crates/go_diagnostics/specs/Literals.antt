-- What literals at a place tell of types.
use Rattle.std.specs.Prelude.{Bool, true, false, ◌&&◌, List, [], ◌∷◌, Option, Some, None, option_map, if◌then◌else◌}
use Rattle.go_text.specs.declared.fault.FaultKind.{FaultKind}
use Rattle.go_text.specs.declared.fault.FaultKind.TheVariants as faults
use Rattle.go_scan.specs.Kinds.{kind_eq}
use Rattle.go_scan.specs.declared.keyword.Keyword.TheVariants as words
use Rattle.go_scan.specs.declared.punctuation.Punctuation.TheVariants as marks
use Rattle.go_scan.specs.declared.token.Token.{Token}
use Rattle.go_scan.specs.declared.token.TokenKind.{TokenKind}
use Rattle.go_scan.specs.declared.token.TokenKind.TheVariants as kinds
use Rattle.go_diagnostics.specs.declared.literals.Literal.{Literal}
use Rattle.go_diagnostics.specs.declared.literals.Literal.TheVariants as literals
use Rattle.go_diagnostics.specs.declared.message.Message.{Message}
use Rattle.go_diagnostics.specs.declared.message.Message.TheVariants as messages

abbrev pub literal_of_kind : TokenKind → Option Literal
literal_of_kind kinds.Integer = Some literals.Number
literal_of_kind kinds.Rune = Some literals.Number
literal_of_kind kinds.String = Some literals.String
literal_of_kind _ = None

-- the type of a token, if it is a literal
abbrev pub token_literal : Token → Option Literal
token_literal t = literal_of_kind t.kind

-- operators whose operands have one type, and that bind tighter than `&&`
abbrev pub is_operator_kind : TokenKind → Bool
is_operator_kind (kinds.Punctuation marks.Plus) = true
is_operator_kind (kinds.Punctuation marks.Minus) = true
is_operator_kind (kinds.Punctuation marks.Star) = true
is_operator_kind (kinds.Punctuation marks.Slash) = true
is_operator_kind (kinds.Punctuation marks.Percent) = true
is_operator_kind (kinds.Punctuation marks.Ampersand) = true
is_operator_kind (kinds.Punctuation marks.Pipe) = true
is_operator_kind (kinds.Punctuation marks.Caret) = true
is_operator_kind (kinds.Punctuation marks.AndNot) = true
is_operator_kind (kinds.Punctuation marks.Equal) = true
is_operator_kind (kinds.Punctuation marks.NotEqual) = true
is_operator_kind (kinds.Punctuation marks.Less) = true
is_operator_kind (kinds.Punctuation marks.LessOrEqual) = true
is_operator_kind (kinds.Punctuation marks.Greater) = true
is_operator_kind (kinds.Punctuation marks.GreaterOrEqual) = true
is_operator_kind _ = false

abbrev pub is_operator : Token → Bool
is_operator t = is_operator_kind t.kind

-- tokens that end the expression before them
abbrev pub is_end_kind : TokenKind → Bool
is_end_kind (kinds.Punctuation marks.CloseParenthesis) = true
is_end_kind (kinds.Punctuation marks.CloseBracket) = true
is_end_kind (kinds.Punctuation marks.CloseBrace) = true
is_end_kind (kinds.Punctuation marks.OpenBrace) = true
is_end_kind (kinds.Punctuation marks.Comma) = true
is_end_kind (kinds.Punctuation marks.Colon) = true
is_end_kind (kinds.Punctuation marks.Semicolon) = true
is_end_kind _ = false

abbrev pub is_end : Token → Bool
is_end t = is_end_kind t.kind

-- of two literals one is a number and one a string
abbrev pub literals_differ : Option Literal → Option Literal → Bool
literals_differ (Some literals.Number) (Some literals.String) = true
literals_differ (Some literals.String) (Some literals.Number) = true
literals_differ _ _ = false

-- tokens begin with an operation on a number and a string, both literals
abbrev pub are_mixed : List Token → Bool
are_mixed (left ∷ operator ∷ right ∷ end ∷ from) = is_operator operator && (is_end end && literals_differ (token_literal left) (token_literal right))
are_mixed _ = false

-- tokens that end a statement or an only argument
abbrev pub ends_value_kind : TokenKind → Bool
ends_value_kind (kinds.Punctuation marks.CloseParenthesis) = true
ends_value_kind (kinds.Punctuation marks.CloseBrace) = true
ends_value_kind (kinds.Punctuation marks.Semicolon) = true
ends_value_kind _ = false

abbrev pub ends_value : Token → Bool
ends_value t = ends_value_kind t.kind

-- the literal that tokens begin with, where it is the last value of a statement or of a call
abbrev pub value_literal : List Token → Option Literal
value_literal (value ∷ end ∷ from) = if ends_value end then token_literal value else None
value_literal _ = None

-- a name, its type and `=`
abbrev pub is_declaration : Token → Token → Token → Bool
is_declaration name of assign =
    kind_eq name.kind kinds.Name && (kind_eq of.kind kinds.Name && kind_eq assign.kind (kinds.Punctuation marks.Assign))

-- the name of its type, and the literal, of a declaration that gives one name a literal
abbrev pub declared : List Token → Option (Token × Literal)
declared (name ∷ of ∷ assign ∷ value) = if is_declaration name of assign then option_map (λ literal. (of, literal)) (value_literal value) else None
declared _ = None

abbrev pub is_before_value : TokenKind → Bool
is_before_value (kinds.Punctuation marks.Assign) = true
is_before_value (kinds.Punctuation marks.OpenParenthesis) = true
is_before_value _ = false

-- a name and `=`, or a function and a parenthesis
abbrev pub takes_value : Token → Token → Bool
takes_value name mark = kind_eq name.kind kinds.Name && is_before_value mark.kind

-- the literal that `return` has alone
abbrev pub returned_literal : List Token → Option Literal
returned_literal [] = None
returned_literal (word ∷ value) = if kind_eq word.kind (kinds.Keyword words.Return) then value_literal value else None

-- the literal that a name is assigned, a function is called with alone, or `return` has alone
abbrev pub assigned_literal : List Token → Option Literal
assigned_literal (name ∷ mark ∷ value) = if takes_value name mark then value_literal value else returned_literal (name ∷ mark ∷ value)
assigned_literal _ = None

abbrev pub message_of : Literal → Message
message_of literals.Number = messages.NumberValue
message_of literals.String = messages.StringValue

-- what literals tell of a place at which types don't go together
abbrev pub literal_message : FaultKind → List Token → Option Message
literal_message faults.Mismatch from = if are_mixed from then Some messages.StringAndNumber else None
literal_message faults.Assign from = option_map message_of (assigned_literal from)
literal_message _ from = None
