-- What the next token is to an expression.
use Rattle.std.specs.Prelude.{ℕ, nat_le, nat_lt, Bool, true, false, ◌&&◌, not, List, [], ◌∷◌, Option, Some, None}
use Rattle.go_scan.specs.declared.token.TokenKind.{TokenKind}
use Rattle.go_scan.specs.declared.token.TokenKind.TheVariants as kinds
use Rattle.go_scan.specs.declared.keyword.Keyword.TheVariants as keywords
use Rattle.go_scan.specs.declared.punctuation.Punctuation.TheVariants as marks
use Rattle.go_ast.specs.Operators.{unary_of, binary_of, tighter}
use Rattle.go_ast.specs.declared.expression.UnaryOperator.{UnaryOperator}
use Rattle.go_ast.specs.declared.expression.BinaryOperator.{BinaryOperator}
use Rattle.go_ast.specs.Trees.{TypeExpr, slice}
use Rattle.go_ast.specs.Grammar.{Lexeme}
use Rattle.go_ast.specs.Expected.{Expected, is_left_out_at}
use Rattle.go_ast.specs.Machine.{begins_type, begins_expr}
use Rattle.go_pexpr.specs.declared.operators.Beginning.{Beginning}
use Rattle.go_pexpr.specs.declared.operators.Beginning.TheVariants as begins
use Rattle.go_pexpr.specs.declared.operators.Suffix.{Suffix}
use Rattle.go_pexpr.specs.declared.operators.Suffix.TheVariants.{Selector, Index, Call, CompositeLit}

-- the operator in front of an operand
abbrev pub sign_at : List Lexeme → Option UnaryOperator
sign_at [] = None
sign_at (t ∷ ts) = unary_of t.kind

abbrev pub some_if : {A : Type 0} → Bool → A → Option A
some_if true a = Some a
some_if false a = None

-- the operator between two operands, of a level from one on and below another
abbrev pub of_levels : ℕ → ℕ → Option BinaryOperator → Option BinaryOperator
of_levels m n None = None
of_levels m n (Some op) = some_if (nat_le m (tighter op) && nat_lt (tighter op) n) op

abbrev pub operator_at : ℕ → ℕ → List Lexeme → Option BinaryOperator
operator_at m n [] = None
operator_at m n (t ∷ ts) = of_levels m n (binary_of t.kind)

-- the suffix of an operand, which may be the type of a literal
abbrev pub suffix_of : Bool → Bool → TokenKind → Option Suffix
suffix_of h a (kinds.Punctuation marks.Period) = Some Selector
suffix_of h a (kinds.Punctuation marks.OpenBracket) = Some Index
suffix_of h a (kinds.Punctuation marks.OpenParenthesis) = Some Call
suffix_of h a (kinds.Punctuation marks.OpenBrace) = some_if (not h && a) CompositeLit
suffix_of h a _ = None

abbrev pub suffix_at : Bool → Bool → List Lexeme → Option Suffix
suffix_at h a [] = None
suffix_at h a (t ∷ ts) = suffix_of h a t.kind

-- the beginning of an operand
abbrev pub beginning_of : TokenKind → Beginning
beginning_of kinds.Name = begins.Name
beginning_of kinds.Integer = begins.Integer
beginning_of kinds.Rune = begins.Rune
beginning_of kinds.String = begins.String
beginning_of (kinds.Punctuation marks.OpenParenthesis) = begins.Parenthesis
beginning_of (kinds.Punctuation marks.OpenBracket) = begins.Bracket
beginning_of (kinds.Keyword keywords.Struct) = begins.Structure
beginning_of _ = begins.Other

abbrev pub beginning_at : List Lexeme → Beginning
beginning_at [] = begins.Other
beginning_at (t ∷ ts) = beginning_of t.kind

-- a type begins, or an expression
abbrev pub type_begins : List Lexeme → Bool
type_begins [] = false
type_begins (t ∷ ts) = begins_type t.kind

abbrev pub expr_begins : List Lexeme → Bool
expr_begins [] = false
expr_begins (t ∷ ts) = begins_expr t.kind

-- the next token belongs to what is left out where this is expected
abbrev pub left_out_at : Expected → List Lexeme → Bool
left_out_at x [] = false
left_out_at x (t ∷ ts) = is_left_out_at x t.kind

-- a type of slices
abbrev pub is_slice_type : TypeExpr → Bool
is_slice_type (slice p a) = true
is_slice_type a = false
