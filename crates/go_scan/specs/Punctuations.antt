-- How operators and punctuation are spelled: go.dev/ref/spec#Operators_and_punctuation, #Semicolons.
use Rattle.std.specs.Prelude.{◌≢◌, ℕ, Bool, true, false, List, codes}
use Rattle.go_scan.specs.declared.punctuation.Punctuation.{Punctuation}
use Rattle.go_scan.specs.declared.punctuation.Punctuation.TheVariants as marks

-- the bytes of an operator or punctuation
abbrev pub punctuation_spelling : Punctuation → List ℕ
punctuation_spelling marks.Plus = codes "+"
punctuation_spelling marks.Minus = codes "-"
punctuation_spelling marks.Star = codes "*"
punctuation_spelling marks.Slash = codes "/"
punctuation_spelling marks.Percent = codes "%"
punctuation_spelling marks.Ampersand = codes "&"
punctuation_spelling marks.Pipe = codes "|"
punctuation_spelling marks.Caret = codes "^"
punctuation_spelling marks.ShiftLeft = codes "<<"
punctuation_spelling marks.ShiftRight = codes ">>"
punctuation_spelling marks.AndNot = codes "&^"
punctuation_spelling marks.PlusAssign = codes "+="
punctuation_spelling marks.MinusAssign = codes "-="
punctuation_spelling marks.StarAssign = codes "*="
punctuation_spelling marks.SlashAssign = codes "/="
punctuation_spelling marks.PercentAssign = codes "%="
punctuation_spelling marks.AmpersandAssign = codes "&="
punctuation_spelling marks.PipeAssign = codes "|="
punctuation_spelling marks.CaretAssign = codes "^="
punctuation_spelling marks.ShiftLeftAssign = codes "<<="
punctuation_spelling marks.ShiftRightAssign = codes ">>="
punctuation_spelling marks.AndNotAssign = codes "&^="
punctuation_spelling marks.LogicalAnd = codes "&&"
punctuation_spelling marks.LogicalOr = codes "||"
punctuation_spelling marks.Arrow = codes "<-"
punctuation_spelling marks.Increment = codes "++"
punctuation_spelling marks.Decrement = codes "--"
punctuation_spelling marks.Equal = codes "=="
punctuation_spelling marks.Less = codes "<"
punctuation_spelling marks.Greater = codes ">"
punctuation_spelling marks.Assign = codes "="
punctuation_spelling marks.Not = codes "!"
punctuation_spelling marks.Tilde = codes "~"
punctuation_spelling marks.NotEqual = codes "!="
punctuation_spelling marks.LessOrEqual = codes "<="
punctuation_spelling marks.GreaterOrEqual = codes ">="
punctuation_spelling marks.Define = codes ":="
punctuation_spelling marks.Ellipsis = codes "..."
punctuation_spelling marks.OpenParenthesis = codes "("
punctuation_spelling marks.OpenBracket = codes "["
punctuation_spelling marks.OpenBrace = codes "{"
punctuation_spelling marks.Comma = codes ","
punctuation_spelling marks.Period = codes "."
punctuation_spelling marks.CloseParenthesis = codes ")"
punctuation_spelling marks.CloseBracket = codes "]"
punctuation_spelling marks.CloseBrace = codes "}"
punctuation_spelling marks.Semicolon = codes ";"
punctuation_spelling marks.Colon = codes ":"

-- the bytes spell none
abbrev pub IsNoPunctuation : List ℕ → Type 0
IsNoPunctuation bytes = (p : Punctuation) → bytes ≢ punctuation_spelling p

-- a line that ends behind it ends a statement
abbrev pub punctuation_ends_statement : Punctuation → Bool
punctuation_ends_statement marks.Increment = true
punctuation_ends_statement marks.Decrement = true
punctuation_ends_statement marks.CloseParenthesis = true
punctuation_ends_statement marks.CloseBracket = true
punctuation_ends_statement marks.CloseBrace = true
punctuation_ends_statement _ = false
