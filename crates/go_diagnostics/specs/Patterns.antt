-- Patterns of the tokens around a place: `before` has the tokens before it, the nearest first, and `from` that at the place and those behind it.
use Rattle.std.specs.Prelude.{ℕ, ◌+◌, ◌-◌, Bool, true, false, ◌&&◌, List, [], ◌∷◌, Option, Some, None, is_none, nat_eq, slice_get, if◌then◌else◌}
use Rattle.go_scan.specs.Kinds.{kind_eq}
use Rattle.go_scan.specs.declared.punctuation.Punctuation.TheVariants as marks
use Rattle.go_scan.specs.declared.token.Token.{Token}
use Rattle.go_scan.specs.declared.token.TokenKind.{TokenKind}
use Rattle.go_scan.specs.declared.token.TokenKind.TheVariants as kinds
use Rattle.go_diagnostics.specs.declared.pattern.Pattern.{Pattern}
use Rattle.go_diagnostics.specs.declared.pattern.Pattern.TheVariants as patterns
use Rattle.go_diagnostics.specs.declared.pattern.Position.{Position}
use Rattle.go_diagnostics.specs.declared.pattern.Position.TheVariants as positions

-- a token opens a bracket
abbrev pub opens : TokenKind → Bool
opens (kinds.Punctuation marks.OpenParenthesis) = true
opens (kinds.Punctuation marks.OpenBracket) = true
opens (kinds.Punctuation marks.OpenBrace) = true
opens _ = false

-- and closes one
abbrev pub closes : TokenKind → Bool
closes (kinds.Punctuation marks.CloseParenthesis) = true
closes (kinds.Punctuation marks.CloseBracket) = true
closes (kinds.Punctuation marks.CloseBrace) = true
closes _ = false

-- the tokens before a place from the bracket on that is open last, where so many that are closed are still to be opened
abbrev pub enclosing : ℕ → List Token → List Token
enclosing depth [] = []
enclosing depth (t ∷ ts) =
    if opens t.kind then (if nat_eq depth 0 then t ∷ ts else enclosing (depth - 1) ts)
    else (if closes t.kind then enclosing (depth + 1) ts else enclosing depth ts)

-- the token at a position
abbrev pub token_at : Position → List Token → List Token → Option Token
token_at positions.Here before from = slice_get from 0
token_at positions.Before before from = slice_get before 0
token_at positions.SecondBefore before from = slice_get before 1
token_at positions.ThirdBefore before from = slice_get before 2
token_at positions.Behind before from = slice_get from 1
token_at positions.SecondBehind before from = slice_get from 2
token_at positions.ThirdBehind before from = slice_get from 3
token_at positions.FourthBehind before from = slice_get from 4
token_at positions.Bracket before from = slice_get (enclosing 0 before) 0
token_at positions.BeforeBracket before from = slice_get (enclosing 0 before) 1

-- there is a token, and it is of the kind
abbrev pub is_of_kind : Option Token → TokenKind → Bool
is_of_kind None kind = false
is_of_kind (Some t) kind = kind_eq t.kind kind

-- a token may stand there, or none
abbrev pub pattern_fits : Pattern → Option Token → Bool
pattern_fits patterns.Any token = true
pattern_fits patterns.Nothing token = is_none token
pattern_fits patterns.Name token = is_of_kind token kinds.Name
pattern_fits patterns.Integer token = is_of_kind token kinds.Integer
pattern_fits patterns.Rune token = is_of_kind token kinds.Rune
pattern_fits patterns.String token = is_of_kind token kinds.String
pattern_fits (patterns.Word keyword) token = is_of_kind token (kinds.Keyword keyword)
pattern_fits (patterns.Mark punctuation) token = is_of_kind token (kinds.Punctuation punctuation)

-- such a token, or none, stands at the position
abbrev pub is_met : Position × Pattern → List Token → List Token → Bool
is_met condition before from = pattern_fits condition.1 (token_at condition.0 before from)

-- all conditions hold around a place
abbrev pub conditions_hold : (Position × Pattern) × (Position × Pattern) × (Position × Pattern) → List Token → List Token → Bool
conditions_hold conditions before from = is_met conditions.0 before from && (is_met conditions.1 before from && is_met conditions.2 before from)
