-- How operands begin.
use Rattle.std.proofs.Common.{◌≡◌, List, [], ◌∷◌, refl, ap, ◌∙◌}
use Rattle.go_scan.specs.declared.token.TokenKind.{TokenKind}
use Rattle.go_scan.specs.declared.token.TokenKind.TheVariants as kinds
use Rattle.go_scan.specs.declared.keyword.Keyword.TheVariants as keywords
use Rattle.go_scan.specs.declared.punctuation.Punctuation.TheVariants as marks
use Rattle.go_ast.specs.Grammar.{Lexeme, opening, opening_bracket}
use Rattle.go_ast.specs.Machine.{keyword}
use Rattle.go_pexpr.specs.declared.operators.Beginning.{Beginning}
use Rattle.go_pexpr.specs.declared.operators.Beginning.TheVariants as begins
use Rattle.go_pexpr.specs.Next.{beginning_of, beginning_at}
use Rattle.go_pexpr.specs.Reads.{First}
use Rattle.go_pexpr.proofs.Steps.{Kind}

pub begins_as : (k : TokenKind) (b : Beginning) (ts : List Lexeme) → beginning_of k ≡ b → First (Kind k) ts → beginning_at ts ≡ b
begins_as k b [] e h = absurd h
begins_as k b (t ∷ ts) e h = ap beginning_of h ∙ e

name_kind : (k : TokenKind) → beginning_of k ≡ begins.Name → k ≡ kinds.Name
name_kind kinds.Name e = refl
name_kind kinds.Integer e = cc (e)
name_kind kinds.Rune e = cc (e)
name_kind kinds.String e = cc (e)
name_kind (kinds.Punctuation marks.OpenParenthesis) e = cc (e)
name_kind (kinds.Punctuation marks.OpenBracket) e = cc (e)
name_kind (kinds.Keyword keywords.Struct) e = cc (e)
name_kind _ e = cc (e)

pub name_first : (ts : List Lexeme) → beginning_at ts ≡ begins.Name → First (Kind kinds.Name) ts
name_first [] e = cc (e)
name_first (t ∷ ts) e = name_kind t.kind e

integer_kind : (k : TokenKind) → beginning_of k ≡ begins.Integer → k ≡ kinds.Integer
integer_kind kinds.Integer e = refl
integer_kind kinds.Name e = cc (e)
integer_kind kinds.Rune e = cc (e)
integer_kind kinds.String e = cc (e)
integer_kind (kinds.Punctuation marks.OpenParenthesis) e = cc (e)
integer_kind (kinds.Punctuation marks.OpenBracket) e = cc (e)
integer_kind (kinds.Keyword keywords.Struct) e = cc (e)
integer_kind _ e = cc (e)

pub integer_first : (ts : List Lexeme) → beginning_at ts ≡ begins.Integer → First (Kind kinds.Integer) ts
integer_first [] e = cc (e)
integer_first (t ∷ ts) e = integer_kind t.kind e

rune_kind : (k : TokenKind) → beginning_of k ≡ begins.Rune → k ≡ kinds.Rune
rune_kind kinds.Rune e = refl
rune_kind kinds.Name e = cc (e)
rune_kind kinds.Integer e = cc (e)
rune_kind kinds.String e = cc (e)
rune_kind (kinds.Punctuation marks.OpenParenthesis) e = cc (e)
rune_kind (kinds.Punctuation marks.OpenBracket) e = cc (e)
rune_kind (kinds.Keyword keywords.Struct) e = cc (e)
rune_kind _ e = cc (e)

pub rune_first : (ts : List Lexeme) → beginning_at ts ≡ begins.Rune → First (Kind kinds.Rune) ts
rune_first [] e = cc (e)
rune_first (t ∷ ts) e = rune_kind t.kind e

string_kind : (k : TokenKind) → beginning_of k ≡ begins.String → k ≡ kinds.String
string_kind kinds.String e = refl
string_kind kinds.Name e = cc (e)
string_kind kinds.Integer e = cc (e)
string_kind kinds.Rune e = cc (e)
string_kind (kinds.Punctuation marks.OpenParenthesis) e = cc (e)
string_kind (kinds.Punctuation marks.OpenBracket) e = cc (e)
string_kind (kinds.Keyword keywords.Struct) e = cc (e)
string_kind _ e = cc (e)

pub string_first : (ts : List Lexeme) → beginning_at ts ≡ begins.String → First (Kind kinds.String) ts
string_first [] e = cc (e)
string_first (t ∷ ts) e = string_kind t.kind e

parenthesis_kind : (k : TokenKind) → beginning_of k ≡ begins.Parenthesis → k ≡ opening
parenthesis_kind (kinds.Punctuation marks.OpenParenthesis) e = refl
parenthesis_kind kinds.Name e = cc (e)
parenthesis_kind kinds.Integer e = cc (e)
parenthesis_kind kinds.Rune e = cc (e)
parenthesis_kind kinds.String e = cc (e)
parenthesis_kind (kinds.Punctuation marks.OpenBracket) e = cc (e)
parenthesis_kind (kinds.Keyword keywords.Struct) e = cc (e)
parenthesis_kind _ e = cc (e)

pub parenthesis_first : (ts : List Lexeme) → beginning_at ts ≡ begins.Parenthesis → First (Kind opening) ts
parenthesis_first [] e = cc (e)
parenthesis_first (t ∷ ts) e = parenthesis_kind t.kind e

bracket_kind : (k : TokenKind) → beginning_of k ≡ begins.Bracket → k ≡ opening_bracket
bracket_kind (kinds.Punctuation marks.OpenBracket) e = refl
bracket_kind kinds.Name e = cc (e)
bracket_kind kinds.Integer e = cc (e)
bracket_kind kinds.Rune e = cc (e)
bracket_kind kinds.String e = cc (e)
bracket_kind (kinds.Punctuation marks.OpenParenthesis) e = cc (e)
bracket_kind (kinds.Keyword keywords.Struct) e = cc (e)
bracket_kind _ e = cc (e)

pub bracket_first : (ts : List Lexeme) → beginning_at ts ≡ begins.Bracket → First (Kind opening_bracket) ts
bracket_first [] e = cc (e)
bracket_first (t ∷ ts) e = bracket_kind t.kind e

structure_kind : (k : TokenKind) → beginning_of k ≡ begins.Structure → k ≡ (keyword keywords.Struct)
structure_kind (kinds.Keyword keywords.Struct) e = refl
structure_kind kinds.Name e = cc (e)
structure_kind kinds.Integer e = cc (e)
structure_kind kinds.Rune e = cc (e)
structure_kind kinds.String e = cc (e)
structure_kind (kinds.Punctuation marks.OpenParenthesis) e = cc (e)
structure_kind (kinds.Punctuation marks.OpenBracket) e = cc (e)
structure_kind _ e = cc (e)

pub structure_first : (ts : List Lexeme) → beginning_at ts ≡ begins.Structure → First (Kind (keyword keywords.Struct)) ts
structure_first [] e = cc (e)
structure_first (t ∷ ts) e = structure_kind t.kind e
