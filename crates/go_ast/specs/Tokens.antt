-- Tokens of a text, with their bytes.
use Rattle.std.specs.Prelude.{◌≡◌, ℕ, ◌≤◌, ◌⊎◌, true, List, length, map, slice_range}
use Rattle.std.specs.Str.{is_utf8}
use Rattle.go_scan.specs.declared.token.Token.{Token}
use Rattle.go_scan.specs.declared.token.TokenKind.TheVariants as kinds
use Rattle.go_ast.specs.Grammar.{Lexeme}

-- the bytes of a token
abbrev pub lexeme_bytes : List ℕ → Token → List ℕ
lexeme_bytes text t = slice_range text t.start t.end

-- a token of a text, with its bytes
abbrev pub lexeme : List ℕ → Token → Lexeme
lexeme text t = record { kind = t.kind; text = lexeme_bytes text t; place = t.place }

-- the tokens of a text, with their bytes
abbrev pub lexemes : List ℕ → List Token → List Lexeme
lexemes text ts = map (lexeme text) ts

-- a token lies in a text, and a name and an integer literal are UTF-8: what a parser knows of its tokens
pub record LiesIn (text : List ℕ) (t : Token) : Type 0 where
  pub order : t.start ≤ t.end
  pub within : t.end ≤ length text
  pub utf8 : (t.kind ≡ kinds.Name) ⊎ (t.kind ≡ kinds.Integer) → is_utf8 (lexeme_bytes text t) ≡ true
