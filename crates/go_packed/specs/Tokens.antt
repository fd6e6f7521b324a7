-- Tokens: what objects are written by, one behind another.
use Rattle.std.specs.Prelude.{ℕ, ℤ, pos, ◌-◌, nat_lt, nat_eq, List, [], ◌∷◌, get_or, if◌then◌else◌}
use Rattle.go_packed.specs.declared.piece.Piece.{Piece}
use Rattle.go_packed.specs.declared.piece.Piece.TheVariants as piece

-- a size, a tag or an offset; a number of a cell; a text; a name
pub data PackedToken : Type 0 where
  Number : ℕ → PackedToken
  Integer : ℤ → PackedToken
  Text : List ℕ → PackedToken
  Name : List ℕ → PackedToken

-- the token that code shows
abbrev pub piece_token : Piece → PackedToken
piece_token (piece.Number n) = Number n
piece_token (piece.Integer z) = Integer z
piece_token (piece.Text text) = Text text.now
piece_token (piece.Name name) = Name name.now

-- the first, or another where none is
abbrev pub first_or : {A : Type 0} → A → List A → A
first_or other [] = other
first_or other (x ∷ xs) = x

-- what is behind the first
abbrev pub rest_of : {A : Type 0} → List A → List A
rest_of [] = []
rest_of (x ∷ xs) = xs

-- ---- how bytes stand for tokens

-- Most tokens are a byte. What isn't lies beside the bytes, in order: numbers of two bytes and larger ones, integers, texts.
pub record Beside : Type 0 where
  pub shorts : List ℕ
  pub sizes : List ℕ
  pub integers : List ℤ
  pub texts : List (List ℕ)

-- the text that comes first
abbrev pub text_token : List (List ℕ) → PackedToken
text_token [] = Number 0
text_token (text ∷ texts) = Text text

-- the name of a number
abbrev pub name_token : List (List ℕ) → ℕ → PackedToken
name_token names number = Name (get_or names number [])

-- the token of a byte, where the names are these
abbrev pub token_at : List (List ℕ) → Beside → ℕ → PackedToken
token_at names beside byte =
    if nat_lt byte 128 then Number byte
    else if nat_lt byte 192 then name_token names (byte - 128)
    else if nat_lt byte 248 then Integer (pos (byte - 192))
    else if nat_eq byte 248 then Number (first_or 0 beside.shorts)
    else if nat_eq byte 249 then Number (first_or 0 beside.sizes)
    else if nat_eq byte 250 then name_token names (first_or 0 beside.shorts)
    else if nat_eq byte 251 then name_token names (first_or 0 beside.sizes)
    else if nat_eq byte 252 then Integer (pos (first_or 0 beside.shorts))
    else if nat_eq byte 253 then Integer (first_or (pos 0) beside.integers)
    else text_token beside.texts

-- what lies beside the bytes that follow it
abbrev pub beside_after : Beside → ℕ → Beside
beside_after beside byte =
    if nat_lt byte 248 then beside
    else if nat_eq byte 248 then record beside { shorts = rest_of beside.shorts }
    else if nat_eq byte 249 then record beside { sizes = rest_of beside.sizes }
    else if nat_eq byte 250 then record beside { shorts = rest_of beside.shorts }
    else if nat_eq byte 251 then record beside { sizes = rest_of beside.sizes }
    else if nat_eq byte 252 then record beside { shorts = rest_of beside.shorts }
    else if nat_eq byte 253 then record beside { integers = rest_of beside.integers }
    else record beside { texts = rest_of beside.texts }

-- the tokens of bytes
abbrev pub tokens : List (List ℕ) → Beside → List ℕ → List PackedToken
tokens names beside [] = []
tokens names beside (byte ∷ bytes) = token_at names beside byte ∷ tokens names (beside_after beside byte) bytes
