-- What a source text is cut into, which tokens it has, and where it is refused: go.dev/ref/spec#Tokens, #Semicolons.
use Rattle.std.specs.Prelude.{◌≡◌, ℕ, ◌+◌, ◌≤◌, Bool, true, false, ◌⊎◌, ◌||◌, nat_eq, nat_lt, List, [], ◌∷◌, ◌++◌, length, drop, Option, Some, None, if◌then◌else◌}
use Rattle.std.specs.List.{list_all, slice_range}
use Rattle.go_text.specs.declared.place.Place.{Place}
use Rattle.go_text.specs.Places.{place_at, mark_size}
use Rattle.go_scan.specs.declared.fault.ScanFault.{ScanFault}
use Rattle.go_scan.specs.declared.fault.ScanFault.TheVariants.{Malformed, LeftOut}
use Rattle.go_scan.specs.declared.shape.Shape.{Shape}
use Rattle.go_scan.specs.declared.shape.Shape.TheVariants.{Blanks, LineComment, BlockComment, OpenComment, BadNumber, Word}
use Rattle.go_scan.specs.declared.token.Token.{Token}
use Rattle.go_scan.specs.declared.token.TokenKind.{TokenKind}
use Rattle.go_scan.specs.declared.token.TokenKind.TheVariants as kinds
use Rattle.go_scan.specs.declared.punctuation.Punctuation.TheVariants as marks
use Rattle.go_scan.specs.Comments.{IsLineComment, IsBlockComment, IsOpenComment, is_constraint}
use Rattle.go_scan.specs.Keywords.{spelling, IsNoKeyword, keyword_ends_statement}
use Rattle.go_scan.specs.Numbers.{is_run, is_integer_literal, run_fault}
use Rattle.go_scan.specs.Punctuations.{punctuation_spelling, punctuation_ends_statement}
use Rattle.go_scan.specs.Runes.{IsRune}
use Rattle.go_scan.specs.Strings.{IsString}
use Rattle.go_scan.specs.Words.{IsWord}

-- space, tab, carriage return or newline
abbrev pub is_white_space : ℕ → Bool
is_white_space b = nat_eq b 32 || (nat_eq b 9 || (nat_eq b 13 || nat_eq b 10))

abbrev pub AreBlanks : List ℕ → Type 0
AreBlanks bytes = (b : ℕ) × (bs : List ℕ) × (bytes ≡ b ∷ bs) × (list_all is_white_space (b ∷ bs) ≡ true)

-- how a token of each kind is spelled
abbrev pub SpellsToken : TokenKind → List ℕ → Type 0
SpellsToken kinds.Name bytes = IsWord bytes × IsNoKeyword bytes
SpellsToken (kinds.Keyword k) bytes = bytes ≡ spelling k
SpellsToken kinds.Integer bytes = (is_run bytes ≡ true) × (is_integer_literal bytes ≡ true)
SpellsToken kinds.Rune bytes = IsRune bytes
SpellsToken kinds.String bytes = IsString bytes
SpellsToken (kinds.Punctuation p) bytes = bytes ≡ punctuation_spelling p

-- and a piece of each shape
abbrev pub Spells : Shape → List ℕ → Type 0
Spells Blanks bytes = AreBlanks bytes
Spells LineComment bytes = IsLineComment bytes
Spells BlockComment bytes = IsBlockComment bytes
Spells OpenComment bytes = IsOpenComment bytes
Spells BadNumber bytes = (is_run bytes ≡ true) × (is_integer_literal bytes ≡ false)
Spells (Word kind) bytes = SpellsToken kind bytes

-- a piece of a text
pub record Piece : Type 0 where
  pub shape : Shape
  pub bytes : List ℕ

-- a text begins with a piece, and with none that is longer
pub record Begins (piece : Piece) (text rest : List ℕ) : Type 0 where
  pub whole : text ≡ piece.bytes ++ rest
  pub spelled : Spells piece.shape piece.bytes
  pub longest : (shape : Shape) (bytes others : List ℕ) → Spells shape bytes → text ≡ bytes ++ others → length bytes ≤ length piece.bytes

-- a token came with the piece, or before it
abbrev pub has_begun : Bool → Shape → Bool
has_begun begun (Word kind) = true
has_begun begun _ = begun

-- what is wrong with a piece: open comments, runs that are no integer literal, and build constraints before the first token are refused
abbrev pub shape_fault : Bool → Shape → List ℕ → Option ScanFault
shape_fault begun OpenComment bytes = Some Malformed
shape_fault begun BadNumber bytes = Some (run_fault bytes)
shape_fault begun LineComment bytes = if begun then None else (if is_constraint bytes then Some LeftOut else None)
shape_fault begun _ bytes = None

abbrev pub piece_fault : Bool → Piece → Option ScanFault
piece_fault begun p = shape_fault begun p.shape p.bytes

-- a text, up to a rest of it, is a row of pieces with which nothing is wrong
abbrev pub IsRow : Bool → List Piece → List ℕ → List ℕ → Type 0
IsRow begun [] text rest = text ≡ rest
IsRow begun (p ∷ ps) text rest = (mid : List ℕ) × Begins p text mid × (piece_fault begun p ≡ None) × IsRow (has_begun begun p.shape) ps mid rest

-- some piece of a row is a token
abbrev pub begun_after : Bool → List Piece → Bool
begun_after begun [] = begun
begun_after begun (p ∷ ps) = begun_after (has_begun begun p.shape) ps

-- a text that begins with a piece that is refused
abbrev pub BeginsWrong : Bool → List ℕ → ScanFault → Type 0
BeginsWrong begun text fault = (p : Piece) × (rest : List ℕ) × Begins p text rest × (piece_fault begun p ≡ Some fault)

-- a text that isn't empty and begins with no piece
abbrev pub BeginsNone : List ℕ → Type 0
BeginsNone text = ((text ≡ []) → ⊥) × ((p : Piece) (rest : List ℕ) → Begins p text rest → ⊥)

-- the fault of a text's front
abbrev pub IsRefused : Bool → List ℕ → ScanFault → Type 0
IsRefused begun text fault = BeginsWrong begun text fault ⊎ (BeginsNone text × (fault ≡ Malformed))

-- the token of a piece that stands at an offset of a text
abbrev pub token_of : List ℕ → ℕ → TokenKind → ℕ → Token
token_of text at kind size = record { kind = kind; start = at; end = at + size; place = place_at text at }

-- the token of a piece in front of others, if the piece is one
abbrev pub with_token : List ℕ → ℕ → Shape → ℕ → List Token → List Token
with_token text at (Word kind) size ts = token_of text at kind size ∷ ts
with_token text at _ size ts = ts

-- the tokens among the pieces of a text from an offset on
abbrev pub tokens_of : List ℕ → ℕ → List Piece → List Token
tokens_of text at [] = []
tokens_of text at (p ∷ ps) = with_token text at p.shape (length p.bytes) (tokens_of text (at + length p.bytes) ps)

-- a line that ends behind a token of this kind ends a statement
abbrev pub ends_statement : TokenKind → Bool
ends_statement (kinds.Keyword k) = keyword_ends_statement k
ends_statement (kinds.Punctuation p) = punctuation_ends_statement p
ends_statement _ = true

-- the semicolon that is due behind a token, if the line ends there
abbrev pub due_behind : Token → Place → Option Token
due_behind t behind =
    if ends_statement t.kind then Some (record { kind = kinds.Punctuation marks.Semicolon; start = t.end; end = t.end; place = behind }) else None

-- a semicolon that is due is inserted where the next token is on a later line, or there is none
abbrev pub due_before : Option Token → List Token → List Token
due_before None ts = []
due_before (Some s) [] = s ∷ []
due_before (Some s) (t ∷ ts) = if nat_lt s.place.line t.place.line then s ∷ [] else []

-- the tokens with the semicolons that are inserted; each has the place behind the token that it follows
abbrev pub with_semis : List ℕ → List Token → List Token
with_semis text [] = []
with_semis text (t ∷ ts) = t ∷ due_before (due_behind t (place_at text t.end)) ts ++ with_semis text ts

-- the second list is the first with its semicolons
abbrev pub Semis : List ℕ → List Token → List Token → Type 0
Semis text ts all = all ≡ with_semis text ts

-- the tokens of a text: a mark at the start is no part of any
abbrev pub Lexes : List ℕ → List Token → Type 0
Lexes text ts =
    (pieces : List Piece) × IsRow false pieces (drop (mark_size text) text) [] × Semis text (tokens_of text (mark_size text) pieces) ts

-- a text is refused for a fault at a place: the pieces before it are sound, and what stands there is refused
abbrev pub Refuses : List ℕ → ScanFault → Place → Type 0
Refuses text fault place =
    (pieces : List Piece) × (at : ℕ) × IsRow false pieces (drop (mark_size text) text) (drop at text)
    × IsRefused (begun_after false pieces) (drop at text) fault × (place ≡ place_at text at)

-- the bytes that a token of a kind may have: its spelling, and none for an inserted semicolon
abbrev pub MaySpell : TokenKind → List ℕ → Type 0
MaySpell kind bytes = SpellsToken kind bytes ⊎ ((kind ≡ kinds.Punctuation marks.Semicolon) × (bytes ≡ []))

-- a token stands in a text: its place is that of its start, and the bytes between its offsets are of its kind
pub record StandsIn (text : List ℕ) (t : Token) : Type 0 where
  pub order : t.start ≤ t.end
  pub within : t.end ≤ length text
  pub place : t.place ≡ place_at text t.start
  pub spelled : MaySpell t.kind (slice_range text t.start t.end)
