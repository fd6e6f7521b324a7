-- The tokens of two texts: a package with a function, and a package main that calls it.
use Rattle.std.proofs.Common.{◌≡◌, ℕ, zero, suc, Bool, true, false, List, [], ◌∷◌, Option, None, Some, codes, take, drop, refl}
use Rattle.ucd_category.specs.GeneralCategory.{general_category}
use Rattle.ucd_category.specs.GeneralCategoryRows.{general_category_rows}
use Rattle.ucd_table.specs.Rows.{value_in}
use Rattle.go_scan.specs.declared.fault.ScanFault.{ScanFault}
use Rattle.go_scan.specs.declared.keyword.Keyword.TheVariants as keywords
use Rattle.go_scan.specs.declared.punctuation.Punctuation.TheVariants as marks
use Rattle.go_scan.specs.declared.shape.Shape.{Shape}
use Rattle.go_scan.specs.declared.token.Token.{Token}
use Rattle.go_scan.specs.declared.token.TokenKind.{TokenKind}
use Rattle.go_scan.specs.declared.token.TokenKind.TheVariants as kinds
use Rattle.go_scan.specs.Fronts.{front}
use Rattle.go_scan.specs.Lex.{Piece, IsRow, shape_fault, has_begun, Lexes}
use Rattle.go_scan.proofs.Fronts.{piece_begins}

-- ---- a text cut into pieces

abbrev pieces_with : Option (Shape × ℕ) → List ℕ → (List ℕ → List Piece) → List Piece
pieces_with None text more = []
pieces_with (Some (shape, size)) text more = record { shape = shape; bytes = take size text } ∷ more (drop size text)

-- at most so many
abbrev pub pieces_in : ℕ → List ℕ → List Piece
pieces_in zero text = []
pieces_in (suc n) text = pieces_with (front text) text (pieces_in n)

abbrev is_sound_and : Option ScanFault → Bool → Bool
is_sound_and None rest = rest
is_sound_and (Some fault) rest = false

abbrev is_row_with : Bool → Option (Shape × ℕ) → List ℕ → (Bool → List ℕ → Bool) → Bool
is_row_with begun None text more = false
is_row_with begun (Some (shape, size)) text more = is_sound_and (shape_fault begun shape (take size text)) (more (has_begun begun shape) (drop size text))

-- with none of them is anything wrong, and nothing is left of the text
abbrev is_row : ℕ → Bool → List ℕ → Bool
is_row zero begun [] = true
is_row zero begun (b ∷ bs) = false
is_row (suc n) begun text = is_row_with begun (front text) text (is_row n)

both : (fault : Option ScanFault) (rest : Bool) → is_sound_and fault rest ≡ true → (fault ≡ None) × (rest ≡ true)
both None rest e = (refl, e)
both (Some fault) rest e = cc (e)

row_with : (more : List ℕ → List Piece) (test : Bool → List ℕ → Bool) → ((begun : Bool) (rest : List ℕ) → test begun rest ≡ true → IsRow begun (more rest) rest []) → (begun : Bool) (text : List ℕ) (o : Option (Shape × ℕ)) → front text ≡ o → is_row_with begun o text test ≡ true
    → IsRow begun (pieces_with o text more) text []
row_with more test h begun text None found e = cc (e)
row_with more test h begun text (Some (shape, size)) found e =
    let sound = both (shape_fault begun shape (take size text)) (test (has_begun begun shape) (drop size text)) e in
    (drop size text, piece_begins text shape size found, sound.0, h (has_begun begun shape) (drop size text) sound.1)

pub row_by : (n : ℕ) (begun : Bool) (text : List ℕ) → is_row n begun text ≡ true → IsRow begun (pieces_in n text) text []
row_by zero begun [] e = refl
row_by zero begun (b ∷ bs) e = cc (e)
row_by (suc n) begun text e = row_with (pieces_in n) (is_row n) (row_by n) begun text (front text) refl e

-- ---- two texts

-- a token of one line, from a byte on to another
abbrev pub token : TokenKind → ℕ → ℕ → Token
token kind start end = record { kind = kind; start = start; end = end; place = record { line = 1; column = suc start } }

abbrev pub library_text : List ℕ
library_text = codes "package lib;func F(){}"

abbrev pub library_tokens : List Token
library_tokens =
    token (kinds.Keyword keywords.Package) 0 7 ∷ token kinds.Name 8 11 ∷ token (kinds.Punctuation marks.Semicolon) 11 12
    ∷ token (kinds.Keyword keywords.Func) 12 16 ∷ token kinds.Name 17 18
    ∷ token (kinds.Punctuation marks.OpenParenthesis) 18 19 ∷ token (kinds.Punctuation marks.CloseParenthesis) 19 20
    ∷ token (kinds.Punctuation marks.OpenBrace) 20 21 ∷ token (kinds.Punctuation marks.CloseBrace) 21 22 ∷ token (kinds.Punctuation marks.Semicolon) 22 22 ∷ []

pub library_lexes : Lexes library_text library_tokens
unfolding general_category value_in general_category_rows
library_lexes = (pieces_in 11 library_text, row_by 11 false library_text refl, refl)

abbrev pub caller_text : List ℕ
caller_text = codes "package main;import `lib`;func main(){lib.F()}"

abbrev pub caller_tokens : List Token
caller_tokens =
    token (kinds.Keyword keywords.Package) 0 7 ∷ token kinds.Name 8 12 ∷ token (kinds.Punctuation marks.Semicolon) 12 13
    ∷ token (kinds.Keyword keywords.Import) 13 19 ∷ token kinds.String 20 25 ∷ token (kinds.Punctuation marks.Semicolon) 25 26
    ∷ token (kinds.Keyword keywords.Func) 26 30 ∷ token kinds.Name 31 35
    ∷ token (kinds.Punctuation marks.OpenParenthesis) 35 36 ∷ token (kinds.Punctuation marks.CloseParenthesis) 36 37 ∷ token (kinds.Punctuation marks.OpenBrace) 37 38
    ∷ token kinds.Name 38 41 ∷ token (kinds.Punctuation marks.Period) 41 42 ∷ token kinds.Name 42 43
    ∷ token (kinds.Punctuation marks.OpenParenthesis) 43 44 ∷ token (kinds.Punctuation marks.CloseParenthesis) 44 45
    ∷ token (kinds.Punctuation marks.CloseBrace) 45 46 ∷ token (kinds.Punctuation marks.Semicolon) 46 46 ∷ []

pub caller_lexes : Lexes caller_text caller_tokens
unfolding general_category value_in general_category_rows
caller_lexes = (pieces_in 20 caller_text, row_by 20 false caller_text refl, refl)
