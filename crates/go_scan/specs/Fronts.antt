-- What a text begins with, computed.
use Rattle.std.specs.Prelude.{ℕ, zero, suc, ◌+◌, ◌-◌, ◌*◌, Bool, true, false, ◌||◌, nat_eq, nat_le, List, [], ◌∷◌, ◌++◌, length, take, drop, slice_index, Option, Some, None, if◌then◌else◌}
use Rattle.std.specs.List.{prefix_len, find, filter}
use Rattle.std.specs.Str.{bytes_eq}
use Rattle.std.specs.Char.{is_ascii_alphabetic, digit_value}
use Rattle.bstr.specs.Utf8.{decoded}
use Rattle.go_scan.specs.declared.escapes.Meaning.{Meaning}
use Rattle.go_scan.specs.declared.escapes.Meaning.TheVariants.{Byte}
use Rattle.go_scan.specs.declared.keyword.Keyword.{Keyword}
use Rattle.go_scan.specs.declared.keyword.Keyword.TheVariants as keywords
use Rattle.go_scan.specs.declared.punctuation.Punctuation.{Punctuation}
use Rattle.go_scan.specs.declared.punctuation.Punctuation.TheVariants as marks
use Rattle.go_scan.specs.declared.shape.Shape.{Shape}
use Rattle.go_scan.specs.declared.shape.Shape.TheVariants.{Blanks, LineComment, BlockComment, OpenComment, BadNumber, Word}
use Rattle.go_scan.specs.declared.token.TokenKind.{TokenKind}
use Rattle.go_scan.specs.declared.token.TokenKind.TheVariants as kinds
use Rattle.go_scan.specs.Comments.{is_in_line}
use Rattle.go_scan.specs.declared.escapes.Form.{Form}
use Rattle.go_scan.specs.declared.escapes.Form.TheVariants.{Octal, Two, Four, Eight}
use Rattle.go_scan.specs.Escapes.{escape_prefix, count, escape_base, means, letter_escape, escape_code, escape_bytes}
use Rattle.go_scan.specs.Keywords.{spelling}
use Rattle.go_scan.specs.Lex.{is_white_space}
use Rattle.go_scan.specs.Numbers.{begins_number, is_in_run, is_digit_of, is_integer_literal}
use Rattle.go_scan.specs.Punctuations.{punctuation_spelling}
use Rattle.go_scan.specs.Runes.{is_plain_rune}
use Rattle.go_scan.specs.Strings.{is_plain_byte, is_in_raw, is_kept}
use Rattle.go_scan.specs.Words.{is_letter, is_inside}

-- how many bytes steps over a text take, each of the size that f says, up to one of size 0; skip bytes are still of the step before
abbrev pub strides : (List ℕ → ℕ) → ℕ → List ℕ → ℕ
strides f skip [] = 0
strides f (suc k) (b ∷ bs) = 1 + strides f k bs
strides f zero (b ∷ bs) = elim (f (b ∷ bs)) [ zero ↦ 0 | suc k ↦ 1 + strides f k bs ]

-- how many bytes the first character takes, if there is one and it passes
abbrev pub char_size : (ℕ → Bool) → List ℕ → ℕ
char_size p text = elim (decoded text).char [ None ↦ 0 | Some c ↦ (if p c then (decoded text).size else 0) ]

abbrev pub all_keywords : List Keyword
all_keywords =
    keywords.Break ∷ keywords.Case ∷ keywords.Chan ∷ keywords.Const ∷ keywords.Continue ∷ keywords.Default ∷ keywords.Defer ∷ keywords.Else ∷ keywords.Fallthrough ∷ keywords.For ∷ keywords.Func ∷ keywords.Go ∷ keywords.Goto ∷ keywords.If ∷ keywords.Import ∷ keywords.Interface ∷ keywords.Map ∷ keywords.Package ∷ keywords.Range ∷ keywords.Return ∷ keywords.Select ∷ keywords.Struct ∷ keywords.Switch ∷ keywords.Type ∷ keywords.Var ∷ []

-- a keyword from its spelling
abbrev pub keyword_in : List ℕ → Option Keyword
keyword_in bytes = find (λ k. bytes_eq (spelling k) bytes) all_keywords

-- the keywords that begin with a byte
abbrev pub keywords_with : ℕ → List Keyword
keywords_with b =
    if nat_eq b 98 then keywords.Break ∷ []
    else (if nat_eq b 99 then keywords.Case ∷ keywords.Chan ∷ keywords.Const ∷ keywords.Continue ∷ []
    else (if nat_eq b 100 then keywords.Default ∷ keywords.Defer ∷ []
    else (if nat_eq b 101 then keywords.Else ∷ []
    else (if nat_eq b 102 then keywords.Fallthrough ∷ keywords.For ∷ keywords.Func ∷ []
    else (if nat_eq b 103 then keywords.Go ∷ keywords.Goto ∷ []
    else (if nat_eq b 105 then keywords.If ∷ keywords.Import ∷ keywords.Interface ∷ []
    else (if nat_eq b 109 then keywords.Map ∷ []
    else (if nat_eq b 112 then keywords.Package ∷ []
    else (if nat_eq b 114 then keywords.Range ∷ keywords.Return ∷ []
    else (if nat_eq b 115 then keywords.Select ∷ keywords.Struct ∷ keywords.Switch ∷ []
    else (if nat_eq b 116 then keywords.Type ∷ []
    else (if nat_eq b 118 then keywords.Var ∷ [] else []))))))))))))

abbrev pub word_kind : Option Keyword → TokenKind
word_kind None = kinds.Name
word_kind (Some k) = kinds.Keyword k

-- a word
abbrev pub word_of : ℕ → List ℕ → Option (Shape × ℕ)
word_of n text = Some (Word (word_kind (keyword_in (take n text))), n)

abbrev pub word_at : List ℕ → Option (Shape × ℕ)
word_at text = elim (char_size is_letter text) [ zero ↦ None | suc k ↦ word_of (strides (char_size is_inside) 0 text) text ]

-- a number, or what begins as one
abbrev pub run_shape : List ℕ → Shape
run_shape run = if is_integer_literal run then Word kinds.Integer else BadNumber

abbrev pub run_of : ℕ → List ℕ → Option (Shape × ℕ)
run_of n text = Some (run_shape (take n text), n)

abbrev pub run_at : List ℕ → Option (Shape × ℕ)
run_at text = run_of (prefix_len is_in_run text) text

-- the number that so many digits write, behind others of value n
abbrev pub digits_at : ℕ → ℕ → ℕ → List ℕ → Option ℕ
digits_at base zero n text = Some n
digits_at base (suc k) n [] = None
digits_at base (suc k) n (b ∷ bs) = if is_digit_of base b then digits_at base k (n * base + digit_value b) bs else None

-- an escape: its size and meaning
abbrev pub sized : ℕ → Option Meaning → Option (ℕ × Meaning)
sized n None = None
sized n (Some m) = Some (n, m)

abbrev pub front_meaning : Form → Option ℕ → Option (ℕ × Meaning)
front_meaning form None = None
front_meaning form (Some n) = sized (1 + length (escape_prefix form) + count form) (means form n)

abbrev pub number_escape_at : Form → List ℕ → Option (ℕ × Meaning)
number_escape_at form text = front_meaning form (digits_at (escape_base form) (count form) 0 text)

abbrev pub other_escape_at : ℕ → List ℕ → Option (ℕ × Meaning)
other_escape_at b bs =
    if nat_eq b 120 then number_escape_at Two bs
    else (if nat_eq b 117 then number_escape_at Four bs
    else (if nat_eq b 85 then number_escape_at Eight bs
    else number_escape_at Octal (b ∷ bs)))

-- what stands behind a backslash
abbrev pub escape_at : ℕ → List ℕ → Option (ℕ × Meaning)
escape_at quote [] = None
escape_at quote (b ∷ bs) = elim (letter_escape quote b) [ None ↦ other_escape_at b bs | Some c ↦ Some (2, Byte c) ]

-- a rune between its quotes: its size and code point
abbrev pub escaped_rune : Option (ℕ × Meaning) → Option (ℕ × ℕ)
escaped_rune None = None
escaped_rune (Some e) = Some (e.0, escape_code e.1)

abbrev pub plain_rune : ℕ → Option ℕ → Option (ℕ × ℕ)
plain_rune size None = None
plain_rune size (Some c) = if is_plain_rune c then Some (size, c) else None

abbrev pub rune_part_at : List ℕ → Option (ℕ × ℕ)
rune_part_at [] = None
rune_part_at (b ∷ bs) = if nat_eq b 92 then escaped_rune (escape_at 39 bs) else plain_rune (decoded (b ∷ bs)).size (decoded (b ∷ bs)).char

-- a literal that ends with this quote behind n bytes
abbrev pub closed_at : TokenKind → ℕ → List ℕ → ℕ → Option (Shape × ℕ)
closed_at kind quote rest n = if nat_eq (slice_index rest n) quote then Some (Word kind, n + 2) else None

abbrev pub rune_at : List ℕ → Option (Shape × ℕ)
rune_at rest = elim (rune_part_at rest) [ None ↦ None | Some part ↦ closed_at kinds.Rune 39 rest part.0 ]

-- a part of an interpreted string: its size and the bytes that it means
abbrev pub escaped_part : Option (ℕ × Meaning) → Option (ℕ × List ℕ)
escaped_part None = None
escaped_part (Some e) = Some (e.0, escape_bytes e.1)

abbrev pub part_at : List ℕ → Option (ℕ × List ℕ)
part_at [] = None
part_at (b ∷ bs) = if nat_eq b 92 then escaped_part (escape_at 34 bs) else (if is_plain_byte b then Some (1, b ∷ []) else None)

abbrev pub front_size : Option (ℕ × List ℕ) → ℕ
front_size None = 0
front_size (Some p) = p.0

abbrev pub part_size : List ℕ → ℕ
part_size text = front_size (part_at text)

-- what the parts mean
abbrev pub values : ℕ → List ℕ → List ℕ
values skip [] = []
values (suc k) (b ∷ bs) = values k bs
values zero (b ∷ bs) = elim (part_at (b ∷ bs)) [ None ↦ [] | Some p ↦ p.1 ++ values (p.0 - 1) bs ]

abbrev pub string_at : List ℕ → Option (Shape × ℕ)
string_at rest = closed_at kinds.String 34 rest (strides part_size 0 rest)

abbrev pub raw_at : List ℕ → Option (Shape × ℕ)
raw_at rest = closed_at kinds.String 96 rest (prefix_len is_in_raw rest)

-- how many bytes stand before the slash that closes a comment; a star came right before
abbrev pub before_close : Bool → List ℕ → ℕ
before_close star [] = 0
before_close true (b ∷ bs) = if nat_eq b 47 then 0 else 1 + before_close (nat_eq b 42) bs
before_close false (b ∷ bs) = 1 + before_close (nat_eq b 42) bs

abbrev pub block_shape : ℕ → List ℕ → Shape × ℕ
block_shape n rest = if nat_eq n (length rest) then (OpenComment, n + 2) else (BlockComment, n + 3)

abbrev pub all_punctuation : List Punctuation
all_punctuation =
    marks.Plus ∷ marks.Minus ∷ marks.Star ∷ marks.Slash ∷ marks.Percent ∷ marks.Ampersand ∷ marks.Pipe ∷ marks.Caret ∷ marks.ShiftLeft ∷ marks.ShiftRight ∷ marks.AndNot ∷ marks.PlusAssign ∷ marks.MinusAssign ∷ marks.StarAssign ∷ marks.SlashAssign ∷ marks.PercentAssign ∷ marks.AmpersandAssign ∷ marks.PipeAssign ∷ marks.CaretAssign ∷ marks.ShiftLeftAssign ∷ marks.ShiftRightAssign ∷ marks.AndNotAssign ∷ marks.LogicalAnd ∷ marks.LogicalOr ∷ marks.Arrow ∷ marks.Increment ∷ marks.Decrement ∷ marks.Equal ∷ marks.Less ∷ marks.Greater ∷ marks.Assign ∷ marks.Not ∷ marks.Tilde ∷ marks.NotEqual ∷ marks.LessOrEqual ∷ marks.GreaterOrEqual ∷ marks.Define ∷ marks.Ellipsis ∷ marks.OpenParenthesis ∷ marks.OpenBracket ∷ marks.OpenBrace ∷ marks.Comma ∷ marks.Period ∷ marks.CloseParenthesis ∷ marks.CloseBracket ∷ marks.CloseBrace ∷ marks.Semicolon ∷ marks.Colon ∷ []

-- operators and punctuation from their spelling
abbrev pub punctuation_in : List ℕ → Option Punctuation
punctuation_in bytes = find (λ p. bytes_eq (punctuation_spelling p) bytes) all_punctuation

-- those that begin with a byte
abbrev pub punctuation_with : ℕ → List Punctuation
punctuation_with b =
    if nat_eq b 43 then marks.Plus ∷ marks.PlusAssign ∷ marks.Increment ∷ []
    else (if nat_eq b 45 then marks.Minus ∷ marks.MinusAssign ∷ marks.Decrement ∷ []
    else (if nat_eq b 42 then marks.Star ∷ marks.StarAssign ∷ []
    else (if nat_eq b 47 then marks.Slash ∷ marks.SlashAssign ∷ []
    else (if nat_eq b 37 then marks.Percent ∷ marks.PercentAssign ∷ []
    else (if nat_eq b 38 then marks.Ampersand ∷ marks.AmpersandAssign ∷ marks.AndNot ∷ marks.AndNotAssign ∷ marks.LogicalAnd ∷ []
    else (if nat_eq b 124 then marks.Pipe ∷ marks.PipeAssign ∷ marks.LogicalOr ∷ []
    else (if nat_eq b 94 then marks.Caret ∷ marks.CaretAssign ∷ []
    else (if nat_eq b 60 then marks.Less ∷ marks.LessOrEqual ∷ marks.ShiftLeft ∷ marks.ShiftLeftAssign ∷ marks.Arrow ∷ []
    else (if nat_eq b 62 then marks.Greater ∷ marks.GreaterOrEqual ∷ marks.ShiftRight ∷ marks.ShiftRightAssign ∷ []
    else (if nat_eq b 61 then marks.Assign ∷ marks.Equal ∷ []
    else (if nat_eq b 33 then marks.Not ∷ marks.NotEqual ∷ []
    else (if nat_eq b 126 then marks.Tilde ∷ []
    else (if nat_eq b 58 then marks.Colon ∷ marks.Define ∷ []
    else (if nat_eq b 46 then marks.Period ∷ marks.Ellipsis ∷ []
    else (if nat_eq b 40 then marks.OpenParenthesis ∷ []
    else (if nat_eq b 91 then marks.OpenBracket ∷ []
    else (if nat_eq b 123 then marks.OpenBrace ∷ []
    else (if nat_eq b 44 then marks.Comma ∷ []
    else (if nat_eq b 41 then marks.CloseParenthesis ∷ []
    else (if nat_eq b 93 then marks.CloseBracket ∷ []
    else (if nat_eq b 125 then marks.CloseBrace ∷ []
    else (if nat_eq b 59 then marks.Semicolon ∷ [] else []))))))))))))))))))))))

-- the first of two, where there is one
abbrev pub first_front : Option (Shape × ℕ) → Option (Shape × ℕ) → Option (Shape × ℕ)
first_front None other = other
first_front (Some x) other = Some x

abbrev pub mark_of : List ℕ → Option (Shape × ℕ)
mark_of bytes = elim (punctuation_in bytes) [ None ↦ None | Some p ↦ Some (Word (kinds.Punctuation p), length bytes) ]

-- the longest of at most three bytes
abbrev pub mark_at : List ℕ → Option (Shape × ℕ)
mark_at text = first_front (mark_of (take 3 text)) (first_front (mark_of (take 2 text)) (mark_of (take 1 text)))

-- what a slash begins
abbrev pub slash_at : List ℕ → List ℕ → Option (Shape × ℕ)
slash_at text [] = mark_at text
slash_at text (b ∷ bs) =
    if nat_eq b 47 then Some (LineComment, prefix_len is_in_line bs + 2)
    else (if nat_eq b 42 then Some (block_shape (before_close false bs) bs)
    else mark_at text)

-- a byte that may begin a word
abbrev pub may_begin_word : ℕ → Bool
may_begin_word b = is_ascii_alphabetic b || (nat_eq b 95 || nat_le 128 b)

-- what a byte begins that begins no word, number or blank
abbrev pub other_at : ℕ → List ℕ → Option (Shape × ℕ)
other_at b bs =
    if nat_eq b 34 then string_at bs
    else (if nat_eq b 96 then raw_at bs
    else (if nat_eq b 39 then rune_at bs
    else (if nat_eq b 47 then slash_at (b ∷ bs) bs
    else mark_at (b ∷ bs))))

abbrev pub no_word_at : ℕ → List ℕ → Option (Shape × ℕ)
no_word_at b bs = if begins_number (b ∷ bs) then run_at (b ∷ bs) else other_at b bs

abbrev pub no_blank_at : ℕ → List ℕ → Option (Shape × ℕ)
no_blank_at b bs = if may_begin_word b then word_at (b ∷ bs) else no_word_at b bs

-- what a text begins with, and how many bytes it takes
abbrev pub front : List ℕ → Option (Shape × ℕ)
front [] = None
front (b ∷ bs) = if is_white_space b then Some (Blanks, prefix_len is_white_space (b ∷ bs)) else no_blank_at b bs

-- what is found takes so many bytes
abbrev pub is_whole : ℕ → Option (Shape × ℕ) → Bool
is_whole n None = false
is_whole n (Some p) = nat_eq p.1 n

-- all the bytes are a rune literal, or a string literal
abbrev pub is_rune : List ℕ → Bool
is_rune [] = false
is_rune (b ∷ bs) = is_whole (length bs + 1) (if nat_eq b 39 then rune_at bs else None)

abbrev pub is_string_front : List ℕ → Bool
is_string_front [] = false
is_string_front (b ∷ bs) = is_whole (length bs + 1) (if nat_eq b 34 then string_at bs else (if nat_eq b 96 then raw_at bs else None))

-- the values of literals, and 0 and no bytes for what is none
abbrev pub code_or_zero : Option (ℕ × ℕ) → ℕ
code_or_zero None = 0
code_or_zero (Some p) = p.1

abbrev pub rune_meaning : List ℕ → ℕ
rune_meaning bytes = code_or_zero (rune_part_at (drop 1 bytes))

abbrev pub rune_value_of : List ℕ → ℕ
rune_value_of bytes = if is_rune bytes then rune_meaning bytes else 0

abbrev pub string_meaning : List ℕ → List ℕ
string_meaning [] = []
string_meaning (b ∷ bs) = if nat_eq b 34 then values 0 bs else filter is_kept (take (prefix_len is_in_raw bs) bs)

abbrev pub string_value_of : List ℕ → List ℕ
string_value_of bytes = if is_string_front bytes then string_meaning bytes else []
