-- What an edition leaves out of Go, by the tokens that could stand in its place: docs/GRAMMAR.md has the table in words.
use Rattle.std.specs.Prelude.{◌≡◌, ℕ, Bool, true, false, ◌⊎◌, List, [], ◌∷◌, ◌++◌}
use Rattle.go_text.specs.declared.edition.Edition.{Edition}
use Rattle.go_scan.specs.declared.token.TokenKind.{TokenKind}
use Rattle.go_scan.specs.declared.token.TokenKind.TheVariants as kinds
use Rattle.go_scan.specs.declared.keyword.Keyword.{Keyword}
use Rattle.go_scan.specs.declared.keyword.Keyword.TheVariants as keywords
use Rattle.go_scan.specs.declared.punctuation.Punctuation.TheVariants as marks
use Rattle.go_ast.specs.Grammar.{Lexeme, Begins, assign, opening, closing, opening_bracket, closing_bracket, opening_brace, closing_brace, comma, period, semicolon, colon}

-- tokens that belong to what is left out, wherever they stand
abbrev pub is_never_read : TokenKind → Bool
is_never_read (kinds.Keyword keywords.Chan) = true
is_never_read (kinds.Keyword keywords.Defer) = true
is_never_read (kinds.Keyword keywords.Go) = true
is_never_read (kinds.Keyword keywords.Goto) = true
is_never_read (kinds.Keyword keywords.Interface) = true
is_never_read (kinds.Keyword keywords.Map) = true
is_never_read (kinds.Keyword keywords.Select) = true
is_never_read (kinds.Punctuation marks.Arrow) = true
is_never_read (kinds.Punctuation marks.Ellipsis) = true
is_never_read (kinds.Punctuation marks.Tilde) = true
is_never_read _ = false

-- function literals and types, and pointers
abbrev pub begins_left_out : TokenKind → Bool
begins_left_out (kinds.Keyword keywords.Func) = true
begins_left_out (kinds.Punctuation marks.Star) = true
begins_left_out (kinds.Punctuation marks.Ampersand) = true
begins_left_out _ = false

-- tokens of these kinds, one after another
abbrev pub AreOf : List TokenKind → List Lexeme → Type 0
AreOf [] ts = ts ≡ []
AreOf (k ∷ ks) [] = ⊥
AreOf (k ∷ ks) (t ∷ ts) = (t.kind ≡ k) × AreOf ks ts

-- behind these tokens a file may go on with some of these kinds, however deep
abbrev pub May : Edition → List Lexeme → List TokenKind → Type 0
May e good ks = (ts : List Lexeme) × AreOf ks ts × (levels : ℕ) × Begins e levels (good ++ ts)

-- the last of these tokens are of these kinds, and the others are front
abbrev pub EndsIn : List Lexeme → List Lexeme → List TokenKind → Type 0
EndsIn good front ks = (back : List Lexeme) × (good ≡ front ++ back) × AreOf ks back

abbrev pub word : Keyword → TokenKind
word k = kinds.Keyword k

-- behind the tokens `good` a token of kind k may not come, and belongs to what is left out
pub data LeftOut (e : Edition) (good : List Lexeme) (k : TokenKind) : Type 0 where
  -- channels, goroutines, maps, .. : wherever they stand
  anywhere : is_never_read k ≡ true → LeftOut e good k
  -- function values and pointers, where an operand or a type may begin, as `struct` begins both
  pointer : begins_left_out k ≡ true → May e good (word keywords.Struct ∷ []) → LeftOut e good k
  -- a type in parentheses
  parenthesized_type : k ≡ opening → May e good (word keywords.Struct ∷ []) → LeftOut e good k
  -- methods and type parameters of functions
  method : (front : List Lexeme) → k ≡ opening → EndsIn good front (word keywords.Func ∷ []) → LeftOut e good k
  generic : (front : List Lexeme) → k ≡ opening_bracket → EndsIn good front (word keywords.Func ∷ []) → LeftOut e good k
  generic_function : (front : List Lexeme) → k ≡ opening_bracket → EndsIn good front (word keywords.Func ∷ kinds.Name ∷ []) → LeftOut e good k
  -- slices, and what has no length
  slice : (front : List Lexeme) → k ≡ closing_bracket → EndsIn good front (opening_bracket ∷ []) → LeftOut e good k
  -- slice expressions, and a capacity in them: the bracket closes here, behind which a period may come, or could behind an operand
  slice_end : k ≡ colon → May e good (closing_bracket ∷ period ∷ []) → LeftOut e good k
  slice_start : (front : List Lexeme) → k ≡ colon → EndsIn good front (opening_bracket ∷ []) → May e good (kinds.Integer ∷ closing_bracket ∷ period ∷ []) →
      LeftOut e good k
  -- labels: the last token is a name, in whose place a `return` could stand
  label : (front : List Lexeme) → k ≡ colon → EndsIn good front (kinds.Name ∷ []) → May e front (word keywords.Return ∷ []) → LeftOut e good k
  jump_label : (front : List Lexeme) → k ≡ kinds.Name → (EndsIn good front (word keywords.Break ∷ []) ⊎ EndsIn good front (word keywords.Continue ∷ [])) →
      LeftOut e good k
  -- keys of elements: only behind an element a comma and a brace may come
  key : k ≡ colon → May e good (comma ∷ opening_brace ∷ []) → LeftOut e good k
  -- type assertions
  assertion : (front : List Lexeme) → k ≡ opening → EndsIn good front (period ∷ []) → LeftOut e good k
  -- aliases: the last token is a name, whose type comes next, and no other name
  alias : (front : List Lexeme) → k ≡ assign → EndsIn good front (kinds.Name ∷ []) → May e good (word keywords.Struct ∷ []) → (May e good (comma ∷ []) → ⊥) →
      LeftOut e good k
  -- types that are declared in functions, in the place of a statement
  local_type : k ≡ word keywords.Type → May e good (word keywords.Return ∷ []) → LeftOut e good k
  -- dot imports, and the string "C" where another may come: a name or a string may begin an import, and a number doesn't
  dot_import : k ≡ period → May e good (kinds.Name ∷ []) → May e good (kinds.String ∷ []) → (May e good (kinds.Integer ∷ []) → ⊥) → LeftOut e good k
  cgo : k ≡ kinds.String → May e good (kinds.String ∷ []) → LeftOut e good k
  -- the range that assigns
  range : (front : List Lexeme) → k ≡ word keywords.Range → EndsIn good front (assign ∷ []) → LeftOut e good k
  -- parameters without names: the last token is a name, behind which a type and a comma may come
  unnamed : (front : List Lexeme) → k ≡ closing → EndsIn good front (kinds.Name ∷ []) → May e good (kinds.Name ∷ comma ∷ []) → LeftOut e good k
  -- tags of fields: the struct may end, and another field may come
  tag : k ≡ kinds.String → May e good (closing_brace ∷ []) → May e good (semicolon ∷ kinds.Name ∷ word keywords.Struct ∷ []) → LeftOut e good k
  -- named results: behind a result a comma, an empty struct and a parenthesis may come
  named_result : ((k ≡ kinds.Name) ⊎ (k ≡ opening_bracket) ⊎ (k ≡ word keywords.Struct)) →
      May e good (comma ∷ word keywords.Struct ∷ opening_brace ∷ closing_brace ∷ closing ∷ []) → LeftOut e good k
