-- Keywords and punctuation from their spelling.
use Rattle.std.proofs.Common.{◌≡◌, ℕ, ◌+◌, ◌≤◌, ◌<◌, Bool, true, false, cond, List, [], ◌∷◌, length, drop, get_or, Option, Some, None, refl, sym, ap, ◌∙◌, subst, arith}
use Rattle.std.specs.List.{find}
use Rattle.std.specs.Str.{bytes_eq}
use Rattle.std.proofs.lemmas.List.{at_drop_more}
use Rattle.std.proofs.lemmas.Slice.Eq.{bytes_eq-Decides}
use Rattle.go_scan.specs.declared.punctuation.Punctuation.{Punctuation}
use Rattle.go_scan.specs.declared.punctuation.Punctuation.TheVariants as marks
use Rattle.go_scan.specs.declared.keyword.Keyword.{Keyword}
use Rattle.go_scan.specs.declared.keyword.Keyword.TheVariants as keywords
use Rattle.go_scan.specs.Punctuations.{punctuation_spelling, IsNoPunctuation}
use Rattle.go_scan.specs.Keywords.{spelling, IsNoKeyword}
use Rattle.go_scan.specs.Fronts.{all_keywords, keyword_in, keywords_with, all_punctuation, punctuation_in, punctuation_with}

pub is_found : (k : Keyword) → keyword_in (spelling k) ≡ Some k
is_found keywords.Break = refl
is_found keywords.Case = refl
is_found keywords.Chan = refl
is_found keywords.Const = refl
is_found keywords.Continue = refl
is_found keywords.Default = refl
is_found keywords.Defer = refl
is_found keywords.Else = refl
is_found keywords.Fallthrough = refl
is_found keywords.For = refl
is_found keywords.Func = refl
is_found keywords.Go = refl
is_found keywords.Goto = refl
is_found keywords.If = refl
is_found keywords.Import = refl
is_found keywords.Interface = refl
is_found keywords.Map = refl
is_found keywords.Package = refl
is_found keywords.Range = refl
is_found keywords.Return = refl
is_found keywords.Select = refl
is_found keywords.Struct = refl
is_found keywords.Switch = refl
is_found keywords.Type = refl
is_found keywords.Var = refl

-- keywords differ in their spelling
pub keyword_of_spelling : (j k : Keyword) → spelling j ≡ spelling k → j ≡ k
keyword_of_spelling j k e = let both : Some j ≡ Some k = sym (is_found j) ∙ ap keyword_in e ∙ is_found k in cc (both)

-- what a search finds passes its test
found_passes : {A : Type 0} (p : A → Bool) (xs : List A) (a : A) → find p xs ≡ Some a → p a ≡ true
found_passes p [] a e = cc
found_passes p (x ∷ xs) a e = by_test (p x) refl (found_passes p xs a) e
  where
    by_test : (c : Bool) → p x ≡ c → (find p xs ≡ Some a → p a ≡ true) → cond c (Some x) (find p xs) ≡ Some a → p a ≡ true
    by_test true t next q = let same : x ≡ a = cc in subst (λ y. p y ≡ true) same t
    by_test false t next q = next q

-- a search goes on behind what doesn't pass
pub find_step : {A : Type 0} (p : A → Bool) (xs : List A) (i : ℕ) (default : A) (o : Option A) → i < length xs → p (get_or xs i default) ≡ false → find p (drop i xs) ≡ o → find p (drop (i + 1) xs) ≡ o
find_step p xs i default o less e before =
    sym (at_drop_more (find p) xs i default less ∙ ap (λ t. cond t (Some (get_or xs i default)) (find p (drop (i + 1) xs))) e) ∙ before

pub keyword_found : (bytes : List ℕ) (k : Keyword) → keyword_in bytes ≡ Some k → bytes ≡ spelling k
keyword_found bytes k e = sym ((bytes_eq-Decides (spelling k) bytes).0 (found_passes (λ j. bytes_eq (spelling j) bytes) all_keywords k e))

pub keyword_missed : (bytes : List ℕ) → keyword_in bytes ≡ None → IsNoKeyword bytes
keyword_missed bytes e k same = let both : None ≡ Some k = sym e ∙ ap keyword_in same ∙ is_found k in cc (both)

pub no_keyword_in : (bytes : List ℕ) → IsNoKeyword bytes → keyword_in bytes ≡ None
no_keyword_in bytes never = by_found (keyword_in bytes) refl
  where
    by_found : (o : Option Keyword) → keyword_in bytes ≡ o → o ≡ None
    by_found None e = refl
    by_found (Some k) e = absurd (never k (keyword_found bytes k e))

pub keyword_some : (bytes : List ℕ) (k : Keyword) → bytes ≡ spelling k → keyword_in bytes ≡ Some k
keyword_some bytes k e = ap keyword_in e ∙ is_found k

-- a keyword is found among those that begin with its first byte
keyword_by_first : (k : Keyword) → find (λ j. bytes_eq (spelling j) (spelling k)) (keywords_with (get_or (spelling k) 0 0)) ≡ Some k
keyword_by_first keywords.Break = refl
keyword_by_first keywords.Case = refl
keyword_by_first keywords.Chan = refl
keyword_by_first keywords.Const = refl
keyword_by_first keywords.Continue = refl
keyword_by_first keywords.Default = refl
keyword_by_first keywords.Defer = refl
keyword_by_first keywords.Else = refl
keyword_by_first keywords.Fallthrough = refl
keyword_by_first keywords.For = refl
keyword_by_first keywords.Func = refl
keyword_by_first keywords.Go = refl
keyword_by_first keywords.Goto = refl
keyword_by_first keywords.If = refl
keyword_by_first keywords.Import = refl
keyword_by_first keywords.Interface = refl
keyword_by_first keywords.Map = refl
keyword_by_first keywords.Package = refl
keyword_by_first keywords.Range = refl
keyword_by_first keywords.Return = refl
keyword_by_first keywords.Select = refl
keyword_by_first keywords.Struct = refl
keyword_by_first keywords.Switch = refl
keyword_by_first keywords.Type = refl
keyword_by_first keywords.Var = refl

-- it is enough to look among those that begin with a word's first byte
pub keyword_among : (word : List ℕ) → find (λ j. bytes_eq (spelling j) word) (keywords_with (get_or word 0 0)) ≡ keyword_in word
keyword_among word = by_all (keyword_in word) refl
  where
    among : Option Keyword
    among = find (λ j. bytes_eq (spelling j) word) (keywords_with (get_or word 0 0))

    passes : (k : Keyword) → among ≡ Some k → keyword_in word ≡ Some k
    passes k e = keyword_some word k (sym ((bytes_eq-Decides (spelling k) word).0 (found_passes (λ j. bytes_eq (spelling j) word) (keywords_with (get_or word 0 0)) k e)))

    by_among : (o : Option Keyword) → among ≡ o → keyword_in word ≡ None → among ≡ None
    by_among None e none = e
    by_among (Some k) e none = let both : None ≡ Some k = sym none ∙ passes k e in cc (both)

    by_all : (o : Option Keyword) → keyword_in word ≡ o → among ≡ o
    by_all None e = by_among among refl e
    by_all (Some k) e = ap (λ ys. find (λ j. bytes_eq (spelling j) ys) (keywords_with (get_or ys 0 0))) (keyword_found word k e) ∙ keyword_by_first k

pub is_found_mark : (p : Punctuation) → punctuation_in (punctuation_spelling p) ≡ Some p
is_found_mark marks.Plus = refl
is_found_mark marks.Minus = refl
is_found_mark marks.Star = refl
is_found_mark marks.Slash = refl
is_found_mark marks.Percent = refl
is_found_mark marks.Ampersand = refl
is_found_mark marks.Pipe = refl
is_found_mark marks.Caret = refl
is_found_mark marks.ShiftLeft = refl
is_found_mark marks.ShiftRight = refl
is_found_mark marks.AndNot = refl
is_found_mark marks.PlusAssign = refl
is_found_mark marks.MinusAssign = refl
is_found_mark marks.StarAssign = refl
is_found_mark marks.SlashAssign = refl
is_found_mark marks.PercentAssign = refl
is_found_mark marks.AmpersandAssign = refl
is_found_mark marks.PipeAssign = refl
is_found_mark marks.CaretAssign = refl
is_found_mark marks.ShiftLeftAssign = refl
is_found_mark marks.ShiftRightAssign = refl
is_found_mark marks.AndNotAssign = refl
is_found_mark marks.LogicalAnd = refl
is_found_mark marks.LogicalOr = refl
is_found_mark marks.Arrow = refl
is_found_mark marks.Increment = refl
is_found_mark marks.Decrement = refl
is_found_mark marks.Equal = refl
is_found_mark marks.Less = refl
is_found_mark marks.Greater = refl
is_found_mark marks.Assign = refl
is_found_mark marks.Not = refl
is_found_mark marks.Tilde = refl
is_found_mark marks.NotEqual = refl
is_found_mark marks.LessOrEqual = refl
is_found_mark marks.GreaterOrEqual = refl
is_found_mark marks.Define = refl
is_found_mark marks.Ellipsis = refl
is_found_mark marks.OpenParenthesis = refl
is_found_mark marks.OpenBracket = refl
is_found_mark marks.OpenBrace = refl
is_found_mark marks.Comma = refl
is_found_mark marks.Period = refl
is_found_mark marks.CloseParenthesis = refl
is_found_mark marks.CloseBracket = refl
is_found_mark marks.CloseBrace = refl
is_found_mark marks.Semicolon = refl
is_found_mark marks.Colon = refl

-- so do operators and punctuation
pub punctuation_of_spelling : (p q : Punctuation) → punctuation_spelling p ≡ punctuation_spelling q → p ≡ q
punctuation_of_spelling p q e = let both : Some p ≡ Some q = sym (is_found_mark p) ∙ ap punctuation_in e ∙ is_found_mark q in cc (both)

pub punctuation_found : (bytes : List ℕ) (p : Punctuation) → punctuation_in bytes ≡ Some p → bytes ≡ punctuation_spelling p
punctuation_found bytes p e = sym ((bytes_eq-Decides (punctuation_spelling p) bytes).0 (found_passes (λ q. bytes_eq (punctuation_spelling q) bytes) all_punctuation p e))

pub punctuation_missed : (bytes : List ℕ) → punctuation_in bytes ≡ None → IsNoPunctuation bytes
punctuation_missed bytes e p same = let both : None ≡ Some p = sym e ∙ ap punctuation_in same ∙ is_found_mark p in cc (both)

pub no_punctuation_in : (bytes : List ℕ) → IsNoPunctuation bytes → punctuation_in bytes ≡ None
no_punctuation_in bytes never = by_found (punctuation_in bytes) refl
  where
    by_found : (o : Option Punctuation) → punctuation_in bytes ≡ o → o ≡ None
    by_found None e = refl
    by_found (Some p) e = absurd (never p (punctuation_found bytes p e))

pub punctuation_some : (bytes : List ℕ) (p : Punctuation) → bytes ≡ punctuation_spelling p → punctuation_in bytes ≡ Some p
punctuation_some bytes p e = ap punctuation_in e ∙ is_found_mark p

-- an operator or a punctuation is found among those that begin with its first byte
mark_by_first : (k : Punctuation) → find (λ j. bytes_eq (punctuation_spelling j) (punctuation_spelling k)) (punctuation_with (get_or (punctuation_spelling k) 0 0)) ≡ Some k
mark_by_first marks.Plus = refl
mark_by_first marks.Minus = refl
mark_by_first marks.Star = refl
mark_by_first marks.Slash = refl
mark_by_first marks.Percent = refl
mark_by_first marks.Ampersand = refl
mark_by_first marks.Pipe = refl
mark_by_first marks.Caret = refl
mark_by_first marks.ShiftLeft = refl
mark_by_first marks.ShiftRight = refl
mark_by_first marks.AndNot = refl
mark_by_first marks.PlusAssign = refl
mark_by_first marks.MinusAssign = refl
mark_by_first marks.StarAssign = refl
mark_by_first marks.SlashAssign = refl
mark_by_first marks.PercentAssign = refl
mark_by_first marks.AmpersandAssign = refl
mark_by_first marks.PipeAssign = refl
mark_by_first marks.CaretAssign = refl
mark_by_first marks.ShiftLeftAssign = refl
mark_by_first marks.ShiftRightAssign = refl
mark_by_first marks.AndNotAssign = refl
mark_by_first marks.LogicalAnd = refl
mark_by_first marks.LogicalOr = refl
mark_by_first marks.Arrow = refl
mark_by_first marks.Increment = refl
mark_by_first marks.Decrement = refl
mark_by_first marks.Equal = refl
mark_by_first marks.Less = refl
mark_by_first marks.Greater = refl
mark_by_first marks.Assign = refl
mark_by_first marks.Not = refl
mark_by_first marks.Tilde = refl
mark_by_first marks.NotEqual = refl
mark_by_first marks.LessOrEqual = refl
mark_by_first marks.GreaterOrEqual = refl
mark_by_first marks.Define = refl
mark_by_first marks.Ellipsis = refl
mark_by_first marks.OpenParenthesis = refl
mark_by_first marks.OpenBracket = refl
mark_by_first marks.OpenBrace = refl
mark_by_first marks.Comma = refl
mark_by_first marks.Period = refl
mark_by_first marks.CloseParenthesis = refl
mark_by_first marks.CloseBracket = refl
mark_by_first marks.CloseBrace = refl
mark_by_first marks.Semicolon = refl
mark_by_first marks.Colon = refl

-- it is enough to look among those that begin with a word's first byte
pub mark_among : (word : List ℕ) → find (λ j. bytes_eq (punctuation_spelling j) word) (punctuation_with (get_or word 0 0)) ≡ punctuation_in word
mark_among word = by_all (punctuation_in word) refl
  where
    among : Option Punctuation
    among = find (λ j. bytes_eq (punctuation_spelling j) word) (punctuation_with (get_or word 0 0))

    passes : (k : Punctuation) → among ≡ Some k → punctuation_in word ≡ Some k
    passes k e = punctuation_some word k (sym ((bytes_eq-Decides (punctuation_spelling k) word).0 (found_passes (λ j. bytes_eq (punctuation_spelling j) word) (punctuation_with (get_or word 0 0)) k e)))

    by_among : (o : Option Punctuation) → among ≡ o → punctuation_in word ≡ None → among ≡ None
    by_among None e none = e
    by_among (Some k) e none = let both : None ≡ Some k = sym none ∙ passes k e in cc (both)

    by_all : (o : Option Punctuation) → punctuation_in word ≡ o → among ≡ o
    by_all None e = by_among among refl e
    by_all (Some k) e = ap (λ ys. find (λ j. bytes_eq (punctuation_spelling j) ys) (punctuation_with (get_or ys 0 0))) (punctuation_found word k e) ∙ mark_by_first k

-- punctuation has one to three bytes
pub mark_size : (p : Punctuation) → (1 ≤ length (punctuation_spelling p)) × (length (punctuation_spelling p) ≤ 3)
mark_size marks.Plus = (omega arith, omega arith)
mark_size marks.Minus = (omega arith, omega arith)
mark_size marks.Star = (omega arith, omega arith)
mark_size marks.Slash = (omega arith, omega arith)
mark_size marks.Percent = (omega arith, omega arith)
mark_size marks.Ampersand = (omega arith, omega arith)
mark_size marks.Pipe = (omega arith, omega arith)
mark_size marks.Caret = (omega arith, omega arith)
mark_size marks.ShiftLeft = (omega arith, omega arith)
mark_size marks.ShiftRight = (omega arith, omega arith)
mark_size marks.AndNot = (omega arith, omega arith)
mark_size marks.PlusAssign = (omega arith, omega arith)
mark_size marks.MinusAssign = (omega arith, omega arith)
mark_size marks.StarAssign = (omega arith, omega arith)
mark_size marks.SlashAssign = (omega arith, omega arith)
mark_size marks.PercentAssign = (omega arith, omega arith)
mark_size marks.AmpersandAssign = (omega arith, omega arith)
mark_size marks.PipeAssign = (omega arith, omega arith)
mark_size marks.CaretAssign = (omega arith, omega arith)
mark_size marks.ShiftLeftAssign = (omega arith, omega arith)
mark_size marks.ShiftRightAssign = (omega arith, omega arith)
mark_size marks.AndNotAssign = (omega arith, omega arith)
mark_size marks.LogicalAnd = (omega arith, omega arith)
mark_size marks.LogicalOr = (omega arith, omega arith)
mark_size marks.Arrow = (omega arith, omega arith)
mark_size marks.Increment = (omega arith, omega arith)
mark_size marks.Decrement = (omega arith, omega arith)
mark_size marks.Equal = (omega arith, omega arith)
mark_size marks.Less = (omega arith, omega arith)
mark_size marks.Greater = (omega arith, omega arith)
mark_size marks.Assign = (omega arith, omega arith)
mark_size marks.Not = (omega arith, omega arith)
mark_size marks.Tilde = (omega arith, omega arith)
mark_size marks.NotEqual = (omega arith, omega arith)
mark_size marks.LessOrEqual = (omega arith, omega arith)
mark_size marks.GreaterOrEqual = (omega arith, omega arith)
mark_size marks.Define = (omega arith, omega arith)
mark_size marks.Ellipsis = (omega arith, omega arith)
mark_size marks.OpenParenthesis = (omega arith, omega arith)
mark_size marks.OpenBracket = (omega arith, omega arith)
mark_size marks.OpenBrace = (omega arith, omega arith)
mark_size marks.Comma = (omega arith, omega arith)
mark_size marks.Period = (omega arith, omega arith)
mark_size marks.CloseParenthesis = (omega arith, omega arith)
mark_size marks.CloseBracket = (omega arith, omega arith)
mark_size marks.CloseBrace = (omega arith, omega arith)
mark_size marks.Semicolon = (omega arith, omega arith)
mark_size marks.Colon = (omega arith, omega arith)
