-- What a text begins with is what the definitions find.
use Rattle.std.proofs.Common.{◌≡◌, ℕ, ◌+◌, ◌≤◌, inl, inr, suc, Bool, true, false, cond, not, ◌||◌, ◌&&◌, nat_eq, List, [], ◌∷◌, ◌++◌, length, get_or, take, drop, Option, Some, None, refl, sym, ap, ◌∙◌, subst, arith, one-add, append_assoc, length-append, length-take, take-append-drop, eqb-true}
use Rattle.std.specs.Prelude.{IfSome}
use Rattle.std.specs.List.{list_all, prefix_len, flat_map}
use Rattle.std.specs.Char.{is_ascii_digit}
use Rattle.std.proofs.lemmas.Bool.Decides.{nat_tests}
use Rattle.go_scan.specs.declared.punctuation.Punctuation.{Punctuation}
use Rattle.go_scan.specs.declared.punctuation.Punctuation.TheVariants as marks
use Rattle.go_scan.specs.declared.shape.Shape.{Shape}
use Rattle.go_scan.specs.declared.shape.Shape.TheVariants.{Blanks, LineComment, BlockComment, OpenComment, BadNumber, Word}
use Rattle.go_scan.specs.declared.token.TokenKind.TheVariants as kinds
use Rattle.go_scan.specs.Comments.{is_in_line}
use Rattle.go_scan.specs.Numbers.{begins_number, is_in_run}
use Rattle.go_scan.specs.Punctuations.{punctuation_spelling}
use Rattle.go_scan.specs.Strings.{Part}
use Rattle.go_scan.specs.Words.{IsWord}
use Rattle.go_scan.specs.Lex.{is_white_space, Spells, Piece, Begins, BeginsNone}
use Rattle.go_scan.specs.Fronts.{word_kind, word_at, run_at, string_at, raw_at, rune_at, before_close, block_shape, mark_at, slash_at, may_begin_word, other_at, no_word_at, no_blank_at, front}
use Rattle.go_scan.proofs.Keys.{no_keyword_in, keyword_some}
use Rattle.go_scan.proofs.Runs.{and_left, and_right, run_le, run_all, run_some, Good, good_if, Fits}
use Rattle.go_scan.proofs.WordFronts.{word_good, word_fits, word_first, keyword_is_word}
use Rattle.go_scan.proofs.NumberFronts.{begins_on, number_no_word, number_no_blank, digit_in_run, run_good, run_fits, run_begin}
use Rattle.go_scan.proofs.CommentFronts.{line_good, line_fits, block_good, block_fits, open_fits}
use Rattle.go_scan.proofs.LiteralFronts.{rune_good, rune_fits, raw_good, raw_fits, string_good, string_fits}
use Rattle.go_scan.proofs.MarkFronts.{mark_good, mark_fits}

-- what is found is spelled so
blanks_good : (b : ℕ) (bs : List ℕ) → is_white_space b ≡ true → Good (b ∷ bs) (Some (Blanks, prefix_len is_white_space (b ∷ bs)))
blanks_good b bs e =
    let all = run_all is_white_space (b ∷ bs) in
    let size : prefix_len is_white_space (b ∷ bs) ≡ suc (prefix_len is_white_space bs) = ap (λ x. cond x (1 + prefix_len is_white_space bs) 0) e ∙ one-add (prefix_len is_white_space bs) in
    let front : take (prefix_len is_white_space (b ∷ bs)) (b ∷ bs) ≡ b ∷ take (prefix_len is_white_space bs) bs = ap (λ k. take k (b ∷ bs)) size in
    ((b, take (prefix_len is_white_space bs) bs, front, ap (list_all is_white_space) (sym front) ∙ all.0), run_some is_white_space b bs e, all.1)

slash_good : (bs : List ℕ) → Good (47 ∷ bs) (slash_at (47 ∷ bs) bs)
slash_good [] = mark_good (47 ∷ [])
slash_good (b ∷ bs) =
    good_if (47 ∷ b ∷ bs) (nat_eq b 47) _ _ (λ t. subst (λ x. Good (47 ∷ x ∷ bs) (Some (LineComment, prefix_len is_in_line bs + 2))) (sym (eqb-true b 47 t)) (line_good bs)) (λ _.
    good_if (47 ∷ b ∷ bs) (nat_eq b 42) _ _ (λ t. subst (λ x. Good (47 ∷ x ∷ bs) (Some (block_shape (before_close false bs) bs))) (sym (eqb-true b 42 t)) (block_good bs)) (λ _.
    mark_good (47 ∷ b ∷ bs)))

other_good : (b : ℕ) (bs : List ℕ) → Good (b ∷ bs) (other_at b bs)
other_good b bs =
    good_if (b ∷ bs) (nat_eq b 34) _ _ (λ t. subst (λ x. Good (x ∷ bs) (string_at bs)) (sym (eqb-true b 34 t)) (string_good bs)) (λ _.
    good_if (b ∷ bs) (nat_eq b 96) _ _ (λ t. subst (λ x. Good (x ∷ bs) (raw_at bs)) (sym (eqb-true b 96 t)) (raw_good bs)) (λ _.
    good_if (b ∷ bs) (nat_eq b 39) _ _ (λ t. subst (λ x. Good (x ∷ bs) (rune_at bs)) (sym (eqb-true b 39 t)) (rune_good bs)) (λ _.
    good_if (b ∷ bs) (nat_eq b 47) _ _ (λ t. subst (λ x. Good (x ∷ bs) (slash_at (x ∷ bs) bs)) (sym (eqb-true b 47 t)) (slash_good bs)) (λ _.
    mark_good (b ∷ bs)))))

pub good : (text : List ℕ) → Good text (front text)
good [] = tt
good (b ∷ bs) =
    good_if (b ∷ bs) (is_white_space b) _ _ (λ t. blanks_good b bs t) (λ _.
    good_if (b ∷ bs) (may_begin_word b) _ _ (λ _. word_good (b ∷ bs)) (λ _.
    good_if (b ∷ bs) (begins_number (b ∷ bs)) _ _ (λ t. run_good b bs t) (λ _.
    other_good b bs)))

-- where each family of pieces is found
front_word : (text : List ℕ) → 1 ≤ length text → may_begin_word (get_or text 0 0) ≡ true → front text ≡ word_at text
front_word [] some e = absurd (omega arith)
front_word (b ∷ bs) some e = ap (λ x. cond x (Some (Blanks, prefix_len is_white_space (b ∷ bs))) (no_blank_at b bs)) (no_blank b e) ∙ ap (λ x. cond x (word_at (b ∷ bs)) (no_word_at b bs)) e
  where
    no_blank : (b : ℕ) → may_begin_word b ≡ true → is_white_space b ≡ false
    no_blank b e = grind (arith, nat_tests)

front_run : (text : List ℕ) → begins_number text ≡ true → front text ≡ run_at text
front_run [] e = cc
front_run (b ∷ bs) e =
    ap (λ x. cond x (Some (Blanks, prefix_len is_white_space (b ∷ bs))) (no_blank_at b bs)) (number_no_blank b bs e)
    ∙ ap (λ x. cond x (word_at (b ∷ bs)) (no_word_at b bs)) (number_no_word b bs e)
    ∙ ap (λ x. cond x (run_at (b ∷ bs)) (other_at b bs)) e

-- the bytes that begin punctuation alone
abbrev is_plain_mark : ℕ → Bool
is_plain_mark b = not (is_white_space b) && (not (may_begin_word b) && (not (is_ascii_digit b) && (not (nat_eq b 46) && (not (nat_eq b 34) && (not (nat_eq b 96) && (not (nat_eq b 39) && not (nat_eq b 47)))))))

not_false : (x : Bool) → not x ≡ true → x ≡ false
not_false true e = sym e
not_false false e = refl

no_number : (b : ℕ) (bs : List ℕ) → is_ascii_digit b ≡ false → nat_eq b 46 ≡ false → begins_number (b ∷ bs) ≡ false
no_number b [] d e = d
no_number b (c ∷ bs) d e = ap (λ x. x || (nat_eq b 46 && is_ascii_digit c)) d ∙ ap (λ x. x && is_ascii_digit c) e

plain_front : (b : ℕ) (bs : List ℕ) → is_plain_mark b ≡ true → front (b ∷ bs) ≡ mark_at (b ∷ bs)
plain_front b bs e =
    let blank = and_left (not (is_white_space b)) _ e in
    let e1 = and_right (not (is_white_space b)) _ e in
    let word = and_left (not (may_begin_word b)) _ e1 in
    let e2 = and_right (not (may_begin_word b)) _ e1 in
    let digit = and_left (not (is_ascii_digit b)) _ e2 in
    let e3 = and_right (not (is_ascii_digit b)) _ e2 in
    let dot = and_left (not (nat_eq b 46)) _ e3 in
    let e4 = and_right (not (nat_eq b 46)) _ e3 in
    let double = and_left (not (nat_eq b 34)) _ e4 in
    let e5 = and_right (not (nat_eq b 34)) _ e4 in
    let back = and_left (not (nat_eq b 96)) _ e5 in
    let e6 = and_right (not (nat_eq b 96)) _ e5 in
    let single = and_left (not (nat_eq b 39)) _ e6 in
    let slash = and_right (not (nat_eq b 39)) _ e6 in
    ap (λ x. cond x (Some (Blanks, prefix_len is_white_space (b ∷ bs))) (no_blank_at b bs)) (not_false (is_white_space b) blank)
    ∙ ap (λ x. cond x (word_at (b ∷ bs)) (no_word_at b bs)) (not_false (may_begin_word b) word)
    ∙ ap (λ x. cond x (run_at (b ∷ bs)) (other_at b bs)) (no_number b bs (not_false (is_ascii_digit b) digit) (not_false (nat_eq b 46) dot))
    ∙ ap (λ x. cond x (string_at bs) (cond (nat_eq b 96) (raw_at bs) (cond (nat_eq b 39) (rune_at bs) (cond (nat_eq b 47) (slash_at (b ∷ bs) bs) (mark_at (b ∷ bs)))))) (not_false (nat_eq b 34) double)
    ∙ ap (λ x. cond x (raw_at bs) (cond (nat_eq b 39) (rune_at bs) (cond (nat_eq b 47) (slash_at (b ∷ bs) bs) (mark_at (b ∷ bs))))) (not_false (nat_eq b 96) back)
    ∙ ap (λ x. cond x (rune_at bs) (cond (nat_eq b 47) (slash_at (b ∷ bs) bs) (mark_at (b ∷ bs)))) (not_false (nat_eq b 39) single)
    ∙ ap (λ x. cond x (slash_at (b ∷ bs) bs) (mark_at (b ∷ bs))) (not_false (nat_eq b 47) slash)

front_string : (bs : List ℕ) → front (34 ∷ bs) ≡ string_at bs
front_string [] = refl
front_string (c ∷ bs) = refl

front_raw : (bs : List ℕ) → front (96 ∷ bs) ≡ raw_at bs
front_raw [] = refl
front_raw (c ∷ bs) = refl

front_rune : (bs : List ℕ) → front (39 ∷ bs) ≡ rune_at bs
front_rune [] = refl
front_rune (c ∷ bs) = refl

front_slash : (bs : List ℕ) → front (47 ∷ bs) ≡ slash_at (47 ∷ bs) bs
front_slash [] = refl
front_slash (c ∷ bs) = refl

-- a slash that begins a comment begins one that is longer
slash_front : (rest : List ℕ) → Fits (Word (kinds.Punctuation marks.Slash)) 1 (front (47 ∷ rest))
slash_front rest = subst (Fits (Word (kinds.Punctuation marks.Slash)) 1) (sym (front_slash rest)) (by_rest rest (mark_fits marks.Slash rest))
  where
    longer : (s t : Shape) (n : ℕ) → 2 ≤ n → Fits s 1 (Some (t, n))
    longer s t n le = (omega arith, λ e. absurd (omega arith))

    block : (bs : List ℕ) (c : Bool) → Fits (Word (kinds.Punctuation marks.Slash)) 1 (Some (cond c (OpenComment, before_close false bs + 2) (BlockComment, before_close false bs + 3)))
    block bs true = longer (Word (kinds.Punctuation marks.Slash)) OpenComment (before_close false bs + 2) (omega arith)
    block bs false = longer (Word (kinds.Punctuation marks.Slash)) BlockComment (before_close false bs + 3) (omega arith)

    by_star : (b : ℕ) (bs : List ℕ) (c : Bool) → Fits (Word (kinds.Punctuation marks.Slash)) 1 (mark_at (47 ∷ b ∷ bs)) → Fits (Word (kinds.Punctuation marks.Slash)) 1 (cond c (Some (block_shape (before_close false bs) bs)) (mark_at (47 ∷ b ∷ bs)))
    by_star b bs true f = block bs (nat_eq (before_close false bs) (length bs))
    by_star b bs false f = f

    by_slash : (b : ℕ) (bs : List ℕ) (c : Bool) → Fits (Word (kinds.Punctuation marks.Slash)) 1 (mark_at (47 ∷ b ∷ bs)) → Fits (Word (kinds.Punctuation marks.Slash)) 1 (cond c (Some (LineComment, prefix_len is_in_line bs + 2)) (cond (nat_eq b 42) (Some (block_shape (before_close false bs) bs)) (mark_at (47 ∷ b ∷ bs))))
    by_slash b bs true f = longer (Word (kinds.Punctuation marks.Slash)) LineComment (prefix_len is_in_line bs + 2) (omega arith)
    by_slash b bs false f = by_star b bs (nat_eq b 42) f

    by_rest : (rest : List ℕ) → Fits (Word (kinds.Punctuation marks.Slash)) 1 (mark_at (47 ∷ rest)) → Fits (Word (kinds.Punctuation marks.Slash)) 1 (slash_at (47 ∷ rest) rest)
    by_rest [] f = f
    by_rest (b ∷ bs) f = by_slash b bs (nat_eq b 47) f

-- and so does a period that begins a number
period_front : (rest : List ℕ) → Fits (Word (kinds.Punctuation marks.Period)) 1 (front (46 ∷ rest))
period_front [] = mark_fits marks.Period []
period_front (c ∷ cs) = by_digit (is_ascii_digit c) refl (mark_fits marks.Period (c ∷ cs))
  where
    by_digit : (d : Bool) → is_ascii_digit c ≡ d → Fits (Word (kinds.Punctuation marks.Period)) 1 (mark_at (46 ∷ c ∷ cs)) → Fits (Word (kinds.Punctuation marks.Period)) 1 (cond d (run_at (46 ∷ c ∷ cs)) (mark_at (46 ∷ c ∷ cs)))
    by_digit true e f = let more = run_some is_in_run c cs (digit_in_run c e) in (omega (arith, more), λ size. absurd (omega (arith, more, size)))
    by_digit false e f = f

-- where punctuation is spelled, it is found, or something longer
mark_front : (p : Punctuation) (rest : List ℕ) → Fits (Word (kinds.Punctuation p)) (length (punctuation_spelling p)) (front (punctuation_spelling p ++ rest))
mark_front marks.Plus rest = subst (Fits (Word (kinds.Punctuation marks.Plus)) 1) (sym (plain_front 43 rest refl)) (mark_fits marks.Plus rest)
mark_front marks.Minus rest = subst (Fits (Word (kinds.Punctuation marks.Minus)) 1) (sym (plain_front 45 rest refl)) (mark_fits marks.Minus rest)
mark_front marks.Star rest = subst (Fits (Word (kinds.Punctuation marks.Star)) 1) (sym (plain_front 42 rest refl)) (mark_fits marks.Star rest)
mark_front marks.Percent rest = subst (Fits (Word (kinds.Punctuation marks.Percent)) 1) (sym (plain_front 37 rest refl)) (mark_fits marks.Percent rest)
mark_front marks.Ampersand rest = subst (Fits (Word (kinds.Punctuation marks.Ampersand)) 1) (sym (plain_front 38 rest refl)) (mark_fits marks.Ampersand rest)
mark_front marks.Pipe rest = subst (Fits (Word (kinds.Punctuation marks.Pipe)) 1) (sym (plain_front 124 rest refl)) (mark_fits marks.Pipe rest)
mark_front marks.Caret rest = subst (Fits (Word (kinds.Punctuation marks.Caret)) 1) (sym (plain_front 94 rest refl)) (mark_fits marks.Caret rest)
mark_front marks.ShiftLeft rest = subst (Fits (Word (kinds.Punctuation marks.ShiftLeft)) 2) (sym (plain_front 60 (60 ∷ rest) refl)) (mark_fits marks.ShiftLeft rest)
mark_front marks.ShiftRight rest = subst (Fits (Word (kinds.Punctuation marks.ShiftRight)) 2) (sym (plain_front 62 (62 ∷ rest) refl)) (mark_fits marks.ShiftRight rest)
mark_front marks.AndNot rest = subst (Fits (Word (kinds.Punctuation marks.AndNot)) 2) (sym (plain_front 38 (94 ∷ rest) refl)) (mark_fits marks.AndNot rest)
mark_front marks.PlusAssign rest = subst (Fits (Word (kinds.Punctuation marks.PlusAssign)) 2) (sym (plain_front 43 (61 ∷ rest) refl)) (mark_fits marks.PlusAssign rest)
mark_front marks.MinusAssign rest = subst (Fits (Word (kinds.Punctuation marks.MinusAssign)) 2) (sym (plain_front 45 (61 ∷ rest) refl)) (mark_fits marks.MinusAssign rest)
mark_front marks.StarAssign rest = subst (Fits (Word (kinds.Punctuation marks.StarAssign)) 2) (sym (plain_front 42 (61 ∷ rest) refl)) (mark_fits marks.StarAssign rest)
mark_front marks.SlashAssign rest = mark_fits marks.SlashAssign rest
mark_front marks.PercentAssign rest = subst (Fits (Word (kinds.Punctuation marks.PercentAssign)) 2) (sym (plain_front 37 (61 ∷ rest) refl)) (mark_fits marks.PercentAssign rest)
mark_front marks.AmpersandAssign rest = subst (Fits (Word (kinds.Punctuation marks.AmpersandAssign)) 2) (sym (plain_front 38 (61 ∷ rest) refl)) (mark_fits marks.AmpersandAssign rest)
mark_front marks.PipeAssign rest = subst (Fits (Word (kinds.Punctuation marks.PipeAssign)) 2) (sym (plain_front 124 (61 ∷ rest) refl)) (mark_fits marks.PipeAssign rest)
mark_front marks.CaretAssign rest = subst (Fits (Word (kinds.Punctuation marks.CaretAssign)) 2) (sym (plain_front 94 (61 ∷ rest) refl)) (mark_fits marks.CaretAssign rest)
mark_front marks.ShiftLeftAssign rest = subst (Fits (Word (kinds.Punctuation marks.ShiftLeftAssign)) 3) (sym (plain_front 60 (60 ∷ 61 ∷ rest) refl)) (mark_fits marks.ShiftLeftAssign rest)
mark_front marks.ShiftRightAssign rest = subst (Fits (Word (kinds.Punctuation marks.ShiftRightAssign)) 3) (sym (plain_front 62 (62 ∷ 61 ∷ rest) refl)) (mark_fits marks.ShiftRightAssign rest)
mark_front marks.AndNotAssign rest = subst (Fits (Word (kinds.Punctuation marks.AndNotAssign)) 3) (sym (plain_front 38 (94 ∷ 61 ∷ rest) refl)) (mark_fits marks.AndNotAssign rest)
mark_front marks.LogicalAnd rest = subst (Fits (Word (kinds.Punctuation marks.LogicalAnd)) 2) (sym (plain_front 38 (38 ∷ rest) refl)) (mark_fits marks.LogicalAnd rest)
mark_front marks.LogicalOr rest = subst (Fits (Word (kinds.Punctuation marks.LogicalOr)) 2) (sym (plain_front 124 (124 ∷ rest) refl)) (mark_fits marks.LogicalOr rest)
mark_front marks.Arrow rest = subst (Fits (Word (kinds.Punctuation marks.Arrow)) 2) (sym (plain_front 60 (45 ∷ rest) refl)) (mark_fits marks.Arrow rest)
mark_front marks.Increment rest = subst (Fits (Word (kinds.Punctuation marks.Increment)) 2) (sym (plain_front 43 (43 ∷ rest) refl)) (mark_fits marks.Increment rest)
mark_front marks.Decrement rest = subst (Fits (Word (kinds.Punctuation marks.Decrement)) 2) (sym (plain_front 45 (45 ∷ rest) refl)) (mark_fits marks.Decrement rest)
mark_front marks.Equal rest = subst (Fits (Word (kinds.Punctuation marks.Equal)) 2) (sym (plain_front 61 (61 ∷ rest) refl)) (mark_fits marks.Equal rest)
mark_front marks.Less rest = subst (Fits (Word (kinds.Punctuation marks.Less)) 1) (sym (plain_front 60 rest refl)) (mark_fits marks.Less rest)
mark_front marks.Greater rest = subst (Fits (Word (kinds.Punctuation marks.Greater)) 1) (sym (plain_front 62 rest refl)) (mark_fits marks.Greater rest)
mark_front marks.Assign rest = subst (Fits (Word (kinds.Punctuation marks.Assign)) 1) (sym (plain_front 61 rest refl)) (mark_fits marks.Assign rest)
mark_front marks.Not rest = subst (Fits (Word (kinds.Punctuation marks.Not)) 1) (sym (plain_front 33 rest refl)) (mark_fits marks.Not rest)
mark_front marks.Tilde rest = subst (Fits (Word (kinds.Punctuation marks.Tilde)) 1) (sym (plain_front 126 rest refl)) (mark_fits marks.Tilde rest)
mark_front marks.NotEqual rest = subst (Fits (Word (kinds.Punctuation marks.NotEqual)) 2) (sym (plain_front 33 (61 ∷ rest) refl)) (mark_fits marks.NotEqual rest)
mark_front marks.LessOrEqual rest = subst (Fits (Word (kinds.Punctuation marks.LessOrEqual)) 2) (sym (plain_front 60 (61 ∷ rest) refl)) (mark_fits marks.LessOrEqual rest)
mark_front marks.GreaterOrEqual rest = subst (Fits (Word (kinds.Punctuation marks.GreaterOrEqual)) 2) (sym (plain_front 62 (61 ∷ rest) refl)) (mark_fits marks.GreaterOrEqual rest)
mark_front marks.Define rest = subst (Fits (Word (kinds.Punctuation marks.Define)) 2) (sym (plain_front 58 (61 ∷ rest) refl)) (mark_fits marks.Define rest)
mark_front marks.Ellipsis rest = mark_fits marks.Ellipsis rest
mark_front marks.OpenParenthesis rest = subst (Fits (Word (kinds.Punctuation marks.OpenParenthesis)) 1) (sym (plain_front 40 rest refl)) (mark_fits marks.OpenParenthesis rest)
mark_front marks.OpenBracket rest = subst (Fits (Word (kinds.Punctuation marks.OpenBracket)) 1) (sym (plain_front 91 rest refl)) (mark_fits marks.OpenBracket rest)
mark_front marks.OpenBrace rest = subst (Fits (Word (kinds.Punctuation marks.OpenBrace)) 1) (sym (plain_front 123 rest refl)) (mark_fits marks.OpenBrace rest)
mark_front marks.Comma rest = subst (Fits (Word (kinds.Punctuation marks.Comma)) 1) (sym (plain_front 44 rest refl)) (mark_fits marks.Comma rest)
mark_front marks.CloseParenthesis rest = subst (Fits (Word (kinds.Punctuation marks.CloseParenthesis)) 1) (sym (plain_front 41 rest refl)) (mark_fits marks.CloseParenthesis rest)
mark_front marks.CloseBracket rest = subst (Fits (Word (kinds.Punctuation marks.CloseBracket)) 1) (sym (plain_front 93 rest refl)) (mark_fits marks.CloseBracket rest)
mark_front marks.CloseBrace rest = subst (Fits (Word (kinds.Punctuation marks.CloseBrace)) 1) (sym (plain_front 125 rest refl)) (mark_fits marks.CloseBrace rest)
mark_front marks.Semicolon rest = subst (Fits (Word (kinds.Punctuation marks.Semicolon)) 1) (sym (plain_front 59 rest refl)) (mark_fits marks.Semicolon rest)
mark_front marks.Colon rest = subst (Fits (Word (kinds.Punctuation marks.Colon)) 1) (sym (plain_front 58 rest refl)) (mark_fits marks.Colon rest)
mark_front marks.Slash rest = slash_front rest
mark_front marks.Period rest = period_front rest

-- a literal between quotes
quoted_fits : (s : Shape) (quote : ℕ) (inner xs rest : List ℕ) → xs ≡ quote ∷ inner ++ quote ∷ [] → Fits s (length inner + 2) (front (quote ∷ (inner ++ quote ∷ rest))) → Fits s (length xs) (front (xs ++ rest))
quoted_fits s quote inner xs rest e f =
    let whole : xs ++ rest ≡ quote ∷ (inner ++ quote ∷ rest) = ap (λ ys. ys ++ rest) e ∙ ap (λ ys. quote ∷ ys) (append_assoc inner (quote ∷ []) rest) in
    let size : length inner + 2 ≡ length xs = omega (arith, ap (λ (ys : List ℕ). length ys) e, length-append inner (quote ∷ [])) in
    subst (λ ys. Fits s (length xs) (front ys)) (sym whole) (subst (λ n. Fits s n (front (quote ∷ (inner ++ quote ∷ rest)))) size f)

-- where a piece is spelled, it is found, or something longer
pub fits : (s : Shape) (xs rest : List ℕ) → Spells s xs → Fits s (length xs) (front (xs ++ rest))
fits Blanks xs rest (b, bs, e, all) =
    let found : front (b ∷ bs ++ rest) ≡ Some (Blanks, prefix_len is_white_space (b ∷ bs ++ rest)) = ap (λ x. cond x (Some (Blanks, prefix_len is_white_space (b ∷ bs ++ rest))) (no_blank_at b (bs ++ rest))) (and_left (is_white_space b) (list_all is_white_space bs) all) in
    subst (λ (ys : List ℕ). Fits Blanks (length ys) (front (ys ++ rest))) (sym e)
    (subst (Fits Blanks (length (b ∷ bs))) (sym found) (run_le is_white_space (b ∷ bs) rest all, λ _. refl))
fits LineComment xs rest (tail, e, all) =
    subst (λ (ys : List ℕ). Fits LineComment (length ys) (front (ys ++ rest))) (sym e) (line_fits tail rest all)
fits BlockComment xs rest (tail, e, none) =
    let whole : (47 ∷ 42 ∷ tail ++ 42 ∷ 47 ∷ []) ++ rest ≡ 47 ∷ 42 ∷ (tail ++ 42 ∷ 47 ∷ rest) = ap (λ ys. 47 ∷ 42 ∷ ys) (append_assoc tail (42 ∷ 47 ∷ []) rest) in
    let size : length tail + 4 ≡ length (47 ∷ 42 ∷ tail ++ 42 ∷ 47 ∷ []) = omega (arith, length-append tail (42 ∷ 47 ∷ [])) in
    subst (λ (ys : List ℕ). Fits BlockComment (length ys) (front (ys ++ rest))) (sym e)
    (subst (λ ys. Fits BlockComment (length (47 ∷ 42 ∷ tail ++ 42 ∷ 47 ∷ [])) (front ys)) (sym whole)
    (subst (λ n. Fits BlockComment n (front (47 ∷ 42 ∷ (tail ++ 42 ∷ 47 ∷ rest)))) size (block_fits tail rest none)))
fits OpenComment xs rest (tail, e, none) =
    let size : length tail + 2 ≡ length (47 ∷ 42 ∷ tail) = omega arith in
    subst (λ (ys : List ℕ). Fits OpenComment (length ys) (front (ys ++ rest))) (sym e)
    (subst (λ n. Fits OpenComment n (front (47 ∷ 42 ∷ (tail ++ rest)))) size (open_fits tail rest none))
fits BadNumber xs rest (run, other) =
    subst (Fits BadNumber (length xs)) (sym (front_run (xs ++ rest) (begins_on xs rest (run_begin xs run)))) (run_fits BadNumber xs rest run (ap (λ x. cond x (Word kinds.Integer) BadNumber) other))
fits (Word kinds.Integer) xs rest (run, integer) =
    subst (Fits (Word kinds.Integer) (length xs)) (sym (front_run (xs ++ rest) (begins_on xs rest (run_begin xs run)))) (run_fits (Word kinds.Integer) xs rest run (ap (λ x. cond x (Word kinds.Integer) BadNumber) integer))
fits (Word kinds.Name) xs rest (word, other) =
    let first = word_first xs rest word in
    subst (Fits (Word kinds.Name) (length xs)) (sym (front_word (xs ++ rest) (omega (arith, first.1, length-append xs rest)) first.0)) (word_fits kinds.Name xs rest word (ap word_kind (no_keyword_in xs other)))
fits (Word (kinds.Keyword k)) xs rest d =
    let word = subst IsWord (sym d) (keyword_is_word k) in
    let first = word_first xs rest word in
    subst (Fits (Word (kinds.Keyword k)) (length xs)) (sym (front_word (xs ++ rest) (omega (arith, first.1, length-append xs rest)) first.0)) (word_fits (kinds.Keyword k) xs rest word (ap word_kind (keyword_some xs k d)))
fits (Word kinds.Rune) xs rest (code, (part, e, h)) =
    quoted_fits (Word kinds.Rune) 39 part xs rest e (subst (Fits (Word kinds.Rune) (length part + 2)) (sym (front_rune (part ++ 39 ∷ rest))) (rune_fits part rest code h))
fits (Word kinds.String) xs rest (value, inl (parts, all, e, v)) =
    let inner : List ℕ = flat_map (λ (p : Part). p.bytes) parts in
    quoted_fits (Word kinds.String) 34 inner xs rest e (subst (Fits (Word kinds.String) (length inner + 2)) (sym (front_string (inner ++ 34 ∷ rest))) (string_fits parts rest all))
fits (Word kinds.String) xs rest (value, inr (inner, e, all, v)) =
    quoted_fits (Word kinds.String) 96 inner xs rest e (subst (Fits (Word kinds.String) (length inner + 2)) (sym (front_raw (inner ++ 96 ∷ rest))) (raw_fits inner rest all))
fits (Word (kinds.Punctuation p)) xs rest d =
    subst (λ (ys : List ℕ). Fits (Word (kinds.Punctuation p)) (length ys) (front (ys ++ rest))) (sym d) (mark_front p rest)

length_take : (n : ℕ) (xs : List ℕ) → n ≤ length xs → length (take n xs) ≡ n
length_take n xs le = omega (arith, length-take n xs)

-- a piece that is found begins the text
pub piece_begins : (text : List ℕ) (s : Shape) (n : ℕ) → front text ≡ Some (s, n) → Begins (record { shape = s; bytes = take n text }) text (drop n text)
piece_begins text s n e =
    let g : Good text (Some (s, n)) = subst (Good text) e (good text) in
    record {
      whole = sym (take-append-drop n text);
      spelled = g.0;
      longest = λ t xs others d q.
          let f : Fits t (length xs) (Some (s, n)) = subst (Fits t (length xs)) (ap front (sym q) ∙ e) (fits t xs others d) in
          omega (arith, f.0, length_take n text g.2);
    }

-- and a piece that begins the text is found
pub begins_front : (p : Piece) (text rest : List ℕ) → Begins p text rest → front text ≡ Some (p.shape, length p.bytes)
begins_front p text rest b = by_found (front text) refl (subst (λ ys. Fits p.shape (length p.bytes) (front ys)) (sym b.whole) (fits p.shape p.bytes rest b.spelled)) (good text)
  where
    by_found : (o : Option (Shape × ℕ)) → front text ≡ o → Fits p.shape (length p.bytes) o → Good text o → o ≡ Some (p.shape, length p.bytes)
    by_found None e f g = absurd f
    by_found (Some (s, n)) e f g =
        let most = b.longest s (take n text) (drop n text) g.0 (sym (take-append-drop n text)) in
        let size : n ≡ length p.bytes = omega (arith, most, f.0, length_take n text g.2) in
        ap (λ t. Some (t, n)) (f.1 size) ∙ ap (λ k. Some (p.shape, k)) size

no_piece : (s : Shape) (n : ℕ) (o : Option (Shape × ℕ)) → o ≡ None → o ≡ Some (s, n) → ⊥
no_piece s n o e f = cc

pub none_begins : (p : Piece) (text rest : List ℕ) → front text ≡ None → Begins p text rest → ⊥
none_begins p text rest e b = no_piece p.shape (length p.bytes) (front text) e (begins_front p text rest b)

pub begins_none : (b : ℕ) (bs : List ℕ) → front (b ∷ bs) ≡ None → BeginsNone (b ∷ bs)
begins_none b bs e = (λ q. cc, λ p rest h. none_begins p (b ∷ bs) rest e h)

-- what is found stands in the text
pub within_of : (text : List ℕ) (o : Option (Shape × ℕ)) → o ≡ front text → IfSome o (λ f. (1 ≤ f.1) × (f.1 ≤ length text))
within_of text o e = by_found o (subst (Good text) (sym e) (good text))
  where
    by_found : (o : Option (Shape × ℕ)) → Good text o → IfSome o (λ f. (1 ≤ f.1) × (f.1 ≤ length text))
    by_found None g = tt
    by_found (Some f) g = (g.1, g.2)
