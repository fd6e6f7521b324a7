-- The bytes of tokens of a text are texts.
use Rattle.std.proofs.Common.{◌≡◌, ℕ, ◌-◌, ◌+◌, ◌≤◌, Bool, true, Some, List, [], ◌∷◌, ◌++◌, length, take, drop, sym, ap, ◌∙◌, subst, inl, inr, arith, take-append-drop, length-append}
use Rattle.std.specs.Prelude.{nat_lt, pos}
use Rattle.std.specs.List.{All, list_all}
use Rattle.std.proofs.lemmas.List.Elements.{All-head, All-tail}
use Rattle.std.proofs.lemmas.Bool.{and_parts, and_from, lt-ltb, ltb-true}
use Rattle.std.proofs.lemmas.List.Folds.{list_all-append}
use Rattle.go_const.specs.declared.kind.IntKind.TheVariants as integers
use Rattle.go_const.specs.Constants.{fits}
use Rattle.go_scan.specs.declared.token.Token.{Token}
use Rattle.go_scan.specs.declared.token.TokenKind.{TokenKind}
use Rattle.go_scan.specs.declared.token.TokenKind.TheVariants as kinds
use Rattle.go_scan.specs.Lex.{MaySpell, StandsIn}
use Rattle.go_scan.specs.Words.{IsWord}
use Rattle.go_ast.specs.Tokens.{lexeme_bytes, lexemes}
use Rattle.go_meaning_laws.specs.WellTyped.{is_text}
use Rattle.go_package_laws.proofs.Spelled.{AreTexts}

abbrev is_byte : ℕ → Bool
is_byte b = nat_lt b 256

text_of : (xs : List ℕ) (n : ℕ) → list_all is_byte xs ≡ true → length xs ≤ n → nat_lt n 9223372036854775808 ≡ true → is_text xs ≡ true
text_of xs n bytes short small =
    let least = ltb-true n 9223372036854775808 small in
    and_from (list_all is_byte xs) (fits (Some integers.Int) (pos (length xs))) bytes (lt-ltb (length xs) 9223372036854775808 (omega (arith, short, least)))

-- each part of a text is one
part_text : (xs ys text : List ℕ) → xs ++ ys ≡ text → is_text text ≡ true → (is_text xs ≡ true) × (is_text ys ≡ true)
part_text xs ys text at h =
    let whole = and_parts (list_all is_byte text) (fits (Some integers.Int) (pos (length text))) h in
    let both = and_parts (list_all is_byte xs) (list_all is_byte ys) (sym (list_all-append is_byte xs ys) ∙ ap (list_all is_byte) at ∙ whole.0) in
    let long : length xs + length ys ≡ length text = sym (length-append xs ys) ∙ ap length at in
    (text_of xs (length text) both.0 (omega (arith, long)) whole.1, text_of ys (length text) both.1 (omega (arith, long)) whole.1)

range_text : (text : List ℕ) (t : Token) → is_text text ≡ true → is_text (lexeme_bytes text t) ≡ true
range_text text t h =
    let rest = part_text (take t.start text) (drop t.start text) text (take-append-drop t.start text) h in
    (part_text (take (t.end - t.start) (drop t.start text)) (drop (t.end - t.start) (drop t.start text)) (drop t.start text) (take-append-drop (t.end - t.start) (drop t.start text)) rest.1).0

word_of : (kind : TokenKind) (bytes : List ℕ) → MaySpell kind bytes → kind ≡ kinds.Name → IsWord bytes
word_of kind bytes spelled is = by_name (subst (λ (k : TokenKind). MaySpell k bytes) is spelled)
  where
    by_name : MaySpell kinds.Name bytes → IsWord bytes
    by_name (inl word) = word.0
    by_name (inr (semicolon, none)) = absurd (cc (semicolon))

pub lexemes_texts : (text : List ℕ) (ts : List Token) → is_text text ≡ true → All (StandsIn text) ts → AreTexts (lexemes text ts)
lexemes_texts text [] h stand = tt
lexemes_texts text (t ∷ ts) h stand =
    ((range_text text t h, λ is. word_of t.kind (lexeme_bytes text t) (All-head (StandsIn text) t ts stand).spelled is), lexemes_texts text ts h (All-tail (StandsIn text) t ts stand))
