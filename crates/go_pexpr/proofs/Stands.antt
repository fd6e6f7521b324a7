-- What the bytes of a token are that stands in a text.
use Rattle.std.proofs.Common.{◌≡◌, ℕ, ◌<◌, true, ◌&&◌, List, [], ◌∷◌, zero, suc, ◌⊎◌, inl, inr, refl, sym, ap, ◌∙◌, subst, arith}
use Rattle.std.specs.List.{list_all, AllByRecursion}
use Rattle.std.specs.Char.{IsScalar}
use lib.Utf8.{scalars}
use Rattle.std.specs.Prelude.{IsUtf8, IsAscii}
use Rattle.std.proofs.lemmas.Bool.Decides.{nat_tests}
use Rattle.std.proofs.lemmas.Str.{IsUtf8-from_ascii, is_utf8-from_IsUtf8, IsUtf8-from_is_utf8}
use Rattle.std.specs.List.{All}
use Rattle.go_scan.specs.declared.token.Token.{Token}
use Rattle.go_scan.specs.declared.token.TokenKind.{TokenKind}
use Rattle.go_scan.specs.declared.token.TokenKind.TheVariants as kinds
use Rattle.go_scan.specs.declared.punctuation.Punctuation.TheVariants as marks
use Rattle.go_scan.specs.Lex.{SpellsToken, MaySpell, StandsIn}
use Rattle.go_scan.specs.Numbers.{begins_number, is_in_run, is_run}
use Rattle.go_scan.specs.Fronts.{string_value_of, rune_value_of}
use Rattle.go_scan.specs.Words.{IsWord}
use Rattle.go_scan.proofs.Runs.{and_left, and_right}
use Rattle.go_ast.specs.Literals.{string_value, rune_value}
use Rattle.go_ast.specs.Tokens.{lexeme_bytes, LiesIn}

-- the values of literals are the scanner's
pub string_meant : (bytes : List ℕ) → string_value_of bytes ≡ string_value bytes
unfolding string_value
string_meant bytes = refl

pub rune_meant : (bytes : List ℕ) → rune_value_of bytes ≡ rune_value bytes
unfolding rune_value
rune_meant bytes = refl

-- only a semicolon is inserted
spelled : (k : TokenKind) (bytes : List ℕ) → (k ≡ kinds.Punctuation marks.Semicolon → ⊥) → MaySpell k bytes → SpellsToken k bytes
spelled k bytes other (inl s) = s
spelled k bytes other (inr s) = absurd (other s.0)

stands_as : (k : TokenKind) (text : List ℕ) (t : Token) → (k ≡ kinds.Punctuation marks.Semicolon → ⊥) → StandsIn text t → t.kind ≡ k → SpellsToken k (lexeme_bytes text t)
stands_as k text t other stands e = spelled k (lexeme_bytes text t) other (subst (λ j. MaySpell j (lexeme_bytes text t)) e stands.spelled)

-- a word is UTF-8
all_scalars : (cs : List ℕ) → AllByRecursion IsScalar cs → scalars cs ≡ true
all_scalars [] all = refl
all_scalars (c ∷ cs) all = ap (λ x. x && scalars cs) all.0 ∙ all_scalars cs all.1

word_text : (bytes : List ℕ) → IsWord bytes → IsUtf8 bytes
word_text bytes w = (w.0, (all_scalars w.0 w.2, sym w.1))

-- and so is an integer literal, which is ASCII
low : (b : ℕ) → is_in_run b ≡ true → b < 128
low b e = grind (arith, nat_tests)

all_low : (bytes : List ℕ) → list_all is_in_run bytes ≡ true → IsAscii bytes
all_low [] e i = omega arith
all_low (b ∷ bs) e zero = low b (and_left (is_in_run b) (list_all is_in_run bs) e)
all_low (b ∷ bs) e (suc i) = all_low bs (and_right (is_in_run b) (list_all is_in_run bs) e) i

run_text : (bytes : List ℕ) → is_run bytes ≡ true → IsUtf8 bytes
run_text bytes e = IsUtf8-from_ascii bytes (all_low bytes (and_right (begins_number bytes) (list_all is_in_run bytes) e))

stands_text : (text : List ℕ) (t : Token) → StandsIn text t → (t.kind ≡ kinds.Name) ⊎ (t.kind ≡ kinds.Integer) → IsUtf8 (lexeme_bytes text t)
stands_text text t stands (inl e) = word_text (lexeme_bytes text t) (stands_as kinds.Name text t (λ d. cc (d)) stands e).0
stands_text text t stands (inr e) = run_text (lexeme_bytes text t) (stands_as kinds.Integer text t (λ d. cc (d)) stands e).0

-- what stands in a text lies in it
pub stands_lies : (text : List ℕ) (t : Token) → StandsIn text t → LiesIn text t
stands_lies text t stands = record { order = stands.order; within = stands.within; utf8 = λ k. is_utf8-from_IsUtf8 (lexeme_bytes text t) (stands_text text t stands k) }

pub all_lie : (text : List ℕ) (ts : List Token) → All (StandsIn text) ts → All (LiesIn text) ts
all_lie text ts all i d l = stands_lies text _ (all i d l)

-- the text of a name or an integer literal is UTF-8
pub lies_text : (text : List ℕ) (t : Token) → LiesIn text t → (t.kind ≡ kinds.Name) ⊎ (t.kind ≡ kinds.Integer) → IsUtf8 (lexeme_bytes text t)
lies_text text t lies k = IsUtf8-from_is_utf8 (lexeme_bytes text t) (lies.utf8 k)
