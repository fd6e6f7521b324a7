-- Kinds of tokens are equal, as `==` compares them, exactly where they are the same.
use denote.Enum.Bare.{same_true, true_same}
use Rattle.std.proofs.Common.{◌≡◌, ◌↔◌, false, true, refl, sym, ap, ◌∙◌}
use Rattle.go_scan.specs.contracts.keyword.Keyword as keyword
use Rattle.go_scan.specs.contracts.punctuation.Punctuation as punctuation
use Rattle.go_scan.specs.declared.token.TokenKind.{TokenKind}
use Rattle.go_scan.specs.declared.token.TokenKind.TheVariants as kinds
use Rattle.go_scan.specs.Kinds.{kind_eq}

never : false ≡ true → ⊥
never e = cc

equal_kinds : (a b : TokenKind) → kind_eq a b ≡ true → a ≡ b
equal_kinds kinds.Name kinds.Name e = refl
equal_kinds kinds.Integer kinds.Integer e = refl
equal_kinds kinds.Rune kinds.Rune e = refl
equal_kinds kinds.String kinds.String e = refl
equal_kinds (kinds.Keyword j) (kinds.Keyword k) e = ap kinds.Keyword (same_true keyword.the_type tt j k e)
equal_kinds (kinds.Punctuation p) (kinds.Punctuation q) e = ap kinds.Punctuation (same_true punctuation.the_type tt p q e)
equal_kinds a b e = absurd (never e)

kind_itself : (a : TokenKind) → kind_eq a a ≡ true
kind_itself kinds.Name = refl
kind_itself kinds.Integer = refl
kind_itself kinds.Rune = refl
kind_itself kinds.String = refl
kind_itself (kinds.Keyword k) = true_same keyword.the_type k k refl
kind_itself (kinds.Punctuation p) = true_same punctuation.the_type p p refl

-- the one lemma by which crates above compare kinds
pub kinds_equal : (a b : TokenKind) → (kind_eq a b ≡ true) ↔ (a ≡ b)
kinds_equal a b = (equal_kinds a b, λ e. ap (kind_eq a) (sym e) ∙ kind_itself a)
