-- Kinds of tokens are compared, and texts by their bytes.
use Rattle.std.proofs.Common.{◌≡◌, ℕ, Bool, true, false, List, refl, sym}
use Rattle.std.specs.Str.{bytes_eq}
use Rattle.std.proofs.lemmas.Slice.Eq.{bytes_eq-Decides}
use Rattle.go_scan.specs.declared.token.TokenKind.{TokenKind}
use Rattle.go_scan.proofs.KindsEqual.{kinds_equal}
use Rattle.go_ast.specs.Kinds.{same}

-- texts

pub bytes_same : (a b : List ℕ) → a ≡ b → bytes_eq a b ≡ true
bytes_same a b e = (bytes_eq-Decides a b).1 e

pub bytes_are : (a b : List ℕ) → bytes_eq a b ≡ true → a ≡ b
bytes_are a b e = (bytes_eq-Decides a b).0 e

pub bytes_differ : (a b : List ℕ) → (a ≡ b → ⊥) → bytes_eq a b ≡ false
bytes_differ a b never = by_test (bytes_eq a b) refl
  where
    by_test : (c : Bool) → bytes_eq a b ≡ c → c ≡ false
    by_test false e = refl
    by_test true e = absurd (never (bytes_are a b e))

-- kinds

pub is_same : (j k : TokenKind) → k ≡ j → same j k ≡ true
is_same j k e = (kinds_equal j k).1 (sym e)

pub are_same : (j k : TokenKind) → same j k ≡ true → k ≡ j
are_same j k e = sym ((kinds_equal j k).0 e)

pub not_same : (j k : TokenKind) → (k ≡ j → ⊥) → same j k ≡ false
not_same j k never = by_test (same j k) refl
  where
    by_test : (c : Bool) → same j k ≡ c → c ≡ false
    by_test false e = refl
    by_test true e = absurd (never (are_same j k e))
