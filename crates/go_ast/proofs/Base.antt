-- Moves by tests, and tests of kinds.
use Rattle.std.proofs.Common.{◌≡◌, ℕ, ◌⊎◌, inl, inr, Bool, true, false, ◌||◌, ◌&&◌, List, ◌∷◌, refl, sym, ap, ◌∙◌, subst}
use Rattle.go_text.specs.declared.edition.Edition.{Edition}
use Rattle.go_scan.specs.declared.token.TokenKind.{TokenKind}
use Rattle.go_ast.specs.Kinds.{same}
use Rattle.go_ast.specs.Trees.{File}
use Rattle.go_ast.specs.Grammar.{Lexeme, Token}
use Rattle.go_ast.specs.Machine.{Move, cond}
use Rattle.go_ast.proofs.Same.{is_same, not_same}
use Rattle.go_ast.proofs.Means.{After, Kept}

pub false_true : false ≡ true → ⊥
false_true e = cc (e)

-- one of two holds
pub either_true : (a b : Bool) → (a || b) ≡ true → (a ≡ true) ⊎ (b ≡ true)
either_true true b e = inl refl
either_true false b e = inr e

pub left_true : (a b : Bool) → a ≡ true → (a || b) ≡ true
left_true a b e = ap (λ x. x || b) e

pub right_true : (a b : Bool) → b ≡ true → (a || b) ≡ true
right_true true b e = refl
right_true false b e = e

pub both_true : (a b : Bool) → (a && b) ≡ true → (a ≡ true) × (b ≡ true)
both_true true b e = (refl, e)
both_true false b e = absurd (false_true e)

pub both_are : (a b : Bool) → a ≡ true → b ≡ true → (a && b) ≡ true
both_are a b e q = ap (λ x. x && b) e ∙ q

pub either_false : (a b : Bool) → (a || b) ≡ false → (a ≡ false) × (b ≡ false)
either_false true b e = absurd (false_true (sym e))
either_false false b e = (refl, e)

pub neither : (a b : Bool) → a ≡ false → b ≡ false → (a || b) ≡ false
neither a b e q = ap (λ x. x || b) e ∙ q

-- a kind of which that holds is not one of which it doesn't
pub apart : (P : TokenKind → Bool) (j k : TokenKind) → P j ≡ false → P k ≡ true → same j k ≡ false
apart P j k e q = not_same j k (λ x. false_true (sym e ∙ ap P (sym x) ∙ q))

pub cond_true : (b : Bool) (m n : Move) → b ≡ true → cond b m n ≡ m
cond_true b m n e = ap (λ x. cond x m n) e

pub cond_false : (b : Bool) (m n : Move) → b ≡ false → cond b m n ≡ n
cond_false b m n e = ap (λ x. cond x m n) e

module _ (ed : Edition) (B : ℕ) where
  pub after_cond : (b : Bool) (m n : Move) (us : List Lexeme) (f : File) → After ed B (cond b m n) us f → ((b ≡ true) × After ed B m us f)
      ⊎ ((b ≡ false) × After ed B n us f)
  after_cond true m n us f a = inl (refl, a)
  after_cond false m n us f a = inr (refl, a)

  pub kept_cond : (b : Bool) (m n : Move) → (b ≡ true → Kept ed B m) → (b ≡ false → Kept ed B n) → Kept ed B (cond b m n)
  kept_cond true m n p q = p refl
  kept_cond false m n p q = q refl

  -- the move is the one that a test of kinds chooses
  pub after_same : (k : TokenKind) (t : Lexeme) (m n : Move) (us : List Lexeme) (f : File) → t.kind ≡ k → After ed B m us f →
      After ed B (cond (same k t.kind) m n) us f
  after_same k t m n us f e a = subst (λ x. After ed B x us f) (sym (cond_true (same k t.kind) m n (is_same k t.kind e))) a

  pub after_other : (k : TokenKind) (t : Lexeme) (m n : Move) (us : List Lexeme) (f : File) → same k t.kind ≡ false → After ed B n us f →
      After ed B (cond (same k t.kind) m n) us f
  after_other k t m n us f e a = subst (λ x. After ed B x us f) (sym (cond_false (same k t.kind) m n e)) a

-- a first token
pub token_here : (k : TokenKind) (t : Lexeme) (us : List Lexeme) → t.kind ≡ k → Token k t (t ∷ us) us
token_here k t us e = record { whole = refl; is = e }

-- the first token is the one that is looked at
pub first_is : (k : TokenKind) (t u : Lexeme) (us ws : List Lexeme) → Token k u (t ∷ us) ws → (t ≡ u) × (us ≡ ws) × (t.kind ≡ k)
first_is k t u us ws h =
    let whole : t ∷ us ≡ u ∷ ws = h.whole in
    let first : t ≡ u = cc (whole) in
    let rest : us ≡ ws = cc (whole) in
    (first, rest, ap (λ (x : Lexeme). x.kind) first ∙ h.is)
