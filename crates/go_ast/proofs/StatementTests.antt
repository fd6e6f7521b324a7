-- Which tests a statement's first token passes, and what is behind a statement.
use Rattle.std.proofs.Common.{◌≡◌, inl, inr, Bool, true, false, ◌||◌, refl, sym, subst}
use Rattle.go_scan.specs.declared.token.TokenKind.{TokenKind}
use Rattle.go_scan.specs.declared.keyword.Keyword.TheVariants as keywords
use Rattle.go_ast.specs.Kinds.{same}
use Rattle.go_ast.specs.Grammar.{closing_brace, opening_brace, semicolon}
use Rattle.go_ast.specs.Machine.{keyword, begins_expr}
use Rattle.go_ast.proofs.Same.{are_same}
use Rattle.go_ast.proofs.Base.{either_true, neither, apart}

-- what is behind a statement
pub end_as : (k : TokenKind) → (same semicolon k || same closing_brace k) ≡ true → (P : TokenKind → Type 0) → P semicolon → P closing_brace → P k
end_as k e P p q = elim (either_true (same semicolon k) (same closing_brace k) e) [
  | inl a ↦ subst P (sym (are_same semicolon k a)) p
  | inr a ↦ subst P (sym (are_same closing_brace k a)) q
]

-- the kinds that are tested before
abbrev pub before_var : TokenKind → Bool
before_var k = same (keyword keywords.Const) k

abbrev pub before_return : TokenKind → Bool
before_return k = before_var k || same (keyword keywords.Var) k

abbrev pub before_break : TokenKind → Bool
before_break k = before_return k || same (keyword keywords.Return) k

abbrev pub before_continue : TokenKind → Bool
before_continue k = before_break k || same (keyword keywords.Break) k

abbrev pub before_fallthrough : TokenKind → Bool
before_fallthrough k = before_continue k || same (keyword keywords.Continue) k

abbrev pub before_block : TokenKind → Bool
before_block k = before_fallthrough k || same (keyword keywords.Fallthrough) k

abbrev pub before_if : TokenKind → Bool
before_if k = before_block k || same opening_brace k

abbrev pub before_for : TokenKind → Bool
before_for k = before_if k || same (keyword keywords.If) k

abbrev pub before_switch : TokenKind → Bool
before_switch k = before_for k || same (keyword keywords.For) k

abbrev pub before_expr : TokenKind → Bool
before_expr k = before_switch k || same (keyword keywords.Switch) k

pub expr_before : (k : TokenKind) → begins_expr k ≡ true → before_expr k ≡ false
expr_before k b =
    neither (before_switch k) (same (keyword keywords.Switch) k)
    (neither (before_for k) (same (keyword keywords.For) k)
    (neither (before_if k) (same (keyword keywords.If) k)
    (neither (before_block k) (same opening_brace k)
    (neither (before_fallthrough k) (same (keyword keywords.Fallthrough) k)
    (neither (before_continue k) (same (keyword keywords.Continue) k)
    (neither (before_break k) (same (keyword keywords.Break) k)
    (neither (before_return k) (same (keyword keywords.Return) k)
    (neither (before_var k) (same (keyword keywords.Var) k)
    (apart begins_expr (keyword keywords.Const) k refl b) (apart begins_expr (keyword keywords.Var) k refl b))
    (apart begins_expr (keyword keywords.Return) k refl b)) (apart begins_expr (keyword keywords.Break) k refl b))
    (apart begins_expr (keyword keywords.Continue) k refl b)) (apart begins_expr (keyword keywords.Fallthrough) k refl b))
    (apart begins_expr opening_brace k refl b)) (apart begins_expr (keyword keywords.If) k refl b)) (apart begins_expr (keyword keywords.For) k refl b))
    (apart begins_expr (keyword keywords.Switch) k refl b)
