-- A token that came with slices, or something other.
use Rattle.std.proofs.Common.{◌≡◌, ℕ, ◌≤◌, inl, inr, Bool, true, false, List, ◌∷◌, refl, sym, ap, ◌∙◌, subst}
use Rattle.go_text.specs.declared.edition.Edition.{Edition}
use Rattle.go_text.specs.Editions.{has_slices}
use Rattle.go_scan.specs.declared.token.TokenKind.{TokenKind}
use Rattle.go_ast.specs.Kinds.{same}
use Rattle.go_ast.specs.Expected.{Expected}
use Rattle.go_ast.specs.Trees.{File}
use Rattle.go_ast.specs.Grammar.{Lexeme}
use Rattle.go_ast.specs.Machine.{Reader, newer, Take, Fail, cond, parser_step}
use Rattle.go_ast.proofs.Same.{are_same}
use Rattle.go_ast.proofs.Means.{Means, begins, Okay, Good, After, Kept}
use Rattle.go_ast.proofs.Base.{false_true, left_true, right_true, cond_true, after_cond, kept_cond, after_same, after_other, token_here}
use Rattle.go_ast.proofs.Tokens.{at_first, kind_here, same_here}

module _ (ed : Edition) (B : ℕ) (kind : TokenKind) (need : ℕ) (x : Expected) (some : Lexeme → Reader) (none : Reader) where
  pub newer_back : (t : Lexeme) (us : List Lexeme) (f : File) → (After ed B (parser_step ed none t) us f → Means ed B none (t ∷ us) f) →
      After ed B (parser_step ed (newer kind need x some none) t) us f → Means ed B (newer kind need x some none) (t ∷ us) f
  newer_back t us f behind a = elim (after_cond ed B (same kind t.kind) (cond (has_slices ed) (Take need (some t)) (Fail x)) (parser_step ed none t) us f a) [
    | inl h ↦ elim (after_cond ed B (has_slices ed) (Take need (some t)) (Fail x) us f h.1) [
      | inl g ↦ inl (t, us, token_here kind t us (are_same kind t.kind h.0), g.1.0, g.1.1, g.0)
      | inr g ↦ absurd g.1
    ]
    | inr h ↦ inr (behind h.1)
  ]

  pub newer_forth : (t : Lexeme) (us : List Lexeme) (f : File) → (Means ed B none (t ∷ us) f → After ed B (parser_step ed none t) us f) →
      (Means ed B none (t ∷ us) f → begins none t.kind ≡ true) → begins none kind ≡ false → Means ed B (newer kind need x some none) (t ∷ us) f →
      After ed B (parser_step ed (newer kind need x some none) t) us f
  newer_forth t us f behind first other_kind (inl m) =
      let go : After ed B (Take need (some t)) us f = (m.3, at_first kind t m.0 us m.1 (λ u xs. Means ed B (some u) xs f) m.2 m.4) in
      after_same ed B kind t (cond (has_slices ed) (Take need (some t)) (Fail x)) (parser_step ed none t) us f (kind_here kind t m.0 us m.1 m.2)
      (subst (λ y. After ed B y us f) (sym (cond_true (has_slices ed) (Take need (some t)) (Fail x) m.5)) go)
  newer_forth t us f behind first other_kind (inr m) =
      after_other ed B kind t (cond (has_slices ed) (Take need (some t)) (Fail x)) (parser_step ed none t) us f (by_test (same kind t.kind) refl) (behind m)
    where
      by_test : (c : Bool) → same kind t.kind ≡ c → c ≡ false
      by_test false e = refl
      by_test true e = absurd (false_true (sym other_kind ∙ ap (λ k. begins none k) (sym (are_same kind t.kind e)) ∙ first m))

  pub newer_kept : (t : Lexeme) → Okay ed B (newer kind need x some none) → Kept ed B (parser_step ed none t) → Kept ed B (parser_step ed (newer kind need x some none) t)
  newer_kept t ok behind =
      kept_cond ed B (same kind t.kind) (cond (has_slices ed) (Take need (some t)) (Fail x)) (parser_step ed none t)
      (λ e. kept_cond ed B (has_slices ed) (Take need (some t)) (Fail x) (λ q le. ok.0 t (are_same kind t.kind e) le) (λ q. tt)) (λ e. behind)

  pub newer_first : (t : Lexeme) (us : List Lexeme) (f : File) → (Means ed B none (t ∷ us) f → begins none t.kind ≡ true) →
      Means ed B (newer kind need x some none) (t ∷ us) f → begins (newer kind need x some none) t.kind ≡ true
  newer_first t us f first (inl m) = left_true (same kind t.kind) (begins none t.kind) (same_here kind t m.0 us m.1 m.2)
  newer_first t us f first (inr m) = right_true (same kind t.kind) (begins none t.kind) (first m)

  pub newer_comes : Good ed B (newer kind need x some none) → (Good ed B none → (us : List Lexeme) × (f : File) × Means ed B none us f) →
      (us : List Lexeme) × (f : File) × Means ed B (newer kind need x some none) us f
  newer_comes ok behind = let r = behind (ok.0, ok.1.1) in (r.0, r.1, inr r.2)
