-- Tokens that are passed over by a part that may be missing.
use Rattle.std.proofs.Common.{◌≡◌, ℕ, Bool, false, ◌&&◌, List, [], ◌∷◌, refl, sym, ◌∙◌, subst}
use Rattle.go_text.specs.declared.edition.Edition.{Edition}
use Rattle.go_text.specs.Editions.{has_slices}
use Rattle.go_scan.specs.declared.token.TokenKind.{TokenKind}
use Rattle.go_ast.specs.Kinds.{same}
use Rattle.go_ast.specs.Trees.{Name, Expression, Simple, call_statement}
use Rattle.go_ast.specs.Grammar.{Lexeme, define, is_call}
use Rattle.go_ast.specs.Machine.{Position, Reader, optional, Move, Take, Fail, cond, names_if, is_header, on_define, behind_left, parser_step, newer}
use Rattle.go_ast.proofs.LeftOutStates.{tok, GoesBy, Goes}
use Rattle.go_ast.proofs.LeftOutIndexes.{define_step, header_step}
use Rattle.go_ast.specs.Expected.{Expected}

module _ (ed : Edition) (j : TokenKind) (ks : List TokenKind) (kind : TokenKind) (need : ℕ) (some : Lexeme → Reader) (none : Reader) where
  pub optional_goes : same kind j ≡ false → Goes ed (j ∷ ks) none → Goes ed (j ∷ ks) (optional kind need some none)
  optional_goes e g =
      (g.0, g.1, subst (λ c. GoesBy (Goes ed ks) (cond c (Take need (some (tok j g.0 g.1))) (parser_step ed none (tok j g.0 g.1)))) (sym e) g.2)

  pub goes_optional : same kind j ≡ false → Goes ed (j ∷ ks) (optional kind need some none) → Goes ed (j ∷ ks) none
  goes_optional e g =
      (g.0, g.1, subst (λ c. GoesBy (Goes ed ks) (cond c (Take need (some (tok j g.0 g.1))) (parser_step ed none (tok j g.0 g.1)))) e g.2)

module _ (ed : Edition) (j : TokenKind) (ks : List TokenKind) (kind : TokenKind) (need : ℕ) (x : Expected) (some : Lexeme → Reader) (none : Reader) where
  abbrev newer_move : Bool → Lexeme → Move
  newer_move c t = cond c (cond (has_slices ed) (Take need (some t)) (Fail x)) (parser_step ed none t)

  pub newer_goes : same kind j ≡ false → Goes ed (j ∷ ks) none → Goes ed (j ∷ ks) (newer kind need x some none)
  newer_goes e g = (g.0, g.1, subst (λ c. GoesBy (Goes ed ks) (newer_move c (tok j g.0 g.1))) (sym e) g.2)

  pub goes_newer : same kind j ≡ false → Goes ed (j ∷ ks) (newer kind need x some none) → Goes ed (j ∷ ks) none
  goes_newer e g = (g.0, g.1, subst (λ c. GoesBy (Goes ed ks) (newer_move c (tok j g.0 g.1))) e g.2)

-- behind one left side
pub left_step : (ed : Edition) → (m : Position) (h : Bool) (l : ℕ) (e : Expression) (next : Simple → Reader) (alone : Expression → Reader) (range : Name → Expression → Reader) (t : Lexeme) →
    same define t.kind ≡ false →
    on_define m h l next range t
    (cond (is_header m && false) (parser_step ed (alone e) t) (cond (is_call e) (parser_step ed (next (call_statement e)) t) (Fail (behind_left m e)))) (names_if (e ∷ []))
    ≡ cond (is_call e) (parser_step ed (next (call_statement e)) t) (Fail (behind_left m e))
left_step ed m h l e next alone range t ne =
    let go : Move = cond (is_call e) (parser_step ed (next (call_statement e)) t) (Fail (behind_left m e)) in
    define_step m h l next range t (cond (is_header m && false) (parser_step ed (alone e) t) go) (names_if (e ∷ [])) ne
    ∙ header_step (is_header m) false (parser_step ed (alone e) t) go refl
