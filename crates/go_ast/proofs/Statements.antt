-- Lists of statements, from what is known of a statement that isn't empty.
use Rattle.std.proofs.Common.{◌≡◌, ℕ, ◌+◌, ◌≤◌, ◌⊎◌, inl, inr, true, ◌||◌, List, [], ◌∷◌, ◌++◌, refl, sym, ap, ◌∙◌, subst, arith}
use Rattle.go_text.specs.declared.edition.Edition.{Edition}
use Rattle.go_scan.specs.declared.token.TokenKind.{TokenKind}
use Rattle.go_ast.specs.Kinds.{same}
use Rattle.go_ast.specs.Expected.{Expected, another}
use Rattle.go_ast.specs.Trees.{Statement, empty, File}
use Rattle.go_ast.specs.Heights.{stmt_height}
use Rattle.go_ast.specs.Grammar.{Lexeme, Token, closing_brace, semicolon, Behind, AreItems, IsStmt}
use Rattle.go_ast.specs.Machine.{statements, Reader, list_start, list_end, Move, Take, cond, on_stmt}
use Rattle.go_ast.proofs.Same.{are_same}
use Rattle.go_ast.proofs.Means.{begins_stmt, begins, AllFit, Means, Good, After, Kept}
use Rattle.go_ast.proofs.Base.{false_true, left_true, right_true, after_cond, kept_cond, after_same, after_other, token_here, apart}
use Rattle.go_ast.proofs.Tokens.{at_first, same_here}
use Rattle.go_ast.proofs.Lists.{Items}
use Rattle.go_ast.proofs.Never.{stmt_never}
use Rattle.go_ast.proofs.Declarations.{item_good}
use Rattle.go_ast.proofs.Starts.{stmt_starts}

-- what is known of a statement that isn't empty
pub record OnStmt (ed : Edition) (B : ℕ) : Type 0 where
  pub back : (l : ℕ) (next : Expected → Statement → Reader) (t : Lexeme) (us : List Lexeme) (f : File) → l ≤ B + 1 → After ed B (on_stmt l next t) us f →
      (x : Expected) × (s : Statement) × (ws : List Lexeme) × IsStmt ed s (t ∷ us) ws × (l + stmt_height s ≤ B + 1) × Means ed B (next x s) ws f
  pub forth : (l : ℕ) (next : Expected → Statement → Reader) (s : Statement) (t : Lexeme) (us ws : List Lexeme) (f : File) → begins_stmt t.kind ≡ true →
      IsStmt ed s (t ∷ us) ws →
      l + stmt_height s ≤ B + 1 → ((x : Expected) → Means ed B (next x s) ws f) → After ed B (on_stmt l next t) us f
  pub kept : (l : ℕ) (next : Expected → Statement → Reader) (t : Lexeme) → l ≤ B + 1 → ((x : Expected) (s : Statement) → l + stmt_height s ≤ B + 1 → Good ed B (next x s)) →
      ((x : Expected) (s : Statement) (k : TokenKind) → begins (next x s) k ≡ true → (same semicolon k || same closing_brace k) ≡ true) → Kept ed B (on_stmt l next t)

pub empty_is : (ed : Edition) → (t : Lexeme) (us : List Lexeme) → t.kind ≡ semicolon → IsStmt ed (empty t.place) (t ∷ us) (t ∷ us)
empty_is ed t us e = (t, us, token_here semicolon t us e, refl, refl)

module _ (ed : Edition) (B : ℕ) (on : OnStmt ed B) where
  -- statements of a block
  abbrev behind_stmt : ℕ → List Statement → (List Statement → Lexeme → Reader) → Expected → Statement → Reader
  behind_stmt l front next x s = list_end (statements l) x (front ++ s ∷ []) next

  abbrev behind_empty : ℕ → List Statement → (List Statement → Lexeme → Reader) → Lexeme → Move
  behind_empty l front next t = Take l (list_start (statements l) (front ++ empty t.place ∷ []) next)

  item_forth : (l : ℕ) (front : List Statement) (next : List Statement → Lexeme → Reader) (t : Lexeme) (us : List Lexeme) (f : File) (s : Statement) (vs : List Lexeme) →
      IsStmt ed s (t ∷ us) vs →
      l + stmt_height s ≤ B + 1 → Means ed B (list_end (statements l) another (front ++ s ∷ []) next) vs f →
      ((s ≡ empty t.place) × (t.kind ≡ semicolon) × (t ∷ us ≡ vs)) ⊎ (begins_stmt t.kind ≡ true) →
      After ed B
      (cond (same semicolon t.kind) (behind_empty l front next t) (on_stmt l (behind_stmt l front next) t)) us f
  item_forth l front next t us f s vs d fits m (inr b) =
      after_other ed B semicolon t (behind_empty l front next t)
      (on_stmt l (behind_stmt l front next) t) us f
      (apart begins_stmt semicolon t.kind refl b)
      (on.forth l (behind_stmt l front next) s t us vs f b d fits (λ x. m))
  item_forth l front next t us f s vs d fits m (inl (e, k, q)) =
      let n : Means ed B (list_end (statements l) another (front ++ empty t.place ∷ []) next) (t ∷ us) f =
      subst (λ x. Means ed B (list_end (statements l) another (front ++ x ∷ []) next) (t ∷ us) f) e
      (subst (λ x. Means ed B (list_end (statements l) another (front ++ s ∷ []) next) x f) (sym q) m) in
      let tall : l + 1 ≤ B + 1 = subst (λ x. l + stmt_height x ≤ B + 1) e fits in
      after_same ed B semicolon t (behind_empty l front next t)
      (on_stmt l (behind_stmt l front next) t) us f k
      (omega (arith, tall), behind n.0 n.1 n.2 n.3 n.4 n.5 n.6 n.7)
    where
      behind : (ss : List Statement) (c : Lexeme) (xs ws : List Lexeme) → Behind semicolon (AreItems (IsStmt ed) semicolon ss) (ss ≡ []) (t ∷ us) xs →
          AllFit ed B stmt_height l ss → Token closing_brace c xs ws →
          Means ed B (next ((front ++ empty t.place ∷ []) ++ ss) c) ws f → Means ed B (list_start (statements l) (front ++ empty t.place ∷ []) next) us f
      behind ss c xs ws (inl b) fit close m =
          (ss, c, xs, ws, at_first semicolon t b.0 us b.1 (λ u ys. AreItems (IsStmt ed) semicolon ss ys xs) b.2 b.3, fit, close, m)
      behind ss c xs ws (inr b) fit close m =
          let closed : same closing_brace t.kind ≡ true = same_here closing_brace t c us ws (subst (λ x. Token closing_brace c x ws) (sym b.1) close) in
          absurd (false_true (sym (ap (same closing_brace) k) ∙ closed))

  pub statement_items : (l : ℕ) → Items ed B (statements l)
  statement_items l =
      record {
        back =
            λ front next t us f low a. elim (after_cond ed B (same semicolon t.kind) (behind_empty l front next t)
            (on_stmt l (behind_stmt l front next) t) us f a) [
              | inl h ↦ (let k = are_same semicolon t.kind h.0 in
                  let m = h.1.1 in (
                    empty t.place,
                    t ∷ us,
                    empty_is ed t us k,
                    omega (arith, h.1.0),
                    (m.0, m.1, m.2, m.3, inl (t, us, token_here semicolon t us k, m.4), m.5, m.6, m.7),
                  ))
              | inr h ↦ (let r = on.back l (behind_stmt l front next) t us f low h.1 in (r.1, r.2, r.3, r.4, r.5))
            ];
        forth = λ front next t us f s vs d fits m. item_forth l front next t us f s vs d fits m (stmt_starts ed s t us vs d);
        kept = λ front next t ok.
            kept_cond ed B (same semicolon t.kind) (behind_empty l front next t)
            (on_stmt l (behind_stmt l front next) t)
            (λ e le. (tt, (item_good ed B (statements l) another front next (empty t.place) ok (omega (arith, le))).1))
            (λ e. on.kept l (behind_stmt l front next) t ok.0 (λ x s fit. item_good ed B (statements l) x front next s ok fit) (λ x s k b. b));
        first = λ s t us vs d. starts s t us vs (stmt_starts ed s t us vs d);
        never = λ s vs d. stmt_never ed s vs d;
      }
    where
      starts : (s : Statement) (t : Lexeme) (us vs : List Lexeme) → ((s ≡ empty t.place) × (t.kind ≡ semicolon) × (t ∷ us ≡ vs)) ⊎ (begins_stmt t.kind ≡ true) →
          (same semicolon t.kind || begins_stmt t.kind) ≡ true
      starts s t us vs (inl e) = left_true (same semicolon t.kind) (begins_stmt t.kind) (ap (same semicolon) e.1)
      starts s t us vs (inr e) = right_true (same semicolon t.kind) (begins_stmt t.kind) e
