-- Lists of statements, one behind another.
use Rattle.std.proofs.Common.{◌≡◌, ℕ, List, [], ◌∷◌, ◌++◌, refl, sym, subst}
use Rattle.go_typed.specs.Trees.{Stmt, pack_stmts}
use Rattle.go_meaning_laws.specs.WellTyped.{Setting, declared_after, declared_after_all, IsStmt, AreStmts}
use Rattle.go_stmt.specs.Scopes.{StatementEnv, Checked, pure_checked, follow, single, concat_checked}
use Rattle.go_package_laws.proofs.Soundness.{Table}
use Rattle.go_package_laws.proofs.Related.{Related, grows_none, Sure, sure_follow, sure_seen}

pub behind_more : (d : List ℕ) (ss ts : List Stmt) → declared_after_all d (pack_stmts (ss ++ ts)) ≡ declared_after_all (declared_after_all d (pack_stmts ss)) (pack_stmts ts)
behind_more d [] ts = refl
behind_more d (s ∷ ss) ts = behind_more (declared_after d s) ss ts

pub more_stmts : (g : Setting) (d : List ℕ) (ss ts : List Stmt) → AreStmts g d (pack_stmts ss) → AreStmts g (declared_after_all d (pack_stmts ss)) (pack_stmts ts) → AreStmts g d (pack_stmts (ss ++ ts))
more_stmts g d [] ts h k = k
more_stmts g d (s ∷ ss) ts h k = (h.0, more_stmts g (declared_after d s) ss ts h.1 k)

abbrev pub behind : List ℕ → List Stmt → List ℕ
behind d ss = declared_after_all d (pack_stmts ss)

module _ (w : Table) (g : Setting) where
  abbrev pub AreList : List ℕ → List Stmt → Type 0
  AreList d ss = AreStmts g d (pack_stmts ss)

  pub sure_none : Sure w g.locals behind AreList (pure_checked [])
  sure_none env = (grows_none env, λ d r lies none y is. (let same : [] ≡ y = cc in subst (λ (ss : List Stmt). AreList d ss × Related w g.locals env (behind d ss)) same (tt, r)))

  pub sure_appended : (a b : StatementEnv → Checked (List Stmt)) → Sure w g.locals behind AreList a → Sure w g.locals behind AreList b → Sure w g.locals behind AreList (concat_checked a b)
  sure_appended a b h k =
      sure_seen w g.locals (λ d (k : List Stmt × List Stmt). behind (behind d k.0) k.1) (λ d (k : List Stmt × List Stmt). AreList d k.0 × AreList (behind d k.0) k.1) behind AreList (λ k. k.0 ++ k.1) (follow a b)
      (λ d k p. (more_stmts g d k.0 k.1 p.0 p.1, sym (behind_more d k.0 k.1))) (sure_follow w g.locals behind AreList behind AreList a b h k)

  pub sure_single : (form : StatementEnv → Checked Stmt) → Sure w g.locals declared_after (IsStmt g) form → Sure w g.locals behind AreList (single form)
  sure_single form h = sure_seen w g.locals declared_after (IsStmt g) behind AreList (λ s. s ∷ []) form (λ d s p. ((p, tt), refl)) h
