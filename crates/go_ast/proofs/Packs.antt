-- Lists of arguments and of statements, and the trees that stand for them: the same tokens, and the same heights.
use Rattle.std.proofs.Common.{◌≡◌, ℕ, ◌+◌, ◌≤◌, true, List, [], ◌∷◌, refl, ap, arith}
use Rattle.go_text.specs.declared.edition.Edition.{Edition}
use Rattle.go_ast.specs.Trees.{Expression, ExpressionList, no_exprs, some_exprs, Statement, StatementList, no_stmts, some_stmts, pack, pack_statements}
use Rattle.go_ast.specs.Heights.{height, exprs_height, stmt_height, stmts_height}
use Rattle.go_ast.specs.Grammar.{Lexeme, comma, semicolon, AreItems, AreArguments, AreStmts}
use Rattle.go_ast.specs.Machine.{arguments, statements}
use Rattle.go_ast.proofs.Means.{IsItem, AllFit}
use Rattle.go_ast.proofs.Packed.{behind_as}
use Rattle.go_ast.proofs.Values.{list_of, stmts_of}

pub arguments_from : (ed : Edition) → (l : ℕ) (es : List Expression) (us ws : List Lexeme) → AreItems (IsItem ed (arguments l)) comma es us ws → AreArguments ed (pack es) us ws
arguments_from ed l [] us ws h = h
arguments_from ed l (e ∷ es) us ws h = (
  h.0,
  h.1,
  behind_as comma (AreItems (IsItem ed (arguments l)) comma es) (AreArguments ed (pack es)) (es ≡ []) (pack es ≡ no_exprs) h.0 ws
      (λ vs x. arguments_from ed l es vs ws x) (λ e. ap pack e) h.2,
)

pub arguments_to : (ed : Edition) → (l : ℕ) (es : ExpressionList) (us ws : List Lexeme) → AreArguments ed es us ws → AreItems (IsItem ed (arguments l)) comma (list_of es) us ws
arguments_to ed l no_exprs us ws h = h
arguments_to ed l (some_exprs e es) us ws h = (
  h.0,
  h.1,
  behind_as comma (AreArguments ed es) (AreItems (IsItem ed (arguments l)) comma (list_of es)) (es ≡ no_exprs) (list_of es ≡ []) h.0 ws
      (λ vs x. arguments_to ed l es vs ws x) (λ e. ap list_of e) h.2,
)

pub stmts_from : (ed : Edition) → (l : ℕ) (ss : List Statement) (us ws : List Lexeme) → AreItems (IsItem ed (statements l)) semicolon ss us ws →
    AreStmts ed true (pack_statements ss) us ws
stmts_from ed l [] us ws h = h
stmts_from ed l (s ∷ ss) us ws h = (
  h.0,
  h.1,
  behind_as semicolon (AreItems (IsItem ed (statements l)) semicolon ss) (AreStmts ed true (pack_statements ss)) (ss ≡ []) ((pack_statements ss ≡ no_stmts)
      × (true ≡ true)) h.0 ws
      (λ vs x. stmts_from ed l ss vs ws x) (λ e. (ap pack_statements e, refl)) h.2,
)

pub stmts_to : (ed : Edition) → (l : ℕ) (ss : StatementList) (us ws : List Lexeme) → AreStmts ed true ss us ws → AreItems (IsItem ed (statements l)) semicolon (stmts_of ss) us ws
stmts_to ed l no_stmts us ws h = h
stmts_to ed l (some_stmts s ss) us ws h = (
  h.0,
  h.1,
  behind_as semicolon (AreStmts ed true ss) (AreItems (IsItem ed (statements l)) semicolon (stmts_of ss)) ((ss ≡ no_stmts) × (true ≡ true)) (stmts_of ss ≡ []) h.0 ws
      (λ vs x. stmts_to ed l ss vs ws x) (λ e. ap stmts_of e.0) h.2,
)

-- heights of lists that are packed
module _ (ed : Edition) (B : ℕ) where
  pub fit_pack : (l : ℕ) (es : List Expression) → l + exprs_height (pack es) ≤ B + 1 → AllFit ed B height l es
  fit_pack l [] le = tt
  fit_pack l (e ∷ es) le = (omega (arith, le), fit_pack l es (omega (arith, le)))

  pub fit_pack_stmts : (l : ℕ) (ss : List Statement) → l + stmts_height (pack_statements ss) ≤ B + 1 → AllFit ed B stmt_height l ss
  fit_pack_stmts l [] le = tt
  fit_pack_stmts l (s ∷ ss) le = (omega (arith, le), fit_pack_stmts l ss (omega (arith, le)))
