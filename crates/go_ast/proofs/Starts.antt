-- What a statement begins with.
use Rattle.std.proofs.Common.{◌≡◌, ◌⊎◌, inl, inr, Bool, true, false, ◌||◌, List, ◌∷◌, sym, ap, ◌∙◌}
use Rattle.go_text.specs.declared.edition.Edition.{Edition}
use Rattle.go_scan.specs.declared.token.TokenKind.{TokenKind}
use Rattle.go_scan.specs.declared.keyword.Keyword.TheVariants as keywords
use Rattle.go_ast.specs.Kinds.{same}
use Rattle.go_ast.specs.Trees.{Simple, Decl, constants, variables, types, Statement, empty, declaration, simple, return, break, continue, fallthrough, block_statement, if_statement, for_statement, range_statement, switch_statement, block, conditional}
use Rattle.go_ast.specs.Grammar.{Lexeme, opening_brace, semicolon, IsSimple, IsDecl, declares_types, IsStmt}
use Rattle.go_ast.specs.Machine.{keyword, begins_expr}
use Rattle.go_ast.proofs.Means.{begins_stmt}
use Rattle.go_ast.proofs.Base.{false_true, right_true, first_is}
use Rattle.go_ast.proofs.Operands.{expr_first}
use Rattle.go_ast.proofs.Simple.{simple_forth}

pub simple_first : (ed : Edition) → (h : Bool) (s : Simple) (t : Lexeme) (us ws : List Lexeme) → IsSimple ed h s (t ∷ us) ws → begins_expr t.kind ≡ true
simple_first ed h s t us ws d = let b = simple_forth ed h s (t ∷ us) ws d in expr_first ed 5 h b.0 t us b.1 b.2

abbrev begins_otherwise : TokenKind → Bool
begins_otherwise k =
    same (keyword keywords.Const) k || same (keyword keywords.Var) k || same (keyword keywords.Return) k || same (keyword keywords.Break) k
    || same (keyword keywords.Continue) k || same (keyword keywords.Fallthrough) k || same opening_brace k || same (keyword keywords.If) k
    || same (keyword keywords.For) k || same (keyword keywords.Switch) k

decl_first : (ed : Edition) → (x : Decl) (t : Lexeme) (us ws : List Lexeme) → IsDecl ed x (t ∷ us) ws → declares_types x ≡ false → begins_stmt t.kind ≡ true
decl_first ed (constants p ss) t us ws d e = ap begins_stmt (first_is (keyword keywords.Const) t d.0 us d.1 d.2).2
decl_first ed (variables p ss) t us ws d e = ap begins_stmt (first_is (keyword keywords.Var) t d.0 us d.1 d.2).2
decl_first ed (types p ss) t us ws d e = absurd (false_true (sym e))

-- it is empty, in front of a semicolon, or begins so
pub stmt_starts : (ed : Edition) → (s : Statement) (t : Lexeme) (us ws : List Lexeme) → IsStmt ed s (t ∷ us) ws →
    ((s ≡ empty t.place) × (t.kind ≡ semicolon) × (t ∷ us ≡ ws)) ⊎ (begins_stmt t.kind ≡ true)
stmt_starts ed (empty p) t us ws d =
    let h = first_is semicolon t d.0 us d.1 d.2 in
    inl (ap empty (d.3 ∙ ap (λ (x : Lexeme). x.place) (sym h.0)), h.2, d.4)
stmt_starts ed (declaration p x) t us ws d = inr (decl_first ed x t us ws d.0 d.2)
stmt_starts ed (simple p s) t us ws d = inr (right_true (begins_otherwise t.kind) (begins_expr t.kind) (simple_first ed false s t us ws d.0))
stmt_starts ed (return p es) t us ws d = inr (ap begins_stmt (first_is (keyword keywords.Return) t d.0 us d.1 d.2).2)
stmt_starts ed (break p) t us ws d = inr (ap begins_stmt (first_is (keyword keywords.Break) t d.0 us ws d.1).2)
stmt_starts ed (continue p) t us ws d = inr (ap begins_stmt (first_is (keyword keywords.Continue) t d.0 us ws d.1).2)
stmt_starts ed (fallthrough p) t us ws d = inr (ap begins_stmt (first_is (keyword keywords.Fallthrough) t d.0 us ws d.1).2)
stmt_starts ed (block_statement (block p ss q)) t us ws d = inr (ap begins_stmt (first_is opening_brace t d.0 us d.2 d.4).2)
stmt_starts ed (if_statement (conditional p i e b r)) t us ws d = inr (ap begins_stmt (first_is (keyword keywords.If) t d.0 us d.1 d.5).2)
stmt_starts ed (for_statement p i c n b) t us ws d = inr (ap begins_stmt (first_is (keyword keywords.For) t d.0 us d.1 d.3).2)
stmt_starts ed (range_statement p n e b) t us ws d = inr (ap begins_stmt (first_is (keyword keywords.For) t d.0 us d.2 d.6).2)
stmt_starts ed (switch_statement p i e cs) t us ws d = inr (ap begins_stmt (first_is (keyword keywords.Switch) t d.0 us d.3 d.8).2)
