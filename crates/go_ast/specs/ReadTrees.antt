-- What the machine reads as a type or an expression, whatever is due behind it, and that the grammar derives it.
use Rattle.std.specs.Prelude.{◌≡◌, ◌≢◌, ℕ, ◌+◌, ◌≤◌, Bool, false, ◌&&◌, ◌||◌, not, List, [], ◌∷◌, None}
use Rattle.go_text.specs.declared.edition.Edition.{Edition}
use Rattle.go_scan.specs.declared.token.TokenKind.{TokenKind}
use Rattle.go_ast.specs.Expected.{Expected}
use Rattle.go_ast.specs.Grammar.{Lexeme, IsType, IsExpr, opening, opening_bracket, opening_brace, period}
use Rattle.go_ast.specs.Heights.{height, type_height}
use Rattle.go_ast.specs.Kinds.{same}
use Rattle.go_ast.specs.Machine.{Reader, type, expr, run_parser}
use Rattle.go_ast.specs.Operators.{binary_of}
use Rattle.go_ast.specs.Trees.{TypeExpr, Expression}

-- Whatever is due behind a tree, the machine comes from where the tree and then that is due, in front of the tokens us, to where that is due, in
-- front of ws. (The parser that is left may be of another edition.)
abbrev pub IsRead : {A : Type 0} → Edition → Edition → ℕ → ((A → Reader) → Reader) → A → List Lexeme → List Lexeme → Type 0
IsRead {A} e f levels due a us ws = (next : A → Reader) → run_parser e levels (due next) us ≡ run_parser f levels (next a) ws

-- no period is next, by which a name of a package would go on
abbrev pub TypeEnds : List Lexeme → Type 0
TypeEnds [] = Unit {0}
TypeEnds (t ∷ ts) = t.kind ≢ period

-- the tokens with which an expression goes on; a literal doesn't begin in a statement's header
abbrev pub is_suffix_start : Bool → TokenKind → Bool
is_suffix_start header kind = same period kind || same opening_bracket kind || same opening kind || (not header && same opening_brace kind)

-- no such token is next, and no operator
abbrev pub ExprEnds : Bool → List Lexeme → Type 0
ExprEnds header [] = Unit {0}
ExprEnds header (t ∷ ts) = (is_suffix_start header t.kind ≡ false) × (binary_of t.kind ≡ None)

-- what is read as a type at a level is one of the grammar, and lies within the levels
abbrev pub ReadsTypes : Edition → ℕ → ℕ → Expected → Type 0
ReadsTypes e levels l x =
    (f : Edition) (a : TypeExpr) (us ws : List Lexeme) → TypeEnds ws → IsRead e f levels (type l x) a us ws
    → IsType e a us ws × (l + type_height a ≤ levels + 1)

-- and so is an expression
abbrev pub ReadsExprs : Edition → ℕ → Bool → ℕ → Expected → Type 0
ReadsExprs e levels header l x =
    (f : Edition) (a : Expression) (us ws : List Lexeme) → ExprEnds header ws → IsRead e f levels (expr 5 header l x) a us ws
    → IsExpr e 5 header a us ws × (l + height a ≤ levels + 1)
