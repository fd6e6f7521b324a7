-- What is due at the parts of statements that have functions of their own.
use Rattle.std.specs.Prelude.{ℕ, ◌+◌, false, List, [], ◌∷◌, None}
use Rattle.go_scan.specs.declared.keyword.Keyword.TheVariants as keywords
use Rattle.go_ast.specs.Trees as trees
use Rattle.go_ast.specs.Expected.{Expected, an_operand, behind_a_jump, another}
use Rattle.go_ast.specs.Grammar.{Lexeme, closing_brace}
use Rattle.go_ast.specs.Machine.{Reader, Clause, token, optional, optional_expr, more_exprs, keyword, behind_const, behind_var, behind_return, behind_case, clause_body, pack_cases}

-- a declaration, or else something other
abbrev pub declared_or : ℕ → (trees.Statement → Reader) → Reader → Reader
declared_or l next none =
    optional (keyword keywords.Const) l (λ t. behind_const (l + 1) (λ d. next (trees.declaration t.place d)) t)
    (optional (keyword keywords.Var) l (λ t. behind_var (l + 1) (λ d. next (trees.declaration t.place d)) t) none)

-- values that may be missing
abbrev pub values_or_none : ℕ → (trees.ExpressionList → Reader) → Reader
values_or_none l next = optional_expr false l an_operand (λ e. more_exprs false l (e ∷ []) (λ es. next (trees.pack es))) (next trees.no_exprs)

-- a return or a jump, or else something other
abbrev pub jump_or : ℕ → (trees.Statement → Reader) → Reader → Reader
jump_or l next none =
    optional (keyword keywords.Return) l (behind_return l next)
    (optional (keyword keywords.Break) l (λ t. next (trees.break t.place))
    (optional (keyword keywords.Continue) l (λ t. next (trees.continue t.place))
    (optional (keyword keywords.Fallthrough) l (λ t. next (trees.fallthrough t.place)) none)))

-- what is expected behind a statement but a semicolon or the list's end
abbrev pub behind_of : trees.Statement → Expected
behind_of (trees.break p) = behind_a_jump
behind_of (trees.continue p) = behind_a_jump
behind_of _ = another

-- a clause behind these, or the end of a `switch`
abbrev pub clauses_behind : ℕ → List Clause → (trees.Cases → Lexeme → Reader) → Reader
clauses_behind l done next =
    optional (keyword keywords.Case) (l + 1) (behind_case l done next)
    (optional (keyword keywords.Default) 0 (λ t. clause_body l done next t.place None) (token closing_brace 0 another (next (pack_cases done))))
