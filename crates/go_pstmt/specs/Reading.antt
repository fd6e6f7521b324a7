-- What the functions did that read parts of statements, whatever is due behind these.
use Rattle.std.specs.Prelude.{◌≡◌, ℕ, ◌+◌, ◌++◌, Bool, true, List, [], ◌∷◌, map, Result, Option, Some, None, IfOk}
use Rattle.std.specs.Global.{Vec}
use Rattle.go_text.specs.declared.edition.Edition.{Edition}
use Rattle.go_text.specs.declared.place.Place.{Place}
use Rattle.go_scan.specs.declared.token.TokenKind.{TokenKind}
use Rattle.go_scan.specs.declared.token.TokenKind.TheVariants as kinds
use Rattle.go_scan.specs.declared.keyword.Keyword.TheVariants as keywords
use Rattle.go_ast.specs.declared.expression.Expr.{Expr}
use Rattle.go_ast.specs.declared.statement.Clause.{Clause}
use Rattle.go_ast.specs.declared.statement.Else.{Else}
use Rattle.go_ast.specs.declared.statement.Simple.{Simple}
use Rattle.go_ast.specs.declared.statement.Stmt.{Stmt}
use Rattle.go_ast.specs.Trees as trees
use Rattle.go_ast.specs.Expected.{Expected, a_value, an_operand, another}
use Rattle.go_ast.specs.Grammar.{Lexeme, assign, define}
use Rattle.go_ast.specs.Machine as machine
use Rattle.go_ast.specs.Machine.{Item, ListKind, Reader, behind_define, read_block, clause_start, else_part, expr, keyword, list_end, list_lefts, list_start, may_define, more_exprs, names_if, optional, switch_body, token, type_rest, value_list}
use Rattle.go_ast.specs.Views.{clause_of, else_of, expr_of, if_boxed, simple_of, stmt_of}
use Rattle.go_pexpr.specs.declared.parser.Parser.{Parser}
use Rattle.go_pexpr.specs.declared.parser.Refusal.{Refusal}
use Rattle.go_pexpr.specs.Reads.{IsNext, Reads, left}
use Rattle.go_pstmt.specs.Due.{clauses_behind}
use Rattle.go_pstmt.specs.Statements.{Between, Does, at_one, beginning, by_header, is_bare, on_alone, read_item, on_one, position_of}
use Rattle.go_pstmt.specs.Turns.{by_turns}
use Rattle.go_pstmt.specs.declared.for_loop.Turns.{Turns}
use Rattle.go_pstmt.specs.declared.header.Compared.{Compared}
use Rattle.go_pstmt.specs.declared.header.Condition.{Condition}
use Rattle.go_pstmt.specs.declared.simple.Header.{Header}
use Rattle.go_pstmt.specs.declared.simple.Position.{Position}

-- lists

-- an item of a list behind others
abbrev pub ReadsItem : {A : Type 0} → (k : ListKind) → Expected → (A → Item k) → Parser → Result A Refusal → Parser → Type 0
ReadsItem k due seen old result new =
    (front : List (Item k)) (next : List (Item k) → Lexeme → Reader)
    → Reads (list_start k front next) (λ n. list_end k due (front ++ seen n ∷ []) next) old result new

-- declarations

-- the values of a specification of constants without a type, which may be missing
abbrev pub const_values : ℕ → List trees.Name → (trees.ConstSpec → Reader) → Reader
const_values l names next =
    optional assign l (λ _. value_list l (λ es. next (record { names = names; type = None; values = es })))
    (next (record { names = names; type = None; values = trees.no_exprs }))

-- the values of a specification of variables without a type
abbrev pub var_values : ℕ → List trees.Name → (trees.VarSpec → Reader) → Reader
var_values l names next = token assign 0 another (λ _. value_list l (λ es. next (record { names = names; type = None; values = es })))

-- a specification of types
abbrev pub type_spec_at : ℕ → (trees.TypeSpec → Reader) → Reader
type_spec_at l next = token kinds.Name l another (type_rest l next)

-- simple statements

-- behind some of the left sides
abbrev pub read_lefts : Position → ℕ → List trees.Expression → (trees.Simple → Reader) → (trees.Expression → Reader) → (trees.Name → trees.Expression → Reader) → Reader
read_lefts p l es next alone range = machine.lefts (position_of p) (is_bare p) l es next alone range

-- in front of all of them
abbrev pub read_left : Position → ℕ → (trees.Simple → Reader) → (trees.Expression → Reader) → (trees.Name → trees.Expression → Reader) → Reader
read_left p l next alone range = expr 5 (is_bare p) l (beginning p) (λ e. read_lefts p l (e ∷ []) next alone range)

abbrev pub read_simple : Position → ℕ → (trees.Simple → Reader) → Reader
read_simple p l next = expr 5 (is_bare p) l (beginning p) (list_lefts (position_of p) (is_bare p) l next)

-- behind all left sides: their values
abbrev pub assigned_at : Bool → ℕ → trees.ExpressionList → (trees.Simple → Reader) → Reader
assigned_at h l ss next = token assign 0 another (λ _. expr 5 h l a_value (λ e. more_exprs h l (e ∷ []) (λ es. next (trees.assignment ss (trees.pack es)))))

-- behind names that are declared: their values, or a range
abbrev pub defined_at : Position → ℕ → List trees.Name → (trees.Simple → Reader) → (trees.Name → trees.Expression → Reader) → Reader
defined_at p l ns next range = token define 0 another (λ _. behind_define (position_of p) (is_bare p) l ns next range)

-- a simple statement, or what may stand in its place
abbrev pub ReadsHeader : ((trees.Simple → Reader) → (trees.Expression → Reader) → (trees.Name → trees.Expression → Reader) → Reader) → Parser → Result Header Refusal → Parser → Type 0
ReadsHeader due old result new =
    (next : trees.Simple → Reader) (alone : trees.Expression → Reader) (range : trees.Name → trees.Expression → Reader)
    → Reads (due next alone range) (by_header next alone range) old result new

-- a range over an expression, behind one name
abbrev pub ReadsRange : ℕ → List trees.Name → Parser → Result Header Refusal → Parser → Type 0
ReadsRange l names old result new =
    (n : trees.Name) (next : trees.Simple → Reader) (alone : trees.Expression → Reader) (range : trees.Name → trees.Expression → Reader) → names ≡ n ∷ []
    → Reads (token (keyword keywords.Range) 0 another (λ _. expr 5 true l an_operand (λ e. range n e))) (by_header next alone range) old result new

-- the left sides
abbrev pub ReadsLefts : Position → ℕ → Parser → Result (Vec Expr) Refusal → Parser → Type 0
ReadsLefts p l old result new =
    (next : trees.Simple → Reader) (alone : trees.Expression → Reader) (range : trees.Name → trees.Expression → Reader)
    → Reads (read_left p l next alone range) (λ es. read_lefts p l (map expr_of es.items) next alone range) old result new

-- what follows one left side, where neither another nor `=` nor a short variable declaration does
abbrev pub ReadsAlone : Position → Expr → Parser → Result Header Refusal → Parser → Type 0
ReadsAlone p side old result new =
    (before : Reader) (next : trees.Simple → Reader) (alone : trees.Expression → Reader) (range : trees.Name → trees.Expression → Reader)
    → Does old.edition before (on_alone old.edition (position_of p) (expr_of side) next alone) (at_one (expr_of side) next) (left old)
    → Reads before (by_header next alone range) old result new

-- what follows left sides, where these are one
abbrev pub ReadsBehindOne : Position → ℕ → List Expr → Parser → Result Header Refusal → Parser → Type 0
ReadsBehindOne p l sides old result new =
    (side : Expr) (before : Reader) (next : trees.Simple → Reader) (alone : trees.Expression → Reader) (range : trees.Name → trees.Expression → Reader) → sides ≡ side ∷ []
    → Does old.edition before (on_one old.edition (position_of p) (is_bare p) l (expr_of side) next alone) (at_one (expr_of side) next) (left old)
    → Reads before (by_header next alone range) old result new

-- a simple statement alone was made
abbrev pub IsStated : Simple → Result Header Refusal → Type 0
IsStated simple result =
    (next : trees.Simple → Reader) (alone : trees.Expression → Reader) (range : trees.Name → trees.Expression → Reader)
    → IfOk result (λ h. by_header next alone range h ≡ next (simple_of simple))

-- names stand in front of a `:=` that may stand there
abbrev pub Defines : Position → Parser → List trees.Expression → List trees.Name → Type 0
Defines p r sides names = IsNext define r × (may_define (position_of p) ≡ true) × (names_if sides ≡ Some names)

-- heads of `if`, `for` and `switch`

-- a value that may be missing, and the mark behind it
abbrev pub read_value_if : ℕ → TokenKind → (Option trees.Expression → Reader) → Reader
read_value_if l mark next = optional mark 0 (λ _. next None) (expr 5 true l an_operand (λ e. token mark 0 another (λ _. next (Some e))))

abbrev pub by_condition : ℕ → Place → (trees.If → Reader) → Condition → Reader
by_condition l p next h = read_block (l + 1) (λ b. else_part l p (if_boxed simple_of h.init) (expr_of h.condition.value) b next)

abbrev pub by_compared : ℕ → Place → (trees.Statement → Reader) → Compared → Reader
by_compared l p next h = switch_body l p next (if_boxed simple_of h.init) (if_boxed expr_of h.value)

-- the head of a `for`
abbrev pub ReadsTurns : ℕ → (Place → (trees.Statement → Reader) → Reader) → Parser → Result Turns Refusal → Parser → Type 0
ReadsTurns l due old result new = (p : Place) (next : trees.Statement → Reader) → Reads (due p next) (by_turns l p next) old result new

-- statements

-- what follows `else`, or its want
abbrev pub ReadsElse : ℕ → Parser → Result Else Refusal → Parser → Type 0
ReadsElse l old result new =
    (p : Place) (i : Option trees.Simple) (c : trees.Expression) (b : trees.Block) (next : trees.If → Reader)
    → Reads (else_part l p i c b next) (λ e. next (trees.conditional p i c b (else_of e))) old result new

-- the head of a clause, behind others
abbrev pub ReadsClause : ℕ → Parser → Result Clause Refusal → Parser → Type 0
ReadsClause l old result new =
    (done : List machine.Clause) (next : trees.Cases → Lexeme → Reader)
    → Reads (clauses_behind l done next) (λ c. clause_start l done c.place (clause_of c).1.0 [] next) old result new

-- the statements of a clause, behind other clauses
abbrev pub ReadsClauseBody : ℕ → Parser → Result (Vec Stmt) Refusal → Parser → Type 0
ReadsClauseBody l old result new =
    (done : List machine.Clause) (p : Place) (values : Option trees.ExpressionList) (next : trees.Cases → Lexeme → Reader)
    → Reads (clause_start l done p values [] next) (λ ss. clauses_behind l (done ++ (p, (values, map stmt_of ss.items)) ∷ []) next) old result new

-- an item of a list of statements, behind those that were read, to those that are
abbrev pub ReadsStatement : ℕ → List trees.Statement → List trees.Statement → Parser → Result (Unit {0}) Refusal → Parser → Type 0
ReadsStatement l were are old result new =
    (before : Reader) (next : Expected → List trees.Statement → Reader) (front : List trees.Statement → Reader)
    → Does old.edition before (read_item l (λ x s. next x (were ++ s ∷ [])) (λ s. front (were ++ s ∷ []))) None (left old)
    → ((ed : Edition) (x : Expected) (ss : List trees.Statement) → Between ed (next x ss) x (front ss))
    → Reads before (λ _. front are) old result new
