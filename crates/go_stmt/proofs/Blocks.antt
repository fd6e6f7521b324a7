-- Statements of a block, by the constants that it has before each.
use Rattle.std.proofs.Common.{◌≡◌, ℕ, ◌+◌, ◌<◌, List, [], ◌∷◌, ◌++◌, length, drop, take, get_or, map, append-nil, sym, ap, ◌∙◌}
use Rattle.std.specs.List.{flat_map}
use Rattle.std.proofs.lemmas.Grind.{flat_map-append}
use Rattle.std.proofs.lemmas.List.{map-append}
use Rattle.go_ast.specs.declared.statement.Stmt.{Stmt}
use Rattle.go_ast.specs.Views.{stmt_of}
use Rattle.go_stmt.specs.Scopes.{StatementEnv, Context, concat_checked}
use Rattle.go_stmt.specs.Statements.{constant_names, before_others, statement_at, list_at}
use Rattle.go_stmt.specs.Views.{constant_names_in, trees_in}
use Rattle.go_stmt.proofs.Naming.{next_taken}
use Rattle.go_stmt.proofs.Sequences.{left}

-- where a statement stands behind some of its block
abbrev pub turn : Context → List Stmt → ℕ → Context
turn k ss i = record k { constants = constant_names_in (take i ss) }

constants_more : (ss : List Stmt) (i : ℕ) (s : Stmt) → i < length ss → s ≡ get_or ss i s → constant_names_in (take i ss) ++ constant_names (stmt_of s) ≡ constant_names_in (take (i + 1) ss)
constants_more ss i s within is =
    sym (ap constant_names_in (next_taken ss i s within is)
    ∙ ap (flat_map constant_names) (map-append stmt_of (take i ss) (s ∷ []))
    ∙ flat_map-append constant_names (map stmt_of (take i ss)) (stmt_of s ∷ [])
    ∙ ap (λ l. constant_names_in (take i ss) ++ l) (append-nil (constant_names (stmt_of s))))

-- those that are left are the next one and the others
pub list_left : (k here : Context) (ss : List Stmt) (i : ℕ) (s : Stmt) (env : StatementEnv) → i < length ss → s ≡ get_or ss i s → here ≡ before_others (turn k ss i) (trees_in (drop (i + 1) ss)) →
    list_at (turn k ss i) (trees_in (drop i ss)) env ≡ concat_checked (statement_at here (stmt_of s)) (list_at (turn k ss (i + 1)) (trees_in (drop (i + 1) ss))) env
list_left k here ss i s env within is stands =
    let rest = trees_in (drop (i + 1) ss) in
    ap (λ (l : List Stmt). list_at (turn k ss i) (trees_in l) env) (left ss i s within is)
    ∙ ap (λ (x : Context). concat_checked (statement_at x (stmt_of s)) (list_at (record k { constants = constant_names_in (take i ss) ++ constant_names (stmt_of s) }) rest) env) (sym stands)
    ∙ ap (λ (l : List (List ℕ)). concat_checked (statement_at here (stmt_of s)) (list_at (record k { constants = l }) rest) env) (constants_more ss i s within is)
