-- What is due behind the heads of `if`, `for` and `switch`, by what was read.
use Rattle.std.specs.Prelude.{ℕ, ◌+◌}
use Rattle.go_text.specs.declared.place.Place.{Place}
use Rattle.go_ast.specs.Trees as trees
use Rattle.go_ast.specs.Machine.{Reader, read_block, for_body, range_body}
use Rattle.go_ast.specs.Views.{expr_of, simple_of, if_boxed}
use Rattle.go_pstmt.specs.declared.for_loop.Turns.{Turns}
use Rattle.go_pstmt.specs.declared.for_loop.Turns.TheVariants as turns

abbrev pub by_turns : ℕ → Place → (trees.Statement → Reader) → Turns → Reader
by_turns l p next (turns.Steps i c s) = read_block (l + 1) (for_body l p next (if_boxed simple_of i) (if_boxed expr_of c) (if_boxed simple_of s))
by_turns l p next (turns.Range n e) = range_body l p next n (expr_of e.value)

-- a `for` of its head and its block
abbrev pub for_of : Place → Turns → trees.Block → trees.Statement
for_of p (turns.Steps i c s) b = trees.for_statement p (if_boxed simple_of i) (if_boxed expr_of c) (if_boxed simple_of s) b
for_of p (turns.Range n e) b = trees.range_statement p n (expr_of e.value) b
