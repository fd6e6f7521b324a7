use Rattle.std.proofs.Common.{[], None, drop, map}
use Rattle.std.specs.Option.{option_map}
use Rattle.go_ast.specs.Trees.{no_exprs}
use Rattle.go_ast.specs.Views.{const_of}
use Rattle.go_stmt.specs.Views.{context_of, env_of, constant_spec, typed_in}
use Rattle.go_stmt.specs.Statements.{group_at}
use Rattle.go_stmt.proofs.Leading.{Leads}
use Rattle.go_stmt.proofs.constants.check_group.Given as goal

abbrev pub invariant-loop-iota : goal.invariant-loop-iota
invariant-loop-iota l =
    Leads (group_at (context_of l.context) l.place 0 (record { names = []; type = None; values = no_exprs }) (map const_of l.specs) (env_of l.fn.env)) (option_map typed_in l.known)
    (group_at (context_of l.context) l.place l.iota (constant_spec l.before) (map const_of (drop l.iota l.specs)) (env_of l.env))
