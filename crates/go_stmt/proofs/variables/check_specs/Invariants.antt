use Rattle.std.proofs.Common.{drop, map}
use Rattle.std.specs.Option.{option_map}
use Rattle.go_ast.specs.Views.{var_of}
use Rattle.go_stmt.specs.Views.{context_of, env_of, typed_in}
use Rattle.go_stmt.specs.Statements.{specs_at}
use Rattle.go_stmt.proofs.Leading.{Leads}
use Rattle.go_stmt.proofs.variables.check_specs.Given as goal

abbrev pub invariant-loop-spec : goal.invariant-loop-spec
invariant-loop-spec l =
    Leads (specs_at (context_of l.context) l.place (map var_of l.specs) (env_of l.fn.env)) (option_map typed_in l.known)
    (specs_at (context_of l.context) l.place (map var_of (drop l.spec-index l.specs)) (env_of l.env))
