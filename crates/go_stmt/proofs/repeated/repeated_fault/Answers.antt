use Rattle.std.proofs.Common.{◌∙◌}
use Rattle.std.specs.Option.{option_map}
use Rattle.go_ast.specs.Views.{type_of, exprs_in}
use Rattle.go_expr.specs.Views.{scope_of}
use Rattle.go_stmt.specs.Statements.{first_fault, first_faults, written_faults}
use Rattle.go_stmt.proofs.Repeats.{least_of_both}
use Rattle.go_stmt.proofs.repeated.repeated_fault.Goals as goal

pub returns : goal.returns
returns c =
    let s = scope_of c.args.scope.now in
    let t = option_map (λ t. type_of t.now) c.args.of in
    c.lesser.ensures ∙ least_of_both c.in_ok-written.written c.in_ok-least.least (first_fault (written_faults s t)) (first_faults s (exprs_in c.args.values.now)) c.in_ok-written.ensures c.in_ok-least.ensures
