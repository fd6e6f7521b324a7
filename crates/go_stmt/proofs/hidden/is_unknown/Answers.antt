use Rattle.go_expr.specs.Known.{look_up_known}
use Rattle.go_expr.specs.Views.{scope_of}
use Rattle.go_stmt.proofs.Unknown.{found_unknown}
use Rattle.go_stmt.proofs.hidden.is_unknown.Goals as goal

pub returns-in-Ok : goal.returns-in-Ok
returns-in-Ok c =
    found_unknown c.args.place (look_up_known c.args.name.text.now (scope_of c.args.scope.now).names) c.in-Ok.known c.is_none.result c.in-Ok.ensures.0 c.in-Ok.ensures.1 c.is_none.ensures
