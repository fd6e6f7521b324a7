use Rattle.std.proofs.Common.{sym}
use Rattle.go_types.specs.Views.{go_type}
use Rattle.go_typed.specs.Views.{as_expr}
use Rattle.go_stmt.proofs.Locals.{unknown_assigned}
use Rattle.go_stmt.proofs.constants.declared_by.Goals as goal

pub returns-in_default : goal.returns-in_default
returns-in_default c = unknown_assigned (go_type c.args.of.now) (as_expr c.args.value.now) (sym c.in_default.ensures)
