use Rattle.std.proofs.Common.{◌++◌, ap, ◌∙◌}
use Rattle.go_expr.specs.Views.{names_in}
use Rattle.go_stmt.proofs.Lookups.{locals_shown}
use Rattle.go_stmt.proofs.env.Env.scope.Goals as goal

pub returns : goal.returns
returns c =
    let a = c.args.context in
    c.in_blocks.ensures ∙ ap (λ names. record { path = a.path.now; names = names ++ names_in a.edition a.imports.now a.declared.now c.args.iota }) (locals_shown c.args.self.now.names)
