use Rattle.std.proofs.Common.{ap, ◌∙◌}
use Rattle.go_types.specs.Types.{struct}
use Rattle.go_expr.proofs.Nodes.{fields_packed}
use Rattle.go_expr.proofs.type_expr.struct_of.Goals as goal

pub returns : goal.returns
returns c =
    ap struct (c.in_ok-new.ensures.ok ∙ c.new.ensures) ∙ ap struct (fields_packed c.args.fields.items)
