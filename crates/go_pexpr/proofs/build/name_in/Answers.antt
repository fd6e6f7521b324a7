use Rattle.std.proofs.Common.{refl, ap, sym, ◌∙◌}
use Rattle.go_ast.specs.Trees as trees
use Rattle.go_ast.specs.Views.{expr_of}
use Rattle.go_ast.proofs.Rows.{name_seen}
use Rattle.go_pexpr.proofs.Built.{no_name}
use Rattle.go_pexpr.proofs.build.name_in.Goals as goal

pub returns-in-Name-clause-name : goal.returns-in-Name-clause-name
returns-in-Name-clause-name c =
    let p = c.args.expr.place in
    ap (λ k. expr_of (record { place = p; kind = k })) c.in-Name.is ∙ name_seen p c.in-Name.text ∙ sym (ap (λ (n : trees.Name). trees.name n.place n.text) c.new.ensures)

pub returns-in_default : goal.returns-in_default
returns-in_default c = record { name = tt; expr = refl; no_name = no_name c.args.expr c.in_default.not-Name }
