use Rattle.std.proofs.Common.{map, ap, sym, ◌∙◌, arith}
use Rattle.go_ast.specs.Trees as trees
use Rattle.go_ast.specs.Heights.{height}
use Rattle.go_ast.specs.Views.{type_of, element_of}
use Rattle.go_ast.proofs.Rows.{literal_seen}
use Rattle.go_pexpr.proofs.Built.{type_placed}
use Rattle.go_pexpr.proofs.build.composite_lit.Goals as goal

pub invariant_of-result : goal.invariant_of-result
invariant_of-result c = record { counted = omega (arith, ap height (literal_seen c.args.a.type_expr.place c.in_ok-of.of c.args.brace c.args.elements.items c.args.a.type_expr c.in_ok-of.ensures.ok), c.args.a.counted, c.args.elements.counted) }

pub returns-clause-expr : goal.returns-clause-expr
returns-clause-expr c = literal_seen c.args.a.type_expr.place c.in_ok-of.of c.args.brace c.args.elements.items c.args.a.type_expr c.in_ok-of.ensures.ok ∙ ap (λ p. trees.composite_lit p (type_of c.args.a.type_expr) c.args.brace (trees.pack_elements (map element_of c.args.elements.items.items))) (sym (type_placed c.args.a.type_expr))
