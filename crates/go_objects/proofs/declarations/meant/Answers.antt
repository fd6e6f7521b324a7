use Rattle.std.proofs.Common.{◌≡◌, false, List, Option, length, nat_eq, sym, ap, ◌∙◌}
use Rattle.go_ast.specs.Trees as trees
use Rattle.go_ast.specs.Views.{type_of, exprs_in, if_some}
use Rattle.go_objects.specs.Views.{spec_of}
use Rattle.go_objects.proofs.Pairs.{meant_own, seen_option}
use Rattle.go_objects.proofs.declarations.meant.Goals as goal

pub returns : goal.returns
returns c =
    let spec = c.args.spec.now in
    let names_are = c.as_slice-names.ensures.value in
    let values_are = c.as_slice-values.ensures.value in
    let some : nat_eq (length spec.values.items) 0 ≡ false = ap (λ es. nat_eq (length es) 0) (sym values_are) ∙ sym c.is_empty.ensures ∙ c.if-is_empty.false in
    let specs : List trees.Name → Option trees.TypeExpr → trees.ExpressionList → trees.ConstSpec = λ ns t es. record { names = ns; type = t; values = es } in
    ap (λ (t : Option trees.TypeExpr). specs c.as_slice-names.result.now t (exprs_in c.as_slice-values.result.now)) (seen_option c.as_ref.result ∙ ap (if_some type_of) c.as_ref.ensures.value)
    ∙ ap (λ (ns : List trees.Name). specs ns (if_some type_of spec.type_expr) (exprs_in c.as_slice-values.result.now)) names_are
    ∙ ap (λ es. specs spec.names.items (if_some type_of spec.type_expr) (exprs_in es)) values_are
    ∙ sym (meant_own (spec_of c.args.before) spec.names.items (if_some type_of spec.type_expr) spec.values.items some)
