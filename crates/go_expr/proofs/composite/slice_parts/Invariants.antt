use Rattle.std.proofs.Common.{map}
use Rattle.go_text.specs.declared.fault.FaultKind.TheVariants.{LeftOut}
use Rattle.go_types.specs.Views.{go_type}
use Rattle.go_typed.specs.Views.{as_expr}
use Rattle.go_expr.specs.Rules.{assigned, any_keyed, when}
use Rattle.go_expr.specs.Views.{keyed_part}
use Rattle.go_expr.proofs.Gathering.{Leads}
use Rattle.go_expr.proofs.composite.slice_parts.Given as goal

abbrev pub invariant-loop-element : goal.invariant-loop-element
invariant-loop-element l =
    Leads as_expr l.all.values.items l.all.fault (map (λ e. assigned (go_type l.of) e.1) (map keyed_part l.element-iterator.rest.items))
    (when (any_keyed (map keyed_part l.fn.elements.items)) LeftOut) (map (λ e. assigned (go_type l.of) e.1) (map keyed_part l.fn.elements.items))
