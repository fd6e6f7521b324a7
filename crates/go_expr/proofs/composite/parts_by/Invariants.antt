use Rattle.std.proofs.Common.{◌≡◌, ◌+◌, List, length, map}
use Rattle.go_text.specs.declared.fault.FaultKind.{FaultKind}
use Rattle.go_typed.specs.Views.{part_view}
use Rattle.go_expr.specs.Rules.{least}
use Rattle.go_expr.specs.Views.{keyed_part, slots_of}
use Rattle.go_expr.proofs.Elements.{parts_from}
use Rattle.go_expr.proofs.Gathering.{Leads}
use Rattle.go_expr.proofs.composite.parts_by.Given as goal

abbrev pub invariant-loop-element : goal.invariant-loop-element
invariant-loop-element l = record {
  counted : l.number + length l.element-iterator.rest.items ≡ length l.fn.elements.items;
  leads : (ks : List FaultKind) → l.fn.fault ≡ least ks → Leads part_view l.all.values.items l.all.fault
      (parts_from (slots_of l.slots) l.number (map keyed_part l.element-iterator.rest.items)) ks (parts_from (slots_of l.slots) 0 (map keyed_part l.fn.elements.items));
}
