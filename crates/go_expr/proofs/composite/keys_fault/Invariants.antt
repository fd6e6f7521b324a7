use Rattle.std.proofs.Common.{◌≡◌, drop, map}
use Rattle.std.specs.List.{flat_map}
use Rattle.go_expr.specs.Rules.{key_fault, keys, least, lesser_fault}
use Rattle.go_expr.specs.Views.{keyed_part, fields_seen}
use Rattle.go_expr.proofs.composite.keys_fault.Given as goal

abbrev pub invariant-loop-element : goal.invariant-loop-element
invariant-loop-element l =
    lesser_fault l.fault (least (flat_map (key_fault l.path (fields_seen l.fields)) (keys (map keyed_part (drop l.element-index l.elements)))))
    ≡ least (flat_map (key_fault l.path (fields_seen l.fields)) (keys (map keyed_part l.elements)))
