use Rattle.std.proofs.Common.{◌≡◌, ◌+◌, ◌<◌, ◌∷◌, ◌++◌, List, [], length, map, drop, ap, ◌∙◌, arith, sym}
use Rattle.std.specs.List.{flat_map}
use Rattle.std.proofs.lemmas.Grind.{flat_map-append}
use Rattle.go_expr.specs.Rules.{key_fault, keys, least, lesser_fault}
use Rattle.go_expr.specs.Views.{keyed_part, fields_seen}
use Rattle.go_expr.specs.declared.composite.Element.{Element}
use Rattle.go_expr.proofs.Elements.{keys_begin}
use Rattle.go_expr.proofs.Gathering.{fault_next}
use Rattle.go_expr.proofs.Lists.{left}
use Rattle.go_expr.proofs.composite.keys_fault.Goals as goal

pub loop-element-preserved : goal.loop-element-preserved
loop-element-preserved c =
    let es = c.args.elements.now in
    let i = c.loop-element.element-index in
    let e = c.element-item.result in
    let within : i < length es = omega arith in
    let kinds = key_fault c.args.path.now (fields_seen c.args.fields.now) in
    let own = keys (keyed_part e ∷ []) in
    let rest = keys (map keyed_part (drop (i + 1) es)) in
    let begins : flat_map kinds (keys (map keyed_part (drop i es))) ≡ flat_map kinds own ++ flat_map kinds rest =
    ap (λ (l : List Element). flat_map kinds (keys (map keyed_part l))) (left es i e within c.element-item.is)
    ∙ ap (flat_map kinds) (keys_begin (keyed_part e) (map keyed_part (drop (i + 1) es))) ∙ flat_map-append kinds own rest in
    fault_next c.loop-element.fault c.lesser-fault.result c.element_fault.result (flat_map kinds own) (flat_map kinds rest) _ c.lesser-fault.ensures c.element_fault.ensures
    (ap (λ l. lesser_fault c.loop-element.fault (least l)) (sym begins) ∙ c.loop-element.invariant)
