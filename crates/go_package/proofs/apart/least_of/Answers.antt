use Rattle.std.proofs.Common.{◌≡◌, ◌+◌, ◌<◌, ◌++◌, List, length, map, drop, ap, ◌∙◌, sym, arith}
use Rattle.std.specs.List.{flat_map}
use Rattle.std.proofs.lemmas.List.{map-append}
use Rattle.go_text.specs.declared.fault.FaultKind.{FaultKind}
use Rattle.go_expr.specs.Rules.{least, lesser_fault}
use Rattle.go_expr.proofs.Gathering.{fault_next}
use Rattle.go_objects.proofs.Signatures.{next_of}
use Rattle.go_objects.specs.Views.{object_view}
use Rattle.go_objects.specs.declared.object.Object.{Object}
use Rattle.go_package.specs.Faults.{object_faults, Faults}
use Rattle.go_package.specs.Views.{facts_of}
use Rattle.go_package.proofs.apart.least_of.Goals as goal

pub loop-object-preserved : goal.loop-object-preserved
loop-object-preserved c =
    let os = c.args.objects.now in
    let i = c.loop-object.object-index in
    let o = c.object-item.result in
    let within : i < length os = omega arith in
    let faults = object_faults (facts_of c.args.facts.now) in
    let kinds : Faults → List FaultKind = λ fs. map (λ f. f.1) fs in
    let rest = flat_map faults (map object_view (drop (i + 1) os)) in
    let begins : kinds (flat_map faults (map object_view (drop i os))) ≡ kinds (faults (object_view o)) ++ kinds rest =
    ap (λ (l : List Object). kinds (flat_map faults (map object_view l))) (next_of os i o o within c.object-item.is) ∙ map-append (λ f. f.1) (faults (object_view o)) rest in
    fault_next c.loop-object.least c.lesser-least.result c.in_ok-own_fault.field-0 (kinds (faults (object_view o))) (kinds rest) _ c.lesser-least.ensures c.in_ok-own_fault.ensures
    (ap (λ l. lesser_fault c.loop-object.least (least l)) (sym begins) ∙ c.loop-object.invariant)
