use Rattle.std.proofs.Common.{rules, ◌≡◌, ◌≢◌, ◌+◌, ◌<◌, ◌≤◌, ◌∷◌, [], ◌++◌, codes, length, map, take, refl, subst, arith}
use Rattle.std.specs.List.{Contains}
use Rattle.ws_action.proofs.Imported.{AddsSpecs, imports_it, library_passed, path_added, specs_added}
use Rattle.ws_action.proofs.Mapped.{mapped_more}
use Rattle.ws_action.proofs.import.add_imports.Goals as goal
use Rattle.ws_action.proofs.import.add_imports.Goals.{then-ne+in_ok-push, else-ne}

pub loop-spec-preserved : goal.loop-spec-preserved
loop-spec-preserved c =
    let file = c.file.result.now in
    let specs = c.as_slice-specs.result.now in
    let i = c.loop-spec.spec-index in
    let spec = c.spec-item.result in
    let e = c.args.file.now.edition in
    let text = c.args.file.now.text in
    let old = map (λ p. p.now) c.args.paths.now.items in
    let mid = map (λ p. p.now) c.loop-spec.paths.items in
    let within : i < length specs = omega arith in
    elim c.if-ne.branch [
      | then-ne+in_ok-push w ↦ (
          let among : Contains specs spec = search rules in
          let other : spec.path.items ≢ codes "fmt" = search rules in
          let imports = imports_it e text spec.path.items file spec c.file.ensures (subst (λ l. Contains l spec) c.as_slice-specs.ensures.value among) refl other in
          let pushed = w.in_ok-push.ensures.items in
          let added : map (λ p. p.now) c.if-ne.paths.items ≡ mid ++ spec.path.items ∷ [] = mapped_more (λ p. p.now) c.loop-spec.paths.items c.if-ne.paths.items c.as_slice-path.result spec.path.items (search rules) c.as_slice-path.ensures.value in
          path_added specs i spec e text old mid _ within c.spec-item.is imports added c.loop-spec.invariant)
      | else-ne w ↦ (
          let library : spec.path.items ≡ codes "fmt" = search rules in
          let same : c.loop-spec.paths ≡ c.if-ne.paths = search rules in
          subst (λ v. AddsSpecs (take (i + 1) specs) e text old (map (λ p. p.now) v.items)) same (library_passed specs i spec e text old mid within c.spec-item.is library c.loop-spec.invariant))
    ]

pub returns : goal.returns
returns c =
    let over : length c.as_slice-specs.result.now ≤ c.loop-spec.spec-index = omega arith in
    specs_added c.args.file.now.edition c.args.file.now.text c.file.result.now c.as_slice-specs.result.now c.loop-spec.spec-index _ _ c.file.ensures c.as_slice-specs.ensures.value over c.loop-spec.invariant
