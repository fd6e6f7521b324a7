use Rattle.std.proofs.Common.{◌≤◌, length, map, subst, arith}
use Rattle.go_ast.specs.Views.{file_of, import_of}
use Rattle.ws_graph.specs.BuildPlan.{directory_imports}
use Rattle.ws_graph.specs.Discovery.{AddsTargets, string_texts}
use Rattle.ws_graph.proofs.Adding.{adds_none, adds_next}
use Rattle.ws_graph.proofs.Places.{take_all}
use Rattle.ws_graph.proofs.target.add_file.Goals as goal

pub loop-spec-init : goal.loop-spec-init
loop-spec-init c = adds_none (string_texts c.args.all.now) c.args.targets.now.items

pub loop-spec-preserved : goal.loop-spec-preserved
loop-spec-preserved c =
    adds_next (string_texts c.args.all.now) c.name-name.result.now c.deref-spec-items.result.now c.loop-spec.spec-index c.spec-item.result c.args.targets.now.items c.loop-spec.targets.items c.add_target.new.targets.items
    c.spec-item.is c.loop-spec-test.true c.loop-spec.invariant c.in_ok-add_target.ensures

pub returns : goal.returns
returns c =
    let specs = c.deref-spec-items.result.now in
    let shown = c.deref-spec-items.ensures.value in
    let end : length specs ≤ c.loop-spec.spec-index = omega arith in
    let whole = take_all specs c.loop-spec.spec-index end in
    let named = c.name-name.ensures in (
      file_of c.file.result.now,
      c.file.ensures,
      subst (λ l. AddsTargets (string_texts c.args.all.now) (directory_imports c.args.file.now.name (map import_of l)) c.args.targets.now.items c.loop-spec.targets.items) shown
          (subst (λ n. AddsTargets (string_texts c.args.all.now) (directory_imports n (map import_of specs)) c.args.targets.now.items c.loop-spec.targets.items) named
          (subst (λ l. AddsTargets (string_texts c.args.all.now) (directory_imports c.name-name.result.now (map import_of l)) c.args.targets.now.items c.loop-spec.targets.items) whole c.loop-spec.invariant)),
    )
