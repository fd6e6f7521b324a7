use Rattle.std.proofs.Common.{◌≤◌, ℕ, List, length, subst, arith}
use Rattle.ws_graph.specs.Discovery.{held_sources, string_texts, AddsPath, AddsPaths}
use Rattle.ws_graph.specs.declared.target.Target.{Target}
use Rattle.ws_graph.proofs.Imported.{paths_none, paths_next}
use Rattle.ws_graph.proofs.Places.{take_all}
use Rattle.ws_graph.proofs.discovery.add_paths.Goals as goal

pub loop-target-init : goal.loop-target-init
loop-target-init c = paths_none (held_sources c.args.registers.now) (string_texts c.args.imported.now.items)

pub loop-target-preserved : goal.loop-target-preserved
loop-target-preserved c =
    let sources = held_sources c.args.registers.now in
    paths_next sources c.args.targets.now c.loop-target.target-index c.target-item.result (string_texts c.args.imported.now.items) (string_texts c.loop-target.imported.items) (string_texts c.add_path.new.imported.items) c.target-item.is c.loop-target-test.true c.loop-target.invariant
    (subst (λ (p : List ℕ). AddsPath sources p (string_texts c.loop-target.imported.items) (string_texts c.add_path.new.imported.items)) c.as_slice.ensures.value c.in_ok-add_path.ensures)

pub returns : goal.returns
returns c =
    let end : length c.args.targets.now ≤ c.loop-target.target-index = omega arith in
    subst (λ (l : List Target). AddsPaths (held_sources c.args.registers.now) l (string_texts c.args.imported.now.items) (string_texts c.loop-target.imported.items)) (take_all c.args.targets.now c.loop-target.target-index end) c.loop-target.invariant
