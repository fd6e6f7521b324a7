use Rattle.std.proofs.Common.{List, subst, ◌∙◌}
use Rattle.ws_graph.specs.Node.{planned_of}
use Rattle.ws_graph.specs.Discovery.{held_sources, string_texts, AddsPaths}
use Rattle.ws_graph.specs.declared.target.Target.{Target}
use Rattle.ws_graph.proofs.Imported.{imported}
use Rattle.ws_graph.proofs.Named.{none_sorted}
use Rattle.ws_graph.proofs.discovery.add_imported.Goals as goal

pub returns : goal.returns
returns c =
    let sources = held_sources c.args.registers.now in
    let old = string_texts c.args.imported.now.items in
    let new = string_texts c.add_paths.new.imported.items in
    imported sources _ (planned_of c.args.node.now) c.in_ok-targets.targets.items old new c.in_ok-targets.ensures (subst (λ (l : List Target). AddsPaths sources l old new) c.as_slice-2.ensures.value c.in_ok-add_paths.ensures)

pub targets_of-requires : goal.targets_of-requires
targets_of-requires c = none_sorted c.as_slice.result.now (c.as_slice.ensures.value ∙ c.new-numbered.ensures.items)
