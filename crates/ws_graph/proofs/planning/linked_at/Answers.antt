use Rattle.std.proofs.Common.{rules, ap, sym, ◌∙◌, Some, string_bytes, subst}
use Rattle.ws_reach.specs.Reach.{rows_of}
use Rattle.ws_graph.specs.Discovery.{TargetFault}
use Rattle.ws_graph.proofs.Linked.{map_right}
use Rattle.ws_graph.proofs.planning.linked_at.Goals as goal

pub returns : goal.returns
returns c = record {
  targets = c.targets_at-targets.result.now;
  row = c.numbers_at.result.now;
  fault = c.in_ok-fault.fault;
  path = map_right string_bytes c.args.paths.now c.args.here c.path_at.result.now c.path_at.ensures ∙ ap Some (sym c.in_ok-path.ensures);
  targets_at = search rules;
  row_at = search rules;
  fault_is = subst (λ ts. TargetFault (rows_of c.args.links.now.closing.items) c.args.links.now.programs.items c.args.here ts c.in_ok-fault.fault) c.as_slice-2.ensures.value c.in_ok-fault.ensures;
  planned_is = c.with_fault.ensures;
  imports_are = c.in_ok-imports.ensures;
}
