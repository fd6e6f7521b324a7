use Rattle.std.proofs.Common.{rules, map, ap, subst, ◌∙◌}
use Rattle.std.specs.Arc.{arc_value}
use Rattle.ws_action.specs.Actions.{named_summary, AreSized}
use Rattle.ws_action.proofs.Imports.{named_imports}
use Rattle.ws_action.proofs.Action.new.Goals as goal

pub returns-clause-sized : goal.returns-clause-sized
returns-clause-sized c = record {
  path = search rules;
  files = search rules;
  imports = subst AreSized (ap (map (λ s. named_summary (arc_value s))) c.deref-4.ensures.value ∙ named_imports c.args.imports.items) c.measure-2.ensures;
}
