use Rattle.std.proofs.Common.{◌≡◌, true, ◌&&◌, map, ap, sym, ◌∙◌}
use Rattle.std.specs.Arc.{arc_value}
use Rattle.ws_action.specs.Actions.{source_with_name, named_summary, ascends}
use Rattle.ws_action.proofs.Imports.{named_imports}
use Rattle.ws_action.proofs.are_ordered.Goals as goal

pub returns-then-ascend : goal.returns-then-ascend
returns-then-ascend c =
    let first : ascends (map source_with_name c.args.files.now) ≡ true = sym c.ascend.ensures ∙ c.if-ascend.true in
    c.ascend-then-ascend.ensures ∙ ap ascends (named_imports c.args.imports.now) ∙ ap (λ b. b && ascends (map named_summary (map arc_value c.args.imports.now))) (sym first)
