use Rattle.std.proofs.Common.{◌≡◌, List, map, sym, subst}
use Rattle.std.specs.Arc.{arc_value}
use Rattle.go_ast.specs.Parse.{Parsed}
use Rattle.ws_action.specs.Actions.{MakeAction}
use Rattle.ws_board.specs.Work.{Work}
use Rattle.ws_board.proofs.Refused.{refused_not}
use Rattle.ws_board.proofs.work.Work.acted.Goals as goal

pub returns-in-Err-clause-none : goal.returns-in-Err-clause-none
returns-in-Err-clause-none c =
    let summaries = map arc_value c.args.imports.items in
    let same : arc_value c.in_ok-files.files ≡ arc_value c.self.inside.files = c.in_ok-files.ensures in
    λ make. refused_not c.self.inside.edition (arc_value c.in_ok-files.files) summaries c.in-Err.field-0 c.in-Err.ensures.refused
    (subst (λ (files : List Parsed). MakeAction c.self.inside.edition files summaries) (sym same) (subst (λ (w : Work). MakeAction w.edition w.files summaries) (sym c.self.view_is) make))
