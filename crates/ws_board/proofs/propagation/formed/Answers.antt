use Rattle.std.proofs.Common.{◌≡◌, List, Option, IfSome, IfNone, map, sym, subst}
use Rattle.std.specs.Arc.{arc_value}
use Rattle.std.specs.List.{All}
use Rattle.go_export.specs.Summaries.{Summary}
use Rattle.go_export.specs.Writable.{IsWritten}
use Rattle.ws_action.specs.Actions.{Action, MakeAction, IsSized}
use Rattle.ws_board.specs.Work.{acted}
use Rattle.ws_board.specs.Machine.{IsFormed}
use Rattle.ws_board.specs.Propagation.{held_by}
use Rattle.ws_board.specs.Ends.{job_imports_at}
use Rattle.ws_board.specs.Table.{job_states_of}
use Rattle.ws_board.proofs.Gathered.{Are, forms, forms_none, lacks_none}
use Rattle.ws_board.proofs.propagation.formed.Goals as goal

pub returns-in_default-clause-none : goal.returns-in_default-clause-none
returns-in_default-clause-none c =
    let h = held_by c.args.holds in
    let now = job_states_of c.args.rows.now.rows in
    let imports = job_imports_at c.args.rows.now.jobs.items c.args.job in
    lacks_none h now c.args.work.now imports (subst (λ o. IfNone o ((ss : List Summary) → ¬ (Are h now imports ss))) c.in_default.is c.in_ok-summaries.ensures.none)

pub returns-in_ok-new-in-Some-2-clause-some : goal.returns-in_ok-new-in-Some-2-clause-some
returns-in_ok-new-in-Some-2-clause-some c =
    let h = held_by c.args.holds in
    let now = job_states_of c.args.rows.now.rows in
    let work = c.args.work.now in
    let imports = job_imports_at c.args.rows.now.jobs.items c.args.job in
    let summaries = map arc_value c.in-Some.summaries.items in
    let action : Action = c.in-Some-2.action in
    let are : Are h now imports summaries = subst (λ o. IfSome o (λ ss. Are h now imports (map arc_value ss.items))) c.in-Some.is c.in_ok-summaries.ensures.some in
    let written : All IsWritten summaries = subst (λ o. IfSome o (λ ss. All IsWritten (map arc_value ss.items))) c.in-Some.is c.in_ok-summaries.ensures.written in
    let is : action ≡ acted work summaries = subst (λ (o : Option Action). IfSome o (λ a. a ≡ acted work summaries)) c.in-Some-2.is c.in_ok-action.ensures.is in
    let make : MakeAction work.edition work.files summaries = subst (λ (o : Option Action). IfSome o (λ a. MakeAction work.edition work.files summaries)) c.in-Some-2.is c.in_ok-action.ensures.make in
    let sized : IsSized action = subst (λ (o : Option Action). IfSome o (λ a. IsSized a)) c.in-Some-2.is c.in_ok-action.ensures.sized in
    subst (IsFormed h now work imports) (sym c.in_ok-new-in-Some-2.ensures) (forms h now work imports summaries action are written is make sized)

pub returns-in-None-clause-none : goal.returns-in-None-clause-none
returns-in-None-clause-none c =
    let h = held_by c.args.holds in
    let now = job_states_of c.args.rows.now.rows in
    let work = c.args.work.now in
    let imports = job_imports_at c.args.rows.now.jobs.items c.args.job in
    let summaries = map arc_value c.in-Some.summaries.items in
    let are : Are h now imports summaries = subst (λ o. IfSome o (λ ss. Are h now imports (map arc_value ss.items))) c.in-Some.is c.in_ok-summaries.ensures.some in
    forms_none h now work imports summaries are (subst (λ (o : Option Action). IfNone o (¬ (MakeAction work.edition work.files summaries))) c.in-None.is c.in_ok-action.ensures.none)
