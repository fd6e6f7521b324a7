use Rattle.std.proofs.Common.{◌≡◌, ◌∙◌, List, sym, ap, subst, map, length}
use Rattle.std.specs.List.{AllZip}
use Rattle.ws_board.specs.Work.{Job, Opening}
use Rattle.ws_board.specs.Calls.{result_at}
use Rattle.ws_report.specs.declared.Report.{Report}
use Rattle.ws_replica.specs.Jobs.{Place, AllAreVerdicts, report_rows}
use Rattle.ws_replica.specs.Parts.{target_part, AllPartsWithin, IsReportPart}
use Rattle.ws_replica.proofs.PartSteps.{run_length}
use Rattle.ws_replica.proofs.building.run.Goals as goal

pub part_reports-requires : goal.part_reports-requires
part_reports-requires g c =
    let told = subst (λ (ps : List (List Place)). AllAreVerdicts (result_at c.in_ok-built.built) 0 ps (map report_rows c.in_ok-told.told.items)) c.in_ok-places.ensures.places c.in_ok-told.ensures.verdicts in
    let same : length c.args.all.items ≡ length c.as_slice-2.result.now = run_length (result_at c.in_ok-built.built) c.args.all.items c.in_ok-told.told.items told ∙ ap (λ (rs : List Report). length rs) (sym c.as_slice-2.ensures.value) in
    subst (λ n. AllPartsWithin n c.args.parts.now) same c.requires.within

pub returns : goal.returns
returns g c = record {
  told = c.in_ok-told.told.items;
  run = record {
    board = c.in_ok-built.built;
    opening = c.in_ok-built.ensures.opening ∙ ap (λ (js : List Job). let o : Opening = record { jobs = js; cache = c.args.opening } in o) c.in_ok-places.ensures.jobs;
    ends = c.in_ok-built.ensures.ends;
    told = subst (λ (ps : List (List Place)). AllAreVerdicts (result_at c.in_ok-built.built) 0 ps (map report_rows c.in_ok-told.told.items)) c.in_ok-places.ensures.places c.in_ok-told.ensures.verdicts;
    counts = c.in_ok-told.ensures.counts;
    added_are = c.into_added.ensures;
  };
  reports_are = subst (λ (rs : List Report). AllZip (IsReportPart rs) (map target_part c.args.parts.now) c.in_ok-reports.reports.items) c.as_slice-2.ensures.value c.in_ok-reports.ensures;
}
