use Rattle.std.proofs.Common.{◌∙◌, ap, refl}
use Rattle.std.specs.List.{filter_map, slice_get}
use Rattle.ws_report.specs.Reports.{verdict_rows}
use Rattle.ws_replica.specs.Jobs.{report_rows}
use Rattle.ws_replica.proofs.reporting.part_report.Goals as goal

pub returns : goal.returns
returns c = record {
  whole = c.told_at-whole.result.now;
  at = c.told_at-whole.ensures;
  rows = c.in_ok-directories.ensures ∙ ap (λ told. filter_map (slice_get (verdict_rows told)) c.deref-2.result.now) c.deref.ensures.value ∙ ap (filter_map (slice_get (report_rows c.told_at-whole.result.now))) c.deref-2.ensures.value;
  compiled = refl;
}
