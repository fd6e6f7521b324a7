use Rattle.std.proofs.Common.{ℕ, List, ◌++◌, drop}
use Rattle.ws_report.specs.Reports.{verdict_rows}
use Rattle.ws_run.specs.Printing.{folders_of}
use Rattle.goset_cli.specs.Diagnostics.{AreRowTexts}
use Rattle.goset_cli.proofs.diagnostics.diagnoses.Given as goal

-- the text so far, and those of the rows that are left, are the texts of all rows
abbrev pub invariant-loop-directory : goal.invariant-loop-directory
invariant-loop-directory l =
    (more : List ℕ) → AreRowTexts l.edition (folders_of l.folders) l.files (verdict_rows (drop l.directory-index l.report.directories.items)) more
    → AreRowTexts l.edition (folders_of l.folders) l.files (verdict_rows l.report.directories.items) (l.text.items ++ more)
