use Rattle.std.proofs.Common.{◌≡◌, ◌++◌, rules, arith, get_or}
use Rattle.std.proofs.lemmas.Grind.{common_steps}
use Rattle.ws_run.specs.Printing.{folders_of}
use Rattle.goset_cli.proofs.Rows.{all_rows, faulty_row, plain_row, with_row, without_row}
use Rattle.goset_cli.proofs.diagnostics.diagnoses.Goals as goal
use Rattle.goset_cli.proofs.diagnostics.diagnoses.Goals.{in-Faulty+in_ok-more+in_ok-extend_from_slice, in_default}

pub loop-directory-preserved : goal.loop-directory-preserved
loop-directory-preserved c =
    let at : c.loop-directory-item.result ≡ get_or c.args.report.now.directories.items c.loop-directory.directory-index c.loop-directory-item.result =
    first_of (search rules, cc) in
    elim c.match-verdict.branch [
      | in-Faulty+in_ok-more+in_ok-extend_from_slice w ↦
          let grows : c.match-verdict.text.items ≡ c.loop-directory.text.items ++ w.in_ok-more.more.items = first_of (search rules, grind (arith, common_steps)) in
          with_row c.args.edition (folders_of c.args.folders.now) c.args.files.now c.args.report.now.directories.items c.loop-directory.directory-index c.loop-directory-item.result
          c.loop-directory.text.items w.in_ok-more.more.items c.match-verdict.text.items (omega arith) at
          (faulty_row c.args.edition (folders_of c.args.folders.now) c.args.files.now c.loop-directory-item.result w.in-Faulty.fault w.as_str.result.now
          w.in_ok-more.more.items w.in-Faulty.is w.as_str.ensures.value w.in_ok-more.ensures) grows c.loop-directory.invariant
      | in_default w ↦
          let same : c.match-verdict.text.items ≡ c.loop-directory.text.items = first_of (search rules, cc) in
          without_row c.args.edition (folders_of c.args.folders.now) c.args.files.now c.args.report.now.directories.items c.loop-directory.directory-index c.loop-directory-item.result
          c.loop-directory.text.items c.match-verdict.text.items (omega arith) at
          (plain_row c.args.edition (folders_of c.args.folders.now) c.args.files.now c.loop-directory-item.result w.in_default.not-Faulty) same c.loop-directory.invariant
    ]

pub returns : goal.returns
returns c = all_rows c.args.edition (folders_of c.args.folders.now) c.args.files.now c.args.report.now.directories.items c.loop-directory.directory-index
    c.loop-directory.text.items (omega arith) c.loop-directory.invariant
