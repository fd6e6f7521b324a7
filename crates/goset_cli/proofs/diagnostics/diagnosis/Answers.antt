use Rattle.std.proofs.Common.{◌≡◌, ◌++◌, ◌∙◌, ℕ, List, ap, subst}
use Rattle.std.specs.Prelude.{IfOk}
use Rattle.go_diagnostics.specs.Diagnoses.{Diagnosed}
use Rattle.goset_cli.specs.Diagnostics.{path_of}
use Rattle.ws_run.specs.Printing.{folder_of, folders_of, in_folder}
use Rattle.goset_cli.proofs.diagnostics.diagnosis.Goals as goal

pub returns : goal.returns
returns c =
    let folder = folder_of (folders_of c.args.folders.now) c.args.directory.now in
    let same : c.as_str.result.now ≡ path_of (folders_of c.args.folders.now) c.args.directory.now c.args.fault.now.file =
    (c.as_str.ensures.value ∙ c.in_ok-path.ensures)
    ∙ (ap (λ (it : List ℕ). in_folder it ++ c.file.result.now) c.folder_of.ensures ∙ ap (λ (name : List ℕ). in_folder folder ++ name) c.file.ensures) in
    subst (λ (path : List ℕ). IfOk c.diagnose.result (λ text. Diagnosed c.args.edition path c.args.directory.now c.args.fault.now c.args.files.now text.items)) same
    c.diagnose.ensures
