use Rattle.std.proofs.Common.{◌≡◌, Some, inl, rules}
use Rattle.std.proofs.lemmas.Result.{IfOk-weaker}
use Rattle.go_diagnostics.specs.Packages.{file_named}
use Rattle.go_diagnostics.proofs.diagnosis.diagnose.Goals as goal

pub returns-in-Some : goal.returns-in-Some
returns-in-Some c =
    let is : file_named c.args.directory.now c.args.fault.now.file c.args.files.now ≡ Some c.in-Some.file.now = first_of (search rules, cc) in
    IfOk-weaker c.diagnosis_in.result _ _ (λ text says. inl (c.in-Some.file.now, is, says)) c.diagnosis_in.ensures
