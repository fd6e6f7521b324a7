use Rattle.std.proofs.Common.{◌<◌, length, arith}
use Rattle.std.proofs.lemmas.Result.{err_from_is_err_and}
use Rattle.go_package.specs.Packages.{file_faults}
use Rattle.go_package.specs.Views.{facts_of, texts_in, importables_of, initial_in, uses_in, functions_in}
use Rattle.go_package.specs.Typed.{top_initializations, top_uses, top_functions}
use Rattle.go_package.proofs.Several.{each_here, each_later}
use Rattle.go_package.proofs.Walks.{more_files}
use Rattle.go_package.proofs.check.check_files.Goals as goal

pub returns-in_err-check_numbered-clause-faults : goal.returns-in_err-check_numbered-clause-faults
returns-in_err-check_numbered-clause-faults c =
    let within : c.loop-number.number < length c.args.files.now = omega arith in
    let p = err_from_is_err_and c.from_residual.result c.from_residual.ensures.1 in
    rw (p.1, p.2) (each_here (file_faults (importables_of c.args.packages.now.all.now) (facts_of c.args.facts.now)) c.in_err-check_numbered.field-0.0 c.args.files.now c.loop-number.number c.index-files-number.result _ within
    c.index-files-number.is c.loop-number.invariant.faults c.in_err-check_numbered.ensures.faults)

pub loop-number-preserved : goal.loop-number-preserved
loop-number-preserved c =
    let t = facts_of c.args.facts.now in
    let names = texts_in c.args.names.now in
    let files = c.args.files.now in
    let i = c.loop-number.number in
    let d = c.index-files-number.result in
    let within : i < length files = omega arith in
    let before = c.loop-number.bodies in
    let after = c.check_numbered.new.bodies in
    let ok = c.in_ok-check_numbered.ensures in
    let same = c.loop-number.invariant in
    record {
      faults = each_later (file_faults (importables_of c.args.packages.now.all.now) t) files i d _ within c.index-files-number.is same.faults ok.faults;
      initial = more_files (top_initializations t names) files i d (initial_in before) (initial_in after) _ within c.index-files-number.is same.initial ok.initializations;
      uses = more_files (top_uses t) files i d (uses_in before) (uses_in after) _ within c.index-files-number.is same.uses ok.uses;
      functions = more_files (top_functions t) files i d (functions_in before) (functions_in after) _ within c.index-files-number.is same.functions ok.functions;
    }
