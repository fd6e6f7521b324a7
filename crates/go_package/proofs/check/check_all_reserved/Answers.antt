use Rattle.std.proofs.Common.{◌<◌, length, arith}
use Rattle.std.proofs.lemmas.Result.{err_from_is_err_and}
use Rattle.std.specs.List.{flat_map}
use Rattle.go_package.specs.Packages.{reserved_names_faults}
use Rattle.go_package.proofs.Several.{each_here}
use Rattle.go_package.proofs.check.check_all_reserved.Goals as goal

pub returns-in_err-check_reserved_in : goal.returns-in_err-check_reserved_in
returns-in_err-check_reserved_in c =
    let within : c.loop-number.number < length c.args.files.now = omega arith in
    let p = err_from_is_err_and c.from_residual.result c.from_residual.ensures.1 in
    rw (p.1, p.2) (each_here (λ number file. flat_map (reserved_names_faults c.args.clause.now) file.declarations) c.in_err-check_reserved_in.field-0.0 c.args.files.now c.loop-number.number c.index-files-number.result _ within c.index-files-number.is c.loop-number.invariant c.in_err-check_reserved_in.ensures)
