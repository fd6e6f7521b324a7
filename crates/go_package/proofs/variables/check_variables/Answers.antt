use Rattle.std.proofs.Common.{◌<◌, length, map, arith}
use Rattle.std.proofs.lemmas.Result.{err_from_is_err_and}
use Rattle.go_ast.specs.Views.{var_of}
use Rattle.go_typed.specs.Views.{initialization_of}
use Rattle.go_package.specs.Faults.{var_spec_faults}
use Rattle.go_package.specs.Views.{facts_of, texts_in}
use Rattle.go_package.specs.Typed.{spec_initializations}
use Rattle.go_package.proofs.Walks.{here, later, more}
use Rattle.go_package.proofs.variables.check_variables.Goals as goal

pub returns-in_err-check_var_spec-clause-faults : goal.returns-in_err-check_var_spec-clause-faults
returns-in_err-check_var_spec-clause-faults c =
    let specs = c.args.specs.now in
    let within : c.loop-spec.spec-index < length specs = omega arith in
    let p = err_from_is_err_and c.from_residual.result c.from_residual.ensures.1 in
    rw (p.1, p.2) (here (var_spec_faults (facts_of c.args.facts.now) c.args.file) var_of c.in_err-check_var_spec.field-0.0 specs c.loop-spec.spec-index c.spec-item.result _ within c.spec-item.is
    c.loop-spec.invariant.faults c.in_err-check_var_spec.ensures.faults)

pub loop-spec-preserved : goal.loop-spec-preserved
loop-spec-preserved c =
    let t = facts_of c.args.facts.now in
    let names = texts_in c.args.names.now in
    let file = c.args.file in
    let specs = c.args.specs.now in
    let i = c.loop-spec.spec-index in
    let d = c.spec-item.result in
    let within : i < length specs = omega arith in
    let old = map initialization_of c.loop-spec.found.items in
    let new = map initialization_of c.check_var_spec.new.found.items in
    let ok = c.in_ok-check_var_spec.ensures in
    record {
      faults = later (var_spec_faults t file) var_of specs i d _ within c.spec-item.is c.loop-spec.invariant.faults ok.faults;
      initial = more (spec_initializations t names file) var_of specs i d old new _ within c.spec-item.is c.loop-spec.invariant.initial ok.initializations;
    }
