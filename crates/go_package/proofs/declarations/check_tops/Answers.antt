use Rattle.std.proofs.Common.{◌<◌, ◌∙◌, length, arith}
use Rattle.go_ast.specs.Views.{top_of}
use Rattle.go_package.specs.Faults.{top_faults}
use Rattle.go_package.specs.Views.{facts_of, texts_in, initial_in, functions_in}
use Rattle.go_package.specs.Typed.{top_initializations, top_functions}
use Rattle.go_package.proofs.Walks.{later, more}
use Rattle.go_package.proofs.declarations.check_tops.Goals as goal

pub loop-top-preserved : goal.loop-top-preserved
loop-top-preserved c =
    let t = facts_of c.args.facts.now in
    let names = texts_in c.args.names.now in
    let file = c.args.file in
    let tops = c.args.tops.now in
    let i = c.loop-top.top-index in
    let d = c.top-item.result in
    let within : i < length tops = omega arith in
    let before = c.loop-top.bodies in
    let after = c.check_top.new.bodies in
    let ok = c.in_ok-check_top.ensures in
    let same = c.loop-top.invariant in
    record {
      faults = later (top_faults t file) top_of tops i d _ within c.top-item.is same.faults ok.faults;
      initial = more (top_initializations t names file) top_of tops i d (initial_in before) (initial_in after) _ within c.top-item.is same.initial ok.initializations;
      uses = ok.uses ∙ same.uses;
      functions = more (top_functions t file) top_of tops i d (functions_in before) (functions_in after) _ within c.top-item.is same.functions ok.functions;
    }
