use Rattle.std.proofs.Common.{◌≤◌, List, length, subst, arith}
use Rattle.go_ast.specs.Parse.{Parsed}
use Rattle.ws_graph.specs.Discovery.{HaveTargets, string_texts}
use Rattle.ws_graph.proofs.Adding.{have_none, have_next}
use Rattle.ws_graph.proofs.Places.{take_all}
use Rattle.ws_graph.proofs.target.targets_in.Goals as goal

pub loop-file-init : goal.loop-file-init
loop-file-init c = have_none (string_texts c.args.all.now) c.new-targets.result.items c.new-targets.ensures.items

pub loop-file-preserved : goal.loop-file-preserved
loop-file-preserved c =
    have_next (string_texts c.args.all.now) c.args.parsed.now c.loop-file.file-index c.file-item.result c.loop-file.targets.items c.add_file.new.targets.items c.file-item.is c.loop-file-test.true c.loop-file.invariant c.in_ok-add_file.ensures

pub returns : goal.returns
returns c =
    let end : length c.args.parsed.now ≤ c.loop-file.file-index = omega arith in
    subst (λ (l : List Parsed). HaveTargets (string_texts c.args.all.now) l c.loop-file.targets.items) (take_all c.args.parsed.now c.loop-file.file-index end) c.loop-file.invariant
