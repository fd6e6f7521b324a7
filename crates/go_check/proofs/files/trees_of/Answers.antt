use Rattle.std.proofs.Common.{◌<◌, length, arith}
use Rattle.go_check.proofs.Trees.{trees_next}
use Rattle.go_check.proofs.files.trees_of.Goals as goal

pub loop-file-preserved : goal.loop-file-preserved
loop-file-preserved c =
    let within : c.loop-file.file-index < length c.args.files.now = omega arith in
    trees_next c.args.files.now c.loop-file.file-index c.file-item.result c.loop-file.trees.items c.push.new.self.items _ within c.file-item.is c.in_ok-push.ensures.items c.loop-file.invariant c.file-tree.ensures
