use Rattle.std.proofs.Common.{◌<◌, length, arith}
use Rattle.ws_graph.specs.Discovery.{string_texts}
use Rattle.ws_replica.proofs.PlannedTargets.{directories_next}
use Rattle.ws_replica.proofs.starts.directories_at.Goals as goal

pub loop-target-preserved : goal.loop-target-preserved
loop-target-preserved c =
    let within : c.loop-target.target-index < length c.args.targets.now = omega arith in
    directories_next c.args.targets.now c.loop-target.target-index c.args.number (string_texts c.loop-target.directories.items) (string_texts c.add_directory.new.directories.items) within c.in_ok-add_directory.ensures c.loop-target.invariant
