use Rattle.std.proofs.Common.{◌<◌, length, arith}
use Rattle.ws_replica.proofs.Steps.{reached_next}
use Rattle.ws_replica.proofs.reached.all_reached.Goals as goal

pub loop-directory-preserved : goal.loop-directory-preserved
loop-directory-preserved c =
    let within : c.loop-directory.directory-index < length c.args.directories.now = omega arith in
    reached_next c.args.edition c.args.directories.now c.loop-directory.directory-index c.directory-item.result c.loop-directory.reached.items c.push.new.self.items c.in_ok-one.one within c.directory-item.is c.in_ok-push.ensures.items c.in_ok-one.ensures c.loop-directory.invariant
