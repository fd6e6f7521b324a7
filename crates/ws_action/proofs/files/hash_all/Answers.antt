use Rattle.std.proofs.Common.{◌<◌, ◌≤◌, length, arith}
use Rattle.std.proofs.lemmas.Grind.{common_steps}
use Rattle.ws_action.proofs.Hashed.{one_hashed, all_hashed}
use Rattle.ws_action.proofs.files.hash_all.Goals as goal

pub loop-file-preserved : goal.loop-file-preserved
loop-file-preserved c = (
  grind (arith, common_steps),
  let within : c.loop-file.file-index < length c.args.parsed.now = omega arith in
      one_hashed c.args.parsed.now c.loop-file.file-index c.file-item.result c.digest_of-hashed.result c.loop-file.digests.items c.push.new.self.items within c.file-item.is c.in_ok-push.ensures.items c.digest_of-hashed.ensures c.loop-file.invariant.1,
)

pub returns-clause-text : goal.returns-clause-text
returns-clause-text c = grind (arith, common_steps)

pub returns-clause-digests : goal.returns-clause-digests
returns-clause-digests c =
    let over : length c.args.parsed.now ≤ c.loop-file.file-index = omega arith in
    all_hashed c.args.parsed.now c.loop-file.file-index c.loop-file.digests.items over c.loop-file.invariant.1
