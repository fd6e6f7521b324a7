use Rattle.std.proofs.Common.{rules, ◌≡◌, ◌∷◌, ◌<◌, ◌≤◌, length, arith}
use Rattle.ws_replica.proofs.SameFiles.{same_next, same_whole}
use Rattle.ws_replica.proofs.previous.are_same.Goals as goal

pub loop-file-preserved : goal.loop-file-preserved
loop-file-preserved c =
    let within : c.loop-file.file-index < length c.args.files.now = omega arith in
    let next : c.loop-file.left.now ≡ c.in-Some.other.now ∷ c.in-Some.rest.now = search rules in
    let same : c.file-item.result ≡ c.in-Some.other.now = search rules in
    same_next c.args.files.now c.args.others.now c.loop-file.left.now c.in-Some.rest.now c.loop-file.file-index c.file-item.result c.in-Some.other.now within c.file-item.is next same c.loop-file.invariant

pub returns : goal.returns
returns c =
    let over : length c.args.files.now ≤ c.loop-file.file-index = omega arith in
    same_whole c.is_empty.result c.args.files.now c.args.others.now c.loop-file.left.now c.loop-file.file-index over c.is_empty.ensures c.loop-file.invariant
