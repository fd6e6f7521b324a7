use Rattle.std.proofs.Common.{rules, ◌<◌, ◌≤◌, length, map, ap, arith}
use Rattle.std.specs.List.{Contains}
use Rattle.ws_action.proofs.Imported.{from_none, from_more, from_all}
use Rattle.ws_action.proofs.import.all_imports.Goals as goal

pub loop-file-init : goal.loop-file-init
loop-file-init c = from_none c.args.files.now (map (λ p. p.now) c.new-paths.result.items) (ap (map (λ p. p.now)) c.new-paths.ensures.items)

pub loop-file-preserved : goal.loop-file-preserved
loop-file-preserved c =
    let within : c.loop-file.file-index < length c.args.files.now = omega arith in
    let among : Contains c.args.files.now c.file-item.result = search rules in
    from_more c.args.files.now c.loop-file.file-index c.file-item.result _ _ within c.file-item.is among c.in_ok-add_imports.ensures c.loop-file.invariant

pub returns : goal.returns
returns c =
    let over : length c.args.files.now ≤ c.loop-file.file-index = omega arith in
    from_all c.args.files.now c.loop-file.file-index _ over c.loop-file.invariant
