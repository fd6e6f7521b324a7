use Rattle.std.proofs.Common.{◌<◌, length, arith}
use Rattle.std.proofs.lemmas.Grind.{common_steps}
use Rattle.ws_register.specs.Listed.{writes_of}
use Rattle.ws_register.specs.Pages.{values}
use Rattle.ws_register.proofs.Edited.{part_replaced}
use Rattle.ws_register.proofs.edit.replace.Goals as goal

pub returns-clause-ok : goal.returns-clause-ok
returns-clause-ok c =
    let within : c.args.at < length c.args.pages.now.items = omega arith in
    part_replaced writes_of c.args.pages.now.items c.args.at c.in_ok-pages.field-0 (values c.args.writes.now) within c.in_ok-pages.ensures

pub returns-then-len-at-clause-ok : goal.returns-then-len-at-clause-ok
returns-then-len-at-clause-ok c = grind (arith, common_steps)

pub returns-then-len-at-clause-err : goal.returns-then-len-at-clause-err
returns-then-len-at-clause-err c = grind (arith, common_steps)

pub returns-then-writes-gt-FULL-clause-ok : goal.returns-then-writes-gt-FULL-clause-ok
returns-then-writes-gt-FULL-clause-ok c = grind (arith, common_steps)

pub returns-then-writes-gt-FULL-clause-err : goal.returns-then-writes-gt-FULL-clause-err
returns-then-writes-gt-FULL-clause-err c = grind (arith, common_steps)

pub returns-clause-err : goal.returns-clause-err
returns-clause-err c = grind (arith, common_steps)
