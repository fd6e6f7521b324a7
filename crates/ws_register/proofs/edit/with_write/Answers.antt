use Rattle.std.proofs.Common.{ap, length, arith}
use Rattle.std.proofs.lemmas.List.{length-map, length-append}
use Rattle.std.proofs.lemmas.Grind.{common_steps}
use Rattle.ws_register.proofs.edit.with_write.Goals as goal

pub returns-clause-few : goal.returns-clause-few
returns-clause-few c =
    omega (
      arith,
      simp (length-map, length-append) at (ap length c.in_ok-share-2.ensures),
      simp (length-map, length-append) at (ap length c.in_ok-push.ensures.items),
      simp (length-map, length-append) at (ap length c.in_ok-share.ensures),
      ap length c.in_ok-all.ensures.items,
    )

pub returns-clause-all : goal.returns-clause-all
returns-clause-all c = grind (arith, common_steps)

pub returns-clause-some : goal.returns-clause-some
returns-clause-some c = grind (arith, common_steps)
