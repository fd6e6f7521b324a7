use Rattle.std.proofs.Common.{rules, arith, ◌∙◌, ◌≡◌, false, drop, codes}
use Rattle.std.specs.Prelude.{nat_eq}
use Rattle.std.specs.List.{starts_with}
use Rattle.ws_module.proofs.Comments.{kept}
use Rattle.ws_module.proofs.module.uncommented.Goals as goal

pub loop-at-preserved : goal.loop-at-preserved
loop-at-preserved c =
    let plain : starts_with nat_eq (drop c.loop-at.at c.args.line.now) (codes "//") ≡ false = search rules in
    record {
      in_range = omega (arith, c.loop-at-test.true);
      so_far = c.loop-at.invariant.so_far ∙ kept c.loop-at.at c.args.line.now (omega (arith, c.loop-at-test.true)) plain;
    }
