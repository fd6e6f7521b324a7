use Rattle.std.proofs.Common.{◌∙◌, sym}
use Rattle.goset_cli.proofs.Growth.{grows_not}
use Rattle.goset_cli.proofs.running.enter.Goals as goal

pub returns-then-is_kept : goal.returns-then-is_kept
returns-then-is_kept g c = let kept = sym c.is_kept.ensures ∙ c.if-is_kept.true in rw kept c.push.ensures

pub returns : goal.returns
returns g c = let kept = sym c.is_kept.ensures ∙ c.if-is_kept.false in rw kept (grows_not _)
