use Rattle.std.proofs.Common.{rules}
use Rattle.go_scan.proofs.LiteralFronts.{rune_valued}
use Rattle.go_scan.proofs.values.rune_code.Goals as goal

pub returns-then-is_rune-clause-means : goal.returns-then-is_rune-clause-means
returns-then-is_rune-clause-means c = (rune_valued c.args.bytes.now c.rune_meaning.result).1 (search rules)

pub returns-else-is_rune-clause-means : goal.returns-else-is_rune-clause-means
returns-else-is_rune-clause-means c = (rune_valued c.args.bytes.now 0).1 (search rules)
