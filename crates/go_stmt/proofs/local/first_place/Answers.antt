use Rattle.go_stmt.proofs.Locals.{first_placed}
use Rattle.go_stmt.proofs.local.first_place.Goals as goal

pub returns-in-len1-up : goal.returns-in-len1-up
returns-in-len1-up c = first_placed c.args.place c.args.es.now c.first-item.result c.in-len1-up.len_at_least c.first-item.is
