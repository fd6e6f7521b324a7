use Rattle.go_diagnostics.proofs.Slashes.{whole}
use Rattle.go_diagnostics.proofs.unknown.last_element.Goals as goal

pub loop-rest-init : goal.loop-rest-init
loop-rest-init c = whole c.args.path.now
