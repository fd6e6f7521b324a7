use Rattle.ws_register.specs.Listed.{writes_of}
use Rattle.ws_register.proofs.Walks.{ends-below}
use Rattle.ws_register.proofs.rest.ends_below.Goals as goal

pub returns : goal.returns
returns c = ends-below (writes_of c.args.page.now) c.last.ensures.0 c.last.result.now c.args.path.now c.is_below.result c.last.ensures.1 c.is_below.ensures
