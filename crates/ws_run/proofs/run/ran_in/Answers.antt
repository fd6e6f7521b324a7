use Rattle.std.proofs.Common.{Option, subst}
use Rattle.go_code.specs.Images.{Image}
use Rattle.ws_run.specs.Steps.{HasImage}
use Rattle.ws_run.proofs.run.ran_in.Goals as goal

pub returns-in-Some : goal.returns-in-Some
returns-in-Some g c files h =
    c.ran.ensures c.args.edition files c.args.directory.now (subst (λ (o : Option Image). HasImage c.args.edition files c.args.directory.now o) c.in-Some.is (c.in_ok-image.ensures files h))

pub returns-in-None : goal.returns-in-None
returns-in-None g c files h = subst (λ (o : Option Image). HasImage c.args.edition files c.args.directory.now o) c.in-None.is (c.in_ok-image.ensures files h)
