use Rattle.ws_register.proofs.Walks.{pass-more, still-ascends}
use Rattle.ws_register.proofs.rest.Rest.pass_below.Goals as goal

pub passed-preserved : goal.passed-preserved
passed-preserved c =
    let before = c.passed.invariant.0 in
    let more = c.skip_below.ensures.passed in (
      pass-more c.args.self.now c.passed.self c.skip_below.new.self before.0 more.0 c.args.path.now before.1 before.2 more.1 more.2,
      still-ascends c.passed.self more.0 c.skip_below.new.self more.1 c.passed.invariant.1,
    )

pub returns : goal.returns
returns c =
    let before = c.passed.invariant.0 in
    let more = c.skip_below.ensures.passed in
    pass-more c.args.self.now c.passed.self c.skip_below.new.self before.0 more.0 c.args.path.now before.1 before.2 more.1 more.2
