use Rattle.ws_register.proofs.Walks.{pass-first}
use Rattle.ws_register.proofs.rest.Rest.skip_write_below.Goals as goal

pub returns-clause-passed : goal.returns-clause-passed
returns-clause-passed c =
    pass-first c.args.self.now c.next.new.self c.in-Some.ensures.0 c.in-Some.first.now c.in-Some-next._write.now c.args.path.now c.is_below.result
    c.in-Some.ensures.1 c.in-Some-next.ensures c.is_below.ensures c.if-not-is_below.false
