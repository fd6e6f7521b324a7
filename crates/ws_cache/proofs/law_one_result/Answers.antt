use Rattle.ws_cache.proofs.Outcomes.{one_result}
use Rattle.ws_cache.proofs.SomeResult.{some_result}
use Rattle.ws_cache.proofs.law_one_result.Goals as goal

pub returns-clause-one : goal.returns-clause-one
returns-clause-one c = one_result

pub returns-clause-some : goal.returns-clause-some
returns-clause-some c = some_result
