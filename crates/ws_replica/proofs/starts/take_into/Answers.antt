use Rattle.std.proofs.Common.{ap, get_or}
use Rattle.std.specs.Prelude.{slice_set}
use Rattle.std.proofs.lemmas.Option.{slice_get-get_or}
use Rattle.ws_replica.proofs.starts.take_into.Goals as goal

pub returns-clause-ok : goal.returns-clause-ok
returns-clause-ok c = record {
  replica = get_or c.args.replicas.now c.args.number c.index-replicas-number.result;
  at = slice_get-get_or c.args.replicas.now c.args.number c.index-replicas-number.result c.requires;
  new_is = ap (slice_set c.args.replicas.now c.args.number) c.in_ok-take_results.ensures.ok;
}
