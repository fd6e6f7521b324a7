use Rattle.std.proofs.Common.{ap, get_or, ◌∙◌}
use Rattle.std.specs.Prelude.{slice_set}
use Rattle.std.proofs.lemmas.List.{set-get_or}
use Rattle.std.proofs.lemmas.Option.{slice_get-get_or}
use Rattle.std.proofs.lemmas.Result.{IfOk-weaker}
use Rattle.ws_replica.proofs.starts.reach_at.Goals as goal

pub returns-clause-same : goal.returns-clause-same
returns-clause-same g c = ap (slice_set c.args.replicas.now c.args.number) c.reach.ensures.same ∙ set-get_or c.args.replicas.now c.args.number c.index-replicas-number.result

pub returns-clause-ok : goal.returns-clause-ok
returns-clause-ok g c = IfOk-weaker c.reach.result _ _ (λ reached by. record {
  replica = get_or c.args.replicas.now c.args.number c.index-replicas-number.result;
  at = slice_get-get_or c.args.replicas.now c.args.number c.index-replicas-number.result c.requires;
  by = by;
}) c.reach.ensures.ok

pub returns-clause-none : goal.returns-clause-none
returns-clause-none g c is = record {
  replica = get_or c.args.replicas.now c.args.number c.index-replicas-number.result;
  at = slice_get-get_or c.args.replicas.now c.args.number c.index-replicas-number.result c.requires;
  lacks = c.reach.ensures.none is;
}
