use Rattle.std.proofs.Common.{ap, ◌∙◌}
use Rattle.std.specs.Prelude.{slice_set}
use Rattle.std.proofs.lemmas.List.{set-get_or}
use Rattle.ws_replica.proofs.actions.remember_at.Goals as goal

pub returns : goal.returns
returns c = ap (slice_set c.args.replicas.now c.args.number) c.remember.ensures ∙ set-get_or c.args.replicas.now c.args.number c.index-replicas-number.result
