use Rattle.std.proofs.Common.{subst}
use Rattle.ws_version_vector.specs.Keyed.{IsPushed}
use Rattle.ws_session.proofs.Standings.{on_ok_map}
use Rattle.ws_session.proofs.clock.WriteClock.raise.Goals as goal

pub returns : goal.returns
returns c = on_ok_map c.raise.result (λ h. record {
  counts = h.0;
  raised = h.1;
  changed = h.2;
  logged = subst (λ n. IsPushed c.args.at n c.args.path.now c.args.self.now.logs c.push.new.self) c.own-count.ensures c.in_ok-push.ensures;
}) c.raise.ensures
