-- What is shown of the replicas of a session, and of those of the world.
use Rattle.std.proofs.Common.{◌≡◌, ℕ, List, [], ◌∷◌, Option, None, Some, true, false, Bool, not, refl, sym, ap, cond, subst, get_or}
use Rattle.ws_version.specs.Writes.{Write as AWrite}
use Rattle.ws_register.specs.Sources.{AreGreatestWrites}
use Rattle.ws_action.specs.Actions.{Action}
use Rattle.ws_replica.specs.Holdings.{ReplicaStandsFor}
use Rattle.ws_session.specs.declared.replicas.SessionReplica.{SessionReplica}
use Rattle.ws_command.specs.declared.refusal.Refusal.TheVariants.{Unknown}
use Rattle.ws_command.specs.Commands.{Show}
use Rattle.ws_command.specs.Refusals.{refused, first_of}
use Rattle.ws_command.specs.ShowPrinting.{show_text}
use Rattle.ws_session.specs.World.{World, or_new, writes_of, refusals, AfterBy, After, PrintsBy, Prints}
use Rattle.ws_session.specs.Representation.{replica_index, AllRepresent, CommandResult}
use Rattle.ws_session.proofs.Standings.{found}
use Rattle.ws_session.proofs.Settling.{knows_none, knows_some, refused_settles}
use Rattle.ws_session.proofs.Telling.{settled_tells}

show_row : (a b : Bool) → a ≡ b → first_of ((not a, Unknown) ∷ []) ≡ cond (not b) (Some Unknown) None
show_row a b e = ap (λ z. cond (not z) (Some Unknown) None) e

module _ (name : List ℕ) (text : Option (List ℕ)) (world : World) (ns : List SessionReplica) (h : AllRepresent ns world.replicas) (told : List ℕ) where
  pub show_unknown : replica_index name ns ≡ None → told ≡ refused Unknown → CommandResult (Show name) text world told ns
  show_unknown e t = settled_tells (Show name) text world (Some Unknown) told ns (λ _ q. q) t (refused_settles (Show name) text world Unknown ns (show_row _ false (knows_none name world ns h e)) h)

  pub shown : (k : ℕ) → replica_index name ns ≡ Some k → (writes : List AWrite) → told ≡ show_text name writes
      → ((n : SessionReplica) (W : List AWrite) (E : List Action) → n ≡ get_or ns k n → ReplicaStandsFor n.replica W E → AreGreatestWrites W writes) → CommandResult (Show name) text world told ns
  unfolding After Prints
  shown k e writes t is =
      let f = found name k ns world.replicas h e in
      let r = f.replica in
      let allowed : first_of (refusals (Show name) text world) ≡ None = show_row _ true (knows_some name k world ns h e) in
      let shows : AreGreatestWrites (writes_of name world) writes = subst (λ W. AreGreatestWrites W writes) (sym (ap (λ o. (or_new o).writes) f.at)) (is f.one r.writes r.actions f.is (f.stands f.one f.is).holds) in
      record {
        next = world;
        after = subst (λ z. AfterBy z (Show name) text world world) (sym allowed) refl;
        edition = refl;
        clear = λ _. (subst (λ z. PrintsBy z (Show name) world told) (sym allowed) (writes, shows, t), h);
      }
