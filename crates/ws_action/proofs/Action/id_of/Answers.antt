use Rattle.std.proofs.Common.{rules, ◌≡◌, ℕ, List, IfSome, ap, sym, subst, ◌∙◌}
use Rattle.sha2.specs.Sha256.{sha256}
use Rattle.ws_action.specs.Actions.{Action as AnAction, action_id}
use Rattle.ws_action.proofs.Action.id_of.Goals as goal

pub returns-then-eq : goal.returns-then-eq
unfolding action_id
returns-then-eq c =
    let same : c.as_slice.result.now ≡ c.args.text.now = search rules in
    let own : IfSome c.self.inside.id (λ id. id ≡ action_id c.args.self.now) = subst (λ (a : AnAction). IfSome c.self.inside.id (λ id. id ≡ action_id a)) c.self.view_is c.self.invariant.2 in
    subst (λ (digest : List ℕ). IfSome c.self.inside.id (λ id. id ≡ digest)) (ap sha256 (sym c.in_ok-own.ensures ∙ sym c.as_slice.ensures.value ∙ same)) own
