use Rattle.std.proofs.Common.{◌≡◌, ℕ, List, Option, IfSome, ap, subst, ◌∙◌}
use Rattle.sha2.specs.Sha256.{sha256}
use Rattle.ws_action.specs.Actions.{action_id}
use Rattle.ws_action.proofs.Action.id_after.Goals as goal

pub returns-in-Some : goal.returns-in-Some
unfolding action_id
returns-in-Some c =
    let known : c.in-Some.id ≡ sha256 c.deref.result.now = subst (λ (o : Option (List ℕ)). IfSome o (λ id. id ≡ sha256 c.deref.result.now)) c.in-Some.is c.in_ok-id.ensures in
    known ∙ ap sha256 (c.deref.ensures.value ∙ c.in_ok-text.ensures)

pub returns : goal.returns
unfolding action_id
returns c = c.digest.ensures ∙ ap sha256 (c.deref-in-None.ensures.value ∙ c.in_ok-text.ensures)
