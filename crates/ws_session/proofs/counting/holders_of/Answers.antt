use Rattle.std.proofs.Common.{List, ℕ, subst, ◌∙◌}
use Rattle.std.specs.Prelude.{IfOk}
use Rattle.std.specs.List.{Contains}
use Rattle.ws_version_vector.specs.Counts.{AreBelow}
use Rattle.ws_session.proofs.counting.holders_of.Goals as goal

pub returns-clause-below : goal.returns-clause-below
returns-clause-below c =
    subst (λ (ks : List ℕ). IfOk c.tops_among.result (λ holders. AreBelow c.args.compiled.now ks holders.items)) (c.deref.ensures.value ∙ c.in_ok-numbers.ensures) c.tops_among.ensures.tops

pub returns-clause-within : goal.returns-clause-within
returns-clause-within c =
    subst (λ (ks : List ℕ). IfOk c.tops_among.result (λ holders. (k : ℕ) → Contains holders.items k → Contains ks k)) (c.deref.ensures.value ∙ c.in_ok-numbers.ensures) c.tops_among.ensures.within
