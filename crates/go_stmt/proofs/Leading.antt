-- Forms one behind another, on the way through a loop.
use Rattle.std.proofs.Common.{◌≡◌, Option, Some, List, [], ◌++◌, refl, sym, ap, ◌∙◌, subst}
use Rattle.std.specs.Option.{option_map}
use Rattle.go_expr.specs.declared.error.ExprError.{ExprError}
use Rattle.go_expr.specs.Views.{Fails}
use Rattle.go_expr.specs.Verdicts.{both}
use Rattle.go_expr.proofs.Lists.{fails_front}
use Rattle.go_stmt.specs.Scopes.{StatementEnv, Checked, StatementFaults, pure_checked, concat_checked}
use Rattle.go_stmt.proofs.Sequences.{later_faults, later_after, joined_first, joined_last, appended_known}

abbrev pub joined : {A : Type 0} → Option (List A) → Option (List A) → Option (List A)
joined a b = option_map (λ k. k.0 ++ k.1) (both a b)

-- what is left has the faults that all have, and gives the rest of what is known
pub record Leads {A : Type 0} (all : Checked (List A)) (done : Option (List A)) (rest : Checked (List A)) : Type 0 where
  pub faults : rest.faults ≡ all.faults
  pub known : all.known ≡ joined done rest.known
  pub after : rest.after ≡ all.after

pub begins : {A : Type 0} (all : Checked (List A)) (done : Option (List A)) → done ≡ Some [] → Leads all done all
begins all done none = record {
  faults = refl;
  known = sym (ap (λ d. joined d all.known) none ∙ joined_first all.known);
  after = refl;
}

-- the first of what is left has no fault
pub goes_on : {A : Type 0} (first second : StatementEnv → Checked (List A)) (env there : StatementEnv) (all rest : Checked (List A)) (done more next : Option (List A)) → rest ≡ concat_checked first second env →
    Leads all done rest → (first env).faults ≡ [] → (first env).known ≡ next → there ≡ (first env).after → more ≡ joined done next → Leads all more (second there)
goes_on first second env there all rest done more next same leads none known is grown = record {
  faults = sym (ap (λ r. r.faults) same ∙ later_faults first second env there none is) ∙ leads.faults;
  known = appended_known first second env there all.known done more next (leads.known ∙ ap (λ r. joined done r.known) same) known is grown;
  after = sym (ap (λ r. r.after) same ∙ later_after first second env there is) ∙ leads.after;
}

-- it has one
pub fails : {A : Type 0} (e : ExprError) (first second : StatementEnv → Checked (List A)) (env : StatementEnv) (all rest : Checked (List A)) (done : Option (List A)) → rest ≡ concat_checked first second env →
    Leads all done rest → Fails e (first env).faults → Fails e all.faults
fails e first second env all rest done same leads h =
    subst (λ (l : StatementFaults). Fails e l) (sym (ap (λ r. r.faults) same) ∙ leads.faults) (fails_front e (first env).faults (second (first env).after).faults h)

-- nothing is left
pub ends : {A : Type 0} (env : StatementEnv) (all rest : Checked (List A)) (done : Option (List A)) → rest ≡ pure_checked [] env → Leads all done rest → (all.faults ≡ []) × (all.known ≡ done)
ends env all rest done none leads = (
  sym leads.faults ∙ ap (λ r. r.faults) none,
  leads.known ∙ ap (λ r. joined done r.known) none ∙ joined_last done,
)

pub ends_at : {A : Type 0} (env : StatementEnv) (all rest : Checked (List A)) (done : Option (List A)) → rest ≡ pure_checked [] env → Leads all done rest → env ≡ all.after
ends_at env all rest done none leads = sym (ap (λ r. r.after) none) ∙ leads.after
