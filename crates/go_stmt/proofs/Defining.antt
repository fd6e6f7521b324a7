-- Statements that declare names by what a rule gives.
use Rattle.std.proofs.Common.{◌≡◌, Result, Ok, Err, Option, Some, None, [], ◌++◌, refl, sym, ap, ◌∙◌, subst}
use Rattle.std.specs.Option.{option_map}
use Rattle.std.specs.Result.{IsErrAnd}
use Rattle.go_text.specs.declared.place.Place.{Place}
use Rattle.go_expr.specs.Known.{Verdict, Fine, Breaks, Passed}
use Rattle.go_expr.specs.Rules.{fine, checked}
use Rattle.go_expr.specs.declared.error.ExprError.{ExprError}
use Rattle.go_expr.specs.Views.{Fails}
use Rattle.go_expr.specs.Verdicts.{asked, broken}
use Rattle.go_stmt.specs.Scopes.{StatementEnv, Checked, StatementFaults, node}
use Rattle.go_stmt.specs.Views.{Answered}

broken_then : {B C : Type 0} (p : Place) (f : B → C) (v : Verdict B) → broken p (checked (λ x. Fine (f x)) v) ≡ broken p v
broken_then p f (Fine x) = refl
broken_then p f (Breaks kind) = refl
broken_then p f Passed = refl

fine_then : {B C : Type 0} (f : B → C) (v : Verdict B) → fine (checked (λ x. Fine (f x)) v) ≡ option_map f (fine v)
fine_then f (Fine x) = refl
fine_then f (Breaks kind) = refl
fine_then f Passed = refl

-- the faults of what is made of what a rule gives are those of the rule
pub made_broken : {A B C : Type 0} (p : Place) (f : B → C) (rule : A → Verdict B) (o : Option A) →
    broken p (asked (λ k. checked (λ x. Fine (f x)) (rule k)) o) ≡ broken p (asked rule o)
made_broken p f rule None = refl
made_broken p f rule (Some x) = broken_then p f (rule x)

pub made_known : {A B C : Type 0} (f : B → C) (rule : A → Verdict B) (o : Option A) →
    fine (asked (λ k. checked (λ x. Fine (f x)) (rule k)) o) ≡ option_map f (fine (asked rule o))
made_known f rule None = refl
made_known f rule (Some x) = fine_then f (rule x)

-- a node of what a rule gives of parts that have no fault
pub made : {A B C : Type 0} (p : Place) (f : B → C) (rule : A → Verdict B) (parts : StatementEnv → Checked A) (env : StatementEnv) (o : Option A) (b : Option B) → (parts env).faults ≡ [] →
    (parts env).known ≡ o → broken p (asked rule o) ≡ [] → fine (asked rule o) ≡ b →
    ((node p (λ k. checked (λ x. Fine (f x)) (rule k)) parts env).faults ≡ []) × ((node p (λ k. checked (λ x. Fine (f x)) (rule k)) parts env).known ≡ option_map f b)
made {A} {B} {C} p f rule parts env o b none known unbroken gives =
    let whole : A → Verdict C = λ k. checked (λ x. Fine (f x)) (rule k) in (
      ap (λ l. l ++ broken p (asked whole (parts env).known)) none ∙ ap (λ k. broken p (asked whole k)) known ∙ made_broken p f rule o ∙ unbroken,
      ap (λ k. fine (asked whole k)) known ∙ made_known f rule o ∙ ap (option_map f) gives,
    )

-- the rule is broken
pub made_fails : {A B C : Type 0} (e : ExprError) (p : Place) (f : B → C) (rule : A → Verdict B) (parts : StatementEnv → Checked A) (env : StatementEnv) (o : Option A) → (parts env).faults ≡ [] →
    (parts env).known ≡ o → Fails e (broken p (asked rule o)) → Fails e (node p (λ k. checked (λ x. Fine (f x)) (rule k)) parts env).faults
made_fails {A} {B} {C} e p f rule parts env o none known h =
    let whole : A → Verdict C = λ k. checked (λ x. Fine (f x)) (rule k) in
    subst (λ (l : StatementFaults). Fails e l)
    (sym (ap (λ l. l ++ broken p (asked whole (parts env).known)) none ∙ ap (λ k. broken p (asked whole k)) known ∙ made_broken p f rule o)) h

-- what comes back by `?`
pub answers_err : {X Y : Type 0} (view : X → Y) (r : Result (Option X) ExprError) (e : ExprError) (x : Checked Y) → IsErrAnd r (λ d. d ≡ e) → Fails e x.faults → Answered view r x
answers_err view (Ok o) e x h f = absurd h
answers_err view (Err d) e x h f = subst (λ (y : ExprError). Fails y x.faults) (sym h) f
