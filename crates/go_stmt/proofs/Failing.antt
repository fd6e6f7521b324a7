-- The first fault in forms one behind another.
use Rattle.std.proofs.Common.{◌≡◌, Option, Some, None, [], ◌∷◌, ◌++◌, ap, refl, sym, subst}
use Rattle.go_text.specs.declared.place.Place.{Place}
use Rattle.go_ast.specs.Trees.{Expression}
use Rattle.go_expr.specs.declared.error.ExprError.{ExprError}
use Rattle.go_expr.specs.declared.error.ExprError.TheVariants.{Memory, Faulty}
use Rattle.go_expr.specs.Known.{Verdict}
use Rattle.go_expr.specs.Views.{Fails}
use Rattle.go_stmt.specs.Scopes.{StatementEnv, Context, Checked, StatementFaults, enter_scope, follow, node, in_new_block}
use Rattle.go_stmt.specs.Statements.{condition_at, tag_at}

pub fails_front : (e : ExprError) (fs gs : StatementFaults) → Fails e fs → Fails e (fs ++ gs)
fails_front Memory fs gs h = tt
fails_front (Faulty p kind) fs gs h = (h.0 ++ gs, ap (λ l. l ++ gs) h.1)

fails_back : (e : ExprError) (fs gs : StatementFaults) → fs ≡ [] → Fails e gs → Fails e (fs ++ gs)
fails_back e [] gs none h = h
fails_back e (f ∷ fs) gs none h = cc

-- in a form behind one without a fault
pub fails_next : {A B : Type 0} (e : ExprError) (first : StatementEnv → Checked A) (second : StatementEnv → Checked B) (env there : StatementEnv) → (first env).faults ≡ [] → there ≡ (first env).after →
    Fails e (second there).faults → Fails e (follow first second env).faults
fails_next e first second env there none is h = fails_back e (first env).faults (second (first env).after).faults none (subst (λ (x : StatementEnv). Fails e (second x).faults) is h)

-- in a part of a node that stands in a block
pub fails_inside : {A B : Type 0} (e : ExprError) (p : Place) (rule : A → Verdict B) (parts : StatementEnv → Checked A) (env there : StatementEnv) → there ≡ enter_scope env →
    Fails e (parts there).faults → Fails e (in_new_block (node p rule parts) env).faults
fails_inside e p rule parts env there is h = fails_front e (parts (enter_scope env)).faults _ (subst (λ (x : StatementEnv). Fails e (parts x).faults) is h)

pub condition_after : (c : Context) (o : Option Expression) (env : StatementEnv) → env ≡ (condition_at c o env).after
condition_after c None env = refl
condition_after c (Some e) env = refl

pub tag_after : (c : Context) (o : Option Expression) (env : StatementEnv) → env ≡ (tag_at c o env).after
tag_after c None env = refl
tag_after c (Some e) env = refl

-- in a form that stands on what is known of another
pub fails_upon : {A B C D : Type 0} (e : ExprError) (p : Place) (rule : A × (B × C) → Verdict D) (first : StatementEnv → Checked A) (second : StatementEnv → Checked B) (third : Option B → StatementEnv → Checked C)
    (env there behind : StatementEnv) (known : Option B) → there ≡ enter_scope env → (first there).faults ≡ [] → behind ≡ (first there).after → (second behind).faults ≡ [] → (second behind).known ≡ known →
    behind ≡ (second behind).after → Fails e (third known behind).faults →
    Fails e (in_new_block (λ env. node p rule (follow first (follow second (third (second (first env).after).known))) env) env).faults
fails_upon {A} {B} e p rule first second third env there behind known entered none after none_there is after_there h =
    let parts = λ (x : StatementEnv). follow first (follow second (third (second (first x).after).known)) x in
    fails_inside e p rule parts env there entered
    (fails_next e first (follow second (third (second (first there).after).known)) there behind none after
    (fails_next e second (third (second (first there).after).known) behind behind none_there after_there
    (subst (λ (x : StatementEnv). Fails e (third (second x).known behind).faults) after (subst (λ (k : Option B). Fails e (third k behind).faults) (sym is) h))))
