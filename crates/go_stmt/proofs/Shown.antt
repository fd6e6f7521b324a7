-- Statements of the code, by the forms that they are, and nodes by their parts.
use Rattle.std.proofs.Common.{◌≡◌, ◌++◌, [], Result, Ok, Err, Option, refl, ap, sym, ◌∙◌, subst}
use Rattle.std.specs.Prelude.{OnOk}
use Rattle.go_expr.specs.declared.error.ExprError.{ExprError}
use Rattle.go_text.specs.declared.place.Place.{Place}
use Rattle.go_expr.specs.Known.{Verdict}
use Rattle.go_expr.specs.Verdicts.{asked, both}
use Rattle.go_expr.specs.Views.{AnswersAt}
use Rattle.go_expr.proofs.Nodes.{of_part}
use Rattle.go_stmt.specs.Scopes.{StatementEnv, Checked, StatementFaults, enter_scope, leave, follow, node, in_new_block}
use Rattle.go_stmt.specs.Views.{Answered}

-- what holds of one form holds of the form that it is
pub answer_as : {S X Y : Type 0} (view : X → Y) (result : Result (Option X) ExprError) (form : S → Checked Y) (s t : S) → s ≡ t → Answered view result (form t) → Answered view result (form s)
answer_as {S} view result form s t same h = subst (λ (x : S). Answered view result (form x)) (sym same) h

pub after_as : {S X Y : Type 0} (result : Result X ExprError) (form : S → Checked Y) (there : StatementEnv) (s t : S) → s ≡ t → OnOk result (there ≡ (form t).after) → OnOk result (there ≡ (form s).after)
after_as {S} result form there s t same h = subst (λ (x : S). OnOk result (there ≡ (form x).after)) (sym same) h

-- a node of two parts that stands in a block
pub answered_inside : {X A B C : Type 0} (view : X → C) (r : Result (Option X) ExprError) (p : Place) (rule : A × B → Verdict C) (first : StatementEnv → Checked A) (second : StatementEnv → Checked B)
    (env there behind : StatementEnv) (a : Option A) (b : Option B) → there ≡ enter_scope env → (first there).faults ≡ [] → (first there).known ≡ a → behind ≡ (first there).after →
    (second behind).faults ≡ [] → (second behind).known ≡ b → AnswersAt view r p (asked rule (both a b)) → Answered view r (in_new_block (node p rule (follow first second)) env)
answered_inside {X} {A} {B} view r p rule first second env there behind a b entered none known after none_behind known_behind h =
    let parts = follow first second in
    let no : (parts there).faults ≡ [] = ap (λ (l : StatementFaults). l ++ (second (first there).after).faults) none ∙ ap (λ (x : StatementEnv). (second x).faults) (sym after) ∙ none_behind in
    let is : (parts there).known ≡ both a b =
    ap (λ (o : Option A). both o (second (first there).after).known) known ∙ ap (λ (x : StatementEnv). both a (second x).known) (sym after) ∙ ap (both a) known_behind in
    subst (λ (x : StatementEnv). Answered view r (node p rule parts x)) entered (of_part view r p p rule (parts there).faults (parts there).known (both a b) no is refl h)

-- a node of three parts in a block, the last of which stands on what is known of the second
module _ {A B C D : Type 0} (p : Place) (rule : A × (B × C) → Verdict D) (first : StatementEnv → Checked A) (second : StatementEnv → Checked B) (third : Option B → StatementEnv → Checked C) where
  abbrev pub upon : StatementEnv → Checked D
  upon env = in_new_block (λ env. node p rule (follow first (follow second (third (second (first env).after).known))) env) env

  pub answered_upon : {X : Type 0} (view : X → D) (r : Result (Option X) ExprError) (env there behind : StatementEnv) (a : Option A) (b : Option B) (c : Option C) → there ≡ enter_scope env → (first there).faults ≡ [] →
      (first there).known ≡ a → behind ≡ (first there).after → (second behind).faults ≡ [] → (second behind).known ≡ b → behind ≡ (second behind).after →
      (third b behind).faults ≡ [] → (third b behind).known ≡ c → AnswersAt view r p (asked rule (both a (both b c))) → Answered view r (upon env)
  answered_upon view r env there behind a b c entered none known after none_second known_second same none_third known_third h =
      let k : Option B = (second (first (enter_scope env)).after).known in
      let is : k ≡ b = ap (λ (x : StatementEnv). (second (first x).after).known) (sym entered) ∙ ap (λ (x : StatementEnv). (second x).known) (sym after) ∙ known_second in
      let last : third k (second behind).after ≡ third b behind = ap (λ (o : Option B). third o (second behind).after) is ∙ ap (third b) (sym same) in
      let none_behind : (follow second (third k) behind).faults ≡ [] =
      ap (λ (l : StatementFaults). l ++ (third k (second behind).after).faults) none_second ∙ ap (λ (x : Checked C). x.faults) last ∙ none_third in
      let known_behind : (follow second (third k) behind).known ≡ both b c =
      ap (λ (o : Option B). both o (third k (second behind).after).known) known_second ∙ ap (λ (x : Checked C). both b x.known) last ∙ ap (both b) known_third in
      answered_inside view r p rule first (follow second (third k)) env there behind a (both b c) entered none known after none_behind known_behind h

  pub after_upon : (env there behind end : StatementEnv) (b : Option B) → there ≡ enter_scope env → behind ≡ (first there).after → (second behind).known ≡ b → behind ≡ (second behind).after →
      end ≡ leave (third b behind).after → end ≡ (upon env).after
  after_upon env there behind end b entered after known_second same is =
      let there_is : (first (enter_scope env)).after ≡ behind = ap (λ (x : StatementEnv). (first x).after) (sym entered) ∙ sym after in
      is ∙ ap (λ (x : Checked C). leave x.after) (sym (
      ap (λ (x : StatementEnv). third (second x).known (second x).after) there_is
      ∙ ap (λ (o : Option B). third o (second behind).after) known_second ∙ ap (third b) (sym same)))

-- what holds whatever a result is
pub on_ok : {A E : Type 0} (r : Result A E) (P : Type 0) → P → OnOk r P
on_ok (Ok a) P h = h
on_ok (Err e) P h = tt
