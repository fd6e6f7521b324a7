-- Declarations in functions, by what is known of their parts.
use Rattle.std.proofs.Common.{◌≡◌, ℕ, suc, ◌+◌, ◌≤◌, length, get_or, arith, add-one, Bool, true, false, Option, Some, None, List, [], ◌∷◌, ◌++◌, map, not, if◌then◌else◌, refl, sym, ap, ◌∙◌, subst}
use Rattle.std.specs.Option.{option_map}
use Rattle.go_text.specs.declared.place.Place.{Place}
use Rattle.go_ast.specs.declared.expression.Expr.{Expr}
use Rattle.go_ast.specs.Views.{exprs_in}
use Rattle.go_ast.proofs.Rows.{placed}
use Rattle.go_ast.specs.Trees.{first_place, Name, TypeExpr, VarSpec, ConstSpec}
use Rattle.go_types.specs.Types.{Type'}
use Rattle.go_types.specs.Relations.{assignable, identical}
use Rattle.go_typed.specs.Trees as typed
use Rattle.go_text.specs.declared.fault.FaultKind.TheVariants.{Assign}
use Rattle.go_expr.specs.declared.error.ExprError.{ExprError}
use Rattle.go_expr.specs.Known.{Scope, Verdict, Fine, Breaks}
use Rattle.go_expr.specs.Rules.{fine, checked, constant_in, assigned}
use Rattle.go_expr.specs.Verdicts.{asked, both, broken, operand, verdict}
use Rattle.go_expr.specs.Views.{Fails}
use Rattle.go_expr.proofs.Lists.{fails_front}
use Rattle.go_stmt.specs.Scopes.{StatementEnv, Context, Checked, StatementFaults, nothing, scope_in, variable_number, paired_names, declare_new, still, follow, concat_checked}
use Rattle.go_stmt.specs.Rules.{AssignedValues, all_some, variables_source, constants_verdict}
use Rattle.go_scope.specs.Specifications.{meant, is_repeated}
use Rattle.go_stmt.specs.Statements.{names_faults, names_at, written_at, values_at, place_of_first, variable_types, variables_at, each_of, operands_faults, spec_at, constants_at, declared_as, group_at}
use Rattle.go_stmt.proofs.Defining.{made, made_fails}

-- a rule that doesn't look at what is known of the first part
behind : {A B C : Type 0} (x : A) (rule : B → Verdict C) (o : Option B) → asked (λ k. rule k.1) (both (Some x) o) ≡ asked rule o
behind x rule None = refl
behind x rule (Some k) = refl

pub mapped_twice : {A B C : Type 0} (f : B → C) (g : A → B) (o : Option A) → option_map f (option_map g o) ≡ option_map (λ x. f (g x)) o
mapped_twice f g None = refl
mapped_twice f g (Some x) = refl

-- ---- variables

abbrev pub source_by : List Name → Option (Option Type' × AssignedValues) → Verdict typed.ValueSource
source_by ns o = asked (λ k. variables_source ns k.0 k.1) o

abbrev variables_rule : List Name → List Name × (Option Type' × AssignedValues) → Verdict typed.ValueSource
variables_rule ns k = variables_source ns (k.1).0 (k.1).1

abbrev pub numbers_behind : Context → VarSpec → StatementEnv → List (Option ℕ)
numbers_behind c spec env = map (variable_number (declare_new (paired_names spec.names (variable_types (scope_in c None env) spec)) env)) spec.names

abbrev as_list : List (Option ℕ) → typed.ValueSource → List typed.Stmt
as_list numbers source = typed.define numbers source ∷ []

written_kept : (s : Scope) (t : Option TypeExpr) (env : StatementEnv) → (written_at s t env).after ≡ env
written_kept s None env = refl
written_kept s (Some t) env = refl

variables_known : (c : Context) (spec : VarSpec) (env : StatementEnv) (written : Option (Option Type')) (values : Option AssignedValues) → written ≡ (written_at (scope_in c None env) spec.type env).known →
    values ≡ (values_at c spec.values env).known → (follow (written_at (scope_in c None env) spec.type) (values_at c spec.values) env).known ≡ both written values
variables_known c spec env written values w v =
    ap (λ o. both o (values_at c spec.values (written_at (scope_in c None env) spec.type env).after).known) (sym w)
    ∙ ap (both written) (ap (λ there. (values_at c spec.values there).known) (written_kept (scope_in c None env) spec.type env) ∙ sym v)

-- the parts have no fault
pub variables_made : (c : Context) (p : Place) (spec : VarSpec) (env : StatementEnv) (written : Option (Option Type')) (values : Option AssignedValues) (source : Option typed.ValueSource) →
    names_faults env [] spec.names ≡ [] → (follow (written_at (scope_in c None env) spec.type) (values_at c spec.values) env).faults ≡ [] →
    written ≡ (written_at (scope_in c None env) spec.type env).known → values ≡ (values_at c spec.values env).known →
    broken (place_of_first p spec.names) (source_by spec.names (both written values)) ≡ [] → fine (source_by spec.names (both written values)) ≡ source →
    ((variables_at c p spec env).faults ≡ []) × ((variables_at c p spec env).known ≡ option_map (as_list (numbers_behind c spec env)) source)
variables_made c p spec env written values source none parts w v unbroken gives =
    let s = scope_in c None env in
    let rest = follow (written_at s spec.type) (values_at c spec.values) in
    let same = behind spec.names (λ (k : Option Type' × AssignedValues). variables_source spec.names k.0 k.1) (both written values) in
    made (place_of_first p spec.names) (as_list (numbers_behind c spec env)) (variables_rule spec.names) (follow (names_at spec.names) rest) env (both (Some spec.names) (both written values)) source
    (ap (λ l. l ++ (rest env).faults) none ∙ parts)
    (ap (both (Some spec.names)) (variables_known c spec env written values w v))
    (ap (broken (place_of_first p spec.names)) same ∙ unbroken) (ap fine same ∙ gives)

-- their rule is broken
pub variables_fail : (e : ExprError) (c : Context) (p : Place) (spec : VarSpec) (env : StatementEnv) (written : Option (Option Type')) (values : Option AssignedValues) →
    names_faults env [] spec.names ≡ [] → (follow (written_at (scope_in c None env) spec.type) (values_at c spec.values) env).faults ≡ [] →
    written ≡ (written_at (scope_in c None env) spec.type env).known → values ≡ (values_at c spec.values env).known →
    Fails e (broken (place_of_first p spec.names) (source_by spec.names (both written values))) → Fails e (variables_at c p spec env).faults
variables_fail e c p spec env written values none parts w v h =
    let s = scope_in c None env in
    let rest = follow (written_at s spec.type) (values_at c spec.values) in
    let same = behind spec.names (λ (k : Option Type' × AssignedValues). variables_source spec.names k.0 k.1) (both written values) in
    made_fails e (place_of_first p spec.names) (as_list (numbers_behind c spec env)) (variables_rule spec.names) (follow (names_at spec.names) rest) env (both (Some spec.names) (both written values))
    (ap (λ l. l ++ (rest env).faults) none ∙ parts)
    (ap (both (Some spec.names)) (variables_known c spec env written values w v))
    (subst (λ (l : StatementFaults). Fails e l) (sym (ap (broken (place_of_first p spec.names)) same)) h)

-- ---- constants

written_anywhere : (s : Scope) (t : Option TypeExpr) (env there : StatementEnv) → (written_at s t env).faults ≡ (written_at s t there).faults
written_anywhere s None env there = refl
written_anywhere s (Some t) env there = refl

known_anywhere : (s : Scope) (t : Option TypeExpr) (env there : StatementEnv) → (written_at s t env).known ≡ (written_at s t there).known
known_anywhere s None env there = refl
known_anywhere s (Some t) env there = refl

abbrev pub constants_by : List Name → Option (Option Type' × List typed.Expr) → Verdict typed.Stmt
constants_by ns o = asked (λ k. constants_verdict ns k.0 k.1) o

abbrev constants_rule : List Name → List Name × (Option Type' × List typed.Expr) → Verdict typed.Stmt
constants_rule ns k = constants_verdict ns (k.1).0 (k.1).1

abbrev alone : typed.Stmt → List typed.Stmt
alone s = s ∷ []

abbrev values_of : Scope → ConstSpec → Option (List typed.Expr)
values_of s spec = all_some (each_of (λ e. operand (verdict s e)) spec.values)

abbrev parts_at : Scope → ConstSpec → StatementEnv → Checked (Option Type' × List typed.Expr)
parts_at s spec = follow (written_at s spec.type) (still (operands_faults s spec.values) (values_of s spec))

-- the faults of the type and the values, whatever is in scope
pub parts_anywhere : (s : Scope) (p : Place) (repeated : Bool) (spec : ConstSpec) (env there : StatementEnv) → (spec_at s p repeated spec env).faults ≡ (spec_at s p repeated spec there).faults
parts_anywhere s p true spec env there = refl
parts_anywhere s p false spec env there = ap (λ l. l ++ operands_faults s spec.values) (written_anywhere s spec.type env there)

parts_known : (s : Scope) (spec : ConstSpec) (env : StatementEnv) (written : Option (Option Type')) (values : Option (List typed.Expr)) → written ≡ (written_at s spec.type nothing).known →
    values ≡ values_of s spec → (parts_at s spec env).known ≡ both written values
parts_known s spec env written values w v =
    ap (λ o. both o (values_of s spec)) (known_anywhere s spec.type env nothing ∙ sym w) ∙ ap (both written) (sym v)

-- the parts have no fault
pub constants_made : (c : Context) (p : Place) (iota : ℕ) (repeated : Bool) (spec : ConstSpec) (env : StatementEnv) (written : Option (Option Type')) (values : Option (List typed.Expr)) (statement : Option typed.Stmt) →
    names_faults env [] spec.names ≡ [] → (spec_at (scope_in c (Some iota) env) (place_of_first p spec.names) repeated spec nothing).faults ≡ [] →
    written ≡ (written_at (scope_in c (Some iota) env) spec.type nothing).known → values ≡ values_of (scope_in c (Some iota) env) spec →
    broken (place_of_first p spec.names) (constants_by spec.names (both written values)) ≡ [] → fine (constants_by spec.names (both written values)) ≡ statement →
    ((constants_at c p iota repeated spec env).faults ≡ []) × ((constants_at c p iota repeated spec env).known ≡ option_map alone statement)
constants_made c p iota repeated spec env written values statement none parts w v unbroken gives =
    let s = scope_in c (Some iota) env in
    let first = place_of_first p spec.names in
    let rest = spec_at s first repeated spec in
    let same = behind spec.names (λ (k : Option Type' × List typed.Expr). constants_verdict spec.names k.0 k.1) (both written values) in
    made first alone (constants_rule spec.names) (follow (names_at spec.names) rest) env (both (Some spec.names) (both written values)) statement
    (ap (λ l. l ++ (rest env).faults) none ∙ parts_anywhere s first repeated spec env nothing ∙ parts)
    (ap (both (Some spec.names)) (parts_known s spec env written values w v)) (ap (broken first) same ∙ unbroken) (ap fine same ∙ gives)

-- their rule is broken
pub constants_fail : (e : ExprError) (c : Context) (p : Place) (iota : ℕ) (repeated : Bool) (spec : ConstSpec) (env : StatementEnv) (written : Option (Option Type')) (values : Option (List typed.Expr)) →
    names_faults env [] spec.names ≡ [] → (spec_at (scope_in c (Some iota) env) (place_of_first p spec.names) repeated spec nothing).faults ≡ [] →
    written ≡ (written_at (scope_in c (Some iota) env) spec.type nothing).known → values ≡ values_of (scope_in c (Some iota) env) spec →
    Fails e (broken (place_of_first p spec.names) (constants_by spec.names (both written values))) → Fails e (constants_at c p iota repeated spec env).faults
constants_fail e c p iota repeated spec env written values none parts w v h =
    let s = scope_in c (Some iota) env in
    let first = place_of_first p spec.names in
    let rest = spec_at s first repeated spec in
    let same = behind spec.names (λ (k : Option Type' × List typed.Expr). constants_verdict spec.names k.0 k.1) (both written values) in
    made_fails e first alone (constants_rule spec.names) (follow (names_at spec.names) rest) env (both (Some spec.names) (both written values))
    (ap (λ l. l ++ (rest env).faults) none ∙ parts_anywhere s first repeated spec env nothing ∙ parts)
    (ap (both (Some spec.names)) (parts_known s spec env written values w v)) (subst (λ (l : StatementFaults). Fails e l) (sym (ap (broken first) same)) h)

-- a part has a fault
pub constants_part_fails : (e : ExprError) (c : Context) (p : Place) (iota : ℕ) (repeated : Bool) (spec : ConstSpec) (env : StatementEnv) → names_faults env [] spec.names ≡ [] →
    Fails e (spec_at (scope_in c (Some iota) env) (place_of_first p spec.names) repeated spec nothing).faults → Fails e (constants_at c p iota repeated spec env).faults
constants_part_fails e c p iota repeated spec env none h =
    let s = scope_in c (Some iota) env in
    let first = place_of_first p spec.names in
    let rest = spec_at s first repeated spec in
    let form = follow (names_at spec.names) rest in
    let whole : List Name × (Option Type' × List typed.Expr) → Verdict (List typed.Stmt) = λ k. checked (λ s. Fine (s ∷ [])) (constants_rule spec.names k) in
    let own = broken first (asked whole (form env).known) in
    let faults : (form env).faults ≡ (rest nothing).faults = ap (λ l. l ++ (rest env).faults) none ∙ parts_anywhere s first repeated spec env nothing in
    subst (λ (l : StatementFaults). Fails e l) (sym (ap (λ l. l ++ own) faults)) (fails_front e (rest nothing).faults own h)

-- what isn't constant declares nothing that is known
unknown_either : (a b : Bool) (t : Type') (e : typed.Expr) → declared_as (Some e) ≡ None →
    declared_as (fine (if not a then Breaks Assign else Fine (if b then e else typed.conversion t e))) ≡ None
unknown_either true true t e h = h
unknown_either true false t e h = refl
unknown_either false b t e h = refl

pub unknown_assigned : (t : Type') (e : typed.Expr) → constant_in e ≡ None → None ≡ declared_as (fine (assigned t e))
unknown_assigned t (typed.constant u c) h = cc
unknown_assigned t (typed.local u n) h = sym (unknown_either (assignable u t) (identical u t) t (typed.local u n) refl)
unknown_assigned t (typed.global u x) h = sym (unknown_either (assignable u t) (identical u t) t (typed.global u x) refl)
unknown_assigned t (typed.field u e n) h = sym (unknown_either (assignable u t) (identical u t) t (typed.field u e n) refl)
unknown_assigned t (typed.index u e i) h = sym (unknown_either (assignable u t) (identical u t) t (typed.index u e i) refl)
unknown_assigned t (typed.length u e) h = sym (unknown_either (assignable u t) (identical u t) t (typed.length u e) refl)
unknown_assigned t (typed.capacity u e) h = sym (unknown_either (assignable u t) (identical u t) t (typed.capacity u e) refl)
unknown_assigned t (typed.cut u e low high) h = sym (unknown_either (assignable u t) (identical u t) t (typed.cut u e low high) refl)
unknown_assigned t (typed.make u n o) h = sym (unknown_either (assignable u t) (identical u t) t (typed.make u n o) refl)
unknown_assigned t (typed.append u o es) h = sym (unknown_either (assignable u t) (identical u t) t (typed.append u o es) refl)
unknown_assigned t (typed.unary u op e) h = sym (unknown_either (assignable u t) (identical u t) t (typed.unary u op e) refl)
unknown_assigned t (typed.binary u op a b) h = sym (unknown_either (assignable u t) (identical u t) t (typed.binary u op a b) refl)
unknown_assigned t (typed.both u a b) h = sym (unknown_either (assignable u t) (identical u t) t (typed.both u a b) refl)
unknown_assigned t (typed.either u a b) h = sym (unknown_either (assignable u t) (identical u t) t (typed.either u a b) refl)
unknown_assigned t (typed.conversion u e) h = sym (unknown_either (assignable u t) (identical u t) t (typed.conversion u e) refl)
unknown_assigned t (typed.literal u parts) h = sym (unknown_either (assignable u t) (identical u t) t (typed.literal u parts) refl)
unknown_assigned t (typed.call u f es) h = sym (unknown_either (assignable u t) (identical u t) t (typed.call u f es) refl)

-- the next specification of a group, and those behind it
pub group_begins : (c : Context) (p : Place) (i : ℕ) (before now s : ConstSpec) (repeated : Bool) (all ss : List ConstSpec) (env : StatementEnv) → all ≡ s ∷ ss → repeated ≡ is_repeated s →
    now ≡ meant before s → group_at c p i before all env ≡ concat_checked (constants_at c p i repeated now) (group_at c p (i + 1) now ss) env
group_begins c p i before now s repeated all ss env next same means =
    ap (λ l. group_at c p i before l env) next
    ∙ ap (λ b. concat_checked (constants_at c p i b (meant before s)) (group_at c p (suc i) (meant before s) ss) env) (sym same)
    ∙ ap (λ m. concat_checked (constants_at c p i repeated m) (group_at c p (suc i) m ss) env) (sym means)
    ∙ ap (λ k. concat_checked (constants_at c p i repeated now) (group_at c p k now ss) env) (sym (add-one i))

-- ---- places

pub first_placed : (p : Place) (es : List Expr) (e : Expr) → 1 ≤ length es → e ≡ get_or es 0 e → e.place ≡ first_place p (exprs_in es)
first_placed p [] e h is = absurd (let n : ⊥ = omega arith in n)
first_placed p (x ∷ es) e h is = ap (λ (y : Expr). y.place) is ∙ sym (placed x)
