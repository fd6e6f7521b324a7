-- Expressions, values and the simple statements that declare nothing.
use Rattle.std.proofs.Common.{◌≡◌, ℕ, Option, Some, None, List, [], ◌∷◌, ◌++◌, refl}
use Rattle.std.specs.Prelude.{option_map}
use Rattle.go_text.specs.declared.place.Place.{Place}
use Rattle.go_ast.specs.Trees.{Name, TypeExpr, Expression, ExpressionList, no_exprs, some_exprs}
use Rattle.go_expr.specs.Known.{Known, Scope, look_up_known}
use Rattle.go_expr.specs.Rules.{fine}
use Rattle.go_expr.specs.Verdicts as verdicts
use Rattle.go_expr.specs.Verdicts.{asked, operand, operand_list, verdict, type_verdict, broken, bare_place, operand_broken, faults}
use Rattle.go_stmt.specs.Scopes.{StatementEnv, Context, scope_in, Checked, still, pure_checked, follow, map_checked, node}
use Rattle.go_stmt.specs.Rules.{all_some, separate, values_of, stated, performed, assigned_to}
use Rattle.go_stmt.specs.Statements.{value_at, each_of, operands_faults, values_known, values_faults, values_at, names_at, written_at, blank_left, left_at, lefts_at, condition_at, tag_at, cases_at}
use Rattle.go_package_laws.specs.Finds.{IsKnown, IsDetermined}
use Rattle.go_package_laws.proofs.Completeness.Steps.{several, statements, performances, assignments_to}
use Rattle.go_package_laws.proofs.Completeness.Faultless.{two_none, known, known_of, by_one, mapped, joined_known, told_settled, told_value, told_type}
use Rattle.go_package_laws.proofs.Completeness.Forms.{Outside, all_told, Any, Sure, any, sure_given, both_sure, sure_if, sure_seen, sure_appended, sure_node}

abbrev pub Tells : Scope → Type 0
Tells s = (x : List ℕ) → IsDetermined (look_up_known x s.names)

pub value_sure : (c : Context) → Outside c → (e : Expression) → Sure Any (value_at c e)
value_sure c out e env whole none =
    let s = scope_in c None env in
    (any (operand (verdict s e)) (told_value s e (all_told c None env out whole) none), whole)

pub all_more : {A : Type 0} (o : Option A) (os : List (Option A)) → IsKnown o → IsKnown (all_some os) → IsKnown (all_some (o ∷ os))
all_more None os k h = cc
all_more (Some x) os k h = mapped (λ xs. x ∷ xs) (all_some os) h

pub all_operands : (s : Scope) → Tells s → (es : ExpressionList) → operands_faults s es ≡ [] → IsKnown (all_some (each_of (λ e. operand (verdict s e)) es))
all_operands s t no_exprs none = ([], refl)
all_operands s t (some_exprs e es) none =
    let ns = two_none (faults s e ++ operand_broken e (verdict s e)) (operands_faults s es) none in
    all_more (operand (verdict s e)) (each_of (λ e. operand (verdict s e)) es) (told_value s e t ns.0) (all_operands s t es ns.1)

pub cases_known : (s : Scope) → Tells s → (es : ExpressionList) → verdicts.operands_faults s es ≡ [] → IsKnown (operand_list s es)
cases_known s t no_exprs none = ([], refl)
cases_known s t (some_exprs e es) none =
    let ns = two_none (faults s e ++ operand_broken e (verdict s e)) (verdicts.operands_faults s es) none in
    joined_known (option_map (λ v. v ∷ []) (operand (verdict s e))) (operand_list s es) (mapped (λ v. v ∷ []) (operand (verdict s e)) (told_value s e t ns.0)) (cases_known s t es ns.1)

pub all_values : (s : Scope) → Tells s → (es : ExpressionList) → values_faults s es ≡ [] → IsKnown (values_known s es)
all_values s t no_exprs none = (separate [], refl)
all_values s t (some_exprs e no_exprs) none =
    let rule = asked values_of (fine (verdict s e)) in
    let ns = two_none (faults s e) (broken (bare_place e) rule) none in
    known (bare_place e) rule (by_one values_of (fine (verdict s e)) (known_of (verdict s e) (told_settled s e t ns.0)) several) ns.1
all_values s t (some_exprs e (some_exprs f es)) none =
    mapped separate (all_some (each_of (λ e. operand (verdict s e)) (some_exprs e (some_exprs f es)))) (all_operands s t (some_exprs e (some_exprs f es)) none)

pub values_sure : (c : Context) → Outside c → (es : ExpressionList) → Sure Any (values_at c es)
values_sure c out es env whole none =
    let s = scope_in c None env in
    (any (values_known s es) (all_values s (all_told c None env out whole) es none), whole)

pub names_sure : (ns : List Name) → Sure Any (names_at ns)
names_sure ns env whole none = ((ns, refl, tt), whole)

pub written_sure : (s : Scope) → Tells s → (t : Option TypeExpr) → Sure Any (written_at s t)
written_sure s all None = sure_given None
written_sure s all (Some t) = λ env whole none. (any (option_map Some (fine (type_verdict s t))) (mapped Some (fine (type_verdict s t)) (told_type s t all none)), whole)

left_sure : (c : Context) → Outside c → (e : Expression) → Sure Any (left_at c e)
left_sure c out e = sure_if (blank_left e) (pure_checked (None ∷ [])) (map_checked (λ e. Some e ∷ []) (value_at c e)) (sure_given (None ∷ [])) (sure_seen Any Any (λ e. Some e ∷ []) (value_at c e) (λ x p. tt) (value_sure c out e))

lefts_sure : (c : Context) → Outside c → (es : ExpressionList) → Sure Any (lefts_at c es)
lefts_sure c out no_exprs = sure_given []
lefts_sure c out (some_exprs e es) = sure_appended (left_at c e) (lefts_at c es) (left_sure c out e) (lefts_sure c out es)

-- a call that stands alone
abbrev call_at : Context → Expression → StatementEnv → Checked Known
call_at c e env = still (faults (scope_in c None env) e) (fine (verdict (scope_in c None env) e)) env

call_sure : (c : Context) → Outside c → (e : Expression) → Sure Any (call_at c e)
call_sure c out e env whole none =
    let s = scope_in c None env in
    (any (fine (verdict s e)) (known_of (verdict s e) (told_settled s e (all_told c None env out whole) none)), whole)

pub performed_sure : (c : Context) → Outside c → (p : Place) (e : Expression) → Sure Any (node p performed (node (bare_place e) stated (call_at c e)))
performed_sure c out p e =
    sure_node Any p performed (node (bare_place e) stated (call_at c e)) (λ x q. performances x) (sure_node Any (bare_place e) stated (call_at c e) (λ x q. statements x) (call_sure c out e))

pub assigned_sure : (c : Context) → Outside c → (p : Place) (ls rs : ExpressionList) → Sure Any (node p (λ k. assigned_to k.0 k.1) (follow (lefts_at c ls) (values_at c rs)))
assigned_sure c out p ls rs =
    sure_node Any p (λ k. assigned_to k.0 k.1) (follow (lefts_at c ls) (values_at c rs)) (λ x q. assignments_to x.0 x.1)
    (both_sure (lefts_at c ls) (values_at c rs) (lefts_sure c out ls) (values_sure c out rs))

pub condition_sure : (c : Context) → Outside c → (e : Option Expression) → Sure Any (condition_at c e)
condition_sure c out None = sure_given None
condition_sure c out (Some e) = sure_seen Any Any Some (value_at c e) (λ x p. tt) (value_sure c out e)

pub tag_sure : (c : Context) → Outside c → (e : Option Expression) → Sure Any (tag_at c e)
tag_sure c out None = sure_given _
tag_sure c out (Some e) = value_sure c out e

pub cases_sure : (c : Context) → Outside c → (es : Option ExpressionList) → Sure Any (cases_at c es)
cases_sure c out None = sure_given None
cases_sure c out (Some es) = λ env whole none. (
    let s = scope_in c None env in
    (any (option_map Some (operand_list s es)) (mapped Some (operand_list s es) (cases_known s (all_told c None env out whole) es none)), whole)
    )
