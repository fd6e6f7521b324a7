-- Statements that are known follow their forms.
use Rattle.std.proofs.Common.{◌≡◌, ℕ, suc, Bool, true, false, not, ◌&&◌, ◌||◌, Option, Some, None, List, [], ◌∷◌, ◌++◌, length, map, refl, sym, ap, subst, ◌∙◌, arith}
use Rattle.std.specs.Prelude.{Ok, Err, nat_eq, pos, is_some, option_map, unwrap_or, if◌then◌else◌}
use Rattle.std.specs.List.{AllZip, filter_map, flat_map, list_all, list_any, zip}
use Rattle.std.proofs.lemmas.Bool.{eqb-true}
use Rattle.std.proofs.lemmas.List.{length-map}
use Rattle.go_text.specs.declared.fault.FaultKind.{FaultKind}
use Rattle.go_text.specs.declared.fault.FaultKind.TheVariants.{Mismatch, NoReturn, Branch}
use Rattle.go_text.specs.declared.place.Place.{Place}
use Rattle.go_ast.specs.Trees.{Name, TypeExpr, Expression, ExpressionList, no_exprs, some_exprs, Simple, call_statement, increment, decrement, assignment, operator_assignment, short_var_decl, ConstSpec, VarSpec, Decl, constants, variables, types, Statement, empty, declaration, simple, return, break, continue, fallthrough, block_statement, if_statement, for_statement, range_statement, switch_statement, Block, block, If, conditional as conditional_if, Else, no_else, else_block, else_if, StatementList, no_stmts, some_stmts, Cases, no_clauses, clause, FunctionDecl}
use Rattle.go_ast.specs.declared.expression.BinaryOperator.{BinaryOperator}
use Rattle.go_const.specs.declared.constant.Const.TheVariants.{Integer}
use Rattle.go_const.specs.declared.operator.ArithmeticOperator.{ArithmeticOperator}
use Rattle.go_const.specs.declared.operator.ArithmeticOperator.TheVariants.{Add, Subtract}
use Rattle.go_const.specs.declared.operator.BinaryOperator.TheVariants.{Comparison}
use Rattle.go_const.specs.declared.operator.ComparisonOperator.TheVariants.{Equal}
use Rattle.go_types.specs.Types.{Type'}
use Rattle.go_typed.specs.Trees as typed
use Rattle.go_typed.specs.Trees.{expr_type, pack_stmts, pack_exprs, pack_clauses}
use Rattle.go_typed.specs.Terminating.{list_terminates}
use Rattle.go_typed.specs.declared.expression.Operator.{Operator}
use Rattle.go_typed.specs.declared.expression.Operator.TheVariants as operators
use Rattle.go_expr.specs.Known as known
use Rattle.go_expr.specs.Known.{Known, Declared, Verdict, Fine, Breaks, Passed, Scope}
use Rattle.go_expr.specs.Rules.{fine, checked, wrong, least, fine_list, is_integer, value_due, binary_verdict, condition, default_type, defaulted, as_type, operand_type}
use Rattle.go_expr.specs.Verdicts.{asked, bare_place, both, faults, operand, operand_list, verdict}
use Rattle.go_scope.specs.Specifications.{meant, is_repeated}
use Rattle.go_stmt.specs.Scopes.{StatementEnv, Context, Checked, nothing, scope_in, enter_scope, paired_names, declare_new, own, variable_number, still, pure_checked, follow, map_checked, single, concat_checked, node, perhaps}
use Rattle.go_stmt.specs.Rules.{all_some, AssignedValues, separate, together, no_values, values_of, suited_one, suited_if, suited, suited_partly, takes, constants_verdict, constants_source, variables_source, has_no_values, is_constant, differ, is_new, dues_for, redefined, stated, performed, left_to, left_side, assigned_to, is_left, updating, update_verdict, inc_dec_verdict, conditional, loop_condition, looped, counted, ranged, SwitchClause, case_value, clause_verdict, switched, branch, return_verdict, ended}
use Rattle.go_stmt.specs.Statements.{value_at, each_of, values_known, values_at, value_types, variable_types, names_at, written_at, place_of_first, variables_at, spec_at, constants_at, group_at, specs_at, declaration_at, one_block, left_at, blank_left, lefts_at, short_at, begins_at, simple_at, optional_at, condition_at, block_context, in_block, in_loop, in_clause, before_others, context_behind, leads_on, has_no_clauses, tag_at, cases_at, clause_at, range_type, range_names, range_number, is_unsure, statement_at, if_at, else_at, block_at, list_at, clauses_at}
use Rattle.go_stmt.specs.Functions.{CheckedParts, parameters_at, result_types, results_at, body_at, closing_place, whole_function, whole_at, function_from, function_at}
use Rattle.go_package_laws.specs.TypedStatements.{expression_count, typed_count, AreTypedValues, IsTypedCall, IsTypedUpdate, IsTypedDefinition, IsTypedSimple, IsTypedOptional, IsTypedDeclaration, AreTypedCases, IsTyped, IsTypedBlock, IsTypedIf, IsTypedElse, FollowStatements, AreTypedClauses}
use Rattle.go_package_laws.proofs.Completeness.Counts.{some_counted, none_wrong}
use Rattle.go_package_laws.proofs.Completeness.Rules.{IsAsked, through, assignments, defaults, operand_types}

-- ---- what is known of a form

-- what is known of it is such
abbrev pub Has : {A : Type 0} → (A → Type 0) → Checked A → Type 0
Has {A} P x = (y : A) → x.known ≡ Some y → P y

some_is : {A : Type 0} (x y : A) → Some x ≡ Some y → x ≡ y
some_is x y e = cc (e)

mapped : {A B : Type 0} (f : A → B) (o : Option A) (y : B) → option_map f o ≡ Some y → (x : A) × (o ≡ Some x) × (f x ≡ y)
mapped f None y e = absurd (cc (e))
mapped f (Some x) y e = (x, refl, some_is (f x) y e)

fine_is : {A : Type 0} (v : Verdict A) (y : A) → fine v ≡ Some y → v ≡ Fine y
fine_is (Fine x) y e = ap Fine (some_is x y e)
fine_is (Breaks kind) y e = absurd (cc (e))
fine_is Passed y e = absurd (cc (e))

asked_is : {A B : Type 0} (rule : A → Verdict B) (o : Option A) (y : B) → asked rule o ≡ Fine y → (x : A) × (o ≡ Some x) × (rule x ≡ Fine y)
asked_is rule None y e = absurd (cc (e))
asked_is rule (Some x) y e = (x, refl, e)

checked_is : {A B : Type 0} (rule : A → Verdict B) (v : Verdict A) (y : B) → checked rule v ≡ Fine y → (x : A) × (v ≡ Fine x) × (rule x ≡ Fine y)
checked_is rule (Fine x) y e = (x, refl, e)
checked_is rule (Breaks kind) y e = absurd (cc (e))
checked_is rule Passed y e = absurd (cc (e))

fine_same : {A : Type 0} (x y : A) → Fine x ≡ Fine y → x ≡ y
fine_same x y e = cc (e)

both_are : {A B : Type 0} (a : Option A) (b : Option B) (y : A × B) → both a b ≡ Some y → (a ≡ Some y.0) × (b ≡ Some y.1)
both_are None b y e = absurd (cc (e))
both_are (Some x) None y e = absurd (cc (e))
both_are {A} {B} (Some x) (Some z) y e = (let same : ◌≡◌ {A = A × B} (x, z) y = some_is {A = A × B} (x, z) y e in (ap (λ (p : A × B). Some p.0) same, ap (λ (p : A × B). Some p.1) same))

has_given : {A : Type 0} (P : A → Type 0) (x : A) (env : StatementEnv) → P x → Has P (pure_checked x env)
has_given P x env p y e = subst P (some_is x y e) p

has_seen : {A B : Type 0} (P : A → Type 0) (Q : B → Type 0) (f : A → B) (form : StatementEnv → Checked A) (env : StatementEnv) → ((x : A) → P x → Q (f x)) → Has P (form env) → Has Q (map_checked f form env)
has_seen P Q f form env to h y e = (let x = mapped f (form env).known y e in subst Q x.2 (to x.0 (h x.0 x.1)))

has_single : {A : Type 0} (P : A → Type 0) (form : StatementEnv → Checked A) (env : StatementEnv) → Has P (form env) → Has (λ ts. (t : A) × (ts ≡ t ∷ []) × P t) (single form env)
has_single {A} P form env h = has_seen P (λ ts. (t : A) × (ts ≡ t ∷ []) × P t) (λ x. x ∷ []) form env (λ x p. (x, refl, p)) h

has_follow : {A B : Type 0} (P : A → Type 0) (Q : B → Type 0) (first : StatementEnv → Checked A) (second : StatementEnv → Checked B) (env : StatementEnv) → Has P (first env) → Has Q (second (first env).after) → Has (λ (k : A × B). P k.0 × Q k.1) (follow first second env)
has_follow P Q first second env g h y e = (let parts = both_are (first env).known (second (first env).after).known y e in (g y.0 parts.0, h y.1 parts.1))

has_node : {A B : Type 0} (P : A → Type 0) (Q : B → Type 0) (p : Place) (rule : A → Verdict B) (parts : StatementEnv → Checked A) (env : StatementEnv) → ((x : A) → P x → (y : B) → rule x ≡ Fine y → Q y) → Has P (parts env) → Has Q (node p rule parts env)
has_node P Q p rule parts env to h y e =
    let x = asked_is rule (parts env).known y (fine_is (asked rule (parts env).known) y e) in
    to x.0 (h x.0 x.1) y x.2

has_appended : {A : Type 0} (P Q R : List A → Type 0) (first second : StatementEnv → Checked (List A)) (env : StatementEnv) → ((x y : List A) → P x → Q y → R (x ++ y)) → Has P (first env) → Has Q (second (first env).after) → Has R (concat_checked first second env)
has_appended {A} P Q R first second env to g h =
    has_seen (λ (k : List A × List A). P k.0 × Q k.1) R (λ k. k.0 ++ k.1) (follow first second) env (λ k p. to k.0 k.1 p.0 p.1) (has_follow P Q first second env g h)

-- of anything
abbrev Any : {A : Type 0} → A → Type 0
Any x = Unit {0}

any : {A : Type 0} (x : Checked A) → Has (λ (y : A). Unit {0}) x
any x y e = tt

-- ---- values

-- values of some expressions
abbrev pub AreOf : ExpressionList → AssignedValues → Type 0
AreOf es (separate xs) = length xs ≡ expression_count es
AreOf es (together ts f xs) = expression_count es ≡ 1
AreOf es no_values = expression_count es ≡ 1

each_length : {A : Type 0} (f : Expression → A) (es : ExpressionList) → length (each_of f es) ≡ expression_count es
each_length f no_exprs = refl
each_length f (some_exprs e es) = ap suc (each_length f es)

one_alone : (e : Expression) (k : Known) (v : AssignedValues) → values_of k ≡ Fine v → AreOf (some_exprs e no_exprs) v
one_alone e (known.results ts f es) v is = subst (AreOf (some_exprs e no_exprs)) (fine_same (together ts f es) v is) refl
one_alone e (known.panicked x) v is = subst (AreOf (some_exprs e no_exprs)) (fine_same no_values v is) refl
one_alone e (known.declared d) v is = alone (value_due (known.declared d)) is
  where
    alone : (w : Verdict typed.Expr) → checked (λ x. Fine (separate (x ∷ []))) w ≡ Fine v → AreOf (some_exprs e no_exprs) v
    alone w h = (let x = checked_is (λ x. Fine (separate (x ∷ []))) w v h in subst (AreOf (some_exprs e no_exprs)) (fine_same (separate (x.0 ∷ [])) v x.2) refl)
one_alone e (known.package' names) v is = (let x = checked_is (λ x. Fine (separate (x ∷ []))) (value_due (known.package' names)) v is in subst (AreOf (some_exprs e no_exprs)) (fine_same (separate (x.0 ∷ [])) v x.2) refl)
one_alone e (known.printed es) v is = (let x = checked_is (λ x. Fine (separate (x ∷ []))) (value_due (known.printed es)) v is in subst (AreOf (some_exprs e no_exprs)) (fine_same (separate (x.0 ∷ [])) v x.2) refl)

several : (s : Scope) (es : ExpressionList) (v : AssignedValues) → option_map separate (all_some (each_of (λ e. operand (verdict s e)) es)) ≡ Some v → AreOf es v
several s es v is =
    let xs = mapped separate (all_some (each_of (λ e. operand (verdict s e)) es)) v is in
    subst (AreOf es) xs.2 (sym (some_counted (each_of (λ e. operand (verdict s e)) es) xs.0 xs.1) ∙ each_length (λ e. operand (verdict s e)) es)

values_are : (s : Scope) (es : ExpressionList) (v : AssignedValues) → values_known s es ≡ Some v → AreOf es v
values_are s no_exprs v is = several s no_exprs v is
values_are s (some_exprs e no_exprs) v is =
    let k = asked_is values_of (fine (verdict s e)) v (fine_is (asked values_of (fine (verdict s e))) v is) in
    one_alone e k.0 v k.2
values_are s (some_exprs e (some_exprs f es)) v is = several s (some_exprs e (some_exprs f es)) v is

pub values_has : (c : Context) (es : ExpressionList) (env : StatementEnv) → Has (AreOf es) (values_at c es env)
values_has c es env v is = values_are (scope_in c None env) es v is

-- ---- sources

packed_count : (xs : List typed.Expr) → typed_count (pack_exprs xs) ≡ length xs
packed_count [] = refl
packed_count (x ∷ xs) = ap suc (packed_count xs)

-- of those that all are told none is left out
abbrev AllAsked : {A : Type 0} → List (Verdict A) → Type 0
AllAsked [] = Unit {0}
AllAsked (v ∷ vs) = IsAsked v × AllAsked vs

all_asked : {X A : Type 0} (f : X → Verdict A) → ((x : X) → IsAsked (f x)) → (xs : List X) → AllAsked (map f xs)
all_asked f h [] = tt
all_asked f h (x ∷ xs) = (h x, all_asked f h xs)

fine_length : {A : Type 0} (vs : List (Verdict A)) → AllAsked vs → flat_map wrong vs ≡ [] → length (filter_map fine vs) ≡ length vs
fine_length [] h none = refl
fine_length (Fine x ∷ vs) h none = ap suc (fine_length vs h.1 none)
fine_length (Breaks kind ∷ vs) h none = absurd (cc (none))
fine_length (Passed ∷ vs) h none = absurd h.0

each_is : {A : Type 0} (vs : List (Verdict A)) (ys : List A) → AllAsked vs → fine_list [] vs ≡ Fine ys → length ys ≡ length vs
each_is vs ys h is = by_least (least (flat_map wrong vs)) refl ∙ fine_length vs h (none_wrong vs (least (flat_map wrong vs)) refl (ys, ap fine is))
  where
    by_least : (o : Option FaultKind) → least (flat_map wrong vs) ≡ o → length ys ≡ length (filter_map fine vs)
    by_least None at = (let r : fine_list [] vs ≡ Fine (filter_map fine vs) = rw (at, fine_list) refl in ap length (fine_same ys (filter_map fine vs) (sym is ∙ r)))
    by_least (Some k) at = absurd (let r : fine_list [] vs ≡ Breaks k = rw (at, fine_list) refl in cc (is, r))

suits : (p : Option Type' × typed.Expr) → IsAsked (suited_one p)
suits (None, e) = defaults e
suits (Some t, e) = assignments t e

zip_length : {A B : Type 0} (xs : List A) (ys : List B) → length xs ≡ length ys → length (zip xs ys) ≡ length ys
zip_length [] [] same = refl
zip_length [] (y ∷ ys) same = absurd (omega (arith, same))
zip_length (x ∷ xs) [] same = absurd (omega (arith, same))
zip_length (x ∷ xs) (y ∷ ys) same = ap suc (zip_length xs ys (omega (arith, same)))

abbrev Separate : ExpressionList → typed.ValueSource → Type 0
Separate es source = (ys : List typed.Expr) × (typed.each (pack_exprs ys) ≡ source) × (length ys ≡ expression_count es)

suited_separate : (due : List (Option Type')) (xs : List typed.Expr) (source : typed.ValueSource) (b : Bool) → nat_eq (length due) (length xs) ≡ b → suited due (separate xs) ≡ Fine source
    → (ys : List typed.Expr) × (typed.each (pack_exprs ys) ≡ source) × (length ys ≡ length xs)
suited_separate due xs source false is e = absurd (let r : fine (suited due (separate xs)) ≡ None = rw is refl in let no : fine (suited due (separate xs)) ≡ Some source = ap fine e in cc (r, no))
suited_separate due xs source true is e =
    let r : suited due (separate xs) ≡ checked (λ es. Fine (typed.each (pack_exprs es))) (fine_list [] (map suited_one (zip due xs))) = rw is refl in
    let ys = checked_is (λ es. Fine (typed.each (pack_exprs es))) (fine_list [] (map suited_one (zip due xs))) source (sym r ∙ e) in
    let size : length ys.0 ≡ length xs =
    each_is (map suited_one (zip due xs)) ys.0 (all_asked suited_one suits (zip due xs)) ys.1 ∙ length-map (zip due xs) suited_one ∙ zip_length due xs (eqb-true (length due) (length xs) is) in
    (ys.0, fine_same (typed.each (pack_exprs ys.0)) source ys.2, size)

suited_together : (due : List (Option Type')) (ts : List Type') (f : typed.Symbol) (xs : typed.Exprs) (source : typed.ValueSource) (b c : Bool) → (nat_eq (length ts) 0 || not (nat_eq (length due) (length ts))) ≡ b → list_all takes (zip due ts) ≡ c
    → suited due (together ts f xs) ≡ Fine source → typed.results ts f xs ≡ source
suited_together due ts f xs source true c is also e = absurd (let r : fine (suited due (together ts f xs)) ≡ None = rw is refl in let no : fine (suited due (together ts f xs)) ≡ Some source = ap fine e in cc (r, no))
suited_together due ts f xs source false true is also e = (let r : suited due (together ts f xs) ≡ Fine (typed.results ts f xs) = rw (is, also) refl in fine_same (typed.results ts f xs) source (sym r ∙ e))
suited_together due ts f xs source false false is also e = absurd (let r : fine (suited due (together ts f xs)) ≡ None = rw (is, also) refl in let no : fine (suited due (together ts f xs)) ≡ Some source = ap fine e in cc (r, no))

suited_typed : (due : List (Option Type')) (v : AssignedValues) (es : ExpressionList) (source : typed.ValueSource) → AreOf es v → suited due v ≡ Fine source → AreTypedValues es source
suited_typed due (separate xs) es source of e =
    let h = suited_separate due xs source (nat_eq (length due) (length xs)) refl e in
    subst (AreTypedValues es) h.1 (packed_count h.0 ∙ h.2 ∙ of)
suited_typed due (together ts f xs) es source of e =
    subst (AreTypedValues es) (suited_together due ts f xs source (nat_eq (length ts) 0 || not (nat_eq (length due) (length ts))) (list_all takes (zip due ts)) refl refl e) of
suited_typed due no_values es source of e = absurd (cc (e))

-- values where it isn't known what is due for all of them
suits_if : (p : Option (Option Type') × typed.Expr) → IsAsked (suited_if p)
suits_if (None, e) = tt
suits_if (Some t, e) = suits (t, e)

partly_separate : (due : List (Option (Option Type'))) (xs : List typed.Expr) (source : typed.ValueSource) (b : Bool) → nat_eq (length due) (length xs) ≡ b → suited_partly due (separate xs) ≡ Fine source
    → (ys : List typed.Expr) × (typed.each (pack_exprs ys) ≡ source) × (length ys ≡ length xs)
partly_separate due xs source false is e = absurd (let r : fine (suited_partly due (separate xs)) ≡ None = rw is refl in let no : fine (suited_partly due (separate xs)) ≡ Some source = ap fine e in cc (r, no))
partly_separate due xs source true is e =
    let r : suited_partly due (separate xs) ≡ checked (λ es. Fine (typed.each (pack_exprs es))) (fine_list [] (map suited_if (zip due xs))) = rw is refl in
    let ys = checked_is (λ es. Fine (typed.each (pack_exprs es))) (fine_list [] (map suited_if (zip due xs))) source (sym r ∙ e) in
    let size : length ys.0 ≡ length xs =
    each_is (map suited_if (zip due xs)) ys.0 (all_asked suited_if suits_if (zip due xs)) ys.1 ∙ length-map (zip due xs) suited_if ∙ zip_length due xs (eqb-true (length due) (length xs) is) in
    (ys.0, fine_same (typed.each (pack_exprs ys.0)) source ys.2, size)

partly_typed : (due : List (Option (Option Type'))) (v : AssignedValues) (es : ExpressionList) (source : typed.ValueSource) → AreOf es v → suited_partly due v ≡ Fine source → AreTypedValues es source
partly_typed due (separate xs) es source of e =
    let h = partly_separate due xs source (nat_eq (length due) (length xs)) refl e in
    subst (AreTypedValues es) h.1 (packed_count h.0 ∙ h.2 ∙ of)
partly_typed due (together ts f xs) es source of e = suited_typed (map (λ t. unwrap_or t None) due) (together ts f xs) es source of e
partly_typed due no_values es source of e = suited_typed (map (λ t. unwrap_or t None) due) no_values es source of e

redefined_typed : (held : List (List ℕ)) (own : Name → Option (Option Declared)) (ns : List Name) (v : AssignedValues) (es : ExpressionList) (source : typed.ValueSource) → AreOf es v → redefined held own ns v ≡ Fine source → AreTypedValues es source
redefined_typed held own ns v es source of e = by_names (differ ns && list_any (λ n. is_new n (own n)) ns) refl
  where
    by_due : (o : Option (List (Option Type'))) (due : List (Option (Option Type'))) → elim o [ None ↦ checked (λ source. Passed) (suited_partly due v) | Some due ↦ suited due v ] ≡ Fine source → AreTypedValues es source
    by_due None due h = absurd (let no = checked_is (λ (s : typed.ValueSource). Passed) (suited_partly due v) source h in cc (no.2))
    by_due (Some ds) due h = suited_typed ds v es source of h

    by_known : (o : Option (List (Option (Option Type')))) → elim o [ None ↦ Breaks Mismatch | Some due ↦ elim (all_some due) [ None ↦ checked (λ source. Passed) (suited_partly due v) | Some due ↦ suited due v ] ] ≡ Fine source → AreTypedValues es source
    by_known None h = absurd (cc (h))
    by_known (Some due) h = by_due (all_some due) due h

    by_names : (b : Bool) → (differ ns && list_any (λ n. is_new n (own n)) ns) ≡ b → AreTypedValues es source
    by_names false is = absurd (let r : fine (redefined held own ns v) ≡ None = rw is refl in let no : fine (redefined held own ns v) ≡ Some source = ap fine e in cc (r, no))
    by_names true is =
        let r : redefined held own ns v ≡ (elim (dues_for held own ns) [
          | None ↦ Breaks Mismatch
          | Some due ↦ elim (all_some due) [ None ↦ checked (λ source. Passed) (suited_partly due v) | Some due ↦ suited due v ]
        ]) = rw is refl in
        by_known (dues_for held own ns) (sym r ∙ e)

-- without values they are zeros
zero_values : (v : AssignedValues) (es : ExpressionList) → AreOf es v → has_no_values v ≡ true → expression_count es ≡ 0
zero_values (separate []) es of is = sym of
zero_values (separate (x ∷ xs)) es of is = absurd (let same : length (x ∷ xs) ≡ 0 = eqb-true (length (x ∷ xs)) 0 is in cc (same))
zero_values (together ts f xs) es of is = absurd (cc (is))
zero_values no_values es of is = absurd (cc (is))

variables_typed : (ns : List Name) (t : Option Type') (v : AssignedValues) (es : ExpressionList) (source : typed.ValueSource) → AreOf es v → variables_source ns t v ≡ Fine source → AreTypedValues es source
variables_typed ns None v es source of e = suited_typed (map (λ n. None) ns) v es source of e
variables_typed ns (Some t) v es source of e = by_none (has_no_values v) refl
  where
    by_none : (b : Bool) → has_no_values v ≡ b → AreTypedValues es source
    by_none true is = (let r : variables_source ns (Some t) v ≡ Fine (typed.zeros (map (λ n. t) ns)) = rw is refl in subst (AreTypedValues es) (fine_same (typed.zeros (map (λ n. t) ns)) source (sym r ∙ e)) (zero_values v es of is))
    by_none false is = (let r : variables_source ns (Some t) v ≡ suited (map (λ n. Some t) ns) v = rw is refl in suited_typed (map (λ n. Some t) ns) v es source of (sym r ∙ e))

returned_typed : (ts : List (Option Type')) (v : AssignedValues) (es : ExpressionList) (y : List typed.Stmt) → AreOf es v → return_verdict ts v ≡ Fine y → (source : typed.ValueSource) × (y ≡ typed.return source ∷ []) × AreTypedValues es source
returned_typed ts v es y of e =
    let due = map (option_map Some) ts in
    let s = checked_is (λ source. Fine (typed.return source ∷ [])) (suited_partly due v) y e in
    (s.0, sym (fine_same (typed.return s.0 ∷ []) y s.2), partly_typed due v es s.0 of s.1)

-- ---- simple statements

performed_typed : (k : Known) (t : typed.Stmt) → performed k ≡ Fine t → IsTypedCall t
performed_typed (known.results ts f es) t e = subst IsTypedCall (fine_same (typed.run ts f es) t e) tt
performed_typed (known.printed (Ok es)) t e = subst IsTypedCall (fine_same (typed.print es) t e) tt
performed_typed (known.printed (Err kind)) t e = absurd (cc (e))
performed_typed (known.panicked x) t e = subst IsTypedCall (fine_same (typed.panic x) t e) tt
performed_typed (known.package' names) t e = absurd (cc (e))
performed_typed (known.declared (known.value (typed.call u f es))) t e = subst IsTypedCall (fine_same (typed.run (u ∷ []) f es) t e) tt
performed_typed (known.declared (known.value (typed.constant u c))) t e = absurd (cc (e))
performed_typed (known.declared (known.value (typed.local u n))) t e = absurd (cc (e))
performed_typed (known.declared (known.value (typed.global u s))) t e = absurd (cc (e))
performed_typed (known.declared (known.value (typed.field u x n))) t e = absurd (cc (e))
performed_typed (known.declared (known.value (typed.index u x i))) t e = absurd (cc (e))
performed_typed (known.declared (known.value (typed.length u x))) t e = absurd (cc (e))
performed_typed (known.declared (known.value (typed.capacity u x))) t e = absurd (cc (e))
performed_typed (known.declared (known.value (typed.cut u x a b))) t e = absurd (cc (e))
performed_typed (known.declared (known.value (typed.make u n c))) t e = absurd (cc (e))
performed_typed (known.declared (known.value (typed.append u x es))) t e = absurd (cc (e))
performed_typed (known.declared (known.value (typed.unary u op x))) t e = absurd (cc (e))
performed_typed (known.declared (known.value (typed.binary u op a b))) t e = absurd (cc (e))
performed_typed (known.declared (known.value (typed.both u a b))) t e = absurd (cc (e))
performed_typed (known.declared (known.value (typed.either u a b))) t e = absurd (cc (e))
performed_typed (known.declared (known.value (typed.conversion u x))) t e = absurd (cc (e))
performed_typed (known.declared (known.value (typed.literal u ps))) t e = absurd (cc (e))
performed_typed (known.declared (known.type' u)) t e = absurd (cc (e))
performed_typed (known.declared (known.function s ts rs)) t e = absurd (cc (e))
performed_typed (known.declared known.println) t e = absurd (cc (e))
performed_typed (known.declared known.length') t e = absurd (cc (e))
performed_typed (known.declared known.capacity') t e = absurd (cc (e))
performed_typed (known.declared known.make') t e = absurd (cc (e))
performed_typed (known.declared known.append') t e = absurd (cc (e))
performed_typed (known.declared known.panic') t e = absurd (cc (e))

-- an operator and an assignment
update_by : (of : Type') (op : Operator) (b : typed.Expr) (o : Option typed.Left) (t : typed.Stmt) → elim o [ Some l ↦ Fine (typed.update of l op b) | None ↦ Breaks Mismatch ] ≡ Fine t → IsTypedUpdate t
update_by of op b (Some l) t e = subst IsTypedUpdate (fine_same (typed.update of l op b) t e) tt
update_by of op b None t e = absurd (cc (e))

updating_typed : (x : typed.Expr) (t : typed.Stmt) → updating x ≡ Fine t → IsTypedUpdate t
updating_typed (typed.binary u (operators.Arithmetic op) a b) t e = update_by (expr_type a) (operators.Arithmetic op) b (left_to typed.here a) t e
updating_typed (typed.binary u (operators.Shift op) a b) t e = update_by (expr_type a) (operators.Shift op) b (left_to typed.here a) t e
updating_typed (typed.binary u (operators.Comparison op) a b) t e = absurd (cc (e))
updating_typed (typed.constant u c) t e = absurd (cc (e))
updating_typed (typed.local u n) t e = absurd (cc (e))
updating_typed (typed.global u s) t e = absurd (cc (e))
updating_typed (typed.field u x n) t e = absurd (cc (e))
updating_typed (typed.index u x i) t e = absurd (cc (e))
updating_typed (typed.length u x) t e = absurd (cc (e))
updating_typed (typed.capacity u x) t e = absurd (cc (e))
updating_typed (typed.cut u x a b) t e = absurd (cc (e))
updating_typed (typed.make u n c) t e = absurd (cc (e))
updating_typed (typed.append u x es) t e = absurd (cc (e))
updating_typed (typed.unary u op x) t e = absurd (cc (e))
updating_typed (typed.both u a b) t e = absurd (cc (e))
updating_typed (typed.either u a b) t e = absurd (cc (e))
updating_typed (typed.conversion u x) t e = absurd (cc (e))
updating_typed (typed.literal u ps) t e = absurd (cc (e))
updating_typed (typed.call u f es) t e = absurd (cc (e))

updated_typed : (op : BinaryOperator) (a b : typed.Expr) (t : typed.Stmt) → update_verdict op a b ≡ Fine t → IsTypedUpdate t
updated_typed op a b t e = by_left (is_left a) e
  where
    by_kind : (o : Option FaultKind) → elim o [ Some kind ↦ Breaks kind | None ↦ Passed ] ≡ Fine t → IsTypedUpdate t
    by_kind (Some kind) h = absurd (cc (h))
    by_kind None h = absurd (cc (h))

    by_left : (l : Bool) → elim l [ true ↦ checked updating (binary_verdict op a b) | false ↦ elim (least (Mismatch ∷ wrong (binary_verdict op a b))) [ Some kind ↦ Breaks kind | None ↦ Passed ] ] ≡ Fine t → IsTypedUpdate t
    by_left true h = (let x = checked_is updating (binary_verdict op a b) t h in updating_typed x.0 t x.2)
    by_left false h = by_kind (least (Mismatch ∷ wrong (binary_verdict op a b))) h

stepped_typed : (op : ArithmeticOperator) (x : typed.Expr) (t : typed.Stmt) → inc_dec_verdict op x ≡ Fine t → IsTypedUpdate t
stepped_typed op x t e = by_left (left_to typed.here x) e
  where
    by_type : (l : typed.Left) (b : Bool) → (if b then Fine (typed.update (expr_type x) l (operators.Arithmetic op) (typed.constant (expr_type x) (Integer (pos 1)))) else Breaks Mismatch) ≡ Fine t → IsTypedUpdate t
    by_type l true h = subst IsTypedUpdate (fine_same (typed.update (expr_type x) l (operators.Arithmetic op) (typed.constant (expr_type x) (Integer (pos 1)))) t h) tt
    by_type l false h = absurd (cc (h))

    by_left : (o : Option typed.Left) → elim o [ Some l ↦ if is_integer (expr_type x) then Fine (typed.update (expr_type x) l (operators.Arithmetic op) (typed.constant (expr_type x) (Integer (pos 1)))) else Breaks Mismatch | None ↦ Breaks Mismatch ] ≡ Fine t → IsTypedUpdate t
    by_left (Some l) h = by_type l (is_integer (expr_type x)) h
    by_left None h = absurd (cc (h))

assigned_typed : (es : List (Option typed.Expr)) (v : AssignedValues) (ls rs : ExpressionList) (t : typed.Stmt) → length es ≡ expression_count ls → AreOf rs v → assigned_to es v ≡ Fine t → IsTypedSimple (assignment ls rs) t
assigned_typed es v ls rs t size of e = by_sides (all_some (map left_side es)) refl e
  where
    by_sides : (o : Option (List typed.Left)) → all_some (map left_side es) ≡ o → elim o [ None ↦ Breaks Mismatch | Some ls ↦ checked (λ source. Fine (typed.assign ls source)) (suited (map (option_map expr_type) es) v) ] ≡ Fine t
        → IsTypedSimple (assignment ls rs) t
    by_sides None at h = absurd (cc (h))
    by_sides (Some lefts) at h =
        let s = checked_is (λ source. Fine (typed.assign lefts source)) (suited (map (option_map expr_type) es) v) t h in
        let many : length lefts ≡ expression_count ls = sym (some_counted (map left_side es) lefts at) ∙ length-map es left_side ∙ size in
        (lefts, s.0, sym (fine_same (typed.assign lefts s.0) t s.2), many, suited_typed (map (option_map expr_type) es) v rs s.0 of s.1)

left_has : (c : Context) (x : Expression) (env : StatementEnv) → Has (λ (os : List (Option typed.Expr)). length os ≡ 1) (left_at c x env)
left_has c x env = by_blank (blank_left x)
  where
    by_blank : (b : Bool) → Has (λ (os : List (Option typed.Expr)). length os ≡ 1) (if b then pure_checked (None ∷ []) env else map_checked (λ e. Some e ∷ []) (value_at c x) env)
    by_blank true = has_given (λ (os : List (Option typed.Expr)). length os ≡ 1) (None ∷ []) env refl
    by_blank false = has_seen (λ (e : typed.Expr). Unit {0}) (λ (os : List (Option typed.Expr)). length os ≡ 1) (λ e. Some e ∷ []) (value_at c x) env (λ e p. refl) (any (value_at c x env))

length_both : {A : Type 0} (xs ys : List A) (n : ℕ) → length xs ≡ 1 → length ys ≡ n → length (xs ++ ys) ≡ suc n
length_both [] ys n one e = absurd (omega (arith, one))
length_both (x ∷ []) ys n one e = ap suc e
length_both (x ∷ y ∷ xs) ys n one e = absurd (omega (arith, one))

lefts_has : (c : Context) (ls : ExpressionList) (env : StatementEnv) → Has (λ (os : List (Option typed.Expr)). length os ≡ expression_count ls) (lefts_at c ls env)
lefts_has c no_exprs env = has_given (λ (os : List (Option typed.Expr)). length os ≡ 0) [] env refl
lefts_has c (some_exprs l ls) env =
    has_appended (λ (os : List (Option typed.Expr)). length os ≡ 1) (λ (os : List (Option typed.Expr)). length os ≡ expression_count ls) (λ (os : List (Option typed.Expr)). length os ≡ suc (expression_count ls)) (left_at c l) (lefts_at c ls) env
    (λ x y p q. length_both x y (expression_count ls) p q) (left_has c l env) (lefts_has c ls (left_at c l env).after)

short_has : (c : Context) (p : Place) (ns : List Name) (es : ExpressionList) (env : StatementEnv) → Has (IsTypedDefinition (length ns) es) (short_at c p ns es env)
short_has c p ns es env =
    let change = declare_new (paired_names ns (value_types (scope_in c None env) es)) in
    let numbers = map (variable_number (change env)) ns in
    has_node (AreOf es) (IsTypedDefinition (length ns) es) p (λ k. checked (λ source. Fine (typed.define numbers source)) (redefined c.constants (own env) ns k)) (values_at c es) env
    (λ v of t e.
    let s = checked_is (λ source. Fine (typed.define numbers source)) (redefined c.constants (own env) ns v) t e in
    (numbers, s.0, sym (fine_same (typed.define numbers s.0) t s.2), length-map ns (variable_number (change env)), redefined_typed c.constants (own env) ns v es s.0 of s.1))
    (values_has c es env)

pub simple_has : (c : Context) (p : Place) (s : Simple) (env : StatementEnv) → Has (IsTypedSimple s) (simple_at c p s env)
simple_has c p (call_statement x) env =
    (let s = scope_in c None env in
    let told = node (bare_place x) stated (still (faults s x) (fine (verdict s x))) in
    has_node (λ (k : Known). Unit {0}) IsTypedCall p performed told env (λ k q t e. performed_typed k t e) (any (told env)))
simple_has c p (increment x) env = has_node (λ (k : typed.Expr). Unit {0}) IsTypedUpdate p (inc_dec_verdict Add) (value_at c x) env (λ k q t e. stepped_typed Add k t e) (any (value_at c x env))
simple_has c p (decrement x) env = has_node (λ (k : typed.Expr). Unit {0}) IsTypedUpdate p (inc_dec_verdict Subtract) (value_at c x) env (λ k q t e. stepped_typed Subtract k t e) (any (value_at c x env))
simple_has c p (assignment ls rs) env =
    let Lefts : List (Option typed.Expr) → Type 0 = λ os. length os ≡ expression_count ls in
    has_node (λ (k : List (Option typed.Expr) × AssignedValues). Lefts k.0 × AreOf rs k.1) (IsTypedSimple (assignment ls rs)) p (λ k. assigned_to k.0 k.1) (follow (lefts_at c ls) (values_at c rs)) env
    (λ k q t e. assigned_typed k.0 k.1 ls rs t q.0 q.1 e)
    (has_follow Lefts (AreOf rs) (lefts_at c ls) (values_at c rs) env (lefts_has c ls env) (values_has c rs (lefts_at c ls env).after))
simple_has c p (operator_assignment op l r) env =
    has_node (λ (k : typed.Expr × typed.Expr). Unit {0}) IsTypedUpdate p (λ k. update_verdict op k.0 k.1) (follow (value_at c l) (value_at c r)) env (λ k q t e. updated_typed op k.0 k.1 t e) (any (follow (value_at c l) (value_at c r) env))
simple_has c p (short_var_decl ns es) env = short_has c p ns es env

optional_has : (c : Context) (p : Place) (o : Option Simple) (env : StatementEnv) → Has (IsTypedOptional o) (optional_at c p o env)
optional_has c p None env = has_given (IsTypedOptional None) [] env refl
optional_has c p (Some s) env = has_single (IsTypedSimple s) (simple_at c (begins_at p s) s) env (simple_has c (begins_at p s) s env)

-- ---- declarations

abbrev no_code : typed.Stmt
no_code = typed.define [] (typed.each typed.no_exprs)

constants_typed : (ns : List Name) (t : Option Type') (es : List typed.Expr) (y : typed.Stmt) → constants_verdict ns t es ≡ Fine y → no_code ≡ y
constants_typed ns t es y e = by_first (not (list_all is_constant es)) refl
  where
    by_second : (b : Bool) → not (list_all is_constant es) ≡ false → not (nat_eq (length ns) (length es)) ≡ b → no_code ≡ y
    by_second true is also = absurd (let r : fine (constants_verdict ns t es) ≡ None = rw (is, also) refl in let no : fine (constants_verdict ns t es) ≡ Some y = ap fine e in cc (r, no))
    by_second false is also =
        let r : constants_verdict ns t es ≡ checked (λ source. Fine no_code) (constants_source ns t es) = rw (is, also) refl in
        let s = checked_is (λ source. Fine no_code) (constants_source ns t es) y (sym r ∙ e) in
        fine_same no_code y s.2

    by_first : (b : Bool) → not (list_all is_constant es) ≡ b → no_code ≡ y
    by_first true is = absurd (let r : fine (constants_verdict ns t es) ≡ None = rw is refl in let no : fine (constants_verdict ns t es) ≡ Some y = ap fine e in cc (r, no))
    by_first false is = by_second (not (nat_eq (length ns) (length es))) is refl

one_constant : (c : Context) (p : Place) (iota : ℕ) (repeated : Bool) (spec : ConstSpec) (env : StatementEnv) → Has (λ ts. no_code ∷ [] ≡ ts) (constants_at c p iota repeated spec env)
one_constant c p iota repeated spec env y e =
    let s = scope_in c (Some iota) env in
    let first = place_of_first p spec.names in
    let parts = follow (names_at spec.names) (spec_at s first repeated spec) in
    let k = asked_is {A = List Name × (Option Type' × List typed.Expr)} (λ k. checked (λ s. Fine (s ∷ [])) (constants_verdict spec.names (k.1).0 (k.1).1)) (parts env).known y (fine_is _ y e) in
    let s = checked_is (λ (s : typed.Stmt). Fine (s ∷ [])) (constants_verdict spec.names ((k.0).1).0 ((k.0).1).1) y k.2 in
    ap (λ s. s ∷ []) (constants_typed spec.names ((k.0).1).0 ((k.0).1).1 s.0 s.1) ∙ fine_same (s.0 ∷ []) y s.2

abbrev Folded : List ConstSpec → List typed.Stmt → Type 0
Folded ss ts = ts ≡ map (λ s. no_code) ss

group_has : (c : Context) (p : Place) (iota : ℕ) (before : ConstSpec) (ss : List ConstSpec) (env : StatementEnv) → Has (Folded ss) (group_at c p iota before ss env)
group_has c p iota before [] env = has_given (Folded []) [] env refl
group_has c p iota before (s ∷ ss) env =
    has_appended (λ ts. no_code ∷ [] ≡ ts) (Folded ss) (Folded (s ∷ ss)) (constants_at c p iota (is_repeated s) (meant before s)) (group_at c p (suc iota) (meant before s) ss) env
    (λ x y q r. ap (λ (a : List typed.Stmt). a ++ y) (sym q) ∙ ap (λ (b : List typed.Stmt). no_code ∷ b) r)
    (one_constant c p iota (is_repeated s) (meant before s) env)
    (group_has c p (suc iota) (meant before s) ss (constants_at c p iota (is_repeated s) (meant before s) env).after)

abbrev Defined : VarSpec → typed.Stmt → Type 0
Defined s t = IsTypedDefinition (length s.names) s.values t

variable_has : (c : Context) (p : Place) (spec : VarSpec) (env : StatementEnv) → Has (λ ts. (t : typed.Stmt) × (ts ≡ t ∷ []) × Defined spec t) (variables_at c p spec env)
variable_has c p spec env =
    let s = scope_in c None env in
    let change = declare_new (paired_names spec.names (variable_types s spec)) in
    let numbers = map (variable_number (change env)) spec.names in
    let parts = follow (names_at spec.names) (follow (written_at s spec.type) (values_at c spec.values)) in
    has_node (λ (k : List Name × (Option Type' × AssignedValues)). Unit {0} × (Unit {0} × AreOf spec.values (k.1).1)) (λ ts. (t : typed.Stmt) × (ts ≡ t ∷ []) × Defined spec t) (place_of_first p spec.names)
    (λ k. checked (λ source. Fine (typed.define numbers source ∷ [])) (variables_source spec.names (k.1).0 (k.1).1)) parts env
    (λ k q y e.
    let x = checked_is (λ source. Fine (typed.define numbers source ∷ [])) (variables_source spec.names (k.1).0 (k.1).1) y e in
    (typed.define numbers x.0, sym (fine_same (typed.define numbers x.0 ∷ []) y x.2), (numbers, x.0, refl, length-map spec.names (variable_number (change env)), variables_typed spec.names (k.1).0 (k.1).1 spec.values x.0 (q.1).1 x.1)))
    (has_follow (λ (ns : List Name). Unit {0}) (λ (k : Option Type' × AssignedValues). Unit {0} × AreOf spec.values k.1) (names_at spec.names) (follow (written_at s spec.type) (values_at c spec.values)) env (any (names_at spec.names env))
    (has_follow (λ (t : Option Type'). Unit {0}) (AreOf spec.values) (written_at s spec.type) (values_at c spec.values) (names_at spec.names env).after (any (written_at s spec.type (names_at spec.names env).after)) (values_has c spec.values (written_at s spec.type (names_at spec.names env).after).after)))

more_defined : (s : VarSpec) (ss : List VarSpec) (x y : List typed.Stmt) → (t : typed.Stmt) × (x ≡ t ∷ []) × Defined s t → AllZip Defined ss y → AllZip Defined (s ∷ ss) (x ++ y)
more_defined s ss x y (t, is, first) rest = subst (λ (a : List typed.Stmt). AllZip Defined (s ∷ ss) (a ++ y)) (sym is) (first, rest)

specs_has : (c : Context) (p : Place) (ss : List VarSpec) (env : StatementEnv) → Has (AllZip Defined ss) (specs_at c p ss env)
specs_has c p [] env = has_given (AllZip Defined []) [] env tt
specs_has c p (s ∷ ss) env =
    has_appended (λ ts. (t : typed.Stmt) × (ts ≡ t ∷ []) × Defined s t) (AllZip Defined ss) (AllZip Defined (s ∷ ss)) (variables_at c p s) (specs_at c p ss) env (more_defined s ss) (variable_has c p s env) (specs_has c p ss (variables_at c p s env).after)

declaration_has : (c : Context) (d : Decl) (env : StatementEnv) → Has (IsTypedDeclaration d) (declaration_at c d env)
declaration_has c (constants p ss) env = group_has c p 0 (record { names = []; type = None; values = no_exprs }) ss env
declaration_has c (variables p ss) env = specs_has c p ss env
declaration_has c (types p ss) env = λ y e. absurd (cc (e))

in_one_block : (P : List typed.Stmt → Type 0) (form : StatementEnv → Checked (List typed.Stmt)) (env : StatementEnv) → Has P (form env) → Has (λ ts. (inner : List typed.Stmt) × (ts ≡ typed.block (pack_stmts inner) ∷ []) × P inner) (map_checked one_block form env)
in_one_block P form env h = has_seen P (λ ts. (inner : List typed.Stmt) × (ts ≡ typed.block (pack_stmts inner) ∷ []) × P inner) one_block form env (λ inner p. (inner, refl, p)) h

-- ---- statements

branch_has : (P : List typed.Stmt → Type 0) (p : Place) (may_stand : Bool) (ss : List typed.Stmt) (env : StatementEnv) → P ss → Has P (node p (branch may_stand) (pure_checked ss) env)
branch_has P p may_stand ss env h =
    has_node (λ ts. ss ≡ ts) P p (branch may_stand) (pure_checked ss) env (λ ts same y e. by_test ts same y may_stand e) (has_given (λ ts. ss ≡ ts) ss env refl)
  where
    by_test : (ts : List typed.Stmt) → ss ≡ ts → (y : List typed.Stmt) (b : Bool) → branch b ts ≡ Fine y → P y
    by_test ts same y true e = subst P (same ∙ fine_same ts y e) h
    by_test ts same y false e = absurd (cc (e))

conditional_typed : (p : Place) (before : Option Simple) (x : Expression) (b : Block) (other : Else) (front : List typed.Stmt) (k : typed.Expr) (body rest y : List typed.Stmt)
    → IsTypedOptional before front → IsTypedBlock b body → IsTypedElse other rest → conditional front k body rest ≡ Fine y → IsTypedIf (conditional_if p before x b other) y
conditional_typed p before x b other front k body rest y first inner last e =
    let c = checked_is (λ e. Fine (front ++ typed.if_statement e (pack_stmts body) (pack_stmts rest) ∷ [])) (condition k) y e in
    (front, body, rest, c.0, sym (fine_same (front ++ typed.if_statement c.0 (pack_stmts body) (pack_stmts rest) ∷ []) y c.2), first, inner, last)

same_presence : (o r : Option typed.Expr) → loop_condition o ≡ Fine r → is_some r ≡ is_some o
same_presence None r e = ap is_some (sym (fine_same None r e))
same_presence (Some x) r e = (let c = checked_is (λ e. Fine (Some e)) (condition x) r e in ap is_some (sym (fine_same (Some c.0) r c.2)))

looped_typed : (p : Place) (before : Option Simple) (x : Option Expression) (post : Option Simple) (b : Block) (front : List typed.Stmt) (k : Option typed.Expr) (behind body y : List typed.Stmt)
    → IsTypedOptional before front → is_some k ≡ is_some x → IsTypedOptional post behind → IsTypedBlock b body → looped front k behind body ≡ Fine y → IsTyped (for_statement p before x post b) y
looped_typed p before x post b front k behind body y first some last inner e =
    let c = checked_is (λ e. Fine (front ++ typed.for_statement e (pack_stmts behind) (pack_stmts body) ∷ [])) (loop_condition k) y e in
    (front, behind, body, c.0, sym (fine_same (front ++ typed.for_statement c.0 (pack_stmts behind) (pack_stmts body) ∷ []) y c.2), first, same_presence k c.0 c.1 ∙ some, last, inner)

ranged_typed : (p : Place) (n : Option Name) (x : Expression) (b : Block) (number : Option ℕ) (k : typed.Expr) (o : Option (List typed.Stmt)) (y : List typed.Stmt)
    → ((body : List typed.Stmt) → o ≡ Some body → IsTypedBlock b body) → ranged number k o ≡ Fine y → IsTyped (range_statement p n x b) y
ranged_typed p n x b number k o y inner e =
    let c = checked_is (λ e. asked (λ ss. Fine (typed.range_statement number (expr_type e) e (pack_stmts ss) ∷ [])) o) (counted k) y e in
    let ss = asked_is (λ ss. Fine (typed.range_statement number (expr_type c.0) c.0 (pack_stmts ss) ∷ [])) o y c.2 in
    (ss.0, number, c.0, sym (fine_same (typed.range_statement number (expr_type c.0) c.0 (pack_stmts ss.0) ∷ []) y ss.2), inner ss.0 ss.1)

switched_typed : (p : Place) (before : Option Simple) (x : Option Expression) (cs : Cases) (front : List typed.Stmt) (k : typed.Expr) (clauses : List SwitchClause) (y : List typed.Stmt)
    → IsTypedOptional before front → AreTypedClauses cs (pack_clauses clauses) → switched front k clauses ≡ Fine y → IsTyped (switch_statement p before x cs) y
switched_typed p before x cs front k clauses y first all e =
    let c = checked_is (λ tag. Fine (front ++ typed.switch_statement tag (pack_clauses clauses) ∷ [])) (defaulted k) y e in
    (front, c.0, pack_clauses clauses, sym (fine_same (front ++ typed.switch_statement c.0 (pack_clauses clauses) ∷ []) y c.2), first, all)

-- what a clause comes to
abbrev IsClauseOf : Option ExpressionList → StatementList → Bool → SwitchClause → Type 0
IsClauseOf values ss falls k = AreTypedCases values k.0 × ((body : List typed.Stmt) × ((k.1).0 ≡ pack_stmts body) × FollowStatements ss body) × ((k.1).1 ≡ falls)

cases_told : (t : Type') (x : typed.Expr) → IsAsked (case_value t x)
cases_told t x = through (λ u. Fine (as_type u x)) (operand_type (Comparison Equal) (typed.local t 0) x) (λ u. tt) (operand_types (Comparison Equal) (typed.local t 0) x)

-- the values of a case, as many as are written
abbrev AreCases : Option ExpressionList → Option (List typed.Expr) → Type 0
AreCases None o = o ≡ None
AreCases (Some es) o = (xs : List typed.Expr) × (o ≡ Some xs) × (length xs ≡ expression_count es)

operands_length : (s : Scope) (es : ExpressionList) (xs : List typed.Expr) → operand_list s es ≡ Some xs → length xs ≡ expression_count es
operands_length s no_exprs xs e = ap length (sym (some_is [] xs e))
operands_length s (some_exprs x es) xs e =
    let first : Option (List typed.Expr) = option_map (λ v. v ∷ []) (operand (verdict s x)) in
    let m = mapped (λ (k : List typed.Expr × List typed.Expr). k.0 ++ k.1) (both first (operand_list s es)) xs e in
    let parts = both_are first (operand_list s es) m.0 m.1 in
    let one = mapped (λ (v : typed.Expr). v ∷ []) (operand (verdict s x)) (m.0).0 parts.0 in
    sym (ap length m.2) ∙ length_both (m.0).0 (m.0).1 (expression_count es) (sym (ap length one.2)) (operands_length s es (m.0).1 parts.1)

cases_has : (c : Context) (values : Option ExpressionList) (env : StatementEnv) → Has (AreCases values) (cases_at c values env)
cases_has c None env = has_given (AreCases None) None env refl
cases_has c (Some es) env = λ y e. (let m = mapped Some (operand_list (scope_in c None env) es) y e in (m.0, sym m.2, operands_length (scope_in c None env) es m.0 m.1))

clause_typed : (tag : Option Type') (again falls : Bool) (values : Option ExpressionList) (ss : StatementList) (o : Option (List typed.Expr)) (body : List typed.Stmt) (y : SwitchClause)
    → AreCases values o → FollowStatements ss body → clause_verdict tag again falls o body ≡ Fine y → IsClauseOf values ss falls y
clause_typed tag again falls None ss None body y none inner e = by_again again e
  where
    by_again : (b : Bool) → (if b then Breaks Branch else Fine (None, (pack_stmts body, falls))) ≡ Fine y → IsClauseOf None ss falls y
    by_again true h = absurd (cc (h))
    by_again false h = subst (IsClauseOf None ss falls) (fine_same {A = SwitchClause} (None, (pack_stmts body, falls)) y h) (refl, (body, refl, inner), refl)
clause_typed tag again falls None ss (Some xs) body y none inner e = absurd (cc (none))
clause_typed tag again falls (Some es) ss None body y (xs, is, size) inner e = absurd (cc (is))
clause_typed tag again falls (Some es) ss (Some zs) body y (xs, is, size) inner e =
    let c = checked_is (λ es. Fine (Some (pack_exprs es), (pack_stmts body, falls))) (asked (λ t. fine_list [] (map (case_value t) zs)) tag) y e in
    let t = asked_is (λ t. fine_list [] (map (case_value t) zs)) tag c.0 c.1 in
    let many : length c.0 ≡ expression_count es =
    each_is (map (case_value t.0) zs) c.0 (all_asked (case_value t.0) (cases_told t.0) zs) t.2 ∙ length-map zs (case_value t.0) ∙ ap length (some_is zs xs is) ∙ size in
    subst (IsClauseOf (Some es) ss falls) (fine_same {A = SwitchClause} (Some (pack_exprs c.0), (pack_stmts body, falls)) y c.2) ((pack_exprs c.0, refl, packed_count c.0 ∙ many), (body, refl, inner), refl)

abbrev AreClausesOf : Cases → List SwitchClause → Type 0
AreClausesOf cs ks = AreTypedClauses cs (pack_clauses ks)

more_clauses : (p : Place) (values : Option ExpressionList) (ss : StatementList) (rest : Cases) (x y : List SwitchClause) → (k : SwitchClause) × (x ≡ k ∷ []) × IsClauseOf values ss (leads_on ss && not (has_no_clauses rest)) k → AreClausesOf rest y
    → AreClausesOf (clause p values ss rest) (x ++ y)
more_clauses p values ss rest x y (k, is, (cases, (body, packed, inner), falls)) others =
    subst (λ (a : List SwitchClause). AreClausesOf (clause p values ss rest) (a ++ y)) (sym is) (
      k.0,
      body,
      pack_clauses y,
      ap (λ (b : typed.Stmts). typed.clause k.0 b (k.1).1 (pack_clauses y)) packed ∙ ap (λ (f : Bool). typed.clause k.0 (pack_stmts body) f (pack_clauses y)) falls,
      cases,
      inner,
      others,
    )

hidden_is : (hidden : Bool) (x : Checked (List typed.Stmt)) (o : Option (List typed.Stmt)) → (if hidden then None else Some x.known) ≡ Some o → (body : List typed.Stmt) → o ≡ Some body → x.known ≡ Some body
hidden_is true x o e body is = absurd (cc (e))
hidden_is false x o e body is = some_is x.known o e ∙ is

more_statements : (s : Statement) (ss : StatementList) (x y : List typed.Stmt) → IsTyped s x → FollowStatements ss y → FollowStatements (some_stmts s ss) (x ++ y)
more_statements s ss x y first rest = (x, y, refl, first, rest)

condition_has : (c : Context) (x : Option Expression) (env : StatementEnv) → Has (λ (o : Option typed.Expr). is_some o ≡ is_some x) (condition_at c x env)
condition_has c None env = has_given (λ (o : Option typed.Expr). is_some o ≡ false) None env refl
condition_has c (Some x) env = has_seen (λ (k : typed.Expr). Unit {0}) (λ (o : Option typed.Expr). is_some o ≡ true) Some (value_at c x) env (λ k q. refl) (any (value_at c x env))

mutual
  statement_has : (c : Context) (s : Statement) (env : StatementEnv) → Has (IsTyped s) (statement_at c s env)
  statement_has c (empty p) env = has_given (IsTyped (empty p)) [] env refl
  statement_has c (declaration p d) env = in_one_block (IsTypedDeclaration d) (declaration_at c d) env (declaration_has c d env)
  statement_has c (simple p s) env = has_single (IsTypedSimple s) (simple_at c p s) env (simple_has c p s env)
  statement_has c (return p es) env =
      has_node (AreOf es) (IsTyped (return p es)) p (return_verdict c.results) (values_at c es) env (λ v of y e. returned_typed c.results v es y of e) (values_has c es env)
  statement_has c (break p) env = branch_has (IsTyped (break p)) p c.breaks (typed.break ∷ []) env refl
  statement_has c (continue p) env = branch_has (IsTyped (continue p)) p c.continues (typed.continue ∷ []) env refl
  statement_has c (fallthrough p) env = branch_has (IsTyped (fallthrough p)) p c.falls [] env refl
  statement_has c (block_statement b) env = in_one_block (IsTypedBlock b) (block_at c b) env (block_has c b env)
  statement_has c (if_statement i) env = if_has c i env
  statement_has c (for_statement p before x post b) env =
      let e0 = enter_scope env in
      let e1 = (optional_at c p before e0).after in
      let e2 = (condition_at c x e1).after in
      let e3 = (optional_at c p post e2).after in
      has_node (λ (k : List typed.Stmt × (Option typed.Expr × (List typed.Stmt × List typed.Stmt))). IsTypedOptional before k.0 × ((is_some (k.1).0 ≡ is_some x) × (IsTypedOptional post ((k.1).1).0 × IsTypedBlock b ((k.1).1).1)))
      (IsTyped (for_statement p before x post b)) p (λ k. looped k.0 (k.1).0 ((k.1).1).0 ((k.1).1).1)
      (follow (optional_at c p before) (follow (condition_at c x) (follow (optional_at c p post) (block_at (in_loop c) b)))) e0
      (λ k q y e. looped_typed p before x post b k.0 (k.1).0 ((k.1).1).0 ((k.1).1).1 y q.0 (q.1).0 ((q.1).1).0 ((q.1).1).1 e)
      (has_follow (IsTypedOptional before) (λ (k : Option typed.Expr × (List typed.Stmt × List typed.Stmt)). (is_some k.0 ≡ is_some x) × (IsTypedOptional post (k.1).0 × IsTypedBlock b (k.1).1)) (optional_at c p before)
      (follow (condition_at c x) (follow (optional_at c p post) (block_at (in_loop c) b))) e0 (optional_has c p before e0)
      (has_follow (λ (o : Option typed.Expr). is_some o ≡ is_some x) (λ (k : List typed.Stmt × List typed.Stmt). IsTypedOptional post k.0 × IsTypedBlock b k.1) (condition_at c x) (follow (optional_at c p post) (block_at (in_loop c) b)) e1 (condition_has c x e1)
      (has_follow (IsTypedOptional post) (IsTypedBlock b) (optional_at c p post) (block_at (in_loop c) b) e2 (optional_has c p post e2) (block_has (in_loop c) b e3))))
  statement_has c (range_statement p o x b) env =
      let e0 = enter_scope env in
      let s = scope_in c None e0 in
      let t = range_type (operand (verdict s x)) in
      let change = declare_new (range_names o t) in
      let inner : StatementEnv → Checked (List typed.Stmt) = λ env. block_at (in_loop c) b (change env) in
      let Body : Option (List typed.Stmt) → Type 0 = λ r. (body : List typed.Stmt) → r ≡ Some body → IsTypedBlock b body in
      has_node (λ (k : typed.Expr × Option (List typed.Stmt)). Unit {0} × Body k.1) (IsTyped (range_statement p o x b)) p (λ k. ranged (range_number o (change e0)) k.0 k.1)
      (follow (value_at c x) (perhaps (is_unsure s o t b) inner)) e0
      (λ k q y e. ranged_typed p o x b (range_number o (change e0)) k.0 k.1 y q.1 e)
      (has_follow (λ (k : typed.Expr). Unit {0}) Body (value_at c x) (perhaps (is_unsure s o t b) inner) e0 (any (value_at c x e0))
      (λ r e body is. block_has (in_loop c) b (change e0) body (hidden_is (is_unsure s o t b) (inner e0) r e body is)))
  statement_has c (switch_statement p before tag cs) env =
      let e0 = enter_scope env in
      let e1 = (optional_at c p before e0).after in
      let e2 = (tag_at c tag e1).after in
      let compared = option_map (λ e. default_type (expr_type e)) (tag_at c tag e1).known in
      has_node (λ (k : List typed.Stmt × (typed.Expr × List SwitchClause)). IsTypedOptional before k.0 × (Unit {0} × AreClausesOf cs (k.1).1)) (IsTyped (switch_statement p before tag cs)) p (λ k. switched k.0 (k.1).0 (k.1).1)
      (follow (optional_at c p before) (follow (tag_at c tag) (clauses_at c compared false cs))) e0
      (λ k q y e. switched_typed p before tag cs k.0 (k.1).0 (k.1).1 y q.0 (q.1).1 e)
      (has_follow (IsTypedOptional before) (λ (k : typed.Expr × List SwitchClause). Unit {0} × AreClausesOf cs k.1) (optional_at c p before) (follow (tag_at c tag) (clauses_at c compared false cs)) e0 (optional_has c p before e0)
      (has_follow (λ (k : typed.Expr). Unit {0}) (AreClausesOf cs) (tag_at c tag) (clauses_at c compared false cs) e1 (any (tag_at c tag e1)) (clauses_has c compared false cs e2)))

  if_has : (c : Context) (i : If) (env : StatementEnv) → Has (IsTypedIf i) (if_at c i env)
  if_has c (conditional_if p before x b other) env =
      let e0 = enter_scope env in
      let e1 = (optional_at c p before e0).after in
      let e2 = (value_at c x e1).after in
      let e3 = (block_at c b e2).after in
      has_node (λ (k : List typed.Stmt × (typed.Expr × (List typed.Stmt × List typed.Stmt))). IsTypedOptional before k.0 × (Unit {0} × (IsTypedBlock b ((k.1).1).0 × IsTypedElse other ((k.1).1).1)))
      (IsTypedIf (conditional_if p before x b other)) p (λ k. conditional k.0 (k.1).0 ((k.1).1).0 ((k.1).1).1)
      (follow (optional_at c p before) (follow (value_at c x) (follow (block_at c b) (else_at c other)))) e0
      (λ k q y e. conditional_typed p before x b other k.0 (k.1).0 ((k.1).1).0 ((k.1).1).1 y q.0 ((q.1).1).0 ((q.1).1).1 e)
      (has_follow (IsTypedOptional before) (λ (k : typed.Expr × (List typed.Stmt × List typed.Stmt)). Unit {0} × (IsTypedBlock b (k.1).0 × IsTypedElse other (k.1).1)) (optional_at c p before) (follow (value_at c x) (follow (block_at c b) (else_at c other))) e0 (optional_has c p before e0)
      (has_follow (λ (k : typed.Expr). Unit {0}) (λ (k : List typed.Stmt × List typed.Stmt). IsTypedBlock b k.0 × IsTypedElse other k.1) (value_at c x) (follow (block_at c b) (else_at c other)) e1 (any (value_at c x e1))
      (has_follow (IsTypedBlock b) (IsTypedElse other) (block_at c b) (else_at c other) e2 (block_has c b e2) (else_has c other e3))))

  else_has : (c : Context) (other : Else) (env : StatementEnv) → Has (IsTypedElse other) (else_at c other env)
  else_has c no_else env = has_given (IsTypedElse no_else) [] env refl
  else_has c (else_block b) env = block_has c b env
  else_has c (else_if i) env = if_has c i env

  block_has : (c : Context) (b : Block) (env : StatementEnv) → Has (IsTypedBlock b) (block_at c b env)
  block_has c (block p ss q) env = list_has (in_block c) ss (enter_scope env)

  pub list_has : (c : Context) (ss : StatementList) (env : StatementEnv) → Has (FollowStatements ss) (list_at c ss env)
  list_has c no_stmts env = has_given (FollowStatements no_stmts) [] env refl
  list_has c (some_stmts s ss) env =
      has_appended (IsTyped s) (FollowStatements ss) (FollowStatements (some_stmts s ss)) (statement_at (before_others c ss) s) (list_at (context_behind c s) ss) env (more_statements s ss)
      (statement_has (before_others c ss) s env) (list_has (context_behind c s) ss (statement_at (before_others c ss) s env).after)

  clauses_has : (c : Context) (tag : Option Type') (again : Bool) (cs : Cases) (env : StatementEnv) → Has (AreClausesOf cs) (clauses_at c tag again cs env)
  clauses_has c tag again no_clauses env = has_given (AreClausesOf no_clauses) [] env refl
  clauses_has c tag again (clause p values ss rest) env =
      let falls = leads_on ss && not (has_no_clauses rest) in
      let body = list_at (in_clause c (not (has_no_clauses rest))) ss in
      let one = clause_at c tag again falls p values body in
      has_appended (λ (ks : List SwitchClause). (k : SwitchClause) × (ks ≡ k ∷ []) × IsClauseOf values ss falls k) (AreClausesOf rest) (AreClausesOf (clause p values ss rest)) (single one) (clauses_at c tag (again || not (is_some values)) rest) env
      (more_clauses p values ss rest)
      (has_single (IsClauseOf values ss falls) one env
      (has_node (λ (k : Option (List typed.Expr) × List typed.Stmt). AreCases values k.0 × FollowStatements ss k.1) (IsClauseOf values ss falls) p (λ k. clause_verdict tag again falls k.0 k.1) (follow (cases_at c values) body) (enter_scope env)
      (λ k q y e. clause_typed tag again falls values ss k.0 k.1 y q.0 q.1 e)
      (has_follow (AreCases values) (FollowStatements ss) (cases_at c values) body (enter_scope env) (cases_has c values (enter_scope env)) (list_has (in_clause c (not (has_no_clauses rest))) ss (cases_at c values (enter_scope env)).after))))
      (clauses_has c tag (again || not (is_some values)) rest (single one env).after)

-- ---- functions

function_typed : (ts rs : List Type') (ss : StatementList) (k : List Type' × List typed.Stmt) (y : List Type' × List typed.Stmt) → FollowStatements ss k.1 → ended k.0 k.1 ≡ Fine y → FollowStatements ss y.1
function_typed ts rs ss k y inner e = by_end (nat_eq (length k.0) 0 || list_terminates (pack_stmts k.1)) e
  where
    by_end : (b : Bool) → (if b then Fine (k.0, k.1) else Breaks NoReturn) ≡ Fine y → FollowStatements ss y.1
    by_end true h = subst (λ (z : List Type' × List typed.Stmt). FollowStatements ss z.1) (fine_same {A = List Type' × List typed.Stmt} (k.0, k.1) y h) inner
    by_end false h = absurd (cc (h))

body_has : (c : Context) (rs : List TypeExpr) (b : Block) (env : StatementEnv) → Has (λ (k : List Type' × List typed.Stmt). IsTypedBlock b k.1) (body_at c rs b env)
body_has c rs (block p ss q) env =
    let inner = record (block_context c) { results = result_types c rs } in
    λ y e. (has_follow (λ (k : List Type'). Unit {0}) (FollowStatements ss) (results_at c rs) (list_at inner ss) env (any (results_at c rs env)) (list_has inner ss (results_at c rs env).after) y e).1

statements_of : Block → StatementList
statements_of (block p ss q) = ss

block_typed : (b : Block) (ts : List typed.Stmt) → IsTypedBlock b ts → FollowStatements (statements_of b) ts
unfolding statements_of
block_typed (block p ss q) ts h = h

typed_block : (b : Block) (ts : List typed.Stmt) → FollowStatements (statements_of b) ts → IsTypedBlock b ts
unfolding statements_of
typed_block (block p ss q) ts h = h

-- the body of a function that is known follows its statements
pub function_has : (c : Context) (f : FunctionDecl) (t : typed.Function) → (function_at c f).known ≡ Some t → (body : List typed.Stmt) × (t.body ≡ pack_stmts body) × IsTypedBlock f.body body
unfolding function_at
function_has c f t e =
    let m = mapped (function_from f (whole_at c f nothing).after.types) (whole_at c f nothing).known t e in
    let Body : CheckedParts → Type 0 = λ k. IsTypedBlock f.body (k.1).1 in
    let parts = follow (parameters_at c f.parameters) (body_at c f.results f.body) in
    let has = has_node Body Body (closing_place f.body) whole_function parts nothing
    (λ k q y w.
    let inside = checked_is (λ inside. Fine (k.0, inside)) (ended (k.1).0 (k.1).1) y w in
    let done = function_typed [] [] (statements_of f.body) k.1 inside.0 (block_typed f.body (k.1).1 q) inside.1 in
    subst Body (fine_same {A = CheckedParts} (k.0, inside.0) y inside.2) (typed_block f.body (inside.0).1 done))
    (λ y w. (has_follow (λ (ts : List Type'). Unit {0}) (λ (k : List Type' × List typed.Stmt). IsTypedBlock f.body k.1) (parameters_at c f.parameters) (body_at c f.results f.body) nothing (any (parameters_at c f.parameters nothing)) (body_has c f.results f.body (parameters_at c f.parameters nothing).after) y w).1) in
    (((m.0).1).1, sym (ap (λ (g : typed.Function). g.body) m.2), has m.0 m.1)
