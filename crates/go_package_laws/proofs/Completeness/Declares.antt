-- Statements that declare variables: each is known.
use Rattle.std.proofs.Common.{◌≡◌, ℕ, Bool, true, false, not, ◌&&◌, List, [], ◌∷◌, Option, Some, None, map, refl, sym, ap, subst, ◌∙◌, inl, inr}
use Rattle.std.specs.Prelude.{is_some, option_map, bytes_eq}
use Rattle.std.specs.List.{list_any}
use Rattle.std.specs.Map.{lookup}
use Rattle.std.proofs.lemmas.Bool.{cases_Bool}
use Rattle.go_text.specs.declared.place.Place.{Place}
use Rattle.go_ast.specs.Trees.{Name, TypeExpr, ExpressionList, VarSpec}
use Rattle.go_types.specs.Types.{Type'}
use Rattle.go_typed.specs.Trees as typed
use Rattle.go_typed.specs.Trees.{ValueSource, local}
use Rattle.go_scope.specs.Scopes.{is_own}
use Rattle.go_expr.specs.Known.{Declared, value, Scope, Fine}
use Rattle.go_expr.specs.Rules.{fine, checked}
use Rattle.go_expr.specs.Verdicts.{asked, both, type_verdict}
use Rattle.go_stmt.specs.Scopes.{StatementEnv, Context, scope_in, own, variable_number, paired_names, declare_new, follow}
use Rattle.go_stmt.specs.Rules.{all_some, AssignedValues, suited, variables_source, differ, is_new, due_for, dues_for, redefined}
use Rattle.go_stmt.specs.Statements.{values_at, values_known, value_types, names_at, written_at, place_of_first, variable_types, variables_at, specs_at, short_at}
use Rattle.go_package_laws.specs.Finds.{IsKnown}
use Rattle.go_package_laws.proofs.Completeness.Rules.{through}
use Rattle.go_package_laws.proofs.Completeness.Steps.{variables, AreDue, redefinitions}
use Rattle.go_package_laws.proofs.Completeness.Forms.{Whole, AllTold, Outside, all_told, AllTyped, new_whole, AllDue, due_whole, KnownAs, Any, Sure, sure_given, both_sure, sure_appended, sure_node}
use Rattle.go_package_laws.proofs.Completeness.Counts.{through_known, one_typed, parts_some, all_front, Fit, values_fit, fit_typed}
use Rattle.go_package_laws.proofs.Completeness.Leaves.{names_sure, written_sure, values_sure}

-- ---- variables

unwritten : (ns : List Name) (s : Scope) (es : ExpressionList) (v : AssignedValues) → values_known s es ≡ Some v → IsKnown (fine (suited (map (λ n. None) ns) v)) → AllTyped (paired_names ns (value_types s es))
unwritten ns s es v is k = fit_typed ns (value_types s es) (values_fit s es v (map (λ n. None) ns) is k)

of_types : (s : Scope) (ns : List Name) (type : Option TypeExpr) (es : ExpressionList) (t : Option Type') (values : AssignedValues) (env : StatementEnv) → (written_at s type env).known ≡ Some t → values_known s es ≡ Some values
    → IsKnown (fine (variables_source ns t values)) → AllTyped (paired_names ns (variable_types s (record { names = ns; type = type; values = es })))
of_types s ns None es None values env w v k = unwritten ns s es values v k
of_types s ns None es (Some t) values env w v k = absurd cc
of_types s ns (Some type) es t values env w v k = one_typed ns (fine (type_verdict s type)) (elim (fine (type_verdict s type)) as (λ o. option_map Some o ≡ Some t → IsKnown o) [ None ↦ λ h. absurd cc | Some u ↦ λ h. (u, refl) ] w)

sourced : (ns : List Name) (f : ValueSource → List typed.Stmt) (w : Option (Option Type')) (v : Option AssignedValues)
    → IsKnown (fine (asked (λ (k : List Name × (Option Type' × AssignedValues)). checked (λ source. Fine (f source)) (variables_source ns (k.1).0 (k.1).1)) (both (Some ns) (both w v))))
    → (t : Option Type') × (values : AssignedValues) × (w ≡ Some t) × (v ≡ Some values) × IsKnown (fine (variables_source ns t values))
sourced ns f None v k = absurd cc
sourced ns f (Some t) None k = absurd cc
sourced ns f (Some t) (Some values) k = (t, values, refl, refl, through_known f (variables_source ns t values) k)

pub written_stays : (s : Scope) (t : Option TypeExpr) (env : StatementEnv) → (written_at s t env).after ≡ env
written_stays s None env = refl
written_stays s (Some t) env = refl

variables_sure : (c : Context) → Outside c → (p : Place) (spec : VarSpec) → Sure Any (variables_at c p spec)
variables_sure c out p spec env whole none =
    let s = scope_in c None env in
    let change = declare_new (paired_names spec.names (variable_types s spec)) in
    let f = λ (source : ValueSource). typed.define (map (variable_number (change env)) spec.names) source ∷ [] in
    let rule = λ (k : List Name × (Option Type' × AssignedValues)). checked (λ source. Fine (f source)) (variables_source spec.names (k.1).0 (k.1).1) in
    let behind = follow (written_at s spec.type) (values_at c spec.values) in
    let parts = follow (names_at spec.names) behind in
    let all = both_sure (names_at spec.names) behind (names_sure spec.names) (both_sure (written_at s spec.type) (values_at c spec.values) (written_sure s (all_told c None env out whole) spec.type) (values_sure c out spec.values)) in
    let one = sure_node Any (place_of_first p spec.names) rule parts (λ k q. through _ (variables_source spec.names (k.1).0 (k.1).1) (λ x. tt) (variables spec.names (k.1).0 (k.1).1)) all env whole none in
    let w = (written_at s spec.type env).known in
    let here = subst (λ (e : StatementEnv). KnownAs Any (fine (asked rule (both (Some spec.names) (both w (values_at c spec.values e).known))))) (written_stays s spec.type env) one.0 in
    let known = sourced spec.names f w (values_known s spec.values) (here.0, here.1) in
    (one.0, new_whole (paired_names spec.names (variable_types s spec)) env (of_types s spec.names spec.type spec.values known.0 known.1 env known.2 known.3 known.4) whole)

pub specs_sure : (c : Context) → Outside c → (p : Place) (ss : List VarSpec) → Sure Any (specs_at c p ss)
specs_sure c out p [] = sure_given []
specs_sure c out p (s ∷ ss) = sure_appended (variables_at c p s) (specs_at c p ss) (variables_sure c out p s) (specs_sure c out p ss)

-- ---- short declarations

-- what is due for names, by what the block has under them: none, or it has the name
abbrev pub Dues : StatementEnv → List Name → List (Option Type') → Type 0
Dues env [] [] = Unit {0}
Dues env [] (d ∷ ds) = ⊥
Dues env (n ∷ ns) [] = ⊥
Dues env (n ∷ ns) (None ∷ ds) = Dues env ns ds
Dues env (n ∷ ns) (Some t ∷ ds) = (is_own env.names n.text ≡ true) × Dues env ns ds

pub fit_due : (env : StatementEnv) (ns : List Name) (ds ts : List (Option Type')) → Dues env ns ds → Fit ds ts → AllDue env (paired_names ns ts)
fit_due env [] ds ts h k = tt
fit_due env (n ∷ ns) [] ts h k = absurd h
fit_due env (n ∷ ns) (d ∷ ds) [] h k = absurd k
fit_due env (n ∷ ns) (None ∷ ds) (None ∷ ts) h k = absurd (let no = k.0 in cc (no.1))
fit_due env (n ∷ ns) (None ∷ ds) (Some t ∷ ts) h k = fit_due env ns ds ts h k.1
fit_due env (n ∷ ns) (Some u ∷ ds) (None ∷ ts) h k = (h.0, fit_due env ns ds ts h.1 k)
fit_due env (n ∷ ns) (Some u ∷ ds) (Some t ∷ ts) h k = fit_due env ns ds ts h.1 k

-- something is known of what the block has under a name
abbrev IsToldOwn : Option (Option Declared) → Type 0
IsToldOwn None = Unit {0}
IsToldOwn (Some None) = ⊥
IsToldOwn (Some (Some d)) = Unit {0}

told_own : (ns : List (List ℕ × Option Declared)) (x : List ℕ) → AllTold ns → IsToldOwn (lookup (bytes_eq x) ns)
told_own [] x h = tt
told_own ((y, None) ∷ ns) x h = absurd h
told_own ((y, Some d) ∷ ns) x h = elim (cases_Bool (bytes_eq x y)) [ inl is ↦ rw is tt | inr not_so ↦ rw not_so (told_own ns x h) ]

abbrev Old : Option Type' → Option (Option Declared) → Type 0
Old None o = Unit {0}
Old (Some t) o = is_some o ≡ true

one_due : (b : Bool) (o : Option (Option Declared)) (d : Option (Option Type')) → IsToldOwn o → due_for b o ≡ Some d → (k : Option Type') × (d ≡ Some k) × Old k o
one_due b None d told is = (None, (let r : Some None ≡ d = cc in sym r), tt)
one_due b (Some None) d told is = absurd told
one_due b (Some (Some (value (local t n)))) d told is = (Some t, (let r : Some (Some t) ≡ d = cc in sym r), refl)
one_due b (Some (Some (value e))) d told is = absurd cc
one_due b (Some (Some k)) d told is = absurd cc

one_more : (env : StatementEnv) (n : Name) (ns : List Name) (k : Option Type') (ks : List (Option Type')) → Old k (own env n) → Dues env ns ks → Dues env (n ∷ ns) (k ∷ ks)
one_more env n ns None ks h rest = rest
one_more env n ns (Some t) ks h rest = (h, rest)

-- what is due for a name of the block
abbrev own_due : List (List ℕ) → StatementEnv → Name → Option (Option (Option Type'))
own_due constants env n = due_for (list_any (bytes_eq n.text) constants) (own env n)

dues_of : (constants : List (List ℕ)) (env : StatementEnv) → Whole env → (ns : List Name) (due : List (Option (Option Type'))) → dues_for constants (own env) ns ≡ Some due
    → (ks : List (Option Type')) × (all_some due ≡ Some ks) × Dues env ns ks
dues_of constants env whole [] due is = ([], (let same : [] ≡ due = cc in sym (ap all_some same)), tt)
dues_of constants env whole (n ∷ ns) due is =
    let here = own_due constants env n in
    let rest = map (own_due constants env) ns in
    let parts = parts_some here rest (due, is) in
    let d = (parts.0).0 in
    let ds = (parts.1).0 in
    let r : all_some (here ∷ rest) ≡ Some (d ∷ ds) = all_front here rest d ds (parts.0).1 (parts.1).1 in
    let same : due ≡ d ∷ ds = cc in
    let one = one_due (list_any (bytes_eq n.text) constants) (own env n) d (told_own env.names.inner n.text whole.0) (parts.0).1 in
    let others = dues_of constants env whole ns ds (parts.1).1 in
    let all : all_some (d ∷ ds) ≡ Some (one.0 ∷ others.0) = all_front d ds one.0 others.0 one.1 others.1 in
    (one.0 ∷ others.0, ap all_some same ∙ all, one_more env n ns one.0 others.0 one.2 others.2)

redefined_suits : (constants : List (List ℕ)) (env : StatementEnv) → Whole env → (ns : List Name) (v : AssignedValues) (o : Option (List (Option (Option Type')))) → dues_for constants (own env) ns ≡ o
    → not (differ ns && list_any (λ n. is_new n (own env n)) ns) ≡ false → IsKnown (fine (redefined constants (own env) ns v)) → (ks : List (Option Type')) × Dues env ns ks × IsKnown (fine (suited ks v))
redefined_suits constants env whole ns v None at new k = absurd (let r : fine (redefined constants (own env) ns v) ≡ None = rw (new, at, redefined) refl in cc)
redefined_suits constants env whole ns v (Some due) at new k =
    let dues = dues_of constants env whole ns due at in
    let r : redefined constants (own env) ns v ≡ suited dues.0 v = rw (new, at, dues.1, redefined) refl in
    (dues.0, dues.2, subst (λ v. IsKnown (fine v)) r k)

redefined_by : (constants : List (List ℕ)) (env : StatementEnv) → Whole env → (ns : List Name) (v : AssignedValues) → IsKnown (fine (redefined constants (own env) ns v))
    → (ks : List (Option Type')) × Dues env ns ks × IsKnown (fine (suited ks v))
redefined_by constants env whole ns v k = elim (cases_Bool (not (differ ns && list_any (λ n. is_new n (own env n)) ns))) [
  | inl is ↦ absurd (let r : fine (redefined constants (own env) ns v) ≡ None = rw is refl in cc)
  | inr new ↦ redefined_suits constants env whole ns v (dues_for constants (own env) ns) refl new k
]

short_typed : (constants : List (List ℕ)) (s : Scope) (ns : List Name) (es : ExpressionList) (env : StatementEnv) → Whole env → (f : ValueSource → typed.Stmt) (v : Option AssignedValues) → values_known s es ≡ v
    → IsKnown (fine (asked (λ (k : AssignedValues). checked (λ source. Fine (f source)) (redefined constants (own env) ns k)) v)) → AllDue env (paired_names ns (value_types s es))
short_typed constants s ns es env whole f None is k = absurd cc
short_typed constants s ns es env whole f (Some v) is k =
    let suits = redefined_by constants env whole ns v (through_known f (redefined constants (own env) ns v) k) in
    fit_due env ns suits.0 (value_types s es) suits.1 (values_fit s es v suits.0 is suits.2)

pub short_sure : (c : Context) → Outside c → (p : Place) (ns : List Name) (es : ExpressionList) → Sure Any (short_at c p ns es)
short_sure c out p ns es env whole none =
    let s = scope_in c None env in
    let change = declare_new (paired_names ns (value_types s es)) in
    let f = λ (source : ValueSource). typed.define (map (variable_number (change env)) ns) source in
    let rule = λ (k : AssignedValues). checked (λ source. Fine (f source)) (redefined c.constants (own env) ns k) in
    let known : AreDue c.constants (own env) ns = λ due at. (let dues = dues_of c.constants env whole ns due at in (dues.0, dues.1)) in
    let one =
    sure_node Any p rule (values_at c es) (λ k q. through _ (redefined c.constants (own env) ns k) (λ x. tt) (redefinitions c.constants (own env) ns k known)) (values_sure c out es) env whole none in
    (one.0, due_whole (paired_names ns (value_types s es)) env (short_typed c.constants s ns es env whole f (values_known s es) refl ((one.0).0, (one.0).1)) whole)
