-- Rules of statements over parts that are known pass nothing over.
use Rattle.std.proofs.Common.{◌≡◌, ℕ, Bool, true, false, not, ◌&&◌, ◌||◌, Option, Some, None, Ok, Err, List, [], ◌∷◌, map, length, refl, inl, inr}
use Rattle.std.specs.Prelude.{nat_le, nat_eq, option_map, unwrap_or}
use Rattle.std.specs.List.{list_any, list_all, zip}
use Rattle.std.proofs.lemmas.Bool.{cases_Bool}
use Rattle.go_text.specs.declared.fault.FaultKind.{FaultKind}
use Rattle.go_text.specs.declared.fault.FaultKind.TheVariants.{Mismatch}
use Rattle.go_text.specs.Faults.{fault_number}
use Rattle.go_ast.specs.declared.expression.BinaryOperator.{BinaryOperator}
use Rattle.go_ast.specs.Trees.{Name}
use Rattle.go_const.specs.declared.operator.ArithmeticOperator.{ArithmeticOperator}
use Rattle.go_types.specs.Types.{Type'}
use Rattle.go_typed.specs.declared.expression.Operator.TheVariants.{Arithmetic, Shift}
use Rattle.go_typed.specs.Trees.{Expr, call, binary, expr_type, here, Stmt, pack_stmts}
use Rattle.go_expr.specs.Known.{Declared, value, Known, declared, results as call_results, printed, panicked, Verdict, Fine, Breaks, Passed}
use Rattle.go_expr.specs.Rules.{lesser_fault, least, wrong, fine_list, value_due, is_integer, defaulted, condition, binary_verdict}
use Rattle.go_typed.specs.Terminating.{list_terminates}
use Rattle.go_stmt.specs.Rules.{all_some, AssignedValues, separate, together as results_of, no_values, values_of, suited_one, takes, suited, is_constant, constants_source, constants_verdict, has_no_values, variables_source, differ, is_new, suited_if, suited_partly, dues_for, redefined, stated, performed, left_to, left_side, assigned_to, is_left, updating, update_verdict, inc_dec_verdict, conditional, loop_condition, looped, counted, ranged, SwitchClause, case_value, clause_verdict, switched, branch, return_verdict, ended}
use Rattle.go_package_laws.proofs.Completeness.Rules.{IsAsked, through, together, values_due, defaults, conditions, binaries}

abbrev alone : Expr → Verdict AssignedValues
alone e = Fine (separate (e ∷ []))

pub several : (k : Known) → IsAsked (values_of k)
several (call_results ts f es) = tt
several (panicked e) = tt
several k = through alone (value_due k) (λ e. tt) (values_due k)

pub suits : (due : List (Option Type')) (values : AssignedValues) → IsAsked (suited due values)
suits due (separate es) = elim (cases_Bool (nat_eq (length due) (length es))) [
  | inl is ↦ rw is (through _ (fine_list [] (map suited_one (zip due es))) (λ x. tt) (together [] (map suited_one (zip due es))))
  | inr not_so ↦ rw not_so tt
]
suits due (results_of ts f es) = elim (cases_Bool (nat_eq (length ts) 0 || not (nat_eq (length due) (length ts)))) [
  | inl is ↦ rw is tt
  | inr counted ↦ elim (cases_Bool (list_all takes (zip due ts))) [ inl is ↦ rw (counted, is) tt | inr not_so ↦ rw (counted, not_so) tt ]
]
suits due no_values = tt

constant_sources : (ns : List Name) (t : Option Type') (es : List Expr) → IsAsked (constants_source ns t es)
constant_sources ns None es = tt
constant_sources ns (Some t) es = suits (map (λ n. Some t) ns) (separate es)

pub constants : (ns : List Name) (t : Option Type') (es : List Expr) → IsAsked (constants_verdict ns t es)
constants ns t es = elim (cases_Bool (not (list_all is_constant es))) [
  | inl other ↦ rw other tt
  | inr all ↦ elim (cases_Bool (not (nat_eq (length ns) (length es)))) [
    | inl is ↦ rw (all, is) tt
    | inr counted ↦ rw (all, counted) (through _ (constants_source ns t es) (λ x. tt) (constant_sources ns t es))
  ]
]

pub variables : (ns : List Name) (t : Option Type') (values : AssignedValues) → IsAsked (variables_source ns t values)
variables ns None values = suits (map (λ n. None) ns) values
variables ns (Some t) values = elim (cases_Bool (has_no_values values)) [ inl is ↦ rw is tt | inr not_so ↦ rw not_so (suits (map (λ n. Some t) ns) values) ]

-- what is due for names is known, where they have a due at all
abbrev pub AreDue : List (List ℕ) → (Name → Option (Option Declared)) → List Name → Type 0
AreDue constants own ns = (due : List (Option (Option Type'))) → dues_for constants own ns ≡ Some due → (k : List (Option Type')) × (all_some due ≡ Some k)

pub redefinitions : (constants : List (List ℕ)) (own : Name → Option (Option Declared)) (ns : List Name) (values : AssignedValues) → AreDue constants own ns → IsAsked (redefined constants own ns values)
redefinitions constants own ns values known = elim (cases_Bool (not (differ ns && list_any (λ n. is_new n (own n)) ns))) [
  | inl is ↦ rw is tt
  | inr new ↦ elim (dues_for constants own ns) as (λ o. dues_for constants own ns ≡ o → IsAsked (redefined constants own ns values)) [
    | None ↦ λ at. rw (new, at, IsAsked) tt
    | Some due ↦ λ at. (let k = known due at in rw (new, at, k.1, IsAsked) (suits k.0 values))
  ] refl
]

pub performances : (k : Known) → IsAsked (performed k)
performances (declared (value (call t f es))) = tt
performances (declared (value e)) = tt
performances (declared d) = tt
performances (call_results ts f es) = tt
performances (printed (Ok es)) = tt
performances (printed (Err kind)) = tt
performances (panicked e) = tt
performances k = tt

pub statements : (k : Known) → IsAsked (stated k)
statements (printed (Ok es)) = tt
statements (printed (Err kind)) = tt
statements (declared d) = tt
statements (call_results ts f es) = tt
statements (panicked e) = tt
statements k = tt

pub assignments_to : (es : List (Option Expr)) (values : AssignedValues) → IsAsked (assigned_to es values)
assignments_to es values = elim (all_some (map left_side es)) as (λ o. all_some (map left_side es) ≡ o → IsAsked (assigned_to es values)) [
  | None ↦ λ at. rw (at, IsAsked) tt
  | Some ls ↦ λ at. rw (at, IsAsked) (through _ (suited (map (option_map expr_type) es) values) (λ x. tt) (suits (map (option_map expr_type) es) values))
] refl

changed : (e : Expr) → IsAsked (updating e)
changed (binary t (Arithmetic op) a b) = elim (left_to here a) as (λ o. left_to here a ≡ o → IsAsked (updating (binary t (Arithmetic op) a b))) [
  | None ↦ λ at. rw (at, IsAsked) tt
  | Some l ↦ λ at. rw (at, IsAsked) tt
] refl
changed (binary t (Shift op) a b) = elim (left_to here a) as (λ o. left_to here a ≡ o → IsAsked (updating (binary t (Shift op) a b))) [
  | None ↦ λ at. rw (at, IsAsked) tt
  | Some l ↦ λ at. rw (at, IsAsked) tt
] refl
changed e = tt

abbrev told : Option FaultKind → Verdict Stmt
told o = elim o [ Some kind ↦ Breaks kind | None ↦ Passed ]

some_told : (k : FaultKind) (o : Option FaultKind) → IsAsked (told (lesser_fault (Some k) o))
some_told k None = tt
some_told k (Some l) = elim (cases_Bool (nat_le (fault_number k) (fault_number l))) [ inl is ↦ rw is tt | inr not_so ↦ rw not_so tt ]

pub updates : (op : BinaryOperator) (a b : Expr) → IsAsked (update_verdict op a b)
updates op a b = elim (cases_Bool (is_left a)) [
  | inl is ↦ rw (is, IsAsked) (through updating (binary_verdict op a b) changed (binaries op a b))
  | inr not_so ↦ rw (not_so, IsAsked) (some_told Mismatch (least (wrong (binary_verdict op a b))))
]

pub steps : (op : ArithmeticOperator) (e : Expr) → IsAsked (inc_dec_verdict op e)
steps op e = elim (left_to here e) as (λ o. left_to here e ≡ o → IsAsked (inc_dec_verdict op e)) [
  | None ↦ λ at. rw (at, IsAsked) tt
  | Some l ↦ λ at. elim (cases_Bool (is_integer (expr_type e))) [ inl is ↦ rw (at, is, IsAsked) tt | inr not_so ↦ rw (at, not_so, IsAsked) tt ]
] refl

pub conditionals : (before : List Stmt) (e : Expr) (a b : List Stmt) → IsAsked (conditional before e a b)
conditionals before e a b = through _ (condition e) (λ x. tt) (conditions e)

loop_conditions : (e : Option Expr) → IsAsked (loop_condition e)
loop_conditions None = tt
loop_conditions (Some e) = through _ (condition e) (λ x. tt) (conditions e)

pub loops : (before : List Stmt) (e : Option Expr) (post ss : List Stmt) → IsAsked (looped before e post ss)
loops before e post ss = through _ (loop_condition e) (λ x. tt) (loop_conditions e)

counts : (e : Expr) → IsAsked (counted e)
counts e = elim (cases_Bool (is_integer (expr_type e))) [ inl is ↦ rw is (defaults e) | inr not_so ↦ rw not_so tt ]

pub ranges : (number : Option ℕ) (e : Expr) (ss : List Stmt) → IsAsked (ranged number e (Some ss))
ranges number e ss = through _ (counted e) (λ x. tt) (counts e)

pub clauses : (tag : Type') (again falls : Bool) (es : Option (List Expr)) (ss : List Stmt) → IsAsked (clause_verdict (Some tag) again falls es ss)
clauses tag again falls None ss = elim (cases_Bool again) [ inl is ↦ rw is tt | inr not_so ↦ rw not_so tt ]
clauses tag again falls (Some es) ss = through _ (fine_list [] (map (case_value tag) es)) (λ x. tt) (together [] (map (case_value tag) es))

pub branches : (may_stand : Bool) (ss : List Stmt) → IsAsked (branch may_stand ss)
branches true ss = tt
branches false ss = tt

suits_partly : (due : List (Option (Option Type'))) (values : AssignedValues) → IsAsked (suited_partly due values)
suits_partly due (separate es) = elim (cases_Bool (nat_eq (length due) (length es))) [
  | inl is ↦ rw is (through _ (fine_list [] (map suited_if (zip due es))) (λ x. tt) (together [] (map suited_if (zip due es))))
  | inr not_so ↦ rw not_so tt
]
suits_partly due (results_of ts f es) = suits (map (λ t. unwrap_or t None) due) (results_of ts f es)
suits_partly due no_values = tt

pub returns : (ts : List (Option Type')) (values : AssignedValues) → IsAsked (return_verdict ts values)
returns ts values = through _ (suited_partly (map (option_map Some) ts) values) (λ x. tt) (suits_partly (map (option_map Some) ts) values)

pub ends : (ts : List Type') (ss : List Stmt) → IsAsked (ended ts ss)
ends ts ss = elim (cases_Bool (nat_eq (length ts) 0 || list_terminates (pack_stmts ss))) [ inl is ↦ rw is tt | inr not_so ↦ rw not_so tt ]

pub switches : (before : List Stmt) (tag : Expr) (cs : List SwitchClause) → IsAsked (switched before tag cs)
switches before tag cs = through _ (defaulted tag) (λ x. tt) (defaults tag)
