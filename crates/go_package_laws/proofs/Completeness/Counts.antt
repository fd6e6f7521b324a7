-- Variables that get values: as many as there are, each of a known type.
use Rattle.std.proofs.Common.{◌≡◌, ℕ, suc, Bool, true, false, not, Option, Some, None, List, [], ◌∷◌, ◌++◌, map, length, refl, sym, ap, subst, ◌∙◌, inl, inr, arith}
use Rattle.std.specs.Prelude.{nat_eq, nat_le, option_map, option_and_then}
use Rattle.std.specs.List.{flat_map, zip}
use Rattle.std.proofs.lemmas.Bool.{cases_Bool, eqb-true}
use Rattle.go_text.specs.declared.fault.FaultKind.{FaultKind}
use Rattle.go_text.specs.Faults.{fault_number}
use Rattle.go_ast.specs.Trees.{Name, ExpressionList, no_exprs, some_exprs}
use Rattle.go_types.specs.Types.{Type'}
use Rattle.go_types.specs.Relations.{assignable}
use Rattle.go_typed.specs.Trees as typed
use Rattle.go_typed.specs.Trees.{ValueSource, each, expr_type}
use Rattle.go_expr.specs.Known.{Verdict, Fine, Breaks, Passed, Scope}
use Rattle.go_expr.specs.Rules.{fine, checked, wrong, least, lesser_fault, fine_list, lies_in, assigned, default_type, defaulted, settled_type}
use Rattle.go_expr.specs.Verdicts.{operand, verdict}
use Rattle.go_stmt.specs.Scopes.{paired_names}
use Rattle.go_stmt.specs.Rules.{all_some, AssignedValues, separate, together, no_values, suited_one, suited}
use Rattle.go_stmt.specs.Statements.{each_of, values_known, alone_types, value_types}
use Rattle.go_package_laws.specs.Finds.{IsKnown}
use Rattle.go_package_laws.proofs.Completeness.Rules.{IsAsked, assignments, defaults}
use Rattle.go_package_laws.proofs.Completeness.Forms.{AllTyped}

abbrev pub count : AssignedValues → ℕ
count (separate es) = length es
count (together ts f es) = length ts
count no_values = 0

abbrev pub AllSome : {A : Type 0} → List (Option A) → Type 0
AllSome [] = Unit {0}
AllSome (None ∷ os) = ⊥
AllSome (Some x ∷ os) = AllSome os

pub through_known : {A B : Type 0} (f : A → B) (v : Verdict A) → IsKnown (fine (checked (λ x. Fine (f x)) v)) → IsKnown (fine v)
through_known f (Fine x) k = (x, refl)
through_known f (Breaks kind) k = cc
through_known f Passed k = cc

separate_counted : (due : List (Option Type')) (es : List typed.Expr) (b : Bool) → nat_eq (length due) (length es) ≡ b → IsKnown (fine (suited due (separate es))) → length due ≡ length es
separate_counted due es true is k = eqb-true (length due) (length es) is
separate_counted due es false is k = absurd (let r : fine (suited due (separate es)) ≡ None = rw is refl in cc)

results_counted : (due : List (Option Type')) (ts : List Type') (f : typed.Symbol) (es : typed.Exprs) (b : Bool) → nat_eq (length due) (length ts) ≡ b → IsKnown (fine (suited due (together ts f es))) → length due ≡ length ts
results_counted due ts f es true is k = eqb-true (length due) (length ts) is
results_counted due ts f es false is k = absurd (let r : fine (suited due (together ts f es)) ≡ None = elim (cases_Bool (nat_eq (length ts) 0)) [ inl z ↦ rw (is, z) refl | inr z ↦ rw (is, z) refl ] in cc)

pub suited_counted : (due : List (Option Type')) (values : AssignedValues) → IsKnown (fine (suited due values)) → length due ≡ count values
suited_counted due (separate es) k = separate_counted due es (nat_eq (length due) (length es)) refl k
suited_counted due (together ts f es) k = results_counted due ts f es (nat_eq (length due) (length ts)) refl k
suited_counted due no_values k = absurd cc

pub pair_typed : {A : Type 0} (ns : List Name) (ts : List (Option A)) → length ns ≡ length ts → AllSome ts → AllTyped (paired_names ns ts)
pair_typed [] ts same some = tt
pair_typed (n ∷ ns) [] same some = absurd (omega (arith, same))
pair_typed (n ∷ ns) (None ∷ ts) same some = absurd some
pair_typed (n ∷ ns) (Some t ∷ ts) same some = pair_typed ns ts (omega (arith, same)) some

pub one_typed : (ns : List Name) (o : Option Type') → IsKnown o → AllTyped (paired_names ns (map (λ n. o) ns))
one_typed [] o k = tt
one_typed (n ∷ ns) None k = absurd cc
one_typed (n ∷ ns) (Some t) k = one_typed ns (Some t) k

pub some_counted : {A : Type 0} (os : List (Option A)) (xs : List A) → all_some os ≡ Some xs → length os ≡ length xs
some_counted [] [] is = refl
some_counted [] (x ∷ xs) is = absurd cc
some_counted (None ∷ os) xs is = absurd cc
some_counted {A} (Some y ∷ os) xs is = elim (all_some os) as (λ o. all_some os ≡ o → option_map (λ ys. y ∷ ys) o ≡ Some xs → length (Some y ∷ os) ≡ length xs) [
  | None ↦ λ at h. absurd cc
  | Some ys ↦ λ at h. (let same : y ∷ ys ≡ xs = cc in ap suc (some_counted os ys at) ∙ ap length same)
] refl is

pub parts_some : {A : Type 0} (o : Option A) (os : List (Option A)) → IsKnown (all_some (o ∷ os)) → IsKnown o × IsKnown (all_some os)
parts_some None os k = absurd cc
parts_some (Some x) os k = ((x, refl), (elim (all_some os) as (λ r. IsKnown (option_map (λ xs. x ∷ xs) r) → IsKnown r) [ None ↦ λ h. absurd cc | Some xs ↦ λ h. (xs, refl) ]) k)

pub all_front : {A : Type 0} (o : Option A) (os : List (Option A)) (x : A) (xs : List A) → o ≡ Some x → all_some os ≡ Some xs → all_some (o ∷ os) ≡ Some (x ∷ xs)
all_front o os x xs at is = rw (at, is) refl

-- ---- values that suit

some_least : (k : FaultKind) (o : Option FaultKind) → lesser_fault (Some k) o ≡ None → ⊥
some_least k None h = cc
some_least k (Some l) h = elim (cases_Bool (nat_le (fault_number k) (fault_number l))) [
  | inl is ↦ (let r : lesser_fault (Some k) (Some l) ≡ Some k = rw is refl in cc)
  | inr not_so ↦ (let r : lesser_fault (Some k) (Some l) ≡ Some l = rw not_so refl in cc)
]

none_least : (ks : List FaultKind) → least ks ≡ None → ks ≡ []
none_least [] h = refl
none_least (k ∷ ks) h = absurd (some_least k (least ks) h)

pub none_wrong : {A : Type 0} (vs : List (Verdict A)) (o : Option FaultKind) → least (flat_map wrong vs) ≡ o → IsKnown (fine (fine_list [] vs)) → flat_map wrong vs ≡ []
none_wrong vs None at k = none_least (flat_map wrong vs) at
none_wrong vs (Some kind) at k = absurd (let r : fine (fine_list [] vs) ≡ None = rw (at, fine_list) refl in cc)

pub suited_parts : (due : List (Option Type')) (es : List typed.Expr) (b : Bool) → nat_eq (length due) (length es) ≡ b → IsKnown (fine (suited due (separate es))) → flat_map wrong (map suited_one (zip due es)) ≡ []
suited_parts due es false is k = absurd (let r : fine (suited due (separate es)) ≡ None = rw is refl in cc)
suited_parts due es true is k =
    let r : suited due (separate es) ≡ checked (λ es. Fine (each (typed.pack_exprs es))) (fine_list [] (map suited_one (zip due es))) = rw is refl in
    none_wrong (map suited_one (zip due es)) (least (flat_map wrong (map suited_one (zip due es)))) refl
    (through_known (λ es. each (typed.pack_exprs es)) (fine_list [] (map suited_one (zip due es))) (subst (λ v. IsKnown (fine v)) r k))

pub right : {A : Type 0} (v : Verdict A) → IsAsked v → (rest : List FaultKind) → wrong v ++ rest ≡ [] → IsKnown (fine v) × (rest ≡ [])
right (Fine x) h rest none = ((x, refl), none)
right (Breaks kind) h rest none = absurd cc
right Passed h rest none = absurd h

-- ---- types that variables take of their values

-- a type for each for which none is due
abbrev pub Fit : List (Option Type') → List (Option Type') → Type 0
Fit [] [] = Unit {0}
Fit [] (t ∷ ts) = ⊥
Fit (d ∷ ds) [] = ⊥
Fit (None ∷ ds) (t ∷ ts) = IsKnown t × Fit ds ts
Fit (Some u ∷ ds) (t ∷ ts) = Fit ds ts

pub settled_known : (e : typed.Expr) → IsKnown (fine (defaulted e)) → IsKnown (settled_type e)
settled_known e k = elim (cases_Bool (lies_in (default_type (expr_type e)) e)) [
  | inl is ↦ rw is (default_type (expr_type e), refl)
  | inr not_so ↦ absurd (
      let r : fine (defaulted e) ≡ None = elim (cases_Bool (not (assignable (expr_type e) (default_type (expr_type e))))) [
        | inl unfit ↦ rw unfit refl
        | inr fit ↦ rw (fit, not_so) refl
      ] in
      cc)
]

separate_fits : (due : List (Option Type')) (es : List typed.Expr) → length due ≡ length es → flat_map wrong (map suited_one (zip due es)) ≡ [] → Fit due (map settled_type es)
separate_fits [] [] same none = tt
separate_fits [] (e ∷ es) same none = absurd (omega (arith, same))
separate_fits (d ∷ ds) [] same none = absurd (omega (arith, same))
separate_fits (None ∷ ds) (e ∷ es) same none =
    let r = right (defaulted e) (defaults e) (flat_map wrong (map suited_one (zip ds es))) none in
    (settled_known e r.0, separate_fits ds es (omega (arith, same)) r.1)
separate_fits (Some t ∷ ds) (e ∷ es) same none =
    let r = right (assigned t e) (assignments t e) (flat_map wrong (map suited_one (zip ds es))) none in
    separate_fits ds es (omega (arith, same)) r.1

together_fits : (due : List (Option Type')) (ts : List Type') → length due ≡ length ts → Fit due (map Some ts)
together_fits [] [] same = tt
together_fits [] (t ∷ ts) same = absurd (omega (arith, same))
together_fits (d ∷ ds) [] same = absurd (omega (arith, same))
together_fits (None ∷ ds) (t ∷ ts) same = ((t, refl), together_fits ds ts (omega (arith, same)))
together_fits (Some u ∷ ds) (t ∷ ts) same = together_fits ds ts (omega (arith, same))

suited_fits : (due : List (Option Type')) (values : AssignedValues) → IsKnown (fine (suited due values)) → Fit due (alone_types (Some values))
suited_fits due (separate es) k = separate_fits due es (suited_counted due (separate es) k) (suited_parts due es (nat_eq (length due) (length es)) refl k)
suited_fits due (together ts f es) k = together_fits due ts (suited_counted due (together ts f es) k)
suited_fits due no_values k = absurd cc

all_types : (s : Scope) (es : ExpressionList) (xs : List typed.Expr) → all_some (each_of (λ e. operand (verdict s e)) es) ≡ Some xs
    → each_of (λ e. option_and_then settled_type (operand (verdict s e))) es ≡ map settled_type xs
all_types s no_exprs xs is = (let same : [] ≡ xs = cc in ap (map settled_type) same)
all_types s (some_exprs e es) xs is =
    let rest = each_of (λ e. operand (verdict s e)) es in
    let ks = parts_some (operand (verdict s e)) rest (xs, is) in
    let x = (ks.0).0 in
    let ys = (ks.1).0 in
    let r : all_some (operand (verdict s e) ∷ rest) ≡ Some (x ∷ ys) = all_front (operand (verdict s e)) rest x ys (ks.0).1 (ks.1).1 in
    let same : x ∷ ys ≡ xs = cc in
    let front : option_and_then settled_type (operand (verdict s e)) ≡ settled_type x = ap (option_and_then settled_type) (ks.0).1 in
    ap (λ t. t ∷ each_of (λ e. option_and_then settled_type (operand (verdict s e))) es) front
    ∙ ap (λ ts. settled_type x ∷ ts) (all_types s es ys (ks.1).1)
    ∙ ap (map settled_type) same

several_types : (s : Scope) (es : ExpressionList) (v : AssignedValues) (o : Option (List typed.Expr)) → all_some (each_of (λ e. operand (verdict s e)) es) ≡ o → option_map separate o ≡ Some v
    → each_of (λ e. option_and_then settled_type (operand (verdict s e))) es ≡ alone_types (Some v)
several_types s es v None at is = absurd cc
several_types s es v (Some xs) at is = (let same : separate xs ≡ v = cc in all_types s es xs at ∙ ap (λ w. alone_types (Some w)) same)

pub types_alone : (s : Scope) (es : ExpressionList) (v : AssignedValues) → values_known s es ≡ Some v → value_types s es ≡ alone_types (Some v)
types_alone s no_exprs v is = several_types s no_exprs v (Some []) refl is
types_alone s (some_exprs e no_exprs) v is = ap alone_types is
types_alone s (some_exprs e (some_exprs f es)) v is = several_types s (some_exprs e (some_exprs f es)) v (all_some (each_of (λ e. operand (verdict s e)) (some_exprs e (some_exprs f es)))) refl is

-- types by values that are known and suit
pub values_fit : (s : Scope) (es : ExpressionList) (v : AssignedValues) (due : List (Option Type')) → values_known s es ≡ Some v → IsKnown (fine (suited due v)) → Fit due (value_types s es)
values_fit s es v due is k = subst (Fit due) (sym (types_alone s es v is)) (suited_fits due v k)

pub fit_typed : (ns : List Name) (ts : List (Option Type')) → Fit (map (λ n. None) ns) ts → AllTyped (paired_names ns ts)
fit_typed [] [] h = tt
fit_typed [] (t ∷ ts) h = absurd h
fit_typed (n ∷ ns) [] h = absurd h
fit_typed (n ∷ ns) (None ∷ ts) h = absurd (let no = h.0 in cc (no.1))
fit_typed (n ∷ ns) (Some t ∷ ts) h = fit_typed ns ts h.1
