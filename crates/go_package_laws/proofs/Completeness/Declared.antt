-- What is known of the objects of specifications that have no fault.
use Rattle.std.proofs.Common.{◌≡◌, ℕ, zero, suc, ◌+◌, ◌<◌, Bool, true, false, List, [], ◌∷◌, ◌++◌, Option, Some, None, map, length, refl, sym, ap, ◌∙◌, subst, arith, eq-eqb}
use Rattle.std.specs.Prelude.{option_map, option_and_then, unwrap_or, nat_eq}
use Rattle.std.specs.List.{slice_get, list_any}
use Rattle.go_text.specs.declared.place.Place.{Place}
use Rattle.go_ast.specs.Trees.{Name, TypeExpr, Expression, ExpressionList, no_exprs, some_exprs, ConstSpec}
use Rattle.go_types.specs.Types.{Type'}
use Rattle.go_typed.specs.Trees as typed
use Rattle.go_typed.specs.Trees.{Symbol}
use Rattle.go_scope.specs.Names.{Used, in_expr, in_exprs}
use Rattle.go_expr.specs.Known.{Known, results, Verdict, Scope, look_up_known}
use Rattle.go_expr.specs.Rules.{fine, defaulted, settled_type}
use Rattle.go_expr.specs.Verdicts as verdicts
use Rattle.go_expr.specs.Verdicts.{asked, asked_both, chained, operand, operand_list, verdict, type_verdict, broken, bare_place, operand_broken, faults, type_faults}
use Rattle.go_stmt.specs.Rules.{values_of, constants_verdict as constants_rule, variables_source}
use Rattle.go_stmt.specs.Statements.{each_of, operands_faults, values_known, values_faults, written_faults, repeated_faults}
use Rattle.go_stmt.proofs.Repeats.{repeated_none}
use Rattle.go_objects.specs.Objects.{Form, constant, valued_variable, DeclaredObject, paired, begin_of, other_object, unpaired, constants_of, typed_object, result_objects, variables_of}
use Rattle.go_objects.specs.Table.{in_written, call_result_type, variable, declared_in}
use Rattle.go_package.specs.Faults.{Facts, written_type, hides_repeated, parts_faults}
use Rattle.go_package_laws.specs.Finds.{IsKnown}
use Rattle.go_package_laws.proofs.Completeness.Faultless.{Tells, first, second, two_none, known, mapped, type_known, value_known, operands_known, settle}
use Rattle.go_package_laws.proofs.Completeness.Rules.{defaults}
use Rattle.go_package_laws.proofs.Completeness.Steps.{constants}
use Rattle.go_package_laws.proofs.Completeness.Counts.{settled_known}
use Rattle.go_package_laws.proofs.Completeness.Groups.{constant_parts}
use Rattle.go_package_laws.proofs.Completeness.Proper.{proper, scope_proper, IsProper}
use Rattle.go_package_laws.proofs.Completeness.Counted.{Counted, counted, paired_counted, never, one_value, one_call}
use Rattle.go_package_laws.proofs.Completeness.Shown.{told_shown}
use Rattle.go_package_laws.proofs.Completeness.Follows.{scope_of, Follows, AllFollow, constant_follows, typed_follows}

either : (t : Facts) (o : Option (List DeclaredObject)) (os : List DeclaredObject) → ((xs : List DeclaredObject) → o ≡ Some xs → AllFollow t xs) → (o ≡ None → AllFollow t os) → AllFollow t (unwrap_or o os)
either t None os f g = g refl
either t (Some xs) os f g = f xs refl

abbrev made : ℕ → List Name → (Expression → Form) → Name → Expression → DeclaredObject
made file all form n e = record { file = file; begins = begin_of all n; name = n; form = form e }

abbrev EachOf : (Expression → Type 0) → ExpressionList → Type 0
EachOf P no_exprs = Unit {0}
EachOf P (some_exprs e es) = P e × EachOf P es

pairs_follow : (t : Facts) (file : ℕ) (all_names : List Name) (form : Expression → Form) (P : Expression → Type 0) → ((n : Name) (e : Expression) → P e → Follows t (made file all_names form n e)) → (ns : List Name) (es : ExpressionList) → EachOf P es → (os : List DeclaredObject)
    → paired (made file all_names form) ns es ≡ Some os → AllFollow t os
pairs_follow t file all_names form P h [] no_exprs all os is = (let same : [] ≡ os = cc in subst (AllFollow t) same tt)
pairs_follow t file all_names form P h [] (some_exprs e es) all os is = absurd cc
pairs_follow t file all_names form P h (n ∷ ns) no_exprs all os is = absurd cc
pairs_follow t file all_names form P h (n ∷ ns) (some_exprs e es) all os is =
    elim (paired (made file all_names form) ns es) as (λ r. paired (made file all_names form) ns es ≡ r → option_map (λ xs. made file all_names form n e ∷ xs) r ≡ Some os → AllFollow t os) [
      | None ↦ λ at k. absurd cc
      | Some rest ↦ λ at k. (
          let same : made file all_names form n e ∷ rest ≡ os = cc in
          subst (AllFollow t) same (h n e all.0, pairs_follow t file all_names form P h ns es all.1 rest at))
    ] refl is

each_other : (t : Facts) (file : ℕ) (all : List Name) (of : Option TypeExpr) (es : ExpressionList) (ns : List Name) → (((iota : Option ℕ) → Tells (scope_of t file iota) (in_written of ++ in_exprs es)) → ⊥)
    → AllFollow t (map (other_object file all of es) ns)
each_other t file all of es [] h = tt
each_other t file all of es (n ∷ ns) h = (λ tells own. h tells, each_other t file all of es ns h)

others_follow : (t : Facts) (file : ℕ) (of : Option TypeExpr) (es : ExpressionList) (ns : List Name) → (((iota : Option ℕ) → Tells (scope_of t file iota) (in_written of ++ in_exprs es)) → ⊥) → AllFollow t (unpaired file of es ns)
others_follow t file of es ns h = each_other t file ns of es ns h

-- ---- constants

abbrev Anything : Expression → Type 0
Anything e = Unit {0}

any_each : (es : ExpressionList) → EachOf Anything es
any_each no_exprs = tt
any_each (some_exprs e es) = (tt, any_each es)

one_more : (a : Option typed.Expr) (b : Option (List typed.Expr)) (xs : List typed.Expr) → chained (option_map (λ v. v ∷ []) a) b ≡ Some xs → (ys : List typed.Expr) × (b ≡ Some ys) × (length xs ≡ suc (length ys))
one_more None b xs is = absurd cc
one_more (Some x) None xs is = absurd cc
one_more (Some x) (Some ys) xs is = (ys, refl, (let same : x ∷ ys ≡ xs = cc in sym (ap length same)))

operands_counted : (s : Scope) (es : ExpressionList) (xs : List typed.Expr) → operand_list s es ≡ Some xs → length xs ≡ length (each_of (λ e. operand (verdict s e)) es)
operands_counted s no_exprs xs is = (let same : [] ≡ xs = cc in sym (ap length same))
operands_counted s (some_exprs e es) xs is = (let m = one_more (operand (verdict s e)) (operand_list s es) xs is in m.2 ∙ ap suc (operands_counted s es m.0 m.1))

written_known : (s : Scope) (of : Option TypeExpr) → Tells s (in_written of) → written_faults s of ≡ [] → IsKnown (written_type s of)
written_known s None tells none = (None, refl)
written_known s (Some t) tells none = mapped Some (fine (type_verdict s t)) (type_known s t tells none)

unmatched : {A : Type 0} (f : Name → Expression → A) (s : Scope) (p : Place) (ns : List Name) (of : Option TypeExpr) (es : ExpressionList) → Tells s (in_written of ++ in_exprs es) → written_faults s of ≡ [] → verdicts.operands_faults s es ≡ []
    → broken p (asked_both (constants_rule ns) (written_type s of) (operand_list s es)) ≡ [] → paired f ns es ≡ None → ⊥
unmatched f s p ns of es tells w v whole none =
    let k = written_known s of (first s (in_written of) (in_exprs es) tells) w in
    let l = operands_known s es (second s (in_written of) (in_exprs es) tells) v in
    let here = subst (λ (o : Option (Option Type')). broken p (asked_both (constants_rule ns) o (operand_list s es)) ≡ []) k.1 whole in
    let there = subst (λ (o : Option (List typed.Expr)). broken p (asked_both (constants_rule ns) (Some k.0) o) ≡ []) l.1 here in
    let parts = constant_parts ns k.0 l.0 _ _ refl refl (known p (constants_rule ns k.0 l.0) (constants ns k.0 l.0) there) in
    paired_counted f (λ e. operand (verdict s e)) ns es (parts.1 ∙ operands_counted s es l.0 l.1) none

-- where all names are told none of them hides what is repeated
not_hidden : (t : Facts) (file : ℕ) (p : Place) (s : Scope) (us : List Used) → Tells s us → list_any (hides_repeated t file p s) us ≡ false
not_hidden t file p s [] tells = refl
not_hidden t file p s (u ∷ us) tells = (let one = told_shown (look_up_known u.0 s.names) tells.0 in rw one (not_hidden t file p s us tells.1))

told_parts : (t : Facts) (file : ℕ) (repeated : Bool) (p : Place) (s : Scope) (spec : ConstSpec) → Tells s (in_written spec.type ++ in_exprs spec.values) → parts_faults t file repeated p s spec ≡ []
    → written_faults s spec.type ++ operands_faults s spec.values ≡ []
told_parts t file true p s spec tells none =
    let shown = not_hidden t file p s (in_written spec.type ++ in_exprs spec.values) tells in
    repeated_none p s spec.type spec.values (subst (λ b. repeated_faults b p s spec.type spec.values ≡ []) shown none)
told_parts t file false p s spec tells none = none

pub constants_follow : (t : Facts) (file iota : ℕ) (repeated : Bool) (p : Place) (ns : List Name) (of : Option TypeExpr) (es : ExpressionList)
    → parts_faults t file repeated p (scope_of t file (Some iota)) (record { names = ns; type = of; values = es }) ≡ []
    → broken p (asked_both (constants_rule ns) (written_type (scope_of t file (Some iota)) of) (operand_list (scope_of t file (Some iota)) es)) ≡ []
    → AllFollow t (constants_of file iota (record { names = ns; type = of; values = es }))
constants_follow t file iota repeated p ns of es parts whole =
    let s = scope_of t file (Some iota) in
    let form : Expression → Form = λ e. constant of e iota in
    either t (paired (made file ns form) ns es) (unpaired file of es ns)
    (λ os is. pairs_follow t file ns form Anything (λ n e h. constant_follows t file (begin_of ns n) n of e iota) ns es (any_each es) os is)
    (λ none. others_follow t file of es ns (λ tells. (
    let told = tells (Some iota) in
    let parts_none = two_none (written_faults s of) (operands_faults s es) (told_parts t file repeated p s (record { names = ns; type = of; values = es }) told parts) in
    unmatched (made file ns form) s p ns of es told parts_none.0 parts_none.1 whole none)))

-- ---- variables

pub typeds_follow : (t : Facts) (file : ℕ) (all : List Name) (of : TypeExpr) (ns : List Name) → type_faults (scope_of t file None) of ≡ [] → AllFollow t (map (typed_object file all of) ns)
typeds_follow t file all of [] written = tt
typeds_follow t file all of (n ∷ ns) written = (typed_follows t file (begin_of all n) n of written, typeds_follow t file all of ns written)

abbrev Gives : Scope → Expression → Type 0
Gives s e = Tells s (in_expr false e) → IsKnown (operand (verdict s e))

-- its value lies in the type that the variable takes of it
valued_follows : (t : Facts) (file : ℕ) (all : List Name) (n : Name) (e : Expression) → Gives (scope_of t file None) e → Follows t (made file all valued_variable n e)
valued_follows t file all n e h tells own =
    let s = scope_of t file None in
    let p = begin_of all n in
    let k = h (tells None) in
    let x : Symbol = record { path = t.package.path; name = n.text } in
    let own_value : broken p (defaulted k.0) ≡ [] = subst (λ (o : Option typed.Expr). broken p (asked defaulted o) ≡ []) k.1 own in
    let u = settled_known k.0 (known p (defaulted k.0) (defaults k.0) own_value) in (
      u.0,
      x,
      ap (λ (o : Option typed.Expr). declared_in (fine (variable x (option_and_then settled_type o)))) k.1
          ∙ ap (λ (o : Option Type'). declared_in (fine (variable x o))) u.1,
    )

each_gives : (s : Scope) (es : ExpressionList) → operands_faults s es ≡ [] → EachOf (Gives s) es
each_gives s no_exprs none = tt
each_gives s (some_exprs e es) none =
    let ns = two_none (faults s e ++ operand_broken e (verdict s e)) (operands_faults s es) none in
    let own = two_none (faults s e) (operand_broken e (verdict s e)) ns.0 in
    (λ tells. value_known s e tells own.0 own.1, each_gives s es ns.1)

some_there : {A : Type 0} (xs : List A) (k : ℕ) → k < length xs → (x : A) × (slice_get xs k ≡ Some x)
some_there [] k lt = absurd (omega (arith, lt))
some_there (x ∷ xs) zero lt = (x, refl)
some_there (x ∷ xs) (suc k) lt = some_there xs k (omega (arith, lt))

one_result : (ts : List Type') (f : Symbol) (es : typed.Exprs) (number count : ℕ) (u : Type') → nat_eq (length ts) count ≡ true → slice_get ts number ≡ Some u → call_result_type number count (Some (results ts f es)) ≡ Some u
one_result ts f es number count u same at = rw (same, at) refl

abbrev Calls : Scope → Expression → ℕ → Type 0
Calls s e n = Tells s (in_expr false e) → (ts : List Type') × (f : Symbol) × (es : typed.Exprs) × (fine (verdict s e) ≡ Some (results ts f es)) × (n ≡ length ts)

results_follow : (t : Facts) (file : ℕ) (all : List Name) (number : ℕ) (e : Expression) (ns : List Name) → number + length ns ≡ length all → Calls (scope_of t file None) e (length all) → AllFollow t (result_objects file all number e ns)
results_follow t file all number e [] same h = tt
results_follow t file all number e (n ∷ ns) same h = (
  λ tells own. (
      let c = h (tells None) in
      let x : Symbol = record { path = t.package.path; name = n.text } in
      let u = some_there c.0 number (omega (arith, same, c.4)) in (
        u.0,
        x,
        ap (λ (o : Option Known). declared_in (fine (variable x (call_result_type number (length all) o)))) c.3
            ∙ ap (λ (o : Option Type'). declared_in (fine (variable x o))) (one_result c.0 c.1 c.2 number (length all) u.0 (eq-eqb (length c.0) (length all) (sym c.4)) u.1),
      )),
  results_follow t file all (suc number) e ns (omega (arith, same)) h,
)

joined_tells : (s : Scope) (us vs : List Used) → Tells s us → Tells s vs → Tells s (us ++ vs)
joined_tells s [] vs h k = k
joined_tells s (u ∷ us) vs h k = (h.0, joined_tells s us vs h.1 k)

single_tells : (s : Scope) (e : Expression) → Tells s (in_expr false e) → Tells s (in_exprs (some_exprs e no_exprs))
single_tells s e h = joined_tells s (in_expr false e) [] h tt

one_gives : (s : Scope) (n : Name) (e : Expression) → ((x : Expression) → IsProper (verdict s x)) → faults s e ≡ [] → (Tells s (in_exprs (some_exprs e no_exprs)) → Counted s (n ∷ []) (some_exprs e no_exprs)) → Gives s e
one_gives s n e each none h tells =
    let k = settle s false e tells none in
    let c = h (single_tells s e tells) in
    let proper = subst IsProper k.1 (each e) in
    let are = subst (λ (v : Verdict Known). fine (verdicts.asked values_of (fine v)) ≡ Some c.values) k.1 c.are in
    subst (λ (v : Verdict Known). IsKnown (operand v)) (sym k.1) (one_value n k.0 proper c.values are c.as_many c.suit)

some_calls : (s : Scope) (ns : List Name) (e : Expression) → (length ns ≡ 1 → ⊥) → faults s e ≡ [] → (Tells s (in_exprs (some_exprs e no_exprs)) → Counted s ns (some_exprs e no_exprs)) → Calls s e (length ns)
some_calls s ns e several none h tells =
    let k = settle s false e tells none in
    let c = h (single_tells s e tells) in
    let are = subst (λ (v : Verdict Known). fine (verdicts.asked values_of (fine v)) ≡ Some c.values) k.1 c.are in
    let call = one_call ns k.0 several c.values are c.as_many c.suit in
    (call.0, call.1, call.2, ap fine k.1 ∙ ap Some call.3, call.4)

pub variables_follow : (t : Facts) (file : ℕ) (p : Place) (n : Name) (ns : List Name) (of : Option TypeExpr) (es : ExpressionList) → written_faults (scope_of t file None) of ≡ [] → values_faults (scope_of t file None) es ≡ []
    → broken p (asked_both (variables_source (n ∷ ns)) (written_type (scope_of t file None) of) (values_known (scope_of t file None) es)) ≡ [] → AllFollow t (variables_of file (record { names = n ∷ ns; type = of; values = es }))
variables_follow t file p n ns (Some of) es w v whole = typeds_follow t file (n ∷ ns) of (n ∷ ns) w
variables_follow t file p n ns None no_exprs w v whole =
    let s = scope_of t file None in
    others_follow t file None no_exprs (n ∷ ns) (λ tells. (let c = counted s (n ∷ ns) no_exprs p (tells None) v whole in never (made file (n ∷ ns) valued_variable) s (n ∷ ns) no_exprs _ refl c.values c.are c.as_many refl))
variables_follow t file p n [] None (some_exprs e no_exprs) w v whole =
    let s = scope_of t file None in
    let ns = two_none (faults s e) (broken (bare_place e) (verdicts.asked values_of (fine (verdict s e)))) v in
    (valued_follows t file (n ∷ []) n e (one_gives s n e (proper s (scope_proper t.package t.known file None)) ns.0 (λ tells. counted s (n ∷ []) (some_exprs e no_exprs) p tells v whole)), tt)
variables_follow t file p n (m ∷ ms) None (some_exprs e no_exprs) w v whole =
    let s = scope_of t file None in
    let ns = two_none (faults s e) (broken (bare_place e) (verdicts.asked values_of (fine (verdict s e)))) v in
    results_follow t file (n ∷ m ∷ ms) 0 e (n ∷ m ∷ ms) (omega arith)
    (some_calls s (n ∷ m ∷ ms) e (λ h. absurd (omega (arith, h))) ns.0 (λ tells. counted s (n ∷ m ∷ ms) (some_exprs e no_exprs) p tells v whole))
variables_follow t file p n ns None (some_exprs e (some_exprs f es)) w v whole =
    let s = scope_of t file None in
    let all = some_exprs e (some_exprs f es) in
    either t (paired (made file (n ∷ ns) valued_variable) (n ∷ ns) all) (unpaired file None all (n ∷ ns))
    (λ os is. pairs_follow t file (n ∷ ns) valued_variable (Gives s) (valued_follows t file (n ∷ ns)) (n ∷ ns) all (each_gives s all v) os is)
    (λ none. others_follow t file None all (n ∷ ns) (λ tells. (
    let c = counted s (n ∷ ns) all p (tells None) v whole in
    never (made file (n ∷ ns) valued_variable) s (n ∷ ns) all _ refl c.values c.are c.as_many none)))
