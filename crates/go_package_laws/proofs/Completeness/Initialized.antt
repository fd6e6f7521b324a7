-- The initialization of each variable of a specification without fault is there.
use Rattle.std.proofs.Common.{◌≡◌, ℕ, suc, Bool, true, false, List, [], ◌∷◌, ◌++◌, Option, Some, None, map, length, append-nil, refl, sym, ap, ◌∙◌, subst, inl, inr, arith}
use Rattle.std.specs.Prelude.{option_map, nat_eq, not, ◌||◌}
use Rattle.std.specs.List.{flat_map, filter_map, cons_option, zip, list_all}
use Rattle.std.proofs.lemmas.Bool.{cases_Bool, eqb-true}
use Rattle.std.proofs.lemmas.List.{length-map}
use Rattle.go_text.specs.declared.place.Place.{Place}
use Rattle.go_text.specs.declared.fault.FaultKind.{FaultKind}
use Rattle.go_ast.specs.Trees.{Name, TypeExpr, Expression, ExpressionList, no_exprs, some_exprs, VarSpec}
use Rattle.go_types.specs.Types.{Type'}
use Rattle.go_typed.specs.Trees as typed
use Rattle.go_typed.specs.Trees.{ValueSource, pack_exprs}
use Rattle.go_expr.specs.Known.{Scope, Verdict, Fine, Breaks, Known, declared, value, package', results, printed, panicked}
use Rattle.go_expr.specs.Rules.{fine, checked, wrong, least, fine_list}
use Rattle.go_expr.specs.Verdicts.{asked, asked_both, operand, verdict, type_verdict, broken}
use Rattle.go_stmt.specs.Rules.{all_some, AssignedValues, separate, together, no_values, values_of, has_no_values, suited_one, takes, suited, variables_source}
use Rattle.go_stmt.specs.Statements.{each_of, values_known, values_faults, written_faults}
use Rattle.go_package.specs.Faults.{Facts, written_type, var_parts_faults, variables_by, name_faults, var_spec_faults}
use Rattle.go_objects.specs.Table.{scope_at}
use Rattle.go_package.specs.Typed.{own_name, each_alone, initializations_by, spec_initializations}
use Rattle.go_package_laws.specs.Finds.{IsKnown}
use Rattle.go_package_laws.specs.Whole.{valued_names}
use Rattle.go_package_laws.proofs.Completeness.Rules.{IsAsked, assignments, defaults}
use Rattle.go_package_laws.proofs.Completeness.Steps.{variables}
use Rattle.go_package_laws.proofs.Completeness.Faultless.{two_none, known, mapped, told_type}
use Rattle.go_package_laws.proofs.Completeness.Leaves.{Tells, all_values}
use Rattle.go_package_laws.proofs.Completeness.Counts.{count, suited_counted, through_known, none_wrong, right, some_counted}

abbrev pub named_in : List typed.Initialization → List (Option (List ℕ))
named_in is = flat_map (λ (i : typed.Initialization). i.variables) is

-- ---- sources

one_asked : (p : Option Type' × typed.Expr) → IsAsked (suited_one p)
one_asked (None, e) = defaults e
one_asked (Some t, e) = assignments t e

all_fine : (ps : List (Option Type' × typed.Expr)) → flat_map wrong (map suited_one ps) ≡ [] → length (filter_map fine (map suited_one ps)) ≡ length ps
all_fine [] none = refl
all_fine (p ∷ ps) none =
    let r = right (suited_one p) (one_asked p) (flat_map wrong (map suited_one ps)) none in
    ap (λ o. length (cons_option o (filter_map fine (map suited_one ps)))) (r.0).1 ∙ ap suc (all_fine ps r.1)

zipped : {A B : Type 0} (xs : List A) (ys : List B) → length xs ≡ length ys → length (zip xs ys) ≡ length ys
zipped [] [] same = refl
zipped [] (y ∷ ys) same = absurd (omega (arith, same))
zipped (x ∷ xs) [] same = absurd (omega (arith, same))
zipped (x ∷ xs) (y ∷ ys) same = ap suc (zipped xs ys (omega (arith, same)))

-- each value has its expression, or one call has them all
abbrev IsSource : AssignedValues → ValueSource → Type 0
IsSource (separate xs) source = (ys : List typed.Expr) × (source ≡ typed.each (pack_exprs ys)) × (length ys ≡ length xs)
IsSource (together ts f es) source = source ≡ typed.results ts f es
IsSource no_values source = ⊥

abbrev unless : List FaultKind → List (Verdict typed.Expr) → Verdict (List typed.Expr)
unless ks vs = elim (least ks) [ None ↦ Fine (filter_map fine vs) | Some k ↦ Breaks k ]

each_there : (vs : List (Verdict typed.Expr)) (n : ℕ) (source : ValueSource) → flat_map wrong vs ≡ [] → length (filter_map fine vs) ≡ n → fine (checked (λ es. Fine (typed.each (pack_exprs es))) (fine_list [] vs)) ≡ Some source
    → (ys : List typed.Expr) × (source ≡ typed.each (pack_exprs ys)) × (length ys ≡ n)
each_there vs n source none as_many is =
    let r : fine_list [] vs ≡ Fine (filter_map fine vs) = ap (λ (ks : List FaultKind). unless ks vs) none in
    let here : Some (typed.each (pack_exprs (filter_map fine vs))) ≡ Some source = ap (λ (v : Verdict (List typed.Expr)). fine (checked (λ es. Fine (typed.each (pack_exprs es))) v)) (sym r) ∙ is in
    (filter_map fine vs, (let same : typed.each (pack_exprs (filter_map fine vs)) ≡ source = cc (here) in sym same), as_many)

separate_source : (due : List (Option Type')) (xs : List typed.Expr) (source : ValueSource) (b : Bool) → nat_eq (length due) (length xs) ≡ b → fine (suited due (separate xs)) ≡ Some source → IsSource (separate xs) source
separate_source due xs source false at is = absurd (let r : fine (suited due (separate xs)) ≡ None = rw at refl in cc)
separate_source due xs source true at is =
    let vs = map suited_one (zip due xs) in
    let r : suited due (separate xs) ≡ checked (λ es. Fine (typed.each (pack_exprs es))) (fine_list [] vs) = rw at refl in
    let here : fine (checked (λ es. Fine (typed.each (pack_exprs es))) (fine_list [] vs)) ≡ Some source = ap fine (sym r) ∙ is in
    let known = through_known (λ es. typed.each (pack_exprs es)) (fine_list [] vs) (source, here) in
    let none = none_wrong vs _ refl known in
    each_there vs (length xs) source none (all_fine (zip due xs) none ∙ zipped due xs (eqb-true (length due) (length xs) at)) here

call_source : (due : List (Option Type')) (ts : List Type') (f : typed.Symbol) (es : typed.Exprs) (source : ValueSource) → fine (suited due (together ts f es)) ≡ Some source → IsSource (together ts f es) source
call_source due ts f es source is = elim (cases_Bool (nat_eq (length ts) 0 || not (nat_eq (length due) (length ts)))) [
  | inl wrong ↦ absurd (let r : fine (suited due (together ts f es)) ≡ None = rw wrong refl in cc)
  | inr counted ↦ elim (cases_Bool (list_all takes (zip due ts))) [
    | inl all ↦ (
        let r : fine (suited due (together ts f es)) ≡ Some (typed.results ts f es) = rw (counted, all) refl in
        let here : Some source ≡ Some (typed.results ts f es) = sym is ∙ r in
        cc (here))
    | inr some ↦ absurd (let r : fine (suited due (together ts f es)) ≡ None = rw (counted, some) refl in cc)
  ]
]

suited_source : (due : List (Option Type')) (values : AssignedValues) (source : ValueSource) → fine (suited due values) ≡ Some source → IsSource values source
suited_source due (separate xs) source is = separate_source due xs source _ refl is
suited_source due (together ts f es) source is = call_source due ts f es source is
suited_source due no_values source is = absurd cc

-- ---- how many values there are

one_separate : (o : Option Known) (xs : List typed.Expr) → fine (asked values_of o) ≡ Some (separate xs) → length xs ≡ 1
one_separate None xs is = absurd cc
one_separate (Some (declared (value x))) xs is = (let same : x ∷ [] ≡ xs = cc in sym (ap length same))
one_separate (Some (declared d)) xs is = absurd cc
one_separate (Some (package' names)) xs is = absurd cc
one_separate (Some (results ts f es)) xs is = absurd cc
one_separate (Some (printed es)) xs is = absurd cc
one_separate (Some (panicked e)) xs is = absurd cc

all_separate : (os : List (Option typed.Expr)) (o : Option (List typed.Expr)) (xs : List typed.Expr) → all_some os ≡ o → option_map separate o ≡ Some (separate xs) → length xs ≡ length os
all_separate os None xs at is = absurd cc
all_separate os (Some ys) xs at is = (let same : ys ≡ xs = cc in sym (ap length same) ∙ sym (some_counted os ys at))

separate_counted : (s : Scope) (e : Expression) (es : ExpressionList) (xs : List typed.Expr) → values_known s (some_exprs e es) ≡ Some (separate xs) → length xs ≡ length (each_of (λ e. operand (verdict s e)) (some_exprs e es))
separate_counted s e no_exprs xs is = one_separate (fine (verdict s e)) xs is
separate_counted s e (some_exprs f es) xs is = all_separate (each_of (λ e. operand (verdict s e)) (some_exprs e (some_exprs f es))) _ xs refl is

not_zero : (n : ℕ) → nat_eq (suc n) 0 ≡ false
not_zero n = elim (cases_Bool (nat_eq (suc n) 0)) [ inl is ↦ absurd (omega (arith, eqb-true (suc n) 0 is)) | inr not_so ↦ not_so ]

some_values : (s : Scope) (e : Expression) (es : ExpressionList) (values : AssignedValues) → values_known s (some_exprs e es) ≡ Some values → has_no_values values ≡ false
some_values s e es (separate []) is = absurd (omega (arith, separate_counted s e es [] is))
some_values s e es (separate (x ∷ xs)) is = not_zero (length xs)
some_values s e es (together ts f ys) is = refl
some_values s e es no_values is = refl

-- ---- specifications

known_source : (ns : List Name) (u : Option Type') (values : AssignedValues) (source : ValueSource) → has_no_values values ≡ false → fine (variables_source ns u values) ≡ Some source → IsSource values source × (length ns ≡ count values)
known_source ns None values source some is =
    let nothing : Name → Option Type' = λ n. None in
    (suited_source (map nothing ns) values source is, sym (length-map ns nothing) ∙ suited_counted (map nothing ns) values (source, is))
known_source ns (Some t) values source some is =
    let due : Name → Option Type' = λ n. Some t in
    let r : variables_source ns (Some t) values ≡ suited (map due ns) values = rw some refl in
    let here : fine (suited (map due ns) values) ≡ Some source = ap fine (sym r) ∙ is in
    (suited_source (map due ns) values source here, sym (length-map ns due) ∙ suited_counted (map due ns) values (source, here))

each_named : {B : Type 0} (g : Expression → B) (t : Facts) (called : List (List ℕ)) (file : ℕ) (ns : List Name) (vs : ExpressionList) (ys : List typed.Expr) → length ns ≡ length (each_of g vs) → length ys ≡ length ns
    → named_in (each_alone t called file ns vs (pack_exprs ys)) ≡ map own_name ns
each_named g t called file [] vs ys same as_many = refl
each_named g t called file (n ∷ ns) no_exprs ys same as_many = absurd (omega (arith, same))
each_named g t called file (n ∷ ns) (some_exprs v vs) [] same as_many = absurd (omega (arith, as_many))
each_named g t called file (n ∷ ns) (some_exprs v vs) (y ∷ ys) same as_many = ap (λ l. own_name n ∷ l) (each_named g t called file ns vs ys (omega (arith, same)) (omega (arith, as_many)))

by_source : (t : Facts) (called : List (List ℕ)) (file : ℕ) (s : Scope) (ns : List Name) (of : Option TypeExpr) (e : Expression) (es : ExpressionList) (values : AssignedValues) (source : ValueSource) → values_known s (some_exprs e es) ≡ Some values → IsSource values source → length ns ≡ count values
    → named_in (initializations_by t called file (record { names = ns; type = of; values = some_exprs e es }) (Some source)) ≡ map own_name ns
by_source t called file s ns of e es (separate xs) source are is as_many =
    let spec : VarSpec = record { names = ns; type = of; values = some_exprs e es } in
    ap (λ (x : ValueSource). named_in (initializations_by t called file spec (Some x))) is.1
    ∙ each_named (λ e. operand (verdict s e)) t called file ns (some_exprs e es) is.0 (as_many ∙ separate_counted s e es xs are) (is.2 ∙ sym as_many)
by_source t called file s ns of e es (together ts f ys) source are is as_many =
    let spec : VarSpec = record { names = ns; type = of; values = some_exprs e es } in
    ap (λ (x : ValueSource). named_in (initializations_by t called file spec (Some x))) is ∙ append-nil (map own_name ns)
by_source t called file s ns of e es no_values source are is as_many = absurd is

written_known : (s : Scope) → Tells s → (of : Option TypeExpr) → written_faults s of ≡ [] → IsKnown (written_type s of)
written_known s tells None none = (None, refl)
written_known s tells (Some t) none = mapped Some (fine (type_verdict s t)) (told_type s t tells none)

valued_spec : (t : Facts) (called : List (List ℕ)) (file : ℕ) (s : Scope) → Tells s → (p : Place) (ns : List Name) (of : Option TypeExpr) (e : Expression) (es : ExpressionList) → written_faults s of ≡ [] → values_faults s (some_exprs e es) ≡ []
    → broken p (asked_both (variables_source ns) (written_type s of) (values_known s (some_exprs e es))) ≡ []
    → named_in (initializations_by t called file (record { names = ns; type = of; values = some_exprs e es }) (fine (asked_both (variables_source ns) (written_type s of) (values_known s (some_exprs e es))))) ≡ map own_name ns
valued_spec t called file s tells p ns of e es w v none =
    let spec : VarSpec = record { names = ns; type = of; values = some_exprs e es } in
    let k = written_known s tells of w in
    let l = all_values s tells (some_exprs e es) v in
    let is : asked_both (variables_source ns) (written_type s of) (values_known s (some_exprs e es)) ≡ variables_source ns k.0 l.0 =
    ap (λ (o : Option (Option Type')). asked_both (variables_source ns) o (values_known s (some_exprs e es))) k.1 ∙ ap (λ (o : Option AssignedValues). asked_both (variables_source ns) (Some k.0) o) l.1 in
    let source = known p (variables_source ns k.0 l.0) (variables ns k.0 l.0) (subst (λ (x : Verdict ValueSource). broken p x ≡ []) is none) in
    let sourced = known_source ns k.0 l.0 source.0 (some_values s e es l.0 l.1) source.1 in
    ap (λ (x : Verdict ValueSource). named_in (initializations_by t called file spec (fine x))) is
    ∙ ap (λ (o : Option ValueSource). named_in (initializations_by t called file spec o)) source.1
    ∙ by_source t called file s ns of e es l.0 source.0 l.1 sourced.0 sourced.1

zero_spec : (t : Facts) (called : List (List ℕ)) (file : ℕ) (s : Scope) → Tells s → (p : Place) (n : Name) (ns : List Name) (of : Option TypeExpr) → written_faults s of ≡ []
    → broken p (asked_both (variables_source (n ∷ ns)) (written_type s of) (Some (separate []))) ≡ []
    → named_in (initializations_by t called file (record { names = n ∷ ns; type = of; values = no_exprs }) (fine (asked_both (variables_source (n ∷ ns)) (written_type s of) (Some (separate []))))) ≡ []
zero_spec t called file s tells p n ns None w none =
    let nothing : Name → Option Type' = λ n. None in
    let k = known p (variables_source (n ∷ ns) None (separate [])) (variables (n ∷ ns) None (separate [])) none in
    let no : length (map nothing (n ∷ ns)) ≡ 0 = suited_counted (map nothing (n ∷ ns)) (separate []) k in
    absurd (omega (arith, no))
zero_spec t called file s tells p n ns (Some of) w none =
    let spec : VarSpec = record { names = n ∷ ns; type = Some of; values = no_exprs } in
    let k = told_type s of tells w in
    ap (λ (o : Option Type'). named_in (initializations_by t called file spec (fine (asked_both (variables_source (n ∷ ns)) (option_map Some o) (Some (separate [])))))) k.1

nameless : (t : Facts) (called : List (List ℕ)) (file : ℕ) (of : Option TypeExpr) (es : ExpressionList) (o : Option ValueSource) → named_in (initializations_by t called file (record { names = []; type = of; values = es }) o) ≡ []
nameless t called file of es None = refl
nameless t called file of es (Some (typed.each ys)) = refl
nameless t called file of es (Some (typed.results ts f ys)) = refl
nameless t called file of es (Some (typed.zeros ts)) = refl

valueless : (of : Option TypeExpr) (es : ExpressionList) → valued_names (record { names = []; type = of; values = es }) ≡ []
valueless of no_exprs = refl
valueless of (some_exprs e es) = refl

pub spec_initialized : (t : Facts) (called : List (List ℕ)) (file : ℕ) → Tells (scope_at t.package t.known file None) → (ns : List Name) (of : Option TypeExpr) (es : ExpressionList) → var_spec_faults t file (record { names = ns; type = of; values = es }) ≡ []
    → named_in (spec_initializations t called file (record { names = ns; type = of; values = es })) ≡ valued_names (record { names = ns; type = of; values = es })
spec_initialized t called file tells [] of es none = nameless t called file of es _ ∙ sym (valueless of es)
spec_initialized t called file tells (n ∷ ns) of no_exprs none =
    let s = scope_at t.package t.known file None in
    let spec : VarSpec = record { names = n ∷ ns; type = of; values = no_exprs } in
    let itself = variables_by t file n.place spec (written_type s spec.type) (values_known s spec.values) in
    let own = two_none (flat_map (name_faults t file) (n ∷ ns)) (var_parts_faults s spec ++ itself) none in
    let rest = two_none (var_parts_faults s spec) itself own.1 in
    let whole = two_none (broken n.place (asked_both (variables_source (n ∷ ns)) (written_type s spec.type) (values_known s spec.values))) _ rest.1 in
    let parts = two_none (written_faults s of) (values_faults s no_exprs) rest.0 in
    zero_spec t called file s tells n.place n ns of parts.0 whole.0
spec_initialized t called file tells (n ∷ ns) of (some_exprs e es) none =
    let s = scope_at t.package t.known file None in
    let spec : VarSpec = record { names = n ∷ ns; type = of; values = some_exprs e es } in
    let itself = variables_by t file n.place spec (written_type s spec.type) (values_known s spec.values) in
    let own = two_none (flat_map (name_faults t file) (n ∷ ns)) (var_parts_faults s spec ++ itself) none in
    let rest = two_none (var_parts_faults s spec) itself own.1 in
    let whole = two_none (broken n.place (asked_both (variables_source (n ∷ ns)) (written_type s spec.type) (values_known s spec.values))) _ rest.1 in
    let parts = two_none (written_faults s of) (values_faults s (some_exprs e es)) rest.0 in
    valued_spec t called file s tells n.place (n ∷ ns) of e es parts.0 parts.1 whole.0
