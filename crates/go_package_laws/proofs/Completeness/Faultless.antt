-- What has no fault is known, where each name in it finds what is told.
use Rattle.std.proofs.Common.{◌≡◌, ℕ, suc, inl, inr, Bool, true, false, List, [], ◌∷◌, ◌++◌, Option, Some, None, map, refl, sym, subst}
use Rattle.std.specs.Prelude.{option_map}
use Rattle.std.specs.List.{Contains}
use Rattle.std.proofs.lemmas.Bool.{cases_Bool}
use Rattle.ws_reach.proofs.Reached.{contains_get, get_contains}
use Rattle.go_text.specs.declared.place.Place.{Place}
use Rattle.go_text.specs.declared.fault.FaultKind.{FaultKind}
use Rattle.go_ast.specs.Trees.{TypeExpr, named, qualified, array, slice, struct, FieldDecls, no_fields, field, Expression, name, integer, rune, string, parenthesized, composite_lit, conversion, selector, index, cut, Bound, no_bound, bound, call, type_operand, unary, binary, ExpressionList, no_exprs, some_exprs, Elements, no_elements, element, Element, expression_element, value_element}
use Rattle.go_types.specs.Types.{Type'}
use Rattle.go_typed.specs.Trees.{Expr as Typed}
use Rattle.go_scope.specs.Names.{Used, in_type, in_fields, in_expr, in_bound, in_exprs, in_elements, in_element}
use Rattle.go_expr.specs.Known.{type', declared, Known, Verdict, Fine, Breaks, Passed, Scope, look_up_known}
use Rattle.go_expr.specs.Rules.{fine, checked, valued, type_due, array_verdict, slice_verdict, declared_field, struct_of, value_due, literal, literal_of, Due, element_due, due_type, untyped_literal, selection_verdict, exported_by, index_verdict, cut_of, make_verdict, unmade, unprinted, binary_verdict, unary_verdict, converted, called}
use Rattle.go_expr.specs.Verdicts.{asked, both, asked_both, chained, qualified_known, operand, inside, subject, callee, key_text, is_make, is_name, verdict, bound_known, made_verdict, operand_list, elements, element_verdict, type_verdict, fields_known, broken, bare_place, part_broken, operand_broken, qualifier_broken, struct_place, faults, bound_faults, made_faults, call_faults, operands_faults, elements_faults, element_faults, type_faults, fields_faults}
use Rattle.go_package_laws.specs.Finds.{IsKnown, IsDetermined, Finds}
use Rattle.go_package_laws.proofs.Completeness.Rules.{IsAsked, as_value, literals, types_due, arrays, slices, structs, values_due, unpackaged_told, unprinted_asked, selectable_told, callable_told, literals_of, untyped, selections, qualifications, indexes, cuts, makes, conversions, calls, binaries, unaries}

-- ---- names that a tree uses

abbrev pub Tells : Scope → List Used → Type 0
Tells s [] = Unit {0}
Tells s (u ∷ us) = IsDetermined (look_up_known u.0 s.names) × Tells s us

pub first : (s : Scope) (us vs : List Used) → Tells s (us ++ vs) → Tells s us
first s [] vs h = tt
first s (u ∷ us) vs h = (h.0, first s us vs h.1)

pub second : (s : Scope) (us vs : List Used) → Tells s (us ++ vs) → Tells s vs
second s [] vs h = h
second s (u ∷ us) vs h = second s us vs h.1

behind : (xs : List (List ℕ)) (y x : List ℕ) → Contains xs x → Contains (y ∷ xs) x
behind xs y x c = get_contains (y ∷ xs) (suc c.0) x (contains_get xs x c)

tells : (s : Scope) (us : List Used) → Finds s (map (λ (u : Used). u.0) us) → Tells s us
tells s [] h = tt
tells s (u ∷ us) h =
    let names = map (λ (u : Used). u.0) us in
    (h u.0 (get_contains (u.0 ∷ names) 0 u.0 refl), tells s us (λ x c. h x (behind names u.0 x c)))

-- ---- parts of no faults

abbrev Faults : Type 0
Faults = List (Place × FaultKind)

pub two_none : (xs ys : Faults) → xs ++ ys ≡ [] → (xs ≡ []) × (ys ≡ [])
two_none [] ys h = (refl, h)
two_none (x ∷ xs) ys h = cc

pub three_none : (xs ys zs : Faults) → xs ++ ys ++ zs ≡ [] → (xs ≡ []) × (ys ≡ []) × (zs ≡ [])
three_none xs ys zs h =
    let outer = two_none (xs ++ ys) zs h in
    let inner = two_none xs ys outer.0 in
    (inner.0, inner.1, outer.1)

pub four_none : (ws xs ys zs : Faults) → ws ++ xs ++ ys ++ zs ≡ [] → (ws ≡ []) × (xs ≡ []) × (ys ≡ []) × (zs ≡ [])
four_none ws xs ys zs h =
    let outer = two_none (ws ++ xs ++ ys) zs h in
    let inner = three_none ws xs ys outer.0 in
    (inner.0, inner.1, inner.2, outer.1)

five_none : (vs ws xs ys zs : Faults) → vs ++ ws ++ xs ++ ys ++ zs ≡ [] → (vs ≡ []) × (ws ≡ []) × (xs ≡ []) × (ys ≡ []) × (zs ≡ [])
five_none vs ws xs ys zs h =
    let outer = two_none (vs ++ ws ++ xs ++ ys) zs h in
    let inner = four_none vs ws xs ys outer.0 in
    (inner.0, inner.1, inner.2, inner.3, outer.1)

-- ---- rules over known parts

-- known, and of a package each name that it exports
abbrev pub IsSettled : Verdict Known → Type 0
IsSettled v = (k : Known) × (v ≡ Fine k) × IsDetermined (Fine k)

pub settled : (p : Place) (v : Verdict Known) → IsDetermined v → broken p v ≡ [] → IsSettled v
settled p (Fine k) h none = (k, refl, h)
settled p (Breaks kind) h none = cc
settled p Passed h none = absurd h

pub known : {A : Type 0} (p : Place) (v : Verdict A) → IsAsked v → broken p v ≡ [] → IsKnown (fine v)
known p (Fine x) h none = (x, refl)
known p (Breaks kind) h none = cc
known p Passed h none = absurd h

pub known_of : (v : Verdict Known) → IsSettled v → IsKnown (fine v)
known_of (Fine k) h = (k, refl)
known_of (Breaks kind) h = cc
known_of Passed h = cc

pub by_one : {A B : Type 0} (rule : A → Verdict B) (o : Option A) → IsKnown o → ((x : A) → IsAsked (rule x)) → IsAsked (asked rule o)
by_one rule None k each = absurd cc
by_one rule (Some x) k each = each x

pub both_known : {A B : Type 0} (a : Option A) (b : Option B) → IsKnown a → IsKnown b → IsKnown (both a b)
both_known None b k l = cc
both_known (Some x) None k l = cc
both_known (Some x) (Some y) k l = ((x, y), refl)

by_two : {A B C : Type 0} (rule : A → B → Verdict C) (a : Option A) (b : Option B) → IsKnown a → IsKnown b → ((x : A) (y : B) → IsAsked (rule x y)) → IsAsked (asked_both rule a b)
by_two rule a b k l each = by_one (λ k. rule k.0 k.1) (both a b) (both_known a b k l) (λ k. each k.0 k.1)

pub mapped : {A B : Type 0} (f : A → B) (o : Option A) → IsKnown o → IsKnown (option_map f o)
mapped f None k = cc
mapped f (Some x) k = (f x, refl)

pub joined_known : {A : Type 0} (xs ys : Option (List A)) → IsKnown xs → IsKnown ys → IsKnown (chained xs ys)
joined_known None ys k l = cc
joined_known (Some xs) None k l = cc
joined_known (Some xs) (Some ys) k l = (xs ++ ys, refl)

call_told : (f : Option Known) (xs : Option (List Typed)) → IsKnown f → IsKnown xs → IsDetermined (asked_both called f xs)
call_told None xs k l = absurd cc
call_told (Some f) None k l = absurd cc
call_told (Some f) (Some xs) k l = calls f xs

selected_told : (path x : List ℕ) (v : Verdict Known) → IsSettled v → IsDetermined (asked (selection_verdict path x) (fine v))
selected_told path x (Fine k) h = selections path x k (subst IsDetermined (sym h.1) h.2)
selected_told path x (Breaks kind) h = absurd cc
selected_told path x Passed h = absurd cc

qualified_told : (x : List ℕ) (v : Verdict Known) → IsSettled v → IsDetermined (asked (exported_by x) (fine v))
qualified_told x (Fine k) h = qualifications x k (subst IsDetermined (sym h.1) h.2)
qualified_told x (Breaks kind) h = absurd cc
qualified_told x Passed h = absurd cc

inside_told : (v : Verdict Known) → IsSettled v → IsDetermined (inside v)
inside_told (Fine k) h = unpackaged_told k
inside_told (Breaks kind) h = absurd cc
inside_told Passed h = absurd cc

subject_told : (v : Verdict Known) → IsSettled v → IsDetermined (subject v)
subject_told (Fine k) h = selectable_told k (subst IsDetermined (sym h.1) h.2)
subject_told (Breaks kind) h = absurd cc
subject_told Passed h = absurd cc

callee_told : (v : Verdict Known) → IsSettled v → IsDetermined (callee v)
callee_told (Fine k) h = callable_told k
callee_told (Breaks kind) h = absurd cc
callee_told Passed h = absurd cc

pub operand_known : (e : Expression) (v : Verdict Known) → IsSettled v → operand_broken e v ≡ [] → IsKnown (operand v)
operand_known e v h none = known (bare_place e) (asked value_due (fine v)) (by_one value_due (fine v) (known_of v h) values_due) none

type_of : (p : Place) (v : Verdict Known) → IsSettled v → broken p (asked type_due (fine v)) ≡ [] → IsKnown (fine (asked type_due (fine v)))
type_of p v h none = known p (asked type_due (fine v)) (by_one type_due (fine v) (known_of v h) types_due) none

-- a type as what is known
as_type : (v : Verdict Type') → IsKnown (fine v) → IsSettled (checked (λ t. Fine (declared (type' t))) v)
as_type (Fine t) k = (declared (type' t), refl, tt)
as_type (Breaks kind) k = cc
as_type Passed k = cc

-- a rule over a value and its bounds
abbrev cut_between : Typed → Option Typed × Option Typed → Verdict Typed
cut_between e ends = cut_of e ends.0 ends.1

mutual
  pub settle : (s : Scope) (dotted : Bool) (e : Expression) → Tells s (in_expr dotted e) → faults s e ≡ [] → IsSettled (verdict s e)
  settle s dotted (name p x) h none = settled p (look_up_known x s.names) h.0 none
  settle s dotted (integer p text) h none = settled p (valued (literal text)) (as_value (literal text) (literals text)) none
  settle s dotted (rune p z) h none = settled p (verdict s (rune p z)) tt none
  settle s dotted (string p bytes) h none = settled p (verdict s (string p bytes)) tt none
  settle s dotted (parenthesized p e) h none =
      let ns = two_none (faults s e) (part_broken e (inside (verdict s e))) none in
      settled (bare_place e) (inside (verdict s e)) (inside_told (verdict s e) (settle s false e h ns.0)) ns.1
  settle s dotted (composite_lit p t q es) h none =
      let around = fine (type_verdict s t) in
      let ns = three_none (type_faults s t) (elements_faults s around 0 es) (broken p (verdict s (composite_lit p t q es))) none in
      let of = type_known s t (first s (in_type t) (in_elements es) h) ns.0 in
      let parts = elements_known s around 0 es (second s (in_type t) (in_elements es) h) ns.1 in
      let rule = asked_both (literal_of s.path) around (elements s around 0 es) in
      settled p (valued rule) (as_value rule (by_two (literal_of s.path) around (elements s around 0 es) of parts (literals_of s.path))) ns.2
  settle s dotted (conversion p t e) h none =
      let ns = four_none (type_faults s t) (faults s e) (operand_broken e (verdict s e)) (broken p (verdict s (conversion p t e))) none in
      let of = type_known s t (first s (in_type t) (in_expr false e) h) ns.0 in
      let from = operand_known e (verdict s e) (settle s false e (second s (in_type t) (in_expr false e) h) ns.1) ns.2 in
      let rule = asked_both converted (fine (type_verdict s t)) (operand (verdict s e)) in
      settled p (valued rule) (as_value rule (by_two converted (fine (type_verdict s t)) (operand (verdict s e)) of from conversions)) ns.3
  settle s dotted (selector p e x) h none =
      let ns = three_none (faults s e) (part_broken e (subject (verdict s e))) (broken p (verdict s (selector p e x))) none in
      let of = settled (bare_place e) (subject (verdict s e)) (subject_told (verdict s e) (settle s true e h ns.0)) ns.1 in
      settled p (verdict s (selector p e x)) (selected_told s.path x.text (subject (verdict s e)) of) ns.2
  settle s dotted (index p e i) h none =
      let ns = five_none (faults s e) (operand_broken e (verdict s e)) (faults s i) (operand_broken i (verdict s i)) (broken p (verdict s (index p e i))) none in
      let of = operand_known e (verdict s e) (settle s false e (first s (in_expr false e) (in_expr false i) h) ns.0) ns.1 in
      let at = operand_known i (verdict s i) (settle s false i (second s (in_expr false e) (in_expr false i) h) ns.2) ns.3 in
      let rule = asked_both index_verdict (operand (verdict s e)) (operand (verdict s i)) in
      settled p (valued rule) (as_value rule (by_two index_verdict (operand (verdict s e)) (operand (verdict s i)) of at indexes)) ns.4
  settle s dotted (cut p e a b) h none =
      let front = first s (in_expr false e ++ in_bound a) (in_bound b) h in
      let ns = five_none (faults s e) (operand_broken e (verdict s e)) (bound_faults s a) (bound_faults s b) (broken p (verdict s (cut p e a b))) none in
      let of = operand_known e (verdict s e) (settle s false e (first s (in_expr false e) (in_bound a) front) ns.0) ns.1 in
      let low = bound_told s a (second s (in_expr false e) (in_bound a) front) ns.2 in
      let high = bound_told s b (second s (in_expr false e ++ in_bound a) (in_bound b) h) ns.3 in
      let ends = both (bound_known s a) (bound_known s b) in
      let rule = asked_both cut_between (operand (verdict s e)) ends in
      settled p (valued rule) (as_value rule (by_two cut_between (operand (verdict s e)) ends of (both_known (bound_known s a) (bound_known s b) low high) (λ x k. cuts x k.0 k.1))) ns.4
  settle s dotted (type_operand p t) h none = as_type (type_verdict s t) (type_known s t h none)
  settle s dotted (call p f es) h none =
      let o = fine (callee (verdict s f)) in
      let ns = four_none (faults s f) (part_broken f (callee (verdict s f))) (call_faults s o es) (broken p (verdict s (call p f es))) none in
      let of = settled (bare_place f) (callee (verdict s f)) (callee_told (verdict s f) (settle s false f (first s (in_expr false f) (in_exprs es) h) ns.0)) ns.1 in
      let others = second s (in_expr false f) (in_exprs es) h in
      let told : IsDetermined (verdict s (call p f es)) = elim (cases_Bool (is_make o)) [
        | inl make ↦ rw make (as_value (made_verdict s es) (made_asked s es others (rw make at ns.2)))
        | inr other ↦ rw other (call_told o (operand_list s es) (known_of (callee (verdict s f)) of) (operands_known s es others (rw other at ns.2)))
      ] in
      settled p (verdict s (call p f es)) told ns.3
  settle s dotted (unary p op e) h none =
      let ns = three_none (faults s e) (operand_broken e (verdict s e)) (broken p (verdict s (unary p op e))) none in
      let rule = asked (unary_verdict op) (operand (verdict s e)) in
      settled p (valued rule) (as_value rule (by_one (unary_verdict op) (operand (verdict s e)) (operand_known e (verdict s e) (settle s false e h ns.0) ns.1) (unaries op))) ns.2
  settle s dotted (binary p op a b) h none =
      let ns = five_none (faults s a) (operand_broken a (verdict s a)) (faults s b) (operand_broken b (verdict s b)) (broken p (verdict s (binary p op a b))) none in
      let left = operand_known a (verdict s a) (settle s false a (first s (in_expr false a) (in_expr false b) h) ns.0) ns.1 in
      let right = operand_known b (verdict s b) (settle s false b (second s (in_expr false a) (in_expr false b) h) ns.2) ns.3 in
      let rule = asked_both (binary_verdict op) (operand (verdict s a)) (operand (verdict s b)) in
      settled p (valued rule) (as_value rule (by_two (binary_verdict op) (operand (verdict s a)) (operand (verdict s b)) left right (binaries op))) ns.4

  bound_told : (s : Scope) (b : Bound) → Tells s (in_bound b) → bound_faults s b ≡ [] → IsKnown (bound_known s b)
  bound_told s no_bound h none = (None, refl)
  bound_told s (bound e) h none =
      let ns = two_none (faults s e) (operand_broken e (verdict s e)) none in
      mapped Some (operand (verdict s e)) (operand_known e (verdict s e) (settle s false e h ns.0) ns.1)

  made_asked : (s : Scope) (es : ExpressionList) → Tells s (in_exprs es) → made_faults s es ≡ [] → IsAsked (made_verdict s es)
  made_asked s no_exprs h none = tt
  made_asked s (some_exprs e es) h none =
      let front = first s (in_expr false e) (in_exprs es) h in
      let others = second s (in_expr false e) (in_exprs es) h in
      elim (cases_Bool (is_name e)) [
        | inl is ↦ (
            let due = asked type_due (fine (verdict s e)) in
            let ns = four_none (qualifier_broken s e) (faults s e) (part_broken e due) (operands_faults s es) (rw is at none) in
            let of = type_of (bare_place e) (verdict s e) (settle s false e front ns.1) ns.2 in
            rw is (by_two make_verdict (fine due) (operand_list s es) of (operands_known s es others ns.3) makes))
        | inr other ↦ (
            let due = asked unprinted (fine (verdict s e)) in
            let ns = four_none (qualifier_broken s e) (faults s e) (part_broken e due) (operands_faults s es) (rw other at none) in
            let of = known (bare_place e) due (by_one unprinted (fine (verdict s e)) (known_of (verdict s e) (settle s false e front ns.1)) unprinted_asked) ns.2 in
            rw other (by_two unmade (fine due) (operand_list s es) of (operands_known s es others ns.3) (λ k xs. tt)))
      ]

  pub operands_known : (s : Scope) (es : ExpressionList) → Tells s (in_exprs es) → operands_faults s es ≡ [] → IsKnown (operand_list s es)
  operands_known s no_exprs h none = ([], refl)
  operands_known s (some_exprs e es) h none =
      let ns = three_none (faults s e) (operand_broken e (verdict s e)) (operands_faults s es) none in
      let front = operand_known e (verdict s e) (settle s false e (first s (in_expr false e) (in_exprs es) h) ns.0) ns.1 in
      joined_known (option_map (λ v. v ∷ []) (operand (verdict s e))) (operand_list s es) (mapped (λ v. v ∷ []) (operand (verdict s e)) front)
      (operands_known s es (second s (in_expr false e) (in_exprs es) h) ns.2)

  elements_known : (s : Scope) (of : Option Type') (n : ℕ) (es : Elements) → Tells s (in_elements es) → elements_faults s of n es ≡ [] → IsKnown (elements s of n es)
  elements_known s of n no_elements h none = ([], refl)
  elements_known s of n (element key e es) h none =
      let due = element_due of n (key_text key) in
      let ns = two_none (element_faults s due e) (elements_faults s of (suc n) es) none in
      let front = element_known s due e (first s (in_element e) (in_elements es) h) ns.0 in
      joined_known _ (elements s of (suc n) es) (mapped _ (fine (element_verdict s due e)) front) (elements_known s of (suc n) es (second s (in_element e) (in_elements es) h) ns.1)

  element_known : (s : Scope) (due : Due) (e : Element) → Tells s (in_element e) → element_faults s due e ≡ [] → IsKnown (fine (element_verdict s due e))
  element_known s due (expression_element e) h none =
      let ns = two_none (faults s e) (operand_broken e (verdict s e)) none in
      operand_known e (verdict s e) (settle s false e h ns.0) ns.1
  element_known s due (value_element p es) h none =
      let around = due_type due in
      let ns = two_none (elements_faults s around 0 es) (broken p (element_verdict s due (value_element p es))) none in
      known p (element_verdict s due (value_element p es)) (by_one (untyped_literal s.path due) (elements s around 0 es) (elements_known s around 0 es h ns.0) (untyped s.path due)) ns.1

  pub type_known : (s : Scope) (t : TypeExpr) → Tells s (in_type t) → type_faults s t ≡ [] → IsKnown (fine (type_verdict s t))
  type_known s (named p x) h none =
      let ns = two_none (broken p (look_up_known x.text s.names)) (broken p (type_verdict s (named p x))) none in
      type_of p (look_up_known x.text s.names) (settled p (look_up_known x.text s.names) h.0 ns.0) ns.1
  type_known s (qualified p m n) h none =
      let ns = three_none (broken p (look_up_known m.text s.names)) (broken p (qualified_known s m n)) (broken p (type_verdict s (qualified p m n))) none in
      let of = settled p (look_up_known m.text s.names) h.0 ns.0 in
      type_of p (qualified_known s m n) (settled p (qualified_known s m n) (qualified_told n.text (look_up_known m.text s.names) of) ns.1) ns.2
  type_known s (array p e t) h none =
      let ns = four_none (faults s e) (operand_broken e (verdict s e)) (type_faults s t) (broken p (type_verdict s (array p e t))) none in
      let size = operand_known e (verdict s e) (settle s false e (first s (in_expr false e) (in_type t) h) ns.0) ns.1 in
      let of = type_known s t (second s (in_expr false e) (in_type t) h) ns.2 in
      known p (type_verdict s (array p e t)) (by_two array_verdict (operand (verdict s e)) (fine (type_verdict s t)) size of arrays) ns.3
  type_known s (slice p t) h none =
      let ns = two_none (type_faults s t) (broken p (type_verdict s (slice p t))) none in
      known p (type_verdict s (slice p t)) (by_one slice_verdict (fine (type_verdict s t)) (type_known s t h ns.0) slices) ns.1
  type_known s (struct p fs) h none =
      let ns = two_none (fields_faults s fs) (broken (struct_place p fs) (type_verdict s (struct p fs))) none in
      known (struct_place p fs) (type_verdict s (struct p fs)) (by_one struct_of (fields_known s fs) (listed_known s fs h ns.0) structs) ns.1

  listed_known : (s : Scope) (fs : FieldDecls) → Tells s (in_fields fs) → fields_faults s fs ≡ [] → IsKnown (fields_known s fs)
  listed_known s no_fields h none = ([], refl)
  listed_known s (field names t fs) h none =
      let ns = two_none (type_faults s t) (fields_faults s fs) none in
      let of = type_known s t (first s (in_type t) (in_fields fs) h) ns.0 in
      joined_known (option_map (λ k. map (declared_field s.path k) names) (fine (type_verdict s t))) (fields_known s fs)
      (mapped (λ k. map (declared_field s.path k) names) (fine (type_verdict s t)) of) (listed_known s fs (second s (in_type t) (in_fields fs) h) ns.1)

pub value_known : (s : Scope) (e : Expression) → Tells s (in_expr false e) → faults s e ≡ [] → operand_broken e (verdict s e) ≡ [] → IsKnown (operand (verdict s e))
value_known s e h none unbroken = operand_known e (verdict s e) (settle s false e h none) unbroken

pub faultless_known : (s : Scope) (e : Expression) → Finds s (map (λ (u : Used). u.0) (in_expr false e)) → faults s e ≡ [] → IsKnown (fine (verdict s e))
faultless_known s e h none = known_of (verdict s e) (settle s false e (tells s (in_expr false e) h) none)

pub faultless_value_known : (s : Scope) (e : Expression) → Finds s (map (λ (u : Used). u.0) (in_expr false e)) → faults s e ++ operand_broken e (verdict s e) ≡ [] → IsKnown (operand (verdict s e))
faultless_value_known s e h none =
    let ns = two_none (faults s e) (operand_broken e (verdict s e)) none in
    value_known s e (tells s (in_expr false e) h) ns.0 ns.1

pub faultless_type_known : (s : Scope) (t : TypeExpr) → Finds s (map (λ (u : Used). u.0) (in_type t)) → type_faults s t ≡ [] → IsKnown (fine (type_verdict s t))
faultless_type_known s t h none = type_known s t (tells s (in_type t) h) none

-- where all names are told
pub told_settled : (s : Scope) (e : Expression) → ((x : List ℕ) → IsDetermined (look_up_known x s.names)) → faults s e ≡ [] → IsSettled (verdict s e)
told_settled s e all none = settle s false e (tells s (in_expr false e) (λ x c. all x)) none

pub told_value : (s : Scope) (e : Expression) → ((x : List ℕ) → IsDetermined (look_up_known x s.names)) → faults s e ++ operand_broken e (verdict s e) ≡ [] → IsKnown (operand (verdict s e))
told_value s e all none = faultless_value_known s e (λ x c. all x) none

pub told_type : (s : Scope) (t : TypeExpr) → ((x : List ℕ) → IsDetermined (look_up_known x s.names)) → type_faults s t ≡ [] → IsKnown (fine (type_verdict s t))
told_type s t all none = faultless_type_known s t (λ x c. all x) none
