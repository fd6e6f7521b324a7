-- The parts of a specification of constants, and its faults.
use Rattle.std.proofs.Common.{◌≡◌, ℕ, Bool, true, false, ◌&&◌, Option, Some, None, refl, append-nil, Result, Ok, Err, List, [], ◌∷◌, ◌++◌, sym, ap, ◌∙◌, subst}
use Rattle.std.specs.Prelude.{is_some, option_map}
use Rattle.std.specs.List.{slice_get, flat_map}
use Rattle.go_text.specs.declared.place.Place.{Place}
use Rattle.go_ast.specs.Trees as trees
use Rattle.go_ast.specs.Trees.{Name, TypeExpr}
use Rattle.go_scope.specs.Names.{Used}
use Rattle.go_expr.specs.Known.{Scope, Verdict}
use Rattle.go_expr.specs.declared.error.ExprError.{ExprError}
use Rattle.go_expr.specs.declared.error.ExprError.TheVariants.{Faulty, Memory}
use Rattle.go_expr.specs.declared.error.RuleError.{RuleError}
use Rattle.go_expr.specs.declared.error.RuleError.TheVariants as rules
use Rattle.go_expr.specs.Views.{Fails, Gives, LocatedAt}
use Rattle.go_expr.specs.Verdicts.{asked, both, broken, operand_list}
use Rattle.go_stmt.specs.Statements.{values_known}
use Rattle.go_objects.specs.Objects.{DeclaredObject}
use Rattle.go_objects.specs.Table.{scope_at}
use Rattle.go_package.specs.Faults.{Facts, Faults, name_faults, parts_faults, written_type, apart, constants_by, constant_spec_faults, var_parts_faults, variables_by, var_spec_faults}
use Rattle.go_package.specs.Views.{Finds}

pub sooner : (e : ExprError) (fs gs : Faults) → Fails e fs → Fails e (fs ++ gs)
sooner Memory fs gs h = tt
sooner (Faulty p kind) fs gs h = (h.0 ++ gs, ap (λ l. l ++ gs) h.1)

pub later : {X : Type 0} (r : Result X ExprError) (fs gs : Faults) → fs ≡ [] → Finds r gs → Finds r (fs ++ gs)
later r [] gs none h = h
later r (f ∷ fs) gs none h = cc

-- ---- a specification whose names and parts have no fault

abbrev whole_constants : Facts → ℕ → ℕ → Place → Scope → trees.ConstSpec → Faults
whole_constants t file iota p s spec = constants_by t file iota p spec (written_type s spec.type) (operand_list s spec.values)

pub checked_spec : {X : Type 0} (r : Result X ExprError) (t : Facts) (file iota : ℕ) (repeated : Bool) (ns : List Name) (of : Option TypeExpr) (es : trees.ExpressionList) (s : Scope) (n : Name) (p : Place) →
    slice_get ns 0 ≡ Some n → p ≡ n.place → s ≡ scope_at t.package t.known file (Some iota) → flat_map (name_faults t file) ns ≡ [] →
    Finds r (parts_faults t file repeated p s (record { names = ns; type = of; values = es }) ++ whole_constants t file iota p s (record { names = ns; type = of; values = es })) →
    Finds r (constant_spec_faults t file iota repeated (record { names = ns; type = of; values = es }))
checked_spec r t file iota repeated [] of es s n p first there stands names h = cc
checked_spec r t file iota repeated (m ∷ ms) of es s n p first there stands names h =
    let spec : trees.ConstSpec = record { names = m ∷ ms; type = of; values = es } in
    let same : m ≡ n = cc in
    let at : p ≡ m.place = there ∙ ap (λ (x : Name). x.place) (sym same) in
    let own = flat_map (name_faults t file) (m ∷ ms) in
    let rest = λ (q : Place) (z : Scope). parts_faults t file repeated q z spec ++ whole_constants t file iota q z spec in
    subst (λ (q : Place). Finds r (own ++ rest q (scope_at t.package t.known file (Some iota)))) at
    (subst (λ (z : Scope). Finds r (own ++ rest p z)) stands (later r own (rest p s) names h))

-- variables likewise
abbrev whole_variables : Facts → ℕ → Place → Scope → trees.VarSpec → Faults
whole_variables t file p s spec = variables_by t file p spec (written_type s spec.type) (values_known s spec.values)

pub checked_variables : {X : Type 0} (r : Result X ExprError) (t : Facts) (file : ℕ) (ns : List Name) (of : Option TypeExpr) (es : trees.ExpressionList) (s : Scope) (n : Name) (p : Place) →
    slice_get ns 0 ≡ Some n → p ≡ n.place → s ≡ scope_at t.package t.known file None → flat_map (name_faults t file) ns ≡ [] → var_parts_faults s (record { names = ns; type = of; values = es }) ≡ [] →
    Finds r (whole_variables t file p s (record { names = ns; type = of; values = es })) →
    Finds r (var_spec_faults t file (record { names = ns; type = of; values = es }))
checked_variables r t file [] of es s n p first there stands names parts h = cc
checked_variables r t file (m ∷ ms) of es s n p first there stands names parts h =
    let spec : trees.VarSpec = record { names = m ∷ ms; type = of; values = es } in
    let same : m ≡ n = cc in
    let at : p ≡ m.place = there ∙ ap (λ (x : Name). x.place) (sym same) in
    let own = flat_map (name_faults t file) (m ∷ ms) in
    let rest = λ (q : Place) (z : Scope). var_parts_faults z spec ++ whole_variables t file q z spec in
    subst (λ (q : Place). Finds r (own ++ rest q (scope_at t.package t.known file None))) at
    (subst (λ (z : Scope). Finds r (own ++ rest p z)) stands
    (later r own (rest p s) names (later r (var_parts_faults s spec) (whole_variables t file p s spec) parts h)))

-- a fault of the parts
pub parts_fail : (e : ExprError) (t : Facts) (file : ℕ) (ns : List Name) (of : Option TypeExpr) (es : trees.ExpressionList) (s : Scope) (n : Name) →
    slice_get ns 0 ≡ Some n → s ≡ scope_at t.package t.known file None → flat_map (name_faults t file) ns ≡ [] → Fails e (var_parts_faults s (record { names = ns; type = of; values = es })) →
    Fails e (var_spec_faults t file (record { names = ns; type = of; values = es }))
parts_fail e t file [] of es s n first stands names h = cc
parts_fail e t file (m ∷ ms) of es s n first stands names h =
    let spec : trees.VarSpec = record { names = m ∷ ms; type = of; values = es } in
    let own = flat_map (name_faults t file) (m ∷ ms) in
    let there = scope_at t.package t.known file None in
    subst (λ (l : Faults). Fails e (l ++ (var_parts_faults there spec ++ whole_variables t file m.place there spec))) (sym names)
    (sooner e (var_parts_faults there spec) (whole_variables t file m.place there spec) (subst (λ (z : Scope). Fails e (var_parts_faults z spec)) stands h))

-- ---- a specification as a whole, or each of its objects by itself

pub asked_whole : {X : Type 0} (r : Result X ExprError) (t : Facts) (file : ℕ) (p : Place) (known : Bool) (us : List Used) (os : List DeclaredObject) (fs : Faults) → known ≡ true → Finds r fs → Finds r (fs ++ apart t file p known us os)
asked_whole r t file p known us os fs is h = subst (λ b. Finds r (fs ++ apart t file p b us os)) (sym is) (subst (λ l. Finds r l) (sym (append-nil fs)) h)

pub asked_apart : {X A C : Type 0} (r : Result X ExprError) (t : Facts) (file : ℕ) (p : Place) (rule : A → Verdict C) (parts : Option A) (us : List Used) (os : List DeclaredObject) → is_some parts ≡ false →
    Finds r (apart t file p false us os) → Finds r (broken p (asked rule parts) ++ apart t file p (is_some parts) us os)
asked_apart r t file p rule None us os is h = h
asked_apart r t file p rule (Some x) us os is h = absurd cc

pub both_known : {A B C D : Type 0} (f : A → C) (g : B → D) (x : Option A) (y : Option B) → (is_some x && is_some y) ≡ is_some (both (option_map f x) (option_map g y))
both_known f g None y = refl
both_known f g (Some x) None = refl
both_known f g (Some x) (Some y) = refl

-- ---- what a rule says of a node, at its place

pub unbroken : {X Y : Type 0} (view : X → Y) (p : Place) (x : X) (v : Verdict Y) → Gives view (Ok x) v → broken p v ≡ []
unbroken view p x v given = ap (broken p) given

pub located : {X Y : Type 0} (view : X → Y) (p : Place) (e : RuleError) (f : ExprError) (v : Verdict Y) → Gives view (Err e) v → LocatedAt p e f → Fails f (broken p v)
located view p rules.Memory f v given at = subst (λ (x : ExprError). Fails x (broken p v)) (sym at) tt
located view p (rules.Broken kind) f v given at = subst (λ (x : ExprError). Fails x (broken p v)) (sym at) ([], ap (broken p) given)
