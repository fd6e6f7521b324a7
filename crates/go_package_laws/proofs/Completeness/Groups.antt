-- Declarations in functions: constants too are known.
use Rattle.std.proofs.Common.{◌≡◌, ℕ, suc, Bool, true, false, not, ◌&&◌, List, [], ◌∷◌, ◌++◌, Option, Some, None, map, length, refl, sym, ap, subst, ◌∙◌, inl, inr, arith}
use Rattle.std.specs.Prelude.{nat_eq, option_map}
use Rattle.std.specs.List.{list_all, zip, flat_map}
use Rattle.std.proofs.lemmas.Bool.{cases_Bool, eqb-true}
use Rattle.go_text.specs.declared.place.Place.{Place}
use Rattle.go_ast.specs.Trees.{Name, TypeExpr, Expression, ExpressionList, no_exprs, some_exprs, ConstSpec, Decl, constants, variables, types}
use Rattle.go_ast.specs.Grammar.{declares_types}
use Rattle.go_types.specs.Types.{Type'}
use Rattle.go_types.specs.Relations.{assignable}
use Rattle.go_typed.specs.Trees as typed
use Rattle.go_typed.specs.Trees.{ValueSource, each, constant, define}
use Rattle.go_expr.specs.Known.{Declared, Scope, Fine, look_up_known}
use Rattle.go_expr.specs.Rules.{fine, checked, assigned, lies_in, wrong}
use Rattle.go_expr.specs.Verdicts.{asked, both, operand, verdict, type_verdict}
use Rattle.go_stmt.specs.Scopes.{StatementEnv, Context, scope_in, paired_names, declare_name, still, follow}
use Rattle.go_stmt.specs.Rules.{all_some, suited_one, is_constant, constants_source, constants_verdict}
use Rattle.go_scope.specs.Specifications.{meant, is_repeated}
use Rattle.go_stmt.specs.Statements.{each_of, operands_faults, names_at, written_at, place_of_first, declared_as, declared_constant, declare_constants, written_faults, repeated_faults, spec_at, constants_at, group_at, declaration_at}
use Rattle.go_uses.specs.Uses.{in_const}
use Rattle.go_stmt.proofs.Repeats.{repeated_none}
use Rattle.go_package_laws.specs.Finds.{IsKnown, IsDetermined}
use Rattle.go_package_laws.proofs.Completeness.Rules.{through, assignments}
use Rattle.go_package_laws.proofs.Completeness.Steps as steps
use Rattle.go_package_laws.proofs.Completeness.Forms.{Whole, Outside, all_told, declared_whole, AllTyped, Any, Sure, any, sure_given, both_sure, sure_appended, sure_node}
use Rattle.go_package_laws.proofs.Completeness.Counts.{AllSome, through_known, suited_parts, right, pair_typed, some_counted, parts_some, all_front}
use Rattle.go_package_laws.proofs.Completeness.Leaves.{all_operands, names_sure, written_sure}
use Rattle.go_package_laws.proofs.Completeness.Declares.{specs_sure}
use Rattle.go_package_laws.proofs.Completeness.Shown.{all_shown}

constants_whole : (ns : List (Name × Option Declared)) (env : StatementEnv) → AllTyped ns → Whole env → Whole (declare_constants ns env)
constants_whole [] env typed h = h
constants_whole ((n, None) ∷ ns) env typed h = absurd typed
constants_whole ((n, Some d) ∷ ns) env typed h = constants_whole ns (declare_name n.text (Some d) env) typed (declared_whole n.text d env h)

abbrev AllOf : (typed.Expr → Type 0) → List typed.Expr → Type 0
AllOf P [] = Unit {0}
AllOf P (x ∷ xs) = P x × AllOf P xs

-- ---- what the rule says of its values

pub constant_parts : (ns : List Name) (t : Option Type') (es : List typed.Expr) (a b : Bool) → list_all is_constant es ≡ a → nat_eq (length ns) (length es) ≡ b → IsKnown (fine (constants_verdict ns t es))
    → (list_all is_constant es ≡ true) × (length ns ≡ length es) × IsKnown (fine (constants_source ns t es))
constant_parts ns t es false b x y k = absurd (let r : fine (constants_verdict ns t es) ≡ None = rw x refl in cc)
constant_parts ns t es true false x y k = absurd (let r : fine (constants_verdict ns t es) ≡ None = rw (x, y) refl in cc)
constant_parts ns t es true true x y k =
    let r : constants_verdict ns t es ≡ checked (λ (source : ValueSource). Fine (define [] (each typed.no_exprs))) (constants_source ns t es) = rw (x, y) refl in
    (x, eqb-true (length ns) (length es) y, through_known (λ (source : ValueSource). define [] (each typed.no_exprs)) (constants_source ns t es) (subst (λ v. IsKnown (fine v)) r k))

abbrev Fits : Type' → typed.Expr → Type 0
Fits u x = (is_constant x ≡ true) × IsKnown (fine (assigned u x))

all_fit : (u : Type') (ns : List Name) (xs : List typed.Expr) → length ns ≡ length xs → AllOf (λ x. is_constant x ≡ true) xs → flat_map wrong (map suited_one (zip (map (λ n. Some u) ns) xs)) ≡ [] → AllOf (Fits u) xs
all_fit u ns [] same all none = tt
all_fit u [] (x ∷ xs) same all none = absurd (omega (arith, same))
all_fit u (n ∷ ns) (x ∷ xs) same all none =
    let r = right (assigned u x) (assignments u x) (flat_map wrong (map suited_one (zip (map (λ n. Some u) ns) xs))) none in
    ((all.0, r.0), all_fit u ns xs (omega (arith, same)) all.1 r.1)

all_constant : (xs : List typed.Expr) → list_all is_constant xs ≡ true → AllOf (λ x. is_constant x ≡ true) xs
all_constant [] h = tt
all_constant (x ∷ xs) h = elim (cases_Bool (is_constant x)) [
  | inl is ↦ (is, all_constant xs (let r : (is_constant x && list_all is_constant xs) ≡ list_all is_constant xs = rw is refl in sym r ∙ h))
  | inr not_so ↦ absurd (let r : (is_constant x && list_all is_constant xs) ≡ false = rw not_so refl in cc)
]

-- ---- what their names declare

plain : (x : typed.Expr) → is_constant x ≡ true → IsKnown (declared_as (Some x))
plain (constant t c) h = (_, refl)
plain x h = absurd cc

fitting : (u : Type') (x : typed.Expr) → is_constant x ≡ true → IsKnown (fine (assigned u x)) → IsKnown (declared_as (fine (assigned u x)))
fitting u (constant t c) h k = elim (cases_Bool (not (assignable t u))) [
  | inl unfit ↦ absurd (let r : fine (assigned u (constant t c)) ≡ None = rw unfit refl in cc)
  | inr fit ↦ elim (cases_Bool (lies_in u (constant t c))) [
    | inl is ↦ (let r : assigned u (constant t c) ≡ Fine (constant u c) = rw (fit, is) refl in rw r (_, refl))
    | inr not_so ↦ absurd (let r : fine (assigned u (constant t c)) ≡ None = rw (fit, not_so) refl in cc)
  ]
]
fitting u x h k = absurd cc

some_front : {A : Type 0} (o : Option A) (os : List (Option A)) → IsKnown o → AllSome os → AllSome (o ∷ os)
some_front None os k h = absurd cc
some_front (Some x) os k h = h

some_each : (s : Scope) (f : Expression → Option Declared) (P : typed.Expr → Type 0) → ((e : Expression) (x : typed.Expr) → operand (verdict s e) ≡ Some x → P x → IsKnown (f e)) → (es : ExpressionList) (xs : List typed.Expr)
    → all_some (each_of (λ e. operand (verdict s e)) es) ≡ Some xs → AllOf P xs → AllSome (each_of f es)
some_each s f P told no_exprs xs is all = tt
some_each s f P told (some_exprs e es) xs is all =
    let rest = each_of (λ e. operand (verdict s e)) es in
    let ks = parts_some (operand (verdict s e)) rest (xs, is) in
    let x = (ks.0).0 in
    let ys = (ks.1).0 in
    let r : all_some (operand (verdict s e) ∷ rest) ≡ Some (x ∷ ys) = all_front (operand (verdict s e)) rest x ys (ks.0).1 (ks.1).1 in
    let same : xs ≡ x ∷ ys = cc in
    let both = subst (AllOf P) same all in
    some_front (f e) (each_of f es) (told e x (ks.0).1 both.0) (some_each s f P told es ys (ks.1).1 both.1)

abbrev operands_of : Scope → ExpressionList → Option (List typed.Expr)
operands_of s es = all_some (each_of (λ e. operand (verdict s e)) es)

typed_as : (s : Scope) (t : Option TypeExpr) (u : Option Type') (es : ExpressionList) (xs : List typed.Expr) (ns : List Name) (env : StatementEnv) → (written_at s t env).known ≡ Some u → operands_of s es ≡ Some xs
    → IsKnown (fine (constants_verdict ns u xs)) → AllSome (each_of (declared_constant s t) es)
typed_as s None u es xs ns env w is k =
    let parts = constant_parts ns u xs (list_all is_constant xs) (nat_eq (length ns) (length xs)) refl refl k in
    some_each s (declared_constant s None) (λ x. is_constant x ≡ true) (λ e x at c. rw at (plain x c)) es xs is (all_constant xs parts.0)
typed_as s (Some t) None es xs ns env w is k = absurd (elim (fine (type_verdict s t)) as (λ o. option_map Some o ≡ Some None → ⊥) [ None ↦ λ h. cc | Some v ↦ λ h. cc ] w)
typed_as s (Some t) (Some u) es xs ns env w is k =
    let parts = constant_parts ns (Some u) xs (list_all is_constant xs) (nat_eq (length ns) (length xs)) refl refl k in
    let due = map (λ (n : Name). Some u) ns in
    let type : fine (type_verdict s t) ≡ Some u = elim (fine (type_verdict s t)) as (λ o. option_map Some o ≡ Some (Some u) → o ≡ Some u) [ None ↦ λ h. cc | Some v ↦ λ h. cc ] w in
    let fit = all_fit u ns xs parts.1 (all_constant xs parts.0) (suited_parts due xs (nat_eq (length due) (length xs)) refl parts.2) in
    some_each s (declared_constant s (Some t)) (Fits u) (λ e x at c. rw (type, at) (fitting u x c.0 c.1)) es xs is fit

each_count : {A B : Type 0} (f : Expression → A) (g : Expression → B) (es : ExpressionList) → length (each_of f es) ≡ length (each_of g es)
each_count f g no_exprs = refl
each_count f g (some_exprs e es) = ap suc (each_count f g es)

declared_constants : (s : Scope) (ns : List Name) (t : Option TypeExpr) (es : ExpressionList) (env : StatementEnv) (w : Option (Option Type')) (v : Option (List typed.Expr)) → (written_at s t env).known ≡ w → operands_of s es ≡ v
    → IsKnown (fine (asked (λ (k : List Name × (Option Type' × List typed.Expr)). checked (λ s. Fine (s ∷ [])) (constants_verdict ns (k.1).0 (k.1).1)) (both (Some ns) (both w v))))
    → AllTyped (paired_names ns (each_of (declared_constant s t) es))
declared_constants s ns t es env None v w is k = absurd cc
declared_constants s ns t es env (Some u) None w is k = absurd cc
declared_constants s ns t es env (Some u) (Some xs) w is k =
    let known = through_known (λ (x : typed.Stmt). x ∷ []) (constants_verdict ns u xs) k in
    let parts = constant_parts ns u xs (list_all is_constant xs) (nat_eq (length ns) (length xs)) refl refl known in
    let counted : length (each_of (declared_constant s t) es) ≡ length xs = each_count (declared_constant s t) (λ e. operand (verdict s e)) es ∙ some_counted (each_of (λ e. operand (verdict s e)) es) xs is in
    pair_typed ns (each_of (declared_constant s t) es) (parts.1 ∙ sym counted) (typed_as s t u es xs ns env w is known)

-- what is repeated is told, since no name in it hides it
written_anywhere : (s : Scope) (t : Option TypeExpr) (env : StatementEnv) → written_faults s t ≡ (written_at s t env).faults
written_anywhere s None env = refl
written_anywhere s (Some t) env = refl

spec_sure : (s : Scope) (p : Place) (repeated : Bool) (spec : ConstSpec) → ((x : List ℕ) → IsDetermined (look_up_known x s.names))
    → Sure Any (follow (written_at s spec.type) (still (operands_faults s spec.values) (operands_of s spec.values))) → Sure Any (spec_at s p repeated spec)
spec_sure s p true spec told h env whole none =
    let shown = all_shown s told (in_const spec) in
    let nothing_told = subst (λ b. repeated_faults b p s spec.type spec.values ≡ []) shown none in
    h env whole (ap (λ l. l ++ operands_faults s spec.values) (sym (written_anywhere s spec.type env)) ∙ repeated_none p s spec.type spec.values nothing_told)
spec_sure s p false spec told h env whole none = h env whole none

constants_sure : (c : Context) → Outside c → (p : Place) (iota : ℕ) (repeated : Bool) (spec : ConstSpec) → Sure Any (constants_at c p iota repeated spec)
constants_sure c out p iota repeated spec env whole none =
    let s = scope_in c (Some iota) env in
    let first = place_of_first p spec.names in
    let tells = all_told c (Some iota) env out whole in
    let rule = λ (k : List Name × (Option Type' × List typed.Expr)). checked (λ s. Fine (s ∷ [])) (constants_verdict spec.names (k.1).0 (k.1).1) in
    let values = still (operands_faults s spec.values) (operands_of s spec.values) in
    let behind = spec_at s first repeated spec in
    let values_sure : Sure Any values = λ e w n. (any (operands_of s spec.values) (all_operands s tells spec.values n), w) in
    let behind_sure = spec_sure s first repeated spec tells (both_sure (written_at s spec.type) values (written_sure s tells spec.type) values_sure) in
    let all = both_sure (names_at spec.names) behind (names_sure spec.names) behind_sure in
    let one = sure_node Any first rule (follow (names_at spec.names) behind) (λ k q. through _ (constants_verdict spec.names (k.1).0 (k.1).1) (λ x. tt) (steps.constants spec.names (k.1).0 (k.1).1)) all env whole none in (
      one.0,
      constants_whole (paired_names spec.names (each_of (declared_constant s spec.type) spec.values)) env
          (declared_constants s spec.names spec.type spec.values env (written_at s spec.type env).known (operands_of s spec.values) refl refl ((one.0).0, (one.0).1)) whole,
    )

group_sure : (c : Context) → Outside c → (p : Place) (iota : ℕ) (before : ConstSpec) (ss : List ConstSpec) → Sure Any (group_at c p iota before ss)
group_sure c out p iota before [] = sure_given []
group_sure c out p iota before (s ∷ ss) =
    sure_appended (constants_at c p iota (is_repeated s) (meant before s)) (group_at c p (suc iota) (meant before s) ss) (constants_sure c out p iota (is_repeated s) (meant before s)) (group_sure c out p (suc iota) (meant before s) ss)

pub declaration_sure : (c : Context) → Outside c → (d : Decl) → declares_types d ≡ false → Sure Any (declaration_at c d)
declaration_sure c out (constants p ss) l = group_sure c out p 0 (record { names = []; type = None; values = no_exprs }) ss
declaration_sure c out (variables p ss) l = specs_sure c out p ss
declaration_sure c out (types p ss) l = absurd cc
