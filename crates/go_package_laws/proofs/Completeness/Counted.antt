-- Variables of a package that get values: as many as there are.
use Rattle.std.proofs.Common.{◌≡◌, suc, false, List, [], ◌∷◌, ◌++◌, Option, Some, None, map, length, refl, sym, ap, ◌∙◌, subst, arith}
use Rattle.std.specs.Prelude.{option_map}
use Rattle.std.proofs.lemmas.List.{length-map}
use Rattle.go_text.specs.declared.place.Place.{Place}
use Rattle.go_ast.specs.Trees.{Name, Expression, ExpressionList, no_exprs, some_exprs}
use Rattle.go_types.specs.Types.{Type'}
use Rattle.go_typed.specs.Trees as typed
use Rattle.go_scope.specs.Names.{in_expr, in_exprs}
use Rattle.go_expr.specs.Known.{value, Known, declared, package', results, printed, panicked, Fine, Scope}
use Rattle.go_expr.specs.Rules.{fine}
use Rattle.go_expr.specs.Verdicts.{asked, asked_both, operand, verdict, broken, bare_place, operand_broken, faults}
use Rattle.go_stmt.specs.Rules.{all_some, AssignedValues, separate, together, no_values, values_of, suited, variables_source}
use Rattle.go_stmt.specs.Statements.{each_of, operands_faults, values_known, values_faults}
use Rattle.go_objects.specs.Objects.{paired}
use Rattle.go_package_laws.specs.Finds.{IsKnown}
use Rattle.go_package_laws.proofs.Completeness.Faultless.{Tells, first, second, two_none, known, known_of, by_one, mapped, settle, value_known}
use Rattle.go_package_laws.proofs.Completeness.Steps.{several, variables}
use Rattle.go_package_laws.proofs.Completeness.Counts.{count, suited_counted, some_counted}
use Rattle.go_package_laws.proofs.Completeness.Leaves.{all_more}
use Rattle.go_package_laws.proofs.Completeness.Proper.{IsProper}

-- ---- values

told_operands : (s : Scope) (es : ExpressionList) → Tells s (in_exprs es) → operands_faults s es ≡ [] → IsKnown (all_some (each_of (λ e. operand (verdict s e)) es))
told_operands s no_exprs tells none = ([], refl)
told_operands s (some_exprs e es) tells none =
    let ns = two_none (faults s e ++ operand_broken e (verdict s e)) (operands_faults s es) none in
    let own = two_none (faults s e) (operand_broken e (verdict s e)) ns.0 in
    all_more (operand (verdict s e)) (each_of (λ e. operand (verdict s e)) es) (value_known s e (first s (in_expr false e) (in_exprs es) tells) own.0 own.1)
    (told_operands s es (second s (in_expr false e) (in_exprs es) tells) ns.1)

pub told_values : (s : Scope) (es : ExpressionList) → Tells s (in_exprs es) → values_faults s es ≡ [] → IsKnown (values_known s es)
told_values s no_exprs tells none = (separate [], refl)
told_values s (some_exprs e no_exprs) tells none =
    let rule = asked values_of (fine (verdict s e)) in
    let ns = two_none (faults s e) (broken (bare_place e) rule) none in
    known (bare_place e) rule (by_one values_of (fine (verdict s e)) (known_of (verdict s e) (settle s false e (first s (in_expr false e) [] tells) ns.0)) several) ns.1
told_values s (some_exprs e (some_exprs f es)) tells none =
    mapped separate (all_some (each_of (λ e. operand (verdict s e)) (some_exprs e (some_exprs f es)))) (told_operands s (some_exprs e (some_exprs f es)) tells none)

-- variables whose types aren't written have as many values as there are
pub record Counted (s : Scope) (ns : List Name) (es : ExpressionList) : Type 0 where
  pub values : AssignedValues
  pub are : values_known s es ≡ Some values
  pub as_many : length ns ≡ count values
  pub suit : IsKnown (fine (suited (map (λ n. None) ns) values))

pub counted : (s : Scope) (ns : List Name) (es : ExpressionList) (p : Place) → Tells s (in_exprs es) → values_faults s es ≡ [] → broken p (asked_both (variables_source ns) (Some None) (values_known s es)) ≡ [] → Counted s ns es
counted s ns es p tells none whole =
    let nothing : Name → Option Type' = λ n. None in
    let k = told_values s es tells none in
    let here = subst (λ (o : Option AssignedValues). broken p (asked_both (variables_source ns) (Some None) o) ≡ []) k.1 whole in
    let suit : IsKnown (fine (suited (map nothing ns) k.0)) = known p (variables_source ns None k.0) (variables ns None k.0) here in
    record { values = k.0; are = k.1; as_many = sym (length-map ns nothing) ∙ suited_counted (map nothing ns) k.0 suit; suit = suit }

-- ---- names and values in pairs

pub paired_counted : {A B : Type 0} (f : Name → Expression → A) (g : Expression → B) (ns : List Name) (es : ExpressionList) → length ns ≡ length (each_of g es) → paired f ns es ≡ None → ⊥
paired_counted f g [] no_exprs same none = cc
paired_counted f g [] (some_exprs e es) same none = absurd (omega (arith, same))
paired_counted f g (n ∷ ns) no_exprs same none = absurd (omega (arith, same))
paired_counted {A} f g (n ∷ ns) (some_exprs e es) same none = elim (paired f ns es) as (λ o. paired f ns es ≡ o → option_map (λ xs. f n e ∷ xs) o ≡ None → ⊥) [
  | None ↦ λ at h. paired_counted f g ns es (omega (arith, same)) at
  | Some xs ↦ λ at h. cc
] refl none

many_counted : (s : Scope) (es : ExpressionList) (values : AssignedValues) (o : Option (List typed.Expr)) → all_some (each_of (λ e. operand (verdict s e)) es) ≡ o → option_map separate o ≡ Some values
    → count values ≡ length (each_of (λ e. operand (verdict s e)) es)
many_counted s es values None at is = absurd cc
many_counted s es values (Some xs) at is = (let same : separate xs ≡ values = cc in sym (ap count same) ∙ sym (some_counted (each_of (λ e. operand (verdict s e)) es) xs at))

-- where names and values aren't as many, and there is no single value, there is a fault
pub never : {A : Type 0} (f : Name → Expression → A) (s : Scope) (ns : List Name) (es : ExpressionList) (o : Option (List typed.Expr)) → all_some (each_of (λ e. operand (verdict s e)) es) ≡ o → (values : AssignedValues) → option_map separate o ≡ Some values
    → length ns ≡ count values → paired f ns es ≡ None → ⊥
never f s ns es o at values is as_many none = paired_counted f (λ e. operand (verdict s e)) ns es (as_many ∙ many_counted s es values o at is) none

-- ---- a single value

absent : {A : Type 0} (x : A) → None ≡ Some x → ⊥
absent x h = cc

-- of one variable it is a value
pub one_value : (n : Name) (k : Known) → IsProper (Fine k) → (values : AssignedValues) → fine (values_of k) ≡ Some values → suc 0 ≡ count values → IsKnown (fine (suited (None ∷ []) values)) → IsKnown (operand (Fine k))
one_value n (declared (value x)) proper values is as_many suit = (x, refl)
one_value n (declared d) proper values is as_many suit = absurd cc
one_value n (package' names) proper values is as_many suit = absurd cc
one_value n (results [] f es) proper values is as_many suit = absurd (let same : together [] f es ≡ values = cc in let no : suc 0 ≡ 0 = as_many ∙ sym (ap count same) in omega (arith, no))
one_value n (results (t ∷ []) f es) proper values is as_many suit = absurd proper
one_value n (results (t ∷ u ∷ ts) f es) proper values is as_many suit =
    absurd (let same : together (t ∷ u ∷ ts) f es ≡ values = cc in let no : suc 0 ≡ suc (suc (length ts)) = as_many ∙ sym (ap count same) in omega (arith, no))
one_value n (printed es) proper values is as_many suit = absurd cc
one_value n (panicked e) proper values is as_many suit =
    absurd (let same : no_values ≡ values = cc in let no : suc 0 ≡ 0 = as_many ∙ sym (ap count same) in omega (arith, no))

-- of several it is the results of a call
pub one_call : (ns : List Name) (k : Known) → (length ns ≡ 1 → ⊥) → (values : AssignedValues) → fine (values_of k) ≡ Some values → length ns ≡ count values → IsKnown (fine (suited (map (λ n. None) ns) values))
    → (ts : List Type') × (f : typed.Symbol) × (es : typed.Exprs) × (k ≡ results ts f es) × (length ns ≡ length ts)
one_call ns (declared (value x)) several values is as_many suit = absurd (let same : separate (x ∷ []) ≡ values = cc in several (as_many ∙ sym (ap count same)))
one_call ns (declared d) several values is as_many suit = absurd cc
one_call ns (package' names) several values is as_many suit = absurd cc
one_call ns (results ts f es) several values is as_many suit = (ts, f, es, refl, (let same : together ts f es ≡ values = cc in as_many ∙ sym (ap count same)))
one_call ns (printed es) several values is as_many suit = absurd cc
one_call ns (panicked e) several values is as_many suit =
    absurd (let same : no_values ≡ values = cc in let k = subst (λ v. IsKnown (fine (suited (map (λ n. None) ns) v))) (sym same) suit in cc (k.1))
