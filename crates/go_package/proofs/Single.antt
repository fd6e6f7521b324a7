-- Objects by themselves: each has at most one fault.
use Rattle.std.proofs.Common.{◌≡◌, ◌≢◌, Option, Some, None, [], ◌∷◌, ◌++◌, map, refl, sym, ap, ◌∙◌}
use Rattle.std.specs.Option.{option_map}
use Rattle.go_text.specs.declared.place.Place.{Place}
use Rattle.go_text.specs.declared.fault.FaultKind.{FaultKind}
use Rattle.go_ast.specs.Trees.{TypeExpr, Expression}
use Rattle.go_types.specs.Types.{Type'}
use Rattle.go_typed.specs.Trees.{Expr as Typed}
use Rattle.go_expr.specs.Known.{Verdict, Fine, Breaks, Passed, Scope}
use Rattle.go_expr.specs.Rules.{least}
use Rattle.go_expr.specs.Verdicts.{asked, both, operand, verdict, broken, operand_broken, faults, type_faults}
use Rattle.go_expr.proofs.Fineness.{faulty_type_unknown, faulty_operand_unknown}
use Rattle.go_stmt.specs.Statements.{first_fault, written_faults}
use Rattle.go_stmt.proofs.Repeats.{kinds, told_as}
use Rattle.go_objects.specs.Objects.{Form, constant, type', typed_variable, valued_variable, result_variable, function', other, DeclaredObject}
use Rattle.go_objects.specs.Table.{scope_at}
use Rattle.go_package.specs.Faults.{Facts, Faults, written_type, own_constant, constant_faults, variable_faults, object_faults}
use Rattle.go_package.proofs.Repeated.{neither, nor}

one_broken : {A : Type 0} (p : Place) (v : Verdict A) (f : Place × FaultKind) (others : Faults) → broken p v ≡ f ∷ others → others ≡ []
one_broken p (Fine x) f others is = cc
one_broken p (Breaks kind) f others is = cc
one_broken p Passed f others is = cc

-- a constant whose type or value has a fault has none of its own
abbrev own_of : Place → Option (Option Type' × Typed) → Faults
own_of p o = broken p (asked (λ k. own_constant k.0 k.1) o)

abbrev value_faults : Scope → Expression → Faults
value_faults s e = faults s e ++ operand_broken e (verdict s e)

cut_short : (p : Place) (o : Option FaultKind) (rest : Faults) (f : Place × FaultKind) (others : Faults) → ((o ≢ None) → rest ≡ []) → told_as p o ++ rest ≡ f ∷ others → (rest ≡ f ∷ others → others ≡ []) →
    others ≡ []
cut_short p None rest f others none is one = one is
cut_short p (Some kind) rest f others none is one =
    let alone : (p, kind) ∷ [] ≡ f ∷ others = sym (ap (λ l. (p, kind) ∷ l) (none (λ h. cc))) ∙ is in
    cc (alone)

by_value : (s : Scope) (p : Place) (a : Option (Option Type')) (e : Expression) → value_faults s e ≢ [] → own_of p (both a (operand (verdict s e))) ≡ []
by_value s p a e some = ap (λ o. own_of p (both a o)) (faulty_operand_unknown s e some) ∙ ap (own_of p) (neither a)

by_either : (s : Scope) (p : Place) (t : Option TypeExpr) (e : Expression) (ws vs : Faults) → written_faults s t ≡ ws → value_faults s e ≡ vs → least (kinds (first_fault ws ++ first_fault vs)) ≢ None →
    own_of p (both (written_type s t) (operand (verdict s e))) ≡ []
by_either s p t e ws (v ∷ vs) w is some = by_value s p (written_type s t) e (λ none. (let no : [] ≡ v ∷ vs = sym none ∙ is in cc (no)))
by_either s p t e [] [] w is some = absurd (some refl)
by_either s p None e (w ∷ ws) [] is v some = cc
by_either s p (Some u) e (w ∷ ws) [] is v some =
    let faulty : type_faults s u ≢ [] = λ none. (let no : [] ≡ w ∷ ws = sym none ∙ is in cc (no)) in
    ap (λ (o : Option Type'). own_of p (both (option_map Some o) (operand (verdict s e)))) (faulty_type_unknown s u faulty) ∙ ap (own_of p) (nor (operand (verdict s e)))

one_constant : (s : Scope) (p : Place) (t : Option TypeExpr) (e : Expression) (f : Place × FaultKind) (others : Faults) → constant_faults s p t e ≡ f ∷ others → others ≡ []
one_constant s p t e f others is =
    cut_short p (least (kinds (first_fault (written_faults s t) ++ first_fault (value_faults s e)))) (own_of p (both (written_type s t) (operand (verdict s e)))) f others
    (by_either s p t e (written_faults s t) (value_faults s e) refl refl) is (one_broken p (asked (λ k. own_constant k.0 k.1) (both (written_type s t) (operand (verdict s e)))) f others)

abbrev by_form : Facts → DeclaredObject → Form → Faults
by_form t o form = elim form [
  | constant of e iota ↦ constant_faults (scope_at t.package t.known o.file (Some iota)) o.begins of e
  | valued_variable e ↦ variable_faults (scope_at t.package t.known o.file None) o.begins e
  | _ ↦ []
]

one_fault : (t : Facts) (o : DeclaredObject) (form : Form) (f : Place × FaultKind) (others : Faults) → by_form t o form ≡ f ∷ others → others ≡ []
one_fault t o (constant of e iota) f others is = one_constant (scope_at t.package t.known o.file (Some iota)) o.begins of e f others is
one_fault t o (type' u) f others is = cc
one_fault t o (typed_variable u) f others is = cc
one_fault t o (valued_variable e) f others is = one_broken o.begins _ f others is
one_fault t o (result_variable number count e) f others is = cc
one_fault t o (function' ps ts) f others is = cc
one_fault t o (other u es) f others is = cc

-- so that the first is the least
pub own_least : (t : Facts) (o : DeclaredObject) (p : Place) (kind : FaultKind) (others : Faults) → object_faults t o ≡ (p, kind) ∷ others → Some kind ≡ least (map (λ f. f.1) (object_faults t o))
own_least t o p kind others is =
    let none = one_fault t o o.form (p, kind) others is in
    sym (ap (λ (l : Faults). least (map (λ f. f.1) l)) (is ∙ ap (λ (l : Faults). (p, kind) ∷ l) none))
