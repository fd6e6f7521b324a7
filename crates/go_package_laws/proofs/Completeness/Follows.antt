-- What is known of an object whose declaration has no fault, where its names are told: constants and types.
use Rattle.std.proofs.Common.{◌≡◌, ℕ, zero, suc, false, not, List, [], ◌∷◌, ◌++◌, Option, Some, None, refl, ap, ◌∙◌, subst, inl, inr}
use Rattle.std.specs.Prelude.{bytes_eq, codes, option_map, ◌||◌}
use Rattle.std.specs.List.{slice_get, list_any}
use Rattle.std.proofs.lemmas.Bool.{cases_Bool}
use Rattle.go_text.specs.declared.place.Place.{Place}
use Rattle.go_text.specs.declared.fault.FaultKind.TheVariants.{Assign, Range, Size}
use Rattle.go_ast.specs.Trees.{Name, TypeExpr, Expression, TypeSpec}
use Rattle.go_const.specs.declared.constant.Const.{Const}
use Rattle.go_types.specs.Types.{Type', named}
use Rattle.go_types.specs.Relations.{underlying, assignable}
use Rattle.go_typed.specs.Trees as typed
use Rattle.go_typed.specs.Trees.{Symbol, global}
use Rattle.go_scope.specs.Names.{in_type, in_expr}
use Rattle.go_expr.specs.Known.{Declared, value, type' as known_type, function as known_function, declared, Known, Verdict, Fine, Scope}
use Rattle.go_expr.specs.Rules.{fine, valued, assigned, lies_in, constant_due, is_small}
use Rattle.go_expr.specs.Verdicts.{asked, asked_both, broken, operand, operand_broken, verdict, faults, type_faults}
use Rattle.go_objects.specs.Objects.{Form, constant, type', typed_variable, valued_variable, result_variable, function', other, DeclaredObject, firsts, type_object}
use Rattle.go_objects.specs.Table.{in_written, used_by, scope_at, constant_verdict, named_type, variable, object_verdict, declared_in}
use Rattle.go_stmt.specs.Statements.{first_fault, least_at, written_faults}
use Rattle.go_stmt.proofs.Repeats.{none_at, no_first}
use Rattle.go_package.specs.Faults.{Facts, written_type, own_constant, object_faults}
use Rattle.go_package_laws.proofs.Completeness.Faultless.{Tells, first, second, two_none, type_known, value_known}

abbrev pub IsConstant : Option Declared → Type 0
IsConstant o = (u : Type') × (c : Const) × (o ≡ Some (value (typed.constant u c)))

abbrev pub IsVariable : Option Declared → Type 0
IsVariable o = (u : Type') × (x : Symbol) × (o ≡ Some (value (global u x)))

abbrev pub IsType : Option Declared → Type 0
IsType o = (u : Type') × (o ≡ Some (known_type u))

abbrev pub IsFunction : Option Declared → Type 0
IsFunction o = (x : Symbol) × (us rs : List Type') × (o ≡ Some (known_function x us rs))

-- what an object of a form declares
abbrev pub IsOf : Form → Option Declared → Type 0
IsOf (constant t e iota) o = IsConstant o
IsOf (type' t) o = IsType o
IsOf (typed_variable t) o = IsVariable o
IsOf (valued_variable e) o = IsVariable o
IsOf (result_variable number count e) o = IsVariable o
IsOf (function' ps ts) o = IsFunction o
IsOf (other t es) o = ⊥

abbrev pub scope_of : Facts → ℕ → Option ℕ → Scope
scope_of t file iota = scope_at t.package t.known file iota

-- of an object whose names are told something is known, unless it has a fault by itself
abbrev pub Follows : Facts → DeclaredObject → Type 0
Follows t o = ((iota : Option ℕ) → Tells (scope_of t o.file iota) (used_by o.form)) → object_faults t o ≡ [] → IsOf o.form (declared_in (fine (object_verdict t.package t.known o)))

abbrev pub AllFollow : Facts → List DeclaredObject → Type 0
AllFollow t [] = Unit {0}
AllFollow t (o ∷ os) = Follows t o × AllFollow t os

pub follow_both : (t : Facts) (xs ys : List DeclaredObject) → AllFollow t xs → AllFollow t ys → AllFollow t (xs ++ ys)
follow_both t [] ys f g = g
follow_both t (x ∷ xs) ys f g = (f.0, follow_both t xs ys f.1 g)

pub follow_at : (t : Facts) (os : List DeclaredObject) (k : ℕ) (o : DeclaredObject) → AllFollow t os → slice_get os k ≡ Some o → Follows t o
follow_at t [] k o f at = cc
follow_at t (x ∷ xs) zero o f at = (let same : x ≡ o = cc in subst (λ (y : DeclaredObject). Follows t y) same f.0)
follow_at t (x ∷ xs) (suc k) o f at = follow_at t xs k o f.1 at

pub follow_firsts : (t : Facts) (names : List (List ℕ)) (os : List DeclaredObject) → AllFollow t os → AllFollow t (firsts names os)
follow_firsts t names [] f = tt
follow_firsts t names (o ∷ os) f = elim (cases_Bool (bytes_eq o.name.text (codes "_") || list_any (bytes_eq o.name.text) names)) [
  | inl out ↦ rw out (follow_firsts t names os f.1)
  | inr new ↦ rw new (f.0, follow_firsts t (names ++ o.name.text ∷ []) os f.1)
]

-- ---- constants

plain_constant : (p : Place) (x : typed.Expr) → broken p (own_constant None x) ≡ [] → (u : Type') × (c : Const) × (x ≡ typed.constant u c)
plain_constant p (typed.constant u c) none = (u, c, refl)
plain_constant p x none = absurd cc

fitting_constant : (p : Place) (t : Type') (x : typed.Expr) → broken p (own_constant (Some t) x) ≡ [] → (u : Type') × (c : Const) × (assigned t x ≡ Fine (typed.constant u c))
fitting_constant p t (typed.constant u c) none = elim (cases_Bool (not (assignable u t))) [
  | inl unfit ↦ absurd (let r : broken p (assigned t (typed.constant u c)) ≡ (p, Assign) ∷ [] = rw unfit refl in cc)
  | inr fit ↦ elim (cases_Bool (lies_in t (typed.constant u c))) [
    | inl is ↦ (t, c, rw (fit, is) refl)
    | inr not_so ↦ absurd (let r : broken p (assigned t (typed.constant u c)) ≡ (p, Range) ∷ [] = rw (fit, not_so) refl in cc)
  ]
]
fitting_constant p t x none = absurd cc

constant_known : (s : Scope) (t : Option TypeExpr) (e : Expression) (p : Place) → Tells s (in_written t ++ in_expr false e) → written_faults s t ≡ [] → faults s e ++ operand_broken e (verdict s e) ≡ []
    → broken p (asked_both own_constant (written_type s t) (operand (verdict s e))) ≡ [] → IsConstant (declared_in (fine (constant_verdict s t e)))
constant_known s None e p tells w v own =
    let ns = two_none (faults s e) (operand_broken e (verdict s e)) v in
    let k = value_known s e tells ns.0 ns.1 in
    let plain = plain_constant p k.0 (subst (λ (o : Option typed.Expr). broken p (asked_both own_constant (Some None) o) ≡ []) k.1 own) in
    (plain.0, plain.1, ap (λ (o : Option typed.Expr). declared_in (fine (valued (asked constant_due o)))) (k.1 ∙ ap Some plain.2))
constant_known s (Some t) e p tells w v own =
    let ns = two_none (faults s e) (operand_broken e (verdict s e)) v in
    let k = value_known s e (second s (in_type t) (in_expr false e) tells) ns.0 ns.1 in
    let of = type_known s t (first s (in_type t) (in_expr false e) tells) w in
    let here = subst (λ (o : Option Type'). broken p (asked_both own_constant (option_map Some o) (operand (verdict s e))) ≡ []) of.1 own in
    let fit = fitting_constant p of.0 k.0 (subst (λ (o : Option typed.Expr). broken p (asked_both own_constant (Some (Some of.0)) o) ≡ []) k.1 here) in (
      fit.0,
      fit.1,
      ap (λ (o : Option Type'). declared_in (fine (valued (asked constant_due (fine (asked_both assigned o (operand (verdict s e)))))))) of.1
          ∙ ap (λ (o : Option typed.Expr). declared_in (fine (valued (asked constant_due (fine (asked_both assigned (Some of.0) o)))))) k.1
          ∙ ap (λ (x : Verdict typed.Expr). declared_in (fine (valued (asked constant_due (fine x))))) fit.2,
    )

-- a constant by itself has the faults of its type and of its value
pub constant_follows : (t : Facts) (file : ℕ) (p : Place) (n : Name) (of : Option TypeExpr) (e : Expression) (iota : ℕ) → Follows t (record { file = file; begins = p; name = n; form = constant of e iota })
constant_follows t file p n of e iota tells own =
    let s = scope_of t file (Some iota) in
    let value = faults s e ++ operand_broken e (verdict s e) in
    let parts = two_none (least_at p (first_fault (written_faults s of) ++ first_fault value)) (broken p (asked_both own_constant (written_type s of) (operand (verdict s e)))) own in
    let firsts = two_none (first_fault (written_faults s of)) (first_fault value) (none_at p (first_fault (written_faults s of) ++ first_fault value) parts.0) in
    constant_known s of e p (tells (Some iota)) (no_first (written_faults s of) firsts.0) (no_first value firsts.1) parts.1

-- ---- types

named_known : (path x : List ℕ) (t : Type') (p : Place) → broken p (named_type path x t) ≡ [] → (u : Type') × (named_type path x t ≡ Fine (declared (known_type u)))
named_known path x t p none = elim (cases_Bool (is_small (named path x (underlying t)))) [
  | inl is ↦ (named path x (underlying t), rw is refl)
  | inr not_so ↦ absurd (let r : broken p (named_type path x t) ≡ (p, Size) ∷ [] = rw not_so refl in cc)
]

pub type_follows : (t : Facts) (file : ℕ) (spec : TypeSpec) → type_faults (scope_of t file None) spec.type ≡ [] → broken spec.name.place (object_verdict t.package t.known (type_object file spec)) ≡ []
    → Follows t (type_object file spec)
type_follows t file spec written none tells own =
    let of = type_known (scope_of t file None) spec.type (tells None) written in
    let rule = named_type t.package.path spec.name.text in
    let one = named_known t.package.path spec.name.text of.0 spec.name.place (subst (λ (o : Option Type'). broken spec.name.place (asked rule o) ≡ []) of.1 none) in
    (one.0, ap (λ (o : Option Type'). declared_in (fine (asked rule o))) of.1 ∙ ap (λ (v : Verdict Known). declared_in (fine v)) one.1)

-- ---- variables

pub typed_follows : (t : Facts) (file : ℕ) (p : Place) (n : Name) (of : TypeExpr) → type_faults (scope_of t file None) of ≡ [] → Follows t (record { file = file; begins = p; name = n; form = typed_variable of })
typed_follows t file p n of written tells own =
    let u = type_known (scope_of t file None) of (tells None) written in
    let x : Symbol = record { path = t.package.path; name = n.text } in
    (u.0, x, ap (λ (o : Option Type'). declared_in (fine (variable x o))) u.1)
