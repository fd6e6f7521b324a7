-- What a form declares is sound, where it stands in a sound scope.
use Rattle.std.proofs.Common.{◌≡◌, ℕ, zero, suc, List, [], ◌∷◌, ◌++◌, Option, Some, None, map, length, refl, sym, ap, ◌∙◌, subst, inl, inr}
use Rattle.std.specs.Prelude.{option_map, option_and_then, nat_eq}
use Rattle.std.specs.List.{slice_get}
use Rattle.std.proofs.lemmas.Bool.{cases_Bool}
use Rattle.go_scan.specs.Words.{IsWord}
use Rattle.go_ast.specs.Trees as source
use Rattle.go_ast.specs.Trees.{TypeExpr, Parameter}
use Rattle.go_const.specs.declared.constant.Const.{Const}
use Rattle.go_types.specs.declared.types.Basic.TheVariants as basics
use Rattle.go_types.specs.declared.types.Untyped.{Untyped}
use Rattle.go_types.specs.declared.types.Untyped.TheVariants as kinds
use Rattle.go_types.specs.Types.{Type', basic, array, slice, struct, named}
use Rattle.go_types.specs.Relations.{underlying}
use Rattle.go_typed.specs.Trees.{Symbol, Expr, Exprs, constant, global, expr_type}
use Rattle.go_expr.specs.Known.{Declared, value, type', function, Known, declared, package', results, printed, panicked, Verdict, Fine, Breaks, Passed, Scope}
use Rattle.go_expr.specs.Rules.{fine, valued, constant_due, assigned, default_type, settled_type, is_small, are_distinct}
use Rattle.go_expr.specs.Verdicts.{asked, asked_both, chained, operand, verdict, type_verdict}
use Rattle.go_objects.specs.Objects as forms
use Rattle.go_objects.specs.Objects.{Form, DeclaredObject}
use Rattle.go_objects.specs.Table.{declared_value, named_type, call_result_type, variable, types_known, parameters_known, parameter_names, form_verdict, declared_in}
use Rattle.go_meaning_laws.specs.WellTyped.{Setting, IsCall}
use Rattle.go_package_laws.proofs.Soundness.{Table, IsNamed, IsSoundType, AreSoundTypes, IsTypedValue, IsSoundValue, IsSoundDeclared}
use Rattle.go_package_laws.proofs.SoundNames.{IsSoundScope}
use Rattle.go_package_laws.proofs.Texts.{HasTexts, TypeHasTexts}
use Rattle.go_package_laws.proofs.BodyTexts.{WrittenHasTexts, ParametersHaveTexts, ResultsHaveTexts}
use Rattle.go_package_laws.proofs.Types.{sound_underlying}
use Rattle.go_package_laws.proofs.Expected.{Expected}
use Rattle.go_package_laws.proofs.Settled.{settled_parts}

-- ---- parts of rules that are fine

pub fine_is : {A : Type 0} (v : Verdict A) (x : A) → fine v ≡ Some x → v ≡ Fine x
fine_is (Fine y) x h = cc
fine_is (Breaks kind) x h = absurd cc
fine_is Passed x h = absurd cc

pub asked_parts : {A B : Type 0} (rule : A → Verdict B) (o : Option A) (y : B) → asked rule o ≡ Fine y → (x : A) × (o ≡ Some x) × (rule x ≡ Fine y)
asked_parts rule None y h = absurd cc
asked_parts rule (Some x) y h = (x, refl, h)

pub both_asked : {A B C : Type 0} (rule : A → B → Verdict C) (a : Option A) (b : Option B) (y : C) → asked_both rule a b ≡ Fine y → (x : A) × (z : B) × (a ≡ Some x) × (b ≡ Some z) × (rule x z ≡ Fine y)
both_asked rule None b y h = absurd cc
both_asked rule (Some x) None y h = absurd cc
both_asked rule (Some x) (Some z) y h = (x, z, refl, refl, h)

pub known_is : (v : Verdict Known) (e : Declared) → declared_in (fine v) ≡ Some e → v ≡ Fine (declared e)
known_is (Fine (declared d)) e h = cc
known_is (Fine (package' names)) e h = absurd cc
known_is (Fine (results ts s es)) e h = absurd cc
known_is (Fine (printed es)) e h = absurd cc
known_is (Fine (panicked x)) e h = absurd cc
known_is (Breaks kind) e h = absurd cc
known_is Passed e h = absurd cc

same_declared : (a b : Declared) → Fine (declared a) ≡ Fine (declared b) → a ≡ b
same_declared a b h = cc (h)

-- ---- what each form declares

abbrev pub IsConstantOf : Declared → Type 0
IsConstantOf e = (t : Type') × (c : Const) × (e ≡ value (constant t c))

-- a variable or a function has that symbol, a type is named so
abbrev pub Shape : Symbol → Form → Declared → Type 0
Shape x (forms.constant t c iota) e = IsConstantOf e
Shape x (forms.type' t) e = (u : Type') × (e ≡ type' (named x.path x.name u))
Shape x (forms.typed_variable t) e = (u : Type') × (e ≡ value (global u x))
Shape x (forms.valued_variable v) e = (u : Type') × (e ≡ value (global u x))
Shape x (forms.result_variable number count v) e = (u : Type') × (e ≡ value (global u x))
Shape x (forms.function' ps ts) e = (us rs : List Type') × (e ≡ function x us rs)
Shape x (forms.other t es) e = ⊥

valued_is : (v : Verdict Expr) (e : Declared) → valued v ≡ Fine (declared e) → (y : Expr) × (v ≡ Fine y) × (value y ≡ e)
valued_is (Fine y) e h = (y, refl, same_declared (value y) e h)
valued_is (Breaks kind) e h = absurd cc
valued_is Passed e h = absurd cc

due_is : (x y : Expr) → constant_due x ≡ Fine y → (t : Type') × (c : Const) × (x ≡ constant t c) × (y ≡ constant t c)
due_is (constant t c) y h = (t, c, refl, cc (h))
due_is x y h = absurd cc

-- a constant's value
pub constant_parts : (s : Scope) (t : Option TypeExpr) (v : source.Expression) (iota : ℕ) (x : Symbol) (e : Declared) → form_verdict s x (forms.constant t v iota) ≡ Fine (declared e)
    → (u : Type') × (c : Const) × (declared_value s t v ≡ Some (constant u c)) × (e ≡ value (constant u c))
constant_parts s t v iota x e h =
    let one = valued_is (asked constant_due (declared_value s t v)) e h in
    let two = asked_parts constant_due (declared_value s t v) one.0 one.1 in
    let three = due_is two.0 one.0 two.2 in
    (three.0, three.1, two.1 ∙ ap Some three.2, sym one.2 ∙ ap value three.3)

pub variable_parts : (x : Symbol) (o : Option Type') (e : Declared) → variable x o ≡ Fine (declared e) → (u : Type') × (o ≡ Some u) × (e ≡ value (global u x))
variable_parts x None e h = absurd cc
variable_parts x (Some u) e h = (u, refl, sym (same_declared (value (global u x)) e h))

pub type_parts : (path name : List ℕ) (o : Option Type') (e : Declared) → asked (named_type path name) o ≡ Fine (declared e) → (u : Type') × (o ≡ Some u) × (e ≡ type' (named path name (underlying u)))
type_parts path name None e h = absurd cc
type_parts path name (Some u) e h = elim (cases_Bool (is_small (named path name (underlying u)))) [
  | inl is ↦ (u, refl, sym (same_declared (type' (named path name (underlying u))) e (rw is at h)))
  | inr not_so ↦ absurd (let no : Breaks _ ≡ Fine (declared e) = rw not_so at h in cc (no))
]

pub function_parts : (s : Scope) (x : Symbol) (ps : List Parameter) (ts : List TypeExpr) (e : Declared) → form_verdict s x (forms.function' ps ts) ≡ Fine (declared e)
    → (us rs : List Type') × (parameters_known s ps ≡ Some us) × (types_known s ts ≡ Some rs) × (e ≡ function x us rs)
function_parts s x ps ts e h = elim (cases_Bool (are_distinct (parameter_names ps))) [
  | inl is ↦ (
      let parts = both_asked (λ us rs. Fine (declared (function x us rs))) (parameters_known s ps) (types_known s ts) (declared e) (rw is at h) in
      (parts.0, parts.1, parts.2, parts.3, sym (same_declared (function x parts.0 parts.1) e parts.4)))
  | inr not_so ↦ absurd (let no : Breaks _ ≡ Fine (declared e) = rw not_so at h in cc (no))
]

pub shaped : (s : Scope) (x : Symbol) (f : Form) (e : Declared) → form_verdict s x f ≡ Fine (declared e) → Shape x f e
shaped s x (forms.constant t v iota) e h = (let parts = constant_parts s t v iota x e h in (parts.0, parts.1, parts.3))
shaped s x (forms.type' t) e h = (let parts = type_parts x.path x.name (fine (type_verdict s t)) e h in (underlying parts.0, parts.2))
shaped s x (forms.typed_variable t) e h = (let parts = variable_parts x (fine (type_verdict s t)) e h in (parts.0, parts.2))
shaped s x (forms.valued_variable v) e h = (let parts = variable_parts x (option_and_then settled_type (operand (verdict s v))) e h in (parts.0, parts.2))
shaped s x (forms.result_variable number count v) e h = (let parts = variable_parts x (call_result_type number count (fine (verdict s v))) e h in (parts.0, parts.2))
shaped s x (forms.function' ps ts) e h = (let parts = function_parts s x ps ts e h in (parts.0, parts.1, parts.4))
shaped s x (forms.other t es) e h = absurd cc

-- ---- types that values have

default_sound : (w : Table) (t : Type') → IsSoundType w t → default_type t ≡ t
default_sound w (basic basics.Bool) h = refl
default_sound w (basic basics.String) h = refl
default_sound w (basic (basics.Integer i)) h = refl
default_sound w (basic (basics.Untyped k)) h = absurd cc
default_sound w (array n t) h = refl
default_sound w (slice t) h = refl
default_sound w (struct fs) h = refl
default_sound w (named p x t) h = refl

default_kind : (w : Table) (k : Untyped) → IsSoundType w (default_type (basic (basics.Untyped k)))
default_kind w kinds.Bool = refl
default_kind w kinds.Int = refl
default_kind w kinds.Rune = refl
default_kind w kinds.String = refl

-- a variable that has a sound value has a sound type
pub default_value : (w : Table) (g : Setting) (d : List ℕ) (e : Expr) → IsSoundValue w g d e → IsSoundType w (default_type (expr_type e))
default_value w g d e (inl (k, c, is, of)) = subst (λ (x : Expr). IsSoundType w (default_type (expr_type x))) (sym is) (default_kind w k)
default_value w g d e (inr (inl h)) = subst (IsSoundType w) (sym (default_sound w (expr_type e) h.1)) h.1
default_value w g d e (inr (inr h)) = subst (λ t. IsSoundType w (default_type t)) (sym h.1) (default_kind w kinds.Bool)

type_at : (w : Table) (ts : List Type') (n : ℕ) (t : Type') → AreSoundTypes w ts → slice_get ts n ≡ Some t → IsSoundType w t
type_at w [] n t h at = absurd cc
type_at w (u ∷ us) zero t h at = (let same : u ≡ t = cc in subst (IsSoundType w) same h.0)
type_at w (u ∷ us) (suc n) t h at = type_at w us n t h.1 at

-- the type of one of the results of a call
result_is : (number count : ℕ) (k : Option Known) (t : Type') → call_result_type number count k ≡ Some t → (ts : List Type') × (s : Symbol) × (es : Exprs) × (k ≡ Some (results ts s es)) × (slice_get ts number ≡ Some t)
result_is number count (Some (results ts s es)) t h = elim (cases_Bool (nat_eq (length ts) count)) [
  | inl is ↦ (ts, s, es, refl, rw is at h)
  | inr not_so ↦ absurd (let no : None ≡ Some t = rw not_so at h in cc (no))
]
result_is number count None t h = absurd cc
result_is number count (Some (declared k)) t h = absurd cc
result_is number count (Some (package' k)) t h = absurd cc
result_is number count (Some (printed es)) t h = absurd cc
result_is number count (Some (panicked e)) t h = absurd cc

types_more : (w : Table) (ts us : List Type') → AreSoundTypes w ts → AreSoundTypes w us → AreSoundTypes w (ts ++ us)
types_more w [] us h k = k
types_more w (t ∷ ts) us h k = (h.0, types_more w ts us h.1 k)

joined_is : {A : Type 0} (a b : Option (List A)) (c : List A) → chained a b ≡ Some c → (x y : List A) × (a ≡ Some x) × (b ≡ Some y) × (c ≡ x ++ y)
joined_is None b c h = absurd cc
joined_is (Some x) None c h = absurd cc
joined_is (Some x) (Some y) c h = (x, y, refl, refl, cc)

pub mapped_is : {A B : Type 0} (f : A → B) (o : Option A) (y : B) → option_map f o ≡ Some y → (x : A) × (o ≡ Some x) × (y ≡ f x)
mapped_is f None y h = absurd cc
mapped_is f (Some x) y h = (x, refl, cc)

-- ---- what the parts of forms must be

abbrev pub FormHasTexts : Form → Type 0
FormHasTexts (forms.constant t e iota) = WrittenHasTexts t × HasTexts e
FormHasTexts (forms.type' t) = TypeHasTexts t
FormHasTexts (forms.typed_variable t) = TypeHasTexts t
FormHasTexts (forms.valued_variable e) = HasTexts e
FormHasTexts (forms.result_variable number count e) = HasTexts e
FormHasTexts (forms.function' ps ts) = ParametersHaveTexts ps × ResultsHaveTexts ts
FormHasTexts (forms.other t es) = Unit {0}

-- the name of a declared type is a word
abbrev pub IsNamedFor : List ℕ → Form → Type 0
IsNamedFor x (forms.type' t) = IsWord x
IsNamedFor x form = Unit {0}

abbrev pub IsWellNamed : DeclaredObject → Type 0
IsWellNamed o = IsNamedFor o.name.text o.form

-- what else holds of what the package declares, because the program has it
abbrev pub IsLinked : Table → Setting → Declared → Type 0
IsLinked w g (value (global t s)) = g.variables s ≡ Some t
IsLinked w g (function s ts rs) = IsCall g s ts rs
IsLinked w g (type' (named path name t)) = (w.types path name ≡ Some t) × IsNamed w path name
IsLinked w g k = Unit {0}

-- variables of the package have whole types
abbrev pub IsSoundOwn : Table → Setting → List ℕ → Declared → Type 0
IsSoundOwn w g d (value (global t s)) = IsTypedValue w g d (global t s)
IsSoundOwn w g d k = IsSoundDeclared w g d k

module _ (known : Expected) (w : Table) (g : Setting) (d : List ℕ) where
  value_sound : (s : Scope) → IsSoundScope w g d s → (t : Option TypeExpr) (v : source.Expression) → WrittenHasTexts t → HasTexts v → (x : Expr) → declared_value s t v ≡ Some x → IsSoundValue w g d x
  value_sound s h None v a b x is = known.sound_operand w g d s v h b x is
  value_sound s h (Some t) v a b x is =
      let parts = both_asked assigned (fine (type_verdict s t)) (operand (verdict s v)) x (fine_is _ x is) in
      let of = known.sound_type w g d s t h a parts.0 (fine_is (type_verdict s t) parts.0 parts.2) in
      let e = known.sound_operand w g d s v h b parts.1 parts.3 in
      let made = known.sound_assigned w g d parts.0 parts.1 of e x parts.4 in
      inr (inl (made.0, subst (IsSoundType w) (sym made.1) of, made.2))

  types_repeated : (t : Type') → IsSoundType w t → (ns : List source.Name) → AreSoundTypes w (map (λ n. t) ns)
  types_repeated t h [] = tt
  types_repeated t h (n ∷ ns) = (h, types_repeated t h ns)

  parameters_sound : (s : Scope) → IsSoundScope w g d s → (ps : List Parameter) → ParametersHaveTexts ps → (us : List Type') → parameters_known s ps ≡ Some us → AreSoundTypes w us
  parameters_sound s h [] a us is = (let same : [] ≡ us = cc in subst (AreSoundTypes w) same tt)
  parameters_sound s h (p ∷ ps) a us is =
      let parts = joined_is (option_map (λ t. map (λ n. t) p.names) (fine (type_verdict s p.type))) (parameters_known s ps) us is in
      let one = mapped_is (λ t. map (λ n. t) p.names) (fine (type_verdict s p.type)) parts.0 parts.2 in
      let of = known.sound_type w g d s p.type h a.0 one.0 (fine_is (type_verdict s p.type) one.0 one.1) in
      let first = subst (AreSoundTypes w) (sym one.2) (types_repeated one.0 of p.names) in
      subst (AreSoundTypes w) (sym parts.4) (types_more w parts.0 parts.1 first (parameters_sound s h ps a.1 parts.1 parts.3))

  results_sound : (s : Scope) → IsSoundScope w g d s → (ts : List TypeExpr) → ResultsHaveTexts ts → (us : List Type') → types_known s ts ≡ Some us → AreSoundTypes w us
  results_sound s h [] a us is = (let same : [] ≡ us = cc in subst (AreSoundTypes w) same tt)
  results_sound s h (t ∷ ts) a us is =
      let parts = joined_is (option_map (λ t. t ∷ []) (fine (type_verdict s t))) (types_known s ts) us is in
      let one = mapped_is (λ t. t ∷ []) (fine (type_verdict s t)) parts.0 parts.2 in
      let of = known.sound_type w g d s t h a.0 one.0 (fine_is (type_verdict s t) one.0 one.1) in
      let first : AreSoundTypes w parts.0 = subst (AreSoundTypes w) (sym one.2) (of, tt) in
      subst (AreSoundTypes w) (sym parts.4) (types_more w parts.0 parts.1 first (results_sound s h ts a.1 parts.1 parts.3))

  variable_sound : (x : Symbol) (u : Type') (e : Declared) → e ≡ value (global u x) → IsSoundType w u → IsLinked w g e → IsSoundOwn w g d e
  variable_sound x u e is h l =
      let there = subst (IsLinked w g) is l in
      subst (IsSoundOwn w g d) (sym is) (there, h, tt)

  pub form_sound : (s : Scope) (x : Symbol) (f : Form) → IsSoundScope w g d s → FormHasTexts f → (e : Declared) → form_verdict s x f ≡ Fine (declared e) → IsLinked w g e → IsSoundOwn w g d e
  form_sound s x (forms.constant t v iota) h a e is l =
      let parts = constant_parts s t v iota x e is in
      subst (IsSoundOwn w g d) (sym parts.3) (value_sound s h t v a.0 a.1 (constant parts.0 parts.1) parts.2)
  form_sound s x (forms.type' t) h a e is l =
      let parts = type_parts x.path x.name (fine (type_verdict s t)) e is in
      let of = known.sound_type w g d s t h a parts.0 (fine_is (type_verdict s t) parts.0 parts.1) in
      let there = subst (IsLinked w g) parts.2 l in
      subst (IsSoundOwn w g d) (sym parts.2) (there.0, sound_underlying w parts.0 of, there.1)
  form_sound s x (forms.typed_variable t) h a e is l =
      let parts = variable_parts x (fine (type_verdict s t)) e is in
      variable_sound x parts.0 e parts.2 (known.sound_type w g d s t h a parts.0 (fine_is (type_verdict s t) parts.0 parts.1)) l
  form_sound s x (forms.valued_variable v) h a e is l =
      let parts = variable_parts x (option_and_then settled_type (operand (verdict s v))) e is in
      let one = settled_parts (operand (verdict s v)) parts.0 parts.1 in
      let of = default_value w g d one.0 (known.sound_operand w g d s v h a one.0 one.1) in
      variable_sound x parts.0 e parts.2 (subst (IsSoundType w) (sym one.2) of) l
  form_sound s x (forms.result_variable number count v) h a e is l =
      let parts = variable_parts x (call_result_type number count (fine (verdict s v))) e is in
      let one = result_is number count (fine (verdict s v)) parts.0 parts.1 in
      let call = known.sound_known w g d s v h a (results one.0 one.1 one.2) (fine_is (verdict s v) _ one.3) in
      variable_sound x parts.0 e parts.2 (type_at w one.0 number parts.0 call.2 one.4) l
  form_sound s x (forms.function' ps ts) h a e is l =
      let parts = function_parts s x ps ts e is in
      let there = subst (IsLinked w g) parts.4 l in
      subst (IsSoundOwn w g d) (sym parts.4) (there, parameters_sound s h ps a.0 parts.0 parts.2, results_sound s h ts a.1 parts.1 parts.3)
  form_sound s x (forms.other t es) h a e is l = absurd cc

  pub own_declared : (e : Declared) → IsSoundOwn w g d e → IsSoundDeclared w g d e
  own_declared (value (global t s)) h = inr (inl h)
  own_declared (value e) h = h
  own_declared k h = h
