-- Sound values, as values of a type that is due.
use Rattle.std.proofs.Common.{◌≡◌, ℕ, Bool, true, false, List, Option, Some, None, refl, ap, sym, ◌∙◌, subst, true≢false, ◌⊎◌, inl, inr}
use Rattle.std.specs.Prelude.{if◌then◌else◌}
use Rattle.go_const.specs.declared.constant.Const.{Const}
use Rattle.go_types.specs.declared.types.Basic.TheVariants as basics
use Rattle.go_types.specs.declared.types.Untyped.{Untyped}
use Rattle.go_types.specs.declared.types.Untyped.TheVariants as kinds
use Rattle.go_types.specs.Types.{Type', basic, array, slice, struct, named}
use Rattle.go_types.specs.Relations.{underlying, identical, assignable}
use Rattle.go_typed.specs.Trees as typed
use Rattle.go_typed.specs.Trees.{Expr, constant, expr_type}
use Rattle.go_meaning_laws.specs.WellTyped.{Setting, is_bool_type, Converts, IsExpr}
use Rattle.go_expr.specs.Known.{Verdict, Fine, Breaks, Passed}
use Rattle.go_expr.specs.Rules.{constant_in, int_kind, in_kind, lies_in, as_type, assigned, default_type, defaulted}
use Rattle.go_package_laws.proofs.Soundness.{Table, HasSoundWay, IsSoundType, is_of_kind, IsUntypedConstant, IsSoundValue}
use Rattle.go_package_laws.proofs.Types.{identical_same, untyped_bool, not_identical_to, assignable_suits, untyped_fits, fits_truth}
use Rattle.go_package_laws.proofs.Constants.{IsConstantOf, is_constant_of, same_constant, fit_constant, typed_constant, constant_typed}

-- what a rule that is fine gives
abbrev pub Gives : {A : Type 0} → (A → Type 0) → Verdict A → Type 0
Gives P (Fine x) = P x
Gives P (Breaks kind) = Unit {0}
Gives P Passed = Unit {0}

-- the type of a sound value
abbrev pub IsOperandType : Table → Type' → Type 0
IsOperandType w t = IsSoundType w t ⊎ ((k : Untyped) × (t ≡ basic (basics.Untyped k)))

pub some_same : {A : Type 0} (a b : A) → Some a ≡ Some b → a ≡ b
some_same a b h = cc

pub some_none : {A : Type 0} (a : A) → Some a ≡ None → ⊥
some_none a h = cc

pub none_some : {A : Type 0} (a : A) → None ≡ Some a → ⊥
none_some a h = cc

module _ (w : Table) (g : Setting) (d : List ℕ) where
  untyped_parts : (t : Type') (c : Const) → IsUntypedConstant (constant t c) → IsOperandType w t × IsConstantOf t c
  untyped_parts t c h =
      let kind : t ≡ basic (basics.Untyped h.0) = ap expr_type h.2 in
      let same : c ≡ h.1 = some_same c h.1 (ap constant_in h.2) in
      (inr (h.0, kind), (basics.Untyped h.0, ap underlying kind, subst (λ b. is_of_kind h.0 b ≡ true) (sym same) h.3))

  -- a constant that is sound is one of its type
  pub value_constant : (t : Type') (c : Const) → IsSoundValue w g d (constant t c) → IsOperandType w t × IsConstantOf t c
  value_constant t c (inl h) = untyped_parts t c h
  value_constant t c (inr (inl h)) = (inl h.1, constant_typed w t c h.1 h.0)
  value_constant t c (inr (inr h)) = absurd (true≢false (sym h.2))

  pub kind_of : (t : Type') (c : Const) (k : Untyped) → t ≡ basic (basics.Untyped k) → IsConstantOf t c → is_of_kind k c ≡ true
  kind_of t c k at h = (
      let same : basic (basics.Untyped k) ≡ basic h.0 = ap underlying (sym at) ∙ h.1 in
      let one : h.0 ≡ basics.Untyped k = cc in
      subst (λ b. is_constant_of b c ≡ true) one h.2
      )

  -- and the other way
  pub constant_value : (t : Type') (c : Const) → IsOperandType w t → IsConstantOf t c → IsSoundValue w g d (constant t c)
  constant_value t c (inl h) k = inr (inl (typed_constant w t c h k, h, tt))
  constant_value t c (inr h) k = inl (h.0, c, ap (λ u. constant u c) h.1, kind_of t c h.0 h.1 k)

  -- ---- as a value of a sound type

  abbrev pub GoodAs : Type' → Expr → Type 0
  GoodAs t x = IsExpr g d x × (expr_type x ≡ t) × HasSoundWay w x

  abbrev as_of : Type' → Expr → Option Const → Expr
  as_of t e o = elim o [ Some c ↦ constant t c | None ↦ if identical (expr_type e) t then e else typed.conversion t e ]

  abbrev lies_of : Type' → Option Const → Bool
  lies_of t o = elim o [ None ↦ true | Some c ↦ in_kind (int_kind t) c ]

  -- a constant of a type becomes one of another
  fit_as : (v t : Type') (c : Const) → IsSoundType w t → IsOperandType w v → IsConstantOf v c → assignable v t ≡ true → in_kind (int_kind t) c ≡ true → IsConstantOf t c
  fit_as v t c h (inl k) l f i = same_constant v t c (assignable_suits w v t k h f) l
  fit_as v t c h (inr k) l f i =
      fit_constant k.0 t c (kind_of v c k.0 k.1 l) (untyped_fits w k.0 t h (subst (λ u. assignable u t ≡ true) k.1 f)) i

  -- a value that isn't constant, whose type is one or converts to it
  unless_identical : (t : Type') (e : Expr) → IsExpr g d e → Converts (underlying (expr_type e)) (underlying t) → (identical (expr_type e) t ≡ true → (expr_type e ≡ t) × HasSoundWay w e)
      → (b : Bool) → identical (expr_type e) t ≡ b → GoodAs t (if b then e else typed.conversion t e)
  unless_identical t e h k same true at = (let is = same at in (h, is.0, is.1))
  unless_identical t e h k same false at = ((h, k), refl, tt)

  pub converts_truth : (v t : Type') → v ≡ untyped_bool → is_bool_type (underlying t) ≡ true → Converts (underlying v) (underlying t)
  converts_truth v t at h = inr (inr (subst (λ u. is_bool_type (underlying u) ≡ true) (sym at) refl, h))

  truth_suits : (v t : Type') → IsSoundType w t → v ≡ untyped_bool → assignable v t ≡ true → Converts (underlying v) (underlying t)
  truth_suits v t h at f = converts_truth v t at (fits_truth t (untyped_fits w kinds.Bool t h (subst (λ u. assignable u t ≡ true) at f)))

  no_truth : (v t : Type') → IsSoundType w t → v ≡ untyped_bool → identical v t ≡ true → ⊥
  no_truth v t h at same = not_identical_to w t kinds.Bool h (subst (λ u. identical u t ≡ true) at same)

  other_as : (t : Type') (e : Expr) → IsSoundType w t → IsSoundValue w g d e → constant_in e ≡ None → assignable (expr_type e) t ≡ true
      → GoodAs t (if identical (expr_type e) t then e else typed.conversion t e)
  other_as t e h (inl k) none f = absurd (none_some k.1 (sym none ∙ ap constant_in k.2))
  other_as t e h (inr (inl k)) none f =
      unless_identical t e k.0 (inl (assignable_suits w (expr_type e) t k.1 h f)) (λ same. (identical_same w (expr_type e) t k.1 h same, k.2)) (identical (expr_type e) t) refl
  other_as t e h (inr (inr k)) none f =
      unless_identical t e k.0 (truth_suits (expr_type e) t h k.1 f) (λ same. absurd (no_truth (expr_type e) t h k.1 same)) (identical (expr_type e) t) refl

  constant_as : (t : Type') (e : Expr) (c : Const) → IsSoundType w t → IsSoundValue w g d e → constant_in e ≡ Some c → assignable (expr_type e) t ≡ true
      → in_kind (int_kind t) c ≡ true → IsConstantOf t c
  constant_as t (constant v b) c h k at f i =
      let one = value_constant v b k in
      subst (IsConstantOf t) (some_same b c at) (fit_as v t b h one.0 one.1 f (subst (λ a. in_kind (int_kind t) a ≡ true) (sym (some_same b c at)) i))
  constant_as t e c h k at f i = absurd (none_some c at)

  as_by : (t : Type') (e : Expr) → IsSoundType w t → IsSoundValue w g d e → assignable (expr_type e) t ≡ true
      → (o : Option Const) → constant_in e ≡ o → lies_of t o ≡ true → GoodAs t (as_of t e o)
  as_by t e h k f (Some c) at lies = (typed_constant w t c h (constant_as t e c h k at f lies), refl, tt)
  as_by t e h k f None at lies = other_as t e h k at f

  pub good_as : (t : Type') (e : Expr) → IsSoundType w t → IsSoundValue w g d e → assignable (expr_type e) t ≡ true → lies_in t e ≡ true → GoodAs t (as_type t e)
  good_as t e h k f lies = as_by t e h k f (constant_in e) refl lies

  -- https://go.dev/ref/spec#Assignability
  assigned_by : (t : Type') (e : Expr) → IsSoundType w t → IsSoundValue w g d e → (a b : Bool) → assignable (expr_type e) t ≡ a → lies_in t e ≡ b
      → Gives (GoodAs t) (assigned t e)
  assigned_by t e h k false b f lies = rw f tt
  assigned_by t e h k true false f lies = rw (f, lies) tt
  assigned_by t e h k true true f lies = rw (f, lies) (good_as t e h k f lies)

  pub assigned_gives : (t : Type') (e : Expr) → IsSoundType w t → IsSoundValue w g d e → Gives (GoodAs t) (assigned t e)
  assigned_gives t e h k = assigned_by t e h k (assignable (expr_type e) t) (lies_in t e) refl refl

  -- ---- where no type is due

  pub sound_default : (t : Type') → IsSoundType w t → default_type t ≡ t
  sound_default (basic basics.Bool) h = refl
  sound_default (basic basics.String) h = refl
  sound_default (basic (basics.Integer i)) h = refl
  sound_default (basic (basics.Untyped k)) h = absurd (true≢false (sym h))
  sound_default (array n t) h = refl
  sound_default (slice t) h = refl
  sound_default (struct fs) h = refl
  sound_default (named p x t) h = refl

  untyped_default : (k : Untyped) → IsSoundType w (default_type (basic (basics.Untyped k)))
  untyped_default kinds.Bool = refl
  untyped_default kinds.Int = refl
  untyped_default kinds.Rune = refl
  untyped_default kinds.String = refl

  pub default_sound : (t : Type') → IsOperandType w t → IsSoundType w (default_type t)
  default_sound t (inl h) = subst (IsSoundType w) (sym (sound_default t h)) h
  default_sound t (inr h) = subst (λ u. IsSoundType w (default_type u)) (sym h.1) (untyped_default h.0)

  pub value_type : (e : Expr) → IsSoundValue w g d e → IsOperandType w (expr_type e)
  value_type e (inl h) = inr (h.0, ap expr_type h.2)
  value_type e (inr (inl h)) = inl h.1
  value_type e (inr (inr h)) = inr (kinds.Bool, h.1)

  pub defaulted_gives : (e : Expr) → IsSoundValue w g d e → Gives (GoodAs (default_type (expr_type e))) (defaulted e)
  defaulted_gives e h = assigned_gives (default_type (expr_type e)) e (default_sound (expr_type e) (value_type e h)) h
