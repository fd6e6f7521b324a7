-- Values that are due: their sources are well typed, and each value suits what it is for.
use Rattle.std.proofs.Common.{◌≡◌, ℕ, Bool, true, false, not, ◌||◌, Option, Some, None, List, [], ◌∷◌, map, length, refl, sym, ap, subst, ◌∙◌, inl, inr, arith, true≢false, ◌≢◌}
use Rattle.std.specs.Prelude.{option_map, nat_eq, nat_le}
use Rattle.std.specs.List.{flat_map, filter_map, zip, list_all}
use Rattle.std.proofs.lemmas.Bool.{cases_Bool, eqb-true}
use Rattle.go_text.specs.declared.fault.FaultKind.{FaultKind}
use Rattle.go_text.specs.declared.fault.FaultKind.TheVariants.{Assign, Count}
use Rattle.go_text.specs.Faults.{fault_number}
use Rattle.go_ast.specs.Trees as source
use Rattle.go_types.specs.declared.types.Basic.{Basic}
use Rattle.go_types.specs.declared.types.Basic.TheVariants as basics
use Rattle.go_types.specs.Types.{Type', basic, array, slice, struct, named}
use Rattle.go_types.specs.Relations.{underlying, identical, is_literal, kind_fits, assignable}
use Rattle.go_typed.specs.Trees.{Symbol, Expr, expr_type, Exprs, ValueSource, each, results, pack_exprs}
use Rattle.go_meaning_laws.specs.WellTyped.{Setting, is_typed, Suits, IsExpr, AreWellTypedExprs, exprs_types, IsCall, IsWellTypedSource, source_types}
use Rattle.go_expr.specs.Known.{Known, Scope, Verdict, Fine, Breaks, Passed, declared, package', results as call_results, printed, panicked}
use Rattle.go_expr.specs.Rules.{fine, checked, wrong, least, lesser_fault, fine_list, assigned, default_type, lies_in, value_due}
use Rattle.go_expr.specs.Verdicts.{asked, operand, verdict}
use Rattle.go_stmt.specs.Rules.{all_some, AssignedValues, separate, together, no_values, values_of, suited_one, takes, suited}
use Rattle.go_stmt.specs.Statements.{each_of, values_known}
use Rattle.go_package_laws.proofs.Soundness.{Table, IsSoundType, AreSoundTypes, IsSoundValue}
use Rattle.go_package_laws.proofs.SoundNames.{IsSoundKnown, IsSoundScope}
use Rattle.go_package_laws.proofs.Texts.{HaveTexts}
use Rattle.go_package_laws.proofs.Expected.{Expected}

-- ---- assignable types

typed_fits : (b : Basic) (t : Type') → is_typed b ≡ true → kind_fits (basic b) t ≡ false
typed_fits basics.Bool t h = refl
typed_fits basics.String t h = refl
typed_fits (basics.Integer i) t h = refl
typed_fits (basics.Untyped k) t h = absurd (true≢false (sym h))

pub no_fit : (w : Table) (u t : Type') → IsSoundType w u → kind_fits u t ≡ false
no_fit w (basic b) t h = typed_fits b t h
no_fit w (array n u) t h = refl
no_fit w (slice u) t h = refl
no_fit w (struct fs) t h = refl
no_fit w (named p x u) t h = refl

pub sound_under : (w : Table) (t : Type') → IsSoundType w t → IsSoundType w (underlying t)
sound_under w (basic b) h = h
sound_under w (array n t) h = h
sound_under w (slice t) h = h
sound_under w (struct fs) h = h
sound_under w (named p x t) h = sound_under w t h.1

suits_by : (x : Expected) (w : Table) (u t : Type') → IsSoundType w u → IsSoundType w t → (same literal below fit : Bool) → identical u t ≡ same → (is_literal u || is_literal t) ≡ literal → identical (underlying u) (underlying t) ≡ below → kind_fits u (underlying t) ≡ fit
    → assignable u t ≡ true → Suits u t
suits_by x w u t h k true literal below fit a b c d e = ap underlying (x.identical_same w u t h k a)
suits_by x w u t h k false literal true fit a b c d e = x.identical_same w (underlying u) (underlying t) (sound_under w u h) (sound_under w t k) c
suits_by x w u t h k false literal false true a b c d e = absurd (true≢false (sym d ∙ no_fit w u (underlying t) h))
suits_by x w u t h k false true false false a b c d e = absurd (let r : assignable u t ≡ false = rw (a, b, c, d) refl in cc)
suits_by x w u t h k false false false false a b c d e = absurd (let r : assignable u t ≡ false = rw (a, b, d) refl in cc)

pub suits : (x : Expected) (w : Table) (u t : Type') → IsSoundType w u → IsSoundType w t → assignable u t ≡ true → Suits u t
suits x w u t h k e = suits_by x w u t h k (identical u t) (is_literal u || is_literal t) (identical (underlying u) (underlying t)) (kind_fits u (underlying t)) refl refl refl refl e

-- ---- verdicts on several

some_least : (k : FaultKind) (o : Option FaultKind) → lesser_fault (Some k) o ≢ None
some_least k None h = cc
some_least k (Some l) h = elim (cases_Bool (nat_le (fault_number k) (fault_number l))) [
  | inl is ↦ (let r : lesser_fault (Some k) (Some l) ≡ Some k = rw is refl in cc)
  | inr not_so ↦ (let r : lesser_fault (Some k) (Some l) ≡ Some l = rw not_so refl in cc)
]

none_least : (ks : List FaultKind) → least ks ≡ None → ks ≡ []
none_least [] h = refl
none_least (k ∷ ks) h = absurd (some_least k (least ks) h)

each_by : {A : Type 0} (vs : List (Verdict A)) (xs : List A) (o : Option FaultKind) → least (flat_map wrong vs) ≡ o → fine_list [] vs ≡ Fine xs → (flat_map wrong vs ≡ []) × (filter_map fine vs ≡ xs)
each_by vs xs None at h = (none_least (flat_map wrong vs) at, (let r : fine_list [] vs ≡ Fine (filter_map fine vs) = rw (at, fine_list) refl in cc))
each_by vs xs (Some k) at h = absurd (let r : fine_list [] vs ≡ Breaks k = rw (at, fine_list) refl in cc)

pub each_fine : {A : Type 0} (vs : List (Verdict A)) (xs : List A) → fine_list [] vs ≡ Fine xs → (flat_map wrong vs ≡ []) × (filter_map fine vs ≡ xs)
each_fine vs xs h = each_by vs xs (least (flat_map wrong vs)) refl h

pub checked_part : {A B : Type 0} (rule : A → Verdict B) (v : Verdict A) (y : B) → checked rule v ≡ Fine y → (x : A) × (v ≡ Fine x) × (rule x ≡ Fine y)
checked_part rule (Fine x) y h = (x, refl, h)
checked_part rule (Breaks k) y h = absurd cc
checked_part rule Passed y h = absurd cc

abbrev pub Asked : {A : Type 0} → Verdict A → Type 0
Asked Passed = ⊥
Asked v = Unit {0}

pub assigned_asked : (t : Type') (e : Expr) → Asked (assigned t e)
assigned_asked t e = elim (cases_Bool (not (assignable (expr_type e) t))) [
  | inl unfit ↦ rw unfit tt
  | inr fit ↦ elim (cases_Bool (lies_in t e)) [ inl is ↦ rw (fit, is) tt | inr not_so ↦ rw (fit, not_so) tt ]
]

suited_asked : (o : Option Type') (e : Expr) → Asked (suited_one (o, e))
suited_asked None e = assigned_asked (default_type (expr_type e)) e
suited_asked (Some t) e = assigned_asked t e

pub some_part : {A : Type 0} (o : Option A) (os : List (Option A)) (xs : List A) → all_some (o ∷ os) ≡ Some xs → (x : A) × (ys : List A) × (o ≡ Some x) × (all_some os ≡ Some ys) × (xs ≡ x ∷ ys)
some_part None os xs h = absurd cc
some_part {A} (Some x) os xs h = elim (all_some os) as (λ (m : Option (List A)). all_some os ≡ m → option_map (λ ys. x ∷ ys) m ≡ Some xs → (z : A) × (ys : List A) × (Some x ≡ Some z) × (all_some os ≡ Some ys) × (xs ≡ z ∷ ys)) [
  | None ↦ λ at k. absurd cc
  | Some ys ↦ λ at k. (x, ys, refl, at, cc)
] refl h

-- each of some verdicts, where none is wrong
pub front_fine : {A : Type 0} (v : Verdict A) (vs : List (Verdict A)) → Asked v → flat_map wrong (v ∷ vs) ≡ [] → (x : A) × (v ≡ Fine x) × (flat_map wrong vs ≡ []) × (filter_map fine (v ∷ vs) ≡ x ∷ filter_map fine vs)
front_fine (Fine x) vs a h = (x, refl, h, refl)
front_fine (Breaks k) vs a h = absurd cc
front_fine Passed vs a h = absurd a

-- ---- what values are, and what they are due for

-- the types that values have where none is due
abbrev pub own_types : AssignedValues → List Type'
own_types (separate es) = map (λ e. default_type (expr_type e)) es
own_types (together ts f es) = ts
own_types no_values = []

-- each of some types is that of a value of its own, or suits the type that is due for it
abbrev pub AreDue : Table → List (Option Type') → List Type' → List Type' → Type 0
AreDue w [] [] [] = Unit {0}
AreDue w (None ∷ os) (v ∷ vs) (t ∷ ts) = (t ≡ v) × IsSoundType w v × AreDue w os vs ts
AreDue w (Some u ∷ os) (v ∷ vs) (t ∷ ts) = Suits t u × AreDue w os vs ts
AreDue w os vs ts = ⊥

abbrev pub SoundDue : Table → List (Option Type') → Type 0
SoundDue w [] = Unit {0}
SoundDue w (None ∷ os) = SoundDue w os
SoundDue w (Some t ∷ os) = IsSoundType w t × SoundDue w os

module _ (x : Expected) (w : Table) (g : Setting) where
  abbrev pub AllSoundValues : List ℕ → List Expr → Type 0
  AllSoundValues d [] = Unit {0}
  AllSoundValues d (e ∷ es) = IsSoundValue w g d e × AllSoundValues d es

  abbrev pub AreSoundValues : List ℕ → AssignedValues → Type 0
  AreSoundValues d (separate es) = AllSoundValues d es
  AreSoundValues d (together ts f es) = AreWellTypedExprs g d es × IsCall g f (exprs_types es) ts × AreSoundTypes w ts
  AreSoundValues d no_values = Unit {0}

  one_value : (d : List ℕ) (k : Known) → IsSoundKnown w g d k → (v : AssignedValues) → checked (λ e. Fine (separate (e ∷ []))) (value_due k) ≡ Fine v → AreSoundValues d v
  one_value d k h v is =
      let part = checked_part (λ e. Fine (separate (e ∷ []))) (value_due k) v is in
      let same : separate (part.0 ∷ []) ≡ v = cc in
      subst (AreSoundValues d) same (x.sound_value_due w g d k h part.0 part.1, tt)

  pub sound_values_of : (d : List ℕ) (k : Known) → IsSoundKnown w g d k → (v : AssignedValues) → values_of k ≡ Fine v → AreSoundValues d v
  sound_values_of d (call_results ts f es) h v is = (let same : together ts f es ≡ v = cc in subst (AreSoundValues d) same h)
  sound_values_of d (panicked e) h v is = (let same : no_values ≡ v = cc in subst (AreSoundValues d) same tt)
  sound_values_of d (declared k) h v is = one_value d (declared k) h v is
  sound_values_of d (package' names) h v is = one_value d (package' names) h v is
  sound_values_of d (printed es) h v is = one_value d (printed es) h v is

  pub all_operands : (d : List ℕ) (s : Scope) → IsSoundScope w g d s → (es : source.ExpressionList) → HaveTexts es → (xs : List Expr) → all_some (each_of (λ e. operand (verdict s e)) es) ≡ Some xs → AllSoundValues d xs
  all_operands d s h source.no_exprs texts xs is = (let same : [] ≡ xs = cc in subst (AllSoundValues d) same tt)
  all_operands d s h (source.some_exprs e es) texts xs is =
      let part = some_part (operand (verdict s e)) (each_of (λ e. operand (verdict s e)) es) xs is in
      subst (AllSoundValues d) (sym part.4) (x.sound_operand w g d s e h texts.0 part.0 part.2, all_operands d s h es texts.1 part.1 part.3)

  mapped_values : (d : List ℕ) (o : Option (List Expr)) (v : AssignedValues) → ((xs : List Expr) → o ≡ Some xs → AllSoundValues d xs) → option_map separate o ≡ Some v → AreSoundValues d v
  mapped_values d None v h is = absurd cc
  mapped_values d (Some xs) v h is = (let same : separate xs ≡ v = cc in subst (AreSoundValues d) same (h xs refl))

  alone_value : (d : List ℕ) (o : Verdict Known) (v : AssignedValues) → ((k : Known) → o ≡ Fine k → IsSoundKnown w g d k) → fine (asked values_of (fine o)) ≡ Some v → AreSoundValues d v
  alone_value d (Fine k) v h is = sound_values_of d k (h k refl) v (elim (values_of k) as (λ r. fine r ≡ Some v → r ≡ Fine v) [ Fine y ↦ λ q. cc | _ ↦ λ q. cc ] is)
  alone_value d (Breaks k) v h is = absurd cc
  alone_value d Passed v h is = absurd cc

  pub sound_values : (d : List ℕ) (s : Scope) → IsSoundScope w g d s → (es : source.ExpressionList) → HaveTexts es → (v : AssignedValues) → values_known s es ≡ Some v → AreSoundValues d v
  sound_values d s h source.no_exprs texts v is = (let same : separate [] ≡ v = cc in subst (AreSoundValues d) same tt)
  sound_values d s h (source.some_exprs e source.no_exprs) texts v is = alone_value d (verdict s e) v (λ k at. x.sound_known w g d s e h texts.0 k at) is
  sound_values d s h (source.some_exprs e (source.some_exprs f es)) texts v is =
      mapped_values d (all_some (each_of (λ e. operand (verdict s e)) (source.some_exprs e (source.some_exprs f es)))) v (λ xs at. all_operands d s h (source.some_exprs e (source.some_exprs f es)) texts xs at) is

  -- ---- as many as are due

  one_suits : (d : List ℕ) (o : Option Type') (os : List (Option Type')) (e : Expr) (vs ts : List Type') → SoundDue w (o ∷ os) → IsSoundValue w g d e → (y : Expr) → suited_one (o, e) ≡ Fine y → AreDue w os vs ts
      → IsExpr g d y × AreDue w (o ∷ os) (default_type (expr_type e) ∷ vs) (expr_type y ∷ ts)
  one_suits d None os e vs ts due h y is rest = (let made = x.sound_defaulted w g d e h y is in ((made.0).0, (made.1, subst (IsSoundType w) made.1 (made.0).1, rest)))
  one_suits d (Some t) os e vs ts due h y is rest = (let made = x.sound_assigned w g d t e due.0 h y is in (made.0, (ap underlying made.1, rest)))

  rest_due : (o : Option Type') (os : List (Option Type')) → SoundDue w (o ∷ os) → SoundDue w os
  rest_due None os h = h
  rest_due (Some t) os h = h.1

  all_suited : (d : List ℕ) (due : List (Option Type')) (es : List Expr) → length due ≡ length es → SoundDue w due → AllSoundValues d es → flat_map wrong (map suited_one (zip due es)) ≡ []
      → AreWellTypedExprs g d (pack_exprs (filter_map fine (map suited_one (zip due es)))) × AreDue w due (map (λ e. default_type (expr_type e)) es) (exprs_types (pack_exprs (filter_map fine (map suited_one (zip due es)))))
  all_suited d [] [] same due h none = (tt, tt)
  all_suited d [] (e ∷ es) same due h none = absurd (omega (arith, same))
  all_suited d (o ∷ os) [] same due h none = absurd (omega (arith, same))
  all_suited d (o ∷ os) (e ∷ es) same due h none =
      let vs = map suited_one (zip os es) in
      let front = front_fine (suited_one (o, e)) vs (suited_asked o e) none in
      let rest = all_suited d os es (omega (arith, same)) (rest_due o os due) h.1 front.2 in
      let one = one_suits d o os e (map (λ e. default_type (expr_type e)) es) (exprs_types (pack_exprs (filter_map fine vs))) due h.0 front.0 front.1 rest.1 in
      subst (λ (l : List Expr). AreWellTypedExprs g d (pack_exprs l) × AreDue w (o ∷ os) (default_type (expr_type e) ∷ map (λ e. default_type (expr_type e)) es) (exprs_types (pack_exprs l))) (sym front.3)
      ((one.0, rest.0), one.1)

  all_taken : (due : List (Option Type')) (ts : List Type') → length due ≡ length ts → SoundDue w due → AreSoundTypes w ts → list_all takes (zip due ts) ≡ true → AreDue w due ts ts
  all_taken [] [] same due h is = tt
  all_taken [] (t ∷ ts) same due h is = absurd (omega (arith, same))
  all_taken (o ∷ os) [] same due h is = absurd (omega (arith, same))
  all_taken (None ∷ os) (t ∷ ts) same due h is = (refl, h.0, all_taken os ts (omega (arith, same)) due h.1 is)
  all_taken (Some u ∷ os) (t ∷ ts) same due h is = elim (cases_Bool (assignable t u)) [
    | inl fit ↦ (suits x w t u h.0 due.0 fit, all_taken os ts (omega (arith, same)) due.1 h.1 (let r : list_all takes ((Some u, t) ∷ zip os ts) ≡ list_all takes (zip os ts) = rw fit refl in sym r ∙ is))
    | inr unfit ↦ absurd (let r : list_all takes ((Some u, t) ∷ zip os ts) ≡ false = rw unfit refl in cc)
  ]

  separate_suited : (d : List ℕ) (due : List (Option Type')) (es : List Expr) (s : ValueSource) (b : Bool) → nat_eq (length due) (length es) ≡ b → SoundDue w due → AllSoundValues d es → suited due (separate es) ≡ Fine s
      → IsWellTypedSource g d s × AreDue w due (own_types (separate es)) (source_types s)
  separate_suited d due es s false at sound h is = absurd (let r : suited due (separate es) ≡ Breaks Count = rw at refl in cc)
  separate_suited d due es s true at sound h is =
      let r : suited due (separate es) ≡ checked (λ es. Fine (each (pack_exprs es))) (fine_list [] (map suited_one (zip due es))) = rw at refl in
      let part = checked_part (λ es. Fine (each (pack_exprs es))) (fine_list [] (map suited_one (zip due es))) s (sym r ∙ is) in
      let made = each_fine (map suited_one (zip due es)) part.0 part.1 in
      let all = all_suited d due es (eqb-true (length due) (length es) at) sound h made.0 in
      let same : each (pack_exprs (filter_map fine (map suited_one (zip due es)))) ≡ s = ap (λ l. each (pack_exprs l)) made.1 ∙ (let k : each (pack_exprs part.0) ≡ s = cc in k) in
      subst (λ (s : ValueSource). IsWellTypedSource g d s × AreDue w due (own_types (separate es)) (source_types s)) same all

  together_suited : (d : List ℕ) (due : List (Option Type')) (ts : List Type') (f : Symbol) (es : Exprs) (s : ValueSource) (a b c : Bool) → nat_eq (length ts) 0 ≡ a → nat_eq (length due) (length ts) ≡ b → list_all takes (zip due ts) ≡ c
      → SoundDue w due → AreSoundValues d (together ts f es) → suited due (together ts f es) ≡ Fine s → IsWellTypedSource g d s × AreDue w due ts (source_types s)
  together_suited d due ts f es s true b c p q r sound h is = absurd (let z : suited due (together ts f es) ≡ Breaks Count = rw p refl in cc)
  together_suited d due ts f es s false false c p q r sound h is = absurd (let z : suited due (together ts f es) ≡ Breaks Count = rw (p, q) refl in cc)
  together_suited d due ts f es s false true false p q r sound h is = absurd (let z : suited due (together ts f es) ≡ Breaks Assign = rw (p, q, r) refl in cc)
  together_suited d due ts f es s false true true p q r sound h is =
      let z : suited due (together ts f es) ≡ Fine (results ts f es) = rw (p, q, r) refl in
      let same : results ts f es ≡ s = cc in
      subst (λ (s : ValueSource). IsWellTypedSource g d s × AreDue w due ts (source_types s)) same ((h.0, h.1), all_taken due ts (eqb-true (length due) (length ts) q) sound h.2 r)

  pub sound_suited : (d : List ℕ) (due : List (Option Type')) (v : AssignedValues) (s : ValueSource) → SoundDue w due → AreSoundValues d v → suited due v ≡ Fine s → IsWellTypedSource g d s × AreDue w due (own_types v) (source_types s)
  sound_suited d due (separate es) s sound h is = separate_suited d due es s (nat_eq (length due) (length es)) refl sound h is
  sound_suited d due (together ts f es) s sound h is = together_suited d due ts f es s (nat_eq (length ts) 0) (nat_eq (length due) (length ts)) (list_all takes (zip due ts)) refl refl refl sound h is
  sound_suited d due no_values s sound h is = absurd cc
