-- Sources give values of their types, and what is assigned stays well typed.
use Rattle.std.proofs.Common.{◌≡◌, ℕ, suc, nat_le, List, [], ◌∷◌, length, Some, refl, sym, ap, ◌∙◌, subst, if◌then◌else◌}
use Rattle.go_types.specs.Types.{Type', basic, array, slice, struct, named}
use Rattle.go_types.specs.Relations.{underlying}
use Rattle.go_types.specs.Sizes.{cells}
use Rattle.go_code.specs.Operators as operators
use Rattle.go_code.specs.Operators.{Operated}
use Rattle.go_typed.specs.Trees.{Symbol, Steps, here, to_field as then_field, to_element as then_element, Left, blank, of_local, of_global, of_slice, ValueSource, each, results, zeros, expr_type}
use Rattle.go_meaning.specs.Values.{Value, single, parts, pack_values, unpack, Step, to_field, to_element, read, updated}
use Rattle.go_meaning.specs.Choices.{element_type}
use Rattle.go_meaning.specs.Meaning.{ProgramState, Outcome, Gives, Stuck, Locals, Calls, and_then, with_cell, typed_or_panic, with_type, elements_of_slice, all_given, if_known, eval, eval_all, source, steps, with_index, Target, nowhere, in_local, in_global, in_slice, step_into_elements, most_cells, aim, aim_all, target_value, or_panic, put, give, give_all, with_local, with_global, local_value, global_value}
use Rattle.go_meaning_laws.specs.WellTyped.{Setting, Holds, exprs_types, source_types, IsWellTypedSource, array_element, LeadsTo, LeadsInto, IsWellTypedPart, AreLefts}
use Rattle.go_meaning_laws.proofs.Shelf.{Shelf, Grows, grows_not}
use Rattle.go_meaning_laws.proofs.Values.{Of, AllOf, all_are, all_zeros, of_underlying, of_grow, all_grow}
use Rattle.go_meaning_laws.proofs.Parts.{Fine, Reaches, read_is, updated_is}
use Rattle.go_meaning_laws.proofs.Operators.{IsNumber, number, integer_value}
use Rattle.go_meaning_laws.proofs.Binary.{one_cell}
use Rattle.go_meaning_laws.proofs.Arrays.{Window, window, array_each}
use Rattle.go_meaning_laws.proofs.Worlds.{Sound, sound_then, sound_map, Keeps, Valued, sound_given, sound_cell, sound_changed, global_is, global_put, keeps_with, Fits, local_is, local_put, fits_before, fits_grow, within_more}
use Rattle.go_meaning_laws.proofs.Exprs.{AllValued, Answers, expr_evals, exprs_evals}

-- the elements that a value has itself are among those that it may be indexed for
element_known : (s part : Type') → array_element s ≡ Some part → element_type s ≡ Some part
element_known (array n t) part e = e
element_known (basic b) part e = absurd (cc)
element_known (slice t) part e = absurd (cc)
element_known (struct fs) part e = absurd (cc)
element_known (named p x t) part e = absurd (cc)

-- ---- targets

-- a part of a variable that has a value, or of the elements of a slice, which may be given values of the type
abbrev pub PartAt : Setting → List ℕ → Type' → Target → Shelf → Type 0
PartAt g d u nowhere σ = ⊥
PartAt g d u (in_local t n ss) σ = Holds g d n t × Reaches t ss u
PartAt g d u (in_global t s ss) σ = (g.variables s ≡ Some t) × Reaches t ss u
PartAt g d u (in_slice t v ss) σ = Of σ (slice t) v × ((n : ℕ) → Reaches (array n t) ss u)

-- such a part, or nothing
abbrev pub MayBeAt : Setting → List ℕ → Type' → Target → Shelf → Type 0
MayBeAt g d u nowhere σ = Unit {0}
MayBeAt g d u (in_local t n ss) σ = PartAt g d u (in_local t n ss) σ
MayBeAt g d u (in_global t s ss) σ = PartAt g d u (in_global t s ss) σ
MayBeAt g d u (in_slice t v ss) σ = PartAt g d u (in_slice t v ss) σ

pub may_be : (g : Setting) (d : List ℕ) (u : Type') (target : Target) (σ : Shelf) → PartAt g d u target σ → MayBeAt g d u target σ
may_be g d u nowhere σ h = tt
may_be g d u (in_local t n ss) σ h = h
may_be g d u (in_global t s ss) σ h = h
may_be g d u (in_slice t v ss) σ h = h

pub part_grow : {σ later : Shelf} (g : Setting) (d : List ℕ) (u : Type') (target : Target) → Grows σ later → PartAt g d u target σ → PartAt g d u target later
part_grow g d u nowhere grown h = h
part_grow g d u (in_local t n ss) grown h = h
part_grow g d u (in_global t s ss) grown h = h
part_grow g d u (in_slice t v ss) grown h = (of_grow (slice t) v grown h.0, h.1)

may_grow : {σ later : Shelf} (g : Setting) (d : List ℕ) (u : Type') (target : Target) → Grows σ later → MayBeAt g d u target σ → MayBeAt g d u target later
may_grow g d u nowhere grown h = h
may_grow g d u (in_local t n ss) grown h = h
may_grow g d u (in_global t s ss) grown h = h
may_grow g d u (in_slice t v ss) grown h = (of_grow (slice t) v grown h.0, h.1)

abbrev pub AllMayBeAt : Setting → List ℕ → List Type' → List Target → Shelf → Type 0
AllMayBeAt g d [] [] σ = Unit {0}
AllMayBeAt g d [] (t ∷ ts) σ = ⊥
AllMayBeAt g d (u ∷ us) [] σ = ⊥
AllMayBeAt g d (u ∷ us) (t ∷ ts) σ = MayBeAt g d u t σ × AllMayBeAt g d us ts σ

pub all_may_grow : {σ later : Shelf} (g : Setting) (d : List ℕ) (us : List Type') (ts : List Target) → Grows σ later → AllMayBeAt g d us ts σ → AllMayBeAt g d us ts later
all_may_grow g d [] [] grown h = tt
all_may_grow g d [] (t ∷ ts) grown h = h
all_may_grow g d (u ∷ us) [] grown h = h
all_may_grow g d (u ∷ us) (t ∷ ts) grown h = (may_grow g d u t grown h.0, all_may_grow g d us ts grown h.1)

pub targets_long : (g : Setting) (d : List ℕ) (us : List Type') (ts : List Target) (σ : Shelf) → AllMayBeAt g d us ts σ → length ts ≡ length us
targets_long g d [] [] σ h = refl
targets_long g d [] (t ∷ ts) σ h = absurd h
targets_long g d (u ∷ us) [] σ h = absurd h
targets_long g d (u ∷ us) (t ∷ ts) σ h = ap suc (targets_long g d us ts σ h.1)

-- local variables that fit, in a world that stores
abbrev pub Fitting : Setting → List ℕ → Locals → Shelf → ProgramState → Type 0
Fitting g d ls σ w = Fits σ g.locals d ls × Keeps g.variables σ w

-- the variable that is aimed at
local_aimed : (g : Setting) (d : List ℕ) (t : Type') (n : ℕ) (ls : Locals) (σ : Shelf) (w : ProgramState) → Holds g d n t → Fitting g d ls σ w → Sound σ (Valued g.variables t) (typed_or_panic t (local_value ls n) w)
local_aimed g d t n ls σ w h k = sound_given g.variables t (local_value ls n) σ w k.1 (local_is σ g.locals d ls n t k.0 h.0 h.1)

global_aimed : (g : Setting) (d : List ℕ) (t : Type') (s : Symbol) (σ : Shelf) (w : ProgramState) → g.variables s ≡ Some t → Keeps g.variables σ w → Sound σ (Valued g.variables t) (typed_or_panic t (global_value w.variables s) w)
global_aimed g d t s σ w h good = sound_given g.variables t (global_value w.variables s) σ w good (global_is σ g.variables w.variables s t good.0 h)

-- the elements that are aimed at, of which something is done
elements_aimed : {A : Type 0} (g : Setting) (t : Type') (v : Value) (σ : Shelf) (w : ProgramState) (P : A → Shelf → ProgramState → Type 0) (next : Value → ProgramState → Outcome A) → Of σ (slice t) v → Keeps g.variables σ w → ((seen : Window σ t v w) → Sound σ P (next (parts (pack_values seen.whole)) w)) → Sound σ P (and_then (elements_of_slice t v w) next)
elements_aimed g t v σ w P next h good k =
    let seen = window σ t v w h good.1 in
    subst (λ (o : Outcome Value). Sound σ P (and_then o next)) (sym seen.found) (k seen)

pub taken_is : (g : Setting) (d : List ℕ) (u : Type') (target : Target) (ls : Locals) (σ : Shelf) (w : ProgramState) → PartAt g d u target σ → Fitting g d ls σ w → Sound σ (Valued g.variables u) (target_value u target ls w)
taken_is g d u nowhere ls σ w h k = absurd h
taken_is g d u (in_local t n ss) ls σ w h k =
    sound_then σ (Valued g.variables t) (Valued g.variables u) (typed_or_panic t (local_value ls n) w) (λ v. typed_or_panic u (read ss v)) (local_aimed g d t n ls σ w h.0 k)
    (λ v σ1 w1 grown1 l. sound_given g.variables u (read ss v) σ1 w1 l.1 (read_is σ1 t u ss v h.1 l.0))
taken_is g d u (in_global t s ss) ls σ w h k =
    sound_then σ (Valued g.variables t) (Valued g.variables u) (typed_or_panic t (global_value w.variables s) w) (λ v. typed_or_panic u (read ss v)) (global_aimed g d t s σ w h.0 k.1)
    (λ v σ1 w1 grown1 l. sound_given g.variables u (read ss v) σ1 w1 l.1 (read_is σ1 t u ss v h.1 l.0))
taken_is g d u (in_slice t v ss) ls σ w h k =
    elements_aimed g t v σ w (Valued g.variables u) (λ all. typed_or_panic u (read ss all)) h.0 k.1
    (λ seen. sound_given g.variables u (read ss (parts (pack_values seen.whole))) σ w k.1 (read_is σ (array seen.count t) u ss (parts (pack_values seen.whole)) (h.1 seen.count) seen.typed))

local_is_put : (g : Setting) (d : List ℕ) (t : Type') (n : ℕ) (v : Value) (ls : Locals) (σ : Shelf) (w : ProgramState) → Holds g d n t → Of σ t v → Fitting g d ls σ w → Sound σ (Fitting g d) (if_known (with_local ls n v) w)
local_is_put g d t n v ls σ w h of k =
    let r = local_put σ g.locals d ls n t v k.0 h.0 of in
    rw (r.1) (σ, grows_not σ, (fits_before σ g.locals d (n ∷ d) r.0 (within_more (n ∷ []) d) r.2, k.1))

global_is_put : (g : Setting) (d : List ℕ) (t : Type') (s : Symbol) (v : Value) (ls : Locals) (σ : Shelf) (w : ProgramState) → g.variables s ≡ Some t → Of σ t v → Fitting g d ls σ w → Sound σ (Fitting g d) (and_then (if_known (with_global w.variables s v) w) (λ variables w1. Gives ls (record w1 { variables = variables })))
global_is_put g d t s v ls σ w h of k = (let r = global_put σ g.variables w.variables s t v (k.1).0 h of in rw (r.1) (σ, grows_not σ, (k.0, (r.2, (k.1).1))))

-- other elements of the same number
elements_put : (g : Setting) (d : List ℕ) (t : Type') (v new : Value) (ss : List Step) (ls : Locals) (σ : Shelf) (w : ProgramState) (seen : Window σ t v w) → Of σ (array seen.count t) new → Fitting g d ls σ w → Sound σ (Fitting g d) (put (in_slice t v ss) new ls w)
elements_put g d t v (single c) ss ls σ w seen of k = (let e = of.0 in absurd (cc))
elements_put g d t v (parts xs) ss ls σ w seen of k =
    let each = array_each σ t seen.count xs of in
    let r = seen.put (unpack xs) each.0 each.1 in
    subst (λ (o : Outcome ProgramState). Sound σ (Fitting g d) (and_then o (λ later w1. Gives ls later))) (sym r.1) (σ, grows_not σ, (k.0, keeps_with g.variables σ σ w r.0 (grows_not σ) r.2 k.1 r.3))

pub given_to : (g : Setting) (d : List ℕ) (u : Type') (target : Target) (v : Value) (ls : Locals) (σ : Shelf) (w : ProgramState) → MayBeAt g d u target σ → Of σ u v → Fitting g d ls σ w → Sound σ (Fitting g d) (give target v ls w)
given_to g d u nowhere v ls σ w h of k = (σ, grows_not σ, k)
given_to g d u (in_local t n ss) v ls σ w h of k =
    sound_then σ (Valued g.variables t) (Fitting g d) (typed_or_panic t (local_value ls n) w) (λ old w1. and_then (or_panic (updated ss old v) w1) (λ new w2. if_known (with_local ls n new) w2))
    (local_aimed g d t n ls σ w h.0 k)
    (λ old σ1 w1 grown1 l.
    sound_then σ1 (Valued g.variables t) (Fitting g d) (or_panic (updated ss old v) w1) (λ new w2. if_known (with_local ls n new) w2)
    (sound_changed g.variables (λ new σ2. Of σ2 t new) (updated ss old v) σ1 w1 l.1 (updated_is σ1 t u ss old v h.1 l.0 (of_grow u v grown1 of)))
    (λ new σ2 w2 grown2 m. local_is_put g d t n new ls σ2 w2 h.0 m.0 (fits_grow grown2 (fits_grow grown1 k.0), m.1)))
given_to g d u (in_global t s ss) v ls σ w h of k =
    sound_then σ (Valued g.variables t) (Fitting g d) (typed_or_panic t (global_value w.variables s) w) (λ old w1. and_then (or_panic (updated ss old v) w1) (λ new. put (in_global t s ss) new ls))
    (global_aimed g d t s σ w h.0 k.1)
    (λ old σ1 w1 grown1 l.
    sound_then σ1 (Valued g.variables t) (Fitting g d) (or_panic (updated ss old v) w1) (λ new. put (in_global t s ss) new ls)
    (sound_changed g.variables (λ new σ2. Of σ2 t new) (updated ss old v) σ1 w1 l.1 (updated_is σ1 t u ss old v h.1 l.0 (of_grow u v grown1 of)))
    (λ new σ2 w2 grown2 m. global_is_put g d t s new ls σ2 w2 h.0 m.0 (fits_grow grown2 (fits_grow grown1 k.0), m.1)))
given_to g d u (in_slice t sv ss) v ls σ w h of k =
    elements_aimed g t sv σ w (Fitting g d) (λ old w1. and_then (or_panic (updated ss old v) w1) (λ new. put (in_slice t sv ss) new ls)) h.0 k.1
    (λ seen.
    let old : Value = parts (pack_values seen.whole) in
    changed_to seen (updated ss old v) (updated_is σ (array seen.count t) u ss old v (h.1 seen.count) seen.typed of))
  where
    changed_to : (seen : Window σ t sv w) (o : Operated Value) → Fine (Of σ (array seen.count t)) o → Sound σ (Fitting g d) (and_then (or_panic o w) (λ new. put (in_slice t sv ss) new ls))
    changed_to seen (operators.Gives new) l = elements_put g d t sv new ss ls σ w seen l k
    changed_to seen (operators.Panics kind) l = tt
    changed_to seen operators.Senseless l = absurd l

pub all_given_to : (g : Setting) (d : List ℕ) (us : List Type') (targets : List Target) (vs : List Value) (ls : Locals) (σ : Shelf) (w : ProgramState) → AllMayBeAt g d us targets σ → AllOf σ us vs → Fitting g d ls σ w → Sound σ (Fitting g d) (give_all targets vs ls w)
all_given_to g d [] [] [] ls σ w h of k = (σ, grows_not σ, k)
all_given_to g d [] [] (v ∷ vs) ls σ w h of k = absurd of
all_given_to g d [] (t ∷ ts) vs ls σ w h of k = absurd h
all_given_to g d (u ∷ us) [] vs ls σ w h of k = absurd h
all_given_to g d (u ∷ us) (t ∷ ts) [] ls σ w h of k = absurd of
all_given_to g d (u ∷ us) (t ∷ ts) (v ∷ vs) ls σ w h of k =
    sound_then σ (Fitting g d) (Fitting g d) (give t v ls w) (give_all ts vs) (given_to g d u t v ls σ w h.0 of.0 k)
    (λ ls1 σ1 w1 grown1 l. all_given_to g d us ts vs ls1 σ1 w1 (all_may_grow g d us ts grown1 h.1) (all_grow us vs grown1 of.1) l)

module _ (calls : Calls) (g : Setting) (d : List ℕ) (answers : Answers g.functions g.variables calls) where
  pub source_evals : (s : ValueSource) (ls : Locals) (σ : Shelf) (w : ProgramState) → IsWellTypedSource g d s → Fitting g d ls σ w → Sound σ (AllValued g.variables (source_types s)) (source calls s ls w)
  source_evals (each es) ls σ w h k = exprs_evals calls g d answers es h ls σ w k.0 k.1
  source_evals (results ts s es) ls σ w h k =
      sound_then σ (AllValued g.variables (exprs_types es)) (AllValued g.variables ts) (eval_all calls es ls w) (λ vs w1. and_then (calls s vs w1) (all_given ts)) (exprs_evals calls g d answers es h.0 ls σ w k.0 k.1)
      (λ vs σ1 w1 grown1 l.
      sound_then σ1 (AllValued g.variables ts) (AllValued g.variables ts) (calls s vs w1) (all_given ts) (answers.each s (exprs_types es) ts vs σ1 w1 h.1 l.0 l.1)
      (λ rs σ2 w2 grown2 m. rw (all_are σ2 ts rs m.0) (σ2, grows_not σ2, m)))
  source_evals (zeros ts) ls σ w h k = (σ, grows_not σ, (all_zeros σ ts h, k.1))

  -- ---- steps

  abbrev Reaching : Type' → Type' → List Step → Shelf → ProgramState → Type 0
  Reaching t u ss σ w = Reaches t ss u × Keeps g.variables σ w

  indexed : (t : Type') (u : Type') (part : Type') (p : Steps) (v : Value) (s : Type') (ls : Locals) (σ : Shelf) (w : ProgramState) → array_element (underlying t) ≡ Some part → IsNumber s v → Sound σ (Reaching part u) (steps calls part p ls w) → Sound σ (Reaching t u) (with_index v w (λ r. and_then (steps calls part p ls w) (λ ss w2. Gives (r ∷ ss) w2)))
  indexed t u part p v s ls σ w e (number i z es ev f) h =
      subst (λ x. Sound σ (Reaching t u) (with_index x w (λ r. and_then (steps calls part p ls w) (λ ss w2. Gives (r ∷ ss) w2)))) (sym ev)
      (sound_then σ (Reaching part u) (Reaching t u) (steps calls part p ls w) (λ ss w2. Gives (to_element z ∷ ss) w2) h (λ ss σ2 w2 grown2 l. (σ2, grows_not σ2, ((part, e, l.0), l.1))))

  pub steps_lead : (p : Steps) (t u : Type') (ls : Locals) (σ : Shelf) (w : ProgramState) → LeadsTo g d t p u → Fitting g d ls σ w → Sound σ (Reaching t u) (steps calls t p ls w)
  steps_lead here t u ls σ w h k = (σ, grows_not σ, (h, k.1))
  steps_lead (then_field n p) t u ls σ w h k =
      rw (h.1)
      (sound_then σ (Reaching h.0 u) (Reaching t u) (steps calls h.0 p ls w) (λ ss w1. Gives (to_field n ∷ ss) w1) (steps_lead p h.0 u ls σ w h.2 k)
      (λ ss σ1 w1 grown1 l. (σ1, grows_not σ1, ((h.0, h.1, l.0), l.1))))
  steps_lead (then_element e p) t u ls σ w h k =
      rw (element_known (underlying t) h.0 h.1)
      (sound_then σ (Valued g.variables (expr_type e)) (Reaching t u) (eval calls e ls w) (λ v w1. with_index v w1 (λ s. and_then (steps calls h.0 p ls w1) (λ ss w2. Gives (s ∷ ss) w2))) (expr_evals calls g d answers e h.2 ls σ w k.0 k.1)
      (λ v σ1 w1 grown1 l.
      indexed t u h.0 p v (underlying (expr_type e)) ls σ1 w1 h.1 (integer_value σ1 (underlying (expr_type e)) v h.3 (of_underlying σ1 (expr_type e) v l.0)) (steps_lead p h.0 u ls σ1 w1 h.4 (fits_grow grown1 k.0, l.1))))

  -- into the elements of a slice, whatever their number
  abbrev Into : Type' → Type' → List Step → Shelf → ProgramState → Type 0
  Into t u [] σ w = ⊥
  Into t u (s ∷ ss) σ w = ((n : ℕ) → Reaches (array n t) (s ∷ ss) u) × Keeps g.variables σ w

  indexed_into : (t u : Type') (p : Steps) (v : Value) (s : Type') (ls : Locals) (σ : Shelf) (w : ProgramState) → IsNumber s v → Sound σ (Reaching t u) (steps calls t p ls w) → Sound σ (Into t u) (with_index v w (λ r. and_then (steps calls t p ls w) (λ ss w2. Gives (r ∷ ss) w2)))
  indexed_into t u p v s ls σ w (number i z es ev f) h =
      subst (λ x. Sound σ (Into t u) (with_index x w (λ r. and_then (steps calls t p ls w) (λ ss w2. Gives (r ∷ ss) w2)))) (sym ev)
      (sound_then σ (Reaching t u) (Into t u) (steps calls t p ls w) (λ ss w2. Gives (to_element z ∷ ss) w2) h (λ ss σ2 w2 grown2 l. (σ2, grows_not σ2, ((λ n. (t, refl, l.0)), l.1))))

  steps_into : (p : Steps) (t v u : Type') (ls : Locals) (σ : Shelf) (w : ProgramState) → underlying t ≡ slice v → LeadsInto g d v p u → Fitting g d ls σ w → Sound σ (Into v u) (steps calls t p ls w)
  steps_into here t v u ls σ w is h k = absurd h
  steps_into (then_field n p) t v u ls σ w is h k = absurd h
  steps_into (then_element e p) t v u ls σ w is h k =
      rw is
      (sound_then σ (Valued g.variables (expr_type e)) (Into v u) (eval calls e ls w) (λ j w1. with_index j w1 (λ s. and_then (steps calls v p ls w1) (λ ss w2. Gives (s ∷ ss) w2))) (expr_evals calls g d answers e h.0 ls σ w k.0 k.1)
      (λ j σ1 w1 grown1 l.
      indexed_into v u p j (underlying (expr_type e)) ls σ1 w1 (integer_value σ1 (underlying (expr_type e)) j h.1 (of_underlying σ1 (expr_type e) j l.0)) (steps_lead p v u ls σ1 w1 h.2 (fits_grow grown1 k.0, l.1))))

  -- ---- left sides

  into_elements : (v u : Type') (x : Value) (ss : List Step) (σ : Shelf) (w : ProgramState) → Of σ (slice v) x → Into v u ss σ w → Sound σ (λ target σ1 w1. PartAt g d u target σ1 × Keeps g.variables σ1 w1) (step_into_elements v x ss w)
  into_elements v u x [] σ w h k = absurd k
  into_elements v u x (s ∷ ss) σ w h k = (σ, grows_not σ, ((h, k.0), k.1))

  pub part_aimed : (l : Left) (u : Type') (ls : Locals) (σ : Shelf) (w : ProgramState) → IsWellTypedPart g d l u → Fitting g d ls σ w → Sound σ (λ target σ1 w1. PartAt g d u target σ1 × Keeps g.variables σ1 w1) (aim calls l ls w)
  part_aimed blank u ls σ w h k = absurd h
  part_aimed (of_local t n p) u ls σ w h k =
      rw (h.1)
      (sound_then σ (Reaching t u) (λ target σ1 w1. PartAt g d u target σ1 × Keeps g.variables σ1 w1) (steps calls t p ls w) (λ ss w1. Gives (in_local t n ss) w1) (steps_lead p t u ls σ w h.2 k)
      (λ ss σ1 w1 grown1 l. (σ1, grows_not σ1, ((h.0, l.0), l.1))))
  part_aimed (of_global t s p) u ls σ w h k =
      rw (h.1)
      (sound_then σ (Reaching t u) (λ target σ1 w1. PartAt g d u target σ1 × Keeps g.variables σ1 w1) (steps calls t p ls w) (λ ss w1. Gives (in_global t s ss) w1) (steps_lead p t u ls σ w h.2 k)
      (λ ss σ1 w1 grown1 l. (σ1, grows_not σ1, ((h.0, l.0), l.1))))
  part_aimed (of_slice t e p) u ls σ w h k =
      let v = (h.2).0 in
      let next : Type' → Outcome Target = λ q. if nat_le (cells q) most_cells then and_then (eval calls e ls w) (λ x w1. with_cell x (and_then (steps calls t p ls w1) (step_into_elements q x))) else Stuck in
      subst (λ s. Sound σ (λ target σ1 w1. PartAt g d u target σ1 × Keeps g.variables σ1 w1) (with_type (element_type s) next)) (sym (h.2).1)
      (rw ((h.2).2)
      (sound_then σ (Valued g.variables (expr_type e)) (λ target σ1 w1. PartAt g d u target σ1 × Keeps g.variables σ1 w1) (eval calls e ls w) (λ x w1. with_cell x (and_then (steps calls t p ls w1) (step_into_elements v x))) (expr_evals calls g d answers e h.0 ls σ w k.0 k.1)
      (λ x σ1 w1 grown1 l.
      let x1 : Of σ1 (slice v) x = subst (λ s. Of σ1 s x) (ap underlying h.1 ∙ (h.2).1) (of_underlying σ1 (expr_type e) x l.0) in
      sound_cell σ1 (λ target σ2 w2. PartAt g d u target σ2 × Keeps g.variables σ2 w2) x (and_then (steps calls t p ls w1) (step_into_elements v x)) (one_cell σ1 (slice v) x refl x1)
      (sound_then σ1 (Into v u) (λ target σ2 w2. PartAt g d u target σ2 × Keeps g.variables σ2 w2) (steps calls t p ls w1) (step_into_elements v x) (steps_into p t v u ls σ1 w1 (h.2).1 (h.2).3 (fits_grow grown1 k.0, l.1))
      (λ ss σ2 w2 grown2 m. into_elements v u x ss σ2 w2 (of_grow (slice v) x grown2 x1) m)))))

  abbrev pub AllAimed : List Type' → List Target → Shelf → ProgramState → Type 0
  AllAimed us targets σ w = AllMayBeAt g d us targets σ × Keeps g.variables σ w

  more_aimed : (l : Left) (ls : List Left) (u : Type') (us : List Type') (locals : Locals) (σ : Shelf) (w : ProgramState) → Sound σ (λ target σ1 w1. MayBeAt g d u target σ1 × Keeps g.variables σ1 w1) (aim calls l locals w) → ((later : Shelf) (w : ProgramState) → Grows σ later → Keeps g.variables later w → Sound later (AllAimed us) (aim_all calls ls locals w)) → Sound σ (AllAimed (u ∷ us)) (aim_all calls (l ∷ ls) locals w)
  more_aimed l ls u us locals σ w first rest =
      sound_then σ (λ target σ1 w1. MayBeAt g d u target σ1 × Keeps g.variables σ1 w1) (AllAimed (u ∷ us)) (aim calls l locals w) (λ t w1. and_then (aim_all calls ls locals w1) (λ ts w2. Gives (t ∷ ts) w2)) first
      (λ t σ1 w1 grown1 h.
      sound_then σ1 (AllAimed us) (AllAimed (u ∷ us)) (aim_all calls ls locals w1) (λ ts w2. Gives (t ∷ ts) w2) (rest σ1 w1 grown1 h.1) (λ ts σ2 w2 grown2 k. (σ2, grows_not σ2, ((may_grow g d u t grown2 h.0, k.0), k.1))))

  maybe_aimed : (l : Left) (u : Type') (ls : Locals) (σ : Shelf) (w : ProgramState) → IsWellTypedPart g d l u → Fitting g d ls σ w → Sound σ (λ target σ1 w1. MayBeAt g d u target σ1 × Keeps g.variables σ1 w1) (aim calls l ls w)
  maybe_aimed l u ls σ w h k = sound_map σ (λ target σ1 w1. PartAt g d u target σ1 × Keeps g.variables σ1 w1) (λ target σ1 w1. MayBeAt g d u target σ1 × Keeps g.variables σ1 w1) (aim calls l ls w) (λ target σ1 w1 grown1 m. (may_be g d u target σ1 m.0, m.1)) (part_aimed l u ls σ w h k)

  pub all_aimed : (ls : List Left) (us : List Type') (locals : Locals) (σ : Shelf) (w : ProgramState) → AreLefts g d ls us → Fitting g d locals σ w → Sound σ (AllAimed us) (aim_all calls ls locals w)
  all_aimed [] [] locals σ w h k = (σ, grows_not σ, (tt, k.1))
  all_aimed [] (u ∷ us) locals σ w h k = absurd h
  all_aimed (l ∷ ls) [] locals σ w h k = absurd h
  all_aimed (blank ∷ ls) (u ∷ us) locals σ w h k = more_aimed blank ls u us locals σ w (σ, grows_not σ, (tt, k.1)) (λ σ1 w1 grown1 good. all_aimed ls us locals σ1 w1 h (fits_grow grown1 k.0, good))
  all_aimed (of_local t n p ∷ ls) (u ∷ us) locals σ w h k =
      more_aimed (of_local t n p) ls u us locals σ w (maybe_aimed (of_local t n p) u locals σ w h.0 k) (λ σ1 w1 grown1 good. all_aimed ls us locals σ1 w1 h.1 (fits_grow grown1 k.0, good))
  all_aimed (of_global t s p ∷ ls) (u ∷ us) locals σ w h k =
      more_aimed (of_global t s p) ls u us locals σ w (maybe_aimed (of_global t s p) u locals σ w h.0 k) (λ σ1 w1 grown1 good. all_aimed ls us locals σ1 w1 h.1 (fits_grow grown1 k.0, good))
  all_aimed (of_slice t e p ∷ ls) (u ∷ us) locals σ w h k =
      more_aimed (of_slice t e p) ls u us locals σ w (maybe_aimed (of_slice t e p) u locals σ w h.0 k) (λ σ1 w1 grown1 good. all_aimed ls us locals σ1 w1 h.1 (fits_grow grown1 k.0, good))
