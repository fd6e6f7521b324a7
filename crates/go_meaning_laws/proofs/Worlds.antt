-- Outcomes that are sound, variables that hold values of their types, and arrays that stand on a shelf.
use Rattle.std.proofs.Common.{◌≡◌, ℕ, zero, suc, Bool, true, false, ◌||◌, List, [], ◌∷◌, ◌++◌, Option, Some, None, ◌⊎◌, inl, inr, refl, sym, ap, ◌∙◌, subst, nat_eq, slice_get, slice_set}
use Rattle.std.specs.List.{find}
use Rattle.std.proofs.lemmas.Bool.{eqb-true, eqb-false, cases_Bool}
use Rattle.go_types.specs.Types.{Type'}
use Rattle.go_code.specs.declared.cell.Cell.{Cell}
use Rattle.go_code.specs.Operators as operators
use Rattle.go_code.specs.Operators.{Operated}
use Rattle.go_typed.specs.Trees.{Symbol}
use Rattle.go_meaning.specs.Values.{Value, single, is_of, or_else}
use Rattle.go_symbol.specs.Symbols.{same_symbol}
use Rattle.go_meaning.specs.Meaning.{Stored, ProgramState, Outcome, Gives, Ends, Stuck, Local, Locals, and_then, with_cell, typed_or_panic, or_panic, local_value, global_value, with_local, with_global, all_put, defined}
use Rattle.go_meaning_laws.specs.WellTyped.{has, AreGiven, AreNew, known_numbers}
use Rattle.go_meaning_laws.proofs.Shelf.{Shelf, Grows, grows_not, grows_then}
use Rattle.go_meaning_laws.proofs.Values.{Of, AllOf, suits, of_grow}
use Rattle.go_meaning_laws.proofs.Parts.{Fine}
use Rattle.go_meaning_laws.proofs.Arrays.{Stands}

-- ---- outcomes

-- what is given is so, with a shelf that has grown, or has not
abbrev pub Grown : {A : Type 0} → Shelf → (A → Shelf → ProgramState → Type 0) → A → ProgramState → Type 0
Grown σ P a w = (later : Shelf) × Grows σ later × P a later w

-- it isn't stuck, and what it gives is so
abbrev pub Sound : {A : Type 0} → Shelf → (A → Shelf → ProgramState → Type 0) → Outcome A → Type 0
Sound σ P (Gives a w) = Grown σ P a w
Sound σ P (Ends ending output) = Unit {0}
Sound σ P Stuck = ⊥

-- where the shelf has grown before, it has grown after all
pub sound_later : {A : Type 0} (σ later : Shelf) (P : A → Shelf → ProgramState → Type 0) (o : Outcome A) → Grows σ later → Sound later P o → Sound σ P o
sound_later σ later P (Gives a w) g h = (h.0, grows_then σ later h.0 g h.1, h.2)
sound_later σ later P (Ends ending output) g h = tt
sound_later σ later P Stuck g h = absurd h

pub sound_then : {A B : Type 0} (σ : Shelf) (P : A → Shelf → ProgramState → Type 0) (Q : B → Shelf → ProgramState → Type 0) (o : Outcome A) (next : A → ProgramState → Outcome B) → Sound σ P o
    → ((a : A) (later : Shelf) (w : ProgramState) → Grows σ later → P a later w → Sound later Q (next a w)) → Sound σ Q (and_then o next)
sound_then σ P Q (Gives a w) next h k = sound_later σ h.0 Q (next a w) h.1 (k a h.0 w h.1 h.2)
sound_then σ P Q (Ends ending output) next h k = tt
sound_then σ P Q Stuck next h k = absurd h

pub sound_map : {A : Type 0} (σ : Shelf) (P Q : A → Shelf → ProgramState → Type 0) (o : Outcome A) → ((a : A) (later : Shelf) (w : ProgramState) → Grows σ later → P a later w → Q a later w) → Sound σ P o → Sound σ Q o
sound_map σ P Q (Gives a w) f h = (h.0, h.1, f a h.0 w h.1 h.2)
sound_map σ P Q (Ends ending output) f h = tt
sound_map σ P Q Stuck f h = absurd h

-- behind a value of one cell
pub sound_cell : {A : Type 0} (σ : Shelf) (P : A → Shelf → ProgramState → Type 0) (v : Value) (o : Outcome A) → (c : Cell) × (v ≡ single c) → Sound σ P o → Sound σ P (with_cell v o)
sound_cell σ P v o e h = subst (λ u. Sound σ P (with_cell u o)) (sym e.1) h

-- ---- package variables

-- each has its type and a value of it
pub record Stores (σ : Shelf) (types : Symbol → Option Type') (variables : List Stored) : Type 0 where
  pub each : (s : Symbol) (t : Type') → types s ≡ Some t → (x : Stored) × (find (λ v. same_symbol s v.symbol) variables ≡ Some x) × (x.of ≡ t) × Of σ t x.value

-- so it is in the world, whose arrays stand on the shelf
abbrev pub Keeps : (Symbol → Option Type') → Shelf → ProgramState → Type 0
Keeps types σ w = Stores σ types w.variables × Stands σ w.arrays

-- a value of that type, in such a world
abbrev pub Valued : (Symbol → Option Type') → Type' → Value → Shelf → ProgramState → Type 0
Valued types t v σ w = Of σ t v × Keeps types σ w

pub sound_given : (types : Symbol → Option Type') (t : Type') (o : Operated Value) (σ : Shelf) (w : ProgramState) → Keeps types σ w → Fine (Of σ t) o → Sound σ (Valued types t) (typed_or_panic t o w)
sound_given types t (operators.Gives v) σ w good h = rw (h.0) (σ, grows_not σ, (h, good))
sound_given types t (operators.Panics kind) σ w good h = tt
sound_given types t operators.Senseless σ w good h = absurd h

-- what is given, or a panic, by a rule
pub sound_changed : {A : Type 0} (types : Symbol → Option Type') (P : A → Shelf → Type 0) (o : Operated A) (σ : Shelf) (w : ProgramState) → Keeps types σ w → Fine (λ a. P a σ) o → Sound σ (λ a σ1 w1. P a σ1 × Keeps types σ1 w1) (or_panic o w)
sound_changed types P (operators.Gives a) σ w good h = (σ, grows_not σ, (h, good))
sound_changed types P (operators.Panics kind) σ w good h = tt
sound_changed types P operators.Senseless σ w good h = absurd h

pub global_is : (σ : Shelf) (types : Symbol → Option Type') (variables : List Stored) (s : Symbol) (t : Type') → Stores σ types variables → types s ≡ Some t → Fine (Of σ t) (global_value variables s)
global_is σ types variables s t good e = (let r = good.each s t e in rw (r.1) (r.3))

-- what is found there after a value was given to another, or to the same of that type
abbrev Renewed : Type' → Value → Stored → Stored → Type 0
Renewed t v x y = (y.of ≡ x.of) × ((y.value ≡ x.value) ⊎ ((y.value ≡ v) × (x.of ≡ t)))

abbrev among : Symbol → List Stored → Option Stored
among r variables = find (λ z. same_symbol r z.symbol) variables

abbrev StillThere : Symbol → Type' → Value → List Stored → Stored → Type 0
StillThere r t v later x = (y : Stored) × (among r later ≡ Some y) × Renewed t v x y

renewed_here : (r : Symbol) (t : Type') (v : Value) (z x : Stored) (zs : List Stored) → z.of ≡ t → among r (z ∷ zs) ≡ Some x → StillThere r t v (record z { value = v } ∷ zs) x
renewed_here r t v z x zs e f = by_test (same_symbol r z.symbol) refl
  where
    by_test : (b : Bool) → same_symbol r z.symbol ≡ b → StillThere r t v (record z { value = v } ∷ zs) x
    by_test true k =
        let found : Some z ≡ Some x = rw k at f in
        let same : z ≡ x = cc in
        (record z { value = v }, rw k refl, (ap (λ q. q.of) same, inr (refl, ap (λ q. q.of) (sym same) ∙ e)))
    by_test false k = (let found : among r zs ≡ Some x = rw k at f in (x, rw k found, (refl, inl refl)))

renewed_later : (r : Symbol) (t : Type') (v : Value) (z x : Stored) (zs ys : List Stored) → ((x : Stored) → among r zs ≡ Some x → StillThere r t v ys x) → among r (z ∷ zs) ≡ Some x → StillThere r t v (z ∷ ys) x
renewed_later r t v z x zs ys rest f = by_test (same_symbol r z.symbol) refl
  where
    by_test : (b : Bool) → same_symbol r z.symbol ≡ b → StillThere r t v (z ∷ ys) x
    by_test true k =
        let found : Some z ≡ Some x = rw k at f in
        let same : z ≡ x = cc in
        (z, rw k refl, (ap (λ q. q.of) same, inl (ap (λ q. q.value) same)))
    by_test false k =
        let found : among r zs ≡ Some x = rw k at f in
        let h = rest x found in
        (h.0, rw k h.1, h.2)

-- a variable that is there gets a value of its type; those that are found stay, with their types
abbrev Puts : Symbol → Type' → Value → List Stored → Type 0
Puts s t v variables = (later : List Stored) × (with_global variables s v ≡ Some later) × ((r : Symbol) (x : Stored) → among r variables ≡ Some x → StillThere r t v later x)

put : (s : Symbol) (t : Type') (v : Value) (variables : List Stored) (x : Stored) → among s variables ≡ Some x → x.of ≡ t → is_of t v ≡ true → Puts s t v variables
put s t v [] x f e h = absurd (cc)
put s t v (z ∷ zs) x f e h = by_test (same_symbol s z.symbol) refl (put s t v zs x)
  where
    by_test : (b : Bool) → same_symbol s z.symbol ≡ b → (among s zs ≡ Some x → x.of ≡ t → is_of t v ≡ true → Puts s t v zs) → Puts s t v (z ∷ zs)
    by_test true k rest =
        let found : Some z ≡ Some x = rw k at f in
        let same : z ≡ x = cc in
        let is : z.of ≡ t = ap (λ q. q.of) same ∙ e in
        let typed : is_of z.of v ≡ true = subst (λ u. is_of u v ≡ true) (sym is) h in
        (record z { value = v } ∷ zs, rw (k, typed) refl, λ r y g. renewed_here r t v z y zs is g)
    by_test false k rest =
        let found : among s zs ≡ Some x = rw k at f in
        let p = rest found e h in
        (z ∷ p.0, rw (k, p.1) refl, λ r y g. renewed_later r t v z y zs p.0 (p.2 r) g)

still_of : (σ : Shelf) (t u : Type') (v : Value) (x y : Stored) → x.of ≡ u → Of σ u x.value → Of σ t v → Renewed t v x y → (y.of ≡ u) × Of σ u y.value
still_of σ t u v x y e h k n =
    (n.0 ∙ e, elim n.1 [ inl same ↦ subst (λ q. Of σ u q) (sym same) h | inr new ↦ subst (λ q. Of σ u q) (sym new.0) (subst (λ s. Of σ s v) (sym new.1 ∙ e) k) ])

pub global_put : (σ : Shelf) (types : Symbol → Option Type') (variables : List Stored) (s : Symbol) (t : Type') (v : Value) → Stores σ types variables → types s ≡ Some t → Of σ t v → (later : List Stored) × (with_global variables s v ≡ Some later) × Stores σ types later
global_put σ types variables s t v good e h =
    let r = good.each s t e in
    let p = put s t v variables r.0 r.1 r.2 h.0 in (
      p.0,
      p.1,
      record {
        each = λ q u k.
            (let x = good.each q u k in
            let y = p.2 q x.0 x.1 in
            (let z = still_of σ t u v x.0 y.0 x.2 x.3 h y.2 in (y.0, y.1, z.0, z.1)));
      },
    )

pub stores_grow : {σ later : Shelf} {types : Symbol → Option Type'} {variables : List Stored} → Grows σ later → Stores σ types variables → Stores later types variables
stores_grow g h = record { each = λ s t e. (let r = h.each s t e in (r.0, r.1, r.2, of_grow t (r.0).value g r.3)) }

-- the variables stay, where the shelf grows and the arrays are others
pub keeps_with : (types : Symbol → Option Type') (σ later : Shelf) (w w1 : ProgramState) → Grows σ later → w1.variables ≡ w.variables → Keeps types σ w → Stands later w1.arrays → Keeps types later w1
keeps_with types σ later w w1 g e h stands = (subst (λ vs. Stores later types vs) (sym e) (stores_grow g h.0), stands)

-- ---- local variables

-- what a variable of that number holds, where those of these numbers have been given a value
abbrev pub Held : Shelf → Type' → List ℕ → ℕ → Option Value → Type 0
Held σ t d n None = has d n ≡ false
Held σ t d n (Some v) = Of σ t v

pub record Fits (σ : Shelf) (types : List Type') (d : List ℕ) (ls : Locals) : Type 0 where
  pub each : (n : ℕ) (t : Type') → slice_get types n ≡ Some t → (o : Option Value) × (slice_get ls n ≡ Some (record { of = t; value = o })) × Held σ t d n o

pub local_is : (σ : Shelf) (types : List Type') (d : List ℕ) (ls : Locals) (n : ℕ) (t : Type') → Fits σ types d ls → slice_get types n ≡ Some t → has d n ≡ true → Fine (Of σ t) (local_value ls n)
local_is σ types d ls n t fits e h = (let r = fits.each n t e in rw (r.1) (by_value r.0 r.2))
  where
    by_value : (o : Option Value) → Held σ t d n o → Fine (Of σ t) (or_else operators.Senseless o)
    by_value None k = absurd (cc)
    by_value (Some v) k = k

held_grow : {σ later : Shelf} (t : Type') (d : List ℕ) (n : ℕ) (o : Option Value) → Grows σ later → Held σ t d n o → Held later t d n o
held_grow t d n None g h = h
held_grow t d n (Some v) g h = of_grow t v g h

pub fits_grow : {σ later : Shelf} {types : List Type'} {d : List ℕ} {ls : Locals} → Grows σ later → Fits σ types d ls → Fits later types d ls
fits_grow {d = d} g h = record { each = λ n t e. (let r = h.each n t e in (r.0, r.1, held_grow t d n r.0 g r.2)) }

get_same : (ls : Locals) (n : ℕ) (x y : Local) → slice_get ls n ≡ Some y → slice_get (slice_set ls n x) n ≡ Some x
get_same [] n x y e = cc
get_same (l ∷ ls) zero x y e = refl
get_same (l ∷ ls) (suc n) x y e = get_same ls n x y e

get_other : (ls : Locals) (m n : ℕ) (x : Local) → (m ≡ n → ⊥) → slice_get (slice_set ls n x) m ≡ slice_get ls m
get_other [] m n x e = refl
get_other (l ∷ ls) zero zero x e = absurd (e refl)
get_other (l ∷ ls) zero (suc n) x e = refl
get_other (l ∷ ls) (suc m) zero x e = refl
get_other (l ∷ ls) (suc m) (suc n) x e = get_other ls m n x (λ h. e (ap suc h))

same_type : (t u : Type') → Some t ≡ Some u → t ≡ u
same_type t u e = cc

held_still : (σ : Shelf) (t : Type') (d : List ℕ) (m n : ℕ) (o : Option Value) → nat_eq m n ≡ false → Held σ t d m o → Held σ t (n ∷ d) m o
held_still σ t d m n None e h = rw (e) h
held_still σ t d m n (Some v) e h = h

pub local_put : (σ : Shelf) (types : List Type') (d : List ℕ) (ls : Locals) (n : ℕ) (t : Type') (v : Value) → Fits σ types d ls → slice_get types n ≡ Some t → Of σ t v → (later : Locals) × (with_local ls n v ≡ Some later) × Fits σ types (n ∷ d) later
local_put σ types d ls n t v fits e h =
    let r = fits.each n t e in
    let x : Local = record { of = t; value = Some v } in (
      slice_set ls n x,
      rw (r.1, h.0) refl,
      record {
        each = λ m u k. elim (cases_Bool (nat_eq m n)) [
          | inl is ↦
              let same : m ≡ n = eqb-true m n is in
              let alike : t ≡ u = same_type t u (sym e ∙ ap (slice_get types) (sym same) ∙ k) in
              (Some v, ap (slice_get (slice_set ls n x)) same ∙ get_same ls n x _ (r.1) ∙ ap (λ s. Some (record { of = s; value = Some v })) alike, subst (λ s. Of σ s v) alike h)
          | inr not_so ↦
              let s = fits.each m u k in
              (s.0, get_other ls m n x (eqb-false m n not_so) ∙ s.1, held_still σ u d m n s.0 not_so s.2)
        ];
      },
    )

-- ---- more, or fewer, that have been given a value

abbrev pub Within : List ℕ → List ℕ → Type 0
Within d e = (n : ℕ) → has d n ≡ true → has e n ≡ true

held_before : (σ : Shelf) (t : Type') (d e : List ℕ) (n : ℕ) (o : Option Value) → Within d e → Held σ t e n o → Held σ t d n o
held_before σ t d e n None w h = elim (cases_Bool (has d n)) [ inl is ↦ (let more = w n is in cc) | inr not_so ↦ not_so ]
held_before σ t d e n (Some v) w h = h

pub fits_before : (σ : Shelf) (types : List Type') (d e : List ℕ) (ls : Locals) → Within d e → Fits σ types e ls → Fits σ types d ls
fits_before σ types d e ls w h = record { each = λ n t k. (let r = h.each n t k in (r.0, r.1, held_before σ t d e n r.0 w r.2)) }

pub within_more : (xs d : List ℕ) → Within d (xs ++ d)
within_more [] d n h = h
within_more (x ∷ xs) d n h = either_way (nat_eq n x) (has (xs ++ d) n) (within_more xs d n h)
  where
    either_way : (p q : Bool) → q ≡ true → (p || q) ≡ true
    either_way true q e = refl
    either_way false q e = e

-- new variables get values
pub defined_is : (σ : Shelf) (types : List Type') (d : List ℕ) (os : List (Option ℕ)) (ts : List Type') (vs : List Value) (ls : Locals) → AreNew types os ts → AllOf σ ts vs → Fits σ types d ls → (later : Locals) × (defined os vs ls ≡ Some later) × Fits σ types (known_numbers os ++ d) later
defined_is σ types d [] [] [] ls new h fits = (ls, refl, fits)
defined_is σ types d [] [] (v ∷ vs) ls new h fits = absurd h
defined_is σ types d [] (t ∷ ts) vs ls new h fits = absurd new
defined_is σ types d (o ∷ os) [] vs ls new h fits = absurd new
defined_is σ types d (o ∷ os) (t ∷ ts) [] ls new h fits = absurd h
defined_is σ types d (None ∷ os) (t ∷ ts) (v ∷ vs) ls new h fits = defined_is σ types d os ts vs ls new h.1 fits
defined_is σ types d (Some n ∷ os) (t ∷ ts) (v ∷ vs) ls new h fits =
    let r = defined_is σ types d os ts vs ls new.1 h.1 fits in
    let u = new.0 in
    let s = local_put σ types (known_numbers os ++ d) r.0 n u.0 v r.2 u.1 (suits σ t u.0 v u.2 h.0) in
    (s.0, rw (r.1) (s.1), s.2)

-- package variables get values
abbrev pub put_at : List ℕ → List Stored → List ℕ → Value → Option (List Stored)
put_at path variables x = with_global variables (record { path = path; name = x })

pub stored_is : (σ : Shelf) (types : Symbol → Option Type') (path : List ℕ) (os : List (Option (List ℕ))) (ts : List Type') (vs : List Value) (variables : List Stored) → AreGiven (λ x. types (record { path = path; name = x })) os ts → AllOf σ ts vs → Stores σ types variables
    → (later : List Stored) × (all_put (put_at path) os vs variables ≡ Some later) × Stores σ types later
stored_is σ types path [] [] [] variables new h good = (variables, refl, good)
stored_is σ types path [] [] (v ∷ vs) variables new h good = absurd h
stored_is σ types path [] (t ∷ ts) vs variables new h good = absurd new
stored_is σ types path (o ∷ os) [] vs variables new h good = absurd new
stored_is σ types path (o ∷ os) (t ∷ ts) [] variables new h good = absurd h
stored_is σ types path (None ∷ os) (t ∷ ts) (v ∷ vs) variables new h good = stored_is σ types path os ts vs variables new h.1 good
stored_is σ types path (Some x ∷ os) (t ∷ ts) (v ∷ vs) variables new h good =
    let r = stored_is σ types path os ts vs variables new.1 h.1 good in
    let u = new.0 in
    let s = global_put σ types r.0 (record { path = path; name = x }) u.0 v r.2 u.1 (suits σ t u.0 v u.2 h.0) in
    (s.0, rw (r.1) (s.1), s.2)
