-- How well typed statements leave off, and loops.
use Rattle.std.proofs.Common.{◌≡◌, ℕ, zero, suc, ◌+◌, ◌<◌, ◌≤◌, Bool, true, false, List, [], ◌∷◌, ◌++◌, Option, Some, None, pos, inl, inr, refl, sym, subst, arith, nat_lt, if◌then◌else◌}
use Rattle.std.proofs.lemmas.Bool.{cases_Bool, leb-true, le-leb}
use Rattle.go_const.specs.Constants.{sizes, fits}
use Rattle.go_const.specs.declared.kind.IntKind.{IntKind}
use Rattle.go_types.specs.declared.types.Basic.TheVariants as basics
use Rattle.go_types.specs.Types.{Type', basic}
use Rattle.go_types.specs.Relations.{underlying}
use Rattle.go_code.specs.declared.cell.Cell.TheVariants.{Int, Bool as Truth}
use Rattle.go_code.specs.declared.ending.Ending.TheVariants.{Cut}
use Rattle.go_meaning.specs.Values.{Value, single}
use Rattle.go_meaning.specs.Meaning.{ProgramState, Outcome, Gives, Ends, Stuck, Locals, Flow, Normal, Breaks, Continues, Returns, and_then, with_tick, if_known, if_true, defined, normal, if_normal, after_turn, turns, walk}
use Rattle.go_meaning_laws.specs.WellTyped.{Setting, AreNew, known_numbers, inside_loop, in_post, IsCounter}
use Rattle.go_meaning_laws.proofs.Values.{Of, AllOf, by_underlying}
use Rattle.go_meaning_laws.proofs.Operators.{IsTruth}
use Rattle.go_meaning_laws.proofs.Shelf.{Shelf, grows_not}
use Rattle.go_meaning_laws.proofs.Worlds.{Sound, sound_then, Keeps, Within, fits_before, fits_grow, within_more, defined_is}
use Rattle.go_meaning_laws.proofs.Targets.{Fitting}
use Rattle.go_meaning_laws.proofs.Ticks.{NoMore}

-- ---- how a statement leaves off

-- For the next one, where the second numbers have been given a value, unless it is one that ends; for the end or the next turn of a
-- loop, where the first ones have, if there is such; or with the function's results.
abbrev pub Leaves : Setting → List ℕ → List ℕ → Bool → Bool → Flow → Shelf → ProgramState → Type 0
Leaves g d e ends breaks (Normal ls) σ w = Fitting g e ls σ w × (ends ≡ false)
Leaves g d e ends breaks (Breaks ls) σ w = Fitting g d ls σ w × (g.breaks ≡ true) × (breaks ≡ true)
Leaves g d e ends breaks (Continues ls) σ w = Fitting g d ls σ w × (g.continues ≡ true)
Leaves g d e ends breaks (Returns vs) σ w = AllOf σ g.results vs × Keeps g.variables σ w

pub before : (g : Setting) (d e : List ℕ) (ls : Locals) (σ : Shelf) (w : ProgramState) → Within d e → Fitting g e ls σ w → Fitting g d ls σ w
before g d e ls σ w h k = (fits_before σ g.locals d e ls h k.0, k.1)

pub not_true : (p q : Bool) → (q ≡ true → p ≡ true) → p ≡ false → q ≡ false
not_true p true h e = (let k = h refl in cc)
not_true p false h e = refl

pub leaves_as : (g : Setting) (d e x y : List ℕ) (ends breaks ends1 breaks1 : Bool) → Within x d → Within y e → (ends1 ≡ true → ends ≡ true) → (breaks ≡ true → breaks1 ≡ true) → (f : Flow) (σ : Shelf) (w : ProgramState) → Leaves g d e ends breaks f σ w → Leaves g x y ends1 breaks1 f σ w
leaves_as g d e x y ends breaks ends1 breaks1 h k en br (Normal ls) σ w l = (before g y e ls σ w k l.0, not_true ends ends1 en l.1)
leaves_as g d e x y ends breaks ends1 breaks1 h k en br (Breaks ls) σ w l = (before g x d ls σ w h l.0, l.1, br l.2)
leaves_as g d e x y ends breaks ends1 breaks1 h k en br (Continues ls) σ w l = (before g x d ls σ w h l.0, l.1)
leaves_as g d e x y ends breaks ends1 breaks1 h k en br (Returns vs) σ w l = l

pub within_same : (d : List ℕ) → Within d d
within_same d n h = h

-- what is done with a tick
pub ticked : {A : Type 0} (P : A → Shelf → ProgramState → Type 0) (σ : Shelf) (w : ProgramState) (next : ProgramState → Outcome A) → ((n : ℕ) → Sound σ P (next (record w { ticks = n }))) → Sound σ P (with_tick w next)
ticked {A} P σ w next h = by_ticks w.ticks
  where
    by_ticks : (n : ℕ) → Sound σ P (elim n as (λ m. Outcome A) [ zero ↦ Ends Cut w.output | suc left ↦ next (record w { ticks = left }) ])
    by_ticks zero = tt
    by_ticks (suc left) = h left

-- the same, where it is known how many are left
ticked_by : {A : Type 0} (P : A → Shelf → ProgramState → Type 0) (σ : Shelf) (w : ProgramState) (next : ProgramState → Outcome A) → ((n : ℕ) → w.ticks ≡ suc n → Sound σ P (next (record w { ticks = n }))) → Sound σ P (with_tick w next)
ticked_by {A} P σ w next h = by_ticks w.ticks refl
  where
    by_ticks : (n : ℕ) → w.ticks ≡ n → Sound σ P (elim n as (λ m. Outcome A) [ zero ↦ Ends Cut w.output | suc left ↦ next (record w { ticks = left }) ])
    by_ticks zero e = tt
    by_ticks (suc left) e = h left e

-- with no more ticks left
sound_within : {A : Type 0} (σ : Shelf) (P : A → Shelf → ProgramState → Type 0) (n : ℕ) (o : Outcome A) → Sound σ P o → NoMore n o → Sound σ (λ a σ1 w1. P a σ1 w1 × (w1.ticks ≤ n)) o
sound_within σ P n (Gives a w) h le = (h.0, h.1, (h.2, le))
sound_within σ P n (Ends ending output) h le = tt
sound_within σ P n Stuck h le = absurd h

-- what is done with n ticks leaves no more
abbrev pub Takes : {A : Type 0} → (Locals → ProgramState → Outcome A) → Type 0
Takes {A} done = (n : ℕ) (ls : Locals) (w : ProgramState) → w.ticks ≤ n → NoMore n (done ls w)

itself : (n : ℕ) → n ≤ n
itself n = omega arith

-- by a truth value, which is known in each branch
pub decided_by : {A : Type 0} (σ : Shelf) (P : A → Shelf → ProgramState → Type 0) (v : Value) (a b : Outcome A) → IsTruth v → (v ≡ single (Truth true) → Sound σ P a) → (v ≡ single (Truth false) → Sound σ P b) → Sound σ P (if_true v a b)
decided_by σ P v a b h k l = by_truth h.0 h.1
  where
    by_truth : (c : Bool) → v ≡ single (Truth c) → Sound σ P (if_true v a b)
    by_truth true e = subst (λ u. Sound σ P (if_true u a b)) (sym e) (k e)
    by_truth false e = subst (λ u. Sound σ P (if_true u a b)) (sym e) (l e)

-- ---- for

module _ (g : Setting) (d e x : List ℕ) (ends breaks ends1 ends2 breaks2 : Bool) (test : Locals → ProgramState → Outcome Value) (body post : Locals → ProgramState → Outcome Flow) where
  -- the condition gives a truth value, which is true where the loop has no end
  abbrev pub Tests : Value → Shelf → ProgramState → Type 0
  Tests v σ w = IsTruth v × (ends ≡ true → v ≡ single (Truth true)) × Keeps g.variables σ w

  abbrev Turning : Flow → Shelf → ProgramState → Type 0
  Turning = Leaves g d d ends false

  over : (c : Value) → (ends ≡ true → c ≡ single (Truth true)) → c ≡ single (Truth false) → ends ≡ false
  over c h is = elim (cases_Bool ends) [ inl sure ↦ (let k = h sure in cc) | inr not_so ↦ not_so ]

  module _ (grown : Within d e) (later : Within d x) (quiet : ends ≡ true → breaks ≡ false) (tests : (ls : Locals) (σ : Shelf) (w : ProgramState) → Fitting g d ls σ w → Sound σ Tests (test ls w)) (bodies : (ls : Locals) (σ : Shelf) (w : ProgramState) → Fitting g d ls σ w → Sound σ (Leaves (inside_loop g) d e ends1 breaks) (body ls w)) (posts : (ls : Locals) (σ : Shelf) (w : ProgramState) → Fitting g d ls σ w → Sound σ (Leaves (in_post g) d x ends2 breaks2) (post ls w)) (test_takes : Takes test) (body_takes : Takes body) (post_takes : Takes post) where
    no_break : breaks ≡ true → ends ≡ false
    no_break b = elim (cases_Bool ends) [ inl sure ↦ (let k = quiet sure in cc) | inr not_so ↦ not_so ]

    -- what goes on in such a world, with no more than n ticks left
    abbrev Going : ℕ → (Locals → ProgramState → Outcome Flow) → Type 0
    Going n next = (ls : Locals) (σ : Shelf) (w : ProgramState) → w.ticks ≤ n → Fitting g d ls σ w → Sound σ Turning (next ls w)

    after_post : (n : ℕ) (next : Locals → ProgramState → Outcome Flow) → Going n next → (f : Flow) (σ : Shelf) (w : ProgramState) → w.ticks ≤ n → Leaves (in_post g) d x ends2 breaks2 f σ w → Sound σ Turning (if_normal next f w)
    after_post n next turn (Normal ls) σ w le h = turn ls σ w le (before g d x ls σ w later h.0)
    after_post n next turn (Breaks ls) σ w le h = (let k = h.1 in absurd (cc))
    after_post n next turn (Continues ls) σ w le h = (let k = h.1 in absurd (cc))
    after_post n next turn (Returns vs) σ w le h = (σ, grows_not σ, h)

    again : (n : ℕ) (next : Locals → ProgramState → Outcome Flow) → Going n next → Going n (λ ls w. and_then (post ls w) (if_normal next))
    again n next turn ls σ w le fits =
        sound_then σ (λ f σ1 w1. Leaves (in_post g) d x ends2 breaks2 f σ1 w1 × (w1.ticks ≤ n)) Turning (post ls w) (if_normal next)
        (sound_within σ (Leaves (in_post g) d x ends2 breaks2) n (post ls w) (posts ls σ w fits) (post_takes n ls w le)) (λ f σ1 w1 grown1 h. after_post n next turn f σ1 w1 h.1 h.0)

    after_body : (n : ℕ) (next : Locals → ProgramState → Outcome Flow) → Going n next → (f : Flow) (σ : Shelf) (w : ProgramState) → w.ticks ≤ n → Leaves (inside_loop g) d e ends1 breaks f σ w → Sound σ Turning (after_turn next f w)
    after_body n next turn (Normal ls) σ w le h = turn ls σ w le (before g d e ls σ w grown h.0)
    after_body n next turn (Breaks ls) σ w le h = (σ, grows_not σ, (h.0, no_break h.2))
    after_body n next turn (Continues ls) σ w le h = turn ls σ w le h.0
    after_body n next turn (Returns vs) σ w le h = (σ, grows_not σ, h)

    pub turns_leave : (n : ℕ) (ls : Locals) (σ : Shelf) (w : ProgramState) → w.ticks < n → Fitting g d ls σ w → Sound σ Turning (turns n test body post ls w)
    turns_leave zero ls σ w few fits = absurd (omega (arith, few))
    turns_leave (suc n) ls σ w few fits =
        let next : Locals → ProgramState → Outcome Flow = λ ls1 w3. and_then (post ls1 w3) (if_normal (turns n test body post)) in
        let turn : ProgramState → Outcome Flow = λ w2. and_then (body ls w2) (after_turn next) in
        sound_then σ (λ c σ1 w1. Tests c σ1 w1 × (w1.ticks ≤ n)) Turning (test ls w) (λ c w1. if_true c (with_tick w1 turn) (normal ls w1))
        (sound_within σ Tests n (test ls w) (tests ls σ w fits) (test_takes n ls w (omega (arith, few))))
        (λ c σ1 w1 grown1 h. decided_by σ1 Turning c (with_tick w1 turn) (normal ls w1) (h.0).0
        (λ is. ticked_by Turning σ1 w1 turn (λ m some.
        let fewer : m < n = omega (arith, h.1, some) in
        sound_then σ1 (λ f σ2 w2. Leaves (inside_loop g) d e ends1 breaks f σ2 w2 × (w2.ticks ≤ m)) Turning (body ls (record w1 { ticks = m })) (after_turn next)
        (sound_within σ1 (Leaves (inside_loop g) d e ends1 breaks) m (body ls (record w1 { ticks = m })) (bodies ls σ1 (record w1 { ticks = m }) (fits_grow grown1 fits.0, (h.0).2)) (body_takes m ls (record w1 { ticks = m }) (itself m)))
        (λ f σ2 w2 grown2 k. after_body m next (again m (turns n test body post) (λ ls2 σ3 w3 le fits3. turns_leave n ls2 σ3 w3 (omega (arith, le, fewer)) fits3)) f σ2 w2 k.1 k.0)))
        (λ is. (σ1, grows_not σ1, ((fits_grow grown1 fits.0, (h.0).2), over c (h.0).1 is))))

-- ---- range

below : (i : IntKind) (c h : ℕ) → nat_lt c h ≡ true → fits (Some i) (pos h) ≡ true → fits (Some i) (pos c) ≡ true
below i c h l e =
    let less = leb-true (suc c) h l in
    let fit = leb-true (suc h) (sizes (Some i)).1 e in
    le-leb (suc c) (sizes (Some i)).1 (omega (arith, less, fit))

module _ (g : Setting) (d e : List ℕ) (ends breaks : Bool) (o : Option ℕ) (t : Type') (i : IntKind) (is : underlying t ≡ basic (basics.Integer i)) (counts : IsCounter g o t) (h : ℕ) (fit : fits (Some i) (pos h) ≡ true) (body : Locals → ProgramState → Outcome Flow) (grown : Within (known_numbers (o ∷ []) ++ d) e) (bodies : (ls : Locals) (σ : Shelf) (w : ProgramState) → Fitting g (known_numbers (o ∷ []) ++ d) ls σ w → Sound σ (Leaves (inside_loop g) (known_numbers (o ∷ []) ++ d) e ends breaks) (body ls w)) (body_takes : Takes body) where
  abbrev Walking : Flow → Shelf → ProgramState → Type 0
  Walking = Leaves g d d false false

  new : (o : Option ℕ) → IsCounter g o t → AreNew g.locals (o ∷ []) (t ∷ [])
  new None k = tt
  new (Some n) k = ((t, k, refl), tt)

  counted : (σ : Shelf) (c : ℕ) → nat_lt c h ≡ true → Of σ t (single (Int (pos c)))
  counted σ c l = by_underlying σ t (single (Int (pos c))) (subst (λ s. Of σ s (single (Int (pos c)))) (sym is) (below i c h l fit, refl, tt))

  enough : Within d e
  enough n k = grown n (within_more (known_numbers (o ∷ [])) d n k)

  abbrev Stepping : ℕ → (Locals → ProgramState → Outcome Flow) → Type 0
  Stepping n next = (ls : Locals) (σ : Shelf) (w : ProgramState) → w.ticks ≤ n → Fitting g d ls σ w → Sound σ Walking (next ls w)

  walked : (n : ℕ) (next : Locals → ProgramState → Outcome Flow) → Stepping n next → (f : Flow) (σ : Shelf) (w : ProgramState) → w.ticks ≤ n → Leaves (inside_loop g) (known_numbers (o ∷ []) ++ d) e ends breaks f σ w → Sound σ Walking (after_turn next f w)
  walked n next turn (Normal ls) σ w le k = turn ls σ w le (before g d e ls σ w enough k.0)
  walked n next turn (Breaks ls) σ w le k = (σ, grows_not σ, (before g d (known_numbers (o ∷ []) ++ d) ls σ w (within_more (known_numbers (o ∷ [])) d) k.0, refl))
  walked n next turn (Continues ls) σ w le k = turn ls σ w le (before g d (known_numbers (o ∷ []) ++ d) ls σ w (within_more (known_numbers (o ∷ [])) d) k.0)
  walked n next turn (Returns vs) σ w le k = (σ, grows_not σ, k)

  pub walk_leaves : (n c : ℕ) (ls : Locals) (σ : Shelf) (w : ProgramState) → w.ticks < n → Fitting g d ls σ w → Sound σ Walking (walk n c h o body ls w)
  walk_leaves zero c ls σ w few k = absurd (omega (arith, few))
  walk_leaves (suc n) c ls σ w few k = by_test (nat_lt c h) refl (walk_leaves n (c + 1))
    where
      go : ProgramState → Outcome Flow
      go w1 = and_then (if_known (defined (o ∷ []) (single (Int (pos c)) ∷ []) ls) w1) (λ ls1 w2. and_then (body ls1 w2) (after_turn (walk n (c + 1) h o body)))

      by_test : (b : Bool) → nat_lt c h ≡ b → ((ls : Locals) (σ : Shelf) (w : ProgramState) → w.ticks < n → Fitting g d ls σ w → Sound σ Walking (walk n (c + 1) h o body ls w)) → Sound σ Walking (if b then with_tick w go else normal ls w)
      by_test true l turn =
          let r = defined_is σ g.locals d (o ∷ []) (t ∷ []) (single (Int (pos c)) ∷ []) ls (new o counts) (counted σ c l, tt) k.0 in
          ticked_by Walking σ w go (λ m some.
          let fewer : m < n = omega (arith, few, some) in
          rw (r.1)
          (sound_then σ (λ f σ1 w1. Leaves (inside_loop g) (known_numbers (o ∷ []) ++ d) e ends breaks f σ1 w1 × (w1.ticks ≤ m)) Walking (body r.0 (record w { ticks = m })) (after_turn (walk n (c + 1) h o body))
          (sound_within σ (Leaves (inside_loop g) (known_numbers (o ∷ []) ++ d) e ends breaks) m (body r.0 (record w { ticks = m })) (bodies r.0 σ (record w { ticks = m }) (r.2, k.1)) (body_takes m r.0 (record w { ticks = m }) (itself m)))
          (λ f σ1 w1 grown1 q. walked m (walk n (c + 1) h o body) (λ ls1 σ2 w2 le fits. turn ls1 σ2 w2 (omega (arith, le, fewer)) fits) f σ1 w1 q.1 q.0)))
      by_test false l turn = (σ, grows_not σ, (k, refl))
