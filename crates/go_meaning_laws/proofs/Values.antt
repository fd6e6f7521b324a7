-- Values of types: parts of them, zero values, and how many cells they have.
use Rattle.std.proofs.Common.{◌≡◌, ℕ, zero, suc, ◌*◌, Bool, true, false, ◌&&◌, List, [], ◌∷◌, length, map, replicate, Some, pos, refl, sym, ap, ◌∙◌, subst, arith, length-append, nat_eq}
use Rattle.std.specs.List.{list_all}
use Rattle.std.proofs.lemmas.Bool.{eqb-true, eq-eqb}
use Rattle.go_const.specs.Constants.{fits}
use Rattle.go_const.specs.declared.kind.IntKind.{IntKind}
use Rattle.go_const.specs.declared.kind.IntKind.TheVariants as integers
use Rattle.go_types.specs.declared.types.Basic.{Basic}
use Rattle.go_types.specs.declared.types.Basic.TheVariants as basics
use Rattle.go_types.specs.declared.types.Untyped.TheVariants as kinds
use Rattle.go_types.specs.Types.{Type', basic, array, slice, struct, named, Fields, no_fields, field}
use Rattle.go_types.specs.Relations.{underlying}
use Rattle.go_types.specs.Sizes.{cells, cells_of}
use Rattle.go_const.specs.declared.constant.Const.{Const}
use Rattle.go_const.specs.declared.constant.Const.TheVariants as consts
use Rattle.go_meaning.specs.Choices.{cell_of}
use Rattle.go_meaning.specs.Values.{Value, single, parts, Values, no_values, some_values, pack_values, unpack, flat, flat_all, is_of, is_basic, are_of, are_of_fields, zero_of, zero_cell, zeros_of}
use Rattle.go_meaning_laws.specs.WellTyped.{IsConstant, IsWhole, AreWhole, AllWhole, is_typed, Suits, AllSuit, is_sound_cell}
use Rattle.go_meaning_laws.proofs.Shelf.{Shelf, Grows, Each, each_map, Rooted, rooted_under, under_rooted, rooted_more, zero_rooted}

-- texts in it are texts that an int counts, of bytes
abbrev mutual
  pub Proper : Value → Type 0
  Proper (single c) = is_sound_cell c ≡ true
  Proper (parts vs) = AllProper vs

  pub AllProper : Values → Type 0
  AllProper no_values = Unit {0}
  AllProper (some_values v vs) = Proper v × AllProper vs

-- a value of the type, whatever its slices are parts of
abbrev Typed : Type' → Value → Type 0
Typed t v = (is_of t v ≡ true) × Proper v

pub both_true : (p q : Bool) → (p && q) ≡ true → (p ≡ true) × (q ≡ true)
both_true true q e = (refl, e)
both_true false q e = cc

pub true_both : (p q : Bool) → p ≡ true → q ≡ true → (p && q) ≡ true
true_both true q e h = h
true_both false q e h = cc

pub same_number : (m n : ℕ) → nat_eq m n ≡ true → m ≡ n
same_number m n e = eqb-true m n e

pub number_same : (m n : ℕ) → m ≡ n → nat_eq m n ≡ true
number_same m n e = eq-eqb m n e

-- ---- underlying types

pub underlying_values : (t : Type') (v : Value) → is_of (underlying t) v ≡ is_of t v
underlying_values (basic b) v = refl
underlying_values (array n t) v = refl
underlying_values (slice t) v = refl
underlying_values (struct fs) v = refl
underlying_values (named path name t) v = underlying_values t v

pub underlying_cells : (t : Type') → cells (underlying t) ≡ cells t
underlying_cells (basic b) = refl
underlying_cells (array n t) = refl
underlying_cells (slice t) = refl
underlying_cells (struct fs) = refl
underlying_cells (named path name t) = underlying_cells t

-- ---- zero values

pub zero_fits : (i : IntKind) → fits (Some i) (pos 0) ≡ true
zero_fits integers.Int = refl
zero_fits integers.Int8 = refl
zero_fits integers.Int16 = refl
zero_fits integers.Int32 = refl
zero_fits integers.Int64 = refl
zero_fits integers.Uint = refl
zero_fits integers.Uint8 = refl
zero_fits integers.Uint16 = refl
zero_fits integers.Uint32 = refl
zero_fits integers.Uint64 = refl

zero_basic : (b : Basic) → is_typed b ≡ true → is_basic b (zero_cell b) ≡ true
zero_basic basics.Bool e = refl
zero_basic basics.String e = refl
zero_basic (basics.Integer i) e = zero_fits i
zero_basic (basics.Untyped kind) e = cc

zero_sound : (b : Basic) → is_sound_cell (zero_cell b) ≡ true
zero_sound basics.Bool = refl
zero_sound basics.String = refl
zero_sound (basics.Integer i) = refl
zero_sound (basics.Untyped kinds.Bool) = refl
zero_sound (basics.Untyped kinds.String) = refl
zero_sound (basics.Untyped kinds.Int) = refl
zero_sound (basics.Untyped kinds.Rune) = refl

copies : (n : ℕ) (t : Type') (v : Value) → Typed t v → (length (unpack (pack_values (replicate n v))) ≡ n) × (list_all (is_of t) (unpack (pack_values (replicate n v))) ≡ true) × AllProper (pack_values (replicate n v))
copies zero t v h = (refl, refl, tt)
copies (suc n) t v h =
    let r = copies n t v h in
    (ap suc r.0, true_both (is_of t v) (list_all (is_of t) (unpack (pack_values (replicate n v)))) h.0 r.1, (h.1, r.2))

mutual
  zero_typed : (t : Type') → IsWhole t → Typed t (zero_of t)
  zero_typed (basic b) w = (zero_basic b w, zero_sound b)
  zero_typed (array n t) w = let r = copies n t (zero_of t) (zero_typed t w) in (true_both _ _ (number_same _ n r.0) r.1, r.2)
  zero_typed (slice t) w = (refl, refl)
  zero_typed (struct fs) w = zeros_are fs w
  zero_typed (named path name t) w = zero_typed t w

  zeros_are : (fs : Fields) → AreWhole fs → (are_of_fields fs (unpack (zeros_of fs)) ≡ true) × AllProper (zeros_of fs)
  zeros_are no_fields w = (refl, tt)
  zeros_are (field p x t fs) w =
      let one = zero_typed t w.0 in
      let rest = zeros_are fs w.1 in
      (true_both (is_of t (zero_of t)) (are_of_fields fs (unpack (zeros_of fs))) one.0 rest.0, (one.1, rest.1))

-- ---- how many cells a value has

elements_long : (size : ℕ) (vs : List Value) (is : Value → Bool) → ((v : Value) → is v ≡ true → length (flat v) ≡ size) → list_all is vs ≡ true → length (flat_all (pack_values vs)) ≡ length vs * size
elements_long size [] is long e = omega arith
elements_long size (v ∷ vs) is long e =
    let h = both_true (is v) (list_all is vs) e in
    let rest = elements_long size vs is long h.1 in
    let one = long v h.0 in
    omega (arith, length-append (flat v) (flat_all (pack_values vs)), rest, one)

packed : (vs : Values) → pack_values (unpack vs) ≡ vs
packed no_values = refl
packed (some_values v vs) = ap (some_values v) (packed vs)

-- a value of a type has as many cells as the type says
mutual
  pub flat_long : (t : Type') (v : Value) → is_of t v ≡ true → length (flat v) ≡ cells t
  flat_long (basic b) (single c) e = refl
  flat_long (basic b) (parts vs) e = cc
  flat_long (slice t) (single c) e = refl
  flat_long (slice t) (parts vs) e = cc
  flat_long (array n t) (single c) e = cc
  flat_long (array n t) (parts vs) e =
      let h = both_true (nat_eq (length (unpack vs)) n) (list_all (is_of t) (unpack vs)) e in
      ap (λ l. length (flat_all l)) (sym (packed vs)) ∙ elements_long (cells t) (unpack vs) (is_of t) (flat_long t) h.1 ∙ ap (λ m. m * cells t) (same_number (length (unpack vs)) n h.0)
  flat_long (struct fs) (single c) e = cc
  flat_long (struct fs) (parts vs) e = ap (λ l. length (flat_all l)) (sym (packed vs)) ∙ fields_long fs (unpack vs) e
  flat_long (named path name t) v e = flat_long t v e

  fields_long : (fs : Fields) (vs : List Value) → are_of_fields fs vs ≡ true → length (flat_all (pack_values vs)) ≡ cells_of fs
  fields_long no_fields [] e = refl
  fields_long no_fields (v ∷ vs) e = cc
  fields_long (field p x t fs) [] e = cc
  fields_long (field p x t fs) (v ∷ vs) e =
      let h = both_true (is_of t v) (are_of_fields fs vs) e in
      let one = flat_long t v h.0 in
      let rest = fields_long fs vs h.1 in
      omega (arith, length-append (flat v) (flat_all (pack_values vs)), one, rest)

-- ---- values whose slices are parts of arrays on a shelf

rooted_constant : (σ : Shelf) (t : Type') (c : Const) → Rooted σ t (single (cell_of c))
rooted_constant σ (basic b) c = tt
rooted_constant σ (array n t) c = tt
rooted_constant σ (slice t) (consts.Integer z) = tt
rooted_constant σ (slice t) (consts.Text s) = tt
rooted_constant σ (slice t) (consts.Bool b) = tt
rooted_constant σ (struct fs) c = tt
rooted_constant σ (named p x t) c = rooted_constant σ t c

module _ (σ : Shelf) where
  -- a value of the type
  abbrev pub Of : Type' → Value → Type 0
  Of t v = (is_of t v ≡ true) × Proper v × Rooted σ t v

  abbrev pub AllOf : List Type' → List Value → Type 0
  AllOf [] [] = Unit {0}
  AllOf [] (v ∷ vs) = ⊥
  AllOf (t ∷ ts) [] = ⊥
  AllOf (t ∷ ts) (v ∷ vs) = Of t v × AllOf ts vs

  pub of_underlying : (t : Type') (v : Value) → Of t v → Of (underlying t) v
  of_underlying t v h = (underlying_values t v ∙ h.0, h.1, rooted_under σ t v h.2)

  pub by_underlying : (t : Type') (v : Value) → Of (underlying t) v → Of t v
  by_underlying t v h = (sym (underlying_values t v) ∙ h.0, h.1, under_rooted σ t v h.2)

  pub suits : (t u : Type') (v : Value) → Suits t u → Of t v → Of u v
  suits t u v e h = by_underlying u v (subst (λ s. Of s v) e (of_underlying t v h))

  pub all_suit : (ts us : List Type') (vs : List Value) → AllSuit ts us → AllOf ts vs → AllOf us vs
  all_suit [] [] [] e h = tt
  all_suit [] [] (v ∷ vs) e h = absurd h
  all_suit [] (u ∷ us) vs e h = absurd e
  all_suit (t ∷ ts) [] vs e h = absurd e
  all_suit (t ∷ ts) (u ∷ us) [] e h = absurd h
  all_suit (t ∷ ts) (u ∷ us) (v ∷ vs) e h = (suits t u v e.0 h.0, all_suit ts us vs e.1 h.1)

  pub all_are : (ts : List Type') (vs : List Value) → AllOf ts vs → are_of ts vs ≡ true
  all_are [] [] h = refl
  all_are [] (v ∷ vs) h = absurd h
  all_are (t ∷ ts) [] h = absurd h
  all_are (t ∷ ts) (v ∷ vs) h = true_both (is_of t v) (are_of ts vs) (h.0).0 (all_are ts vs h.1)

  pub all_long : (ts : List Type') (vs : List Value) → AllOf ts vs → length vs ≡ length ts
  all_long [] [] h = refl
  all_long [] (v ∷ vs) h = absurd h
  all_long (t ∷ ts) [] h = absurd h
  all_long (t ∷ ts) (v ∷ vs) h = ap suc (all_long ts vs h.1)

  pub zero_is : (t : Type') → IsWhole t → Of t (zero_of t)
  zero_is t w = (let r = zero_typed t w in (r.0, r.1, zero_rooted σ t))

  -- a constant has no slices
  pub constant_is : (t : Type') (c : Const) → IsConstant t c → Of t (single (cell_of c))
  constant_is t c h = (h.0, h.1, rooted_constant σ t c)

  pub all_zeros : (ts : List Type') → AllWhole ts → AllOf ts (map zero_of ts)
  all_zeros [] w = tt
  all_zeros (t ∷ ts) w = (zero_is t w.0, all_zeros ts w.1)

-- they stay so where the shelf grows
pub of_grow : {σ later : Shelf} (t : Type') (v : Value) → Grows σ later → Of σ t v → Of later t v
of_grow {σ} t v g h = (h.0, h.1, subst (λ s. Rooted s t v) (sym g.is) (rooted_more σ g.more t v h.2))

pub all_grow : {σ later : Shelf} (ts : List Type') (vs : List Value) → Grows σ later → AllOf σ ts vs → AllOf later ts vs
all_grow [] [] g h = tt
all_grow [] (v ∷ vs) g h = h
all_grow (t ∷ ts) [] g h = h
all_grow (t ∷ ts) (v ∷ vs) g h = (of_grow t v g h.0, all_grow ts vs g h.1)

pub each_grow : {σ later : Shelf} (t : Type') (vs : List Value) → Grows σ later → Each (Of σ t) vs → Each (Of later t) vs
each_grow {σ} {later} t vs g h = each_map (Of σ t) (Of later t) vs (λ v k. of_grow t v g k) h
