-- Arrays that stand on a shelf, and what slices of values do with them.
use Rattle.std.proofs.Common.{◌≡◌, ℕ, zero, suc, ◌+◌, ◌-◌, ◌*◌, ◌≤◌, Bool, true, false, ◌&&◌, nat_le, nat_eq, List, [], ◌∷◌, ◌++◌, length, take, drop, Some, ℤ, pos, negsuc, refl, sym, ap, ◌∙◌, subst, arith, length-append, length-take, length-drop, if◌then◌else◌}
use Rattle.std.specs.Prelude.{slice_get, slice_set}
use Rattle.std.specs.List.{list_all}
use Rattle.std.proofs.lemmas.Bool.{leb-true, le-leb}
use Rattle.go_types.specs.Types.{Type', array, slice}
use Rattle.go_types.specs.Sizes.{cells}
use Rattle.go_code.specs.declared.cell.Cell.TheVariants.{Int, Bool as Truth, Text, Slice}
use Rattle.go_code.specs.declared.ending.PanicKind.TheVariants.{Long, Make as Making}
use Rattle.go_code.specs.Operators as operators
use Rattle.go_code.specs.Rows.{row_of, most_room, has_room, make_sizes, grown}
use Rattle.go_meaning.specs.Values.{Value, single, parts, Values, pack_values, unpack, is_of}
use Rattle.go_meaning.specs.Meaning.{ProgramState, Outcome, Gives, and_then, array_of, elements_of_slice, overwritten, with_array, with_elements}
use Rattle.go_meaning_laws.proofs.Shelf.{Shelf, grows_one, Lies, Each, each_map, each_append, each_take, each_drop, Rooted}
use Rattle.go_meaning_laws.proofs.Values.{AllProper, Of, both_true, true_both, number_same, same_number, each_grow}
use Rattle.go_meaning_laws.proofs.Parts.{Fine}

-- an array has so many elements, values of that type, and there is room for them
abbrev pub StandsOne : Shelf → Type' × ℕ → List Value → Type 0
StandsOne σ a vs = (length vs ≡ a.1) × Each (Of σ a.0) vs × (has_room (cells a.0) a.1 ≡ true)

-- these arrays stand at these places of the whole shelf
abbrev pub StandAt : Shelf → Shelf → List (List Value) → Type 0
StandAt σ [] [] = Unit {0}
StandAt σ [] (vs ∷ arrays) = ⊥
StandAt σ (a ∷ bs) [] = ⊥
StandAt σ (a ∷ bs) (vs ∷ arrays) = StandsOne σ a vs × StandAt σ bs arrays

-- array 0 has nothing
abbrev pub Stands : Shelf → List (List Value) → Type 0
Stands σ [] = ⊥
Stands σ (vs ∷ arrays) = (vs ≡ []) × StandAt σ σ arrays

stand_more : (σ more bs : Shelf) (arrays : List (List Value)) → StandAt σ bs arrays → StandAt (σ ++ more) bs arrays
stand_more σ more [] [] h = tt
stand_more σ more [] (vs ∷ arrays) h = absurd h
stand_more σ more (a ∷ bs) [] h = absurd h
stand_more σ more (a ∷ bs) (vs ∷ arrays) h = (((h.0).0, each_grow a.0 vs (record { more = more; is = refl }) (h.0).1, (h.0).2), stand_more σ more bs arrays h.1)

stand_long : (σ bs : Shelf) (arrays : List (List Value)) → StandAt σ bs arrays → length arrays ≡ length bs
stand_long σ [] [] h = refl
stand_long σ [] (vs ∷ arrays) h = absurd h
stand_long σ (a ∷ bs) [] h = absurd h
stand_long σ (a ∷ bs) (vs ∷ arrays) h = ap suc (stand_long σ bs arrays h.1)

-- an array that is new
stand_new : (σ bs : Shelf) (a : Type' × ℕ) (vs : List Value) (arrays : List (List Value)) → StandAt σ bs arrays → StandsOne σ a vs → StandAt σ (bs ++ a ∷ []) (arrays ++ vs ∷ [])
stand_new σ [] a vs [] h new = (new, tt)
stand_new σ [] a vs (x ∷ arrays) h new = absurd h
stand_new σ (b ∷ bs) a vs [] h new = absurd h
stand_new σ (b ∷ bs) a vs (x ∷ arrays) h new = (h.0, stand_new σ bs a vs arrays h.1 new)

-- an array that has other elements
stand_set : (σ bs : Shelf) (r : ℕ) (a : Type' × ℕ) (vs : List Value) (arrays : List (List Value)) → slice_get bs r ≡ Some a → StandAt σ bs arrays → StandsOne σ a vs → StandAt σ bs (slice_set arrays r vs)
stand_set σ [] r a vs arrays e h new = cc
stand_set σ (b ∷ bs) r a vs [] e h new = absurd h
stand_set σ (b ∷ bs) zero a vs (x ∷ arrays) e h new = (let same : b ≡ a = cc in (subst (λ q. StandsOne σ q vs) (sym same) new, h.1))
stand_set σ (b ∷ bs) (suc r) a vs (x ∷ arrays) e h new = (h.0, stand_set σ bs r a vs arrays e h.1 new)

stand_get : (σ bs : Shelf) (r : ℕ) (a : Type' × ℕ) (arrays : List (List Value)) → slice_get bs r ≡ Some a → StandAt σ bs arrays → StandsOne σ a (row_of arrays r)
stand_get σ [] r a arrays e h = cc
stand_get σ (b ∷ bs) r a [] e h = absurd h
stand_get σ (b ∷ bs) zero a (vs ∷ arrays) e h = (let same : b ≡ a = cc in subst (λ q. StandsOne σ q vs) same h.0)
stand_get σ (b ∷ bs) (suc r) a (vs ∷ arrays) e h = stand_get σ bs r a arrays e h.1

get_last : (σ : Shelf) (a : Type' × ℕ) → slice_get (σ ++ a ∷ []) (length σ) ≡ Some a
get_last [] a = refl
get_last (b ∷ σ) a = get_last σ a

room_none : (size : ℕ) → has_room size 0 ≡ true
unfolding Rattle.go_code.specs.Rows.most_room
room_none size = (let none : 0 * size ≡ 0 = omega arith in ap (λ n. nat_le 0 16777216 && nat_le n 16777216) none)

-- ---- values of one type

-- they are, each of them
pub each_typed : (σ : Shelf) (t : Type') (vs : List Value) → Each (Of σ t) vs → list_all (is_of t) vs ≡ true
each_typed σ t [] h = refl
each_typed σ t (v ∷ vs) h = true_both (is_of t v) (list_all (is_of t) vs) (h.0).0 (each_typed σ t vs h.1)

each_proper : (σ : Shelf) (t : Type') (vs : List Value) → Each (Of σ t) vs → AllProper (pack_values vs)
each_proper σ t [] h = tt
each_proper σ t (v ∷ vs) h = ((h.0).1, each_proper σ t vs h.1)

unpacked : (vs : List Value) → unpack (pack_values vs) ≡ vs
unpacked [] = refl
unpacked (v ∷ vs) = ap (λ l. v ∷ l) (unpacked vs)

-- so they are the elements of an array
each_array : (σ : Shelf) (t : Type') (n : ℕ) (vs : List Value) → length vs ≡ n → Each (Of σ t) vs → Of σ (array n t) (parts (pack_values vs))
each_array σ t n vs l h = (
  ap (λ us. nat_eq (length us) n && list_all (is_of t) us) (unpacked vs) ∙ true_both (nat_eq (length vs) n) (list_all (is_of t) vs) (number_same (length vs) n l) (each_typed σ t vs h),
  each_proper σ t vs h,
  subst (Each (Rooted σ t)) (sym (unpacked vs)) (each_map (Of σ t) (Rooted σ t) vs (λ v k. k.2) h),
)

of_each : (σ : Shelf) (t : Type') (vs : List Value) → list_all (is_of t) vs ≡ true → AllProper (pack_values vs) → Each (Rooted σ t) vs → Each (Of σ t) vs
of_each σ t [] e p r = tt
of_each σ t (v ∷ vs) e p r = (let h = both_true (is_of t v) (list_all (is_of t) vs) e in ((h.0, p.0, r.0), of_each σ t vs h.1 p.1 r.1))

packed : (vs : Values) → AllProper vs → AllProper (pack_values (unpack vs))
packed Values.no_values h = tt
packed (Values.some_values v vs) h = (h.0, packed vs h.1)

-- an array's elements
pub array_each : (σ : Shelf) (t : Type') (n : ℕ) (vs : Values) → Of σ (array n t) (parts vs) → (length (unpack vs) ≡ n) × Each (Of σ t) (unpack vs)
array_each σ t n vs h =
    let e = both_true (nat_eq (length (unpack vs)) n) (list_all (is_of t) (unpack vs)) h.0 in
    (same_number (length (unpack vs)) n e.0, of_each σ t (unpack vs) e.1 (packed vs h.1) h.2)

-- ---- a slice finds its array

abbrev Finds : Shelf → Type' → ℕ → ℕ → ℕ → ℕ → ProgramState → Type 0
Finds σ t r start n c w = (array_of t r start n c w ≡ Gives (row_of w.arrays r) w) × Each (Of σ t) (row_of w.arrays r) × (n ≤ c) × (start + c ≤ length (row_of w.arrays r))

if_gives : (b : Bool) (vs : List Value) (w : ProgramState) → b ≡ true → (if b then Gives vs w else Outcome.Stuck) ≡ Gives vs w
if_gives b vs w e = ap (λ x. if x then Gives vs w else Outcome.Stuck) e

pub array_found : (σ : Shelf) (t : Type') (r start n c : ℕ) (w : ProgramState) (arrays : List (List Value)) → w.arrays ≡ arrays → Stands σ arrays → Lies σ t r start n c → Finds σ t r start n c w
array_found σ t r start n c w [] e h lies = absurd h
array_found σ t zero start n c w (vs ∷ arrays) e h lies =
    let none : row_of w.arrays zero ≡ [] = ap (λ l. row_of l zero) e ∙ h.0 in
    let within : start + c ≤ length (row_of w.arrays zero) = omega (arith, lies.0, lies.2) in
    let less : n ≤ c = omega (arith, lies.1) in (
      if_gives _ (row_of w.arrays zero) w
          (true_both _ _ (ap (list_all (is_of t)) none) (true_both _ _ (le-leb n c less) (true_both _ _ (le-leb (start + c) (length (row_of w.arrays zero)) within) (ap (λ (l : List Value). has_room (cells t) (length l)) none ∙ room_none (cells t))))),
      subst (Each (Of σ t)) (sym none) tt,
      less,
      within,
    )
array_found σ t (suc r) start n c w (vs ∷ arrays) e h lies =
    let one = stand_get σ σ r (t, lies.0) arrays lies.1 h.1 in
    let found : row_of w.arrays (suc r) ≡ row_of arrays r = ap (λ l. row_of l (suc r)) e in
    let long : length (row_of w.arrays (suc r)) ≡ lies.0 = ap length found ∙ one.0 in
    let within : start + c ≤ length (row_of w.arrays (suc r)) = omega (arith, lies.3, long) in (
      if_gives _ (row_of w.arrays (suc r)) w
          (true_both _ _ (ap (list_all (is_of t)) found ∙ each_typed σ t (row_of arrays r) one.1) (true_both _ _ (le-leb n c lies.2) (true_both _ _ (le-leb (start + c) (length (row_of w.arrays (suc r))) within) (ap (has_room (cells t)) long ∙ one.2)))),
      subst (Each (Of σ t)) (sym found) one.1,
      lies.2,
      within,
    )

-- ---- elements are overwritten

overwritten_long : (all vs : List Value) (place : ℕ) → place + length vs ≤ length all → length (overwritten all place vs) ≡ length all
overwritten_long all vs place l = simp (length-append, length-take, length-drop) (omega arith)

overwritten_each : (P : Value → Type 0) (all vs : List Value) (place : ℕ) → Each P all → Each P vs → Each P (overwritten all place vs)
overwritten_each P all vs place h k = each_append P (take place all ++ vs) (drop (place + length vs) all) (each_append P (take place all) vs (each_take P place all h) k) (each_drop P (place + length vs) all h)

nothing : (vs : List Value) → length vs ≡ 0 → vs ≡ []
nothing [] e = refl
nothing (v ∷ vs) e = absurd (omega (arith, e))

-- within a slice's capacity
pub stands_set : (σ : Shelf) (t : Type') (row start n c place : ℕ) (vs : List Value) (arrays : List (List Value)) → Stands σ arrays → Lies σ t row start n c → start ≤ place → place + length vs ≤ start + c → Each (Of σ t) vs → Stands σ (slice_set arrays row (overwritten (row_of arrays row) place vs))
stands_set σ t row start n c place vs [] h lies low high k = absurd h
stands_set σ t zero start n c place vs (x ∷ arrays) h lies low high k =
    let at : place ≡ 0 = omega (arith, lies.0, lies.2, low, high) in
    let none : vs ≡ [] = nothing vs (omega (arith, lies.0, lies.2, low, high)) in
    (ap (λ l. overwritten l place vs) h.0 ∙ ap (λ p. overwritten [] p vs) at ∙ ap (λ l. overwritten [] 0 l) none, h.1)
stands_set σ t (suc r) start n c place vs (x ∷ arrays) h lies low high k =
    let one = stand_get σ σ r (t, lies.0) arrays lies.1 h.1 in
    let all : List Value = row_of arrays r in
    let long : length all ≡ lies.0 = one.0 in
    let room : place + length vs ≤ length all = omega (arith, long, lies.3, high) in
    (h.0, stand_set σ σ r (t, lies.0) (overwritten all place vs) arrays lies.1 h.1 (overwritten_long all vs place room ∙ long, overwritten_each (Of σ t) all vs place one.1 k, one.2))

-- ---- a new array

pub stands_new : (σ : Shelf) (t : Type') (m : ℕ) (all : List Value) (arrays : List (List Value)) → Stands σ arrays → length all ≡ m → Each (Of σ t) all → has_room (cells t) m ≡ true → Stands (σ ++ (t, m) ∷ []) (arrays ++ all ∷ [])
stands_new σ t m all [] h l k room = absurd h
stands_new σ t m all (x ∷ arrays) h l k room =
    let later : Shelf = σ ++ (t, m) ∷ [] in
    (h.0, stand_new later σ (t, m) all arrays (stand_more σ ((t, m) ∷ []) σ arrays h.1) (l, each_grow t all (grows_one σ (t, m)) k, room))

pub lies_new : (σ : Shelf) (t : Type') (n m : ℕ) (arrays : List (List Value)) → Stands σ arrays → n ≤ m → has_room (cells t) m ≡ true → Lies (σ ++ (t, m) ∷ []) t (length arrays) 0 n m
lies_new σ t n m [] h l room = absurd h
lies_new σ t n m (x ∷ arrays) h l room =
    let long : length arrays ≡ length σ = stand_long σ σ arrays h.1 in
    let few : m ≤ most_room = leb-true m most_room (both_true (nat_le m most_room) (nat_le (m * cells t) most_room) room).0 in
    (m, subst (λ r. slice_get (σ ++ (t, m) ∷ []) r ≡ Some (t, m)) (sym long) (get_last σ (t, m)), l, omega arith, few)

-- ---- the elements of a slice

-- so many elements are found, and others of that number may be put there
pub record Window (σ : Shelf) (t : Type') (v : Value) (w : ProgramState) : Type 0 where
  pub count : ℕ
  pub whole : List Value
  pub found : elements_of_slice t v w ≡ Gives (parts (pack_values whole)) w
  pub typed : Of σ (array count t) (parts (pack_values whole))
  pub put : (vs : List Value) → length vs ≡ count → Each (Of σ t) vs → (later : ProgramState) × (with_elements t v vs w ≡ Gives later w) × (later.variables ≡ w.variables) × Stands σ later.arrays

if_put : (b : Bool) (later w : ProgramState) → b ≡ true → (if b then Gives later w else Outcome.Stuck) ≡ Gives later w
if_put b later w e = ap (λ x. if x then Gives later w else Outcome.Stuck) e

window_at : (σ : Shelf) (t : Type') (row start n c : ℕ) (w : ProgramState) → Lies σ t row start n c → Stands σ w.arrays → Window σ t (single (Slice row start n c)) w
window_at σ t row start n c w lies stands =
    let f = array_found σ t row start n c w w.arrays refl stands lies in
    let all : List Value = row_of w.arrays row in
    let some : List Value = take n (drop start all) in
    let long : length some ≡ n = simp (length-take, length-drop) (omega (arith, f.2, f.3)) in
    record {
      count = n;
      whole = some;
      found = ap (λ (o : Outcome (List Value)). and_then o (λ all1. Gives (parts (pack_values (take n (drop start all1)))))) f.0;
      typed = each_array σ t n some long (each_take (Of σ t) n (drop start all) (each_drop (Of σ t) start all f.1));
      put = λ vs l k. (
          let later : ProgramState = with_array w row (overwritten all start vs) in (
            later,
            if_put _ later w (true_both (list_all (is_of t) vs) (nat_eq (length vs) n) (each_typed σ t vs k) (number_same (length vs) n l)),
            refl,
            stands_set σ t row start n c start vs w.arrays stands lies (omega arith) (omega (arith, l, f.2)) k,
          ));
    }

pub window : (σ : Shelf) (t : Type') (v : Value) (w : ProgramState) → Of σ (slice t) v → Stands σ w.arrays → Window σ t v w
window σ t (single (Slice row start n c)) w h stands = window_at σ t row start n c w h.2 stands
window σ t (single (Int z)) w h stands = (let k = h.0 in absurd (cc))
window σ t (single (Truth b)) w h stands = (let k = h.0 in absurd (cc))
window σ t (single (Text s)) w h stands = (let k = h.0 in absurd (cc))
window σ t (parts vs) w h stands = (let k = h.0 in absurd (cc))

-- ---- how much room there is

-- a length and a capacity that are asked for
abbrev pub Roomy : ℕ → ℕ × ℕ → Type 0
Roomy size s = (s.0 ≤ s.1) × (has_room size s.1 ≡ true)

pub asked_fine : (size : ℕ) (x y : ℤ) → Fine (Roomy size) (make_sizes size (Int x) (Int y))
asked_fine size (negsuc x) (pos y) = tt
asked_fine size (negsuc x) (negsuc y) = tt
asked_fine size (pos x) (negsuc y) = tt
asked_fine size (pos x) (pos y) = by_order (nat_le x y) refl
  where
    by_room : (b : Bool) → x ≤ y → has_room size y ≡ b → Fine (Roomy size) (if b then operators.Gives (x, y) else operators.Panics Long)
    by_room true l e = (l, e)
    by_room false l e = tt

    by_order : (b : Bool) → nat_le x y ≡ b → Fine (Roomy size) (if b then (if has_room size y then operators.Gives (x, y) else operators.Panics Long) else operators.Panics Making)
    by_order true e = by_room (has_room size y) (leb-true x y e) refl
    by_order false e = tt

-- a capacity for so many elements
pub grown_fine : (size count old : ℕ) → Fine (λ room. (count ≤ room) × (has_room size room ≡ true)) (grown size count old)
grown_fine size count old = by_double (has_room size (old + old) && nat_le count (old + old)) refl
  where
    by_room : (new : ℕ) (b : Bool) → count ≤ new → has_room size new ≡ b → Fine (λ room. (count ≤ room) × (has_room size room ≡ true)) (if b then operators.Gives new else operators.Panics Long)
    by_room new true l e = (l, e)
    by_room new false l e = tt

    by_double : (b : Bool) → (has_room size (old + old) && nat_le count (old + old)) ≡ b → Fine (λ room. (count ≤ room) × (has_room size room ≡ true)) (if has_room size (if b then old + old else count) then operators.Gives (if b then old + old else count) else operators.Panics Long)
    by_double true e = by_room (old + old) (has_room size (old + old)) (leb-true count (old + old) (both_true (has_room size (old + old)) (nat_le count (old + old)) e).1) refl
    by_double false e = by_room count (has_room size count) (omega arith) refl
