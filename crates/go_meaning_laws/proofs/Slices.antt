-- Slices that are made or appended to are parts of arrays on the shelf, which grows by one where an array is new.
use Rattle.std.proofs.Common.{◌≡◌, ℕ, zero, suc, ◌+◌, ◌-◌, ◌≤◌, Bool, true, false, nat_le, List, [], ◌∷◌, ◌++◌, length, take, drop, replicate, Option, refl, sym, subst, arith, length-append, length-take, length-drop, if◌then◌else◌}
use Rattle.std.proofs.lemmas.List.{length-replicate}
use Rattle.std.specs.Prelude.{slice_set}
use Rattle.std.proofs.lemmas.Bool.{leb-true}
use Rattle.go_types.specs.Types.{Type', basic, array, slice, struct, named}
use Rattle.go_types.specs.Relations.{underlying}
use Rattle.go_types.specs.Sizes.{cells}
use Rattle.go_code.specs.declared.cell.Cell.TheVariants.{Int, Bool as Truth, Text, Slice}
use Rattle.go_code.specs.Operators as operators
use Rattle.go_code.specs.Rows.{row_of, has_room, make_sizes, grown}
use Rattle.go_typed.specs.Trees.{Symbol}
use Rattle.go_meaning.specs.Values.{Value, single, parts, zero_of}
use Rattle.go_meaning.specs.Meaning.{ProgramState, Outcome, Gives, Stuck, and_then, or_panic, array_of, overwritten, with_array, new_array, made, appended}
use Rattle.go_meaning_laws.specs.WellTyped.{is_slice, IsWhole}
use Rattle.go_meaning_laws.proofs.Shelf.{Shelf, grows_not, grows_one, Lies, Each, each_append, each_take, each_drop, each_copy}
use Rattle.go_meaning_laws.proofs.Values.{Of, zero_is}
use Rattle.go_meaning_laws.proofs.Parts.{Fine}
use Rattle.go_meaning_laws.proofs.Operators.{IsNumber, number}
use Rattle.go_meaning_laws.proofs.Arrays.{Stands, each_typed, array_found, stands_set, stands_new, lies_new, Roomy, asked_fine, grown_fine}
use Rattle.go_meaning_laws.proofs.Worlds.{Sound, sound_then, Keeps, Valued, sound_changed, stores_grow}

-- a type of slices is one of some elements, which is whole where it is
pub slice_of : (s : Type') → is_slice s ≡ true → (u : Type') × (s ≡ slice u)
slice_of (slice u) e = (u, refl)
slice_of (basic b) e = absurd (cc)
slice_of (array n t) e = absurd (cc)
slice_of (struct fs) e = absurd (cc)
slice_of (named p x t) e = absurd (cc)

whole_under : (t : Type') → IsWhole t → IsWhole (underlying t)
whole_under (basic b) h = h
whole_under (array n t) h = h
whole_under (slice t) h = h
whole_under (struct fs) h = h
whole_under (named p x t) h = whole_under t h

pub whole_elements : (t u : Type') → underlying t ≡ slice u → IsWhole t → IsWhole u
whole_elements t u e h = subst IsWhole e (whole_under t h)

-- with another length within the capacity
lies_longer : (σ : Shelf) (u : Type') (row start n c k : ℕ) → k ≤ c → Lies σ u row start n c → Lies σ u row start k c
lies_longer σ u zero start n c k l h = (h.0, omega (arith, l, h.2), h.2)
lies_longer σ u (suc row) start n c k l h = (h.0, h.1, l, h.3, h.4)

module _ (types : Symbol → Option Type') where
  new_is : (u : Type') (n m : ℕ) (all : List Value) (σ : Shelf) (w : ProgramState) → n ≤ m → has_room (cells u) m ≡ true → length all ≡ m → Each (Of σ u) all → Keeps types σ w → Sound σ (Valued types (slice u)) (new_array all n m w)
  new_is u n m all σ w l room long each good =
      (σ ++ (u, m) ∷ [], grows_one σ (u, m), ((refl, refl, lies_new σ u n m w.arrays good.1 l room), (stores_grow (grows_one σ (u, m)) good.0, stands_new σ u m all w.arrays good.1 long each room)))

  pub made_is : (u i j : Type') (x y : Value) (σ : Shelf) (w : ProgramState) → IsWhole u → IsNumber i x → IsNumber j y → Keeps types σ w → Sound σ (Valued types (slice u)) (made u x y w)
  made_is u i j x y σ w whole (number ki a ei ea fa) (number kj b ej eb fb) good =
      subst (λ v. Sound σ (Valued types (slice u)) (made u v y w)) (sym ea) (subst (λ v. Sound σ (Valued types (slice u)) (made u (single (Int a)) v w)) (sym eb)
      (sound_then σ (λ (s : ℕ × ℕ) σ1 w1. Roomy (cells u) s × Keeps types σ1 w1) (Valued types (slice u)) (or_panic (make_sizes (cells u) (Int a) (Int b)) w) (λ sizes. new_array (replicate sizes.1 (zero_of u)) sizes.0 sizes.1)
      (sound_changed types (λ s σ1. Roomy (cells u) s) (make_sizes (cells u) (Int a) (Int b)) σ w good (asked_fine (cells u) a b))
      (λ s σ1 w1 grown1 h. new_is u s.0 s.1 (replicate s.1 (zero_of u)) σ1 w1 (h.0).0 (h.0).1 (length-replicate s.1 (zero_of u)) (each_copy (Of σ1 u) s.1 (zero_of u) (zero_is σ1 u whole)) h.1)))

  -- in place, or in a new array
  fitted : (u : Type') (row start n c : ℕ) (vs all : List Value) (σ : Shelf) (w : ProgramState) → IsWhole u → Lies σ u row start n c → all ≡ row_of w.arrays row → Each (Of σ u) all → n ≤ c → start + c ≤ length all → Each (Of σ u) vs → Keeps types σ w → (b : Bool) → nat_le (n + length vs) c ≡ b
      → Sound σ (Valued types (slice u)) (if b then Gives (single (Slice row start (n + length vs) c)) (with_array w row (overwritten all (start + n) vs))
      else and_then (or_panic (grown (cells u) (n + length vs) c) w) (λ room. new_array (take n (drop start all) ++ vs ++ replicate (room - (n + length vs)) (zero_of u)) (n + length vs) room))
  fitted u row start n c vs all σ w whole lies same typed less within each good true e =
      let enough : n + length vs ≤ c = leb-true (n + length vs) c e in
      let stands = stands_set σ u row start n c (start + n) vs w.arrays good.1 lies (omega arith) (omega (arith, enough)) each in
      (σ, grows_not σ, ((refl, refl, lies_longer σ u row start n c (n + length vs) enough lies), (good.0, subst (λ l. Stands σ (slice_set w.arrays row (overwritten l (start + n) vs))) (sym same) stands)))
  fitted u row start n c vs all σ w whole lies same typed less within each good false e =
      let count : ℕ = n + length vs in
      sound_then σ (λ (room : ℕ) σ1 w1. ((count ≤ room) × (has_room (cells u) room ≡ true) × Each (Of σ1 u) all × Each (Of σ1 u) vs) × Keeps types σ1 w1) (Valued types (slice u)) (or_panic (grown (cells u) count c) w)
      (λ room. new_array (take n (drop start all) ++ vs ++ replicate (room - count) (zero_of u)) count room)
      (sound_changed types (λ room σ1. (count ≤ room) × (has_room (cells u) room ≡ true) × Each (Of σ1 u) all × Each (Of σ1 u) vs) (grown (cells u) count c) σ w good (with_more (grown (cells u) count c) (grown_fine (cells u) count c)))
      (λ room σ1 w1 grown1 h.
      let old : List Value = take n (drop start all) in
      let rest : List Value = replicate (room - count) (zero_of u) in
      let some : length old ≡ n = simp (length-take, length-drop) (omega (arith, less, within)) in
      let zeros : length rest ≡ room - count = length-replicate (room - count) (zero_of u) in
      let long : length (old ++ vs ++ rest) ≡ room = omega (arith, length-append (old ++ vs) rest, length-append old vs, some, zeros, (h.0).0) in
      new_is u count room (old ++ vs ++ rest) σ1 w1 (h.0).0 (h.0).1 long
      (each_append (Of σ1 u) (old ++ vs) rest (each_append (Of σ1 u) old vs (each_take (Of σ1 u) n (drop start all) (each_drop (Of σ1 u) start all (h.0).2)) (h.0).3) (each_copy (Of σ1 u) (room - count) (zero_of u) (zero_is σ1 u whole))) h.1)
    where
      with_more : (o : operators.Operated ℕ) → Fine (λ room. (n + length vs ≤ room) × (has_room (cells u) room ≡ true)) o → Fine (λ room. (n + length vs ≤ room) × (has_room (cells u) room ≡ true) × Each (Of σ u) all × Each (Of σ u) vs) o
      with_more (operators.Gives room) k = (k.0, k.1, typed, each)
      with_more (operators.Panics kind) k = tt
      with_more operators.Senseless k = absurd k

  pub appended_is : (u : Type') (v : Value) (vs : List Value) (σ : Shelf) (w : ProgramState) → IsWhole u → Of σ (slice u) v → Each (Of σ u) vs → Keeps types σ w → Sound σ (Valued types (slice u)) (appended u v vs w)
  appended_is u (single (Slice row start n c)) vs σ w whole h each good =
      let f = array_found σ u row start n c w w.arrays refl good.1 h.2 in
      let all : List Value = row_of w.arrays row in
      let next : List Value → ProgramState → Outcome Value = λ all1 w1.
      if nat_le (n + length vs) c then Gives (single (Slice row start (n + length vs) c)) (with_array w1 row (overwritten all1 (start + n) vs))
      else and_then (or_panic (grown (cells u) (n + length vs) c) w1) (λ room. new_array (take n (drop start all1) ++ vs ++ replicate (room - (n + length vs)) (zero_of u)) (n + length vs) room) in
      let body : Sound σ (Valued types (slice u)) (next all w) = fitted u row start n c vs all σ w whole h.2 refl f.1 f.2 f.3 each good (nat_le (n + length vs) c) refl in
      subst (λ b. Sound σ (Valued types (slice u)) (if b then and_then (array_of u row start n c w) next else Stuck)) (sym (each_typed σ u vs each))
      (subst (λ (o : Outcome (List Value)). Sound σ (Valued types (slice u)) (and_then o next)) (sym f.0) body)
  appended_is u (single (Int z)) vs σ w whole h each good = (let k = h.0 in absurd (cc))
  appended_is u (single (Truth b)) vs σ w whole h each good = (let k = h.0 in absurd (cc))
  appended_is u (single (Text s)) vs σ w whole h each good = (let k = h.0 in absurd (cc))
  appended_is u (parts xs) vs σ w whole h each good = (let k = h.0 in absurd (cc))
