-- The part of a slice's elements that a left side names is loaded and stored as its meaning says.
use Rattle.std.proofs.Common.{◌≡◌, ℕ, zero, suc, ◌+◌, ◌*◌, ◌≤◌, Bool, true, false, ◌&&◌, nat_le, nat_lt, nat_eq, List, [], ◌∷◌, ◌++◌, length, take, drop, Some, refl, sym, ap, ◌∙◌, subst, arith, length-append, length-take, length-drop, append_assoc, append-nil, ℤ, pos, negsuc}
use Rattle.std.specs.Prelude.{if◌then◌else◌, slice_set}
use Rattle.std.specs.List.{list_all}
use Rattle.std.proofs.lemmas.Bool.{leb-true, eq-eqb}
use Rattle.std.proofs.Math.Nat.{suc-mul, zero-mul}
use Rattle.std.proofs.Math.Seq.{take-append_seam, drop-append_seam}
use Rattle.go_types.specs.Types.{Type', basic, array, slice, struct, named}
use Rattle.go_types.specs.Relations.{underlying}
use Rattle.go_types.specs.Sizes.{cells}
use Rattle.go_code.specs.declared.cell.Cell.{Cell}
use Rattle.go_code.specs.declared.cell.Cell.TheVariants.{Int, Bool as Truth, Text, Slice}
use Rattle.go_code.specs.declared.ending.PanicKind.TheVariants.{Index as Out_of_range}
use Rattle.go_code.specs.declared.image.Start.{Start}
use Rattle.go_code.specs.declared.instr.Instr.{Instr}
use Rattle.go_code.specs.declared.instr.Instr.TheVariants.{Part as On_part, Row as In_row}
use Rattle.go_code.specs.declared.instr.PartInstr.TheVariants.{Index, Reach as Reaching}
use Rattle.go_code.specs.declared.instr.RowInstr.TheVariants.{GetAt, SetAt}
use Rattle.go_code.specs.Accesses.{cells_at, cells_with}
use Rattle.go_code.specs.Finals.{Final}
use Rattle.go_code.specs.Images.{Image}
use Rattle.go_code.specs.Machine.{Frame}
use Rattle.go_code.specs.Operators as operators
use Rattle.go_code.specs.Operators.{Operated}
use Rattle.go_code.specs.Parts.{part, offset_of, bind_index, with_row}
use Rattle.go_code.specs.Rows.{row_of, most_room, has_room, if_there, put_at}
use Rattle.go_code.proofs.FollowsInside.{row_leads}
use Rattle.go_code.proofs.Stands.{stands_next}
use Rattle.go_typed.specs.Trees as trees
use Rattle.go_meaning.specs.Values.{Value, single, parts, Values, no_values, some_values, pack_values, unpack, flat, flat_all, is_of, Step, to_field, to_element, part_of, read, updated, if_gives}
use Rattle.go_meaning.specs.Choices.{field_type, element_type}
use Rattle.go_meaning.specs.Meaning.{ProgramState, Outcome, Gives, Stuck, Locals, in_slice, and_then, typed_or_panic, or_panic, elements_of_slice, overwritten, with_array, put, give}
use Rattle.go_gen.specs.Translation.{Places, load, or_type, element_cells, expr_temps, steps_code, array_access_code}
use Rattle.go_meaning_laws.proofs.Values.{flat_long}
use Rattle.go_translation_laws.proofs.Shapes.{both_true, same_number, element_cells_are}
use Rattle.go_translation_laws.proofs.Runs.{Onward, onward_then, here, On, on_as, on_stack}
use Rattle.go_translation_laws.proofs.RowLemmas.{row, rows, row_at, rows_set, row_long, part_read, part_written}
use Rattle.go_translation_laws.proofs.Steps.{Finds, part_within, Led, element_finds}
use Rattle.go_translation_laws.proofs.Addresses.{Has, has_first, has_second, same_size, Split, WithType, Kept, From, has_loads, part_goes, part_stops, from_next, steps_run}
use Rattle.go_translation_laws.proofs.Accessed.{reach_given, reach_changed}

-- ---- elements side by side

flat_packed : (vs : List Value) → flat_all (pack_values vs) ≡ row vs
flat_packed [] = refl
flat_packed (v ∷ vs) = ap (λ l. flat v ++ l) (flat_packed vs)

flat_unpacked : (vs : Values) → flat_all vs ≡ row (unpack vs)
flat_unpacked no_values = refl
flat_unpacked (some_values v vs) = ap (λ l. flat v ++ l) (flat_unpacked vs)

unpacked : (vs : List Value) → unpack (pack_values vs) ≡ vs
unpacked [] = refl
unpacked (v ∷ vs) = ap (λ l. v ∷ l) (unpacked vs)

all_taken : (is : Value → Bool) (n : ℕ) (vs : List Value) → list_all is vs ≡ true → list_all is (take n vs) ≡ true
all_taken is zero vs e = refl
all_taken is (suc n) [] e = refl
all_taken is (suc n) (v ∷ vs) e =
    let h = both_true (is v) (list_all is vs) e in
    ap (λ b. b && list_all is (take n vs)) h.0 ∙ all_taken is n vs h.1

all_dropped : (is : Value → Bool) (n : ℕ) (vs : List Value) → list_all is vs ≡ true → list_all is (drop n vs) ≡ true
all_dropped is zero vs e = e
all_dropped is (suc n) [] e = refl
all_dropped is (suc n) (v ∷ vs) e = all_dropped is n vs (both_true (is v) (list_all is vs) e).1

sum_times : (a b k : ℕ) → (a + b) * k ≡ a * k + b * k
sum_times zero b k = (let none : zero + b ≡ b = omega arith in ap (λ n. n * k) none ∙ omega (arith, zero-mul k))
sum_times (suc a) b k =
    let next : suc a + b ≡ suc (a + b) = omega arith in
    let rest = sum_times a b k in
    ap (λ n. n * k) next ∙ omega (arith, suc-mul (a + b) k, suc-mul a k, rest)

times_more : (a b k : ℕ) → a ≤ b → a * k ≤ b * k
times_more zero b k le = omega (arith, zero-mul k)
times_more (suc a) zero k le = absurd (omega (arith, le))
times_more (suc a) (suc b) k le = (let rest = times_more a b k (omega (arith, le)) in omega (arith, suc-mul a k, suc-mul b k, rest))

-- ---- the elements of a slice, which are a part of an array

module _ (u : Type') (at start n c : ℕ) (w : ProgramState) where
  abbrev all : List Value
  all = row_of w.arrays at

  abbrev pub window : List Value
  window = take n (drop start all)

  abbrev pub whole : Value
  whole = parts (pack_values window)

  -- its elements are of the type, and the slice lies within it
  pub record Within : Type 0 where
    pub typed : list_all (is_of u) all ≡ true
    pub within : start + n ≤ length all
    pub room : length all * cells u ≤ most_room

  abbrev sound : Bool
  sound = list_all (is_of u) all && (nat_le n c && (nat_le (start + c) (length all) && has_room (cells u) (length all)))

  within_of : sound ≡ true → Within
  within_of e =
      let h = both_true (list_all (is_of u) all) (nat_le n c && (nat_le (start + c) (length all) && has_room (cells u) (length all))) e in
      let g = both_true (nat_le n c) (nat_le (start + c) (length all) && has_room (cells u) (length all)) h.1 in
      let f = both_true (nat_le (start + c) (length all)) (has_room (cells u) (length all)) g.1 in
      let r = both_true (nat_le (length all) most_room) (nat_le (length all * cells u) most_room) f.1 in
      record { typed = h.0; within = omega (arith, leb-true n c g.0, leb-true (start + c) (length all) f.0); room = leb-true (length all * cells u) most_room r.1 }

  pub elements_known : {A : Type 0} (final : Final) (P : A → ProgramState → Type 0) (next : Value → ProgramState → Outcome A) → Onward final P (and_then (elements_of_slice u (single (Slice at start n c)) w) next) → Within × Onward final P (next whole w)
  elements_known {A} final P next h = by_test sound refl h
    where
      by_test : (b : Bool) → sound ≡ b → Onward final P (and_then (and_then (if b then Gives all w else Stuck) (λ all1. Gives (parts (pack_values (take n (drop start all1)))))) next) → Within × Onward final P (next whole w)
      by_test true e h = (within_of e, h)
      by_test false e h = absurd h

  module _ (known : Within) where
    window_long : length window ≡ n
    window_long = simp (length-take, length-drop) (omega (arith, known.within))

    pub window_typed : is_of (array n u) whole ≡ true
    window_typed =
        ap (λ vs. nat_eq (length vs) n && list_all (is_of u) vs) (unpacked window)
        ∙ ap (λ b. b && list_all (is_of u) window) (eq-eqb (length window) n window_long)
        ∙ all_taken (is_of u) n (drop start all) (all_dropped (is_of u) start all known.typed)

    pub window_room : start * cells u + cells (array n u) ≤ most_room
    window_room = omega (arith, known.room, sum_times start n (cells u), times_more (start + n) (length all) (cells u) known.within)

    -- a part of them is read
    pub window_read : (x : Value) (ss : List Step) (o : ℕ) → Led ss whole x o → cells_at (row_of (rows w.arrays) at) (start * cells u + o) (length (flat x)) ≡ Some (flat x)
    window_read x ss o led =
        let is : row window ≡ led.before ++ (flat x ++ led.after) = sym (flat_packed window) ∙ led.is in
        ap (λ l. cells_at l (start * cells u + o) (length (flat x))) (row_at w.arrays at)
        ∙ ap (λ p. cells_at (row all) (start * cells u + p) (length (flat x))) (sym led.place)
        ∙ part_read u (cells u) (λ v k. flat_long u v k) all start n led.before (flat x) led.after known.typed known.within is

    -- or is renewed, with elements of the same type and number
    pub window_written : (x y : Value) (ss : List Step) (o : ℕ) (led : Led ss whole x o) (new : Values) → (led.renewed y).new ≡ parts new → list_all (is_of u) (unpack new) ≡ true → length (unpack new) ≡ n → cells_with (row_of (rows w.arrays) at) (start * cells u + o) (flat y) ≡ Some (row (overwritten all start (unpack new)))
    window_written x y ss o led new same typed size =
        let was : row window ≡ led.before ++ (flat x ++ led.after) = sym (flat_packed window) ∙ led.is in
        let is : row (unpack new) ≡ led.before ++ (flat y ++ led.after) = sym (flat_unpacked new) ∙ ap flat (sym same) ∙ (led.renewed y).row in
        let long : length (row (unpack new)) ≡ length (row window) =
        row_long u (cells u) (λ v k. flat_long u v k) (unpack new) typed ∙ ap (λ m. m * cells u) (size ∙ sym window_long)
        ∙ sym (row_long u (cells u) (λ v k. flat_long u v k) window (all_taken (is_of u) n (drop start all) (all_dropped (is_of u) start all known.typed))) in
        let one : length (flat y) ≡ length (flat x) = same_size (row window) (row (unpack new)) led.before (flat x) (flat y) led.after was is long in
        ap (λ l. cells_with l (start * cells u + o) (flat y)) (row_at w.arrays at)
        ∙ ap (λ p. cells_with (row all) (start * cells u + p) (flat y)) (sym led.place)
        ∙ part_written u (cells u) (λ v k. flat_long u v k) all (unpack new) start n led.before (flat x) (flat y) led.after known.typed known.within was is size one

-- ---- from a slice to an offset in its row

-- the machine finds it as it finds that of an element of an array
reach_found : (k at start n c : ℕ) (z : ℤ) → part (Reaching k) (Slice at start n c ∷ Int z ∷ []) ≡ with_row (part (Index n k) (Int (pos (start * k)) ∷ Int z ∷ [])) (Slice at start n c)
reach_found k at start n c (negsuc i) = refl
reach_found k at start n c (pos i) = by_test (nat_lt i n)
  where
    by_test : (b : Bool) → bind_index (if b then operators.Gives i else operators.Panics Out_of_range) (λ index. with_row (offset_of (pos ((start + index) * k))) (Slice at start n c)) ≡ with_row (bind_index (if b then operators.Gives i else operators.Panics Out_of_range) (λ index. offset_of (pos (start * k + index * k)))) (Slice at start n c)
    by_test true = ap (λ m. with_row (offset_of (pos m)) (Slice at start n c)) (sum_times start i k)
    by_test false = refl

-- what has elements has no fields
no_field : (s u : Type') (n : ℕ) (P : Type' → Type 0) → element_type s ≡ Some u → WithType (field_type s n) P → ⊥
no_field (array m t) u n P e h = h
no_field (slice t) u n P e h = h
no_field (basic b) u n P e h = cc
no_field (struct fs) u n P e h = cc
no_field (named p x t) u n P e h = cc

module _ (image : Image) (final : Final) (depth : ℕ) (code : List (Instr ℕ)) (callers : List Frame) (starts : List Start) (p : Places ℕ) where
  abbrev Onto : ℕ → List (Instr ℕ) → List Cell → ℕ → List Cell → ProgramState → Type 0
  Onto t k front m stack w = On image final depth code callers starts p t k front m stack w

  abbrev Counts : ℕ → List (Instr ℕ) → List Cell → ℕ → List Cell → ProgramState → ℕ → List Step → Value → Operated Value → Type 0
  Counts t k front m stack w base ss v r = From image final depth code callers starts p t k front m stack w base ss v r

  -- the element's offset in the row, behind its slice
  reach_runs : (t : ℕ) (k : List (Instr ℕ)) (front : List Cell) (m : ℕ) (stack : List Cell) (w : ProgramState) (u : Type') (at start n c : ℕ) (z : ℤ) (ss : List Step) (v : Value) (behind : List (Instr ℕ)) → is_of (array n u) v ≡ true → start * cells u + cells (array n u) ≤ most_room → ((inner : Value) (base : ℕ) → is_of u inner ≡ true → base + cells u ≤ most_room → Counts t k front m (stack ++ Slice at start n c ∷ []) w base ss inner (read ss inner) → Onto t behind front m ((stack ++ Slice at start n c ∷ []) ++ Int (pos base) ∷ []) w) →
      Counts t k front m (stack ++ Slice at start n c ∷ []) w (start * cells u) (to_element z ∷ ss) v (read (to_element z ∷ ss) v) → Onto t (On_part (Reaching (cells u)) ∷ behind) front m ((stack ++ Slice at start n c ∷ []) ++ Int z ∷ []) w
  reach_runs t k front m stack w u at start n c z ss v behind typed small next h =
      on_stack image final depth code callers starts p t (On_part (Reaching (cells u)) ∷ behind) front m _ _ w (sym (append_assoc stack (Slice at start n c ∷ []) (Int z ∷ [])))
      (by_part (part_of v (to_element z)) refl (element_finds n u v z (start * cells u) typed small (part_of v (to_element z)) refl) h)
    where
      by_part : (o : Operated Value) → part_of v (to_element z) ≡ o → Finds v (to_element z) u (start * cells u) (part (Index n (cells u)) (Int (pos (start * cells u)) ∷ Int z ∷ [])) o → Counts t k front m (stack ++ Slice at start n c ∷ []) w (start * cells u) (to_element z ∷ ss) v (if_gives o (read ss)) → Onto t (On_part (Reaching (cells u)) ∷ behind) front m (stack ++ Slice at start n c ∷ Int z ∷ []) w
      by_part (operators.Gives inner) e finds h =
          let base : ℕ = start * cells u + finds.at in
          let within : start * cells u + finds.at + cells u ≤ most_room = omega (arith, small, flat_long (array n u) v typed, part_within v (to_element z) u inner finds.at finds.parted) in
          part_goes image final depth code callers starts p t (Reaching (cells u)) (Slice at start n c ∷ Int z ∷ []) (Slice at start n c ∷ Int (pos base) ∷ []) behind front m stack w refl
          (reach_found (cells u) at start n c z ∙ ap (λ o. with_row o (Slice at start n c)) finds.got_is)
          (on_stack image final depth code callers starts p t behind front m _ _ w (append_assoc stack (Slice at start n c ∷ []) (Int (pos base) ∷ []))
          (next inner base finds.parted.typed within (from_next image final depth code callers starts p t k front m (stack ++ Slice at start n c ∷ []) w (start * cells u) (to_element z) ss u v inner finds.at e finds.parted (read ss inner) h)))
      by_part (operators.Panics kind) e finds h =
          part_stops image final depth code callers starts p t (Reaching (cells u)) (Slice at start n c ∷ Int z ∷ []) kind behind front m stack w refl
          (reach_found (cells u) at start n c z ∙ ap (λ o. with_row o (Slice at start n c)) finds) h
      by_part operators.Senseless e finds h = absurd h

  -- the slice and the first index lie in temporaries, and so do the other indexes
  pub row_runs : (of u : Type') → element_type (underlying of) ≡ Some u → (q : trees.Steps) (s : Step) (ss : List Step) (at start n c : ℕ) (v : Value) (indexes : List Cell) (there place t : ℕ) (k : List (Instr ℕ)) (front : List Cell) (m : ℕ) (stack : List Cell) (w : ProgramState) →
      Has front there (Slice at start n c ∷ []) → Has front place indexes → Kept of q (s ∷ ss) indexes → is_of (array n u) v ≡ true → start * cells u + cells (array n u) ≤ most_room → Counts t k front m (stack ++ Slice at start n c ∷ []) w (start * cells u) (s ∷ ss) v (read (s ∷ ss) v) → Onto t (array_access_code of there place q ++ k) front m stack w
  row_runs of u found trees.here s ss at start n c v indexes there place t k front m stack w slices has kept typed small h = absurd kept
  row_runs of u found (trees.to_field i q) (to_field j) ss at start n c v indexes there place t k front m stack w slices has kept typed small h = absurd (no_field (underlying of) u i (λ x. Kept x q ss indexes) found kept.1)
  row_runs of u found (trees.to_field i q) (to_element z) ss at start n c v indexes there place t k front m stack w slices has kept typed small h = absurd kept
  row_runs of u found (trees.to_element e q) (to_field j) ss at start n c v indexes there place t k front m stack w slices has kept typed small h = absurd kept
  row_runs of u found (trees.to_element e q) (to_element z) ss at start n c v indexes there place t k front m stack w slices has kept typed small h =
      let split : Split (λ others. Kept u q ss others) (expr_temps e) z indexes = subst (λ o. WithType o (λ x. Split (λ others. Kept x q ss others) (expr_temps e) z indexes)) found kept in
      let behind : List (Instr ℕ) = steps_code u (place + expr_temps e + 1) q ++ k in
      let index_at : ℕ = place + expr_temps e in
      let all_of : Has front place (split.first ++ (Int z ∷ [] ++ split.others)) = subst (Has front place) split.is has in
      let index : Has front (place + expr_temps e) (Int z ∷ [] ++ split.others) = has_second front place (expr_temps e) split.first (Int z ∷ [] ++ split.others) split.long all_of in
      let one : Has front (place + expr_temps e) (Int z ∷ []) = has_first front (place + expr_temps e) (Int z ∷ []) split.others index in
      let rest : Has front (place + expr_temps e + 1) split.others = has_second front (place + expr_temps e) 1 (Int z ∷ []) split.others refl index in
      let same : load there 1 ∷ load index_at 1 ∷ On_part (Reaching (cells u)) ∷ behind ≡ load there 1 ∷ load index_at 1 ∷ On_part (Reaching (element_cells (underlying of))) ∷ (steps_code (or_type of (element_type (underlying of))) (place + expr_temps e + 1) q ++ k) =
      ap (λ x. load there 1 ∷ load index_at 1 ∷ On_part (Reaching x) ∷ behind) (sym (element_cells_are (underlying of) u found))
      ∙ ap (λ o. load there 1 ∷ load index_at 1 ∷ On_part (Reaching (element_cells (underlying of))) ∷ (steps_code (or_type of o) (place + expr_temps e + 1) q ++ k)) (sym found) in
      on_as image final depth code callers starts p t (load there 1 ∷ load index_at 1 ∷ On_part (Reaching (cells u)) ∷ behind) _ front m stack w same
      (has_loads image final depth code callers starts p t there 1 (Slice at start n c ∷ []) (load index_at 1 ∷ On_part (Reaching (cells u)) ∷ behind) front m stack w slices refl
      (has_loads image final depth code callers starts p t index_at 1 (Int z ∷ []) (On_part (Reaching (cells u)) ∷ behind) front m (stack ++ Slice at start n c ∷ []) w one refl
      (reach_runs t k front m stack w u at start n c z ss v behind typed small
      (λ inner base typed1 small1 h1. steps_run image final depth code callers starts p q ss u inner split.others base (place + expr_temps e + 1) t k front m (stack ++ Slice at start n c ∷ []) w rest split.holds typed1 small1 h1) h)))

  -- ---- what is read

  get_runs : (at start n c count o : ℕ) (got : List Cell) (t : ℕ) (k : List (Instr ℕ)) (front : List Cell) (m : ℕ) (stack : List Cell) (w : ProgramState) → cells_at (row_of (rows w.arrays) at) o count ≡ Some got → Onto t k front m (stack ++ got) w → Onto t (In_row (GetAt count) ∷ k) front m ((stack ++ Slice at start n c ∷ []) ++ Int (pos o) ∷ []) w
  get_runs at start n c count o got t k front m stack w e on =
      on_stack image final depth code callers starts p t (In_row (GetAt count) ∷ k) front m _ _ w (sym (append_assoc stack (Slice at start n c ∷ []) (Int (pos o) ∷ [])))
      (λ known few place high size s.
      row_leads image (here image final depth code callers starts p place (front ++ high) (stack ++ Slice at start n c ∷ Int (pos o) ∷ []) w) _ callers (GetAt count) stack (Slice at start n c ∷ Int (pos o) ∷ []) (record { rows = rows w.arrays; cells = got }) final
      (record { frames = refl; rest = k; stands = s }) (record { is = refl; long = refl })
      (ap (λ x. if_there x (λ cells. operators.Gives (record { rows = rows w.arrays; cells = cells }))) e)
      (on known few (place + 1) high size (stands_next code place _ k s)))

  pub take_slice : (of u : Type') → element_type (underlying of) ≡ Some u → (q : trees.Steps) (s : Step) (ss : List Step) (sliced : Cell) (out : Type') (indexes : List Cell) (there place t : ℕ) (k : List (Instr ℕ)) (front : List Cell) (m : ℕ) (stack : List Cell) (w : ProgramState) → Has front there (sliced ∷ []) → Has front place indexes → Kept of q (s ∷ ss) indexes →
      Onward final (λ x w1. is_of out x ≡ true → Onto t k front m (stack ++ flat x) w1) (and_then (elements_of_slice u (single sliced) w) (λ all. typed_or_panic out (read (s ∷ ss) all))) → Onto t (array_access_code of there place q ++ (In_row (GetAt (cells out)) ∷ k)) front m stack w
  take_slice of u found q s ss (Int z) out indexes there place t k front m stack w slices has kept h = absurd h
  take_slice of u found q s ss (Truth b) out indexes there place t k front m stack w slices has kept h = absurd h
  take_slice of u found q s ss (Text x) out indexes there place t k front m stack w slices has kept h = absurd h
  take_slice of u found q s ss (Slice at start n c) out indexes there place t k front m stack w slices has kept h =
      let known = elements_known u at start n c w final (λ x w1. is_of out x ≡ true → Onto t k front m (stack ++ flat x) w1) (λ all. typed_or_panic out (read (s ∷ ss) all)) h in
      let v : Value = whole u at start n c w in
      row_runs of u found q s ss at start n c v indexes there place t (In_row (GetAt (cells out)) ∷ k) front m stack w slices has kept (window_typed u at start n c w known.0) (window_room u at start n c w known.0)
      (reach_given image final depth code callers starts p (λ x w1. is_of out x ≡ true → Onto t k front m (stack ++ flat x) w1) _ out (s ∷ ss) v w (read (s ∷ ss) v) known.1 (λ x o led typed on.
      get_runs at start n c (cells out) (start * cells u + o) (flat x) t k front m stack w
      (ap (cells_at (row_of (rows w.arrays) at) (start * cells u + o)) (sym (flat_long out x typed)) ∙ window_read u at start n c w known.0 x (s ∷ ss) o led) (on typed)))

  -- ---- what is given

  set_runs : (at start n c count o : ℕ) (new : List Cell) (other : List Value) (t : ℕ) (k : List (Instr ℕ)) (front : List Cell) (m : ℕ) (stack : List Cell) (w : ProgramState) → length new ≡ count → cells_with (row_of (rows w.arrays) at) o new ≡ Some (row other) → Onto t k front m stack (with_array w at other) → Onto t (In_row (SetAt count) ∷ k) front m (((stack ++ new) ++ Slice at start n c ∷ []) ++ Int (pos o) ∷ []) w
  set_runs at start n c count o new other t k front m stack w long e on =
      let back : List Cell = Slice at start n c ∷ Int (pos o) ∷ [] in
      let all_of : List Cell = new ++ Slice at start n c ∷ Int (pos o) ∷ [] in
      let shape : stack ++ (new ++ Slice at start n c ∷ Int (pos o) ∷ []) ≡ ((stack ++ new) ++ Slice at start n c ∷ []) ++ Int (pos o) ∷ [] = simp append_assoc in
      let size : length (new ++ Slice at start n c ∷ Int (pos o) ∷ []) ≡ count + 2 = omega (arith, long, length-append new (Slice at start n c ∷ Int (pos o) ∷ [])) in
      let is : put_at (rows w.arrays) (take count all_of) (drop count all_of) ≡ operators.Gives (record { rows = rows (slice_set w.arrays at other); cells = [] }) =
      ap (λ x. put_at (rows w.arrays) (take x all_of) (drop x all_of)) (sym long)
      ∙ ap (λ l. put_at (rows w.arrays) l (drop (length new) all_of)) (take-append_seam new back)
      ∙ ap (put_at (rows w.arrays) new) (drop-append_seam new back)
      ∙ ap (λ x. if_there x (λ row1. operators.Gives (record { rows = slice_set (rows w.arrays) at row1; cells = [] }))) e
      ∙ ap (λ rs. operators.Gives (record { rows = rs; cells = [] })) (rows_set w.arrays at other) in
      on_stack image final depth code callers starts p t (In_row (SetAt count) ∷ k) front m _ _ w shape
      (λ known few place high high_long s.
      row_leads image (here image final depth code callers starts p place (front ++ high) (stack ++ all_of) w) _ callers (SetAt count) stack all_of (record { rows = rows (slice_set w.arrays at other); cells = [] }) final
      (record { frames = refl; rest = k; stands = s }) (record { is = refl; long = size }) is
      (on_nothing t k front m stack (with_array w at other) on known few (place + 1) high high_long (stands_next code place _ k s)))
    where
      on_nothing : (t : ℕ) (k : List (Instr ℕ)) (front : List Cell) (m : ℕ) (stack : List Cell) (w : ProgramState) → Onto t k front m stack w → Onto t k front m (stack ++ []) w
      on_nothing t k front m stack w on = on_stack image final depth code callers starts p t k front m stack (stack ++ []) w (sym (append-nil stack)) on

  pub give_slice : (P : Locals → ProgramState → Type 0) (of u : Type') → element_type (underlying of) ≡ Some u → (q : trees.Steps) (s : Step) (ss : List Step) (sliced : Cell) (y : Value) (count : ℕ) (indexes : List Cell) (there place t : ℕ) (k : List (Instr ℕ)) (locals : Locals) (front : List Cell) (m : ℕ) (stack : List Cell) (w : ProgramState) → Has front there (sliced ∷ []) → Has front place indexes → Kept of q (s ∷ ss) indexes → length (flat y) ≡ count → ((w1 : ProgramState) → P locals w1 → Onto t k front m stack w1) →
      Onward final P (give (in_slice u (single sliced) (s ∷ ss)) y locals w) → Onto t (array_access_code of there place q ++ (In_row (SetAt count) ∷ k)) front m (stack ++ flat y) w
  give_slice P of u found q s ss (Int z) y count indexes there place t k locals front m stack w slices has kept long on h = absurd h
  give_slice P of u found q s ss (Truth b) y count indexes there place t k locals front m stack w slices has kept long on h = absurd h
  give_slice P of u found q s ss (Text x) y count indexes there place t k locals front m stack w slices has kept long on h = absurd h
  give_slice P of u found q s ss (Slice at start n c) y count indexes there place t k locals front m stack w slices has kept long on h =
      let known = elements_known u at start n c w final P (λ old w1. and_then (or_panic (updated (s ∷ ss) old y) w1) (λ new. put (in_slice u (single (Slice at start n c)) (s ∷ ss)) new locals)) h in
      let v : Value = whole u at start n c w in
      row_runs of u found q s ss at start n c v indexes there place t (In_row (SetAt count) ∷ k) front m (stack ++ flat y) w slices has kept (window_typed u at start n c w known.0) (window_room u at start n c w known.0)
      (reach_changed image final depth code callers starts p (λ new w1. Onward final P (put (in_slice u (single (Slice at start n c)) (s ∷ ss)) new locals w1)) _ (s ∷ ss) v y w (read (s ∷ ss) v) refl
      (onward_then final P (or_panic (updated (s ∷ ss) v y) w) _ known.1) (λ x o led goes.
      stored known.0 x o led (led.renewed y).new refl goes))
    where
      stored : (known : Within u at start n c w) (x : Value) (o : ℕ) (led : Led (s ∷ ss) (whole u at start n c w) x o) (new : Value) → (led.renewed y).new ≡ new → Onward final P (put (in_slice u (single (Slice at start n c)) (s ∷ ss)) new locals w) → Onto t (In_row (SetAt count) ∷ k) front m (((stack ++ flat y) ++ Slice at start n c ∷ []) ++ Int (pos (start * cells u + o)) ∷ []) w
      stored known x o led (single d) same goes = absurd goes
      stored known x o led (parts new) same goes = by_test (list_all (is_of u) (unpack new) && nat_eq (length (unpack new)) n) refl goes
        where
          by_test : (b : Bool) → (list_all (is_of u) (unpack new) && nat_eq (length (unpack new)) n) ≡ b → Onward final P (and_then (if b then Gives (with_array w at (overwritten (row_of w.arrays at) start (unpack new))) w else Stuck) (λ later w1. Gives locals later)) → Onto t (In_row (SetAt count) ∷ k) front m (((stack ++ flat y) ++ Slice at start n c ∷ []) ++ Int (pos (start * cells u + o)) ∷ []) w
          by_test false e goes1 = absurd goes1
          by_test true e goes1 =
              let b = both_true (list_all (is_of u) (unpack new)) (nat_eq (length (unpack new)) n) e in
              let other : List Value = overwritten (row_of w.arrays at) start (unpack new) in
              set_runs at start n c count (start * cells u + o) (flat y) other t k front m stack w long
              (window_written u at start n c w known x y (s ∷ ss) o led new same b.0 (same_number (length (unpack new)) n b.1)) (on (with_array w at other) goes1)
