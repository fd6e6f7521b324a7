-- The part of a variable that a left side names is loaded and stored as its meaning says.
use Rattle.std.proofs.Common.{◌≡◌, ℕ, ◌+◌, ◌≤◌, true, List, [], ◌∷◌, ◌++◌, length, Option, Some, None, refl, sym, ap, ◌∙◌, subst, arith, length-append, append_assoc, pos}
use Rattle.std.specs.Prelude.{slice_get, slice_set, ⊤}
use Rattle.std.specs.List.{find}
use Rattle.std.specs.Option.{option_map}
use Rattle.go_types.specs.Types.{Type'}
use Rattle.go_types.specs.Relations.{underlying}
use Rattle.go_types.specs.Sizes.{cells}
use Rattle.go_code.specs.declared.cell.Cell.{Cell}
use Rattle.go_code.specs.declared.cell.Cell.TheVariants.{Int}
use Rattle.go_code.specs.declared.image.Start.{Start}
use Rattle.go_code.specs.declared.instr.AccessInstr.TheVariants.{LoadAt, StoreAt}
use Rattle.go_code.specs.declared.instr.Instr.{Instr}
use Rattle.go_code.specs.declared.instr.Instr.TheVariants.{Local as On_cells, Global as On_globals, Row as On_rows}
use Rattle.go_code.specs.declared.instr.RowInstr.TheVariants.{GetAt, SetAt}
use Rattle.go_code.specs.Rows.{most_room}
use Rattle.go_code.specs.Finals.{Final}
use Rattle.go_code.specs.Images.{Image}
use Rattle.go_code.specs.Machine.{Frame}
use Rattle.go_typed.specs.Trees as trees
use Rattle.go_typed.specs.Trees.{Symbol, Left, blank, of_local, of_global, of_slice}
use Rattle.go_meaning.specs.Values.{Value, single, flat, is_of, Step, read, updated}
use Rattle.go_meaning.specs.Choices.{element_type}
use Rattle.go_symbol.specs.Symbols.{same_symbol}
use Rattle.go_meaning.specs.Meaning.{Stored, ProgramState, Gives, Local, Locals, Target, nowhere, in_local, in_global, in_slice, and_then, if_known, typed_or_panic, local_value, global_value, with_global, or_panic, put, target_value, give}
use Rattle.go_gen.specs.Translation.{Places, total, load, expr_temps, address_code, array_access_code, take_code, give_code}
use Rattle.go_translation_laws.proofs.Frames.{RowOf, Fits, together, types_of, lies}
use Rattle.go_meaning_laws.proofs.Values.{flat_long}
use Rattle.go_translation_laws.proofs.Runs.{Onward, onward_then, onward_map, held, Known, On, local_known, global_known, global_lies}
use Rattle.go_translation_laws.proofs.Rows.{on_front}
use Rattle.go_translation_laws.proofs.Following.{Placed, Follows, follows_as, together_long, sits_in}
use Rattle.go_translation_laws.proofs.Steps.{Led}
use Rattle.go_translation_laws.proofs.Addresses.{Has, has_first, has_second, has_behind, same_size, Kept, has_loads, address_runs}
use Rattle.go_translation_laws.proofs.Accessed.{on_known, loads_at, stores_at, global_loads_at, global_stores_at, reach_given, reach_changed}
use Rattle.go_translation_laws.proofs.Elements.{take_slice, give_slice}
use Rattle.go_translation_laws.proofs.Variables.{types_stay, local_put, global_put}

-- ---- rows

pub has_inside : (all whole : List Cell) (a o : ℕ) (row : List Cell) → Has all a whole → Has whole o row → Has all (a + o) row
has_inside all whole a o row h i =
    let place : length (h.before ++ i.before) ≡ a + o = omega (arith, length-append h.before i.before, h.place, i.place) in
    let shape : h.before ++ ((i.before ++ (row ++ i.after)) ++ h.after) ≡ (h.before ++ i.before) ++ (row ++ (i.after ++ h.after)) = simp append_assoc in
    record { before = h.before ++ i.before; after = i.after ++ h.after; is = h.is ∙ ap (λ l. h.before ++ (l ++ h.after)) i.is ∙ shape; place = place }

pub led_has : (ss : List Step) (v x : Value) (o : ℕ) → Led ss v x o → Has (flat v) o (flat x)
led_has ss v x o led = record { before = led.before; after = led.after; is = led.is; place = led.place }

inside : (a b row c d low : List Cell) → (a ++ ((b ++ (row ++ c)) ++ d)) ++ low ≡ (a ++ b) ++ (row ++ (c ++ (d ++ low)))
inside a b row c d low = simp append_assoc

inside_none : (a b row c d : List Cell) → a ++ ((b ++ (row ++ c)) ++ d) ≡ (a ++ b) ++ (row ++ (c ++ d))
inside_none a b row c d = simp append_assoc

-- what of a value is kept for a left side
abbrev pub kept_value : Left → Value → List Cell
kept_value blank v = []
kept_value (of_local t n q) v = flat v
kept_value (of_global t s q) v = flat v
kept_value (of_slice t e q) v = flat v

-- ---- the temporaries of a left side hold the indexes of what is aimed at

-- a row begins with so many cells, behind which there is a slice
pub record KeptSlice (P : List Cell → Type 0) (n : ℕ) (v : Value) (row : List Cell) : Type 0 where
  pub first : List Cell
  pub cell : Cell
  pub others : List Cell
  pub value : v ≡ single cell
  pub is : row ≡ first ++ cell ∷ others
  pub long : length first ≡ n
  pub holds : P others

-- where it lies, and where the others do
slice_lies : (P : List Cell → Type 0) (n : ℕ) (v : Value) (row all : List Cell) (at : ℕ) (kept : KeptSlice P n v row) → Has all at row → Has all (at + n) (kept.cell ∷ []) × Has all (at + n + 1) kept.others
slice_lies P n v row all at kept has =
    let whole : Has all at (kept.first ++ (kept.cell ∷ [] ++ kept.others)) = subst (Has all at) kept.is has in
    let rest : Has all (at + n) (kept.cell ∷ [] ++ kept.others) = has_second all at n kept.first (kept.cell ∷ [] ++ kept.others) kept.long whole in
    (has_first all (at + n) (kept.cell ∷ []) kept.others rest, has_second all (at + n) 1 (kept.cell ∷ []) kept.others refl rest)

abbrev pub KeptLeft : Left → Target → List Cell → Type 0
KeptLeft blank nowhere row = ⊤
KeptLeft blank (in_local u j ss) row = ⊥
KeptLeft blank (in_global u r ss) row = ⊥
KeptLeft blank (in_slice u v ss) row = ⊥
KeptLeft (of_local t n q) nowhere row = ⊥
KeptLeft (of_local t n q) (in_local u j ss) row = (u ≡ t) × (j ≡ n) × (cells t ≤ most_room) × Kept t q ss row
KeptLeft (of_local t n q) (in_global u r ss) row = ⊥
KeptLeft (of_local t n q) (in_slice u v ss) row = ⊥
KeptLeft (of_global t s q) nowhere row = ⊥
KeptLeft (of_global t s q) (in_local u j ss) row = ⊥
KeptLeft (of_global t s q) (in_global u r ss) row = (u ≡ t) × (r ≡ s) × (cells t ≤ most_room) × Kept t q ss row
KeptLeft (of_global t s q) (in_slice u v ss) row = ⊥
KeptLeft (of_slice t e q) nowhere row = ⊥
KeptLeft (of_slice t e q) (in_local u j ss) row = ⊥
KeptLeft (of_slice t e q) (in_global u r ss) row = ⊥
KeptLeft (of_slice t e q) (in_slice u v []) row = ⊥
KeptLeft (of_slice t e q) (in_slice u v (s ∷ ss)) row = (element_type (underlying t) ≡ Some u) × KeptSlice (λ others. Kept t q (s ∷ ss) others) (expr_temps e) v row

module _ (image : Image) (final : Final) (depth : ℕ) (code : List (Instr ℕ)) (callers : List Frame) (starts : List Start) (p : Places ℕ) (types : List Type') where
  abbrev Onto : ℕ → List (Instr ℕ) → List Cell → ℕ → List Cell → ProgramState → Type 0
  Onto t k front m stack w = On image final depth code callers starts p t k front m stack w

  abbrev Goes_on : ℕ → List (Instr ℕ) → Locals → List Cell → ℕ → List Cell → ProgramState → Type 0
  Goes_on t k locals low m stack w = Follows image final depth code callers starts p types t k locals low m stack w

  module _ (placed : Placed image final depth code callers starts p types) where
    -- ---- what is read

    local_has : (rows : List (List Cell)) (locals : Locals) (low : List Cell) (n : ℕ) (l : Local) (v : Value) → Fits rows locals → types_of locals ≡ types → slice_get locals n ≡ Some l → l.value ≡ Some v → Has (together rows ++ low) (p.locals n) (flat v)
    local_has rows locals low n l v fits same found value =
        let at = lies rows locals 0 n l fits found in
        let sits = sits_in image final depth code callers starts p types rows locals low placed fits same in
        let row : at.row ≡ flat v = subst (λ (o : Option Value). RowOf at.row o) value at.fits.1 in
        let place : length at.before ≡ p.locals n = omega (arith, sits.placed n, at.place) in
        let shape : (at.before ++ (flat v ++ at.after)) ++ low ≡ at.before ++ (flat v ++ (at.after ++ low)) = simp append_assoc in
        record { before = at.before; after = at.after ++ low; is = ap (λ l. l ++ low) (at.is ∙ ap (λ r. at.before ++ (r ++ at.after)) row) ∙ shape; place = place }

    take_local : (u : Type') (n : ℕ) (q : trees.Steps) (ss : List Step) (of : Type') (row : List Cell) (at t : ℕ) (k : List (Instr ℕ)) (locals : Locals) (low : List Cell) (m : ℕ) (stack : List Cell) (w : ProgramState) → types_of locals ≡ types → Has low at row → Kept u q ss row → cells u ≤ most_room → Onward final (λ x w1. is_of of x ≡ true → Goes_on t k locals low m (stack ++ flat x) w1) (and_then (typed_or_panic u (local_value locals n) w) (λ v. typed_or_panic of (read ss v))) → Goes_on t (address_code u (total types + at) q ++ (On_cells (LoadAt (p.locals n) (cells of)) ∷ k)) locals low m stack w
    take_local u n q ss of row at t k locals low m stack w same has kept small h rows fits =
        let known = local_known image final depth code callers starts p _ locals u n w (slice_get locals n) refl (onward_then final _ (typed_or_panic u (local_value locals n) w) (λ v. typed_or_panic of (read ss v)) h) in
        let size : length (together rows) ≡ total types = together_long rows locals fits ∙ ap total same in
        address_runs image final depth code callers starts p q ss u known.v row (total types + at) t (On_cells (LoadAt (p.locals n) (cells of)) ∷ k) (together rows ++ low) m stack w (has_behind (together rows) low (total types) at row size has) kept known.typed small
        (reach_given image final depth code callers starts p _ _ of ss known.v w (read ss known.v) known.holds (λ x o led typed on.
        loads_at image final depth code callers starts p t (p.locals n) (cells of) o (flat x) k (together rows ++ low) m stack w
        (has_inside (together rows ++ low) (flat known.v) (p.locals n) o (flat x) (local_has rows locals low n known.l known.v fits same known.found known.value) (led_has ss known.v x o led))
        (flat_long of x typed) (on typed rows fits)))

    take_global : (u : Type') (s : Symbol) (q : trees.Steps) (ss : List Step) (of : Type') (row : List Cell) (at t : ℕ) (k : List (Instr ℕ)) (locals : Locals) (low : List Cell) (m : ℕ) (stack : List Cell) (w : ProgramState) → types_of locals ≡ types → Has low at row → Kept u q ss row → cells u ≤ most_room → Onward final (λ x w1. is_of of x ≡ true → Goes_on t k locals low m (stack ++ flat x) w1) (and_then (typed_or_panic u (global_value w.variables s) w) (λ v. typed_or_panic of (read ss v))) → Goes_on t (address_code u (total types + at) q ++ (On_globals (LoadAt (p.globals s) (cells of)) ∷ k)) locals low m stack w
    take_global u s q ss of row at t k locals low m stack w same has kept small h rows fits =
        let known = global_known image final depth code callers starts p _ u s w (option_map (λ x. x.value) (find (λ x. same_symbol s x.symbol) w.variables)) refl (onward_then final _ (typed_or_panic u (global_value w.variables s) w) (λ v. typed_or_panic of (read ss v)) h) in
        let size : length (together rows) ≡ total types = together_long rows locals fits ∙ ap total same in
        on_known image final depth code callers starts p t (address_code u (total types + at) q ++ (On_globals (LoadAt (p.globals s) (cells of)) ∷ k)) (together rows ++ low) m stack w (λ sound.
        let lies = global_lies image final depth code callers starts p w.variables s known.v sound.0 known.found in
        let whole : Has (held w.variables) (p.globals s) (flat known.v) = record { before = lies.before; after = lies.after; is = lies.is; place = lies.place ∙ sym (sound.1 s) } in
        address_runs image final depth code callers starts p q ss u known.v row (total types + at) t (On_globals (LoadAt (p.globals s) (cells of)) ∷ k) (together rows ++ low) m stack w (has_behind (together rows) low (total types) at row size has) kept known.typed small
        (reach_given image final depth code callers starts p _ _ of ss known.v w (read ss known.v) known.holds (λ x o led typed on.
        global_loads_at image final depth code callers starts p t (p.globals s) (cells of) o (flat x) k (together rows ++ low) m stack w
        (has_inside (held w.variables) (flat known.v) (p.globals s) o (flat x) whole (led_has ss known.v x o led))
        (flat_long of x typed) (on typed rows fits))))

    pub take_runs : (l : Left) (target : Target) (of : Type') (row : List Cell) (at t : ℕ) (k : List (Instr ℕ)) (locals : Locals) (low : List Cell) (m : ℕ) (stack : List Cell) (w : ProgramState) → types_of locals ≡ types → Has low at row → KeptLeft l target row → Onward final (λ x w1. is_of of x ≡ true → Goes_on t k locals low m (stack ++ flat x) w1) (target_value of target locals w) → Goes_on t (take_code p (total types + at) l (cells of) ++ k) locals low m stack w
    take_runs blank nowhere of row at t k locals low m stack w same has kept h = absurd h
    take_runs blank (in_local u j ss) of row at t k locals low m stack w same has kept h = absurd kept
    take_runs blank (in_global u r ss) of row at t k locals low m stack w same has kept h = absurd kept
    take_runs blank (in_slice v sv ss) of row at t k locals low m stack w same has kept h = absurd kept
    take_runs (of_local u n q) nowhere of row at t k locals low m stack w same has kept h = absurd kept
    take_runs (of_local u n q) (in_slice v sv ss) of row at t k locals low m stack w same has kept h = absurd kept
    take_runs (of_local u n q) (in_global v r ss) of row at t k locals low m stack w same has kept h = absurd kept
    take_runs (of_local u n q) (in_local v j ss) of row at t k locals low m stack w same has kept h =
        follows_as image final depth code callers starts p types t _ _ locals low m stack w (sym (append_assoc (address_code u (total types + at) q) (On_cells (LoadAt (p.locals n) (cells of)) ∷ []) k))
        (take_local u n q ss of row at t k locals low m stack w same has kept.3 kept.2
        (subst (λ i. Onward final (λ x w1. is_of of x ≡ true → Goes_on t k locals low m (stack ++ flat x) w1) (target_value of (in_local u i ss) locals w)) kept.1
        (subst (λ y. Onward final (λ x w1. is_of of x ≡ true → Goes_on t k locals low m (stack ++ flat x) w1) (target_value of (in_local y j ss) locals w)) kept.0 h)))
    take_runs (of_global u s q) nowhere of row at t k locals low m stack w same has kept h = absurd kept
    take_runs (of_global u s q) (in_slice v sv ss) of row at t k locals low m stack w same has kept h = absurd kept
    take_runs (of_global u s q) (in_local v j ss) of row at t k locals low m stack w same has kept h = absurd kept
    take_runs (of_global u s q) (in_global v r ss) of row at t k locals low m stack w same has kept h =
        follows_as image final depth code callers starts p types t _ _ locals low m stack w (sym (append_assoc (address_code u (total types + at) q) (On_globals (LoadAt (p.globals s) (cells of)) ∷ []) k))
        (take_global u s q ss of row at t k locals low m stack w same has kept.3 kept.2
        (subst (λ i. Onward final (λ x w1. is_of of x ≡ true → Goes_on t k locals low m (stack ++ flat x) w1) (target_value of (in_global u i ss) locals w)) kept.1
        (subst (λ y. Onward final (λ x w1. is_of of x ≡ true → Goes_on t k locals low m (stack ++ flat x) w1) (target_value of (in_global y r ss) locals w)) kept.0 h)))
    take_runs (of_slice u e q) nowhere of row at t k locals low m stack w same has kept h = absurd kept
    take_runs (of_slice u e q) (in_local v j ss) of row at t k locals low m stack w same has kept h = absurd kept
    take_runs (of_slice u e q) (in_global v r ss) of row at t k locals low m stack w same has kept h = absurd kept
    take_runs (of_slice u e q) (in_slice v sv []) of row at t k locals low m stack w same has kept h = absurd kept
    take_runs (of_slice u e q) (in_slice v sv (s ∷ ss)) of row at t k locals low m stack w same has kept h =
        let first : ℕ = total types + at in
        follows_as image final depth code callers starts p types t _ _ locals low m stack w (sym (append_assoc (array_access_code u (first + expr_temps e) (first + expr_temps e + 1) q) (On_rows (GetAt (cells of)) ∷ []) k))
        (λ rows fits.
        let size : length (together rows) ≡ total types = together_long rows locals fits ∙ ap total same in
        let lies = slice_lies (λ others. Kept u q (s ∷ ss) others) (expr_temps e) sv row (together rows ++ low) first kept.1 (has_behind (together rows) low (total types) at row size has) in
        take_slice image final depth code callers starts p u v kept.0 q s ss kept.1.cell of kept.1.others (first + expr_temps e) (first + expr_temps e + 1) t k (together rows ++ low) m stack w lies.0 lies.1 kept.1.holds
        (onward_map final _ _ (target_value of (in_slice v (single kept.1.cell) (s ∷ ss)) locals w) (λ x w1 more typed. more typed rows fits)
        (subst (λ y. Onward final (λ x w1. is_of of x ≡ true → Goes_on t k locals low m (stack ++ flat x) w1) (target_value of (in_slice v y (s ∷ ss)) locals w)) kept.1.value h)))

    -- ---- what is given

    give_local : (u : Type') (n : ℕ) (q : trees.Steps) (ss : List Step) (y : Value) (count : ℕ) (row : List Cell) (at t : ℕ) (k : List (Instr ℕ)) (locals : Locals) (low : List Cell) (m : ℕ) (stack : List Cell) (w : ProgramState) → types_of locals ≡ types → Has low at row → Kept u q ss row → cells u ≤ most_room → length (flat y) ≡ count → Onward final (λ ls w1. types_of ls ≡ types → Goes_on t k ls low m stack w1) (give (in_local u n ss) y locals w) → Goes_on t (address_code u (total types + at) q ++ (On_cells (StoreAt (p.locals n) count) ∷ k)) locals low m (stack ++ flat y) w
    give_local u n q ss y count row at t k locals low m stack w same has kept small long h rows fits =
        let P : Locals → ProgramState → Type 0 = λ ls w1. types_of ls ≡ types → Goes_on t k ls low m stack w1 in
        let known = local_known image final depth code callers starts p (λ old w1. Onward final P (and_then (or_panic (updated ss old y) w1) (λ new. put (in_local u n ss) new locals))) locals u n w (slice_get locals n) refl (onward_then final P (typed_or_panic u (local_value locals n) w) _ h) in
        let size : length (together rows) ≡ total types = together_long rows locals fits ∙ ap total same in
        address_runs image final depth code callers starts p q ss u known.v row (total types + at) t (On_cells (StoreAt (p.locals n) count) ∷ k) (together rows ++ low) m (stack ++ flat y) w (has_behind (together rows) low (total types) at row size has) kept known.typed small
        (reach_changed image final depth code callers starts p (λ new w1. Onward final P (put (in_local u n ss) new locals w1)) _ ss known.v y w (read ss known.v) refl (onward_then final P (or_panic (updated ss known.v y) w) _ known.holds) (λ x o led goes.
        stored known.l known.v x o led known.found known.value (local_put final P locals n known.l (led.renewed y).new w known.found goes)))
      where
        stored : (l : Local) (v x : Value) (o : ℕ) (led : Led ss v x o) → slice_get locals n ≡ Some l → l.value ≡ Some v → (is_of l.of (led.renewed y).new ≡ true) × (types_of (slice_set locals n (record { of = l.of; value = Some (led.renewed y).new })) ≡ types → Goes_on t k (slice_set locals n (record { of = l.of; value = Some (led.renewed y).new })) low m stack w) → Onto t (On_cells (StoreAt (p.locals n) count) ∷ k) (together rows ++ low) m ((stack ++ flat y) ++ Int (pos o) ∷ []) w
        stored l v x o led found value g =
            let new : Value = (led.renewed y).new in
            let l1 : Local = record { of = l.of; value = Some new } in
            let at = lies rows locals 0 n l fits found in
            let sits = sits_in image final depth code callers starts p types rows locals low placed fits same in
            let old : at.row ≡ flat v = subst (λ (o : Option Value). RowOf at.row o) value at.fits.1 in
            let place : length (at.before ++ led.before) ≡ p.locals n + o = omega (arith, sits.placed n, at.place, length-append at.before led.before, led.place) in
            let sizes : length (flat new) ≡ length (flat v) = flat_long l.of new g.0 ∙ sym at.fits.0 ∙ ap length old in
            let one : length (flat y) ≡ length (flat x) = same_size (flat v) (flat new) led.before (flat x) (flat y) led.after led.is (led.renewed y).row sizes in
            let shape = λ (r : List Cell). inside at.before led.before r led.after at.after low in
            let was : together rows ++ low ≡ (at.before ++ led.before) ++ (flat x ++ (led.after ++ (at.after ++ low))) =
            ap (λ l2. l2 ++ low) (at.is ∙ ap (λ r. at.before ++ (r ++ at.after)) (old ∙ led.is)) ∙ shape (flat x) in
            let other = at.renewed l1 (flat new) (flat_long l.of new g.0, refl) in
            let becomes : together other.others ++ low ≡ (at.before ++ led.before) ++ (flat y ++ (led.after ++ (at.after ++ low))) =
            ap (λ l2. l2 ++ low) (other.is ∙ ap (λ r. at.before ++ (r ++ at.after)) (led.renewed y).row) ∙ shape (flat y) in
            on_front image final depth code callers starts p t (On_cells (StoreAt (p.locals n) count) ∷ k) _ (together rows ++ low) m ((stack ++ flat y) ++ Int (pos o) ∷ []) w (sym was)
            (stores_at image final depth code callers starts p t (p.locals n) count o (at.before ++ led.before) (flat x) (flat y) (led.after ++ (at.after ++ low)) k m stack w place one long
            (on_front image final depth code callers starts p t k (together other.others ++ low) _ m stack w becomes
            (g.1 (types_stay locals n l l1 found refl ∙ same) other.others other.fits)))

    give_global : (u : Type') (s : Symbol) (q : trees.Steps) (ss : List Step) (y : Value) (count : ℕ) (row : List Cell) (at t : ℕ) (k : List (Instr ℕ)) (locals : Locals) (low : List Cell) (m : ℕ) (stack : List Cell) (w : ProgramState) → types_of locals ≡ types → Has low at row → Kept u q ss row → cells u ≤ most_room → length (flat y) ≡ count → Onward final (λ ls w1. types_of ls ≡ types → Goes_on t k ls low m stack w1) (give (in_global u s ss) y locals w) → Goes_on t (address_code u (total types + at) q ++ (On_globals (StoreAt (p.globals s) count) ∷ k)) locals low m (stack ++ flat y) w
    give_global u s q ss y count row at t k locals low m stack w same has kept small long h rows fits =
        let P : Locals → ProgramState → Type 0 = λ ls w1. types_of ls ≡ types → Goes_on t k ls low m stack w1 in
        let known = global_known image final depth code callers starts p (λ old w1. Onward final P (and_then (or_panic (updated ss old y) w1) (λ new. put (in_global u s ss) new locals))) u s w (option_map (λ x. x.value) (find (λ x. same_symbol s x.symbol) w.variables)) refl (onward_then final P (typed_or_panic u (global_value w.variables s) w) _ h) in
        let size : length (together rows) ≡ total types = together_long rows locals fits ∙ ap total same in
        on_known image final depth code callers starts p t (address_code u (total types + at) q ++ (On_globals (StoreAt (p.globals s) count) ∷ k)) (together rows ++ low) m (stack ++ flat y) w (λ sound.
        address_runs image final depth code callers starts p q ss u known.v row (total types + at) t (On_globals (StoreAt (p.globals s) count) ∷ k) (together rows ++ low) m (stack ++ flat y) w (has_behind (together rows) low (total types) at row size has) kept known.typed small
        (reach_changed image final depth code callers starts p (λ new w1. Onward final P (put (in_global u s ss) new locals w1)) _ ss known.v y w (read ss known.v) refl (onward_then final P (or_panic (updated ss known.v y) w) _ known.holds) (λ x o led goes.
        stored known.v x o led sound known.found (with_global w.variables s (led.renewed y).new) refl goes)))
      where
        stored : (v x : Value) (o : ℕ) (led : Led ss v x o) → Known image final depth code callers starts p w → option_map (λ z. z.value) (find (λ z. same_symbol s z.symbol) w.variables) ≡ Some v → (vs : Option (List Stored)) → with_global w.variables s (led.renewed y).new ≡ vs → Onward final (λ ls w1. types_of ls ≡ types → Goes_on t k ls low m stack w1) (and_then (if_known vs w) (λ variables w1. Gives locals (record w1 { variables = variables }))) → Onto t (On_globals (StoreAt (p.globals s) count) ∷ k) (together rows ++ low) m ((stack ++ flat y) ++ Int (pos o) ∷ []) w
        stored v x o led sound found None e goes = absurd goes
        stored v x o led sound found (Some variables) e goes =
            let new : Value = (led.renewed y).new in
            let gp = global_put w.variables s v new variables sound.0 found e in
            let place : length (gp.before ++ led.before) ≡ p.globals s + o = omega (arith, sound.1 s, gp.place, length-append gp.before led.before, led.place) in
            let one : length (flat y) ≡ length (flat x) = same_size (flat v) (flat new) led.before (flat x) (flat y) led.after led.is (led.renewed y).row gp.long in
            let shape = λ (r : List Cell). inside_none gp.before led.before r led.after gp.after in
            global_stores_at image final depth code callers starts p t (p.globals s) count o (gp.before ++ led.before) (flat x) (flat y) (led.after ++ gp.after) variables k (together rows ++ low) m stack w
            (gp.was ∙ ap (λ r. gp.before ++ (r ++ gp.after)) led.is ∙ shape (flat x))
            (gp.is ∙ ap (λ r. gp.before ++ (r ++ gp.after)) (led.renewed y).row ∙ shape (flat y))
            place one long (gp.sized, λ r. sound.1 r ∙ sym (gp.same r)) (goes same rows fits)

    -- a value that lies in its temporary comes on the stack
    loaded : (y : Value) (count there t : ℕ) (address : List (Instr ℕ)) (i : Instr ℕ) (k : List (Instr ℕ)) (locals : Locals) (low : List Cell) (m : ℕ) (stack : List Cell) (w : ProgramState) → types_of locals ≡ types → Has low there (flat y) → length (flat y) ≡ count → Goes_on t (address ++ (i ∷ k)) locals low m (stack ++ flat y) w → Goes_on t ((load (total types + there) count ∷ address ++ i ∷ []) ++ k) locals low m stack w
    loaded y count there t address i k locals low m stack w same value long on =
        follows_as image final depth code callers starts p types t (load (total types + there) count ∷ (address ++ (i ∷ k))) _ locals low m stack w (ap (λ l. load (total types + there) count ∷ l) (sym (append_assoc address (i ∷ []) k)))
        (λ rows fits.
        let size : length (together rows) ≡ total types = together_long rows locals fits ∙ ap total same in
        has_loads image final depth code callers starts p t (total types + there) count (flat y) (address ++ (i ∷ k)) (together rows ++ low) m stack w (has_behind (together rows) low (total types) there (flat y) size value) long (on rows fits))

    pub give_runs : (l : Left) (target : Target) (y : Value) (count : ℕ) (row : List Cell) (at there t : ℕ) (k : List (Instr ℕ)) (locals : Locals) (low : List Cell) (m : ℕ) (stack : List Cell) (w : ProgramState) → types_of locals ≡ types → Has low at row → KeptLeft l target row → Has low there (kept_value l y) → length (flat y) ≡ count → Onward final (λ ls w1. types_of ls ≡ types → Goes_on t k ls low m stack w1) (give target y locals w) → Goes_on t (give_code p (total types + at) l (total types + there) count ++ k) locals low m stack w
    give_runs blank nowhere y count row at there t k locals low m stack w same has kept value long h = h same
    give_runs blank (in_local u j ss) y count row at there t k locals low m stack w same has kept value long h = absurd kept
    give_runs blank (in_global u r ss) y count row at there t k locals low m stack w same has kept value long h = absurd kept
    give_runs blank (in_slice v sv ss) y count row at there t k locals low m stack w same has kept value long h = absurd kept
    give_runs (of_local u n q) nowhere y count row at there t k locals low m stack w same has kept value long h = absurd kept
    give_runs (of_local u n q) (in_slice v sv ss) y count row at there t k locals low m stack w same has kept value long h = absurd kept
    give_runs (of_local u n q) (in_global v r ss) y count row at there t k locals low m stack w same has kept value long h = absurd kept
    give_runs (of_local u n q) (in_local v j ss) y count row at there t k locals low m stack w same has kept value long h =
        loaded y count there t (address_code u (total types + at) q) (On_cells (StoreAt (p.locals n) count)) k locals low m stack w same value long
        (give_local u n q ss y count row at t k locals low m stack w same has kept.3 kept.2 long
        (subst (λ i. Onward final (λ ls w1. types_of ls ≡ types → Goes_on t k ls low m stack w1) (give (in_local u i ss) y locals w)) kept.1
        (subst (λ x. Onward final (λ ls w1. types_of ls ≡ types → Goes_on t k ls low m stack w1) (give (in_local x j ss) y locals w)) kept.0 h)))
    give_runs (of_global u s q) nowhere y count row at there t k locals low m stack w same has kept value long h = absurd kept
    give_runs (of_global u s q) (in_slice v sv ss) y count row at there t k locals low m stack w same has kept value long h = absurd kept
    give_runs (of_global u s q) (in_local v j ss) y count row at there t k locals low m stack w same has kept value long h = absurd kept
    give_runs (of_global u s q) (in_global v r ss) y count row at there t k locals low m stack w same has kept value long h =
        loaded y count there t (address_code u (total types + at) q) (On_globals (StoreAt (p.globals s) count)) k locals low m stack w same value long
        (give_global u s q ss y count row at t k locals low m stack w same has kept.3 kept.2 long
        (subst (λ i. Onward final (λ ls w1. types_of ls ≡ types → Goes_on t k ls low m stack w1) (give (in_global u i ss) y locals w)) kept.1
        (subst (λ x. Onward final (λ ls w1. types_of ls ≡ types → Goes_on t k ls low m stack w1) (give (in_global x r ss) y locals w)) kept.0 h)))
    give_runs (of_slice u e q) nowhere y count row at there t k locals low m stack w same has kept value long h = absurd kept
    give_runs (of_slice u e q) (in_local v j ss) y count row at there t k locals low m stack w same has kept value long h = absurd kept
    give_runs (of_slice u e q) (in_global v r ss) y count row at there t k locals low m stack w same has kept value long h = absurd kept
    give_runs (of_slice u e q) (in_slice v sv []) y count row at there t k locals low m stack w same has kept value long h = absurd kept
    give_runs (of_slice u e q) (in_slice v sv (s ∷ ss)) y count row at there t k locals low m stack w same has kept value long h =
        let first : ℕ = total types + at in
        loaded y count there t (array_access_code u (first + expr_temps e) (first + expr_temps e + 1) q) (On_rows (SetAt count)) k locals low m stack w same value long
        (λ rows fits.
        let size : length (together rows) ≡ total types = together_long rows locals fits ∙ ap total same in
        let lies = slice_lies (λ others. Kept u q (s ∷ ss) others) (expr_temps e) sv row (together rows ++ low) first kept.1 (has_behind (together rows) low (total types) at row size has) in
        give_slice image final depth code callers starts p (λ ls w1. types_of ls ≡ types → Goes_on t k ls low m stack w1) u v kept.0 q s ss kept.1.cell y count kept.1.others (first + expr_temps e) (first + expr_temps e + 1) t k locals (together rows ++ low) m stack w lies.0 lies.1 kept.1.holds long (λ w1 goes. goes same rows fits)
        (subst (λ x. Onward final (λ ls w1. types_of ls ≡ types → Goes_on t k ls low m stack w1) (give (in_slice v x (s ∷ ss)) y locals w)) kept.1.value h))
