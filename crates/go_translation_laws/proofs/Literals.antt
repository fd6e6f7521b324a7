-- The machine follows composite literals: the zero value lies in temporaries, and each part is stored among its cells.
use Rattle.std.proofs.Common.{◌≡◌, ℕ, ◌+◌, ◌-◌, ◌≤◌, true, List, [], ◌∷◌, ◌++◌, length, Option, Some, None, refl, sym, ap, ◌∙◌, arith, length-append, append_assoc, append-nil, add-zero}
use Rattle.go_types.specs.Types.{Type', basic, array, slice, struct, named}
use Rattle.go_types.specs.Sizes.{cells}
use Rattle.go_types.specs.Relations.{underlying}
use Rattle.go_code.specs.declared.cell.Cell.{Cell}
use Rattle.go_code.specs.declared.image.Start.{Start}
use Rattle.go_code.specs.declared.instr.Instr.{Instr}
use Rattle.go_code.specs.Finals.{Final}
use Rattle.go_code.specs.Images.{Image}
use Rattle.go_code.specs.Machine.{Frame}
use Rattle.go_code.specs.Operators as operators
use Rattle.go_typed.specs.Trees as trees
use Rattle.go_typed.specs.Trees.{Expr, Parts, no_parts, part, expr_type}
use Rattle.go_meaning.specs.Values.{Value, single, parts, Values, flat, flat_all, is_of, zero_of, or_else, if_gives, to_field, nth, with_nth, updated}
use Rattle.go_meaning.specs.Meaning.{ProgramState, Locals, Calls, typed_or_panic, eval, eval_parts}
use Rattle.go_gen.specs.Translation.{Places, offset, store, load, zero_code, expr_temps, parts_temps, expr_code, parts_code}
use Rattle.go_meaning_laws.proofs.Values.{flat_long}
use Rattle.go_translation_laws.proofs.Shapes.{Among, field_among, element_among, both_true}
use Rattle.go_translation_laws.proofs.Runs.{Onward, onward_then, onward_map, onward_given, On, on_as, Sits}
use Rattle.go_translation_laws.proofs.Exprs.{Runs, shallower, sits_deeper, second_runs}
use Rattle.go_translation_laws.proofs.Rows.{on_front, loads, stores, keeps}
use Rattle.go_translation_laws.proofs.Zeros.{zero_runs}

-- ---- a part of a value is updated

-- the value with another part there, and where the cells of both parts lie
pub record Updates (P : Value → ProgramState → Type 0) (of : Type') (n : ℕ) (v x : Value) (w : ProgramState) : Type 0 where
  pub inner : Value
  pub changed : Value
  pub before : List Cell
  pub after : List Cell
  pub was : flat v ≡ before ++ (flat inner ++ after)
  pub is : flat changed ≡ before ++ (flat x ++ after)
  pub place : length before ≡ offset (underlying of) n
  pub size : length (flat inner) ≡ length (flat x)
  pub typed : is_of of changed ≡ true
  pub holds : P changed w

updates_among : (final : Final) (P : Value → ProgramState → Type 0) (of : Type') (n : ℕ) (vs : Values) (x inner : Value) (w : ProgramState) → is_of of (parts vs) ≡ true → Among vs n inner (offset (underlying of) n) → Onward final P (typed_or_panic of (operators.Gives (parts (with_nth vs n x))) w) → Updates P of n (parts vs) x w
updates_among final P of n vs x inner w typed at h =
    let g = onward_given final P of (parts (with_nth vs n x)) w h in
    let is : flat_all (with_nth vs n x) ≡ at.before ++ (flat x ++ at.after) = at.renewed x in
    let old : length (flat_all vs) ≡ cells of = flat_long of (parts vs) typed in
    let new : length (flat_all (with_nth vs n x)) ≡ cells of = flat_long of (parts (with_nth vs n x)) g.0 in
    let first : length (flat_all vs) ≡ length at.before + (length (flat inner) + length at.after) = omega (arith, ap length at.is, length-append at.before (flat inner ++ at.after), length-append (flat inner) at.after) in
    let second : length (flat_all (with_nth vs n x)) ≡ length at.before + (length (flat x) + length at.after) = omega (arith, ap length is, length-append at.before (flat x ++ at.after), length-append (flat x) at.after) in
    record {
      inner = inner;
      changed = parts (with_nth vs n x);
      before = at.before;
      after = at.after;
      was = at.is;
      is = is;
      place = at.place;
      size = omega (arith, old, new, first, second);
      typed = g.0;
      holds = g.1;
    }

part_updates : (final : Final) (P : Value → ProgramState → Type 0) (of : Type') (n : ℕ) (vs : Values) (x : Value) (w : ProgramState) (o : Option Value) → nth vs n ≡ o → is_of of (parts vs) ≡ true → ((inner : Value) → nth vs n ≡ Some inner → Among vs n inner (offset (underlying of) n)) → Onward final P (typed_or_panic of (if_gives (or_else operators.Senseless o) (λ inner. operators.Gives (parts (with_nth vs n x)))) w) → Updates P of n (parts vs) x w
part_updates final P of n vs x w None e typed among h = absurd h
part_updates final P of n vs x w (Some inner) e typed among h = updates_among final P of n vs x inner w typed (among inner e) h

-- a declared type's values are its underlying type's
declared_updates : (P : Value → ProgramState → Type 0) (path name : List ℕ) (of : Type') (n : ℕ) (v x : Value) (w : ProgramState) → Updates P of n v x w → Updates P (named path name of) n v x w
declared_updates P path name of n v x w u = record { inner = u.inner; changed = u.changed; before = u.before; after = u.after; was = u.was; is = u.is; place = u.place; size = u.size; typed = u.typed; holds = u.holds }

pub updates : (final : Final) (P : Value → ProgramState → Type 0) (of : Type') (n : ℕ) (v x : Value) (w : ProgramState) → is_of of v ≡ true → Onward final P (typed_or_panic of (updated (to_field n ∷ []) v x) w) → Updates P of n v x w
updates final P of n (single c) x w typed h = absurd h
updates final P (basic b) n (parts vs) x w typed h = cc
updates final P (array count u) n (parts vs) x w typed h =
    part_updates final P (array count u) n vs x w (nth vs n) refl typed (λ inner e. element_among u vs n inner (both_true _ _ typed).1 e) h
updates final P (slice u) n (parts vs) x w typed h = cc
updates final P (struct fs) n (parts vs) x w typed h =
    part_updates final P (struct fs) n vs x w (nth vs n) refl typed (λ inner e. field_among fs vs n inner typed e) h
updates final P (named path name u) n (parts vs) x w typed h = declared_updates P path name u n (parts vs) x w (updates final P u n (parts vs) x w typed h)

module _ (image : Image) (final : Final) (depth : ℕ) (code : List (Instr ℕ)) (callers : List Frame) (starts : List Start) (p : Places ℕ) (calls : Calls) where
  abbrev Onto : ℕ → List (Instr ℕ) → List Cell → ℕ → List Cell → ProgramState → Type 0
  Onto t k front m stack w = On image final depth code callers starts p t k front m stack w

  abbrev InPlace : Locals → List Cell → Type 0
  InPlace locals front = Sits image final depth code callers starts p locals front

  abbrev Evaluates : Expr → Type 0
  Evaluates e = Runs image final depth code callers starts p calls e

  -- the value lies in front, and d temporaries of parts before these behind it
  abbrev pub PartsRun : Type' → Parts → Type 0
  PartsRun of ps =
      (t : ℕ) (locals : Locals) (at d : ℕ) (k : List (Instr ℕ)) (front : List Cell) (m : ℕ) (stack : List Cell) (v : Value) (w : ProgramState) → length front ≡ at → d + parts_temps ps ≤ m → InPlace locals front → is_of of v ≡ true →
      Onward final (λ u w1. is_of of u ≡ true → Onto t k (front ++ flat u) m stack w1) (eval_parts calls of ps locals v w) →
      Onto t (parts_code p (underlying of) at (at + cells of + d) ps ++ k) (front ++ flat v) m stack w

  pub no_parts_run : (of : Type') → PartsRun of no_parts
  no_parts_run of t locals at d k front m stack v w long le sits typed h = h typed

  -- the part's cells are stored among the value's
  part_stored : (of size : Type') (n t at : ℕ) (k : List (Instr ℕ)) (front : List Cell) (m : ℕ) (stack : List Cell) (v x : Value) (P : Value → ProgramState → Type 0) (w : ProgramState) → length front ≡ at → is_of size x ≡ true → (u : Updates P of n v x w) → Onto t k (front ++ flat u.changed) m stack w → Onto t (store (at + offset (underlying of) n) (cells size) ∷ k) (front ++ flat v) m (stack ++ flat x) w
  part_stored of size n t at k front m stack v x P w long typed u on =
      let row : length (flat x) ≡ cells size = flat_long size x typed in
      let place : length (front ++ u.before) ≡ at + offset (underlying of) n = omega (arith, long, u.place, length-append front u.before) in
      let was : (front ++ u.before) ++ (flat u.inner ++ u.after) ≡ front ++ flat v = append_assoc front u.before (flat u.inner ++ u.after) ∙ ap (λ l. front ++ l) (sym u.was) in
      let is : front ++ flat u.changed ≡ (front ++ u.before) ++ (flat x ++ u.after) = ap (λ l. front ++ l) u.is ∙ sym (append_assoc front u.before (flat x ++ u.after)) in
      on_front image final depth code callers starts p t (store (at + offset (underlying of) n) (cells size) ∷ k) _ _ m (stack ++ flat x) w was
      (stores image final depth code callers starts p t (at + offset (underlying of) n) (cells size) (front ++ u.before) (flat u.inner) (flat x) u.after k m stack w place (u.size ∙ row) row
      (on_front image final depth code callers starts p t k _ _ m stack w is on))

  pub part_runs : (of : Type') (n : ℕ) (e : Expr) (ps : Parts) → Evaluates e → PartsRun of ps → PartsRun of (part n e ps)
  part_runs of n e ps first others t locals at d k front m stack v w long le sits typed h =
      let here : ℕ = at + cells of + d in
      let rest : List (Instr ℕ) = parts_code p (underlying of) at (here + expr_temps e) ps in
      let put : Instr ℕ = store (at + offset (underlying of) n) (cells (expr_type e)) in
      let there : length (front ++ flat v) ≡ at + cells of = omega (arith, long, length-append front (flat v), flat_long of v typed) in
      let next : at + cells of + (d + expr_temps e) ≡ here + expr_temps e = omega arith in
      on_as image final depth code callers starts p t _ _ (front ++ flat v) m stack w (sym (append_assoc (expr_code p here e) (put ∷ rest) k))
      (second_runs image final depth code callers starts p calls e d first t locals (at + cells of) (put ∷ (rest ++ k)) (front ++ flat v) m stack w there (omega (arith, le)) (sits_deeper image final depth code callers starts p locals front (flat v) sits)
      (onward_map final _ _ (eval calls e locals w)
      (λ x w1 more is.
      let u = updates final (λ y w2. Onward final (λ z w3. is_of of z ≡ true → Onto t k (front ++ flat z) m stack w3) (eval_parts calls of ps locals y w2)) of n v x w1 typed
      (onward_then final _ (typed_or_panic of (updated (to_field n ∷ []) v x) w1) _ more) in
      part_stored of (expr_type e) n t at (rest ++ k) front m stack v x _ w1 long is u
      (on_as image final depth code callers starts p t _ _ (front ++ flat u.changed) m stack w1 (ap (λ place. parts_code p (underlying of) at place ps ++ k) next)
      (others t locals at (d + expr_temps e) k front m stack u.changed w1 long (omega (arith, le)) sits u.typed u.holds)))
      (onward_then final _ (eval calls e locals w) _ h)))

  -- the whole value, from the first temporaries
  whole_loaded : (of : Type') (u : Value) (t at : ℕ) (k : List (Instr ℕ)) (front : List Cell) (m : ℕ) (stack : List Cell) (w : ProgramState) → length front ≡ at → cells of ≤ m → is_of of u ≡ true → Onto t k front m (stack ++ flat u) w → Onto t (load at (cells of) ∷ k) (front ++ flat u) (m - cells of) stack w
  whole_loaded of u t at k front m stack w long le typed on =
      let size : length (flat u) ≡ cells of = flat_long of u typed in
      let shape : front ++ (flat u ++ []) ≡ front ++ flat u = ap (λ l. front ++ l) (append-nil (flat u)) in
      on_front image final depth code callers starts p t (load at (cells of) ∷ k) _ _ (m - cells of) stack w shape
      (loads image final depth code callers starts p t at (cells of) front (flat u) [] k (m - cells of) stack w long size
      (on_front image final depth code callers starts p t k _ _ (m - cells of) (stack ++ flat u) w (sym shape)
      (shallower image final depth code callers starts p t k front (flat u) m (cells of) (stack ++ flat u) w size le on)))

  pub literal_runs : (of : Type') (ps : Parts) → PartsRun of ps → Evaluates (trees.literal of ps)
  literal_runs of ps run t locals at k front m stack w long le sits h =
      let put : Instr ℕ = store at (cells of) in
      let get : Instr ℕ = load at (cells of) in
      let row : List Cell = flat (zero_of of) in
      let inside : List (Instr ℕ) = parts_code p (underlying of) at (at + cells of) ps in
      let within : cells of ≤ m = omega (arith, le) in
      let rest : 0 + parts_temps ps ≤ m - cells of = omega (arith, le) in
      let shape : zero_code of ++ (put ∷ (inside ++ (get ∷ k))) ≡ (zero_code of ++ put ∷ inside ++ get ∷ []) ++ k = simp append_assoc in
      let g = onward_given final _ of (zero_of of) w (onward_then final _ (typed_or_panic of (operators.Gives (zero_of of)) w) _ h) in
      on_as image final depth code callers starts p t _ _ front m stack w shape
      (zero_runs image final depth code callers starts p of t (put ∷ (inside ++ (get ∷ k))) front m stack w
      (keeps image final depth code callers starts p t at (cells of) row (inside ++ (get ∷ k)) front m stack w long (flat_long of (zero_of of) g.0) within
      (on_as image final depth code callers starts p t _ _ (front ++ row) (m - cells of) stack w (ap (λ place. parts_code p (underlying of) at place ps ++ (get ∷ k)) (add-zero (at + cells of)))
      (run t locals at 0 (get ∷ k) front (m - cells of) stack (zero_of of) w long rest sits g.0
      (onward_map final _ _ (eval_parts calls of ps locals (zero_of of) w)
      (λ u w1 more typed. whole_loaded of u t at k front m stack w1 long within typed (more typed))
      g.1)))))
