-- The machine follows definitions: local variables get values from the stack.
use Rattle.std.proofs.Common.{◌≡◌, ℕ, zero, suc, ◌+◌, Bool, true, false, List, [], ◌∷◌, ◌++◌, length, Option, Some, None, refl, sym, ap, ◌∙◌, arith, append_assoc, append-nil}
use Rattle.std.specs.Prelude.{if◌then◌else◌, slice_get, slice_set}
use Rattle.std.specs.List.{flat_map}
use Rattle.std.specs.Option.{option_map, option_and_then}
use Rattle.go_types.specs.Types.{Type'}
use Rattle.go_types.specs.Sizes.{cells}
use Rattle.go_code.specs.declared.cell.Cell.{Cell}
use Rattle.go_code.specs.declared.image.Start.{Start}
use Rattle.go_code.specs.declared.instr.Instr.{Instr}
use Rattle.go_code.specs.declared.instr.Instr.TheVariants.{Frame as In_frame}
use Rattle.go_code.specs.declared.instr.FrameInstr.TheVariants.{Pop}
use Rattle.go_code.specs.Finals.{Final}
use Rattle.go_code.specs.Images.{Image}
use Rattle.go_code.specs.Machine.{Frame}
use Rattle.go_code.proofs.Follows.{split_row}
use Rattle.go_code.proofs.FollowsInside.{frame_leads}
use Rattle.go_code.proofs.Stands.{stands_next}
use Rattle.go_meaning.specs.Values.{Value, flat, is_of}
use Rattle.go_meaning.specs.Meaning.{ProgramState, Local, Locals, if_known, with_local, defined}
use Rattle.go_gen.specs.Translation.{Places, store, define_code, defines_code}
use Rattle.go_translation_laws.proofs.Frames.{together, types_of, lies}
use Rattle.go_meaning_laws.proofs.Values.{flat_long}
use Rattle.go_translation_laws.proofs.Runs.{Onward, onward_map, here, On}
use Rattle.go_translation_laws.proofs.Exprs.{lengths}
use Rattle.go_translation_laws.proofs.Rows.{on_front, stores}
use Rattle.go_translation_laws.proofs.Following.{Placed, Follows, follows_as, follows_stack, sits_in}

-- ---- a local variable with another value

-- it keeps its type
types_kept : (locals : Locals) (n : ℕ) (l : Local) (o : Option Value) → slice_get locals n ≡ Some l → types_of (slice_set locals n (record { of = l.of; value = o })) ≡ types_of locals
types_kept [] n l o e = cc
types_kept (x ∷ xs) zero l o e = ap (λ y. y ∷ types_of xs) (same x l e)
  where
    same : (a b : Local) → Some a ≡ Some b → b.of ≡ a.of
    same a b e = ap (λ y. y.of) (inner a b e)
      where
        inner : (a b : Local) → Some a ≡ Some b → b ≡ a
        inner a b e = cc
types_kept (x ∷ xs) (suc n) l o e = ap (λ ts. x.of ∷ ts) (types_kept xs n l o e)

pub record Gets (P : Locals → ProgramState → Type 0) (locals : Locals) (n : ℕ) (v : Value) (w : ProgramState) : Type 0 where
  pub l : Local
  pub found : slice_get locals n ≡ Some l
  pub typed : is_of l.of v ≡ true
  pub holds : P (slice_set locals n (record { of = l.of; value = Some v })) w

pub gets : (final : Final) (P : Locals → ProgramState → Type 0) (locals : Locals) (n : ℕ) (v : Value) (w : ProgramState) (o : Option Local) → slice_get locals n ≡ o → Onward final P (if_known (option_and_then (λ l. if is_of l.of v then Some (slice_set locals n (record { of = l.of; value = Some v })) else None) o) w) → Gets P locals n v w
gets final P locals n v w None e h = absurd h
gets final P locals n v w (Some l) e h = by_test (is_of l.of v) refl h
  where
    by_test : (b : Bool) → is_of l.of v ≡ b → Onward final P (if_known (if b then Some (slice_set locals n (record { of = l.of; value = Some v })) else None) w) → Gets P locals n v w
    by_test true typed h = record { l = l; found = e; typed = typed; holds = h }
    by_test false typed h = absurd h

module _ (image : Image) (final : Final) (depth : ℕ) (code : List (Instr ℕ)) (callers : List Frame) (starts : List Start) (p : Places ℕ) (types : List Type') where
  abbrev Onto : ℕ → List (Instr ℕ) → List Cell → ℕ → List Cell → ProgramState → Type 0
  Onto t k front m stack w = On image final depth code callers starts p t k front m stack w

  abbrev Goes_on : ℕ → List (Instr ℕ) → Locals → List Cell → ℕ → List Cell → ProgramState → Type 0
  Goes_on t k locals low m stack w = Follows image final depth code callers starts p types t k locals low m stack w

  -- a row is taken off the stack
  pub pops : (t count : ℕ) (row : List Cell) (k : List (Instr ℕ)) (front : List Cell) (m : ℕ) (stack : List Cell) (w : ProgramState) → length row ≡ count → Onto t k front m stack w → Onto t (In_frame (Pop count) ∷ k) front m (stack ++ row) w
  pops t count row k front m stack w size on known few place high long s =
      frame_leads image (here image final depth code callers starts p place (front ++ high) (stack ++ row) w) _ callers (Pop count)
      (record { depth = depth; code = code; place = place + 1; cells = front ++ high; stack = stack }) final (record { frames = refl; rest = k; stands = s })
      (ap (option_map (λ parts. (record { depth = depth; code = code; place = place + 1; cells = front ++ high; stack = parts.0 }))) (split_row stack row count size))
      (on known few (place + 1) high long (stands_next code place _ k s))

  -- a value goes from the stack into a local variable
  pub local_stores : Placed image final depth code callers starts p types → (t n : ℕ) (v : Value) (k : List (Instr ℕ)) (locals : Locals) (low : List Cell) (m : ℕ) (stack : List Cell) (w : ProgramState) → types_of locals ≡ types → Onward final (λ ls w1. types_of ls ≡ types → Goes_on t k ls low m stack w1) (if_known (with_local locals n v) w) → Goes_on t (store (p.locals n) (length (flat v)) ∷ k) locals low m (stack ++ flat v) w
  local_stores placed t n v k locals low m stack w same h rows fits =
      let g = gets final (λ ls w1. types_of ls ≡ types → Goes_on t k ls low m stack w1) locals n v w (slice_get locals n) refl h in
      let at = lies rows locals 0 n g.l fits g.found in
      let sits = sits_in image final depth code callers starts p types rows locals low placed fits same in
      let long : length (flat v) ≡ cells g.l.of = flat_long g.l.of v g.typed in
      let r = at.renewed (record { of = g.l.of; value = Some v }) (flat v) (long, refl) in
      let place : length at.before ≡ p.locals n = omega (arith, sits.placed n, at.place) in
      let old : length at.row ≡ length (flat v) = at.fits.0 ∙ sym long in
      on_front image final depth code callers starts p t _ (at.before ++ (at.row ++ (at.after ++ low))) (together rows ++ low) m (stack ++ flat v) w (sym (widened (together rows) at.before at.row at.after low at.is))
      (stores image final depth code callers starts p t (p.locals n) (length (flat v)) at.before at.row (flat v) (at.after ++ low) k m stack w place old refl
      (on_front image final depth code callers starts p t k (together r.others ++ low) (at.before ++ (flat v ++ (at.after ++ low))) m stack w (widened (together r.others) at.before (flat v) at.after low r.is)
      (g.holds (types_kept locals n g.l (Some v) g.found ∙ same) r.others r.fits)))
    where
      widened : (whole before row after low : List Cell) → whole ≡ before ++ (row ++ after) → whole ++ low ≡ before ++ (row ++ (after ++ low))
      widened whole before row after low e = ap (λ l. l ++ low) e ∙ append_assoc before (row ++ after) low ∙ ap (λ l. before ++ l) (append_assoc row after low)

  module _ (placed : Placed image final depth code callers starts p types) where
    -- one of them, where those behind it have their values
    define_follows : (t : ℕ) (n : Option ℕ) (ns : List (Option ℕ)) (v : Value) (vs : List Value) (k : List (Instr ℕ)) (locals : Locals) (low : List Cell) (m : ℕ) (stack : List Cell) (w : ProgramState) → Onward final (λ ls w1. types_of ls ≡ types → Goes_on t k ls low m stack w1) (if_known (defined (n ∷ ns) (v ∷ vs) locals) w) → Onward final (λ ls w1. types_of ls ≡ types → Goes_on t (define_code p n (length (flat v)) ∷ k) ls low m (stack ++ flat v) w1) (if_known (defined ns vs locals) w)
    define_follows t None ns v vs k locals low m stack w h =
        onward_map final _ _ (if_known (defined ns vs locals) w) (λ ls w1 on same rows fits. pops t (length (flat v)) (flat v) k (together rows ++ low) m stack w1 refl (on same rows fits)) h
    define_follows t (Some n) ns v vs k locals low m stack w h = by_case (defined ns vs locals) h
      where
        by_case : (o : Option Locals) → Onward final (λ ls w1. types_of ls ≡ types → Goes_on t k ls low m stack w1) (if_known (option_and_then (λ ls1. with_local ls1 n v) o) w) → Onward final (λ ls w1. types_of ls ≡ types → Goes_on t (store (p.locals n) (length (flat v)) ∷ k) ls low m (stack ++ flat v) w1) (if_known o w)
        by_case None h = absurd h
        by_case (Some ls) h = λ same. local_stores placed t n v k ls low m stack w same h

    -- new variables, from the last to the first
    pub defines_follow : (t : ℕ) (ns : List (Option ℕ)) (vs : List Value) (k : List (Instr ℕ)) (locals : Locals) (low : List Cell) (m : ℕ) (stack : List Cell) (w : ProgramState) → types_of locals ≡ types → Onward final (λ ls w1. types_of ls ≡ types → Goes_on t k ls low m stack w1) (if_known (defined ns vs locals) w) → Goes_on t (defines_code p ns (lengths vs) ++ k) locals low m (stack ++ flat_map flat vs) w
    defines_follow t [] [] k locals low m stack w same h = follows_stack image final depth code callers starts p types t k locals low m stack (stack ++ []) w (sym (append-nil stack)) (h same)
    defines_follow t [] (v ∷ vs) k locals low m stack w same h = absurd h
    defines_follow t (n ∷ ns) [] k locals low m stack w same h = absurd h
    defines_follow t (n ∷ ns) (v ∷ vs) k locals low m stack w same h =
        let i = define_code p n (length (flat v)) in
        follows_as image final depth code callers starts p types t (defines_code p ns (lengths vs) ++ (i ∷ k)) _ locals low m _ w (sym (append_assoc (defines_code p ns (lengths vs)) (i ∷ []) k))
        (follows_stack image final depth code callers starts p types t (defines_code p ns (lengths vs) ++ (i ∷ k)) locals low m ((stack ++ flat v) ++ flat_map flat vs) (stack ++ (flat v ++ flat_map flat vs)) w (append_assoc stack (flat v) (flat_map flat vs))
        (defines_follow t ns vs (i ∷ k) locals low m (stack ++ flat v) w same (define_follows t n ns v vs k locals low m stack w h)))
