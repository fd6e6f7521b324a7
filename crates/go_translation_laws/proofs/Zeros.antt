-- The machine follows the code of zero values.
use Rattle.std.proofs.Common.{◌≡◌, ℕ, zero, suc, ◌+◌, ◌*◌, true, List, [], ◌∷◌, ◌++◌, length, replicate, Some, refl, sym, ap, ◌∙◌, arith, length-append, append_assoc, append-nil}
use Rattle.std.proofs.Math.Nat.{suc-mul, zero-mul}
use Rattle.std.specs.List.{repeat}
use Rattle.std.specs.Option.{option_map}
use Rattle.go_types.specs.declared.types.Basic.{Basic}
use Rattle.go_types.specs.declared.types.Basic.TheVariants as basics
use Rattle.go_types.specs.declared.types.Untyped.TheVariants as untypeds
use Rattle.go_types.specs.Types.{Type', basic, array, slice, struct, named, Fields, no_fields, field}
use Rattle.go_types.specs.Sizes.{cells, cells_of}
use Rattle.go_code.specs.declared.cell.Cell.{Cell}
use Rattle.go_code.specs.declared.cell.Cell.TheVariants.{Slice}
use Rattle.go_code.specs.declared.image.Start.{Start}
use Rattle.go_code.specs.declared.instr.Instr.{Instr}
use Rattle.go_code.specs.declared.instr.Instr.TheVariants.{Frame as In_frame}
use Rattle.go_code.specs.declared.instr.FrameInstr.TheVariants.{Repeat}
use Rattle.go_code.specs.Finals.{Final}
use Rattle.go_code.specs.Images.{Image}
use Rattle.go_code.specs.Lines.{cell_fits}
use Rattle.go_code.specs.Machine.{Frame}
use Rattle.go_code.proofs.Follows.{push_leads, split_row}
use Rattle.go_code.proofs.FollowsInside.{frame_leads}
use Rattle.go_code.proofs.Stands.{stands_next}
use Rattle.go_meaning.specs.Values.{Value, pack_values, flat, flat_all, zero_cell, zero_of, zeros_of}
use Rattle.go_meaning.specs.Meaning.{ProgramState}
use Rattle.go_gen.specs.Translation.{Places, zero_code, zeros_code}
use Rattle.go_translation_laws.proofs.Runs.{here, On, on_as, on_stack}

-- ---- zero values as cells

pub zero_fits : (b : Basic) → cell_fits (zero_cell b) ≡ true
zero_fits basics.Bool = refl
zero_fits basics.String = refl
zero_fits (basics.Integer i) = refl
zero_fits (basics.Untyped untypeds.Bool) = refl
zero_fits (basics.Untyped untypeds.Int) = refl
zero_fits (basics.Untyped untypeds.Rune) = refl
zero_fits (basics.Untyped untypeds.String) = refl

repeated : (n : ℕ) (v : Value) → repeat n (flat v) ≡ flat_all (pack_values (replicate n v))
repeated zero v = refl
repeated (suc n) v = ap (λ l. flat v ++ l) (repeated n v)

copies_long : (n size : ℕ) (v : Value) → length (flat v) ≡ size → length (flat_all (pack_values (replicate n v))) ≡ n * size
copies_long zero size v long = sym (zero-mul size)
copies_long (suc n) size v long =
    let rest = copies_long n size v long in
    omega (arith, length-append (flat v) (flat_all (pack_values (replicate n v))), rest, long, suc-mul n size)

mutual
  pub zero_long : (t : Type') → length (flat (zero_of t)) ≡ cells t
  zero_long (basic b) = refl
  zero_long (array n t) = copies_long n (cells t) (zero_of t) (zero_long t)
  zero_long (slice t) = refl
  zero_long (struct fs) = zeros_long fs
  zero_long (named path name t) = zero_long t

  zeros_long : (fs : Fields) → length (flat_all (zeros_of fs)) ≡ cells_of fs
  zeros_long no_fields = refl
  zeros_long (field p x t fs) =
      let one = zero_long t in
      let rest = zeros_long fs in
      omega (arith, length-append (flat (zero_of t)) (flat_all (zeros_of fs)), one, rest)

-- ---- their code

module _ (image : Image) (final : Final) (depth : ℕ) (code : List (Instr ℕ)) (callers : List Frame) (starts : List Start) (p : Places ℕ) where
  abbrev Onto : ℕ → List (Instr ℕ) → List Cell → ℕ → List Cell → ProgramState → Type 0
  Onto t k front m stack w = On image final depth code callers starts p t k front m stack w

  repeats : (t : ℕ) (n size : ℕ) (v : Value) (k : List (Instr ℕ)) (front : List Cell) (m : ℕ) (stack : List Cell) (w : ProgramState) → length (flat v) ≡ size → Onto t k front m (stack ++ flat_all (pack_values (replicate n v))) w → Onto t (In_frame (Repeat size n) ∷ k) front m (stack ++ flat v) w
  repeats t n size v k front m stack w long on known few place high rest s =
      frame_leads image (here image final depth code callers starts p place (front ++ high) (stack ++ flat v) w) _ callers (Repeat size n)
      (record { depth = depth; code = code; place = place + 1; cells = front ++ high; stack = stack ++ flat_all (pack_values (replicate n v)) }) final (record { frames = refl; rest = k; stands = s })
      (ap (option_map (λ parts. (record { depth = depth; code = code; place = place + 1; cells = front ++ high; stack = parts.0 ++ repeat n parts.1 }))) (split_row stack (flat v) size long)
      ∙ ap (λ l. Some (record { depth = depth; code = code; place = place + 1; cells = front ++ high; stack = stack ++ l })) (repeated n v))
      (on known few (place + 1) high rest (stands_next code place _ k s))

  mutual
    pub zero_runs : (of : Type') (t : ℕ) (k : List (Instr ℕ)) (front : List Cell) (m : ℕ) (stack : List Cell) (w : ProgramState) → Onto t k front m (stack ++ flat (zero_of of)) w → Onto t (zero_code of ++ k) front m stack w
    zero_runs (basic b) t k front m stack w on = λ known few place high long s.
        push_leads image (here image final depth code callers starts p place (front ++ high) stack w) _ callers (zero_cell b) k final refl s (zero_fits b) (on known few (place + 1) high long (stands_next code place _ k s))
    zero_runs (array n u) t k front m stack w on =
        on_as image final depth code callers starts p t _ _ front m stack w (sym (append_assoc (zero_code u) (In_frame (Repeat (cells u) n) ∷ []) k))
        (zero_runs u t (In_frame (Repeat (cells u) n) ∷ k) front m stack w (repeats t n (cells u) (zero_of u) k front m stack w (zero_long u) on))
    zero_runs (slice u) t k front m stack w on = λ known few place high long s.
        push_leads image (here image final depth code callers starts p place (front ++ high) stack w) _ callers (Slice 0 0 0 0) k final refl s refl (on known few (place + 1) high long (stands_next code place _ k s))
    zero_runs (struct fs) t k front m stack w on = zeros_run fs t k front m stack w on
    zero_runs (named path name u) t k front m stack w on = zero_runs u t k front m stack w on

    zeros_run : (fs : Fields) (t : ℕ) (k : List (Instr ℕ)) (front : List Cell) (m : ℕ) (stack : List Cell) (w : ProgramState) → Onto t k front m (stack ++ flat_all (zeros_of fs)) w → Onto t (zeros_code fs ++ k) front m stack w
    zeros_run no_fields t k front m stack w on = on_stack image final depth code callers starts p t k front m (stack ++ []) stack w (append-nil stack) on
    zeros_run (field q x u fs) t k front m stack w on =
        on_as image final depth code callers starts p t _ _ front m stack w (sym (append_assoc (zero_code u) (zeros_code fs) k))
        (zero_runs u t (zeros_code fs ++ k) front m stack w
        (zeros_run fs t k front m (stack ++ flat (zero_of u)) w
        (on_stack image final depth code callers starts p t k front m _ _ w (sym (append_assoc stack (flat (zero_of u)) (flat_all (zeros_of fs)))) on)))
