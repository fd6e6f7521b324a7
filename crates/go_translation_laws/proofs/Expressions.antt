-- The machine follows all expressions, and the values that are due, where it follows calls.
use Rattle.std.proofs.Common.{◌≡◌, ℕ, ◌≤◌, Bool, true, false, List, [], ◌∷◌, ◌++◌, length, map, refl, sym, ap, ◌∙◌, append_assoc, append-nil}
use Rattle.std.specs.Prelude.{if◌then◌else◌}
use Rattle.std.specs.List.{flat_map}
use Rattle.go_types.specs.Types.{Type'}
use Rattle.go_types.specs.Sizes.{cells}
use Rattle.go_code.specs.declared.cell.Cell.{Cell}
use Rattle.go_code.specs.declared.image.Start.{Start}
use Rattle.go_code.specs.declared.instr.Instr.{Instr}
use Rattle.go_code.specs.declared.instr.Instr.TheVariants.{Calls as By_call}
use Rattle.go_code.specs.declared.instr.CallInstr.TheVariants.{Call}
use Rattle.go_code.specs.Finals.{Final}
use Rattle.go_code.specs.Images.{Image}
use Rattle.go_code.specs.Machine.{Frame}
use Rattle.go_typed.specs.Trees as trees
use Rattle.go_typed.specs.Trees.{Symbol, Expr, Exprs, no_exprs, some_exprs, Perhaps, absent, present, Parts, no_parts, part, ValueSource, each, results, zeros}
use Rattle.go_meaning.specs.Values.{Value, flat, is_of, are_of, zero_of}
use Rattle.go_meaning.specs.Meaning.{ProgramState, Gives, Stuck, Locals, Calls, all_given, eval_all, source}
use Rattle.go_gen.specs.Translation.{Places, zero_code, exprs_code, source_counts, source_temps, source_code}
use Rattle.go_meaning_laws.proofs.Values.{flat_long}
use Rattle.go_translation_laws.proofs.Shapes.{both_true}
use Rattle.go_translation_laws.proofs.Runs.{Onward, onward_then, onward_map, On, on_as, on_stack, Sits}
use Rattle.go_translation_laws.proofs.Exprs as forms
use Rattle.go_translation_laws.proofs.Exprs.{Runs, AllRun, Called, lengths}
use Rattle.go_translation_laws.proofs.Cuts.{PerhapsRuns, cut_runs, make_runs, append_runs}
use Rattle.go_translation_laws.proofs.Literals.{PartsRun, no_parts_run, part_runs, literal_runs}
use Rattle.go_translation_laws.proofs.Zeros.{zero_long, zero_runs}

-- values of these types have as many cells as the types say
pub are_of_long : (ts : List Type') (vs : List Value) → are_of ts vs ≡ true → lengths vs ≡ map cells ts
are_of_long [] [] e = refl
are_of_long [] (v ∷ vs) e = cc
are_of_long (t ∷ ts) [] e = cc
are_of_long (t ∷ ts) (v ∷ vs) e =
    let h = both_true (is_of t v) (are_of ts vs) e in
    ap (λ n. n ∷ lengths vs) (flat_long t v h.0) ∙ ap (λ ns. cells t ∷ ns) (are_of_long ts vs h.1)

pub zeros_counted : (ts : List Type') → lengths (map zero_of ts) ≡ map cells ts
zeros_counted [] = refl
zeros_counted (t ∷ ts) = ap (λ n. n ∷ lengths (map zero_of ts)) (zero_long t) ∙ ap (λ ns. cells t ∷ ns) (zeros_counted ts)

-- values that are given are of these types
pub onward_all_given : (final : Final) (P : List Value → ProgramState → Type 0) (ts : List Type') (vs : List Value) (w : ProgramState) → Onward final P (all_given ts vs w) → (are_of ts vs ≡ true) × P vs w
onward_all_given final P ts vs w h = by_test (are_of ts vs) refl h
  where
    by_test : (b : Bool) → are_of ts vs ≡ b → Onward final P (if b then Gives vs w else Stuck) → (are_of ts vs ≡ true) × P vs w
    by_test true e h = (e, h)
    by_test false e h = absurd h

module _ (image : Image) (final : Final) (depth : ℕ) (code : List (Instr ℕ)) (callers : List Frame) (starts : List Start) (p : Places ℕ) (calls : Calls) where
  abbrev Onto : ℕ → List (Instr ℕ) → List Cell → ℕ → List Cell → ProgramState → Type 0
  Onto t k front m stack w = On image final depth code callers starts p t k front m stack w

  -- calls of all functions are followed
  abbrev pub AllCalled : Type 0
  AllCalled = (s : Symbol) → Called image final depth code callers starts p calls s

  mutual
    pub expr_runs : AllCalled → (e : Expr) → Runs image final depth code callers starts p calls e
    expr_runs called (trees.constant t c) = forms.constant_runs image final depth code callers starts p calls t c
    expr_runs called (trees.local t n) = forms.local_is_run image final depth code callers starts p calls t n
    expr_runs called (trees.global t s) = forms.global_is_run image final depth code callers starts p calls t s
    expr_runs called (trees.field t e n) = forms.field_runs image final depth code callers starts p calls t e n (expr_runs called e)
    expr_runs called (trees.index t e i) = forms.index_runs image final depth code callers starts p calls t e i (expr_runs called e) (expr_runs called i)
    expr_runs called (trees.length t e) = forms.length_runs image final depth code callers starts p calls t e (expr_runs called e)
    expr_runs called (trees.capacity t e) = forms.capacity_runs image final depth code callers starts p calls t e (expr_runs called e)
    expr_runs called (trees.cut t e low o) = cut_runs image final depth code callers starts p calls t e low o (expr_runs called e) (expr_runs called low) (perhaps_runs called o)
    expr_runs called (trees.make t e o) = make_runs image final depth code callers starts p calls t e o (expr_runs called e) (perhaps_runs called o)
    expr_runs called (trees.append t o es) = append_runs image final depth code callers starts p calls t o es (perhaps_runs called o) (exprs_run called es)
    expr_runs called (trees.unary t op e) = forms.unary_runs image final depth code callers starts p calls t op e (expr_runs called e)
    expr_runs called (trees.binary t op a b) = forms.binary_runs image final depth code callers starts p calls t op a b (expr_runs called a) (expr_runs called b)
    expr_runs called (trees.both t a b) = forms.both_runs image final depth code callers starts p calls t a b (expr_runs called a) (expr_runs called b)
    expr_runs called (trees.either t a b) = forms.either_runs image final depth code callers starts p calls t a b (expr_runs called a) (expr_runs called b)
    expr_runs called (trees.conversion t e) = forms.conversion_runs image final depth code callers starts p calls t e (expr_runs called e)
    expr_runs called (trees.literal t ps) = literal_runs image final depth code callers starts p calls t ps (parts_run called t ps)
    expr_runs called (trees.call t s es) = forms.call_runs image final depth code callers starts p calls t s es (called s) (exprs_run called es)

    perhaps_runs : AllCalled → (o : Perhaps) → PerhapsRuns image final depth code callers starts p calls o
    perhaps_runs called absent = tt
    perhaps_runs called (present e) = expr_runs called e

    pub exprs_run : AllCalled → (es : Exprs) → AllRun image final depth code callers starts p calls es
    exprs_run called no_exprs = forms.none_run image final depth code callers starts p calls
    exprs_run called (some_exprs e es) = forms.some_run image final depth code callers starts p calls e es (expr_runs called e) (exprs_run called es)

    pub parts_run : AllCalled → (of : Type') (ps : Parts) → PartsRun image final depth code callers starts p calls of ps
    parts_run called of no_parts = no_parts_run image final depth code callers starts p calls of
    parts_run called of (part n e ps) = part_runs image final depth code callers starts p calls of n e ps (expr_runs called e) (parts_run called of ps)

  -- ---- values that are due

  -- their cells come on the stack, in order
  abbrev pub SourceRuns : ValueSource → Type 0
  SourceRuns s =
      (t : ℕ) (locals : Locals) (at : ℕ) (k : List (Instr ℕ)) (front : List Cell) (m : ℕ) (stack : List Cell) (w : ProgramState) → length front ≡ at → source_temps s ≤ m → Sits image final depth code callers starts p locals front →
      Onward final (λ vs w1. lengths vs ≡ source_counts s → Onto t k front m (stack ++ flat_map flat vs) w1) (source calls s locals w) →
      Onto t (source_code p at s ++ k) front m stack w

  zeros_come : (ts : List Type') (t : ℕ) (k : List (Instr ℕ)) (front : List Cell) (m : ℕ) (stack : List Cell) (w : ProgramState) → Onto t k front m (stack ++ flat_map flat (map zero_of ts)) w → Onto t (flat_map zero_code ts ++ k) front m stack w
  zeros_come [] t k front m stack w on = on_stack image final depth code callers starts p t k front m (stack ++ []) stack w (append-nil stack) on
  zeros_come (of ∷ ts) t k front m stack w on =
      on_as image final depth code callers starts p t _ _ front m stack w (sym (append_assoc (zero_code of) (flat_map zero_code ts) k))
      (zero_runs image final depth code callers starts p of t (flat_map zero_code ts ++ k) front m stack w
      (zeros_come ts t k front m (stack ++ flat (zero_of of)) w
      (on_stack image final depth code callers starts p t k front m _ _ w (sym (append_assoc stack (flat (zero_of of)) (flat_map flat (map zero_of ts)))) on)))

  results_run : AllCalled → (ts : List Type') (s : Symbol) (es : Exprs) → SourceRuns (results ts s es)
  results_run called ts s es t locals at k front m stack w long le sits h =
      on_as image final depth code callers starts p t _ _ front m stack w (sym (append_assoc (exprs_code p at es) (By_call (Call (p.functions s)) ∷ []) k))
      (exprs_run called es t locals at (By_call (Call (p.functions s)) ∷ k) front m stack w long le sits
      (onward_map final _ _ (eval_all calls es locals w)
      (λ vs w1 more counted. called s t vs k front m stack w1
      (onward_map final _ _ (calls s vs w1)
      (λ rs w2 most.
      let g = onward_all_given final (λ us w3. lengths us ≡ map cells ts → Onto t k front m (stack ++ flat_map flat us) w3) ts rs w2 most in
      g.1 (are_of_long ts rs g.0))
      (onward_then final _ (calls s vs w1) _ more)))
      (onward_then final _ (eval_all calls es locals w) _ h)))

  pub source_runs : AllCalled → (s : ValueSource) → SourceRuns s
  source_runs called (each es) t locals at k front m stack w long le sits h = exprs_run called es t locals at k front m stack w long le sits h
  source_runs called (results ts s es) t locals at k front m stack w long le sits h = results_run called ts s es t locals at k front m stack w long le sits h
  source_runs called (zeros ts) t locals at k front m stack w long le sits h = zeros_come ts t k front m stack w (h (zeros_counted ts))
