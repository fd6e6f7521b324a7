-- The machine follows statements that take values: print, calls as statements, return, and definitions.
use Rattle.std.proofs.Common.{◌≡◌, ℕ, ◌+◌, ◌≤◌, List, [], ◌∷◌, ◌++◌, length, refl, sym, ap, ◌∙◌, length-append, append_assoc}
use Rattle.std.proofs.lemmas.List.Sums.{sum_by-cons}
use Rattle.std.specs.Prelude.{sum, map}
use Rattle.std.specs.List.{flat_map}
use Rattle.go_types.specs.Types.{Type'}
use Rattle.go_types.specs.Sizes.{cells}
use Rattle.go_code.specs.declared.cell.Cell.{Cell}
use Rattle.go_code.specs.declared.image.Start.{Start}
use Rattle.go_code.specs.declared.instr.Instr.{Instr}
use Rattle.go_code.specs.declared.instr.Instr.TheVariants.{Frame as In_frame, Output as To_output, Calls as By_call}
use Rattle.go_code.specs.declared.instr.FrameInstr.TheVariants.{Pop}
use Rattle.go_code.specs.declared.instr.OutputInstr.TheVariants.{Print}
use Rattle.go_code.specs.declared.instr.CallInstr.TheVariants.{Return}
use Rattle.go_code.specs.Finals.{Final}
use Rattle.go_code.specs.Images.{Image}
use Rattle.go_code.specs.Machine.{Frame, State, Leads, with_frames}
use Rattle.go_code.proofs.Follows.{print_leads, return_leads, return_over}
use Rattle.go_code.proofs.Stands.{Stands, stands_next}
use Rattle.go_typed.specs.Trees as trees
use Rattle.go_typed.specs.Trees.{Symbol, Exprs, ValueSource, Stmt}
use Rattle.go_meaning.specs.Values.{Value, flat}
use Rattle.go_meaning.specs.Meaning.{ProgramState, Locals, Calls, if_known, defined, eval_all, source}
use Rattle.go_gen.specs.Translation.{Places, total, expr_counts, exprs_code, source_temps, source_counts, source_code, defines_code}
use Rattle.go_translation_laws.proofs.Frames.{together, types_of}
use Rattle.go_translation_laws.proofs.Runs.{Onward, onward_then, onward_map, here}
use Rattle.go_translation_laws.proofs.Exprs.{lengths}
use Rattle.go_translation_laws.proofs.Expressions.{SourceRuns}
use Rattle.go_translation_laws.proofs.Following.{back_in, Placed, Follows, Back, StmtRuns, follows_as, row_long, sits_in}
use Rattle.go_translation_laws.proofs.Defines.{pops, defines_follow}

-- the cells of values, counted
pub row_counted : (vs : List Value) → length (flat_map flat vs) ≡ sum (lengths vs)
row_counted [] = refl
row_counted (v ∷ vs) = length-append (flat v) (flat_map flat vs) ∙ ap (λ n. length (flat v) + n) (row_counted vs) ∙ sym (sum_by-cons (λ n. n) (length (flat v)) (lengths vs))

-- a frame returns its whole stack
pub gives_back : (image : Image) (s : State) (f : Frame) (callers : List Frame) (row : List Cell) (n : ℕ) (rest : List (Instr ℕ)) (final : Final) → s.frames ≡ f ∷ callers → Stands f.code f.place (By_call (Return n) ∷ rest) → f.stack ≡ row → length row ≡ n → Leads image (with_frames s (back_in callers row)) final → Leads image s final
gives_back image s f [] row n rest final frames stands stack long l = return_over image s f [] row n rest final frames stands stack long l
gives_back image s f (caller ∷ callers) row n rest final frames stands stack long l = return_leads image s f caller callers [] row n rest final frames stands stack long l

module _ (image : Image) (final : Final) (depth : ℕ) (code : List (Instr ℕ)) (callers : List Frame) (starts : List Start) (p : Places ℕ) (types : List Type') where
  abbrev Goes_on : ℕ → List (Instr ℕ) → Locals → List Cell → ℕ → List Cell → ProgramState → Type 0
  Goes_on t k locals low m stack w = Follows image final depth code callers starts p types t k locals low m stack w

  -- the newest frame returns these values
  pub returns_back : (t n : ℕ) (vs : List Value) (k : List (Instr ℕ)) (locals : Locals) (low : List Cell) (m : ℕ) (w : ProgramState) → length (flat_map flat vs) ≡ n → Back image final depth code callers starts p types t vs w → Goes_on t (By_call (Return n) ∷ k) locals low m (flat_map flat vs) w
  returns_back t n vs k locals low m w size back rows fits known few place high long s =
      gives_back image (here image final depth code callers starts p place ((together rows ++ low) ++ high) (flat_map flat vs) w) _ callers (flat_map flat vs) n k final refl s refl size (back known few)

  module _ (placed : Placed image final depth code callers starts p types) (calls : Calls) where
    abbrev Sound : Stmt → Type 0
    Sound s = StmtRuns image final depth code callers starts p types calls s

    abbrev Sourced : ValueSource → Type 0
    Sourced s = SourceRuns image final depth code callers starts p calls s

    -- values that are due in a statement
    pub source_follows : (s : ValueSource) → Sourced s → (t : ℕ) (locals : Locals) (at : ℕ) (k : List (Instr ℕ)) (low : List Cell) (m : ℕ) (stack : List Cell) (w : ProgramState) → types_of locals ≡ types → total types + length low ≡ at → source_temps s ≤ m → Onward final (λ vs w1. lengths vs ≡ source_counts s → Goes_on t k locals low m (stack ++ flat_map flat vs) w1) (source calls s locals w) → Goes_on t (source_code p at s ++ k) locals low m stack w
    source_follows s runs t locals at k low m stack w same long le h rows fits =
        runs t locals at k (together rows ++ low) m stack w (row_long image final depth code callers starts p types rows locals low at fits same long) le (sits_in image final depth code callers starts p types rows locals low placed fits same)
        (onward_map final _ _ (source calls s locals w) (λ vs w1 more counts. more counts rows fits) h)

    pub print_runs : (es : Exprs) → Sourced (trees.each es) → Sound (trees.print es)
    print_runs es runs t locals at b c rest brk next low m w same long le ends turns h =
        let n : ℕ = sum (expr_counts es) in
        follows_as image final depth code callers starts p types t (exprs_code p at es ++ (To_output (Print n) ∷ rest)) _ locals low m [] w (sym (append_assoc (exprs_code p at es) (To_output (Print n) ∷ []) rest))
        (source_follows (trees.each es) runs t locals at (To_output (Print n) ∷ rest) low m [] w same long le
        (onward_map final _ _ (eval_all calls es locals w)
        (λ vs w1 more counts rows fits known few place high size s.
        print_leads image (here image final depth code callers starts p place ((together rows ++ low) ++ high) (flat_map flat vs) w1) _ callers [] (flat_map flat vs) n rest final refl s refl (row_counted vs ∙ ap sum counts)
        (more same rows fits known few (place + 1) high size (stands_next code place _ rest s)))
        (onward_then final _ (eval_all calls es locals w) _ h)))

    -- https://go.dev/ref/spec#Expression_statements
    pub run_runs : (ts : List Type') (f : Symbol) (es : Exprs) → Sourced (trees.results ts f es) → Sound (trees.run ts f es)
    run_runs ts f es runs t locals at b c rest brk next low m w same long le ends turns h =
        let s : ValueSource = trees.results ts f es in
        let n : ℕ = sum (map cells ts) in
        follows_as image final depth code callers starts p types t (source_code p at s ++ (In_frame (Pop n) ∷ rest)) _ locals low m [] w (sym (append_assoc (source_code p at s) (In_frame (Pop n) ∷ []) rest))
        (source_follows s runs t locals at (In_frame (Pop n) ∷ rest) low m [] w same long le
        (onward_map final _ _ (source calls s locals w)
        (λ vs w1 more counts rows fits.
        pops image final depth code callers starts p types t n (flat_map flat vs) rest (together rows ++ low) m [] w1 (row_counted vs ∙ ap sum counts) (more same rows fits))
        (onward_then final _ (source calls s locals w) _ h)))

    -- https://go.dev/ref/spec#Return_statements
    pub return_runs : (s : ValueSource) → Sourced s → Sound (trees.return s)
    return_runs s runs t locals at b c rest brk next low m w same long le ends turns h =
        let n : ℕ = sum (source_counts s) in
        follows_as image final depth code callers starts p types t (source_code p at s ++ (By_call (Return n) ∷ rest)) _ locals low m [] w (sym (append_assoc (source_code p at s) (By_call (Return n) ∷ []) rest))
        (source_follows s runs t locals at (By_call (Return n) ∷ rest) low m [] w same long le
        (onward_map final _ _ (source calls s locals w)
        (λ vs w1 back counts. returns_back t n vs rest locals low m w1 (row_counted vs ∙ ap sum counts) back)
        (onward_then final _ (source calls s locals w) _ h)))

    -- https://go.dev/ref/spec#Variable_declarations
    pub define_runs : (ns : List _) (s : ValueSource) → Sourced s → Sound (trees.define ns s)
    define_runs ns s runs t locals at b c rest brk next low m w same long le ends turns h =
        follows_as image final depth code callers starts p types t (source_code p at s ++ (defines_code p ns (source_counts s) ++ rest)) _ locals low m [] w (sym (append_assoc (source_code p at s) (defines_code p ns (source_counts s)) rest))
        (source_follows s runs t locals at (defines_code p ns (source_counts s) ++ rest) low m [] w same long le
        (onward_map final _ _ (source calls s locals w)
        (λ vs w1 more counts.
        follows_as image final depth code callers starts p types t (defines_code p ns (lengths vs) ++ rest) _ locals low m (flat_map flat vs) w1 (ap (λ l. defines_code p ns l ++ rest) counts)
        (defines_follow image final depth code callers starts p types placed t ns vs rest locals low m [] w1 same (onward_then final _ (if_known (defined ns vs locals) w1) _ more)))
        (onward_then final _ (source calls s locals w) _ h)))
