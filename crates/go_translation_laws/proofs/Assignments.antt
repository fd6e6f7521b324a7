-- The machine follows assignments: operands, then values into temporaries, and then each value into its left side.
use Rattle.std.proofs.Common.{◌≡◌, ℕ, ◌+◌, ◌-◌, ◌≤◌, Bool, true, false, nat_eq, List, [], ◌∷◌, ◌++◌, length, refl, sym, ap, ◌∙◌, subst, arith, length-append, append_assoc, append-nil}
use Rattle.std.specs.Prelude.{if◌then◌else◌}
use Rattle.std.specs.List.{flat_map}
use Rattle.go_types.specs.Types.{Type'}
use Rattle.go_types.specs.Relations.{underlying}
use Rattle.go_types.specs.Sizes.{cells}
use Rattle.go_code.specs.declared.cell.Cell.{Cell}
use Rattle.go_code.specs.declared.image.Start.{Start}
use Rattle.go_code.specs.declared.instr.Instr.{Instr}
use Rattle.go_code.specs.Finals.{Final}
use Rattle.go_code.specs.Images.{Image}
use Rattle.go_code.specs.Machine.{Frame}
use Rattle.go_typed.specs.declared.expression.Operator.{Operator}
use Rattle.go_typed.specs.Trees as trees
use Rattle.go_typed.specs.Trees.{Expr, Left, blank, of_local, of_global, of_slice, ValueSource}
use Rattle.go_meaning.specs.Values.{Value, flat, is_of}
use Rattle.go_meaning.specs.Choices.{operated, binary_operators}
use Rattle.go_meaning.specs.Meaning.{ProgramState, Stuck, Locals, Calls, Target, and_then, typed_or_panic, normal, eval, source, aim, aim_all, target_value, give, give_all}
use Rattle.go_gen.specs.Translation.{Places, total, expr_temps, expr_code, operators_code, source_temps, source_counts, source_code, left_temps, left_operands, lefts_temps, lefts_operands, value_temps, values_temps, take_code, give_code, keep_code, keeps_code, gives_code}
use Rattle.go_translation_laws.proofs.Frames.{together, types_of}
use Rattle.go_meaning_laws.proofs.Values.{flat_long}
use Rattle.go_translation_laws.proofs.Shapes.{same_number}
use Rattle.go_translation_laws.proofs.Runs.{Onward, onward_then, onward_map, on_stack, operators_run}
use Rattle.go_translation_laws.proofs.Exprs.{Runs, lengths}
use Rattle.go_translation_laws.proofs.Expressions.{SourceRuns}
use Rattle.go_translation_laws.proofs.Following.{Placed, Follows, After, StmtRuns, follows_as, follows_stack, follows_low, follows_deeper, follows_shallower, expr_follows}
use Rattle.go_translation_laws.proofs.Defines.{pops}
use Rattle.go_translation_laws.proofs.Sources.{source_follows}
use Rattle.go_translation_laws.proofs.Addresses.{Has, has_first, has_second, has_more}
use Rattle.go_translation_laws.proofs.Lefts.{KeptLeft, kept_value, take_runs, give_runs}
use Rattle.go_translation_laws.proofs.Operands.{KeptLefts, follows_room, follows_same, follows_keeps, aim_runs, aims_run}

-- ---- values in temporaries

-- those of the first left sides lie behind the others
abbrev pub kept_values : List Left → List Value → List Cell
kept_values [] vs = []
kept_values (l ∷ ls) [] = []
kept_values (l ∷ ls) (v ∷ vs) = kept_values ls vs ++ kept_value l v

kept_value_long : (l : Left) (v : Value) → length (kept_value l v) ≡ value_temps l (length (flat v))
kept_value_long blank v = refl
kept_value_long (of_local t n q) v = refl
kept_value_long (of_global t s q) v = refl
kept_value_long (of_slice t e q) v = refl

kept_values_long : (ls : List Left) (vs : List Value) → length (kept_values ls vs) ≡ values_temps ls (lengths vs)
kept_values_long [] vs = refl
kept_values_long (l ∷ ls) [] = refl
kept_values_long (l ∷ ls) (v ∷ vs) = omega (arith, length-append (kept_values ls vs) (kept_value l v), kept_values_long ls vs, kept_value_long l v)

-- as many targets as left sides
targets_counted : (ls : List Left) (targets : List Target) (row : List Cell) → KeptLefts ls targets row → length ls ≡ length targets
targets_counted [] [] row kept = refl
targets_counted [] (t ∷ ts) row kept = absurd kept
targets_counted (l ∷ ls) [] row kept = absurd kept
targets_counted (l ∷ ls) (t ∷ ts) row kept = omega (arith, targets_counted ls ts kept.others kept.rest)

has_end : (low row : List Cell) → Has (low ++ row) (length low) row
has_end low row = record { before = low; after = []; is = ap (λ l. low ++ l) (sym (append-nil row)); place = refl }

module _ (image : Image) (final : Final) (depth : ℕ) (code : List (Instr ℕ)) (callers : List Frame) (starts : List Start) (p : Places ℕ) (types : List Type') where
  abbrev Goes_on : ℕ → List (Instr ℕ) → Locals → List Cell → ℕ → List Cell → ProgramState → Type 0
  Goes_on t k locals low m stack w = Follows image final depth code callers starts p types t k locals low m stack w

  -- the value on top into its temporary, or away
  keep_runs : (l : Left) (v : Value) (count t at : ℕ) (k : List (Instr ℕ)) (locals : Locals) (low : List Cell) (m : ℕ) (stack : List Cell) (w : ProgramState) → types_of locals ≡ types → total types + length low ≡ at → length (flat v) ≡ count → value_temps l count ≤ m → Goes_on t k locals (low ++ kept_value l v) (m - value_temps l count) stack w → Goes_on t (keep_code l count at ∷ k) locals low m (stack ++ flat v) w
  keep_runs blank v count t at k locals low m stack w same long size le on = λ rows fits.
      pops image final depth code callers starts p types t count (flat v) k (together rows ++ low) m stack w size (follows_same image final depth code callers starts p types t k locals low m stack w on rows fits)
  keep_runs (of_local u n q) v count t at k locals low m stack w same long size le on =
      follows_keeps image final depth code callers starts p types t at count (flat v) k locals low m stack w same long size le on
  keep_runs (of_global u s q) v count t at k locals low m stack w same long size le on =
      follows_keeps image final depth code callers starts p types t at count (flat v) k locals low m stack w same long size le on
  keep_runs (of_slice u e q) v count t at k locals low m stack w same long size le on =
      follows_keeps image final depth code callers starts p types t at count (flat v) k locals low m stack w same long size le on

  -- all values, from the last to the first
  keeps_run : (ls : List Left) (vs : List Value) (t at : ℕ) (k : List (Instr ℕ)) (locals : Locals) (low : List Cell) (m : ℕ) (stack : List Cell) (w : ProgramState) → types_of locals ≡ types → total types + length low ≡ at → length ls ≡ length vs → values_temps ls (lengths vs) ≤ m → Goes_on t k locals (low ++ kept_values ls vs) (m - values_temps ls (lengths vs)) stack w → Goes_on t (keeps_code ls (lengths vs) at ++ k) locals low m (stack ++ flat_map flat vs) w
  keeps_run [] [] t at k locals low m stack w same long count le on =
      follows_stack image final depth code callers starts p types t k locals low m stack (stack ++ []) w (sym (append-nil stack)) (follows_same image final depth code callers starts p types t k locals low m stack w on)
  keeps_run [] (v ∷ vs) t at k locals low m stack w same long count le on = absurd (omega (arith, count))
  keeps_run (l ∷ ls) [] t at k locals low m stack w same long count le on = absurd (omega (arith, count))
  keeps_run (l ∷ ls) (v ∷ vs) t at k locals low m stack w same long count le on =
      let n : ℕ = values_temps ls (lengths vs) in
      let one : Instr ℕ = keep_code l (length (flat v)) (at + n) in
      let others : length ls ≡ length vs = omega (arith, count) in
      let enough : values_temps ls (lengths vs) ≤ m = omega (arith, le) in
      let left : value_temps l (length (flat v)) ≤ m - values_temps ls (lengths vs) = omega (arith, le) in
      let room : m - (values_temps ls (lengths vs) + value_temps l (length (flat v))) ≡ m - values_temps ls (lengths vs) - value_temps l (length (flat v)) = omega (arith, le) in
      let there : total types + length (low ++ kept_values ls vs) ≡ at + values_temps ls (lengths vs) = omega (arith, long, length-append low (kept_values ls vs), kept_values_long ls vs) in
      follows_as image final depth code callers starts p types t (keeps_code ls (lengths vs) at ++ (one ∷ k)) _ locals low m (stack ++ (flat v ++ flat_map flat vs)) w (sym (append_assoc (keeps_code ls (lengths vs) at) (one ∷ []) k))
      (follows_stack image final depth code callers starts p types t (keeps_code ls (lengths vs) at ++ (one ∷ k)) locals low m _ _ w (append_assoc stack (flat v) (flat_map flat vs))
      (keeps_run ls vs t at (one ∷ k) locals low m (stack ++ flat v) w same long others enough
      (keep_runs l v (length (flat v)) t (at + n) k locals (low ++ kept_values ls vs) (m - n) stack w same there refl left
      (follows_low image final depth code callers starts p types t k locals (low ++ (kept_values ls vs ++ kept_value l v)) _ _ stack w (sym (append_assoc low (kept_values ls vs) (kept_value l v)))
      (follows_room image final depth code callers starts p types t k locals (low ++ (kept_values ls vs ++ kept_value l v)) _ _ stack w room on)))))

  -- what was known of fewer temporaries in front
  aside : (t : ℕ) (k : List (Instr ℕ)) (locals : Locals) (low a b c : List Cell) (m x y z : ℕ) (stack : List Cell) (w : ProgramState) → length a ≡ x → length b ≡ y → length c ≡ z → x + y + z ≤ m → Goes_on t k locals low m stack w → Goes_on t k locals (((low ++ a) ++ b) ++ c) (m - x - y - z) stack w
  aside t k locals low a b c m x y z stack w one two three le on =
      let first : x ≤ m = omega (arith, le) in
      let second : y ≤ m - x = omega (arith, le) in
      let third : z ≤ m - x - y = omega (arith, le) in
      follows_shallower image final depth code callers starts p types t k locals ((low ++ a) ++ b) c (m - x - y) z stack w three third
      (follows_shallower image final depth code callers starts p types t k locals (low ++ a) b (m - x) y stack w two second
      (follows_shallower image final depth code callers starts p types t k locals low a m x stack w one first on))

  module _ (placed : Placed image final depth code callers starts p types) where
    -- then each goes into its left side, from the first to the last
    gives_run : (ls : List Left) (targets : List Target) (vs : List Value) (row : List Cell) (at there t : ℕ) (k : List (Instr ℕ)) (locals : Locals) (low : List Cell) (m : ℕ) (stack : List Cell) (w : ProgramState) → types_of locals ≡ types → Has low at row → KeptLefts ls targets row → Has low there (kept_values ls vs) → Onward final (λ ls1 w1. types_of ls1 ≡ types → Goes_on t k ls1 low m stack w1) (give_all targets vs locals w) → Goes_on t (gives_code p (total types + at) ls (lengths vs) (total types + there) ++ k) locals low m stack w
    gives_run [] [] [] row at there t k locals low m stack w same has kept value h = h same
    gives_run [] [] (v ∷ vs) row at there t k locals low m stack w same has kept value h = absurd h
    gives_run [] (target ∷ targets) vs row at there t k locals low m stack w same has kept value h = absurd kept
    gives_run (l ∷ ls) [] vs row at there t k locals low m stack w same has kept value h = absurd kept
    gives_run (l ∷ ls) (target ∷ targets) [] row at there t k locals low m stack w same has kept value h = absurd h
    gives_run (l ∷ ls) (target ∷ targets) (v ∷ vs) row at there t k locals low m stack w same has kept value h =
        let n : ℕ = values_temps ls (lengths vs) in
        let d : ℕ = left_temps l in
        let both : Has low at (kept.first ++ kept.others) = subst (Has low at) kept.is has in
        let rest = gives_code p (total types + (at + d)) ls (lengths vs) (total types + there) in
        let number : total types + (there + values_temps ls (lengths vs)) ≡ total types + there + values_temps ls (lengths vs) = omega arith in
        let behind : total types + (at + left_temps l) ≡ total types + at + left_temps l = omega arith in
        follows_as image final depth code callers starts p types t (give_code p (total types + at) l (total types + (there + n)) (length (flat v)) ++ (rest ++ k)) _ locals low m stack w
        (sym (append_assoc (give_code p (total types + at) l (total types + (there + n)) (length (flat v))) rest k)
        ∙ ap (λ i. (give_code p (total types + at) l i (length (flat v)) ++ rest) ++ k) number
        ∙ ap (λ i. (give_code p (total types + at) l (total types + there + n) (length (flat v)) ++ gives_code p i ls (lengths vs) (total types + there)) ++ k) behind)
        (give_runs image final depth code callers starts p types placed l target v (length (flat v)) kept.first at (there + n) t (rest ++ k) locals low m stack w same
        (has_first low at kept.first kept.others both) kept.holds (has_second low there n (kept_values ls vs) (kept_value l v) (kept_values_long ls vs) value) refl
        (onward_map final _ _ (give target v locals w)
        (λ ls1 w1 more same1. gives_run ls targets vs kept.others (at + d) there t k ls1 low m stack w1 same1 (has_second low at d kept.first kept.others kept.long both) kept.rest (has_first low there (kept_values ls vs) (kept_value l v) value) more)
        (onward_then final _ (give target v locals w) _ h)))

    -- behind the values of an assignment, d temporaries of theirs above those of the operands
    assigned : (ls : List Left) (targets : List Target) (vs : List Value) (row : List Cell) (d at temps t : ℕ) (rest brk next : List (Instr ℕ)) (locals : Locals) (low : List Cell) (m : ℕ) (w : ProgramState) → types_of locals ≡ types → total types + length low ≡ at → at + lefts_temps ls + d ≡ temps → lefts_temps ls + d + values_temps ls (lengths vs) ≤ m → length row ≡ lefts_temps ls → KeptLefts ls targets row → (b : Bool) → nat_eq (length targets) (length vs) ≡ b → Onward final (After image final depth code callers starts p types t rest brk next low m) (if b then and_then (give_all targets vs locals w) normal else Stuck) → Goes_on t (keeps_code ls (lengths vs) temps ++ (gives_code p at ls (lengths vs) temps ++ rest)) locals (low ++ row) (m - lefts_temps ls) (flat_map flat vs) w
    assigned ls targets vs row d at temps t rest brk next locals low m w same long there le size kept false e h = absurd h
    assigned ls targets vs row d at temps t rest brk next locals low m w same long there le size kept true e h =
        let n : ℕ = values_temps ls (lengths vs) in
        let others : length ls ≡ length vs = omega (arith, targets_counted ls targets row kept, same_number (length targets) (length vs) e) in
        let within : d ≤ m - lefts_temps ls = omega (arith, le) in
        follows_deeper image final depth code callers starts p types t (keeps_code ls (lengths vs) temps ++ (gives_code p at ls (lengths vs) temps ++ rest)) locals (low ++ row) (m - lefts_temps ls) d (flat_map flat vs) w within (λ more more_long.
        let place : total types + length ((low ++ row) ++ more) ≡ temps = omega (arith, long, size, there, more_long, length-append (low ++ row) more, length-append low row) in
        let enough : values_temps ls (lengths vs) ≤ m - lefts_temps ls - d = omega (arith, le) in
        let behind : List Cell = kept_values ls vs in
        keeps_run ls vs t temps (gives_code p at ls (lengths vs) temps ++ rest) locals ((low ++ row) ++ more) (m - lefts_temps ls - d) [] w same place others enough
        (follows_as image final depth code callers starts p types t (gives_code p (total types + length low) ls (lengths vs) (total types + length ((low ++ row) ++ more)) ++ rest) _ locals (((low ++ row) ++ more) ++ behind) (m - lefts_temps ls - d - n) [] w
        (ap (λ i. gives_code p i ls (lengths vs) (total types + length ((low ++ row) ++ more)) ++ rest) long ∙ ap (λ i. gives_code p at ls (lengths vs) i ++ rest) place)
        (gives_run ls targets vs row (length low) (length ((low ++ row) ++ more)) t rest locals (((low ++ row) ++ more) ++ behind) (m - lefts_temps ls - d - n) [] w same
        (has_more ((low ++ row) ++ more) behind (length low) row (has_more (low ++ row) more (length low) row (has_end low row))) kept (has_end ((low ++ row) ++ more) behind)
        (onward_map final _ _ (give_all targets vs locals w)
        (λ ls1 w1 after same1. aside t rest ls1 low row more behind m (lefts_temps ls) d n [] w1 size more_long (kept_values_long ls vs) le (after same1))
        (onward_then final _ (give_all targets vs locals w) _ h)))))

    module _ (calls : Calls) (every : (e : Expr) → Runs image final depth code callers starts p calls e) where
      -- https://go.dev/ref/spec#Assignment_statements
      pub assign_runs : (ls : List Left) (s : ValueSource) → SourceRuns image final depth code callers starts p calls s → StmtRuns image final depth code callers starts p types calls (trees.assign ls s)
      assign_runs ls s runs t locals at b c rest brk next low m w same long le ends turns h =
          let values : ℕ = at + lefts_temps ls in
          let temps : ℕ = at + lefts_temps ls + source_temps s in
          let first : lefts_temps ls ≤ m = omega (arith, le) in
          let second : source_temps s ≤ m - lefts_temps ls = omega (arith, le) in
          let keeps_all : List (Instr ℕ) = keeps_code ls (source_counts s) temps in
          let gives_all : List (Instr ℕ) = gives_code p at ls (source_counts s) temps in
          let shape : lefts_operands p at ls ++ (source_code p values s ++ (keeps_all ++ (gives_all ++ rest))) ≡ (lefts_operands p at ls ++ source_code p values s ++ keeps_all ++ gives_all) ++ rest = simp append_assoc in
          follows_as image final depth code callers starts p types t (lefts_operands p at ls ++ (source_code p values s ++ (keeps_all ++ (gives_all ++ rest)))) _ locals low m [] w shape
          (aims_run image final depth code callers starts p types placed calls every ls t locals at (source_code p values s ++ (keeps_all ++ (gives_all ++ rest))) low m [] w same long first
          (onward_map final _ _ (aim_all calls ls locals w)
          (λ targets w1 more row size kept.
          let there : total types + length (low ++ row) ≡ at + lefts_temps ls = omega (arith, long, size, length-append low row) in
          source_follows image final depth code callers starts p types placed calls s runs t locals values (keeps_all ++ (gives_all ++ rest)) (low ++ row) (m - lefts_temps ls) [] w1 same there second
          (onward_map final _ _ (source calls s locals w1)
          (λ vs w2 most counts.
          let room : lefts_temps ls + source_temps s + values_temps ls (lengths vs) ≤ m = omega (arith, le, ap (values_temps ls) counts) in
          follows_as image final depth code callers starts p types t (keeps_code ls (lengths vs) temps ++ (gives_code p at ls (lengths vs) temps ++ rest)) _ locals (low ++ row) (m - lefts_temps ls) (flat_map flat vs) w2
          (ap (λ l. keeps_code ls l temps ++ (gives_code p at ls l temps ++ rest)) counts)
          (assigned ls targets vs row (source_temps s) at temps t rest brk next locals low m w2 same long refl room size kept (nat_eq (length targets) (length vs)) refl most))
          (onward_then final _ (source calls s locals w1) _ more)))
          (onward_then final _ (aim_all calls ls locals w) _ h)))

      -- ---- an operator and an assignment

      value_room : (l : Left) (n : ℕ) → value_temps l n ≤ n
      value_room blank n = omega arith
      value_room (of_local u v q) n = omega arith
      value_room (of_global u s q) n = omega arith
      value_room (of_slice u e q) n = omega arith

      operators_follow : (of : Type') (op : Operator) (s : Type') (x y : Value) (t : ℕ) (k : List (Instr ℕ)) (locals : Locals) (low : List Cell) (m : ℕ) (w : ProgramState) → Onward final (λ z w1. is_of of z ≡ true → Goes_on t k locals low m (flat z) w1) (typed_or_panic of (operated (binary_operators s op) (x ∷ y ∷ [])) w) → Goes_on t (operators_code (binary_operators s op) ++ k) locals low m (flat x ++ flat y) w
      operators_follow of op s x y t k locals low m w h rows fits =
          let ops = binary_operators s op in
          on_stack image final depth code callers starts p t (operators_code ops ++ k) (together rows ++ low) m (flat x ++ (flat y ++ [])) (flat x ++ flat y) w (ap (λ l. flat x ++ l) (append-nil (flat y)))
          (operators_run image final depth code callers starts p t of ops (x ∷ y ∷ []) k (together rows ++ low) m [] w
          (onward_map final _ _ (typed_or_panic of (operated ops (x ∷ y ∷ [])) w) (λ z w1 more typed. more typed rows fits) h))

      -- behind the new value, d temporaries of the operand above those of the left side
      given_back : (l : Left) (target : Target) (z : Value) (row : List Cell) (d count at temp t : ℕ) (rest brk next : List (Instr ℕ)) (locals : Locals) (low : List Cell) (m : ℕ) (w : ProgramState) → types_of locals ≡ types → total types + length low ≡ at → at + left_temps l + d ≡ temp → left_temps l + d + count ≤ m → length row ≡ left_temps l → KeptLeft l target row → length (flat z) ≡ count → Onward final (After image final depth code callers starts p types t rest brk next low m) (and_then (give target z locals w) normal) → Goes_on t (keep_code l count temp ∷ (give_code p at l temp count ++ rest)) locals (low ++ row) (m - left_temps l) (flat z) w
      given_back l target z row d count at temp t rest brk next locals low m w same long there le size kept counts h =
          let n : ℕ = value_temps l count in
          let within : d ≤ m - left_temps l = omega (arith, le) in
          follows_deeper image final depth code callers starts p types t (keep_code l count temp ∷ (give_code p at l temp count ++ rest)) locals (low ++ row) (m - left_temps l) d (flat z) w within (λ more more_long.
          let place : total types + length ((low ++ row) ++ more) ≡ temp = omega (arith, long, size, there, more_long, length-append (low ++ row) more, length-append low row) in
          let enough : value_temps l count ≤ m - left_temps l - d = omega (arith, le, value_room l count) in
          let room : left_temps l + d + value_temps l count ≤ m = omega (arith, le, value_room l count) in
          let behind : List Cell = kept_value l z in
          let behind_long : length (kept_value l z) ≡ value_temps l count = kept_value_long l z ∙ ap (value_temps l) counts in
          keep_runs l z count t temp (give_code p at l temp count ++ rest) locals ((low ++ row) ++ more) (m - left_temps l - d) [] w same place counts enough
          (follows_as image final depth code callers starts p types t (give_code p (total types + length low) l (total types + length ((low ++ row) ++ more)) count ++ rest) _ locals (((low ++ row) ++ more) ++ behind) (m - left_temps l - d - n) [] w
          (ap (λ i. give_code p i l (total types + length ((low ++ row) ++ more)) count ++ rest) long ∙ ap (λ i. give_code p at l i count ++ rest) place)
          (give_runs image final depth code callers starts p types placed l target z count row (length low) (length ((low ++ row) ++ more)) t rest locals (((low ++ row) ++ more) ++ behind) (m - left_temps l - d - n) [] w same
          (has_more ((low ++ row) ++ more) behind (length low) row (has_more (low ++ row) more (length low) row (has_end low row))) kept (has_end ((low ++ row) ++ more) behind) counts
          (onward_map final _ _ (give target z locals w)
          (λ ls1 w1 after same1. aside t rest ls1 low row more behind m (left_temps l) d n [] w1 size more_long behind_long room (after same1))
          (onward_then final _ (give target z locals w) _ h)))))

      -- https://go.dev/ref/spec#Assignment_statements
      pub update_runs : (of : Type') (l : Left) (op : Operator) (e : Expr) → StmtRuns image final depth code callers starts p types calls (trees.update of l op e)
      update_runs of l op e t locals at b c rest brk next low m w same long le ends turns h =
          let d : ℕ = left_temps l in
          let n : ℕ = cells of in
          let value : ℕ = at + left_temps l in
          let temp : ℕ = at + left_temps l + expr_temps e in
          let ops = binary_operators (underlying of) op in
          let room : left_temps l + expr_temps e + cells of ≤ m = le in
          let first : left_temps l ≤ m = omega (arith, room) in
          let second : expr_temps e ≤ m - left_temps l = omega (arith, room) in
          let back : List (Instr ℕ) = keep_code l n temp ∷ (give_code p at l temp n ++ rest) in
          let operate : List (Instr ℕ) = operators_code ops ++ back in
          let right : List (Instr ℕ) = expr_code p value e ++ operate in
          let shape : left_operands p at l ++ (take_code p at l n ++ (expr_code p value e ++ (operators_code ops ++ (keep_code l n temp ∷ (give_code p at l temp n ++ rest))))) ≡ (left_operands p at l ++ take_code p at l n ++ expr_code p value e ++ operators_code ops ++ keep_code l n temp ∷ give_code p at l temp n) ++ rest = simp append_assoc in
          follows_as image final depth code callers starts p types t (left_operands p at l ++ (take_code p at l n ++ right)) _ locals low m [] w shape
          (aim_runs image final depth code callers starts p types placed calls every l t locals at (take_code p at l n ++ right) low m [] w same long first
          (onward_map final _ _ (aim calls l locals w)
          (λ target w1 more row size kept.
          let there : total types + length (low ++ row) ≡ at + left_temps l = omega (arith, long, size, length-append low row) in
          follows_as image final depth code callers starts p types t (take_code p (total types + length low) l n ++ right) _ locals (low ++ row) (m - d) [] w1 (ap (λ i. take_code p i l n ++ right) long)
          (take_runs image final depth code callers starts p types placed l target of row (length low) t right locals (low ++ row) (m - d) [] w1 same (has_end low row) kept
          (onward_map final _ _ (target_value of target locals w1)
          (λ x w2 most typed.
          expr_follows image final depth code callers starts p types placed calls e (every e) t locals value operate (low ++ row) (m - d) (flat x) w2 same there second
          (onward_map final _ _ (eval calls e locals w2)
          (λ y w3 other typed1. operators_follow of op (underlying of) x y t back locals (low ++ row) (m - d) w3
          (onward_map final _ _ (typed_or_panic of (operated ops (x ∷ y ∷ [])) w3)
          (λ z w4 last typed2. given_back l target z row (expr_temps e) n at temp t rest brk next locals low m w4 same long refl room size kept (flat_long of z typed2) last)
          (onward_then final _ (typed_or_panic of (operated ops (x ∷ y ∷ [])) w3) _ other)))
          (onward_then final _ (eval calls e locals w2) _ most)))
          (onward_then final _ (target_value of target locals w1) _ more))))
          (onward_then final _ (aim calls l locals w) _ h)))
