-- The machine follows the tests of a switch: to the clause that is chosen, or behind all clauses.
use Rattle.std.proofs.Common.{◌≡◌, ℕ, zero, suc, ◌+◌, ◌≤◌, Bool, true, false, List, [], ◌∷◌, ◌++◌, length, map, drop, Option, Some, None, refl, sym, ap, ◌∙◌, subst, arith, length-append, append_assoc, append-nil}
use Rattle.std.specs.Prelude.{if◌then◌else◌, ⊤}
use Rattle.go_const.specs.declared.operator.ComparisonOperator.TheVariants.{Equal}
use Rattle.go_types.specs.declared.types.Basic.TheVariants as basics
use Rattle.go_types.specs.Types.{Type', basic}
use Rattle.go_types.specs.Relations.{underlying}
use Rattle.go_types.specs.Sizes.{cells}
use Rattle.go_code.specs.declared.cell.Cell.{Cell}
use Rattle.go_code.specs.declared.cell.Cell.TheVariants.{Int, Bool as Truth, Text, Slice}
use Rattle.go_code.specs.declared.image.Start.{Start}
use Rattle.go_code.specs.declared.instr.Instr.{Instr}
use Rattle.go_code.specs.declared.instr.Instr.TheVariants.{Jump as Go_to}
use Rattle.go_code.specs.declared.instr.JumpInstr.TheVariants.{Jump, JumpIf}
use Rattle.go_code.specs.Finals.{Final}
use Rattle.go_code.specs.Images.{Image}
use Rattle.go_code.specs.Machine.{Frame}
use Rattle.go_code.specs.Operators as operators
use Rattle.go_code.specs.Operators.{Operated}
use Rattle.go_code.proofs.FollowsInside.{jump_if_leads, jump_if_stays}
use Rattle.go_code.proofs.Stands.{stands_next}
use Rattle.go_typed.specs.declared.expression.Operator.TheVariants.{Comparison as comparison}
use Rattle.go_typed.specs.Trees.{Expr, Exprs, no_exprs, some_exprs, Clauses, no_clauses, clause}
use Rattle.go_meaning.specs.Values.{Value, single, parts, flat, is_of}
use Rattle.go_meaning.specs.Choices.{operated, binary_operators}
use Rattle.go_meaning.specs.Meaning.{ProgramState, Outcome, Gives, Locals, Calls, and_then, typed_or_panic, or_panic, if_true, eval, is_case, chosen}
use Rattle.go_gen.specs.Translation.{Places, total, expr_temps, exprs_temps, operators_code, load, expr_code, cases_temps, cases_code, concat_code, tests_code, default_place}
use Rattle.go_translation_laws.proofs.Frames.{together, types_of}
use Rattle.go_meaning_laws.proofs.Values.{flat_long}
use Rattle.go_translation_laws.proofs.Runs.{Onward, onward_then, onward_map, here, On, on_stack, operators_run}
use Rattle.go_translation_laws.proofs.Rows.{on_front, loads}
use Rattle.go_translation_laws.proofs.Exprs.{Runs}
use Rattle.go_translation_laws.proofs.Following.{Past, past_more, stands_past, Placed, Follows, follows_as, row_long, jumps}
use Rattle.go_translation_laws.proofs.Loops.{expr_deeper}

-- ---- places further on

-- behind what stands there
pub past_on : (rest xs k : List (Instr ℕ)) (n : ℕ) → Past rest n (xs ++ k) → Past rest (n + length xs) k
past_on rest xs k n past =
    let long : length (past.before ++ xs) ≡ n + length xs = omega (arith, length-append past.before xs, past.long) in
    record { before = past.before ++ xs; is = past.is ∙ sym (append_assoc past.before xs k); long = long }

pub past_as : (rest k l : List (Instr ℕ)) (n : ℕ) → k ≡ l → Past rest n k → Past rest n l
past_as rest k l n e past = subst (λ x. Past rest n x) e past

next_codes : {A : Type 0} (n : ℕ) (x : A) (xs ys : List A) → x ∷ xs ≡ drop n ys → xs ≡ drop (n + 1) ys
next_codes {A} zero x xs [] e = cc
next_codes {A} zero x xs (y ∷ ys) e = cc
next_codes {A} (suc n) x xs [] e = cc
next_codes {A} (suc n) x xs (y ∷ ys) e =
    let more : suc (n + 1) ≡ suc n + 1 = omega arith in
    next_codes n x xs ys e ∙ ap (λ k. drop k (y ∷ ys)) more

-- the codes from the chosen clause on, or what stands behind all
abbrev pub from_clause_on : List (List (Instr ℕ)) → List (Instr ℕ) → Option ℕ → List (Instr ℕ)
from_clause_on codes rest None = rest
from_clause_on codes rest (Some n) = concat_code (drop n codes) ++ rest

-- as many codes as clauses
abbrev pub AsMany : Clauses → List (List (Instr ℕ)) → Type 0
AsMany no_clauses [] = ⊤
AsMany no_clauses (x ∷ xs) = ⊥
AsMany (clause es body falls cs) [] = ⊥
AsMany (clause es body falls cs) (x ∷ xs) = AsMany cs xs

-- ---- comparisons

-- a comparison decides only by a truth value
as_truth : {A : Type 0} (final : Final) (P : A → ProgramState → Type 0) (o : Operated Value) (w : ProgramState) (x y : ProgramState → Outcome A) → Onward final P (and_then (or_panic o w) (λ b w1. if_true b (x w1) (y w1))) → Onward final (λ v w1. Onward final P (if_true v (x w1) (y w1))) (typed_or_panic (basic basics.Bool) o w)
as_truth {A} final P (operators.Gives (single (Truth true))) w x y h = h
as_truth {A} final P (operators.Gives (single (Truth false))) w x y h = h
as_truth {A} final P (operators.Gives (single (Int z))) w x y h = absurd h
as_truth {A} final P (operators.Gives (single (Slice r1 r2 r3 r4))) w x y h = absurd h
as_truth {A} final P (operators.Gives (single (Text s))) w x y h = absurd h
as_truth {A} final P (operators.Gives (parts vs)) w x y h = absurd h
as_truth {A} final P (operators.Panics kind) w x y h = h
as_truth {A} final P operators.Senseless w x y h = absurd h

module _ (image : Image) (final : Final) (depth : ℕ) (code : List (Instr ℕ)) (callers : List Frame) (starts : List Start) (p : Places ℕ) (types : List Type') where
  abbrev Onto : ℕ → List (Instr ℕ) → List Cell → ℕ → List Cell → ProgramState → Type 0
  Onto t k front m stack w = On image final depth code callers starts p t k front m stack w

  abbrev Goes_on : ℕ → List (Instr ℕ) → Locals → List Cell → ℕ → List Cell → ProgramState → Type 0
  Goes_on t k locals low m stack w = Follows image final depth code callers starts p types t k locals low m stack w

  -- a truth value jumps where it is true
  jumps_if : {A : Type 0} (P : A → ProgramState → Type 0) (x y : Outcome A) (t n : ℕ) (k target : List (Instr ℕ)) (front : List Cell) (m : ℕ) (stack : List Cell) (w : ProgramState) (v : Value) → Past k n target → (Onward final P x → Onto t target front m stack w) → (Onward final P y → Onto t k front m stack w) → Onward final P (if_true v x y) → Onto t (Go_to (JumpIf n) ∷ k) front m (stack ++ flat v) w
  jumps_if {A} P x y t n k target front m stack w (single (Truth true)) past first second h = λ known few place high long s.
      let s1 = stands_past code k target (place + 1) n past (stands_next code place _ k s) in
      jump_if_leads image (here image final depth code callers starts p place (front ++ high) (stack ++ Truth true ∷ []) w) _ callers n stack final (record { frames = refl; rest = k; stands = s }) refl s1.within
      (first h known few (place + 1 + n) high long s1)
  jumps_if {A} P x y t n k target front m stack w (single (Truth false)) past first second h = λ known few place high long s.
      jump_if_stays image (here image final depth code callers starts p place (front ++ high) (stack ++ Truth false ∷ []) w) _ callers n stack final (record { frames = refl; rest = k; stands = s }) refl
      (second h known few (place + 1) high long (stands_next code place _ k s))
  jumps_if {A} P x y t n k target front m stack w (single (Int z)) past first second h = absurd h
  jumps_if {A} P x y t n k target front m stack w (single (Slice r1 r2 r3 r4)) past first second h = absurd h
  jumps_if {A} P x y t n k target front m stack w (single (Text s)) past first second h = absurd h
  jumps_if {A} P x y t n k target front m stack w (parts vs) past first second h = absurd h

  module _ (placed : Placed image final depth code callers starts p types) (calls : Calls) (every : (e : Expr) → Runs image final depth code callers starts p calls e) where
    -- the tag lies behind the temporaries of its expression
    module _ (of : Type') (tag : Value) (typed : is_of of tag ≡ true) (at : ℕ) (locals : Locals) (same : types_of locals ≡ types) (before : List Cell) (there : total types + length before ≡ at) (m t : ℕ) where
      abbrev low : List Cell
      low = before ++ flat tag

      first : total types + length low ≡ at + cells of
      first = omega (arith, there, length-append before (flat tag), flat_long of tag typed)

      tag_loads : (k : List (Instr ℕ)) (w : ProgramState) → Goes_on t k locals low m (flat tag) w → Goes_on t (load at (cells of) ∷ k) locals low m [] w
      tag_loads k w on rows fits =
          let shape : (together rows ++ before) ++ (flat tag ++ []) ≡ together rows ++ low = ap (λ l. (together rows ++ before) ++ l) (append-nil (flat tag)) ∙ append_assoc (together rows) before (flat tag) in
          on_front image final depth code callers starts p t (load at (cells of) ∷ k) _ _ m [] w shape
          (loads image final depth code callers starts p t at (cells of) (together rows ++ before) (flat tag) [] k m [] w
          (row_long image final depth code callers starts p types rows locals before at fits same there) (flat_long of tag typed)
          (on_front image final depth code callers starts p t k _ _ m (flat tag) w (sym shape) (on rows fits)))

      -- what follows behind the cases of one clause: its body, or the other tests
      abbrev Cased : List (Instr ℕ) → List (Instr ℕ) → Bool → ProgramState → Type 0
      Cased rest target true w = Goes_on t target locals low m [] w
      Cased rest target false w = Goes_on t rest locals low m [] w

      cases_follow : (es : Exprs) (d k far : ℕ) (rest target : List (Instr ℕ)) (w : ProgramState) → at + cells of + d ≡ k → d + exprs_temps es ≤ m → Past rest far target → Onward final (Cased rest target) (is_case calls of tag es locals w) → Goes_on t (cases_code p at of k es far ++ rest) locals low m [] w
      cases_follow no_exprs d k far rest target w behind le past h = h
      cases_follow (some_exprs e es) d k far rest target w behind le past h =
          let ops = binary_operators (underlying of) (comparison Equal) in
          let others = cases_code p at of (k + expr_temps e) es far in
          let n : ℕ = length others + far in
          let next : List (Instr ℕ) = Go_to (JumpIf n) ∷ (others ++ rest) in
          let shape : load at (cells of) ∷ (expr_code p k e ++ (operators_code ops ++ next)) ≡ (load at (cells of) ∷ expr_code p k e ++ operators_code ops ++ Go_to (JumpIf n) ∷ others) ++ rest = simp append_assoc in
          follows_as image final depth code callers starts p types t _ _ locals low m [] w shape
          (tag_loads (expr_code p k e ++ (operators_code ops ++ next)) w
          (expr_deeper image final depth code callers starts p types placed calls e (every e) d t locals (at + cells of) k (operators_code ops ++ next) low m (flat tag) w behind same first (omega (arith, le))
          (onward_map final _ _ (eval calls e locals w)
          (λ v w1 more typed1 rows fits.
          on_stack image final depth code callers starts p t (operators_code ops ++ next) (together rows ++ low) m _ _ w1 (ap (λ l. flat tag ++ l) (append-nil (flat v)))
          (operators_run image final depth code callers starts p t (basic basics.Bool) ops (tag ∷ v ∷ []) next (together rows ++ low) m [] w1
          (onward_map final _ _ (typed_or_panic (basic basics.Bool) (operated ops (tag ∷ v ∷ [])) w1)
          (λ b w2 most truth.
          jumps_if (Cased rest target) (Gives true w2) (is_case calls of tag es locals w2) t n (others ++ rest) target (together rows ++ low) m [] w2 b (past_more others rest far n target refl past)
          (λ on. on rows fits)
          (λ on. cases_follow es (d + expr_temps e) (k + expr_temps e) far rest target w2 (omega (arith, behind)) (omega (arith, le)) past on rows fits)
          most)
          (as_truth final (Cased rest target) (operated ops (tag ∷ v ∷ [])) w1 (λ w2. Gives true w2) (λ w2. is_case calls of tag es locals w2) more))))
          (onward_then final _ (eval calls e locals w) _ h))))

      -- ---- the tests of all clauses, which stand before the clauses' codes

      module _ (codes : List (List (Instr ℕ))) (rest : List (Instr ℕ)) where
        abbrev target : Option ℕ → List (Instr ℕ)
        target o = from_clause_on codes rest o

        abbrev whole : List (Instr ℕ)
        whole = concat_code codes ++ rest

        abbrev Chosen : Option ℕ → ProgramState → Type 0
        Chosen o w = Goes_on t (target o) locals low m [] w

        -- the clause's own code is the target, or the other tests are followed
        chosen_or : (n : ℕ) (tests : List (Instr ℕ)) (others : ProgramState → Outcome (Option ℕ)) → ((w : ProgramState) → Onward final Chosen (others w) → Goes_on t tests locals low m [] w) → (b : Bool) (w : ProgramState) → Onward final Chosen (if b then Gives (Some n) w else others w) → Cased tests (target (Some n)) b w
        chosen_or n tests others f true w h = h
        chosen_or n tests others f false w h = f w h

        pub tests_follow : (cs : Clauses) (xs : List (List (Instr ℕ))) (n far place jump d k : ℕ) (other : Option ℕ) (w : ProgramState) → AsMany cs xs → xs ≡ drop n codes → Past whole far (concat_code xs ++ rest) → Past whole place (target other) → jump ≡ default_place cs (map length xs) far place → at + cells of + d ≡ k → d + cases_temps cs ≤ m → Onward final Chosen (chosen calls of tag cs n other locals w) → Goes_on t (tests_code p at of k cs (map length xs) far ++ (Go_to (Jump jump) ∷ whole)) locals low m [] w
        tests_follow no_clauses [] n far place jump d k other w many own past aim is behind le h = λ rows fits.
            jumps image final depth code callers starts p types t jump whole (target other) (together rows ++ low) m [] w (subst (λ j. Past whole j (target other)) (sym is) aim) (h rows fits)
        tests_follow no_clauses (x ∷ xs) n far place jump d k other w many own past aim is behind le h = absurd many
        tests_follow (clause es body falls cs) [] n far place jump d k other w many own past aim is behind le h = absurd many
        tests_follow (clause None body falls cs) (x ∷ xs) n far place jump d k other w many own past aim is behind le h =
            let here_past : Past whole far (target (Some n)) = past_as whole (concat_code (x ∷ xs) ++ rest) (target (Some n)) far (ap (λ l. concat_code l ++ rest) own) past in
            let next_past = past_on whole x (concat_code xs ++ rest) far (past_as whole ((x ++ concat_code xs) ++ rest) (x ++ (concat_code xs ++ rest)) far (append_assoc x (concat_code xs) rest) past) in
            tests_follow cs xs (n + 1) (far + length x) far jump d (k + 0) (Some n) w many (next_codes n x xs codes own) next_past here_past is (omega (arith, behind)) (omega (arith, le)) h
        tests_follow (clause (Some es) body falls cs) (x ∷ xs) n far place jump d k other w many own past aim is behind le h =
            let here_past : Past whole far (target (Some n)) = past_as whole (concat_code (x ∷ xs) ++ rest) (target (Some n)) far (ap (λ l. concat_code l ++ rest) own) past in
            let next_past = past_on whole x (concat_code xs ++ rest) far (past_as whole ((x ++ concat_code xs) ++ rest) (x ++ (concat_code xs ++ rest)) far (append_assoc x (concat_code xs) rest) past) in
            let others = tests_code p at of (k + exprs_temps es) cs (map length xs) (far + length x) in
            let next : List (Instr ℕ) = Go_to (Jump jump) ∷ whole in
            let over : Past (others ++ next) (length others + 1 + far) (target (Some n)) = past_more others next (1 + far) (length others + 1 + far) (target (Some n)) (omega arith) (past_more (Go_to (Jump jump) ∷ []) whole far (1 + far) (target (Some n)) refl here_past) in
            follows_as image final depth code callers starts p types t (cases_code p at of k es (length others + 1 + far) ++ (others ++ next)) _ locals low m [] w (sym (append_assoc (cases_code p at of k es (length others + 1 + far)) others next))
            (cases_follow es d k (length others + 1 + far) (others ++ next) (target (Some n)) w behind (omega (arith, le)) over
            (onward_map final _ _ (is_case calls of tag es locals w)
            (chosen_or n (others ++ next) (λ w1. chosen calls of tag cs (n + 1) other locals w1)
            (λ w1 more. tests_follow cs xs (n + 1) (far + length x) place jump (d + exprs_temps es) (k + exprs_temps es) other w1 many (next_codes n x xs codes own) next_past aim is (omega (arith, behind)) (omega (arith, le)) more))
            (onward_then final _ (is_case calls of tag es locals w) _ h)))
