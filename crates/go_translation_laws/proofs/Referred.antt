-- The code of expressions, values and assignments does not depend on what functions and package variables are referred to by.
use Rattle.std.proofs.Common.{◌≡◌, ℕ, ◌+◌, Bool, List, [], ◌∷◌, ◌++◌, length, map, pos, Option, Some, None, refl, sym, ap, ◌∙◌}
use Rattle.std.specs.List.{flat_map}
use Rattle.std.proofs.lemmas.List.{map-append, length-map}
use Rattle.go_types.specs.Types.{Type', basic, array, slice, struct, named, Fields, no_fields, field}
use Rattle.go_types.specs.Relations.{underlying}
use Rattle.go_types.specs.Sizes.{cells}
use Rattle.go_code.specs.declared.cell.Cell.TheVariants.{Int}
use Rattle.go_code.specs.declared.instr.Instr.{Instr}
use Rattle.go_code.specs.declared.instr.Instr.TheVariants.{Frame as In_frame, Part as On_part, Operate, Jump as Go_to}
use Rattle.go_code.specs.declared.instr.FrameInstr.TheVariants.{Push}
use Rattle.go_code.specs.declared.instr.PartInstr.TheVariants.{Move, Index, Reach}
use Rattle.go_code.specs.declared.instr.JumpInstr.TheVariants.{JumpIf, JumpIfNot}
use Rattle.go_code.specs.declared.operator.Operator as operators
use Rattle.go_code.specs.Referred.{Changes, refer}
use Rattle.go_typed.specs.Trees as trees
use Rattle.go_typed.specs.Trees.{Expr, Exprs, no_exprs, some_exprs, Perhaps, absent, present, Parts, no_parts, part, Steps, here, to_field, to_element, Left, blank, of_local, of_global, of_slice, ValueSource, each, results, zeros, expr_type}
use Rattle.go_meaning.specs.Choices.{unary_operators, binary_operators, conversion_operators, length_operators, cut_operators, field_type, element_type}
use Rattle.go_gen.specs.Translation.{Places, offset, expr_temps, perhaps_temps, element_cells, zero_code, zeros_code, operators_code, index_code, load, store, decided_code, expr_code, perhaps_code, exprs_code, parts_code, source_code, operands_code, or_type, elements_count, steps_code, address_code, array_access_code, left_temps, left_operands, take_code, give_code, lefts_operands, values_temps, keep_code, keeps_code, gives_code, define_code, defines_code}

-- the same places, where functions and package variables are referred to by other things
abbrev pub referred : {R S : Type 0} → Changes R S → Places R → Places S
referred g p = record { locals = p.locals; globals = λ s. g.variables (p.globals s); functions = λ s. g.functions (p.functions s) }

-- codes side by side
pub joins : {A B : Type 0} {us vs : List B} (h : A → B) (xs ys : List A) → map h xs ≡ us → map h ys ≡ vs → map h (xs ++ ys) ≡ us ++ vs
joins {us} h xs ys a b = map-append h xs ys ∙ ap (λ l. l ++ map h ys) a ∙ ap (λ l. us ++ l) b

-- codes are as long with other references
pub as_long : {A B : Type 0} {us : List B} (h : A → B) (xs : List A) → map h xs ≡ us → length xs ≡ length us
as_long h xs e = sym (length-map xs h) ∙ ap length e

module _ {R S : Type 0} (g : Changes R S) where
  -- the code with its references changed is this
  abbrev pub Refers : List (Instr R) → List (Instr S) → Type 0
  Refers xs us = map (refer g) xs ≡ us

  pub begins : {us : List (Instr S)} (i : Instr R) (j : Instr S) (xs : List (Instr R)) → refer g i ≡ j → Refers xs us → Refers (i ∷ xs) (j ∷ us)
  begins {us} i j xs e d = ap (λ h. h ∷ map (refer g) xs) e ∙ ap (λ l. j ∷ l) d

  mutual
    pub zero_referred : (t : Type') → Refers (zero_code t) (zero_code t)
    zero_referred (basic b) = refl
    zero_referred (array n t) = joins (refer g) (zero_code t) _ (zero_referred t) refl
    zero_referred (slice t) = refl
    zero_referred (struct fs) = zeros_referred fs
    zero_referred (named path name t) = zero_referred t

    zeros_referred : (fs : Fields) → Refers (zeros_code fs) (zeros_code fs)
    zeros_referred no_fields = refl
    zeros_referred (field p x t fs) = joins (refer g) (zero_code t) (zeros_code fs) (zero_referred t) (zeros_referred fs)

  zeros_of_types : (ts : List Type') → Refers (flat_map zero_code ts) (flat_map zero_code ts)
  zeros_of_types [] = refl
  zeros_of_types (t ∷ ts) = joins (refer g) (zero_code t) (flat_map zero_code ts) (zero_referred t) (zeros_of_types ts)

  pub operators_referred : (ops : List operators.Operator) → Refers (operators_code ops) (operators_code ops)
  operators_referred [] = refl
  operators_referred (op ∷ ops) = ap (λ l. Operate op ∷ l) (operators_referred ops)

  index_referred : (t : Type') → Refers (index_code t) (index_code t)
  index_referred (basic b) = refl
  index_referred (array n t) = refl
  index_referred (slice t) = refl
  index_referred (struct fs) = refl
  index_referred (named path name t) = refl

  -- a jump over a right side
  decided_referred : (jump : ℕ → Instr R) (jump' : ℕ → Instr S) → ((n : ℕ) → refer g (jump n) ≡ jump' n) → (answer : Bool) (a b : List (Instr R)) (a' b' : List (Instr S)) → Refers a a' → Refers b b' → Refers (decided_code jump answer a b) (decided_code jump' answer a' b')
  decided_referred jump jump' same answer a b a' b' e d =
      let jumps : Refers (jump (length b + 1) ∷ b) (jump' (length b' + 1) ∷ b') = begins (jump (length b + 1)) (jump' (length b' + 1)) b (same (length b + 1) ∙ ap (λ n. jump' (n + 1)) (as_long (refer g) b d)) d in
      joins (refer g) (a ++ jump (length b + 1) ∷ b) _ (joins (refer g) a _ e jumps) refl

  module _ (p : Places R) where
    abbrev q : Places S
    q = referred g p

    mutual
      pub expr_referred : (k : ℕ) (e : Expr) → Refers (expr_code p k e) (expr_code q k e)
      expr_referred k (trees.constant t c) = refl
      expr_referred k (trees.local t n) = refl
      expr_referred k (trees.global t s) = refl
      expr_referred k (trees.field t e n) = joins (refer g) (expr_code p k e) _ (expr_referred k e) refl
      expr_referred k (trees.index t e i) =
          joins (refer g) (expr_code p k e ++ expr_code p (k + expr_temps e) i) _
          (joins (refer g) (expr_code p k e) _ (expr_referred k e) (expr_referred (k + expr_temps e) i))
          (index_referred (underlying (expr_type e)))
      expr_referred k (trees.length t e) = joins (refer g) (expr_code p k e) _ (expr_referred k e) (operators_referred (length_operators (underlying (expr_type e))))
      expr_referred k (trees.capacity t e) = joins (refer g) (expr_code p k e) _ (expr_referred k e) refl
      expr_referred k (trees.cut t e low o) =
          let s : Type' = underlying (expr_type e) in
          let at : ℕ = k + expr_temps e in
          joins (refer g) (expr_code p k e ++ store at 1 ∷ load at 1 ∷ expr_code p (at + 1) low ++ perhaps_code p (at + 1 + expr_temps low) (load at 1 ∷ operators_code (length_operators s)) o) _
          (joins (refer g) (expr_code p k e ++ store at 1 ∷ load at 1 ∷ expr_code p (at + 1) low) _
          (joins (refer g) (expr_code p k e) _ (expr_referred k e) (ap (λ l. store at 1 ∷ load at 1 ∷ l) (expr_referred (at + 1) low)))
          (perhaps_referred (at + 1 + expr_temps low) (load at 1 ∷ operators_code (length_operators s)) (load at 1 ∷ operators_code (length_operators s)) o (ap (λ l. load at 1 ∷ l) (operators_referred (length_operators s)))))
          (operators_referred (cut_operators s))
      expr_referred k (trees.make t e o) =
          let at : ℕ = k + expr_temps e in
          let of : Type' = or_type t (element_type (underlying t)) in
          joins (refer g) (zero_code of ++ expr_code p k e ++ store at 1 ∷ load at 1 ∷ perhaps_code p (at + 1) (load at 1 ∷ []) o) _
          (joins (refer g) (zero_code of ++ expr_code p k e) _ (joins (refer g) (zero_code of) _ (zero_referred of) (expr_referred k e))
          (ap (λ l. store at 1 ∷ load at 1 ∷ l) (perhaps_referred (at + 1) (load at 1 ∷ []) (load at 1 ∷ []) o refl)))
          refl
      expr_referred k (trees.append t o es) =
          joins (refer g) (perhaps_code p k (zero_code t) o ++ exprs_code p (k + perhaps_temps o) es) _
          (joins (refer g) (perhaps_code p k (zero_code t) o) _ (perhaps_referred k (zero_code t) (zero_code t) o (zero_referred t)) (exprs_referred (k + perhaps_temps o) es))
          refl
      expr_referred k (trees.unary t op e) = joins (refer g) (expr_code p k e) _ (expr_referred k e) (operators_referred (unary_operators (underlying t) op))
      expr_referred k (trees.binary t op a b) =
          joins (refer g) (expr_code p k a ++ expr_code p (k + expr_temps a) b) _
          (joins (refer g) (expr_code p k a) _ (expr_referred k a) (expr_referred (k + expr_temps a) b))
          (operators_referred (binary_operators (underlying (expr_type a)) op))
      expr_referred k (trees.both t a b) = decided_referred (λ n. Go_to (JumpIfNot n)) (λ n. Go_to (JumpIfNot n)) (λ n. refl) _ _ _ _ _ (expr_referred k a) (expr_referred (k + expr_temps a) b)
      expr_referred k (trees.either t a b) = decided_referred (λ n. Go_to (JumpIf n)) (λ n. Go_to (JumpIf n)) (λ n. refl) _ _ _ _ _ (expr_referred k a) (expr_referred (k + expr_temps a) b)
      expr_referred k (trees.conversion t e) = joins (refer g) (expr_code p k e) _ (expr_referred k e) (operators_referred (conversion_operators (underlying t)))
      expr_referred k (trees.literal t ps) =
          joins (refer g) (zero_code t ++ store k (cells t) ∷ parts_code p (underlying t) k (k + cells t) ps) _
          (joins (refer g) (zero_code t) _ (zero_referred t) (ap (λ l. store k (cells t) ∷ l) (parts_referred (underlying t) k (k + cells t) ps)))
          refl
      expr_referred k (trees.call t s es) = joins (refer g) (exprs_code p k es) _ (exprs_referred k es) refl

      perhaps_referred : (k : ℕ) (other : List (Instr R)) (other' : List (Instr S)) (o : Perhaps) → Refers other other' → Refers (perhaps_code p k other o) (perhaps_code q k other' o)
      perhaps_referred k other other' absent e = e
      perhaps_referred k other other' (present x) e = expr_referred k x

      pub exprs_referred : (k : ℕ) (es : Exprs) → Refers (exprs_code p k es) (exprs_code q k es)
      exprs_referred k no_exprs = refl
      exprs_referred k (some_exprs e es) =
          joins (refer g) (expr_code p k e) (exprs_code p (k + expr_temps e) es) (expr_referred k e) (exprs_referred (k + expr_temps e) es)

      parts_referred : (s : Type') (at k : ℕ) (ps : Parts) → Refers (parts_code p s at k ps) (parts_code q s at k ps)
      parts_referred s at k no_parts = refl
      parts_referred s at k (part n e ps) =
          joins (refer g) (expr_code p k e) _ (expr_referred k e) (ap (λ l. store (at + offset s n) (cells (expr_type e)) ∷ l) (parts_referred s at (k + expr_temps e) ps))

    pub source_referred : (k : ℕ) (s : ValueSource) → Refers (source_code p k s) (source_code q k s)
    source_referred k (each es) = exprs_referred k es
    source_referred k (results ts s es) = joins (refer g) (exprs_code p k es) _ (exprs_referred k es) refl
    source_referred k (zeros ts) = zeros_of_types ts

    -- ---- assignments

    operands_referred : (k : ℕ) (ss : Steps) → Refers (operands_code p k ss) (operands_code q k ss)
    operands_referred k here = refl
    operands_referred k (to_field n ss) = operands_referred k ss
    operands_referred k (to_element e ss) =
        joins (refer g) (expr_code p k e) _ (expr_referred k e) (ap (λ l. store (k + expr_temps e) 1 ∷ l) (operands_referred (k + expr_temps e + 1) ss))

    steps_referred : (t : Type') (k : ℕ) (ss : Steps) → Refers (steps_code t k ss) (steps_code t k ss)
    steps_referred t k here = refl
    steps_referred t k (to_field n ss) = ap (λ l. On_part (Move (offset (underlying t) n)) ∷ l) (steps_referred (or_type t (field_type (underlying t) n)) k ss)
    steps_referred t k (to_element e ss) =
        let u : Type' = or_type t (element_type (underlying t)) in
        ap (λ l. load (k + expr_temps e) 1 ∷ On_part (Index (elements_count (underlying t)) (cells u)) ∷ l) (steps_referred u (k + expr_temps e + 1) ss)

    address_referred : (t : Type') (k : ℕ) (ss : Steps) → Refers (address_code t k ss) (address_code t k ss)
    address_referred t k ss = ap (λ l. In_frame (Push (Int (pos 0))) ∷ l) (steps_referred t k ss)

    row_referred : (t : Type') (at k : ℕ) (ss : Steps) → Refers (array_access_code t at k ss) (array_access_code t at k ss)
    row_referred t at k here = refl
    row_referred t at k (to_field n ss) = refl
    row_referred t at k (to_element e ss) =
        ap (λ l. load at 1 ∷ load (k + expr_temps e) 1 ∷ On_part (Reach (element_cells (underlying t))) ∷ l) (steps_referred (or_type t (element_type (underlying t))) (k + expr_temps e + 1) ss)

    pub left_referred : (k : ℕ) (l : Left) → Refers (left_operands p k l) (left_operands q k l)
    left_referred k blank = refl
    left_referred k (of_local t n ss) = operands_referred k ss
    left_referred k (of_global t s ss) = operands_referred k ss
    left_referred k (of_slice t e ss) =
        joins (refer g) (expr_code p k e) _ (expr_referred k e) (ap (λ l. store (k + expr_temps e) 1 ∷ l) (operands_referred (k + expr_temps e + 1) ss))

    pub take_referred : (k : ℕ) (l : Left) (n : ℕ) → Refers (take_code p k l n) (take_code q k l n)
    take_referred k blank n = refl
    take_referred k (of_local t v ss) n = joins (refer g) (address_code t k ss) _ (address_referred t k ss) refl
    take_referred k (of_global t s ss) n = joins (refer g) (address_code t k ss) _ (address_referred t k ss) refl
    take_referred k (of_slice t e ss) n =
        joins (refer g) (array_access_code t (k + expr_temps e) (k + expr_temps e + 1) ss) _ (row_referred t (k + expr_temps e) (k + expr_temps e + 1) ss) refl

    pub give_referred : (k : ℕ) (l : Left) (temp n : ℕ) → Refers (give_code p k l temp n) (give_code q k l temp n)
    give_referred k blank temp n = refl
    give_referred k (of_local t v ss) temp n = ap (λ l. load temp n ∷ l) (joins (refer g) (address_code t k ss) _ (address_referred t k ss) refl)
    give_referred k (of_global t s ss) temp n = ap (λ l. load temp n ∷ l) (joins (refer g) (address_code t k ss) _ (address_referred t k ss) refl)
    give_referred k (of_slice t e ss) temp n =
        ap (λ l. load temp n ∷ l) (joins (refer g) (array_access_code t (k + expr_temps e) (k + expr_temps e + 1) ss) _ (row_referred t (k + expr_temps e) (k + expr_temps e + 1) ss) refl)

    pub lefts_referred : (k : ℕ) (ls : List Left) → Refers (lefts_operands p k ls) (lefts_operands q k ls)
    lefts_referred k [] = refl
    lefts_referred k (l ∷ ls) = joins (refer g) (left_operands p k l) _ (left_referred k l) (lefts_referred (k + left_temps l) ls)

    pub keep_referred : (l : Left) (n temp : ℕ) → refer g (keep_code {R = R} l n temp) ≡ keep_code {R = S} l n temp
    keep_referred blank n temp = refl
    keep_referred (of_local t v ss) n temp = refl
    keep_referred (of_global t s ss) n temp = refl
    keep_referred (of_slice t e ss) n temp = refl

    pub keeps_referred : (ls : List Left) (counts : List ℕ) (k : ℕ) → Refers (keeps_code ls counts k) (keeps_code ls counts k)
    keeps_referred [] counts k = refl
    keeps_referred (l ∷ ls) [] k = refl
    keeps_referred (l ∷ ls) (n ∷ counts) k = joins (refer g) (keeps_code ls counts k) _ (keeps_referred ls counts k) (ap (λ i. i ∷ []) (keep_referred l n (k + values_temps ls counts)))

    pub gives_referred : (k : ℕ) (ls : List Left) (counts : List ℕ) (temps : ℕ) → Refers (gives_code p k ls counts temps) (gives_code q k ls counts temps)
    gives_referred k [] counts temps = refl
    gives_referred k (l ∷ ls) [] temps = refl
    gives_referred k (l ∷ ls) (n ∷ counts) temps =
        joins (refer g) (give_code p k l (temps + values_temps ls counts) n) _ (give_referred k l (temps + values_temps ls counts) n) (gives_referred (k + left_temps l) ls counts temps)

    define_referred : (v : Option ℕ) (n : ℕ) → refer g (define_code p v n) ≡ define_code q v n
    define_referred None n = refl
    define_referred (Some v) n = refl

    pub defines_referred : (vs : List (Option ℕ)) (counts : List ℕ) → Refers (defines_code p vs counts) (defines_code q vs counts)
    defines_referred [] counts = refl
    defines_referred (v ∷ vs) [] = refl
    defines_referred (v ∷ vs) (n ∷ counts) = joins (refer g) (defines_code p vs counts) _ (defines_referred vs counts) (ap (λ i. i ∷ []) (define_referred v n))
