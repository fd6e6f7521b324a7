-- The code of well typed expressions, values and assignments refers to functions and package variables that there are.
use Rattle.std.proofs.Common.{◌≡◌, ℕ, ◌+◌, Bool, true, false, ◌||◌, List, [], ◌∷◌, ◌++◌, length, Option, Some, None, refl, ap, ◌∙◌}
use Rattle.std.specs.List.{flat_map, list_any}
use Rattle.std.proofs.lemmas.List.Folds.{list_any-append}
use Rattle.go_types.specs.Types.{Type', basic, array, slice, struct, named, Fields, no_fields, field}
use Rattle.go_types.specs.Relations.{underlying}
use Rattle.go_types.specs.Sizes.{cells}
use Rattle.go_code.specs.declared.instr.Instr.{Instr}
use Rattle.go_code.specs.declared.instr.Instr.TheVariants.{Global as On_globals, Jump as Go_to, Calls as By_call}
use Rattle.go_code.specs.declared.instr.AccessInstr.{AccessInstr}
use Rattle.go_code.specs.declared.instr.AccessInstr.TheVariants.{Load, LoadAt, StoreAt}
use Rattle.go_code.specs.declared.instr.CallInstr.TheVariants.{Call}
use Rattle.go_code.specs.declared.instr.JumpInstr.TheVariants.{JumpIf, JumpIfNot}
use Rattle.go_code.specs.declared.operator.Operator as operators
use Rattle.go_code.specs.Referred.{reference_of}
use Rattle.go_symbol.specs.Symbols as symbols
use Rattle.go_symbol.specs.Symbols.{same_symbol}
use Rattle.go_link.specs.Links.{LinkedVariable, is_missing_symbol}
use Rattle.go_typed.specs.Trees as trees
use Rattle.go_typed.specs.Trees.{Symbol, Expr, Exprs, no_exprs, some_exprs, Perhaps, absent, present, Parts, no_parts, part, Steps, here, to_field, to_element, Left, blank, of_local, of_global, of_slice, ValueSource, each, results, zeros, expr_type}
use Rattle.go_meaning.specs.Choices.{unary_operators, binary_operators, conversion_operators, length_operators, cut_operators, field_type, element_type}
use Rattle.go_gen.specs.Translation.{Places, expr_temps, perhaps_temps, load, store, zero_code, zeros_code, operators_code, index_code, decided_code, expr_code, perhaps_code, exprs_code, parts_code, source_code, operands_code, or_type, steps_code, address_code, array_access_code, left_temps, left_operands, take_code, give_code, lefts_operands, keep_code, keeps_code, gives_code, define_code, defines_code, values_temps}
use Rattle.go_meaning_laws.specs.WellTyped.{Signature, Setting, IsExpr, IsSize, IsAppended, AreElements, AreWellTypedExprs, AreParts, IsWellTypedSource, IsWellTypedPart, LeadsTo, LeadsInto, AreLefts}

-- the functions and the package variables that there are
abbrev pub Present : Type 0
Present = List symbols.Symbol × List LinkedVariable

-- code that refers to these functions and variables
abbrev pub Named : Present → List (Instr symbols.Symbol) → Type 0
Named all code = list_any (is_missing_symbol all.0 all.1) code ≡ false

-- each function and each variable that is known is one of these
abbrev pub Callable : Present → (Symbol → symbols.Symbol) → (Symbol → symbols.Symbol) → Setting → Type 0
Callable all globals functions g =
    ((s : Symbol) (x : Signature) → g.functions s ≡ Some x → list_any (same_symbol (functions s)) all.0 ≡ true)
    × ((s : Symbol) (t : Type') → g.variables s ≡ Some t → list_any (λ v. same_symbol (globals s) v.0) all.1 ≡ true)

module _ (all : Present) where
  pub both_named : (xs ys : List (Instr symbols.Symbol)) → Named all xs → Named all ys → Named all (xs ++ ys)
  both_named xs ys e d = list_any-append (is_missing_symbol all.0 all.1) xs ys ∙ ap (λ b. b || list_any (is_missing_symbol all.0 all.1) ys) e ∙ d

  -- one instruction and others
  pub then_named : (i : Instr symbols.Symbol) (xs : List (Instr symbols.Symbol)) → is_missing_symbol all.0 all.1 i ≡ false → Named all xs → Named all (i ∷ xs)
  then_named i xs e d = ap (λ b. b || list_any (is_missing_symbol all.0 all.1) xs) e ∙ d

  mutual
    zero_named : (t : Type') → Named all (zero_code t)
    zero_named (basic b) = refl
    zero_named (array n t) = both_named (zero_code t) _ (zero_named t) refl
    zero_named (slice t) = refl
    zero_named (struct fs) = zeros_named fs
    zero_named (named path name t) = zero_named t

    zeros_named : (fs : Fields) → Named all (zeros_code fs)
    zeros_named no_fields = refl
    zeros_named (field p x t fs) = both_named (zero_code t) (zeros_code fs) (zero_named t) (zeros_named fs)

  zeros_of_types : (ts : List Type') → Named all (flat_map zero_code ts)
  zeros_of_types [] = refl
  zeros_of_types (t ∷ ts) = both_named (zero_code t) (flat_map zero_code ts) (zero_named t) (zeros_of_types ts)

  pub operators_named : (ops : List operators.Operator) → Named all (operators_code ops)
  operators_named [] = refl
  operators_named (op ∷ ops) = operators_named ops

  index_named : (t : Type') → Named all (index_code t)
  index_named (basic b) = refl
  index_named (array n t) = refl
  index_named (slice t) = refl
  index_named (struct fs) = refl
  index_named (named path name t) = refl

  -- a jump over a right side
  decided_named : (jump : ℕ → Instr symbols.Symbol) → ((n : ℕ) → is_missing_symbol all.0 all.1 (jump n) ≡ false) → (answer : Bool) (a b : List (Instr symbols.Symbol)) → Named all a → Named all b → Named all (decided_code jump answer a b)
  decided_named jump same answer a b e d =
      both_named (a ++ jump (length b + 1) ∷ b) _ (both_named a (jump (length b + 1) ∷ b) e (then_named (jump (length b + 1)) b (same (length b + 1)) d)) refl

  -- a call of a function that there is
  call_named : (s : symbols.Symbol) → list_any (same_symbol s) all.0 ≡ true → Named all (By_call (Call s) ∷ [])
  call_named s e = rw e refl

  -- an access to a variable that there is
  pub global_named : (i : AccessInstr symbols.Symbol) → list_any (λ v. same_symbol (reference_of i) v.0) all.1 ≡ true → Named all (On_globals i ∷ [])
  global_named i e = rw e refl

  module _ (p : Places symbols.Symbol) (g : Setting) (d : List ℕ) (there : Callable all p.globals p.functions g) where
    mutual
      pub expr_named : (k : ℕ) (e : Expr) → IsExpr g d e → Named all (expr_code p k e)
      expr_named k (trees.constant t c) h = refl
      expr_named k (trees.local t n) h = refl
      expr_named k (trees.global t s) h = global_named (Load (p.globals s) (cells t)) (there.1 s t h)
      expr_named k (trees.field t e n) h = both_named (expr_code p k e) _ (expr_named k e h.0) refl
      expr_named k (trees.index t e i) h =
          both_named (expr_code p k e ++ expr_code p (k + expr_temps e) i) _
          (both_named (expr_code p k e) _ (expr_named k e h.0) (expr_named (k + expr_temps e) i h.1))
          (index_named (underlying (expr_type e)))
      expr_named k (trees.length t e) h = both_named (expr_code p k e) _ (expr_named k e h.0) (operators_named (length_operators (underlying (expr_type e))))
      expr_named k (trees.capacity t e) h = both_named (expr_code p k e) _ (expr_named k e h.0) refl
      expr_named k (trees.cut t e low o) h =
          let s : Type' = underlying (expr_type e) in
          let at : ℕ = k + expr_temps e in
          let bound : List (Instr symbols.Symbol) = store at 1 ∷ load at 1 ∷ expr_code p (at + 1) low in
          let other : List (Instr symbols.Symbol) = load at 1 ∷ operators_code (length_operators s) in
          both_named (expr_code p k e ++ bound ++ perhaps_code p (at + 1 + expr_temps low) other o) _
          (both_named (expr_code p k e ++ bound) _ (both_named (expr_code p k e) bound (expr_named k e h.0) (expr_named (at + 1) low h.3)) (size_named (at + 1 + expr_temps low) other o (operators_named (length_operators s)) h.5))
          (operators_named (cut_operators s))
      expr_named k (trees.make t e o) h =
          let at : ℕ = k + expr_temps e in
          let of : Type' = or_type t (element_type (underlying t)) in
          let rest : List (Instr symbols.Symbol) = store at 1 ∷ load at 1 ∷ perhaps_code p (at + 1) (load at 1 ∷ []) o in
          both_named (zero_code of ++ expr_code p k e ++ rest) _
          (both_named (zero_code of ++ expr_code p k e) rest (both_named (zero_code of) _ (zero_named of) (expr_named k e h.2)) (size_named (at + 1) (load at 1 ∷ []) o refl h.4)) refl
      expr_named k (trees.append t o es) h =
          both_named (perhaps_code p k (zero_code t) o ++ exprs_code p (k + perhaps_temps o) es) _
          (both_named (perhaps_code p k (zero_code t) o) _ (appended_named k t o h.1) (elements_named (k + perhaps_temps o) (h.2).0 es (h.2).2)) refl
      expr_named k (trees.unary t op e) h = both_named (expr_code p k e) _ (expr_named k e h.0) (operators_named (unary_operators (underlying t) op))
      expr_named k (trees.binary t op a b) h =
          both_named (expr_code p k a ++ expr_code p (k + expr_temps a) b) _
          (both_named (expr_code p k a) _ (expr_named k a h.0) (expr_named (k + expr_temps a) b h.1))
          (operators_named (binary_operators (underlying (expr_type a)) op))
      expr_named k (trees.both t a b) h = decided_named (λ n. Go_to (JumpIfNot n)) (λ n. refl) false (expr_code p k a) (expr_code p (k + expr_temps a) b) (expr_named k a h.0) (expr_named (k + expr_temps a) b h.1)
      expr_named k (trees.either t a b) h = decided_named (λ n. Go_to (JumpIf n)) (λ n. refl) true (expr_code p k a) (expr_code p (k + expr_temps a) b) (expr_named k a h.0) (expr_named (k + expr_temps a) b h.1)
      expr_named k (trees.conversion t e) h = both_named (expr_code p k e) _ (expr_named k e h.0) (operators_named (conversion_operators (underlying t)))
      expr_named k (trees.literal t ps) h =
          let parts : List (Instr symbols.Symbol) = parts_code p (underlying t) k (k + cells t) ps in
          both_named (zero_code t ++ _ ∷ parts) _ (both_named (zero_code t) (_ ∷ parts) (zero_named t) (parts_named (underlying t) t k (k + cells t) ps h.1)) refl
      expr_named k (trees.call t s es) h = both_named (exprs_code p k es) _ (exprs_named k es h.0) (call_named (p.functions s) (there.0 s _ h.1))

      size_named : (k : ℕ) (other : List (Instr symbols.Symbol)) (o : Perhaps) → Named all other → IsSize g d o → Named all (perhaps_code p k other o)
      size_named k other absent e h = e
      size_named k other (present x) e h = expr_named k x h.0

      appended_named : (k : ℕ) (t : Type') (o : Perhaps) → IsAppended g d t o → Named all (perhaps_code p k (zero_code t) o)
      appended_named k t absent h = zero_named t
      appended_named k t (present x) h = expr_named k x h.0

      elements_named : (k : ℕ) (u : Type') (es : Exprs) → AreElements g d u es → Named all (exprs_code p k es)
      elements_named k u no_exprs h = refl
      elements_named k u (some_exprs e es) h = both_named (expr_code p k e) (exprs_code p (k + expr_temps e) es) (expr_named k e h.0) (elements_named (k + expr_temps e) u es h.2)

      pub exprs_named : (k : ℕ) (es : Exprs) → AreWellTypedExprs g d es → Named all (exprs_code p k es)
      exprs_named k no_exprs h = refl
      exprs_named k (some_exprs e es) h = both_named (expr_code p k e) (exprs_code p (k + expr_temps e) es) (expr_named k e h.0) (exprs_named (k + expr_temps e) es h.1)

      parts_named : (s t : Type') (at k : ℕ) (ps : Parts) → AreParts g d t ps → Named all (parts_code p s at k ps)
      parts_named s t at k no_parts h = refl
      parts_named s t at k (part n e ps) h = both_named (expr_code p k e) _ (expr_named k e h.0) (parts_named s t at (k + expr_temps e) ps h.2)

    pub source_named : (k : ℕ) (s : ValueSource) → IsWellTypedSource g d s → Named all (source_code p k s)
    source_named k (each es) h = exprs_named k es h
    source_named k (results ts s es) h = both_named (exprs_code p k es) _ (exprs_named k es h.0) (call_named (p.functions s) (there.0 s _ h.1))
    source_named k (zeros ts) h = zeros_of_types ts

    -- ---- assignments

    operands_named : (k : ℕ) (ss : Steps) (t u : Type') → LeadsTo g d t ss u → Named all (operands_code p k ss)
    operands_named k here t u h = refl
    operands_named k (to_field n ss) t u h = operands_named k ss h.0 u h.2
    operands_named k (to_element e ss) t u h = both_named (expr_code p k e) _ (expr_named k e h.2) (operands_named (k + expr_temps e + 1) ss h.0 u h.4)

    into_named : (k : ℕ) (ss : Steps) (t u : Type') → LeadsInto g d t ss u → Named all (operands_code p k ss)
    into_named k here t u h = absurd h
    into_named k (to_field n ss) t u h = absurd h
    into_named k (to_element e ss) t u h = both_named (expr_code p k e) _ (expr_named k e h.0) (operands_named (k + expr_temps e + 1) ss t u h.2)

    pub left_named : (k : ℕ) (l : Left) (u : Type') → IsWellTypedPart g d l u → Named all (left_operands p k l)
    left_named k blank u h = refl
    left_named k (of_local t n ss) u h = operands_named k ss t u h.2
    left_named k (of_global t s ss) u h = operands_named k ss t u h.2
    left_named k (of_slice t e ss) u h = both_named (expr_code p k e) _ (expr_named k e h.0) (into_named (k + expr_temps e + 1) ss (h.2).0 u (h.2).3)

    pub lefts_named : (k : ℕ) (ls : List Left) (ts : List Type') → AreLefts g d ls ts → Named all (lefts_operands p k ls)
    lefts_named k [] ts h = refl
    lefts_named k (l ∷ ls) [] h = absurd h
    lefts_named k (blank ∷ ls) (t ∷ ts) h = lefts_named (k + left_temps blank) ls ts h
    lefts_named k (of_local s n ss ∷ ls) (t ∷ ts) h =
        both_named (left_operands p k (of_local s n ss)) _ (left_named k (of_local s n ss) t h.0) (lefts_named (k + left_temps (of_local s n ss)) ls ts h.1)
    lefts_named k (of_global s x ss ∷ ls) (t ∷ ts) h =
        both_named (left_operands p k (of_global s x ss)) _ (left_named k (of_global s x ss) t h.0) (lefts_named (k + left_temps (of_global s x ss)) ls ts h.1)
    lefts_named k (of_slice s e ss ∷ ls) (t ∷ ts) h =
        both_named (left_operands p k (of_slice s e ss)) _ (left_named k (of_slice s e ss) t h.0) (lefts_named (k + left_temps (of_slice s e ss)) ls ts h.1)

  -- ---- where values come from and go to

  steps_named : (t : Type') (k : ℕ) (ss : Steps) → Named all (steps_code t k ss)
  steps_named t k here = refl
  steps_named t k (to_field n ss) = steps_named (or_type t (field_type (underlying t) n)) k ss
  steps_named t k (to_element e ss) = steps_named (or_type t (element_type (underlying t))) (k + expr_temps e + 1) ss

  row_named : (t : Type') (at k : ℕ) (ss : Steps) → Named all (array_access_code t at k ss)
  row_named t at k here = refl
  row_named t at k (to_field n ss) = refl
  row_named t at k (to_element e ss) = steps_named (or_type t (element_type (underlying t))) (k + expr_temps e + 1) ss

  module _ (p : Places symbols.Symbol) where
    pub take_named : (g : Setting) (d : List ℕ) → Callable all p.globals p.functions g → (k : ℕ) (l : Left) (n : ℕ) (u : Type') → IsWellTypedPart g d l u → Named all (take_code p k l n)
    take_named g d there k blank n u h = refl
    take_named g d there k (of_local t v ss) n u h = both_named (address_code t k ss) _ (steps_named t k ss) refl
    take_named g d there k (of_global t s ss) n u h = both_named (address_code t k ss) _ (steps_named t k ss) (global_named (LoadAt (p.globals s) n) (there.1 s t h.0))
    take_named g d there k (of_slice t e ss) n u h = both_named (array_access_code t (k + expr_temps e) (k + expr_temps e + 1) ss) _ (row_named t (k + expr_temps e) (k + expr_temps e + 1) ss) refl

    pub give_named : (g : Setting) (d : List ℕ) → Callable all p.globals p.functions g → (k : ℕ) (l : Left) (temp n : ℕ) (u : Type') → IsWellTypedPart g d l u → Named all (give_code p k l temp n)
    give_named g d there k blank temp n u h = refl
    give_named g d there k (of_local t v ss) temp n u h = both_named (address_code t k ss) _ (steps_named t k ss) refl
    give_named g d there k (of_global t s ss) temp n u h = both_named (address_code t k ss) _ (steps_named t k ss) (global_named (StoreAt (p.globals s) n) (there.1 s t h.0))
    give_named g d there k (of_slice t e ss) temp n u h = both_named (array_access_code t (k + expr_temps e) (k + expr_temps e + 1) ss) _ (row_named t (k + expr_temps e) (k + expr_temps e + 1) ss) refl

    pub keep_named : (l : Left) (n temp : ℕ) → is_missing_symbol all.0 all.1 (keep_code l n temp) ≡ false
    keep_named blank n temp = refl
    keep_named (of_local t v ss) n temp = refl
    keep_named (of_global t s ss) n temp = refl
    keep_named (of_slice t e ss) n temp = refl

    pub keeps_named : (ls : List Left) (counts : List ℕ) (k : ℕ) → Named all (keeps_code ls counts k)
    keeps_named [] counts k = refl
    keeps_named (l ∷ ls) [] k = refl
    keeps_named (l ∷ ls) (n ∷ counts) k =
        let at : ℕ = k + values_temps ls counts in
        both_named (keeps_code ls counts k) _ (keeps_named ls counts k) (then_named (keep_code l n at) [] (keep_named l n at) refl)

    pub gives_named : (g : Setting) (d : List ℕ) → Callable all p.globals p.functions g → (k : ℕ) (ls : List Left) (counts : List ℕ) (temps : ℕ) (ts : List Type') → AreLefts g d ls ts → Named all (gives_code p k ls counts temps)
    gives_named g d there k [] counts temps ts h = refl
    gives_named g d there k (l ∷ ls) counts temps [] h = absurd h
    gives_named g d there k (blank ∷ ls) [] temps (t ∷ ts) h = refl
    gives_named g d there k (of_local u v ss ∷ ls) [] temps (t ∷ ts) h = refl
    gives_named g d there k (of_global u s ss ∷ ls) [] temps (t ∷ ts) h = refl
    gives_named g d there k (of_slice u e ss ∷ ls) [] temps (t ∷ ts) h = refl
    gives_named g d there k (blank ∷ ls) (n ∷ counts) temps (t ∷ ts) h = gives_named g d there (k + left_temps blank) ls counts temps ts h
    gives_named g d there k (of_local u v ss ∷ ls) (n ∷ counts) temps (t ∷ ts) h =
        both_named (give_code p k (of_local u v ss) (temps + values_temps ls counts) n) _
        (give_named g d there k (of_local u v ss) (temps + values_temps ls counts) n t h.0)
        (gives_named g d there (k + left_temps (of_local u v ss)) ls counts temps ts h.1)
    gives_named g d there k (of_global u s ss ∷ ls) (n ∷ counts) temps (t ∷ ts) h =
        both_named (give_code p k (of_global u s ss) (temps + values_temps ls counts) n) _
        (give_named g d there k (of_global u s ss) (temps + values_temps ls counts) n t h.0)
        (gives_named g d there (k + left_temps (of_global u s ss)) ls counts temps ts h.1)
    gives_named g d there k (of_slice u e ss ∷ ls) (n ∷ counts) temps (t ∷ ts) h =
        both_named (give_code p k (of_slice u e ss) (temps + values_temps ls counts) n) _
        (give_named g d there k (of_slice u e ss) (temps + values_temps ls counts) n t h.0)
        (gives_named g d there (k + left_temps (of_slice u e ss)) ls counts temps ts h.1)

    define_named : (v : Option ℕ) (n : ℕ) → is_missing_symbol all.0 all.1 (define_code p v n) ≡ false
    define_named None n = refl
    define_named (Some v) n = refl

    pub defines_named : (vs : List (Option ℕ)) (counts : List ℕ) → Named all (defines_code p vs counts)
    defines_named [] counts = refl
    defines_named (v ∷ vs) [] = refl
    defines_named (v ∷ vs) (n ∷ counts) = both_named (defines_code p vs counts) _ (defines_named vs counts) (then_named (define_code p v n) [] (define_named v n) refl)
