-- The code of each typed tree. `R` is what code refers to functions by: a symbol in an object, and in an image the function's number.
use Rattle.std.specs.Prelude.{◌≡◌, ℕ, zero, suc, ◌+◌, ◌*◌, ◌<◌, Bool, true, false, List, [], ◌∷◌, ◌++◌, length, map, pos, Option, Some, None, slice_index, sum}
use Rattle.std.specs.List.{flat_map}
use Rattle.go_const.specs.declared.operator.ArithmeticOperator.TheVariants.{Add}
use Rattle.go_const.specs.declared.operator.ComparisonOperator.TheVariants.{Equal as Is_equal, Less}
use Rattle.go_types.specs.Types.{Type', basic, array, slice, struct, named, Fields, no_fields, field}
use Rattle.go_types.specs.Relations.{underlying}
use Rattle.go_types.specs.Sizes.{cells}
use Rattle.go_code.specs.declared.cell.Cell.TheVariants.{Int, Bool as Truth, Slice}
use Rattle.go_code.specs.declared.instr.Instr.{Instr}
use Rattle.go_code.specs.declared.instr.Instr.TheVariants.{Frame as In_frame, Local as On_cells, Global as On_globals, Part as On_part, Row as On_rows, Operate, Jump as Go_to, Output as To_output, Calls as By_call}
use Rattle.go_code.specs.declared.instr.FrameInstr.TheVariants.{Push, Pop, Repeat}
use Rattle.go_code.specs.declared.instr.AccessInstr.TheVariants.{Load, Store, LoadAt, StoreAt}
use Rattle.go_code.specs.declared.instr.PartInstr.TheVariants.{Move, Index, Reach, Pick, Part}
use Rattle.go_code.specs.declared.instr.RowInstr.TheVariants.{Make, Get, GetAt, SetAt, Append}
use Rattle.go_code.specs.declared.instr.JumpInstr.TheVariants.{Jump, JumpIf, JumpIfNot, LoopIf}
use Rattle.go_code.specs.declared.instr.OutputInstr.TheVariants.{Print, Panic}
use Rattle.go_code.specs.declared.instr.CallInstr.TheVariants.{Call, Return}
use Rattle.go_code.specs.declared.operator.Operator.TheVariants.{Compare, Text as On_text}
use Rattle.go_code.specs.declared.operator.Operator as operators
use Rattle.go_code.specs.declared.operator.TextOperator.TheVariants.{At}
use Rattle.go_code.specs.Functions.{FunctionCode, Setup}
use Rattle.go_code.specs.Packages.{PackageVariable, PackageFunction, Object}
use Rattle.go_typed.specs.declared.expression.Operator.TheVariants.{Arithmetic as arithmetic, Comparison as comparison}
use Rattle.go_typed.specs.Trees as trees
use Rattle.go_typed.specs.Trees.{Symbol, Expr, Exprs, no_exprs, some_exprs, Perhaps, absent, present, Parts, no_parts, part, Steps, here, to_field, to_element, Left, blank, of_local, of_global, of_slice, ValueSource, each, results, zeros, Initialization, Stmt, Stmts, no_stmts, some_stmts, Clauses, no_clauses, clause, expr_type, Package}
use Rattle.go_init.specs.Variables.{variable_order}
use Rattle.go_meaning.specs.Values.{flat, zero_cell, zero_of}
use Rattle.go_meaning.specs.Choices.{cell_of, unary_operators, binary_operators, conversion_operators, length_operators, cut_operators, capacity_operators, field_type, element_type}

-- Where local variables lie, by the number of their first cell, and what code refers to package variables and functions by.
pub record Places (R : Type 0) : Type 0 where
  pub locals : ℕ → ℕ
  pub globals : Symbol → R
  pub functions : Symbol → R

-- how many cells values of these types have
abbrev pub total : List Type' → ℕ
total [] = 0
total (t ∷ ts) = cells t + total ts

-- the number of the first cell of each variable, where the variables of these types lie side by side
abbrev pub slots : ℕ → List Type' → List ℕ
slots at [] = []
slots at (t ∷ ts) = at ∷ slots (at + cells t) ts

-- ---- parts

abbrev pub field_offset : Fields → ℕ → ℕ
field_offset no_fields n = 0
field_offset (field p x t fs) zero = 0
field_offset (field p x t fs) (suc n) = cells t + field_offset fs n

-- how many cells of an array or a struct lie before the part of that number
abbrev pub offset : Type' → ℕ → ℕ
offset (struct fs) n = field_offset fs n
offset (array m t) n = n * cells t
offset s n = 0

-- how many cells lie before each of the first parts, as many as the list has numbers
abbrev pub AreOffsets : Type' → List ℕ → Type 0
AreOffsets s offsets = (n : ℕ) → n < length offsets → slice_index offsets n ≡ offset s n

-- ---- how many cells the temporaries take; each has its own

abbrev mutual
  pub expr_temps : Expr → ℕ
  expr_temps (trees.constant t c) = 0
  expr_temps (trees.local t n) = 0
  expr_temps (trees.global t s) = 0
  expr_temps (trees.field t e n) = expr_temps e
  expr_temps (trees.index t e i) = expr_temps e + expr_temps i
  expr_temps (trees.length t e) = expr_temps e
  expr_temps (trees.capacity t e) = expr_temps e
  expr_temps (trees.cut t e low high) = expr_temps e + 1 + expr_temps low + perhaps_temps high
  expr_temps (trees.make t e o) = expr_temps e + 1 + perhaps_temps o
  expr_temps (trees.append t o es) = perhaps_temps o + exprs_temps es
  expr_temps (trees.unary t op e) = expr_temps e
  expr_temps (trees.binary t op a b) = expr_temps a + expr_temps b
  expr_temps (trees.both t a b) = expr_temps a + expr_temps b
  expr_temps (trees.either t a b) = expr_temps a + expr_temps b
  expr_temps (trees.conversion t e) = expr_temps e
  expr_temps (trees.literal t ps) = cells t + parts_temps ps
  expr_temps (trees.call t s es) = exprs_temps es

  pub perhaps_temps : Perhaps → ℕ
  perhaps_temps absent = 0
  perhaps_temps (present e) = expr_temps e

  pub exprs_temps : Exprs → ℕ
  exprs_temps no_exprs = 0
  exprs_temps (some_exprs e es) = expr_temps e + exprs_temps es

  pub parts_temps : Parts → ℕ
  parts_temps no_parts = 0
  parts_temps (part n e ps) = expr_temps e + parts_temps ps

-- ---- expressions; k is the number of the first cell for temporaries

-- https://go.dev/ref/spec#The_zero_value
abbrev mutual
  pub zero_code : {R : Type 0} → Type' → List (Instr R)
  zero_code {R} (basic b) = In_frame (Push (zero_cell b)) ∷ []
  zero_code {R} (array n t) = zero_code t ++ In_frame (Repeat (cells t) n) ∷ []
  zero_code {R} (slice t) = In_frame (Push (Slice 0 0 0 0)) ∷ []
  zero_code {R} (struct fs) = zeros_code fs
  zero_code {R} (named path name t) = zero_code t

  pub zeros_code : {R : Type 0} → Fields → List (Instr R)
  zeros_code {R} no_fields = []
  zeros_code {R} (field p x t fs) = zero_code t ++ zeros_code fs

abbrev pub operators_code : {R : Type 0} → List operators.Operator → List (Instr R)
operators_code {R} ops = map Operate ops

-- how many cells an element has
abbrev pub element_cells : Type' → ℕ
element_cells (array n t) = cells t
element_cells (slice t) = cells t
element_cells s = 0

-- an element of an array or a slice; else a byte of a string
abbrev pub index_code : {R : Type 0} → Type' → List (Instr R)
index_code {R} (array n t) = On_part (Pick n (cells t)) ∷ []
index_code {R} (slice t) = On_rows (Get (cells t)) ∷ []
index_code {R} s = Operate (On_text At) ∷ []

abbrev pub load : {R : Type 0} → ℕ → ℕ → Instr R
load {R} first count = On_cells (Load first count)

abbrev pub store : {R : Type 0} → ℕ → ℕ → Instr R
store {R} first count = On_cells (Store first count)

-- the type of a field or an element; any where there is no such part
abbrev pub or_type : Type' → Option Type' → Type'
or_type s None = s
or_type s (Some t) = t

abbrev pub exprs_count : Exprs → ℕ
exprs_count no_exprs = 0
exprs_count (some_exprs e es) = suc (exprs_count es)

-- the right side is passed where the left side decides: `jump` passes it, and the answer is pushed
abbrev pub decided_code : {R : Type 0} → (ℕ → Instr R) → Bool → List (Instr R) → List (Instr R) → List (Instr R)
decided_code {R} jump answer a b = a ++ jump (length b + 1) ∷ b ++ Go_to (Jump 1) ∷ In_frame (Push (Truth answer)) ∷ []

abbrev mutual
  pub expr_code : {R : Type 0} → Places R → ℕ → Expr → List (Instr R)
  expr_code {R} p k (trees.constant t c) = In_frame (Push (cell_of c)) ∷ []
  expr_code {R} p k (trees.local t n) = load (p.locals n) (cells t) ∷ []
  expr_code {R} p k (trees.global t s) = On_globals (Load (p.globals s) (cells t)) ∷ []
  expr_code {R} p k (trees.field t e n) =
      expr_code p k e ++ On_part (Part (cells (expr_type e)) (offset (underlying (expr_type e)) n) (cells t)) ∷ []
  expr_code {R} p k (trees.index t e i) = expr_code p k e ++ expr_code p (k + expr_temps e) i ++ index_code (underlying (expr_type e))
  expr_code {R} p k (trees.length t e) = expr_code p k e ++ operators_code (length_operators (underlying (expr_type e)))
  expr_code {R} p k (trees.capacity t e) = expr_code p k e ++ operators_code capacity_operators
  -- the operand lies in a temporary, for its length
  expr_code {R} p k (trees.cut t e low high) =
      let s : Type' = underlying (expr_type e) in
      let at : ℕ = k + expr_temps e in
      expr_code p k e ++ store at 1 ∷ load at 1 ∷ expr_code p (at + 1) low
      ++ perhaps_code p (at + 1 + expr_temps low) (load at 1 ∷ operators_code (length_operators s)) high ++ operators_code (cut_operators s)
  -- so does the length, for the capacity
  expr_code {R} p k (trees.make t e o) =
      let at : ℕ = k + expr_temps e in
      zero_code (or_type t (element_type (underlying t))) ++ expr_code p k e ++ store at 1 ∷ load at 1 ∷ perhaps_code p (at + 1) (load at 1 ∷ []) o
      ++ On_rows (Make (element_cells (underlying t))) ∷ []
  expr_code {R} p k (trees.append t o es) =
      perhaps_code p k (zero_code t) o ++ exprs_code p (k + perhaps_temps o) es ++ On_rows (Append (element_cells (underlying t)) (exprs_count es)) ∷ []
  expr_code {R} p k (trees.unary t op e) = expr_code p k e ++ operators_code (unary_operators (underlying t) op)
  expr_code {R} p k (trees.binary t op a b) =
      expr_code p k a ++ expr_code p (k + expr_temps a) b ++ operators_code (binary_operators (underlying (expr_type a)) op)
  expr_code {R} p k (trees.both t a b) = decided_code (λ n. Go_to (JumpIfNot n)) false (expr_code p k a) (expr_code p (k + expr_temps a) b)
  expr_code {R} p k (trees.either t a b) = decided_code (λ n. Go_to (JumpIf n)) true (expr_code p k a) (expr_code p (k + expr_temps a) b)
  expr_code {R} p k (trees.conversion t e) = expr_code p k e ++ operators_code (conversion_operators (underlying t))
  expr_code {R} p k (trees.literal t ps) =
      zero_code t ++ store k (cells t) ∷ parts_code p (underlying t) k (k + cells t) ps ++ load k (cells t) ∷ []
  expr_code {R} p k (trees.call t s es) = exprs_code p k es ++ By_call (Call (p.functions s)) ∷ []

  -- other code where it is left out
  pub perhaps_code : {R : Type 0} → Places R → ℕ → List (Instr R) → Perhaps → List (Instr R)
  perhaps_code {R} p k other absent = other
  perhaps_code {R} p k other (present e) = expr_code p k e

  pub exprs_code : {R : Type 0} → Places R → ℕ → Exprs → List (Instr R)
  exprs_code {R} p k no_exprs = []
  exprs_code {R} p k (some_exprs e es) = expr_code p k e ++ exprs_code p (k + expr_temps e) es

  -- each part into its cells, of those from `at` on
  pub parts_code : {R : Type 0} → Places R → Type' → ℕ → ℕ → Parts → List (Instr R)
  parts_code {R} p s at k no_parts = []
  parts_code {R} p s at k (part n e ps) =
      expr_code p k e ++ store (at + offset s n) (cells (expr_type e)) ∷ parts_code p s at (k + expr_temps e) ps

-- ---- values that are due

-- how many cells each of them has
abbrev pub expr_counts : Exprs → List ℕ
expr_counts no_exprs = []
expr_counts (some_exprs e es) = cells (expr_type e) ∷ expr_counts es

abbrev pub source_counts : ValueSource → List ℕ
source_counts (each es) = expr_counts es
source_counts (results ts s es) = map cells ts
source_counts (zeros ts) = map cells ts

abbrev pub source_temps : ValueSource → ℕ
source_temps (each es) = exprs_temps es
source_temps (results ts s es) = exprs_temps es
source_temps (zeros ts) = 0

abbrev pub source_code : {R : Type 0} → Places R → ℕ → ValueSource → List (Instr R)
source_code {R} p k (each es) = exprs_code p k es
source_code {R} p k (results ts s es) = exprs_code p k es ++ By_call (Call (p.functions s)) ∷ []
source_code {R} p k (zeros ts) = flat_map zero_code ts

-- ---- assignments

-- the temporaries of index operands, which have one cell each, stand behind those of the operands
abbrev pub steps_temps : Steps → ℕ
steps_temps here = 0
steps_temps (to_field n ss) = steps_temps ss
steps_temps (to_element e ss) = expr_temps e + 1 + steps_temps ss

-- the index operands into their temporaries
abbrev pub operands_code : {R : Type 0} → Places R → ℕ → Steps → List (Instr R)
operands_code {R} p k here = []
operands_code {R} p k (to_field n ss) = operands_code p k ss
operands_code {R} p k (to_element e ss) = expr_code p k e ++ store (k + expr_temps e) 1 ∷ operands_code p (k + expr_temps e + 1) ss

abbrev pub elements_count : Type' → ℕ
elements_count (array n t) = n
elements_count s = 0

-- from an offset to that of the part, outermost first
abbrev pub steps_code : {R : Type 0} → Type' → ℕ → Steps → List (Instr R)
steps_code {R} t k here = []
steps_code {R} t k (to_field n ss) =
    On_part (Move (offset (underlying t) n)) ∷ steps_code (or_type t (field_type (underlying t) n)) k ss
steps_code {R} t k (to_element e ss) =
    let u : Type' = or_type t (element_type (underlying t)) in
    load (k + expr_temps e) 1 ∷ On_part (Index (elements_count (underlying t)) (cells u)) ∷ steps_code u (k + expr_temps e + 1) ss

abbrev pub address_code : {R : Type 0} → Type' → ℕ → Steps → List (Instr R)
address_code {R} t k ss = In_frame (Push (Int (pos 0))) ∷ steps_code t k ss

-- from a slice, which lies in a temporary, to an offset in its row: that of the element, and from there on to the part
abbrev pub array_access_code : {R : Type 0} → Type' → ℕ → ℕ → Steps → List (Instr R)
array_access_code {R} t at k (to_element e ss) =
    load at 1 ∷ load (k + expr_temps e) 1 ∷ On_part (Reach (element_cells (underlying t))) ∷ steps_code (or_type t (element_type (underlying t))) (k + expr_temps e + 1) ss
array_access_code {R} t at k ss = []

abbrev pub left_temps : Left → ℕ
left_temps blank = 0
left_temps (of_local t n ss) = steps_temps ss
left_temps (of_global t s ss) = steps_temps ss
left_temps (of_slice t e ss) = expr_temps e + 1 + steps_temps ss

abbrev pub left_operands : {R : Type 0} → Places R → ℕ → Left → List (Instr R)
left_operands {R} p k blank = []
left_operands {R} p k (of_local t n ss) = operands_code p k ss
left_operands {R} p k (of_global t s ss) = operands_code p k ss
left_operands {R} p k (of_slice t e ss) = expr_code p k e ++ store (k + expr_temps e) 1 ∷ operands_code p (k + expr_temps e + 1) ss

-- so many cells of the part that a left side names
abbrev pub take_code : {R : Type 0} → Places R → ℕ → Left → ℕ → List (Instr R)
take_code {R} p k blank n = []
take_code {R} p k (of_local t v ss) n = address_code t k ss ++ On_cells (LoadAt (p.locals v) n) ∷ []
take_code {R} p k (of_global t s ss) n = address_code t k ss ++ On_globals (LoadAt (p.globals s) n) ∷ []
take_code {R} p k (of_slice t e ss) n = array_access_code t (k + expr_temps e) (k + expr_temps e + 1) ss ++ On_rows (GetAt n) ∷ []

-- so many cells, which lie in a temporary, into the part that a left side names
abbrev pub give_code : {R : Type 0} → Places R → ℕ → Left → ℕ → ℕ → List (Instr R)
give_code {R} p k blank temp n = []
give_code {R} p k (of_local t v ss) temp n = load temp n ∷ address_code t k ss ++ On_cells (StoreAt (p.locals v) n) ∷ []
give_code {R} p k (of_global t s ss) temp n = load temp n ∷ address_code t k ss ++ On_globals (StoreAt (p.globals s) n) ∷ []
give_code {R} p k (of_slice t e ss) temp n = load temp n ∷ array_access_code t (k + expr_temps e) (k + expr_temps e + 1) ss ++ On_rows (SetAt n) ∷ []

abbrev pub lefts_temps : List Left → ℕ
lefts_temps [] = 0
lefts_temps (l ∷ ls) = left_temps l + lefts_temps ls

abbrev pub lefts_operands : {R : Type 0} → Places R → ℕ → List Left → List (Instr R)
lefts_operands {R} p k [] = []
lefts_operands {R} p k (l ∷ ls) = left_operands p k l ++ lefts_operands p (k + left_temps l) ls

-- a blank left side drops its value; the temporaries of the values come from last to first
abbrev pub value_temps : Left → ℕ → ℕ
value_temps blank n = 0
value_temps (of_local t v ss) n = n
value_temps (of_global t s ss) n = n
value_temps (of_slice t e ss) n = n

abbrev pub values_temps : List Left → List ℕ → ℕ
values_temps [] counts = 0
values_temps (l ∷ ls) [] = 0
values_temps (l ∷ ls) (n ∷ counts) = values_temps ls counts + value_temps l n

abbrev pub keep_code : {R : Type 0} → Left → ℕ → ℕ → Instr R
keep_code {R} blank n temp = In_frame (Pop n)
keep_code {R} (of_local t v ss) n temp = store temp n
keep_code {R} (of_global t s ss) n temp = store temp n
keep_code {R} (of_slice t e ss) n temp = store temp n

-- values of so many cells, from the last to the first, into their temporaries
abbrev pub keeps_code : {R : Type 0} → List Left → List ℕ → ℕ → List (Instr R)
keeps_code {R} [] counts k = []
keeps_code {R} (l ∷ ls) [] k = []
keeps_code {R} (l ∷ ls) (n ∷ counts) k = keeps_code ls counts k ++ keep_code l n (k + values_temps ls counts) ∷ []

-- then into the left sides, from the first to the last
abbrev pub gives_code : {R : Type 0} → Places R → ℕ → List Left → List ℕ → ℕ → List (Instr R)
gives_code {R} p k [] counts temps = []
gives_code {R} p k (l ∷ ls) [] temps = []
gives_code {R} p k (l ∷ ls) (n ∷ counts) temps =
    give_code p k l (temps + values_temps ls counts) n ++ gives_code p (k + left_temps l) ls counts temps

-- new variables from the last to the first
abbrev pub define_code : {R : Type 0} → Places R → Option ℕ → ℕ → Instr R
define_code {R} p None n = In_frame (Pop n)
define_code {R} p (Some v) n = store (p.locals v) n

abbrev pub defines_code : {R : Type 0} → Places R → List (Option ℕ) → List ℕ → List (Instr R)
defines_code {R} p [] counts = []
defines_code {R} p (v ∷ vs) [] = []
defines_code {R} p (v ∷ vs) (n ∷ counts) = defines_code p vs counts ++ define_code p v n ∷ []

-- ---- statements

abbrev pub condition_temps : Option Expr → ℕ
condition_temps None = 0
condition_temps (Some e) = expr_temps e

abbrev pub condition_code : {R : Type 0} → Places R → ℕ → Option Expr → List (Instr R)
condition_code {R} p k None = In_frame (Push (Truth true)) ∷ []
condition_code {R} p k (Some e) = expr_code p k e

abbrev pub case_temps : Option Exprs → ℕ
case_temps None = 0
case_temps (Some es) = exprs_temps es

abbrev pub cases_temps : Clauses → ℕ
cases_temps no_clauses = 0
cases_temps (clause es body falls cs) = case_temps es + cases_temps cs

abbrev mutual
  pub stmt_temps : Stmt → ℕ
  stmt_temps (trees.define ns s) = source_temps s
  stmt_temps (trees.assign ls s) = lefts_temps ls + source_temps s + values_temps ls (source_counts s)
  stmt_temps (trees.update t l op e) = left_temps l + expr_temps e + cells t
  stmt_temps (trees.run ts s es) = exprs_temps es
  stmt_temps (trees.print es) = exprs_temps es
  stmt_temps (trees.panic e) = expr_temps e
  stmt_temps (trees.if_statement e a b) = expr_temps e + stmts_temps a + stmts_temps b
  stmt_temps (trees.for_statement o post body) = stmts_temps body + stmts_temps post + condition_temps o
  stmt_temps (trees.range_statement o t e body) = expr_temps e + 2 + stmts_temps body
  stmt_temps (trees.switch_statement e cs) = expr_temps e + cells (expr_type e) + cases_temps cs + bodies_temps cs
  stmt_temps (trees.block ss) = stmts_temps ss
  stmt_temps trees.break = 0
  stmt_temps trees.continue = 0
  stmt_temps (trees.return s) = source_temps s

  pub stmts_temps : Stmts → ℕ
  stmts_temps no_stmts = 0
  stmts_temps (some_stmts s ss) = stmt_temps s + stmts_temps ss

  pub bodies_temps : Clauses → ℕ
  bodies_temps no_clauses = 0
  bodies_temps (clause es body falls cs) = stmts_temps body + bodies_temps cs

-- https://go.dev/ref/spec#If_statements
abbrev pub if_code : {R : Type 0} → List (Instr R) → List (Instr R) → List (Instr R) → List (Instr R)
if_code {R} test a b = test ++ Go_to (JumpIfNot (length a + 1)) ∷ a ++ Go_to (Jump (length b)) ∷ b

-- https://go.dev/ref/spec#For_statements: a jump to the test, the body, what is done behind each turn, the test, and a jump back to the body
abbrev pub loop_code : {R : Type 0} → List (Instr R) → List (Instr R) → List (Instr R) → List (Instr R)
loop_code {R} body post test =
    Go_to (Jump (length body + length post)) ∷ body ++ post ++ test ++ Go_to (LoopIf (length body + length post + length test + 1)) ∷ []

-- https://go.dev/ref/spec#For_range: the range lies in the cell `at`, and how far it is gone in the next one
abbrev pub begin_code : {R : Type 0} → ℕ → List (Instr R)
begin_code {R} at = store at 1 ∷ In_frame (Push (Int (pos 0))) ∷ store (at + 1) 1 ∷ []

abbrev pub counted_code : {R : Type 0} → Places R → ℕ → Option ℕ → List (Instr R)
counted_code {R} p at None = []
counted_code {R} p at (Some n) = load (at + 1) 1 ∷ store (p.locals n) 1 ∷ []

abbrev pub count_code : {R : Type 0} → ℕ → Type' → List (Instr R)
count_code {R} at t =
    load (at + 1) 1 ∷ In_frame (Push (Int (pos 1))) ∷ operators_code (binary_operators (underlying t) (arithmetic Add)) ++ store (at + 1) 1 ∷ []

abbrev pub within_code : {R : Type 0} → ℕ → List (Instr R)
within_code {R} at = load (at + 1) 1 ∷ load at 1 ∷ Operate (Compare Less) ∷ []

-- https://go.dev/ref/spec#Switch_statements: a case that is equal to the tag, which lies from `at` on, jumps to its clause, `far` behind the cases
abbrev pub cases_code : {R : Type 0} → Places R → ℕ → Type' → ℕ → Exprs → ℕ → List (Instr R)
cases_code {R} p at t k no_exprs far = []
cases_code {R} p at t k (some_exprs e es) far =
    let rest : List (Instr R) = cases_code p at t (k + expr_temps e) es far in
    load at (cells t) ∷ expr_code p k e ++ operators_code (binary_operators (underlying t) (comparison Is_equal))
    ++ Go_to (JumpIf (length rest + far)) ∷ rest

-- codes side by side
abbrev pub concat_code : {R : Type 0} → List (List (Instr R)) → List (Instr R)
concat_code {R} [] = []
concat_code {R} (x ∷ xs) = x ++ concat_code xs

abbrev pub case_code : {R : Type 0} → Places R → ℕ → Type' → ℕ → Option Exprs → ℕ → List (Instr R)
case_code {R} p at t k None far = []
case_code {R} p at t k (Some es) far = cases_code p at t k es far

-- the cases of all clauses, whose codes have these sizes and stand behind them, so many instructions before the first of these
abbrev pub tests_code : {R : Type 0} → Places R → ℕ → Type' → ℕ → Clauses → List ℕ → ℕ → List (Instr R)
tests_code {R} p at t k no_clauses sizes before = []
tests_code {R} p at t k (clause es body falls cs) [] before = []
tests_code {R} p at t k (clause es body falls cs) (n ∷ sizes) before =
    let rest : List (Instr R) = tests_code p at t (k + case_temps es) cs sizes (before + n) in
    case_code p at t k es (length rest + 1 + before) ++ rest

-- where the last default stands among the clauses, or else the other place
abbrev pub default_place : Clauses → List ℕ → ℕ → ℕ → ℕ
default_place no_clauses sizes before other = other
default_place (clause es body falls cs) [] before other = other
default_place (clause None body falls cs) (n ∷ sizes) before other = default_place cs sizes (before + n) before
default_place (clause (Some es) body falls cs) (n ∷ sizes) before other = default_place cs sizes (before + n) other

-- a jump over so many instructions, unless a clause falls through
abbrev pub leave_code : {R : Type 0} → Bool → ℕ → List (Instr R)
leave_code {R} true n = []
leave_code {R} false n = Go_to (Jump n) ∷ []

-- a statement's code, where the end of the loop or switch round it is b instructions behind it, and the next turn c
abbrev mutual
  pub stmt_code : {R : Type 0} → Places R → ℕ → Stmt → ℕ → ℕ → List (Instr R)
  stmt_code {R} p k (trees.define ns s) b c = source_code p k s ++ defines_code p ns (source_counts s)
  stmt_code {R} p k (trees.assign ls s) b c =
      let values : ℕ = k + lefts_temps ls in
      let temps : ℕ = values + source_temps s in
      lefts_operands p k ls ++ source_code p values s ++ keeps_code ls (source_counts s) temps ++ gives_code p k ls (source_counts s) temps
  stmt_code {R} p k (trees.update t l op e) b c =
      let value : ℕ = k + left_temps l in
      let temp : ℕ = value + expr_temps e in
      left_operands p k l ++ take_code p k l (cells t) ++ expr_code p value e ++ operators_code (binary_operators (underlying t) op)
      ++ keep_code l (cells t) temp ∷ give_code p k l temp (cells t)
  stmt_code {R} p k (trees.run ts s es) b c = source_code p k (results ts s es) ++ In_frame (Pop (sum (map cells ts))) ∷ []
  stmt_code {R} p k (trees.print es) b c = exprs_code p k es ++ To_output (Print (sum (expr_counts es))) ∷ []
  stmt_code {R} p k (trees.panic e) b c = expr_code p k e ++ To_output Panic ∷ []
  stmt_code {R} p k (trees.if_statement e one two) b c =
      let first : ℕ = k + expr_temps e in
      let other : List (Instr R) = stmts_code p (first + stmts_temps one) two b c in
      if_code (expr_code p k e) (stmts_code p first one (length other + 1 + b) (length other + 1 + c)) other
  stmt_code {R} p k (trees.for_statement o post body) b c =
      let behind : ℕ = k + stmts_temps body in
      let test : List (Instr R) = condition_code p (behind + stmts_temps post) o in
      let next : List (Instr R) = stmts_code p behind post (length test + 1 + b) (length test + 1 + c) in
      loop_code (stmts_code p k body (length next + length test + 1) 0) next test
  stmt_code {R} p k (trees.range_statement o t e body) b c =
      let at : ℕ = k + expr_temps e in
      let next : List (Instr R) = count_code at t in
      let test : List (Instr R) = within_code at in
      expr_code p k e ++ begin_code at ++ loop_code (counted_code p at o ++ stmts_code p (at + 2) body (length next + length test + 1) 0) next test
  stmt_code {R} p k (trees.switch_statement e cs) b c =
      let at : ℕ = k + expr_temps e in
      let first : ℕ = at + cells (expr_type e) in
      let bodies : ℕ = first + cases_temps cs in
      let codes : List (List (Instr R)) = bodies_code p bodies cs c in
      expr_code p k e ++ store at (cells (expr_type e)) ∷ tests_code p at (expr_type e) first cs (map length codes) 0
      ++ Go_to (Jump (default_place cs (map length codes) 0 (length (concat_code codes)))) ∷ concat_code codes
  stmt_code {R} p k (trees.block ss) b c = stmts_code p k ss b c
  stmt_code {R} p k trees.break b c = Go_to (Jump b) ∷ []
  stmt_code {R} p k trees.continue b c = Go_to (Jump c) ∷ []
  stmt_code {R} p k (trees.return s) b c = source_code p k s ++ By_call (Return (sum (source_counts s))) ∷ []

  pub stmts_code : {R : Type 0} → Places R → ℕ → Stmts → ℕ → ℕ → List (Instr R)
  stmts_code {R} p k no_stmts b c = []
  stmts_code {R} p k (some_stmts s ss) b c =
      let rest : List (Instr R) = stmts_code p (k + stmt_temps s) ss b c in
      stmt_code p k s (length rest + b) (length rest + c) ++ rest

  -- clauses in order, each with a jump to the end unless it falls through
  pub bodies_code : {R : Type 0} → Places R → ℕ → Clauses → ℕ → List (List (Instr R))
  bodies_code {R} p k no_clauses c = []
  bodies_code {R} p k (clause es body falls cs) c =
      let rest : List (List (Instr R)) = bodies_code p (k + stmts_temps body) cs c in
      let leave : List (Instr R) = leave_code falls (length (concat_code rest)) in
      (stmts_code p k body (length leave + length (concat_code rest)) (length leave + length (concat_code rest) + c) ++ leave) ∷ rest

-- ---- functions and packages

-- a function's body, whose end returns nothing
abbrev pub body_code : {R : Type 0} → Places R → ℕ → Stmts → List (Instr R)
body_code {R} p k body = stmts_code p k body 0 0 ++ By_call (Return 0) ∷ []

-- the parameters come first, then the other local variables by their numbers, then the temporaries
abbrev pub local_types : trees.Function → List Type'
local_types f = f.parameters ++ f.locals

-- a function of a package, where variables and functions are known by these
abbrev pub translated : {R : Type 0} → (Symbol → R) → (Symbol → R) → trees.Function → FunctionCode R
translated {R} globals functions f =
    let size : ℕ = total (local_types f) in
    let p : Places R = record { locals = slice_index (slots 0 (local_types f)); globals = globals; functions = functions } in
    record { parameters = total f.parameters; cells = size + stmts_temps f.body; code = body_code p size f.body }

-- https://go.dev/ref/spec#Package_initialization
-- a value into the variable's cells; one for a blank variable is dropped
abbrev pub set_code : {R : Type 0} → Places R → List ℕ → Option (List ℕ) → ℕ → Instr R
set_code {R} p path None n = In_frame (Pop n)
set_code {R} p path (Some x) n = On_globals (Store (p.globals (record { path = path; name = x })) n)

-- the values of so many cells, from the last to the first, for variables of the package at a path
abbrev pub sets_code : {R : Type 0} → Places R → List ℕ → List (Option (List ℕ)) → List ℕ → List (Instr R)
sets_code {R} p path [] counts = []
sets_code {R} p path (o ∷ os) [] = []
sets_code {R} p path (o ∷ os) (n ∷ counts) = sets_code p path os counts ++ set_code p path o n ∷ []

-- variables of the package at a path get their values
abbrev pub setup_code : {R : Type 0} → Places R → List ℕ → ValueSource → List (Option (List ℕ)) → List (Instr R)
setup_code {R} p path s os = source_code p 0 s ++ (sets_code p path os (source_counts s) ++ By_call (Return 0) ∷ [])

abbrev pub no_locals : {R : Type 0} → (Symbol → R) → (Symbol → R) → Places R
no_locals {R} globals functions = record { locals = slice_index []; globals = globals; functions = functions }

abbrev pub translated_setup : {R : Type 0} → (Symbol → R) → (Symbol → R) → List ℕ → Initialization → Setup R
translated_setup {R} globals functions path i =
    record { cells = source_temps i.source; code = setup_code (no_locals globals functions) path i.source i.variables }

-- code names variables and functions by their symbols
abbrev pub symbol_code : Symbol → Symbol
symbol_code s = s

abbrev pub translated_function : trees.Function → PackageFunction
translated_function f = record { name = f.name; function = translated symbol_code symbol_code f }

-- a variable of a package, with its zero value's cells
abbrev pub translated_variable : trees.Variable → PackageVariable
translated_variable v = record { name = v.name; zero = flat (zero_of v.of) }

-- a package: its variables and its functions in declaration order, and the setups of these initializations
abbrev pub object_in : List Initialization → Package → Object
object_in order typed = record {
  path = typed.path;
  name = typed.name;
  edition = typed.edition;
  variables = map translated_variable typed.variables;
  functions = map translated_function typed.functions;
  setups = map (translated_setup symbol_code symbol_code typed.path) order;
}

-- a package whose variables are initialized in their order
abbrev pub object_of : Package → Object
object_of typed = object_in (variable_order typed).0 typed
