-- What expressions, statements and calls come to.
use Rattle.std.specs.Prelude.{ℕ, zero, suc, ◌+◌, nat_lt, nat_le, nat_eq, Bool, true, false, ◌-◌, ◌&&◌, List, [], ◌∷◌, ◌++◌, length, map, take, drop, replicate, slice_get, slice_set, pos, negsuc, Option, Some, None, if◌then◌else◌}
use Rattle.std.specs.List.{find, flat_map, list_all}
use Rattle.std.specs.Option.{option_map, option_and_then}
use Rattle.go_types.specs.Types.{Type', array, slice}
use Rattle.go_types.specs.Relations.{underlying}
use Rattle.go_types.specs.Sizes.{cells}
use Rattle.go_const.specs.declared.operator.ComparisonOperator.TheVariants.{Equal}
use Rattle.go_code.specs.declared.cell.Cell.TheVariants.{Int, Bool as Truth, Text, Slice}
use Rattle.go_code.specs.declared.ending.Ending.{Ending}
use Rattle.go_code.specs.declared.ending.Ending.TheVariants.{Cut, Panicked}
use Rattle.go_code.specs.declared.ending.PanicKind.TheVariants.{User}
use Rattle.go_code.specs.declared.operator.Operator.TheVariants.{Text as On_text}
use Rattle.go_code.specs.declared.operator.TextOperator.TheVariants.{At}
use Rattle.go_code.specs.Lines.{line_text}
use Rattle.go_code.specs.Operators as operators
use Rattle.go_code.specs.Operators.{Operated}
use Rattle.go_code.specs.Rows.{row_of, has_room, make_sizes, grown}
use Rattle.go_typed.specs.declared.expression.Operator.TheVariants.{Comparison as comparison}
use Rattle.go_symbol.specs.Symbols.{same_symbol}
use Rattle.go_typed.specs.Trees.{Symbol, Expr, constant, local, global, field, index, length as length_of, capacity, cut, make, append, Perhaps, absent, present, unary, binary, both, either, conversion, literal, call, Exprs, no_exprs, some_exprs, Parts, no_parts, part, Steps, here, to_field as then_field, to_element as then_element, Left, blank, of_local, of_global, of_slice, ValueSource, each, results, zeros, Stmt, define, assign, update, run, print, panic, if_statement, for_statement, range_statement, switch_statement, block, break, continue, return, Stmts, no_stmts, some_stmts, Clauses, no_clauses, clause, expr_type}
use Rattle.go_meaning.specs.Values.{Value, single, parts, pack_values, unpack, flat, is_of, are_of, zero_of, Step, to_field, to_element, part_of, read, updated, or_else}
use Rattle.go_meaning.specs.Choices.{cell_of, unary_operators, binary_operators, conversion_operators, length_operators, cut_operators, capacity_operators, operated, field_type, element_type}

-- ---- outcomes

-- a package variable, and the value that it holds
pub record Stored : Type 0 where
  pub symbol : Symbol
  pub of : Type'
  pub value : Value

-- what outlives calls: the ticks that are left, the package variables, the arrays that slices are parts of, by number, and the output so far
pub record ProgramState : Type 0 where
  pub ticks : ℕ
  pub variables : List Stored
  pub arrays : List (List Value)
  pub output : List ℕ

-- what something comes to: it gives an answer, or the whole program ends there, or a rule of the language is broken, of which nothing is said
pub data Outcome (A : Type 0) : Type 0 where
  Gives : (answer : A) (world : ProgramState) → Outcome A
  Ends : (ending : Ending) (output : List ℕ) → Outcome A
  Stuck : Outcome A

-- a local variable: its type and its value; one that isn't declared yet has none
pub record Local : Type 0 where
  pub of : Type'
  pub value : Option Value

abbrev pub Locals : Type 0
Locals = List Local

-- How a statement leaves off: for the next one, for the end or the next turn of a loop, each with the local variables, or for the
-- caller with the function's results.
pub data Flow : Type 0 where
  Normal : (locals : Locals) → Flow
  Breaks : (locals : Locals) → Flow
  Continues : (locals : Locals) → Flow
  Returns : (results : List Value) → Flow

-- one thing and then, where that gives an answer, another
abbrev pub and_then : {A B : Type 0} → Outcome A → (A → ProgramState → Outcome B) → Outcome B
and_then (Gives a w) next = next a w
and_then (Ends ending output) next = Ends ending output
and_then Stuck next = Stuck

-- takes a tick; none left: the program is cut
abbrev pub with_tick : {A : Type 0} → ProgramState → (ProgramState → Outcome A) → Outcome A
with_tick {A} w next = elim w.ticks [ zero ↦ Ends Cut w.output | suc left ↦ next (record w { ticks = left }) ]

-- what a call of a function comes to, by its symbol and its arguments
abbrev pub Calls : Type 0
Calls = Symbol → List Value → ProgramState → Outcome (List Value)

-- what is known; nothing is said where it isn't
abbrev pub if_known : {A : Type 0} → Option A → ProgramState → Outcome A
if_known None w = Stuck
if_known (Some a) w = Gives a w

-- a value of that type, or a panic
abbrev pub typed_or_panic : Type' → Operated Value → ProgramState → Outcome Value
typed_or_panic t (operators.Gives v) w = if is_of t v then Gives v w else Stuck
typed_or_panic t (operators.Panics kind) w = Ends (Panicked kind) w.output
typed_or_panic t operators.Senseless w = Stuck

-- values of these types
abbrev pub all_given : List Type' → List Value → ProgramState → Outcome (List Value)
all_given ts vs w = if are_of ts vs then Gives vs w else Stuck

abbrev pub one_value : List Value → ProgramState → Outcome Value
one_value (v ∷ []) w = Gives v w
one_value vs w = Stuck

-- the one or the other, by a truth value
abbrev pub if_true : {A : Type 0} → Value → Outcome A → Outcome A → Outcome A
if_true (single (Truth true)) a b = a
if_true (single (Truth false)) a b = b
if_true v a b = Stuck

-- what is given, or a panic
abbrev pub or_panic : {A : Type 0} → Operated A → ProgramState → Outcome A
or_panic {A} (operators.Gives v) w = Gives v w
or_panic {A} (operators.Panics kind) w = Ends (Panicked kind) w.output
or_panic {A} operators.Senseless w = Stuck

abbrev pub with_type : {A : Type 0} → Option Type' → (Type' → Outcome A) → Outcome A
with_type None next = Stuck
with_type (Some t) next = next t

-- what is done behind a value of one cell
abbrev pub with_cell : {A : Type 0} → Value → Outcome A → Outcome A
with_cell (single c) next = next
with_cell (parts vs) next = Stuck

-- ---- slices: https://go.dev/ref/spec#Slice_types

-- the array of elements of that type that a slice is a part of, by its number, start, length and capacity
abbrev pub array_of : Type' → ℕ → ℕ → ℕ → ℕ → ProgramState → Outcome (List Value)
array_of t row start n c w =
    let all : List Value = row_of w.arrays row in
    if list_all (is_of t) all && (nat_le n c && (nat_le (start + c) (length all) && has_room (cells t) (length all))) then Gives all w else Stuck

-- the elements of a slice, as parts of a value
abbrev pub elements_of_slice : Type' → Value → ProgramState → Outcome Value
elements_of_slice t (single (Slice row start n c)) w = and_then (array_of t row start n c w) (λ all. Gives (parts (pack_values (take n (drop start all)))))
elements_of_slice t v w = Stuck

-- the array with other elements from a place on
abbrev pub overwritten : List Value → ℕ → List Value → List Value
overwritten all place vs = take place all ++ vs ++ drop (place + length vs) all

abbrev pub with_array : ProgramState → ℕ → List Value → ProgramState
with_array w row all = record w { arrays = slice_set w.arrays row all }

-- the slice gets other elements
abbrev pub with_elements : Type' → Value → List Value → ProgramState → Outcome ProgramState
with_elements t (single (Slice row start n c)) vs w =
    if list_all (is_of t) vs && nat_eq (length vs) n then Gives (with_array w row (overwritten (row_of w.arrays row) start vs)) w else Stuck
with_elements t v vs w = Stuck

-- a slice of so many elements and a capacity, of a whole new array
abbrev pub new_array : List Value → ℕ → ℕ → ProgramState → Outcome Value
new_array all n c w = Gives (single (Slice (length w.arrays) 0 n c)) (record w { arrays = w.arrays ++ all ∷ [] })

-- https://go.dev/ref/spec#Making_slices_maps_and_channels
abbrev pub made : Type' → Value → Value → ProgramState → Outcome Value
made t (single n) (single c) w = and_then (or_panic (make_sizes (cells t) n c) w) (λ sizes. new_array (replicate sizes.1 (zero_of t)) sizes.0 sizes.1)
made t n c w = Stuck

-- https://go.dev/ref/spec#Appending_and_copying_slices
-- in place where there is room, else in a new array; what is behind the elements there is zero
abbrev pub appended : Type' → Value → List Value → ProgramState → Outcome Value
appended t (single (Slice row start n c)) vs w =
    if list_all (is_of t) vs then and_then (array_of t row start n c w) (λ all w1.
    let count : ℕ = n + length vs in
    if nat_le count c then Gives (single (Slice row start count c)) (with_array w1 row (overwritten all (start + n) vs))
    else and_then (or_panic (grown (cells t) count c) w1) (λ room. new_array (take n (drop start all) ++ vs ++ replicate (room - count) (zero_of t)) count room))
    else Stuck
appended t v vs w = Stuck

-- ---- variables

abbrev pub local_value : Locals → ℕ → Operated Value
local_value locals n = or_else operators.Senseless (option_and_then (λ l. l.value) (slice_get locals n))

abbrev pub global_value : List Stored → Symbol → Operated Value
global_value variables s = or_else operators.Senseless (option_map (λ v. v.value) (find (λ v. same_symbol s v.symbol) variables))

-- a local variable gets a value of its type
abbrev pub with_local : Locals → ℕ → Value → Option Locals
with_local locals n v =
    option_and_then (λ l. if is_of l.of v then Some (slice_set locals n (record { of = l.of; value = Some v })) else None) (slice_get locals n)

-- so does a package variable
abbrev pub with_global : List Stored → Symbol → Value → Option (List Stored)
with_global [] s v = None
with_global (x ∷ xs) s v =
    if same_symbol s x.symbol then (if is_of x.of v then Some (record x { value = v } ∷ xs) else None)
    else option_map (λ ys. x ∷ ys) (with_global xs s v)

-- ---- expressions

-- https://go.dev/ref/spec#Selectors, Index_expressions
abbrev pub selected : Type' → Value → ℕ → Operated Value
selected s v n = elim (field_type s n) [ None ↦ operators.Senseless | Some t ↦ part_of v (to_field n) ]

-- of an array, or of the elements of a slice; else of a string
abbrev pub indexed : Type' → Value → Value → Operated Value
indexed (array n t) v (single (Int z)) = part_of v (to_element z)
indexed (array n t) v j = operators.Senseless
indexed (slice t) v (single (Int z)) = part_of v (to_element z)
indexed (slice t) v j = operators.Senseless
indexed s v j = operated (On_text At ∷ []) (v ∷ j ∷ [])

-- the elements of a slice are read behind the index
abbrev pub found : Type' → Type' → Value → Value → ProgramState → Outcome Value
found t (slice u) v j w = and_then (elements_of_slice u v w) (λ whole. typed_or_panic t (indexed (slice u) whole j))
found t s v j w = typed_or_panic t (indexed s v j) w

-- https://go.dev/ref/spec#Order_of_evaluation: from left to right
abbrev mutual
  pub eval : Calls → Expr → Locals → ProgramState → Outcome Value
  eval calls (constant t c) ls w = typed_or_panic t (operators.Gives (single (cell_of c))) w
  eval calls (local t n) ls w = typed_or_panic t (local_value ls n) w
  eval calls (global t s) ls w = typed_or_panic t (global_value w.variables s) w
  eval calls (field t e n) ls w = and_then (eval calls e ls w) (λ v. typed_or_panic t (selected (underlying (expr_type e)) v n))
  eval calls (index t e i) ls w =
      and_then (eval calls e ls w) (λ v w1. and_then (eval calls i ls w1) (λ j. found t (underlying (expr_type e)) v j))
  eval calls (length_of t e) ls w = and_then (eval calls e ls w) (λ v. typed_or_panic t (operated (length_operators (underlying (expr_type e))) (v ∷ [])))
  eval calls (capacity t e) ls w = and_then (eval calls e ls w) (λ v. typed_or_panic t (operated capacity_operators (v ∷ [])))
  -- https://go.dev/ref/spec#Slice_expressions
  eval calls (cut t e low high) ls w =
      let s : Type' = underlying (expr_type e) in
      and_then (eval calls e ls w) (λ v w1. with_cell v (and_then (eval calls low ls w1) (λ i w2.
      and_then (eval_perhaps calls (operated (length_operators s) (v ∷ [])) high ls w2) (λ j. typed_or_panic t (operated (cut_operators s) (v ∷ i ∷ j ∷ []))))))
  eval calls (make t e o) ls w =
      with_type (element_type (underlying t)) (λ u. and_then (eval calls e ls w) (λ n w1. with_cell n (
      and_then (eval_perhaps calls (operators.Gives n) o ls w1) (λ c w2. and_then (made u n c w2) (λ v. typed_or_panic t (operators.Gives v))))))
  eval calls (append t o es) ls w =
      with_type (element_type (underlying t)) (λ u. and_then (eval_perhaps calls (operators.Gives (zero_of t)) o ls w) (λ v w1.
      and_then (eval_all calls es ls w1) (λ vs w2. and_then (appended u v vs w2) (λ r. typed_or_panic t (operators.Gives r)))))
  eval calls (unary t op e) ls w = and_then (eval calls e ls w) (λ v. typed_or_panic t (operated (unary_operators (underlying t) op) (v ∷ [])))
  eval calls (binary t op a b) ls w =
      and_then (eval calls a ls w) (λ x w1. and_then (eval calls b ls w1) (λ y.
      typed_or_panic t (operated (binary_operators (underlying (expr_type a)) op) (x ∷ y ∷ []))))
  -- https://go.dev/ref/spec#Logical_operators
  eval calls (both t a b) ls w =
      and_then (eval calls a ls w) (λ x w1. and_then (if_true x (eval calls b ls w1) (Gives x w1)) (λ y. typed_or_panic t (operators.Gives y)))
  eval calls (either t a b) ls w =
      and_then (eval calls a ls w) (λ x w1. and_then (if_true x (Gives x w1) (eval calls b ls w1)) (λ y. typed_or_panic t (operators.Gives y)))
  eval calls (conversion t e) ls w = and_then (eval calls e ls w) (λ v. typed_or_panic t (operated (conversion_operators (underlying t)) (v ∷ [])))
  -- https://go.dev/ref/spec#Composite_literals
  eval calls (literal t ps) ls w = and_then (typed_or_panic t (operators.Gives (zero_of t)) w) (eval_parts calls t ps ls)
  eval calls (call t s es) ls w =
      and_then (eval_all calls es ls w) (λ vs w1. and_then (calls s vs w1) (λ rs w2. and_then (all_given (t ∷ []) rs w2) one_value))

  -- another where it is left out
  pub eval_perhaps : Calls → Operated Value → Perhaps → Locals → ProgramState → Outcome Value
  eval_perhaps calls other absent ls w = or_panic other w
  eval_perhaps calls other (present e) ls w = eval calls e ls w

  pub eval_all : Calls → Exprs → Locals → ProgramState → Outcome (List Value)
  eval_all calls no_exprs ls w = Gives [] w
  eval_all calls (some_exprs e es) ls w =
      and_then (eval calls e ls w) (λ v w1. and_then (eval_all calls es ls w1) (λ vs w2. Gives (v ∷ vs) w2))

  -- the parts of a value of that type, one after the other
  pub eval_parts : Calls → Type' → Parts → Locals → Value → ProgramState → Outcome Value
  eval_parts calls t no_parts ls v w = Gives v w
  eval_parts calls t (part n e ps) ls v w =
      and_then (eval calls e ls w) (λ x w1. and_then (typed_or_panic t (updated (to_field n ∷ []) v x) w1) (eval_parts calls t ps ls))

-- values that are due
abbrev pub source : Calls → ValueSource → Locals → ProgramState → Outcome (List Value)
source calls (each es) ls w = eval_all calls es ls w
source calls (results ts s es) ls w = and_then (eval_all calls es ls w) (λ vs w1. and_then (calls s vs w1) (all_given ts))
source calls (zeros ts) ls w = Gives (map zero_of ts) w

-- ---- assignments

-- https://go.dev/ref/spec#Assignment_statements: first the index operands are evaluated
abbrev pub with_index : Value → ProgramState → (Step → Outcome (List Step)) → Outcome (List Step)
with_index (single (Int z)) w next = next (to_element z)
with_index v w next = Stuck

abbrev pub steps : Calls → Type' → Steps → Locals → ProgramState → Outcome (List Step)
steps calls t here ls w = Gives [] w
steps calls t (then_field n p) ls w =
    with_type (field_type (underlying t) n) (λ u. and_then (steps calls u p ls w) (λ ss w1. Gives (to_field n ∷ ss) w1))
steps calls t (then_element e p) ls w =
    with_type (element_type (underlying t)) (λ u. and_then (eval calls e ls w) (λ v w1. with_index v w1 (λ s.
    and_then (steps calls u p ls w1) (λ ss w2. Gives (s ∷ ss) w2))))

-- what is assigned: nothing, or the part of a variable or of a slice's elements that the steps lead to
pub data Target : Type 0 where
  nowhere : Target
  in_local : Type' → ℕ → List Step → Target
  in_global : Type' → Symbol → List Step → Target
  in_slice : Type' → Value → List Step → Target

-- no type has more cells
unfoldable pub most_cells : ℕ
most_cells = 65536

-- an index comes first into the elements of a slice
abbrev pub step_into_elements : Type' → Value → List Step → ProgramState → Outcome Target
step_into_elements t v [] w = Stuck
step_into_elements t v (s ∷ ss) w = Gives (in_slice t v (s ∷ ss)) w

abbrev pub aim : Calls → Left → Locals → ProgramState → Outcome Target
aim calls blank ls w = Gives nowhere w
aim calls (of_local t n p) ls w =
    if nat_le (cells t) most_cells then and_then (steps calls t p ls w) (λ ss w1. Gives (in_local t n ss) w1) else Stuck
aim calls (of_global t s p) ls w =
    if nat_le (cells t) most_cells then and_then (steps calls t p ls w) (λ ss w1. Gives (in_global t s ss) w1) else Stuck
-- the slice is evaluated as a value
aim calls (of_slice t e p) ls w =
    with_type (element_type (underlying t)) (λ u. if nat_le (cells u) most_cells
    then and_then (eval calls e ls w) (λ v w1. with_cell v (and_then (steps calls t p ls w1) (step_into_elements u v))) else Stuck)

abbrev pub aim_all : Calls → List Left → Locals → ProgramState → Outcome (List Target)
aim_all calls [] ls w = Gives [] w
aim_all calls (l ∷ lefts) ls w = and_then (aim calls l ls w) (λ t w1. and_then (aim_all calls lefts ls w1) (λ ts w2. Gives (t ∷ ts) w2))

-- the whole variable, or the elements, that are aimed at
abbrev pub aimed : Target → Locals → ProgramState → Outcome Value
aimed nowhere ls w = Stuck
aimed (in_local t n ss) ls w = typed_or_panic t (local_value ls n) w
aimed (in_global t s ss) ls w = typed_or_panic t (global_value w.variables s) w
aimed (in_slice t v ss) ls w = elements_of_slice t v w

abbrev pub target_steps : Target → List Step
target_steps nowhere = []
target_steps (in_local t n ss) = ss
target_steps (in_global t s ss) = ss
target_steps (in_slice t v ss) = ss

-- the value of the part, of that type
abbrev pub target_value : Type' → Target → Locals → ProgramState → Outcome Value
target_value t target ls w = and_then (aimed target ls w) (λ v. typed_or_panic t (read (target_steps target) v))

abbrev pub put : Target → Value → Locals → ProgramState → Outcome Locals
put nowhere v ls w = Gives ls w
put (in_local t n ss) v ls w = if_known (with_local ls n v) w
put (in_global t s ss) v ls w = and_then (if_known (with_global w.variables s v) w) (λ variables w1. Gives ls (record w1 { variables = variables }))
put (in_slice t v ss) (parts xs) ls w = and_then (with_elements t v (unpack xs) w) (λ later w1. Gives ls later)
put (in_slice t v ss) (single c) ls w = Stuck

-- then each is assigned, from left to right; the bounds are tested here
abbrev pub give : Target → Value → Locals → ProgramState → Outcome Locals
give nowhere v ls w = Gives ls w
give target v ls w = and_then (aimed target ls w) (λ old w1. and_then (or_panic (updated (target_steps target) old v) w1) (λ new. put target new ls))

abbrev pub give_all : List Target → List Value → Locals → ProgramState → Outcome Locals
give_all [] [] ls w = Gives ls w
give_all (t ∷ ts) (v ∷ vs) ls w = and_then (give t v ls w) (give_all ts vs)
give_all ts vs ls w = Stuck

-- values for what has such names, the last first; a blank one has none
abbrev pub all_put : {S N : Type 0} → (S → N → Value → Option S) → List (Option N) → List Value → S → Option S
all_put put [] [] s = Some s
all_put put [] (v ∷ vs) s = None
all_put put (o ∷ os) [] s = None
all_put put (None ∷ os) (v ∷ vs) s = all_put put os vs s
all_put put (Some x ∷ os) (v ∷ vs) s = option_and_then (λ s1. put s1 x v) (all_put put os vs s)

-- https://go.dev/ref/spec#Variable_declarations: new variables get values
abbrev pub defined : List (Option ℕ) → List Value → Locals → Option Locals
defined = all_put with_local

-- ---- statements

abbrev pub normal : Locals → ProgramState → Outcome Flow
normal ls w = Gives (Normal ls) w

-- goes on behind a statement that leaves off for the next one
abbrev pub if_normal : (Locals → ProgramState → Outcome Flow) → Flow → ProgramState → Outcome Flow
if_normal next (Normal ls) w = next ls w
if_normal next (Breaks ls) w = Gives (Breaks ls) w
if_normal next (Continues ls) w = Gives (Continues ls) w
if_normal next (Returns vs) w = Gives (Returns vs) w

-- behind a loop's body
abbrev pub after_turn : (Locals → ProgramState → Outcome Flow) → Flow → ProgramState → Outcome Flow
after_turn next (Normal ls) w = next ls w
after_turn next (Breaks ls) w = normal ls w
after_turn next (Continues ls) w = next ls w
after_turn next (Returns vs) w = Gives (Returns vs) w

-- a switch is left by break
abbrev pub after_switch : Flow → ProgramState → Outcome Flow
after_switch (Normal ls) w = normal ls w
after_switch (Breaks ls) w = normal ls w
after_switch (Continues ls) w = Gives (Continues ls) w
after_switch (Returns vs) w = Gives (Returns vs) w

-- https://go.dev/ref/spec#For_statements
-- each turn takes a tick, so that one turn more than there are ticks at the entry is never made
abbrev pub turns : ℕ → (Locals → ProgramState → Outcome Value) → (Locals → ProgramState → Outcome Flow) → (Locals → ProgramState → Outcome Flow) → Locals → ProgramState → Outcome Flow
turns zero test body post ls w = Stuck
turns (suc n) test body post ls w =
    and_then (test ls w) (λ c w1. if_true c
    (with_tick w1 (λ w2. and_then (body ls w2) (after_turn (λ ls1 w3. and_then (post ls1 w3) (if_normal (turns n test body post))))))
    (normal ls w1))

-- from c up to h, which is not reached
abbrev pub walk : ℕ → ℕ → ℕ → Option ℕ → (Locals → ProgramState → Outcome Flow) → Locals → ProgramState → Outcome Flow
walk zero c h o body ls w = Stuck
walk (suc n) c h o body ls w =
    if nat_lt c h
    then with_tick w (λ w1. and_then (if_known (defined (o ∷ []) (single (Int (pos c)) ∷ []) ls) w1) (λ ls1 w2.
    and_then (body ls1 w2) (after_turn (walk n (c + 1) h o body))))
    else normal ls w

abbrev pub walk_to : Value → (ℕ → Outcome Flow) → Outcome Flow
walk_to (single (Int (pos h))) next = next h
walk_to (single (Int (negsuc h))) next = next 0
walk_to v next = Stuck

-- https://go.dev/ref/spec#Switch_statements
-- whether one of the cases is equal to the tag, which has that type
abbrev pub is_case : Calls → Type' → Value → Exprs → Locals → ProgramState → Outcome Bool
is_case calls t tag no_exprs ls w = Gives false w
is_case calls t tag (some_exprs e es) ls w =
    and_then (eval calls e ls w) (λ v w1. and_then (or_panic (operated (binary_operators (underlying t) (comparison Equal)) (tag ∷ v ∷ [])) w1) (λ b w2.
    if_true b (Gives true w2) (is_case calls t tag es ls w2)))

-- the number of the first clause with such a case, else of the last default, if there is one
abbrev pub chosen : Calls → Type' → Value → Clauses → ℕ → Option ℕ → Locals → ProgramState → Outcome (Option ℕ)
chosen calls t tag no_clauses n other ls w = Gives other w
chosen calls t tag (clause None body falls cs) n other ls w = chosen calls t tag cs (n + 1) (Some n) ls w
chosen calls t tag (clause (Some es) body falls cs) n other ls w =
    and_then (is_case calls t tag es ls w) (λ b w1. if b then Gives (Some n) w1 else chosen calls t tag cs (n + 1) other ls w1)

abbrev pub panicked : Value → ProgramState → Outcome Flow
panicked (single (Text t)) w = Ends (Panicked (User t)) w.output
panicked v w = Stuck

abbrev pub tested : Calls → Option Expr → Locals → ProgramState → Outcome Value
tested calls None ls w = Gives (single (Truth true)) w
tested calls (Some e) ls w = eval calls e ls w

abbrev mutual
  pub exec : Calls → Stmt → Locals → ProgramState → Outcome Flow
  exec calls (define ns s) ls w = and_then (source calls s ls w) (λ vs w1. and_then (if_known (defined ns vs ls) w1) normal)
  exec calls (assign lefts s) ls w =
      and_then (aim_all calls lefts ls w) (λ ts w1. and_then (source calls s ls w1) (λ vs w2.
      if nat_eq (length ts) (length vs) then and_then (give_all ts vs ls w2) normal else Stuck))
  exec calls (update t l op e) ls w =
      and_then (aim calls l ls w) (λ target w1. and_then (target_value t target ls w1) (λ x w2. and_then (eval calls e ls w2) (λ y w3.
      and_then (typed_or_panic t (operated (binary_operators (underlying t) op) (x ∷ y ∷ [])) w3) (λ z w4. and_then (give target z ls w4) normal))))
  exec calls (run ts s es) ls w = and_then (source calls (results ts s es) ls w) (λ vs. normal ls)
  exec calls (print es) ls w = and_then (eval_all calls es ls w) (λ vs w1. normal ls (record w1 { output = w1.output ++ line_text (flat_map flat vs) }))
  exec calls (panic e) ls w = and_then (eval calls e ls w) panicked
  exec calls (if_statement e a b) ls w = and_then (eval calls e ls w) (λ c w1. if_true c (exec_all calls a ls w1) (exec_all calls b ls w1))
  exec calls (for_statement o post body) ls w = turns (suc w.ticks) (tested calls o) (exec_all calls body) (exec_all calls post) ls w
  exec calls (range_statement o t e body) ls w =
      and_then (eval calls e ls w) (λ v w1. and_then (typed_or_panic t (operators.Gives v) w1) (λ v1 w2.
      walk_to v1 (λ h. walk (suc w2.ticks) 0 h o (exec_all calls body) ls w2)))
  exec calls (switch_statement e cs) ls w =
      and_then (eval calls e ls w) (λ tag w1. and_then (chosen calls (expr_type e) tag cs 0 None ls w1) (λ o w2.
      and_then (from_clause calls cs o ls w2) after_switch))
  exec calls (block ss) ls w = exec_all calls ss ls w
  exec calls break ls w = Gives (Breaks ls) w
  exec calls continue ls w = Gives (Continues ls) w
  exec calls (return s) ls w = and_then (source calls s ls w) (λ vs w1. Gives (Returns vs) w1)

  pub exec_all : Calls → Stmts → Locals → ProgramState → Outcome Flow
  exec_all calls no_stmts ls w = normal ls w
  exec_all calls (some_stmts s ss) ls w = and_then (exec calls s ls w) (if_normal (exec_all calls ss))

  -- https://go.dev/ref/spec#Fallthrough_statements
  -- the clause of that number, if any, and those that it falls through to
  pub from_clause : Calls → Clauses → Option ℕ → Locals → ProgramState → Outcome Flow
  from_clause calls no_clauses o ls w = normal ls w
  from_clause calls (clause es body falls cs) None ls w = normal ls w
  from_clause calls (clause es body falls cs) (Some zero) ls w =
      and_then (exec_all calls body ls w) (if_normal (from_clause calls cs (if falls then Some zero else None)))
  from_clause calls (clause es body falls cs) (Some (suc n)) ls w = from_clause calls cs (Some n) ls w
