-- Nothing has more ticks left behind it than there were before it: so a loop makes no more turns than there were ticks at its entry.
use Rattle.std.proofs.Common.{ℕ, zero, suc, ◌+◌, ◌-◌, ◌≤◌, Bool, true, false, ◌&&◌, List, [], ◌∷◌, ◌++◌, length, take, drop, replicate, Option, Some, None, pos, negsuc, arith, nat_eq, nat_lt, nat_le, if◌then◌else◌}
use Rattle.std.specs.List.{list_all}
use Rattle.go_types.specs.Types.{Type', basic, array, slice, struct, named}
use Rattle.go_types.specs.Relations.{underlying}
use Rattle.go_types.specs.Sizes.{cells}
use Rattle.go_code.specs.declared.cell.Cell.TheVariants.{Int, Bool as Truth, Text, Slice}
use Rattle.go_code.specs.declared.ending.Ending.TheVariants.{Cut}
use Rattle.go_code.specs.Operators as operators
use Rattle.go_code.specs.Rows.{row_of, make_sizes, grown}
use Rattle.go_code.specs.Operators.{Operated}
use Rattle.go_typed.specs.Trees.{Symbol, Function, Expr, constant, local, global, field, index, length as length_of, capacity, cut, make, append, Perhaps, absent, present, unary, binary, both, either, conversion, literal, call, Exprs, no_exprs, some_exprs, Parts, no_parts, part, Steps, here, to_field as then_field, to_element as then_element, Left, blank, of_local, of_global, of_slice, ValueSource, each, results, zeros, Stmt, define, assign, update, run, print, panic, if_statement, for_statement, range_statement, switch_statement, block, break, continue, return, Stmts, no_stmts, some_stmts, Clauses, no_clauses, clause, Package, expr_type}
use Rattle.go_meaning.specs.Values.{Value, single, parts, unpack, Step, is_of, zero_of, updated}
use Rattle.go_meaning.specs.Choices.{cell_of, element_type, field_type}
use Rattle.go_meaning.specs.Meaning.{ProgramState, Outcome, Gives, Ends, Stuck, Locals, Flow, Normal, Breaks, Continues, Returns, Calls, and_then, with_tick, if_known, typed_or_panic, all_given, one_value, if_true, or_panic, with_type, with_cell, array_of, elements_of_slice, overwritten, with_array, with_elements, new_array, made, appended, local_value, global_value, with_local, with_global, indexed, found, eval, eval_perhaps, eval_all, eval_parts, source, with_index, steps, Target, nowhere, in_local, in_global, in_slice, step_into_elements, aim, aim_all, aimed, target_steps, target_value, put, give, give_all, normal, if_normal, after_turn, after_switch, defined, turns, walk, walk_to, is_case, chosen, panicked, tested, exec, exec_all, from_clause}
use Rattle.go_meaning.specs.Programs.{results_of, enter_function, function_by_symbol, first_locals, call_at}

-- what is given has no more than n ticks left
abbrev pub NoMore : {A : Type 0} → ℕ → Outcome A → Type 0
NoMore n (Gives a w) = w.ticks ≤ n
NoMore n (Ends ending output) = Unit {0}
NoMore n Stuck = Unit {0}

module _ (n : ℕ) where
  then_ticks : {A B : Type 0} (o : Outcome A) (next : A → ProgramState → Outcome B) → NoMore n o → ((a : A) (w : ProgramState) → w.ticks ≤ n → NoMore n (next a w)) → NoMore n (and_then o next)
  then_ticks (Gives a w) next h k = k a w h
  then_ticks (Ends ending output) next h k = tt
  then_ticks Stuck next h k = tt

  if_ticks : {A : Type 0} (b : Bool) (x y : Outcome A) → NoMore n x → NoMore n y → NoMore n (if b then x else y)
  if_ticks true x y h k = h
  if_ticks false x y h k = k

  pub tick_ticks : {A : Type 0} (w : ProgramState) (next : ProgramState → Outcome A) → w.ticks ≤ n → ((w1 : ProgramState) → w1.ticks ≤ n → NoMore n (next w1)) → NoMore n (with_tick w next)
  tick_ticks {A} w next h k = by_ticks w.ticks h
    where
      by_ticks : (m : ℕ) → m ≤ n → NoMore n (elim m as (λ x. Outcome A) [ zero ↦ Ends Cut w.output | suc left ↦ next (record w { ticks = left }) ])
      by_ticks zero le = tt
      by_ticks (suc left) le = k (record w { ticks = left }) (omega (arith, le))

  known_ticks : {A : Type 0} (o : Option A) (w : ProgramState) → w.ticks ≤ n → NoMore n (if_known o w)
  known_ticks None w h = tt
  known_ticks (Some a) w h = h

  given_ticks : (t : Type') (o : Operated Value) (w : ProgramState) → w.ticks ≤ n → NoMore n (typed_or_panic t o w)
  given_ticks t (operators.Gives v) w h = if_ticks _ (Gives v w) Stuck h tt
  given_ticks t (operators.Panics kind) w h = tt
  given_ticks t operators.Senseless w h = tt

  all_given_ticks : (ts : List Type') (vs : List Value) (w : ProgramState) → w.ticks ≤ n → NoMore n (all_given ts vs w)
  all_given_ticks ts vs w h = if_ticks _ (Gives vs w) Stuck h tt

  one_ticks : (vs : List Value) (w : ProgramState) → w.ticks ≤ n → NoMore n (one_value vs w)
  one_ticks [] w h = tt
  one_ticks (v ∷ []) w h = h
  one_ticks (v ∷ u ∷ us) w h = tt

  true_ticks : {A : Type 0} (v : Value) (x y : Outcome A) → NoMore n x → NoMore n y → NoMore n (if_true v x y)
  true_ticks (single (Truth true)) x y h k = h
  true_ticks (single (Truth false)) x y h k = k
  true_ticks (single (Int z)) x y h k = tt
  true_ticks (single (Text t)) x y h k = tt
  true_ticks (single (Slice r s m c)) x y h k = tt
  true_ticks (parts vs) x y h k = tt

  changed_ticks : {A : Type 0} (o : Operated A) (w : ProgramState) → w.ticks ≤ n → NoMore n (or_panic o w)
  changed_ticks (operators.Gives a) w h = h
  changed_ticks (operators.Panics kind) w h = tt
  changed_ticks operators.Senseless w h = tt

  type_ticks : {A : Type 0} (o : Option Type') (next : Type' → Outcome A) → ((t : Type') → NoMore n (next t)) → NoMore n (with_type o next)
  type_ticks None next k = tt
  type_ticks (Some t) next k = k t

  cell_ticks : {A : Type 0} (v : Value) (o : Outcome A) → NoMore n o → NoMore n (with_cell v o)
  cell_ticks (single c) o h = h
  cell_ticks (parts vs) o h = tt

  -- ---- slices

  array_ticks : (t : Type') (r s m c : ℕ) (w : ProgramState) → w.ticks ≤ n → NoMore n (array_of t r s m c w)
  array_ticks t r s m c w h = if_ticks _ (Gives _ w) Stuck h tt

  elements_ticks : (t : Type') (v : Value) (w : ProgramState) → w.ticks ≤ n → NoMore n (elements_of_slice t v w)
  elements_ticks t (single (Slice r s m c)) w h = then_ticks (array_of t r s m c w) _ (array_ticks t r s m c w h) (λ all w1 h1. h1)
  elements_ticks t (single (Int z)) w h = tt
  elements_ticks t (single (Truth b)) w h = tt
  elements_ticks t (single (Text s)) w h = tt
  elements_ticks t (parts vs) w h = tt

  put_elements_ticks : (t : Type') (v : Value) (vs : List Value) (ls : Locals) (w : ProgramState) → w.ticks ≤ n → NoMore n (and_then (with_elements t v vs w) (λ later w1. Gives ls later))
  put_elements_ticks t (single (Slice r s m c)) vs ls w h = by_test (list_all (is_of t) vs && nat_eq (length vs) m) (overwritten (row_of w.arrays r) s vs)
    where
      by_test : (b : Bool) (all : List Value) → NoMore n (and_then (if b then Gives (with_array w r all) w else Stuck) (λ later w1. Gives ls later))
      by_test true all = h
      by_test false all = tt
  put_elements_ticks t (single (Int z)) vs ls w h = tt
  put_elements_ticks t (single (Truth b)) vs ls w h = tt
  put_elements_ticks t (single (Text s)) vs ls w h = tt
  put_elements_ticks t (parts us) vs ls w h = tt

  made_ticks : (t : Type') (v u : Value) (w : ProgramState) → w.ticks ≤ n → NoMore n (made t v u w)
  made_ticks t (single x) (single y) w h = then_ticks (or_panic (make_sizes (cells t) x y) w) (λ sizes. new_array (replicate sizes.1 (zero_of t)) sizes.0 sizes.1) (changed_ticks (make_sizes (cells t) x y) w h) (λ sizes w1 h1. h1)
  made_ticks t (single x) (parts vs) w h = tt
  made_ticks t (parts vs) u w h = tt

  appended_ticks : (t : Type') (v : Value) (vs : List Value) (w : ProgramState) → w.ticks ≤ n → NoMore n (appended t v vs w)
  appended_ticks t (single (Slice r s m c)) vs w h =
      let count : ℕ = m + length vs in
      if_ticks (list_all (is_of t) vs) _ Stuck
      (then_ticks (array_of t r s m c w) _ (array_ticks t r s m c w h)
      (λ all w1 h1. if_ticks (nat_le count c) (Gives (single (Slice r s count c)) (with_array w1 r (overwritten all (s + m) vs))) _ h1
      (then_ticks (or_panic (grown (cells t) count c) w1) (λ room. new_array (take m (drop s all) ++ vs ++ replicate (room - count) (zero_of t)) count room)
      (changed_ticks (grown (cells t) count c) w1 h1) (λ room w2 h2. h2)))) tt
  appended_ticks t (single (Int z)) vs w h = tt
  appended_ticks t (single (Truth b)) vs w h = tt
  appended_ticks t (single (Text s)) vs w h = tt
  appended_ticks t (parts us) vs w h = tt

  found_ticks : (t s : Type') (v j : Value) (w : ProgramState) → w.ticks ≤ n → NoMore n (found t s v j w)
  found_ticks t (slice u) v j w h = then_ticks (elements_of_slice u v w) _ (elements_ticks u v w h) (λ whole w1 h1. given_ticks t (indexed (slice u) whole j) w1 h1)
  found_ticks t (basic b) v j w h = given_ticks t (indexed (basic b) v j) w h
  found_ticks t (array m u) v j w h = given_ticks t (indexed (array m u) v j) w h
  found_ticks t (struct fs) v j w h = given_ticks t (indexed (struct fs) v j) w h
  found_ticks t (named p x u) v j w h = given_ticks t (indexed (named p x u) v j) w h

  -- ---- how statements leave off

  normal_ticks : (next : Locals → ProgramState → Outcome Flow) (f : Flow) (w : ProgramState) → ((ls : Locals) (w1 : ProgramState) → w1.ticks ≤ n → NoMore n (next ls w1)) → w.ticks ≤ n → NoMore n (if_normal next f w)
  normal_ticks next (Normal ls) w k h = k ls w h
  normal_ticks next (Breaks ls) w k h = h
  normal_ticks next (Continues ls) w k h = h
  normal_ticks next (Returns vs) w k h = h

  turned_ticks : (next : Locals → ProgramState → Outcome Flow) (f : Flow) (w : ProgramState) → ((ls : Locals) (w1 : ProgramState) → w1.ticks ≤ n → NoMore n (next ls w1)) → w.ticks ≤ n → NoMore n (after_turn next f w)
  turned_ticks next (Normal ls) w k h = k ls w h
  turned_ticks next (Breaks ls) w k h = h
  turned_ticks next (Continues ls) w k h = k ls w h
  turned_ticks next (Returns vs) w k h = h

  switched_ticks : (f : Flow) (w : ProgramState) → w.ticks ≤ n → NoMore n (after_switch f w)
  switched_ticks (Normal ls) w h = h
  switched_ticks (Breaks ls) w h = h
  switched_ticks (Continues ls) w h = h
  switched_ticks (Returns vs) w h = h

  turns_ticks : (k : ℕ) (test : Locals → ProgramState → Outcome Value) (body post : Locals → ProgramState → Outcome Flow)
      → ((ls : Locals) (w : ProgramState) → w.ticks ≤ n → NoMore n (test ls w)) → ((ls : Locals) (w : ProgramState) → w.ticks ≤ n → NoMore n (body ls w))
      → ((ls : Locals) (w : ProgramState) → w.ticks ≤ n → NoMore n (post ls w)) → (ls : Locals) (w : ProgramState) → w.ticks ≤ n → NoMore n (turns k test body post ls w)
  turns_ticks zero test body post tests bodies posts ls w h = tt
  turns_ticks (suc k) test body post tests bodies posts ls w h =
      then_ticks (test ls w) _ (tests ls w h) (λ c w1 h1. true_ticks c _ (normal ls w1)
      (tick_ticks w1 _ h1 (λ w2 h2. then_ticks (body ls w2) _ (bodies ls w2 h2) (λ f w3 h3. turned_ticks _ f w3
      (λ ls1 w4 h4. then_ticks (post ls1 w4) _ (posts ls1 w4 h4) (λ f1 w5 h5. normal_ticks _ f1 w5 (turns_ticks k test body post tests bodies posts) h5)) h3))) h1)

  walk_ticks : (k c m : ℕ) (o : Option ℕ) (body : Locals → ProgramState → Outcome Flow) → ((ls : Locals) (w : ProgramState) → w.ticks ≤ n → NoMore n (body ls w))
      → (ls : Locals) (w : ProgramState) → w.ticks ≤ n → NoMore n (walk k c m o body ls w)
  walk_ticks zero c m o body bodies ls w h = tt
  walk_ticks (suc k) c m o body bodies ls w h =
      if_ticks (nat_lt c m) _ (normal ls w)
      (tick_ticks w _ h (λ w1 h1. then_ticks (if_known (defined (o ∷ []) (single (Int (pos c)) ∷ []) ls) w1) _ (known_ticks (defined (o ∷ []) (single (Int (pos c)) ∷ []) ls) w1 h1) (λ ls1 w2 h2.
      then_ticks (body ls1 w2) _ (bodies ls1 w2 h2) (λ f w3 h3. turned_ticks _ f w3 (walk_ticks k (c + 1) m o body bodies) h3)))) h

  walk_to_ticks : (v : Value) (next : ℕ → Outcome Flow) → ((m : ℕ) → NoMore n (next m)) → NoMore n (walk_to v next)
  walk_to_ticks (single (Int (pos m))) next k = k m
  walk_to_ticks (single (Int (negsuc m))) next k = k 0
  walk_to_ticks (single (Truth b)) next k = tt
  walk_to_ticks (single (Text t)) next k = tt
  walk_to_ticks (single (Slice r s m c)) next k = tt
  walk_to_ticks (parts vs) next k = tt

  panicked_ticks : (v : Value) (w : ProgramState) → NoMore n (panicked v w)
  panicked_ticks (single (Text t)) w = tt
  panicked_ticks (single (Int z)) w = tt
  panicked_ticks (single (Truth b)) w = tt
  panicked_ticks (single (Slice r s m c)) w = tt
  panicked_ticks (parts vs) w = tt

  -- ---- assignments

  index_ticks : (v : Value) (w : ProgramState) (next : Step → Outcome (List Step)) → ((s : Step) → NoMore n (next s)) → NoMore n (with_index v w next)
  index_ticks (single (Int z)) w next k = k _
  index_ticks (single (Truth b)) w next k = tt
  index_ticks (single (Text t)) w next k = tt
  index_ticks (single (Slice r s m c)) w next k = tt
  index_ticks (parts vs) w next k = tt

  in_elements_ticks : (t : Type') (v : Value) (ss : List Step) (w : ProgramState) → w.ticks ≤ n → NoMore n (step_into_elements t v ss w)
  in_elements_ticks t v [] w h = tt
  in_elements_ticks t v (s ∷ ss) w h = h

  aimed_ticks : (target : Target) (ls : Locals) (w : ProgramState) → w.ticks ≤ n → NoMore n (aimed target ls w)
  aimed_ticks nowhere ls w h = tt
  aimed_ticks (in_local t k ss) ls w h = given_ticks t (local_value ls k) w h
  aimed_ticks (in_global t s ss) ls w h = given_ticks t (global_value w.variables s) w h
  aimed_ticks (in_slice t v ss) ls w h = elements_ticks t v w h

  taken_ticks : (t : Type') (target : Target) (ls : Locals) (w : ProgramState) → w.ticks ≤ n → NoMore n (target_value t target ls w)
  taken_ticks t target ls w h = then_ticks (aimed target ls w) _ (aimed_ticks target ls w h) (λ v w1 h1. given_ticks t _ w1 h1)

  put_ticks : (target : Target) (v : Value) (ls : Locals) (w : ProgramState) → w.ticks ≤ n → NoMore n (put target v ls w)
  put_ticks nowhere v ls w h = h
  put_ticks (in_local t k ss) v ls w h = known_ticks (with_local ls k v) w h
  put_ticks (in_global t s ss) v ls w h = then_ticks (if_known (with_global w.variables s v) w) (λ variables w1. Gives ls (record w1 { variables = variables })) (known_ticks (with_global w.variables s v) w h) (λ variables w1 h1. h1)
  put_ticks (in_slice t u ss) (parts xs) ls w h = put_elements_ticks t u (unpack xs) ls w h
  put_ticks (in_slice t u ss) (single c) ls w h = tt

  renewed_ticks : (target : Target) (v : Value) (ls : Locals) (w : ProgramState) → w.ticks ≤ n
      → NoMore n (and_then (aimed target ls w) (λ old w1. and_then (or_panic (updated (target_steps target) old v) w1) (λ new. put target new ls)))
  renewed_ticks target v ls w h =
      then_ticks (aimed target ls w) (λ old w1. and_then (or_panic (updated (target_steps target) old v) w1) (λ new. put target new ls)) (aimed_ticks target ls w h)
      (λ old w1 h1. then_ticks (or_panic (updated (target_steps target) old v) w1) (λ new. put target new ls) (changed_ticks _ w1 h1) (λ new w2 h2. put_ticks target new ls w2 h2))

  give_ticks : (target : Target) (v : Value) (ls : Locals) (w : ProgramState) → w.ticks ≤ n → NoMore n (give target v ls w)
  give_ticks nowhere v ls w h = h
  give_ticks (in_local t k ss) v ls w h = renewed_ticks (in_local t k ss) v ls w h
  give_ticks (in_global t s ss) v ls w h = renewed_ticks (in_global t s ss) v ls w h
  give_ticks (in_slice t u ss) v ls w h = renewed_ticks (in_slice t u ss) v ls w h

  give_all_ticks : (ts : List Target) (vs : List Value) (ls : Locals) (w : ProgramState) → w.ticks ≤ n → NoMore n (give_all ts vs ls w)
  give_all_ticks [] [] ls w h = h
  give_all_ticks [] (v ∷ vs) ls w h = tt
  give_all_ticks (t ∷ ts) [] ls w h = tt
  give_all_ticks (t ∷ ts) (v ∷ vs) ls w h = then_ticks (give t v ls w) _ (give_ticks t v ls w h) (give_all_ticks ts vs)

  -- ---- expressions and statements, where calls leave no more ticks

  module _ (calls : Calls) (takes : (s : Symbol) (vs : List Value) (w : ProgramState) → w.ticks ≤ n → NoMore n (calls s vs w)) where
    mutual
      eval_ticks : (e : Expr) (ls : Locals) (w : ProgramState) → w.ticks ≤ n → NoMore n (eval calls e ls w)
      eval_ticks (constant t c) ls w h = given_ticks t (operators.Gives (single (cell_of c))) w h
      eval_ticks (local t k) ls w h = given_ticks t (local_value ls k) w h
      eval_ticks (global t s) ls w h = given_ticks t (global_value w.variables s) w h
      eval_ticks (field t e k) ls w h = then_ticks (eval calls e ls w) _ (eval_ticks e ls w h) (λ v w1 h1. given_ticks t _ w1 h1)
      eval_ticks (index t e i) ls w h =
          then_ticks (eval calls e ls w) _ (eval_ticks e ls w h) (λ v w1 h1. then_ticks (eval calls i ls w1) _ (eval_ticks i ls w1 h1)
          (λ j w2 h2. found_ticks t (underlying (expr_type e)) v j w2 h2))
      eval_ticks (length_of t e) ls w h = then_ticks (eval calls e ls w) _ (eval_ticks e ls w h) (λ v w1 h1. given_ticks t _ w1 h1)
      eval_ticks (capacity t e) ls w h = then_ticks (eval calls e ls w) _ (eval_ticks e ls w h) (λ v w1 h1. given_ticks t _ w1 h1)
      eval_ticks (cut t e low high) ls w h =
          then_ticks (eval calls e ls w) _ (eval_ticks e ls w h) (λ v w1 h1. cell_ticks v _ (then_ticks (eval calls low ls w1) _ (eval_ticks low ls w1 h1)
          (λ i w2 h2. then_ticks (eval_perhaps calls _ high ls w2) _ (perhaps_ticks _ high ls w2 h2) (λ j w3 h3. given_ticks t _ w3 h3))))
      eval_ticks (make t e o) ls w h =
          type_ticks (element_type (underlying t)) _ (λ u. then_ticks (eval calls e ls w) _ (eval_ticks e ls w h) (λ k w1 h1. cell_ticks k _
          (then_ticks (eval_perhaps calls (operators.Gives k) o ls w1) _ (perhaps_ticks (operators.Gives k) o ls w1 h1)
          (λ c w2 h2. then_ticks (made u k c w2) _ (made_ticks u k c w2 h2) (λ v w3 h3. given_ticks t (operators.Gives v) w3 h3)))))
      eval_ticks (append t o es) ls w h =
          type_ticks (element_type (underlying t)) _ (λ u. then_ticks (eval_perhaps calls (operators.Gives (zero_of t)) o ls w) _ (perhaps_ticks (operators.Gives (zero_of t)) o ls w h)
          (λ v w1 h1. then_ticks (eval_all calls es ls w1) _ (exprs_ticks es ls w1 h1)
          (λ vs w2 h2. then_ticks (appended u v vs w2) _ (appended_ticks u v vs w2 h2) (λ r w3 h3. given_ticks t (operators.Gives r) w3 h3))))
      eval_ticks (unary t op e) ls w h = then_ticks (eval calls e ls w) _ (eval_ticks e ls w h) (λ v w1 h1. given_ticks t _ w1 h1)
      eval_ticks (binary t op a b) ls w h =
          then_ticks (eval calls a ls w) _ (eval_ticks a ls w h) (λ x w1 h1. then_ticks (eval calls b ls w1) _ (eval_ticks b ls w1 h1) (λ y w2 h2. given_ticks t _ w2 h2))
      eval_ticks (both t a b) ls w h =
          then_ticks (eval calls a ls w) _ (eval_ticks a ls w h) (λ x w1 h1. then_ticks (if_true x (eval calls b ls w1) (Gives x w1)) _
          (true_ticks x (eval calls b ls w1) (Gives x w1) (eval_ticks b ls w1 h1) h1) (λ y w2 h2. given_ticks t (operators.Gives y) w2 h2))
      eval_ticks (either t a b) ls w h =
          then_ticks (eval calls a ls w) _ (eval_ticks a ls w h) (λ x w1 h1. then_ticks (if_true x (Gives x w1) (eval calls b ls w1)) _
          (true_ticks x (Gives x w1) (eval calls b ls w1) h1 (eval_ticks b ls w1 h1)) (λ y w2 h2. given_ticks t (operators.Gives y) w2 h2))
      eval_ticks (conversion t e) ls w h = then_ticks (eval calls e ls w) _ (eval_ticks e ls w h) (λ v w1 h1. given_ticks t _ w1 h1)
      eval_ticks (literal t ps) ls w h =
          then_ticks (typed_or_panic t (operators.Gives (zero_of t)) w) _ (given_ticks t (operators.Gives (zero_of t)) w h) (λ v w1 h1. parts_ticks t ps ls v w1 h1)
      eval_ticks (call t s es) ls w h =
          then_ticks (eval_all calls es ls w) _ (exprs_ticks es ls w h) (λ vs w1 h1. then_ticks (calls s vs w1) _ (takes s vs w1 h1)
          (λ rs w2 h2. then_ticks (all_given (t ∷ []) rs w2) _ (all_given_ticks (t ∷ []) rs w2 h2) (λ us w3 h3. one_ticks us w3 h3)))

      perhaps_ticks : (other : Operated Value) (o : Perhaps) (ls : Locals) (w : ProgramState) → w.ticks ≤ n → NoMore n (eval_perhaps calls other o ls w)
      perhaps_ticks other absent ls w h = changed_ticks other w h
      perhaps_ticks other (present e) ls w h = eval_ticks e ls w h

      exprs_ticks : (es : Exprs) (ls : Locals) (w : ProgramState) → w.ticks ≤ n → NoMore n (eval_all calls es ls w)
      exprs_ticks no_exprs ls w h = h
      exprs_ticks (some_exprs e es) ls w h =
          then_ticks (eval calls e ls w) _ (eval_ticks e ls w h) (λ v w1 h1. then_ticks (eval_all calls es ls w1) _ (exprs_ticks es ls w1 h1) (λ vs w2 h2. h2))

      parts_ticks : (t : Type') (ps : Parts) (ls : Locals) (v : Value) (w : ProgramState) → w.ticks ≤ n → NoMore n (eval_parts calls t ps ls v w)
      parts_ticks t no_parts ls v w h = h
      parts_ticks t (part k e ps) ls v w h =
          then_ticks (eval calls e ls w) _ (eval_ticks e ls w h) (λ x w1 h1. then_ticks (typed_or_panic t _ w1) _ (given_ticks t _ w1 h1) (λ u w2 h2. parts_ticks t ps ls u w2 h2))

    source_ticks : (s : ValueSource) (ls : Locals) (w : ProgramState) → w.ticks ≤ n → NoMore n (source calls s ls w)
    source_ticks (each es) ls w h = exprs_ticks es ls w h
    source_ticks (results ts s es) ls w h =
        then_ticks (eval_all calls es ls w) _ (exprs_ticks es ls w h) (λ vs w1 h1. then_ticks (calls s vs w1) _ (takes s vs w1 h1) (λ rs w2 h2. all_given_ticks ts rs w2 h2))
    source_ticks (zeros ts) ls w h = h

    steps_ticks : (t : Type') (p : Steps) (ls : Locals) (w : ProgramState) → w.ticks ≤ n → NoMore n (steps calls t p ls w)
    steps_ticks t here ls w h = h
    steps_ticks t (then_field k p) ls w h =
        type_ticks (field_type (underlying t) k) _ (λ u. then_ticks (steps calls u p ls w) _ (steps_ticks u p ls w h) (λ ss w1 h1. h1))
    steps_ticks t (then_element e p) ls w h =
        type_ticks (element_type (underlying t)) _ (λ u. then_ticks (eval calls e ls w) _ (eval_ticks e ls w h) (λ v w1 h1. index_ticks v w1 _
        (λ s. then_ticks (steps calls u p ls w1) _ (steps_ticks u p ls w1 h1) (λ ss w2 h2. h2))))

    aim_ticks : (l : Left) (ls : Locals) (w : ProgramState) → w.ticks ≤ n → NoMore n (aim calls l ls w)
    aim_ticks blank ls w h = h
    aim_ticks (of_local t k p) ls w h = if_ticks _ _ Stuck (then_ticks (steps calls t p ls w) _ (steps_ticks t p ls w h) (λ ss w1 h1. h1)) tt
    aim_ticks (of_global t s p) ls w h = if_ticks _ _ Stuck (then_ticks (steps calls t p ls w) _ (steps_ticks t p ls w h) (λ ss w1 h1. h1)) tt
    aim_ticks (of_slice t e p) ls w h =
        type_ticks (element_type (underlying t)) _ (λ u. if_ticks _ _ Stuck (then_ticks (eval calls e ls w) _ (eval_ticks e ls w h)
        (λ v w1 h1. cell_ticks v _ (then_ticks (steps calls t p ls w1) _ (steps_ticks t p ls w1 h1) (λ ss w2 h2. in_elements_ticks u v ss w2 h2)))) tt)

    aim_all_ticks : (lefts : List Left) (ls : Locals) (w : ProgramState) → w.ticks ≤ n → NoMore n (aim_all calls lefts ls w)
    aim_all_ticks [] ls w h = h
    aim_all_ticks (l ∷ lefts) ls w h =
        then_ticks (aim calls l ls w) _ (aim_ticks l ls w h) (λ t w1 h1. then_ticks (aim_all calls lefts ls w1) _ (aim_all_ticks lefts ls w1 h1) (λ ts w2 h2. h2))

    case_ticks : (t : Type') (tag : Value) (es : Exprs) (ls : Locals) (w : ProgramState) → w.ticks ≤ n → NoMore n (is_case calls t tag es ls w)
    case_ticks t tag no_exprs ls w h = h
    case_ticks t tag (some_exprs e es) ls w h =
        then_ticks (eval calls e ls w) _ (eval_ticks e ls w h) (λ v w1 h1. then_ticks (or_panic _ w1) _ (changed_ticks _ w1 h1)
        (λ b w2 h2. true_ticks b (Gives true w2) _ h2 (case_ticks t tag es ls w2 h2)))

    chosen_ticks : (t : Type') (tag : Value) (cs : Clauses) (k : ℕ) (other : Option ℕ) (ls : Locals) (w : ProgramState) → w.ticks ≤ n → NoMore n (chosen calls t tag cs k other ls w)
    chosen_ticks t tag no_clauses k other ls w h = h
    chosen_ticks t tag (clause None body falls cs) k other ls w h = chosen_ticks t tag cs (k + 1) (Some k) ls w h
    chosen_ticks t tag (clause (Some es) body falls cs) k other ls w h =
        then_ticks (is_case calls t tag es ls w) _ (case_ticks t tag es ls w h) (λ b w1 h1. if_ticks b (Gives (Some k) w1) _ h1 (chosen_ticks t tag cs (k + 1) other ls w1 h1))

    pub tested_ticks : (o : Option Expr) (ls : Locals) (w : ProgramState) → w.ticks ≤ n → NoMore n (tested calls o ls w)
    tested_ticks None ls w h = h
    tested_ticks (Some e) ls w h = eval_ticks e ls w h

    mutual
      exec_ticks : (s : Stmt) (ls : Locals) (w : ProgramState) → w.ticks ≤ n → NoMore n (exec calls s ls w)
      exec_ticks (define ns s) ls w h = then_ticks (source calls s ls w) _ (source_ticks s ls w h) (λ vs w1 h1. then_ticks (if_known (defined ns vs ls) w1) normal (known_ticks (defined ns vs ls) w1 h1) (λ later w2 h2. h2))
      exec_ticks (assign lefts s) ls w h =
          then_ticks (aim_all calls lefts ls w) _ (aim_all_ticks lefts ls w h) (λ ts w1 h1. then_ticks (source calls s ls w1) _ (source_ticks s ls w1 h1)
          (λ vs w2 h2. if_ticks (nat_eq (length ts) (length vs)) _ Stuck (then_ticks (give_all ts vs ls w2) normal (give_all_ticks ts vs ls w2 h2) (λ later w3 h3. h3)) tt))
      exec_ticks (update t l op e) ls w h =
          then_ticks (aim calls l ls w) _ (aim_ticks l ls w h) (λ target w1 h1. then_ticks (target_value t target ls w1) _ (taken_ticks t target ls w1 h1)
          (λ x w2 h2. then_ticks (eval calls e ls w2) _ (eval_ticks e ls w2 h2) (λ y w3 h3. then_ticks (typed_or_panic t _ w3) _ (given_ticks t _ w3 h3)
          (λ z w4 h4. then_ticks (give target z ls w4) normal (give_ticks target z ls w4 h4) (λ later w5 h5. h5)))))
      exec_ticks (run ts s es) ls w h = then_ticks (source calls (results ts s es) ls w) _ (source_ticks (results ts s es) ls w h) (λ vs w1 h1. h1)
      exec_ticks (print es) ls w h = then_ticks (eval_all calls es ls w) _ (exprs_ticks es ls w h) (λ vs w1 h1. h1)
      exec_ticks (panic e) ls w h = then_ticks (eval calls e ls w) panicked (eval_ticks e ls w h) (λ v w1 h1. panicked_ticks v w1)
      exec_ticks (if_statement e a b) ls w h =
          then_ticks (eval calls e ls w) _ (eval_ticks e ls w h) (λ c w1 h1. true_ticks c (exec_all calls a ls w1) (exec_all calls b ls w1) (all_ticks a ls w1 h1) (all_ticks b ls w1 h1))
      exec_ticks (for_statement o post body) ls w h =
          turns_ticks (suc w.ticks) (tested calls o) (exec_all calls body) (exec_all calls post) (tested_ticks o) (λ ls1 w1 h1. all_ticks body ls1 w1 h1) (λ ls1 w1 h1. all_ticks post ls1 w1 h1) ls w h
      exec_ticks (range_statement o t e body) ls w h =
          then_ticks (eval calls e ls w) _ (eval_ticks e ls w h) (λ v w1 h1. then_ticks (typed_or_panic t (operators.Gives v) w1) _ (given_ticks t (operators.Gives v) w1 h1)
          (λ u w2 h2. walk_to_ticks u _ (λ m. walk_ticks (suc w2.ticks) 0 m o (exec_all calls body) (λ ls1 w3 h3. all_ticks body ls1 w3 h3) ls w2 h2)))
      exec_ticks (switch_statement e cs) ls w h =
          then_ticks (eval calls e ls w) _ (eval_ticks e ls w h) (λ tag w1 h1. then_ticks (chosen calls (expr_type e) tag cs 0 None ls w1) _ (chosen_ticks (expr_type e) tag cs 0 None ls w1 h1)
          (λ o w2 h2. then_ticks (from_clause calls cs o ls w2) after_switch (clause_ticks cs o ls w2 h2) (λ f w3 h3. switched_ticks f w3 h3)))
      exec_ticks (block ss) ls w h = all_ticks ss ls w h
      exec_ticks break ls w h = h
      exec_ticks continue ls w h = h
      exec_ticks (return s) ls w h = then_ticks (source calls s ls w) _ (source_ticks s ls w h) (λ vs w1 h1. h1)

      pub all_ticks : (ss : Stmts) (ls : Locals) (w : ProgramState) → w.ticks ≤ n → NoMore n (exec_all calls ss ls w)
      all_ticks no_stmts ls w h = h
      all_ticks (some_stmts s ss) ls w h =
          then_ticks (exec calls s ls w) (if_normal (exec_all calls ss)) (exec_ticks s ls w h) (λ f w1 h1. normal_ticks (exec_all calls ss) f w1 (λ ls1 w2 h2. all_ticks ss ls1 w2 h2) h1)

      clause_ticks : (cs : Clauses) (o : Option ℕ) (ls : Locals) (w : ProgramState) → w.ticks ≤ n → NoMore n (from_clause calls cs o ls w)
      clause_ticks no_clauses o ls w h = h
      clause_ticks (clause es body falls cs) None ls w h = h
      clause_ticks (clause es body falls cs) (Some zero) ls w h =
          then_ticks (exec_all calls body ls w) (if_normal (from_clause calls cs (if falls then Some zero else None))) (all_ticks body ls w h)
          (λ f w1 h1. normal_ticks (from_clause calls cs (if falls then Some zero else None)) f w1 (λ ls1 w2 h2. clause_ticks cs (if falls then Some zero else None) ls1 w2 h2) h1)
      clause_ticks (clause es body falls cs) (Some (suc k)) ls w h = clause_ticks cs (Some k) ls w h

  -- ---- calls

  results_ticks : (f : Flow) (w : ProgramState) → w.ticks ≤ n → NoMore n (results_of f w)
  results_ticks (Normal ls) w h = h
  results_ticks (Breaks ls) w h = tt
  results_ticks (Continues ls) w h = tt
  results_ticks (Returns vs) w h = h

  enter_ticks : (o : Option Function) (vs : List Value) (w : ProgramState) (goes : Function → ProgramState → Outcome (List Value)) → w.ticks ≤ n → ((f : Function) (w1 : ProgramState) → w1.ticks ≤ n → NoMore n (goes f w1)) → NoMore n (enter_function o vs w goes)
  enter_ticks None vs w goes h k = tt
  enter_ticks (Some f) vs w goes h k = if_ticks _ (with_tick w (goes f)) Stuck (tick_ticks w (goes f) h (k f)) tt

  pub call_ticks : (packages : List Package) (left : ℕ) (s : Symbol) (vs : List Value) (w : ProgramState) → w.ticks ≤ n → NoMore n (call_at packages left s vs w)
  call_ticks packages zero s vs w h = enter_ticks (function_by_symbol packages s) vs w _ h (λ f w1 h1. tt)
  call_ticks packages (suc left) s vs w h =
      enter_ticks (function_by_symbol packages s) vs w _ h (λ f w1 h1. then_ticks (exec_all (call_at packages left) f.body (first_locals f vs) w1) results_of
      (all_ticks (call_at packages left) (call_ticks packages left) f.body (first_locals f vs) w1 h1) (λ flow w2 h2. results_ticks flow w2 h2))
