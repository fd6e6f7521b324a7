-- Well typed expressions are never stuck, and give values of their types.
use Rattle.std.proofs.Common.{◌≡◌, ℕ, ◌≤◌, Bool, true, false, ◌||◌, List, [], ◌∷◌, Option, Some, None, refl, sym, ap, subst}
use Rattle.go_const.specs.declared.constant.Const.{Const}
use Rattle.go_const.specs.declared.operator.UnaryOperator.{UnaryOperator}
use Rattle.go_types.specs.Types.{Type', basic, array, slice, struct, named}
use Rattle.go_types.specs.Relations.{underlying}
use Rattle.go_code.specs.declared.cell.Cell.TheVariants.{Bool as Truth}
use Rattle.go_code.specs.Operators as operators
use Rattle.go_code.specs.Operators.{Operated}
use Rattle.go_typed.specs.declared.expression.Operator.{Operator}
use Rattle.go_typed.specs.Trees as trees
use Rattle.go_typed.specs.Trees.{Symbol, Expr, Exprs, no_exprs, some_exprs, Perhaps, absent, present, Parts, no_parts, part, expr_type}
use Rattle.go_meaning.specs.Values.{Value, single, parts, pack_values, are_of, zero_of, to_field, part_of, updated}
use Rattle.go_meaning.specs.Choices.{cell_of, field_type, element_type, operated, unary_operators, binary_operators, conversion_operators, length_operators, capacity_operators, cut_operators}
use Rattle.go_meaning.specs.Meaning.{ProgramState, Outcome, Gives, Locals, Calls, and_then, with_cell, typed_or_panic, with_type, made, appended, selected, indexed, found, all_given, one_value, if_true, local_value, global_value, eval, eval_perhaps, eval_all, eval_parts}
use Rattle.go_meaning_laws.specs.WellTyped.{Signature, Setting, Holds, IsWhole, IsConstant, is_integer_type, is_string_type, is_bool_type, is_slice, is_unary, IsOperation, Converts, index_result_type, part_type, int_type, exprs_types, IsCall, IsExpr, IsSize, IsAppended, AreElements, AreWellTypedExprs, AreParts}
use Rattle.go_meaning_laws.proofs.Shelf.{Shelf, Grows, grows_not, Each}
use Rattle.go_meaning_laws.proofs.Values.{Of, AllOf, constant_is, zero_is, of_underlying, by_underlying, suits, of_grow}
use Rattle.go_meaning_laws.proofs.Parts.{Fine, PartOf, one_step, part_put}
use Rattle.go_meaning_laws.proofs.Operators.{IsNumber, number_cell, integer_value, IsTruth, bool_value, unary_is}
use Rattle.go_meaning_laws.proofs.Binary.{operation_is, conversion_is, indexed_is, element_found, length_is, capacity_is, one_cell, cut_is}
use Rattle.go_meaning_laws.proofs.Arrays.{window}
use Rattle.go_meaning_laws.proofs.Worlds.{Sound, sound_then, sound_map, Keeps, Valued, sound_given, sound_cell, sound_changed, global_is, Fits, local_is, fits_grow}
use Rattle.go_meaning_laws.proofs.Ticks.{NoMore}
use Rattle.go_meaning_laws.proofs.Slices.{slice_of, whole_elements, made_is, appended_is}

-- values of these types
abbrev pub AllValued : (Symbol → Option Type') → List Type' → List Value → Shelf → ProgramState → Type 0
AllValued types ts vs σ w = AllOf σ ts vs × Keeps types σ w

-- calls of functions are never stuck where their arguments have the types of their parameters, and give results of theirs; they leave no more ticks
pub record Answers (functions : Symbol → Option Signature) (types : Symbol → Option Type') (calls : Calls) : Type 0 where
  pub each : (s : Symbol) (ps rs : List Type') (vs : List Value) (σ : Shelf) (w : ProgramState) → functions s ≡ Some (record { parameters = ps; results = rs }) → AllOf σ ps vs → Keeps types σ w → Sound σ (AllValued types rs) (calls s vs w)
  pub ticks : (n : ℕ) (s : Symbol) (vs : List Value) (w : ProgramState) → w.ticks ≤ n → NoMore n (calls s vs w)

pub sound_all_given : (types : Symbol → Option Type') (ts us : List Type') (vs : List Value) (σ : Shelf) (w : ProgramState) → are_of ts vs ≡ true → AllValued types us vs σ w → Sound σ (AllValued types us) (all_given ts vs w)
sound_all_given types ts us vs σ w e h = rw e (σ, grows_not σ, h)

-- a truth value decides
pub decided : {A : Type 0} (σ : Shelf) (P : A → Shelf → ProgramState → Type 0) (v : Value) (a b : Outcome A) → IsTruth v → Sound σ P a → Sound σ P b → Sound σ P (if_true v a b)
decided σ P v a b h k l = subst (λ u. Sound σ P (if_true u a b)) (sym h.1) (by_truth h.0)
  where
    by_truth : (c : Bool) → Sound σ P (if_true (single (Truth c)) a b)
    by_truth true = k
    by_truth false = l

pub truth_in : (σ : Shelf) (t : Type') (v : Value) → is_bool_type (underlying t) ≡ true → Of σ t v → IsTruth v
truth_in σ t v e h = bool_value σ (underlying t) v e (of_underlying σ t v h)

-- a number of an integer type
abbrev pub Sized : Value → Shelf → Type 0
Sized v σ = (i : Type') × (is_integer_type (underlying i) ≡ true) × Of σ i v

pub sized_number : (σ : Shelf) (v : Value) (h : Sized v σ) → IsNumber (underlying h.0) v
sized_number σ v h = integer_value σ (underlying h.0) v h.1 (of_underlying σ h.0 v h.2)

-- what is found at an index, by the underlying type
found_is : (types : Symbol → Option Type') (s t i : Type') (v j : Value) (σ : Shelf) (w : ProgramState) → index_result_type s ≡ Some t → is_integer_type (underlying i) ≡ true → Of σ s v → Of σ i j → Keeps types σ w → Sound σ (Valued types t) (found t s v j w)
found_is types (slice u) t i v j σ w e number h k good =
    let same : u ≡ t = cc in
    let seen = window σ u v w h good.1 in
    let whole : Value = parts (pack_values seen.whole) in
    let fine : Fine (Of σ t) (indexed (slice u) whole j) = subst (λ q. Fine (Of σ q) (indexed (slice u) whole j)) same (element_found σ seen.count u i whole j number seen.typed k) in
    subst (λ (o : Outcome Value). Sound σ (Valued types t) (and_then o (λ all. typed_or_panic t (indexed (slice u) all j)))) (sym seen.found) (sound_given types t (indexed (slice u) whole j) σ w good fine)
found_is types (basic b) t i v j σ w e number h k good = sound_given types t (indexed (basic b) v j) σ w good (indexed_is σ (basic b) t i v j refl e number h k)
found_is types (array n u) t i v j σ w e number h k good = sound_given types t (indexed (array n u) v j) σ w good (indexed_is σ (array n u) t i v j refl e number h k)
found_is types (struct fs) t i v j σ w e number h k good = sound_given types t (indexed (struct fs) v j) σ w good (indexed_is σ (struct fs) t i v j refl e number h k)
found_is types (named p x u) t i v j σ w e number h k good = sound_given types t (indexed (named p x u) v j) σ w good (indexed_is σ (named p x u) t i v j refl e number h k)

module _ (calls : Calls) where
  abbrev pub Evals : Setting → List ℕ → Expr → Type 0
  Evals g d e = (ls : Locals) (σ : Shelf) (w : ProgramState) → Fits σ g.locals d ls → Keeps g.variables σ w → Sound σ (Valued g.variables (expr_type e)) (eval calls e ls w)

  abbrev pub EvalsAll : Setting → List ℕ → Exprs → Type 0
  EvalsAll g d es = (ls : Locals) (σ : Shelf) (w : ProgramState) → Fits σ g.locals d ls → Keeps g.variables σ w → Sound σ (AllValued g.variables (exprs_types es)) (eval_all calls es ls w)

  abbrev pub EvalsParts : Setting → List ℕ → Type' → Parts → Type 0
  EvalsParts g d t ps = (ls : Locals) (v : Value) (σ : Shelf) (w : ProgramState) → Fits σ g.locals d ls → Of σ t v → Keeps g.variables σ w → Sound σ (Valued g.variables t) (eval_parts calls t ps ls v w)

  -- what isn't left out, if it is
  abbrev pub EvalsPerhaps : Setting → List ℕ → Perhaps → Type 0
  EvalsPerhaps g d absent = Unit {0}
  EvalsPerhaps g d (present e) = Evals g d e

  constant_evals : (g : Setting) (d : List ℕ) (t : Type') (c : Const) → IsConstant t c → Evals g d (trees.constant t c)
  constant_evals g d t c h ls σ w fits good = sound_given g.variables t (operators.Gives (single (cell_of c))) σ w good (constant_is σ t c h)

  local_evals : (g : Setting) (d : List ℕ) (t : Type') (n : ℕ) → Holds g d n t → Evals g d (trees.local t n)
  local_evals g d t n h ls σ w fits good = sound_given g.variables t (local_value ls n) σ w good (local_is σ g.locals d ls n t fits h.0 h.1)

  global_evals : (g : Setting) (d : List ℕ) (t : Type') (s : Symbol) → g.variables s ≡ Some t → Evals g d (trees.global t s)
  global_evals g d t s h ls σ w fits good = sound_given g.variables t (global_value w.variables s) σ w good (global_is σ g.variables w.variables s t good.0 h)

  -- an expression, and a rule on its value
  one_at : (g : Setting) (d : List ℕ) (e : Expr) (t : Type') (rule : Value → Operated Value) → Evals g d e → (ls : Locals) (σ : Shelf) (w : ProgramState) → Fits σ g.locals d ls → Keeps g.variables σ w → ((later : Shelf) (v : Value) → Grows σ later → Of later (expr_type e) v → Fine (Of later t) (rule v)) → Sound σ (Valued g.variables t) (and_then (eval calls e ls w) (λ v. typed_or_panic t (rule v)))
  one_at g d e t rule evals ls σ w fits good fine =
      sound_then σ (Valued g.variables (expr_type e)) (Valued g.variables t) (eval calls e ls w) (λ v. typed_or_panic t (rule v)) (evals ls σ w fits good)
      (λ v σ1 w1 grown1 h. sound_given g.variables t (rule v) σ1 w1 h.1 (fine σ1 v grown1 h.0))

  one_evals : (g : Setting) (d : List ℕ) (e : Expr) (t : Type') (rule : Value → Operated Value) → Evals g d e → ((σ : Shelf) (v : Value) → Of σ (expr_type e) v → Fine (Of σ t) (rule v)) → (ls : Locals) (σ : Shelf) (w : ProgramState) → Fits σ g.locals d ls → Keeps g.variables σ w → Sound σ (Valued g.variables t) (and_then (eval calls e ls w) (λ v. typed_or_panic t (rule v)))
  one_evals g d e t rule evals fine ls σ w fits good = one_at g d e t rule evals ls σ w fits good (λ later v grown h. fine later v h)

  two_evals : (g : Setting) (d : List ℕ) (a b : Expr) (t : Type') (rule : Value → Value → Operated Value) → Evals g d a → Evals g d b → ((σ : Shelf) (x y : Value) → Of σ (expr_type a) x → Of σ (expr_type b) y → Fine (Of σ t) (rule x y)) → (ls : Locals) (σ : Shelf) (w : ProgramState) → Fits σ g.locals d ls → Keeps g.variables σ w → Sound σ (Valued g.variables t) (and_then (eval calls a ls w) (λ x w1. and_then (eval calls b ls w1) (λ y. typed_or_panic t (rule x y))))
  two_evals g d a b t rule first second fine ls σ w fits good =
      sound_then σ (Valued g.variables (expr_type a)) (Valued g.variables t) (eval calls a ls w) (λ x w1. and_then (eval calls b ls w1) (λ y. typed_or_panic t (rule x y))) (first ls σ w fits good)
      (λ x σ1 w1 grown1 h. one_at g d b t (rule x) second ls σ1 w1 (fits_grow grown1 fits) h.1 (λ later y grown k. fine later x y (of_grow (expr_type a) x grown h.0) k))

  selected_part : (s t : Type') (n : ℕ) (v : Value) → field_type (underlying s) n ≡ Some t → selected (underlying s) v n ≡ part_of v (to_field n)
  selected_part s t n v e = ap (λ (o : Option Type'). elim o as (λ p. Operated Value) [ None ↦ operators.Senseless | Some u ↦ part_of v (to_field n) ]) e

  selected_is : (σ : Shelf) (s t : Type') (n : ℕ) (v : Value) → field_type (underlying s) n ≡ Some t → Of σ s v → Fine (Of σ t) (selected (underlying s) v n)
  selected_is σ s t n v e h = subst (λ o. Fine (Of σ t) o) (sym (selected_part s t n v e)) (weaker (part_of v (to_field n)) (one_step σ s v (to_field n) t h e))
    where
      weaker : (o : Operated Value) → Fine (PartOf σ s v (to_field n) t) o → Fine (Of σ t) o
      weaker (operators.Gives x) k = k.0
      weaker (operators.Panics kind) k = tt
      weaker operators.Senseless k = absurd k

  field_evals : (g : Setting) (d : List ℕ) (t : Type') (e : Expr) (n : ℕ) → Evals g d e → field_type (underlying (expr_type e)) n ≡ Some t → Evals g d (trees.field t e n)
  field_evals g d t e n evals h = one_evals g d e t (λ v. selected (underlying (expr_type e)) v n) evals (λ σ v k. selected_is σ (expr_type e) t n v h k)

  index_evals : (g : Setting) (d : List ℕ) (t : Type') (e i : Expr) → Evals g d e → Evals g d i → is_integer_type (underlying (expr_type i)) ≡ true → index_result_type (underlying (expr_type e)) ≡ Some t → Evals g d (trees.index t e i)
  index_evals g d t e i first second number h ls σ w fits good =
      let s : Type' = underlying (expr_type e) in
      sound_then σ (Valued g.variables (expr_type e)) (Valued g.variables t) (eval calls e ls w) (λ v w1. and_then (eval calls i ls w1) (λ j. found t s v j)) (first ls σ w fits good)
      (λ v σ1 w1 grown1 k.
      sound_then σ1 (Valued g.variables (expr_type i)) (Valued g.variables t) (eval calls i ls w1) (λ j. found t s v j) (second ls σ1 w1 (fits_grow grown1 fits) k.1)
      (λ j σ2 w2 grown2 l. found_is g.variables s t (expr_type i) v j σ2 w2 h number (of_underlying σ2 (expr_type e) v (of_grow (expr_type e) v grown2 k.0)) l.0 l.1))

  length_evals : (g : Setting) (d : List ℕ) (t : Type') (e : Expr) → Evals g d e → (is_string_type (underlying (expr_type e)) || is_slice (underlying (expr_type e))) ≡ true → t ≡ int_type → Evals g d (trees.length t e)
  length_evals g d t e evals h is =
      let s : Type' = underlying (expr_type e) in
      one_evals g d e t (λ v. operated (length_operators s) (v ∷ [])) evals
      (λ σ v k. subst (λ u. Fine (Of σ u) (operated (length_operators s) (v ∷ []))) (sym is) (length_is σ (expr_type e) v h k))

  capacity_evals : (g : Setting) (d : List ℕ) (t : Type') (e : Expr) → Evals g d e → is_slice (underlying (expr_type e)) ≡ true → t ≡ int_type → Evals g d (trees.capacity t e)
  capacity_evals g d t e evals h is =
      one_evals g d e t (λ v. operated capacity_operators (v ∷ [])) evals
      (λ σ v k. subst (λ u. Fine (Of σ u) (operated capacity_operators (v ∷ []))) (sym is) (capacity_is σ (expr_type e) v h k))

  -- a size, or another one where it is left out
  size_evals : (g : Setting) (d : List ℕ) (o : Perhaps) (other : Operated Value) → EvalsPerhaps g d o → IsSize g d o → (ls : Locals) (σ : Shelf) (w : ProgramState) → Fits σ g.locals d ls → Keeps g.variables σ w → Fine (λ v. Sized v σ) other → Sound σ (λ v σ1 w1. Sized v σ1 × Keeps g.variables σ1 w1) (eval_perhaps calls other o ls w)
  size_evals g d absent other evals is ls σ w fits good fine = sound_changed g.variables Sized other σ w good fine
  size_evals g d (present e) other evals is ls σ w fits good fine =
      sound_map σ (Valued g.variables (expr_type e)) (λ v σ1 w1. Sized v σ1 × Keeps g.variables σ1 w1) (eval calls e ls w) (λ v σ1 w1 grown1 h. ((expr_type e, is.1, h.0), h.1)) (evals ls σ w fits good)

  as_size : (σ : Shelf) (o : Operated Value) → Fine (Of σ int_type) o → Fine (λ v. Sized v σ) o
  as_size σ (operators.Gives v) h = (int_type, refl, h)
  as_size σ (operators.Panics kind) h = tt
  as_size σ operators.Senseless h = absurd h

  cut_evals : (g : Setting) (d : List ℕ) (t : Type') (e low : Expr) (o : Perhaps) → Evals g d e → expr_type e ≡ t → (is_string_type (underlying t) || is_slice (underlying t)) ≡ true → Evals g d low → is_integer_type (underlying (expr_type low)) ≡ true → EvalsPerhaps g d o → IsSize g d o → Evals g d (trees.cut t e low o)
  cut_evals g d t e low o first same kind second number third size ls σ w fits good =
      let s : Type' = underlying (expr_type e) in
      let some : (is_string_type s || is_slice s) ≡ true = subst (λ u. (is_string_type (underlying u) || is_slice (underlying u)) ≡ true) (sym same) kind in
      sound_then σ (Valued g.variables (expr_type e)) (Valued g.variables t) (eval calls e ls w)
      (λ v w1. with_cell v (and_then (eval calls low ls w1) (λ i w2. and_then (eval_perhaps calls (operated (length_operators s) (v ∷ [])) o ls w2) (λ j. typed_or_panic t (operated (cut_operators s) (v ∷ i ∷ j ∷ [])))))) (first ls σ w fits good)
      (λ v σ1 w1 grown1 h.
      sound_cell σ1 (Valued g.variables t) v (and_then (eval calls low ls w1) (λ i w2. and_then (eval_perhaps calls (operated (length_operators s) (v ∷ [])) o ls w2) (λ j. typed_or_panic t (operated (cut_operators s) (v ∷ i ∷ j ∷ [])))))
      (one_cell σ1 s v some (of_underlying σ1 (expr_type e) v h.0))
      (sound_then σ1 (Valued g.variables (expr_type low)) (Valued g.variables t) (eval calls low ls w1)
      (λ i w2. and_then (eval_perhaps calls (operated (length_operators s) (v ∷ [])) o ls w2) (λ j. typed_or_panic t (operated (cut_operators s) (v ∷ i ∷ j ∷ [])))) (second ls σ1 w1 (fits_grow grown1 fits) h.1)
      (λ i σ2 w2 grown2 k.
      let v2 = of_grow (expr_type e) v grown2 h.0 in
      sound_then σ2 (λ j σ3 w3. Sized j σ3 × Keeps g.variables σ3 w3) (Valued g.variables t) (eval_perhaps calls (operated (length_operators s) (v ∷ [])) o ls w2) (λ j. typed_or_panic t (operated (cut_operators s) (v ∷ i ∷ j ∷ [])))
      (size_evals g d o (operated (length_operators s) (v ∷ [])) third size ls σ2 w2 (fits_grow grown2 (fits_grow grown1 fits)) k.1 (as_size σ2 _ (length_is σ2 (expr_type e) v some v2)))
      (λ j σ3 w3 grown3 l.
      sound_given g.variables t (operated (cut_operators s) (v ∷ i ∷ j ∷ [])) σ3 w3 l.1
      (subst (λ u. Fine (Of σ3 u) (operated (cut_operators s) (v ∷ i ∷ j ∷ []))) same
      (cut_is σ3 (expr_type e) (expr_type low) (l.0).0 v i j some number (l.0).1 (of_grow (expr_type e) v grown3 v2) (of_grow (expr_type low) i grown3 k.0) (l.0).2))))))

  -- a slice of a type whose underlying type it has
  sliced : (g : Setting) (t u : Type') (v : Value) (σ : Shelf) (w : ProgramState) → underlying t ≡ slice u → Valued g.variables (slice u) v σ w → Sound σ (Valued g.variables t) (typed_or_panic t (operators.Gives v) w)
  sliced g t u v σ w e h = sound_given g.variables t (operators.Gives v) σ w h.1 (by_underlying σ t v (subst (λ s. Of σ s v) (sym e) h.0))

  make_evals : (g : Setting) (d : List ℕ) (t : Type') (e : Expr) (o : Perhaps) → IsWhole t → is_slice (underlying t) ≡ true → Evals g d e → is_integer_type (underlying (expr_type e)) ≡ true → EvalsPerhaps g d o → IsSize g d o → Evals g d (trees.make t e o)
  make_evals g d t e o whole kind first number second size ls σ w fits good =
      let u = (slice_of (underlying t) kind).0 in
      let is : underlying t ≡ slice u = (slice_of (underlying t) kind).1 in
      let next : Type' → Outcome Value = λ q. and_then (eval calls e ls w) (λ n w1. with_cell n (and_then (eval_perhaps calls (operators.Gives n) o ls w1) (λ c w2. and_then (made q n c w2) (λ v. typed_or_panic t (operators.Gives v))))) in
      subst (λ s. Sound σ (Valued g.variables t) (with_type (element_type s) next)) (sym is)
      (sound_then σ (Valued g.variables (expr_type e)) (Valued g.variables t) (eval calls e ls w)
      (λ n w1. with_cell n (and_then (eval_perhaps calls (operators.Gives n) o ls w1) (λ c w2. and_then (made u n c w2) (λ v. typed_or_panic t (operators.Gives v))))) (first ls σ w fits good)
      (λ n σ1 w1 grown1 h.
      sound_cell σ1 (Valued g.variables t) n (and_then (eval_perhaps calls (operators.Gives n) o ls w1) (λ c w2. and_then (made u n c w2) (λ v. typed_or_panic t (operators.Gives v))))
      (number_cell (underlying (expr_type e)) n (sized_number σ1 n (expr_type e, number, h.0)))
      (sound_then σ1 (λ c σ2 w2. Sized c σ2 × Keeps g.variables σ2 w2) (Valued g.variables t) (eval_perhaps calls (operators.Gives n) o ls w1) (λ c w2. and_then (made u n c w2) (λ v. typed_or_panic t (operators.Gives v)))
      (size_evals g d o (operators.Gives n) second size ls σ1 w1 (fits_grow grown1 fits) h.1 (expr_type e, number, h.0))
      (λ c σ2 w2 grown2 k.
      let n2 : Sized n σ2 = (expr_type e, number, of_grow (expr_type e) n grown2 h.0) in
      sound_then σ2 (Valued g.variables (slice u)) (Valued g.variables t) (made u n c w2) (λ v. typed_or_panic t (operators.Gives v))
      (made_is g.variables u (underlying (expr_type e)) (underlying (k.0).0) n c σ2 w2 (whole_elements t u is whole) (sized_number σ2 n n2) (sized_number σ2 c k.0) k.1)
      (λ v σ3 w3 grown3 l. sliced g t u v σ3 w3 is l)))))

  -- elements have the type of a slice's elements
  elements_suit : (g : Setting) (d : List ℕ) (u : Type') (es : Exprs) (vs : List Value) (σ : Shelf) → AreElements g d u es → AllOf σ (exprs_types es) vs → Each (Of σ u) vs
  elements_suit g d u no_exprs [] σ h k = tt
  elements_suit g d u no_exprs (v ∷ vs) σ h k = absurd k
  elements_suit g d u (some_exprs e es) [] σ h k = absurd k
  elements_suit g d u (some_exprs e es) (v ∷ vs) σ h k = (suits σ (expr_type e) u v h.1 k.0, elements_suit g d u es vs σ h.2 k.1)

  -- what is appended to, or none
  appended_to : (g : Setting) (d : List ℕ) (t : Type') (o : Perhaps) → IsWhole t → EvalsPerhaps g d o → IsAppended g d t o → (ls : Locals) (σ : Shelf) (w : ProgramState) → Fits σ g.locals d ls → Keeps g.variables σ w → Sound σ (Valued g.variables t) (eval_perhaps calls (operators.Gives (zero_of t)) o ls w)
  appended_to g d t absent whole evals is ls σ w fits good = sound_changed g.variables (λ v σ1. Of σ1 t v) (operators.Gives (zero_of t)) σ w good (zero_is σ t whole)
  appended_to g d t (present e) whole evals is ls σ w fits good = subst (λ u. Sound σ (Valued g.variables u) (eval calls e ls w)) is.1 (evals ls σ w fits good)

  append_evals : (g : Setting) (d : List ℕ) (t u : Type') (o : Perhaps) (es : Exprs) → IsWhole t → underlying t ≡ slice u → EvalsPerhaps g d o → IsAppended g d t o → EvalsAll g d es → AreElements g d u es → Evals g d (trees.append t o es)
  append_evals g d t u o es whole is first to second elements ls σ w fits good =
      let next : Type' → Outcome Value = λ q. and_then (eval_perhaps calls (operators.Gives (zero_of t)) o ls w) (λ v w1. and_then (eval_all calls es ls w1) (λ vs w2. and_then (appended q v vs w2) (λ r. typed_or_panic t (operators.Gives r)))) in
      subst (λ s. Sound σ (Valued g.variables t) (with_type (element_type s) next)) (sym is)
      (sound_then σ (Valued g.variables t) (Valued g.variables t) (eval_perhaps calls (operators.Gives (zero_of t)) o ls w)
      (λ v w1. and_then (eval_all calls es ls w1) (λ vs w2. and_then (appended u v vs w2) (λ r. typed_or_panic t (operators.Gives r)))) (appended_to g d t o whole first to ls σ w fits good)
      (λ v σ1 w1 grown1 h.
      sound_then σ1 (AllValued g.variables (exprs_types es)) (Valued g.variables t) (eval_all calls es ls w1) (λ vs w2. and_then (appended u v vs w2) (λ r. typed_or_panic t (operators.Gives r))) (second ls σ1 w1 (fits_grow grown1 fits) h.1)
      (λ vs σ2 w2 grown2 k.
      let v2 : Of σ2 (slice u) v = subst (λ s. Of σ2 s v) is (of_underlying σ2 t v (of_grow t v grown2 h.0)) in
      sound_then σ2 (Valued g.variables (slice u)) (Valued g.variables t) (appended u v vs w2) (λ r. typed_or_panic t (operators.Gives r))
      (appended_is g.variables u v vs σ2 w2 (whole_elements t u is whole) v2 (elements_suit g d u es vs σ2 elements k.0) k.1)
      (λ r σ3 w3 grown3 l. sliced g t u r σ3 w3 is l))))

  unary_evals : (g : Setting) (d : List ℕ) (t : Type') (op : UnaryOperator) (e : Expr) → Evals g d e → expr_type e ≡ t → is_unary op (underlying t) ≡ true → Evals g d (trees.unary t op e)
  unary_evals g d t op e evals same h =
      one_evals g d e t (λ v. operated (unary_operators (underlying t) op) (v ∷ [])) evals (λ σ v k. unary_is σ t v op h (subst (λ u. Of σ u v) same k))

  binary_evals : (g : Setting) (d : List ℕ) (t : Type') (op : Operator) (a b : Expr) → Evals g d a → Evals g d b → IsOperation op t (expr_type a) (expr_type b) → Evals g d (trees.binary t op a b)
  binary_evals g d t op a b first second h =
      two_evals g d a b t (λ x y. operated (binary_operators (underlying (expr_type a)) op) (x ∷ y ∷ [])) first second
      (λ σ x y k l. operation_is σ op t (expr_type a) (expr_type b) x y h k l)

  conversion_evals : (g : Setting) (d : List ℕ) (t : Type') (e : Expr) → Evals g d e → Converts (underlying (expr_type e)) (underlying t) → Evals g d (trees.conversion t e)
  conversion_evals g d t e evals h =
      one_evals g d e t (λ v. operated (conversion_operators (underlying t)) (v ∷ [])) evals (λ σ v k. conversion_is σ (expr_type e) t v h k)

  -- one of two outcomes, by what is given first
  chosen_evals : (g : Setting) (t : Type') (σ : Shelf) (o : Outcome Value) → Sound σ (Valued g.variables t) o → Sound σ (Valued g.variables t) (and_then o (λ y. typed_or_panic t (operators.Gives y)))
  chosen_evals g t σ o h =
      sound_then σ (Valued g.variables t) (Valued g.variables t) o (λ y. typed_or_panic t (operators.Gives y)) h (λ y later w grown k. sound_given g.variables t (operators.Gives y) later w k.1 k.0)

  both_evals : (g : Setting) (d : List ℕ) (t : Type') (a b : Expr) → Evals g d a → Evals g d b → expr_type a ≡ t → expr_type b ≡ t → is_bool_type (underlying t) ≡ true → Evals g d (trees.both t a b)
  both_evals g d t a b first second same_a same_b bool ls σ w fits good =
      sound_then σ (Valued g.variables (expr_type a)) (Valued g.variables t) (eval calls a ls w) (λ x w1. and_then (if_true x (eval calls b ls w1) (Gives x w1)) (λ y. typed_or_panic t (operators.Gives y))) (first ls σ w fits good)
      (λ x σ1 w1 grown1 h.
      let hx : Of σ1 t x = subst (λ u. Of σ1 u x) same_a h.0 in
      let hb : Sound σ1 (Valued g.variables t) (eval calls b ls w1) = subst (λ u. Sound σ1 (Valued g.variables u) (eval calls b ls w1)) same_b (second ls σ1 w1 (fits_grow grown1 fits) h.1) in
      chosen_evals g t σ1 (if_true x (eval calls b ls w1) (Gives x w1)) (decided σ1 (Valued g.variables t) x (eval calls b ls w1) (Gives x w1) (truth_in σ1 t x bool hx) hb (σ1, grows_not σ1, (hx, h.1))))

  either_evals : (g : Setting) (d : List ℕ) (t : Type') (a b : Expr) → Evals g d a → Evals g d b → expr_type a ≡ t → expr_type b ≡ t → is_bool_type (underlying t) ≡ true → Evals g d (trees.either t a b)
  either_evals g d t a b first second same_a same_b bool ls σ w fits good =
      sound_then σ (Valued g.variables (expr_type a)) (Valued g.variables t) (eval calls a ls w) (λ x w1. and_then (if_true x (Gives x w1) (eval calls b ls w1)) (λ y. typed_or_panic t (operators.Gives y))) (first ls σ w fits good)
      (λ x σ1 w1 grown1 h.
      let hx : Of σ1 t x = subst (λ u. Of σ1 u x) same_a h.0 in
      let hb : Sound σ1 (Valued g.variables t) (eval calls b ls w1) = subst (λ u. Sound σ1 (Valued g.variables u) (eval calls b ls w1)) same_b (second ls σ1 w1 (fits_grow grown1 fits) h.1) in
      chosen_evals g t σ1 (if_true x (Gives x w1) (eval calls b ls w1)) (decided σ1 (Valued g.variables t) x (Gives x w1) (eval calls b ls w1) (truth_in σ1 t x bool hx) (σ1, grows_not σ1, (hx, h.1)) hb))

  literal_evals : (g : Setting) (d : List ℕ) (t : Type') (ps : Parts) → IsWhole t → EvalsParts g d t ps → Evals g d (trees.literal t ps)
  literal_evals g d t ps whole evals ls σ w fits good =
      sound_then σ (Valued g.variables t) (Valued g.variables t) (typed_or_panic t (operators.Gives (zero_of t)) w) (eval_parts calls t ps ls)
      (sound_given g.variables t (operators.Gives (zero_of t)) σ w good (zero_is σ t whole)) (λ v σ1 w1 grown1 h. evals ls v σ1 w1 (fits_grow grown1 fits) h.0 h.1)

  part_evals : (g : Setting) (d : List ℕ) (t : Type') (n : ℕ) (e : Expr) (ps : Parts) → Evals g d e → part_type (underlying t) n ≡ Some (expr_type e) → EvalsParts g d t ps → EvalsParts g d t (part n e ps)
  part_evals g d t n e ps first has rest ls v σ w fits h good =
      sound_then σ (Valued g.variables (expr_type e)) (Valued g.variables t) (eval calls e ls w) (λ x w1. and_then (typed_or_panic t (updated (to_field n ∷ []) v x) w1) (eval_parts calls t ps ls)) (first ls σ w fits good)
      (λ x σ1 w1 grown1 k.
      sound_then σ1 (Valued g.variables t) (Valued g.variables t) (typed_or_panic t (updated (to_field n ∷ []) v x) w1) (eval_parts calls t ps ls)
      (sound_given g.variables t (updated (to_field n ∷ []) v x) σ1 w1 k.1 (part_put σ1 t n (expr_type e) v x has (of_grow t v grown1 h) k.0)) (λ y σ2 w2 grown2 l. rest ls y σ2 w2 (fits_grow grown2 (fits_grow grown1 fits)) l.0 l.1))

  -- the one result of a call
  one_result : (g : Setting) (t : Type') (rs : List Value) (σ : Shelf) (w : ProgramState) → AllValued g.variables (t ∷ []) rs σ w → Sound σ (Valued g.variables t) (and_then (all_given (t ∷ []) rs w) one_value)
  one_result g t [] σ w h = absurd h.0
  one_result g t (v ∷ []) σ w h = rw (((h.0).0).0) (σ, grows_not σ, ((h.0).0, h.1))
  one_result g t (v ∷ u ∷ us) σ w h = absurd (h.0).1

  call_evals : (g : Setting) (d : List ℕ) (t : Type') (s : Symbol) (es : Exprs) → Answers g.functions g.variables calls → EvalsAll g d es → IsCall g s (exprs_types es) (t ∷ []) → Evals g d (trees.call t s es)
  call_evals g d t s es answers evals is ls σ w fits good =
      sound_then σ (AllValued g.variables (exprs_types es)) (Valued g.variables t) (eval_all calls es ls w) (λ vs w1. and_then (calls s vs w1) (λ rs w2. and_then (all_given (t ∷ []) rs w2) one_value)) (evals ls σ w fits good)
      (λ vs σ1 w1 grown1 h.
      sound_then σ1 (AllValued g.variables (t ∷ [])) (Valued g.variables t) (calls s vs w1) (λ rs w2. and_then (all_given (t ∷ []) rs w2) one_value)
      (answers.each s (exprs_types es) (t ∷ []) vs σ1 w1 is h.0 h.1) (λ rs σ2 w2 grown2 k. one_result g t rs σ2 w2 k))

  some_evals : (g : Setting) (d : List ℕ) (e : Expr) (es : Exprs) → Evals g d e → EvalsAll g d es → EvalsAll g d (some_exprs e es)
  some_evals g d e es first rest ls σ w fits good =
      sound_then σ (Valued g.variables (expr_type e)) (AllValued g.variables (exprs_types (some_exprs e es))) (eval calls e ls w) (λ v w1. and_then (eval_all calls es ls w1) (λ vs w2. Gives (v ∷ vs) w2)) (first ls σ w fits good)
      (λ v σ1 w1 grown1 h.
      sound_then σ1 (AllValued g.variables (exprs_types es)) (AllValued g.variables (exprs_types (some_exprs e es))) (eval_all calls es ls w1) (λ vs w2. Gives (v ∷ vs) w2) (rest ls σ1 w1 (fits_grow grown1 fits) h.1)
      (λ vs σ2 w2 grown2 k. (σ2, grows_not σ2, ((of_grow (expr_type e) v grown2 h.0, k.0), k.1))))

  -- ---- all expressions

  mutual
    pub expr_evals : (g : Setting) (d : List ℕ) → Answers g.functions g.variables calls → (e : Expr) → IsExpr g d e → Evals g d e
    expr_evals g d a (trees.constant t c) h = constant_evals g d t c h
    expr_evals g d a (trees.local t n) h = local_evals g d t n h
    expr_evals g d a (trees.global t s) h = global_evals g d t s h
    expr_evals g d a (trees.field t e n) h = field_evals g d t e n (expr_evals g d a e h.0) h.1
    expr_evals g d a (trees.index t e i) h = index_evals g d t e i (expr_evals g d a e h.0) (expr_evals g d a i h.1) h.2 h.3
    expr_evals g d a (trees.length t e) h = length_evals g d t e (expr_evals g d a e h.0) h.1 h.2
    expr_evals g d a (trees.capacity t e) h = capacity_evals g d t e (expr_evals g d a e h.0) h.1 h.2
    expr_evals g d a (trees.cut t e low o) h = cut_evals g d t e low o (expr_evals g d a e h.0) h.1 h.2 (expr_evals g d a low h.3) h.4 (size_known g d a o h.5) h.5
    expr_evals g d a (trees.make t e o) h = make_evals g d t e o h.0 h.1 (expr_evals g d a e h.2) h.3 (size_known g d a o h.4) h.4
    expr_evals g d a (trees.append t o es) h = append_evals g d t (h.2).0 o es h.0 (h.2).1 (slice_known g d a t o h.1) h.1 (elements_evals g d a (h.2).0 es (h.2).2) (h.2).2
    expr_evals g d a (trees.unary t op e) h = unary_evals g d t op e (expr_evals g d a e h.0) h.1 h.2
    expr_evals g d a (trees.binary t op x y) h = binary_evals g d t op x y (expr_evals g d a x h.0) (expr_evals g d a y h.1) h.2
    expr_evals g d a (trees.both t x y) h = both_evals g d t x y (expr_evals g d a x h.0) (expr_evals g d a y h.1) h.2 h.3 h.4
    expr_evals g d a (trees.either t x y) h = either_evals g d t x y (expr_evals g d a x h.0) (expr_evals g d a y h.1) h.2 h.3 h.4
    expr_evals g d a (trees.conversion t e) h = conversion_evals g d t e (expr_evals g d a e h.0) h.1
    expr_evals g d a (trees.literal t ps) h = literal_evals g d t ps h.0 (parts_evals g d a t ps h.1)
    expr_evals g d a (trees.call t s es) h = call_evals g d t s es a (exprs_evals g d a es h.0) h.1

    size_known : (g : Setting) (d : List ℕ) → Answers g.functions g.variables calls → (o : Perhaps) → IsSize g d o → EvalsPerhaps g d o
    size_known g d a absent h = tt
    size_known g d a (present e) h = expr_evals g d a e h.0

    slice_known : (g : Setting) (d : List ℕ) → Answers g.functions g.variables calls → (t : Type') (o : Perhaps) → IsAppended g d t o → EvalsPerhaps g d o
    slice_known g d a t absent h = tt
    slice_known g d a t (present e) h = expr_evals g d a e h.0

    elements_evals : (g : Setting) (d : List ℕ) → Answers g.functions g.variables calls → (u : Type') (es : Exprs) → AreElements g d u es → EvalsAll g d es
    elements_evals g d a u no_exprs h = λ ls σ w fits good. (σ, grows_not σ, (tt, good))
    elements_evals g d a u (some_exprs e es) h = some_evals g d e es (expr_evals g d a e h.0) (elements_evals g d a u es h.2)

    pub exprs_evals : (g : Setting) (d : List ℕ) → Answers g.functions g.variables calls → (es : Exprs) → AreWellTypedExprs g d es → EvalsAll g d es
    exprs_evals g d a no_exprs h = λ ls σ w fits good. (σ, grows_not σ, (tt, good))
    exprs_evals g d a (some_exprs e es) h = some_evals g d e es (expr_evals g d a e h.0) (exprs_evals g d a es h.1)

    parts_evals : (g : Setting) (d : List ℕ) → Answers g.functions g.variables calls → (t : Type') (ps : Parts) → AreParts g d t ps → EvalsParts g d t ps
    parts_evals g d a t no_parts h = λ ls v σ w fits k good. (σ, grows_not σ, (k, good))
    parts_evals g d a t (part n e ps) h = part_evals g d t n e ps (expr_evals g d a e h.0) h.1 (parts_evals g d a t ps h.2)
