-- Rules over parts that are known pass nothing over.
use Rattle.std.proofs.Common.{◌≡◌, ℕ, pos, negsuc, not, ◌&&◌, ◌||◌, Option, Some, None, unwrap_or, Result, Ok, Err, List, [], ◌∷◌, ◌++◌, map, length, codes, refl, inl, inr}
use Rattle.std.specs.Prelude.{nat_le, nat_eq, nat_lt, bytes_eq, is_some}
use Rattle.std.specs.List.{list_any, filter_map, flat_map, zip}
use Rattle.std.specs.Map.{lookup}
use Rattle.std.proofs.lemmas.Bool.{cases_Bool}
use Rattle.go_text.specs.declared.fault.FaultKind.{FaultKind}
use Rattle.go_text.specs.declared.fault.FaultKind.TheVariants.{LeftOut, Mismatch, Index, Count}
use Rattle.go_text.specs.Faults.{fault_number}
use Rattle.go_ast.specs.declared.expression.UnaryOperator as signs
use Rattle.go_ast.specs.declared.expression.BinaryOperator as source
use Rattle.go_ast.specs.declared.expression.BinaryOperator.TheVariants as operators
use Rattle.go_const.specs.declared.constant.Const.{Const}
use Rattle.go_const.specs.declared.constant.Const.TheVariants.{Integer, Text, Bool as Truth}
use Rattle.go_const.specs.declared.error.ConstError.{ConstError}
use Rattle.go_const.specs.declared.error.ConstError.TheVariants as errors
use Rattle.go_const.specs.declared.operator.BinaryOperator.{BinaryOperator}
use Rattle.go_const.specs.declared.operator.BinaryOperator.TheVariants.{Arithmetic, Comparison, LogicalAnd, LogicalOr}
use Rattle.go_const.specs.declared.operator.ArithmeticOperator.TheVariants.{Add, Subtract, Multiply, Divide, Remainder, BitAnd, BitOr, BitXor, AndNot}
use Rattle.go_const.specs.declared.operator.ComparisonOperator.TheVariants.{Equal, NotEqual, Less, LessOrEqual, Greater, GreaterOrEqual}
use Rattle.go_const.specs.declared.operator.ShiftOperator.{ShiftOperator}
use Rattle.go_const.specs.declared.operator.ShiftOperator.TheVariants.{Left, Right}
use Rattle.go_types.specs.declared.types.Basic.TheVariants as basics
use Rattle.go_types.specs.declared.types.Untyped.TheVariants as kinds
use Rattle.go_types.specs.Types.{Type', basic, array, slice, struct}
use Rattle.go_types.specs.Relations.{underlying, assignable, convertible}
use Rattle.go_typed.specs.Trees.{Symbol, Expr, constant, append, absent, present, literal as typed_literal, expr_type, pack_exprs, pack_parts}
use Rattle.go_expr.specs.Known.{value, type', function, println, length', capacity', make', append', panic', Names, Known, declared, package', results, printed, panicked, Verdict, Fine, Breaks, Passed, named}
use Rattle.go_expr.specs.Rules.{fine, checked, valued, wrong, lesser_fault, least, fine_list, constant_in, constant_or_fault, int_kind, is_integer, is_untyped, is_bool, is_string, lies_in, uint, type_due, is_small, array_verdict, slice_verdict, slice_element, int, is_exported, FieldList, field_names, pack_field_list, are_distinct, listed, struct_of, assigned, default_type, defaulted, condition, constant_due, value_due, unpackaged, unprinted, selectable, callable, literal, numeral, digits_number, ElementList, when, any_keyed, parts_by, struct_faults, struct_slot, array_parts, struct_parts, parts_of, slice_parts, literal_of, Due, taken as due_taken, written as due_written, nothing as due_nothing, untyped_literal, printing, field_named, fields_of, is_visible, field_verdict, exported, selection_verdict, exported_by, indexed_type, is_within, known_length, index_verdict, is_bound, bound_verdict, are_ordered, cut_to, given_bounds, cut_of, size_verdict, made_of, make_verdict, append_verdict, converted, holds_call, length_verdict, length_of, capacity_of, one, function_call, printable, called, common, is_defined, result_type, divides_by_zero, operation_verdict, operand_type, combined, shift_of, shift_verdict, binary_verdict, operator_of, is_operand, unary_verdict}
use Rattle.go_package_laws.specs.Finds.{IsDetermined}
use Rattle.go_package_laws.proofs.Completeness.Plain.{IsPlain, represented, one_operand, two_operands, shift_operands}

abbrev pub IsAsked : {A : Type 0} → Verdict A → Type 0
IsAsked Passed = ⊥
IsAsked v = Unit {0}

pub through : {A B : Type 0} (rule : A → Verdict B) (v : Verdict A) → ((x : A) → IsAsked (rule x)) → IsAsked v → IsAsked (checked rule v)
through rule (Fine x) each h = each x
through rule (Breaks kind) each h = tt
through rule Passed each h = absurd h

pub as_value : (v : Verdict Expr) → IsAsked v → IsDetermined (valued v)
as_value (Fine e) h = tt
as_value (Breaks kind) h = tt
as_value Passed h = absurd h

pub constant_given : (t : Type') (r : Result Const ConstError) → IsPlain r → IsAsked (constant_or_fault t r)
constant_given t (Ok c) h = tt
constant_given t (Err errors.Mismatch) h = tt
constant_given t (Err errors.Range) h = tt
constant_given t (Err errors.Constant) h = tt
constant_given t (Err errors.Divide) h = tt
constant_given t (Err errors.Memory) h = absurd h

pub literals : (text : List ℕ) → IsAsked (literal text)
literals text = constant_given (basic (basics.Untyped kinds.Int)) _ (represented None (pos (digits_number (numeral text).0 (numeral text).1)))

pub together : {A : Type 0} (ks : List FaultKind) (vs : List (Verdict A)) → IsAsked (fine_list ks vs)
together {A} ks vs = elim (least (ks ++ flat_map wrong vs)) as (λ o. least (ks ++ flat_map wrong vs) ≡ o → IsAsked (fine_list ks vs)) [ None ↦ λ at. rw (at, IsAsked) tt | Some k ↦ λ at. rw (at, IsAsked) tt ] refl

-- a rule over each of some, where none breaks its own
listed_through : {A B : Type 0} (rule : List A → Verdict B) (ks : List FaultKind) (vs : List (Verdict A)) → (least (ks ++ flat_map wrong vs) ≡ None → IsAsked (rule (filter_map fine vs))) → IsAsked (checked rule (fine_list ks vs))
listed_through {A} {B} rule ks vs h = elim (least (ks ++ flat_map wrong vs)) as (λ o. least (ks ++ flat_map wrong vs) ≡ o → IsAsked (checked rule (fine_list ks vs))) [
  | None ↦ λ at. rw (at, IsAsked) (h at)
  | Some k ↦ λ at. rw (at, IsAsked) tt
] refl

some_lesser : (k : FaultKind) (o : Option FaultKind) → lesser_fault (Some k) o ≡ None → ⊥
some_lesser k None h = cc
some_lesser k (Some l) h = elim (cases_Bool (nat_le (fault_number k) (fault_number l))) [
  | inl is ↦ (let no : Some k ≡ None = rw is at h in cc (no))
  | inr not_so ↦ (let no : Some l ≡ None = rw not_so at h in cc (no))
]

some_least : (ks : List FaultKind) (k : FaultKind) (ls : List FaultKind) → least (ks ++ k ∷ ls) ≡ None → ⊥
some_least [] k ls h = some_lesser k (least ls) h
some_least (j ∷ ks) k ls h = some_lesser j (least (ks ++ k ∷ ls)) h

counted_least : (ks ls : List FaultKind) (k : FaultKind) → least ((ks ++ k ∷ []) ++ ls) ≡ None → ⊥
counted_least [] ls k h = some_lesser k (least ls) h
counted_least (j ∷ ks) ls k h = some_lesser j (least ((ks ++ k ∷ []) ++ ls)) h

one_listed : {A B : Type 0} (rule : List A → Verdict B) (ks : List FaultKind) (v : Verdict A) → IsAsked v → ((x : A) → IsAsked (rule (x ∷ []))) → least (ks ++ flat_map wrong (v ∷ [])) ≡ None →
    IsAsked (rule (filter_map fine (v ∷ [])))
one_listed rule ks (Fine x) h each none = each x
one_listed rule ks (Breaks k) h each none = absurd (some_least ks k [] none)
one_listed rule ks Passed h each none = absurd h

two_listed : {A B : Type 0} (rule : List A → Verdict B) (ks : List FaultKind) (v w : Verdict A) → IsAsked v → IsAsked w → ((x y : A) → IsAsked (rule (x ∷ y ∷ []))) →
    least (ks ++ flat_map wrong (v ∷ w ∷ [])) ≡ None → IsAsked (rule (filter_map fine (v ∷ w ∷ [])))
two_listed rule ks (Fine x) (Fine y) h i each none = each x y
two_listed rule ks (Fine x) (Breaks k) h i each none = absurd (some_least ks k [] none)
two_listed rule ks (Fine x) Passed h i each none = absurd i
two_listed rule ks (Breaks k) w h i each none = absurd (some_least ks k (flat_map wrong (w ∷ [])) none)
two_listed rule ks Passed w h i each none = absurd h

-- ---- types

pub types_due : (k : Known) → IsAsked (type_due k)
types_due (declared (type' t)) = tt
types_due (declared d) = tt
types_due k = tt

sized : (size : Expr) (of : Type') (n : ℕ) → constant_in size ≡ Some (Integer (pos n)) → IsAsked (array_verdict size of)
sized size of n at = elim (cases_Bool (nat_le n 65536 && is_small (array n of))) [ inl is ↦ rw (at, IsAsked, is) tt | inr not_so ↦ rw (at, IsAsked, not_so) tt ]

pub arrays : (size : Expr) (of : Type') → IsAsked (array_verdict size of)
arrays size of = elim (constant_in size) as (λ o. constant_in size ≡ o → IsAsked (array_verdict size of)) [
  | None ↦ λ at. rw (at, IsAsked) tt
  | Some (Integer (pos n)) ↦ sized size of n
  | Some (Integer (negsuc n)) ↦ λ at. rw (at, IsAsked) tt
  | Some (Text bytes) ↦ λ at. rw (at, IsAsked) tt
  | Some (Truth b) ↦ λ at. rw (at, IsAsked) tt
] refl

pub slices : (of : Type') → IsAsked (slice_verdict of)
slices of = elim (cases_Bool (is_small (slice of))) [ inl is ↦ rw is tt | inr not_so ↦ rw not_so tt ]

pub structs : (fs : FieldList) → IsAsked (struct_of fs)
structs fs = elim (cases_Bool (list_any (bytes_eq (codes "_")) (field_names fs))) [
  | inl blank ↦ rw blank tt
  | inr named ↦ elim (cases_Bool (not (is_small (struct (pack_field_list fs))))) [
    | inl large ↦ rw (named, large) tt
    | inr small ↦ elim (cases_Bool (are_distinct (field_names fs))) [ inl is ↦ rw (named, small, is) tt | inr not_so ↦ rw (named, small, not_so) tt ]
  ]
]

-- ---- values

pub assignments : (t : Type') (e : Expr) → IsAsked (assigned t e)
assignments t e = elim (cases_Bool (not (assignable (expr_type e) t))) [
  | inl unfit ↦ rw unfit tt
  | inr fit ↦ elim (cases_Bool (lies_in t e)) [ inl is ↦ rw (fit, is) tt | inr not_so ↦ rw (fit, not_so) tt ]
]

pub defaults : (e : Expr) → IsAsked (defaulted e)
defaults e = assignments (default_type (expr_type e)) e

pub values_due : (k : Known) → IsAsked (value_due k)
values_due (declared (value e)) = tt
values_due (declared d) = tt
values_due k = tt

pub constants_due : (e : Expr) → IsAsked (constant_due e)
constants_due e = elim (cases_Bool (is_some (constant_in e))) [ inl is ↦ rw is tt | inr not_so ↦ rw not_so tt ]

pub conditions : (e : Expr) → IsAsked (condition e)
conditions e = elim (cases_Bool (is_bool (expr_type e))) [ inl is ↦ rw is (defaults e) | inr not_so ↦ rw not_so tt ]

-- what is no package has no names
pub unpackaged_told : (k : Known) → IsDetermined (unpackaged k)
unpackaged_told (declared d) = tt
unpackaged_told (package' names) = tt
unpackaged_told (results ts s es) = tt
unpackaged_told (printed es) = tt
unpackaged_told (panicked e) = tt

-- what is no call of Println is asked for nothing where a type is made
pub unprinted_asked : (k : Known) → IsAsked (unprinted k)
unprinted_asked (declared d) = tt
unprinted_asked (package' names) = tt
unprinted_asked (results ts s es) = tt
unprinted_asked (printed es) = tt
unprinted_asked (panicked e) = tt

pub selectable_told : (k : Known) → IsDetermined (Fine k) → IsDetermined (selectable k)
selectable_told (package' names) whole = whole
selectable_told k whole = as_value (value_due k) (values_due k)

pub callable_told : (k : Known) → IsDetermined (callable k)
callable_told (declared d) = tt
callable_told k = as_value (value_due k) (values_due k)

-- ---- composite literals

array_elements : (n : ℕ) (of : Type') (es : ElementList) → IsAsked (array_parts n of es)
array_elements n of es = together (when (any_keyed es) LeftOut ++ when (nat_lt n (length es)) Index) (parts_by (λ i key. Some (i, of)) es)

struct_elements : (path : List ℕ) (fs : FieldList) (es : ElementList) → IsAsked (struct_parts path fs es)
struct_elements path fs es = together (struct_faults path fs es) (parts_by (struct_slot fs es) es)

parts : (path : List ℕ) (t : Type') (es : ElementList) → IsAsked (parts_of path t es)
parts path t es = elim (underlying t) as (λ u. underlying t ≡ u → IsAsked (parts_of path t es)) [
  | array n of ↦ λ at. rw (at, IsAsked) (array_elements n of es)
  | struct fs ↦ λ at. rw (at, IsAsked) (struct_elements path (listed fs) es)
  | _ ↦ λ at. rw (at, IsAsked) tt
] refl

abbrev slice_literal : Type' → List Expr → Verdict Expr
slice_literal t xs = Fine (append t absent (pack_exprs xs))

abbrev parts_literal : Type' → List (ℕ × Expr) → Verdict Expr
parts_literal t ps = Fine (typed_literal t (pack_parts ps))

pub literals_of : (path : List ℕ) (t : Type') (es : ElementList) → IsAsked (literal_of path t es)
literals_of path t es = elim (slice_element t) as (λ o. slice_element t ≡ o → IsAsked (literal_of path t es)) [
  | Some of ↦ λ at. rw (at, IsAsked) (through (slice_literal t) (slice_parts of es) (λ x. tt) (together (when (any_keyed es) LeftOut) (map (λ e. assigned of e.1) es)))
  | None ↦ λ at. rw (at, IsAsked) (through (parts_literal t) (parts_of path t es) (λ x. tt) (parts path t es))
] refl

-- of two faults one is told
abbrev told_kind : Option FaultKind → Verdict Expr
told_kind o = elim o [ None ↦ Passed | Some kind ↦ Breaks kind ]

some_unwritten : (k : FaultKind) (o : Option FaultKind) → IsAsked (told_kind (lesser_fault (Some k) o))
some_unwritten k None = tt
some_unwritten k (Some l) = elim (cases_Bool (nat_le (fault_number k) (fault_number l))) [ inl is ↦ rw is tt | inr not_so ↦ rw not_so tt ]

pub untyped : (path : List ℕ) (due : Due) (es : ElementList) → IsAsked (untyped_literal path due es)
untyped path (due_taken t) es = literals_of path t es
untyped path (due_written None) es = tt
untyped path (due_written (Some t)) es = some_unwritten Mismatch (least (wrong (literal_of path t es)))
untyped path due_nothing es = tt

-- ---- selectors, index expressions and calls

fields : (path x : List ℕ) (e : Expr) → IsAsked (field_verdict path x e)
fields path x e = elim (field_named x (fields_of (expr_type e))) as (λ o. field_named x (fields_of (expr_type e)) ≡ o → IsAsked (field_verdict path x e)) [
  | None ↦ λ at. rw (at, IsAsked) tt
  | Some f ↦ λ at. elim (cases_Bool (is_visible path (f.1).0)) [ inl is ↦ rw (at, IsAsked, is) tt | inr not_so ↦ rw (at, IsAsked, not_so) tt ]
] refl

exports : (names : Names) (x : List ℕ) → IsDetermined (Fine (package' names)) → IsDetermined (exported x names)
exports names x whole = elim (cases_Bool (is_exported x)) [
  | inr not_so ↦ rw not_so tt
  | inl is ↦ elim (lookup (bytes_eq x) names) as (λ o. lookup (bytes_eq x) names ≡ o → IsDetermined (exported x names)) [
    | None ↦ λ at. rw (is, at) tt
    | Some None ↦ λ at. absurd (whole x at)
    | Some (Some d) ↦ λ at. rw (is, at) tt
  ] refl
]

pub selections : (path x : List ℕ) (k : Known) → IsDetermined (Fine k) → IsDetermined (selection_verdict path x k)
selections path x (package' names) whole = exports names x whole
selections path x k whole = as_value (checked (field_verdict path x) (value_due k)) (through (field_verdict path x) (value_due k) (fields path x) (values_due k))

pub qualifications : (x : List ℕ) (k : Known) → IsDetermined (Fine k) → IsDetermined (exported_by x k)
qualifications x (package' names) whole = exports names x whole
qualifications x k whole = tt

indexed : (t : Type') (e i : Expr) → indexed_type (expr_type e) ≡ Some t → IsAsked (index_verdict e i)
indexed t e i at = elim (cases_Bool (not (is_integer (expr_type i)))) [
  | inl other ↦ rw (at, IsAsked, other) tt
  | inr number ↦ rw (at, IsAsked, number) (through _ (defaulted i) (λ j. elim (cases_Bool (is_within (known_length e) (constant_in j))) [ inl is ↦ rw is tt | inr not_so ↦ rw not_so tt ]) (defaults i))
]

pub indexes : (e i : Expr) → IsAsked (index_verdict e i)
indexes e i = elim (indexed_type (expr_type e)) as (λ o. indexed_type (expr_type e) ≡ o → IsAsked (index_verdict e i)) [ None ↦ λ at. rw (at, IsAsked) tt | Some t ↦ indexed t e i ] refl

-- ---- slices

bounds : (n : Option ℕ) (e : Expr) → IsAsked (bound_verdict n e)
bounds n e = elim (cases_Bool (not (is_integer (expr_type e)))) [
  | inl other ↦ rw other tt
  | inr number ↦ elim (cases_Bool (is_bound n (constant_in e))) [ inl is ↦ rw (number, is) tt | inr not_so ↦ rw (number, not_so) tt ]
]

ordered : (e low high : Expr) → IsAsked (cut_to e (low ∷ high ∷ []))
ordered e low high = elim (cases_Bool (are_ordered (constant_in low) (constant_in high))) [ inl is ↦ rw is tt | inr not_so ↦ rw not_so tt ]

between : (e : Expr) (a b : Option Expr) → IsAsked (checked (cut_to e) (fine_list [] (map (bound_verdict (known_length e)) (given_bounds a b))))
between e a None =
    let low = bound_verdict (known_length e) (unwrap_or a (constant int (Integer (pos 0)))) in
    listed_through (cut_to e) [] (low ∷ []) (one_listed (cut_to e) [] low (bounds (known_length e) (unwrap_or a (constant int (Integer (pos 0))))) (λ x. tt))
between e a (Some b) =
    let low = bound_verdict (known_length e) (unwrap_or a (constant int (Integer (pos 0)))) in
    let high = bound_verdict (known_length e) b in
    listed_through (cut_to e) [] (low ∷ high ∷ [])
    (two_listed (cut_to e) [] low high (bounds (known_length e) (unwrap_or a (constant int (Integer (pos 0))))) (bounds (known_length e) b) (ordered e))

pub cuts : (e : Expr) (a b : Option Expr) → IsAsked (cut_of e a b)
cuts e a b = elim (cases_Bool (not (is_some (slice_element (expr_type e)) || is_string (expr_type e)))) [ inl unfit ↦ rw unfit tt | inr fit ↦ rw fit (between e a b) ]

sizes : (e : Expr) → IsAsked (size_verdict e)
sizes e = elim (cases_Bool (not (is_integer (expr_type e)))) [
  | inl other ↦ rw other tt
  | inr number ↦ elim (cases_Bool (is_bound None (constant_in e))) [ inl is ↦ rw (number, is) tt | inr not_so ↦ rw (number, not_so) tt ]
]

abbrev no_slice : Type' → List FaultKind
no_slice t = when (not (is_some (slice_element t))) Mismatch

pub makes : (t : Type') (xs : List Expr) → IsAsked (make_verdict t xs)
makes t [] = listed_through (made_of t) (no_slice t ++ Count ∷ []) [] (λ at. absurd (counted_least (no_slice t) [] Count at))
makes t (x ∷ []) = listed_through (made_of t) (no_slice t ++ []) (size_verdict x ∷ []) (one_listed (made_of t) (no_slice t ++ []) (size_verdict x) (sizes x) (λ n. tt))
makes t (x ∷ y ∷ []) =
    let ks = no_slice t ++ when (not (are_ordered (constant_in x) (constant_in y))) Index in
    listed_through (made_of t) ks (size_verdict x ∷ size_verdict y ∷ []) (two_listed (made_of t) ks (size_verdict x) (size_verdict y) (sizes x) (sizes y) (λ n c. tt))
makes t (x ∷ y ∷ z ∷ xs) =
    let vs = map size_verdict (x ∷ y ∷ z ∷ xs) in
    listed_through (made_of t) (no_slice t ++ Count ∷ []) vs (λ at. absurd (counted_least (no_slice t) (flat_map wrong vs) Count at))

abbrev grown : Expr → List Expr → Verdict Expr
grown s ys = Fine (append (expr_type s) (present s) (pack_exprs ys))

appends : (xs : List Expr) → IsAsked (append_verdict xs)
appends [] = tt
appends (s ∷ xs) = elim (slice_element (expr_type s)) as (λ o. slice_element (expr_type s) ≡ o → IsAsked (append_verdict (s ∷ xs))) [
  | None ↦ λ at. rw (at, IsAsked) tt
  | Some of ↦ λ at. rw (at, IsAsked) (through (grown s) (fine_list [] (map (assigned of) xs)) (λ ys. tt) (together [] (map (assigned of) xs)))
] refl

-- ---- calls

pub conversions : (t : Type') (e : Expr) → IsAsked (converted t e)
conversions t e = elim (cases_Bool (not (convertible (expr_type e) t))) [
  | inl unfit ↦ rw unfit tt
  | inr fit ↦ elim (cases_Bool (lies_in t e)) [ inl is ↦ rw (fit, is) tt | inr not_so ↦ rw (fit, not_so) tt ]
]

lengths_in : (e : Expr) → IsAsked (length_verdict e)
lengths_in e = elim (underlying (expr_type e)) as (λ u. underlying (expr_type e) ≡ u → IsAsked (length_verdict e)) [
  | array n of ↦ λ at. elim (cases_Bool (holds_call e)) [ inl is ↦ rw (at, IsAsked, is) tt | inr not_so ↦ rw (at, IsAsked, not_so) tt ]
  | slice of ↦ λ at. rw (at, IsAsked) tt
  | _ ↦ λ at. elim (cases_Bool (is_string (expr_type e))) [ inl is ↦ rw (at, IsAsked, is) tt | inr not_so ↦ rw (at, IsAsked, not_so) tt ]
] refl

lengths : (e : Expr) → IsAsked (length_of e)
lengths e = elim (constant_in e) as (λ o. constant_in e ≡ o → IsAsked (length_of e)) [
  | Some (Text bytes) ↦ λ at. rw (at, IsAsked) tt
  | _ ↦ λ at. rw (at, IsAsked) (lengths_in e)
] refl

capacities : (e : Expr) → IsAsked (capacity_of e)
capacities e = elim (underlying (expr_type e)) as (λ u. underlying (expr_type e) ≡ u → IsAsked (capacity_of e)) [
  | array n of ↦ λ at. rw (at, IsAsked) (lengths_in e)
  | _ ↦ λ at. rw (at, IsAsked) tt
] refl

alone : (xs : List Expr) → IsAsked (one xs)
alone [] = tt
alone (x ∷ []) = tt
alone (x ∷ y ∷ xs) = tt

printables : (e : Expr) → IsAsked (printable e)
printables e = elim (cases_Bool (is_integer (expr_type e) || is_string (expr_type e) || is_bool (expr_type e))) [ inl is ↦ rw is (defaults e) | inr not_so ↦ rw not_so tt ]

-- what a rule over known parts gives, where it gives no package
told : {A : Type 0} (rule : A → Known) (v : Verdict A) → ((x : A) → IsDetermined (Fine (rule x))) → IsAsked v → IsDetermined (checked (λ x. Fine (rule x)) v)
told rule (Fine x) each h = each x
told rule (Breaks kind) each h = tt
told rule Passed each h = absurd h

call_told : (s : Symbol) (ts : List Type') (xs : List Expr) → IsDetermined (Fine (function_call s ts xs))
call_told s [] xs = tt
call_told s (t ∷ []) xs = tt
call_told s (t ∷ u ∷ ts) xs = tt

prints : (v : Verdict (List Expr)) → IsAsked v → IsDetermined (printing v)
prints (Fine ys) h = tt
prints (Breaks kind) h = tt
prints Passed h = absurd h

pub calls : (k : Known) (xs : List Expr) → IsDetermined (called k xs)
calls (declared (value e)) xs = tt
calls (declared (type' t)) xs = as_value (checked (converted t) (one xs)) (through (converted t) (one xs) (conversions t) (alone xs))
calls (declared (function s ts rs)) xs = elim (cases_Bool (nat_eq (length ts) (length xs))) [
  | inl is ↦ rw is (told (function_call s rs) (fine_list [] (map (λ k. assigned k.0 k.1) (zip ts xs))) (call_told s rs) (together [] (map (λ k. assigned k.0 k.1) (zip ts xs))))
  | inr not_so ↦ rw not_so tt
]
calls (declared println) xs = prints (fine_list [] (map printable xs)) (together [] (map printable xs))
calls (declared length') xs = as_value (checked length_of (one xs)) (through length_of (one xs) lengths (alone xs))
calls (declared capacity') xs = as_value (checked capacity_of (one xs)) (through capacity_of (one xs) capacities (alone xs))
calls (declared make') xs = tt
calls (declared append') xs = as_value (append_verdict xs) (appends xs)
calls (declared panic') xs = told panicked _ (λ y. tt) (through _ (one xs) (assignments _) (alone xs))
calls (package' names) xs = tt
calls (results ts s es) xs = tt
calls (printed es) xs = tt
calls (panicked e) xs = tt

-- ---- operators

divided : (op : BinaryOperator) (t : Type') (x y : Expr) (c d : Option Const) → IsAsked (operation_verdict op t x y c d)
divided op t x y (Some c) (Some d) = constant_given (result_type op t) _ (two_operands op (int_kind t) c d)
divided op t x y None d = elim (cases_Bool (divides_by_zero op d)) [ inl is ↦ rw is tt | inr not_so ↦ rw not_so tt ]
divided op t x y (Some c) None = elim (cases_Bool (divides_by_zero op None)) [ inl is ↦ rw is tt | inr not_so ↦ rw not_so tt ]

taken : (op : BinaryOperator) (x y : Expr) (t : Type') → common (expr_type x) (expr_type y) ≡ Some t → IsAsked (operand_type op x y)
taken op x y t at = elim (cases_Bool (not (is_defined op t))) [
  | inl unfit ↦ rw (at, IsAsked, unfit) tt
  | inr fit ↦ elim (cases_Bool (lies_in t x && lies_in t y)) [ inl is ↦ rw (at, IsAsked, fit, is) tt | inr not_so ↦ rw (at, IsAsked, fit, not_so) tt ]
]

pub operand_types : (op : BinaryOperator) (x y : Expr) → IsAsked (operand_type op x y)
operand_types op x y = elim (common (expr_type x) (expr_type y)) as (λ o. common (expr_type x) (expr_type y) ≡ o → IsAsked (operand_type op x y)) [
  | None ↦ λ at. rw (at, IsAsked) tt
  | Some t ↦ taken op x y t
] refl

two : (op : BinaryOperator) (x y : Expr) → IsAsked (combined op x y)
two op x y = through _ (operand_type op x y) (λ t. divided op t x y (constant_in x) (constant_in y)) (operand_types op x y)

counted : (op : ShiftOperator) (x y : Expr) (c d : Option Const) → IsAsked (shift_of op x y c d)
counted op x y (Some c) (Some d) = constant_given (expr_type x) _ (shift_operands op (int_kind (expr_type x)) c d)
counted op x y None d = elim (cases_Bool (lies_in uint y)) [ inl is ↦ rw is tt | inr not_so ↦ rw not_so tt ]
counted op x y (Some c) None = elim (cases_Bool (lies_in uint y)) [ inl is ↦ rw is tt | inr not_so ↦ rw not_so tt ]

shifts : (op : ShiftOperator) (x y : Expr) → IsAsked (shift_verdict op x y)
shifts op x y = elim (cases_Bool (is_untyped (expr_type x) && not (is_some (constant_in y)))) [
  | inl left ↦ rw left tt
  | inr sure ↦ elim (cases_Bool (is_integer (expr_type x) && is_integer (expr_type y))) [
    | inl is ↦ rw (sure, is) (counted op x y (constant_in x) (constant_in y))
    | inr not_so ↦ rw (sure, not_so) tt
  ]
]

pub binaries : (op : source.BinaryOperator) (x y : Expr) → IsAsked (binary_verdict op x y)
binaries operators.Multiply x y = two (Arithmetic Multiply) x y
binaries operators.Divide x y = two (Arithmetic Divide) x y
binaries operators.Remainder x y = two (Arithmetic Remainder) x y
binaries operators.ShiftLeft x y = shifts Left x y
binaries operators.ShiftRight x y = shifts Right x y
binaries operators.BitAnd x y = two (Arithmetic BitAnd) x y
binaries operators.AndNot x y = two (Arithmetic AndNot) x y
binaries operators.Add x y = two (Arithmetic Add) x y
binaries operators.Subtract x y = two (Arithmetic Subtract) x y
binaries operators.BitOr x y = two (Arithmetic BitOr) x y
binaries operators.BitXor x y = two (Arithmetic BitXor) x y
binaries operators.Equal x y = two (Comparison Equal) x y
binaries operators.NotEqual x y = two (Comparison NotEqual) x y
binaries operators.Less x y = two (Comparison Less) x y
binaries operators.LessOrEqual x y = two (Comparison LessOrEqual) x y
binaries operators.Greater x y = two (Comparison Greater) x y
binaries operators.GreaterOrEqual x y = two (Comparison GreaterOrEqual) x y
binaries operators.LogicalAnd x y = two LogicalAnd x y
binaries operators.LogicalOr x y = two LogicalOr x y

pub unaries : (op : signs.UnaryOperator) (e : Expr) → IsAsked (unary_verdict op e)
unaries op e = elim (cases_Bool (not (is_operand op (expr_type e)))) [
  | inl unfit ↦ rw unfit tt
  | inr fit ↦ elim (constant_in e) as (λ o. constant_in e ≡ o → IsAsked (unary_verdict op e)) [
    | None ↦ λ at. rw (fit, at) tt
    | Some c ↦ λ at. rw (fit, at) (constant_given (expr_type e) _ (one_operand (operator_of op) (int_kind (expr_type e)) c))
  ] refl
]
