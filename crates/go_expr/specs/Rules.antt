-- What the rules say of a node whose parts are fine, in the order of the Go specification's sections.
use Rattle.std.specs.Prelude.{ℕ, suc, pos, negsuc, Bool, true, false, ◌&&◌, ◌||◌, not, nat_eq, nat_le, nat_lt, bytes_eq, if◌then◌else◌, List, [], ◌∷◌, ◌++◌, length, map, codes, is_some, Option, Some, None, option_map, unwrap_or, Result, Ok, Err}
use Rattle.std.specs.Char.{is_digit}
use Rattle.std.specs.List.{filter, filter_map, find, flat_map, list_all, list_any, slice_get, zip}
use Rattle.std.specs.Map.{lookup}
use Rattle.std.specs.Ordering.{int_eq}
use Rattle.std.specs.Str.Parse.{digits_value}
use Rattle.go_text.specs.declared.fault.FaultKind.{FaultKind}
use Rattle.go_text.specs.declared.fault.FaultKind.TheVariants.{LeftOut, Size, Redeclared, Undeclared, Mismatch, Range, Constant, DivideByZero, Index, Assign, Count, Unexported}
use Rattle.go_text.specs.Faults.{fault_number}
use Rattle.go_scan.specs.Numbers.{is_either}
use Rattle.go_ast.specs.Trees as trees
use Rattle.go_ast.specs.declared.expression.UnaryOperator as signs
use Rattle.go_ast.specs.declared.expression.UnaryOperator.TheVariants as sign
use Rattle.go_ast.specs.declared.expression.BinaryOperator as source
use Rattle.go_ast.specs.declared.expression.BinaryOperator.TheVariants as operators
use Rattle.go_const.specs.declared.constant.Const.{Const}
use Rattle.go_const.specs.declared.constant.Const.TheVariants.{Integer, Text, Bool as Truth}
use Rattle.go_const.specs.declared.error.ConstError.{ConstError}
use Rattle.go_const.specs.declared.error.ConstError.TheVariants as errors
use Rattle.go_const.specs.declared.kind.IntKind.{IntKind}
use Rattle.go_const.specs.declared.kind.IntKind.TheVariants as integers
use Rattle.go_const.specs.declared.operator.UnaryOperator.{UnaryOperator}
use Rattle.go_const.specs.declared.operator.UnaryOperator.TheVariants.{Positive, Negative, Complement, Negation}
use Rattle.go_const.specs.declared.operator.ArithmeticOperator.TheVariants.{Add, Subtract, Multiply, Divide, Remainder, BitAnd, BitOr, BitXor, AndNot}
use Rattle.go_const.specs.declared.operator.ComparisonOperator.TheVariants.{Equal, NotEqual, Less, LessOrEqual, Greater, GreaterOrEqual}
use Rattle.go_const.specs.declared.operator.BinaryOperator.{BinaryOperator}
use Rattle.go_const.specs.declared.operator.BinaryOperator.TheVariants.{Arithmetic, Comparison, LogicalAnd, LogicalOr}
use Rattle.go_const.specs.declared.operator.ShiftOperator.{ShiftOperator}
use Rattle.go_const.specs.declared.operator.ShiftOperator.TheVariants.{Left, Right}
use Rattle.go_const.specs.Constants as constants
use Rattle.go_types.specs.declared.types.Basic.TheVariants as basics
use Rattle.go_types.specs.declared.types.Untyped.TheVariants as kinds
use Rattle.go_types.specs.Types.{Type', basic, array, slice, struct, Fields, no_fields, field}
pub use Rattle.go_types.specs.Names.{is_exported}
use Rattle.go_types.specs.Relations.{underlying, identical, is_comparable, assignable, convertible}
use Rattle.go_types.specs.Sizes.{cells, nodes}
pub use Rattle.go_scope.specs.Index.{are_distinct}
use Rattle.go_typed.specs.declared.expression.Operator.TheVariants as nodes
use Rattle.go_typed.specs.Trees as typed
use Rattle.go_typed.specs.Trees.{Symbol, Expr, Exprs, Parts, constant, expr_type, pack_exprs, pack_parts}
use Rattle.go_expr.specs.Known.{value, type', function, println, length', capacity', make', append', panic', Names, Known, declared, package', results, printed, panicked, Verdict, Fine, Breaks, Passed, named}

-- ---- what rules say

abbrev pub fine : {A : Type 0} → Verdict A → Option A
fine v = elim v [ Fine x ↦ Some x | _ ↦ None ]

-- a rule over what another gives
abbrev pub checked : {A B : Type 0} → (A → Verdict B) → Verdict A → Verdict B
checked rule v = elim v [ Fine x ↦ rule x | Breaks kind ↦ Breaks kind | Passed ↦ Passed ]

-- an expression that has a value
abbrev pub valued : Verdict Expr → Verdict Known
valued v = checked (λ e. Fine (declared (value e))) v

-- of several faults of a node the one of the least number is told
abbrev pub lesser_fault : Option FaultKind → Option FaultKind → Option FaultKind
lesser_fault None k = k
lesser_fault (Some k) None = Some k
lesser_fault (Some k) (Some l) = if nat_le (fault_number k) (fault_number l) then Some k else Some l

abbrev pub least : List FaultKind → Option FaultKind
least [] = None
least (k ∷ ks) = lesser_fault (Some k) (least ks)

abbrev pub when : Bool → FaultKind → List FaultKind
when b k = if b then k ∷ [] else []

abbrev pub wrong : {A : Type 0} → Verdict A → List FaultKind
wrong v = elim v [ Breaks k ↦ k ∷ [] | _ ↦ [] ]

-- each of some, unless one breaks its rule or there are other faults
abbrev pub fine_list : {A : Type 0} → List FaultKind → List (Verdict A) → Verdict (List A)
fine_list ks vs = elim (least (ks ++ flat_map wrong vs)) [ None ↦ Fine (filter_map fine vs) | Some k ↦ Breaks k ]

abbrev pub numbered : {A : Type 0} → ℕ → List A → List (ℕ × A)
numbered n [] = []
numbered n (x ∷ xs) = (n, x) ∷ numbered (suc n) xs

-- ---- constants: https://go.dev/ref/spec#Constants

abbrev pub constant_in : Expr → Option Const
constant_in e = elim e [ constant t c ↦ Some c | _ ↦ None ]

-- what an operator gives as a constant of a type, or what is wrong with it
abbrev pub constant_or_fault : Type' → Result Const ConstError → Verdict Expr
constant_or_fault t (Ok c) = Fine (constant t c)
constant_or_fault t (Err errors.Mismatch) = Breaks Mismatch
constant_or_fault t (Err errors.Range) = Breaks Range
constant_or_fault t (Err errors.Constant) = Breaks Constant
constant_or_fault t (Err errors.Divide) = Breaks DivideByZero
constant_or_fault t (Err errors.Memory) = Passed

-- https://go.dev/ref/spec#Numeric_types
abbrev pub int_kind : Type' → Option IntKind
int_kind t = elim (underlying t) [ basic (basics.Integer kind) ↦ Some kind | _ ↦ None ]

-- what types operators are defined on: those without a type count too
abbrev pub is_integer : Type' → Bool
is_integer t = elim (underlying t) [ basic (basics.Integer i) ↦ true | basic (basics.Untyped kinds.Int) ↦ true | basic (basics.Untyped kinds.Rune) ↦ true | _ ↦ false ]

abbrev pub is_string : Type' → Bool
is_string t = elim (underlying t) [ basic basics.String ↦ true | basic (basics.Untyped kinds.String) ↦ true | _ ↦ false ]

abbrev pub is_bool : Type' → Bool
is_bool t = elim (underlying t) [ basic basics.Bool ↦ true | basic (basics.Untyped kinds.Bool) ↦ true | _ ↦ false ]

abbrev pub is_untyped : Type' → Bool
is_untyped t = elim t [ basic (basics.Untyped kind) ↦ true | _ ↦ false ]

abbrev pub int : Type'
int = basic (basics.Integer integers.Int)

abbrev pub uint : Type'
uint = basic (basics.Integer integers.Uint)

abbrev pub string : Type'
string = basic basics.String

-- https://go.dev/ref/spec#Representability
abbrev pub in_kind : Option IntKind → Const → Bool
in_kind (Some kind) (Integer z) = constants.fits (Some kind) z
in_kind kind c = true

-- what isn't constant does
abbrev pub lies_in : Type' → Expr → Bool
lies_in t e = elim (constant_in e) [ None ↦ true | Some c ↦ in_kind (int_kind t) c ]

-- ---- types

-- https://go.dev/ref/spec#Types
abbrev pub type_due : Known → Verdict Type'
type_due k = elim k [ declared (type' t) ↦ Fine t | _ ↦ Breaks Mismatch ]

abbrev pub is_small : Type' → Bool
is_small t = nat_le (nodes t) 65536 && nat_le (cells t) 65536

-- https://go.dev/ref/spec#Array_types
abbrev pub array_verdict : Expr → Type' → Verdict Type'
array_verdict size of = elim (constant_in size) [
  | Some (Integer (pos n)) ↦ if nat_le n 65536 && is_small (array n of) then Fine (array n of) else Breaks Size
  | Some (Integer (negsuc n)) ↦ Breaks Range
  | _ ↦ Breaks Mismatch
]

-- https://go.dev/ref/spec#Slice_types
abbrev pub slice_verdict : Type' → Verdict Type'
slice_verdict of = if is_small (slice of) then Fine (slice of) else Breaks Size

abbrev pub slice_element : Type' → Option Type'
slice_element t = elim (underlying t) [ slice of ↦ Some of | _ ↦ None ]

-- fields as a list: the path of the package where the name isn't exported, the name, and the type
abbrev pub FieldList : Type 0
FieldList = List (Option (List ℕ) × (List ℕ × Type'))

abbrev pub declared_field : List ℕ → Type' → trees.Name → Option (List ℕ) × (List ℕ × Type')
declared_field path t n = (if is_exported n.text then None else Some path, (n.text, t))

abbrev pub field_names : FieldList → List (List ℕ)
field_names fs = map (λ f. (f.1).0) fs

abbrev pub pack_field_list : FieldList → Fields
pack_field_list [] = no_fields
pack_field_list (f ∷ fs) = field f.0 (f.1).0 (f.1).1 (pack_field_list fs)

abbrev pub listed : Fields → FieldList
listed no_fields = []
listed (field path x t fs) = (path, (x, t)) ∷ listed fs

-- https://go.dev/ref/spec#Struct_types
abbrev pub struct_of : FieldList → Verdict Type'
struct_of fs =
    if list_any (bytes_eq (codes "_")) (field_names fs) then Breaks LeftOut
    else (if not (is_small (struct (pack_field_list fs))) then Breaks Size
    else (if are_distinct (field_names fs) then Fine (struct (pack_field_list fs)) else Breaks Redeclared))

-- ---- values of types

-- a value as one of a type: a constant becomes one of that type, and another is converted, unless it has the type
abbrev pub as_type : Type' → Expr → Expr
as_type t e = elim (constant_in e) [ Some c ↦ constant t c | None ↦ if identical (expr_type e) t then e else typed.conversion t e ]

-- https://go.dev/ref/spec#Assignability
abbrev pub assigned : Type' → Expr → Verdict Expr
assigned t e = if not (assignable (expr_type e) t) then Breaks Assign else (if lies_in t e then Fine (as_type t e) else Breaks Range)

-- https://go.dev/ref/spec#Constants
-- the type that a value takes where none is due
abbrev pub default_type : Type' → Type'
default_type (basic (basics.Untyped kinds.Bool)) = basic basics.Bool
default_type (basic (basics.Untyped kinds.Int)) = int
default_type (basic (basics.Untyped kinds.Rune)) = basic (basics.Integer integers.Int32)
default_type (basic (basics.Untyped kinds.String)) = string
default_type t = t

abbrev pub settled : Expr → Expr
settled e = as_type (default_type (expr_type e)) e

abbrev pub defaulted : Expr → Verdict Expr
defaulted e = assigned (default_type (expr_type e)) e

-- the type that a variable takes of its value, where the value lies in it
abbrev pub settled_type : Expr → Option Type'
settled_type e = if lies_in (default_type (expr_type e)) e then Some (default_type (expr_type e)) else None

-- https://go.dev/ref/spec#Operands
abbrev pub value_due : Known → Verdict Expr
value_due k = elim k [ declared (value e) ↦ Fine e | results ts s es ↦ Breaks Count | panicked e ↦ Breaks Count | _ ↦ Breaks Mismatch ]

-- where a constant is due: https://go.dev/ref/spec#Constant_declarations
abbrev pub constant_due : Expr → Verdict Expr
constant_due e = if is_some (constant_in e) then Fine e else Breaks Mismatch

-- of statements: https://go.dev/ref/spec#If_statements
abbrev pub condition : Expr → Verdict Expr
condition e = if is_bool (expr_type e) then defaulted e else Breaks Mismatch

-- a package is due before a dot alone
abbrev pub unpackaged : Known → Verdict Known
unpackaged k = elim k [ package' names ↦ Breaks Mismatch | k ↦ Fine k ]

-- before a dot of an expression a value is due where no package is, and before arguments where no type and no function is
abbrev pub selectable : Known → Verdict Known
selectable k = elim k [ package' names ↦ Fine (package' names) | k ↦ valued (value_due k) ]

abbrev pub callable : Known → Verdict Known
callable k = elim k [ declared d ↦ Fine (declared d) | k ↦ valued (value_due k) ]

-- https://go.dev/ref/spec#Integer_literals
-- the base, and the digits with underscores among them
abbrev pub numeral : List ℕ → ℕ × List ℕ
numeral (b ∷ c ∷ bs) =
    if not (nat_eq b 48) then (10, b ∷ c ∷ bs)
    else (if is_either 98 66 c then (2, bs)
    else (if is_either 120 88 c then (16, bs)
    else (8, if is_either 111 79 c then bs else c ∷ bs)))
numeral bs = (10, bs)

abbrev pub digits_number : ℕ → List ℕ → ℕ
digits_number base digits = digits_value base (filter (λ b. is_digit b base) digits)

abbrev pub literal : List ℕ → Verdict Expr
literal text = constant_or_fault (basic (basics.Untyped kinds.Int)) (constants.represent None (pos (digits_number (numeral text).0 (numeral text).1)))

-- ---- composite literals: https://go.dev/ref/spec#Composite_literals

-- fields that a package sees
abbrev pub is_visible : List ℕ → Option (List ℕ) → Bool
is_visible path owner = elim owner [ None ↦ true | Some p ↦ bytes_eq path p ]

-- the field of a name, with its number
abbrev pub field_named : List ℕ → FieldList → Option (ℕ × (Option (List ℕ) × (List ℕ × Type')))
field_named x fs = find (λ f. bytes_eq x ((f.1).1).0) (numbered 0 fs)

-- elements, each with its key, if it has one
abbrev pub ElementList : Type 0
ElementList = List (Option (List ℕ) × Expr)

abbrev pub keys : ElementList → List (List ℕ)
keys es = filter_map (λ e. e.0) es

abbrev pub key_fault : List ℕ → FieldList → List ℕ → List FaultKind
key_fault path fs x = elim (field_named x fs) [ None ↦ Undeclared ∷ [] | Some f ↦ when (not (is_visible path (f.1).0)) Unexported ]

abbrev pub any_keyed : ElementList → Bool
any_keyed es = list_any (λ e. is_some e.0) es

abbrev pub all_keyed : ElementList → Bool
all_keyed es = list_all (λ e. is_some e.0) es

-- the number and the type of the part that an element of a struct is for: that of its key, or the next in order
abbrev pub field_slot : FieldList → ℕ → Option (List ℕ) → Option (ℕ × Type')
field_slot fs n (Some x) = option_map (λ f. (f.0, ((f.1).1).1)) (field_named x fs)
field_slot fs n None = option_map (λ f. (n, (f.1).1)) (slice_get fs n)

-- an element as its part, if it is for one
abbrev pub element_part : (ℕ → Option (List ℕ) → Option (ℕ × Type')) → ℕ → Option (List ℕ) × Expr → Verdict (ℕ × Expr)
element_part slot n e = elim (slot n e.0) [ None ↦ Passed | Some p ↦ checked (λ x. Fine (p.0, x)) (assigned p.1 e.1) ]

abbrev pub parts_by : (ℕ → Option (List ℕ) → Option (ℕ × Type')) → ElementList → List (Verdict (ℕ × Expr))
parts_by slot es = map (λ k. element_part slot k.0 k.1) (numbered 0 es)

abbrev pub array_parts : ℕ → Type' → ElementList → Verdict (List (ℕ × Expr))
array_parts n of es = fine_list (when (any_keyed es) LeftOut ++ when (nat_lt n (length es)) Index) (parts_by (λ i key. Some (i, of)) es)

-- all elements have keys, or there are as many as fields
abbrev pub is_counted : FieldList → ElementList → Bool
is_counted fs es = all_keyed es || (not (any_keyed es) && nat_eq (length es) (length fs))

abbrev pub struct_faults : List ℕ → FieldList → ElementList → List FaultKind
struct_faults path fs es =
    flat_map (key_fault path fs) (keys es) ++ when (not (are_distinct (keys es))) Redeclared ++ when (not (is_counted fs es)) Count
    ++ when (not (all_keyed es) && not (list_all (λ f. is_visible path f.0) fs)) Unexported

-- where they aren't counted right an element is for a part by its key alone
abbrev pub keyed_slot : FieldList → ℕ → Option (List ℕ) → Option (ℕ × Type')
keyed_slot fs n key = if is_some key then field_slot fs n key else None

abbrev pub struct_slot : FieldList → ElementList → ℕ → Option (List ℕ) → Option (ℕ × Type')
struct_slot fs es = if is_counted fs es then field_slot fs else keyed_slot fs

abbrev pub struct_parts : List ℕ → FieldList → ElementList → Verdict (List (ℕ × Expr))
struct_parts path fs es = fine_list (struct_faults path fs es) (parts_by (struct_slot fs es) es)

abbrev pub parts_of : List ℕ → Type' → ElementList → Verdict (List (ℕ × Expr))
parts_of path t es = elim (underlying t) [ array n of ↦ array_parts n of es | struct fs ↦ struct_parts path (listed fs) es | _ ↦ Breaks Mismatch ]

-- no element has a key
abbrev pub slice_parts : Type' → ElementList → Verdict (List Expr)
slice_parts of es = fine_list (when (any_keyed es) LeftOut) (map (λ e. assigned of e.1) es)

abbrev pub literal_of : List ℕ → Type' → ElementList → Verdict Expr
literal_of path t es = elim (slice_element t) [
  | Some of ↦ checked (λ xs. Fine (typed.append t typed.absent (pack_exprs xs))) (slice_parts of es)
  | None ↦ checked (λ parts. Fine (typed.literal t (pack_parts parts))) (parts_of path t es)
]

-- what is due of an element that leaves out its type: it takes this one; it has to write it, though its own elements are those of its field, if it is for
-- one; or nothing is due, since the literal around it isn't known or has no elements
pub data Due : Type 0 where
  taken : Type' → Due
  written : Option Type' → Due
  nothing : Due

-- by the type of the literal around it, its number, and its key
abbrev pub element_due : Option Type' → ℕ → Option (List ℕ) → Due
element_due None n key = nothing
element_due (Some t) n key = elim (underlying t) [
  | array m of ↦ taken of
  | slice of ↦ taken of
  | struct fs ↦ written (option_map (λ p. p.1) (field_slot (listed fs) n key))
  | _ ↦ nothing
]

-- the type that its own elements are of
abbrev pub due_type : Due → Option Type'
due_type due = elim due [ taken t ↦ Some t | written o ↦ o | nothing ↦ None ]

-- what takes a value for which nothing is due takes any
abbrev pub any_value : Expr
any_value = constant (basic basics.Bool) (Truth true)

-- a literal that has to write its type breaks this rule beside those that it breaks as one of the type, if there is one
abbrev pub unwritten : List ℕ → Option Type' → ElementList → Option FaultKind
unwritten path o es = least (Mismatch ∷ (elim o [ None ↦ [] | Some t ↦ wrong (literal_of path t es) ]))

abbrev pub untyped_literal : List ℕ → Due → ElementList → Verdict Expr
untyped_literal path due es = elim due [
  | taken t ↦ literal_of path t es
  | written o ↦ elim (unwritten path o es) [ None ↦ Passed | Some kind ↦ Breaks kind ]
  | nothing ↦ Fine any_value
]

-- ---- selectors, index expressions and calls

-- https://go.dev/ref/spec#Selectors
abbrev pub fields_of : Type' → FieldList
fields_of t = elim (underlying t) [ struct fs ↦ listed fs | _ ↦ [] ]

abbrev pub field_verdict : List ℕ → List ℕ → Expr → Verdict Expr
field_verdict path x e = elim (field_named x (fields_of (expr_type e))) [
  | None ↦ Breaks Undeclared
  | Some f ↦ if is_visible path (f.1).0 then Fine (typed.field ((f.1).1).1 e f.0) else Breaks Unexported
]

-- https://go.dev/ref/spec#Qualified_identifiers
abbrev pub exported : List ℕ → Names → Verdict Known
exported x names = if is_exported x then unwrap_or (option_map named (lookup (bytes_eq x) names)) (Breaks Undeclared) else Breaks Unexported

abbrev pub selection_verdict : List ℕ → List ℕ → Known → Verdict Known
selection_verdict path x k = elim k [ package' names ↦ exported x names | k ↦ valued (checked (field_verdict path x) (value_due k)) ]

-- in a type a package is due before the dot
abbrev pub exported_by : List ℕ → Known → Verdict Known
exported_by x k = elim k [ package' names ↦ exported x names | _ ↦ Breaks Mismatch ]

abbrev pub packaged : Known → Verdict Known
packaged k = elim k [ package' names ↦ Fine (package' names) | _ ↦ Breaks Mismatch ]

-- https://go.dev/ref/spec#Index_expressions
-- a byte of a string, and an element of an array, and how many there are where that is known
abbrev pub indexed_type : Type' → Option Type'
indexed_type t = elim (underlying t) [ array n of ↦ Some of | slice of ↦ Some of | _ ↦ if is_string t then Some (basic (basics.Integer integers.Uint8)) else None ]

abbrev pub known_length : Expr → Option ℕ
known_length e = elim (constant_in e) [ Some (Text bytes) ↦ Some (length bytes) | _ ↦ elim (underlying (expr_type e)) [ array n of ↦ Some n | _ ↦ None ] ]

abbrev pub is_within : Option ℕ → Option Const → Bool
is_within n (Some (Integer (negsuc i))) = false
is_within (Some n) (Some (Integer (pos i))) = nat_lt i n
is_within n c = true

abbrev pub index_verdict : Expr → Expr → Verdict Expr
index_verdict e i = elim (indexed_type (expr_type e)) [
  | None ↦ Breaks Mismatch
  | Some t ↦ if not (is_integer (expr_type i)) then Breaks Mismatch
      else checked (λ i. if is_within (known_length e) (constant_in i) then Fine (typed.index t (settled e) i) else Breaks Index) (defaulted i)
]

-- https://go.dev/ref/spec#Simple_slice_expressions
-- a constant bound is an int from 0 on, and not above that many
abbrev pub is_bound : Option ℕ → Option Const → Bool
is_bound n (Some (Integer (negsuc i))) = false
is_bound n (Some (Integer (pos i))) = constants.fits (Some integers.Int) (pos i) && (elim n [ None ↦ true | Some n ↦ nat_le i n ])
is_bound n c = true

-- what counts elements is an int, unless it has a type
abbrev pub as_count : Expr → Expr
as_count e = if is_untyped (expr_type e) then as_type int e else e

abbrev pub bound_verdict : Option ℕ → Expr → Verdict Expr
bound_verdict n e = if not (is_integer (expr_type e)) then Breaks Mismatch else (if is_bound n (constant_in e) then Fine (as_count e) else Breaks Index)

-- of two constants the first isn't above the other
abbrev pub are_ordered : Option Const → Option Const → Bool
are_ordered (Some (Integer (pos i))) (Some (Integer (pos j))) = nat_le i j
are_ordered c d = true

abbrev pub cut_to : Expr → List Expr → Verdict Expr
cut_to e bounds = elim bounds [
  | a ∷ [] ↦ Fine (typed.cut (default_type (expr_type e)) (settled e) a typed.absent)
  | a ∷ b ∷ [] ↦ if are_ordered (constant_in a) (constant_in b) then Fine (typed.cut (default_type (expr_type e)) (settled e) a (typed.present b)) else Breaks Index
  | _ ↦ Passed
]

-- the bounds that are given, of which the first may be left out for 0, and the other for the length
abbrev pub given_bounds : Option Expr → Option Expr → List Expr
given_bounds a None = unwrap_or a (constant int (Integer (pos 0))) ∷ []
given_bounds a (Some b) = unwrap_or a (constant int (Integer (pos 0))) ∷ b ∷ []

abbrev pub cut_of : Expr → Option Expr → Option Expr → Verdict Expr
cut_of e a b =
    if not (is_some (slice_element (expr_type e)) || is_string (expr_type e)) then Breaks Mismatch
    else checked (cut_to e) (fine_list [] (map (bound_verdict (known_length e)) (given_bounds a b)))

-- https://go.dev/ref/spec#Making_slices_maps_and_channels
-- a constant size is an int from 0 on
abbrev pub size_verdict : Expr → Verdict Expr
size_verdict e = if not (is_integer (expr_type e)) then Breaks Mismatch else (if is_bound None (constant_in e) then Fine (as_count e) else Breaks Range)

abbrev pub made_of : Type' → List Expr → Verdict Expr
made_of t sizes = elim sizes [ n ∷ [] ↦ Fine (typed.make t n typed.absent) | n ∷ c ∷ [] ↦ Fine (typed.make t n (typed.present c)) | _ ↦ Passed ]

abbrev pub sizes_faults : List Expr → List FaultKind
sizes_faults xs = elim xs [ n ∷ [] ↦ [] | n ∷ c ∷ [] ↦ when (not (are_ordered (constant_in n) (constant_in c))) Index | _ ↦ Count ∷ [] ]

abbrev pub make_verdict : Type' → List Expr → Verdict Expr
make_verdict t xs = checked (made_of t) (fine_list (when (not (is_some (slice_element t))) Mismatch ++ sizes_faults xs) (map size_verdict xs))

-- of what can't be a type nothing is made; it needn't be a value, but a call of Println is a statement
abbrev pub unprinted : Known → Verdict Known
unprinted k = elim k [ printed operands ↦ Breaks Mismatch | k ↦ Fine k ]

abbrev pub unmade : Known → List Expr → Verdict Expr
unmade k xs = Breaks Mismatch

-- https://go.dev/ref/spec#Appending_and_copying_slices
abbrev pub append_verdict : List Expr → Verdict Expr
append_verdict [] = Breaks Count
append_verdict (s ∷ xs) = elim (slice_element (expr_type s)) [
  | None ↦ Breaks Mismatch
  | Some of ↦ checked (λ ys. Fine (typed.append (expr_type s) (typed.present s) (pack_exprs ys))) (fine_list [] (map (assigned of) xs))
]

-- https://go.dev/ref/spec#Conversions
abbrev pub conversion_to : Type' → Expr → Expr
conversion_to t e = elim (constant_in e) [ Some c ↦ constant t c | None ↦ typed.conversion t e ]

abbrev pub converted : Type' → Expr → Verdict Expr
converted t e = if not (convertible (expr_type e) t) then Breaks Mismatch else (if lies_in t e then Fine (conversion_to t e) else Breaks Range)

-- https://go.dev/ref/spec#Length_and_capacity
-- an operand of len that has to be evaluated
abbrev mutual
  pub holds_call : Expr → Bool
  holds_call (constant t c) = false
  holds_call (typed.local t n) = false
  holds_call (typed.global t s) = false
  holds_call (typed.field t e n) = holds_call e
  holds_call (typed.index t e i) = holds_call e || holds_call i
  holds_call (typed.length t e) = true
  holds_call (typed.capacity t e) = true
  holds_call (typed.cut t e low high) = holds_call e || (holds_call low || perhaps_holds_call high)
  holds_call (typed.make t e o) = true
  holds_call (typed.append t typed.absent es) = some_hold_call es
  holds_call (typed.append t o es) = true
  holds_call (typed.unary t op e) = holds_call e
  holds_call (typed.binary t op a b) = holds_call a || holds_call b
  holds_call (typed.both t a b) = holds_call a || holds_call b
  holds_call (typed.either t a b) = holds_call a || holds_call b
  holds_call (typed.conversion t e) = holds_call e
  holds_call (typed.literal t parts) = part_holds_call parts
  holds_call (typed.call t s es) = true

  pub perhaps_holds_call : typed.Perhaps → Bool
  perhaps_holds_call typed.absent = false
  perhaps_holds_call (typed.present e) = holds_call e

  pub some_hold_call : Exprs → Bool
  some_hold_call typed.no_exprs = false
  some_hold_call (typed.some_exprs e es) = holds_call e || some_hold_call es

  pub part_holds_call : Parts → Bool
  part_holds_call typed.no_parts = false
  part_holds_call (typed.part n e parts) = holds_call e || part_holds_call parts

abbrev pub length_verdict : Expr → Verdict Expr
length_verdict e = elim (underlying (expr_type e)) [
  | array n of ↦ if holds_call e then Breaks Mismatch else Fine (constant int (Integer (pos n)))
  | slice of ↦ Fine (typed.length int e)
  | _ ↦ if is_string (expr_type e) then Fine (typed.length int e) else Breaks Mismatch
]

abbrev pub length_of : Expr → Verdict Expr
length_of e = elim (constant_in e) [ Some (Text bytes) ↦ Fine (constant int (Integer (pos (length bytes)))) | _ ↦ length_verdict e ]

abbrev pub capacity_of : Expr → Verdict Expr
capacity_of e = elim (underlying (expr_type e)) [ array n of ↦ length_verdict e | slice of ↦ Fine (typed.capacity int e) | _ ↦ Breaks Mismatch ]

-- https://go.dev/ref/spec#Calls
abbrev pub one : List Expr → Verdict Expr
one xs = elim xs [ x ∷ [] ↦ Fine x | _ ↦ Breaks Count ]

abbrev pub function_call : Symbol → List Type' → List Expr → Known
function_call s (t ∷ []) xs = declared (value (typed.call t s (pack_exprs xs)))
function_call s ts xs = results ts s (pack_exprs xs)

-- what Println prints
abbrev pub printable : Expr → Verdict Expr
printable e = if is_integer (expr_type e) || is_string (expr_type e) || is_bool (expr_type e) then defaulted e else Breaks Mismatch

-- where it is no statement it isn't asked whether it prints its operands
abbrev pub printing : Verdict (List Expr) → Verdict Known
printing v = elim v [ Fine ys ↦ Fine (printed (Ok (pack_exprs ys))) | Breaks kind ↦ Fine (printed (Err kind)) | Passed ↦ Passed ]

abbrev pub called : Known → List Expr → Verdict Known
called (declared (type' t)) xs = valued (checked (converted t) (one xs))
called (declared (function s ts rs)) xs =
    if nat_eq (length ts) (length xs) then checked (λ ys. Fine (function_call s rs ys)) (fine_list [] (map (λ k. assigned k.0 k.1) (zip ts xs))) else Breaks Count
called (declared println) xs = printing (fine_list [] (map printable xs))
called (declared length') xs = valued (checked length_of (one xs))
called (declared capacity') xs = valued (checked capacity_of (one xs))
called (declared append') xs = valued (append_verdict xs)
called (declared panic') xs = checked (λ y. Fine (panicked y)) (checked (assigned string) (one xs))
called _ xs = Breaks Mismatch

-- ---- operators: https://go.dev/ref/spec#Operators

-- an operand without a type takes the other's: of two numbers that of a rune, where one is
abbrev pub takes_type : Type' → Type' → Bool
takes_type (basic (basics.Untyped kinds.Int)) (basic (basics.Untyped kinds.Rune)) = true
takes_type t u = assignable t u

abbrev pub common : Type' → Type' → Option Type'
common t u = if takes_type u t then Some t else (if takes_type t u then Some u else None)

abbrev pub is_defined : BinaryOperator → Type' → Bool
is_defined (Arithmetic operator) t = is_integer t || (elim operator [ Add ↦ is_string t | _ ↦ false ])
is_defined (Comparison operator) t = is_integer t || is_string t || (elim operator [ Equal ↦ is_comparable t | NotEqual ↦ is_comparable t | _ ↦ false ])
is_defined LogicalAnd t = is_bool t
is_defined LogicalOr t = is_bool t

-- the type of what the operator gives of operands of a type, and what it gives
abbrev pub result_type : BinaryOperator → Type' → Type'
result_type operator t = elim operator [ Comparison c ↦ basic (basics.Untyped kinds.Bool) | _ ↦ t ]

abbrev pub operation : BinaryOperator → Type' → Expr → Expr → Expr
operation (Arithmetic operator) = λ t. typed.binary t (nodes.Arithmetic operator)
operation (Comparison operator) = λ t. typed.binary t (nodes.Comparison operator)
operation LogicalAnd = typed.both
operation LogicalOr = typed.either

abbrev pub divides_by_zero : BinaryOperator → Option Const → Bool
divides_by_zero (Arithmetic operator) (Some (Integer z)) = constants.divides operator && int_eq z (pos 0)
divides_by_zero operator c = false

-- of operands of a type that the operator is defined on
abbrev pub operation_verdict : BinaryOperator → Type' → Expr → Expr → Option Const → Option Const → Verdict Expr
operation_verdict operator t x y (Some c) (Some d) = constant_or_fault (result_type operator t) (constants.binary operator (int_kind t) c d)
operation_verdict operator t x y c d =
    if divides_by_zero operator d then Breaks DivideByZero else Fine (operation operator (result_type operator t) (as_type t x) (as_type t y))

-- the type that both operands are taken as
abbrev pub operand_type : BinaryOperator → Expr → Expr → Verdict Type'
operand_type operator x y = elim (common (expr_type x) (expr_type y)) [
  | None ↦ Breaks Mismatch
  | Some t ↦ if not (is_defined operator t) then Breaks Mismatch else (if lies_in t x && lies_in t y then Fine t else Breaks Range)
]

abbrev pub combined : BinaryOperator → Expr → Expr → Verdict Expr
combined operator x y = checked (λ t. operation_verdict operator t x y (constant_in x) (constant_in y)) (operand_type operator x y)

-- a shift has the type of what is shifted; of what isn't constant the count is a uint, unless it has a type
abbrev pub counted_by : Expr → Expr
counted_by count = if is_untyped (expr_type count) then as_type uint count else count

abbrev pub shift_of : ShiftOperator → Expr → Expr → Option Const → Option Const → Verdict Expr
shift_of operator x count (Some c) (Some d) = constant_or_fault (expr_type x) (constants.shift operator (int_kind (expr_type x)) c d)
shift_of operator x count c d =
    if lies_in uint count then Fine (typed.binary (expr_type x) (nodes.Shift operator) x (counted_by count)) else Breaks Range

abbrev pub shift_verdict : ShiftOperator → Expr → Expr → Verdict Expr
shift_verdict operator x count =
    if is_untyped (expr_type x) && not (is_some (constant_in count)) then Breaks LeftOut
    else (if is_integer (expr_type x) && is_integer (expr_type count) then shift_of operator x count (constant_in x) (constant_in count) else Breaks Mismatch)

abbrev pub binary_verdict : source.BinaryOperator → Expr → Expr → Verdict Expr
binary_verdict operators.Multiply = combined (Arithmetic Multiply)
binary_verdict operators.Divide = combined (Arithmetic Divide)
binary_verdict operators.Remainder = combined (Arithmetic Remainder)
binary_verdict operators.ShiftLeft = shift_verdict Left
binary_verdict operators.ShiftRight = shift_verdict Right
binary_verdict operators.BitAnd = combined (Arithmetic BitAnd)
binary_verdict operators.AndNot = combined (Arithmetic AndNot)
binary_verdict operators.Add = combined (Arithmetic Add)
binary_verdict operators.Subtract = combined (Arithmetic Subtract)
binary_verdict operators.BitOr = combined (Arithmetic BitOr)
binary_verdict operators.BitXor = combined (Arithmetic BitXor)
binary_verdict operators.Equal = combined (Comparison Equal)
binary_verdict operators.NotEqual = combined (Comparison NotEqual)
binary_verdict operators.Less = combined (Comparison Less)
binary_verdict operators.LessOrEqual = combined (Comparison LessOrEqual)
binary_verdict operators.Greater = combined (Comparison Greater)
binary_verdict operators.GreaterOrEqual = combined (Comparison GreaterOrEqual)
binary_verdict operators.LogicalAnd = combined LogicalAnd
binary_verdict operators.LogicalOr = combined LogicalOr

abbrev pub operator_of : signs.UnaryOperator → UnaryOperator
operator_of sign.Positive = Positive
operator_of sign.Negative = Negative
operator_of sign.Negation = Negation
operator_of sign.Complement = Complement

abbrev pub is_operand : signs.UnaryOperator → Type' → Bool
is_operand operator t = elim operator [ sign.Negation ↦ is_bool t | _ ↦ is_integer t ]

abbrev pub unary_verdict : signs.UnaryOperator → Expr → Verdict Expr
unary_verdict operator e =
    if not (is_operand operator (expr_type e)) then Breaks Mismatch
    else (elim (constant_in e) [
      | Some c ↦ constant_or_fault (expr_type e) (constants.unary (operator_of operator) (int_kind (expr_type e)) c)
      | None ↦ Fine (typed.unary (expr_type e) (operator_of operator) e)
    ])
