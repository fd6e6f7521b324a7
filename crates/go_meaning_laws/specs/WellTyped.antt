-- When typed trees are well typed: what they claim of types is so by the Go specification, and what is read has been given a value.
use Rattle.std.specs.Prelude.{◌≡◌, ℕ, zero, suc, nat_eq, nat_le, nat_lt, Bool, true, false, ◌&&◌, ◌||◌, List, [], ◌∷◌, ◌++◌, length, pos, Option, Some, None, option_map, ⊤, ◌⊎◌, if◌then◌else◌}
use Rattle.std.specs.List.{All, find, flat_map, list_all, list_any, slice_get}
use Rattle.go_const.specs.Constants.{fits}
use Rattle.go_const.specs.declared.kind.IntKind.TheVariants as integers
use Rattle.go_const.specs.declared.constant.Const.{Const}
use Rattle.go_const.specs.declared.operator.UnaryOperator.{UnaryOperator}
use Rattle.go_const.specs.declared.operator.UnaryOperator.TheVariants.{Negation}
use Rattle.go_const.specs.declared.operator.ArithmeticOperator.{ArithmeticOperator}
use Rattle.go_const.specs.declared.operator.ArithmeticOperator.TheVariants.{Add}
use Rattle.go_const.specs.declared.operator.ComparisonOperator.{ComparisonOperator}
use Rattle.go_const.specs.declared.operator.ComparisonOperator.TheVariants.{Equal, NotEqual}
use Rattle.go_types.specs.declared.types.Basic.{Basic}
use Rattle.go_types.specs.declared.types.Basic.TheVariants as basics
use Rattle.go_types.specs.declared.types.Untyped.TheVariants as kinds
use Rattle.go_types.specs.Types.{Type', basic, array, slice, struct, named, Fields, no_fields, field}
use Rattle.go_types.specs.Relations.{underlying, is_comparable}
use Rattle.go_types.specs.Sizes.{cells}
use Rattle.go_code.specs.declared.cell.Cell.{Cell}
use Rattle.go_code.specs.declared.cell.Cell.TheVariants.{Text}
use Rattle.go_typed.specs.declared.expression.Operator.{Operator}
use Rattle.go_typed.specs.declared.expression.Operator.TheVariants.{Arithmetic as arithmetic, Shift as shift, Comparison as comparison}
use Rattle.go_typed.specs.Trees as trees
use Rattle.go_typed.specs.Trees.{Symbol, Expr, constant, local, global, index, unary, binary, both, either, conversion, literal, call, Exprs, no_exprs, some_exprs, Perhaps, absent, present, Parts, no_parts, part, Steps, here, to_field, to_element, Left, blank, of_local, of_global, of_slice, ValueSource, each, results, zeros, Stmt, define, assign, update, run, print, panic, if_statement, for_statement, range_statement, switch_statement, block, break, continue, return, Stmts, no_stmts, some_stmts, Clauses, no_clauses, clause, Function, Package, expr_type}
use Rattle.go_meaning.specs.Values.{single, is_of}
use Rattle.go_meaning.specs.Choices.{cell_of, field_type}
use Rattle.go_symbol.specs.Symbols.{same_symbol}
use Rattle.go_meaning.specs.Meaning.{Stored, most_cells}
use Rattle.go_meaning.specs.Programs.{StartStep, sets, calls, DeclaredFunction, package_functions, function_by_symbol, first_variables, start_steps}
use Rattle.go_typed.specs.Terminating.{list_terminates}

-- ---- what is known where an expression or a statement stands

-- https://go.dev/ref/spec#Function_types
pub record Signature : Type 0 where
  pub parameters : List Type'
  pub results : List Type'

-- The functions and the package variables of the program, the types of the local variables, parameters first, the results of the
-- function, and whether a break and a continue may stand here.
pub record Setting : Type 0 where
  pub functions : Symbol → Option Signature
  pub variables : Symbol → Option Type'
  pub locals : List Type'
  pub results : List Type'
  pub breaks : Bool
  pub continues : Bool

-- the numbers of the local variables that have been given a value
abbrev pub has : List ℕ → ℕ → Bool
has given n = list_any (nat_eq n) given

-- a local variable of that type, which has a value
abbrev pub Holds : Setting → List ℕ → ℕ → Type' → Type 0
Holds g given n t = (slice_get g.locals n ≡ Some t) × (has given n ≡ true)

-- ---- types: https://go.dev/ref/spec#Types

abbrev pub int_type : Type'
int_type = basic (basics.Integer integers.Int)

abbrev pub byte : Type'
byte = basic (basics.Integer integers.Uint8)

abbrev pub is_integer_type : Type' → Bool
is_integer_type (basic (basics.Integer i)) = true
is_integer_type t = false

abbrev pub is_string_type : Type' → Bool
is_string_type (basic basics.String) = true
is_string_type t = false

abbrev pub is_slice : Type' → Bool
is_slice (slice t) = true
is_slice t = false

-- a comparison has no type of its own: its value is an untyped one
abbrev pub is_bool_type : Type' → Bool
is_bool_type (basic basics.Bool) = true
is_bool_type (basic (basics.Untyped kinds.Bool)) = true
is_bool_type t = false

-- types of variables are typed in all their parts
abbrev pub is_typed : Basic → Bool
is_typed (basics.Untyped kind) = false
is_typed b = true

abbrev mutual
  pub IsWhole : Type' → Type 0
  IsWhole (basic b) = is_typed b ≡ true
  IsWhole (array n t) = IsWhole t
  IsWhole (slice t) = IsWhole t
  IsWhole (struct fs) = AreWhole fs
  IsWhole (named path name t) = IsWhole t

  pub AreWhole : Fields → Type 0
  AreWhole no_fields = ⊤
  AreWhole (field path name t fs) = IsWhole t × AreWhole fs

-- https://go.dev/ref/spec#Assignability
-- values of the first type are values of the second: their underlying types are the same
abbrev pub Suits : Type' → Type' → Type 0
Suits t u = underlying t ≡ underlying u

abbrev pub AllSuit : List Type' → List Type' → Type 0
AllSuit [] [] = ⊤
AllSuit [] (u ∷ us) = ⊥
AllSuit (t ∷ ts) [] = ⊥
AllSuit (t ∷ ts) (u ∷ us) = Suits t u × AllSuit ts us

-- ---- constants and operators

-- https://go.dev/ref/spec#String_types: a sequence of bytes, whose length is an int
abbrev pub is_text : List ℕ → Bool
is_text text = list_all (λ b. nat_lt b 256) text && fits (Some integers.Int) (pos (length text))

abbrev pub is_sound_cell : Cell → Bool
is_sound_cell (Text text) = is_text text
is_sound_cell c = true

-- https://go.dev/ref/spec#Constants, Representability
abbrev pub IsConstant : Type' → Const → Type 0
IsConstant t c = (is_of t (single (cell_of c)) ≡ true) × (is_sound_cell (cell_of c) ≡ true)

-- https://go.dev/ref/spec#Arithmetic_operators, Logical_operators, by the underlying type of the operand
abbrev pub is_unary : UnaryOperator → Type' → Bool
is_unary Negation s = is_bool_type s
is_unary op s = is_integer_type s

abbrev pub is_sum : ArithmeticOperator → Type' → Bool
is_sum Add s = is_integer_type s || is_string_type s
is_sum op s = is_integer_type s

-- https://go.dev/ref/spec#Comparison_operators: integers and strings are ordered
abbrev pub is_compared : ComparisonOperator → Type' → Bool
is_compared Equal s = is_comparable s
is_compared NotEqual s = is_comparable s
is_compared op s = is_integer_type s || is_string_type s

-- the operator gives a value of the first type of operands of the others
abbrev pub IsOperation : Operator → Type' → Type' → Type' → Type 0
IsOperation (arithmetic op) t a b = (a ≡ t) × (b ≡ t) × (is_sum op (underlying t) ≡ true)
IsOperation (shift op) t a b = (a ≡ t) × (is_integer_type (underlying t) ≡ true) × (is_integer_type (underlying b) ≡ true)
IsOperation (comparison op) t a b = (is_bool_type (underlying t) ≡ true) × (a ≡ b) × (is_compared op (underlying a) ≡ true)

-- https://go.dev/ref/spec#Conversions, by underlying types: between integers, of an untyped truth value, or between types that are the same
abbrev pub Converts : Type' → Type' → Type 0
Converts t u = (t ≡ u) ⊎ ((is_integer_type t ≡ true) × (is_integer_type u ≡ true)) ⊎ ((is_bool_type t ≡ true) × (is_bool_type u ≡ true))

-- https://go.dev/ref/spec#Index_expressions, by the underlying type: an element of an array or a slice, a byte of a string
abbrev pub index_result_type : Type' → Option Type'
index_result_type (array n t) = Some t
index_result_type (slice t) = Some t
index_result_type (basic basics.String) = Some byte
index_result_type s = None

-- https://go.dev/ref/spec#Composite_literals, by the underlying type: the part of that number
abbrev pub part_type : Type' → ℕ → Option Type'
part_type (array count t) n = if nat_lt n count then Some t else None
part_type s n = field_type s n

-- ---- expressions: https://go.dev/ref/spec#Expressions

abbrev pub exprs_types : Exprs → List Type'
exprs_types no_exprs = []
exprs_types (some_exprs e es) = expr_type e ∷ exprs_types es

-- https://go.dev/ref/spec#Calls: the function takes arguments of these types, and gives results of those
abbrev pub IsCall : Setting → Symbol → List Type' → List Type' → Type 0
IsCall g s arguments given = g.functions s ≡ Some (record { parameters = arguments; results = given })

abbrev mutual
  pub IsExpr : Setting → List ℕ → Expr → Type 0
  IsExpr g d (constant t c) = IsConstant t c
  IsExpr g d (local t n) = Holds g d n t
  IsExpr g d (global t s) = g.variables s ≡ Some t
  -- https://go.dev/ref/spec#Selectors
  IsExpr g d (trees.field t e n) = IsExpr g d e × (field_type (underlying (expr_type e)) n ≡ Some t)
  IsExpr g d (index t e i) =
      IsExpr g d e × IsExpr g d i × (is_integer_type (underlying (expr_type i)) ≡ true) × (index_result_type (underlying (expr_type e)) ≡ Some t)
  -- https://go.dev/ref/spec#Length_and_capacity
  IsExpr g d (trees.length t e) = IsExpr g d e × (is_string_type (underlying (expr_type e)) || is_slice (underlying (expr_type e)) ≡ true) × (t ≡ int_type)
  IsExpr g d (trees.capacity t e) = IsExpr g d e × (is_slice (underlying (expr_type e)) ≡ true) × (t ≡ int_type)
  -- https://go.dev/ref/spec#Slice_expressions
  IsExpr g d (trees.cut t e low o) =
      IsExpr g d e × (expr_type e ≡ t) × (is_string_type (underlying t) || is_slice (underlying t) ≡ true) × IsExpr g d low × (is_integer_type (underlying (expr_type low)) ≡ true)
      × IsSize g d o
  -- https://go.dev/ref/spec#Making_slices_maps_and_channels
  IsExpr g d (trees.make t n o) =
      IsWhole t × (is_slice (underlying t) ≡ true) × IsExpr g d n × (is_integer_type (underlying (expr_type n)) ≡ true) × IsSize g d o
  -- https://go.dev/ref/spec#Appending_and_copying_slices
  IsExpr g d (trees.append t o es) = IsWhole t × IsAppended g d t o × ((u : Type') × (underlying t ≡ slice u) × AreElements g d u es)
  IsExpr g d (unary t op e) = IsExpr g d e × (expr_type e ≡ t) × (is_unary op (underlying t) ≡ true)
  IsExpr g d (binary t op a b) = IsExpr g d a × IsExpr g d b × IsOperation op t (expr_type a) (expr_type b)
  IsExpr g d (both t a b) = IsExpr g d a × IsExpr g d b × (expr_type a ≡ t) × (expr_type b ≡ t) × (is_bool_type (underlying t) ≡ true)
  IsExpr g d (either t a b) = IsExpr g d a × IsExpr g d b × (expr_type a ≡ t) × (expr_type b ≡ t) × (is_bool_type (underlying t) ≡ true)
  IsExpr g d (conversion t e) = IsExpr g d e × Converts (underlying (expr_type e)) (underlying t)
  IsExpr g d (literal t ps) = IsWhole t × AreParts g d t ps
  IsExpr g d (call t s es) = AreWellTypedExprs g d es × IsCall g s (exprs_types es) (t ∷ [])

  -- a length, a capacity or a bound that may be left out
  pub IsSize : Setting → List ℕ → Perhaps → Type 0
  IsSize g d absent = ⊤
  IsSize g d (present e) = IsExpr g d e × (is_integer_type (underlying (expr_type e)) ≡ true)

  -- what is appended to, if anything is
  pub IsAppended : Setting → List ℕ → Type' → Perhaps → Type 0
  IsAppended g d t absent = ⊤
  IsAppended g d t (present e) = IsExpr g d e × (expr_type e ≡ t)

  -- elements of that type
  pub AreElements : Setting → List ℕ → Type' → Exprs → Type 0
  AreElements g d u no_exprs = ⊤
  AreElements g d u (some_exprs e es) = IsExpr g d e × Suits (expr_type e) u × AreElements g d u es

  pub AreWellTypedExprs : Setting → List ℕ → Exprs → Type 0
  AreWellTypedExprs g d no_exprs = ⊤
  AreWellTypedExprs g d (some_exprs e es) = IsExpr g d e × AreWellTypedExprs g d es

  -- parts of a value of that type
  pub AreParts : Setting → List ℕ → Type' → Parts → Type 0
  AreParts g d t no_parts = ⊤
  AreParts g d t (part n e ps) = IsExpr g d e × (part_type (underlying t) n ≡ Some (expr_type e)) × AreParts g d t ps

-- ---- values that are due, and what they are given to: https://go.dev/ref/spec#Assignment_statements

abbrev pub source_types : ValueSource → List Type'
source_types (each es) = exprs_types es
source_types (results ts s es) = ts
source_types (zeros ts) = ts

abbrev pub AllWhole : List Type' → Type 0
AllWhole [] = ⊤
AllWhole (t ∷ ts) = IsWhole t × AllWhole ts

abbrev pub IsWellTypedSource : Setting → List ℕ → ValueSource → Type 0
IsWellTypedSource g d (each es) = AreWellTypedExprs g d es
IsWellTypedSource g d (results ts s es) = AreWellTypedExprs g d es × IsCall g s (exprs_types es) ts
-- https://go.dev/ref/spec#The_zero_value
IsWellTypedSource g d (zeros ts) = AllWhole ts

-- https://go.dev/ref/spec#Variable_declarations: new variables get values of these types; a blank one may get any
abbrev pub AreGiven : {N : Type 0} → (N → Option Type') → List (Option N) → List Type' → Type 0
AreGiven types [] [] = ⊤
AreGiven types [] (t ∷ ts) = ⊥
AreGiven types (o ∷ os) [] = ⊥
AreGiven types (None ∷ os) (t ∷ ts) = AreGiven types os ts
AreGiven types (Some n ∷ os) (t ∷ ts) = ((u : Type') × (types n ≡ Some u) × Suits t u) × AreGiven types os ts

abbrev pub AreNew : List Type' → List (Option ℕ) → List Type' → Type 0
AreNew locals = AreGiven (slice_get locals)

-- the elements that a value has itself: those of an array
abbrev pub array_element : Type' → Option Type'
array_element (array n t) = Some t
array_element s = None

-- the steps lead from a variable of the first type to a part of it that may be given a value of the other
abbrev pub LeadsTo : Setting → List ℕ → Type' → Steps → Type' → Type 0
LeadsTo g d t here u = Suits u t
LeadsTo g d t (to_field n ss) u = (part : Type') × (field_type (underlying t) n ≡ Some part) × LeadsTo g d part ss u
LeadsTo g d t (to_element e ss) u =
    (part : Type') × (array_element (underlying t) ≡ Some part) × IsExpr g d e × (is_integer_type (underlying (expr_type e)) ≡ true) × LeadsTo g d part ss u

-- so they do from a slice whose elements have the first type, an element first
abbrev pub LeadsInto : Setting → List ℕ → Type' → Steps → Type' → Type 0
LeadsInto g d t here u = ⊥
LeadsInto g d t (to_field n ss) u = ⊥
LeadsInto g d t (to_element e ss) u = IsExpr g d e × (is_integer_type (underlying (expr_type e)) ≡ true) × LeadsTo g d t ss u

-- a part of a variable, or of a slice's elements, which is no larger than types may be
abbrev pub IsWellTypedPart : Setting → List ℕ → Left → Type' → Type 0
IsWellTypedPart g d blank u = ⊥
IsWellTypedPart g d (of_local t n ss) u = Holds g d n t × (nat_le (cells t) most_cells ≡ true) × LeadsTo g d t ss u
IsWellTypedPart g d (of_global t s ss) u = (g.variables s ≡ Some t) × (nat_le (cells t) most_cells ≡ true) × LeadsTo g d t ss u
IsWellTypedPart g d (of_slice t e ss) u =
    IsExpr g d e × (expr_type e ≡ t) × ((v : Type') × (underlying t ≡ slice v) × (nat_le (cells v) most_cells ≡ true) × LeadsInto g d v ss u)

abbrev pub AreLefts : Setting → List ℕ → List Left → List Type' → Type 0
AreLefts g d [] [] = ⊤
AreLefts g d [] (t ∷ ts) = ⊥
AreLefts g d (l ∷ ls) [] = ⊥
AreLefts g d (blank ∷ ls) (t ∷ ts) = AreLefts g d ls ts
AreLefts g d (l ∷ ls) (t ∷ ts) = IsWellTypedPart g d l t × AreLefts g d ls ts

-- ---- statements: https://go.dev/ref/spec#Statements

-- the variables that are declared behind a statement: a block may be that of a declaration, so what it declares stays
abbrev pub known_numbers : List (Option ℕ) → List ℕ
known_numbers [] = []
known_numbers (None ∷ os) = known_numbers os
known_numbers (Some n ∷ os) = n ∷ known_numbers os

abbrev mutual
  pub declared_after : List ℕ → Stmt → List ℕ
  declared_after d (define os s) = known_numbers os ++ d
  declared_after d (block ss) = declared_after_all d ss
  declared_after d s = d

  pub declared_after_all : List ℕ → Stmts → List ℕ
  declared_after_all d no_stmts = d
  declared_after_all d (some_stmts s ss) = declared_after_all (declared_after d s) ss

abbrev pub inside_loop : Setting → Setting
inside_loop g = record g { breaks = true; continues = true }

abbrev pub inside_clause : Setting → Setting
inside_clause g = record g { breaks = true }

-- behind each turn of a loop
abbrev pub in_post : Setting → Setting
in_post g = record g { breaks = false; continues = false }

-- the condition of an if or a loop
abbrev pub IsCondition : Setting → List ℕ → Expr → Type 0
IsCondition g d e = IsExpr g d e × (is_bool_type (underlying (expr_type e)) ≡ true)

abbrev pub IsConditionOrNone : Setting → List ℕ → Option Expr → Type 0
IsConditionOrNone g d None = ⊤
IsConditionOrNone g d (Some e) = IsCondition g d e

-- the variable that counts has the type of the range
abbrev pub IsCounter : Setting → Option ℕ → Type' → Type 0
IsCounter g None t = ⊤
IsCounter g (Some n) t = slice_get g.locals n ≡ Some t

-- https://go.dev/ref/spec#Expression_switches: the cases may be compared with the tag
abbrev pub AreCases : Type' → List Type' → Type 0
AreCases t [] = ⊤
AreCases t (u ∷ us) = Suits u t × AreCases t us

-- https://go.dev/ref/spec#Fallthrough_statements: the last clause doesn't fall through
abbrev pub is_last_clause : Clauses → Bool
is_last_clause no_clauses = true
is_last_clause (clause o ss falls cs) = false

abbrev mutual
  pub IsStmt : Setting → List ℕ → Stmt → Type 0
  IsStmt g d (define os s) = IsWellTypedSource g d s × AreNew g.locals os (source_types s)
  IsStmt g d (assign ls s) = AreLefts g d ls (source_types s) × IsWellTypedSource g d s
  -- https://go.dev/ref/spec#Assignment_statements, IncDec_statements
  IsStmt g d (update t l op e) = IsWellTypedPart g d l t × IsExpr g d e × IsOperation op t t (expr_type e)
  -- https://go.dev/ref/spec#Expression_statements
  IsStmt g d (run ts s es) = IsWellTypedSource g d (results ts s es)
  IsStmt g d (print es) = AreWellTypedExprs g d es
  -- https://go.dev/ref/spec#Handling_panics
  IsStmt g d (panic e) = IsExpr g d e × (is_string_type (underlying (expr_type e)) ≡ true)
  -- https://go.dev/ref/spec#If_statements
  IsStmt g d (if_statement e a b) = IsCondition g d e × AreStmts g d a × AreStmts g d b
  -- https://go.dev/ref/spec#For_statements
  IsStmt g d (for_statement o post ss) = IsConditionOrNone g d o × AreStmts (in_post g) d post × AreStmts (inside_loop g) d ss
  IsStmt g d (range_statement o t e ss) =
      IsExpr g d e × (expr_type e ≡ t) × (is_integer_type (underlying t) ≡ true) × IsCounter g o t × AreStmts (inside_loop g) (known_numbers (o ∷ []) ++ d) ss
  -- https://go.dev/ref/spec#Switch_statements
  IsStmt g d (switch_statement e cs) = IsExpr g d e × AreClauses g d (expr_type e) cs
  IsStmt g d (block ss) = AreStmts g d ss
  -- https://go.dev/ref/spec#Break_statements
  IsStmt g d break = g.breaks ≡ true
  -- https://go.dev/ref/spec#Continue_statements
  IsStmt g d continue = g.continues ≡ true
  -- https://go.dev/ref/spec#Return_statements
  IsStmt g d (return s) = IsWellTypedSource g d s × AllSuit (source_types s) g.results

  pub AreStmts : Setting → List ℕ → Stmts → Type 0
  AreStmts g d no_stmts = ⊤
  AreStmts g d (some_stmts s ss) = IsStmt g d s × AreStmts g (declared_after d s) ss

  -- clauses of a switch over a tag of that type
  pub AreClauses : Setting → List ℕ → Type' → Clauses → Type 0
  AreClauses g d t no_clauses = ⊤
  AreClauses g d t (clause None ss falls cs) = AreStmts (inside_clause g) d ss × (falls && is_last_clause cs ≡ false) × AreClauses g d t cs
  AreClauses g d t (clause (Some es) ss falls cs) =
      AreWellTypedExprs g d es × AreCases t (exprs_types es) × AreStmts (inside_clause g) d ss × (falls && is_last_clause cs ≡ false) × AreClauses g d t cs

-- ---- functions and programs

-- the first numbers, up to one that isn't among them
abbrev pub first : ℕ → List ℕ
first zero = []
first (suc n) = n ∷ first n

abbrev pub signature_at : List Package → Symbol → Option Signature
signature_at packages s = option_map (λ f. record { parameters = f.parameters; results = f.results }) (function_by_symbol packages s)

abbrev pub variable_at : List Package → Symbol → Option Type'
variable_at packages s = option_map (λ v. v.of) (find (λ v. same_symbol s v.symbol) (flat_map first_variables packages))

abbrev pub setting : List Package → Function → Setting
setting packages f = record {
  functions = signature_at packages;
  variables = variable_at packages;
  locals = f.parameters ++ f.locals;
  results = f.results;
  breaks = false;
  continues = false;
}

abbrev pub are_none : List Type' → Bool
are_none [] = true
are_none (t ∷ ts) = false

-- https://go.dev/ref/spec#Function_declarations, Terminating_statements
-- its arguments are given, and where it has results it doesn't run off its end
pub record IsWellTypedFunction (packages : List Package) (f : Function) : Type 0 where
  pub body : AreStmts (setting packages f) (first (length f.parameters)) f.body
  pub ended : (are_none f.results || list_terminates f.body) ≡ true

-- where the values of package variables stand
abbrev pub package_setting : List Package → Setting
package_setting packages = record { functions = signature_at packages; variables = variable_at packages; locals = []; results = []; breaks = false; continues = false }

-- https://go.dev/ref/spec#Program_execution: package variables get values of their types; what is called takes no arguments, and gives no results
abbrev pub IsWellTypedStart : List Package → StartStep → Type 0
IsWellTypedStart packages (sets path i) =
    IsWellTypedSource (package_setting packages) [] i.source × AreGiven (λ x. variable_at packages (record { path = path; name = x })) i.variables (source_types i.source)
IsWellTypedStart packages (calls s) = signature_at packages s ≡ Some (record { parameters = []; results = [] })

-- packages whose functions and variables are well typed, and so is what the program starts with
pub record IsWellTyped (packages : List Package) : Type 0 where
  pub functions : All (λ (d : DeclaredFunction). IsWellTypedFunction packages d.function) (flat_map package_functions packages)
  pub variables : All (λ (v : Stored). IsWhole v.of) (flat_map first_variables packages)
  pub start : All (IsWellTypedStart packages) (start_steps packages)
