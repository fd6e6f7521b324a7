-- What the rules say of a statement whose parts are known, in the order of the Go specification's sections.
use Rattle.std.specs.Prelude.{ℕ, pos, Bool, true, false, ◌&&◌, ◌||◌, not, nat_eq, bytes_eq, if◌then◌else◌, length, List, [], ◌∷◌, ◌++◌, map, Option, Some, None, Ok, Err, option_map, unwrap_or, is_some}
use Rattle.std.specs.List.{zip, list_all, list_any}
use Rattle.go_text.specs.declared.fault.FaultKind.TheVariants.{Redeclared, Mismatch, NoReturn, Assign, Count, Branch}
use Rattle.go_ast.specs.declared.expression.BinaryOperator.{BinaryOperator}
use Rattle.go_ast.specs.Trees.{Name}
use Rattle.go_const.specs.declared.constant.Const.TheVariants.{Integer}
use Rattle.go_const.specs.declared.operator.ArithmeticOperator.{ArithmeticOperator}
use Rattle.go_const.specs.declared.operator.BinaryOperator.TheVariants.{Comparison}
use Rattle.go_const.specs.declared.operator.ComparisonOperator.TheVariants.{Equal}
use Rattle.go_types.specs.Types.{Type', array}
use Rattle.go_types.specs.Relations.{underlying, assignable}
use Rattle.go_typed.specs.declared.expression.Operator.TheVariants.{Arithmetic, Shift}
use Rattle.go_typed.specs.Trees.{Symbol, Expr, constant, local, global, field, index, binary, call, expr_type, Exprs, no_exprs, Steps, here, to_field, to_element, Left, blank, of_local, of_global, of_slice, ValueSource, each, results, zeros, Stmt, define, assign, update, run, print, panic, if_statement, for_statement, range_statement, switch_statement, Stmts, return, pack_exprs, pack_stmts, pack_clauses}
use Rattle.go_expr.specs.Known.{Declared, value, Known, declared, results as call_results, printed, panicked, Verdict, Fine, Breaks, Passed}
use Rattle.go_expr.specs.Rules.{checked, constant_in, fine_list, least, wrong, value_due, is_integer, slice_element, assigned, defaulted, as_type, condition, operand_type, binary_verdict}
use Rattle.go_expr.specs.Verdicts.{asked}
use Rattle.go_scope.specs.Scopes.{is_blank}
use Rattle.go_typed.specs.Terminating.{list_terminates}

abbrev pub all_some : {A : Type 0} → List (Option A) → Option (List A)
all_some [] = Some []
all_some (None ∷ os) = None
all_some (Some x ∷ os) = option_map (λ xs. x ∷ xs) (all_some os)

-- ---- values: https://go.dev/ref/spec#Assignment_statements

-- values that stand together: each by an expression, or all results of one call, which may be none
pub data AssignedValues : Type 0 where
  separate : List Expr → AssignedValues
  together : List Type' → Symbol → Exprs → AssignedValues
  no_values : AssignedValues

-- those of one expression
abbrev pub values_of : Known → Verdict AssignedValues
values_of (call_results ts f es) = Fine (together ts f es)
values_of (panicked e) = Fine no_values
values_of k = checked (λ e. Fine (separate (e ∷ []))) (value_due k)

-- a value where a type is due, and where none is
abbrev pub suited_one : Option Type' × Expr → Verdict Expr
suited_one (None, e) = defaulted e
suited_one (Some t, e) = assigned t e

abbrev pub takes : Option Type' × Type' → Bool
takes (None, u) = true
takes (Some t, u) = assignable u t

-- as many values as are due, each assignable to its type; a call that has no result gives none
abbrev pub suited : List (Option Type') → AssignedValues → Verdict ValueSource
suited due (separate es) =
    if nat_eq (length due) (length es) then checked (λ es. Fine (each (pack_exprs es))) (fine_list [] (map suited_one (zip due es))) else Breaks Count
suited due (together ts f es) =
    if nat_eq (length ts) 0 || not (nat_eq (length due) (length ts)) then Breaks Count
    else (if list_all takes (zip due ts) then Fine (results ts f es) else Breaks Assign)
suited due no_values = Breaks Count

-- where it isn't known what is due for a value, any value is suited
abbrev pub suited_if : Option (Option Type') × Expr → Verdict Expr
suited_if (None, e) = Fine e
suited_if (Some t, e) = suited_one (t, e)

abbrev pub suited_partly : List (Option (Option Type')) → AssignedValues → Verdict ValueSource
suited_partly due (separate es) =
    if nat_eq (length due) (length es) then checked (λ es. Fine (each (pack_exprs es))) (fine_list [] (map suited_if (zip due es))) else Breaks Count
suited_partly due values = suited (map (λ t. unwrap_or t None) due) values

-- ---- declarations

-- https://go.dev/ref/spec#Constant_declarations
abbrev pub is_constant : Expr → Bool
is_constant e = is_some (constant_in e)

-- of the type that is written, if one is
abbrev pub constants_source : List Name → Option Type' → List Expr → Verdict ValueSource
constants_source ns None es = Fine (each no_exprs)
constants_source ns (Some t) es = suited (map (λ n. Some t) ns) (separate es)

abbrev pub constants_verdict : List Name → Option Type' → List Expr → Verdict Stmt
constants_verdict ns t es =
    if not (list_all is_constant es) then Breaks Mismatch
    else (if not (nat_eq (length ns) (length es)) then Breaks Count else checked (λ source. Fine (define [] (each no_exprs))) (constants_source ns t es))

-- https://go.dev/ref/spec#Variable_declarations
abbrev pub has_no_values : AssignedValues → Bool
has_no_values values = elim values [ separate es ↦ nat_eq (length es) 0 | _ ↦ false ]

-- without values variables are zero
abbrev pub variables_source : List Name → Option Type' → AssignedValues → Verdict ValueSource
variables_source ns None values = suited (map (λ n. None) ns) values
variables_source ns (Some t) values = if has_no_values values then Fine (zeros (map (λ n. t) ns)) else suited (map (λ n. Some t) ns) values

-- https://go.dev/ref/spec#Short_variable_declarations
-- no name stands there twice, and one that isn't blank is new
abbrev pub differ : List Name → Bool
differ [] = true
differ (n ∷ ns) = (is_blank n.text || not (list_any (λ m. bytes_eq n.text m.text) ns)) && differ ns

abbrev pub is_new : Name → Option (Option Declared) → Bool
is_new n own = not (is_blank n.text || is_some own)

-- what is due for a name, by what the block has under it: none for a new one, and the type of a variable, where something is known of it;
-- that a name is a constant's is known whatever its value is
abbrev pub due_for : Bool → Option (Option Declared) → Option (Option (Option Type'))
due_for of_constant own = elim own [
  | None ↦ Some (Some None)
  | Some None ↦ if of_constant then None else Some None
  | Some (Some (value (local t n))) ↦ Some (Some (Some t))
  | _ ↦ None
]

-- by the names of the constants of the block, and by what the block has under each name
abbrev pub dues_for : List (List ℕ) → (Name → Option (Option Declared)) → List Name → Option (List (Option (Option Type')))
dues_for constants own ns = all_some (map (λ n. due_for (list_any (bytes_eq n.text) constants) (own n)) ns)

-- the names are no uses: where nothing is known of one, all is asked but whether its own value is assignable
abbrev pub redefined : List (List ℕ) → (Name → Option (Option Declared)) → List Name → AssignedValues → Verdict ValueSource
redefined constants own ns values =
    if not (differ ns && list_any (λ n. is_new n (own n)) ns) then Breaks Redeclared
    else (elim (dues_for constants own ns) [
      | None ↦ Breaks Mismatch
      | Some due ↦ elim (all_some due) [ None ↦ checked (λ source. Passed) (suited_partly due values) | Some due ↦ suited due values ]
    ])

-- ---- simple statements

-- https://go.dev/ref/spec#Expression_statements
-- a call of Println is asked for what it prints
abbrev pub stated : Known → Verdict Known
stated k = elim k [ printed (Err kind) ↦ Breaks kind | k ↦ Fine k ]

abbrev pub performed : Known → Verdict Stmt
performed (declared (value (call t f es))) = Fine (run (t ∷ []) f es)
performed (call_results ts f es) = Fine (run ts f es)
performed (printed (Ok es)) = Fine (print es)
performed (printed (Err kind)) = Breaks kind
performed (panicked e) = Fine (panic e)
performed k = Breaks Mismatch

-- https://go.dev/ref/spec#Assignment_statements
abbrev pub is_array : Type' → Bool
is_array t = elim (underlying t) [ array n u ↦ true | _ ↦ false ]

-- the part of a variable, or of a slice, that an expression names, in front of some steps
abbrev pub left_to : Steps → Expr → Option Left
left_to ss (local t n) = Some (of_local t n ss)
left_to ss (global t x) = Some (of_global t x ss)
left_to ss (field t e n) = left_to (to_field n ss) e
left_to ss (index t e i) =
    if is_array (expr_type e) then left_to (to_element i ss) e
    else (if is_some (slice_element (expr_type e)) then Some (of_slice (expr_type e) e (to_element i ss)) else None)
left_to ss e = None

abbrev pub left_side : Option Expr → Option Left
left_side o = elim o [ None ↦ Some blank | Some e ↦ left_to here e ]

abbrev pub assigned_to : List (Option Expr) → AssignedValues → Verdict Stmt
assigned_to es values = elim (all_some (map left_side es)) [
  | None ↦ Breaks Mismatch
  | Some ls ↦ checked (λ source. Fine (assign ls source)) (suited (map (option_map expr_type) es) values)
]

abbrev pub is_left : Expr → Bool
is_left e = is_some (left_to here e)

-- an operator of two operands, the first of which gets what it gives
abbrev pub updating : Expr → Verdict Stmt
updating (binary t (Arithmetic op) a b) = elim (left_to here a) [ Some l ↦ Fine (update (expr_type a) l (Arithmetic op) b) | None ↦ Breaks Mismatch ]
updating (binary t (Shift op) a b) = elim (left_to here a) [ Some l ↦ Fine (update (expr_type a) l (Shift op) b) | None ↦ Breaks Mismatch ]
updating e = Breaks Mismatch

abbrev pub update_verdict : BinaryOperator → Expr → Expr → Verdict Stmt
update_verdict op a b = elim (is_left a) [
  | true ↦ checked updating (binary_verdict op a b)
  | false ↦ elim (least (Mismatch ∷ wrong (binary_verdict op a b))) [ Some kind ↦ Breaks kind | None ↦ Passed ]
]

-- https://go.dev/ref/spec#IncDec_statements
abbrev pub inc_dec_verdict : ArithmeticOperator → Expr → Verdict Stmt
inc_dec_verdict op e = elim (left_to here e) [
  | Some l ↦ if is_integer (expr_type e) then Fine (update (expr_type e) l (Arithmetic op) (constant (expr_type e) (Integer (pos 1)))) else Breaks Mismatch
  | None ↦ Breaks Mismatch
]

-- ---- other statements

-- https://go.dev/ref/spec#If_statements
abbrev pub conditional : List Stmt → Expr → List Stmt → List Stmt → Verdict (List Stmt)
conditional before e a b = checked (λ e. Fine (before ++ if_statement e (pack_stmts a) (pack_stmts b) ∷ [])) (condition e)

-- https://go.dev/ref/spec#For_condition
abbrev pub loop_condition : Option Expr → Verdict (Option Expr)
loop_condition None = Fine None
loop_condition (Some e) = checked (λ e. Fine (Some e)) (condition e)

abbrev pub looped : List Stmt → Option Expr → List Stmt → List Stmt → Verdict (List Stmt)
looped before e post ss = checked (λ e. Fine (before ++ for_statement e (pack_stmts post) (pack_stmts ss) ∷ [])) (loop_condition e)

-- https://go.dev/ref/spec#For_range
abbrev pub counted : Expr → Verdict Expr
counted e = if is_integer (expr_type e) then defaulted e else Breaks Mismatch

-- what the range breaks is told whether the body, in which the variable may stand, is known or not
abbrev pub ranged : Option ℕ → Expr → Option (List Stmt) → Verdict (List Stmt)
ranged number e body = checked (λ e. asked (λ ss. Fine (range_statement number (expr_type e) e (pack_stmts ss) ∷ [])) body) (counted e)

-- https://go.dev/ref/spec#Expression_switches
abbrev pub SwitchClause : Type 0
SwitchClause = Option Exprs × (Stmts × Bool)

-- a value of a case, compared with a variable of the tag's type: whether the tag lies in that type is the switch's own matter
abbrev pub case_value : Type' → Expr → Verdict Expr
case_value t e = checked (λ t. Fine (as_type t e)) (operand_type (Comparison Equal) (local t 0) e)

-- a case, or a default, behind another or not
abbrev pub clause_verdict : Option Type' → Bool → Bool → Option (List Expr) → List Stmt → Verdict SwitchClause
clause_verdict tag again falls None ss = if again then Breaks Branch else Fine (None, (pack_stmts ss, falls))
clause_verdict tag again falls (Some es) ss =
    checked (λ es. Fine (Some (pack_exprs es), (pack_stmts ss, falls))) (asked (λ t. fine_list [] (map (case_value t) es)) tag)

abbrev pub switched : List Stmt → Expr → List SwitchClause → Verdict (List Stmt)
switched before tag cs = checked (λ tag. Fine (before ++ switch_statement tag (pack_clauses cs) ∷ [])) (defaulted tag)

-- a break, a continue or a fallthrough, where it may stand
abbrev pub branch : Bool → List Stmt → Verdict (List Stmt)
branch may_stand ss = if may_stand then Fine ss else Breaks Branch

-- https://go.dev/ref/spec#Return_statements
-- by the type of each result, where it is known
abbrev pub return_verdict : List (Option Type') → AssignedValues → Verdict (List Stmt)
return_verdict ts values = checked (λ source. Fine (return source ∷ [])) (suited_partly (map (option_map Some) ts) values)

-- https://go.dev/ref/spec#Terminating_statements
-- the body of a function with results doesn't run off its end
abbrev pub ended : List Type' → List Stmt → Verdict (List Type' × List Stmt)
ended ts ss = if nat_eq (length ts) 0 || list_terminates (pack_stmts ss) then Fine (ts, ss) else Breaks NoReturn
