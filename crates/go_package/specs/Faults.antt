-- The faults of what the files of a package declare, in the order of the text.
use Rattle.std.specs.Prelude.{ℕ, suc, Bool, false, ◌&&◌, ◌||◌, not, IsTrue, ◌↔◌, nat_eq, bytes_eq, if◌then◌else◌, option_map, List, [], ◌∷◌, ◌++◌, map, codes, is_some, Option, Some, None}
use Rattle.std.specs.List.{slice_get, flat_map, list_any}
use Rattle.go_text.specs.declared.place.Place.{Place}
use Rattle.go_text.specs.declared.fault.FaultKind.{FaultKind}
use Rattle.go_text.specs.declared.fault.FaultKind.TheVariants.{Redeclared, Recursive}
use Rattle.go_ast.specs.Trees.{Name, TypeExpr, Expression, no_exprs, ConstSpec, VarSpec, TypeSpec, constants, variables, types, FunctionDecl, TopLevel, declared, function, File}
use Rattle.ws_reach.specs.Worklist.{is_marked}
use Rattle.go_types.specs.Types.{Type'}
use Rattle.go_typed.specs.Trees.{Expr as Typed}
use Rattle.go_scope.specs.Names.{Used, in_exprs}
use Rattle.go_scope.specs.Order.{DependsOnItself}
use Rattle.go_expr.specs.Known.{Names, Verdict, Fine, Scope}
use Rattle.go_expr.specs.Rules.{fine, checked, constant_due, assigned, defaulted}
use Rattle.go_expr.specs.Verdicts.{asked, both, asked_both, operand, verdict, broken, operand_list, type_verdict, operand_broken, faults, type_faults, operands_faults}
use Rattle.go_stmt.specs.Scopes.{Context}
use Rattle.go_stmt.specs.Rules.{AssignedValues, constants_verdict, variables_source}
use Rattle.go_stmt.specs.Statements.{is_unknown, values_known, values_faults, first_fault, written_faults, least_at, repeated_faults}
use Rattle.go_stmt.specs.Functions.{function_at}
use Rattle.go_objects.specs.Objects as objects
use Rattle.go_scope.specs.Specifications.{meant, is_repeated}
use Rattle.go_objects.specs.Objects.{constant, valued_variable, DeclaredObject, variables_of, type_object}
use Rattle.go_objects.specs.Table.{PackageTable, in_written, number_of, scope_at, object_verdict}

-- a package, what is known of its objects, and of each object whether it depends on itself
pub record Facts : Type 0 where
  pub «package» : PackageTable
  pub known : Names
  pub recursive : List Bool

-- the marks of those that depend on themselves
abbrev pub AreRecursive : List (List ℕ) → List Bool → Type 0
AreRecursive rows recursive = (k : ℕ) → IsTrue (is_marked recursive k) ↔ DependsOnItself rows k

-- something is known of the object of a number
abbrev pub is_known : Names → ℕ → Bool
is_known known k = elim (slice_get known k) [ None ↦ false | Some n ↦ is_some n.1 ]

-- faults of a file: each with its place
abbrev pub Faults : Type 0
Faults = List (Place × FaultKind)

-- ---- names: https://go.dev/ref/spec#Declarations_and_scope

-- an object is what this name of a file declares
abbrev pub is_declared_by : ℕ → Name → Option DeclaredObject → Bool
is_declared_by file n None = false
is_declared_by file n (Some o) = nat_eq file o.file && (nat_eq n.place.line o.name.place.line && nat_eq n.place.column o.name.place.column)

-- a name whose object another name declares, before it, or that depends on itself; the blank name has no object
abbrev pub name_faults : Facts → ℕ → Name → Faults
name_faults t file n = elim (number_of t.package.objects n.text) [
  | None ↦ []
  | Some k ↦ if not (is_declared_by file n (slice_get t.package.objects k)) then (n.place, Redeclared) ∷ []
      else (if is_marked t.recursive k then (n.place, Recursive) ∷ [] else [])
]

-- ---- names by themselves

-- the type that is written, if one is, where it is known
abbrev pub written_type : Scope → Option TypeExpr → Option (Option Type')
written_type s t = elim t [ None ↦ Some None | Some t ↦ option_map Some (fine (type_verdict s t)) ]

-- https://go.dev/ref/spec#Constant_declarations
-- a constant's value is constant, and assignable to the type that is written, if one is
abbrev pub own_constant : Option Type' → Typed → Verdict Typed
own_constant t e = checked (λ e. elim t [ None ↦ Fine e | Some t ↦ assigned t e ]) (constant_due e)

-- the least fault of its type and its value, or its own
abbrev pub constant_faults : Scope → Place → Option TypeExpr → Expression → Faults
constant_faults s p t e =
    least_at p (first_fault (written_faults s t) ++ first_fault (faults s e ++ operand_broken e (verdict s e)))
    ++ broken p (asked_both own_constant (written_type s t) (operand (verdict s e)))

-- https://go.dev/ref/spec#Variable_declarations
-- the value of a variable without a type lies in the type that it takes of it
abbrev pub variable_faults : Scope → Place → Expression → Faults
variable_faults s p e = broken p (asked defaulted (operand (verdict s e)))

-- that of an object with a value of its own, where its specification begins
abbrev pub object_faults : Facts → DeclaredObject → Faults
object_faults t o = elim o.form [
  | constant of e iota ↦ constant_faults (scope_at t.package t.known o.file (Some iota)) o.begins of e
  | valued_variable e ↦ variable_faults (scope_at t.package t.known o.file None) o.begins e
  | _ ↦ []
]

-- an object is of the specification that begins at a place of a file
abbrev pub is_of_spec : ℕ → Place → Option DeclaredObject → Bool
is_of_spec file p None = false
is_of_spec file p (Some o) = nat_eq file o.file && (nat_eq p.line o.begins.line && nat_eq p.column o.begins.column)

-- A name of which nothing is known, since its declaration is faulty, hides the faults of a specification that stands on it, unless it is of the specification.
abbrev pub hides : Facts → ℕ → Place → Used → Bool
hides t file p u = elim (number_of t.package.objects u.0) [
  | None ↦ false
  | Some k ↦ not (is_known t.known k) && not (is_of_spec file p (slice_get t.package.objects k))
]

-- A specification of which a part isn't known can't be asked as a whole. It is asked for each of its objects by itself, unless a name in it hides that.
abbrev pub apart : Facts → ℕ → Place → Bool → List Used → List DeclaredObject → Faults
apart t file p whole us os = if whole || list_any (hides t file p) us then [] else least_at p (flat_map (object_faults t) os)

-- ---- constants: https://go.dev/ref/spec#Constant_declarations

-- a name that stands for a faulty declaration hides the faults of what is repeated, unless the specification itself declares it
abbrev pub hides_repeated : Facts → ℕ → Place → Scope → Used → Bool
hides_repeated t file p s u = is_unknown s u && hides t file p u

-- its type and its values, which are one node where they are repeated
abbrev pub parts_faults : Facts → ℕ → Bool → Place → Scope → ConstSpec → Faults
parts_faults t file repeated p s spec =
    if repeated then repeated_faults (list_any (hides_repeated t file p s) (in_written spec.type ++ in_exprs spec.values)) p s spec.type spec.values
    else written_faults s spec.type ++ operands_faults s spec.values

-- The faults of a specification itself, by what is known of its type and its values: there are as many values as names, all constant, each assignable to the
-- type that is written; or those of each constant by itself, where it can't be asked as a whole.
abbrev pub constants_by : Facts → ℕ → ℕ → Place → ConstSpec → Option (Option Type') → Option (List Typed) → Faults
constants_by t file iota p spec of values =
    broken p (asked_both (constants_verdict spec.names) of values)
    ++ apart t file p (is_some (both of values)) (in_written spec.type ++ in_exprs spec.values) (objects.constants_of file iota spec)

-- a specification by what it means: its names, then its type and its values, then itself, at its first name
abbrev pub constant_spec_faults : Facts → ℕ → ℕ → Bool → ConstSpec → Faults
constant_spec_faults t file iota repeated spec = elim spec.names [
  | [] ↦ []
  | first ∷ others ↦ (let s = scope_at t.package t.known file (Some iota) in
      flat_map (name_faults t file) spec.names ++ (parts_faults t file repeated first.place s spec
      ++ constants_by t file iota first.place spec (written_type s spec.type) (operand_list s spec.values)))
]

abbrev pub group_faults : Facts → ℕ → ℕ → ConstSpec → List ConstSpec → Faults
group_faults t file iota before [] = []
group_faults t file iota before (s ∷ ss) = constant_spec_faults t file iota (is_repeated s) (meant before s) ++ group_faults t file (suc iota) (meant before s) ss

-- ---- other declarations

-- https://go.dev/ref/spec#Type_declarations
abbrev pub type_spec_faults : Facts → ℕ → TypeSpec → Faults
type_spec_faults t file s =
    name_faults t file s.name ++ (type_faults (scope_at t.package t.known file None) s.type ++ broken s.name.place (object_verdict t.package t.known (type_object file s)))

-- https://go.dev/ref/spec#Variable_declarations
abbrev pub var_parts_faults : Scope → VarSpec → Faults
var_parts_faults s spec = written_faults s spec.type ++ values_faults s spec.values

-- the faults of a specification itself, by what is known of its type and its values, or those of each variable by itself, where it can't be asked as a whole
abbrev pub variables_by : Facts → ℕ → Place → VarSpec → Option (Option Type') → Option AssignedValues → Faults
variables_by t file p spec of values =
    broken p (asked_both (variables_source spec.names) of values)
    ++ apart t file p (is_some (both of values)) (in_written spec.type ++ in_exprs spec.values) (variables_of file spec)

-- its names, then its type and its values, then itself, at its first name
abbrev pub var_spec_faults : Facts → ℕ → VarSpec → Faults
var_spec_faults t file spec = elim spec.names [
  | [] ↦ []
  | first ∷ others ↦ (let s = scope_at t.package t.known file None in
      flat_map (name_faults t file) spec.names
      ++ (var_parts_faults s spec ++ variables_by t file first.place spec (written_type s spec.type) (values_known s spec.values)))
]

-- https://go.dev/ref/spec#Function_declarations
-- outside of a function there are the names of its file and of its package
abbrev pub context_at : Facts → ℕ → Context
context_at t file = record {
  path = t.package.path;
  outside = λ iota. (scope_at t.package t.known file iota).names;
  results = [];
  constants = [];
  breaks = false;
  continues = false;
  falls = false;
}

-- init declares no name
abbrev pub own_faults : Facts → ℕ → Name → Faults
own_faults t file n = if bytes_eq n.text (codes "init") then [] else name_faults t file n

-- its name, then its parameters, its results and its body
abbrev pub function_faults : Facts → ℕ → FunctionDecl → Faults
function_faults t file f = own_faults t file f.name ++ (function_at (context_at t file) f).faults

abbrev pub top_faults : Facts → ℕ → TopLevel → Faults
top_faults t file (declared (constants p ss)) = group_faults t file 0 (record { names = []; type = None; values = no_exprs }) ss
top_faults t file (declared (types p ss)) = flat_map (type_spec_faults t file) ss
top_faults t file (declared (variables p ss)) = flat_map (var_spec_faults t file) ss
top_faults t file (function f) = function_faults t file f

-- those of files, each fault behind the number of its file
abbrev pub files_faults : Facts → ℕ → List File → List (ℕ × (Place × FaultKind))
files_faults t file [] = []
files_faults t file (f ∷ fs) = map (λ x. (file, x)) (flat_map (top_faults t file) f.declarations) ++ files_faults t (suc file) fs
