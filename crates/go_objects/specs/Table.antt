-- What is known of each object of a package, in whatever order they are declared.
use Rattle.std.specs.Prelude.{◌≡◌, ℕ, suc, Bool, false, not, nat_eq, bytes_eq, codes, length, if◌then◌else◌, List, [], ◌∷◌, ◌++◌, map, Option, Some, None, option_map, option_and_then, unwrap_or}
use Rattle.std.specs.List.{slice_get, flat_map, filter, filter_map, list_any}
use Rattle.go_text.specs.declared.fault.FaultKind.TheVariants.{Size, Redeclared}
use Rattle.go_text.specs.declared.edition.Edition.{Edition}
use Rattle.go_ast.specs.Trees.{Name, TypeExpr, Expression, Parameter}
use Rattle.go_types.specs.Types.{Type', named}
use Rattle.go_types.specs.Relations.{underlying}
use Rattle.go_typed.specs.Trees.{Symbol, Expr as Typed, global}
use Rattle.go_scope.specs.Names.{Used, in_type, in_expr, in_exprs}
use Rattle.go_scope.specs.Order.{Grounded}
use Rattle.go_expr.specs.Known.{Declared, value, type', function, Names, Known, declared, package', results, Verdict, Fine, Breaks, Passed, Scope, named as known_name, universe}
use Rattle.go_expr.specs.Rules.{fine, valued, is_small, constant_due, assigned, settled_type, are_distinct}
use Rattle.go_expr.specs.Views.{iota_of}
use Rattle.go_expr.specs.Verdicts.{asked, chained, asked_both, operand, verdict, type_verdict}
use Rattle.go_objects.specs.Objects.{Form, DeclaredObject}
use Rattle.go_objects.specs.Objects as forms

-- a package: its path, of each file the names of its imports with what these export, and its objects
pub record PackageTable : Type 0 where
  pub path : List ℕ
  pub edition : Edition
  pub imports : List (List (List ℕ × Names))
  pub objects : List DeclaredObject

-- ---- what stands on what

abbrev pub in_written : Option TypeExpr → List Used
in_written t = elim t [ None ↦ [] | Some t ↦ in_type t ]

-- a function stands on its signature, a variable on its type, and where none is written on its value
abbrev pub used_by : Form → List Used
used_by (forms.constant t e iota) = in_written t ++ in_expr false e
used_by (forms.type' t) = in_type t
used_by (forms.typed_variable t) = in_type t
used_by (forms.valued_variable e) = in_expr false e
used_by (forms.result_variable number count e) = in_expr false e
used_by (forms.function' ps ts) = flat_map (λ (p : Parameter). in_type p.type) ps ++ flat_map in_type ts
used_by (forms.other t es) = in_written t ++ in_exprs es

-- the number of the object of a name
abbrev pub number_of : List DeclaredObject → List ℕ → Option ℕ
number_of [] x = None
number_of (o ∷ os) x = if bytes_eq x o.name.text then Some 0 else option_map suc (number_of os x)

-- what the imports of a file declare
abbrev pub imports_at : PackageTable → ℕ → List (List ℕ × Names)
imports_at p file = unwrap_or (slice_get p.imports file) []

-- https://go.dev/ref/spec#Declarations_and_scope
-- imports of a file hide names of the package
abbrev pub is_hidden : List (List ℕ × Names) → List ℕ → Bool
is_hidden imports x = list_any (λ i. bytes_eq x i.0) imports

-- the objects that an object names
abbrev pub needs : PackageTable → DeclaredObject → List ℕ
needs p o = filter_map (number_of p.objects) (filter (λ x. not (is_hidden (imports_at p o.file) x)) (map (λ u. u.0) (used_by o.form)))

abbrev pub rows : PackageTable → List (List ℕ)
rows p = map (needs p) p.objects

-- ---- what is known

-- where an object stands, by what is known of the package's names; of a constant iota has a value
abbrev pub scope_at : PackageTable → Names → ℕ → Option ℕ → Scope
scope_at p known file iota = record {
  path = p.path;
  names = map (λ i. (i.0, Fine (package' i.1))) (imports_at p file) ++ (map (λ n. (n.0, known_name n.1)) known ++ (iota_of iota ++ universe p.edition));
}

-- https://go.dev/ref/spec#Constant_declarations
-- the value, as one of the type that is written, if one is
abbrev pub declared_value : Scope → Option TypeExpr → Expression → Option Typed
declared_value s None e = operand (verdict s e)
declared_value s (Some t) e = fine (asked_both assigned (fine (type_verdict s t)) (operand (verdict s e)))

abbrev pub constant_verdict : Scope → Option TypeExpr → Expression → Verdict Known
constant_verdict s t e = valued (asked constant_due (declared_value s t e))

-- https://go.dev/ref/spec#Type_definitions
abbrev pub named_type : List ℕ → List ℕ → Type' → Verdict Known
named_type path name t = if is_small (named path name (underlying t)) then Fine (declared (type' (named path name (underlying t)))) else Breaks Size

-- https://go.dev/ref/spec#Variable_declarations
-- the type of one of as many results of a call
abbrev pub call_result_type : ℕ → ℕ → Option Known → Option Type'
call_result_type number count (Some (results ts f es)) = if nat_eq (length ts) count then slice_get ts number else None
call_result_type number count k = None

abbrev pub variable : Symbol → Option Type' → Verdict Known
variable x t = asked (λ t. Fine (declared (value (global t x)))) t

-- https://go.dev/ref/spec#Function_declarations
-- the types in a signature, each once for every name, where all are known
abbrev pub types_known : Scope → List TypeExpr → Option (List Type')
types_known s [] = Some []
types_known s (t ∷ ts) = chained (option_map (λ t. t ∷ []) (fine (type_verdict s t))) (types_known s ts)

abbrev pub parameters_known : Scope → List Parameter → Option (List Type')
parameters_known s [] = Some []
parameters_known s (p ∷ ps) = chained (option_map (λ t. map (λ n. t) p.names) (fine (type_verdict s p.type))) (parameters_known s ps)

-- names but the blank one, of which none stands twice among parameters
abbrev pub own_names : List Name → List (List ℕ)
own_names ns = filter (λ x. not (bytes_eq x (codes "_"))) (map (λ (n : Name). n.text) ns)

abbrev pub parameter_names : List Parameter → List (List ℕ)
parameter_names ps = flat_map (λ (p : Parameter). own_names p.names) ps

abbrev pub function_verdict : Scope → Symbol → List Parameter → List TypeExpr → Verdict Known
function_verdict s x ps ts =
    if are_distinct (parameter_names ps)
    then asked_both (λ ts rs. Fine (declared (function x ts rs))) (parameters_known s ps) (types_known s ts) else Breaks Redeclared

-- iota has a value in a constant alone: https://go.dev/ref/spec#Iota
abbrev pub iota_in : Form → Option ℕ
iota_in form = elim form [ forms.constant t e iota ↦ Some iota | _ ↦ None ]

abbrev pub form_verdict : Scope → Symbol → Form → Verdict Known
form_verdict s x form = elim form [
  | forms.constant t e iota ↦ constant_verdict s t e
  | forms.type' t ↦ asked (named_type x.path x.name) (fine (type_verdict s t))
  | forms.typed_variable t ↦ variable x (fine (type_verdict s t))
  | forms.valued_variable e ↦ variable x (option_and_then settled_type (operand (verdict s e)))
  | forms.result_variable number count e ↦ variable x (call_result_type number count (fine (verdict s e)))
  | forms.function' ps ts ↦ function_verdict s x ps ts
  | forms.other t es ↦ Passed
]

abbrev pub object_verdict : PackageTable → Names → DeclaredObject → Verdict Known
object_verdict p known o = form_verdict (scope_at p known o.file (iota_in o.form)) (record { path = p.path; name = o.name.text }) o.form

abbrev pub declared_in : Option Known → Option Declared
declared_in (Some (declared d)) = Some d
declared_in _ = None

-- The table of a package has its objects in order. Of one that leads to none that depends on itself it has what its form declares by
-- the table, and of any other nothing.
pub record IsTable (p : PackageTable) (known : Names) : Type 0 where
  pub named : map (λ n. n.0) known ≡ map (λ (o : DeclaredObject). o.name.text) p.objects
  pub grounded : (k : ℕ) (o : DeclaredObject) → slice_get p.objects k ≡ Some o → Grounded (rows p) k →
      slice_get known k ≡ Some (o.name.text, declared_in (fine (object_verdict p known o)))
  pub others : (k : ℕ) (o : DeclaredObject) → slice_get p.objects k ≡ Some o → ¬ Grounded (rows p) k → slice_get known k ≡ Some (o.name.text, None)
