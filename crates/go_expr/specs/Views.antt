-- How the code's values stand for those of the definitions, and what its answers say.
use Rattle.std.specs.Prelude.{Vec, String, ◌≡◌, ℕ, List, [], ◌∷◌, ◌++◌, map, pos, codes, Option, Some, None, Result, Ok, Err, string_bytes}
use Rattle.indexmap.specs.IndexMap.{IndexMap}
use Rattle.std.specs.Global.{Global}
use Rattle.std.specs.List.{filter_map, flat_map}
use Rattle.std.specs.Option.{option_map}
use Rattle.go_text.specs.declared.edition.Edition.{Edition}
use Rattle.go_text.specs.declared.fault.FaultKind.{FaultKind}
use Rattle.go_text.specs.declared.place.Place.{Place}
use Rattle.go_ast.specs.declared.expression.Element.{Element as ElementExpr}
use Rattle.go_ast.specs.Trees as trees
use Rattle.go_ast.specs.Views.{element_of as element_tree}
use Rattle.go_const.specs.declared.constant.Const.{Const}
use Rattle.go_const.specs.declared.constant.Const.TheVariants.{Integer}
use Rattle.go_types.specs.declared.types.Basic.TheVariants as basics
use Rattle.go_types.specs.declared.types.Untyped.TheVariants as kinds
use Rattle.go_types.specs.Types.{Type', basic}
use Rattle.go_types.specs.Views.{go_type}
use Rattle.go_typed.specs.declared.expression.TypedExpr.{TypedExpr}
use Rattle.go_typed.specs.Trees as typed
use Rattle.go_typed.specs.Views.{as_expr, as_exprs}
use Rattle.go_scope.specs.Scopes.{Env}
use Rattle.go_expr.specs.declared.composite.Due.{Due}
use Rattle.go_expr.specs.declared.composite.Due.TheVariants as dues
use Rattle.go_expr.specs.declared.composite.Element as checked_elements
use Rattle.go_expr.specs.declared.composite.Slots.{Slots}
use Rattle.go_expr.specs.declared.composite.Slots.TheVariants as slots
use Rattle.go_expr.specs.declared.error.ExprError.{ExprError}
use Rattle.go_expr.specs.declared.error.ExprError.TheVariants as errors
use Rattle.go_expr.specs.declared.error.RuleError.{RuleError}
use Rattle.go_expr.specs.declared.error.RuleError.TheVariants as rule_errors
use Rattle.go_expr.specs.declared.fields.NamedFields.{NamedFields}
use Rattle.go_expr.specs.declared.gather.Gathered.{Gathered}
use Rattle.go_expr.specs.declared.known.Declared as declared
use Rattle.go_expr.specs.declared.known.Declared.TheVariants as declarations
use Rattle.go_expr.specs.declared.known.Function.{Function}
use Rattle.go_expr.specs.declared.known.Known as knowns
use Rattle.go_expr.specs.declared.known.Known.TheVariants as variants
use Rattle.go_expr.specs.declared.operator.Operation.{Operation}
use Rattle.go_expr.specs.declared.operator.Operation.TheVariants as operations
use Rattle.go_expr.specs.declared.scope.Import as imports
use Rattle.go_expr.specs.declared.scope.Scope as scopes
pub use Rattle.go_expr.specs.Fields.{typed_field}
use Rattle.go_expr.specs.Known as known
use Rattle.go_expr.specs.Known.{Verdict, Fine, Breaks, Passed}
use Rattle.go_expr.specs.Rules.{fine, valued, wrong, lesser_fault, least, constant_in, combined, shift_verdict, field_slot, keyed_slot, literal_of}
use Rattle.go_expr.specs.Rules as rules
use Rattle.go_expr.specs.Verdicts.{asked_both, elements, broken}

abbrev pub declared_function : Function → known.Declared
declared_function f = known.function f.symbol (map go_type f.parameters.items) (map go_type f.results.items)

abbrev pub declared_of : declared.Declared → known.Declared
declared_of (declarations.Constant t c) = known.value (typed.constant (go_type t) c)
declared_of (declarations.Local t n) = known.value (typed.local (go_type t) n)
declared_of (declarations.Global t s) = known.value (typed.global (go_type t) s)
declared_of (declarations.Type t) = known.type' (go_type t)
declared_of (declarations.Function f) = declared_function f.value
declared_of declarations.Println = known.println
declared_of declarations.Length = known.length'
declared_of declarations.Capacity = known.capacity'
declared_of declarations.Make = known.make'
declared_of declarations.Append = known.append'
declared_of declarations.Panic = known.panic'

abbrev pub names_of : {A S : Type 0} → IndexMap (String A) (Option declared.Declared) S → known.Names
names_of names = map (λ e. (string_bytes e.0, option_map declared_of e.1)) names.entries

-- the operands of a call of Println, or what is wrong with them
abbrev pub printed_of : Result (Vec TypedExpr Global) FaultKind → Result typed.Exprs FaultKind
printed_of (Ok es) = Ok (as_exprs es.items)
printed_of (Err kind) = Err kind

abbrev pub known_of : knowns.Known → known.Known
known_of (variants.Value e) = known.declared (known.value (as_expr e))
known_of (variants.Type t) = known.declared (known.type' (go_type t))
known_of (variants.Function f) = known.declared (declared_function f.value)
known_of variants.Println = known.declared known.println
known_of variants.Length = known.declared known.length'
known_of variants.Capacity = known.declared known.capacity'
known_of variants.Make = known.declared known.make'
known_of variants.Append = known.declared known.append'
known_of variants.Panic = known.declared known.panic'
known_of (variants.Package names) = known.package' (names_of names.now)
known_of (variants.Results ts s es) = known.results (map go_type ts.items) s (as_exprs es.items)
known_of (variants.Printed operands) = known.printed (printed_of operands)
known_of (variants.Panicked e) = known.panicked (as_expr e)

-- what the names in a scope find: those of blocks, those of imports, those of the package, iota where it has a value, and the others
abbrev pub imported_view : imports.Import → List ℕ × Verdict known.Known
imported_view i = (i.name.now, Fine (known.package' (names_of i.exports.now)))

abbrev pub counted_known : ℕ → Verdict known.Known
counted_known n = Fine (known.declared (known.value (typed.constant (basic (basics.Untyped kinds.Int)) (Integer (pos n)))))

abbrev pub iota_of : Option ℕ → List (List ℕ × Verdict known.Known)
iota_of None = []
iota_of (Some n) = (codes "iota", counted_known n) ∷ []

abbrev pub package_names : {A S : Type 0} → IndexMap (String A) (Option declared.Declared) S → List (List ℕ × Verdict known.Known)
package_names names = map (λ n. (n.0, known.named n.1)) (names_of names)

abbrev pub locals_of : Env (Option declared.Declared) → List (List ℕ × Verdict known.Known)
locals_of env = map (λ e. (e.0, known.named (option_map declared_of e.1))) (flat_map (λ block. block) (env.inner ∷ env.outer))

unfoldable pub names_in : {A S : Type 0} → Edition → List imports.Import → IndexMap (String A) (Option declared.Declared) S → Option ℕ → List (List ℕ × Verdict known.Known)
names_in edition imports names iota = map imported_view imports ++ (package_names names ++ (iota_of iota ++ known.universe edition))

abbrev pub local_names : Option (Env (Option declared.Declared)) → List (List ℕ × Verdict known.Known)
local_names None = []
local_names (Some env) = locals_of env

unfoldable pub scope_of : scopes.Scope → known.Scope
scope_of s = record { path = s.path.now; names = local_names (option_map (λ e. e.now) s.locals) ++ names_in s.edition s.imports.now s.declared.now s.iota }

-- each of some values
abbrev pub all_of : {X Y : Type 0} → (X → Y) → Vec X Global → List Y
all_of view xs = map view xs.items

-- the first of the faults, unless memory ran out
abbrev pub Fails : ExprError → List (Place × FaultKind) → Type 0
Fails errors.Memory faults = Unit {0}
Fails (errors.Faulty place kind) faults = (others : List (Place × FaultKind)) × (faults ≡ (place, kind) ∷ others)

-- where there is no fault, what is known, if it is: where something was passed over nothing is; else the first fault
abbrev pub Answers : {X Y : Type 0} → (X → Y) → Result (Option X) ExprError → List (Place × FaultKind) → Option Y → Type 0
Answers view (Ok x) faults known = (faults ≡ []) × (known ≡ option_map view x)
Answers view (Err e) faults known = Fails e faults

-- Ok with what is known of a node at a place, or its fault
abbrev pub AnswersAt : {X Y : Type 0} → (X → Y) → Result (Option X) ExprError → Place → Verdict Y → Type 0
AnswersAt view result p v = Answers view result (broken p v) (fine v)

-- the same of a node behind its parts, which have faults of their own
abbrev pub AnswersBehindParts : {X Y : Type 0} → (X → Y) → Result (Option X) ExprError → List (Place × FaultKind) → Place → Verdict Y → Type 0
AnswersBehindParts view result before p v = Answers view result (before ++ broken p v) (fine v)

-- what is known of a node by a rule, or the kind of its fault, unless memory ran out
abbrev pub Gives : {X Y : Type 0} → (X → Y) → Result X RuleError → Verdict Y → Type 0
Gives view (Ok x) v = v ≡ Fine (view x)
Gives view (Err rule_errors.Memory) v = Unit {0}
Gives view (Err (rule_errors.Broken kind)) v = v ≡ Breaks kind

-- the error of a node at a place
abbrev pub LocatedAt : Place → RuleError → ExprError → Type 0
LocatedAt place rule_errors.Memory e = e ≡ errors.Memory
LocatedAt place (rule_errors.Broken kind) e = e ≡ errors.Faulty place kind

-- the constant that a value is, or the value
abbrev pub IsTaken : typed.Expr → Result Const TypedExpr → Type 0
IsTaken e (Ok c) = e ≡ typed.constant (typed.expr_type e) c
IsTaken e (Err same) = (as_expr same ≡ e) × (constant_in e ≡ None)

-- what one of several rules gives, and the least fault of all with what they give, if there is none
abbrev pub given_values : {T : Type 0} → Result T RuleError → List T
given_values (Ok x) = x ∷ []
given_values (Err e) = []

abbrev pub given_fault : {T : Type 0} → Result T RuleError → Option FaultKind
given_fault (Err (rule_errors.Broken kind)) = Some kind
given_fault _ = None

-- what is gathered behind one more
abbrev pub Gathers : {T Y : Type 0} → (T → Y) → Gathered T → Gathered T → Verdict Y → Type 0
Gathers view old new v =
    (new.fault ≡ lesser_fault old.fault (least (wrong v))) × (map view new.values.items ≡ map view old.values.items ++ filter_map fine (v ∷ []))

abbrev pub IsFinished : {T : Type 0} → Option FaultKind → List T → Result (Vec T Global) RuleError → Type 0
IsFinished fault values (Ok v) = (fault ≡ None) × (v.items ≡ values)
IsFinished fault values (Err rule_errors.Memory) = Unit {0}
IsFinished fault values (Err (rule_errors.Broken kind)) = fault ≡ Some kind

-- what an operator does
abbrev pub does : Operation → typed.Expr → typed.Expr → Verdict typed.Expr
does (operations.Combines operator) = combined operator
does (operations.Shifts operator) = shift_verdict operator

-- an element of a literal, and the parts that elements are for
abbrev pub keyed_part : checked_elements.Element → Option (List ℕ) × typed.Expr
keyed_part e = (option_map (λ k. k.now) e.key, as_expr e.value)

abbrev pub fields_seen : NamedFields → List (Option (List ℕ) × (List ℕ × Type'))
fields_seen fs = map typed_field fs.fields.now

abbrev pub slots_of : Slots → ℕ → Option (List ℕ) → Option (ℕ × Type')
slots_of (slots.Elements t) = λ n key. Some (n, go_type t.now)
slots_of (slots.Fields fs) = field_slot (fields_seen fs)
slots_of (slots.Named fs) = keyed_slot (fields_seen fs)

-- what is due of a literal that leaves out its type
abbrev pub due_of : Due → rules.Due
due_of (dues.Taken t) = rules.taken (go_type t.now)
due_of (dues.Written o) = rules.written (option_map (λ t. go_type t.now) o)
due_of dues.Nothing = rules.nothing

-- the elements of a literal, and what a literal is by its type and them
abbrev pub elements_in : List ElementExpr → trees.Elements
elements_in es = trees.pack_elements (map element_tree es)

abbrev pub literal_verdict : known.Scope → Option Type' → trees.Elements → Verdict known.Known
literal_verdict s o es = valued (asked_both (literal_of s.path) o (elements s o 0 es))
