-- What is in scope in a function, and its forms one behind another.
use Rattle.std.specs.Prelude.{ℕ, Bool, if◌then◌else◌, bytes_eq, length, List, [], ◌∷◌, ◌++◌, map, Option, Some, None, option_map}
use Rattle.std.specs.List.{flat_map}
use Rattle.std.specs.Map.{lookup}
use Rattle.go_text.specs.declared.place.Place.{Place}
use Rattle.go_text.specs.declared.fault.FaultKind.{FaultKind}
use Rattle.go_types.specs.Types.{Type'}
use Rattle.go_ast.specs.Trees.{Name}
use Rattle.go_scope.specs.Scopes as scopes
use Rattle.go_scope.specs.Scopes.{is_blank}
use Rattle.go_typed.specs.Trees.{local}
use Rattle.go_expr.specs.Known.{Declared, value, Known, Verdict, named, Scope}
use Rattle.go_expr.specs.Rules.{fine}
use Rattle.go_expr.specs.Verdicts.{asked, both, broken}

-- https://go.dev/ref/spec#Declarations_and_scope
-- what the names in the blocks round a place declare, where that is known, and the types of the function's local variables so far, by their numbers
pub record StatementEnv : Type 0 where
  pub names : scopes.Env (Option Declared)
  pub types : List Type'

-- The path of the package, what names find outside of the function, by the value that iota has, and the types of the function's results, each where it is
-- known; the names of the constants that this block has so far; and whether a break, a continue and a fallthrough may stand here.
pub record Context : Type 0 where
  pub path : List ℕ
  pub outside : Option ℕ → List (List ℕ × Verdict Known)
  pub results : List (Option Type')
  pub constants : List (List ℕ)
  pub breaks : Bool
  pub continues : Bool
  pub falls : Bool

-- nothing is declared
abbrev pub nothing : StatementEnv
nothing = record { names = record { inner = []; outer = [] }; types = [] }

abbrev pub scope_in : Context → Option ℕ → StatementEnv → Scope
scope_in c iota env = record {
  path = c.path;
  names = map (λ n. (n.0, named n.1)) (flat_map (λ block. block) (env.names.inner ∷ env.names.outer)) ++ c.outside iota;
}

-- into a block, and out of it again: variables keep their numbers
abbrev pub enter_scope : StatementEnv → StatementEnv
enter_scope env = record { names = scopes.enter_block env.names; types = env.types }

abbrev pub leave : StatementEnv → StatementEnv
leave env = record { names = scopes.leave_block env.names; types = env.types }

-- what the innermost block has under a name
abbrev pub own : StatementEnv → Name → Option (Option Declared)
own env n = lookup (bytes_eq n.text) env.names.inner

-- the number of a variable there
abbrev pub variable_number : StatementEnv → Name → Option ℕ
variable_number env n = elim (own env n) [ Some (Some (value (local t number))) ↦ Some number | _ ↦ None ]

-- a name more
abbrev pub declare_name : List ℕ → Option Declared → StatementEnv → StatementEnv
declare_name x d env = record { names = scopes.declare env.names x d; types = env.types }

-- a variable more, which has the next number, where its type is known
abbrev pub declare_variable : List ℕ → Option Type' → StatementEnv → StatementEnv
declare_variable x None env = declare_name x None env
declare_variable x (Some t) env = record { names = scopes.declare env.names x (Some (value (local t (length env.types)))); types = env.types ++ t ∷ [] }

-- some names, each with what belongs to it, as far as that goes
abbrev pub paired_names : {A : Type 0} → List Name → List (Option A) → List (Name × Option A)
paired_names [] xs = []
paired_names (n ∷ ns) [] = (n, None) ∷ paired_names ns []
paired_names (n ∷ ns) (x ∷ xs) = (n, x) ∷ paired_names ns xs

-- variables for those of some names that the block hasn't; the blank name has none
abbrev pub declare_new : List (Name × Option Type') → StatementEnv → StatementEnv
declare_new [] env = env
declare_new ((n, t) ∷ ns) env =
    declare_new ns (if is_blank n.text then env else (if scopes.is_own env.names n.text then env else declare_variable n.text t env))

-- ---- forms one behind another

abbrev pub StatementFaults : Type 0
StatementFaults = List (Place × FaultKind)

-- the faults in a form, in their order; what is known of it, where nothing in it is faulty or passed over; and what is in scope behind it
pub record Checked (A : Type 0) : Type 0 where
  pub faults : StatementFaults
  pub known : Option A
  pub after : StatementEnv

-- a form that declares nothing
abbrev pub still : {A : Type 0} → StatementFaults → Option A → StatementEnv → Checked A
still faults known env = record { faults = faults; known = known; after = env }

abbrev pub pure_checked : {A : Type 0} → A → StatementEnv → Checked A
pure_checked x env = still [] (Some x) env

-- one form, and another behind it
abbrev pub follow : {A B : Type 0} → (StatementEnv → Checked A) → (StatementEnv → Checked B) → StatementEnv → Checked (A × B)
follow first second env = record {
  faults = (first env).faults ++ (second (first env).after).faults;
  known = both (first env).known (second (first env).after).known;
  after = (second (first env).after).after;
}

-- what is known of a form, seen as something else
abbrev pub map_checked : {A B : Type 0} → (A → B) → (StatementEnv → Checked A) → StatementEnv → Checked B
map_checked f form env = record { faults = (form env).faults; known = option_map f (form env).known; after = (form env).after }

abbrev pub single : {A : Type 0} → (StatementEnv → Checked A) → StatementEnv → Checked (List A)
single form = map_checked (λ x. x ∷ []) form

abbrev pub concat_checked : {A : Type 0} → (StatementEnv → Checked (List A)) → (StatementEnv → Checked (List A)) → StatementEnv → Checked (List A)
concat_checked first second = map_checked (λ k. k.0 ++ k.1) (follow first second)

-- a node at a place behind its parts: its rule is asked where all of them are known
abbrev pub node : {A B : Type 0} → Place → (A → Verdict B) → (StatementEnv → Checked A) → StatementEnv → Checked B
node p rule parts env = record {
  faults = (parts env).faults ++ broken p (asked rule (parts env).known);
  known = fine (asked rule (parts env).known);
  after = (parts env).after;
}

-- a block round a form
abbrev pub in_new_block : {A : Type 0} → (StatementEnv → Checked A) → StatementEnv → Checked A
in_new_block form env = record { faults = (form (enter_scope env)).faults; known = (form (enter_scope env)).known; after = leave (form (enter_scope env)).after }

-- a form that declares something
abbrev pub declaring : {A : Type 0} → (StatementEnv → StatementEnv) → (StatementEnv → Checked A) → StatementEnv → Checked A
declaring change form env = record { faults = (form env).faults; known = (form env).known; after = change env }

-- a form that may be known or not; where it is hidden, it isn't known even whether it is
abbrev pub perhaps : {A : Type 0} → Bool → (StatementEnv → Checked A) → StatementEnv → Checked (Option A)
perhaps hidden form env = record { faults = (form env).faults; known = if hidden then None else Some (form env).known; after = (form env).after }
