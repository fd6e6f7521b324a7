-- What is known of a function's signature, where it has no fault and its names are told.
use Rattle.std.proofs.Common.{◌≡◌, ℕ, true, false, not, ◌&&◌, ◌||◌, List, [], ◌∷◌, ◌++◌, Option, Some, None, map, codes, append_assoc, append-nil, refl, sym, ap, ◌∙◌, subst, inl, inr}
use Rattle.std.specs.Prelude.{bytes_eq, is_some, option_map, if◌then◌else◌}
use Rattle.std.specs.List.{flat_map, list_any}
use Rattle.std.specs.Map.{lookup}
use Rattle.std.proofs.lemmas.Bool.{cases_Bool}
use Rattle.std.proofs.lemmas.List.{map-append}
use Rattle.std.proofs.lemmas.Slice.Eq.{bytes_eq-Decides}
use Rattle.go_text.specs.declared.place.Place.{Place}
use Rattle.go_text.specs.declared.fault.FaultKind.{FaultKind}
use Rattle.go_text.specs.declared.fault.FaultKind.TheVariants.{Redeclared}
use Rattle.go_ast.specs.Trees.{Name, TypeExpr, Block, block, Parameter, FunctionDecl}
use Rattle.go_types.specs.Types.{Type'}
use Rattle.go_typed.specs.Trees.{Symbol}
use Rattle.go_scope.specs.Names.{in_type}
use Rattle.go_scope.specs.Scopes.{is_blank}
use Rattle.go_expr.specs.Known.{Declared, function, declared, Fine, Breaks, Scope}
use Rattle.go_expr.specs.Rules.{fine, are_distinct}
use Rattle.go_expr.specs.Verdicts.{asked_both, type_verdict, type_faults}
use Rattle.go_stmt.specs.Scopes.{StatementEnv, Context, nothing, scope_in, own, declare_variable}
use Rattle.go_stmt.specs.Statements.{names_faults, block_context, list_at}
use Rattle.go_stmt.specs.Functions.{declare_parameters, type_in_signature, parameter_at, parameters_at, result_types, results_at, body_at, function_at}
use Rattle.go_objects.specs.Objects.{function'}
use Rattle.go_objects.specs.Table.{own_names, parameter_names, types_known, parameters_known, function_verdict, declared_in}
use Rattle.go_package.specs.Faults.{Facts, context_at}
use Rattle.go_package_laws.specs.Finds.{IsKnown}
use Rattle.go_package_laws.proofs.Completeness.Faultless.{Tells, first, second, two_none, mapped, joined_known, type_known}
use Rattle.go_package_laws.proofs.Completeness.Follows.{IsFunction, scope_of, Follows}

-- ---- names that are new, each behind those before it

abbrev Fresh : List (List ℕ) → List (List ℕ) → Type 0
Fresh before [] = Unit {0}
Fresh before (x ∷ xs) = (list_any (bytes_eq x) before ≡ false) × Fresh (before ++ x ∷ []) xs

none_both : (x : List ℕ) (xs ys : List (List ℕ)) → list_any (bytes_eq x) xs ≡ false → list_any (bytes_eq x) ys ≡ false → list_any (bytes_eq x) (xs ++ ys) ≡ false
none_both x [] ys h k = k
none_both x (y ∷ xs) ys h k = elim (cases_Bool (bytes_eq x y)) [
  | inl is ↦ absurd (let no : true ≡ false = rw is at h in cc (no))
  | inr not_so ↦ rw not_so (none_both x xs ys (rw not_so at h) k)
]

any_front : (x : List ℕ) (xs ys : List (List ℕ)) → list_any (bytes_eq x) xs ≡ true → list_any (bytes_eq x) (xs ++ ys) ≡ true
any_front x [] ys h = absurd cc
any_front x (y ∷ xs) ys h = elim (cases_Bool (bytes_eq x y)) [
  | inl is ↦ rw is refl
  | inr not_so ↦ rw not_so (any_front x xs ys (rw not_so at h))
]

any_last : (x : List ℕ) (xs : List (List ℕ)) → list_any (bytes_eq x) (xs ++ x ∷ []) ≡ true
any_last x [] = (let itself = (bytes_eq-Decides x x).1 refl in rw itself refl)
any_last x (y ∷ xs) = elim (cases_Bool (bytes_eq x y)) [ inl is ↦ rw is refl | inr not_so ↦ rw not_so (any_last x xs) ]

-- a name before them is none of them
apart : (before xs : List (List ℕ)) (x : List ℕ) → list_any (bytes_eq x) before ≡ true → Fresh before xs → list_any (bytes_eq x) xs ≡ false
apart before [] x there h = refl
apart before (y ∷ ys) x there h = elim (cases_Bool (bytes_eq x y)) [
  | inl is ↦ absurd (
      let same : x ≡ y = (bytes_eq-Decides x y).0 is in
      let no : true ≡ false = sym there ∙ ap (λ (z : List ℕ). list_any (bytes_eq z) before) same ∙ h.0 in
      cc (no))
  | inr not_so ↦ rw not_so (apart (before ++ y ∷ []) ys x (any_front x before (y ∷ []) there) h.1)
]

all_differ : (before xs : List (List ℕ)) → Fresh before xs → are_distinct xs ≡ true
all_differ before [] h = refl
all_differ before (x ∷ xs) h = (let new = apart (before ++ x ∷ []) xs x (any_last x before) h.1 in rw new (all_differ (before ++ x ∷ []) xs h.1))

fresh_both : (before xs ys : List (List ℕ)) → Fresh before xs → Fresh (before ++ xs) ys → Fresh before (xs ++ ys)
fresh_both before [] ys h k = subst (λ (l : List (List ℕ)). Fresh l ys) (append-nil before) k
fresh_both before (x ∷ xs) ys h k = (h.0, fresh_both (before ++ x ∷ []) xs ys h.1 (subst (λ (l : List (List ℕ)). Fresh l ys) (sym (append_assoc before (x ∷ []) xs)) k))

-- ---- names of parameters

abbrev held : StatementEnv → List (List ℕ)
held env = map (λ n. n.0) env.names.inner

not_held : (x : List ℕ) (block : List (List ℕ × Option Declared)) → is_some (lookup (bytes_eq x) block) ≡ false → list_any (bytes_eq x) (map (λ n. n.0) block) ≡ false
not_held x [] h = refl
not_held x (n ∷ ns) h = elim (cases_Bool (bytes_eq x n.0)) [
  | inl is ↦ absurd (let no : true ≡ false = rw is at h in cc (no))
  | inr not_so ↦ rw not_so (not_held x ns (rw not_so at h))
]

not_own : (x : List ℕ) (ns : List Name) → list_any (λ (m : Name). bytes_eq x m.text) ns ≡ false → list_any (bytes_eq x) (own_names ns) ≡ false
not_own x [] h = refl
not_own x (n ∷ ns) h = elim (cases_Bool (bytes_eq x n.text)) [
  | inl is ↦ absurd (let no : true ≡ false = rw is at h in cc (no))
  | inr not_so ↦ elim (cases_Bool (bytes_eq n.text (codes "_"))) [
    | inl blank ↦ rw blank (not_own x ns (rw not_so at h))
    | inr named ↦ rw (named, not_so) (not_own x ns (rw not_so at h))
  ]
]

own_more : (ns ms : List Name) → own_names (ns ++ ms) ≡ own_names ns ++ own_names ms
own_more [] ms = refl
own_more (n ∷ ns) ms = elim (cases_Bool (bytes_eq n.text (codes "_"))) [
  | inl blank ↦ rw blank (own_more ns ms)
  | inr named ↦ rw named (ap (λ l. n.text ∷ l) (own_more ns ms))
]

blank_more : (ns : List Name) (n : Name) → bytes_eq n.text (codes "_") ≡ true → own_names (ns ++ n ∷ []) ≡ own_names ns
blank_more ns n blank = own_more ns (n ∷ []) ∙ (let r : own_names (n ∷ []) ≡ [] = rw blank refl in ap (λ l. own_names ns ++ l) r) ∙ append-nil (own_names ns)

named_more : (ns : List Name) (n : Name) → bytes_eq n.text (codes "_") ≡ false → own_names (ns ++ n ∷ []) ≡ own_names ns ++ n.text ∷ []
named_more ns n named = own_more ns (n ∷ []) ∙ (let r : own_names (n ∷ []) ≡ n.text ∷ [] = rw named refl in ap (λ l. own_names ns ++ l) r)

abbrev named_already : StatementEnv → List Name → Name → List (Place × FaultKind)
named_already env before n = if is_some (own env n) || not (is_blank n.text) && list_any (λ (m : Name). bytes_eq n.text m.text) before then (n.place, Redeclared) ∷ [] else []

new_here : (env : StatementEnv) (before : List Name) (n : Name) → bytes_eq n.text (codes "_") ≡ false → named_already env before n ≡ [] → list_any (bytes_eq n.text) (held env ++ own_names before) ≡ false
new_here env before n named none = elim (cases_Bool (is_some (own env n))) [
  | inl is ↦ absurd (let r : named_already env before n ≡ (n.place, Redeclared) ∷ [] = rw is refl in cc)
  | inr not_so ↦ elim (cases_Bool (list_any (λ (m : Name). bytes_eq n.text m.text) before)) [
    | inl is ↦ absurd (let r : named_already env before n ≡ (n.place, Redeclared) ∷ [] = rw (not_so, named, is) refl in cc)
    | inr new ↦ none_both n.text (held env) (own_names before) (not_held n.text env.names.inner not_so) (not_own n.text before new)
  ]
]

names_fresh : (env : StatementEnv) (before ns : List Name) → names_faults env before ns ≡ [] → Fresh (held env ++ own_names before) (own_names ns)
names_fresh env before [] none = tt
names_fresh env before (n ∷ ns) none =
    let parts = two_none (named_already env before n) (names_faults env (before ++ n ∷ []) ns) none in
    let rest = names_fresh env (before ++ n ∷ []) ns parts.1 in
    elim (cases_Bool (bytes_eq n.text (codes "_"))) [
      | inl blank ↦ rw blank (subst (λ (l : List (List ℕ)). Fresh (held env ++ l) (own_names ns)) (blank_more before n blank) rest)
      | inr named ↦ (
          let here = new_here env before n named parts.0 in
          let longer : held env ++ own_names (before ++ n ∷ []) ≡ (held env ++ own_names before) ++ n.text ∷ [] =
          ap (λ l. held env ++ l) (named_more before n named) ∙ sym (append_assoc (held env) (own_names before) (n.text ∷ [])) in
          rw named (here, subst (λ (l : List (List ℕ)). Fresh l (own_names ns)) longer rest))
    ]

one_held : (x : List ℕ) (t : Option Type') (env : StatementEnv) → held (declare_variable x t env) ≡ (if bytes_eq x (codes "_") then held env else held env ++ x ∷ [])
one_held x None env = elim (cases_Bool (bytes_eq x (codes "_"))) [ inl is ↦ rw is refl | inr not_so ↦ rw not_so (map-append (λ n. n.0) env.names.inner ((x, None) ∷ [])) ]
one_held x (Some t) env = elim (cases_Bool (bytes_eq x (codes "_"))) [ inl is ↦ rw is refl | inr not_so ↦ rw not_so (map-append (λ n. n.0) env.names.inner _) ]

all_held : (ns : List Name) (t : Option Type') (env : StatementEnv) → held (declare_parameters ns t env) ≡ held env ++ own_names ns
all_held [] t env = sym (append-nil (held env))
all_held (n ∷ ns) t env =
    all_held ns t (declare_variable n.text t env) ∙ ap (λ l. l ++ own_names ns) (one_held n.text t env)
    ∙ elim (cases_Bool (bytes_eq n.text (codes "_"))) [
      | inl is ↦ rw is refl
      | inr not_so ↦ rw not_so (append_assoc (held env) (n.text ∷ []) (own_names ns))
    ]

-- ---- signatures

abbrev outer : Context → Scope
outer c = scope_in c None nothing

parameters_fresh : (c : Context) (ps : List Parameter) (env : StatementEnv) → (parameters_at c ps env).faults ≡ [] → Fresh (held env) (parameter_names ps)
parameters_fresh c [] env none = tt
parameters_fresh c (p ∷ ps) env none =
    let after = (parameter_at c p env).after in
    let parts = two_none (parameter_at c p env).faults (parameters_at c ps after).faults none in
    let own = two_none (names_faults env [] p.names) (type_faults (outer c) p.type) parts.0 in
    let here = subst (λ (l : List (List ℕ)). Fresh l (own_names p.names)) (append-nil (held env)) (names_fresh env [] p.names own.0) in
    fresh_both (held env) (own_names p.names) (parameter_names ps) here
    (subst (λ (l : List (List ℕ)). Fresh l (parameter_names ps)) (all_held p.names (type_in_signature c p.type env).known env) (parameters_fresh c ps after parts.1))

parameters_typed : (c : Context) (ps : List Parameter) (env : StatementEnv) → Tells (outer c) (flat_map (λ (p : Parameter). in_type p.type) ps) → (parameters_at c ps env).faults ≡ [] → IsKnown (parameters_known (outer c) ps)
parameters_typed c [] env tells none = ([], refl)
parameters_typed c (p ∷ ps) env tells none =
    let s = outer c in
    let rest = flat_map (λ (p : Parameter). in_type p.type) ps in
    let after = (parameter_at c p env).after in
    let parts = two_none (parameter_at c p env).faults (parameters_at c ps after).faults none in
    let own = two_none (names_faults env [] p.names) (type_faults s p.type) parts.0 in
    let of = type_known s p.type (first s (in_type p.type) rest tells) own.1 in
    joined_known (option_map (λ t. map (λ n. t) p.names) (fine (type_verdict s p.type))) (parameters_known s ps) (mapped (λ t. map (λ n. t) p.names) (fine (type_verdict s p.type)) of)
    (parameters_typed c ps after (second s (in_type p.type) rest tells) parts.1)

results_typed : (s : Scope) (ts : List TypeExpr) → Tells s (flat_map in_type ts) → flat_map (type_faults s) ts ≡ [] → IsKnown (types_known s ts)
results_typed s [] tells none = ([], refl)
results_typed s (t ∷ ts) tells none =
    let ns = two_none (type_faults s t) (flat_map (type_faults s) ts) none in
    let of = type_known s t (first s (in_type t) (flat_map in_type ts) tells) ns.0 in
    joined_known (option_map (λ t. t ∷ []) (fine (type_verdict s t))) (types_known s ts) (mapped (λ t. t ∷ []) (fine (type_verdict s t)) of)
    (results_typed s ts (second s (in_type t) (flat_map in_type ts) tells) ns.1)

results_fine : (c : Context) (rs : List TypeExpr) (b : Block) (env : StatementEnv) → (body_at c rs b env).faults ≡ [] → flat_map (type_faults (outer c)) rs ≡ []
results_fine c rs (block p ss q) env none =
    let list = list_at (record (block_context c) { results = result_types c rs }) ss env in
    (two_none (results_at c rs env).faults list.faults none).0

signature_known : (s : Scope) (x : Symbol) (ps : List Parameter) (ts : List TypeExpr) → are_distinct (parameter_names ps) ≡ true → IsKnown (parameters_known s ps) → IsKnown (types_known s ts)
    → IsFunction (declared_in (fine (function_verdict s x ps ts)))
signature_known s x ps ts apart us rs = (
  x,
  us.0,
  rs.0,
  ap (λ b. declared_in (fine (if b then asked_both (λ ts rs. Fine (declared (function x ts rs))) (parameters_known s ps) (types_known s ts) else Breaks Redeclared))) apart
      ∙ ap (λ (o : Option (List Type')). declared_in (fine (asked_both (λ ts rs. Fine (declared (function x ts rs))) o (types_known s ts)))) us.1
      ∙ ap (λ (o : Option (List Type')). declared_in (fine (asked_both (λ ts rs. Fine (declared (function x ts rs))) (Some us.0) o))) rs.1,
)

pub function_follows : (t : Facts) (file : ℕ) (f : FunctionDecl) → (function_at (context_at t file) f).faults ≡ [] → Follows t (record { file = file; begins = f.name.place; name = f.name; form = function' f.parameters f.results })
unfolding function_at
function_follows t file f none tells own =
    let c = context_at t file in
    let s = scope_of t file None in
    let p = parameters_at c f.parameters nothing in
    let front = two_none (p.faults ++ (body_at c f.results f.body p.after).faults) _ none in
    let parts = two_none p.faults (body_at c f.results f.body p.after).faults front.0 in
    let in_parameters = flat_map (λ (p : Parameter). in_type p.type) f.parameters in
    let in_results = flat_map in_type f.results in
    signature_known s (record { path = t.package.path; name = f.name.text }) f.parameters f.results
    (all_differ [] (parameter_names f.parameters) (parameters_fresh c f.parameters nothing parts.0))
    (parameters_typed c f.parameters nothing (first s in_parameters in_results (tells None)) parts.0)
    (results_typed s f.results (second s in_parameters in_results (tells None)) (results_fine c f.results f.body p.after parts.1))
