-- Forms of statements, one behind another: one without fault is known, and leaves an environment all names of which are known.
use Rattle.std.proofs.Common.{◌≡◌, ℕ, Bool, true, false, Option, Some, None, List, [], ◌∷◌, ◌++◌, map, length, codes, refl, sym, subst, inl, inr}
use Rattle.std.specs.Prelude.{bytes_eq, is_some, option_map, if◌then◌else◌}
use Rattle.std.specs.List.{flat_map}
use Rattle.std.specs.Map.{lookup}
use Rattle.std.proofs.lemmas.Bool.{cases_Bool}
use Rattle.go_text.specs.declared.place.Place.{Place}
use Rattle.go_ast.specs.Trees.{Name}
use Rattle.go_scope.specs.Scopes as scopes
use Rattle.go_scope.specs.Scopes.{is_blank}
use Rattle.go_types.specs.Types.{Type'}
use Rattle.go_typed.specs.Trees.{local}
use Rattle.go_expr.specs.Known.{Declared, value, Known, Verdict, named, look_up_known}
use Rattle.go_expr.specs.Rules.{fine}
use Rattle.go_expr.specs.Verdicts.{asked, both, broken}
use Rattle.go_stmt.specs.Scopes.{StatementEnv, Context, scope_in, enter_scope, leave, declare_name, declare_variable, declare_new, Checked, pure_checked, follow, map_checked, single, concat_checked, node, in_new_block}
use Rattle.go_package_laws.specs.Finds.{IsKnown, IsDetermined}
use Rattle.go_package_laws.proofs.Completeness.Rules.{IsAsked}
use Rattle.go_package_laws.proofs.Completeness.Faultless.{known, two_none}

-- ---- environments

abbrev Names : Type 0
Names = List (List ℕ × Option Declared)

-- something is known of each name
abbrev pub AllTold : Names → Type 0
AllTold [] = Unit {0}
AllTold ((x, None) ∷ ns) = ⊥
AllTold ((x, Some d) ∷ ns) = AllTold ns

abbrev pub Blocks : List Names → Type 0
Blocks [] = Unit {0}
Blocks (b ∷ bs) = AllTold b × Blocks bs

abbrev pub Whole : StatementEnv → Type 0
Whole env = AllTold env.names.inner × Blocks env.names.outer

more : (ns ms : Names) → AllTold ns → AllTold ms → AllTold (ns ++ ms)
more [] ms h k = k
more ((x, None) ∷ ns) ms h k = absurd h
more ((x, Some d) ∷ ns) ms h k = more ns ms h k

flat : (bs : List Names) → Blocks bs → AllTold (flat_map (λ b. b) bs)
flat [] h = tt
flat (b ∷ bs) h = more b (flat_map (λ b. b) bs) h.0 (flat bs h.1)

found : (ns : Names) (rest : List (List ℕ × Verdict Known)) (x : List ℕ) → AllTold ns → IsDetermined (look_up_known x rest) → IsDetermined (look_up_known x (map (λ n. (n.0, named n.1)) ns ++ rest))
found [] rest x h k = k
found ((y, None) ∷ ns) rest x h k = absurd h
found ((y, Some d) ∷ ns) rest x h k = elim (cases_Bool (bytes_eq x y)) [ inl is ↦ rw is tt | inr not_so ↦ rw not_so (found ns rest x h k) ]

-- names outside are told, and what the function gives is known
abbrev pub Outside : Context → Type 0
Outside c = (iota : Option ℕ) (x : List ℕ) → IsDetermined (look_up_known x (c.outside iota))

pub all_told : (c : Context) (iota : Option ℕ) (env : StatementEnv) → Outside c → Whole env → (x : List ℕ) → IsDetermined (look_up_known x (scope_in c iota env).names)
all_told c iota env out whole x =
    found (flat_map (λ b. b) (env.names.inner ∷ env.names.outer)) (c.outside iota) x (flat (env.names.inner ∷ env.names.outer) whole) (out iota x)

pub declared_whole : (x : List ℕ) (d : Declared) (env : StatementEnv) → Whole env → Whole (declare_name x (Some d) env)
declared_whole x d env h = elim (cases_Bool (bytes_eq x (codes "_"))) [
  | inl is ↦ rw is h
  | inr not_so ↦ rw not_so (more env.names.inner ((x, Some d) ∷ []) h.0 tt, h.1)
]

pub variable_whole : (x : List ℕ) (t : Type') (env : StatementEnv) → Whole env → Whole (declare_variable x (Some t) env)
variable_whole x t env h = declared_whole x (value (local t (length env.types))) env h

abbrev pub AllTyped : {A : Type 0} → List (Name × Option A) → Type 0
AllTyped [] = Unit {0}
AllTyped ((n, None) ∷ ns) = ⊥
AllTyped ((n, Some t) ∷ ns) = AllTyped ns

next_whole : (n : Name) (t : Type') (env : StatementEnv) → Whole env → Whole (declare_new ((n, Some t) ∷ []) env)
next_whole n t env h = elim (cases_Bool (is_blank n.text)) [
  | inl is ↦ rw is h
  | inr sure ↦ elim (cases_Bool (scopes.is_own env.names n.text)) [ inl is ↦ rw (sure, is) h | inr not_so ↦ rw (sure, not_so) (more env.names.inner ((n.text, Some (value (local t (length env.types)))) ∷ []) h.0 tt, h.1) ]
]

pub new_whole : (ns : List (Name × Option Type')) (env : StatementEnv) → AllTyped ns → Whole env → Whole (declare_new ns env)
new_whole [] env typed h = h
new_whole ((n, None) ∷ ns) env typed h = absurd typed
new_whole ((n, Some t) ∷ ns) env typed h = new_whole ns (declare_new ((n, Some t) ∷ []) env) typed (next_whole n t env h)

-- each has a type, or stands for a name that the block has
abbrev pub AllDue : StatementEnv → List (Name × Option Type') → Type 0
AllDue env [] = Unit {0}
AllDue env ((n, None) ∷ ns) = (scopes.is_own env.names n.text ≡ true) × AllDue env ns
AllDue env ((n, Some t) ∷ ns) = AllDue env ns

found_more : (x : List ℕ) (ns ms : Names) → is_some (lookup (bytes_eq x) ns) ≡ true → is_some (lookup (bytes_eq x) (ns ++ ms)) ≡ true
found_more x [] ms h = absurd cc
found_more x ((y, d) ∷ ns) ms h = elim (cases_Bool (bytes_eq x y)) [ inl is ↦ rw is refl | inr not_so ↦ rw not_so (found_more x ns ms (rw not_so at h)) ]

own_more : (x : List ℕ) (n : Name) (t : Type') (env : StatementEnv) → scopes.is_own env.names x ≡ true → scopes.is_own (declare_new ((n, Some t) ∷ []) env).names x ≡ true
own_more x n t env h = elim (cases_Bool (is_blank n.text)) [
  | inl is ↦ rw is h
  | inr sure ↦ elim (cases_Bool (scopes.is_own env.names n.text)) [
    | inl is ↦ rw (sure, is) h
    | inr not_so ↦ rw (sure, not_so) (found_more x env.names.inner ((n.text, Some (value (local t (length env.types)))) ∷ []) h)
  ]
]

pub due_more : (ns : List (Name × Option Type')) (n : Name) (t : Type') (env : StatementEnv) → AllDue env ns → AllDue (declare_new ((n, Some t) ∷ []) env) ns
due_more [] n t env h = tt
due_more ((m, None) ∷ ns) n t env h = (own_more m.text n t env h.0, due_more ns n t env h.1)
due_more ((m, Some u) ∷ ns) n t env h = due_more ns n t env h

pub old_stays : (n : Name) (o : Option Type') (ns : List (Name × Option Type')) (env : StatementEnv) → scopes.is_own env.names n.text ≡ true → declare_new ((n, o) ∷ ns) env ≡ declare_new ns env
old_stays n o ns env own = elim (cases_Bool (is_blank n.text)) [ inl is ↦ rw is refl | inr not_so ↦ rw (not_so, own) refl ]

pub due_whole : (ns : List (Name × Option Type')) (env : StatementEnv) → AllDue env ns → Whole env → Whole (declare_new ns env)
due_whole [] env due h = h
due_whole ((n, None) ∷ ns) env due h = subst Whole (sym (old_stays n None ns env due.0)) (due_whole ns env due.1 h)
due_whole ((n, Some t) ∷ ns) env due h = due_whole ns (declare_new ((n, Some t) ∷ []) env) (due_more ns n t env due) (next_whole n t env h)

left_whole : (env : StatementEnv) → Whole env → Whole (leave env)
left_whole env h = elim env.names.outer as (λ o. env.names.outer ≡ o → Blocks o → Whole (leave env)) [
  | [] ↦ λ at k. rw (at, Whole) (h.0, tt)
  | b ∷ bs ↦ λ at k. rw (at, Whole) k
] refl h.1

-- ---- forms

abbrev pub KnownAs : {A : Type 0} → (A → Type 0) → Option A → Type 0
KnownAs {A} P o = (x : A) × (o ≡ Some x) × P x

abbrev pub Any : {A : Type 0} → A → Type 0
Any x = Unit {0}

abbrev pub Holds : {A : Type 0} → (A → Type 0) → Checked A → Type 0
Holds P r = KnownAs P r.known × Whole r.after

abbrev pub Sure : {A : Type 0} → (A → Type 0) → (StatementEnv → Checked A) → Type 0
Sure P form = (env : StatementEnv) → Whole env → (form env).faults ≡ [] → Holds P (form env)

pub any : {A : Type 0} (o : Option A) → IsKnown o → KnownAs (λ (x : A). Unit {0}) o
any o k = (k.0, k.1, tt)

pub sure_given : {A : Type 0} (x : A) → Sure Any (pure_checked x)
sure_given x env whole none = ((x, refl, tt), whole)

pair : {A B : Type 0} (P : A → Type 0) (Q : B → Type 0) (a : Option A) (b : Option B) → KnownAs P a → KnownAs Q b → KnownAs (λ (k : A × B). P k.0 × Q k.1) (both a b)
pair P Q a b h k = rw (h.1, k.1) ((h.0, k.0), refl, (h.2, k.2))

pub sure_follow : {A B : Type 0} (P : A → Type 0) (Q : B → Type 0) (f : StatementEnv → Checked A) (g : StatementEnv → Checked B) → Sure P f → Sure Q g → Sure (λ (k : A × B). P k.0 × Q k.1) (follow f g)
sure_follow P Q f g h k env whole none =
    let ns = two_none (f env).faults (g (f env).after).faults none in
    let one = h env whole ns.0 in
    let two = k (f env).after one.1 ns.1 in
    (pair P Q (f env).known (g (f env).after).known one.0 two.0, two.1)

as_seen : {A B : Type 0} (P : A → Type 0) (Q : B → Type 0) (f : A → B) (o : Option A) → ((x : A) → P x → Q (f x)) → KnownAs P o → KnownAs Q (option_map f o)
as_seen P Q f o each k = rw (k.1) (f k.0, refl, each k.0 k.2)

pub sure_seen : {A B : Type 0} (P : A → Type 0) (Q : B → Type 0) (f : A → B) (form : StatementEnv → Checked A) → ((x : A) → P x → Q (f x)) → Sure P form → Sure Q (map_checked f form)
sure_seen P Q f form each h env whole none = (let one = h env whole none in (as_seen P Q f (form env).known each one.0, one.1))

pub sure_single : {A : Type 0} (P : A → Type 0) (form : StatementEnv → Checked A) → Sure P form → Sure Any (single form)
sure_single P form h = sure_seen P Any (λ x. x ∷ []) form (λ x p. tt) h

pub sure_appended : {A : Type 0} (f g : StatementEnv → Checked (List A)) → Sure Any f → Sure Any g → Sure Any (concat_checked f g)
sure_appended {A} f g h k = sure_seen (λ (k : List A × List A). Any k.0 × Any k.1) Any (λ k. k.0 ++ k.1) (follow f g) (λ x p. tt) (sure_follow Any Any f g h k)

ruled : {A B : Type 0} (P : A → Type 0) (rule : A → Verdict B) (o : Option A) → KnownAs P o → ((x : A) → P x → IsAsked (rule x)) → IsAsked (asked rule o)
ruled P rule o k each = rw (k.1) (each k.0 k.2)

pub sure_node : {A B : Type 0} (P : A → Type 0) (p : Place) (rule : A → Verdict B) (parts : StatementEnv → Checked A) → ((x : A) → P x → IsAsked (rule x)) → Sure P parts → Sure Any (node p rule parts)
sure_node P p rule parts each h env whole none =
    let ns = two_none (parts env).faults (broken p (asked rule (parts env).known)) none in
    let one = h env whole ns.0 in
    let v = asked rule (parts env).known in
    (any (fine v) (known p v (ruled P rule (parts env).known one.0 each) ns.1), one.1)

pub sure_inside : {A : Type 0} (P : A → Type 0) (form : StatementEnv → Checked A) → Sure P form → Sure P (in_new_block form)
sure_inside P form h env whole none = (let one = h (enter_scope env) (tt, whole) none in (one.0, left_whole (form (enter_scope env)).after one.1))

pub both_sure : {A B : Type 0} (f : StatementEnv → Checked A) (g : StatementEnv → Checked B) → Sure Any f → Sure Any g → Sure Any (follow f g)
both_sure f g h k env whole none = (let both = sure_follow Any Any f g h k env whole none in (any (follow f g env).known ((both.0).0, (both.0).1), both.1))

pub sure_if : {A : Type 0} (b : Bool) (f g : StatementEnv → Checked A) → Sure Any f → Sure Any g → Sure Any (λ env. if b then f env else g env)
sure_if true f g h k = h
sure_if false f g h k = k
