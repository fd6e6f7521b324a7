-- The type that a variable takes of its value.
use Rattle.std.proofs.Common.{◌≡◌, List, [], ◌∷◌, Option, Some, None, map, refl, sym, ap, ◌∙◌, inl, inr}
use Rattle.std.specs.Prelude.{not, option_and_then}
use Rattle.std.proofs.lemmas.Bool.{cases_Bool}
use Rattle.go_ast.specs.Trees.{Name}
use Rattle.go_types.specs.Types.{Type'}
use Rattle.go_types.specs.Relations.{assignable}
use Rattle.go_typed.specs.Trees.{Expr, expr_type}
use Rattle.go_expr.specs.Known.{Fine}
use Rattle.go_expr.specs.Rules.{fine, lies_in, default_type, defaulted, settled_type}
use Rattle.go_stmt.specs.Scopes.{StatementEnv, paired_names, declare_new}
use Rattle.go_stmt.specs.Rules.{AssignedValues, separate, together, no_values}
use Rattle.go_stmt.specs.Statements.{alone_types}
use Rattle.go_package_laws.proofs.Completeness.Forms.{AllDue, due_more, old_stays}
use Rattle.go_package_laws.proofs.Completeness.Counts.{Fit}
use Rattle.go_package_laws.proofs.Values.{own_types}

pub settled_is : (e : Expr) (u : Type') → settled_type e ≡ Some u → u ≡ default_type (expr_type e)
settled_is e u h = elim (cases_Bool (lies_in (default_type (expr_type e)) e)) [
  | inl is ↦ (let r : Some (default_type (expr_type e)) ≡ Some u = rw is at h in cc)
  | inr not_so ↦ absurd (let no : None ≡ Some u = rw not_so at h in cc (no))
]

pub settled_of : (e t : Expr) → defaulted e ≡ Fine t → settled_type e ≡ Some (default_type (expr_type e))
settled_of e t h = elim (cases_Bool (lies_in (default_type (expr_type e)) e)) [
  | inl is ↦ rw is refl
  | inr not_so ↦ absurd (
      let r : fine (defaulted e) ≡ None = elim (cases_Bool (not (assignable (expr_type e) (default_type (expr_type e))))) [
        | inl unfit ↦ rw unfit refl
        | inr fit ↦ rw (fit, not_so) refl
      ] in
      let no : None ≡ Some t = sym r ∙ ap fine h in
      cc (no))
]

pub settled_parts : (o : Option Expr) (u : Type') → option_and_then settled_type o ≡ Some u → (e : Expr) × (o ≡ Some e) × (u ≡ default_type (expr_type e))
settled_parts None u h = absurd cc
settled_parts (Some e) u h = (e, refl, settled_is e u h)

-- ---- types of several

-- each is unknown, or its own
abbrev pub Settle : List (Option Type') → List Type' → Type 0
Settle [] [] = Unit {0}
Settle [] (v ∷ vs) = ⊥
Settle (o ∷ os) [] = ⊥
Settle (None ∷ os) (v ∷ vs) = Settle os vs
Settle (Some t ∷ os) (v ∷ vs) = (t ≡ v) × Settle os vs

one_settles : (o : Option Type') (v : Type') (os : List (Option Type')) (vs : List Type') → ((u : Type') → o ≡ Some u → u ≡ v) → Settle os vs → Settle (o ∷ os) (v ∷ vs)
one_settles None v os vs h rest = rest
one_settles (Some t) v os vs h rest = (h t refl, rest)

each_settles : (es : List Expr) → Settle (map settled_type es) (map (λ e. default_type (expr_type e)) es)
each_settles [] = tt
each_settles (e ∷ es) = one_settles (settled_type e) (default_type (expr_type e)) (map settled_type es) (map (λ e. default_type (expr_type e)) es) (settled_is e) (each_settles es)

all_settle : (ts : List Type') → Settle (map Some ts) ts
all_settle [] = tt
all_settle (t ∷ ts) = (refl, all_settle ts)

pub alone_settle : (v : AssignedValues) → Settle (alone_types (Some v)) (own_types v)
alone_settle (separate es) = each_settles es
alone_settle (together ts f es) = all_settle ts
alone_settle no_values = tt

-- where each is new, each is its own
pub all_own : (ns : List Name) (os : List (Option Type')) (vs : List Type') → Fit (map (λ n. None) ns) os → Settle os vs → os ≡ map Some vs
all_own [] [] [] h k = refl
all_own [] [] (v ∷ vs) h k = absurd k
all_own [] (o ∷ os) vs h k = absurd h
all_own (n ∷ ns) [] vs h k = absurd h
all_own (n ∷ ns) (None ∷ os) vs h k = absurd (let no = h.0 in cc (no.1))
all_own (n ∷ ns) (Some t ∷ os) [] h k = absurd k
all_own (n ∷ ns) (Some t ∷ os) (v ∷ vs) h k = ap (λ u. Some u ∷ os) k.0 ∙ ap (λ l. Some v ∷ l) (all_own ns os vs h.1 k.1)

-- names that the block has take no type
pub settled_new : (ns : List Name) (os : List (Option Type')) (vs : List Type') (env : StatementEnv) → AllDue env (paired_names ns os) → Settle os vs → declare_new (paired_names ns os) env ≡ declare_new (paired_names ns (map Some vs)) env
settled_new [] os vs env h k = refl
settled_new (n ∷ ns) [] [] env h k = refl
settled_new (n ∷ ns) [] (v ∷ vs) env h k = absurd k
settled_new (n ∷ ns) (None ∷ os) [] env h k = absurd k
settled_new (n ∷ ns) (Some t ∷ os) [] env h k = absurd k
settled_new (n ∷ ns) (None ∷ os) (v ∷ vs) env h k = old_stays n None (paired_names ns os) env h.0 ∙ settled_new ns os vs env h.1 k ∙ sym (old_stays n (Some v) (paired_names ns (map Some vs)) env h.0)
settled_new (n ∷ ns) (Some t ∷ os) (v ∷ vs) env h k =
    settled_new ns os vs (declare_new ((n, Some t) ∷ []) env) (due_more (paired_names ns os) n t env h) k.1
    ∙ ap (λ u. declare_new ((n, Some u) ∷ paired_names ns (map Some vs)) env) k.0
