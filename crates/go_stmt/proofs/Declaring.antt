-- Names and variables more.
use Rattle.std.proofs.Common.{◌≡◌, ℕ, suc, true, false, Option, Some, None, Result, Ok, Err, List, [], ◌∷◌, ◌++◌, map, length, is_some, codes, inl, inr, refl, sym, ap, ◌∙◌}
use Rattle.std.specs.Prelude.{OnOk}
use Rattle.std.specs.Option.{option_map}
use Rattle.std.specs.Map.{lookup}
use Rattle.std.specs.Str.{bytes_eq}
use Rattle.std.proofs.lemmas.Bool.{cases_Bool}
use Rattle.std.proofs.lemmas.List.{map-append}
use Rattle.go_ast.specs.Trees.{Name}
use Rattle.go_scope.specs.Scopes as scopes
use Rattle.go_types.specs.Types.{Type'}
use Rattle.go_types.specs.Views.{go_type}
use Rattle.go_types.specs.declared.types.GoType.{GoType}
use Rattle.go_typed.specs.Trees.{local}
use Rattle.go_expr.specs.declared.known.Declared.{Declared}
use Rattle.go_expr.specs.declared.known.Declared.TheVariants.{Local}
use Rattle.go_expr.specs.Known as known
use Rattle.go_expr.specs.Views.{declared_of}
use Rattle.go_scope.specs.Scopes.{is_blank}
use Rattle.go_stmt.specs.Scopes.{StatementEnv, declare_new, declare_variable}
use Rattle.go_stmt.specs.Views.{shown_block}
use Rattle.go_stmt.proofs.Lookups.{own_shown, shown_more}

abbrev pub shown_names : scopes.Env (Option Declared) → scopes.Env (Option known.Declared)
shown_names names = record { inner = shown_block names.inner; outer = map shown_block names.outer }

abbrev pub shown : scopes.Env (Option Declared) → List GoType → StatementEnv
shown names types = record { names = shown_names names; types = map go_type types }

pub mapped_ok : {X E : Type 0} {P Q : Type 0} (r : Result X E) → (P → Q) → OnOk r P → OnOk r Q
mapped_ok (Ok x) f h = f h
mapped_ok (Err e) f h = tt

some_mapped : {A B : Type 0} (f : A → B) (o : Option A) → is_some (option_map f o) ≡ is_some o
some_mapped f None = refl
some_mapped f (Some x) = refl

own_same : (names : scopes.Env (Option Declared)) (x : List ℕ) → scopes.is_own (shown_names names) x ≡ scopes.is_own names x
own_same names x = ap is_some (own_shown x names.inner) ∙ some_mapped (option_map declared_of) (lookup (bytes_eq x) names.inner)

declared_shown : (names : scopes.Env (Option Declared)) (x : List ℕ) (d : Option Declared) →
    shown_names (scopes.declare names x d) ≡ scopes.declare (shown_names names) x (option_map declared_of d)
declared_shown names x d = elim (cases_Bool (bytes_eq x (codes "_"))) [
  | inl blank ↦ rw blank refl
  | inr other ↦ rw other (ap (λ l. record { inner = l; outer = map shown_block names.outer }) (shown_more names.inner x d))
]

pub kept_own : (names : scopes.Env (Option Declared)) (types : List GoType) (n : Name) (t : Option Type') → is_blank n.text ≡ false → scopes.is_own names n.text ≡ true →
    shown names types ≡ declare_new ((n, t) ∷ []) (shown names types)
kept_own names types n t other own = rw (other, own_same names n.text ∙ own) refl

length_types : (types : List GoType) → length (map go_type types) ≡ length types
length_types [] = refl
length_types (t ∷ ts) = ap suc (length_types ts)

pub new_unknown : (names new : scopes.Env (Option Declared)) (types : List GoType) (x : List ℕ) → new ≡ scopes.declare names x None → shown new types ≡ declare_variable x None (shown names types)
new_unknown names new types x is = ap (λ e. record { names = e; types = map go_type types }) (ap shown_names is ∙ declared_shown names x None)

pub new_variable : (names new : scopes.Env (Option Declared)) (types : List GoType) (x : List ℕ) (of copy : GoType) → go_type copy ≡ go_type of →
    new ≡ scopes.declare names x (Some (Local copy (length types))) → shown new (types ++ of ∷ []) ≡ declare_variable x (Some (go_type of)) (shown names types)
new_variable names new types x of copy same is =
    let before = scopes.declare (shown_names names) x in
    ap (λ e. record { names = e; types = map go_type (types ++ of ∷ []) })
    (ap shown_names is ∙ declared_shown names x (Some (Local copy (length types)))
    ∙ ap (λ t. before (Some (known.value (local t (length types))))) same
    ∙ ap (λ k. before (Some (known.value (local (go_type of) k)))) (sym (length_types types)))
    ∙ ap (λ l. record { names = before (Some (known.value (local (go_type of) (length (map go_type types))))); types = l }) (map-append go_type types (of ∷ []))

pub new_one : (names : scopes.Env (Option Declared)) (types : List GoType) (n : Name) (t : Option Type') → is_blank n.text ≡ false → scopes.is_own names n.text ≡ false →
    declare_variable n.text t (shown names types) ≡ declare_new ((n, t) ∷ []) (shown names types)
new_one names types n t other own = rw (other, own_same names n.text ∙ own) refl
