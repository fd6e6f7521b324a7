-- Names of blocks, as they are seen.
use Rattle.std.proofs.Common.{◌≡◌, ℕ, true, false, Option, Some, None, List, [], ◌∷◌, ◌++◌, map, is_some, refl, sym, ap, ◌∙◌, inl, inr}
use Rattle.std.specs.Option.{option_map}
use Rattle.std.specs.List.{flat_map}
use Rattle.std.specs.Map.{lookup}
use Rattle.std.specs.Str.{bytes_eq}
use Rattle.std.proofs.lemmas.Bool.{cases_Bool}
use Rattle.std.proofs.lemmas.List.{map-append}
use Rattle.go_scope.specs.Scopes.{BlockNames, Env, look_up}
use Rattle.go_expr.specs.declared.known.Declared.{Declared}
use Rattle.go_expr.specs.Known as known
use Rattle.go_expr.specs.Known.{Known, Verdict, named}
use Rattle.go_expr.specs.Views.{declared_of, locals_of}
use Rattle.go_stmt.specs.Views.{shown_block}

abbrev shown : List ℕ × Option Declared → List ℕ × Verdict Known
shown e = (e.0, named (option_map declared_of e.1))

abbrev shown_known : List ℕ × Option known.Declared → List ℕ × Verdict Known
shown_known n = (n.0, named n.1)

abbrev flat : {T : Type 0} → List (BlockNames T) → BlockNames T
flat blocks = flat_map (λ block. block) blocks

block_shown : (b : BlockNames (Option Declared)) → map shown b ≡ map shown_known (shown_block b)
block_shown [] = refl
block_shown (e ∷ es) = ap (λ l. shown e ∷ l) (block_shown es)

blocks_shown : (bs : List (BlockNames (Option Declared))) → map shown (flat bs) ≡ map shown_known (flat (map shown_block bs))
blocks_shown [] = refl
blocks_shown (b ∷ bs) =
    map-append shown b (flat bs)
    ∙ ap (λ l. l ++ map shown (flat bs)) (block_shown b)
    ∙ ap (λ l. map shown_known (shown_block b) ++ l) (blocks_shown bs)
    ∙ sym (map-append shown_known (shown_block b) (flat (map shown_block bs)))

pub locals_shown : (env : Env (Option Declared)) → locals_of env ≡ map shown_known (flat (shown_block env.inner ∷ map shown_block env.outer))
locals_shown env = blocks_shown (env.inner ∷ env.outer)

-- ---- the names of the innermost block

pub own_shown : (x : List ℕ) (b : BlockNames (Option Declared)) → lookup (bytes_eq x) (shown_block b) ≡ option_map (option_map declared_of) (lookup (bytes_eq x) b)
own_shown x [] = refl
own_shown x (e ∷ es) = elim (cases_Bool (bytes_eq x e.0)) [ inl t ↦ rw t refl | inr f ↦ rw f (own_shown x es) ]

found_append : {T : Type 0} (x : List ℕ) (a b : BlockNames T) → is_some (lookup (bytes_eq x) a) ≡ true → lookup (bytes_eq x) (a ++ b) ≡ lookup (bytes_eq x) a
found_append x [] b h = cc
found_append x (e ∷ es) b h = elim (cases_Bool (bytes_eq x e.0)) [
  | inl t ↦ rw t refl
  | inr f ↦ (let rest : is_some (lookup (bytes_eq x) es) ≡ true = rw f at h in rw f (found_append x es b rest))
]

-- a name of the innermost block hides those of the others
pub own_found : (env : Env (Option Declared)) (x : List ℕ) (o : Option (Option Declared)) → is_some (lookup (bytes_eq x) env.inner) ≡ true → o ≡ look_up env x →
    option_map (option_map declared_of) o ≡ lookup (bytes_eq x) (shown_block env.inner)
own_found env x o own is = ap (option_map (option_map declared_of)) (is ∙ found_append x env.inner (flat env.outer) own) ∙ sym (own_shown x env.inner)

none_of : {A : Type 0} (o : Option A) → is_some o ≡ false → o ≡ None
none_of None h = refl
none_of (Some x) h = cc

pub own_missing : (env : Env (Option Declared)) (x : List ℕ) → is_some (lookup (bytes_eq x) env.inner) ≡ false → None ≡ lookup (bytes_eq x) (shown_block env.inner)
own_missing env x not_own = sym (own_shown x env.inner ∙ ap (option_map (option_map declared_of)) (none_of (lookup (bytes_eq x) env.inner) not_own))

-- a name more
pub shown_more : (b : BlockNames (Option Declared)) (x : List ℕ) (d : Option Declared) → shown_block (b ++ (x, d) ∷ []) ≡ shown_block b ++ (x, option_map declared_of d) ∷ []
shown_more b x d = map-append (λ (n : List ℕ × Option Declared). (n.0, option_map declared_of n.1)) b ((x, d) ∷ [])
