-- What names stand for.
use Rattle.std.specs.Prelude.{ℕ, Bool, List, [], ◌∷◌, ◌++◌, Option, codes, is_some, if◌then◌else◌}
use Rattle.std.specs.List.{flat_map}
use Rattle.std.specs.Map.{lookup}
use Rattle.std.specs.Str.{bytes_eq}

-- the names of a block, with what they stand for, in order of declaration
abbrev pub BlockNames : Type 0 → Type 0
BlockNames T = List (List ℕ × T)

-- the innermost block, and those round it from the inside out
pub record Env (T : Type 0) : Type 0 where
  pub inner : BlockNames T
  pub outer : List (BlockNames T)

-- https://go.dev/ref/spec#Declarations_and_scope
-- what a name stands for: a block hides the names of those round it
abbrev pub look_up : {T : Type 0} → Env T → List ℕ → Option T
look_up env x = lookup (bytes_eq x) (flat_map (λ block. block) (env.inner ∷ env.outer))

-- the innermost block has the name
abbrev pub is_own : {T : Type 0} → Env T → List ℕ → Bool
is_own env x = is_some (lookup (bytes_eq x) env.inner)

abbrev pub is_blank : List ℕ → Bool
is_blank x = bytes_eq x (codes "_")

-- a name more in the innermost block; the blank one declares nothing
abbrev pub declare : {T : Type 0} → Env T → List ℕ → T → Env T
declare env x t = if is_blank x then env else record { inner = env.inner ++ (x, t) ∷ []; outer = env.outer }

-- into a block, and out of it again
abbrev pub enter_block : {T : Type 0} → Env T → Env T
enter_block env = record { inner = []; outer = env.inner ∷ env.outer }

abbrev pub leave_block : {T : Type 0} → Env T → Env T
leave_block env = elim env.outer [ [] ↦ env | block ∷ blocks ↦ record { inner = block; outer = blocks } ]
