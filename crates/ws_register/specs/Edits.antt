-- What a replica holds, its greatest counter, and what edits and removals refuse and write.
use Rattle.std.specs.Prelude.{◌≡◌, ◌≤◌, ℕ, ◌+◌, Bool, true, cond, not, ◌&&◌, eqb, List, [], ◌∷◌, ◌⊎◌, Option, Some, None, is_none}
use Rattle.std.specs.Str.{bytes_eq}
use Rattle.std.specs.FinMap.{FinMap, get, entries}
use Rattle.ws_path.specs.Paths.{is_path, file_name}
use Rattle.ws_map.specs.Greater.{joined_option}
use Rattle.ws_version.specs.Writes.{Held, Write, path_cmp, greater_held}
pub use Rattle.ws_register.specs.Tops.{top}
use Rattle.ws_register.specs.declared.EditError.{EditError}
use Rattle.ws_register.specs.declared.EditError.TheVariants.{BadPath, NoFile, CounterFull, Memory}

-- what is held at each path
abbrev pub Contents : Type 0
Contents = FinMap path_cmp Held

-- the greatest of the writes to a path, if there is one
abbrev pub greatest_at : List ℕ → List Write → Option Held
greatest_at path [] = None
greatest_at path (w ∷ ws) = cond (bytes_eq w.0 path) (joined_option greater_held (Some w.1) (greatest_at path ws)) (greatest_at path ws)

-- on any path, and 0 where nothing is held
abbrev pub greatest_counter : Contents → ℕ
greatest_counter m = top (entries m)

-- no held counter is above n, and n is held on some path, or 0
pub record IsGreatestCounter (m : Contents) (n : ℕ) : Type 0 where
  pub bound : (q : List ℕ) (h : Held) → get m q ≡ Some h → h.counter ≤ n
  pub attained : (n ≡ 0) ⊎ ((q : List ℕ) × (h : Held) × (get m q ≡ Some h) × (h.counter ≡ n))

-- the path is one, and the source is named as the file there
abbrev pub is_fitting : List ℕ → List ℕ → Bool
is_fitting path name = is_path path && bytes_eq name (file_name path)

-- Of an edit where that counter is the greatest: the least that holds.
abbrev pub edit_refusal : ℕ → List ℕ → List ℕ → Option EditError
edit_refusal greatest path name = cond (not (is_fitting path name)) (Some BadPath) (cond (eqb greatest 18446744073709551615) (Some CounterFull) None)

-- nothing is held there, or a removal
abbrev pub is_missing : Option Held → Bool
is_missing None = true
is_missing (Some held) = is_none held.text

-- Of a removal where that counter is the greatest and this is held at the path: the least that holds.
abbrev pub removal_refusal : ℕ → List ℕ → Option Held → Option EditError
removal_refusal greatest path held = cond (not (is_path path)) (Some BadPath) (cond (is_missing held) (Some NoFile) (cond (eqb greatest 18446744073709551615) (Some CounterFull) None))

-- memory may be wanted in the place of any other answer
abbrev pub IsRefusal : EditError → Option EditError → Type 0
IsRefusal Memory refusal = Unit {0}
IsRefusal error refusal = refusal ≡ Some error

-- what an edit writes where that counter is the greatest, by the replica with that number
abbrev pub edited : ℕ → ℕ → List ℕ → Held
edited greatest number text = record { counter = greatest + 1; number = number; text = Some text }

-- what a removal writes where that counter is the greatest, by the replica with that number
abbrev pub removed : ℕ → ℕ → Held
removed greatest number = record { counter = greatest + 1; number = number; text = None }
