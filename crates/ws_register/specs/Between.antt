-- Parts of the entries, by two ends.
use Rattle.std.specs.Prelude.{ℕ, Bool, true, false, not, ◌&&◌, List, String, string_bytes}
use Rattle.std.specs.Ordering.{is_lt, is_le}
use Rattle.std.specs.declared.ops.Bound.{Bound}
use Rattle.std.specs.declared.ops.Bound.TheVariants.{Included, Excluded, Unbounded}
use Rattle.ws_version.specs.Writes.{path_cmp}

abbrev pub is_from : {Y : Type 0} → Bound (String Y) → List ℕ → Bool
is_from (Included a) path = is_le (path_cmp (string_bytes a) path)
is_from (Excluded a) path = is_lt (path_cmp (string_bytes a) path)
is_from Unbounded path = true

abbrev pub is_past : {Y : Type 0} → Bound (String Y) → List ℕ → Bool
is_past (Included b) path = is_lt (path_cmp (string_bytes b) path)
is_past (Excluded b) path = is_le (path_cmp (string_bytes b) path)
is_past Unbounded path = false

-- whether a path lies between two ends
abbrev pub is_between : {Y : Type 0} → Bound (String Y) → Bound (String Y) → List ℕ → Bool
is_between start end path = is_from start path && not (is_past end path)
