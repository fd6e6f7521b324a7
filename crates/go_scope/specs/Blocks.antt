-- The names of a block as its table has them.
use Rattle.std.specs.Prelude.{ℕ, List, String, string_bytes}
use Rattle.std.specs.Global.{Global}

-- an entry by the bytes of its name
abbrev pub named_entry : {T : Type 0} → String Global × T → List ℕ × T
named_entry entry = (string_bytes entry.0, entry.1)
