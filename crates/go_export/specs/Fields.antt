-- Numbers and bytes in texts that are hashed: each tells where it ends.
use Rattle.std.specs.Prelude.{ℕ, List, ◌++◌, length}
use Rattle.std.specs.Int.{to_be_bytes, w64}

-- n in 8 bytes, the most significant first
abbrev pub be : ℕ → List ℕ
be n = to_be_bytes w64 n

-- some bytes behind their number
abbrev pub field : List ℕ → List ℕ
field x = be (length x) ++ x
