-- What readers and writers of a session tell.
use Rattle.std.specs.Prelude.{◌≡◌, ℕ, ◌&&◌, ◌==◌, nat_lt, List, [], ◌++◌, length, take, Option, None, Some, Result, Ok, Err, if◌then◌else◌}

-- the result of one read: bytes, or the end, or a failure
pub data ReadResult : Type 0 where
  Gave : List ℕ → ReadResult
  End : ReadResult
  Failed : ReadResult

-- a read of no bytes into a buffer that isn't empty is the end
abbrev pub read_result_of : {E : Type 0} → Result ℕ E → List ℕ → ReadResult
read_result_of read buffer = elim read [ Ok n ↦ if (n == 0) && nat_lt 0 (length buffer) then End else Gave (take n buffer) | Err e ↦ Failed ]

-- the bytes that a write took
abbrev pub taken_by : {E : Type 0} → Result ℕ E → List ℕ → List ℕ
taken_by written bytes = elim written [ Ok n ↦ take n bytes | Err e ↦ [] ]

-- how many failures a read counts
abbrev pub read_failures : {A E : Type 0} → Result A E → ℕ
read_failures read = elim read [ Ok n ↦ 0 | Err e ↦ 1 ]

-- how many failures a write of these bytes counts: taking none of some is one
abbrev pub write_failures : {E : Type 0} → Result ℕ E → List ℕ → ℕ
write_failures written bytes = elim written [ Ok n ↦ if (n == 0) && nat_lt 0 (length bytes) then 1 else 0 | Err e ↦ 1 ]

-- what is known grew by just these; where nothing is known, nothing is claimed
abbrev pub GrowsBy : {A : Type 0} → Option (List A) → Option (List A) → List A → Type 0
GrowsBy None new more = Unit {0}
GrowsBy (Some old) None more = ⊥
GrowsBy (Some old) (Some new) more = new ≡ old ++ more
