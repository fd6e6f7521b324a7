-- What a reader that remembers has told.
use Rattle.std.specs.Prelude.{ℕ, zero, suc, List, [], ◌∷◌, ◌++◌, map, Option, None, Some, Vec}
use Rattle.std.specs.Global.{Global}
use Rattle.goset_cli.specs.Streams.{ReadResult, Gave, End, Failed}

abbrev pub event : Option (Vec ℕ Global) → ReadResult
event None = End
event (Some bytes) = Gave bytes.items

abbrev pub failures : ℕ → List ReadResult
failures zero = []
failures (suc n) = failures n ++ Failed ∷ []

-- what it remembers, and then its failures
abbrev pub events : List (Option (Vec ℕ Global)) → ℕ → List ReadResult
events told failed = map event told ++ failures failed

-- the bytes that reads gave
abbrev pub bytes_read : List ReadResult → List ℕ
bytes_read [] = []
bytes_read (Gave bytes ∷ told) = bytes ++ bytes_read told
bytes_read (End ∷ told) = bytes_read told
bytes_read (Failed ∷ told) = bytes_read told

-- the end, or some bytes
abbrev pub read_event : Option (List ℕ) → ReadResult
read_event None = End
read_event (Some bytes) = Gave bytes

abbrev pub all_shown : List (Option (Vec ℕ Global)) → List ReadResult
all_shown = map event
