-- What reading a whole script tells.
use Rattle.std.specs.Prelude.{◌≡◌, ℕ, ◌<◌, List, [], ◌∷◌, ◌++◌, length, map, Option, Result, Ok, Err}
use Rattle.goset_cli.specs.Streams.{ReadResult, Gave, End, Failed, GrowsBy}
use Rattle.goset_cli.specs.declared.reading.ReadError.{ReadError}
use Rattle.goset_cli.specs.declared.reading.ReadError.TheVariants.{Memory, Read, TooLong}

-- the most bytes that a script may have
abbrev pub limit : ℕ
limit = 16777216

abbrev pub concatenated : List (List ℕ) → List ℕ
concatenated [] = []
concatenated (piece ∷ pieces) = piece ++ concatenated pieces

-- from old to new a reader gave these bytes, in some pieces, and then told the end
abbrev pub GaveAll : Option (List ReadResult) → Option (List ReadResult) → List ℕ → Type 0
GaveAll old new bytes = (pieces : List (List ℕ)) × GrowsBy old new (map Gave pieces ++ End ∷ []) × (concatenated pieces ≡ bytes)

-- what a reader told where its script wasn't read
abbrev pub NotRead : ReadError → Option (List ReadResult) → Option (List ReadResult) → Type 0
NotRead Memory old new = (pieces : List (List ℕ)) × GrowsBy old new (map Gave pieces)
NotRead Read old new = (pieces : List (List ℕ)) × GrowsBy old new (map Gave pieces ++ Failed ∷ [])
NotRead TooLong old new = (pieces : List (List ℕ)) × GrowsBy old new (map Gave pieces) × (limit < length (concatenated pieces))

-- how many failures that answer counts
abbrev pub failures_of : {A : Type 0} → Result A ReadError → ℕ
failures_of (Ok a) = 0
failures_of (Err Memory) = 0
failures_of (Err Read) = 1
failures_of (Err TooLong) = 0
