-- What is printed for a command that is refused.
use Rattle.std.specs.Prelude.{ℕ, Bool, cond, List, [], ◌∷◌, ◌++◌, Option, None, Some, codes}
use Rattle.ws_command.specs.declared.refusal.Refusal.{Refusal}
use Rattle.ws_command.specs.declared.refusal.Refusal.TheVariants.{BadCommand, Unknown, Exists, BadPath, NoFile, CounterFull, BadText, NoPackage, NotBuilt}

abbrev pub refused : Refusal → List ℕ
refused BadCommand = codes "refused 1 command" ++ 10 ∷ []
refused Unknown = codes "refused 2 replica" ++ 10 ∷ []
refused Exists = codes "refused 3 exists" ++ 10 ∷ []
refused BadPath = codes "refused 4 path" ++ 10 ∷ []
refused NoFile = codes "refused 5 nofile" ++ 10 ∷ []
refused CounterFull = codes "refused 6 counter" ++ 10 ∷ []
refused BadText = codes "refused 7 text" ++ 10 ∷ []
refused NoPackage = codes "refused 8 nopackage" ++ 10 ∷ []
refused NotBuilt = codes "refused 9 notbuilt" ++ 10 ∷ []

-- of reasons in the order of their numbers, each with whether it holds, the first that does
abbrev pub first_of : List (Bool × Refusal) → Option Refusal
first_of [] = None
first_of (r ∷ rest) = cond r.0 (Some r.1) (first_of rest)
