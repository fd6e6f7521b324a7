-- Words of what holds of all caches and results.
use Rattle.std.specs.Prelude.{◌⊎◌, ℕ, List}
use Rattle.std.specs.FinMap.{FinMap}
use Rattle.go_ast.specs.Parse.{Parsed}
use Rattle.go_package.specs.Claims.{SomeOne}
use Rattle.go_package.specs.Imports.{Importable}
use Rattle.ws_action.specs.Actions.{Action}
use Rattle.ws_action.specs.Clash.{AllSized, Includes, NoClash, hashed_actions}
use Rattle.ws_cache.specs.Compiles.{AreFaulty, AreGood}
use Rattle.ws_cache.specs.Held.{CacheStandsFor, id_cmp}

-- this holds where these texts do not clash, and what is hashed of the actions is among them
abbrev pub WithoutClash : List (List ℕ) → List Action → Type 0 → Type 0
WithoutClash texts E Holds = NoClash texts → Includes texts (hashed_actions E) → AllSized E → Holds

-- this holds of each cache that stands for the actions
abbrev pub InEachCache : List Action → (FinMap id_cmp Action → Type 0) → Type 0
InEachCache E Holds = (m : FinMap id_cmp Action) → CacheStandsFor m E → Holds m

-- the files have a fault, or are a package
abbrev pub AreGoodOrFaulty : List ℕ → List Parsed → List Importable → Type 0
AreGoodOrFaulty path files imports = SomeOne (AreFaulty path files imports) ⊎ SomeOne (AreGood path files imports)
