-- The sources among writes, and the files of one package.
use Rattle.std.specs.Prelude.{◌≡◌, ℕ, Bool, true, cond, List, map, Option, Some, None}
use Rattle.std.specs.List.{Contains, filter, filter_map}
use Rattle.std.specs.Option.{option_map}
use Rattle.std.specs.Str.{bytes_eq}
use Rattle.std.specs.FinMap.{entries, get}
use Rattle.go_text.specs.Named.{Source}
use Rattle.ws_map.specs.Kept.{StandsFor}
use Rattle.ws_path.specs.Paths.{directory, file_name, is_path}
use Rattle.ws_version.specs.Writes.{Write, Held, IsText, IsOfFile, held_cmp}
use Rattle.ws_register.specs.Edits.{Contents, IsGreatestCounter}
pub use Rattle.ws_register.specs.Edits.{top}

-- path and text, unless it is a removal
abbrev pub source_in : Write → Option (List ℕ × List ℕ)
source_in w = option_map (λ text. (w.0, text)) w.1.text

-- those that aren't removals, path and text
abbrev pub texts_of : List Write → List (List ℕ × List ℕ)
texts_of ws = filter_map source_in ws

-- what a replica that took the set of writes shows: the greatest write of each path, in the order of paths
abbrev pub AreGreatestWrites : List Write → List Write → Type 0
AreGreatestWrites W shown = (m : Contents) × StandsFor held_cmp m W × (shown ≡ entries m)

-- the sources of a set of writes: the texts among the greatest write of each path, in the order of paths
abbrev pub IsSources : List Write → List (List ℕ × List ℕ) → Type 0
IsSources W S = (m : Contents) × StandsFor held_cmp m W × (S ≡ texts_of (entries m))

-- whether a path lies in the directory
abbrev pub is_in : List ℕ → List ℕ → Bool
is_in dir path = bytes_eq (directory path) dir

-- with its file name in the place of its path
abbrev pub by_file_name : List ℕ × List ℕ → List ℕ × List ℕ
by_file_name source = (file_name source.0, source.1)

-- the files of a directory, name and text, in the order of the sources
abbrev pub files_in : List ℕ → List (List ℕ × List ℕ) → List (List ℕ × List ℕ)
files_in dir sources = map by_file_name (filter (λ source. is_in dir source.0) sources)

-- the name and the text of a source
abbrev pub pair_of : Source → List ℕ × List ℕ
pair_of source = (source.name, source.text)

-- the file that one write is in a directory, if it is one
abbrev pub file_in : List ℕ → Write → Option (List ℕ × List ℕ)
file_in dir w = cond (is_in dir w.0) (option_map by_file_name (source_in w)) None

-- a source text, of bytes, at the path of a file
pub record IsFileSource (source : List ℕ × List ℕ) : Type 0 where
  pub path : is_path source.0 ≡ true
  pub text : IsText source.1

-- the sources of a set of writes are such
abbrev pub HasFiles : List Write → Type 0
HasFiles W = (S : List (List ℕ × List ℕ)) → IsSources W S → (source : List ℕ × List ℕ) → Contains S source → IsFileSource source

-- what is held at each path is of a file
abbrev pub HoldsFiles : Contents → Type 0
HoldsFiles m = (path : List ℕ) (held : Held) → get m path ≡ Some held → IsOfFile (path, held)

-- what registers keep of their contents
pub record RegistersInvariant (m : Contents) (greatest : ℕ) : Type 0 where
  pub counter : IsGreatestCounter m greatest
  pub files : HoldsFiles m
