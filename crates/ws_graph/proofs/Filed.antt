-- The directories of files are those that have files.
use Rattle.std.proofs.Common.{◌≡◌, ◌⊎◌, ℕ, Bool, true, false, cond, List, [], ◌∷◌, ◌++◌, map, refl, sym, ap, ◌∙◌, subst, inl, inr}
use Rattle.std.specs.List.{filter, flat_map}
use Rattle.std.proofs.lemmas.Slice.Eq.{bytes_eq-Decides}
use Rattle.ws_path.specs.Paths.{directory, file_name}
use Rattle.ws_register.specs.Sources.{is_in, by_file_name}
use Rattle.ws_reach.proofs.Closure.{IsOneOf}
use Rattle.ws_graph.specs.Packages.{is_built, package_files}
use Rattle.ws_graph.specs.BuildPlan.{Sources, HasNoFiles}

abbrev Pair : Type 0
Pair = List ℕ × List ℕ

-- the directory of a path, if the file there belongs to a package
abbrev pub built_directory : List ℕ → List (List ℕ)
built_directory path = cond (is_built (file_name path)) (directory path ∷ []) []

-- the directories of some sources, one for each file that belongs to a package
abbrev pub built_directories : Sources → List (List ℕ)
built_directories sources = flat_map (λ (source : Pair). built_directory source.0) sources

-- the files with one more source
pub files_step : (q : List ℕ) (s : Pair) (ss : Sources) (b c : Bool) → is_in q s.0 ≡ b → is_built (file_name s.0) ≡ c → package_files q (s ∷ ss) ≡ cond b (cond c (by_file_name s ∷ package_files q ss) (package_files q ss)) (package_files q ss)
files_step q s ss true c e f =
    ap (λ t. filter (λ (file : Pair). is_built file.0) (map by_file_name (cond t (s ∷ filter (λ (source : Pair). is_in q source.0) ss) (filter (λ (source : Pair). is_in q source.0) ss)))) e
    ∙ ap (λ t. cond t (by_file_name s ∷ package_files q ss) (package_files q ss)) f
files_step q s ss false c e f =
    ap (λ t. filter (λ (file : Pair). is_built file.0) (map by_file_name (cond t (s ∷ filter (λ (source : Pair). is_in q source.0) ss) (filter (λ (source : Pair). is_in q source.0) ss)))) e

directories_step : (q : List ℕ) (s : Pair) (ss : Sources) (c : Bool) → is_built (file_name s.0) ≡ c → IsOneOf q (cond c (directory s.0 ∷ []) [] ++ built_directories ss) → IsOneOf q (built_directories (s ∷ ss))
directories_step q s ss c f h = subst (λ t. IsOneOf q (cond t (directory s.0 ∷ []) [] ++ built_directories ss)) (sym f) h

directories_back : (q : List ℕ) (s : Pair) (ss : Sources) (c : Bool) → is_built (file_name s.0) ≡ c → IsOneOf q (built_directories (s ∷ ss)) → IsOneOf q (cond c (directory s.0 ∷ []) [] ++ built_directories ss)
directories_back q s ss c f h = subst (λ t. IsOneOf q (cond t (directory s.0 ∷ []) [] ++ built_directories ss)) f h

to_here : (q : List ℕ) (s : Pair) (ss : Sources) (b c : Bool) → is_in q s.0 ≡ b → is_built (file_name s.0) ≡ c → (package_files q (s ∷ ss) ≡ [] → ⊥) → ((package_files q ss ≡ [] → ⊥) → IsOneOf q (built_directories ss)) → IsOneOf q (built_directories (s ∷ ss))
to_here q s ss true true e f n more = directories_step q s ss true f (inl (sym ((bytes_eq-Decides (directory s.0) q).0 e)))
to_here q s ss true false e f n more = directories_step q s ss false f (more (λ z. n (files_step q s ss true false e f ∙ z)))
to_here q s ss false true e f n more = directories_step q s ss true f (inr (more (λ z. n (files_step q s ss false true e f ∙ z))))
to_here q s ss false false e f n more = directories_step q s ss false f (more (λ z. n (files_step q s ss false false e f ∙ z)))

pub to_directory : (q : List ℕ) (ss : Sources) → (package_files q ss ≡ [] → ⊥) → IsOneOf q (built_directories ss)
to_directory q [] n = absurd (n refl)
to_directory q (s ∷ ss) n = to_here q s ss (is_in q s.0) (is_built (file_name s.0)) refl refl n (to_directory q ss)

from_here : (q : List ℕ) (s : Pair) (ss : Sources) (b c : Bool) → is_in q s.0 ≡ b → is_built (file_name s.0) ≡ c → IsOneOf q (built_directories (s ∷ ss)) → package_files q (s ∷ ss) ≡ [] → (IsOneOf q (built_directories ss) → package_files q ss ≡ [] → ⊥) → ⊥
from_here q s ss true true e f one none more = let z : by_file_name s ∷ package_files q ss ≡ [] = sym (files_step q s ss true true e f) ∙ none in cc (z)
from_here q s ss true false e f one none more = more (directories_back q s ss false f one) (sym (files_step q s ss true false e f) ∙ none)
from_here q s ss false true e f one none more = elim (directories_back q s ss true f one) [
  | inl same ↦ (let t : is_in q s.0 ≡ true = (bytes_eq-Decides (directory s.0) q).1 (sym same) in let z : true ≡ false = sym t ∙ e in cc (z))
  | inr one ↦ more one (sym (files_step q s ss false true e f) ∙ none)
]
from_here q s ss false false e f one none more = more (directories_back q s ss false f one) (sym (files_step q s ss false false e f) ∙ none)

pub from_directory : (q : List ℕ) (ss : Sources) → IsOneOf q (built_directories ss) → package_files q ss ≡ [] → ⊥
from_directory q [] one none = absurd one
from_directory q (s ∷ ss) one none = from_here q s ss (is_in q s.0) (is_built (file_name s.0)) refl refl one none (from_directory q ss)

-- a source of another directory
pub files_beside : (q : List ℕ) (s : Pair) (ss : Sources) → is_in q s.0 ≡ false → package_files q (s ∷ ss) ≡ package_files q ss
files_beside q s ss e = files_step q s ss false (is_built (file_name s.0)) e refl

-- whether a directory has files
pub has_files : (sources : Sources) (path : List ℕ) → (HasNoFiles sources path) ⊎ (HasNoFiles sources path → ⊥)
has_files sources path = by_files (package_files path sources) refl
  where
    by_files : (files : List Pair) → package_files path sources ≡ files → (HasNoFiles sources path) ⊎ (HasNoFiles sources path → ⊥)
    by_files [] e = inl e
    by_files (f ∷ fs) e = inr (λ none. (let z : f ∷ fs ≡ [] = sym e ∙ none in cc (z)))
