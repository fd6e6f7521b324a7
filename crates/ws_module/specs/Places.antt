-- Where the files that words name stand in a workspace.
use Rattle.std.specs.Prelude.{◌≡◌, ℕ, Option, MatchOption, Bool, true, false, not, ◌&&◌, ◌||◌, ◌==◌, eqb, nat_eq, if◌then◌else◌, List, [], ◌∷◌, ◌++◌, drop, length, codes}
use Rattle.std.specs.Borrow.{Bor}
use Rattle.std.specs.List.{ends_with, list_all, starts_with}
use Rattle.std.specs.List.Sorted.{IsPermutation, IsSorted}
use Rattle.std.specs.Ordering.{nat_cmp}
use Rattle.std.specs.Cmp.Lexicographic.{slice_cmp}
use Rattle.std.specs.Str.{bytes_eq}
use Rattle.ws_path.specs.Paths.{directory, file_name, is_path}

-- the directory of files that all lie in one folder
abbrev pub lone_directory : List ℕ
lone_directory = codes "main"

-- `./` before a folder says nothing
abbrev pub without_here : List ℕ → List ℕ
without_here folder = if starts_with nat_eq folder (codes "./") then drop 2 folder else folder

-- the directory of a folder as words name it; main where that is the folder in which the program runs
abbrev pub folder_directory : List ℕ → List ℕ
folder_directory folder = if (length (without_here folder) == 0) || bytes_eq (without_here folder) (codes ".") then lone_directory else without_here folder

abbrev pub is_in_folder : List ℕ → List ℕ → Bool
is_in_folder folder file = bytes_eq (directory file) folder

-- all files are of the first one's folder
abbrev pub are_alone : List (List ℕ) → Bool
are_alone [] = true
are_alone (first ∷ files) = list_all (is_in_folder (directory first)) files

-- the directory of a file among others
abbrev pub directory_in : Bool → List ℕ → List ℕ
directory_in is_alone file = if is_alone then lone_directory else folder_directory (directory file)

-- the same files, in byte order
abbrev pub AreSorted : List (Bor (List ℕ)) → List (Bor (List ℕ)) → Type 0
AreSorted files sorted = IsPermutation files sorted × IsSorted (λ a b. slice_cmp nat_cmp a.now b.now) sorted

-- the name of what a folder holds
abbrev pub beneath : List ℕ → List ℕ → List ℕ
beneath folder name = folder ++ codes "/" ++ name

-- the path of a file in a directory; none where that is no path
abbrev pub IsPathIn : List ℕ → List ℕ → Option (List ℕ) → Type 0
IsPathIn directory file path =
    MatchOption path (is_path (beneath directory (file_name file)) ≡ false) (λ path. path ≡ beneath directory (file_name file))

abbrev pub is_here : List ℕ → Bool
is_here name = (length name == 0) || (bytes_eq name (codes ".") || bytes_eq name (codes ".."))

-- the directory of a folder that is run: its name
abbrev pub top_directory : List ℕ → List ℕ
top_directory folder = if is_here (file_name folder) then lone_directory else file_name folder

abbrev pub is_hidden_folder : List ℕ → Bool
is_hidden_folder name = starts_with nat_eq name (codes ".") || starts_with nat_eq name (codes "_")

-- a folder of this name belongs to the folder, or the module, that it is in
abbrev pub is_looked_into : Bool → List ℕ → Bool
is_looked_into is_module name = not (is_hidden_folder name) && not (is_module && (bytes_eq name (codes "testdata") || bytes_eq name (codes "vendor")))

abbrev pub is_go : List ℕ → Bool
is_go name = ends_with eqb name (codes ".go")

abbrev pub is_test : List ℕ → Bool
is_test name = ends_with eqb name (codes "_test.go")

-- a file of this name is a source of the folder, or the module, that it is in
abbrev pub is_read : Bool → List ℕ → Bool
is_read is_module name = is_go name && (not (is_hidden_folder name) && not (is_module && is_test name))
