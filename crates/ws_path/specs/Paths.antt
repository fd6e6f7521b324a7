-- Paths of files, as bytes.
use Rattle.std.specs.Prelude.{ℕ, Bool, ◌==◌, ◌&&◌, ◌||◌, not, nat_le, nat_lt, eqb, List, length, codes}
use Rattle.std.specs.List.{slice_split, list_all, before_last, after_last, ends_with}
use Rattle.std.specs.Str.{bytes_eq}
use Rattle.std.specs.Char.{is_ascii_alphanumeric}

abbrev pub is_slash : ℕ → Bool
is_slash b = b == 47

-- what stands between the slashes
abbrev pub path_elements : List ℕ → List (List ℕ)
path_elements path = slice_split is_slash path

-- what stands before the last slash, and nothing where there is none
abbrev pub directory : List ℕ → List ℕ
directory path = before_last is_slash path

-- what stands behind the last slash, and all where there is none
abbrev pub file_name : List ℕ → List ℕ
file_name path = after_last is_slash path

-- an ASCII letter, a digit, `_`, `.` or `-`
abbrev pub is_element_byte : ℕ → Bool
is_element_byte b = is_ascii_alphanumeric b || (b == 95 || (b == 46 || b == 45))

-- `.` or `..`
abbrev pub is_only_dots : List ℕ → Bool
is_only_dots e = bytes_eq e (codes ".") || bytes_eq e (codes "..")

-- one or more such bytes, but not `.` or `..`
abbrev pub is_element : List ℕ → Bool
is_element e = not (length e == 0) && (list_all is_element_byte e && not (is_only_dots e))

abbrev pub has_two_elements : List ℕ → Bool
has_two_elements path = nat_le 2 (length (path_elements path))

abbrev pub has_elements : List ℕ → Bool
has_elements path = list_all is_element (path_elements path)

-- ends in `.go`, with something before that
abbrev pub is_go_file : List ℕ → Bool
is_go_file name = nat_lt 3 (length name) && ends_with eqb name (codes ".go")

-- the directories that no file may stand in: they name what is built in
abbrev pub is_reserved : List ℕ → Bool
is_reserved directory = bytes_eq directory (codes "fmt") || bytes_eq directory (codes "C")

-- at most 200 bytes, two or more elements between slashes, the last the name of a Go file, and not in a reserved directory
abbrev pub is_path : List ℕ → Bool
is_path path = nat_le (length path) 200 && (has_two_elements path && (has_elements path && (is_go_file (file_name path) && not (is_reserved (directory path)))))
