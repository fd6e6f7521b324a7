-- The names that files of one directory declare, file by file.
use Rattle.std.proofs.Common.{◌≡◌, ℕ, ◌+◌, ◌<◌, ◌≤◌, Bool, true, false, List, [], ◌∷◌, ◌++◌, ◌∙◌, length, drop, get_or, refl, sym, ap, subst}
use Rattle.std.specs.List.{filter}
use Rattle.std.proofs.lemmas.List.{append-nil, append_assoc, drop_all, drop_more}
use Rattle.go_diagnostics.specs.Packages.{AllDeclare, Declares, PackageNames, PackageDeclares, lies_in_directory}
use Rattle.go_diagnostics.specs.declared.package.PackageFile.{PackageFile}

kept : (test : PackageFile → Bool) (file : PackageFile) (files : List PackageFile) → test file ≡ true → filter test (file ∷ files) ≡ file ∷ filter test files
kept test file files is = rw is refl

dropped : (test : PackageFile → Bool) (file : PackageFile) (files : List PackageFile) → test file ≡ false → filter test (file ∷ files) ≡ filter test files
dropped test file files is = rw is refl

-- the files from one on begin with it
from : (files : List PackageFile) (i : ℕ) (file : PackageFile) → i < length files → file ≡ get_or files i file → drop i files ≡ file ∷ drop (i + 1) files
from files i file lt at = subst (λ (first : PackageFile). drop i files ≡ first ∷ drop (i + 1) files) (sym at) (drop_more files i file lt)

-- names of which those that some files declare are a part: what is behind them fits to what these files declare
abbrev pub Completes : List ℕ → List PackageFile → List PackageFile → PackageNames → Type 0
Completes directory files left names =
    (more : PackageNames) → AllDeclare (filter (lies_in_directory directory) left) more → AllDeclare (filter (lies_in_directory directory) files) (names ++ more)

-- a file of the directory, whose names were added
pub taken : (directory : List ℕ) (files : List PackageFile) (i : ℕ) (file : PackageFile) (names first grown : PackageNames)
    → i < length files → file ≡ get_or files i file → lies_in_directory directory file ≡ true → Declares file.source.text first → grown ≡ names ++ first
    → Completes directory files (drop i files) names → Completes directory files (drop (i + 1) files) grown
taken directory files i file names first grown lt at is declares grows before = λ more all.
    let here : AllDeclare (file ∷ filter (lies_in_directory directory) (drop (i + 1) files)) (first ++ more) = (first, more, declares, all, refl) in
    let same : filter (lies_in_directory directory) (drop i files) ≡ file ∷ filter (lies_in_directory directory) (drop (i + 1) files) =
    ap (λ (fs : List PackageFile). filter (lies_in_directory directory) fs) (from files i file lt at) ∙ kept (lies_in_directory directory) file (drop (i + 1) files) is in
    let there : AllDeclare (filter (lies_in_directory directory) (drop i files)) (first ++ more) =
    subst (λ (fs : List PackageFile). AllDeclare fs (first ++ more)) (sym same) here in
    let joined : names ++ (first ++ more) ≡ grown ++ more = sym (ap (λ (ns : PackageNames). ns ++ more) grows ∙ append_assoc names first more) in
    subst (λ (ns : PackageNames). AllDeclare (filter (lies_in_directory directory) files) ns) joined (before (first ++ more) there)

-- a file of another directory
pub passed : (directory : List ℕ) (files : List PackageFile) (i : ℕ) (file : PackageFile) (names grown : PackageNames)
    → i < length files → file ≡ get_or files i file → lies_in_directory directory file ≡ false → grown ≡ names
    → Completes directory files (drop i files) names → Completes directory files (drop (i + 1) files) grown
passed directory files i file names grown lt at isnt same_names before = λ more all.
    let same : filter (lies_in_directory directory) (drop i files) ≡ filter (lies_in_directory directory) (drop (i + 1) files) =
    ap (λ (fs : List PackageFile). filter (lies_in_directory directory) fs) (from files i file lt at) ∙ dropped (lies_in_directory directory) file (drop (i + 1) files) isnt in
    let there : AllDeclare (filter (lies_in_directory directory) (drop i files)) more = subst (λ (fs : List PackageFile). AllDeclare fs more) (sym same) all in
    subst (λ (ns : PackageNames). AllDeclare (filter (lies_in_directory directory) files) (ns ++ more)) (sym same_names) (before more there)

-- behind the last file
pub all_taken : (directory : List ℕ) (files : List PackageFile) (i : ℕ) (names : PackageNames) → length files ≤ i
    → Completes directory files (drop i files) names → PackageDeclares directory files names
all_taken directory files i names le before =
    let none : filter (lies_in_directory directory) (drop i files) ≡ [] = ap (λ (fs : List PackageFile). filter (lies_in_directory directory) fs) (drop_all i files le) in
    let last : AllDeclare (filter (lies_in_directory directory) (drop i files)) [] = subst (λ (fs : List PackageFile). AllDeclare fs []) (sym none) refl in
    subst (λ (ns : PackageNames). AllDeclare (filter (lies_in_directory directory) files) ns) (append-nil names) (before [] last)
