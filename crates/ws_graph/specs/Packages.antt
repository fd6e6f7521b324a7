-- The files of a directory's package.
use Rattle.std.specs.Prelude.{ℕ, Bool, not, ◌&&◌, eqb, List, codes}
use Rattle.std.specs.List.{filter, starts_with, ends_with}
use Rattle.ws_register.specs.Sources.{files_in}

-- files whose name begins with `.` or `_`, or ends in `_test.go`, aren't part of a build
abbrev pub is_built : List ℕ → Bool
is_built name = not (starts_with eqb name (codes ".")) && (not (starts_with eqb name (codes "_")) && not (ends_with eqb name (codes "_test.go")))

-- those of a directory's files that are part of a build, name and text, in the order of the sources
abbrev pub package_files : List ℕ → List (List ℕ × List ℕ) → List (List ℕ × List ℕ)
package_files dir sources = filter (λ file. is_built file.0) (files_in dir sources)
