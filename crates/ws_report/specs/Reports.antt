-- What a build says of each directory that it reaches, and which ids they have.
use Rattle.std.specs.Prelude.{ℕ, List, Bool, true, false, string_bytes, String, map}
use Rattle.std.specs.Global.{Global}
use Rattle.go_text.specs.Faults.{Fault}
use Rattle.ws_report.specs.declared.Verdict.{Verdict as RustVerdict}
use Rattle.ws_report.specs.declared.Verdict.TheVariants as rust
use Rattle.ws_report.specs.declared.IdStatus.{IdStatus}
use Rattle.ws_report.specs.declared.IdLine.{IdLine}

-- good, or blocked by an import that isn't, or faulty
pub data DirectoryVerdict : Type 0 where
  Good : DirectoryVerdict
  Blocked : DirectoryVerdict
  Wrong : Fault → DirectoryVerdict

abbrev pub verdict_model : RustVerdict → DirectoryVerdict
verdict_model rust.Good = Good
verdict_model rust.Blocked = Blocked
verdict_model (rust.Faulty fault) = Wrong fault

abbrev pub is_good : RustVerdict → Bool
is_good rust.Good = true
is_good rust.Blocked = false
is_good (rust.Faulty fault) = false

-- a directory, with what is said of it
abbrev pub row : String Global × RustVerdict → List ℕ × DirectoryVerdict
row e = (string_bytes e.0, verdict_model e.1)

abbrev pub verdict_rows : List (String Global × RustVerdict) → List (List ℕ × DirectoryVerdict)
verdict_rows es = map row es

-- a directory, with how its action stands
abbrev pub id_row : IdLine → List ℕ × IdStatus
id_row line = (string_bytes line.directory, line.standing)
