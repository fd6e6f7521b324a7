-- What a build prints.
use Rattle.std.specs.Prelude.{ℕ, ◌==◌, cond, count_by, Bool, true, false, List, [], ◌∷◌, ◌++◌, length, codes}
use Rattle.std.specs.List.{flat_map}
use Rattle.std.specs.Fmt.{decimal}
use Rattle.go_text.specs.declared.place.Place.{Place}
use Rattle.go_text.specs.declared.fault.FaultKind.{FaultKind}
use Rattle.go_text.specs.Faults.{Fault, fault_number, fault_word}
use Rattle.ws_report.specs.Reports.{DirectoryVerdict, Good, Blocked, Wrong}

abbrev pub place_text : Place → List ℕ
place_text place = codes ":" ++ decimal place.line ++ (codes ":" ++ decimal place.column)

abbrev pub kind_text : FaultKind → List ℕ
kind_text kind = codes " " ++ decimal (fault_number kind) ++ codes " " ++ fault_word kind

-- what is wrong at a place of a directory's file, by number and word
unfoldable pub fault_text : List ℕ → Fault → List ℕ
fault_text directory fault = codes "fault " ++ directory ++ codes "/" ++ fault.file ++ place_text fault.place ++ kind_text fault.kind ++ 10 ∷ []

abbrev pub blocked_text : List ℕ → List ℕ
blocked_text directory = codes "blocked " ++ directory ++ 10 ∷ []

-- the line of a directory that isn't good
abbrev pub row_text : List ℕ × DirectoryVerdict → List ℕ
row_text row = elim row.1 [ Good ↦ [] | Blocked ↦ blocked_text row.0 | Wrong fault ↦ fault_text row.0 fault ]

abbrev pub is_bad : List ℕ × DirectoryVerdict → Bool
is_bad row = elim row.1 [ Good ↦ false | _ ↦ true ]

-- how many directories were reached, or how many of them aren't good
unfoldable pub counts_text : List (List ℕ × DirectoryVerdict) → List ℕ
counts_text report = cond (count_by is_bad report == 0) (codes " ok " ++ decimal (length report)) (codes " faults " ++ decimal (count_by is_bad report))

abbrev pub target_text : List ℕ → List ℕ → List ℕ
target_text name directory = codes "build " ++ name ++ codes " " ++ directory

-- the target, the summary, how many actions were compiled, and a line for each directory that isn't good
unfoldable pub report_text : List ℕ → List ℕ → List (List ℕ × DirectoryVerdict) → ℕ → List ℕ
report_text name directory report count =
    target_text name directory ++ counts_text report ++ (codes " compiled " ++ decimal count) ++ 10 ∷ [] ++ flat_map row_text report
