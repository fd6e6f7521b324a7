-- How answers are told: what standard output and standard error get, and the status.
use Rattle.std.specs.Prelude.{ℕ, List, [], ◌∷◌, ◌++◌, map, codes, bytes_eq, if◌then◌else◌, String, string_bytes}
use Rattle.std.specs.List.{flat_map}
use Rattle.std.specs.Global.{Global}
use Rattle.ws_report.specs.Reports.{DirectoryVerdict, Good, Blocked, Wrong, verdict_rows}
use Rattle.std.specs.Fmt.{decimal}
use Rattle.go_text.specs.Faults.{Fault, fault_number, fault_word}
use Rattle.go_code.specs.declared.ending.Ending.{Ending}
use Rattle.go_code.specs.declared.ending.Ending.TheVariants.{Ended, Cut, Panicked}
use Rattle.go_code.specs.declared.ending.PanicKind.{PanicKind}
use Rattle.go_code.specs.declared.ending.PanicKind.TheVariants.{Divide, Index, Slice, Make, Shift, Depth, Long, User}
use Rattle.ws_run.specs.declared.answer.RunReport.{RunReport}
use Rattle.ws_run.specs.declared.answer.RunReport.TheVariants.{Ran, Faulty, NoPackage, NoMain}

-- ---- standard output

-- what the program printed
abbrev pub output_of : RunReport → List ℕ
output_of answer = elim answer [ Ran o ↦ o.output | _ ↦ [] ]

-- ---- standard error

-- a program's own panic has its text
abbrev pub panic_reason : PanicKind → List ℕ
panic_reason Divide = codes "integer divide by zero"
panic_reason Index = codes "index out of range"
panic_reason Slice = codes "slice bounds out of range"
panic_reason Make = codes "length or capacity of make out of range"
panic_reason Shift = codes "negative shift amount"
panic_reason Depth = codes "too many open calls"
panic_reason Long = codes "string or slice too long"
panic_reason (User text) = text

-- nothing of a program that ended well
abbrev pub ending_line : Ending → List ℕ
ending_line Ended = []
ending_line Cut = codes "cut: no ticks left\n"
ending_line (Panicked kind) = codes "panic: " ++ panic_reason kind ++ codes "\n"

-- directories, each with its folder as it is told
abbrev pub Folders : Type 0
Folders = List (List ℕ × List ℕ)

abbrev pub folders_of : List (String Global × String Global) → Folders
folders_of folders = map (λ f. (string_bytes f.0, string_bytes f.1)) folders

-- the first that is given, else the directory
abbrev pub folder_of : Folders → List ℕ → List ℕ
folder_of [] directory = directory
folder_of (f ∷ folders) directory = if bytes_eq f.0 directory then f.1 else folder_of folders directory

-- with a slash behind it, and nothing where it is empty
abbrev pub in_folder : List ℕ → List ℕ
in_folder [] = []
in_folder (byte ∷ bytes) = (byte ∷ bytes) ++ codes "/"

-- where the fault stands, its number and its word
abbrev pub fault_line : List ℕ → Fault → List ℕ
fault_line folder fault =
    in_folder folder ++ fault.file ++ codes ":" ++ decimal fault.place.line ++ codes ":" ++ decimal fault.place.column ++ codes ": "
    ++ decimal (fault_number fault.kind) ++ codes " " ++ fault_word fault.kind ++ codes "\n"

-- nothing of a directory that is good or blocked
abbrev pub row_line : Folders → List ℕ × DirectoryVerdict → List ℕ
row_line folders (directory, Good) = []
row_line folders (directory, Blocked) = []
row_line folders (directory, Wrong fault) = fault_line (folder_of folders directory) fault

abbrev pub complaint_of : Folders → RunReport → List ℕ
complaint_of folders (Ran o) = ending_line o.ending
complaint_of folders (Faulty report) = flat_map (row_line folders) (verdict_rows report.directories.items)
complaint_of folders NoPackage = codes "no program: no file of a package is in its folder\n"
complaint_of folders NoMain = codes "no program: the package isn't named main\n"

-- ---- the status

abbrev pub ending_status : Ending → ℕ
ending_status ending = elim ending [ Ended ↦ 0 | Panicked kind ↦ 2 | Cut ↦ 3 ]

abbrev pub status_of : RunReport → ℕ
status_of answer = elim answer [ Ran o ↦ ending_status o.ending | _ ↦ 1 ]
