-- What standard error gets of files that were run.
use Rattle.std.specs.Prelude.{◌≡◌, ℕ, List, [], ◌∷◌, ◌++◌, map, string_bytes}
use Rattle.go_text.specs.declared.edition.Edition.{Edition}
use Rattle.go_text.specs.Named.{Source}
use Rattle.go_diagnostics.specs.Diagnoses.{Diagnosed}
use Rattle.go_diagnostics.specs.declared.package.PackageFile.{PackageFile}
use Rattle.ws_path.specs.Paths.{directory, file_name}
use Rattle.ws_report.specs.Reports.{DirectoryVerdict, Good, Blocked, Wrong, verdict_rows}
use Rattle.ws_run.specs.Files.{Files}
use Rattle.ws_run.specs.Printing.{Folders, complaint_of, folder_of, in_folder}
use Rattle.ws_run.specs.declared.answer.RunReport.{RunReport}
use Rattle.ws_run.specs.declared.answer.RunReport.TheVariants.{Faulty}

-- ---- files

-- the directory and the source of a file
abbrev pub directory_source : List ℕ × List ℕ → List ℕ × Source
directory_source file = (directory file.0, record { name = file_name file.0; text = file.1 })

abbrev pub placed : PackageFile → List ℕ × Source
placed file = (string_bytes file.directory, file.source)

-- these are the files, each by its directory and its name
abbrev pub AreFiles : Files → List PackageFile → Type 0
AreFiles files sources = map placed sources ≡ map directory_source files

-- ---- a report

-- how a file of a directory is called: by the folder that the words name, and its name
abbrev pub path_of : Folders → List ℕ → List ℕ → List ℕ
path_of folders directory file = in_folder (folder_of folders directory) ++ file

-- of a directory with a fault the diagnosis of it, and of one that is good or blocked nothing
abbrev pub IsRowText : Edition → Folders → List PackageFile → List ℕ × DirectoryVerdict → List ℕ → Type 0
IsRowText edition folders sources (directory, Good) text = text ≡ []
IsRowText edition folders sources (directory, Blocked) text = text ≡ []
IsRowText edition folders sources (directory, Wrong fault) text = Diagnosed edition (path_of folders directory fault.file) directory fault sources text

-- the texts of all rows of a report, in their order
abbrev pub AreRowTexts : Edition → Folders → List PackageFile → List (List ℕ × DirectoryVerdict) → List ℕ → Type 0
AreRowTexts edition folders sources [] text = text ≡ []
AreRowTexts edition folders sources (row ∷ rows) text =
    (first : List ℕ) × (others : List ℕ) × IsRowText edition folders sources row first × AreRowTexts edition folders sources rows others × (text ≡ first ++ others)

-- ---- an answer

-- of faults their diagnoses, and of other answers one line or nothing
abbrev pub IsExplanation : Edition → Folders → List PackageFile → RunReport → List ℕ → Type 0
IsExplanation edition folders sources (Faulty report) text = AreRowTexts edition folders sources (verdict_rows report.directories.items) text
IsExplanation edition folders sources answer text = text ≡ complaint_of folders answer

-- the same, where files are given by path and text
abbrev pub Explains : Edition → Folders → Files → RunReport → List ℕ → Type 0
Explains edition folders files answer text = (sources : List PackageFile) × AreFiles files sources × IsExplanation edition folders sources answer text
