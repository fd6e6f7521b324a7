-- The texts of a report's rows, row by row.
use Rattle.std.proofs.Common.{◌≡◌, ℕ, ◌+◌, ◌<◌, ◌≤◌, List, [], ◌∷◌, ◌++◌, ◌∙◌, length, drop, get_or, refl, sym, ap, subst}
use Rattle.std.specs.Prelude.{String, string_bytes}
use Rattle.std.specs.Global.{Global}
use Rattle.std.proofs.lemmas.List.{append-nil, append_assoc, drop_all, drop_more}
use Rattle.go_text.specs.Faults.{Fault}
use Rattle.go_text.specs.declared.edition.Edition.{Edition}
use Rattle.go_diagnostics.specs.Diagnoses.{Diagnosed}
use Rattle.go_diagnostics.specs.declared.package.PackageFile.{PackageFile}
use Rattle.ws_report.specs.Reports.{row, verdict_rows, verdict_model}
use Rattle.ws_report.specs.declared.Verdict.{Verdict}
use Rattle.ws_report.specs.declared.Verdict.TheVariants as verdicts
use Rattle.ws_run.specs.Printing.{Folders}
use Rattle.goset_cli.specs.Diagnostics.{AreRowTexts, IsRowText, path_of}

-- a text of which the rows that are left lack theirs
abbrev pub Completes : Edition → Folders → List PackageFile → List (String Global × Verdict) → List (String Global × Verdict) → List ℕ → Type 0
Completes edition folders sources all left text =
    (more : List ℕ) → AreRowTexts edition folders sources (verdict_rows left) more → AreRowTexts edition folders sources (verdict_rows all) (text ++ more)

-- one row more, with its text
pub with_row : (edition : Edition) (folders : Folders) (sources : List PackageFile) (all : List (String Global × Verdict)) (i : ℕ) (e : String Global × Verdict)
    (text first grown : List ℕ) → i < length all → e ≡ get_or all i e → IsRowText edition folders sources (row e) first → grown ≡ text ++ first
    → Completes edition folders sources all (drop i all) text → Completes edition folders sources all (drop (i + 1) all) grown
with_row edition folders sources all i e text first grown lt at is grows before = λ more texts.
    let from : drop i all ≡ e ∷ drop (i + 1) all =
    subst (λ (it : String Global × Verdict). drop i all ≡ it ∷ drop (i + 1) all) (sym at) (drop_more all i e lt) in
    let here : AreRowTexts edition folders sources (row e ∷ verdict_rows (drop (i + 1) all)) (first ++ more) = (first, more, is, texts, refl) in
    let there : AreRowTexts edition folders sources (verdict_rows (drop i all)) (first ++ more) =
    subst (λ (es : List (String Global × Verdict)). AreRowTexts edition folders sources (verdict_rows es) (first ++ more)) (sym from) here in
    subst (λ (t : List ℕ). AreRowTexts edition folders sources (verdict_rows all) t) (sym (ap (λ (t : List ℕ). t ++ more) grows ∙ append_assoc text first more))
    (before (first ++ more) there)

-- one row more, which has no text
pub without_row : (edition : Edition) (folders : Folders) (sources : List PackageFile) (all : List (String Global × Verdict)) (i : ℕ) (e : String Global × Verdict)
    (text grown : List ℕ) → i < length all → e ≡ get_or all i e → IsRowText edition folders sources (row e) [] → grown ≡ text
    → Completes edition folders sources all (drop i all) text → Completes edition folders sources all (drop (i + 1) all) grown
without_row edition folders sources all i e text grown lt at is same before =
    with_row edition folders sources all i e text [] grown lt at is (same ∙ sym (append-nil text)) before

-- behind the last row
pub all_rows : (edition : Edition) (folders : Folders) (sources : List PackageFile) (all : List (String Global × Verdict)) (i : ℕ) (text : List ℕ)
    → length all ≤ i → Completes edition folders sources all (drop i all) text → AreRowTexts edition folders sources (verdict_rows all) text
all_rows edition folders sources all i text le before =
    let last : AreRowTexts edition folders sources (verdict_rows (drop i all)) [] =
    subst (λ (es : List (String Global × Verdict)). AreRowTexts edition folders sources (verdict_rows es) []) (sym (drop_all i all le)) refl in
    subst (λ (t : List ℕ). AreRowTexts edition folders sources (verdict_rows all) t) (append-nil text) (before [] last)

-- the text of a directory with a fault
pub faulty_row : (edition : Edition) (folders : Folders) (sources : List PackageFile) (e : String Global × Verdict) (fault : Fault) (given text : List ℕ)
    → e.1 ≡ verdicts.Faulty fault → given ≡ string_bytes e.0 → Diagnosed edition (path_of folders given fault.file) given fault sources text
    → IsRowText edition folders sources (row e) text
faulty_row edition folders sources e fault given text is same told =
    let its : Diagnosed edition (path_of folders (string_bytes e.0) fault.file) (string_bytes e.0) fault sources text =
    subst (λ (directory : List ℕ). Diagnosed edition (path_of folders directory fault.file) directory fault sources text) same told in
    subst (λ (v : Verdict). IsRowText edition folders sources (string_bytes e.0, verdict_model v) text) (sym is) its

plain : (edition : Edition) (folders : Folders) (sources : List PackageFile) (directory : List ℕ) (v : Verdict) → ((fault : Fault) → v ≡ verdicts.Faulty fault → ⊥)
    → IsRowText edition folders sources (directory, verdict_model v) []
plain edition folders sources directory verdicts.Good other = refl
plain edition folders sources directory verdicts.Blocked other = refl
plain edition folders sources directory (verdicts.Faulty fault) other = absurd (other fault refl)

-- and of one without
pub plain_row : (edition : Edition) (folders : Folders) (sources : List PackageFile) (e : String Global × Verdict) → ((fault : Fault) → e.1 ≡ verdicts.Faulty fault → ⊥)
    → IsRowText edition folders sources (row e) []
plain_row edition folders sources e other = plain edition folders sources (string_bytes e.0) e.1 other
