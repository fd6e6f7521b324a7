-- What is suggested, where what it is chosen among is known by equations.
use Rattle.std.proofs.Common.{◌≡◌, ℕ, List, ◌++◌, Option, Some, option_map, refl, subst, sym}
use Rattle.std.specs.Prelude.{string_bytes}
use Rattle.std.specs.List.{filter}
use Rattle.go_text.specs.declared.fault.FaultKind.{FaultKind}
use Rattle.go_text.specs.declared.fault.FaultKind.TheVariants as faults
use Rattle.go_scan.specs.declared.token.Token.{Token}
use Rattle.go_diagnostics.specs.Diagnoses.{IsSentenceOfNames}
use Rattle.go_diagnostics.specs.Packages.{PackageNames, PackageDeclares}
use Rattle.go_diagnostics.specs.Sentences.{unknown_text}
use Rattle.go_diagnostics.specs.Unknown.{Pair, Suggests, SuggestsAmong, SuggestsIn, is_exported_name, predeclared, selected_name}
use Rattle.go_diagnostics.specs.declared.package.PackageFile.{PackageFile}
use Rattle.go_diagnostics.specs.declared.unknown.SimilarName.{SimilarName}

-- of an imported package
pub of_import : (files : List PackageFile) (known declared exported : PackageNames) (text : List ℕ) (from rest : List Token) (path : List ℕ)
    (chosen : Option (List ℕ × List Token)) (found : Option Pair)
    → Some (path, rest) ≡ chosen → PackageDeclares path files declared → exported ≡ filter is_exported_name declared
    → SuggestsAmong exported text rest found → SuggestsIn files known text from chosen found
of_import files known declared exported text from rest path chosen found is declares exports among =
    let all : SuggestsAmong (filter is_exported_name declared) text rest found =
    subst (λ (names : PackageNames). SuggestsAmong names text rest found) exports among in
    subst (λ (it : Option (List ℕ × List Token)). SuggestsIn files known text from it found) is (declared, declares, all)

-- of the file's package, which has these names
pub of_package : (directory given : List ℕ) (files : List PackageFile) (declared known : PackageNames) (text given_text : List ℕ) (tokens from : List Token)
    (found : Option Pair)
    → given ≡ directory → given_text ≡ text → PackageDeclares given files declared → known ≡ predeclared ++ declared
    → SuggestsIn files known given_text from (selected_name known given_text tokens from) found → Suggests directory files text tokens from found
of_package directory given files declared known text given_text tokens from found same same_text declares knows within =
    let there : PackageDeclares directory files declared = subst (λ (place : List ℕ). PackageDeclares place files declared) same declares in
    let its : SuggestsIn files known text from (selected_name known text tokens from) found =
    subst (λ (it : List ℕ). SuggestsIn files known it from (selected_name known it tokens from) found) same_text within in
    let all : SuggestsIn files (predeclared ++ declared) text from (selected_name (predeclared ++ declared) text tokens from) found =
    subst (λ (names : PackageNames). SuggestsIn files names text from (selected_name names text tokens from) found) knows its in
    (declared, there, all)

-- the sentence that names what is suggested
pub is_unknown_sentence : (kind : FaultKind) (file : PackageFile) (files : List PackageFile) (tokens from : List Token) (found : Option SimilarName) (name : SimilarName)
    → kind ≡ faults.Undeclared → found ≡ Some name
    → Suggests (string_bytes file.directory) files file.source.text tokens from (option_map (λ pair. (pair.unknown.now, pair.nearest.now)) found)
    → IsSentenceOfNames kind file files tokens from (unknown_text name.unknown.now name.nearest.now)
is_unknown_sentence kind file files tokens from found name kind_is found_is suggests =
    let its : Suggests (string_bytes file.directory) files file.source.text tokens from (Some (name.unknown.now, name.nearest.now)) =
    subst (λ (it : Option SimilarName). Suggests (string_bytes file.directory) files file.source.text tokens from
    (option_map (λ pair. (pair.unknown.now, pair.nearest.now)) it)) found_is suggests in
    subst (λ (k : FaultKind). IsSentenceOfNames k file files tokens from (unknown_text name.unknown.now name.nearest.now)) (sym kind_is)
    (Some (name.unknown.now, name.nearest.now), its, refl)
