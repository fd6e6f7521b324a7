-- What holds of packages without fault.
use Rattle.std.proofs.Common.{◌≡◌, List, [], Some, map, sym, ap, ◌∙◌}
use Rattle.std.specs.List.{slice_get}
use Rattle.std.specs.Prelude.{ℕ}
use Rattle.go_text.specs.declared.edition.Edition.{Edition}
use Rattle.go_ast.specs.Trees.{File}
use Rattle.go_objects.specs.Objects.{DeclaredObject, firsts, objects_from}
use Rattle.go_objects.specs.Table.{PackageTable}
use Rattle.go_package.specs.Faults.{Facts}
use Rattle.go_package.specs.Imports.{Importable}
use Rattle.go_package.specs.Packages.{package_faults, package_in, AreFacts}
use Rattle.go_package.proofs.Whole.{no_faults}
use Rattle.go_package_laws.specs.Finds.{AllImportsAreKnown}
use Rattle.go_package_laws.proofs.Completeness.Apart.{AreApart}
use Rattle.go_package_laws.proofs.Completeness.Known.{given, objects_known}
use Rattle.go_package_laws.proofs.Completeness.Packages.{functions_known}
use Rattle.go_package_laws.proofs.DeclaredTexts.{FilesHaveTexts}
use Rattle.go_package_laws.proofs.Fits.{HasFormTexts, all_firsts, all_at, files_texts}
use Rattle.go_package_laws.proofs.Parsed.{FilesNamed}
use Rattle.go_package_laws.proofs.Found.{LocalFiles}
use Rattle.go_package_laws.proofs.Links.{Checked}

abbrev exported : List Importable → Type 0
exported ps = AllImportsAreKnown (map (λ (p : Importable). (p.path, p.exports)) ps)

form_texts : (files : List File) → FilesHaveTexts files → (k : ℕ) (o : DeclaredObject) → slice_get (firsts [] (objects_from 0 files)) k ≡ Some o → HasFormTexts o
form_texts files texts k o at = all_at HasFormTexts (firsts [] (objects_from 0 files)) k o (all_firsts HasFormTexts [] (objects_from 0 files) (files_texts 0 files texts)) at

-- what holds of a package without fault
pub checked : (edition : Edition) (path : List ℕ) (files : List File) (ps : List Importable) (t : Facts) → exported ps → AreFacts (package_in edition path files ps) t → package_faults ps t files ≡ [] → LocalFiles files → FilesHaveTexts files → FilesNamed files → AreApart [] (objects_from 0 files) → Checked t files
checked edition path files ps t whole are none local texts named apart =
    let h = given edition path files ps t whole are none in
    let known = objects_known edition path files ps t whole are none in
    let objects = ap (λ (q : PackageTable). q.objects) are.package_is in
    record {
      told = record {
        table = h.table;
        grounded = h.grounded;
        texts = λ k o at. (form_texts files texts k o (ap (λ os. slice_get os k) (sym objects) ∙ at)).0;
        named = λ k o at. (form_texts files texts k o (ap (λ os. slice_get os k) (sym objects) ∙ at)).1;
      };
      objects = objects;
      all = known;
      texts = texts;
      named = named;
      apart = apart;
      local = local;
      none = no_faults ps t files none;
      known = λ file f l fine. functions_known t file f (h.whole file) known l fine;
    }
