-- To check against summaries is to check against the packages themselves: importers find the same in both.
use Rattle.std.proofs.Common.{◌≡◌, ◌↔◌, ℕ, List, [], ◌∷◌, map, refl, sym, ap, subst}
use Rattle.go_text.specs.Faults.{Fault}
use Rattle.go_ast.specs.Parse.{Parsed}
use Rattle.go_typed.specs.Trees.{Package}
use Rattle.go_package.specs.Imports.{Importable}
use Rattle.go_check.specs.Names.{importable_by, importable_of}
use Rattle.go_export.specs.Summaries.{summary_of}
use Rattle.go_check.specs.Checked.{AreTyped, HaveFault}

pub seen_same : (packages : List Package) → map importable_by (map summary_of packages) ≡ map importable_of packages
seen_same [] = refl
seen_same (p ∷ ps) = ap (λ is. importable_of p ∷ is) (seen_same ps)

module _ (path : List ℕ) (files : List Parsed) (packages : List Package) where
  pub typed_by : (typed : Package) → AreTyped path files (map importable_by (map summary_of packages)) typed ↔ AreTyped path files (map importable_of packages) typed
  typed_by typed = (
    subst (λ (is : List Importable). AreTyped path files is typed) (seen_same packages),
    subst (λ (is : List Importable). AreTyped path files is typed) (sym (seen_same packages)),
  )

  pub fault_by : (fault : Fault) → HaveFault path files (map importable_by (map summary_of packages)) fault ↔ HaveFault path files (map importable_of packages) fault
  fault_by fault = (
    subst (λ (is : List Importable). HaveFault path files is fault) (seen_same packages),
    subst (λ (is : List Importable). HaveFault path files is fault) (sym (seen_same packages)),
  )
