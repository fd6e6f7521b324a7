-- Of each package there are facts, and so it has a fault or is a typed package.
use Rattle.std.proofs.Common.{◌≡◌, ◌⊎◌, ℕ, List, [], ◌∷◌, Option, Some, None, refl, ap, inl, inr}
use Rattle.std.specs.List.{slice_get}
use Rattle.go_text.specs.declared.edition.Edition.{Edition}
use Rattle.go_text.specs.declared.place.Place.{Place}
use Rattle.go_text.specs.declared.fault.FaultKind.{FaultKind}
use Rattle.go_ast.specs.Trees.{File}
use Rattle.go_typed.specs.Trees as typed
use Rattle.go_objects.specs.Table.{PackageTable, rows}
use Rattle.go_objects.proofs.Lookups.{rows_stay}
use Rattle.go_package.specs.Faults.{Facts}
use Rattle.go_package.specs.Imports.{Importable}
use Rattle.go_package.specs.Packages.{AreFacts, package_faults, IsFaultIn}
use Rattle.go_package.specs.Typed.{typed_package, IsTypedIn}
use Rattle.go_package.proofs.SomeTable.{some_table}
use Rattle.go_package.proofs.SomeMarks.{some_marks}
use Rattle.go_package.proofs.OneFault.{one_fault}

pub some_facts : (p : PackageTable) → (t : Facts) × AreFacts p t
some_facts p =
    let table = some_table p in
    let marks = some_marks (rows p) (rows_stay p) in
    (record { «package» = p; known = table.0; recursive = marks.0 }, record { package_is = refl; known = table.1; recursive = marks.1 })

none_first : {A : Type 0} (xs : List A) → slice_get xs 0 ≡ None → xs ≡ []
none_first [] e = refl
none_first (x ∷ xs) e = cc

-- its first fault, and where it has none a typed package
pub some_fault : (p : PackageTable) (files : List File) (ps : List Importable) (edition : Edition) (names : List (List ℕ)) →
    (fault : Option (ℕ × (Place × FaultKind))) × IsFaultIn p files ps fault × (fault ≡ None → (t : typed.Package) × IsTypedIn edition p files ps names t)
some_fault p files ps edition names =
    let t = some_facts p in
    let faults = package_faults ps t.0 files in (
      slice_get faults 0,
      record { facts = t.0; are = t.1; first = refl },
      λ none.
          (typed_package edition t.0 names files, record { facts = t.0; are = t.1; none = none_first faults none; is = refl }),
    )

pub fault_or_typed : (p : PackageTable) (files : List File) (ps : List Importable) (edition : Edition) (names : List (List ℕ)) →
    ((fault : ℕ × (Place × FaultKind)) × IsFaultIn p files ps (Some fault)) ⊎ ((t : typed.Package) × IsTypedIn edition p files ps names t)
fault_or_typed p files ps edition names = by_first (some_fault p files ps edition names)
  where
    by_first : ((fault : Option (ℕ × (Place × FaultKind))) × IsFaultIn p files ps fault × (fault ≡ None → (t : typed.Package) × IsTypedIn edition p files ps names t)) →
        ((fault : ℕ × (Place × FaultKind)) × IsFaultIn p files ps (Some fault)) ⊎ ((t : typed.Package) × IsTypedIn edition p files ps names t)
    by_first (None, is, typed) = inr (typed refl)
    by_first (Some fault, is, typed) = inl (fault, is)

-- a typed package has no fault
pub typed_faultless : (p : PackageTable) (files : List File) (ps : List Importable) (edition : Edition) (names : List (List ℕ)) (t : typed.Package) → IsTypedIn edition p files ps names t → IsFaultIn p files ps None
typed_faultless p files ps edition names t is = record { facts = is.facts; are = is.are; first = ap (λ l. slice_get l 0) is.none }

-- so not both
pub typed_or_faulty : (p : PackageTable) (files : List File) (ps : List Importable) (edition : Edition) (names : List (List ℕ)) (t : typed.Package) (fault : ℕ × (Place × FaultKind)) →
    IsTypedIn edition p files ps names t → IsFaultIn p files ps (Some fault) → ⊥
typed_or_faulty p files ps edition names t fault is faulty = (let no = one_fault p files ps None (Some fault) (typed_faultless p files ps edition names t is) faulty in cc (no))
