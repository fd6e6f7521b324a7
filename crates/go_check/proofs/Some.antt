-- Files that parse are a typed package or have a fault.
use Rattle.std.proofs.Common.{◌≡◌, ◌⊎◌, ℕ, ◌<◌, List, [], map, length, get_or, Some, sym, subst, inl, inr}
use Rattle.std.specs.List.{slice_get}
use Rattle.std.specs.Prelude.{◌∷◌}
use Rattle.std.proofs.lemmas.List.{length-map}
use Rattle.std.proofs.lemmas.Option.{slice_get-get_or}
use Rattle.go_text.specs.Faults.{Fault}
use Rattle.go_text.specs.declared.fault.FaultKind.{FaultKind}
use Rattle.go_text.specs.declared.place.Place.{Place}
use Rattle.go_ast.specs.Trees.{File}
use Rattle.go_ast.specs.Parse.{Parsed}
use Rattle.go_typed.specs.Trees.{Package}
use Rattle.go_package.specs.Imports.{Importable}
use Rattle.go_package.specs.Packages.{package_in, IsFaultOf}
use Rattle.go_package.specs.Typed.{IsTypedIn}
use Rattle.go_package.proofs.SomeFacts.{fault_or_typed}
use Rattle.go_package.proofs.Within.{fault_within}
use Rattle.go_check.specs.Checked.{AreTrees, fmt, AreTyped, HaveFault, package_edition}
use Rattle.go_check.proofs.Trees.{trees_counted}

module _ (path : List ℕ) (files : List Parsed) (imports : List Importable) (trees : List File) (parse : AreTrees files trees) where
  abbrev all : List Importable
  all = fmt ∷ imports

  abbrev names : List (List ℕ)
  names = map (λ (f : Parsed). f.name) files

  -- the number of a fault is that of a file
  pub of_file : (fault : ℕ × (Place × FaultKind)) → IsFaultOf (package_edition files) path trees all (Some fault) → fault.0 < length files
  of_file fault is = subst (λ n. fault.0 < n) (trees_counted files trees parse) (fault_within (package_edition files) path trees all fault is)

  named : (n : ℕ) → n < length files → slice_get names n ≡ Some (get_or names n [])
  named n within = slice_get-get_or names n [] (subst (λ m. n < m) (sym (length-map files (λ (f : Parsed). f.name))) within)

  by_either : ((fault : ℕ × (Place × FaultKind)) × IsFaultOf (package_edition files) path trees all (Some fault)) ⊎ ((t : Package) × IsTypedIn (package_edition files) (package_in (package_edition files) path trees all) trees all names t) →
      ((typed : Package) × AreTyped path files imports typed) ⊎ ((fault : Fault) × HaveFault path files imports fault)
  by_either (inl ((n, (place, kind)), is)) = inr (
    record { file = get_or names n []; place = place; kind = kind },
    record { trees = trees; parse = parse; number = n; name = named n (of_file (n, (place, kind)) is); is = is },
  )
  by_either (inr (t, is)) = inl (t, record { trees = trees; parse = parse; is = is })

  pub some_check : ((typed : Package) × AreTyped path files imports typed) ⊎ ((fault : Fault) × HaveFault path files imports fault)
  some_check = by_either (fault_or_typed (package_in (package_edition files) path trees all) trees all (package_edition files) names)
