-- From what the checker of packages answers to what is answered about files.
use Rattle.std.proofs.Common.{◌≡◌, ℕ, ◌<◌, List, ◌∷◌, map, length, Some, Result, Ok, Err, IfOk, subst}
use Rattle.go_text.specs.Faults.{Fault}
use Rattle.go_text.specs.declared.edition.Edition.{Edition}
use Rattle.go_text.specs.declared.fault.FaultKind.{FaultKind}
use Rattle.go_text.specs.declared.place.Place.{Place}
use Rattle.go_ast.specs.Trees.{File}
use Rattle.go_ast.specs.Parse.{Parsed}
use Rattle.go_typed.specs.Trees.{Package}
use Rattle.go_typed.specs.Views.{typed_of}
use Rattle.go_typed.specs.declared.package.Typed.{Typed}
use Rattle.go_package.specs.Imports.{Importable}
use Rattle.go_package.specs.Packages.{package_in, IsFaultOf}
use Rattle.go_package.specs.Typed.{IsTypedIn}
use Rattle.go_check.specs.Checked.{AreTrees, fmt, AreTyped, HaveFault, package_edition}
use Rattle.go_check.specs.Results.{IsFaultIn, ChecksTo}
use Rattle.go_check.specs.declared.error.CheckError.{CheckError}
use Rattle.go_check.proofs.Some.{of_file}

module _ (path : List ℕ) (files : List Parsed) (imports packages : List Importable) (trees : List File) (parse : AreTrees files trees) (are : packages ≡ fmt ∷ imports) where
  pub typed_by : (edition : Edition) (names : List (List ℕ)) (t : Package) → edition ≡ package_edition files → names ≡ map (λ f. f.name) files → IsTypedIn edition (package_in edition path trees packages) trees packages names t → AreTyped path files imports t
  typed_by edition names t same named typed = record {
    trees = trees;
    parse = parse;
    is = subst (λ (ns : List (List ℕ)). IsTypedIn (package_edition files) (package_in (package_edition files) path trees (fmt ∷ imports)) trees (fmt ∷ imports) ns t) named
        (subst (λ (ps : List Importable). IsTypedIn (package_edition files) (package_in (package_edition files) path trees ps) trees ps names t) are
        (subst (λ e. IsTypedIn e (package_in e path trees packages) trees packages names t) same typed));
  }

  same : (edition : Edition) (numbered : ℕ × (Place × FaultKind)) → edition ≡ package_edition files → IsFaultOf edition path trees packages (Some numbered) → IsFaultOf (package_edition files) path trees (fmt ∷ imports) (Some numbered)
  same edition numbered is told =
      subst (λ (ps : List Importable). IsFaultOf (package_edition files) path trees ps (Some numbered)) are
      (subst (λ (e : Edition). IsFaultOf e path trees packages (Some numbered)) is told)

  pub within : (edition : Edition) (numbered : ℕ × (Place × FaultKind)) → edition ≡ package_edition files → IsFaultOf edition path trees packages (Some numbered) → numbered.0 < length files
  within edition numbered of is = of_file path files imports trees parse numbered (same edition numbered of is)

  pub fault_by : (edition : Edition) (number : ℕ) (place : Place) (kind : FaultKind) (fault : Fault) → edition ≡ package_edition files → IsFaultOf edition path trees packages (Some (number, (place, kind))) → IsFaultIn files (number, (place, kind)) fault → HaveFault path files imports fault
  fault_by edition number place kind fault of is told = record {
    trees = trees;
    parse = parse;
    number = number;
    name = told.name;
    is = subst (λ (x : Place × FaultKind). IsFaultOf (package_edition files) path trees (fmt ∷ imports) (Some (number, x))) told.same (same edition (number, (place, kind)) of is);
  }

pub typed_told : (path : List ℕ) (files : List Parsed) (imports : List Importable) (result : Result Typed CheckError) → ChecksTo path files imports result → IfOk result (λ t. AreTyped path files imports (typed_of t))
typed_told path files imports (Ok t) is = is
typed_told path files imports (Err error) is = tt
