-- Where the objects of a package stand, as the code has it.
use Rattle.std.proofs.Common.{◌≡◌, ℕ, List, [], ◌∷◌, ◌++◌, Option, map, String, refl, sym, ap, ◌∙◌}
use Rattle.std.specs.Global.{Global}
use Rattle.indexmap.specs.IndexMap.{IndexMap}
use Rattle.go_text.specs.declared.edition.Edition.{Edition}
use Rattle.go_expr.specs.Known.{Names, package', Verdict, Known, Fine, Scope, universe}
use Rattle.go_expr.specs.declared.known.Declared.{Declared}
use Rattle.go_expr.specs.declared.scope.Import.{Import}
use Rattle.go_expr.specs.Views.{names_of, imported_view, package_names, iota_of, names_in}
use Rattle.go_objects.specs.Table.{PackageTable, imports_at, scope_at}
use Rattle.go_objects.specs.Packages.{declared_imports}

abbrev packages : List (List ℕ × Names) → List (List ℕ × Verdict Known)
packages imports = map (λ i. (i.0, Fine (package' i.1))) imports

imports_seen : (imports : List Import) → packages (declared_imports imports) ≡ map imported_view imports
imports_seen [] = refl
imports_seen (i ∷ is) = ap (λ l. imported_view i ∷ l) (imports_seen is)

pub stands : {S : Type 0} (p : PackageTable) (imports : List Import) (known : IndexMap (String Global) (Option Declared) S) (file : ℕ) (iota : Option ℕ) (s : Scope) → s ≡ record { path = p.path; names = names_in p.edition imports known iota } →
    declared_imports imports ≡ imports_at p file → s ≡ scope_at p (names_of known) file iota
unfolding names_in
stands p imports known file iota s is e =
    is ∙ ap (λ (l : List (List ℕ × Verdict Known)). record { path = p.path; names = l ++ (package_names known ++ (iota_of iota ++ universe p.edition)) }) (sym (imports_seen imports) ∙ ap packages e)

abbrev Outside : Type 0
Outside = Option ℕ → List (List ℕ × Verdict Known)

abbrev pub outside_in : {S : Type 0} → Edition → List Import → IndexMap (String Global) (Option Declared) S → Outside
outside_in edition imports known iota = names_in edition imports known iota

abbrev pub outside_of : PackageTable → Names → ℕ → Outside
outside_of p known file iota = (scope_at p known file iota).names

abbrev behind : {S : Type 0} → Edition → IndexMap (String Global) (Option Declared) S → List (List ℕ × Verdict Known) → Outside
behind edition known l iota = l ++ (package_names known ++ (iota_of iota ++ universe edition))

-- the names outside of a function, by the value of iota
pub stands_outside : {S : Type 0} (p : PackageTable) (imports : List Import) (known : IndexMap (String Global) (Option Declared) S) (file : ℕ) → declared_imports imports ≡ imports_at p file →
    outside_in p.edition imports known ≡ outside_of p (names_of known) file
unfolding names_in
stands_outside p imports known file e = ap (behind p.edition known) (sym (imports_seen imports) ∙ ap packages e)
