-- Where a function stands, as the code has it.
use Rattle.std.proofs.Common.{◌≡◌, ℕ, Option, [], false, List, String, ap, ◌∙◌}
use Rattle.std.specs.Global.{Global}
use Rattle.indexmap.specs.IndexMap.{IndexMap}
use Rattle.go_text.specs.declared.edition.Edition.{Edition}
use Rattle.go_expr.specs.Known.{Names, Verdict, Known}
use Rattle.go_expr.specs.declared.known.Declared.{Declared}
use Rattle.go_expr.specs.declared.scope.Import.{Import}
use Rattle.go_expr.specs.Views.{names_of, names_in}
use Rattle.go_stmt.specs.Scopes.{Context}
use Rattle.go_objects.specs.Table.{PackageTable, imports_at, scope_at}
use Rattle.go_objects.specs.Packages.{declared_imports}
use Rattle.go_objects.proofs.Standing.{stands_outside}
use Rattle.go_package.specs.Faults.{Facts, context_at}

abbrev by : List ℕ → (Option ℕ → List (List ℕ × Verdict Known)) → Context
by path outside = record { path = path; outside = outside; results = []; constants = []; breaks = false; continues = false; falls = false }

abbrev of_package : PackageTable → Names → ℕ → Context
of_package p known file = by p.path (λ iota. (scope_at p known file iota).names)

pub context_same : {S : Type 0} (t : Facts) (p : PackageTable) (imports : List Import) (known : IndexMap (String Global) (Option Declared) S) (path : List ℕ) (edition : Edition) (file : ℕ) → path ≡ p.path → edition ≡ p.edition → declared_imports imports ≡ imports_at p file → p ≡ t.package → names_of known ≡ t.known →
    by path (λ iota. names_in edition imports known iota) ≡ context_at t file
context_same t p imports known path edition file path_is edition_is imports_are package_is known_is =
    ap (λ (x : List ℕ). by x (λ iota. names_in edition imports known iota)) path_is
    ∙ ap (λ (e : Edition). by p.path (λ iota. names_in e imports known iota)) edition_is
    ∙ ap (by p.path) (stands_outside p imports known file imports_are)
    ∙ ap (λ (q : PackageTable). of_package q (names_of known) file) package_is
    ∙ ap (λ (k : Names). of_package t.package k file) known_is
