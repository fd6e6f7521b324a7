-- What libraries export is sound.
use Rattle.std.proofs.Common.{◌≡◌, ◌≢◌, ℕ, List, [], ◌∷◌, Option, Some, None, map, codes, sym, ap, ◌∙◌, subst, inl, inr}
use Rattle.std.specs.Prelude.{bytes_eq}
use Rattle.std.specs.Map.{lookup}
use Rattle.std.proofs.lemmas.Bool.{cases_Bool}
use Rattle.go_expr.specs.Known.{Declared, println, Names, library}
use Rattle.go_package.specs.Imports.{Importable}
use Rattle.go_package_laws.specs.Finds.{AllImportsAreKnown}
use Rattle.go_meaning_laws.specs.WellTyped.{Setting}
use Rattle.go_package_laws.proofs.Soundness.{Table, IsSoundDeclared, AreSoundNames}
use Rattle.go_package_laws.specs.Packages.{AreLibraries}

only_println : (x : List ℕ) (k : Option Declared) → lookup (bytes_eq x) library ≡ Some k → k ≡ Some println
only_println x k at = elim (cases_Bool (bytes_eq x (codes "Println"))) [
  | inl is ↦ (let one : Some (Some println) ≡ Some k = rw is at at in let two : Some println ≡ k = cc (one) in sym two)
  | inr not_so ↦ absurd (let no : None ≡ Some k = rw not_so at at in cc (no))
]

pub library_sound : (w : Table) (g : Setting) (d : List ℕ) (names : Names) → names ≡ library → AreSoundNames w g d names
library_sound w g d names is x k at =
    let one = only_println x (Some k) (ap (lookup (bytes_eq x)) (sym is) ∙ at) in
    let two : k ≡ println = cc (one) in
    subst (IsSoundDeclared w g d) (sym two) tt

library_whole : (names : Names) → names ≡ library → (x : List ℕ) → lookup (bytes_eq x) names ≢ Some None
library_whole names is x at =
    let one = only_println x None (ap (lookup (bytes_eq x)) (sym is) ∙ at) in
    cc (one)

pub libraries_whole : (ps : List Importable) → AreLibraries ps → AllImportsAreKnown (map (λ (p : Importable). (p.path, p.exports)) ps)
libraries_whole [] h = tt
libraries_whole (i ∷ is) h = (library_whole i.exports h.0, libraries_whole is h.1)
