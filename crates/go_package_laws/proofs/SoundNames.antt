-- What the checker knows where a name or an expression stands, so that the trees that it makes of it are well typed.
use Rattle.std.specs.Prelude.{◌≡◌, ℕ, true, List, Ok, Err}
use Rattle.go_types.specs.Relations.{underlying}
use Rattle.go_typed.specs.Trees.{expr_type}
use Rattle.go_meaning_laws.specs.WellTyped.{Setting, is_string_type, IsCall, IsExpr, AreWellTypedExprs, exprs_types}
use Rattle.go_expr.specs.Known.{Known, declared, package', results, printed, panicked, Fine, Scope, look_up_known}
use Rattle.go_package_laws.proofs.Soundness.{Table, AreSoundTypes, IsSoundDeclared, AreSoundNames}

abbrev pub IsSoundKnown : Table → Setting → List ℕ → Known → Type 0
IsSoundKnown w g d (declared k) = IsSoundDeclared w g d k
IsSoundKnown w g d (package' names) = AreSoundNames w g d names
IsSoundKnown w g d (results ts s es) = AreWellTypedExprs g d es × IsCall g s (exprs_types es) ts × AreSoundTypes w ts
IsSoundKnown w g d (printed (Ok es)) = AreWellTypedExprs g d es
IsSoundKnown w g d (printed (Err kind)) = Unit {0}
IsSoundKnown w g d (panicked e) = IsExpr g d e × (is_string_type (underlying (expr_type e)) ≡ true)

abbrev pub IsSoundScope : Table → Setting → List ℕ → Scope → Type 0
IsSoundScope w g d s = (w.plain s.path ≡ true) × ((x : List ℕ) (k : Known) → look_up_known x s.names ≡ Fine k → IsSoundKnown w g d k)
