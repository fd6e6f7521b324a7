use Rattle.std.proofs.Common.{◌≡◌, ℕ, List, refl}
use Rattle.go_expr.specs.declared.known.Known.{Known}
use Rattle.go_expr.specs.declared.known.Known.TheVariants.{Package}
use Rattle.go_expr.specs.Rules.{checked, valued, field_verdict, value_due, selection_verdict}
use Rattle.go_expr.specs.Views.{known_of}
use Rattle.go_expr.proofs.selector.selected_from.Goals as goal

-- from all but a package a field is selected
no_package : (path x : List ℕ) (k : Known) → ((names : _) → k ≡ Package names → ⊥) → selection_verdict path x (known_of k) ≡ valued (checked (field_verdict path x) (value_due (known_of k)))
no_package path x (Package names) never = absurd (never names refl)
no_package path x _ never = refl

pub returns-in_default : goal.returns-in_default
returns-in_default c = rw (no_package c.args.path.now c.args.name.now c.args.known c.in_default.not-Package) (c.value_at.ensures _ c.field_in.ensures)
