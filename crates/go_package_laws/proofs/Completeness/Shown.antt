-- Where all names are told none of them stands for a faulty declaration, and hides what its statement breaks.
use Rattle.std.proofs.Common.{◌≡◌, ℕ, true, false, List, [], ◌∷◌, refl}
use Rattle.std.specs.List.{list_any}
use Rattle.go_scope.specs.Names.{Used}
use Rattle.go_expr.specs.Known.{Known, Verdict, Fine, Breaks, Passed, Scope, look_up_known}
use Rattle.go_stmt.specs.Statements.{is_unknown}
use Rattle.go_package_laws.specs.Finds.{IsDetermined}

pub told_shown : (v : Verdict Known) → IsDetermined v → elim v [ Passed ↦ true | _ ↦ false ] ≡ false
told_shown (Fine k) h = refl
told_shown (Breaks kind) h = refl
told_shown Passed h = absurd h

pub all_shown : (s : Scope) → ((x : List ℕ) → IsDetermined (look_up_known x s.names)) → (us : List Used) → list_any (is_unknown s) us ≡ false
all_shown s told [] = refl
all_shown s told (u ∷ us) = (let one = told_shown (look_up_known u.0 s.names) (told u.0) in rw one (all_shown s told us))
