-- Names of which nothing is known.
use Rattle.std.proofs.Common.{◌≡◌, Bool, true, false, not, is_some, Option, Some, None, [], refl}
use Rattle.std.specs.Option.{option_map}
use Rattle.go_text.specs.declared.place.Place.{Place}
use Rattle.go_expr.specs.declared.known.Known as knowns
use Rattle.go_expr.specs.Known.{Known, Verdict, Fine, Breaks, Passed}
use Rattle.go_expr.specs.Rules.{fine}
use Rattle.go_expr.specs.Verdicts.{broken}
use Rattle.go_expr.specs.Views.{known_of}

-- a name that breaks no rule finds what is known, or it is passed over
pub found_unknown : (p : Place) (v : Verdict Known) (found : Option knowns.Known) (b : Bool) → broken p v ≡ [] → fine v ≡ option_map known_of found → is_some found ≡ not b →
    b ≡ (elim v [ Passed ↦ true | _ ↦ false ])
found_unknown p (Fine k) (Some x) true none is there = cc
found_unknown p (Fine k) (Some x) false none is there = refl
found_unknown p (Fine k) None b none is there = cc
found_unknown p (Breaks kind) found b none is there = cc
found_unknown p Passed (Some x) b none is there = cc
found_unknown p Passed None true none is there = refl
found_unknown p Passed None false none is there = cc
