use Rattle.std.proofs.Common.{rules, of_calls}
use Rattle.std.specs.Arc.{arc_value}
use Rattle.std.proofs.lemmas.Fn.{always_returns_same}
use Rattle.ws_version.specs.Writes.{path_cmp}
use Rattle.ws_register.proofs.Places.{place-found, place-below, place-above}
use Rattle.ws_register.proofs.search.place.Goals as goal

pub returns-clause-found : goal.returns-clause-found
returns-clause-found c =
    place-found c.args.writes.now c.args.path.now c.binary_search_by.result c.binary_search_by.ensures.bound
    (c.binary_search_by.ensures.position (λ w. path_cmp (arc_value w).0 c.args.path.now) (always_returns_same _ _ _ (λ a r f k. search (rules, of_calls))))

pub returns-clause-below : goal.returns-clause-below
returns-clause-below c =
    place-below c.args.writes.now c.args.path.now c.binary_search_by.result c.requires c.binary_search_by.ensures.bound
    (c.binary_search_by.ensures.position (λ w. path_cmp (arc_value w).0 c.args.path.now) (always_returns_same _ _ _ (λ a r f k. search (rules, of_calls))))

pub returns-clause-above : goal.returns-clause-above
returns-clause-above c =
    place-above c.args.writes.now c.args.path.now c.binary_search_by.result c.requires c.binary_search_by.ensures.bound
    (c.binary_search_by.ensures.position (λ w. path_cmp (arc_value w).0 c.args.path.now) (always_returns_same _ _ _ (λ a r f k. search (rules, of_calls))))
