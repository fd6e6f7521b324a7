use Rattle.std.proofs.Common.{rules, of_calls, sym, subst, ◌+◌}
use Rattle.std.specs.Arc.{arc_value}
use Rattle.std.specs.Prelude.{take, drop}
use Rattle.std.proofs.lemmas.Fn.{always_returns_same}
use Rattle.ws_version.specs.Writes.{path_cmp}
use Rattle.ws_register.specs.Nodes.{writes_below, all_nodes}
use Rattle.ws_register.specs.Pages.{AllPathsBelow, AllAbove}
use Rattle.ws_register.specs.Search.{first_path}
use Rattle.ws_register.proofs.Parts.{node-some, found-below, found-above, between-below, between-above}
use Rattle.ws_register.proofs.search.node_at.Goals as goal

pub returns-in-Ok-clause-below : goal.returns-in-Ok-clause-below
returns-in-Ok-clause-below c =
    let by_path = c.binary_search_by-found.ensures.position (λ q. path_cmp (first_path (writes_below (arc_value q))) c.args.path.now) (always_returns_same _ _ _ (λ a r f k. search (rules, of_calls))) in
    found-below writes_below node-some c.args.nodes.now c.args.path.now c.requires c.in-Ok.at (rw c.in-Ok.is at c.binary_search_by-found.ensures.bound, rw c.in-Ok.is at by_path)

pub returns-in-Ok-clause-above : goal.returns-in-Ok-clause-above
returns-in-Ok-clause-above c =
    let by_path = c.binary_search_by-found.ensures.position (λ q. path_cmp (first_path (writes_below (arc_value q))) c.args.path.now) (always_returns_same _ _ _ (λ a r f k. search (rules, of_calls))) in
    found-above writes_below node-some c.args.nodes.now c.args.path.now c.requires c.in-Ok.at (rw c.in-Ok.is at c.binary_search_by-found.ensures.bound, rw c.in-Ok.is at by_path)

pub returns-in-Err-clause-below : goal.returns-in-Err-clause-below
returns-in-Err-clause-below c =
    let by_path = c.binary_search_by-found.ensures.position (λ q. path_cmp (first_path (writes_below (arc_value q))) c.args.path.now) (always_returns_same _ _ _ (λ a r f k. search (rules, of_calls))) in
    subst (λ i. AllPathsBelow (all_nodes (take i c.args.nodes.now)) c.args.path.now) (sym c.saturating_sub.ensures)
    (between-below writes_below node-some c.args.nodes.now c.args.path.now c.requires c.in-Err.next (rw c.in-Err.is at c.binary_search_by-found.ensures.bound, rw c.in-Err.is at by_path))

pub returns-in-Err-clause-above : goal.returns-in-Err-clause-above
returns-in-Err-clause-above c =
    let by_path = c.binary_search_by-found.ensures.position (λ q. path_cmp (first_path (writes_below (arc_value q))) c.args.path.now) (always_returns_same _ _ _ (λ a r f k. search (rules, of_calls))) in
    subst (λ i. AllAbove (all_nodes (drop (i + 1) c.args.nodes.now)) c.args.path.now) (sym c.saturating_sub.ensures)
    (between-above writes_below node-some c.args.nodes.now c.args.path.now c.requires c.in-Err.next (rw c.in-Err.is at c.binary_search_by-found.ensures.bound, rw c.in-Err.is at by_path))
