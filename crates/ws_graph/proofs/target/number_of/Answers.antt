use Rattle.std.proofs.Common.{rules, of_calls, string_bytes}
use Rattle.std.proofs.lemmas.Fn.{always_returns_same}
use Rattle.ws_version.specs.Writes.{path_cmp}
use Rattle.ws_graph.proofs.Searching.{found_there, not_there}
use Rattle.ws_graph.proofs.target.number_of.Goals as goal

pub returns-in-Ok : goal.returns-in-Ok
returns-in-Ok c =
    let by_path = c.binary_search_by-found.ensures.position (λ s. path_cmp (string_bytes s) c.args.path.now) (always_returns_same _ _ _ (λ a r f k. search (rules, of_calls))) in
    found_there c.args.all.now c.args.path.now c.in-Ok.number (rw c.in-Ok.is at c.binary_search_by-found.ensures.bound) (rw c.in-Ok.is at by_path)

pub returns-in-Err : goal.returns-in-Err
returns-in-Err c =
    let by_path = c.binary_search_by-found.ensures.position (λ s. path_cmp (string_bytes s) c.args.path.now) (always_returns_same _ _ _ (λ a r f k. search (rules, of_calls))) in
    not_there c.args.all.now c.args.path.now c.in-Err.field-0 c.requires (rw c.in-Err.is at by_path)
