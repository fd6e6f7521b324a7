use Rattle.std.proofs.Common.{◌≡◌, Some, List, ℕ, rules, of_calls, sym, subst}
use Rattle.std.specs.List.{Contains, slice_get}
use Rattle.std.specs.List.Sorted.{IsStrictlySortedBy}
use Rattle.std.proofs.lemmas.Fn.{always_returns_same}
use Rattle.ws_version.specs.Writes.{path_cmp}
use Rattle.ws_replica.proofs.Searched.{path_in, paths_in, found_there, not_there}
use Rattle.ws_replica.proofs.parts.number_of.Goals as goal

pub returns-in-Ok : goal.returns-in-Ok
returns-in-Ok c =
    let by_path = c.binary_search_by-found.ensures.position (λ s. path_cmp (path_in s) c.args.path.now) (always_returns_same _ _ _ (λ a r f k. search (rules, of_calls))) in
    subst (λ (ps : List (List ℕ)). slice_get ps c.in-Ok.number ≡ Some c.args.path.now) (sym (paths_in c.args.reached.now))
    (found_there c.args.reached.now c.args.path.now c.in-Ok.number (rw c.in-Ok.is at c.binary_search_by-found.ensures.bound) (rw c.in-Ok.is at by_path))

pub returns-in-Err : goal.returns-in-Err
returns-in-Err c =
    let by_path = c.binary_search_by-found.ensures.position (λ s. path_cmp (path_in s) c.args.path.now) (always_returns_same _ _ _ (λ a r f k. search (rules, of_calls))) in
    λ among. not_there c.args.reached.now c.args.path.now c.in-Err.field-0 (subst (IsStrictlySortedBy path_cmp) (paths_in c.args.reached.now) c.requires) (rw c.in-Err.is at by_path)
    (subst (λ (ps : List (List ℕ)). Contains ps c.args.path.now) (paths_in c.args.reached.now) among)
