use Rattle.std.proofs.Common.{◌≡◌, ℕ, List, Some, rules, sym, subst, map}
use Rattle.std.specs.List.{slice_get}
use Rattle.ws_reach.specs.Reach.{Edge, Reaches, EdgesStayWithin}
use Rattle.ws_replica.specs.Jobs.{reached_of}
use Rattle.ws_replica.specs.Parts.{reached_paths, reached_rows}
use Rattle.ws_replica.proofs.PlannedTargets.{part_found, part_none, rows_length}
use Rattle.ws_replica.proofs.parts.numbers_from.Goals as goal

pub returns-in_default : goal.returns-in_default
returns-in_default c =
    let reached = map reached_of c.args.reached.now in
    part_none (reached_paths reached) (reached_rows reached) c.args.path.now c.new.result.items c.in_default.ensures c.new.ensures.items

pub walk-requires-clause-start : goal.walk-requires-clause-start
walk-requires-clause-start c =
    let reached = map reached_of c.args.reached.now in
    let at : slice_get (reached_paths reached) c.in-Some.start ≡ Some c.args.path.now = search rules in
    rows_length reached c.args.rows.now c.in-Some.start c.args.path.now c.requires.rows at

pub walk-requires-clause-within : goal.walk-requires-clause-within
walk-requires-clause-within c = subst EdgesStayWithin (sym c.requires.rows) c.requires.order.within

pub returns : goal.returns
returns c =
    let reached = map reached_of c.args.reached.now in
    let at : slice_get (reached_paths reached) c.in-Some.start ≡ Some c.args.path.now = search rules in
    part_found (reached_paths reached) (reached_rows reached) c.args.path.now c.in-Some.start c.ascending.result.items c.requires.order.ascending at c.ascending.ensures.ascending
    (λ k. (
      λ h. subst (λ (rows : List (List ℕ)). Reaches (Edge rows) c.in-Some.start k) c.requires.rows ((c.in_ok-numbers.ensures k).0 ((c.ascending.ensures.same k).0 h)),
      λ h. (c.ascending.ensures.same k).1 ((c.in_ok-numbers.ensures k).1 (subst (λ (rows : List (List ℕ)). Reaches (Edge rows) c.in-Some.start k) (sym c.requires.rows) h)),
    ))
