use Rattle.std.proofs.Common.{arith, ◌≡◌, ◌∷◌, ℕ, List, sym, ap, subst, ◌∙◌}
use Rattle.std.specs.declared.cmp.Ordering.TheVariants.{Equal, Greater}
use Rattle.ws_version.specs.Writes.{path_cmp}
use Rattle.ws_version.proofs.Writes.{path_cmp_total, path_cmp-IsAntisymmetric}
use Rattle.std.proofs.lemmas.Grind.{common_steps}
use Rattle.ws_register.specs.Pages.{AllPathsBelow}
use Rattle.ws_register.proofs.Searching.{turned_greater}
use Rattle.ws_register.proofs.Walks.{compared, take-front, take-front_of_others, still-ascends}
use Rattle.ws_register.proofs.merge.take_step.Goals as goal

pub take_below-requires-in-Greater-clause-below : goal.take_below-requires-in-Greater-clause-below
take_below-requires-in-Greater-clause-below c =
    let first = c.in-Some.first.now in
    let other = c.in-Some-first.other.now in
    let above : path_cmp first.0 other.0 ≡ Greater = compared c.path.result.now c.path-2.result.now first.0 other.0 c.cmp.result Greater c.path.ensures c.path-2.ensures c.cmp.ensures c.in-Greater.is in (
      other,
      c.in-Some-first.ensures.0,
      c.in-Some-first.ensures.1,
      (ap (path_cmp other.0) c.path-in-Greater.ensures ∙ turned_greater path_cmp_total path_cmp-IsAntisymmetric first.0 other.0 above, tt),
    )

pub take_both-requires-clause-both : goal.take_both-requires-clause-both
take_both-requires-clause-both c =
    let first = c.in-Some.first.now in
    let other = c.in-Some-first.other.now in
    let same : first.0 ≡ other.0 =
    path_cmp-IsAntisymmetric first.0 other.0 (compared c.path.result.now c.path-2.result.now first.0 other.0 c.cmp.result Equal c.path.ensures c.path-2.ensures c.cmp.ensures c.in-Equal.is) in (
      first.0,
      first.1,
      other.1,
      c.in-Some.ensures.0,
      c.in-Some-first.ensures.0,
      c.in-Some.ensures.1,
      c.in-Some-first.ensures.1 ∙ ap (λ (p : List ℕ). (p, other.1) ∷ c.in-Some-first.ensures.0) (sym same),
    )

pub returns-in_ok-take_below-in-Less-clause-joined : goal.returns-in_ok-take_below-in-Less-clause-joined
returns-in_ok-take_below-in-Less-clause-joined c =
    let taken = c.in_ok-take_below-in-Less.ensures.taken in
    take-front c.args.draft.now c.take_below.new.draft c.args.mine.now c.take_below.new.rest c.args.theirs.now taken.0 c.in-Some-first.ensures.0 c.in-Some-first.other.now
    taken.1 (subst (AllPathsBelow taken.0) c.path-in-Less.ensures taken.2) c.in-Some-first.ensures.1 taken.3 c.requires.mine c.requires.theirs

pub returns-in_ok-take_below-in-Less-clause-mine : goal.returns-in_ok-take_below-in-Less-clause-mine
returns-in_ok-take_below-in-Less-clause-mine c =
    let taken = c.in_ok-take_below-in-Less.ensures.taken in
    still-ascends c.args.mine.now taken.0 c.take_below.new.rest taken.1 c.requires.mine

pub returns-in_ok-take_below-in-Greater-clause-joined : goal.returns-in_ok-take_below-in-Greater-clause-joined
returns-in_ok-take_below-in-Greater-clause-joined c =
    let taken = c.in_ok-take_below-in-Greater.ensures.taken in
    take-front_of_others c.args.draft.now c.take_below-in-Greater.new.draft c.args.theirs.now c.take_below-in-Greater.new.rest c.args.mine.now taken.0 c.in-Some.ensures.0 c.in-Some.first.now
    taken.1 (subst (AllPathsBelow taken.0) c.path-in-Greater.ensures taken.2) c.in-Some.ensures.1 taken.3 c.requires.theirs c.requires.mine

pub returns-in_ok-take_below-in-Greater-clause-theirs : goal.returns-in_ok-take_below-in-Greater-clause-theirs
returns-in_ok-take_below-in-Greater-clause-theirs c =
    let taken = c.in_ok-take_below-in-Greater.ensures.taken in
    still-ascends c.args.theirs.now taken.0 c.take_below-in-Greater.new.rest taken.1 c.requires.theirs

pub returns-in_default-clause-joined : goal.returns-in_default-clause-joined
returns-in_default-clause-joined c = grind (arith, common_steps)

pub returns-in_default-clause-mine : goal.returns-in_default-clause-mine
returns-in_default-clause-mine c = grind (arith, common_steps)

pub returns-in_default-clause-theirs : goal.returns-in_default-clause-theirs
returns-in_default-clause-theirs c = grind (arith, common_steps)

pub returns-in_default-clause-more : goal.returns-in_default-clause-more
returns-in_default-clause-more c = grind (arith, common_steps)

pub returns-in_default-clause-done : goal.returns-in_default-clause-done
returns-in_default-clause-done c = grind (arith, common_steps)

pub returns-in_default-first-clause-joined : goal.returns-in_default-first-clause-joined
returns-in_default-first-clause-joined c = grind (arith, common_steps)

pub returns-in_default-first-clause-mine : goal.returns-in_default-first-clause-mine
returns-in_default-first-clause-mine c = grind (arith, common_steps)

pub returns-in_default-first-clause-theirs : goal.returns-in_default-first-clause-theirs
returns-in_default-first-clause-theirs c = grind (arith, common_steps)

pub returns-in_default-first-clause-more : goal.returns-in_default-first-clause-more
returns-in_default-first-clause-more c = grind (arith, common_steps)

pub returns-in_default-first-clause-done : goal.returns-in_default-first-clause-done
returns-in_default-first-clause-done c = grind (arith, common_steps)
