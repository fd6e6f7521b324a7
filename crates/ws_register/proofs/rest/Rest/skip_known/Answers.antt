use Rattle.std.proofs.Common.{arith, ◌≡◌, ◌++◌, sym, subst}
use Rattle.std.specs.Arc.{arc_value}
use Rattle.std.proofs.lemmas.Grind.{common_steps}
use Rattle.ws_register.specs.Listed.{writes_of}
use Rattle.ws_register.specs.Pages.{values, Ascends, joined_writes}
use Rattle.ws_register.proofs.Walks.{front-ascends, still-ascends, first_page, empty_values, skip-known}
use Rattle.ws_register.proofs.rest.Rest.skip_known.Goals as goal

pub is_known-requires-clause-page : goal.is_known-requires-clause-page
is_known-requires-clause-page c =
    let page = writes_of (arc_value c.in-Some.page.now) in
    let left = values c.self.inside.writes.now ++ c.in-Some.pages in
    let cut : c.args.self.now ≡ page ++ left =
    first_page c.args.self.now c.self.inside.writes.now c.self.inside.pages page c.in-Some.pages
    (empty_values c.self.inside.writes.now c.is_empty.result c.is_empty.ensures c.if-not-is_empty.false) c.in-Some.ensures c.self.view_is in
    subst (λ p. Ascends (writes_of p)) (sym c.deref.ensures) (front-ascends c.args.self.now page left cut c.requires.ascends)

pub is_known-requires-clause-other : goal.is_known-requires-clause-other
is_known-requires-clause-other c =
    let other = writes_of (arc_value c.in-Some-first.other.now) in
    let behind = c.in-Some-first.ensures.0 in
    let rest = values c.others.inside.writes.now ++ behind in
    let cut : c.args.others.now ≡ other ++ rest =
    first_page c.args.others.now c.others.inside.writes.now c.others.inside.pages other behind
    (empty_values c.others.inside.writes.now c.is_empty-else-not-is_empty.result c.is_empty-else-not-is_empty.ensures c.if-not-is_empty-2.false)
    c.in-Some-first.ensures.1 c.others.view_is in
    subst (λ p. Ascends (writes_of p)) (sym c.deref-2.ensures) (front-ascends c.args.others.now other rest cut c.requires.others)

pub returns-clause-joined : goal.returns-clause-joined
returns-clause-joined c =
    let page = writes_of (arc_value c.in-Some.page.now) in
    let left = values c.self.inside.writes.now ++ c.in-Some.pages in
    let cut : c.args.self.now ≡ page ++ left =
    first_page c.args.self.now c.self.inside.writes.now c.self.inside.pages page c.in-Some.pages
    (empty_values c.self.inside.writes.now c.is_empty.result c.is_empty.ensures c.if-not-is_empty.false) c.in-Some.ensures c.self.view_is in
    let other = writes_of (arc_value c.in-Some-first.other.now) in
    let behind = c.in-Some-first.ensures.0 in
    let rest = values c.others.inside.writes.now ++ behind in
    let others_cut : c.args.others.now ≡ other ++ rest =
    first_page c.args.others.now c.others.inside.writes.now c.others.inside.pages other behind
    (empty_values c.others.inside.writes.now c.is_empty-else-not-is_empty.result c.is_empty-else-not-is_empty.ensures c.if-not-is_empty-2.false)
    c.in-Some-first.ensures.1 c.others.view_is in
    let known : joined_writes other page ≡ other =
    subst (λ p. joined_writes (writes_of p) page ≡ writes_of p) c.deref-2.ensures
    (subst (λ p. joined_writes (writes_of c.deref-2.result.now) (writes_of p) ≡ writes_of c.deref-2.result.now) c.deref.ensures
    (c.is_known.ensures c.if-not-is_known.false)) in
    skip-known c.args.others.now c.args.self.now other page left rest known others_cut cut c.requires.others c.requires.ascends

pub returns-clause-ascends : goal.returns-clause-ascends
returns-clause-ascends c =
    let page = writes_of (arc_value c.in-Some.page.now) in
    let left = values c.self.inside.writes.now ++ c.in-Some.pages in
    let cut : c.args.self.now ≡ page ++ left =
    first_page c.args.self.now c.self.inside.writes.now c.self.inside.pages page c.in-Some.pages
    (empty_values c.self.inside.writes.now c.is_empty.result c.is_empty.ensures c.if-not-is_empty.false) c.in-Some.ensures c.self.view_is in
    still-ascends c.args.self.now page left cut c.requires.ascends

pub returns-then-not-is_empty-clause-joined : goal.returns-then-not-is_empty-clause-joined
returns-then-not-is_empty-clause-joined c = grind (arith, common_steps)

pub returns-then-not-is_empty-clause-ascends : goal.returns-then-not-is_empty-clause-ascends
returns-then-not-is_empty-clause-ascends c = grind (arith, common_steps)

pub returns-then-not-is_empty-clause-skipped : goal.returns-then-not-is_empty-clause-skipped
returns-then-not-is_empty-clause-skipped c = grind (arith, common_steps)

pub returns-then-not-is_empty-clause-same : goal.returns-then-not-is_empty-clause-same
returns-then-not-is_empty-clause-same c = grind (arith, common_steps)

pub returns-in_default-clause-joined : goal.returns-in_default-clause-joined
returns-in_default-clause-joined c = grind (arith, common_steps)

pub returns-in_default-clause-ascends : goal.returns-in_default-clause-ascends
returns-in_default-clause-ascends c = grind (arith, common_steps)

pub returns-in_default-clause-skipped : goal.returns-in_default-clause-skipped
returns-in_default-clause-skipped c = grind (arith, common_steps)

pub returns-in_default-clause-same : goal.returns-in_default-clause-same
returns-in_default-clause-same c = grind (arith, common_steps)

pub returns-in_default-first-clause-joined : goal.returns-in_default-first-clause-joined
returns-in_default-first-clause-joined c = grind (arith, common_steps)

pub returns-in_default-first-clause-ascends : goal.returns-in_default-first-clause-ascends
returns-in_default-first-clause-ascends c = grind (arith, common_steps)

pub returns-in_default-first-clause-skipped : goal.returns-in_default-first-clause-skipped
returns-in_default-first-clause-skipped c = grind (arith, common_steps)

pub returns-in_default-first-clause-same : goal.returns-in_default-first-clause-same
returns-in_default-first-clause-same c = grind (arith, common_steps)

pub returns-then-not-is_known-clause-joined : goal.returns-then-not-is_known-clause-joined
returns-then-not-is_known-clause-joined c = grind (arith, common_steps)

pub returns-then-not-is_known-clause-ascends : goal.returns-then-not-is_known-clause-ascends
returns-then-not-is_known-clause-ascends c = grind (arith, common_steps)

pub returns-then-not-is_known-clause-skipped : goal.returns-then-not-is_known-clause-skipped
returns-then-not-is_known-clause-skipped c = grind (arith, common_steps)

pub returns-then-not-is_known-clause-same : goal.returns-then-not-is_known-clause-same
returns-then-not-is_known-clause-same c = grind (arith, common_steps)

pub returns-clause-skipped : goal.returns-clause-skipped
returns-clause-skipped c = grind (arith, common_steps)

pub returns-clause-same : goal.returns-clause-same
returns-clause-same c = grind (arith, common_steps)
