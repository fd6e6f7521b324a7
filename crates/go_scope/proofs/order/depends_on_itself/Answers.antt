use Rattle.std.proofs.Common.{◌≡◌, ℕ, List, true, false, get_or, sym, ap, ◌∙◌, subst, inl, inr, refl, arith}
use Rattle.std.specs.List.{Contains}
use Rattle.std.proofs.lemmas.Bool.{cases_eq}
use Rattle.std.proofs.lemmas.List.Elements.{Contains-get_or}
use Rattle.std.proofs.lemmas.Option.{get_or_from_slice_get}
use Rattle.ws_reach.specs.Reach.{Edge, rows_of}
use Rattle.ws_reach.proofs.Reached.{contains_get}
use Rattle.go_scope.proofs.order.depends_on_itself.Goals as goal

pub returns-then-has_edge : goal.returns-then-has_edge
returns-then-has_edge c =
    let users = c.deref-user-items.result.now in
    let user = get_or users c.loop-user.user-index 0 in
    let here = subst (λ (l : List ℕ). Contains l user) c.deref-user-items.ensures.value (Contains-get_or users c.loop-user.user-index 0 c.loop-user-test.true) in
    (λ t. (user, (c.in_ok-reached.ensures user).0 here, c.has_edge.ensures.0 c.if-has_edge.true), λ d. refl)

pub loop-user-preserved : goal.loop-user-preserved
loop-user-preserved c k user lt at e = elim (cases_eq k c.loop-user.user-index) [
  | inl s ↦ (
      let users = c.deref-user-items.result.now in
      let same : get_or users c.loop-user.user-index 0 ≡ user = ap (λ n. get_or users n 0) (sym s) ∙ get_or_from_slice_get users k user 0 at in
      let t = c.has_edge.ensures.1 (subst (λ (x : ℕ). Edge (rows_of c.args.rows.now) x c.args.declaration) (sym same) e) in
      let no : true ≡ false = sym t ∙ c.if-has_edge.false in cc (no))
  | inr ne ↦ c.loop-user.invariant k user (omega (arith, lt, ne)) at e
]

pub returns : goal.returns
returns c = (
  λ t. (cc (t)),
  λ d. (
      let users = c.deref-user-items.result.now in
      let here = subst (λ (l : List ℕ). Contains l d.0) (sym c.deref-user-items.ensures.value) ((c.in_ok-reached.ensures d.0).1 d.1) in
      absurd (c.loop-user.invariant here.0 d.0 (let l = here.1 in omega (arith, l, c.loop-user-test.false)) (contains_get users d.0 here) d.2)),
)
