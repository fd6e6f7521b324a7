use Rattle.std.proofs.Common.{◌≡◌, ◌≤◌, ◌++◌, List, ℕ, map, length, sym, ap, ◌∙◌, subst, arith}
use Rattle.std.proofs.lemmas.List.{append-nil, drop_all}
use Rattle.ws_reach.specs.Reach.{EdgesStayWithin, rows_of}
use Rattle.go_objects.specs.Table.{needs, rows}
use Rattle.go_objects.specs.Views.{object_view}
use Rattle.go_objects.specs.Packages.{package_of}
use Rattle.go_objects.specs.declared.object.Object.{Object}
use Rattle.go_objects.proofs.Lookups.{rows_stay}
use Rattle.go_objects.proofs.package.rows.Goals as goal

pub returns-clause-within : goal.returns-clause-within
returns-clause-within c =
    let p = package_of c.args.package.now in
    let items = c.list-object-items.result.now in
    let found = rows_of c.loop-object.found.items in
    let over : length items ≤ c.loop-object.object-index = omega (arith, c.loop-object-test.false) in
    let all : found ≡ rows p =
    sym (append-nil found) ∙ ap (λ (l : List Object). found ++ map (needs p) (map object_view l)) (sym (drop_all c.loop-object.object-index items over)) ∙ c.loop-object.invariant in
    subst (λ (l : List (List ℕ)). EdgesStayWithin l) (sym all) (rows_stay p)
