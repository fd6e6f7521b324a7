use Rattle.std.proofs.Common.{◌≡◌, ℕ, length, List, Some, sym, ap, ◌∙◌, subst, arith}
use Rattle.std.specs.Global.{Vec}
use Rattle.std.specs.List.{slice_get, Contains}
use Rattle.std.proofs.lemmas.Bool.{ltb-true, ltb-false}
use Rattle.std.proofs.lemmas.Option.{slice_get-get_or, slice_get_within}
use Rattle.ws_reach.specs.Reach.{rows_of}
use Rattle.ws_reach.proofs.Rows.{edge_of, length-rows}
use Rattle.ws_reach.proofs.Turned.{rows-get}
use Rattle.go_package.proofs.facts.has_edges.Goals as goal

pub returns-in-Some : goal.returns-in-Some
returns-in-Some c =
    let rows = c.args.rows.now in
    let node = c.args.node in
    let row : Vec ℕ = c.in-Some.row.now in
    let lt = ltb-true node (length rows) (sym c.in-Some.ensures.lookup.0) in
    let at : slice_get rows node ≡ Some row = slice_get-get_or rows node row lt ∙ ap Some (sym ((c.in-Some.ensures.lookup).1)) in
    let edge = rows-get rows node row at in (
      λ t. (let h = c.has_some.ensures.0 t in (h.0, (row.items, edge, subst (λ (l : List ℕ). Contains l h.0) c.as_slice.ensures.value h.1))),
      λ h. c.has_some.ensures.1 (h.0, subst (λ (l : List ℕ). Contains l h.0) (sym c.as_slice.ensures.value) (edge_of (rows_of rows) node row.items edge h.0 h.1)),
    )

pub returns-in-None : goal.returns-in-None
returns-in-None c = (
  λ t. (cc (t)),
  λ h. (
      let inside = slice_get_within (rows_of c.args.rows.now) c.args.node (h.1).0 (h.1).1 in
      let past = ltb-false c.args.node (length c.args.rows.now) (sym c.in-None.ensures.lookup.0) in
      absurd (omega (arith, inside, past, length-rows c.args.rows.now))),
)
