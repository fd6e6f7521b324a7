use Rattle.std.proofs.Common.{ℕ, get_or, ap, ◌∙◌, ◌++◌, ◌∷◌, []}
use Rattle.std.specs.Global.{Vec}
use Rattle.std.proofs.lemmas.Option.{slice_get-get_or}
use Rattle.ws_reach.specs.Reach.{rows_of}
use Rattle.ws_reach.proofs.Turned.{added_from, added_to, rows-get, rows-set}
use Rattle.go_init.proofs.condensation.add_edge.Goals as goal

pub returns-clause-edges : goal.returns-clause-edges
returns-clause-edges c =
    let rows = c.args.rows.now.items in
    let from = c.args.from in
    let to = c.args.to in
    let its : Vec ℕ = get_or rows from c.index_mut.result.now in
    let more : Vec ℕ = c.push.new.self in
    let at = rows-get rows from its (slice_get-get_or rows from c.index_mut.result.now c.requires) in
    let is = rows-set rows from more in
    let pushed = c.in_ok-push.ensures.items ∙ ap (λ (v : Vec ℕ). v.items ++ to ∷ []) c.index_mut.ensures.value in
    λ p q. (added_from (rows_of rows) _ from to its.items more.items at is pushed p q, added_to (rows_of rows) _ from to its.items more.items at is pushed p q)
