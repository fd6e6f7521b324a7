use Rattle.std.proofs.Common.{◌++◌, ◌∷◌, [], map, take, sym, ap, ◌∙◌, arith}
use Rattle.std.proofs.lemmas.List.{map_more}
use Rattle.go_code.specs.declared.cell.Cell.{Cell}
use Rattle.go_code.specs.Rows.{zero_like}
use Rattle.go_vm.proofs.on_rows.zeros_like.Goals as goal

pub loop-cell-preserved : goal.loop-cell-preserved
loop-cell-preserved c =
    let x : Cell = c.cell-item.result in
    c.in_ok-push.ensures.items
    ∙ ap (λ l. l ++ c.in_ok-zero_like.field-0 ∷ []) c.loop-cell.invariant
    ∙ ap (λ (y : Cell). map zero_like (take c.loop-cell.cell-index c.args.cells.now) ++ y ∷ []) c.in_ok-zero_like.ensures
    ∙ ap (λ (y : Cell). map zero_like (take c.loop-cell.cell-index c.args.cells.now) ++ zero_like y ∷ []) c.cell-item.is
    ∙ sym (map_more zero_like c.args.cells.now c.loop-cell.cell-index x (omega (arith, c.loop-cell-test.true, c.loop-cell.auto.cell-index-end)))
