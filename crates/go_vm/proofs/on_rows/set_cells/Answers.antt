use Rattle.std.proofs.Common.{◌≡◌, ◌+◌, [], ◌∷◌, drop, get_or, sym, ap, ◌∙◌}
use Rattle.go_code.specs.declared.cell.Cell.{Cell}
use Rattle.go_vm.specs.Open.{topmost}
use Rattle.go_vm.proofs.Slices.{two_last, set_done}
use Rattle.go_vm.proofs.on_rows.set_cells.Goals as goal

pub returns-then-put_cells : goal.returns-then-put_cells
returns-then-put_cells c = λ starts.
    let o = c.args.frames.now in
    let n = c.args.count in
    let a : Cell = c.index-cells-count.result in
    let b : Cell = c.index-cells-count-2.result in
    let le = c.in-Some.ensures.0 in
    let two : drop n (topmost (n + 2) o.newest.stack) ≡ a ∷ b ∷ [] =
    two_last o.newest.stack n a b le (c.index-cells-count.is ∙ ap (λ l. get_or l n a) c.in-Some.ensures.1) (c.index-cells-count-2.is ∙ ap (λ l. get_or l (n + 1) b) c.in-Some.ensures.1) in
    set_done o c.args.world.now starts n a b le two c.in-Some-place_in.number c.in-Some-place_in.first c.drop_top.new.self c.put_cells.new.frames c.put_cells.new.world
    (sym c.in-Some-place_in.ensures) c.drop_top.ensures (c.put_cells.ensures.put c.if-put_cells.true)
