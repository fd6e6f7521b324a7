use Rattle.std.proofs.Common.{◌≡◌, ◌+◌, ◌*◌, ◌≤◌, ◌∷◌, length, get_or, sym, ap, ◌∙◌, arith}
use Rattle.std.proofs.lemmas.Result.{IfOk-weaker}
use Rattle.go_cells.specs.Slots.{slice_cell}
use Rattle.go_code.specs.declared.cell.Cell.{Cell}
use Rattle.go_vm.specs.Open.{topmost}
use Rattle.go_vm.specs.Flows.{state_of, with_more}
use Rattle.go_vm.proofs.Slices.{top_first, more_is, slice_is}
use Rattle.go_vm.proofs.on_rows.append_elements.Goals as goal

pub returns-then-count-room : goal.returns-then-count-room
returns-then-count-room c =
    let o = c.args.frames.now in
    let w = c.args.world.now in
    let whole = c.in-Some.whole in
    let cell : Cell = c.index-cells-0.result in
    let is : whole ≡ c.args.count * c.args.size = omega (arith, c.in-Some.ensures) in
    let le : whole + 1 ≤ length o.newest.stack = omega arith in
    let top : topmost (1 + whole) o.newest.stack ≡ cell ∷ topmost whole o.newest.stack =
    top_first o.newest.stack whole cell le (c.index-cells-0.is ∙ ap (λ l. get_or l 0 cell) c.top_cells-cells.ensures) in
    let slice : cell ≡ slice_cell c.in-Some-as_slice.slice = slice_is cell c.in-Some-as_slice.slice (sym c.in-Some-as_slice.ensures.value) in
    IfOk-weaker c.append_inside.result _ _
    (λ flow h starts.
    more_is o w starts c.args.size c.args.count whole cell is le top
    ∙ ap (λ (x : Cell). with_more x c.args.size c.args.count (state_of o starts w) o.newest o.callers) slice
    ∙ h starts) c.append_inside.ensures

pub returns-else-count-room : goal.returns-else-count-room
returns-else-count-room c =
    let o = c.args.frames.now in
    let w = c.args.world.now in
    let whole = c.in-Some.whole in
    let cell : Cell = c.index-cells-0.result in
    let is : whole ≡ c.args.count * c.args.size = omega (arith, c.in-Some.ensures) in
    let le : whole + 1 ≤ length o.newest.stack = omega arith in
    let top : topmost (1 + whole) o.newest.stack ≡ cell ∷ topmost whole o.newest.stack =
    top_first o.newest.stack whole cell le (c.index-cells-0.is ∙ ap (λ l. get_or l 0 cell) c.top_cells-cells.ensures) in
    let slice : cell ≡ slice_cell c.in-Some-as_slice.slice = slice_is cell c.in-Some-as_slice.slice (sym c.in-Some-as_slice.ensures.value) in
    IfOk-weaker c.append_outside.result _ _
    (λ flow h starts.
    more_is o w starts c.args.size c.args.count whole cell is le top
    ∙ ap (λ (x : Cell). with_more x c.args.size c.args.count (state_of o starts w) o.newest o.callers) slice
    ∙ h starts) c.append_outside.ensures
