use Rattle.std.proofs.Common.{◌≡◌, ◌+◌, ◌-◌, ◌*◌, ◌≤◌, ◌++◌, List, length, map, take, drop, sym, ap, ◌∙◌, arith}
use Rattle.std.specs.Global.{Vec}
use Rattle.std.specs.List.{repeat}
use Rattle.std.proofs.lemmas.Result.{IfOk-weaker}
use Rattle.go_code.specs.declared.cell.Cell.{Cell}
use Rattle.go_code.specs.Operators.{Gives}
use Rattle.go_code.specs.Rows.{grown, row_of, zero_like}
use Rattle.go_vm.specs.Open.{topmost}
use Rattle.go_vm.specs.Flows.{machine_rows, state_of, with_new_row}
use Rattle.go_vm.proofs.Slices.{more_moved}
use Rattle.go_vm.proofs.on_rows.append_outside.Goals as goal

pub returns : goal.returns
returns c =
    let o = c.args.frames.now in
    let w = c.args.world.now in
    let s = c.args.slice in
    let size = c.args.size in
    let whole = c.args.whole in
    let room = c.in-Some-grown.room in
    let row : List Cell = row_of (machine_rows w.rows.items) s.row in
    let top : List Cell = topmost whole o.newest.stack in
    let at : c.row_at-row.result.now ≡ row = c.row_at-row.ensures ∙ ap (λ (rows : List (Vec Cell)). row_of (machine_rows rows) s.row) c.as_slice.ensures.value in
    let first : c.in-Some-cells_of.first ≡ s.start * size = omega (arith, c.in-Some-cells_of.ensures) in
    let cells : c.in-Some-cells_of-2.cells ≡ s.length * size = omega (arith, c.in-Some-cells_of-2.ensures) in
    let there : s.start * size + s.length * size ≤ length row = omega (arith, first, cells, c.in-Some-end_in.ensures, ap length at) in
    let long : c.in-Some.length ≡ s.length + c.args.count = omega (arith, c.in-Some.ensures) in
    let grows : grown size (s.length + c.args.count) s.capacity ≡ Gives room = ap (λ n. grown size n s.capacity) (sym long) ∙ c.in-Some-grown.ensures.room in
    let part : c.in-Some-end_in.end - c.in-Some-cells_of.first ≡ s.length * size = omega (arith, cells, c.in-Some-end_in.ensures) in
    let old : take (c.in-Some-end_in.end - c.in-Some-cells_of.first) (drop c.in-Some-cells_of.first c.row_at-row.result.now) ≡ take (s.length * size) (drop (s.start * size) row) =
    ap (λ n. take n (drop c.in-Some-cells_of.first c.row_at-row.result.now)) part
    ∙ ap (λ n. take (s.length * size) (drop n c.row_at-row.result.now)) first
    ∙ ap (λ l. take (s.length * size) (drop (s.start * size) l)) at in
    let new : c.in_ok-row.row.items ≡ take (s.length * size) (drop (s.start * size) row) ++ top ++ repeat (room - (s.length + c.args.count)) (map zero_like (take size top)) =
    c.in_ok-row.ensures
    ∙ ap (λ l. l ++ c.top_cells-new.result.now ++ repeat (room - c.in-Some.length) (map zero_like (take size c.top_cells-new.result.now))) old
    ∙ ap (λ l. take (s.length * size) (drop (s.start * size) row) ++ l ++ repeat (room - c.in-Some.length) (map zero_like (take size l))) c.top_cells-new.ensures
    ∙ ap (λ n. take (s.length * size) (drop (s.start * size) row) ++ top ++ repeat (room - n) (map zero_like (take size top))) long in
    IfOk-weaker c.open_row.result _ _
    (λ flow h starts.
    more_moved o w starts s size c.args.count whole c.requires.cells (omega arith) room c.in_ok-row.row.items c.requires.room grows there new
    ∙ ap (λ n. with_new_row (whole + 1) c.in_ok-row.row.items n room (state_of o starts w) o.newest o.callers) (sym long)
    ∙ h starts) c.open_row.ensures
