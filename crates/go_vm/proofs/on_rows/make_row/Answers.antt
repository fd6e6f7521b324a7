use Rattle.std.proofs.Common.{◌≡◌, ◌+◌, ◌++◌, [], ◌∷◌, take, drop, get_or, sym, ap, ◌∙◌}
use Rattle.std.specs.List.{repeat}
use Rattle.std.proofs.lemmas.Result.{IfOk-weaker}
use Rattle.go_code.specs.declared.cell.Cell.{Cell}
use Rattle.go_code.specs.Machine.{rowed}
use Rattle.go_code.specs.Operators.{Gives}
use Rattle.go_code.specs.Rows.{new_row}
use Rattle.go_vm.specs.Open.{below_top, topmost}
use Rattle.go_vm.specs.Flows.{machine_rows, state_of}
use Rattle.go_vm.proofs.Slices.{two_last, make_asked}
use Rattle.go_vm.proofs.on_rows.make_row.Goals as goal

pub returns-in_ok-push_times-in-Given : goal.returns-in_ok-push_times-in-Given
returns-in_ok-push_times-in-Given c =
    let o = c.args.frames.now in
    let w = c.args.world.now in
    let n = c.args.size in
    let a : Cell = c.index-cells-size.result in
    let b : Cell = c.index-cells-size-2.result in
    let le = c.in-Some.ensures.0 in
    let two : drop n (topmost (n + 2) o.newest.stack) ≡ a ∷ b ∷ [] =
    two_last o.newest.stack n a b le (c.index-cells-size.is ∙ ap (λ l. get_or l n a) c.in-Some.ensures.1) (c.index-cells-size-2.is ∙ ap (λ l. get_or l (n + 1) b) c.in-Some.ensures.1) in
    let times = c.in-Given.capacity in
    let row : c.push_times.new.row.items ≡ repeat times (take n (topmost (n + 2) o.newest.stack)) =
    c.in_ok-push_times-in-Given.ensures
    ∙ ap (λ l. l ++ repeat times (take n c.in-Some.cells.now)) c.new-row.ensures.items
    ∙ ap (λ l. repeat times (take n l)) c.in-Some.ensures.1 in
    IfOk-weaker c.open_row.result _ _
    (λ flow h starts.
    make_asked o w starts n a b (Gives (c.in-Given.length, times)) le two c.in-Given.ensures
    ∙ ap (λ l. rowed (state_of o starts w) o.newest o.callers (below_top (n + 2) o.newest.stack) (new_row (machine_rows w.rows.items) l c.in-Given.length times)) (sym row)
    ∙ h starts) c.open_row.ensures
