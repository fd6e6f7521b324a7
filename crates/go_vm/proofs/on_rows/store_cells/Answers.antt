use Rattle.std.proofs.Common.{◌+◌, ◌≤◌, ◌<◌, length, refl, ap, arith}
use Rattle.go_flat.proofs.OfSlices.{row_there}
use Rattle.go_vm.proofs.Slices.{put_there}
use Rattle.go_vm.proofs.on_rows.store_cells.Goals as goal

pub store_into-requires-clause-cells : goal.store_into-requires-clause-cells
store_into-requires-clause-cells c =
    let less : c.args.number < length c.args.world.now.rows.items = omega arith in
    omega (arith, ap length (row_there c.args.world.now.rows.items c.args.number c.index_mut.result.now less c.index_mut.ensures.value), c.requires.room)

pub returns : goal.returns
returns c =
    let w = c.args.world.now in
    let less : c.args.number < length w.rows.items = omega arith in
    let there : c.args.first + c.args.count ≤ length c.index_mut.result.now.items =
    omega (arith, ap length (row_there w.rows.items c.args.number c.index_mut.result.now less c.index_mut.ensures.value), c.requires.room) in
    put_there c.args.frames.now c.store_into.new.self w _ c.args.number c.args.first c.args.count c.index_mut.result.now c.store_into.new.cells less c.index_mut.ensures.value there c.store_into.ensures.stored refl c.store_into.ensures.dropped
