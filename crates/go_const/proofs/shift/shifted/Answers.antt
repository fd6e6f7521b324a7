use Rattle.std.proofs.Common.{ap, sym, ◌∙◌}
use Rattle.std.specs.Int.{w128}
use Rattle.std.proofs.lemmas.Int.{to_z-of_z}
use Rattle.go_const.specs.Constants.{represent, shifted}
use Rattle.go_const.proofs.Shifts.{right_end}
use Rattle.go_const.proofs.shift.shifted.Goals as goal

pub returns-in-Right : goal.returns-in-Right
returns-in-Right c =
    c.represent.ensures ∙ ap (represent c.args.kind) (right_end c.args.z _ c.args.count c.min.result (to_z-of_z w128 c.args.z c.ranges.z) c.ranges.z c.min.ensures)
    ∙ ap (λ o. shifted o c.args.kind c.args.z c.args.count) (sym c.in-Right.is)
