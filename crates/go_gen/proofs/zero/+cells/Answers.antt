use Rattle.std.proofs.Common.{◌≡◌, ◌∙◌, sym, ap}
use Rattle.go_types.specs.Sizes.{cells}
use Rattle.go_gen.proofs.Made.{none_kept}
use Rattle.go_gen.proofs.zero.+cells.Goals as goal

pub push_elements-returns-then-branch-eq0 : goal.push_elements-returns-then-branch-eq0
push_elements-returns-then-branch-eq0 t c =
    let none : cells c.args.element.now ≡ 0 =
    ap cells (sym c.element.view_is) ∙ sym c.in_ok-cells.ensures ∙ c.if-branch-eq0.true in
    none_kept c.args.found.now.items c.args.length c.args.element.now none
