use Rattle.std.proofs.Common.{rules, ◌≡◌, ◌+◌, List, ℕ, [], map, take, get_or, sym, ap, subst, ◌∙◌}
use Rattle.std.proofs.lemmas.List.{map_more}
use Rattle.go_link.specs.Links.{LinkedVariable}
use Rattle.go_link.specs.Named.{Firsts, SymbolParts, cell_count, held_at}
use Rattle.go_link.proofs.Firsts.{cells_more}
use Rattle.go_link.proofs.places.firsts_of.Goals as goal

pub loop-variable-preserved : goal.loop-variable-preserved
loop-variable-preserved c =
    let none : SymbolParts = (record { ref_ptr = (0, 0); now = [] }, record { ref_ptr = (0, 0); now = [] }) in
    let before : List LinkedVariable = map held_at (take c.loop-variable.variable-index c.args.variables.now) in
    let count : ℕ = (get_or c.args.variables.now c.loop-variable.variable-index (none, 0)).1 in
    let grown = map_more held_at c.args.variables.now c.loop-variable.variable-index (none, 0) c.loop-variable-test.true in
    let more : c.in_ok-cells.cells ≡ c.loop-variable.cells + count = search rules in (
      subst (Firsts c.add_place.new.firsts) (sym grown) (c.in_ok-add_place.ensures before count c.loop-variable.invariant.1 c.loop-variable.invariant.0),
      more ∙ ap (λ n. n + count) c.loop-variable.invariant.1 ∙ sym (cells_more before _) ∙ ap cell_count (sym grown),
    )
