use Rattle.std.proofs.Common.{FitsSigned, rules, ap, ◌∙◌, subst}
use Rattle.std.specs.Int.{w128, int_rem_euclid, int_wrapping_add}
use Rattle.std.proofs.lemmas.Int.{to_z-of_z, wrapping_add_is}
use Rattle.std.specs.Prelude.{unsigned_abs, ◌<◌}
use Rattle.go_code.specs.Lines.{number_fits}
use Rattle.go_cells.proofs.Wraps.{wrap_end, wrapped_known}
use Rattle.go_cells.proofs.number.wrap.Goals as goal

pub returns-clause-value : goal.returns-clause-value
returns-clause-value c =
    let r = c.rem_euclid.result in
    let s = c.negatives-negatives.result in
    let n = c.numbers.result in
    let f : FitsSigned w128 r = search rules in
    let g : FitsSigned w128 s = search rules in
    let h : FitsSigned w128 n = search rules in
    let all = to_z-of_z w128 n h in
    wrap_end c.args.kind c.args.number r s (int_wrapping_add w128 c.args.number s) n f g c.negatives-negatives.ensures
    (wrapping_add_is w128 c.args.number s c.ranges.number g) c.numbers.ensures
    (c.rem_euclid.ensures.value ∙ ap (λ m. int_rem_euclid (int_wrapping_add w128 c.args.number s) m) all)
    (subst (λ m. unsigned_abs r < unsigned_abs m) all c.rem_euclid.ensures.upper_bound)

pub returns-clause-known : goal.returns-clause-known
returns-clause-known c = ap number_fits (returns-clause-value c) ∙ wrapped_known c.args.kind c.args.number
