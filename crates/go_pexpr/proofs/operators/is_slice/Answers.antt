use Rattle.std.proofs.Common.{refl, sym, ap, ◌∙◌}
use Rattle.go_ast.specs.Views.{type_of}
use Rattle.go_ast.proofs.Rows.{slice_seen}
use Rattle.go_pexpr.specs.Next.{is_slice_type}
use Rattle.go_pexpr.proofs.Built.{no_slice}
use Rattle.go_pexpr.proofs.operators.is_slice.Goals as goal

pub returns-in-Slice : goal.returns-in-Slice
returns-in-Slice c =
    let p = c.args.a.now.place in
    sym (ap (λ k. is_slice_type (type_of (record { place = p; kind = k }))) c.in-Slice.is ∙ ap is_slice_type (slice_seen p c.in-Slice.field-0 c.in-Slice.field-0.value refl))

pub returns-in_default : goal.returns-in_default
returns-in_default c = sym (no_slice c.args.a.now c.in_default.not-Slice)
