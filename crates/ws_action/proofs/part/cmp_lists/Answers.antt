use Rattle.std.proofs.Common.{rules, ◌≡◌, List, map, ap, ◌∙◌}
use Rattle.std.specs.Arc.{arc_value}
use Rattle.std.specs.declared.cmp.Ordering.{Ordering}
use Rattle.std.specs.declared.cmp.Ordering.TheVariants.{Equal}
use Rattle.std.specs.Ordering.{ordering_then}
use Rattle.std.specs.Cmp.Lexicographic.{slice_cmp}
use Rattle.ws_action.specs.Actions.{Named, import_cmp, named_summary}
use Rattle.ws_action.proofs.Imports.{named_imports}
use Rattle.ws_action.proofs.part.cmp_lists.Goals as goal

-- where the first are tied, the second decide
tied : (first second r : Ordering) → Equal ≡ first → r ≡ second → r ≡ ordering_then first second
tied first second r e f = f ∙ ap (λ o. ordering_then o second) e

pub returns-in-Equal : goal.returns-in-Equal
returns-in-Equal g c =
    let own = c.args.imports.now in
    let others = c.args.other_imports.now in
    let files : Equal ≡ slice_cmp g.P.Part.order (map g.P.Part.named c.args.files.now) (map g.P.Part.named c.args.other_files.now) = search rules in
    let inside : c.cmp_parts-in-Equal.result ≡ slice_cmp import_cmp (map (λ s. named_summary (arc_value s)) own) (map (λ s. named_summary (arc_value s)) others) = search rules in
    tied _ (slice_cmp import_cmp (map named_summary (map arc_value own)) (map named_summary (map arc_value others))) c.cmp_parts-in-Equal.result files
    (inside ∙ ap (λ (ns : List Named). slice_cmp import_cmp ns (map (λ s. named_summary (arc_value s)) others)) (named_imports own)
    ∙ ap (λ (ns : List Named). slice_cmp import_cmp (map named_summary (map arc_value own)) ns) (named_imports others))
