use Rattle.std.proofs.Common.{map, ap, ◌∙◌}
use Rattle.std.proofs.lemmas.List.Filters.{dedup_is}
use Rattle.ws_action.proofs.ImportPaths.{paths_sorted}
use Rattle.ws_action.proofs.import.import_paths.Goals as goal

pub returns : goal.returns
returns c =
    let sorted = c.sort_unstable.new.self.items in
    let kept = dedup_is _ sorted c.dedup.new.self.items c.dedup.ensures.filtered in
    let shown = c.in_ok-copies.ensures ∙ ap (map (λ p. p.now)) c.deref.ensures.value in
    paths_sorted (λ p. p.now) c.args.files.now c.in_ok-paths.paths.items sorted c.dedup.new.self.items _ c.in_ok-paths.ensures c.sort_unstable.ensures.permutation c.sort_unstable.ensures.sorted kept shown
