use Rattle.std.proofs.Common.{◌≡◌, ◌<◌, ◌++◌, length, sym, ap, subst, ◌∙◌, arith}
use Rattle.std.specs.Arc.{arc_value}
use Rattle.ws_register.specs.Listed.{writes_of, all_writes, all_with}
use Rattle.ws_register.specs.Nodes.{writes_below, all_nodes}
use Rattle.ws_register.proofs.Edited.{part_split}
use Rattle.ws_register.proofs.Parts.{parts-append}
use Rattle.ws_register.proofs.grow.split.Goals as goal

pub returns : goal.returns
returns c =
    let nodes = c.args.nodes.now.items in
    let pages = c.pages_at-pages.result.now in
    let low = c.in_ok-low.low in
    let high = c.in_ok-high.high in
    let front = c.split_at.result.0.now in
    let back = c.split_at.result.1.now in
    let within : c.args.at < length nodes = subst (λ l. c.args.at < length l) c.deref.ensures.value (c.pages_at-pages.ensures.some (omega (arith, c.if-pages-lt-FULL.false))) in
    let whole : writes_below (arc_value low) ++ writes_below (arc_value high) ≡ all_writes pages =
    ap (λ l. l ++ writes_below (arc_value high)) c.in_ok-low.ensures ∙ ap (λ l. all_writes front ++ l) c.in_ok-high.ensures
    ∙ sym (parts-append writes_of front back) ∙ ap all_writes (sym c.split_at.ensures.by_index.0) in
    part_split writes_below nodes c.insert.new.self.items c.args.at low high (all_writes pages) within c.in_ok-insert.ensures.items whole
    ∙ sym (subst (λ l. all_nodes l ≡ all_with writes_below l c.args.at (all_writes pages)) c.deref.ensures.value c.pages_at-pages.ensures.node)
