use Rattle.std.proofs.Common.{◌≡◌, sym, subst, slice_index_or, ◌∙◌}
use Rattle.ws_cache.proofs.Sunk.{sunk, put_back}
use Rattle.ws_cache.proofs.levels.sink.Goals as goal

pub returns-in-Ok-clause-same : goal.returns-in-Ok-clause-same
returns-in-Ok-clause-same g c =
    let levels = c.extend.new.levels.items in
    let is = subst (λ full. full ≡ slice_index_or levels c.args.at full) (sym c.replace-full.ensures.value) c.index_mut.ensures.value in
    sunk g.met.V.Ranked.total g.met.V.Ranked.one levels c.args.at c.replace-full.result c.replace-full.new.dest c.index_mut-2.result.now c.merge.new.self
    c.in_ok-extend.ensures.long is (c.replace-full.ensures.after ∙ c.new.ensures) c.index_mut-2.ensures.value c.in-Ok.ensures.ok
    ∙ c.extend.ensures.same

pub returns-in-Err-clause-same : goal.returns-in-Err-clause-same
returns-in-Err-clause-same g c =
    let levels = c.extend.new.levels.items in
    let is = subst (λ full. full ≡ slice_index_or levels c.args.at full) (sym c.replace-full.ensures.value) c.index_mut.ensures.value in
    put_back g.met.V.Ranked.total g.met.V.Ranked.one levels c.args.at c.replace-full.result c.replace-full.new.dest c.index_mut-2.result.now c.merge.new.self
    is c.index_mut-2.ensures.value c.in-Err.ensures.err
    ∙ c.extend.ensures.same
