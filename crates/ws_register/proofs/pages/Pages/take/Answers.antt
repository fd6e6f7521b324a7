use Rattle.std.proofs.Common.{refl}
use Rattle.ws_map.proofs.Gathered.{taken_news, taken_old}
use Rattle.ws_version.specs.Writes.{held_cmp}
use Rattle.ws_version.proofs.Writes.{path_cmp_total, path_cmp-IsAntisymmetric}
use Rattle.ws_register.proofs.Walks.{ok_then}
use Rattle.ws_register.proofs.pages.Pages.take.Goals as goal

pub returns-then-not-is_news-clause-ok : goal.returns-then-not-is_news-clause-ok
returns-then-not-is_news-clause-ok c =
    let path = c.args.write.0 in
    let held = c.args.write.1 in
    taken_old path_cmp_total path_cmp-IsAntisymmetric held_cmp c.args.self.now path path held held c.is_news.result
    refl refl c.is_news.ensures c.if-not-is_news.true

pub returns-clause-ok : goal.returns-clause-ok
returns-clause-ok c =
    let path = c.args.write.0 in
    let held = c.args.write.1 in
    ok_then c.put.result (λ put.
    taken_news path_cmp_total path_cmp-IsAntisymmetric held_cmp c.args.self.now c.put.new.self path path path held held held c.is_news.result
    refl refl refl refl c.is_news.ensures c.if-not-is_news.false put)
    c.put.ensures.ok
