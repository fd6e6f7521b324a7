use Rattle.std.proofs.Common.{◌≡◌, ◌∷◌, rules, map}
use Rattle.std.specs.Vec.Iter.{into_iter_items}
use Rattle.ws_graph.specs.Node.{directory_of}
use Rattle.ws_replica.proofs.Steps.{shared_next}
use Rattle.ws_replica.proofs.reached.all_shared.Goals as goal

pub loop-directory-preserved : goal.loop-directory-preserved
loop-directory-preserved c =
    let left : into_iter_items c.loop-directory.directory-iterator ≡ c.in-Some.directory ∷ into_iter_items c.next.new.self = search rules in
    shared_next c.loop-directory.all.items c.push.new.self.items c.in_ok-one.one c.in-Some.directory (into_iter_items c.loop-directory.directory-iterator) (into_iter_items c.next.new.self) (map directory_of c.args.directories.items) c.in_ok-push.ensures.items left c.in_ok-one.ensures c.loop-directory.invariant
