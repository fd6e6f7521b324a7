use Rattle.ws_graph.specs.Discovery.{AreNumbersOf}
use Rattle.ws_graph.proofs.Places.{zip_next}
use Rattle.ws_graph.proofs.link.all_numbers.Goals as goal

pub loop-some-preserved : goal.loop-some-preserved
loop-some-preserved c =
    zip_next AreNumbersOf c.args.targets.now c.loop-some.some-index c.some-item.result c.loop-some.rows.items c.push.new.self.items c.in_ok-numbers_of.field-0 c.some-item.is c.loop-some-test.true c.in_ok-push.ensures.items c.loop-some.invariant
    (record { ascending = c.in_ok-numbers_of.ensures.ascending; are = rw c.as_slice.ensures.value at c.in_ok-numbers_of.ensures.all })
