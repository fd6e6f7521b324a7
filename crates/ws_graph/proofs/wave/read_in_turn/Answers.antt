use Rattle.std.proofs.lemmas.List.{nil_from_length}
use Rattle.std.proofs.lemmas.Grind.{common_steps}
use Rattle.std.proofs.Common.{rules, ◌≡◌, ◌∷◌, [], length, arith}
use Rattle.ws_graph.proofs.InTurn.{IsReadOf, made_begun, one_made, all_made}
use Rattle.ws_graph.proofs.Reading.{are_read}
use Rattle.ws_graph.proofs.wave.read_in_turn.Goals as goal

pub loop-waiting-init : goal.loop-waiting-init
loop-waiting-init g c = made_begun (IsReadOf c.args.edition) c.args.wave.items c.into_iter-waiting-iterator.result.rest.items c.new-all.result.items c.into_iter-waiting-iterator.ensures.into_iter_gives.0 c.new-all.ensures.items

pub loop-waiting-preserved : goal.loop-waiting-preserved
loop-waiting-preserved g c =
    let left = c.loop-waiting.waiting-iterator.rest.items in
    let next : left ≡ c.in-Some.waiting ∷ c.next.new.self.rest.items = search rules in
    one_made (IsReadOf c.args.edition) c.args.wave.items left c.next.new.self.rest.items c.loop-waiting.all.items c.push.new.self.items c.in-Some.waiting c.read-found.result next c.in_ok-push.ensures.items c.read-found.ensures c.loop-waiting.invariant

pub returns : goal.returns
returns g c = λ sources are.
    let rest = c.loop-waiting.waiting-iterator.rest.items in
    let none : rest ≡ [] = (let long : length rest ≡ 0 = first_of (omega (arith, c.in-None.ensures.steps.0, c.loop-waiting.waiting-iterator.rest.ok), grind (arith, common_steps, c.in-None.ensures.steps.0, c.loop-waiting.waiting-iterator.rest.ok), search rules) in nil_from_length rest long) in
    are_read c.args.edition sources c.args.wave.items c.loop-waiting.all.items (all_made (IsReadOf c.args.edition) c.args.wave.items rest c.loop-waiting.all.items none c.loop-waiting.invariant) are
