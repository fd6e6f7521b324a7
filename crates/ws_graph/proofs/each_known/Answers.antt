use Rattle.std.proofs.lemmas.List.{nil_from_length}
use Rattle.std.proofs.lemmas.Grind.{common_steps}
use Rattle.std.proofs.Common.{rules, ◌≡◌, ◌∷◌, [], length, arith}
use Rattle.ws_graph.specs.Discovery.{ParsesTo}
use Rattle.ws_graph.proofs.InTurn.{made_begun, one_made, all_made}
use Rattle.ws_graph.proofs.each_known.Goals as goal

pub loop-source-init : goal.loop-source-init
loop-source-init c = made_begun (ParsesTo c.args.edition) c.args.files.items c.into_iter-source-iterator.result.rest.items c.new-each.result.items c.into_iter-source-iterator.ensures.into_iter_gives.0 c.new-each.ensures.items

pub loop-source-preserved : goal.loop-source-preserved
loop-source-preserved c =
    let left = c.loop-source.source-iterator.rest.items in
    let next : left ≡ c.in-Some.source ∷ c.next.new.self.rest.items = search rules in
    one_made (ParsesTo c.args.edition) c.args.files.items left c.next.new.self.rest.items c.loop-source.each.items c.push.new.self.items c.in-Some.source c.parsed_file-parsed.result next c.in_ok-push.ensures.items c.parsed_file-parsed.ensures c.loop-source.invariant

pub returns : goal.returns
returns c =
    let rest = c.loop-source.source-iterator.rest.items in
    let none : rest ≡ [] = (let long : length rest ≡ 0 = first_of (omega (arith, c.in-None.ensures.steps.0, c.loop-source.source-iterator.rest.ok), grind (arith, common_steps, c.in-None.ensures.steps.0, c.loop-source.source-iterator.rest.ok), search rules) in nil_from_length rest long) in
    all_made (ParsesTo c.args.edition) c.args.files.items rest c.loop-source.each.items none c.loop-source.invariant
