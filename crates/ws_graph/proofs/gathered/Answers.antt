use Rattle.std.proofs.lemmas.List.{nil_from_length}
use Rattle.std.proofs.lemmas.Grind.{common_steps}
use Rattle.std.proofs.Common.{rules, ◌≡◌, ◌∷◌, [], length, arith}
use Rattle.ws_graph.proofs.Reading.{parsed_begun, one_parsed_more, all_parsed, one_stops}
use Rattle.ws_graph.proofs.gathered.Goals as goal

pub loop-parsed-init : goal.loop-parsed-init
loop-parsed-init c = λ ed files come. parsed_begun ed files c.new-all.result.items c.args.each.items c.into_iter-parsed-iterator.result.rest.items c.new-all.ensures.items c.into_iter-parsed-iterator.ensures.into_iter_gives.0 come

pub loop-parsed-preserved : goal.loop-parsed-preserved
loop-parsed-preserved c = λ ed files come.
    let rest : c.loop-parsed.parsed-iterator.rest.items ≡ c.in-Some.parsed ∷ c.next.new.self.rest.items = search rules in
    one_parsed_more ed files c.loop-parsed.all.items c.push.new.self.items c.in_ok-parsed.field-0 c.loop-parsed.parsed-iterator.rest.items c.next.new.self.rest.items c.in-Some.parsed c.in_ok-push.ensures.items rest (search rules) (c.loop-parsed.invariant ed files come)

pub returns-clause-ok : goal.returns-clause-ok
returns-clause-ok c = λ ed files come.
    let rest = c.loop-parsed.parsed-iterator.rest.items in
    let none : rest ≡ [] = (let long : length rest ≡ 0 = first_of (omega (arith, c.in-None.ensures.steps.0, c.loop-parsed.parsed-iterator.rest.ok), grind (arith, common_steps, c.in-None.ensures.steps.0, c.loop-parsed.parsed-iterator.rest.ok), search rules) in nil_from_length rest long) in
    all_parsed ed files c.loop-parsed.all.items rest none (c.loop-parsed.invariant ed files come)

pub returns-in_err-parsed-clause-stopped : goal.returns-in_err-parsed-clause-stopped
returns-in_err-parsed-clause-stopped c = λ ed files fault come is.
    let rest : c.loop-parsed.parsed-iterator.rest.items ≡ c.in-Some.parsed ∷ c.next.new.self.rest.items = search rules in
    one_stops ed files c.loop-parsed.all.items c.loop-parsed.parsed-iterator.rest.items c.next.new.self.rest.items c.in-Some.parsed fault rest (search rules) (c.loop-parsed.invariant ed files come)
