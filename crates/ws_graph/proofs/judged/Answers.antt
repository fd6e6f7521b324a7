use Rattle.std.proofs.Common.{rules, ◌≡◌, ◌∷◌}
use Rattle.go_text.specs.declared.fault.FaultKind.TheVariants.{PackageName}
use Rattle.ws_graph.specs.Plan.{AllNamed, HasOther}
use Rattle.ws_graph.proofs.Judging.{judged_sound, judged_faulty}
use Rattle.ws_graph.proofs.judged.Goals as goal

pub returns-in_default-first_other-clause-ok : goal.returns-in_default-first_other-clause-ok
returns-in_default-first_other-clause-ok c = λ ed files parses.
    let is : c.args.parsed.items ≡ c.in-Some.first.now ∷ c.in-Some.rest.now = search rules in
    let named : AllNamed c.package.result.now.text c.in-Some.rest.now = search rules in
    judged_sound ed files c.in-Some.first.now c.in-Some.rest.now c.args.parsed.items c.package.result.now is c.package.ensures named parses

pub returns-clause-ok : goal.returns-clause-ok
returns-clause-ok c = λ ed files parses.
    let is : c.args.parsed.items ≡ c.in-Some.first.now ∷ c.in-Some.rest.now = search rules in
    let has : HasOther c.package.result.now.text c.in-Some.rest.now c.in-Some-first_other.other.now = search rules in
    let said : c.new.result ≡ record { file = c.in-Some-first_other.other.now.name; place = c.package-2.result.now.place; kind = PackageName } = search rules in
    judged_faulty ed files c.in-Some.first.now c.in-Some-first_other.other.now c.in-Some.rest.now c.args.parsed.items c.package.result.now c.package-2.result.now c.new.result is c.package.ensures has c.package-2.ensures said parses
