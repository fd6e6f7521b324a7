use Rattle.std.proofs.lemmas.List.{nil_from_length}
use Rattle.std.proofs.lemmas.Grind.{common_steps}
use Rattle.std.proofs.Common.{rules, ◌≡◌, ◌∷◌, [], List, ℕ, length, ap, sym, subst, arith, string_bytes}
use Rattle.ws_graph.specs.BuildPlan.{HasNoFiles}
use Rattle.ws_graph.specs.Discovery.{held_sources, string_texts, IsWaitingAt}
use Rattle.ws_graph.proofs.First.{SameAs, first_begun, first_more, first_lacks, first_done}
use Rattle.ws_graph.proofs.planning.first_wave.Goals as goal

pub loop-path-init : goal.loop-path-init
loop-path-init c = first_begun (held_sources c.args.registers.now) (string_texts c.args.targets.now) (string_texts c.into_iter-path-iterator.result.rest.items) c.new-wave.result.items c.new-wave.ensures.items
    (subst (λ l. SameAs (string_texts l) (string_texts c.args.targets.now)) (sym c.into_iter-path-iterator.ensures.into_iter_gives.0) c.in_ok-paths.ensures)

pub loop-path-preserved : goal.loop-path-preserved
loop-path-preserved c =
    let sources = held_sources c.args.registers.now in
    let rest : c.loop-path.path-iterator.rest.items ≡ c.in-Some.path ∷ c.next.new.self.rest.items = search rules in
    let shown : c.as_str.result.now ≡ string_bytes c.in-Some.path = search rules in
    let at : IsWaitingAt sources c.as_str.result.now c.in-Some-2.waiting = search rules in
    first_more sources (string_texts c.args.targets.now) (string_texts c.loop-path.path-iterator.rest.items) (string_texts c.next.new.self.rest.items) c.loop-path.wave.items c.push.new.self.items (string_bytes c.in-Some.path) c.in-Some-2.waiting (ap string_texts rest)
    (subst (λ (p : List ℕ). IsWaitingAt sources p c.in-Some-2.waiting) shown at) c.in_ok-push.ensures.items c.loop-path.invariant

pub returns-in_default : goal.returns-in_default
returns-in_default c =
    let rest : c.loop-path.path-iterator.rest.items ≡ c.in-Some.path ∷ c.next.new.self.rest.items = search rules in
    let shown : c.as_str.result.now ≡ string_bytes c.in-Some.path = search rules in
    let none : HasNoFiles (held_sources c.args.registers.now) c.as_str.result.now = search rules in
    first_lacks (held_sources c.args.registers.now) (string_texts c.args.targets.now) (string_texts c.loop-path.path-iterator.rest.items) (string_texts c.next.new.self.rest.items) c.loop-path.wave.items (string_bytes c.in-Some.path) (ap string_texts rest)
    (subst (HasNoFiles (held_sources c.args.registers.now)) shown none) c.loop-path.invariant

pub returns : goal.returns
returns c =
    let rest = c.loop-path.path-iterator.rest.items in
    let none : rest ≡ [] = (let long : length rest ≡ 0 = first_of (omega (arith, c.in-None.ensures.steps.0, c.loop-path.path-iterator.rest.ok), grind (arith, common_steps, c.in-None.ensures.steps.0, c.loop-path.path-iterator.rest.ok), search rules) in nil_from_length rest long) in
    first_done (held_sources c.args.registers.now) (string_texts c.args.targets.now) (string_texts rest) c.loop-path.wave.items (ap string_texts none) c.loop-path.invariant
