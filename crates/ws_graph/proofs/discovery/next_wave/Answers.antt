use Rattle.std.proofs.lemmas.List.{nil_from_length}
use Rattle.std.proofs.lemmas.Grind.{common_steps}
use Rattle.std.proofs.Common.{rules, ◌≡◌, ℕ, List, ◌∷◌, [], length, ap, ◌∙◌, subst, arith, string_bytes}
use Rattle.std.proofs.lemmas.List.Filters.{dedup_is}
use Rattle.ws_graph.specs.Discovery.{held_sources, string_texts, met_paths, AddsUnmet}
use Rattle.ws_graph.proofs.Named.{texts_kept}
use Rattle.ws_graph.proofs.Next.{next_begun, next_more, next_done}
use Rattle.ws_graph.proofs.discovery.next_wave.Goals as goal

pub loop-path-init : goal.loop-path-init
loop-path-init c = next_begun (held_sources c.args.registers.now) (met_paths c.args.met.now.entries) (string_texts c.args.imported.items) (string_texts c.into_iter-path-iterator.result.rest.items) c.new-wave.result.items c.new-wave.ensures.items
    (λ p. texts_kept c.args.imported.items c.sort.new.self.items c.into_iter-path-iterator.result.rest.items p c.sort.ensures.permutation (c.into_iter-path-iterator.ensures.into_iter_gives.0 ∙ dedup_is _ _ _ c.dedup.ensures.filtered))

pub loop-path-preserved : goal.loop-path-preserved
loop-path-preserved c =
    let sources = held_sources c.args.registers.now in
    let met = met_paths c.args.met.now.entries in
    let rest : c.loop-path.path-iterator.rest.items ≡ c.in-Some.path ∷ c.next.new.self.rest.items = search rules in
    let shown : c.as_str.result.now ≡ string_bytes c.in-Some.path = search rules in
    next_more sources met (string_texts c.args.imported.items) (string_texts c.loop-path.path-iterator.rest.items) (string_texts c.next.new.self.rest.items) c.loop-path.wave.items c.add_unmet.new.wave.items (string_bytes c.in-Some.path) (ap string_texts rest)
    (subst (λ (p : List ℕ). AddsUnmet sources met p c.loop-path.wave.items c.add_unmet.new.wave.items) shown c.in_ok-add_unmet.ensures) c.loop-path.invariant

pub returns : goal.returns
returns c =
    let rest = c.loop-path.path-iterator.rest.items in
    let none : rest ≡ [] = (let long : length rest ≡ 0 = first_of (omega (arith, c.in-None.ensures.steps.0, c.loop-path.path-iterator.rest.ok), grind (arith, common_steps, c.in-None.ensures.steps.0, c.loop-path.path-iterator.rest.ok), search rules) in nil_from_length rest long) in
    next_done (held_sources c.args.registers.now) (met_paths c.args.met.now.entries) (string_texts c.args.imported.items) (string_texts rest) c.loop-path.wave.items (ap string_texts none) c.loop-path.invariant
