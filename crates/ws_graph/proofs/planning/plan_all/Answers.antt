use Rattle.std.proofs.Common.{rules, ◌≡◌, sym, ◌∙◌, subst, refl}
use Rattle.std.specs.BTreeMap.{keys}
use Rattle.std.specs.List.Sorted.{IsStrictlySortedBy}
use Rattle.ws_version.specs.Writes.{path_cmp}
use Rattle.ws_graph.specs.Discovery.{held_sources, string_texts, waiting_paths, met_paths, AreAll, IsFirstWave, LacksFiles}
use Rattle.ws_graph.proofs.Joint.{joint_same}
use Rattle.ws_graph.proofs.planning.plan_all.Goals as goal

pub linked-requires-clause-ascending : goal.linked-requires-clause-ascending
linked-requires-clause-ascending g c = subst (λ l. IsStrictlySortedBy path_cmp (string_texts l)) (sym (c.as_slice.ensures.value ∙ c.in_ok-paths.ensures.paths)) c.in_ok-met.ensures.ascending

pub returns-in_default-clause-none : goal.returns-in_default-clause-none
returns-in_default-clause-none g c = λ W stands is.
    let sources = held_sources c.args.registers.now in
    let lacks : LacksFiles sources (string_texts c.args.targets.now) = search rules in
    (lacks.0, lacks.1, (sources, (c.args.registers.now, stands, refl), lacks.2))

pub returns-clause-ok : goal.returns-clause-ok
returns-clause-ok g c = λ W stands.
    let sources = held_sources c.args.registers.now in
    let wave : IsFirstWave sources (string_texts c.args.targets.now) c.in-Some.first.items = search rules in
    let first = waiting_paths c.in-Some.first.items in
    let paths : c.as_slice.result.now ≡ keys c.in_ok-met.met = c.as_slice.ensures.value ∙ c.in_ok-paths.ensures.paths in
    let here : AreAll c.args.edition sources first (string_texts c.as_slice.result.now) c.in_ok-paths.founds.items =
    subst (λ ps. AreAll c.args.edition sources first (string_texts ps) c.in_ok-paths.founds.items) (sym paths) (subst (AreAll c.args.edition sources first (met_paths c.in_ok-met.met.entries)) (sym c.in_ok-paths.ensures.founds) c.in_ok-met.ensures) in
    (sources, (c.args.registers.now, stands, refl), joint_same c.args.edition sources first (string_texts c.args.targets.now) _ wave.are (c.in_ok-directories.ensures c.args.edition sources first here))
