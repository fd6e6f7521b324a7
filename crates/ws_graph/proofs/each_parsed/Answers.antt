use Rattle.std.proofs.Common.{◌≡◌, ap, ◌∙◌, subst}
use denote.Param.Send.{sendable}
use Rattle.std.specs.List.{AllZip}
use Rattle.std.proofs.Crossing.{crosses}
use Rattle.rayon.specs.Lists.{vec_items}
use Rattle.rayon.proofs.ListFacts.{IfOk-then}
use Rattle.go_text.proofs.fault.Fault.TheSendSync as faults
use Rattle.go_text.proofs.source.Source.TheSendSync as sources
use Rattle.go_ast.proofs.Crossing.{parsed_send}
use Rattle.ws_graph.specs.Discovery.{ParsesTo}
use Rattle.ws_graph.proofs.each_parsed.Goals as goal

pub map-requires-send-U : goal.map-requires-send-U
map-requires-send-U g c κs = search (parsed_send, faults.the_send, sources.the_send, crosses, sendable) depth 30

pub collect-requires-send-Self-Item : goal.collect-requires-send-Self-Item
collect-requires-send-Self-Item g c κs within = search (parsed_send, faults.the_send, sources.the_send, crosses, sendable) depth 30

pub collect-requires-send-C : goal.collect-requires-send-C
collect-requires-send-C g c κs within = search (parsed_send, faults.the_send, sources.the_send, crosses, sendable) depth 30

pub returns : goal.returns
returns g c =
    let items = ap (λ it. vec_items it.base) c.map.ensures.base ∙ ap (λ it. vec_items it) c.with_min_len.ensures.base ∙ c.into_par_iter.ensures in
    IfOk-then c.collect.result _ _ c.collect.ensures (λ v h.
    let chain = h.1 in
    let base : chain.0 ≡ c.args.files.items = chain.1 ∙ items in
    rw h.2 (subst (λ l. AllZip (λ s r. ParsesTo c.args.edition s r) l h.0) base (rw c.map.ensures.f at chain.2)))
