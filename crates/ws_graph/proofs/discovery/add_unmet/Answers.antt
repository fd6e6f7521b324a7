use Rattle.std.proofs.Common.{rules, ◌≡◌, true, false, refl, sym, ◌∙◌, inl, inr}
use Rattle.ws_graph.specs.Discovery.{held_sources, met_paths, IsWaitingAt}
use Rattle.ws_graph.proofs.Inserted.{has_path, has_to, has_from}
use Rattle.ws_graph.proofs.Sorted.{one_of, contained}
use Rattle.ws_graph.proofs.discovery.add_unmet.Goals as goal

pub returns-then-contains_key : goal.returns-then-contains_key
returns-then-contains_key c = inr (inr (contained (met_paths c.args.met.now.entries) c.args.path.now (has_to c.args.path.now c.args.met.now.entries (sym c.contains_key.ensures ∙ c.if-contains_key.true))), refl)

pub returns : goal.returns
returns c =
    let met = c.args.met.now.entries in
    let path = c.args.path.now in
    let at : IsWaitingAt (held_sources c.args.registers.now) path c.in-Some.waiting = search rules in
    inl (
      c.in-Some.waiting,
      at,
      λ k. (
          let here : has_path path met ≡ true = has_from path met (one_of (met_paths met) path k) in
          let wrong : true ≡ false = sym here ∙ sym c.contains_key.ensures ∙ c.if-contains_key.false in cc (wrong)),
      c.in_ok-push.ensures.items,
    )
