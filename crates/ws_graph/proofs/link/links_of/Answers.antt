use Rattle.std.proofs.Common.{List, ℕ, sym, subst}
use Rattle.std.specs.Global.{Vec}
use Rattle.std.specs.List.{AllZip}
use Rattle.ws_reach.specs.Reach.{EdgesStayWithin, rows_of}
use Rattle.ws_graph.specs.Discovery.{AreNumbersOf}
use Rattle.ws_graph.proofs.Within.{rows_within}
use Rattle.ws_graph.proofs.link.links_of.Goals as goal

pub closing_edges-requires : goal.closing_edges-requires
closing_edges-requires c =
    let rows : AllZip AreNumbersOf c.in_ok-targets.targets.items c.in_ok-rows.rows.items = subst (λ ts. AllZip AreNumbersOf ts c.in_ok-rows.rows.items) c.as_slice.ensures.value c.in_ok-rows.ensures in
    subst (λ (rs : List (Vec ℕ)). EdgesStayWithin (rows_of rs)) (sym c.as_slice-2.ensures.value)
    (rows_within c.args.paths.now c.args.founds.now c.in_ok-targets.targets.items c.in_ok-rows.rows.items c.requires.length c.in_ok-targets.ensures rows)

pub returns : goal.returns
returns c =
    let shown = c.as_slice-2.ensures.value in
    record {
      targets = c.in_ok-targets.ensures;
      rows = subst (λ ts. AllZip AreNumbersOf ts c.in_ok-rows.rows.items) c.as_slice.ensures.value c.in_ok-rows.ensures;
      closing = rw shown at c.in_ok-closing.ensures;
      programs = c.in_ok-programs.ensures;
    }
