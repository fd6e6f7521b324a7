use Rattle.std.proofs.Common.{rules, ◌≡◌, ◌∷◌, ◌∙◌, true, false, map, ap, sym, subst, inl, Err}
use Rattle.ws_register.specs.Sources.{pair_of}
use Rattle.ws_graph.specs.Packages.{package_files}
use Rattle.ws_graph.specs.Plan.{AreParsed, IsPlan, StopsIn}
use Rattle.ws_graph.specs.Node.{planned_of}
use Rattle.ws_graph.proofs.OnePlan.{stops_or_parses}
use Rattle.ws_graph.proofs.Mains.{program_iff}
use Rattle.ws_graph.proofs.wave.found_in.Goals as goal

pub returns-in-Ok-judged : goal.returns-in-Ok-judged
returns-in-Ok-judged g c = λ sources path exact.
    let parsed : AreParsed c.args.edition (map pair_of c.args.files.items) c.in-Ok.parsed.items = search rules in
    let here : AreParsed c.args.edition (package_files path sources) c.in-Ok.parsed.items = subst (λ fs. AreParsed c.args.edition fs c.in-Ok.parsed.items) exact parsed in
    let plan : IsPlan c.args.edition (package_files path sources) (planned_of c.in-Ok-judged.node) = (c.in-Ok-judged.ensures.ok c.args.edition (package_files path sources) here).0 in
    let both = program_iff c.args.edition sources path c.in-Ok.parsed.items here in
    let shown : c.as_slice.result.now ≡ c.in-Ok.parsed.items = c.as_slice.ensures.value in
    record {
      plan = plan;
      program = (λ e. both.0 (rw shown at (c.is_first_main-program.ensures.0 e)), λ h. c.is_first_main-program.ensures.1 (rw shown (both.1 h)));
    }

pub returns-in_ok-found-in-Err : goal.returns-in_ok-found-in-Err
returns-in_ok-found-in-Err g c = λ sources path exact.
    let s = c.in_ok-found-in-Err.ensures in
    let stops : StopsIn c.args.edition (map pair_of c.args.files.items) s.0 = c.parsed_files.ensures.stopped s.0 (c.in-Err.is ∙ ap Err s.1) in
    let here : StopsIn c.args.edition (package_files path sources) s.0 = subst (λ fs. StopsIn c.args.edition fs s.0) exact stops in
    record {
      plan = subst (IsPlan c.args.edition (package_files path sources)) (sym s.2) (inl here);
      program = (λ e. (let wrong : true ≡ false = sym e ∙ s.3 in cc (wrong)), λ h. absurd (stops_or_parses c.args.edition (package_files path sources) s.0 (h.first ∷ h.rest) here h.parses));
    }
