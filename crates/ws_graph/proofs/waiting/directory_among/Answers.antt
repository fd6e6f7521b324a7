use Rattle.std.proofs.lemmas.List.{nil_from_length}
use Rattle.std.proofs.lemmas.Grind.{common_steps}
use Rattle.std.proofs.Common.{rules, ◌≡◌, ◌∷◌, [], false, length, ap, sym, ◌∙◌, arith, string_bytes}
use Rattle.ws_register.specs.Sources.{is_in}
use Rattle.ws_register.specs.Texted.{texted}
use Rattle.ws_graph.specs.Packages.{package_files}
use Rattle.ws_graph.proofs.Filed.{files_beside}
use Rattle.ws_graph.proofs.waiting.directory_among.Goals as goal

pub loop-source-preserved : goal.loop-source-preserved
loop-source-preserved c =
    let path = c.args.path.now in
    let next = c.next.new.self.rest.items in
    let rest : c.loop-source.source-iterator.rest.items ≡ c.in-Some.source ∷ next = search rules in
    let out : is_in path (string_bytes c.in-Some.source.0) ≡ false = search rules in
    sym (files_beside path (string_bytes c.in-Some.source.0, c.in-Some.source.1) (texted next) out) ∙ ap (λ l. package_files path (texted l)) (sym rest) ∙ c.loop-source.invariant

pub returns : goal.returns
returns c =
    let rest = c.loop-source.source-iterator.rest.items in
    let none : rest ≡ [] = (let long : length rest ≡ 0 = first_of (omega (arith, c.in-None.ensures.steps.0, c.loop-source.source-iterator.rest.ok), grind (arith, common_steps, c.in-None.ensures.steps.0, c.loop-source.source-iterator.rest.ok), search rules) in nil_from_length rest long) in
    sym c.loop-source.invariant ∙ ap (λ l. package_files c.args.path.now (texted l)) none
